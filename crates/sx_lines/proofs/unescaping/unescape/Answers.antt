use Rattle.std.proofs.Common.{◌++◌, length, ◌<◌, sym, ap, ◌∙◌, arith}
use Rattle.std.proofs.lemmas.Bool.Decides.{nat_tests}
use Rattle.sx_lines.specs.Print.{escape}
use Rattle.sx_lines.proofs.Escapes.{longer_text, no_more_text}
use Rattle.sx_lines.proofs.unescaping.unescape.Goals as goal

pub loop-rest-preserved : goal.loop-rest-preserved
loop-rest-preserved c =
    let out = c.loop-rest.out.items in
    ap (λ l. escape l ++ c.in-Some.behind.now) c.in_ok-push-in-Some.ensures.items
    ∙ longer_text out c.in-Some.byte c.in-Some.behind.now c.loop-rest.rest.now c.in-Some.ensures ∙ c.loop-rest.invariant

pub returns-in-None-clause-none : goal.returns-in-None-clause-none
returns-in-None-clause-none c = λ s e.
    let some : 0 < length c.loop-rest.rest.now = grind (arith, nat_tests, c.loop-rest-test.ensures) in no_more_text c.loop-rest.out.items s c.loop-rest.rest.now some c.in-None.ensures (e ∙ sym c.loop-rest.invariant)
