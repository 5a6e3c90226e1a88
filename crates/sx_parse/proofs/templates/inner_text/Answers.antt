use Rattle.std.proofs.Common.{◌+◌, ◌∙◌, List, ℕ, ap, subst, drop}
use Rattle.std.proofs.lemmas.List.{take_rest}
use Rattle.sx_parse.specs.Templates.{IsClosedFront}
use Rattle.sx_parse.proofs.Braces.{inner_next}
use Rattle.sx_parse.proofs.templates.inner_text.Goals as goal

pub returns-in-Some : goal.returns-in-Some
returns-in-Some c =
    let text = c.args.text.now in
    let start = c.args.offset + 1 in
    let rest = take_rest c.as_bytes.result.now start ∙ ap (drop start) c.as_bytes.ensures.value in
    inner_next text c.args.offset c.in-Some.size c.utf8.text c.requires.opens c.requires.single (subst (λ (s : List ℕ). IsClosedFront s c.in-Some.size) rest c.in-Some.ensures)
