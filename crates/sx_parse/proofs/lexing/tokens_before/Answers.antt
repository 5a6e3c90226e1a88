use Rattle.std.proofs.Common.{◌≡◌, ◌∙◌, ℕ, List, take, ap, sym, subst, arith}
use Rattle.sx_lex.specs.Tokens.{AreTokens}
use Rattle.sx_lex.proofs.Breaks.{front_tokens, front_breaks, front_cut}
use Rattle.sx_lex.proofs.Unique.{whole_or_broken}
use Rattle.sx_parse.proofs.lexing.tokens_before.Goals as goal

pub range-requires-clause-end_boundary : goal.range-requires-clause-end_boundary
range-requires-clause-end_boundary c = front_cut c.args.text.now c.args.offset c.utf8.text c.requires.breaks

pub unreachable-requires : goal.unreachable-requires
unreachable-requires c =
    let text = c.args.text.now in
    let offset = c.args.offset in
    let broken = c.requires.breaks in
    let front : c.range.result.now ≡ take offset text = c.range.ensures.value ∙ ap (λ (n : ℕ). take n text) (omega arith) in
    let fault = rw c.in-Err.is at c.in_ok-tokens.ensures.fault in
    whole_or_broken broken.0 fault.0 0 c.range.result.now c.in-Err.field-0.offset
    (subst (λ (t : List ℕ). AreTokens 0 t broken.0) (sym front) (front_tokens text broken.0 offset c.utf8.text broken.1)) fault.1

pub returns : goal.returns
returns c =
    let text = c.args.text.now in
    let offset = c.args.offset in
    let front : c.range.result.now ≡ take offset text = c.range.ensures.value ∙ ap (λ (n : ℕ). take n text) (omega arith) in
    front_breaks text c.in-Ok.tokens offset c.utf8.text c.requires.breaks
    (subst (λ (t : List ℕ). AreTokens 0 t c.in-Ok.tokens) front (rw c.in-Ok.is at c.in_ok-tokens.ensures.tokens))
