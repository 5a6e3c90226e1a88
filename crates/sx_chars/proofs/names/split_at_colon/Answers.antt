use Rattle.std.proofs.Common.{◌≡◌, ◌∙◌, Some, None, List, ℕ, sym, ap, take, arith}
use Rattle.std.proofs.lemmas.Str.{IsCharBoundary-before_ascii, IsCharBoundary-after_ascii}
use Rattle.std.specs.List.{position}
use Rattle.sx_chars.proofs.Places.{is_colon, colon_byte, colon_parts, colon_none}
use Rattle.sx_chars.proofs.names.split_at_colon.Goals as goal

pub range-requires-clause-end_boundary : goal.range-requires-clause-end_boundary
range-requires-clause-end_boundary c =
    let text = c.args.text.now in
    let found : Some c.in-Some.place ≡ position is_colon text = sym c.in-Some.is ∙ c.colon_place.ensures ∙ ap (position is_colon) c.as_bytes.ensures.value in
    let byte = colon_byte text c.in-Some.place found in
    IsCharBoundary-before_ascii text c.in-Some.place byte.0 (let e = byte.1 in omega arith)

pub range_from-requires : goal.range_from-requires
range_from-requires c =
    let text = c.args.text.now in
    let found : Some c.in-Some.place ≡ position is_colon text = sym c.in-Some.is ∙ c.colon_place.ensures ∙ ap (position is_colon) c.as_bytes.ensures.value in
    let byte = colon_byte text c.in-Some.place found in
    λ _. IsCharBoundary-after_ascii text c.in-Some.place c.utf8.text byte.0 (let e = byte.1 in omega arith)

pub returns-in-None : goal.returns-in-None
returns-in-None c =
    let text = c.args.text.now in
    let none : None ≡ position is_colon text = sym c.in-None.is ∙ c.colon_place.ensures ∙ ap (position is_colon) c.as_bytes.ensures.value in
    colon_none text none

pub returns-in-Some : goal.returns-in-Some
returns-in-Some c =
    let text = c.args.text.now in
    let found : Some c.in-Some.place ≡ position is_colon text = sym c.in-Some.is ∙ c.colon_place.ensures ∙ ap (position is_colon) c.as_bytes.ensures.value in
    let parts = colon_parts text c.in-Some.place found in (
      parts.0 ∙ ap (λ (t : List ℕ). Some t) (sym c.range_from.ensures.value),
      c.range.ensures.value ∙ ap (λ (n : ℕ). take n text) (omega arith) ∙ parts.1,
    )
