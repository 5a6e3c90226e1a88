use Rattle.std.proofs.Common.{◌≡◌, ◌∙◌, ◌+◌, ◌++◌, ℕ, List, ap, sym, subst, take, drop, arith}
use Rattle.std.proofs.lemmas.List.{take_rest}
use Rattle.std.specs.Char.{encode_utf8, len_utf8}
use Rattle.sx_esis.specs.Replacing.{ReadsCharacter, comes_to}
use Rattle.sx_esis.proofs.ReplaceLemmas.{put_comes}
use Rattle.sx_esis.proofs.escapes.replace_escape.Goals as goal

pub returns-clause-ok : goal.returns-clause-ok
returns-clause-ok c =
    let old = c.args.bytes.now in
    let new = c.put_character.new.bytes in
    let written = c.args.places.written in
    let read = c.args.places.read in
    let character = c.in_ok-escape.escape.character in
    let count = c.in_ok-escape.escape.count in
    let end = c.put_character.ensures.end in
    let reads : ReadsCharacter (drop (read + 1) old) character count = subst (λ (s : List ℕ). ReadsCharacter s character count) (take_rest old (read + 1)) c.in_ok-escape.ensures.ok in
    let front : take (written + len_utf8 character) new ≡ take written old ++ encode_utf8 character = ap (λ (n : ℕ). take n new) (sym end) ∙ c.put_character.ensures.front in
    let rest : drop (written + len_utf8 character) new ≡ drop (written + len_utf8 character) old =
    ap (λ (n : ℕ). drop n new) (sym end) ∙ c.put_character.ensures.rest ∙ ap (λ (n : ℕ). drop n old) end in (
      c.move_plain.ensures.cut,
      (let forward = c.move_plain.ensures.forward in omega arith),
      put_comes old new written read character count c.requires.cut c.requires.more reads front rest
          ∙ ap (λ (n : ℕ). comes_to new n (read + 1 + count)) (sym end)
          ∙ c.move_plain.ensures.same,
    )
