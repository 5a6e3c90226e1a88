-- Tables of texts, and the words_by_text.
use Rattle.std.proofs.Common.{◌≡◌, ℕ, Bool, true, false, cond, eqb, List, [], ◌∷◌, map, Option, Some, None, refl, ap, sym, ◌∙◌, ◌||◌}
use Rattle.std.specs.Prelude.{bytes_eq}
use Rattle.std.proofs.lemmas.Bool.{false≢true}
use Rattle.std.specs.Option.{unwrap_or}
use Rattle.std.specs.Prelude.{is_some}
use Rattle.std.specs.List.{list_any}
use Rattle.sx_chars.specs.Names.{behind}
use Rattle.sx_parse.specs.Lexemes.{found, words_by_text, word_with, word_of}
use Rattle.sx_parse.specs.Checks.{fn_uri, xs_uri, functions, constructors, function_named}
use Rattle.sx_parse.specs.declared.lexemes.Word.{Word}
use Rattle.sx_parse.specs.declared.lexemes.Word.TheVariants as word

-- what stands in a table, or else another thing
pub found_or : {X : Type 0} (rows : List (List ℕ × X)) (text : List ℕ) (x : X)
    → unwrap_or (found (map (λ row. (row.0, Some row.1)) rows) text None) x ≡ found rows text x
unfolding found
found_or [] text x = refl
found_or {X = X} (row ∷ rows) text x = by (bytes_eq row.0 text) (found_or rows text x)
  where
    rest : Option X
    rest = found (map (λ row. (row.0, Some row.1)) rows) text None

    by : (v : Bool) → unwrap_or rest x ≡ found rows text x → unwrap_or (cond v (Some row.1) rest) x ≡ cond v row.1 (found rows text x)
    by true further = refl
    by false further = further

-- where a byte is not among others, nothing stands behind it
pub behind_none : (mark : ℕ) (text : List ℕ) → list_any (λ y. eqb y mark) text ≡ false → behind mark text ≡ None
behind_none mark [] none = refl
behind_none mark (b ∷ bs) none = by (eqb b mark) none (behind_none mark bs)
  where
    by : (v : Bool) → v || list_any (λ y. eqb y mark) bs ≡ false → (list_any (λ y. eqb y mark) bs ≡ false → behind mark bs ≡ None) → cond v (Some bs) (behind mark bs) ≡ None
    by true none further = absurd (false≢true (sym none))
    by false none further = further none

-- where a byte is among others, something stands behind it
pub behind_some : (mark : ℕ) (text : List ℕ) → list_any (λ y. eqb y mark) text ≡ true → is_some (behind mark text) ≡ true
behind_some mark [] some = absurd (false≢true some)
behind_some mark (b ∷ bs) some = by (eqb b mark) some (behind_some mark bs)
  where
    by : (v : Bool) → v || list_any (λ y. eqb y mark) bs ≡ true → (list_any (λ y. eqb y mark) bs ≡ true → is_some (behind mark bs) ≡ true) → is_some (cond v (Some bs) (behind mark bs)) ≡ true
    by true some further = refl
    by false some further = further some

pub word_prefixed : (text : List ℕ) → list_any (λ y. eqb y 58) text ≡ true → word.Prefixed ≡ word_of text
word_prefixed text some = by (behind 58 text) (behind_some 58 text some)
  where
    by : (o : Option (List ℕ)) → is_some o ≡ true → word.Prefixed ≡ word_with text o
    by (Some local) some = refl
    by None some = absurd (false≢true some)

pub word_plain : (text : List ℕ) (w : Word) → list_any (λ y. eqb y 58) text ≡ false → w ≡ found words_by_text text word.Other → w ≡ word_of text
word_plain text w none is = is ∙ ap (word_with text) (sym (behind_none 58 text none))

-- the functions of the namespace of functions, and those of the namespace of types
pub function_fn : (uri local : List ℕ) → bytes_eq uri fn_uri ≡ true → function_named uri local ≡ found functions local None
function_fn uri local same = ap (λ (v : Bool). cond v (found functions local None) (cond (bytes_eq uri xs_uri) (found constructors local None) None)) same

pub function_xs : (uri local : List ℕ) → bytes_eq uri fn_uri ≡ false → bytes_eq uri xs_uri ≡ true → function_named uri local ≡ found constructors local None
function_xs uri local other same =
    ap (λ (v : Bool). cond v (found functions local None) (cond (bytes_eq uri xs_uri) (found constructors local None) None)) other
    ∙ ap (λ (v : Bool). cond v (found constructors local None) None) same
