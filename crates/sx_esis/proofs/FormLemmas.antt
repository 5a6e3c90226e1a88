-- What the form of a line says of its bytes.
use Rattle.std.proofs.Common.{◌≡◌, ℕ, suc, ◌+◌, ◌-◌, ◌<◌, ◌≤◌, min, Bool, true, false, not, List, ◌∷◌, ◌++◌, length, take, drop, get_or, Some, None, Result, Ok, Err, refl, ap, sym, ◌∙◌, subst, cond, ltb, arith, length-append, length-take, length-drop}
use Rattle.std.proofs.lemmas.Bool.{eqb-true}
use Rattle.std.proofs.lemmas.Bool.Decides.{nat_tests}
use Rattle.std.proofs.lemmas.List.{drop_all, drop-drop, drop_at, take-append-le, take-take}
use Rattle.std.proofs.lemmas.Slice.{between_is}
use Rattle.std.proofs.lemmas.List.Sums.{passes_at_first, prefix_len-le-length}
use Rattle.std.proofs.lemmas.Str.{IsCharBoundary-before_ascii, IsCharBoundary-after_ascii, IsCharBoundary-end, IsUtf8-take, IsUtf8-drop}
use Rattle.std.specs.List.{position_or_len, slice_range}
use Rattle.std.specs.Str.{IsUtf8, IsCharBoundary, bytes_eq}
use Rattle.std.specs.Prelude.{codes}
use Rattle.sx_chars.specs.Names.{before, behind, is_qname}
use Rattle.sx_chars.proofs.Places.{is_mark, before_is, behind_place, behind_none}
use Rattle.sx_esis.specs.Escapes.{unescape}
use Rattle.sx_esis.specs.Buffered.{HasUnescaped}
use Rattle.sx_esis.specs.Lines.{Line, has, lacks, with_text, or_empty, is_type, attribute, attribute_with, line_of, line_within}
use Rattle.sx_esis.proofs.TextLemmas.{unescaped_text}
use Rattle.sx_esis.specs.Forms.{Fits, HasValueAt, IsImplied, says_in, says_with, text_start}
use Rattle.sx_esis.specs.declared.faults.LineWhich.{LineWhich}
use Rattle.sx_esis.specs.declared.faults.LineWhich.TheVariants as which
use Rattle.sx_esis.specs.declared.form.Form.{Form}
use Rattle.sx_esis.specs.declared.form.Form.TheVariants.{Start, End, Text, Pi, Attr, Implied, Conforming, Skipped}

-- a text up to its first space, and what stands behind that
module _ (s : List ℕ) (n : ℕ) (text : IsUtf8 s) (is : n ≡ position_or_len (is_mark 32) s) where
  most : n ≤ length s
  most = let h : position_or_len (is_mark 32) s ≤ length s = prefix_len-le-length (λ b. not (is_mark 32 b)) s in omega arith

  pub front : take n s ≡ before 32 s
  front = ap (λ (m : ℕ). take m s) is ∙ sym (before_is 32 s)

  space : n < length s → get_or s n 0 ≡ 32
  space within = eqb-true (get_or s n 0) 32 (ap (λ (m : ℕ). is_mark 32 (get_or s m 0)) is ∙ passes_at_first (is_mark 32) s 0 (omega arith))

  pub at_space : IsCharBoundary s n
  at_space = at (ltb n (length s)) refl
    where
      at : (within : Bool) → ltb n (length s) ≡ within → IsCharBoundary s n
      at true e = let below : n < length s = grind (arith, nat_tests) in IsCharBoundary-before_ascii s n below (let b = space below in omega arith)
      at false e = let same : length s ≡ n = let h = most in grind (arith, nat_tests) in subst (λ (m : ℕ). IsCharBoundary s m) same (IsCharBoundary-end s)

  pub behind_space : n < length s → IsCharBoundary s (n + 1)
  behind_space within = IsCharBoundary-after_ascii s n text within (let b = space within in omega arith)

  -- what stands behind the space, or nothing
  pub rest_at : (IsCharBoundary s (min (n + 1) (length s))) × (drop (min (n + 1) (length s)) s ≡ or_empty (behind 32 s))
  rest_at = at (ltb n (length s)) refl
    where
      at : (within : Bool) → ltb n (length s) ≡ within → (IsCharBoundary s (min (n + 1) (length s))) × (drop (min (n + 1) (length s)) s ≡ or_empty (behind 32 s))
      at true e =
          let below : n < length s = grind (arith, nat_tests) in
          let place : n + 1 ≡ min (n + 1) (length s) = omega arith in (
            subst (λ (m : ℕ). IsCharBoundary s m) place (behind_space below),
            ap (λ (m : ℕ). drop m s) (sym place) ∙ sym (ap or_empty (behind_place 32 s n is below)),
          )
      at false e =
          let past : length s ≤ n = grind (arith, nat_tests) in
          let place : length s ≡ min (n + 1) (length s) = omega arith in (
            subst (λ (m : ℕ). IsCharBoundary s m) place (IsCharBoundary-end s),
            ap (λ (m : ℕ). drop m s) (sym place) ∙ drop_all (length s) s (omega arith) ∙ sym (ap or_empty (behind_none 32 s n is past)),
          )

-- what stands behind the name of an attribute
module _ (rest : List ℕ) (n : ℕ) (text : IsUtf8 rest) (is : n ≡ position_or_len (is_mark 32) rest) (some : bytes_eq rest (codes "IMPLIED") ≡ false) where
  pub no_type : is_type (take n rest) ≡ false → (name : List ℕ) → attribute_with name (Some rest) ≡ Err which.BadAttr
  no_type none name =
      let found : Result Line LineWhich = with_text (has name) (unescape (or_empty (behind 32 rest))) in
      ap (λ (v : Bool). cond v (Ok (lacks name)) (cond (is_type (before 32 rest)) found (Err which.BadAttr))) some
      ∙ ap (λ (v : Bool). cond v found (Err which.BadAttr)) (ap is_type (sym (front rest n text is)) ∙ none)

  pub has_value : is_type (take n rest) ≡ true → HasValueAt rest (min (n + 1) (length rest))
  has_value kind = record {
    some = some;
    kind = ap is_type (sym (front rest n text is)) ∙ kind;
    within = omega arith;
    value = (rest_at rest n text is).1;
  }

with_same : (f g : List ℕ → Line) (r : Result (List ℕ) LineWhich) → ((t : List ℕ) → f t ≡ g t) → with_text f r ≡ with_text g r
with_same f g (Ok t) same = ap (λ (l : Line). Ok l) (same t)
with_same f g (Err w) same = refl

-- a line whose front stays while its text is unescaped
module _ (s text : List ℕ) (start : ℕ) (within : start ≤ length s) where
  front_count : length (take start s) ≡ start
  front_count = omega (arith, length-take start s)

  pub text_is : drop start (take start s ++ text) ≡ text
  text_is = drop_at (take start s) text start front_count

  pub new_length : length (take start s ++ text) ≡ start + length text
  new_length = omega (arith, length-append (take start s) text, front_count)

  pub part_stays : (n : ℕ) → 1 ≤ n → n ≤ start → slice_range (take start s ++ text) 1 n ≡ slice_range s 1 n
  part_stays n low high =
      between_is (take start s ++ text) 1 n
      ∙ ap (drop 1) (take-append-le n (take start s) text (omega (arith, front_count)) ∙ take-take n start s high)
      ∙ sym (between_is s 1 n)

text_fits : (s text : List ℕ) (start : ℕ) → (1 ≤ length s) × IsUtf8 (drop 1 s) → Some 1 ≡ Some start → IsUtf8 text → (1 ≤ length (take start s ++ text)) × IsUtf8 (drop 1 (take start s ++ text))
text_fits s text start fits is utf8 =
    let same : 1 ≡ start = cc in
    let within : start ≤ length s = let some = fits.0 in omega arith in (
      (omega (arith, new_length s text start within)),
      subst IsUtf8 (sym (ap (λ (m : ℕ). drop m (take start s ++ text)) same ∙ text_is s text start within)) utf8,
    )

-- a line that has a form has it without its escapes too
pub fits_unescaped : (form : Form) (s text : List ℕ) (start : ℕ) → Fits form s → text_start form ≡ Some start → IsUtf8 text → Fits form (take start s ++ text)
fits_unescaped Start s text start fits is utf8 = cc
fits_unescaped End s text start fits is utf8 = cc
fits_unescaped Text s text start fits is utf8 = text_fits s text start fits is utf8
fits_unescaped Pi s text start fits is utf8 = text_fits s text start fits is utf8
fits_unescaped (Attr name_end value_start) s text start fits is utf8 =
    let same : value_start ≡ start = cc in
    subst
    (λ (m : ℕ). (1 ≤ name_end) × (name_end ≤ m) × (m ≤ length (take start s ++ text)) × IsUtf8 (slice_range (take start s ++ text) 1 name_end) × IsUtf8 (drop m (take start s ++ text)))
    (sym same) (
      fits.0,
      (let order = fits.1 in omega arith),
      (let within = fits.2 in omega (arith, new_length s text start (omega arith))),
      subst IsUtf8 (sym (part_stays s text start (let within = fits.2 in omega arith) name_end fits.0 (let order = fits.1 in omega arith))) fits.3,
      subst IsUtf8 (sym (text_is s text start (let within = fits.2 in omega arith))) utf8,
    )
fits_unescaped (Implied name_end) s text start fits is utf8 = cc
fits_unescaped Conforming s text start fits is utf8 = cc
fits_unescaped Skipped s text start fits is utf8 = cc

-- the text of a line that has a form
text_utf8 : (form : Form) (s : List ℕ) (start : ℕ) → Fits form s → text_start form ≡ Some start → IsUtf8 (drop start s)
text_utf8 Start s start fits is = cc
text_utf8 End s start fits is = cc
text_utf8 Text s start fits is = let same : 1 ≡ start = cc in subst (λ (m : ℕ). IsUtf8 (drop m s)) same fits.1
text_utf8 Pi s start fits is = let same : 1 ≡ start = cc in subst (λ (m : ℕ). IsUtf8 (drop m s)) same fits.1
text_utf8 (Attr name_end value_start) s start fits is = let same : value_start ≡ start = cc in subst (λ (m : ℕ). IsUtf8 (drop m s)) same fits.4
text_utf8 (Implied name_end) s start fits is = cc
text_utf8 Conforming s start fits is = cc
text_utf8 Skipped s start fits is = cc

-- a line is read by its form once its escapes are replaced
pub line_read : (form : Form) (old new : List ℕ) (limit start : ℕ) → length old ≤ limit → line_of old ≡ says_with form old (text_start form) → Fits form old → text_start form ≡ Some start →
    HasUnescaped old start new → (line_within limit old ≡ Ok (says_in form new)) × Fits form new
line_read form old new limit start short says fits is done =
    let within : ltb limit (length old) ≡ false = grind (arith, nat_tests) in (
      ap (λ (v : Bool). cond v (Err which.Line) (line_of old)) within
          ∙ says
          ∙ ap (says_with form old) is
          ∙ ap (with_text (λ text. says_in form (take start old ++ text))) done.unescaped
          ∙ ap (λ (s : List ℕ). Ok (says_in form s)) (sym done.line),
      subst (Fits form) (sym done.line) (fits_unescaped form old done.text start fits is (unescaped_text (drop start old) done.text (text_utf8 form old start fits is) done.unescaped)),
    )

-- an attribute by what stands behind `A`: its name up to the first space, and the rest
module _ (s : List ℕ) (n : ℕ) (text : IsUtf8 s) (is : n ≡ position_or_len (is_mark 32) s) where
  pub no_name : is_qname (take n s) ≡ false → attribute s ≡ Err which.BadCommand
  no_name none = ap (λ (v : Bool). cond v (attribute_with (before 32 s) (behind 32 s)) (Err which.BadCommand)) (ap is_qname (sym (front s n text is)) ∙ none)

  module _ (name : is_qname (take n s) ≡ true) where
    named : attribute s ≡ attribute_with (take n s) (behind 32 s)
    named =
        ap (λ (v : Bool). cond v (attribute_with (before 32 s) (behind 32 s)) (Err which.BadCommand)) (ap is_qname (sym (front s n text is)) ∙ name)
        ∙ ap (λ (t : List ℕ). attribute_with t (behind 32 s)) (sym (front s n text is))

    pub no_rest : length s ≤ n → attribute s ≡ Err which.BadAttr
    no_rest past = named ∙ ap (attribute_with (take n s)) (behind_none 32 s n is past)

    module _ (within : n < length s) where
      rested : attribute s ≡ attribute_with (take n s) (Some (drop (n + 1) s))
      rested = named ∙ ap (attribute_with (take n s)) (behind_place 32 s n is within)

      pub rest_fault : (w : LineWhich) → ((name : List ℕ) → attribute_with name (Some (drop (n + 1) s)) ≡ Err w) → attribute s ≡ Err w
      rest_fault w fault = rested ∙ fault (take n s)

      name_is : slice_range (65 ∷ s) 1 (n + 1) ≡ take n s
      name_is = ap (λ (m : ℕ). take m s) (let e : n + 1 - 1 ≡ n = omega arith in e)

      name_text : IsUtf8 (slice_range (65 ∷ s) 1 (n + 1))
      name_text = subst IsUtf8 (sym name_is) (IsUtf8-take s n text (at_space s n text is))

      pub implied : IsImplied (drop (n + 1) s) → (attribute s ≡ says_with (Implied (n + 1)) (65 ∷ s) None) × Fits (Implied (n + 1)) (65 ∷ s)
      implied none = (
        rested
            ∙ ap (λ (v : Bool). cond v (Ok (lacks (take n s))) (cond (is_type (before 32 (drop (n + 1) s))) (with_text (has (take n s)) (unescape (or_empty (behind 32 (drop (n + 1) s))))) (Err which.BadAttr))) none
            ∙ ap (λ (t : List ℕ). Ok (lacks t)) (sym name_is),
        (omega arith, omega arith, name_text),
      )

      -- where the value stands in the line
      value_is : (place : ℕ) → drop (n + 1 + 1 + place) (65 ∷ s) ≡ drop place (drop (n + 1) s)
      value_is place =
          ap (λ (m : ℕ). drop m (65 ∷ s)) (let e : n + 1 + 1 + place ≡ suc (n + 1 + place) = omega arith in e)
          ∙ sym (drop-drop place (n + 1) s)

      valued_says : (place : ℕ) → HasValueAt (drop (n + 1) s) place → attribute s ≡ says_with (Attr (n + 1) (n + 1 + 1 + place)) (65 ∷ s) (Some (n + 1 + 1 + place))
      valued_says place value =
          let start = n + 1 + 1 + place in
          let rest = drop (n + 1) s in
          let within_it : start ≤ length (65 ∷ s) = let h = value.within in omega (arith, length-drop (n + 1) s) in
          rested
          ∙ ap (λ (v : Bool). cond v (Ok (lacks (take n s))) (cond (is_type (before 32 rest)) (with_text (has (take n s)) (unescape (or_empty (behind 32 rest)))) (Err which.BadAttr))) value.some
          ∙ ap (λ (v : Bool). cond v (with_text (has (take n s)) (unescape (or_empty (behind 32 rest)))) (Err which.BadAttr)) value.kind
          ∙ ap (λ (t : List ℕ). with_text (has (take n s)) (unescape t)) (sym (value_is place ∙ value.value))
          ∙ with_same (has (take n s)) (λ t. says_in (Attr (n + 1) start) (take start (65 ∷ s) ++ t)) (unescape (drop start (65 ∷ s)))
          (λ t.
          ap (λ (m : List ℕ). has m t) (sym (part_stays (65 ∷ s) t start within_it (n + 1) (omega arith) (omega arith) ∙ name_is))
          ∙ ap (has (slice_range (take start (65 ∷ s) ++ t) 1 (n + 1))) (sym (text_is (65 ∷ s) t start within_it)))

      pub valued : (place : ℕ) → HasValueAt (drop (n + 1) s) place → IsCharBoundary (drop (n + 1) s) place →
          (attribute s ≡ says_with (Attr (n + 1) (n + 1 + 1 + place)) (65 ∷ s) (Some (n + 1 + 1 + place))) × Fits (Attr (n + 1) (n + 1 + 1 + place)) (65 ∷ s)
      valued place value boundary = (
        valued_says place value,
        (
          omega arith,
          omega arith,
          (let h = value.within in omega (arith, length-drop (n + 1) s)),
          name_text,
          subst IsUtf8 (sym (value_is place)) (IsUtf8-drop (drop (n + 1) s) place (IsUtf8-drop s (n + 1) text (behind_space s n text is within)) boundary),
        ),
      )
