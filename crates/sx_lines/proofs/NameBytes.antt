-- Names hold no white space.
use Rattle.std.proofs.Common.{◌≡◌, ℕ, suc, ◌+◌, ◌<◌, Bool, true, false, List, [], ◌∷◌, ◌++◌, length, take, drop, get_or, Option, Some, None, refl, sym, ap, ◌∙◌, subst, ◌||◌, cond, true≢false, arith}
use Rattle.std.proofs.lemmas.Bool.{and_parts, and_from}
use Rattle.std.proofs.lemmas.Bool.Decides.{Decides-eqb}
use Rattle.std.proofs.lemmas.List.{append-nil}
use Rattle.std.proofs.lemmas.Str.{inside_one, encodes-chars, IsUtf8-take, IsUtf8-drop, IsCharBoundary-before_ascii, IsCharBoundary-after_ascii}
use Rattle.std.specs.Bool.{◌==◌}
use Rattle.std.specs.Char.{encode_utf8}
use Rattle.std.specs.List.{list_all}
use Rattle.std.specs.Str.{chars, IsUtf8, encode_utf8_all}
use Rattle.sx_chars.specs.Names.{is_in, further_characters, is_first, is_further, are_name, is_ncname, is_qname, is_qname_with, before, behind}
use Rattle.sx_lines.specs.Lines.{Lacks}
use Rattle.sx_lines.proofs.Lacking.{Lacks-append, none_at}

-- text is split at an ASCII character
pub parts_utf8 : (mark : ℕ) (a b : List ℕ) → mark < 128 → IsUtf8 (a ++ mark ∷ b) → IsUtf8 a × IsUtf8 b
parts_utf8 mark a b ascii text =
    let whole = a ++ mark ∷ b in
    let within : length a < length whole = longer a in
    let small : get_or whole (length a) 0 < 128 = subst (λ x. x < 128) (sym (there a)) ascii in (
      subst IsUtf8 (front a) (IsUtf8-take whole (length a) text (IsCharBoundary-before_ascii whole (length a) within small)),
      subst IsUtf8 (back a) (IsUtf8-drop whole (length a + 1) text (IsCharBoundary-after_ascii whole (length a) text within small)),
    )
  where
    longer : (c : List ℕ) → length c < length (c ++ mark ∷ b)
    longer [] = omega arith
    longer (x ∷ c) = let h = longer c in omega arith

    there : (c : List ℕ) → get_or (c ++ mark ∷ b) (length c) 0 ≡ mark
    there [] = refl
    there (x ∷ c) = there c

    front : (c : List ℕ) → take (length c) (c ++ mark ∷ b) ≡ c
    front [] = refl
    front (x ∷ c) = ap (λ l. x ∷ l) (front c)

    back : (c : List ℕ) → drop (length c + 1) (c ++ mark ∷ b) ≡ b
    back [] = refl
    back (x ∷ c) = let e : suc (length c) + 1 ≡ suc (length c + 1) = omega arith in ap (λ n. drop n (x ∷ (c ++ mark ∷ b))) e ∙ back c

first_further : (c : ℕ) → is_first c ≡ true → is_further c ≡ true
first_further c first = ap (λ (v : Bool). v || is_in further_characters c) first

-- where a text is split at the first colon
pub colon_split : (s local : List ℕ) → behind 58 s ≡ Some local → s ≡ before 58 s ++ 58 ∷ local
colon_split [] local e = cc
colon_split (b ∷ s) local e = by (b == 58) refl e (colon_split s local)
  where
    by : (t : Bool) → (b == 58) ≡ t → cond t (Some s) (behind 58 s) ≡ Some local → (behind 58 s ≡ Some local → s ≡ before 58 s ++ 58 ∷ local)
        → b ∷ s ≡ cond t [] (b ∷ before 58 s) ++ 58 ∷ local
    by true is f rest = let same : s ≡ local = cc in ap (λ x. x ∷ s) ((Decides-eqb b 58).0 is) ∙ ap (λ l. 58 ∷ l) same
    by false is f rest = ap (λ l. b ∷ l) (rest f)

module _ (mark : ℕ) (ascii : mark < 128) (other : is_further mark ≡ false) where
  -- characters that may stand in a name hold no other byte
  further_lack : (cs : List ℕ) → list_all is_further cs ≡ true → Lacks mark (encode_utf8_all cs)
  further_lack [] all = tt
  further_lack (c ∷ cs) all =
      let parts = and_parts (is_further c) (list_all is_further cs) all in
      Lacks-append mark (encode_utf8 c) (encode_utf8_all cs)
      (none_at mark (encode_utf8 c) (λ k h e.
      let small : get_or (encode_utf8 c) k 0 < 128 = subst (λ x. x < 128) (sym e) ascii in
      let same : c ≡ mark = inside_one c [] (encode_utf8 c) k (sym (append-nil (encode_utf8 c))) h small ∙ e in
      true≢false (sym parts.0 ∙ ap is_further same ∙ other)))
      (further_lack cs parts.1)

  name_lacks : (cs : List ℕ) → are_name cs ≡ true → Lacks mark (encode_utf8_all cs)
  name_lacks [] name = tt
  name_lacks (c ∷ cs) name =
      let parts = and_parts (is_first c) (list_all is_further cs) name in
      further_lack (c ∷ cs) (and_from (is_further c) (list_all is_further cs) (first_further c parts.0) parts.1)

  pub ncname_lacks : (s : List ℕ) → is_ncname s ≡ true → IsUtf8 s → Lacks mark s
  ncname_lacks s name text = subst (Lacks mark) (encodes-chars s text) (name_lacks (chars s) name)

  pub qname_lacks : ¬ (58 ≡ mark) → (s : List ℕ) → is_qname s ≡ true → IsUtf8 s → Lacks mark s
  qname_lacks no_colon s name text = by (behind 58 s) refl name
    where
      by : (o : Option (List ℕ)) → behind 58 s ≡ o → is_qname_with s o ≡ true → Lacks mark s
      by None e name = ncname_lacks s name text
      by (Some local) e name =
          let parts = and_parts (is_ncname (before 58 s)) (is_ncname local) name in
          let split = colon_split s local e in
          let utf8 = parts_utf8 58 (before 58 s) local (omega arith) (subst IsUtf8 split text) in
          subst (Lacks mark) (sym split) (Lacks-append mark (before 58 s) (58 ∷ local) (ncname_lacks (before 58 s) parts.0 utf8.0) (no_colon, ncname_lacks local parts.1 utf8.1))
