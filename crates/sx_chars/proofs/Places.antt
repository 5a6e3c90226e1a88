-- What stands in front of the first byte that passes a test, and what stands from there on.
use Rattle.std.proofs.Common.{◌≡◌, ℕ, suc, ◌+◌, ◌-◌, ◌<◌, ◌≤◌, Bool, true, false, not, List, [], ◌∷◌, length, take, drop, get_or, Some, None, refl, ap, sym, ◌∙◌, subst, cond, ltb, eqb, arith}
use Rattle.std.proofs.lemmas.Bool.{ltb-true, lt-ltb, eqb-true}
use Rattle.std.proofs.lemmas.Bool.Decides.{nat_tests}
use Rattle.std.proofs.lemmas.List.{take_all, drop_all}
use Rattle.std.proofs.lemmas.List.Sums.{passes_at_first, fails_before_first}
use Rattle.std.proofs.lemmas.Str.{IsCharBoundary-before_ascii, IsCharBoundary-after_ascii}
use Rattle.std.specs.List.{position, position_or_len}
use Rattle.std.specs.Str.{IsUtf8, IsCharBoundary}
use Rattle.sx_chars.specs.Names.{before, behind, before_space, from_space, without_leading_space, is_white_space}

-- the place that a search gives
pub place_is : (p : ℕ → Bool) (s : List ℕ) (k : ℕ) → Some k ≡ position p s → (k ≡ position_or_len p s) × (k < length s)
place_is p s k found = at (ltb (position_or_len p s) (length s)) refl found
  where
    at : (within : Bool) → ltb (position_or_len p s) (length s) ≡ within → Some k ≡ cond within (Some (position_or_len p s)) None → (k ≡ position_or_len p s) × (k < length s)
    at true e found =
        let same : k ≡ position_or_len p s = cc in
        let below : position_or_len p s < length s = ltb-true (position_or_len p s) (length s) e in
        (same, omega arith)
    at false e found = cc

pub place_none : (p : ℕ → Bool) (s : List ℕ) → None ≡ position p s → length s ≤ position_or_len p s
place_none p s none = at (ltb (position_or_len p s) (length s)) refl none
  where
    at : (within : Bool) → ltb (position_or_len p s) (length s) ≡ within → None ≡ cond within (Some (position_or_len p s)) None → length s ≤ position_or_len p s
    at true e none = cc
    at false e none = grind (arith, nat_tests)

pub take_one_more : (n x : ℕ) (xs : List ℕ) → take (1 + n) (x ∷ xs) ≡ x ∷ take n xs
take_one_more n x xs = ap (λ (m : ℕ). take m (x ∷ xs)) (let e : 1 + n ≡ suc n = omega arith in e)

pub drop_one_more : (n x : ℕ) (xs : List ℕ) → drop (1 + n) (x ∷ xs) ≡ drop n xs
drop_one_more n x xs = ap (λ (m : ℕ). drop m (x ∷ xs)) (let e : 1 + n ≡ suc n = omega arith in e)

module _ (p : ℕ → Bool) (F : List ℕ → List ℕ) (none : F [] ≡ []) where
  front_at : (here : Bool) (b : ℕ) (bs : List ℕ) → F bs ≡ take (position_or_len p bs) bs → cond here [] (b ∷ F bs) ≡ take (cond (not here) (1 + position_or_len p bs) 0) (b ∷ bs)
  front_at true b bs rest = refl
  front_at false b bs rest = ap (λ (s : List ℕ). b ∷ s) rest ∙ sym (take_one_more (position_or_len p bs) b bs)

  -- a function that gives what stands in front of the first byte that passes
  pub front_is : ((b : ℕ) (bs : List ℕ) → F (b ∷ bs) ≡ cond (p b) [] (b ∷ F bs)) → (s : List ℕ) → F s ≡ take (position_or_len p s) s
  front_is step [] = none
  front_is step (b ∷ bs) = step b bs ∙ front_at (p b) b bs (front_is step bs)

  rest_at : (here : Bool) (b : ℕ) (bs : List ℕ) → F bs ≡ drop (position_or_len p bs) bs → cond here (b ∷ bs) (F bs) ≡ drop (cond (not here) (1 + position_or_len p bs) 0) (b ∷ bs)
  rest_at true b bs rest = refl
  rest_at false b bs rest = rest ∙ sym (drop_one_more (position_or_len p bs) b bs)

  -- a function that gives what stands from there on
  pub rest_is : ((b : ℕ) (bs : List ℕ) → F (b ∷ bs) ≡ cond (p b) (b ∷ bs) (F bs)) → (s : List ℕ) → F s ≡ drop (position_or_len p s) s
  rest_is step [] = none
  rest_is step (b ∷ bs) = step b bs ∙ rest_at (p b) b bs (rest_is step bs)

-- the test whether a byte is this one
abbrev pub is_mark : ℕ → ℕ → Bool
is_mark mark b = eqb b mark

pub before_is : (mark : ℕ) (s : List ℕ) → before mark s ≡ take (position_or_len (is_mark mark) s) s
before_is mark s = front_is (is_mark mark) (before mark) refl (λ b bs. refl) s

behind_at : (mark : ℕ) (here : Bool) (b : ℕ) (bs : List ℕ) → behind mark bs ≡ cond (ltb (position_or_len (is_mark mark) bs) (length bs)) (Some (drop (position_or_len (is_mark mark) bs + 1) bs)) None →
    cond here (Some bs) (behind mark bs)
    ≡ cond (ltb (cond (not here) (1 + position_or_len (is_mark mark) bs) 0) (length (b ∷ bs))) (Some (drop (cond (not here) (1 + position_or_len (is_mark mark) bs) 0 + 1) (b ∷ bs))) None
behind_at mark true b bs rest = ap (λ (v : Bool). cond v (Some bs) None) (sym (lt-ltb 0 (suc (length bs)) (omega arith)))
behind_at mark false b bs rest =
    let n = position_or_len (is_mark mark) bs in
    rest
    ∙ ap (λ (v : Bool). cond v (Some (drop (n + 1) bs)) None) (let same : ltb n (length bs) ≡ ltb (1 + n) (suc (length bs)) = grind (arith, nat_tests) in same)
    ∙ ap (λ (t : List ℕ). cond (ltb (1 + n) (suc (length bs))) (Some t) None) (sym (ap (λ (m : ℕ). drop m (b ∷ bs)) (let e : 1 + n + 1 ≡ 1 + (n + 1) = omega arith in e) ∙ drop_one_more (n + 1) b bs))

behind_is : (mark : ℕ) (s : List ℕ) → behind mark s ≡ cond (ltb (position_or_len (is_mark mark) s) (length s)) (Some (drop (position_or_len (is_mark mark) s + 1) s)) None
behind_is mark [] = refl
behind_is mark (b ∷ bs) = behind_at mark (eqb b mark) b bs (behind_is mark bs)

-- what stands behind the first such byte, and that there is none
pub behind_place : (mark : ℕ) (s : List ℕ) (k : ℕ) → k ≡ position_or_len (is_mark mark) s → k < length s → behind mark s ≡ Some (drop (k + 1) s)
behind_place mark s k is within =
    behind_is mark s
    ∙ ap (λ (n : ℕ). cond (ltb n (length s)) (Some (drop (n + 1) s)) None) (sym is)
    ∙ ap (λ (v : Bool). cond v (Some (drop (k + 1) s)) None) (lt-ltb k (length s) within)

pub behind_none : (mark : ℕ) (s : List ℕ) (k : ℕ) → k ≡ position_or_len (is_mark mark) s → length s ≤ k → behind mark s ≡ None
behind_none mark s k is past =
    behind_is mark s ∙ ap (λ (v : Bool). cond v (Some (drop (position_or_len (is_mark mark) s + 1) s)) None) (let no : ltb (position_or_len (is_mark mark) s) (length s) ≡ false = grind (arith, nat_tests) in no)

abbrev pub is_colon : ℕ → Bool
is_colon b = eqb b 58

-- the parts round the first colon
pub colon_parts : (s : List ℕ) (k : ℕ) → Some k ≡ position is_colon s → (behind 58 s ≡ Some (drop (k + 1) s)) × (take k s ≡ before 58 s)
colon_parts s k found =
    let place = place_is is_colon s k found in
    (behind_place 58 s k place.0 place.1, ap (λ (n : ℕ). take n s) place.0 ∙ sym (before_is 58 s))

pub colon_none : (s : List ℕ) → None ≡ position is_colon s → behind 58 s ≡ None
colon_none s none = behind_none 58 s (position_or_len is_colon s) refl (place_none is_colon s none)

pub colon_byte : (s : List ℕ) (k : ℕ) → Some k ≡ position is_colon s → (k < length s) × (get_or s k 0 ≡ 58)
colon_byte s k found =
    let place = place_is is_colon s k found in (
      place.1,
      eqb-true (get_or s k 0) 58 (ap (λ (n : ℕ). eqb (get_or s n 0) 58) place.0 ∙ passes_at_first is_colon s 0 (let h = place.1 in let e = place.0 in omega arith)),
    )

pub space_parts : (s : List ℕ) (k : ℕ) → Some k ≡ position is_white_space s → (take k s ≡ before_space s) × (drop k s ≡ from_space s)
space_parts s k found =
    let place = place_is is_white_space s k found in (
      ap (λ (n : ℕ). take n s) place.0 ∙ sym (front_is is_white_space before_space refl (λ b bs. refl) s),
      ap (λ (n : ℕ). drop n s) place.0 ∙ sym (rest_is is_white_space from_space refl (λ b bs. refl) s),
    )

pub space_none : (s : List ℕ) → None ≡ position is_white_space s → (s ≡ before_space s) × ([] ≡ from_space s)
space_none s none =
    let past = place_none is_white_space s none in (
      sym (front_is is_white_space before_space refl (λ b bs. refl) s ∙ take_all (position_or_len is_white_space s) s past),
      sym (rest_is is_white_space from_space refl (λ b bs. refl) s ∙ drop_all (position_or_len is_white_space s) s past),
    )

white_ascii : (b : ℕ) → is_white_space b ≡ true → b < 128
white_ascii b white = grind (arith, nat_tests)

pub space_byte : (s : List ℕ) (k : ℕ) → Some k ≡ position is_white_space s → IsCharBoundary s k
space_byte s k found =
    let place = place_is is_white_space s k found in
    let white : is_white_space (get_or s k 0) ≡ true = ap (λ (n : ℕ). is_white_space (get_or s n 0)) place.0 ∙ passes_at_first is_white_space s 0 (let h = place.1 in let e = place.0 in omega arith) in
    IsCharBoundary-before_ascii s k place.1 (white_ascii (get_or s k 0) white)

abbrev pub is_content : ℕ → Bool
is_content b = not (is_white_space b)

content_step : (white : Bool) (b : ℕ) (bs : List ℕ) → cond white (without_leading_space bs) (b ∷ bs) ≡ cond (not white) (b ∷ bs) (without_leading_space bs)
content_step true b bs = refl
content_step false b bs = refl

content_is : (s : List ℕ) → without_leading_space s ≡ drop (position_or_len is_content s) s
content_is s = rest_is is_content without_leading_space refl (λ b bs. content_step (is_white_space b) b bs) s

pub content_part : (s : List ℕ) (k : ℕ) → Some k ≡ position is_content s → drop k s ≡ without_leading_space s
content_part s k found = ap (λ (n : ℕ). drop n s) (place_is is_content s k found).0 ∙ sym (content_is s)

pub content_none : (s : List ℕ) → None ≡ position is_content s → [] ≡ without_leading_space s
content_none s none = sym (content_is s ∙ drop_all (position_or_len is_content s) s (place_none is_content s none))

not_false : (v : Bool) → not v ≡ false → v ≡ true
not_false true e = refl
not_false false e = cc

pub content_byte : (s : List ℕ) (k : ℕ) → IsUtf8 s → Some k ≡ position is_content s → 0 < k → IsCharBoundary s k
content_byte s k text found some =
    let place = place_is is_content s k found in
    let before_it : k - 1 < position_or_len is_content s = let e = place.0 in omega arith in
    let white : is_white_space (get_or s (k - 1) 0) ≡ true = not_false (is_white_space (get_or s (k - 1) 0)) (fails_before_first is_content s (k - 1) 0 before_it) in
    subst (λ (n : ℕ). IsCharBoundary s n) (omega arith) (IsCharBoundary-after_ascii s (k - 1) text (let h = place.1 in omega arith) (white_ascii (get_or s (k - 1) 0) white))
