-- Where the first newline of a buffer's bytes is found, and bytes that move to the front.
use Rattle.std.proofs.Common.{◌≡◌, ℕ, suc, ◌+◌, ◌-◌, ◌<◌, ◌≤◌, Bool, true, not, List, [], ◌∷◌, ◌++◌, ◌&&◌, length, take, drop, get_or, refl, ap, sym, ◌∙◌, subst, eqb, arith, append_assoc, length-append, length-take, length-drop}
use Rattle.std.proofs.lemmas.Bool.{false_from_ne_true, eqb-true}
use Rattle.std.proofs.lemmas.List.{drop_more, take_all, take_at, drop-drop, take-append-drop, get_or-take}
use Rattle.std.proofs.lemmas.List.Folds.{list_all-append}
use Rattle.std.specs.List.{list_all, slice_range}
use Rattle.memchr.specs.Find.{Nowhere, NoneBefore, Passes, is_byte}
use Rattle.sx_esis.specs.Inside.{IsFirstLine, is_inside}

-- bytes none of which is a newline
inside_all : (bytes : List ℕ) → ((k : ℕ) → k < length bytes → eqb (get_or bytes k 0) 10 ≡ true → ⊥) → list_all is_inside bytes ≡ true
inside_all [] none = refl
inside_all (x ∷ bytes) none =
    let first : not (eqb x 10) ≡ true = ap not (false_from_ne_true (eqb x 10) (none 0 (omega arith))) in
    let behind : list_all is_inside bytes ≡ true = inside_all bytes (λ k within newline. none (suc k) (omega arith) newline) in
    ap (λ (v : Bool). v && list_all is_inside bytes) first ∙ behind

none_inside : (bytes : List ℕ) → Nowhere (Passes (is_byte 10) bytes) 0 (length bytes) → list_all is_inside bytes ≡ true
none_inside bytes none = inside_all bytes (λ k within newline. none k (omega arith) within newline)

first_line : (bytes : List ℕ) (n : ℕ) → NoneBefore (Passes (is_byte 10) bytes) 0 (length bytes) n × Passes (is_byte 10) bytes n → IsFirstLine bytes n
first_line bytes n found =
    let within : n < length bytes = found.0.high in
    let newline : get_or bytes n 0 ≡ 10 = eqb-true (get_or bytes n 0) 10 found.1 in
    record {
      within = within;
      line = take n bytes;
      rest = drop (n + 1) bytes;
      inside = inside_all (take n bytes) (λ k below here.
          let at : k < n = omega (arith, length-take n bytes) in
          found.0.before k (omega arith) at (subst (λ (x : ℕ). eqb x 10 ≡ true) (get_or-take n bytes k 0 at) here));
      count = omega (arith, length-take n bytes);
      split = sym (take-append-drop n bytes) ∙ ap (λ (s : List ℕ). take n bytes ++ s) (drop_more bytes n 0 within ∙ ap (λ (x : ℕ). x ∷ drop (n + 1) bytes) newline);
    }

-- bytes without a newline in front of others
front_inside : (front bytes : List ℕ) → list_all is_inside front ≡ true → list_all is_inside bytes ≡ true → list_all is_inside (front ++ bytes) ≡ true
front_inside front bytes before here = list_all-append is_inside front bytes ∙ ap (λ (v : Bool). v && list_all is_inside bytes) before ∙ here

front_first : (front bytes : List ℕ) (n : ℕ) → list_all is_inside front ≡ true → IsFirstLine bytes n → IsFirstLine (front ++ bytes) (length front + n)
front_first front bytes n before first = record {
  within = let h : n < length bytes = first.within in omega (arith, length-append front bytes);
  line = front ++ first.line;
  rest = first.rest;
  inside = front_inside front first.line before first.inside;
  count = length-append front first.line ∙ ap (λ (m : ℕ). length front + m) first.count;
  split = ap (λ (s : List ℕ). front ++ s) first.split ∙ sym (append_assoc front first.line (10 ∷ first.rest));
}

-- what waits is what was searched and what was not
searched_split : (items : List ℕ) (start searched : ℕ) → start ≤ searched → drop start items ≡ slice_range items start searched ++ drop searched items
searched_split items start searched order =
    sym (take-append-drop (searched - start) (drop start items))
    ∙ ap (λ (s : List ℕ). slice_range items start searched ++ s)
    (drop-drop (searched - start) start items ∙ ap (λ (n : ℕ). drop n items) (let h : start + (searched - start) ≡ searched = omega arith in h))

searched_count : (items : List ℕ) (start searched : ℕ) → start ≤ searched → searched ≤ length items → length (slice_range items start searched) ≡ searched - start
searched_count items start searched order within = omega (arith, length-take (searched - start) (drop start items), length-drop start items)

hay_is : (items : List ℕ) (searched : ℕ) → take (length items - searched) (drop searched items) ≡ drop searched items
hay_is items searched = take_all (length items - searched) (drop searched items) (omega (arith, length-drop searched items))

-- a newline found behind what was searched is the first of what waits
pub found_first : (items hay : List ℕ) (start searched n : ℕ) → start ≤ searched → searched ≤ length items → list_all is_inside (slice_range items start searched) ≡ true →
    hay ≡ take (length items - searched) (drop searched items) → NoneBefore (Passes (is_byte 10) hay) 0 (length hay) n × Passes (is_byte 10) hay n → IsFirstLine (drop start items) (searched - start + n)
found_first items hay start searched n order within before same found =
    let first : IsFirstLine (drop searched items) n = subst (λ (s : List ℕ). IsFirstLine s n) (same ∙ hay_is items searched) (first_line hay n found) in
    subst (λ (s : List ℕ). IsFirstLine s (searched - start + n)) (sym (searched_split items start searched order))
    (subst (λ (m : ℕ). IsFirstLine (slice_range items start searched ++ drop searched items) (m + n)) (searched_count items start searched order within)
    (front_first (slice_range items start searched) (drop searched items) n before first))

-- where none is found there, none waits
pub found_none : (items hay : List ℕ) (start searched : ℕ) → start ≤ searched → list_all is_inside (slice_range items start searched) ≡ true →
    hay ≡ take (length items - searched) (drop searched items) → Nowhere (Passes (is_byte 10) hay) 0 (length hay) → list_all is_inside (drop start items) ≡ true
found_none items hay start searched order before same none =
    let here : list_all is_inside (drop searched items) ≡ true = subst (λ (s : List ℕ). list_all is_inside s ≡ true) (same ∙ hay_is items searched) (none_inside hay none) in
    ap (list_all is_inside) (searched_split items start searched order) ∙ front_inside (slice_range items start searched) (drop searched items) before here

-- all that waits lies up to the end
pub waits_to_end : (items : List ℕ) (start : ℕ) → slice_range items start (length items) ≡ drop start items
waits_to_end items start = hay_is items start

-- what was moved to the front
pub moved : (items front : List ℕ) (rest : List ℕ) → take (length rest) ((rest ++ front) ++ items) ≡ rest
moved items front rest = ap (take (length rest)) (append_assoc rest front items) ∙ take_at rest (front ++ items) (length rest) refl
