-- How a text comes to the same while its escapes are replaced.
use Rattle.std.proofs.Common.{◌≡◌, ℕ, ◌+◌, ◌-◌, ◌<◌, ◌≤◌, Bool, true, false, not, List, [], ◌∷◌, ◌++◌, length, take, drop, get_or, Some, Result, Ok, Err, refl, ap, sym, ◌∙◌, cond, eqb, arith, append_assoc, append-nil, length-take, length-drop, length-append}
use Rattle.std.proofs.lemmas.Bool.{eqb-true}
use Rattle.std.proofs.lemmas.List.{drop_all, drop_more, drop-drop, take_at, drop_at, get_or-drop}
use Rattle.std.proofs.lemmas.List.Sums.{passes_at_first, prefix_len-le-length}
use Rattle.std.specs.Char.{encode_utf8, len_utf8}
use Rattle.std.specs.List.{copy_within, position_or_len}
use Rattle.sx_chars.proofs.Places.{take_one_more, drop_one_more}
use Rattle.sx_esis.specs.Escapes.{put_before, unescape, unescape_from}
use Rattle.sx_esis.specs.Replacing.{IsPartlyReplaced, ReadsCharacter, comes_to}
use Rattle.sx_esis.specs.declared.faults.LineWhich.{LineWhich}

abbrev Answer : Type 0
Answer = Result (List ℕ) LineWhich

pub put_before-nil : (r : Answer) → put_before [] r ≡ r
put_before-nil (Ok s) = refl
put_before-nil (Err w) = refl

pub put_before-append : (s t : List ℕ) (r : Answer) → put_before (s ++ t) r ≡ put_before s (put_before t r)
put_before-append s t (Ok u) = ap (λ (v : List ℕ). Ok v) (append_assoc s t u)
put_before-append s t (Err w) = refl

-- a byte that begins an escape
abbrev pub is_mark : ℕ → Bool
is_mark b = eqb b 92

-- the text in front of the first escape stays
plain_at : (mark : Bool) (b : ℕ) (bs : List ℕ) → is_mark b ≡ mark → unescape bs ≡ comes_to bs (position_or_len is_mark bs) (position_or_len is_mark bs) →
    unescape (b ∷ bs) ≡ comes_to (b ∷ bs) (cond (not mark) (1 + position_or_len is_mark bs) 0) (cond (not mark) (1 + position_or_len is_mark bs) 0)
plain_at true b bs e rest = sym (put_before-nil (unescape (b ∷ bs)))
plain_at false b bs e rest =
    let n = position_or_len is_mark bs in
    ap (λ (v : Bool). cond v (unescape_from (Some []) bs) (put_before (b ∷ []) (unescape bs))) e
    ∙ ap (put_before (b ∷ [])) rest
    ∙ sym (put_before-append (b ∷ []) (take n bs) (unescape (drop n bs)))
    ∙ ap (λ (s : List ℕ). put_before s (unescape (drop n bs))) (sym (take_one_more n b bs))
    ∙ ap (λ (s : List ℕ). put_before (take (1 + n) (b ∷ bs)) (unescape s)) (sym (drop_one_more n b bs))

pub plain : (s : List ℕ) → unescape s ≡ comes_to s (position_or_len is_mark s) (position_or_len is_mark s)
plain [] = refl
plain (b ∷ bs) = plain_at (is_mark b) b bs refl (plain bs)

-- the first escape begins where the plain text ends
pub first_mark : (s : List ℕ) (n : ℕ) → n ≡ position_or_len is_mark s → n < length s → get_or s n 0 ≡ 92
first_mark s n is within = eqb-true (get_or s n 0) 92 (ap (λ (m : ℕ). is_mark (get_or s m 0)) is ∙ passes_at_first is_mark s 0 (omega arith))

pub first_cut : (s : List ℕ) (n : ℕ) → n ≡ position_or_len is_mark s → IsPartlyReplaced s n n
first_cut s n is = record {
  order = omega arith;
  within = let most : position_or_len is_mark s ≤ length s = prefix_len-le-length (λ b. not (is_mark b)) s in omega arith;
  mark = first_mark s n is;
}

pub first_comes : (s : List ℕ) (n : ℕ) → n ≡ position_or_len is_mark s → unescape s ≡ comes_to s n n
first_comes s n is = plain s ∙ ap (λ (m : ℕ). comes_to s m m) (sym is)

-- what stands behind a front that was written anew, from a place behind it on
pub behind_front : (old new : List ℕ) (n m : ℕ) → n ≤ m → drop n new ≡ drop n old → drop m new ≡ drop m old
behind_front old new n m order same =
    let e : n + (m - n) ≡ m = omega arith in
    ap (λ (k : ℕ). drop k new) (sym e)
    ∙ sym (drop-drop (m - n) n new)
    ∙ ap (drop (m - n)) same
    ∙ drop-drop (m - n) n old
    ∙ ap (λ (k : ℕ). drop k old) e

-- plain text that is moved behind what was written
module _ (old : List ℕ) (written read count : ℕ) (order : written ≤ read) (within : read ≤ length old) (is : count ≡ position_or_len is_mark (drop read old)) where
  pub move_fits : read + count ≤ length old
  move_fits = let most : position_or_len is_mark (drop read old) ≤ length (drop read old) = prefix_len-le-length (λ b. not (is_mark b)) (drop read old) in omega (arith, length-drop read old)

  module _ (new : List ℕ) (moved : new ≡ copy_within old read (read + count) written) where
    now_is : new ≡ (take written old ++ take count (drop read old)) ++ drop (written + count) old
    now_is =
        moved ∙ ap (λ (n : ℕ). (take written old ++ take n (drop read old)) ++ drop (written + n) old) (let e : read + count - read ≡ count = omega arith in e)

    count_is : length (take written old ++ take count (drop read old)) ≡ written + count
    count_is =
        let within_it = move_fits in
        omega (arith, length-append (take written old) (take count (drop read old)), length-take written old, length-take count (drop read old), length-drop read old)

    front_is : take (written + count) new ≡ take written old ++ take count (drop read old)
    front_is = ap (take (written + count)) now_is ∙ take_at (take written old ++ take count (drop read old)) (drop (written + count) old) (written + count) count_is

    rest_is : drop (read + count) new ≡ drop (read + count) old
    rest_is =
        behind_front old new (written + count) (read + count) (omega arith)
        (ap (drop (written + count)) now_is ∙ drop_at (take written old ++ take count (drop read old)) (drop (written + count) old) (written + count) count_is)

    length_is : length new ≡ length old
    length_is =
        let within_it = move_fits in
        ap length now_is
        ∙ let e : length ((take written old ++ take count (drop read old)) ++ drop (written + count) old) ≡ length old =
        omega (arith, length-append (take written old ++ take count (drop read old)) (drop (written + count) old), count_is, length-drop (written + count) old) in
        e

    -- the byte behind it
    pub move_mark : read + count < length new → get_or new (read + count) 0 ≡ 92
    move_mark more =
        let none : read + count + 0 ≡ read + count = omega arith in
        ap (λ (n : ℕ). get_or new n 0) (sym none)
        ∙ sym (get_or-drop (read + count) new 0 0)
        ∙ ap (λ (s : List ℕ). get_or s 0 0) rest_is
        ∙ get_or-drop (read + count) old 0 0
        ∙ ap (λ (n : ℕ). get_or old n 0) none
        ∙ sym (get_or-drop read old count 0)
        ∙ first_mark (drop read old) count is (omega (arith, length_is, length-drop read old))

    pub move_cut : IsPartlyReplaced new (written + count) (read + count)
    move_cut = record {
      order = omega arith;
      within = let within_it = move_fits in omega (arith, length_is);
      mark = move_mark;
    }

    pub move_comes : comes_to old written read ≡ comes_to new (written + count) (read + count)
    move_comes =
        ap (put_before (take written old)) (first_comes (drop read old) count is)
        ∙ sym (put_before-append (take written old) (take count (drop read old)) (unescape (drop count (drop read old))))
        ∙ ap (λ (s : List ℕ). put_before s (unescape (drop count (drop read old)))) (sym front_is)
        ∙ ap (λ (s : List ℕ). put_before (take (written + count) new) (unescape s)) (drop-drop count read old ∙ sym rest_is)

-- a character that is written in place of an escape
module _ (old new : List ℕ) (written read c count : ℕ) (cut : IsPartlyReplaced old written read) (more : read < length old) (reads : ReadsCharacter (drop (read + 1) old) c count)
    (front : take (written + len_utf8 c) new ≡ take written old ++ encode_utf8 c) (rest : drop (written + len_utf8 c) new ≡ drop (written + len_utf8 c) old) where
  at_mark : unescape (drop read old) ≡ unescape_from (Some []) (drop (read + 1) old)
  at_mark =
      ap unescape (drop_more old read 0 more)
      ∙ ap (λ (b : ℕ). unescape (b ∷ drop (read + 1) old)) (cut.mark more)

  pub put_comes : comes_to old written read ≡ comes_to new (written + len_utf8 c) (read + 1 + count)
  put_comes =
      ap (put_before (take written old)) (at_mark ∙ reads.stands)
      ∙ sym (put_before-append (take written old) (encode_utf8 c) (unescape (drop count (drop (read + 1) old))))
      ∙ ap (λ (s : List ℕ). put_before s (unescape (drop count (drop (read + 1) old)))) (sym front)
      ∙ ap (λ (s : List ℕ). put_before (take (written + len_utf8 c) new) (unescape s))
      (drop-drop count (read + 1) old ∙ sym (behind_front old new (written + len_utf8 c) (read + 1 + count) (let o = cut.order in let short = reads.short in omega arith) rest))

-- an escape that is at fault
pub mark_fault : (old : List ℕ) (written read : ℕ) (w : LineWhich) → IsPartlyReplaced old written read → read < length old → unescape_from (Some []) (drop (read + 1) old) ≡ Err w → comes_to old written read ≡ Err w
mark_fault old written read w cut more fault =
    ap (λ (s : List ℕ). put_before (take written old) (unescape s)) (drop_more old read 0 more)
    ∙ ap (λ (b : ℕ). put_before (take written old) (unescape (b ∷ drop (read + 1) old))) (cut.mark more)
    ∙ ap (put_before (take written old)) fault

-- nothing is left to be read
pub all_read : (s : List ℕ) (written read : ℕ) → length s ≤ read → comes_to s written read ≡ Ok (take written s)
all_read s written read past =
    ap (λ (t : List ℕ). put_before (take written s) (unescape t)) (drop_all read s past) ∙ ap (λ (t : List ℕ). Ok t) (append-nil (take written s))
