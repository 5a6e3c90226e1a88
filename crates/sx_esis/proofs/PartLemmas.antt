-- What a buffer holds whose line was rewritten in place.
use Rattle.std.proofs.Common.{◌≡◌, ℕ, ◌+◌, ◌-◌, ◌≤◌, List, ◌++◌, length, take, drop, Ok, ap, sym, ◌∙◌, arith, length-append, length-take, length-drop}
use Rattle.std.proofs.lemmas.List.{take-take, drop-drop, drop-take, drop_at, take-append-le, with_items_is}
use Rattle.std.proofs.lemmas.Slice.{between_is, drop-put_mid}
use borrow.Rule.Slice.PartMut.{put_mid}
use Rattle.std.specs.Vec.{with_items}
use Rattle.std.specs.declared.vec.Vec.{Vec}
use Rattle.std.proofs.Math.Seq.{take-add}
use Rattle.std.specs.List.{slice_range}
use Rattle.sx_esis.specs.Escapes.{unescape}
use Rattle.sx_esis.specs.Buffered.{HasUnescaped}

-- a place in the line lies in front of its end
pub place_within : (items : List ℕ) (line_start line_end start : ℕ) → line_start ≤ line_end → start ≤ length (slice_range items line_start line_end) → line_start + start ≤ line_end
place_within items line_start line_end start order inside =
    omega (arith, length-take (line_end - line_start) (drop line_start items), length-drop line_start items)

-- the line from that place on
pub line_from : (items : List ℕ) (line_start line_end start : ℕ) → line_start + start ≤ line_end → drop start (slice_range items line_start line_end) ≡ slice_range items (line_start + start) line_end
line_from items line_start line_end start within =
    ap (drop start) (between_is items line_start line_end)
    ∙ drop-drop start line_start (take line_end items)
    ∙ sym (between_is items (line_start + start) line_end)

module _ (old new : List ℕ) (line_start line_end start stop : ℕ) (order : line_start + start ≤ stop) (within : stop ≤ line_end) (front : take (line_start + start) new ≡ take (line_start + start) old) where
  front_stays : take start (drop line_start new) ≡ take start (slice_range old line_start line_end)
  front_stays =
      sym (drop-take line_start start new)
      ∙ ap (drop line_start) front
      ∙ drop-take line_start start old
      ∙ sym (take-take start (line_end - line_start) (drop line_start old) (omega arith))

  pub line_is : slice_range new line_start stop ≡ take start (slice_range old line_start line_end) ++ slice_range new (line_start + start) stop
  line_is =
      let count : stop - line_start ≡ start + (stop - (line_start + start)) = omega arith in
      ap (λ (n : ℕ). take n (drop line_start new)) count
      ∙ take-add start (stop - (line_start + start)) (drop line_start new)
      ∙ ap (λ (s : List ℕ). s ++ take (stop - (line_start + start)) (drop start (drop line_start new))) front_stays
      ∙ ap (λ (s : List ℕ). take start (slice_range old line_start line_end) ++ take (stop - (line_start + start)) s) (drop-drop start line_start new)

  pub has_unescaped : unescape (slice_range old (line_start + start) line_end) ≡ Ok (slice_range new (line_start + start) stop) → HasUnescaped (slice_range old line_start line_end) start (slice_range new line_start stop)
  has_unescaped text = record {
    text = slice_range new (line_start + start) stop;
    unescaped = ap unescape (line_from old line_start line_end start (omega arith)) ∙ text;
    line = line_is;
  }

-- what stands behind the line stays
pub range_stays : (old new : List ℕ) (line_end start searched : ℕ) → line_end ≤ start → ((n : ℕ) → line_end ≤ n → drop n new ≡ drop n old) → slice_range new start searched ≡ slice_range old start searched
range_stays old new line_end start searched before rest = ap (take (searched - start)) (rest start before)

-- a part of a vector that was rewritten
module _ {Z : Type 0} (v : Vec ℕ Z) (xs ys : List ℕ) (start end : ℕ) (same : xs ≡ v.items) (order : start ≤ end) (within : end ≤ length v.items) (count : length ys ≡ length (take (end - start) (drop start xs))) where
  length_is : length ys ≡ end - start
  length_is = omega (arith, length-take (end - start) (drop start xs), length-drop start xs, ap length same)

  items_are : (with_items v (put_mid start (end - start) xs ys)).items ≡ put_mid start (end - start) xs ys
  items_are =
      with_items_is v (put_mid start (end - start) xs ys)
      (let len = v.ok.0 in
      omega (arith, length_is, ap length same, length-append (take start xs) (ys ++ drop (end - start) (drop start xs)), length-append ys (drop (end - start) (drop start xs)), length-take start xs, length-drop (end - start) (drop start xs), length-drop start xs))

  pub part_rest : (n : ℕ) → end ≤ n → drop n (with_items v (put_mid start (end - start) xs ys)).items ≡ drop n v.items
  part_rest n behind =
      ap (drop n) items_are
      ∙ drop-put_mid start (end - start) xs ys n (omega arith) (omega (arith, ap length same)) length_is
      ∙ ap (drop n) same

  pub part_is : (m : ℕ) → m ≤ length ys → slice_range (with_items v (put_mid start (end - start) xs ys)).items start (start + m) ≡ take m ys
  part_is m within_it =
      ap (λ (s : List ℕ). slice_range s start (start + m)) items_are
      ∙ ap (take (start + m - start)) (drop_at (take start xs) (ys ++ drop (end - start) (drop start xs)) start (omega (arith, length-take start xs, ap length same)))
      ∙ ap (λ (k : ℕ). take k (ys ++ drop (end - start) (drop start xs))) (let e : start + m - start ≡ m = omega arith in e)
      ∙ take-append-le m ys (drop (end - start) (drop start xs)) within_it
