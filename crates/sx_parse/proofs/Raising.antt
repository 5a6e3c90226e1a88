-- Levels: what one more makes of the whole_level.
use Rattle.std.proofs.Common.{◌≡◌, ℕ, suc, ◌+◌, ◌*◌, ◌<◌, ◌≤◌, Bool, false, List, [], ◌∷◌, ◌++◌, map, reverse, length, length-append, append_assoc, append-nil, refl, ap, sym, ◌∙◌, arith}
use Rattle.std.proofs.lemmas.List.{reverse-append}
use Rattle.sx_kinds.specs.declared.expressions.Expr.{Expr}
use Rattle.sx_parse.specs.Numbered.{Numbers, construct_count, counts, in_order, numbers_in}
use Rattle.sx_parse.specs.Raised.{left_of, level_with_parts, whole_level, levels_behind, raised, levels_ended, levels_waiting}
use Rattle.sx_parse.specs.declared.numbering.Level.{Level}

pub ended_push : (ls : List Level) (l : Level) (n : ℕ) → levels_ended (ls ++ l ∷ []) n ≡ levels_ended ls (levels_behind l n)
ended_push [] l n = refl
ended_push (k ∷ ls) l n = ap (levels_behind k) (ended_push ls l n)

pub raised_push : (ls : List Level) (l : Level) (e : Expr) (n : ℕ) →
    raised (ls ++ l ∷ []) e n ≡ raised ls (level_with_parts l (l.done ++ e ∷ in_order l.outside n (left_of l))) (levels_behind l n)
raised_push [] l e n = refl
raised_push (k ∷ ls) l e n =
    ap (λ (m : ℕ). level_with_parts k (k.done ++ raised (ls ++ l ∷ []) e n ∷ in_order k.outside m (left_of k))) (ended_push ls l n)
    ∙ ap (λ (x : Expr). level_with_parts k (k.done ++ x ∷ in_order k.outside (levels_ended ls (levels_behind l n)) (left_of k))) (raised_push ls l e n)

-- no number goes back
pub ended_grows : (ls : List Level) (n : ℕ) → n ≤ levels_ended ls n
ended_grows [] n = omega arith
ended_grows (l ∷ ls) n = omega (arith, ended_grows ls n)

pub waiting_push : (ls : List Level) (l : Level) → levels_waiting (ls ++ l ∷ []) ≡ levels_waiting ls + counts false (left_of l)
waiting_push [] l = omega arith
waiting_push (k ∷ ls) l = omega (arith, waiting_push ls l)

-- what is numbered in the parts left, by the first one of them
left_by_first : (l : Level) (rest : List Expr) (part : Expr) → l.left ≡ rest ++ part ∷ [] → left_of l ≡ numbers_in part ∷ map numbers_in (reverse rest)
left_by_first l rest part e =
    ap (λ (es : List Expr). map numbers_in (reverse es)) e ∙ ap (λ (es : List Expr). map numbers_in es) (reverse-append rest (part ∷ []))

none_left : (l : Level) → l.left ≡ [] → left_of l ≡ []
none_left l e = ap (λ (es : List Expr). map numbers_in (reverse es)) e

-- the innermost level without the first part left, and that part's own level on it
module _ (ls new : List Level) (l inner : Level) (rest : List Expr) (part : Expr) (n m : ℕ) (first : l.left ≡ rest ++ part ∷ []) (pushed : new ≡ ls ++ record l { left = rest } ∷ []) where
  pub down_ended : levels_behind inner m ≡ n + (numbers_in part l.outside).count → levels_ended new (levels_behind inner m) ≡ levels_ended ls (levels_behind l n)
  down_ended next =
      ap (λ (ks : List Level). levels_ended ks (levels_behind inner m)) pushed
      ∙ ended_push ls (record l { left = rest }) (levels_behind inner m)
      ∙ ap (levels_ended ls) (let e : levels_behind (record l { left = rest }) (levels_behind inner m) ≡ levels_behind l n = omega (arith, next, ap (counts l.outside) (left_by_first l rest part first)) in e)

  pub down_raised : whole_level inner m ≡ (numbers_in part l.outside).from n → levels_behind inner m ≡ n + (numbers_in part l.outside).count
      → raised new (whole_level inner m) (levels_behind inner m) ≡ raised ls (whole_level l n) (levels_behind l n)
  down_raised is next =
      let waits = map numbers_in (reverse rest) in
      let k : ℕ = n + (numbers_in part l.outside).count in
      ap (λ (ks : List Level). raised ks (whole_level inner m) (levels_behind inner m)) pushed
      ∙ raised_push ls (record l { left = rest }) (whole_level inner m) (levels_behind inner m)
      ∙ ap (λ (b : ℕ). raised ls (level_with_parts l (l.done ++ whole_level inner m ∷ in_order l.outside b waits)) (b + counts l.outside waits)) next
      ∙ ap (λ (e : Expr). raised ls (level_with_parts l (l.done ++ e ∷ in_order l.outside k waits)) (k + counts l.outside waits)) is
      ∙ ap (raised ls (level_with_parts l (l.done ++ in_order l.outside n (numbers_in part ∷ waits)))) (let e : k + counts l.outside waits ≡ n + counts l.outside (numbers_in part ∷ waits) = omega arith in e)
      ∙ ap (λ (ps : List (Bool → Numbers)). raised ls (level_with_parts l (l.done ++ in_order l.outside n ps)) (n + counts l.outside ps)) (sym (left_by_first l rest part first))

  pub down_smaller : construct_count part ≡ suc (counts false (left_of inner))
      → 2 * (levels_waiting new + counts false (left_of inner)) + length new < 2 * (levels_waiting ls + counts false (left_of l)) + length ls
  down_smaller size =
      omega (
        arith,
        size,
        ap levels_waiting pushed,
        waiting_push ls (record l { left = rest }),
        ap length pushed,
        length-append ls (record l { left = rest } ∷ []),
        ap (counts false) (left_by_first l rest part first),
      )

  pub down_room : n + (numbers_in part l.outside).count ≤ levels_ended ls (levels_behind l n)
  down_room = omega (arith, ended_grows ls (levels_behind l n), ap (counts l.outside) (left_by_first l rest part first))

-- the innermost level, whose parts are all numbered, as a part of the next one
module _ (ls old : List Level) (l outer : Level) (done : List Expr) (made : Expr) (n : ℕ) (none : l.left ≡ []) (popped : old ≡ ls ++ outer ∷ []) where
  pub up_ended : levels_ended ls (levels_behind (record outer { done = done }) n) ≡ levels_ended old (levels_behind l n)
  up_ended =
      ap (λ (b : ℕ). levels_ended ls (levels_behind outer b)) (let e : n ≡ levels_behind l n = omega (arith, ap (counts l.outside) (none_left l none)) in e)
      ∙ sym (ended_push ls outer (levels_behind l n))
      ∙ ap (λ (ks : List Level). levels_ended ks (levels_behind l n)) (sym popped)

  pub up_raised : made ≡ level_with_parts l l.done → done ≡ outer.done ++ made ∷ []
      → raised ls (whole_level (record outer { done = done }) n) (levels_behind (record outer { done = done }) n) ≡ raised old (whole_level l n) (levels_behind l n)
  up_raised is pushed =
      let made_whole : made ≡ whole_level l n =
      is ∙ ap (level_with_parts l) (sym (append-nil l.done) ∙ ap (λ (ps : List (Bool → Numbers)). l.done ++ in_order l.outside n ps) (sym (none_left l none))) in
      let parts : done ++ in_order outer.outside n (left_of outer) ≡ outer.done ++ whole_level l n ∷ in_order outer.outside n (left_of outer) =
      ap (λ (es : List Expr). es ++ in_order outer.outside n (left_of outer)) pushed
      ∙ append_assoc outer.done (made ∷ []) (in_order outer.outside n (left_of outer))
      ∙ ap (λ (e : Expr). outer.done ++ e ∷ in_order outer.outside n (left_of outer)) made_whole in
      ap (λ (es : List Expr). raised ls (level_with_parts outer es) (levels_behind outer n)) parts
      ∙ ap (λ (b : ℕ). raised ls (level_with_parts outer (outer.done ++ whole_level l n ∷ in_order outer.outside b (left_of outer))) (levels_behind outer b))
      (let e : n ≡ levels_behind l n = omega (arith, ap (counts l.outside) (none_left l none)) in e)
      ∙ sym (raised_push ls outer (whole_level l n) (levels_behind l n))
      ∙ ap (λ (ks : List Level). raised ks (whole_level l n) (levels_behind l n)) (sym popped)

  pub up_smaller : 2 * (levels_waiting ls + counts false (left_of (record outer { done = done }))) + length ls < 2 * (levels_waiting old + counts false (left_of l)) + length old
  up_smaller = omega (arith, ap levels_waiting popped, waiting_push ls outer, ap length popped, length-append ls (outer ∷ []))
