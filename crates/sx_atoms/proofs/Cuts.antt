-- Quotients that are cut toward zero, and what they leave.
use Rattle.std.proofs.Common.{◌≡◌, ℕ, zero, suc, ◌+◌, ◌*◌, ◌/◌, ◌%◌, ◌<◌, Bool, true, false, Result, Ok, Err, ℤ, pos, negsuc, neg_ℤ, ◌+ℤ◌, ◌*ℤ◌, ◌≤ℤ◌, int_div, int_rem, unsigned_abs, [], ◌∷◌, refl, ap, sym, ◌∙◌, arith, if◌then◌else◌}
use Rattle.std.proofs.lemmas.Int.{ints, quot-rem, rem_below, unsigned_abs-mul}
use Rattle.std.specs.Ordering.{int_eq}
use Rattle.std.proofs.Math.Nat.{zero-mod, mul-div_cancel}
use Rattle.sx_atoms.specs.Numbers.{by_way_of, one_unit, units, is_zero, paired}
use Rattle.sx_atoms.specs.Arithmetic.{dec, number_of, dividend_and_divisor_of, with_operands, with_divisor, sum_of, product_of, decimal_quotient, quotient_of, whole_quotient_of, remainder_of}
use Rattle.sx_atoms.specs.Laws.{atom_of, IsQuotient}
use Rattle.sx_atoms.specs.declared.atoms.Atom.{Atom}
use Rattle.sx_atoms.specs.declared.atoms.Atom.TheVariants as atom
use Rattle.sx_atoms.specs.declared.atoms.Dec.{Dec}
use Rattle.sx_atoms.specs.declared.error_codes.Code.{Code}
use Rattle.sx_atoms.specs.declared.error_codes.Code.TheVariants as code
use Rattle.sx_atoms.specs.declared.numbers.Number.{Number}
use Rattle.sx_atoms.specs.declared.numbers.Number.TheVariants as number
use Rattle.sx_atoms.specs.declared.numbers.Operands.{Operands}
use Rattle.sx_atoms.specs.declared.numbers.Operands.TheVariants as operands
use Rattle.sx_atoms.proofs.Integers.{add-mul_ℤ, mul_assoc_ℤ}
use Rattle.sx_atoms.proofs.Pairs.{bind_ok, by_way_gives, pair_of, paired_gives, operands_given, number_of-atom_of}
use Rattle.sx_atoms.proofs.Sums.{number_sum, number_of_sum}
use Rattle.std.proofs.Math.IntN.{*ℤ_comm}

-- the remainder is on the side of zero on which the dividend is
rem_above : (x y : ℤ) → pos 0 ≤ℤ x → pos 0 ≤ℤ int_rem x y
rem_above (pos a) y h = omega (arith, ints)
rem_above (negsuc a) y h = absurd (omega (arith, ints))

neg_below : (k : ℕ) → neg_ℤ (pos k) ≤ℤ pos 0
neg_below zero = omega (arith, ints)
neg_below (suc k) = omega (arith, ints)

rem_below_zero : (x y : ℤ) → x ≤ℤ pos 0 → int_rem x y ≤ℤ pos 0
rem_below_zero (pos zero) y h = let e : zero % unsigned_abs y ≡ zero = zero-mod (unsigned_abs y) in omega (arith, ints)
rem_below_zero (pos (suc a)) y h = absurd (omega (arith, ints))
rem_below_zero (negsuc a) y h = neg_below (suc a % unsigned_abs y)

pub cut : (x y : ℤ) → 0 < unsigned_abs y → IsQuotient x y (int_div x y) (int_rem x y)
cut x y h = record { exact = quot-rem x y; less = rem_below x y h; above = rem_above x y; below = rem_below_zero x y }

-- a product with 10^9 keeps its side of zero
scaled_above : (x : ℤ) → pos 0 ≤ℤ x → pos 0 ≤ℤ (x *ℤ one_unit)
scaled_above (pos a) h = omega (arith, ints)
scaled_above (negsuc a) h = absurd (omega (arith, ints))

scaled_below : (x : ℤ) → x ≤ℤ pos 0 → (x *ℤ one_unit) ≤ℤ pos 0
scaled_below (pos a) h = omega (arith, ints)
scaled_below (negsuc a) h = neg_below (suc a * 1000000000)

unscaled_above : (x : ℤ) → pos 0 ≤ℤ (x *ℤ one_unit) → pos 0 ≤ℤ x
unscaled_above (pos a) h = omega (arith, ints)
unscaled_above (negsuc a) h = omega (arith, ints)

unscaled_below : (x : ℤ) → (x *ℤ one_unit) ≤ℤ pos 0 → x ≤ℤ pos 0
unscaled_below (pos a) h = omega (arith, ints)
unscaled_below (negsuc a) h = omega (arith, ints)

pub scaled_cut : (x y q r : ℤ) → IsQuotient x y q r → IsQuotient (x *ℤ one_unit) (y *ℤ one_unit) q (r *ℤ one_unit)
scaled_cut x y q r c = record {
  exact = ap (λ (z : ℤ). z +ℤ (r *ℤ one_unit)) (sym (mul_assoc_ℤ q y one_unit)) ∙ sym (add-mul_ℤ (q *ℤ y) r one_unit) ∙ ap (λ (z : ℤ). z *ℤ one_unit) c.exact;
  less = omega (arith, unsigned_abs-mul r one_unit, unsigned_abs-mul y one_unit, c.less);
  above = λ h. scaled_above r (c.above (unscaled_above x h));
  below = λ h. scaled_below r (c.below (unscaled_below x h));
}

-- a number that is not zero has a size
size : (n : ℤ) → int_eq n (pos 0) ≡ false → 0 < unsigned_abs n
size (pos zero) h = absurd (cc)
size (pos (suc n)) h = omega arith
size (negsuc n) h = omega arith

not_zero : (t : Bool) (r : Result Operands Code) (q : Operands) → (if t then Err code.Foar0001 else r) ≡ Ok q → (t ≡ false) × (r ≡ Ok q)
not_zero true r q h = absurd (cc)
not_zero false r q h = (refl, h)

divisor_pair : (x y : Number) (q : Operands) → dividend_and_divisor_of (atom_of x) (atom_of y) ≡ Ok q → (is_zero y ≡ false) × (q ≡ pair_of x y)
divisor_pair (number.Int a) (number.Int b) q h =
    let z = not_zero (is_zero (number.Int b)) (paired (number.Int a) (number.Int b)) q h in (z.0, paired_gives (number.Int a) (number.Int b) q z.1)
divisor_pair (number.Int a) (number.Dec e) q h =
    let z = not_zero (is_zero (number.Dec e)) (paired (number.Int a) (number.Dec e)) q h in (z.0, paired_gives (number.Int a) (number.Dec e) q z.1)
divisor_pair (number.Dec d) (number.Int b) q h =
    let z = not_zero (is_zero (number.Int b)) (paired (number.Dec d) (number.Int b)) q h in (z.0, paired_gives (number.Dec d) (number.Int b) q z.1)
divisor_pair (number.Dec d) (number.Dec e) q h =
    let z = not_zero (is_zero (number.Dec e)) (paired (number.Dec d) (number.Dec e)) q h in (z.0, paired_gives (number.Dec d) (number.Dec e) q z.1)

-- the operands of a division that had an answer
pub divisor_given : (f : Operands → Result Atom Code) (x y : Number) (s : Atom) → with_divisor f (atom_of x) (atom_of y) ≡ Ok s
    → (is_zero y ≡ false) × (f (pair_of x y) ≡ Ok s)
divisor_given f x y s h =
    let p = bind_ok (dividend_and_divisor_of (atom_of x) (atom_of y)) f s h in
    let q = divisor_pair x y p.0 p.1 in
    (q.0, ap f (sym q.1) ∙ p.2)

-- a divisor in units has a size, too
units_size : (y : Number) → is_zero y ≡ false → 0 < unsigned_abs (units y)
units_size (number.Int b) h = omega (arith, unsigned_abs-mul b one_unit, size b h)
units_size (number.Dec e) h = size e.0 h

-- an atom is one_unit number
one_number : (r n : Number) → atom_of r ≡ atom_of n → r ≡ n
one_number r n h = let e : Ok r ≡ Ok n = sym (number_of-atom_of r) ∙ ap number_of h ∙ number_of-atom_of n in cc

-- an answer that is made by way of one_unit integer, and of two
units_cut : (u v : ℤ) (r : Number) (q : ℤ) → 0 < unsigned_abs v → by_way_of (int_div u v ∷ []) (atom.Int (int_div u v)) ≡ Ok (atom.Int q)
    → by_way_of (int_rem u v ∷ []) (atom.Dec (dec (int_rem u v))) ≡ Ok (atom_of r) → IsQuotient u v q (units r)
units_cut u v r q some h g =
    let e : atom.Int q ≡ atom.Int (int_div u v) = by_way_gives (int_div u v ∷ []) (atom.Int (int_div u v)) (atom.Int q) h in
    let f : q ≡ int_div u v = cc in
    let k : r ≡ number.Dec (dec (int_rem u v)) = one_number r (number.Dec (dec (int_rem u v))) (by_way_gives (int_rem u v ∷ []) (atom.Dec (dec (int_rem u v))) (atom_of r) g) in
    rw (f, k) (cut u v some)

-- the whole quotient and the remainder
pub whole_law : (x y r : Number) (q : ℤ) → is_zero y ≡ false → whole_quotient_of (pair_of x y) ≡ Ok (atom.Int q)
    → remainder_of (pair_of x y) ≡ Ok (atom_of r) → IsQuotient (units x) (units y) q (units r)
whole_law (number.Int a) (number.Int b) r q z h g =
    let e : atom.Int q ≡ atom.Int (int_div a b) = by_way_gives (int_div a b ∷ []) (atom.Int (int_div a b)) (atom.Int q) h in
    let f : q ≡ int_div a b = cc in
    let k : r ≡ number.Int (int_rem a b) = one_number r (number.Int (int_rem a b)) (by_way_gives (int_rem a b ∷ []) (atom.Int (int_rem a b)) (atom_of r) g) in
    rw (f, k) (scaled_cut a b (int_div a b) (int_rem a b) (cut a b (size b z)))
whole_law (number.Int a) (number.Dec e) r q z h g = units_cut (a *ℤ one_unit) e.0 r q (size e.0 z) h g
whole_law (number.Dec d) (number.Int b) r q z h g = units_cut d.0 (b *ℤ one_unit) r q (units_size (number.Int b) z) h g
whole_law (number.Dec d) (number.Dec e) r q z h g = units_cut d.0 e.0 r q (size e.0 z) h g

-- atoms of the same units
same_units : (d z : ℤ) → atom.Dec (dec d) ≡ atom.Dec (dec z) → d ≡ z
same_units d z h = let e : dec d ≡ dec z = cc in ap (λ (x : Dec). x.0) e

-- a decimal quotient
quotient_is : (a b d : ℤ) → decimal_quotient a b ≡ Ok (atom.Dec (dec d)) → d ≡ int_div (a *ℤ one_unit) b
quotient_is a b d h =
    let z = int_div (a *ℤ one_unit) b in
    same_units d z (by_way_gives ((a *ℤ one_unit) ∷ z ∷ []) (atom.Dec (dec z)) (atom.Dec (dec d)) h)

quotient_cut : (a b d : ℤ) → 0 < unsigned_abs b → decimal_quotient a b ≡ Ok (atom.Dec (dec d)) → IsQuotient (a *ℤ one_unit) b d (int_rem (a *ℤ one_unit) b)
quotient_cut a b d some h = rw (quotient_is a b d h) (cut (a *ℤ one_unit) b some)

pub quotient_law : (x y : Number) (d : ℤ) → is_zero y ≡ false → quotient_of (pair_of x y) ≡ Ok (atom.Dec (dec d)) → (r : ℤ) × IsQuotient (units x *ℤ one_unit) (units y) d r
quotient_law (number.Int a) (number.Int b) d z h =
    let r = int_rem (a *ℤ one_unit) b in
    (r *ℤ one_unit, scaled_cut (a *ℤ one_unit) b d r (quotient_cut a b d (size b z) h))
quotient_law (number.Int a) (number.Dec e) d z h = (int_rem ((a *ℤ one_unit) *ℤ one_unit) e.0, quotient_cut (a *ℤ one_unit) e.0 d (size e.0 z) h)
quotient_law (number.Dec f) (number.Int b) d z h = (int_rem (f.0 *ℤ one_unit) (b *ℤ one_unit), quotient_cut f.0 (b *ℤ one_unit) d (units_size (number.Int b) z) h)
quotient_law (number.Dec f) (number.Dec e) d z h = (int_rem (f.0 *ℤ one_unit) e.0, quotient_cut f.0 e.0 d (size e.0 z) h)

-- a product of decimals
pub product_law : (d e p : ℤ) → with_operands product_of (atom.Dec (dec d)) (atom.Dec (dec e)) ≡ Ok (atom.Dec (dec p)) → (r : ℤ) × IsQuotient (d *ℤ e) one_unit p r
product_law d e p h =
    let g = operands_given product_of (atom.Dec (dec d)) (atom.Dec (dec e)) (atom.Dec (dec p)) h in
    let z = int_div (d *ℤ e) one_unit in
    let l : g.0 ≡ number.Dec (dec d) = let t = g.2.left in cc in
    let r : g.1 ≡ number.Dec (dec e) = let t = g.2.right in cc in
    let a : product_of (operands.Units d e) ≡ Ok (atom.Dec (dec p)) = ap (λ (n : Number). product_of (pair_of n (number.Dec (dec e)))) (sym l) ∙ ap (λ (n : Number). product_of (pair_of g.0 n)) (sym r) ∙ g.2.answer in
    let f : p ≡ z = same_units p z (by_way_gives ((d *ℤ e) ∷ z ∷ []) (atom.Dec (dec z)) (atom.Dec (dec p)) a) in
    (int_rem (d *ℤ e) one_unit, rw f (cut (d *ℤ e) one_unit (omega arith)))

-- a product with 10^9 that is divided by it
whole_again : (k : ℤ) → int_div (k *ℤ one_unit) one_unit ≡ k
whole_again (pos n) = ap pos (mul-div_cancel n (omega arith))
whole_again (negsuc n) =
    let m = n * 1000000000 + 999999999 in
    let e : suc n * 1000000000 ≡ suc m = omega arith in
    let f : suc m / 1000000000 ≡ suc n = ap (λ (x : ℕ). x / 1000000000) (sym e) ∙ mul-div_cancel (suc n) (omega arith) in
    ap (λ (x : ℕ). int_div (neg_ℤ (pos x)) one_unit) e ∙ ap (λ (x : ℕ). neg_ℤ (pos x)) f

-- a whole quotient times the divisor
times_divisor : (q : ℤ) (y p : Number) → product_of (pair_of (number.Int q) y) ≡ Ok (atom_of p) → units p ≡ q *ℤ units y
times_divisor q (number.Int b) p h =
    let e : p ≡ number.Int (q *ℤ b) = one_number p (number.Int (q *ℤ b)) (by_way_gives ((q *ℤ b) ∷ []) (atom.Int (q *ℤ b)) (atom_of p) h) in
    rw e (mul_assoc_ℤ q b one_unit)
times_divisor q (number.Dec e) p h =
    let w = (q *ℤ one_unit) *ℤ e.0 in
    let z = int_div w one_unit in
    let f : p ≡ number.Dec (dec z) = one_number p (number.Dec (dec z)) (by_way_gives (w ∷ z ∷ []) (atom.Dec (dec z)) (atom_of p) h) in
    let g : w ≡ (q *ℤ e.0) *ℤ one_unit = mul_assoc_ℤ q one_unit e.0 ∙ ap (λ (x : ℤ). q *ℤ x) (*ℤ_comm one_unit e.0) ∙ sym (mul_assoc_ℤ q e.0 one_unit) in
    rw (f, g) (whole_again (q *ℤ e.0))

units_sum : (x y : Number) → units (number_sum x y) ≡ units x +ℤ units y
units_sum (number.Int a) (number.Int b) = add-mul_ℤ a b one_unit
units_sum (number.Int a) (number.Dec e) = refl
units_sum (number.Dec d) (number.Int b) = refl
units_sum (number.Dec d) (number.Dec e) = refl

-- the quotient times the divisor, and what is left
pub restored : (x y r p s : Number) (q : ℤ) → is_zero y ≡ false → whole_quotient_of (pair_of x y) ≡ Ok (atom.Int q)
    → remainder_of (pair_of x y) ≡ Ok (atom_of r) → with_operands product_of (atom.Int q) (atom_of y) ≡ Ok (atom_of p)
    → with_operands sum_of (atom_of p) (atom_of r) ≡ Ok (atom_of s) → units s ≡ units x
restored x y r p s q z h g k l =
    let w = whole_law x y r q z h g in
    let o = operands_given product_of (atom.Int q) (atom_of y) (atom_of p) k in
    let a : o.0 ≡ number.Int q = let t = o.2.left in cc in
    let b : o.1 ≡ y = let t = sym o.2.right ∙ number_of-atom_of y in cc in
    let c : product_of (pair_of (number.Int q) y) ≡ Ok (atom_of p) = ap (λ (n : Number). product_of (pair_of n y)) (sym a) ∙ ap (λ (n : Number). product_of (pair_of o.0 n)) (sym b) ∙ o.2.answer in
    let t : units p ≡ q *ℤ units y = times_divisor q y p c in
    let e : s ≡ number_sum p r = one_number s (number_sum p r) (number_of_sum (atom_of p) (atom_of r) (atom_of s) l p r (number_of-atom_of p) (number_of-atom_of r)) in
    ap units e ∙ units_sum p r ∙ ap (λ (n : ℤ). n +ℤ units r) t ∙ w.exact
