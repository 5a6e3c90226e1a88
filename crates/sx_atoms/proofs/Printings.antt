-- What is printed is read again.
use Rattle.std.proofs.Common.{◌≡◌, ℕ, zero, suc, ◌+◌, ◌*◌, ◌-◌, ◌/◌, ◌%◌, ◌^◌, ◌<◌, ◌≤◌, Bool, true, false, cond, nat_eq, List, [], ◌∷◌, ◌++◌, length, Ok, ℤ, pos, negsuc, refl, ap, sym, ◌∙◌, arith, append-nil, pow-add}
use Rattle.std.proofs.lemmas.Bool.{eqb-true}
use Rattle.std.proofs.lemmas.Bool.Decides.{nat_tests}
use Rattle.std.proofs.lemmas.Fmt.{decimal_is_IsNumeral_wide}
use Rattle.std.proofs.lemmas.Nat.{mod_below, div-add-mod'}
use Rattle.std.proofs.lemmas.List.Folds.{list_all-append}
use Rattle.std.proofs.Math.Nat.{zero-mul, add-mul, mul_assoc, mod-eq_of_lt}
use Rattle.std.specs.Char.{is_ascii_digit}
use Rattle.std.specs.Fmt.{decimal, signed_decimal}
use Rattle.sx_atoms.specs.Numbers.{fits}
use Rattle.sx_atoms.specs.Lexical.{digits_value, integer_in, units_value, decimal_in}
use Rattle.sx_atoms.specs.Printing.{places, onto, without_zeros, fraction_text, units_text, decimal_text}
use Rattle.sx_atoms.proofs.Places.{mod_step}
use Rattle.sx_atoms.proofs.Readings.{AreDigits, own, is_black, digits_black, first_digit, plain, plain_alone, before_point, after_point, all_before, none_after, integer_read, IsUnits, decimal_read}

places_length : (k n : ℕ) → length (places k n) ≡ k
unfolding places
places_length zero n = refl
places_length (suc k) n = ap suc (places_length k n)

-- the digits of places have the value of these places
places_value : (k n : ℕ) → digits_value (places k n) ≡ n % 10 ^ k
unfolding places
places_value zero n = omega (arith, mod_below n 1)
places_value (suc k) n =
    let d = n / 10 ^ k % 10 in
    let e : 48 + d - 48 ≡ d = omega arith in
    rw (places_length k n, places_value k n, e) (sym (mod_step k n))

places_digits : (k n : ℕ) → AreDigits (places k n)
unfolding places
places_digits zero n = refl
places_digits (suc k) n =
    let low = mod_below (n / 10 ^ k) 10 (omega arith) in
    let d : is_ascii_digit (48 + n / 10 ^ k % 10) ≡ true = grind (arith, nat_tests) in
    rw d (places_digits k n)

-- zeros at the end only make the value greater
pub record IsScaled (ds w : List ℕ) : Type 0 where
  pub shorter : length w ≤ length ds
  pub value : digits_value ds ≡ digits_value w * 10 ^ (length ds - length w)
  pub digits : AreDigits ds → AreDigits w

scaled_onto : (c : ℕ) (cs w : List ℕ) → IsScaled cs w → IsScaled (c ∷ cs) (onto c w)
scaled_onto c cs [] s = by (nat_eq c 48) (eqb-true c 48)
  where
    by : (b : Bool) → (b ≡ true → c ≡ 48) → IsScaled (c ∷ cs) (cond b [] (c ∷ []))
    by true f =
        let z : c - 48 ≡ 0 = let e = f refl in omega arith in
        let v : digits_value cs ≡ 0 = s.value ∙ zero-mul (10 ^ (length cs - 0)) in
        record {
          shorter = omega arith;
          value = rw (z, v) (omega (arith, zero-mul (10 ^ length cs), zero-mul (10 ^ (suc (length cs) - 0))));
          digits = λ h. refl;
        }
    by false f =
        let v : digits_value cs ≡ 0 = s.value ∙ zero-mul (10 ^ (length cs - 0)) in
        let e : suc (length cs) - 1 ≡ length cs = omega arith in
        let g : (c - 48) * 1 + 0 ≡ c - 48 = omega arith in
        record {
          shorter = omega arith;
          value = rw (v, e, g) (omega arith);
          digits = λ h. rw (first_digit c cs h).0 refl;
        }
scaled_onto c cs (d ∷ w) s =
    let m = length (d ∷ w) in
    let k = length cs - m in
    let v = digits_value (d ∷ w) in
    let e : suc (length cs) - suc m ≡ k = omega arith in
    let l : m + k ≡ length cs = omega (arith, s.shorter) in
    let p : 10 ^ length cs ≡ 10 ^ m * 10 ^ k = ap (λ (x : ℕ). 10 ^ x) (sym l) ∙ pow-add 10 m k in
    let q : ((c - 48) * 10 ^ m + v) * 10 ^ k ≡ (c - 48) * (10 ^ m * 10 ^ k) + v * 10 ^ k = add-mul ((c - 48) * 10 ^ m) v (10 ^ k) ∙ ap (λ (x : ℕ). x + v * 10 ^ k) (mul_assoc (c - 48) (10 ^ m) (10 ^ k)) in
    record {
      shorter = omega (arith, s.shorter);
      value = rw (e, q, p, s.value) refl;
      digits = λ h. let f = first_digit c cs h in rw f.0 (s.digits f.1);
    }

scaled : (ds : List ℕ) → IsScaled ds (without_zeros ds)
scaled [] = record { shorter = omega arith; value = refl; digits = λ h. h }
scaled (c ∷ cs) = scaled_onto c cs (without_zeros cs) (scaled cs)

-- a fraction has the value of its units
fraction_value : (r : ℕ) → r < 10 ^ 9 → digits_value (fraction_text r) * 10 ^ (9 - length (fraction_text r)) ≡ r
fraction_value r low =
    let f = fraction_text r in
    let e = places_length 9 r in
    ap (λ (k : ℕ). digits_value f * 10 ^ (k - length f)) (sym e) ∙ sym (scaled (places 9 r)).value ∙ places_value 9 r ∙ mod-eq_of_lt low

-- a number in digits
digits_of : (n : ℕ) → n < 10 ^ 64 → AreDigits (decimal n) × (0 < length (decimal n)) × (digits_value (decimal n) ≡ n)
digits_of n low =
    let p = decimal_is_IsNumeral_wide n low in
    (own.from (decimal n) p.0.1, p.0.0, own.same (decimal n) p.0.1 ∙ p.1)

-- an integer
pub integer_back : (n : ℤ) → fits n ≡ true → integer_in (signed_decimal n) ≡ Ok n
integer_back (pos n) h =
    let low : n < 2 ^ 127 = grind (arith, nat_tests) in
    let d = digits_of n (omega arith) in
    let p = plain_alone (decimal n) d.0 d.1 in
    integer_read false (decimal n) (decimal n) n (digits_black (decimal n) d.0) p.0 p.1 d.0 d.1 d.2 ∙ rw h refl
integer_back (negsuc n) h =
    let low : n < 2 ^ 127 = grind (arith, nat_tests) in
    let d = digits_of (suc n) (omega arith) in
    integer_read true (45 ∷ decimal (suc n)) (decimal (suc n)) (suc n) (digits_black (decimal (suc n)) d.0) refl refl d.0 d.1 d.2 ∙ rw h refl

-- units with a fraction and without one
with_fraction : (ds f : List ℕ) (n : ℕ) → AreDigits ds → 0 < length ds → AreDigits f → length f ≤ 9 → units_value ds f ≡ n → IsUnits (ds ++ 46 ∷ f) n
with_fraction ds f n d some g few e =
    let p = plain ds (46 ∷ f) d some in
    record {
      whole = ds;
      fraction = f;
      before = before_point ds f d;
      after = after_point ds f d;
      whole_digits = d;
      fraction_digits = g;
      some = some;
      few = few;
      value = e;
      black = list_all-append is_black ds (46 ∷ f) ∙ rw (digits_black ds d, digits_black f g) refl;
      no_minus = p.0;
      no_sign = p.1;
    }

whole_alone : (ds : List ℕ) (n : ℕ) → AreDigits ds → 0 < length ds → units_value ds [] ≡ n → IsUnits ds n
whole_alone ds n d some e =
    let p = plain_alone ds d some in
    record {
      whole = ds;
      fraction = [];
      before = all_before ds d;
      after = none_after ds d;
      whole_digits = d;
      fraction_digits = refl;
      some = some;
      few = omega arith;
      value = e;
      black = digits_black ds d;
      no_minus = p.0;
      no_sign = p.1;
    }

units_parts : (w r n : ℕ) → w < 10 ^ 64 → r < 10 ^ 9 → w * 10 ^ 9 + r ≡ n → (b : Bool) → (b ≡ true → r ≡ 0) → IsUnits (decimal w ++ cond b [] (46 ∷ fraction_text r)) n
units_parts w r n low small e true f =
    let d = digits_of w low in
    let z = f refl in
    let v : units_value (decimal w) [] ≡ n = rw d.2 (omega arith) in
    let a : decimal w ++ [] ≡ decimal w = append-nil (decimal w) in
    rw a (whole_alone (decimal w) n d.0 d.1 v)
units_parts w r n low small e false f =
    let d = digits_of w low in
    let t = fraction_text r in
    let s = scaled (places 9 r) in
    let l = places_length 9 r in
    let v : units_value (decimal w) t ≡ n = rw (d.2, fraction_value r small) e in
    with_fraction (decimal w) t n d.0 d.1 (s.digits (places_digits 9 r)) (omega (arith, s.shorter, l)) v

units_back : (n : ℕ) → n < 10 ^ 64 → IsUnits (units_text n) n
units_back n low =
    let w = n / 10 ^ 9 in
    let r = n % 10 ^ 9 in
    units_parts w r n (omega arith) (mod_below n (10 ^ 9) (omega arith)) (div-add-mod' n (10 ^ 9)) (nat_eq r 0) (eqb-true r 0)

-- a decimal
pub decimal_back : (z : ℤ) → fits z ≡ true → decimal_in (decimal_text z) ≡ Ok z
decimal_back (pos n) h =
    let low : n < 2 ^ 127 = grind (arith, nat_tests) in
    let u = units_back n (omega arith) in
    decimal_read false (units_text n) (units_text n) n u.black u.no_minus u.no_sign u ∙ rw h refl
decimal_back (negsuc n) h =
    let low : n < 2 ^ 127 = grind (arith, nat_tests) in
    let u = units_back (suc n) (omega arith) in
    decimal_read true (45 ∷ units_text (suc n)) (units_text (suc n)) (suc n) u.black refl refl u ∙ rw h refl
