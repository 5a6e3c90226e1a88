-- The order of atoms.
use Rattle.std.proofs.Common.{◌≡◌, Bool, true, false, ℕ, List, ℤ, Ok, refl, ap, sym, ◌∙◌}
use Rattle.std.proofs.lemmas.Cmp.{int_cmp_total, nat_list_cmp_total, tied_itself}
use Rattle.std.specs.Cmp.{IsTotalOrder, bool_cmp_total}
use Rattle.std.specs.Cmp.Lexicographic.{slice_cmp}
use Rattle.std.specs.Ordering.{nat_cmp, int_cmp, is_eq, ordering_reverse}
use Rattle.std.specs.Result.{result_unwrap_or}
use Rattle.std.specs.declared.cmp.Ordering.{Ordering}
use Rattle.std.specs.declared.cmp.Ordering.TheVariants.{Less, Equal, Greater}
use Rattle.sx_atoms.specs.Comparison as values
use Rattle.sx_atoms.specs.Comparison.{Value, order_of, holds, value_of}
use Rattle.sx_atoms.specs.Numbers.{◌>>=◌, units}
use Rattle.sx_atoms.specs.declared.atoms.Atom.{Atom}
use Rattle.sx_atoms.specs.declared.atoms.Atom.TheVariants as atom
use Rattle.sx_atoms.specs.declared.comparison.CmpOp.{CmpOp}
use Rattle.sx_atoms.specs.declared.comparison.CmpOp.TheVariants as op
use Rattle.sx_atoms.specs.declared.numbers.Number.TheVariants as number
use Rattle.sx_fn_seq.specs.Distinct.{are_equal}
use Rattle.sx_fn_seq.specs.Order.{stands}

-- whether an operator holds of two values
abbrev pub of_values : CmpOp → Value → Value → Bool
of_values operator x y = result_unwrap_or (order_of x y >>= (λ o. Ok (holds operator o))) false

pub is_equal : (o : Ordering) → is_eq o ≡ true → o ≡ Equal
is_equal Less h = cc
is_equal Equal h = refl
is_equal Greater h = cc

-- what equals one of two equal values equals the other, in a total order
along : {K : Type 0} {R : K → K → Ordering} → IsTotalOrder R → (x y z : K) → is_eq (R x y) ≡ true → is_eq (R y z) ≡ true → is_eq (R x z) ≡ true
along {K} {R} total x y z h g = ap is_eq (total.congr x y z (is_equal (R x y) h)) ∙ g

pub values_along : (x y z : Value) → of_values op.Eq x y ≡ true → of_values op.Eq y z ≡ true → of_values op.Eq x z ≡ true
values_along (values.quantity x) (values.quantity y) (values.quantity z) h g = along int_cmp_total x y z h g
values_along (values.quantity x) (values.quantity y) (values.text z) h g = absurd (cc)
values_along (values.quantity x) (values.quantity y) (values.truth z) h g = absurd (cc)
values_along (values.quantity x) (values.text y) z h g = absurd (cc)
values_along (values.quantity x) (values.truth y) z h g = absurd (cc)
values_along (values.text x) (values.text y) (values.text z) h g = along nat_list_cmp_total x y z h g
values_along (values.text x) (values.text y) (values.quantity z) h g = absurd (cc)
values_along (values.text x) (values.text y) (values.truth z) h g = absurd (cc)
values_along (values.text x) (values.quantity y) z h g = absurd (cc)
values_along (values.text x) (values.truth y) z h g = absurd (cc)
values_along (values.truth x) (values.truth y) (values.truth z) h g = along bool_cmp_total x y z h g
values_along (values.truth x) (values.truth y) (values.quantity z) h g = absurd (cc)
values_along (values.truth x) (values.truth y) (values.text z) h g = absurd (cc)
values_along (values.truth x) (values.quantity y) z h g = absurd (cc)
values_along (values.truth x) (values.text y) z h g = absurd (cc)

-- equal atoms equal the same ones
pub equal_along : (x a b : Atom) → are_equal x a ≡ true → are_equal a b ≡ true → are_equal x b ≡ true
equal_along x a b h g = values_along (value_of x) (value_of a) (value_of b) h g

-- an operator that holds only of different values, by a total order
pub record IsStrict {K : Type 0} (beats : K → K → Bool) : Type 0 where
  pub itself : (x : K) → beats x x ≡ false
  pub back : (x y : K) → beats x y ≡ true → beats y x ≡ false
  pub beyond : (x y z : K) → beats x z ≡ true → beats y z ≡ false → beats x y ≡ true

less_strict : {K : Type 0} {R : K → K → Ordering} → IsTotalOrder R → IsStrict (λ x y. holds op.Lt (R x y))
less_strict {K} {R} total = record { itself = λ x. ap (holds op.Lt) (tied_itself total x); back = back; beyond = beyond }
  where
    turned : (x y : K) (o : Ordering) → R x y ≡ o → R y x ≡ ordering_reverse o
    turned x y o h = total.antisymm y x ∙ ap ordering_reverse h

    back_by : (x y : K) (o : Ordering) → R x y ≡ o → holds op.Lt o ≡ true → holds op.Lt (R y x) ≡ false
    back_by x y Less h g = ap (holds op.Lt) (turned x y Less h)
    back_by x y Equal h g = absurd (cc)
    back_by x y Greater h g = absurd (cc)

    back : (x y : K) → holds op.Lt (R x y) ≡ true → holds op.Lt (R y x) ≡ false
    back x y h = back_by x y (R x y) refl h

    less : (o : Ordering) → holds op.Lt o ≡ true → o ≡ Less
    less Less h = refl
    less Equal h = absurd (cc)
    less Greater h = absurd (cc)

    beyond_by : (x y z : K) (o : Ordering) → R y z ≡ o → R x z ≡ Less → holds op.Lt o ≡ false → holds op.Lt (R x y) ≡ true
    beyond_by x y z Less h f g = absurd (cc)
    beyond_by x y z Equal h f g = ap (holds op.Lt) (turned y x Greater (total.congr y z x h ∙ turned x z Less f))
    beyond_by x y z Greater h f g = ap (holds op.Lt) (total.trans x z y f (turned y z Greater h))

    beyond : (x y z : K) → holds op.Lt (R x z) ≡ true → holds op.Lt (R y z) ≡ false → holds op.Lt (R x y) ≡ true
    beyond x y z h g = beyond_by x y z (R y z) refl (less (R x z) h) g

greater_strict : {K : Type 0} {R : K → K → Ordering} → IsTotalOrder R → IsStrict (λ x y. holds op.Gt (R x y))
greater_strict {K} {R} total = record { itself = λ x. ap (holds op.Gt) (tied_itself total x); back = back; beyond = beyond }
  where
    turned : (x y : K) (o : Ordering) → R x y ≡ o → R y x ≡ ordering_reverse o
    turned x y o h = total.antisymm y x ∙ ap ordering_reverse h

    greater : (o : Ordering) → holds op.Gt o ≡ true → o ≡ Greater
    greater Less h = absurd (cc)
    greater Equal h = absurd (cc)
    greater Greater h = refl

    back : (x y : K) → holds op.Gt (R x y) ≡ true → holds op.Gt (R y x) ≡ false
    back x y h = ap (holds op.Gt) (turned x y Greater (greater (R x y) h))

    beyond_by : (x y z : K) (o : Ordering) → R y z ≡ o → R z x ≡ Less → holds op.Gt o ≡ false → holds op.Gt (R x y) ≡ true
    beyond_by x y z Less h f g = ap (holds op.Gt) (turned y x Less (total.trans y z x h f))
    beyond_by x y z Equal h f g = ap (holds op.Gt) (turned y x Less (total.congr y z x h ∙ f))
    beyond_by x y z Greater h f g = absurd (cc)

    beyond : (x y z : K) → holds op.Gt (R x z) ≡ true → holds op.Gt (R y z) ≡ false → holds op.Gt (R x y) ≡ true
    beyond x y z h g = beyond_by x y z (R y z) refl (turned x z Greater (greater (R x z) h)) g

-- an atom that is compared among texts, and one that is compared among numbers
abbrev pub IsOf : Bool → Atom → Type 0
IsOf true (atom.Str s) = Unit {0}
IsOf true (atom.Int n) = ⊥
IsOf true (atom.Dec d) = ⊥
IsOf true (atom.Bool b) = ⊥
IsOf true (atom.Untyped s) = ⊥
IsOf false (atom.Str s) = ⊥
IsOf false (atom.Int n) = Unit {0}
IsOf false (atom.Dec d) = Unit {0}
IsOf false (atom.Bool b) = ⊥
IsOf false (atom.Untyped s) = ⊥

text_in : (x : Atom) → IsOf true x → (s : List ℕ) × (value_of x ≡ values.text s)
text_in (atom.Str s) h = (s, refl)
text_in (atom.Int n) h = absurd h
text_in (atom.Dec d) h = absurd h
text_in (atom.Bool b) h = absurd h
text_in (atom.Untyped s) h = absurd h

number_in : (x : Atom) → IsOf false x → (z : ℤ) × (value_of x ≡ values.quantity z)
number_in (atom.Str s) h = absurd h
number_in (atom.Int n) h = (units (number.Int n), refl)
number_in (atom.Dec d) h = (units (number.Dec d), refl)
number_in (atom.Bool b) h = absurd h
number_in (atom.Untyped s) h = absurd h

-- an operator that holds only of different values, among texts or among numbers
pub record IsStrictAmong (t : Bool) (o : CmpOp) : Type 0 where
  pub itself : (x : Atom) → IsOf t x → stands o x x ≡ false
  pub back : (x y : Atom) → IsOf t x → IsOf t y → stands o x y ≡ true → stands o y x ≡ false
  pub beyond : (x y z : Atom) → IsOf t x → IsOf t y → IsOf t z → stands o x z ≡ true → stands o y z ≡ false → stands o x y ≡ true

-- what stands of two values, stands of two atoms that have them
standing : (o : CmpOp) (x y : Atom) (v w : Value) → value_of x ≡ v → value_of y ≡ w → stands o x y ≡ of_values o v w
standing o x y v w e f = ap (λ (u : Value). of_values o u (value_of y)) e ∙ ap (of_values o v) f

texts_strict : (o : CmpOp) → IsStrict (λ x y. holds o (slice_cmp nat_cmp x y)) → IsStrictAmong true o
texts_strict o strict = record {
  itself = λ x h. let p = text_in x h in standing o x x _ _ p.1 p.1 ∙ strict.itself p.0;
  back = λ x y h g e. let p = text_in x h in let q = text_in y g in
      standing o y x _ _ q.1 p.1 ∙ strict.back p.0 q.0 (sym (standing o x y _ _ p.1 q.1) ∙ e);
  beyond = λ x y z h g k e f. let p = text_in x h in let q = text_in y g in let r = text_in z k in
      standing o x y _ _ p.1 q.1 ∙ strict.beyond p.0 q.0 r.0 (sym (standing o x z _ _ p.1 r.1) ∙ e) (sym (standing o y z _ _ q.1 r.1) ∙ f);
}

numbers_strict : (o : CmpOp) → IsStrict (λ x y. holds o (int_cmp x y)) → IsStrictAmong false o
numbers_strict o strict = record {
  itself = λ x h. let p = number_in x h in standing o x x _ _ p.1 p.1 ∙ strict.itself p.0;
  back = λ x y h g e. let p = number_in x h in let q = number_in y g in
      standing o y x _ _ q.1 p.1 ∙ strict.back p.0 q.0 (sym (standing o x y _ _ p.1 q.1) ∙ e);
  beyond = λ x y z h g k e f. let p = number_in x h in let q = number_in y g in let r = number_in z k in
      standing o x y _ _ p.1 q.1 ∙ strict.beyond p.0 q.0 r.0 (sym (standing o x z _ _ p.1 r.1) ∙ e) (sym (standing o y z _ _ q.1 r.1) ∙ f);
}

pub less_among : (t : Bool) → IsStrictAmong t op.Lt
less_among true = texts_strict op.Lt (less_strict nat_list_cmp_total)
less_among false = numbers_strict op.Lt (less_strict int_cmp_total)

pub greater_among : (t : Bool) → IsStrictAmong t op.Gt
greater_among true = texts_strict op.Gt (greater_strict nat_list_cmp_total)
greater_among false = numbers_strict op.Gt (greater_strict int_cmp_total)
