-- What is known of an answer that is no code.
use Rattle.std.proofs.Common.{◌≡◌, List, [], ◌∷◌, Result, Ok, Err, ℤ, refl, ap, sym, ◌∙◌}
use Rattle.sx_atoms.specs.Numbers.{◌>>=◌, held_in_range, by_way_of, units, paired}
use Rattle.sx_atoms.specs.Arithmetic.{number_of, with_operands}
use Rattle.sx_atoms.specs.Laws.{atom_of}
use Rattle.sx_atoms.specs.declared.atoms.Atom.{Atom}
use Rattle.sx_atoms.specs.declared.error_codes.Code.{Code}
use Rattle.sx_atoms.specs.declared.numbers.Number.{Number}
use Rattle.sx_atoms.specs.declared.numbers.Number.TheVariants as number
use Rattle.sx_atoms.specs.declared.numbers.Operands.{Operands}
use Rattle.sx_atoms.specs.declared.numbers.Operands.TheVariants as operands

-- both steps had an answer
pub bind_ok : {A B : Type 0} (r : Result A Code) (f : A → Result B Code) (b : B) → (r >>= f) ≡ Ok b → (a : A) × (r ≡ Ok a) × (f a ≡ Ok b)
bind_ok (Ok x) f b h = (x, refl, h)
bind_ok (Err e) f b h = absurd (cc)

-- the answer is the one that is stated
pub by_way_gives : {A : Type 0} (zs : List ℤ) (answer a : A) → by_way_of zs answer ≡ Ok a → a ≡ answer
by_way_gives [] answer a h = cc
by_way_gives (z ∷ zs) answer a h = let p = bind_ok (held_in_range z) (λ n. by_way_of zs answer) a h in by_way_gives zs answer a p.2

-- the operands that two numbers are
abbrev pub pair_of : Number → Number → Operands
pair_of (number.Int a) (number.Int b) = operands.Ints a b
pair_of x y = operands.Units (units x) (units y)

in_units : (u v : ℤ) (p : Operands) → by_way_of (u ∷ v ∷ []) (operands.Units u v) ≡ Ok p → p ≡ operands.Units u v
in_units u v p h = by_way_gives (u ∷ v ∷ []) (operands.Units u v) p h

pub paired_gives : (x y : Number) (p : Operands) → paired x y ≡ Ok p → p ≡ pair_of x y
paired_gives (number.Int a) (number.Int b) p h = cc
paired_gives (number.Int a) (number.Dec e) p h = in_units (units (number.Int a)) e.0 p h
paired_gives (number.Dec d) (number.Int b) p h = in_units d.0 (units (number.Int b)) p h
paired_gives (number.Dec d) (number.Dec e) p h = in_units d.0 e.0 p h

-- two numbers of units are both held_in_range, whichever comes first
units_turned : (u v : ℤ) (p : Operands) → by_way_of (u ∷ v ∷ []) (operands.Units u v) ≡ Ok p → by_way_of (v ∷ u ∷ []) (operands.Units v u) ≡ Ok (operands.Units v u)
units_turned u v p h =
    let q = bind_ok (held_in_range u) (λ n. by_way_of (v ∷ []) (operands.Units u v)) p h in
    let r = bind_ok (held_in_range v) (λ n. by_way_of [] (operands.Units u v)) p q.2 in
    rw (r.1, q.1) refl

pub paired_turned : (x y : Number) (p : Operands) → paired x y ≡ Ok p → paired y x ≡ Ok (pair_of y x)
paired_turned (number.Int a) (number.Int b) p h = refl
paired_turned (number.Int a) (number.Dec e) p h = units_turned (units (number.Int a)) e.0 p h
paired_turned (number.Dec d) (number.Int b) p h = units_turned d.0 (units (number.Int b)) p h
paired_turned (number.Dec d) (number.Dec e) p h = units_turned d.0 e.0 p h

-- the operands of an operation that had an answer
pub record AreOperands (f : Operands → Result Atom Code) (a b s : Atom) (x y : Number) : Type 0 where
  pub left : number_of a ≡ Ok x
  pub right : number_of b ≡ Ok y
  pub both : paired x y ≡ Ok (pair_of x y)
  pub answer : f (pair_of x y) ≡ Ok s

pub operands_given : (f : Operands → Result Atom Code) (a b s : Atom) → with_operands f a b ≡ Ok s → (x y : Number) × AreOperands f a b s x y
operands_given f a b s h =
    let p = bind_ok _ f s h in
    let q = bind_ok (number_of a) _ _ p.1 in
    let r = bind_ok (number_of b) _ _ q.2 in
    let e = paired_gives q.0 r.0 p.0 r.2 in
    (q.0, r.0, record { left = q.1; right = r.1; both = r.2 ∙ ap Ok e; answer = ap f (sym e) ∙ p.2 })

pub number_of-atom_of : (x : Number) → number_of (atom_of x) ≡ Ok x
number_of-atom_of (number.Int n) = refl
number_of-atom_of (number.Dec d) = refl
