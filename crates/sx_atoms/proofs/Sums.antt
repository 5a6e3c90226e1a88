-- Sums, whatever is summed first.
use Rattle.std.proofs.Common.{◌≡◌, Ok, ℤ, ◌+ℤ◌, ◌*ℤ◌, [], ◌∷◌, ap, sym, ◌∙◌}
use Rattle.std.proofs.Math.IntN.{+ℤ_assoc, +ℤ_comm}
use Rattle.sx_atoms.specs.Numbers.{by_way_of, one_unit, units}
use Rattle.sx_atoms.specs.Arithmetic.{dec, number_of, with_operands, sum_of}
use Rattle.sx_atoms.specs.Laws.{atom_of}
use Rattle.sx_atoms.specs.declared.atoms.Atom.{Atom}
use Rattle.sx_atoms.specs.declared.atoms.Atom.TheVariants as atom
use Rattle.sx_atoms.specs.declared.numbers.Number.{Number}
use Rattle.sx_atoms.specs.declared.numbers.Number.TheVariants as number
use Rattle.sx_atoms.proofs.Integers.{add-mul_ℤ}
use Rattle.sx_atoms.proofs.Pairs.{by_way_gives, pair_of, paired_turned, operands_given, number_of-atom_of}

-- the sum of two numbers, whether it is held or not
abbrev pub number_sum : Number → Number → Number
number_sum (number.Int a) (number.Int b) = number.Int (a +ℤ b)
number_sum x y = number.Dec (dec (units x +ℤ units y))

pub sum_gives : (x y : Number) (s : Atom) → sum_of (pair_of x y) ≡ Ok s → s ≡ atom_of (number_sum x y)
sum_gives (number.Int a) (number.Int b) s h = by_way_gives ((a +ℤ b) ∷ []) (atom.Int (a +ℤ b)) s h
sum_gives (number.Int a) (number.Dec e) s h = let z = units (number.Int a) +ℤ e.0 in by_way_gives (z ∷ []) (atom.Dec (dec z)) s h
sum_gives (number.Dec d) (number.Int b) s h = let z = d.0 +ℤ units (number.Int b) in by_way_gives (z ∷ []) (atom.Dec (dec z)) s h
sum_gives (number.Dec d) (number.Dec e) s h = let z = d.0 +ℤ e.0 in by_way_gives (z ∷ []) (atom.Dec (dec z)) s h

sum_turned : (x y : Number) → sum_of (pair_of y x) ≡ sum_of (pair_of x y)
sum_turned (number.Int a) (number.Int b) = ap (λ (z : ℤ). by_way_of (z ∷ []) (atom.Int z)) (+ℤ_comm b a)
sum_turned (number.Int a) (number.Dec e) = ap (λ (z : ℤ). by_way_of (z ∷ []) (atom.Dec (dec z))) (+ℤ_comm e.0 (units (number.Int a)))
sum_turned (number.Dec d) (number.Int b) = ap (λ (z : ℤ). by_way_of (z ∷ []) (atom.Dec (dec z))) (+ℤ_comm (units (number.Int b)) d.0)
sum_turned (number.Dec d) (number.Dec e) = ap (λ (z : ℤ). by_way_of (z ∷ []) (atom.Dec (dec z))) (+ℤ_comm e.0 d.0)

pub commutes : (a b s : Atom) → with_operands sum_of a b ≡ Ok s → with_operands sum_of b a ≡ Ok s
commutes a b s h =
    let g = operands_given sum_of a b s h in
    rw (g.2.right, g.2.left, paired_turned g.0 g.1 _ g.2.both, sum_turned g.0 g.1) g.2.answer

number_sum_assoc : (x y z : Number) → number_sum (number_sum x y) z ≡ number_sum x (number_sum y z)
number_sum_assoc (number.Int a) (number.Int b) (number.Int e) = ap number.Int (+ℤ_assoc a b e)
number_sum_assoc (number.Int a) (number.Int b) (number.Dec e) =
    ap (λ (z : ℤ). number.Dec (dec z)) (ap (λ (w : ℤ). w +ℤ e.0) (add-mul_ℤ a b one_unit) ∙ +ℤ_assoc (a *ℤ one_unit) (b *ℤ one_unit) e.0)
number_sum_assoc (number.Int a) (number.Dec d) (number.Int e) = ap (λ (z : ℤ). number.Dec (dec z)) (+ℤ_assoc (a *ℤ one_unit) d.0 (e *ℤ one_unit))
number_sum_assoc (number.Int a) (number.Dec d) (number.Dec e) = ap (λ (z : ℤ). number.Dec (dec z)) (+ℤ_assoc (a *ℤ one_unit) d.0 e.0)
number_sum_assoc (number.Dec d) (number.Int b) (number.Int e) =
    ap (λ (z : ℤ). number.Dec (dec z)) (+ℤ_assoc d.0 (b *ℤ one_unit) (e *ℤ one_unit) ∙ ap (λ (w : ℤ). d.0 +ℤ w) (sym (add-mul_ℤ b e one_unit)))
number_sum_assoc (number.Dec d) (number.Int b) (number.Dec e) = ap (λ (z : ℤ). number.Dec (dec z)) (+ℤ_assoc d.0 (b *ℤ one_unit) e.0)
number_sum_assoc (number.Dec d) (number.Dec e) (number.Int b) = ap (λ (z : ℤ). number.Dec (dec z)) (+ℤ_assoc d.0 e.0 (b *ℤ one_unit))
number_sum_assoc (number.Dec d) (number.Dec e) (number.Dec f) = ap (λ (z : ℤ). number.Dec (dec z)) (+ℤ_assoc d.0 e.0 f.0)

-- an atom is one_unit number
one_number : (a : Atom) (x y : Number) → number_of a ≡ Ok x → number_of a ≡ Ok y → x ≡ y
one_number a x y h g = let e : Ok x ≡ Ok y = sym h ∙ g in cc

pub number_of_sum : (a b s : Atom) → with_operands sum_of a b ≡ Ok s → (x y : Number) → number_of a ≡ Ok x → number_of b ≡ Ok y → s ≡ atom_of (number_sum x y)
number_of_sum a b s h x y l r =
    let p = operands_given sum_of a b s h in
    let ex : p.0 ≡ x = one_number a p.0 x p.2.left l in
    let ey : p.1 ≡ y = one_number b p.1 y p.2.right r in
    sum_gives p.0 p.1 s p.2.answer ∙ ap (λ (n : Number). atom_of (number_sum n p.1)) ex ∙ ap (λ (n : Number). atom_of (number_sum x n)) ey

pub associates : (a b c s t u v : Atom) → with_operands sum_of a b ≡ Ok s → with_operands sum_of b c ≡ Ok t
    → with_operands sum_of s c ≡ Ok u → with_operands sum_of a t ≡ Ok v → u ≡ v
associates a b c s t u v h g k l =
    let p = operands_given sum_of a b s h in
    let q = operands_given sum_of b c t g in
    let x = p.0 in
    let y = p.1 in
    let z = q.1 in
    let es : s ≡ atom_of (number_sum x y) = number_of_sum a b s h x y p.2.left p.2.right in
    let et : t ≡ atom_of (number_sum y z) = number_of_sum b c t g y z p.2.right q.2.right in
    let ns : number_of s ≡ Ok (number_sum x y) = ap number_of es ∙ number_of-atom_of (number_sum x y) in
    let nt : number_of t ≡ Ok (number_sum y z) = ap number_of et ∙ number_of-atom_of (number_sum y z) in
    number_of_sum s c u k (number_sum x y) z ns q.2.right ∙ ap atom_of (number_sum_assoc x y z) ∙ sym (number_of_sum a t v l x (number_sum y z) p.2.left nt)
