-- Levels, and how what is pending joins to what was read.
use Rattle.std.proofs.Common.{◌≡◌, ℕ, suc, ◌≤◌, ◌<◌, Bool, true, false, nat_le, refl, sym, ◌∙◌, arith}
use Rattle.std.proofs.lemmas.Bool.Decides.{nat_tests}
use Rattle.sx_atoms.specs.declared.arithmetic.ArithOp.TheVariants as arith_op
use Rattle.sx_parse.specs.declared.lexemes.Operator.{Operator}
use Rattle.sx_parse.specs.declared.lexemes.Operator.TheVariants as operator
use Rattle.sx_parse.specs.declared.lexemes.Casting.{Casting}
use Rattle.sx_parse.specs.declared.lexemes.Casting.TheVariants as casting_word
use Rattle.sx_parse.specs.Grammar.{level, left_level, casting_level, prefix_level, prefix_floor, Tree, root, comma, prefixed, binary, cast, choice, bind, Fits}
use Rattle.sx_parse.specs.Machine.{Stack, pending, more, signed, otherwise, body, in_pattern, floor, reaches, reached, reach}

-- ---- levels

pub le_true : (a b : ℕ) → a ≤ b → nat_le a b ≡ true
le_true a b h = grind (arith, nat_tests)

le_false : (a b : ℕ) → b < a → nat_le a b ≡ false
le_false a b h = grind (arith, nat_tests)

-- an operator's level is 2 at least, 15 at most, not that of a sign, and none above that of its left operand
pub level_least : (o : Operator) → 2 ≤ level o
level_least operator.Or = omega arith
level_least (operator.Arith arith_op.Add) = omega arith
level_least o = omega arith

pub level_most : (o : Operator) → level o ≤ 15
level_most operator.Or = omega arith
level_most (operator.Arith arith_op.Add) = omega arith
level_most o = omega arith

pub level_no_sign : (o : Operator) → level o ≡ 12 → ⊥
level_no_sign operator.Or h = omega arith
level_no_sign (operator.Arith arith_op.Add) h = omega arith
level_no_sign o h = omega arith

pub below_left : (o : Operator) → level o ≤ left_level o
below_left operator.Or = omega arith
below_left (operator.Arith arith_op.Add) = omega arith
below_left o = omega arith

pub casting_least : (k : Casting) → 10 ≤ casting_level k
casting_least casting_word.Castable = omega arith
casting_least casting_word.Cast = omega arith

pub casting_most : (k : Casting) → casting_level k ≤ 11
casting_most casting_word.Castable = omega arith
casting_most casting_word.Cast = omega arith

-- a sign keeps its level for its operand, a slash asks for the next
prefix_grows : (o : Operator) → prefix_level o ≤ prefix_floor o
prefix_grows operator.Slash = omega arith
prefix_grows operator.DoubleSlash = omega arith
prefix_grows o = omega arith

prefix_below : (o : Operator) (n : ℕ) → prefix_floor o ≤ n → (n ≡ 12 → ⊥) → prefix_level o < n
prefix_below operator.Slash n h g = omega arith
prefix_below operator.DoubleSlash n h g = omega arith
prefix_below o n h g = omega arith

pub prefix_least : (o : Operator) → 12 ≤ prefix_floor o
prefix_least operator.Slash = omega arith
prefix_least operator.DoubleSlash = omega arith
prefix_least o = omega arith

pub prefix_level_most : (o : Operator) → prefix_level o ≤ 15
prefix_level_most operator.Slash = omega arith
prefix_level_most operator.DoubleSlash = omega arith
prefix_level_most o = omega arith

prefix_most : (o : Operator) → prefix_floor o ≤ 16
prefix_most operator.Slash = omega arith
prefix_most operator.DoubleSlash = omega arith
prefix_most o = omega arith

pub floor_most : (s : Stack) → floor s ≤ 16
floor_most (pending a l o s) = omega (arith, level_most o)
floor_most (signed o s) = prefix_most o
floor_most s = omega arith

pub fits_less : (t : Tree) (p : Bool) (n m : ℕ) → m ≤ n → Fits p n t → Fits p m t
fits_less root p n m h f = (omega (arith, f.0), λ e. omega (arith, f.1 e))
fits_less (comma a b) p n m h f = (f.0, omega (arith, f.1), f.2, f.3)
fits_less (prefixed o e) p n m h f = (f.0, omega (arith, f.1), f.2)
fits_less (binary a l o b) p n m h f = (f.0, f.1, omega (arith, f.2), f.3, f.4, f.5)
fits_less (cast e k i j w r optional) p n m h f = (f.0, omega (arith, f.1), f.2, f.3)
fits_less (choice i c j t k e) p n m h f = (f.0, omega (arith, f.1), f.2, f.3, f.4, f.5)
fits_less (bind bs l e) p n m h f = (f.0, omega (arith, f.1), f.2, f.3, f.4, f.5)
fits_less t p n m h f = f

-- ---- what is pending

-- the last operand, and what is pending before it
abbrev pub last : Tree → Stack → Tree
last (comma a b) s = last b (more a s)
last (prefixed o e) s = last e (signed o s)
last (binary a l o b) s = last b (pending a l o s)
last (choice i c j t k e) s = last e (otherwise i c j t k s)
last (bind bs l e) s = last e (body bs l s)
last t s = t

abbrev pub on : Tree → Stack → Stack
on (comma a b) s = on b (more a s)
on (prefixed o e) s = on e (signed o s)
on (binary a l o b) s = on b (pending a l o s)
on (choice i c j t k e) s = on e (otherwise i c j t k s)
on (bind bs l e) s = on e (body bs l s)
on t s = s

-- what is pending joins again to what was read
pub rewind : (t : Tree) (p : Bool) (n : ℕ) (s : Stack) → Fits p n t → reach n (last t s) (on t s) ≡ reach n t s
rewind (comma a b) p n s f =
    let e = le_true n 0 f.1 in
    rewind b false n (more a s) (fits_less b false 1 n (omega (arith, f.1)) f.3) ∙ rw e refl
rewind (prefixed o e) p n s f =
    let g = le_true n (prefix_level o) f.1 in
    let h = prefix_grows o in
    rewind e p n (signed o s) (fits_less e p (prefix_floor o) n (omega (arith, f.1)) f.2) ∙ rw g refl
rewind (binary a l o b) p n s f =
    let g = le_true n (level o) f.2 in
    rewind b p n (pending a l o s) (fits_less b p (suc (level o)) n (omega (arith, f.2)) f.5) ∙ rw g refl
rewind (choice i c j t k e) p n s f =
    let g = le_true n 1 f.1 in
    rewind e false n (otherwise i c j t k s) (fits_less e false 1 n f.1 f.5) ∙ rw g refl
rewind (bind bs l e) p n s f =
    let g = le_true n 1 f.1 in
    rewind e false n (body bs l s) (fits_less e false 1 n f.1 f.5) ∙ rw g refl
rewind t p n s f = refl

-- a new operand of a lower level leaves what is pending before it
pub stands : (n m : ℕ) (t : Tree) (s : Stack) → 2 ≤ n → m ≤ n → (m ≡ 12 → ⊥) → floor s ≤ m → reach n t s ≡ reached t s
stands n m t (pending a l o s) two le sign h = let e = le_false n (level o) (omega arith) in rw e refl
stands n m t (more a s) two le sign h = let e = le_false n 0 (omega arith) in rw e refl
stands n m t (signed o s) two le sign h =
    let g = prefix_below o m h sign in
    let e = le_false n (prefix_level o) (omega arith) in
    rw e refl
stands n m t (otherwise i c j u k s) two le sign h = let e = le_false n 1 (omega arith) in rw e refl
stands n m t (body bs l s) two le sign h = let e = le_false n 1 (omega arith) in rw e refl
stands n m t s two le sign h = refl

-- where anything may stand, nothing is pending
pub stands_anywhere : (t : Tree) (s : Stack) → floor s ≤ 0 → reach 0 t s ≡ reached t s
stands_anywhere t (pending a l o s) h = absurd (omega arith)
stands_anywhere t (more a s) h = absurd (omega arith)
stands_anywhere t (signed o s) h = let g = prefix_least o in absurd (omega arith)
stands_anywhere t (otherwise i c j u k s) h = absurd (omega arith)
stands_anywhere t (body bs l s) h = absurd (omega arith)
stands_anywhere t s h = refl

-- the flag is that of the whole
pub keeps : (t : Tree) (n : ℕ) (s : Stack) → Fits (in_pattern s) n t → in_pattern (on t s) ≡ in_pattern s
keeps (comma a b) n s f = let x : Fits (in_pattern s) 1 b = rw f.0 f.3 in keeps b 1 (more a s) x
keeps (prefixed o e) n s f = keeps e (prefix_floor o) (signed o s) f.2
keeps (binary a l o b) n s f = keeps b (suc (level o)) (pending a l o s) f.5
keeps (choice i c j t k e) n s f = keeps e 1 (otherwise i c j t k s) f.5 ∙ sym f.0
keeps (bind bs l e) n s f = keeps e 1 (body bs l s) f.5 ∙ sym f.0
keeps t n s f = refl

-- the last operand fits where the whole does
pub last_reaches : (t : Tree) (p : Bool) (n : ℕ) (s : Stack) → Fits p n t → reaches p n (last t s) ≡ true
last_reaches root true n s f = let e = f.1 refl in rw e refl
last_reaches root false n s f = let e = le_true n 14 f.0 in rw e refl
last_reaches (cast e k i j w r optional) p n s f = le_true n (casting_level k) f.1
last_reaches (comma a b) p n s f = let x : Fits p n b = rw f.0 (fits_less b false 1 n (omega (arith, f.1)) f.3) in last_reaches b p n (more a s) x
last_reaches (prefixed o e) p n s f =
    let h = prefix_grows o in
    last_reaches e p n (signed o s) (fits_less e p (prefix_floor o) n (omega (arith, f.1)) f.2)
last_reaches (binary a l o b) p n s f = last_reaches b p n (pending a l o s) (fits_less b p (suc (level o)) n (omega (arith, f.2)) f.5)
last_reaches (choice i c j t k e) p n s f = let x : Fits p n e = rw f.0 (fits_less e false 1 n f.1 f.5) in last_reaches e p n (otherwise i c j t k s) x
last_reaches (bind bs l e) p n s f = let x : Fits p n e = rw f.0 (fits_less e false 1 n f.1 f.5) in last_reaches e p n (body bs l s) x
last_reaches t p n s f = refl

-- a step stands alone
pub last_alone : (t : Tree) (p : Bool) (s : Stack) → Fits p 16 t → (last t s ≡ t) × (on t s ≡ s)
last_alone (comma a b) p s f = absurd (omega (arith, f.1))
last_alone (prefixed o e) p s f = let g = prefix_level_most o in absurd (omega (arith, f.1))
last_alone (binary a l o b) p s f = let g = level_most o in absurd (omega (arith, f.2))
last_alone (choice i c j t k e) p s f = absurd (omega (arith, f.1))
last_alone (bind bs l e) p s f = absurd (omega (arith, f.1))
last_alone t p s f = (refl, refl)
