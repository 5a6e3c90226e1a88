-- What arguments that have codes select, and text without a type as a number.
use Rattle.std.proofs.Common.{◌≡◌, List, ℕ, Option, Some, None, Result, Ok, Err, refl, ap}
use Rattle.sx_atoms.specs.Arithmetic.{dec}
use Rattle.sx_atoms.specs.Casting.{cast_of}
use Rattle.sx_atoms.specs.Laws.{atom_of}
use Rattle.sx_atoms.specs.Lexical.{decimal_in}
use Rattle.sx_atoms.specs.Numbers.{◌>>=◌}
use Rattle.sx_atoms.specs.declared.atoms.Atom.{Atom}
use Rattle.sx_atoms.specs.declared.atoms.Atom.TheVariants as atom
use Rattle.sx_atoms.specs.declared.atoms.AtomType.TheVariants as type
use Rattle.sx_atoms.specs.declared.error_codes.Code.{Code}
use Rattle.sx_atoms.specs.declared.numbers.Number.TheVariants as number
use Rattle.sx_atoms.specs.Arguments.{number_argument, number_atom}
use Rattle.sx_atoms.specs.Positions.{rounded, span_from, span_between, span_of, rounded_answer}
use Rattle.std.proofs.Common.{ℤ}
use Rattle.std.specs.Option.{option_map}

-- a code of a step is that of all
code_of_step : {A B C : Type 0} (r : Result A Code) (f : A → B) (g : A → Result C Code) (e : Code) → (r >>= (λ x. Ok (f x))) ≡ Err e → (r >>= g) ≡ Err e
code_of_step (Ok x) f g e h = absurd (cc)
code_of_step (Err d) f g e h = let k : d ≡ e = cc in ap Err k

code_of_second : {A B C : Type 0} (r s : Result A Code) (f : A → B) (g : A → A → C) (y : B) (e : Code) → (r >>= (λ x. Ok (f x))) ≡ Ok y
    → (s >>= (λ x. Ok (f x))) ≡ Err e → (r >>= (λ a. s >>= (λ n. Ok (g a n)))) ≡ Err e
code_of_second (Ok x) s f g y e h k = code_of_step s f (λ n. Ok (g x n)) e k
code_of_second (Err d) s f g y e h k = absurd (cc)

pub start_fails : (start : List Atom) (count : Option (List Atom)) (e : Code) → rounded_answer start ≡ Err e → span_of start count ≡ Err e
start_fails start None e h = code_of_step (number_argument start) (option_map rounded) (λ a. Ok (span_from a)) e h
start_fails start (Some count) e h = code_of_step (number_argument start) (option_map rounded) (λ a. number_argument count >>= (λ n. Ok (span_between a n))) e h

pub count_fails : (start count : List Atom) (first : Option ℤ) (e : Code) → rounded_answer start ≡ Ok first → rounded_answer count ≡ Err e
    → span_of start (Some count) ≡ Err e
count_fails start count first e h k = code_of_second (number_argument start) (number_argument count) (option_map rounded) span_between first e h k

-- the cast to a decimal
cast_steps : (r : Result ℤ Code) → (r >>= (λ z. Ok (atom.Dec (dec z)))) ≡ ((r >>= (λ z. Ok (number.Dec (dec z)))) >>= (λ n. Ok (atom_of n)))
cast_steps (Ok z) = refl
cast_steps (Err e) = refl

pub untyped_number : (s : List ℕ) → cast_of (atom.Untyped s) type.Decimal ≡ number_atom (atom.Untyped s)
untyped_number s = cast_steps (decimal_in s)
