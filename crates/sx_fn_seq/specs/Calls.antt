-- What functions on sequences answer (XPath functions and operators 3.1).
use Rattle.std.specs.Prelude.{true, false, not, ◌==◌, List, [], ◌∷◌, length, map, reverse, Some, Result, Ok, pos, slice_get}
use Rattle.sx_atoms.specs.Answers.{answered}
use Rattle.sx_atoms.specs.Arguments.{argument}
use Rattle.sx_atoms.specs.Numbers.{◌>>=◌}
use Rattle.sx_atoms.specs.declared.atoms.Atom.{Atom}
use Rattle.sx_atoms.specs.declared.atoms.Atom.TheVariants as atom
use Rattle.sx_atoms.specs.declared.atoms.AtomType.TheVariants as type
use Rattle.sx_atoms.specs.declared.comparison.CmpOp.TheVariants as op
use Rattle.sx_atoms.specs.declared.error_codes.Code.{Code}
use Rattle.sx_atoms.specs.declared.functions.SeqFn.{SeqFn}
use Rattle.sx_atoms.specs.declared.functions.SeqFn.TheVariants as fn
use Rattle.sx_fn_seq.specs.Distinct.{distinct_of}
use Rattle.sx_fn_seq.specs.Extremes.{extreme_of}
use Rattle.sx_fn_seq.specs.Parts.{head_of, tail_of, subsequence_of, zero_or_one, one_or_more, exactly_one, cast_argument}
use Rattle.sx_fn_seq.specs.Rounding.{rounding_of}
use Rattle.sx_fn_seq.specs.Sums.{total_of, average_of}
use Rattle.sx_fn_seq.specs.Truths.{effective_truth}
use Rattle.sx_fn_seq.specs.declared.rounding.Rounding.TheVariants as by

-- the effective boolean value (7.3.1), and the other truth value (7.3.2)
abbrev pub boolean_of : List Atom → Result Atom Code
boolean_of items = do
  b ← effective_truth (map Some items)
  Ok (atom.Bool b)

abbrev pub negation_of : List Atom → Result Atom Code
negation_of items = do
  b ← effective_truth (map Some items)
  Ok (atom.Bool (not b))

-- what a function of one argument answers (2.4, 7.3, 14 and 18.1)
abbrev pub of_one : SeqFn → List Atom → Result (List Atom) Code
of_one fn.Count x = Ok (atom.Int (pos (length x)) ∷ [])
of_one fn.Empty x = Ok (atom.Bool (length x == 0) ∷ [])
of_one fn.Exists x = Ok (atom.Bool (not (length x == 0)) ∷ [])
of_one fn.Boolean x = answered (boolean_of x)
of_one fn.Not x = answered (negation_of x)
of_one fn.Sum x = answered (total_of x)
of_one fn.Avg x = average_of x
of_one fn.Min x = extreme_of op.Lt x
of_one fn.Max x = extreme_of op.Gt x
of_one fn.Data x = Ok x
of_one fn.DistinctValues x = Ok (distinct_of x)
of_one fn.Abs x = rounding_of by.Abs x
of_one fn.Floor x = rounding_of by.Floor x
of_one fn.Ceiling x = rounding_of by.Ceiling x
of_one fn.Round x = rounding_of by.Round x
of_one fn.Head x = Ok (head_of x)
of_one fn.Tail x = Ok (tail_of x)
of_one fn.Reverse x = Ok (reverse x)
of_one fn.ZeroOrOne x = zero_or_one x
of_one fn.OneOrMore x = one_or_more x
of_one fn.ExactlyOne x = exactly_one x
of_one fn.ToInteger x = cast_argument type.Integer x
of_one fn.ToDecimal x = cast_argument type.Decimal x
of_one fn.ToStr x = cast_argument type.Str x
of_one fn.ToBoolean x = cast_argument type.Boolean x
of_one f x = Ok []

-- what a function answers; nothing is said of a function of nodes or of the context
abbrev pub seq_call : SeqFn → List (List Atom) → Result (List Atom) Code
seq_call fn.True args = Ok (atom.Bool true ∷ [])
seq_call fn.False args = Ok (atom.Bool false ∷ [])
seq_call fn.Subsequence args = subsequence_of (argument args 0) (argument args 1) (slice_get args 2)
seq_call f args = of_one f (argument args 0)
