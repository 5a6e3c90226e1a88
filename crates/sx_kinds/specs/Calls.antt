-- The types of calls of functions.
use Rattle.std.specs.Prelude.{Bool, true, false, if◌then◌else◌, Option, Some, None}
use Rattle.sx_atoms.specs.declared.functions.SeqFn.{SeqFn}
use Rattle.sx_atoms.specs.declared.functions.SeqFn.TheVariants as fn
use Rattle.sx_atoms.specs.declared.functions.TextFn.{TextFn}
use Rattle.sx_atoms.specs.declared.functions.TextFn.TheVariants as text
use Rattle.sx_kinds.specs.declared.expressions.Function.{Function}
use Rattle.sx_kinds.specs.declared.expressions.Function.TheVariants as functions
use Rattle.sx_kinds.specs.declared.types.Origin.TheVariants.{One, Separate}
use Rattle.sx_kinds.specs.declared.types.Shape.{Shape}
use Rattle.sx_kinds.specs.declared.types.Shape.TheVariants as shapes
use Rattle.sx_kinds.specs.declared.types.Start.{Start}
use Rattle.sx_kinds.specs.declared.types.Start.TheVariants as starts
use Rattle.sx_kinds.specs.declared.types.Ty.{Ty}
use Rattle.sx_kinds.specs.declared.types.TyKind.TheVariants as kinds
use Rattle.sx_kinds.specs.declared.types.Typing.{Typing}
use Rattle.sx_kinds.specs.Kinds.{atomised, as_number, extreme, summed}
use Rattle.sx_kinds.specs.Origins.{one_of_kind, many}

-- a call of a function on texts (XPath functions and operators 3.1, 5 and 2.3)
abbrev pub text_call_type : TextFn → Ty
text_call_type text.String = one_of_kind kinds.Str
text_call_type text.StringLength = one_of_kind kinds.Integer
text_call_type text.NormalizeSpace = one_of_kind kinds.Str
text_call_type text.Concat = one_of_kind kinds.Str
text_call_type text.StringJoin = one_of_kind kinds.Str
text_call_type text.Contains = one_of_kind kinds.Boolean
text_call_type text.StartsWith = one_of_kind kinds.Boolean
text_call_type text.EndsWith = one_of_kind kinds.Boolean
text_call_type text.SubstringBefore = one_of_kind kinds.Str
text_call_type text.SubstringAfter = one_of_kind kinds.Str
text_call_type text.Substring = one_of_kind kinds.Str
text_call_type text.Translate = one_of_kind kinds.Str

-- copies of items, each one_of_kind in a tree of its own (XSLT 3.0, 18.1)
abbrev pub copied : Ty → Ty
copied t = record t { origin = if t.at_most_one then One else Separate }

-- a call of another function, by the type of the current item or group and that of the first argument_type (XPath functions and
-- operators 3.1; XSLT 3.0, 14, 18 and 20)
abbrev pub seq_call_type : SeqFn → Ty → Ty → Ty
seq_call_type fn.Name ty x = one_of_kind kinds.Str
seq_call_type fn.LocalName ty x = one_of_kind kinds.Str
seq_call_type fn.NamespaceUri ty x = one_of_kind kinds.Str
seq_call_type fn.Count ty x = one_of_kind kinds.Integer
seq_call_type fn.Empty ty x = one_of_kind kinds.Boolean
seq_call_type fn.Exists ty x = one_of_kind kinds.Boolean
seq_call_type fn.Boolean ty x = one_of_kind kinds.Boolean
seq_call_type fn.Not ty x = one_of_kind kinds.Boolean
seq_call_type fn.Sum ty x = one_of_kind (summed x.kind)
seq_call_type fn.Avg ty x = one_of_kind kinds.Decimal
seq_call_type fn.Min ty x = one_of_kind (extreme x.kind)
seq_call_type fn.Max ty x = one_of_kind (extreme x.kind)
seq_call_type fn.Data ty x = many (atomised x.kind)
seq_call_type fn.DistinctValues ty x = many (atomised x.kind)
seq_call_type fn.Abs ty x = one_of_kind (as_number x.kind)
seq_call_type fn.Floor ty x = one_of_kind (as_number x.kind)
seq_call_type fn.Ceiling ty x = one_of_kind (as_number x.kind)
seq_call_type fn.Round ty x = one_of_kind (as_number x.kind)
seq_call_type fn.True ty x = one_of_kind kinds.Boolean
seq_call_type fn.False ty x = one_of_kind kinds.Boolean
seq_call_type fn.Position ty x = one_of_kind kinds.Integer
seq_call_type fn.Last ty x = one_of_kind kinds.Integer
seq_call_type fn.Head ty x = record x { at_most_one = true }
seq_call_type fn.Tail ty x = record x { at_most_one = false }
seq_call_type fn.Reverse ty x = record x { at_most_one = false }
seq_call_type fn.Subsequence ty x = record x { at_most_one = false }
seq_call_type fn.ZeroOrOne ty x = record x { at_most_one = true }
seq_call_type fn.OneOrMore ty x = record x { at_most_one = false }
seq_call_type fn.ExactlyOne ty x = record x { at_most_one = true }
seq_call_type fn.CopyOf ty x = copied x
seq_call_type fn.Snapshot ty x = copied x
seq_call_type fn.Current ty x = record ty { at_most_one = true }
seq_call_type fn.CurrentGroup ty x = ty
seq_call_type fn.CurrentGroupingKey ty x = one_of_kind kinds.AnyAtom
seq_call_type fn.AccumulatorBefore ty x = many kinds.AnyAtom
seq_call_type fn.AccumulatorAfter ty x = many kinds.AnyAtom
seq_call_type fn.ToInteger ty x = one_of_kind kinds.Integer
seq_call_type fn.ToDecimal ty x = one_of_kind kinds.Decimal
seq_call_type fn.ToStr ty x = one_of_kind kinds.Str
seq_call_type fn.ToBoolean ty x = one_of_kind kinds.Boolean

-- a call, by the type of the current item or group and that of the first argument_type
abbrev pub called : Function → Ty → Ty → Ty
called (functions.Text f) ty x = text_call_type f
called (functions.Seq f) ty x = seq_call_type f ty x

-- the type of the first argument_type: that of the context item where there is none
abbrev pub argument_type : Ty → Option Typing → Ty
argument_type context None = record context { at_most_one = true }
argument_type context (Some t) = t.ty

-- what a function call is to what stands around it
abbrev pub called_shape : Function → Shape
called_shape (functions.Seq fn.CopyOf) = shapes.Copy
called_shape (functions.Seq fn.Snapshot) = shapes.Copy
called_shape _ = shapes.Other

-- where the nodes of a call start, by where those of its first argument_type do
abbrev pub called_start : Function → Start → Start
called_start (functions.Text f) x = starts.Nowhere
called_start (functions.Seq fn.Head) x = x
called_start (functions.Seq fn.Tail) x = x
called_start (functions.Seq fn.Reverse) x = x
called_start (functions.Seq fn.Subsequence) x = x
called_start (functions.Seq fn.ZeroOrOne) x = x
called_start (functions.Seq fn.OneOrMore) x = x
called_start (functions.Seq fn.ExactlyOne) x = x
called_start (functions.Seq fn.CopyOf) x = starts.Elsewhere
called_start (functions.Seq fn.Snapshot) x = starts.Elsewhere
called_start (functions.Seq fn.Current) x = starts.Elsewhere
called_start (functions.Seq fn.CurrentGroup) x = starts.Elsewhere
called_start _ x = starts.Nowhere

-- whether a function is `position` or `last`
abbrev pub is_count : Function → Bool
is_count (functions.Seq fn.Position) = true
is_count (functions.Seq fn.Last) = true
is_count _ = false
