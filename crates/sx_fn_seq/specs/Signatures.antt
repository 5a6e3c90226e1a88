-- How many arguments functions take, and what they do with nodes (XSLT 3.0, 19.8.9).
use Rattle.std.specs.Prelude.{ℕ, Bool, true, false, not, ◌&&◌, ◌||◌, ◌==◌, nat_le}
use Rattle.sx_atoms.specs.Signature.{allows}
use Rattle.sx_atoms.specs.declared.signature.Signature.{Signature}
use Rattle.sx_atoms.specs.declared.functions.SeqFn.{SeqFn}
use Rattle.sx_atoms.specs.declared.functions.SeqFn.TheVariants as fn
use Rattle.sx_atoms.specs.declared.functions.Usage.{Usage}
use Rattle.sx_atoms.specs.declared.functions.Usage.TheVariants.{Absorbs, Inspects, Navigates, Special}

-- a signature of at most one argument
abbrev pub taking : ℕ → ℕ → Usage → Signature
taking least most usage = record { least = least; most = most; first = usage; rest = usage }

-- how many arguments a function taking, and what it does with the nodes of the first one and of the others (19.8.9)
abbrev pub seq_signature : SeqFn → Signature
seq_signature fn.Name = taking 0 1 Inspects
seq_signature fn.LocalName = taking 0 1 Inspects
seq_signature fn.NamespaceUri = taking 0 1 Inspects
seq_signature fn.Count = taking 1 1 Inspects
seq_signature fn.Empty = taking 1 1 Inspects
seq_signature fn.Exists = taking 1 1 Inspects
seq_signature fn.Boolean = taking 1 1 Inspects
seq_signature fn.Not = taking 1 1 Inspects
seq_signature fn.Sum = taking 1 1 Absorbs
seq_signature fn.Avg = taking 1 1 Absorbs
seq_signature fn.Min = taking 1 1 Absorbs
seq_signature fn.Max = taking 1 1 Absorbs
seq_signature fn.Data = taking 0 1 Absorbs
seq_signature fn.DistinctValues = taking 1 1 Absorbs
seq_signature fn.Abs = taking 1 1 Absorbs
seq_signature fn.Floor = taking 1 1 Absorbs
seq_signature fn.Ceiling = taking 1 1 Absorbs
seq_signature fn.Round = taking 1 1 Absorbs
seq_signature fn.True = taking 0 0 Special
seq_signature fn.False = taking 0 0 Special
seq_signature fn.Position = taking 0 0 Special
seq_signature fn.Last = taking 0 0 Special
seq_signature fn.Head = taking 1 1 Navigates
seq_signature fn.Tail = taking 1 1 Navigates
seq_signature fn.Reverse = taking 1 1 Navigates
seq_signature fn.Subsequence = record { least = 2; most = 3; first = Navigates; rest = Absorbs }
seq_signature fn.ZeroOrOne = taking 1 1 Navigates
seq_signature fn.OneOrMore = taking 1 1 Navigates
seq_signature fn.ExactlyOne = taking 1 1 Navigates
seq_signature fn.CopyOf = taking 0 1 Absorbs
seq_signature fn.Snapshot = taking 0 1 Absorbs
seq_signature fn.Current = taking 0 0 Special
seq_signature fn.CurrentGroup = taking 0 0 Special
seq_signature fn.CurrentGroupingKey = taking 0 0 Special
seq_signature fn.AccumulatorBefore = taking 1 1 Special
seq_signature fn.AccumulatorAfter = taking 1 1 Special
seq_signature fn.ToInteger = taking 1 1 Absorbs
seq_signature fn.ToDecimal = taking 1 1 Absorbs
seq_signature fn.ToStr = taking 1 1 Absorbs
seq_signature fn.ToBoolean = taking 1 1 Absorbs

-- whether a function is one of nodes or of the context, so that its arguments alone do not answer it
abbrev pub needs_more : SeqFn → Bool
needs_more fn.Name = true
needs_more fn.LocalName = true
needs_more fn.NamespaceUri = true
needs_more fn.Count = false
needs_more fn.Empty = false
needs_more fn.Exists = false
needs_more fn.Boolean = false
needs_more fn.Not = false
needs_more fn.Sum = false
needs_more fn.Avg = false
needs_more fn.Min = false
needs_more fn.Max = false
needs_more fn.Data = false
needs_more fn.DistinctValues = false
needs_more fn.Abs = false
needs_more fn.Floor = false
needs_more fn.Ceiling = false
needs_more fn.Round = false
needs_more fn.True = false
needs_more fn.False = false
needs_more fn.Position = true
needs_more fn.Last = true
needs_more fn.Head = false
needs_more fn.Tail = false
needs_more fn.Reverse = false
needs_more fn.Subsequence = false
needs_more fn.ZeroOrOne = false
needs_more fn.OneOrMore = false
needs_more fn.ExactlyOne = false
needs_more fn.CopyOf = true
needs_more fn.Snapshot = true
needs_more fn.Current = true
needs_more fn.CurrentGroup = true
needs_more fn.CurrentGroupingKey = true
needs_more fn.AccumulatorBefore = true
needs_more fn.AccumulatorAfter = true
needs_more fn.ToInteger = false
needs_more fn.ToDecimal = false
needs_more fn.ToStr = false
needs_more fn.ToBoolean = false

-- whether a call can be answered by its arguments: they are as many as the function taking, and what is the context item
-- where it is missing is given
abbrev pub is_answerable : SeqFn → ℕ → Bool
is_answerable f count =
    not (needs_more f) && allows (seq_signature f) count && (nat_le 1 count || (seq_signature f).most == 0)
