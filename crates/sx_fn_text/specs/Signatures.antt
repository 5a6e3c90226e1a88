-- How many arguments the functions on texts take.
use Rattle.std.specs.Prelude.{ℕ}
use Rattle.sx_atoms.specs.declared.signature.Signature.{Signature}
use Rattle.sx_atoms.specs.declared.functions.TextFn.{TextFn}
use Rattle.sx_atoms.specs.declared.functions.TextFn.TheVariants as fn
use Rattle.sx_atoms.specs.declared.functions.Usage.TheVariants as usage

-- from as many arguments to as many, which are all absorbed (XSLT 3.0, 19.8.9)
abbrev pub absorbing : ℕ → ℕ → Signature
absorbing least most = record { least = least; most = most; first = usage.Absorbs; rest = usage.Absorbs }

-- the signature of a function (XPath functions and operators 3.1, 5 and 2.3)
abbrev pub text_signature : TextFn → Signature
text_signature fn.String = absorbing 0 1
text_signature fn.StringLength = absorbing 0 1
text_signature fn.NormalizeSpace = absorbing 0 1
text_signature fn.Concat = absorbing 2 16
text_signature fn.StringJoin = absorbing 1 2
text_signature fn.Contains = absorbing 2 2
text_signature fn.StartsWith = absorbing 2 2
text_signature fn.EndsWith = absorbing 2 2
text_signature fn.SubstringBefore = absorbing 2 2
text_signature fn.SubstringAfter = absorbing 2 2
text_signature fn.Substring = absorbing 2 3
text_signature fn.Translate = absorbing 3 3
