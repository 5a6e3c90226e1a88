-- Settled patterns: each alternative is settled_expression as an expression is (XSLT 3.0, 5.5).
use Rattle.std.specs.Prelude.{◌≡◌, List, [], ◌∷◌, Result, Ok, Err}
use Rattle.sx_atoms.specs.declared.error_codes.Code.{Code}
use Rattle.sx_kinds.specs.Settled.{TypingPlace, settled_expression}
use Rattle.sx_kinds.specs.Types.{typing}
use Rattle.sx_kinds.specs.declared.expressions.Expr.{Expr}
use Rattle.sx_kinds.specs.declared.expressions.Pattern.{Pattern}
use Rattle.sx_kinds.specs.declared.types.Ty.{Ty}
use Rattle.sx_kinds.specs.declared.types.Typing.{Typing}

-- whether there is a type, or the code
abbrev pub has_type : Result Typing Code → Result (Unit {0}) Code
has_type (Ok t) = Ok tt
has_type (Err code) = Err code

-- whether each of some expressions has a type in a context, or the first code of one
abbrev pub have_types : Ty → Result (Unit {0}) Code → List Expr → Result (Unit {0}) Code
have_types context (Err code) es = Err code
have_types context (Ok all) [] = Ok all
have_types context (Ok all) (e ∷ es) = have_types context (has_type (typing e context)) es

-- expressions settled_expression in one place, up to and with the first that has a code; those behind that one are as they were
abbrev pub settled_each : TypingPlace → Result (Unit {0}) Code → List Expr → List Expr
settled_each here (Err code) es = es
settled_each here (Ok all) [] = []
settled_each here (Ok all) (e ∷ es) =
    settled_expression e here ∷ settled_each here (has_type (typing (settled_expression e here) here.context)) es

-- a pattern settled_expression in a place
abbrev pub settled_pattern : Pattern → TypingPlace → Pattern
settled_pattern pattern here =
    record pattern { alternatives = settled_each here (Ok tt) pattern.alternatives }

-- a pattern is settled_expression in a place where settling it there changes nothing
abbrev pub IsSettledPattern : Pattern → TypingPlace → Type 0
IsSettledPattern pattern here = settled_pattern pattern here ≡ pattern

-- whether the alternatives of a pattern have types in a context, or the first code of one
abbrev pub pattern_types : Pattern → Ty → Result (Unit {0}) Code
pattern_types pattern context = have_types context (Ok tt) pattern.alternatives
