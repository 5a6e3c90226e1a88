-- What is known of the first part of an expression before the others.
use Rattle.std.specs.Prelude.{◌≡◌, ◌<◌, List, [], ◌∷◌, Option, None, Some, Ok}
use Rattle.sx_kinds.specs.Types.{typing}
use Rattle.sx_kinds.specs.Ways.{levels, next_below}
use Rattle.sx_kinds.specs.declared.expressions.Expr.{Expr}
use Rattle.sx_kinds.specs.declared.types.Ty.{Ty}
use Rattle.sx_kinds.specs.declared.types.Typing.{Typing}
use Rattle.sx_kinds.specs.declared.walks.Way.TheVariants.{OneFocus}

-- what may be known of the first part of an expression, which then stands in the focus of the whole
abbrev pub IsKnownTyping : Expr → Ty → Option Typing → Type 0
IsKnownTyping e outer None = Unit {0}
IsKnownTyping e outer (Some t) = (0 < levels OneFocus e) × (typing (next_below OneFocus e) outer ≡ Ok t)

-- what is known of the first of these parts, where it is and there is one
abbrev pub known_front : Option Typing → List Expr → List Typing
known_front None parts = []
known_front (Some t) [] = []
known_front (Some t) (part ∷ parts) = t ∷ []
