-- How parts are settled_expression one behind another.
use Rattle.std.specs.Prelude.{◌≡◌, List, [], ◌∷◌, ◌++◌, length, drop, map, Result, Ok, Err}
use Rattle.sx_atoms.specs.Numbers.{◌>>=◌}
use Rattle.sx_atoms.specs.declared.error_codes.Code.{Code}
use Rattle.sx_kinds.specs.Settled.{TypingPlace, and_one, finished, inner, settled_expression, settled_parts, settling_of, with_parts}
use Rattle.sx_kinds.specs.Types.{type_below, each, first_typing, known_by, parts_of_typings, typing}
use Rattle.sx_kinds.specs.declared.expressions.Deep.{Deep}
use Rattle.sx_kinds.specs.declared.expressions.Expr.{Expr}
use Rattle.sx_kinds.specs.declared.expressions.Expr.TheViews.{out-Expr}
use Rattle.sx_kinds.specs.declared.expressions.ExprForm.{ExprForm}
use Rattle.sx_kinds.specs.declared.types.Parts.{Parts}
use Rattle.sx_kinds.specs.declared.types.Ty.{Ty}
use Rattle.sx_kinds.specs.declared.types.Typing.{Typing}

-- what is known of parts together, or the first code of one
abbrev pub together : Result (List Typing) Code → Result Parts Code
together before = do
  ts ← before
  Ok (parts_of_typings ts)

-- what is known of an expression by its form and its parts, where none has a code
abbrev pub known_from : ExprForm → Deep → Ty → Result Parts Code → Result Typing Code
known_from form deep context known = do
  parts ← known
  known_by form deep context parts

-- one expression more behind others, and what is known of it in a context
abbrev pub AddsSettled : List Expr → List Expr → Expr → Ty → Result Typing Code → Type 0
AddsSettled before after made context answer = (after ≡ before ++ made ∷ []) × (answer ≡ typing made context)

-- these parts of an expression are known together, in the context that they have where the expression stands in another one
abbrev pub AreKnownParts : Expr → List Expr → Ty → Ty → Result Parts Code → Result (List Typing) Code → Type 0
AreKnownParts e parts context outer known before =
    (known ≡ together before) × (each (out-Expr e).form context [] (map typing parts) ≡ before) ×
    (context ≡ type_below (out-Expr e).deep outer)

-- an expression with these parts, with its own fields settled_expression by what is known of it in this context
abbrev pub finished_in : Expr → TypingPlace → List Expr → Ty → Expr
finished_in e here parts outer =
    finished (out-Expr e) here parts (typing (with_parts (out-Expr e) parts) outer)

-- a part behind these: settled_expression, or as it was behind one that has a code
abbrev pub next_part : ExprForm → TypingPlace → Result (List Typing) Code → Expr → Expr
next_part form here (Err code) part = part
next_part form here (Ok ts) part = settled_expression part (inner form here (first_typing ts))

-- what is known of these and that one
abbrev pub known_after : ExprForm → TypingPlace → Result (List Typing) Code → Expr → Result (List Typing) Code
known_after form here (Err code) part = Err code
known_after form here (Ok ts) part =
    let place = inner form here (first_typing ts) in
    and_one ts (typing (settled_expression part place) place.context)

-- the place of the parts of an expression before any of them is known
abbrev pub place_inside : Expr → TypingPlace → TypingPlace
place_inside e outer = record outer { context = type_below (out-Expr e).deep outer.context }

-- the first parts of an expression settled_expression, and what is known of them: with the others settled_expression behind them they are all
abbrev pub IsBegun : Expr → TypingPlace → List Expr → Result Parts Code → Type 0
IsBegun e outer parts known =
    (before : Result (List Typing) Code) × (known ≡ together before) ×
    (each (out-Expr e).form (place_inside e outer).context [] (map typing parts) ≡ before) ×
    (parts ++ settled_parts (out-Expr e).form (place_inside e outer) before (map settling_of (drop (length parts)
    (out-Expr e).parts)) ≡
    settled_parts (out-Expr e).form (place_inside e outer) (Ok []) (map settling_of (out-Expr e).parts))

-- an expression alone, settled_expression in this place, and what is known of it
abbrev pub IsSettledAt : TypingPlace → Expr → List Expr → Result Typing Code → Type 0
IsSettledAt outer e parts known = AddsSettled [] parts (settled_expression e outer) outer.context known

-- an alternative of a pattern behind these: settled_expression, or as it was behind one that has a code
abbrev pub next_alternative : TypingPlace → Result (Unit {0}) Code → Expr → Expr
next_alternative here (Err code) e = e
next_alternative here (Ok all) e = settled_expression e here
