-- Expressions whose numbers are given part by part: a level is an expression some of whose parts have theirs, and stands on the levels
-- of the expressions that it is a part of.
use Rattle.std.specs.Prelude.{ℕ, ◌+◌, Bool, false, List, [], ◌∷◌, ◌++◌, map, reverse}
use Rattle.sx_kinds.specs.declared.expressions.Expr.{Expr}
use Rattle.sx_kinds.specs.declared.expressions.Expr.TheViews.{roll-Expr}
use Rattle.sx_parse.specs.declared.numbering.Level.{Level}
use Rattle.sx_parse.specs.Numbered.{Numbers, counts, in_order, numbers_in}

-- what is numbered in the parts that are left, which lie with the last one first
abbrev pub left_of : Level → List (Bool → Numbers)
left_of l = map numbers_in (reverse l.left)

-- the expression of a level, where these are its parts
abbrev pub level_with_parts : Level → List Expr → Expr
level_with_parts l es = roll-Expr (record { construct = l.construct; deep = l.deep; form = l.form; parts = es })

-- the expression of a level whose parts left are numbered from a number on, and the number levels_behind it
abbrev pub whole_level : Level → ℕ → Expr
whole_level l n = level_with_parts l (l.done ++ in_order l.outside n (left_of l))

abbrev pub levels_behind : Level → ℕ → ℕ
levels_behind l n = n + counts l.outside (left_of l)

-- the number levels_behind the outermost expression of levels, the outermost one first, where a number is the next one of the innermost one
abbrev pub levels_ended : List Level → ℕ → ℕ
levels_ended [] n = n
levels_ended (l ∷ ls) n = levels_behind l (levels_ended ls n)

-- that outermost expression, where an expression in front of the number is the next part of the innermost one
abbrev pub raised : List Level → Expr → ℕ → Expr
raised [] e n = e
raised (l ∷ ls) e n = level_with_parts l (l.done ++ raised ls e n ∷ in_order l.outside (levels_ended ls n) (left_of l))

-- how many numbers the parts left have, were no part one of a pattern
abbrev pub levels_waiting : List Level → ℕ
levels_waiting [] = 0
levels_waiting (l ∷ ls) = counts false (left_of l) + levels_waiting ls
