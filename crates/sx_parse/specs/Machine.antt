-- Reading token by token, with what is open and what is pending.
use Rattle.std.specs.Prelude.{ℕ, suc, Bool, true, false, ◌&&◌, ◌||◌, not, if◌then◌else◌, nat_le, nat_eq, List, [], ◌∷◌, Option, Some, None, Result, Ok, Err}
use Rattle.sx_atoms.specs.declared.arithmetic.ArithOp.TheVariants as arith
use Rattle.sx_parse.specs.declared.lexemes.Operator.{Operator}
use Rattle.sx_parse.specs.declared.lexemes.Operator.TheVariants as operator
use Rattle.sx_parse.specs.declared.lexemes.Casting.{Casting}
use Rattle.sx_parse.specs.declared.lexemes.Binder.{Binder}
use Rattle.sx_parse.specs.declared.lexemes.KindWord.{KindWord}
use Rattle.sx_parse.specs.declared.lexemes.Word.{Word}
use Rattle.sx_parse.specs.declared.lexemes.Word.TheVariants as word
use Rattle.sx_parse.specs.declared.lexemes.Mark.{Mark}
use Rattle.sx_parse.specs.declared.lexemes.Mark.TheVariants as mark
use Rattle.sx_parse.specs.declared.lexemes.Lexeme.{Lexeme}
use Rattle.sx_parse.specs.declared.lexemes.Lexeme.TheVariants as lexeme
use Rattle.sx_parse.specs.declared.lexemes.StepPrefix.{StepPrefix}
use Rattle.sx_parse.specs.declared.lexemes.StepPrefix.TheVariants as prefix
use Rattle.sx_parse.specs.declared.lexemes.Test.TheVariants as test
use Rattle.sx_parse.specs.Grammar.{level, left_level, casting_level, prefix_level, prefix_floor, names_axis, takes_name, introduces, returns, begins_step, allows_lexeme, Tree, literal, dot, parent, root, variable, step, empty, parens, call, called, filter, comma, prefixed, binary, cast, choice, bind, Bindings, first, also, binder_of}

-- bindings that have begun: with a word, or behind others and a comma
pub data Given : Type 0 where
  begun : Binder → ℕ → Given
  behind : Bindings → Given

-- what is open and what is pending, the innermost first; at the bottom, whether a pattern is read
pub data Stack : Type 0 where
  bottom : Bool → Stack
  pending : Tree → Lexeme → Operator → Stack → Stack
  more : Tree → Stack → Stack
  signed : Operator → Stack → Stack
  paren : Stack → Stack
  arguments : Word → ℕ → Stack → Stack
  predicate : Tree → Stack → Stack
  condition : ℕ → Stack → Stack
  branch : ℕ → Tree → ℕ → Stack → Stack
  otherwise : ℕ → Tree → ℕ → Tree → ℕ → Stack → Stack
  binding : Given → Word → ℕ → Lexeme → Stack → Stack
  body : Bindings → Lexeme → Stack → Stack

pub data State : Type 0 where
  -- an operand has to come
  want : Stack → State
  -- the same, or the closing parenthesis
  fresh : Stack → State
  -- behind a `/` where an operand had to come
  slash : Stack → State
  -- behind a name where an operand or a test had to come
  named : StepPrefix → Word → ℕ → Stack → State
  -- behind `$`
  dollar : Stack → State
  -- behind `@` or the name of an axis and `::`
  axis : StepPrefix → Stack → State
  -- behind the word of a kind and `(`
  kind : StepPrefix → KindWord → ℕ → Stack → State
  kind_name : StepPrefix → KindWord → ℕ → Word → ℕ → Stack → State
  -- behind an operand
  have : Tree → Stack → State
  -- behind a comma of bindings, behind their `$`, and behind a name
  comma_bound : Bindings → Stack → State
  binder_dollar : Given → Stack → State
  binder_name : Given → Word → ℕ → Stack → State
  -- behind `cast` or `castable`, and behind `as`
  casting : Tree → Casting → ℕ → Stack → State
  casting_as : Tree → Casting → ℕ → ℕ → Stack → State
  -- behind the parentheses of `if`
  conditioned : ℕ → Tree → Stack → State

abbrev pub start : Bool → State
start p = want (bottom p)

-- whether a token stands in a pattern outside predicates
abbrev pub in_pattern : Stack → Bool
in_pattern (bottom p) = p
in_pattern (pending a l o s) = in_pattern s
in_pattern (more a s) = in_pattern s
in_pattern (signed o s) = in_pattern s
in_pattern s = false

-- the least level of what may stand there
abbrev pub floor : Stack → ℕ
floor (pending a l o s) = suc (level o)
floor (more a s) = 1
floor (signed o s) = prefix_floor o
floor (branch i c j s) = 1
floor (otherwise i c j t k s) = 1
floor (binding g w r l s) = 1
floor (body bs l s) = 1
floor s = 0

abbrev pub bound : Given → Word → ℕ → Lexeme → Tree → Bindings
bound (begun k p) w r l a = first k p w r l a
bound (behind bs) w r l a = also bs w r l a

abbrev pub given_binder : Given → Binder
given_binder (begun k p) = k
given_binder (behind bs) = binder_of bs

-- whether what was read fits at a level by itself, as a whole that nothing stands before
abbrev pub reaches : Bool → ℕ → Tree → Bool
reaches p n root = nat_le n 14 && (not p || nat_eq n 0)
reaches p n (cast e k i j w m optional) = nat_le n (casting_level k)
reaches p n t = true

-- an operand, and what stands before it, once everything pending of a level or a later one is joined
pub record Reached : Type 0 where
  pub operand : Tree
  pub under : Stack

abbrev pub reached : Tree → Stack → Reached
reached t s = record { operand = t; under = s }

abbrev pub reach : ℕ → Tree → Stack → Reached
reach n t (pending a l o s) = if nat_le n (level o) then reach n (binary a l o t) s else reached t (pending a l o s)
reach n t (more a s) = if nat_le n 0 then reach n (comma a t) s else reached t (more a s)
reach n t (signed o s) = if nat_le n (prefix_level o) then reach n (prefixed o t) s else reached t (signed o s)
reach n t (otherwise i c j u k s) = if nat_le n 1 then reach n (choice i c j u k t) s else reached t (otherwise i c j u k s)
reach n t (body bs l s) = if nat_le n 1 then reach n (bind bs l t) s else reached t (body bs l s)
reach n t s = reached t s

-- ---- where an operand has to come

abbrev pub when : Bool → State → Option State
when true s = Some s
when false s = None

abbrev pub begin_mark : Stack → Mark → Option State
begin_mark s (mark.Operator (operator.Arith arith.Mul)) = Some (have (step prefix.Plain test.Any) s)
begin_mark s (mark.Operator (operator.Arith arith.Add)) = when (not (in_pattern s) && nat_le (floor s) 12) (want (signed (operator.Arith arith.Add) s))
begin_mark s (mark.Operator (operator.Arith arith.Sub)) = when (not (in_pattern s) && nat_le (floor s) 12) (want (signed (operator.Arith arith.Sub) s))
begin_mark s (mark.Operator operator.Slash) = when (nat_le (floor s) 15) (slash s)
begin_mark s (mark.Operator operator.DoubleSlash) = when (nat_le (floor s) 15) (want (signed operator.DoubleSlash s))
begin_mark s mark.Open = when (not (in_pattern s)) (fresh (paren s))
begin_mark s mark.Dollar = when (not (in_pattern s)) (dollar s)
begin_mark s mark.At = Some (axis prefix.At s)
begin_mark s mark.Dot = when (not (in_pattern s)) (have dot s)
begin_mark s mark.DotDot = when (not (in_pattern s)) (have parent s)
begin_mark s m = None

abbrev pub begin : Stack → Lexeme → Option State
begin s (lexeme.Literal p) = when (not (in_pattern s)) (have (literal p) s)
begin s (lexeme.Wild p) = Some (have (step prefix.Plain (test.Wild p)) s)
begin s (lexeme.Name w p) = Some (named prefix.Plain w p s)
begin s (lexeme.Mark m) = begin_mark s m

abbrev pub close_empty : Stack → Option State
close_empty (paren s) = Some (have empty s)
close_empty (arguments w p s) = Some (have (call w p) s)
close_empty s = None

abbrev pub begin_fresh : Stack → Lexeme → Option State
begin_fresh s (lexeme.Mark mark.Close) = close_empty s
begin_fresh s l = begin s l

-- ---- behind an operand

abbrev pub close_under : Tree → Stack → Option State
close_under t (paren s) = Some (have (parens t) s)
close_under t (arguments w p s) = Some (have (called w p t) s)
close_under t (condition p s) = Some (conditioned p t s)
close_under t s = None

abbrev pub close : Reached → Option State
close r = close_under r.operand r.under

abbrev pub close_bracket : Tree → Stack → Option State
close_bracket t (predicate b s) = Some (have (filter b t) s)
close_bracket t s = None

abbrev pub else_under : Tree → ℕ → Stack → Option State
else_under t k (branch i c j s) = Some (want (otherwise i c j t k s))
else_under t k s = None

abbrev pub comma_under : Tree → Stack → Option State
comma_under t (binding g w r l s) = Some (comma_bound (bound g w r l t) s)
comma_under t s = when (nat_le (floor s) 0) (want (more t s))

-- a word that ends the values of bindings
abbrev pub return_under : Tree → Lexeme → Stack → Option State
return_under t l (binding g w r i s) = when (returns (given_binder g) l) (want (body (bound g w r i t) l s))
return_under t l s = None

abbrev pub operate_on : Lexeme → Operator → Reached → Option State
operate_on l o r = when (nat_le (floor r.under) (level o)) (want (pending r.operand l o r.under))

abbrev pub cast_on : Casting → ℕ → Reached → Option State
cast_on k p r = when (nat_le (floor r.under) (casting_level k)) (casting r.operand k p r.under)

abbrev pub question : Tree → Stack → Option State
question (cast e k i j w m false) s = Some (have (cast e k i j w m true) s)
question t s = None

abbrev pub follow_operator : Tree → Stack → Lexeme → Operator → Option State
follow_operator t s l o = if allows_lexeme (in_pattern s) l && reaches (in_pattern s) (left_level o) t then operate_on l o (reach (left_level o) t s) else None

abbrev pub follow_mark : Tree → Stack → Mark → Option State
follow_mark t s (mark.Operator o) = follow_operator t s (lexeme.Mark (mark.Operator o)) o
follow_mark t s mark.Comma = if in_pattern s then None else comma_under (reach 0 t s).operand (reach 0 t s).under
follow_mark t s mark.Close = close (reach 0 t s)
follow_mark t s mark.CloseBracket = close_bracket (reach 0 t s).operand (reach 0 t s).under
follow_mark t s mark.OpenBracket = when (reaches (in_pattern s) 16 t) (want (predicate t s))
follow_mark t s mark.Question = question t s
follow_mark t s m = None

abbrev pub follow_name : Tree → Stack → Word → ℕ → Option State
follow_name t s (word.Operator o) p = follow_operator t s (lexeme.Name (word.Operator o) p) o
follow_name t s (word.Casting k) p = if not (in_pattern s) && reaches false (suc (casting_level k)) t then cast_on k p (reach (suc (casting_level k)) t s) else None
follow_name t s word.Else p = else_under (reach 0 t s).operand p (reach 0 t s).under
follow_name t s word.Return p = return_under (reach 0 t s).operand (lexeme.Name word.Return p) (reach 0 t s).under
follow_name t s word.Satisfies p = return_under (reach 0 t s).operand (lexeme.Name word.Satisfies p) (reach 0 t s).under
follow_name t s w p = None

abbrev pub follow : Tree → Stack → Lexeme → Option State
follow t s (lexeme.Mark m) = follow_mark t s m
follow t s (lexeme.Name w p) = follow_name t s w p
follow t s l = None

-- ---- behind a name

abbrev pub open_kind : StepPrefix → Word → ℕ → Stack → Option State
open_kind pre (word.Kind k) p s = Some (kind pre k p s)
open_kind pre w p s = None

abbrev pub open_plain : Word → ℕ → Stack → Option State
open_plain (word.Kind k) p s = Some (kind prefix.Plain k p s)
open_plain word.If p s = when (not (in_pattern s) && nat_le (floor s) 1) (want (condition p s))
open_plain w p s = when (not (in_pattern s)) (fresh (arguments w p s))

abbrev pub open_name : StepPrefix → Word → ℕ → Stack → Option State
open_name prefix.Plain w p s = open_plain w p s
open_name pre w p s = open_kind pre w p s

abbrev pub name_axis : StepPrefix → Word → ℕ → Stack → Option State
name_axis prefix.Plain w p s = when (names_axis (in_pattern s) w) (axis (prefix.Axis w p) s)
name_axis pre w p s = None

abbrev pub name_binder : StepPrefix → Word → ℕ → Stack → Option State
name_binder prefix.Plain (word.Binder k) p s = when (not (in_pattern s) && nat_le (floor s) 1) (binder_dollar (begun k p) s)
name_binder pre w p s = None

abbrev pub follow_named : StepPrefix → Word → ℕ → Stack → Lexeme → Option State
follow_named pre w p s (lexeme.Mark mark.Open) = open_name pre w p s
follow_named pre w p s (lexeme.Mark mark.Colons) = name_axis pre w p s
follow_named pre w p s (lexeme.Mark mark.Dollar) = name_binder pre w p s
follow_named pre w p s l = follow (step pre (test.Named w p)) s l

-- ---- inside steps, bindings and casts

abbrev pub axis_test : StepPrefix → Stack → Lexeme → Option State
axis_test pre s (lexeme.Name w p) = Some (named pre w p s)
axis_test pre s (lexeme.Wild p) = Some (have (step pre (test.Wild p)) s)
axis_test pre s (lexeme.Mark (mark.Operator (operator.Arith arith.Mul))) = Some (have (step pre test.Any) s)
axis_test pre s l = None

abbrev pub in_kind : StepPrefix → KindWord → ℕ → Stack → Lexeme → Option State
in_kind pre k p s (lexeme.Mark mark.Close) = Some (have (step pre (test.Kind k p)) s)
in_kind pre k p s (lexeme.Name w q) = when (takes_name k w) (kind_name pre k p w q s)
in_kind pre k p s l = None

abbrev pub end_kind : StepPrefix → KindWord → ℕ → Word → ℕ → Stack → Lexeme → Option State
end_kind pre k p w q s (lexeme.Mark mark.Close) = Some (have (step pre (test.KindOf k p w q)) s)
end_kind pre k p w q s l = None

abbrev pub variable_name : Stack → Lexeme → Option State
variable_name s (lexeme.Name w p) = Some (have (variable w p) s)
variable_name s l = None

abbrev pub bound_dollar : Bindings → Stack → Lexeme → Option State
bound_dollar bs s (lexeme.Mark mark.Dollar) = Some (binder_dollar (behind bs) s)
bound_dollar bs s l = None

abbrev pub bound_name : Given → Stack → Lexeme → Option State
bound_name g s (lexeme.Name w p) = Some (binder_name g w p s)
bound_name g s l = None

abbrev pub cast_as : Tree → Casting → ℕ → Stack → Lexeme → Option State
cast_as t k p s (lexeme.Name word.As q) = Some (casting_as t k p q s)
cast_as t k p s l = None

abbrev pub cast_type : Tree → Casting → ℕ → ℕ → Stack → Lexeme → Option State
cast_type t k p q s (lexeme.Name w r) = Some (have (cast t k p q w r false) s)
cast_type t k p q s l = None

abbrev pub then_word : ℕ → Tree → Stack → Lexeme → Option State
then_word p c s (lexeme.Name word.Then q) = Some (want (branch p c q s))
then_word p c s l = None

abbrev pub follow_slash : Stack → Lexeme → Option State
follow_slash s l =
    if begins_step l then begin (signed operator.Slash s) l
    else if reaches (in_pattern s) (floor s) root then follow root s l
    else None

abbrev pub read : State → Lexeme → Option State
read (want s) l = begin s l
read (fresh s) l = begin_fresh s l
read (slash s) l = follow_slash s l
read (named pre w p s) l = follow_named pre w p s l
read (dollar s) l = variable_name s l
read (axis pre s) l = axis_test pre s l
read (kind pre k p s) l = in_kind pre k p s l
read (kind_name pre k p w q s) l = end_kind pre k p w q s l
read (have t s) l = follow t s l
read (comma_bound bs s) l = bound_dollar bs s l
read (binder_dollar g s) l = bound_name g s l
read (binder_name g w r s) l = when (introduces (given_binder g) l) (want (binding g w r l s))
read (casting t k p s) l = cast_as t k p s l
read (casting_as t k p q s) l = cast_type t k p q s l
read (conditioned p c s) l = then_word p c s l

-- ---- at the end

abbrev pub whole_under : Tree → Stack → Option Tree
whole_under t (bottom p) = Some t
whole_under t s = None

abbrev pub whole : Reached → Option Tree
whole r = whole_under r.operand r.under

abbrev pub ended_root : Stack → Option Tree
ended_root s = if reaches (in_pattern s) (floor s) root then whole (reach 0 root s) else None

abbrev pub ended : State → Option Tree
ended (have t s) = whole (reach 0 t s)
ended (named pre w p s) = whole (reach 0 (step pre (test.Named w p)) s)
ended (slash s) = ended_root s
ended s = None

-- what is read, or the number of the token at which no reading goes on
abbrev pub answer : ℕ → Option Tree → Result Tree ℕ
answer k None = Err k
answer k (Some t) = Ok t

abbrev pub and_then : ℕ → Option State → (State → Result Tree ℕ) → Result Tree ℕ
and_then k None f = Err k
and_then k (Some s) f = f s

abbrev pub run : State → ℕ → List Lexeme → Result Tree ℕ
run s k [] = answer k (ended s)
run s k (l ∷ ls) = and_then k (read s l) (λ next. run next (suc k) ls)
