-- Reading token by token, with lists in place of derivations: what the code keeps.
use Rattle.std.specs.Prelude.{ℕ, suc, ◌+◌, ◌-◌, ◌^◌, min, Bool, true, false, ◌&&◌, ◌||◌, not, if◌then◌else◌, nat_le, nat_eq, List, [], ◌∷◌, ◌++◌, length, reverse, slice_set, Option, Some, None, Result, Ok, Err}
use Rattle.sx_atoms.specs.declared.arithmetic.ArithOp.TheVariants as arith
use Rattle.sx_parse.specs.declared.lexemes.Operator.{Operator}
use Rattle.sx_parse.specs.declared.lexemes.Operator.TheVariants as operator
use Rattle.sx_parse.specs.declared.lexemes.Casting.{Casting}
use Rattle.sx_parse.specs.declared.lexemes.Binder.{Binder}
use Rattle.sx_parse.specs.declared.lexemes.KindWord.{KindWord}
use Rattle.sx_parse.specs.declared.lexemes.Word.{Word}
use Rattle.sx_parse.specs.declared.lexemes.Word.TheVariants as word
use Rattle.sx_parse.specs.declared.lexemes.Mark.{Mark}
use Rattle.sx_parse.specs.declared.lexemes.Mark.TheVariants as mark
use Rattle.sx_parse.specs.declared.lexemes.Lexeme.{Lexeme}
use Rattle.sx_parse.specs.declared.lexemes.Lexeme.TheVariants as lexeme
use Rattle.sx_parse.specs.declared.lexemes.StepPrefix.{StepPrefix}
use Rattle.sx_parse.specs.declared.lexemes.StepPrefix.TheVariants as prefix
use Rattle.sx_parse.specs.declared.lexemes.Test.{Test}
use Rattle.sx_parse.specs.declared.lexemes.Test.TheVariants as test
use Rattle.sx_parse.specs.declared.nodes.Node.{Node}
use Rattle.sx_parse.specs.declared.nodes.Node.TheVariants as node
use Rattle.sx_parse.specs.declared.roles.Role.{Role}
use Rattle.sx_parse.specs.declared.roles.Role.TheVariants as role
use Rattle.sx_parse.specs.declared.frames.Frame.{Frame}
use Rattle.sx_parse.specs.declared.frames.Frame.TheVariants as frame
use Rattle.sx_parse.specs.declared.frames.Shape.{Shape}
use Rattle.sx_parse.specs.declared.frames.Shape.TheVariants as shape
use Rattle.sx_parse.specs.declared.frames.Mode.{Mode}
use Rattle.sx_parse.specs.declared.frames.Mode.TheVariants as mode
use Rattle.sx_parse.specs.declared.reader.Reader.{Reader}
use Rattle.sx_parse.specs.declared.reader.Reading.{Reading}
use Rattle.sx_parse.specs.Grammar.{level, left_level, casting_level, prefix_level, prefix_floor, names_axis, takes_name, introduces, returns, begins_step, allows_lexeme}
use Rattle.sx_parse.specs.Roles.{inner_role}

-- what is open and what is pending, the innermost first; the operands that are complete; what the tokens are; how many things are
-- open; whether a pattern is read; and what has to come
pub record Flat : Type 0 where
  pub frames : List Frame
  pub nodes : List Node
  pub roles : List Role
  pub depth : ℕ
  pub pattern : Bool
  pub mode : Mode

-- what the code keeps, as the definitions below see it: the innermost frame first
abbrev pub seen : Reader → Flat
seen r = record { frames = reverse r.frames; nodes = r.nodes; roles = r.roles; depth = r.depth; pattern = r.pattern; mode = r.mode }

-- where a token is read; else the roles of those before it
abbrev pub Outcome : Type 0
Outcome = Result Flat (List Role)

-- the same by whether reading goes on
abbrev pub outcome : Bool → Flat → Outcome
outcome true f = Ok f
outcome false f = Err f.roles

-- no reading goes on
abbrev pub refuse : Flat → Outcome
refuse f = Err f.roles

-- nothing is read yet
abbrev pub start : Bool → Flat
start p = record { frames = []; nodes = []; roles = []; depth = 0; pattern = p; mode = mode.Want }

-- ---- what tokens change

-- a list with another last item
abbrev pub replaced : {A : Type 0} → List A → A → List A
replaced xs x = slice_set xs (length xs - 1) x

-- one more, as far as the code counts
abbrev pub next : ℕ → ℕ
next n = min (n + 1) (2 ^ 64 - 1)

-- whether a token stands in a pattern outside predicates
abbrev pub in_pattern : Flat → Bool
in_pattern f = f.pattern && nat_eq f.depth 0

-- an operand of one token is complete
abbrev pub have : Flat → Node → Role → Shape → Outcome
have f n r sh = Ok (record f { nodes = f.nodes ++ n ∷ []; roles = f.roles ++ r ∷ []; mode = mode.Have sh 1 })

-- a token that stands before an operand
abbrev pub expect : Flat → Frame → Role → Outcome
expect f fr r = Ok (record f { frames = fr ∷ f.frames; roles = f.roles ++ r ∷ []; mode = mode.Want })

-- a token after which something else has to come
abbrev pub turn : Flat → Mode → Role → Outcome
turn f m r = Ok (record f { roles = f.roles ++ r ∷ []; mode = m })

-- something opens
abbrev pub opened : Flat → Frame → Mode → Outcome
opened f fr m = Ok (record f { frames = fr ∷ f.frames; roles = f.roles ++ role.Opens (next f.depth) ∷ []; depth = next f.depth; mode = m })

-- something closes
abbrev pub closed : Flat → Node → Role → Shape → Outcome
closed f n r sh = have (record f { depth = f.depth - 1 }) n r sh

-- the last token turns out to be something else
abbrev pub relabelled : Flat → Role → Flat
relabelled f r = record f { roles = replaced f.roles r }

-- the same under other frames
abbrev pub under : Flat → List Frame → Flat
under f fs = record f { frames = fs }

-- an operand is complete, by the token before
abbrev pub with_node : Flat → Node → Flat
with_node f n = record f { nodes = f.nodes ++ n ∷ [] }

-- ---- levels

-- the least level of what may stand behind a frame
abbrev pub frame_floor : Frame → ℕ
frame_floor (frame.Pending o) = suc (level o)
frame_floor (frame.More n) = 1
frame_floor (frame.Signed o) = prefix_floor o
frame_floor frame.Branch = 1
frame_floor frame.Otherwise = 1
frame_floor (frame.Binding k n) = 1
frame_floor (frame.Body k n) = 1
frame_floor fr = 0

-- the least level of what may stand here
abbrev pub floor : List Frame → ℕ
floor [] = 0
floor (fr ∷ fs) = frame_floor fr

-- whether an operand of this shape fits at a level by itself, as a whole that nothing stands before
abbrev pub reaches : Bool → ℕ → Shape → Bool
reaches p n shape.Root = nat_le n 14 && (not p || nat_eq n 0)
reaches p n (shape.Cast k r o) = nat_le n (casting_level k)
reaches p n sh = true

-- ---- joining

-- what a frame makes of the operand behind it, if its rule is of the level or a later one
abbrev pub when_some : Bool → Node → Option Node
when_some true n = Some n
when_some false n = None

abbrev pub joins : ℕ → Frame → Option Node
joins n (frame.Pending o) = when_some (nat_le n (level o)) (node.Binary o)
joins n (frame.More k) = when_some (nat_le n 0) node.Comma
joins n (frame.Signed o) = when_some (nat_le n (prefix_level o)) (node.Prefix o)
joins n frame.Otherwise = when_some (nat_le n 1) node.Choice
joins n (frame.Body k r) = when_some (nat_le n 1) (node.Bind k r)
joins n fr = None

-- how many operands commas join then
abbrev pub count_behind : Frame → ℕ
count_behind (frame.More k) = next k
count_behind fr = 1

-- how many things are open then
abbrev pub depth_behind : Frame → ℕ → ℕ
depth_behind frame.Otherwise d = d - 1
depth_behind (frame.Body k r) d = d - 1
depth_behind fr d = d

-- a frame is joined to the operand behind it
abbrev pub join : Flat → Frame → Node → Flat
join f fr n = record f { nodes = f.nodes ++ n ∷ []; depth = depth_behind fr f.depth }

-- everything pending of a level or a later one is joined: what is left, and how many operands commas join
pub record Joined : Type 0 where
  pub flat : Flat
  pub operands : ℕ

abbrev pub joined : Flat → ℕ → Joined
joined f c = record { flat = f; operands = c }

abbrev pub reach : ℕ → List Frame → Flat → ℕ → Joined
reach n [] f c = joined (under f []) c
reach n (fr ∷ fs) f c =
    elim (joins n fr) [ None ↦ joined (under f (fr ∷ fs)) c | Some made ↦ reach n fs (join (under f fs) fr made) (count_behind fr) ]

-- the same of all frames
abbrev pub joined_at : ℕ → Flat → ℕ → Joined
joined_at n f c = reach n f.frames f c

-- ---- where an operand has to come

-- a sign
abbrev pub sign : Flat → Operator → Outcome
sign f o = if nat_le (floor f.frames) 12 then expect f (frame.Signed o) role.Plain else refuse f

-- the marks that begin an operand, but none of a pattern
abbrev pub begin_outside : Flat → Mark → Outcome
begin_outside f (mark.Operator (operator.Arith arith.Add)) = sign f (operator.Arith arith.Add)
begin_outside f (mark.Operator (operator.Arith arith.Sub)) = sign f (operator.Arith arith.Sub)
begin_outside f mark.Open = opened f frame.Paren mode.Fresh
begin_outside f mark.Dollar = turn f mode.Dollar role.Plain
begin_outside f mark.Dot = have f node.Dot role.Plain shape.Other
begin_outside f mark.DotDot = have f node.Parent role.Plain shape.Filtered
begin_outside f m = refuse f

-- `/`, which may stand alone
abbrev pub begin_slash : Flat → Outcome
begin_slash f = if nat_le (floor f.frames) 15 then turn f mode.Slash role.Plain else refuse f

abbrev pub begin_double_slash : Flat → Outcome
begin_double_slash f = if nat_le (floor f.frames) 15 then expect f (frame.Signed operator.DoubleSlash) role.Plain else refuse f

abbrev pub begin_unless_pattern : Flat → Mark → Outcome
begin_unless_pattern f m = if in_pattern f then refuse f else begin_outside f m

abbrev pub begin_mark : Flat → Mark → Outcome
begin_mark f (mark.Operator (operator.Arith arith.Mul)) = have f (node.Step prefix.Plain test.Any) role.Plain shape.Filtered
begin_mark f (mark.Operator operator.Slash) = begin_slash f
begin_mark f (mark.Operator operator.DoubleSlash) = begin_double_slash f
begin_mark f mark.At = turn f (mode.Axis prefix.At) role.Plain
begin_mark f m = begin_unless_pattern f m

abbrev pub literal : Flat → ℕ → Outcome
literal f p = if in_pattern f then refuse f else have f (node.Literal p) role.Literal shape.Other

-- the first token of an operand
abbrev pub begin : Flat → Lexeme → Outcome
begin f (lexeme.Literal p) = literal f p
begin f (lexeme.Wild p) = have f (node.Step prefix.Plain (test.Wild p)) role.Wild shape.Filtered
begin f (lexeme.Name w p) = turn f (mode.Named prefix.Plain w p) role.Name
begin f (lexeme.Mark m) = begin_mark f m

-- `)` behind `(`
abbrev pub close_empty : List Frame → Flat → Outcome
close_empty (frame.Paren ∷ fs) f = closed (under f fs) node.Empty role.Plain shape.Other
close_empty (frame.Arguments p ∷ fs) f = closed (under f fs) (node.Call p) (role.Closes p 0) shape.Other
close_empty fs f = refuse f

-- the first token behind `(`
abbrev pub begin_fresh : Flat → Lexeme → Outcome
begin_fresh f (lexeme.Mark mark.Close) = close_empty f.frames f
begin_fresh f l = begin f l

-- ---- behind an operand

-- `)` behind the test of `if`
abbrev pub conditioned : Flat → Outcome
conditioned f = turn (record f { depth = f.depth - 1 }) mode.Conditioned role.Plain

-- `)` behind so many operands with commas between
abbrev pub close_under : List Frame → Flat → ℕ → Outcome
close_under (frame.Paren ∷ fs) f c = closed (under f fs) node.Parens role.Plain shape.Other
close_under (frame.Arguments p ∷ fs) f c = closed (under f fs) (node.Called p) (role.Closes p c) shape.Other
close_under (frame.Condition ∷ fs) f c = conditioned (under f fs)
close_under fs f c = refuse f

abbrev pub close : Joined → Outcome
close j = close_under j.flat.frames j.flat j.operands

-- `]`
abbrev pub close_bracket : List Frame → Flat → Outcome
close_bracket (frame.Predicate more ∷ fs) f = closed (under f fs) (node.Filter more) role.Plain shape.Filtered
close_bracket fs f = refuse f

-- `else`
abbrev pub else_under : List Frame → Flat → Outcome
else_under (frame.Branch ∷ fs) f = expect (under f fs) frame.Otherwise role.Plain
else_under fs f = refuse f

-- `,` behind the value of a variable
abbrev pub comma_bound : Flat → Binder → ℕ → Outcome
comma_bound f k r = turn (under f (frame.Body k r ∷ f.frames)) (mode.CommaBound k) role.Plain

-- `,` between operands
abbrev pub more_operands : Flat → ℕ → Outcome
more_operands f c = if nat_le (floor f.frames) 0 then expect f (frame.More c) role.Plain else refuse f

abbrev pub comma_under : List Frame → Flat → ℕ → Outcome
comma_under (frame.Binding k r ∷ fs) f c = comma_bound (under f fs) k r
comma_under fs f c = more_operands (under f fs) c

abbrev pub comma : Joined → Outcome
comma j = comma_under j.flat.frames j.flat j.operands

-- `return` or `satisfies`
abbrev pub return_under : List Frame → Flat → Lexeme → Outcome
return_under (frame.Binding k r ∷ fs) f l = if returns k l then expect (under f fs) (frame.Body k r) role.Plain else refuse f
return_under fs f l = refuse f

abbrev pub returned : Flat → Lexeme → Outcome
returned f l = return_under f.frames f l

-- an operator between operands
abbrev pub operate : Flat → Operator → Outcome
operate f o = if nat_le (floor f.frames) (level o) then expect f (frame.Pending o) role.Plain else refuse f

-- `cast` or `castable`
abbrev pub cast_on : Flat → Casting → Outcome
cast_on f k = if nat_le (floor f.frames) (casting_level k) then turn f (mode.Casting k) role.Plain else refuse f

-- `?` behind the name of a type
abbrev pub optional : Flat → Casting → ℕ → Outcome
optional f k r =
    turn (record f { nodes = replaced f.nodes (node.Cast k r true) }) (mode.Have (shape.Cast k r true) 1) role.Plain

abbrev pub question : Flat → Shape → Outcome
question f (shape.Cast k r false) = optional f k r
question f sh = refuse f

abbrev pub takes_more : Shape → Bool
takes_more shape.Filtered = true
takes_more sh = false

-- `[`
abbrev pub open_predicate : Flat → Shape → Outcome
open_predicate f sh = if reaches (in_pattern f) 16 sh then opened f (frame.Predicate (takes_more sh)) mode.Want else refuse f

abbrev pub follow_operator : Flat → Shape → ℕ → Lexeme → Operator → Outcome
follow_operator f sh c l o =
    if allows_lexeme (in_pattern f) l && reaches (in_pattern f) (left_level o) sh then operate (joined_at (left_level o) f c).flat o else refuse f

abbrev pub follow_comma : Flat → ℕ → Outcome
follow_comma f c = if in_pattern f then refuse f else comma (joined_at 0 f c)

abbrev pub follow_bracket : Flat → ℕ → Outcome
follow_bracket f c = close_bracket (joined_at 0 f c).flat.frames (joined_at 0 f c).flat

abbrev pub follow_else : Flat → ℕ → Outcome
follow_else f c = else_under (joined_at 0 f c).flat.frames (joined_at 0 f c).flat

abbrev pub follow_returned : Flat → ℕ → Lexeme → Outcome
follow_returned f c l = returned (joined_at 0 f c).flat l

abbrev pub follow_mark : Flat → Shape → ℕ → Mark → Outcome
follow_mark f sh c (mark.Operator o) = follow_operator f sh c (lexeme.Mark (mark.Operator o)) o
follow_mark f sh c mark.Comma = follow_comma f c
follow_mark f sh c mark.Close = close (joined_at 0 f c)
follow_mark f sh c mark.CloseBracket = follow_bracket f c
follow_mark f sh c mark.OpenBracket = open_predicate f sh
follow_mark f sh c mark.Question = question f sh
follow_mark f sh c m = refuse f

abbrev pub follow_casting : Flat → Shape → ℕ → Casting → Outcome
follow_casting f sh c k =
    if not (in_pattern f) && reaches false (suc (casting_level k)) sh then cast_on (joined_at (suc (casting_level k)) f c).flat k else refuse f

abbrev pub follow_name : Flat → Shape → ℕ → Word → ℕ → Outcome
follow_name f sh c (word.Operator o) p = follow_operator f sh c (lexeme.Name (word.Operator o) p) o
follow_name f sh c (word.Casting k) p = follow_casting f sh c k
follow_name f sh c word.Else p = follow_else f c
follow_name f sh c word.Return p = follow_returned f c (lexeme.Name word.Return p)
follow_name f sh c word.Satisfies p = follow_returned f c (lexeme.Name word.Satisfies p)
follow_name f sh c w p = refuse f

-- a token behind an operand
abbrev pub follow : Flat → Shape → ℕ → Lexeme → Outcome
follow f sh c (lexeme.Mark m) = follow_mark f sh c m
follow f sh c (lexeme.Name w p) = follow_name f sh c w p
follow f sh c l = refuse f

-- ---- behind a name

-- `(` of a kind test
abbrev pub open_test : Flat → StepPrefix → KindWord → ℕ → Outcome
open_test f pre k p = turn (relabelled f role.Plain) (mode.Kind pre k p) (role.Opens (next f.depth))

abbrev pub open_kind : Flat → StepPrefix → Word → ℕ → Outcome
open_kind f pre (word.Kind k) p = open_test f pre k p
open_kind f pre w p = refuse f

-- `(` of `if`, which opens with the word before
abbrev pub open_condition : Flat → Outcome
open_condition f =
    if not (in_pattern f) && nat_le (floor f.frames) 1
    then opened (record (relabelled f (role.Opens (next f.depth))) { depth = next f.depth }) frame.Condition mode.Want
    else refuse f

-- `(` of a call
abbrev pub open_call : Flat → ℕ → Outcome
open_call f p = if in_pattern f then refuse f else opened (relabelled f role.Function) (frame.Arguments p) mode.Fresh

abbrev pub open_plain : Flat → Word → ℕ → Outcome
open_plain f (word.Kind k) p = open_test f prefix.Plain k p
open_plain f word.If p = open_condition f
open_plain f w p = open_call f p

-- `(` behind a name
abbrev pub open_name : Flat → StepPrefix → Word → ℕ → Outcome
open_name f prefix.Plain w p = open_plain f w p
open_name f pre w p = open_kind f pre w p

abbrev pub begin_axis : Flat → Word → ℕ → Outcome
begin_axis f w p =
    if names_axis (in_pattern f) w then turn (relabelled f role.Plain) (mode.Axis (prefix.Axis w p)) role.Plain else refuse f

-- `::` behind a name
abbrev pub name_axis : Flat → StepPrefix → Word → ℕ → Outcome
name_axis f prefix.Plain w p = begin_axis f w p
name_axis f pre w p = refuse f

abbrev pub begin_binder : Flat → Binder → Outcome
begin_binder f k =
    if not (in_pattern f) && nat_le (floor f.frames) 1
    then turn (record (relabelled f (role.Opens (next f.depth))) { depth = next f.depth }) (mode.BinderDollar k) role.Plain
    else refuse f

-- `$` behind a name
abbrev pub name_binder : Flat → StepPrefix → Word → Outcome
name_binder f prefix.Plain (word.Binder k) = begin_binder f k
name_binder f pre w = refuse f

abbrev pub follow_step : Flat → StepPrefix → Word → ℕ → Lexeme → Outcome
follow_step f pre w p l = follow (with_node f (node.Step pre (test.Named w p))) shape.Filtered 1 l

-- a token behind a name
abbrev pub follow_named : Flat → StepPrefix → Word → ℕ → Lexeme → Outcome
follow_named f pre w p (lexeme.Mark mark.Open) = open_name f pre w p
follow_named f pre w p (lexeme.Mark mark.Colons) = name_axis f pre w p
follow_named f pre w p (lexeme.Mark mark.Dollar) = name_binder f pre w
follow_named f pre w p l = follow_step f pre w p l

-- ---- inside steps, bindings and casts

-- the test behind `@` or an axis
abbrev pub axis_test : Flat → StepPrefix → Lexeme → Outcome
axis_test f pre (lexeme.Name w p) = turn f (mode.Named pre w p) role.Name
axis_test f pre (lexeme.Wild p) = have f (node.Step pre (test.Wild p)) role.Wild shape.Filtered
axis_test f pre (lexeme.Mark (mark.Operator (operator.Arith arith.Mul))) = have f (node.Step pre test.Any) role.Plain shape.Filtered
axis_test f pre l = refuse f

abbrev pub kind_name : Flat → StepPrefix → KindWord → ℕ → Word → ℕ → Outcome
kind_name f pre k p w q = if takes_name k w then turn f (mode.KindName pre (test.KindOf k p w q)) (inner_role k) else refuse f

-- the token behind the parenthesis of a kind test
abbrev pub in_kind : Flat → StepPrefix → KindWord → ℕ → Lexeme → Outcome
in_kind f pre k p (lexeme.Mark mark.Close) = have f (node.Step pre (test.Kind k p)) role.Plain shape.Filtered
in_kind f pre k p (lexeme.Name w q) = kind_name f pre k p w q
in_kind f pre k p l = refuse f

-- the token behind the name in a kind test
abbrev pub end_kind : Flat → StepPrefix → Test → Lexeme → Outcome
end_kind f pre t (lexeme.Mark mark.Close) = have f (node.Step pre t) role.Plain shape.Filtered
end_kind f pre t l = refuse f

-- the name of a variable
abbrev pub variable_name : Flat → Lexeme → Outcome
variable_name f (lexeme.Name w p) = have f (node.Variable p) role.Name shape.Other
variable_name f l = refuse f

-- the `$` behind a comma of bindings
abbrev pub bound_dollar : Flat → Binder → Lexeme → Outcome
bound_dollar f k (lexeme.Mark mark.Dollar) = turn (record f { depth = next f.depth }) (mode.BinderDollar k) (role.Opens (next f.depth))
bound_dollar f k l = refuse f

-- the name of a variable that a word brings in
abbrev pub bound_name : Flat → Binder → Lexeme → Outcome
bound_name f k (lexeme.Name w p) = turn f (mode.BinderName k p) role.Name
bound_name f k l = refuse f

-- the token between that name and its value
abbrev pub bind_name : Flat → Binder → ℕ → Lexeme → Outcome
bind_name f k r l = if introduces k l then expect f (frame.Binding k r) role.Plain else refuse f

-- `as`
abbrev pub cast_as : Flat → Casting → Lexeme → Outcome
cast_as f k (lexeme.Name word.As p) = turn f (mode.CastingAs k) role.Plain
cast_as f k l = refuse f

abbrev pub cast : Flat → Casting → ℕ → Outcome
cast f k r = have f (node.Cast k r false) role.Type (shape.Cast k r false)

-- the name of a type
abbrev pub cast_type : Flat → Casting → Lexeme → Outcome
cast_type f k (lexeme.Name w r) = cast f k r
cast_type f k l = refuse f

-- `then`
abbrev pub then_word : Flat → Lexeme → Outcome
then_word f (lexeme.Name word.Then p) = expect f frame.Branch role.Plain
then_word f l = refuse f

abbrev pub follow_root : Flat → Lexeme → Outcome
follow_root f l =
    if reaches (in_pattern f) (floor f.frames) shape.Root then follow (with_node f node.Root) shape.Root 1 l else refuse f

-- the token behind a `/` where an operand had to come
abbrev pub follow_slash : Flat → Lexeme → Outcome
follow_slash f l =
    if begins_step l then begin (under f (frame.Signed operator.Slash ∷ f.frames)) l else follow_root f l

abbrev pub read_by : Mode → Flat → Lexeme → Outcome
read_by mode.Want f l = begin f l
read_by mode.Fresh f l = begin_fresh f l
read_by mode.Slash f l = follow_slash f l
read_by (mode.Named pre w p) f l = follow_named f pre w p l
read_by mode.Dollar f l = variable_name f l
read_by (mode.Axis pre) f l = axis_test f pre l
read_by (mode.Kind pre k p) f l = in_kind f pre k p l
read_by (mode.KindName pre t) f l = end_kind f pre t l
read_by (mode.Have sh c) f l = follow f sh c l
read_by (mode.CommaBound k) f l = bound_dollar f k l
read_by (mode.BinderDollar k) f l = bound_name f k l
read_by (mode.BinderName k r) f l = bind_name f k r l
read_by (mode.Casting k) f l = cast_as f k l
read_by (mode.CastingAs k) f l = cast_type f k l
read_by mode.Conditioned f l = then_word f l

-- a token is read
abbrev pub read : Flat → Lexeme → Outcome
read f l = read_by f.mode f l

-- ---- at the end

-- nothing is open or pending behind an operand
abbrev pub whole_under : List Frame → Flat → Outcome
whole_under [] f = Ok f
whole_under fs f = refuse f

abbrev pub whole : Flat → Outcome
whole f = whole_under f.frames f

abbrev pub end_step : Flat → StepPrefix → Word → ℕ → Outcome
end_step f pre w p = whole (joined_at 0 (with_node f (node.Step pre (test.Named w p))) 1).flat

abbrev pub end_root : Flat → Outcome
end_root f = if reaches (in_pattern f) (floor f.frames) shape.Root then whole (joined_at 0 (with_node f node.Root) 1).flat else refuse f

abbrev pub ended_by : Mode → Flat → Outcome
ended_by (mode.Have sh c) f = whole (joined_at 0 f c).flat
ended_by (mode.Named pre w p) f = end_step f pre w p
ended_by mode.Slash f = end_root f
ended_by m f = refuse f

-- the tokens that were read may be all
abbrev pub ended : Flat → Outcome
ended f = ended_by f.mode f

-- ---- a list of tokens

-- reading stops at the token with this number
abbrev pub stopped : ℕ → List Role → Reading
stopped k rs = record { nodes = []; roles = rs; fault = Some k }

-- all is read
abbrev pub given : Flat → Reading
given f = record { nodes = f.nodes; roles = f.roles; fault = None }

abbrev pub answer : ℕ → Outcome → Reading
answer k (Err rs) = stopped k rs
answer k (Ok f) = given f

abbrev pub and_then : ℕ → Outcome → (Flat → Reading) → Reading
and_then k (Err rs) g = stopped k rs
and_then k (Ok f) g = g f

-- what is read of these tokens, the first of which has this number
abbrev pub run : Flat → ℕ → List Lexeme → Reading
run f k [] = answer k (ended f)
run f k (l ∷ ls) = and_then k (read f l) (λ after. run after (suc k) ls)
