-- Each token that is read adds one role, but a token that turns the name before it says anew what that name is.
use Rattle.std.proofs.Common.{◌≡◌, ℕ, suc, ◌+◌, Bool, true, false, not, ◌&&◌, if◌then◌else◌, nat_le, List, [], ◌∷◌, ◌++◌, length, Option, Some, None, refl, ap, sym, ◌∙◌, append_assoc, append-nil, arith, length-append}
use Rattle.sx_atoms.specs.declared.arithmetic.ArithOp.TheVariants as arith_op
use Rattle.sx_parse.specs.declared.lexemes.Operator.{Operator}
use Rattle.sx_parse.specs.declared.lexemes.Operator.TheVariants as operator
use Rattle.sx_parse.specs.declared.lexemes.Casting.{Casting}
use Rattle.sx_parse.specs.declared.lexemes.KindWord.{KindWord}
use Rattle.sx_parse.specs.declared.lexemes.Word.{Word}
use Rattle.sx_parse.specs.declared.lexemes.Word.TheVariants as word
use Rattle.sx_parse.specs.declared.lexemes.Mark.{Mark}
use Rattle.sx_parse.specs.declared.lexemes.Mark.TheVariants as mark
use Rattle.sx_parse.specs.declared.lexemes.Lexeme.{Lexeme}
use Rattle.sx_parse.specs.declared.lexemes.Lexeme.TheVariants as lexeme
use Rattle.sx_parse.specs.declared.lexemes.StepPrefix.{StepPrefix}
use Rattle.sx_parse.specs.declared.lexemes.StepPrefix.TheVariants as prefix
use Rattle.sx_parse.specs.declared.lexemes.Test.TheVariants as test
use Rattle.sx_parse.specs.declared.roles.Role.{Role}
use Rattle.sx_parse.specs.declared.roles.Role.TheVariants as role
use Rattle.sx_parse.specs.Grammar.{level, left_level, casting_level, names_axis, takes_name, introduces, returns, begins_step, allows_lexeme, Tree, literal, dot, parent, root, step, cast, Bindings}
use Rattle.sx_parse.specs.Machine.{Given, begun, behind, Stack, bottom, pending, more, signed, paren, arguments, predicate, condition, branch, binding, body, State, want, fresh, slash, named, dollar, axis, kind, kind_name, have, comma_bound, binder_dollar, binder_name, casting, casting_as, conditioned, in_pattern, floor, bound, given_binder, reaches, Reached, reach, when, begin_mark, begin, close_empty, begin_fresh, close_under, close_bracket, else_under, comma_under, return_under, operate_on, cast_on, question, follow_operator, follow_mark, follow_name, follow, open_kind, open_plain, open_name, name_axis, name_binder, follow_named, axis_test, in_kind, end_kind, variable_name, bound_dollar, bound_name, cast_as, cast_type, then_word, follow_slash, read}
use Rattle.sx_parse.specs.Reading.{turns}
use Rattle.sx_parse.specs.Roles.{operand_count, roles, binding_roles, bound_depth, prefix_roles, inner_role}
use Rattle.sx_parse.specs.Standing.{depth, given_depth, given_roles, stack_roles, state_roles}
use Rattle.sx_parse.proofs.Joining.{reached_roles, reach_roles}

-- ---- what is added

-- a list begins with another
pub record Leads (front all : List Role) : Type 0 where
  pub rest : List Role
  pub all_are : all ≡ front ++ rest

pub leads_on : (a b c : List Role) → Leads a b → Leads b c → Leads a c
leads_on a b c x y = record { rest = x.rest ++ y.rest; all_are = y.all_are ∙ ap (λ (l : List Role). l ++ y.rest) x.all_are ∙ append_assoc a x.rest y.rest }

pub leads_same : (a : List Role) → Leads a a
leads_same a = record { rest = []; all_are = sym (append-nil a) }

-- the roles that no further token changes: all but that of a name that is read last
abbrev pub firm : State → List Role
firm (named pre w p s) = stack_roles s ++ prefix_roles pre
firm s = state_roles s

-- one more role, before which all stands firm
pub record Added (before : List Role) (next : State) : Type 0 where
  pub new : Role
  pub roles_are : state_roles next ≡ before ++ new ∷ []
  pub stand : Leads before (firm next)

abbrev pub Adds : List Role → Option State → Type 0
Adds before None = Unit {0}
Adds before (Some next) = Added before next

plain : (before : List Role) (next : State) (new : Role) → firm next ≡ state_roles next → state_roles next ≡ before ++ new ∷ [] → Added before next
plain before next new same e = record { new = new; roles_are = e; stand = record { rest = new ∷ []; all_are = same ∙ e } }

adds_same : (before after : List Role) (o : Option State) → before ≡ after → Adds before o → Adds after o
adds_same before after o e g = rw (sym e) g

adds_when : (b : Bool) (before : List Role) (next : State) → Added before next → Adds before (when b next)
adds_when true before next g = g
adds_when false before next g = tt

adds_if : (b : Bool) (before : List Role) (o : Option State) → Adds before o → Adds before (if b then o else None)
adds_if true before o g = g
adds_if false before o g = tt

adds_else : (b : Bool) (before : List Role) (o : Option State) → Adds before o → Adds before (if b then None else o)
adds_else true before o g = tt
adds_else false before o g = g

adds_either : (b : Bool) (before : List Role) (o q : Option State) → Adds before o → Adds before q → Adds before (if b then o else q)
adds_either true before o q g h = g
adds_either false before o q g h = h

-- ---- where an operand has to come

begin_mark_adds : (s : Stack) (m : Mark) → Adds (stack_roles s) (begin_mark s m)
begin_mark_adds s (mark.Operator (operator.Arith arith_op.Mul)) = plain _ _ role.Plain refl refl
begin_mark_adds s (mark.Operator (operator.Arith arith_op.Add)) =
    adds_when (not (in_pattern s) && nat_le (floor s) 12) _ (want (signed (operator.Arith arith_op.Add) s)) (plain _ _ role.Plain refl refl)
begin_mark_adds s (mark.Operator (operator.Arith arith_op.Sub)) =
    adds_when (not (in_pattern s) && nat_le (floor s) 12) _ (want (signed (operator.Arith arith_op.Sub) s)) (plain _ _ role.Plain refl refl)
begin_mark_adds s (mark.Operator operator.Slash) = adds_when (nat_le (floor s) 15) _ (slash s) (plain _ _ role.Plain refl refl)
begin_mark_adds s (mark.Operator operator.DoubleSlash) = adds_when (nat_le (floor s) 15) _ (want (signed operator.DoubleSlash s)) (plain _ _ role.Plain refl refl)
begin_mark_adds s mark.Open = adds_when (not (in_pattern s)) _ (fresh (paren s)) (plain _ _ (role.Opens (suc (depth s))) refl refl)
begin_mark_adds s mark.Dollar = adds_when (not (in_pattern s)) _ (dollar s) (plain _ _ role.Plain refl refl)
begin_mark_adds s mark.At = plain _ _ role.Plain refl refl
begin_mark_adds s mark.Dot = adds_when (not (in_pattern s)) _ (have dot s) (plain _ _ role.Plain refl refl)
begin_mark_adds s mark.DotDot = adds_when (not (in_pattern s)) _ (have parent s) (plain _ _ role.Plain refl refl)
begin_mark_adds s m = tt

begin_adds : (s : Stack) (l : Lexeme) → Adds (stack_roles s) (begin s l)
begin_adds s (lexeme.Literal p) = adds_when (not (in_pattern s)) _ (have (literal p) s) (plain _ _ role.Literal refl refl)
begin_adds s (lexeme.Wild p) = plain _ _ role.Wild refl refl
begin_adds s (lexeme.Name w p) =
    record { new = role.Name; roles_are = append_assoc (stack_roles s) [] (role.Name ∷ []); stand = record { rest = []; all_are = refl } }
begin_adds s (lexeme.Mark m) = begin_mark_adds s m

close_empty_adds : (s : Stack) → Adds (stack_roles s) (close_empty s)
close_empty_adds (paren s) = plain _ _ role.Plain refl (sym (append_assoc (stack_roles s) (role.Opens (suc (depth s)) ∷ []) (role.Plain ∷ [])))
close_empty_adds (arguments w p s) =
    plain _ _ (role.Closes p 0) refl (sym (append_assoc (stack_roles s) (role.Function ∷ role.Opens (suc (depth s)) ∷ []) (role.Closes p 0 ∷ [])))
close_empty_adds s = tt

begin_fresh_adds : (s : Stack) (l : Lexeme) → Adds (stack_roles s) (begin_fresh s l)
begin_fresh_adds s (lexeme.Mark mark.Close) = close_empty_adds s
begin_fresh_adds s l = begin_adds s l

-- ---- behind an operand

close_adds : (t : Tree) (s : Stack) → Adds (stack_roles s ++ roles (depth s) t) (close_under t s)
close_adds t (paren s) = plain _ _ role.Plain refl (simp append_assoc)
close_adds t (arguments w p s) = plain _ _ (role.Closes p (operand_count t)) refl (simp append_assoc)
close_adds t (condition p s) = plain _ _ role.Plain refl (simp append_assoc)
close_adds t s = tt

bracket_adds : (t : Tree) (s : Stack) → Adds (stack_roles s ++ roles (depth s) t) (close_bracket t s)
bracket_adds t (predicate b s) = plain _ _ role.Plain refl (simp append_assoc)
bracket_adds t s = tt

else_adds : (t : Tree) (k : ℕ) (s : Stack) → Adds (stack_roles s ++ roles (depth s) t) (else_under t k s)
else_adds t k (branch i c j s) = plain _ _ role.Plain refl (simp append_assoc)
else_adds t k s = tt

-- the value of a variable behind what introduced it
bound_roles : (n : ℕ) (g : Given) (w : Word) (r : ℕ) (l : Lexeme) (t : Tree) →
    binding_roles n (bound g w r l t) ≡ (given_roles n g ++ role.Name ∷ role.Plain ∷ []) ++ roles (given_depth n g) t
bound_roles n (begun k p) w r l t = refl
bound_roles n (behind bs) w r l t = simp append_assoc

bound_stands : (g : Given) (w : Word) (r : ℕ) (l : Lexeme) (t : Tree) (s : Stack) →
    stack_roles s ++ binding_roles (depth s) (bound g w r l t) ≡ stack_roles (binding g w r l s) ++ roles (given_depth (depth s) g) t
bound_stands g w r l t s = ap (λ (rs : List Role). stack_roles s ++ rs) (bound_roles (depth s) g w r l t) ∙ simp append_assoc

comma_more_adds : (b : Bool) (t : Tree) (s : Stack) → Adds (stack_roles s ++ roles (depth s) t) (when b (want (more t s)))
comma_more_adds b t s = adds_when b _ (want (more t s)) (plain _ _ role.Plain refl refl)

comma_adds : (t : Tree) (s : Stack) → Adds (stack_roles s ++ roles (depth s) t) (comma_under t s)
comma_adds t (binding g w r l s) = plain _ _ role.Plain refl (ap (λ (rs : List Role). rs ++ role.Plain ∷ []) (bound_stands g w r l t s))
comma_adds t (bottom p) = comma_more_adds true t (bottom p)
comma_adds t s = comma_more_adds (nat_le (floor s) 0) t s

return_adds : (t : Tree) (l : Lexeme) (s : Stack) → Adds (stack_roles s ++ roles (depth s) t) (return_under t l s)
return_adds t l (binding g w r i s) =
    adds_when (returns (given_binder g) l) _ (want (body (bound g w r i t) l s))
    (plain _ _ role.Plain refl (ap (λ (rs : List Role). rs ++ role.Plain ∷ []) (bound_stands g w r i t s)))
return_adds t l s = tt

operate_adds : (l : Lexeme) (o : Operator) (r : Reached) → Adds (reached_roles r) (operate_on l o r)
operate_adds l o r = adds_when (nat_le (floor r.under) (level o)) _ (want (pending r.operand l o r.under)) (plain _ _ role.Plain refl refl)

cast_adds : (k : Casting) (p : ℕ) (r : Reached) → Adds (reached_roles r) (cast_on k p r)
cast_adds k p r = adds_when (nat_le (floor r.under) (casting_level k)) _ (casting r.operand k p r.under) (plain _ _ role.Plain refl refl)

question_adds : (t : Tree) (s : Stack) → Adds (stack_roles s ++ roles (depth s) t) (question t s)
question_adds (cast e k i j w m false) s = plain _ _ role.Plain refl (simp append_assoc)
question_adds t s = tt

follow_operator_adds : (t : Tree) (s : Stack) (l : Lexeme) (o : Operator) → Adds (stack_roles s ++ roles (depth s) t) (follow_operator t s l o)
follow_operator_adds t s l o =
    let r = reach (left_level o) t s in
    adds_if (allows_lexeme (in_pattern s) l && reaches (in_pattern s) (left_level o) t) _ (operate_on l o r)
    (adds_same (reached_roles r) _ (operate_on l o r) (reach_roles (left_level o) t s) (operate_adds l o r))

follow_mark_adds : (t : Tree) (s : Stack) (m : Mark) → Adds (stack_roles s ++ roles (depth s) t) (follow_mark t s m)
follow_mark_adds t s (mark.Operator o) = follow_operator_adds t s (lexeme.Mark (mark.Operator o)) o
follow_mark_adds t s mark.Comma =
    let r = reach 0 t s in
    adds_else (in_pattern s) _ (comma_under r.operand r.under)
    (adds_same (reached_roles r) _ (comma_under r.operand r.under) (reach_roles 0 t s) (comma_adds r.operand r.under))
follow_mark_adds t s mark.Close =
    let r = reach 0 t s in adds_same (reached_roles r) _ (close_under r.operand r.under) (reach_roles 0 t s) (close_adds r.operand r.under)
follow_mark_adds t s mark.CloseBracket =
    let r = reach 0 t s in adds_same (reached_roles r) _ (close_bracket r.operand r.under) (reach_roles 0 t s) (bracket_adds r.operand r.under)
follow_mark_adds t s mark.OpenBracket = adds_when (reaches (in_pattern s) 16 t) _ (want (predicate t s)) (plain _ _ (role.Opens (suc (depth s))) refl refl)
follow_mark_adds t s mark.Question = question_adds t s
follow_mark_adds t s m = tt

follow_name_adds : (t : Tree) (s : Stack) (w : Word) (p : ℕ) → Adds (stack_roles s ++ roles (depth s) t) (follow_name t s w p)
follow_name_adds t s (word.Operator o) p = follow_operator_adds t s (lexeme.Name (word.Operator o) p) o
follow_name_adds t s (word.Casting k) p =
    let r = reach (suc (casting_level k)) t s in
    adds_if (not (in_pattern s) && reaches false (suc (casting_level k)) t) _ (cast_on k p r)
    (adds_same (reached_roles r) _ (cast_on k p r) (reach_roles (suc (casting_level k)) t s) (cast_adds k p r))
follow_name_adds t s word.Else p =
    let r = reach 0 t s in adds_same (reached_roles r) _ (else_under r.operand p r.under) (reach_roles 0 t s) (else_adds r.operand p r.under)
follow_name_adds t s word.Return p =
    let r = reach 0 t s in
    adds_same (reached_roles r) _ (return_under r.operand (lexeme.Name word.Return p) r.under) (reach_roles 0 t s) (return_adds r.operand (lexeme.Name word.Return p) r.under)
follow_name_adds t s word.Satisfies p =
    let r = reach 0 t s in
    adds_same (reached_roles r) _ (return_under r.operand (lexeme.Name word.Satisfies p) r.under) (reach_roles 0 t s) (return_adds r.operand (lexeme.Name word.Satisfies p) r.under)
follow_name_adds t s w p = tt

follow_adds : (t : Tree) (s : Stack) (l : Lexeme) → Adds (stack_roles s ++ roles (depth s) t) (follow t s l)
follow_adds t s (lexeme.Mark m) = follow_mark_adds t s m
follow_adds t s (lexeme.Name w p) = follow_name_adds t s w p
follow_adds t s l = tt

-- ---- inside steps, bindings and casts

axis_adds : (pre : StepPrefix) (s : Stack) (l : Lexeme) → Adds (stack_roles s ++ prefix_roles pre) (axis_test pre s l)
axis_adds pre s (lexeme.Name w p) = record { new = role.Name; roles_are = refl; stand = leads_same (stack_roles s ++ prefix_roles pre) }
axis_adds pre s (lexeme.Wild p) = plain _ _ role.Wild refl (simp append_assoc)
axis_adds pre s (lexeme.Mark (mark.Operator (operator.Arith arith_op.Mul))) = plain _ _ role.Plain refl (simp append_assoc)
axis_adds pre s l = tt

in_kind_adds : (pre : StepPrefix) (k : KindWord) (p : ℕ) (s : Stack) (l : Lexeme) → Adds (state_roles (kind pre k p s)) (in_kind pre k p s l)
in_kind_adds pre k p s (lexeme.Mark mark.Close) = plain _ _ role.Plain refl (simp append_assoc)
in_kind_adds pre k p s (lexeme.Name w q) = adds_when (takes_name k w) _ (kind_name pre k p w q s) (plain _ _ (inner_role k) refl (simp append_assoc))
in_kind_adds pre k p s l = tt

end_kind_adds : (pre : StepPrefix) (k : KindWord) (p : ℕ) (w : Word) (q : ℕ) (s : Stack) (l : Lexeme) → Adds (state_roles (kind_name pre k p w q s)) (end_kind pre k p w q s l)
end_kind_adds pre k p w q s (lexeme.Mark mark.Close) = plain _ _ role.Plain refl (simp append_assoc)
end_kind_adds pre k p w q s l = tt

variable_adds : (s : Stack) (l : Lexeme) → Adds (state_roles (dollar s)) (variable_name s l)
variable_adds s (lexeme.Name w p) = plain _ _ role.Name refl (simp append_assoc)
variable_adds s l = tt

bound_dollar_adds : (bs : Bindings) (s : Stack) (l : Lexeme) → Adds (state_roles (comma_bound bs s)) (bound_dollar bs s l)
bound_dollar_adds bs s (lexeme.Mark mark.Dollar) = plain _ _ (role.Opens (suc (bound_depth (depth s) bs))) refl (simp append_assoc)
bound_dollar_adds bs s l = tt

bound_name_adds : (g : Given) (s : Stack) (l : Lexeme) → Adds (state_roles (binder_dollar g s)) (bound_name g s l)
bound_name_adds g s (lexeme.Name w p) = plain _ _ role.Name refl refl
bound_name_adds g s l = tt

binding_adds : (g : Given) (w : Word) (r : ℕ) (s : Stack) (l : Lexeme) → Adds (state_roles (binder_name g w r s)) (read (binder_name g w r s) l)
binding_adds g w r s l = adds_when (introduces (given_binder g) l) _ (want (binding g w r l s)) (plain _ _ role.Plain refl (simp append_assoc))

cast_as_adds : (t : Tree) (k : Casting) (p : ℕ) (s : Stack) (l : Lexeme) → Adds (state_roles (casting t k p s)) (cast_as t k p s l)
cast_as_adds t k p s (lexeme.Name word.As q) = plain _ _ role.Plain refl (simp append_assoc)
cast_as_adds t k p s l = tt

cast_type_adds : (t : Tree) (k : Casting) (p q : ℕ) (s : Stack) (l : Lexeme) → Adds (state_roles (casting_as t k p q s)) (cast_type t k p q s l)
cast_type_adds t k p q s (lexeme.Name w r) = plain _ _ role.Type refl (simp append_assoc)
cast_type_adds t k p q s l = tt

then_adds : (p : ℕ) (c : Tree) (s : Stack) (l : Lexeme) → Adds (state_roles (conditioned p c s)) (then_word p c s l)
then_adds p c s (lexeme.Name word.Then q) = plain _ _ role.Plain refl (simp append_assoc)
then_adds p c s l = tt

slash_adds : (s : Stack) (l : Lexeme) → Adds (stack_roles s ++ role.Plain ∷ []) (follow_slash s l)
slash_adds s l =
    adds_either (begins_step l) _ (begin (signed operator.Slash s) l) (if reaches (in_pattern s) (floor s) root then follow root s l else None)
    (begin_adds (signed operator.Slash s) l)
    (adds_if (reaches (in_pattern s) (floor s) root) _ (follow root s l) (follow_adds root s l))

-- ---- behind a name

-- whether a token makes of the name before it something else than a name
abbrev pub turned : State → Lexeme → Bool
turned (named pre w p s) l = turns l
turned s l = false

-- the role of the name is another, one more role is added, and both stand firm
pub record Turned (before : List Role) (next : State) : Type 0 where
  pub anew : Role
  pub new : Role
  pub roles_are : state_roles next ≡ before ++ anew ∷ new ∷ []
  pub stand : firm next ≡ state_roles next

abbrev pub Turns : List Role → Option State → Type 0
Turns before None = Unit {0}
Turns before (Some next) = Turned before next

turned_to : (before : List Role) (next : State) (anew new : Role) → firm next ≡ state_roles next → state_roles next ≡ before ++ anew ∷ new ∷ [] → Turned before next
turned_to before next anew new same e = record { anew = anew; new = new; roles_are = e; stand = same }

turns_when : (b : Bool) (before : List Role) (next : State) → Turned before next → Turns before (when b next)
turns_when true before next g = g
turns_when false before next g = tt

open_kind_turns : (pre : StepPrefix) (w : Word) (p : ℕ) (s : Stack) → Turns (stack_roles s ++ prefix_roles pre) (open_kind pre w p s)
open_kind_turns pre (word.Kind k) p s = turned_to _ _ role.Plain (role.Opens (suc (depth s))) refl refl
open_kind_turns pre w p s = tt

function_turns : (w : Word) (p : ℕ) (s : Stack) → Turns (stack_roles s ++ []) (when (not (in_pattern s)) (fresh (arguments w p s)))
function_turns w p s =
    turns_when (not (in_pattern s)) _ (fresh (arguments w p s)) (turned_to _ _ role.Function (role.Opens (suc (depth s))) refl (simp append_assoc))

open_plain_turns : (w : Word) (p : ℕ) (s : Stack) → Turns (stack_roles s ++ []) (open_plain w p s)
open_plain_turns (word.Kind k) p s = turned_to _ _ role.Plain (role.Opens (suc (depth s))) refl refl
open_plain_turns word.If p s =
    turns_when (not (in_pattern s) && nat_le (floor s) 1) _ (want (condition p s))
    (turned_to _ _ (role.Opens (suc (depth s))) (role.Opens (suc (suc (depth s)))) refl (simp append_assoc))
open_plain_turns w p s = function_turns w p s

open_name_turns : (pre : StepPrefix) (w : Word) (p : ℕ) (s : Stack) → Turns (stack_roles s ++ prefix_roles pre) (open_name pre w p s)
open_name_turns prefix.Plain w p s = open_plain_turns w p s
open_name_turns pre w p s = open_kind_turns pre w p s

name_axis_turns : (pre : StepPrefix) (w : Word) (p : ℕ) (s : Stack) → Turns (stack_roles s ++ prefix_roles pre) (name_axis pre w p s)
name_axis_turns prefix.Plain w p s =
    turns_when (names_axis (in_pattern s) w) _ (axis (prefix.Axis w p) s) (turned_to _ _ role.Plain role.Plain refl (simp append_assoc))
name_axis_turns pre w p s = tt

name_binder_turns : (pre : StepPrefix) (w : Word) (p : ℕ) (s : Stack) → Turns (stack_roles s ++ prefix_roles pre) (name_binder pre w p s)
name_binder_turns prefix.Plain (word.Binder k) p s =
    turns_when (not (in_pattern s) && nat_le (floor s) 1) _ (binder_dollar (begun k p) s)
    (turned_to _ _ (role.Opens (suc (depth s))) role.Plain refl (simp append_assoc))
name_binder_turns pre w p s = tt

named_turns : (pre : StepPrefix) (w : Word) (p : ℕ) (s : Stack) (l : Lexeme) → turns l ≡ true → Turns (stack_roles s ++ prefix_roles pre) (follow_named pre w p s l)
named_turns pre w p s (lexeme.Mark mark.Open) h = open_name_turns pre w p s
named_turns pre w p s (lexeme.Mark mark.Colons) h = name_axis_turns pre w p s
named_turns pre w p s (lexeme.Mark mark.Dollar) h = name_binder_turns pre w p s
named_turns pre w p s l h = absurd cc

test_adds : (pre : StepPrefix) (w : Word) (p : ℕ) (s : Stack) (l : Lexeme) → Adds (state_roles (named pre w p s)) (follow (step pre (test.Named w p)) s l)
test_adds pre w p s l =
    adds_same _ _ (follow (step pre (test.Named w p)) s l) (sym (append_assoc (stack_roles s) (prefix_roles pre) (role.Name ∷ [])))
    (follow_adds (step pre (test.Named w p)) s l)

named_adds : (pre : StepPrefix) (w : Word) (p : ℕ) (s : Stack) (l : Lexeme) → turns l ≡ false → Adds (state_roles (named pre w p s)) (follow_named pre w p s l)
named_adds pre w p s (lexeme.Mark mark.Open) h = absurd cc
named_adds pre w p s (lexeme.Mark mark.Colons) h = absurd cc
named_adds pre w p s (lexeme.Mark mark.Dollar) h = absurd cc
named_adds pre w p s l h = test_adds pre w p s l

-- ---- any token

read_adds : (s : State) (l : Lexeme) → turned s l ≡ false → Adds (state_roles s) (read s l)
read_adds (want s) l h = begin_adds s l
read_adds (fresh s) l h = begin_fresh_adds s l
read_adds (slash s) l h = slash_adds s l
read_adds (named pre w p s) l h = named_adds pre w p s l h
read_adds (dollar s) l h = variable_adds s l
read_adds (axis pre s) l h = axis_adds pre s l
read_adds (kind pre k p s) l h = in_kind_adds pre k p s l
read_adds (kind_name pre k p w q s) l h = end_kind_adds pre k p w q s l
read_adds (have t s) l h = follow_adds t s l
read_adds (comma_bound bs s) l h = bound_dollar_adds bs s l
read_adds (binder_dollar g s) l h = bound_name_adds g s l
read_adds (binder_name g w r s) l h = binding_adds g w r s l
read_adds (casting t k p s) l h = cast_as_adds t k p s l
read_adds (casting_as t k p q s) l h = cast_type_adds t k p q s l
read_adds (conditioned p c s) l h = then_adds p c s l

read_turns : (s : State) (l : Lexeme) → turned s l ≡ true → Turns (firm s) (read s l)
read_turns (named pre w p s) l h = named_turns pre w p s l h
read_turns s l h = absurd cc

added : (before : List Role) (o : Option State) (next : State) → o ≡ Some next → Adds before o → Added before next
added before o next e g = rw e at g

turned_by : (before : List Role) (o : Option State) (next : State) → o ≡ Some next → Turns before o → Turned before next
turned_by before o next e g = rw e at g

-- a token that turns no name adds one role to those that were there
pub one_more : (s : State) (l : Lexeme) (next : State) → read s l ≡ Some next → turned s l ≡ false → Added (state_roles s) next
one_more s l next e h = added (state_roles s) (read s l) next e (read_adds s l h)

-- a token that turns a name says its role anew, and adds one
pub said_anew : (s : State) (l : Lexeme) (next : State) → read s l ≡ Some next → turned s l ≡ true → Turned (firm s) next
said_anew s l next e h = turned_by (firm s) (read s l) next e (read_turns s l h)

pub firm_leads : (s : State) → Leads (firm s) (state_roles s)
firm_leads (named pre w p s) = record { rest = role.Name ∷ []; all_are = refl }
firm_leads s = leads_same (state_roles s)

grows_by : (b : Bool) (s : State) (l : Lexeme) (next : State) → turned s l ≡ b → read s l ≡ Some next → Leads (firm s) (firm next)
grows_by false s l next h e = leads_on (firm s) (state_roles s) (firm next) (firm_leads s) (one_more s l next e h).stand
grows_by true s l next h e =
    let x = said_anew s l next e h in record { rest = x.anew ∷ x.new ∷ []; all_are = x.stand ∙ x.roles_are }

-- what stands firm only grows
pub firm_grows : (s : State) (l : Lexeme) (next : State) → read s l ≡ Some next → Leads (firm s) (firm next)
firm_grows s l next e = grows_by (turned s l) s l next refl e

turned_count : (s : State) (l : Lexeme) → turned s l ≡ true → length (state_roles s) ≡ length (firm s) + 1
turned_count (named pre w p s) l h = length-append (stack_roles s ++ prefix_roles pre) (role.Name ∷ [])
turned_count s l h = absurd cc

counts_by : (b : Bool) (s : State) (l : Lexeme) (next : State) → turned s l ≡ b → read s l ≡ Some next → length (state_roles next) ≡ suc (length (state_roles s))
counts_by false s l next h e =
    let x = one_more s l next e h in omega (arith, ap length x.roles_are, length-append (state_roles s) (x.new ∷ []))
counts_by true s l next h e =
    let x = said_anew s l next e h in omega (arith, ap length x.roles_are, length-append (firm s) (x.anew ∷ x.new ∷ []), turned_count s l h)

-- each token adds one to the roles
pub read_counts : (s : State) (l : Lexeme) (next : State) → read s l ≡ Some next → length (state_roles next) ≡ suc (length (state_roles s))
read_counts s l next e = counts_by (turned s l) s l next refl e
