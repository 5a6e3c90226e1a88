-- The code reads as the machine of the definitions does: what it keeps is what the machine has, token by token.
use Rattle.std.proofs.Common.{◌≡◌, ℕ, suc, ◌^◌, ◌<◌, Bool, ◌&&◌, not, nat_le, nat_eq, List, [], ◌∷◌, ◌++◌, length, Ok, refl, ap, sym, ◌∙◌, arith, append_assoc, append-nil, length-append}
use Rattle.sx_atoms.specs.declared.arithmetic.ArithOp.TheVariants as arith_op
use Rattle.sx_parse.specs.declared.lexemes.Operator.TheVariants as operator
use Rattle.sx_parse.specs.declared.lexemes.Binder.{Binder}
use Rattle.sx_parse.specs.declared.lexemes.Casting.{Casting}
use Rattle.sx_parse.specs.declared.lexemes.KindWord.{KindWord}
use Rattle.sx_parse.specs.declared.lexemes.Word.{Word}
use Rattle.sx_parse.specs.declared.lexemes.Word.TheVariants as word
use Rattle.sx_parse.specs.declared.lexemes.Mark.TheVariants as mark
use Rattle.sx_parse.specs.declared.lexemes.Lexeme.{Lexeme}
use Rattle.sx_parse.specs.declared.lexemes.Lexeme.TheVariants as lexeme
use Rattle.sx_parse.specs.declared.lexemes.StepPrefix.{StepPrefix}
use Rattle.sx_parse.specs.declared.lexemes.StepPrefix.TheVariants as prefix
use Rattle.sx_parse.specs.declared.lexemes.Test.TheVariants as test
use Rattle.sx_parse.specs.declared.nodes.Node.TheVariants as node
use Rattle.sx_parse.specs.declared.roles.Role.{Role}
use Rattle.sx_parse.specs.declared.roles.Role.TheVariants as role
use Rattle.sx_parse.specs.declared.frames.Shape.TheVariants as shape
use Rattle.sx_parse.specs.declared.frames.Mode.{Mode}
use Rattle.sx_parse.specs.declared.frames.Mode.TheVariants as mode
use Rattle.sx_parse.specs.Grammar.{names_axis, takes_name, introduces, begins_step, Tree, root, step, Bindings, binder_of}
use Rattle.sx_parse.specs.Roles.{bound_depth, prefix_roles, operand_count}
use Rattle.sx_parse.specs.Standing.{depth, stack_roles, stack_nodes, state_roles}
use Rattle.sx_parse.specs.Machine.{Given, begun, Stack, signed, arguments, condition, binding, State, want, fresh, slash, named, dollar, axis, kind, kind_name, have, comma_bound, binder_dollar, binder_name, casting, casting_as, conditioned, in_pattern, floor, given_binder, reaches, when, follow, open_kind, open_plain, open_name, name_axis, name_binder, follow_named, axis_test, in_kind, end_kind, variable_name, bound_dollar, bound_name, cast_as, cast_type, then_word, follow_slash, read}
use Rattle.sx_parse.specs.Flat as flat
use Rattle.sx_parse.specs.Flat.{Flat}
use Rattle.sx_parse.proofs.Reached.{shape_of, frames, is_pattern, at, Small, next_is}
use Rattle.sx_parse.proofs.Kept.{bound_le, kept, told, if_is, unless_is, cond_is, either_is, in_pattern_is, floor_is, small, depth_le, begin_is, begin_fresh_is}
use Rattle.sx_parse.proofs.Following.{follow_is, replaced_is}

-- ---- behind a name

-- the roles with a name at the end
abbrev pub name_roles : StepPrefix → Stack → List Role
name_roles pre s = stack_roles s ++ prefix_roles pre ++ role.Name ∷ []

abbrev pub named_at : StepPrefix → Stack → Mode → Flat
named_at pre s m = at s (stack_nodes s) (name_roles pre s) m

open_test_is : (pre : StepPrefix) (k : KindWord) (p : ℕ) (s : Stack) (m : Mode) → depth s < 2 ^ 32 →
    flat.open_test (named_at pre s m) pre k p ≡ Ok (kept (kind pre k p s))
open_test_is pre k p s m h =
    let e = next_is (depth s) h in
    let f = replaced_is (stack_roles s ++ prefix_roles pre) role.Name role.Plain in
    rw (e, f) (simp append_assoc)

open_kind_is : (pre : StepPrefix) (w : Word) (p : ℕ) (s : Stack) (m : Mode) → depth s < 2 ^ 32 →
    flat.open_kind (named_at pre s m) pre w p ≡ told (name_roles pre s) (open_kind pre w p s)
open_kind_is pre (word.Kind k) p s m h = open_test_is pre k p s m h
open_kind_is pre w p s m h = refl

once_is : (s : Stack) → not (is_pattern s && nat_eq (depth s) 0) && nat_le (flat.floor (frames s)) 1 ≡ not (in_pattern s) && nat_le (floor s) 1
once_is s =
    ap (λ (b : Bool). not b && nat_le (flat.floor (frames s)) 1) (in_pattern_is s) ∙ ap (λ (n : ℕ). not (in_pattern s) && nat_le n 1) (floor_is s)

open_condition_is : (p : ℕ) (s : Stack) (m : Mode) → suc (depth s) < 2 ^ 32 →
    flat.open_condition (named_at prefix.Plain s m)
    ≡ told (name_roles prefix.Plain s) (when (not (in_pattern s) && nat_le (floor s) 1) (want (condition p s)))
open_condition_is p s m h =
    let e = next_is (depth s) (omega arith) in
    let i = next_is (suc (depth s)) h in
    let f = replaced_is (stack_roles s ++ []) role.Name (role.Opens (suc (depth s))) in
    if_is _ (not (in_pattern s) && nat_le (floor s) 1) _ _ (want (condition p s)) (once_is s) (rw (e, i, f) (simp (append_assoc, append-nil)))

open_call_is : (w : Word) (p : ℕ) (s : Stack) (m : Mode) → depth s < 2 ^ 32 →
    flat.open_call (named_at prefix.Plain s m) p
    ≡ told (name_roles prefix.Plain s) (when (not (in_pattern s)) (fresh (arguments w p s)))
open_call_is w p s m h =
    let e = next_is (depth s) h in
    let f = replaced_is (stack_roles s ++ []) role.Name role.Function in
    unless_is _ (in_pattern s) _ _ (fresh (arguments w p s)) (in_pattern_is s) (rw (e, f) (simp (append_assoc, append-nil)))

open_plain_is : (w : Word) (p : ℕ) (s : Stack) (m : Mode) → suc (depth s) < 2 ^ 32 →
    flat.open_plain (named_at prefix.Plain s m) w p ≡ told (name_roles prefix.Plain s) (open_plain w p s)
open_plain_is (word.Kind k) p s m h = open_test_is prefix.Plain k p s m (omega arith)
open_plain_is word.If p s m h = open_condition_is p s m h
open_plain_is w p s m h = open_call_is w p s m (omega arith)

open_name_is : (pre : StepPrefix) (w : Word) (p : ℕ) (s : Stack) (m : Mode) → suc (depth s) < 2 ^ 32 →
    flat.open_name (named_at pre s m) pre w p ≡ told (name_roles pre s) (open_name pre w p s)
open_name_is prefix.Plain w p s m h = open_plain_is w p s m h
open_name_is prefix.At w p s m h = open_kind_is prefix.At w p s m (omega arith)
open_name_is (prefix.Axis v q) w p s m h = open_kind_is (prefix.Axis v q) w p s m (omega arith)

name_axis_is : (pre : StepPrefix) (w : Word) (p : ℕ) (s : Stack) (m : Mode) →
    flat.name_axis (named_at pre s m) pre w p ≡ told (name_roles pre s) (name_axis pre w p s)
name_axis_is prefix.Plain w p s m =
    let f = replaced_is (stack_roles s ++ []) role.Name role.Plain in
    if_is _ (names_axis (in_pattern s) w) _ _ (axis (prefix.Axis w p) s) (ap (λ (b : Bool). names_axis b w) (in_pattern_is s)) (rw f (simp (append_assoc, append-nil)))
name_axis_is prefix.At w p s m = refl
name_axis_is (prefix.Axis v q) w p s m = refl

begin_binder_is : (k : Binder) (p : ℕ) (s : Stack) (m : Mode) → depth s < 2 ^ 32 →
    flat.begin_binder (named_at prefix.Plain s m) k
    ≡ told (name_roles prefix.Plain s) (when (not (in_pattern s) && nat_le (floor s) 1) (binder_dollar (begun k p) s))
begin_binder_is k p s m h =
    let e = next_is (depth s) h in
    let f = replaced_is (stack_roles s ++ []) role.Name (role.Opens (suc (depth s))) in
    if_is _ (not (in_pattern s) && nat_le (floor s) 1) _ _ (binder_dollar (begun k p) s) (once_is s) (rw (e, f) (simp (append_assoc, append-nil)))

name_binder_is : (pre : StepPrefix) (w : Word) (p : ℕ) (s : Stack) (m : Mode) → depth s < 2 ^ 32 →
    flat.name_binder (named_at pre s m) pre w ≡ told (name_roles pre s) (name_binder pre w p s)
name_binder_is prefix.Plain (word.Binder k) p s m h = begin_binder_is k p s m h
name_binder_is prefix.Plain w p s m h = refl
name_binder_is prefix.At w p s m h = refl
name_binder_is (prefix.Axis v q) w p s m h = refl

follow_step_is : (pre : StepPrefix) (w : Word) (p : ℕ) (s : Stack) (m : Mode) (l : Lexeme) → Small (length (name_roles pre s)) →
    flat.follow_step (named_at pre s m) pre w p l ≡ told (name_roles pre s) (follow (step pre (test.Named w p)) s l)
follow_step_is pre w p s m l h =
    let e = append_assoc (stack_roles s) (prefix_roles pre) (role.Name ∷ []) in
    let k = rw e at h in
    ap (λ (rs : List Role). flat.follow (at s (stack_nodes s ++ node.Step pre (test.Named w p) ∷ []) rs m) shape.Filtered 1 l) e
    ∙ follow_is (step pre (test.Named w p)) s m l k
    ∙ ap (λ (rs : List Role). told rs (follow (step pre (test.Named w p)) s l)) (sym e)

name_small : (pre : StepPrefix) (s : Stack) → Small (length (name_roles pre s)) → suc (depth s) < 2 ^ 32
name_small pre s h = let k = depth_le s in let l = simp length-append at h in omega arith

follow_named_is : (pre : StepPrefix) (w : Word) (p : ℕ) (s : Stack) (l : Lexeme) → Small (length (name_roles pre s)) →
    flat.follow_named (kept (named pre w p s)) pre w p l ≡ told (name_roles pre s) (follow_named pre w p s l)
follow_named_is pre w p s (lexeme.Mark mark.Open) h = open_name_is pre w p s (mode.Named pre w p) (name_small pre s h)
follow_named_is pre w p s (lexeme.Mark mark.Colons) h = name_axis_is pre w p s (mode.Named pre w p)
follow_named_is pre w p s (lexeme.Mark mark.Dollar) h =
    let k = name_small pre s h in name_binder_is pre w p s (mode.Named pre w p) (omega arith)
follow_named_is pre w p s l h = follow_step_is pre w p s (mode.Named pre w p) l h

-- ---- inside steps, bindings and casts

axis_test_is : (pre : StepPrefix) (s : Stack) (l : Lexeme) → flat.axis_test (kept (axis pre s)) pre l ≡ told (state_roles (axis pre s)) (axis_test pre s l)
axis_test_is pre s (lexeme.Name w p) = refl
axis_test_is pre s (lexeme.Wild p) = simp append_assoc
axis_test_is pre s (lexeme.Mark (mark.Operator (operator.Arith arith_op.Mul))) = simp append_assoc
axis_test_is pre s l = refl

in_kind_is : (pre : StepPrefix) (k : KindWord) (p : ℕ) (s : Stack) (l : Lexeme) →
    flat.in_kind (kept (kind pre k p s)) pre k p l ≡ told (state_roles (kind pre k p s)) (in_kind pre k p s l)
in_kind_is pre k p s (lexeme.Mark mark.Close) = simp append_assoc
in_kind_is pre k p s (lexeme.Name w q) = if_is _ (takes_name k w) _ _ (kind_name pre k p w q s) refl (simp append_assoc)
in_kind_is pre k p s l = refl

end_kind_is : (pre : StepPrefix) (k : KindWord) (p : ℕ) (w : Word) (q : ℕ) (s : Stack) (l : Lexeme) →
    flat.end_kind (kept (kind_name pre k p w q s)) pre (test.KindOf k p w q) l ≡ told (state_roles (kind_name pre k p w q s)) (end_kind pre k p w q s l)
end_kind_is pre k p w q s (lexeme.Mark mark.Close) = simp append_assoc
end_kind_is pre k p w q s l = refl

variable_name_is : (s : Stack) (l : Lexeme) → flat.variable_name (kept (dollar s)) l ≡ told (state_roles (dollar s)) (variable_name s l)
variable_name_is s (lexeme.Name w p) = simp append_assoc
variable_name_is s (lexeme.Mark x) = refl
variable_name_is s (lexeme.Wild p) = refl
variable_name_is s (lexeme.Literal p) = refl

bound_dollar_is : (bs : Bindings) (s : Stack) (l : Lexeme) → bound_depth (depth s) bs < 2 ^ 32 →
    flat.bound_dollar (kept (comma_bound bs s)) (binder_of bs) l ≡ told (state_roles (comma_bound bs s)) (bound_dollar bs s l)
bound_dollar_is bs s (lexeme.Mark mark.Dollar) h = let e = next_is (bound_depth (depth s) bs) h in rw e (simp append_assoc)
bound_dollar_is bs s l h = refl

bound_name_is : (g : Given) (s : Stack) (l : Lexeme) →
    flat.bound_name (kept (binder_dollar g s)) (given_binder g) l ≡ told (state_roles (binder_dollar g s)) (bound_name g s l)
bound_name_is g s (lexeme.Name w p) = refl
bound_name_is g s (lexeme.Mark x) = refl
bound_name_is g s (lexeme.Wild p) = refl
bound_name_is g s (lexeme.Literal p) = refl

bind_name_is : (g : Given) (w : Word) (r : ℕ) (s : Stack) (l : Lexeme) →
    flat.bind_name (kept (binder_name g w r s)) (given_binder g) r l
    ≡ told (state_roles (binder_name g w r s)) (when (introduces (given_binder g) l) (want (binding g w r l s)))
bind_name_is g w r s l = if_is _ (introduces (given_binder g) l) _ _ (want (binding g w r l s)) refl (simp append_assoc)

cast_as_is : (t : Tree) (k : Casting) (p : ℕ) (s : Stack) (l : Lexeme) →
    flat.cast_as (kept (casting t k p s)) k l ≡ told (state_roles (casting t k p s)) (cast_as t k p s l)
cast_as_is t k p s (lexeme.Name word.As q) = simp append_assoc
cast_as_is t k p s l = refl

cast_type_is : (t : Tree) (k : Casting) (p q : ℕ) (s : Stack) (l : Lexeme) →
    flat.cast_type (kept (casting_as t k p q s)) k l ≡ told (state_roles (casting_as t k p q s)) (cast_type t k p q s l)
cast_type_is t k p q s (lexeme.Name w r) = simp append_assoc
cast_type_is t k p q s (lexeme.Mark x) = refl
cast_type_is t k p q s (lexeme.Wild r) = refl
cast_type_is t k p q s (lexeme.Literal r) = refl

then_word_is : (p : ℕ) (c : Tree) (s : Stack) (l : Lexeme) →
    flat.then_word (kept (conditioned p c s)) l ≡ told (state_roles (conditioned p c s)) (then_word p c s l)
then_word_is p c s (lexeme.Name word.Then q) = simp append_assoc
then_word_is p c s l = refl

-- ---- behind `/`

pub root_is : (s : Stack) → flat.reaches (is_pattern s && nat_eq (depth s) 0) (flat.floor (frames s)) shape.Root ≡ reaches (in_pattern s) (floor s) root
root_is s =
    ap (λ (b : Bool). flat.reaches b (flat.floor (frames s)) shape.Root) (in_pattern_is s) ∙ ap (λ (n : ℕ). flat.reaches (in_pattern s) n shape.Root) (floor_is s)

follow_slash_is : (s : Stack) (l : Lexeme) → Small (length (state_roles (slash s))) →
    flat.follow_slash (kept (slash s)) l ≡ told (state_roles (slash s)) (follow_slash s l)
follow_slash_is s l h =
    either_is (begins_step l) _ _ _ _ _ (begin_is (signed operator.Slash s) mode.Slash l (small s (role.Plain ∷ []) h))
    (cond_is _ (reaches (in_pattern s) (floor s) root) _ _ _ (root_is s) (follow_is root s mode.Slash l h))

-- ---- reading a token

stack_small : (s : Stack) → Small (length (stack_roles s)) → depth s < 2 ^ 32
stack_small s h = let k = depth_le s in omega arith

bound_small : (bs : Bindings) (s : Stack) → Small (length (state_roles (comma_bound bs s))) → bound_depth (depth s) bs < 2 ^ 32
bound_small bs s h =
    let k = depth_le s in
    let b = bound_le (depth s) bs in
    let l = simp length-append at h in
    omega arith

pub read_is : (s : State) (l : Lexeme) → Small (length (state_roles s)) → flat.read (kept s) l ≡ told (state_roles s) (read s l)
read_is (want s) l h = begin_is s mode.Want l (stack_small s h)
read_is (fresh s) l h = begin_fresh_is s l (stack_small s h)
read_is (slash s) l h = follow_slash_is s l h
read_is (named pre w p s) l h = follow_named_is pre w p s l h
read_is (dollar s) l h = variable_name_is s l
read_is (axis pre s) l h = axis_test_is pre s l
read_is (kind pre k p s) l h = in_kind_is pre k p s l
read_is (kind_name pre k p w q s) l h = end_kind_is pre k p w q s l
read_is (have t s) l h = follow_is t s (mode.Have (shape_of t) (operand_count t)) l h
read_is (comma_bound bs s) l h = bound_dollar_is bs s l (bound_small bs s h)
read_is (binder_dollar g s) l h = bound_name_is g s l
read_is (binder_name g w r s) l h = bind_name_is g w r s l
read_is (casting t k p s) l h = cast_as_is t k p s l
read_is (casting_as t k p q s) l h = cast_type_is t k p q s l
read_is (conditioned p c s) l h = then_word_is p c s l
