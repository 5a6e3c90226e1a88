-- What the code keeps in each state of the machine, and that both agree where an operand has to come.
use Rattle.std.proofs.Common.{◌≡◌, ℕ, suc, ◌+◌, ◌^◌, ◌<◌, ◌≤◌, Bool, true, false, ◌&&◌, not, if◌then◌else◌, nat_le, nat_eq, List, [], ◌∷◌, ◌++◌, length, Option, Some, None, Ok, Err, refl, ap, ◌∙◌, arith, append_assoc, append-nil, length-append}
use Rattle.std.proofs.Math.Dec.{eqb-suc-zero}
use Rattle.sx_atoms.specs.declared.arithmetic.ArithOp.TheVariants as arith_op
use Rattle.sx_parse.specs.declared.lexemes.Operator.TheVariants as operator
use Rattle.sx_parse.specs.declared.lexemes.Mark.{Mark}
use Rattle.sx_parse.specs.declared.lexemes.Mark.TheVariants as mark
use Rattle.sx_parse.specs.declared.lexemes.Lexeme.{Lexeme}
use Rattle.sx_parse.specs.declared.lexemes.Lexeme.TheVariants as lexeme
use Rattle.sx_parse.specs.declared.lexemes.Test.TheVariants as test
use Rattle.sx_parse.specs.declared.nodes.Node.{Node}
use Rattle.sx_parse.specs.declared.roles.Role.{Role}
use Rattle.sx_parse.specs.declared.roles.Role.TheVariants as role
use Rattle.sx_parse.specs.declared.frames.Frame.{Frame}
use Rattle.sx_parse.specs.declared.frames.Frame.TheVariants as frame
use Rattle.sx_parse.specs.declared.frames.Mode.{Mode}
use Rattle.sx_parse.specs.declared.frames.Mode.TheVariants as mode
use Rattle.sx_parse.specs.Grammar.{Tree, literal, dot, parent, root, Bindings, first, also, binder_of}
use Rattle.sx_parse.specs.Nodes.{nodes}
use Rattle.sx_parse.specs.Roles.{roles, binding_roles, bound_depth, prefix_roles, inner_role, operand_count}
use Rattle.sx_parse.specs.Standing.{depth, given_depth, stack_roles, stack_nodes, given_roles, given_nodes}
use Rattle.sx_parse.specs.Machine.{Given, begun, behind, Stack, bottom, pending, more, signed, paren, arguments, predicate, condition, branch, otherwise, binding, body, State, want, fresh, slash, named, dollar, axis, kind, kind_name, have, comma_bound, binder_dollar, binder_name, casting, casting_as, conditioned, in_pattern, floor, given_binder, reaches, when, begin_mark, begin, close_empty, begin_fresh}
use Rattle.sx_parse.specs.Flat as flat
use Rattle.sx_parse.specs.Flat.{Flat, Outcome, next}
use Rattle.sx_parse.proofs.Reached.{shape_of, given_frames, frames, is_pattern, raw, at, holding, Small, next_is, sub_is}

-- ---- what the code keeps in each state

-- the same inside bindings
abbrev pub bound_at : Given → Stack → List Role → ℕ → Mode → Flat
bound_at g s rs d m = raw (given_frames g ++ frames s) (stack_nodes s ++ given_nodes g) rs d (is_pattern s) m

abbrev pub kept : State → Flat
kept (want s) = at s (stack_nodes s) (stack_roles s) mode.Want
kept (fresh s) = at s (stack_nodes s) (stack_roles s) mode.Fresh
kept (slash s) = at s (stack_nodes s) (stack_roles s ++ role.Plain ∷ []) mode.Slash
kept (named pre w p s) = at s (stack_nodes s) (stack_roles s ++ prefix_roles pre ++ role.Name ∷ []) (mode.Named pre w p)
kept (dollar s) = at s (stack_nodes s) (stack_roles s ++ role.Plain ∷ []) mode.Dollar
kept (axis pre s) = at s (stack_nodes s) (stack_roles s ++ prefix_roles pre) (mode.Axis pre)
kept (kind pre k p s) = at s (stack_nodes s) (stack_roles s ++ prefix_roles pre ++ role.Plain ∷ role.Opens (suc (depth s)) ∷ []) (mode.Kind pre k p)
kept (kind_name pre k p w q s) =
    at s (stack_nodes s) (stack_roles s ++ prefix_roles pre ++ role.Plain ∷ role.Opens (suc (depth s)) ∷ inner_role k ∷ [])
    (mode.KindName pre (test.KindOf k p w q))
kept (have t s) = holding t s (mode.Have (shape_of t) (operand_count t))
kept (comma_bound bs s) =
    bound_at (behind bs) s (stack_roles s ++ binding_roles (depth s) bs ++ role.Plain ∷ []) (bound_depth (depth s) bs) (mode.CommaBound (binder_of bs))
kept (binder_dollar g s) =
    bound_at g s (stack_roles s ++ given_roles (depth s) g) (given_depth (depth s) g) (mode.BinderDollar (given_binder g))
kept (binder_name g w r s) =
    bound_at g s (stack_roles s ++ given_roles (depth s) g ++ role.Name ∷ []) (given_depth (depth s) g) (mode.BinderName (given_binder g) r)
kept (casting t k p s) = at s (stack_nodes s ++ nodes t) (stack_roles s ++ roles (depth s) t ++ role.Plain ∷ []) (mode.Casting k)
kept (casting_as t k p q s) =
    at s (stack_nodes s ++ nodes t) (stack_roles s ++ roles (depth s) t ++ role.Plain ∷ role.Plain ∷ []) (mode.CastingAs k)
kept (conditioned p c s) =
    raw (frames s) (stack_nodes s ++ nodes c)
    (stack_roles s ++ role.Opens (suc (depth s)) ∷ role.Opens (suc (suc (depth s))) ∷ roles (suc (suc (depth s))) c ++ role.Plain ∷ [])
    (suc (depth s)) (is_pattern s) mode.Conditioned

abbrev pub told : List Role → Option State → Outcome
told rs None = Err rs
told rs (Some n) = Ok (kept n)

-- ---- tests

pub if_is : (a b : Bool) (rs : List Role) (x : Outcome) (n : State) → a ≡ b → x ≡ Ok (kept n) → (if a then x else Err rs) ≡ told rs (when b n)
if_is a true rs x n e h = rw e h
if_is a false rs x n e h = rw e refl

pub unless_is : (a b : Bool) (rs : List Role) (x : Outcome) (n : State) → a ≡ b → x ≡ Ok (kept n) → (if a then Err rs else x) ≡ told rs (when (not b) n)
unless_is a true rs x n e h = rw e refl
unless_is a false rs x n e h = rw e h

pub both_is : (a b c d : Bool) (rs : List Role) (x : Outcome) (n : State) → a ≡ b → c ≡ d → x ≡ Ok (kept n) →
    (if a then Err rs else (if c then x else Err rs)) ≡ told rs (when (not b && d) n)
both_is a true c d rs x n e f h = rw e refl
both_is a false c true rs x n e f h = rw (e, f) h
both_is a false c false rs x n e f h = rw (e, f) refl

pub none_is : (a : Bool) (rs : List Role) → (if a then Err rs else Err rs) ≡ told rs None
none_is true rs = refl
none_is false rs = refl

pub cond_is : (a b : Bool) (rs : List Role) (x : Outcome) (y : Option State) → a ≡ b → x ≡ told rs y → (if a then x else Err rs) ≡ told rs (if b then y else None)
cond_is a true rs x y e h = rw e h
cond_is a false rs x y e h = rw e refl

pub uncond_is : (a b : Bool) (rs : List Role) (x : Outcome) (y : Option State) → a ≡ b → x ≡ told rs y → (if a then Err rs else x) ≡ told rs (if b then None else y)
uncond_is a true rs x y e h = rw e refl
uncond_is a false rs x y e h = rw e h

pub either_is : (b : Bool) (rs : List Role) (x y : Outcome) (p q : Option State) → x ≡ told rs p → y ≡ told rs q → (if b then x else y) ≡ told rs (if b then p else q)
either_is true rs x y p q e f = e
either_is false rs x y p q e f = f

and_false : (b : Bool) → b && false ≡ false
and_false true = refl
and_false false = refl

open_is : (b : Bool) (n : ℕ) → b && nat_eq (suc n) 0 ≡ false
open_is b n = ap (λ c. b && c) (eqb-suc-zero n) ∙ and_false b

and_true : (b : Bool) → b && true ≡ b
and_true true = refl
and_true false = refl

pub in_pattern_is : (s : Stack) → is_pattern s && nat_eq (depth s) 0 ≡ in_pattern s
in_pattern_is (bottom p) = and_true p
in_pattern_is (pending a l o s) = in_pattern_is s
in_pattern_is (more a s) = in_pattern_is s
in_pattern_is (signed o s) = in_pattern_is s
in_pattern_is (paren s) = open_is (is_pattern s) (depth s)
in_pattern_is (arguments w p s) = open_is (is_pattern s) (depth s)
in_pattern_is (predicate b s) = open_is (is_pattern s) (depth s)
in_pattern_is (condition p s) = open_is (is_pattern s) (suc (depth s))
in_pattern_is (branch p c q s) = open_is (is_pattern s) (depth s)
in_pattern_is (otherwise p c q t r s) = open_is (is_pattern s) (depth s)
in_pattern_is (binding (begun k p) w r l s) = open_is (is_pattern s) (depth s)
in_pattern_is (binding (behind bs) w r l s) = open_is (is_pattern s) (bound_depth (depth s) bs)
in_pattern_is (body (first k p w r i a) l s) = open_is (is_pattern s) (depth s)
in_pattern_is (body (also bs w r i a) l s) = open_is (is_pattern s) (bound_depth (depth s) bs)

pub floor_is : (s : Stack) → flat.floor (frames s) ≡ floor s
floor_is (body (first k p w r i a) l s) = refl
floor_is (body (also bs w r i a) l s) = refl
floor_is s = refl

pub shape_reaches : (p : Bool) (n : ℕ) (t : Tree) → flat.reaches p n (shape_of t) ≡ reaches p n t
shape_reaches p n root = refl
shape_reaches p n t = refl

-- ---- numbers

-- each binding has a token at least
pub bound_le : (n : ℕ) (bs : Bindings) → bound_depth n bs ≤ n + length (binding_roles n bs)
bound_le n (first k p w r l a) = omega arith
bound_le n (also bs w r l a) = let h = bound_le n bs in simp length-append (omega arith)

given_le : (n : ℕ) (g : Given) → given_depth n g ≤ n + length (given_roles n g)
given_le n (begun k p) = omega arith
given_le n (behind bs) = let h = bound_le n bs in simp length-append (omega arith)

pub depth_le : (s : Stack) → depth s ≤ length (stack_roles s)
depth_le (bottom p) = omega arith
depth_le (pending a l o s) = let h = depth_le s in simp length-append (omega arith)
depth_le (more a s) = let h = depth_le s in simp length-append (omega arith)
depth_le (signed o s) = let h = depth_le s in simp length-append (omega arith)
depth_le (paren s) = let h = depth_le s in simp length-append (omega arith)
depth_le (arguments w p s) = let h = depth_le s in simp length-append (omega arith)
depth_le (predicate b s) = let h = depth_le s in simp length-append (omega arith)
depth_le (condition p s) = let h = depth_le s in simp length-append (omega arith)
depth_le (branch p c q s) = let h = depth_le s in simp length-append (omega arith)
depth_le (otherwise p c q t r s) = let h = depth_le s in simp length-append (omega arith)
depth_le (binding g w r l s) = let h = depth_le s in let i = given_le (depth s) g in simp length-append (omega arith)
depth_le (body bs l s) = let h = depth_le s in let i = bound_le (depth s) bs in simp length-append (omega arith)

pub small : (s : Stack) (xs : List Role) → Small (length (stack_roles s ++ xs)) → depth s < 2 ^ 32
small s xs h = let k = depth_le s in let l = simp length-append at h in omega arith

opens_is : (n : ℕ) → n < 2 ^ 32 → next n ≡ suc n
opens_is n h = next_is n h

-- ---- where an operand has to come

pub opened_is : (s : Stack) (ns : List Node) (rs : List Role) (m : Mode) (fr : Frame) (after : Mode) → depth s < 2 ^ 32 →
    flat.opened (at s ns rs m) fr after ≡ Ok (raw (fr ∷ frames s) ns (rs ++ role.Opens (suc (depth s)) ∷ []) (suc (depth s)) (is_pattern s) after)
opened_is s ns rs m fr after h = let e = opens_is (depth s) h in rw e refl

begin_mark_is : (s : Stack) (m : Mode) (x : Mark) → depth s < 2 ^ 32 →
    flat.begin_mark (at s (stack_nodes s) (stack_roles s) m) x ≡ told (stack_roles s) (begin_mark s x)
begin_mark_is s m (mark.Operator (operator.Arith arith_op.Mul)) h = refl
begin_mark_is s m (mark.Operator (operator.Arith arith_op.Add)) h =
    both_is _ (in_pattern s) _ (nat_le (floor s) 12) _ _ (want (signed (operator.Arith arith_op.Add) s)) (in_pattern_is s) (ap (λ n. nat_le n 12) (floor_is s)) refl
begin_mark_is s m (mark.Operator (operator.Arith arith_op.Sub)) h =
    both_is _ (in_pattern s) _ (nat_le (floor s) 12) _ _ (want (signed (operator.Arith arith_op.Sub) s)) (in_pattern_is s) (ap (λ n. nat_le n 12) (floor_is s)) refl
begin_mark_is s m (mark.Operator operator.Slash) h = if_is _ (nat_le (floor s) 15) _ _ (slash s) (ap (λ n. nat_le n 15) (floor_is s)) refl
begin_mark_is s m (mark.Operator operator.DoubleSlash) h =
    if_is _ (nat_le (floor s) 15) _ _ (want (signed operator.DoubleSlash s)) (ap (λ n. nat_le n 15) (floor_is s)) refl
begin_mark_is s m mark.Open h =
    unless_is _ (in_pattern s) _ _ (fresh (paren s)) (in_pattern_is s) (opened_is s (stack_nodes s) (stack_roles s) m frame.Paren mode.Fresh h)
begin_mark_is s m mark.Dollar h = unless_is _ (in_pattern s) _ _ (dollar s) (in_pattern_is s) refl
begin_mark_is s m mark.At h = refl
begin_mark_is s m mark.Dot h = unless_is _ (in_pattern s) _ _ (have dot s) (in_pattern_is s) refl
begin_mark_is s m mark.DotDot h = unless_is _ (in_pattern s) _ _ (have parent s) (in_pattern_is s) refl
begin_mark_is s m x h = none_is (is_pattern s && nat_eq (depth s) 0) (stack_roles s)

pub begin_is : (s : Stack) (m : Mode) (l : Lexeme) → depth s < 2 ^ 32 →
    flat.begin (at s (stack_nodes s) (stack_roles s) m) l ≡ told (stack_roles s) (begin s l)
begin_is s m (lexeme.Literal p) h = unless_is _ (in_pattern s) _ _ (have (literal p) s) (in_pattern_is s) refl
begin_is s m (lexeme.Wild p) h = refl
begin_is s m (lexeme.Name w p) h = simp append-nil
begin_is s m (lexeme.Mark x) h = begin_mark_is s m x h

close_empty_is : (s : Stack) (m : Mode) → flat.close_empty (frames s) (at s (stack_nodes s) (stack_roles s) m) ≡ told (stack_roles s) (close_empty s)
close_empty_is (paren s) m = rw sub_is (simp append_assoc)
close_empty_is (arguments w p s) m = rw sub_is (simp append_assoc)
close_empty_is (body (first k p w r i a) l s) m = refl
close_empty_is (body (also bs w r i a) l s) m = refl
close_empty_is s m = refl

pub begin_fresh_is : (s : Stack) (l : Lexeme) → depth s < 2 ^ 32 → flat.begin_fresh (kept (fresh s)) l ≡ told (stack_roles s) (begin_fresh s l)
begin_fresh_is s (lexeme.Mark mark.Close) h = close_empty_is s mode.Fresh
begin_fresh_is s l h = begin_is s mode.Fresh l h
