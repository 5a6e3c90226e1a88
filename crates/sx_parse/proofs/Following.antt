-- Behind an operand the code and the machine agree.
use Rattle.std.proofs.Common.{◌≡◌, ℕ, suc, ◌-◌, Bool, true, false, ◌&&◌, not, nat_le, nat_eq, List, [], ◌∷◌, ◌++◌, length, slice_set, Option, Some, None, Ok, refl, ap, sym, ◌∙◌, arith, append_assoc, append-nil, length-append}
use Rattle.std.proofs.Math.Seq.{set-append_seam}
use Rattle.sx_parse.specs.declared.lexemes.Operator.{Operator}
use Rattle.sx_parse.specs.declared.lexemes.Casting.{Casting}
use Rattle.sx_parse.specs.declared.lexemes.Word.{Word}
use Rattle.sx_parse.specs.declared.lexemes.Word.TheVariants as word
use Rattle.sx_parse.specs.declared.lexemes.Mark.{Mark}
use Rattle.sx_parse.specs.declared.lexemes.Mark.TheVariants as mark
use Rattle.sx_parse.specs.declared.lexemes.Lexeme.{Lexeme}
use Rattle.sx_parse.specs.declared.lexemes.Lexeme.TheVariants as lexeme
use Rattle.sx_parse.specs.declared.nodes.Node.{Node}
use Rattle.sx_parse.specs.declared.nodes.Node.TheVariants as node
use Rattle.sx_parse.specs.declared.roles.Role.{Role}
use Rattle.sx_parse.specs.declared.roles.Role.TheVariants as role
use Rattle.sx_parse.specs.declared.frames.Frame.{Frame}
use Rattle.sx_parse.specs.declared.frames.Frame.TheVariants as frame
use Rattle.sx_parse.specs.declared.frames.Shape.TheVariants as shape
use Rattle.sx_parse.specs.declared.frames.Mode.{Mode}
use Rattle.sx_parse.specs.declared.frames.Mode.TheVariants as mode
use Rattle.sx_parse.specs.Grammar.{level, left_level, casting_level, returns, allows_lexeme, Tree, root, cast, first, also, binder_of}
use Rattle.sx_parse.specs.Nodes.{nodes, takes_more, value_nodes}
use Rattle.sx_parse.specs.Roles.{roles, binding_roles, bound_depth, operand_count}
use Rattle.sx_parse.specs.Standing.{depth, stack_roles, stack_nodes}
use Rattle.sx_parse.specs.Machine.{begun, behind, Stack, pending, more, paren, arguments, predicate, condition, branch, binding, body, State, want, casting, in_pattern, floor, reaches, Reached, reach, when, close_under, close, close_bracket, else_under, comma_under, return_under, operate_on, cast_on, question, follow_operator, follow_mark, follow_name, follow}
use Rattle.sx_parse.specs.Flat as flat
use Rattle.sx_parse.specs.Flat.{Flat, Joined, Outcome, joined, joins, under, join, count_behind, replaced}
use Rattle.sx_parse.proofs.Reached.{shape_of, body_frames, frames, is_pattern, raw, at, holding, joined_of, Small, sub_is, reach_is}
use Rattle.sx_parse.proofs.Kept.{told, if_is, cond_is, uncond_is, in_pattern_is, floor_is, shape_reaches, small, opened_is}

-- ---- joining first

reached_roles : (o : Option Node) (n : ℕ) (fr : Frame) (fs : List Frame) (f : Flat) (c : ℕ) →
    ((g : Flat) (d : ℕ) → (flat.reach n fs g d).flat.roles ≡ g.roles) →
    let after : Joined = elim o [ None ↦ joined (under f (fr ∷ fs)) c | Some it ↦ flat.reach n fs (join (under f fs) fr it) (count_behind fr) ] in
    after.flat.roles ≡ f.roles
reached_roles None n fr fs f c h = refl
reached_roles (Some it) n fr fs f c h = h (join (under f fs) fr it) (count_behind fr)

reach_roles : (n : ℕ) (fs : List Frame) (f : Flat) (c : ℕ) → (flat.reach n fs f c).flat.roles ≡ f.roles
reach_roles n [] f c = refl
reach_roles n (fr ∷ fs) f c = reached_roles (joins n fr) n fr fs f c (λ g d. reach_roles n fs g d)

-- the roles of what was read, up to an operand
abbrev pub read_roles : Tree → Stack → List Role
read_roles t s = stack_roles s ++ roles (depth s) t

pub holding_reach : (n : ℕ) (t : Tree) (s : Stack) (m : Mode) → Small (length (read_roles t s)) →
    flat.joined_at n (holding t s m) (operand_count t) ≡ joined_of (reach n t s) m
holding_reach n t s m h = reach_is n t s (frames s) (stack_nodes s ++ nodes t) (read_roles t s) (depth s) (operand_count t) m refl refl refl refl h

pub kept_roles : (n : ℕ) (t : Tree) (s : Stack) → Small (length (read_roles t s)) →
    read_roles (reach n t s).operand (reach n t s).under ≡ read_roles t s
kept_roles n t s h =
    ap (λ (j : Joined). j.flat.roles) (sym (holding_reach n t s mode.Want h)) ∙ reach_roles n (frames s) (holding t s mode.Want) (operand_count t)

after_reach : (n : ℕ) (t : Tree) (s : Stack) (m : Mode) (g : Joined → Outcome) (y : Reached → Option State) → Small (length (read_roles t s)) →
    ((r : Reached) → g (joined_of r m) ≡ told (read_roles r.operand r.under) (y r)) →
    g (flat.joined_at n (holding t s m) (operand_count t)) ≡ told (read_roles t s) (y (reach n t s))
after_reach n t s m g y h f =
    ap g (holding_reach n t s m h) ∙ f (reach n t s) ∙ ap (λ (rs : List Role). told rs (y (reach n t s))) (kept_roles n t s h)

-- ---- what stands behind

operate_is : (l : Lexeme) (o : Operator) (r : Reached) (m : Mode) →
    flat.operate (holding r.operand r.under m) o ≡ told (read_roles r.operand r.under) (operate_on l o r)
operate_is l o r m =
    if_is _ (nat_le (floor r.under) (level o)) _ _ (want (pending r.operand l o r.under)) (ap (λ n. nat_le n (level o)) (floor_is r.under)) refl

cast_on_is : (k : Casting) (p : ℕ) (r : Reached) (m : Mode) →
    flat.cast_on (holding r.operand r.under m) k ≡ told (read_roles r.operand r.under) (cast_on k p r)
cast_on_is k p r m =
    if_is _ (nat_le (floor r.under) (casting_level k)) _ _ (casting r.operand k p r.under) (ap (λ n. nat_le n (casting_level k)) (floor_is r.under)) refl

close_is : (t : Tree) (s : Stack) (m : Mode) → flat.close_under (frames s) (holding t s m) (operand_count t) ≡ told (read_roles t s) (close_under t s)
close_is t (paren s) m = rw sub_is (simp append_assoc)
close_is t (arguments w p s) m = rw sub_is (simp append_assoc)
close_is t (condition p s) m = rw sub_is (simp append_assoc)
close_is t (body (first k p w r i a) l s) m = refl
close_is t (body (also bs w r i a) l s) m = refl
close_is t s m = refl

close_bracket_is : (t : Tree) (s : Stack) (m : Mode) → flat.close_bracket (frames s) (holding t s m) ≡ told (read_roles t s) (close_bracket t s)
close_bracket_is t (predicate b s) m = rw sub_is (simp append_assoc)
close_bracket_is t (body (first k p w r i a) l s) m = refl
close_bracket_is t (body (also bs w r i a) l s) m = refl
close_bracket_is t s m = refl

else_is : (t : Tree) (k : ℕ) (s : Stack) (m : Mode) → flat.else_under (frames s) (holding t s m) ≡ told (read_roles t s) (else_under t k s)
else_is t k (branch i c j s) m = simp append_assoc
else_is t k (body (first h p w r i a) l s) m = refl
else_is t k (body (also bs w r i a) l s) m = refl
else_is t k s m = refl

more_is : (t : Tree) (s : Stack) (m : Mode) →
    flat.more_operands (under (holding t s m) (frames s)) (operand_count t) ≡ told (read_roles t s) (when (nat_le (floor s) 0) (want (more t s)))
more_is t s m = if_is _ (nat_le (floor s) 0) _ _ (want (more t s)) (ap (λ n. nat_le n 0) (floor_is s)) refl

raw_is : (fs : List Frame) (ns ns' : List Node) (rs rs' : List Role) (d : ℕ) (p : Bool) (m : Mode) → ns ≡ ns' → rs ≡ rs' →
    let before : Outcome = Ok (raw fs ns rs d p m) in before ≡ Ok (raw fs ns' rs' d p m)
raw_is fs ns ns' rs rs' d p m e f = cc

also_roles : (n : ℕ) (xs ys zs : List Role) →
    xs ++ (ys ++ role.Plain ∷ role.Opens n ∷ []) ++ role.Name ∷ role.Plain ∷ [] ++ zs ++ role.Plain ∷ []
    ≡ xs ++ (ys ++ role.Plain ∷ role.Opens n ∷ role.Name ∷ role.Plain ∷ zs) ++ role.Plain ∷ []
also_roles n xs ys zs = simp append_assoc

comma_is : (t : Tree) (s : Stack) (m : Mode) → flat.comma_under (frames s) (holding t s m) (operand_count t) ≡ told (read_roles t s) (comma_under t s)
comma_is t (binding (begun k p) w r l s) m = simp (append_assoc, append-nil)
comma_is t (binding (behind bs) w r l s) m =
    raw_is (body_frames (also bs w r l t) ++ frames s) _ _ _ _ _ _ _ (append_assoc (stack_nodes s) (value_nodes bs) (nodes t))
    (also_roles (suc (bound_depth (depth s) bs)) (stack_roles s) (binding_roles (depth s) bs) (roles (suc (bound_depth (depth s) bs)) t))
comma_is t (body (first k p w r i a) l s) m = more_is t (body (first k p w r i a) l s) m
comma_is t (body (also bs w r i a) l s) m = more_is t (body (also bs w r i a) l s) m
comma_is t s m = more_is t s m

return_is : (t : Tree) (l : Lexeme) (s : Stack) (m : Mode) → flat.return_under (frames s) (holding t s m) l ≡ told (read_roles t s) (return_under t l s)
return_is t l (binding (begun k p) w r i s) m =
    if_is _ (returns k l) _ _ (want (body (first k p w r i t) l s)) refl (simp (append_assoc, append-nil))
return_is t l (binding (behind bs) w r i s) m =
    if_is _ (returns (binder_of bs) l) _ _ (want (body (also bs w r i t) l s)) refl
    (raw_is (body_frames (also bs w r i t) ++ frames s) _ _ _ _ _ _ _ (append_assoc (stack_nodes s) (value_nodes bs) (nodes t))
    (also_roles (suc (bound_depth (depth s) bs)) (stack_roles s) (binding_roles (depth s) bs) (roles (suc (bound_depth (depth s) bs)) t)))
return_is t l (body (first k p w r i a) j s) m = refl
return_is t l (body (also bs w r i a) j s) m = refl
return_is t l s m = refl

-- ---- a token behind an operand

allowed_is : (t : Tree) (s : Stack) (l : Lexeme) (n : ℕ) →
    allows_lexeme (is_pattern s && nat_eq (depth s) 0) l && flat.reaches (is_pattern s && nat_eq (depth s) 0) n (shape_of t) ≡ allows_lexeme (in_pattern s) l && reaches (in_pattern s) n t
allowed_is t s l n =
    ap (λ (b : Bool). allows_lexeme b l && flat.reaches b n (shape_of t)) (in_pattern_is s) ∙ ap (λ (b : Bool). allows_lexeme (in_pattern s) l && b) (shape_reaches (in_pattern s) n t)

follow_operator_is : (t : Tree) (s : Stack) (m : Mode) (l : Lexeme) (o : Operator) → Small (length (read_roles t s)) →
    flat.follow_operator (holding t s m) (shape_of t) (operand_count t) l o ≡ told (read_roles t s) (follow_operator t s l o)
follow_operator_is t s m l o h =
    cond_is _ (allows_lexeme (in_pattern s) l && reaches (in_pattern s) (left_level o) t) _ _ _ (allowed_is t s l (left_level o))
    (after_reach (left_level o) t s m (λ (j : Joined). flat.operate j.flat o) (λ (r : Reached). operate_on l o r) h (λ r. operate_is l o r m))

pub replaced_is : {A : Type 0} (xs : List A) (x y : A) → replaced (xs ++ x ∷ []) y ≡ xs ++ y ∷ []
replaced_is xs x y =
    let e : length (xs ++ x ∷ []) - 1 ≡ length xs = rw length-append (omega arith) in
    ap (λ i. slice_set (xs ++ x ∷ []) i y) e ∙ set-append_seam xs x [] y

question_is : (t : Tree) (s : Stack) (m : Mode) → flat.question (holding t s m) (shape_of t) ≡ told (read_roles t s) (question t s)
question_is (cast e k i j w r false) s m =
    ap (λ (ns : List Node). Ok (at s ns (read_roles (cast e k i j w r false) s ++ role.Plain ∷ []) (mode.Have (shape.Cast k r true) 1)))
    (ap (λ (ns : List Node). replaced ns (node.Cast k r true)) (sym (append_assoc (stack_nodes s) (nodes e) (node.Cast k r false ∷ [])))
    ∙ replaced_is (stack_nodes s ++ nodes e) (node.Cast k r false) (node.Cast k r true))
    ∙ simp append_assoc
question_is (cast e k i j w r true) s m = refl
question_is t s m = refl

takes_more_is : (t : Tree) → flat.takes_more (shape_of t) ≡ takes_more t
takes_more_is root = refl
takes_more_is t = refl

open_predicate_is : (t : Tree) (s : Stack) (m : Mode) → Small (length (read_roles t s)) →
    flat.open_predicate (holding t s m) (shape_of t) ≡ told (read_roles t s) (when (reaches (in_pattern s) 16 t) (want (predicate t s)))
open_predicate_is t s m h =
    if_is _ (reaches (in_pattern s) 16 t) _ _ (want (predicate t s))
    (ap (λ (b : Bool). flat.reaches b 16 (shape_of t)) (in_pattern_is s) ∙ shape_reaches (in_pattern s) 16 t)
    (opened_is s (stack_nodes s ++ nodes t) (read_roles t s) m (frame.Predicate (flat.takes_more (shape_of t))) mode.Want (small s (roles (depth s) t) h)
    ∙ ap (λ (b : Bool). Ok (raw (frame.Predicate b ∷ frames s) (stack_nodes s ++ nodes t) (read_roles t s ++ role.Opens (suc (depth s)) ∷ []) (suc (depth s)) (is_pattern s) mode.Want)) (takes_more_is t))

follow_mark_is : (t : Tree) (s : Stack) (m : Mode) (x : Mark) → Small (length (read_roles t s)) →
    flat.follow_mark (holding t s m) (shape_of t) (operand_count t) x ≡ told (read_roles t s) (follow_mark t s x)
follow_mark_is t s m (mark.Operator o) h = follow_operator_is t s m (lexeme.Mark (mark.Operator o)) o h
follow_mark_is t s m mark.Comma h =
    uncond_is _ (in_pattern s) _ _ _ (in_pattern_is s)
    (after_reach 0 t s m flat.comma (λ (r : Reached). comma_under r.operand r.under) h (λ r. comma_is r.operand r.under m))
follow_mark_is t s m mark.Close h = after_reach 0 t s m flat.close close h (λ r. close_is r.operand r.under m)
follow_mark_is t s m mark.CloseBracket h =
    after_reach 0 t s m (λ (j : Joined). flat.close_bracket j.flat.frames j.flat) (λ (r : Reached). close_bracket r.operand r.under) h (λ r. close_bracket_is r.operand r.under m)
follow_mark_is t s m mark.OpenBracket h = open_predicate_is t s m h
follow_mark_is t s m mark.Question h = question_is t s m
follow_mark_is t s m x h = refl

follow_casting_is : (t : Tree) (s : Stack) (m : Mode) (k : Casting) (p : ℕ) → Small (length (read_roles t s)) →
    flat.follow_casting (holding t s m) (shape_of t) (operand_count t) k ≡ told (read_roles t s) (follow_name t s (word.Casting k) p)
follow_casting_is t s m k p h =
    cond_is _ (not (in_pattern s) && reaches false (suc (casting_level k)) t) _ _ _
    (ap (λ (b : Bool). not b && flat.reaches false (suc (casting_level k)) (shape_of t)) (in_pattern_is s)
    ∙ ap (λ (b : Bool). not (in_pattern s) && b) (shape_reaches false (suc (casting_level k)) t))
    (after_reach (suc (casting_level k)) t s m (λ (j : Joined). flat.cast_on j.flat k) (cast_on k p) h (λ r. cast_on_is k p r m))

returned_is : (t : Tree) (s : Stack) (m : Mode) (l : Lexeme) → Small (length (read_roles t s)) →
    flat.follow_returned (holding t s m) (operand_count t) l ≡ told (read_roles t s) (return_under (reach 0 t s).operand l (reach 0 t s).under)
returned_is t s m l h =
    after_reach 0 t s m (λ (j : Joined). flat.returned j.flat l) (λ (r : Reached). return_under r.operand l r.under) h (λ r. return_is r.operand l r.under m)

follow_name_is : (t : Tree) (s : Stack) (m : Mode) (w : Word) (p : ℕ) → Small (length (read_roles t s)) →
    flat.follow_name (holding t s m) (shape_of t) (operand_count t) w p ≡ told (read_roles t s) (follow_name t s w p)
follow_name_is t s m (word.Operator o) p h = follow_operator_is t s m (lexeme.Name (word.Operator o) p) o h
follow_name_is t s m (word.Casting k) p h = follow_casting_is t s m k p h
follow_name_is t s m word.Else p h =
    after_reach 0 t s m (λ (j : Joined). flat.else_under j.flat.frames j.flat) (λ (r : Reached). else_under r.operand p r.under) h (λ r. else_is r.operand p r.under m)
follow_name_is t s m word.Return p h = returned_is t s m (lexeme.Name word.Return p) h
follow_name_is t s m word.Satisfies p h = returned_is t s m (lexeme.Name word.Satisfies p) h
follow_name_is t s m w p h = refl

pub follow_is : (t : Tree) (s : Stack) (m : Mode) (l : Lexeme) → Small (length (read_roles t s)) →
    flat.follow (holding t s m) (shape_of t) (operand_count t) l ≡ told (read_roles t s) (follow t s l)
follow_is t s m (lexeme.Mark x) h = follow_mark_is t s m x h
follow_is t s m (lexeme.Name w p) h = follow_name_is t s m w p h
follow_is t s m (lexeme.Wild p) h = refl
follow_is t s m (lexeme.Literal p) h = refl
