-- What the machine of the definitions is to the code: its lists, and that joining what is pending gives the same of both.
use Rattle.std.proofs.Common.{◌≡◌, ℕ, suc, ◌-◌, ◌^◌, ◌<◌, ◌≤◌, Bool, true, false, if◌then◌else◌, nat_le, List, [], ◌∷◌, ◌++◌, length, Some, None, refl, ap, ◌∙◌, arith, append_assoc, length-append}
use Rattle.sx_parse.specs.declared.lexemes.Test.{Test}
use Rattle.sx_parse.specs.declared.lexemes.Test.TheVariants as test
use Rattle.sx_parse.specs.declared.nodes.Node.{Node}
use Rattle.sx_parse.specs.declared.nodes.Node.TheVariants as node
use Rattle.sx_parse.specs.declared.roles.Role.{Role}
use Rattle.sx_parse.specs.declared.roles.Role.TheVariants as role
use Rattle.sx_parse.specs.declared.frames.Frame.{Frame}
use Rattle.sx_parse.specs.declared.frames.Frame.TheVariants as frame
use Rattle.sx_parse.specs.declared.frames.Shape.{Shape}
use Rattle.sx_parse.specs.declared.frames.Shape.TheVariants as shape
use Rattle.sx_parse.specs.declared.frames.Mode.{Mode}
use Rattle.sx_parse.specs.Grammar.{level, prefix_level, Tree, literal, dot, parent, root, variable, step, empty, parens, call, called, filter, comma, prefixed, binary, cast, choice, bind, Bindings, first, also, binder_of}
use Rattle.sx_parse.specs.Nodes.{nodes, name_nodes, takes_more}
use Rattle.sx_parse.specs.Roles.{roles, bound_depth, test_roles, prefix_roles, operand_count}
use Rattle.sx_parse.specs.Standing.{depth, stack_roles, stack_nodes}
use Rattle.sx_parse.specs.Machine.{Given, begun, behind, Stack, bottom, pending, more, signed, paren, arguments, predicate, condition, branch, otherwise, binding, body, given_binder, Reached, reached, reach}
use Rattle.sx_parse.specs.Flat as flat
use Rattle.sx_parse.specs.Flat.{Flat, Joined, joined, under, join, when_some, count_behind, next}

-- ---- the lists of the machine

abbrev pub shape_of : Tree → Shape
shape_of root = shape.Root
shape_of (cast e k i j w r o) = shape.Cast k r o
shape_of parent = shape.Filtered
shape_of (step pre t) = shape.Filtered
shape_of (filter b e) = shape.Filtered
shape_of t = shape.Other

abbrev pub body_frames : Bindings → List Frame
body_frames (first k p w r l a) = frame.Body k r ∷ []
body_frames (also bs w r l a) = frame.Body (binder_of bs) r ∷ body_frames bs

abbrev pub given_frames : Given → List Frame
given_frames (begun k p) = []
given_frames (behind bs) = body_frames bs

abbrev pub frames : Stack → List Frame
frames (bottom p) = []
frames (pending a l o s) = frame.Pending o ∷ frames s
frames (more a s) = frame.More (operand_count a) ∷ frames s
frames (signed o s) = frame.Signed o ∷ frames s
frames (paren s) = frame.Paren ∷ frames s
frames (arguments w p s) = frame.Arguments p ∷ frames s
frames (predicate b s) = frame.Predicate (takes_more b) ∷ frames s
frames (condition p s) = frame.Condition ∷ frames s
frames (branch p c q s) = frame.Branch ∷ frames s
frames (otherwise p c q t r s) = frame.Otherwise ∷ frames s
frames (binding g w r l s) = frame.Binding (given_binder g) r ∷ given_frames g ++ frames s
frames (body bs l s) = body_frames bs ++ frames s

abbrev pub is_pattern : Stack → Bool
is_pattern (bottom p) = p
is_pattern (pending a l o s) = is_pattern s
is_pattern (more a s) = is_pattern s
is_pattern (signed o s) = is_pattern s
is_pattern (paren s) = is_pattern s
is_pattern (arguments w p s) = is_pattern s
is_pattern (predicate b s) = is_pattern s
is_pattern (condition p s) = is_pattern s
is_pattern (branch p c q s) = is_pattern s
is_pattern (otherwise p c q t r s) = is_pattern s
is_pattern (binding g w r l s) = is_pattern s
is_pattern (body bs l s) = is_pattern s

abbrev pub raw : List Frame → List Node → List Role → ℕ → Bool → Mode → Flat
raw fs ns rs d p m = record { frames = fs; nodes = ns; roles = rs; depth = d; pattern = p; mode = m }

-- a stack with these nodes, roles and mode
abbrev pub at : Stack → List Node → List Role → Mode → Flat
at s ns rs m = raw (frames s) ns rs (depth s) (is_pattern s) m

-- an operand on a stack
abbrev pub holding : Tree → Stack → Mode → Flat
holding t s m = at s (stack_nodes s ++ nodes t) (stack_roles s ++ roles (depth s) t) m

abbrev pub joined_of : Reached → Mode → Joined
joined_of r m = joined (holding r.operand r.under m) (operand_count r.operand)

-- ---- numbers

abbrev pub Small : ℕ → Type 0
Small n = n < 2 ^ 32

pub next_is : (n : ℕ) → Small n → next n ≡ suc n
next_is n h = omega arith

pub sub_is : (n : ℕ) → suc n - 1 ≡ n
sub_is n = omega arith

-- ---- one step of joining

pub joins_is : (b : Bool) (n : ℕ) (fr : Frame) (made : Node) (fs : List Frame) (f : Flat) (c : ℕ) (x y : Reached) (m : Mode) →
    flat.reach n fs (join (under f fs) fr made) (count_behind fr) ≡ joined_of x m → joined (under f (fr ∷ fs)) c ≡ joined_of y m →
    elim (when_some b made) [ None ↦ joined (under f (fr ∷ fs)) c | Some it ↦ flat.reach n fs (join (under f fs) fr it) (count_behind fr) ]
    ≡ joined_of (if b then x else y) m
joins_is true n fr made fs f c x y m p q = p
joins_is false n fr made fs f c x y m p q = q

pub same : (fs gs : List Frame) (ns ns' : List Node) (rs rs' : List Role) (d d' : ℕ) (p : Bool) (m : Mode) (c c' : ℕ) →
    ns ≡ ns' → rs ≡ rs' → d ≡ d' → c ≡ c' →
    joined (under (raw gs ns rs d p m) fs) c
    ≡ joined (raw fs ns' rs' d' p m) c'
same fs gs ns ns' rs rs' d d' p m c c' e f g h = cc

-- ---- the frames of bindings

bodies_all : (bs : Bindings) (n : ℕ) (fs gs : List Frame) (ns : List Node) (rs : List Role) (d b : ℕ) (p : Bool) (m : Mode) (c : ℕ) → nat_le n 1 ≡ true →
    d ≡ bound_depth b bs →
    flat.reach n (body_frames bs ++ fs) (raw gs ns rs d p m) c
    ≡ flat.reach n fs (raw fs (ns ++ name_nodes bs) rs b p m) 1
bodies_all (first k i w r l a) n fs gs ns rs d b p m c e f =
    let one : d - 1 ≡ b = omega (arith, f) in
    rw (e, flat.reach) (ap (λ (x : ℕ). flat.reach n fs (raw fs (ns ++ node.Bind k r ∷ []) rs x p m) 1) one)
bodies_all (also bs w r l a) n fs gs ns rs d b p m c e f =
    rw (e, flat.reach)
    (bodies_all bs n fs (body_frames bs ++ fs) (ns ++ node.Bind (binder_of bs) r ∷ []) rs (d - 1) b p m 1 e (omega (arith, f)) ∙ simp append_assoc)

bodies_none : (bs : Bindings) (n : ℕ) (fs : List Frame) (f : Flat) (c : ℕ) → nat_le n 1 ≡ false →
    flat.reach n (body_frames bs ++ fs) f c ≡ joined (under f (body_frames bs ++ fs)) c
bodies_none (first k i w r l a) n fs f c e = rw (e, flat.reach) refl
bodies_none (also bs w r l a) n fs f c e = rw (e, flat.reach) refl

body_is : (b : Bool) (bs : Bindings) (n : ℕ) (fs gs : List Frame) (ns : List Node) (rs : List Role) (d i : ℕ) (p : Bool) (m : Mode) (c : ℕ) (x y : Reached) →
    nat_le n 1 ≡ b → d ≡ bound_depth i bs →
    flat.reach n fs (raw fs (ns ++ name_nodes bs) rs i p m) 1 ≡ joined_of x m →
    joined (under (raw gs ns rs d p m) (body_frames bs ++ fs)) c ≡ joined_of y m →
    flat.reach n (body_frames bs ++ fs) (raw gs ns rs d p m) c ≡ joined_of (if b then x else y) m
body_is true bs n fs gs ns rs d i p m c x y e h f g = bodies_all bs n fs gs ns rs d i p m c e h ∙ f
body_is false bs n fs gs ns rs d i p m c x y e h f g = bodies_none bs n fs _ c e ∙ g

-- ---- no more operands than tokens

test_some : (xs ys : List Role) → 1 ≤ length ys → 1 ≤ length (xs ++ ys)
test_some xs ys h = rw length-append (omega arith)

tests : (n : ℕ) (t : Test) → 1 ≤ length (test_roles n t)
tests n (test.Named w p) = omega arith
tests n test.Any = omega arith
tests n (test.Wild p) = omega arith
tests n (test.Kind k p) = omega arith
tests n (test.KindOf k p w q) = omega arith

pub count_le : (n : ℕ) (t : Tree) → operand_count t ≤ length (roles n t)
count_le n (literal p) = omega arith
count_le n dot = omega arith
count_le n parent = omega arith
count_le n root = omega arith
count_le n (variable w p) = omega arith
count_le n (step pre t) = test_some (prefix_roles pre) (test_roles n t) (tests n t)
count_le n empty = omega arith
count_le n (parens e) = omega arith
count_le n (call w p) = omega arith
count_le n (called w p e) = omega arith
count_le n (filter b e) = simp length-append (omega arith)
count_le n (comma a b) = let h = count_le n a in simp length-append (omega arith)
count_le n (prefixed o e) = omega arith
count_le n (binary a l o b) = simp length-append (omega arith)
count_le n (cast e k p q w r optional) = simp length-append (omega arith)
count_le n (choice p c q t r e) = omega arith
count_le n (bind bs l e) = simp length-append (omega arith)

-- ---- joining

more_small : (xs ys zs : List Role) (rs : List Role) (k : ℕ) → rs ≡ xs ++ ys ++ role.Plain ∷ [] ++ zs → k ≤ length ys → Small (length rs) → Small k
more_small xs ys zs rs k e h b = let l = simp length-append at (ap length e) in omega arith

pub reach_is : (n : ℕ) (t : Tree) (s : Stack) (gs : List Frame) (ns : List Node) (rs : List Role) (d c : ℕ) (m : Mode) →
    ns ≡ stack_nodes s ++ nodes t → rs ≡ stack_roles s ++ roles (depth s) t → d ≡ depth s → c ≡ operand_count t → Small (length rs) →
    flat.reach n (frames s) (raw gs ns rs d (is_pattern s) m) c ≡ joined_of (reach n t s) m
reach_is n t (bottom p) gs ns rs d c m e f g h b = same _ gs ns _ rs _ d _ _ m c _ e f g h
reach_is n t (pending a l o s) gs ns rs d c m e f g h b =
    joins_is (nat_le n (level o)) n (frame.Pending o) (node.Binary o) (frames s) (raw gs ns rs d (is_pattern s) m) c (reach n (binary a l o t) s) (reached t (pending a l o s)) m
    (reach_is n (binary a l o t) s (frames s) (ns ++ node.Binary o ∷ []) rs d 1 m (rw e (simp append_assoc)) (f ∙ simp append_assoc) g refl b)
    (same (frames (pending a l o s)) gs ns _ rs _ d _ _ m c _ e f g h)
reach_is n t (more a s) gs ns rs d c m e f g h b =
    joins_is (nat_le n 0) n (frame.More (operand_count a)) node.Comma (frames s) (raw gs ns rs d (is_pattern s) m) c (reach n (comma a t) s) (reached t (more a s)) m
    (reach_is n (comma a t) s (frames s) (ns ++ node.Comma ∷ []) rs d (next (operand_count a)) m (rw e (simp append_assoc)) (f ∙ simp append_assoc) g
    (next_is (operand_count a) (more_small (stack_roles s) (roles (depth s) a) (roles (depth s) t) rs (operand_count a) f (count_le (depth s) a) b)) b)
    (same (frames (more a s)) gs ns _ rs _ d _ _ m c _ e f g h)
reach_is n t (signed o s) gs ns rs d c m e f g h b =
    joins_is (nat_le n (prefix_level o)) n (frame.Signed o) (node.Prefix o) (frames s) (raw gs ns rs d (is_pattern s) m) c (reach n (prefixed o t) s) (reached t (signed o s)) m
    (reach_is n (prefixed o t) s (frames s) (ns ++ node.Prefix o ∷ []) rs d 1 m (rw e (simp append_assoc)) (f ∙ simp append_assoc) g refl b)
    (same (frames (signed o s)) gs ns _ rs _ d _ _ m c _ e f g h)
reach_is n t (paren s) gs ns rs d c m e f g h b = same (frames (paren s)) gs ns _ rs _ d _ _ m c _ e f g h
reach_is n t (arguments w p s) gs ns rs d c m e f g h b = same (frames (arguments w p s)) gs ns _ rs _ d _ _ m c _ e f g h
reach_is n t (predicate i s) gs ns rs d c m e f g h b = same (frames (predicate i s)) gs ns _ rs _ d _ _ m c _ e f g h
reach_is n t (condition p s) gs ns rs d c m e f g h b = same (frames (condition p s)) gs ns _ rs _ d _ _ m c _ e f g h
reach_is n t (branch p i q s) gs ns rs d c m e f g h b = same (frames (branch p i q s)) gs ns _ rs _ d _ _ m c _ e f g h
reach_is n t (otherwise p i q u r s) gs ns rs d c m e f g h b =
    joins_is (nat_le n 1) n frame.Otherwise node.Choice (frames s) (raw gs ns rs d (is_pattern s) m) c (reach n (choice p i q u r t) s) (reached t (otherwise p i q u r s)) m
    (reach_is n (choice p i q u r t) s (frames s) (ns ++ node.Choice ∷ []) rs (d - 1) 1 m (rw e (simp append_assoc)) (f ∙ simp append_assoc) (omega arith) refl b)
    (same (frames (otherwise p i q u r s)) gs ns _ rs _ d _ _ m c _ e f g h)
reach_is n t (binding i w r l s) gs ns rs d c m e f g h b = same (frames (binding i w r l s)) gs ns _ rs _ d _ _ m c _ e f g h
reach_is n t (body bs l s) gs ns rs d c m e f g h b =
    body_is (nat_le n 1) bs n (frames s) gs ns rs d (depth s) (is_pattern s) m c (reach n (bind bs l t) s) (reached t (body bs l s)) refl g
    (reach_is n (bind bs l t) s (frames s) (ns ++ name_nodes bs) rs (depth s) 1 m (rw e (simp append_assoc)) (f ∙ simp append_assoc) refl refl b)
    (same (frames (body bs l s)) gs ns _ rs _ d _ _ m c _ e f g h)
