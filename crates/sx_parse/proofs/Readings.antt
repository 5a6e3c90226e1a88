-- What the code answers for a list of tokens.
use Rattle.std.proofs.Common.{◌≡◌, ℕ, suc, ◌^◌, ◌<◌, Bool, true, false, if◌then◌else◌, List, [], ◌∷◌, ◌++◌, length, Option, Some, None, Err, refl, ap, subst, sym, ◌∙◌, arith, append_assoc, append-nil, length-append}
use Rattle.sx_parse.specs.declared.lexemes.Lexeme.{Lexeme}
use Rattle.sx_parse.specs.declared.lexemes.StepPrefix.{StepPrefix}
use Rattle.sx_parse.specs.declared.lexemes.Word.{Word}
use Rattle.sx_parse.specs.declared.lexemes.Test.TheVariants as test
use Rattle.sx_parse.specs.declared.nodes.Node.TheVariants as node
use Rattle.sx_parse.specs.declared.roles.Role.{Role}
use Rattle.sx_parse.specs.declared.roles.Role.TheVariants as role
use Rattle.sx_parse.specs.declared.frames.Mode.{Mode}
use Rattle.sx_parse.specs.declared.frames.Mode.TheVariants as mode
use Rattle.sx_parse.specs.declared.reader.Reading.{Reading}
use Rattle.sx_parse.specs.Grammar.{Tree, root, step, first, also}
use Rattle.sx_parse.specs.Nodes.{nodes}
use Rattle.sx_parse.specs.Roles.{roles, prefix_roles, operand_count}
use Rattle.sx_parse.specs.Standing.{stack_roles, stack_nodes, state_roles}
use Rattle.sx_parse.specs.Machine.{Stack, body, State, slash, named, have, start, in_pattern, floor, reaches, reach, read, whole_under, whole, ended}
use Rattle.sx_parse.specs.Reading.{IsReadAs}
use Rattle.sx_parse.specs.Flat as flat
use Rattle.sx_parse.specs.Flat.{Joined, Outcome}
use Rattle.sx_parse.proofs.Reached.{shape_of, frames, at, holding, Small}
use Rattle.sx_parse.proofs.Kept.{kept, told}
use Rattle.sx_parse.proofs.Following.{read_roles, holding_reach, kept_roles}
use Rattle.sx_parse.proofs.Simulation.{root_is, read_is}
use Rattle.sx_parse.proofs.Behind.{after, then_read, Behind, behind_counts, stands_whole}
use Rattle.sx_parse.proofs.Exact.{derived}
use Rattle.sx_parse.proofs.Final.{stopped_at, stopped_end}

-- ---- the end

abbrev pub told_end : ℕ → List Role → Option Tree → Reading
told_end k rs None = flat.stopped k rs
told_end k rs (Some t) = record { nodes = nodes t; roles = roles 0 t; fault = None }

whole_is : (k : ℕ) (t : Tree) (s : Stack) (m : Mode) →
    flat.answer k (flat.whole_under (frames s) (holding t s m)) ≡ told_end k (read_roles t s) (whole_under t s)
whole_is k t (body (first h p w r i a) l s) m = refl
whole_is k t (body (also bs w r i a) l s) m = refl
whole_is k t s m = refl

whole_after : (k : ℕ) (t : Tree) (s : Stack) (m : Mode) → Small (length (read_roles t s)) →
    flat.answer k (flat.whole (flat.joined_at 0 (holding t s m) (operand_count t)).flat) ≡ told_end k (read_roles t s) (whole (reach 0 t s))
whole_after k t s m h =
    ap (λ (j : Joined). flat.answer k (flat.whole j.flat)) (holding_reach 0 t s m h)
    ∙ whole_is k (reach 0 t s).operand (reach 0 t s).under m
    ∙ ap (λ (rs : List Role). told_end k rs (whole (reach 0 t s))) (kept_roles 0 t s h)

end_step_is : (k : ℕ) (pre : StepPrefix) (w : Word) (p : ℕ) (s : Stack) → Small (length (state_roles (named pre w p s))) →
    flat.answer k (flat.end_step (kept (named pre w p s)) pre w p)
    ≡ told_end k (state_roles (named pre w p s)) (whole (reach 0 (step pre (test.Named w p)) s))
end_step_is k pre w p s h =
    let t = step pre (test.Named w p) in
    let e = append_assoc (stack_roles s) (prefix_roles pre) (role.Name ∷ []) in
    let i = rw e at h in
    ap (λ (rs : List Role). flat.answer k (flat.whole (flat.joined_at 0 (at s (stack_nodes s ++ node.Step pre (test.Named w p) ∷ []) rs (mode.Named pre w p)) 1).flat)) e
    ∙ whole_after k t s (mode.Named pre w p) i
    ∙ ap (λ (rs : List Role). told_end k rs (whole (reach 0 t s))) (sym e)

abbrev refused : List Role → Outcome
refused rs = Err rs

ended_if : (k : ℕ) (a b : Bool) (rs : List Role) (x : Outcome) (y : Option Tree) → a ≡ b → flat.answer k x ≡ told_end k rs y →
    flat.answer k (if a then x else refused rs) ≡ told_end k rs (if b then y else None)
ended_if k a true rs x y e f = rw e f
ended_if k a false rs x y e f = rw e refl

pub ended_is : (k : ℕ) (s : State) → Small (length (state_roles s)) → flat.answer k (flat.ended (kept s)) ≡ told_end k (state_roles s) (ended s)
ended_is k (have t s) h = whole_after k t s (mode.Have (shape_of t) (operand_count t)) h
ended_is k (named pre w p s) h = end_step_is k pre w p s h
ended_is k (slash s) h = ended_if k _ (reaches (in_pattern s) (floor s) root) _ _ _ (root_is s) (whole_after k root s mode.Slash h)
ended_is k s h = refl

-- ---- the tokens

after_step : (o : Option State) (ts ls : List Lexeme) (u : State) → ((next : State) → after next ts ≡ Some u → after next (ts ++ ls) ≡ after u ls) →
    then_read o (λ next. after next ts) ≡ Some u → then_read o (λ next. after next (ts ++ ls)) ≡ after u ls
after_step None ts ls u f e = absurd cc
after_step (Some next) ts ls u f e = f next e

after_more : (s : State) (ts ls : List Lexeme) (u : State) → after s ts ≡ Some u → after s (ts ++ ls) ≡ after u ls
after_more s [] ls u e = let same : s ≡ u = cc in ap (λ (x : State). after x ls) same
after_more s (t ∷ ts) ls u e = after_step (read s t) ts ls u (λ next f. after_more next ts ls u f) e

behind_more : (p : Bool) (ts : List Lexeme) (l : Lexeme) (s next : State) → Behind p ts s → read s l ≡ Some next → Behind p (ts ++ l ∷ []) next
behind_more p ts l s next b e = after_more (start p) ts (l ∷ []) s b ∙ ap (λ (o : Option State). then_read o (λ x. after x [])) e

-- the answer is what reading gives
abbrev pub IsAnswer : Bool → List Lexeme → Reading → Type 0
IsAnswer p ts r = IsReadAs p ts r.nodes r.roles r.fault

end_answers : (p : Bool) (ts : List Lexeme) (s : State) (o : Option Tree) → Behind p ts s → ended s ≡ o → IsAnswer p ts (told_end (length ts) (state_roles s) o)
end_answers p ts s None b e = stopped_end p ts s b e
end_answers p ts s (Some t) b e =
    record { tree = t; derives = (stands_whole p ts s (derived p) b t e).derives; nodes_are = refl; roles_are = refl }

small_behind : (p : Bool) (ts ls : List Lexeme) (s : State) → Behind p ts s → length (ts ++ ls) < 2 ^ 32 → Small (length (state_roles s))
small_behind p ts ls s b h = let e = behind_counts p ts s b in let i = simp length-append at h in omega arith

token_answers : (p : Bool) (ts : List Lexeme) (l : Lexeme) (ls : List Lexeme) (s : State) (o : Option State) → Behind p ts s → read s l ≡ o →
    ((next : State) → read s l ≡ Some next → IsAnswer p (ts ++ l ∷ ls) (flat.run (kept next) (suc (length ts)) ls)) →
    IsAnswer p (ts ++ l ∷ ls) (flat.and_then (length ts) (told (state_roles s) o) (λ x. flat.run x (suc (length ts)) ls))
token_answers p ts l ls s None b e f = stopped_at p ts l ls s b e
token_answers p ts l ls s (Some next) b e f = f next e

run_answers : (p : Bool) (ts ls : List Lexeme) (s : State) → Behind p ts s → length (ts ++ ls) < 2 ^ 32 →
    IsAnswer p (ts ++ ls) (flat.run (kept s) (length ts) ls)
run_answers p ts [] s b h =
    let e = ended_is (length ts) s (small_behind p ts [] s b h) in
    rw (append-nil, e) (end_answers p ts s (ended s) b refl)
run_answers p ts (l ∷ ls) s b h =
    let e = read_is s l (small_behind p ts (l ∷ ls) s b h) in
    let g = append_assoc ts (l ∷ []) ls in
    let count : length (ts ++ l ∷ []) ≡ suc (length ts) = rw length-append (omega arith) in
    let F : Outcome → Type 0 = λ o. IsAnswer p (ts ++ l ∷ ls) (flat.and_then (length ts) o (λ x. flat.run x (suc (length ts)) ls)) in
    subst F (sym e)
    (token_answers p ts l ls s (read s l) b refl
    (λ next r.
    let G : List Lexeme → ℕ → Type 0 = λ us n. IsAnswer p us (flat.run (kept next) n ls) in
    subst (λ (us : List Lexeme). G us (suc (length ts))) g
    (subst (λ (n : ℕ). G ((ts ++ l ∷ []) ++ ls) n) count
    (run_answers p (ts ++ l ∷ []) ls next (behind_more p ts l s next b r) (rw g h)))))

pub reads : (p : Bool) (ts : List Lexeme) → length ts < 2 ^ 32 → IsAnswer p ts (flat.run (flat.start p) 0 ts)
reads p ts h = run_answers p [] ts (start p) refl h

pub read_as : (p : Bool) (ts : List Lexeme) → length ts < 2 ^ 32 → (r : Reading) → r ≡ flat.run (flat.start p) 0 ts → IsAnswer p ts r
read_as p ts h r e = let f = sym e in subst (IsAnswer p ts) f (reads p ts h)
