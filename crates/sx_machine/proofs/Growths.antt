-- More of a document only adds to what was given.
use Rattle.std.proofs.Common.{◌≡◌, ℕ, zero, suc, Bool, true, false, List, [], ◌∷◌, ◌++◌, Option, Some, None, refl, ap, ap₂, sym, ◌∙◌, subst, append_assoc, append-nil}
use Rattle.sx_atoms.specs.declared.error_codes.Code.{Code}
use Rattle.sx_named.specs.Named.{Name}
use Rattle.sx_tree.specs.Tree.{Document, TreeEvent, starts, ends, says, instructs, closes, push, tree_of}
use Rattle.sx_tree.proofs.Open.{tree_of-snoc}
use Rattle.sx_lines.specs.declared.events.Built.{Built}
use Rattle.sx_build.specs.Asked.{Asked}
use Rattle.sx_build.specs.Build.{Build, error_of}
use Rattle.sx_machine.specs.declared.session.Job.TheVariants as job
use Rattle.sx_machine.specs.Body.{Body}
use Rattle.sx_machine.specs.Run.{Output, Ending, done, waits, stops, gives, applied, meaning, is_done, ending_with, Result, result_of}
use Rattle.sx_machine.specs.Plan.{tasks, reacts}
use Rattle.sx_machine.specs.Growth.{ClosesWhole, MayCome, MayAllCome, GrownFrom, IsGrown}
use Rattle.sx_build.proofs.Later.{grows, error_stays, stops as stays_built}
use Rattle.sx_machine.proofs.Outs.{out, resumed, resume, IsGoing, IsSettled}
use Rattle.sx_machine.proofs.Bodies.{IsGood}
use Rattle.sx_machine.proofs.Steps.{GoesOn, pushed, step, settled, going, closed}

-- ---- what is asked for

-- what may become of what is asked for, by where it ends
abbrev AskedFrom : Ending → Output → Output → Type 0
AskedFrom done a b = b ≡ a
AskedFrom waits a b = (more : List Asked) × (b.raw ≡ a.raw ++ more)
AskedFrom (stops c) a b = b ≡ a

-- what was asked for stays, and an end other than a wait is final
abbrev pub IsAskedOn : Output → Output → Type 0
IsAskedOn a b = AskedFrom a.ending a b

resumed_at : (r : List Asked) (g : Ending) (d : Output) → AskedFrom g (out r g) (resumed r g d)
resumed_at r done d = refl
resumed_at r waits d = (d.raw, refl)
resumed_at r (stops c) d = refl

-- what goes on has grown
on_resume : (a d : Output) → IsAskedOn a (resume a d)
on_resume a d = resumed_at a.raw a.ending d

same_at : (r : List Asked) (g : Ending) → AskedFrom g (out r g) (out r g)
same_at r done = refl
same_at r waits = ([], sym (append-nil r))
same_at r (stops c) = refl

on_same : (a : Output) → IsAskedOn a a
on_same a = same_at a.raw a.ending

equal_asked : (b c : Output) → c ≡ b → (more : List Asked) × (c.raw ≡ b.raw ++ more)
equal_asked b c e = ([], ap (λ (x : Output). x.raw) e ∙ sym (append-nil b.raw))

from_at : (r : List Asked) (g : Ending) (c : Output) → AskedFrom g (out r g) c → (more : List Asked) × (c.raw ≡ r ++ more)
from_at r done c h = equal_asked (out r done) c h
from_at r waits c h = h
from_at r (stops k) c h = equal_asked (out r (stops k)) c h

then_at : (r : List Asked) (g : Ending) (b c : Output) → AskedFrom g (out r g) b → IsAskedOn b c → AskedFrom g (out r g) c
then_at r done b c h k = subst (λ (x : Output). IsAskedOn x c) h k
then_at r waits b c h k =
    let more = from_at b.raw b.ending c k in
    (h.0 ++ more.0, more.1 ∙ ap (λ (x : List Asked). x ++ more.0) h.1 ∙ append_assoc r h.0 more.0)
then_at r (stops e) b c h k = subst (λ (x : Output). IsAskedOn x c) h k

on_then : (a b c : Output) → IsAskedOn a b → IsAskedOn b c → IsAskedOn a c
on_then a b c h k = then_at a.raw a.ending b c h k

-- ---- what is built of it

abbrev with : List Built → Ending → Result
with built ending = record { built = built; ending = ending }

same_result : (built : List Built) (g : Ending) (r : Result) → r ≡ with built g → GrownFrom g (with built g) r
same_result built done r e = e
same_result built waits r e = ([], ap (λ (x : Result). x.built) e ∙ sym (append-nil built))
same_result built (stops c) r e = e

-- of what waits, by its error
built_on : (r : List Asked) (found : Option Code) (b : Output) (more : List Asked) → error_of r ≡ found → b.raw ≡ r ++ more
    → GrownFrom (ending_with found waits) (with (Build r false) (ending_with found waits)) (result_of b)
built_on r None b more none is =
    let rest = grows r more (is_done b.ending) in
    (rest.0, ap (λ (x : List Asked). Build x (is_done b.ending)) is ∙ rest.1)
built_on r (Some c) b more found is =
    ap₂ with
    (ap (λ (x : List Asked). Build x (is_done b.ending)) is ∙ stays_built r more (is_done b.ending) c found)
    (ap (λ (o : Option Code). ending_with o b.ending) (ap error_of is ∙ error_stays r more c found))

built_at : (r : List Asked) (g : Ending) (b : Output) → AskedFrom g (out r g) b → IsGrown (result_of (out r g)) (result_of b)
built_at r done b h = same_result (Build r true) (ending_with (error_of r) done) (result_of b) (ap result_of h)
built_at r waits b h = built_on r (error_of r) b h.0 refl h.1
built_at r (stops c) b h = same_result (Build r false) (ending_with (error_of r) (stops c)) (result_of b) (ap result_of h)

-- the result grows with what is asked for
pub result_grown : (a b : Output) → IsAskedOn a b → IsGrown (result_of a) (result_of b)
result_grown a b h = built_at a.raw a.ending b h

-- ---- the meaning

module _ {E : Type 0} (is_copying : Bool) (chosen : E → Body Name) (good : (e : E) → IsGood (chosen e)) where
  goes_on : (left : ℕ) (d : Document E) (h : TreeEvent E) → d.is_open ≡ true → GoesOn h →
      IsAskedOn (applied is_copying chosen left d.is_open d.content) (applied is_copying chosen left d.is_open (pushed d.content h))
  goes_on left d h o g =
      let more : Output = reacts is_copying chosen (job.Apply left) (tasks chosen (job.Apply left) d.content) h in
      subst (λ (b : Bool). IsAskedOn (applied is_copying chosen left b d.content) (applied is_copying chosen left b (pushed d.content h))) (sym o)
      (subst (λ (x : Output). IsAskedOn (applied is_copying chosen left true d.content) x) (sym (step is_copying chosen good d.content (job.Apply left) h g))
      (on_resume (applied is_copying chosen left true d.content) more))

  -- what happens next only adds
  pub on_push : (invocations : ℕ) (d : Document E) (h : TreeEvent E) → d.is_open ≡ true → ClosesWhole d h
      → IsAskedOn (meaning is_copying chosen invocations d) (meaning is_copying chosen invocations (push d h))
  on_push zero d h o w = refl
  on_push (suc left) d (starts e) o w = goes_on left d (starts e) o tt
  on_push (suc left) d ends o w = goes_on left d ends o tt
  on_push (suc left) d (says s) o w = goes_on left d (says s) o tt
  on_push (suc left) d (instructs target c) o w = goes_on left d (instructs target c) o tt
  on_push (suc left) d closes o w =
      let x : Output = applied is_copying chosen left true d.content in
      subst (λ (b : Bool). IsAskedOn (applied is_copying chosen left b d.content) (applied is_copying chosen left false d.content)) (sym o)
      (subst (λ (y : Output). IsAskedOn x y) (sym (closed is_copying chosen good left d.content w)) (on_resume x (gives [])))

  abbrev means : ℕ → List (TreeEvent E) → Output
  means invocations p = meaning is_copying chosen invocations (tree_of p)

  -- one more behind those that happened
  on_one : (invocations : ℕ) (p : List (TreeEvent E)) (h : TreeEvent E) → MayCome p h → IsAskedOn (means invocations p) (means invocations (p ++ h ∷ []))
  on_one invocations p h may =
      subst (λ (d : Document E). IsAskedOn (means invocations p) (meaning is_copying chosen invocations d)) (sym (tree_of-snoc p h))
      (on_push invocations (tree_of p) h may.not_closed may.whole)

  -- all of these behind them
  pub on_all : (invocations : ℕ) (p hs : List (TreeEvent E)) → MayAllCome p hs → IsAskedOn (means invocations p) (means invocations (p ++ hs))
  on_all invocations p [] may = subst (λ (l : List (TreeEvent E)). IsAskedOn (means invocations p) (means invocations l)) (sym (append-nil p)) (on_same (means invocations p))
  on_all invocations p (h ∷ hs) may =
      on_then (means invocations p) (means invocations (p ++ h ∷ [])) (means invocations (p ++ h ∷ hs))
      (on_one invocations p h may.0)
      (subst (λ (l : List (TreeEvent E)). IsAskedOn (means invocations (p ++ h ∷ [])) (means invocations l)) (append_assoc p (h ∷ []) hs)
      (on_all invocations (p ++ h ∷ []) hs may.1))

  -- on an open document it is never done
  pub open_going : (invocations : ℕ) (d : Document E) → d.is_open ≡ true → IsGoing (meaning is_copying chosen invocations d)
  open_going zero d o = tt
  open_going (suc left) d o = subst (λ (b : Bool). IsGoing (applied is_copying chosen left b d.content)) (sym o) (going is_copying chosen good left d.content)

  -- on a closed document it does not wait
  pub closed_settled : (invocations : ℕ) (d : Document E) → d.is_open ≡ false → IsSettled (meaning is_copying chosen invocations d)
  closed_settled zero d o = tt
  closed_settled (suc left) d o =
      subst (λ (b : Bool). IsSettled (applied is_copying chosen left b d.content)) (sym o) (settled is_copying chosen good d.content (job.Apply left))
