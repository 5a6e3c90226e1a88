-- The tasks of the open elements after one happening more.
use Rattle.std.proofs.Common.{◌≡◌, ℕ, ◌<◌, ◌-◌, Bool, true, false, cond, List, [], ◌∷◌, ◌++◌, length, map, get_or, refl, ap, sym, ◌∙◌, arith}
use Rattle.sx_tree.specs.Tree.{Forest, none, text, instruction, element, has_open, first_node, starts, says, instructs, push_node, push_end}
use Rattle.sx_machine.specs.declared.plans.Rule.{Rule}
use Rattle.sx_machine.specs.declared.session.Frame.{Frame}
use Rattle.sx_machine.specs.declared.session.Job.{Job}
use Rattle.sx_machine.specs.Body.{Body}
use Rattle.sx_named.specs.Named.{Name}
use Rattle.sx_machine.specs.Plan.{Task, entered, tasks, closing_task, last_closing, last_job, ending_of_tasks, task_of}
use Rattle.sx_names.specs.Numbering.{NameTable}

-- all but the last
abbrev front : Task → List Task → List Task
front t [] = []
front t (u ∷ ts) = t ∷ front u ts

abbrev all_but_last : List Task → List Task
all_but_last [] = []
all_but_last (t ∷ ts) = front t ts

front-snoc : (t u : Task) (ts : List Task) → front t (ts ++ u ∷ []) ≡ t ∷ ts
front-snoc t u [] = refl
front-snoc t u (v ∷ ts) = ap (λ (xs : List Task). t ∷ xs) (front-snoc v u ts)

all_but_last-snoc : (ts : List Task) (u : Task) → all_but_last (ts ++ u ∷ []) ≡ ts
all_but_last-snoc [] u = refl
all_but_last-snoc (t ∷ ts) u = front-snoc t u ts

pub last_job-snoc : (j : Job) (ts : List Task) (u : Task) → last_job j (ts ++ u ∷ []) ≡ u.job
last_job-snoc j [] u = refl
last_job-snoc j (t ∷ ts) u = last_job-snoc t.job ts u

last_closing-snoc : (t u : Task) (ts : List Task) → last_closing t (ts ++ u ∷ []) ≡ closing_task u
last_closing-snoc t u [] = refl
last_closing-snoc t u (v ∷ ts) = last_closing-snoc v u ts

pub ending-snoc : (ts : List Task) (u : Task) → ending_of_tasks (ts ++ u ∷ []) ≡ closing_task u
ending-snoc [] u = refl
ending-snoc (t ∷ ts) u = last_closing-snoc t u ts

module _ {E : Type 0} (chosen : E → Body Name) where
  pub tasks_start : (f : Forest E) (j : Job) (e : E) → tasks chosen j (push_node f (first_node (starts e))) ≡ tasks chosen j f ++ entered chosen (last_job j (tasks chosen j f)) e ∷ []
  tasks_start none j e = refl
  tasks_start (text s rest) j e = tasks_start rest j e
  tasks_start (instruction target c rest) j e = tasks_start rest j e
  tasks_start (element d true kids rest) j e = ap (λ (ts : List Task). entered chosen j d ∷ ts) (tasks_start kids (entered chosen j d).job e)
  tasks_start (element d false kids rest) j e = tasks_start rest j e

  pub tasks_text : (f : Forest E) (j : Job) (s : List ℕ) → tasks chosen j (push_node f (first_node (says s))) ≡ tasks chosen j f
  tasks_text none j s = refl
  tasks_text (text t rest) j s = tasks_text rest j s
  tasks_text (instruction target c rest) j s = tasks_text rest j s
  tasks_text (element d true kids rest) j s = ap (λ (ts : List Task). entered chosen j d ∷ ts) (tasks_text kids (entered chosen j d).job s)
  tasks_text (element d false kids rest) j s = tasks_text rest j s

  pub tasks_instruction : (f : Forest E) (j : Job) (t d : List ℕ) → tasks chosen j (push_node f (first_node (instructs t d))) ≡ tasks chosen j f
  tasks_instruction none j t d = refl
  tasks_instruction (text s rest) j t d = tasks_instruction rest j t d
  tasks_instruction (instruction target c rest) j t d = tasks_instruction rest j t d
  tasks_instruction (element e true kids rest) j t d = ap (λ (ts : List Task). entered chosen j e ∷ ts) (tasks_instruction kids (entered chosen j e).job t d)
  tasks_instruction (element e false kids rest) j t d = tasks_instruction rest j t d

  none_open : (b : Bool) (t : Task) (i : Job) (kids : Forest E) → has_open kids ≡ b → b ≡ false → [] ≡ front t (tasks chosen i kids)
  none_open b t i none p q = refl
  none_open b t i (text s rest) p q = none_open b t i rest p q
  none_open b t i (instruction target c rest) p q = none_open b t i rest p q
  none_open b t i (element e true kids rest) p q = absurd (cc)
  none_open b t i (element e false kids rest) p q = none_open b t i rest p q

  one_open : (t : Task) (i : Job) (kids : Forest E) → has_open kids ≡ true → front t (tasks chosen i kids) ≡ t ∷ all_but_last (tasks chosen i kids)
  one_open t i none p = absurd (cc)
  one_open t i (text s rest) p = one_open t i rest p
  one_open t i (instruction target c rest) p = one_open t i rest p
  one_open t i (element e true kids rest) p = refl
  one_open t i (element e false kids rest) p = one_open t i rest p

  end_at : (b : Bool) (j : Job) (e : E) (kids : Forest E) → has_open kids ≡ b →
      tasks chosen (entered chosen j e).job (push_end kids) ≡ all_but_last (tasks chosen (entered chosen j e).job kids) →
      tasks chosen j (cond b (element e true (push_end kids) none) (element e false kids none)) ≡ front (entered chosen j e) (tasks chosen (entered chosen j e).job kids)
  end_at true j e kids p h = ap (λ (ts : List Task). entered chosen j e ∷ ts) h ∙ sym (one_open (entered chosen j e) (entered chosen j e).job kids p)
  end_at false j e kids p h = none_open false (entered chosen j e) (entered chosen j e).job kids p refl

  ends_at : (f : Forest E) (j : Job) → tasks chosen j (push_end f) ≡ all_but_last (tasks chosen j f)
  ends_at none j = refl
  ends_at (text s rest) j = ends_at rest j
  ends_at (instruction target c rest) j = ends_at rest j
  ends_at (element e true kids rest) j = end_at (has_open kids) j e kids refl (ends_at kids (entered chosen j e).job)
  ends_at (element e false kids rest) j = ends_at rest j

  pub tasks_end : (f : Forest E) (j : Job) (ts : List Task) (u : Task) → tasks chosen j f ≡ ts ++ u ∷ [] → tasks chosen j (push_end f) ≡ ts
  tasks_end f j ts u e = ends_at f j ∙ ap all_but_last e ∙ all_but_last-snoc ts u

  pub tasks_end_none : (f : Forest E) (j : Job) → tasks chosen j f ≡ [] → tasks chosen j (push_end f) ≡ []
  tasks_end_none f j e = ends_at f j ∙ ap all_but_last e

last_at : (names : NameTable) (rules : List Rule) (j : Job) (f d : Frame) (fs : List Frame) → (get_or (f ∷ fs) (length fs) d).job ≡ last_job j (map (task_of names rules) (f ∷ fs))
last_at names rules j f d [] = refl
last_at names rules j f d (g ∷ fs) = last_at names rules f.job g d fs

-- the job of the last frame
pub last_job-last : (names : NameTable) (rules : List Rule) (j : Job) (fs : List Frame) (x : Frame) → 0 < length fs → x ≡ get_or fs (length fs - 1) x → x.job ≡ last_job j (map (task_of names rules) fs)
last_job-last names rules j [] x h e = absurd (omega arith)
last_job-last names rules j (f ∷ fs) x h e =
    let k : length (f ∷ fs) - 1 ≡ length fs = omega arith in
    ap (λ (g : Frame). g.job) (e ∙ ap (λ (i : ℕ). get_or (f ∷ fs) i x) k) ∙ last_at names rules j f x fs
