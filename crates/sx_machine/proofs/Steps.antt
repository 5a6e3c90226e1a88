-- One happening more, on the open tree and in the tasks of the open elements.
use Rattle.std.proofs.Common.{◌≡◌, ℕ, zero, suc, Bool, true, false, cond, List, [], ◌∷◌, refl, ap, sym, ◌∙◌, subst}
use Rattle.sx_tree.specs.Tree.{TreeEvent, starts, ends, says, instructs, closes, Forest, none, text, instruction, element, has_open, first_node, push_node, push_end}
use Rattle.sx_named.specs.Named.{Name}
use Rattle.sx_machine.specs.declared.session.Job.{Job}
use Rattle.sx_machine.specs.declared.session.Job.TheVariants as job
use Rattle.sx_machine.specs.Body.{Body}
use Rattle.sx_machine.specs.Run.{Output, gives, next, invoked, applied, element_node, text_node, instruction_node}
use Rattle.sx_machine.specs.Plan.{Plan, still, looking, Task, plan_of, before_of, job_of, after_of, job_content, entered, first, tasks, reacts, closing_task, last_closing, last_job, ending_of_tasks, saying, instructing}
use Rattle.sx_machine.proofs.Outs.{waiting, resume, IsGoing, IsSettled, next-assoc, going-next, next_going, next_settled, resume_going, resume_behind, end_here, next-nil}
use Rattle.sx_machine.proofs.Bodies.{IsGood}
use Rattle.sx_machine.proofs.Splits.{mean, split, plan_settled}

-- a task with no work for the children has nothing behind them
abbrev IsSound : Task → Type 0
IsSound t = t.job ≡ job.Skip → t.after ≡ gives []

-- nodes after what happens in them
abbrev pub pushed : {E : Type 0} → Forest E → TreeEvent E → Forest E
pushed f (starts e) = push_node f (first_node (starts e))
pushed f ends = push_end f
pushed f (says s) = push_node f (first_node (says s))
pushed f (instructs target c) = push_node f (first_node (instructs target c))
pushed f closes = f

-- it is not the close
abbrev pub GoesOn : {E : Type 0} → TreeEvent E → Type 0
GoesOn (starts e) = Unit {0}
GoesOn ends = Unit {0}
GoesOn (says s) = Unit {0}
GoesOn (instructs target c) = Unit {0}
GoesOn closes = ⊥

-- a plan, in the words of a task
in_three : (left : ℕ) (p : Plan) (k : Output) (c : Job → Output) → c (job.Apply left) ≡ k → c job.Skip ≡ gives [] →
    mean p k ≡ next (before_of p) (next (c (job_of left p)) (after_of p))
in_three left (still a) k c e z = sym (next-nil a) ∙ ap (λ (x : Output). next a (next x (gives []))) (sym z)
in_three left (looking a b) k c e z = ap (λ (x : Output). next a (next x b)) (sym e)

sound_at : (left : ℕ) (p : Plan) → job_of left p ≡ job.Skip → after_of p ≡ gives []
sound_at left (still a) e = refl
sound_at left (looking a b) e = absurd (cc)

module _ {E : Type 0} (is_copying : Bool) (chosen : E → Body Name) (good : (e : E) → IsGood (chosen e)) where
  -- what comes of an element behind what comes first
  abbrev tail : Task → Bool → Forest E → Output
  tail t o kids = next (job_content is_copying chosen t.job o kids) t.after

  -- a template at an element, in three parts
  at_element : (left : ℕ) (e : E) (o : Bool) (kids : Forest E) →
      invoked is_copying chosen left (element_node e o kids) ≡ next (first chosen (job.Apply left) e) (tail (entered chosen (job.Apply left) e) o kids)
  at_element zero e o kids = refl
  at_element (suc left) e o kids =
      split left (applied is_copying chosen left o kids) (chosen e) (good e)
      ∙ in_three left (plan_of left (chosen e)) (applied is_copying chosen left o kids) (λ (j : Job). job_content is_copying chosen j o kids) refl refl

  entered_sound : (j : Job) (e : E) → IsSound (entered chosen j e)
  entered_sound job.Skip e = λ _. refl
  entered_sound (job.Apply zero) e = λ _. refl
  entered_sound (job.Apply (suc left)) e = λ z. sound_at left (plan_of left (chosen e)) z

  first_settled : (j : Job) (e : E) → IsSettled (first chosen j e)
  first_settled job.Skip e = tt
  first_settled (job.Apply zero) e = tt
  first_settled (job.Apply (suc left)) e = (plan_settled left (chosen e)).0

  after_settled : (j : Job) (e : E) → IsSettled (entered chosen j e).after
  after_settled job.Skip e = tt
  after_settled (job.Apply zero) e = tt
  after_settled (job.Apply (suc left)) e = (plan_settled left (chosen e)).1

  text_settled : (left : ℕ) (s : List ℕ) → IsSettled (invoked is_copying chosen left (text_node s))
  text_settled zero s = tt
  text_settled (suc left) s = tt

  instruction_settled : (left : ℕ) (target c : List ℕ) → IsSettled (invoked is_copying chosen left (instruction_node target c))
  instruction_settled zero target c = tt
  instruction_settled (suc left) target c = tt

  element_settled : (left : ℕ) (e : E) (kids : Forest E) → IsSettled (job_content is_copying chosen (entered chosen (job.Apply left) e).job false kids) → IsSettled (invoked is_copying chosen left (element_node e false kids))
  element_settled left e kids h =
      let t : Task = entered chosen (job.Apply left) e in
      subst IsSettled (sym (at_element left e false kids))
      (next_settled (first chosen (job.Apply left) e) (tail t false kids) (first_settled (job.Apply left) e) (next_settled (job_content is_copying chosen t.job false kids) t.after h (after_settled (job.Apply left) e)))

  settled_none : (j : Job) → IsSettled (job_content is_copying chosen j false none)
  settled_none job.Skip = tt
  settled_none (job.Apply left) = tt

  settled_text : (j : Job) (s : List ℕ) (rest : Forest E) → IsSettled (job_content is_copying chosen j false rest) → IsSettled (job_content is_copying chosen j false (text s rest))
  settled_text job.Skip s rest h = tt
  settled_text (job.Apply left) s rest h = next_settled (invoked is_copying chosen left (text_node s)) (applied is_copying chosen left false rest) (text_settled left s) h

  settled_instruction : (j : Job) (target c : List ℕ) (rest : Forest E) → IsSettled (job_content is_copying chosen j false rest) → IsSettled (job_content is_copying chosen j false (instruction target c rest))
  settled_instruction job.Skip target c rest h = tt
  settled_instruction (job.Apply left) target c rest h = next_settled (invoked is_copying chosen left (instruction_node target c)) (applied is_copying chosen left false rest) (instruction_settled left target c) h

  settled_element : (j : Job) (e : E) (b : Bool) (kids rest : Forest E) → IsSettled (job_content is_copying chosen (entered chosen j e).job false kids) → IsSettled (job_content is_copying chosen j false rest) →
      IsSettled (job_content is_copying chosen j false (element e b kids rest))
  settled_element job.Skip e b kids rest h k = tt
  settled_element (job.Apply left) e b kids rest h k = next_settled (invoked is_copying chosen left (element_node e false kids)) (applied is_copying chosen left false rest) (element_settled left e kids h) k

  -- closed children are settled
  pub settled : (kids : Forest E) (j : Job) → IsSettled (job_content is_copying chosen j false kids)
  settled none j = settled_none j
  settled (text s rest) j = settled_text j s rest (settled rest j)
  settled (instruction target c rest) j = settled_instruction j target c rest (settled rest j)
  settled (element e b kids rest) j = settled_element j e b kids rest (settled kids (entered chosen j e).job) (settled rest j)

  -- open children are never done where templates are applied to them
  pub going : (left : ℕ) (kids : Forest E) → IsGoing (applied is_copying chosen left true kids)
  going left none = tt
  going left (text s rest) = next_going (invoked is_copying chosen left (text_node s)) (applied is_copying chosen left true rest) (going left rest)
  going left (instruction target c rest) = next_going (invoked is_copying chosen left (instruction_node target c)) (applied is_copying chosen left true rest) (going left rest)
  going left (element e true kids rest) = next_going (invoked is_copying chosen left (element_node e true kids)) waiting tt
  going left (element e false kids rest) = next_going (invoked is_copying chosen left (element_node e false kids)) (applied is_copying chosen left true rest) (going left rest)

  -- children that are complete, once their parent is closed
  pub closed : (left : ℕ) (kids : Forest E) → has_open kids ≡ false → applied is_copying chosen left false kids ≡ resume (applied is_copying chosen left true kids) (gives [])
  closed left none h = refl
  closed left (text s rest) h =
      ap (λ (x : Output). next (invoked is_copying chosen left (text_node s)) x) (closed left rest h)
      ∙ resume_behind (invoked is_copying chosen left (text_node s)) (applied is_copying chosen left true rest) (gives []) (text_settled left s)
  closed left (instruction target c rest) h =
      ap (λ (x : Output). next (invoked is_copying chosen left (instruction_node target c)) x) (closed left rest h)
      ∙ resume_behind (invoked is_copying chosen left (instruction_node target c)) (applied is_copying chosen left true rest) (gives []) (instruction_settled left target c)
  closed left (element e true kids rest) h = absurd (cc)
  closed left (element e false kids rest) h =
      ap (λ (x : Output). next (invoked is_copying chosen left (element_node e false kids)) x) (closed left rest h)
      ∙ resume_behind (invoked is_copying chosen left (element_node e false kids)) (applied is_copying chosen left true rest) (gives []) (element_settled left e kids (settled kids (entered chosen (job.Apply left) e).job))

  saying_going : (j : Job) (s : List ℕ) → IsGoing (saying j s)
  saying_going job.Skip s = tt
  saying_going (job.Apply zero) s = tt
  saying_going (job.Apply (suc left)) s = tt

  instructing_going : (j : Job) (target c : List ℕ) → IsGoing (instructing is_copying j target c)
  instructing_going job.Skip target c = tt
  instructing_going (job.Apply zero) target c = tt
  instructing_going (job.Apply (suc left)) target c = tt

  last_closing_going : (t : Task) (ts : List Task) → IsGoing (last_closing t ts)
  last_closing_going t [] = next_going t.after waiting tt
  last_closing_going t (u ∷ ts) = last_closing_going u ts

  ending_going : (ts : List Task) → IsGoing (ending_of_tasks ts)
  ending_going [] = tt
  ending_going (t ∷ ts) = last_closing_going t ts

  pub reacts_going : (j : Job) (ts : List Task) (h : TreeEvent E) → GoesOn h → IsGoing (reacts is_copying chosen j ts h)
  reacts_going j ts (starts e) g = next_going (first chosen (last_job j ts) e) waiting tt
  reacts_going j ts ends g = ending_going ts
  reacts_going j ts (says s) g = saying_going (last_job j ts) s
  reacts_going j ts (instructs target c) g = instructing_going (last_job j ts) target c
  reacts_going j ts closes g = absurd g

  skip_stays : (kids : Forest E) → last_job job.Skip (tasks chosen job.Skip kids) ≡ job.Skip
  skip_stays none = refl
  skip_stays (text s rest) = skip_stays rest
  skip_stays (instruction target c rest) = skip_stays rest
  skip_stays (element e true kids rest) = skip_stays kids
  skip_stays (element e false kids rest) = skip_stays rest

  skip_closes : (t : Task) (kids : Forest E) → closing_task t ≡ waiting → last_closing t (tasks chosen job.Skip kids) ≡ waiting
  skip_closes t none h = h
  skip_closes t (text s rest) h = skip_closes t rest h
  skip_closes t (instruction target c rest) h = skip_closes t rest h
  skip_closes t (element e true kids rest) h = skip_closes (entered chosen job.Skip e) kids refl
  skip_closes t (element e false kids rest) h = skip_closes t rest h

  skip_ends : (kids : Forest E) → ending_of_tasks (tasks chosen job.Skip kids) ≡ waiting
  skip_ends none = refl
  skip_ends (text s rest) = skip_ends rest
  skip_ends (instruction target c rest) = skip_ends rest
  skip_ends (element e true kids rest) = skip_closes (entered chosen job.Skip e) kids refl
  skip_ends (element e false kids rest) = skip_ends rest

  skip_quiet : (kids : Forest E) (h : TreeEvent E) → GoesOn h → reacts is_copying chosen job.Skip (tasks chosen job.Skip kids) h ≡ waiting
  skip_quiet kids (starts e) g = ap (λ (j : Job). next (first chosen j e) waiting) (skip_stays kids)
  skip_quiet kids ends g = skip_ends kids
  skip_quiet kids (says s) g = ap (λ (j : Job). saying j s) (skip_stays kids)
  skip_quiet kids (instructs target c) g = ap (λ (j : Job). instructing is_copying j target c) (skip_stays kids)
  skip_quiet kids closes g = absurd g

  -- an open element
  inside : (t : Task) → IsSound t → (kids : Forest E) → (j : Job) → t.job ≡ j → next (tail t true kids) waiting ≡ next (job_content is_copying chosen t.job true kids) waiting
  inside t sound kids job.Skip e = rw (e, sound e) refl
  inside t sound kids (job.Apply left) e = rw e (ap (λ (x : Output). next x waiting) (going-next (applied is_copying chosen left true kids) t.after (going left kids)))

  open_element : (left : ℕ) (e : E) (kids : Forest E) →
      next (invoked is_copying chosen left (element_node e true kids)) waiting ≡ next (first chosen (job.Apply left) e) (next (job_content is_copying chosen (entered chosen (job.Apply left) e).job true kids) waiting)
  open_element left e kids =
      let t : Task = entered chosen (job.Apply left) e in
      ap (λ (x : Output). next x waiting) (at_element left e true kids) ∙ next-assoc (first chosen (job.Apply left) e) (tail t true kids) waiting
      ∙ ap (λ (x : Output). next (first chosen (job.Apply left) e) x) (inside t (entered_sound (job.Apply left) e) kids t.job refl)

  abbrev Next : Job → Forest E → TreeEvent E → Type 0
  Next j f h = job_content is_copying chosen j true (pushed f h) ≡ resume (job_content is_copying chosen j true f) (reacts is_copying chosen j (tasks chosen j f) h)

  deeper : (j : Job) (kids : Forest E) (h : TreeEvent E) → GoesOn h →
      next (resume (job_content is_copying chosen j true kids) (reacts is_copying chosen j (tasks chosen j kids) h)) waiting ≡ resume (next (job_content is_copying chosen j true kids) waiting) (reacts is_copying chosen j (tasks chosen j kids) h)
  deeper job.Skip kids h g = ap (λ (r : Output). next (resume (gives []) r) waiting) (skip_quiet kids h g) ∙ ap (λ (r : Output). resume (next (gives []) waiting) r) (sym (skip_quiet kids h g))
  deeper (job.Apply left) kids h g =
      let x : Output = applied is_copying chosen left true kids in
      let r : Output = reacts is_copying chosen (job.Apply left) (tasks chosen (job.Apply left) kids) h in
      going-next (resume x r) waiting (resume_going x r (going left kids) (reacts_going (job.Apply left) (tasks chosen (job.Apply left) kids) h g))
      ∙ ap (λ (y : Output). resume y r) (sym (going-next x waiting (going left kids)))

  step_inside : (j : Job) (e : E) (kids rest after : Forest E) (h : TreeEvent E) → GoesOn h → Next (entered chosen j e).job kids h →
      job_content is_copying chosen j true (element e true (pushed kids h) after) ≡ resume (job_content is_copying chosen j true (element e true kids rest)) (reacts is_copying chosen (entered chosen j e).job (tasks chosen (entered chosen j e).job kids) h)
  step_inside job.Skip e kids rest after h g k = ap (resume (gives [])) (sym (skip_quiet kids h g))
  step_inside (job.Apply left) e kids rest after h g k =
      let t : Task = entered chosen (job.Apply left) e in
      let a : Output = first chosen (job.Apply left) e in
      let r : Output = reacts is_copying chosen t.job (tasks chosen t.job kids) h in
      open_element left e (pushed kids h) ∙ ap (λ (x : Output). next a (next x waiting)) k
      ∙ ap (λ (x : Output). next a x) (deeper t.job kids h g)
      ∙ resume_behind a (next (job_content is_copying chosen t.job true kids) waiting) r (first_settled (job.Apply left) e)
      ∙ ap (λ (x : Output). resume x r) (sym (open_element left e kids))

  closed_tail : (t : Task) → IsSound t → (kids : Forest E) → has_open kids ≡ false → (j : Job) → t.job ≡ j →
      next (tail t false kids) waiting ≡ resume (next (job_content is_copying chosen t.job true kids) waiting) (closing_task t)
  closed_tail t sound kids h job.Skip e = rw (e, sound e) refl
  closed_tail t sound kids h (job.Apply left) e =
      rw (e, closed left kids h) (end_here (applied is_copying chosen left true kids) t.after (going left kids) ∙ ap (λ (x : Output). resume x (closing_task t)) (sym (going-next (applied is_copying chosen left true kids) waiting (going left kids))))

  step_close : (j : Job) (e : E) (kids rest : Forest E) → has_open kids ≡ false →
      job_content is_copying chosen j true (element e false kids none) ≡ resume (job_content is_copying chosen j true (element e true kids rest)) (closing_task (entered chosen j e))
  step_close job.Skip e kids rest h = refl
  step_close (job.Apply left) e kids rest h =
      let t : Task = entered chosen (job.Apply left) e in
      let a : Output = first chosen (job.Apply left) e in
      ap (λ (x : Output). next x waiting) (at_element left e false kids) ∙ next-assoc a (tail t false kids) waiting
      ∙ ap (λ (x : Output). next a x) (closed_tail t (entered_sound (job.Apply left) e) kids h t.job refl)
      ∙ resume_behind a (next (job_content is_copying chosen t.job true kids) waiting) (closing_task t) (first_settled (job.Apply left) e)
      ∙ ap (λ (x : Output). resume x (closing_task t)) (sym (open_element left e kids))

  step_text : (j : Job) (s : List ℕ) (rest after : Forest E) (r : Output) → job_content is_copying chosen j true after ≡ resume (job_content is_copying chosen j true rest) r →
      job_content is_copying chosen j true (text s after) ≡ resume (job_content is_copying chosen j true (text s rest)) r
  step_text job.Skip s rest after r k = refl
  step_text (job.Apply left) s rest after r k =
      ap (λ (x : Output). next (invoked is_copying chosen left (text_node s)) x) k ∙ resume_behind (invoked is_copying chosen left (text_node s)) (applied is_copying chosen left true rest) r (text_settled left s)

  step_instruction : (j : Job) (target c : List ℕ) (rest after : Forest E) (r : Output) → job_content is_copying chosen j true after ≡ resume (job_content is_copying chosen j true rest) r →
      job_content is_copying chosen j true (instruction target c after) ≡ resume (job_content is_copying chosen j true (instruction target c rest)) r
  step_instruction job.Skip target c rest after r k = refl
  step_instruction (job.Apply left) target c rest after r k =
      ap (λ (x : Output). next (invoked is_copying chosen left (instruction_node target c)) x) k
      ∙ resume_behind (invoked is_copying chosen left (instruction_node target c)) (applied is_copying chosen left true rest) r (instruction_settled left target c)

  step_behind : (j : Job) (e : E) (kids rest after : Forest E) (r : Output) → job_content is_copying chosen j true after ≡ resume (job_content is_copying chosen j true rest) r →
      job_content is_copying chosen j true (element e false kids after) ≡ resume (job_content is_copying chosen j true (element e false kids rest)) r
  step_behind job.Skip e kids rest after r k = refl
  step_behind (job.Apply left) e kids rest after r k =
      ap (λ (x : Output). next (invoked is_copying chosen left (element_node e false kids)) x) k
      ∙ resume_behind (invoked is_copying chosen left (element_node e false kids)) (applied is_copying chosen left true rest) r (element_settled left e kids (settled kids (entered chosen (job.Apply left) e).job))

  fresh : (j : Job) → next (job_content is_copying chosen j true none) waiting ≡ waiting
  fresh job.Skip = refl
  fresh (job.Apply left) = refl

  none_starts : (j : Job) (e : E) → Next j none (starts e)
  none_starts job.Skip e = refl
  none_starts (job.Apply left) e = open_element left e none ∙ ap (λ (x : Output). next (first chosen (job.Apply left) e) x) (fresh (entered chosen (job.Apply left) e).job)

  none_says : (j : Job) (s : List ℕ) → Next j none (says s)
  none_says job.Skip s = refl
  none_says (job.Apply zero) s = refl
  none_says (job.Apply (suc left)) s = refl

  none_instructs : (j : Job) (target c : List ℕ) → Next j none (instructs target c)
  none_instructs job.Skip target c = refl
  none_instructs (job.Apply zero) target c = refl
  none_instructs (job.Apply (suc left)) target c = refl

  none_ends : (j : Job) → Next j none ends
  none_ends job.Skip = refl
  none_ends (job.Apply left) = refl

  step_none : (j : Job) (h : TreeEvent E) → GoesOn h → Next j none h
  step_none j (starts e) g = none_starts j e
  step_none j ends g = none_ends j
  step_none j (says s) g = none_says j s
  step_none j (instructs target c) g = none_instructs j target c
  step_none j closes g = absurd g

  no_tasks : (j : Job) (kids : Forest E) → has_open kids ≡ false → tasks chosen j kids ≡ []
  no_tasks j none h = refl
  no_tasks j (text s rest) h = no_tasks j rest h
  no_tasks j (instruction target c rest) h = no_tasks j rest h
  no_tasks j (element e true kids rest) h = absurd (cc)
  no_tasks j (element e false kids rest) h = no_tasks j rest h

  closes_deeper : (i : Job) (t : Task) (kids : Forest E) → has_open kids ≡ true → last_closing t (tasks chosen i kids) ≡ ending_of_tasks (tasks chosen i kids)
  closes_deeper i t none h = absurd (cc)
  closes_deeper i t (text s rest) h = closes_deeper i t rest h
  closes_deeper i t (instruction target c rest) h = closes_deeper i t rest h
  closes_deeper i t (element e true kids rest) h = refl
  closes_deeper i t (element e false kids rest) h = closes_deeper i t rest h

  step_end : (b : Bool) (j : Job) (e : E) (kids rest : Forest E) → has_open kids ≡ b → Next (entered chosen j e).job kids ends →
      job_content is_copying chosen j true (cond b (element e true (push_end kids) none) (element e false kids none)) ≡
      resume (job_content is_copying chosen j true (element e true kids rest)) (reacts is_copying chosen j (entered chosen j e ∷ tasks chosen (entered chosen j e).job kids) ends)
  step_end true j e kids rest p k =
      step_inside j e kids rest none ends tt k
      ∙ ap (λ (r : Output). resume (job_content is_copying chosen j true (element e true kids rest)) r) (sym (closes_deeper (entered chosen j e).job (entered chosen j e) kids p))
  step_end false j e kids rest p k =
      step_close j e kids rest p
      ∙ ap (λ (ts : List Task). resume (job_content is_copying chosen j true (element e true kids rest)) (reacts is_copying chosen j (entered chosen j e ∷ ts) ends)) (sym (no_tasks (entered chosen j e).job kids p))

  -- one happening more
  pub step : (f : Forest E) (j : Job) (h : TreeEvent E) → GoesOn h → Next j f h
  step none j h g = step_none j h g
  step (text s rest) j (starts e) g = step_text j s rest _ _ (step rest j (starts e) tt)
  step (text s rest) j ends g = step_text j s rest _ _ (step rest j ends tt)
  step (text s rest) j (says u) g = step_text j s rest _ _ (step rest j (says u) tt)
  step (text s rest) j (instructs target c) g = step_text j s rest _ _ (step rest j (instructs target c) tt)
  step (text s rest) j closes g = absurd g
  step (instruction t d rest) j (starts e) g = step_instruction j t d rest _ _ (step rest j (starts e) tt)
  step (instruction t d rest) j ends g = step_instruction j t d rest _ _ (step rest j ends tt)
  step (instruction t d rest) j (says u) g = step_instruction j t d rest _ _ (step rest j (says u) tt)
  step (instruction t d rest) j (instructs target c) g = step_instruction j t d rest _ _ (step rest j (instructs target c) tt)
  step (instruction t d rest) j closes g = absurd g
  step (element e true kids rest) j (starts d) g = step_inside j e kids rest none (starts d) tt (step kids (entered chosen j e).job (starts d) tt)
  step (element e true kids rest) j (says s) g = step_inside j e kids rest none (says s) tt (step kids (entered chosen j e).job (says s) tt)
  step (element e true kids rest) j (instructs target c) g = step_inside j e kids rest none (instructs target c) tt (step kids (entered chosen j e).job (instructs target c) tt)
  step (element e true kids rest) j ends g = step_end (has_open kids) j e kids rest refl (step kids (entered chosen j e).job ends tt)
  step (element e true kids rest) j closes g = absurd g
  step (element e false kids rest) j (starts d) g = step_behind j e kids rest _ _ (step rest j (starts d) tt)
  step (element e false kids rest) j ends g = step_behind j e kids rest _ _ (step rest j ends tt)
  step (element e false kids rest) j (says s) g = step_behind j e kids rest _ _ (step rest j (says s) tt)
  step (element e false kids rest) j (instructs target c) g = step_behind j e kids rest _ _ (step rest j (instructs target c) tt)
  step (element e false kids rest) j closes g = absurd g
