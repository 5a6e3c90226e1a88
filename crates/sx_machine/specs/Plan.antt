-- How a body is run while the children come: what it gives before them, whether it asks for them, and what it gives behind.
use Rattle.std.specs.Prelude.{◌≡◌, ℕ, zero, suc, Bool, true, false, List, [], ◌∷◌, Option, Some, None, slice_get}
use Rattle.sx_tree.specs.declared.events.Label.{Label}
use Rattle.sx_named.specs.Named.{Name}
use Rattle.sx_tree.specs.Tree.{TreeEvent, starts, ends, says, instructs, closes, Forest, none, text, instruction, element}
use Rattle.sx_build.specs.Asked as ask
use Rattle.sx_build.specs.Asked.{all_asked_at}
use Rattle.sx_build.specs.declared.raw.Raw.{Raw}
use Rattle.sx_kinds.specs.declared.constructs.NamePattern.{NamePattern}
use Rattle.sx_kinds.specs.declared.sheets.Template.{Template}
use Rattle.sx_machine.specs.declared.plans.Plan.{Plan as KeptPlan}
use Rattle.sx_machine.specs.declared.plans.Rule.{Rule}
use Rattle.sx_machine.specs.declared.session.After.{After}
use Rattle.sx_machine.specs.declared.session.After.TheVariants as after
use Rattle.sx_machine.specs.declared.session.Frame.{Frame}
use Rattle.sx_machine.specs.declared.session.Job.{Job}
use Rattle.sx_machine.specs.declared.session.Job.TheVariants as job
use Rattle.sx_machine.specs.Body.{Body, nil, literal, copies, words, apply, body_of, written_out}
use Rattle.sx_machine.specs.Run.{Output, waits, nothing, gives, next, too_deep, copied_attributes, copied_instruction, applied}
use Rattle.sx_names.specs.Numbering.{NameTable}

-- ---- plans

-- the children are not asked for; or they are asked for between these two
pub data Plan : Type 0 where
  still : Output → Plan
  looking : Output → Output → Plan

-- one plan behind another; of two that ask for the children the first does
abbrev pub then_plan : Plan → Plan → Plan
then_plan (still a) (still c) = still (next a c)
then_plan (still a) (looking c d) = looking (next a c) d
then_plan (looking a b) (still c) = looking a (next b c)
then_plan (looking a b) (looking c d) = looking a (next b (next c d))

-- the plan of a body, where so many invocations are left for attributes
abbrev pub plan_of : ℕ → Body Name → Plan
plan_of left nil = still (gives [])
plan_of left (literal line name job_content rest) =
    then_plan (then_plan (then_plan (still (gives (ask.starts name ∷ []))) (plan_of left job_content)) (still (gives (ask.ends ∷ [])))) (plan_of left rest)
plan_of left (copies attributes rest) = then_plan (still (copied_attributes left attributes)) (plan_of left rest)
plan_of left (words s rest) = then_plan (still (gives (ask.says s ∷ []))) (plan_of left rest)
plan_of left (apply rest) = then_plan (looking (gives []) (gives [])) (plan_of left rest)

-- ---- the plans of templates, as the session keeps them

-- what these ask for, by a table of names
abbrev pub read_raws : NameTable → List Raw → Output
read_raws names raws = gives (all_asked_at names raws)

-- a plan, by what it keeps before and behind the children
abbrev pub read_parts : NameTable → List Raw → Option (List Raw) → Plan
read_parts names before None = still (read_raws names before)
read_parts names before (Some behind) = looking (read_raws names before) (read_raws names behind)

-- a plan as the session keeps it
abbrev pub read_plan : NameTable → KeptPlan → Plan
read_plan names p = read_parts names p.before p.behind

-- the number of the name that a pattern has
abbrev pub pattern_name : Option NamePattern → Option ℕ
pattern_name None = None
pattern_name (Some p) = Some p.name

-- a plan is that of a body, by each table of names
abbrev pub IsPlanOf : Body Label → KeptPlan → Type 0
IsPlanOf b p = (names : NameTable) (left : ℕ) → read_plan names p ≡ plan_of left (written_out names b)

-- a template as the session keeps it
pub record IsRuleOf (t : Template) (r : Rule) : Type 0 where
  pub named : r.name ≡ pattern_name t.pattern
  pub planned : IsPlanOf (body_of t.body) r.plan

-- templates as the session keeps them, in order
abbrev pub AreRulesOf : List Template → List Rule → Type 0
AreRulesOf [] [] = Unit {0}
AreRulesOf [] (r ∷ rs) = ⊥
AreRulesOf (t ∷ ts) [] = ⊥
AreRulesOf (t ∷ ts) (r ∷ rs) = IsRuleOf t r × AreRulesOf ts rs

-- ---- frames

-- An open element to the meaning: what is done with its children, and what is given behind them.
pub record Task : Type 0 where
  pub job : Job
  pub after : Output

-- what a plan gives before the children
abbrev pub before_of : Plan → Output
before_of (still a) = a
before_of (looking a b) = a

-- what a plan gives behind the children
abbrev pub after_of : Plan → Output
after_of (still a) = gives []
after_of (looking a b) = b

-- the work for the children, where so many invocations are left for them: templates are applied to them, or nothing is done
abbrev pub job_of : ℕ → Plan → Job
job_of left (still a) = job.Skip
job_of left (looking a b) = job.Apply left

-- the task of an element with this plan
abbrev pub task_for : ℕ → Plan → Task
task_for left p = record { job = job_of left p; after = after_of p }

-- what a rule gives behind the children, if there is one at that place
abbrev pub after_rule : NameTable → Option Rule → Output
after_rule names None = gives []
after_rule names (Some r) = after_of (read_plan names r.plan)

-- what comes behind the children of a frame: nothing, what the rule at a place gives, or the end of a copy
abbrev pub after_at : NameTable → List Rule → After → Output
after_at names rules after.Nothing = gives []
after_at names rules (after.Rule place) = after_rule names (slice_get rules place)
after_at names rules after.Copy = gives (ask.ends ∷ [])

-- the task of a frame
abbrev pub task_of : NameTable → List Rule → Frame → Task
task_of names rules f = record { job = f.job; after = after_at names rules f.after }

-- nothing to do
abbrev pub idle : Task
idle = record { job = job.Skip; after = gives [] }

-- what comes at the end of an element with this task
abbrev pub closing_task : Task → Output
closing_task t = next t.after (nothing waits)

-- the work for the children of the innermost open element
abbrev pub last_job : Job → List Task → Job
last_job j [] = j
last_job j (t ∷ ts) = last_job t.job ts

abbrev pub last_closing : Task → List Task → Output
last_closing t [] = closing_task t
last_closing t (u ∷ ts) = last_closing u ts

-- what comes at an end: nothing where no element is open
abbrev pub ending_of_tasks : List Task → Output
ending_of_tasks [] = nothing waits
ending_of_tasks (t ∷ ts) = last_closing t ts

-- what comes with a text
abbrev pub saying : Job → List ℕ → Output
saying job.Skip s = nothing waits
saying (job.Apply zero) s = next too_deep (nothing waits)
saying (job.Apply (suc left)) s = next (gives (ask.says s ∷ [])) (nothing waits)

-- what comes with a processing instruction, which is or is not copied
abbrev pub instructing : Bool → Job → List ℕ → List ℕ → Output
instructing is_copying job.Skip target c = nothing waits
instructing is_copying (job.Apply zero) target c = next too_deep (nothing waits)
instructing is_copying (job.Apply (suc left)) target c = next (gives (copied_instruction is_copying target c)) (nothing waits)

module _ {E : Type 0} (chosen : E → Body Name) where
  -- the task of an element that starts where this is the work
  abbrev pub entered : Job → E → Task
  entered job.Skip e = idle
  entered (job.Apply zero) e = idle
  entered (job.Apply (suc left)) e = task_for left (plan_of left (chosen e))

  -- what comes before its children
  abbrev pub first : Job → E → Output
  first job.Skip e = gives []
  first (job.Apply zero) e = too_deep
  first (job.Apply (suc left)) e = before_of (plan_of left (chosen e))

  -- the tasks of the open elements, the outermost first
  abbrev pub tasks : Job → Forest E → List Task
  tasks j none = []
  tasks j (text s rest) = tasks j rest
  tasks j (instruction target c rest) = tasks j rest
  tasks j (element e true kids rest) = entered j e ∷ tasks (entered j e).job kids
  tasks j (element e false kids rest) = tasks j rest

module _ {E : Type 0} (is_copying : Bool) (chosen : E → Body Name) where
  -- what a job gives at an element with these children
  abbrev pub job_content : Job → Bool → Forest E → Output
  job_content job.Skip is_open kids = gives []
  job_content (job.Apply left) is_open kids = applied is_copying chosen left is_open kids

  -- what comes with what happens, where these are the tasks of the open elements
  abbrev pub reacts : Job → List Task → TreeEvent E → Output
  reacts j ts (starts e) = next (first chosen (last_job j ts) e) (nothing waits)
  reacts j ts ends = ending_of_tasks ts
  reacts j ts (says s) = saying (last_job j ts) s
  reacts j ts (instructs target c) = instructing is_copying (last_job j ts) target c
  reacts j ts closes = gives []
