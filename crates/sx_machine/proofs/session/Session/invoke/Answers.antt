use Rattle.std.proofs.Common.{◌≡◌, ◌++◌, List, Option, Some, slice_get, get_or, false, ap, ap₂, refl, sym, subst, ◌∙◌}
use Rattle.std.proofs.lemmas.Option.{slice_get-get_or}
use Rattle.sx_atoms.specs.declared.error_codes.Code.{Code}
use Rattle.sx_build.specs.Asked.{Asked, all_asked_at}
use Rattle.sx_build.specs.declared.raw.Raw.{Raw}
use Rattle.sx_machine.specs.declared.plans.Rule.{Rule}
use Rattle.sx_machine.specs.declared.session.After.TheVariants as after
use Rattle.sx_machine.specs.declared.session.Frame.{Frame}
use Rattle.sx_machine.specs.declared.session.Job.{Job}
use Rattle.sx_machine.specs.Run.{Output, waits, ending_with}
use Rattle.sx_machine.specs.Plan.{Plan, Task, read_plan, job_of, after_of, after_rule, task_of, task_for}
use Rattle.sx_machine.specs.Writer.{WriterStands}
use Rattle.sx_machine.specs.Session.{Wrote, state_of}
use Rattle.sx_machine.proofs.Moves.{before_read, start_comes}
use Rattle.sx_machine.proofs.Rules.{ReadsSame, reads_same}
use Rattle.sx_machine.proofs.session.Session.invoke.Goals as goal

pub returns-clause-ok : goal.returns-clause-ok
returns-clause-ok c = λ sheet known invocations d e given keeps planned o j s.
    let old = c.args.self.now in
    let rules = old.rules.list in
    let names = c.args.names.now in
    let place = c.args.place in
    let q : Rule = c.index-as_slice-place.result in
    let here : slice_get rules place ≡ Some q =
    slice_get-get_or rules place q c.requires.within ∙ ap Some (sym (c.index-as_slice-place.is ∙ ap (λ (rs : List Rule). get_or rs place q) c.as_slice.ensures)) in
    let p : Plan = read_plan names q.plan in
    let reads : read_plan known q.plan ≡ p =
    subst (ReadsSame known names keeps) here (reads_same known names keeps sheet.templates rules s.ready.known s.rules_are place) in
    let more : List Asked = all_asked_at names q.plan.before in
    let frame : Frame = record { job = c.job_for.result; after = after.Rule place } in
    let task : task_of known rules frame ≡ task_for c.args.left p =
    ap₂ (λ (i : Job) (a : Output). let t : Task = record { job = i; after = a } in t) (c.job_for.ensures names ∙ ap (λ (x : Rule). job_of c.args.left (read_plan names x.plan)) (sym c.index-as_slice-place.is))
    (ap (after_rule known) here ∙ ap after_of reads) in
    let wrote : Wrote old _ more = record {
      same_rules = refl;
      same_copying = refl;
      same_root = refl;
      wrote = λ asked given none stands.
          let now = subst (λ (raws : List Raw). WriterStands c.push_all.new.self (asked ++ all_asked_at names raws) false given)
          (c.as_slice-2.ensures ∙ ap (λ (x : Rule). x.plan.before) (sym c.index-as_slice-place.is)) (c.in_ok-push_all.ensures asked given stands) in
          (now, c.state_with-self.ensures.state waits refl ∙ ap (λ (found : Option Code). state_of (ending_with found waits)) (c.error.ensures ∙ now.error_is));
    } in
    start_comes sheet known invocations old d given s c.requires.going o _ e frame c.args.left p more j
    (planned q here ∙ reads) (before_read names q.plan.before q.plan.behind) task wrote c.in_ok-push.ensures.ok
