use Rattle.std.proofs.Common.{◌∷◌, ◌++◌, [], length, sym, ◌∙◌}
use Rattle.std.proofs.lemmas.Result.{on_ok_weaker}
use Rattle.sx_named.specs.Named.{named_in_tree, all_in_tree}
use Rattle.sx_events.specs.Course.{whats}
use Rattle.sx_top.specs.Run.{result_on}
use Rattle.sx_top.proofs.Runners.{may, own_kept, taken}
use Rattle.sx_top.proofs.Running.{event_ran, event_done}
use Rattle.sx_top.proofs.runner.RunnerEventTaker.take.Goals as goal

pub returns-in-Closed-clause-took : goal.returns-in-Closed-clause-took
returns-in-Closed-clause-took c =
    on_ok_weaker c.print_ending.result
    (λ ending m known events w kept distinct comes runs.
    let old = c.args.self.now in
    let now = c.args.names.now in
    let p = all_in_tree (whats events) in
    let h = named_in_tree now c.args.event in
    let given = length (result_on runs.sheet runs.own runs.limits p).built in
    let comes_so = may old m known events w runs now kept c.args.event comes c.args._line in
    let fed = c.in_ok-feed.ensures.stands runs.sheet runs.own runs.limits.invocations p given
    (own_kept old m known events w runs now kept c.args.event comes c.args._line) distinct comes.known comes_so runs.ran.stands in
    taken old m known events w runs now kept c.args.event comes c.args._line _
    (event_done runs.sheet runs.own runs.limits old.session old.due.items old.after_text p h w c.clear_output.new.self c.output.result.now c.print.new.due.items c.in_ok-self.field-0 comes_so runs.ran
    (c.clear_output.ensures.stands runs.sheet runs.own runs.limits.invocations (p ++ h ∷ []) given fed)
    (c.output.ensures runs.sheet runs.own runs.limits.invocations (p ++ h ∷ []) given fed)
    c.in_ok-self.ensures.due c.in_ok-self.ensures.text c.print_ending.new.due.items ending (sym c.state.ensures ∙ c.in-Closed.is)))
    c.print_ending.ensures

pub returns-in_default : goal.returns-in_default
returns-in_default c = record {
  took = λ m known events w kept distinct comes runs.
      let old = c.args.self.now in
      let now = c.args.names.now in
      let p = all_in_tree (whats events) in
      let h = named_in_tree now c.args.event in
      let given = length (result_on runs.sheet runs.own runs.limits p).built in
      let comes_so = may old m known events w runs now kept c.args.event comes c.args._line in
      let fed = c.in_ok-feed.ensures.stands runs.sheet runs.own runs.limits.invocations p given
      (own_kept old m known events w runs now kept c.args.event comes c.args._line) distinct comes.known comes_so runs.ran.stands in
      taken old m known events w runs now kept c.args.event comes c.args._line _
      (event_ran runs.sheet runs.own runs.limits old.session old.due.items old.after_text p h w c.clear_output.new.self c.output.result.now c.print.new.due.items c.in_ok-self.field-0 comes_so runs.ran
      (c.clear_output.ensures.stands runs.sheet runs.own runs.limits.invocations (p ++ h ∷ []) given fed)
      (c.output.ensures runs.sheet runs.own runs.limits.invocations (p ++ h ∷ []) given fed)
      c.in_ok-self.ensures.due c.in_ok-self.ensures.text (λ closed. c.in_default.not-Closed (c.state.ensures ∙ closed)));
  names = c.feed.ensures.names;
}
