use Rattle.std.proofs.Common.{[], refl, sym, ◌∙◌, subst}
use Rattle.sx_names.specs.Numbering.{NameTable, IsDistinct}
use Rattle.sx_reading.proofs.Turns.{no_memory}
use Rattle.sx_top.specs.Run.{run_written, run_outcome}
use Rattle.sx_top.specs.Runner.{run_meaning, Runs}
use Rattle.sx_top.proofs.Runners.{kept_between}
use Rattle.sx_top.proofs.Runs.{run_steady, run_outcome_is}
use Rattle.sx_top.proofs.transformation.transform.Goals as goal

pub returns-in-Ok-clause-runs : goal.returns-in-Ok-clause-runs
returns-in-Ok-clause-runs g c = λ ready.
    let sheet = c.args.sheet.now in
    let names = c.args.names.now in
    let limits = c.args.limits.now in
    let m = run_meaning sheet names limits in
    let own = c.replace-own.ensures.value in
    let runs = c.new-in-Ok.ensures sheet names limits (c.in-Ok.ensures.stands ready c.each_once.ensures) in
    c.transfer-status.ensures.runs (run_written sheet names limits) (run_outcome sheet names limits) (record {
      meaning = m;
      writes = λ b ended. refl;
      ends_at = run_outcome_is sheet names limits;
      stands = c.new-feeder.ensures.stands m (run_steady sheet names limits ready.streamable) refl
          (subst (λ (n : NameTable). IsDistinct n) (sym own) c.each_once.ensures) (subst (λ (n : NameTable). Runs c.new-in-Ok.result m n [] []) (sym own) runs);
    })

pub returns-in-Ok-clause-kept : goal.returns-in-Ok-clause-kept
returns-in-Ok-clause-kept g c =
    kept_between c.args.names.now c.new-feeder.result.names c.transfer-status.new.consumer.names c.swap.new.x (sym (c.new-feeder.ensures.names ∙ c.replace-own.ensures.value)) c.swap.ensures.x_after c.transfer-status.ensures.keeps

pub returns-in-Err-clause-runs : goal.returns-in-Err-clause-runs
returns-in-Err-clause-runs g c = λ ready.
    no_memory (run_written c.args.sheet.now c.args.names.now c.args.limits.now) (run_outcome c.args.sheet.now c.args.names.now c.args.limits.now) c.args.file (g.D.Desk.seen c.args.desk.now) c.requires.untouched
