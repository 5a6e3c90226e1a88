use Rattle.std.proofs.Common.{◌≤◌, ◌+◌, arith}
use Rattle.sx_sheet.specs.Tokens.{AreKnownEvents}
use Rattle.sx_sheet.proofs.Coming.{keeps_both, here, passes, goes, stops, ends_well, ends_early}
use Rattle.sx_sheet.proofs.running.run.Goals as goal

pub returns-in_err-step-clause-kept : goal.returns-in_err-step-clause-kept
returns-in_err-step-clause-kept c = keeps_both _ _ _ c.loop-lined.invariant.kept c.step.ensures.kept

pub returns-in-None-clause-kept : goal.returns-in-None-clause-kept
returns-in-None-clause-kept c = keeps_both _ _ _ c.loop-lined.invariant.kept c.step.ensures.kept

pub loop-lined-preserved-then-is_skipped : goal.loop-lined-preserved-then-is_skipped
loop-lined-preserved-then-is_skipped c =
    let l = c.loop-lined in
    let at = λ (k : AreKnownEvents c.args.names.now c.args.events.now). here c.args.names.now l.names c.args.events.now c.as_slice-lined-items.result.now l.lined-index c.lined-item.result c.token_of.result c.in-Some.token c.as_slice-lined-items.ensures c.loop-lined-test.true c.lined-item.is l.invariant.kept (l.invariant.known k) c.token_of.ensures.token c.in-Some.is in
    record {
      kept = l.invariant.kept;
      constructs = omega (arith, l.invariant.constructs);
      known = λ k. (at k).known_later;
      comes = λ k. passes _ l.names _ l.lined-index _ l.in_text l.reader _ (at k) (c.if-is_skipped.ensures l.names) (l.invariant.comes k);
    }

pub loop-lined-preserved : goal.loop-lined-preserved
loop-lined-preserved c =
    let l = c.loop-lined in
    let at = λ (k : AreKnownEvents c.args.names.now c.args.events.now). here c.args.names.now l.names c.args.events.now c.as_slice-lined-items.result.now l.lined-index c.lined-item.result c.token_of.result c.in-Some.token c.as_slice-lined-items.ensures c.loop-lined-test.true c.lined-item.is l.invariant.kept (l.invariant.known k) c.token_of.ensures.token c.in-Some.is in
    let near : c.in-Some-2.next.constructs ≤ l.reader.constructs + 2 = rw c.in-Some-2.is at c.in_ok-step.ensures.near in
    record {
      kept = keeps_both _ _ _ l.invariant.kept c.step.ensures.kept;
      constructs = omega (arith, l.invariant.constructs, near);
      known = λ k. (at k).known_later;
      comes = λ k. goes _ l.names _ _ l.lined-index _ l.in_text _ l.reader _ _ (at k) (c.if-is_skipped.ensures l.names) (c.is_in_text-in_text.ensures l.names) c.step.ensures.kept (rw c.in-Some-2.is at c.in_ok-step.ensures.step) (l.invariant.comes k);
    }

pub returns-in-None-clause-results : goal.returns-in-None-clause-results
returns-in-None-clause-results c k =
    let l = c.loop-lined in
    let at = here c.args.names.now l.names c.args.events.now c.as_slice-lined-items.result.now l.lined-index c.lined-item.result c.token_of.result c.in-Some.token c.as_slice-lined-items.ensures c.loop-lined-test.true c.lined-item.is l.invariant.kept (l.invariant.known k) c.token_of.ensures.token c.in-Some.is in
    stops _ l.names _ _ l.lined-index _ l.in_text l.reader _ at (c.if-is_skipped.ensures l.names) c.step.ensures.kept (rw c.in-None.is at c.in_ok-step.ensures.step) (l.invariant.comes k)

pub returns-then-is_last-clause-results : goal.returns-then-is_last-clause-results
returns-then-is_last-clause-results c k =
    let l = c.loop-lined in
    ends_well _ l.names _ _ l.lined-index l.in_text l.reader c.as_slice-lined-items.ensures c.loop-lined-test.false c.if-is_last.ensures (l.invariant.comes k)

pub returns-clause-results : goal.returns-clause-results
returns-clause-results c k =
    let l = c.loop-lined in
    ends_early _ l.names _ _ l.lined-index l.in_text l.reader c.as_slice-lined-items.ensures c.loop-lined-test.false c.if-is_last.ensures (l.invariant.comes k)
