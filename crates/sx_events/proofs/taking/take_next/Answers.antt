use Rattle.sx_esis.specs.Gives.{view_line}
use Rattle.sx_events.specs.Course.{course}
use Rattle.sx_events.specs.Place.{beginning}
use Rattle.sx_events.proofs.Lines.{few_bytes, next_number, took_all, took_unreadable, took_line, took_fault}
use Rattle.sx_events.proofs.taking.take_next.Goals as goal

pub returns-in-None-clause-after : goal.returns-in-None-clause-after
returns-in-None-clause-after c = λ b ended given line idle along.
    let gives = (rw c.in-None.is at c.next.follows.holds-at-none).gives c.args.limits.now.line _ _ _ along.reads in
    took_all c.args.lines.now c.args.standing.now c.args.pending.now c.args.limits.now c.args.names.now b ended given line along _ gives.0 gives.1

pub returns-in-Some-Err-clause-after : goal.returns-in-Some-Err-clause-after
returns-in-Some-Err-clause-after c = λ b ended given line idle along.
    let gives = (rw (c.in-Some-Err.is, c.in-Some-Err.field-0-is) at c.next.follows.holds-at-none).gives c.args.limits.now.line _ _ _ along.reads in
    took_unreadable c.args.lines.now c.args.standing.now c.args.pending.now c.args.limits.now c.args.names.now b ended given line along c.in-Some-Err.fault c.which_of.result idle c.which_of.ensures gives.0

pub returns-in-None-2-clause-after : goal.returns-in-None-2-clause-after
returns-in-None-2-clause-after c = λ b ended given line idle along.
    let gives = (rw (c.in-Some-Ok.is, c.in-Some-Ok.field-0-is) at c.next.follows.holds-at-none).gives c.args.limits.now.line _ _ _ along.reads in
    let number = next_number c.args.lines.now c.args.standing.now c.args.pending.now c.args.limits.now c.args.names.now b ended given line along c.line.result c.saturating_add-number.result
    (c.line.ensures c.args.limits.now.line _ _ _ along.reads (few_bytes c.args.lines.now c.args.standing.now c.args.pending.now c.args.limits.now c.args.names.now b ended given line along)) c.saturating_add-number.ensures in
    let took = (rw c.in-None-2.is at c.in_ok-take-in-Some-Ok.ensures.takes) (course c.args.limits.now beginning along.front).place along.knows number idle in
    took_line c.args.lines.now c.args.standing.now c.args.pending.now c.args.limits.now c.args.names.now b ended given line along (view_line c.in-Some-Ok.line) gives.0
    _ c.take.new.self c.take.new.pending c.take.new.names idle gives.1 took.0 took.1

pub returns-in-Some-clause-after : goal.returns-in-Some-clause-after
returns-in-Some-clause-after c = λ b ended given line idle along.
    let gives = (rw (c.in-Some-Ok.is, c.in-Some-Ok.field-0-is) at c.next.follows.holds-at-none).gives c.args.limits.now.line _ _ _ along.reads in
    let number = next_number c.args.lines.now c.args.standing.now c.args.pending.now c.args.limits.now c.args.names.now b ended given line along c.line.result c.saturating_add-number.result
    (c.line.ensures c.args.limits.now.line _ _ _ along.reads (few_bytes c.args.lines.now c.args.standing.now c.args.pending.now c.args.limits.now c.args.names.now b ended given line along)) c.saturating_add-number.ensures in
    let took = (rw c.in-Some.is at c.in_ok-take-in-Some-Ok.ensures.takes) in
    took_fault c.args.lines.now c.args.standing.now c.args.pending.now c.args.limits.now c.args.names.now b ended given line along (view_line c.in-Some-Ok.line) gives.0
    c.take.new.self c.take.new.pending c.take.new.names c.in-Some.which c.saturating_add-number.result idle number (took.0 (course c.args.limits.now beginning along.front).place along.knows) took.1 took.2
    c.in_ok-take-in-Some-Ok.ensures.kept
