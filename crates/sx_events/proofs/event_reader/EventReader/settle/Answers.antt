use Rattle.std.proofs.Common.{sym, ◌∙◌}
use Rattle.sx_limits.specs.declared.faults.Which.TheVariants as which
use Rattle.sx_events.proofs.Endings.{few_looked, last_number, number_behind, breaks_beyond, breaks_short, ends_well, broke, well, along_all, gave_all, rests_going}
use Rattle.sx_events.proofs.event_reader.EventReader.settle.Goals as goal

pub returns-then-is_beyond-clause-rests : goal.returns-then-is_beyond-clause-rests
returns-then-is_beyond-clause-rests c = λ limits names b ended given none idle counted took.
    let s = c.args.self.now in
    let count = c.line-line.ensures limits.line _ _ _ took.reads (few_looked s.lines s.standing s.pending limits names b ended given s.line took) in
    let number = number_behind s.lines s.standing s.pending limits names b ended given s.line took c.line-line.result c.saturating_add.result count c.saturating_add.ensures in
    let over = sym (c.is_beyond.ensures limits b ended took.small.bytes counted) ∙ c.if-is_beyond.true in
    c.break_off.ensures.rests limits names b ended given
    (broke s.lines s.standing s.pending limits names b ended given s.line took (record { which = which.Bytes; line = c.saturating_add.result }) idle
    (breaks_beyond s.lines s.standing s.pending limits names b ended given s.line took c.saturating_add.result number over))

pub returns-then-not-self-clause-rests : goal.returns-then-not-self-clause-rests
returns-then-not-self-clause-rests c = λ limits names b ended given none idle counted took.
    let s = c.args.self.now in
    let within = sym (c.is_beyond.ensures limits b ended took.small.bytes counted) ∙ c.if-is_beyond.false in
    rests_going s limits names b ended given none (record { counted = counted; along = along_all s.lines s.standing s.pending limits names b ended given s.line took })
    (λ quiet. gave_all s.lines s.standing s.pending limits names b ended given s.line took quiet within (sym counted.told ∙ c.if-not-self.true))

pub returns-in-Some-clause-rests : goal.returns-in-Some-clause-rests
returns-in-Some-clause-rests c = λ limits names b ended given none idle counted took.
    let s = c.args.self.now in
    let count = c.line-line.ensures limits.line _ _ _ took.reads (few_looked s.lines s.standing s.pending limits names b ended given s.line took) in
    let number = number_behind s.lines s.standing s.pending limits names b ended given s.line took c.line-line.result c.saturating_add-in-Some.result count c.saturating_add-in-Some.ensures in
    let within = sym (c.is_beyond.ensures limits b ended took.small.bytes counted) ∙ c.if-is_beyond.false in
    c.break_off-in-Some.ensures.rests limits names b ended given
    (broke s.lines s.standing s.pending limits names b ended given s.line took (record { which = c.in-Some.which; line = c.saturating_add-in-Some.result }) idle
    (breaks_short s.lines s.standing s.pending limits names b ended given s.line took c.in-Some.which c.saturating_add-in-Some.result number within (sym counted.told ∙ c.if-not-self.false)
    (sym (c.end_fault.ensures _ took.knows) ∙ c.in-Some.is)))

pub returns-in-None-clause-rests : goal.returns-in-None-clause-rests
returns-in-None-clause-rests c = λ limits names b ended given none idle counted took.
    let s = c.args.self.now in
    let count = c.line-line.ensures limits.line _ _ _ took.reads (few_looked s.lines s.standing s.pending limits names b ended given s.line took) in
    let within = sym (c.is_beyond.ensures limits b ended took.small.bytes counted) ∙ c.if-is_beyond.false in
    let told = sym counted.told ∙ c.if-not-self.false in
    c.close.ensures.rests limits names b ended given
    (well s.lines s.standing s.pending limits names b ended given s.line took c.line-line.result (last_number s.lines s.standing s.pending limits names b ended given s.line took c.line-line.result count) idle told
    (ends_well s.lines s.standing s.pending limits names b ended given s.line took within told (sym (c.end_fault.ensures _ took.knows) ∙ c.in-None.is)))
