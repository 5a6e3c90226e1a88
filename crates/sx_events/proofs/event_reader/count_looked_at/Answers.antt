use Rattle.std.proofs.Common.{◌≡◌, length, arith}
use Rattle.sx_events.proofs.Looks.{count_newline, count_other}
use Rattle.sx_events.proofs.event_reader.count_looked_at.Goals as goal

pub returns-in-Some-eq10-clause-is : goal.returns-in-Some-eq10-clause-is
returns-in-Some-eq10-clause-is c = λ limits b same small total.
    let within = c.if-total-limit.false in
    let is : c.args.total ≡ length b = omega (arith, within, small, total) in
    let found = c.in-Some-eq10.ensures.lookup in
    count_newline limits b c.args.piece.now c.args.limit c.args.total c.in-Some-eq10.field-0.now same is within found.0 found.1 c.in-Some-eq10.field-0-test

pub returns-in-Some-clause-is : goal.returns-in-Some-clause-is
returns-in-Some-clause-is c = λ limits b same small total.
    let within = c.if-total-limit.false in
    let is : c.args.total ≡ length b = omega (arith, within, small, total) in
    let found = c.in-Some.ensures.lookup in
    count_other limits b c.args.piece.now c.args.limit c.args.total c.in-Some.field-0.now same is within found.0 found.1 c.in-Some.field-0-test.1
