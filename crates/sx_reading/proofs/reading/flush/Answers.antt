use Rattle.std.proofs.Common.{◌≡◌, Some, None, sym}
use Rattle.sx_reading.proofs.Turns.{stops_writing, flushed, settles, goes_on}
use Rattle.sx_reading.proofs.reading.flush.Goals as goal

pub returns-in-Err-clause-frame : goal.returns-in-Err-clause-frame
returns-in-Err-clause-frame g c = λ file. c.in-Err.ensures.some.1.frame file

pub returns-in-Err-clause-after : goal.returns-in-Err-clause-after
returns-in-Err-clause-after g c = λ written outcome file start b w ended fed stands.
    let whole = c.output.ensures written outcome b w ended stands in
    stops_writing written outcome (g.C.Consumer.stands c.args.consumer.now written outcome) file start (g.D.Desk.seen c.write_all.new.desk) (g.D.Desk.seen c.args.desk.now) b w c.output.result.now ended
    c.in-Err.field-0 fed whole c.in-Err.ensures stands

pub returns-in-Err-clause-keeps : goal.returns-in-Err-clause-keeps
returns-in-Err-clause-keeps g c = g.met.C.Consumer.keeps_same c.args.consumer.now

pub returns-in-Some-clause-frame : goal.returns-in-Some-clause-frame
returns-in-Some-clause-frame g c = λ file. c.in-Ok.ensures.some.1.frame file

pub returns-in-Some-clause-after : goal.returns-in-Some-clause-after
returns-in-Some-clause-after g c = λ written outcome file start b w ended fed stands.
    let whole = c.output.ensures written outcome b w ended stands in
    let taken = c.clear_output.ensures.taken written outcome b w ended stands in
    let is : outcome b ended ≡ Some c.in-Some.outcome = sym (c.in-Some.ensures.is written outcome b _ ended taken) in
    rw c.status.ensures
    (settles written outcome (g.C.Consumer.stands c.clear_output.new.self written outcome) file start (g.D.Desk.seen c.write_all.new.desk) b ended c.in-Some.outcome
    (c.in-Some.ensures.meaning written outcome b _ ended taken)
    (flushed written outcome file start (g.D.Desk.seen c.args.desk.now) (g.D.Desk.seen c.write_all.new.desk) b w c.output.result.now ended fed whole c.in-Ok.ensures) is taken)

pub returns-in-None-clause-frame : goal.returns-in-None-clause-frame
returns-in-None-clause-frame g c = λ file. c.in-Ok.ensures.some.1.frame file

pub returns-in-None-clause-after : goal.returns-in-None-clause-after
returns-in-None-clause-after g c = λ written outcome file start b w ended fed stands.
    let whole = c.output.ensures written outcome b w ended stands in
    let taken = c.clear_output.ensures.taken written outcome b w ended stands in
    let is : outcome b ended ≡ None = sym (c.in-None.ensures.is written outcome b _ ended taken) in
    goes_on written outcome (g.C.Consumer.stands c.clear_output.new.self written outcome) file start (g.D.Desk.seen c.write_all.new.desk) b ended
    (c.in-None.ensures.meaning written outcome b _ ended taken) is
    (flushed written outcome file start (g.D.Desk.seen c.args.desk.now) (g.D.Desk.seen c.write_all.new.desk) b w c.output.result.now ended fed whole c.in-Ok.ensures) taken
