use Rattle.std.proofs.Common.{sym, ◌∙◌, subst}
use Rattle.sx_events.specs.Reader.{Along, TookAll, Broke}
use Rattle.sx_limits.specs.declared.limits.Limits.{Limits}
use Rattle.sx_events.proofs.Readings.{no_ending, going_of}
use Rattle.sx_events.proofs.Endings.{rests_going}
use Rattle.sx_events.proofs.event_reader.EventReader.read_on.Goals as goal

pub returns-in-Line-clause-rests : goal.returns-in-Line-clause-rests
returns-in-Line-clause-rests c = λ limits b ended given stands.
    let s = c.args.self.now in
    let none = no_ending s.ending (sym c.is_some.ensures ∙ c.if-is_some.false) in
    let going = going_of s limits c.args.names.now b ended given none stands in
    let same = going.counted.same in
    let before = subst (λ (l : Limits). Along s.lines s.standing s.pending l c.args.names.now b ended given s.line) (sym same) going.along in
    let after = (rw c.in-Line.is at c.in_ok-take_lines.ensures.after) b ended given s.line before in
    rests_going _ limits c.take_lines.new.names b ended given none (record {
      counted = record { same = same; total = going.counted.total; told = going.counted.told };
      along = subst (λ (l : Limits). Along c.take_lines.new.lines c.take_lines.new.standing c.take_lines.new.pending l c.take_lines.new.names b ended given s.line) same after;
    }) (λ idle. absurd (c.in_ok-take_lines.ensures.waits c.in-Line.is idle))

pub returns-in-All-clause-rests : goal.returns-in-All-clause-rests
returns-in-All-clause-rests c = λ limits b ended given stands.
    let s = c.args.self.now in
    let none = no_ending s.ending (sym c.is_some.ensures ∙ c.if-is_some.false) in
    let going = going_of s limits c.args.names.now b ended given none stands in
    let same = going.counted.same in
    let before = subst (λ (l : Limits). Along s.lines s.standing s.pending l c.args.names.now b ended given s.line) (sym same) going.along in
    let after = (rw c.in-All.is at c.in_ok-take_lines.ensures.after) b ended given s.line before in
    c.settle.ensures.rests limits c.take_lines.new.names b ended given none (c.in_ok-take_lines.ensures.idle c.in-All.is)
    (record { same = same; total = going.counted.total; told = going.counted.told })
    (subst (λ (l : Limits). TookAll c.take_lines.new.lines c.take_lines.new.standing c.take_lines.new.pending l c.take_lines.new.names b ended given s.line) same after)

pub returns-in-Broken-clause-rests : goal.returns-in-Broken-clause-rests
returns-in-Broken-clause-rests c = λ limits b ended given stands.
    let s = c.args.self.now in
    let none = no_ending s.ending (sym c.is_some.ensures ∙ c.if-is_some.false) in
    let going = going_of s limits c.args.names.now b ended given none stands in
    let same = going.counted.same in
    let before = subst (λ (l : Limits). Along s.lines s.standing s.pending l c.args.names.now b ended given s.line) (sym same) going.along in
    let after = (rw c.in-Broken.is at c.in_ok-take_lines.ensures.after) b ended given s.line before in
    c.break_off.ensures.rests limits c.take_lines.new.names b ended given
    (subst (λ (l : Limits). Broke c.take_lines.new.standing c.take_lines.new.pending l c.take_lines.new.names b ended given s.line c.in-Broken.fault) same after)
