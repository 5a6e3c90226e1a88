use Rattle.std.proofs.Common.{◌∙◌, sym, inl, inr, arith}
use Rattle.sx_esis.proofs.ReaderLemmas.{line_judged, long_fails, gave_all, rest_judged}
use Rattle.sx_esis.proofs.reader.LineReader.go_on.Goals as goal
use Rattle.sx_esis.proofs.reader.LineReader.go_on.Goals.{then-rest-eq0-via-then-rest-eq0, then-rest-eq0-via-else-rest-eq0+then-not-self}

pub returns-in-Some-clause-gives : goal.returns-in-Some-clause-gives
returns-in-Some-clause-gives c = λ limit bytes ended given stands.
    line_judged limit bytes ended given c.args.self.now stands c.find_line.new.self c.take_line.new.self c.in-Some.line_length _ _ c.requires
    c.find_line.ensures.rest c.in-Some.ensures.found c.take_line.ensures.line c.take_line.ensures.rest c.judge.ensures

pub returns-then-rest-self-clause-gives : goal.returns-then-rest-self-clause-gives
returns-then-rest-self-clause-gives c = λ limit bytes ended given stands.
    long_fails limit bytes ended given c.args.self.now stands c.find_line.new.self _ _ c.requires
    c.find_line.ensures.rest c.in_default.ensures.found (omega (arith, c.waiting_len-rest.ensures)) c.fail.ensures.fails c.fail.ensures.which

pub returns-then-rest-eq0-clause-gives : goal.returns-then-rest-eq0-clause-gives
returns-then-rest-eq0-clause-gives c = λ limit bytes ended given stands.
    gave_all limit bytes ended given c.args.self.now stands c.find_line.new.self c.requires
    c.find_line.ensures.rest c.in_default.ensures.found (omega (arith, c.waiting_len-rest.ensures))
    (elim c.then-rest-eq0.branch [
      | then-rest-eq0-via-then-rest-eq0 w ↦ inl (sym c.waiting_len-rest.ensures ∙ w.if-rest-eq0.true)
      | then-rest-eq0-via-else-rest-eq0+then-not-self w ↦ inr w.if-not-self.true
    ])

pub returns-clause-gives : goal.returns-clause-gives
returns-clause-gives c = λ limit bytes ended given stands.
    rest_judged limit bytes ended given c.args.self.now stands c.find_line.new.self c.take_rest.new.self _ _ c.requires
    c.find_line.ensures.rest c.in_default.ensures.found (omega (arith, c.waiting_len-rest.ensures)) (let some = c.if-rest-eq0.false in omega (arith, c.waiting_len-rest.ensures)) c.if-not-self.false
    c.take_rest.ensures.line c.take_rest.ensures.rest c.judge-2.ensures
