use Rattle.std.proofs.Common.{Bool, cond, [], ◌∷◌, ◌++◌, ap, sym, ◌∙◌}
use Rattle.sx_build.specs.Course.{constructed}
use Rattle.sx_build.proofs.Requests.{stands_ended, none_left, one_left}
use Rattle.sx_build.proofs.builder.Builder.finish.Goals as goal

pub returns-in-Some-clause-stands : goal.returns-in-Some-clause-stands
returns-in-Some-clause-stands c = λ asked given s.
    let me = c.args.self.now in
    let c' = constructed asked in
    stands_ended me (record me { pending = c.push.new.self; withheld = c.take.new.self }) asked given s c.take.ensures.after
    (one_left c'.elements c'.held me s.fixed c.push.new.self.items c.in-Some.start c.into_parts-event.result.0
    (sym c.in-Some.ensures.value) s.keeps.withholds c.into_parts-event.ensures.event
    (λ room. c.push.ensures.items
    ∙ ap (λ (done : Bool). cond done (me.pending.items ++ c.into_parts-event.result.0 ∷ []) me.pending.items) (c.push.ensures.succeeds room)))

pub returns-in-None-clause-stands : goal.returns-in-None-clause-stands
returns-in-None-clause-stands c = λ asked given s.
    let me = c.args.self.now in
    let c' = constructed asked in
    stands_ended me (record me { withheld = c.take.new.self }) asked given s c.take.ensures.after
    (none_left c'.elements c'.held me s.fixed (sym c.in-None.ensures.value) s.keeps.withholds)
