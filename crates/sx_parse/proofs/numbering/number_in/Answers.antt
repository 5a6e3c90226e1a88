use Rattle.std.proofs.Common.{◌∙◌, arith}
use Rattle.sx_parse.proofs.Raising.{down_ended, down_raised, down_smaller, down_room, up_ended, up_raised, up_smaller}
use Rattle.sx_parse.proofs.numbering.number_in.Goals as goal

pub opened-requires-in-Some : goal.opened-requires-in-Some
opened-requires-in-Some c =
    omega (
      arith,
      down_room c.loop-part.levels _ c.loop-part.level c.loop-part.level c.pop.new.self c.in-Some.part c.loop-part.at.next 0 c.in-Some.ensures c.in_ok-push.ensures.ok,
      c.loop-part.invariant.next,
      c.requires,
    )

pub loop-part-smaller-in-Some : goal.loop-part-smaller-in-Some
loop-part-smaller-in-Some c =
    down_smaller c.loop-part.levels c.push.new.self c.loop-part.level c.in_ok-level-2.level c.pop.new.self c.in-Some.part c.loop-part.at.next 0 c.in-Some.ensures
    c.in_ok-push.ensures.ok c.in_ok-level-2.ensures.size

pub loop-part-preserved-in-Some : goal.loop-part-preserved-in-Some
loop-part-preserved-in-Some c = record {
  expr =
      down_raised c.loop-part.levels c.push.new.self c.loop-part.level c.in_ok-level-2.level c.pop.new.self c.in-Some.part c.loop-part.at.next
      c.opened-in-Some.new.at.next c.in-Some.ensures c.in_ok-push.ensures.ok c.in_ok-level-2.ensures.expr c.in_ok-level-2.ensures.next
      ∙ c.loop-part.invariant.expr;
  next =
      down_ended c.loop-part.levels c.push.new.self c.loop-part.level c.in_ok-level-2.level c.pop.new.self c.in-Some.part c.loop-part.at.next
      c.opened-in-Some.new.at.next c.in-Some.ensures c.in_ok-push.ensures.ok c.in_ok-level-2.ensures.next
      ∙ c.loop-part.invariant.next;
  line = c.in_ok-level-2.ensures.line ∙ c.loop-part.invariant.line;
}

pub loop-part-smaller : goal.loop-part-smaller
loop-part-smaller c =
    up_smaller c.pop-in-loop-part.new.self c.loop-part.levels c.loop-part.level c.in-Some-pop.outer c.push-in-loop-part.new.self c.closed-made.result
    c.loop-part.at.next c.in_default.ensures.0 c.in-Some-pop.ensures

pub loop-part-preserved : goal.loop-part-preserved
loop-part-preserved c = record {
  expr =
      up_raised c.pop-in-loop-part.new.self c.loop-part.levels c.loop-part.level c.in-Some-pop.outer c.push-in-loop-part.new.self c.closed-made.result
      c.loop-part.at.next c.in_default.ensures.0 c.in-Some-pop.ensures c.closed-made.ensures c.in_ok-push-2.ensures.ok
      ∙ c.loop-part.invariant.expr;
  next =
      up_ended c.pop-in-loop-part.new.self c.loop-part.levels c.loop-part.level c.in-Some-pop.outer c.push-in-loop-part.new.self c.closed-made.result
      c.loop-part.at.next c.in_default.ensures.0 c.in-Some-pop.ensures
      ∙ c.loop-part.invariant.next;
  line = c.loop-part.invariant.line;
}
