use Rattle.sx_machine.proofs.Places.{place_more}
use Rattle.sx_machine.proofs.rule_table.places_from.Goals as goal

pub loop-place-preserved : goal.loop-place-preserved
loop-place-preserved c = (
  λ n known. place_more c.args.rules.now c.loop-place.place n c.index-rules-place.result _ _ c.loop-place-test.true c.index-rules-place.is
      (c.loop-place.invariant.0 n known) (c.in_ok-note.ensures.noted n known),
  c.in_ok-note.ensures.bound c.loop-place.invariant.1,
)
