use Rattle.sx_fn_text.proofs.Finds.{before_found, before_none}
use Rattle.sx_fn_text.proofs.places.before.Goals as goal

pub returns-in-Some : goal.returns-in-Some
returns-in-Some c = let h = c.in-Some.ensures.cases in before_found c.args.s.now c.args.t.now c.in-Some.front.now c.in-Some.field-0-1.now c.utf8.s c.utf8.t h

pub returns-in-None : goal.returns-in-None
returns-in-None c = before_none c.args.s.now c.args.t.now c.utf8.s c.utf8.t c.in-None.ensures.cases
