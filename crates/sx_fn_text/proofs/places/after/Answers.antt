use Rattle.sx_fn_text.proofs.Finds.{after_found, after_none}
use Rattle.sx_fn_text.proofs.places.after.Goals as goal

pub returns-in-Some : goal.returns-in-Some
returns-in-Some c = let h = c.in-Some.ensures.cases in after_found c.args.s.now c.args.t.now c.in-Some.field-0-0.now c.in-Some.back.now c.utf8.s c.utf8.t h

pub returns-in-None : goal.returns-in-None
returns-in-None c = after_none c.args.s.now c.args.t.now c.utf8.s c.utf8.t c.in-None.ensures.cases
