use Rattle.std.proofs.Common.{◌∙◌, ap, sym, length}
use Rattle.sx_lex.proofs.Runs.{run_front, no_first_front, empty_front}
use Rattle.sx_lex.proofs.names.ncname_size.Goals as goal

pub returns-in-None : goal.returns-in-None
returns-in-None c = empty_front c.args.text.now c.utf8.text (ap length (sym c.chars.ensures.rest) ∙ c.in-None.ensures.steps.0.0)

pub returns-then-is_first : goal.returns-then-is_first
returns-then-is_first c =
    run_front c.args.text.now c.next.new.self.rest.now c.in-Some.first c.run_size.result c.utf8.text (sym c.chars.ensures.rest ∙ c.in-Some.ensures.steps.0)
    (sym c.is_first.ensures ∙ c.if-is_first.true) c.run_size.ensures

pub returns-else-is_first : goal.returns-else-is_first
returns-else-is_first c =
    no_first_front c.args.text.now c.next.new.self.rest.now c.in-Some.first c.utf8.text (sym c.chars.ensures.rest ∙ c.in-Some.ensures.steps.0)
    (sym c.is_first.ensures ∙ c.if-is_first.false)
