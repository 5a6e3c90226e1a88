use Rattle.std.proofs.Common.{◌∙◌, sym}
use Rattle.sx_chars.proofs.Ascii.{begun, not_begun}
use Rattle.sx_chars.proofs.names.has_name_characters.Goals as goal

pub returns-then-is_first : goal.returns-then-is_first
returns-then-is_first c =
    c.are_further.ensures
    ∙ begun c.args.text.now c.next.new.self.rest.now c.in-Some.first c.utf8.text (sym c.chars.ensures.rest ∙ c.in-Some.ensures.steps.0) (sym c.is_first.ensures ∙ c.if-is_first.true)

pub returns-else-is_first : goal.returns-else-is_first
returns-else-is_first c =
    c.if-is_first.false
    ∙ not_begun c.args.text.now c.next.new.self.rest.now c.in-Some.first c.utf8.text (sym c.chars.ensures.rest ∙ c.in-Some.ensures.steps.0) (sym c.is_first.ensures ∙ c.if-is_first.false)
