use Rattle.std.proofs.Common.{◌∙◌, sym, ap}
use Rattle.std.specs.List.{position}
use Rattle.sx_chars.proofs.Places.{is_content, content_byte, content_part, content_none}
use Rattle.sx_chars.proofs.names.without_leading_space.Goals as goal

pub range_from-requires : goal.range_from-requires
range_from-requires c = content_byte c.args.text.now c.in-Some.place c.utf8.text (sym c.in-Some.is ∙ c.content_place.ensures ∙ ap (position is_content) c.as_bytes.ensures.value)

pub returns-in-None : goal.returns-in-None
returns-in-None c = content_none c.args.text.now (sym c.in-None.is ∙ c.content_place.ensures ∙ ap (position is_content) c.as_bytes.ensures.value)

pub returns-in-Some : goal.returns-in-Some
returns-in-Some c =
    c.range_from.ensures.value
    ∙ content_part c.args.text.now c.in-Some.place (sym c.in-Some.is ∙ c.content_place.ensures ∙ ap (position is_content) c.as_bytes.ensures.value)
