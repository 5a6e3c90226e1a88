use Rattle.std.proofs.Common.{◌∙◌, sym, ap}
use Rattle.std.specs.List.{position}
use Rattle.sx_chars.specs.Names.{is_white_space}
use Rattle.sx_chars.proofs.Places.{space_byte, space_parts, space_none}
use Rattle.sx_chars.proofs.names.split_at_space.Goals as goal

pub split_at-requires : goal.split_at-requires
split_at-requires c = space_byte c.args.text.now c.in-Some.place (sym c.in-Some.is ∙ c.space_place.ensures ∙ ap (position is_white_space) c.as_bytes.ensures.value)

pub returns-in-None-clause-before : goal.returns-in-None-clause-before
returns-in-None-clause-before c = (space_none c.args.text.now (sym c.in-None.is ∙ c.space_place.ensures ∙ ap (position is_white_space) c.as_bytes.ensures.value)).0

pub returns-in-None-clause-from : goal.returns-in-None-clause-from
returns-in-None-clause-from c = (space_none c.args.text.now (sym c.in-None.is ∙ c.space_place.ensures ∙ ap (position is_white_space) c.as_bytes.ensures.value)).1

pub returns-in-Some-clause-before : goal.returns-in-Some-clause-before
returns-in-Some-clause-before c =
    c.split_at.ensures.front
    ∙ (space_parts c.args.text.now c.in-Some.place (sym c.in-Some.is ∙ c.space_place.ensures ∙ ap (position is_white_space) c.as_bytes.ensures.value)).0

pub returns-in-Some-clause-from : goal.returns-in-Some-clause-from
returns-in-Some-clause-from c =
    c.split_at.ensures.back
    ∙ (space_parts c.args.text.now c.in-Some.place (sym c.in-Some.is ∙ c.space_place.ensures ∙ ap (position is_white_space) c.as_bytes.ensures.value)).1
