use Rattle.std.proofs.Common.{◌∙◌, ap}
use Rattle.std.proofs.lemmas.List.{take_rest}
use Rattle.std.specs.List.{position_or_len}
use Rattle.sx_esis.proofs.ReplaceLemmas.{is_mark, move_cut, move_comes}
use Rattle.sx_esis.proofs.escapes.move_plain.Goals as goal

pub returns-clause-cut : goal.returns-clause-cut
returns-clause-cut c =
    let bytes = c.args.bytes.now in
    let places = c.args.places in
    let is = c.place_of-count.ensures.place ∙ ap (position_or_len is_mark) (take_rest bytes places.read) in
    move_cut bytes places.written places.read c.place_of-count.result c.requires.order c.requires.within is c.copy_within.new.self c.copy_within.ensures.after

pub returns-clause-same : goal.returns-clause-same
returns-clause-same c =
    let bytes = c.args.bytes.now in
    let places = c.args.places in
    let is = c.place_of-count.ensures.place ∙ ap (position_or_len is_mark) (take_rest bytes places.read) in
    move_comes bytes places.written places.read c.place_of-count.result c.requires.order c.requires.within is c.copy_within.new.self c.copy_within.ensures.after
