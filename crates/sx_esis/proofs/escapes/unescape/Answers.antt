use Rattle.sx_esis.proofs.ReplaceLemmas.{first_cut, first_comes}
use Rattle.sx_esis.proofs.escapes.unescape.Goals as goal

pub loop-places-init : goal.loop-places-init
loop-places-init c = record {
  cut = first_cut c.args.bytes.now c.place_of-plain.result c.place_of-plain.ensures.place;
  same = first_comes c.args.bytes.now c.place_of-plain.result c.place_of-plain.ensures.place;
}
