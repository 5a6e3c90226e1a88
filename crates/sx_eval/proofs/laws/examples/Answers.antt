use Rattle.std.proofs.Common.{refl}
use Rattle.sx_eval.proofs.laws.examples.Goals as goal

pub returns : goal.returns
returns c = record {
  closed_child = refl;
  open_child = refl;
  text = refl;
  attribute = refl;
  count = refl;
  sum = refl;
  faulty_predicate = refl;
  left_first = refl;
  right_second = refl;
  operand = refl;
  at_each = refl;
  values_first = refl;
  first = refl;
  last = refl;
  in_order = refl;
  stopped_union = refl;
  in_turn = refl;
  not_reached = refl;
  parent = refl;
  descendants = refl;
  through_parents = refl;
  root = refl;
  copy = refl;
  open_copy = refl;
  in_copy = refl;
  exists = refl;
  empty = refl;
  truth = refl;
  choice = refl;
  for_each = refl;
  some_item = refl;
  every_item = refl;
  unknown = refl;
  no_group = refl;
  position = refl;
  string = refl;
  name = refl;
  range = refl;
  step_at_atom = refl;
  union_at_atom = refl;
}
