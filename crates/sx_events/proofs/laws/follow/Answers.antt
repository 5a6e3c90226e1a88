use Rattle.std.proofs.Common.{[]}
use Rattle.sx_events.proofs.InTrees.{follow_in_tree}
use Rattle.sx_events.proofs.Nests.{all_follow}
use Rattle.sx_events.specs.Course.{events_of, whats}
use Rattle.sx_events.proofs.laws.follow.Goals as goal

pub returns : goal.returns
returns c = λ limits b ended. follow_in_tree [] (whats (events_of limits b ended)) (all_follow limits b ended)
