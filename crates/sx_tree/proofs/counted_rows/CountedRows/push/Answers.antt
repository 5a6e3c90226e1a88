-- The event adds the nodes that were asked for.
use Rattle.std.proofs.Common.{◌≡◌, refl, ap, arith}
use Rattle.std.proofs.lemmas.Bool.Decides.{nat_tests}
use Rattle.sx_tree.specs.Events.{tree_event}
use Rattle.sx_tree.specs.OpenTree.{Table}
use Rattle.sx_tree.proofs.Counting.{node_count-event}
use Rattle.sx_tree.proofs.counted_rows.CountedRows.push.Goals as goal

pub returns-then-not-has_room_for-clause-exactly :
    goal.returns-then-not-has_room_for-clause-exactly
returns-then-not-has_room_for-clause-exactly c =
    let count = node_count-event c.args.self.now.places (tree_event c.args.event.now) in
    let full = c.if-not-has_room_for.ensures in
    (λ _. grind (arith, nat_tests, count, full, c.begun_nodes.ensures), λ _. refl)

pub returns-in_ok-begin-in-Some-clause-exactly : goal.returns-in_ok-begin-in-Some-clause-exactly
returns-in_ok-begin-in-Some-clause-exactly c =
    let count = node_count-event c.args.self.now.places (tree_event c.args.event.now) in
    let room = c.if-not-has_room_for.ensures in
    let limit : c.self.inside.limit ≡ c.args.self.now.limit = ap (λ (t : Table). t.limit) c.self.view_is in
    (λ is. absurd (cc), λ more. absurd (grind (arith, nat_tests, count, room, c.begun_nodes.ensures, c.self.invariant.small, limit)))
