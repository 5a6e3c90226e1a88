use Rattle.std.proofs.Common.{refl}
use Rattle.sx_named.specs.Named.{named_in_tree}
use Rattle.sx_tree.specs.Tree.{tree_of}
use Rattle.sx_machine.proofs.Events.{stands_more}
use Rattle.sx_machine.proofs.Machine.{stands_stopped, never_closed}
use Rattle.sx_machine.proofs.session.Session.feed.Goals as goal

pub returns-in-Stopped-clause-stands : goal.returns-in-Stopped-clause-stands
returns-in-Stopped-clause-stands c = λ sheet known invocations p given keeps distinct numbers follows s.
    let h = named_in_tree c.args.names.now c.args.e in
    stands_more sheet known invocations c.args.self.now p h h given refl
    (stands_stopped sheet known invocations c.args.self.now (tree_of p) given s h c.in-Stopped.code c.in-Stopped.is follows.not_closed follows.whole)

pub returns-in-Closed-clause-stands : goal.returns-in-Closed-clause-stands
returns-in-Closed-clause-stands c = λ sheet known invocations p given keeps distinct numbers follows s.
    absurd (never_closed sheet known invocations c.args.self.now (tree_of p) given s c.in-Closed.is follows.not_closed)
