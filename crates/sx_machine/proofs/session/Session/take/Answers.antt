use Rattle.std.proofs.Common.{ap, refl, subst}
use Rattle.std.proofs.lemmas.Result.{on_ok_weaker}
use Rattle.sx_tree.specs.declared.events.Event.{Event}
use Rattle.sx_named.specs.Named.{NamedElement, named_in_tree, name_at, attributes_at, IsKnown}
use Rattle.sx_tree.specs.Tree.{TreeEvent, tree_of, starts, ends, says, instructs, closes}
use Rattle.sx_machine.specs.Growth.{MayCome}
use Rattle.sx_machine.proofs.Events.{stands_more}
use Rattle.sx_machine.proofs.session.Session.take.Goals as goal

pub returns-in-Start-clause-stands : goal.returns-in-Start-clause-stands
returns-in-Start-clause-stands c = on_ok_weaker c.start_element.result (λ started sheet known invocations p given keeps distinct numbers follows s.
    let names = c.args.names.now in
    let e : NamedElement = record { name = name_at names c.in-Start.label; attributes = attributes_at names c.in-Start.attrs } in
    let there = subst (λ (event : Event). IsKnown names event) c.in-Start.is numbers in
    stands_more sheet known invocations _ p (named_in_tree names c.args.e) (starts e) given (ap (named_in_tree names) c.in-Start.is)
    (started sheet known invocations (tree_of p) e given keeps distinct there.0 refl refl follows.not_closed s)) c.start_element.ensures.ok

pub returns-in-End-clause-stands : goal.returns-in-End-clause-stands
returns-in-End-clause-stands c = on_ok_weaker c.end_element.result (λ ended sheet known invocations p given keeps distinct numbers follows s.
    stands_more sheet known invocations _ p (named_in_tree c.args.names.now c.args.e) ends given (ap (named_in_tree c.args.names.now) c.in-End.is)
    (ended sheet known invocations (tree_of p) given keeps follows.not_closed s)) c.end_element.ensures.ok

pub returns-in-Text-clause-stands : goal.returns-in-Text-clause-stands
returns-in-Text-clause-stands c = on_ok_weaker c.say.result (λ said sheet known invocations p given keeps distinct numbers follows s.
    stands_more sheet known invocations _ p (named_in_tree c.args.names.now c.args.e) (says c.in-Text.text) given (ap (named_in_tree c.args.names.now) c.in-Text.is)
    (said sheet known invocations (tree_of p) given follows.not_closed s)) c.say.ensures.ok

pub returns-in-Pi-clause-stands : goal.returns-in-Pi-clause-stands
returns-in-Pi-clause-stands c = on_ok_weaker c.instruct.result (λ instructed sheet known invocations p given keeps distinct numbers follows s.
    stands_more sheet known invocations _ p (named_in_tree c.args.names.now c.args.e) (instructs c.in-Pi.target c.in-Pi.content) given (ap (named_in_tree c.args.names.now) c.in-Pi.is)
    (instructed sheet known invocations (tree_of p) given follows.not_closed s)) c.instruct.ensures.ok

pub returns-clause-stands : goal.returns-clause-stands
returns-clause-stands c = λ sheet known invocations p given keeps distinct numbers follows s.
    let at : MayCome p closes = subst (λ (h : TreeEvent NamedElement). MayCome p h) (ap (named_in_tree c.args.names.now) c.in-Close.is) follows in
    stands_more sheet known invocations _ p (named_in_tree c.args.names.now c.args.e) closes given (ap (named_in_tree c.args.names.now) c.in-Close.is)
    (c.close.ensures.stands sheet known invocations (tree_of p) given at.not_closed at.whole s)
