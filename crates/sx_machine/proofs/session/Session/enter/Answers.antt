use Rattle.std.proofs.Common.{Bool, ap, refl, sym, ◌∙◌}
use Rattle.std.proofs.lemmas.Result.{on_ok_weaker}
use Rattle.sx_named.specs.Named.{Name}
use Rattle.sx_machine.specs.Choice.{built_in_template, body_or, matches, last_that}
use Rattle.sx_machine.specs.Plan.{plan_of}
use Rattle.sx_machine.specs.Meaning.{is_copying_first}
use Rattle.sx_machine.proofs.Rules.{found, not_found}
use Rattle.sx_machine.proofs.Moves.{start_passed}
use Rattle.sx_machine.proofs.session.Session.enter.Goals as goal

pub returns-in-Some-clause-ok : goal.returns-in-Some-clause-ok
returns-in-Some-clause-ok c = on_ok_weaker c.invoke.result (λ invoked sheet known invocations d e given keeps distinct there name attributes o j s.
    let list = c.args.self.now.rules.list in
    let label = c.args.label in
    let is_copying = is_copying_first sheet.modes in
    invoked sheet known invocations d e given keeps
    (λ r at. ap (λ (n : Name). plan_of c.args.left (body_or known (built_in_template is_copying e) (last_that (matches known n) sheet.templates))) name
    ∙ found known c.args.names.now keeps distinct label there sheet.templates list s.ready.known s.rules_are (built_in_template is_copying e) c.args.left r
    (sym (s.places_are label.number) ∙ sym c.in-Some.ensures.found ∙ at))
    o j s) c.invoke.ensures.ok

pub returns-in-None-clause-ok : goal.returns-in-None-clause-ok
returns-in-None-clause-ok c = on_ok_weaker c.copy_element.result (λ copied sheet known invocations d e given keeps distinct there name attributes o j s.
    let list = c.args.self.now.rules.list in
    let label = c.args.label in
    let is_copying = is_copying_first sheet.modes in
    copied sheet known invocations d e given name attributes
    (ap (λ (n : Name). body_or known (built_in_template is_copying e) (last_that (matches known n) sheet.templates)) name
    ∙ not_found known c.args.names.now keeps distinct label there sheet.templates list s.ready.known s.rules_are (built_in_template is_copying e)
    (sym (s.places_are label.number) ∙ sym c.in-None.ensures.found)
    ∙ ap (λ (b : Bool). built_in_template b e) (sym s.copying_is ∙ c.if-self.true))
    o j s) c.copy_element.ensures.ok

pub returns-in-None-2-clause-ok : goal.returns-in-None-2-clause-ok
returns-in-None-2-clause-ok c = on_ok_weaker c.push.result (λ more sheet known invocations d e given keeps distinct there name attributes o j s.
    let list = c.args.self.now.rules.list in
    let label = c.args.label in
    let is_copying = is_copying_first sheet.modes in
    start_passed sheet known invocations c.args.self.now d given s c.requires o _ refl refl refl e _ c.args.left j
    (ap (λ (n : Name). body_or known (built_in_template is_copying e) (last_that (matches known n) sheet.templates)) name
    ∙ not_found known c.args.names.now keeps distinct label there sheet.templates list s.ready.known s.rules_are (built_in_template is_copying e)
    (sym (s.places_are label.number) ∙ sym c.in-None.ensures.found)
    ∙ ap (λ (b : Bool). built_in_template b e) (sym s.copying_is ∙ c.if-self.false))
    refl more refl c.requires) c.push.ensures.ok
