use Rattle.std.proofs.Common.{ap, ◌∙◌}
use Rattle.std.specs.List.{position}
use Rattle.std.proofs.lemmas.Result.{on_ok_weaker}
use Rattle.sx_named.specs.Named.{Name, is_same_name}
use Rattle.sx_build.proofs.Positions.{in_place, behind_all}
use Rattle.sx_build.proofs.withheld.Withheld.add_named.Goals as goal

pub returns-in-Some : goal.returns-in-Some
returns-in-Some c =
    on_ok_weaker c.replace.result
    (λ done h s are.
    done h s are (in_place h.attributes c.args.self.now.names.items (record { name = c.args.name; value = c.args.value }) c.in-Some.at are
    (c.in-Some.ensures ∙ ap (position (λ (n : Name). is_same_name n c.args.name)) c.deref.ensures.value)))
    c.replace.ensures

pub returns-in-None : goal.returns-in-None
returns-in-None c =
    on_ok_weaker c.append.result
    (λ done h s are.
    done h s are (behind_all h.attributes c.args.self.now.names.items (record { name = c.args.name; value = c.args.value }) are
    (c.in-None.ensures ∙ ap (position (λ (n : Name). is_same_name n c.args.name)) c.deref.ensures.value)))
    c.append.ensures
