use Rattle.std.proofs.Common.{true, false, ◌∷◌, ◌++◌, take, ap, ◌∙◌}
use Rattle.sx_build.specs.FixUp.{is_in_use, prefixes, free_prefix}
use Rattle.sx_build.specs.InForce.{in_force}
use Rattle.sx_build.specs.Kept.{name_prefixes}
use Rattle.sx_build.proofs.Taken.{name_there, binding_by}
use Rattle.sx_build.proofs.withheld.Withheld.binding_for.Goals as goal

pub returns-then-is_in_use : goal.returns-then-is_in_use
returns-then-is_in_use c = λ name at.
    let me = c.args.self.now in
    let used = me.prefix ∷ name_prefixes (take c.args.at me.names.items) in
    let free = free_prefix (prefixes (me.declared.items ++ in_force c.args.outer.now) ++ me.prefix ∷ name_prefixes me.names.items) in
    let found = c.index-name.result.now in
    c.new.ensures
    ∙ binding_by true used free c.in_ok-free_prefix.field-0 c.in_ok-uri.uri name found (name_there me.names.items c.args.at found name c.index-name.ensures at)
    (c.if-is_in_use.ensures ∙ ap (is_in_use used) c.prefix.ensures) c.in_ok-free_prefix.ensures (c.in_ok-uri.ensures ∙ c.uri.ensures)

pub returns : goal.returns
returns c = λ name at.
    let me = c.args.self.now in
    let used = me.prefix ∷ name_prefixes (take c.args.at me.names.items) in
    let free = free_prefix (prefixes (me.declared.items ++ in_force c.args.outer.now) ++ me.prefix ∷ name_prefixes me.names.items) in
    let found = c.index-name.result.now in
    c.new-2.ensures
    ∙ binding_by false used free c.in_ok-copy.field-0 c.in_ok-uri.uri name found (name_there me.names.items c.args.at found name c.index-name.ensures at)
    (c.if-is_in_use.ensures ∙ ap (is_in_use used) c.prefix.ensures) (c.in_ok-copy.ensures ∙ c.prefix-2.ensures) (c.in_ok-uri.ensures ∙ c.uri.ensures)
