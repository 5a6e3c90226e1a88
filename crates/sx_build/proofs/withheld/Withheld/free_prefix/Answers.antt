use Rattle.std.proofs.Common.{◌+◌, ◌∷◌, ◌++◌, length, ap, sym, ◌∙◌}
use Rattle.sx_build.specs.FixUp.{prefixes, is_text_among}
use Rattle.sx_build.specs.InForce.{in_force}
use Rattle.sx_build.specs.Kept.{name_prefixes}
use Rattle.sx_build.proofs.Taken.{next_number}
use Rattle.sx_build.proofs.withheld.Withheld.free_prefix.Goals as goal

pub loop-number-preserved : goal.loop-number-preserved
loop-number-preserved c =
    let me = c.args.self.now in
    let taken = prefixes (me.declared.items ++ in_force c.args.outer.now) ++ me.prefix ∷ name_prefixes me.names.items in
    let count = length c.as_slice-own.result.now + length c.args.outer.now + length c.as_slice-names.result.now + 3 in
    sym (next_number taken count c.loop-number.number c.in_ok-prefix.prefix c.loop-number-test.true c.in_ok-prefix.ensures
    (c.if-not-is_taken.ensures ∙ ap (is_text_among taken) c.as_str.ensures))
    ∙ c.loop-number.invariant
