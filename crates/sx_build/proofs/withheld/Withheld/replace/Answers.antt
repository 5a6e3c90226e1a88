use Rattle.std.proofs.Common.{set, refl, sym, subst, ◌∙◌}
use Rattle.std.proofs.lemmas.Result.{on_ok_weaker}
use Rattle.sx_build.specs.declared.withheld.Withheld.{Withheld}
use Rattle.sx_build.specs.InForce.{in_force}
use Rattle.sx_build.specs.Kept.{with_one, HoldsAs}
use Rattle.sx_build.proofs.Holding.{FixedAnew, kept_holds, replaced_holds}
use Rattle.sx_build.proofs.withheld.Withheld.replace.Goals as goal

pub returns : goal.returns
returns c =
    on_ok_weaker c.fix_anew.result
    (λ fixed h s are in_place.
    let me = c.args.self.now in
    let bound = in_force c.args.outer.now in
    let v = c.set_value.new.self in
    let u = c.fix_anew.new.self in
    let h' = with_one h (record { name = c.args.name; value = c.args.value }) in
    kept_holds bound h' v u c.fix_anew.ensures.kept
    (subst (λ (x : Withheld). FixedAnew bound x u → HoldsAs bound h' x.name x.prefix x.own u.declared.items u.pairs.items x.names.items)
    (sym c.set_value.ensures.kept)
    (replaced_holds bound h me.name me.prefix me.own me.declared.items me.pairs.items me.names.items s c.args.at c.len.result c.args.name c.args.value
    (set me.names.items c.args.at c.args.name) v.pairs.items u.pairs.items u.declared.items are c.requires (c.len.ensures ∙ me.declared.ok.0) in_place refl c.set_value.ensures.pairs)
    fixed))
    c.fix_anew.ensures.fixed
