use Rattle.std.proofs.Common.{ℕ, not, List, ◌∷◌, ap, sym, subst, ◌∙◌, arith}
use Rattle.std.proofs.lemmas.Result.{on_ok_weaker}
use Rattle.sx_build.specs.declared.withheld.Withheld.{Withheld}
use Rattle.sx_build.specs.InForce.{in_force}
use Rattle.sx_build.specs.Kept.{with_one, name_prefixes, HoldsAs}
use Rattle.std.specs.Prelude.{◌&&◌}
use Rattle.sx_build.specs.FixUp.{is_text_among, prefixes}
use Rattle.sx_build.proofs.Holding.{FixedAnew, kept_holds, few, appended_holds, placed_holds}
use Rattle.sx_build.proofs.withheld.Withheld.append.Goals as goal

pub returns-then-given : goal.returns-then-given
returns-then-given c =
    on_ok_weaker c.fix_anew.result
    (λ fixed h s are behind.
    let me = c.args.self.now in
    let bound = in_force c.args.outer.now in
    let v = c.put.new.self in
    let u = c.fix_anew.new.self in
    let h' = with_one h (record { name = c.args.name; value = c.args.value }) in
    kept_holds bound h' v u c.fix_anew.ensures.kept
    (subst (λ (x : Withheld). FixedAnew bound x u → HoldsAs bound h' x.name x.prefix x.own u.declared.items u.pairs.items x.names.items)
    (sym c.put.ensures.kept)
    (appended_holds bound h me.name me.prefix me.own me.declared.items me.pairs.items me.names.items s c.args.name c.new.result c.args.value
    c.push.new.self.items v.pairs.items u.pairs.items u.declared.items are behind c.in_ok-push.ensures.items c.in_ok-put.ensures.pairs)
    fixed))
    c.fix_anew.ensures.fixed

pub returns : goal.returns
returns c = λ h s are behind.
    let me = c.args.self.now in
    let bound = in_force c.args.outer.now in
    let u = c.place.new.self in
    let h' = with_one h (record { name = c.args.name; value = c.args.value }) in
    subst (λ (x : Withheld). HoldsAs bound h' x.name x.prefix x.own u.declared.items u.pairs.items x.names.items) (sym c.place.ensures.kept)
    (placed_holds bound h me.name me.prefix me.own me.declared.items me.pairs.items me.names.items s c.args.name c.args.value
    c.push.new.self.items c.len-at.result u.pairs.items u.declared.items are behind c.in_ok-push.ensures.items (c.len-at.ensures ∙ me.names.ok.0)
    (c.if-given.ensures
    ∙ ap (λ (p : List ℕ). is_text_among (prefixes me.declared.items) p && not (is_text_among (me.prefix ∷ name_prefixes me.names.items) p)) c.prefix.ensures)
    (few me.declared.items c.args.outer.now me.names.items me.prefix (omega (arith, me.declared.ok, me.declared.small)) (omega arith) (omega (arith, me.names.ok, me.names.small))) c.in_ok-place.ensures.declared c.in_ok-place.ensures.pairs)
