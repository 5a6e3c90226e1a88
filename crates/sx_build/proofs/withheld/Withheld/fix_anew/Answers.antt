use Rattle.std.proofs.Common.{◌≡◌, ◌+◌, ℕ, List, length, take, drop, slice_get, ap, ap₂, sym, subst, ◌∙◌, arith}
use Rattle.sx_lines.specs.declared.events.Pair.{Pair}
use Rattle.sx_build.specs.declared.withheld.Withheld.{Withheld}
use Rattle.sx_build.specs.Build.{declaration_pairs}
use Rattle.sx_build.specs.InForce.{in_force}
use Rattle.sx_build.specs.Kept.{attributes_with, fixed_anew, fixed_pairs}
use Rattle.sx_build.proofs.Anew.{next_fixed, all_fixed, pair_behind}
use Rattle.sx_build.proofs.withheld.Withheld.fix_anew.Goals as goal

pub loop-at-preserved : goal.loop-at-preserved
loop-at-preserved c = record {
  kept = c.in_ok-place.ensures.kept ∙ ap (λ (w : Withheld). record w { declared = c.place.new.self.declared; pairs = c.place.new.self.pairs }) c.loop-at.invariant.kept;
  fixed = λ own_pairs enough.
      let w = c.loop-at.self in
      let kept = c.loop-at.invariant.kept in
      let bound = in_force c.args.outer.now in
      let own = c.truncate.new.self.items in
      let tail = drop c.len-skip.result c.replace-old.result.items in
      let same : length w.names.items ≡ length c.args.self.now.names.items = ap (λ (v : Withheld). length v.names.items) kept in
      subst
      (λ (v : Withheld).
      let f = fixed_anew bound v.prefix v.names.items own (take (c.loop-at.at + 1) (attributes_with v.names.items tail)) in
      (c.place.new.self.declared.items ≡ f.declared) × (c.place.new.self.pairs.items ≡ fixed_pairs f))
      kept
      (next_fixed bound w.prefix w.names.items own tail c.loop-at.at
      (omega (arith, c.loop-at-test.true, c.len-at-end.ensures, c.args.self.now.names.ok.0, same)) (omega (arith, same, enough))
      w.declared.items c.place.new.self.declared.items w.pairs.items c.place.new.self.pairs.items c.in_ok-value.value
      (λ p is. c.in_ok-value.ensures p
      (ap (λ (ps : List Pair). slice_get ps (c.len-skip.result + c.loop-at.at)) c.deref-in-loop-at.ensures.value
      ∙ pair_behind c.replace-old.result.items c.len-skip.result c.loop-at.at p is))
      c.in_ok-place.ensures.declared
      c.in_ok-place.ensures.pairs
      (subst
      (λ (v : Withheld).
      let f = fixed_anew bound v.prefix v.names.items own (take c.loop-at.at (attributes_with v.names.items tail)) in
      (w.declared.items ≡ f.declared) × (w.pairs.items ≡ fixed_pairs f))
      (sym kept)
      (c.loop-at.invariant.fixed own_pairs enough)));
}

pub returns-clause-fixed : goal.returns-clause-fixed
returns-clause-fixed c = λ own_pairs enough.
    let me = c.args.self.now in
    let tail : drop c.len-skip.result c.replace-old.result.items ≡ drop (length me.declared.items) me.pairs.items =
    ap₂ (λ (n : ℕ) (ps : List Pair). drop n ps) (c.len-skip.ensures ∙ me.declared.ok.0) (rw c.replace-old.ensures.value) in
    all_fixed (in_force c.args.outer.now) me.prefix me.names.items c.truncate.new.self.items (take me.own me.declared.items)
    (drop c.len-skip.result c.replace-old.result.items) (drop (length me.declared.items) me.pairs.items) c.loop-at.at
    c.loop-at.self.declared.items c.loop-at.self.pairs.items c.truncate.ensures.items tail
    (omega (arith, c.loop-at-test.false, c.len-at-end.ensures, me.names.ok.0))
    (c.loop-at.invariant.fixed
    (rw c.replace-old.ensures.after (c.in_ok-own.ensures ∙ ap (take me.own) c.deref.ensures.value) ∙ own_pairs ∙ ap declaration_pairs (sym c.truncate.ensures.items))
    (omega (arith, enough, ap length tail)))
