use Rattle.std.proofs.Common.{◌≡◌, ◌≤◌, length, take, drop}
use Rattle.sx_build.specs.Build.{declaration_pairs}
use Rattle.sx_build.specs.InForce.{in_force}
use Rattle.sx_build.specs.Kept.{attributes_with, fixed_anew, fixed_pairs}
use Rattle.sx_build.proofs.withheld.Withheld.fix_anew.Given as goal

abbrev pub invariant-loop-at : goal.invariant-loop-at
invariant-loop-at l = record {
  kept : l.self ≡ record l.initial.self { declared = l.self.declared; pairs = l.self.pairs };
  fixed : let me = l.initial.self in
      let tail = drop l.skip l.old.items in
      let f = fixed_anew (in_force l.outer) me.prefix me.names.items me.declared.items (take l.at (attributes_with me.names.items tail)) in
      me.pairs.items ≡ declaration_pairs me.declared.items → length me.names.items ≤ length tail
      → (l.self.declared.items ≡ f.declared) × (l.self.pairs.items ≡ fixed_pairs f);
}
