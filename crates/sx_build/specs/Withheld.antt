-- What a withheld start stands for.
use Rattle.std.specs.Prelude.{List}
use Rattle.sx_build.specs.declared.withheld.Withheld.{Withheld}
use Rattle.sx_build.specs.Content.{Held}
use Rattle.sx_build.specs.FixUp.{Binding}
use Rattle.sx_build.specs.Kept.{HoldsAs}

-- it stands for a start that is held where these bindings are in force
abbrev pub HoldsStart : List Binding → Held → Withheld → Type 0
HoldsStart bound h w = HoldsAs bound h w.name w.prefix w.own w.declared.items w.pairs.items w.names.items
