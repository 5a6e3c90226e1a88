use Rattle.std.proofs.Common.{◌≡◌, drop}
use Rattle.sx_build.specs.FixUp.{is_text_among}
use Rattle.sx_build.specs.Kept.{name_prefixes}
use Rattle.sx_build.proofs.withheld.have_prefix.Given as goal

abbrev pub invariant-loop-name : goal.invariant-loop-name
invariant-loop-name l = is_text_among (name_prefixes (drop l.name-index l.names)) l.prefix ≡ is_text_among (name_prefixes l.names) l.prefix
