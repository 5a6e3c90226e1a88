use Rattle.std.proofs.Common.{◌≡◌, ◌++◌, map, drop, string_bytes}
use Rattle.std.specs.Str.{chars, encode_utf8_all}
use Rattle.sx_fn_text.specs.Characters.{separated_behind}
use Rattle.sx_fn_text.proofs.Prints.{print}
use Rattle.sx_fn_text.proofs.pieces.join.Given as goal

abbrev pub invariant-loop-atom : goal.invariant-loop-atom
invariant-loop-atom l =
    string_bytes l.joined ++ encode_utf8_all (separated_behind (chars l.separator) (map print (drop l.atom-index l.more)))
    ≡ string_bytes l.initial.joined ++ encode_utf8_all (separated_behind (chars l.separator) (map print l.more))
