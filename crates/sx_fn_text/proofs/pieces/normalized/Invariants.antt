use Rattle.std.proofs.Common.{◌≡◌, string_bytes}
use Rattle.std.specs.Str.{encode_utf8_all}
use Rattle.sx_fn_text.proofs.Spaces.{written}
use Rattle.sx_fn_text.proofs.pieces.normalized.Given as goal

abbrev pub invariant-loop-c : goal.invariant-loop-c
invariant-loop-c l = (string_bytes l.out ≡ encode_utf8_all (written l.yielded).text) × (l.apart ≡ (written l.yielded).apart)
