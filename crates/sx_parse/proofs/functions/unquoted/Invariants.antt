use Rattle.std.proofs.Common.{◌≡◌, ◌++◌, true, length, string_bytes}
use denote.Text.{Utf8}
use denote.Shadow.{shadow}
use Rattle.sx_lex.specs.Tokens.{closes}
use Rattle.sx_parse.specs.Checks.{unquoted}
use Rattle.sx_parse.proofs.functions.unquoted.Given as goal

abbrev pub invariant-loop-front : goal.invariant-loop-front
invariant-loop-front l = shadow (Utf8 l.rest) × (closes l.quote l.rest ≡ true) × (string_bytes l.unquoted ++ unquoted l.quote l.rest ≡ unquoted l.quote l.text)

abbrev pub decreases-loop-front : goal.decreases-loop-front
decreases-loop-front l = length l.rest
