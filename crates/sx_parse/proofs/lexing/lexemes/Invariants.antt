use Rattle.std.proofs.Common.{◌≡◌, ◌++◌, drop}
use Rattle.sx_parse.specs.Lexemes.{lexemes_from, lexemes_of}
use Rattle.sx_parse.proofs.lexing.lexemes.Given as goal

abbrev pub invariant-loop-place : goal.invariant-loop-place
invariant-loop-place l = l.lexemes ++ lexemes_from l.place l.text (drop l.place l.tokens) ≡ lexemes_of l.text l.tokens
