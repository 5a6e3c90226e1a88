-- The machine on a list of tokens.
use Rattle.std.proofs.Common.{List, [], ◌∷◌, Option, Some, None}
use Rattle.sx_parse.specs.declared.lexemes.Lexeme.{Lexeme}
use Rattle.sx_parse.specs.Grammar.{Tree}
use Rattle.sx_parse.specs.Machine.{State, read, ended}

abbrev pub bind : Option State → (State → Option Tree) → Option Tree
bind None f = None
bind (Some s) f = f s

abbrev pub accept : State → List Lexeme → Option Tree
accept s [] = ended s
accept s (l ∷ ls) = bind (read s l) (λ next. accept next ls)
