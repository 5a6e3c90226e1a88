-- What a text means in which words were found.
use Rattle.sx_parse.specs.declared.meanings.Wording.{Wording}
use Rattle.sx_parse.specs.Lexing.{AreParts}
use Rattle.sx_parse.specs.Says.{Meaning}

abbrev pub meaning_of : Wording → Meaning
meaning_of w = record { text = w.text.now; tokens = w.tokens.now; scope = w.scope.now; numbers = w.numbers.now; line = w.line }

-- its tokens are parts of the text, which may be cut at both ends of each
abbrev pub IsCutWording : Wording → Type 0
IsCutWording w = AreParts w.text.now w.tokens.now
