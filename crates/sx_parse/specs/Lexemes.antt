-- What the tokens of a text are to the grammar.
use Rattle.std.specs.Prelude.{ℕ, suc, ◌-◌, true, false, List, [], ◌∷◌, take, drop, bytes_eq, codes, Option, Some, None, if◌then◌else◌}
use Rattle.sx_atoms.specs.declared.comparison.CmpOp.TheVariants as cmp
use Rattle.sx_chars.specs.Names.{behind}
use Rattle.sx_atoms.specs.declared.arithmetic.ArithOp.TheVariants as arith
use Rattle.sx_lex.specs.declared.kinds.Token.{Token}
use Rattle.sx_lex.specs.declared.kinds.TokenKind.{TokenKind}
use Rattle.sx_lex.specs.declared.kinds.TokenKind.TheVariants as token_kind
use Rattle.sx_tree.specs.declared.steps.Axis.TheVariants as axis
use Rattle.sx_parse.specs.declared.lexemes.Operator.TheVariants as operator
use Rattle.sx_parse.specs.declared.lexemes.Casting.TheVariants as casting
use Rattle.sx_parse.specs.declared.lexemes.Binder.TheVariants as binder
use Rattle.sx_parse.specs.declared.lexemes.KindWord.TheVariants as kind_word
use Rattle.sx_parse.specs.declared.lexemes.Word.{Word}
use Rattle.sx_parse.specs.declared.lexemes.Word.TheVariants as word
use Rattle.sx_parse.specs.declared.lexemes.Mark.{Mark}
use Rattle.sx_parse.specs.declared.lexemes.Mark.TheVariants as mark
use Rattle.sx_parse.specs.declared.lexemes.Lexeme.{Lexeme}
use Rattle.sx_parse.specs.declared.lexemes.Lexeme.TheVariants as lexeme

-- the words_by_text that may be more than a name (XPath 3.1, A.1)
abbrev pub words_by_text : List (List ℕ × Word)
words_by_text =
    (codes "or", word.Operator operator.Or)
    ∷ (codes "and", word.Operator operator.And)
    ∷ (codes "eq", word.Operator (operator.Compare cmp.Eq false))
    ∷ (codes "ne", word.Operator (operator.Compare cmp.Ne false))
    ∷ (codes "lt", word.Operator (operator.Compare cmp.Lt false))
    ∷ (codes "le", word.Operator (operator.Compare cmp.Le false))
    ∷ (codes "gt", word.Operator (operator.Compare cmp.Gt false))
    ∷ (codes "ge", word.Operator (operator.Compare cmp.Ge false))
    ∷ (codes "to", word.Operator operator.Range)
    ∷ (codes "div", word.Operator (operator.Arith arith.Div))
    ∷ (codes "idiv", word.Operator (operator.Arith arith.Idiv))
    ∷ (codes "mod", word.Operator (operator.Arith arith.Mod))
    ∷ (codes "union", word.Operator operator.Union)
    ∷ (codes "castable", word.Casting casting.Castable)
    ∷ (codes "cast", word.Casting casting.Cast)
    ∷ (codes "for", word.Binder binder.For)
    ∷ (codes "let", word.Binder binder.Let)
    ∷ (codes "some", word.Binder binder.Some)
    ∷ (codes "every", word.Binder binder.Every)
    ∷ (codes "as", word.As)
    ∷ (codes "in", word.In)
    ∷ (codes "return", word.Return)
    ∷ (codes "satisfies", word.Satisfies)
    ∷ (codes "if", word.If)
    ∷ (codes "then", word.Then)
    ∷ (codes "else", word.Else)
    ∷ (codes "node", word.Kind kind_word.Node)
    ∷ (codes "text", word.Kind kind_word.Text)
    ∷ (codes "comment", word.Kind kind_word.Comment)
    ∷ (codes "document-node", word.Kind kind_word.DocumentNode)
    ∷ (codes "processing-instruction", word.Kind kind_word.ProcessingInstruction)
    ∷ (codes "element", word.Kind kind_word.Element)
    ∷ (codes "attribute", word.Kind kind_word.Attribute)
    ∷ (codes "self", word.Axis axis.SelfNode)
    ∷ (codes "child", word.Axis axis.Child)
    ∷ (codes "descendant", word.Axis axis.Descendant)
    ∷ (codes "descendant-or-self", word.Axis axis.DescendantOrSelf)
    ∷ (codes "parent", word.Axis axis.Parent)
    ∷ (codes "ancestor", word.Axis axis.Ancestor)
    ∷ (codes "ancestor-or-self", word.Axis axis.AncestorOrSelf)
    ∷ (codes "following", word.Axis axis.Following)
    ∷ (codes "following-sibling", word.Axis axis.FollowingSibling)
    ∷ (codes "preceding", word.Axis axis.Preceding)
    ∷ (codes "preceding-sibling", word.Axis axis.PrecedingSibling)
    ∷ []

-- what stands beside a text in such a table, or else the last
unfoldable pub found : {X : Type 0} → List (List ℕ × X) → List ℕ → X → X
found [] text x = x
found (row ∷ rows) text x = if bytes_eq row.0 text then row.1 else found rows text x

abbrev pub word_with : List ℕ → Option (List ℕ) → Word
word_with text (Some local) = word.Prefixed
word_with text None = found words_by_text text word.Other

-- what a name may be: a word is one without a prefix
abbrev pub word_of : List ℕ → Word
word_of text = word_with text (behind 58 text)

-- the symbols (XPath 3.1, A.2)
abbrev pub marks_by_text : List (List ℕ × Mark)
marks_by_text =
    (codes "(", mark.Open)
    ∷ (codes ")", mark.Close)
    ∷ (codes "[", mark.OpenBracket)
    ∷ (codes "]", mark.CloseBracket)
    ∷ (codes ",", mark.Comma)
    ∷ (codes "$", mark.Dollar)
    ∷ (codes "@", mark.At)
    ∷ (codes ".", mark.Dot)
    ∷ (codes "..", mark.DotDot)
    ∷ (codes "/", mark.Operator operator.Slash)
    ∷ (codes "//", mark.Operator operator.DoubleSlash)
    ∷ (codes "::", mark.Colons)
    ∷ (codes ":=", mark.Assign)
    ∷ (codes "|", mark.Operator operator.Union)
    ∷ (codes "||", mark.Operator operator.Concat)
    ∷ (codes "!", mark.Operator operator.Map)
    ∷ (codes "!=", mark.Operator (operator.Compare cmp.Ne true))
    ∷ (codes "=", mark.Operator (operator.Compare cmp.Eq true))
    ∷ (codes "<", mark.Operator (operator.Compare cmp.Lt true))
    ∷ (codes "<=", mark.Operator (operator.Compare cmp.Le true))
    ∷ (codes ">", mark.Operator (operator.Compare cmp.Gt true))
    ∷ (codes ">=", mark.Operator (operator.Compare cmp.Ge true))
    ∷ (codes "+", mark.Operator (operator.Arith arith.Add))
    ∷ (codes "-", mark.Operator (operator.Arith arith.Sub))
    ∷ (codes "*", mark.Operator (operator.Arith arith.Mul))
    ∷ []

-- the symbol that a text is; `?` is the only other one
abbrev pub mark_of : List ℕ → Mark
mark_of text = found marks_by_text text mark.Question

-- a token of a kind and with a text, as the grammar sees it
abbrev pub lexeme_of : TokenKind → List ℕ → ℕ → Lexeme
lexeme_of token_kind.Name text place = lexeme.Name (word_of text) place
lexeme_of token_kind.Wild text place = lexeme.Wild place
lexeme_of token_kind.Integer text place = lexeme.Literal place
lexeme_of token_kind.Decimal text place = lexeme.Literal place
lexeme_of token_kind.Str text place = lexeme.Literal place
lexeme_of token_kind.Mark text place = lexeme.Mark (mark_of text)

-- the bytes of a token in its text
abbrev pub text_of_token : List ℕ → Token → List ℕ
text_of_token text token = take (token.end - token.start) (drop token.start text)

-- the tokens of a text as the grammar sees them, the first of them at a place among all
abbrev pub lexemes_from : ℕ → List ℕ → List Token → List Lexeme
lexemes_from place text [] = []
lexemes_from place text (token ∷ others) = lexeme_of token.kind (text_of_token text token) place ∷ lexemes_from (suc place) text others

abbrev pub lexemes_of : List ℕ → List Token → List Lexeme
lexemes_of text ts = lexemes_from 0 text ts
