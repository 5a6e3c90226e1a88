-- The literals among the nodes of a derivation stand for literals of the text.
use Rattle.std.proofs.Common.{◌≡◌, ℕ, suc, ◌+◌, Bool, true, false, List, [], ◌∷◌, ◌++◌, Option, Some, refl, ap, sym, ◌∙◌, subst, arith}
use Rattle.std.specs.List.{slice_get}
use Rattle.std.specs.Option.{option_map_or}
use Rattle.sx_lex.specs.Tokens.{is_name, is_wild, is_integer, is_decimal_literal, is_literal, is_mark, first_kind, kind_of}
use Rattle.sx_lex.specs.declared.kinds.Token.{Token}
use Rattle.sx_lex.specs.declared.kinds.TokenKind.{TokenKind}
use Rattle.sx_lex.specs.declared.kinds.TokenKind.TheVariants as token_kind
use Rattle.sx_parse.specs.declared.lexemes.Lexeme.{Lexeme}
use Rattle.sx_parse.specs.declared.lexemes.Lexeme.TheVariants as lexeme
use Rattle.sx_parse.specs.declared.lexemes.Mark.TheVariants as mark
use Rattle.sx_parse.specs.declared.lexemes.Word.TheVariants as word
use Rattle.sx_parse.specs.declared.nodes.Node.{Node}
use Rattle.sx_parse.specs.declared.nodes.Node.TheVariants as node
use Rattle.sx_parse.specs.Built.{IsLiteralAt, IsLiteralIn, AreLiteralsIn}
use Rattle.sx_parse.specs.Grammar.{Tree, literal, dot, parent, root, variable, step, empty, parens, call, called, filter, comma, prefixed, binary, cast, choice, bind, Bindings, first, also, tokens, binding_tokens, question_tokens}
use Rattle.sx_parse.specs.Lexemes.{text_of_token, lexeme_of, lexemes_from, lexemes_of}
use Rattle.sx_parse.specs.Lexing.{AreParts}
use Rattle.sx_parse.specs.Literals.{IsLiteral}
use Rattle.sx_parse.specs.Nodes.{takes_more, nodes, value_nodes, name_nodes}
use Rattle.sx_parse.specs.Says.{Meaning, token_kind_in}

-- ---- lists of nodes

nodes_append : (m : Meaning) (xs ys : List Node) → AreLiteralsIn m xs → AreLiteralsIn m ys → AreLiteralsIn m (xs ++ ys)
nodes_append m [] ys h k = k
nodes_append m (x ∷ xs) ys h k = (h.0, nodes_append m xs ys h.1 k)

nodes_one : (m : Meaning) (xs : List Node) (n : Node) → AreLiteralsIn m xs → IsLiteralIn m n → AreLiteralsIn m (xs ++ n ∷ [])
nodes_one m xs n h k = nodes_append m xs (n ∷ []) h (k, tt)

nodes_two : (m : Meaning) (xs ys : List Node) (n : Node) → AreLiteralsIn m xs → AreLiteralsIn m ys → IsLiteralIn m n → AreLiteralsIn m (xs ++ ys ++ n ∷ [])
nodes_two m xs ys n h k l = nodes_one m (xs ++ ys) n (nodes_append m xs ys h k) l

names_plain : (m : Meaning) (bs : Bindings) → AreLiteralsIn m (name_nodes bs)
names_plain m (first k p w r l a) = (tt, tt)
names_plain m (also bs w r l a) = (tt, names_plain m bs)

-- ---- lists of tokens

-- a token, if it is a literal to the grammar, is one of the text
abbrev IsLiteralOf : Meaning → Lexeme → Type 0
IsLiteralOf m (lexeme.Literal p) = IsLiteralAt m p
IsLiteralOf m l = Unit {0}

abbrev AreLiteralsOf : Meaning → List Lexeme → Type 0
AreLiteralsOf m [] = Unit {0}
AreLiteralsOf m (l ∷ ls) = IsLiteralOf m l × AreLiteralsOf m ls

front_of : (m : Meaning) (xs ys : List Lexeme) → AreLiteralsOf m (xs ++ ys) → AreLiteralsOf m xs
front_of m [] ys h = tt
front_of m (x ∷ xs) ys h = (h.0, front_of m xs ys h.1)

back_of : (m : Meaning) (xs ys : List Lexeme) → AreLiteralsOf m (xs ++ ys) → AreLiteralsOf m ys
back_of m [] ys h = h
back_of m (x ∷ xs) ys h = back_of m xs ys h.1

mutual
  literal_nodes : (m : Meaning) (t : Tree) → AreLiteralsOf m (tokens t) → AreLiteralsIn m (nodes t)
  literal_nodes m (literal p) h = (h.0, tt)
  literal_nodes m dot h = (tt, tt)
  literal_nodes m parent h = (tt, tt)
  literal_nodes m root h = (tt, tt)
  literal_nodes m (variable w p) h = (tt, tt)
  literal_nodes m (step pre t) h = (tt, tt)
  literal_nodes m empty h = (tt, tt)
  literal_nodes m (parens e) h = nodes_one m (nodes e) node.Parens (literal_nodes m e (front_of m (tokens e) (lexeme.Mark mark.Close ∷ []) h.1)) tt
  literal_nodes m (call w p) h = (tt, tt)
  literal_nodes m (called w p e) h = nodes_one m (nodes e) (node.Called p) (literal_nodes m e (front_of m (tokens e) (lexeme.Mark mark.Close ∷ []) h.1.1)) tt
  literal_nodes m (filter b e) h =
      let k = front_of m (tokens b ++ lexeme.Mark mark.OpenBracket ∷ tokens e) (lexeme.Mark mark.CloseBracket ∷ []) h in
      nodes_two m (nodes b) (nodes e) (node.Filter (takes_more b))
      (literal_nodes m b (front_of m (tokens b) (lexeme.Mark mark.OpenBracket ∷ tokens e) k))
      (literal_nodes m e (back_of m (tokens b) (lexeme.Mark mark.OpenBracket ∷ tokens e) k).1)
      tt
  literal_nodes m (comma a b) h =
      nodes_two m (nodes a) (nodes b) node.Comma
      (literal_nodes m a (front_of m (tokens a) (lexeme.Mark mark.Comma ∷ tokens b) h))
      (literal_nodes m b (back_of m (tokens a) (lexeme.Mark mark.Comma ∷ tokens b) h).1)
      tt
  literal_nodes m (prefixed o e) h = nodes_one m (nodes e) (node.Prefix o) (literal_nodes m e h.1) tt
  literal_nodes m (binary a l o b) h =
      nodes_two m (nodes a) (nodes b) (node.Binary o)
      (literal_nodes m a (front_of m (tokens a) (l ∷ tokens b) h))
      (literal_nodes m b (back_of m (tokens a) (l ∷ tokens b) h).1)
      tt
  literal_nodes m (cast e k p q w r optional) h =
      nodes_one m (nodes e) (node.Cast k r optional)
      (literal_nodes m e (front_of m (tokens e) (lexeme.Name (word.Casting k) p ∷ lexeme.Name word.As q ∷ lexeme.Name w r ∷ question_tokens optional) h))
      tt
  literal_nodes m (choice p c q t r e) h =
      let k = front_of m (tokens c ++ lexeme.Mark mark.Close ∷ lexeme.Name word.Then q ∷ tokens t) (lexeme.Name word.Else r ∷ tokens e) h.1.1 in
      let b = back_of m (tokens c ++ lexeme.Mark mark.Close ∷ lexeme.Name word.Then q ∷ tokens t) (lexeme.Name word.Else r ∷ tokens e) h.1.1 in
      nodes_two m (nodes c ++ nodes t) (nodes e) node.Choice
      (nodes_append m (nodes c) (nodes t)
      (literal_nodes m c (front_of m (tokens c) (lexeme.Mark mark.Close ∷ lexeme.Name word.Then q ∷ tokens t) k))
      (literal_nodes m t (back_of m (tokens c) (lexeme.Mark mark.Close ∷ lexeme.Name word.Then q ∷ tokens t) k).1.1))
      (literal_nodes m e b.1)
      tt
  literal_nodes m (bind bs l e) h =
      nodes_append m (value_nodes bs ++ nodes e) (name_nodes bs)
      (nodes_append m (value_nodes bs) (nodes e)
      (value_literals m bs (front_of m (binding_tokens bs) (l ∷ tokens e) h))
      (literal_nodes m e (back_of m (binding_tokens bs) (l ∷ tokens e) h).1))
      (names_plain m bs)

  value_literals : (m : Meaning) (bs : Bindings) → AreLiteralsOf m (binding_tokens bs) → AreLiteralsIn m (value_nodes bs)
  value_literals m (first k p w r l a) h = literal_nodes m a h.1.1.1.1
  value_literals m (also bs w r l a) h =
      nodes_append m (value_nodes bs) (nodes a)
      (value_literals m bs (front_of m (binding_tokens bs) (lexeme.Mark mark.Comma ∷ lexeme.Mark mark.Dollar ∷ lexeme.Name w r ∷ l ∷ tokens a) h))
      (literal_nodes m a (back_of m (binding_tokens bs) (lexeme.Mark mark.Comma ∷ lexeme.Mark mark.Dollar ∷ lexeme.Name w r ∷ l ∷ tokens a) h).1.1.1.1)

-- ---- the tokens of a text

-- the kind whose test holds first
first_literal : (a b c d e f : Bool) → first_kind ((a, token_kind.Name) ∷ (b, token_kind.Wild) ∷ (c, token_kind.Integer) ∷ (d, token_kind.Decimal) ∷ (e, token_kind.Str) ∷ (f, token_kind.Mark) ∷ []) ≡ Some token_kind.Str → e ≡ true
first_literal true b c d e f h = cc
first_literal false true c d e f h = cc
first_literal false false true d e f h = cc
first_literal false false false true e f h = cc
first_literal false false false false true f h = refl
first_literal false false false false false true h = cc
first_literal false false false false false false h = cc

quoted : (s : List ℕ) → kind_of s ≡ Some token_kind.Str → is_literal s ≡ true
unfolding kind_of
quoted s h = first_literal (is_name s) (is_wild s) (is_integer s) (is_decimal_literal s) (is_literal s) (is_mark s) h

literal_here : (m : Meaning) (place : ℕ) (k : TokenKind) (s : List ℕ) → (IsLiteral k s → IsLiteralAt m place) → kind_of s ≡ Some k → IsLiteralOf m (lexeme_of k s place)
literal_here m place token_kind.Name s f h = tt
literal_here m place token_kind.Wild s f h = tt
literal_here m place token_kind.Integer s f h = f tt
literal_here m place token_kind.Decimal s f h = f tt
literal_here m place token_kind.Str s f h = f (quoted s h)
literal_here m place token_kind.Mark s f h = tt

literal_at : (m : Meaning) (place : ℕ) (t : Token) → slice_get m.tokens place ≡ Some t → IsLiteral t.kind (text_of_token m.text t) → IsLiteralAt m place
literal_at m place t e h =
    let P : Option Token → Type 0 = λ o. IsLiteral (token_kind_in o) (option_map_or (text_of_token m.text) o []) in
    subst P (sym e) h

tokens_from : (m : Meaning) (place : ℕ) (ts : List Token) → AreParts m.text ts → ((j : ℕ) → slice_get m.tokens (j + place) ≡ slice_get ts j) →
    AreLiteralsOf m (lexemes_from place m.text ts)
tokens_from m place [] parts same = tt
tokens_from m place (t ∷ ts) parts same =
    let here : slice_get m.tokens place ≡ Some t = ap (slice_get m.tokens) (let e : place ≡ 0 + place = omega arith in e) ∙ same 0 in (
      literal_here m place t.kind (text_of_token m.text t) (literal_at m place t here) parts.0.kind,
      tokens_from m (suc place) ts parts.1 (λ (j : ℕ). ap (slice_get m.tokens) (let e : j + suc place ≡ suc j + place = omega arith in e) ∙ same (suc j)),
    )

-- the literals of a derivation of the tokens of a text stand for literals of it
pub literals_in : (m : Meaning) (t : Tree) → AreParts m.text m.tokens → tokens t ≡ lexemes_of m.text m.tokens → AreLiteralsIn m (nodes t)
literals_in m t parts are =
    let P : List Lexeme → Type 0 = λ ls. AreLiteralsOf m ls in
    literal_nodes m t (subst P (sym are) (tokens_from m 0 m.tokens parts (λ (j : ℕ). ap (slice_get m.tokens) (let e : j + 0 ≡ j = omega arith in e))))
