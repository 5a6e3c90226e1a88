-- The grammar of expressions and patterns, as derivations: what tokens each has (XPath 3.1, A.1; XSLT 3.0, 5.5). An expression is
-- of a level: 0 Expr, 1 Single, 2 Or, 3 And, 4 Comp, 5 Cat, 6 Range, 7 Add, 8 Mul, 9 Union, 10 Castable, 11 Cast, 12 Unary, 13 Map,
-- 14 Path, 15 a Path that steps may follow, 16 Step.
use Rattle.std.specs.Prelude.{◌≡◌, ℕ, suc, ◌<◌, ◌≤◌, Bool, true, false, ◌&&◌, List, [], ◌∷◌, ◌++◌, length, take, Option, Some, None}
use Rattle.sx_atoms.specs.declared.arithmetic.ArithOp.TheVariants as arith
use Rattle.sx_tree.specs.declared.steps.Axis.{Axis}
use Rattle.sx_tree.specs.declared.steps.Axis.TheVariants as axis
use Rattle.sx_parse.specs.declared.lexemes.Operator.{Operator}
use Rattle.sx_parse.specs.declared.lexemes.Operator.TheVariants as operator
use Rattle.sx_parse.specs.declared.lexemes.Casting.{Casting}
use Rattle.sx_parse.specs.declared.lexemes.Casting.TheVariants as casting
use Rattle.sx_parse.specs.declared.lexemes.Binder.{Binder}
use Rattle.sx_parse.specs.declared.lexemes.Binder.TheVariants as binder
use Rattle.sx_parse.specs.declared.lexemes.KindWord.{KindWord}
use Rattle.sx_parse.specs.declared.lexemes.KindWord.TheVariants as kind_word
use Rattle.sx_parse.specs.declared.lexemes.Word.{Word}
use Rattle.sx_parse.specs.declared.lexemes.Word.TheVariants as word
use Rattle.sx_parse.specs.declared.lexemes.Mark.TheVariants as mark
use Rattle.sx_parse.specs.declared.lexemes.Lexeme.{Lexeme}
use Rattle.sx_parse.specs.declared.lexemes.Lexeme.TheVariants as lexeme
use Rattle.sx_parse.specs.declared.lexemes.StepPrefix.{StepPrefix}
use Rattle.sx_parse.specs.declared.lexemes.StepPrefix.TheVariants as prefix
use Rattle.sx_parse.specs.declared.lexemes.Test.{Test}
use Rattle.sx_parse.specs.declared.lexemes.Test.TheVariants as test

-- ---- words and marks

-- the operator that a token is between two operands
abbrev pub operator_of : Lexeme → Option Operator
operator_of (lexeme.Mark (mark.Operator o)) = Some o
operator_of (lexeme.Name (word.Operator o) place) = Some o
operator_of l = None

-- the level of the rule that has the operator
abbrev pub level : Operator → ℕ
level operator.Or = 2
level operator.And = 3
level (operator.Compare op general) = 4
level operator.Concat = 5
level operator.Range = 6
level (operator.Arith arith.Add) = 7
level (operator.Arith arith.Sub) = 7
level (operator.Arith op) = 8
level operator.Union = 9
level operator.Map = 13
level operator.Slash = 15
level operator.DoubleSlash = 15

-- the level of what stands to its left: its own where the rule repeats, else the next
abbrev pub left_level : Operator → ℕ
left_level (operator.Compare op general) = 5
left_level operator.Range = 7
left_level o = level o

-- the levels of the rules with a type to the right
abbrev pub casting_level : Casting → ℕ
casting_level casting.Castable = 10
casting_level casting.Cast = 11

-- whether a mark may stand before one operand: a sign, or the `/` or `//` that begins a path
abbrev pub is_prefix : Operator → Bool
is_prefix (operator.Arith arith.Add) = true
is_prefix (operator.Arith arith.Sub) = true
is_prefix operator.Slash = true
is_prefix operator.DoubleSlash = true
is_prefix o = false

-- whether a mark begins a path
abbrev pub is_slash : Operator → Bool
is_slash operator.Slash = true
is_slash operator.DoubleSlash = true
is_slash o = false

-- the level of what a mark stands before makes, and the level of that operand
abbrev pub prefix_level : Operator → ℕ
prefix_level operator.Slash = 15
prefix_level operator.DoubleSlash = 15
prefix_level o = 12

abbrev pub prefix_floor : Operator → ℕ
prefix_floor operator.Slash = 16
prefix_floor operator.DoubleSlash = 16
prefix_floor o = 12

-- the axis that a word names
abbrev pub axis_of : Word → Option Axis
axis_of (word.Axis a) = Some a
axis_of (word.Kind kind_word.Attribute) = Some axis.Attribute
axis_of w = None

-- whether a word names one of the axes of patterns: `child` and `attribute`
abbrev pub is_pattern_axis : Word → Bool
is_pattern_axis (word.Axis axis.Child) = true
is_pattern_axis (word.Kind kind_word.Attribute) = true
is_pattern_axis w = false

abbrev pub is_some_axis : Option Axis → Bool
is_some_axis None = false
is_some_axis (Some a) = true

-- whether a word names an axis; in a pattern, one of its two
abbrev pub names_axis : Bool → Word → Bool
names_axis true w = is_pattern_axis w
names_axis false w = is_some_axis (axis_of w)

-- whether a name before `(` is that of a function: the words of kind tests and `if` are none
abbrev pub is_function : Word → Bool
is_function (word.Kind k) = false
is_function word.If = false
is_function w = true

-- whether a name may stand in the parentheses of a kind test
abbrev pub takes_name : KindWord → Word → Bool
takes_name kind_word.Element w = true
takes_name kind_word.Attribute w = true
takes_name kind_word.ProcessingInstruction word.Prefixed = false
takes_name kind_word.ProcessingInstruction w = true
takes_name k w = false

-- what stands between a variable and its value, and behind the last of them
abbrev pub introduces : Binder → Lexeme → Bool
introduces binder.Let (lexeme.Mark mark.Assign) = true
introduces binder.Let l = false
introduces k (lexeme.Name word.In place) = true
introduces k l = false

abbrev pub returns : Binder → Lexeme → Bool
returns binder.For (lexeme.Name word.Return place) = true
returns binder.Let (lexeme.Name word.Return place) = true
returns binder.Some (lexeme.Name word.Satisfies place) = true
returns binder.Every (lexeme.Name word.Satisfies place) = true
returns k l = false

-- whether a token can begin a step
abbrev pub begins_step : Lexeme → Bool
begins_step (lexeme.Name w place) = true
begins_step (lexeme.Wild place) = true
begins_step (lexeme.Literal place) = true
begins_step (lexeme.Mark (mark.Operator (operator.Arith arith.Mul))) = true
begins_step (lexeme.Mark mark.At) = true
begins_step (lexeme.Mark mark.Dot) = true
begins_step (lexeme.Mark mark.DotDot) = true
begins_step (lexeme.Mark mark.Open) = true
begins_step (lexeme.Mark mark.Dollar) = true
begins_step l = false

-- whether an operator may stand in a pattern outside predicates, where the flag is set: `|`, `/` and `//`
abbrev pub allows_lexeme : Bool → Lexeme → Bool
allows_lexeme false l = true
allows_lexeme true (lexeme.Mark (mark.Operator operator.Union)) = true
allows_lexeme true (lexeme.Mark (mark.Operator operator.Slash)) = true
allows_lexeme true (lexeme.Mark (mark.Operator operator.DoubleSlash)) = true
allows_lexeme true l = false

-- ---- derivations

mutual
  -- A number is the place of a token. Tokens that a place does not tell stand as they are.
  pub data Tree : Type 0 where
    literal : ℕ → Tree
    dot : Tree
    parent : Tree
    -- `/` alone
    root : Tree
    -- `$` and a name
    variable : Word → ℕ → Tree
    step : StepPrefix → Test → Tree
    -- `(` and `)`
    empty : Tree
    parens : Tree → Tree
    -- a name, `(` and `)`
    call : Word → ℕ → Tree
    -- a name, `(`, the arguments with their commas, and `)`
    called : Word → ℕ → Tree → Tree
    -- what is filtered, `[`, the predicate, and `]`
    filter : Tree → Tree → Tree
    -- operands with `,` between
    comma : Tree → Tree → Tree
    prefixed : Operator → Tree → Tree
    binary : Tree → Lexeme → Operator → Tree → Tree
    -- an operand, `cast` or `castable`, `as`, a name, and whether `?` stands behind it
    cast : Tree → Casting → ℕ → ℕ → Word → ℕ → Bool → Tree
    -- `if`, `(`, the test, `)`, `then`, a branch, `else`, a branch
    choice : ℕ → Tree → ℕ → Tree → ℕ → Tree → Tree
    -- variables, a word, and what they are used in
    bind : Bindings → Lexeme → Tree → Tree

  pub data Bindings : Type 0 where
    -- a word, `$`, a name, `in` or `:=`, a value
    first : Binder → ℕ → Word → ℕ → Lexeme → Tree → Bindings
    -- `,`, `$`, a name, `in` or `:=`, a value
    also : Bindings → Word → ℕ → Lexeme → Tree → Bindings

-- the word with which bindings begin
abbrev pub binder_of : Bindings → Binder
binder_of (first k p w r l a) = k
binder_of (also bs w r l a) = binder_of bs

-- the mark of an operator
abbrev pub sign : Operator → Lexeme
sign o = lexeme.Mark (mark.Operator o)

-- ---- the tokens

abbrev pub prefix_tokens : StepPrefix → List Lexeme
prefix_tokens prefix.Plain = []
prefix_tokens prefix.At = lexeme.Mark mark.At ∷ []
prefix_tokens (prefix.Axis w p) = lexeme.Name w p ∷ lexeme.Mark mark.Colons ∷ []

abbrev pub test_tokens : Test → List Lexeme
test_tokens (test.Named w p) = lexeme.Name w p ∷ []
test_tokens test.Any = sign (operator.Arith arith.Mul) ∷ []
test_tokens (test.Wild p) = lexeme.Wild p ∷ []
test_tokens (test.Kind k p) = lexeme.Name (word.Kind k) p ∷ lexeme.Mark mark.Open ∷ lexeme.Mark mark.Close ∷ []
test_tokens (test.KindOf k p w q) = lexeme.Name (word.Kind k) p ∷ lexeme.Mark mark.Open ∷ lexeme.Name w q ∷ lexeme.Mark mark.Close ∷ []

abbrev pub question_tokens : Bool → List Lexeme
question_tokens true = lexeme.Mark mark.Question ∷ []
question_tokens false = []

abbrev mutual
  pub tokens : Tree → List Lexeme
  tokens (literal p) = lexeme.Literal p ∷ []
  tokens dot = lexeme.Mark mark.Dot ∷ []
  tokens parent = lexeme.Mark mark.DotDot ∷ []
  tokens root = sign operator.Slash ∷ []
  tokens (variable w p) = lexeme.Mark mark.Dollar ∷ lexeme.Name w p ∷ []
  tokens (step pre t) = prefix_tokens pre ++ test_tokens t
  tokens empty = lexeme.Mark mark.Open ∷ lexeme.Mark mark.Close ∷ []
  tokens (parens e) = lexeme.Mark mark.Open ∷ tokens e ++ lexeme.Mark mark.Close ∷ []
  tokens (call w p) = lexeme.Name w p ∷ lexeme.Mark mark.Open ∷ lexeme.Mark mark.Close ∷ []
  tokens (called w p e) = lexeme.Name w p ∷ lexeme.Mark mark.Open ∷ tokens e ++ lexeme.Mark mark.Close ∷ []
  tokens (filter b e) = tokens b ++ lexeme.Mark mark.OpenBracket ∷ tokens e ++ lexeme.Mark mark.CloseBracket ∷ []
  tokens (comma a b) = tokens a ++ lexeme.Mark mark.Comma ∷ tokens b
  tokens (prefixed o e) = sign o ∷ tokens e
  tokens (binary a l o b) = tokens a ++ l ∷ tokens b
  tokens (cast e k p q w r optional) = tokens e ++ lexeme.Name (word.Casting k) p ∷ lexeme.Name word.As q ∷ lexeme.Name w r ∷ question_tokens optional
  tokens (choice p c q t r e) =
      lexeme.Name word.If p ∷ lexeme.Mark mark.Open ∷ tokens c ++ lexeme.Mark mark.Close ∷ lexeme.Name word.Then q ∷ tokens t ++ lexeme.Name word.Else r ∷ tokens e
  tokens (bind bs l e) = binding_tokens bs ++ l ∷ tokens e

  pub binding_tokens : Bindings → List Lexeme
  binding_tokens (first k p w r l a) = lexeme.Name (word.Binder k) p ∷ lexeme.Mark mark.Dollar ∷ lexeme.Name w r ∷ l ∷ tokens a
  binding_tokens (also bs w r l a) = binding_tokens bs ++ lexeme.Mark mark.Comma ∷ lexeme.Mark mark.Dollar ∷ lexeme.Name w r ∷ l ∷ tokens a

-- ---- what fits where

-- whether the last token is a `/` that stands alone
abbrev mutual
  pub ends_in_root : Tree → Bool
  ends_in_root root = true
  ends_in_root (comma a b) = ends_in_root b
  ends_in_root (prefixed o e) = ends_in_root e
  ends_in_root (binary a l o b) = ends_in_root b
  ends_in_root (choice p c q t r e) = ends_in_root e
  ends_in_root (bind bs l e) = ends_in_root e
  ends_in_root t = false

-- whether the value of the last variable ends in such a `/`
abbrev pub value_ends_in_root : Bindings → Bool
value_ends_in_root (first k p w r l a) = ends_in_root a
value_ends_in_root (also bs w r l a) = ends_in_root a

abbrev pub PrefixFits : Bool → StepPrefix → Type 0
PrefixFits p prefix.Plain = Unit {0}
PrefixFits p prefix.At = Unit {0}
PrefixFits p (prefix.Axis w place) = names_axis p w ≡ true

abbrev pub TestFits : Test → Type 0
TestFits (test.KindOf k p w q) = takes_name k w ≡ true
TestFits t = Unit {0}

-- a sign, `/` or `//` before an operand; in a pattern only the last two
abbrev pub prefix_allowed : Bool → Operator → Bool
prefix_allowed true o = is_slash o
prefix_allowed false o = is_prefix o

-- Derived by the rule of level n, or of a later one. Where the flag is set, it is part of a pattern outside predicates: paths of
-- steps on two axes, joined by `|`, or `/` alone, which is a whole pattern. A `/` alone stands before no token that can begin a step.
abbrev mutual
  pub Fits : Bool → ℕ → Tree → Type 0
  Fits p n (literal k) = p ≡ false
  Fits p n dot = p ≡ false
  Fits p n parent = p ≡ false
  Fits p n root = (n ≤ 14) × (p ≡ true → n ≡ 0)
  Fits p n (variable w k) = p ≡ false
  Fits p n (step pre t) = PrefixFits p pre × TestFits t
  Fits p n empty = p ≡ false
  Fits p n (parens e) = (p ≡ false) × Fits false 0 e
  Fits p n (call w k) = (p ≡ false) × (is_function w ≡ true)
  Fits p n (called w k e) = (p ≡ false) × (is_function w ≡ true) × Fits false 0 e
  Fits p n (filter b e) = Fits p 16 b × Fits false 0 e
  Fits p n (comma a b) = (p ≡ false) × (n ≤ 0) × Fits false 0 a × Fits false 1 b
  Fits p n (prefixed o e) = (prefix_allowed p o ≡ true) × (n ≤ prefix_level o) × Fits p (prefix_floor o) e
  Fits p n (binary a l o b) =
      (operator_of l ≡ Some o) × (allows_lexeme p l ≡ true) × (n ≤ level o) × Fits p (left_level o) a × (ends_in_root a && begins_step l ≡ false)
      × Fits p (suc (level o)) b
  Fits p n (cast e k i j w m optional) = (p ≡ false) × (n ≤ casting_level k) × Fits false (suc (casting_level k)) e × (ends_in_root e ≡ false)
  Fits p n (choice i c j t k e) = (p ≡ false) × (n ≤ 1) × Fits false 0 c × Fits false 1 t × (ends_in_root t ≡ false) × Fits false 1 e
  Fits p n (bind bs l e) =
      (p ≡ false) × (n ≤ 1) × BindingsFit bs × (value_ends_in_root bs && begins_step l ≡ false) × (returns (binder_of bs) l ≡ true) × Fits false 1 e

  pub BindingsFit : Bindings → Type 0
  BindingsFit (first k p w r l a) = (introduces k l ≡ true) × Fits false 1 a
  BindingsFit (also bs w r l a) = BindingsFit bs × (introduces (binder_of bs) l ≡ true) × Fits false 1 a

-- these tokens are derived so: as an expression, or, where the flag is set, as a pattern
pub record Derives (p : Bool) (ts : List Lexeme) (t : Tree) : Type 0 where
  pub fits : Fits p 0 t
  pub tokens_are : tokens t ≡ ts

-- tokens that begin some readable list
pub record Begins (p : Bool) (ts : List Lexeme) : Type 0 where
  pub rest : List Lexeme
  pub tree : Tree
  pub derives : Derives p (ts ++ rest) tree

-- the first token at which no reading goes on: those before it begin a readable list; with it, where one stands there, they begin
-- none, and where they end there, they are none themselves
pub record IsFault (p : Bool) (ts : List Lexeme) (k : ℕ) : Type 0 where
  pub within : k ≤ length ts
  pub before : Begins p (take k ts)
  pub at_token : k < length ts → Begins p (take (suc k) ts) → ⊥
  pub at_end : k ≡ length ts → (t : Tree) → Derives p ts t → ⊥
