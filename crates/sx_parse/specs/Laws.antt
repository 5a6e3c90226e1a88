-- The words of the laws.
use Rattle.std.specs.Prelude.{◌≡◌, ◌⊎◌, ℕ, Bool, List}
use Rattle.std.specs.Str.{IsUtf8}
use Rattle.sx_kinds.specs.Formed.{AreFormed, IsFormed}
use Rattle.sx_kinds.specs.declared.expressions.Expr.{Expr}
use Rattle.sx_kinds.specs.declared.expressions.Function.{Function}
use Rattle.sx_lex.specs.declared.kinds.Token.{Token}
use Rattle.sx_names.specs.Scope.{ScopeBindings}
use Rattle.sx_parse.specs.declared.faults.SyntaxFault.{SyntaxFault}
use Rattle.sx_parse.specs.declared.lexemes.Lexeme.{Lexeme}
use Rattle.sx_parse.specs.Answers.{IsRead, IsRefused, meaning_in}
use Rattle.sx_parse.specs.Checks.{takes_arguments}
use Rattle.sx_parse.specs.Grammar.{Derives, IsFault, Tree}
use Rattle.sx_parse.specs.Numbers.{NameEntry}
use Rattle.sx_parse.specs.Says.{alternatives, says}

-- ---- tokens

-- tokens have a derivation or a fault
abbrev pub AreDerivedOrFaulty : Bool → List Lexeme → Type 0
AreDerivedOrFaulty p ts = ((t : Tree) × Derives p ts t) ⊎ ((k : ℕ) × IsFault p ts k)

-- they have one derivation at most
abbrev pub HaveOneDerivation : Bool → List Lexeme → Type 0
HaveOneDerivation p ts = (t u : Tree) → Derives p ts t → Derives p ts u → t ≡ u

-- they have one fault at most
abbrev pub HaveOneFault : Bool → List Lexeme → Type 0
HaveOneFault p ts = (j k : ℕ) → IsFault p ts j → IsFault p ts k → j ≡ k

-- they have not both
abbrev pub HaveNotBoth : Bool → List Lexeme → Type 0
HaveNotBoth p ts = (t : Tree) (k : ℕ) → Derives p ts t → IsFault p ts k → ⊥

-- ---- texts

-- a text is read or refused
abbrev pub IsAnswered : Bool → ScopeBindings → List ℕ → Type 0
IsAnswered p scope text =
    ((ts : List Token) × (t : Tree) × IsRead p scope text ts t) ⊎ ((fault : SyntaxFault) × IsRefused p scope text fault)

-- it has one reading at most
abbrev pub HasOneReading : Bool → ScopeBindings → List ℕ → Type 0
HasOneReading p scope text =
    (ts us : List Token) (t u : Tree) → IsRead p scope text ts t → IsRead p scope text us u → (ts ≡ us) × (t ≡ u)

-- it is not both
abbrev pub IsNotBoth : Bool → ScopeBindings → List ℕ → Type 0
IsNotBoth p scope text =
    (ts : List Token) (t : Tree) (fault : SyntaxFault) → IsRead p scope text ts t → IsRefused p scope text fault → ⊥

-- it has one refusal at most, where its bytes are characters
abbrev pub HasOneRefusal : Bool → ScopeBindings → List ℕ → Type 0
HasOneRefusal p scope text = (f g : SyntaxFault) → IsUtf8 text → IsRefused p scope text f → IsRefused p scope text g → f ≡ g

-- what it says, where it is read, is formed, whatever names there are before it
abbrev pub SaysFormed : Bool → ScopeBindings → List ℕ → Type 0
SaysFormed p scope text =
    (ts : List Token) (t : Tree) (names : List NameEntry) (line : ℕ) → IsRead p scope text ts t →
    IsFormed takes_arguments (says (meaning_in scope text ts t names line) t)

-- so are its alternatives
abbrev pub HasFormedAlternatives : Bool → ScopeBindings → List ℕ → Type 0
HasFormedAlternatives p scope text =
    (ts : List Token) (t : Tree) (names : List NameEntry) (line : ℕ) → IsRead p scope text ts t →
    AreFormed takes_arguments (alternatives (meaning_in scope text ts t names line) t)

-- the second of two expressions is formed where the first is, whatever arguments calls may have
abbrev pub KeepsForm : Expr → Expr → Type 0
KeepsForm e f = (takes : Function → ℕ → Bool) → IsFormed takes e → IsFormed takes f
