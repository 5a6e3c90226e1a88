-- What is answered for a text: the expression of its one derivation, or the fault at the least offset.
use Rattle.std.specs.Prelude.{◌≡◌, ℕ, suc, ◌-◌, ◌<◌, ◌≤◌, ◌⊎◌, Bool, true, false, not, ◌&&◌, nat_lt, nat_eq, List, [], ◌∷◌, length, take, slice_get, Option, Some, None, if◌then◌else◌}
use Rattle.sx_atoms.specs.declared.error_codes.Code.{Code}
use Rattle.sx_atoms.specs.declared.error_codes.Code.TheVariants as code
use Rattle.sx_lex.specs.declared.kinds.Token.{Token}
use Rattle.sx_lex.specs.Tokens.{AreTokens}
use Rattle.sx_names.specs.Scope.{ScopeBindings}
use Rattle.sx_parse.specs.declared.faults.SyntaxFault.{SyntaxFault}
use Rattle.sx_parse.specs.declared.lexemes.Lexeme.{Lexeme}
use Rattle.sx_parse.specs.declared.lexemes.Lexeme.TheVariants as lexeme
use Rattle.sx_parse.specs.declared.lexemes.Mark.TheVariants as mark
use Rattle.sx_parse.specs.Checks.{most_bytes, first_fault}
use Rattle.sx_parse.specs.Grammar.{Tree, Derives, IsFault}
use Rattle.sx_parse.specs.Lexemes.{lexemes_of}
use Rattle.sx_parse.specs.Lexing.{AreRead}
use Rattle.sx_parse.specs.Numbers.{NameEntry, names_among, numbers_among, with_names}
use Rattle.sx_parse.specs.Reading.{HasContinuation}
use Rattle.sx_parse.specs.Roles.{roles}
use Rattle.sx_parse.specs.Says.{Meaning}

-- a text has a derivation, as an expression or, where the flag is set, as a pattern, and nothing is wrong with its tokens
pub record IsRead (p : Bool) (scope : ScopeBindings) (text : List ℕ) (ts : List Token) (t : Tree) : Type 0 where
  pub lexes : AreTokens 0 text ts
  pub derives : Derives p (lexemes_of text ts) t
  pub sound : first_fault p scope text ts (roles 0 t) ts ≡ None

-- what its words mean, with these names
abbrev pub meaning_in : ScopeBindings → List ℕ → List Token → Tree → List NameEntry → ℕ → Meaning
meaning_in scope text ts t names line =
    record { text = text; tokens = ts; scope = scope; numbers = numbers_among names scope text (roles 0 t) ts; line = line }

-- the names that it adds to these
abbrev pub names_with : ScopeBindings → List ℕ → List Token → Tree → List NameEntry → List NameEntry
names_with scope text ts t names = with_names names (names_among scope text (roles 0 t) ts)

-- ---- faults

-- no reading goes on at the token with this number, or, where the tokens end in a break, at that
abbrev pub StopsAt : Bool → List Lexeme → Option ℕ → ℕ → Type 0
StopsAt p ls None k = IsFault p ls k
StopsAt p ls (Some offset) k = (IsFault p ls k × (k < length ls)) ⊎ (k ≡ length ls)

abbrev pub start_or : Option Token → ℕ → ℕ
start_or (Some token) end = token.start
start_or None end = end

-- where the token with this number begins, or where the tokens end
abbrev pub offset_in : List Token → ℕ → ℕ → ℕ
offset_in ts end k = start_or (slice_get ts k) end

-- how many predicates are open behind one more token
abbrev pub open_behind : ℕ → Lexeme → ℕ
open_behind count (lexeme.Mark mark.OpenBracket) = suc count
open_behind count (lexeme.Mark mark.CloseBracket) = count - 1
open_behind count l = count

-- whether a predicate is open behind these tokens, where so many are before them
abbrev pub is_in_predicate : ℕ → List Lexeme → Bool
is_in_predicate count [] = nat_lt 0 count
is_in_predicate count (l ∷ ls) = is_in_predicate (open_behind count l) ls

-- the code of a fault of grammar: that of patterns stands outside their predicates, where a token begins
abbrev pub code_of : Bool → Bool → Bool → Code
code_of pattern breaks inside = if pattern && not breaks && not inside then code.Xtse0340 else code.Xpst0003

-- the fault of grammar at the token with this number, among the tokens of a text that ends, or breaks where the flag is set, at an offset
abbrev pub fault_in : Bool → List Token → List Lexeme → Bool → ℕ → ℕ → SyntaxFault
fault_in pattern ts ls breaks end k =
    record { code = code_of pattern (breaks && nat_eq k (length ls)) (is_in_predicate 0 (take k ls)); offset = offset_in ts end k }

abbrev pub end_offset : List ℕ → Option ℕ → ℕ
end_offset text None = length text
end_offset text (Some offset) = offset

abbrev pub breaks : Option ℕ → Bool
breaks None = false
breaks (Some offset) = true

abbrev pub fault_before : Option SyntaxFault → SyntaxFault → SyntaxFault
fault_before (Some fault) other = fault
fault_before None other = other

-- the text is derived, and this is the first thing that is wrong with its tokens
pub record IsUnsound (p : Bool) (scope : ScopeBindings) (text : List ℕ) (fault : SyntaxFault) : Type 0 where
  pub tokens : List Token
  pub tree : Tree
  pub lexes : AreTokens 0 text tokens
  pub derives : Derives p (lexemes_of text tokens) tree
  pub first : first_fault p scope text tokens (roles 0 tree) tokens ≡ Some fault

-- the text is not derived: some derivation goes on up to a token at which none does, and this is the first thing that is wrong with
-- the tokens before it, or else the fault of grammar there
pub record IsUnread (p : Bool) (scope : ScopeBindings) (text : List ℕ) (fault : SyntaxFault) : Type 0 where
  pub tokens : List Token
  pub stop : Option ℕ
  pub lexes : AreRead text tokens stop
  pub count : ℕ
  pub stops : StopsAt p (lexemes_of text tokens) stop count
  pub tree : Tree
  pub continues : HasContinuation p (take count (lexemes_of text tokens)) tree
  pub first : fault ≡ fault_before (first_fault p scope text tokens (take count (roles 0 tree)) tokens)
      (fault_in p tokens (lexemes_of text tokens) (breaks stop) (end_offset text stop) count)

abbrev pub IsRefused : Bool → ScopeBindings → List ℕ → SyntaxFault → Type 0
IsRefused p scope text fault = IsUnsound p scope text fault ⊎ IsUnread p scope text fault

-- a text of too many bytes is refused behind the last that it may have
abbrev pub too_long : SyntaxFault
too_long = record { code = code.Sxst0001; offset = most_bytes }

-- why a text is refused: it is too long, or else it can't be read
abbrev pub IsFaulty : Bool → ScopeBindings → List ℕ → SyntaxFault → Type 0
IsFaulty p scope text fault = ((most_bytes < length text) × (fault ≡ too_long)) ⊎ ((length text ≤ most_bytes) × IsRefused p scope text fault)

-- whether a text has too many bytes
abbrev pub is_too_long : List ℕ → Bool
is_too_long text = nat_lt most_bytes (length text)
