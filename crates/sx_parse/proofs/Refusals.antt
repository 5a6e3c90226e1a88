-- What was read and what fails, put together.
use Rattle.std.proofs.Common.{◌≡◌, ℕ, suc, ◌<◌, ◌≤◌, ◌⊎◌, Bool, true, false, nat_lt, List, [], ◌∷◌, length, Option, Some, None, inl, inr, refl, ap, sym, ◌∙◌, append-nil, arith}
use Rattle.std.proofs.lemmas.Bool.Decides.{nat_tests}
use Rattle.std.proofs.lemmas.List.{take_all}
use Rattle.sx_lex.specs.declared.kinds.Token.{Token}
use Rattle.sx_names.specs.Scope.{ScopeBindings}
use Rattle.sx_parse.specs.declared.faults.SyntaxFault.{SyntaxFault}
use Rattle.sx_parse.specs.declared.lexemes.Lexeme.{Lexeme}
use Rattle.sx_parse.specs.declared.nodes.Node.{Node}
use Rattle.sx_parse.specs.declared.roles.Role.{Role}
use Rattle.sx_parse.specs.Answers.{IsRefused, IsUnsound, IsUnread, StopsAt, fault_in, fault_before, breaks, end_offset}
use Rattle.sx_parse.specs.Checks.{first_fault}
use Rattle.sx_parse.specs.Grammar.{IsFault}
use Rattle.sx_parse.specs.Lexemes.{lexemes_of, lexemes_from}
use Rattle.sx_parse.specs.Lexing.{IsLexed}
use Rattle.sx_parse.specs.Reading.{IsReadAs, IsWholeReading, IsStopped}
use Rattle.sx_parse.specs.Roles.{roles}
use Rattle.sx_parse.specs.Understanding.{IsUnderstood, stop_of}
use Rattle.sx_parse.proofs.Parallel.{parallel}

-- ---- how many tokens there are

pub as_many : (text : List ℕ) (ts : List Token) (place : ℕ) → length (lexemes_from place text ts) ≡ length ts
as_many text [] place = refl
as_many text (t ∷ ts) place = ap suc (as_many text ts (suc place))

pub counted : (text : List ℕ) (ts : List Token) (ls : List Lexeme) (stop : Option ℕ) → IsLexed text ts ls stop → length ls ≡ length ts
counted text ts ls stop h = ap (λ (xs : List Lexeme). length xs) h.lexemes ∙ as_many text ts 0

pub few_lexemes : (text : List ℕ) (ts : List Token) (ls : List Lexeme) (stop : Option ℕ) → IsLexed text ts ls stop → length ls ≤ length text
few_lexemes text ts ls stop h = let few = h.few in omega (arith, few, counted text ts ls stop h)

-- ---- refusals

-- the fault of a text whose reading stops at a token
abbrev pub stopped_fault : Bool → List ℕ → List Token → Option ℕ → ℕ → SyntaxFault
stopped_fault p text ts stop k = fault_in p ts (lexemes_of text ts) (breaks stop) (end_offset text stop) k

before_or_at : (b : Bool) (p : Bool) (ls : List Lexeme) (k : ℕ) → nat_lt k (length ls) ≡ b → IsFault p ls k → (IsFault p ls k × (k < length ls)) ⊎ (k ≡ length ls)
before_or_at true p ls k e f = inl (f, grind (arith, nat_tests))
before_or_at false p ls k e f =
    let w = f.within in
    let g : length ls ≤ k = grind (arith, nat_tests) in
    inr (omega (arith, w, g))

pub stops_before : (p : Bool) (ls : List Lexeme) (stop : Option ℕ) (k : ℕ) → IsFault p ls k → StopsAt p ls stop k
stops_before p ls None k f = f
stops_before p ls (Some offset) k f = before_or_at (nat_lt k (length ls)) p ls k refl f

-- no reading goes on at a token
pub unread : (p : Bool) (scope : ScopeBindings) (text : List ℕ) (ts : List Token) (ls : List Lexeme) (stop : Option ℕ) (k : ℕ) (said : List Role) (fault : SyntaxFault) →
    IsLexed text ts ls stop → IsStopped p ls k said → fault ≡ fault_before (first_fault p scope text ts said ts) (stopped_fault p text ts stop k) → IsUnread p scope text fault
unread p scope text ts ls stop k said fault h r e = record {
  tokens = ts;
  stop = stop;
  lexes = h.read;
  count = k;
  stops = rw (sym h.lexemes) (stops_before p ls stop k r.fault);
  tree = r.tree;
  continues = rw (sym h.lexemes) r.continues;
  first = e ∙ ap (λ (rs : List Role). fault_before (first_fault p scope text ts rs ts) (stopped_fault p text ts stop k)) r.roles_are;
}

-- the text breaks behind its last token
pub broken : (p : Bool) (scope : ScopeBindings) (text : List ℕ) (ts : List Token) (ls : List Lexeme) (offset : ℕ) (given : List Node) (said : List Role) (fault : SyntaxFault) →
    IsLexed text ts ls (Some offset) → IsWholeReading p ls given said → fault ≡ fault_before (first_fault p scope text ts said ts) (stopped_fault p text ts (Some offset) (length ts)) →
    IsUnread p scope text fault
broken p scope text ts ls offset given said fault h r e =
    let same : length ls ≡ length ts = counted text ts ls (Some offset) h in
    let many : length (roles 0 r.tree) ≡ length ts = parallel r.tree 0 ∙ ap (λ (xs : List Lexeme). length xs) r.derives.tokens_are ∙ same in
    record {
      tokens = ts;
      stop = Some offset;
      lexes = h.read;
      count = length ts;
      stops = inr (rw (sym h.lexemes) (sym same));
      tree = r.tree;
      continues = rw (sym h.lexemes) (record {
        rest = [];
        fits = r.derives.fits;
        tokens_are = r.derives.tokens_are ∙ sym (append-nil _ ∙ take_all (length ts) ls (omega (arith, same)));
        quiet = λ _. tt;
      });
      first = e ∙ ap (λ (rs : List Role). fault_before (first_fault p scope text ts rs ts) (stopped_fault p text ts (Some offset) (length ts)))
          (r.roles_are ∙ sym (take_all (length ts) (roles 0 r.tree) (omega (arith, many))));
    }

pub unsound : (p : Bool) (scope : ScopeBindings) (text : List ℕ) (ts : List Token) (ls : List Lexeme) (given : List Node) (said : List Role) (fault : SyntaxFault) →
    IsLexed text ts ls None → IsWholeReading p ls given said → first_fault p scope text ts said ts ≡ Some fault → IsUnsound p scope text fault
unsound p scope text ts ls given said fault h r e = record {
  tokens = ts;
  tree = r.tree;
  lexes = h.read;
  derives = rw (sym h.lexemes) r.derives;
  first = ap (λ (rs : List Role). first_fault p scope text ts rs ts) (sym r.roles_are) ∙ e;
}

pub sound_text : (p : Bool) (scope : ScopeBindings) (text : List ℕ) (ts : List Token) (ls : List Lexeme) (given : List Node) (said : List Role) →
    IsLexed text ts ls None → IsWholeReading p ls given said → first_fault p scope text ts said ts ≡ None → IsUnderstood p scope text ts given said
sound_text p scope text ts ls given said h r e = record {
  tree = r.tree;
  is = record {
    lexes = h.read;
    derives = rw (sym h.lexemes) r.derives;
    sound = ap (λ (rs : List Role). first_fault p scope text ts rs ts) (sym r.roles_are) ∙ e;
  };
  nodes_are = r.nodes_are;
  roles_are = r.roles_are;
  parts = h.parts;
  few = h.few;
}

-- ---- by cases

pub refused_first : (p : Bool) (scope : ScopeBindings) (text : List ℕ) (ts : List Token) (ls : List Lexeme) (given : List Node) (said : List Role) (fault : SyntaxFault)
    (stop stopped : Option ℕ) → IsLexed text ts ls stop → IsReadAs p ls given said stopped → first_fault p scope text ts said ts ≡ Some fault → IsRefused p scope text fault
refused_first p scope text ts ls given said fault None None h r e = inl (unsound p scope text ts ls given said fault h r e)
refused_first p scope text ts ls given said fault (Some offset) None h r e =
    inr (broken p scope text ts ls offset given said fault h r (ap (λ (o : Option SyntaxFault). fault_before o (stopped_fault p text ts (Some offset) (length ts))) (sym e)))
refused_first p scope text ts ls given said fault stop (Some k) h r e =
    inr (unread p scope text ts ls stop k said fault h r (ap (λ (o : Option SyntaxFault). fault_before o (stopped_fault p text ts stop k)) (sym e)))

pub refused_there : (p : Bool) (scope : ScopeBindings) (text : List ℕ) (ts : List Token) (ls : List Lexeme) (given : List Node) (said : List Role) (count : ℕ)
    (stop stopped : Option ℕ) → IsLexed text ts ls stop → IsReadAs p ls given said stopped → first_fault p scope text ts said ts ≡ None →
    stop_of stopped stop (length ts) ≡ Some count → IsRefused p scope text (stopped_fault p text ts stop count)
refused_there p scope text ts ls given said count None None h r e f = absurd cc
refused_there p scope text ts ls given said count (Some offset) None h r e f =
    let same : length ts ≡ count = cc in
    rw (sym same) (inr (broken p scope text ts ls offset given said _ h r (ap (λ (o : Option SyntaxFault). fault_before o (stopped_fault p text ts (Some offset) (length ts))) (sym e))))
refused_there p scope text ts ls given said count stop (Some k) h r e f =
    let same : k ≡ count = cc in
    rw (sym same) (inr (unread p scope text ts ls stop k said _ h r (ap (λ (o : Option SyntaxFault). fault_before o (stopped_fault p text ts stop k)) (sym e))))

pub read_whole : (p : Bool) (scope : ScopeBindings) (text : List ℕ) (ts : List Token) (ls : List Lexeme) (given : List Node) (said : List Role)
    (stop stopped : Option ℕ) → IsLexed text ts ls stop → IsReadAs p ls given said stopped → first_fault p scope text ts said ts ≡ None →
    stop_of stopped stop (length ts) ≡ None → IsUnderstood p scope text ts given said
read_whole p scope text ts ls given said None None h r e f = sound_text p scope text ts ls given said h r e
read_whole p scope text ts ls given said (Some offset) None h r e f = absurd cc
read_whole p scope text ts ls given said stop (Some k) h r e f = absurd cc

-- what stops is within the tokens
pub stop_within : (p : Bool) (text : List ℕ) (ts : List Token) (ls : List Lexeme) (given : List Node) (said : List Role) (count : ℕ) (stop stopped : Option ℕ) →
    IsLexed text ts ls stop → IsReadAs p ls given said stopped → stop_of stopped stop (length ts) ≡ Some count → count ≤ length ls
stop_within p text ts ls given said count None None h r f = absurd cc
stop_within p text ts ls given said count (Some offset) None h r f = let same : length ts ≡ count = cc in omega (arith, same, counted text ts ls (Some offset) h)
stop_within p text ts ls given said count stop (Some k) h r f = let same : k ≡ count = cc in let w = r.fault.within in omega (arith, same, w)
