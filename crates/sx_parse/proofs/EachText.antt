-- Each text is read or refused.
use Rattle.std.proofs.Common.{◌≡◌, ℕ, ◌⊎◌, inl, inr, Bool, List, [], ◌++◌, length, take, Option, Some, None, refl, sym, ◌∙◌, append-nil}
use Rattle.std.proofs.Math.Seq.{take-length}
use Rattle.sx_lex.specs.Tokens.{AreTokens}
use Rattle.sx_lex.specs.declared.kinds.Token.{Token}
use Rattle.sx_lex.proofs.EachText.{some_tokens}
use Rattle.sx_names.specs.Scope.{ScopeBindings}
use Rattle.sx_parse.specs.declared.faults.SyntaxFault.{SyntaxFault}
use Rattle.sx_parse.specs.declared.lexemes.Lexeme.{Lexeme}
use Rattle.sx_parse.specs.declared.roles.Role.{Role}
use Rattle.sx_parse.specs.Answers.{breaks, end_offset, fault_in, fault_before}
use Rattle.sx_parse.specs.Checks.{first_fault}
use Rattle.sx_parse.specs.Grammar.{Tree, Derives, IsFault}
use Rattle.sx_parse.specs.Laws.{IsAnswered}
use Rattle.sx_parse.specs.Lexemes.{lexemes_of}
use Rattle.sx_parse.specs.Lexing.{AreRead}
use Rattle.sx_parse.specs.Machine.{start}
use Rattle.sx_parse.specs.Reading.{HasContinuation, IsStopped}
use Rattle.sx_parse.specs.Roles.{roles}
use Rattle.sx_parse.specs.Standing.{state_roles}
use Rattle.sx_parse.proofs.Exact.{found}
use Rattle.sx_parse.proofs.Final.{stopped}
use Rattle.sx_parse.proofs.OneAnswer.{some_answer}
use Rattle.sx_parse.proofs.OneText.{some_state}
use Rattle.sx_parse.proofs.Refusals.{stops_before}

-- where reading stops, some derivation goes on up to there
stops_so : (p : Bool) (ls : List Lexeme) (k : ℕ) → IsFault p ls k → (said : List Role) × IsStopped p ls k said
stops_so p ls k f =
    let b = f.before in
    let s = some_state (start p) (take k ls) b.rest b.tree (found p (take k ls ++ b.rest) b.tree b.derives) in
    (state_roles s.0, stopped p ls k s.0 f.within s.1 f)

whole_goes_on : (p : Bool) (ls : List Lexeme) (t : Tree) → Derives p ls t → HasContinuation p (take (length ls) ls) t
whole_goes_on p ls t d = record {
  rest = [];
  fits = d.fits;
  tokens_are = d.tokens_are ∙ sym (take-length ls) ∙ sym (append-nil (take (length ls) ls));
  quiet = λ _. tt;
}

module _ (p : Bool) (scope : ScopeBindings) (text : List ℕ) where
  -- the fault where reading stops at a token
  abbrev fault_there : List Token → Option ℕ → ℕ → Tree → SyntaxFault
  fault_there ts stop k t =
      fault_before (first_fault p scope text ts (take k (roles 0 t)) ts) (fault_in p ts (lexemes_of text ts) (breaks stop) (end_offset text stop) k)

  stopped_so : (ts : List Token) (stop : Option ℕ) (k : ℕ) (said : List Role) → AreRead text ts stop → IsStopped p (lexemes_of text ts) k said → IsAnswered p scope text
  stopped_so ts stop k said read s = inr (
    fault_there ts stop k s.tree,
    inr (record {
      tokens = ts;
      stop = stop;
      lexes = read;
      count = k;
      stops = stops_before p (lexemes_of text ts) stop k s.fault;
      tree = s.tree;
      continues = s.continues;
      first = refl;
    }),
  )

  broken_so : (ts : List Token) (offset : ℕ) (t : Tree) → AreRead text ts (Some offset) → Derives p (lexemes_of text ts) t → IsAnswered p scope text
  broken_so ts offset t read d = inr (
    fault_there ts (Some offset) (length (lexemes_of text ts)) t,
    inr (record {
      tokens = ts;
      stop = Some offset;
      lexes = read;
      count = length (lexemes_of text ts);
      stops = inr refl;
      tree = t;
      continues = whole_goes_on p (lexemes_of text ts) t d;
      first = refl;
    }),
  )

  derived_so : (ts : List Token) (t : Tree) (o : Option SyntaxFault) → AreTokens 0 text ts → Derives p (lexemes_of text ts) t →
      first_fault p scope text ts (roles 0 t) ts ≡ o → IsAnswered p scope text
  derived_so ts t None read d e = inl (ts, t, record { lexes = read; derives = d; sound = e })
  derived_so ts t (Some fault) read d e = inr (fault, inl (record { tokens = ts; tree = t; lexes = read; derives = d; first = e }))

  lexed_so : (ts : List Token) (stop : Option ℕ) → AreRead text ts stop → ((t : Tree) × Derives p (lexemes_of text ts) t) ⊎ ((k : ℕ) × IsFault p (lexemes_of text ts) k) → IsAnswered p scope text
  lexed_so ts None read (inl d) = derived_so ts d.0 (first_fault p scope text ts (roles 0 d.0) ts) read d.1 refl
  lexed_so ts (Some offset) read (inl d) = broken_so ts offset d.0 read d.1
  lexed_so ts stop read (inr f) = let s = stops_so p (lexemes_of text ts) f.0 f.1 in stopped_so ts stop f.0 s.0 read s.1

  pub some_text_answer : IsAnswered p scope text
  some_text_answer = elim (some_tokens text) [
    | inl all ↦ lexed_so all.0 None all.1 (some_answer p (lexemes_of text all.0))
    | inr broken ↦ lexed_so broken.1.0 (Some broken.0) broken.1.1 (some_answer p (lexemes_of text broken.1.0))
  ]
