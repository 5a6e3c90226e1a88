-- A text has one reading or one refusal, and not both.
use Rattle.std.proofs.Common.{◌≡◌, ℕ, ◌<◌, ◌≤◌, inl, inr, Bool, true, List, [], ◌∷◌, ◌++◌, length, take, Option, Some, None, refl, ap, sym, subst, ◌∙◌, append_assoc, arith}
use Rattle.std.proofs.lemmas.List.{length-take-le}
use Rattle.std.proofs.lemmas.Option.{none-some, same_Some}
use Rattle.std.specs.Str.{IsUtf8}
use Rattle.sx_lex.specs.Tokens.{AreTokens}
use Rattle.sx_lex.specs.declared.kinds.Token.{Token}
use Rattle.sx_lex.proofs.Breaks.{front_tokens}
use Rattle.sx_lex.proofs.Unique.{same_tokens, whole_or_broken, same_offset}
use Rattle.sx_names.specs.Scope.{ScopeBindings}
use Rattle.sx_parse.specs.declared.faults.SyntaxFault.{SyntaxFault}
use Rattle.sx_parse.specs.declared.lexemes.Lexeme.{Lexeme}
use Rattle.sx_parse.specs.declared.lexemes.Lexeme.TheVariants as lexeme
use Rattle.sx_parse.specs.declared.roles.Role.{Role}
use Rattle.sx_parse.specs.Answers.{IsRead, IsRefused, IsUnsound, IsUnread, StopsAt, fault_in, fault_before, breaks, end_offset}
use Rattle.sx_parse.specs.Checks.{first_fault}
use Rattle.sx_parse.specs.Grammar.{Tree, Derives, Begins, IsFault, prefix_tokens}
use Rattle.sx_parse.specs.Lexemes.{lexemes_of}
use Rattle.sx_parse.specs.Lexing.{AreRead}
use Rattle.sx_parse.specs.Machine.{State, named, start, read}
use Rattle.sx_parse.specs.Reading.{HasContinuation, SaysNothing, ends_in_name}
use Rattle.sx_parse.specs.Roles.{roles}
use Rattle.sx_parse.specs.Standing.{state_roles}
use Rattle.sx_parse.proofs.Running.{bind, accept}
use Rattle.sx_parse.proofs.Firm.{Leads}
use Rattle.sx_parse.proofs.Behind.{after, then_read, Behind, goes_on, held, kept, behind_counts, front_taken}
use Rattle.sx_parse.proofs.Sound.{tokens_of, stack_tokens}
use Rattle.sx_parse.proofs.Exact.{found}
use Rattle.sx_parse.proofs.Final.{reached, last_of}
use Rattle.sx_parse.proofs.OneAnswer.{one_derivation, one_fault, none_longer, not_both}

-- ---- the roles of tokens that derivations go on with

step_reached : (o : Option State) (ls rest : List Lexeme) (t : Tree) → ((next : State) → accept next (ls ++ rest) ≡ Some t → ((u : State) × (after next ls ≡ Some u))) →
    bind o (λ next. accept next (ls ++ rest)) ≡ Some t → ((u : State) × (then_read o (λ next. after next ls) ≡ Some u))
step_reached None ls rest t f e = absurd cc
step_reached (Some next) ls rest t f e = f next e

pub some_state : (s : State) (ls rest : List Lexeme) (t : Tree) → accept s (ls ++ rest) ≡ Some t → ((u : State) × (after s ls ≡ Some u))
some_state s [] rest t e = (s, refl)
some_state s (l ∷ ls) rest t e = step_reached (read s l) ls rest t (λ next f. some_state next ls rest t f) e

-- where the last token is a name and none turns it, and where it is none
stands_behind : (s : State) (front rest : List Lexeme) (t : Tree) → tokens_of s ≡ front → (ends_in_name front ≡ true → SaysNothing rest) → accept s rest ≡ Some t →
    Leads (state_roles s) (roles 0 t)
stands_behind (named pre w k s) front rest t e q a =
    let name = lexeme.Name w k in
    let f = last_of true (stack_tokens s ++ prefix_tokens pre) name refl in
    let g : ends_in_name front ≡ true = ap ends_in_name (sym e ∙ sym (append_assoc (stack_tokens s) (prefix_tokens pre) (name ∷ []))) ∙ f in
    kept (named pre w k s) rest t a (q g)
stands_behind s front rest t e q a = held s rest t a

continued : (p : Bool) (front : List Lexeme) (t : Tree) (c : HasContinuation p front t) → accept (start p) (front ++ c.rest) ≡ Some t
continued p front t c = found p (front ++ c.rest) t (record { fits = c.fits; tokens_are = c.tokens_are })

roles_in_front : (p : Bool) (front : List Lexeme) (n : ℕ) (s : State) (t : Tree) → n ≡ length front → Behind p front s → HasContinuation p front t →
    state_roles s ≡ take n (roles 0 t)
roles_in_front p front n s t h b c =
    let x = reached front (start p) s tt b in
    let e : accept s c.rest ≡ Some t = sym (goes_on (start p) front c.rest s b) ∙ continued p front t c in
    front_taken n (state_roles s) (roles 0 t) (h ∙ sym (behind_counts p front s b)) (stands_behind s front c.rest t x.tokens_are c.quiet e)

same_roles : (p : Bool) (front : List Lexeme) (n : ℕ) (t u : Tree) → n ≡ length front → HasContinuation p front t → HasContinuation p front u →
    take n (roles 0 t) ≡ take n (roles 0 u)
same_roles p front n t u h a b =
    let s = some_state (start p) front a.rest t (continued p front t a) in
    sym (roles_in_front p front n s.0 t h s.1 a) ∙ roles_in_front p front n s.0 u h s.1 b

-- ---- where reading stops

continued_begins : (p : Bool) (ts : List Lexeme) (t : Tree) → HasContinuation p ts t → Begins p ts
continued_begins p ts t c = record { rest = c.rest; tree = t; derives = record { fits = c.fits; tokens_are = c.tokens_are } }

stops_within : (p : Bool) (ls : List Lexeme) (stop : Option ℕ) (k : ℕ) → StopsAt p ls stop k → k ≤ length ls
stops_within p ls None k f = f.within
stops_within p ls (Some offset) k (inl f) = f.0.within
stops_within p ls (Some offset) k (inr e) = omega (arith, e)

-- a fault stands behind no tokens that begin a readable list
fault_or_end : (p : Bool) (ls : List Lexeme) (j k : ℕ) (t : Tree) → IsFault p ls j → j < length ls → k ≡ length ls → HasContinuation p (take k ls) t → ⊥
fault_or_end p ls j k t f less end c = none_longer p ls j k f (omega (arith, less, end)) (omega (arith, end)) (continued_begins p (take k ls) t c)

one_stop : (p : Bool) (ls : List Lexeme) (stop : Option ℕ) (j k : ℕ) (t u : Tree) → StopsAt p ls stop j → HasContinuation p (take j ls) t → StopsAt p ls stop k →
    HasContinuation p (take k ls) u → j ≡ k
one_stop p ls None j k t u f a g b = one_fault p ls j k f g
one_stop p ls (Some offset) j k t u (inl f) a (inl g) b = one_fault p ls j k f.0 g.0
one_stop p ls (Some offset) j k t u (inl f) a (inr g) b = absurd (fault_or_end p ls j k u f.0 f.1 g b)
one_stop p ls (Some offset) j k t u (inr f) a (inl g) b = absurd (fault_or_end p ls k j t g.0 g.1 f a)
one_stop p ls (Some offset) j k t u (inr f) a (inr g) b = omega (arith, f, g)

-- ---- texts

one_lexing : (text : List ℕ) (ts us : List Token) (stop halt : Option ℕ) → IsUtf8 text → AreRead text ts stop → AreRead text us halt → (stop ≡ halt) × (ts ≡ us)
one_lexing text ts us None None h a b = (refl, same_tokens ts us 0 text a b)
one_lexing text ts us None (Some n) h a b = absurd (whole_or_broken ts us 0 text n a b)
one_lexing text ts us (Some m) None h a b = absurd (whole_or_broken us ts 0 text m b a)
one_lexing text ts us (Some m) (Some n) h a b =
    let e : m ≡ n = same_offset ts us 0 text m n a b in
    let other = subst (λ (k : ℕ). AreTokens 0 (take k text) us) (sym e) (front_tokens text us n h b) in
    (ap Some e, same_tokens ts us 0 (take m text) (front_tokens text ts m h a) other)

module _ (p : Bool) (scope : ScopeBindings) (text : List ℕ) where
  one_derived : (ts us : List Token) (t u : Tree) → AreTokens 0 text ts → Derives p (lexemes_of text ts) t → AreTokens 0 text us → Derives p (lexemes_of text us) u →
      (ts ≡ us) × (t ≡ u)
  one_derived ts us t u a d b e =
      let same : ts ≡ us = same_tokens ts us 0 text a b in
      (same, one_derivation p (lexemes_of text us) t u (subst (λ (xs : List Token). Derives p (lexemes_of text xs) t) same d) e)

  derived_or_stopped : (ts us : List Token) (t : Tree) (stop : Option ℕ) (k : ℕ) → AreTokens 0 text ts → Derives p (lexemes_of text ts) t → AreRead text us stop →
      StopsAt p (lexemes_of text us) stop k → ⊥
  derived_or_stopped ts us t None k a d b f =
      not_both p (lexemes_of text us) t k (subst (λ (xs : List Token). Derives p (lexemes_of text xs) t) (same_tokens ts us 0 text a b) d) f
  derived_or_stopped ts us t (Some offset) k a d b f = whole_or_broken ts us 0 text offset a b

  first_same : (ts us : List Token) (t u : Tree) → (ts ≡ us) × (t ≡ u) → first_fault p scope text ts (roles 0 t) ts ≡ first_fault p scope text us (roles 0 u) us
  first_same ts us t u same =
      ap (λ (xs : List Token). first_fault p scope text xs (roles 0 t) xs) same.0 ∙ ap (λ (x : Tree). first_fault p scope text us (roles 0 x) us) same.1

  pub one_read : (ts us : List Token) (t u : Tree) → IsRead p scope text ts t → IsRead p scope text us u → (ts ≡ us) × (t ≡ u)
  one_read ts us t u a b = one_derived ts us t u a.lexes a.derives b.lexes b.derives

  pub read_or_refused : (ts : List Token) (t : Tree) (fault : SyntaxFault) → IsRead p scope text ts t → IsRefused p scope text fault → ⊥
  read_or_refused ts t fault a (inl b) =
      let same = one_derived ts b.tokens t b.tree a.lexes a.derives b.lexes b.derives in
      none-some fault (sym a.sound ∙ first_same ts b.tokens t b.tree same ∙ b.first)
  read_or_refused ts t fault a (inr b) = derived_or_stopped ts b.tokens t b.stop b.count a.lexes a.derives b.lexes b.stops

  one_unsound : (f g : SyntaxFault) → IsUnsound p scope text f → IsUnsound p scope text g → f ≡ g
  one_unsound f g a b =
      let same = one_derived a.tokens b.tokens a.tree b.tree a.lexes a.derives b.lexes b.derives in
      same_Some f g (sym a.first ∙ first_same a.tokens b.tokens a.tree b.tree same ∙ b.first)

  unsound_or_unread : (f g : SyntaxFault) → IsUnsound p scope text f → IsUnread p scope text g → ⊥
  unsound_or_unread f g a b = derived_or_stopped a.tokens b.tokens a.tree b.stop b.count a.lexes a.derives b.lexes b.stops

  abbrev unread_fault : List Token → Option ℕ → ℕ → List Role → SyntaxFault
  unread_fault ts stop k rs = fault_before (first_fault p scope text ts rs ts) (fault_in p ts (lexemes_of text ts) (breaks stop) (end_offset text stop) k)

  one_unread : (f g : SyntaxFault) → IsUtf8 text → IsUnread p scope text f → IsUnread p scope text g → f ≡ g
  one_unread f g h a b =
      let same = one_lexing text a.tokens b.tokens a.stop b.stop h a.lexes b.lexes in
      let ls = lexemes_of text a.tokens in
      let lexemes : lexemes_of text b.tokens ≡ ls = ap (λ (ts : List Token). lexemes_of text ts) (sym same.1) in
      let stops : StopsAt p ls a.stop b.count =
      subst (λ (o : Option ℕ). StopsAt p ls o b.count) (sym same.0) (subst (λ (xs : List Lexeme). StopsAt p xs b.stop b.count) lexemes b.stops) in
      let continues : HasContinuation p (take b.count ls) b.tree = subst (λ (xs : List Lexeme). HasContinuation p (take b.count xs) b.tree) lexemes b.continues in
      let count : a.count ≡ b.count = one_stop p ls a.stop a.count b.count a.tree b.tree a.stops a.continues stops continues in
      let there : HasContinuation p (take a.count ls) b.tree = subst (λ (k : ℕ). HasContinuation p (take k ls) b.tree) (sym count) continues in
      let many : a.count ≡ length (take a.count ls) = sym (length-take-le a.count ls (stops_within p ls a.stop a.count a.stops)) in
      let said = same_roles p (take a.count ls) a.count a.tree b.tree many a.continues there in
      a.first
      ∙ ap (λ (rs : List Role). unread_fault a.tokens a.stop a.count rs) said
      ∙ ap (λ (k : ℕ). unread_fault a.tokens a.stop k (take k (roles 0 b.tree))) count
      ∙ ap (λ (o : Option ℕ). unread_fault a.tokens o b.count (take b.count (roles 0 b.tree))) same.0
      ∙ ap (λ (ts : List Token). unread_fault ts b.stop b.count (take b.count (roles 0 b.tree))) same.1
      ∙ sym b.first

  pub one_refusal : (f g : SyntaxFault) → IsUtf8 text → IsRefused p scope text f → IsRefused p scope text g → f ≡ g
  one_refusal f g h (inl a) (inl b) = one_unsound f g a b
  one_refusal f g h (inl a) (inr b) = absurd (unsound_or_unread f g a b)
  one_refusal f g h (inr a) (inl b) = absurd (unsound_or_unread g f b a)
  one_refusal f g h (inr a) (inr b) = one_unread f g h a b
