-- Reading is exact: the one derivation, or the first token at which none goes on.
use Rattle.std.proofs.Common.{◌≡◌, ℕ, suc, ◌+◌, ◌<◌, ◌≤◌, Bool, List, [], ◌∷◌, ◌++◌, length, take, Option, Some, None, Result, Ok, Err, MatchResult, refl, ap, sym, ◌∙◌, arith}
use Rattle.sx_parse.specs.declared.lexemes.Lexeme.{Lexeme}
use Rattle.sx_parse.specs.Grammar.{Tree, Derives, IsFault}
use Rattle.sx_parse.specs.Machine.{State, start, run, answer, and_then, read, ended}
use Rattle.sx_parse.proofs.Running.{accept}
use Rattle.sx_parse.proofs.Complete.{complete}
use Rattle.sx_parse.proofs.Sound.{IsSound, flag_of, tokens_of, Goes, step_goes, sound}
use Rattle.sx_parse.proofs.Ends.{state_can_end}

-- the list stops the machine behind i of its tokens
pub record Stops (s : State) (ts : List Lexeme) (i : ℕ) : Type 0 where
  pub within : i ≤ length ts
  pub behind : State
  pub is_sound : IsSound behind
  pub after : (more : List Lexeme) → accept s (take i ts ++ more) ≡ accept behind more
  pub at_token : i < length ts → (more : List Lexeme) → accept s (take (suc i) ts ++ more) ≡ None
  pub at_end : i ≡ length ts → accept s ts ≡ None

-- what a run from the place k says
abbrev pub Outcome : State → ℕ → List Lexeme → Result Tree ℕ → Type 0
Outcome s k ts (Ok c) = accept s ts ≡ Some c
Outcome s k ts (Err j) = (i : ℕ) × (j ≡ k + i) × Stops s ts i

at_end : (o : Option Tree) (s : State) (k : ℕ) → IsSound s → ended s ≡ o → Outcome s k [] (answer k o)
at_end None s k h e = (
  0,
  omega arith,
  record {
    within = omega arith;
    behind = s;
    is_sound = h;
    after = λ more. refl;
    at_token = λ l. absurd (omega arith);
    at_end = λ _. e;
  },
)
at_end (Some c) s k h e = e

later : (s n : State) (t : Lexeme) (ts : List Lexeme) (k : ℕ) (r : Result Tree ℕ) → read s t ≡ Some n → Outcome n (suc k) ts r →
    Outcome s k (t ∷ ts) r
later s n t ts k (Ok c) f o = rw f o
later s n t ts k (Err j) f o = (
  suc o.0,
  omega (arith, o.1),
  record {
    within = omega (arith, o.2.within);
    behind = o.2.behind;
    is_sound = o.2.is_sound;
    after = λ more. rw f (o.2.after more);
    at_token = λ l more. rw f (o.2.at_token (omega arith) more);
    at_end = λ l. rw f (o.2.at_end (omega arith));
  },
)

turn : (o : Option State) (s : State) (t : Lexeme) (ts : List Lexeme) (k : ℕ) → IsSound s → read s t ≡ o → Goes (flag_of s) (tokens_of s) t o →
    ((n : State) → IsSound n → Outcome n (suc k) ts (run n (suc k) ts)) → Outcome s k (t ∷ ts) (and_then k o (λ next. run next (suc k) ts))
turn None s t ts k h e g f = (
  0,
  omega arith,
  record {
    within = omega arith;
    behind = s;
    is_sound = h;
    after = λ more. refl;
    at_token = λ l more. rw e refl;
    at_end = λ l. absurd (omega arith);
  },
)
turn (Some n) s t ts k h e g f = later s n t ts k (run n (suc k) ts) e (f n g.0)

outcome : (ts : List Lexeme) (s : State) (k : ℕ) → IsSound s → Outcome s k ts (run s k ts)
outcome [] s k h = at_end (ended s) s k h refl
outcome (t ∷ ts) s k h = turn (read s t) s t ts k h refl (step_goes s t h) (λ n m. outcome ts n (suc k) m)

pub same_some : (o : Option Tree) (c d : Tree) → o ≡ Some c → o ≡ Some d → c ≡ d
same_some o c d e f = cc

none_some : {A : Type 0} (o : Option Tree) (c : Tree) → o ≡ None → o ≡ Some c → A
none_some o c e f = absurd cc

pub derived : (p : Bool) (ts : List Lexeme) (c : Tree) → accept (start p) ts ≡ Some c → Derives p ts c
derived p ts c a = let x = sound p ts (start p) c refl tt a in record { fits = x.fits; tokens_are = x.tokens_are }

pub found : (p : Bool) (ts : List Lexeme) (c : Tree) → Derives p ts c → accept (start p) ts ≡ Some c
found p ts c d = ap (accept (start p)) (sym d.tokens_are) ∙ complete p c d.fits

-- a derivation of these tokens, and their only one
pub record IsReading (p : Bool) (ts : List Lexeme) (t : Tree) : Type 0 where
  pub derives : Derives p ts t
  pub only : (u : Tree) → Derives p ts u → u ≡ t

pub reading : (p : Bool) (ts : List Lexeme) (c : Tree) → accept (start p) ts ≡ Some c → IsReading p ts c
reading p ts c a = record { derives = derived p ts c a; only = λ u d. same_some (accept (start p) ts) u c (found p ts u d) a }

pub fault : (p : Bool) (ts : List Lexeme) (i : ℕ) → Stops (start p) ts i → IsFault p ts i
fault p ts i x =
    let e = state_can_end x.behind in
    record {
      within = x.within;
      before = record { rest = e.rest; tree = e.tree; derives = derived p (take i ts ++ e.rest) e.tree (x.after e.rest ∙ e.accepts) };
      at_token = λ l b.
          none_some (accept (start p) (take (suc i) ts ++ b.rest)) b.tree (x.at_token l b.rest) (found p (take (suc i) ts ++ b.rest) b.tree b.derives);
      at_end = λ l t d. none_some (accept (start p) ts) t (x.at_end l) (found p ts t d);
    }

exact_by : (p : Bool) (ts : List Lexeme) (r : Result Tree ℕ) → Outcome (start p) 0 ts r → MatchResult r (IsReading p ts) (IsFault p ts)
exact_by p ts (Ok c) o = reading p ts c o
exact_by p ts (Err j) o = let e : j ≡ o.0 = omega (arith, o.1) in rw e (fault p ts o.0 o.2)

-- a run answers the one derivation, or the fault
pub exact : (p : Bool) (ts : List Lexeme) → MatchResult (run (start p) 0 ts) (IsReading p ts) (IsFault p ts)
exact p ts = exact_by p ts (run (start p) 0 ts) (outcome ts (start p) 0 tt)
