-- A list of tokens has a derivation or a fault, one of it, and not both.
use Rattle.std.proofs.Common.{◌≡◌, ℕ, suc, ◌<◌, ◌≤◌, ◌⊎◌, inl, inr, Bool, List, [], ◌++◌, length, take, drop, Result, Ok, Err, MatchResult, ap, sym, subst, ◌∙◌, append_assoc, append-nil, arith}
use Rattle.std.proofs.lemmas.Bool.{cases_lt}
use Rattle.std.proofs.lemmas.List.{take-append-drop, take-append-le, length-take-le}
use Rattle.sx_parse.specs.declared.lexemes.Lexeme.{Lexeme}
use Rattle.sx_parse.specs.Grammar.{Tree, Derives, Begins, IsFault}
use Rattle.sx_parse.specs.Machine.{start, run}
use Rattle.sx_parse.proofs.Running.{accept}
use Rattle.sx_parse.proofs.Exact.{IsReading, exact, found, same_some}

answered : (p : Bool) (ts : List Lexeme) (r : Result Tree ℕ) → MatchResult r (IsReading p ts) (IsFault p ts) →
    ((t : Tree) × Derives p ts t) ⊎ ((k : ℕ) × IsFault p ts k)
answered p ts (Ok t) x = inl (t, x.derives)
answered p ts (Err k) x = inr (k, x)

pub some_answer : (p : Bool) (ts : List Lexeme) → ((t : Tree) × Derives p ts t) ⊎ ((k : ℕ) × IsFault p ts k)
some_answer p ts = answered p ts (run (start p) 0 ts) (exact p ts)

pub one_derivation : (p : Bool) (ts : List Lexeme) (t u : Tree) → Derives p ts t → Derives p ts u → t ≡ u
one_derivation p ts t u a b = same_some (accept (start p) ts) t u (found p ts t a) (found p ts u b)

-- what is in front of tokens that begin a readable list begins it too
begins_front : (p : Bool) (front back : List Lexeme) → Begins p (front ++ back) → Begins p front
begins_front p front back b = record {
  rest = back ++ b.rest;
  tree = b.tree;
  derives = subst (λ (ls : List Lexeme). Derives p ls b.tree) (append_assoc front back b.rest) b.derives;
}

fewer_begin : (p : Bool) (ts : List Lexeme) (i : ℕ) → Begins p ts → Begins p (take i ts)
fewer_begin p ts i b = begins_front p (take i ts) (drop i ts) (subst (Begins p) (sym (take-append-drop i ts)) b)

fewer_taken : (ts : List Lexeme) (i j : ℕ) → i ≤ j → j ≤ length ts → take i (take j ts) ≡ take i ts
fewer_taken ts i j h within =
    let e : i ≤ length (take j ts) = omega (arith, h, length-take-le j ts within) in
    sym (take-append-le i (take j ts) (drop j ts) e) ∙ ap (take i) (take-append-drop j ts)

derived_begins : (p : Bool) (ts : List Lexeme) (t : Tree) → Derives p ts t → Begins p ts
derived_begins p ts t d = record { rest = []; tree = t; derives = subst (λ (ls : List Lexeme). Derives p ls t) (sym (append-nil ts)) d }

-- no readable list begins with more tokens than those before the fault
pub none_longer : (p : Bool) (ts : List Lexeme) (j k : ℕ) → IsFault p ts j → j < k → k ≤ length ts → Begins p (take k ts) → ⊥
none_longer p ts j k f less within b =
    f.at_token (omega (arith, less, within))
    (subst (Begins p) (fewer_taken ts (suc j) k (omega (arith, less)) within) (fewer_begin p (take k ts) (suc j) b))

pub one_fault : (p : Bool) (ts : List Lexeme) (j k : ℕ) → IsFault p ts j → IsFault p ts k → j ≡ k
one_fault p ts j k f g = elim (cases_lt j k) [
  | inl less ↦ absurd (none_longer p ts j k f less g.within g.before)
  | inr most ↦ elim (cases_lt k j) [ inl less ↦ absurd (none_longer p ts k j g less f.within f.before) | inr least ↦ omega (arith, most, least) ]
]

pub not_both : (p : Bool) (ts : List Lexeme) (t : Tree) (k : ℕ) → Derives p ts t → IsFault p ts k → ⊥
not_both p ts t k d f = elim (cases_lt k (length ts)) [
  | inl less ↦ f.at_token less (fewer_begin p ts (suc k) (derived_begins p ts t d))
  | inr most ↦ f.at_end (let within = f.within in omega (arith, most, within)) t d
]
