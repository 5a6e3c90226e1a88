-- Names and their numbers, one token after the other.
use Rattle.std.proofs.Common.{◌≡◌, ℕ, zero, suc, ◌+◌, ◌<◌, Bool, true, false, cond, List, [], ◌∷◌, ◌++◌, append_assoc, append-nil, length, drop, get_or, min, slice_get, Some, Result, Ok, Err, IfOk, refl, ap, sym, ◌∙◌, inl, inr, arith}
use Rattle.std.proofs.lemmas.Bool.{cases_lt, and_parts, and_from, false≢true, false_from_ne_true}
use Rattle.std.proofs.lemmas.List.{drop_all}
use Rattle.std.proofs.lemmas.Option.{none-some, same_Some}
use Rattle.std.proofs.lemmas.Slice.Eq.{bytes_eq-Decides}
use Rattle.std.specs.Prelude.{bytes_eq}
use Rattle.std.specs.declared.alloc.AllocError.{AllocError}
use Rattle.sx_lex.specs.declared.kinds.Token.{Token}
use Rattle.sx_names.specs.Numbering.{IsDistinct, GetsNumber}
use Rattle.sx_chars.specs.Names.{local_of}
use Rattle.sx_names.specs.Scope.{ScopeBindings}
use Rattle.sx_parse.specs.Checks.{name_uri, or_none}
use Rattle.sx_parse.specs.Lexemes.{text_of_token}
use Rattle.sx_parse.specs.Naming.{names_with_role, number_with}
use Rattle.sx_parse.specs.Numbers.{NameEntry, same_name, number_in, is_among_names, with_name, with_names, expanded, names_among, numbers_among}
use Rattle.sx_parse.specs.declared.roles.Role.{Role}
use Rattle.sx_parse.specs.declared.roles.Role.TheVariants as role
use Rattle.sx_parse.proofs.Failing.{cut_at}

-- the same name is one name
same_is : (a b : NameEntry) → same_name a b ≡ true → a ≡ b
same_is a b same =
    let parts = and_parts (bytes_eq a.0 b.0) (bytes_eq a.1 b.1) same in
    let uri : a.0 ≡ b.0 = (bytes_eq-Decides a.0 b.0).0 parts.0 in
    let local : a.1 ≡ b.1 = (bytes_eq-Decides a.1 b.1).0 parts.1 in
    ap (λ (u : List ℕ). let n : NameEntry = (u, a.1) in n) uri ∙ ap (λ (l : List ℕ). let n : NameEntry = (b.0, l) in n) local

is_same : (a : NameEntry) → same_name a a ≡ true
is_same a = and_from (bytes_eq a.0 a.0) (bytes_eq a.1 a.1) ((bytes_eq-Decides a.0 a.0).1 refl) ((bytes_eq-Decides a.1 a.1).1 refl)

-- what has a place is there
in_of_place : (xs : List NameEntry) (n : ℕ) (x : NameEntry) → slice_get xs n ≡ Some x → is_among_names xs x ≡ true
in_of_place [] n x at = absurd (none-some x at)
in_of_place (y ∷ ys) zero x at =
    ap (λ (v : Bool). cond v true (is_among_names ys x)) (ap (λ (z : NameEntry). same_name z x) (same_Some y x at) ∙ is_same x)
in_of_place (y ∷ ys) (suc n) x at = by (same_name y x) (in_of_place ys n x at)
  where
    by : (v : Bool) → is_among_names ys x ≡ true → cond v true (is_among_names ys x) ≡ true
    by true further = refl
    by false further = further

-- and what is there has the place that is its number
place_of_in : (xs : List NameEntry) (x : NameEntry) → is_among_names xs x ≡ true → slice_get xs (number_in xs x) ≡ Some x
place_of_in [] x there = absurd (false≢true there)
place_of_in (y ∷ ys) x there = by (same_name y x) refl there (place_of_in ys x)
  where
    by : (v : Bool) → same_name y x ≡ v → cond v true (is_among_names ys x) ≡ true → (is_among_names ys x ≡ true → slice_get ys (number_in ys x) ≡ Some x) → slice_get (y ∷ ys) (cond v 0 (suc (number_in ys x))) ≡ Some x
    by true same there further = ap Some (same_is y x same)
    by false other there further = further there

-- a name that was given a number has it among the names that it left
pub numbered_number : (new : List NameEntry) (x : NameEntry) (n : ℕ) → IsDistinct new → slice_get new n ≡ Some x → n ≡ number_in new x
numbered_number new x n distinct at = distinct n (number_in new x) x at (place_of_in new x (in_of_place new n x at))

with_known : (xs : List NameEntry) (x : NameEntry) → is_among_names xs x ≡ true → with_name xs x ≡ xs
with_known xs x there = ap (λ (v : Bool). cond v xs (xs ++ x ∷ [])) there

with_new : (xs : List NameEntry) (x : NameEntry) → is_among_names xs x ≡ false → with_name xs x ≡ xs ++ x ∷ []
with_new xs x absent = ap (λ (v : Bool). cond v xs (xs ++ x ∷ [])) absent

pub numbered_names : (old new : List NameEntry) (x : NameEntry) (n : ℕ) → GetsNumber old x n new → new ≡ with_name old x
numbered_names old new x n (inl known) = known.1 ∙ sym (with_known old x (in_of_place old n x known.0))
numbered_names old new x n (inr fresh) =
    fresh.2 ∙ sym (with_new old x (false_from_ne_true (is_among_names old x) (λ there. fresh.0 (number_in old x) (place_of_in old x there))))

-- more names leave the number of one that is there
number_stays : (xs more : List NameEntry) (x : NameEntry) → is_among_names xs x ≡ true → number_in (xs ++ more) x ≡ number_in xs x
number_stays [] more x there = absurd (false≢true there)
number_stays (y ∷ ys) more x there = by (same_name y x) there (number_stays ys more x)
  where
    by : (v : Bool) → cond v true (is_among_names ys x) ≡ true → (is_among_names ys x ≡ true → number_in (ys ++ more) x ≡ number_in ys x) → cond v 0 (suc (number_in (ys ++ more) x)) ≡ cond v 0 (suc (number_in ys x))
    by true there further = refl
    by false there further = ap suc (further there)

is_last : (xs : List NameEntry) (x : NameEntry) → is_among_names (xs ++ x ∷ []) x ≡ true
is_last [] x = ap (λ (v : Bool). cond v true false) (is_same x)
is_last (y ∷ ys) x = by (same_name y x) (is_last ys x)
  where
    by : (v : Bool) → is_among_names (ys ++ x ∷ []) x ≡ true → cond v true (is_among_names (ys ++ x ∷ []) x) ≡ true
    by true further = refl
    by false further = further

with_has : (xs : List NameEntry) (x : NameEntry) → is_among_names (with_name xs x) x ≡ true
with_has xs x = by (is_among_names xs x) refl
  where
    by : (v : Bool) → is_among_names xs x ≡ v → is_among_names (cond v xs (xs ++ x ∷ [])) x ≡ true
    by true there = there
    by false absent = is_last xs x

-- a token leaves the names that were there in front
grows : (r : Role) (names : List NameEntry) (x : NameEntry) → (more : List NameEntry) × (names_with_role r names x ≡ names ++ more)
grows role.Name names x = by (is_among_names names x)
  where
    by : (v : Bool) → (more : List NameEntry) × (cond v names (names ++ x ∷ []) ≡ names ++ more)
    by true = ([], sym (append-nil names))
    by false = (x ∷ [], refl)
grows r names x = ([], sym (append-nil names))

-- and names that come later leave its number
stays : (r : Role) (names more : List NameEntry) (x : NameEntry) → number_with r (names_with_role r names x ++ more) x ≡ number_with r (names_with_role r names x) x
stays role.Name names more x = number_stays (with_name names x) more x (with_has names x)
stays r names more x = refl

module _ (scope : ScopeBindings) (text : List ℕ) where
  names_step : (names : List NameEntry) (r : Role) (rs : List Role) (t : Token) (ts : List Token)
      → with_names names (names_among scope text (r ∷ rs) (t ∷ ts)) ≡ with_names (names_with_role r names (expanded scope (text_of_token text t))) (names_among scope text rs ts)
  names_step names role.Name rs t ts = refl
  names_step names r rs t ts = refl

  numbers_step : (names : List NameEntry) (r : Role) (rs : List Role) (t : Token) (ts : List Token)
      → numbers_among names scope text (r ∷ rs) (t ∷ ts) ≡ number_with r names (expanded scope (text_of_token text t)) ∷ numbers_among names scope text rs ts
  numbers_step names role.Name rs t ts = refl
  numbers_step names r rs t ts = refl

  no_names : (rs : List Role) → names_among scope text rs [] ≡ []
  no_names [] = refl
  no_names (r ∷ rs) = refl

  no_numbers : (names : List NameEntry) (rs : List Role) → numbers_among names scope text rs [] ≡ []
  no_numbers names [] = refl
  no_numbers names (r ∷ rs) = refl

  -- the tokens up to a place have left these names and numbers: those behind it give those of all
  pub record IsNumberedTo (rs : List Role) (ts : List Token) (begun : List NameEntry) (names : List NameEntry) (numbers : List ℕ) (k : ℕ) : Type 0 where
    pub named : with_names names (names_among scope text (drop k rs) (drop k ts)) ≡ with_names begun (names_among scope text rs ts)
    pub numbered : (more : List NameEntry) → numbers ++ numbers_among (names ++ more) scope text (drop k rs) (drop k ts) ≡ numbers_among (names ++ more) scope text rs ts

  pub numbering_goes_on : (rs : List Role) (ts : List Token) (begun names : List NameEntry) (numbers : List ℕ) (k : ℕ) (r : Role) (t : Token) (new : List NameEntry) (n : ℕ)
      → k < length rs → k < length ts → ((d : Role) → r ≡ get_or rs k d) → ((d : Token) → t ≡ get_or ts k d) → IsNumberedTo rs ts begun names numbers k
      → new ≡ names_with_role r names (expanded scope (text_of_token text t)) → n ≡ number_with r new (expanded scope (text_of_token text t)) → IsNumberedTo rs ts begun new (numbers ++ n ∷ []) (k + 1)
  numbering_goes_on rs ts begun names numbers k r t new n few less role token so_far is number =
      let name = expanded scope (text_of_token text t) in
      let first : drop k rs ≡ r ∷ drop (k + 1) rs = cut_at rs k r few role in
      let second : drop k ts ≡ t ∷ drop (k + 1) ts = cut_at ts k t less token in record {
        named =
            ap (λ (xs : List NameEntry). with_names xs (names_among scope text (drop (k + 1) rs) (drop (k + 1) ts))) is
            ∙ sym (ap (λ (xs : List Role). with_names names (names_among scope text xs (drop k ts))) first
            ∙ ap (λ (xs : List Token). with_names names (names_among scope text (r ∷ drop (k + 1) rs) xs)) second
            ∙ names_step names r (drop (k + 1) rs) t (drop (k + 1) ts))
            ∙ so_far.named;
        numbered = λ more.
            let grown = grows r names name in
            let all : List NameEntry = new ++ more in
            let longer : new ++ more ≡ names ++ (grown.0 ++ more) = ap (λ (xs : List NameEntry). xs ++ more) (is ∙ grown.1) ∙ append_assoc names grown.0 more in
            let rest = numbers_among all scope text (drop (k + 1) rs) (drop (k + 1) ts) in
            let kept : n ≡ number_with r all name =
            number ∙ ap (λ (xs : List NameEntry). number_with r xs name) is ∙ sym (stays r names more name) ∙ ap (λ (xs : List NameEntry). number_with r (xs ++ more) name) (sym is) in
            append_assoc numbers (n ∷ []) rest
            ∙ ap (λ (m : ℕ). numbers ++ m ∷ rest) kept
            ∙ ap (λ (ms : List ℕ). numbers ++ ms)
            (sym (ap (λ (xs : List Role). numbers_among all scope text xs (drop k ts)) first
            ∙ ap (λ (xs : List Token). numbers_among all scope text (r ∷ drop (k + 1) rs) xs) second
            ∙ numbers_step all r (drop (k + 1) rs) t (drop (k + 1) ts)))
            ∙ ap (λ (xs : List NameEntry). numbers ++ numbers_among xs scope text (drop k rs) (drop k ts)) longer
            ∙ so_far.numbered (grown.0 ++ more)
            ∙ ap (λ (xs : List NameEntry). numbers_among xs scope text rs ts) (sym longer);
      }

  none_left : (rs : List Role) (ts : List Token) (k : ℕ) → k ≡ min (length rs) (length ts)
      → (names_among scope text (drop k rs) (drop k ts) ≡ []) × ((names : List NameEntry) → numbers_among names scope text (drop k rs) (drop k ts) ≡ [])
  none_left rs ts k end = elim (cases_lt k (length rs)) [
    | inl few ↦
        let past : drop k ts ≡ [] = drop_all k ts (omega arith) in (
          ap (names_among scope text (drop k rs)) past ∙ no_names (drop k rs),
          λ names. ap (numbers_among names scope text (drop k rs)) past ∙ no_numbers names (drop k rs),
        )
    | inr over ↦
        let past : drop k rs ≡ [] = drop_all k rs over in (
          ap (λ (xs : List Role). names_among scope text xs (drop k ts)) past,
          λ names. ap (λ (xs : List Role). numbers_among names scope text xs (drop k ts)) past,
        )
  ]

  pub numbering_ends : (rs : List Role) (ts : List Token) (begun names : List NameEntry) (numbers : List ℕ) (k : ℕ) → k ≡ min (length rs) (length ts) → IsNumberedTo rs ts begun names numbers k
      → (names ≡ with_names begun (names_among scope text rs ts)) × (numbers ≡ numbers_among names scope text rs ts)
  numbering_ends rs ts begun names numbers k end all =
      let left = none_left rs ts k end in
      let same : names ++ [] ≡ names = append-nil names in (
        sym (ap (with_names names) left.0) ∙ all.named,
        sym (append-nil numbers)
            ∙ ap (λ (ms : List ℕ). numbers ++ ms) (sym (left.1 (names ++ [])))
            ∙ all.numbered []
            ∙ ap (λ (xs : List NameEntry). numbers_among xs scope text rs ts) same,
      )

abbrev pair : List ℕ → List ℕ → NameEntry
pair uri local = (uri, local)

module _ (scope : ScopeBindings) (text uri local : List ℕ) (old new : List NameEntry) (is_uri : uri ≡ or_none (name_uri scope text)) (is_local : local ≡ local_of text) where
  same_expanded : pair uri local ≡ expanded scope text
  same_expanded = ap (λ (u : List ℕ). pair u local) is_uri ∙ ap (pair (or_none (name_uri scope text))) is_local

  -- a name that was numbered is one more, if it is new
  pub named_so : (answer : Result ℕ AllocError) → IfOk answer (λ n. GetsNumber old (pair uri local) n new) → IfOk answer (λ n. new ≡ with_name old (expanded scope text))
  named_so (Ok n) numbered = numbered_names old new (pair uri local) n numbered ∙ ap (with_name old) same_expanded
  named_so (Err e) numbered = tt

  pub numbered_so : (answer : Result ℕ AllocError) → IsDistinct new → IfOk answer (λ n. slice_get new n ≡ Some (pair uri local)) → IfOk answer (λ n. n ≡ number_in new (expanded scope text))
  numbered_so (Ok n) distinct placed = numbered_number new (pair uri local) n distinct placed ∙ ap (number_in new) same_expanded
  numbered_so (Err e) distinct placed = tt
