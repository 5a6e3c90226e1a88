-- Bindings one behind the other, and which of a prefix is the last.
use Rattle.std.proofs.Common.{◌≡◌, ℕ, suc, zero, ◌<◌, Bool, true, false, List, [], ◌∷◌, ◌++◌, length, map, reverse, slice_get, get_or, Option, None, Some, refl, sym, ap, ◌∙◌, subst, true≢false, nat_eq, bytes_eq, if◌then◌else◌, string_bytes, arith, get_or-set_same, get_or-set_other}
use Rattle.std.proofs.Math.ListN.{set}
use Rattle.std.proofs.lemmas.List.{length-reverse, reverse-append, reverse-reverse}
use Rattle.std.proofs.lemmas.Option.{slice_get-get_or, get_or_from_slice_get}
use Rattle.std.proofs.lemmas.Bool.Decides.{Decides-eqb}
use Rattle.std.proofs.lemmas.Slice.Eq.{bytes_eq-Decides}
use Rattle.std.specs.Option.{option_map_or}
use Rattle.sx_names.specs.Numbering.{IsDistinct, IsAbsent, KeepsPlaces}
use Rattle.sx_names.specs.Inside.{numbered_text}
use Rattle.sx_names.specs.Scope.{bound_in}
use Rattle.sx_names.specs.Bindings.{pair_of, pairs_of, place_in_force, AreLinked, AreBindings}
use Rattle.sx_names.specs.declared.bindings.Binding.{Binding}
use Rattle.sx_names.proofs.Places.{KeepsPlaces-append, place_stays, within_stays, slice_get-push}
use Rattle.sx_names.proofs.NameLemmas.{place_of_text, text_at-place}
use Rattle.sx_names.proofs.Search.{not_true}

module _ (old new : List (List ℕ)) (kept : KeepsPlaces old new) where
  -- more prefixes leave the pairs
  pub pairs-grown : (bs : List Binding) → AreLinked old bs → map (pair_of new) bs ≡ map (pair_of old) bs
  pairs-grown [] linked = refl
  pairs-grown (b ∷ bs) linked =
      let same : numbered_text new b.prefix ≡ numbered_text old b.prefix = ap (λ o. option_map_or (λ x. x) o []) (kept b.prefix linked.0) in
      ap (λ t. (t, string_bytes b.uri) ∷ map (pair_of new) bs) same ∙ ap (λ ps. pair_of old b ∷ ps) (pairs-grown bs linked.2)

  -- and the links
  pub linked-grown : (bs : List Binding) → AreLinked old bs → AreLinked new bs
  linked-grown [] linked = tt
  linked-grown (b ∷ bs) linked = (within_stays old new kept b.prefix linked.0, linked.1, linked-grown bs linked.2)

-- a place that is read is there
pub read_within : (xs : List (Option ℕ)) (i k : ℕ) → get_or xs i None ≡ Some k → i < length xs
read_within [] i k e = absurd (cc)
read_within (x ∷ xs) zero k e = omega arith
read_within (x ∷ xs) (suc i) k e = let h = read_within xs i k e in omega arith

-- whether a prefix has a number
pub same_number : (m n : ℕ) → nat_eq m n ≡ true → m ≡ n
same_number m n e = (Decides-eqb m n).0 e

pub other_number : (m n : ℕ) → nat_eq m n ≡ false → ¬ (n ≡ m)
other_number m n e same = true≢false (sym ((Decides-eqb m n).1 (sym same)) ∙ e)

module _ (in_force : List (Option ℕ)) (b : Binding) (bs : List Binding) where
  -- one binding more is in force for its prefix
  pub known-push : b.prefix < length in_force → ((n : ℕ) → get_or in_force n None ≡ place_in_force bs n)
      → (n : ℕ) → get_or (set in_force b.prefix (Some (length bs))) n None ≡ place_in_force (b ∷ bs) n
  known-push within known n = by (nat_eq b.prefix n) refl
    where
      by : (t : Bool) → nat_eq b.prefix n ≡ t → get_or (set in_force b.prefix (Some (length bs))) n None ≡ (if t then Some (length bs) else place_in_force bs n)
      by true e = subst (λ m. get_or (set in_force b.prefix (Some (length bs))) m None ≡ Some (length bs)) (same_number b.prefix n e) (get_or-set_same in_force b.prefix (Some (length bs)) None within)
      by false e = get_or-set_other in_force b.prefix n (Some (length bs)) None (other_number b.prefix n e) ∙ known n

  -- the place for the last binding's prefix is there
  pub last_within : ((n : ℕ) → get_or in_force n None ≡ place_in_force (b ∷ bs) n) → b.prefix < length in_force
  last_within known =
      read_within in_force b.prefix (length bs) (known b.prefix ∙ ap (λ t. if t then Some (length bs) else place_in_force bs b.prefix) ((Decides-eqb b.prefix b.prefix).1 refl))

  -- without it, what it hides is in force again
  pub known-pop : b.hidden ≡ place_in_force bs b.prefix → ((n : ℕ) → get_or in_force n None ≡ place_in_force (b ∷ bs) n)
      → (n : ℕ) → get_or (set in_force b.prefix b.hidden) n None ≡ place_in_force bs n
  known-pop hides known n = by (nat_eq b.prefix n) refl
    where
      by : (t : Bool) → nat_eq b.prefix n ≡ t → get_or (set in_force b.prefix b.hidden) n None ≡ place_in_force bs n
      by true e = subst (λ m. get_or (set in_force b.prefix b.hidden) m None ≡ place_in_force bs m) (same_number b.prefix n e)
          (get_or-set_same in_force b.prefix b.hidden None (last_within known) ∙ hides)
      by false e = get_or-set_other in_force b.prefix n b.hidden None (other_number b.prefix n e) ∙ known n
          ∙ ap (λ t. if t then Some (length bs) else place_in_force bs n) e

-- the last of a list stands first where it is turned
pub reverse-push : (bs : List Binding) (b : Binding) → reverse (bs ++ b ∷ []) ≡ b ∷ reverse bs
reverse-push bs b = reverse-append bs (b ∷ [])

module _ (prefixes : List (List ℕ)) (in_force : List (Option ℕ)) (bindings : List Binding) where
  -- more prefixes leave bindings what they are
  pub bindings-grown : (new : List (List ℕ)) → KeepsPlaces prefixes new → IsDistinct new → (covered : List (Option ℕ)) → ((n : ℕ) → get_or covered n None ≡ get_or in_force n None)
      → AreBindings prefixes in_force bindings → AreBindings new covered bindings × (pairs_of new bindings ≡ pairs_of prefixes bindings)
  bindings-grown new kept distinct covered same are = (
    record {
      distinct = distinct;
      linked = linked-grown prefixes new kept (reverse bindings) are.linked;
      known = λ n. same n ∙ are.known n;
    },
    pairs-grown prefixes new kept (reverse bindings) are.linked,
  )

  -- a binding more
  pub bindings-push : (b : Binding) (prefix : List ℕ) → AreBindings prefixes in_force bindings → slice_get prefixes b.prefix ≡ Some prefix → b.prefix < length prefixes
      → b.prefix < length in_force → b.hidden ≡ get_or in_force b.prefix b.hidden
      → AreBindings prefixes (set in_force b.prefix (Some (length bindings))) (bindings ++ b ∷ [])
      × (pairs_of prefixes (bindings ++ b ∷ []) ≡ (prefix, string_bytes b.uri) ∷ pairs_of prefixes bindings)
  bindings-push b prefix are placed within there hides = (
    record {
      distinct = are.distinct;
      linked = rw (reverse-push bindings b) (within, hides ∙ sym (get_or_from_slice_get in_force b.prefix (get_or in_force b.prefix b.hidden) None (slice_get-get_or in_force b.prefix b.hidden there)) ∙ are.known b.prefix, are.linked);
      known = λ n. rw (reverse-push bindings b, ← length-reverse bindings) (known-push in_force b (reverse bindings) there are.known n);
    },
    ap (map (pair_of prefixes)) (reverse-push bindings b) ∙ ap (λ t. (t, string_bytes b.uri) ∷ pairs_of prefixes bindings) (text_at-place prefixes b.prefix prefix placed),
  )

  -- one less
  pub bindings-pop : (before : List Binding) (b : Binding) → bindings ≡ before ++ b ∷ [] → AreBindings prefixes in_force bindings
      → (b.prefix < length in_force) × AreBindings prefixes (set in_force b.prefix b.hidden) before × (pairs_of prefixes bindings ≡ pair_of prefixes b ∷ pairs_of prefixes before)
  bindings-pop before b is are =
      let turned : reverse bindings ≡ b ∷ reverse before = ap reverse is ∙ reverse-push before b in
      let linked : AreLinked prefixes (b ∷ reverse before) = subst (AreLinked prefixes) turned are.linked in
      let known : (n : ℕ) → get_or in_force n None ≡ place_in_force (b ∷ reverse before) n = λ n. are.known n ∙ ap (λ bs. place_in_force bs n) turned in (
        last_within in_force b (reverse before) known,
        record {
          distinct = are.distinct;
          linked = linked.2;
          known = known-pop in_force b (reverse before) linked.1 known;
        },
        ap (map (pair_of prefixes)) turned,
      )

module _ (prefixes : List (List ℕ)) (distinct : IsDistinct prefixes) (prefix : List ℕ) where
  -- a prefix that is not there has no binding
  pub bound_in-absent : (bs : List Binding) → AreLinked prefixes bs → IsAbsent prefixes prefix → bound_in (map (pair_of prefixes) bs) prefix ≡ None
  bound_in-absent [] linked absent = refl
  bound_in-absent (b ∷ bs) linked absent =
      let other = not_true (bytes_eq (numbered_text prefixes b.prefix) prefix) (λ e.
      absent b.prefix (place_of_text prefixes b.prefix linked.0 ∙ ap Some ((bytes_eq-Decides (numbered_text prefixes b.prefix) prefix).0 e))) in
      ap (λ t. if t then Some (string_bytes b.uri) else bound_in (map (pair_of prefixes) bs) prefix) other ∙ bound_in-absent bs linked.2 absent

  module _ (n : ℕ) (placed : slice_get prefixes n ≡ Some prefix) where
    -- two texts are the same where their numbers are
    same_test : (m : ℕ) → m < length prefixes → (t : Bool) → nat_eq m n ≡ t → bytes_eq (numbered_text prefixes m) prefix ≡ t
    same_test m within true e = (bytes_eq-Decides (numbered_text prefixes m) prefix).1 (ap (numbered_text prefixes) (same_number m n e) ∙ text_at-place prefixes n prefix placed)
    same_test m within false e = not_true (bytes_eq (numbered_text prefixes m) prefix) (λ same.
        other_number m n e (sym (distinct m n prefix (place_of_text prefixes m within ∙ ap Some ((bytes_eq-Decides (numbered_text prefixes m) prefix).0 same)) placed)))

    -- what is bound is the URI of the binding that is in force, if one is
    pub bound_in-none : (bs : List Binding) → AreLinked prefixes bs → place_in_force bs n ≡ None → bound_in (map (pair_of prefixes) bs) prefix ≡ None
    bound_in-none [] linked none = refl
    bound_in-none (b ∷ bs) linked none = by (nat_eq b.prefix n) refl none (bound_in-none bs linked.2)
      where
        by : (t : Bool) → nat_eq b.prefix n ≡ t → (if t then Some (length bs) else place_in_force bs n) ≡ None → (place_in_force bs n ≡ None → bound_in (map (pair_of prefixes) bs) prefix ≡ None)
            → bound_in (map (pair_of prefixes) (b ∷ bs)) prefix ≡ None
        by true e h rest = absurd (cc)
        by false e h rest = ap (λ t. if t then Some (string_bytes b.uri) else bound_in (map (pair_of prefixes) bs) prefix) (same_test b.prefix linked.0 false e) ∙ rest h

    -- the binding that stands at a place, and its URI is bound
    abbrev IsFound : List Binding → ℕ → Type 0
    IsFound bs k = (b : Binding) × (slice_get (reverse bs) k ≡ Some b) × (bound_in (map (pair_of prefixes) bs) prefix ≡ Some (string_bytes b.uri))

    found_in : (bs : List Binding) (k : ℕ) → AreLinked prefixes bs → place_in_force bs n ≡ Some k → IsFound bs k
    found_in [] k linked some = absurd (cc)
    found_in (b ∷ bs) k linked some = by (nat_eq b.prefix n) refl some (found_in bs k linked.2)
      where
        turned : reverse (b ∷ bs) ≡ reverse bs ++ b ∷ []
        turned = reverse-append (b ∷ []) bs

        by : (t : Bool) → nat_eq b.prefix n ≡ t → (if t then Some (length bs) else place_in_force bs n) ≡ Some k → (place_in_force bs n ≡ Some k → IsFound bs k) → IsFound (b ∷ bs) k
        by true e h rest =
            let count : length (reverse bs) ≡ k = length-reverse bs ∙ (cc) in (
              b,
              ap (λ l. slice_get l k) turned ∙ subst (λ m. slice_get (reverse bs ++ b ∷ []) m ≡ Some b) count (slice_get-push (reverse bs) b),
              ap (λ t. if t then Some (string_bytes b.uri) else bound_in (map (pair_of prefixes) bs) prefix) (same_test b.prefix linked.0 true e),
            )
        by false e h rest =
            let found = rest h in (
              found.0,
              ap (λ l. slice_get l k) turned ∙ place_stays (reverse bs) (reverse bs ++ b ∷ []) (KeepsPlaces-append (reverse bs) (b ∷ [])) k found.0 found.1,
              ap (λ t. if t then Some (string_bytes b.uri) else bound_in (map (pair_of prefixes) bs) prefix) (same_test b.prefix linked.0 false e) ∙ found.2,
            )

    pub bound_in-some : (bindings : List Binding) (k : ℕ) → AreLinked prefixes (reverse bindings) → place_in_force (reverse bindings) n ≡ Some k
        → (b : Binding) × (slice_get bindings k ≡ Some b) × (bound_in (pairs_of prefixes bindings) prefix ≡ Some (string_bytes b.uri))
    bound_in-some bindings k linked some =
        let found = found_in (reverse bindings) k linked some in
        (found.0, ap (λ l. slice_get l k) (sym (reverse-reverse bindings)) ∙ found.1, found.2)
