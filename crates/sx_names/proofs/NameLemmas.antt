-- The names that the numbers of their texts stand for.
use Rattle.std.proofs.Common.{◌≡◌, ℕ, suc, ◌<◌, inl, inr, Bool, true, false, List, [], ◌∷◌, ◌++◌, length, slice_get, Option, None, Some, IfSome, refl, sym, ap, ◌∙◌, subst, true≢false, nat_eq, ◌&&◌, if◌then◌else◌, position}
use Rattle.std.proofs.lemmas.List.{map-append}
use Rattle.std.proofs.lemmas.Option.{slice_get_within, slice_get-map}
use Rattle.std.specs.List.{list_any}
use Rattle.std.specs.Option.{option_map, option_map_or}
use Rattle.sx_names.specs.Numbering.{IsDistinct, IsAbsent, KeepsPlaces}
use Rattle.sx_names.specs.Inside.{numbered_text, entry_of, entries_of, AreThere, AreNames}
use Rattle.sx_names.specs.declared.name_table.Parts.{Parts}
use Rattle.std.proofs.lemmas.Bool.Decides.{Decides-eqb}
use Rattle.indexmap.specs.IndexSet.{insert_key}
use Rattle.sx_names.proofs.Search.{not_true, none_passes, fails_each, found_item}
use Rattle.sx_names.proofs.Places.{held_place, within_stays, push_cases, IsDistinct-push}

-- a text is what its place holds
pub text_at-place : (texts : List (List ℕ)) (n : ℕ) (t : List ℕ) → slice_get texts n ≡ Some t → numbered_text texts n ≡ t
text_at-place texts n t at = ap (λ o. option_map_or (λ x. x) o []) at

pub place_of_text : (texts : List (List ℕ)) (n : ℕ) → n < length texts → slice_get texts n ≡ Some (numbered_text texts n)
place_of_text texts n h = let held = held_place texts n h in held.1 ∙ ap Some (sym (text_at-place texts n held.0 held.1))

-- the derived `==` of the numbers of two names
abbrev pub parts_eq : Parts → Parts → Bool
parts_eq p q = nat_eq p.uri q.uri && nat_eq p.local q.local

both_true : (a b : Bool) → a && b ≡ true → (a ≡ true) × (b ≡ true)
both_true true b h = (refl, h)
both_true false b h = absurd (true≢false (sym h))

pub same_parts : (p q : Parts) → parts_eq p q ≡ true → p ≡ q
same_parts p q h =
    let both = both_true (nat_eq p.uri q.uri) (nat_eq p.local q.local) h in
    let u = (Decides-eqb p.uri q.uri).0 both.0 in
    let l = (Decides-eqb p.local q.local).0 both.1 in
    λ j. record { uri = u j; local = l j }

pub parts_eq-refl : (p : Parts) → parts_eq p p ≡ true
parts_eq-refl p = ap (λ b. b && nat_eq p.local p.local) ((Decides-eqb p.uri p.uri).1 refl) ∙ (Decides-eqb p.local p.local).1 refl

pub pushed_parts : (parts new : List Parts) (p : Parts) → IsAbsent parts p → new ≡ insert_key parts_eq parts p → new ≡ parts ++ p ∷ []
pushed_parts parts new p absent is =
    is ∙ ap (λ b. if b then parts else parts ++ p ∷ []) (none_passes (parts_eq p) parts (λ i q at. not_true (parts_eq p q) (λ same. absent i (at ∙ ap Some (sym (same_parts p q same))))))

-- numbers that a search did not find are not there
pub absent_parts : (parts : List Parts) (p : Parts) → list_any (parts_eq p) parts ≡ false → IsAbsent parts p
absent_parts parts p none i at = true≢false (sym (parts_eq-refl p) ∙ fails_each (parts_eq p) parts none i p at)

-- and those that it found are
pub found_parts : (parts : List Parts) (p : Parts) (i : ℕ) → position (parts_eq p) parts ≡ Some i → slice_get parts i ≡ Some p
found_parts parts p i h =
    let found = found_item (parts_eq p) parts i h in
    found.1 ∙ ap Some (sym (same_parts p found.0 found.2))

module _ (uris locals : List (List ℕ)) where
  -- the numbers of the two texts of a name
  pub record HasParts (parts : List Parts) (i : ℕ) (uri local : List ℕ) : Type 0 where
    pub part : Parts
    pub at : slice_get parts i ≡ Some part
    pub uri_at : slice_get uris part.uri ≡ Some uri
    pub local_at : slice_get locals part.local ≡ Some local

  -- a name's number gives the numbers of its texts
  pub name_parts : (parts : List Parts) (i : ℕ) (uri local : List ℕ) → AreNames uris locals parts → slice_get (entries_of uris locals parts) i ≡ Some (uri, local) → HasParts parts i uri local
  name_parts parts i uri local names at = by (slice_get parts i) refl
    where
      by : (o : Option Parts) → slice_get parts i ≡ o → HasParts parts i uri local
      by None e = let none : ◌≡◌ {A = Option (List ℕ × List ℕ)} None (Some (uri, local)) = sym (slice_get-map (entry_of uris locals) parts i ∙ ap (option_map (entry_of uris locals)) e) ∙ at in absurd (cc)
      by (Some p) e =
          let same : Some (entry_of uris locals p) ≡ Some (uri, local) = sym (slice_get-map (entry_of uris locals) parts i ∙ ap (option_map (entry_of uris locals)) e) ∙ at in
          let uri_is : numbered_text uris p.uri ≡ uri = ap (λ o. option_map_or (λ n. n.0) o []) same in
          let local_is : numbered_text locals p.local ≡ local = ap (λ o. option_map_or (λ n. n.1) o []) same in
          let held = subst (λ o. IfSome o (AreThere uris locals)) e (names.within i) in
          record {
            part = p;
            at = e;
            uri_at = place_of_text uris p.uri held.0 ∙ ap Some uri_is;
            local_at = place_of_text locals p.local held.1 ∙ ap Some local_is;
          }

  -- and the other way round
  pub name_place : (parts : List Parts) (i : ℕ) (p : Parts) (uri local : List ℕ) → slice_get parts i ≡ Some p → slice_get uris p.uri ≡ Some uri → slice_get locals p.local ≡ Some local
      → slice_get (entries_of uris locals parts) i ≡ Some (uri, local)
  name_place parts i p uri local at u l =
      slice_get-map (entry_of uris locals) parts i ∙ ap (option_map (entry_of uris locals)) at
      ∙ ap (λ x. Some (x, numbered_text locals p.local)) (text_at-place uris p.uri uri u)
      ∙ ap (λ x. Some (uri, x)) (text_at-place locals p.local local l)

  module _ (parts : List Parts) (names : AreNames uris locals parts) (uri local : List ℕ) where
    -- a name with a new text is new
    pub absent_by_uri : IsAbsent uris uri → IsAbsent (entries_of uris locals parts) (uri, local)
    absent_by_uri absent i at = let p = name_parts parts i uri local names at in absent p.part.uri p.uri_at

    pub absent_by_local : IsAbsent locals local → IsAbsent (entries_of uris locals parts) (uri, local)
    absent_by_local absent i at = let p = name_parts parts i uri local names at in absent p.part.local p.local_at

    -- a name is new where no two numbers are those of its texts
    pub absent_by_parts : (p : Parts) → slice_get uris p.uri ≡ Some uri → slice_get locals p.local ≡ Some local → IsAbsent parts p → IsAbsent (entries_of uris locals parts) (uri, local)
    absent_by_parts p u l absent i at =
        let q = name_parts parts i uri local names at in
        let same_uri : q.part.uri ≡ p.uri = names.uris_distinct q.part.uri p.uri uri q.uri_at u in
        let same_local : q.part.local ≡ p.local = names.locals_distinct q.part.local p.local local q.local_at l in
        let same : q.part ≡ p = λ j. record { uri = same_uri j; local = same_local j } in
        absent i (q.at ∙ ap Some same)

    -- a new name goes last
    pub names_of-push : (p : Parts) → slice_get uris p.uri ≡ Some uri → slice_get locals p.local ≡ Some local → entries_of uris locals (parts ++ p ∷ []) ≡ entries_of uris locals parts ++ (uri, local) ∷ []
    names_of-push p u l =
        map-append (entry_of uris locals) parts (p ∷ [])
        ∙ ap (λ x. entries_of uris locals parts ++ (x, numbered_text locals p.local) ∷ []) (text_at-place uris p.uri uri u)
        ∙ ap (λ x. entries_of uris locals parts ++ (uri, x) ∷ []) (text_at-place locals p.local local l)

    pub AreNames-push : (p : Parts) → slice_get uris p.uri ≡ Some uri → slice_get locals p.local ≡ Some local → IsAbsent (entries_of uris locals parts) (uri, local) → AreNames uris locals (parts ++ p ∷ [])
    AreNames-push p u l absent = record {
      within = λ i. by i (slice_get (parts ++ p ∷ []) i) refl;
      uris_distinct = names.uris_distinct;
      locals_distinct = names.locals_distinct;
      names_distinct = subst IsDistinct (sym (names_of-push p u l)) (IsDistinct-push (entries_of uris locals parts) (uri, local) names.names_distinct absent);
    }
      where
        by : (i : ℕ) (o : Option Parts) → slice_get (parts ++ p ∷ []) i ≡ o → IfSome o (AreThere uris locals)
        by i None e = tt
        by i (Some q) e = elim (push_cases parts p i q e) as (λ _. AreThere uris locals q) [
          | inl old ↦ subst (λ r. IfSome r (AreThere uris locals)) old (names.within i)
          | inr last ↦ subst (AreThere uris locals) last.1 (slice_get_within uris p.uri uri u, slice_get_within locals p.local local l)
        ]

module _ (uris more_uris locals more_locals : List (List ℕ)) (uris_kept : KeepsPlaces uris more_uris) (locals_kept : KeepsPlaces locals more_locals) where
  -- more texts leave the names as they were
  pub names_of-grown : (parts : List Parts) → ((i : ℕ) → IfSome (slice_get parts i) (AreThere uris locals)) → entries_of more_uris more_locals parts ≡ entries_of uris locals parts
  names_of-grown [] within = refl
  names_of-grown (p ∷ ps) within =
      let here = within 0 in
      let uri_is : numbered_text more_uris p.uri ≡ numbered_text uris p.uri = ap (λ o. option_map_or (λ x. x) o []) (uris_kept p.uri here.0) in
      let local_is : numbered_text more_locals p.local ≡ numbered_text locals p.local = ap (λ o. option_map_or (λ x. x) o []) (locals_kept p.local here.1) in
      ap (λ x. (x, numbered_text more_locals p.local) ∷ entries_of more_uris more_locals ps) uri_is
      ∙ ap (λ x. (numbered_text uris p.uri, x) ∷ entries_of more_uris more_locals ps) local_is
      ∙ ap (λ ns. entry_of uris locals p ∷ ns) (names_of-grown ps (λ i. within (suc i)))

  pub AreNames-grown : (parts : List Parts) → IsDistinct more_uris → IsDistinct more_locals → AreNames uris locals parts → AreNames more_uris more_locals parts
  AreNames-grown parts uris_distinct locals_distinct names = record {
    within = λ i. by (slice_get parts i) (names.within i);
    uris_distinct = uris_distinct;
    locals_distinct = locals_distinct;
    names_distinct = subst IsDistinct (sym (names_of-grown parts names.within)) names.names_distinct;
  }
    where
      by : (o : Option Parts) → IfSome o (AreThere uris locals) → IfSome o (AreThere more_uris more_locals)
      by None h = tt
      by (Some p) h = (within_stays uris more_uris uris_kept p.uri h.0, within_stays locals more_locals locals_kept p.local h.1)

  -- a new name goes last, and the others stay
  pub added_name : (parts new : List Parts) (p : Parts) (uri local : List ℕ) → AreNames uris locals parts → IsDistinct more_uris → IsDistinct more_locals
      → slice_get more_uris p.uri ≡ Some uri → slice_get more_locals p.local ≡ Some local → IsAbsent (entries_of uris locals parts) (uri, local) → new ≡ insert_key parts_eq parts p
      → AreNames more_uris more_locals new × (entries_of more_uris more_locals new ≡ entries_of uris locals parts ++ (uri, local) ∷ [])
  added_name parts new p uri local names uris_distinct locals_distinct u l absent is =
      let same = names_of-grown parts names.within in
      let still = AreNames-grown parts uris_distinct locals_distinct names in
      let still_absent = subst (λ ns. IsAbsent ns (uri, local)) (sym same) absent in
      let last = pushed_parts parts new p (λ i at. still_absent i (name_place more_uris more_locals parts i p uri local at u l)) is in (
        subst (AreNames more_uris more_locals) (sym last) (AreNames-push more_uris more_locals parts still uri local p u l still_absent),
        ap (entries_of more_uris more_locals) last ∙ names_of-push more_uris more_locals parts still uri local p u l ∙ ap (λ ns. ns ++ (uri, local) ∷ []) same,
      )
