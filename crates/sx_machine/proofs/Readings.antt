-- Plans as the session keeps them, read by a table of names.
use Rattle.std.proofs.Common.{◌≡◌, ℕ, ◌<◌, ◌+◌, List, [], ◌∷◌, ◌++◌, length, take, get_or, Option, Some, None, refl, ap, sym, ◌∙◌, append_assoc}
use Rattle.std.proofs.lemmas.List.{take_more}
use Rattle.sx_build.specs.Asked.{Asked, asked_at, all_asked_at}
use Rattle.sx_build.specs.declared.raw.Raw.{Raw}
use Rattle.sx_machine.specs.Run.{gives}
use Rattle.sx_machine.specs.Plan.{still, looking, then_plan, read_raws, read_parts}
use Rattle.sx_names.specs.Numbering.{NameTable}

module _ (names : NameTable) where
  pub all_asked-append : (a b : List Raw) → all_asked_at names (a ++ b) ≡ all_asked_at names a ++ all_asked_at names b
  all_asked-append [] b = refl
  all_asked-append (r ∷ a) b = ap (λ (l : List Asked). asked_at names r ∷ l) (all_asked-append a b)

  -- one more in front of the children
  pub read_before : (before new : List Raw) (o : Option (List Raw)) (r : Raw) → o ≡ None → new ≡ before ++ r ∷ []
      → read_parts names new o ≡ then_plan (read_parts names before o) (still (gives (asked_at names r ∷ [])))
  read_before before new None r e is = ap (λ (l : List Asked). still (gives l)) (ap (all_asked_at names) is ∙ all_asked-append before (r ∷ []))
  read_before before new (Some b) r e is = absurd (cc)

  -- one more behind the children
  pub read_behind : (before behind new : List Raw) (o : Option (List Raw)) (r : Raw) → o ≡ Some behind → new ≡ behind ++ r ∷ []
      → looking (read_raws names before) (read_raws names new) ≡ then_plan (read_parts names before o) (still (gives (asked_at names r ∷ [])))
  read_behind before behind new None r e is = absurd (cc)
  read_behind before behind new (Some b) r e is =
      let same : b ≡ behind = cc in
      ap (λ (l : List Asked). looking (read_raws names before) (gives l))
      (ap (all_asked_at names) is ∙ ap (λ (l : List Raw). all_asked_at names (l ++ r ∷ [])) (sym same) ∙ all_asked-append b (r ∷ []))

  -- one more of a list that is asked for
  pub asked_more : (asked : List Asked) (raws : List Raw) (i : ℕ) (r : Raw) → i < length raws → r ≡ get_or raws i r
      → (asked ++ all_asked_at names (take i raws)) ++ asked_at names r ∷ [] ≡ asked ++ all_asked_at names (take (i + 1) raws)
  asked_more asked raws i r h e =
      append_assoc asked (all_asked_at names (take i raws)) (asked_at names r ∷ [])
      ∙ ap (λ (l : List Asked). asked ++ l)
      (sym (all_asked-append (take i raws) (r ∷ [])) ∙ ap (λ (x : Raw). all_asked_at names (take i raws ++ x ∷ [])) e ∙ ap (all_asked_at names) (sym (take_more raws i r h)))
