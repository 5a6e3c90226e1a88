-- Which prefixes are taken.
use Rattle.std.proofs.Common.{◌≡◌, ℕ, suc, ◌+◌, ◌-◌, ◌<◌, Bool, true, cond, List, ◌++◌, ap, ap₂, sym, ◌∙◌, arith}
use Rattle.std.specs.Prelude.{◌||◌}
use Rattle.std.specs.Prelude.{slice_get}
use Rattle.std.proofs.Common.{get_or, Some}
use Rattle.std.proofs.lemmas.Option.{get_or_from_slice_get}
use Rattle.sx_named.specs.Named.{Name}
use Rattle.sx_build.specs.FixUp.{Binding, bind, is_in_use, prefixes, is_text_among, numbered_prefix, first_free}
use Rattle.sx_build.specs.InForce.{in_force}
use Rattle.sx_build.proofs.Prefixes.{one_of-append}

-- the attribute whose name stands at a place
pub name_there : (names : List Name) (at : ℕ) (found name : Name) → found ≡ get_or names at found → slice_get names at ≡ Some name → found ≡ name
name_there names at found name read is = read ∙ get_or_from_slice_get names at name found is

-- what is declared for it
pub binding_by : (in_use : Bool) (used : List (List ℕ)) (free prefix uri : List ℕ) (name found : Name) → found ≡ name
    → in_use ≡ is_in_use used found.prefix → prefix ≡ cond in_use free found.prefix → uri ≡ found.uri
    → bind prefix uri ≡ bind (cond (is_in_use used name.prefix) free name.prefix) name.uri
binding_by in_use used free prefix uri name found same tested named valued =
    ap₂ bind (named ∙ ap (λ (t : Bool). cond t free found.prefix) tested) valued
    ∙ ap (λ (n : Name). bind (cond (is_in_use used n.prefix) free n.prefix) n.uri) same

-- what is bound, and other prefixes
pub taken_by : (ds ds' outer : List Binding) (ts : List (List ℕ)) (prefix : List ℕ) (found : Bool) → ds' ≡ ds
    → found ≡ is_text_among (prefixes (ds' ++ in_force outer)) prefix
    → is_text_among (prefixes (ds ++ in_force outer) ++ ts) prefix ≡ (found || is_text_among ts prefix)
taken_by ds ds' outer ts prefix found same is =
    one_of-append (prefixes (ds ++ in_force outer)) ts prefix
    ∙ ap (λ (t : Bool). t || is_text_among ts prefix)
    (ap (λ (d : List Binding). is_text_among (prefixes (d ++ in_force outer)) prefix) (sym same) ∙ sym is)

-- a number more is tried
pub next_number : (taken : List (List ℕ)) (count number : ℕ) (prefix : List ℕ) → number < count → prefix ≡ numbered_prefix number → true ≡ is_text_among taken prefix
    → first_free (count - number) taken number ≡ first_free (count - (number + 1)) taken (number + 1)
next_number taken count number prefix less is there =
    let left : count - number ≡ suc (count - (number + 1)) = omega arith in
    let next : suc number ≡ number + 1 = omega arith in
    ap (λ (n : ℕ). first_free n taken number) left
    ∙ ap (λ (t : Bool). cond t (first_free (count - (number + 1)) taken (suc number)) (numbered_prefix number))
    (ap (is_text_among taken) (sym is) ∙ sym there)
    ∙ ap (first_free (count - (number + 1)) taken) next
