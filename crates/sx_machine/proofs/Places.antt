-- The places of rules by the numbers of their names.
use Rattle.std.proofs.Common.{◌≡◌, ◌⊎◌, inl, inr, ℕ, ◌<◌, ◌≤◌, ◌+◌, Bool, true, false, cond, List, [], ◌∷◌, ◌++◌, length, take, Option, Some, None, slice_get, get_or, refl, ap, ap₂, sym, ◌∙◌, arith}
use Rattle.std.proofs.lemmas.Bool.{cases_lt, ne_eqb}
use Rattle.std.proofs.lemmas.List.{get_or_past, take_more}
use Rattle.std.proofs.lemmas.Option.{slice_get-get_or}
use Rattle.sx_kinds.specs.declared.constructs.NamePattern.{NamePattern}
use Rattle.sx_kinds.specs.declared.sheets.Template.{Template}
use Rattle.sx_machine.specs.declared.plans.Rule.{Rule}
use Rattle.sx_machine.specs.declared.rule_table.RuleTable.{RuleTable}
use Rattle.sx_machine.specs.Body.{IsKnownPattern, AreKnown}
use Rattle.sx_machine.specs.Choice.{otherwise, last_that}
use Rattle.sx_machine.specs.Plan.{pattern_name, AreRulesOf}
use Rattle.sx_machine.specs.Session.{rule_at, place_in, is_number, is_rule_for, FindsLast}

-- ---- the places of rules

module _ {X : Type 0} (test : X → Bool) where
  otherwise_none : (o : Option X) → o ≡ otherwise o None
  otherwise_none None = refl
  otherwise_none (Some x) = refl

  otherwise_assoc : (a b c : Option X) → otherwise (otherwise a b) c ≡ otherwise a (otherwise b c)
  otherwise_assoc None b c = refl
  otherwise_assoc (Some x) b c = refl

  -- one more at the end comes first
  last-snoc : (xs : List X) (x : X) → last_that test (xs ++ x ∷ []) ≡ otherwise (cond (test x) (Some x) None) (last_that test xs)
  last-snoc [] x = otherwise_none (cond (test x) (Some x) None)
  last-snoc (y ∷ xs) x =
      ap (λ (o : Option X). otherwise o (cond (test y) (Some y) None)) (last-snoc xs x)
      ∙ otherwise_assoc (cond (test x) (Some x) None) (last_that test xs) (cond (test y) (Some y) None)

place_or : (rules : List Rule) (v : Bool) (i : ℕ) (r : Rule) (place : Option ℕ) (last : Option Rule) → slice_get rules i ≡ Some r → rule_at rules place ≡ last →
    rule_at rules (cond v (Some i) place) ≡ otherwise (cond v (Some r) None) last
place_or rules true i r place last at e = at
place_or rules false i r place last at e = e

-- the places of one rule more
pub place_more : (rules : List Rule) (i n : ℕ) (r : Rule) (old new : Option ℕ) → i < length rules → r ≡ get_or rules i r →
    rule_at rules old ≡ last_that (is_rule_for n) (take i rules) → new ≡ cond (is_rule_for n r) (Some i) old →
    rule_at rules new ≡ last_that (is_rule_for n) (take (i + 1) rules)
place_more rules i n r old new h read e put =
    ap (rule_at rules) put
    ∙ place_or rules (is_rule_for n r) i r old (last_that (is_rule_for n) (take i rules)) (slice_get-get_or rules i r h ∙ ap Some (sym read)) e
    ∙ sym (last-snoc (is_rule_for n) (take i rules) r)
    ∙ ap (λ (x : Rule). last_that (is_rule_for n) (take i rules ++ x ∷ [])) read
    ∙ ap (last_that (is_rule_for n)) (sym (take_more rules i r h))

-- ---- numbers that the stylesheet doesn't know

not_this : (count number : ℕ) (p : Option NamePattern) → IsKnownPattern count p → count ≤ number → is_number number (pattern_name p) ≡ false
not_this count number None k h = refl
not_this count number (Some p) k h = ne_eqb p.name number (omega arith)

no_rule : (count number : ℕ) (ts : List Template) (rs : List Rule) → AreKnown count ts → AreRulesOf ts rs → count ≤ number → last_that (is_rule_for number) rs ≡ None
no_rule count number [] [] k all h = refl
no_rule count number [] (r ∷ rs) k all h = absurd all
no_rule count number (t ∷ ts) [] k all h = absurd all
no_rule count number (t ∷ ts) (r ∷ rs) k all h =
    ap₂ (λ (o : Option Rule) (v : Bool). otherwise o (cond v (Some r) None)) (no_rule count number ts rs k.2 all.1 h)
    (ap (is_number number) all.0.named ∙ not_this count number t.pattern k.0 h)

find_by : (table : RuleTable) (ts : List Template) (count : ℕ) → AreKnown count ts → AreRulesOf ts table.list →
    ((n : ℕ) → n < count → rule_at table.list (place_in table.places n) ≡ last_that (is_rule_for n) table.list) → length table.places ≤ count →
    (number : ℕ) → (number < count) ⊎ (count ≤ number) → rule_at table.list (place_in table.places number) ≡ last_that (is_rule_for number) table.list
find_by table ts count known all found bound number (inl h) = found number h
find_by table ts count known all found bound number (inr h) =
    ap (rule_at table.list) (get_or_past table.places number None (omega arith))
    ∙ sym (no_rule count number ts table.list known all h)

-- where the names in templates have numbers each is found
pub finds_last : (table : RuleTable) (ts : List Template) (count : ℕ) → AreKnown count ts → AreRulesOf ts table.list →
    ((n : ℕ) → n < count → rule_at table.list (place_in table.places n) ≡ last_that (is_rule_for n) table.list) → length table.places ≤ count → FindsLast table
finds_last table ts count known all found bound = λ number. find_by table ts count known all found bound number (cases_lt number count)
