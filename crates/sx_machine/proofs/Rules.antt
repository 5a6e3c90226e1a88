-- Templates as the session keeps them: which is found for a name, and that they read the same by a table that has grown.
use Rattle.std.proofs.Common.{◌≡◌, ℕ, zero, suc, ◌<◌, ◌+◌, nat_eq, bytes_eq, Bool, true, false, cond, List, [], ◌∷◌, ◌++◌, length, drop, take, map, Option, Some, None, slice_get, get_or, refl, ap, ap₂, sym, ◌∙◌, subst, add-one, drop-cons}
use Rattle.std.specs.Bool.{Decides}
use Rattle.std.specs.Option.{option_map_or}
use Rattle.std.proofs.lemmas.Bool.Decides.{Decides-and, Decides-like, Decides-eqb, same_from_decides}
use Rattle.std.proofs.lemmas.Slice.Eq.{bytes_eq-Decides}
use Rattle.std.proofs.lemmas.List.{take_more}
use Rattle.std.proofs.lemmas.Option.{slice_get-get_or}
use Rattle.sx_names.specs.Numbering.{NameTable, IsDistinct, KeepsPlaces, uri_at, local_at}
use Rattle.sx_tree.specs.declared.events.Label.{Label}
use Rattle.sx_named.specs.Named.{Name, name_at}
use Rattle.sx_kinds.specs.declared.constructs.NamePattern.{NamePattern}
use Rattle.sx_kinds.specs.declared.constructs.Instr.{Instr}
use Rattle.sx_kinds.specs.declared.constructs.Instr.TheViews.{out-Instr}
use Rattle.sx_kinds.specs.declared.constructs.Instr.TheFolds.{fold_out-Instr}
use Rattle.sx_kinds.specs.declared.sheets.Template.{Template}
use Rattle.sx_machine.specs.declared.plans.Rule.{Rule}
use Rattle.sx_machine.specs.Body.{Body, nil, literal, copies, words, apply, body_of, form_in_front, instr_in_front, layer, joined_body, written_out, IsKnownPattern, IsKnownBody, AreKnown}
use Rattle.sx_machine.specs.Choice.{otherwise, last_that, is_entry_named, pattern_passes, matches, body_or}
use Rattle.sx_machine.specs.Plan.{plan_of, read_plan, pattern_name, IsRuleOf, AreRulesOf, after_of, after_rule}
use Rattle.sx_machine.specs.Session.{is_number, is_rule_for}

-- ---- bodies by their instructions

pub joined_is : (is : List Instr) → joined_body (map instr_in_front is) ≡ body_of is
joined_is [] = refl
joined_is (i ∷ is) = ap (instr_in_front i) (joined_is is)

-- an instruction in front of others, by its form
pub in_front_is : (i : Instr) (rest : Body Label) → instr_in_front i rest ≡ form_in_front (out-Instr i).construct.line (out-Instr i).form (map instr_in_front (out-Instr i).body) rest
in_front_is i rest = ap (λ (f : Body Label → Body Label). f rest) (fold_out-Instr (Body Label → Body Label) layer i)

-- the instructions from one on
pub body-drop : (is : List Instr) (n : ℕ) (i : Instr) → n < length is → i ≡ get_or is n i → body_of (drop n is) ≡ instr_in_front i (body_of (drop (n + 1) is))
body-drop is n i h e =
    ap body_of (drop-cons is n i h)
    ∙ ap₂ (λ (j : Instr) (k : ℕ). instr_in_front j (body_of (drop k is))) (sym e) (sym (add-one n))

-- ---- one rule more

rules-snoc : (ts : List Template) (rs : List Rule) (t : Template) (r : Rule) → AreRulesOf ts rs → IsRuleOf t r → AreRulesOf (ts ++ t ∷ []) (rs ++ r ∷ [])
rules-snoc [] [] t r all one = (one, tt)
rules-snoc [] (q ∷ rs) t r all one = absurd all
rules-snoc (u ∷ ts) [] t r all one = absurd all
rules-snoc (u ∷ ts) (q ∷ rs) t r all one = (all.0, rules-snoc ts rs t r all.1 one)

pub rules_more : (ts : List Template) (rs new : List Rule) (i : ℕ) (t : Template) (r : Rule) → i < length ts → t ≡ get_or ts i t
    → AreRulesOf (take i ts) rs → IsRuleOf t r → new ≡ rs ++ r ∷ [] → AreRulesOf (take (i + 1) ts) new
rules_more ts rs new i t r h e all one is =
    subst (AreRulesOf (take (i + 1) ts)) (sym is)
    (subst (λ (us : List Template). AreRulesOf us (rs ++ r ∷ [])) (ap (λ (u : Template). take i ts ++ u ∷ []) e ∙ sym (take_more ts i t h))
    (rules-snoc (take i ts) rs t r all one))

-- ---- the rule that is found

-- a template and its rule, or neither
abbrev pub IsRuleFor : Option Template → Option Rule → Type 0
IsRuleFor None None = Unit {0}
IsRuleFor None (Some r) = ⊥
IsRuleFor (Some t) None = ⊥
IsRuleFor (Some t) (Some r) = IsRuleOf t r

-- a template is for the name with this number
abbrev pub by_number : ℕ → Template → Bool
by_number number t = is_number number (pattern_name t.pattern)

for_otherwise : (a b : Option Template) (c d : Option Rule) → IsRuleFor a c → IsRuleFor b d → IsRuleFor (otherwise a b) (otherwise c d)
for_otherwise None b None d h k = k
for_otherwise None b (Some r) d h k = absurd h
for_otherwise (Some t) b None d h k = absurd h
for_otherwise (Some t) b (Some r) d h k = h

for_if : (v w : Bool) (t : Template) (r : Rule) → v ≡ w → IsRuleOf t r → IsRuleFor (cond v (Some t) None) (cond w (Some r) None)
for_if true true t r e h = h
for_if true false t r e h = absurd (cc)
for_if false true t r e h = absurd (cc)
for_if false false t r e h = tt

-- the last rule for a number is that of the last template for it
pub for_last : (number : ℕ) (ts : List Template) (rs : List Rule) → AreRulesOf ts rs → IsRuleFor (last_that (by_number number) ts) (last_that (is_rule_for number) rs)
for_last number [] [] all = tt
for_last number [] (r ∷ rs) all = absurd all
for_last number (t ∷ ts) [] all = absurd all
for_last number (t ∷ ts) (r ∷ rs) all =
    for_otherwise (last_that (by_number number) ts) (cond (by_number number t) (Some t) None)
    (last_that (is_rule_for number) rs) (cond (is_rule_for number r) (Some r) None)
    (for_last number ts rs all.1)
    (for_if (by_number number t) (is_rule_for number r) t r (ap (is_number number) (sym all.0.named)) all.0)

none_chosen : (names : NameTable) (b : Body Name) (o : Option Template) → IsRuleFor o None → body_or names b o ≡ b
none_chosen names b None h = refl
none_chosen names b (Some t) h = absurd h

some_chosen : (names : NameTable) (left : ℕ) (b : Body Name) (o : Option Template) (r : Rule) → IsRuleFor o (Some r) → plan_of left (body_or names b o) ≡ read_plan names r.plan
some_chosen names left b None r h = absurd h
some_chosen names left b (Some t) r h = sym (h.planned names left)

-- ---- names in a table that has grown

-- the two texts of a name
pub name_texts : (names : NameTable) (n : ℕ) → n < length names → slice_get names n ≡ Some (uri_at names n, local_at names n)
name_texts names n h =
    let entry : List ℕ × List ℕ = get_or names n ([], []) in
    let is : slice_get names n ≡ Some entry = slice_get-get_or names n ([], []) h in
    is ∙ ap₂ (λ (u l : List ℕ). Some (u, l))
    (sym (ap (λ (o : Option (List ℕ × List ℕ)). option_map_or (λ name. name.0) o []) is))
    (sym (ap (λ (o : Option (List ℕ × List ℕ)). option_map_or (λ name. name.1) o []) is))

-- the test on names passes the one name
name_decides : (name : Name) (o : Option (List ℕ × List ℕ)) → Decides (is_entry_named name o) (o ≡ Some (name.uri, name.local))
name_decides name None = (λ e. absurd (cc), λ e. absurd (cc))
name_decides name (Some entry) =
    Decides-like (is_entry_named name (Some entry))
    (λ both. ap₂ (λ (u l : List ℕ). Some (u, l)) both.0 both.1)
    (λ e. let same : entry ≡ (name.uri, name.local) = cc in (ap (λ (x : List ℕ × List ℕ). x.0) same, ap (λ (x : List ℕ × List ℕ). x.1) same))
    (Decides-and (bytes_eq entry.0 name.uri) (bytes_eq entry.1 name.local) (bytes_eq-Decides entry.0 name.uri) (bytes_eq-Decides entry.1 name.local))

module _ (known names : NameTable) (keeps : KeepsPlaces known names) where
  name_same : (label : Label) → label.number < length known → name_at known label ≡ name_at names label
  name_same label h =
      ap (λ (o : Option (List ℕ × List ℕ)). let n : Name = record { prefix = label.prefix; uri = option_map_or (λ name. name.0) o []; local = option_map_or (λ name. name.1) o [] } in n)
      (sym (keeps label.number h))

  written_same : (b : Body Label) → IsKnownBody (length known) b → written_out known b ≡ written_out names b
  written_same nil h = refl
  written_same (literal line label content rest) h =
      ap (λ (n : Name). literal line n (written_out known content) (written_out known rest)) (name_same label h.0)
      ∙ ap₂ (literal line (name_at names label)) (written_same content h.1) (written_same rest h.2)
  written_same (copies attributes rest) h = ap (copies attributes) (written_same rest h)
  written_same (words s rest) h = ap (words s) (written_same rest h)
  written_same (apply rest) h = ap apply (written_same rest h)

  -- a rule reads the same by both tables
  abbrev pub ReadsSame : Option Rule → Type 0
  ReadsSame None = Unit {0}
  ReadsSame (Some r) = read_plan known r.plan ≡ read_plan names r.plan

  -- the rules of templates whose names the first table has
  pub reads_same : (ts : List Template) (rs : List Rule) → AreKnown (length known) ts → AreRulesOf ts rs → (place : ℕ) → ReadsSame (slice_get rs place)
  reads_same [] [] k all place = tt
  reads_same [] (r ∷ rs) k all place = absurd all
  reads_same (t ∷ ts) [] k all place = absurd all
  reads_same (t ∷ ts) (r ∷ rs) k all zero =
      all.0.planned known 0 ∙ ap (plan_of 0) (written_same (body_of t.body) k.1) ∙ sym (all.0.planned names 0)
  reads_same (t ∷ ts) (r ∷ rs) k all (suc place) = reads_same ts rs k.2 all.1 place

  pub after_same : (o : Option Rule) → ReadsSame o → after_rule known o ≡ after_rule names o
  after_same None h = refl
  after_same (Some r) h = ap after_of h

  module _ (distinct : IsDistinct names) (label : Label) (there : label.number < length names) where
    -- the two tests agree on the numbers of before
    one_same : (n : ℕ) → n < length known → is_entry_named (name_at names label) (slice_get known n) ≡ nat_eq n label.number
    one_same n h =
        let texts : slice_get names label.number ≡ Some (uri_at names label.number, local_at names label.number) = name_texts names label.number there in
        sym (same_from_decides (nat_eq n label.number) (is_entry_named (name_at names label) (slice_get known n)) (Decides-eqb n label.number)
        (Decides-like (is_entry_named (name_at names label) (slice_get known n))
        (λ e. distinct n label.number (uri_at names label.number, local_at names label.number) (keeps n h ∙ e) texts)
        (λ e. sym (keeps n h) ∙ ap (slice_get names) e ∙ texts)
        (name_decides (name_at names label) (slice_get known n))))

    pattern_same : (p : Option NamePattern) → IsKnownPattern (length known) p
        → pattern_passes (λ (n : ℕ). is_entry_named (name_at names label) (slice_get known n)) p ≡ is_number label.number (pattern_name p)
    pattern_same None h = refl
    pattern_same (Some p) h = one_same p.name h

    last_same : (ts : List Template) → AreKnown (length known) ts → last_that (matches known (name_at names label)) ts ≡ last_that (by_number label.number) ts
    last_same [] h = refl
    last_same (t ∷ ts) h =
        ap₂ (λ (o : Option Template) (b : Bool). otherwise o (cond b (Some t) None)) (last_same ts h.2) (pattern_same t.pattern h.0)

    module _ (ts : List Template) (rs : List Rule) (k : AreKnown (length known) ts) (all : AreRulesOf ts rs) (b : Body Name) where
      -- where no rule is found, no template matches the name
      pub not_found : last_that (is_rule_for label.number) rs ≡ None → body_or known b (last_that (matches known (name_at names label)) ts) ≡ b
      not_found e =
          ap (body_or known b) (last_same ts k)
          ∙ none_chosen known b (last_that (by_number label.number) ts)
          (subst (IsRuleFor (last_that (by_number label.number) ts)) e (for_last label.number ts rs all))

      -- the rule that is found has the plan of the last template that matches
      pub found : (left : ℕ) (r : Rule) → last_that (is_rule_for label.number) rs ≡ Some r
          → plan_of left (body_or known b (last_that (matches known (name_at names label)) ts)) ≡ read_plan known r.plan
      found left r e =
          ap (λ (o : Option Template). plan_of left (body_or known b o)) (last_same ts k)
          ∙ some_chosen known left b (last_that (by_number label.number) ts) r
          (subst (IsRuleFor (last_that (by_number label.number) ts)) e (for_last label.number ts rs all))
