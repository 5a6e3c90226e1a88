-- Bodies of which at most one part beside others consumes.
use Rattle.std.proofs.Common.{◌≡◌, ℕ, ◌+◌, ◌<◌, nat_lt, Bool, true, false, ◌||◌, cond, List, [], ◌∷◌, Option, Some, None, refl, ap₂, sym, ◌∙◌, subst, arith}
use Rattle.std.proofs.lemmas.Bool.Decides.{nat_tests}
use Rattle.sx_kinds.specs.declared.sheets.Template.{Template}
use Rattle.sx_machine.specs.Body.{Body, nil, literal, copies, words, apply, body_of, written_out, consumes, consuming_parts, or_else, if_two, culprit_inside, culprit_of, culprit}
use Rattle.sx_tree.specs.declared.events.Label.{Label}
use Rattle.sx_named.specs.Named.{NamedElement}
use Rattle.sx_machine.specs.Choice.{otherwise, last_that, matches, built_in_template, body_or, chosen_for}
use Rattle.sx_names.specs.Numbering.{NameTable}

abbrev pub IsMotionless : {N : Type 0} → Body N → Type 0
IsMotionless b = consumes b ≡ false

abbrev pub OneOf : Bool → Bool → Type 0
OneOf true b = b ≡ false
OneOf false b = Unit {0}

-- at most one of the parts beside one another consumes, here and inside
abbrev pub IsGood : {N : Type 0} → Body N → Type 0
IsGood nil = Unit {0}
IsGood (literal line label content rest) = IsGood content × IsGood rest × OneOf (consumes content) (consumes rest)
IsGood (copies attributes rest) = IsGood rest
IsGood (words s rest) = IsGood rest
IsGood (apply rest) = IsMotionless rest

or_else_first : (a b : Option ℕ) → or_else a b ≡ None → a ≡ None
or_else_first None b e = refl
or_else_first (Some x) b e = absurd (cc)

or_else_second : (a b : Option ℕ) → or_else a b ≡ None → b ≡ None
or_else_second None b e = e
or_else_second (Some x) b e = absurd (cc)

no_two : (v : Bool) (line : ℕ) → cond v (Some line) None ≡ None → v ≡ false
no_two true line e = absurd (cc)
no_two false line e = refl

none_beside : (v w : Bool) (n : ℕ) → cond v 1 0 + n ≡ 0 → (n ≡ 0 → w ≡ false) → (v || w) ≡ false
none_beside true w n e h = absurd (omega arith)
none_beside false w n e h = h (omega arith)

none_consume : {N : Type 0} (b : Body N) → consuming_parts b ≡ 0 → consumes b ≡ false
none_consume nil e = refl
none_consume (literal line label content rest) e = none_beside (consumes content) (consumes rest) (consuming_parts rest) e (none_consume rest)
none_consume (copies attributes rest) e = none_consume rest e
none_consume (words s rest) e = none_consume rest e
none_consume (apply rest) e = absurd (omega arith)

fewer : (v : Bool) (n : ℕ) → cond v 1 0 + n < 2 → n < 2
fewer true n h = omega arith
fewer false n h = omega arith

one_of : {N : Type 0} (v : Bool) (b : Body N) → cond v 1 0 + consuming_parts b < 2 → OneOf v (consumes b)
one_of true b h = none_consume b (omega arith)
one_of false b h = tt

-- at most one
one_at_most : (n : ℕ) → nat_lt 1 n ≡ false → n < 2
one_at_most n e = grind (arith, nat_tests)

good_here : {N : Type 0} (b : Body N) → culprit_inside b ≡ None → consuming_parts b < 2 → IsGood b
good_here nil c h = tt
good_here (literal line label content rest) c h =
    let both = or_else_first (or_else (culprit_inside content) (if_two line content)) (culprit_inside rest) c in
    let inner = or_else_first (culprit_inside content) (if_two line content) both in
    let two = or_else_second (culprit_inside content) (if_two line content) both in
    let few : consuming_parts content < 2 = one_at_most (consuming_parts content) (no_two (nat_lt 1 (consuming_parts content)) line two) in (
      good_here content inner few,
      good_here rest (or_else_second (or_else (culprit_inside content) (if_two line content)) (culprit_inside rest) c) (fewer (consumes content) (consuming_parts rest) h),
      one_of (consumes content) rest h,
    )
good_here (copies attributes rest) c h = good_here rest c h
good_here (words s rest) c h = good_here rest c h
good_here (apply rest) c h = none_consume rest (omega arith)

-- the content of an element that is no culprit and holds none
pub good_content : {N : Type 0} (line : ℕ) (b : Body N) → culprit_of line b ≡ None → IsGood b
good_content line b c =
    good_here b (or_else_first (culprit_inside b) (if_two line b) c)
    (one_at_most (consuming_parts b) (no_two (nat_lt 1 (consuming_parts b)) line (or_else_second (culprit_inside b) (if_two line b) c)))

-- ---- with names written out

module _ (names : NameTable) where
  consumes_written : (b : Body Label) → consumes (written_out names b) ≡ consumes b
  consumes_written nil = refl
  consumes_written (literal line label content rest) = ap₂ (λ (v w : Bool). v || w) (consumes_written content) (consumes_written rest)
  consumes_written (copies attributes rest) = consumes_written rest
  consumes_written (words s rest) = consumes_written rest
  consumes_written (apply rest) = refl

  good_written : (b : Body Label) → IsGood b → IsGood (written_out names b)
  good_written nil h = tt
  good_written (literal line label content rest) h = (
    good_written content h.0,
    good_written rest h.1,
    subst (λ (w : Bool). OneOf (consumes (written_out names content)) w) (sym (consumes_written rest))
        (subst (λ (v : Bool). OneOf v (consumes rest)) (sym (consumes_written content)) h.2),
  )
  good_written (copies attributes rest) h = good_written rest h
  good_written (words s rest) h = good_written rest h
  good_written (apply rest) h = consumes_written rest ∙ h

  good_built_in : (is_copying : Bool) (e : NamedElement) → IsGood (built_in_template is_copying e)
  good_built_in false e = refl
  good_built_in true e = (refl, tt, refl)

  module _ (is_copying : Bool) (e : NamedElement) where
    abbrev IsGoodChoice : Option Template → Type 0
    IsGoodChoice o = IsGood (body_or names (built_in_template is_copying e) o)

    good_or : (a b : Option Template) → IsGoodChoice a → IsGoodChoice b → IsGoodChoice (otherwise a b)
    good_or None b h k = k
    good_or (Some t) b h k = h

    good_if : (v : Bool) (t : Template) → IsGood (body_of t.body) → IsGoodChoice (cond v (Some t) None)
    good_if true t h = good_written (body_of t.body) h
    good_if false t h = good_built_in is_copying e

    -- what is chosen of templates that can be streamed
    pub good_chosen : (ts : List Template) → culprit ts ≡ None → IsGood (chosen_for names is_copying ts e)
    good_chosen [] c = good_built_in is_copying e
    good_chosen (t ∷ ts) c =
        good_or (last_that (matches names e.name) ts) (cond (matches names e.name t) (Some t) None)
        (good_chosen ts (or_else_second (culprit_of t.construct.line (body_of t.body)) (culprit ts) c))
        (good_if (matches names e.name t) t (good_content t.construct.line (body_of t.body) (or_else_first (culprit_of t.construct.line (body_of t.body)) (culprit ts) c)))
