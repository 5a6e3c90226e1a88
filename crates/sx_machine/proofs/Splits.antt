-- A body is its plan.
use Rattle.std.proofs.Common.{◌≡◌, ℕ, zero, suc, Bool, true, false, ◌||◌, List, [], ◌∷◌, refl, ap, ap₂, sym, ◌∙◌}
use Rattle.sx_named.specs.Named.{Name, Attribute}
use Rattle.sx_build.specs.Asked as ask
use Rattle.sx_machine.specs.Body.{Body, nil, literal, copies, words, apply, consumes}
use Rattle.sx_machine.specs.Run.{Output, gives, next, wrap, run_body, copied_attribute, copied_attributes}
use Rattle.sx_machine.specs.Plan.{Plan, still, looking, then_plan, plan_of, before_of, after_of}
use Rattle.sx_machine.proofs.Outs.{IsSettled, next-assoc, next-nil, next_settled}
use Rattle.sx_machine.proofs.Bodies.{IsGood, OneOf}

pub then-assoc : (p q r : Plan) → then_plan (then_plan p q) r ≡ then_plan p (then_plan q r)
then-assoc (still a) (still c) (still e) = ap still (next-assoc a c e)
then-assoc (still a) (still c) (looking e f) = ap (λ (o : Output). looking o f) (next-assoc a c e)
then-assoc (still a) (looking c d) (still e) = refl
then-assoc (still a) (looking c d) (looking e f) = refl
then-assoc (looking a b) (still c) (still e) = ap (looking a) (next-assoc b c e)
then-assoc (looking a b) (still c) (looking e f) = ap (looking a) (next-assoc b c (next e f) ∙ ap (next b) (sym (next-assoc c e f)))
then-assoc (looking a b) (looking c d) (still e) = ap (looking a) (next-assoc b (next c d) e ∙ ap (next b) (next-assoc c d e))
then-assoc (looking a b) (looking c d) (looking e f) = ap (looking a) (next-assoc b (next c d) (next e f) ∙ ap (next b) (next-assoc c d (next e f)))

pub then-nil : (p : Plan) → then_plan p (still (gives [])) ≡ p
then-nil (still a) = ap still (next-nil a)
then-nil (looking a b) = ap (looking a) (next-nil b)

-- ---- what a plan gives, where the children give this

abbrev pub mean : Plan → Output → Output
mean (still a) k = a
mean (looking a b) k = next a (next k b)

-- not both ask for the children
abbrev OneLooks : Plan → Plan → Type 0
OneLooks (still a) q = Unit {0}
OneLooks (looking a b) (still c) = Unit {0}
OneLooks (looking a b) (looking c d) = ⊥

mean_then : (p q : Plan) (k : Output) → OneLooks p q → mean (then_plan p q) k ≡ next (mean p k) (mean q k)
mean_then (still a) (still c) k h = refl
mean_then (still a) (looking c d) k h = next-assoc a c (next k d)
mean_then (looking a b) (still c) k h = ap (next a) (sym (next-assoc k b c)) ∙ sym (next-assoc a (next k b) c)
mean_then (looking a b) (looking c d) k h = absurd h

-- ---- whether it asks for the children

abbrev is_looking : Plan → Bool
is_looking (still a) = false
is_looking (looking a b) = true

looks_then : (p q : Plan) → is_looking (then_plan p q) ≡ (is_looking p || is_looking q)
looks_then (still a) (still c) = refl
looks_then (still a) (looking c d) = refl
looks_then (looking a b) (still c) = refl
looks_then (looking a b) (looking c d) = refl

or_false : (a : Bool) → (a || false) ≡ a
or_false true = refl
or_false false = refl

module _ (left : ℕ) where
  abbrev started : Name → Body Name → Plan
  started name content = then_plan (then_plan (still (gives (ask.starts name ∷ []))) (plan_of left content)) (still (gives (ask.ends ∷ [])))

  looks_started : (name : Name) (content : Body Name) → is_looking (started name content) ≡ is_looking (plan_of left content)
  looks_started name content =
      looks_then (then_plan (still (gives (ask.starts name ∷ []))) (plan_of left content)) (still (gives (ask.ends ∷ [])))
      ∙ or_false (is_looking (then_plan (still (gives (ask.starts name ∷ []))) (plan_of left content)))
      ∙ looks_then (still (gives (ask.starts name ∷ []))) (plan_of left content)

  looks : (b : Body Name) → is_looking (plan_of left b) ≡ consumes b
  looks nil = refl
  looks (literal line name content rest) =
      looks_then (started name content) (plan_of left rest)
      ∙ ap₂ (λ (x y : Bool). x || y) (looks_started name content ∙ looks content) (looks rest)
  looks (copies attributes rest) = looks_then (still (copied_attributes left attributes)) (plan_of left rest) ∙ looks rest
  looks (words s rest) = looks_then (still (gives (ask.says s ∷ []))) (plan_of left rest) ∙ looks rest
  looks (apply rest) = looks_then (looking (gives []) (gives [])) (plan_of left rest)

  one_looks : (p q : Plan) (v w : Bool) → is_looking p ≡ v → is_looking q ≡ w → OneOf v w → OneLooks p q
  one_looks (still a) q v w e f h = tt
  one_looks (looking a b) (still c) v w e f h = tt
  one_looks (looking a b) (looking c d) true w e f h = absurd (cc)
  one_looks (looking a b) (looking c d) false w e f h = absurd (cc)

  -- ---- a body is what its plan gives

  last_still : (p : Plan) (a : Output) → OneLooks p (still a)
  last_still (still c) a = tt
  last_still (looking c d) a = tt

  wrapped : (name : Name) (content : Body Name) (k : Output) → mean (started name content) k ≡ wrap name (mean (plan_of left content) k)
  wrapped name content k =
      let start = gives (ask.starts name ∷ []) in
      let end = gives (ask.ends ∷ []) in
      let inner = then_plan (still start) (plan_of left content) in
      mean_then inner (still end) k (last_still inner end)
      ∙ ap (λ (o : Output). next o end) (mean_then (still start) (plan_of left content) k tt)
      ∙ next-assoc start (mean (plan_of left content) k) end

  or_left : (a b : Bool) → (a || b) ≡ false → a ≡ false
  or_left true b h = h
  or_left false b h = refl

  or_right : (a b : Bool) → (a || b) ≡ false → b ≡ false
  or_right true b h = absurd (cc)
  or_right false b h = h

  one_of_none : (a b : Bool) → a ≡ false → OneOf a b
  one_of_none true b h = absurd (cc)
  one_of_none false b h = tt

  good_motionless : (b : Body Name) → consumes b ≡ false → IsGood b
  good_motionless nil h = tt
  good_motionless (literal line label content rest) h = (
    good_motionless content (or_left (consumes content) (consumes rest) h),
    good_motionless rest (or_right (consumes content) (consumes rest) h),
    one_of_none (consumes content) (consumes rest) (or_left (consumes content) (consumes rest) h),
  )
  good_motionless (copies attributes rest) h = good_motionless rest h
  good_motionless (words s rest) h = good_motionless rest h
  good_motionless (apply rest) h = absurd (cc)

  pub split : (k : Output) (b : Body Name) → IsGood b → run_body (copied_attributes left) k b ≡ mean (plan_of left b) k
  split k nil h = refl
  split k (literal line name content rest) h =
      ap₂ (λ (x y : Output). next (wrap name x) y) (split k content h.0) (split k rest h.1)
      ∙ ap (λ (o : Output). next o (mean (plan_of left rest) k)) (sym (wrapped name content k))
      ∙ sym (mean_then (started name content) (plan_of left rest) k
      (one_looks (started name content) (plan_of left rest) (consumes content) (consumes rest)
      (looks_started name content ∙ looks content) (looks rest) h.2))
  split k (copies attributes rest) h =
      ap (next (copied_attributes left attributes)) (split k rest h) ∙ sym (mean_then (still (copied_attributes left attributes)) (plan_of left rest) k tt)
  split k (words s rest) h = ap (next (gives (ask.says s ∷ []))) (split k rest h) ∙ sym (mean_then (still (gives (ask.says s ∷ []))) (plan_of left rest) k tt)
  split k (apply rest) h =
      ap₂ next (sym (next-nil k)) (split k rest (good_motionless rest h))
      ∙ sym (mean_then (looking (gives []) (gives [])) (plan_of left rest) k
      (one_looks (looking (gives []) (gives [])) (plan_of left rest) true (consumes rest) refl (looks rest) h))

  -- ---- the parts of a plan wait for nothing

  attribute_settled : (l : ℕ) (a : Attribute) → IsSettled (copied_attribute l a)
  attribute_settled zero a = tt
  attribute_settled (suc l) a = tt

  attributes_settled : (attributes : List Attribute) → IsSettled (copied_attributes left attributes)
  attributes_settled [] = tt
  attributes_settled (a ∷ rest) = next_settled (copied_attribute left a) (copied_attributes left rest) (attribute_settled left a) (attributes_settled rest)

  abbrev pub IsSettledPlan : Plan → Type 0
  IsSettledPlan p = IsSettled (before_of p) × IsSettled (after_of p)

  then_settled : (p q : Plan) → IsSettledPlan p → IsSettledPlan q → IsSettledPlan (then_plan p q)
  then_settled (still a) (still c) h k = (next_settled a c h.0 k.0, tt)
  then_settled (still a) (looking c d) h k = (next_settled a c h.0 k.0, k.1)
  then_settled (looking a b) (still c) h k = (h.0, next_settled b c h.1 k.0)
  then_settled (looking a b) (looking c d) h k = (h.0, next_settled b (next c d) h.1 (next_settled c d k.0 k.1))

  pub plan_settled : (b : Body Name) → IsSettledPlan (plan_of left b)
  plan_settled nil = (tt, tt)
  plan_settled (literal line name content rest) =
      let start : Plan = still (gives (ask.starts name ∷ [])) in
      let end : Plan = still (gives (ask.ends ∷ [])) in
      then_settled (started name content) (plan_of left rest)
      (then_settled (then_plan start (plan_of left content)) end (then_settled start (plan_of left content) (tt, tt) (plan_settled content)) (tt, tt))
      (plan_settled rest)
  plan_settled (copies attributes rest) =
      then_settled (still (copied_attributes left attributes)) (plan_of left rest) (attributes_settled attributes, tt) (plan_settled rest)
  plan_settled (words s rest) = then_settled (still (gives (ask.says s ∷ []))) (plan_of left rest) (tt, tt) (plan_settled rest)
  plan_settled (apply rest) = then_settled (looking (gives []) (gives [])) (plan_of left rest) (tt, tt) (plan_settled rest)

  -- ---- plans made from the front on

  -- a text behind a plan
  pub text_in_front : (p : Plan) (s : List ℕ) (rest : Body Name) → then_plan (then_plan p (still (gives (ask.says s ∷ [])))) (plan_of left rest) ≡ then_plan p (plan_of left (words s rest))
  text_in_front p s rest = then-assoc p (still (gives (ask.says s ∷ []))) (plan_of left rest)

  -- a literal element behind a plan
  pub literal_in_front : (p : Plan) (line : ℕ) (name : Name) (content rest : Body Name) →
      then_plan (then_plan (then_plan (then_plan p (still (gives (ask.starts name ∷ [])))) (plan_of left content)) (still (gives (ask.ends ∷ [])))) (plan_of left rest)
      ≡ then_plan p (plan_of left (literal line name content rest))
  literal_in_front p line name content rest =
      let start : Plan = still (gives (ask.starts name ∷ [])) in
      let end : Plan = still (gives (ask.ends ∷ [])) in
      ap (λ (q : Plan). then_plan q (plan_of left rest))
      (ap (λ (q : Plan). then_plan q end) (then-assoc p start (plan_of left content)) ∙ then-assoc p (then_plan start (plan_of left content)) end)
      ∙ then-assoc p (then_plan (then_plan start (plan_of left content)) end) (plan_of left rest)
