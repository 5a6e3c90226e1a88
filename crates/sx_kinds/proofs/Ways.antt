-- Ways down an expression along its first parts.
use Rattle.std.proofs.Common.{◌≡◌, ℕ, zero, suc, ◌+◌, ◌<◌, ◌≤◌, Bool, true, false, List, [], ◌∷◌, map, None, Some, refl, ap, sym, ◌∙◌, subst, arith}
use Rattle.std.specs.Prelude.{if◌then◌else◌}
use Rattle.std.specs.List.{slice_get}
use Rattle.sx_kinds.specs.Ways.{above_first, first_or, front, goes_on, levels, next_below}
use Rattle.sx_kinds.specs.declared.expressions.Expr.{Expr}
use Rattle.sx_kinds.specs.declared.expressions.Expr.TheOpen.{Expr-F}
use Rattle.sx_kinds.specs.declared.expressions.Expr.TheFolds.{fold_out-Expr}
use Rattle.sx_kinds.specs.declared.expressions.Expr.TheViews.{out-Expr}
use Rattle.sx_kinds.specs.declared.walks.Way.{Way}

-- whether a way goes on from an expression
abbrev pub on : Way → Expr → Bool
on way e = goes_on way (out-Expr e).form (out-Expr e).deep

pub levels_out : (way : Way) (e : Expr) → levels way e ≡ (if on way e then above_first (map (levels way) (out-Expr e).parts) else 0)
unfolding levels
levels_out way e = fold_out-Expr ℕ (λ (x : Expr-F ℕ). if goes_on way x.form x.deep then above_first x.parts else 0) e

above_some : (way : Way) (parts : List Expr) (first : Expr) → Some first ≡ slice_get parts 0 → above_first (map (levels way) parts) ≡ suc (levels way first)
above_some way [] first e = cc
above_some way (p ∷ ps) first e = ap (λ (q : Expr). suc (levels way q)) (let is : p ≡ first = cc in is)

above_none : (way : Way) (parts : List Expr) → None ≡ slice_get parts 0 → above_first (map (levels way) parts) ≡ 0
above_none way [] e = refl
above_none way (p ∷ ps) e = cc

first_some : (e : Expr) (parts : List Expr) (first : Expr) → Some first ≡ slice_get parts 0 → first_or e parts ≡ first
first_some e [] first is = cc
first_some e (p ∷ ps) first is = cc

first_none : (e : Expr) (parts : List Expr) → None ≡ slice_get parts 0 → first_or e parts ≡ e
first_none e [] is = refl
first_none e (p ∷ ps) is = cc

levels_by : (way : Way) (e : Expr) (b : Bool) → on way e ≡ b → levels way e ≡ (if b then above_first (map (levels way) (out-Expr e).parts) else 0)
levels_by way e b is = levels_out way e ∙ ap (λ (c : Bool). if c then above_first (map (levels way) (out-Expr e).parts) else 0) is

-- one level of an expression with a first part on the way
pub levels_some : (way : Way) (e first : Expr) (parts : List Expr) → on way e ≡ true → parts ≡ (out-Expr e).parts → Some first ≡ slice_get parts 0 →
    levels way e ≡ suc (levels way first)
levels_some way e first parts goes all is =
    levels_by way e true goes ∙ ap (λ (ps : List Expr). above_first (map (levels way) ps)) (sym all) ∙ above_some way parts first is

-- of one without
pub levels_none : (way : Way) (e : Expr) (parts : List Expr) → on way e ≡ true → parts ≡ (out-Expr e).parts → None ≡ slice_get parts 0 → levels way e ≡ 0
levels_none way e parts goes all is =
    levels_by way e true goes ∙ ap (λ (ps : List Expr). above_first (map (levels way) ps)) (sym all) ∙ above_none way parts is

-- of one at the end of the way
pub levels_end : (way : Way) (e : Expr) → on way e ≡ false → levels way e ≡ 0
levels_end way e ends = levels_by way e false ends

next_by : (way : Way) (e : Expr) (b : Bool) → on way e ≡ b → next_below way e ≡ (if b then first_or e (out-Expr e).parts else e)
next_by way e b is = ap (λ (c : Bool). if c then first_or e (out-Expr e).parts else e) is

pub next_some : (way : Way) (e first : Expr) (parts : List Expr) → on way e ≡ true → parts ≡ (out-Expr e).parts → Some first ≡ slice_get parts 0 → next_below way e ≡ first
next_some way e first parts goes all is = next_by way e true goes ∙ ap (first_or e) (sym all) ∙ first_some e parts first is

pub next_none : (way : Way) (e : Expr) (parts : List Expr) → on way e ≡ true → parts ≡ (out-Expr e).parts → None ≡ slice_get parts 0 → next_below way e ≡ e
next_none way e parts goes all is = next_by way e true goes ∙ ap (first_or e) (sym all) ∙ first_none e parts is

pub next_end : (way : Way) (e : Expr) → on way e ≡ false → next_below way e ≡ e
next_end way e ends = next_by way e false ends

-- on from one on the way
pub front_on : (way : Way) (a b n : ℕ) (e : Expr) → a + b ≡ n → front way b (front way a e) ≡ front way n e
front_on way zero b n e h =
    let same : b ≡ n = omega (arith, h) in
    ap (λ (k : ℕ). front way k e) same
front_on way (suc a) b zero e h = absurd (omega (arith, h))
front_on way (suc a) b (suc n) e h = front_on way a b n (next_below way e) (omega (arith, h))

-- the last one on the way stays
pub front_last : (way : Way) (n : ℕ) (e : Expr) → next_below way e ≡ e → front way n e ≡ e
front_last way zero e none = refl
front_last way (suc n) e none = ap (front way n) none ∙ front_last way n e none

-- ---- what a walk up a way is proved by

-- these parts of an expression, of which the first is this
abbrev pub BeginsWith : Expr → List Expr → Type 0
BeginsWith first parts = (rest : List Expr) × (parts ≡ first ∷ rest)

down_by : (way : Way) (e : Expr) (b : Bool) (parts : List Expr) → on way e ≡ b → (out-Expr e).parts ≡ parts →
    0 < (if b then above_first (map (levels way) parts) else 0) → BeginsWith (next_below way e) (out-Expr e).parts × (levels way e ≡ suc (levels way (next_below way e)))
down_by way e false parts is all h = absurd (omega (arith, h))
down_by way e true [] is all h = absurd (omega (arith, h))
down_by way e true (p ∷ ps) is all h =
    let one : next_below way e ≡ p = next_by way e true is ∙ ap (first_or e) all in (
      (ps, all ∙ ap (λ (x : Expr). x ∷ ps) (sym one)),
      levels_by way e true is ∙ ap (λ (qs : List Expr). above_first (map (levels way) qs)) all ∙ ap (λ (x : Expr). suc (levels way x)) (sym one),
    )

-- an expression that is not at the end of the way has the next_below one on it as its first part, with one level less
pub down_one : (way : Way) (e : Expr) → 0 < levels way e → BeginsWith (next_below way e) (out-Expr e).parts × (levels way e ≡ suc (levels way (next_below way e)))
down_one way e h =
    down_by way e (on way e) (out-Expr e).parts refl refl (subst (λ (n : ℕ). 0 < n) (levels_out way e) h)

goes_by : (way : Way) (e : Expr) (b : Bool) → on way e ≡ b → 0 < (if b then above_first (map (levels way) (out-Expr e).parts) else 0) → on way e ≡ true
goes_by way e true is h = is
goes_by way e false is h = absurd (omega (arith, h))

-- and the way goes on from it
pub goes_down : (way : Way) (e : Expr) → 0 < levels way e → on way e ≡ true
goes_down way e h = goes_by way e (on way e) refl (subst (λ (n : ℕ). 0 < n) (levels_out way e) h)

-- the levels below one that is on the way
pub levels_front : (way : Way) (n : ℕ) (e : Expr) → n ≤ levels way e → levels way (front way n e) + n ≡ levels way e
levels_front way zero e h = omega arith
levels_front way (suc n) e h =
    let one = down_one way e (omega (arith, h)) in
    let more = levels_front way n (next_below way e) (omega (arith, h, one.1)) in
    omega (arith, one.1, more)

next_front : (way : Way) (n : ℕ) (e : Expr) → next_below way (front way n e) ≡ front way (suc n) e
next_front way zero e = refl
next_front way (suc n) e = next_front way n (next_below way e)

-- what lies one further below is the first part of what lies above it
pub first_part : (way : Way) (n : ℕ) (e : Expr) → n < levels way e → BeginsWith (front way (suc n) e) (out-Expr (front way n e)).parts
first_part way n e h =
    let more = levels_front way n e (omega (arith, h)) in
    let one = (down_one way (front way n e) (omega (arith, h, more))).0 in
    (one.0, one.1 ∙ ap (λ (x : Expr). x ∷ one.0) (next_front way n e))
