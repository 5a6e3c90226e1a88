-- What is kept of items whose values are noted as seen.
use Rattle.std.proofs.Common.{◌≡◌, Bool, true, false, not, ◌||◌, List, [], ◌∷◌, ◌*ℤ◌, refl, ap, sym, ◌∙◌}
use Rattle.sx_atoms.specs.Comparison as value
use Rattle.sx_atoms.specs.Comparison.{Value, value_of}
use Rattle.sx_atoms.specs.Numbers.{one_unit}
use Rattle.sx_atoms.specs.declared.atoms.Atom.{Atom}
use Rattle.sx_fn_seq.specs.Seeing.{same, Shows, AddsValue, has_value}
use Rattle.sx_fn_seq.specs.declared.seen.Seen.{Seen}
use Rattle.sx_fn_seq.proofs.Orders.{values_along}

or_true : (t : Bool) → (t || true) ≡ true
or_true true = refl
or_true false = refl

or_false : (t : Bool) → (t || false) ≡ t
or_false true = refl
or_false false = refl

-- a value that equals that of an atom is seen with it
seen_along : (xs : List Atom) (v w : Value) → has_value xs v ≡ true → same v w ≡ true → has_value xs w ≡ true
seen_along [] v w h e = cc
seen_along (x ∷ xs) v w h e = by (same (value_of x) v) refl h (λ g. seen_along xs v w g e)
  where
    by : (t : Bool) → same (value_of x) v ≡ t → (t || has_value xs v) ≡ true → (has_value xs v ≡ true → has_value xs w ≡ true)
        → (same (value_of x) w || has_value xs w) ≡ true
    by true f g k = ap (λ (t : Bool). t || has_value xs w) (values_along (value_of x) v w f e)
    by false f g k = ap (λ (t : Bool). same (value_of x) w || t) (k g) ∙ or_true (same (value_of x) w)

-- the same values were seen
shows_along : (s : Seen) (f g : Value → Bool) → ((v : Value) → f v ≡ g v) → Shows s f → Shows s g
shows_along s f g e h = record {
  decimals = λ z k. h.decimals z k ∙ e (value.quantity z);
  integers = λ n k. h.integers n k ∙ e (value.quantity (n *ℤ one_unit));
  texts = λ k. h.texts k ∙ e (value.text k.now);
  truths = λ b. h.truths b ∙ e (value.truth b);
}

-- behind an item whose value is not new the same values were seen
pub seen_still : (old new : Seen) (kept : List Atom) (a : Atom) (added : Bool) → AddsValue old new (value_of a) added → added ≡ false → Shows old (has_value kept)
    → Shows new (has_value kept)
seen_still old new kept a added h e s = shows_along new _ (has_value kept) (λ w. old_value w (same (value_of a) w) refl) (h.shown (has_value kept) s)
  where
    not_new : (t : Bool) → false ≡ not t → t ≡ true
    not_new true f = refl
    not_new false f = f

    old_value : (w : Value) (t : Bool) → same (value_of a) w ≡ t → (has_value kept w || t) ≡ has_value kept w
    old_value w true f =
        or_true (has_value kept w)
        ∙ sym (seen_along kept (value_of a) w (not_new (has_value kept (value_of a)) (sym e ∙ h.answer (has_value kept) s)) f)
    old_value w false f = or_false (has_value kept w)
