-- Laws of the integers that the laws of arithmetic rest on.
use Rattle.std.proofs.Common.{◌≡◌, ℤ, pos, neg_ℤ, ◌+ℤ◌, ◌-ℤ◌, ◌*ℤ◌, ap, sym, ◌∙◌, subst, arith}
use Rattle.std.proofs.Math.IntN.{ℤ_ind, suc_ℤ, pred_ℤ, +ℤ_idl, +ℤ_one, -ℤ_one, suc_ℤ-+ℤ, pred_ℤ-+ℤ, suc_ℤ-*ℤ, pred_ℤ-*ℤ, zero-*ℤ, -ℤ-+ℤ_cancel}
use Rattle.std.proofs.lemmas.Int.{ints}

-- what holds of zero, and with an integer of the next and of the one before, holds of all
by_steps : (P : ℤ → Type 0) → P (pos 0) → ((k : ℤ) → P k → P (suc_ℤ k)) → ((k : ℤ) → P k → P (pred_ℤ k)) → (k : ℤ) → P k
by_steps P z s p = ℤ_ind P z (λ n h. subst P (sym (+ℤ_one (pos n))) (s (pos n) h)) (λ n h. subst P (sym (-ℤ_one (neg_ℤ (pos n)))) (p (neg_ℤ (pos n)) h))

-- a product over a sum
pub add-mul_ℤ : (a b k : ℤ) → (a +ℤ b) *ℤ k ≡ (a *ℤ k) +ℤ (b *ℤ k)
add-mul_ℤ a b k = by_steps (λ (x : ℤ). (x +ℤ b) *ℤ k ≡ (x *ℤ k) +ℤ (b *ℤ k)) zero up down a
  where
    zero : (pos 0 +ℤ b) *ℤ k ≡ (pos 0 *ℤ k) +ℤ (b *ℤ k)
    zero = ap (λ (x : ℤ). x *ℤ k) (+ℤ_idl b) ∙ sym (ap (λ (x : ℤ). x +ℤ (b *ℤ k)) (zero-*ℤ k) ∙ +ℤ_idl (b *ℤ k))

    up : (x : ℤ) → (x +ℤ b) *ℤ k ≡ (x *ℤ k) +ℤ (b *ℤ k) → (suc_ℤ x +ℤ b) *ℤ k ≡ (suc_ℤ x *ℤ k) +ℤ (b *ℤ k)
    up x h =
        let e : (suc_ℤ x +ℤ b) *ℤ k ≡ ((x +ℤ b) *ℤ k) +ℤ k = ap (λ (y : ℤ). y *ℤ k) (suc_ℤ-+ℤ x b) ∙ suc_ℤ-*ℤ (x +ℤ b) k in
        let f : suc_ℤ x *ℤ k ≡ (x *ℤ k) +ℤ k = suc_ℤ-*ℤ x k in
        omega (arith, ints, e, f, h)

    down : (x : ℤ) → (x +ℤ b) *ℤ k ≡ (x *ℤ k) +ℤ (b *ℤ k) → (pred_ℤ x +ℤ b) *ℤ k ≡ (pred_ℤ x *ℤ k) +ℤ (b *ℤ k)
    down x h =
        let e : (pred_ℤ x +ℤ b) *ℤ k ≡ ((x +ℤ b) *ℤ k) -ℤ k = ap (λ (y : ℤ). y *ℤ k) (pred_ℤ-+ℤ x b) ∙ pred_ℤ-*ℤ (x +ℤ b) k in
        let f : pred_ℤ x *ℤ k ≡ (x *ℤ k) -ℤ k = pred_ℤ-*ℤ x k in
        omega (arith, ints, e, f, h)

-- a product of three
pub mul_assoc_ℤ : (a b k : ℤ) → (a *ℤ b) *ℤ k ≡ a *ℤ (b *ℤ k)
mul_assoc_ℤ a b k = by_steps (λ (x : ℤ). (x *ℤ b) *ℤ k ≡ x *ℤ (b *ℤ k)) zero up down a
  where
    zero : (pos 0 *ℤ b) *ℤ k ≡ pos 0 *ℤ (b *ℤ k)
    zero = ap (λ (x : ℤ). x *ℤ k) (zero-*ℤ b) ∙ zero-*ℤ k ∙ sym (zero-*ℤ (b *ℤ k))

    up : (x : ℤ) → (x *ℤ b) *ℤ k ≡ x *ℤ (b *ℤ k) → (suc_ℤ x *ℤ b) *ℤ k ≡ suc_ℤ x *ℤ (b *ℤ k)
    up x h =
        let e : (suc_ℤ x *ℤ b) *ℤ k ≡ ((x *ℤ b) *ℤ k) +ℤ (b *ℤ k) = ap (λ (y : ℤ). y *ℤ k) (suc_ℤ-*ℤ x b) ∙ add-mul_ℤ (x *ℤ b) b k in
        let f : suc_ℤ x *ℤ (b *ℤ k) ≡ (x *ℤ (b *ℤ k)) +ℤ (b *ℤ k) = suc_ℤ-*ℤ x (b *ℤ k) in
        omega (arith, ints, e, f, h)

    down : (x : ℤ) → (x *ℤ b) *ℤ k ≡ x *ℤ (b *ℤ k) → (pred_ℤ x *ℤ b) *ℤ k ≡ pred_ℤ x *ℤ (b *ℤ k)
    down x h =
        let r = (x *ℤ b) -ℤ b in
        let e : (pred_ℤ x *ℤ b) *ℤ k ≡ r *ℤ k = ap (λ (y : ℤ). y *ℤ k) (pred_ℤ-*ℤ x b) in
        let g : (r *ℤ k) +ℤ (b *ℤ k) ≡ (x *ℤ b) *ℤ k = sym (add-mul_ℤ r b k) ∙ ap (λ (y : ℤ). y *ℤ k) (-ℤ-+ℤ_cancel (x *ℤ b) b) in
        let f : pred_ℤ x *ℤ (b *ℤ k) ≡ (x *ℤ (b *ℤ k)) -ℤ (b *ℤ k) = pred_ℤ-*ℤ x (b *ℤ k) in
        omega (arith, ints, e, f, g, h)
