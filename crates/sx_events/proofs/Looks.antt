-- What is looked at of more bytes.
use Rattle.std.proofs.Common.{◌≡◌, ℕ, suc, ◌+◌, ◌-◌, ◌<◌, ◌≤◌, Bool, true, false, not, cond, ◌&&◌, ◌==◌, List, ◌++◌, length, take, get_or, refl, ap, ap₂, sym, ◌∙◌, subst, arith, length-append, ltb}
use Rattle.std.proofs.Math.Seq.{take-append-add}
use Rattle.std.proofs.lemmas.Bool.{ltb-true, ltb-false, le-ltb, lt-ltb, eq-eqb, ne_eqb}
use Rattle.std.proofs.lemmas.List.{take_all, take-append-le, length-take, get_or_append_left, get_or-append_right, get_or_read}
use Rattle.sx_esis.specs.Lines.{lines_of}
use Rattle.sx_events.specs.Course.{ends_line, is_beyond, looked_at, reading}
use Rattle.sx_limits.specs.declared.limits.Limits.{Limits}

-- a front that may reach beyond the first of two lists
pub take_more : (n : ℕ) (b d : List ℕ) → length b ≤ n → take n (b ++ d) ≡ b ++ take (n - length b) d
take_more n b d le = ap (λ (k : ℕ). take k (b ++ d)) (sum n (length b) le) ∙ take-append-add b d (n - length b)
  where
    sum : (n k : ℕ) → k ≤ n → n ≡ k + (n - k)
    sum n k h = omega arith

pub and_false : (v : Bool) → (v && false) ≡ false
and_false true = refl
and_false false = refl

pub and_true : (v : Bool) → (v && true) ≡ v
and_true true = refl
and_true false = refl

abbrev looks : Bool → ℕ → List ℕ → List ℕ
looks drops n b = cond drops (take n b) (take (suc n) b)

module _ (limits : Limits) (b : List ℕ) where
  pub within_length : is_beyond limits b ≡ false → length b ≤ limits.bytes
  within_length h = ltb-false limits.bytes (length b) h

  pub beyond_length : is_beyond limits b ≡ true → limits.bytes < length b
  beyond_length h = ltb-true limits.bytes (length b) h

  -- bytes within the limit are all looked at
  pub looks_within : is_beyond limits b ≡ false → looked_at limits b ≡ b
  looks_within h =
      ap (λ (v : Bool). looks (v && ends_line limits b) limits.bytes b) h
      ∙ take_all (suc limits.bytes) b (omega (arith, within_length h))

  -- more are no more looked at
  pub looked-length : length (looked_at limits b) ≤ suc limits.bytes
  looked-length = by (is_beyond limits b && ends_line limits b)
    where
      by : (v : Bool) → length (looks v limits.bytes b) ≤ suc limits.bytes
      by true = omega (arith, length-take limits.bytes b)
      by false = omega (arith, length-take (suc limits.bytes) b)

module _ (limits : Limits) (b d : List ℕ) where
  pub stays_beyond : is_beyond limits b ≡ true → is_beyond limits (b ++ d) ≡ true
  stays_beyond h =
      let lt = beyond_length limits b h in
      lt-ltb limits.bytes (length (b ++ d)) (omega (arith, length-append b d))

  -- behind the limit nothing is looked at
  pub looks_beyond : is_beyond limits b ≡ true → looked_at limits (b ++ d) ≡ looked_at limits b
  looks_beyond h =
      let lt = beyond_length limits b h in
      let le : limits.bytes ≤ length b = omega arith in
      let le_suc : suc limits.bytes ≤ length b = omega arith in
      ap₂ (λ (v : Bool) (c : ℕ). looks (v && c == 10) limits.bytes (b ++ d)) (stays_beyond h ∙ sym h) (get_or_append_left b d 0 limits.bytes lt)
      ∙ ap₂ (λ (x y : List ℕ). cond (is_beyond limits b && ends_line limits b) x y) (take-append-le limits.bytes b d le) (take-append-le (suc limits.bytes) b d le_suc)

  pub looks_more : is_beyond limits b ≡ false → (w : List ℕ) × (looked_at limits (b ++ d) ≡ b ++ w)
  looks_more h = by (is_beyond limits (b ++ d) && ends_line limits (b ++ d))
    where
      le : length b ≤ limits.bytes
      le = within_length limits b h

      by : (v : Bool) → (w : List ℕ) × (looks v limits.bytes (b ++ d) ≡ b ++ w)
      by true = (take (limits.bytes - length b) d, take_more limits.bytes b d le)
      by false = (take (suc limits.bytes - length b) d, take_more (suc limits.bytes) b d (omega (arith, le)))

  -- bytes past the limit change no line
  pub reading_beyond : (ended : Bool) → is_beyond limits b ≡ true → reading limits (b ++ d) ended ≡ reading limits b false
  reading_beyond ended h =
      ap₂ (λ (x : List ℕ) (v : Bool). lines_of limits.line x (ended && not v)) (looks_beyond h) (stays_beyond h)
      ∙ ap (lines_of limits.line (looked_at limits b)) (and_false ended)

module _ (limits : Limits) (b d : List ℕ) (within : length b ≤ limits.bytes) (past : limits.bytes - length b < length d) where
  looks_front : (v : Bool) → (v ≡ ends_line limits (b ++ d)) → looked_at limits (b ++ d) ≡ looks v limits.bytes (b ++ d)
  looks_front v is =
      ap₂ (λ (x y : Bool). looks (x && y) limits.bytes (b ++ d)) (lt-ltb limits.bytes (length (b ++ d)) (omega (arith, length-append b d, within, past))) (sym is)

  before : looked_at limits b ≡ b
  before = looks_within limits b (le-ltb limits.bytes (length b) within)

  last_byte : get_or d (limits.bytes - length b) 0 ≡ get_or (b ++ d) limits.bytes 0
  last_byte = sym (get_or-append_right b d (length b) limits.bytes 0 refl within)

  -- the byte that passes the limit ends a line
  pub looks_newline : get_or d (limits.bytes - length b) 0 ≡ 10 → looked_at limits (b ++ d) ≡ looked_at limits b ++ take (limits.bytes - length b) d
  looks_newline is =
      looks_front true (sym (eq-eqb (get_or (b ++ d) limits.bytes 0) 10 (sym last_byte ∙ is)))
      ∙ take_more limits.bytes b d within
      ∙ ap (λ (x : List ℕ). x ++ take (limits.bytes - length b) d) (sym before)

  -- it ends none
  pub looks_other : (get_or d (limits.bytes - length b) 0 ≡ 10 → ⊥) → looked_at limits (b ++ d) ≡ looked_at limits b ++ take (limits.bytes - length b + 1) d
  looks_other is =
      looks_front false (sym (ne_eqb (get_or (b ++ d) limits.bytes 0) 10 (λ e. is (last_byte ∙ e))))
      ∙ take_more (suc limits.bytes) b d (omega (arith, within))
      ∙ ap₂ (λ (x : List ℕ) (n : ℕ). x ++ take n d) (sym before) (omega (arith, within))

-- how many of the next bytes are looked at
module _ (limits : Limits) (b d : List ℕ) (limit total x : ℕ) (same : limits.bytes ≡ limit) (is : total ≡ length b) (within : total ≤ limit)
    (past : true ≡ ltb (limit - total) (length d)) (found : x ≡ get_or d (limit - total) x) where
  room_is : limit - total ≡ limits.bytes - length b
  room_is = ap₂ (λ (m n : ℕ). m - n) (sym same) is

  past_is : limits.bytes - length b < length d
  past_is = let lt = ltb-true (limit - total) (length d) (sym past) in subst (λ (n : ℕ). n < length d) room_is lt

  byte_is : get_or d (limits.bytes - length b) 0 ≡ x
  byte_is = ap (λ (n : ℕ). get_or d n 0) (sym room_is) ∙ sym (get_or_read d (limit - total) x (ltb-true (limit - total) (length d) (sym past)) found 0)

  pub count_newline : x ≡ 10 → looked_at limits (b ++ d) ≡ looked_at limits b ++ take (limit - total) d
  count_newline ten = looks_newline limits b d (omega (arith, within, same, is)) past_is (byte_is ∙ ten) ∙ ap (λ (n : ℕ). looked_at limits b ++ take n d) (sym room_is)

  pub count_other : (x ≡ 10 → ⊥) → looked_at limits (b ++ d) ≡ looked_at limits b ++ take (limit - total + 1) d
  count_other other = looks_other limits b d (omega (arith, within, same, is)) past_is (λ e. other (sym byte_is ∙ e)) ∙ ap (λ (n : ℕ). looked_at limits b ++ take (n + 1) d) (sym room_is)
