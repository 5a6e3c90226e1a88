-- The `}` that ends the text of an expression.
use Rattle.std.proofs.Common.{◌≡◌, ℕ, suc, ◌+◌, ◌-◌, ◌<◌, ◌≤◌, Bool, true, false, not, ◌&&◌, ◌||◌, ◌==◌, cond, List, [], ◌∷◌, ◌++◌, length, take, drop, get_or, slice_index, refl, ap, subst, sym, ◌∙◌, append_assoc, append-nil, length-drop, get_or-drop, arith}
use Rattle.std.proofs.lemmas.List.{drop_all}
use Rattle.std.proofs.lemmas.Bool.Decides.{nat_tests}
use Rattle.std.proofs.Math.Seq.{take-suc, drop-cons}
use Rattle.std.proofs.lemmas.Str.{IsCharBoundary-before_ascii, IsCharBoundary-after_ascii}
use Rattle.std.specs.Str.{IsCharBoundary, IsUtf8}
use Rattle.sx_lex.specs.Tokens.{is_quote}
use Rattle.sx_parse.specs.Templates.{begins_with, is_closed, closes_in, quote_behind, ends, IsClosedFront, IsInnerNext}

closed_cases : (none quoted same ends : Bool) (q c : ℕ) (cs : List ℕ) → none && ends ≡ false →
    cond none (cond quoted (is_closed c cs) (not ends && is_closed 0 cs)) (cond same (is_closed 0 cs) (is_closed q cs))
    ≡ is_closed (cond none (cond quoted c 0) (cond same 0 q)) cs
closed_cases true true same ends q c cs e = refl
closed_cases true false same true q c cs e = absurd cc
closed_cases true false same false q c cs e = refl
closed_cases false quoted true ends q c cs e = refl
closed_cases false quoted false ends q c cs e = refl

closes_cases : (none quoted same ends : Bool) (q c : ℕ) (cs : List ℕ) → none && ends ≡ false →
    cond none (cond quoted (closes_in c cs) (ends || closes_in 0 cs)) (cond same (closes_in 0 cs) (closes_in q cs))
    ≡ closes_in (cond none (cond quoted c 0) (cond same 0 q)) cs
closes_cases true true same ends q c cs e = refl
closes_cases true false same true q c cs e = absurd cc
closes_cases true false same false q c cs e = refl
closes_cases false quoted true ends q c cs e = refl
closes_cases false quoted false ends q c cs e = refl

-- one byte more, which does not end the text
pub closed_step : (q c : ℕ) (cs : List ℕ) → (q == 0) && (c == 125) ≡ false → is_closed q (c ∷ cs) ≡ is_closed (quote_behind q c) cs
closed_step q c cs e = closed_cases (q == 0) (is_quote c) (c == q) (c == 125) q c cs e

pub closes_step : (q c : ℕ) (cs : List ℕ) → (q == 0) && (c == 125) ≡ false → closes_in q (c ∷ cs) ≡ closes_in (quote_behind q c) cs
closes_step q c cs e = closes_cases (q == 0) (is_quote c) (c == q) (c == 125) q c cs e

-- a front of so many bytes has no end in it, and behind it a literal with this quote is open, or none
pub record Scanned (bytes : List ℕ) (size quote : ℕ) : Type 0 where
  pub within : size ≤ length bytes
  pub closed : (more : List ℕ) → is_closed 0 (take size bytes ++ more) ≡ is_closed quote more
  pub closes : closes_in 0 bytes ≡ closes_in quote (drop size bytes)

pub scanned_none : (bytes : List ℕ) → Scanned bytes 0 0
scanned_none bytes = record { within = omega arith; closed = λ more. refl; closes = refl }

pub scanned_step : (bytes : List ℕ) (size quote : ℕ) → Scanned bytes size quote → size < length bytes → ends quote (slice_index bytes size) ≡ false →
    Scanned bytes (suc size) (quote_behind quote (slice_index bytes size))
scanned_step bytes size quote h l e = record {
  within = omega arith;
  closed = λ more.
      ap (λ (front : List ℕ). is_closed 0 (front ++ more)) (take-suc bytes size 0 l)
      ∙ ap (is_closed 0) (append_assoc (take size bytes) (slice_index bytes size ∷ []) more)
      ∙ h.closed (slice_index bytes size ∷ more)
      ∙ closed_step quote (slice_index bytes size) more e;
  closes = h.closes ∙ ap (closes_in quote) (drop-cons bytes size 0 l) ∙ closes_step quote (slice_index bytes size) (drop (suc size) bytes) e;
}

-- the `}` that was found
pub scanned_end : (bytes : List ℕ) (size quote : ℕ) → Scanned bytes size quote → size < length bytes → ends quote (slice_index bytes size) ≡ true → IsClosedFront bytes size
scanned_end bytes size quote h l e =
    let none : quote ≡ 0 = grind (arith, nat_tests) in
    let mark : slice_index bytes size ≡ 125 = grind (arith, nat_tests) in
    record { within = l; closed = ap (is_closed 0) (sym (append-nil (take size bytes))) ∙ h.closed [] ∙ ap (λ (q : ℕ). is_closed q []) none; mark = mark }

-- there is none
pub scanned_all : (bytes : List ℕ) (size quote : ℕ) → Scanned bytes size quote → length bytes ≤ size → closes_in 0 bytes ≡ false
scanned_all bytes size quote h l = h.closes ∙ ap (closes_in quote) (drop_all size bytes l)

-- the text of an expression, which the first `}` outside of literals ends
pub inner_next : (text : List ℕ) (offset size : ℕ) → IsUtf8 text → get_or text offset 0 ≡ 123 → begins_with 123 (drop (offset + 1) text) ≡ false →
    IsClosedFront (drop (offset + 1) text) size → IsInnerNext text offset (offset + 1) (offset + 1 + size)
inner_next text offset size utf8 opens single front =
    let start = offset + 1 in
    let within : start + size < length text = omega (arith, front.within, length-drop start text) in
    let mark : get_or text (start + size) 0 ≡ 125 = sym (get_or-drop start text size 0) ∙ front.mark in
    let back : size ≡ start + size - start = omega arith in record {
      opens = opens;
      begins = omega arith;
      order = omega arith;
      single = single;
      front = subst (λ (n : ℕ). IsClosedFront (drop start text) n) back front;
      starts = IsCharBoundary-after_ascii text offset utf8 (omega arith) (omega arith);
      ends_at = IsCharBoundary-before_ascii text (start + size) within (omega arith);
      goes_on = subst (λ (n : ℕ). IsCharBoundary text n) (omega arith) (IsCharBoundary-after_ascii text (start + size) utf8 within (omega arith));
    }
