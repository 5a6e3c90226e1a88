-- What stands in quotes.
use Rattle.std.proofs.Common.{◌≡◌, ◌≢◌, ℕ, suc, ◌<◌, Bool, true, false, ◌&&◌, cond, eqb, List, [], ◌∷◌, ◌++◌, length, get_or, refl, ap, sym, ◌∙◌, subst, append_assoc, append-nil, arith, ◌+◌, drop, length-append}
use Rattle.std.proofs.lemmas.Bool.{and_parts, eqb-true, ne_eqb, false≢true}
use Rattle.std.proofs.lemmas.Bool.Decides.{nat_tests}
use Rattle.std.proofs.lemmas.Str.{IsUtf8-drop, IsCharBoundary-after_ascii}
use Rattle.std.specs.Str.{IsUtf8}
use Rattle.sx_lex.specs.Tokens.{closes, is_quote, is_literal}
use Rattle.sx_parse.specs.Checks.{unquoted, literal_content}

-- no byte of a text is this quote
abbrev pub IsFree : ℕ → List ℕ → Type 0
IsFree q s = (i : ℕ) → i < length s → get_or s i 0 ≢ q

head_free : (q b : ℕ) (bs : List ℕ) → IsFree q (b ∷ bs) → eqb b q ≡ false
head_free q b bs free = ne_eqb b q (free 0 (omega arith))

tail_free : (q b : ℕ) (bs : List ℕ) → IsFree q (b ∷ bs) → IsFree q bs
tail_free q b bs free = λ i h. free (suc i) (omega arith)

pub closes_none : (q : ℕ) (s : List ℕ) → IsFree q s → closes q s ≡ false
closes_none q [] free = refl
closes_none q (c ∷ []) free = head_free q c [] free
closes_none q (c ∷ d ∷ r) free =
    ap (λ (v : Bool). cond v (eqb d q && closes q r) (closes q (d ∷ r))) (head_free q c (d ∷ r) free) ∙ closes_none q (d ∷ r) (tail_free q c (d ∷ r) free)

closes_over : (q : ℕ) (front back : List ℕ) → IsFree q front → closes q (front ++ q ∷ back) ≡ closes q (q ∷ back)
closes_over q [] back free = refl
closes_over q (c ∷ []) back free = ap (λ (v : Bool). cond v (eqb q q && closes q back) (closes q (q ∷ back))) (head_free q c [] free)
closes_over q (c ∷ d ∷ f) back free =
    ap (λ (v : Bool). cond v (eqb d q && closes q (f ++ q ∷ back)) (closes q (d ∷ f ++ q ∷ back))) (head_free q c (d ∷ f) free)
    ∙ closes_over q (d ∷ f) back (tail_free q c (d ∷ f) free)

unquoted_over : (q : ℕ) (front back : List ℕ) → IsFree q front → unquoted q (front ++ q ∷ back) ≡ front ++ unquoted q (q ∷ back)
unquoted_over q [] back free = refl
unquoted_over q (c ∷ []) back free = ap (λ (v : Bool). cond v (c ∷ unquoted q back) (c ∷ unquoted q (q ∷ back))) (head_free q c [] free)
unquoted_over q (c ∷ d ∷ f) back free =
    ap (λ (v : Bool). cond v (c ∷ unquoted q (f ++ q ∷ back)) (c ∷ unquoted q (d ∷ f ++ q ∷ back))) (head_free q c (d ∷ f) free)
    ∙ ap (λ (s : List ℕ). c ∷ s) (unquoted_over q (d ∷ f) back (tail_free q c (d ∷ f) free))

itself : (q : ℕ) → eqb q q ≡ true
itself q = grind (arith, nat_tests)

-- behind a quote of a literal stands another, or nothing
behind_quote : (q d : ℕ) (r : List ℕ) → closes q (q ∷ d ∷ r) ≡ true → (d ≡ q) × (closes q r ≡ true)
behind_quote q d r closed =
    let parts = and_parts (eqb d q) (closes q r) (sym (ap (λ (v : Bool). cond v (eqb d q && closes q r) (closes q (d ∷ r))) (itself q)) ∙ closed) in
    (eqb-true d q parts.0, parts.1)

last_quote : (q : ℕ) (back : List ℕ) → closes q (q ∷ back) ≡ true → ((r : List ℕ) → back ≢ q ∷ r) → unquoted q (q ∷ back) ≡ []
last_quote q [] closed last = refl
last_quote q (d ∷ r) closed last = absurd (last r (ap (λ (b : ℕ). b ∷ r) (behind_quote q d r closed).0))

module _ (q : ℕ) (text rest front back out pushed : List ℕ) (cut : rest ≡ front ++ q ∷ back) (free : IsFree q front) (closed : closes q rest ≡ true)
    (so_far : out ++ unquoted q rest ≡ unquoted q text) (push : pushed ≡ out ++ front) where
  here : closes q (q ∷ back) ≡ true
  here = sym (closes_over q front back free) ∙ sym (ap (closes q) cut) ∙ closed

  now : pushed ++ unquoted q (q ∷ back) ≡ unquoted q text
  now =
      ap (λ (s : List ℕ). s ++ unquoted q (q ∷ back)) push
      ∙ append_assoc out front (unquoted q (q ∷ back))
      ∙ ap (λ (s : List ℕ). out ++ s) (sym (unquoted_over q front back free) ∙ sym (ap (unquoted q) cut))
      ∙ so_far

  pub quotes_end : ((r : List ℕ) → back ≢ q ∷ r) → pushed ≡ unquoted q text
  quotes_end last = sym (append-nil pushed) ∙ ap (λ (s : List ℕ). pushed ++ s) (sym (last_quote q back here last)) ∙ now

  pub quotes_go_on : (after more : List ℕ) → back ≡ q ∷ after → more ≡ pushed ++ q ∷ [] → (closes q after ≡ true) × (more ++ unquoted q after ≡ unquoted q text)
  quotes_go_on after more doubled one = (
    (behind_quote q q after (sym (ap (λ (s : List ℕ). closes q (q ∷ s)) doubled) ∙ here)).1,
    ap (λ (s : List ℕ). s ++ unquoted q after) one
        ∙ append_assoc pushed (q ∷ []) (unquoted q after)
        ∙ ap (λ (s : List ℕ). pushed ++ s) (sym (ap (λ (s : List ℕ). unquoted q (q ∷ s)) doubled ∙ ap (λ (v : Bool). cond v (q ∷ unquoted q after) (q ∷ unquoted q (q ∷ after))) (itself q)))
        ∙ now,
  )

quote_at : (q : ℕ) (front back : List ℕ) → get_or (front ++ q ∷ back) (length front) 0 ≡ q
quote_at q [] back = refl
quote_at q (c ∷ front) back = quote_at q front back

behind_at : (q : ℕ) (front back : List ℕ) → drop (length front + 1) (front ++ q ∷ back) ≡ back
behind_at q [] back = refl
behind_at q (c ∷ front) back =
    ap (λ (n : ℕ). drop n (c ∷ front ++ q ∷ back)) (let e : suc (length front) + 1 ≡ suc (length front + 1) = omega arith in e) ∙ behind_at q front back

-- what stands behind ASCII is text
pub utf8_behind : (q : ℕ) (front back : List ℕ) → q < 128 → IsUtf8 (front ++ q ∷ back) → IsUtf8 back
utf8_behind q front back ascii text =
    let s : List ℕ = front ++ q ∷ back in
    let size : length s ≡ length front + suc (length back) = length-append front (q ∷ back) in
    let low : get_or s (length front) 0 < 128 = omega (arith, quote_at q front back) in
    subst (λ (t : List ℕ). IsUtf8 t) (behind_at q front back) (IsUtf8-drop s (length front + 1) text (IsCharBoundary-after_ascii s (length front) text (omega arith) low))

quote_low : (b : ℕ) → is_quote b ≡ true → b < 128
quote_low b quote = grind (arith, nat_tests)

-- the parts of a literal in quotes
pub record HasQuotes (text : List ℕ) : Type 0 where
  pub some : 0 < length text
  pub ascii : get_or text 0 0 < 128
  pub closed : closes (get_or text 0 0) (drop 1 text) ≡ true
  pub is : literal_content text ≡ unquoted (get_or text 0 0) (drop 1 text)

pub has_quotes : (text : List ℕ) → is_literal text ≡ true → HasQuotes text
has_quotes [] literal = absurd (false≢true literal)
has_quotes (quote ∷ rest) literal =
    let parts = and_parts (is_quote quote) (closes quote rest) literal in record {
      some = omega arith;
      ascii = quote_low quote parts.0;
      closed = parts.1;
      is = refl;
    }
