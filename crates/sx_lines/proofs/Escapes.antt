-- An escaped text is that of one text only.
use Rattle.std.proofs.Common.{◌≡◌, ℕ, ◌+◌, ◌/◌, ◌%◌, ◌<◌, ◌≤◌, Bool, true, false, List, [], ◌∷◌, ◌++◌, length, Option, Some, None, IfNone, Result, Ok, Err, IfOk, refl, sym, ap, ◌∙◌, subst, true≢false, nat_eq, if◌then◌else◌, append_assoc, arith}
use Rattle.std.proofs.lemmas.List.{append-nil}
use Rattle.std.proofs.lemmas.Bool.Decides.{Decides-eqb, nat_tests}
use Rattle.std.specs.Str.{IsUtf8}
use Rattle.sx_lines.specs.Lines.{Lacks}
use Rattle.sx_lines.proofs.Lacking.{Lacks-append}
use Rattle.sx_lines.specs.Print.{octal, is_control, escaped, escape}

-- a control character has a number below 128
pub control_below : (b : ℕ) → is_control b ≡ true → b < 128
control_below b control = grind (arith, nat_tests)

-- a byte that is none has a number from 32 on
plain_above : (b : ℕ) → is_control b ≡ false → 32 ≤ b
plain_above b plain = grind (arith, nat_tests)

-- an escaped byte is a doubled backslash; or a backslash and n; or a backslash and three digits; or the byte itself
pub data Form (b : ℕ) (bytes : List ℕ) : Type 0 where
  a_backslash : b ≡ 92 → bytes ≡ 92 ∷ 92 ∷ [] → Form b bytes
  a_newline : b ≡ 10 → bytes ≡ 92 ∷ 110 ∷ [] → Form b bytes
  a_control : b < 128 → bytes ≡ 92 ∷ octal b → Form b bytes
  a_plain : ¬ (b ≡ 92) → 32 ≤ b → bytes ≡ b ∷ [] → Form b bytes

-- two numbers that differ
pub not_equal : (a b : ℕ) → nat_eq a b ≡ false → ¬ (a ≡ b)
not_equal a b e same = true≢false (sym ((Decides-eqb a b).1 same) ∙ e)

pub form_of : (b : ℕ) → Form b (escaped b)
form_of b = by_backslash (nat_eq b 92) refl
  where
    by_control : (t : Bool) → is_control b ≡ t → ¬ (b ≡ 92) → Form b (if t then 92 ∷ octal b else b ∷ [])
    by_control true e other = a_control (control_below b e) refl
    by_control false e other = a_plain other (plain_above b e) refl

    by_newline : (t : Bool) → nat_eq b 10 ≡ t → ¬ (b ≡ 92) → Form b (if t then 92 ∷ 110 ∷ [] else if is_control b then 92 ∷ octal b else b ∷ [])
    by_newline true e other = a_newline ((Decides-eqb b 10).0 e) refl
    by_newline false e other = by_control (is_control b) refl other

    by_backslash : (t : Bool) → nat_eq b 92 ≡ t → Form b (if t then 92 ∷ 92 ∷ [] else if nat_eq b 10 then 92 ∷ 110 ∷ [] else if is_control b then 92 ∷ octal b else b ∷ [])
    by_backslash true e = a_backslash ((Decides-eqb b 92).0 e) refl
    by_backslash false e = by_newline (nat_eq b 10) refl (not_equal b 92 e)

same_octal : (b c : ℕ) → b < 128 → c < 128 → 48 + b / 64 ≡ 48 + c / 64 → 48 + b / 8 % 8 ≡ 48 + c / 8 % 8 → 48 + b % 8 ≡ 48 + c % 8 → b ≡ c
same_octal b c bs cs first second third = omega arith

module _ (b c : ℕ) (x y : List ℕ) where
  alike : (p q : List ℕ) → Form b p → Form c q → p ++ x ≡ q ++ y → (b ≡ c) × (x ≡ y)
  alike p q (a_backslash m u) (a_backslash n v) e = let f : 92 ∷ 92 ∷ x ≡ 92 ∷ 92 ∷ y = cc in (cc, cc)
  alike p q (a_backslash m u) (a_newline n v) e = let f : 92 ∷ 92 ∷ x ≡ 92 ∷ 110 ∷ y = cc in let g : 92 ≡ 110 = cc in absurd (not_equal 92 110 refl g)
  alike p q (a_backslash m u) (a_control n v) e = let f : 92 ∷ 92 ∷ x ≡ 92 ∷ octal c ++ y = cc in let g : 92 ≡ 48 + c / 64 = cc in absurd (omega arith)
  alike p q (a_backslash m u) (a_plain n k v) e = let f : 92 ∷ 92 ∷ x ≡ c ∷ y = cc in absurd (n (cc))
  alike p q (a_newline m u) (a_backslash n v) e = let f : 92 ∷ 110 ∷ x ≡ 92 ∷ 92 ∷ y = cc in let g : 110 ≡ 92 = cc in absurd (not_equal 110 92 refl g)
  alike p q (a_newline m u) (a_newline n v) e = let f : 92 ∷ 110 ∷ x ≡ 92 ∷ 110 ∷ y = cc in (cc, cc)
  alike p q (a_newline m u) (a_control n v) e = let f : 92 ∷ 110 ∷ x ≡ 92 ∷ octal c ++ y = cc in let g : 110 ≡ 48 + c / 64 = cc in absurd (omega arith)
  alike p q (a_newline m u) (a_plain n k v) e = let f : 92 ∷ 110 ∷ x ≡ c ∷ y = cc in absurd (n (cc))
  alike p q (a_control m u) (a_backslash n v) e = let f : 92 ∷ octal b ++ x ≡ 92 ∷ 92 ∷ y = cc in let g : 48 + b / 64 ≡ 92 = cc in absurd (omega arith)
  alike p q (a_control m u) (a_newline n v) e = let f : 92 ∷ octal b ++ x ≡ 92 ∷ 110 ∷ y = cc in let g : 48 + b / 64 ≡ 110 = cc in absurd (omega arith)
  alike p q (a_control m u) (a_control n v) e = let f : 92 ∷ octal b ++ x ≡ 92 ∷ octal c ++ y = cc in (same_octal b c m n (cc) (cc) (cc), cc)
  alike p q (a_control m u) (a_plain n k v) e = let f : 92 ∷ octal b ++ x ≡ c ∷ y = cc in absurd (n (cc))
  alike p q (a_plain m k u) (a_backslash n v) e = let f : b ∷ x ≡ 92 ∷ 92 ∷ y = cc in absurd (m (cc))
  alike p q (a_plain m k u) (a_newline n v) e = let f : b ∷ x ≡ 92 ∷ 110 ∷ y = cc in absurd (m (cc))
  alike p q (a_plain m k u) (a_control n v) e = let f : b ∷ x ≡ 92 ∷ octal c ++ y = cc in absurd (m (cc))
  alike p q (a_plain m k u) (a_plain n l v) e = let f : b ∷ x ≡ c ∷ y = cc in (cc, cc)

  -- two bytes that are escaped in front of the same bytes are one
  pub same_escaped : escaped b ++ x ≡ escaped c ++ y → (b ≡ c) × (x ≡ y)
  same_escaped e = alike (escaped b) (escaped c) (form_of b) (form_of c) e

pub escape-append : (xs ys : List ℕ) → escape (xs ++ ys) ≡ escape xs ++ escape ys
escape-append [] ys = refl
escape-append (x ∷ xs) ys = ap (λ bs. escaped x ++ bs) (escape-append xs ys) ∙ sym (append_assoc (escaped x) (escape xs) (escape ys))

-- an escaped byte is not nothing
some_escaped : (b : ℕ) (p x : List ℕ) → Form b p → ¬ ([] ≡ p ++ x)
some_escaped b p x (a_backslash m u) e = let f : [] ≡ 92 ∷ 92 ∷ x = cc in cc
some_escaped b p x (a_newline m u) e = let f : [] ≡ 92 ∷ 110 ∷ x = cc in cc
some_escaped b p x (a_control m u) e = let f : [] ≡ 92 ∷ octal b ++ x = cc in cc
some_escaped b p x (a_plain m k u) e = let f : [] ≡ b ∷ x = cc in cc

pub escaped_some : (b : ℕ) (x : List ℕ) → ¬ ([] ≡ escaped b ++ x)
escaped_some b x = some_escaped b (escaped b) x (form_of b)

-- what begins with an escaped text is that of a text that begins so
pub escape_split : (front whole rest : List ℕ) → escape whole ≡ escape front ++ rest → (back : List ℕ) × (whole ≡ front ++ back) × (escape back ≡ rest)
escape_split [] whole rest e = (whole, refl, e)
escape_split (b ∷ front) [] rest e = absurd (escaped_some b (escape front ++ rest) (e ∙ append_assoc (escaped b) (escape front) rest))
escape_split (b ∷ front) (c ∷ whole) rest e =
    let same = same_escaped c b (escape whole) (escape front ++ rest) (e ∙ append_assoc (escaped b) (escape front) rest) in
    let back = escape_split front whole rest same.1 in
    (back.0, ap (λ x. x ∷ whole) same.0 ∙ ap (λ l. b ∷ l) back.1, back.2)

pub escape_nothing : (s : List ℕ) → escape s ≡ [] → s ≡ []
escape_nothing [] e = refl
escape_nothing (b ∷ s) e = absurd (escaped_some b (escape s) (sym e))

-- so two texts that are escaped alike are one
pub same_escape : (s t : List ℕ) → escape s ≡ escape t → s ≡ t
same_escape s t e =
    let back = escape_split t s [] (e ∙ sym (append-nil (escape t))) in
    back.1 ∙ ap (λ l. t ++ l) (escape_nothing back.0 back.2) ∙ append-nil t

-- one byte more of an escaped text
pub longer_text : (out : List ℕ) (b : ℕ) (behind rest : List ℕ) → escaped b ++ behind ≡ rest → escape (out ++ b ∷ []) ++ behind ≡ escape out ++ rest
longer_text out b behind rest e =
    ap (λ l. l ++ behind) (escape-append out (b ∷ []) ∙ ap (λ l. escape out ++ l) (append-nil (escaped b)))
    ∙ append_assoc (escape out) (escaped b) behind ∙ ap (λ l. escape out ++ l) e

-- where no byte is escaped so, no text is
pub no_more_text : (out s rest : List ℕ) → 0 < length rest → ((b : ℕ) (bs : List ℕ) → ¬ (escaped b ++ bs ≡ rest)) → ¬ (escape s ≡ escape out ++ rest)
no_more_text out s rest some none e = let split = escape_split out s rest e in none_begins split.0 rest some none split.2
  where
    none_begins : (t rest : List ℕ) → 0 < length rest → ((b : ℕ) (bs : List ℕ) → ¬ (escaped b ++ bs ≡ rest)) → ¬ (escape t ≡ rest)
    none_begins [] rest some none e = absurd (omega (arith, ap length e))
    none_begins (b ∷ t) rest some none e = none b (escape t) e

-- an escaped byte holds no newline
escaped_lacks : (b : ℕ) (p : List ℕ) → Form b p → Lacks 10 p
escaped_lacks b p (a_backslash m u) = rw u (not_equal 92 10 refl, (not_equal 92 10 refl, tt))
escaped_lacks b p (a_newline m u) = rw u (not_equal 92 10 refl, (not_equal 110 10 refl, tt))
escaped_lacks b p (a_control m u) = rw u (not_equal 92 10 refl, (λ e. absurd (omega (arith, e)), (λ e. absurd (omega (arith, e)), (λ e. absurd (omega (arith, e)), tt))))
escaped_lacks b p (a_plain m k u) = rw u (λ e. absurd (omega (arith, e, k)), tt)

pub escape_lacks : (s : List ℕ) → Lacks 10 (escape s)
escape_lacks [] = tt
escape_lacks (b ∷ s) = Lacks-append 10 (escaped b) (escape s) (escaped_lacks b (escaped b) (form_of b)) (escape_lacks s)

-- where bytes are no text, no text is escaped as they are
pub read_none : {T E : Type 0} (r : Result (Option T) E) (out bytes : List ℕ) → escape out ≡ bytes → IfOk r (λ answer. IfNone answer (¬ (IsUtf8 out)))
    → IfOk r (λ answer. IfNone answer ((text : List ℕ) → IsUtf8 text → ¬ (escape text ≡ bytes)))
read_none (Ok (Some text)) out bytes is none = tt
read_none (Ok None) out bytes is none = λ text utf8 e. none (subst IsUtf8 (same_escape text out (e ∙ sym is)) utf8)
read_none (Err e) out bytes is none = tt
