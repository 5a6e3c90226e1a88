-- Literals, by the quotes in a text.
use Rattle.std.proofs.Common.{◌≡◌, ◌≢◌, ℕ, zero, suc, ◌+◌, ◌-◌, ◌<◌, ◌≤◌, Bool, true, false, ◌&&◌, cond, eqb, List, [], ◌∷◌, length, take, drop, get_or, Some, refl, ap, sym, subst, ◌∙◌, arith, length-drop, get_or-drop, get_or-take, zero-add}
use Rattle.std.proofs.lemmas.Bool.{eq-eqb, ne_eqb, false≢true}
use Rattle.std.proofs.lemmas.Bool.Decides.{nat_tests}
use Rattle.std.proofs.lemmas.List.{drop_more, drop-drop}
use Rattle.std.specs.Char.{is_ascii_digit}
use Rattle.std.specs.Prelude.{is_some}
use Rattle.std.specs.Str.{IsUtf8}
use Rattle.sx_lex.specs.Fronts.{IsLongestFront, IsToken, IsQuoteFree, begins_name}
use Rattle.sx_lex.specs.Tokens.{closes, is_quote, is_point, is_literal, kind_of, NoToken}
use Rattle.sx_lex.specs.declared.kinds.TokenKind.TheVariants as kind
use Rattle.sx_lex.proofs.Firsts.{kind_by, kind_is, no_name, no_wild, no_integer, no_decimal}
use Rattle.sx_lex.proofs.Fronts.{boundary_behind}
use Rattle.sx_lex.proofs.Table.{no_mark_by}

closes_other : (q b : ℕ) (t : List ℕ) → eqb b q ≡ false → closes q (b ∷ t) ≡ closes q t
closes_other q b [] other = other
closes_other q b (d ∷ r) other = ap (λ (v : Bool). cond v (eqb d q && closes q r) (closes q (d ∷ r))) other

closes_doubled : (q : ℕ) (t : List ℕ) → closes q (q ∷ q ∷ t) ≡ closes q t
closes_doubled q t =
    ap (λ (v : Bool). cond v (eqb q q && closes q t) (closes q (q ∷ t))) (eq-eqb q q refl) ∙ ap (λ (v : Bool). v && closes q t) (eq-eqb q q refl)

closes_apart : (q d : ℕ) (t : List ℕ) → eqb d q ≡ false → closes q (q ∷ d ∷ t) ≡ false
closes_apart q d t other =
    ap (λ (v : Bool). cond v (eqb d q && closes q t) (closes q (d ∷ t))) (eq-eqb q q refl) ∙ ap (λ (v : Bool). v && closes q t) other

-- bytes that are no quote make no difference
skip : (q : ℕ) (r : List ℕ) (d k : ℕ) → d ≤ length r → ((at : ℕ) → at < d → get_or r at 0 ≢ q) → closes q (take (d + k) r) ≡ closes q (take k (drop d r))
skip q r zero k within free = ap (λ (n : ℕ). closes q (take n r)) (zero-add k)
skip q [] (suc d) k within free = absurd (omega arith)
skip q (b ∷ r) (suc d) k within free =
    ap (λ (n : ℕ). closes q (take n (b ∷ r))) (let e : suc d + k ≡ suc (d + k) = omega arith in e)
    ∙ closes_other q b (take (d + k) r) (ne_eqb b q (free 0 (omega arith)))
    ∙ skip q r d k (omega arith) (λ at below. free (suc at) (omega arith))

-- up to a place no literal has ended but the one that the size says, and from there on what is left decides
pub record IsInside (s : List ℕ) (q size place : ℕ) : Type 0 where
  pub order : size ≤ place
  pub within : place ≤ length s
  pub at_quote : place < length s → get_or s place 0 ≡ q
  pub ascii : 0 < size → get_or s (size - 1) 0 < 128
  pub is : 0 < size → is_literal (take size s) ≡ true
  pub none : (more : ℕ) → size < more → more ≤ place → is_literal (take more s) ≡ false
  pub same : (k : ℕ) → is_literal (take (place + k) s) ≡ closes q (take k (drop place s))

opened : (q : ℕ) (r : List ℕ) (k : ℕ) → is_quote q ≡ true → is_literal (take (suc k) (q ∷ r)) ≡ closes q (take k r)
opened q r k quote = ap (λ (v : Bool). v && closes q (take k r)) quote

begin_at : (q : ℕ) (r : List ℕ) (d : ℕ) → is_quote q ≡ true → IsQuoteFree q r d → IsInside (q ∷ r) q 0 (suc d)
begin_at q r d quote run = record {
  order = omega arith;
  within = let h = run.within in omega arith;
  at_quote = λ more. run.stops (omega arith);
  ascii = λ some. absurd (omega arith);
  is = λ some. absurd (omega arith);
  none = λ more some up. let e : more ≡ suc (more - 1 + 0) = omega arith in
      ap (λ (n : ℕ). is_literal (take n (q ∷ r))) e
      ∙ opened q r (more - 1 + 0) quote
      ∙ skip q r (more - 1) 0 (let h = run.within in omega arith) (λ at below. run.free at (omega arith));
  same = λ k. let e : suc d + k ≡ suc (d + k) = omega arith in
      ap (λ (n : ℕ). is_literal (take n (q ∷ r))) e ∙ opened q r (d + k) quote ∙ skip q r d k run.within run.free;
}

pub inside_begins : (s : List ℕ) (d : ℕ) → is_quote (get_or s 0 0) ≡ true → IsQuoteFree (get_or s 0 0) (drop 1 s) d → IsInside s (get_or s 0 0) 0 (1 + d)
inside_begins [] d quote run = absurd (false≢true quote)
inside_begins (q ∷ r) d quote run = subst (λ (n : ℕ). IsInside (q ∷ r) q 0 n) (omega arith) (begin_at q r d quote run)

two_more : (s : List ℕ) (place j : ℕ) → place + 1 < length s → take (suc (suc j)) (drop place s) ≡ get_or s place 0 ∷ get_or s (place + 1) 0 ∷ take j (drop (place + 2) s)
two_more s place j within =
    ap (take (suc (suc j))) (drop_more s place 0 (omega arith))
    ∙ ap (λ (t : List ℕ). get_or s place 0 ∷ take (suc j) t) (drop_more s (place + 1) 0 within)
    ∙ ap (λ (n : ℕ). get_or s place 0 ∷ get_or s (place + 1) 0 ∷ take j (drop n s)) (omega arith)

one_more : (s : List ℕ) (place : ℕ) → place < length s → take 1 (drop place s) ≡ get_or s place 0 ∷ []
one_more s place within = ap (take 1) (drop_more s place 0 within)

ends_here : (s : List ℕ) (q size place : ℕ) → IsInside s q size place → place < length s → is_literal (take (place + 1) s) ≡ true
ends_here s q size place inside within =
    inside.same 1 ∙ ap (closes q) (one_more s place within ∙ ap (λ (x : ℕ). x ∷ []) (inside.at_quote within)) ∙ eq-eqb q q refl

quote_low : (q : ℕ) → is_quote q ≡ true → q < 128
quote_low q quote = grind (arith, nat_tests)

quote_ascii : (s : List ℕ) (q size place : ℕ) → is_quote q ≡ true → IsInside s q size place → place < length s → get_or s (place + 1 - 1) 0 < 128
quote_ascii s q size place quote inside within =
    let low = quote_low q quote in
    let at = inside.at_quote within in
    let e : get_or s (place + 1 - 1) 0 ≡ get_or s place 0 = ap (λ (n : ℕ). get_or s n 0) (omega arith) in
    omega arith

-- a quote that is not doubled ends the literal
pub inside_ends : (s : List ℕ) (q size place : ℕ) → is_quote q ≡ true → IsInside s q size place → place < length s → (place + 1 < length s → get_or s (place + 1) 0 ≢ q) → IsLongestFront is_literal s (place + 1)
inside_ends s q size place quote inside within apart = record {
  within = omega arith;
  ascii = λ _. quote_ascii s q size place quote inside within;
  is = λ _. ends_here s q size place inside within;
  longest = λ more long up. let e : more ≡ place + suc (suc (more - place - 2)) = omega arith in
      ap (λ (n : ℕ). is_literal (take n s)) e
      ∙ inside.same (suc (suc (more - place - 2)))
      ∙ ap (closes q) (two_more s place (more - place - 2) (omega arith) ∙ ap (λ (x : ℕ). x ∷ get_or s (place + 1) 0 ∷ take (more - place - 2) (drop (place + 2) s)) (inside.at_quote within))
      ∙ closes_apart q (get_or s (place + 1) 0) (take (more - place - 2) (drop (place + 2) s)) (ne_eqb (get_or s (place + 1) 0) q (apart (omega arith)));
}

-- a doubled quote goes on the literal
doubled : (s : List ℕ) (q size place j : ℕ) → IsInside s q size place → place + 1 < length s → get_or s (place + 1) 0 ≡ q
    → is_literal (take (place + suc (suc j)) s) ≡ closes q (take j (drop (place + 2) s))
doubled s q size place j inside within second =
    inside.same (suc (suc j))
    ∙ ap (closes q) (
    two_more s place j within
    ∙ ap (λ (x : ℕ). x ∷ get_or s (place + 1) 0 ∷ take j (drop (place + 2) s)) (inside.at_quote (omega arith))
    ∙ ap (λ (x : ℕ). q ∷ x ∷ take j (drop (place + 2) s)) second
    )
    ∙ closes_doubled q (take j (drop (place + 2) s))

pub inside_goes_on : (s : List ℕ) (q size place d : ℕ) → is_quote q ≡ true → IsInside s q size place → place + 1 < length s → get_or s (place + 1) 0 ≡ q
    → IsQuoteFree q (drop (place + 1 + 1) s) d → IsInside s q (place + 1) (place + 1 + 1 + d)
inside_goes_on s q size place d quote inside within second found =
    let at : place + 1 + 1 ≡ place + 2 = omega arith in
    let run : IsQuoteFree q (drop (place + 2) s) d = subst (λ (n : ℕ). IsQuoteFree q (drop n s) d) at found in
    let room = length-drop (place + 2) s in
    let most = run.within in record {
      order = omega arith;
      within = omega arith;
      at_quote = λ more.
          ap (λ (n : ℕ). get_or s n 0) (let e : place + 1 + 1 + d ≡ place + 2 + d = omega arith in e) ∙ sym (get_or-drop (place + 2) s d 0) ∙ run.stops (omega arith);
      ascii = λ _. quote_ascii s q size place quote inside (omega arith);
      is = λ _. ends_here s q size place inside (omega arith);
      none = λ more long up. let e : more ≡ place + suc (suc (more - place - 2 + 0)) = omega arith in
          ap (λ (n : ℕ). is_literal (take n s)) e
          ∙ doubled s q size place (more - place - 2 + 0) inside within second
          ∙ skip q (drop (place + 2) s) (more - place - 2) 0 (omega arith) (λ at below. run.free at (omega arith));
      same = λ k. let e : place + 1 + 1 + d + k ≡ place + suc (suc (d + k)) = omega arith in
          ap (λ (n : ℕ). is_literal (take n s)) e
          ∙ doubled s q size place (d + k) inside within second
          ∙ skip q (drop (place + 2) s) d k run.within run.free
          ∙ ap (λ (t : List ℕ). closes q (take k t)) (drop-drop d (place + 2) s ∙ ap (λ (n : ℕ). drop n s) (omega arith));
    }

-- where the text ends, the literal has the size that the last of its quotes says
pub inside_at_end : (s : List ℕ) (q size place : ℕ) → IsInside s q size place → length s ≤ place → IsLongestFront is_literal s size
inside_at_end s q size place inside past =
    let order = inside.order in
    let within = inside.within in record {
      within = omega arith;
      ascii = inside.ascii;
      is = inside.is;
      longest = λ more long up. inside.none more long (omega arith);
    }

-- the kind of a text that begins with a quote
quote_kind : (s : List ℕ) (m : ℕ) (literal : Bool) → is_quote (get_or s 0 0) ≡ true → 0 < m → is_literal (take m s) ≡ literal → kind_of (take m s) ≡ kind_by false false false false literal false
quote_kind s m literal quote some is =
    let first = get_or-take m s 0 0 some in
    let begins : is_quote (get_or (take m s) 0 0) ≡ true = ap is_quote first ∙ quote in
    let name : begins_name (get_or (take m s) 0 0) ≡ false = no_name_byte (get_or (take m s) 0 0) begins in
    kind_is (take m s) false false false false literal false
    (no_name (take m s) name)
    (no_wild (take m s) name (λ star. absurd (no_star (get_or (take m s) 0 0) begins star)))
    (no_integer (take m s) (no_digit (get_or (take m s) 0 0) begins))
    (no_decimal (take m s) (no_digit (get_or (take m s) 0 0) begins) (no_point (get_or (take m s) 0 0) begins))
    is
    (no_mark_by is_quote refl (take m s) begins)
  where
    no_name_byte : (b : ℕ) → is_quote b ≡ true → begins_name b ≡ false
    no_name_byte b quote = grind (arith, nat_tests)

    no_star : (b : ℕ) → is_quote b ≡ true → b ≡ 42 → ⊥
    no_star b quote star = grind (arith, nat_tests)

    no_digit : (b : ℕ) → is_quote b ≡ true → is_ascii_digit b ≡ false
    no_digit b quote = grind (arith, nat_tests)

    no_point : (b : ℕ) → is_quote b ≡ true → is_point b ≡ false
    no_point b quote = grind (arith, nat_tests)

pub literal_none : (s : List ℕ) → is_quote (get_or s 0 0) ≡ true → IsLongestFront is_literal s 0 → NoToken s
literal_none s quote front = λ size some cut. quote_kind s size false quote some (front.longest size some cut.0)

pub literal_some : (s : List ℕ) (n : ℕ) → IsUtf8 s → is_quote (get_or s 0 0) ≡ true → 0 < n → IsLongestFront is_literal s n → IsToken s kind.Str n
literal_some s n text quote some front =
    let is : kind_of (take n s) ≡ Some kind.Str = quote_kind s n true quote some (front.is some) in record {
      longest = record {
        boundary = boundary_behind s n text front.within front.ascii;
        token = ap is_some is;
        longest = λ more long cut. quote_kind s more false quote (omega arith) (front.longest more long cut.0);
      };
      is = is;
    }
