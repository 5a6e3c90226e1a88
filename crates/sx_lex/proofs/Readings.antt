-- Tokens one behind the other.
use Rattle.std.proofs.Common.{◌≡◌, ℕ, ◌+◌, ◌-◌, ◌<◌, ◌≤◌, true, List, [], ◌∷◌, ◌++◌, length, take, drop, get_or, None, refl, ap, sym, subst, ◌∙◌, inl, inr, arith, length-drop, append_assoc, append-nil}
use Rattle.std.proofs.lemmas.Bool.{cases_lt}
use Rattle.std.proofs.lemmas.Bool.Decides.{nat_tests}
use Rattle.std.proofs.lemmas.List.{drop-drop, drop_all}
use Rattle.std.proofs.lemmas.List.Sums.{prefix_len-le-length, prefix_len_passes, prefix_len_stops, prefix_len-drop_no, prefix_len-drop_all}
use Rattle.std.proofs.lemmas.Option.{none-some}
use Rattle.std.proofs.lemmas.Str.{IsCharBoundary-from_rest}
use Rattle.std.specs.Str.{IsCharBoundary, IsUtf8, chars}
use Rattle.sx_chars.specs.Names.{is_white_space}
use Rattle.sx_lex.specs.Fronts.{IsToken}
use Rattle.sx_lex.specs.Tokens.{white_len, is_mark, kind_of, IsFirst, IsLongest, NoToken, AreTokens, BreaksBehind, BreaksAt}
use Rattle.sx_lex.specs.declared.kinds.Token.{Token}
use Rattle.sx_lex.specs.declared.kinds.TokenKind.{TokenKind}
use Rattle.sx_lex.proofs.Fronts.{boundary_behind}

-- no white space stands in front behind all of it
white_again : (s : List ℕ) → white_len (drop (white_len s) s) ≡ 0
white_again s = elim (cases_lt (white_len s) (length s)) [
  | inl more ↦ prefix_len-drop_no is_white_space s (white_len s) 0 more (prefix_len_stops is_white_space s 0 more)
  | inr all ↦ prefix_len-drop_all is_white_space s (white_len s) all
]

white_low : (b : ℕ) → is_white_space b ≡ true → b < 128
white_low b white = grind (arith, nat_tests)

-- a text may be cut behind white space
pub white_boundary : (s : List ℕ) → IsUtf8 s → IsCharBoundary s (white_len s)
white_boundary s text =
    boundary_behind s (white_len s) text (prefix_len-le-length is_white_space s) (λ some.
    white_low (get_or s (white_len s - 1) 0) (prefix_len_passes is_white_space s (white_len s - 1) 0 (omega arith)))

-- what is read behind the white space is read from there
module _ (place w : ℕ) (s : List ℕ) (white : w ≡ white_len s) where
  first_behind : (token : Token) → IsFirst (place + w) (drop w s) token → IsFirst place s token
  first_behind token first =
      let again : white_len (drop w s) ≡ 0 = ap (λ (n : ℕ). white_len (drop n s)) white ∙ white_again s in
      let same : drop (white_len (drop w s)) (drop w s) ≡ drop (white_len s) s =
      ap (λ (n : ℕ). drop n (drop w s)) again ∙ ap (λ (n : ℕ). drop n s) white in
      let begins = first.begins in record {
        begins = omega arith;
        order = first.order;
        longest = subst (λ (t : List ℕ). IsLongest t (token.end - token.start)) same first.longest;
        kind = ap (λ (t : List ℕ). kind_of (take (token.end - token.start) t)) (sym same) ∙ first.kind;
      }

  rest_behind : (token : Token) → IsFirst (place + w) (drop w s) token → drop (token.end - (place + w)) (drop w s) ≡ drop (token.end - place) s
  rest_behind token first =
      let begins = first.begins in
      let order = first.order in
      drop-drop (token.end - (place + w)) w s ∙ ap (λ (n : ℕ). drop n s) (omega arith)

  pub tokens_behind : (ts : List Token) → AreTokens (place + w) (drop w s) ts → AreTokens place s ts
  tokens_behind [] all =
      let again : white_len (drop w s) ≡ 0 = ap (λ (n : ℕ). white_len (drop n s)) white ∙ white_again s in
      let most = prefix_len-le-length is_white_space s in
      omega (arith, all, again, length-drop w s)
  tokens_behind (t ∷ ts) all =
      (first_behind t all.0, subst (λ (r : List ℕ). AreTokens t.end r ts) (rest_behind t all.0) all.1)

  pub breaks_behind : (ts : List Token) (offset : ℕ) → BreaksBehind (place + w) (drop w s) ts offset → BreaksBehind place s ts offset
  breaks_behind [] offset broken =
      let again : white_len (drop w s) ≡ 0 = ap (λ (n : ℕ). white_len (drop n s)) white ∙ white_again s in
      let same : drop (white_len (drop w s)) (drop w s) ≡ drop (white_len s) s =
      ap (λ (n : ℕ). drop n (drop w s)) again ∙ ap (λ (n : ℕ). drop n s) white in (
        omega (arith, broken.0),
        omega (arith, broken.1, length-drop w s),
        subst NoToken same broken.2,
      )
  breaks_behind (t ∷ ts) offset broken =
      (first_behind t broken.0, subst (λ (r : List ℕ). BreaksBehind t.end r ts offset) (rest_behind t broken.0) broken.1)

-- these tokens have been read up to a place: others from there on, or a fault, are those of the whole text
pub record IsReadTo (s : List ℕ) (found : List Token) (place : ℕ) : Type 0 where
  pub boundary : IsCharBoundary s place
  pub bare : white_len (drop place s) ≡ 0
  pub tokens : (ts : List Token) → AreTokens place (drop place s) ts → AreTokens 0 s (found ++ ts)
  pub breaks : (ts : List Token) (offset : ℕ) → BreaksBehind place (drop place s) ts offset → BreaksBehind 0 s (found ++ ts) offset

pub read_begins : (s : List ℕ) (w : ℕ) → IsUtf8 s → w ≡ white_len s → IsReadTo s [] w
read_begins s w text white = record {
  boundary = subst (λ (n : ℕ). IsCharBoundary s n) (sym white) (white_boundary s text);
  bare = ap (λ (n : ℕ). white_len (drop n s)) white ∙ white_again s;
  tokens = λ ts all. tokens_behind 0 w s white ts (subst (λ (n : ℕ). AreTokens n (drop w s) ts) (omega arith) all);
  breaks = λ ts offset broken. breaks_behind 0 w s white ts offset (subst (λ (n : ℕ). BreaksBehind n (drop w s) ts offset) (omega arith) broken);
}

-- a token at the place
next_first : (s : List ℕ) (found : List Token) (place size : ℕ) (kind : TokenKind) → IsReadTo s found place → IsToken (drop place s) kind size
    → IsFirst place (drop place s) (record { kind = kind; start = place; end = place + size })
next_first s found place size kind read token =
    let bare = read.bare in
    let here : drop (white_len (drop place s)) (drop place s) ≡ drop place s = ap (λ (n : ℕ). drop n (drop place s)) bare in
    let span : place + size - place ≡ size = omega arith in record {
      begins = omega arith;
      order = omega arith;
      longest = subst (λ (n : ℕ). IsLongest (drop (white_len (drop place s)) (drop place s)) n) (sym span) (subst (λ (t : List ℕ). IsLongest t size) (sym here) token.longest);
      kind = ap (λ (n : ℕ). kind_of (take n (drop (white_len (drop place s)) (drop place s)))) span ∙ ap (λ (t : List ℕ). kind_of (take size t)) here ∙ token.is;
    }

pub read_goes_on : (s : List ℕ) (found : List Token) (place size w : ℕ) (kind : TokenKind) → IsUtf8 (drop (place + size) s) → IsCharBoundary s (place + size) → IsReadTo s found place → IsToken (drop place s) kind size
    → w ≡ white_len (drop (place + size) s) → IsReadTo s (found ++ record { kind = kind; start = place; end = place + size } ∷ []) (place + size + w)
read_goes_on s found place size w kind text cut read token white =
    let one : Token = record { kind = kind; start = place; end = place + size } in
    let first = next_first s found place size kind read token in
    let rest : drop (place + size - place) (drop place s) ≡ drop (place + size) s = drop-drop (place + size - place) place s ∙ ap (λ (n : ℕ). drop n s) (omega arith) in
    let after : drop w (drop (place + size) s) ≡ drop (place + size + w) s = drop-drop w (place + size) s in
    let inner = white_boundary (drop (place + size) s) text in record {
      boundary = IsCharBoundary-from_rest s (place + size) w cut.0 (subst (λ (n : ℕ). IsCharBoundary (drop (place + size) s) n) (sym white) inner);
      bare = ap white_len (sym after) ∙ ap (λ (n : ℕ). white_len (drop n (drop (place + size) s))) white ∙ white_again (drop (place + size) s);
      tokens = λ ts all.
          let behind = tokens_behind (place + size) w (drop (place + size) s) white ts (subst (λ (t : List ℕ). AreTokens (place + size + w) t ts) (sym after) all) in
          subst (λ (us : List Token). AreTokens 0 s us) (sym (append_assoc found (one ∷ []) ts))
          (read.tokens (one ∷ ts) (first, subst (λ (t : List ℕ). AreTokens (place + size) t ts) (sym rest) behind));
      breaks = λ ts offset broken.
          let behind = breaks_behind (place + size) w (drop (place + size) s) white ts offset (subst (λ (t : List ℕ). BreaksBehind (place + size + w) t ts offset) (sym after) broken) in
          subst (λ (us : List Token). BreaksBehind 0 s us offset) (sym (append_assoc found (one ∷ []) ts))
          (read.breaks (one ∷ ts) offset (first, subst (λ (t : List ℕ). BreaksBehind (place + size) t ts offset) (sym rest) behind));
    }

-- nothing is left
pub read_ends : (s : List ℕ) (found : List Token) (place : ℕ) → IsReadTo s found place → length s ≤ place → AreTokens 0 s found
read_ends s found place read past =
    let none : drop place s ≡ [] = drop_all place s past in
    subst (λ (us : List Token). AreTokens 0 s us) (append-nil found) (read.tokens [] (ap white_len none ∙ ap length (sym none)))

-- no token begins
pub read_breaks : (s : List ℕ) (found : List Token) (place : ℕ) → IsReadTo s found place → place < length s → NoToken (drop place s) → BreaksAt 0 s place
read_breaks s found place read more none =
    let bare = read.bare in
    let here : drop (white_len (drop place s)) (drop place s) ≡ drop place s = ap (λ (n : ℕ). drop n (drop place s)) bare in
    (found ++ [], read.breaks [] place (omega arith, omega (arith, length-drop place s), subst NoToken (sym here) none))

-- a token has a byte
pub no_bytes : kind_of [] ≡ None
unfolding kind_of is_mark chars
no_bytes = refl

pub token_size : (s : List ℕ) (kind : TokenKind) (n : ℕ) → IsToken s kind n → 0 < n
token_size s kind n token = elim (cases_lt 0 n) [
  | inl some ↦ some
  | inr none ↦ absurd (none-some kind (sym no_bytes ∙ ap (λ (k : ℕ). kind_of (take k s)) (let e : 0 ≡ n = omega arith in e) ∙ token.is))
]
