-- A text has one reading.
use Rattle.std.proofs.Common.{◌≡◌, ℕ, ◌+◌, ◌-◌, ◌<◌, ◌≤◌, List, [], ◌∷◌, length, take, drop, refl, ap, sym, subst, ◌∙◌, inl, inr, arith, length-drop}
use Rattle.std.proofs.lemmas.Bool.{cases_lt, false≢true}
use Rattle.std.proofs.lemmas.List.{drop-drop}
use Rattle.std.proofs.lemmas.List.Sums.{prefix_len-le-length}
use Rattle.std.proofs.lemmas.Option.{none-some, same_Some}
use Rattle.std.proofs.lemmas.Str.{IsCharBoundary-from_rest, IsUtf8-drop}
use Rattle.std.specs.Str.{IsCharBoundary, IsUtf8}
use Rattle.std.specs.Prelude.{is_some}
use Rattle.sx_chars.specs.Names.{is_white_space}
use Rattle.sx_lex.specs.Laws.{AreCuts, AreSpans}
use Rattle.sx_lex.specs.Tokens.{white_len, kind_of, IsFirst, IsLongest, NoToken, AreTokens, BreaksBehind}
use Rattle.sx_lex.specs.declared.kinds.Token.{Token}
use Rattle.sx_lex.specs.declared.kinds.TokenKind.{TokenKind}
use Rattle.sx_lex.proofs.Fronts.{all_pass}
use Rattle.sx_lex.proofs.Readings.{no_bytes, white_boundary}

abbrev token_of : TokenKind → ℕ → ℕ → Token
token_of kind start end = record { kind = kind; start = start; end = end }

-- the longest token has one length
not_longer : (s : List ℕ) (n m : ℕ) → IsLongest s n → IsLongest s m → n < m → ⊥
not_longer s n m short long less = false≢true (sym (ap is_some (short.longest m less long.boundary)) ∙ long.token)

one_length : (s : List ℕ) (n m : ℕ) → IsLongest s n → IsLongest s m → n ≡ m
one_length s n m a b = elim (cases_lt n m) [
  | inl less ↦ absurd (not_longer s n m a b less)
  | inr most ↦ elim (cases_lt m n) [ inl less ↦ absurd (not_longer s m n b a less) | inr least ↦ omega arith ]
]

first_same : (place : ℕ) (s : List ℕ) (t u : Token) → IsFirst place s t → IsFirst place s u → t ≡ u
first_same place s t u a b =
    let begin : t.start ≡ u.start = let x = a.begins in let y = b.begins in omega arith in
    let size : t.end - t.start ≡ u.end - u.start = one_length (drop (white_len s) s) (t.end - t.start) (u.end - u.start) a.longest b.longest in
    let end : t.end ≡ u.end = let x = a.order in let y = b.order in omega arith in
    let kind : t.kind ≡ u.kind =
    same_Some t.kind u.kind (sym a.kind ∙ ap (λ (n : ℕ). kind_of (take n (drop (white_len s) s))) size ∙ b.kind) in
    ap (λ (k : TokenKind). token_of k t.start t.end) kind ∙ ap (λ (n : ℕ). token_of u.kind n t.end) begin ∙ ap (λ (n : ℕ). token_of u.kind u.start n) end

some_bytes : (place : ℕ) (s : List ℕ) (t : Token) → IsFirst place s t → 0 < t.end - t.start
some_bytes place s t first = elim (cases_lt 0 (t.end - t.start)) [
  | inl some ↦ some
  | inr none ↦
      absurd (none-some t.kind (sym no_bytes ∙ ap (λ (n : ℕ). kind_of (take n (drop (white_len s) s))) (let e : 0 ≡ t.end - t.start = omega arith in e) ∙ first.kind))
]

first_left : (place : ℕ) (s : List ℕ) (t : Token) → IsFirst place s t → white_len s < length s
first_left place s t first =
    let some = some_bytes place s t first in
    let within = first.longest.boundary.0 in
    omega (arith, within, some, length-drop (white_len s) s)

first_or_none : (place : ℕ) (s : List ℕ) (t : Token) → IsFirst place s t → NoToken (drop (white_len s) s) → ⊥
first_or_none place s t first none =
    none-some t.kind (sym (none (t.end - t.start) (some_bytes place s t first) first.longest.boundary) ∙ first.kind)

pub same_tokens : (ts us : List Token) (place : ℕ) (s : List ℕ) → AreTokens place s ts → AreTokens place s us → ts ≡ us
same_tokens [] [] place s a b = refl
same_tokens [] (u ∷ us) place s a b = absurd (let left = first_left place s u b.0 in omega (arith, a, left))
same_tokens (t ∷ ts) [] place s a b = absurd (let left = first_left place s t a.0 in omega (arith, b, left))
same_tokens (t ∷ ts) (u ∷ us) place s a b =
    let same = first_same place s t u a.0 b.0 in
    let rest = subst (λ (x : Token). AreTokens x.end (drop (x.end - place) s) us) (sym same) b.1 in
    ap (λ (x : Token). x ∷ ts) same ∙ ap (λ (xs : List Token). u ∷ xs) (same_tokens ts us t.end (drop (t.end - place) s) a.1 rest)

pub whole_or_broken : (ts us : List Token) (place : ℕ) (s : List ℕ) (offset : ℕ) → AreTokens place s ts → BreaksBehind place s us offset → ⊥
whole_or_broken [] [] place s offset a b = omega (arith, a, b.1)
whole_or_broken [] (u ∷ us) place s offset a b = let left = first_left place s u b.0 in omega (arith, a, left)
whole_or_broken (t ∷ ts) [] place s offset a b = first_or_none place s t a.0 b.2
whole_or_broken (t ∷ ts) (u ∷ us) place s offset a b =
    let same = first_same place s t u a.0 b.0 in
    whole_or_broken ts us t.end (drop (t.end - place) s) offset a.1 (subst (λ (x : Token). BreaksBehind x.end (drop (x.end - place) s) us offset) (sym same) b.1)

pub same_offset : (ts us : List Token) (place : ℕ) (s : List ℕ) (m n : ℕ) → BreaksBehind place s ts m → BreaksBehind place s us n → m ≡ n
same_offset [] [] place s m n a b = a.0 ∙ sym b.0
same_offset [] (u ∷ us) place s m n a b = absurd (first_or_none place s u b.0 a.2)
same_offset (t ∷ ts) [] place s m n a b = absurd (first_or_none place s t a.0 b.2)
same_offset (t ∷ ts) (u ∷ us) place s m n a b =
    let same = first_same place s t u a.0 b.0 in
    same_offset ts us t.end (drop (t.end - place) s) m n a.1 (subst (λ (x : Token). BreaksBehind x.end (drop (x.end - place) s) us n) (sym same) b.1)

-- the spans of tokens
pub are_spans : (ts : List Token) (place : ℕ) (text : List ℕ) → place ≤ length text → AreTokens place (drop place text) ts → AreSpans text place ts
are_spans [] place text within all = (within, all_pass is_white_space (drop place text) (length text - place) (omega (arith, all, length-drop place text)))
are_spans (t ∷ ts) place text within all =
    let first = all.0 in
    let some = some_bytes place (drop place text) t first in
    let begins = first.begins in
    let order = first.order in
    let white = white_len (drop place text) in
    let fits = first.longest.boundary.0 in
    let room = length-drop white (drop place text) in
    let rooms = length-drop place text in
    let most = prefix_len-le-length is_white_space (drop place text) in
    let end : t.end ≤ length text = omega (arith, fits, room, rooms, most, some, begins, order, first_left place (drop place text) t first) in
    let rest : drop (t.end - place) (drop place text) ≡ drop t.end text = drop-drop (t.end - place) place text ∙ ap (λ (n : ℕ). drop n text) (let e : place + (t.end - place) ≡ t.end = omega arith in e) in (
      omega arith,
      omega arith,
      end,
      all_pass is_white_space (drop place text) (t.start - place) (omega (arith, begins)),
      are_spans ts t.end text end (subst (λ (s : List ℕ). AreTokens t.end s ts) rest all.1),
    )

-- a text may be cut at both ends of its first token
pub are_cuts : (ts : List Token) (place : ℕ) (text : List ℕ) → IsUtf8 text → IsCharBoundary text place → AreTokens place (drop place text) ts → AreCuts text ts
are_cuts [] place text utf8 cut all = tt
are_cuts (t ∷ ts) place text utf8 cut all =
    let first = all.0 in
    let white = white_len (drop place text) in
    let begins = first.begins in
    let order = first.order in
    let start : IsCharBoundary text t.start =
    subst (λ (n : ℕ). IsCharBoundary text n) (sym begins) (IsCharBoundary-from_rest text place white cut.0 (white_boundary (drop place text) (IsUtf8-drop text place utf8 cut))) in
    let here : drop white (drop place text) ≡ drop t.start text = drop-drop white place text ∙ ap (λ (n : ℕ). drop n text) (sym begins) in
    let end : IsCharBoundary text t.end =
    subst (λ (n : ℕ). IsCharBoundary text n) (let e : t.start + (t.end - t.start) ≡ t.end = omega arith in e)
    (IsCharBoundary-from_rest text t.start (t.end - t.start) start.0 (subst (λ (s : List ℕ). IsCharBoundary s (t.end - t.start)) here first.longest.boundary)) in
    let rest : drop (t.end - place) (drop place text) ≡ drop t.end text = drop-drop (t.end - place) place text ∙ ap (λ (n : ℕ). drop n text) (let e : place + (t.end - place) ≡ t.end = omega arith in e) in
    (start, end, are_cuts ts t.end text utf8 end (subst (λ (s : List ℕ). AreTokens t.end s ts) rest all.1))
