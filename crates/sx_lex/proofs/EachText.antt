-- Each text has tokens up to its end, or up to an offset at which none begins.
use Rattle.std.proofs.Common.{◌≡◌, ℕ, zero, suc, ◌+◌, ◌-◌, ◌<◌, ◌≤◌, ◌⊎◌, List, [], ◌∷◌, length, take, drop, slice_index, Option, Some, None, refl, ap, subst, inl, inr, arith, length-drop}
use Rattle.std.proofs.lemmas.Bool.{cases_lt}
use Rattle.std.proofs.lemmas.List.Sums.{prefix_len-le-length}
use Rattle.std.specs.Prelude.{is_some}
use Rattle.std.specs.Str.{IsCharBoundary}
use Rattle.sx_chars.specs.Names.{is_white_space}
use Rattle.sx_lex.specs.Tokens.{white_len, kind_of, IsFirst, IsLongest, NoToken, AreTokens, BreaksAt}
use Rattle.sx_lex.specs.declared.kinds.Token.{Token}
use Rattle.sx_lex.specs.declared.kinds.TokenKind.{TokenKind}

-- ---- the longest token at the front

-- text may be cut at a place, or not
cut_or_not : (bytes : List ℕ) (i : ℕ) → i ≤ length bytes → IsCharBoundary bytes i ⊎ (IsCharBoundary bytes i → ⊥)
cut_or_not bytes i within = elim (cases_lt i (length bytes)) [
  | inr past ↦ inl (within, λ less. absurd (omega (arith, less, past)))
  | inl less ↦ elim (cases_lt (slice_index bytes i) 128) [
    | inl ascii ↦ inl (within, λ _ high. absurd (omega (arith, ascii, high)))
    | inr high ↦ elim (cases_lt (slice_index bytes i) 192) [
      | inl inside ↦ inr (λ cut. let first = cut.1 less high in omega (arith, inside, first))
      | inr first ↦ inl (within, λ _ _. first)
    ]
  ]
]

-- the longest token at the front of a text, and its kind
record HasFront (text : List ℕ) : Type 0 where
  pub size : ℕ
  pub kind : TokenKind
  pub some : 0 < size
  pub longest : IsLongest text size
  pub is : kind_of (take size text) ≡ Some kind

-- no front of more bytes than these is a token
abbrev NoneLonger : List ℕ → ℕ → Type 0
NoneLonger text n = (more : ℕ) → n < more → IsCharBoundary text more → kind_of (take more text) ≡ None

-- nor is the one of so many
one_fewer : (text : List ℕ) (n : ℕ) → NoneLonger text (suc n) → (IsCharBoundary text (suc n) → kind_of (take (suc n) text) ≡ None) → NoneLonger text n
one_fewer text n above here more less cut = elim (cases_lt (suc n) more) [
  | inl beyond ↦ above more beyond cut
  | inr most ↦
      let same : suc n ≡ more = omega (arith, less, most) in
      subst (λ (k : ℕ). IsCharBoundary text k → kind_of (take k text) ≡ None) same here cut
]

front_here : (text : List ℕ) (n : ℕ) (o : Option TokenKind) → kind_of (take (suc n) text) ≡ o → NoneLonger text (suc n) → IsCharBoundary text (suc n) →
    HasFront text ⊎ (kind_of (take (suc n) text) ≡ None)
front_here text n None e above cut = inr e
front_here text n (Some kind) e above cut =
    inl (record { size = suc n; kind = kind; some = omega arith; longest = record { boundary = cut; token = ap is_some e; longest = above }; is = e })

front_from : (text : List ℕ) (n : ℕ) → n ≤ length text → NoneLonger text n → HasFront text ⊎ NoToken text
front_from text zero within above = inr above
front_from text (suc n) within above = elim (cut_or_not text (suc n) within) [
  | inr never ↦ front_from text n (omega (arith, within)) (one_fewer text n above (λ cut. absurd (never cut)))
  | inl cut ↦ elim (front_here text n (kind_of (take (suc n) text)) refl above cut) [
    | inl found ↦ inl found
    | inr none ↦ front_from text n (omega (arith, within)) (one_fewer text n above (λ _. none))
  ]
]

front_or_none : (text : List ℕ) → HasFront text ⊎ NoToken text
front_or_none text = front_from text (length text) (omega arith) (λ more less cut. let within = cut.0 in absurd (omega (arith, less, within)))

-- ---- the tokens

abbrev token_of : TokenKind → ℕ → ℕ → Token
token_of kind start end = record { kind = kind; start = start; end = end }

-- a text that stands at a place has tokens to its end, or to an offset at which none begins
abbrev HasTokens : ℕ → List ℕ → Type 0
HasTokens place text = ((ts : List Token) × AreTokens place text ts) ⊎ ((offset : ℕ) × BreaksAt place text offset)

first_is : (place : ℕ) (text : List ℕ) (front : HasFront (drop (white_len text) text)) →
    IsFirst place text (token_of front.kind (place + white_len text) (place + white_len text + front.size))
first_is place text front =
    let size : front.size ≡ place + white_len text + front.size - (place + white_len text) = omega arith in record {
      begins = refl;
      order = omega arith;
      longest = subst (IsLongest (drop (white_len text) text)) size front.longest;
      kind = subst (λ (n : ℕ). kind_of (take n (drop (white_len text) text)) ≡ Some front.kind) size front.is;
    }

with_first : (place : ℕ) (text : List ℕ) (token : Token) → IsFirst place text token → HasTokens token.end (drop (token.end - place) text) → HasTokens place text
with_first place text token first (inl all) = inl (token ∷ all.0, (first, all.1))
with_first place text token first (inr broken) = inr (broken.0, (token ∷ broken.1.0, (first, broken.1.1)))

white_within : (text : List ℕ) → white_len text ≤ length text
white_within text = prefix_len-le-length is_white_space text

-- in a text of no more bytes than these
tokens_within : (most place : ℕ) (text : List ℕ) → length text ≤ most → HasTokens place text
tokens_within zero place text few = inl ([], (let within = white_within text in omega (arith, within, few)))
tokens_within (suc most) place text few = elim (cases_lt (white_len text) (length text)) [
  | inr white ↦ inl ([], (let within = white_within text in omega (arith, within, white)))
  | inl less ↦ elim (front_or_none (drop (white_len text) text)) [
    | inr none ↦ inr (place + white_len text, ([], (refl, less, none)))
    | inl front ↦
        let token = token_of front.kind (place + white_len text) (place + white_len text + front.size) in
        let some = front.some in
        let fewer : length (drop (token.end - place) text) ≤ most = omega (arith, few, some, less, length-drop (token.end - place) text) in
        with_first place text token (first_is place text front) (tokens_within most token.end (drop (token.end - place) text) fewer)
  ]
]

pub some_tokens : (text : List ℕ) → HasTokens 0 text
some_tokens text = tokens_within (length text) 0 text (omega arith)
