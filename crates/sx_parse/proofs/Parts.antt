-- The tokens of a text are parts of it.
use Rattle.std.proofs.Common.{◌≡◌, ℕ, zero, suc, ◌+◌, ◌-◌, ◌<◌, ◌≤◌, List, [], ◌∷◌, ◌++◌, append_assoc, length, take, drop, get_or, Option, Some, None, ap, sym, subst, ◌∙◌, arith, length-take}
use Rattle.std.proofs.lemmas.List.{take-take, drop-take, drop-drop}
use Rattle.std.proofs.lemmas.Str.{IsCharBoundary-start, IsUtf8-take}
use Rattle.std.proofs.Math.Seq.{drop-cons}
use Rattle.std.specs.Str.{IsCharBoundary, IsUtf8}
use Rattle.sx_lex.specs.Laws.{AreCuts, AreSpans}
use Rattle.sx_lex.specs.Tokens.{AreTokens, kind_of, white_len}
use Rattle.sx_lex.specs.declared.kinds.Token.{Token}
use Rattle.sx_lex.proofs.Breaks.{cut_of_front, front_tokens, front_cut}
use Rattle.sx_lex.proofs.Unique.{are_spans, are_cuts}
use Rattle.sx_parse.specs.Lexemes.{text_of_token, lexeme_of, lexemes_from}
use Rattle.sx_parse.specs.Lexing.{AreRead, IsPart, AreParts}
use Rattle.sx_parse.specs.declared.lexemes.Lexeme.{Lexeme}

-- the token at a place is a part
pub part_at : (text : List ℕ) (ts : List Token) (k : ℕ) (d : Token) → AreParts text ts → k < length ts → IsPart text (get_or ts k d)
part_at text [] k d all within = absurd (omega arith)
part_at text (t ∷ ts) zero d all within = all.0
part_at text (t ∷ ts) (suc k) d all within = part_at text ts k d all.1 (omega arith)

-- tokens of a text are parts of it where they are spans of it and it may be cut there
parts_of_spans : (ts : List Token) (place : ℕ) (text : List ℕ) → AreTokens place (drop place text) ts → AreSpans text place ts → AreCuts text ts → AreParts text ts
parts_of_spans [] place text all spans cuts = tt
parts_of_spans (t ∷ ts) place text all spans cuts =
    let first = all.0 in
    let begins = first.begins in
    let order = first.order in
    let here : drop (white_len (drop place text)) (drop place text) ≡ drop t.start text =
    drop-drop (white_len (drop place text)) place text ∙ ap (λ (n : ℕ). drop n text) (sym begins) in
    let rest : drop (t.end - place) (drop place text) ≡ drop t.end text = drop-drop (t.end - place) place text ∙ ap (λ (n : ℕ). drop n text) (let e : place + (t.end - place) ≡ t.end = omega arith in e) in (
      record {
        order = spans.1;
        begins = cuts.0;
        ends = cuts.1;
        kind = ap (λ (s : List ℕ). kind_of (take (t.end - t.start) s)) (sym here) ∙ first.kind;
      },
      parts_of_spans ts t.end text (subst (λ (s : List ℕ). AreTokens t.end s ts) rest all.1) spans.4 cuts.2,
    )

parts_of_tokens : (text : List ℕ) (ts : List Token) → IsUtf8 text → AreTokens 0 text ts → AreParts text ts
parts_of_tokens text ts utf8 all = parts_of_spans ts 0 text all (are_spans ts 0 text (omega arith) all) (are_cuts ts 0 text utf8 (IsCharBoundary-start text utf8) all)

-- no more tokens than bytes
few_spans : (ts : List Token) (place : ℕ) (text : List ℕ) → AreSpans text place ts → place + length ts ≤ length text
few_spans [] place text spans = omega (arith, spans.0)
few_spans (t ∷ ts) place text spans = omega (arith, few_spans ts t.end text spans.4, spans.0, spans.1)

few_tokens : (text : List ℕ) (ts : List Token) → AreTokens 0 text ts → length ts ≤ length text
few_tokens text ts all = omega (arith, few_spans ts 0 text (are_spans ts 0 text (omega arith) all))

-- the parts of the front of a text are parts of it
part_of_front : (text : List ℕ) (offset : ℕ) (t : Token) → IsCharBoundary text offset → IsPart (take offset text) t → IsPart text t
part_of_front text offset t cut part =
    let order = part.order in
    let within = part.ends.0 in
    let ends = cut_of_front text offset t.end cut part.ends in
    let most : t.end ≤ offset = omega (arith, length-take offset text) in
    let same : text_of_token (take offset text) t ≡ text_of_token text t =
    ap (λ (n : ℕ). take (t.end - t.start) (drop t.start (take n text))) (let e : offset ≡ t.start + (offset - t.start) = omega arith in e)
    ∙ ap (take (t.end - t.start)) (drop-take t.start (offset - t.start) text)
    ∙ take-take (t.end - t.start) (offset - t.start) (drop t.start text) (omega arith) in record {
      order = order;
      begins = cut_of_front text offset t.start cut part.begins;
      ends = ends;
      kind = ap kind_of (sym same) ∙ part.kind;
    }

parts_of_front : (text : List ℕ) (offset : ℕ) (ts : List Token) → IsCharBoundary text offset → AreParts (take offset text) ts → AreParts text ts
parts_of_front text offset [] cut all = tt
parts_of_front text offset (t ∷ ts) cut all = (part_of_front text offset t cut all.0, parts_of_front text offset ts cut all.1)

pub parts_of_read : (text : List ℕ) (ts : List Token) (stop : Option ℕ) → IsUtf8 text → AreRead text ts stop → AreParts text ts
parts_of_read text ts None utf8 read = parts_of_tokens text ts utf8 read
parts_of_read text ts (Some offset) utf8 read =
    let cut = front_cut text offset utf8 (ts, read) in
    parts_of_front text offset ts cut (parts_of_tokens (take offset text) ts (IsUtf8-take text offset utf8 cut) (front_tokens text ts offset utf8 read))

pub few_of_read : (text : List ℕ) (ts : List Token) (stop : Option ℕ) → IsUtf8 text → AreRead text ts stop → length ts ≤ length text
few_of_read text ts None utf8 read = few_tokens text ts read
few_of_read text ts (Some offset) utf8 read = omega (arith, few_tokens (take offset text) ts (front_tokens text ts offset utf8 read), length-take offset text)

-- the lexemes from a token on
pub lexemes_step : (text : List ℕ) (ts : List Token) (k : ℕ) (d : Token) → k < length ts
    → lexemes_from k text (drop k ts) ≡ lexeme_of (get_or ts k d).kind (text_of_token text (get_or ts k d)) k ∷ lexemes_from (suc k) text (drop (suc k) ts)
lexemes_step text ts k d within = ap (lexemes_from k text) (drop-cons ts k d within)

pub lexemes_more : (out new all : List Lexeme) (text spelled : List ℕ) (ts : List Token) (k : ℕ) (d : Token) (l : Lexeme) → k < length ts
    → out ++ lexemes_from k text (drop k ts) ≡ all → spelled ≡ text_of_token text (get_or ts k d) → l ≡ lexeme_of (get_or ts k d).kind spelled k → new ≡ out ++ l ∷ []
    → new ++ lexemes_from (k + 1) text (drop (k + 1) ts) ≡ all
lexemes_more out new all text spelled ts k d l within so_far part is pushed =
    let rest = lexemes_from (suc k) text (drop (suc k) ts) in
    ap (λ (n : ℕ). new ++ lexemes_from n text (drop n ts)) (let e : k + 1 ≡ suc k = omega arith in e)
    ∙ ap (λ (ls : List Lexeme). ls ++ rest) pushed
    ∙ append_assoc out (l ∷ []) rest
    ∙ ap (λ (m : Lexeme). out ++ m ∷ rest) (is ∙ ap (λ (t : List ℕ). lexeme_of (get_or ts k d).kind t k) part)
    ∙ ap (λ (ls : List Lexeme). out ++ ls) (sym (lexemes_step text ts k d within))
    ∙ so_far
