-- The characters that go on a name.
use Rattle.std.proofs.Common.{◌≡◌, ◌≢◌, ℕ, ◌+◌, ◌-◌, ◌<◌, ◌≤◌, Bool, true, false, ◌&&◌, not, List, [], ◌∷◌, ◌++◌, length, take, drop, get_or, refl, ap, sym, subst, ◌∙◌, arith, length-drop, append_assoc, append-nil, take-append-drop}
use Rattle.std.proofs.Math.Seq.{take-add}
use Rattle.std.proofs.lemmas.Bool.{and_parts, and_from, and_left, and_right, or_left, false≢true, false_from_ne_true, both_ways, not_from_true}
use Rattle.std.proofs.lemmas.List.{take_at, length-take-le}
use Rattle.std.proofs.lemmas.List.Folds.{list_all-append}
use Rattle.std.proofs.lemmas.Str.{chars-nil, chars-encodes, chars-append, chars_past_char, encode_same, encodes-chars, IsUtf8-take, IsUtf8-drop, IsUtf8-between, IsCharBoundary-past_char, IsCharBoundary-start, IsCharBoundary-end, drop_past_char, length-encode, NoCharPasses-byte}
use Rattle.std.specs.Char.{encode_utf8, len_utf8}
use Rattle.std.specs.List.{list_all}
use Rattle.std.specs.Str.{chars, encode_utf8_all, IsCharBoundary, IsUtf8, NonePass, all_scalars as scalars}
use Rattle.sx_chars.specs.Names.{is_in, further_characters, is_first, is_further, are_name, is_ncname}
use Rattle.sx_lex.specs.Fronts.{IsTextFront, IsNameRun}
use Rattle.sx_lex.proofs.Fronts.{boundary_of_rest}

-- a character alone is a name where it begins one
pub alone : (t : List ℕ) (c : ℕ) → IsUtf8 t → t ≡ encode_utf8 c → is_ncname t ≡ is_first c
alone t c text is =
    ap are_name (chars_past_char t [] c text (is ∙ sym (append-nil (encode_utf8 c))) ∙ ap (λ (x : List ℕ). c ∷ x) chars-nil) ∙ with_true (is_first c)
  where
    with_true : (v : Bool) → (v && true) ≡ v
    with_true true = refl
    with_true false = refl

-- up to a place all characters go on a name
pub record IsRunTo (s rest : List ℕ) (at : ℕ) : Type 0 where
  pub boundary : IsCharBoundary s at
  pub left : rest ≡ drop at s
  pub all : list_all is_further (chars (take at s)) ≡ true

pub run_begins : (s rest : List ℕ) (at : ℕ) → IsUtf8 s → rest ≡ s → at ≡ 0 → IsRunTo s rest at
run_begins s rest at text whole start = subst (λ (n : ℕ). IsRunTo s rest n) (sym start) record {
  boundary = IsCharBoundary-start s text;
  left = whole;
  all = ap (list_all is_further) chars-nil;
}

pub run_goes_on : (s rest rest' : List ℕ) (at at' c : ℕ) → IsUtf8 s → IsRunTo s rest at → rest ≡ encode_utf8 c ++ rest' → at' ≡ at + length (encode_utf8 c) → is_further c ≡ true → IsRunTo s rest' at'
run_goes_on s rest rest' at at' c text run step more further =
    let split : drop at s ≡ encode_utf8 c ++ rest' = sym run.left ∙ step in
    let size = length-encode c in
    let next : at' ≡ at + len_utf8 c = omega arith in
    let cut : IsCharBoundary s at' = subst (λ (n : ℕ). IsCharBoundary s n) (sym next) (IsCharBoundary-past_char s rest' at c run.boundary.0 (IsUtf8-drop s at text run.boundary) split) in
    let piece : take (length (encode_utf8 c)) (drop at s) ≡ encode_utf8 c = ap (take (length (encode_utf8 c))) split ∙ take_at (encode_utf8 c) rest' (length (encode_utf8 c)) refl in
    let own : IsUtf8 (encode_utf8 c) =
    subst IsUtf8 (ap (λ (n : ℕ). take n (drop at s)) (let e : at' - at ≡ length (encode_utf8 c) = omega arith in e) ∙ piece) (IsUtf8-between s at at' text (omega arith) run.boundary cut) in
    let front : take at' s ≡ take at s ++ encode_utf8 c = ap (λ (n : ℕ). take n s) more ∙ take-add at (length (encode_utf8 c)) s ∙ ap (λ (t : List ℕ). take at s ++ t) piece in
    let one : chars (encode_utf8 c) ≡ c ∷ [] = chars_past_char (encode_utf8 c) [] c own (sym (append-nil (encode_utf8 c))) ∙ ap (λ (x : List ℕ). c ∷ x) chars-nil in
    let both : chars (take at' s) ≡ chars (take at s) ++ c ∷ [] =
    ap chars front ∙ chars-append (take at s) (encode_utf8 c) (IsUtf8-take s at text run.boundary) ∙ ap (λ (x : List ℕ). chars (take at s) ++ x) one in record {
      boundary = cut;
      left = sym (ap (λ (n : ℕ). drop n s) next ∙ drop_past_char s rest' at c split);
      all = ap (list_all is_further) both
          ∙ list_all-append is_further (chars (take at s)) (c ∷ [])
          ∙ and_from (list_all is_further (chars (take at s))) (is_further c && true) run.all (and_from (is_further c) true further refl);
    }

-- the run ends at a character that does not go on a name, or with the text
pub run_stops : (s rest rest' : List ℕ) (at c : ℕ) → IsRunTo s rest at → rest ≡ encode_utf8 c ++ rest' → is_further c ≡ false → IsNameRun s at
run_stops s rest rest' at c run step other = record { boundary = run.boundary; all = run.all; stops = λ _. (c, rest', sym run.left ∙ step, other) }

pub run_ends : (s rest : List ℕ) (at : ℕ) → IsRunTo s rest at → length rest ≡ 0 → IsNameRun s (length s)
run_ends s rest at run none =
    let within = run.boundary.0 in
    let e : at ≡ length s = omega (arith, ap length run.left, length-drop at s) in record {
      boundary = IsCharBoundary-end s;
      all = ap (λ (n : ℕ). list_all is_further (chars (take n s))) (sym e) ∙ run.all;
      stops = λ more. absurd (omega arith);
    }

-- the first character of a front is that of the text
pub front_chars : (s rest : List ℕ) (c m : ℕ) → IsUtf8 s → s ≡ encode_utf8 c ++ rest → 0 < m → IsCharBoundary s m → (cs : List ℕ) × (chars (take m s) ≡ c ∷ cs)
front_chars s rest c m text split some cut = by own.0 own.1.0 own.1.1
  where
    own : IsUtf8 (take m s)
    own = IsUtf8-take s m text cut

    by : (ds : List ℕ) → scalars ds ≡ true → encode_utf8_all ds ≡ take m s → (cs : List ℕ) × (chars (take m s) ≡ c ∷ cs)
    by [] valid is = absurd (omega (arith, ap length is, length-take-le m s cut.0))
    by (d ∷ ds) valid is =
        let whole : encode_utf8 c ++ rest ≡ encode_utf8 d ++ (encode_utf8_all ds ++ drop m s) =
        sym split ∙ sym (take-append-drop m s) ∙ ap (λ (t : List ℕ). t ++ drop m s) (sym is) ∙ append_assoc (encode_utf8 d) (encode_utf8_all ds) (drop m s) in
        let same = encode_same c d rest (encode_utf8_all ds ++ drop m s) whole in
        (ds, sym (ap chars is) ∙ chars-encodes (d ∷ ds) valid ∙ ap (λ (x : ℕ). x ∷ ds) (sym same.0))

first_further : (c : ℕ) → is_first c ≡ true → is_further c ≡ true
first_further c first = or_left (is_first c) (is_in further_characters c) first

name_further : (cs : List ℕ) → are_name cs ≡ true → list_all is_further cs ≡ true
name_further [] name = absurd (false≢true name)
name_further (c ∷ cs) name =
    let parts = and_parts (is_first c) (list_all is_further cs) name in
    and_from (is_further c) (list_all is_further cs) (first_further c parts.0) parts.1

-- the characters of a front are those of a shorter one and of what that leaves
front_split : (s : List ℕ) (n m : ℕ) → IsUtf8 s → IsCharBoundary s n → n ≤ m → chars (take m s) ≡ chars (take n s) ++ chars (take (m - n) (drop n s))
front_split s n m text cut order =
    ap (λ (k : ℕ). chars (take k s)) (let e : m ≡ n + (m - n) = omega arith in e)
    ∙ ap chars (take-add n (m - n) s)
    ∙ chars-append (take n s) (take (m - n) (drop n s)) (IsUtf8-take s n text cut)

with_stop : (cs ds : List ℕ) (c : ℕ) → is_further c ≡ false → list_all is_further (cs ++ c ∷ ds) ≡ false
with_stop cs ds c other =
    list_all-append is_further cs (c ∷ ds)
    ∙ and_right (list_all is_further cs) (is_further c && list_all is_further ds) (and_left (is_further c) (list_all is_further ds) other)

not_name : (cs : List ℕ) → list_all is_further cs ≡ false → are_name cs ≡ false
not_name cs other = false_from_ne_true (are_name cs) (λ name. both_ways (list_all is_further cs) other (name_further cs name))

-- a front that has a character which does not go on a name is none
with_another : (s ds : List ℕ) (n m c : ℕ) → IsUtf8 s → IsCharBoundary s n → n ≤ m → chars (take (m - n) (drop n s)) ≡ c ∷ ds → is_further c ≡ false → is_ncname (take m s) ≡ false
with_another s ds n m c text cut order tail other =
    not_name (chars (take m s))
    (ap (list_all is_further) (front_split s n m text cut order ∙ ap (λ (x : List ℕ). chars (take n s) ++ x) tail) ∙ with_stop (chars (take n s)) ds c other)

no_longer : (s : List ℕ) (n m : ℕ) → IsUtf8 s → IsNameRun s n → n < m → IsCharBoundary s m → is_ncname (take m s) ≡ false
no_longer s n m text run long cut =
    let stop = run.stops (let h = cut.0 in omega arith) in
    let rest = IsUtf8-drop s n text run.boundary in
    let tail = front_chars (drop n s) stop.1 stop.0 (m - n) rest stop.2 (omega arith) (boundary_of_rest s n m (omega arith) cut) in
    with_another s tail.0 n m stop.0 text run.boundary (omega arith) tail.1 stop.3

-- the run from a character that begins a name is the longest name
pub run_front : (s rest : List ℕ) (c n : ℕ) → IsUtf8 s → s ≡ encode_utf8 c ++ rest → is_first c ≡ true → IsNameRun s n → IsTextFront is_ncname s n
run_front s rest c n text split first run = record {
  boundary = run.boundary;
  is = λ some.
      let head = front_chars s rest c n text split some run.boundary in
      let further = (and_parts (is_further c) (list_all is_further head.0) (sym (ap (list_all is_further) head.1) ∙ run.all)).1 in
      ap are_name head.1 ∙ and_from (is_first c) (list_all is_further head.0) first further;
  longest = λ more long cut. no_longer s n more text run long cut;
}

pub no_first_front : (s rest : List ℕ) (c : ℕ) → IsUtf8 s → s ≡ encode_utf8 c ++ rest → is_first c ≡ false → IsTextFront is_ncname s 0
no_first_front s rest c text split other = record {
  boundary = IsCharBoundary-start s text;
  is = λ some. absurd (omega arith);
  longest = λ more long cut.
      let head = front_chars s rest c more text split long cut in
      ap are_name head.1 ∙ and_left (is_first c) (list_all is_further head.0) other;
}

pub empty_front : (s : List ℕ) → IsUtf8 s → length s ≡ 0 → IsTextFront is_ncname s 0
empty_front s text none = record {
  boundary = IsCharBoundary-start s text;
  is = λ some. absurd (omega arith);
  longest = λ more long cut. absurd (let h = cut.0 in omega arith);
}

none_pass : (cs : List ℕ) → list_all is_further cs ≡ true → NonePass (λ c. not (is_further c)) cs
none_pass [] all = tt
none_pass (c ∷ cs) all =
    let parts = and_parts (is_further c) (list_all is_further cs) all in
    (not_from_true (is_further c) parts.0, none_pass cs parts.1)

-- a name has no colon
pub no_colon : (t : List ℕ) (at : ℕ) → IsUtf8 t → is_ncname t ≡ true → at < length t → get_or t at 0 ≢ 58
no_colon t at text name within colon =
    let free = NoCharPasses-byte (λ c. not (is_further c)) t at (chars t, encodes-chars t text, none_pass (chars t) (name_further (chars t) name)) within (omega arith) in
    let e : not (is_further 58) ≡ false = ap (λ (b : ℕ). not (is_further b)) (sym colon) ∙ free in
    false≢true (sym e)
