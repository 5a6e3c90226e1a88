-- Each line that is printed says what it was printed for.
use Rattle.std.proofs.Common.{◌≡◌, ℕ, suc, ◌+◌, ◌<◌, ◌≤◌, Bool, true, false, not, ◌||◌, List, [], ◌∷◌, ◌++◌, ◌/◌, ◌%◌, length, get_or, Some, Result, Ok, Err, refl, sym, ap, ◌∙◌, subst, cond, eqb, ltb, arith, append-nil}
use Rattle.std.proofs.lemmas.Bool.{eqb-true, ltb-true, false_from_ne_true, and_parts, and_from}
use Rattle.std.proofs.lemmas.Bool.Decides.{nat_tests}
use Rattle.std.proofs.lemmas.Str.{IsUtf8-nil, IsUtf8-append, IsUtf8-encode, encode_ascii, is_utf8-from_IsUtf8}
use Rattle.std.specs.Char.{encode_utf8, IsScalar}
use Rattle.std.specs.List.{list_all}
use Rattle.std.specs.Str.{IsUtf8, is_utf8, all_scalars, encode_utf8_all}
use lib.Utf8.{scalar}
use Rattle.sx_chars.specs.Names.{before, behind, before_space, is_white_space, is_further, is_qname, is_ncname}
use Rattle.sx_esis.specs.Escapes.{put_before, unescape}
use Rattle.sx_esis.specs.Lines as esis
use Rattle.sx_esis.specs.declared.faults.LineWhich.{LineWhich}
use Rattle.sx_esis.specs.declared.faults.LineWhich.TheVariants as which
use Rattle.sx_lines.specs.Lines.{Lacks, word_cdata}
use Rattle.sx_lines.specs.Normal.{IsName, IsTarget}
use Rattle.sx_lines.specs.Print as print
use Rattle.sx_lines.specs.Print.{escaped, escape, content_part}
use Rattle.sx_lines.proofs.Escapes.{Form, a_backslash, a_newline, a_control, a_plain, form_of, escape-append}
use Rattle.sx_lines.proofs.Lacking.{Lacks-append}
use Rattle.sx_lines.proofs.NameBytes.{ncname_lacks, qname_lacks}
use Rattle.sx_esis.proofs.TextLemmas.{high_bytes, plain_bytes}
use Rattle.sx_round_trip.specs.Document.{instruction_text}
use Rattle.sx_round_trip.proofs.Escaped.{escaped_read}

-- ---- bytes that lack one

-- no byte is the one that they lack
pub no_such : (mark : ℕ) (s : List ℕ) → Lacks mark s → list_all (λ b. not (eqb b mark)) s ≡ true
no_such mark [] lacks = refl
no_such mark (b ∷ s) lacks =
    and_from (not (eqb b mark)) (list_all (λ b. not (eqb b mark)) s)
    (ap not (false_from_ne_true (eqb b mark) (λ e. lacks.0 (eqb-true b mark e)))) (no_such mark s lacks.1)

-- all of them stand in front of the first such byte
before_mark : (mark : ℕ) (s rest : List ℕ) → Lacks mark s → before mark (s ++ mark ∷ rest) ≡ s
before_mark mark [] rest lacks = at (eqb mark mark) refl
  where
    at : (v : Bool) → eqb mark mark ≡ v → cond v [] (mark ∷ before mark rest) ≡ []
    at true is = refl
    at false is = absurd (grind (arith, nat_tests))
before_mark mark (b ∷ s) rest lacks =
    ap (λ (v : Bool). cond v [] (b ∷ before mark (s ++ mark ∷ rest))) (false_from_ne_true (eqb b mark) (λ e. lacks.0 (eqb-true b mark e)))
    ∙ ap (λ (l : List ℕ). b ∷ l) (before_mark mark s rest lacks.1)

-- and what follows stands behind it
behind_mark : (mark : ℕ) (s rest : List ℕ) → Lacks mark s → behind mark (s ++ mark ∷ rest) ≡ Some rest
behind_mark mark [] rest lacks = at (eqb mark mark) refl
  where
    at : (v : Bool) → eqb mark mark ≡ v → cond v (Some rest) (behind mark rest) ≡ Some rest
    at true is = refl
    at false is = absurd (grind (arith, nat_tests))
behind_mark mark (b ∷ s) rest lacks =
    ap (λ (v : Bool). cond v (Some (s ++ mark ∷ rest)) (behind mark (s ++ mark ∷ rest))) (false_from_ne_true (eqb b mark) (λ e. lacks.0 (eqb-true b mark e)))
    ∙ behind_mark mark s rest lacks.1

-- ---- escaped texts are text

-- a byte of ASCII is text
ascii_text : (b : ℕ) → b < 128 → IsUtf8 (b ∷ [])
ascii_text b small =
    let scalar : IsScalar b = grind (arith, nat_tests) in
    subst IsUtf8 (encode_ascii b small) (IsUtf8-encode b scalar)

-- and so are two
two_text : (a b : ℕ) → a < 128 → b < 128 → IsUtf8 (a ∷ b ∷ [])
two_text a b s t = IsUtf8-append (a ∷ []) (b ∷ []) (ascii_text a s) (ascii_text b t)

-- and a byte in octal
octal_text : (b : ℕ) → b < 128 → IsUtf8 (92 ∷ print.octal b)
octal_text b small =
    IsUtf8-append (92 ∷ (48 + b / 64) ∷ []) ((48 + b / 8 % 8) ∷ (48 + b % 8) ∷ [])
    (two_text 92 (48 + b / 64) (omega arith) (omega arith)) (two_text (48 + b / 8 % 8) (48 + b % 8) (omega arith) (omega arith))

-- each form of a byte of ASCII is text
low_text : (b : ℕ) (p : List ℕ) → b < 128 → Form b p → IsUtf8 p
low_text b p small (a_backslash is form) = subst IsUtf8 (sym form) (two_text 92 92 (omega arith) (omega arith))
low_text b p small (a_newline is form) = subst IsUtf8 (sym form) (two_text 92 110 (omega arith) (omega arith))
low_text b p small (a_control low form) = subst IsUtf8 (sym form) (octal_text b low)
low_text b p small (a_plain other above form) = subst IsUtf8 (sym form) (ascii_text b small)

-- a byte beyond ASCII has one form
high_form : (b : ℕ) (p : List ℕ) → 128 ≤ b → Form b p → p ≡ b ∷ []
high_form b p high (a_backslash is form) = absurd (omega arith)
high_form b p high (a_newline is form) = absurd (omega arith)
high_form b p high (a_control low form) = absurd (omega arith)
high_form b p high (a_plain other above form) = form

-- bytes beyond ASCII stand for themselves
abbrev AllHigh : List ℕ → Type 0
AllHigh [] = Unit {0}
AllHigh (b ∷ s) = (128 ≤ b) × AllHigh s

-- a text of such bytes is its own escaped form
high_stays : (s : List ℕ) → AllHigh s → escape s ≡ s
high_stays [] high = refl
high_stays (b ∷ s) high =
    ap (λ (p : List ℕ). p ++ escape s) (high_form b (escaped b) high.0 (form_of b)) ∙ ap (λ (t : List ℕ). b ∷ t) (high_stays s high.1)

-- bytes that are such at each place are all such
high_all : (s : List ℕ) → ((k : ℕ) → k < length s → 128 ≤ get_or s k 0) → AllHigh s
high_all [] high = tt
high_all (b ∷ s) high = (high 0 (omega arith), high_all s (λ k within. high (suc k) (omega arith)))

-- an escaped character is text
character_text : (c : ℕ) → IsScalar c → IsUtf8 (escape (encode_utf8 c))
character_text c scalar = at (ltb c 128) refl
  where
    at : (low : Bool) → ltb c 128 ≡ low → IsUtf8 (escape (encode_utf8 c))
    at true is =
        let small : c < 128 = ltb-true c 128 is in
        subst IsUtf8 (sym (append-nil (escaped c)) ∙ ap escape (sym (encode_ascii c small))) (low_text c (escaped c) small (form_of c))
    at false is =
        let high : 128 ≤ c = grind (arith, nat_tests) in
        subst IsUtf8 (sym (high_stays (encode_utf8 c) (high_all (encode_utf8 c) (λ k within. high_bytes c k high within)))) (IsUtf8-encode c scalar)

-- escaped characters are text
characters_text : (cs : List ℕ) → all_scalars cs ≡ true → IsUtf8 (escape (encode_utf8_all cs))
characters_text [] all = IsUtf8-nil
characters_text (c ∷ cs) all =
    let parts = and_parts (scalar c) (all_scalars cs) all in
    subst IsUtf8 (sym (escape-append (encode_utf8 c) (encode_utf8_all cs)))
    (IsUtf8-append (escape (encode_utf8 c)) (escape (encode_utf8_all cs)) (character_text c parts.0) (characters_text cs parts.1))

-- an escaped text is text
pub escape_text : (s : List ℕ) → IsUtf8 s → IsUtf8 (escape s)
escape_text s text = subst (λ t. IsUtf8 (escape t)) text.1.1 (characters_text text.0 text.1.0)

-- no form of a byte but zero has a zero in it
form_zeroless : (b : ℕ) (p : List ℕ) → Form b p → ¬ (b ≡ 0) → Lacks 0 p
form_zeroless b p (a_backslash is form) some = subst (Lacks 0) (sym form) (λ e. absurd (omega (arith, e)), (λ e. absurd (omega (arith, e)), tt))
form_zeroless b p (a_newline is form) some = subst (Lacks 0) (sym form) (λ e. absurd (omega (arith, e)), (λ e. absurd (omega (arith, e)), tt))
form_zeroless b p (a_control low form) some =
    subst (Lacks 0) (sym form)
    (λ e. absurd (omega (arith, e)), (λ e. absurd (omega (arith, e)), (λ e. absurd (omega (arith, e)), (λ e. absurd (omega (arith, e)), tt))))
form_zeroless b p (a_plain other above form) some = subst (Lacks 0) (sym form) (some, tt)

-- an escaped text has no zero, where the text has none
pub escape_zeroless : (s : List ℕ) → Lacks 0 s → Lacks 0 (escape s)
escape_zeroless [] lacks = tt
escape_zeroless (b ∷ s) lacks =
    Lacks-append 0 (escaped b) (escape s) (form_zeroless b (escaped b) (form_of b) lacks.0) (escape_zeroless s lacks.1)

-- ---- names

-- a name lacks each byte of ASCII that no name has
name_lacks : (mark : ℕ) → mark < 128 → is_further mark ≡ false → ¬ (58 ≡ mark) → (name : List ℕ) → IsName name → Lacks mark name
name_lacks mark ascii other no_colon name is = qname_lacks mark ascii other no_colon name is.0 is.1

-- and so does a target
target_lacks : (mark : ℕ) → mark < 128 → is_further mark ≡ false → (target : List ℕ) → IsTarget target → Lacks mark target
target_lacks mark ascii other target is = ncname_lacks mark ascii other target is.0 is.1

-- ---- lines

-- bytes that are UTF-8 and have no zero are text
are_text : (s : List ℕ) → IsUtf8 s → Lacks 0 s → esis.is_text_line s ≡ true
are_text s text lacks = and_from (is_utf8 s) (list_all (λ b. not (eqb b 0)) s) (is_utf8-from_IsUtf8 s text) (no_such 0 s lacks)

-- a line that is text says what its command says
pub command_said : (first : ℕ) (s : List ℕ) (l : esis.Line) → esis.is_skipped first ≡ false → esis.is_unsupported first ≡ false
    → esis.is_text_line (first ∷ s) ≡ true → esis.command first s ≡ Ok l → esis.line_of (first ∷ s) ≡ Ok l
command_said first s l skipped unsupported text command =
    ap (λ (v : Bool). cond v (Ok esis.skips) (cond (not (esis.is_text_line (first ∷ s))) (Err which.NotUtf8) (cond (esis.is_unsupported first) (Err which.Unsupported) (esis.command first s)))) skipped
    ∙ ap (λ (v : Bool). cond (not v) (Err which.NotUtf8) (cond (esis.is_unsupported first) (Err which.Unsupported) (esis.command first s))) text
    ∙ ap (λ (v : Bool). cond v (Err which.Unsupported) (esis.command first s)) unsupported
    ∙ command

-- a first byte before text
pub first_text : (first : ℕ) (s : List ℕ) → first < 128 → ¬ (first ≡ 0) → IsUtf8 s → Lacks 0 s → esis.is_text_line (first ∷ s) ≡ true
first_text first s small some text lacks = are_text (first ∷ s) (IsUtf8-append (first ∷ []) s (ascii_text first small) text) (some, lacks)

-- what waits for a text that is read
text_said : (says_of : List ℕ → esis.Line) (s : List ℕ) → Lacks 0 s → esis.with_text says_of (unescape (escape s)) ≡ Ok (says_of s)
text_said says_of s lacks = ap (esis.with_text says_of) (escaped_read s lacks)

-- ---- what each line says

-- a name has no zero
name_text : (name : List ℕ) → IsName name → Lacks 0 name
name_text name is = name_lacks 0 (omega arith) refl (λ e. absurd (omega (arith, e))) name is

-- the line of a start
pub start_said : (name : List ℕ) → IsName name → esis.line_of (40 ∷ name) ≡ Ok (esis.starts name)
start_said name is =
    command_said 40 name (esis.starts name) refl refl (first_text 40 name (omega arith) (λ e. absurd (omega (arith, e))) is.1 (name_text name is))
    (ap (λ (v : Bool). esis.where_so v (esis.starts name)) is.0)

-- the line of an end
pub end_said : (name : List ℕ) → IsName name → esis.line_of (41 ∷ name) ≡ Ok (esis.ends name)
end_said name is =
    command_said 41 name (esis.ends name) refl refl (first_text 41 name (omega arith) (λ e. absurd (omega (arith, e))) is.1 (name_text name is))
    (ap (λ (v : Bool). esis.where_so v (esis.ends name)) is.0)

-- the line of a text
pub text_line_said : (text : List ℕ) → IsUtf8 text → Lacks 0 text → esis.line_of (45 ∷ escape text) ≡ Ok (esis.says text)
text_line_said text is lacks =
    command_said 45 (escape text) (esis.says text) refl refl
    (first_text 45 (escape text) (omega arith) (λ e. absurd (omega (arith, e))) (escape_text text is) (escape_zeroless text lacks))
    (text_said esis.says text lacks)

-- the bytes of an attribute's line behind its first
abbrev pair_bytes : List ℕ → List ℕ → List ℕ
pair_bytes name value = name ++ 32 ∷ (word_cdata ++ escape value)

-- text behind the word CDATA is text
word_text : (s : List ℕ) → IsUtf8 s → IsUtf8 (32 ∷ (word_cdata ++ s))
word_text s text =
    IsUtf8-append (32 ∷ []) (word_cdata ++ s) (ascii_text 32 (omega arith))
    (IsUtf8-append (67 ∷ []) (68 ∷ 65 ∷ 84 ∷ 65 ∷ 32 ∷ s) (ascii_text 67 (omega arith))
    (IsUtf8-append (68 ∷ []) (65 ∷ 84 ∷ 65 ∷ 32 ∷ s) (ascii_text 68 (omega arith))
    (IsUtf8-append (65 ∷ []) (84 ∷ 65 ∷ 32 ∷ s) (ascii_text 65 (omega arith))
    (IsUtf8-append (84 ∷ []) (65 ∷ 32 ∷ s) (ascii_text 84 (omega arith))
    (IsUtf8-append (65 ∷ []) (32 ∷ s) (ascii_text 65 (omega arith))
    (IsUtf8-append (32 ∷ []) s (ascii_text 32 (omega arith)) text))))))

-- and has no zero
word_zeroless : (s : List ℕ) → Lacks 0 s → Lacks 0 (32 ∷ (word_cdata ++ s))
word_zeroless s lacks = (
  λ e. absurd (omega (arith, e)),
  (
    λ e. absurd (omega (arith, e)),
    (
      λ e. absurd (omega (arith, e)),
      (
        λ e. absurd (omega (arith, e)),
        (λ e. absurd (omega (arith, e)), (λ e. absurd (omega (arith, e)), (λ e. absurd (omega (arith, e)), lacks))),
      ),
    ),
  ),
)

-- the line of an attribute
pub pair_said : (name value : List ℕ) → IsName name → IsUtf8 value → Lacks 0 value → esis.line_of (65 ∷ pair_bytes name value) ≡ Ok (esis.has name value)
pair_said name value is text lacks =
    command_said 65 (pair_bytes name value) (esis.has name value) refl refl
    (first_text 65 (pair_bytes name value) (omega arith) (λ e. absurd (omega (arith, e)))
    (IsUtf8-append name (32 ∷ (word_cdata ++ escape value)) is.1 (word_text (escape value) (escape_text value text)))
    (Lacks-append 0 name (32 ∷ (word_cdata ++ escape value)) (name_text name is) (word_zeroless (escape value) (escape_zeroless value lacks))))
    (ap (λ (n : List ℕ). cond (is_qname n) (esis.attribute_with n (behind 32 (pair_bytes name value))) (Err which.BadCommand)) (before_mark 32 name (word_cdata ++ escape value) word)
    ∙ ap (λ (v : Bool). cond v (esis.attribute_with name (behind 32 (pair_bytes name value))) (Err which.BadCommand)) is.0
    ∙ ap (esis.attribute_with name) (behind_mark 32 name (word_cdata ++ escape value) word)
    ∙ text_said (esis.has name) value lacks)
  where
    word : Lacks 32 name
    word = name_lacks 32 (omega arith) refl (λ e. absurd (omega (arith, e))) name is

-- bytes with no white space are the front of them before some
pub before_white : (s rest : List ℕ) → list_all (λ b. not (is_white_space b)) s ≡ true → before_space (s ++ 32 ∷ rest) ≡ s
before_white [] rest all = refl
before_white (b ∷ s) rest all =
    let parts = and_parts (not (is_white_space b)) (list_all (λ b. not (is_white_space b)) s) all in
    ap (λ (v : Bool). cond v [] (b ∷ before_space (s ++ 32 ∷ rest))) (not_true (is_white_space b) parts.0)
    ∙ ap (λ (l : List ℕ). b ∷ l) (before_white s rest parts.1)
  where
    not_true : (v : Bool) → not v ≡ true → v ≡ false
    not_true true e = sym e
    not_true false e = refl

-- or all of them where none follows
pub before_nothing : (s : List ℕ) → list_all (λ b. not (is_white_space b)) s ≡ true → before_space s ≡ s
before_nothing [] all = refl
before_nothing (b ∷ s) all =
    let parts = and_parts (not (is_white_space b)) (list_all (λ b. not (is_white_space b)) s) all in
    ap (λ (v : Bool). cond v [] (b ∷ before_space s)) (not_true (is_white_space b) parts.0)
    ∙ ap (λ (l : List ℕ). b ∷ l) (before_nothing s parts.1)
  where
    not_true : (v : Bool) → not v ≡ true → v ≡ false
    not_true true e = sym e
    not_true false e = refl

-- bytes that lack each white space have none
no_white : (s : List ℕ) → Lacks 32 s → Lacks 9 s → Lacks 10 s → Lacks 13 s → list_all (λ b. not (is_white_space b)) s ≡ true
no_white [] l m n o = refl
no_white (b ∷ s) l m n o = and_from (not (is_white_space b)) (list_all (λ b. not (is_white_space b)) s) (at (is_white_space b) refl) (no_white s l.1 m.1 n.1 o.1)
  where
    at : (v : Bool) → is_white_space b ≡ v → not v ≡ true
    at true e = absurd (one_of (eqb b 32) (eqb b 9) (eqb b 10) (eqb b 13) refl refl refl refl e)
      where
        one_of : (x y z w : Bool) → eqb b 32 ≡ x → eqb b 9 ≡ y → eqb b 10 ≡ z → eqb b 13 ≡ w → (x || y || z || w) ≡ true → ⊥
        one_of true y z w i j k h e = l.0 (eqb-true b 32 i)
        one_of false true z w i j k h e = m.0 (eqb-true b 9 j)
        one_of false false true w i j k h e = n.0 (eqb-true b 10 k)
        one_of false false false true i j k h e = o.0 (eqb-true b 13 h)
        one_of false false false false i j k h e = cc
    at false e = refl

-- a target has no white space
pub target_word : (target : List ℕ) → IsTarget target → list_all (λ b. not (is_white_space b)) target ≡ true
target_word target is =
    no_white target (target_lacks 32 (omega arith) refl target is) (target_lacks 9 (omega arith) refl target is) (target_lacks 10 (omega arith) refl target is)
    (target_lacks 13 (omega arith) refl target is)

-- a target is read as itself
target_read : (target rest : List ℕ) → IsTarget target → unescape (target ++ rest) ≡ put_before target (unescape rest)
target_read target rest is = plain_bytes target rest (no_such 92 target (target_lacks 92 (omega arith) refl target is))

-- a target has no zero
target_zeroless : (target : List ℕ) → IsTarget target → Lacks 0 target
target_zeroless target is = target_lacks 0 (omega arith) refl target is

-- the line of a processing instruction
pub instruction_said : (target content : List ℕ) → IsTarget target → IsUtf8 content → Lacks 0 content
    → esis.line_of (63 ∷ target ++ content_part content) ≡ Ok (esis.instructs (instruction_text target content))
instruction_said target [] is text lacks =
    command_said 63 (target ++ []) (esis.instructs target) refl refl
    (subst (λ (s : List ℕ). esis.is_text_line (63 ∷ s) ≡ true) (sym (append-nil target)) (first_text 63 target (omega arith) (λ e. absurd (omega (arith, e))) is.1 (target_zeroless target is)))
    (ap (λ (s : List ℕ). esis.command 63 s) (append-nil target)
    ∙ ap (λ (t : List ℕ). cond (is_ncname t) (esis.with_text esis.instructs (unescape target)) (Err which.BadCommand)) (before_nothing target (target_word target is))
    ∙ ap (λ (v : Bool). cond v (esis.with_text esis.instructs (unescape target)) (Err which.BadCommand)) is.0
    ∙ ap (esis.with_text esis.instructs) (ap unescape (sym (append-nil target)) ∙ target_read target [] is)
    ∙ ap (λ (t : List ℕ). Ok (esis.instructs t)) (append-nil target))
instruction_said target (b ∷ bs) is text lacks =
    command_said 63 whole (esis.instructs (target ++ 32 ∷ b ∷ bs)) refl refl
    (first_text 63 whole (omega arith) (λ e. absurd (omega (arith, e)))
    (IsUtf8-append target (32 ∷ escape (b ∷ bs)) is.1 (IsUtf8-append (32 ∷ []) (escape (b ∷ bs)) (ascii_text 32 (omega arith)) (escape_text (b ∷ bs) text)))
    (Lacks-append 0 target (32 ∷ escape (b ∷ bs)) (target_zeroless target is) (λ e. absurd (omega (arith, e)), escape_zeroless (b ∷ bs) lacks)))
    (ap (λ (t : List ℕ). cond (is_ncname t) (esis.with_text esis.instructs (unescape whole)) (Err which.BadCommand)) (before_white target (escape (b ∷ bs)) (target_word target is))
    ∙ ap (λ (v : Bool). cond v (esis.with_text esis.instructs (unescape whole)) (Err which.BadCommand)) is.0
    ∙ ap (esis.with_text esis.instructs)
    (target_read target (32 ∷ escape (b ∷ bs)) is ∙ ap (λ (r : Result (List ℕ) LineWhich). put_before target (put_before (32 ∷ []) r)) (escaped_read (b ∷ bs) lacks)))
  where
    whole : List ℕ
    whole = target ++ 32 ∷ escape (b ∷ bs)
