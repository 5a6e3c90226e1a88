-- What the lines of a document say: names that are names, and text without zeros.
use Rattle.std.proofs.Common.{◌≡◌, ℕ, ◌<◌, Bool, true, false, not, cond, ◌&&◌, ◌==◌, nat_lt, List, [], ◌∷◌, ◌++◌, length, get_or, Option, Some, None, Result, Ok, Err, refl, ap, sym, ◌∙◌, subst, eqb, ltb, append-nil, arith}
use Rattle.std.specs.Prelude.{bytes_eq, codes}
use Rattle.std.proofs.lemmas.Bool.{eqb-true, ne_eqb, true≢false, and_parts}
use Rattle.std.proofs.lemmas.Bool.Decides.{nat_tests}
use Rattle.std.proofs.lemmas.Str.{inside_one, IsUtf8-nil, IsUtf8-append, IsUtf8-encode, IsUtf8-from_is_utf8, encode_ascii}
use Rattle.std.specs.Char.{encode_utf8, IsScalar}
use Rattle.std.specs.List.{list_all}
use Rattle.std.specs.Str.{IsUtf8, is_utf8}
use Rattle.sx_chars.specs.Names.{before, behind, before_space, from_space, is_white_space, without_leading_space, is_qname, is_ncname}
use Rattle.sx_esis.specs.Escapes.{Escape, stands_for, begins, is_fault, is_octal_digit, is_decimal_digit, is_character, character, number, octal_escape, decimal, escape_of, put_before, go_on, unescape, unescape_from}
use Rattle.sx_esis.specs.Lines.{Line, starts, ends, has, lacks, says, instructs, skips, conforms, Reading, cut, is_skipped, is_unsupported, is_text_line, is_type, or_empty, with_text, where_so, attribute_with, attribute, command, line_of, line_within, in_front, fault_here, nothing_more, reading_of, last_line, rest_reading, lines_of}
use Rattle.sx_esis.specs.declared.faults.LineWhich.{LineWhich}
use Rattle.sx_esis.specs.declared.faults.LineWhich.TheVariants as which
use Rattle.sx_esis.proofs.TextLemmas.{unescaped_text}
use Rattle.sx_lines.specs.Lines.{Lacks}
use Rattle.sx_lines.specs.Normal.{IsName, IsTarget}
use Rattle.sx_lines.proofs.Lacking.{Lacks-append, none_at}
use Rattle.sx_lines.proofs.NameBytes.{parts_utf8, ncname_lacks}
use Rattle.sx_round_trip.proofs.Happenings.{IsSaid}

-- a line whose names are names, and whose text can be said
abbrev pub IsFair : Line → Type 0
IsFair (starts name) = IsName name
IsFair (ends name) = Unit {0}
IsFair (has name value) = IsName name × IsSaid value
IsFair (lacks name) = Unit {0}
IsFair (says s) = IsSaid s
IsFair (instructs s) = IsTarget (before_space s) × IsSaid s
IsFair skips = Unit {0}
IsFair conforms = Unit {0}

-- each of these is one
abbrev pub AreFair : List Line → Type 0
AreFair [] = Unit {0}
AreFair (l ∷ ls) = IsFair l × AreFair ls

-- ---- escapes

abbrev fault : Escape
fault = is_fault which.BadEscape

character_lacks : (n : ℕ) (s : List ℕ) → character n ≡ stands_for s → Lacks 0 s
character_lacks n s = at (is_character n) refl
  where
    at : (one : Bool) → is_character n ≡ one → cond one (stands_for (encode_utf8 n)) fault ≡ stands_for s → Lacks 0 s
    at true is e =
        let same : encode_utf8 n ≡ s = cc in
        let some : 0 < n = grind (arith, nat_tests) in
        subst (Lacks 0) same (none_at 0 (encode_utf8 n) (λ k within zero_there.
        let small : get_or (encode_utf8 n) k 0 < 128 = omega (arith, zero_there) in
        let is_zero : n ≡ get_or (encode_utf8 n) k 0 = inside_one n [] (encode_utf8 n) k (sym (append-nil (encode_utf8 n))) within small in
        omega (arith, is_zero, zero_there, some)))
    at false is e = cc

one_lacks : (c : ℕ) (s : List ℕ) → ¬ (c ≡ 0) → stands_for (c ∷ []) ≡ stands_for s → Lacks 0 s
one_lacks c s no_zero e = let same : c ∷ [] ≡ s = cc in subst (Lacks 0) same (no_zero, tt)

decimal_lacks : (before ds s : List ℕ) → decimal before ds ≡ stands_for s → Lacks 0 s
decimal_lacks before [] s e = cc
decimal_lacks [] (d ∷ ds) s e = at (is_decimal_digit d) e (decimal_lacks (d ∷ []) ds s)
  where
    at : (digit : Bool) → cond digit (decimal (d ∷ []) ds) fault ≡ stands_for s → (decimal (d ∷ []) ds ≡ stands_for s → Lacks 0 s) → Lacks 0 s
    at true e rest = rest e
    at false e rest = cc
decimal_lacks (b ∷ bs) (d ∷ ds) s e = at (is_decimal_digit d) (eqb d 59) e (decimal_lacks (b ∷ bs ++ d ∷ []) ds s)
  where
    at : (digit semicolon : Bool) → cond digit (decimal (b ∷ bs ++ d ∷ []) ds) (cond semicolon (character (number 10 (b ∷ bs))) fault) ≡ stands_for s →
        (decimal (b ∷ bs ++ d ∷ []) ds ≡ stands_for s → Lacks 0 s) → Lacks 0 s
    at true semicolon e rest = rest e
    at false true e rest = character_lacks (number 10 (b ∷ bs)) s e
    at false false e rest = cc

octal_lacks : (ds s : List ℕ) → octal_escape ds ≡ stands_for s → Lacks 0 s
octal_lacks [] s e = cc
octal_lacks (a ∷ []) s e = cc
octal_lacks (a ∷ b ∷ []) s e = cc
octal_lacks (a ∷ b ∷ c ∷ []) s e = at (ltb (number 8 (a ∷ b ∷ c ∷ [])) 256) e
  where
    at : (small : Bool) → cond small (character (number 8 (a ∷ b ∷ c ∷ []))) fault ≡ stands_for s → Lacks 0 s
    at true e = character_lacks (number 8 (a ∷ b ∷ c ∷ [])) s e
    at false e = cc
octal_lacks (a ∷ b ∷ c ∷ d ∷ ds) s e = cc

-- what an escape comes to by the answers of the tests on its first byte
abbrev by_tests : Bool → Bool → Bool → Bool → Bool → Escape → Escape → Escape
by_tests backslash line_feed numbered system octals decimals digits =
    cond backslash (stands_for (92 ∷ [])) (cond line_feed (stands_for (10 ∷ [])) (cond numbered decimals (cond system (is_fault which.Sdata) (cond octals digits fault))))

escape_lacks : (escape s : List ℕ) → escape_of escape ≡ stands_for s → Lacks 0 s
escape_lacks [] s e = cc
escape_lacks (first ∷ ds) s e = at (eqb first 92) (eqb first 110) (eqb first 35) (eqb first 124) (list_all is_octal_digit (first ∷ ds)) e
  where
    at : (backslash line_feed numbered system octals : Bool) → by_tests backslash line_feed numbered system octals (decimal [] ds) (octal_escape (first ∷ ds)) ≡ stands_for s → Lacks 0 s
    at true l n y o e = one_lacks 92 s (λ z. cc) e
    at false true n y o e = one_lacks 10 s (λ z. cc) e
    at false false true y o e = decimal_lacks [] ds s e
    at false false false true o e = cc
    at false false false false true e = octal_lacks (first ∷ ds) s e
    at false false false false false e = cc

abbrev Answer : Type 0
Answer = Result (List ℕ) LineWhich

put_lacks : (s t : List ℕ) (r : Answer) → Lacks 0 s → ((u : List ℕ) → r ≡ Ok u → Lacks 0 u) → put_before s r ≡ Ok t → Lacks 0 t
put_lacks s t (Ok u) lack rest e = let same : s ++ u ≡ t = cc in subst (Lacks 0) same (Lacks-append 0 s u lack (rest u refl))
put_lacks s t (Err w) lack rest e = cc

inside_lacks : (k : Escape) (t : List ℕ) (behind inside : Answer) → ((s : List ℕ) → k ≡ stands_for s → Lacks 0 s)
    → ((u : List ℕ) → behind ≡ Ok u → Lacks 0 u) → ((u : List ℕ) → inside ≡ Ok u → Lacks 0 u) → go_on k behind inside ≡ Ok t → Lacks 0 t
inside_lacks (stands_for s) t behind inside here rest more e = put_lacks s t behind (here s refl) rest e
inside_lacks begins t behind inside here rest more e = more t e
inside_lacks (is_fault w) t behind inside here rest more e = cc

plain_lacks : (mark : Bool) (b : ℕ) (t : List ℕ) (inside rest : Answer) → ¬ (b ≡ 0) → ((u : List ℕ) → inside ≡ Ok u → Lacks 0 u) → ((u : List ℕ) → rest ≡ Ok u → Lacks 0 u)
    → cond mark inside (put_before (b ∷ []) rest) ≡ Ok t → Lacks 0 t
plain_lacks true b t inside rest no_zero first second e = first t e
plain_lacks false b t inside rest no_zero first second e = put_lacks (b ∷ []) t rest (no_zero, tt) second e

lacks_from : (o : Option (List ℕ)) (s t : List ℕ) → Lacks 0 s → unescape_from o s ≡ Ok t → Lacks 0 t
lacks_from None [] t lack e = let same : [] ≡ t = cc in subst (Lacks 0) same tt
lacks_from (Some escape) [] t lack e = cc
lacks_from None (b ∷ bs) t lack e =
    plain_lacks (b == 92) b t (unescape_from (Some []) bs) (unescape_from None bs) lack.0
    (λ u is. lacks_from (Some []) bs u lack.1 is) (λ u is. lacks_from None bs u lack.1 is) e
lacks_from (Some escape) (b ∷ bs) t lack e =
    inside_lacks (escape_of (escape ++ b ∷ [])) t (unescape_from None bs) (unescape_from (Some (escape ++ b ∷ [])) bs)
    (λ s is. escape_lacks (escape ++ b ∷ []) s is)
    (λ u is. lacks_from None bs u lack.1 is) (λ u is. lacks_from (Some (escape ++ b ∷ [])) bs u lack.1 is) e

-- a text without its escapes can be said
said_text : (s t : List ℕ) → IsSaid s → unescape s ≡ Ok t → IsSaid t
said_text s t said e = (unescaped_text s t said.0 e, lacks_from None s t said.1 e)

-- ---- parts of text

lacks_behind : (a : List ℕ) (mark : ℕ) (b : List ℕ) → Lacks 0 (a ++ mark ∷ b) → Lacks 0 b
lacks_behind [] mark b lack = lack.1
lacks_behind (x ∷ a) mark b lack = lacks_behind a mark b lack.1

-- text that is split at an ASCII character
said_parts : (mark : ℕ) (a b : List ℕ) → mark < 128 → IsSaid (a ++ mark ∷ b) → IsUtf8 a × IsSaid b
said_parts mark a b ascii said = let parts = parts_utf8 mark a b ascii said.0 in (parts.0, (parts.1, lacks_behind a mark b said.1))

split_there : (mark : ℕ) (s rest : List ℕ) → behind mark s ≡ Some rest → s ≡ before mark s ++ mark ∷ rest
split_there mark [] rest e = cc
split_there mark (b ∷ s) rest e = by (b == mark) refl e (split_there mark s rest)
  where
    by : (t : Bool) → (b == mark) ≡ t → cond t (Some s) (behind mark s) ≡ Some rest → (behind mark s ≡ Some rest → s ≡ before mark s ++ mark ∷ rest)
        → b ∷ s ≡ cond t [] (b ∷ before mark s) ++ mark ∷ rest
    by true is f more = let same : s ≡ rest = cc in ap (λ x. x ∷ s) (eqb-true b mark is) ∙ ap (λ l. mark ∷ l) same
    by false is f more = ap (λ l. b ∷ l) (more f)

no_behind : (s : List ℕ) → behind 32 s ≡ None → before 32 s ≡ s
no_behind [] e = refl
no_behind (b ∷ s) e = by (b == 32) e (no_behind s)
  where
    by : (t : Bool) → cond t (Some s) (behind 32 s) ≡ None → (behind 32 s ≡ None → before 32 s ≡ s) → cond t [] (b ∷ before 32 s) ≡ b ∷ s
    by true e rest = absurd (cc)
    by false e rest = ap (λ (l : List ℕ). b ∷ l) (rest e)

white_ascii : (b : ℕ) → is_white_space b ≡ true → b < 128
white_ascii b white = grind (arith, nat_tests)

scalar_white : (b : ℕ) → is_white_space b ≡ true → IsScalar b
scalar_white b white = grind (arith, nat_tests)

white_no_mark : (b : ℕ) → is_white_space b ≡ true → (b == 92) ≡ false
white_no_mark b white = grind (arith, nat_tests)

-- nothing, or what white space begins
abbrev BeginsWhite : List ℕ → Type 0
BeginsWhite [] = Unit {0}
BeginsWhite (b ∷ bs) = is_white_space b ≡ true

begins_white : (x : List ℕ) → BeginsWhite (from_space x)
begins_white [] = tt
begins_white (b ∷ bs) = by (is_white_space b) refl (begins_white bs)
  where
    by : (t : Bool) → is_white_space b ≡ t → BeginsWhite (from_space bs) → BeginsWhite (cond t (b ∷ bs) (from_space bs))
    by true is rest = is
    by false is rest = rest

pub space_parts : (x : List ℕ) → x ≡ before_space x ++ from_space x
space_parts [] = refl
space_parts (b ∷ bs) = by (is_white_space b) (space_parts bs)
  where
    by : (t : Bool) → bs ≡ before_space bs ++ from_space bs → b ∷ bs ≡ cond t [] (b ∷ before_space bs) ++ cond t (b ∷ bs) (from_space bs)
    by true rest = refl
    by false rest = ap (λ (l : List ℕ). b ∷ l) rest

-- text is split at white space
white_parts : (front rest : List ℕ) → BeginsWhite rest → IsSaid (front ++ rest) → IsUtf8 front × IsSaid rest
white_parts front [] white said = (subst IsUtf8 (append-nil front) said.0, (IsUtf8-nil, tt))
white_parts front (b ∷ bs) white said =
    let parts = said_parts b front bs (white_ascii b white) said in
    let later : Lacks 0 (b ∷ bs) = lacks_later front (b ∷ bs) said.1 in
    (parts.0, (utf8_later front b bs white said.0, later))
  where
    lacks_later : (a c : List ℕ) → Lacks 0 (a ++ c) → Lacks 0 c
    lacks_later [] c lack = lack
    lacks_later (x ∷ a) c lack = lacks_later a c lack.1

    utf8_later : (a : List ℕ) (w : ℕ) (c : List ℕ) → is_white_space w ≡ true → IsUtf8 (a ++ w ∷ c) → IsUtf8 (w ∷ c)
    utf8_later a w c white text = let parts = parts_utf8 w a c (white_ascii w white) text in
        subst (λ (x : List ℕ). IsUtf8 (x ++ c)) (encode_ascii w (white_ascii w white)) (IsUtf8-append (encode_utf8 w) c (IsUtf8-encode w (scalar_white w white)) parts.1)

-- the parts of a text, at the first white space
pub said_spaces : (s : List ℕ) → IsSaid s → IsUtf8 (before_space s) × IsSaid (from_space s)
said_spaces s said = white_parts (before_space s) (from_space s) (begins_white s) (subst IsSaid (space_parts s) said)

-- the text behind white space
pub said_content : (s : List ℕ) → IsSaid s → IsSaid (without_leading_space s)
said_content [] said = said
said_content (b ∷ bs) said = by (is_white_space b) refl (said_content bs)
  where
    by : (t : Bool) → is_white_space b ≡ t → (IsSaid bs → IsSaid (without_leading_space bs)) → IsSaid (cond t (without_leading_space bs) (b ∷ bs))
    by true is rest = rest (said_parts b [] bs (white_ascii b is) said).1
    by false is rest = said

-- a target that is a name has no escapes
target_stays : (s t : List ℕ) → Lacks 92 (before_space s) → unescape s ≡ Ok t → before_space t ≡ before_space s
target_stays [] t lack e = let same : [] ≡ t = cc in ap before_space (sym same)
target_stays (b ∷ bs) t lack e = by (is_white_space b) refl lack (λ u. target_stays bs u)
  where
    put : (r : Answer) → put_before (b ∷ []) r ≡ Ok t → (u : List ℕ) × (r ≡ Ok u) × (t ≡ b ∷ u)
    put (Ok u) e = let same : b ∷ u ≡ t = cc in (u, refl, sym same)
    put (Err w) e = absurd (cc)

    plain : (b == 92) ≡ false → (u : List ℕ) × (unescape bs ≡ Ok u) × (t ≡ b ∷ u)
    plain other = put (unescape bs) (sym (ap (λ (v : Bool). cond v (unescape_from (Some []) bs) (put_before (b ∷ []) (unescape bs))) other) ∙ e)

    by : (w : Bool) → is_white_space b ≡ w → Lacks 92 (cond w [] (b ∷ before_space bs))
        → ((u : List ℕ) → Lacks 92 (before_space bs) → unescape bs ≡ Ok u → before_space u ≡ before_space bs) → before_space t ≡ cond w [] (b ∷ before_space bs)
    by true is lack rest =
        let p = plain (white_no_mark b is) in
        ap before_space p.2 ∙ ap (λ (v : Bool). cond v [] (b ∷ before_space p.0)) is
    by false is lack rest =
        let p = plain (ne_eqb b 92 lack.0) in
        ap before_space p.2 ∙ ap (λ (v : Bool). cond v [] (b ∷ before_space p.0)) is ∙ ap (λ (l : List ℕ). b ∷ l) (rest p.0 lack.1 p.1)

-- ---- lines

fair_ok : (l m : Line) → ◌≡◌ {A = Result Line LineWhich} (Ok l) (Ok m) → IsFair l → IsFair m
fair_ok l m is fair = let same : l ≡ m = cc in subst IsFair same fair

fair_where : (t : Bool) (l m : Line) → (t ≡ true → IsFair l) → where_so t l ≡ Ok m → IsFair m
fair_where true l m fair is = fair_ok l m is (fair refl)
fair_where false l m fair is = absurd (cc)

fair_text : (says_of : List ℕ → Line) (r : Answer) (m : Line) → ((t : List ℕ) → r ≡ Ok t → IsFair (says_of t)) → with_text says_of r ≡ Ok m → IsFair m
fair_text says_of (Ok t) m fair is = fair_ok (says_of t) m is (fair t refl)
fair_text says_of (Err w) m fair is = absurd (cc)

-- what stands behind the name of an attribute
fair_value : (name : List ℕ) (o : Option (List ℕ)) (m : Line) → IsName name → ((r : List ℕ) → o ≡ Some r → IsSaid r) → attribute_with name o ≡ Ok m → IsFair m
fair_value name None m named said is = absurd (cc)
fair_value name (Some s) m named said is = by (bytes_eq s (codes "IMPLIED")) (is_type (before 32 s)) is
  where
    behind_said : (o : Option (List ℕ)) → behind 32 s ≡ o → IsSaid (or_empty o)
    behind_said None e = (IsUtf8-nil, tt)
    behind_said (Some r) e = (said_parts 32 (before 32 s) r (omega arith) (subst IsSaid (split_there 32 s r e) (said s refl))).1

    by : (implied typed : Bool) → cond implied (Ok (lacks name)) (cond typed (with_text (has name) (unescape (or_empty (behind 32 s)))) (Err which.BadAttr)) ≡ Ok m → IsFair m
    by true typed is = fair_ok (lacks name) m is tt
    by false true is =
        fair_text (has name) (unescape (or_empty (behind 32 s))) m
        (λ t e. (named, said_text (or_empty (behind 32 s)) t (behind_said (behind 32 s) refl) e)) is
    by false false is = absurd (cc)

fair_attribute : (s : List ℕ) (m : Line) → IsSaid s → attribute s ≡ Ok m → IsFair m
fair_attribute s m said is = by (is_qname (before 32 s)) refl is
  where
    front : (o : Option (List ℕ)) → behind 32 s ≡ o → IsUtf8 (before 32 s) × ((r : List ℕ) → o ≡ Some r → IsSaid r)
    front None e = (subst IsUtf8 (sym (no_behind s e)) said.0, λ r f. absurd (cc))
    front (Some r) e =
        let parts = said_parts 32 (before 32 s) r (omega arith) (subst IsSaid (split_there 32 s r e) said) in
        (parts.0, λ q f. let same : r ≡ q = cc in subst IsSaid same parts.1)

    by : (t : Bool) → is_qname (before 32 s) ≡ t → cond t (attribute_with (before 32 s) (behind 32 s)) (Err which.BadCommand) ≡ Ok m → IsFair m
    by true q is =
        let parts = front (behind 32 s) refl in
        fair_value (before 32 s) (behind 32 s) m (q, parts.0) parts.1 is
    by false q is = absurd (cc)

fair_instruction : (s : List ℕ) (m : Line) → IsSaid s → cond (is_ncname (before_space s)) (with_text instructs (unescape s)) (Err which.BadCommand) ≡ Ok m → IsFair m
fair_instruction s m said is = by (is_ncname (before_space s)) refl is
  where
    text : IsUtf8 (before_space s)
    text = (said_spaces s said).0

    by : (t : Bool) → is_ncname (before_space s) ≡ t → cond t (with_text instructs (unescape s)) (Err which.BadCommand) ≡ Ok m → IsFair m
    by true n is =
        fair_text instructs (unescape s) m
        (λ t e. (subst IsTarget (sym (target_stays s t (ncname_lacks 92 (omega arith) refl (before_space s) n text) e)) (n, text), said_text s t said e)) is
    by false n is = absurd (cc)

-- text behind an ASCII character
said_behind : (first : ℕ) (s : List ℕ) (c : ℕ) → IsUtf8 (first ∷ s) → Lacks 0 s → c < 128 → (first == c) ≡ true → IsSaid s
said_behind first s c text lack ascii is = let same : first ≡ c = eqb-true first c is in ((parts_utf8 first [] s (omega (arith, same, ascii)) text).1, lack)

fair_by : (first : ℕ) (s : List ℕ) (m : Line) → IsUtf8 (first ∷ s) → Lacks 0 s
    → (a : Bool) → (first == 40) ≡ a → (b c : Bool) → (first == 45) ≡ c → (d : Bool) → (first == 63) ≡ d → (f : Bool) → (first == 65) ≡ f
    → cond a (where_so (is_qname s) (starts s)) (cond b (where_so (is_qname s) (ends s)) (cond c (with_text says (unescape s))
    (cond d (cond (is_ncname (before_space s)) (with_text instructs (unescape s)) (Err which.BadCommand)) (cond f (attribute s) (where_so ((first == 67) && (length s == 0)) conforms)))))
    ≡ Ok m → IsFair m
fair_by first s m text lack true ae b c ce d de f fe is =
    fair_where (is_qname s) (starts s) m (λ q. (q, (said_behind first s 40 text lack (omega arith) ae).0)) is
fair_by first s m text lack false ae true c ce d de f fe is = fair_where (is_qname s) (ends s) m (λ q. tt) is
fair_by first s m text lack false ae false true ce d de f fe is =
    fair_text says (unescape s) m (λ t e. said_text s t (said_behind first s 45 text lack (omega arith) ce) e) is
fair_by first s m text lack false ae false false ce true de f fe is = fair_instruction s m (said_behind first s 63 text lack (omega arith) de) is
fair_by first s m text lack false ae false false ce false de true fe is = fair_attribute s m (said_behind first s 65 text lack (omega arith) fe) is
fair_by first s m text lack false ae false false ce false de false fe is = fair_where ((first == 67) && (length s == 0)) conforms m (λ q. tt) is

pub all_lack : (s : List ℕ) → list_all (λ b. not (b == 0)) s ≡ true → Lacks 0 s
all_lack [] all = tt
all_lack (b ∷ s) all =
    let parts = and_parts (not (b == 0)) (list_all (λ b. not (b == 0)) s) all in
    ((λ z. true≢false (sym parts.0 ∙ ap (λ (n : ℕ). not (n == 0)) z)), all_lack s parts.1)

fair_line : (line : List ℕ) (m : Line) → line_of line ≡ Ok m → IsFair m
fair_line [] m is = absurd (cc)
fair_line (first ∷ s) m is = by (is_skipped first) (is_text_line (first ∷ s)) refl (is_unsupported first) is
  where
    by : (a b : Bool) → is_text_line (first ∷ s) ≡ b → (c : Bool) → cond a (Ok skips) (cond (not b) (Err which.NotUtf8) (cond c (Err which.Unsupported) (command first s))) ≡ Ok m → IsFair m
    by true b be c is = fair_ok skips m is tt
    by false false be c is = absurd (cc)
    by false true be true is = absurd (cc)
    by false true be false is =
        let parts = and_parts (is_utf8 (first ∷ s)) (list_all (λ b. not (b == 0)) (first ∷ s)) be in
        fair_by first s m (IsUtf8-from_is_utf8 (first ∷ s) parts.0) (all_lack (first ∷ s) parts.1).1
        (first == 40) refl (first == 41) (first == 45) refl (first == 63) refl (first == 65) refl is

fair_within : (limit : ℕ) (line : List ℕ) (m : Line) → line_within limit line ≡ Ok m → IsFair m
fair_within limit line m is = by (nat_lt limit (length line)) is
  where
    by : (t : Bool) → cond t (Err which.Line) (line_of line) ≡ Ok m → IsFair m
    by true is = absurd (cc)
    by false is = fair_line line m is

fair_front : (r : Result Line LineWhich) (rest : Reading) → ((m : Line) → r ≡ Ok m → IsFair m) → AreFair rest.lines → AreFair (in_front r rest).lines
fair_front (Ok m) rest fair more = (fair m refl, more)
fair_front (Err w) rest fair more = tt

fair_reading : (limit : ℕ) (lines : List (List ℕ)) (last : Reading) → AreFair last.lines → AreFair (reading_of limit lines last).lines
fair_reading limit [] last fair = fair
fair_reading limit (line ∷ lines) last fair =
    fair_front (line_within limit line) (reading_of limit lines last) (fair_within limit line) (fair_reading limit lines last fair)

fair_last : (limit : ℕ) (rest : List ℕ) → AreFair (last_line limit rest).lines
fair_last limit [] = tt
fair_last limit (x ∷ xs) = fair_front (line_within limit (x ∷ xs)) nothing_more (fair_within limit (x ∷ xs)) tt

fair_rest : (limit : ℕ) (rest : List ℕ) (ended : Bool) → AreFair (rest_reading limit rest ended).lines
fair_rest limit rest ended = by (nat_lt limit (length rest)) ended
  where
    by : (t e : Bool) → AreFair (cond t (fault_here which.Line) (cond e (last_line limit rest) nothing_more)).lines
    by true e = tt
    by false true = fair_last limit rest
    by false false = tt

-- The lines of bytes are fair.
pub fair_lines : (limit : ℕ) (b : List ℕ) (ended : Bool) → AreFair (lines_of limit b ended).lines
fair_lines limit b ended = fair_reading limit (cut b).lines (rest_reading limit (cut b).rest ended) (fair_rest limit (cut b).rest ended)
