-- Whole results, their lines and their events.
use Rattle.std.proofs.Common.{◌≡◌, ℕ, Bool, true, false, ◌&&◌, List, [], ◌∷◌, ◌++◌, Option, Some, None, refl, sym, ap, ◌∙◌, subst, true≢false, append_assoc}
use Rattle.std.proofs.lemmas.List.{append-nil}
use Rattle.sx_lines.specs.declared.events.Pair.{Pair}
use Rattle.sx_lines.specs.declared.events.Built.{Built}
use Rattle.sx_lines.specs.declared.events.Built.TheVariants as event
use Rattle.sx_lines.specs.declared.lines.Line.{Line}
use Rattle.sx_lines.specs.declared.lines.Line.TheVariants as kind
use Rattle.sx_lines.specs.Print.{escape, newline_after, pair_line, pair_lines, content_part, print_all, ends_in_text, ending_of}
use Rattle.sx_lines.specs.Normal.{IsPair, ArePairs, AreNormal}
use Rattle.sx_lines.specs.Lines.{line_bytes, AreLines, joined_lines, ending_line, with_pairs, lines_of_events, put_event, alone, apart, events_of_lines}
use Rattle.sx_lines.proofs.Lacking.{unique_split}
use Rattle.sx_lines.proofs.LineBytes.{line_lacks, not_last, same_line}

-- the lines of attributes are printed as they are
pair_line_is : (p : Pair) (rest : List ℕ) → pair_line p ++ rest ≡ line_bytes (kind.Pair p) ++ 10 ∷ rest
pair_line_is p rest = simp append_assoc

joined-pairs : (ps : List Pair) (ls : List Line) → joined_lines (with_pairs ps ls) ≡ pair_lines ps ++ joined_lines ls
joined-pairs [] ls = refl
joined-pairs (p ∷ ps) ls =
    ap (λ bytes. line_bytes (kind.Pair p) ++ 10 ∷ bytes) (joined-pairs ps ls)
    ∙ sym (pair_line_is p (pair_lines ps ++ joined_lines ls)) ∙ sym (append_assoc (pair_line p) (pair_lines ps) (joined_lines ls))

-- one event in front of the rest of a result
front_of : (n p l r e x : List ℕ) → r ++ e ≡ x → ((n ++ p ++ l) ++ r) ++ e ≡ n ++ (p ++ (l ++ x))
front_of n p l r e x h = simp append_assoc (ap (λ t. n ++ (p ++ (l ++ t))) h)

line_of : (n l r e x : List ℕ) → r ++ e ≡ x → ((n ++ l) ++ r) ++ e ≡ n ++ (l ++ x)
line_of n l r e x h = simp append_assoc (ap (λ t. n ++ (l ++ t)) h)

started : (name : List ℕ) (pairs : List Pair) (rest : List ℕ) → pair_lines pairs ++ ((40 ∷ name ++ 10 ∷ []) ++ (rest ++ ending_line)) ≡ (pair_lines pairs ++ ((40 ∷ name) ++ 10 ∷ rest)) ++ ending_line
started name pairs rest = simp append_assoc

one_line : (bytes rest : List ℕ) → (bytes ++ 10 ∷ []) ++ (rest ++ ending_line) ≡ (bytes ++ 10 ∷ rest) ++ ending_line
one_line bytes rest = simp append_assoc

-- a whole result is its lines, and the last
pub whole_is : (after_text : Bool) (es : List Built) → AreNormal after_text es
    → print_all after_text es ++ ending_of (ends_in_text after_text es) ≡ newline_after after_text ++ (joined_lines (lines_of_events es) ++ ending_line)
whole_is a [] normal = refl
whole_is a (event.Start name pairs ∷ es) normal =
    let rest = joined_lines (lines_of_events es) ++ ending_line in
    front_of (newline_after a) (pair_lines pairs) (40 ∷ name ++ 10 ∷ []) (print_all false es) (ending_of (ends_in_text false es)) rest (whole_is false es normal.2)
    ∙ ap (λ bytes. newline_after a ++ bytes) (started name pairs (joined_lines (lines_of_events es)) ∙ ap (λ bytes. bytes ++ ending_line) (sym (joined-pairs pairs (kind.Start name ∷ lines_of_events es))))
whole_is a (event.End name ∷ es) normal =
    line_of (newline_after a) (41 ∷ name ++ 10 ∷ []) (print_all false es) (ending_of (ends_in_text false es)) (joined_lines (lines_of_events es) ++ ending_line) (whole_is false es normal.2)
    ∙ ap (λ bytes. newline_after a ++ bytes) (one_line (41 ∷ name) (joined_lines (lines_of_events es)))
whole_is true (event.Text text ∷ es) normal = absurd (true≢false normal.1)
whole_is false (event.Text text ∷ es) normal =
    line_of [] (45 ∷ escape text) (print_all true es) (ending_of (ends_in_text true es)) (10 ∷ joined_lines (lines_of_events es) ++ ending_line) (whole_is true es normal.2)
    ∙ sym (append_assoc (45 ∷ escape text) (10 ∷ joined_lines (lines_of_events es)) ending_line)
whole_is a (event.Pi target content ∷ es) normal =
    line_of (newline_after a) (63 ∷ (target ++ content_part content) ++ 10 ∷ []) (print_all false es) (ending_of (ends_in_text false es)) (joined_lines (lines_of_events es) ++ ending_line) (whole_is false es normal.2)
    ∙ ap (λ bytes. newline_after a ++ bytes) (one_line (63 ∷ target ++ content_part content) (joined_lines (lines_of_events es)))

-- lines of normal events are lines
AreLines-pairs : (ps : List Pair) (ls : List Line) → ArePairs ps → AreLines ls → AreLines (with_pairs ps ls)
AreLines-pairs [] ls are those = those
AreLines-pairs (p ∷ ps) ls are those = (are.0, AreLines-pairs ps ls are.1 those)

pub lines_are : (after_text : Bool) (es : List Built) → AreNormal after_text es → AreLines (lines_of_events es)
lines_are a [] normal = tt
lines_are a (event.Start name pairs ∷ es) normal = AreLines-pairs pairs (kind.Start name ∷ lines_of_events es) normal.0.1 (normal.0.0, lines_are false es normal.2)
lines_are a (event.End name ∷ es) normal = (normal.0, lines_are false es normal.2)
lines_are a (event.Text text ∷ es) normal = (normal.0, lines_are true es normal.2)
lines_are a (event.Pi target content ∷ es) normal = (normal.0, lines_are false es normal.2)

pub AreLines-append : (ls ms : List Line) → AreLines ls → AreLines ms → AreLines (ls ++ ms)
AreLines-append [] ms are those = those
AreLines-append (l ∷ ls) ms are those = (are.0, AreLines-append ls ms are.1 those)

pub joined-append : (ls ms : List Line) (rest : List ℕ) → joined_lines (ls ++ ms) ++ rest ≡ joined_lines ls ++ (joined_lines ms ++ rest)
joined-append [] ms rest = refl
joined-append (l ∷ ls) ms rest =
    append_assoc (line_bytes l) (10 ∷ joined_lines (ls ++ ms)) rest ∙ ap (λ bytes. line_bytes l ++ 10 ∷ bytes) (joined-append ls ms rest)
    ∙ sym (append_assoc (line_bytes l) (10 ∷ joined_lines ls) (joined_lines ms ++ rest))

-- a whole result that begins with lines goes on with lines
abbrev pub GoesOn : List Line → List ℕ → List Line → Type 0
GoesOn ls rest ms = (more : List Line) × (ms ≡ ls ++ more) × AreLines more × (rest ≡ joined_lines more ++ ending_line)

pub lines_split : (ls ms : List Line) (rest : List ℕ) → AreLines ls → AreLines ms → joined_lines ls ++ rest ≡ joined_lines ms ++ ending_line → GoesOn ls rest ms
lines_split [] ms rest are those e = (ms, refl, those, e)
lines_split (l ∷ ls) [] rest are those e = absurd (not_last l (10 ∷ joined_lines ls ++ rest) (10 ∷ []) (sym (append_assoc (line_bytes l) (10 ∷ joined_lines ls) rest) ∙ e))
lines_split (l ∷ ls) (m ∷ ms) rest are those e =
    let split = unique_split 10 (line_bytes l) (line_bytes m) (joined_lines ls ++ rest) (joined_lines ms ++ ending_line) (line_lacks l are.0) (line_lacks m those.0)
    (sym (append_assoc (line_bytes l) (10 ∷ joined_lines ls) rest) ∙ e ∙ append_assoc (line_bytes m) (10 ∷ joined_lines ms) ending_line) in
    let behind = lines_split ls ms rest are.1 those.1 split.1 in
    (behind.0, ap (λ x. x ∷ ms) (sym (same_line l m are.0 those.0 split.0)) ∙ ap (λ x. l ∷ x) behind.1, behind.2, behind.3)

-- normal events are those of their lines
started_events : (a : Bool) (before ps : List Pair) (name : List ℕ) (ls : List Line)
    → events_of_lines a before (with_pairs ps (kind.Start name ∷ ls)) ≡ put_event (event.Start name (before ++ ps)) (events_of_lines false [] ls)
started_events a before [] name ls = ap (λ all. put_event (event.Start name all) (events_of_lines false [] ls)) (sym (append-nil before))
started_events a before (p ∷ ps) name ls =
    started_events a (before ++ p ∷ []) ps name ls ∙ ap (λ all. put_event (event.Start name all) (events_of_lines false [] ls)) (append_assoc before (p ∷ []) ps)

pub events_are : (after_text : Bool) (es : List Built) → AreNormal after_text es → events_of_lines after_text [] (lines_of_events es) ≡ Some es
events_are a [] normal = refl
events_are a (event.Start name pairs ∷ es) normal = started_events a [] pairs name (lines_of_events es) ∙ ap (put_event (event.Start name pairs)) (events_are false es normal.2)
events_are a (event.End name ∷ es) normal = ap (put_event (event.End name)) (events_are false es normal.2)
events_are true (event.Text text ∷ es) normal = absurd (true≢false normal.1)
events_are false (event.Text text ∷ es) normal = ap (put_event (event.Text text)) (events_are true es normal.2)
events_are a (event.Pi target content ∷ es) normal = ap (put_event (event.Pi target content)) (events_are false es normal.2)

-- and lines whose events there are are theirs
put_some : (e : Built) (o : Option (List Built)) (es : List Built) → put_event e o ≡ Some es → (fs : List Built) × (o ≡ Some fs) × (es ≡ e ∷ fs)
put_some e None es h = absurd (cc)
put_some e (Some fs) es h = (fs, refl, cc)

alone_some : (ps : List Pair) (o : Option (List Built)) (es : List Built) → alone ps o ≡ Some es → (ps ≡ []) × (o ≡ Some es)
alone_some [] o es h = (refl, h)
alone_some (p ∷ ps) o es h = absurd (cc)

apart_some : (a : Bool) (o : Option (List Built)) (es : List Built) → apart a o ≡ Some es → (a ≡ false) × (o ≡ Some es)
apart_some true o es h = absurd (cc)
apart_some false o es h = (refl, h)

some_is : (es fs : List Built) → ◌≡◌ {A = Option (List Built)} (Some es) (Some fs) → es ≡ fs
some_is es fs h = cc

no_text : (a : Bool) → a && false ≡ false
no_text true = refl
no_text false = refl

with_pairs-push : (ps : List Pair) (p : Pair) (ls : List Line) → with_pairs (ps ++ p ∷ []) ls ≡ with_pairs ps (kind.Pair p ∷ ls)
with_pairs-push [] p ls = refl
with_pairs-push (q ∷ ps) p ls = ap (λ l. kind.Pair q ∷ l) (with_pairs-push ps p ls)

ArePairs-push : (ps : List Pair) (p : Pair) → ArePairs ps → IsPair p → ArePairs (ps ++ p ∷ [])
ArePairs-push [] p are is = (is, tt)
ArePairs-push (q ∷ ps) p are is = (are.0, ArePairs-push ps p are.1 is)

abbrev Says : Bool → List Pair → List Line → List Built → Type 0
Says a ps ls es = (lines_of_events es ≡ with_pairs ps ls) × AreNormal a es

says_alone : (a : Bool) (ps : List Pair) (l : Line) (ls : List Line) (es : List Built) (e : Built) (fs : List Built) → ps ≡ [] → es ≡ e ∷ fs → Says a [] (l ∷ ls) (e ∷ fs) → Says a ps (l ∷ ls) es
says_alone a ps l ls es e fs none is says = subst (λ p. Says a p (l ∷ ls) es) (sym none) (subst (Says a [] (l ∷ ls)) (sym is) says)

pub events_say : (after_text : Bool) (ps : List Pair) (ls : List Line) (es : List Built) → ArePairs ps → AreLines ls → events_of_lines after_text ps ls ≡ Some es → Says after_text ps ls es
events_say a ps [] es are those h =
    let o = alone_some ps (Some []) es h in
    let none : [] ≡ es = some_is [] es o.1 in
    subst (λ p. Says a p [] es) (sym o.0) (subst (Says a [] []) none (refl, tt))
events_say a ps (kind.Pair p ∷ ls) es are those h =
    let rest = events_say a (ps ++ p ∷ []) ls es (ArePairs-push ps p are those.0) those.1 h in
    (rest.0 ∙ with_pairs-push ps p ls, rest.1)
events_say a ps (kind.Start name ∷ ls) es are those h =
    let o = put_some (event.Start name ps) (events_of_lines false [] ls) es h in
    let rest = events_say false [] ls o.0 tt those.1 o.1 in
    subst (Says a ps (kind.Start name ∷ ls)) (sym o.2) (ap (λ l. with_pairs ps (kind.Start name ∷ l)) rest.0, ((those.0, are), no_text a, rest.1))
events_say a ps (kind.End name ∷ ls) es are those h =
    let only = alone_some ps (put_event (event.End name) (events_of_lines false [] ls)) es h in
    let o = put_some (event.End name) (events_of_lines false [] ls) es only.1 in
    let rest = events_say false [] ls o.0 tt those.1 o.1 in
    says_alone a ps (kind.End name) ls es (event.End name) o.0 only.0 o.2 (ap (λ l. kind.End name ∷ l) rest.0, (those.0, no_text a, rest.1))
events_say a ps (kind.Text text ∷ ls) es are those h =
    let free = apart_some a (alone ps (put_event (event.Text text) (events_of_lines true [] ls))) es h in
    let only = alone_some ps (put_event (event.Text text) (events_of_lines true [] ls)) es free.1 in
    let o = put_some (event.Text text) (events_of_lines true [] ls) es only.1 in
    let rest = events_say true [] ls o.0 tt those.1 o.1 in
    says_alone a ps (kind.Text text) ls es (event.Text text) o.0 only.0 o.2 (ap (λ l. kind.Text text ∷ l) rest.0, (those.0, ap (λ b. b && true) free.0, rest.1))
events_say a ps (kind.Pi target content ∷ ls) es are those h =
    let only = alone_some ps (put_event (event.Pi target content) (events_of_lines false [] ls)) es h in
    let o = put_some (event.Pi target content) (events_of_lines false [] ls) es only.1 in
    let rest = events_say false [] ls o.0 tt those.1 o.1 in
    says_alone a ps (kind.Pi target content) ls es (event.Pi target content) o.0 only.0 o.2 (ap (λ l. kind.Pi target content ∷ l) rest.0, (those.0, no_text a, rest.1))
