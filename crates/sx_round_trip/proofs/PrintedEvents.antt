-- The lines of a document are read as its events.
use Rattle.std.proofs.Common.{◌≡◌, ℕ, suc, ◌+◌, ◌<◌, ◌≤◌, Bool, true, false, not, ◌&&◌, List, [], ◌∷◌, ◌++◌, length, take, Option, Some, None, is_some, option_map, refl, sym, ap, ◌∙◌, subst, cond, ltb, arith, append-nil, append_assoc}
use Rattle.std.proofs.lemmas.Bool.{le-ltb, lt-ltb, and_from}
use Rattle.std.proofs.lemmas.List.{take_all, length-append}
use Rattle.std.specs.List.{list_all}
use Rattle.sx_chars.specs.Names.{is_white_space, from_space, without_leading_space}
use Rattle.sx_esis.specs.Lines as esis
use Rattle.sx_limits.specs.declared.limits.Limits.{Limits}
use Rattle.sx_limits.specs.declared.faults.Which.{Which}
use Rattle.sx_limits.specs.declared.faults.Which.TheVariants as which
use Rattle.sx_limits.specs.declared.faults.DocFault.{DocFault}
use Rattle.sx_lines.specs.declared.events.Pair.{Pair}
use Rattle.sx_lines.specs.declared.events.Built.{Built}
use Rattle.sx_lines.specs.declared.events.Built.TheVariants as event
use Rattle.sx_lines.specs.declared.lines.Line.{Line}
use Rattle.sx_lines.specs.declared.lines.Line.TheVariants as kind
use Rattle.sx_lines.specs.Lines.{with_pairs, lines_of_events}
use Rattle.sx_lines.specs.Normal.{IsTarget, AreNormal, whole}
use Rattle.sx_named.specs.Named.{ElementStart}
use Rattle.sx_names.specs.Scope.{ScopeBindings}
use Rattle.sx_tree.specs.Tree as tree
use Rattle.sx_tree.specs.Tree.{TreeEvent}
use Rattle.sx_events.specs.Course.{Lined, Course, course, run_in, events_at, place_behind, by_fault, fault_next, put_events, instruction, rest_of, looked_at, is_beyond, ends_line, reading, last_fault, or_else, last_events, break_of, events_of, whats}
use Rattle.sx_events.specs.Place.{Place, Written, beginning, written, is_empty, spaces_of, ordinary, declares_twice, has_bad, is_bound_prefix, all_bound, attributes_in, has_double, first_is, most_open, own_fault, fault_of, end_fault}
use Rattle.sx_events.proofs.Growths.{whats-append}
use Rattle.sx_events.proofs.Looks.{and_false, and_true}
use Rattle.sx_round_trip.specs.Document.{instruction_text, all_said, all_written, scope_in, IsStart, IsContent, IsDocument, HaveFew, IsWithin, start_in, document_events}
use Rattle.sx_round_trip.proofs.Said.{before_white, before_nothing, target_word}
use Rattle.sx_round_trip.proofs.PrintedLines.{whole_read}

-- what happens in a document
abbrev Events : Type 0
Events = List (TreeEvent ElementStart)

-- ---- courses that are not broken off

-- A course without a fault to an end without one, and what happens in it and at that end.
record Whole (c : Course) (hs : Events) : Type 0 where
  sound : c.fault ≡ None
  ended : end_fault c.place ≡ None
  events : whats (c.events ++ last_events c.place false true) ≡ hs

-- one line more in front
one_more : (f : Option Which) (p : Place) (es : List Lined) (c : Course) (hs : Events) → f ≡ None → Whole c hs → Whole (by_fault p f (put_events es c)) (whats es ++ hs)
one_more (Some w) p es c hs none is = absurd (cc)
one_more None p es c hs none is = record {
  sound = is.sound;
  ended = is.ended;
  events =
      ap whats (append_assoc es c.events (last_events c.place false true)) ∙ whats-append es (c.events ++ last_events c.place false true)
      ∙ ap (λ (x : Events). whats es ++ x) is.events;
}

-- a line that may stand there, in front of such a course
line_more : (limits : Limits) (p : Place) (l : esis.Line) (ls : List esis.Line) (hs : Events) → fault_of limits p l ≡ None
    → Whole (course limits (place_behind p l) ls) hs → Whole (course limits p (l ∷ ls)) (whats (events_at p l) ++ hs)
line_more limits p l ls hs none is = one_more (fault_of limits p l) p (events_at p l) (course limits (place_behind p l) ls) hs none is

-- what happens place_behind a run of text
then_whats : (run : List Lined) (x : Lined) (hs : Events) → whats (run ++ x ∷ []) ++ hs ≡ whats run ++ x.what ∷ hs
then_whats [] x hs = refl
then_whats (l ∷ run) x hs = ap (λ (more : Events). l.what ∷ more) (then_whats run x hs)

-- ---- places

-- a place of a document that has not conformed yet
abbrev place : ℕ → List (List ℕ) → ScopeBindings → Bool → List Written → Bool → List ℕ → ℕ → Place
place lines opened scope has_root attributes is_loose text text_line = record {
  lines = lines;
  opened = opened;
  scope = scope;
  has_root = has_root;
  conformed = false;
  attributes = attributes;
  is_loose = is_loose;
  text = text;
  text_line = text_line;
}

-- the tests of a line, one place_behind the other
passes : (closed early loose mismatch : Bool) (own : Option Which) → closed ≡ false → early ≡ false → loose ≡ false → mismatch ≡ false → own ≡ None
    → cond closed (Some which.AfterRoot) (cond early (Some which.NoRoot) (cond loose (Some which.LooseAttr) (cond mismatch (Some which.EndMismatch) own))) ≡ None
passes closed early loose mismatch own c e l m o =
    ap (λ (v : Bool). cond v (Some which.AfterRoot) (cond early (Some which.NoRoot) (cond loose (Some which.LooseAttr) (cond mismatch (Some which.EndMismatch) own)))) c
    ∙ ap (λ (v : Bool). cond v (Some which.NoRoot) (cond loose (Some which.LooseAttr) (cond mismatch (Some which.EndMismatch) own))) e
    ∙ ap (λ (v : Bool). cond v (Some which.LooseAttr) (cond mismatch (Some which.EndMismatch) own)) l
    ∙ ap (λ (v : Bool). cond v (Some which.EndMismatch) own) m ∙ o

-- the tests of a start, one place_behind the other
start_passes : (twice bad room bound double : Bool) → twice ≡ false → bad ≡ false → room ≡ true → bound ≡ true → double ≡ false
    → cond twice (Some which.DoubleAttr) (cond bad (Some which.BadAttr) (cond (not room) (Some which.Depth) (cond (not bound) (Some which.UnboundPrefix) (cond double (Some which.DoubleAttr) None)))) ≡ None
start_passes true bad room bound double t b r n d = absurd (cc)
start_passes false true room bound double t b r n d = absurd (cc)
start_passes false false false bound double t b r n d = absurd (cc)
start_passes false false true false double t b r n d = absurd (cc)
start_passes false false true true true t b r n d = absurd (cc)
start_passes false false true true false t b r n d = refl

-- something is open where this is the innermost element
some_open : (opened : List (List ℕ)) (name : List ℕ) → first_is opened name ≡ true → is_empty opened ≡ false
some_open [] name first = absurd (cc)
some_open (n ∷ opened) name first = refl

-- ---- lines that may stand there

module _ (limits : Limits) (lines : ℕ) (opened : List (List ℕ)) (scope : ScopeBindings) (has_root : Bool) (attributes : List Written) (is_loose : Bool) (text : List ℕ) (text_line : ℕ) where
  -- the place in front of the line
  abbrev here : Place
  here = place lines opened scope has_root attributes is_loose text text_line

  -- a start may stand place_behind its attributes
  start_stands : (name : List ℕ) (pairs : List Pair) → attributes ≡ all_written pairs → has_root && is_empty opened ≡ false → IsStart limits (length opened) scope name pairs
      → fault_of limits here (esis.starts name) ≡ None
  start_stands name pairs same first is =
      subst (λ (ws : List Written). fault_of limits (place lines opened scope has_root ws is_loose text text_line) (esis.starts name) ≡ None) (sym same)
      (passes ((has_root && is_empty opened) && true) (not has_root && false) (is_loose && false) false (own_fault limits there (esis.starts name))
      (and_true (has_root && is_empty opened) ∙ first) (and_false (not has_root)) (and_false is_loose) refl
      (start_passes (declares_twice (spaces_of (all_written pairs))) (has_bad (spaces_of (all_written pairs))) (ltb (length opened) (most_open limits))
      (is_bound_prefix (scope_in scope pairs) name && all_bound (scope_in scope pairs) (ordinary (all_written pairs))) (has_double (attributes_in (scope_in scope pairs) (ordinary (all_written pairs))))
      is.once is.good (lt-ltb (length opened) (most_open limits) is.room)
      (and_from (is_bound_prefix (scope_in scope pairs) name) (all_bound (scope_in scope pairs) (ordinary (all_written pairs))) is.bound is.all_bound) is.single))
    where
      there : Place
      there = place lines opened scope has_root (all_written pairs) is_loose text text_line

  -- an attribute may stand where there is room for it
  pair_stands : (name value : List ℕ) → has_root && is_empty opened ≡ false → length attributes < limits.attrs → fault_of limits here (esis.has name value) ≡ None
  pair_stands name value first few =
      passes ((has_root && is_empty opened) && true) (not has_root && false) (is_loose && false) false (own_fault limits here (esis.has name value))
      (and_true (has_root && is_empty opened) ∙ first) (and_false (not has_root)) (and_false is_loose) refl
      (ap (λ (v : Bool). cond v None (Some which.Attrs)) (lt-ltb (length attributes) limits.attrs few))

-- lines of no attributes, and none waits
module _ (limits : Limits) (lines : ℕ) (opened : List (List ℕ)) (scope : ScopeBindings) (has_root : Bool) (text : List ℕ) (text_line : ℕ) where
  -- the place in front of the line
  abbrev plain : Place
  plain = place lines opened scope has_root [] false text text_line

  -- in an element the root is not closed
  inside : is_empty opened ≡ false → (has_root && is_empty opened) && true ≡ false
  inside some = and_true (has_root && is_empty opened) ∙ ap (λ (v : Bool). has_root && v) some ∙ and_false has_root

  -- a root has begun
  rooted : has_root ≡ true → not has_root && true ≡ false
  rooted root = ap (λ (v : Bool). not v && true) root

  -- an end of the innermost element may stand there
  end_stands : (name : List ℕ) → first_is opened name ≡ true → has_root ≡ true → fault_of limits plain (esis.ends name) ≡ None
  end_stands name first root =
      passes ((has_root && is_empty opened) && true) (not has_root && true) false (not (first_is opened name)) None
      (inside (some_open opened name first)) (rooted root) refl (ap not first) refl

  -- a text may stand in an element, where none is before it
  text_stands : (s : List ℕ) → is_empty opened ≡ false → has_root ≡ true → text ≡ [] → length s ≤ limits.text_run → fault_of limits plain (esis.says s) ≡ None
  text_stands s some root none short =
      passes ((has_root && is_empty opened) && true) (not has_root && true) false false (own_fault limits plain (esis.says s))
      (inside some) (rooted root) refl refl
      (ap (λ (t : List ℕ). cond (ltb limits.text_run (length (t ++ s))) (Some which.TextRun) None) none
      ∙ ap (λ (v : Bool). cond v (Some which.TextRun) None) (le-ltb limits.text_run (length s) short))

  -- a processing instruction may stand anywhere
  instruction_stands : (s : List ℕ) → fault_of limits plain (esis.instructs s) ≡ None
  instruction_stands s =
      passes ((has_root && is_empty opened) && false) (not has_root && false) false false None
      (and_false (has_root && is_empty opened)) (and_false (not has_root)) refl refl refl

-- at the end of the root the document conforms
conforming : (limits : Limits) (lines : ℕ) (scope : ScopeBindings) (text : List ℕ) (text_line : ℕ)
    → Whole (course limits (place lines [] scope true [] false text text_line) (esis.conforms ∷ [])) (whats (run_in text text_line) ++ tree.closes ∷ [])
conforming limits lines scope text text_line =
    line_more limits (place lines [] scope true [] false text text_line) esis.conforms [] (tree.closes ∷ []) refl (record { sound = refl; ended = refl; events = refl })

-- ---- instructions

-- from the first white space on, what was joined by it
from_white : (s rest : List ℕ) → list_all (λ b. not (is_white_space b)) s ≡ true → from_space (s ++ 32 ∷ rest) ≡ 32 ∷ rest
from_white [] rest all = refl
from_white (b ∷ s) rest all = at (is_white_space b) all (from_white s rest)
  where
    at : (v : Bool) → not v && list_all (λ b. not (is_white_space b)) s ≡ true → (list_all (λ b. not (is_white_space b)) s ≡ true → from_space (s ++ 32 ∷ rest) ≡ 32 ∷ rest)
        → cond v (b ∷ s ++ 32 ∷ rest) (from_space (s ++ 32 ∷ rest)) ≡ 32 ∷ rest
    at true e more = absurd (cc)
    at false e more = more e

-- and nothing where there is none
from_nothing : (s : List ℕ) → list_all (λ b. not (is_white_space b)) s ≡ true → from_space s ≡ []
from_nothing [] all = refl
from_nothing (b ∷ s) all = at (is_white_space b) all (from_nothing s)
  where
    at : (v : Bool) → not v && list_all (λ b. not (is_white_space b)) s ≡ true → (list_all (λ b. not (is_white_space b)) s ≡ true → from_space s ≡ [])
        → cond v (b ∷ s) (from_space s) ≡ []
    at true e more = absurd (cc)
    at false e more = more e

-- an instruction is split where it was joined
instructed : (target content : List ℕ) → IsTarget target → without_leading_space content ≡ content → instruction (instruction_text target content) ≡ tree.instructs target content
instructed target [] is no_space =
    ap (λ (t : List ℕ). tree.instructs t (without_leading_space (from_space target))) (before_nothing target (target_word target is))
    ∙ ap (λ (c : List ℕ). tree.instructs target (without_leading_space c)) (from_nothing target (target_word target is))
instructed target (b ∷ bs) is no_space =
    ap (λ (t : List ℕ). tree.instructs t (without_leading_space (from_space (target ++ 32 ∷ b ∷ bs)))) (before_white target (b ∷ bs) (target_word target is))
    ∙ ap (λ (c : List ℕ). tree.instructs target (without_leading_space c)) (from_white target (b ∷ bs) (target_word target is))
    ∙ ap (tree.instructs target) no_space

-- ---- attributes

module _ (limits : Limits) (opened : List (List ℕ)) (scope : ScopeBindings) (has_root : Bool) (first : has_root && is_empty opened ≡ false) (all : List Written) (ls : List Line) (hs : Events)
    (more : (lines : ℕ) (is_loose : Bool) (text : List ℕ) (text_line : ℕ) → Whole (course limits (place lines opened scope has_root all is_loose text text_line) (all_said ls)) (whats (run_in text text_line) ++ hs)) where
  -- the lines of attributes, where these were read before
  pairs_read : (done : List Written) (pairs : List Pair) → done ++ all_written pairs ≡ all → length done + length pairs ≤ limits.attrs → (lines : ℕ) (is_loose : Bool) (text : List ℕ) (text_line : ℕ)
      → Whole (course limits (place lines opened scope has_root done is_loose text text_line) (all_said (with_pairs pairs ls))) (whats (run_in text text_line) ++ hs)
  pairs_read done [] same few lines is_loose text text_line =
      subst (λ (ws : List Written). Whole (course limits (place lines opened scope has_root ws is_loose text text_line) (all_said ls)) (whats (run_in text text_line) ++ hs))
      (sym same ∙ append-nil done) (more lines is_loose text text_line)
  pairs_read done (p ∷ pairs) same few lines is_loose text text_line =
      line_more limits (place lines opened scope has_root done is_loose text text_line) (esis.has p.name p.value) (all_said (with_pairs pairs ls)) hs
      (pair_stands limits lines opened scope has_root done is_loose text text_line p.name p.value first (omega (arith, few)))
      (pairs_read (done ++ written p.name p.value ∷ []) pairs (append_assoc done (written p.name p.value ∷ []) (all_written pairs) ∙ same) count (suc lines) true [] 0)
    where
      count : length (done ++ written p.name p.value ∷ []) + length pairs ≤ limits.attrs
      count = let sum = length-append done (written p.name p.value ∷ []) in omega (arith, sum, few)

-- ---- documents

-- a run of text that is not empty is one event
run_whats : (s : List ℕ) (line : ℕ) → 0 < length s → whats (run_in s line) ≡ tree.says s ∷ []
run_whats [] line some = absurd (omega (arith, some))
run_whats (b ∷ s) line some = refl

-- the line of a start place_behind those of its attributes
start_read : (limits : Limits) (opened : List (List ℕ)) (scope : ScopeBindings) (has_root : Bool) (name : List ℕ) (pairs : List Pair) (ls : List Line) (hs : Events)
    → has_root && is_empty opened ≡ false → IsStart limits (length opened) scope name pairs
    → ((lines : ℕ) → Whole (course limits (place lines (name ∷ opened) (scope_in scope pairs) true [] false [] 0) (all_said ls)) hs)
    → (lines : ℕ) (is_loose : Bool) (text : List ℕ) (text_line : ℕ)
    → Whole (course limits (place lines opened scope has_root (all_written pairs) is_loose text text_line) (all_said (kind.Start name ∷ ls))) (whats (run_in text text_line) ++ tree.starts (start_in scope name pairs) ∷ hs)
start_read limits opened scope has_root name pairs ls hs first is more lines is_loose text text_line =
    let p = place lines opened scope has_root (all_written pairs) is_loose text text_line in
    subst (λ (xs : Events). Whole (course limits p (all_said (kind.Start name ∷ ls))) xs)
    (then_whats (run_in text text_line) (record { what = tree.starts (start_in scope name pairs); line = suc lines }) hs)
    (line_more limits p (esis.starts name) (all_said ls) hs
    (start_stands limits lines opened scope has_root (all_written pairs) is_loose text text_line name pairs refl first is) (more (suc lines)))

-- What follows is read as its events, place_behind the run of text that waits.
content_read : (limits : Limits) (a : Bool) (es : List Built) (lines : ℕ) (opened : List (List ℕ)) (scope : ScopeBindings) (has_root : Bool) (text : List ℕ) (text_line : ℕ)
    → AreNormal a es → IsContent limits opened scope has_root es → HaveFew limits.attrs es → (is_empty opened ≡ false → has_root ≡ true) → (a ≡ false → text ≡ [])
    → Whole (course limits (place lines opened scope has_root [] false text text_line) (all_said (lines_of_events es))) (whats (run_in text text_line) ++ document_events scope es)
content_read limits a [] lines opened scope has_root text text_line normal content few root run =
    subst (λ (o : List (List ℕ)). Whole (course limits (place lines o scope has_root [] false text text_line) (esis.conforms ∷ [])) (whats (run_in text text_line) ++ tree.closes ∷ [])) (sym content.0)
    (subst (λ (r : Bool). Whole (course limits (place lines [] scope r [] false text text_line) (esis.conforms ∷ [])) (whats (run_in text text_line) ++ tree.closes ∷ [])) (sym content.1)
    (conforming limits lines scope text text_line))
content_read limits a (event.Start name pairs ∷ es) lines opened scope has_root text text_line normal content few root run =
    pairs_read limits opened scope has_root content.0 (all_written pairs) (kind.Start name ∷ lines_of_events es) (document_events scope (event.Start name pairs ∷ es))
    (start_read limits opened scope has_root name pairs (lines_of_events es) (document_events (scope_in scope pairs) es) content.0 content.1
    (λ n. content_read limits false es n (name ∷ opened) (scope_in scope pairs) true [] 0 normal.2 content.2 few.1 (λ e. refl) (λ e. refl)))
    [] pairs refl (let fits = few.0 in omega (arith, fits)) lines false text text_line
content_read limits a (event.End name ∷ es) lines opened scope has_root text text_line normal content few root run =
    let p = place lines opened scope has_root [] false text text_line in
    let has : has_root ≡ true = root (some_open opened name content.0) in
    subst (λ (hs : Events). Whole (course limits p (all_said (kind.End name ∷ lines_of_events es))) hs)
    (then_whats (run_in text text_line) (record { what = tree.ends; line = suc lines }) (document_events (rest_of scope) es))
    (line_more limits p (esis.ends name) (all_said (lines_of_events es)) (document_events (rest_of scope) es)
    (end_stands limits lines opened scope has_root text text_line name content.0 has)
    (content_read limits false es (suc lines) (rest_of opened) (rest_of scope) has_root [] 0 normal.2 content.1 few (λ e. has) (λ e. refl)))
content_read limits a (event.Text s ∷ es) lines opened scope has_root text text_line normal content few root run =
    let p = place lines opened scope has_root [] false text text_line in
    let has : has_root ≡ true = root content.0 in
    let none : text ≡ [] = run (sym (and_true a) ∙ normal.1) in
    subst (λ (hs : Events). Whole (course limits p (all_said (kind.Text s ∷ lines_of_events es))) hs)
    (ap (λ (t : List ℕ). whats (run_in (t ++ s) (suc lines)) ++ document_events scope es) none
    ∙ ap (λ (hs : Events). hs ++ document_events scope es) (run_whats s (suc lines) normal.0.1)
    ∙ ap (λ (t : List ℕ). whats (run_in t text_line) ++ tree.says s ∷ document_events scope es) (sym none))
    (line_more limits p (esis.says s) (all_said (lines_of_events es)) (whats (run_in (text ++ s) (suc lines)) ++ document_events scope es)
    (text_stands limits lines opened scope has_root text text_line s content.0 has none content.1)
    (content_read limits true es (suc lines) opened scope has_root (text ++ s) (suc lines) normal.2 content.2 few root (λ e. absurd (cc))))
content_read limits a (event.Pi target c ∷ es) lines opened scope has_root text text_line normal content few root run =
    let p = place lines opened scope has_root [] false text text_line in
    subst (λ (hs : Events). Whole (course limits p (all_said (kind.Pi target c ∷ lines_of_events es))) hs)
    (then_whats (run_in text text_line) (record { what = instruction (instruction_text target c); line = suc lines }) (document_events scope es)
    ∙ ap (λ (h : TreeEvent ElementStart). whats (run_in text text_line) ++ h ∷ document_events scope es) (instructed target c normal.0.0 content.0))
    (line_more limits p (esis.instructs (instruction_text target c)) (all_said (lines_of_events es)) (document_events scope es)
    (instruction_stands limits lines opened scope has_root text text_line (instruction_text target c))
    (content_read limits false es (suc lines) opened scope has_root [] 0 normal.2 content.1 few root (λ e. refl)))

-- ---- bytes

module _ (limits : Limits) (es : List Built) (is : IsDocument limits es) (within : IsWithin limits es) where
  -- the bytes are within the limit
  not_beyond : is_beyond limits (whole es) ≡ false
  not_beyond = le-ltb limits.bytes (length (whole es)) within.bytes

  -- all bytes are looked at, to their end
  all_looked : looked_at limits (whole es) ≡ whole es
  all_looked =
      ap (λ (v : Bool). cond (v && ends_line limits (whole es)) (take limits.bytes (whole es)) (take (suc limits.bytes) (whole es))) not_beyond
      ∙ take_all (suc limits.bytes) (whole es) (let short = within.bytes in omega (arith, short))

  -- the bytes are read as their lines
  reading_is : reading limits (whole es) true ≡ record { lines = all_said (lines_of_events es); fault = None }
  reading_is =
      ap (λ (v : Bool). esis.lines_of limits.line (looked_at limits (whole es)) (not v)) not_beyond
      ∙ ap (λ (b : List ℕ). esis.lines_of limits.line b true) all_looked
      ∙ whole_read limits.line es is.normal is.zeroless within.line within.lines

  -- the course of these lines
  abbrev course_here : Course
  course_here = course limits beginning (all_said (lines_of_events es))

  -- it is not broken off, and its events are those of the document
  whole_course : Whole course_here (document_events [] es)
  whole_course = content_read limits false es 0 [] [] false [] 0 is.normal is.content within.attributes (λ e. absurd (cc)) (λ e. refl)

  -- where a reading is broken off
  abbrev broken_by : esis.Reading → Bool → Option DocFault
  broken_by r beyond = or_else (course limits beginning r.lines).fault (last_fault (course limits beginning r.lines).place r.fault beyond true)

  -- A printed document is not broken off.
  pub document_sound : break_of limits (whole es) true ≡ None
  document_sound =
      ap (λ (r : esis.Reading). broken_by r (is_beyond limits (whole es))) reading_is
      ∙ ap (broken_by (record { lines = all_said (lines_of_events es); fault = None })) not_beyond
      ∙ ap (λ (f : Option DocFault). or_else f (option_map (fault_next course_here.place) (end_fault course_here.place))) whole_course.sound
      ∙ ap (option_map (fault_next course_here.place)) whole_course.ended

  -- A printed document is read as its own events.
  pub document_read : whats (events_of limits (whole es) true) ≡ document_events [] es
  document_read =
      ap (λ (o : Option DocFault). whats ((course limits beginning (reading limits (whole es) true).lines).events ++ last_events (course limits beginning (reading limits (whole es) true).lines).place (is_some o) true)) document_sound
      ∙ ap (λ (r : esis.Reading). whats ((course limits beginning r.lines).events ++ last_events (course limits beginning r.lines).place false true)) reading_is
      ∙ whole_course.events
