-- Built events that are a document, and the events that they are read as.
use Rattle.std.specs.Prelude.{◌≡◌, ℕ, ◌<◌, ◌≤◌, Bool, true, false, ◌&&◌, List, [], ◌∷◌, ◌++◌, length}
use Rattle.sx_chars.specs.Names.{without_leading_space}
use Rattle.sx_esis.specs.Lines as esis
use Rattle.sx_lines.specs.declared.events.Pair.{Pair}
use Rattle.sx_lines.specs.declared.events.Built.{Built}
use Rattle.sx_lines.specs.declared.events.Built.TheVariants as event
use Rattle.sx_lines.specs.declared.lines.Line.{Line}
use Rattle.sx_lines.specs.declared.lines.Line.TheVariants as kind
use Rattle.sx_lines.specs.Lines.{Lacks, line_bytes, lines_of_events}
use Rattle.sx_lines.specs.Normal.{IsNormal, whole}
use Rattle.sx_limits.specs.declared.limits.Limits.{Limits}
use Rattle.sx_events.specs.Course.{rest_of}
use Rattle.sx_events.specs.Place.{Written, written, is_empty, spaces_of, ordinary, declares_twice, has_bad, declared_behind, is_bound_prefix, all_bound, element_name, attributes_in, has_double, first_is, most_open}
use Rattle.sx_named.specs.Named.{ElementStart}
use Rattle.sx_names.specs.Scope.{ScopeBindings}
use Rattle.sx_tree.specs.Tree.{TreeEvent, starts, ends, says, instructs, closes}

-- ---- lines

-- a processing instruction: its target, and behind a space its content, where there is one
abbrev pub instruction_text : List ℕ → List ℕ → List ℕ
instruction_text target [] = target
instruction_text target (b ∷ bs) = target ++ 32 ∷ b ∷ bs

-- what a line says, as a document's reader has it
abbrev pub said : Line → esis.Line
said (kind.Pair p) = esis.has p.name p.value
said (kind.Start name) = esis.starts name
said (kind.End name) = esis.ends name
said (kind.Text text) = esis.says text
said (kind.Pi target content) = esis.instructs (instruction_text target content)

-- what lines say, and at last that the document conformed
abbrev pub all_said : List Line → List esis.Line
all_said [] = esis.conforms ∷ []
all_said (l ∷ ls) = said l ∷ all_said ls

-- each of these lines has at most so many bytes
abbrev pub AreShort : ℕ → List Line → Type 0
AreShort limit [] = Unit {0}
AreShort limit (l ∷ ls) = (length (line_bytes l) ≤ limit) × AreShort limit ls

-- no value of these attributes has a zero in it
abbrev pub PairsLackZero : List Pair → Type 0
PairsLackZero [] = Unit {0}
PairsLackZero (p ∷ ps) = Lacks 0 p.value × PairsLackZero ps

-- no text of these events has a zero in it: no document can say one
abbrev pub LackZero : List Built → Type 0
LackZero [] = Unit {0}
LackZero (event.Start name pairs ∷ es) = PairsLackZero pairs × LackZero es
LackZero (event.End name ∷ es) = LackZero es
LackZero (event.Text text ∷ es) = Lacks 0 text × LackZero es
LackZero (event.Pi target content ∷ es) = Lacks 0 content × LackZero es

-- ---- documents (Namespaces in XML 1.0, 3 to 6)

-- attributes as they are written
abbrev pub all_written : List Pair → List Written
all_written [] = []
all_written (p ∷ ps) = written p.name p.value ∷ all_written ps

-- what is declared in an element with these attributes
abbrev pub scope_in : ScopeBindings → List Pair → ScopeBindings
scope_in scope pairs = declared_behind [] (spaces_of (all_written pairs)) ∷ scope

-- Where so many elements are open and this is declared, an element of this name may start with these attributes: there is
-- room for it; no prefix is declared twice or badly; each prefix is bound; and no two attributes have one name.
pub record IsStart (limits : Limits) (depth : ℕ) (scope : ScopeBindings) (name : List ℕ) (pairs : List Pair) : Type 0 where
  pub room : depth < most_open limits
  pub once : declares_twice (spaces_of (all_written pairs)) ≡ false
  pub good : has_bad (spaces_of (all_written pairs)) ≡ false
  pub bound : is_bound_prefix (scope_in scope pairs) name ≡ true
  pub all_bound : all_bound (scope_in scope pairs) (ordinary (all_written pairs)) ≡ true
  pub single : has_double (attributes_in (scope_in scope pairs) (ordinary (all_written pairs))) ≡ false

-- What follows where elements of these names are open, the innermost first, and declare this, and a root has or has not
-- begun: one root, each end of the innermost element, texts inside of elements and no longer than the limit, contents of
-- processing instructions that begin with no white space, and no element open at the end.
abbrev pub IsContent : Limits → List (List ℕ) → ScopeBindings → Bool → List Built → Type 0
IsContent limits opened scope has_root [] = (opened ≡ []) × (has_root ≡ true)
IsContent limits opened scope has_root (event.Start name pairs ∷ es) =
    (has_root && is_empty opened ≡ false) × IsStart limits (length opened) scope name pairs
    × IsContent limits (name ∷ opened) (scope_in scope pairs) true es
IsContent limits opened scope has_root (event.End name ∷ es) =
    (first_is opened name ≡ true) × IsContent limits (rest_of opened) (rest_of scope) has_root es
IsContent limits opened scope has_root (event.Text text ∷ es) =
    (is_empty opened ≡ false) × (length text ≤ limits.text_run) × IsContent limits opened scope has_root es
IsContent limits opened scope has_root (event.Pi target content ∷ es) =
    (without_leading_space content ≡ content) × IsContent limits opened scope has_root es

-- A normal list that is a whole document.
pub record IsDocument (limits : Limits) (es : List Built) : Type 0 where
  pub normal : IsNormal es
  pub zeroless : LackZero es
  pub content : IsContent limits [] [] false es

-- each start has at most so many attributes, with those that declare namespaces
abbrev pub HaveFew : ℕ → List Built → Type 0
HaveFew limit [] = Unit {0}
HaveFew limit (event.Start name pairs ∷ es) = (length pairs ≤ limit) × HaveFew limit es
HaveFew limit (event.End name ∷ es) = HaveFew limit es
HaveFew limit (event.Text text ∷ es) = HaveFew limit es
HaveFew limit (event.Pi target content ∷ es) = HaveFew limit es

-- What is printed of a document keeps within the limits of a document: each line, each start, and the bytes.
pub record IsWithin (limits : Limits) (es : List Built) : Type 0 where
  pub line : 1 ≤ limits.line
  pub lines : AreShort limits.line (lines_of_events es)
  pub attributes : HaveFew limits.attrs es
  pub bytes : length (whole es) ≤ limits.bytes

-- the start of an element, where this is declared around it
abbrev pub start_in : ScopeBindings → List ℕ → List Pair → ElementStart
start_in scope name pairs =
    let inner = scope_in scope pairs in
    record {
      name = element_name inner name;
      attributes = attributes_in inner (ordinary (all_written pairs));
      spaces = spaces_of (all_written pairs);
    }

-- the events of a document where this is declared, and its close
abbrev pub document_events : ScopeBindings → List Built → List (TreeEvent ElementStart)
document_events scope [] = closes ∷ []
document_events scope (event.Start name pairs ∷ es) = starts (start_in scope name pairs) ∷ document_events (scope_in scope pairs) es
document_events scope (event.End name ∷ es) = ends ∷ document_events (rest_of scope) es
document_events scope (event.Text text ∷ es) = says text ∷ document_events scope es
document_events scope (event.Pi target content ∷ es) = instructs target content ∷ document_events scope es
