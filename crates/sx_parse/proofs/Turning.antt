-- A value template that is read piece by piece.
use Rattle.std.proofs.Common.{◌≡◌, ℕ, suc, ◌+◌, ◌*◌, ◌-◌, ◌≤◌, Bool, false, List, [], ◌∷◌, ◌++◌, length, drop, refl, ap, sym, subst, ◌∙◌, arith, add-one, append-nil, append_assoc, length-take-le}
use Rattle.std.proofs.lemmas.Bool.Decides.{nat_tests}
use Rattle.std.specs.Str.{IsUtf8}
use Rattle.sx_kinds.specs.declared.expressions.AvtPart.{AvtPart}
use Rattle.sx_kinds.specs.declared.expressions.AvtPart.TheVariants as avt_part
use Rattle.sx_kinds.specs.declared.expressions.Expr.{Expr}
use Rattle.sx_names.proofs.Places.{KeepsPlaces-trans}
use Rattle.sx_names.specs.Numbering.{KeepsPlaces}
use Rattle.sx_names.specs.Scope.{ScopeBindings}
use Rattle.sx_parse.specs.declared.faults.Numbering.{Numbering}
use Rattle.sx_parse.specs.declared.faults.SyntaxFault.{SyntaxFault}
use Rattle.sx_parse.specs.declared.templates.Next.TheVariants as next
use Rattle.sx_parse.specs.declared.value_templates.Turn.TheVariants as turn
use Rattle.sx_parse.specs.Answers.{IsRefused, is_too_long}
use Rattle.sx_parse.specs.Checks.{most_bytes}
use Rattle.sx_parse.specs.Numbers.{NameEntry}
use Rattle.sx_parse.specs.Parsed.{AreTemplateParts, ArePiecesRead, IsRefusedInside, IsSaid, IsTemplate, IsUnmatched, shifted}
use Rattle.sx_parse.specs.Templates.{Piece, fixed, inner, all_written, piece_written, Breaks, IsNext}
use Rattle.sx_parse.specs.Turning.{IsReadTo, Turns}
use Rattle.sx_parse.proofs.CutTemplates.{cut_begins, cut_fixed, cut_inner, cut_ends, cut_size}
use Rattle.sx_parse.proofs.Pieces.{inner_of, inner_is}

-- ---- one piece more

fixed_push : (scope : ScopeBindings) (line : ℕ) (ps : List Piece) (old : List NameEntry) (n : ℕ) (parts : List AvtPart) (new : List NameEntry) (m : ℕ) (text : List ℕ) →
    AreTemplateParts scope line ps old n parts new m → AreTemplateParts scope line (ps ++ fixed text ∷ []) old n (parts ++ avt_part.Fixed text ∷ []) new m
fixed_push scope line [] old n [] new m text h = (refl, (refl, h.1, h.2))
fixed_push scope line [] old n (part ∷ parts) new m text h = absurd (let never = h.0 in cc)
fixed_push scope line (fixed t ∷ ps) old n [] new m text h = absurd h
fixed_push scope line (fixed t ∷ ps) old n (part ∷ parts) new m text h = (h.0, fixed_push scope line ps old n parts new m text h.1)
fixed_push scope line (inner t ∷ ps) old n [] new m text h = absurd h
fixed_push scope line (inner t ∷ ps) old n (part ∷ parts) new m text h =
    (h.0, h.1, h.2, h.3, h.4, fixed_push scope line ps h.1 h.2 parts new m text h.5)

inner_push : (scope : ScopeBindings) (line : ℕ) (ps : List Piece) (old : List NameEntry) (n : ℕ) (parts : List AvtPart) (new : List NameEntry) (m : ℕ)
    (text : List ℕ) (names : List NameEntry) (k : ℕ) (e : Expr) → AreTemplateParts scope line ps old n parts new m → IsSaid scope text line new m names k e →
    AreTemplateParts scope line (ps ++ inner text ∷ []) old n (parts ++ avt_part.Inner e ∷ []) names k
inner_push scope line [] old n [] new m text names k e h said =
    (e, names, k, refl, subst (λ (a : ℕ). IsSaid scope text line old a names k e) h.2 (subst (λ (a : List NameEntry). IsSaid scope text line a m names k e) h.1 said), (refl, refl, refl))
inner_push scope line [] old n (part ∷ parts) new m text names k e h said = absurd (let never = h.0 in cc)
inner_push scope line (fixed t ∷ ps) old n [] new m text names k e h said = absurd h
inner_push scope line (fixed t ∷ ps) old n (part ∷ parts) new m text names k e h said =
    (h.0, inner_push scope line ps old n parts new m text names k e h.1 said)
inner_push scope line (inner t ∷ ps) old n [] new m text names k e h said = absurd h
inner_push scope line (inner t ∷ ps) old n (part ∷ parts) new m text names k e h said =
    (h.0, h.1, h.2, h.3, h.4, inner_push scope line ps h.1 h.2 parts new m text names k e h.5 said)

read_push : (scope : ScopeBindings) (ps : List Piece) (p : Piece) → ArePiecesRead scope ps → ArePiecesRead scope (p ∷ []) → ArePiecesRead scope (ps ++ p ∷ [])
read_push scope [] p h one = one
read_push scope (fixed t ∷ ps) p h one = read_push scope ps p h one
read_push scope (inner t ∷ ps) p h one = (h.0, read_push scope ps p h.1 one)

-- ---- turns

pub read_begins : (scope : ScopeBindings) (text : List ℕ) (line : ℕ) (old : List NameEntry) (n : ℕ) → IsUtf8 text → IsReadTo scope text line old n 0 [] old n
read_begins scope text line old n utf8 = record {
  pieces = [];
  cut = cut_begins text utf8;
  read = tt;
  parts_are = (refl, refl, refl);
  more = omega arith;
  few = omega arith;
}

-- fixed text stands next
pub turn_fixed : (scope : ScopeBindings) (text : List ℕ) (line : ℕ) (old : List NameEntry) (n offset : ℕ) (parts : List AvtPart) (new : List NameEntry) (m : ℕ)
    (fixed_text : List ℕ) (end : ℕ) → IsNext text offset (next.Fixed fixed_text end) → IsReadTo scope text line old n offset parts new m →
    IsReadTo scope text line old n end (parts ++ avt_part.Fixed fixed_text ∷ []) new m
turn_fixed scope text line old n offset parts new m fixed_text end found h =
    let begins = found.begins in
    let few = h.few in record {
      pieces = h.pieces ++ fixed fixed_text ∷ [];
      cut = cut_fixed text h.pieces offset fixed_text end h.cut found;
      read = read_push scope h.pieces (fixed fixed_text) h.read tt;
      parts_are = fixed_push scope line h.pieces old n parts new m fixed_text h.parts_are;
      more = h.more;
      few = omega (arith, few, begins);
    }

-- the text of an expression stands next, and is read
pub turn_inner : (scope : ScopeBindings) (text : List ℕ) (line : ℕ) (old : List NameEntry) (n offset : ℕ) (parts : List AvtPart) (new : List NameEntry) (m : ℕ)
    (start end : ℕ) (names : List NameEntry) (k : ℕ) (e : Expr) → IsNext text offset (next.Inner start end) → IsReadTo scope text line old n offset parts new m →
    IsSaid scope (inner_of text start end) line new m names k e → k ≤ m + 2 * length (inner_of text start end) →
    IsReadTo scope text line old n (end + 1) (parts ++ avt_part.Inner e ∷ []) names k
turn_inner scope text line old n offset parts new m start end names k e found h said grows =
    let few = h.few in
    let more = h.more in
    let begins = found.begins in
    let order = found.order in
    let next = said.next in
    let size = length-take-le (end - start) (drop start text) (let w = found.front.within in omega (arith, w)) in
    subst (λ (stop : ℕ). IsReadTo scope text line old n stop (parts ++ avt_part.Inner e ∷ []) names k) (sym (add-one end)) (record {
      pieces = h.pieces ++ inner (inner_of text start end) ∷ [];
      cut = cut_inner text h.pieces offset start end h.cut found;
      read = read_push scope h.pieces (inner (inner_of text start end)) h.read ((said.tokens, said.tree, said.is), tt);
      parts_are = inner_push scope line h.pieces old n parts new m (inner_of text start end) names k e h.parts_are said;
      more = omega (arith, more, next);
      few = omega (arith, few, grows, size, begins, order);
    })

-- the text of an expression stands next, and is refused
pub turn_refused : (scope : ScopeBindings) (text : List ℕ) (line : ℕ) (old : List NameEntry) (n offset : ℕ) (parts : List AvtPart) (new : List NameEntry) (m : ℕ)
    (start end : ℕ) (inside : SyntaxFault) → IsNext text offset (next.Inner start end) → IsReadTo scope text line old n offset parts new m →
    IsRefused false scope (inner_of text start end) inside → IsRefusedInside scope text (shifted start inside)
turn_refused scope text line old n offset parts new m start end inside found h refusal = record {
  pieces = h.pieces;
  refused = inner_of text start end;
  are = (cut_inner text h.pieces offset start end h.cut found).cut;
  read = h.read;
  rest = drop (suc end) text;
  text_is = h.cut.written ∙ ap (λ (rest : List ℕ). all_written h.pieces ++ rest) (inner_is text offset start end found)
      ∙ sym (append_assoc (all_written h.pieces) (piece_written (inner (inner_of text start end))) (drop (suc end) text));
  inside = inside;
  refusal = refusal;
  fault_is = ap (λ (place : ℕ). shifted place inside) (found.begins ∙ ap suc (cut_size text h.pieces offset h.cut));
}

-- a brace stands next that nothing matches
pub turn_unmatched : (scope : ScopeBindings) (text : List ℕ) (line : ℕ) (old : List NameEntry) (n offset : ℕ) (parts : List AvtPart) (new : List NameEntry) (m : ℕ)
    (fault : SyntaxFault) → IsNext text offset (next.Fault fault) → IsReadTo scope text line old n offset parts new m → IsUnmatched scope text fault
turn_unmatched scope text line old n offset parts new m fault found h = record {
  pieces = h.pieces;
  are = h.cut.cut;
  read = h.read;
  rest = drop offset text;
  text_is = h.cut.written;
  breaks = subst (λ (place : ℕ). IsNext text offset (next.Fault fault) → Breaks place (drop offset text) fault) (cut_size text h.pieces offset h.cut) (λ b. b) found;
}

-- ---- all turns

-- between turns
pub record IsTurning (scope : ScopeBindings) (text : List ℕ) (old names : List NameEntry) (first at : Numbering) (offset : ℕ) (parts : List AvtPart) : Type 0 where
  pub read : IsReadTo scope text at.line old first.next offset parts names at.next
  pub line : at.line ≡ first.line
  pub kept : KeepsPlaces old names

pub turning_begins : (scope : ScopeBindings) (text : List ℕ) (names : List NameEntry) (at : Numbering) (parts : List AvtPart) → IsUtf8 text → parts ≡ [] →
    IsTurning scope text names names at at 0 parts
turning_begins scope text names at parts utf8 none = record {
  read = subst (λ (ps : List AvtPart). IsReadTo scope text at.line names at.next 0 ps names at.next) (sym none) (read_begins scope text at.line names at.next utf8);
  line = refl;
  kept = λ i within. refl;
}

-- what a turn leaves
pub turning_goes_on : (scope : ScopeBindings) (text : List ℕ) (old names more : List NameEntry) (first at after : Numbering) (offset end : ℕ) (parts pushed : List AvtPart) →
    IsTurning scope text old names first at offset parts → after.line ≡ at.line → KeepsPlaces names more →
    Turns scope text at.line old first.next offset (turn.Behind end) pushed more after.next → IsTurning scope text old more first after end pushed
turning_goes_on scope text old names more first at after offset end parts pushed h line kept turned = record {
  read = subst (λ (l : ℕ). IsReadTo scope text l old first.next end pushed more after.next) (sym line) turned.1;
  line = line ∙ h.line;
  kept = KeepsPlaces-trans old names more h.kept kept;
}

-- all is read
pub all_read : (scope : ScopeBindings) (text : List ℕ) (old names new : List NameEntry) (first at after : Numbering) (offset : ℕ) (parts pushed : List AvtPart) → length text ≤ most_bytes →
    IsTurning scope text old names first at offset parts → after.line ≡ at.line →
    Turns scope text at.line old first.next offset turn.Whole pushed new after.next → IsTemplate scope text old new first after pushed
all_read scope text old names new first at after offset parts pushed short h line turned =
    let r = turned.1 in record {
      within = short;
      pieces = r.pieces;
      are = r.cut.cut;
      text_is = (cut_ends text r.pieces offset r.cut turned.0).written ∙ append-nil (all_written r.pieces);
      parts_are = subst (λ (l : ℕ). AreTemplateParts scope l r.pieces old first.next pushed new after.next) h.line r.parts_are;
      line = line ∙ h.line;
    }

-- a text that is not too long
pub short : (text : List ℕ) (b : Bool) → b ≡ is_too_long text → b ≡ false → length text ≤ most_bytes
short text b is fails = let e : is_too_long text ≡ false = sym is ∙ fails in grind (arith, nat_tests)
