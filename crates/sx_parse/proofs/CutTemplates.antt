-- A value template that is cut piece by piece.
use Rattle.std.proofs.Common.{◌≡◌, ℕ, suc, ◌⊎◌, inl, inr, Bool, true, false, List, [], ◌∷◌, ◌++◌, length, drop, refl, ap, sym, subst, ◌∙◌, arith, append_assoc, append-nil, length-append, length-drop}
use Rattle.std.proofs.lemmas.Str.{IsCharBoundary-start}
use Rattle.std.specs.Str.{IsUtf8}
use Rattle.sx_parse.specs.declared.faults.SyntaxFault.{SyntaxFault}
use Rattle.sx_parse.specs.declared.templates.Next.TheVariants as next
use Rattle.sx_parse.specs.Templates.{Piece, fixed, inner, all_written, doubled, piece_written, ArePieces, Breaks, IsCutInPieces, IsUnclosed, IsUnopened, IsNext, StopsFixed}
use Rattle.sx_parse.specs.Turning.{IsCutTo, ends_fixed}
use Rattle.sx_parse.proofs.OneTemplate.{apart}
use Rattle.sx_parse.proofs.Pieces.{end_is, fixed_is, fixed_is_some, fixed_stops, inner_of, inner_is, inner_is_closed, inner_is_single}

written_push : (ps : List Piece) (p : Piece) → all_written (ps ++ p ∷ []) ≡ all_written ps ++ piece_written p
written_push [] p = append-nil (piece_written p)
written_push (q ∷ qs) p = ap (λ (rest : List ℕ). piece_written q ++ rest) (written_push qs p) ∙ sym (append_assoc (piece_written q) (all_written qs) (piece_written p))

pieces_push : (flag : Bool) (ps : List Piece) (p : Piece) → ArePieces flag ps → ArePieces (ends_fixed flag ps) (p ∷ []) → ArePieces flag (ps ++ p ∷ [])
pieces_push flag [] p cut one = one
pieces_push flag (fixed [] ∷ ps) p cut one = absurd cut
pieces_push flag (fixed (c ∷ cs) ∷ ps) p cut one = (cut.0, pieces_push true ps p cut.1 one)
pieces_push flag (inner t ∷ ps) p cut one = (cut.0, cut.1, pieces_push false ps p cut.2 one)

ends_inner : (flag : Bool) (ps : List Piece) (t : List ℕ) → ends_fixed flag (ps ++ inner t ∷ []) ≡ false
ends_inner flag [] t = refl
ends_inner flag (fixed u ∷ ps) t = ends_inner true ps t
ends_inner flag (inner u ∷ ps) t = ends_inner false ps t

-- one piece more
pushed : (text : List ℕ) (ps : List Piece) (p : Piece) (offset end : ℕ) → IsCutTo text ps offset → drop offset text ≡ piece_written p ++ drop end text →
    text ≡ all_written (ps ++ p ∷ []) ++ drop end text
pushed text ps p offset end h is =
    h.written
    ∙ ap (λ (rest : List ℕ). all_written ps ++ rest) is
    ∙ sym (append_assoc (all_written ps) (piece_written p) (drop end text))
    ∙ ap (λ (front : List ℕ). front ++ drop end text) (sym (written_push ps p))

pub cut_begins : (text : List ℕ) → IsUtf8 text → IsCutTo text [] 0
cut_begins text utf8 = record { written = refl; cut = tt; apart = λ never. cc; boundary = IsCharBoundary-start text utf8 }

one_fixed : (flag : Bool) (t rest : List ℕ) → (t ≡ [] → ⊥) → (flag ≡ true → StopsFixed (doubled t ++ rest)) → ArePieces flag (fixed t ∷ [])
one_fixed flag [] rest some stops = some refl
one_fixed true (c ∷ cs) rest some stops = absurd (apart c cs rest (stops refl))
one_fixed false (c ∷ cs) rest some stops = (refl, tt)

pub cut_fixed : (text : List ℕ) (ps : List Piece) (offset : ℕ) (fixed_text : List ℕ) (end : ℕ) → IsCutTo text ps offset →
    IsNext text offset (next.Fixed fixed_text end) → IsCutTo text (ps ++ fixed fixed_text ∷ []) end
cut_fixed text ps offset fixed_text end h found =
    let is = fixed_is text offset fixed_text end found in record {
      written = pushed text ps (fixed fixed_text) offset end h is;
      cut = pieces_push false ps (fixed fixed_text) h.cut
          (one_fixed (ends_fixed false ps) fixed_text (drop end text) (fixed_is_some text offset fixed_text end found) (λ last. subst StopsFixed is (h.apart last)));
      apart = λ last. fixed_stops text offset fixed_text end found;
      boundary = found.boundary;
    }

pub cut_inner : (text : List ℕ) (ps : List Piece) (offset start end : ℕ) → IsCutTo text ps offset →
    IsNext text offset (next.Inner start end) → IsCutTo text (ps ++ inner (inner_of text start end) ∷ []) (suc end)
cut_inner text ps offset start end h found = record {
  written = pushed text ps (inner (inner_of text start end)) offset (suc end) h (inner_is text offset start end found);
  cut = pieces_push false ps (inner (inner_of text start end)) h.cut (inner_is_single text offset start end found, inner_is_closed text offset start end found, tt);
  apart = λ last. let none = ends_inner false ps (inner_of text start end) in cc;
  boundary = found.goes_on;
}

-- where a template ends, its pieces are all
pub cut_ends : (text : List ℕ) (ps : List Piece) (offset : ℕ) → IsCutTo text ps offset → IsNext text offset next.End → IsCutInPieces text ps []
cut_ends text ps offset h found = record {
  written = h.written ∙ ap (λ (rest : List ℕ). all_written ps ++ rest) (end_is text offset found);
  cut = h.cut;
  stops = inl refl;
}

-- where a brace is that nothing matches, no more are
pub cut_breaks : (text : List ℕ) (ps : List Piece) (offset : ℕ) (fault : SyntaxFault) → IsCutTo text ps offset → IsNext text offset (next.Fault fault) → IsCutInPieces text ps (drop offset text)
cut_breaks text ps offset fault h found = record { written = h.written; cut = h.cut; stops = at found }
  where
    at : Breaks offset (drop offset text) fault → (drop offset text ≡ []) ⊎ (IsUnclosed (drop offset text) ⊎ IsUnopened (drop offset text))
    at (inl (brace, is)) = inr (inl brace)
    at (inr (brace, is)) = inr (inr brace)

-- the offset counts what its pieces are piece_written with
pub cut_size : (text : List ℕ) (ps : List Piece) (offset : ℕ) → IsCutTo text ps offset → offset ≡ length (all_written ps)
cut_size text ps offset h =
    omega (arith, ap length h.written, length-append (all_written ps) (drop offset text), length-drop offset text, h.boundary.0)
