-- A value template has one list of pieces.
use Rattle.std.proofs.Common.{◌≡◌, ℕ, ◌⊎◌, inl, inr, Bool, true, false, ◌&&◌, ◌==◌, cond, List, [], ◌∷◌, ◌++◌, refl, ap, sym, subst, ◌∙◌, arith, append_assoc, eq-eqb, get_or}
use Rattle.std.proofs.lemmas.Bool.Decides.{nat_tests}
use Rattle.sx_parse.specs.declared.faults.SyntaxFault.{SyntaxFault}
use Rattle.sx_parse.specs.Templates.{Piece, fixed, inner, all_written, begins_with, closes_in, doubled, ends, is_brace, is_closed, quote_behind, piece_written, ArePieces, Breaks, EndsText, IsCutInPieces, IsUnclosed, IsUnopened, StopsFixed}
use Rattle.sx_parse.proofs.Braces.{closed_step, closes_step}

abbrev Stops : List ℕ → Type 0
Stops rest = EndsText rest ⊎ (IsUnclosed rest ⊎ IsUnopened rest)

-- ---- fixed text

-- what stands behind the first byte of fixed text
abbrev after : Bool → ℕ → List ℕ → List ℕ
after twice c rest = cond twice (c ∷ rest) rest

doubled_first : (c : ℕ) (cs x : List ℕ) → doubled (c ∷ cs) ++ x ≡ c ∷ after (is_brace c) c (doubled cs ++ x)
doubled_first c cs x = by (is_brace c)
  where
    by : (b : Bool) → cond b (c ∷ c ∷ doubled cs) (c ∷ doubled cs) ++ x ≡ c ∷ after b c (doubled cs ++ x)
    by true = refl
    by false = refl

-- fixed text begins where fixed text may go on
pub apart : (c : ℕ) (cs y : List ℕ) → StopsFixed (doubled (c ∷ cs) ++ y) → ⊥
apart c cs y h = by (is_brace c) refl (subst StopsFixed (doubled_first c cs y) h)
  where
    by : (b : Bool) → is_brace c ≡ b → StopsFixed (c ∷ after b c (doubled cs ++ y)) → ⊥
    by true e (brace, single) = let same = eq-eqb c c refl in cc
    by false e (brace, single) = cc

after_same : (b : Bool) (c : ℕ) (x y : List ℕ) → after b c x ≡ after b c y → x ≡ y
after_same true c x y e = cc
after_same false c x y e = e

after_once : (c d : ℕ) (x y : List ℕ) → c ∷ after (is_brace c) c x ≡ d ∷ after (is_brace d) d y → (c ≡ d) × (x ≡ y)
after_once c d x y e =
    let same : c ≡ d = cc in
    let rest : after (is_brace c) c x ≡ after (is_brace d) d y = cc in
    (same, after_same (is_brace c) c x y (rest ∙ ap (λ (n : ℕ). after (is_brace n) n y) (sym same)))

fixed_once : (t u x y : List ℕ) → StopsFixed x → StopsFixed y → doubled t ++ x ≡ doubled u ++ y → (t ≡ u) × (x ≡ y)
fixed_once [] [] x y stops_x stops_y e = (refl, e)
fixed_once [] (d ∷ ds) x y stops_x stops_y e = absurd (apart d ds y (subst StopsFixed e stops_x))
fixed_once (c ∷ cs) [] x y stops_x stops_y e = absurd (apart c cs x (subst StopsFixed (sym e) stops_y))
fixed_once (c ∷ cs) (d ∷ ds) x y stops_x stops_y e =
    let both = after_once c d (doubled cs ++ x) (doubled ds ++ y) (sym (doubled_first c cs x) ∙ e ∙ doubled_first d ds y) in
    let rest = fixed_once cs ds x y stops_x stops_y both.1 in
    (ap (λ (n : ℕ). n ∷ cs) both.0 ∙ ap (λ (zs : List ℕ). d ∷ zs) rest.0, rest.1)

-- ---- the text of an expression

-- what is closed begins with no end
not_end : (q c : ℕ) (cs : List ℕ) → is_closed q (c ∷ cs) ≡ true → ends q c ≡ false
not_end q c cs closed = by (q == 0) (c == 125) refl refl
  where
    by : (none end : Bool) → (q == 0) ≡ none → (c == 125) ≡ end → none && end ≡ false
    by false end e m = refl
    by true false e m = refl
    by true true e m =
        let open_none : q ≡ 0 = grind (arith, nat_tests) in
        let mark : c ≡ 125 = grind (arith, nat_tests) in
        let none : false ≡ true = subst (λ (n : ℕ). is_closed 0 (n ∷ cs) ≡ true) mark (subst (λ (n : ℕ). is_closed n (c ∷ cs) ≡ true) open_none closed) in
        cc

closed_on : (q c : ℕ) (cs : List ℕ) → is_closed q (c ∷ cs) ≡ true → is_closed (quote_behind q c) cs ≡ true
closed_on q c cs closed = sym (closed_step q c cs (not_end q c cs closed)) ∙ closed

no_literal : (q : ℕ) → is_closed q [] ≡ true → q ≡ 0
no_literal q closed = grind (arith, nat_tests)

-- what is closed goes on behind no end
ends_once : (q c : ℕ) (cs x y : List ℕ) → is_closed q [] ≡ true → is_closed q (c ∷ cs) ≡ true → 125 ∷ x ≡ c ∷ y → ⊥
ends_once q c cs x y none closed e =
    let mark : c ≡ 125 = cc in
    let false_true : false ≡ true = subst (λ (n : ℕ). is_closed 0 (n ∷ cs) ≡ true) mark (subst (λ (n : ℕ). is_closed n (c ∷ cs) ≡ true) (no_literal q none) closed) in
    cc

closed_once : (q : ℕ) (t u x y : List ℕ) → is_closed q t ≡ true → is_closed q u ≡ true → t ++ 125 ∷ x ≡ u ++ 125 ∷ y → (t ≡ u) × (x ≡ y)
closed_once q [] [] x y closed_t closed_u e = (refl, cc)
closed_once q [] (d ∷ ds) x y closed_t closed_u e = absurd (ends_once q d ds x (ds ++ 125 ∷ y) closed_t closed_u e)
closed_once q (c ∷ cs) [] x y closed_t closed_u e = absurd (ends_once q c cs y (cs ++ 125 ∷ x) closed_u closed_t (sym e))
closed_once q (c ∷ cs) (d ∷ ds) x y closed_t closed_u e =
    let same : c ≡ d = cc in
    let tail : cs ++ 125 ∷ x ≡ ds ++ 125 ∷ y = cc in
    let rest = closed_once (quote_behind q c) cs ds x y (closed_on q c cs closed_t) (subst (λ (n : ℕ). is_closed (quote_behind q n) ds ≡ true) (sym same) (closed_on q d ds closed_u)) tail in
    (ap (λ (n : ℕ). n ∷ cs) same ∙ ap (λ (zs : List ℕ). d ∷ zs) rest.0, rest.1)

closed_closes : (q : ℕ) (t x : List ℕ) → is_closed q t ≡ true → closes_in q (t ++ 125 ∷ x) ≡ true
closed_closes q [] x closed = ap (λ (n : ℕ). closes_in n (125 ∷ x)) (no_literal q closed)
closed_closes q (c ∷ cs) x closed = closes_step q c (cs ++ 125 ∷ x) (not_end q c cs closed) ∙ closed_closes (quote_behind q c) cs x (closed_on q c cs closed)

inner_first : (t x : List ℕ) → piece_written (inner t) ++ x ≡ 123 ∷ (t ++ 125 ∷ x)
inner_first t x = ap (λ (zs : List ℕ). 123 ∷ zs) (append_assoc t (125 ∷ []) x)

-- no fixed text stands where the text of an expression does
inner_stops : (t x : List ℕ) → begins_with 123 t ≡ false → StopsFixed (piece_written (inner t) ++ x)
inner_stops [] x single = (refl, refl)
inner_stops (c ∷ cs) x single = (refl, single)

-- ---- all pieces

stops_fixed : (rest : List ℕ) → Stops rest → StopsFixed rest
stops_fixed rest (inl none) = subst StopsFixed (sym none) tt
stops_fixed rest (inr (inl brace)) = subst StopsFixed (sym brace.begins) (refl, brace.single)
stops_fixed rest (inr (inr brace)) = subst StopsFixed (sym brace.begins) (refl, brace.single)

pieces_stop : (ps : List Piece) (rest : List ℕ) → ArePieces true ps → Stops rest → StopsFixed (all_written ps ++ rest)
pieces_stop [] rest cut stops = stops_fixed rest stops
pieces_stop (fixed [] ∷ ps) rest cut stops = absurd cut
pieces_stop (fixed (c ∷ cs) ∷ ps) rest cut stops = let never = cut.0 in cc
pieces_stop (inner t ∷ ps) rest cut stops =
    subst StopsFixed (sym (append_assoc (piece_written (inner t)) (all_written ps) rest)) (inner_stops t (all_written ps ++ rest) cut.0)

other_brace : (xs ys : List ℕ) → 123 ∷ xs ≡ 125 ∷ ys → ⊥
other_brace xs ys e =
    let first = ap (λ (s : List ℕ). get_or s 0 0) e in
    omega arith

-- an expression does not stand where a template stops
no_inner : (t x rest : List ℕ) → is_closed 0 t ≡ true → Stops rest → rest ≡ 123 ∷ (t ++ 125 ∷ x) → ⊥
no_inner t x rest closed (inl none) e = cc
no_inner t x rest closed (inr (inl brace)) e =
    let begins = brace.begins in
    let same : t ++ 125 ∷ x ≡ brace.behind = cc in
    let never = brace.never in
    let found : closes_in 0 brace.behind ≡ true = ap (closes_in 0) (sym same) ∙ closed_closes 0 t x closed in
    cc
no_inner t x rest closed (inr (inr brace)) e = other_brace (t ++ 125 ∷ x) brace.behind (sym e ∙ brace.begins)

-- no piece stands where a template stops
no_piece : (b : Bool) (p : Piece) (ps : List Piece) (x rest : List ℕ) → ArePieces b (p ∷ ps) → Stops rest → rest ≡ all_written (p ∷ ps) ++ x → ⊥
no_piece b (fixed []) ps x rest cut stops e = cut
no_piece b (fixed (c ∷ cs)) ps x rest cut stops e =
    apart c cs (all_written ps ++ x) (subst StopsFixed (e ∙ append_assoc (doubled (c ∷ cs)) (all_written ps) x) (stops_fixed rest stops))
no_piece b (inner t) ps x rest cut stops e =
    no_inner t (all_written ps ++ x) rest cut.1 stops (e ∙ append_assoc (piece_written (inner t)) (all_written ps) x ∙ inner_first t (all_written ps ++ x))

no_fixed : (c : ℕ) (cs x t y : List ℕ) → begins_with 123 t ≡ false → doubled (c ∷ cs) ++ x ≡ piece_written (inner t) ++ y → ⊥
no_fixed c cs x t y single e = apart c cs x (subst StopsFixed (sym e) (inner_stops t y single))

pieces_once : (b : Bool) (ps qs : List Piece) (x y : List ℕ) → ArePieces b ps → ArePieces b qs → Stops x → Stops y →
    all_written ps ++ x ≡ all_written qs ++ y → (ps ≡ qs) × (x ≡ y)
pieces_once b [] [] x y cut_p cut_q stops_x stops_y e = (refl, e)
pieces_once b [] (q ∷ qs) x y cut_p cut_q stops_x stops_y e = absurd (no_piece b q qs y x cut_q stops_x e)
pieces_once b (p ∷ ps) [] x y cut_p cut_q stops_x stops_y e = absurd (no_piece b p ps x y cut_p stops_y (sym e))
pieces_once b (fixed [] ∷ ps) (q ∷ qs) x y cut_p cut_q stops_x stops_y e = absurd cut_p
pieces_once b (fixed (c ∷ cs) ∷ ps) (fixed [] ∷ qs) x y cut_p cut_q stops_x stops_y e = absurd cut_q
pieces_once b (fixed (c ∷ cs) ∷ ps) (fixed (d ∷ ds) ∷ qs) x y cut_p cut_q stops_x stops_y e =
    let both = fixed_once (c ∷ cs) (d ∷ ds) (all_written ps ++ x) (all_written qs ++ y) (pieces_stop ps x cut_p.1 stops_x) (pieces_stop qs y cut_q.1 stops_y)
    (sym (append_assoc (doubled (c ∷ cs)) (all_written ps) x) ∙ e ∙ append_assoc (doubled (d ∷ ds)) (all_written qs) y) in
    let rest = pieces_once true ps qs x y cut_p.1 cut_q.1 stops_x stops_y both.1 in
    (ap (λ (t : List ℕ). fixed t ∷ ps) both.0 ∙ ap (λ (zs : List Piece). fixed (d ∷ ds) ∷ zs) rest.0, rest.1)
pieces_once b (fixed (c ∷ cs) ∷ ps) (inner u ∷ qs) x y cut_p cut_q stops_x stops_y e =
    absurd (no_fixed c cs (all_written ps ++ x) u (all_written qs ++ y) cut_q.0
    (sym (append_assoc (doubled (c ∷ cs)) (all_written ps) x) ∙ e ∙ append_assoc (piece_written (inner u)) (all_written qs) y))
pieces_once b (inner t ∷ ps) (fixed [] ∷ qs) x y cut_p cut_q stops_x stops_y e = absurd cut_q
pieces_once b (inner t ∷ ps) (fixed (d ∷ ds) ∷ qs) x y cut_p cut_q stops_x stops_y e =
    absurd (no_fixed d ds (all_written qs ++ y) t (all_written ps ++ x) cut_p.0
    (sym (append_assoc (doubled (d ∷ ds)) (all_written qs) y) ∙ sym e ∙ append_assoc (piece_written (inner t)) (all_written ps) x))
pieces_once b (inner t ∷ ps) (inner u ∷ qs) x y cut_p cut_q stops_x stops_y e =
    let whole : 123 ∷ (t ++ 125 ∷ (all_written ps ++ x)) ≡ 123 ∷ (u ++ 125 ∷ (all_written qs ++ y)) =
    sym (append_assoc (piece_written (inner t)) (all_written ps) x ∙ inner_first t (all_written ps ++ x)) ∙ e ∙ append_assoc (piece_written (inner u)) (all_written qs) y ∙ inner_first u (all_written qs ++ y) in
    let both = closed_once 0 t u (all_written ps ++ x) (all_written qs ++ y) cut_p.1 cut_q.1 (cc) in
    let rest = pieces_once false ps qs x y cut_p.2 cut_q.2 stops_x stops_y both.1 in
    (ap (λ (t : List ℕ). inner t ∷ ps) both.0 ∙ ap (λ (zs : List Piece). inner u ∷ zs) rest.0, rest.1)

pub one_cut : (text rest more : List ℕ) (ps qs : List Piece) → IsCutInPieces text ps rest → IsCutInPieces text qs more → (ps ≡ qs) × (rest ≡ more)
one_cut text rest more ps qs a b = pieces_once false ps qs rest more a.cut b.cut a.stops b.stops (sym a.written ∙ b.written)

-- ---- faults

pub ends_or_breaks : (offset : ℕ) (rest : List ℕ) (fault : SyntaxFault) → EndsText rest → Breaks offset rest fault → ⊥
ends_or_breaks offset rest fault none (inl (brace, is)) = let begins = brace.begins in cc
ends_or_breaks offset rest fault none (inr (brace, is)) = let begins = brace.begins in cc

two_braces : (rest : List ℕ) → IsUnclosed rest → IsUnopened rest → ⊥
two_braces rest a b = other_brace a.behind b.behind (sym a.begins ∙ b.begins)

pub one_fault : (offset : ℕ) (rest : List ℕ) (a b : SyntaxFault) → Breaks offset rest a → Breaks offset rest b → a ≡ b
one_fault offset rest a b (inl (brace, is)) (inl (other, same)) = is ∙ sym same
one_fault offset rest a b (inl (brace, is)) (inr (other, same)) = absurd (two_braces rest brace other)
one_fault offset rest a b (inr (brace, is)) (inl (other, same)) = absurd (two_braces rest other brace)
one_fault offset rest a b (inr (brace, is)) (inr (other, same)) = is ∙ sym same
