-- How the cut of bytes in two parts follows from the cuts of the parts.
use Rattle.std.proofs.Common.{◌≡◌, ℕ, Bool, true, false, List, [], ◌∷◌, ◌++◌, ◌&&◌, not, refl, ap, ◌∙◌, eqb, cond, append-nil}
use Rattle.std.proofs.lemmas.Bool.{false≢true}
use Rattle.std.specs.List.{list_all}
use Rattle.sx_esis.specs.Lines.{Cut, cut, put_front}
use Rattle.sx_esis.specs.Inside.{is_inside}

-- a byte in front of a cut; the first argument says whether it is a newline
abbrev pub byte_front : Bool → ℕ → List (List ℕ) → List ℕ → Cut
byte_front newline x lines rest = cond newline (record { lines = [] ∷ lines; rest = rest }) (put_front x lines rest)

-- bytes with these lines and this rest, and others behind them, whose lines and rest come next: the rest begins the first line of those
abbrev pub joined : List (List ℕ) → List ℕ → List (List ℕ) → List ℕ → Cut
joined lines rest [] last = record { lines = lines; rest = rest ++ last }
joined lines rest (line ∷ more) last = record { lines = lines ++ (rest ++ line) ∷ more; rest = last }

swap : (newline : Bool) (x : ℕ) (lines : List (List ℕ)) (rest : List ℕ) (more : List (List ℕ)) (last : List ℕ) →
    byte_front newline x (joined lines rest more last).lines (joined lines rest more last).rest ≡ joined (byte_front newline x lines rest).lines (byte_front newline x lines rest).rest more last
swap true x lines rest [] last = refl
swap true x lines rest (line ∷ more) last = refl
swap false x [] rest [] last = refl
swap false x [] rest (line ∷ more) last = refl
swap false x (l ∷ ls) rest [] last = refl
swap false x (l ∷ ls) rest (line ∷ more) last = refl

empty_front : (lines : List (List ℕ)) (rest : List ℕ) → record { lines = lines; rest = rest } ≡ joined [] [] lines rest
empty_front [] rest = refl
empty_front (line ∷ lines) rest = refl

pub cut-append : (b d : List ℕ) → cut (b ++ d) ≡ joined (cut b).lines (cut b).rest (cut d).lines (cut d).rest
cut-append [] d = empty_front (cut d).lines (cut d).rest
cut-append (x ∷ b) d =
    ap (λ (c : Cut). byte_front (eqb x 10) x c.lines c.rest) (cut-append b d)
    ∙ swap (eqb x 10) x (cut b).lines (cut b).rest (cut d).lines (cut d).rest

one_line : (newline : Bool) (x : ℕ) (b : List ℕ) → (not newline && list_all is_inside b) ≡ true → (list_all is_inside b ≡ true → cut b ≡ record { lines = []; rest = b }) →
    byte_front newline x (cut b).lines (cut b).rest ≡ record { lines = []; rest = x ∷ b }
one_line true x b inside behind = absurd (false≢true inside)
one_line false x b inside behind = ap (λ (c : Cut). put_front x c.lines c.rest) (behind inside)

-- bytes without a newline are no more than begun
pub cut-inside : (b : List ℕ) → list_all is_inside b ≡ true → cut b ≡ record { lines = []; rest = b }
cut-inside [] inside = refl
cut-inside (x ∷ b) inside = one_line (eqb x 10) x b inside (cut-inside b)

-- a line, its newline, and other bytes
pub cut-line : (l d : List ℕ) → list_all is_inside l ≡ true → cut (l ++ 10 ∷ d) ≡ record { lines = l ∷ (cut d).lines; rest = (cut d).rest }
cut-line l d inside =
    cut-append l (10 ∷ d)
    ∙ ap (λ (c : Cut). joined c.lines c.rest ([] ∷ (cut d).lines) (cut d).rest) (cut-inside l inside)
    ∙ ap (λ (s : List ℕ). record { lines = s ∷ (cut d).lines; rest = (cut d).rest }) (append-nil l)

-- the begin of a line, and other bytes
pub cut-begun : (l d : List ℕ) → list_all is_inside l ≡ true → cut (l ++ d) ≡ joined [] l (cut d).lines (cut d).rest
cut-begun l d inside = cut-append l d ∙ ap (λ (c : Cut). joined c.lines c.rest (cut d).lines (cut d).rest) (cut-inside l inside)
