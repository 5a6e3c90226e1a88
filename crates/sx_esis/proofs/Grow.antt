-- More bytes only add lines, and behind a fault they change nothing.
use Rattle.std.proofs.Common.{◌≡◌, ℕ, ◌<◌, Bool, true, false, List, [], ◌∷◌, ◌++◌, length, Option, Some, None, Result, Ok, Err, refl, ap, sym, ◌∙◌, subst, cond, ltb, append-nil, arith, length-append}
use Rattle.std.specs.Option.{option_map}
use Rattle.std.proofs.lemmas.Bool.{ltb-true, lt-ltb}
use Rattle.sx_esis.specs.declared.faults.LineWhich.{LineWhich}
use Rattle.sx_esis.specs.declared.faults.LineWhich.TheVariants as which
use Rattle.sx_esis.specs.Lines.{Cut, cut, Line, Fault, Reading, nothing_more, fault_here, one_later, in_front, line_within, line_of, reading_of, last_line, rest_reading, lines_of}
use Rattle.sx_esis.proofs.Cuts.{joined, cut-append}

-- a reading that goes on from another one
pub record Grows (r s : Reading) : Type 0 where
  pub more : List Line
  pub lines : s.lines ≡ r.lines ++ more
  pub stays : (f : Fault) → r.fault ≡ Some f → s ≡ r

grows_same : (r : Reading) → Grows r r
grows_same r = record { more = []; lines = sym (append-nil r.lines); stays = λ f e. refl }

grows_none : (s : Reading) → Grows nothing_more s
grows_none s = record { more = s.lines; lines = refl; stays = λ f e. cc }

grows_front : (o : Result Line LineWhich) (r s : Reading) → Grows r s → Grows (in_front o r) (in_front o s)
grows_front (Err w) r s g = grows_same (fault_here w)
grows_front (Ok line) r s g = record {
  more = g.more;
  lines = ap (λ (ls : List Line). line ∷ ls) g.lines;
  stays = λ f e. front r.fault f e g.stays;
}
  where
    front : (known : Option Fault) (f : Fault) → option_map one_later known ≡ Some f → ((m : Fault) → known ≡ Some m → s ≡ r) → in_front (Ok line) s ≡ in_front (Ok line) r
    front None f e same = cc
    front (Some m) f e same = ap (in_front (Ok line)) (same m refl)

grows_lines : (limit : ℕ) (lines : List (List ℕ)) (r s : Reading) → Grows r s → Grows (reading_of limit lines r) (reading_of limit lines s)
grows_lines limit [] r s g = g
grows_lines limit (line ∷ lines) r s g = grows_front (line_within limit line) (reading_of limit lines r) (reading_of limit lines s) (grows_lines limit lines r s g)

pub reading-append : (limit : ℕ) (xs ys : List (List ℕ)) (last : Reading) → reading_of limit (xs ++ ys) last ≡ reading_of limit xs (reading_of limit ys last)
reading-append limit [] ys last = refl
reading-append limit (x ∷ xs) ys last = ap (in_front (line_within limit x)) (reading-append limit xs ys last)

-- what begins with this rest of a line, where these lines and this rest come behind it
abbrev pub reading_behind : ℕ → List ℕ → List (List ℕ) → List ℕ → Bool → Reading
reading_behind limit rest more last ended = reading_of limit (joined [] rest more last).lines (rest_reading limit (joined [] rest more last).rest ended)

reading-joined : (limit : ℕ) (lines : List (List ℕ)) (rest : List ℕ) (more : List (List ℕ)) (last : List ℕ) (ended : Bool) →
    reading_of limit (joined lines rest more last).lines (rest_reading limit (joined lines rest more last).rest ended) ≡ reading_of limit lines (reading_behind limit rest more last ended)
reading-joined limit lines rest [] last ended = refl
reading-joined limit lines rest (line ∷ more) last ended = reading-append limit lines ((rest ++ line) ∷ more) (rest_reading limit last ended)

pub still_long : (limit : ℕ) (s t : List ℕ) → ltb limit (length s) ≡ true → ltb limit (length (s ++ t)) ≡ true
still_long limit s t long = let over : limit < length s = ltb-true limit (length s) long in lt-ltb limit (length (s ++ t)) (omega (arith, length-append s t))

pub long_line : (limit : ℕ) (line : List ℕ) → ltb limit (length line) ≡ true → line_within limit line ≡ Err which.Line
long_line limit line long = ap (λ (v : Bool). cond v (Err which.Line) (line_of line)) long

pub long_rest : (limit : ℕ) (rest : List ℕ) (ended : Bool) → ltb limit (length rest) ≡ true → rest_reading limit rest ended ≡ fault_here which.Line
long_rest limit rest ended long = ap (λ (v : Bool). cond v (fault_here which.Line) (cond ended (last_line limit rest) nothing_more)) long

-- a rest that is too long is at fault whatever comes behind it
pub long_behind : (limit : ℕ) (rest : List ℕ) (more : List (List ℕ)) (last : List ℕ) (ended : Bool) → ltb limit (length rest) ≡ true → reading_behind limit rest more last ended ≡ fault_here which.Line
long_behind limit rest [] last ended long = long_rest limit (rest ++ last) ended (still_long limit rest last long)
long_behind limit rest (line ∷ more) last ended long =
    ap (λ (o : Result Line LineWhich). in_front o (reading_of limit more (rest_reading limit last ended))) (long_line limit (rest ++ line) (still_long limit rest line long))

grows_rest : (long : Bool) (s : Reading) → (long ≡ true → s ≡ fault_here which.Line) → Grows (cond long (fault_here which.Line) nothing_more) s
grows_rest true s same = subst (λ (t : Reading). Grows (fault_here which.Line) t) (sym (same refl)) (grows_same (fault_here which.Line))
grows_rest false s same = grows_none s

pub lines_grow : (limit : ℕ) (b d : List ℕ) (ended : Bool) → Grows (lines_of limit b false) (lines_of limit (b ++ d) ended)
lines_grow limit b d ended =
    let whole : lines_of limit (b ++ d) ended ≡ reading_of limit (cut b).lines (reading_behind limit (cut b).rest (cut d).lines (cut d).rest ended) =
    ap (λ (c : Cut). reading_of limit c.lines (rest_reading limit c.rest ended)) (cut-append b d)
    ∙ reading-joined limit (cut b).lines (cut b).rest (cut d).lines (cut d).rest ended in
    subst (λ (s : Reading). Grows (lines_of limit b false) s) (sym whole)
    (grows_lines limit (cut b).lines (rest_reading limit (cut b).rest false) (reading_behind limit (cut b).rest (cut d).lines (cut d).rest ended)
    (grows_rest (ltb limit (length (cut b).rest)) (reading_behind limit (cut b).rest (cut d).lines (cut d).rest ended) (long_behind limit (cut b).rest (cut d).lines (cut d).rest ended)))

-- More bytes add lines behind those that the bytes gave.
pub reading_grows : (limit : ℕ) (b d : List ℕ) (ended : Bool) → (more : List Line) × ((lines_of limit (b ++ d) ended).lines ≡ (lines_of limit b false).lines ++ more)
reading_grows limit b d ended = let grown = lines_grow limit b d ended in (grown.more, grown.lines)

-- Where a fault is known, more bytes change nothing.
pub fault_stays : (limit : ℕ) (b d : List ℕ) (ended : Bool) (f : Fault) → (lines_of limit b false).fault ≡ Some f → lines_of limit (b ++ d) ended ≡ lines_of limit b false
fault_stays limit b d ended f met = (lines_grow limit b d ended).stays f met
