-- From one piece of a value template to the text behind it.
use Rattle.std.proofs.Common.{◌≡◌, ℕ, zero, suc, ◌-◌, ◌<◌, ◌≤◌, true, false, List, [], ◌∷◌, ◌++◌, length, take, drop, get_or, refl, ap, sym, subst, ◌∙◌, arith, append_assoc, take-append-drop, length-drop, get_or-drop, length-take-le, drop-cons}
use Rattle.std.proofs.lemmas.List.{drop-drop, drop_all}
use Rattle.sx_parse.specs.Templates.{fixed, inner, begins_with, doubled, is_closed, piece_written, EndsText, IsNext, StopsFixed}
use Rattle.sx_parse.specs.declared.templates.Next.TheVariants as next

-- a front of what is left, and what is left behind it
behind : (text : List ℕ) (offset end : ℕ) → offset ≤ end → take (end - offset) (drop offset text) ++ drop end text ≡ drop offset text
behind text offset end order =
    ap (λ (rest : List ℕ). take (end - offset) (drop offset text) ++ rest) (ap (λ (n : ℕ). drop n text) (omega arith) ∙ sym (drop-drop (end - offset) offset text))
    ∙ take-append-drop (end - offset) (drop offset text)

-- fixed text is what stands there
pub fixed_is : (text : List ℕ) (offset : ℕ) (fixed_text : List ℕ) (end : ℕ) → IsNext text offset (next.Fixed fixed_text end) →
    drop offset text ≡ piece_written (fixed fixed_text) ++ drop end text
fixed_is text offset fixed_text end h =
    sym (behind text offset end (let b = h.begins in omega arith)) ∙ ap (λ (front : List ℕ). front ++ drop end text) h.front.written

-- it is not empty
pub fixed_is_some : (text : List ℕ) (offset : ℕ) (fixed_text : List ℕ) (end : ℕ) → IsNext text offset (next.Fixed fixed_text end) → fixed_text ≡ [] → ⊥
fixed_is_some text offset fixed_text end h none =
    let most = h.front.within in
    let some = h.begins in
    let size = ap length (h.front.written ∙ ap doubled none) in
    omega (arith, length-take-le (end - offset) (drop offset text) most)

-- and no fixed text stands behind it
pub fixed_stops : (text : List ℕ) (offset : ℕ) (fixed_text : List ℕ) (end : ℕ) → IsNext text offset (next.Fixed fixed_text end) → StopsFixed (drop end text)
fixed_stops text offset fixed_text end h =
    subst StopsFixed (drop-drop (end - offset) offset text ∙ ap (λ (n : ℕ). drop n text) (let b = h.begins in omega arith)) h.front.stops

-- the text of an expression
abbrev pub inner_of : List ℕ → ℕ → ℕ → List ℕ
inner_of text start end = take (end - start) (drop start text)

-- with its braces it is what stands there
pub inner_is : (text : List ℕ) (offset start end : ℕ) → IsNext text offset (next.Inner start end) →
    drop offset text ≡ piece_written (inner (inner_of text start end)) ++ drop (suc end) text
inner_is text offset start end h =
    let order = h.order in
    let begins = h.begins in
    let size = h.front.within in
    let within : end < length text = omega (arith, length-drop start text) in
    let mark : get_or text end 0 ≡ 125 = ap (λ (n : ℕ). get_or text n 0) (omega arith) ∙ sym (get_or-drop start text (end - start) 0) ∙ h.front.mark in
    let close : drop end text ≡ 125 ∷ drop (suc end) text = drop-cons text end 0 within ∙ ap (λ (c : ℕ). c ∷ drop (suc end) text) mark in
    let first : drop offset text ≡ 123 ∷ drop start text =
    drop-cons text offset 0 (omega arith) ∙ ap (λ (c : ℕ). c ∷ drop (suc offset) text) h.opens ∙ ap (λ (n : ℕ). 123 ∷ drop n text) (sym begins) in
    first
    ∙ ap (λ (rest : List ℕ). 123 ∷ rest) (sym (behind text start end order) ∙ ap (λ (rest : List ℕ). inner_of text start end ++ rest) close ∙ sym (append_assoc (inner_of text start end) (125 ∷ []) (drop (suc end) text)))

pub inner_is_closed : (text : List ℕ) (offset start end : ℕ) → IsNext text offset (next.Inner start end) → is_closed 0 (inner_of text start end) ≡ true
inner_is_closed text offset start end h = h.front.closed

begins_front : (size : ℕ) (text : List ℕ) → begins_with 123 text ≡ false → begins_with 123 (take size text) ≡ false
begins_front zero text e = refl
begins_front (suc size) [] e = refl
begins_front (suc size) (c ∷ cs) e = e

-- it begins with no `{`
pub inner_is_single : (text : List ℕ) (offset start end : ℕ) → IsNext text offset (next.Inner start end) → begins_with 123 (inner_of text start end) ≡ false
inner_is_single text offset start end h = begins_front (end - start) (drop start text) h.single

-- nothing is left
pub end_is : (text : List ℕ) (offset : ℕ) → IsNext text offset next.End → EndsText (drop offset text)
end_is text offset h = drop_all offset text h
