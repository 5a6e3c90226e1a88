-- The open elements and what they declare.
use Rattle.std.proofs.Common.{◌≡◌, ℕ, ◌+◌, ◌<◌, Bool, true, false, not, nat_lt, leb, List, [], ◌∷◌, ◌++◌, length, take, get_or, refl, ap, sym, ◌∙◌, arith, length-append}
use Rattle.std.proofs.lemmas.Bool.{lt-ltb, le-ltb, leb-true, leb-false}
use Rattle.std.proofs.lemmas.List.{take_more}
use Rattle.sx_tree.specs.declared.events.Space.{Space}
use Rattle.sx_events.specs.Place.{declared_behind}
use Rattle.sx_events.specs.Standing.{AreOpenNames}
use Rattle.sx_names.specs.Scope.{Declarations}

abbrev Declared : Type 0
Declared = Declarations

declared_behind-append : (before : Declared) (ss : List Space) (s : Space) → declared_behind before (ss ++ s ∷ []) ≡ (s.prefix, s.uri) ∷ declared_behind before ss
declared_behind-append before [] s = refl
declared_behind-append before (t ∷ ss) s = declared_behind-append ((t.prefix, t.uri) ∷ before) ss s

-- one declaration more
pub declared_more : (ss : List Space) (i : ℕ) (s : Space) → i < length ss → s ≡ get_or ss i s → declared_behind [] (take (i + 1) ss) ≡ (s.prefix, s.uri) ∷ declared_behind [] (take i ss)
declared_more ss i s within is =
    ap (declared_behind []) (take_more ss i s within ∙ ap (λ (t : Space). take i ss ++ t ∷ []) (sym is))
    ∙ declared_behind-append [] (take i ss) s

-- as many places as names
pub names-length : (text starts : List ℕ) (names : List (List ℕ)) → AreOpenNames text starts names → length starts ≡ length names
names-length text starts [] h = ap (λ (s : List ℕ). length s) h.1
names-length text starts (name ∷ names) h =
    let more = names-length h.0 h.1 names h.4 in
    let is = ap (λ (s : List ℕ). length s) h.3 in
    omega (arith, more, is, length-append h.1 (length h.0 ∷ []))

-- whether as many are open as may be
pub full : (most n : ℕ) → leb most n ≡ not (nat_lt n most)
full most n = by (leb most n) refl
  where
    by : (v : Bool) → leb most n ≡ v → leb most n ≡ not (nat_lt n most)
    by true h = h ∙ sym (ap not (le-ltb n most (leb-true most n h)))
    by false h = h ∙ sym (ap not (lt-ltb n most (leb-false most n h)))
