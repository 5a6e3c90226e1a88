-- The pairs of a start: what it declares, then its attributes.
use Rattle.std.proofs.Common.{◌≡◌, ℕ, suc, min, List, [], ◌∷◌, ◌++◌, length, take, drop, refl, ap, ap₂, sym, ◌∙◌, arith, append_assoc, length-append}
use Rattle.std.specs.List.{insert}
use Rattle.std.proofs.lemmas.List.{take_at, drop_at}
use Rattle.sx_lines.specs.declared.events.Pair.{Pair}
use Rattle.sx_build.specs.FixUp.{Binding}
use Rattle.sx_build.specs.Build.{declaration_name, declaration_pairs}

abbrev pub declaration : Binding → Pair
declaration b = record { name = declaration_name b.prefix; value = b.uri }

pub declarations-append : (ds es : List Binding) → declaration_pairs (ds ++ es) ≡ declaration_pairs ds ++ declaration_pairs es
declarations-append [] es = refl
declarations-append (d ∷ ds) es = ap (λ (ps : List Pair). declaration d ∷ ps) (declarations-append ds es)

pub length-declarations : (ds : List Binding) → length (declaration_pairs ds) ≡ length ds
length-declarations [] = refl
length-declarations (d ∷ ds) = ap suc (length-declarations ds)

-- a declaration that is put behind the others
pub declared_more : (ds : List Binding) (b : Binding) (pairs tail : List Pair) (n m : ℕ) → n ≡ length ds → m ≡ length pairs → pairs ≡ declaration_pairs ds ++ tail
    → take (min n m) pairs ++ declaration b ∷ drop (min n m) pairs ≡ declaration_pairs (ds ++ b ∷ []) ++ tail
declared_more ds b pairs tail n m is_n is_m are =
    let front = declaration_pairs ds in
    let place : length front ≡ min n m = omega (arith, length-declarations ds, ap length are, length-append front tail) in
    ap (λ (ps : List Pair). take (min n m) ps ++ declaration b ∷ drop (min n m) ps) are
    ∙ ap₂ (λ (f : List Pair) (t : List Pair). f ++ declaration b ∷ t) (take_at front tail (min n m) place) (drop_at front tail (min n m) place)
    ∙ sym (append_assoc front (declaration b ∷ []) tail)
    ∙ ap (λ (ps : List Pair). ps ++ tail) (sym (declarations-append ds (b ∷ [])))

-- the same of a pair that was inserted there
pub declared_here : (ds : List Binding) (b : Binding) (pairs pairs' tail : List Pair) (n m at : ℕ) (name value : List ℕ)
    → n ≡ length ds → m ≡ length pairs → at ≡ min n m → name ≡ declaration_name b.prefix → value ≡ b.uri
    → pairs' ≡ insert pairs at (record { name = name; value = value }) → pairs ≡ declaration_pairs ds ++ tail
    → pairs' ≡ declaration_pairs (ds ++ b ∷ []) ++ tail
declared_here ds b pairs pairs' tail n m at name value is_n is_m is_at named valued inserted are =
    let p : Pair = record { name = name; value = value } in
    let is : p ≡ declaration b = ap₂ (λ (x y : List ℕ). let q : Pair = record { name = x; value = y } in q) named valued in
    inserted
    ∙ ap₂ (λ (i : ℕ) (q : Pair). take i pairs ++ q ∷ drop i pairs) is_at is
    ∙ declared_more ds b pairs tail n m is_n is_m are
