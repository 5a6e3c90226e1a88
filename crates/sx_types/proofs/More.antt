-- What is known of parts together, when there is one more.
use Rattle.std.proofs.Common.{◌≡◌, Bool, true, false, ◌&&◌, ◌||◌, List, [], ◌∷◌, ◌++◌, Option, Some, refl, ap, ◌∙◌}
use Rattle.std.specs.Prelude.{if◌then◌else◌}
use Rattle.std.proofs.lemmas.List.Folds.{list_any-append}
use Rattle.std.specs.List.{list_any}
use Rattle.sx_kinds.specs.Types.{all_source, comma_origin, first_typing, is_positional, is_source, joined_kind, joined_all, joined_start, may_be_node, origins, parts_of_typings, second_of, start_of_all, third_of}
use Rattle.sx_kinds.specs.declared.types.Origin.{Origin}
use Rattle.sx_kinds.specs.declared.types.Origin.TheVariants.{Source, One, Separate, Forest}
use Rattle.sx_kinds.specs.declared.types.Parts.{Parts}
use Rattle.sx_kinds.specs.declared.types.Start.{Start}
use Rattle.sx_kinds.specs.declared.types.TyKind.{TyKind}
use Rattle.sx_kinds.specs.declared.types.TyKind.TheVariants as kinds
use Rattle.sx_kinds.specs.declared.types.Start.TheVariants as starts
use Rattle.sx_kinds.specs.declared.types.Typing.{Typing}
use Rattle.sx_types.specs.Added.{added, behind_with, first_with, joined_origin, origin_with}

first_more : (ts : List Typing) (t : Typing) → first_typing (ts ++ t ∷ []) ≡ first_with (first_typing ts) t
first_more [] t = refl
first_more (u ∷ us) t = refl

second_more : (ts : List Typing) (t : Typing) → second_of (ts ++ t ∷ []) ≡ behind_with (first_typing ts) (second_of ts) t
second_more [] t = refl
second_more (u ∷ us) t = first_more us t

third_more : (ts : List Typing) (t : Typing) → third_of (ts ++ t ∷ []) ≡ behind_with (second_of ts) (third_of ts) t
third_more [] t = refl
third_more (u ∷ us) t = second_more us t

kind_more : (kind : TyKind) (ts : List Typing) (t : Typing) → joined_all kind (ts ++ t ∷ []) ≡ joined_kind (joined_all kind ts) t.ty.kind
kind_more kind [] t = refl
kind_more kind (u ∷ us) t = kind_more (joined_kind kind u.ty.kind) us t

start_more : (start : Start) (ts : List Typing) (t : Typing) → start_of_all start (ts ++ t ∷ []) ≡ joined_start (start_of_all start ts) t.start
start_more start [] t = refl
start_more start (u ∷ us) t = start_more (joined_start start u.start) us t

or_false : (b : Bool) → (b || false) ≡ b
or_false true = refl
or_false false = refl

some_more : (p : Typing → Bool) (ts : List Typing) (t : Typing) → list_any p (ts ++ t ∷ []) ≡ (list_any p ts || p t)
some_more p ts t = list_any-append p ts (t ∷ []) ∙ ap (λ b. list_any p ts || b) (or_false (p t))

-- ---- origins

counted_more : (b : Bool) (o : Origin) (os ps more : List Origin) → ps ≡ os ++ more → (if b then o ∷ ps else ps) ≡ (if b then o ∷ os else os) ++ more
counted_more true o os ps more e = ap (λ (x : List Origin). o ∷ x) e
counted_more false o os ps more e = e

origins_more : (ts : List Typing) (t : Typing) → origins (ts ++ t ∷ []) ≡ origins ts ++ origins (t ∷ [])
origins_more [] t = refl
origins_more (u ∷ us) t =
    counted_more (may_be_node u.ty.kind) u.ty.origin (origins us) (origins (us ++ t ∷ [])) (origins (t ∷ [])) (origins_more us t)

and_true : (a b : Bool) → (a && (b && true)) ≡ (a && b)
and_true true true = refl
and_true true false = refl
and_true false b = refl

and_assoc : (a b c : Bool) → (a && (b && c)) ≡ ((a && b) && c)
and_assoc true b c = refl
and_assoc false b c = refl

all_more : (os : List Origin) (o : Origin) → all_source (os ++ o ∷ []) ≡ (all_source os && is_source o)
all_more [] Source = refl
all_more [] One = refl
all_more [] Separate = refl
all_more [] Forest = refl
all_more (p ∷ os) o = ap (λ b. is_source p && b) (all_more os o) ∙ and_assoc (is_source p) (all_source os) (is_source o)

source_or_forest : (a b : Bool) → (if (a && b) then Source else Forest) ≡ (if (is_source (if a then Source else Forest) && b) then Source else Forest)
source_or_forest true b = refl
source_or_forest false b = refl

comma_more : (os : List Origin) (o : Origin) → comma_origin (os ++ o ∷ []) ≡ Some (joined_origin (comma_origin os) o)
comma_more [] o = refl
comma_more (a ∷ []) o = ap (λ (b : Bool). Some (if b then Source else Forest)) (and_true (is_source a) (is_source o))
comma_more (a ∷ b ∷ os) o =
    ap (λ (x : Bool). Some (if x then Source else Forest)) (all_more (a ∷ b ∷ os) o) ∙
    ap (λ (x : Origin). Some x) (source_or_forest (all_source (a ∷ b ∷ os)) (is_source o))

append_none : (os : List Origin) → os ++ [] ≡ os
append_none [] = refl
append_none (o ∷ os) = ap (λ (x : List Origin). o ∷ x) (append_none os)

counted_last : (b : Bool) (os : List Origin) (o : Origin) → comma_origin (os ++ (if b then o ∷ [] else [])) ≡ (if b then Some (joined_origin (comma_origin os) o) else comma_origin os)
counted_last true os o = comma_more os o
counted_last false os o = ap comma_origin (append_none os)

origin_more : (ts : List Typing) (t : Typing) → comma_origin (origins (ts ++ t ∷ [])) ≡ origin_with (comma_origin (origins ts)) t
origin_more ts t = ap comma_origin (origins_more ts t) ∙ counted_last (may_be_node t.ty.kind) (origins ts) t.ty.origin

-- parts and one more, by what is known of the parts
pub parts_more : (ts : List Typing) (t : Typing) → parts_of_typings (ts ++ t ∷ []) ≡ added (parts_of_typings ts) t
parts_more ts t =
    rw (first_more ts t) (rw (second_more ts t) (rw (third_more ts t) (rw (kind_more kinds.Nothing ts t)
    (rw (origin_more ts t) (rw (start_more starts.Nowhere ts t) (rw (some_more (λ (u : Typing). u.counts) ts t)
    (rw (some_more is_positional ts t) refl)))))))

-- what is made of these fields
pub made : (before : Parts) (t : Typing) {first second third : Option Typing} {kind : TyKind} {origin : Option Origin} {start : Start} {counts positional : Bool} →
    first ≡ first_with before.first t → second ≡ behind_with before.first before.second t → third ≡ behind_with before.second before.third t →
    kind ≡ joined_kind before.kind t.ty.kind → origin ≡ origin_with before.origin t → start ≡ joined_start before.start t.start →
    counts ≡ (before.counts || t.counts) → positional ≡ (before.positional || is_positional t) →
    ◌≡◌ {A = Parts} (record { first = first; second = second; third = third; kind = kind; origin = origin; start = start; counts = counts; positional = positional }) (added before t)
made before t a b c d e f g h = cc
