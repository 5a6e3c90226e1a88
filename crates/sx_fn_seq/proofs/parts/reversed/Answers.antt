use Rattle.std.proofs.Common.{◌≡◌, ℕ, zero, suc, ◌+◌, ◌<◌, ◌≤◌, List, [], ◌∷◌, ◌++◌, length, take, reverse, Some, None, slice_get, ap, sym, ◌∙◌, arith, length-append}
use Rattle.std.specs.Option.{option_copied}
use Rattle.std.proofs.lemmas.List.{take_more, take_all}
use Rattle.std.proofs.lemmas.Option.{slice_get_within, get_or_from_slice_get}
use Rattle.sx_fn_seq.proofs.parts.reversed.Goals as goal

-- one item more of a front
one_more : {X : Type 0} (all front : List X) (x : X) → front ≡ take (length front) all → slice_get all (length front) ≡ Some x
    → front ++ x ∷ [] ≡ take (length (front ++ x ∷ [])) all
one_more all front x h e =
    let n = length front in
    let within : n < length all = slice_get_within all n x e in
    let longer : length (front ++ x ∷ []) ≡ n + 1 = length-append front (x ∷ []) in
    ap (λ ys. ys ++ x ∷ []) h ∙ ap (λ y. take n all ++ y ∷ []) (sym (get_or_from_slice_get all n x x e))
    ∙ sym (take_more all n x within) ∙ ap (λ k. take k all) (sym longer)

-- nothing stands behind all
none_behind : {X : Type 0} (all : List X) (n : ℕ) → slice_get all n ≡ None → length all ≤ n
none_behind [] n e = omega arith
none_behind (x ∷ xs) zero e = absurd (cc)
none_behind (x ∷ xs) (suc n) e = omega (arith, none_behind xs n e)

pub loop-item-preserved : goal.loop-item-preserved
loop-item-preserved c =
    let at : slice_get (reverse c.args.items.now) (length c.loop-item.atoms) ≡ Some c.in-Some.item.now =
    ap (λ n. slice_get (reverse c.args.items.now) n) (sym c.len.ensures) ∙ sym c.in_reverse.ensures ∙ ap option_copied c.in-Some.is in
    let pushed : c.push.new.self ≡ c.loop-item.atoms ++ c.in-Some.item.now ∷ [] =
    c.in_ok-push.ensures.ok ∙ ap (λ a. c.loop-item.atoms ++ a ∷ []) c.in_ok-copy.ensures in
    rw pushed (one_more (reverse c.args.items.now) c.loop-item.atoms c.in-Some.item.now c.loop-item.invariant at)

pub returns : goal.returns
returns c =
    let at : slice_get (reverse c.args.items.now) (length c.loop-item.atoms) ≡ None =
    ap (λ n. slice_get (reverse c.args.items.now) n) (sym c.len.ensures) ∙ sym c.in_reverse.ensures ∙ ap option_copied c.in_default.is in
    c.loop-item.invariant ∙ take_all (length c.loop-item.atoms) (reverse c.args.items.now) (none_behind (reverse c.args.items.now) (length c.loop-item.atoms) at)
