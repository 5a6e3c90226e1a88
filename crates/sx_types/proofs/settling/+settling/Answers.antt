use Rattle.std.proofs.Common.{◌≡◌, ◌+◌, ◌-◌, ◌/◌, ◌<◌, List, [], ◌∷◌, ◌++◌, IfOk, length, drop, map, Ok, ap, refl, sym, subst, ◌∙◌, ℕ, arith}
use Rattle.sx_kinds.specs.Settled.{TypingPlace, settled_parts, settling_of}
use Rattle.sx_kinds.specs.Types.{each, typing}
use Rattle.sx_kinds.specs.declared.expressions.Expr.{Expr}
use Rattle.sx_kinds.specs.declared.expressions.Expr.TheViews.{out-Expr}
use Rattle.sx_kinds.specs.declared.types.Ty.{Ty}
use Rattle.sx_kinds.specs.Ways.{front, levels}
use Rattle.sx_kinds.specs.declared.walks.Way.TheVariants.{OneFocus}
use Rattle.sx_types.specs.Places.{bindings, place_of}
use Rattle.sx_types.specs.Settling.{IsSettledAt, known_after, next_part}
use Rattle.sx_types.proofs.Firsts.{front_rest, levels_below, part_smaller}
use Rattle.sx_types.proofs.Rewriting.{known_more, parts_end, parts_more, settled_by}
use Rattle.sx_types.proofs.Rising.{begun_none, begun_one, settled_same, settled_there}
use Rattle.sx_types.proofs.settling.+settling.Goals as goal

pub settle_level-loop-part-init : goal.settle_level-loop-part-init
settle_level-loop-part-init t c =
    let form = (out-Expr c.args.e.now).form in
    let place = c.args.place.now in
    let is = c.requires in
    let here : TypingPlace = record { context = c.below.result; current = place.current; group = place.group; vars = bindings place.scope.now } in
    let stands = ap (λ (n : Ty). record { context = n; current = place.current; group = place.group; vars = bindings place.scope.now }) c.below.ensures in
    let behind = c.behind-part-items.ensures ∙ ap (λ (items : List Expr). drop (length items) c.as_slice.result.now) c.as_slice-2.ensures ∙ ap (drop (length c.args.parts)) c.as_slice.ensures in (
      is.0,
      is.1,
      ap (λ (n : Ty). each form n [] (map typing c.args.parts)) c.below.ensures ∙ is.2,
      ap (λ (items : List Expr). c.args.parts ++ settled_parts form here is.0 (map settling_of items)) behind ∙
          ap (λ (w : TypingPlace). c.args.parts ++ settled_parts form w is.0 (map settling_of (drop (length c.args.parts) (out-Expr c.args.e.now).parts))) stands ∙
          is.3 ∙
          ap (λ (w : TypingPlace). settled_parts form w (Ok []) (map settling_of (out-Expr c.args.e.now).parts)) (sym stands),
    )

pub settle_level-settle_part-requires : goal.settle_level-settle_part-requires
settle_level-settle_part-requires t c =
    let k = length c.as_slice-2.result.now in
    let h = part_smaller c.args.e.now c.behind-part-items.result.now c.as_slice.result.now k c.loop-part.part-index c.part-item.result
    c.behind-part-items.ensures c.as_slice.ensures c.loop-part-test.true c.part-item.is in
    (omega (arith, h), tt)

pub settle_level-loop-part-preserved : goal.settle_level-loop-part-preserved
settle_level-loop-part-preserved t c =
    let form = (out-Expr c.args.e.now).form in
    let here : TypingPlace = record { context = c.below.result; current = c.args.place.now.current; group = c.args.place.now.group; vars = bindings c.args.place.now.scope.now } in
    let inv = c.loop-part.invariant in
    let before = inv.0 in
    let part = c.part-item.result in
    let next = next_part form here before part in
    let is = c.in_ok-known.ensures before inv.1 in (
      known_after form here before part,
      is.1,
      ap (λ (ps : List Expr). each form here.context [] (map typing ps)) is.0 ∙ known_more form here before c.loop-part.parts part next inv.2 refl,
      ap (λ (ps : List Expr). ps ++ settled_parts form here (known_after form here before part) (map settling_of (drop (c.loop-part.part-index + 1) c.behind-part-items.result.now))) is.0 ∙
          parts_more form here before c.loop-part.parts c.behind-part-items.result.now c.loop-part.part-index part next c.loop-part-test.true c.part-item.is refl ∙
          inv.3,
    )

pub settle_level-returns : goal.settle_level-returns
settle_level-returns t c =
    let e = c.args.e.now in
    let form = (out-Expr e).form in
    let place = c.args.place.now in
    let here : TypingPlace = record { context = c.below.result; current = place.current; group = place.group; vars = bindings place.scope.now } in
    let inv = c.loop-part.invariant in
    let all = parts_end form here inv.0 c.loop-part.parts c.behind-part-items.result.now c.loop-part.part-index c.loop-part-test.false ∙ inv.3 in
    let stands = ap (λ (n : Ty). record { context = n; current = place.current; group = place.group; vars = bindings place.scope.now }) c.below.ensures in
    let whole = settled_by e (place_of place) here c.loop-part.parts stands all in
    subst (λ (x : Expr). IfOk c.finish.result (λ answer. (c.finish.new.done ≡ c.args.done.now ++ x ∷ []) × (answer ≡ typing x place.context))) (sym whole)
    (c.finish.ensures inv.0 place.context (inv.1, inv.2, c.below.ensures))

pub settle_rise-settle_level-requires : goal.settle_rise-settle_level-requires
settle_rise-settle_level-requires t c =
    let one : c.args.n ≡ 1 = omega arith in
    let is = subst (λ (n : ℕ). IsSettledAt (place_of c.args.place.now) (front OneFocus n c.args.e.now) c.args.parts c.args.known) one c.requires.below in
    let within : 0 < levels OneFocus c.args.e.now = omega (arith, c.requires.within) in
    (omega arith, begun_one c.args.e.now (place_of c.args.place.now) c.args.parts c.args.known c.known_more-first.result within is (c.known_more-first.ensures [] (ap (λ ps. Ok ps) c.none.ensures)))

pub settle_rise-settle_rise-requires : goal.settle_rise-settle_rise-requires
settle_rise-settle_rise-requires t c =
    let half = c.args.n / 2 in
    let middle = c.below-middle.result.now in
    let left = levels_below half c.args.e.now middle (omega (arith, c.requires.within)) c.below-middle.ensures.is in
    let rest = front_rest half c.args.n c.args.e.now middle (omega arith) c.below-middle.ensures.is in (
      omega (arith, c.below-middle.ensures.smaller),
      (
        omega arith,
        (
          omega (arith, left, c.requires.within),
          settled_same (place_of c.args.place.now) (front OneFocus c.args.n c.args.e.now) (front OneFocus (c.args.n - half) middle)
              c.args.parts c.args.known (sym rest) c.requires.below,
        ),
      ),
    )

pub settle_rise-settle_rise-requires-2 : goal.settle_rise-settle_rise-requires-2
settle_rise-settle_rise-requires-2 t c =
    let half = c.args.n / 2 in (
      omega arith,
      (
        omega arith,
        (
          omega (arith, c.requires.within),
          settled_there (place_of c.args.place.now) c.below-middle.result.now (front OneFocus half c.args.e.now)
              c.new-halfway.result c.settle_rise.new.done c.in_ok-answer.answer c.below-middle.ensures.is c.new-halfway.ensures
              c.in_ok-answer.ensures.0 c.in_ok-answer.ensures.1,
        ),
      ),
    )

pub settle_in-settle_level-requires : goal.settle_in-settle_level-requires
settle_in-settle_level-requires t c =
    (omega arith, begun_none c.args.e.now (place_of c.args.place.now) c.new.result c.none.result c.new.ensures c.none.ensures)

pub settle_in-settle_level-requires-2 : goal.settle_in-settle_level-requires-2
settle_in-settle_level-requires-2 t c =
    (omega (arith, c.below-bottom.ensures.smaller), begun_none c.below-bottom.result.now (place_of c.args.place.now) c.new-2.result c.none-2.result c.new-2.ensures c.none-2.ensures)

pub settle_in-settle_rise-requires : goal.settle_in-settle_rise-requires
settle_in-settle_rise-requires t c =
    let n = c.levels-n.result in (
      omega arith,
      (
        omega arith,
        (
          omega (arith, c.levels-n.ensures),
          settled_there (place_of c.args.place.now) c.below-bottom.result.now (front OneFocus n c.args.e.now)
              c.new-parts.result c.settle_level-2.new.done c.in_ok-answer.answer c.below-bottom.ensures.is c.new-parts.ensures
              c.in_ok-answer.ensures.0 c.in_ok-answer.ensures.1,
        ),
      ),
    )
