use Rattle.std.proofs.Common.{◌≡◌, ◌+◌, ◌-◌, ◌/◌, ◌%◌, ◌<◌, [], ◌∷◌, ◌++◌, arith, sym, ◌∙◌, ap, string_bytes, append_assoc, append-nil}
use Rattle.std.proofs.lemmas.Nat.{mod_below}
use Rattle.sx_atoms.specs.Printing.{places, without_zeros}
use Rattle.sx_atoms.proofs.Places.{ten_pos, zero_left, next_left}
use Rattle.sx_atoms.proofs.printing.append_fraction.Goals as goal

pub nonzero_div-rest : goal.nonzero_div-rest
nonzero_div-rest c = omega (arith, ten_pos (c.loop-rest.places - 1), c.pow-unit.ensures)

pub overflow_cast-rest : goal.overflow_cast-rest
overflow_cast-rest c =
    let next = next_left c.loop-rest.places c.loop-rest.rest (omega arith) c.loop-rest.invariant.1 in
    let digit : c.loop-rest.rest / c.pow-unit.result < 10 = rw c.pow-unit.ensures next.1 in
    omega arith

pub overflow_add-rest : goal.overflow_add-rest
overflow_add-rest c =
    let next = next_left c.loop-rest.places c.loop-rest.rest (omega arith) c.loop-rest.invariant.1 in
    let digit : c.loop-rest.rest / c.pow-unit.result < 10 = rw c.pow-unit.ensures next.1 in
    omega arith

pub nonzero_rem-rest : goal.nonzero_rem-rest
nonzero_rem-rest c = omega (arith, ten_pos (c.loop-rest.places - 1), c.pow-unit.ensures)

pub loop-rest-preserved : goal.loop-rest-preserved
loop-rest-preserved c =
    let n = c.loop-rest.rest in
    let unit = c.pow-unit.result in
    let left = without_zeros (places (c.loop-rest.places - 1) (n % unit)) in
    let next = next_left c.loop-rest.places n (omega arith) c.loop-rest.invariant.1 in
    let digit : n / unit < 10 = rw c.pow-unit.ensures next.1 in
    let more : without_zeros (places c.loop-rest.places n) ≡ (48 + n / unit) ∷ left = rw c.pow-unit.ensures next.2 in
    let pushed : string_bytes c.push.new.self ≡ string_bytes c.loop-rest.out ++ (48 + n / unit) ∷ [] = c.in_ok-push.ensures.bytes ∙ ap (λ x. string_bytes c.loop-rest.out ++ x) (c.in_ok-push.ensures.ascii (omega arith)) in
    (omega arith, rw c.pow-unit.ensures (mod_below n _ (ten_pos (c.loop-rest.places - 1))), rw (pushed, append_assoc, ← more) c.loop-rest.invariant.2)

pub returns : goal.returns
returns c =
    let z : c.loop-rest.rest ≡ 0 = omega arith in
    let e : without_zeros (places c.loop-rest.places c.loop-rest.rest) ≡ [] = rw z (zero_left c.loop-rest.places) in
    sym (append-nil (string_bytes c.loop-rest.out)) ∙ ap (λ x. string_bytes c.loop-rest.out ++ x) (sym e) ∙ c.loop-rest.invariant.2
