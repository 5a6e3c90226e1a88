use Rattle.std.proofs.Common.{◌≡◌, suc, ◌+◌, ◌-◌, ◌<◌, ◌∷◌, ◌++◌, length, take, drop, get_or, sym, ap, ◌∙◌, length-drop, arith}
use Rattle.std.proofs.lemmas.List.{take_all}
use Rattle.std.proofs.lemmas.Bool.Decides.{Decides-eqb}
use Rattle.sx_lines.proofs.Lacking.{none_at, none_before, split_there}
use Rattle.sx_lines.proofs.lines.split_at_byte.Goals as goal

pub returns-in-Some : goal.returns-in-Some
returns-in-Some c =
    let s = c.args.bytes.now in
    let k = c.in-Some.place in
    let found = c.in-Some.ensures in
    let within : k < length s = found.0.high in
    let next : k + 1 ≡ suc k = omega arith in
    let all : take (length s - (k + 1)) (drop (k + 1) s) ≡ drop (suc k) s =
    take_all (length s - (k + 1)) (drop (k + 1) s) (omega (arith, length-drop (k + 1) s)) ∙ ap (λ n. drop n s) next in (
      none_before c.args.mark s k (λ j h e. found.0.before j (omega arith) h ((Decides-eqb (get_or s j 0) c.args.mark).1 e)) (omega arith),
      split_there c.args.mark s k within ((Decides-eqb (get_or s k 0) c.args.mark).0 found.1) ∙ ap (λ t. take k s ++ c.args.mark ∷ t) (sym all),
    )

pub returns-in-None : goal.returns-in-None
returns-in-None c = none_at c.args.mark c.args.bytes.now (λ k h e. c.in-None.ensures k (omega arith) h ((Decides-eqb (get_or c.args.bytes.now k 0) c.args.mark).1 e))
