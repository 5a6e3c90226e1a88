use Rattle.std.proofs.Common.{sym, arith}
use Rattle.std.proofs.lemmas.Bool.Decides.{nat_tests}
use Rattle.sx_names.proofs.Search.{found_text, absent_text}
use Rattle.sx_names.proofs.text_table.Texts.number.Goals as goal

pub returns-in_err-place-clause-absent : goal.returns-in_err-place-clause-absent
returns-in_err-place-clause-absent c =
    rw (c.from_residual.ensures, ← c.self.view_is) (absent_text c.args.text.now c.self.inside.others.keys (sym c.in_err-place.ensures.found) (grind (arith, nat_tests)))

pub returns-clause-found : goal.returns-clause-found
returns-clause-found c =
    rw (← c.self.view_is) (found_text c.args.text.now c.self.inside.others.keys c.in_ok-place.place (sym c.in_ok-place.ensures.index))
