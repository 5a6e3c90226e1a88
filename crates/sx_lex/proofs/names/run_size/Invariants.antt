use Rattle.std.specs.Str.Iter.{char_indices_rest, char_indices_offset}
use Rattle.sx_lex.proofs.Runs.{IsRunTo}
use Rattle.sx_lex.proofs.names.run_size.Given as goal

abbrev pub invariant-loop-place : goal.invariant-loop-place
invariant-loop-place l =
    (goal.iterator-loop-place).can_next l.place-iterator
    × (goal.iterator-loop-place).is_finite l.place-iterator
    × IsRunTo l.text (char_indices_rest l.place-iterator) (char_indices_offset l.place-iterator)
