use Rattle.std.proofs.Common.{length, sym, ◌∙◌, ap, arith}
use Rattle.sx_parse.proofs.Refusals.{few_lexemes, refused_first, refused_there, read_whole, stop_within}
use Rattle.sx_parse.proofs.parsing.understand.Goals as goal
use Rattle.sx_parse.proofs.parsing.understand.Goals.{in-Some-default, in-None-Some, in-None-None}

pub read-requires : goal.read-requires
read-requires c =
    let few = few_lexemes c.args.text.now c.in_ok-lexed.lexed.tokens c.in_ok-lexed.lexed.lexemes c.in_ok-lexed.lexed.stop c.in_ok-lexed.ensures in
    let same = ap length c.as_slice.ensures in
    let short = c.requires in
    omega (arith, few, same, short)

pub fault_in-requires-clause-within : goal.fault_in-requires-clause-within
fault_in-requires-clause-within c =
    stop_within c.args.pattern c.args.text.now c.in_ok-lexed.lexed.tokens c.in_ok-lexed.lexed.lexemes c.in_ok-reading.reading.nodes
    c.in_ok-reading.reading.roles c.in-None-Some.count c.in_ok-lexed.lexed.stop c.in_ok-reading.reading.fault c.in_ok-lexed.ensures
    (rw (sym c.as_slice.ensures) c.in_ok-reading.ensures) (sym c.stop_of.ensures ∙ c.in-None-Some.is-1)

pub returns : goal.returns
returns c = elim c.match-first.branch [
  | in-Some-default w ↦ rw w.result-is (refused_first c.args.pattern c.args.scope.now c.args.text.now c.in_ok-lexed.lexed.tokens c.in_ok-lexed.lexed.lexemes
      c.in_ok-reading.reading.nodes c.in_ok-reading.reading.roles w.in-Some-default.fault c.in_ok-lexed.lexed.stop c.in_ok-reading.reading.fault c.in_ok-lexed.ensures
      (rw (sym c.as_slice.ensures) c.in_ok-reading.ensures) (rw (sym c.as_slice-2.ensures, sym c.as_slice-3.ensures) (sym c.in_ok-first.ensures ∙ w.in-Some-default.is-0)))
  | in-None-Some w ↦ rw w.result-is (rw w.fault_in.ensures (refused_there c.args.pattern c.args.scope.now c.args.text.now c.in_ok-lexed.lexed.tokens c.in_ok-lexed.lexed.lexemes
      c.in_ok-reading.reading.nodes c.in_ok-reading.reading.roles w.in-None-Some.count c.in_ok-lexed.lexed.stop c.in_ok-reading.reading.fault c.in_ok-lexed.ensures
      (rw (sym c.as_slice.ensures) c.in_ok-reading.ensures) (rw (sym c.as_slice-2.ensures, sym c.as_slice-3.ensures) (sym c.in_ok-first.ensures ∙ w.in-None-Some.is-0)) (sym c.stop_of.ensures ∙ w.in-None-Some.is-1)))
  | in-None-None w ↦ rw w.result-is (read_whole c.args.pattern c.args.scope.now c.args.text.now c.in_ok-lexed.lexed.tokens c.in_ok-lexed.lexed.lexemes
      c.in_ok-reading.reading.nodes c.in_ok-reading.reading.roles c.in_ok-lexed.lexed.stop c.in_ok-reading.reading.fault c.in_ok-lexed.ensures
      (rw (sym c.as_slice.ensures) c.in_ok-reading.ensures) (rw (sym c.as_slice-2.ensures, sym c.as_slice-3.ensures) (sym c.in_ok-first.ensures ∙ w.in-None-None.is-0)) (sym c.stop_of.ensures ∙ w.in-None-None.is-1))
]
