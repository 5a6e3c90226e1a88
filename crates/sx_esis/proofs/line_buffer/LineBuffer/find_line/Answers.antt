use Rattle.std.proofs.Common.{◌∙◌, ap, ℕ, List, ◌-◌, length, take, drop, arith}
use Rattle.std.specs.List.{list_all, slice_range}
use Rattle.sx_esis.specs.Inside.{is_inside}
use Rattle.sx_esis.proofs.BufferLemmas.{found_first, found_none, waits_to_end}
use Rattle.sx_esis.proofs.line_buffer.LineBuffer.find_line.Goals as goal

pub invariant_of-self-clause-one_line : goal.invariant_of-self-clause-one_line
invariant_of-self-clause-one_line c =
    let b = c.args.self.now in
    ap (λ (n : ℕ). list_all is_inside (slice_range b.bytes.items b.start n)) (omega (arith, c.len-self.ensures, b.bytes.ok.0))
    ∙ ap (list_all is_inside) (waits_to_end b.bytes.items b.start)
    ∙ found_none b.bytes.items _ b.start b.searched b.search_begun b.one_line (ap (λ (s : List ℕ). take (length s - b.searched) (drop b.searched s)) c.deref.ensures.value) c.in-None.ensures

pub returns-in-Some-clause-found : goal.returns-in-Some-clause-found
returns-in-Some-clause-found c =
    let b = c.args.self.now in
    found_first b.bytes.items _ b.start b.searched c.in-Some.place b.search_begun b.search_within b.one_line
    (ap (λ (s : List ℕ). take (length s - b.searched) (drop b.searched s)) c.deref.ensures.value) c.in-Some.ensures
