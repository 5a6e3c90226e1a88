use Rattle.std.proofs.Common.{sym, ◌∙◌}
use Rattle.sx_tree.specs.Rows.{entry_of}
use Rattle.sx_tree.proofs.Nearby.{depth_of, next_sibling-open, next_sibling-none, next_sibling-same, next_sibling-other}
use Rattle.sx_tree.proofs.rows.Rows.next_sibling_place.Goals as goal

pub returns-in_err-end : goal.returns-in_err-end
returns-in_err-end c =
    c.from_residual-in_err-end.ensures ∙ sym (next_sibling-open c.args.self.now c.args.k (sym c.in_ok-row.ensures.row.end ∙ c.in_err-end.was))

pub returns-in_err-next : goal.returns-in_err-next
returns-in_err-next c =
    c.from_residual-in_err-next.ensures
    ∙ sym (next_sibling-none c.args.self.now c.args.k c.in_ok-end.end (sym c.in_ok-row.ensures.row.end ∙ c.in_ok-end.was) (sym c.in_err-next.ensures.node))

pub returns-then-next-row : goal.returns-then-next-row
returns-then-next-row c =
    sym (next_sibling-same c.args.self.now c.args.k c.in_ok-end.end (sym c.in_ok-row.ensures.row.end ∙ c.in_ok-end.was)
    (entry_of c.in_ok-next.next.now) c.in_ok-row.ensures.tree (sym c.in_ok-next.ensures.node)
    (c.if-next-row.true ∙ sym (depth_of c.args.self.now.entries c.args.k (entry_of c.in_ok-row.row.now) (sym c.in_ok-row.ensures.node))))

pub returns-else-next-row : goal.returns-else-next-row
returns-else-next-row c =
    sym (next_sibling-other c.args.self.now c.args.k c.in_ok-end.end (sym c.in_ok-row.ensures.row.end ∙ c.in_ok-end.was)
    (entry_of c.in_ok-next.next.now) (sym c.in_ok-next.ensures.node)
    (λ same. c.if-next-row.false (same ∙ depth_of c.args.self.now.entries c.args.k (entry_of c.in_ok-row.row.now) (sym c.in_ok-row.ensures.node))))
