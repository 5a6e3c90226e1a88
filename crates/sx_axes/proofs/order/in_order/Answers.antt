use Rattle.std.proofs.Common.{◌≡◌, ◌∙◌, rules}
use Rattle.std.proofs.lemmas.Fn.{dedup_same}
use Rattle.std.proofs.lemmas.List.Sorted.{answers_always}
use Rattle.std.specs.List.{dedup}
use Rattle.std.specs.List.Sorted.{IsPermutation, IsSorted}
use Rattle.sx_axes.proofs.order.in_order.Goals as goal
use Rattle.sx_axes.proofs.Sorted.{compared, stands_with, sorted-ordered}
use Rattle.sx_axes.specs.Order.{order_of}

pub returns : goal.returns
returns g c =
    let sorted : IsSorted compared c.sort_unstable_by_key.new.self.items =
    c.sort_unstable_by_key.ensures.sorted order_of (answers_always _ _ _ (λ f a r g h. search rules)) in
    let each : c.dedup_by_key.new.self.items ≡ dedup stands_with c.sort_unstable_by_key.new.self.items =
    dedup_same _ stands_with _ (λ x y b f' x' y' k. search rules) _ _ c.dedup_by_key.ensures.filtered in
    let same : c.in_ok-sorted.sorted.items ≡ c.args.nodes = c.in_ok-sorted.ensures.items ∙ c.as_slice.ensures in
    let moved : IsPermutation c.args.nodes c.sort_unstable_by_key.new.self.items = rw same at c.sort_unstable_by_key.ensures.permutation in
    c.from_vec.ensures ∙ each ∙ sorted-ordered c.args.nodes c.sort_unstable_by_key.new.self.items moved sorted
