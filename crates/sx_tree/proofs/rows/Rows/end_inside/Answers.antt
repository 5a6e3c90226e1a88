use Rattle.std.proofs.Common.{◌≡◌, ℕ, true, List, Option, Some, ap, ap₂, sym, subst, ◌∙◌, arith}
use Rattle.sx_tree.specs.Places.{Entry, Places, without_innermost}
use Rattle.sx_tree.specs.Rows.{level_of, places_of_rows}
use Rattle.sx_tree.specs.TreeView.{is_open_place}
use Rattle.sx_tree.proofs.Depths.{open-each}
use Rattle.sx_tree.proofs.Ending.{open-still, same_place, other_place}
use Rattle.sx_tree.proofs.rows.Rows.end_inside.Goals as goal

pub loop-self-smaller : goal.loop-self-smaller
loop-self-smaller c =
    let some = (open-each c.loop-self.self c.args.k c.loop-self.invariant.open_now).below in
    omega (arith, some, ap (λ (t : Places). t.level) c.end.ensures)

pub loop-self-preserved : goal.loop-self-preserved
loop-self-preserved c =
    let rows = c.self.inside.rows.items in
    let innermost = c.self.inside.innermost in
    let before : is_open_place (places_of_rows rows innermost) c.args.k ≡ true =
    subst (λ (t : Places). is_open_place t c.args.k ≡ true) (sym c.self.view_is) c.loop-self.invariant.open_now in
    let still : is_open_place (without_innermost (places_of_rows rows innermost)) c.args.k ≡ true =
    open-still rows innermost c.args.k c.self.invariant (other_place innermost c.args.k c.loop-self-test.ensures) before in
    let same : without_innermost (places_of_rows rows innermost) ≡ c.end.new.self =
    ap (λ (t : Places). without_innermost t) c.self.view_is ∙ sym c.end.ensures in
    record {
      same = ap (λ (t : Places). t.entries) c.end.ensures ∙ c.loop-self.invariant.same;
      open_now = subst (λ (t : Places). is_open_place t c.args.k ≡ true) same still;
    }

pub returns : goal.returns
returns c =
    let rows = c.self.inside.rows.items in
    let innermost = c.self.inside.innermost in
    let here : innermost ≡ Some c.args.k = same_place innermost c.args.k c.loop-self-test.ensures in
    let entries : (places_of_rows rows innermost).entries ≡ c.args.self.now.entries =
    ap (λ (t : Places). t.entries) c.self.view_is ∙ c.loop-self.invariant.same in
    sym c.self.view_is
    ∙ ap₂ (λ (es : List Entry) (o : Option ℕ). record { entries = es; level = level_of es o }) entries here
