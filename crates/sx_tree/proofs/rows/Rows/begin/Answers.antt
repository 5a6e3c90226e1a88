use Rattle.std.proofs.Common.{◌≡◌, ◌+◌, suc, refl, Bool, Some, None, cond, ap, sym, ◌∙◌, arith}
use Rattle.sx_tree.specs.Places.{with_node}
use Rattle.sx_tree.specs.Rows.{content_of}
use Rattle.sx_tree.proofs.Growing.{HasBegun, begins-opened, begins-ended}
use Rattle.sx_tree.proofs.rows.Rows.begin.Goals as goal
use Rattle.sx_tree.proofs.rows.Rows.begin.Goals.{then-opens, else-opens}

-- the node is open
opened : (c : goal.After-self-1)
    → HasBegun c.push.new.self.items (Some c.len-place.result) c.args.self.now (content_of c.args.content) (suc c.args.self.now.level)
opened c =
    let ends : c.if-opens.row ≡ None = elim c.if-opens.branch [ then-opens w ↦ w.row-is | else-opens w ↦ cc ] in
    begins-opened c.self.inside.rows.items c.push.new.self.items c.self.inside.innermost c.args.self.now
    (record { content = c.args.content; depth = c.level.result; parent = c.self.inside.innermost; end = c.if-opens.row })
    (record {
      known = c.self.invariant;
      places = c.self.view_is;
      room = c.requires;
      depth = c.level.ensures;
      parent = refl;
      items = c.in_ok-push.ensures.items;
    })
    c.len-place.result (omega (arith, c.len-place.ensures, c.self.inside.rows.ok.0)) ends

-- the node has ended
ended : (c : goal.Else-opens-2) → HasBegun c.push.new.self.items c.self.inside.innermost c.args.self.now (content_of c.args.content) c.args.self.now.level
ended c =
    let ends : c.if-opens.row ≡ Some (c.len-place.result + 1) = elim c.if-opens.branch [ then-opens w ↦ cc | else-opens w ↦ w.row-is ] in
    begins-ended c.self.inside.rows.items c.push.new.self.items c.self.inside.innermost c.args.self.now
    (record { content = c.args.content; depth = c.level.result; parent = c.self.inside.innermost; end = c.if-opens.row })
    (record {
      known = c.self.invariant;
      places = c.self.view_is;
      room = c.requires;
      depth = c.level.ensures;
      parent = refl;
      items = c.in_ok-push.ensures.items;
    })
    c.len-place.result (omega (arith, c.len-place.ensures, c.self.inside.rows.ok.0)) ends

pub invariant_of-self-then-opens-2 : goal.invariant_of-self-then-opens-2
invariant_of-self-then-opens-2 c = (opened c).known

pub invariant_of-self-else-opens-2 : goal.invariant_of-self-else-opens-2
invariant_of-self-else-opens-2 c = (ended c).known

pub returns-then-opens-2-clause-ok : goal.returns-then-opens-2-clause-ok
returns-then-opens-2-clause-ok c =
    let t = c.args.self.now in
    (opened c).places ∙ ap (λ (b : Bool). with_node t (content_of c.args.content) (cond b (suc t.level) t.level)) (sym c.if-opens-2.true)

pub returns-else-opens-2-clause-ok : goal.returns-else-opens-2-clause-ok
returns-else-opens-2-clause-ok c =
    let t = c.args.self.now in
    (ended c).places ∙ ap (λ (b : Bool). with_node t (content_of c.args.content) (cond b (suc t.level) t.level)) (sym c.if-opens-2.false)
