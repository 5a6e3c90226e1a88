use Rattle.std.proofs.Common.{◌≡◌, ℕ, suc, ◌+◌, true, false, nat_eq, Option, Some, None, ap, sym, ◌∙◌, arith}
use Rattle.std.proofs.lemmas.Bool.Decides.{nat_tests}
use Rattle.std.specs.Option.{option_eq}
use Rattle.sx_tree.specs.Places.{Places}
use Rattle.sx_tree.specs.TreeView.{IsTree, child_places, first_place, outer_places}
use Rattle.sx_tree.proofs.Nearby.{first_child-next, first_child-none}
use Rattle.sx_tree.proofs.rows.Rows.first_child_place.Goals as goal

-- what equals a number is that number
same_place : (o : Option ℕ) (k : ℕ) → option_eq nat_eq o (Some k) ≡ true → o ≡ Some k
same_place None k is = absurd (cc)
same_place (Some j) k is = let same : j ≡ k = grind (arith, nat_tests) in ap (λ (n : ℕ). Some n) same

-- and equals it
equals_place : (o : Option ℕ) (k : ℕ) → o ≡ Some k → option_eq nat_eq o (Some k) ≡ true
equals_place None k is = absurd (cc)
equals_place (Some j) k is = let same : j ≡ k = cc in grind (arith, nat_tests)

module _ (t : Places) (k next : ℕ) (place : next ≡ suc k) (tree : IsTree t.entries) (o : Option ℕ)
    (outer : o ≡ first_place (outer_places t next)) where
  -- what the next node stands in
  next_outer : o ≡ first_place (outer_places t (suc k))
  next_outer = outer ∙ ap (λ (n : ℕ). first_place (outer_places t n)) place

  -- it stands in this one, whose first child it is
  has_child : option_eq nat_eq o (Some k) ≡ true → Some next ≡ first_place (child_places t k)
  has_child is = ap (λ (n : ℕ). Some n) place ∙ sym (first_child-next t k tree (sym next_outer ∙ same_place o k is))

  -- it does not, and there is no child
  has_none : option_eq nat_eq o (Some k) ≡ false → None ≡ first_place (child_places t k)
  has_none is =
      sym (first_child-none t k tree (λ at. let both : true ≡ false = sym (equals_place o k (next_outer ∙ at)) ∙ is in absurd (cc)))

pub returns-then-eq : goal.returns-then-eq
returns-then-eq c =
    has_child c.args.self.now c.args.k (c.args.k + 1) (omega arith) c.place_count.ensures.tree c.parent_place.result
    c.parent_place.ensures (sym c.if-eq.ensures)

pub returns-else-eq : goal.returns-else-eq
returns-else-eq c =
    has_none c.args.self.now c.args.k (c.args.k + 1) (omega arith) c.place_count.ensures.tree c.parent_place.result
    c.parent_place.ensures (sym c.if-eq.ensures)
