-- What passes of nodes in two parts, and of nodes that are met in turn.
use Rattle.std.proofs.Common.{◌≡◌, Bool, true, false, cond, List, [], ◌∷◌, ◌++◌, refl, ap, sym, ◌∙◌, append_assoc, append-nil}
use Rattle.std.specs.Option.{option_map_or}
use Rattle.sx_axes.specs.Axes.{passes, passing}
use Rattle.sx_axes.specs.declared.node_tests.Sought.{Sought}
use Rattle.sx_axes.specs.Sought.{found, Keeps}
use Rattle.sx_names.specs.Numbering.{NameTable}
use Rattle.sx_tree.specs.declared.nodes.Node.{Node}
use Rattle.sx_tree.specs.declared.steps.Axis.{Axis}
use Rattle.sx_tree.specs.declared.steps.NodeTest.{NodeTest}
use Rattle.sx_tree.specs.Places.{Places}
use Rattle.sx_tree.specs.TreeView.{content_at}

module _ (names : NameTable) (t : Places) (a : Axis) (test : NodeTest) where
  -- one more in front, if it passes
  passing-first : (b : Bool) (n : Node) (ms ns os : List Node) → os ≡ ms ++ ns → cond b (n ∷ os) os ≡ cond b (n ∷ ms) ms ++ ns
  passing-first true n ms ns os is = ap (λ (l : List Node). n ∷ l) is
  passing-first false n ms ns os is = is

  -- nodes in two parts
  pub passing-append : (ms ns : List Node) → passing names t a test (ms ++ ns) ≡ passing names t a test ms ++ passing names t a test ns
  passing-append [] ns = refl
  passing-append (m ∷ ms) ns =
      passing-first (option_map_or (passes names a test) (content_at t m) false) m
      (passing names t a test ms) (passing names t a test ns) (passing names t a test (ms ++ ns)) (passing-append ms ns)

-- ---- a walk

module _ (s : Sought) (t : Places) where
  -- of nodes in two parts, first what is found of the first
  pub found-append : (ms ns : List Node) → found s t (ms ++ ns) ≡ found s t ms ++ found s t ns
  found-append ms ns = passing-append s.names.now t s.axis s.test.now ms ns

  -- On a walk over all these, that began with the old, these are left: what was put, and what is found of the rest.
  abbrev pub Leaves : List Node → List Node → List Node → List Node → Type 0
  Leaves all old out rest = out ++ found s t rest ≡ old ++ found s t all

  -- the node that is met is put behind the others, if it passes
  pub walk-goes : (all old out new : List Node) (n : Node) (rest : List Node) → Leaves all old out (n ∷ rest) → Keeps s t (n ∷ []) out new
      → Leaves all old new rest
  walk-goes all old out new n rest left keeps =
      ap (λ (l : List Node). l ++ found s t rest) keeps
      ∙ append_assoc out (found s t (n ∷ [])) (found s t rest)
      ∙ ap (λ (l : List Node). out ++ l) (sym (found-append (n ∷ []) rest))
      ∙ left

  -- what is left may be said in another way
  pub walk-same : (all old out rest others : List Node) → others ≡ rest → Leaves all old out rest → Leaves all old out others
  walk-same all old out rest others is left = ap (λ (l : List Node). out ++ found s t l) is ∙ left

  -- one that is the first of those that are left is met
  pub walk-step : (all old out new : List Node) (n : Node) (now rest : List Node) → now ≡ n ∷ rest → Leaves all old out now
      → Keeps s t (n ∷ []) out new → Leaves all old new rest
  walk-step all old out new n now rest is left keeps =
      walk-goes all old out new n rest (walk-same all old out now (n ∷ rest) (sym is) left) keeps

  -- none is left
  pub walk-ends : (all old out rest : List Node) → rest ≡ [] → Leaves all old out rest → Keeps s t all old out
  walk-ends all old out rest none left =
      sym (append-nil out) ∙ ap (λ (l : List Node). out ++ found s t l) (sym none) ∙ left
