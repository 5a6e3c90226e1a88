-- What a builder stands for, step by step.
use Rattle.std.proofs.Common.{◌≡◌, List, [], ◌∷◌, ◌++◌, length, take, reverse, Some, refl, ap, ap₂, sym, subst, ◌∙◌, append_assoc}
use Rattle.std.specs.Global.{Vec}
use Rattle.std.proofs.lemmas.List.{reverse-append, reverse-reverse, take_at}
use Rattle.sx_lines.specs.declared.events.Built.{Built}
use Rattle.sx_lines.specs.declared.events.Built.TheVariants as event
use Rattle.sx_build.specs.declared.builder.Element.{Element}
use Rattle.sx_build.specs.declared.withheld.Withheld.{Withheld}
use Rattle.sx_build.specs.Content.{Held}
use Rattle.sx_build.specs.FixUp.{Binding, Fixed, fix_up, first_bound}
use Rattle.sx_build.specs.Build.{Open, bindings_in, element_opened, printed_start}
use Rattle.sx_build.specs.Course.{held_start, with_held}
use Rattle.sx_build.specs.InForce.{in_force}
use Rattle.sx_build.specs.Kept.{fixed_pairs}
use Rattle.sx_build.specs.Withheld.{HoldsStart}
use Rattle.sx_build.specs.Builder.{AreOpen, HoldsNone, HoldsOne}
use Rattle.sx_build.proofs.Lists.{reverse-snoc}

-- what is in force in the innermost element
bound_is : (os : List Open) (es : List Element) (bindings : List Binding) → AreOpen os es bindings → bindings_in os ≡ in_force bindings
bound_is [] [] bindings are = ap in_force (sym are)
bound_is [] (e ∷ es) bindings are = absurd are
bound_is (o ∷ os) [] bindings are = absurd are
bound_is (o ∷ os) (e ∷ es) bindings are = are.1

-- what is in force where an element declares something more
more_in_force : (bindings declared : List Binding) → in_force (bindings ++ reverse declared) ≡ declared ++ in_force bindings
more_in_force bindings declared =
    ap (λ (bs : List Binding). bs ++ first_bound) (reverse-append bindings (reverse declared) ∙ ap (λ (bs : List Binding). bs ++ reverse bindings) (reverse-reverse declared))
    ∙ append_assoc declared (reverse bindings) first_bound

-- ---- the withheld start is fixed

-- the start as it is built
start_is : (os : List Open) (es : List Element) (bindings : List Binding) (h : Held) (w : Withheld) → AreOpen os es bindings → HoldsStart (in_force bindings) h w
    → (event.Start w.name w.pairs.items ≡ printed_start h.name (fix_up (bindings_in os) h.name h.attributes)) × (w.declared.items ≡ (fix_up (bindings_in os) h.name h.attributes).declared)
start_is os es bindings h w are s =
    let same : fix_up (in_force bindings) h.name h.attributes ≡ fix_up (bindings_in os) h.name h.attributes =
    ap (λ (bs : List Binding). fix_up bs h.name h.attributes) (sym (bound_is os es bindings are)) in (
      ap₂ event.Start s.printed_is (s.pairs_are ∙ ap fixed_pairs same),
      s.declared_is ∙ ap (λ (f : Fixed). f.declared) same,
    )

module _ (os : List Open) (h : Held) (w : Withheld) (elements : List Element) (bindings : List Binding) (pending : Vec Built) (fixed : List Built)
    (s : HoldsOne os h w elements bindings pending fixed) where
  f : Fixed
  f = fix_up (bindings_in os) h.name h.attributes

  pub settled_pending : (pending' : List Built) (e : Built) → e ≡ event.Start w.name w.pairs.items → pending' ≡ pending.items ++ e ∷ []
      → pending' ≡ fixed ++ held_start os (Some h)
  settled_pending pending' e is pushed =
      let start = start_is os (reverse s.rest) bindings h w s.are_open s.holds in
      pushed ∙ ap₂ (λ (es : List Built) (d : Built). es ++ d ∷ []) s.pending_is (is ∙ start.0)

  pub settled : (bindings' declared : List Binding) (pending' : Vec Built) → declared ≡ w.declared.items → bindings' ≡ bindings ++ reverse declared
      → pending'.items ≡ fixed ++ held_start os (Some h)
      → HoldsNone (with_held os (Some h)) elements bindings' pending' (fixed ++ held_start os (Some h))
  settled bindings' declared pending' is bound pending_is =
      let start = start_is os (reverse s.rest) bindings h w s.are_open s.holds in
      let es : reverse elements ≡ s.last ∷ reverse s.rest = ap reverse s.elements_are ∙ reverse-snoc s.rest s.last in
      let in_new : (element_opened os h.name (fix_up (bindings_in os) h.name h.attributes)).bound ≡ in_force bindings' =
      ap₂ (λ (ds bs : List Binding). ds ++ bs) (sym (is ∙ start.1)) (bound_is os (reverse s.rest) bindings s.are_open)
      ∙ sym (more_in_force bindings declared)
      ∙ ap in_force (sym bound) in
      let outer : take s.last.begins bindings' ≡ bindings =
      ap₂ take s.last_begins bound ∙ take_at bindings (reverse declared) (length bindings) refl in
      record {
        are_open = subst (λ (x : List Element). AreOpen (with_held os (Some h)) x bindings') (sym es)
            (s.last_name, in_new, subst (AreOpen os (reverse s.rest)) (sym outer) s.are_open);
        pending_is = pending_is;
      }
