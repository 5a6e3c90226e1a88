-- How a list of branches holds what is in it: as a list does, one by one. The prover asks this of what stands on the way by which a
-- type leads back to itself.
use mathlib.Core.Path.{◌≡◌, refl, sym}
use mathlib.Core.List.{List, []}
use mathlib.Core.Former.{Former, this, list, via, children}
use base.Stored.{code_map}
use denote.RattleType.{RattleType}
use denote.HoleLaws.{Alike}
use denote.HolePlaces.{Recodes, struct_places, laid}
use denote.Hole.Carrier.{listed, list-listed}
use denote.Hole.Fix.{over}
use denote.Param.Weighed.{Weighed, w_list}
use denote.Model.Placed.{view_places}
use Rattle.std.specs.formers.vec.Vec as vec
use Rattle.std.specs.declared.alloc.Global.{Global}
use Rattle.std.specs.contracts.alloc.Global as global
use Rattle.std.specs.contracts.impls.GlobalAllocator.TheImpl.{ghosts}
use Rattle.sx_kinds.specs.declared.branches.Branches.TheInside.{Inside}
use Rattle.sx_kinds.specs.declared.branches.Branches.TheView.{view, invariant}
use Rattle.sx_kinds.specs.contracts.branches.Branches as outside
use Rattle.sx_kinds.specs.contracts.branches.Branches.TheInside as inside

-- ---- the values

abbrev pub the_items : (T : Type 0) → List T → List T
the_items T items = items

abbrev pub the_former : Former {0} → Former {0}
the_former held = list held

pub the_items_listed : (T : Type 0) (items : List T) → listed _ (children (the_former this) T items) ≡ the_items T items
the_items_listed T items = list-listed T items

pub the_empty : List ⊥
the_empty = []

abbrev pub the_weighed : {held : Former {0}} → Weighed held → Weighed (the_former held)
the_weighed weighed = w_list weighed

-- ---- where they lie: in the vector that is its one field

abbrev in_field : Former {0}
in_field = via (vec.the_former this Global) Inside (λ T branches. branches.items) (λ T items. record { items = items }) (λ T branches. refl) (λ T items. refl)

module _ (T U : RattleType) (along : T.Denot → U.Denot) where
  pub the_codes_placed : Recodes T U along → Recodes (outside.the_row T) (outside.the_row U) ((the_former this).map T.Denot U.Denot along)
  the_codes_placed same items = sym (code_map T.coded.code U.coded.code along (λ item. sym (same item)) items)

  pub the_places : Alike T U along → Alike (outside.the_row T) (outside.the_row U) ((the_former this).map T.Denot U.Denot along)
  the_places alike =
      let field = laid _ _ _ (vec.the_places global.the_row ghosts T U along alike) in
      view_places in_field (list this) view (λ X Y k branches. refl) (λ X branches. refl) T.Denot U.Denot along
      (outside.the_row T).coded (outside.the_row U).coded (invariant T.Denot) (invariant U.Denot)
      (λ branches p q. refl) (λ branches p q. refl) (λ branches e. tt) (λ branches e. tt)
      (over (inside.the_row T)) (over (inside.the_row U))
      (struct_places (inside.the_type T) (inside.the_type U) (vec.mapped along, tt) _ (λ d. refl) refl (field, tt))
