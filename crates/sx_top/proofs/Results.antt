-- The results of a stylesheet that can be streamed, as more of a document comes.
use Rattle.std.proofs.Common.{◌≡◌, ◌≢◌, true, false, List, [], ◌++◌, None, refl, ap, sym, ◌∙◌, subst, append-nil}
use Rattle.sx_atoms.specs.declared.error_codes.Code.{Code}
use Rattle.sx_kinds.specs.declared.sheets.Sheet.{Sheet}
use Rattle.sx_lines.specs.declared.events.Built.{Built}
use Rattle.sx_tree.specs.Tree.{tree_of}
use Rattle.sx_limits.specs.declared.limits.Limits.{Limits}
use Rattle.sx_machine.specs.Body.{culprit}
use Rattle.sx_machine.specs.Growth.{IsGrown, GrownFrom, MayAllCome}
use Rattle.sx_machine.specs.Run.{Result, Ending, done, waits, stops, is_done}
use Rattle.sx_machine.specs.Session.{state_of}
use Rattle.sx_machine.specs.declared.session.State.TheVariants as state
use Rattle.sx_machine.proofs.Results as machine
use Rattle.sx_top.specs.Run.{result_on}
use Rattle.sx_top.proofs.Comings.{Happenings}
use Rattle.sx_names.specs.Numbering.{NameTable}

-- ---- endings

pub waits_if_going : (g : Ending) → state_of g ≡ state.Going → g ≡ waits
waits_if_going done e = absurd (cc)
waits_if_going waits e = refl
waits_if_going (stops c) e = absurd (cc)

pub done_if_closed : (g : Ending) → state_of g ≡ state.Closed → g ≡ done
done_if_closed done e = refl
done_if_closed waits e = absurd (cc)
done_if_closed (stops c) e = absurd (cc)

pub stops_if_stopped : (g : Ending) (c : Code) → state_of g ≡ state.Stopped c → g ≡ stops c
stops_if_stopped done c e = absurd (cc)
stops_if_stopped waits c e = absurd (cc)
stops_if_stopped (stops d) c e =
    let same : d ≡ c = cc in
    ap stops same

pub not_done : (g : Ending) → g ≢ done → is_done g ≡ false
not_done done n = absurd (n refl)
not_done waits n = refl
not_done (stops c) n = refl

pub not_done_by : (g : Ending) → (state_of g ≡ state.Closed → ⊥) → is_done g ≡ false
not_done_by done n = absurd (n refl)
not_done_by waits n = refl
not_done_by (stops c) n = refl

-- ---- growth

module _ (old new : Result) where
  built_by : (g : Ending) → GrownFrom g old new → (more : List Built) × (new.built ≡ old.built ++ more)
  built_by done same = ([], ap (λ (r : Result). r.built) same ∙ sym (append-nil old.built))
  built_by waits grown = grown
  built_by (stops c) same = ([], ap (λ (r : Result). r.built) same ∙ sym (append-nil old.built))

  -- what was built stays in front
  pub built_grown : IsGrown old new → (more : List Built) × (new.built ≡ old.built ++ more)
  built_grown grown = built_by old.ending grown

  -- an error is final
  pub stopped_grown : (c : Code) → old.ending ≡ stops c → IsGrown old new → new ≡ old
  stopped_grown c e grown = subst (λ (g : Ending). GrownFrom g old new) e grown

  -- and so is the end
  pub done_grown : old.ending ≡ done → IsGrown old new → new ≡ old
  done_grown e grown = subst (λ (g : Ending). GrownFrom g old new) e grown

module _ (sheet : Sheet) (names : NameTable) (limits : Limits) (streamable : culprit sheet.templates ≡ None) where
  -- the result of more of a document
  pub result_grows : (p more : Happenings) → MayAllCome p more → IsGrown (result_on sheet names limits p) (result_on sheet names limits (p ++ more))
  result_grows p more may = machine.grown sheet streamable names limits.invocations p more may

  -- the result is not done while the document is open
  pub open_not_done : (p : Happenings) → (tree_of p).is_open ≡ true → (result_on sheet names limits p).ending ≢ done
  open_not_done p is_open = machine.open_not_done sheet streamable names limits.invocations p is_open

  -- it waits for nothing where the document is closed
  pub closed_not_waiting : (p : Happenings) → (tree_of p).is_open ≡ false → (result_on sheet names limits p).ending ≢ waits
  closed_not_waiting p closed = machine.closed_not_waiting sheet streamable names limits.invocations p closed
