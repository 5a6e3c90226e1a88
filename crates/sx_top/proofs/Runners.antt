-- What a runner stands for.
use Rattle.std.proofs.Common.{◌≡◌, ℕ, zero, suc, Bool, false, List, [], ◌∷◌, ◌++◌, length, take, slice_get, get_or, ◌+◌, ◌<◌, Some, refl, ap, sym, ◌∙◌, subst, append-nil, arith}
use Rattle.std.proofs.lemmas.Option.{slice_get_read}
use Rattle.sx_kinds.specs.declared.sheets.Sheet.{Sheet}
use Rattle.sx_lines.specs.declared.events.Built.{Built}
use Rattle.sx_lines.specs.Print.{printed, is_text_event, print_all, ends_in_text}
use Rattle.sx_lines.proofs.Printed.{print_all-append, ends_in_text-append}
use Rattle.sx_names.specs.Numbering.{NameTable, KeepsPlaces}
use Rattle.sx_names.proofs.Places.{KeepsPlaces-refl, KeepsPlaces-trans}
use Rattle.sx_tree.specs.declared.events.Event.{Event}
use Rattle.sx_tree.proofs.Mapping.{may_follow-map}
use Rattle.sx_named.specs.Named.{started, named, named_in_tree, all_in_tree}
use Rattle.sx_events.specs.Course.{Lined, whats}
use Rattle.sx_limits.specs.declared.limits.Limits.{Limits}
use Rattle.sx_machine.specs.Growth.{MayCome}
use Rattle.sx_machine.specs.Meaning.{result_for}
use Rattle.sx_machine.specs.Run.{is_done}
use Rattle.sx_machine.specs.Session as session
use Rattle.sx_machine.specs.declared.session.Session.{Session}
use Rattle.sx_reading.specs.declared.status.Input.TheVariants as input
use Rattle.sx_top.specs.Feeding.{Meaning, lined, ComesNext}
use Rattle.sx_top.specs.Run.{printed_result, result_on}
use Rattle.sx_top.specs.Runner.{ended_in, run_meaning, RanAs, Runs}
use Rattle.sx_top.specs.declared.runner.Runner.{Runner}
use Rattle.sx_top.proofs.Comings.{Happenings, may_come}
use Rattle.sx_top.proofs.Runs.{done_closed, ended_as, in_tree-append, written_as}

take_one : {X : Type 0} (xs : List X) (n : ℕ) (x : X) → slice_get xs n ≡ Some x → take (suc n) xs ≡ take n xs ++ x ∷ []
take_one [] n x at = absurd (cc)
take_one {X} (y ∷ xs) zero x at =
    let same : y ≡ x = cc in
    ap (λ (z : X). z ∷ []) same
take_one {X} (y ∷ xs) (suc n) x at = ap (λ (zs : List X). y ∷ zs) (take_one xs n x at)

item_at : (events : List Built) (i : ℕ) (e : Built) → i < length events → e ≡ get_or events i e → slice_get events i ≡ Some e
item_at events i e within is = slice_get_read events (length events) i e refl within is

-- one event more of a list that is printed
pub print_next : (text : Bool) (events : List Built) (i : ℕ) (e : Built) → i < length events → e ≡ get_or events i e
    → print_all text (take (i + 1) events) ≡ print_all text (take i events) ++ printed (ends_in_text text (take i events)) e
print_next text events i e within is =
    let next : i + 1 ≡ suc i = omega arith in
    ap (λ (n : ℕ). print_all text (take n events)) next
    ∙ ap (print_all text) (take_one events i e (item_at events i e within is))
    ∙ print_all-append text (take i events) (e ∷ [])
    ∙ ap (λ (x : List ℕ). print_all text (take i events) ++ x) (append-nil (printed (ends_in_text text (take i events)) e))

pub text_next : (text : Bool) (events : List Built) (i : ℕ) (e : Built) → i < length events → e ≡ get_or events i e → ends_in_text text (take (i + 1) events) ≡ is_text_event e
text_next text events i e within is =
    let next : i + 1 ≡ suc i = omega arith in
    ap (λ (n : ℕ). ends_in_text text (take n events)) next
    ∙ ap (ends_in_text text) (take_one events i e (item_at events i e within is))
    ∙ ends_in_text-append text (take i events) (e ∷ [])

-- ---- the beginning

module _ (sheet : Sheet) (names : NameTable) where
  printed_first : (k : ℕ) → printed_result (result_for sheet names k []).built (is_done (result_for sheet names k []).ending) ≡ []
  printed_first zero = refl
  printed_first (suc k) = refl

  built_first : (k : ℕ) → (result_for sheet names k []).built ≡ []
  built_first zero = refl
  built_first (suc k) = refl

  -- a runner of which nothing was printed
  pub fresh : (limits : Limits) (r : Runner) → session.Stands sheet names limits.invocations r.session [] 0 → r.due.items ≡ [] → r.after_text ≡ false → Runs r (run_meaning sheet names limits) names [] []
  fresh limits r stands due text = record {
    sheet = sheet;
    own = names;
    limits = limits;
    means = refl;
    keeps = KeepsPlaces-refl names;
    ran = record {
      stands = subst (λ (n : ℕ). session.Stands sheet names limits.invocations r.session [] n) (sym (ap length (built_first limits.invocations))) stands;
      written = due ∙ sym (printed_first limits.invocations);
      text = text ∙ ap (ends_in_text false) (sym (built_first limits.invocations));
    };
  }

-- ---- what it gives

module _ (r : Runner) (m : Meaning) (names : NameTable) (events : List Lined) (w : List ℕ) (runs : Runs r m names events w) where
  abbrev happened : Happenings
  happened = all_in_tree (whats events)

  pub input_is : input.Document ≡ m.input
  input_is = sym (ap (λ (x : Meaning). x.input) runs.means)

  -- the state of the session says where the events end
  pub outcome_is : ended_in r.session.state ≡ m.outcome events
  outcome_is =
      ap ended_in runs.ran.stands.state_is
      ∙ ended_as _ _ (done_closed runs.sheet runs.own runs.limits runs.ran.stands.ready.streamable happened)
      ∙ sym (ap (λ (x : Meaning). x.outcome events) runs.means)

  -- all that is written for the events is the printed result
  written_is : m.written events ≡ printed_result (result_on runs.sheet runs.own runs.limits happened).built (is_done (result_on runs.sheet runs.own runs.limits happened).ending)
  written_is = ap (λ (x : Meaning). x.written events) runs.means ∙ written_as runs.sheet runs.own runs.limits runs.ran.stands.ready.streamable happened

  pub due_is : w ++ r.due.items ≡ m.written events
  due_is = runs.ran.written ∙ sym written_is

  -- what is due was taken
  pub cleared : (new : Runner) → new.session ≡ r.session → new.due.items ≡ [] → new.after_text ≡ r.after_text → Runs new m names events (m.written events)
  cleared new session_is due text = record {
    sheet = runs.sheet;
    own = runs.own;
    limits = runs.limits;
    means = runs.means;
    keeps = runs.keeps;
    ran = record {
      stands = subst (λ (x : Session). session.Stands runs.sheet runs.own runs.limits.invocations x happened (length (result_on runs.sheet runs.own runs.limits happened).built)) (sym session_is) runs.ran.stands;
      written = ap (λ (x : List ℕ). m.written events ++ x) due ∙ append-nil (m.written events) ∙ written_is;
      text = text ∙ runs.ran.text;
    };
  }

  -- ---- an event

  module _ (now : NameTable) (kept : KeepsPlaces names now) (e : Event) (comes : ComesNext now events e) (line : ℕ) where
    -- it may come
    pub may : MayCome happened (named_in_tree now e)
    may = may_come happened (named_in_tree now e) (may_follow-map started (whats events) (named now e) comes.follows)

    pub own_kept : KeepsPlaces runs.own now
    own_kept = KeepsPlaces-trans runs.own names now runs.keeps kept

    -- it was run
    pub taken : (new : Runner) → RanAs runs.sheet runs.own runs.limits new.session new.due.items new.after_text (happened ++ named_in_tree now e ∷ []) w
        → Runs new m now (events ++ lined now e line ∷ []) w
    taken new ran = record {
      sheet = runs.sheet;
      own = runs.own;
      limits = runs.limits;
      means = runs.means;
      keeps = own_kept;
      ran = subst (λ (p : Happenings). RanAs runs.sheet runs.own runs.limits new.session new.due.items new.after_text p w) (sym (in_tree-append events (lined now e line ∷ []))) ran;
    }

-- places that are kept, between tables by other names
pub kept_between : (a b c d : NameTable) → a ≡ b → d ≡ c → KeepsPlaces b c → KeepsPlaces a d
kept_between a b c d first last kept =
    subst (λ (x : NameTable). KeepsPlaces x d) (sym first) (subst (λ (x : NameTable). KeepsPlaces b x) (sym last) kept)
