-- One event more of a run.
use Rattle.std.proofs.Common.{◌≡◌, ℕ, Bool, true, false, List, [], ◌∷◌, ◌++◌, length, drop, refl, ap, ap₂, sym, ◌∙◌, append_assoc, append-nil}
use Rattle.sx_kinds.specs.declared.sheets.Sheet.{Sheet}
use Rattle.sx_lines.specs.declared.events.Built.{Built}
use Rattle.sx_lines.specs.Print.{print_all, ends_in_text, ending_of}
use Rattle.sx_lines.proofs.Printed.{print_all-append, ends_in_text-append}
use Rattle.sx_named.specs.Named.{NamedElement}
use Rattle.sx_tree.specs.Tree.{TreeEvent}
use Rattle.sx_limits.specs.declared.limits.Limits.{Limits}
use Rattle.sx_machine.specs.Growth.{IsGrown, MayCome}
use Rattle.sx_machine.specs.Meaning.{IsReady}
use Rattle.sx_machine.specs.Run.{Result, Ending, done, is_done}
use Rattle.sx_machine.specs.Session as session
use Rattle.sx_machine.specs.declared.session.Session.{Session}
use Rattle.sx_machine.specs.declared.session.State.TheVariants as state
use Rattle.sx_top.specs.Run.{result_on, printed_result}
use Rattle.sx_top.specs.Runner.{RanAs}
use Rattle.sx_top.proofs.Comings.{Happenings}
use Rattle.sx_top.proofs.Results.{done_if_closed, not_done, not_done_by, built_grown, result_grows, open_not_done}
use Rattle.sx_names.specs.Numbering.{NameTable}

-- ---- printing

drop_front : (xs ys : List Built) → drop (length xs) (xs ++ ys) ≡ ys
drop_front [] ys = refl
drop_front (x ∷ xs) ys = drop_front xs ys

-- more events printed behind those that were
pub print_more : (w due : List ℕ) (text : Bool) (old more : List Built) → w ++ due ≡ printed_result old false → text ≡ ends_in_text false old
    → w ++ (due ++ print_all text more) ≡ printed_result (old ++ more) false
print_more w due text old more is text_is =
    sym (append_assoc w due (print_all text more))
    ∙ ap₂ (λ (x : List ℕ) (t : Bool). x ++ print_all t more) (is ∙ append-nil (print_all false old)) text_is
    ∙ sym (print_all-append false old more)
    ∙ sym (append-nil (print_all false (old ++ more)))

-- and what ends a whole result
pub print_end : (w due : List ℕ) (text : Bool) (events : List Built) → w ++ due ≡ printed_result events false → text ≡ ends_in_text false events
    → w ++ (due ++ ending_of text) ≡ printed_result events true
print_end w due text events is text_is =
    sym (append_assoc w due (ending_of text))
    ∙ ap₂ (λ (x : List ℕ) (t : Bool). x ++ ending_of t) (is ∙ append-nil (print_all false events)) text_is

module _ (sheet : Sheet) (names : NameTable) (limits : Limits) (ready : IsReady sheet names) where
  abbrev on : Happenings → Result
  on = result_on sheet names limits

  -- the result of one event more
  pub one_more : (p : Happenings) (h : TreeEvent NamedElement) → MayCome p h → IsGrown (on p) (on (p ++ h ∷ []))
  one_more p h may = result_grows sheet names limits ready.streamable p (h ∷ []) (may, tt)

  -- before an event the result is not done
  pub before_event : (p : Happenings) (h : TreeEvent NamedElement) → MayCome p h → is_done (on p).ending ≡ false
  before_event p h may = not_done (on p).ending (open_not_done sheet names limits ready.streamable p may.not_closed)

  -- the built events of one event more
  pub built_more : (p : Happenings) (h : TreeEvent NamedElement) → MayCome p h → (on (p ++ h ∷ [])).built ≡ (on p).built ++ drop (length (on p).built) (on (p ++ h ∷ [])).built
  built_more p h may =
      let old = (on p).built in
      let g = built_grown (on p) (on (p ++ h ∷ [])) (one_more p h may) in
      g.1 ∙ ap (λ (x : List Built). old ++ x) (sym (ap (drop (length old)) g.1 ∙ drop_front old g.0))

  -- What was printed for one event more: what can be written for it where the result is not whole, and whether a text
  -- line is unfinished.
  pub record PrintedMore (p : Happenings) (h : TreeEvent NamedElement) (due : List ℕ) (text : Bool) (w : List ℕ) : Type 0 where
    pub written : w ++ due ≡ printed_result (on (p ++ h ∷ [])).built false
    pub text_is : text ≡ ends_in_text false (on (p ++ h ∷ [])).built

  pub printed_one : (s : Session) (due : List ℕ) (text : Bool) (p : Happenings) (h : TreeEvent NamedElement) (w : List ℕ) → MayCome p h
      → RanAs sheet names limits s due text p w → (output : List Built) → output ≡ drop (length (on p).built) (on (p ++ h ∷ [])).built
      → (new_due : List ℕ) (new_text : Bool) → new_due ≡ due ++ print_all text output → new_text ≡ ends_in_text text output
      → PrintedMore p h new_due new_text w
  printed_one s due text p h w may ran output is new_due new_text due_is text_is =
      let old = (on p).built in
      let whole : (on (p ++ h ∷ [])).built ≡ old ++ output = built_more p h may ∙ ap (λ (x : List Built). old ++ x) (sym is) in
      let was : w ++ due ≡ printed_result old false = ran.written ∙ ap (printed_result old) (before_event p h may) in
      record {
        written = ap (λ (x : List ℕ). w ++ x) due_is ∙ print_more w due text old output was ran.text ∙ ap (λ (x : List Built). printed_result x false) (sym whole);
        text_is = text_is ∙ ap (λ (t : Bool). ends_in_text t output) ran.text ∙ sym (ends_in_text-append false old output) ∙ ap (ends_in_text false) (sym whole);
      }

-- ---- from one event to the next

module _ (sheet : Sheet) (known : NameTable) (limits : Limits) (was : Session) (was_due : List ℕ) (was_text : Bool)
    (p : Happenings) (h : TreeEvent NamedElement) (w : List ℕ) (s : Session) (output : List Built) (due : List ℕ) (text : Bool)
    (may : MayCome p h) (ran : RanAs sheet known limits was was_due was_text p w)
    (stands : session.Stands sheet known limits.invocations s (p ++ h ∷ []) (length (result_on sheet known limits (p ++ h ∷ [])).built))
    (output_is : output ≡ drop (length (result_on sheet known limits p).built) (result_on sheet known limits (p ++ h ∷ [])).built)
    (due_is : due ≡ was_due ++ print_all was_text output) (text_is : text ≡ ends_in_text was_text output) where
  abbrev new : Result
  new = result_on sheet known limits (p ++ h ∷ [])

  more : PrintedMore sheet known limits ran.stands.ready p h due text w
  more = printed_one sheet known limits ran.stands.ready was was_due was_text p h w may ran output output_is due text due_is text_is

  -- the document is not closed with it, or the run stops at an error
  pub event_ran : (s.state ≡ state.Closed → ⊥) → RanAs sheet known limits s due text (p ++ h ∷ []) w
  event_ran open_yet = record {
    stands = stands;
    written = more.written ∙ ap (λ (x : Bool). printed_result new.built x) (sym (not_done_by new.ending (λ e. open_yet (stands.state_is ∙ e))));
    text = more.text_is;
  }

  -- it is, and what ends a whole result was printed
  pub event_done : (whole : List ℕ) → whole ≡ due ++ ending_of text → s.state ≡ state.Closed → RanAs sheet known limits s whole text (p ++ h ∷ []) w
  event_done whole is closed =
      let g : new.ending ≡ done = done_if_closed _ (sym stands.state_is ∙ closed) in
      record {
        stands = stands;
        written = ap (λ (x : List ℕ). w ++ x) is ∙ print_end w due text new.built more.written more.text_is ∙ ap (λ (x : Ending). printed_result new.built (is_done x)) (sym g);
        text = more.text_is;
      }
