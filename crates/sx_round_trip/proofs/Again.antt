-- The copy of a whole document, and the copy of that.
use Rattle.std.proofs.Common.{◌≡◌, ℕ, Bool, true, false, not, cond, ◌&&◌, List, [], Option, Some, None, is_none, is_some, refl, ap, ap₂, sym, ◌∙◌, subst}
use Rattle.sx_atoms.specs.declared.error_codes.Code.{Code}
use Rattle.sx_build.specs.Asked.{Asked}
use Rattle.sx_build.specs.Build.{Build, built, error_of, without_last_start}
use Rattle.sx_events.specs.Course.{events_of, break_of, whats}
use Rattle.sx_events.proofs.InTrees.{follow_in_tree, has_open_in_tree}
use Rattle.sx_events.proofs.Nests.{all_follow, none_open_where}
use Rattle.sx_limits.specs.declared.faults.DocFault.{DocFault}
use Rattle.sx_limits.specs.Limits.{stated}
use Rattle.sx_lines.specs.declared.events.Built.{Built}
use Rattle.sx_lines.specs.Normal.{whole}
use Rattle.sx_machine.specs.Run.{Ending, done, waits, stops, Output, Result, meaning, is_done, ending_with}
use Rattle.sx_named.specs.Named.{NamedElement, all_in_tree}
use Rattle.sx_reading.specs.declared.consumer.Outcome.TheVariants as outcome
use Rattle.sx_tree.specs.Tree.{TreeEvent, tree_of}
use Rattle.sx_top.specs.Copy.{copy_sheet, copy_written, copy_outcome}
use Rattle.sx_top.specs.Run.{happened, result_on, outcome_at, written_of, printed_result, written_for_events}
use Rattle.sx_round_trip.specs.Copies.{copied}
use Rattle.sx_round_trip.specs.Document.{IsDocument, IsWithin, document_events}
use Rattle.sx_round_trip.proofs.Askings.{asked_all, chosen, asked_is}
use Rattle.sx_round_trip.proofs.Buildings.{copy_in, built_is}
use Rattle.sx_round_trip.proofs.Copies.{copy_is}
use Rattle.sx_round_trip.proofs.Courses.{document_happens}
use Rattle.sx_round_trip.proofs.Happenings.{Happens}
use Rattle.sx_round_trip.proofs.PrintedEvents.{document_sound, document_read}

-- where a run ends done
abbrev EndsDone : Ending → Option DocFault → Bool → Type 0
EndsDone g fault now_open = (g ≡ done) × (fault ≡ None) × (now_open ≡ false)

ends_done : (g : Ending) (fault : Option DocFault) (now_open : Bool) → outcome_at g fault now_open ≡ Some outcome.Done → EndsDone g fault now_open
ends_done done (Some f) now_open is = absurd (cc)
ends_done done None true is = absurd (cc)
ends_done done None false is = (refl, refl, refl)
ends_done waits (Some f) now_open is = absurd (cc)
ends_done waits None now_open is = absurd (cc)
ends_done (stops c) fault now_open is = absurd (cc)

-- what is asked for ends so too
inner_done : (found : Option Code) (g : Ending) → ending_with found g ≡ done → g ≡ done
inner_done None g is = is
inner_done (Some c) g is = absurd (cc)

-- what is built of all that is asked for
built_whole : (o : Output) (raws : List Asked) → o.raw ≡ raws → o.ending ≡ done → error_of raws ≡ None → Build o.raw (is_done o.ending) ≡ built raws
built_whole o raws is end sound =
    ap₂ (λ (r : List Asked) (g : Ending). Build r (is_done g)) is end
    ∙ ap (λ (e : Option Code). cond (is_none e) (built raws) (without_last_start (built raws))) sound

-- what is written of a whole result
written_whole : (r : Result) (now_open : Bool) → r.ending ≡ done → now_open ≡ false → written_of r now_open ≡ whole r.built
written_whole r now_open end shut = ap₂ (λ (g : Ending) (o : Bool). printed_result r.built (is_done g && not o)) end shut

module _ (b : List ℕ) (ends : copy_outcome b true ≡ Some outcome.Done) where
  abbrev p : List (TreeEvent NamedElement)
  p = happened stated b true

  abbrev o : Output
  o = meaning true (chosen []) stated.invocations (tree_of p)

  well : EndsDone (result_on copy_sheet [] stated p).ending (break_of stated b true) (tree_of p).is_open
  well = ends_done (result_on copy_sheet [] stated p).ending (break_of stated b true) (tree_of p).is_open ends

  end : o.ending ≡ done
  end = inner_done (error_of o.raw) o.ending well.0

  asked : o.raw ≡ asked_all p
  asked =
      asked_is [] stated.invocations p (follow_in_tree [] (whats (events_of stated b true)) (all_follow stated b true)) well.2
      (has_open_in_tree (whats (events_of stated b true)) ∙ none_open_where stated b true (ap is_some well.1) refl) end

  happens : Happens stated 0 false false p
  happens = document_happens stated b well.1

  copied_is : copied b ≡ copy_in [] p
  copied_is = let made = built_is stated p happens in built_whole o (asked_all p) asked end made.1 ∙ made.0

  pub is_document : IsDocument stated (copied b)
  is_document = subst (IsDocument stated) (sym copied_is) (copy_is stated p happens).0

  reads : all_in_tree (document_events [] (copied b)) ≡ p
  reads = ap (λ (es : List Built). all_in_tree (document_events [] es)) copied_is ∙ (copy_is stated p happens).1

  written : copy_written b true ≡ whole (copied b)
  written = written_whole (result_on copy_sheet [] stated p) (tree_of p).is_open well.0 well.2

  module _ (within : IsWithin stated (copied b)) where
    abbrev c : List ℕ
    c = copy_written b true

    read_again : (break_of stated c true ≡ None) × (whats (events_of stated c true) ≡ document_events [] (copied b))
    read_again =
        subst (λ (d : List ℕ). (break_of stated d true ≡ None) × (whats (events_of stated d true) ≡ document_events [] (copied b))) (sym written)
        (document_sound stated (copied b) is_document within, document_read stated (copied b) is_document within)

    happens_again : happened stated c true ≡ p
    happens_again = ap all_in_tree read_again.1 ∙ reads

    pub again : copy_written c true ≡ c
    again = ap (written_for_events copy_sheet [] stated) happens_again

    pub whole_again : copy_outcome c true ≡ Some outcome.Done
    whole_again =
        ap₂ (λ (q : List (TreeEvent NamedElement)) (f : Option DocFault). outcome_at (result_on copy_sheet [] stated q).ending f (tree_of q).is_open)
        happens_again (read_again.0 ∙ sym well.1)
        ∙ ends
