-- What printed results are read back to, from the lines that were read of them.
use Rattle.std.proofs.Common.{◌≡◌, ℕ, Bool, false, List, [], ◌∷◌, ◌++◌, Option, Some, None, IfSome, IfNone, Result, Ok, Err, IfOk, refl, sym, ap, ◌∙◌, subst, append_assoc}
use Rattle.std.proofs.lemmas.List.{append-nil}
use Rattle.sx_lines.specs.declared.events.Pair.{Pair}
use Rattle.sx_lines.specs.declared.events.Built.{Built}
use Rattle.sx_lines.specs.declared.lines.Line.{Line}
use Rattle.sx_lines.specs.Normal.{IsNormal, whole}
use Rattle.sx_lines.specs.Lines.{Lacks, line_bytes, IsLine, AreLines, joined_lines, ending_line, lines_of_events, alone, events_of_lines}
use Rattle.sx_lines.specs.Reader.{put_all, StandsAs}
use Rattle.sx_lines.proofs.Lacking.{not_split, unique_split}
use Rattle.sx_lines.proofs.LineBytes.{line_lacks, not_last, same_line}
use Rattle.sx_lines.proofs.Results.{whole_is, lines_are, AreLines-append, joined-append, lines_split, events_are, events_say}

not_none : (es : List Built) → ◌≡◌ {A = Option (List Built)} (Some es) None → ⊥
not_none es e = cc

-- a line that cannot stand here, by its bytes
pub refused_bytes : {E : Type 0} (r : Result Bool E) (a : Bool) (pairs : List Pair) (l : Line) (bytes : List ℕ) → IsLine l → line_bytes l ≡ bytes
    → IfOk r (λ taken. taken ≡ false → (more : List Line) → events_of_lines a pairs (l ∷ more) ≡ None)
    → IfOk r (λ taken. taken ≡ false → (m : Line) (more : List Line) → IsLine m → line_bytes m ≡ bytes → events_of_lines a pairs (m ∷ more) ≡ None)
refused_bytes (Ok taken) a pairs l bytes is e refused = λ f m more also same. ap (λ x. events_of_lines a pairs (x ∷ more)) (same_line m l also is (same ∙ sym e)) ∙ refused f more
refused_bytes (Err x) a pairs l bytes is e refused = tt

module _ (a : Bool) (pairs : List Pair) (events : List Built) (ls : List Line) (rest bytes : List ℕ) (are : AreLines ls) (split : joined_lines ls ++ rest ≡ bytes) (stands : StandsAs a pairs events ls) where
  -- where no lines that can follow have events, no normal list is printed so
  none_where_stuck : ((more : List Line) → AreLines more → rest ≡ joined_lines more ++ ending_line → events_of_lines a pairs more ≡ None) → (es : List Built) → IsNormal es → ¬ (whole es ≡ bytes)
  none_where_stuck stuck es normal is =
      let more = lines_split ls (lines_of_events es) rest are (lines_are false es normal) (split ∙ sym is ∙ whole_is false es normal) in
      not_none es (sym (events_are false es normal) ∙ ap (events_of_lines false []) more.1 ∙ stands more.0 ∙ ap (put_all events) (stuck more.0 more.2 more.3))

  -- a line that does not end
  pub none_without_newline : Lacks 10 rest → (es : List Built) → IsNormal es → ¬ (whole es ≡ bytes)
  none_without_newline lacks = none_where_stuck stuck
    where
      stuck : (more : List Line) → AreLines more → rest ≡ joined_lines more ++ ending_line → events_of_lines a pairs more ≡ None
      stuck [] those e = absurd (not_split 10 rest (67 ∷ []) [] lacks e)
      stuck (m ∷ ms) those e = absurd (not_split 10 rest (line_bytes m) (joined_lines ms ++ ending_line) lacks (e ∙ append_assoc (line_bytes m) (10 ∷ joined_lines ms) ending_line))

  module _ (line behind : List ℕ) (next : rest ≡ line ++ 10 ∷ behind) where
    -- a last line with something behind it, or with attributes before it
    pub none_at_last : line ≡ 67 ∷ [] → (pairs ≡ [] → ¬ (behind ≡ [])) → (es : List Built) → IsNormal es → ¬ (whole es ≡ bytes)
    none_at_last last more_there = none_where_stuck stuck
      where
        whole_rest : rest ≡ 67 ∷ 10 ∷ behind
        whole_rest = next ∙ ap (λ l. l ++ 10 ∷ behind) last

        only : (ps : List Pair) → (ps ≡ [] → ¬ (behind ≡ [])) → behind ≡ [] → alone ps (Some []) ≡ None
        only [] never none = absurd (never refl none)
        only (p ∷ ps) never none = refl

        stuck : (more : List Line) → AreLines more → rest ≡ joined_lines more ++ ending_line → events_of_lines a pairs more ≡ None
        stuck [] those e = only pairs more_there (let f = sym whole_rest ∙ e in cc)
        stuck (m ∷ ms) those e = absurd (not_last m (10 ∷ joined_lines ms ++ ending_line) (10 ∷ behind) (sym (append_assoc (line_bytes m) (10 ∷ joined_lines ms) ending_line) ∙ sym e ∙ whole_rest))

    -- a line that is none, or cannot stand here
    pub none_where_refused : Lacks 10 line → ¬ (line ≡ 67 ∷ []) → ((m : Line) (more : List Line) → IsLine m → line_bytes m ≡ line → events_of_lines a pairs (m ∷ more) ≡ None)
        → (es : List Built) → IsNormal es → ¬ (whole es ≡ bytes)
    none_where_refused lacks other refused = none_where_stuck stuck
      where
        stuck : (more : List Line) → AreLines more → rest ≡ joined_lines more ++ ending_line → events_of_lines a pairs more ≡ None
        stuck [] those e = absurd (other (unique_split 10 line (67 ∷ []) behind [] lacks ((λ f. absurd (cc)), tt) (sym next ∙ e)).0)
        stuck (m ∷ ms) those e =
            refused m ms those.0 (unique_split 10 (line_bytes m) line (joined_lines ms ++ ending_line) behind (line_lacks m those.0) lacks (sym (append_assoc (line_bytes m) (10 ∷ joined_lines ms) ending_line) ∙ sym e ∙ next)).0

    -- the last line, where it ends the bytes
    pub found_at_last : line ≡ 67 ∷ [] → behind ≡ [] → pairs ≡ [] → IsNormal events × (whole events ≡ bytes)
    found_at_last last none free =
        let read : events_of_lines false [] ls ≡ Some events =
        ap (events_of_lines false []) (sym (append-nil ls)) ∙ stands [] ∙ ap (λ ps. put_all events (alone ps (Some []))) free ∙ ap Some (append-nil events) in
        let says = events_say false [] ls events tt are read in
        let ended : rest ≡ ending_line = next ∙ ap (λ l. l ++ 10 ∷ behind) last ∙ ap (λ b. 67 ∷ 10 ∷ b) none in
        (says.1, whole_is false events says.1 ∙ ap (λ l. joined_lines l ++ ending_line) says.0 ∙ ap (λ r. joined_lines ls ++ r) (sym ended) ∙ split)

  pub at_last : (o : Option (List Built)) (line behind : List ℕ) → rest ≡ line ++ 10 ∷ behind → line ≡ 67 ∷ [] → IfSome o (λ es. (es ≡ events) × (pairs ≡ []) × (behind ≡ []))
      → IfSome o (λ es. IsNormal es × (whole es ≡ bytes))
  at_last None line behind next last found = tt
  at_last (Some es) line behind next last found = subst (λ l. IsNormal l × (whole l ≡ bytes)) (sym found.0) (found_at_last line behind next last found.2 found.1)

  pub none_last : (o : Option (List Built)) (line behind : List ℕ) → rest ≡ line ++ 10 ∷ behind → line ≡ 67 ∷ [] → IfNone o (pairs ≡ [] → ¬ (behind ≡ []))
      → IfNone o ((es : List Built) → IsNormal es → ¬ (whole es ≡ bytes))
  none_last None line behind next last none = none_at_last line behind next last none
  none_last (Some es) line behind next last none = tt

-- one line more that was read
pub one_line_more : (ls : List Line) (l : Line) (line behind rest bytes : List ℕ) → AreLines ls → IsLine l → line_bytes l ≡ line → rest ≡ line ++ 10 ∷ behind → joined_lines ls ++ rest ≡ bytes
    → AreLines (ls ++ l ∷ []) × (joined_lines (ls ++ l ∷ []) ++ behind ≡ bytes)
one_line_more ls l line behind rest bytes are is same next split = (
  AreLines-append ls (l ∷ []) are (is, tt),
  joined-append ls (l ∷ []) behind ∙ ap (λ r. joined_lines ls ++ r) (append_assoc (line_bytes l) (10 ∷ []) behind ∙ ap (λ b. b ++ 10 ∷ behind) same ∙ sym next) ∙ split,
)

-- two normal lists that are printed alike are one
pub one_list : (es fs : List Built) → IsNormal es → IsNormal fs → whole es ≡ whole fs → es ≡ fs
one_list es fs normal also same =
    let more = lines_split (lines_of_events es) (lines_of_events fs) ending_line (lines_are false es normal) (lines_are false fs also) (sym (whole_is false es normal) ∙ same ∙ whole_is false fs also) in
    let lines = more.1 ∙ ap (λ l. lines_of_events es ++ l) (nothing_more more.0 more.3) ∙ append-nil (lines_of_events es) in
    let both : Some es ≡ Some fs = sym (events_are false es normal) ∙ ap (events_of_lines false []) (sym lines) ∙ events_are false fs also in
    cc
  where
    nothing_more : (ms : List Line) → ending_line ≡ joined_lines ms ++ ending_line → ms ≡ []
    nothing_more [] e = refl
    nothing_more (m ∷ ms) e = absurd (not_last m (10 ∷ joined_lines ms ++ ending_line) (10 ∷ []) (sym (append_assoc (line_bytes m) (10 ∷ joined_lines ms) ending_line) ∙ sym e))
