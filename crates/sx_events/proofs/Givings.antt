-- An event that waits is given.
use Rattle.std.proofs.Common.{◌≡◌, ℕ, suc, List, [], ◌∷◌, ◌++◌, length, slice_get, Option, Some, None, IfSome, refl, ap, ap₂, sym, ◌∙◌, subst, arith, append_assoc, length-append}
use Rattle.sx_named.specs.Named.{IsKnown}
use Rattle.sx_events.specs.Course.{Lined, whats, line_behind}
use Rattle.sx_events.specs.Pending.{lined, held, held_in, IsKnownIn, AreKnownWaiting, Pends, GivesWaiting}
use Rattle.sx_events.specs.declared.pending.Pending.{Pending}
use Rattle.sx_events.specs.declared.pending.Waiting.{Waiting}
use Rattle.sx_names.specs.Numbering.{NameTable}

-- the event behind others
at_seam : (xs ys : List Lined) (x : Lined) → slice_get (whats (xs ++ x ∷ ys)) (length xs) ≡ Some x.what
at_seam [] ys x = refl
at_seam (y ∷ xs) ys x = at_seam xs ys x

-- the line of the last of so many
pub last_line : (xs : List Lined) (x : Lined) (ys : List Lined) → line_behind (xs ++ x ∷ ys) (suc (length xs)) ≡ x.line
last_line [] x ys = refl
last_line (y ∷ []) x ys = refl
last_line (y ∷ z ∷ xs) x ys = last_line (z ∷ xs) x ys

pub front_line : (xs ys : List Lined) → line_behind (xs ++ ys) (length xs) ≡ line_behind xs (length xs)
front_line [] [] = refl
front_line [] (y ∷ ys) = refl
front_line (x ∷ []) ys = refl
front_line (x ∷ z ∷ xs) ys = front_line (z ∷ xs) ys

module _ (old new : Pending) (names : NameTable) (events : List Lined) (given line : ℕ) (pends : Pends old names events given line) where
  gives_first : (w : Waiting) → held names old ≡ lined names w ∷ held names new → IsKnown names w.event → AreKnownWaiting names new → GivesWaiting new names events given w
  gives_first w first known rest =
      let whole : events ≡ pends.front ++ lined names w ∷ held names new = pends.splits ∙ ap (λ (x : List Lined). pends.front ++ x) first in
      let number = pends.number in
      let all = pends.front ++ lined names w ∷ [] in
      let count : length all ≡ suc given = omega (arith, length-append pends.front (lined names w ∷ []), number) in
      record {
        next = ap (λ (x : List Lined). slice_get (whats x) given) whole ∙ ap (slice_get (whats (pends.front ++ lined names w ∷ held names new))) (sym number) ∙ at_seam pends.front (held names new) (lined names w);
        known = known;
        pends = record {
          front = all;
          number = count;
          splits = whole ∙ sym (append_assoc pends.front (lined names w ∷ []) (held names new));
          known = rest;
          last = sym (ap (λ (n : ℕ). line_behind all (suc n)) (sym number) ∙ last_line pends.front (lined names w) []);
        };
      }

  -- the text
  pub gives_text : (w : Waiting) → old.text ≡ Some w → new.text ≡ None → new.event ≡ old.event → GivesWaiting new names events given w
  gives_text w was now same =
      gives_first w
      (ap (λ (o : Option Waiting). held_in names o ++ held_in names old.event) was ∙ ap₂ (λ (o q : Option Waiting). lined names w ∷ held_in names o ++ held_in names q) (sym now) (sym same))
      (subst (IsKnownIn names) was pends.known.text)
      (record { text = subst (IsKnownIn names) (sym now) tt; event = subst (IsKnownIn names) (sym same) pends.known.event })

  -- the event, where no text waits
  pub gives_event : (w : Waiting) → old.text ≡ None → old.event ≡ Some w → new.text ≡ None → new.event ≡ None → GivesWaiting new names events given w
  gives_event w none was text event =
      gives_first w
      (ap₂ (λ (o q : Option Waiting). held_in names o ++ held_in names q) none was ∙ ap₂ (λ (o q : Option Waiting). lined names w ∷ held_in names o ++ held_in names q) (sym text) (sym event))
      (subst (IsKnownIn names) was pends.known.event)
      (record { text = subst (IsKnownIn names) (sym text) tt; event = subst (IsKnownIn names) (sym event) tt })

pub gives_last : (old new : Pending) (o : Option Waiting) → old.text ≡ None → old.event ≡ o → new.text ≡ None → new.event ≡ None →
    IfSome o (λ first. (names : NameTable) (events : List Lined) (given line : ℕ) → Pends old names events given line → GivesWaiting new names events given first)
gives_last old new None none was text event = tt
gives_last old new (Some w) none was text event = λ names events given line pends. gives_event old new names events given line pends w none was text event
