-- What is given in turn, with its ends.
use Rattle.std.proofs.Common.{◌≡◌, List, [], ◌++◌, refl, ap, sym, ◌∙◌, append_assoc, append-nil}
use Rattle.sx_atoms.specs.declared.error_codes.Code.{Code}
use Rattle.sx_build.specs.Asked.{Asked}
use Rattle.sx_machine.specs.Run.{Output, Ending, done, waits, stops, nothing, gives, output_behind, next}

-- nothing more until something comes
abbrev pub waiting : Output
waiting = nothing waits

abbrev pub out : List Asked → Ending → Output
out raws ending = record { raw = raws; ending = ending }

-- what waits goes on with more
abbrev pub resumed : List Asked → Ending → Output → Output
resumed raws done d = gives raws
resumed raws waits d = out (raws ++ d.raw) d.ending
resumed raws (stops c) d = out raws (stops c)

abbrev pub resume : Output → Output → Output
resume a d = resumed a.raw a.ending d

abbrev pub GoingAt : Ending → Type 0
GoingAt done = ⊥
GoingAt waits = Unit {0}
GoingAt (stops c) = Unit {0}

-- it is not done
abbrev pub IsGoing : Output → Type 0
IsGoing a = GoingAt a.ending

abbrev pub SettledAt : Ending → Type 0
SettledAt done = Unit {0}
SettledAt waits = ⊥
SettledAt (stops c) = Unit {0}

-- it waits for nothing
abbrev pub IsSettled : Output → Type 0
IsSettled a = SettledAt a.ending

with_raw : (e : Ending) (a b : List Asked) → a ≡ b → out a e ≡ out b e
with_raw e a b p = ap (λ (r : List Asked). out r e) p

assoc_at : (r s : List Asked) (g h : Ending) (c : Output) → next (output_behind r g (out s h)) c ≡ output_behind r g (output_behind s h c)
assoc_at r s done done c = with_raw c.ending _ _ (append_assoc r s c.raw)
assoc_at r s done waits c = refl
assoc_at r s done (stops k) c = refl
assoc_at r s waits h c = refl
assoc_at r s (stops k) h c = refl

pub next-assoc : (a b c : Output) → next (next a b) c ≡ next a (next b c)
next-assoc a b c = assoc_at a.raw b.raw a.ending b.ending c

going_next_at : (r : List Asked) (g : Ending) (b : Output) → GoingAt g → output_behind r g b ≡ out r g
going_next_at r done b h = absurd h
going_next_at r waits b h = refl
going_next_at r (stops k) b h = refl

pub going-next : (a b : Output) → IsGoing a → next a b ≡ a
going-next a b h = going_next_at a.raw a.ending b h

next_going_at : (r : List Asked) (g : Ending) (b : Output) → IsGoing b → IsGoing (output_behind r g b)
next_going_at r done b h = h
next_going_at r waits b h = tt
next_going_at r (stops k) b h = tt

pub next_going : (a b : Output) → IsGoing b → IsGoing (next a b)
next_going a b h = next_going_at a.raw a.ending b h

next_settled_at : (r : List Asked) (g : Ending) (b : Output) → SettledAt g → IsSettled b → IsSettled (output_behind r g b)
next_settled_at r done b h k = k
next_settled_at r waits b h k = absurd h
next_settled_at r (stops c) b h k = tt

pub next_settled : (a b : Output) → IsSettled a → IsSettled b → IsSettled (next a b)
next_settled a b h k = next_settled_at a.raw a.ending b h k

resume_going_at : (r : List Asked) (g : Ending) (d : Output) → GoingAt g → IsGoing d → IsGoing (resumed r g d)
resume_going_at r done d h k = absurd h
resume_going_at r waits d h k = k
resume_going_at r (stops c) d h k = tt

pub resume_going : (a d : Output) → IsGoing a → IsGoing d → IsGoing (resume a d)
resume_going a d h k = resume_going_at a.raw a.ending d h k

resume_behind_at : (r s : List Asked) (g h : Ending) (d : Output) → SettledAt g → output_behind r g (resumed s h d) ≡ resume (output_behind r g (out s h)) d
resume_behind_at r s done done d k = refl
resume_behind_at r s done waits d k = with_raw d.ending _ _ (sym (append_assoc r s d.raw))
resume_behind_at r s done (stops c) d k = refl
resume_behind_at r s waits h d k = absurd k
resume_behind_at r s (stops c) h d k = refl

-- more output_behind what is settled
pub resume_behind : (a b d : Output) → IsSettled a → next a (resume b d) ≡ resume (next a b) d
resume_behind a b d k = resume_behind_at a.raw b.raw a.ending b.ending d k

end_here_at : (r : List Asked) (g : Ending) (t : Output) → GoingAt g → next (next (resumed r g (gives [])) t) waiting ≡ resumed r g (next t waiting)
end_here_at r done t h = absurd h
end_here_at r waits t h = ap (λ (x : List Asked). next (next (gives x) t) waiting) (append-nil r) ∙ behind_all r t.raw t.ending
  where
    behind_all : (r s : List Asked) (g : Ending) → next (next (gives r) (out s g)) waiting ≡ resumed r waits (next (out s g) waiting)
    behind_all r s done = with_raw waits _ _ (append_assoc r s [])
    behind_all r s waits = refl
    behind_all r s (stops c) = refl
end_here_at r (stops c) t h = refl

-- what waited is done, and then comes t
pub end_here : (a t : Output) → IsGoing a → next (next (resume a (gives [])) t) waiting ≡ resume a (next t waiting)
end_here a t h = end_here_at a.raw a.ending t h

next_nil_at : (r : List Asked) (g : Ending) → output_behind r g (gives []) ≡ out r g
next_nil_at r done = with_raw done _ _ (append-nil r)
next_nil_at r waits = refl
next_nil_at r (stops c) = refl

pub next-nil : (a : Output) → next a (gives []) ≡ a
next-nil a = next_nil_at a.raw a.ending

pub resume_waits : (m r : Output) → m.ending ≡ waits → resume m r ≡ out (m.raw ++ r.raw) r.ending
resume_waits m r e = ap (λ (g : Ending). resumed m.raw g r) e

pub resume_stops : (m r : Output) (c : Code) → m.ending ≡ stops c → resume m r ≡ out m.raw (stops c)
resume_stops m r c e = ap (λ (g : Ending). resumed m.raw g r) e

opens_at : (r : List Asked) (g : Ending) (k : Code) → g ≡ stops k → output_behind r g waiting ≡ out r g
opens_at r g k e = rw e refl

pub next_stops : (f : Output) (k : Code) → f.ending ≡ stops k → next f waiting ≡ f
next_stops f k e = opens_at f.raw f.ending k e

opens_done_at : (r : List Asked) (g : Ending) → g ≡ done → output_behind r g waiting ≡ out r waits
opens_done_at r g e = rw e (with_raw waits _ _ (append-nil r))

pub next_done : (f : Output) → f.ending ≡ done → next f waiting ≡ out f.raw waits
next_done f e = opens_done_at f.raw f.ending e
