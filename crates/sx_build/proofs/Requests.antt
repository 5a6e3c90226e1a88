-- What a builder stands for after one more request, at the end, and when it has given what is fixed.
use Rattle.std.proofs.Common.{◌≡◌, ℕ, suc, Bool, true, false, List, [], ◌∷◌, ◌++◌, length, take, drop, reverse, Option, Some, None, refl, ap, ap₂, sym, subst, ◌∙◌, arith, append_assoc, append-nil}
use Rattle.std.specs.Prelude.{◌<◌, is_some, ◌==◌, vec_len, vec_capacity}
use Rattle.std.specs.Global.{Vec}
use Rattle.std.proofs.lemmas.List.{length-reverse, drop_at}
use Rattle.std.proofs.lemmas.Bool.{false≢true}
use Rattle.sx_atoms.specs.declared.error_codes.Code.{Code}
use Rattle.sx_lines.specs.declared.events.Built.{Built}
use Rattle.sx_lines.specs.declared.events.Built.TheVariants as event
use Rattle.sx_build.specs.declared.builder.Builder.{Builder}
use Rattle.sx_build.specs.declared.builder.Element.{Element}
use Rattle.sx_build.specs.declared.withheld.Withheld.{Withheld}
use Rattle.sx_named.specs.Named.{Attribute}
use Rattle.sx_build.specs.Asked.{Asked, prints}
use Rattle.sx_build.specs.Content.{Held, spaced, misplaced}
use Rattle.sx_build.specs.FixUp.{Binding}
use Rattle.sx_build.specs.Build.{Open, error_of, Build}
use Rattle.sx_build.specs.Course.{Construction, at_work, held_start, with_held, text_gives, after_text, after_attribute, gives_unless, gives_in, built_by, after_unless, after_in, after, constructed}
use Rattle.sx_build.specs.Builder.{AreOpen, HoldsNone, HoldsOne, HoldsBack, Withholds, KeepsTo, KeepsAt, StandsFor, answer_of}
use Rattle.sx_build.proofs.Courses.{error_is, reached_one, Build_is, Build_ended, Build_stopped, stopped_holds}
use Rattle.sx_build.proofs.Standing.{settled_pending}
use Rattle.sx_build.proofs.Later.{adds_one}

-- what a request does where there was no error, and what it does anyway
abbrev pub IsTaken : Builder → Builder → Asked → Type 0
IsTaken b b' a =
    (os : List Open) (held : Option Held) (behind_atom : Bool) (fixed : List Built) → KeepsTo (at_work os held behind_atom) b fixed
    → KeepsTo (after_in os held behind_atom a) b' (fixed ++ gives_in os held behind_atom a)

abbrev pub IsStep : Builder → Builder → Asked → Type 0
IsStep b b' a = (c : Construction) (fixed : List Built) → KeepsTo c b fixed → KeepsTo (after c a) b' (fixed ++ built_by c a)

taken_by : (b b' : Builder) (a : Asked) (error : Option Code) → is_some b.error ≡ false → IsTaken b b' a → (c : Construction) (fixed : List Built) → c.error ≡ error
    → KeepsTo c b fixed → KeepsTo (after c a) b' (fixed ++ built_by c a)
taken_by b b' a (Some code) none step c fixed is s =
    absurd (false≢true (sym none ∙ ap (λ (e : Option Code). is_some e) (s.error_is ∙ is)))
taken_by b b' a None none step c fixed is s =
    subst
    (λ (e : Option Code). KeepsTo (after_unless e c.elements c.held c.behind_atom a) b' (fixed ++ gives_unless e c.elements c.held c.behind_atom a))
    (sym is)
    (step c.elements c.held c.behind_atom fixed (record { withholds = s.withholds; behind_is = s.behind_is; error_is = s.error_is ∙ is }))

pub taken : (b b' : Builder) (a : Asked) → is_some b.error ≡ false → IsTaken b b' a → IsStep b b' a
taken b b' a none step = λ c fixed s. taken_by b b' a c.error none step c fixed refl s

-- ---- one request more

module _ (b b' : Builder) (a : Asked) (step : IsStep b b' a) (asked : List Asked) (given : ℕ) (s : StandsFor b asked false given) where
  next : KeepsTo (constructed (asked ++ a ∷ [])) b' (s.fixed ++ built_by (constructed asked) a)
  next =
      subst (λ (c : Construction). KeepsTo c b' (s.fixed ++ built_by (constructed asked) a)) (sym (reached_one asked a)) (step (constructed asked) s.fixed s.keeps)

  pub stands_more : StandsFor b' (asked ++ a ∷ []) false given
  stands_more = record {
    front = s.front;
    fixed = s.fixed ++ built_by (constructed asked) a;
    count = s.count;
    due = sym (append_assoc s.front s.fixed (built_by (constructed asked) a))
        ∙ ap (λ (es : List Built). es ++ built_by (constructed asked) a) s.due
        ∙ sym (adds_one asked a);
    keeps = next;
  }

  pub answers : answer_of b'.error ≡ answer_of (error_of (asked ++ a ∷ []))
  answers = ap answer_of (next.error_is ∙ sym (error_is (asked ++ a ∷ [])))

-- ---- a text

pub text_taken : (os : List Open) (held : Option Held) (is_atom : Bool) (fixed : List Built) (text seen : List ℕ) (b : Builder) → seen ≡ text → false ≡ (length seen == 0)
    → KeepsTo (at_work (with_held os held) None is_atom) b (fixed ++ (held_start os held ++ event.Text text ∷ []))
    → KeepsTo (after_text os held is_atom text) b (fixed ++ text_gives os held text)
text_taken os held is_atom fixed [] seen b is some s = absurd (false≢true (some ∙ ap (λ (x : List ℕ). length x == 0) is))
text_taken os held is_atom fixed (x ∷ xs) seen b is some s = s

-- ---- an atom

pub atom_taken : (b b' : Builder) (text printed seen : List ℕ) → printed ≡ spaced b.behind_atom seen → seen ≡ text
    → ((os : List Open) (held : Option Held) (behind_atom : Bool) (fixed : List Built) → KeepsTo (at_work os held behind_atom) b fixed
    → KeepsTo (after_text os held true printed) b' (fixed ++ text_gives os held printed))
    → IsTaken b b' (prints text)
atom_taken b b' text printed seen is same step = λ os held behind_atom fixed s.
    subst (λ (t : List ℕ). KeepsTo (after_text os held true t) b' (fixed ++ text_gives os held t)) (is ∙ ap₂ spaced s.behind_is same)
    (step os held behind_atom fixed s)

-- ---- an attribute behind anything else than its start

as_many : (os : List Open) (es : List Element) (bindings : List Binding) → AreOpen os es bindings → length os ≡ length es
as_many [] [] bindings are = refl
as_many [] (e ∷ es) bindings are = absurd are
as_many (o ∷ os) [] bindings are = absurd are
as_many (o ∷ os) (e ∷ es) bindings are = ap suc (as_many os es (take e.begins bindings) are.2)

pub misplaced_taken : (os : List Open) (held : Option Held) (behind_atom : Bool) (fixed : List Built) (b : Builder) (a : Attribute) (code : Code) → b.withheld ≡ None
    → code ≡ misplaced (length b.elements) → KeepsTo (at_work os held behind_atom) b fixed
    → KeepsTo (after_attribute os held a) (record b { behind_atom = false; error = Some code }) (fixed ++ [])
misplaced_taken os None behind_atom fixed b a code none is s =
    let n : HoldsNone os b.elements b.bindings.items b.pending fixed =
    subst (λ (w : Option Withheld). HoldsBack os None w b.elements b.bindings.items b.pending fixed) none s.withholds in
    record {
      withholds = subst (λ (es : List Built). Withholds os None b es) (sym (append-nil fixed)) s.withholds;
      behind_is = refl;
      error_is = ap (λ (n : Code). Some n)
          (is ∙ ap misplaced (sym (length-reverse b.elements) ∙ sym (as_many os (reverse b.elements) b.bindings.items n.are_open)));
    }
misplaced_taken os (Some h) behind_atom fixed b a code none is s =
    absurd (subst (λ (w : Option Withheld). HoldsBack os (Some h) w b.elements b.bindings.items b.pending fixed) none s.withholds)

-- ---- the end

-- what is withheld at the end of what was asked for
abbrev start_left : Construction → List Built
start_left c = held_start c.elements c.held

ended_by : (asked : List Asked) (error : Option Code) (front fixed : List Built) → (constructed asked).error ≡ error → front ++ fixed ≡ Build asked false
    → front ++ (fixed ++ start_left (constructed asked)) ≡ Build asked true
ended_by asked (Some code) front fixed is due =
    ap (λ (es : List Built). front ++ (fixed ++ es)) (stopped_holds asked code is)
    ∙ ap (λ (es : List Built). front ++ es) (append-nil fixed)
    ∙ due ∙ Build_is asked ∙ sym (Build_stopped asked code is)
ended_by asked None front fixed is due =
    sym (append_assoc front fixed (start_left (constructed asked)))
    ∙ ap (λ (es : List Built). es ++ start_left (constructed asked)) (due ∙ Build_is asked)
    ∙ sym (Build_ended asked is)

module _ (b b' : Builder) (asked : List Asked) (given : ℕ) (s : StandsFor b asked false given) where
  pub stands_ended : b'.withheld ≡ None → b'.pending.items ≡ s.fixed ++ start_left (constructed asked) → StandsFor b' asked true given
  stands_ended none is = record {
    front = s.front;
    fixed = s.fixed ++ start_left (constructed asked);
    count = s.count;
    due = ended_by asked (constructed asked).error s.front s.fixed refl s.due;
    keeps = record { none_withheld = none; pending_is = is };
  }

-- nothing is withheld
pub none_left : (os : List Open) (held : Option Held) (b : Builder) (fixed : List Built) → b.withheld ≡ None → Withholds os held b fixed
    → b.pending.items ≡ fixed ++ held_start os held
none_left os None b fixed none s =
    let n : HoldsNone os b.elements b.bindings.items b.pending fixed =
    subst (λ (w : Option Withheld). HoldsBack os None w b.elements b.bindings.items b.pending fixed) none s in
    n.pending_is ∙ sym (append-nil fixed)
none_left os (Some h) b fixed none s =
    absurd (subst (λ (w : Option Withheld). HoldsBack os (Some h) w b.elements b.bindings.items b.pending fixed) none s)

-- a start is withheld, for which there is room, and is put behind what is fixed
pub one_left : (os : List Open) (held : Option Held) (b : Builder) (fixed pending' : List Built) (w : Withheld) (e : Built) → b.withheld ≡ Some w → Withholds os held b fixed
    → e ≡ event.Start w.name w.pairs.items → (vec_len b.pending < vec_capacity b.pending → pending' ≡ b.pending.items ++ e ∷ [])
    → pending' ≡ fixed ++ held_start os held
one_left os None b fixed pending' w e some s is pushed =
    absurd (subst (λ (x : Option Withheld). HoldsBack os None x b.elements b.bindings.items b.pending fixed) some s)
one_left os (Some h) b fixed pending' w e some s is pushed =
    let one : HoldsOne os h w b.elements b.bindings.items b.pending fixed =
    subst (λ (x : Option Withheld). HoldsBack os (Some h) x b.elements b.bindings.items b.pending fixed) some s in
    settled_pending os h w b.elements b.bindings.items b.pending fixed one pending' e is (pushed one.room)

-- ---- what is given

-- what is pending is fixed
pending_fixed : (os : List Open) (held : Option Held) (w : Option Withheld) (elements : List Element) (bindings : List Binding) (pending : Vec Built) (fixed : List Built)
    → HoldsBack os held w elements bindings pending fixed → pending.items ≡ fixed
pending_fixed os None None elements bindings pending fixed s = s.pending_is
pending_fixed os None (Some w) elements bindings pending fixed s = absurd s
pending_fixed os (Some h) None elements bindings pending fixed s = absurd s
pending_fixed os (Some h) (Some w) elements bindings pending fixed s = s.pending_is

module _ (b : Builder) (asked : List Asked) (given : ℕ) where
  is_due : (at_end : Bool) (s : StandsFor b asked at_end given) → s.fixed ≡ drop given (Build asked at_end)
  is_due at_end s = sym (ap (drop given) (sym s.due) ∙ drop_at s.front s.fixed given s.count)

  pub gives_rest : (at_end : Bool) → StandsFor b asked at_end given → b.pending.items ≡ drop given (Build asked at_end)
  gives_rest true s = s.keeps.pending_is ∙ is_due true s
  gives_rest false s =
      let c = constructed asked in
      pending_fixed c.elements c.held b.withheld b.elements b.bindings.items b.pending s.fixed s.keeps.withholds ∙ is_due false s

-- ---- all that is fixed was given

module _ (pending pending' : Vec Built) (none : pending'.items ≡ []) (empty : vec_len pending' ≡ 0) (same : vec_capacity pending' ≡ vec_capacity pending) where
  cleared : (os : List Open) (held : Option Held) (w : Option Withheld) (elements : List Element) (bindings : List Binding) (fixed : List Built)
      → HoldsBack os held w elements bindings pending fixed → HoldsBack os held w elements bindings pending' []
  cleared os None None elements bindings fixed s = record { are_open = s.are_open; pending_is = none }
  cleared os None (Some w) elements bindings fixed s = absurd s
  cleared os (Some h) None elements bindings fixed s = absurd s
  cleared os (Some h) (Some w) elements bindings fixed s = record {
    rest = s.rest;
    last = s.last;
    elements_are = s.elements_are;
    last_name = s.last_name;
    last_begins = s.last_begins;
    are_open = s.are_open;
    holds = s.holds;
    pending_is = none;
    room = omega (arith, empty, same, s.room);
  }

  cleared_at : (b : Builder) (asked : List Asked) (at_end : Bool) (fixed : List Built) → b.pending ≡ pending → KeepsAt at_end asked b fixed
      → KeepsAt at_end asked (record b { pending = pending' }) []
  cleared_at b asked true fixed is s = record { none_withheld = s.none_withheld; pending_is = none }
  cleared_at b asked false fixed is s =
      let c = constructed asked in
      record {
        withholds = cleared c.elements c.held b.withheld b.elements b.bindings.items fixed
            (subst (λ (p : Vec Built). HoldsBack c.elements c.held b.withheld b.elements b.bindings.items p fixed) is s.withholds);
        behind_is = s.behind_is;
        error_is = s.error_is;
      }

pub stands_given : (b : Builder) (pending' : Vec Built) (asked : List Asked) (at_end : Bool) (given : ℕ) → pending'.items ≡ [] → vec_len pending' ≡ 0
    → vec_capacity pending' ≡ vec_capacity b.pending → StandsFor b asked at_end given
    → StandsFor (record b { pending = pending' }) asked at_end (length (Build asked at_end))
stands_given b pending' asked at_end given none empty same s = record {
  front = s.front ++ s.fixed;
  fixed = [];
  count = ap length s.due;
  due = append-nil (s.front ++ s.fixed) ∙ s.due;
  keeps = cleared_at b.pending pending' none empty same b asked at_end s.fixed refl s.keeps;
}
