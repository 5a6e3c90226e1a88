-- Building one by one built_by what the definitions give for all that was asked for.
use Rattle.std.proofs.Common.{◌≡◌, ℕ, suc, Bool, true, false, cond, List, [], ◌∷◌, ◌++◌, length, Option, Some, None, refl, ap, subst, sym, ◌∙◌, append_assoc, append-nil}
use Rattle.std.specs.Prelude.{is_none}
use Rattle.sx_atoms.specs.declared.error_codes.Code.{Code}
use Rattle.sx_lines.specs.declared.events.Built.{Built}
use Rattle.sx_lines.specs.declared.events.Built.TheVariants as event
use Rattle.sx_build.specs.Asked.{Asked, starts, ends, has, says, prints, instructs}
use Rattle.sx_build.specs.Content.{Held, spaced, in_texts, parts_from, Parts}
use Rattle.sx_lines.specs.declared.events.Pair.{Pair}
use Rattle.sx_build.specs.FixUp.{fix_up}
use Rattle.sx_build.specs.Build.{Open, bindings_in, printed_name, declaration_pairs, attribute_pairs, built_in, built, error_of, is_start, without_last_start, Build}
use Rattle.sx_build.specs.Course.{Construction, nothing_constructed, held_start, with_held, end_event, text_gives, after_text, built_by, gives_unless, after, after_unless, given_from, reached_from, given_by, constructed}

-- ---- what is still to be built

-- how many elements are open with the one whose start is held
abbrev depth : List Open → Option Held → ℕ
depth os None = length os
depth os (Some h) = suc (length os)

abbrev parts_on : List Open → Option Held → Bool → List Asked → Parts
parts_on os held behind_atom asked = parts_from (depth os held) held (in_texts behind_atom asked)

abbrev built_unless : Option Code → List Open → Option Held → Bool → List Asked → List Built
built_unless (Some c) os held behind_atom asked = held_start os held
built_unless None os held behind_atom asked = built_in os (parts_on os held behind_atom asked).parts

abbrev error_unless : Option Code → List Open → Option Held → Bool → List Asked → Option Code
error_unless (Some c) os held behind_atom asked = Some c
error_unless None os held behind_atom asked = (parts_on os held behind_atom asked).error

abbrev built_on : Construction → List Asked → List Built
built_on c asked = built_unless c.error c.elements c.held c.behind_atom asked

abbrev error_on : Construction → List Asked → Option Code
error_on c asked = error_unless c.error c.elements c.held c.behind_atom asked

-- what comes next is built as it is, and then the rest; the error is that of the rest
abbrev IsStep : Option Code → List Open → Option Held → Bool → Asked → List Asked → Type 0
IsStep error os held behind_atom a rest =
    (built_unless error os held behind_atom (a ∷ rest) ≡ gives_unless error os held behind_atom a ++ built_on (after_unless error os held behind_atom a) rest)
    × (error_unless error os held behind_atom (a ∷ rest) ≡ error_on (after_unless error os held behind_atom a) rest)

says_step : (os : List Open) (held : Option Held) (behind_atom : Bool) (s : List ℕ) (rest : List Asked) → IsStep None os held behind_atom (says s) rest
says_step os held behind_atom [] rest = (refl, refl)
says_step os None behind_atom (b ∷ bs) rest = (refl, refl)
says_step os (Some h) behind_atom (b ∷ bs) rest = (refl, refl)

prints_step : (os : List Open) (held : Option Held) (behind_atom : Bool) (s : List ℕ) (rest : List Asked) → IsStep None os held behind_atom (prints s) rest
prints_step os None true s rest = (refl, refl)
prints_step os (Some h) true s rest = (refl, refl)
prints_step os held false [] rest = (refl, refl)
prints_step os None false (b ∷ bs) rest = (refl, refl)
prints_step os (Some h) false (b ∷ bs) rest = (refl, refl)

step : (error : Option Code) (os : List Open) (held : Option Held) (behind_atom : Bool) (a : Asked) (rest : List Asked) → IsStep error os held behind_atom a rest
step (Some c) os held behind_atom a rest = (refl, refl)
step None os None behind_atom (starts name) rest = (refl, refl)
step None os (Some h) behind_atom (starts name) rest = (refl, refl)
step None [] None behind_atom ends rest = (refl, refl)
step None (o ∷ os) None behind_atom ends rest = (refl, refl)
step None os (Some h) behind_atom ends rest = (refl, refl)
step None os None behind_atom (has a) rest = (refl, refl)
step None os (Some h) behind_atom (has a) rest = (refl, refl)
step None os held behind_atom (says s) rest = says_step os held behind_atom s rest
step None os held behind_atom (prints s) rest = prints_step os held behind_atom s rest
step None os None behind_atom (instructs target content) rest = (refl, refl)
step None os (Some h) behind_atom (instructs target content) rest = (refl, refl)

nothing_left : (error : Option Code) (os : List Open) (held : Option Held) (behind_atom : Bool)
    → (built_unless error os held behind_atom [] ≡ held_start os held) × (error_unless error os held behind_atom [] ≡ error)
nothing_left (Some c) os held behind_atom = (refl, refl)
nothing_left None os None behind_atom = (refl, refl)
nothing_left None os (Some h) behind_atom = (refl, refl)

abbrev start_left : Construction → List Built
start_left c = held_start c.elements c.held

built_from : (c : Construction) (asked : List Asked) → built_on c asked ≡ given_from c asked ++ start_left (reached_from c asked)
built_from c [] = (nothing_left c.error c.elements c.held c.behind_atom).0
built_from c (a ∷ rest) =
    (step c.error c.elements c.held c.behind_atom a rest).0
    ∙ ap (λ (es : List Built). built_by c a ++ es) (built_from (after c a) rest)
    ∙ sym (append_assoc (built_by c a) (given_from (after c a) rest) (start_left (reached_from (after c a) rest)))

error_from : (c : Construction) (asked : List Asked) → error_on c asked ≡ (reached_from c asked).error
error_from c [] = (nothing_left c.error c.elements c.held c.behind_atom).1
error_from c (a ∷ rest) = (step c.error c.elements c.held c.behind_atom a rest).1 ∙ error_from (after c a) rest

-- the built events are those that are fixed, and the start that is held
pub built_is : (asked : List Asked) → built asked ≡ given_by asked ++ start_left (constructed asked)
built_is asked = built_from nothing_constructed asked

pub error_is : (asked : List Asked) → error_of asked ≡ (constructed asked).error
error_is asked = error_from nothing_constructed asked

-- ---- what is fixed

-- only the last event is looked at
last-append : (es : List Built) (e : Built) → without_last_start (es ++ e ∷ []) ≡ es ++ without_last_start (e ∷ [])
last-append [] e = refl
last-append (d ∷ []) e = refl
last-append (d ∷ c ∷ es) e = ap (λ (x : List Built). d ∷ x) (last-append (c ∷ es) e)

-- an event that is no start is fixed where it stands last
last_fixed : (es : List Built) (e : Built) → is_start e ≡ false → without_last_start (es ++ e ∷ []) ≡ es ++ e ∷ []
last_fixed es e other = last-append es e ∙ ap (λ (b : Bool). es ++ cond b [] (e ∷ [])) other

-- a start is not
start_waits : (es : List Built) (e : Built) → is_start e ≡ true → without_last_start (es ++ e ∷ []) ≡ es
start_waits es e is = last-append es e ∙ ap (λ (b : Bool). es ++ cond b [] (e ∷ [])) is ∙ append-nil es

-- the pairs of the start that is held
abbrev held_pairs : List Open → Held → List Pair
held_pairs os h = let f = fix_up (bindings_in os) h.name h.attributes in declaration_pairs f.declared ++ attribute_pairs f.attributes

-- where no start is held, all is fixed
abbrev IsFixed : Option Held → List Built → Type 0
IsFixed None es = without_last_start es ≡ es
IsFixed (Some h) es = Unit {0}

fixed_behind : (es : List Built) (os : List Open) (held : Option Held) (e : Built) → is_start e ≡ false → IsFixed None (es ++ (held_start os held ++ e ∷ []))
fixed_behind es os None e other = last_fixed es e other
fixed_behind es os (Some h) e other =
    let first = held_start os (Some h) in
    ap without_last_start (sym (append_assoc es first (e ∷ [])))
    ∙ last_fixed (es ++ first) e other
    ∙ append_assoc es first (e ∷ [])

same_fixed : (es : List Built) (held : Option Held) → IsFixed held es → IsFixed held (es ++ [])
same_fixed es None is = ap without_last_start (append-nil es) ∙ is ∙ sym (append-nil es)
same_fixed es (Some h) is = tt

text_fixed : (es : List Built) (os : List Open) (held : Option Held) (is_atom : Bool) (s : List ℕ) → IsFixed held es
    → IsFixed (after_text os held is_atom s).held (es ++ text_gives os held s)
text_fixed es os held is_atom [] is = same_fixed es held is
text_fixed es os held is_atom (b ∷ bs) is = fixed_behind es os held (event.Text (b ∷ bs)) refl

end_fixed : (es : List Built) (os : List Open) (held : Option Held) → IsFixed held es → IsFixed None (es ++ (held_start os held ++ end_event (with_held os held)))
end_fixed es [] None is = same_fixed es None is
end_fixed es (o ∷ os) None is = last_fixed es (event.End o.name) refl
end_fixed es os (Some h) is = fixed_behind es os (Some h) (event.End (printed_name h.name)) refl

fixed_step : (error : Option Code) (es : List Built) (os : List Open) (held : Option Held) (behind_atom : Bool) (a : Asked) → IsFixed held es
    → IsFixed (after_unless error os held behind_atom a).held (es ++ gives_unless error os held behind_atom a)
fixed_step (Some c) es os held behind_atom a is = same_fixed es held is
fixed_step None es os held behind_atom (starts name) is = tt
fixed_step None es os held behind_atom ends is = end_fixed es os held is
fixed_step None es os None behind_atom (has a) is = same_fixed es None is
fixed_step None es os (Some h) behind_atom (has a) is = tt
fixed_step None es os held behind_atom (says s) is = text_fixed es os held false s is
fixed_step None es os held behind_atom (prints s) is = text_fixed es os held true (spaced behind_atom s) is
fixed_step None es os held behind_atom (instructs target content) is = fixed_behind es os held (event.Pi target content) refl

fixed_from : (es : List Built) (c : Construction) (asked : List Asked) → IsFixed c.held es → IsFixed (reached_from c asked).held (es ++ given_from c asked)
fixed_from es c [] is = same_fixed es c.held is
fixed_from es c (a ∷ rest) is =
    let next = fixed_from (es ++ built_by c a) (after c a) rest (fixed_step c.error es c.elements c.held c.behind_atom a is) in
    subst (λ (x : List Built). IsFixed (reached_from (after c a) rest).held x) (append_assoc es (built_by c a) (given_from (after c a) rest)) next

without_start : (es : List Built) (os : List Open) (held : Option Held) → IsFixed held es → without_last_start (es ++ held_start os held) ≡ es
without_start es os None is = ap without_last_start (append-nil es) ∙ is
without_start es os (Some h) is = start_waits es (event.Start (printed_name h.name) (held_pairs os h)) refl

-- what is fixed is all but the start that is held
pub Build_is : (asked : List Asked) → Build asked false ≡ given_by asked
Build_is asked =
    let c = constructed asked in
    ap without_last_start (built_is asked)
    ∙ without_start (given_by asked) c.elements c.held (fixed_from [] nothing_constructed asked refl)

-- at its end without an error it is all that is built
pub Build_ended : (asked : List Asked) → (constructed asked).error ≡ None → Build asked true ≡ given_by asked ++ start_left (constructed asked)
Build_ended asked none =
    ap (λ (error : Option Code). cond (is_none error) (built asked) (without_last_start (built asked))) (error_is asked ∙ none)
    ∙ built_is asked

-- behind an error the end changes nothing
pub Build_stopped : (asked : List Asked) (c : Code) → (constructed asked).error ≡ Some c → Build asked true ≡ given_by asked
Build_stopped asked c some =
    ap (λ (error : Option Code). cond (is_none error) (built asked) (without_last_start (built asked))) (error_is asked ∙ some)
    ∙ Build_is asked

-- ---- more that is asked for

pub given_more : (c : Construction) (asked more : List Asked) → given_from c (asked ++ more) ≡ given_from c asked ++ given_from (reached_from c asked) more
given_more c [] more = refl
given_more c (a ∷ asked) more =
    ap (λ (es : List Built). built_by c a ++ es) (given_more (after c a) asked more)
    ∙ sym (append_assoc (built_by c a) (given_from (after c a) asked) (given_from (reached_from (after c a) asked) more))

pub reached_more : (c : Construction) (asked more : List Asked) → reached_from c (asked ++ more) ≡ reached_from (reached_from c asked) more
reached_more c [] more = refl
reached_more c (a ∷ asked) more = reached_more (after c a) asked more

-- one more
pub given_one : (asked : List Asked) (a : Asked) → given_by (asked ++ a ∷ []) ≡ given_by asked ++ built_by (constructed asked) a
given_one asked a =
    given_more nothing_constructed asked (a ∷ [])
    ∙ ap (λ (es : List Built). given_by asked ++ es) (append-nil (built_by (constructed asked) a))

pub reached_one : (asked : List Asked) (a : Asked) → constructed (asked ++ a ∷ []) ≡ after (constructed asked) a
reached_one asked a = reached_more nothing_constructed asked (a ∷ [])

-- ---- an error

-- where there is an error, no start is held
abbrev IsSound : Option Code → Option Held → Type 0
IsSound None held = Unit {0}
IsSound (Some c) held = held ≡ None

sound_text : (os : List Open) (held : Option Held) (is_atom : Bool) (s : List ℕ) → IsSound (after_text os held is_atom s).error (after_text os held is_atom s).held
sound_text os held is_atom [] = tt
sound_text os held is_atom (b ∷ bs) = tt

sound_step : (error : Option Code) (os : List Open) (held : Option Held) (behind_atom : Bool) (a : Asked) → IsSound error held
    → let c = after_unless error os held behind_atom a in IsSound c.error c.held
sound_step (Some c) os held behind_atom a is = is
sound_step None os held behind_atom (starts name) is = tt
sound_step None os held behind_atom ends is = tt
sound_step None os None behind_atom (has a) is = refl
sound_step None os (Some h) behind_atom (has a) is = tt
sound_step None os held behind_atom (says s) is = sound_text os held false s
sound_step None os held behind_atom (prints s) is = sound_text os held true (spaced behind_atom s)
sound_step None os held behind_atom (instructs target content) is = tt

sound_from : (c : Construction) (asked : List Asked) → IsSound c.error c.held → IsSound (reached_from c asked).error (reached_from c asked).held
sound_from c [] is = is
sound_from c (a ∷ rest) is = sound_from (after c a) rest (sound_step c.error c.elements c.held c.behind_atom a is)

pub stopped_holds : (asked : List Asked) (c : Code) → (constructed asked).error ≡ Some c → held_start (constructed asked).elements (constructed asked).held ≡ []
stopped_holds asked c is =
    let none : (constructed asked).held ≡ None = subst (λ (error : Option Code). IsSound error (constructed asked).held) is (sound_from nothing_constructed asked tt) in
    ap (held_start (constructed asked).elements) none
