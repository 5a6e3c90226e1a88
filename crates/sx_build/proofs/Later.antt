-- What is asked for later only adds.
use Rattle.std.proofs.Common.{◌≡◌, Bool, true, false, List, [], ◌∷◌, ◌++◌, Option, Some, None, refl, ap, sym, ◌∙◌, append_assoc, append-nil}
use Rattle.sx_atoms.specs.declared.error_codes.Code.{Code}
use Rattle.sx_lines.specs.declared.events.Built.{Built}
use Rattle.sx_build.specs.Asked.{Asked}
use Rattle.sx_build.specs.Build.{error_of, Build}
use Rattle.sx_build.specs.Course.{Construction, nothing_constructed, held_start, after, built_by, gives_unless, after_unless, given_from, reached_from, constructed}
use Rattle.sx_build.proofs.Courses.{error_is, Build_is, Build_ended, Build_stopped, given_more, given_one, reached_more}

-- ---- behind an error

-- the same, with an error
abbrev stopped_at : Construction → Code → Construction
stopped_at c code = record { elements = c.elements; held = c.held; behind_atom = c.behind_atom; error = Some code }

gives_none : (error : Option Code) (c : Construction) (code : Code) (a : Asked) → error ≡ Some code → gives_unless error c.elements c.held c.behind_atom a ≡ []
gives_none error c code a is = ap (λ (e : Option Code). gives_unless e c.elements c.held c.behind_atom a) is

stays_one : (error : Option Code) (c : Construction) (code : Code) (a : Asked) → error ≡ Some code → (after_unless error c.elements c.held c.behind_atom a).error ≡ Some code
stays_one error c code a is = ap (λ (e : Option Code). (after_unless e c.elements c.held c.behind_atom a).error) is

stays_from : (c : Construction) (code : Code) (more : List Asked) → c.error ≡ Some code → (reached_from c more).error ≡ Some code
stays_from c code [] is = is
stays_from c code (a ∷ more) is = stays_from (after c a) code more (stays_one c.error c code a is)

none_from : (c : Construction) (code : Code) (more : List Asked) → c.error ≡ Some code → given_from c more ≡ []
none_from c code [] is = refl
none_from c code (a ∷ more) is =
    ap (λ (es : List Built). es ++ given_from (after c a) more) (gives_none c.error c code a is)
    ∙ none_from (after c a) code more (stays_one c.error c code a is)

-- ---- the laws

reached_error : (asked more : List Asked) (c : Code) → error_of asked ≡ Some c → (constructed (asked ++ more)).error ≡ Some c
reached_error asked more c is =
    ap (λ (s : Construction). s.error) (reached_more nothing_constructed asked more)
    ∙ stays_from (constructed asked) c more (sym (error_is asked) ∙ is)

pub error_stays : (asked more : List Asked) (c : Code) → error_of asked ≡ Some c → error_of (asked ++ more) ≡ Some c
error_stays asked more c is = error_is (asked ++ more) ∙ reached_error asked more c is

-- the fixed events of more are those of fewer, with something behind them
pub adds_fixed : (asked more : List Asked) → Build (asked ++ more) false ≡ Build asked false ++ given_from (constructed asked) more
adds_fixed asked more =
    Build_is (asked ++ more)
    ∙ given_more nothing_constructed asked more
    ∙ ap (λ (es : List Built). es ++ given_from (constructed asked) more) (sym (Build_is asked))

-- one more
pub adds_one : (asked : List Asked) (a : Asked) → Build (asked ++ a ∷ []) false ≡ Build asked false ++ built_by (constructed asked) a
adds_one asked a =
    Build_is (asked ++ a ∷ [])
    ∙ given_one asked a
    ∙ ap (λ (es : List Built). es ++ built_by (constructed asked) a) (sym (Build_is asked))

-- the end adds the start that is held, where there is no error
ends_with : (asked : List Asked) (error : Option Code) → (constructed asked).error ≡ error → (last : List Built) × (Build asked true ≡ Build asked false ++ last)
ends_with asked (Some c) is = ([], Build_stopped asked c is ∙ sym (Build_is asked) ∙ sym (append-nil (Build asked false)))
ends_with asked None is =
    let last = held_start (constructed asked).elements (constructed asked).held in
    (last, Build_ended asked is ∙ ap (λ (es : List Built). es ++ last) (sym (Build_is asked)))

-- what is built of more begins with what is fixed of fewer
pub grows : (asked more : List Asked) (at_end : Bool) → (rest : List Built) × (Build (asked ++ more) at_end ≡ Build asked false ++ rest)
grows asked more false = (given_from (constructed asked) more, adds_fixed asked more)
grows asked more true =
    let next = given_from (constructed asked) more in
    let ended = ends_with (asked ++ more) (constructed (asked ++ more)).error refl in (
      next ++ ended.0,
      ended.1
          ∙ ap (λ (es : List Built). es ++ ended.0) (adds_fixed asked more)
          ∙ append_assoc (Build asked false) next ended.0,
    )

fixed_stops : (asked more : List Asked) (c : Code) → error_of asked ≡ Some c → Build (asked ++ more) false ≡ Build asked false
fixed_stops asked more c is =
    adds_fixed asked more
    ∙ ap (λ (es : List Built). Build asked false ++ es) (none_from (constructed asked) c more (sym (error_is asked) ∙ is))
    ∙ append-nil (Build asked false)

-- nothing follows an error
pub stops : (asked more : List Asked) (at_end : Bool) (c : Code) → error_of asked ≡ Some c → Build (asked ++ more) at_end ≡ Build asked false
stops asked more false c is = fixed_stops asked more c is
stops asked more true c is =
    Build_stopped (asked ++ more) c (reached_error asked more c is)
    ∙ sym (Build_is (asked ++ more))
    ∙ fixed_stops asked more c is
