-- Where the machine stands at the end, what was read.
use Rattle.std.proofs.Common.{◌≡◌, ℕ, suc, ◌+◌, ◌≤◌, Bool, true, false, List, [], ◌∷◌, ◌++◌, length, take, Option, Some, None, refl, ap, sym, ◌∙◌, append_assoc, append-nil, arith}
use Rattle.std.proofs.Math.Seq.{take-append_seam, take-append-add, take-length}
use Rattle.std.proofs.lemmas.List.{length-append, length-take-le}
use Rattle.sx_parse.specs.declared.lexemes.Lexeme.{Lexeme}
use Rattle.sx_parse.specs.declared.lexemes.Lexeme.TheVariants as lexeme
use Rattle.sx_parse.specs.declared.lexemes.Mark.TheVariants as mark
use Rattle.sx_parse.specs.Grammar.{Tree, IsFault, binding_tokens}
use Rattle.sx_parse.specs.Machine.{State, comma_bound, start, read, ended}
use Rattle.sx_parse.specs.Reading.{turns, SaysNothing, ends_in_name, IsWholeReading, IsStopped}
use Rattle.sx_parse.specs.Roles.{roles}
use Rattle.sx_parse.specs.Standing.{state_roles, state_nodes}
use Rattle.sx_parse.proofs.Running.{bind, accept}
use Rattle.sx_parse.proofs.Complete.{stays}
use Rattle.sx_parse.proofs.Joining.{last_nodes}
use Rattle.sx_parse.proofs.Firm.{Leads}
use Rattle.sx_parse.proofs.Behind.{after, then_read, Behind, goes_on, held, kept, behind_counts, front_taken, stands_whole}
use Rattle.sx_parse.proofs.Sound.{IsSound, flag_of, tokens_of, stack_tokens, Goes, step_goes}
use Rattle.sx_parse.proofs.Ends.{Quiet, begins_quiet, state_can_end}
use Rattle.sx_parse.proofs.Exact.{Stops, derived, fault}

-- ---- a state behind tokens

-- a state is sound, has its start's flag, and has read these tokens more
pub record Reached (s : State) (ts : List Lexeme) (u : State) : Type 0 where
  pub is_sound : IsSound u
  pub tokens_are : tokens_of u ≡ tokens_of s ++ ts

reached_step : (o : Option State) (s : State) (l : Lexeme) (ts : List Lexeme) (u : State) → Goes (flag_of s) (tokens_of s) l o →
    ((next : State) → IsSound next → after next ts ≡ Some u → Reached next ts u) → then_read o (λ next. after next ts) ≡ Some u → Reached s (l ∷ ts) u
reached_step None s l ts u g f e = absurd cc
reached_step (Some next) s l ts u g f e =
    let x = f next g.0 e in
    record { is_sound = x.is_sound; tokens_are = x.tokens_are ∙ ap (λ (front : List Lexeme). front ++ ts) g.2 ∙ append_assoc (tokens_of s) (l ∷ []) ts }

pub reached : (ts : List Lexeme) (s u : State) → IsSound s → after s ts ≡ Some u → Reached s ts u
reached [] s u h e = let same : s ≡ u = cc in rw (sym same) (record { is_sound = h; tokens_are = sym (append-nil (tokens_of s)) })
reached (l ∷ ts) s u h e = reached_step (read s l) s l ts u (step_goes s l h) (λ next m r. reached ts next u m r) e

-- ---- the last token

pub last_of : (b : Bool) (xs : List Lexeme) (l : Lexeme) → ends_in_name (l ∷ []) ≡ b → ends_in_name (xs ++ l ∷ []) ≡ b
last_of b [] l e = e
last_of b (x ∷ []) l e = e
last_of b (x ∷ y ∷ ys) l e = last_of b (y ∷ ys) l e

stays_quiet : (l : Lexeme) → stays l ≡ true → turns l ≡ false
stays_quiet (lexeme.Mark mark.Open) e = absurd cc
stays_quiet (lexeme.Mark mark.Colons) e = absurd cc
stays_quiet (lexeme.Mark mark.Dollar) e = absurd cc
stays_quiet l e = refl

quiet_begins : (ls : List Lexeme) → begins_quiet ls ≡ true → SaysNothing ls
quiet_begins [] e = tt
quiet_begins (l ∷ ls) e = stays_quiet l e

-- where a name was read last, no token turns it
quiet_behind : (s : State) (ts rest : List Lexeme) → tokens_of s ≡ ts → Quiet s rest → ends_in_name ts ≡ true → SaysNothing rest
quiet_behind (comma_bound bs s) ts rest e q n =
    let comma = lexeme.Mark mark.Comma in
    let f : ends_in_name ((stack_tokens s ++ binding_tokens bs) ++ comma ∷ []) ≡ false = last_of false (stack_tokens s ++ binding_tokens bs) comma refl in
    let g : ends_in_name ts ≡ false = ap ends_in_name (sym e ∙ sym (append_assoc (stack_tokens s) (binding_tokens bs) (comma ∷ []))) ∙ f in
    absurd cc
quiet_behind s ts rest e q n = quiet_begins rest q

roles_behind : (s : State) (rest : List Lexeme) (t : Tree) → accept s rest ≡ Some t → Quiet s rest → Leads (state_roles s) (roles 0 t)
roles_behind (comma_bound bs s) rest t e q = held (comma_bound bs s) rest t e
roles_behind s rest t e q = kept s rest t e (quiet_begins rest q)

-- ---- what was read

pub whole_read : (p : Bool) (ts : List Lexeme) (s : State) (t : Tree) → Behind p ts s → ended s ≡ Some t → IsWholeReading p ts (state_nodes s ++ last_nodes s) (state_roles s)
whole_read p ts s t b e =
    let x = stands_whole p ts s (derived p) b t e in
    record { tree = t; derives = x.derives; nodes_are = x.nodes_are; roles_are = x.roles_are }

-- reading stopped behind k tokens
pub stopped : (p : Bool) (ts : List Lexeme) (k : ℕ) (s : State) → k ≤ length ts → Behind p (take k ts) s → IsFault p ts k → IsStopped p ts k (state_roles s)
stopped p ts k s within b f =
    let x = reached (take k ts) (start p) s tt b in
    let e = state_can_end s in
    let d = derived p (take k ts ++ e.rest) e.tree (goes_on (start p) (take k ts) e.rest s b ∙ e.accepts) in
    let count : length (take k ts) ≡ k = length-take-le k ts within in
    record {
      fault = f;
      tree = e.tree;
      continues = record { rest = e.rest; fits = d.fits; tokens_are = d.tokens_are; quiet = quiet_behind s (take k ts) e.rest x.tokens_are e.quiet };
      roles_are = front_taken k (state_roles s) (roles 0 e.tree) (sym (behind_counts p (take k ts) s b ∙ count)) (roles_behind s e.rest e.tree e.accepts e.quiet);
    }

refused : (p : Bool) (before : List Lexeme) (l : Lexeme) (more : List Lexeme) (s : State) → Behind p before s → read s l ≡ None →
    accept (start p) (before ++ l ∷ more) ≡ None
refused p before l more s b e = goes_on (start p) before (l ∷ more) s b ∙ ap (λ (o : Option State). bind o (λ next. accept next more)) e

-- a token with which no reading goes on
pub stopped_at : (p : Bool) (before : List Lexeme) (l : Lexeme) (others : List Lexeme) (s : State) → Behind p before s → read s l ≡ None →
    IsStopped p (before ++ l ∷ others) (length before) (state_roles s)
stopped_at p before l others s b e =
    let ts = before ++ l ∷ others in
    let i = length before in
    let x = reached before (start p) s tt b in
    let many : length ts ≡ i + suc (length others) = length-append before (l ∷ others) in
    let front : take i ts ≡ before = take-append_seam before (l ∷ others) in
    let one_more : suc i ≡ i + 1 = omega arith in
    let with_it : take (suc i) ts ≡ before ++ l ∷ [] = ap (λ (n : ℕ). take n ts) one_more ∙ take-append-add before (l ∷ others) 1 in
    let stops : Stops (start p) ts i = record {
      within = omega (arith, many);
      behind = s;
      is_sound = x.is_sound;
      after = λ more. ap (λ (xs : List Lexeme). accept (start p) (xs ++ more)) front ∙ goes_on (start p) before more s b;
      at_token = λ _ more.
          ap (λ (xs : List Lexeme). accept (start p) (xs ++ more)) with_it
          ∙ ap (accept (start p)) (append_assoc before (l ∷ []) more)
          ∙ refused p before l more s b e;
      at_end = λ same. absurd (omega (arith, many, same));
    } in
    stopped p ts i s (omega (arith, many)) (ap (after (start p)) front ∙ b) (fault p ts i stops)

-- the end, where none stops
pub stopped_end : (p : Bool) (ts : List Lexeme) (s : State) → Behind p ts s → ended s ≡ None → IsStopped p ts (length ts) (state_roles s)
stopped_end p ts s b e =
    let x = reached ts (start p) s tt b in
    let front : take (length ts) ts ≡ ts = take-length ts in
    let stops : Stops (start p) ts (length ts) = record {
      within = omega arith;
      behind = s;
      is_sound = x.is_sound;
      after = λ more. ap (λ (xs : List Lexeme). accept (start p) (xs ++ more)) front ∙ goes_on (start p) ts more s b;
      at_token = λ less. absurd (omega (arith, less));
      at_end = λ _. ap (accept (start p)) (sym (append-nil ts)) ∙ goes_on (start p) ts [] s b ∙ e;
    } in
    stopped p ts (length ts) s (omega arith) (ap (after (start p)) front ∙ b) (fault p ts (length ts) stops)
