-- What was read before any further tokens stands in each derivation that goes on with them.
use Rattle.std.proofs.Common.{◌≡◌, ℕ, suc, ◌+◌, Bool, false, List, [], ◌∷◌, ◌++◌, length, take, Option, Some, None, refl, ap, sym, ◌∙◌, append-nil, arith}
use Rattle.std.proofs.Math.Seq.{take-append_seam}
use Rattle.sx_parse.specs.declared.lexemes.Lexeme.{Lexeme}
use Rattle.sx_parse.specs.declared.roles.Role.{Role}
use Rattle.sx_parse.specs.Grammar.{Tree, Derives}
use Rattle.sx_parse.specs.Machine.{State, named, start, read, ended}
use Rattle.sx_parse.specs.Reading.{turns, SaysNothing}
use Rattle.sx_parse.specs.Nodes.{nodes}
use Rattle.sx_parse.specs.Roles.{roles}
use Rattle.sx_parse.specs.Standing.{state_roles, state_nodes}
use Rattle.sx_parse.proofs.Running.{bind, accept}
use Rattle.sx_parse.proofs.Joining.{ended_roles, last_nodes, ended_nodes}
use Rattle.sx_parse.proofs.Firm.{Leads, leads_on, firm, turned, one_more, firm_leads, firm_grows, read_counts}

-- ---- whatever follows

held_step : (o : Option State) (before : List Role) (ls : List Lexeme) (t : Tree) → ((next : State) → o ≡ Some next → Leads before (firm next)) →
    ((next : State) → accept next ls ≡ Some t → Leads (firm next) (roles 0 t)) → bind o (λ next. accept next ls) ≡ Some t → Leads before (roles 0 t)
held_step None before ls t g f e = absurd cc
held_step (Some next) before ls t g f e = leads_on before (firm next) (roles 0 t) (g next refl) (f next e)

-- what stands firm stands in the whole derivation
pub held : (s : State) (ls : List Lexeme) (t : Tree) → accept s ls ≡ Some t → Leads (firm s) (roles 0 t)
held s [] t e = let x = firm_leads s in record { rest = x.rest; all_are = ended_roles s t e ∙ x.all_are }
held s (l ∷ ls) t e = held_step (read s l) (firm s) ls t (λ next r. firm_grows s l next r) (λ next r. held next ls t r) e

quiet_turns_none : (s : State) (l : Lexeme) → turns l ≡ false → turned s l ≡ false
quiet_turns_none (named pre w p s) l h = h
quiet_turns_none s l h = refl

-- where no token behind them turns a name, all roles do
pub kept : (s : State) (ls : List Lexeme) (t : Tree) → accept s ls ≡ Some t → SaysNothing ls → Leads (state_roles s) (roles 0 t)
kept s [] t e q = record { rest = []; all_are = ended_roles s t e ∙ sym (append-nil (state_roles s)) }
kept s (l ∷ ls) t e q =
    held_step (read s l) (state_roles s) ls t (λ next r. (one_more s l next r (quiet_turns_none s l q)).stand) (λ next r. held next ls t r) e

-- ---- the tokens before

abbrev pub then_read : Option State → (State → Option State) → Option State
then_read None f = None
then_read (Some s) f = f s

-- the state behind tokens
abbrev pub after : State → List Lexeme → Option State
after s [] = Some s
after s (l ∷ ls) = then_read (read s l) (λ next. after next ls)

-- where the machine stands when it has read these tokens from its start
abbrev pub Behind : Bool → List Lexeme → State → Type 0
Behind p ts s = after (start p) ts ≡ Some s

goes_on_step : (o : Option State) (ts rest : List Lexeme) (u : State) → ((next : State) → after next ts ≡ Some u → accept next (ts ++ rest) ≡ accept u rest) →
    then_read o (λ next. after next ts) ≡ Some u → bind o (λ next. accept next (ts ++ rest)) ≡ accept u rest
goes_on_step None ts rest u f e = absurd cc
goes_on_step (Some next) ts rest u f e = f next e

-- reading goes on from there
pub goes_on : (s : State) (ts rest : List Lexeme) (u : State) → after s ts ≡ Some u → accept s (ts ++ rest) ≡ accept u rest
goes_on s [] rest u e = let g : s ≡ u = cc in ap (λ (x : State). accept x rest) g
goes_on s (l ∷ ts) rest u e = goes_on_step (read s l) ts rest u (λ next r. goes_on next ts rest u r) e

count_step : (o : Option State) (ts : List Lexeme) (u : State) (n : ℕ) → ((next : State) → o ≡ Some next → length (state_roles next) ≡ suc n) →
    ((next : State) → after next ts ≡ Some u → length (state_roles u) ≡ length (state_roles next) + length ts) →
    then_read o (λ next. after next ts) ≡ Some u → length (state_roles u) ≡ n + suc (length ts)
count_step None ts u n g f e = absurd cc
count_step (Some next) ts u n g f e = omega (arith, g next refl, f next e)

-- each token has one role
pub counted : (s : State) (ts : List Lexeme) (u : State) → after s ts ≡ Some u → length (state_roles u) ≡ length (state_roles s) + length ts
counted s [] u e = let g : s ≡ u = cc in omega (arith, ap (λ (x : State). length (state_roles x)) g)
counted s (l ∷ ts) u e = count_step (read s l) ts u (length (state_roles s)) (λ next r. read_counts s l next r) (λ next r. counted next ts u r) e

pub behind_counts : (p : Bool) (ts : List Lexeme) (s : State) → Behind p ts s → length (state_roles s) ≡ length ts
behind_counts p ts s e = omega (arith, counted (start p) ts s e)

pub front_taken : (n : ℕ) (front all : List Role) → n ≡ length front → Leads front all → front ≡ take n all
front_taken n front all h x =
    sym (take-append_seam front x.rest) ∙ ap (λ (k : ℕ). take k (front ++ x.rest)) (sym h) ∙ ap (take n) (sym x.all_are)

-- where all was read, the derivation, its roles and its list
pub record Wholly (p : Bool) (ts : List Lexeme) (s : State) (t : Tree) : Type 0 where
  pub derives : Derives p ts t
  pub roles_are : state_roles s ≡ roles 0 t
  pub nodes_are : state_nodes s ++ last_nodes s ≡ nodes t

pub stands_whole : (p : Bool) (ts : List Lexeme) (s : State) → ((us : List Lexeme) (t : Tree) → accept (start p) us ≡ Some t → Derives p us t) → Behind p ts s →
    (t : Tree) → ended s ≡ Some t → Wholly p ts s t
stands_whole p ts s sound b t e =
    let reads : accept (start p) (ts ++ []) ≡ Some t = goes_on (start p) ts [] s b ∙ e in
    record {
      derives = sound ts t (ap (accept (start p)) (sym (append-nil ts)) ∙ reads);
      roles_are = sym (ended_roles s t e);
      nodes_are = sym (ended_nodes s t e);
    }
