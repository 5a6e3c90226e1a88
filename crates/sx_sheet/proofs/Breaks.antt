-- Where tokens break off.
use Rattle.std.proofs.Common.{◌≡◌, ◌<◌, ◌≤◌, ℕ, suc, List, ◌++◌, take, drop, ap, sym, ◌∙◌, arith, append_assoc, inl, inr, slice_index_or}
use Rattle.std.proofs.lemmas.List.{take-append-drop, take-take}
use Rattle.std.proofs.Math.Nat.{eq-or-lt_of_le}
use Rattle.sx_sheet.specs.Tokens.{Token, LinedToken}
use Rattle.sx_sheet.specs.Syntax.{IsThin, BeginsThin, BreaksAfter, BreaksOn, tokens_in, lines_in}

-- the first tokens of a thin stylesheet begin one
first_begin : (tokens : List Token) (n : ℕ) → IsThin tokens → BeginsThin (take n tokens)
first_begin tokens n t = record { more = drop n tokens; thin = rw (take-append-drop n tokens) t }

-- so do fewer of them
fewer_begin : (tokens : List Token) (m n : ℕ) → m ≤ n → BeginsThin (take n tokens) → BeginsThin (take m tokens)
fewer_begin tokens m n h b =
    let e : take m (take n tokens) ≡ take m tokens = take-take m n tokens h in
    record { more = drop m (take n tokens) ++ b.more; thin = rw (sym e) (rw (sym (append_assoc (take m (take n tokens)) (drop m (take n tokens)) b.more)) (rw (take-append-drop m (take n tokens)) b.thin)) }

pub broken_or_thin : (lined : List LinedToken) (line : ℕ) → BreaksOn lined line → IsThin (tokens_in lined) → ⊥
broken_or_thin lined line b t =
    elim (eq-or-lt_of_le b.breaks.within) as (λ _. ⊥) [
      | inl e ↦ b.breaks.at_end e t
      | inr l ↦ b.breaks.here l (first_begin (tokens_in lined) (suc b.before) t)
    ]

not_earlier : (tokens : List Token) (a b : ℕ) → BreaksAfter tokens a → BreaksAfter tokens b → a < b → ⊥
not_earlier tokens a b f g l = f.here (omega (arith, l, g.within)) (fewer_begin tokens (suc a) b (omega (arith, l)) g.begins)

pub one_break : (tokens : List Token) (a b : ℕ) → BreaksAfter tokens a → BreaksAfter tokens b → a ≡ b
one_break tokens a b f g = grind (arith, not_earlier tokens a b f g, not_earlier tokens b a g f)

pub one_line : (lined : List LinedToken) (a b : ℕ) → BreaksOn lined a → BreaksOn lined b → a ≡ b
one_line lined a b f g =
    f.line_is ∙ ap (λ (n : ℕ). slice_index_or (lines_in lined) n 0) (one_break (tokens_in lined) f.before g.before f.breaks g.breaks) ∙ sym g.line_is
