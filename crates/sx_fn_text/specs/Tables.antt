-- Tables of what characters become.
use Rattle.std.specs.Prelude.{◌≡◌, ℕ, ◌==◌, List, Option, Some, unwrap_or}
use Rattle.std.specs.BTreeMap.{BTreeMap, get}
use Rattle.std.specs.List.{position}
use Rattle.std.specs.Ordering.{nat_cmp}
use Rattle.sx_fn_text.specs.Characters.{partner}

-- by this table, where a character that it does not have stays, each one becomes what it is translated to from the
-- characters of m to those of t (XPath functions and operators 3.1, 5.4.9)
abbrev pub Translates : BTreeMap ℕ (Option ℕ) → List ℕ → List ℕ → Type 0
Translates table m t =
    (c : ℕ) → unwrap_or (get nat_cmp table c) (Some c) ≡ partner c t (position (λ d. d == c) m)
