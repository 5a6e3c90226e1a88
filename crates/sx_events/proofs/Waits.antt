-- The attribute lines that wait: the namespace declarations among them, and the others.
use Rattle.std.proofs.Common.{◌≡◌, ℕ, suc, ◌+◌, ◌-◌, Bool, true, false, not, nat_lt, leb, List, [], ◌∷◌, ◌++◌, length, Option, Some, None, is_none, cond, refl, ap, ap₂, sym, ◌∙◌, arith, append-nil}
use Rattle.std.proofs.lemmas.Bool.{lt-leb, le-leb, leb-true, leb-false}
use Rattle.sx_tree.specs.declared.events.Space.{Space}
use Rattle.sx_events.specs.Place.{Written, declared_prefix, put_space, spaces_of, ordinary}
use Rattle.sx_events.specs.Standing.{AreWaiting, attribute_lines_of}
use Rattle.sx_events.specs.declared.attributes.Attributes.{Attributes}
use Rattle.sx_events.proofs.Opens.{full}

abbrev others : Option (List ℕ) → Written → List Written → List Written
others o w ws = cond (is_none o) (w ∷ ws) ws

counted : (o : Option (List ℕ)) (w : Written) (ws : List Written) (spaces : List Space) (n : ℕ) → length ws + length spaces ≡ n → length (others o w ws) + length (put_space o w.value spaces) ≡ suc n
counted None w ws spaces n h = omega (arith, h)
counted (Some prefix) w ws spaces n h = omega (arith, h)

-- each line is one or the other
pub count-waiting : (ws : List Written) → length (ordinary ws) + length (spaces_of ws) ≡ length ws
count-waiting [] = refl
count-waiting (w ∷ ws) = counted (declared_prefix w.name) w (ordinary ws) (spaces_of ws) (length ws) (count-waiting ws)

put-append : (o : Option (List ℕ)) (uri : List ℕ) (xs ys : List Space) → put_space o uri (xs ++ ys) ≡ put_space o uri xs ++ ys
put-append None uri xs ys = refl
put-append (Some prefix) uri xs ys = refl

others-append : (o : Option (List ℕ)) (w : Written) (xs ys : List Written) → others o w (xs ++ ys) ≡ others o w xs ++ ys
others-append None w xs ys = refl
others-append (Some prefix) w xs ys = refl

spaces-append : (ws : List Written) (w : Written) → spaces_of (ws ++ w ∷ []) ≡ spaces_of ws ++ put_space (declared_prefix w.name) w.value []
spaces-append [] w = refl
spaces-append (v ∷ ws) w =
    ap (put_space (declared_prefix v.name) v.value) (spaces-append ws w)
    ∙ put-append (declared_prefix v.name) v.value (spaces_of ws) (put_space (declared_prefix w.name) w.value [])

ordinary-append : (ws : List Written) (w : Written) → ordinary (ws ++ w ∷ []) ≡ ordinary ws ++ others (declared_prefix w.name) w []
ordinary-append [] w = refl
ordinary-append (v ∷ ws) w =
    ap (others (declared_prefix v.name) v) (ordinary-append ws w)
    ∙ others-append (declared_prefix v.name) v (ordinary ws) (others (declared_prefix w.name) w [])

module _ (old new : Attributes) (ws : List Written) (w : Written) (wait : AreWaiting old ws) where
  -- a namespace declaration more
  pub wait_space : (prefix : List ℕ) → Some prefix ≡ declared_prefix w.name → attribute_lines_of new ≡ attribute_lines_of old → new.spaces ≡ old.spaces ++ record { prefix = prefix; uri = w.value } ∷ [] →
      AreWaiting new (ws ++ w ∷ [])
  wait_space prefix is same more = record {
    ordinary = same ∙ wait.ordinary ∙ sym (append-nil (ordinary ws)) ∙ ap (λ (o : Option (List ℕ)). ordinary ws ++ others o w []) is ∙ sym (ordinary-append ws w);
    spaces = more ∙ ap₂ (λ (xs : List Space) (o : Option (List ℕ)). xs ++ put_space o w.value []) wait.spaces is ∙ sym (spaces-append ws w);
  }

  -- another line more
  pub wait_other : None ≡ declared_prefix w.name → attribute_lines_of new ≡ attribute_lines_of old ++ w ∷ [] → new.spaces ≡ old.spaces → AreWaiting new (ws ++ w ∷ [])
  wait_other is more same = record {
    ordinary = more ∙ ap₂ (λ (xs : List Written) (o : Option (List ℕ)). xs ++ others o w []) wait.ordinary is ∙ sym (ordinary-append ws w);
    spaces = same ∙ wait.spaces ∙ sym (append-nil (spaces_of ws)) ∙ ap (λ (o : Option (List ℕ)). spaces_of ws ++ put_space o w.value []) is ∙ sym (spaces-append ws w);
  }

-- as many wait as may
pub waits_full : (most a b n : ℕ) → a + b ≡ n → leb (most - a) b ≡ not (nat_lt n most)
waits_full most a b n is = same (leb most n) refl ∙ full most n
  where
    same : (v : Bool) → leb most n ≡ v → leb (most - a) b ≡ leb most n
    same true h = let le = leb-true most n h in le-leb (most - a) b (omega (arith, le, is)) ∙ sym h
    same false h = let lt = leb-false most n h in lt-leb (most - a) b (omega (arith, lt, is)) ∙ sym h
