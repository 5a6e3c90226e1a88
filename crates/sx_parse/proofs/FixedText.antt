-- Fixed text, by its runs without braces.
use Rattle.std.proofs.Common.{◌≡◌, ℕ, suc, ◌+◌, ◌-◌, ◌<◌, ◌≤◌, inl, inr, Bool, true, false, not, ◌==◌, cond, List, [], ◌∷◌, ◌++◌, length, take, drop, get_or, refl, ap, sym, subst, ◌∙◌, arith, length-drop, get_or-drop}
use Rattle.std.proofs.Math.Seq.{take-add}
use Rattle.std.proofs.lemmas.Bool.{cases_lt}
use Rattle.std.proofs.lemmas.Bool.Decides.{nat_tests}
use Rattle.std.proofs.lemmas.List.{drop_more, drop-drop, drop_all, take_rest}
use Rattle.std.proofs.lemmas.List.Sums.{prefix_len-le-length, prefix_len_stops}
use Rattle.std.proofs.lemmas.Str.{IsCharBoundary-before_ascii, IsCharBoundary-after_ascii, IsCharBoundary-end}
use Rattle.std.specs.List.{prefix_len}
use Rattle.std.specs.Str.{IsCharBoundary, IsUtf8}
use Rattle.sx_parse.specs.Templates.{begins_with, doubled, is_brace, IsFixedNext, StopsFixed}

-- how many bytes stand in front of the first brace
abbrev pub brace_free : List ℕ → ℕ
brace_free s = prefix_len (λ (c : ℕ). not (is_brace c)) s

pub free_within : (text : List ℕ) (at : ℕ) → brace_free (drop at text) ≤ length text - at
free_within text at = omega (arith, prefix_len-le-length (λ (c : ℕ). not (is_brace c)) (drop at text), length-drop at text)

doubled_cases : (b : Bool) (c : ℕ) (xs ys : List ℕ) → cond b (c ∷ c ∷ (xs ++ ys)) (c ∷ (xs ++ ys)) ≡ cond b (c ∷ c ∷ xs) (c ∷ xs) ++ ys
doubled_cases true c xs ys = refl
doubled_cases false c xs ys = refl

doubled-append : (xs ys : List ℕ) → doubled (xs ++ ys) ≡ doubled xs ++ doubled ys
doubled-append [] ys = refl
doubled-append (c ∷ cs) ys = ap (λ (zs : List ℕ). cond (is_brace c) (c ∷ c ∷ zs) (c ∷ zs)) (doubled-append cs ys) ∙ doubled_cases (is_brace c) c (doubled cs) (doubled ys)

doubled_plain : (c : ℕ) (cs : List ℕ) → is_brace c ≡ false → doubled (c ∷ cs) ≡ c ∷ doubled cs
doubled_plain c cs e = ap (λ (b : Bool). cond b (c ∷ c ∷ doubled cs) (c ∷ doubled cs)) e

doubled_brace : (c : ℕ) (cs : List ℕ) → is_brace c ≡ true → doubled (c ∷ cs) ≡ c ∷ c ∷ doubled cs
doubled_brace c cs e = ap (λ (b : Bool). cond b (c ∷ c ∷ doubled cs) (c ∷ doubled cs)) e

free_plain : (c : ℕ) (cs : List ℕ) → is_brace c ≡ false → brace_free (c ∷ cs) ≡ suc (brace_free cs)
free_plain c cs e = ap (λ (b : Bool). cond (not b) (1 + brace_free cs) 0) e ∙ (omega arith)

free_brace : (c : ℕ) (cs : List ℕ) → is_brace c ≡ true → brace_free (c ∷ cs) ≡ 0
free_brace c cs e = ap (λ (b : Bool). cond (not b) (1 + brace_free cs) 0) e

-- text without braces is written as it is
free_written : (s : List ℕ) → take (brace_free s) s ≡ doubled (take (brace_free s) s)
free_written [] = refl
free_written (c ∷ cs) = by (free_written cs) (is_brace c) refl
  where
    by : take (brace_free cs) cs ≡ doubled (take (brace_free cs) cs) → (b : Bool) → is_brace c ≡ b → take (brace_free (c ∷ cs)) (c ∷ cs) ≡ doubled (take (brace_free (c ∷ cs)) (c ∷ cs))
    by rest true e = subst (λ (n : ℕ). take n (c ∷ cs) ≡ doubled (take n (c ∷ cs))) (sym (free_brace c cs e)) refl
    by rest false e = subst (λ (n : ℕ). take n (c ∷ cs) ≡ doubled (take n (c ∷ cs))) (sym (free_plain c cs e))
        (ap (λ (zs : List ℕ). c ∷ zs) rest ∙ sym (doubled_plain c (take (brace_free cs) cs) e))

-- the same with a doubled brace behind it
brace_written : (s : List ℕ) → begins_with (get_or s (brace_free s) 0) (drop (suc (brace_free s)) s) ≡ true →
    take (suc (suc (brace_free s))) s ≡ doubled (take (suc (brace_free s)) s)
brace_written [] twice = cc
brace_written (c ∷ cs) twice = by (brace_written cs) (is_brace c) refl
  where
    front : (cs : List ℕ) → begins_with c cs ≡ true → take 1 cs ≡ c ∷ []
    front [] e = cc
    front (d ∷ ds) e = ap (λ (x : ℕ). x ∷ []) (grind (arith, nat_tests))

    by : (begins_with (get_or cs (brace_free cs) 0) (drop (suc (brace_free cs)) cs) ≡ true → take (suc (suc (brace_free cs))) cs ≡ doubled (take (suc (brace_free cs)) cs)) →
        (b : Bool) → is_brace c ≡ b → take (suc (suc (brace_free (c ∷ cs)))) (c ∷ cs) ≡ doubled (take (suc (brace_free (c ∷ cs))) (c ∷ cs))
    by rest true e =
        let none = free_brace c cs e in
        subst (λ (n : ℕ). take (suc (suc n)) (c ∷ cs) ≡ doubled (take (suc n) (c ∷ cs))) (sym none)
        (ap (λ (zs : List ℕ). c ∷ zs) (front cs (subst (λ (n : ℕ). begins_with (get_or (c ∷ cs) n 0) (drop (suc n) (c ∷ cs)) ≡ true) none twice)) ∙ sym (doubled_brace c [] e))
    by rest false e =
        let more = free_plain c cs e in
        subst (λ (n : ℕ). take (suc (suc n)) (c ∷ cs) ≡ doubled (take (suc n) (c ∷ cs))) (sym more)
        (ap (λ (zs : List ℕ). c ∷ zs) (rest (subst (λ (n : ℕ). begins_with (get_or (c ∷ cs) n 0) (drop (suc n) (c ∷ cs)) ≡ true) more twice))
        ∙ sym (doubled_plain c (take (suc (brace_free cs)) cs) e))

-- from an offset up to another this fixed text stands, and in front of a third no brace stands behind it
pub record IsCopied (text : List ℕ) (offset : ℕ) (fixed : List ℕ) (end brace : ℕ) : Type 0 where
  pub order : offset ≤ end
  pub boundary : IsCharBoundary text end
  pub copied : take (end - offset) (drop offset text) ≡ doubled fixed
  pub run : brace ≡ end + brace_free (drop end text)

pub brace_within : (text : List ℕ) (offset : ℕ) (fixed : List ℕ) (end brace : ℕ) → IsCopied text offset fixed end brace → brace ≤ length text
brace_within text offset fixed end brace h =
    omega (arith, prefix_len-le-length (λ (c : ℕ). not (is_brace c)) (drop end text), length-drop end text, h.run, h.boundary.0)

-- what stands at the end of a run without braces
pub brace_at : (text : List ℕ) (offset : ℕ) (fixed : List ℕ) (end brace : ℕ) → IsCopied text offset fixed end brace → brace < length text → is_brace (get_or text brace 0) ≡ true
brace_at text offset fixed end brace h below =
    let stops = prefix_len_stops (λ (c : ℕ). not (is_brace c)) (drop end text) 0 (omega (arith, length-drop end text, h.run, h.boundary.0)) in
    let at : get_or (drop end text) (brace_free (drop end text)) 0 ≡ get_or text brace 0 = get_or-drop end text (brace_free (drop end text)) 0 ∙ ap (λ (k : ℕ). get_or text k 0) (sym h.run) in
    let none : not (is_brace (get_or text brace 0)) ≡ false = ap (λ (c : ℕ). not (is_brace c)) (sym at) ∙ stops in
    turned (is_brace (get_or text brace 0)) none
  where
    turned : (b : Bool) → not b ≡ false → b ≡ true
    turned true e = refl
    turned false e = cc

brace_low : (c : ℕ) → is_brace c ≡ true → c < 128
brace_low c e = grind (arith, nat_tests)

pub brace_boundary : (text : List ℕ) (offset : ℕ) (fixed : List ℕ) (end brace : ℕ) → IsCopied text offset fixed end brace → IsCharBoundary text brace
brace_boundary text offset fixed end brace h = elim (cases_lt brace (length text)) [
  | inl below ↦ IsCharBoundary-before_ascii text brace below (brace_low (get_or text brace 0) (brace_at text offset fixed end brace h below))
  | inr past ↦ subst (λ (n : ℕ). IsCharBoundary text n) (let most = brace_within text offset fixed end brace h in omega arith) (IsCharBoundary-end text)
]

-- more that is written behind what is copied
copied_more : (text : List ℕ) (offset : ℕ) (fixed : List ℕ) (end size : ℕ) (more : List ℕ) → offset ≤ end →
    take (end - offset) (drop offset text) ≡ doubled fixed → take size (drop end text) ≡ doubled more →
    take (end + size - offset) (drop offset text) ≡ doubled (fixed ++ more)
copied_more text offset fixed end size more order copied written =
    let split : end + size - offset ≡ end - offset + size = omega arith in
    let behind : drop (end - offset) (drop offset text) ≡ drop end text = drop-drop (end - offset) offset text ∙ ap (λ (n : ℕ). drop n text) (omega arith) in
    ap (λ (n : ℕ). take n (drop offset text)) split
    ∙ take-add (end - offset) size (drop offset text)
    ∙ ap (λ (front : List ℕ). front ++ take size (drop (end - offset) (drop offset text))) copied
    ∙ ap (λ (back : List ℕ). doubled fixed ++ take size back) behind
    ∙ ap (λ (back : List ℕ). doubled fixed ++ back) written
    ∙ sym (doubled-append fixed more)

-- a brace that stands twice
pub twice_within : (text : List ℕ) (at : ℕ) → begins_with (get_or text at 0) (drop (at + 1) text) ≡ true → (at + 1 < length text) × (get_or text (at + 1) 0 ≡ get_or text at 0)
twice_within text at e = elim (cases_lt (at + 1) (length text)) [
  | inl below ↦ (below, same (subst (λ (rest : List ℕ). begins_with (get_or text at 0) rest ≡ true) (drop_more text (at + 1) 0 below) e))
  | inr past ↦ absurd (none (subst (λ (rest : List ℕ). begins_with (get_or text at 0) rest ≡ true) (drop_all (at + 1) text past) e))
]
  where
    same : get_or text (at + 1) 0 == get_or text at 0 ≡ true → get_or text (at + 1) 0 ≡ get_or text at 0
    same t = grind (arith, nat_tests)

    none : false ≡ true → ⊥
    none f = cc

pub copied_begins : (text : List ℕ) (offset brace : ℕ) → IsCharBoundary text offset → brace ≡ offset + brace_free (drop offset text) → IsCopied text offset [] offset brace
copied_begins text offset brace cut run = record {
  order = omega arith;
  boundary = cut;
  copied = ap (λ (n : ℕ). take n (drop offset text)) (let e : offset - offset ≡ 0 = omega arith in e);
  run = run;
}

pub copied_goes_on : (text : List ℕ) (offset : ℕ) (fixed : List ℕ) (end brace next : ℕ) → IsUtf8 text → IsCopied text offset fixed end brace →
    begins_with (get_or text brace 0) (drop (brace + 1) text) ≡ true → next ≡ brace + 2 + brace_free (drop (brace + 2) text) →
    IsCopied text offset (fixed ++ take (brace + 1 - end) (drop end text)) (brace + 2) next
copied_goes_on text offset fixed end brace next utf8 h twice run =
    let n = brace_free (drop end text) in
    let order = h.order in
    let within = twice_within text brace twice in
    let low = brace_low (get_or text brace 0) (brace_at text offset fixed end brace h (let w = within.0 in omega arith)) in
    let is_run = h.run in
    let at : get_or text brace 0 ≡ get_or (drop end text) n 0 = sym (get_or-drop end text n 0 ∙ ap (λ (k : ℕ). get_or text k 0) (sym h.run)) in
    let behind : drop (brace + 1) text ≡ drop (suc n) (drop end text) = sym (drop-drop (suc n) end text ∙ ap (λ (k : ℕ). drop k text) (omega arith)) in
    let again : begins_with (get_or (drop end text) n 0) (drop (suc n) (drop end text)) ≡ true =
    ap (λ (c : ℕ). begins_with c (drop (suc n) (drop end text))) (sym at) ∙ ap (begins_with (get_or text brace 0)) (sym behind) ∙ twice in
    let long : end + suc (suc n) - offset ≡ brace + 2 - offset = omega arith in
    let short : suc n ≡ brace + 1 - end = omega arith in record {
      order = omega arith;
      boundary = subst (λ (k : ℕ). IsCharBoundary text k) (omega arith) (IsCharBoundary-after_ascii text (brace + 1) utf8 within.0 (omega (arith, within.1)));
      copied =
          ap (λ (k : ℕ). take k (drop offset text)) (sym long)
          ∙ copied_more text offset fixed end (suc (suc n)) (take (suc n) (drop end text)) order h.copied (brace_written (drop end text) again)
          ∙ ap (λ (k : ℕ). doubled (fixed ++ take k (drop end text))) short;
      run = run;
    }

pub stops_at : (text : List ℕ) (at : ℕ) → (at < length text → is_brace (get_or text at 0) ≡ true) → begins_with (get_or text at 0) (drop (at + 1) text) ≡ false → StopsFixed (drop at text)
stops_at text at brace single = elim (cases_lt at (length text)) [
  | inl below ↦ subst StopsFixed (sym (drop_more text at 0 below)) (brace below, single)
  | inr past ↦ subst StopsFixed (sym (drop_all at text past)) tt
]

pub copied_ends : (text : List ℕ) (offset : ℕ) (fixed : List ℕ) (end brace : ℕ) → IsCopied text offset fixed end brace → (StopsFixed (drop offset text) → ⊥) →
    begins_with (get_or text brace 0) (drop (brace + 1) text) ≡ false → IsFixedNext text offset (fixed ++ take (brace - end) (drop end text)) brace
copied_ends text offset fixed end brace h begins single =
    let n = brace_free (drop end text) in
    let order = h.order in
    let is_run = h.run in
    let most = brace_within text offset fixed end brace h in
    let stops = stops_at text brace (brace_at text offset fixed end brace h) single in
    let back : drop (brace - offset) (drop offset text) ≡ drop brace text = drop-drop (brace - offset) offset text ∙ ap (λ (k : ℕ). drop k text) (omega arith) in
    let long : end + n - offset ≡ brace - offset = omega arith in
    let short : n ≡ brace - end = omega arith in record {
      begins = elim (cases_lt offset brace) [
        | inl below ↦ below
        | inr past ↦ absurd (begins (subst (λ (k : ℕ). StopsFixed (drop k text)) (omega arith) stops))
      ];
      front = record {
        within = omega (arith, length-drop offset text);
        written =
            ap (λ (k : ℕ). take k (drop offset text)) (sym long)
            ∙ copied_more text offset fixed end n (take n (drop end text)) order h.copied (free_written (drop end text))
            ∙ ap (λ (k : ℕ). doubled (fixed ++ take k (drop end text))) short;
        stops = subst StopsFixed (sym back) stops;
      };
      boundary = brace_boundary text offset fixed end brace h;
    }

-- what is known of the bytes of a text is known of the text
pub run_of : (bytes text : List ℕ) (end size : ℕ) → bytes ≡ text → size ≡ brace_free (take (length bytes - end) (drop end bytes)) → size ≡ brace_free (drop end text)
run_of bytes text end size same run = run ∙ ap brace_free (take_rest bytes end) ∙ ap (λ (s : List ℕ). brace_free (drop end s)) same

pub twice_of : (bytes text : List ℕ) (at : ℕ) (test twice : Bool) → bytes ≡ text → test ≡ begins_with (get_or bytes at 0) (drop (at + 1) bytes) → test ≡ twice →
    begins_with (get_or text at 0) (drop (at + 1) text) ≡ twice
twice_of bytes text at test twice same means is = ap (λ (s : List ℕ). begins_with (get_or s at 0) (drop (at + 1) s)) (sym same) ∙ sym means ∙ is

-- a doubled brace is cut between its two
pub between : (text : List ℕ) (offset : ℕ) (fixed : List ℕ) (end brace : ℕ) → IsUtf8 text → IsCopied text offset fixed end brace →
    begins_with (get_or text brace 0) (drop (brace + 1) text) ≡ true → IsCharBoundary text (brace + 1)
between text offset fixed end brace utf8 h twice =
    let within = twice_within text brace twice in
    IsCharBoundary-after_ascii text brace utf8 (let w = within.0 in omega arith) (brace_low (get_or text brace 0) (brace_at text offset fixed end brace h (let w = within.0 in omega arith)))
