-- Words that are written one separated_behind another are those of the text.
use Rattle.std.proofs.Common.{◌≡◌, ℕ, Bool, true, false, if◌then◌else◌, List, [], ◌∷◌, ◌++◌, refl, ap, sym, ◌∙◌, append_assoc}
use Rattle.std.proofs.lemmas.List.{append-nil}
use Rattle.std.specs.List.{fold}
use Rattle.sx_atoms.specs.Lexical.{is_blank}
use Rattle.sx_fn_text.specs.Characters.{separated_behind, joined_by, longer, word_before, text_words, normalized}
use Rattle.sx_fn_text.specs.Pieces.{next_text, next_apart}

-- the text_words so far, and whether they are at an end
pub record Written : Type 0 where
  pub text : List ℕ
  pub apart : Bool

abbrev pub start : Written
start = record { text = []; apart = false }

abbrev pub next : Written → ℕ → Written
next w c = record { text = next_text w.text w.apart c; apart = next_apart w.text c }

abbrev pub written : List ℕ → Written
written cs = fold next start cs

abbrev sp : List ℕ
sp = 32 ∷ []

-- what follows in a word, and the text_words separated_behind it
abbrev rest_of : List ℕ → List ℕ
rest_of [] = []
rest_of (c ∷ cs) = if is_blank c then separated_behind sp (text_words cs) else c ∷ rest_of cs

joined_longer : (c : ℕ) (ws : List (List ℕ)) → joined_by sp (longer c ws) ≡ c ∷ joined_by sp ws
joined_longer c [] = refl
joined_longer c (w ∷ ws) = refl

joined_word : (c : ℕ) (cs : List ℕ) → joined_by sp (word_before c cs (text_words cs)) ≡ c ∷ rest_of cs
joined_word c [] = refl
joined_word c (d ∷ ds) = turn (is_blank d) (joined_word d ds)
  where
    turn : (b : Bool) → joined_by sp (word_before d ds (text_words ds)) ≡ d ∷ rest_of ds
        → joined_by sp (if b then (c ∷ []) ∷ (if b then text_words ds else word_before d ds (text_words ds)) else longer c (if b then text_words ds else word_before d ds (text_words ds)))
        ≡ c ∷ (if b then separated_behind sp (text_words ds) else d ∷ rest_of ds)
    turn true e = refl
    turn false e = joined_longer c (word_before d ds (text_words ds)) ∙ ap (λ l. c ∷ l) e

behind_longer : (c : ℕ) (ws : List (List ℕ)) → separated_behind sp (longer c ws) ≡ 32 ∷ joined_by sp (longer c ws)
behind_longer c [] = refl
behind_longer c (w ∷ ws) = refl

behind_word : (c : ℕ) (cs : List ℕ) (ws : List (List ℕ)) → separated_behind sp (word_before c cs ws) ≡ 32 ∷ joined_by sp (word_before c cs ws)
behind_word c [] ws = refl
behind_word c (d ∷ ds) ws = turn (is_blank d)
  where
    turn : (b : Bool) → separated_behind sp (if b then (c ∷ []) ∷ ws else longer c ws) ≡ 32 ∷ joined_by sp (if b then (c ∷ []) ∷ ws else longer c ws)
    turn true = refl
    turn false = behind_longer c ws

-- what is written separated_behind a text that has begun
abbrev tail_of : Bool → List ℕ → List ℕ
tail_of true cs = separated_behind sp (text_words cs)
tail_of false cs = rest_of cs

walked_on : (a : Bool) (t : ℕ) (ts cs : List ℕ) → (fold next (record { text = t ∷ ts; apart = a }) cs).text ≡ (t ∷ ts) ++ tail_of a cs
walked_on true t ts [] = sym (append-nil (t ∷ ts))
walked_on false t ts [] = sym (append-nil (t ∷ ts))
walked_on true t ts (c ∷ cs) = turn (is_blank c) (walked_on true t ts cs) (walked_on false t (ts ++ 32 ∷ c ∷ []) cs)
  where
    turn : (b : Bool) → (fold next (record { text = t ∷ ts; apart = true }) cs).text ≡ (t ∷ ts) ++ separated_behind sp (text_words cs)
        → (fold next (record { text = t ∷ (ts ++ 32 ∷ c ∷ []); apart = false }) cs).text ≡ (t ∷ (ts ++ 32 ∷ c ∷ [])) ++ rest_of cs
        → (fold next (record { text = if b then t ∷ ts else t ∷ (ts ++ 32 ∷ c ∷ []); apart = if b then true else false }) cs).text
        ≡ (t ∷ ts) ++ separated_behind sp (if b then text_words cs else word_before c cs (text_words cs))
    turn true e f = e
    turn false e f =
        f ∙ append_assoc (t ∷ ts) (32 ∷ c ∷ []) (rest_of cs)
        ∙ ap (λ l. (t ∷ ts) ++ l) (sym (behind_word c cs (text_words cs) ∙ ap (λ l. 32 ∷ l) (joined_word c cs)))
walked_on false t ts (c ∷ cs) = turn (is_blank c) (walked_on true t ts cs) (walked_on false t (ts ++ c ∷ []) cs)
  where
    turn : (b : Bool) → (fold next (record { text = t ∷ ts; apart = true }) cs).text ≡ (t ∷ ts) ++ separated_behind sp (text_words cs)
        → (fold next (record { text = t ∷ (ts ++ c ∷ []); apart = false }) cs).text ≡ (t ∷ (ts ++ c ∷ [])) ++ rest_of cs
        → (fold next (record { text = if b then t ∷ ts else t ∷ (ts ++ c ∷ []); apart = if b then true else false }) cs).text
        ≡ (t ∷ ts) ++ (if b then separated_behind sp (text_words cs) else c ∷ rest_of cs)
    turn true e f = e
    turn false e f = f ∙ append_assoc (t ∷ ts) (c ∷ []) (rest_of cs)

pub walked : (cs : List ℕ) → (written cs).text ≡ normalized cs
walked [] = refl
walked (c ∷ cs) = turn (is_blank c) (walked cs)
  where
    turn : (b : Bool) → (fold next start cs).text ≡ joined_by sp (text_words cs)
        → (fold next (record { text = if b then [] else c ∷ []; apart = if b then false else false }) cs).text
        ≡ joined_by sp (if b then text_words cs else word_before c cs (text_words cs))
    turn true e = e
    turn false e = walked_on false c [] cs ∙ sym (joined_word c cs)
