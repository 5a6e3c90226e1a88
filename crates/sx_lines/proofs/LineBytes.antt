-- Lines can be told apart by their bytes.
use Rattle.std.proofs.Common.{◌≡◌, ℕ, ◌<◌, false, List, [], ◌∷◌, ◌++◌, length, nat_eq, refl, sym, ap, ◌∙◌, arith}
use Rattle.std.proofs.lemmas.List.{append-nil}
use Rattle.std.specs.Str.{IsUtf8}
use Rattle.sx_lines.specs.declared.events.Pair.{Pair}
use Rattle.sx_lines.specs.declared.lines.Line.{Line}
use Rattle.sx_lines.specs.declared.lines.Line.TheVariants as kind
use Rattle.sx_lines.specs.Print.{escape, content_part}
use Rattle.sx_lines.specs.Normal.{IsName, IsTarget, IsPair}
use Rattle.sx_lines.specs.Lines.{Lacks, word_cdata, line_bytes, IsLine}
use Rattle.sx_lines.proofs.Escapes.{not_equal, escape_lacks, same_escape, escaped_some}
use Rattle.sx_lines.proofs.Lacking.{Lacks-append, not_split, unique_split}
use Rattle.sx_lines.proofs.NameBytes.{ncname_lacks, qname_lacks}

-- names hold no newline and no space
pub name_one_line : (name : List ℕ) → IsName name → Lacks 10 name
name_one_line name is = qname_lacks 10 (omega arith) refl (λ e. absurd (omega (arith, e))) name is.0 is.1

pub name_one_word : (name : List ℕ) → IsName name → Lacks 32 name
name_one_word name is = qname_lacks 32 (omega arith) refl (λ e. absurd (omega (arith, e))) name is.0 is.1

pub target_one_line : (target : List ℕ) → IsTarget target → Lacks 10 target
target_one_line target is = ncname_lacks 10 (omega arith) refl target is.0 is.1

pub target_one_word : (target : List ℕ) → IsTarget target → Lacks 32 target
target_one_word target is = ncname_lacks 32 (omega arith) refl target is.0 is.1

-- two first bytes make two byte strings
other_first : (a b : ℕ) → nat_eq a b ≡ false → {x y : List ℕ} → ¬ (a ∷ x ≡ b ∷ y)
other_first a b other e = not_equal a b other (cc)

pub no_bytes : (bytes : List ℕ) → length bytes ≡ 0 → bytes ≡ []
no_bytes [] e = refl
no_bytes (b ∷ bytes) e = absurd (omega arith)

-- what a line with this first byte says
pub pair_line : (l : Line) (bytes : List ℕ) → IsLine l → line_bytes l ≡ 65 ∷ bytes → (p : Pair) × IsPair p × (p.name ++ 32 ∷ (word_cdata ++ escape p.value) ≡ bytes)
pair_line (kind.Pair p) bytes is e = (p, is, cc)
pair_line (kind.Start name) bytes is e = absurd (other_first 40 65 refl e)
pair_line (kind.End name) bytes is e = absurd (other_first 41 65 refl e)
pair_line (kind.Text text) bytes is e = absurd (other_first 45 65 refl e)
pair_line (kind.Pi target content) bytes is e = absurd (other_first 63 65 refl e)

pub text_line : (l : Line) (bytes : List ℕ) → IsLine l → line_bytes l ≡ 45 ∷ bytes → (text : List ℕ) × IsUtf8 text × (0 < length text) × (escape text ≡ bytes)
text_line (kind.Pair p) bytes is e = absurd (other_first 65 45 refl e)
text_line (kind.Start name) bytes is e = absurd (other_first 40 45 refl e)
text_line (kind.End name) bytes is e = absurd (other_first 41 45 refl e)
text_line (kind.Text text) bytes is e = (text, is.0, is.1, cc)
text_line (kind.Pi target content) bytes is e = absurd (other_first 63 45 refl e)

pub instruction_line : (l : Line) (bytes : List ℕ) → IsLine l → line_bytes l ≡ 63 ∷ bytes
    → (target : List ℕ) × (content : List ℕ) × IsTarget target × IsUtf8 content × (target ++ content_part content ≡ bytes)
instruction_line (kind.Pair p) bytes is e = absurd (other_first 65 63 refl e)
instruction_line (kind.Start name) bytes is e = absurd (other_first 40 63 refl e)
instruction_line (kind.End name) bytes is e = absurd (other_first 41 63 refl e)
instruction_line (kind.Text text) bytes is e = absurd (other_first 45 63 refl e)
instruction_line (kind.Pi target content) bytes is e = (target, content, is.0, is.1, cc)

-- an attribute is split at the first space
pub pair_split : (p : Pair) (name rest : List ℕ) → IsPair p → Lacks 32 name → p.name ++ 32 ∷ (word_cdata ++ escape p.value) ≡ name ++ 32 ∷ rest
    → (p.name ≡ name) × (word_cdata ++ escape p.value ≡ rest)
pair_split p name rest is word e = unique_split 32 p.name name (word_cdata ++ escape p.value) rest (name_one_word p.name is.0) word e

pub pair_parts : (p : Pair) (name value : List ℕ) → IsPair p → Lacks 32 name → p.name ++ 32 ∷ (word_cdata ++ escape p.value) ≡ name ++ 32 ∷ (word_cdata ++ value)
    → (p.name ≡ name) × (escape p.value ≡ value)
pair_parts p name value is word e = let split = pair_split p name (word_cdata ++ value) is word e in (split.0, cc)

-- and so is an instruction, where it has content
pub content_split : (target content t c : List ℕ) → IsTarget target → Lacks 32 t → target ++ content_part content ≡ t ++ 32 ∷ c
    → (target ≡ t) × (escape content ≡ c) × ¬ (c ≡ [])
content_split target [] t c is word e = absurd (not_split 32 target t c (target_one_word target is) (sym (append-nil target) ∙ e))
content_split target (b ∷ bs) t c is word e =
    let split = unique_split 32 target t (escape (b ∷ bs)) c (target_one_word target is) word e in
    (split.0, split.1, λ none. escaped_some b (escape bs) (sym none ∙ sym split.1))

pub content_none : (target content bytes : List ℕ) → Lacks 32 bytes → target ++ content_part content ≡ bytes → (target ≡ bytes) × (content ≡ [])
content_none target [] bytes word e = (sym (append-nil target) ∙ e, refl)
content_none target (b ∷ bs) bytes word e = absurd (not_split 32 bytes target (escape (b ∷ bs)) word (sym e))

-- a line holds no newline
content_lacks : (content : List ℕ) → Lacks 10 (content_part content)
content_lacks [] = tt
content_lacks (b ∷ bs) = (λ e. absurd (cc), escape_lacks (b ∷ bs))

pub line_lacks : (l : Line) → IsLine l → Lacks 10 (line_bytes l)
line_lacks (kind.Pair p) is = (
  λ e. absurd (cc),
  Lacks-append 10 p.name (32 ∷ (word_cdata ++ escape p.value)) (name_one_line p.name is.0)
      (λ e. absurd (cc), (λ e. absurd (cc), (λ e. absurd (cc), (λ e. absurd (cc), (λ e. absurd (cc), (λ e. absurd (cc), (λ e. absurd (cc), escape_lacks p.value))))))),
)
line_lacks (kind.Start name) is = (λ e. absurd (cc), name_one_line name is)
line_lacks (kind.End name) is = (λ e. absurd (cc), name_one_line name is)
line_lacks (kind.Text text) is = (λ e. absurd (cc), escape_lacks text)
line_lacks (kind.Pi target content) is = (λ e. absurd (cc), Lacks-append 10 target (content_part content) (target_one_line target is.0) (content_lacks content))

-- the first byte of the last line is that of no other
pub not_last : (l : Line) (x y : List ℕ) → ¬ (line_bytes l ++ x ≡ 67 ∷ y)
not_last (kind.Pair p) x y e = other_first 65 67 refl e
not_last (kind.Start name) x y e = other_first 40 67 refl e
not_last (kind.End name) x y e = other_first 41 67 refl e
not_last (kind.Text text) x y e = other_first 45 67 refl e
not_last (kind.Pi target content) x y e = other_first 63 67 refl e

same_pair : (p q : Pair) → IsPair p → IsPair q → p.name ++ 32 ∷ (word_cdata ++ escape p.value) ≡ q.name ++ 32 ∷ (word_cdata ++ escape q.value) → p ≡ q
same_pair p q is js e =
    let parts = pair_parts p q.name (escape q.value) is (name_one_word q.name js.0) e in
    let value = same_escape p.value q.value parts.1 in
    λ j. record { name = parts.0 j; value = value j }

same_instruction : (t u c d : List ℕ) → IsTarget t → IsTarget u → t ++ content_part c ≡ u ++ content_part d → (t ≡ u) × (c ≡ d)
same_instruction t u c [] is js e = content_none t c u (target_one_word u js) (e ∙ append-nil u)
same_instruction t u c (b ∷ bs) is js e = let split = content_split t c u (escape (b ∷ bs)) is (target_one_word u js) e in (split.0, same_escape c (b ∷ bs) split.1)

-- two lines with the same bytes are one
pub same_line : (l m : Line) → IsLine l → IsLine m → line_bytes l ≡ line_bytes m → l ≡ m
same_line (kind.Pair p) (kind.Pair q) is js e = ap (λ r. kind.Pair r) (same_pair p q is js (cc))
same_line (kind.Pair p) (kind.Start name) is js e = absurd (other_first 65 40 refl e)
same_line (kind.Pair p) (kind.End name) is js e = absurd (other_first 65 41 refl e)
same_line (kind.Pair p) (kind.Text text) is js e = absurd (other_first 65 45 refl e)
same_line (kind.Pair p) (kind.Pi target content) is js e = absurd (other_first 65 63 refl e)
same_line (kind.Start name) (kind.Pair p) is js e = absurd (other_first 40 65 refl e)
same_line (kind.Start name) (kind.Start other) is js e = ap (λ n. kind.Start n) (cc)
same_line (kind.Start name) (kind.End other) is js e = absurd (other_first 40 41 refl e)
same_line (kind.Start name) (kind.Text text) is js e = absurd (other_first 40 45 refl e)
same_line (kind.Start name) (kind.Pi target content) is js e = absurd (other_first 40 63 refl e)
same_line (kind.End name) (kind.Pair p) is js e = absurd (other_first 41 65 refl e)
same_line (kind.End name) (kind.Start other) is js e = absurd (other_first 41 40 refl e)
same_line (kind.End name) (kind.End other) is js e = ap (λ n. kind.End n) (cc)
same_line (kind.End name) (kind.Text text) is js e = absurd (other_first 41 45 refl e)
same_line (kind.End name) (kind.Pi target content) is js e = absurd (other_first 41 63 refl e)
same_line (kind.Text text) (kind.Pair p) is js e = absurd (other_first 45 65 refl e)
same_line (kind.Text text) (kind.Start other) is js e = absurd (other_first 45 40 refl e)
same_line (kind.Text text) (kind.End other) is js e = absurd (other_first 45 41 refl e)
same_line (kind.Text text) (kind.Text other) is js e = ap (λ t. kind.Text t) (same_escape text other (cc))
same_line (kind.Text text) (kind.Pi target content) is js e = absurd (other_first 45 63 refl e)
same_line (kind.Pi t c) (kind.Pair p) is js e = absurd (other_first 63 65 refl e)
same_line (kind.Pi t c) (kind.Start other) is js e = absurd (other_first 63 40 refl e)
same_line (kind.Pi t c) (kind.End other) is js e = absurd (other_first 63 41 refl e)
same_line (kind.Pi t c) (kind.Text other) is js e = absurd (other_first 63 45 refl e)
same_line (kind.Pi t c) (kind.Pi u d) is js e =
    let same = same_instruction t u c d is.0 js.0 (cc) in
    ap (λ x. kind.Pi x c) same.0 ∙ ap (λ x. kind.Pi u x) same.1
