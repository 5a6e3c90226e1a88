-- Texts that are printed_atoms one separated_behind another.
use Rattle.std.proofs.Common.{◌≡◌, ℕ, suc, ◌+◌, ◌<◌, Bool, false, not, ◌==◌, List, [], ◌∷◌, ◌++◌, map, length, get_or, drop, Result, Ok, Err, is_ok, if◌then◌else◌, OnOk, refl, ap, sym, ◌∙◌, append_assoc, length-append, add-one, arith}
use Rattle.std.proofs.Math.Seq.{drop-cons}
use Rattle.std.proofs.lemmas.Bool.Decides.{nat_tests}
use Rattle.std.proofs.lemmas.List.{append-nil}
use Rattle.std.proofs.lemmas.Str.{encodes-chars, encodes-append, length-encode, len_utf8_bounds}
use Rattle.std.specs.Char.{encode_utf8}
use Rattle.std.specs.Str.{chars, encode_utf8_all, IsUtf8}
use Rattle.sx_atoms.specs.Numbers.{◌>>=◌}
use Rattle.sx_atoms.specs.Printing.{text_of}
use Rattle.sx_atoms.specs.declared.atoms.Atom.{Atom}
use Rattle.sx_atoms.specs.declared.error_codes.Code.{Code}
use Rattle.sx_fn_text.specs.Calls.{printed_atoms, concatenated}
use Rattle.sx_fn_text.specs.Characters.{separated_behind}
use Rattle.sx_fn_text.specs.Pieces.{is_begun, IsPrinted}

-- the bytes of a text are those of its characters
pub same_bytes : (bytes text : List ℕ) → IsUtf8 bytes → bytes ≡ text → bytes ≡ encode_utf8_all (chars text)
same_bytes bytes text u e = sym (encodes-chars bytes u) ∙ ap (λ (l : List ℕ). encode_utf8_all (chars l)) e

-- what `push_str` leaves, of a text that is printed_atoms
pub pushed : {E : Type 0} (r : Result (Unit {0}) E) (after before bytes text : List ℕ) → IsUtf8 bytes → bytes ≡ text
    → after ≡ (if is_ok r then before ++ bytes else before) → OnOk r (after ≡ before ++ encode_utf8_all (chars text))
pushed (Ok x) after before bytes text u e h = h ∙ ap (λ l. before ++ l) (same_bytes bytes text u e)
pushed (Err x) after before bytes text u e h = tt

-- the characters that are printed_atoms of an atom
abbrev pub print : Atom → List ℕ
print a = chars (text_of a)

-- the next item of a list
next_item : {X : Type 0} (xs : List X) (i : ℕ) (a : X) → i < length xs → a ≡ get_or xs i a → drop i xs ≡ a ∷ drop (i + 1) xs
next_item xs i a low is = drop-cons xs i a low ∙ ap (λ x. x ∷ drop (suc i) xs) (sym is) ∙ ap (λ (k : ℕ). a ∷ drop k xs) (sym (add-one i))

-- what is still to be written of a text that is joined
pub join_step : (out separator : List ℕ) (atoms : List Atom) (i : ℕ) (a : Atom) → IsUtf8 separator → i < length atoms → a ≡ get_or atoms i a
    → ((out ++ separator) ++ encode_utf8_all (print a)) ++ encode_utf8_all (separated_behind (chars separator) (map print (drop (i + 1) atoms)))
    ≡ out ++ encode_utf8_all (separated_behind (chars separator) (map print (drop i atoms)))
join_step out separator atoms i a u low is =
    let rest = separated_behind (chars separator) (map print (drop (i + 1) atoms)) in
    let cut = next_item atoms i a low is in
    let inner : encode_utf8_all (chars separator ++ (print a ++ rest)) ≡ separator ++ (encode_utf8_all (print a) ++ encode_utf8_all rest) =
    encodes-append (chars separator) (print a ++ rest) ∙ ap (λ l. l ++ encode_utf8_all (print a ++ rest)) (encodes-chars separator u)
    ∙ ap (λ l. separator ++ l) (encodes-append (print a) rest) in
    append_assoc (out ++ separator) (encode_utf8_all (print a)) (encode_utf8_all rest) ∙ append_assoc out separator (encode_utf8_all (print a) ++ encode_utf8_all rest)
    ∙ sym (ap (λ l. out ++ l) inner) ∙ sym (ap (λ (l : List Atom). out ++ encode_utf8_all (separated_behind (chars separator) (map print l))) cut)

-- bytes before characters
abbrev pub bytes_onto : List ℕ → Result (List ℕ) Code → Result (List ℕ) Code
bytes_onto out r = do
  s ← r
  Ok (out ++ encode_utf8_all s)

pub nothing_before : (r : Result (List ℕ) Code) → bytes_onto [] r ≡ (r >>= (λ s. Ok (encode_utf8_all s)))
nothing_before (Ok s) = refl
nothing_before (Err e) = refl

-- one more argument
concat_step : (out : List ℕ) (bytes : List ℕ) (r : Result (List ℕ) Code) → bytes_onto (out ++ encode_utf8_all (chars bytes)) r ≡ bytes_onto out (r >>= (λ more. Ok (chars bytes ++ more)))
concat_step out bytes (Ok s) = ap Ok (append_assoc out (encode_utf8_all (chars bytes)) (encode_utf8_all s) ∙ ap (λ l. out ++ l) (sym (encodes-append (chars bytes) s)))
concat_step out bytes (Err e) = refl

pub concat_next : (out after : List ℕ) (args : List (List Atom)) (i : ℕ) (x : List Atom) → i < length args → x ≡ get_or args i x → IsPrinted x out after
    → bytes_onto after (concatenated (drop (i + 1) args)) ≡ bytes_onto out (concatenated (drop i args))
concat_next out after args i x low is p =
    let rest = concatenated (drop (i + 1) args) in
    let e : concatenated (drop i args) ≡ (rest >>= (λ more. Ok (chars p.0 ++ more))) =
    ap concatenated (next_item args i x low is) ∙ ap (λ (r : Result (List ℕ) Code). r >>= (λ bytes. rest >>= (λ more. Ok (chars bytes ++ more)))) p.1 in
    ap (λ l. bytes_onto l rest) p.2 ∙ concat_step out p.0 rest ∙ sym (ap (bytes_onto out) e)

pub printed_nothing : (atoms : List Atom) → length atoms < 1 → printed_atoms atoms ≡ Ok []
printed_nothing [] h = refl
printed_nothing (a ∷ atoms) h = absurd (omega arith)

-- what `push` leaves separated_behind characters, and separated_behind a space too
pub one_more : {E : Type 0} (r : Result (Unit {0}) E) (after before : List ℕ) (c : ℕ) → after ≡ (if is_ok r then before ++ encode_utf8 c else before)
    → OnOk r ((cs : List ℕ) → before ≡ encode_utf8_all cs → after ≡ encode_utf8_all (cs ++ c ∷ []))
one_more (Ok x) after before c h = λ cs e.
    let tail : encode_utf8_all (c ∷ []) ≡ encode_utf8 c = append-nil (encode_utf8 c) in
    h ∙ ap (λ l. l ++ encode_utf8 c) e ∙ sym (encodes-append cs (c ∷ []) ∙ ap (λ l. encode_utf8_all cs ++ l) tail)
one_more (Err x) after before c h = tt

pub space_and_one : {E : Type 0} (r : Result (Unit {0}) E) (after middle before : List ℕ) (c : ℕ) → middle ≡ before ++ encode_utf8 32
    → after ≡ (if is_ok r then middle ++ encode_utf8 c else middle) → OnOk r ((cs : List ℕ) → before ≡ encode_utf8_all cs → after ≡ encode_utf8_all (cs ++ 32 ∷ c ∷ []))
space_and_one (Ok x) after middle before c g h = λ cs e.
    let tail : encode_utf8_all (32 ∷ c ∷ []) ≡ encode_utf8 32 ++ encode_utf8 c = ap (λ l. encode_utf8 32 ++ l) (append-nil (encode_utf8 c)) in
    h ∙ ap (λ l. l ++ encode_utf8 c) (g ∙ ap (λ l. l ++ encode_utf8 32) e) ∙ append_assoc (encode_utf8_all cs) (encode_utf8 32) (encode_utf8 c)
    ∙ sym (encodes-append cs (32 ∷ c ∷ []) ∙ ap (λ l. encode_utf8_all cs ++ l) tail)
space_and_one (Err x) after middle before c g h = tt

nat_differs : (n : ℕ) → 0 < n → (n == 0) ≡ false
nat_differs n h = grind (arith, nat_tests)

-- whether characters have begun
pub begun : (bytes cs : List ℕ) (len : ℕ) (empty : Bool) → bytes ≡ encode_utf8_all cs → length bytes ≡ len → empty ≡ (len == 0) → not empty ≡ is_begun cs
begun bytes [] len empty e k h =
    let n : len ≡ 0 = omega (arith, ap length e) in
    ap not (h ∙ ap (λ m. m == 0) n)
begun bytes (c ∷ cs) len empty e k h =
    let m : 0 < len = omega (arith, simp length-append at (ap length e), length-encode c, len_utf8_bounds c) in
    ap not (h ∙ nat_differs len m)
