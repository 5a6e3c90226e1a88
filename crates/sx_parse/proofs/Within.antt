-- A fault of a text stands within it.
use Rattle.std.proofs.Common.{ℕ, zero, suc, ◌≤◌, inl, inr, Bool, List, [], ◌∷◌, length, take, Option, Some, None, ap, arith}
use Rattle.std.specs.Str.{IsUtf8}
use Rattle.sx_atoms.specs.declared.error_codes.Code.{Code}
use Rattle.sx_lex.proofs.Breaks.{front_cut}
use Rattle.sx_lex.specs.declared.kinds.Token.{Token}
use Rattle.sx_names.specs.Scope.{ScopeBindings}
use Rattle.sx_parse.specs.declared.faults.SyntaxFault.{SyntaxFault}
use Rattle.sx_parse.specs.declared.roles.Role.{Role}
use Rattle.sx_parse.specs.Answers.{IsRefused, breaks, end_offset, fault_in, fault_before, offset_in}
use Rattle.sx_parse.specs.Checks.{first_fault, fault_at, role_fault}
use Rattle.sx_parse.specs.Lexemes.{lexemes_of}
use Rattle.sx_parse.specs.Lexing.{AreParts, AreRead}
use Rattle.sx_parse.specs.Roles.{roles}
use Rattle.sx_parse.proofs.Parts.{parts_of_read}

-- these tokens start at no greater offset
abbrev StartWithin : ℕ → List Token → Type 0
StartWithin most [] = Unit {0}
StartWithin most (t ∷ ts) = (t.start ≤ most) × StartWithin most ts

-- the offset of a fault, and 0 where there is none
abbrev offset_or : Option SyntaxFault → ℕ
offset_or None = 0
offset_or (Some fault) = fault.offset

parts_within : (text : List ℕ) (ts : List Token) → AreParts text ts → StartWithin (length text) ts
parts_within text [] all = tt
parts_within text (t ∷ ts) all = (all.0.begins.0, parts_within text ts all.1)

read_within : (text : List ℕ) (ts : List Token) (stop : Option ℕ) → IsUtf8 text → AreRead text ts stop → StartWithin (length text) ts
read_within text ts stop utf8 read = parts_within text ts (parts_of_read text ts stop utf8 read)

ends_within : (text : List ℕ) (ts : List Token) (stop : Option ℕ) → IsUtf8 text → AreRead text ts stop → end_offset text stop ≤ length text
ends_within text ts None utf8 read = omega arith
ends_within text ts (Some offset) utf8 read = (front_cut text offset utf8 (ts, read)).0

at_within : (most start : ℕ) (o : Option Code) (others : Option SyntaxFault) → start ≤ most → offset_or others ≤ most → offset_or (fault_at start o others) ≤ most
at_within most start None others s w = w
at_within most start (Some c) others s w = s

first_within : (most : ℕ) (p : Bool) (scope : ScopeBindings) (text : List ℕ) (all : List Token) (rs : List Role) (ts : List Token) → StartWithin most ts →
    offset_or (first_fault p scope text all rs ts) ≤ most
first_within most p scope text all [] ts w = omega arith
first_within most p scope text all (r ∷ rs) [] w = omega arith
first_within most p scope text all (r ∷ rs) (t ∷ ts) w =
    at_within most t.start (role_fault p scope text all r t) (first_fault p scope text all rs ts) w.0 (first_within most p scope text all rs ts w.1)

or_within : (most : ℕ) (o : Option SyntaxFault) (other : SyntaxFault) → offset_or o ≤ most → other.offset ≤ most → (fault_before o other).offset ≤ most
or_within most None other w v = v
or_within most (Some fault) other w v = w

in_within : (most : ℕ) (ts : List Token) (end k : ℕ) → StartWithin most ts → end ≤ most → offset_in ts end k ≤ most
in_within most [] end k w v = v
in_within most (t ∷ ts) end zero w v = w.0
in_within most (t ∷ ts) end (suc k) w v = in_within most ts end k w.1 v

pub refused_within : (p : Bool) (scope : ScopeBindings) (text : List ℕ) (fault : SyntaxFault) → IsUtf8 text → IsRefused p scope text fault → fault.offset ≤ length text
refused_within p scope text fault utf8 (inl h) =
    let starts = read_within text h.tokens None utf8 h.lexes in
    let w = first_within (length text) p scope text h.tokens (roles 0 h.tree) h.tokens starts in
    omega (arith, w, ap offset_or h.first)
refused_within p scope text fault utf8 (inr h) =
    let starts = read_within text h.tokens h.stop utf8 h.lexes in
    let rs = take h.count (roles 0 h.tree) in
    let other = fault_in p h.tokens (lexemes_of text h.tokens) (breaks h.stop) (end_offset text h.stop) h.count in
    let w = or_within (length text) (first_fault p scope text h.tokens rs h.tokens) other
    (first_within (length text) p scope text h.tokens rs h.tokens starts)
    (in_within (length text) h.tokens (end_offset text h.stop) h.count starts (ends_within text h.tokens h.stop utf8 h.lexes)) in
    omega (arith, w, ap (λ (f : SyntaxFault). f.offset) h.first)
