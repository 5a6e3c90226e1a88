-- A stylesheet that was read is ready for a session, where it can be streamed.
use Rattle.std.proofs.Common.{◌≡◌, ◌⊎◌, inl, inr, ℕ, Bool, true, false, not, ◌&&◌, cond, List, [], ◌∷◌, length, Option, Some, None, IfSome, refl, ap, sym, ◌∙◌, subst}
use Rattle.sx_kinds.specs.declared.constructs.Construct.{Construct}
use Rattle.sx_kinds.specs.declared.constructs.Instr.{Instr}
use Rattle.sx_kinds.specs.declared.constructs.Instr.TheFolds.{fold-roll-Instr}
use Rattle.sx_kinds.specs.declared.constructs.InstrForm.TheVariants as form
use Rattle.sx_kinds.specs.declared.sheets.OnNoMatch.{OnNoMatch}
use Rattle.sx_kinds.specs.declared.sheets.OnNoMatch.TheVariants as unmatched
use Rattle.sx_kinds.specs.declared.sheets.Sheet.{Sheet}
use Rattle.sx_tree.specs.declared.events.Label.{Label}
use Rattle.sx_named.specs.Named.{named}
use Rattle.sx_events.specs.Course.{Lined, events_of}
use Rattle.sx_sheet.specs.declared.reading.LinedEvent.{LinedEvent}
use Rattle.sx_sheet.specs.Numbers.{IsSheetOf, literal_with, text_with, apply_with, label_of}
use Rattle.sx_sheet.specs.Syntax.{tokens_in}
use Rattle.sx_sheet.specs.Tokens.{Token, LinedToken, token_of, is_blank_token, is_in_text, put_said, put_token, tokens_from, tokens_of}
use Rattle.sx_sheet.proofs.Known.{AreBuilt, names_known}
use Rattle.sx_sheet.proofs.Told.{IsTold, token_told}
use Rattle.sx_machine.specs.Body.{Body, literal, words, apply, body_of, instr_in_front, layer, IsKnownBody, AreKnown}
use Rattle.sx_machine.specs.Meaning.{IsReady, thin_mode}
use Rattle.sx_machine.proofs.Rules.{joined_is}
use Rattle.sx_top.specs.Loading.{said_by, said_in, IsAccepted}
use Rattle.sx_top.specs.Stylesheet.{sheet_limits, lined_at, AreEvents}
use Rattle.sx_names.specs.Numbering.{NameTable}

-- ---- what events say, by a table of names and written out

put_same : (inside : Bool) (o : Option Token) (line : ℕ) (f g : Bool → List LinedToken) → ((b : Bool) → f b ≡ g b) → put_said inside o line f ≡ put_said inside o line g
put_same inside None line f g same = same inside
put_same inside (Some t) line f g same = ap (put_token inside t line) (same (is_in_text inside t))

said_same : (names : NameTable) (es : List LinedEvent) (inside : Bool) → tokens_from names es inside ≡ said_by (lined_at names es) inside
said_same names [] inside = refl
said_same names (e ∷ es) inside = put_same inside (token_of (named names e.event)) e.line (tokens_from names es) (said_by (lined_at names es)) (said_same names es)

-- what the events of bytes say
pub said_of : (names : NameTable) (es : List LinedEvent) (bytes : List ℕ) → AreEvents names es bytes → tokens_of names es ≡ said_in bytes
said_of names es bytes are = said_same names es false ∙ ap (λ (ls : List Lined). said_by ls false) are.are

-- ---- its mode

abbrev AllTold : List Token → Type 0
AllTold [] = Unit {0}
AllTold (t ∷ ts) = IsTold t × AllTold ts

put_told : (skips : Bool) (t : Token) (line : ℕ) (rest : List LinedToken) → IsTold t → AllTold (tokens_in rest) → AllTold (tokens_in (cond skips rest (record { token = t; line = line } ∷ rest)))
put_told true t line rest h k = k
put_told false t line rest h k = (h, k)

said_told : (b : Bool) (o : Option Token) (line : ℕ) (rest : Bool → List LinedToken) → IfSome o IsTold → ((c : Bool) → AllTold (tokens_in (rest c))) → AllTold (tokens_in (put_said b o line rest))
said_told b None line rest h k = k b
said_told b (Some t) line rest h k = put_told (is_blank_token t && not b) t line (rest (is_in_text b t)) h (k (is_in_text b t))

all_told : (ls : List Lined) (b : Bool) → AllTold (tokens_in (said_by ls b))
all_told [] b = tt
all_told (l ∷ ls) b = said_told b (token_of l.what) l.line (said_by ls) (token_told l.what) (all_told ls)

two_modes : (m : OnNoMatch) (modes : OnNoMatch → Type 0) → (m ≡ unmatched.TextOnlyCopy) ⊎ (m ≡ unmatched.ShallowCopy) → modes m → modes unmatched.TextOnlyCopy ⊎ modes unmatched.ShallowCopy
two_modes m modes (inl e) k = inl (subst modes e k)
two_modes m modes (inr e) k = inr (subst modes e k)

mode_of : (bytes : List ℕ) (names : NameTable) (sheet : Sheet) → IsSheetOf (said_in bytes) names sheet →
    (sheet.modes ≡ thin_mode unmatched.TextOnlyCopy ∷ []) ⊎ (sheet.modes ≡ thin_mode unmatched.ShallowCopy ∷ [])
mode_of bytes names sheet r =
    let told = rw (sym r.written) at (all_told (events_of sheet_limits bytes true) false) in
    two_modes r.syntax.no_match (λ m. sheet.modes ≡ thin_mode m ∷ []) told.1.0 (ap (λ (s : Sheet). s.modes) r.says)

-- ---- its names

-- what instructions are in front of others
literal_front : (c : Construct) (n : ℕ) (b : List Instr) (rest : Body Label) → instr_in_front (literal_with c n b) rest ≡ literal c.line (label_of n) (body_of b) rest
literal_front c n b rest =
    ap (λ (f : Body Label → Body Label). f rest) (fold-roll-Instr (Body Label → Body Label) layer (record { construct = c; form = form.Literal (label_of n); body = b }))
    ∙ ap (λ (content : Body Label). literal c.line (label_of n) content rest) (joined_is b)

text_front : (c : Construct) (s : List ℕ) (rest : Body Label) → instr_in_front (text_with c s) rest ≡ words s rest
text_front c s rest = ap (λ (f : Body Label → Body Label). f rest) (fold-roll-Instr (Body Label → Body Label) layer (record { construct = c; form = form.Text s; body = [] }))

apply_front : (c : Construct) (rest : Body Label) → instr_in_front (apply_with c) rest ≡ apply rest
apply_front c rest = ap (λ (f : Body Label → Body Label). f rest) (fold-roll-Instr (Body Label → Body Label) layer (record { construct = c; form = form.ApplyTemplates; body = [] }))

are_built : (count : ℕ) → AreBuilt count (λ b. IsKnownBody count (body_of b)) (AreKnown count)
are_built count = record {
  empty = tt;
  literals = λ c n b rest lt inner after. rw (literal_front c n b (body_of rest)) (lt, inner, after);
  texts = λ c s rest after. rw (text_front c s (body_of rest)) after;
  applies = λ c rest after. rw (apply_front c (body_of rest)) after;
  none = tt;
  templates = λ c p b rest lt inner after. (lt, inner, after);
}

-- what is accepted is ready
pub accepted_ready : (bytes : List ℕ) (names : NameTable) (sheet : Sheet) → IsAccepted bytes names sheet → IsReady sheet names
accepted_ready bytes names sheet a = record {
  mode = mode_of bytes names sheet a.reads;
  streamable = a.streamable;
  known = names_known (said_in bytes) names sheet (λ b. IsKnownBody (length names) (body_of b)) (AreKnown (length names)) a.reads (are_built (length names));
}
