-- What can be wrong with a token in an expression that has a derivation.
use Rattle.std.specs.Prelude.{ℕ, Bool, true, false, not, ◌&&◌, ◌==◌, nat_lt, List, [], ◌∷◌, slice_get, bytes_eq, codes, Option, Some, None, Result, Ok, Err, if◌then◌else◌}
use Rattle.std.specs.Option.{option_map_or}
use Rattle.sx_atoms.specs.Signature.{allows}
use Rattle.sx_atoms.specs.declared.atoms.Atom.{Atom}
use Rattle.sx_atoms.specs.declared.atoms.Atom.TheVariants as atom
use Rattle.sx_atoms.specs.declared.atoms.AtomType.{AtomType}
use Rattle.sx_atoms.specs.declared.atoms.AtomType.TheVariants as atom_type
use Rattle.sx_atoms.specs.declared.error_codes.Code.{Code}
use Rattle.sx_atoms.specs.declared.error_codes.Code.TheVariants as code
use Rattle.sx_atoms.specs.declared.functions.TextFn.TheVariants as text_fn
use Rattle.sx_atoms.specs.declared.functions.SeqFn.TheVariants as seq_fn
use Rattle.sx_atoms.specs.Casting.{cast_of}
use Rattle.sx_chars.specs.Names.{prefix_of, local_of}
use Rattle.sx_fn_seq.specs.Signatures.{seq_signature as signature_seq}
use Rattle.sx_fn_text.specs.Signatures.{text_signature as signature_text}
use Rattle.sx_kinds.specs.declared.expressions.Function.{Function}
use Rattle.sx_kinds.specs.declared.expressions.Function.TheVariants as function
use Rattle.sx_lex.specs.declared.kinds.Token.{Token}
use Rattle.sx_lex.specs.declared.kinds.TokenKind.{TokenKind}
use Rattle.sx_lex.specs.declared.kinds.TokenKind.TheVariants as token_kind
use Rattle.sx_names.specs.Scope.{ScopeBindings, bound}
use Rattle.sx_parse.specs.declared.faults.SyntaxFault.{SyntaxFault}
use Rattle.sx_parse.specs.declared.roles.Role.{Role}
use Rattle.sx_parse.specs.declared.roles.Role.TheVariants as role
use Rattle.sx_parse.specs.Lexemes.{found, text_of_token}

-- the namespace of the functions, and that of the types
abbrev pub fn_uri : List ℕ
fn_uri = codes "http://www.w3.org/2005/xpath-functions"

abbrev pub xs_uri : List ℕ
xs_uri = codes "http://www.w3.org/2001/XMLSchema"

-- the namespace of a name: that of its prefix, if that is bound, or else, where it has none, this
abbrev pub uri_with : List ℕ → ScopeBindings → List ℕ → Option (List ℕ)
uri_with default scope [] = Some default
uri_with default scope (b ∷ bs) = bound scope (b ∷ bs)

-- the namespace of the name of an element, an attribute, a variable or a type: without prefix, none
abbrev pub name_uri : ScopeBindings → List ℕ → Option (List ℕ)
name_uri scope text = uri_with [] scope (prefix_of text)

-- a namespace, and the empty text where there is none
abbrev pub or_none : Option (List ℕ) → List ℕ
or_none None = []
or_none (Some uri) = uri

-- the namespace of the name of a function
abbrev pub function_uri : ScopeBindings → List ℕ → Option (List ℕ)
function_uri scope text = uri_with fn_uri scope (prefix_of text)

-- the functions by their local names (XPath functions and operators 3.1; XSLT 3.0, 14, 18 and 20)
abbrev pub functions : List (List ℕ × Option Function)
functions =
    (codes "string", Some (function.Text text_fn.String))
    ∷ (codes "string-length", Some (function.Text text_fn.StringLength))
    ∷ (codes "normalize-space", Some (function.Text text_fn.NormalizeSpace))
    ∷ (codes "concat", Some (function.Text text_fn.Concat))
    ∷ (codes "string-join", Some (function.Text text_fn.StringJoin))
    ∷ (codes "contains", Some (function.Text text_fn.Contains))
    ∷ (codes "starts-with", Some (function.Text text_fn.StartsWith))
    ∷ (codes "ends-with", Some (function.Text text_fn.EndsWith))
    ∷ (codes "substring-before", Some (function.Text text_fn.SubstringBefore))
    ∷ (codes "substring-after", Some (function.Text text_fn.SubstringAfter))
    ∷ (codes "substring", Some (function.Text text_fn.Substring))
    ∷ (codes "translate", Some (function.Text text_fn.Translate))
    ∷ (codes "name", Some (function.Seq seq_fn.Name))
    ∷ (codes "local-name", Some (function.Seq seq_fn.LocalName))
    ∷ (codes "namespace-uri", Some (function.Seq seq_fn.NamespaceUri))
    ∷ (codes "count", Some (function.Seq seq_fn.Count))
    ∷ (codes "empty", Some (function.Seq seq_fn.Empty))
    ∷ (codes "exists", Some (function.Seq seq_fn.Exists))
    ∷ (codes "boolean", Some (function.Seq seq_fn.Boolean))
    ∷ (codes "not", Some (function.Seq seq_fn.Not))
    ∷ (codes "sum", Some (function.Seq seq_fn.Sum))
    ∷ (codes "avg", Some (function.Seq seq_fn.Avg))
    ∷ (codes "min", Some (function.Seq seq_fn.Min))
    ∷ (codes "max", Some (function.Seq seq_fn.Max))
    ∷ (codes "data", Some (function.Seq seq_fn.Data))
    ∷ (codes "distinct-values", Some (function.Seq seq_fn.DistinctValues))
    ∷ (codes "abs", Some (function.Seq seq_fn.Abs))
    ∷ (codes "floor", Some (function.Seq seq_fn.Floor))
    ∷ (codes "ceiling", Some (function.Seq seq_fn.Ceiling))
    ∷ (codes "round", Some (function.Seq seq_fn.Round))
    ∷ (codes "true", Some (function.Seq seq_fn.True))
    ∷ (codes "false", Some (function.Seq seq_fn.False))
    ∷ (codes "position", Some (function.Seq seq_fn.Position))
    ∷ (codes "last", Some (function.Seq seq_fn.Last))
    ∷ (codes "head", Some (function.Seq seq_fn.Head))
    ∷ (codes "tail", Some (function.Seq seq_fn.Tail))
    ∷ (codes "reverse", Some (function.Seq seq_fn.Reverse))
    ∷ (codes "subsequence", Some (function.Seq seq_fn.Subsequence))
    ∷ (codes "zero-or-one", Some (function.Seq seq_fn.ZeroOrOne))
    ∷ (codes "one-or-more", Some (function.Seq seq_fn.OneOrMore))
    ∷ (codes "exactly-one", Some (function.Seq seq_fn.ExactlyOne))
    ∷ (codes "copy-of", Some (function.Seq seq_fn.CopyOf))
    ∷ (codes "snapshot", Some (function.Seq seq_fn.Snapshot))
    ∷ (codes "current", Some (function.Seq seq_fn.Current))
    ∷ (codes "current-group", Some (function.Seq seq_fn.CurrentGroup))
    ∷ (codes "current-grouping-key", Some (function.Seq seq_fn.CurrentGroupingKey))
    ∷ (codes "accumulator-before", Some (function.Seq seq_fn.AccumulatorBefore))
    ∷ (codes "accumulator-after", Some (function.Seq seq_fn.AccumulatorAfter))
    ∷ []

-- the constructor functions by their local names (XPath functions and operators 3.1, 18.1)
abbrev pub constructors : List (List ℕ × Option Function)
constructors =
    (codes "integer", Some (function.Seq seq_fn.ToInteger))
    ∷ (codes "decimal", Some (function.Seq seq_fn.ToDecimal))
    ∷ (codes "string", Some (function.Seq seq_fn.ToStr))
    ∷ (codes "boolean", Some (function.Seq seq_fn.ToBoolean))
    ∷ []

-- the atomic types by their local names
abbrev pub types : List (List ℕ × Option AtomType)
types =
    (codes "integer", Some atom_type.Integer)
    ∷ (codes "decimal", Some atom_type.Decimal)
    ∷ (codes "string", Some atom_type.Str)
    ∷ (codes "boolean", Some atom_type.Boolean)
    ∷ (codes "untypedAtomic", Some atom_type.Untyped)
    ∷ []

-- the function of a name, by its namespace and its local name
abbrev pub function_named : List ℕ → List ℕ → Option Function
function_named uri local =
    if bytes_eq uri fn_uri then found functions local None
    else if bytes_eq uri xs_uri then found constructors local None
    else None

-- the type of a name
abbrev pub type_named : List ℕ → List ℕ → Option AtomType
type_named uri local = if bytes_eq uri xs_uri then found types local None else None

abbrev pub function_with : List ℕ → Option (List ℕ) → Option Function
function_with text None = None
function_with text (Some uri) = function_named uri (local_of text)

-- the function of a name as it is written
abbrev pub function_of : ScopeBindings → List ℕ → Option Function
function_of scope text = function_with text (function_uri scope text)

-- whether a function accepts_count this many arguments
abbrev pub accepts_count : Option Function → ℕ → Bool
accepts_count None count = false
accepts_count (Some (function.Text f)) count = allows (signature_text f) count
accepts_count (Some (function.Seq f)) count = allows (signature_seq f) count

-- whether a call of a function may have this many arguments
abbrev pub takes_arguments : Function → ℕ → Bool
takes_arguments f count = accepts_count (Some f) count

-- what stands in quotes, from behind the first one on: a doubled quote is one, and the last one ends it
abbrev pub unquoted : ℕ → List ℕ → List ℕ
unquoted quote [] = []
unquoted quote (c ∷ []) = []
unquoted quote (c ∷ d ∷ rest) = if c == quote then c ∷ unquoted quote rest else c ∷ unquoted quote (d ∷ rest)

abbrev pub literal_content : List ℕ → List ℕ
literal_content [] = []
literal_content (quote ∷ rest) = unquoted quote rest

-- the value of a literal: a number as its text is cast, or the text in quotes
abbrev pub literal_of : TokenKind → List ℕ → Result Atom Code
literal_of token_kind.Integer text = cast_of (atom.Untyped text) atom_type.Integer
literal_of token_kind.Decimal text = cast_of (atom.Untyped text) atom_type.Decimal
literal_of kind text = Ok (atom.Str (literal_content text))

-- the most bytes of an expression, a pattern or a value template, and the most things that are open at once
abbrev pub most_bytes : ℕ
most_bytes = 4096

abbrev pub most_nested : ℕ
most_nested = 64

abbrev pub fails : Code → Bool → Option Code
fails c true = Some c
fails c false = None

abbrev pub name_fault : Option (List ℕ) → Option Code
name_fault None = Some code.Xpst0081
name_fault (Some uri) = None

-- a wildcard of one part has a prefix in front of its colon, or `*`
abbrev pub wild_fault : ScopeBindings → List ℕ → Option Code
wild_fault scope text = if bytes_eq (prefix_of text) (codes "*") then None else name_fault (name_uri scope text)

abbrev pub is_current : Option Function → Bool
is_current (Some (function.Seq seq_fn.Current)) = true
is_current f = false

abbrev pub is_known : Option Function → Bool
is_known None = false
is_known (Some f) = true

-- the name of a function: no such name may be `current` in a pattern
abbrev pub function_fault : Bool → Option (List ℕ) → Option Function → Option Code
function_fault pattern None f = Some code.Xpst0081
function_fault pattern (Some uri) f = if pattern && is_current f then Some code.Xtse0340 else fails code.Xpst0017 (not (is_known f))

abbrev pub unknown_type : Option AtomType → Option Code
unknown_type None = Some code.Xpst0003
unknown_type (Some t) = None

-- the name of a type
abbrev pub type_fault : Option (List ℕ) → List ℕ → Option Code
type_fault None text = Some code.Xpst0081
type_fault (Some uri) text = unknown_type (type_named uri (local_of text))

abbrev pub literal_fault : Result Atom Code → Option Code
literal_fault (Ok a) = None
literal_fault (Err c) = Some code.Xpst0003

-- the bytes of the token at a place, and none past the last
abbrev pub token_text : List ℕ → List Token → ℕ → List ℕ
token_text text ts place = option_map_or (text_of_token text) (slice_get ts place) []

-- what is wrong with a token of this role, if anything is: in a pattern, where the flag is set
abbrev pub role_fault : Bool → ScopeBindings → List ℕ → List Token → Role → Token → Option Code
role_fault pattern scope text ts role.Plain token = None
role_fault pattern scope text ts role.Name token = name_fault (name_uri scope (text_of_token text token))
role_fault pattern scope text ts role.Wild token = wild_fault scope (text_of_token text token)
role_fault pattern scope text ts role.Function token = function_fault pattern (function_uri scope (text_of_token text token)) (function_of scope (text_of_token text token))
role_fault pattern scope text ts role.Type token = type_fault (name_uri scope (text_of_token text token)) (text_of_token text token)
role_fault pattern scope text ts role.Literal token = literal_fault (literal_of token.kind (text_of_token text token))
role_fault pattern scope text ts (role.Opens count) token = fails code.Sxst0002 (nat_lt most_nested count)
role_fault pattern scope text ts (role.Closes place count) token = fails code.Xpst0017 (not (accepts_count (function_of scope (token_text text ts place)) count))

abbrev pub fault_at : ℕ → Option Code → Option SyntaxFault → Option SyntaxFault
fault_at offset (Some c) others = Some (record { code = c; offset = offset })
fault_at offset None others = others

-- the first fault of tokens with these roles, among all the tokens of a text
abbrev pub first_fault : Bool → ScopeBindings → List ℕ → List Token → List Role → List Token → Option SyntaxFault
first_fault pattern scope text ts [] tokens = None
first_fault pattern scope text ts (r ∷ rs) [] = None
first_fault pattern scope text ts (r ∷ rs) (token ∷ tokens) =
    fault_at token.start (role_fault pattern scope text ts r token) (first_fault pattern scope text ts rs tokens)
