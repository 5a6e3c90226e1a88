-- What the events of a stylesheet say, as far as thin stylesheets go.
use Rattle.std.specs.Prelude.{ℕ, Bool, true, false, not, ◌&&◌, ◌||◌, ◌==◌, nat_le, bytes_eq, codes, List, [], ◌∷◌, length, Option, Some, None, if◌then◌else◌}
use Rattle.std.specs.List.{list_all}
use Rattle.sx_chars.specs.Names.{is_white_space}
use Rattle.sx_kinds.specs.declared.sheets.OnNoMatch.{OnNoMatch}
use Rattle.sx_kinds.specs.declared.sheets.OnNoMatch.TheVariants.{TextOnlyCopy, ShallowCopy}
use Rattle.sx_tree.specs.Tree as tree
use Rattle.sx_tree.specs.Tree.{TreeEvent}
use Rattle.sx_named.specs.Named.{Name, Attribute, ElementStart, named, IsKnown}
use Rattle.sx_sheet.specs.declared.reading.LinedEvent.{LinedEvent}
use Rattle.sx_names.specs.Numbering.{NameTable}

-- What an event says: the start of a stylesheet, of its mode and what that does with nodes that no template matches, of a
-- template and the name that it matches, of a literal result element, of `xsl:text`, or of `xsl:apply-templates`; the end of the
-- innermost open element; a text; the end of the input; or what no thin stylesheet says.
pub data Token : Type 0 where
  starts_sheet : Token
  starts_mode : OnNoMatch → Token
  starts_template : List ℕ → Token
  starts_literal : Name → Token
  starts_text : Token
  starts_apply : Token
  ends : Token
  says : List ℕ → Token
  closes : Token
  strange : Token

abbrev pub xslt_namespace : List ℕ
xslt_namespace = codes "http://www.w3.org/1999/XSL/Transform"

-- a letter of ASCII
abbrev pub is_letter : ℕ → Bool
is_letter c = (nat_le 65 c && nat_le c 90) || (nat_le 97 c && nat_le c 122)

abbrev pub is_empty : {X : Type 0} → List X → Bool
is_empty [] = true
is_empty (x ∷ xs) = false

-- one or more letters of ASCII
abbrev pub is_plain_name : List ℕ → Bool
is_plain_name s = not (is_empty s) && list_all is_letter s

-- the value of the attribute of this local name in no namespace, if there is one
abbrev pub value_named : List Attribute → List ℕ → Option (List ℕ)
value_named [] local = None
value_named (a ∷ rest) local = if is_empty a.name.uri && bytes_eq a.name.local local then Some a.value else value_named rest local

-- there is a value, and it is this one
abbrev pub is_value : List ℕ → Option (List ℕ) → Bool
is_value v None = false
is_value v (Some w) = bytes_eq w v

-- the start of a stylesheet has the one attribute `version`, which is 3.0
abbrev pub sheet_token : List Attribute → Token
sheet_token attributes = if length attributes == 1 && is_value (codes "3.0") (value_named attributes (codes "version")) then starts_sheet else strange

-- a value of `on-no-match`
abbrev pub mode_token_for : Option (List ℕ) → Token
mode_token_for v =
    if is_value (codes "text-only-copy") v then starts_mode TextOnlyCopy
    else if is_value (codes "shallow-copy") v then starts_mode ShallowCopy
    else strange

-- the start of a mode has two attributes: `streamable`, which is yes, and `on-no-match`
abbrev pub mode_token : List Attribute → Token
mode_token attributes =
    if length attributes == 2 && is_value (codes "yes") (value_named attributes (codes "streamable")) then mode_token_for (value_named attributes (codes "on-no-match"))
    else strange

-- a value of `match`: a name of letters
abbrev pub template_token_for : Option (List ℕ) → Token
template_token_for None = strange
template_token_for (Some v) = if is_plain_name v then starts_template v else strange

-- the start of a template has the one attribute `match`
abbrev pub template_token : List Attribute → Token
template_token attributes = if length attributes == 1 then template_token_for (value_named attributes (codes "match")) else strange

-- a start without attributes
abbrev pub if_bare : List Attribute → Token → Token
if_bare attributes t = if is_empty attributes then t else strange

-- the start of an element of the XSLT namespace with this local name
abbrev pub xslt_token : List ℕ → List Attribute → Token
xslt_token local attributes =
    if bytes_eq local (codes "stylesheet") then sheet_token attributes
    else if bytes_eq local (codes "mode") then mode_token attributes
    else if bytes_eq local (codes "template") then template_token attributes
    else if bytes_eq local (codes "text") then if_bare attributes starts_text
    else if bytes_eq local (codes "apply-templates") then if_bare attributes starts_apply
    else strange

-- the start of another element: its name is of letters and has no prefix
abbrev pub literal_token : Name → List Attribute → Token
literal_token name attributes = if is_empty name.prefix && is_plain_name name.local then if_bare attributes (starts_literal name) else strange

abbrev pub start_token : ElementStart → Token
start_token b = if bytes_eq b.name.uri xslt_namespace then xslt_token b.name.local b.attributes else literal_token b.name b.attributes

-- what an event says; a processing instruction says nothing
abbrev pub token_of : TreeEvent ElementStart → Option Token
token_of (tree.starts b) = Some (start_token b)
token_of tree.ends = Some ends
token_of (tree.says s) = Some (says s)
token_of (tree.instructs target content) = None
token_of tree.closes = Some closes

-- a text of white space alone, which counts in `xsl:text` only
abbrev pub is_blank_token : Token → Bool
is_blank_token starts_sheet = false
is_blank_token (starts_mode m) = false
is_blank_token (starts_template n) = false
is_blank_token (starts_literal n) = false
is_blank_token starts_text = false
is_blank_token starts_apply = false
is_blank_token ends = false
is_blank_token (says s) = list_all is_white_space s
is_blank_token closes = false
is_blank_token strange = false

-- whether the content of an `xsl:text` may stand behind this, where it did or did not before
abbrev pub is_in_text : Bool → Token → Bool
is_in_text inside starts_sheet = false
is_in_text inside (starts_mode m) = false
is_in_text inside (starts_template n) = false
is_in_text inside (starts_literal n) = false
is_in_text inside starts_text = true
is_in_text inside starts_apply = false
is_in_text inside ends = false
is_in_text inside (says s) = inside
is_in_text inside closes = false
is_in_text inside strange = false

-- a token and the line of its event
pub record LinedToken : Type 0 where
  pub token : Token
  pub line : ℕ

-- a token that counts, in front of others
abbrev pub put_token : Bool → Token → ℕ → List LinedToken → List LinedToken
put_token inside t line rest = if is_blank_token t && not inside then rest else record { token = t; line = line } ∷ rest

-- what comes with an event that says this, if it says anything, where these come behind it in either case
abbrev pub put_said : Bool → Option Token → ℕ → (Bool → List LinedToken) → List LinedToken
put_said inside None line rest = rest inside
put_said inside (Some t) line rest = put_token inside t line (rest (is_in_text inside t))

-- What events say in turn, by a table of names, without processing instructions, and without texts of white space outside
-- `xsl:text` (XSLT 3.0, 4.3), where the content of an `xsl:text` may or may not stand at the front.
abbrev pub tokens_from : NameTable → List LinedEvent → Bool → List LinedToken
tokens_from names [] inside = []
tokens_from names (e ∷ es) inside = put_said inside (token_of (named names e.event)) e.line (tokens_from names es)

-- what the events of a stylesheet say
abbrev pub tokens_of : NameTable → List LinedEvent → List LinedToken
tokens_of names events = tokens_from names events false

-- the table has the names in all events
abbrev pub AreKnownEvents : NameTable → List LinedEvent → Type 0
AreKnownEvents names [] = Unit {0}
AreKnownEvents names (e ∷ es) = IsKnown names e.event × AreKnownEvents names es
