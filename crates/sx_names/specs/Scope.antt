-- The namespace bindings in force (Namespaces in XML 1.0, 6). A declaration is a prefix and the URI that it is bound to.
use Rattle.std.specs.Prelude.{ℕ, List, [], ◌∷◌, Option, Some, None, bytes_eq, codes, if◌then◌else◌}
use Rattle.std.specs.Option.{option_or}

-- declarations: the bytes of a prefix, and those of the URI that it is bound to
abbrev pub Declarations : Type 0
Declarations = List (List ℕ × List ℕ)

-- the declarations of each open element, the innermost element and the last declaration first
abbrev pub ScopeBindings : Type 0
ScopeBindings = List Declarations

-- the URI of the first declaration of a prefix, if there is one
abbrev pub bound_in : Declarations → List ℕ → Option (List ℕ)
bound_in [] prefix = None
bound_in (declared ∷ rest) prefix = if bytes_eq declared.0 prefix then Some declared.1 else bound_in rest prefix

-- what is bound where nothing is declared: `xml` to its namespace, and the empty prefix to no namespace, the empty text
abbrev pub bound_at_first : List ℕ → Option (List ℕ)
bound_at_first prefix =
    if bytes_eq prefix (codes "xml") then Some (codes "http://www.w3.org/XML/1998/namespace")
    else if bytes_eq prefix [] then Some []
    else None

-- the URI to which a prefix is bound in the innermost of these elements, each with its declarations, the innermost element
-- and the last declaration first: its own declaration counts, or else what is bound around it
abbrev pub bound : ScopeBindings → List ℕ → Option (List ℕ)
bound [] prefix = bound_at_first prefix
bound (declarations ∷ around) prefix = option_or (bound_in declarations prefix) (bound around prefix)

-- a declaration in front of those of the innermost element
abbrev pub declared_in : List ℕ → List ℕ → ScopeBindings → ScopeBindings
declared_in prefix uri [] = []
declared_in prefix uri (declarations ∷ around) = ((prefix, uri) ∷ declarations) ∷ around
