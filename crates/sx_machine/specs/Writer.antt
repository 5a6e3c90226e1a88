-- What the builder of a session was asked for.
use Rattle.std.specs.Prelude.{◌≡◌, ℕ, Bool, List, [], ◌∷◌}
use Rattle.sx_named.specs.Named.{Attribute}
use Rattle.sx_build.specs.Asked as ask
use Rattle.sx_build.specs.Asked.{Asked}
use Rattle.sx_build.specs.Build.{error_of}
use Rattle.sx_build.specs.Builder as builder
use Rattle.sx_machine.specs.declared.writer.Writer.{Writer}

-- these attributes are asked for
abbrev pub asked_attributes : List Attribute → List Asked
asked_attributes [] = []
asked_attributes (a ∷ rest) = ask.has a ∷ asked_attributes rest

-- the builder was asked for these, the error is theirs, and no attribute is left to be asked for
pub record WriterStands (w : Writer) (asked : List Asked) (at_end : Bool) (given : ℕ) : Type 0 where
  pub builds : builder.BuilderStands w.builder asked at_end given
  pub error_is : w.error ≡ error_of asked
  pub none_turned : w.turned ≡ []
