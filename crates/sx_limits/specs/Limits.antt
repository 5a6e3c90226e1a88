-- The limits that the program states.
use Rattle.std.specs.Prelude.{◌^◌}
use Rattle.sx_limits.specs.declared.limits.Limits.{Limits}

-- the limits that the program states: those of a document, and of what is evaluated on it
abbrev pub stated : Limits
stated = record {
  line = 1048576;
  text_run = 16777216;
  attrs = 256;
  depth = 200;
  bytes = 2 ^ 40;
  nodes = 4000000;
  invocations = 256;
  range = 1000000;
  string = 67108864;
  list = 4000000;
}
