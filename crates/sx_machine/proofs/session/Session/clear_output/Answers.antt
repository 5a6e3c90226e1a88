use Rattle.std.proofs.Common.{ℕ, List, length, ap, subst}
use Rattle.sx_lines.specs.declared.events.Built.{Built}
use Rattle.sx_machine.specs.Writer.{WriterStands}
use Rattle.sx_machine.proofs.session.Session.clear_output.Goals as goal

pub returns-clause-stands : goal.returns-clause-stands
returns-clause-stands c = λ sheet known invocations p given s.
    let b = s.builds in
    record {
      ready = s.ready;
      rules_are = s.rules_are;
      places_are = s.places_are;
      copying_is = s.copying_is;
      root_is = s.root_is;
      builds = record {
        asked = b.asked;
        at_end = b.at_end;
        stands = subst (λ (n : ℕ). WriterStands c.clear_output.new.self b.asked b.at_end n) (ap (λ (events : List Built). length events) b.built_is)
            (c.clear_output.ensures b.asked b.at_end given b.stands);
        built_is = b.built_is;
        all_asked = b.all_asked;
      };
      state_is = s.state_is;
      frames_are = s.frames_are;
    }
