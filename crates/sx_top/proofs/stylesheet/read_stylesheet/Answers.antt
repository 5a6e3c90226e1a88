use Rattle.std.proofs.Common.{[], false, refl, sym, ◌∙◌, subst}
use Rattle.sx_reading.specs.Transforming.{nothing_written}
use Rattle.sx_names.specs.Numbering.{NameTable, IsDistinct}
use Rattle.sx_top.specs.Feeding.{Feeds}
use Rattle.sx_top.specs.Stylesheet.{Collects, AreEvents, sheet_outcome, collecting}
use Rattle.sx_reading.proofs.Turns.{whole_input}
use Rattle.sx_top.proofs.Runners.{kept_between}
use Rattle.sx_top.proofs.Stylesheets.{fresh, collecting_steady, sheet_outcome_is, events_left}
use Rattle.sx_top.proofs.stylesheet.read_stylesheet.Goals as goal

pub returns-in-Ok-clause-reads : goal.returns-in-Ok-clause-reads
returns-in-Ok-clause-reads g c =
    let distinct = subst (λ (n : NameTable). IsDistinct n) (sym c.replace-own.ensures.value) c.each_once.ensures in
    let fed : Feeds Collects c.new-feeder.result nothing_written sheet_outcome [] false [] = record {
      meaning = collecting;
      writes = λ b ended. refl;
      ends_at = sheet_outcome_is;
      stands = c.new-feeder.ensures.stands collecting collecting_steady (sym c.limits.ensures) distinct (fresh _ c.replace-own.result c.new-2.ensures);
    } in
    let left = c.in-Ok.ensures.left nothing_written sheet_outcome fed (λ q. cc) in
    record {
      transforms = c.in-Ok.ensures.runs nothing_written sheet_outcome fed;
      failed = tt;
      content = (
        left.input,
        subst (λ (n : NameTable). AreEvents n c.transfer-status.new.consumer.taker.events left.input) (sym c.swap.ensures.x_after)
            (events_left c.transfer-status.new.consumer left.input left.taken left.ended left.answer.0 left.answer.1.0 left.stands),
        λ told. whole_input _ _ _ left.input left.ended left.taken (left.told told) left.answer.0,
      );
    }

pub returns-in_default : goal.returns-in_default
returns-in_default g c =
    let distinct = subst (λ (n : NameTable). IsDistinct n) (sym c.replace-own.ensures.value) c.each_once.ensures in
    let fed : Feeds Collects c.new-feeder.result nothing_written sheet_outcome [] false [] = record {
      meaning = collecting;
      writes = λ b ended. refl;
      ends_at = sheet_outcome_is;
      stands = c.new-feeder.ensures.stands collecting collecting_steady (sym c.limits.ensures) distinct (fresh _ c.replace-own.result c.new-2.ensures);
    } in
    record {
      reads = record {
        transforms = c.transfer-status.ensures.runs nothing_written sheet_outcome fed;
        failed = c.in_default.not-Ok;
        content = tt;
      };
      frame = c.transfer-status.ensures.frame;
      kept = kept_between c.args.names.now c.new-feeder.result.names c.transfer-status.new.consumer.names c.swap.new.x (sym (c.new-feeder.ensures.names ∙ c.replace-own.ensures.value)) c.swap.ensures.x_after c.transfer-status.ensures.keeps;
    }
