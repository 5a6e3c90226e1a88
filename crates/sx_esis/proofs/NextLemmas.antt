-- What a reader becomes that went on and lends the line.
use Rattle.std.proofs.Common.{◌≡◌, ℕ, ◌<◌, Bool, List, Option, Some, None, Result, Ok, Err, ap, sym, ◌∙◌, subst}
use Rattle.sx_esis.specs.declared.reader.LineReader.{LineReader}
use Rattle.sx_esis.specs.declared.faults.LineFault.{LineFault}
use Rattle.sx_esis.specs.declared.reader.LineView.{LineView}
use Rattle.sx_esis.specs.Lines.{Line}
use Rattle.sx_esis.specs.LineReader.{LinesStand, line_shown, unread}
use Rattle.sx_esis.specs.Gives.{AdvancesLine, Follows, IsLineGiven, view_line}

-- What the call that goes on ensures.
pub record Went (old new : LineReader) (r : Option (Result Unit LineFault)) : Type 0 where
  pub gives : (limit : ℕ) (bytes : List ℕ) (ended : Bool) (given : ℕ) → LinesStand old limit bytes ended given → AdvancesLine limit bytes ended given new r
  pub progress : IsLineGiven r → unread new < unread old

pub follows_line : (old new : LineReader) (r : Option (Result Unit LineFault)) (view : LineView) → r ≡ Some (Ok tt) → Went old new r → view_line view ≡ line_shown new → Follows old (Some (Ok view)) new
follows_line old new r view is went shows = line (subst (λ (v : Option (Result Unit LineFault)). Went old new v) is went)
  where
    line : Went old new (Some (Ok tt)) → Follows old (Some (Ok view)) new
    line w = record {
      gives = λ limit bytes ended given stands. let a = w.gives limit bytes ended given stands in (a.0 ∙ ap (λ (l : Line). Some l) (sym shows), a.1);
      progress = w.progress;
    }

pub follows_fault : (old new : LineReader) (r : Option (Result Unit LineFault)) (f : LineFault) → r ≡ Some (Err f) → Went old new r → Follows old (Some (Err f)) new
follows_fault old new r f is went = fault (subst (λ (v : Option (Result Unit LineFault)). Went old new v) is went)
  where
    fault : Went old new (Some (Err f)) → Follows old (Some (Err f)) new
    fault w = record { gives = w.gives; progress = w.progress }

pub follows_none : (old new : LineReader) (r : Option (Result Unit LineFault)) → r ≡ None → Went old new r → Follows old None new
follows_none old new r is went = none (subst (λ (v : Option (Result Unit LineFault)). Went old new v) is went)
  where
    none : Went old new None → Follows old None new
    none w = record { gives = w.gives; progress = w.progress }
