use Rattle.std.proofs.Common.{ℕ, ap, arith}
use Rattle.lines.specs.Lines.{entry_lines}
use Rattle.lines.proofs.Puts.{left_all, left_less, left_none}
use Rattle.lines.proofs.Texts.{entries_more, entries_none}
use Rattle.lines.proofs.put_entries.Goals as goal

pub loop-init : goal.loop-init
loop-init c = left_all _ (ap (λ (n : ℕ). entry_lines n c.args.size c.args.cells.now) (omega arith))

pub loop-preserved : goal.loop-preserved
loop-preserved c =
    let parts = c.split_at.ensures in
    left_less c.loop.invariant (entries_more _ _ _ _ _ c.min.ensures parts.front parts.back (omega arith)) c.put_entry-at.ensures

pub returns : goal.returns
returns c = left_none c.loop.invariant (entries_none _ _ _ (omega arith))
