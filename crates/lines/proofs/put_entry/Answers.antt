use Rattle.std.proofs.Common.{arith}
use Rattle.lines.specs.Lines.{entry_line, line}
use Rattle.lines.proofs.Puts.{written_as, written_then}
use Rattle.lines.proofs.Texts.{entry_none, spaced_none, spaced_more, spaced_all}
use Rattle.lines.proofs.put_entry.Goals as goal

pub returns-in_default : goal.returns-in_default
returns-in_default c = written_as (entry_none _ c.in_default.ensures.cases) c.put_byte.ensures

pub loop-cell-init : goal.loop-cell-init
loop-cell-init c = rw c.in-Some.ensures.cases.0 (written_as (spaced_none _) c.put_number-at.ensures)

pub loop-cell-preserved : goal.loop-cell-preserved
loop-cell-preserved c =
    written_as (spaced_more _ _ _ c.loop-cell-test.true) (written_then c.loop-cell.invariant c.put_spaced-at.ensures)

pub returns : goal.returns
unfolding entry_line line
returns c =
    let cells = written_as (spaced_all _ _ _ (omega arith)) c.loop-cell.invariant in
    rw c.in-Some.ensures.cases.0 (written_then (rw c.in-Some.ensures.cases.0 at cells) c.put_byte-2.ensures)
