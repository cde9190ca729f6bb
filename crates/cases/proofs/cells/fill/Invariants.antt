use Rattle.std.proofs.Common.{◌≡◌, take}
use Rattle.meaning.specs.Basics.{tab}
use Rattle.cases.specs.Cells.{cell_before}
use Rattle.cases.proofs.cells.fill.Given as goal

abbrev pub invariant-loop-cell : goal.invariant-loop-cell
invariant-loop-cell l = (take l.cell-index l.list ≡ tab l.cell-index cell_before) × (l.next ≡ cell_before l.cell-index)
