use Rattle.std.proofs.Common.{◌++◌, get_or, take}
use Rattle.lines.specs.Lines.{decimal, spaced}
use Rattle.lines.specs.Written.{Written}
use Rattle.lines.proofs.put_entry.Given as goal

abbrev pub invariant-loop-cell : goal.invariant-loop-cell
invariant-loop-cell l = Written (decimal (get_or l.cells 0 0) ++ spaced (take l.cell-index l.rest)) l.fn.out l.out l.at
