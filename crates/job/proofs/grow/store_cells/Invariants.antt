-- The loop's invariant: the cells passed are stored, and no other.
use Rattle.std.proofs.Common.{◌≡◌}
use Rattle.job.specs.Puts.{puts}
use Rattle.job.specs.Progress.{cell_from}
use Rattle.job.proofs.grow.store_cells.Given as goal

abbrev pub invariant-loop-k : goal.invariant-loop-k
invariant-loop-k l = l.cells ≡ puts l.initial.cells l.to l.k (cell_from l.bytes l.i)
