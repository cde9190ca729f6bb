-- The loop's invariant: what the record and the arrays stand for, read on from the offset, gives what the whole job's bytes do, and so does what they hold.
use Rattle.std.proofs.Common.{◌-◌, ◌≤◌, length}
use Rattle.meaning.specs.Job.{job_limit}
use Rattle.job.specs.Progress.{read_of, Well, Filled}
use Rattle.job.proofs.Stores.{Storing}
use Rattle.job.proofs.Ends.{Going}
use Rattle.job.proofs.reading.read_job.Given as goal

abbrev pub invariant-loop-at : goal.invariant-loop-at
invariant-loop-at l = (l.at ≤ length l.bytes) × (length l.bytes ≤ job_limit) × Well l.p × Filled l.p l.cells l.index × Going l.bytes l.at (read_of l.p l.cells l.index) × Storing l.bytes l.at l.p l.cells l.index

abbrev pub decreases-loop-at : goal.decreases-loop-at
decreases-loop-at l = length l.bytes - l.at
