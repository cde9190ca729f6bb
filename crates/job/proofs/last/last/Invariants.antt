-- The loop's invariant: no variable of the heads passed is in no positive literal.
use Rattle.std.proofs.Common.{◌≡◌}
use Rattle.job.proofs.Ends.{loose_from}
use Rattle.job.proofs.last.last.Given as goal

abbrev pub invariant-loop-i : goal.invariant-loop-i
invariant-loop-i l = loose_from l.i l.p ≡ loose_from 0 l.p
