-- The loop's invariant: the variables of the terms passed are bound too, and no other.
use Rattle.std.proofs.Common.{◌≡◌, take}
use Rattle.job.specs.Bound.{marked}
use Rattle.job.proofs.bound.mark.Given as goal

abbrev pub invariant-loop-term : goal.invariant-loop-term
invariant-loop-term l = l.bound ≡ marked l.initial.bound (take l.term-index l.term-items)
