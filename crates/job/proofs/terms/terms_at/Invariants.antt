-- The loop's invariant: the terms passed, and no other.
use Rattle.std.proofs.Common.{◌≡◌}
use Rattle.job.specs.Progress.{terms_from}
use Rattle.job.proofs.terms.terms_at.Given as goal

abbrev pub invariant-loop-k : goal.invariant-loop-k
invariant-loop-k l = l.terms ≡ terms_from l.bytes l.i l.k
