use Rattle.std.proofs.Common.{refl}
use Rattle.job.specs.Bound.{marked}
use Rattle.job.proofs.Bounds.{marked_more}
use Rattle.job.proofs.bound.mark.Goals as goal

pub loop-term-init : goal.loop-term-init
unfolding marked
loop-term-init c = refl

pub loop-term-preserved : goal.loop-term-preserved
loop-term-preserved c = marked_more _ _ _ _ _ _ c.loop-term-test.true c.loop-term.invariant c.mark_term.ensures
