use Rattle.std.proofs.Common.{refl}
use Rattle.job.proofs.Puts.{puts_none, puts_more}
use Rattle.job.proofs.grow.store_cells.Goals as goal

pub loop-k-init : goal.loop-k-init
loop-k-init c = puts_none _ _ _

pub loop-k-preserved : goal.loop-k-preserved
loop-k-preserved c = rw (puts_more, c.loop-k.invariant, c.four.ensures) refl
