use Rattle.std.proofs.Common.{arith, refl}
use Rattle.meaning.proofs.Tab.{fill_none, fill_more}
use Rattle.cases.proofs.Weights.{before_first, before_next}
use Rattle.cases.proofs.cells.fill.Goals as goal

pub loop-cell-init : goal.loop-cell-init
loop-cell-init c = (fill_none _, before_first)

pub loop-cell-preserved : goal.loop-cell-preserved
loop-cell-preserved c = let l = c.loop-cell in
    (fill_more _ _ _ _ (omega arith) l.invariant.0 l.invariant.1, before_next _ _ _ l.invariant.1 refl)
