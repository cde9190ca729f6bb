use Rattle.rule.proofs.Comparisons.{none_ahead, some_ahead}
use Rattle.rule.proofs.compare.is_before.Goals as goal

pub returns-then-ahead-ge1 : goal.returns-then-ahead-ge1
returns-then-ahead-ge1 c = some_ahead _ _ c.ranges.a.fits c.if-ahead-ge1.true

pub returns-else-ahead-ge1 : goal.returns-else-ahead-ge1
returns-else-ahead-ge1 c = none_ahead _ _ c.ranges.a.fits c.if-ahead-ge1.false
