use Rattle.std.proofs.Common.{ap}
use Rattle.job.specs.Table.{meant}
use Rattle.job.proofs.Sounds.{ready_predicate, ready_row, ready_head, ready_literal, ready_comparison, step_predicate, step_row, step_head, step_literal, step_comparison}
use Rattle.job.proofs.grow.grow.Goals as goal

pub grow_predicate-requires : goal.grow_predicate-requires
grow_predicate-requires c = ready_predicate _ _ _ _ c.requires.0 (ap meant c.in-Predicate.is)

pub grow_row-requires : goal.grow_row-requires
grow_row-requires c = ready_row _ _ _ _ c.requires.0 _ (ap meant c.in-Row.is)

pub grow_head-requires : goal.grow_head-requires
grow_head-requires c = ready_head _ _ _ _ c.requires.0 _ (ap meant c.in-Head.is)

pub grow_literal-requires : goal.grow_literal-requires
grow_literal-requires c = ready_literal _ _ _ _ c.requires.0 _ (ap meant c.in-Literal.is)

pub grow_comparison-requires : goal.grow_comparison-requires
grow_comparison-requires c = ready_comparison _ _ _ _ c.requires.0 _ (ap meant c.in-Comparison.is)

pub returns-in-Predicate : goal.returns-in-Predicate
returns-in-Predicate c = step_predicate _ _ _ _ c.requires.0 _ c.line.ensures.group _ _ _ c.requires.1 (ap meant c.in-Predicate.is) c.grow_predicate.ensures

pub returns-in-Head : goal.returns-in-Head
returns-in-Head c = step_head _ _ _ _ c.requires.0 _ c.line.ensures.group _ _ _ c.requires.1 (ap meant c.in-Head.is) c.grow_head.ensures

pub returns-in-Literal : goal.returns-in-Literal
returns-in-Literal c = step_literal _ _ _ _ c.requires.0 _ c.line.ensures.group _ _ _ c.requires.1 (ap meant c.in-Literal.is) c.grow_literal.ensures

pub returns-in-Row : goal.returns-in-Row
returns-in-Row c = step_row _ _ _ _ c.requires.0 _ c.line.ensures.group _ _ _ c.requires.1 _ _ (ap meant c.in-Row.is) c.grow_row.ensures

pub returns-in-Comparison : goal.returns-in-Comparison
returns-in-Comparison c = step_comparison _ _ _ _ c.requires.0 _ c.line.ensures.group _ _ _ c.requires.1 _ (ap meant c.in-Comparison.is) c.grow_comparison.ensures
