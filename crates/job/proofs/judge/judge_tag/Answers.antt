use Rattle.std.proofs.Common.{arith}
use Rattle.job.proofs.Judging.{tag_group, tag_limit, tag_rest}
use Rattle.job.proofs.judge.judge_tag.Goals as goal

pub returns-then-line-p : goal.returns-then-line-p
returns-then-line-p c = tag_group _ _ _ _ _ c.requires.0 (omega (arith, c.line-line.ensures.group))

pub returns-then-line-counted : goal.returns-then-line-counted
returns-then-line-counted c = tag_limit _ _ _ _ _ c.requires.0 c.requires.1 (omega (arith, c.line-line.ensures.group)) (omega (arith, c.line-line.ensures.limit, c.counted.ensures))

pub returns : goal.returns
returns c = tag_rest _ _ _ _ _ c.requires.0 c.requires.1 (omega (arith, c.line-line.ensures.group)) _ (omega (arith, c.line-line.ensures.limit, c.counted.ensures)) c.judge_named.ensures
