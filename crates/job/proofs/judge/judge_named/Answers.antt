use Rattle.std.proofs.Common.{arith}
use Rattle.std.proofs.lemmas.Result.{err_from_is_err_and}
use Rattle.job.specs.Table.{PlacesAre}
use Rattle.job.proofs.Judging.{named_short, named_missing, named_rest}
use Rattle.job.proofs.judge.judge_named.Goals as goal

pub returns-then-length-line : goal.returns-then-length-line
returns-then-length-line c = named_short _ _ _ _ _ c.requires.0 (omega (arith, c.line.ensures.up_to))

pub returns-in_err-n : goal.returns-in_err-n
unfolding PlacesAre
returns-in_err-n c =
    let p = err_from_is_err_and c.from_residual.result c.from_residual.ensures.1 in
    let h = c.in_err-n.ensures in
    rw (p.1, p.2, h.0) (named_missing _ _ _ _ _ c.requires.0 (omega (arith, c.line.ensures.up_to)) h.1)

pub judge_content-requires : goal.judge_content-requires
unfolding PlacesAre
judge_content-requires c = let h = c.in_ok-n.ensures in (c.requires.0, c.requires.1, h.2, h.1)

pub returns : goal.returns
unfolding PlacesAre
returns c = let h = c.in_ok-n.ensures in named_rest _ _ _ _ _ c.requires.0 (omega (arith, c.line.ensures.up_to)) _ h.0 c.judge_content.ensures
