use Rattle.std.proofs.lemmas.Result.{err_from_is_err_and}
use Rattle.ground.proofs.Joins.{refused_answer, numbered, accepted_answer}
use Rattle.ground.proofs.ground_with.Goals as goal

pub returns-in_err-read : goal.returns-in_err-read
returns-in_err-read g c =
    let r = c.read_job-read in
    let p = err_from_is_err_and c.from_residual.result c.from_residual.ensures.1 in
    rw (p.1, p.2) (refused_answer _ r.result _ _ r.ensures.answers _ _ _ _ c.in_err-read.was)

pub plan_of-plan-requires : goal.plan_of-plan-requires
plan_of-plan-requires g c = numbered _ c.read_job-read.result _ _ c.read_job-read.ensures.answers c.in_ok-read.was

pub returns : goal.returns
returns g c =
    let r = c.read_job-read in
    accepted_answer _ r.result _ _ r.ensures.answers c.in_ok-read.was _ _ _ _ c.search-ended.result c.search-ended.ensures
