use Rattle.ground.proofs.Joins.{refused_shape, numbered, accepted_shape}
use Rattle.ground.proofs.shape_of.Goals as goal

pub returns-in_default : goal.returns-in_default
returns-in_default c = refused_shape _ c.read_job-read.result _ _ c.read_job-read.ensures.answers _ c.in_default.is

pub plan_of-plan-requires : goal.plan_of-plan-requires
plan_of-plan-requires c = numbered _ c.read_job-read.result _ _ c.read_job-read.ensures.answers c.in-Ok.is

pub returns : goal.returns
returns c = accepted_shape _ c.read_job-read.result _ _ c.read_job-read.ensures.answers c.in-Ok.is _ c.plan_of-plan.ensures
