use Rattle.std.proofs.Common.{◌≡◌, arith}
use Rattle.std.proofs.lemmas.Grind.{common_steps}
use Rattle.std.proofs.lemmas.Option.{gets}
use Rattle.std.specs.List.{slice_get}
use Rattle.job.proofs.Judging.{names_none, names_found}
use Rattle.job.proofs.judge.places_of.Goals as goal

pub returns-then-line-eq0 : goal.returns-then-line-eq0
returns-then-line-eq0 c = names_none _ _ _ _ _ c.line-line.ensures c.if-line-eq0.true

pub returns : goal.returns
returns c =
    let e : c.copied.result ≡ slice_get c.args.p.now.arities c.byte-predicate.result = grind (arith, common_steps, gets) in
    rw (c.ok_or.ensures.value, e) (names_found _ _ _ _ _ c.line-line.ensures _ c.if-line-eq0.false c.byte-predicate.ensures.0 c.requires)
