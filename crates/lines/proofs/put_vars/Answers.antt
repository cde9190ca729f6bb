use Rattle.std.proofs.Common.{arith}
use Rattle.lines.specs.Lines.{vars, line}
use Rattle.lines.proofs.Puts.{written_as, written_then}
use Rattle.lines.proofs.Texts.{spaced_none, spaced_more, spaced_all}
use Rattle.lines.proofs.put_vars.Goals as goal

pub loop-variable-init : goal.loop-variable-init
loop-variable-init c = written_as (spaced_none vars) c.put-at.ensures

pub loop-variable-preserved : goal.loop-variable-preserved
loop-variable-preserved c =
    written_as (spaced_more vars _ _ c.loop-variable-test.true) (written_then c.loop-variable.invariant c.put_spaced-at.ensures)

pub returns : goal.returns
unfolding line
returns c = written_then (written_as (spaced_all vars _ _ (omega arith)) c.loop-variable.invariant) c.put_byte.ensures
