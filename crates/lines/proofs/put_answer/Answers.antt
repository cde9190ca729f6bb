use Rattle.lines.specs.Lines.{line}
use Rattle.lines.proofs.Puts.{written_as, written_then}
use Rattle.lines.proofs.Texts.{spaced_two}
use Rattle.lines.proofs.put_answer.Goals as goal

pub returns : goal.returns
unfolding line
returns c =
    written_then
    (written_as (spaced_two _ _ _) (written_then (written_then c.put-at.ensures c.put_spaced-at.ensures) c.put_spaced-at-2.ensures))
    c.put_byte.ensures
