use Rattle.lines.proofs.Puts.{written_as, written_then}
use Rattle.lines.proofs.Texts.{spaced_one}
use Rattle.lines.proofs.put.put_spaced.Goals as goal

pub returns : goal.returns
returns c = written_as (spaced_one _) (written_then c.put_byte-at.ensures c.put_number.ensures)
