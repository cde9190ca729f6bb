use Rattle.lines.specs.Lines.{run_lines}
use Rattle.lines.proofs.Puts.{written_then}
use Rattle.lines.proofs.put_run.Goals as goal

pub returns : goal.returns
unfolding run_lines
returns c =
    rw (← c.relevant.ensures, ← c.word.ensures) (written_then (written_then c.put_vars-at.ensures c.put_entries-at.ensures) c.put_answer.ensures)
