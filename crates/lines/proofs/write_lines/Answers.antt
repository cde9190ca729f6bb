use Rattle.lines.specs.Lines.{lines_of}
use Rattle.lines.proofs.write_lines.Goals as goal

pub returns-in-Ok : goal.returns-in-Ok
unfolding lines_of
returns-in-Ok c = rw c.in-Ok.is c.put_run.ensures

pub returns-in-Err : goal.returns-in-Err
unfolding lines_of
returns-in-Err c = rw (c.in-Err.is, ← c.from.ensures) c.write_refusal.ensures
