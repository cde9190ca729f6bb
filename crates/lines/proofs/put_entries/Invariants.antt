use Rattle.std.proofs.Common.{◌-◌}
use Rattle.lines.specs.Lines.{entry_lines}
use Rattle.lines.proofs.Puts.{Left}
use Rattle.lines.proofs.put_entries.Given as goal

abbrev pub invariant-loop : goal.invariant-loop
invariant-loop l = Left (entry_lines l.entries l.size l.cells) (entry_lines (l.entries - l.counter) l.size l.rest) l.fn.out l.out l.at
