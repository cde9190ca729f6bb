use Rattle.std.proofs.Common.{◌++◌, take}
use Rattle.lines.specs.Lines.{vars, spaced}
use Rattle.lines.specs.Written.{Written}
use Rattle.lines.proofs.put_vars.Given as goal

abbrev pub invariant-loop-variable : goal.invariant-loop-variable
invariant-loop-variable l = Written (vars ++ spaced (take l.variable-index l.relevant)) l.fn.out l.out l.at
