-- What a job's rule says of the list: its relevant variables, how many there are, and an entry's cells.
use Rattle.std.specs.Prelude.{length, get_or, replicate, ℕ}
use Rattle.meaning.specs.Basics.{tab}
use Rattle.meaning.specs.Job.{variable_limit}
use Rattle.meaning.specs.Reading.{Reading, refused, accepted}
use Rattle.meaning.specs.Relevant.{relevant}
use Rattle.meaning.specs.List.{entry_size}
use Rattle.ground.specs.declared.Shape.{Shape}

abbrev pub shape_of : Reading → Shape
shape_of (refused number place) = record { relevant = replicate variable_limit 0; relevants = 0; entry = 1 }
shape_of (accepted J) = record {
  relevant = tab variable_limit (λ (i : ℕ). get_or (relevant J.rule) i 0);
  relevants = length (relevant J.rule);
  entry = entry_size J.rule;
}
