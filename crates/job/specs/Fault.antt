-- The document's number of each fault, and what a judgement says.
use Rattle.std.specs.Prelude.{ℕ, ◌≡◌, List, drop, Result, Ok, Err, MatchResult}
use Rattle.std.proofs.Math.Option.{Option, none, some}
use Rattle.meaning.specs.Reading.{Tag as TagOf, tag_at, length_at, tag_of, refusals, first}
use Rattle.job.specs.Progress.{read_of}
use Rattle.job.specs.Table.{meant}
use Rattle.job.specs.declared.progress.Progress.{Progress}
use Rattle.job.specs.declared.table.Tag.{Tag as TagR}
use Rattle.job.specs.declared.fault.Fault.{Fault}
use Rattle.job.specs.declared.fault.Fault.TheVariants.{Long, Cut, Tag, Group, Limit, Undeclared, Length, Range, Unbound, Unsafe, Empty}

abbrev pub number_of : Fault → ℕ
number_of Long = 1
number_of Cut = 2
number_of Tag = 3
number_of Group = 4
number_of Limit = 5
number_of Undeclared = 6
number_of Length = 7
number_of Range = 8
number_of Unbound = 9
number_of Unsafe = 10
number_of Empty = 11

abbrev pub judged_of : Result (Unit {0}) Fault → Option ℕ
judged_of (Ok u) = none
judged_of (Err f) = some (number_of f)

-- of the field's refusals, but for the first k, r is the first: whatever the cells
unfoldable pub Judges : Result (Unit {0}) Fault → List ℕ → ℕ → Progress → ℕ → Type 0
Judges r s at p k = (cells index : List ℕ) → judged_of r ≡ first (drop k (refusals s at (read_of p cells index)))

-- the field's tag where it has no fault, or its first
abbrev pub Passes : Result TagR Fault → List ℕ → ℕ → Progress → Type 0
Passes r s at p = MatchResult r (λ t. (meant t ≡ tag_of (tag_at s at)) × Judges (Ok tt) s at p 0) (λ f. Judges (Err f) s at p 0)

-- the tag and the length of the field at `at`
pub record FieldAt (s : List ℕ) (at : ℕ) (t : TagOf) (length : ℕ) : Type 0 where
  pub tag_is : t ≡ tag_of (tag_at s at)
  pub length_is : length ≡ length_at s at
