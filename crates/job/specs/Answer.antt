-- The answer of `read_job`, and the job that it stands for.
use Rattle.std.specs.Prelude.{ℕ, zero, suc, ◌+◌, ◌*◌, ◌<◌, ◌≤◌, true, false, ◌≡◌, List, length, get_or, replicate, ltb, Result, Ok, Err}
use Rattle.std.proofs.Math.Option.{none, some}
use Rattle.meaning.specs.Job.{job_limit, predicate_limit, row_limit, head_limit, item_limit, arity_limit, Job}
use Rattle.meaning.specs.Reading.{tag_at, length_at, tag_of, refusals, first, Reading, refused, accepted, finish}
use Rattle.rule.specs.Limits.{cell_limit, index_limit}
use Rattle.job.specs.Progress.{nothing_yet, job_with, read_of}
use Rattle.job.specs.Grow.{next_record, next_cells, next_index}
use Rattle.job.specs.Fault.{number_of}
use Rattle.job.specs.declared.progress.Progress.{Progress}
use Rattle.job.specs.declared.reading.Made.{Made}
use Rattle.job.specs.declared.reading.ReadJob.{ReadJob}
use Rattle.job.specs.declared.fault.Refusal.{Refusal}

-- the job: its arities, its tables and its rule
abbrev pub job_of : Made → List ℕ → List ℕ → Job
job_of m cells index = job_with m.rule m.arities m.rows cells index

unfoldable pub verdict_of : Result (Unit {0}) Refusal → Job → Reading
verdict_of (Ok u) J = accepted J
verdict_of (Err r) J = refused (number_of r.fault) r.place

abbrev pub reading_of : ReadJob → List ℕ → List ℕ → Reading
reading_of r cells index = verdict_of r.verdict (job_of r.made cells index)

-- after the last field, whatever the cells
unfoldable pub LastIs : Result (Unit {0}) Refusal → List ℕ → Progress → Type 0
LastIs r s p = (cells index : List ℕ) → verdict_of r (read_of p cells index).job ≡ finish s (read_of p cells index)

abbrev pub made_of : Progress → Made
made_of p = record { rule = p.rule; arities = p.arities; rows = p.rows; total = p.total }

abbrev pub ended_of : Result (Unit {0}) Refusal → Progress → ReadJob
ended_of verdict p = record { verdict = verdict; made = made_of p }

-- what a walk over the rows needs to know
pub record Kept (m : Made) (cells index : List ℕ) : Type 0 where
  pub cells_length : length cells ≡ cell_limit
  pub index_length : length index ≡ index_limit
  pub predicates : length m.arities ≤ predicate_limit
  pub heads : length m.rule.heads ≤ head_limit
  pub items : length m.rule.items ≤ item_limit
  pub total : m.total ≤ row_limit
  pub solved : length m.rule.solved ≡ length m.arities
  pub arity : (q : ℕ) → get_or m.arities q 0 ≤ arity_limit
  pub rows : (q : ℕ) → q < length m.arities → get_or m.rows q 0 ≤ m.total
  pub inside : (q k : ℕ) → q < length m.arities → k < get_or m.rows q 0 → get_or index (row_limit * q + k) 0 < m.total

-- What the record and the arrays hold at last: the fields up to the first fault, each added to those before it.

pub record Store : Type 0 where
  pub progress : Progress
  pub cells : List ℕ
  pub index : List ℕ

abbrev pub store : Progress → List ℕ → List ℕ → Store
store p cells index = record { progress = p; cells = cells; index = index }

-- at most so many fields from `at` on
unfoldable pub store_from : ℕ → List ℕ → ℕ → Progress → List ℕ → List ℕ → Store
store_from zero s at p cells index = store p cells index
store_from (suc k) s at p cells index =
    elim (ltb at (length s)) [
      | true ↦ elim (first (refusals s at (read_of p cells index))) [
        | some fault ↦ store p cells index
        | none ↦
            store_from k s (at + 3 + length_at s at) (next_record (tag_of (tag_at s at)) s at p) (next_cells (tag_of (tag_at s at)) s at p cells)
            (next_index (tag_of (tag_at s at)) s at p index)
      ]
      | false ↦ store p cells index
    ]

unfoldable pub stored : List ℕ → Store
stored s =
    elim (ltb job_limit (length s)) [
      | true ↦ store nothing_yet (replicate cell_limit 0) (replicate index_limit 0)
      | false ↦ store_from (length s) s 0 nothing_yet (replicate cell_limit 0) (replicate index_limit 0)
    ]

-- these are the record, the cells and the index
pub record Holds (s : List ℕ) (r : ReadJob) (cells index : List ℕ) : Type 0 where
  pub made : r.made ≡ made_of (stored s).progress
  pub cells_are : cells ≡ (stored s).cells
  pub index_is : index ≡ (stored s).index
