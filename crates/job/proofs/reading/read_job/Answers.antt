use Rattle.std.proofs.Common.{◌≡◌, ◌+◌, ◌<◌, ◌≤◌, ℕ, List, Ok, length, arith}
use lib.ListN.{length-replicate}
use Rattle.meaning.specs.Job.{job_limit}
use Rattle.meaning.specs.Reading.{Tag, length_at, tag_at, tag_of}
use Rattle.rule.specs.Limits.{cell_limit, index_limit}
use Rattle.job.specs.Progress.{Well, Filled, read_of}
use Rattle.job.specs.Fault.{Judges}
use Rattle.job.specs.Grow.{Ready, Stepped}
use Rattle.job.specs.declared.progress.Progress.{Progress}
use Rattle.job.proofs.Sounds.{sound}
use Rattle.job.proofs.Stores.{Storing, stores_first, stores_long, stores_on, stores_stop, stores_end, holds}
use Rattle.job.proofs.Ends.{Going, too_long, starts, refuses, continues, accepts, kept}
use Rattle.job.proofs.reading.read_job.Goals as goal

-- the field at hand, which has no fault
module _ (s : List ℕ) (at : ℕ) (p : Progress) (t : at < length s) (l : length s ≤ job_limit) (w : Well p) (j : Judges (Ok tt) s at p 0) where
  ready : (x : Tag) → x ≡ tag_of (tag_at s at) → Ready s at x p
  ready x e = record { tag_is = e; well = w; sound = sound s at p w j }

  -- the field is read, and the loop goes on behind it
  on : (p' : Progress) (cells index cells' index' : List ℕ) (n : ℕ)
      → Going s at (read_of p cells index) → Storing s at p cells index → Stepped s at p p' cells index cells' index' → n ≡ length_at s at
      → (at + (3 + n) ≤ length s) × (length s ≤ job_limit) × Well p' × Filled p' cells' index' × Going s (at + (3 + n)) (read_of p' cells' index') × Storing s (at + (3 + n)) p' cells' index'
  on p' cells index cells' index' n g stores k q =
      let e : at + (3 + n) ≡ at + 3 + n = omega arith in
      rw e (
        omega (arith, (sound s at p w j).fits, q),
        l,
        k.well,
        k.filled,
        continues s at p cells index g t p' cells' index' n j k q,
        stores_on s at p cells index stores p' cells' index' n t j k q,
      )

pub returns-then-bytes-gt-JOB_LIMIT-clause-answers : goal.returns-then-bytes-gt-JOB_LIMIT-clause-answers
returns-then-bytes-gt-JOB_LIMIT-clause-answers c = rw c.ended.ensures (too_long _ _ c.if-bytes-gt-JOB_LIMIT.true)

pub returns-then-bytes-gt-JOB_LIMIT-clause-holds : goal.returns-then-bytes-gt-JOB_LIMIT-clause-holds
returns-then-bytes-gt-JOB_LIMIT-clause-holds c = rw c.ended.ensures (holds _ _ _ _ _ (stores_long _ _ c.default-p.ensures c.if-bytes-gt-JOB_LIMIT.true))

pub loop-at-init : goal.loop-at-init
loop-at-init c =
    let b = starts c.args.bytes.now _ _ _ c.default-p.ensures (length-replicate {A = ℕ} cell_limit 0) (length-replicate {A = ℕ} index_limit 0) (omega arith) in
    (omega arith, omega arith, b.0, b.1, b.2, stores_first _ _ c.default-p.ensures (omega arith))

pub returns-in-Err-clause-answers : goal.returns-in-Err-clause-answers
returns-in-Err-clause-answers c = rw c.ended-in-Err.ensures (refuses _ _ _ _ _ c.loop-at.invariant.4 c.loop-at-test.true _ _ c.in-Err.ensures)

pub returns-in-Err-clause-holds : goal.returns-in-Err-clause-holds
returns-in-Err-clause-holds c = rw c.ended-in-Err.ensures (holds _ _ _ _ _ (stores_stop _ _ _ _ _ c.loop-at.invariant.5 _ c.loop-at-test.true c.in-Err.ensures))

pub grow-requires : goal.grow-requires
grow-requires c = (ready _ _ _ c.loop-at-test.true c.loop-at.invariant.1 c.loop-at.invariant.2 c.in-Ok.ensures.1 _ c.in-Ok.ensures.0, c.loop-at.invariant.3)

pub loop-at-preserved : goal.loop-at-preserved
loop-at-preserved c =
    on _ _ _ c.loop-at-test.true c.loop-at.invariant.1 c.loop-at.invariant.2 c.in-Ok.ensures.1 _ _ _ _ _ _ c.loop-at.invariant.4 c.loop-at.invariant.5 c.grow.ensures c.two.ensures.0

pub returns-clause-answers : goal.returns-clause-answers
returns-clause-answers c = rw c.ended-2.ensures (accepts _ _ _ _ _ _ c.loop-at.invariant.4 (omega arith) c.last-verdict.ensures)

pub returns-clause-holds : goal.returns-clause-holds
returns-clause-holds c = rw c.ended-2.ensures (holds _ _ _ _ _ (stores_end _ _ _ _ _ c.loop-at.invariant.5 (omega arith)))

pub returns-clause-kept : goal.returns-clause-kept
returns-clause-kept c = rw c.ended-2.ensures (kept _ _ _ c.loop-at.invariant.2 c.loop-at.invariant.3 _)
