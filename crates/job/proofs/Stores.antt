-- What the record and the arrays hold at last, and that the promise of `read_job` allows one result.
use Prim.Native.Nat.{ℕ, zero, suc, ◌+◌, ◌<◌, ◌≤◌}
use mathlib.Core.Path.{◌≡◌, refl, sym, ap, ◌∙◌}
use mathlib.Core.Option.{none, some}
use mathlib.Core.List.{List, [], ◌∷◌}
use native.Mathlib.Omega.{arith}
use Rattle.std.specs.Prelude.{Result, Ok, Err}
use borrow.Author.Tests.{lt-ltb, le-ltb}
use lib.ListN.{length, get_or, replicate}
use Rattle.meaning.specs.Job.{job_limit, Job}
use Rattle.meaning.specs.Reading.{length_at, refusals, first, Reading, refused, accepted, reading}
use Rattle.rule.specs.Limits.{cell_limit, index_limit}
use Rattle.job.specs.Progress.{nothing_yet, read_of}
use Rattle.job.specs.Fault.{number_of, Judges}
use Rattle.job.specs.Grow.{Stepped}
use Rattle.job.specs.Answer.{verdict_of, reading_of, made_of, ended_of, Store, store, store_from, stored, Holds}
use Rattle.job.specs.declared.progress.Progress.{Progress}
use Rattle.job.specs.declared.reading.ReadJob.{ReadJob}
use Rattle.job.specs.declared.fault.Fault.{Fault}
use Rattle.job.specs.declared.fault.Refusal.{Refusal}
use Rattle.job.specs.declared.fault.Fault.TheVariants.{Long, Cut, Tag, Group, Limit, Undeclared, Length, Range, Unbound, Unsafe, Empty}

-- what is left to store from `at` on gives what the whole job does
pub record Storing (s : List ℕ) (at : ℕ) (p : Progress) (cells index : List ℕ) : Type 0 where
  pub fuel : ℕ
  pub enough : length s ≤ fuel + at
  pub same : store_from fuel s at p cells index ≡ stored s

pub stores_first : (s : List ℕ) (p : Progress) → p ≡ nothing_yet → length s ≤ job_limit → Storing s 0 p (replicate cell_limit 0) (replicate index_limit 0)
unfolding stored
stores_first s p e h = record { fuel = length s; enough = omega arith; same = rw e (sym (rw (le-ltb job_limit (length s) h, stored) refl)) }

pub stores_long : (s : List ℕ) (p : Progress) → p ≡ nothing_yet → job_limit < length s → store p (replicate cell_limit 0) (replicate index_limit 0) ≡ stored s
unfolding stored
stores_long s p e h = rw (e, lt-ltb job_limit (length s) h, stored) refl

module _ (s : List ℕ) (at : ℕ) (p : Progress) (cells index : List ℕ) (g : Storing s at p cells index) where
  pub stores_on : (p' : Progress) (cells' index' : List ℕ) (n : ℕ) → at < length s → Judges (Ok tt) s at p 0 → Stepped s at p p' cells index cells' index' → n ≡ length_at s at
      → Storing s (at + 3 + n) p' cells' index'
  unfolding store_from Judges
  stores_on p' cells' index' n l j q k = rw k (go g.fuel g.enough g.same)
    where
      f : none ≡ first (refusals s at (read_of p cells index))
      f = j cells index

      go : (m : ℕ) → length s ≤ m + at → store_from m s at p cells index ≡ stored s → Storing s (at + 3 + length_at s at) p' cells' index'
      go zero h x = absurd (omega arith)
      go (suc m) h x =
          record {
            fuel = m;
            enough = omega arith;
            same = rw (q.record_is, q.cells_are, q.index_is) (sym (rw (lt-ltb at (length s) l, store_from, ← f) refl) ∙ x);
          }

  pub stores_stop : (b : Fault) → at < length s → Judges (Err b) s at p 0 → store p cells index ≡ stored s
  unfolding store_from Judges
  stores_stop b l j = go g.fuel g.enough g.same
    where
      f : some (number_of b) ≡ first (refusals s at (read_of p cells index))
      f = j cells index

      go : (m : ℕ) → length s ≤ m + at → store_from m s at p cells index ≡ stored s → store p cells index ≡ stored s
      go zero h x = absurd (omega arith)
      go (suc m) h x = sym (rw (lt-ltb at (length s) l, store_from, ← f) refl) ∙ x

  pub stores_end : length s ≤ at → store p cells index ≡ stored s
  unfolding store_from
  stores_end l = go g.fuel g.same
    where
      go : (m : ℕ) → store_from m s at p cells index ≡ stored s → store p cells index ≡ stored s
      go zero x = x
      go (suc m) x = sym (rw (le-ltb at (length s) l, store_from) refl) ∙ x

pub holds : (s : List ℕ) (v : Result (Unit {0}) Refusal) (p : Progress) (cells index : List ℕ) → store p cells index ≡ stored s → Holds s (ended_of v p) cells index
holds s v p cells index q =
    record { made = ap (λ (x : Store). made_of x.progress) q; cells_are = ap (λ (x : Store). x.cells) q; index_is = ap (λ (x : Store). x.index) q }

-- two results that the promise allows are equal

fault_of : ℕ → Fault
fault_of n = get_or (Long ∷ Long ∷ Cut ∷ Tag ∷ Group ∷ Limit ∷ Undeclared ∷ Length ∷ Range ∷ Unbound ∷ Unsafe ∷ Empty ∷ []) n Long

fault_back : (f : Fault) → fault_of (number_of f) ≡ f
unfolding fault_of
fault_back Long = refl
fault_back Cut = refl
fault_back Tag = refl
fault_back Group = refl
fault_back Limit = refl
fault_back Undeclared = refl
fault_back Length = refl
fault_back Range = refl
fault_back Unbound = refl
fault_back Unsafe = refl
fault_back Empty = refl

back : Reading → Result (Unit {0}) Refusal
back (refused n place) = Err (record { fault = fault_of n; place = place })
back (accepted J) = Ok tt

verdict_back : (v : Result (Unit {0}) Refusal) (J : Job) → back (verdict_of v J) ≡ v
unfolding back verdict_of
verdict_back (Ok u) J = refl
verdict_back (Err r) J = rw (fault_back r.fault)

pub one_answer : (s : List ℕ) (r r' : ReadJob) (cells index cells' index' : List ℕ)
    → reading_of r cells index ≡ reading s → Holds s r cells index → reading_of r' cells' index' ≡ reading s → Holds s r' cells' index'
    → (r ≡ r') × (cells ≡ cells') × (index ≡ index')
one_answer s r r' cells index cells' index' e h e' h' =
    let v : r.verdict ≡ r'.verdict = sym (verdict_back r.verdict _) ∙ ap back (e ∙ sym e') ∙ verdict_back r'.verdict _ in
    let m : r.made ≡ r'.made = h.made ∙ sym h'.made in
    (λ i. record { verdict = v i; made = m i }, h.cells_are ∙ sym h'.cells_are, h.index_is ∙ sym h'.index_is)
