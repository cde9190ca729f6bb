-- What is read stands for the job that is walked, and the answers are the meaning's.
use Prim.Native.Nat.{ℕ, ◌-◌}
use mathlib.Core.Path.{◌≡◌, refl, sym, ap, ◌∙◌}
use mathlib.Core.List.{List, [], ◌∷◌}
use Rattle.std.specs.Prelude.{Result, Ok, Err}
use lib.ListN.{length, get_or}
use Rattle.meaning.specs.Basics.{tab}
use Rattle.meaning.specs.Job.{Job, rows_of, Sound}
use Rattle.meaning.specs.Reading.{refused, accepted, reading}
use Rattle.meaning.specs.List.{complete, stopped, full}
use Rattle.meaning.specs.Ground.{Answer, refusal, ran, Grounded, Engine, ground_by}
use Rattle.meaning.proofs.Tab.{get_or_tab}
use Rattle.meaning.proofs.Reading.{accepted_sound}
use Rattle.meaning.proofs.Ground.{ground_refused, ground_accepted}
use Rattle.rule.specs.Rule.{rule_of}
use Rattle.job.specs.Progress.{row_of, tables_of}
use Rattle.job.specs.Fault.{number_of}
use Rattle.job.specs.Answer.{job_of, verdict_of, reading_of}
use Rattle.job.specs.declared.fault.Fault.{Fault}
use Rattle.job.specs.declared.fault.Fault.TheVariants.{Long, Cut, Tag, Group, Limit, Undeclared, Length, Range, Unbound, Unsafe, Empty}
use Rattle.job.specs.declared.fault.Refusal.{Refusal}
use Rattle.job.specs.declared.reading.Made.{Made}
use Rattle.job.specs.declared.reading.ReadJob.{ReadJob}
use Rattle.plan.specs.Sets.{Numbered}
use Rattle.plan.specs.Plan.{padded, plan_of}
use Rattle.plan.specs.declared.tables.Plan.{Plan as PlanR}
use Rattle.plan.proofs.Plans.{sound_numbered}
use Rattle.walk.specs.Stands.{Stands}
use Rattle.walk.specs.Ran.{Ran, ended_of}
use Rattle.walk.specs.declared.state.Ended.{Ended}
use Rattle.walk.specs.declared.state.Ending.{Ending}
use Rattle.walk.specs.declared.state.Ending.TheVariants.{Complete, Stopped, Full}
use Rattle.ground.specs.Answer.{answer_of, grounded}
use Rattle.ground.specs.Shape.{shape_of}

module _ (made : Made) (cells index : List ℕ) where
  abbrev J : Job
  J = job_of made cells index

  pub made_stands : Stands J made.rule made.rows index cells
  unfolding rows_of tables_of row_of
  made_stands = record {
    rule_is = refl;
    rows_are = λ q h. get_or_tab (λ (p : ℕ). tab (get_or made.rows p 0) (row_of (get_or made.arities p 0) cells index p)) (length made.arities) q [] h;
  }

module _ (bytes : List ℕ) (r : ReadJob) (cells index : List ℕ) (read : reading_of r cells index ≡ reading bytes) where
  refused_is : (f : Refusal) → r.verdict ≡ Err f → reading bytes ≡ refused (number_of f.fault) f.place
  unfolding verdict_of
  refused_is f e = sym read ∙ ap (λ v. verdict_of v (job_of r.made cells index)) e

  pub refused_answer : (engine : Engine) (f : Refusal) (allowance : ℕ) (held : List ℕ) → r.verdict ≡ Err f → grounded (Err f) held ≡ ground_by engine bytes allowance held
  refused_answer engine f allowance held e = sym (ground_refused engine bytes (number_of f.fault) f.place (refused_is f e) allowance held)

  module _ (ok : r.verdict ≡ Ok tt) where
    accepted_is : reading bytes ≡ accepted (job_of r.made cells index)
    unfolding verdict_of
    accepted_is = sym read ∙ ap (λ v. verdict_of v (job_of r.made cells index)) ok

    sound : Sound (job_of r.made cells index)
    sound = accepted_sound bytes (job_of r.made cells index) accepted_is

    pub numbered : Numbered (rule_of r.made.rule)
    numbered = sound_numbered (job_of r.made cells index) sound

    pub accepted_answer : (engine : Engine) (allowance : ℕ) (held after : List ℕ) (ended : Ended)
        → ((J : Job) → Sound J → Stands J r.made.rule r.made.rows index cells → Ran J (engine J allowance (length held)) held (ended_of ended) after)
        → grounded (Ok ended) after ≡ ground_by engine bytes allowance held
    accepted_answer engine allowance held after ended searched =
        let q = searched (job_of r.made cells index) sound (made_stands r.made cells index) in
        (λ i. record { answer = q.answer i; cells = q.cells i }) ∙ sym (ground_accepted engine bytes (job_of r.made cells index) accepted_is allowance held)

    pub accepted_shape : (plan : PlanR) → plan ≡ plan_of (rule_of r.made.rule)
        → record { relevant = plan.relevant; relevants = plan.relevants; entry = plan.entry } ≡ shape_of (reading bytes)
    unfolding plan_of padded
    accepted_shape plan e = (λ i. record { relevant = (e i).relevant; relevants = (e i).relevants; entry = (e i).entry }) ∙ ap shape_of (sym accepted_is)

  pub refused_shape : (f : Refusal) → r.verdict ≡ Err f → shape_of (refused (number_of f.fault) f.place) ≡ shape_of (reading bytes)
  refused_shape f e = ap shape_of (sym (refused_is f e))

-- the answer that stands for the meaning's is one

faults : List Fault
faults = Long ∷ Cut ∷ Tag ∷ Group ∷ Limit ∷ Undeclared ∷ Length ∷ Range ∷ Unbound ∷ Unsafe ∷ Empty ∷ []

fault_is : (f : Fault) → get_or faults (number_of f - 1) Long ≡ f
unfolding faults
fault_is Long = refl
fault_is Cut = refl
fault_is Tag = refl
fault_is Group = refl
fault_is Limit = refl
fault_is Undeclared = refl
fault_is Length = refl
fault_is Range = refl
fault_is Unbound = refl
fault_is Unsafe = refl
fault_is Empty = refl

back : Answer → Result Ended Refusal
back (refusal number place) = Err (record { fault = get_or faults (number - 1) Long; place = place })
back (ran complete entries tests) = Ok (record { ending = Complete; entries = entries; tests = tests })
back (ran stopped entries tests) = Ok (record { ending = Stopped; entries = entries; tests = tests })
back (ran full entries tests) = Ok (record { ending = Full; entries = entries; tests = tests })

ended_back : (ending : Ending) (entries tests : ℕ) → let e : Ended = record { ending = ending; entries = entries; tests = tests } in back (ended_of e) ≡ Ok e
unfolding back
ended_back Complete entries tests = refl
ended_back Stopped entries tests = refl
ended_back Full entries tests = refl

back_is : (a : Result Ended Refusal) → back (answer_of a) ≡ a
unfolding back
back_is (Ok e) = ended_back e.ending e.entries e.tests
back_is (Err r) = ap (λ (f : Fault). Err (record { fault = f; place = r.place })) (fault_is r.fault)

-- Two results that the promise of `ground_by` allows, of `ground` and of `plain_ground`, are equal, and so are the cells.
pub one_answer : (engine : Engine) (bytes : List ℕ) (allowance : ℕ) (held : List ℕ) (a b : Result Ended Refusal) (after later : List ℕ)
    → grounded a after ≡ ground_by engine bytes allowance held → grounded b later ≡ ground_by engine bytes allowance held → (a ≡ b) × (after ≡ later)
one_answer engine bytes allowance held a b after later p q =
    let e = p ∙ sym q in
    (sym (back_is a) ∙ ap (λ (g : Grounded). back g.answer) e ∙ back_is b, ap (λ (g : Grounded). g.cells) e)
