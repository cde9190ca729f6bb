-- The document's number and values for each case of the answer, and the engines.
use Rattle.std.specs.Prelude.{ℕ, List, Result, Ok, Err}
use Rattle.meaning.specs.Plain.{plain_search}
use Rattle.meaning.specs.Walk.{walk}
use Rattle.meaning.specs.Ground.{Answer, refusal, Grounded, Engine}
use Rattle.job.specs.Fault.{number_of}
use Rattle.job.specs.declared.fault.Refusal.{Refusal}
use Rattle.walk.specs.Ran.{ended_of}
use Rattle.walk.specs.declared.state.Ended.{Ended}
use Rattle.ground.specs.declared.Engine.{Engine as EngineR}
use Rattle.ground.specs.declared.Engine.TheVariants.{Walk, Plain}

abbrev pub answer_of : Result Ended Refusal → Answer
answer_of (Ok ended) = ended_of ended
answer_of (Err refused) = refusal (number_of refused.fault) refused.place

-- an answer and the list's cells after it
abbrev pub grounded : Result Ended Refusal → List ℕ → Grounded
grounded a cells = record { answer = answer_of a; cells = cells }

-- the engine that is asked for
abbrev pub engine_of : EngineR → Engine
engine_of Walk = walk
engine_of Plain = plain_search
