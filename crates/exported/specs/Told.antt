-- An answer in three numbers, and the list's cells.
use Rattle.std.specs.Prelude.{ℕ, List}
use Rattle.meaning.specs.List.{Ending, complete, stopped, full}
use Rattle.meaning.specs.Ground.{Answer, refusal, ran, Grounded}

pub record Told : Type 0 where
  pub ending : ℕ
  pub first : ℕ
  pub second : ℕ
  pub cells : List ℕ

abbrev pub number_of : Ending → ℕ
number_of complete = 0
number_of stopped = 1
number_of full = 2

-- the number of an ending, or 3 for a refusal
abbrev pub ending_of : Answer → ℕ
ending_of (ran ending entries tests) = number_of ending
ending_of (refusal number place) = 3

-- the entries written, or a refusal's number
abbrev pub first_of : Answer → ℕ
first_of (ran ending entries tests) = entries
first_of (refusal number place) = number

-- the tests made, or a refusal's place
abbrev pub second_of : Answer → ℕ
second_of (ran ending entries tests) = tests
second_of (refusal number place) = place

abbrev pub told : ℕ → ℕ → ℕ → List ℕ → Told
told ending first second cells = record { ending = ending; first = first; second = second; cells = cells }

abbrev pub told_of : Grounded → Told
told_of g = told (ending_of g.answer) (first_of g.answer) (second_of g.answer) g.cells
