-- The lister's output, from document 01, case 2. A text is a list of bytes. Read it beside that case.
use Rattle.std.specs.Prelude.{ℕ, zero, suc, ◌+◌, ◌/◌, ◌%◌, true, false, List, [], ◌∷◌, ◌++◌, ltb, take, drop, Result, Ok, Err, codes}
use Rattle.job.specs.Fault.{number_of}
use Rattle.job.specs.declared.fault.Refusal.{Refusal}
use Rattle.walk.specs.declared.state.Ended.{Ended}
use Rattle.walk.specs.declared.state.Ending.{Ending}
use Rattle.walk.specs.declared.state.Ending.TheVariants.{Complete, Stopped, Full}

-- the words
abbrev pub vars : List ℕ
vars = codes "vars"

abbrev pub refused : List ℕ
refused = codes "refused"

abbrev pub word_of : Ending → List ℕ
word_of Complete = codes "complete"
word_of Stopped = codes "stopped"
word_of Full = codes "full"

-- n in decimal, where it has at most `more` digits before its last
unfoldable pub digits : ℕ → ℕ → List ℕ
digits zero n = (48 + n) ∷ []
digits (suc more) n = elim (ltb n 10) [ true ↦ (48 + n) ∷ [] | false ↦ digits more (n / 10) ++ ((48 + n % 10) ∷ []) ]

-- n in decimal, with no zeros in front
unfoldable pub decimal : ℕ → List ℕ
decimal n = digits n n

-- each number after one space
unfoldable pub spaced : List ℕ → List ℕ
spaced [] = []
spaced (n ∷ ns) = (32 ∷ decimal n) ++ spaced ns

-- a line ends with byte 10
unfoldable pub line : List ℕ → List ℕ
line text = text ++ (10 ∷ [])

-- an entry's line: "its cells", one space between them
unfoldable pub entry_line : List ℕ → List ℕ
entry_line [] = line []
entry_line (cell ∷ cells) = line (decimal cell ++ spaced cells)

-- "Then an entry a line": n entries of so many cells each, from the start of the cells on
unfoldable pub entry_lines : ℕ → ℕ → List ℕ → List ℕ
entry_lines zero size cells = []
entry_lines (suc n) size cells = entry_line (take size cells) ++ entry_lines n size (drop size cells)

-- "Line 1: relevant variables (`vars` by itself where there are none). Then an entry a line, its cells. Last: ending, entries, tests."
unfoldable pub run_lines : Ended → List ℕ → ℕ → List ℕ → List ℕ
run_lines ended relevant size cells =
    line (vars ++ spaced relevant) ++ entry_lines ended.entries size cells ++ line (word_of ended.ending ++ spaced (ended.entries ∷ ended.tests ∷ []))

-- the text for an answer, by the relevant variables, the cells of an entry and the list's cells: "A refused job prints only `refused`, number, place."
unfoldable pub lines_of : Result Ended Refusal → List ℕ → ℕ → List ℕ → List ℕ
lines_of (Ok ended) relevant size cells = run_lines ended relevant size cells
lines_of (Err refusal) relevant size cells = line (refused ++ spaced (number_of refusal.fault ∷ refusal.place ∷ []))
