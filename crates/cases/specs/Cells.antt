-- The lent cells: what they hold before a run, and one number for all of them. Numbers wrap at 2 ^ 32.
use Rattle.std.specs.Prelude.{ℕ, suc, ◌+◌, ◌*◌, ◌%◌, ◌^◌, List, [], ◌∷◌}

-- what cell i holds before a run
unfoldable pub cell_before : ℕ → ℕ
cell_before i = (i * 2654435761 + 12345) % 2 ^ 32

-- cells from number i on: the sum of each times one more than its number
unfoldable pub weight_from : ℕ → List ℕ → ℕ
weight_from i [] = 0
weight_from i (cell ∷ cells) = suc i * cell + weight_from (suc i) cells

unfoldable pub weight : List ℕ → ℕ
weight cells = weight_from 0 cells % 2 ^ 32
