-- The limits of the lent arrays.
use Rattle.std.specs.Prelude.{ℕ}

-- the cells of all rows
abbrev pub cell_limit : ℕ
cell_limit = 4096

-- a number for each row that each predicate may have
abbrev pub index_limit : ℕ
index_limit = 16384
