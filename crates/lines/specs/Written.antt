-- A text in a buffer that may have too little room for it.
use Rattle.std.specs.Prelude.{ℕ, min, ◌≡◌, List, ◌++◌, length, take, drop}

-- the text is written over a buffer from the start, as far as it has room; later bytes keep what they held; so many bytes are written
pub record Written (text buffer filled : List ℕ) (count : ℕ) : Type 0 where
  pub bytes : filled ≡ take (length buffer) text ++ drop (length text) buffer
  pub many : count ≡ min (length text) (length buffer)
