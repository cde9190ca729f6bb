-- Document 02, request 1/14: "Our millisecond counters start again at 0 after 4,294,967,295".
use Rattle.std.specs.Prelude.{Bool, ◌&&◌, ℕ, ◌+◌, ◌-◌, ◌%◌, ◌≤◌, leb}

-- how many numbers the counter has
abbrev pub counter : ℕ
counter = 4294967296

-- the greatest number of "from 1 to 2,147,483,647"
abbrev pub reach : ℕ
reach = 2147483647

-- "b minus a, taken round the counter"
unfoldable pub ahead : ℕ → ℕ → ℕ
ahead a b = ((b + counter) - a) % counter

-- "a is before b when b minus a, taken round the counter, is from 1 to 2,147,483,647"
abbrev pub Before : ℕ → ℕ → Type 0
Before a b = (1 ≤ ahead a b) × (ahead a b ≤ reach)

-- the same as a test that computes
unfoldable pub before? : ℕ → ℕ → Bool
before? a b = leb 1 (ahead a b) && leb (ahead a b) reach
