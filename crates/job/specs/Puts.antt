-- Storing a run of values.
use Rattle.std.specs.Prelude.{ℕ, zero, suc, ◌+◌, List, set}

-- l with f 0 to f (n - 1) stored from `to` on
unfoldable pub puts : {A : Type 0} → List A → ℕ → ℕ → (ℕ → A) → List A
puts l to zero f = l
puts l to (suc n) f = set (puts l to n f) (to + n) (f n)
