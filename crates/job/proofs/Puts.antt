-- Laws of `puts`.
use Prim.Native.Nat.{ℕ, zero, suc, ◌+◌, ◌<◌, ◌≤◌}
use mathlib.Core.Path.{◌≡◌, refl, ◌∙◌}
use mathlib.Core.List.{List}
use mathlib.Core.Logic.{◌⊎◌, inl, inr}
use native.Mathlib.Omega.{arith}
use native.Mathlib.Nat.{eq-or-lt_of_le}
use native.Mathlib.Numerals.{add-one}
use lib.ListN.{length, get_or, set, length-set}
use lib.Seq.{get_or-set_same, get_or-set_other}
use Rattle.job.specs.Puts.{puts}

module _ {A : Type 0} where
  pub puts_none : (l : List A) (to : ℕ) (f : ℕ → A) → l ≡ puts l to 0 f
  unfolding puts
  puts_none l to f = refl

  pub puts_more : (l : List A) (to n : ℕ) (f : ℕ → A) → puts l to (n + 1) f ≡ set (puts l to n f) (to + n) (f n)
  unfolding puts
  puts_more l to n f = rw add-one

  pub length_puts : (l : List A) (to n : ℕ) (f : ℕ → A) → length (puts l to n f) ≡ length l
  unfolding puts
  length_puts l to zero f = refl
  length_puts l to (suc n) f = length-set (puts l to n f) (to + n) (f n) ∙ length_puts l to n f

  pub get_or_puts_out : (l : List A) (to n i : ℕ) (f : ℕ → A) (d : A) → (i < to) ⊎ (to + n ≤ i) → get_or (puts l to n f) i d ≡ get_or l i d
  unfolding puts
  get_or_puts_out l to zero i f d h = refl
  get_or_puts_out l to (suc n) i f d (inl h) =
      get_or-set_other (puts l to n f) (to + n) i (f n) d (λ e. omega arith) ∙ get_or_puts_out l to n i f d (inl h)
  get_or_puts_out l to (suc n) i f d (inr h) =
      get_or-set_other (puts l to n f) (to + n) i (f n) d (λ e. omega arith) ∙ get_or_puts_out l to n i f d (inr (omega arith))

  pub get_or_puts_in : (l : List A) (to n k : ℕ) (f : ℕ → A) (d : A) → k < n → to + n ≤ length l → get_or (puts l to n f) (to + k) d ≡ f k
  unfolding puts
  get_or_puts_in l to zero k f d h r = absurd (omega arith)
  get_or_puts_in l to (suc n) k f d h r = go (λ q. get_or_puts_in l to n k f d q (omega arith)) (eq-or-lt_of_le {n = k} {m = n} (omega arith))
    where
      go : (k < n → get_or (puts l to n f) (to + k) d ≡ f k) → (k ≡ n) ⊎ (k < n) → get_or (set (puts l to n f) (to + n) (f n)) (to + k) d ≡ f k
      go rec (inl q) = rw q (get_or-set_same (puts l to n f) (to + n) (f n) d (rw (length_puts l to n f) (omega arith)))
      go rec (inr q) = get_or-set_other (puts l to n f) (to + n) (to + k) (f n) d (λ e. omega arith) ∙ rec q
