-- Laws of `sum`.
use Prim.Native.Nat.{ℕ, zero, suc, ◌+◌, ◌<◌, ◌≤◌}
use mathlib.Core.Path.{◌≡◌, refl}
use mathlib.Core.Logic.{◌⊎◌, inl, inr}
use native.Mathlib.Omega.{arith}
use native.Mathlib.Nat.{eq-or-lt_of_le}
use native.Mathlib.Numerals.{add-one}
use Rattle.job.specs.Progress.{sum}

pub sum_ext : (n : ℕ) (f g : ℕ → ℕ) → ((i : ℕ) → i < n → f i ≡ g i) → sum n f ≡ sum n g
unfolding sum
sum_ext zero f g h = refl
sum_ext (suc n) f g h = rw (sum_ext n f g (λ i l. h i (omega arith)), h n (omega arith))

-- one more, which is 0
pub sum_grow : (n : ℕ) (f g : ℕ → ℕ) → ((i : ℕ) → i < n → f i ≡ g i) → f n ≡ 0 → sum (n + 1) f ≡ sum n g
unfolding sum
sum_grow n f g h e = rw (add-one, sum_ext n f g h, e) (omega arith)

-- one that is larger by 1
pub sum_set : (n q : ℕ) (f g : ℕ → ℕ) → q < n → f q ≡ g q + 1 → ((i : ℕ) → (i ≡ q → ⊥) → f i ≡ g i) → sum n f ≡ sum n g + 1
unfolding sum
sum_set zero q f g l e h = absurd (omega arith)
sum_set (suc n) q f g l e h = go (λ k. sum_set n q f g k e h) (eq-or-lt_of_le {n = q} {m = n} (omega arith))
  where
    go : (q < n → sum n f ≡ sum n g + 1) → (q ≡ n) ⊎ (q < n) → sum n f + f n ≡ sum n g + g n + 1
    go r (inl k) =
        let a : sum n f ≡ sum n g = sum_ext n f g (λ i j. h i (λ z. omega arith)) in
        let b : f n ≡ g n + 1 = rw k at e in
        omega arith
    go r (inr k) =
        let a : sum n f ≡ sum n g + 1 = r k in
        let b : f n ≡ g n = h n (λ z. omega arith) in
        omega arith

pub sum_part : (n q : ℕ) (f : ℕ → ℕ) → q < n → f q ≤ sum n f
unfolding sum
sum_part zero q f l = absurd (omega arith)
sum_part (suc n) q f l = go (sum_part n q f) (eq-or-lt_of_le {n = q} {m = n} (omega arith))
  where
    go : (q < n → f q ≤ sum n f) → (q ≡ n) ⊎ (q < n) → f q ≤ sum n f + f n
    go r (inl k) = rw k (omega arith)
    go r (inr k) = let a = r k in omega arith
