-- The laws of "before on the counter".
use mathlib.Core.Path.{◌≡◌, sym, ap, ◌∙◌}
use mathlib.Core.Logic.{◌⊎◌, inl, inr, ◌↔◌}
use Prim.Native.Nat.{ℕ, ◌+◌, ◌-◌, ◌%◌, ◌≤◌, ◌<◌}
use native.Mathlib.Nat.{add_comm, add-mod_right, mod-add-mod, mod-eq_of_lt, mod-lt}
use native.Mathlib.Omega.{arith}
use lib.Dec.{T, leb, leb→le, le→leb}
use Rattle.meaning.specs.Counter.{counter, reach, ahead, Before, before?}
use Rattle.meaning.proofs.Basics.{and_i, and_l, and_r, lt_or_le}

pub before_is : (a b : ℕ) → T (before? a b) ↔ Before a b
unfolding before?
before_is a b =
    let low = leb 1 (ahead a b) in
    let high = leb (ahead a b) reach in (
      λ t. (leb→le 1 (ahead a b) (and_l low high t), leb→le (ahead a b) reach (and_r low high t)),
      λ h. and_i low high (le→leb 1 (ahead a b) h.0) (le→leb (ahead a b) reach h.1),
    )

-- b minus a, by which of the two is greater

ahead_up : (a b : ℕ) → a ≤ b → b < counter → ahead a b ≡ b - a
unfolding ahead
ahead_up a b h l =
    let e : (b + counter) - a ≡ (b - a) + counter = omega arith in
    ap (λ (k : ℕ). k % counter) e ∙ add-mod_right (b - a) counter ∙ mod-eq_of_lt (omega arith)

ahead_down : (a b : ℕ) → b < a → ahead a b ≡ (b + counter) - a
unfolding ahead
ahead_down a b h = mod-eq_of_lt (omega arith)

-- what a wrapped difference is: the number of the counter that comes from a round to b
pub ahead_is : (r a b : ℕ) → r < counter → a < counter → (r + a) % counter ≡ b → r ≡ ahead a b
ahead_is r a b hr ha e =
    elim (lt_or_le (r + a) counter) [
      | inl l ↦ let f : r + a ≡ b = sym (mod-eq_of_lt l) ∙ e in omega (arith, ahead_up a b (omega arith) (omega arith))
      | inr l ↦
          let x : ℕ = (r + a) - counter in
          let f : r + a ≡ x + counter = omega arith in
          let g : x ≡ b = sym (mod-eq_of_lt (omega arith)) ∙ sym (add-mod_right x counter) ∙ ap (λ (k : ℕ). k % counter) (sym f) ∙ e in
          omega (arith, ahead_down a b (omega arith))
    ]

-- nothing is before itself
pub never_itself : (a : ℕ) → a < counter → Before a a → ⊥
never_itself a l h = omega (arith, ahead_up a a (omega arith) l, h.0)

module _ (a b : ℕ) (ha : a < counter) (hb : b < counter) where
  -- from a to b and on to a is once round the counter
  round : (a ≡ b → ⊥) → (ahead a b + ahead b a ≡ counter) × (1 ≤ ahead a b) × (1 ≤ ahead b a)
  round n = elim (lt_or_le a b) [
    | inl l ↦ let p = ahead_up a b (omega arith) hb in let q = ahead_down b a l in (omega arith, omega arith, omega arith)
    | inr l ↦ let p = ahead_up b a l ha in let q = ahead_down a b (omega (arith, n)) in (omega arith, omega (arith, n), omega (arith, n))
  ]

  differ : 1 ≤ ahead a b → a ≡ b → ⊥
  differ l e = omega (arith, ahead_up a b (omega arith) hb)

  -- of two that differ exactly one is before the other,
  pub one_before : (a ≡ b → ⊥) → (ahead a b ≡ reach + 1 → ⊥) → (Before a b × (Before b a → ⊥)) ⊎ (Before b a × (Before a b → ⊥))
  one_before n far =
      let r = round n in
      elim (lt_or_le reach (ahead a b)) [
        | inl m ↦ inr ((r.2, omega (arith, r.0, far)), λ h. omega (arith, h.1))
        | inr m ↦ inl ((r.1, m), λ h. omega (arith, r.0, h.1))
      ]

  -- but at the distance at which neither is
  pub neither_before : ahead a b ≡ reach + 1 → (Before a b → ⊥) × (Before b a → ⊥)
  neither_before far = (λ h. omega (arith, far, h.1), λ h. omega (arith, far, (round (differ (omega arith))).0, h.1))

  before_far : Before a b → reach < ahead b a
  before_far h = omega (arith, (round (differ h.0)).0, h.1)

-- as much lies between two times as between the numbers that the counter had then
ahead_times : (s t : ℕ) → s ≤ t → t ≤ s + reach → t - s ≡ ahead (s % counter) (t % counter)
ahead_times s t l near =
    let e : s + (t - s) ≡ t = omega arith in
    ahead_is (t - s) (s % counter) (t % counter) (omega arith) (mod-lt s (omega arith))
    (ap (λ (k : ℕ). k % counter) (add_comm (t - s) (s % counter)) ∙ mod-add-mod s counter (t - s) ∙ ap (λ (k : ℕ). k % counter) e)

-- of two times that are at most the reach apart the earlier is before the later,
pub rolls_over : (s t : ℕ) → s ≤ t + reach → t ≤ s + reach → Before (s % counter) (t % counter) ↔ (s < t)
rolls_over s t up down =
    let far = before_far (s % counter) (t % counter) (mod-lt s (omega arith)) (mod-lt t (omega arith)) in
    elim (lt_or_le s t) [
      | inl l ↦ let q = ahead_times s t (omega arith) down in (λ h. l, λ h. (omega (arith, q), omega (arith, q)))
      | inr l ↦ let q = ahead_times t s l up in (λ h. omega (arith, q, far h), λ h. absurd (omega arith))
    ]

-- so that less-than says the same where the counter has not rolled over
pub in_window : (a b : ℕ) → a < counter → b < counter → a ≤ b + reach → b ≤ a + reach → Before a b ↔ (a < b)
in_window a b ha hb up down = rw (mod-eq_of_lt ha, mod-eq_of_lt hb) at (rolls_over a b up down)
