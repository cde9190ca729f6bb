-- The wrapped difference decides before on the counter.
use Rattle.std.proofs.Common.{◌≡◌, ℕ, ◌+◌, ◌-◌, ◌%◌, ◌<◌, ◌≤◌, leb, refl, ap, arith, le-leb}
use borrow.Author.Tests.{lt-leb}
use Rattle.meaning.specs.Counter.{counter, reach, ahead, before?}

-- what `wrapping_sub` gives
abbrev pub wrapped : ℕ → ℕ → ℕ
wrapped a b = (b + (counter - a)) % counter

module _ (a b : ℕ) (h : a < counter) where
  wrapped_is : ahead a b ≡ wrapped a b
  unfolding ahead
  wrapped_is = ap (λ (n : ℕ). n % counter) (omega arith)

  pub none_ahead : wrapped a b < 1 → leb 1 (wrapped a b) ≡ before? a b
  unfolding before?
  none_ahead l = rw (wrapped_is, lt-leb 1 (wrapped a b) l) refl

  pub some_ahead : 1 ≤ wrapped a b → leb (wrapped a b) reach ≡ before? a b
  unfolding before?
  some_ahead l = rw (wrapped_is, le-leb 1 (wrapped a b) l) refl
