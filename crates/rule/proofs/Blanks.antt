-- What stands behind the last value of a list.
use Rattle.std.proofs.Common.{◌≡◌, ℕ, ◌+◌, ◌-◌, ◌<◌, List, length, drop, set, replicate, refl, arith, drop-set-lt, drop-drop}
use Rattle.std.proofs.lemmas.List.{drop-replicate}

-- a value more leaves one blank fewer
pub one_fewer : {X : Type 0} (xs : List X) (n N : ℕ) (x d : X) → drop n xs ≡ replicate (N - n) d → drop (n + 1) (set xs n x) ≡ replicate (N - (n + 1)) d
one_fewer xs n N x d e =
    let one : N - n - 1 ≡ N - (n + 1) = omega arith in
    rw (drop-set-lt (n + 1) xs n x (omega arith), ← drop-drop 1 n xs, e, drop-replicate 1 (N - n) d, one) refl
