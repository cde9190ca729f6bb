-- The ways out of `field_at`, by the bytes from the field's tag on.
use Rattle.std.proofs.Common.{add-zero, ◌≡◌, ℕ, ◌+◌, ◌-◌, ◌*◌, ◌<◌, ◌≤◌, List, length, take, drop, None, Some, refl, ap, ◌∙◌, arith}
use Rattle.std.proofs.lemmas.List.{get_or-drop, take_all, length-drop, length-take-le}
use Rattle.std.specs.List.{slice_range}
use borrow.Author.Tests.{lt-ltb, le-ltb}
use Rattle.meaning.specs.Reading.{byte_at, length_at}
use Rattle.reader.specs.Field.{field_at}

module _ (s : List ℕ) (at : ℕ) where
  pub cut : length s < at + 3 → None ≡ field_at s at
  unfolding field_at
  cut h = rw (lt-ltb _ _ h)

  module _ (rest : List ℕ) (e : rest ≡ slice_range s at (length s)) (n : length rest + at ≡ length s) (three : 3 ≤ length rest) where
    rest_is : rest ≡ drop at s
    rest_is = e ∙ take_all _ _ (omega (arith, length-drop at s))

    byte_is : (i : ℕ) → byte_at rest i ≡ byte_at s (at + i)
    byte_is i = ap (λ (l : List ℕ). byte_at l i) rest_is ∙ get_or-drop at s i 0

    content_is : length (take (length rest - 3) (drop 3 rest)) + 3 ≡ length rest
    content_is = omega (arith, length-take-le (length rest - 3) (drop 3 rest) (omega (arith, length-drop 3 rest)))

    length_is : byte_at rest 1 * 256 + byte_at rest 2 ≡ length_at s at
    length_is = omega (arith, byte_is 1, byte_is 2, ap (byte_at s) (let h : (at + 1) + 1 ≡ at + 2 = omega arith in h))

    pub short : length (take (length rest - 3) (drop 3 rest)) < byte_at rest 1 * 256 + byte_at rest 2 → None ≡ field_at s at
    unfolding field_at
    short h = rw (le-ltb (length s) (at + 3) (omega arith), lt-ltb (length s) (at + 3 + length_at s at) (omega (arith, length_is, content_is))) refl

    pub whole : byte_at rest 1 * 256 + byte_at rest 2 ≤ length (take (length rest - 3) (drop 3 rest)) → Some (record { tag = byte_at rest 0; length = byte_at rest 1 * 256 + byte_at rest 2 }) ≡ field_at s at
    unfolding field_at
    whole h = rw (le-ltb (length s) (at + 3) (omega arith), le-ltb (length s) (at + 3 + length_at s at) (omega (arith, length_is, content_is)), length_is, byte_is 0, add-zero) refl
