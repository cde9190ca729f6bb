-- The terms in the bytes, and the terms that the code makes of them.
use Prim.Native.Nat.{ℕ, zero, suc, ◌+◌, ◌*◌}
use mathlib.Core.Path.{◌≡◌, refl, ap, ◌∙◌}
use mathlib.Core.Bool.{Bool, true, false, cond}
use mathlib.Core.List.{List, [], ◌∷◌, ◌++◌, map}
use lib.Dec.{eqb}
use Rattle.meaning.specs.Basics.{tab}
use Rattle.meaning.specs.Job.{number, variable, Comparison, less_than, before, negated, comparison, positive, test}
use Rattle.meaning.specs.Reading.{byte_at, be32, term_at, terms_at, literal_in, comparison_in, head_in}
use Rattle.meaning.proofs.Basics.{map_append}
use Rattle.rule.specs.declared.Term.TheVariants.{Number, Variable}
use Rattle.rule.specs.declared.Test.TheVariants.{Negated}
use Rattle.rule.specs.declared.Kind.TheVariants.{Positive, Test}
use Rattle.rule.specs.Rule.{term_of, terms_of, test_of, item_of, head_of}
use Rattle.job.specs.Progress.{term_from, terms_from, item_from, head_from, literal_from, comparison_from}

pub term_is : (s : List ℕ) (i : ℕ) → term_of (term_from s i) ≡ term_at s i
unfolding term_of term_at
term_is s i = go (eqb (byte_at s i) 0)
  where
    go : (b : Bool) → term_of (cond b (Number (be32 s (i + 1))) (Variable (be32 s (i + 1)))) ≡ elim b [ true ↦ number (be32 s (i + 1)) | false ↦ variable (be32 s (i + 1)) ]
    go true = refl
    go false = refl

pub terms_are : (s : List ℕ) (i n : ℕ) → map term_of (terms_from s i n) ≡ terms_at s i n
unfolding tab
terms_are s i zero = refl
terms_are s i (suc n) =
    map_append term_of (terms_from s i n) (term_from s (i + 5 * n) ∷ []) ∙ (λ k. terms_are s i n k ++ (term_is s (i + 5 * n) k ∷ []))

pub head_is : (s : List ℕ) (at n : ℕ) → head_of (head_from s at n) ≡ head_in s at n
unfolding terms_of
head_is s at n = rw (terms_are s (at + 4) n)

pub literal_is : (s : List ℕ) (at n : ℕ) → item_of (literal_from s at n) ≡ literal_in s at n
unfolding literal_in item_of test_of terms_of
literal_is s at n = go (eqb (byte_at s (at + 3)) 0)
  where
    go : (b : Bool) → item_of (item_from s (cond b Positive (Test Negated)) (byte_at s (at + 4)) (at + 5) n)
        ≡ elim b [ true ↦ positive (byte_at s (at + 4)) (terms_at s (at + 5) n) | false ↦ test (negated (byte_at s (at + 4))) (terms_at s (at + 5) n) ]
    go true = ap (positive (byte_at s (at + 4))) (terms_are s (at + 5) n)
    go false = ap (test (negated (byte_at s (at + 4)))) (terms_are s (at + 5) n)

pub comparison_is : (k : Comparison) (s : List ℕ) (at : ℕ) → item_of (comparison_from k s at) ≡ comparison_in k s at
unfolding item_of test_of terms_of
comparison_is less_than s at = ap (test (comparison less_than)) (terms_are s (at + 3) 2)
comparison_is before s at = ap (test (comparison before)) (terms_are s (at + 3) 2)
