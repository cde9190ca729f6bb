-- The cells filled by adding up, and weighed from the last on.
use Rattle.std.proofs.Common.{◌≡◌, ℕ, suc, ◌+◌, ◌*◌, ◌%◌, ◌^◌, List, [], ◌∷◌, refl, sym, ap, ◌∙◌, suc-mul, arith}
use Rattle.std.specs.List.{fold, sum}
use Rattle.std.specs.Prelude.{reverse}
use Rattle.std.proofs.lemmas.Grind.{fold-append}
use Rattle.std.proofs.lemmas.List.{reverse-append}
use Rattle.std.proofs.lemmas.List.Sums.{sum_by-cons}
use native.Mathlib.Nat.{mod-add-mod, add-mod}
use Rattle.cases.specs.Cells.{cell_before, weight_from}

pub before_first : 12345 ≡ cell_before 0
unfolding cell_before
before_first = refl

pub before_next : (i cell next : ℕ) → cell ≡ cell_before i → next ≡ (cell + 2654435761) % 2 ^ 32 → next ≡ cell_before (i + 1)
unfolding cell_before
before_next i cell next e q =
    q ∙ ap (λ (n : ℕ). (n + 2654435761) % 2 ^ 32) e ∙ mod-add-mod (i * 2654435761 + 12345) (2 ^ 32) 2654435761 ∙ ap (λ (n : ℕ). n % 2 ^ 32) (omega arith)

sum_cons : (cell : ℕ) (cells : List ℕ) → sum (cell ∷ cells) ≡ cell + sum cells
sum_cons cell cells = sum_by-cons (λ (x : ℕ). x) cell cells

-- one more for each number: every cell once more
weight_suc : (cells : List ℕ) (i : ℕ) → weight_from (suc i) cells ≡ weight_from i cells + sum cells
unfolding weight_from
weight_suc [] i = refl
weight_suc (cell ∷ cells) i = omega (arith, suc-mul (suc i) cell, weight_suc cells (suc i), sum_cons cell cells)

weight_cons : (cell : ℕ) (cells : List ℕ) → weight_from 0 cells + sum (cell ∷ cells) ≡ weight_from 0 (cell ∷ cells)
unfolding weight_from
weight_cons cell cells = omega (arith, suc-mul 0 cell, weight_suc cells 0, sum_cons cell cells)

-- a cell joins those behind it, whose sum and weight are told
abbrev pub step : ℕ × ℕ → ℕ → ℕ × ℕ
step told cell = ((told.0 + cell) % 2 ^ 32, (told.1 + (told.0 + cell) % 2 ^ 32) % 2 ^ 32)

step_is : (cell : ℕ) (cells : List ℕ) → step (sum cells % 2 ^ 32, weight_from 0 cells % 2 ^ 32) cell ≡ (sum (cell ∷ cells) % 2 ^ 32, weight_from 0 (cell ∷ cells) % 2 ^ 32)
step_is cell cells =
    let later : (sum cells % 2 ^ 32 + cell) % 2 ^ 32 ≡ sum (cell ∷ cells) % 2 ^ 32 = mod-add-mod (sum cells) (2 ^ 32) cell ∙ ap (λ (n : ℕ). n % 2 ^ 32) (omega (arith, sum_cons cell cells)) in
    let weight : (weight_from 0 cells % 2 ^ 32 + sum (cell ∷ cells) % 2 ^ 32) % 2 ^ 32 ≡ weight_from 0 (cell ∷ cells) % 2 ^ 32 = sym (add-mod (weight_from 0 cells) (sum (cell ∷ cells)) (2 ^ 32)) ∙ ap (λ (n : ℕ). n % 2 ^ 32) (weight_cons cell cells) in
    rw (later, weight) refl

pub weighed : (cells : List ℕ) → fold step (0, 0) (reverse cells) ≡ (sum cells % 2 ^ 32, weight_from 0 cells % 2 ^ 32)
unfolding weight_from
weighed [] = refl
weighed (cell ∷ cells) = rw (reverse-append (cell ∷ []) cells, fold-append step (0, 0) (reverse cells) (cell ∷ []), weighed cells) (step_is cell cells)
