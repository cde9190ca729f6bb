-- Lists and tests that compute.
use Rattle.std.specs.Prelude.{Bool, true, false, ◌&&◌, List, [], ◌∷◌, ◌++◌, ℕ, zero, suc, eqb}
use Rattle.std.specs.List.{filter, list_any}

-- f 0 to f (n - 1)
unfoldable pub tab : {A : Type 0} → ℕ → (ℕ → A) → List A
tab zero f = []
tab (suc n) f = tab n f ++ (f n ∷ [])

-- one of the list passes the test
abbrev pub any : {A : Type 0} → (A → Bool) → List A → Bool
any = list_any

-- n is in the list
unfoldable pub in? : ℕ → List ℕ → Bool
in? n ns = any (eqb n) ns

-- the two are equal
unfoldable pub same : List ℕ → List ℕ → Bool
same [] [] = true
same [] (y ∷ ys) = false
same (x ∷ xs) [] = false
same (x ∷ xs) (y ∷ ys) = eqb x y && same xs ys

-- those that pass the test
abbrev pub keep : (ℕ → Bool) → List ℕ → List ℕ
keep = filter

-- the c numbers from n on
unfoldable pub from : ℕ → ℕ → List ℕ
from n zero = []
from n (suc c) = n ∷ from (suc n) c
