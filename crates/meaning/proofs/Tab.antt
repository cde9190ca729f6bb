-- Laws of `tab`, which match a loop over an array's first cells: a search, a fill, and the list of those that pass.
use Prim.Native.Nat.{ℕ, zero, suc, ◌+◌, ◌≤◌, ◌<◌}
use mathlib.Core.Path.{◌≡◌, refl, sym, ap, ◌∙◌}
use mathlib.Core.Bool.{Bool, true, false, ◌||◌}
use mathlib.Core.Logic.{⊎_elim, inl, inr}
use mathlib.Core.List.Memᴰ
use mathlib.Core.List.{List, [], ◌∷◌, ◌++◌, append-nil, append_assoc, flat_map, Memᴰ}
use native.Mathlib.Nat.{eq-or-lt_of_le, add-zero, le_of_suc-le-suc}
use native.Mathlib.Numerals.{add-one}
use native.Mathlib.Decide.{ℕ_discrete}
use native.Mathlib.Omega.{arith}
use lib.ListN.{get_or, get_or-append, get_or-eq_default, length, length-append, length-set, set, take}
use lib.Seq.{ext_get_or, take-append-le, take-suc-set, take_all, get_or_at, get_or-set_same, get_or-set_other}
use Rattle.meaning.specs.Basics.{tab, any, keep, from}
use Rattle.meaning.proofs.Basics.{split}

pub or_true : (b : Bool) → b || true ≡ true
or_true true = refl
or_true false = refl

pub or_false : (b : Bool) → b || false ≡ b
or_false true = refl
or_false false = refl

pub or_assoc : (a b c : Bool) → (a || b) || c ≡ a || (b || c)
or_assoc true b c = refl
or_assoc false b c = refl

pub any_append : {A : Type 0} (f : A → Bool) (xs ys : List A) → any f (xs ++ ys) ≡ any f xs || any f ys
any_append f [] ys = refl
any_append f (x ∷ xs) ys = ap (λ (b : Bool). f x || b) (any_append f xs ys) ∙ sym (or_assoc (f x) (any f xs) (any f ys))

module _ {A : Type 0} (f : ℕ → A) where
  pub length_tab : (n : ℕ) → length (tab n f) ≡ n
  unfolding tab
  length_tab zero = refl
  length_tab (suc n) = simp length-append (omega (arith, length_tab n))

  pub get_or_tab : (n i : ℕ) (d : A) → i < n → get_or (tab n f) i d ≡ f i
  unfolding tab
  get_or_tab zero i d h = absurd (omega arith)
  get_or_tab (suc n) i d h =
      ⊎_elim
      (λ e. rw e (get_or_at (tab n f) (f n) [] d n (length_tab n)))
      (λ l. get_or-append (tab n f) (f n ∷ []) d i (omega (arith, length_tab n)) ∙ get_or_tab n i d l)
      (eq-or-lt_of_le (omega arith))

-- a search: F holds of a list if it holds of one of its elements
module _ {A : Type 0} (F : List A → Bool) (none : F [] ≡ false) (join : (xs ys : List A) → F (xs ++ ys) ≡ F xs || F ys) (f : ℕ → A) where
  pub search_none : F (tab 0 f) ≡ false
  unfolding tab
  search_none = none

  pub search_more : (i : ℕ) → F (tab i f) ≡ false → F (f i ∷ []) ≡ false → F (tab (i + 1) f) ≡ false
  unfolding tab
  search_more i p q = rw (add-one, join (tab i f) (f i ∷ []), p, q) refl

  pub search_hit : (n i : ℕ) → i < n → F (f i ∷ []) ≡ true → F (tab n f) ≡ true
  unfolding tab
  search_hit zero i h q = absurd (omega arith)
  search_hit (suc n) i h q =
      ⊎_elim
      (λ e. rw (join (tab n f) (f n ∷ []), rw e at q) (or_true (F (tab n f))))
      (λ l. rw (join (tab n f) (f n ∷ []), search_hit n i l q) refl)
      (eq-or-lt_of_le (omega arith))

-- a search by a test
module _ {A : Type 0} (g : A → Bool) (f : ℕ → A) where
  any_nil : any g [] ≡ false
  any_nil = refl

  any_one : (x : A) → any g (x ∷ []) ≡ g x
  any_one x = or_false (g x)

  pub any_none : any g (tab 0 f) ≡ false
  any_none = search_none (any g) any_nil (any_append g) f

  pub any_more : (i : ℕ) → any g (tab i f) ≡ false → g (f i) ≡ false → any g (tab (i + 1) f) ≡ false
  any_more i p q = search_more (any g) any_nil (any_append g) f i p (any_one (f i) ∙ q)

  pub any_hit : (n i : ℕ) → i < n → g (f i) ≡ true → any g (tab n f) ≡ true
  any_hit n i h q = search_hit (any g) any_nil (any_append g) f n i h (any_one (f i) ∙ q)

pub get_or_past : {A : Type 0} (f : ℕ → A) (n i : ℕ) (d : A) → n ≤ i → get_or (tab n f) i d ≡ d
get_or_past f n i d h = get_or-eq_default (tab n f) d (omega (arith, length_tab f n))

-- numbers in a row

pub from_snoc : (c n : ℕ) → from n (suc c) ≡ from n c ++ ((n + c) ∷ [])
unfolding from
from_snoc zero n = rw add-zero refl
from_snoc (suc c) n = ap (λ (l : List ℕ). n ∷ l) (from_snoc c (suc n) ∙ ap (λ (k : ℕ). from (suc n) c ++ (k ∷ [])) (omega arith))

pub from_tab : (c n : ℕ) → from n c ≡ tab c (λ (i : ℕ). n + i)
unfolding tab from
from_tab zero n = refl
from_tab (suc c) n = from_snoc c n ∙ ap (λ (l : List ℕ). l ++ ((n + c) ∷ [])) (from_tab c n)

pub keep_append : (f : ℕ → Bool) (xs ys : List ℕ) → keep f (xs ++ ys) ≡ keep f xs ++ keep f ys
keep_append f [] ys = refl
keep_append f (x ∷ xs) ys = elim (split (f x)) [
  | inl e ↦ rw (e, keep) (ap (λ (l : List ℕ). x ∷ l) (keep_append f xs ys))
  | inr e ↦ rw (e, keep) (keep_append f xs ys)
]

pub keep_yes : (f : ℕ → Bool) (v : ℕ) → f v ≡ true → keep f (v ∷ []) ≡ v ∷ []
keep_yes f v e = rw (e, keep) refl

pub keep_no : (f : ℕ → Bool) (v : ℕ) → f v ≡ false → keep f (v ∷ []) ≡ []
keep_no f v e = rw (e, keep) refl

-- filling an array
module _ {A : Type 0} (f : ℕ → A) where
  pub fill_none : [] ≡ tab 0 f
  unfolding tab
  fill_none = refl

  pub fill_more : (l : List A) (i : ℕ) (x : A) → i < length l → take i l ≡ tab i f → x ≡ f i → take (i + 1) (set l i x) ≡ tab (i + 1) f
  unfolding tab
  fill_more l i x h e q = rw (add-one, take-suc-set l i x h, e, q) refl

pub any_tab_elim : {A : Type 0} (g : A → Bool) (f : ℕ → A) (n : ℕ) → any g (tab n f) ≡ true → (i : ℕ) × (i < n) × (g (f i) ≡ true)
unfolding tab
any_tab_elim g f zero e = absurd (clash e)
  where
    clash : false ≡ true → ⊥
    clash z = let y : ◌≡◌ {A = ℕ} 0 1 = cc in omega arith
any_tab_elim g f (suc n) e = elim (split (any g (tab n f))) [
  | inl t ↦ let r = any_tab_elim g f n t in (r.0, omega arith, r.2)
  | inr t ↦ (n, omega arith, sym (any_append g (tab n f) (f n ∷ []) ∙ ap (λ (b : Bool). b || (g (f n) || false)) t ∙ or_false (g (f n))) ∙ e)
]

pub mem_tab : (n k : ℕ) → Memᴰ k (tab n (λ (i : ℕ). i)) → k < n
unfolding tab
mem_tab zero k at = absurd (Memᴰ.not-nil at)
mem_tab (suc n) k at = elim (Memᴰ.append_cases (tab n (λ (i : ℕ). i)) at) [
  | inl u ↦ omega (arith, mem_tab n k u)
  | inr u ↦ let e : k ≡ n = Memᴰ.eq_of_singleton u in omega arith
]

pub tab_mem : (n k : ℕ) → k < n → Memᴰ k (tab n (λ (i : ℕ). i))
unfolding tab
tab_mem zero k h = absurd (omega arith)
tab_mem (suc n) k h =
    ⊎_elim
    (λ e. Memᴰ.append_right (tab n (λ (i : ℕ). i)) (Memᴰ.head e))
    (λ l. Memᴰ.append_left (n ∷ []) (tab_mem n k l))
    (eq-or-lt_of_le (le_of_suc-le-suc h))

pub flat_map_append : (g : ℕ → List ℕ) (xs ys : List ℕ) → flat_map g (xs ++ ys) ≡ flat_map g xs ++ flat_map g ys
unfolding flat_map
flat_map_append g [] ys = refl
flat_map_append g (x ∷ xs) ys = ap (λ (l : List ℕ). g x ++ l) (flat_map_append g xs ys) ∙ sym (append_assoc (g x) (flat_map g xs) (flat_map g ys))

pub flat_map_one : (g : ℕ → List ℕ) (x : ℕ) → flat_map g (x ∷ []) ≡ g x
unfolding flat_map
flat_map_one g x = append-nil (g x)

pub take_tab : {A : Type 0} (f : ℕ → A) (n m : ℕ) → m ≤ n → take m (tab n f) ≡ tab m f
unfolding tab
take_tab f zero m h = let z : m ≡ 0 = omega arith in rw z refl
take_tab f (suc n) m h =
    ⊎_elim
    (λ e. rw e (take_all (suc n) (tab n f ++ (f n ∷ [])) (simp length-append (omega (arith, length_tab f n)))))
    (λ l. take-append-le m (tab n f) (f n ∷ []) (omega (arith, length_tab f n)) ∙ take_tab f n m (le_of_suc-le-suc l))
    (eq-or-lt_of_le h)

pub tab_ext : {A : Type 0} (n : ℕ) (f g : ℕ → A) → ((i : ℕ) → i < n → f i ≡ g i) → tab n f ≡ tab n g
unfolding tab
tab_ext zero f g h = refl
tab_ext (suc n) f g h = rw (tab_ext n f g (λ i l. h i (omega arith)), h n (omega arith))

-- one more
pub tab_grow : {A : Type 0} (n : ℕ) (f g : ℕ → A) (a : A) → ((i : ℕ) → i < n → f i ≡ g i) → a ≡ f n → tab (n + 1) f ≡ tab n g ++ (a ∷ [])
unfolding tab
tab_grow n f g a h e = rw (add-one, tab_ext n f g h, e)

-- one changed
pub tab_set : {A : Type 0} (n p : ℕ) (f g : ℕ → A) (a : A) → p < n → a ≡ f p → ((i : ℕ) → i < n → (i ≡ p → ⊥) → f i ≡ g i) → tab n f ≡ set (tab n g) p a
tab_set n p f g a l e h =
    ext_get_or a (tab n f) (set (tab n g) p a)
    (length_tab f n ∙ sym (length-set (tab n g) p a ∙ length_tab g n))
    (λ i k. at i (rw (length_tab f n) at k) (ℕ_discrete i p))
  where
    at : (i : ℕ) → i < n → Dec (i ≡ p) → get_or (tab n f) i a ≡ get_or (set (tab n g) p a) i a
    at i k (yes q) = rw q (get_or_tab f n p a l ∙ sym e ∙ sym (get_or-set_same (tab n g) p a a (rw (length_tab g n) l)))
    at i k (no q) = get_or_tab f n i a k ∙ h i k q ∙ sym (get_or-set_other (tab n g) p i a a q ∙ get_or_tab g n i a k)
