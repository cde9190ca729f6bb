-- What the walk lists is the document's list: rows that fit at each position are supports of valid choices.
use mathlib.Core.Path.{◌≡◌, refl, sym, ap, ◌∙◌, subst}
use mathlib.Core.Logic.{◌⊎◌, inl, inr}
use mathlib.Core.List.Memᴰ
use mathlib.Core.List.{List, [], ◌∷◌, map, Memᴰ}
use Prim.Native.Nat.{ℕ, zero, suc, ◌<◌}
use native.Mathlib.Nat.{le_of_suc-le-suc, not-suc-le-zero}
use native.Mathlib.Omega.{arith}
use lib.ListN.{length, get_or}
use lib.Dec.{T, eqb, eqb→eq}
use Rattle.meaning.specs.Basics.{in?}
use Rattle.meaning.specs.Job.{Term, number, variable, Item, positive, test, Job, vars_of, vars, holds, binder, no_item, size, item_at, rows_of, Safe}
use Rattle.meaning.specs.Relevant.{Choice, fill, Lower, Instance, Rises, Holds, Valid, relevant, cut, Supports, Listing}
use Rattle.meaning.specs.Rows.{Rows, row_at, cell, laid, value, values, fits_item, fits, count_item, count}
use Rattle.meaning.specs.List.{Entry, complete, stopped, full, support, instance_of}
use Rattle.meaning.specs.Walk.{Turn, due, ended, start, steps, stop, walk}
use Rattle.meaning.proofs.Basics.{split, is_T, mem_in, map_mem, mem_map, get_or_mem, mem_get_or, same→eq, eq→same, map_same, complete≢stopped, complete≢full}
use Rattle.meaning.proofs.Local.{item_local, bound, relevant_bound}
use Rattle.meaning.proofs.Jump.{Agree, AllGood}
use Rattle.meaning.proofs.Order.{Before, Known, Rising, Listed}
use Rattle.meaning.proofs.Walk.{Fine, walk_fine}

-- a cell of a literal that is filled in
cell_fill : (θ : Choice) (ts : List Term) (v : ℕ) → T (in? v (vars_of ts)) → cell ts (map (fill θ) ts) v ≡ θ v
unfolding in? vars_of cell fill
cell_fill θ [] v t = absurd t
cell_fill θ (number n ∷ ts) v t = cell_fill θ ts v t
cell_fill θ (variable w ∷ ts) v t =
    elim (split (eqb v w)) [
      | inl e ↦ rw (e, cell) (ap θ (sym (eqb→eq v w (is_T e))))
      | inr e ↦ rw (e, cell) (cell_fill θ ts v (rw e at t))
    ]

-- rows at the positive literals, spread over the body
unfoldable spread : List Item → List ℕ → List ℕ
spread [] u = []
spread (positive p ts ∷ b) [] = 0 ∷ spread b []
spread (positive p ts ∷ b) (r ∷ u) = r ∷ spread b u
spread (test k ts ∷ b) u = 0 ∷ spread b u

-- the order of rows, at the head of a list

shift : (x y : ℕ) (xs ys : List ℕ) (n : ℕ) → x ≡ y → Before (row_at xs) (row_at ys) n → Before (row_at (x ∷ xs)) (row_at (y ∷ ys)) (suc n)
shift x y xs ys n e be = (suc be.0, omega (arith, be.1), agree, be.3)
  where
    agree : (i : ℕ) → i < suc be.0 → row_at (x ∷ xs) i ≡ row_at (y ∷ ys) i
    agree zero h = e
    agree (suc i) h = be.2 i (le_of_suc-le-suc h)

unshift : (x y : ℕ) (xs ys : List ℕ) (n : ℕ) → Before (row_at (x ∷ xs)) (row_at (y ∷ ys)) (suc n) → (x < y) ⊎ ((x ≡ y) × Before (row_at xs) (row_at ys) n)
unshift x y xs ys n be = go be.0 be.1 be.2 be.3
  where
    go : (j : ℕ) → j < suc n → Agree (row_at (x ∷ xs)) (row_at (y ∷ ys)) j → row_at (x ∷ xs) j < row_at (y ∷ ys) j → (x < y) ⊎ ((x ≡ y) × Before (row_at xs) (row_at ys) n)
    go zero h a l = inl l
    go (suc j) h a l = inr (a 0 (omega arith), (j, le_of_suc-le-suc h, (λ i k. a (suc i) (omega arith)), l))

module _ (J : Job) where
  -- an item that fits by a row holds, and one that holds fits by some row

  fit_holds : (x : Item) (r : ℕ) (θ : Choice) → r < count_item J x → T (fits_item J x r θ) → Holds J θ x
  unfolding fits_item count_item
  fit_holds (positive p ts) r θ h t = Memᴰ.cast (same→eq (map (fill θ) ts) (get_or (rows_of J p) r []) t) (get_or_mem (rows_of J p) r [] h)
  fit_holds (test k ts) r θ h t = t

  holds_fit : (x : Item) (θ : Choice) → Holds J θ x → (r : ℕ) × (r < count_item J x) × T (fits_item J x r θ)
  unfolding fits_item count_item
  holds_fit (positive p ts) θ h = let q = mem_get_or (rows_of J p) (map (fill θ) ts) [] h in (q.0, q.1, eq→same (map (fill θ) ts) (get_or (rows_of J p) q.0 []) (sym q.2))
  holds_fit (test k ts) θ h = (0, omega arith, h)

  -- each item of b fits by its row, under θ
  abbrev Fits : Choice → List Item → List ℕ → Type 0
  Fits θ [] rs = Unit {0}
  Fits θ (x ∷ b) [] = ⊥
  Fits θ (x ∷ b) (r ∷ rs) = (r < count_item J x) × T (fits_item J x r θ) × Fits θ b rs

  fits_at : (θ : Choice) (b : List Item) (rs : List ℕ) → Fits θ b rs → (i : ℕ) → i < length b → (row_at rs i < count_item J (get_or b i no_item)) × T (fits_item J (get_or b i no_item) (row_at rs i) θ)
  fits_at θ [] rs f i h = absurd (not-suc-le-zero h)
  fits_at θ (x ∷ b) [] f i h = absurd f
  fits_at θ (x ∷ b) (r ∷ rs) f zero h = (f.0, f.1)
  fits_at θ (x ∷ b) (r ∷ rs) f (suc i) h = fits_at θ b rs f.2 i (le_of_suc-le-suc h)

  at_fits : (θ : Choice) (b : List Item) (rs : List ℕ) → length rs ≡ length b → ((i : ℕ) → i < length b → (row_at rs i < count_item J (get_or b i no_item)) × T (fits_item J (get_or b i no_item) (row_at rs i) θ)) → Fits θ b rs
  at_fits θ [] rs e h = tt
  at_fits θ (x ∷ b) [] e h = absurd (omega arith)
  at_fits θ (x ∷ b) (r ∷ rs) e h = ((h 0 (omega arith)).0, (h 0 (omega arith)).1, at_fits θ b rs (omega arith) (λ i l. h (suc i) (omega arith)))

  -- supports, and rows that fit

  supports_fit : (θ : Choice) (b : List Item) (u : List ℕ) → ((x : Item) → Memᴰ x b → Holds J θ x) → Supports J θ b u → Fits θ b (spread b u)
  unfolding spread fits_item count_item
  supports_fit θ [] [] h s = tt
  supports_fit θ [] (r ∷ u) h s = absurd s
  supports_fit θ (positive p ts ∷ b) [] h s = absurd s
  supports_fit θ (positive p ts ∷ b) (r ∷ u) h s = (s.0, eq→same (map (fill θ) ts) (get_or (rows_of J p) r []) (sym s.1), supports_fit θ b u (λ x at. h x (Memᴰ.tail at)) s.2)
  supports_fit θ (test k ts ∷ b) u h s = (omega arith, h (test k ts) (Memᴰ.head refl), supports_fit θ b u (λ x at. h x (Memᴰ.tail at)) s)

  fit_supports : (θ : Choice) (b : List Item) (rs : List ℕ) → length rs ≡ length b → Fits θ b rs → Supports J θ b (support b rs)
  unfolding support fits_item count_item
  fit_supports θ [] rs e f = tt
  fit_supports θ (x ∷ b) [] e f = absurd f
  fit_supports θ (positive p ts ∷ b) (r ∷ rs) e f = (f.0, sym (same→eq (map (fill θ) ts) (get_or (rows_of J p) r []) f.1), fit_supports θ b rs (omega arith) f.2)
  fit_supports θ (test k ts ∷ b) (r ∷ rs) e f = fit_supports θ b rs (omega arith) f.2

  -- a valid choice has rows
  chosen : (θ : Choice) (b : List Item) → ((x : Item) → Memᴰ x b → Holds J θ x) → (rs : List ℕ) × Fits θ b rs
  chosen θ [] h = ([], tt)
  chosen θ (x ∷ b) h =
      let q = holds_fit x θ (h x (Memᴰ.head refl)) in
      let r = chosen θ b (λ y at. h y (Memᴰ.tail at)) in
      (q.0 ∷ r.0, (q.1, q.2, r.1))

  -- the two orders are one

  lower_before : (θ : Choice) (b : List Item) (u rs : List ℕ) → Fits θ b rs → Lower u (support b rs) → Before (row_at (spread b u)) (row_at rs) (length b)
  unfolding spread support count_item
  lower_before θ [] [] rs f l = absurd l
  lower_before θ [] (x ∷ u) rs f l = absurd l
  lower_before θ (x ∷ b) u [] f l = absurd f
  lower_before θ (positive p ts ∷ b) [] (r ∷ rs) f l = absurd l
  lower_before θ (positive p ts ∷ b) (x ∷ u) (r ∷ rs) f l =
      elim l [
        | inl k ↦ (0, omega arith, (λ i h. absurd (omega arith)), k)
        | inr k ↦ shift x r (spread b u) rs (length b) k.0 (lower_before θ b u rs f.2 k.1)
      ]
  lower_before θ (test k ts ∷ b) u (r ∷ rs) f l = shift 0 r (spread b u) rs (length b) (omega (arith, f.0)) (lower_before θ b u rs f.2 l)

  before_lower : (θ η : Choice) (b : List Item) (rs qs : List ℕ) → Fits θ b rs → Fits η b qs → Before (row_at rs) (row_at qs) (length b) → Lower (support b rs) (support b qs)
  unfolding support count_item
  before_lower θ η [] rs qs f g be = absurd (omega (arith, be.1))
  before_lower θ η (x ∷ b) [] qs f g be = absurd f
  before_lower θ η (x ∷ b) (r ∷ rs) [] f g be = absurd g
  before_lower θ η (positive p ts ∷ b) (r ∷ rs) (q ∷ qs) f g be =
      elim (unshift r q rs qs (length b) be) [
        | inl l ↦ inl l
        | inr k ↦ inr (k.0, before_lower θ η b rs qs f.2 g.2 k.1)
      ]
  before_lower θ η (test k ts ∷ b) (r ∷ rs) (q ∷ qs) f g be =
      elim (unshift r q rs qs (length b) be) [
        | inl l ↦ absurd (omega (arith, g.0))
        | inr k ↦ before_lower θ η b rs qs f.2 g.2 k.1
      ]

  -- rows that fit under θ give θ's values

  laid_value : (x : Item) (r v : ℕ) (θ : Choice) → T (holds v x) → T (fits_item J x r θ) → laid J x r v ≡ θ v
  unfolding holds laid fits_item
  laid_value (positive p ts) r v θ h t = ap (λ (l : List ℕ). cell ts l v) (sym (same→eq (map (fill θ) ts) (get_or (rows_of J p) r []) t)) ∙ cell_fill θ ts v h
  laid_value (test k ts) r v θ h t = absurd h

  binder_value : (b : List Item) (v : ℕ) → binder b v < length b → (r : ℕ) (θ : Choice) → T (fits_item J (get_or b (binder b v) no_item) r θ) → laid J (get_or b (binder b v) no_item) r v ≡ θ v
  unfolding binder
  binder_value [] v h r θ t = absurd (not-suc-le-zero h)
  binder_value (x ∷ b) v h r θ t =
      elim (split (holds v x)) [
        | inl e ↦ rw (e, binder) (laid_value x r v θ (is_T e) (rw (e, binder) at t))
        | inr e ↦ rw (e, binder) (binder_value b v (le_of_suc-le-suc (rw (e, binder) at h)) r θ (rw (e, binder) at t))
      ]

  abbrev GoodBy : Choice → Rows → Type 0
  GoodBy θ s = (i : ℕ) → i < size J.rule → (s i < count_item J (item_at J.rule i)) × T (fits_item J (item_at J.rule i) (s i) θ)

  value_is : (θ : Choice) (s : Rows) → GoodBy θ s → (v : ℕ) → binder J.rule.body v < size J.rule → value J s v ≡ θ v
  unfolding value item_at
  value_is θ s g v h = binder_value J.rule.body v h (s (binder J.rule.body v)) θ (g (binder J.rule.body v) h).1

  fits_good : (θ : Choice) (rs : List ℕ) → Fits θ J.rule.body rs → GoodBy θ (row_at rs)
  unfolding item_at
  fits_good θ rs f = fits_at θ J.rule.body rs f

  good_fits : (rs : List ℕ) → length rs ≡ size J.rule → AllGood J (row_at rs) → Fits (value J (row_at rs)) J.rule.body rs
  unfolding fits count item_at
  good_fits rs e v = at_fits (value J (row_at rs)) J.rule.body rs e v

  good_valid : (s : Rows) → AllGood J s → Valid J (value J s)
  unfolding fits count item_at
  good_valid s v x at =
      let k = mem_get_or J.rule.body x no_item at in
      let g = v k.0 k.1 in
      subst (Holds J (value J s)) k.2 (fit_holds (get_or J.rule.body k.0 no_item) (s k.0) (value J s) g.0 g.1)

  module _ (safe : Safe J.rule) where
    good_by_good : (θ : Choice) (s : Rows) → GoodBy θ s → AllGood J s
    unfolding fits count
    good_by_good θ s g i h = (
      (g i h).0,
      subst T (item_local J (item_at J.rule i) (s i) (s i) θ (value J s) refl
          (λ v at. sym (value_is θ s g v (let q = bound J.rule safe i v h (mem_in v (vars (item_at J.rule i)) at) in omega arith)))) (g i h).1,
    )

    good_by_values : (θ : Choice) (s : Rows) → GoodBy θ s → values J s ≡ cut J.rule θ
    unfolding values
    good_by_values θ s g = map_same (value J s) θ (relevant J.rule) (λ v at. value_is θ s g v (relevant_bound J.rule safe v at))

    values_cut : (s : Rows) → values J s ≡ cut J.rule (value J s)
    unfolding values
    values_cut s = refl

    rises : (es : List Entry) → ((e : Entry) → Memᴰ e es → Fits (value J (row_at e.rows)) J.rule.body e.rows) → Rising J es → Rises (map (instance_of J) es)
    rises [] f r = tt
    rises (e ∷ es) f r = (
      (λ x at. let w = mem_map (instance_of J) es x at in
          subst (λ (z : Instance). Lower (support J.rule.body e.rows) z.support) (sym w.2)
          (before_lower (value J (row_at e.rows)) (value J (row_at w.0.rows)) J.rule.body e.rows w.0.rows (f e (Memᴰ.head refl)) (f w.0 (Memᴰ.tail w.1)) (r.0 w.0 w.1))),
      rises es (λ g at. f g (Memᴰ.tail at)) r.1,
    )

    -- a list in order, with every instance, is the document's
    pub listed_listing : (es : List Entry) → Listed J es → ((s : Rows) → AllGood J s → Known J es (values J s)) → Listing J (map (instance_of J) es)
    listed_listing es l all = record {
      each = λ x at. let w = mem_map (instance_of J) es x at in
          subst (λ (z : Instance). (θ : Choice) × Valid J θ × Supports J θ J.rule.body z.support × (z.values ≡ cut J.rule θ)) (sym w.2) (
            value J (row_at w.0.rows),
            good_valid (row_at w.0.rows) (l.good w.0 w.1),
            fit_supports (value J (row_at w.0.rows)) J.rule.body w.0.rows (l.wide w.0 w.1) (fit w.0 w.1),
            values_cut (row_at w.0.rows),
          );
      covers = λ θ v. let c = chosen θ J.rule.body v in
          let g = fits_good θ c.0 c.1 in
          let k = all (row_at c.0) (good_by_good θ (row_at c.0) g) in
          (instance_of J k.0, map_mem (instance_of J) es k.0 k.1, k.2 ∙ good_by_values θ (row_at c.0) g);
      first = λ x at θ v u s q lo. let w = mem_map (instance_of J) es x at in
          let g = fits_good θ (spread J.rule.body u) (supports_fit θ J.rule.body u v s) in
          l.first w.0 w.1 (row_at (spread J.rule.body u)) (good_by_good θ (row_at (spread J.rule.body u)) g)
          (good_by_values θ (row_at (spread J.rule.body u)) g ∙ q ∙ ap (λ (z : Instance). z.values) w.2)
          (lower_before (value J (row_at w.0.rows)) J.rule.body u w.0.rows (fit w.0 w.1) (subst (λ (z : Instance). Lower u z.support) w.2 lo));
      rises = rises es fit l.rising;
    }
      where
        fit : (e : Entry) → Memᴰ e es → Fits (value J (row_at e.rows)) J.rule.body e.rows
        fit e at = good_fits e.rows (l.wide e at) (l.good e at)

    fine_listing : (x : Turn) → Fine J safe x → (stop x).ending ≡ complete → Listing J (map (instance_of J) (stop x).entries)
    unfolding stop
    fine_listing (due st) f e = absurd (complete≢stopped (sym e))
    fine_listing (ended complete t es) f e = listed_listing es f.0 f.1
    fine_listing (ended stopped t es) f e = absurd (complete≢stopped (sym e))
    fine_listing (ended full t es) f e = absurd (complete≢full (sym e))

    -- a complete walk lists the document's list
    pub complete_listing : (a lent : ℕ) → (walk J a lent).ending ≡ complete → Listing J (map (instance_of J) (walk J a lent).entries)
    unfolding walk
    complete_listing a lent e = fine_listing (steps J lent a (start J lent)) (walk_fine J safe lent a) e

    fine_wide : (x : Turn) → Fine J safe x → (e : Entry) → Memᴰ e (stop x).entries → length e.rows ≡ size J.rule
    unfolding stop
    fine_wide (due st) f = f.0.listing.wide
    fine_wide (ended complete t es) f = f.0.wide
    fine_wide (ended stopped t es) f = f.wide
    fine_wide (ended full t es) f = f.wide

    pub entries_wide : (a lent : ℕ) (e : Entry) → Memᴰ e (walk J a lent).entries → length e.rows ≡ size J.rule
    unfolding walk
    entries_wide a lent = fine_wide (steps J lent a (start J lent)) (walk_fine J safe lent a)
