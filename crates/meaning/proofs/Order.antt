-- The list in the walk: rows in their order, what is listed so far, and that it comes before the cursor.
use mathlib.Core.Path.{◌≡◌, refl, sym, ap, ◌∙◌, subst}
use mathlib.Core.Bool.{false}
use mathlib.Core.Logic.{◌⊎◌, inl, inr}
use mathlib.Core.List.Memᴰ
use mathlib.Core.List.{List, [], ◌∷◌, ◌++◌, Memᴰ}
use Prim.Native.Nat.{ℕ, suc, ◌≤◌, ◌<◌}
use native.Mathlib.Omega.{arith}
use lib.ListN.{length}
use lib.Dec.{T}
use Rattle.meaning.specs.Basics.{same}
use Rattle.meaning.specs.Job.{Job, size}
use Rattle.meaning.specs.Rows.{Rows, row_at, values}
use Rattle.meaning.specs.List.{Entry, listed}
use Rattle.meaning.proofs.Basics.{not_T, lt_or_le, any_mem, mem_any, same→eq, eq→same}
use Rattle.meaning.proofs.Enlist.{with}
use Rattle.meaning.proofs.Jump.{Agree, AllGood, Cover}

-- s comes before t, by the first position before n where they differ
abbrev pub Before : Rows → Rows → ℕ → Type 0
Before s t n = (i : ℕ) × (i < n) × Agree s t i × (s i < t i)

module _ (J : Job) where
  -- these values are in the list
  abbrev pub Known : List Entry → List ℕ → Type 0
  Known es vs = (e : Entry) × Memᴰ e es × (values J (row_at e.rows) ≡ vs)

  abbrev pub Rising : List Entry → Type 0
  Rising [] = Unit {0}
  Rising (e ∷ es) = ((f : Entry) → Memᴰ f es → Before (row_at e.rows) (row_at f.rows) (size J.rule)) × Rising es

  -- ORDER: what holds of the list at any time
  pub record Listed (es : List Entry) : Type 0 where
    pub wide : (e : Entry) → Memᴰ e es → length e.rows ≡ size J.rule
    pub good : (e : Entry) → Memᴰ e es → AllGood J (row_at e.rows)
    pub first : (e : Entry) → Memᴰ e es → (s : Rows) → AllGood J s → values J s ≡ values J (row_at e.rows) → Before s (row_at e.rows) (size J.rule) → ⊥
    pub rising : Rising es

  pub listed_none : Listed []
  listed_none = record {
    wide = λ e at. absurd (Memᴰ.not-nil at);
    good = λ e at. absurd (Memᴰ.not-nil at);
    first = λ e at. absurd (Memᴰ.not-nil at);
    rising = tt;
  }

  rising_snoc : (es : List Entry) (e : Entry) → Rising es → ((f : Entry) → Memᴰ f es → Before (row_at f.rows) (row_at e.rows) (size J.rule)) → Rising (es ++ (e ∷ []))
  rising_snoc [] e r h = ((λ f at. absurd (Memᴰ.not-nil at)), tt)
  rising_snoc (g ∷ es) e r h = (
    (λ f at. elim (Memᴰ.append_cases es at) [
      | inl u ↦ r.0 f u
      | inr u ↦ subst (λ (x : Entry). Before (row_at g.rows) (row_at x.rows) (size J.rule)) (sym (Memᴰ.eq_of_singleton u)) (h g (Memᴰ.head refl))
    ]),
    rising_snoc es e r.1 (λ f at. h f (Memᴰ.tail at)),
  )

  -- all of the list comes before a
  abbrev pub Past : List Entry → Rows → ℕ → Type 0
  Past es a p = (e : Entry) → Memᴰ e es → Before (row_at e.rows) a p

  abbrev pub AtOrPast : List Entry → Rows → ℕ → Type 0
  AtOrPast es a p = (e : Entry) → Memᴰ e es → Agree (row_at e.rows) a p ⊎ Before (row_at e.rows) a p

  -- a position p is entered, and left when its rows have run out: b agrees with a before it

  pub enter_past : (a b : Rows) (p : ℕ) → Agree b a p → (es : List Entry) → Past es a p → Past es b (suc p)
  enter_past a b p stay es past e at =
      let be = past e at in
      (be.0, omega (arith, be.1), (λ i h. be.2 i h ∙ sym (stay i (omega (arith, be.1)))), subst (λ (x : ℕ). row_at e.rows be.0 < x) (sym (stay be.0 be.1)) be.3)

  pub leave_past : (a b : Rows) (p : ℕ) → Agree b a p → (es : List Entry) → Past es b (suc p) → AtOrPast es a p
  leave_past a b p stay es past e at = let be = past e at in elim (lt_or_le be.0 p) [
    | inl k ↦ inr (be.0, k, (λ i h. be.2 i h ∙ stay i (omega arith)), subst (λ (x : ℕ). row_at e.rows be.0 < x) (stay be.0 k) be.3)
    | inr k ↦ inl (λ i h. be.2 i (omega arith) ∙ stay i h)
  ]

  -- once the cursor has moved on from a to b, at a position t before p, all that was at or before it is before it
  pub move_past : (a b : Rows) (t p : ℕ) → t < p → Agree b a t → b t ≡ suc (a t) → (es : List Entry) → AtOrPast es a p → Past es b (suc t)
  move_past a b t p l stay step es past e at =
      elim (past e at) [
        | inl ag ↦ (t, omega arith, (λ i h. ag i (omega arith) ∙ sym (stay i h)), (let q = ag t l in omega arith))
        | inr be ↦ elim (lt_or_le be.0 t) [
          | inl z ↦ (be.0, omega arith, (λ i h. be.2 i h ∙ sym (stay i (omega arith))), (let q = stay be.0 z in omega (arith, be.3)))
          | inr z ↦ (t, omega arith, (λ i h. be.2 i (omega arith) ∙ sym (stay i h)), under be z)
        ]
      ]
    where
      under : (be : Before (row_at e.rows) a p) → t ≤ be.0 → row_at e.rows t < b t
      under be z =
          elim (lt_or_le t be.0) [
            | inl y ↦ let q = be.2 t y in omega arith
            | inr y ↦ let q : be.0 ≡ t = omega arith in let w = subst (λ (x : ℕ). row_at e.rows x < a x) q be.3 in omega arith
          ]

  pub listed_known : (vs : List ℕ) (es : List Entry) → T (listed J vs es) → Known es vs
  unfolding listed
  listed_known vs es t = let r = any_mem (λ (e : Entry). same (values J (row_at e.rows)) vs) es t in (r.0, r.1, same→eq _ _ r.2)

  known_listed : (vs : List ℕ) (es : List Entry) → Known es vs → T (listed J vs es)
  unfolding listed
  known_listed vs es k = mem_any (λ (e : Entry). same (values J (row_at e.rows)) vs) es k.0 k.1 (eq→same _ _ k.2)

  -- a whole choice whose values are new is listed in its place
  listed_snoc : (es : List Entry) (e : Entry) → Listed es → length e.rows ≡ size J.rule → AllGood J (row_at e.rows) → Past es (row_at e.rows) (size J.rule)
      → ((s : Rows) → AllGood J s → values J s ≡ values J (row_at e.rows) → Before s (row_at e.rows) (size J.rule) → ⊥) → Listed (es ++ (e ∷ []))
  listed_snoc es e l len v past new = record {
    wide = λ f at. elim (Memᴰ.append_cases es at) [ inl q ↦ l.wide f q | inr q ↦ ap (λ (x : Entry). length x.rows) (Memᴰ.eq_of_singleton q) ∙ len ];
    good = λ f at. elim (Memᴰ.append_cases es at) [ inl q ↦ l.good f q | inr q ↦ subst (λ (x : Entry). AllGood J (row_at x.rows)) (sym (Memᴰ.eq_of_singleton q)) v ];
    first = λ f at. elim (Memᴰ.append_cases es at) [
      | inl q ↦ l.first f q
      | inr q ↦ subst (λ (x : Entry). (s : Rows) → AllGood J s → values J s ≡ values J (row_at x.rows) → Before s (row_at x.rows) (size J.rule) → ⊥) (sym (Memᴰ.eq_of_singleton q)) new
    ];
    rising = rising_snoc es e l.rising past;
  }

  -- with a new whole choice, which comes after all that is listed

  module _ (es : List Entry) (tests : ℕ) (rows : List ℕ) where
    pub known_with : {vs : List ℕ} → Known es vs → Known (with es tests rows) vs
    known_with k = (k.0, Memᴰ.append_left (record { tests = tests; rows = rows } ∷ []) k.1, k.2)

    pub known_new : Known (with es tests rows) (values J (row_at rows))
    known_new = (record { tests = tests; rows = rows }, Memᴰ.append_right es (Memᴰ.head refl), refl)

    pub past_with : Past es (row_at rows) (size J.rule) → AtOrPast (with es tests rows) (row_at rows) (size J.rule)
    past_with past f at = elim (Memᴰ.append_cases es at) [
      | inl q ↦ inr (past f q)
      | inr q ↦ inl (λ i h. ap (λ (x : Entry). row_at x.rows i) (Memᴰ.eq_of_singleton q))
    ]

    pub listed_with : Listed es → length rows ≡ size J.rule → AllGood J (row_at rows) → Past es (row_at rows) (size J.rule) → Cover J (row_at rows) (Known es) (size J.rule)
        → listed J (values J (row_at rows)) es ≡ false → Listed (with es tests rows)
    listed_with l len good past cover e = listed_snoc es (record { tests = tests; rows = rows }) l len good past
        (λ s u w be. let k = cover s u be.0 be.1 be.2 be.3 in not_T e (known_listed (values J (row_at rows)) es (k.0, k.1, k.2 ∙ w)))
