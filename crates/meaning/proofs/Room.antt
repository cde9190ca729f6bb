-- More lent cells: a walk with room enough is never full, and one that is full has listed a beginning of what it lists with more.
use mathlib.Core.Path.{◌≡◌, refl, sym, ap, ◌∙◌, subst}
use mathlib.Core.Bool.{Bool}
use mathlib.Core.Logic.{◌⊎◌, inl, inr, ◌≢◌}
use mathlib.Core.List.{List, [], ◌∷◌}
use Prim.Native.Nat.{ℕ, zero, suc, ◌*◌, ◌≤◌, ◌<◌}
use native.Mathlib.Nat.{mul-le-mul_right}
use native.Mathlib.Omega.{arith}
use lib.ListN.{length, length-append}
use lib.Dec.{ltb}
use Rattle.meaning.specs.Job.{Job, size}
use Rattle.meaning.specs.Rows.{row_at, fits}
use Rattle.meaning.specs.List.{Entry, full, entry_size, Begins}
use Rattle.meaning.specs.Plain.{plain_count}
use Rattle.meaning.specs.Walk.{State, Turn, due, ended, fitted, tested, set_all, whole_choice, whole, enter, make_test, start, steps, stop, walk}
use Rattle.meaning.proofs.Basics.{split, begins_trans, begins_length}
use Rattle.meaning.proofs.Enlist.{with, NoRoom, one_more, full_many, Cut, roomier, same_list, no_longer}
use Rattle.meaning.proofs.Count.{tests_made}
use Rattle.meaning.proofs.Grow.{list_of, made_by, IsFull, stop_list, stop_made, stop_full, test_step, start_step, go_back_kept, steps_begins}

module _ (J : Job) where
  -- there are at most as many entries as tests, and one more; so with room for that many it is never full

  module _ (lent : ℕ) (h : suc (plain_count J) * entry_size J.rule ≤ lent) where
    -- so a walk that is full would have made more tests than the plain count
    steps_within : (a t : ℕ) (x : Turn) → made_by x ≡ t → length (list_of x) ≤ suc t → (IsFull x → plain_count J < t)
        → IsFull (steps J lent a x) → plain_count J < made_by (steps J lent a x)
    unfolding steps
    steps_within zero t x m l f q = subst (λ (n : ℕ). plain_count J < n) (sym m) (f q)
    steps_within (suc a) t (ended e t' es) m l f q = subst (λ (n : ℕ). plain_count J < n) (sym m) (f q)
    steps_within (suc a) t (due st) m l f q =
        let s = test_step J lent st in
        steps_within a (suc t) (make_test J lent st) (s.made ∙ ap suc m)
        (elim s.list [ inl e ↦ omega (arith, ap length e) | inr r ↦ omega (arith, ap length r.1, length-append st.entries (r.0 ∷ [])) ])
        (λ u. omega (arith, full_many J (plain_count J) lent h st.entries (s.over u))) q

    start_within : (a : ℕ) → IsFull (steps J lent a (start J lent)) → plain_count J < made_by (steps J lent a (start J lent))
    start_within a = let s = start_step J lent in steps_within a 0 (start J lent) s.made
        (elim s.list [ inl e ↦ omega (arith, ap length e) | inr r ↦ omega (arith, ap length r.1) ])
        (λ u. omega (arith, full_many J (plain_count J) lent h [] (s.over u)))

    pub never_full : (a : ℕ) → (walk J a lent).ending ≢ full
    unfolding walk
    never_full a q = omega (arith, start_within a (stop_full (steps J lent a (start J lent)) q), stop_made (steps J lent a (start J lent)), (tests_made J a lent).0)

  -- Two walks that differ in the lent cells alone: the same, or the first is full, its list is a beginning of the other's, and the other's does not fit.
  data Alike (lent : ℕ) : Turn → Turn → Type 0 where
    alike : {x : Turn} → Alike lent x x
    fuller : {t : ℕ} {es : List Entry} {y : Turn} → Begins es (list_of y) → lent < length (list_of y) * entry_size J.rule → Alike lent (ended full t es) y

  module _ (lent more : ℕ) (h : lent ≤ more) where
    whole_alike : (next : List ℕ) (marks : List Bool) (t : ℕ) (es : List Entry) → Alike lent (whole J lent next marks t es) (whole J more next marks t es)
    unfolding whole
    whole_alike next marks t es = elim (roomier J lent more h (fitted next) t es) [
      | same_list q ↦ rw (q, whole) alike
      | no_longer n q r ↦ rw (q, r, whole) (longer n (go_back_kept J whole_choice (size J.rule) next (set_all marks) t (with es t (fitted next))).list)
    ]
      where
        longer : {y : Turn} → NoRoom J lent es → list_of y ≡ with es t (fitted next) → Alike lent (ended full t es) y
        longer n q = fuller (record { tests = t; rows = fitted next } ∷ [], q)
            (subst (λ (l : List Entry). lent < length l * entry_size J.rule) (sym q) (omega (arith, one_more J es (record { tests = t; rows = fitted next }))))

    enter_alike : (p : ℕ) (next : List ℕ) (marks : List Bool) (t : ℕ) (es : List Entry) → Alike lent (enter J lent p next marks t es) (enter J more p next marks t es)
    unfolding enter
    enter_alike p next marks t es =
        elim (split (ltb p (size J.rule))) [
          | inl e ↦ rw (e, enter) alike
          | inr e ↦ rw (e, enter) (whole_alike next marks t es)
        ]

    test_alike : (st : State) → Alike lent (make_test J lent st) (make_test J more st)
    unfolding make_test
    test_alike st =
        elim (split (fits J st.position (row_at (fitted (tested st).next)))) [
          | inl e ↦ rw (e, make_test) (enter_alike (suc st.position) (tested st).next st.marks (suc st.tests) st.entries)
          | inr e ↦ rw (e, make_test) alike
        ]

    steps_alike : (a : ℕ) (x y : Turn) → Alike lent x y → Alike lent (steps J lent a x) (steps J more a y)
    unfolding steps
    steps_alike zero x y l = l
    steps_alike (suc a) (ended e t es) y alike = alike
    steps_alike (suc a) (due st) y alike = steps_alike a (make_test J lent st) (make_test J more st) (test_alike st)
    steps_alike (suc a) (ended e t es) y (fuller b l) =
        let g = steps_begins J more (suc a) y in
        fuller {y = steps J more (suc a) y} (begins_trans es (list_of y) (list_of (steps J more (suc a) y)) b g)
        (omega (arith, mul-le-mul_right {m = length (list_of y)} {n = length (list_of (steps J more (suc a) y))} (entry_size J.rule) (begins_length (list_of y) (list_of (steps J more (suc a) y)) g)))

    start_alike : Alike lent (start J lent) (start J more)
    unfolding start
    start_alike = enter_alike 0 [] [] 0 []

    stop_alike : (x y : Turn) → Alike lent x y → (stop x ≡ stop y) ⊎ Cut J lent (stop x) (stop y)
    unfolding stop
    stop_alike x y alike = inl refl
    stop_alike x y (fuller {es = es} b l) = inr (refl, subst (Begins es) (sym (stop_list y)) b, subst (λ (f : List Entry). lent < length f * entry_size J.rule) (sym (stop_list y)) l)

    pub more_cells : (a : ℕ) → (walk J a lent ≡ walk J a more) ⊎ Cut J lent (walk J a lent) (walk J a more)
    unfolding walk
    more_cells a = stop_alike (steps J lent a (start J lent)) (steps J more a (start J more)) (steps_alike a (start J lent) (start J more) start_alike)
