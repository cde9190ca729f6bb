-- The walk never makes more tests than the plain search. Nothing is asked of the job here.
use mathlib.Core.Path.{◌≡◌, refl, sym, ap, ◌∙◌, subst}
use mathlib.Core.Bool.{Bool, true, false}
use mathlib.Core.Logic.{inl, inr, ◌≢◌}
use mathlib.Core.List.{List, [], ◌∷◌, ◌++◌, append-nil}
use mathlib.Core.Option.{Option, none, some}
use Prim.Native.Nat.{ℕ, zero, suc, ◌+◌, ◌-◌, ◌≤◌, ◌<◌}
use native.Mathlib.Nat.{sub-zero}
use native.Mathlib.Omega.{arith}
use lib.ListN.{length, take, set, length-append, length-set}
use lib.Seq.{length-take-le, get_or-take, take-suc, take_all, take-suc-set, append_snoc}
use lib.Dec.{ltb}
use borrow.Author.Tests.{ltb-true, ltb-false}
use Rattle.meaning.specs.Job.{Job, size}
use Rattle.meaning.specs.Rows.{row_at, fits, count}
use Rattle.meaning.specs.List.{Entry, stopped, Searched}
use Rattle.meaning.specs.Plain.{sum, plain, plain_count}
use Rattle.meaning.specs.Walk.{State, Turn, due, ended, next_at, fitted, tested, set_all, After, whole_choice, binds, variables, ran_out, back, go_back, go_on, whole, enter, make_test, start, steps, stop, walk}
use Rattle.meaning.proofs.Basics.{split, map_append, complete≢stopped, stopped≢full}
use Rattle.meaning.proofs.Enlist.{enlisted, known, over, new}

-- a list of next rows, up to position p, by its last

last_of : (next : List ℕ) (p : ℕ) → length next ≡ suc p → next ≡ take p next ++ (next_at next p ∷ [])
last_of next p e = sym (take_all (suc p) next (omega arith)) ∙ take-suc next p 0 (omega arith)

set_last : (next : List ℕ) (p k : ℕ) → length next ≡ suc p → set next p k ≡ take p next ++ (k ∷ [])
set_last next p k e = sym (take_all (suc p) (set next p k) (omega (arith, length-set next p k))) ∙ take-suc-set next p k (omega arith)

module _ (J : Job) where
  -- what the plain search does with row k at position p
  unfoldable pub cost : ℕ → ℕ → List ℕ → ℕ → ℕ
  cost d p rows k = suc (elim (fits J p (row_at (rows ++ (k ∷ [])))) [ true ↦ plain J d (suc p) (rows ++ (k ∷ [])) | false ↦ 0 ])

  pub item_cost : (d p : ℕ) (rows : List ℕ) → plain J (suc d) p rows ≡ sum (cost d p rows) 0 (count J p)
  unfolding plain cost
  item_cost d p rows = refl

  module _ (d p : ℕ) (rows : List ℕ) (k : ℕ) where
    pub cost_fit : fits J p (row_at (rows ++ (k ∷ []))) ≡ true → cost d p rows k ≡ suc (plain J d (suc p) (rows ++ (k ∷ [])))
    unfolding cost
    cost_fit e = rw (e, cost) refl

    pub cost_fails : fits J p (row_at (rows ++ (k ∷ []))) ≡ false → cost d p rows k ≡ 1
    unfolding cost
    cost_fails e = rw (e, cost) refl

    pub cost_some : 0 < cost d p rows k
    unfolding cost
    cost_some = omega arith

  -- and with the rows there from k on
  unfoldable remaining : ℕ → List ℕ → ℕ → ℕ
  remaining p rows k = sum (cost (size J.rule - suc p) p rows) k (count J p - k)

  -- and with the next rows at every position
  unfoldable rest : ℕ → List ℕ → List ℕ → ℕ
  rest p rows [] = 0
  rest p rows (k ∷ next) = remaining p rows k + rest (suc p) (rows ++ ((k - 1) ∷ [])) next

  -- and once it enters position p
  unfoldable entering : ℕ → List ℕ → ℕ
  entering p rows = plain J (size J.rule - p) p rows

  rest_take : (n p : ℕ) (rows next : List ℕ) → rest p rows (take n next) ≤ rest p rows next
  unfolding rest
  rest_take zero p rows [] = omega arith
  rest_take zero p rows (k ∷ next) = omega arith
  rest_take (suc n) p rows [] = omega arith
  rest_take (suc n) p rows (k ∷ next) = omega (arith, rest_take n (suc p) (rows ++ ((k - 1) ∷ [])) next)

  rest_snoc : (next : List ℕ) (p : ℕ) (rows : List ℕ) (k q : ℕ) (sofar : List ℕ) → p + length next ≡ q → rows ++ fitted next ≡ sofar
      → rest p rows (next ++ (k ∷ [])) ≡ rest p rows next + remaining q sofar k
  unfolding rest
  rest_snoc [] p rows k q sofar e f = let z : p ≡ q = omega arith in let w : rows ≡ sofar = sym (append-nil rows) ∙ f in
      omega (arith, ap (λ (x : ℕ). remaining x rows k) z, ap (λ (x : List ℕ). remaining q x k) w)
  rest_snoc (m ∷ next) p rows k q sofar e f =
      omega (arith, rest_snoc next (suc p) (rows ++ ((m - 1) ∷ [])) k q sofar (omega arith) (append_snoc rows (m - 1) (fitted next) ∙ f))

  rest_last : (next : List ℕ) (p k : ℕ) → length next ≡ p → rest 0 [] (next ++ (k ∷ [])) ≡ rest 0 [] next + remaining p (fitted next) k
  rest_last next p k e = rest_snoc next 0 [] k p (fitted next) (omega arith) refl

  remaining_step : (p : ℕ) (rows : List ℕ) (k : ℕ) → k < count J p → remaining p rows k ≡ cost (size J.rule - suc p) p rows k + remaining p rows (suc k)
  unfolding remaining sum
  remaining_step p rows k h = let e : count J p - k ≡ suc (count J p - suc k) = omega arith in ap (sum (cost (size J.rule - suc p) p rows) k) e

  entering_remaining : (p : ℕ) (rows : List ℕ) → p < size J.rule → entering p rows ≡ remaining p rows 0
  unfolding entering remaining
  entering_remaining p rows h = let e : size J.rule - p ≡ suc (size J.rule - suc p) = omega arith in
      ap (λ (d : ℕ). plain J d p rows) e ∙ item_cost (size J.rule - suc p) p rows ∙ ap (sum (cost (size J.rule - suc p) p rows) 0) (omega arith)

  cost_fits : (p : ℕ) (rows : List ℕ) (k : ℕ) → fits J p (row_at (rows ++ (k ∷ []))) ≡ true → cost (size J.rule - suc p) p rows k ≡ suc (entering (suc p) (rows ++ (k ∷ [])))
  unfolding entering
  cost_fits p rows k = cost_fit (size J.rule - suc p) p rows k

  -- going back arrives where a row is left

  abbrev Goes : List ℕ → ℕ → Option ℕ → Type 0
  Goes next p none = Unit {0}
  Goes next p (some t) = (t < p) × (next_at next t < count J t)

  goes_suc : (next : List ℕ) (p : ℕ) (o : Option ℕ) → Goes next p o → Goes next (suc p) o
  goes_suc next p none g = g
  goes_suc next p (some t) g = (omega arith, g.1)

  back_goes : (next : List ℕ) (marks : List Bool) (vs : List ℕ) (p : ℕ) → Goes next p (back J next marks vs p)
  unfolding back
  back_goes next marks vs zero = tt
  back_goes next marks vs (suc p) =
      elim (split (binds J.rule vs p)) [
        | inl e ↦ elim (split (ltb (next_at next p) (count J p))) [
          | inl c ↦ rw (e, c, back) (omega arith, ltb-true _ _ c)
          | inr c ↦ rw (e, c, back) (goes_suc next p (back J next marks (variables J.rule (ran_out marks p) p) p) (back_goes next marks (variables J.rule (ran_out marks p) p) p))
        ]
        | inr e ↦ rw (e, back) (goes_suc next p (back J next marks vs p) (back_goes next marks vs p))
      ]

  -- COUNT: the tests made, t, and what the plain search has still to do come to at most the plain count
  record Due (t : ℕ) (st : State) : Type 0 where
    tests : st.tests ≡ t
    small : st.position < size J.rule
    len : length st.next ≡ suc st.position
    row : next_at st.next st.position < count J st.position
    enough : t + rest 0 [] st.next ≤ plain_count J

  abbrev Counted : ℕ → Turn → Type 0
  Counted t (due st) = Due t st
  Counted t (ended e t' es) = (t' ≡ t) × (t ≤ plain_count J) × (e ≢ stopped)

  module _ (t : ℕ) where
    go_back_counted : (after : After) (p : ℕ) (next : List ℕ) (marks : List Bool) (es : List Entry) → p ≤ size J.rule → p ≤ length next → t + rest 0 [] next ≤ plain_count J
        → Counted t (go_back J after p next marks t es)
    unfolding go_back
    go_back_counted after p next marks es small len h = go (back J next marks (variables J.rule after p) p) refl (back_goes next marks (variables J.rule after p) p)
      where
        go : (o : Option ℕ) → back J next marks (variables J.rule after p) p ≡ o → Goes next p o → Counted t (go_back J after p next marks t es)
        go none e g = rw (e, go_back) (refl, omega arith, λ q. complete≢stopped q)
        go (some q) e g = rw (e, go_back) (record {
          tests = refl;
          small = omega arith;
          len = length-take-le (suc q) next (omega arith);
          row = subst (λ (x : ℕ). x < count J q) (sym (get_or-take (suc q) next q 0 (omega arith))) g.1;
          enough = omega (arith, rest_take (suc q) 0 [] next);
        })

    go_on_counted : (st : State) → st.tests ≡ t → st.position < size J.rule → length st.next ≡ suc st.position → t + rest 0 [] st.next ≤ plain_count J → Counted t (go_on J st)
    unfolding go_on
    go_on_counted st e small len h =
        elim (split (ltb (next_at st.next st.position) (count J st.position))) [
          | inl c ↦ rw (c, go_on) (record { tests = e; small = small; len = len; row = ltb-true _ _ c; enough = h })
          | inr c ↦ rw (c, go_on, e) (go_back_counted _ st.position st.next st.marks st.entries (omega arith) (omega arith) h)
        ]

    module _ (lent : ℕ) where
      whole_counted : (next : List ℕ) (marks : List Bool) (es : List Entry) → size J.rule ≤ length next → t + rest 0 [] next ≤ plain_count J → Counted t (whole J lent next marks t es)
      unfolding whole
      whole_counted next marks es len h =
          elim (enlisted J lent (fitted next) t es) [
            | known u q ↦ rw (q, whole) (go_back_counted whole_choice (size J.rule) next (set_all marks) es (omega arith) len h)
            | over e n q ↦ rw (q, whole) (refl, omega arith, λ z. stopped≢full (sym z))
            | new e r q ↦ rw (q, whole) (go_back_counted whole_choice (size J.rule) next (set_all marks) _ (omega arith) len h)
          ]

      enter_counted : (p : ℕ) (next : List ℕ) (marks : List Bool) (es : List Entry) → p ≤ size J.rule → length next ≡ p → t + (rest 0 [] next + entering p (fitted next)) ≤ plain_count J
          → Counted t (enter J lent p next marks t es)
      unfolding enter
      enter_counted p next marks es small len h =
          elim (split (ltb p (size J.rule))) [
            | inl e ↦ rw (e, enter) (go_on_counted _ refl (ltb-true _ _ e) (omega (arith, length-append next (0 ∷ [])))
                (omega (arith, rest_last next p 0 len, entering_remaining p (fitted next) (ltb-true _ _ e))))
            | inr e ↦ rw (e, enter) (whole_counted next marks es (omega (arith, ltb-false p (size J.rule) e)) (omega arith))
          ]

  test_counted : (lent t : ℕ) (st : State) → Due t st → Counted (suc t) (make_test J lent st)
  unfolding make_test
  test_counted lent t st D =
      elim (split (fits J p (row_at (fitted next)))) [
        | inl e ↦ rw (e, make_test, D.tests) (enter_counted (suc t) lent (suc p) next st.marks st.entries D.small longer
            (omega (
              arith,
              D.enough,
              now,
              after,
              remaining_step p (fitted front) k D.row,
              cost_fits p (fitted front) k (sym (ap (λ (x : List ℕ). fits J p (row_at x)) rows) ∙ e),
              ap (entering (suc p)) rows,
            )))
        | inr e ↦ rw (e, make_test) (go_on_counted (suc t) (tested st) (ap suc D.tests) D.small longer
            (omega (arith, D.enough, now, after, remaining_step p (fitted front) k D.row, cost_some (size J.rule - suc p) p (fitted front) k)))
      ]
    where
      p : ℕ
      p = st.position

      k : ℕ
      k = next_at st.next p

      front : List ℕ
      front = take p st.next

      next : List ℕ
      next = (tested st).next

      longer : length next ≡ suc p
      longer = length-set st.next p (suc k) ∙ D.len

      short : length front ≡ p
      short = length-take-le p st.next (omega (arith, D.len))

      now : rest 0 [] st.next ≡ rest 0 [] front + remaining p (fitted front) k
      now = ap (rest 0 []) (last_of st.next p D.len) ∙ rest_last front p k short

      after : rest 0 [] next ≡ rest 0 [] front + remaining p (fitted front) (suc k)
      after = ap (rest 0 []) (set_last st.next p (suc k) D.len) ∙ rest_last front p (suc k) short

      rows : fitted next ≡ fitted front ++ (k ∷ [])
      rows = ap fitted (set_last st.next p (suc k) D.len) ∙ map_append (λ (x : ℕ). x - 1) front (suc k ∷ []) ∙ ap (λ (x : ℕ). fitted front ++ (x ∷ [])) (omega arith)

  -- a walk stopped has made all its tests, and the plain search would make more
  abbrev pub Made : ℕ → ℕ → Searched → Type 0
  Made t a r = (r.tests ≤ plain_count J) × (r.tests ≤ t + a) × (r.ending ≡ stopped → (r.tests ≡ t + a) × (r.tests < plain_count J))

  steps_made : (lent a t : ℕ) (x : Turn) → Counted t x → Made t a (stop (steps J lent a x))
  unfolding steps stop
  steps_made lent zero t (ended e t' es) c = (omega (arith, c.0, c.1), omega (arith, c.0), λ q. absurd (c.2 q))
  steps_made lent zero t (due st) c =
      (omega (arith, c.tests, c.enough), omega (arith, c.tests), λ q. (omega (arith, c.tests), omega (arith, c.tests, c.enough, left)))
    where
      left : 0 < rest 0 [] st.next
      left = omega (
        arith,
        ap (rest 0 []) (last_of st.next st.position c.len),
        rest_last (take st.position st.next) st.position (next_at st.next st.position) (length-take-le st.position st.next (omega (arith, c.len))),
        remaining_step st.position (fitted (take st.position st.next)) (next_at st.next st.position) c.row,
        cost_some (size J.rule - suc st.position) st.position (fitted (take st.position st.next)) (next_at st.next st.position),
      )
  steps_made lent (suc a) t (ended e t' es) c = (omega (arith, c.0, c.1), omega (arith, c.0), λ q. absurd (c.2 q))
  steps_made lent (suc a) t (due st) c =
      let r = steps_made lent a (suc t) (make_test J lent st) (test_counted lent t st c) in
      (r.0, omega (arith, r.1), λ q. (omega (arith, (r.2 q).0), (r.2 q).1))

  start_counted : (lent : ℕ) → Counted 0 (start J lent)
  unfolding start
  start_counted lent = enter_counted 0 lent 0 [] [] [] (omega arith) refl (omega (arith, begin))
    where
      begin : rest 0 [] [] + entering 0 [] ≡ plain_count J
      begin = unfold rest entering plain_count in (omega (arith, ap (λ (d : ℕ). plain J d 0 []) (sub-zero (size J.rule))))

  -- tests made, against the plain count and the allowance
  pub tests_made : (a lent : ℕ) → Made 0 a (walk J a lent)
  unfolding walk
  tests_made a lent = steps_made lent a 0 (start J lent) (start_counted lent)

  -- with an allowance at or above the plain count the walk is never stopped
  pub never_stopped : (a lent : ℕ) → plain_count J ≤ a → (walk J a lent).ending ≢ stopped
  never_stopped a lent h q = let r = (tests_made a lent).2 q in omega arith
