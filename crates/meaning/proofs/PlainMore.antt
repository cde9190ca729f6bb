-- Two plain searches, the second with more allowance or more cells: they are the same, or the first has ended sooner and listed a beginning.
use mathlib.Core.Path.{◌≡◌, refl, sym, subst}
use mathlib.Core.Logic.{◌⊎◌, inl, inr, ◌≢◌}
use mathlib.Core.List.{List, [], ◌∷◌}
use Prim.Native.Nat.{ℕ, zero, suc, ◌+◌, ◌*◌, ◌≤◌, ◌<◌}
use native.Mathlib.Nat.{mul-le-mul_right}
use native.Mathlib.Omega.{arith}
use lib.ListN.{length}
use Rattle.meaning.specs.Job.{Job, size}
use Rattle.meaning.specs.Rows.{count}
use Rattle.meaning.specs.List.{Ending, complete, stopped, full, Searched, entry_size, Begins}
use Rattle.meaning.specs.Plain.{list_whole, from_row, try_item, plain_search}
use Rattle.meaning.proofs.Basics.{lt_or_le, complete≢stopped, complete≢full, stopped≢full, begins_refl, begins_trans, begins_length}
use Rattle.meaning.proofs.Enlist.{one_more, Cut, roomier, same_list, no_longer}
use Rattle.meaning.proofs.Plain.{each_both, whole_tried, item_tried_lem, row_grows, row_stays, row_stops, row_fits, row_fails, rowed, stays, stops, fit, fails}
use Rattle.meaning.proofs.PlainTests.{entries_fit}

module _ (J : Job) (a b lent : ℕ) where
  -- the first has ended sooner
  record Sooner (s t : Searched) : Type 0 where
    ended : s.ending ≢ complete
    begins : Begins s.entries t.entries
    less : s.ending ≡ stopped → a < b
    cut : s.ending ≡ full → lent < length t.entries * entry_size J.rule

  abbrev Like : Searched → Searched → Type 0
  Like s t = (s ≡ t) ⊎ Sooner s t

  sooner_on : (s t u : Searched) → Sooner s t → Begins t.entries u.entries → Sooner s u
  sooner_on s t u A g = record {
    ended = A.ended;
    begins = begins_trans s.entries t.entries u.entries A.begins g;
    less = A.less;
    cut = λ e. omega (arith, A.cut e, mul-le-mul_right {m = length t.entries} {n = length u.entries} (entry_size J.rule) (begins_length t.entries u.entries g));
  }

module _ (J : Job) (a b lent more : ℕ) (h : a ≤ b) (room : lent ≤ more) where
  whole_like : (rows : List ℕ) (s : Searched) → Like J a b lent (list_whole J a lent rows s) (list_whole J b more rows s)
  unfolding list_whole
  whole_like rows s = elim (roomier J lent more room rows s.tests s.entries) [
    | same_list q ↦ rw (q, list_whole) (inl refl)
    | no_longer n q r ↦ rw (q, r, list_whole) (inr (record {
      ended = λ z. complete≢full (sym z);
      begins = (record { tests = s.tests; rows = rows } ∷ [], refl);
      less = λ z. absurd (stopped≢full (sym z));
      cut = λ z. omega (arith, one_more J s.entries (record { tests = s.tests; rows = rows }));
    }))
  ]

  abbrev Alike : ℕ → ℕ → Type 0
  Alike d p = (rows : List ℕ) (s : Searched) → Like J a b lent (try_item J a lent d p rows s) (try_item J b more d p rows s)

  module _ (d p : ℕ) (alike : Alike d (suc p)) (rows : List ℕ) (k : ℕ) where
    abbrev f : List ℕ → Searched → Searched
    f = try_item J a lent d (suc p)

    abbrev g : List ℕ → Searched → Searched
    g = try_item J b more d (suc p)

    abbrev first : Searched → Searched
    first = from_row J a lent f p rows k

    abbrev second : Searched → Searched
    second = from_row J b more g p rows k

    from_same : (s : Searched) → Like J a b lent (first s) (second s)
    from_same s = elim (rowed J a lent f p rows k s) [
      | stays z q ↦ rw (q, row_stays J b more g p rows k s z) (inl refl)
      | stops c l q ↦ elim (lt_or_le s.tests b) [
        | inl z ↦ rw q (inr (record {
          ended = λ e. complete≢stopped (sym e);
          begins = row_grows J b more d p k rows s;
          less = λ e. omega arith;
          cut = λ e. absurd (stopped≢full e);
        }))
        | inr z ↦ rw (q, row_stops J b more g p rows k s c z) (inl refl)
      ]
      | fit c l e q ↦ rw (q, row_fits J b more g p rows k s c (omega arith) e) (alike _ _)
      | fails c l e q ↦ rw (q, row_fails J b more g p rows k s c (omega arith) e) (inl refl)
    ]

    row_like : (s t : Searched) → Like J a b lent s t → Like J a b lent (first s) (second t)
    row_like s t l = elim l [
      | inl e ↦ subst (λ (x : Searched). Like J a b lent (first s) (second x)) e (from_same s)
      | inr A ↦ rw (row_stays J a lent f p rows k s A.ended) (inr (sooner_on J a b lent s t (second t) A (row_grows J b more d p k rows t)))
    ]

  item_like : (d p : ℕ) → Alike d p
  item_like zero p rows s = rw (whole_tried J a lent p rows s, whole_tried J b more p rows s) (whole_like rows s)
  item_like (suc d) p rows s =
      rw (item_tried_lem J a lent d p rows s, item_tried_lem J b more d p rows s)
      (each_both (from_row J a lent (try_item J a lent d (suc p)) p rows) (from_row J b more (try_item J b more d (suc p)) p rows) (λ k x y. Like J a b lent x y) 0 (count J p) (count J p) (omega arith)
      (λ k z x y l. row_like d p (item_like d (suc p)) rows k x y l) s s (inl refl))

  search_like : Like J a b lent (plain_search J a lent) (plain_search J b more)
  unfolding plain_search
  search_like = item_like (size J.rule) 0 [] _

module _ (J : Job) where
  -- with more allowance the list only grows
  pub more_allowance : (a b lent : ℕ) → Begins (plain_search J a lent).entries (plain_search J (a + b) lent).entries
  more_allowance a b lent = elim (search_like J a (a + b) lent lent (omega arith) (omega arith)) [
    | inl e ↦ subst (λ (s : Searched). Begins (plain_search J a lent).entries s.entries) e (begins_refl (plain_search J a lent).entries)
    | inr A ↦ A.begins
  ]

  -- and an answer that is not stopped stays
  pub same_answer : (a b lent : ℕ) → (plain_search J a lent).ending ≢ stopped → plain_search J (a + b) lent ≡ plain_search J a lent
  same_answer a b lent n = elim (search_like J a (a + b) lent lent (omega arith) (omega arith)) [
    | inl e ↦ sym e
    | inr A ↦ absurd (go (plain_search J a lent).ending refl A)
  ]
    where
      go : (e : Ending) → (plain_search J a lent).ending ≡ e → Sooner J a (a + b) lent (plain_search J a lent) (plain_search J (a + b) lent) → ⊥
      go complete e A = A.ended e
      go stopped e A = n e
      go full e A = omega (arith, A.cut e, entries_fit J (a + b) lent)

  pub more_cells : (a lent more : ℕ) → lent ≤ more → (plain_search J a lent ≡ plain_search J a more) ⊎ Cut J lent (plain_search J a lent) (plain_search J a more)
  more_cells a lent more h = elim (search_like J a a lent more (omega arith) h) [
    | inl e ↦ inl e
    | inr A ↦ go (plain_search J a lent).ending refl A
  ]
    where
      go : (e : Ending) → (plain_search J a lent).ending ≡ e → Sooner J a a lent (plain_search J a lent) (plain_search J a more)
          → (plain_search J a lent ≡ plain_search J a more) ⊎ Cut J lent (plain_search J a lent) (plain_search J a more)
      go complete e A = absurd (A.ended e)
      go stopped e A = absurd (omega (arith, A.less e))
      go full e A = inr (e, A.begins, A.cut e)
