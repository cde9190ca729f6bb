-- The plain search's tests and cells: its tests are the plain count, as far as it comes.
use mathlib.Core.Path.{◌≡◌, refl, sym, ap, ◌∙◌}
use mathlib.Core.Logic.{◌≢◌}
use mathlib.Core.List.Memᴰ
use mathlib.Core.List.{List, [], ◌∷◌, ◌++◌}
use Prim.Native.Nat.{ℕ, zero, suc, ◌+◌, ◌*◌, ◌≤◌, ◌<◌}
use native.Mathlib.Omega.{arith}
use lib.ListN.{length, length-append}
use Rattle.meaning.specs.Job.{Job, size}
use Rattle.meaning.specs.Rows.{count}
use Rattle.meaning.specs.List.{Entry, complete, stopped, full, Searched, entry_size}
use Rattle.meaning.specs.Plain.{sum, plain, plain_count, one_test, list_whole, from_row, try_item, plain_search}
use Rattle.meaning.proofs.Basics.{complete≢stopped, complete≢full, stopped≢full}
use Rattle.meaning.proofs.Enlist.{with, NoRoom, Wide, one_more, full_many, enlisted, known, over, new}
use Rattle.meaning.proofs.Count.{cost, item_cost, cost_fit, cost_fails, cost_some, Made}
use Rattle.meaning.proofs.Plain.{each_keeps, whole_tried, item_tried_lem, item_wide, rowed, stays, stops, fit, fails}

sum_last : (f : ℕ → ℕ) (k c : ℕ) → sum f k (suc c) ≡ sum f k c + f (k + c)
unfolding sum
sum_last f k zero = let e : k ≡ k + 0 = omega arith in omega (arith, ap f e)
sum_last f k (suc c) = let e : suc k + c ≡ k + suc c = omega arith in omega (arith, sum_last f (suc k) c, ap f e)

module _ (J : Job) where
  module _ (allowance lent : ℕ) where
    -- what holds of the search at any time
    record Held (s : Searched) : Type 0 where
      within : s.tests ≤ allowance
      room : length s.entries * entry_size J.rule ≤ lent
      used : s.ending ≡ stopped → s.tests ≡ allowance
      none : s.ending ≡ full → NoRoom J lent s.entries

    -- from s to r, by a part of the search to which the plain count gives n tests
    record Tried (n extra : ℕ) (s r : Searched) : Type 0 where
      held : Held r
      few : length r.entries + s.tests ≤ length s.entries + r.tests + extra
      fewer : r.ending ≡ full → length r.entries + s.tests < length s.entries + r.tests + extra
      most : r.tests ≤ s.tests + n
      done : r.ending ≡ complete → r.tests ≡ s.tests + n
      short : r.ending ≡ stopped → r.tests < s.tests + n

    tested_held : (s : Searched) → s.ending ≡ complete → s.tests < allowance → Held s → Held (one_test s)
    tested_held s c l H = record {
      within = l;
      room = H.room;
      used = λ e. absurd (complete≢stopped (sym c ∙ e));
      none = λ e. absurd (complete≢full (sym c ∙ e));
    }

    whole_here : (rows : List ℕ) (s : Searched) → s.ending ≡ complete → Held s → Tried 0 1 s (list_whole J allowance lent rows s)
    unfolding list_whole
    whole_here rows s c H =
        elim (enlisted J lent rows s.tests s.entries) [
          | known t q ↦ rw (q, list_whole) (record {
            held = record { within = H.within; room = H.room; used = H.used; none = H.none };
            few = omega arith;
            fewer = λ e. omega arith;
            most = omega arith;
            done = λ e. omega arith;
            short = λ e. absurd (complete≢stopped (sym c ∙ e));
          })
          | over e n q ↦ rw (q, list_whole) (record {
            held = record { within = H.within; room = H.room; used = λ z. absurd (stopped≢full (sym z)); none = λ z. n };
            few = omega arith;
            fewer = λ z. omega arith;
            most = omega arith;
            done = λ z. absurd (complete≢full (sym z));
            short = λ z. absurd (stopped≢full (sym z));
          })
          | new e r q ↦ rw (q, list_whole) (record {
            held = record {
              within = H.within;
              room = omega (arith, one_more J s.entries entry);
              used = λ z. absurd (complete≢stopped (sym c ∙ z));
              none = λ z. absurd (complete≢full (sym c ∙ z));
            };
            few = omega (arith, longer);
            fewer = λ z. absurd (complete≢full (sym c ∙ z));
            most = omega arith;
            done = λ z. omega arith;
            short = λ z. absurd (complete≢stopped (sym c ∙ z));
          })
        ]
      where
        entry : Entry
        entry = record { tests = s.tests; rows = rows }

        longer : length (with s.entries s.tests rows) ≡ suc (length s.entries)
        longer = omega (arith, length-append s.entries (entry ∷ []))

    -- what trying an item from position p on comes to
    abbrev Tries : ℕ → ℕ → Type 0
    Tries d p = (rows : List ℕ) (s : Searched) → s.ending ≡ complete → Held s → Tried (plain J d p rows) 1 s (try_item J allowance lent d p rows s)

    row_on : (d p : ℕ) (rows : List ℕ) → Tries d (suc p) → (s r : Searched) (m k : ℕ) → Tried m 0 s r
        → Tried (m + cost J d p rows k) 0 s (from_row J allowance lent (try_item J allowance lent d (suc p)) p rows k r)
    row_on d p rows next s r m k T =
        elim (rowed J allowance lent (try_item J allowance lent d (suc p)) p rows k r) [
          | stays h q ↦ rw q (record {
            held = T.held;
            few = T.few;
            fewer = T.fewer;
            most = omega (arith, T.most);
            done = λ e. absurd (h e);
            short = λ e. omega (arith, T.short e, cost_some J d p rows k);
          })
          | stops c l q ↦ rw q (record {
            held = record {
              within = T.held.within;
              room = T.held.room;
              used = λ e. omega (arith, T.held.within);
              none = λ e. absurd (stopped≢full e);
            };
            few = T.few;
            fewer = λ e. absurd (stopped≢full e);
            most = omega (arith, T.most);
            done = λ e. absurd (complete≢stopped (sym e));
            short = λ e. omega (arith, T.done c, cost_some J d p rows k);
          })
          | fit c l e q ↦ let I = next (rows ++ (k ∷ [])) (one_test r) c (tested_held r c l T.held) in
              rw (q, cost_fit J d p rows k e) (record {
                held = I.held;
                few = omega (arith, T.few, I.few);
                fewer = λ z. omega (arith, T.few, I.fewer z);
                most = omega (arith, T.most, I.most);
                done = λ z. omega (arith, T.done c, I.done z);
                short = λ z. omega (arith, T.done c, I.short z);
              })
          | fails c l e q ↦ rw (q, cost_fails J d p rows k e) (record {
            held = tested_held r c l T.held;
            few = omega (arith, T.few);
            fewer = λ z. absurd (complete≢full (sym c ∙ z));
            most = omega (arith, T.most);
            done = λ z. omega (arith, T.done c);
            short = λ z. absurd (complete≢stopped (sym c ∙ z));
          })
        ]

    item_on : (d p : ℕ) → Tries d p
    unfolding plain
    item_on zero p rows s c H = rw (whole_tried J allowance lent p rows s) (whole_here rows s c H)
    item_on (suc d) p rows s c H =
        rw (item_tried_lem J allowance lent d p rows s, item_cost J d p rows)
        (looser (each_keeps (from_row J allowance lent (try_item J allowance lent d (suc p)) p rows) (λ k r. Tried (sum (cost J d p rows) 0 k) 0 s r) (count J p)
        (λ k h r T. rw (sum_last (cost J d p rows) 0 k, here k) (row_on d p rows (item_on d (suc p)) s r (sum (cost J d p rows) 0 k) k T)) s begin))
      where
        here : (k : ℕ) → 0 + k ≡ k
        here k = omega arith

        begin : Tried (sum (cost J d p rows) 0 0) 0 s s
        begin = unfold sum in record {
          held = H;
          few = omega arith;
          fewer = λ z. absurd (complete≢full (sym c ∙ z));
          most = omega arith;
          done = λ z. omega arith;
          short = λ z. absurd (complete≢stopped (sym c ∙ z));
        }

        looser : {n : ℕ} {r : Searched} → Tried n 0 s r → Tried n 1 s r
        looser T = record {
          held = T.held;
          few = omega (arith, T.few);
          fewer = λ z. omega (arith, T.fewer z);
          most = T.most;
          done = T.done;
          short = T.short;
        }

    abbrev begin : Searched
    begin = record { ending = complete; tests = 0; entries = [] }

    abbrev end : Searched
    end = plain_search J allowance lent

    searched : Tried (plain_count J) 1 begin end
    unfolding plain_search plain_count
    searched = item_on (size J.rule) 0 [] begin refl (record {
      within = omega arith;
      room = omega arith;
      used = λ e. absurd (complete≢stopped e);
      none = λ e. absurd (complete≢full e);
    })

    -- a complete search has made the plain count of tests
    pub complete_tests : end.ending ≡ complete → end.tests ≡ plain_count J
    complete_tests e = omega (arith, searched.done e)

    pub tests_made : Made J 0 allowance end
    tests_made = (omega (arith, searched.most), omega (arith, searched.held.within), λ e. (omega (arith, searched.held.used e), omega (arith, searched.short e)))

    pub entries_wide : Wide J end.entries
    unfolding plain_search
    entries_wide = item_wide J allowance lent (size J.rule) 0 [] begin (omega arith, refl) (λ e at. absurd (Memᴰ.not-nil at))

    pub entries_fit : length end.entries * entry_size J.rule ≤ lent
    entries_fit = searched.held.room

    pub full_over : end.ending ≡ full → NoRoom J lent end.entries
    full_over = searched.held.none

    -- there are at most as many entries as tests, and one more; so with room for that many it is never full
    pub never_full : suc (plain_count J) * entry_size J.rule ≤ lent → end.ending ≢ full
    never_full h e = omega (arith, full_many J (plain_count J) lent h end.entries (full_over e), searched.fewer e, searched.most)
