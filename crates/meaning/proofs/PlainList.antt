-- What a complete plain search has listed; and the plain search is lawful.
use mathlib.Core.Path.{◌≡◌, refl, sym, ◌∙◌, subst}
use mathlib.Core.Bool.{true, false}
use mathlib.Core.Logic.{inl, inr}
use mathlib.Core.List.Memᴰ
use mathlib.Core.List.{List, [], ◌∷◌, ◌++◌, map}
use Prim.Native.Nat.{ℕ, zero, suc, ◌+◌, ◌<◌}
use native.Mathlib.Omega.{arith}
use lib.ListN.{length, length-append, get_or-append}
use lib.Seq.{get_or_at}
use Rattle.meaning.specs.Job.{Job, size, Safe}
use Rattle.meaning.specs.Relevant.{Listing}
use Rattle.meaning.specs.Rows.{Rows, row_at, values, fits, count}
use Rattle.meaning.specs.List.{Entry, complete, Searched, instance_of}
use Rattle.meaning.specs.Plain.{one_test, list_whole, from_row, try_item, plain_search}
use Rattle.meaning.proofs.Basics.{is_T, lt_or_le, complete≢stopped, complete≢full}
use Rattle.meaning.proofs.Local.{values_local, relevant_lt}
use Rattle.meaning.proofs.Jump.{Agree, agree_suc, Good, SafeTo, Cover}
use Rattle.meaning.proofs.Enlist.{enlisted, known, over, new}
use Rattle.meaning.proofs.Order.{Known, Listed, listed_none, Past, AtOrPast, move_past, listed_known, known_with, known_new, listed_with, past_with, enter_past, leave_past}
use Rattle.meaning.proofs.Walk.{unfit, move_path, move_cover}
use Rattle.meaning.proofs.Meaning.{listed_listing}
use Rattle.meaning.proofs.Engine.{Lawful}
use Rattle.meaning.proofs.Plain.{each_keeps, whole_tried, item_tried_lem, rowed, stays, stops, fit, fails}
use Rattle.meaning.proofs.PlainTests.{tests_made, entries_wide, entries_fit, full_over, never_full}
use Rattle.meaning.proofs.PlainMore.{more_allowance, same_answer, more_cells}

module _ (J : Job) (safe : Safe J.rule) where
  -- Before the item at p is tried, with these rows laid: they fit, and what comes before them is listed.
  record Enters (p : ℕ) (rows : List ℕ) (es : List Entry) : Type 0 where
    path : (i : ℕ) → i < p → Good J (row_at rows) i
    cover : Cover J (row_at rows) (Known J es) p
    listing : Listed J es
    past : Past J es (row_at rows) p

  -- After it: so is all that agrees with them.
  record Leaves (p : ℕ) (rows : List ℕ) (es fs : List Entry) : Type 0 where
    listing : Listed J fs
    all : SafeTo J (row_at rows) (Known J fs) p
    past : AtOrPast J fs (row_at rows) p
    more : (vs : List ℕ) → Known J es vs → Known J fs vs

  module _ (allowance lent : ℕ) where
    whole_leaves : (rows : List ℕ) (s : Searched) → length rows ≡ size J.rule → Enters (size J.rule) rows s.entries → let r = list_whole J allowance lent rows s in
        r.ending ≡ complete → Leaves (size J.rule) rows s.entries r.entries
    unfolding list_whole
    whole_leaves rows s len I =
        elim (enlisted J lent rows s.tests s.entries) [
          | known t q ↦ rw (q, list_whole) (λ c. record {
            listing = I.listing;
            all = all (listed_known J (values J (row_at rows)) s.entries t);
            past = λ e at. inr (I.past e at);
            more = λ vs k. k;
          })
          | over e n q ↦ rw (q, list_whole) (λ c. absurd (complete≢full (sym c)))
          | new e r q ↦ rw (q, list_whole) (λ c. record {
            listing = listed_with J s.entries s.tests rows I.listing len I.path I.past I.cover e;
            all = all (known_new J s.entries s.tests rows);
            past = past_with J s.entries s.tests rows I.past;
            more = λ vs k. known_with J s.entries s.tests rows k;
          })
        ]
      where
        all : {es : List Entry} → Known J es (values J (row_at rows)) → SafeTo J (row_at rows) (Known J es) (size J.rule)
        all {es} k u good agree = subst (Known J es) (values_local J (row_at rows) u (λ i b. sym (agree i (relevant_lt J.rule safe i b)))) k

    -- at the item at p, with these rows laid before it
    module _ (p : ℕ) (rows : List ℕ) (small : p < size J.rule) (len : length rows ≡ p) (path : (i : ℕ) → i < p → Good J (row_at rows) i) where
      -- and row k of its own
      abbrev at : ℕ → Rows
      at k = row_at (rows ++ (k ∷ []))

      row_is : (k : ℕ) → at k p ≡ k
      row_is k = get_or_at rows k [] 0 p len

      before : (k : ℕ) → Agree (at k) (row_at rows) p
      before k i h = get_or-append rows (k ∷ []) 0 i (omega arith)

      stay : (k : ℕ) → Agree (at (suc k)) (at k) p
      stay k i h = before (suc k) i h ∙ sym (before k i h)

      -- the rows before k are done
      record Done (k : ℕ) (es fs : List Entry) : Type 0 where
        listing : Listed J fs
        cover : Cover J (at k) (Known J fs) (suc p)
        past : Past J fs (at k) (suc p)
        more : (vs : List ℕ) → Known J es vs → Known J fs vs

      done_none : (es : List Entry) → Enters p rows es → Done 0 es es
      done_none es I = record {
        listing = I.listing;
        cover = move_cover J safe (row_at rows) (at 0) p (before 0) (Known J es) I.cover (λ s v agree h. absurd (omega (arith, row_is 0)));
        past = enter_past J (row_at rows) (at 0) p (before 0) es I.past;
        more = λ vs k. k;
      }

      done_all : (es fs : List Entry) → Done (count J p) es fs → Leaves p rows es fs
      done_all es fs D = record {
        listing = D.listing;
        all = λ s v agree. D.cover s v p (omega arith) (λ i h. agree i h ∙ sym (before (count J p) i h)) (subst (λ (x : ℕ). s p < x) (sym (row_is (count J p))) (v p small).0);
        past = leave_past J (row_at rows) (at (count J p)) p (before (count J p)) fs D.past;
        more = D.more;
      }

      -- row k is done: what agrees with it is listed
      module _ (k : ℕ) (es fs gs : List Entry) (D : Done k es fs) where
        step : at (suc k) p ≡ suc (at k p)
        step = omega (arith, row_is k, row_is (suc k))

        done_row : Listed J gs → SafeTo J (at k) (Known J gs) (suc p) → AtOrPast J gs (at k) (suc p) → ((vs : List ℕ) → Known J fs vs → Known J gs vs) → Done (suc k) es gs
        done_row listing all past more = record {
          listing = listing;
          cover = move_cover J safe (at k) (at (suc k)) p (stay k) (Known J gs) (λ s v i h agree l. more _ (D.cover s v i (omega arith) agree l))
              (λ s v agree h. elim (lt_or_le (s p) (at k p)) [ inl z ↦ more _ (D.cover s v p (omega arith) agree z) | inr z ↦ all s v (agree_suc s (at k) p agree (omega (arith, step))) ]);
          past = move_past J (at k) (at (suc k)) p (suc p) (omega arith) (stay k) step gs past;
          more = λ vs z. more vs (D.more vs z);
        }

      -- a row that does not fit
      done_fails : (k : ℕ) (es fs : List Entry) → fits J p (at k) ≡ false → Done k es fs → Done (suc k) es fs
      done_fails k es fs e D = done_row k es fs fs D D.listing
          (λ s v agree. absurd (unfit J safe (at k) p small e s agree (v p small)))
          (λ f m. inr (D.past f m)) (λ vs z. z)

      -- a row that fits
      enters_next : (k : ℕ) (es fs : List Entry) → k < count J p → fits J p (at k) ≡ true → Done k es fs → Enters (suc p) (rows ++ (k ∷ [])) fs
      enters_next k es fs h e D = record {
        path = λ i l. elim (lt_or_le i p) [
          | inl z ↦ move_path J safe (row_at rows) (at k) p (before k) (omega arith) path i z
          | inr z ↦ subst (Good J (at k)) (omega arith) (subst (λ (x : ℕ). x < count J p) (sym (row_is k)) h, is_T e)
        ];
        cover = D.cover;
        listing = D.listing;
        past = D.past;
      }

    -- what trying an item from position p on lists, if it is complete
    abbrev Lists : ℕ → ℕ → Type 0
    Lists d p = (rows : List ℕ) (s : Searched) → length rows ≡ p → Enters p rows s.entries → let r = try_item J allowance lent d p rows s in
        r.ending ≡ complete → Leaves p rows s.entries r.entries

    row_done : (d p : ℕ) (rows : List ℕ) (small : p < size J.rule) (len : length rows ≡ p) (path : (i : ℕ) → i < p → Good J (row_at rows) i) → Lists d (suc p)
        → (es : List Entry) (k : ℕ) → k < count J p → (r : Searched) → (r.ending ≡ complete → Done p rows small len path k es r.entries)
        → let q = from_row J allowance lent (try_item J allowance lent d (suc p)) p rows k r in q.ending ≡ complete → Done p rows small len path (suc k) es q.entries
    row_done d p rows small len path next es k h r D =
        elim (rowed J allowance lent (try_item J allowance lent d (suc p)) p rows k r) [
          | stays z q ↦ rw q (λ c. absurd (z c))
          | stops c l q ↦ rw q (λ z. absurd (complete≢stopped (sym z)))
          | fit c l e q ↦ rw q (λ z.
              let I = next (rows ++ (k ∷ [])) (one_test r) (omega (arith, length-append rows (k ∷ []))) (enters_next p rows small len path k es r.entries h e (D c)) z in
              done_row p rows small len path k es r.entries _ (D c) I.listing I.all I.past I.more)
          | fails c l e q ↦ rw q (λ z. done_fails p rows small len path k es r.entries e (D c))
        ]

    item_lists : (d p : ℕ) → p + d ≡ size J.rule → Lists d p
    item_lists zero p e rows s len I =
        let z : p ≡ size J.rule = omega arith in
        rw (whole_tried J allowance lent p rows s) (λ c. subst (λ (n : ℕ). Leaves n rows s.entries (list_whole J allowance lent rows s).entries) (sym z) (whole_leaves rows s (omega arith) (subst (λ (n : ℕ). Enters n rows s.entries) z I) c))
    item_lists (suc d) p e rows s len I =
        let small : p < size J.rule = omega arith in
        rw (item_tried_lem J allowance lent d p rows s) (λ c. done_all p rows small len I.path s.entries _
        (each_keeps (from_row J allowance lent (try_item J allowance lent d (suc p)) p rows) (λ k r. r.ending ≡ complete → Done p rows small len I.path k s.entries r.entries) (count J p)
        (λ k h r D. row_done d p rows small len I.path (item_lists d (suc p) (omega arith)) s.entries k h r D) s (λ c. done_none p rows small len I.path s.entries I) c))

    pub complete_listing : (plain_search J allowance lent).ending ≡ complete → Listing J (map (instance_of J) (plain_search J allowance lent).entries)
    unfolding plain_search
    complete_listing c =
        let L = item_lists (size J.rule) 0 (omega arith) [] _ refl none c in
        listed_listing J safe _ L.listing (λ s v. L.all s v (λ i h. absurd (omega arith)))
      where
        none : Enters 0 [] []
        none = record {
          path = λ i h. absurd (omega arith);
          cover = λ s v i h. absurd (omega arith);
          listing = listed_none J;
          past = λ e at. absurd (Memᴰ.not-nil at);
        }

  pub plain_lawful : Lawful J (plain_search J)
  plain_lawful = record {
    wide = entries_wide J;
    listing = complete_listing;
    made = tests_made J;
    fit = entries_fit J;
    over = full_over J;
    never_full = never_full J;
    more_allowance = more_allowance J;
    same_answer = same_answer J;
    more_cells = more_cells J;
  }
