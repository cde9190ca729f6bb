-- Each jump is safe: the graft, why the walk may go back after each of the four, and the way back. COVER, FAIL, MARKS, and in later files ORDER
-- and COUNT, are the invariant's parts as the argument on paper names them (design/walk-proof.md).
use mathlib.Core.Path.{◌≡◌, refl, sym, ◌∙◌, subst}
use mathlib.Core.Bool.{Bool, true, false}
use mathlib.Core.Logic.{inl, inr}
use mathlib.Core.List.Memᴰ
use mathlib.Core.List.{List, ◌++◌, Memᴰ}
use mathlib.Core.Option.{Option, none, some}
use Prim.Native.Nat.{ℕ, zero, suc, ◌-◌, ◌≤◌, ◌<◌}
use native.Mathlib.Omega.{arith}
use lib.Dec.{T, ltb}
use borrow.Author.Tests.{lt-ltb, le-ltb, ltb-true, ltb-false}
use Rattle.meaning.specs.Basics.{from}
use Rattle.meaning.specs.Job.{Job, vars, size, item_at, Safe}
use Rattle.meaning.specs.Relevant.{relevant}
use Rattle.meaning.specs.Rows.{Rows, values, fits, count}
use Rattle.meaning.specs.Group.{Group, group}
use Rattle.meaning.specs.Walk.{next_at, mark_at, whole_choice, nothing_fits, ran_out_clear, ran_out_set, binds, variables_of, variables, ran_out, back}
use Rattle.meaning.proofs.Basics.{split, is_T, not_T, lt_or_le, from_mem, mem_flat_map, flat_map_mem}
use Rattle.meaning.proofs.Group.{group_is, is_group, group_self, group_in, group_all}
use Rattle.meaning.proofs.Local.{binds_elim, binds_intro, fits_local, values_local, binds_le, relevant_lt, binds_share}

-- s and t have the same rows before p
abbrev pub Agree : Rows → Rows → ℕ → Type 0
Agree s t p = (i : ℕ) → i < p → s i ≡ t i

pub agree_suc : (s t : Rows) (p : ℕ) → Agree s t p → s p ≡ t p → Agree s t (suc p)
agree_suc s t p agree e i l = elim (lt_or_le i p) [ inl z ↦ agree i z | inr z ↦ let q : p ≡ i = omega arith in subst (λ (y : ℕ). s y ≡ t y) q e ]

-- MARKS: a mark set at a position is set at each earlier one
abbrev pub Nested : List Bool → Type 0
Nested marks = (i j : ℕ) → i < j → T (mark_at marks j) → T (mark_at marks i)

-- a before p, s from p on
unfoldable graft : ℕ → Rows → Rows → Rows
graft p a s i = elim (ltb i p) [ true ↦ a i | false ↦ s i ]

graft_lt : (p : ℕ) (a s : Rows) → Agree (graft p a s) a p
unfolding graft
graft_lt p a s i h = rw (lt-ltb i p h, graft)

graft_ge : (p : ℕ) (a s : Rows) (i : ℕ) → p ≤ i → graft p a s i ≡ s i
unfolding graft
graft_ge p a s i h = rw (le-ltb i p h, graft)

module _ (J : Job) where
  -- the item at i holds, with its row
  abbrev pub Good : Rows → ℕ → Type 0
  Good s i = (s i < count J i) × T (fits J i s)

  abbrev pub AllGood : Rows → Type 0
  AllGood s = (i : ℕ) → i < size J.rule → Good s i

  abbrev pub GroupGood : ℕ → Rows → Type 0
  GroupGood p s = (i : ℕ) → Group J.rule p i → Good s i

  pub good_local : (i : ℕ) (s t : Rows) → s i ≡ t i → ((p : ℕ) → T (binds J.rule (vars (item_at J.rule i)) p) → s p ≡ t p) → Good s i → Good t i
  good_local i s t e h g = (subst (λ (x : ℕ). x < count J i) e g.0, subst T (fits_local J i s t e h) g.1)

  -- no position from t on and before p binds one of vs
  abbrev pub NoneBinds : List ℕ → ℕ → ℕ → Type 0
  NoneBinds vs t p = (i : ℕ) → t ≤ i → i < p → T (binds J.rule vs i) → ⊥

  variables_intro : (ps : List ℕ) (i p : ℕ) → Memᴰ i ps → T (binds J.rule (vars (item_at J.rule i)) p) → T (binds J.rule (variables_of J.rule ps) p)
  unfolding variables_of
  variables_intro ps i p at t = let r = binds_elim J.rule (vars (item_at J.rule i)) p t in binds_intro J.rule _ r.0 p (flat_map_mem (λ (x : ℕ). vars (item_at J.rule x)) ps r.0 i at r.1) r.2

  variables_elim : (ps : List ℕ) (p : ℕ) → T (binds J.rule (variables_of J.rule ps) p) → (i : ℕ) × Memᴰ i ps × T (binds J.rule (vars (item_at J.rule i)) p)
  unfolding variables_of
  variables_elim ps p t =
      let r = binds_elim J.rule _ p t in
      let q = mem_flat_map (λ (x : ℕ). vars (item_at J.rule x)) ps r.0 r.1 in
      (q.0, q.1, binds_intro J.rule (vars (item_at J.rule q.0)) r.0 p q.2 r.2)

  binds_left : (vs ws : List ℕ) (p : ℕ) → T (binds J.rule vs p) → T (binds J.rule (vs ++ ws) p)
  binds_left vs ws p t = let r = binds_elim J.rule vs p t in binds_intro J.rule (vs ++ ws) r.0 p (Memᴰ.append_left ws r.1) r.2

  binds_right : (vs ws : List ℕ) (p : ℕ) → T (binds J.rule ws p) → T (binds J.rule (vs ++ ws) p)
  binds_right vs ws p t = let r = binds_elim J.rule ws p t in binds_intro J.rule (vs ++ ws) r.0 p (Memᴰ.append_right vs r.1) r.2

  -- K holds of the values that are in the list. All that agrees with a before t is in it
  abbrev pub SafeTo : Rows → (List ℕ → Type 0) → ℕ → Type 0
  SafeTo a K t = (s : Rows) → AllGood s → Agree s a t → K (values J s)

  -- COVER: so is all that comes before a at a position before p
  abbrev pub Cover : Rows → (List ℕ → Type 0) → ℕ → Type 0
  Cover a K p = (s : Rows) → AllGood s → (i : ℕ) → i < p → Agree s a i → s i < a i → K (values J s)

  -- FAIL: where the mark is clear, no earlier row makes the group hold
  abbrev pub FailAt : Rows → List Bool → ℕ → Type 0
  FailAt a marks i = mark_at marks i ≡ false → (s : Rows) → Agree s a i → s i < a i → GroupGood i s → ⊥

  -- what is known on arrival at t, of the row that fitted there
  abbrev pub Hit : Rows → List Bool → (List ℕ → Type 0) → ℕ → Type 0
  Hit a marks K t = SafeTo a K (suc t) × (mark_at marks t ≡ false → (s : Rows) → Agree s a (suc t) → GroupGood t s → ⊥)

  -- the walk ends and every instance is in the list, or it arrives with a row left
  abbrev pub Landed : Rows → List Bool → (List ℕ → Type 0) → List ℕ → ℕ → Option ℕ → Type 0
  Landed a marks K next p none = (s : Rows) → AllGood s → K (values J s)
  Landed a marks K next p (some t) = (t < p) × (next_at next t < count J t) × Hit a marks K t

  -- why the walk may go back from p to the greatest position that binds one of vs: all marks before p are set and what agrees is in the list;
  -- or some items, which are in the group of every such position, hold under nothing that agrees
  pub data Reason (a : Rows) (marks : List Bool) (K : List ℕ → Type 0) (vs : List ℕ) (p : ℕ) : Type 1 where
    found : ((i : ℕ) → i < p → T (mark_at marks i)) → ((t : ℕ) → t ≤ p → NoneBinds vs t p → SafeTo a K t) → Reason a marks K vs p
    dead : (X : ℕ → Type 0) → ((i : ℕ) → X i → i < size J.rule) → ((j i : ℕ) → j < p → T (binds J.rule vs j) → X i → Group J.rule j i)
        → ((t : ℕ) → t ≤ p → NoneBinds vs t p → (s : Rows) → Agree s a t → ((i : ℕ) → X i → Good s i) → ⊥) → Reason a marks K vs p

  module _ (safe : Safe J.rule) (a : Rows) where
    -- the graft lemma: where nothing from t on and before p binds one of vs, a graft at p of what agrees before t keeps what vs decide
    module _ (vs : List ℕ) (t p : ℕ) (nothing : NoneBinds vs t p) (s : Rows) (agree : Agree s a t) where
      graft_on : (i : ℕ) → T (binds J.rule vs i) → graft p a s i ≡ s i
      graft_on i u =
          elim (lt_or_le i p) [
            | inl l ↦ elim (lt_or_le i t) [
              | inl k ↦ graft_lt p a s i l ∙ sym (agree i k)
              | inr k ↦ absurd (nothing i k l u)
            ]
            | inr l ↦ graft_ge p a s i l
          ]

      graft_good : (i : ℕ) → p ≤ i → ((j : ℕ) → T (binds J.rule (vars (item_at J.rule i)) j) → T (binds J.rule vs j)) → Good s i → Good (graft p a s) i
      graft_good i h sub g = good_local i s (graft p a s) (sym (graft_ge p a s i h)) (λ j n. sym (graft_on j (sub j n))) g

      graft_values : ((j : ℕ) → T (binds J.rule (relevant J.rule) j) → T (binds J.rule vs j)) → values J (graft p a s) ≡ values J s
      graft_values sub = values_local J (graft p a s) s (λ j u. graft_on j (sub j u))

      graft_all : ((i : ℕ) → i < p → Good a i) → ((i j : ℕ) → p ≤ i → i < size J.rule → T (binds J.rule (vars (item_at J.rule i)) j) → T (binds J.rule vs j)) → AllGood s → AllGood (graft p a s)
      graft_all path sub v i h =
          elim (lt_or_le i p) [
            | inl l ↦ good_local i a (graft p a s) (sym (graft_lt p a s i l)) (λ j n. sym (graft_lt p a s j (let q = binds_le J.rule safe i j h n in omega arith))) (path i l)
            | inr l ↦ graft_good i l (λ j n. sub i j l h n) (v i h)
          ]

    module _ (marks : List Bool) (K : List ℕ → Type 0) where
      -- after a whole choice
      pub reason_whole : ((i : ℕ) → i < size J.rule → T (mark_at marks i)) → K (values J a) → Reason a marks K (variables J.rule whole_choice (size J.rule)) (size J.rule)
      unfolding variables
      reason_whole m k = found m (λ t l nothing s v agree. subst K (values_local J a s (λ i u. sym (agree i (below t nothing i u)))) k)
        where
          below : (t : ℕ) → NoneBinds (relevant J.rule) t (size J.rule) → (i : ℕ) → T (binds J.rule (relevant J.rule) i) → i < t
          below t nothing i u = elim (lt_or_le i t) [ inl l ↦ l | inr l ↦ absurd (nothing i l (relevant_lt J.rule safe i u) u) ]

      -- after entering an item that nothing fits
      pub reason_nothing : (p : ℕ) → p < size J.rule → ((s : Rows) → Agree s a p → Good s p → ⊥) → Reason a marks K (variables J.rule nothing_fits p) p
      unfolding variables
      reason_nothing p h none-fit =
          dead (λ i. i ≡ p) (λ i e. subst (λ (y : ℕ). y < size J.rule) (sym e) h)
          (λ j i l u e. group_all J.rule j p p i l h (group_self J.rule p) (binds_share J.rule safe p j h u) (subst (Group J.rule p) (sym e) (group_self J.rule p)))
          (λ t l nothing s agree g. none-fit (graft p a s) (graft_lt p a s) (graft_good (vars (item_at J.rule p)) t p nothing s agree p (omega arith) (λ j n. n) (g p refl)))

      -- after running out later, mark clear
      pub reason_clear : (p : ℕ) → p < size J.rule → ((s : Rows) → Agree s a p → GroupGood p s → ⊥) → Reason a marks K (variables J.rule ran_out_clear p) p
      unfolding variables
      reason_clear p h none-ok =
          dead (Group J.rule p) (λ i c. (group_in J.rule p i h c).1)
          (λ j i l u c. let r = variables_elim (group J.rule p) j u in
          let d = group_is J.rule p r.0 h r.1 in
          group_all J.rule j p r.0 i l h d (binds_share J.rule safe r.0 j (group_in J.rule p r.0 h d).1 r.2) c)
          (λ t l nothing s agree g. none-ok (graft p a s) (graft_lt p a s)
          (λ i c. graft_good (variables_of J.rule (group J.rule p)) t p nothing s agree i (group_in J.rule p i h c).0
          (λ j n. variables_intro (group J.rule p) i j (is_group J.rule p i h c) n) (g i c)))

      -- after running out later, mark set
      pub reason_set : (p : ℕ) → ((i : ℕ) → i < p → T (mark_at marks i)) → ((i : ℕ) → i < p → Good a i) → SafeTo a K p → Reason a marks K (variables J.rule ran_out_set p) p
      unfolding variables
      reason_set p m path safe-to =
          found m (λ t l nothing s v agree.
          subst K (graft_values (relevant J.rule ++ later) t p nothing s agree (λ j u. binds_left (relevant J.rule) later j u))
          (safe-to (graft p a s)
          (graft_all (relevant J.rule ++ later) t p nothing s agree path
          (λ i j pi hi n. binds_right (relevant J.rule) later j (variables_intro (from p (size J.rule - p)) i j (from_mem p (size J.rule - p) i pi (omega arith)) n)) v)
          (graft_lt p a s)))
        where
          later : List ℕ
          later = variables_of J.rule (from p (size J.rule - p))

      -- after running out later, whichever the mark
      pub reason_out : (p : ℕ) → p < size J.rule → Nested marks → ((i : ℕ) → i < p → Good a i) → SafeTo a K p
          → (mark_at marks p ≡ false → (s : Rows) → Agree s a p → GroupGood p s → ⊥) → Reason a marks K (variables J.rule (ran_out marks p) p) p
      unfolding ran_out
      reason_out p h nested path safe-to none-ok =
          elim (split (mark_at marks p)) [
            | inl e ↦ rw (e, ran_out) (reason_set p (λ i l. nested i p l (is_T e)) path safe-to)
            | inr e ↦ rw (e, ran_out) (reason_clear p h (none-ok e))
          ]

      hit : (vs : List ℕ) (t : ℕ) → T (binds J.rule vs t) → Reason a marks K vs (suc t) → Hit a marks K t
      hit vs t u (found m safe-to) = (safe-to (suc t) (omega arith) (λ i l k. absurd (omega arith)), λ e. absurd (not_T e (m t (omega arith))))
      hit vs t u (dead X small inside nope) = (
        λ s v agree. absurd (nope (suc t) (omega arith) (λ i l k. absurd (omega arith)) s agree (λ i e. v i (small i e))),
        λ k s agree g. nope (suc t) (omega arith) (λ i l k. absurd (omega arith)) s agree (λ i e. g i (inside t i (omega arith) u e)),
      )

      wider : (vs : List ℕ) (p : ℕ) → binds J.rule vs p ≡ false → (t : ℕ) → NoneBinds vs t p → NoneBinds vs t (suc p)
      wider vs p u t nothing i l k v = elim (lt_or_le i p) [ inl z ↦ nothing i l z v | inr z ↦ not_T u (subst (λ (y : ℕ). T (binds J.rule vs y)) (omega arith) v) ]

      miss : (vs : List ℕ) (p : ℕ) → binds J.rule vs p ≡ false → Reason a marks K vs (suc p) → Reason a marks K vs p
      miss vs p u (found m safe-to) = found (λ i l. m i (omega arith)) (λ t l nothing. safe-to t (omega arith) (wider vs p u t nothing))
      miss vs p u (dead X small inside nope) = dead X small (λ j i l. inside j i (omega arith)) (λ t l nothing. nope t (omega arith) (wider vs p u t nothing))

      end : (vs : List ℕ) → Reason a marks K vs 0 → (s : Rows) → AllGood s → K (values J s)
      end vs (found m safe-to) s v = safe-to 0 (omega arith) (λ i l k. absurd (omega arith)) s v (λ i l. absurd (omega arith))
      end vs (dead X small inside nope) s v = absurd (nope 0 (omega arith) (λ i l k. absurd (omega arith)) s (λ i l. absurd (omega arith)) (λ i e. v i (small i e)))

      landed_suc : (next : List ℕ) (p : ℕ) (o : Option ℕ) → Landed a marks K next p o → Landed a marks K next (suc p) o
      landed_suc next p none l = l
      landed_suc next p (some t) l = (omega (arith, l.0), l.1, l.2)

      -- the rows have run out at t, where the row that fitted was the last
      exhausted : (t : ℕ) → t < size J.rule → Nested marks → ((i : ℕ) → i < t → Good a i) → Cover a K (suc t) → FailAt a marks t → Hit a marks K t → count J t ≤ suc (a t) → Reason a marks K (variables J.rule (ran_out marks t) t) t
      exhausted t h nested path cover fail l c = reason_out t h nested path
          (λ s v agree. elim (lt_or_le (s t) (a t)) [ inl k ↦ cover s v t (omega arith) agree k | inr k ↦ l.0 s v (agree_suc s a t agree (omega (arith, (v t h).0))) ])
          (λ e s agree g. elim (lt_or_le (s t) (a t)) [ inl k ↦ fail e s agree k g | inr k ↦ l.1 e s (agree_suc s a t agree (omega (arith, (g t (group_self J.rule t)).0))) g ])

      -- the way back: a has the rows that fitted, each the one before the next
      pub back_sound : (next : List ℕ) (p : ℕ) (vs : List ℕ) → p ≤ size J.rule → Nested marks → ((i : ℕ) → i < p → next_at next i ≡ suc (a i)) → ((i : ℕ) → i < p → Good a i)
          → Cover a K p → ((i : ℕ) → i < p → FailAt a marks i) → Reason a marks K vs p → Landed a marks K next p (back J next marks vs p)
      unfolding back
      back_sound next zero vs small nested rows path cover fail r = end vs r
      back_sound next (suc p) vs small nested rows path cover fail r =
          elim (split (binds J.rule vs p)) [
            | inl e ↦ let h = hit vs p (is_T e) r in
                elim (split (ltb (next_at next p) (count J p))) [
                  | inl c ↦ rw (e, c, back) (omega arith, ltb-true _ _ c, h)
                  | inr c ↦ rw (e, c, back) (landed_suc next p (back J next marks (variables J.rule (ran_out marks p) p) p)
                      (back_sound next p (variables J.rule (ran_out marks p) p) (omega arith) nested (λ i l. rows i (omega arith)) (λ i l. path i (omega arith)) (λ s v i l. cover s v i (omega arith)) (λ i l. fail i (omega arith))
                      (exhausted p (omega arith) nested (λ i l. path i (omega arith)) cover (fail p (omega arith)) h (omega (arith, ltb-false (next_at next p) (count J p) c, rows p (omega arith))))))
                ]
            | inr e ↦ rw (e, back) (landed_suc next p (back J next marks vs p)
                (back_sound next p vs (omega arith) nested (λ i l. rows i (omega arith)) (λ i l. path i (omega arith)) (λ s v i l. cover s v i (omega arith)) (λ i l. fail i (omega arith)) (miss vs p e r)))
          ]
