-- A field with no fault, from the record and the arrays to the reading.
use Prim.Native.Nat.{ℕ, ◌+◌, ◌*◌, ◌<◌, ◌≤◌}
use mathlib.Core.Path.{◌≡◌, refl, sym, ap, ◌∙◌}
use mathlib.Core.Bool.{Bool}
use mathlib.Core.Logic.{⊎_elim, inl}
use mathlib.Core.List.{List, [], ◌∷◌, ◌++◌}
use native.Mathlib.Omega.{arith}
use native.Mathlib.Decide.{ℕ_discrete}
use lib.Dec.{eqb}
use lib.ListN.{length, get_or, set, length-set, get_or-append}
use lib.Seq.{get_or-set_same, get_or-set_other, get_or-append_seam}
use borrow.Author.Tests.{lt-ltb}
use Rattle.std.proofs.lemmas.Bool.{cases_lt}
use Rattle.std.proofs.lemmas.List.{length_push, get_or_past}
use Rattle.meaning.specs.Basics.{tab, any}
use Rattle.meaning.specs.Job.{predicate_limit, row_limit, head_limit, item_limit, arity_limit, Comparison, Item, Head, holds}
use Rattle.meaning.specs.Reading.{byte_at, Tag, predicate_tag, row_tag, head_tag, literal_tag, comparison_tag, tag_at, tag_of, line_of, places_at, row_in, head_in, literal_in, comparison_in, Read, added, placed, after}
use Rattle.meaning.proofs.Basics.{map_append}
use Rattle.meaning.proofs.Tab.{get_or_tab, tab_ext, tab_grow, tab_set}
use Rattle.rule.specs.declared.Item.{Item as ItemR}
use Rattle.rule.specs.Rule.{item_of, body_of, head_of, heads_of}
use Rattle.job.specs.Puts.{puts}
use Rattle.job.specs.Bound.{Bound, marked_by}
use Rattle.job.specs.Progress.{cell_from, head_from, comparison_from, row_of, tables_of, read_of, Well, Filled}
use Rattle.job.specs.Grow.{in_group, with_predicate, RowReady, with_row, with_cells, with_index, with_head, with_item, literal_of, with_literal, with_comparison}
use Rattle.job.specs.declared.progress.Progress.{Progress}
use Rattle.job.proofs.Puts.{length_puts, get_or_puts_in, get_or_puts_out}
use Rattle.job.proofs.TermLaws.{head_is, literal_is, comparison_is}
use Rattle.job.proofs.Sums.{sum_grow, sum_set, sum_part}

abbrev read_with : ℕ → List ℕ → List ℕ → List (List (List ℕ)) → List Bool → List Head → List Item → Read
read_with group places arities rows solved heads body =
    record { group = group; places = places; job = record { arities = arities; rows = rows; rule = record { solved = solved; heads = heads; body = body } } }

-- a predicate

after_1 : (s : List ℕ) (at : ℕ) (st : Read) → tag_of (tag_at s at) ≡ predicate_tag
    → after s at st
    ≡ read_with 1 st.places (st.job.arities ++ (byte_at s (at + 3) ∷ [])) (st.job.rows ++ ([] ∷ []))
    (st.job.rule.solved ++ (eqb (byte_at s (at + 4)) 1 ∷ [])) st.job.rule.heads st.job.rule.body
unfolding after added placed
after_1 s at st e = rw e refl

module _ (s : List ℕ) (at : ℕ) (p : Progress) (w : Well p) (room : length p.arities < predicate_limit) (cells index : List ℕ) where
  abbrev new : Progress
  new = with_predicate s at (in_group 1 p)

  abbrev n₁ : ℕ
  n₁ = length p.arities

  more : length new.arities ≡ n₁ + 1
  more = length_push p.arities (byte_at s (at + 3))

  arity_old : (i : ℕ) → i < n₁ → get_or new.arities i 0 ≡ get_or p.arities i 0
  arity_old i l = get_or-append p.arities (byte_at s (at + 3) ∷ []) 0 i l

  rows_old : (i : ℕ) → i < n₁ → get_or new.rows i 0 ≡ get_or p.rows i 0
  rows_old i l = get_or-set_other p.rows n₁ i 0 0 (λ e. omega arith)

  rows_new : get_or new.rows n₁ 0 ≡ 0
  rows_new = get_or-set_same p.rows n₁ 0 0 (omega (arith, w.rows_length))

  tables_grow : tables_of new.arities new.rows cells index ≡ tables_of p.arities p.rows cells index ++ ([] ∷ [])
  unfolding tables_of tab
  tables_grow =
      rw more
      (tab_grow n₁ _ (λ (q : ℕ). tab (get_or p.rows q 0) (row_of (get_or p.arities q 0) cells index q)) []
      (λ i l. rw (arity_old i l, rows_old i l) refl)
      (rw rows_new refl))

  pub predicate_read : tag_of (tag_at s at) ≡ predicate_tag → read_of new cells index ≡ after s at (read_of p cells index)
  unfolding heads_of body_of
  predicate_read e =
      rw (after_1 s at (read_of p cells index) e)
      (λ i. read_with 1 p.places new.arities (tables_grow i) new.rule.solved (heads_of p.rule) (body_of p.rule))

  pub predicate_well : byte_at s (at + 3) ≤ arity_limit → Well new
  unfolding body_of
  predicate_well small =
      record {
        predicates = omega (arith, more);
        solved = length_push p.rule.solved _ ∙ ap (λ (i : ℕ). i + 1) w.solved ∙ sym more;
        heads = w.heads;
        places = w.places;
        items = w.items;
        rows_length = length-set p.rows n₁ 0 ∙ w.rows_length;
        bound_length = w.bound_length;
        total = w.total;
        arity = arity;
        sums = rw more (sum_grow n₁ _ (λ (q : ℕ). get_or p.rows q 0) rows_old rows_new ∙ w.sums);
        bound = w.bound;
      }
    where
      past : (q : ℕ) → n₁ ≤ q → Dec (q ≡ n₁) → get_or new.arities q 0 ≤ arity_limit
      past q l (yes e) = rw (e, get_or-append_seam p.arities (byte_at s (at + 3)) [] 0) small
      past q l (no e) = rw (get_or_past new.arities q 0 (omega (arith, more, e))) (omega arith)

      arity : (q : ℕ) → get_or new.arities q 0 ≤ arity_limit
      arity q = ⊎_elim (λ l. rw (arity_old q l) (w.arity q)) (λ l. past q l (ℕ_discrete q n₁)) (cases_lt q n₁)

  pub predicate_filled : Filled p cells index → Filled new cells index
  predicate_filled f = record { cells_length = f.cells_length; index_length = f.index_length; inside = λ q k l h. go q k (ℕ_discrete q n₁) (rw more at l) h }
    where
      go : (q k : ℕ) → Dec (q ≡ n₁) → q < n₁ + 1 → k < get_or new.rows q 0 → get_or index (row_limit * q + k) 0 < p.total
      go q k (yes e) l h = let x : k < 0 = rw (e, rows_new) at h in absurd (omega arith)
      go q k (no e) l h = let m : q < n₁ = omega (arith, e) in f.inside q k m (rw (rows_old q m) at h)

-- a row

pub rows_few : (p : Progress) → Well p → (q : ℕ) → q < length p.arities → get_or p.rows q 0 ≤ p.total
rows_few p w q l = rw (← w.sums) (sum_part (length p.arities) q (λ (i : ℕ). get_or p.rows i 0) l)

after_2 : (s : List ℕ) (at : ℕ) (st : Read) → tag_of (tag_at s at) ≡ row_tag
    → after s at st
    ≡ read_with 2 st.places st.job.arities
    (set st.job.rows (byte_at s (at + 3)) (get_or st.job.rows (byte_at s (at + 3)) [] ++ (row_in s at (places_at row_tag s at st.job.arities) ∷ [])))
    st.job.rule.solved st.job.rule.heads st.job.rule.body
unfolding after added placed
after_2 s at st e = rw e refl

-- the places of a declared predicate
pub places_is : (t : Tag) (s : List ℕ) (at i : ℕ) (p : Progress) → 0 < (line_of t).up_to → at + 2 + (line_of t).up_to ≡ i → places_at t s at p.arities ≡ get_or p.arities (byte_at s i) 0
unfolding places_at
places_is t s at i p u e = rw (lt-ltb 0 (line_of t).up_to u, places_at, e) refl

module _ (cells index : List ℕ) (p r n a : ℕ) (f : ℕ → ℕ) where
  -- a row stored before reads the same
  same_row : (q k b : ℕ) → b ≤ arity_limit → k < row_limit → r < row_limit → (q ≡ p → k < r) → get_or index (row_limit * q + k) 0 < n
      → row_of b (puts cells (arity_limit * n) a f) (set index (row_limit * p + r) n) q k ≡ row_of b cells index q k
  unfolding row_of
  same_row q k b hb hk hr hq hn =
      let other : row_limit * q + k ≡ row_limit * p + r → ⊥ = apart (ℕ_discrete q p) in
      let e : get_or (set index (row_limit * p + r) n) (row_limit * q + k) 0 ≡ get_or index (row_limit * q + k) 0 = get_or-set_other index (row_limit * p + r) (row_limit * q + k) n 0 other in
      tab_ext b _ _ (λ j l. rw e (get_or_puts_out cells (arity_limit * n) a (arity_limit * get_or index (row_limit * q + k) 0 + j) f 0 (inl (omega arith))))
    where
      apart : Dec (q ≡ p) → row_limit * q + k ≡ row_limit * p + r → ⊥
      apart (yes e) w = let l : k < r = hq e in omega arith
      apart (no ne) w = omega (arith, ne)

  -- the new row
  new_row : arity_limit * n + a ≤ length cells → row_limit * p + r < length index → tab a f ≡ row_of a (puts cells (arity_limit * n) a f) (set index (row_limit * p + r) n) p r
  unfolding row_of
  new_row hc hi =
      let e : get_or (set index (row_limit * p + r) n) (row_limit * p + r) 0 ≡ n = get_or-set_same index (row_limit * p + r) n 0 hi in
      tab_ext a _ _ (λ j l. rw e (sym (get_or_puts_in cells (arity_limit * n) a j f 0 l hc)))

module _ (s : List ℕ) (at : ℕ) (p : Progress) (w : Well p) (cells index : List ℕ) (f : Filled p cells index) (r : RowReady s at p) where
  d : byte_at s (at + 3) < length p.arities
  d = r.named.declared

  abbrev q₂ : ℕ
  q₂ = byte_at s (at + 3)

  abbrev a₂ : ℕ
  a₂ = get_or p.arities q₂ 0

  abbrev k₂ : ℕ
  k₂ = get_or p.rows q₂ 0

  abbrev rows₂ : List ℕ
  rows₂ = set p.rows q₂ (k₂ + 1)

  row_other : (i : ℕ) → (i ≡ q₂ → ⊥) → get_or rows₂ i 0 ≡ get_or p.rows i 0
  row_other i e = get_or-set_other p.rows q₂ i (k₂ + 1) 0 e

  row_same : get_or rows₂ q₂ 0 ≡ k₂ + 1
  row_same = get_or-set_same p.rows q₂ (k₂ + 1) 0 (omega (arith, w.rows_length, w.predicates))

  keeps : (i : ℕ) → i < length p.arities → (k : ℕ) → k < get_or p.rows i 0
      → row_of (get_or p.arities i 0) (with_cells s at p cells) (with_index s at p index) i k ≡ row_of (get_or p.arities i 0) cells index i k
  keeps i l k h =
      let c = rows_few p w i l in
      same_row cells index q₂ k₂ p.total a₂ (cell_from s (at + 4)) i k (get_or p.arities i 0) (w.arity i)
      (omega (arith, w.total)) (omega (arith, r.count, r.room)) (λ e. rw e at h) (f.inside i k l h)

  tables_row : tables_of p.arities rows₂ (with_cells s at p cells) (with_index s at p index)
      ≡ set (tables_of p.arities p.rows cells index) q₂ (get_or (tables_of p.arities p.rows cells index) q₂ [] ++ (row_in s at a₂ ∷ []))
  unfolding tables_of
  tables_row =
      tab_set (length p.arities) q₂ _ (λ (q : ℕ). tab (get_or p.rows q 0) (row_of (get_or p.arities q 0) cells index q)) _ d
      (rw (get_or_tab (λ (q : ℕ). tab (get_or p.rows q 0) (row_of (get_or p.arities q 0) cells index q)) (length p.arities) q₂ [] d, row_same)
      (sym (tab_grow k₂ _ (row_of a₂ cells index q₂) (row_in s at a₂) (keeps q₂ d)
      (new_row cells index q₂ k₂ p.total a₂ (cell_from s (at + 4)) (omega (arith, f.cells_length, r.room, w.arity q₂)) (omega (arith, f.index_length, w.predicates, r.count, r.room))))))
      (λ i l e. rw (row_other i e) (tab_ext (get_or p.rows i 0) _ _ (keeps i l)))

  pub row_read : tag_of (tag_at s at) ≡ row_tag → read_of (with_row s at (in_group 2 p)) (with_cells s at p cells) (with_index s at p index) ≡ after s at (read_of p cells index)
  row_read e =
      rw (after_2 s at (read_of p cells index) e, places_is row_tag s at (at + 3) p (omega arith) (omega arith))
      (λ i. read_with 2 p.places p.arities (tables_row i) p.rule.solved (heads_of p.rule) (body_of p.rule))

  pub row_well : Well (with_row s at (in_group 2 p))
  row_well = record {
    predicates = w.predicates;
    solved = w.solved;
    heads = w.heads;
    places = w.places;
    items = w.items;
    rows_length = length-set p.rows q₂ (k₂ + 1) ∙ w.rows_length;
    bound_length = w.bound_length;
    total = omega (arith, r.room);
    arity = w.arity;
    sums = sum_set (length p.arities) q₂ _ (λ (q : ℕ). get_or p.rows q 0) d row_same row_other ∙ ap (λ (i : ℕ). i + 1) w.sums;
    bound = w.bound;
  }

  inside_row : (i k : ℕ) → i < length p.arities → Dec (row_limit * i + k ≡ row_limit * q₂ + k₂) → k < get_or rows₂ i 0 → get_or (with_index s at p index) (row_limit * i + k) 0 < p.total + 1
  inside_row i k l (yes e) h =
      rw (e, get_or-set_same index (row_limit * q₂ + k₂) p.total 0 (omega (arith, f.index_length, w.predicates, r.count, r.room))) (omega arith)
  inside_row i k l (no ne) h =
      rw (get_or-set_other index (row_limit * q₂ + k₂) (row_limit * i + k) p.total 0 ne) (omega (arith, f.inside i k l (inner (ℕ_discrete i q₂))))
    where
      inner : Dec (i ≡ q₂) → k < get_or p.rows i 0
      inner (yes e) =
          let m : k < k₂ + 1 = rw (e, row_same) at h in
          let x : k ≡ k₂ → ⊥ = λ g. ne (rw (e, g)) in
          rw e (omega (arith, x))
      inner (no e) = rw (row_other i e) at h

  pub row_filled : Filled (with_row s at (in_group 2 p)) (with_cells s at p cells) (with_index s at p index)
  row_filled = record {
    cells_length = length_puts cells (arity_limit * p.total) a₂ (cell_from s (at + 4)) ∙ f.cells_length;
    index_length = length-set index (row_limit * q₂ + k₂) p.total ∙ f.index_length;
    inside = λ i k l h. inside_row i k l (ℕ_discrete (row_limit * i + k) (row_limit * q₂ + k₂)) h;
  }

-- a head

after_3 : (s : List ℕ) (at : ℕ) (st : Read) → tag_of (tag_at s at) ≡ head_tag
    → after s at st
    ≡ read_with 3 (st.places ++ (at ∷ [])) st.job.arities st.job.rows st.job.rule.solved
    (st.job.rule.heads ++ (head_in s at (places_at head_tag s at st.job.arities) ∷ [])) st.job.rule.body
unfolding after added placed
after_3 s at st e = rw e refl

module _ (s : List ℕ) (at : ℕ) (p : Progress) (w : Well p) (cells index : List ℕ) (room : length p.rule.heads < head_limit) where
  abbrev a₃ : ℕ
  a₃ = get_or p.arities (byte_at s (at + 3)) 0

  abbrev new₃ : Progress
  new₃ = with_head s at (in_group 3 p)

  heads_grow : heads_of new₃.rule ≡ heads_of p.rule ++ (head_in s at a₃ ∷ [])
  unfolding heads_of
  heads_grow = map_append head_of p.rule.heads (head_from s at a₃ ∷ []) ∙ ap (λ (h : Head). heads_of p.rule ++ (h ∷ [])) (head_is s at a₃)

  pub head_read : tag_of (tag_at s at) ≡ head_tag → read_of new₃ cells index ≡ after s at (read_of p cells index)
  unfolding tables_of body_of
  head_read e =
      rw (after_3 s at (read_of p cells index) e, places_is head_tag s at (at + 3) p (omega arith) (omega arith))
      (λ i. read_with 3 new₃.places p.arities (tables_of p.arities p.rows cells index) p.rule.solved (heads_grow i) (body_of p.rule))

  pub head_well : Well new₃
  unfolding body_of
  head_well = record {
    predicates = w.predicates;
    solved = w.solved;
    heads = omega (arith, length_push p.rule.heads (head_from s at a₃));
    places = length_push p.places at ∙ ap (λ (i : ℕ). i + 1) w.places ∙ sym (length_push p.rule.heads (head_from s at a₃));
    items = w.items;
    rows_length = w.rows_length;
    bound_length = w.bound_length;
    total = w.total;
    arity = w.arity;
    sums = w.sums;
    bound = w.bound;
  }

-- a body item

after_4 : (s : List ℕ) (at : ℕ) (st : Read) → tag_of (tag_at s at) ≡ literal_tag
    → after s at st
    ≡ read_with 4 st.places st.job.arities st.job.rows st.job.rule.solved st.job.rule.heads
    (st.job.rule.body ++ (literal_in s at (places_at literal_tag s at st.job.arities) ∷ []))
unfolding after added placed
after_4 s at st e = rw e refl

after_rest : (k : Comparison) (s : List ℕ) (at : ℕ) (st : Read) → tag_of (tag_at s at) ≡ comparison_tag k
    → after s at st
    ≡ read_with 4 st.places st.job.arities st.job.rows st.job.rule.solved st.job.rule.heads (st.job.rule.body ++ (comparison_in k s at ∷ []))
unfolding after added placed
after_rest k s at st e = rw e refl

module _ (x : ItemR) (p : Progress) (b : List Bool) (w : Well p) (room : length p.rule.items < item_limit) (cells index : List ℕ) where
  abbrev new₄ : Progress
  new₄ = with_item x (in_group 4 p) b

  body_grow : body_of new₄.rule ≡ body_of p.rule ++ (item_of x ∷ [])
  unfolding body_of
  body_grow = map_append item_of p.rule.items (x ∷ [])

  pub item_read : (y : Item) → item_of x ≡ y
      → read_of new₄ cells index ≡ read_with 4 p.places p.arities (tables_of p.arities p.rows cells index) p.rule.solved (heads_of p.rule) (body_of p.rule ++ (y ∷ []))
  unfolding tables_of heads_of
  item_read y q = λ i. read_with 4 p.places p.arities (tables_of p.arities p.rows cells index) p.rule.solved (heads_of p.rule) ((body_grow ∙ ap (λ (z : Item). body_of p.rule ++ (z ∷ [])) q) i)

  pub item_well : length b ≡ length p.bound → Bound b (body_of p.rule ++ (item_of x ∷ [])) → Well new₄
  item_well l h = record {
    predicates = w.predicates;
    solved = w.solved;
    heads = w.heads;
    places = w.places;
    items = omega (arith, length_push p.rule.items x);
    rows_length = w.rows_length;
    bound_length = l ∙ w.bound_length;
    total = w.total;
    arity = w.arity;
    sums = w.sums;
    bound = λ v. h v ∙ ap (any (holds v)) (sym body_grow);
  }

module _ (s : List ℕ) (at : ℕ) (p : Progress) (w : Well p) (room : length p.rule.items < item_limit) (cells index : List ℕ) where
  pub comparison_read : (k : Comparison) → tag_of (tag_at s at) ≡ comparison_tag k
      → read_of (with_comparison k s at (in_group 4 p)) cells index ≡ after s at (read_of p cells index)
  comparison_read k e =
      item_read (comparison_from k s at) p p.bound w room cells index (comparison_in k s at) (comparison_is k s at) ∙ sym (after_rest k s at (read_of p cells index) e)

  pub literal_read : tag_of (tag_at s at) ≡ literal_tag → read_of (with_literal s at (in_group 4 p)) cells index ≡ after s at (read_of p cells index)
  literal_read e =
      item_read (literal_of s at p) p (marked_by (literal_of s at p) p.bound) w room cells index (literal_in s at (get_or p.arities (byte_at s (at + 4)) 0)) (literal_is s at (get_or p.arities (byte_at s (at + 4)) 0))
      ∙ sym (after_4 s at (read_of p cells index) e ∙ rw (places_is literal_tag s at (at + 4) p (omega arith) (omega arith)) refl)
