-- What the absence of a fault says of a field, and what each way of growing asks.
use Prim.Native.Nat.{ℕ, ◌+◌, ◌*◌, ◌<◌, ◌≤◌}
use mathlib.Core.Path.{◌≡◌, refl, sym, ap, ◌∙◌}
use mathlib.Core.Bool.{Bool, true, false, not, ◌||◌, ◌&&◌}
use mathlib.Core.Option.{none}
use mathlib.Core.List.{List, [], ◌∷◌}
use Rattle.std.specs.Prelude.{Ok}
use native.Mathlib.Omega.{arith}
use borrow.Author.Tests.{ltb-false, leb-false, lt-ltb}
use lib.Dec.{ltb, leb, eqb}
use lib.ListN.{length, get_or}
use Rattle.meaning.specs.Job.{predicate_limit, head_limit, item_limit, arity_limit, Comparison, comparison}
use Rattle.meaning.specs.Reading.{byte_at, Tag, predicate_tag, row_tag, head_tag, literal_tag, comparison_tag, tag_at, length_at, tag_of, line_of, predicate_at, out_of_range, counted, refusals, first, terms_at}
use Rattle.rule.specs.Rule.{body_of}
use Rattle.job.specs.Bound.{marked_by}
use Rattle.job.specs.Progress.{comparison_from, count_of, job_with, Well, Filled}
use Rattle.job.specs.Table.{no_tag, places_in}
use Rattle.job.specs.Fault.{Judges}
use Rattle.job.specs.Grow.{in_group, Named, RowReady, RowAdded, Sound, Ready, Stepped, with_predicate, with_head, literal_of, with_literal, with_comparison, next_record, next_cells, next_index}
use Rattle.job.specs.declared.progress.Progress.{Progress}
use Rattle.job.proofs.Judging.{count_is}
use Rattle.job.proofs.Bounds.{or_left, or_right, length_by, bound_test, bound_literal}
use Rattle.job.proofs.TermLaws.{comparison_is}
use Rattle.job.proofs.Growing.{rows_few, places_is, predicate_read, predicate_well, predicate_filled, row_read, row_well, row_filled, head_read, head_well, item_well, literal_read, comparison_read}

unskip : (n : ℕ) (b : Bool) (fs : List (ℕ × Bool)) → none ≡ first ((n, b) ∷ fs) → (b ≡ false) × (none ≡ first fs)
unfolding first
unskip n true fs e = cc
unskip n false fs e = (refl, e)

and_true : (a b : Bool) → a ≡ true → (a && b) ≡ false → b ≡ false
and_true a b e h = rw e at h

pub sound : (s : List ℕ) (at : ℕ) (p : Progress) → Well p → Judges (Ok tt) s at p 0 → Sound s at p
unfolding Judges refusals
sound s at p w j =
    let t = tag_of (tag_at s at) in
    let a = unskip 2 (ltb (length s) (at + 3) || ltb (length s) (at + 3 + length_at s at)) _ (j [] []) in
    let b = unskip 3 (no_tag (tag_at s at)) _ a.1 in
    let c = unskip 4 (ltb (line_of t).group p.group) _ b.1 in
    let d = unskip 5 (leb (line_of t).limit (counted t (job_with p.rule p.arities p.rows [] []))) _ c.1 in
    let e = unskip 7 (ltb (length_at s at) (line_of t).up_to) _ d.1 in
    let f = unskip 6 (ltb 0 (line_of t).up_to && leb (length p.arities) (predicate_at t s at)) _ e.1 in
    let g = unskip 7 (not (eqb (length_at s at) ((line_of t).smallest + (line_of t).each * places_in t s at p))) _ f.1 in
    let h = unskip 8 (out_of_range t s at (places_in t s at p)) _ g.1 in
    record {
      fits = ltb-false _ _ (or_right (ltb (length s) (at + 3)) _ a.0);
      limit = rw (count_is p w [] [] t) (leb-false _ _ d.0);
      declared = λ u. leb-false _ _ (and_true _ _ (lt-ltb _ _ u) f.0);
      range = h.0;
    }

module _ (s : List ℕ) (at : ℕ) (t : Tag) (p : Progress) (h : Ready s at t p) where
  module _ (x : Tag) (q : t ≡ x) where
    here : tag_of (tag_at s at) ≡ x
    here = sym h.tag_is ∙ q

    room : count_of x p < (line_of x).limit
    room = rw here at h.sound.limit

    ranged : out_of_range x s at (places_in x s at p) ≡ false
    ranged = rw here at h.sound.range

    named : (g i : ℕ) → 0 < (line_of x).up_to → at + 2 + (line_of x).up_to ≡ i → Named s i (in_group g p)
    named g i u k =
        let d : 0 < (line_of x).up_to → predicate_at x s at < length p.arities = rw here at h.sound.declared in
        record { declared = rw k at (d u); arity = h.well.arity (byte_at s i) }

  pub ready_predicate : t ≡ predicate_tag → (length p.arities < predicate_limit) × (length p.rule.solved < predicate_limit)
  unfolding count_of
  ready_predicate q = let m = room predicate_tag q in (m, omega (arith, h.well.solved))

  pub ready_row : (g : ℕ) → t ≡ row_tag → RowReady s at (in_group g p)
  unfolding count_of
  ready_row g q =
      let n = named row_tag q g (at + 3) (omega arith) (omega arith) in
      record { named = n; predicates = h.well.predicates; room = room row_tag q; count = rows_few p h.well (byte_at s (at + 3)) n.declared }

  pub ready_head : (g : ℕ) → t ≡ head_tag → Named s (at + 3) (in_group g p) × (length p.rule.heads < head_limit) × (length p.places < head_limit)
  unfolding count_of
  ready_head g q = let m = room head_tag q in (named head_tag q g (at + 3) (omega arith) (omega arith), m, omega (arith, h.well.places))

  pub ready_literal : (g : ℕ) → t ≡ literal_tag → Named s (at + 4) (in_group g p) × (length p.rule.items < item_limit)
  unfolding count_of
  ready_literal g q = (named literal_tag q g (at + 4) (omega arith) (omega arith), room literal_tag q)

  pub ready_comparison : (k : Comparison) → t ≡ comparison_tag k → length p.rule.items < item_limit
  unfolding count_of
  ready_comparison k q = room (comparison_tag k) q

  module _ (g : ℕ) (e : g ≡ (line_of t).group) (r : Progress) (cells index : List ℕ) (f : Filled p cells index) where
    group : (x : Tag) → t ≡ x → g ≡ (line_of x).group
    group x q = e ∙ ap (λ (y : Tag). (line_of y).group) q

    pub step_predicate : t ≡ predicate_tag → r ≡ with_predicate s at (in_group g p) → Stepped s at p r cells index cells index
    unfolding out_of_range next_record next_cells next_index
    step_predicate q k =
        let m = (ready_predicate q).0 in
        let a : byte_at s (at + 3) ≤ arity_limit = ltb-false arity_limit (byte_at s (at + 3)) (or_left (ltb arity_limit (byte_at s (at + 3))) _ (ranged predicate_tag q)) in
        rw (k, group predicate_tag q)
        (record {
          read = predicate_read s at p h.well m cells index (here predicate_tag q);
          record_is = rw (here predicate_tag q) refl;
          cells_are = rw (here predicate_tag q) refl;
          index_is = rw (here predicate_tag q) refl;
          well = predicate_well s at p h.well m cells index a;
          filled = predicate_filled s at p h.well m cells index f;
        })

    pub step_row : (cells' index' : List ℕ) → t ≡ row_tag → RowAdded s at (in_group g p) r cells index cells' index' → Stepped s at p r cells index cells' index'
    unfolding next_record next_cells next_index
    step_row cells' index' q k =
        let m = ready_row p.group q in
        rw (k.record_is, k.cells_are, k.index_is, group row_tag q)
        (record {
          read = row_read s at p h.well cells index f m (here row_tag q);
          record_is = rw (here row_tag q) refl;
          cells_are = rw (here row_tag q) refl;
          index_is = rw (here row_tag q) refl;
          well = row_well s at p h.well cells index f m;
          filled = row_filled s at p h.well cells index f m;
        })

    pub step_head : t ≡ head_tag → r ≡ with_head s at (in_group g p) → Stepped s at p r cells index cells index
    unfolding next_record next_cells next_index
    step_head q k =
        let m = (ready_head g q).1 in
        rw (k, group head_tag q)
        (record {
          read = head_read s at p h.well cells index m (here head_tag q);
          record_is = rw (here head_tag q) refl;
          cells_are = rw (here head_tag q) refl;
          index_is = rw (here head_tag q) refl;
          well = head_well s at p h.well cells index m;
          filled = record { cells_length = f.cells_length; index_length = f.index_length; inside = f.inside };
        })

    pub step_literal : t ≡ literal_tag → r ≡ with_literal s at (in_group g p) → Stepped s at p r cells index cells index
    unfolding next_record next_cells next_index
    step_literal q k =
        let m = (ready_literal g q).1 in
        let n = get_or p.arities (byte_at s (at + 4)) 0 in
        let o : out_of_range literal_tag s at n ≡ false = rw (places_is literal_tag s at (at + 4) p (omega arith) (omega arith)) at (ranged literal_tag q) in
        rw (k, group literal_tag q)
        (record {
          read = literal_read s at p h.well m cells index (here literal_tag q);
          record_is = rw (here literal_tag q) refl;
          cells_are = rw (here literal_tag q) refl;
          index_is = rw (here literal_tag q) refl;
          well = item_well (literal_of s at p) p (marked_by (literal_of s at p) p.bound) h.well m cells index (length_by p.bound (literal_of s at p)) (bound_literal p.bound (body_of p.rule) h.well.bound s at n h.well.bound_length o);
          filled = record { cells_length = f.cells_length; index_length = f.index_length; inside = f.inside };
        })

    pub step_comparison : (c : Comparison) → t ≡ comparison_tag c → r ≡ with_comparison c s at (in_group g p) → Stepped s at p r cells index cells index
    unfolding next_record next_cells next_index
    step_comparison c q k =
        let m = ready_comparison c q in
        rw (k, group (comparison_tag c) q)
        (record {
          read = comparison_read s at p h.well m cells index c (here (comparison_tag c) q);
          record_is = rw (here (comparison_tag c) q) refl;
          cells_are = rw (here (comparison_tag c) q) refl;
          index_is = rw (here (comparison_tag c) q) refl;
          well = item_well (comparison_from c s at) p p.bound h.well m cells index refl
              (rw (comparison_is c s at) (bound_test p.bound (body_of p.rule) h.well.bound (comparison c) (terms_at s (at + 3) 2)));
          filled = record { cells_length = f.cells_length; index_length = f.index_length; inside = f.inside };
        })
