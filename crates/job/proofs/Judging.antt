-- The refusals of a field, one law for each way out of the judging functions.
use Prim.Native.Nat.{ℕ, zero, suc, ◌+◌, ◌<◌, ◌≤◌}
use mathlib.Core.Path.{◌≡◌, refl, sym, ap, ◌∙◌}
use mathlib.Core.Bool.{Bool, true, false, not, cond, ◌||◌, ◌&&◌}
use mathlib.Core.Option.{Option, none, some}
use mathlib.Core.List.{List, [], ◌∷◌, ◌++◌, flatten, append-nil}
use Rattle.std.specs.Prelude.{Result, Ok, Err, Some, None}
use native.Mathlib.Omega.{arith}
use borrow.Author.Tests.{lt-ltb, le-ltb, le-leb, lt-leb, eq-eqb, ne_eqb}
use lib.Dec.{ltb, leb, eqb}
use lib.ListN.{length, get_or, length-append}
use Rattle.std.proofs.lemmas.Bool.{cases_lt}
use Rattle.std.proofs.lemmas.List.{length-map}
use Rattle.std.proofs.lemmas.Option.{slice_get-get_or, slice_get_past}
use Rattle.std.specs.List.{slice_get}
use Rattle.std.specs.Option.{ok_or}
use mathlib.Core.Logic.{⊎_elim}
use Rattle.meaning.specs.Basics.{tab}
use Rattle.meaning.specs.Reading.{Tag, predicate_tag, row_tag, head_tag, literal_tag, comparison_tag, byte_at, tag_at, length_at, tag_of, line_of, predicate_at, places_at, out_of_range, unbound_in, counted, refusals, first}
use Rattle.meaning.proofs.Tab.{length_tab}
use Rattle.rule.specs.Rule.{body_of, heads_of}
use Rattle.reader.specs.Field.{field_at}
use Rattle.reader.specs.declared.Field.{Field}
use Rattle.job.specs.Progress.{count_of, tables_of, row_of, job_with, sum, Well}
use Rattle.job.specs.Table.{no_tag, LineIs, exact_of, places_in, undeclared, PlacesAre}
use Rattle.job.specs.Fault.{Judges, FieldAt}
use Rattle.job.specs.declared.progress.Progress.{Progress}
use Rattle.job.specs.declared.table.Line.{Line}
use Rattle.job.specs.declared.fault.Fault.{Fault}
use Rattle.job.specs.declared.fault.Fault.TheVariants.{Cut, Tag as NoTag, Group, Limit, Undeclared, Length, Range, Unbound}

-- the first fault

here : (n : ℕ) (b : Bool) (fs : List (ℕ × Bool)) → b ≡ true → some n ≡ first ((n, b) ∷ fs)
unfolding first
here n b fs e = rw (e, first) refl

skip : (n : ℕ) (b : Bool) (fs : List (ℕ × Bool)) (x : Option ℕ) → b ≡ false → x ≡ first fs → x ≡ first ((n, b) ∷ fs)
unfolding first
skip n b fs x e h = rw (e, first) h

end : none ≡ first []
unfolding first
end = refl

-- how many there are

flatten_snoc : {A : Type 0} (xs : List (List A)) (y : List A) → length (flatten (xs ++ (y ∷ []))) ≡ length (flatten xs) + length y
unfolding flatten
flatten_snoc [] y = rw append-nil (omega arith)
flatten_snoc (x ∷ xs) y = rw (length-append x (flatten (xs ++ (y ∷ []))), length-append x (flatten xs), flatten_snoc xs y) (omega arith)

pub flatten_tab : {A : Type 0} (n : ℕ) (k : ℕ → ℕ) (g : ℕ → ℕ → A) → length (flatten (tab n (λ (q : ℕ). tab (k q) (g q)))) ≡ sum n k
unfolding tab sum flatten
flatten_tab zero k g = refl
flatten_tab (suc n) k g = flatten_snoc (tab n (λ (q : ℕ). tab (k q) (g q))) (tab (k n) (g n)) ∙ rw (flatten_tab n k g, length_tab (g n) (k n))

pub count_is : (p : Progress) → Well p → (cells index : List ℕ) (t : Tag) → count_of t p ≡ counted t (job_with p.rule p.arities p.rows cells index)
unfolding count_of counted tables_of heads_of body_of
count_is p w cells index predicate_tag = refl
count_is p w cells index row_tag = sym (flatten_tab (length p.arities) (λ (q : ℕ). get_or p.rows q 0) (λ (q : ℕ). row_of (get_or p.arities q 0) cells index q) ∙ w.sums)
count_is p w cells index head_tag = sym (length-map _ _)
count_is p w cells index literal_tag = sym (length-map _ _)
count_is p w cells index (comparison_tag k) = sym (length-map _ _)

-- the field

module _ (s : List ℕ) (at : ℕ) (p : Progress) where
  abbrev short : Bool
  short = ltb (length s) (at + 3) || ltb (length s) (at + 3 + length_at s at)

  abbrev whole : Field
  whole = record { tag = tag_at s at; length = length_at s at }

  pub judge_cut : None ≡ field_at s at → Judges (Err Cut) s at p 0
  unfolding Judges refusals field_at
  judge_cut e cells index = here 2 _ _ (go short e)
    where
      go : (b : Bool) → None ≡ cond b None (Some whole) → b ≡ true
      go true e = refl
      go false e = cc

  module _ (f : Field) (e : Some f ≡ field_at s at) where
    field_is : (short ≡ false) × (f.tag ≡ tag_at s at) × (f.length ≡ length_at s at)
    unfolding field_at
    field_is = go short e
      where
        go : (b : Bool) → Some f ≡ cond b None (Some whole) → (b ≡ false) × (f.tag ≡ tag_at s at) × (f.length ≡ length_at s at)
        go false e = let q : f ≡ whole = cc in (refl, ap (λ (x : Field). x.tag) q, ap (λ (x : Field). x.length) q)
        go true e = cc

    pub judge_no_tag : no_tag f.tag ≡ true → Judges (Err NoTag) s at p 0
    unfolding Judges refusals
    judge_no_tag h cells index = skip 2 _ _ _ field_is.0 (here 3 _ _ (rw field_is.1 at h))

    module _ (h : no_tag f.tag ≡ false) where
      pub field_here : (t : Tag) → t ≡ tag_of f.tag → FieldAt s at t f.length
      field_here t q = record { tag_is = q ∙ ap tag_of field_is.1; length_is = field_is.2 }

      pub judge_field : (x : Result (Unit {0}) Fault) → Judges x s at p 2 → Judges x s at p 0
      unfolding Judges refusals
      judge_field x j cells index = skip 2 _ _ _ field_is.0 (skip 3 _ _ _ (rw field_is.1 at h) (j cells index))

-- the predicate that the field names

module _ (t : Tag) (s : List ℕ) (at : ℕ) (p : Progress) (r : Line) (l : LineIs r (line_of t)) where
  pub names_none : r.upto ≡ 0 → PlacesAre (Ok 0) t s at p
  unfolding PlacesAre undeclared places_at
  names_none z = let e : (line_of t).up_to ≡ 0 = sym l.up_to ∙ z in (rw e, rw (e, places_at) refl, omega arith)

  module _ (k : ℕ) (n : r.upto ≡ 0 → ⊥) (e : k ≡ byte_at s (at + (2 + r.upto))) where
    names : ltb 0 (line_of t).up_to ≡ true
    names = lt-ltb 0 (line_of t).up_to (omega (arith, n, l.up_to))

    named : k ≡ predicate_at t s at
    named = e ∙ ap (byte_at s) (omega (arith, l.up_to))

    pub names_found : Well p → PlacesAre (ok_or (slice_get p.arities k) Undeclared) t s at p
    unfolding PlacesAre undeclared places_at
    names_found w =
        ⊎_elim
        (λ h. rw (slice_get-get_or p.arities k 0 h) (rw (names, ← named) (lt-leb _ _ h), rw (names, places_at, ← named) refl, w.arity k))
        (λ h. rw (slice_get_past p.arities k h) (refl, rw (names, ← named) (le-leb _ _ h)))
        (cases_lt k (length p.arities))

-- the ways out

module _ (s : List ℕ) (at : ℕ) (t : Tag) (len : ℕ) (p : Progress) (f : FieldAt s at t len) where
  -- 7, 8, 9
  module _ (n : ℕ) (q : n ≡ places_in t s at p) where
    pub content_length : (len ≡ exact_of t n → ⊥) → Judges (Err Length) s at p 6
    unfolding Judges refusals
    content_length h cells index = here 7 _ _ (rw (← f.tag_is, ← f.length_is, ← q, ne_eqb _ _ h) refl)

    module _ (e : len ≡ exact_of t n) where
      exact : not (eqb (length_at s at) (exact_of (tag_of (tag_at s at)) (places_in (tag_of (tag_at s at)) s at p))) ≡ false
      exact = rw (← f.tag_is, ← f.length_is, ← q, eq-eqb _ _ e) refl

      pub content_range : out_of_range t s at n ≡ true → Judges (Err Range) s at p 6
      unfolding Judges refusals
      content_range h cells index = skip 7 _ _ _ exact (here 8 _ _ (rw (q, f.tag_is) at h))

      pub content_unbound : out_of_range t s at n ≡ false → unbound_in t s at n (body_of p.rule) ≡ true → Judges (Err Unbound) s at p 6
      unfolding Judges refusals
      content_unbound g h cells index = skip 7 _ _ _ exact (skip 8 _ _ _ (rw (q, f.tag_is) at g) (here 9 _ _ (rw (q, f.tag_is) at h)))

      pub content_fine : out_of_range t s at n ≡ false → unbound_in t s at n (body_of p.rule) ≡ false → Judges (Ok tt) s at p 6
      unfolding Judges refusals
      content_fine g h cells index = skip 7 _ _ _ exact (skip 8 _ _ _ (rw (q, f.tag_is) at g) (skip 9 _ _ _ (rw (q, f.tag_is) at h) end))

  -- 7, 6
  pub named_short : len < (line_of t).up_to → Judges (Err Length) s at p 4
  unfolding Judges refusals
  named_short h cells index = here 7 _ _ (rw (← f.tag_is, ← f.length_is) (lt-ltb _ _ h))

  module _ (h : (line_of t).up_to ≤ len) where
    fits : ltb (length_at s at) (line_of (tag_of (tag_at s at))).up_to ≡ false
    fits = rw (← f.tag_is, ← f.length_is) (le-ltb _ _ h)

    declared : (b : Bool) → undeclared t s at p ≡ b
        → (ltb 0 (line_of (tag_of (tag_at s at))).up_to && leb (length p.arities) (predicate_at (tag_of (tag_at s at)) s at)) ≡ b
    unfolding undeclared
    declared b e = rw (← f.tag_is) e

    pub named_missing : undeclared t s at p ≡ true → Judges (Err Undeclared) s at p 4
    unfolding Judges refusals
    named_missing e cells index = skip 7 _ _ _ fits (here 6 _ _ (declared true e))

    pub named_rest : (x : Result (Unit {0}) Fault) → undeclared t s at p ≡ false → Judges x s at p 6 → Judges x s at p 4
    unfolding Judges refusals
    named_rest x e j cells index = skip 7 _ _ _ fits (skip 6 _ _ _ (declared false e) (j cells index))

  -- 4, 5
  pub tag_group : (line_of t).group < p.group → Judges (Err Group) s at p 2
  unfolding Judges refusals
  tag_group h cells index = here 4 _ _ (rw (← f.tag_is) (lt-ltb _ _ h))

  module _ (w : Well p) (g : p.group ≤ (line_of t).group) where
    pub tag_limit : (line_of t).limit ≤ count_of t p → Judges (Err Limit) s at p 2
    unfolding Judges refusals
    tag_limit h cells index = skip 4 _ _ _ (rw (← f.tag_is) (le-ltb _ _ g)) (here 5 _ _ (rw (← f.tag_is, ← count_is p w cells index t) (le-leb _ _ h)))

    pub tag_rest : (x : Result (Unit {0}) Fault) → count_of t p < (line_of t).limit → Judges x s at p 4 → Judges x s at p 2
    unfolding Judges refusals
    tag_rest x h j cells index =
        skip 4 _ _ _ (rw (← f.tag_is) (le-ltb _ _ g))
        (skip 5 _ _ _ (rw (← f.tag_is, ← count_is p w cells index t) (lt-leb _ _ h)) (j cells index))
