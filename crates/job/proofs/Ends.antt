-- After the last field, and the reading as a whole.
use Prim.Native.Nat.{ℕ, zero, suc, ◌+◌, ◌<◌, ◌≤◌}
use mathlib.Core.Path.{◌≡◌, refl, sym, ap, ◌∙◌}
use mathlib.Core.Bool.{Bool, true, false}
use mathlib.Core.Option.{Option, none, some}
use mathlib.Core.List.{List, map}
use Rattle.std.specs.Prelude.{Result, Ok, Err, OnOk, drop}
use native.Mathlib.Omega.{arith}
use native.Mathlib.Numerals.{add-one}
use borrow.Author.Tests.{lt-ltb, le-ltb, eq-eqb, ne_eqb}
use lib.ListN.{length, get_or, replicate, drop_of_length-le}
use lib.Seq.{drop-cons}
use Rattle.std.proofs.lemmas.List.{length-map}
use Rattle.meaning.specs.Basics.{tab}
use Rattle.meaning.specs.Job.{job_limit, variable_limit, Job}
use Rattle.meaning.specs.Reading.{length_at, refusals, first, Read, after, nothing, refused, unbound_head, finish, read_from, reading}
use Rattle.rule.specs.declared.Item.{Item}
use Rattle.rule.specs.Rule.{terms_of, item_of, head_of, body_of, heads_of}
use Rattle.rule.specs.Limits.{cell_limit, index_limit}
use Rattle.job.specs.Bound.{free}
use Rattle.job.specs.Progress.{nothing_yet, tables_of, read_of, sum, Well, Filled}
use Rattle.job.specs.Fault.{number_of, Judges}
use Rattle.job.specs.Answer.{verdict_of, LastIs, made_of, Kept}
use Rattle.job.specs.Grow.{Stepped}
use Rattle.job.specs.declared.progress.Progress.{Progress}
use Rattle.job.specs.declared.fault.Fault.{Fault}
use Rattle.job.specs.declared.fault.Refusal.{Refusal}
use Rattle.job.specs.declared.fault.Fault.TheVariants.{Long, Unsafe, Empty}
use Rattle.job.proofs.Bounds.{free_is}
use Rattle.job.proofs.Growing.{rows_few}

-- the heads

-- the place of the first head from i on that is not bound
pub loose_from : ℕ → Progress → Option ℕ
loose_from i p = unbound_head (body_of p.rule) (map head_of (drop i p.rule.heads)) (drop i p.places)

module _ (s : List ℕ) (p : Progress) (w : Well p) where
  module _ (i : ℕ) (x : Item) (l : i < length p.rule.heads) (q : x ≡ get_or p.rule.heads i x) where
    heads_from : loose_from i p ≡ elim (free p.bound x.terms) [ true ↦ some (get_or p.places i 0) | false ↦ loose_from (suc i) p ]
    unfolding loose_from unbound_head terms_of
    heads_from =
        rw (drop-cons p.rule.heads i x l, drop-cons p.places i 0 (omega (arith, w.places)), ← q)
        (ap (λ (b : Bool). elim b [ true ↦ some (get_or p.places i 0) | false ↦ loose_from (suc i) p ]) (sym (free_is p.bound (body_of p.rule) x.terms w.bound)))

    module _ (e : loose_from i p ≡ loose_from 0 p) where
      pub last_unsafe : free p.bound x.terms ≡ true → LastIs (Err (record { fault = Unsafe; place = get_or p.places i 0 })) s p
      unfolding LastIs verdict_of finish loose_from heads_of
      last_unsafe f cells index =
          let k : loose_from 0 p ≡ some (get_or p.places i 0) = sym e ∙ heads_from ∙ rw f refl in
          sym (rw (k, finish) refl)

      pub last_more : free p.bound x.terms ≡ false → loose_from (i + 1) p ≡ loose_from 0 p
      last_more f = rw add-one (sym (heads_from ∙ rw f refl) ∙ e)

  size_is : length (heads_of p.rule) + length (body_of p.rule) ≡ length p.rule.heads + length p.rule.items
  unfolding heads_of body_of
  size_is = rw (length-map p.rule.heads head_of, length-map p.rule.items item_of) refl

  module _ (i : ℕ) (k : length p.rule.heads ≤ i) (e : loose_from i p ≡ loose_from 0 p) where
    none_loose : unbound_head (body_of p.rule) (heads_of p.rule) p.places ≡ none
    unfolding loose_from heads_of unbound_head
    none_loose = sym e ∙ rw (drop_of_length-le p.rule.heads k) refl

    pub last_empty : length p.rule.heads + length p.rule.items ≡ 0 → LastIs (Err (record { fault = Empty; place = length s })) s p
    unfolding LastIs verdict_of finish
    last_empty z cells index = rw (none_loose, finish, size_is, eq-eqb _ _ z) refl

    pub last_fine : (length p.rule.heads + length p.rule.items ≡ 0 → ⊥) → LastIs (Ok tt) s p
    unfolding LastIs verdict_of finish
    last_fine z cells index = rw (none_loose, finish, size_is, ne_eqb _ _ z) refl

-- the reading

-- what is left to read from `at` on is what the whole job says
pub record Going (s : List ℕ) (at : ℕ) (st : Read) : Type 0 where
  pub fuel : ℕ
  pub enough : length s ≤ fuel + at
  pub same : read_from fuel s at st ≡ reading s

pub begins : (s : List ℕ) → length s ≤ job_limit → Going s 0 nothing
unfolding reading
begins s h = record { fuel = length s; enough = omega arith; same = sym (rw (le-ltb job_limit (length s) h, reading) refl) }

pub too_long : (s : List ℕ) (J : Job) → job_limit < length s → verdict_of (Err (record { fault = Long; place = 0 })) J ≡ reading s
unfolding reading verdict_of
too_long s J h = rw (lt-ltb job_limit (length s) h, reading) refl

module _ (s : List ℕ) (at : ℕ) (st : Read) (g : Going s at st) where
  pub goes_on : (st' : Read) → at < length s → none ≡ first (refusals s at st) → st' ≡ after s at st → Going s (at + 3 + length_at s at) st'
  unfolding read_from
  goes_on st' l f e = go g.fuel g.enough g.same
    where
      go : (k : ℕ) → length s ≤ k + at → read_from k s at st ≡ reading s → Going s (at + 3 + length_at s at) st'
      go zero h q = absurd (omega arith)
      go (suc k) h q = record { fuel = k; enough = omega arith; same = rw e (sym (rw (lt-ltb at (length s) l, read_from, ← f) refl) ∙ q) }

  pub stops : (n : ℕ) → at < length s → some n ≡ first (refusals s at st) → refused n at ≡ reading s
  unfolding read_from
  stops n l f = go g.fuel g.enough g.same
    where
      go : (k : ℕ) → length s ≤ k + at → read_from k s at st ≡ reading s → refused n at ≡ reading s
      go zero h q = absurd (omega arith)
      go (suc k) h q = sym (rw (lt-ltb at (length s) l, read_from, ← f) refl) ∙ q

  pub ends : length s ≤ at → finish s st ≡ reading s
  unfolding read_from
  ends l = go g.fuel g.same
    where
      go : (k : ℕ) → read_from k s at st ≡ reading s → finish s st ≡ reading s
      go zero q = q
      go (suc k) q = sym (rw (le-ltb at (length s) l, read_from) refl) ∙ q

-- the loop

well_yet : Well nothing_yet
unfolding nothing_yet body_of sum
well_yet = record {
  predicates = omega arith;
  solved = refl;
  heads = omega arith;
  places = refl;
  items = omega arith;
  rows_length = refl;
  bound_length = refl;
  total = omega arith;
  arity = λ q. omega arith;
  sums = refl;
  bound = λ v. falses variable_limit v;
}
  where
    falses : (n l : ℕ) → get_or (replicate n false) l false ≡ false
    falses zero l = refl
    falses (suc n) zero = refl
    falses (suc n) (suc l) = falses n l

pub starts : (s : List ℕ) (p : Progress) (cells index : List ℕ) → p ≡ nothing_yet → length cells ≡ cell_limit → length index ≡ index_limit → length s ≤ job_limit
    → Well p × Filled p cells index × Going s 0 (read_of p cells index)
starts s p cells index e hc hi h =
    rw e (well_yet, record { cells_length = hc; index_length = hi; inside = λ q k l m. absurd (inside_none q l) }, rw (read_yet cells index) (begins s h))
  where
    inside_none : (q : ℕ) → q < length nothing_yet.arities → ⊥
    inside_none q l = unfold nothing_yet in omega arith

    read_yet : (cells index : List ℕ) → read_of nothing_yet cells index ≡ nothing
    read_yet cells index = unfold nothing_yet tables_of heads_of body_of tab in refl

module _ (s : List ℕ) (at : ℕ) (p : Progress) (cells index : List ℕ) (g : Going s at (read_of p cells index)) (l : at < length s) where
  pub refuses : (f : Fault) (J : Job) → Judges (Err f) s at p 0 → verdict_of (Err (record { fault = f; place = at })) J ≡ reading s
  unfolding Judges verdict_of
  refuses f J j = stops s at (read_of p cells index) g (number_of f) l (j cells index)

  pub continues : (p' : Progress) (cells' index' : List ℕ) (n : ℕ) → Judges (Ok tt) s at p 0 → Stepped s at p p' cells index cells' index' → n ≡ length_at s at
      → Going s (at + 3 + n) (read_of p' cells' index')
  unfolding Judges
  continues p' cells' index' n j q k = rw k (goes_on s at (read_of p cells index) g (read_of p' cells' index') l (j cells index) q.read)

pub accepts : (s : List ℕ) (at : ℕ) (p : Progress) (cells index : List ℕ) (r : Result (Unit {0}) Refusal) → Going s at (read_of p cells index) → length s ≤ at → LastIs r s p
    → verdict_of r (read_of p cells index).job ≡ reading s
unfolding LastIs
accepts s at p cells index r g l h = h cells index ∙ ends s at (read_of p cells index) g l

pub kept : (p : Progress) (cells index : List ℕ) → Well p → Filled p cells index → (r : Result (Unit {0}) Refusal) → OnOk r (Kept (made_of p) cells index)
kept p cells index w f (Ok u) = record {
  cells_length = f.cells_length;
  index_length = f.index_length;
  predicates = w.predicates;
  heads = w.heads;
  items = w.items;
  total = w.total;
  solved = w.solved;
  arity = w.arity;
  rows = rows_few p w;
  inside = f.inside;
}
kept p cells index w f (Err e) = tt
