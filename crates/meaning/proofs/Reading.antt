-- What reading accepts is sound: a field that is not refused keeps what the fields before it left, and the end adds refusals 10 and 11.
use mathlib.Core.Path.{◌≡◌, refl, sym, ap, ◌∙◌, subst}
use mathlib.Core.Bool.{Bool, true, false, not, ◌&&◌, ◌||◌}
use mathlib.Core.Logic.{◌⊎◌, inl, inr}
use mathlib.Core.List.Memᴰ
use mathlib.Core.List.{List, [], ◌∷◌, ◌++◌, flatten, Memᴰ}
use mathlib.Core.Option.{Option, none, some}
use Prim.Native.Nat.{ℕ, zero, suc, ◌+◌, ◌*◌, ◌≤◌, ◌<◌}
use native.Mathlib.Nat.{le_of_suc-le-suc, not-suc-le-zero}
use native.Mathlib.Decide.{ℕ_discrete}
use native.Mathlib.Omega.{arith}
use lib.ListN.{length, get_or, set, length-append, length-set, get_or-append, get_or-eq_default}
use lib.Seq.{get_or_at, get_or-set_same, get_or-set_other}
use lib.Dec.{T, ltb, leb, eqb}
use borrow.Author.Tests.{ltb-false, leb-false, eqb-true, eqb-false, lt-ltb}
use Rattle.meaning.specs.Basics.{tab, any, in?}
use Rattle.meaning.specs.Job.{job_limit, predicate_limit, row_limit, head_limit, item_limit, arity_limit, variable_limit, Term, number, variable, Comparison, negated, comparison, Item, positive, test, Head, Job, rows_of, terms, vars_of, vars, holds, binder, unbound, no_item, IsTest, size, item_at, Takes, Formed, Small, Sound}
use Rattle.meaning.specs.Reading.{byte_at, be32, tag_at, length_at, Tag, predicate_tag, row_tag, head_tag, literal_tag, comparison_tag, tag_of, line_of, predicate_at, places_at, term_at, term_places, terms_at, bad_term, out_of_range, row_in, head_in, literal_in, comparison_in, unbound_test, unbound_in, counted, Read, refusals, first, with_item, added, placed, after, nothing, Reading, refused, accepted, unbound_head, finish, read_from, reading}
use Rattle.meaning.proofs.Basics.{split, is_T, T_is, not_T, or_l, or_r, or_cases, lt_or_le, mem_any, in_mem}
use Rattle.meaning.proofs.Tab.{or_false, any_append, length_tab}

-- booleans

true_false : true ≡ false → ⊥
true_false e = let z : ◌≡◌ {A = ℕ} 0 1 = cc in omega arith

or_none : (a b : Bool) → a || b ≡ false → (a ≡ false) × (b ≡ false)
or_none true b e = absurd (true_false e)
or_none false b e = (refl, e)

none_passes : {A : Type 0} (f : A → Bool) (xs : List A) → any f xs ≡ false → (x : A) → Memᴰ x xs → f x ≡ false
none_passes f xs e x at = elim (split (f x)) [ inl t ↦ absurd (not_T e (mem_any f xs x at (is_T t))) | inr t ↦ t ]

-- a list and one more

module _ {A : Type 0} where
  snoc_at : (P : A → Type 0) (xs : List A) (y d : A) (i : ℕ) → (i < length xs → P (get_or xs i d)) → (i ≡ length xs → P y) → (length xs < i → P d) → P (get_or (xs ++ (y ∷ [])) i d)
  snoc_at P xs y d i f g h =
      elim (lt_or_le i (length xs)) [
        | inl l ↦ subst P (sym (get_or-append xs (y ∷ []) d i l)) (f l)
        | inr l ↦ elim (lt_or_le (length xs) i) [
          | inl k ↦ subst P (sym (get_or-eq_default (xs ++ (y ∷ [])) d (omega (arith, length-append xs (y ∷ []))))) (h k)
          | inr k ↦ let e : i ≡ length xs = omega arith in subst P (sym (get_or_at xs y [] d i (sym e))) (g e)
        ]
      ]

  pub length_snoc : (xs : List A) (y : A) → length (xs ++ (y ∷ [])) ≡ suc (length xs)
  length_snoc xs y = omega (arith, length-append xs (y ∷ []))

  mem_snoc : (P : A → Type 0) (xs : List A) (y : A) → ((x : A) → Memᴰ x xs → P x) → P y → (x : A) → Memᴰ x (xs ++ (y ∷ [])) → P x
  mem_snoc P xs y f g x at = elim (Memᴰ.append_cases xs at) [ inl u ↦ f x u | inr u ↦ subst P (sym (Memᴰ.eq_of_singleton u)) g ]

  pub length_flatten_set : (xss : List (List A)) (p : ℕ) (x : A) → p < length xss → length (flatten (set xss p (get_or xss p [] ++ (x ∷ [])))) ≡ suc (length (flatten xss))
  unfolding flatten
  length_flatten_set [] p x h = absurd (not-suc-le-zero h)
  length_flatten_set (xs ∷ xss) zero x h = omega (arith, length-append (xs ++ (x ∷ [])) (flatten xss), length-append xs (x ∷ []), length-append xs (flatten xss))
  length_flatten_set (xs ∷ xss) (suc p) x h =
      omega (arith, length-append xs (flatten (set xss p (get_or xss p [] ++ (x ∷ [])))), length-append xs (flatten xss), length_flatten_set xss p x (le_of_suc-le-suc h))

  pub length_flatten_snoc : (xss : List (List A)) → length (flatten (xss ++ ([] ∷ []))) ≡ length (flatten xss)
  unfolding flatten
  length_flatten_snoc [] = refl
  length_flatten_snoc (xs ∷ xss) = omega (arith, length-append xs (flatten (xss ++ ([] ∷ []))), length-append xs (flatten xss), length_flatten_snoc xss)

-- terms

vars_append : (ts us : List Term) (v : ℕ) → T (in? v (vars_of (ts ++ us))) → T (in? v (vars_of ts)) ⊎ T (in? v (vars_of us))
unfolding in? vars_of
vars_append [] us v t = inr t
vars_append (number n ∷ ts) us v t = vars_append ts us v t
vars_append (variable w ∷ ts) us v t = elim (or_cases (eqb v w) (any (eqb v) (vars_of (ts ++ us))) t) [
  | inl u ↦ inl (or_l (eqb v w) (any (eqb v) (vars_of ts)) u)
  | inr u ↦ elim (vars_append ts us v u) [ inl z ↦ inl (or_r (eqb v w) (any (eqb v) (vars_of ts)) z) | inr z ↦ inr z ]
]

small_term : (s : List ℕ) (i v : ℕ) → bad_term s i ≡ false → T (in? v (vars_of (term_at s i ∷ []))) → v < variable_limit
unfolding bad_term term_at in? vars_of
small_term s i v e t =
    let b = or_none (ltb 1 (byte_at s i)) (eqb (byte_at s i) 1 && leb variable_limit (be32 s (i + 1))) e in
    elim (split (eqb (byte_at s i) 0)) [
      | inl z ↦ absurd (rw (z, term_at) at t)
      | inr z ↦ let w : v ≡ be32 s (i + 1) = eqb-true v (be32 s (i + 1)) (T_is (eqb v (be32 s (i + 1))) (subst T (or_false (eqb v (be32 s (i + 1)))) (rw (z, term_at) at t))) in
          let k : byte_at s i ≡ 1 = one (byte_at s i) (ltb-false 1 (byte_at s i) b.0) (eqb-false (byte_at s i) 0 z) in
          let q : leb variable_limit (be32 s (i + 1)) ≡ false = subst (λ (n : ℕ). eqb n 1 && leb variable_limit (be32 s (i + 1)) ≡ false) k b.1 in
          omega (arith, leb-false variable_limit (be32 s (i + 1)) q)
    ]
  where
    one : (n : ℕ) → n ≤ 1 → (n ≡ 0 → ⊥) → n ≡ 1
    one zero h k = absurd (k refl)
    one (suc n) h k = omega arith

no_vars : (v : ℕ) → T (in? v (vars_of [])) → ⊥
unfolding in? vars_of
no_vars v t = t

pub small_terms : (s : List ℕ) (i n : ℕ) → any (bad_term s) (term_places i n) ≡ false → Small (terms_at s i n)
unfolding tab
small_terms s i zero e v t = absurd (no_vars v t)
small_terms s i (suc n) e v t =
    let b = or_none (any (bad_term s) (term_places i n)) (any (bad_term s) ((i + 5 * n) ∷ [])) (sym (any_append (bad_term s) (term_places i n) ((i + 5 * n) ∷ [])) ∙ e) in
    elim (vars_append (terms_at s i n) (term_at s (i + 5 * n) ∷ []) v t) [
      | inl u ↦ small_terms s i n b.0 v u
      | inr u ↦ small_term s (i + 5 * n) v (none_passes (bad_term s) ((i + 5 * n) ∷ []) b.1 (i + 5 * n) (Memᴰ.head refl)) u
    ]

-- what binds

pub binder_lt : (b : List Item) (v : ℕ) → T (any (holds v) b) → binder b v < length b
unfolding binder
binder_lt [] v t = absurd t
binder_lt (x ∷ b) v t =
    elim (split (holds v x)) [
      | inl e ↦ rw (e, binder) (omega arith)
      | inr e ↦ rw (e, binder) (let h = binder_lt b v (rw e at t) in omega arith)
    ]

binder_append : (b c : List Item) (v : ℕ) → binder b v < length b → binder (b ++ c) v ≡ binder b v
unfolding binder
binder_append [] c v h = absurd (not-suc-le-zero h)
binder_append (x ∷ b) c v h =
    elim (split (holds v x)) [
      | inl e ↦ rw (e, binder) refl
      | inr e ↦ rw (e, binder) (ap suc (binder_append b c v (le_of_suc-le-suc (rw (e, binder) at h))))
    ]

all_bound : (b : List Item) (vs : List ℕ) → unbound b vs ≡ false → (v : ℕ) → T (in? v vs) → binder b v < length b
unfolding unbound
all_bound b vs e v t = binder_lt b v (un_not (any (holds v) b) (none_passes (λ (w : ℕ). not (any (holds w) b)) vs e v (in_mem v vs t)))
  where
    un_not : (c : Bool) → not c ≡ false → T c
    un_not true q = tt
    un_not false q = absurd (true_false q)

-- the rule's part that refusal 9 keeps
abbrev TestsBound : List Item → Type 0
TestsBound b = (i v : ℕ) → i < length b → IsTest (get_or b i no_item) → T (in? v (vars (get_or b i no_item))) → binder b v < i

test_bound : (b : List Item) (x : Item) (v : ℕ) → unbound_test b x ≡ false → IsTest x → T (in? v (vars x)) → binder b v < length b
unfolding unbound_test terms
test_bound b (positive p ts) v e k t = absurd k
test_bound b (test c ts) v e k t = all_bound b (vars_of ts) e v t

tests_more : (b : List Item) (x : Item) → TestsBound b → unbound_test b x ≡ false → TestsBound (b ++ (x ∷ []))
tests_more b x old e i v h = snoc_at (λ (y : Item). IsTest y → T (in? v (vars y)) → binder (b ++ (x ∷ [])) v < i) b x no_item i
    (λ l k t. let q = old i v l k t in omega (arith, binder_append b (x ∷ []) v (omega arith)))
    (λ l k t. let q = test_bound b x v e k t in omega (arith, binder_append b (x ∷ []) v q))
    (λ l k t. absurd (omega (arith, length_snoc b x)))

-- What the fields read so far leave of the job.
record Half (J : Job) : Type 0 where
  predicates : length J.arities ≤ predicate_limit
  marks : length J.rule.solved ≡ length J.arities
  arity : (p : ℕ) → get_or J.arities p 0 ≤ arity_limit
  tables : length J.rows ≡ length J.arities
  rows : length (flatten J.rows) ≤ row_limit
  cells : (p : ℕ) (r : List ℕ) → Memᴰ r (rows_of J p) → length r ≡ get_or J.arities p 0
  heads : length J.rule.heads ≤ head_limit
  head : (h : Head) → Memᴰ h J.rule.heads → Takes J h.predicate h.terms × Small h.terms
  items : length J.rule.body ≤ item_limit
  item : (x : Item) → Memᴰ x J.rule.body → Formed J x × Small (terms x)
  tests : TestsBound J.rule.body

-- what is known of a field that is not refused, where its predicate has n places
record Passed (t : Tag) (s : List ℕ) (at n : ℕ) (J : Job) : Type 0 where
  room : counted t J < (line_of t).limit
  declared : 0 < (line_of t).up_to → predicate_at t s at < length J.arities
  places : 0 < (line_of t).up_to → n ≡ get_or J.arities (predicate_at t s at) 0
  ranged : out_of_range t s at n ≡ false
  bound : unbound_in t s at n J.rule.body ≡ false

some_none : {A : Type 0} {x : A} → some x ≡ none → ⊥
some_none e = let z : ◌≡◌ {A = ℕ} 0 1 = cc in omega arith

positive_of : (n : ℕ) → (n ≡ 0 → ⊥) → 0 < n
positive_of zero h = absurd (h refl)
positive_of (suc n) h = omega arith

pub first_none : (f : ℕ × Bool) (fs : List (ℕ × Bool)) → first (f ∷ fs) ≡ none → (f.1 ≡ false) × (first fs ≡ none)
unfolding first
first_none f fs e = elim (split f.1) [
  | inl t ↦ absurd (some_none (rw (t, first) at e))
  | inr t ↦ (t, rw (t, first) at e)
]

places_of : (t : Tag) (s : List ℕ) (at : ℕ) (ars : List ℕ) → 0 < (line_of t).up_to → places_at t s at ars ≡ get_or ars (predicate_at t s at) 0
unfolding places_at
places_of t s at ars h = rw (lt-ltb 0 (line_of t).up_to h, places_at) refl

passed : (s : List ℕ) (at : ℕ) (st : Read) → first (refusals s at st) ≡ none → let t = tag_of (tag_at s at) in Passed t s at (places_at t s at st.job.arities) st.job
unfolding refusals
passed s at st e =
    let t = tag_of (tag_at s at) in
    let e2 = first_none _ _ e in
    let e3 = first_none _ _ e2.1 in
    let e4 = first_none _ _ e3.1 in
    let e5 = first_none _ _ e4.1 in
    let e7 = first_none _ _ e5.1 in
    let e6 = first_none _ _ e7.1 in
    let x7 = first_none _ _ e6.1 in
    let e8 = first_none _ _ x7.1 in
    let e9 = first_none _ _ e8.1 in
    record {
      room = leb-false (line_of t).limit (counted t st.job) e5.0;
      declared = λ h. leb-false (length st.job.arities) (predicate_at t s at) (later (ltb 0 (line_of t).up_to) (leb (length st.job.arities) (predicate_at t s at)) (lt-ltb 0 (line_of t).up_to h) e6.0);
      places = λ h. places_of t s at st.job.arities h;
      ranged = e8.0;
      bound = e9.0;
    }
  where
    later : (a b : Bool) → a ≡ true → a && b ≡ false → b ≡ false
    later true b h k = k
    later false b h k = absurd (true_false (sym h))

-- the predicate that a literal names, by its byte
byte_at_lem : (s : List ℕ) (i j : ℕ) → i ≡ j → byte_at s i ≡ byte_at s j
byte_at_lem s i j e = ap (byte_at s) e

-- predicates more than there were take the same terms
module _ (J : Job) (a : ℕ) where
  abbrev longer : List ℕ
  longer = J.arities ++ (a ∷ [])

  arity_same : (p : ℕ) → p < length J.arities → get_or longer p 0 ≡ get_or J.arities p 0
  arity_same p h = get_or-append J.arities (a ∷ []) 0 p h

  takes_more : (p : ℕ) (ts : List Term) → Takes J p ts → (p < length longer) × (length ts ≡ get_or longer p 0)
  takes_more p ts k = (omega (arith, k.0, length_snoc J.arities a), k.1 ∙ sym (arity_same p k.0))

-- each kind of field keeps the rest

half_predicate : (s : List ℕ) (at n : ℕ) (J : Job) → Passed predicate_tag s at n J → Half J → Half (added predicate_tag s at n J)
unfolding added counted out_of_range rows_of
half_predicate s at n J f h =
    let a = byte_at s (at + 3) in
    let r = or_none (ltb arity_limit a) (ltb 1 (byte_at s (at + 4))) f.ranged in
    record {
      predicates = omega (arith, length_snoc J.arities a, f.room);
      marks = omega (arith, length_snoc J.rule.solved (eqb (byte_at s (at + 4)) 1), length_snoc J.arities a, h.marks);
      arity = λ p. snoc_at (λ (x : ℕ). x ≤ arity_limit) J.arities a 0 p (λ l. h.arity p) (λ l. ltb-false arity_limit a r.0) (λ l. omega arith);
      tables = omega (arith, length_snoc J.rows [], length_snoc J.arities a, h.tables);
      rows = omega (arith, length_flatten_snoc J.rows, h.rows);
      cells = λ p x. snoc_at (λ (rs : List (List ℕ)). Memᴰ x rs → length x ≡ get_or (longer J a) p 0) J.rows [] [] p
          (λ l at. h.cells p x at ∙ sym (arity_same J a p (omega (arith, h.tables))))
          (λ l at. absurd (Memᴰ.not-nil at))
          (λ l at. absurd (Memᴰ.not-nil at));
      heads = h.heads;
      head = λ x at. let k = h.head x at in (takes_more J a x.predicate x.terms k.0, k.1);
      items = h.items;
      item = λ x at. let k = h.item x at in (formed x k.0, k.1);
      tests = h.tests;
    }
  where
    formed : (x : Item) → Formed J x → Formed (added predicate_tag s at n J) x
    formed (positive p ts) k = takes_more J (byte_at s (at + 3)) p ts k
    formed (test (negated p) ts) k = takes_more J (byte_at s (at + 3)) p ts k
    formed (test (comparison c) ts) k = k

half_row : (s : List ℕ) (at n : ℕ) (J : Job) → Passed row_tag s at n J → Half J → Half (added row_tag s at n J)
unfolding added counted rows_of
half_row s at n J f h =
    let p = byte_at s (at + 3) in
    let e : byte_at s (at + 2 + 1) ≡ p = byte_at_lem s (at + 2 + 1) (at + 3) (omega arith) in
    let l : p < length J.rows = omega (arith, h.tables, e, f.declared (omega arith)) in
    let w : length (row_in s at n) ≡ get_or J.arities p 0 = length_tab (λ (k : ℕ). be32 s (at + 4 + 4 * k)) n ∙ f.places (omega arith) ∙ ap (λ (q : ℕ). get_or J.arities q 0) e in
    let rs = get_or J.rows p [] ++ (row_in s at n ∷ []) in
    record {
      predicates = h.predicates;
      marks = h.marks;
      arity = h.arity;
      tables = length-set J.rows p rs ∙ h.tables;
      rows = omega (arith, length_flatten_set J.rows p (row_in s at n) l, f.room);
      cells = λ q x m. elim (ℕ_discrete q p) [
        | yes z ↦ mem_snoc (λ (y : List ℕ). length y ≡ get_or J.arities q 0) (get_or J.rows p []) (row_in s at n)
            (λ y u. h.cells p y u ∙ ap (λ (k : ℕ). get_or J.arities k 0) (sym z)) (w ∙ ap (λ (k : ℕ). get_or J.arities k 0) (sym z)) x
            (subst (Memᴰ x) (ap (λ (k : ℕ). get_or (set J.rows p rs) k []) z ∙ get_or-set_same J.rows p rs [] l) m)
        | no z ↦ h.cells q x (subst (Memᴰ x) (get_or-set_other J.rows p q rs [] z) m)
      ];
      heads = h.heads;
      head = h.head;
      items = h.items;
      item = h.item;
      tests = h.tests;
    }

half_head : (s : List ℕ) (at n : ℕ) (J : Job) → Passed head_tag s at n J → Half J → Half (added head_tag s at n J)
unfolding added counted out_of_range rows_of
half_head s at n J f h =
    let e : byte_at s (at + 2 + 1) ≡ byte_at s (at + 3) = byte_at_lem s (at + 2 + 1) (at + 3) (omega arith) in
    record {
      predicates = h.predicates;
      marks = h.marks;
      arity = h.arity;
      tables = h.tables;
      rows = h.rows;
      cells = h.cells;
      heads = omega (arith, length_snoc J.rule.heads (head_in s at n), f.room);
      head = mem_snoc (λ (x : Head). Takes J x.predicate x.terms × Small x.terms) J.rule.heads (head_in s at n) h.head (
        (omega (arith, e, f.declared (omega arith)), length_tab (λ (k : ℕ). term_at s (at + 4 + 5 * k)) n ∙ f.places (omega arith) ∙ ap (λ (q : ℕ). get_or J.arities q 0) e),
        small_terms s (at + 4) n f.ranged,
      );
      items = h.items;
      item = h.item;
      tests = h.tests;
    }

half_item : (J : Job) (x : Item) → length J.rule.body < item_limit → Formed J x → Small (terms x) → unbound_test J.rule.body x ≡ false → Half J → Half (with_item J x)
unfolding rows_of
half_item J x room formed small bound h = record {
  predicates = h.predicates;
  marks = h.marks;
  arity = h.arity;
  tables = h.tables;
  rows = h.rows;
  cells = h.cells;
  heads = h.heads;
  head = h.head;
  items = omega (arith, length_snoc J.rule.body x);
  item = mem_snoc (λ (y : Item). Formed J y × Small (terms y)) J.rule.body x h.item (formed, small);
  tests = tests_more J.rule.body x h.tests bound;
}

literal_formed : (s : List ℕ) (at n : ℕ) (J : Job) → Takes J (byte_at s (at + 4)) (terms_at s (at + 5) n) → Small (terms_at s (at + 5) n) → Formed J (literal_in s at n) × Small (terms (literal_in s at n))
unfolding literal_in terms
literal_formed s at n J k m = elim (split (eqb (byte_at s (at + 3)) 0)) [
  | inl e ↦ rw (e, literal_in) (k, m)
  | inr e ↦ rw (e, literal_in) (k, m)
]

half_literal : (s : List ℕ) (at n : ℕ) (J : Job) → Passed literal_tag s at n J → Half J → Half (added literal_tag s at n J)
unfolding added counted out_of_range unbound_in
half_literal s at n J f h =
    let e : byte_at s (at + 2 + 2) ≡ byte_at s (at + 4) = byte_at_lem s (at + 2 + 2) (at + 4) (omega arith) in
    let r = or_none (ltb 1 (byte_at s (at + 3))) (any (bad_term s) (term_places (at + 5) n)) f.ranged in
    let k = literal_formed s at n J
    (omega (arith, e, f.declared (omega arith)), length_tab (λ (k : ℕ). term_at s (at + 5 + 5 * k)) n ∙ f.places (omega arith) ∙ ap (λ (q : ℕ). get_or J.arities q 0) e)
    (small_terms s (at + 5) n r.1) in
    half_item J (literal_in s at n) f.room k.0 k.1 f.bound h

half_comparison : (k : Comparison) (s : List ℕ) (at n : ℕ) (J : Job) → Passed (comparison_tag k) s at n J → Half J → Half (added (comparison_tag k) s at n J)
unfolding added counted out_of_range unbound_in terms
half_comparison k s at n J f h = half_item J (comparison_in k s at) f.room (length_tab (λ (k : ℕ). term_at s (at + 3 + 5 * k)) 2) (small_terms s (at + 3) 2 f.ranged) f.bound h

half_added : (t : Tag) (s : List ℕ) (at n : ℕ) (J : Job) → Passed t s at n J → Half J → Half (added t s at n J)
half_added predicate_tag = half_predicate
half_added row_tag = half_row
half_added head_tag = half_head
half_added literal_tag = half_literal
half_added (comparison_tag k) = half_comparison k

-- the heads and their places

places_added : (t : Tag) (s : List ℕ) (at n : ℕ) (J : Job) (ps : List ℕ) → length ps ≡ length J.rule.heads → length (placed t at ps) ≡ length (added t s at n J).rule.heads
unfolding placed added
places_added predicate_tag s at n J ps e = e
places_added row_tag s at n J ps e = e
places_added head_tag s at n J ps e = omega (arith, length_snoc ps at, length_snoc J.rule.heads (head_in s at n))
places_added literal_tag s at n J ps e = e
places_added (comparison_tag k) s at n J ps e = e

heads_bound : (b : List Item) (hs : List Head) (ps : List ℕ) → length ps ≡ length hs → unbound_head b hs ps ≡ none → (h : Head) → Memᴰ h hs → (v : ℕ) → T (in? v (vars_of h.terms)) → binder b v < length b
unfolding unbound_head
heads_bound b [] ps l e h at v t = absurd (Memᴰ.not-nil at)
heads_bound b (g ∷ hs) [] l e h at v t = absurd (omega arith)
heads_bound b (g ∷ hs) (p ∷ ps) l e h at v t =
    elim (split (unbound b (vars_of g.terms))) [
      | inl u ↦ absurd (some_none (rw (u, unbound_head) at e))
      | inr u ↦ elim (Memᴰ.cases_cons at) [
        | inl q ↦ all_bound b (vars_of g.terms) u v (subst (λ (x : Head). T (in? v (vars_of x.terms))) q t)
        | inr q ↦ heads_bound b hs ps (omega arith) (rw (u, unbound_head) at e) h q v t
      ]
    ]

-- refusals 10 and 11, and the whole reading

abbrev SoundReading : Reading → Type 0
SoundReading (refused fault place) = Unit {0}
SoundReading (accepted J) = Sound J

half_sound : (J : Job) → Half J → ((h : Head) → Memᴰ h J.rule.heads → (v : ℕ) → T (in? v (vars_of h.terms)) → binder J.rule.body v < size J.rule)
    → (length J.rule.heads + length J.rule.body ≡ 0 → ⊥) → Sound J
unfolding item_at
half_sound J h heads filled = record {
  predicates = h.predicates;
  marks = h.marks;
  arity = h.arity;
  tables = h.tables;
  rows = h.rows;
  cells = h.cells;
  heads = h.heads;
  head = h.head;
  items = h.items;
  item = h.item;
  safe = record { tests = h.tests; heads = heads };
  some = positive_of (length J.rule.heads + length J.rule.body) filled;
}

finish_sound : (s : List ℕ) (st : Read) → Half st.job → length st.places ≡ length st.job.rule.heads → SoundReading (finish s st)
unfolding finish
finish_sound s st h l = go (unbound_head st.job.rule.body st.job.rule.heads st.places) refl
  where
    go : (o : Option ℕ) → unbound_head st.job.rule.body st.job.rule.heads st.places ≡ o → SoundReading (finish s st)
    go (some place) e = rw (e, finish) tt
    go none e = elim (split (eqb (length st.job.rule.heads + length st.job.rule.body) 0)) [
      | inl f ↦ rw (e, f, finish) tt
      | inr f ↦ rw (e, f, finish) (half_sound st.job h (heads_bound st.job.rule.body st.job.rule.heads st.places l e) (eqb-false _ _ f))
    ]

half_after : (s : List ℕ) (at : ℕ) (st : Read) → first (refusals s at st) ≡ none → Half st.job → Half (after s at st).job
unfolding after
half_after s at st e h = let t = tag_of (tag_at s at) in half_added t s at (places_at t s at st.job.arities) st.job (passed s at st e) h

places_after : (s : List ℕ) (at : ℕ) (st : Read) → length st.places ≡ length st.job.rule.heads → length (after s at st).places ≡ length (after s at st).job.rule.heads
unfolding after
places_after s at st l = let t = tag_of (tag_at s at) in places_added t s at (places_at t s at st.job.arities) st.job st.places l

read_sound : (k : ℕ) (s : List ℕ) (at : ℕ) (st : Read) → Half st.job → length st.places ≡ length st.job.rule.heads → SoundReading (read_from k s at st)
unfolding read_from
read_sound zero s at st h l = finish_sound s st h l
read_sound (suc k) s at st h l =
    elim (split (ltb at (length s))) [
      | inl e ↦ go (λ st' h' l'. read_sound k s (at + 3 + length_at s at) st' h' l') (first (refusals s at st)) refl e
      | inr e ↦ rw (e, read_from) (finish_sound s st h l)
    ]
  where
    go : ((st' : Read) → Half st'.job → length st'.places ≡ length st'.job.rule.heads → SoundReading (read_from k s (at + 3 + length_at s at) st'))
        → (o : Option ℕ) → first (refusals s at st) ≡ o → ltb at (length s) ≡ true → SoundReading (read_from (suc k) s at st)
    go rest (some fault) f e = rw (e, f, read_from) tt
    go rest none f e = rw (e, f, read_from) (rest (after s at st) (half_after s at st f h) (places_after s at st l))

half_nothing : Half nothing.job
unfolding flatten rows_of
half_nothing = record {
  predicates = omega arith;
  marks = refl;
  arity = λ p. omega arith;
  tables = refl;
  rows = omega arith;
  cells = λ p r at. absurd (Memᴰ.not-nil at);
  heads = omega arith;
  head = λ h at. absurd (Memᴰ.not-nil at);
  items = omega arith;
  item = λ x at. absurd (Memᴰ.not-nil at);
  tests = λ i v h. absurd (not-suc-le-zero h);
}

reading_sound : (s : List ℕ) → SoundReading (reading s)
unfolding reading
reading_sound s =
    elim (split (ltb job_limit (length s))) [
      | inl e ↦ rw (e, reading) tt
      | inr e ↦ rw (e, reading) (read_sound (length s) s 0 nothing half_nothing refl)
    ]

pub accepted_sound : (s : List ℕ) (J : Job) → reading s ≡ accepted J → Sound J
accepted_sound s J e = subst SoundReading e (reading_sound s)
