-- The array of bound variables, and the items that make it.
use Prim.Native.Nat.{ℕ, zero, suc, ◌+◌, ◌*◌, ◌<◌, ◌≤◌}
use mathlib.Core.Path.{◌≡◌, refl, sym, ap, ◌∙◌}
use mathlib.Core.Bool.{Bool, true, false, cond, ◌||◌, ◌&&◌}
use mathlib.Core.List.{List, [], ◌∷◌, ◌++◌, map}
use native.Mathlib.Omega.{arith}
use native.Mathlib.Decide.{ℕ_discrete}
use borrow.Author.Tests.{eq-eqb, ne_eqb, ltb-false, leb-false, eqb-false}
use lib.Dec.{ltb, leb, eqb}
use lib.ListN.{length, get_or, set, length-set, take}
use lib.Seq.{get_or-set_same, get_or-set_other}
use Rattle.std.proofs.lemmas.List.{take_more}
use Rattle.meaning.specs.Basics.{tab, any, in?}
use Rattle.meaning.specs.Job.{variable_limit, Term, number, variable, Comparison, Test, negated, Item, positive, test, vars_of, unbound, holds}
use Rattle.meaning.specs.Reading.{byte_at, literal_tag, comparison_tag, be32, bad_term, term_at, terms_at, term_places, out_of_range, literal_in, unbound_test, unbound_in}
use Rattle.meaning.proofs.Tab.{any_append, or_true, or_false, or_assoc, any_hit}
use Rattle.rule.specs.declared.Term.{Term as TermR}
use Rattle.rule.specs.declared.Term.TheVariants.{Number, Variable}
use Rattle.rule.specs.declared.Item.{Item as ItemR}
use Rattle.rule.specs.declared.Test.TheVariants.{Negated}
use Rattle.rule.specs.declared.Kind.{Kind}
use Rattle.rule.specs.declared.Kind.TheVariants.{Positive, Test as Tested}
use Rattle.rule.specs.Rule.{term_of, item_of}
use Rattle.job.specs.Bound.{is_bound, Bound, free, mark_one, marked, marked_by}
use Rattle.job.specs.Progress.{term_from, terms_from, literal_from}
use Rattle.job.proofs.TermLaws.{term_is, terms_are, literal_is}

pub free_is : (b : List Bool) (items : List Item) (ts : List TermR) → Bound b items → free b ts ≡ unbound items (vars_of (map term_of ts))
unfolding unbound vars_of term_of
free_is b items [] h = refl
free_is b items (Number n ∷ ts) h = free_is b items ts h
free_is b items (Variable v ∷ ts) h = rw (h v, free_is b items ts h)

-- the variables that a test leaves unbound

module _ (s : List ℕ) (at n : ℕ) (b : List Bool) (items : List Item) (h : Bound b items) where
  pub literal_bound : byte_at s (at + 3) ≡ 0 → false ≡ unbound_in literal_tag s at n items
  unfolding unbound_in literal_in unbound_test
  literal_bound z = rw (z, literal_in) refl

  pub literal_unbound : (byte_at s (at + 3) ≡ 0 → ⊥) → free b (literal_from s at n).terms ≡ unbound_in literal_tag s at n items
  unfolding unbound_in literal_in unbound_test
  literal_unbound z = free_is b items (terms_from s (at + 5) n) h ∙ rw (terms_are s (at + 5) n, ne_eqb _ _ z, literal_in) refl

  pub comparison_unbound : (c : Comparison) → free b (terms_from s (at + 3) 2) ≡ unbound_in (comparison_tag c) s at n items
  unfolding unbound_in unbound_test
  comparison_unbound c = free_is b items (terms_from s (at + 3) 2) h ∙ ap (λ (ts : List Term). unbound items (vars_of ts)) (terms_are s (at + 3) 2)

-- one item more

abbrev SmallTerm : TermR → Type 0
SmallTerm (Number n) = Unit {0}
SmallTerm (Variable v) = v < variable_limit

pub or_right : (a b : Bool) → (a || b) ≡ false → b ≡ false
or_right true b e = cc
or_right false b e = e

pub or_left : (a b : Bool) → (a || b) ≡ false → a ≡ false
or_left true b e = e
or_left false b e = refl

var_small : (s : List ℕ) (j : ℕ) → bad_term s j ≡ false → (byte_at s j ≡ 0 → ⊥) → be32 s (j + 1) < variable_limit
unfolding bad_term
var_small s j h n =
    let l : byte_at s j ≤ 1 = ltb-false 1 (byte_at s j) (or_left (ltb 1 (byte_at s j)) (eqb (byte_at s j) 1 && leb variable_limit (be32 s (j + 1))) h) in
    let o : byte_at s j ≡ 1 = omega (arith, n) in
    leb-false variable_limit (be32 s (j + 1)) (rw (eq-eqb (byte_at s j) 1 o) at (or_right (ltb 1 (byte_at s j)) (eqb (byte_at s j) 1 && leb variable_limit (be32 s (j + 1))) h))

small_term : (s : List ℕ) (j : ℕ) → bad_term s j ≡ false → SmallTerm (term_from s j)
small_term s j h = go (eqb (byte_at s j) 0) refl
  where
    go : (b : Bool) → eqb (byte_at s j) 0 ≡ b → SmallTerm (cond b (Number (be32 s (j + 1))) (Variable (be32 s (j + 1))))
    go true e = tt
    go false e = var_small s j h (eqb-false (byte_at s j) 0 e)

none_at : (g : ℕ → Bool) (f : ℕ → ℕ) (n k : ℕ) → any g (tab n f) ≡ false → k < n → g (f k) ≡ false
none_at g f n k e l = go (g (f k)) refl
  where
    go : (b : Bool) → g (f k) ≡ b → g (f k) ≡ false
    go false q = q
    go true q = let z : true ≡ false = sym (any_hit g f n k l q) ∙ e in cc

bound_one : (b : List Bool) (t : TermR) (v : ℕ) → length b ≡ variable_limit → SmallTerm t → is_bound (mark_one b t) v ≡ (is_bound b v || in? v (vars_of (term_of t ∷ [])))
unfolding in? vars_of term_of
bound_one b (Number n) v l h = sym (or_false (is_bound b v))
bound_one b (Variable u) v l h = go (ℕ_discrete v u)
  where
    go : Dec (v ≡ u) → get_or (set b u true) v false ≡ (get_or b v false || (eqb v u || false))
    go (yes e) = rw (e, get_or-set_same b u true false (omega arith), eq-eqb u u refl) (sym (or_true (get_or b u false)))
    go (no e) = rw (get_or-set_other b u v true false e, ne_eqb v u e) (sym (or_false (get_or b v false)))

length_mark : (b : List Bool) (t : TermR) → length (mark_one b t) ≡ length b
length_mark b (Number n) = refl
length_mark b (Variable v) = length-set b v true

length_marked : (b : List Bool) (ts : List TermR) → length (marked b ts) ≡ length b
unfolding marked
length_marked b [] = refl
length_marked b (t ∷ ts) = length_marked (mark_one b t) ts ∙ length_mark b t

marked_append : (b : List Bool) (ts : List TermR) (t : TermR) → marked b (ts ++ t ∷ []) ≡ mark_one (marked b ts) t
unfolding marked
marked_append b [] t = refl
marked_append b (x ∷ ts) t = marked_append (mark_one b x) ts t

pub marked_more : (b b₁ b₂ : List Bool) (ts : List TermR) (k : ℕ) (d : TermR) → k < length ts → b₁ ≡ marked b (take k ts) → b₂ ≡ mark_one b₁ (get_or ts k d) → b₂ ≡ marked b (take (k + 1) ts)
marked_more b b₁ b₂ ts k d l p q = rw (take_more ts k d l, marked_append, ← p) q

pub length_by : (b : List Bool) (x : ItemR) → length (marked_by x b) ≡ length b
length_by b x = go x.kind
  where
    go : (k : Kind) → length {A = Bool} (elim k [ Positive ↦ marked b x.terms | Tested t ↦ b ]) ≡ length b
    go Positive = length_marked b x.terms
    go (Tested t) = refl

vars_append : (xs ys : List Term) → vars_of (xs ++ ys) ≡ vars_of xs ++ vars_of ys
unfolding vars_of
vars_append [] ys = refl
vars_append (number n ∷ xs) ys = vars_append xs ys
vars_append (variable v ∷ xs) ys = ap (λ (l : List ℕ). v ∷ l) (vars_append xs ys)

in_append : (v : ℕ) (xs ys : List Term) → in? v (vars_of (xs ++ ys)) ≡ (in? v (vars_of xs) || in? v (vars_of ys))
unfolding in?
in_append v xs ys = rw (vars_append xs ys) (any_append (eqb v) (vars_of xs) (vars_of ys))

bound_tab : (b : List Bool) (s : List ℕ) (i n v : ℕ) → length b ≡ variable_limit → ((k : ℕ) → k < n → SmallTerm (term_from s (i + 5 * k)))
    → is_bound (marked b (terms_from s i n)) v ≡ (is_bound b v || in? v (vars_of (terms_at s i n)))
unfolding tab marked in? vars_of
bound_tab b s i zero v l h = sym (or_false (is_bound b v))
bound_tab b s i (suc n) v l h =
    ap (λ (c : List Bool). is_bound c v) (marked_append b (terms_from s i n) t)
    ∙ bound_one (marked b (terms_from s i n)) t v (length_marked b (terms_from s i n) ∙ l) (h n (omega arith))
    ∙ (λ k. bound_tab b s i n v l (λ j z. h j (omega arith)) k || in? v (vars_of (term_is s (i + 5 * n) k ∷ [])))
    ∙ or_assoc (is_bound b v) (in? v (vars_of (terms_at s i n))) (in? v (vars_of (u ∷ [])))
    ∙ ap (λ (c : Bool). is_bound b v || c) (sym (in_append v (terms_at s i n) (u ∷ [])))
  where
    t : TermR
    t = term_from s (i + 5 * n)

    u : Term
    u = term_at s (i + 5 * n)

module _ (b : List Bool) (items : List Item) (h : Bound b items) where
  bound_positive : (s : List ℕ) (q i n : ℕ) → length b ≡ variable_limit → any (bad_term s) (term_places i n) ≡ false
      → Bound (marked b (terms_from s i n)) (items ++ (positive q (terms_at s i n) ∷ []))
  unfolding holds
  bound_positive s q i n l g v =
      bound_tab b s i n v l (λ k j. small_term s (i + 5 * k) (none_at (bad_term s) (λ (m : ℕ). i + 5 * m) n k g j))
      ∙ rw (h v) (ap (λ (c : Bool). any (holds v) items || c) (sym (or_false (in? v (vars_of (terms_at s i n)))))
      ∙ sym (any_append (holds v) items (positive q (terms_at s i n) ∷ [])))

  pub bound_test : (k : Test) (ts : List Term) → Bound b (items ++ (test k ts ∷ []))
  unfolding holds
  bound_test k ts v = h v ∙ sym (any_append (holds v) items (test k ts ∷ []) ∙ or_false (any (holds v) items))

  pub bound_literal : (s : List ℕ) (at n : ℕ) → length b ≡ variable_limit → out_of_range literal_tag s at n ≡ false
      → Bound (marked_by (literal_from s at n) b) (items ++ (item_of (literal_from s at n) ∷ []))
  unfolding out_of_range literal_in
  bound_literal s at n e g = rw (literal_is s at n) (go (eqb (byte_at s (at + 3)) 0))
    where
      go : (c : Bool) → Bound (elim (cond c Positive (Tested Negated)) [ Positive ↦ marked b (terms_from s (at + 5) n) | Tested t ↦ b ])
          (items ++ (elim c [ true ↦ positive (byte_at s (at + 4)) (terms_at s (at + 5) n) | false ↦ test (negated (byte_at s (at + 4))) (terms_at s (at + 5) n) ] ∷ []))
      go true = bound_positive s (byte_at s (at + 4)) (at + 5) n e (or_right (ltb 1 (byte_at s (at + 3))) (any (bad_term s) (term_places (at + 5) n)) g)
      go false = bound_test (negated (byte_at s (at + 4))) (terms_at s (at + 5) n)
