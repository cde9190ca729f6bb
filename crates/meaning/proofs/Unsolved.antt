-- Request 2/14: what a negated literal over an unsolved predicate does.
use mathlib.Core.Path.{◌≡◌, refl, ap, ◌∙◌}
use mathlib.Core.Bool.{true, ◌&&◌}
use mathlib.Core.Logic.{inl}
use mathlib.Core.List.{List, [], ◌∷◌, ◌++◌, map, Memᴰ}
use Prim.Native.Nat.{ℕ, suc}
use native.Mathlib.Omega.{arith}
use lib.Dec.{T}
use Rattle.meaning.specs.Basics.{any, in?, from}
use Rattle.meaning.specs.Job.{variable_limit, Term, negated, Item, test, Head, Job, terms, vars_of, vars, item_at, Sound}
use Rattle.meaning.specs.Relevant.{Choice, fill, open?, unsolved, relevant?, relevant, Holds}
use Rattle.meaning.specs.Rows.{Rows, row_at, value, fits_item, fits, count_item, count}
use Rattle.meaning.specs.Plain.{sum, plain}
use Rattle.meaning.specs.Walk.{State, fitted, tested, enter, make_test}
use Rattle.meaning.proofs.Basics.{or_r, and_i, T_is, mem_any, mem_in, mem_keep, from_mem}
use Rattle.meaning.proofs.Local.{negated_is}

module _ (J : Job) (q : ℕ) (ts : List Term) (mark : T (open? J.rule q)) where
  pub always_valid : (θ : Choice) → Holds J θ (test (negated q) ts)
  always_valid θ = (negated_is J q (map (fill θ) ts)).1 (inl mark)

  pub still_relevant : Sound J → Memᴰ (test (negated q) ts) J.rule.body → (v : ℕ) → Memᴰ v (vars_of ts) → Memᴰ v (relevant J.rule)
  unfolding relevant relevant? unsolved terms
  still_relevant S at v held =
      mem_keep (relevant? J.rule) (from 0 variable_limit) v (from_mem 0 variable_limit v (omega arith) (omega (arith, (S.item (test (negated q) ts) at).1 v (mem_in v (vars_of ts) held))))
      (or_r (any (λ (h : Head). in? v (vars_of h.terms)) J.rule.heads) _
      (mem_any (λ (x : Item). unsolved J.rule x && in? v (vars x)) J.rule.body (test (negated q) ts) at (and_i (open? J.rule q) (in? v (vars_of ts)) mark (mem_in v (vars_of ts) held))))

  module _ (i : ℕ) (here : item_at J.rule i ≡ test (negated q) ts) where
    fits_here : (s : Rows) → fits J i s ≡ true
    unfolding fits fits_item
    fits_here s = ap (λ (x : Item). fits_item J x (s i) (value J s)) here ∙ T_is _ (always_valid (value J s))

    one_here : count J i ≡ 1
    unfolding count count_item
    one_here = ap (count_item J) here

    pub one_plain : (d : ℕ) (rows : List ℕ) → plain J (suc d) i rows ≡ suc (plain J d (suc i) (rows ++ (0 ∷ [])))
    unfolding plain sum
    one_plain d rows = rw (one_here, plain, sum, fits_here (row_at (rows ++ (0 ∷ [])))) (omega arith)

    pub one_walk : (lent : ℕ) (st : State) → st.position ≡ i → make_test J lent st ≡ enter J lent (suc st.position) (tested st).next st.marks (suc st.tests) st.entries
    unfolding make_test
    one_walk lent st e = rw (ap (λ (p : ℕ). fits J p (row_at (fitted (tested st).next))) e ∙ fits_here (row_at (fitted (tested st).next)), make_test) refl
