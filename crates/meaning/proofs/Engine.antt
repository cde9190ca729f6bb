-- What the promises ask of an engine, and what follows from it for both: the walk is lawful by this file, the plain search by Plain.
use mathlib.Core.Path.{◌≡◌, sym, ap, ◌∙◌, subst}
use mathlib.Core.Logic.{◌⊎◌, inl, inr, ◌≢◌}
use mathlib.Core.List.{map}
use Prim.Native.Nat.{ℕ, suc, ◌+◌, ◌*◌, ◌≤◌, ◌<◌}
use native.Mathlib.Nat.{mul-le-mul_right}
use native.Mathlib.Omega.{arith}
use lib.ListN.{length}
use Rattle.meaning.specs.Job.{Job, Safe}
use Rattle.meaning.specs.Relevant.{Listing}
use Rattle.meaning.specs.List.{complete, stopped, full, Searched, entry_size, instance_of, Begins}
use Rattle.meaning.specs.Plain.{plain_count}
use Rattle.meaning.specs.Walk.{walk}
use Rattle.meaning.proofs.Basics.{complete≢stopped, complete≢full, only_complete, begins_trans, begins_length}
use Rattle.meaning.proofs.Enlist.{NoRoom, Wide, Cut}
use Rattle.meaning.proofs.Meaning as meaning
use Rattle.meaning.proofs.Count.{Made, tests_made}
use Rattle.meaning.proofs.Grow as grow
use Rattle.meaning.proofs.Room as room

module _ (J : Job) where
  pub record Lawful (E : ℕ → ℕ → Searched) : Type 0 where
    -- it lists rows at every position, and a complete list is the document's
    pub wide : (a lent : ℕ) → Wide J (E a lent).entries
    pub listing : (a lent : ℕ) → (E a lent).ending ≡ complete → Listing J (map (instance_of J) (E a lent).entries)
    -- its tests against the plain count and the allowance
    pub made : (a lent : ℕ) → Made J 0 a (E a lent)
    -- its list fits the lent cells; full, it has fewer free than one entry; with room enough it is never full
    pub fit : (a lent : ℕ) → length (E a lent).entries * entry_size J.rule ≤ lent
    pub over : (a lent : ℕ) → (E a lent).ending ≡ full → NoRoom J lent (E a lent).entries
    pub never_full : (a lent : ℕ) → suc (plain_count J) * entry_size J.rule ≤ lent → (E a lent).ending ≢ full
    -- with more allowance, and with more cells
    pub more_allowance : (a b lent : ℕ) → Begins (E a lent).entries (E (a + b) lent).entries
    pub same_answer : (a b lent : ℕ) → (E a lent).ending ≢ stopped → E (a + b) lent ≡ E a lent
    pub more_cells : (a lent more : ℕ) → lent ≤ more → (E a lent ≡ E a more) ⊎ Cut J lent (E a lent) (E a more)

  pub walk_lawful : Safe J.rule → Lawful (walk J)
  walk_lawful safe = record {
    wide = meaning.entries_wide J safe;
    listing = meaning.complete_listing J safe;
    made = tests_made J;
    fit = λ a lent. grow.entries_fit J lent a;
    over = λ a lent. grow.full_over J lent a;
    never_full = λ a lent h. room.never_full J lent h a;
    more_allowance = λ a b lent. grow.more_allowance J lent a b;
    same_answer = λ a b lent. grow.same_answer J lent a b;
    more_cells = λ a lent more h. room.more_cells J lent more h a;
  }

  -- as many cells as an engine can use
  abbrev pub ample : ℕ → ℕ
  ample lent = lent + suc (plain_count J) * entry_size J.rule

  module _ (E : ℕ → ℕ → Searched) (L : Lawful E) where
    -- with an allowance at or above the plain count it is never stopped
    never_stopped : (a lent : ℕ) → plain_count J ≤ a → (E a lent).ending ≢ stopped
    never_stopped a lent h q = let r = (L.made a lent).2 q in omega arith

    -- an answer that is complete is the answer to any larger allowance and lent cells; so all complete answers are one

    still_complete : (a b lent more : ℕ) → lent ≤ more → (E a lent).ending ≡ complete → E (a + b) more ≡ E a lent
    still_complete a b lent more h q =
        elim (L.more_cells a lent more h) [
          | inl e ↦ L.same_answer a b more (λ r. complete≢stopped (sym q ∙ ap (λ (x : Searched). x.ending) e ∙ r)) ∙ sym e
          | inr c ↦ absurd (complete≢full (sym q ∙ c.0))
        ]

    pub complete_one : (a lent b more : ℕ) → (E a lent).ending ≡ complete → (E b more).ending ≡ complete → E a lent ≡ E b more
    complete_one a lent b more p q =
        sym (still_complete a b lent (lent + more) (omega arith) p)
        ∙ ap (λ (n : ℕ). E n (lent + more)) (omega arith)
        ∙ still_complete b a more (lent + more) (omega arith) q

    pub ample_complete : (a lent : ℕ) → (E (a + plain_count J) (ample lent)).ending ≡ complete
    ample_complete a lent = only_complete _ (never_stopped (a + plain_count J) (ample lent) (omega arith)) (L.never_full (a + plain_count J) (ample lent) (omega arith))

    -- the complete answer
    abbrev pub completed : Searched
    completed = E (0 + plain_count J) (ample 0)

    module _ (a lent b more : ℕ) (c : (E b more).ending ≡ complete) where
      ample_is : E (a + plain_count J) (ample lent) ≡ E b more
      ample_is = complete_one (a + plain_count J) (ample lent) b more (ample_complete a lent) c

      later : Begins (E a (ample lent)).entries (E b more).entries
      later = subst (λ (r : Searched). Begins (E a (ample lent)).entries r.entries) ample_is (L.more_allowance a (plain_count J) (ample lent))

      -- a list that is cut short is a beginning of the complete one
      pub beginning : Begins (E a lent).entries (E b more).entries
      beginning =
          elim (L.more_cells a lent (ample lent) (omega arith)) [
            | inl e ↦ subst (λ (r : Searched). Begins r.entries (E b more).entries) (sym e) later
            | inr d ↦ begins_trans (E a lent).entries (E a (ample lent)).entries (E b more).entries d.1 later
          ]

      -- where it is full, the complete one does not fit
      pub full_short : (E a lent).ending ≡ full → lent < length (E b more).entries * entry_size J.rule
      full_short q =
          elim (L.more_cells a lent (ample lent) (omega arith)) [
            | inl e ↦ absurd (L.never_full a (ample lent) (omega arith) (sym (ap (λ (r : Searched). r.ending) e) ∙ q))
            | inr d ↦ omega (
              arith,
              d.2,
              mul-le-mul_right {m = length (E a (ample lent)).entries} {n = length (E b more).entries} (entry_size J.rule)
                  (begins_length (E a (ample lent)).entries (E b more).entries later),
            )
          ]

      -- with the plain count allowed and room for the complete one it is complete
      pub room_complete : plain_count J ≤ a → length (E b more).entries * entry_size J.rule ≤ lent → (E a lent).ending ≡ complete
      room_complete h r = only_complete _ (never_stopped a lent h) (λ q. omega (arith, full_short q))
