-- The document's list is one list.
use mathlib.Core.Path.{◌≡◌, refl, sym, ◌∙◌, subst}
use mathlib.Core.Logic.{inl, inr}
use mathlib.Core.List.Memᴰ
use mathlib.Core.List.{List, [], ◌∷◌, Memᴰ}
use Prim.Native.Nat.{ℕ}
use native.Mathlib.Omega.{arith}
use Rattle.meaning.specs.Job.{Item, positive, test, Job}
use Rattle.meaning.specs.Relevant.{Choice, Lower, Instance, Rises, Supports, Listing}
use Rattle.meaning.proofs.Basics.{lt_or_le}

asym : (u w : List ℕ) → Lower u w → Lower w u → ⊥
asym [] w p q = p
asym (x ∷ u) [] p q = p
asym (x ∷ u) (y ∷ w) p q =
    elim p [
      | inl l ↦ elim q [ inl k ↦ omega arith | inr k ↦ omega (arith, k.0) ]
      | inr l ↦ elim q [ inl k ↦ omega (arith, l.0) | inr k ↦ asym u w l.1 k.1 ]
    ]

data Compared (u w : List ℕ) : Type 0 where
  lower : Lower u w → Compared u w
  higher : Lower w u → Compared u w
  level : u ≡ w → Compared u w

-- of two rising lists with one head, where the first's members are the second's, so are its tail's
module _ (x y : Instance) (xs ys : List Instance) (e : x ≡ y) (rise : (z : Instance) → Memᴰ z xs → Lower x.support z.support) where
  tail_in : ((z : Instance) → Memᴰ z (x ∷ xs) → Memᴰ z (y ∷ ys)) → (z : Instance) → Memᴰ z xs → Memᴰ z ys
  tail_in f z at = elim (Memᴰ.cases_cons (f z (Memᴰ.tail at))) [
    | inl u ↦ absurd (let w = subst (λ (i : Instance). Lower x.support i.support) (u ∙ sym e) (rise z at) in asym x.support x.support w w)
    | inr u ↦ u
  ]

rises_one : (L M : List Instance) → Rises L → Rises M → ((z : Instance) → Memᴰ z L → Memᴰ z M) → ((z : Instance) → Memᴰ z M → Memᴰ z L) → L ≡ M
rises_one [] [] p q f g = refl
rises_one [] (y ∷ ys) p q f g = absurd (Memᴰ.not-nil (g y (Memᴰ.head refl)))
rises_one (x ∷ xs) [] p q f g = absurd (Memᴰ.not-nil (f x (Memᴰ.head refl)))
rises_one (x ∷ xs) (y ∷ ys) p q f g = λ i. e i ∷ rises_one xs ys p.1 q.1 (tail_in x y xs ys e p.0 f) (tail_in y x ys xs (sym e) q.0 g) i
  where
    e : x ≡ y
    e = elim (Memᴰ.cases_cons (f x (Memᴰ.head refl))) [
      | inl u ↦ u
      | inr u ↦ elim (Memᴰ.cases_cons (g y (Memᴰ.head refl))) [
        | inl w ↦ sym w
        | inr w ↦ absurd (asym x.support y.support (p.0 y w) (q.0 x u))
      ]
    ]

module _ (J : Job) where
  compare : (θ η : Choice) (b : List Item) (u w : List ℕ) → Supports J θ b u → Supports J η b w → Compared u w
  compare θ η [] [] [] s t = level refl
  compare θ η [] [] (y ∷ w) s t = absurd t
  compare θ η [] (x ∷ u) w s t = absurd s
  compare θ η (positive p ts ∷ b) [] w s t = absurd s
  compare θ η (positive p ts ∷ b) (x ∷ u) [] s t = absurd t
  compare θ η (positive p ts ∷ b) (x ∷ u) (y ∷ w) s t =
      elim (lt_or_le x y) [
        | inl l ↦ lower (inl l)
        | inr l ↦ elim (lt_or_le y x) [
          | inl k ↦ higher (inl k)
          | inr k ↦ let e : x ≡ y = omega arith in
              elim (compare θ η b u w s.2 t.2) [
                | lower z ↦ lower (inr (e, z))
                | higher z ↦ higher (inr (sym e, z))
                | level z ↦ level (λ i. e i ∷ z i)
              ]
        ]
      ]
  compare θ η (test k ts ∷ b) u w s t = compare θ η b u w s t

  -- an instance of one list is in the other, since neither support is lower
  inside : (L M : List Instance) → Listing J L → Listing J M → (x : Instance) → Memᴰ x L → Memᴰ x M
  inside L M p q x at =
      let d = p.each x at in
      let c = q.covers d.0 d.1 in
      let g = q.each c.0 c.1 in
      elim (compare d.0 g.0 J.rule.body x.support c.0.support d.2 g.2) [
        | lower z ↦ absurd (q.first c.0 c.1 d.0 d.1 x.support d.2 (sym c.2) z)
        | higher z ↦ absurd (p.first x at g.0 g.1 c.0.support g.2 (sym g.3 ∙ c.2 ∙ sym d.3) z)
        | level z ↦ Memᴰ.cast (λ i. record { values = (d.3 ∙ sym c.2) i; support = z i }) c.1
      ]

  pub one_listing : (L M : List Instance) → Listing J L → Listing J M → L ≡ M
  one_listing L M p q = rises_one L M p.rises q.rises (inside L M p q) (inside M L q p)
