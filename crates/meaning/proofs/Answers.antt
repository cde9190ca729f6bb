-- An answer against the document's list, and in the lent cells.
use mathlib.Core.Path.{◌≡◌, refl, ap, ◌∙◌, subst}
use mathlib.Core.List.{List, [], ◌∷◌, map, flatten, Memᴰ}
use Prim.Native.Nat.{ℕ, suc, ◌+◌, ◌*◌, ◌≤◌, ◌<◌}
use mathlib.Core.Logic.{inl, inr}
use native.Mathlib.Nat.{suc-mul, mul-le-mul_right}
use native.Mathlib.Omega.{arith}
use lib.ListN.{length, take, drop, length-append, length-drop, length-map}
use lib.Seq.{take_at, drop_at}
use Rattle.meaning.specs.Job.{Item, positive, test, Job, size}
use Rattle.meaning.specs.Relevant.{Instance, relevant, Listing}
use Rattle.meaning.specs.Rows.{row_at, value, values}
use Rattle.meaning.specs.List.{Entry, complete, full, Searched, support, positives, entry_size, instance_of, cells, cells_after}
use Rattle.meaning.specs.Plain.{plain_count}
use Rattle.meaning.proofs.Basics.{lt_or_le}
use Rattle.meaning.proofs.Engine.{Lawful, ample, completed, ample_complete, full_short, room_complete}
use Rattle.meaning.proofs.Unique.{one_listing}

length_support : (b : List Item) (rs : List ℕ) → length rs ≡ length b → length (support b rs) ≡ positives b
unfolding support positives
length_support [] rs e = refl
length_support (x ∷ b) [] e = absurd (omega arith)
length_support (positive p ts ∷ b) (r ∷ rs) e = ap suc (length_support b rs (omega arith))
length_support (test k ts ∷ b) (r ∷ rs) e = length_support b rs (omega arith)

module _ (J : Job) where
  pub length_cells : (e : Entry) → length e.rows ≡ size J.rule → length (cells J e) ≡ entry_size J.rule
  unfolding cells entry_size values
  length_cells e w = omega (arith, length-append (map (value J (row_at e.rows)) (relevant J.rule)) (support J.rule.body e.rows), length-map (relevant J.rule) (value J (row_at e.rows)), length_support J.rule.body e.rows w)

  pub length_entries : (es : List Entry) → ((e : Entry) → Memᴰ e es → length e.rows ≡ size J.rule) → length (flatten (map (cells J) es)) ≡ length es * entry_size J.rule
  unfolding flatten
  length_entries [] w = omega arith
  length_entries (e ∷ es) w = omega (
    arith,
    length-append (cells J e) (flatten (map (cells J) es)),
    length_cells e (w e (Memᴰ.head refl)),
    length_entries es (λ f at. w f (Memᴰ.tail at)),
    suc-mul (length es) (entry_size J.rule),
  )

  module _ (E : ℕ → ℕ → Searched) (L : Lawful J E) where
    -- the complete answer lists the document's list
    pub completed_listing : Listing J (map (instance_of J) (completed J E L).entries)
    completed_listing = L.listing (0 + plain_count J) (ample J 0) (ample_complete J E L 0 0)

    many : (M : List Instance) → Listing J M → length M ≡ length (completed J E L).entries
    many M l = ap length (one_listing J M (map (instance_of J) (completed J E L).entries) l completed_listing)
        ∙ length-map (completed J E L).entries (instance_of J)

    pub room_enough : (M : List Instance) → Listing J M → (a lent : ℕ) → plain_count J ≤ a → length M * entry_size J.rule ≤ lent → (E a lent).ending ≡ complete
    room_enough M l a lent h r = room_complete J E L a lent (0 + plain_count J) (ample J 0) (ample_complete J E L 0 0) h (subst (λ (n : ℕ). n * entry_size J.rule ≤ lent) (many M l) r)

    pub full_lacks : (M : List Instance) → Listing J M → (a lent : ℕ) → (E a lent).ending ≡ full → length (E a lent).entries < length M
    full_lacks M l a lent q = elim (lt_or_le (length (E a lent).entries) (length M)) [
      | inl k ↦ k
      | inr k ↦ absurd (omega (
        arith,
        full_short J E L a lent (0 + plain_count J) (ample J 0) (ample_complete J E L 0 0) q,
        L.fit a lent,
        mul-le-mul_right {m = length (completed J E L).entries} {n = length (E a lent).entries} (entry_size J.rule) (omega (arith, many M l)),
      ))
    ]

    module _ (a : ℕ) (held : List ℕ) where
      abbrev es : List Entry
      es = (E a (length held)).entries

      abbrev filled : List ℕ
      filled = flatten (map (cells J) es)

      long : length filled ≡ length es * entry_size J.rule
      long = length_entries es (L.wide a (length held))

      pub cells_filled : take (length es * entry_size J.rule) (cells_after J (E a (length held)) held) ≡ filled
      cells_filled = take_at filled (drop (length filled) held) (length es * entry_size J.rule) long

      pub cells_kept : drop (length es * entry_size J.rule) (cells_after J (E a (length held)) held) ≡ drop (length es * entry_size J.rule) held
      cells_kept = drop_at filled (drop (length filled) held) (length es * entry_size J.rule) long ∙ ap (λ (n : ℕ). drop n held) long

      pub cells_lent : length (cells_after J (E a (length held)) held) ≡ length held
      cells_lent = omega (arith, length-append filled (drop (length filled) held), length-drop (length filled) held, long, L.fit a (length held))
