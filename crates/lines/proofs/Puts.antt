-- Texts put one behind the other into a buffer.
use Rattle.std.proofs.Common.{◌≡◌, ℕ, ◌+◌, ◌-◌, ◌≤◌, List, [], ◌++◌, length, take, drop, refl, sym, ap, ◌∙◌, inl, inr, arith, append_assoc, length-append, length-drop, length-take, take_all, take_at, drop_at, drop-drop, drop_of_length-le}
use Rattle.std.proofs.lemmas.List.{append-nil, take_rest, take-append-le}
use Rattle.std.proofs.Math.Seq.{take-append-add, take-nil}
use borrow.Rule.Slice.PartMut.{put_mid}
use Rattle.meaning.proofs.Basics.{lt_or_le}
use Rattle.lines.specs.Written.{Written}

-- a text for another that is equal to it
pub written_as : {xs ys l m : List ℕ} {k : ℕ} → xs ≡ ys → Written xs l m k → Written ys l m k
written_as e w = rw (← e) w

pub written_none : (l : List ℕ) → Written [] l l 0
written_none l = record { bytes = rw (take-nil (length l)) refl; many = omega arith }

written_length : {text l m : List ℕ} {k : ℕ} → Written text l m k → length m ≡ length l
written_length w = omega (arith, simp (length-append, length-take, length-drop) at (ap length w.bytes))

-- what is put behind the first k leaves nothing behind it
put_end : (k : ℕ) (m n : List ℕ) → put_mid k (length m - k) m n ≡ take k m ++ n
put_end k m n =
    let none : drop (length m - k) (drop k m) ≡ [] = drop_of_length-le (drop k m) (omega (arith, length-drop k m)) in
    rw (none, append-nil n) refl

module _ (xs ys l m n : List ℕ) (k : ℕ) (first : Written xs l m k) (second : n ≡ take (length (drop k m)) ys ++ drop (length ys) (drop k m)) where
  joined_within : length xs ≤ length l → take k m ++ n ≡ take (length l) (xs ++ ys) ++ drop (length (xs ++ ys)) l
  joined_within h =
      let many : k ≡ length xs = omega (arith, first.many) in
      let is : m ≡ xs ++ drop (length xs) l = first.bytes ∙ ap (λ (t : List ℕ). t ++ drop (length xs) l) (take_all (length l) xs h) in
      let front : take k m ≡ xs = rw (many, is) (take_at xs (drop (length xs) l) (length xs) refl) in
      let after : drop k m ≡ drop (length xs) l = rw (many, is) (drop_at xs (drop (length xs) l) (length xs) refl) in
      let room : length l ≡ length xs + length (drop (length xs) l) = omega (arith, length-drop (length xs) l) in
      rw (second, front, after, room, take-append-add xs ys (length (drop (length xs) l)), length-append xs ys, drop-drop (length ys) (length xs) l, append_assoc) refl

  joined_over : length l ≤ length xs → take k m ++ n ≡ take (length l) (xs ++ ys) ++ drop (length (xs ++ ys)) l
  joined_over h =
      let many : length m ≤ k = omega (arith, first.many, written_length first) in
      let none : drop k m ≡ [] = drop_of_length-le m many in
      let nothing : drop {A = ℕ} (length ys) [] ≡ [] = drop_of_length-le {A = ℕ} [] (omega arith) in
      let empty : n ≡ [] = second ∙ rw (none, nothing) refl in
      let past : drop (length xs) l ≡ [] = drop_of_length-le l h in
      let past_both : drop (length (xs ++ ys)) l ≡ [] = drop_of_length-le l (omega (arith, length-append xs ys)) in
      rw (empty, append-nil (take k m), take_all k m many, take-append-le (length l) xs ys h, past_both) (first.bytes ∙ rw past refl)

-- one text behind another is the two joined
pub written_then : {xs ys l m n : List ℕ} {k j : ℕ} → Written xs l m k → Written ys (take (length m - k) (drop k m)) n j → Written (xs ++ ys) l (put_mid k (length m - k) m n) (k + j)
written_then {xs} {ys} {l} {m} {n} {k} {j} p q =
    let second : n ≡ take (length (drop k m)) ys ++ drop (length ys) (drop k m) = rw (take_rest m k) at q.bytes in
    record {
      bytes = put_end k m n ∙ elim (lt_or_le (length l) (length xs)) [ inl h ↦ joined_over xs ys l m n k p second (omega arith) | inr h ↦ joined_within xs ys l m n k p second h ];
      many = omega (arith, p.many, q.many, length-append xs ys, length-drop k m, written_length p, ap length (take_rest m k));
    }

-- a text is put, but for the rest of it
pub record Left (text rest buffer filled : List ℕ) (count : ℕ) : Type 0 where
  pub done : List ℕ
  pub put : Written done buffer filled count
  pub whole : done ++ rest ≡ text

pub left_all : {text rest : List ℕ} (l : List ℕ) → rest ≡ text → Left text rest l l 0
left_all l e = record { done = []; put = written_none l; whole = e }

pub left_less : {text rest part after l m n : List ℕ} {k j : ℕ} → Left text rest l m k → rest ≡ part ++ after → Written part (take (length m - k) (drop k m)) n j → Left text after l (put_mid k (length m - k) m n) (k + j)
left_less {part = part} {after} p e q =
    record {
      done = p.done ++ part;
      put = written_then p.put q;
      whole = append_assoc p.done part after ∙ ap (λ (r : List ℕ). p.done ++ r) (sym e) ∙ p.whole;
    }

pub left_none : {text rest l m : List ℕ} {k : ℕ} → Left text rest l m k → rest ≡ [] → Written text l m k
left_none p e = written_as (sym (append-nil p.done) ∙ ap (λ (r : List ℕ). p.done ++ r) (sym e) ∙ p.whole) p.put

-- a text that has room is written whole
pub written_whole : {text l m : List ℕ} {k : ℕ} → length text ≤ length l → Written text l m k → (k ≡ length text) × (m ≡ text ++ drop k l)
written_whole {text} {l} {m} {k} h w =
    let e : k ≡ length text = omega (arith, w.many) in
    (e, w.bytes ∙ rw (e, take_all (length l) text h) refl)

-- nothing is left open
pub written_one : {text l m n : List ℕ} {k j : ℕ} → Written text l m k → Written text l n j → (m ≡ n) × (k ≡ j)
written_one w v = (w.bytes ∙ sym v.bytes, w.many ∙ sym v.many)
