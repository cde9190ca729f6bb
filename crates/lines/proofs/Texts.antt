-- The lister's text by its parts, as the code puts them.
use Rattle.std.proofs.Common.{◌≡◌, ℕ, zero, suc, ◌+◌, ◌/◌, ◌%◌, ◌≤◌, ◌<◌, min, List, [], ◌∷◌, ◌++◌, length, get_or, take, drop, refl, sym, ap, ◌∙◌, inl, inr, arith, append_assoc, take_all, drop_of_length-le}
use Rattle.std.proofs.lemmas.List.{append-nil, take_more, take_min}
use native.Mathlib.Nat.{div-lt_self}
use borrow.Author.Tests.{lt-ltb, le-ltb}
use Rattle.meaning.proofs.Basics.{lt_or_le}
use Rattle.lines.specs.Lines.{digits, decimal, spaced, line, entry_line, entry_lines}

digits_one : (more n : ℕ) → n < 10 → digits more n ≡ (48 + n) ∷ []
unfolding digits
digits_one zero n h = refl
digits_one (suc more) n h = rw (lt-ltb n 10 h, digits) refl

digits_more : (more n : ℕ) → 10 ≤ n → digits (suc more) n ≡ digits more (n / 10) ++ ((48 + n % 10) ∷ [])
unfolding digits
digits_more more n h = rw (le-ltb n 10 h, digits) refl

tenth : (n : ℕ) → 10 ≤ n → n / 10 < n
tenth n h = div-lt_self (omega arith) (omega arith)

-- the bound on the digits does not matter where it is large enough
digits_same : (a b n : ℕ) → n ≤ a → n ≤ b → digits a n ≡ digits b n
digits_same zero b n ha hb = let h : n < 10 = omega arith in digits_one zero n h ∙ sym (digits_one b n h)
digits_same (suc a) zero n ha hb = let h : n < 10 = omega arith in digits_one (suc a) n h ∙ sym (digits_one zero n h)
digits_same (suc a) (suc b) n ha hb = elim (lt_or_le n 10) [
  | inl h ↦ digits_one (suc a) n h ∙ sym (digits_one (suc b) n h)
  | inr h ↦
      digits_more a n h
      ∙ ap (λ (l : List ℕ). l ++ ((48 + n % 10) ∷ [])) (digits_same a b (n / 10) (omega (arith, tenth n h)) (omega (arith, tenth n h)))
      ∙ sym (digits_more b n h)
]

pub decimal_one : (n : ℕ) → n < 10 → (48 + n) ∷ [] ≡ decimal n
unfolding decimal
decimal_one n h = sym (digits_one n n h)

pub decimal_more : (n : ℕ) → 10 ≤ n → decimal (n / 10) ++ ((48 + n % 10) ∷ []) ≡ decimal n
unfolding decimal
decimal_more zero h = absurd (omega arith)
decimal_more (suc n) h = sym (digits_more n (suc n) h ∙ ap (λ (l : List ℕ). l ++ ((48 + suc n % 10) ∷ [])) (digits_same n (suc n / 10) (suc n / 10) (omega (arith, tenth (suc n) h)) (omega arith)))

-- numbers, each after one space

pub spaced_one : (n : ℕ) → (32 ∷ []) ++ decimal n ≡ spaced (n ∷ [])
unfolding spaced
spaced_one n = sym (append-nil (32 ∷ decimal n))

spaced_append : (xs ys : List ℕ) → spaced (xs ++ ys) ≡ spaced xs ++ spaced ys
unfolding spaced
spaced_append [] ys = refl
spaced_append (x ∷ xs) ys = ap (λ (l : List ℕ). (32 ∷ decimal x) ++ l) (spaced_append xs ys) ∙ sym (append_assoc (32 ∷ decimal x) (spaced xs) (spaced ys))

pub spaced_none : (text : List ℕ) → text ≡ text ++ spaced []
unfolding spaced
spaced_none text = sym (append-nil text)

pub spaced_more : (text ns : List ℕ) (i : ℕ) → i < length ns → text ++ spaced (take i ns) ++ spaced (get_or ns i 0 ∷ []) ≡ text ++ spaced (take (i + 1) ns)
spaced_more text ns i h = append_assoc text (spaced (take i ns)) (spaced (get_or ns i 0 ∷ [])) ∙ ap (λ (l : List ℕ). text ++ l) (sym (ap spaced (take_more ns i 0 h) ∙ spaced_append (take i ns) (get_or ns i 0 ∷ [])))

pub spaced_all : (text ns : List ℕ) (i : ℕ) → length ns ≤ i → text ++ spaced (take i ns) ≡ text ++ spaced ns
spaced_all text ns i h = ap (λ (l : List ℕ). text ++ spaced l) (take_all i ns h)

pub spaced_two : (text : List ℕ) (a b : ℕ) → text ++ spaced (a ∷ []) ++ spaced (b ∷ []) ≡ text ++ spaced (a ∷ b ∷ [])
spaced_two text a b = append_assoc text (spaced (a ∷ [])) (spaced (b ∷ [])) ∙ ap (λ (l : List ℕ). text ++ l) (sym (spaced_append (a ∷ []) (b ∷ [])))

-- lines

pub entry_none : (cells : List ℕ) → length cells ≡ 0 → 10 ∷ [] ≡ entry_line cells
unfolding entry_line line
entry_none [] e = refl
entry_none (cell ∷ cells) e = absurd (omega arith)

-- the first n, and those after them, where there may be fewer
take_most : (l : List ℕ) (n most : ℕ) → most ≡ min n (length l) → take most l ≡ take n l
take_most l n most e = ap (λ (k : ℕ). take k l) e ∙ take_min n l

drop_most : (l : List ℕ) (n most : ℕ) → most ≡ min n (length l) → drop most l ≡ drop n l
drop_most l n most e = elim (lt_or_le n (length l)) [
  | inl h ↦ ap (λ (k : ℕ). drop k l) (omega arith)
  | inr h ↦ drop_of_length-le l (omega arith) ∙ sym (drop_of_length-le l h)
]

-- the entry at the start of the cells, and those after it
pub entries_more : (size left next most : ℕ) (cells : List ℕ) {here after : List ℕ} → most ≡ min size (length cells) → here ≡ take most cells → after ≡ drop most cells → left ≡ suc next → entry_lines left size cells ≡ entry_line here ++ entry_lines next size after
unfolding entry_lines
entries_more size left next most cells e f g n = rw (n, f, g, take_most cells size most e, drop_most cells size most e) refl

pub entries_none : (size left : ℕ) (cells : List ℕ) → left ≡ 0 → entry_lines left size cells ≡ []
unfolding entry_lines
entries_none size left cells e = rw e refl
