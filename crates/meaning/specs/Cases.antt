-- Document 01, "Cases": the cases marked P, over the bytes, six jobs that tell wrong walks apart, and the cases of requests 1/14, 2/14 and 3/14. One
-- table, one statement.
use Rattle.std.specs.Prelude.{◌≡◌, ℕ, ◌-◌, ◌/◌, ◌%◌, length, replicate}
use mathlib.Core.List.{List, [], ◌∷◌, ◌++◌, map, flatten}
use Rattle.std.proofs.Math.Option.{Option, none, some}
use Rattle.meaning.specs.Reading.{Reading, refused, accepted, reading}
use Rattle.meaning.specs.List.{Ending, complete, stopped, full}
use Rattle.meaning.specs.Plain.{plain_count}
use Rattle.meaning.specs.Ground.{Answer, refusal, ran, Grounded, ground, plain_ground}

-- the answer, the lent cells after it, and the plain count of an accepted job
pub record Outcome : Type 0 where
  pub answer : Answer
  pub cells : List ℕ
  pub plain : Option ℕ

-- the call, by the walk or by the plain engine; so many cells are lent, and each holds 7
pub record Case : Type 0 where
  pub call : List ℕ → ℕ → List ℕ → Grounded
  pub bytes : List ℕ
  pub allowance : ℕ
  pub lent : ℕ
  pub expected : Outcome

abbrev plain_of : Reading → Option ℕ
plain_of (refused number place) = none
plain_of (accepted J) = some (plain_count J)

abbrev pub outcome : Case → Outcome
outcome c =
    let g = c.call c.bytes c.allowance (replicate c.lent 7) in
    record { answer = g.answer; cells = g.cells; plain = plain_of (reading c.bytes) }

abbrev pub Right : List Case → Type 0
Right cs = map outcome cs ≡ map (λ (c : Case). c.expected) cs

-- An accepted job's case: its entries, cell by cell, its ending, its tests and its plain count. The cells after the entries keep their 7.
abbrev case : List ℕ → ℕ → ℕ → List (List ℕ) → Ending → ℕ → ℕ → Case
case bytes allowance lent entries ending tests plain = record {
  call = ground;
  bytes = bytes;
  allowance = allowance;
  lent = lent;
  expected = record {
    answer = ran ending (length entries) tests;
    cells = flatten entries ++ replicate (lent - length (flatten entries)) 7;
    plain = some plain;
  };
}

-- as the lister runs: "with allowance 1,000,000 and 4,096 cells"
abbrev list : List ℕ → List (List ℕ) → Ending → ℕ → ℕ → Case
list bytes = case bytes 1000000 4096

abbrev refused_case : List ℕ → ℕ → ℕ → Case
refused_case bytes number place = record {
  call = ground;
  bytes = bytes;
  allowance = 1000000;
  lent = 4096;
  expected = record { answer = refusal number place; cells = replicate 4096 7; plain = none };
}

-- the same by the plain engine
abbrev plainly : Case → Case
plainly c = record { call = plain_ground; bytes = c.bytes; allowance = c.allowance; lent = c.lent; expected = c.expected }

-- The bytes of a field shorter than 256, and of its cells and terms.
abbrev field : ℕ → List (List ℕ) → List ℕ
field tag parts = tag ∷ 0 ∷ length (flatten parts) ∷ flatten parts

abbrev cell : ℕ → List ℕ
cell m = m / 16777216 ∷ m / 65536 % 256 ∷ m / 256 % 256 ∷ m % 256 ∷ []

abbrev n : ℕ → List ℕ
n m = 0 ∷ cell m

abbrev v : ℕ → List ℕ
v m = 1 ∷ cell m

-- a predicate that is solved, and one that is not, by its arity
abbrev solved : ℕ → List ℕ
solved arity = field 1 ((arity ∷ 1 ∷ []) ∷ [])

abbrev unsolved : ℕ → List ℕ
unsolved arity = field 1 ((arity ∷ 0 ∷ []) ∷ [])

abbrev row : ℕ → List ℕ → List ℕ
row p cells = field 2 ((p ∷ []) ∷ map cell cells)

abbrev head : ℕ → List (List ℕ) → List ℕ
head p terms = field 3 ((p ∷ []) ∷ terms)

abbrev literal : ℕ → List (List ℕ) → List ℕ
literal p terms = field 4 ((0 ∷ p ∷ []) ∷ terms)

abbrev negated : ℕ → List (List ℕ) → List ℕ
negated p terms = field 4 ((1 ∷ p ∷ []) ∷ terms)

-- the bytes of fields in a row
abbrev job : List (List ℕ) → List ℕ
job fields = flatten fields

-- the rows of predicate p: (m), and (m, k)
abbrev r : ℕ → ℕ → List ℕ
r p m = row p (m ∷ [])

abbrev rr : ℕ → ℕ → ℕ → List ℕ
rr p m k = row p (m ∷ k ∷ [])

-- literals and heads over predicate p: p(Vm), and p(Vm, Vk)
abbrev l : ℕ → ℕ → List ℕ
l p m = literal p (v m ∷ [])

abbrev ll : ℕ → ℕ → ℕ → List ℕ
ll p m k = literal p (v m ∷ v k ∷ [])

abbrev h : ℕ → ℕ → List ℕ
h p m = head p (v m ∷ [])

abbrev hh : ℕ → ℕ → ℕ → List ℕ
hh p m k = head p (v m ∷ v k ∷ [])

-- "Its 91 bytes:"
abbrev job2 : List ℕ
job2 =
    1 ∷ 0 ∷ 2 ∷ 2 ∷ 1 ∷ 1 ∷ 0 ∷ 2 ∷ 2 ∷ 0 ∷ 2 ∷ 0 ∷ 9 ∷ 0 ∷ 0 ∷ 0 ∷ 0 ∷ 1 ∷ 0 ∷ 0 ∷ 0 ∷ 9 ∷ 2 ∷ 0 ∷ 9 ∷ 0 ∷ 0 ∷ 0 ∷ 0 ∷ 2 ∷ 0 ∷ 0 ∷ 0 ∷ 10
    ∷ 3 ∷ 0 ∷ 11 ∷ 1 ∷ 1 ∷ 0 ∷ 0 ∷ 0 ∷ 0 ∷ 1 ∷ 0 ∷ 0 ∷ 0 ∷ 2 ∷ 4 ∷ 0 ∷ 12 ∷ 0 ∷ 0 ∷ 1 ∷ 0 ∷ 0 ∷ 0 ∷ 0 ∷ 1 ∷ 0 ∷ 0 ∷ 0 ∷ 1
    ∷ 4 ∷ 0 ∷ 12 ∷ 0 ∷ 0 ∷ 1 ∷ 0 ∷ 0 ∷ 0 ∷ 2 ∷ 1 ∷ 0 ∷ 0 ∷ 0 ∷ 3 ∷ 5 ∷ 0 ∷ 10 ∷ 1 ∷ 0 ∷ 0 ∷ 0 ∷ 1 ∷ 1 ∷ 0 ∷ 0 ∷ 0 ∷ 3 ∷ []

-- A is predicate 0, B 1, D 2, h 3
abbrev job3 : List ℕ
job3 = job (solved 1 ∷ solved 1 ∷ solved 2 ∷ unsolved 2 ∷ r 0 1 ∷ r 0 2 ∷ r 1 7 ∷ rr 2 1 31 ∷ rr 2 2 32 ∷ hh 3 1 2 ∷ l 0 0 ∷ l 1 1 ∷ ll 2 0 2 ∷ [])

abbrev job4 : List (List ℕ) → List ℕ
job4 heads = job (solved 1 ∷ solved 1 ∷ unsolved 1 ∷ r 0 1 ∷ r 0 2 ∷ r 1 5 ∷ r 1 6 ∷ r 1 7 ∷ flatten heads ∷ l 0 0 ∷ l 1 1 ∷ [])

abbrev job11 : List ℕ
job11 = job (solved 1 ∷ solved 1 ∷ solved 1 ∷ unsolved 2 ∷ r 0 1 ∷ r 0 2 ∷ r 1 5 ∷ r 1 6 ∷ r 2 2 ∷ hh 3 0 1 ∷ l 0 0 ∷ l 1 1 ∷ l 2 0 ∷ [])

-- case 2 with other times and another comparison, by its tag
abbrev events : ℕ → ℕ → ℕ → List ℕ
events tag m k = job (solved 2 ∷ unsolved 2 ∷ rr 0 1 m ∷ rr 0 2 k ∷ hh 1 0 2 ∷ ll 0 0 1 ∷ ll 0 2 3 ∷ field tag (v 1 ∷ v 3 ∷ []) ∷ [])

-- a comparison of two numbers by itself: listed with the empty support after one test, or not
abbrev holding : ℕ → ℕ → ℕ → Case
holding tag m k = list (field tag (n m ∷ n k ∷ [])) ((1 ∷ []) ∷ []) complete 1 1

abbrev failing : ℕ → ℕ → ℕ → Case
failing tag m k = list (field tag (n m ∷ n k ∷ [])) [] complete 1 1

-- e(1), e(2) and m(1), with these heads and the body e(V0), not m(V0); e is predicate 0, m 1 as it is declared here, h 2
abbrev stops : List ℕ → List (List ℕ) → List ℕ
stops m heads = job (solved 1 ∷ m ∷ unsolved 1 ∷ r 0 1 ∷ r 0 2 ∷ r 1 1 ∷ flatten heads ∷ l 0 0 ∷ negated 1 (v 0 ∷ []) ∷ [])

abbrev pub table : List Case
table =
    -- case 1
    refused_case [] 11 0
    -- case 2
    ∷ list job2 ((5 ∷ 1 ∷ 2 ∷ 0 ∷ 1 ∷ []) ∷ []) complete 10 10
    -- case 3
    ∷ list job3 ((3 ∷ 7 ∷ 31 ∷ 0 ∷ 0 ∷ 0 ∷ []) ∷ (8 ∷ 7 ∷ 32 ∷ 1 ∷ 0 ∷ 1 ∷ []) ∷ []) complete 8 8
    -- case 4
    ∷ list (job4 (h 2 0 ∷ [])) ((2 ∷ 1 ∷ 0 ∷ 0 ∷ []) ∷ (4 ∷ 2 ∷ 1 ∷ 0 ∷ []) ∷ []) complete 4 8
    -- case 5: case 4 with no head
    ∷ list (job4 []) ((2 ∷ 0 ∷ 0 ∷ []) ∷ []) complete 2 8
    -- case 6: h(4), no body, allowance 0
    ∷ case (job (unsolved 1 ∷ head 0 (n 4 ∷ []) ∷ [])) 0 4096 ((0 ∷ []) ∷ []) complete 0 0
    -- case 7: V0 twice in one literal
    ∷ list (job (solved 2 ∷ unsolved 1 ∷ rr 0 1 2 ∷ rr 0 3 3 ∷ h 1 0 ∷ ll 0 0 0 ∷ [])) ((2 ∷ 3 ∷ 1 ∷ []) ∷ []) complete 2 2
    -- case 8: case 3 with allowance 7, and with 8
    ∷ case job3 7 4096 ((3 ∷ 7 ∷ 31 ∷ 0 ∷ 0 ∷ 0 ∷ []) ∷ []) stopped 7 8
    ∷ case job3 8 4096 ((3 ∷ 7 ∷ 31 ∷ 0 ∷ 0 ∷ 0 ∷ []) ∷ (8 ∷ 7 ∷ 32 ∷ 1 ∷ 0 ∷ 1 ∷ []) ∷ []) complete 8 8
    -- case 9: case 4 with 7 cells
    ∷ case (job4 (h 2 0 ∷ [])) 1000000 7 ((2 ∷ 1 ∷ 0 ∷ 0 ∷ []) ∷ []) full 4 8
    -- case 10: no rows, allowance 0
    ∷ case (job (solved 1 ∷ unsolved 1 ∷ h 1 0 ∷ l 0 0 ∷ [])) 0 4096 [] complete 0 0
    -- case 11
    ∷ list job11 ((6 ∷ 2 ∷ 5 ∷ 1 ∷ 0 ∷ 0 ∷ []) ∷ (8 ∷ 2 ∷ 6 ∷ 1 ∷ 1 ∷ 0 ∷ []) ∷ []) complete 8 10
    -- a walk that does not clear the mark on entering makes 22 tests here
    ∷ list (job (solved 1 ∷ solved 2 ∷ unsolved 2 ∷ r 0 0 ∷ r 0 1 ∷ rr 1 0 1 ∷ hh 2 1 2 ∷ l 0 1 ∷ l 0 2 ∷ l 0 0 ∷ ll 1 1 0 ∷ []))
    ((6 ∷ 0 ∷ 0 ∷ 0 ∷ 0 ∷ 1 ∷ 0 ∷ []) ∷ (11 ∷ 0 ∷ 1 ∷ 0 ∷ 1 ∷ 1 ∷ 0 ∷ []) ∷ []) complete 17 22
    -- one that takes an item that nothing fits for one that ran out later makes 6 here
    ∷ list (job (solved 2 ∷ unsolved 0 ∷ rr 0 2 0 ∷ rr 0 2 1 ∷ head 1 [] ∷ ll 0 3 0 ∷ ll 0 1 1 ∷ ll 0 3 1 ∷ [])) [] complete 3 6
    -- one that takes a clear mark for a set one makes 10 here
    ∷ list (job (solved 1 ∷ solved 1 ∷ unsolved 1 ∷ r 0 1 ∷ r 0 2 ∷ r 1 0 ∷ h 2 2 ∷ l 0 2 ∷ l 0 1 ∷ l 1 1 ∷ [])) [] complete 5 10
    -- one that takes a set mark for a clear one loses two entries here
    ∷ list (job (solved 1 ∷ unsolved 2 ∷ r 0 0 ∷ r 0 2 ∷ hh 1 0 2 ∷ l 0 0 ∷ l 0 2 ∷ []))
    ((2 ∷ 0 ∷ 0 ∷ 0 ∷ 0 ∷ []) ∷ (3 ∷ 0 ∷ 2 ∷ 0 ∷ 1 ∷ []) ∷ (5 ∷ 2 ∷ 0 ∷ 1 ∷ 0 ∷ []) ∷ (6 ∷ 2 ∷ 2 ∷ 1 ∷ 1 ∷ []) ∷ []) complete 6 6
    -- one that takes the item's own variables for its group's loses the entry here
    ∷ list (job (solved 2 ∷ unsolved 1 ∷ rr 0 1 2 ∷ rr 0 2 0 ∷ h 1 0 ∷ ll 0 3 2 ∷ ll 0 1 0 ∷ ll 0 0 2 ∷ []))
    ((11 ∷ 2 ∷ 1 ∷ 0 ∷ 1 ∷ []) ∷ []) complete 14 14
    -- one that follows the group only towards later items loses the entry here
    ∷ list (job (solved 2 ∷ unsolved 2 ∷ rr 0 1 0 ∷ rr 0 2 2 ∷ hh 1 0 1 ∷ ll 0 2 3 ∷ ll 0 1 1 ∷ ll 0 0 3 ∷ ll 0 1 0 ∷ []))
    ((14 ∷ 2 ∷ 2 ∷ 1 ∷ 1 ∷ 1 ∷ 1 ∷ []) ∷ []) complete 14 14
    -- request 1/14: across the roll-over event 1 is before event 2,
    ∷ list (events 6 4294967290 5) ((5 ∷ 1 ∷ 2 ∷ 0 ∷ 1 ∷ []) ∷ []) complete 10 10
    -- which less-than loses, listing the pair the wrong way round
    ∷ list (events 5 4294967290 5) ((8 ∷ 2 ∷ 1 ∷ 1 ∷ 0 ∷ []) ∷ []) complete 10 10
    -- distance 2,147,483,647, from 0 and across the roll-over, and the way back
    ∷ holding 6 0 2147483647
    ∷ holding 6 4294967295 2147483646
    ∷ failing 6 2147483647 0
    -- distance 2,147,483,648, either way
    ∷ failing 6 0 2147483648
    ∷ failing 6 2147483648 0
    -- equal numbers
    ∷ failing 6 4294967295 4294967295
    -- the least distance, at the roll-over, and the way back
    ∷ holding 6 4294967295 0
    ∷ failing 6 0 4294967295
    -- "3 now means a tag not 1 to 6"
    ∷ refused_case (field 7 (n 0 ∷ n 1 ∷ [])) 3 0
    -- "9 covers tag 6"
    ∷ refused_case (field 6 (n 0 ∷ v 0 ∷ [])) 9 0
    -- request 2/14: h(V0) if e(V0) and not m(V0), with m unsolved: row m(1) does not kill V0 = 1, and each "not" is one test;
    ∷ list (stops (unsolved 1) (h 2 0 ∷ [])) ((2 ∷ 1 ∷ 0 ∷ []) ∷ (4 ∷ 2 ∷ 1 ∷ []) ∷ []) complete 4 4
    -- with m solved it does
    ∷ list (stops (solved 1) (h 2 0 ∷ [])) ((4 ∷ 2 ∷ 1 ∷ []) ∷ []) complete 4 4
    -- the same with no head: V0 is relevant by the literal over m alone,
    ∷ list (stops (unsolved 1) []) ((2 ∷ 1 ∷ 0 ∷ []) ∷ (4 ∷ 2 ∷ 1 ∷ []) ∷ []) complete 4 4
    -- and with m solved nothing is
    ∷ list (stops (solved 1) []) ((4 ∷ 1 ∷ []) ∷ []) complete 4 4
    -- request 3/14: case 1 by the plain engine; and case 3, where the walk skips nothing;
    ∷ plainly (refused_case [] 11 0)
    ∷ plainly (list job3 ((3 ∷ 7 ∷ 31 ∷ 0 ∷ 0 ∷ 0 ∷ []) ∷ (8 ∷ 7 ∷ 32 ∷ 1 ∷ 0 ∷ 1 ∷ []) ∷ []) complete 8 8)
    -- case 4: every row of B is laid for both of A, but V0 = 1 is listed once;
    ∷ plainly (list (job4 (h 2 0 ∷ [])) ((2 ∷ 1 ∷ 0 ∷ 0 ∷ []) ∷ (6 ∷ 2 ∷ 1 ∷ 0 ∷ []) ∷ []) complete 8 8)
    -- case 5: the same with no head;
    ∷ plainly (list (job4 []) ((2 ∷ 0 ∷ 0 ∷ []) ∷ []) complete 8 8)
    -- case 6: no test is due;
    ∷ plainly (case (job (unsolved 1 ∷ head 0 (n 4 ∷ []) ∷ [])) 0 4096 ((0 ∷ []) ∷ []) complete 0 0)
    -- case 8: case 3 with allowance 7; and case 4 with 7 and with 5;
    ∷ plainly (case job3 7 4096 ((3 ∷ 7 ∷ 31 ∷ 0 ∷ 0 ∷ 0 ∷ []) ∷ []) stopped 7 8)
    ∷ plainly (case (job4 (h 2 0 ∷ [])) 7 4096 ((2 ∷ 1 ∷ 0 ∷ 0 ∷ []) ∷ (6 ∷ 2 ∷ 1 ∷ 0 ∷ []) ∷ []) stopped 7 8)
    ∷ plainly (case (job4 (h 2 0 ∷ [])) 5 4096 ((2 ∷ 1 ∷ 0 ∷ 0 ∷ []) ∷ []) stopped 5 8)
    -- case 9: V0 = 2 is found at the sixth test;
    ∷ plainly (case (job4 (h 2 0 ∷ [])) 1000000 7 ((2 ∷ 1 ∷ 0 ∷ 0 ∷ []) ∷ []) full 6 8)
    -- case 11: C fails for both rows of B before V0 = 2;
    ∷ plainly (list job11 ((8 ∷ 2 ∷ 5 ∷ 1 ∷ 0 ∷ 0 ∷ []) ∷ (10 ∷ 2 ∷ 6 ∷ 1 ∷ 1 ∷ 0 ∷ []) ∷ []) complete 10 10)
    -- and a negated literal over an unsolved predicate is one test
    ∷ plainly (list (stops (unsolved 1) (h 2 0 ∷ [])) ((2 ∷ 1 ∷ 0 ∷ []) ∷ (4 ∷ 2 ∷ 1 ∷ []) ∷ []) complete 4 4)
    ∷ []
