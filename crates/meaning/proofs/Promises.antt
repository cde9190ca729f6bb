-- The promises, in one place. `ground` and `plain_ground` are what the two public calls, the walk's and the plain engine's, answer and leave in the
-- lent cells: see specs/Ground.
use mathlib.Core.Path.{◌≡◌}
use mathlib.Core.Logic.{◌⊎◌, ◌↔◌}
use mathlib.Core.List.{List, [], ◌∷◌, ◌++◌, flatten, Memᴰ}
use Prim.Native.Nat.{ℕ, suc, ◌+◌, ◌-◌, ◌*◌, ◌%◌, ◌≤◌, ◌<◌}
use lib.ListN.{length, take, drop}
use lib.Dec.{T}
use Rattle.meaning.specs.Job.{Term, less_than, before, negated, comparison, test, Rule, Job, rows_of, vars_of, size, item_at, Sound}
use Rattle.meaning.specs.Reading.{refused, accepted, reading}
use Rattle.meaning.specs.Counter.{counter, reach, ahead, Before}
use Rattle.meaning.specs.Relevant.{Choice, open?, relevant, Instance, passes, Holds, Listing}
use Rattle.meaning.specs.List.{complete, stopped, full, entry_size, Begins}
use Rattle.meaning.specs.Plain.{plain, plain_count, plain_search}
use Rattle.meaning.specs.Group.{Group, group}
use Rattle.meaning.specs.Walk.{State, tested, enter, make_test, walk}
use Rattle.meaning.specs.Ground.{refusal, entries_of, tests_of, Ended, ground, plain_ground, list_of, instances_of}
use Rattle.meaning.specs.Cases.{table, Right}
use Rattle.meaning.proofs.Cases as by-computation
use Rattle.meaning.proofs.Counter as counters
use Rattle.meaning.proofs.Group as groups
use Rattle.meaning.proofs.Local as local
use Rattle.meaning.proofs.Reading as read
use Rattle.meaning.proofs.Unique as unique
use Rattle.meaning.proofs.Unsolved as unsolved
use Rattle.meaning.proofs.Engine as engines
use Rattle.meaning.proofs.Engine.{Lawful}
use Rattle.meaning.proofs.PlainTests as tests
use Rattle.meaning.proofs.PlainList as plains
use Rattle.meaning.proofs.Ground as grounds

-- Demand 1: "A refusal returns its number and place, 0 entries and 0 tests. No list cell changes."
pub refused_keeps : (bytes : List ℕ) (number place : ℕ) → reading bytes ≡ refused number place → (allowance : ℕ) (held : List ℕ)
    → ground bytes allowance held ≡ record { answer = refusal number place; cells = held }
refused_keeps = grounds.ground_refused walk

-- Request 3/14: the plain engine "takes the same jobs", and refuses the same.
pub plain_refused : (bytes : List ℕ) (number place : ℕ) → reading bytes ≡ refused number place → (allowance : ℕ) (held : List ℕ)
    → plain_ground bytes allowance held ≡ record { answer = refusal number place; cells = held }
plain_refused = grounds.ground_refused plain_search

-- What is asked of the list leaves one list at most.
pub one_listing : (J : Job) (L M : List Instance) → Listing J L → Listing J M → L ≡ M
one_listing = unique.one_listing

-- The group that the walk computes is "all items at or after it joined to it by shared variables through items at or after it, in either direction".
pub group_is : (R : Rule) (p j : ℕ) → p < size R → (Memᴰ j (group R p) → Group R p j) × (Group R p j → Memᴰ j (group R p))
group_is R p j h = (groups.group_is R p j h, groups.is_group R p j h)

-- A test computes what the documents say of it: a negated literal passes when its predicate is unsolved (request 2/14) or it is no row of it,
pub negated_is : (J : Job) (p : ℕ) (ns : List ℕ) → T (passes J (negated p) ns) ↔ (T (open? J.rule p) ⊎ (Memᴰ ns (rows_of J p) → ⊥))
negated_is = local.negated_is

-- "and each less-than holds as numbers".
pub less_than_is : (J : Job) (a b : ℕ) → T (passes J (comparison less_than) (a ∷ b ∷ [])) ↔ (a < b)
less_than_is = local.less_than_is

-- Request 1/14: "a is before b when b minus a, taken round the counter, is from 1 to 2,147,483,647".
pub before_is : (J : Job) (a b : ℕ) → T (passes J (comparison before) (a ∷ b ∷ [])) ↔ Before a b
before_is = local.before_is

-- Which came first, on a counter that rolls over? Nothing is before itself;
pub never_itself : (a : ℕ) → a < counter → Before a a → ⊥
never_itself = counters.never_itself

-- of two different numbers exactly one is before the other,
pub one_before : (a b : ℕ) → a < counter → b < counter → (a ≡ b → ⊥) → (ahead a b ≡ 2147483648 → ⊥) → (Before a b × (Before b a → ⊥)) ⊎ (Before b a × (Before a b → ⊥))
one_before = counters.one_before

-- except at distance 2,147,483,648, where neither is;
pub neither_before : (a b : ℕ) → a < counter → b < counter → ahead a b ≡ 2147483648 → (Before a b → ⊥) × (Before b a → ⊥)
neither_before = counters.neither_before

-- numbers at most 2,147,483,647 apart compare as by less-than;
pub in_window : (a b : ℕ) → a < counter → b < counter → a ≤ b + reach → b ≤ a + reach → Before a b ↔ (a < b)
in_window = counters.in_window

-- and of two times at most 2,147,483,647 apart the earlier is before the later, wherever the counter started again.
pub rolls_over : (s t : ℕ) → s ≤ t + reach → t ≤ s + reach → Before (s % counter) (t % counter) ↔ (s < t)
rolls_over = counters.rolls_over

-- Request 2/14: "a negated literal over an unsolved predicate is always valid",
pub always_valid : (J : Job) (q : ℕ) (ts : List Term) → T (open? J.rule q) → (θ : Choice) → Holds J θ (test (negated q) ts)
always_valid = unsolved.always_valid

-- "it still costs one test": wherever it stands, the plain search counts one and goes on, with whatever rows were laid before it,
pub one_plain : (J : Job) (q : ℕ) (ts : List Term) → T (open? J.rule q) → (i : ℕ) → item_at J.rule i ≡ test (negated q) ts
    → (d : ℕ) (rows : List ℕ) → plain J (suc d) i rows ≡ suc (plain J d (suc i) (rows ++ (0 ∷ [])))
one_plain = unsolved.one_plain

-- and so does the walk, in whatever state it is due there,
pub one_walk : (J : Job) (q : ℕ) (ts : List Term) → T (open? J.rule q) → (i : ℕ) → item_at J.rule i ≡ test (negated q) ts
    → (lent : ℕ) (st : State) → st.position ≡ i → make_test J lent st ≡ enter J lent (suc st.position) (tested st).next st.marks (suc st.tests) st.entries
one_walk = unsolved.one_walk

-- From here on J is what the bytes were accepted as: any accepted job.
module _ (bytes : List ℕ) (J : Job) (is : reading bytes ≡ accepted J) where
  -- Demand 1: an accepted job has declared predicates, as many terms as their arities, variables 0 to 15, and bound variables as 9 and 10 ask.
  pub accepted_safe : Sound J
  accepted_safe = read.accepted_sound bytes J is

  walk_lawful : Lawful J (walk J)
  walk_lawful = engines.walk_lawful J accepted_safe.safe

  plain_lawful : Lawful J (plain_search J)
  plain_lawful = plains.plain_lawful J accepted_safe.safe

  -- Request 2/14: "and its variables are still relevant".
  pub still_relevant : (q : ℕ) (ts : List Term) → T (open? J.rule q) → Memᴰ (test (negated q) ts) J.rule.body → (v : ℕ) → Memᴰ v (vars_of ts) → Memᴰ v (relevant J.rule)
  still_relevant q ts mark = unsolved.still_relevant J q ts mark accepted_safe

  -- Demand 2: there is a list that the document asks for,
  pub listing_exists : (L : List Instance) × Listing J L
  listing_exists = grounds.listing_exists walk J walk_lawful bytes is

  -- and the entries of a complete answer, without their first cells, are that list: exactly the relevant instances, with their first supports, in order.
  pub complete_listing : (allowance : ℕ) (held : List ℕ) → let g = ground bytes allowance held in Ended complete g.answer → Listing J (instances_of J.rule g)
  complete_listing = grounds.complete_listing walk J walk_lawful bytes is

  -- A stopped or full list is a beginning of the complete one, entry by entry and with their first cells,
  pub beginning : (allowance allowance' : ℕ) (held held' : List ℕ) → let g = ground bytes allowance held in let g' = ground bytes allowance' held' in
      Ended complete g'.answer → Begins (list_of J.rule g) (list_of J.rule g')
  beginning = grounds.beginning walk J walk_lawful bytes is

  -- and all complete answers are one, whatever the allowance and the lent cells.
  pub complete_one : (allowance allowance' : ℕ) (held held' : List ℕ) → let g = ground bytes allowance held in let g' = ground bytes allowance' held' in
      Ended complete g.answer → Ended complete g'.answer → (g.answer ≡ g'.answer) × (list_of J.rule g ≡ list_of J.rule g')
  complete_one = grounds.complete_one walk J walk_lawful bytes is

  -- Demand 3: a larger allowance only lengthens the list,
  pub longer : (allowance more : ℕ) (held : List ℕ) → Begins (list_of J.rule (ground bytes allowance held)) (list_of J.rule (ground bytes (allowance + more) held))
  longer = grounds.longer walk J walk_lawful bytes is

  -- and never changes a complete or full answer, nor any cell.
  pub settled : (allowance more : ℕ) (held : List ℕ) → (Ended stopped (ground bytes allowance held).answer → ⊥) → ground bytes (allowance + more) held ≡ ground bytes allowance held
  settled = grounds.settled walk J walk_lawful bytes is

  -- Tests are at most the plain count and the allowance; "stopped: a test was due and the allowance .. was used up".
  pub tests_bound : (allowance : ℕ) (held : List ℕ) → let r = (ground bytes allowance held).answer in
      (tests_of r ≤ plain_count J) × (tests_of r ≤ allowance) × (Ended stopped r → (tests_of r ≡ allowance) × (allowance < plain_count J))
  tests_bound = grounds.tests_bound walk J walk_lawful bytes is

  -- Where the lent cells hold every instance, the answer is complete at every allowance that reaches the plain count.
  pub plain_suffices : (L : List Instance) → Listing J L → (allowance : ℕ) (held : List ℕ) → plain_count J ≤ allowance → length L * entry_size J.rule ≤ length held
      → Ended complete (ground bytes allowance held).answer
  plain_suffices = grounds.plain_suffices walk J walk_lawful bytes is

  -- "full: a new instance was found and fewer cells than one entry were free"
  pub full_at : (L : List Instance) → Listing J L → (allowance : ℕ) (held : List ℕ) → let r = (ground bytes allowance held).answer in
      Ended full r → (entries_of r < length L) × (length held - entries_of r * entry_size J.rule < entry_size J.rule)
  full_at = grounds.full_at walk J walk_lawful bytes is

  -- "Entries fill the lent cells from the start; later cells keep what they held.": the list takes its entries' sizes, and the cells are as many as were lent.
  pub cells_after_lem : (allowance : ℕ) (held : List ℕ) → let g = ground bytes allowance held in let n = entries_of g.answer * entry_size J.rule in
      (take n g.cells ≡ flatten (list_of J.rule g)) × (drop n g.cells ≡ drop n held) × (length g.cells ≡ length held)
  cells_after_lem = grounds.cells_after_lem walk J walk_lawful bytes is

  -- Request 3/14: the engine "does the plain search of document 01 with its own count": a complete answer has made the plain count of tests,
  pub plain_tests : (allowance : ℕ) (held : List ℕ) → let r = (plain_ground bytes allowance held).answer in Ended complete r → tests_of r ≡ plain_count J
  plain_tests allowance held = grounds.tests_are plain_search J plain_lawful bytes is (plain_count J) allowance held (tests.complete_tests J allowance (length held))

  -- and its entries, without their first cells, are the list that the document asks for.
  pub plain_listing : (allowance : ℕ) (held : List ℕ) → let g = plain_ground bytes allowance held in Ended complete g.answer → Listing J (instances_of J.rule g)
  plain_listing = grounds.complete_listing plain_search J plain_lawful bytes is

  -- "once for all body lengths, that where both answers are complete the entries agree in values and supports"
  pub engines_agree : (allowance allowance' : ℕ) (held held' : List ℕ) → let g = ground bytes allowance held in let g' = plain_ground bytes allowance' held' in
      Ended complete g.answer → Ended complete g'.answer → instances_of J.rule g ≡ instances_of J.rule g'
  engines_agree allowance allowance' held held' t t' = one_listing J _ _ (complete_listing allowance held t) (plain_listing allowance' held' t')

  -- "Its allowance obeys demand 3's first half, with plain tests.": a larger allowance only lengthens the list,
  pub plain_longer : (allowance more : ℕ) (held : List ℕ) → Begins (list_of J.rule (plain_ground bytes allowance held)) (list_of J.rule (plain_ground bytes (allowance + more) held))
  plain_longer = grounds.longer plain_search J plain_lawful bytes is

  -- and never changes a complete or full answer, nor any cell.
  pub plain_settled : (allowance more : ℕ) (held : List ℕ) → (Ended stopped (plain_ground bytes allowance held).answer → ⊥) → plain_ground bytes (allowance + more) held ≡ plain_ground bytes allowance held
  plain_settled = grounds.settled plain_search J plain_lawful bytes is

  -- The rest is as for the walk: a stopped or full list is a beginning of the complete one, and all complete answers are one;
  pub plain_beginning : (allowance allowance' : ℕ) (held held' : List ℕ) → let g = plain_ground bytes allowance held in let g' = plain_ground bytes allowance' held' in
      Ended complete g'.answer → Begins (list_of J.rule g) (list_of J.rule g')
  plain_beginning = grounds.beginning plain_search J plain_lawful bytes is

  pub plain_one : (allowance allowance' : ℕ) (held held' : List ℕ) → let g = plain_ground bytes allowance held in let g' = plain_ground bytes allowance' held' in
      Ended complete g.answer → Ended complete g'.answer → (g.answer ≡ g'.answer) × (list_of J.rule g ≡ list_of J.rule g')
  plain_one = grounds.complete_one plain_search J plain_lawful bytes is

  -- tests are at most the allowance, and just that where it is stopped, which it is only below the plain count;
  pub plain_bound : (allowance : ℕ) (held : List ℕ) → let r = (plain_ground bytes allowance held).answer in
      (tests_of r ≤ plain_count J) × (tests_of r ≤ allowance) × (Ended stopped r → (tests_of r ≡ allowance) × (allowance < plain_count J))
  plain_bound = grounds.tests_bound plain_search J plain_lawful bytes is

  -- where the cells hold every instance, the plain count is allowance enough;
  pub plain_enough : (L : List Instance) → Listing J L → (allowance : ℕ) (held : List ℕ) → plain_count J ≤ allowance → length L * entry_size J.rule ≤ length held
      → Ended complete (plain_ground bytes allowance held).answer
  plain_enough = grounds.plain_suffices plain_search J plain_lawful bytes is

  -- full, it lacks an instance and the room for one entry;
  pub plain_full_at : (L : List Instance) → Listing J L → (allowance : ℕ) (held : List ℕ) → let r = (plain_ground bytes allowance held).answer in
      Ended full r → (entries_of r < length L) × (length held - entries_of r * entry_size J.rule < entry_size J.rule)
  plain_full_at = grounds.full_at plain_search J plain_lawful bytes is

  -- and the cells after the list keep what they held.
  pub plain_cells_after : (allowance : ℕ) (held : List ℕ) → let g = plain_ground bytes allowance held in let n = entries_of g.answer * entry_size J.rule in
      (take n g.cells ≡ flatten (list_of J.rule g)) × (drop n g.cells ≡ drop n held) × (length g.cells ≡ length held)
  plain_cells_after = grounds.cells_after_lem plain_search J plain_lawful bytes is

-- "The P cases form a single table over the definitions, covered by a single statement"
pub cases_hold : Right table
cases_hold = by-computation.cases
