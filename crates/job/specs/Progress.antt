-- The code's records: what each function makes, and the reading so far that they stand for.
use Rattle.std.specs.Prelude.{ℕ, zero, suc, ◌+◌, ◌*◌, ◌≤◌, ◌<◌, ◌≡◌, false, cond, List, [], length, get_or, replicate, eqb}
use Rattle.meaning.specs.Basics.{tab}
use Rattle.meaning.specs.Job.{predicate_limit, row_limit, head_limit, item_limit, arity_limit, variable_limit, Comparison, less_than, before, Job}
use Rattle.meaning.specs.Reading.{byte_at, be32, Tag, predicate_tag, row_tag, head_tag, literal_tag, comparison_tag, Read}
use Rattle.rule.specs.declared.Term.{Term}
use Rattle.rule.specs.declared.Term.TheVariants.{Number, Variable}
use Rattle.rule.specs.declared.Comparison.{Comparison as ComparisonR}
use Rattle.rule.specs.declared.Comparison.TheVariants.{LessThan, Before}
use Rattle.rule.specs.declared.Test.TheVariants.{Negated, Comparison as Compared}
use Rattle.rule.specs.declared.Kind.{Kind}
use Rattle.rule.specs.declared.Kind.TheVariants.{Positive, Test}
use Rattle.rule.specs.declared.Item.{Item}
use Rattle.rule.specs.declared.Rule.{Rule}
use Rattle.rule.specs.Limits.{cell_limit, index_limit}
use Rattle.rule.specs.Rule.{rule_of, body_of}
use Rattle.job.specs.Bound.{Bound}
use Rattle.job.specs.declared.progress.Progress.{Progress}

-- no offset that the reading comes to reaches this: sums of offsets fit
abbrev pub farthest : ℕ
farthest = 1048576

-- from the bytes: a row's cell, a term, n terms, an item

abbrev pub cell_from : List ℕ → ℕ → ℕ → ℕ
cell_from s i k = be32 s (i + 4 * k)

abbrev pub term_from : List ℕ → ℕ → Term
term_from s i = cond (eqb (byte_at s i) 0) (Number (be32 s (i + 1))) (Variable (be32 s (i + 1)))

abbrev pub terms_from : List ℕ → ℕ → ℕ → List Term
terms_from s i n = tab n (λ (k : ℕ). term_from s (i + 5 * k))

abbrev pub item_from : List ℕ → Kind → ℕ → ℕ → ℕ → Item
item_from s kind predicate i n = record { kind = kind; predicate = predicate; terms = terms_from s i n }

abbrev pub head_from : List ℕ → ℕ → ℕ → Item
head_from s at n = item_from s Positive (byte_at s (at + 3)) (at + 4) n

abbrev pub literal_from : List ℕ → ℕ → ℕ → Item
literal_from s at n = item_from s (cond (eqb (byte_at s (at + 3)) 0) Positive (Test Negated)) (byte_at s (at + 4)) (at + 5) n

-- the code's comparison
abbrev pub comparison_as : Comparison → ComparisonR
comparison_as less_than = LessThan
comparison_as before = Before

abbrev pub comparison_from : Comparison → List ℕ → ℕ → Item
comparison_from k s at = item_from s (Test (Compared (comparison_as k))) 0 (at + 3) 2

-- before the first field
unfoldable pub nothing_yet : Progress
nothing_yet = record {
  group = 0;
  places = [];
  bound = replicate variable_limit false;
  rule = record { items = []; heads = []; solved = [] };
  arities = [];
  rows = replicate predicate_limit 0;
  total = 0;
}

-- how many fields of a tag's kind have been read
unfoldable pub count_of : Tag → Progress → ℕ
count_of predicate_tag p = length p.arities
count_of row_tag p = p.total
count_of head_tag p = length p.rule.heads
count_of literal_tag p = length p.rule.items
count_of (comparison_tag k) p = length p.rule.items

-- what the arrays stand for

-- row k of predicate q, whose arity is a: the cells of a row stand from arity_limit times its number in the job on
unfoldable pub row_of : ℕ → List ℕ → List ℕ → ℕ → ℕ → List ℕ
row_of a cells index q k = tab a (λ (j : ℕ). get_or cells (arity_limit * get_or index (row_limit * q + k) 0 + j) 0)

unfoldable pub tables_of : List ℕ → List ℕ → List ℕ → List ℕ → List (List (List ℕ))
tables_of arities rows cells index = tab (length arities) (λ (q : ℕ). tab (get_or rows q 0) (row_of (get_or arities q 0) cells index q))

abbrev pub job_with : Rule → List ℕ → List ℕ → List ℕ → List ℕ → Job
job_with R arities rows cells index = record { arities = arities; rows = tables_of arities rows cells index; rule = rule_of R }

abbrev pub read_of : Progress → List ℕ → List ℕ → Read
read_of p cells index = record { group = p.group; places = p.places; job = job_with p.rule p.arities p.rows cells index }

-- f 0 to f (n - 1) together
unfoldable pub sum : ℕ → (ℕ → ℕ) → ℕ
sum zero f = 0
sum (suc n) f = sum n f + f n

-- what holds of the record throughout
pub record Well (p : Progress) : Type 0 where
  pub predicates : length p.arities ≤ predicate_limit
  pub solved : length p.rule.solved ≡ length p.arities
  pub heads : length p.rule.heads ≤ head_limit
  pub places : length p.places ≡ length p.rule.heads
  pub items : length p.rule.items ≤ item_limit
  pub rows_length : length p.rows ≡ predicate_limit
  pub bound_length : length p.bound ≡ variable_limit
  pub total : p.total ≤ row_limit
  pub arity : (q : ℕ) → get_or p.arities q 0 ≤ arity_limit
  pub sums : sum (length p.arities) (λ (q : ℕ). get_or p.rows q 0) ≡ p.total
  pub bound : Bound p.bound (body_of p.rule)

-- what holds of the lent arrays throughout: a row's number is that of a row
pub record Filled (p : Progress) (cells index : List ℕ) : Type 0 where
  pub cells_length : length cells ≡ cell_limit
  pub index_length : length index ≡ index_limit
  pub inside : (q k : ℕ) → q < length p.arities → k < get_or p.rows q 0 → get_or index (row_limit * q + k) 0 < p.total
