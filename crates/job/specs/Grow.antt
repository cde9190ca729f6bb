-- The record and the arrays with one field more.
use Rattle.std.specs.Prelude.{ℕ, ◌+◌, ◌*◌, ◌<◌, ◌≤◌, ◌≡◌, Bool, false, List, [], ◌∷◌, ◌++◌, length, get_or, set, eqb}
use Rattle.meaning.specs.Job.{predicate_limit, row_limit, arity_limit, Comparison}
use Rattle.meaning.specs.Reading.{byte_at, Tag, predicate_tag, row_tag, head_tag, literal_tag, comparison_tag, tag_at, length_at, tag_of, line_of, predicate_at, out_of_range, after}
use Rattle.rule.specs.declared.Item.{Item}
use Rattle.job.specs.Puts.{puts}
use Rattle.job.specs.Bound.{marked_by}
use Rattle.job.specs.Progress.{cell_from, head_from, literal_from, comparison_from, count_of, read_of, Well, Filled}
use Rattle.job.specs.Table.{places_in}
use Rattle.job.specs.declared.progress.Progress.{Progress}

-- in another group
abbrev pub in_group : ℕ → Progress → Progress
in_group group p = record { group = group; places = p.places; bound = p.bound; rule = p.rule; arities = p.arities; rows = p.rows; total = p.total }

abbrev pub with_predicate : List ℕ → ℕ → Progress → Progress
with_predicate s at p = record {
  group = p.group;
  places = p.places;
  bound = p.bound;
  rule = record { items = p.rule.items; heads = p.rule.heads; solved = p.rule.solved ++ (eqb (byte_at s (at + 4)) 1 ∷ []) };
  arities = p.arities ++ (byte_at s (at + 3) ∷ []);
  rows = set p.rows (length p.arities) 0;
  total = p.total;
}

-- the byte at i names a predicate that is declared
pub record Named (s : List ℕ) (i : ℕ) (p : Progress) : Type 0 where
  pub declared : byte_at s i < length p.arities
  pub arity : get_or p.arities (byte_at s i) 0 ≤ arity_limit

-- and there is room for a row
pub record RowReady (s : List ℕ) (at : ℕ) (p : Progress) : Type 0 where
  pub named : Named s (at + 3) p
  pub predicates : length p.arities ≤ predicate_limit
  pub room : p.total < row_limit
  pub count : get_or p.rows (byte_at s (at + 3)) 0 ≤ p.total

abbrev pub with_row : List ℕ → ℕ → Progress → Progress
with_row s at p = record {
  group = p.group;
  places = p.places;
  bound = p.bound;
  rule = p.rule;
  arities = p.arities;
  rows = set p.rows (byte_at s (at + 3)) (get_or p.rows (byte_at s (at + 3)) 0 + 1);
  total = p.total + 1;
}

abbrev pub with_cells : List ℕ → ℕ → Progress → List ℕ → List ℕ
with_cells s at p cells = puts cells (arity_limit * p.total) (get_or p.arities (byte_at s (at + 3)) 0) (cell_from s (at + 4))

abbrev pub with_index : List ℕ → ℕ → Progress → List ℕ → List ℕ
with_index s at p index = set index (row_limit * byte_at s (at + 3) + get_or p.rows (byte_at s (at + 3)) 0) p.total

pub record RowAdded (s : List ℕ) (at : ℕ) (p r : Progress) (cells index cells' index' : List ℕ) : Type 0 where
  pub record_is : r ≡ with_row s at p
  pub cells_are : cells' ≡ with_cells s at p cells
  pub index_is : index' ≡ with_index s at p index

abbrev pub with_head : List ℕ → ℕ → Progress → Progress
with_head s at p = record {
  group = p.group;
  places = p.places ++ (at ∷ []);
  bound = p.bound;
  rule = record {
    items = p.rule.items;
    heads = p.rule.heads ++ (head_from s at (get_or p.arities (byte_at s (at + 3)) 0) ∷ []);
    solved = p.rule.solved;
  };
  arities = p.arities;
  rows = p.rows;
  total = p.total;
}

abbrev pub with_item : Item → Progress → List Bool → Progress
with_item x p bound = record {
  group = p.group;
  places = p.places;
  bound = bound;
  rule = record { items = p.rule.items ++ (x ∷ []); heads = p.rule.heads; solved = p.rule.solved };
  arities = p.arities;
  rows = p.rows;
  total = p.total;
}

abbrev pub literal_of : List ℕ → ℕ → Progress → Item
literal_of s at p = literal_from s at (get_or p.arities (byte_at s (at + 4)) 0)

abbrev pub with_literal : List ℕ → ℕ → Progress → Progress
with_literal s at p = with_item (literal_of s at p) p (marked_by (literal_of s at p) p.bound)

abbrev pub with_comparison : Comparison → List ℕ → ℕ → Progress → Progress
with_comparison k s at p = with_item (comparison_from k s at) p p.bound

-- the record and the arrays after the field at `at`, by its tag

unfoldable pub next_record : Tag → List ℕ → ℕ → Progress → Progress
next_record predicate_tag s at p = with_predicate s at (in_group 1 p)
next_record row_tag s at p = with_row s at (in_group 2 p)
next_record head_tag s at p = with_head s at (in_group 3 p)
next_record literal_tag s at p = with_literal s at (in_group 4 p)
next_record (comparison_tag k) s at p = with_comparison k s at (in_group 4 p)

unfoldable pub next_cells : Tag → List ℕ → ℕ → Progress → List ℕ → List ℕ
next_cells predicate_tag s at p cells = cells
next_cells row_tag s at p cells = with_cells s at p cells
next_cells head_tag s at p cells = cells
next_cells literal_tag s at p cells = cells
next_cells (comparison_tag k) s at p cells = cells

unfoldable pub next_index : Tag → List ℕ → ℕ → Progress → List ℕ → List ℕ
next_index predicate_tag s at p index = index
next_index row_tag s at p index = with_index s at p index
next_index head_tag s at p index = index
next_index literal_tag s at p index = index
next_index (comparison_tag k) s at p index = index

-- what the absence of a fault says of the field at `at`
pub record Sound (s : List ℕ) (at : ℕ) (p : Progress) : Type 0 where
  pub fits : at + 3 + length_at s at ≤ length s
  pub limit : count_of (tag_of (tag_at s at)) p < (line_of (tag_of (tag_at s at))).limit
  pub declared : 0 < (line_of (tag_of (tag_at s at))).up_to → predicate_at (tag_of (tag_at s at)) s at < length p.arities
  pub range : out_of_range (tag_of (tag_at s at)) s at (places_in (tag_of (tag_at s at)) s at p) ≡ false

pub record Ready (s : List ℕ) (at : ℕ) (t : Tag) (p : Progress) : Type 0 where
  pub tag_is : t ≡ tag_of (tag_at s at)
  pub well : Well p
  pub sound : Sound s at p

-- the field is read: what stands in the record and the arrays is the reading after it
pub record Stepped (s : List ℕ) (at : ℕ) (p r : Progress) (cells index cells' index' : List ℕ) : Type 0 where
  pub read : read_of r cells' index' ≡ after s at (read_of p cells index)
  pub record_is : r ≡ next_record (tag_of (tag_at s at)) s at p
  pub cells_are : cells' ≡ next_cells (tag_of (tag_at s at)) s at p cells
  pub index_is : index' ≡ next_index (tag_of (tag_at s at)) s at p index
  pub well : Well r
  pub filled : Filled r cells' index'
