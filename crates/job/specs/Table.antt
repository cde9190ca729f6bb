-- The table by tag, and what it says of a field.
use Rattle.std.specs.Prelude.{ℕ, ◌+◌, ◌*◌, ◌≤◌, ◌≡◌, Bool, true, false, ◌&&◌, ◌||◌, List, length, ltb, leb, Result, Ok, Err, MatchResult}
use Rattle.meaning.specs.Job.{arity_limit}
use Rattle.meaning.specs.Reading.{Tag, predicate_tag, row_tag, head_tag, literal_tag, comparison_tag, tags, Line as LineOf, tag_of, line_of, predicate_at, places_at}
use Rattle.rule.specs.Rule.{comparison_of}
use Rattle.job.specs.declared.table.Tag.{Tag as TagR}
use Rattle.job.specs.declared.table.Tag.TheVariants.{Predicate, Row, Head, Literal, Comparison}
use Rattle.job.specs.declared.table.Line.{Line}
use Rattle.job.specs.declared.progress.Progress.{Progress}
use Rattle.job.specs.declared.fault.Fault.{Fault}
use Rattle.job.specs.declared.fault.Fault.TheVariants.{Tag as NoTag, Undeclared}

-- the meaning's tag
abbrev pub meant : TagR → Tag
meant Predicate = predicate_tag
meant Row = row_tag
meant Head = head_tag
meant Literal = literal_tag
meant (Comparison k) = comparison_tag (comparison_of k)

-- the number is that of no tag
abbrev pub no_tag : ℕ → Bool
no_tag n = ltb n 1 || ltb (length tags) n

abbrev pub Decodes : ℕ → Result TagR Fault → Type 0
Decodes n r = MatchResult r (λ t. (no_tag n ≡ false) × (meant t ≡ tag_of n)) (λ f. (no_tag n ≡ true) × (f ≡ NoTag))

-- the code's line stands for the meaning's
pub record LineIs (r : Line) (l : LineOf) : Type 0 where
  pub group : r.group ≡ l.group
  pub limit : r.limit ≡ l.limit
  pub smallest : r.smallest ≡ l.smallest
  pub up_to : r.upto ≡ l.up_to
  pub each : r.each ≡ l.each

-- the exact length of a field whose predicate has n places
abbrev pub exact_of : Tag → ℕ → ℕ
exact_of t n = (line_of t).smallest + (line_of t).each * n

-- the places of the field's predicate
abbrev pub places_in : Tag → List ℕ → ℕ → Progress → ℕ
places_in t s at p = places_at t s at p.arities

-- the field names a predicate that is not declared
unfoldable pub undeclared : Tag → List ℕ → ℕ → Progress → Bool
undeclared t s at p = ltb 0 (line_of t).up_to && leb (length p.arities) (predicate_at t s at)

unfoldable pub PlacesAre : Result ℕ Fault → Tag → List ℕ → ℕ → Progress → Type 0
PlacesAre (Ok n) t s at p = (undeclared t s at p ≡ false) × (n ≡ places_in t s at p) × (n ≤ arity_limit)
PlacesAre (Err f) t s at p = (f ≡ Undeclared) × (undeclared t s at p ≡ true)
