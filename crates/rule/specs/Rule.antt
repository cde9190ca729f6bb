-- How the code's records stand for a rule of the meaning.
use Rattle.std.specs.Prelude.{ℕ, List, [], map, slice_index_or}
use Rattle.meaning.specs.Job.{Term, number, variable, Comparison, less_than, before, Test, negated, comparison, Item, positive, test, Head, Rule}
use Rattle.rule.specs.declared.Term.{Term as TermR}
use Rattle.rule.specs.declared.Term.TheVariants.{Number, Variable}
use Rattle.rule.specs.declared.Comparison.{Comparison as ComparisonR}
use Rattle.rule.specs.declared.Comparison.TheVariants.{LessThan, Before}
use Rattle.rule.specs.declared.Test.{Test as TestR}
use Rattle.rule.specs.declared.Test.TheVariants.{Negated, Comparison as Compared}
use Rattle.rule.specs.declared.Kind.TheVariants.{Positive, Test as Tested}
use Rattle.rule.specs.declared.Item.{Item as ItemR}
use Rattle.rule.specs.declared.Rule.{Rule as RuleR}

abbrev pub no_term : TermR
no_term = Number 0

abbrev pub no_item : ItemR
no_item = record { kind = Positive; predicate = 0; terms = [] }

unfoldable pub term_of : TermR → Term
term_of (Number n) = number n
term_of (Variable v) = variable v

abbrev pub term_at : ItemR → ℕ → Term
term_at x j = term_of (slice_index_or x.terms j no_term)

unfoldable pub terms_of : ItemR → List Term
terms_of x = map term_of x.terms

abbrev pub comparison_of : ComparisonR → Comparison
comparison_of LessThan = less_than
comparison_of Before = before

-- of a literal over this predicate, where it is one
unfoldable pub test_of : ℕ → TestR → Test
test_of predicate Negated = negated predicate
test_of predicate (Compared k) = comparison (comparison_of k)

unfoldable pub item_of : ItemR → Item
item_of x = elim x.kind [ Positive ↦ positive x.predicate (terms_of x) | Tested t ↦ test (test_of x.predicate t) (terms_of x) ]

abbrev pub item_at : RuleR → ℕ → Item
item_at r i = item_of (slice_index_or r.items i no_item)

unfoldable pub body_of : RuleR → List Item
body_of r = map item_of r.items

abbrev pub head_of : ItemR → Head
head_of x = record { predicate = x.predicate; terms = terms_of x }

unfoldable pub heads_of : RuleR → List Head
heads_of r = map head_of r.heads

abbrev pub rule_of : RuleR → Rule
rule_of r = record { solved = r.solved; heads = heads_of r; body = body_of r }
