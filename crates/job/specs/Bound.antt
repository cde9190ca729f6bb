-- The array of bound variables: what it says of the body, of some terms, and after some terms.
use Rattle.std.specs.Prelude.{ℕ, ◌≡◌, Bool, true, false, not, List, [], ◌∷◌, get_or, set}
use Rattle.meaning.specs.Basics.{any}
use Rattle.meaning.specs.Job.{Item as ItemOf, holds}
use Rattle.rule.specs.declared.Term.{Term}
use Rattle.rule.specs.declared.Term.TheVariants.{Number, Variable}
use Rattle.rule.specs.declared.Kind.TheVariants.{Positive, Test}
use Rattle.rule.specs.declared.Item.{Item}

abbrev pub is_bound : List Bool → ℕ → Bool
is_bound bound v = get_or bound v false

-- the bound variables are those that the positive literals of b hold
abbrev pub Bound : List Bool → List ItemOf → Type 0
Bound bound b = (v : ℕ) → is_bound bound v ≡ any (holds v) b

-- a variable that is not bound
abbrev pub free_term : List Bool → Term → Bool
free_term bound (Number n) = false
free_term bound (Variable v) = not (is_bound bound v)

-- one of the terms is one
abbrev pub free : List Bool → List Term → Bool
free bound ts = any (free_term bound) ts

-- with the variables of some terms bound too
abbrev pub mark_one : List Bool → Term → List Bool
mark_one bound (Number n) = bound
mark_one bound (Variable v) = set bound v true

unfoldable pub marked : List Bool → List Term → List Bool
marked bound [] = bound
marked bound (t ∷ ts) = marked (mark_one bound t) ts

-- with the variables of an item bound too, if it is a positive literal
abbrev pub marked_by : Item → List Bool → List Bool
marked_by x bound = elim x.kind [ Positive ↦ marked bound x.terms | Test t ↦ bound ]
