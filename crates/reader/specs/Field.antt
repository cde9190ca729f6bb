-- What stands where a field should start: none where "1 or 2 bytes remain where a field should start, or fewer remain than its length says".
use Rattle.std.specs.Prelude.{ℕ, ◌+◌, List, Option, None, Some, cond, ◌||◌, length, ltb}
use Rattle.meaning.specs.Reading.{tag_at, length_at}
use Rattle.reader.specs.declared.Field.{Field}

unfoldable pub field_at : List ℕ → ℕ → Option Field
field_at s at = cond (ltb (length s) (at + 3) || ltb (length s) (at + 3 + length_at s at)) None (Some (record { tag = tag_at s at; length = length_at s at }))
