-- Document 01, "The job's fields" and "Refusals and their order": from the bytes to a refusal or a job.
use Rattle.std.specs.Prelude.{Bool, true, false, not, ◌&&◌, ◌||◌, ℕ, zero, suc, ◌+◌, ◌*◌, ◌-◌, length, get_or, set, ltb, leb, eqb}
use mathlib.Core.List.{List, [], ◌∷◌, ◌++◌, flatten}
use Rattle.std.proofs.Math.Option.{Option, none, some}
use Rattle.meaning.specs.Basics.{tab, any}
use Rattle.meaning.specs.Job.{job_limit, predicate_limit, row_limit, head_limit, item_limit, arity_limit, variable_limit, Term, number, variable, Comparison, less_than, before, negated, comparison, Item, positive, test, Head, Job, vars_of, unbound}

-- "Numbers are big-endian."
abbrev pub byte_at : List ℕ → ℕ → ℕ
byte_at s i = get_or s i 0

abbrev pub be16 : List ℕ → ℕ → ℕ
be16 s i = byte_at s i * 256 + byte_at s (i + 1)

abbrev pub be32 : List ℕ → ℕ → ℕ
be32 s i = be16 s i * 65536 + be16 s (i + 2)

-- "A field is a one-byte tag, a two-byte length and that many bytes.": here and below s is the job's bytes, and `at` the offset of the field's tag
abbrev pub tag_at : List ℕ → ℕ → ℕ
tag_at s at = byte_at s at

abbrev pub length_at : List ℕ → ℕ → ℕ
length_at s at = be16 s (at + 1)

-- the tags, from 1
pub data Tag : Type 0 where
  predicate_tag row_tag head_tag literal_tag : Tag
  comparison_tag : Comparison → Tag

abbrev pub tags : List Tag
tags = predicate_tag ∷ row_tag ∷ head_tag ∷ literal_tag ∷ comparison_tag less_than ∷ comparison_tag before ∷ []

abbrev pub tag_of : ℕ → Tag
tag_of n = get_or tags (n - 1) (comparison_tag before)

-- what the table says of a tag
pub record Line : Type 0 where
  pub group : ℕ
  pub limit : ℕ
  -- the smallest length
  pub smallest : ℕ
  -- the bytes up to the predicate's, with it; 0 where the field names no predicate
  pub up_to : ℕ
  -- the bytes for each place of the predicate
  pub each : ℕ

abbrev line : ℕ → ℕ → ℕ → ℕ → ℕ → Line
line group limit smallest up_to each = record { group = group; limit = limit; smallest = smallest; up_to = up_to; each = each }

abbrev pub line_of : Tag → Line
line_of predicate_tag = line 1 predicate_limit 2 0 0
line_of row_tag = line 2 row_limit 1 1 4
line_of head_tag = line 3 head_limit 1 1 5
line_of literal_tag = line 4 item_limit 2 2 5
line_of (comparison_tag k) = line 4 item_limit 10 0 0

-- the predicate that a field names
abbrev pub predicate_at : Tag → List ℕ → ℕ → ℕ
predicate_at t s at = byte_at s (at + 2 + (line_of t).up_to)

-- the places of that predicate; 0 where the field names none
unfoldable pub places_at : Tag → List ℕ → ℕ → List ℕ → ℕ
places_at t s at arities = elim (ltb 0 (line_of t).up_to) [ true ↦ get_or arities (predicate_at t s at) 0 | false ↦ 0 ]

-- "A term is a kind byte (0 number, 1 variable) and 4 bytes"
unfoldable pub term_at : List ℕ → ℕ → Term
term_at s i = elim (eqb (byte_at s i) 0) [ true ↦ number (be32 s (i + 1)) | false ↦ variable (be32 s (i + 1)) ]

-- the offsets of n terms, and the n terms, from i on
abbrev pub term_places : ℕ → ℕ → List ℕ
term_places i n = tab n (λ (k : ℕ). i + 5 * k)

abbrev pub terms_at : List ℕ → ℕ → ℕ → List Term
terms_at s i n = tab n (λ (k : ℕ). term_at s (i + 5 * k))

-- "kind or variable out of range"
unfoldable pub bad_term : List ℕ → ℕ → Bool
bad_term s i = ltb 1 (byte_at s i) || (eqb (byte_at s i) 1 && leb variable_limit (be32 s (i + 1)))

-- "arity, mark, sign, kind or variable out of range", in a field whose predicate has n places
unfoldable pub out_of_range : Tag → List ℕ → ℕ → ℕ → Bool
out_of_range predicate_tag s at n = ltb arity_limit (byte_at s (at + 3)) || ltb 1 (byte_at s (at + 4))
out_of_range row_tag s at n = false
out_of_range head_tag s at n = any (bad_term s) (term_places (at + 4) n)
out_of_range literal_tag s at n = ltb 1 (byte_at s (at + 3)) || any (bad_term s) (term_places (at + 5) n)
out_of_range (comparison_tag k) s at n = any (bad_term s) (term_places (at + 3) 2)

-- the row, the head and the body item that a field holds, whose predicate has n places
abbrev pub row_in : List ℕ → ℕ → ℕ → List ℕ
row_in s at n = tab n (λ (k : ℕ). be32 s (at + 4 + 4 * k))

abbrev pub head_in : List ℕ → ℕ → ℕ → Head
head_in s at n = record { predicate = byte_at s (at + 3); terms = terms_at s (at + 4) n }

unfoldable pub literal_in : List ℕ → ℕ → ℕ → Item
literal_in s at n =
    elim (eqb (byte_at s (at + 3)) 0) [
      | true ↦ positive (byte_at s (at + 4)) (terms_at s (at + 5) n)
      | false ↦ test (negated (byte_at s (at + 4))) (terms_at s (at + 5) n)
    ]

abbrev pub comparison_in : Comparison → List ℕ → ℕ → Item
comparison_in k s at = test (comparison k) (terms_at s (at + 3) 2)

-- "variable of a negated literal or less-than in no earlier positive literal"; "9 covers tag 6"
unfoldable pub unbound_test : List Item → Item → Bool
unbound_test b (positive p ts) = false
unbound_test b (test k ts) = unbound b (vars_of ts)

unfoldable pub unbound_in : Tag → List ℕ → ℕ → ℕ → List Item → Bool
unbound_in predicate_tag s at n b = false
unbound_in row_tag s at n b = false
unbound_in head_tag s at n b = false
unbound_in literal_tag s at n b = unbound_test b (literal_in s at n)
unbound_in (comparison_tag k) s at n b = unbound_test b (comparison_in k s at)

-- how many fields of a tag's kind a job has
unfoldable pub counted : Tag → Job → ℕ
counted predicate_tag J = length J.arities
counted row_tag J = length (flatten J.rows)
counted head_tag J = length J.rule.heads
counted literal_tag J = length J.rule.body
counted (comparison_tag k) J = length J.rule.body

-- What has been read: the last field's group, the places of the heads, and the job so far.
pub record Read : Type 0 where
  pub group : ℕ
  pub places : List ℕ
  pub job : Job

-- The refusals of a field, "in the order 2, 3, 4, 5, 7 where the length can't hold the bytes up to the predicate's, 6, 7, 8, 9"
unfoldable pub refusals : List ℕ → ℕ → Read → List (ℕ × Bool)
refusals s at st =
    let t = tag_of (tag_at s at) in
    let n = places_at t s at st.job.arities in
    -- "1 or 2 bytes remain where a field should start, or fewer remain than its length says"
    (2, ltb (length s) (at + 3) || ltb (length s) (at + 3 + length_at s at))
    -- "a tag not 1 to 6" (request 1/14)
    ∷ (3, ltb (tag_at s at) 1 || ltb (length tags) (tag_at s at))
    -- "group lower than an earlier field's": that of the last, since "Groups never go down"
    ∷ (4, ltb (line_of t).group st.group)
    -- "one field more than the limit of its kind"
    ∷ (5, leb (line_of t).limit (counted t st.job))
    ∷ (7, ltb (length_at s at) (line_of t).up_to)
    -- "predicate not declared"
    ∷ (6, ltb 0 (line_of t).up_to && leb (length st.job.arities) (predicate_at t s at))
    -- "length not the exact one for the field"
    ∷ (7, not (eqb (length_at s at) ((line_of t).smallest + (line_of t).each * n)))
    ∷ (8, out_of_range t s at n)
    ∷ (9, unbound_in t s at n st.job.rule.body)
    ∷ []

-- "the first fault ends the reading"
unfoldable pub first : List (ℕ × Bool) → Option ℕ
first [] = none
first (f ∷ fs) = elim f.1 [ true ↦ some f.0 | false ↦ first fs ]

-- the job with a field that is not refused
abbrev pub with_item : Job → Item → Job
with_item J x = record { arities = J.arities; rows = J.rows; rule = record { solved = J.rule.solved; heads = J.rule.heads; body = J.rule.body ++ (x ∷ []) } }

unfoldable pub added : Tag → List ℕ → ℕ → ℕ → Job → Job
added predicate_tag s at n J = record {
  arities = J.arities ++ (byte_at s (at + 3) ∷ []);
  rows = J.rows ++ ([] ∷ []);
  rule = record { solved = J.rule.solved ++ (eqb (byte_at s (at + 4)) 1 ∷ []); heads = J.rule.heads; body = J.rule.body };
}
added row_tag s at n J = record {
  arities = J.arities;
  rows = set J.rows (byte_at s (at + 3)) (get_or J.rows (byte_at s (at + 3)) [] ++ (row_in s at n ∷ []));
  rule = J.rule;
}
added head_tag s at n J = record {
  arities = J.arities;
  rows = J.rows;
  rule = record { solved = J.rule.solved; heads = J.rule.heads ++ (head_in s at n ∷ []); body = J.rule.body };
}
added literal_tag s at n J = with_item J (literal_in s at n)
added (comparison_tag k) s at n J = with_item J (comparison_in k s at)

unfoldable pub placed : Tag → ℕ → List ℕ → List ℕ
placed predicate_tag at ps = ps
placed row_tag at ps = ps
placed head_tag at ps = ps ++ (at ∷ [])
placed literal_tag at ps = ps
placed (comparison_tag k) at ps = ps

unfoldable pub after : List ℕ → ℕ → Read → Read
after s at st =
    let t = tag_of (tag_at s at) in
    record { group = (line_of t).group; places = placed t at st.places; job = added t s at (places_at t s at st.job.arities) st.job }

abbrev pub nothing : Read
nothing = record { group = 0; places = []; job = record { arities = []; rows = []; rule = record { solved = []; heads = []; body = [] } } }

-- a refusal's "number and place", or the job
pub data Reading : Type 0 where
  refused : ℕ → ℕ → Reading
  accepted : Job → Reading

-- "head variable in no positive body literal; place of the first such head"
unfoldable pub unbound_head : List Item → List Head → List ℕ → Option ℕ
unbound_head b [] ps = none
unbound_head b (h ∷ hs) [] = none
unbound_head b (h ∷ hs) (p ∷ ps) = elim (unbound b (vars_of h.terms)) [ true ↦ some p | false ↦ unbound_head b hs ps ]

-- "10 and 11 come after the last field.": 11 is "neither head nor body; place is the job's length"
unfoldable pub finish : List ℕ → Read → Reading
finish s st =
    elim (unbound_head st.job.rule.body st.job.rule.heads st.places) [
      | some place ↦ refused 10 place
      | none ↦ elim (eqb (length st.job.rule.heads + length st.job.rule.body) 0) [ true ↦ refused 11 (length s) | false ↦ accepted st.job ]
    ]

-- "Reading goes field by field over the job's bytes.": at most so many fields from `at` on. A field takes three bytes or more, so that as many
-- as the job has bytes reach its end.
unfoldable pub read_from : ℕ → List ℕ → ℕ → Read → Reading
read_from zero s at st = finish s st
read_from (suc k) s at st =
    elim (ltb at (length s)) [
      | true ↦ elim (first (refusals s at st)) [
        | some fault ↦ refused fault at
        | none ↦ read_from k s (at + 3 + length_at s at) (after s at st)
      ]
      | false ↦ finish s st
    ]

-- "Number 1 comes first.": "job longer than 32,768 bytes; place 0"
unfoldable pub reading : List ℕ → Reading
reading s = elim (ltb job_limit (length s)) [ true ↦ refused 1 0 | false ↦ read_from (length s) s 0 nothing ]
