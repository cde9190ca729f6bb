-- The loop's invariant: none of the terms passed is bad.
use Rattle.std.proofs.Common.{◌≡◌, false}
use Rattle.meaning.specs.Basics.{any}
use Rattle.meaning.specs.Reading.{bad_term, term_places}
use Rattle.job.proofs.terms.bad_terms.Given as goal

abbrev pub invariant-loop-k : goal.invariant-loop-k
invariant-loop-k l = any (bad_term l.bytes) (term_places l.i l.k) ≡ false
