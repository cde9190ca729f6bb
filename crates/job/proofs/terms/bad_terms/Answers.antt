use Rattle.std.proofs.Common.{◌∙◌, arith, sym}
use Rattle.meaning.proofs.Tab.{any_none, any_more, any_hit}
use Rattle.job.proofs.terms.bad_terms.Goals as goal

pub loop-k-init : goal.loop-k-init
loop-k-init c = any_none _ _

pub returns-then-bad_term : goal.returns-then-bad_term
returns-then-bad_term c = sym (any_hit _ _ _ c.loop-k.k (omega arith) (sym c.bad_term.ensures ∙ c.if-bad_term.true))

pub loop-k-preserved : goal.loop-k-preserved
loop-k-preserved c = any_more _ _ _ c.loop-k.invariant (sym c.bad_term.ensures ∙ c.if-bad_term.false)
