use Rattle.std.proofs.Common.{◌≡◌, ◌∙◌, ◌∷◌, ◌++◌, [], length, ap, arith, add-one, lit<}
use Rattle.meaning.specs.Basics.{tab}
use Rattle.meaning.proofs.Tab.{length_tab, fill_none}
use Rattle.job.proofs.terms.terms_at.Goals as goal

pub loop-k-init : goal.loop-k-init
loop-k-init c = c.default-terms.ensures ∙ fill_none _

pub push-requires : goal.push-requires
push-requires c = let e : length c.loop-k.terms ≡ c.loop-k.k = ap length c.loop-k.invariant ∙ length_tab _ _ in (lit< tt, omega arith)

pub loop-k-preserved : goal.loop-k-preserved
unfolding tab
loop-k-preserved c = rw add-one (c.push.ensures ∙ (λ i. c.loop-k.invariant i ++ (c.term_at.ensures i ∷ [])))
