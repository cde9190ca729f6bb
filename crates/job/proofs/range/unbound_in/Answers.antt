use Rattle.std.proofs.Common.{◌∙◌, ap, inl, inr}
use Rattle.meaning.specs.Reading.{unbound_in}
use Rattle.job.specs.Bound.{free}
use Rattle.job.proofs.Bounds.{comparison_unbound}
use Rattle.job.proofs.range.unbound_in.Goals as goal

pub returns-in-Predicate : goal.returns-in-Predicate
unfolding unbound_in
returns-in-Predicate c = λ b h. elim c.in-Predicate.is [ inl e ↦ rw e | inr (inl e) ↦ rw e | inr (inr e) ↦ rw e ]

pub returns-in-Comparison : goal.returns-in-Comparison
returns-in-Comparison c = λ b h.
    rw c.in-Comparison.is (c.free_terms.ensures ∙ ap (λ x. free c.args.bound.now x.terms) c.comparison_in.ensures ∙ comparison_unbound _ _ _ _ b h _)
