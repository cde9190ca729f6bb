use Rattle.std.proofs.Common.{◌∙◌, ap, sym}
use Rattle.job.specs.Bound.{free}
use Rattle.job.proofs.Bounds.{literal_bound, literal_unbound}
use Rattle.job.proofs.range.unbound_literal.Goals as goal

pub returns-then-byte-ne0 : goal.returns-then-byte-ne0
returns-then-byte-ne0 c = λ b h.
    c.free_terms.ensures ∙ ap (λ x. free c.args.bound.now x.terms) c.literal_in.ensures
    ∙ literal_unbound _ _ _ _ b h (λ z. c.if-byte-ne0.true (c.byte.ensures.0 ∙ z))

pub returns-else-byte-ne0 : goal.returns-else-byte-ne0
returns-else-byte-ne0 c = λ b h. rw c.if-byte-ne0.false (literal_bound _ _ _ _ b h (sym c.byte.ensures.0 ∙ c.if-byte-ne0.false))
