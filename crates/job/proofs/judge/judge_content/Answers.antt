use Rattle.std.proofs.Common.{◌∙◌, sym}
use Rattle.job.proofs.Judging.{content_length, content_range, content_unbound, content_fine}
use Rattle.job.proofs.judge.judge_content.Goals as goal

pub returns-then-length-exact : goal.returns-then-length-exact
returns-then-length-exact c = content_length _ _ _ _ _ c.requires.0 _ c.requires.3 (λ e. c.if-length-exact.true (e ∙ sym c.exact.ensures))

pub returns-then-range : goal.returns-then-range
returns-then-range c = content_range _ _ _ _ _ c.requires.0 _ c.requires.3 (c.if-length-exact.false ∙ c.exact.ensures) (sym c.out_of_range-range.ensures ∙ c.if-range.true)

pub returns-then-unbound : goal.returns-then-unbound
returns-then-unbound c = content_unbound _ _ _ _ _ c.requires.0 _ c.requires.3 (c.if-length-exact.false ∙ c.exact.ensures) (cc)
    (sym (c.unbound_in-unbound.ensures _ c.requires.1.bound) ∙ c.if-unbound.true)

pub returns : goal.returns
returns c = content_fine _ _ _ _ _ c.requires.0 _ c.requires.3 (c.if-length-exact.false ∙ c.exact.ensures) (sym c.out_of_range-range.ensures ∙ c.if-range.false)
    (sym (c.unbound_in-unbound.ensures _ c.requires.1.bound) ∙ c.if-unbound.false)
