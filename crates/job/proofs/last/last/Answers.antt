use Rattle.std.proofs.Common.{◌∙◌, length, ap, arith, refl, sym}
use borrow.Author.Tests.{eqb-true, eqb-false}
use Rattle.job.proofs.Ends.{last_unsafe, last_more, last_empty, last_fine}
use Rattle.job.proofs.last.last.Goals as goal
use Rattle.job.proofs.last.last.Goals.{else-is_empty-via-then-is_empty+else-is_empty-2, else-is_empty-via-else-is_empty}

pub loop-i-init : goal.loop-i-init
loop-i-init c = refl

pub returns-then-free_terms : goal.returns-then-free_terms
returns-then-free_terms c =
    rw c.as_slice-places.ensures.values
    (last_unsafe _ _ c.requires _ _ (omega (arith, ap length c.as_slice-heads.ensures.values)) (rw c.as_slice-heads.ensures.values at c.index-heads-i.is)
    c.loop-i.invariant (sym c.free_terms.ensures ∙ c.if-free_terms.true))

pub loop-i-preserved : goal.loop-i-preserved
loop-i-preserved c =
    last_more c.args.bytes.now _ c.requires _ _ (omega (arith, ap length c.as_slice-heads.ensures.values)) (rw c.as_slice-heads.ensures.values at c.index-heads-i.is)
    c.loop-i.invariant (sym c.free_terms.ensures ∙ c.if-free_terms.false)

pub returns-then-is_empty-2 : goal.returns-then-is_empty-2
returns-then-is_empty-2 c =
    last_empty _ _ c.requires c.loop-i.i (omega (arith, ap length c.as_slice-heads.ensures.values)) c.loop-i.invariant
    (omega (arith, ap length c.as_slice-heads.ensures.values, ap length c.as_slice.ensures.values, eqb-true _ _ (sym c.if-is_empty.ensures), eqb-true _ _ (sym c.if-is_empty-2.ensures)))

pub returns : goal.returns
returns c =
    last_fine _ _ c.requires c.loop-i.i (omega (arith, ap length c.as_slice-heads.ensures.values)) c.loop-i.invariant
    (elim c.else-is_empty.branch [
      | else-is_empty-via-then-is_empty+else-is_empty-2 w ↦ λ e. eqb-false _ _ (sym w.if-is_empty-2.ensures) (omega (arith, ap length w.as_slice.ensures.values))
      | else-is_empty-via-else-is_empty w ↦ λ e. eqb-false _ _ (sym w.if-is_empty.ensures) (omega (arith, ap length c.as_slice-heads.ensures.values))
    ])
