use Rattle.std.proofs.Common.{◌≡◌, ap, ◌∙◌, rules, ℕ}
use Rattle.std.specs.List.{fold}
use Rattle.std.specs.Prelude.{reverse}
use Rattle.std.proofs.lemmas.Iterator.Consumers.{fold_from_yields_List}
use Rattle.std.proofs.lemmas.Iterator.Adapters.{YieldsList-from_rev_slice}
use Rattle.cases.specs.Cells.{weight}
use Rattle.cases.proofs.Weights.{step, weighed}
use Rattle.cases.proofs.cells.weigh.Goals as goal

pub returns : goal.returns
unfolding weight
returns c =
    let folded : c.fold-sum.result ≡ fold step (0, 0) (reverse c.args.list.now) = fold_from_yields_List _ step _ _ c.fold-sum.ensures.ran (YieldsList-from_rev_slice c.args.list.now (search rules)) (λ a x b q k. search rules) in
    ap (λ (s : ℕ × ℕ). s.1) (folded ∙ weighed c.args.list.now)
