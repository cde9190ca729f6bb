use Rattle.std.proofs.Common.{◌≡◌, ◌<◌, ◌∙◌, ℕ, length, take, sym, ap, arith, length-set, length-take-le}
use Rattle.rule.proofs.Blanks.{one_fewer}
use Rattle.rule.proofs.at_most.AtMost.push.Goals as goal

pub invariant_of-self : goal.invariant_of-self
invariant_of-self g c =
    let many : length (take c.self.inside.many c.self.inside.values) ≡ c.self.inside.many = length-take-le c.self.inside.many c.self.inside.values (omega (arith, c.self.invariant)) in
    let now = ap length (sym c.self.view_is) ∙ many in
    (omega (arith, c.requires, now), length-set c.self.inside.values c.self.inside.many c.args.value ∙ c.self.invariant.1, one_fewer c.self.inside.values c.self.inside.many g.row.N c.args.value g.T.Blank.blank c.self.invariant.2)
