use Rattle.std.proofs.Common.{◌≡◌, ◌∙◌, arith}
use Rattle.reader.proofs.Laws.{cut, short, whole}
use Rattle.reader.proofs.field_at.Goals as goal

pub returns-in_err-get : goal.returns-in_err-get
returns-in_err-get c = let h = c.in_err-get.ensures.lookup in c.from_residual.ensures ∙ cut _ _ (omega arith)

pub returns-in_default : goal.returns-in_default
returns-in_default c = let h = c.in_ok-get.ensures.lookup.0 in cut _ _ (omega arith)

pub returns-then-content-length : goal.returns-then-content-length
returns-then-content-length c =
    let h = c.in_ok-get.ensures.lookup.0 in
    short _ _ _ h.2 h.3 c.in-len3-up.len_at_least (omega (arith, c.from_be_bytes.ensures, c.from-length.ensures, c.if-content-length.true))

pub returns : goal.returns
returns c =
    let h = c.in_ok-get.ensures.lookup.0 in
    let l : c.from-length.result ≡ _ = c.from-length.ensures ∙ c.from_be_bytes.ensures in
    rw l (whole _ _ _ h.2 h.3 c.in-len3-up.len_at_least (omega (arith, l, c.if-content-length.false)))
