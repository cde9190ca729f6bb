use Rattle.std.proofs.Common.{◌≡◌, ◌∙◌, None, Some, arith, sym}
use Rattle.std.proofs.lemmas.Result.{err_from_is_err_and}
use Rattle.reader.specs.Field.{field_at}
use Rattle.job.specs.declared.fault.Fault.TheVariants.{Cut}
use Rattle.job.proofs.Judging.{judge_cut, judge_no_tag, field_here, judge_field}
use Rattle.job.proofs.judge.judge.Goals as goal

pub returns-in_err-field : goal.returns-in_err-field
returns-in_err-field c =
    let p = err_from_is_err_and c.from_residual.result c.from_residual.ensures.1 in
    let n : c.next.result ≡ None = grind arith in
    let f : c.in_err-field.field-0.0 ≡ Cut = grind arith in
    let h : c.next.result ≡ field_at c.args.start.bytes.now c.args.start.at = rw (c.of.ensures.0, c.of.ensures.1) at c.next.ensures in
    rw (p.1, p.2, f) (judge_cut _ _ _ (sym n ∙ h))

pub returns-in_err-tag : goal.returns-in_err-tag
returns-in_err-tag c =
    let p = err_from_is_err_and c.from_residual-in_err-tag.result c.from_residual-in_err-tag.ensures.1 in
    let n : c.next.result ≡ Some c.in_ok-field.field = grind arith in
    let h : c.next.result ≡ field_at c.args.start.bytes.now c.args.start.at = rw (c.of.ensures.0, c.of.ensures.1) at c.next.ensures in
    rw (p.1, p.2, c.in_err-tag.ensures.1) (judge_no_tag _ _ _ _ (sym n ∙ h) c.in_err-tag.ensures.0)

pub judge_tag-requires : goal.judge_tag-requires
judge_tag-requires c =
    let n : c.next.result ≡ Some c.in_ok-field.field = grind arith in
    let h : c.next.result ≡ field_at c.args.start.bytes.now c.args.start.at = rw (c.of.ensures.0, c.of.ensures.1) at c.next.ensures in
    (field_here _ _ c.args.p.now _ (sym n ∙ h) c.in_ok-tag.ensures.0 _ c.in_ok-tag.ensures.1, c.requires)

pub returns-in_err-judge_tag : goal.returns-in_err-judge_tag
returns-in_err-judge_tag c =
    let p = err_from_is_err_and c.from_residual-in_err-judge_tag.result c.from_residual-in_err-judge_tag.ensures.1 in
    let n : c.next.result ≡ Some c.in_ok-field.field = grind arith in
    let h : c.next.result ≡ field_at c.args.start.bytes.now c.args.start.at = rw (c.of.ensures.0, c.of.ensures.1) at c.next.ensures in
    rw (p.1, p.2) (judge_field _ _ _ _ (sym n ∙ h) c.in_ok-tag.ensures.0 _ c.in_err-judge_tag.ensures)

pub returns : goal.returns
returns c =
    let n : c.next.result ≡ Some c.in_ok-field.field = grind arith in
    let h : c.next.result ≡ field_at c.args.start.bytes.now c.args.start.at = rw (c.of.ensures.0, c.of.ensures.1) at c.next.ensures in
    ((field_here _ _ c.args.p.now _ (sym n ∙ h) c.in_ok-tag.ensures.0 _ c.in_ok-tag.ensures.1).tag_is, judge_field _ _ _ _ (sym n ∙ h) c.in_ok-tag.ensures.0 _ c.in_ok-judge_tag.ensures)
