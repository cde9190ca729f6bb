use Rattle.lines.proofs.Puts.{written_as, written_then}
use Rattle.lines.proofs.Texts.{decimal_one, decimal_more}
use Rattle.lines.proofs.put.+put_number.Goals as goal

pub returns-then-number-lt10 : goal.returns-then-number-lt10
returns-then-number-lt10 t c = written_as (rw c.digit.ensures (decimal_one _ c.if-number-lt10.true)) c.put_byte.ensures

pub returns : goal.returns
returns t c = written_as (rw c.digit-2.ensures (decimal_more _ c.if-number-lt10.false)) (written_then c.put_number-at.ensures c.put_byte-2.ensures)
