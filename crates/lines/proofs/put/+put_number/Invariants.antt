use Rattle.lines.proofs.put.+put_number.Given as goal

-- the number falls
abbrev pub decreases-put_number : goal.decreases-put_number
decreases-put_number l = l.number
