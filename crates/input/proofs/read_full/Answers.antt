use Rattle.std.proofs.Common.{◌≡◌, ℕ, ◌+◌, ◌-◌, ◌≤◌, List, ◌++◌, rules, length, take, sym, ap, ◌∙◌, subst, length-take-le}
use Rattle.std.proofs.lemmas.List.{take-append-le}
use Rattle.std.proofs.Math.Seq.{take-append-add}
use Rattle.std.specs.Io.KnownBytes.{Consumes}
use Rattle.std.proofs.KnownBytes.{Consumes-trans}
use borrow.Rule.Slice.PartMut.{put_mid, post_of}
use Rattle.input.proofs.read_full.Goals as goal

-- after a read the buffer is what it was up to `filled`, and then what was read
take_put : (a k n : ℕ) (old new : List ℕ) → a ≤ length old → n ≤ length new → take (a + n) (put_mid a k old new) ≡ take a old ++ take n new
take_put a k n old new within fits =
    ap (λ (m : ℕ). take (m + n) (put_mid a k old new)) (sym (length-take-le a old within))
    ∙ take-append-add (take a old) (new ++ post_of a k old) n
    ∙ ap (λ (l : List ℕ). take a old ++ l) (take-append-le n new (post_of a k old) fits)

pub loop-filled-preserved : goal.loop-filled-preserved
loop-filled-preserved g c =
    let l = c.loop-filled in
    let read = c.in_ok-n.ensures in
    let joined = take_put l.filled (length l.buffer - l.filled) c.in_ok-n.n l.buffer c.read.new.buf l.invariant.0 read.bound.0 in
    (search rules, subst (Consumes _ _) (sym joined) (Consumes-trans _ _ _ _ _ l.invariant.1 read.bytes.0))
