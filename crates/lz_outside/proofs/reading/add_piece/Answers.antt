use Rattle.std.proofs.Common.{arith, ap, length}
use Rattle.std.proofs.lemmas.Bool.Decides.{nat_tests}
use Rattle.lz_outside.proofs.ReadingLemmas.{BeginsWith-more, Holds-at_end}
use Rattle.lz_outside.proofs.reading.add_piece.Goals as goal

pub returns-clause-begins : goal.returns-clause-begins
returns-clause-begins g c =
    BeginsWith-more _ _ _ _ _ _ _ _ (ap length c.items.ensures) c.in_ok-append.ensures.ok c.requires.begins c.in-Ok.ensures.piece

pub returns-clause-end : goal.returns-clause-end
returns-clause-end g c = λ z.
    Holds-at_end _ _ _ _ _ _ _ _ (ap length c.items.ensures) c.in_ok-append.ensures.ok (grind (arith, nat_tests, z)) c.requires.room
    c.requires.begins c.in-Ok.ensures.piece
