use Rattle.lz_lex.specs.Views.{cutting, piece}
use Rattle.lz_lex.proofs.NamesLemmas.{behind-pieced}
use Rattle.lz_lex.proofs.cutting.Cutting.take.Goals as goal

pub returns : goal.returns
returns c =
    rw (c.newlines.ensures.count, c.fresh_behind-fresh.ensures)
    (behind-pieced (cutting c.args.self.now) (piece c.args.piece) c.args.bytes.now (cutting c.push_piece.new.self) c.in_ok-push_piece.ensures)
