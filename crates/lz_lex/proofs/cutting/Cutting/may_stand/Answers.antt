use Rattle.std.proofs.Common.{not, sym, ap, ◌∙◌}
use Rattle.std.specs.Prelude.{option_map}
use Rattle.lz_lex.specs.Views.{cutting, piece, body}
use Rattle.lz_lex.proofs.NamesLemmas.{is_defined-lookup, stand-define}
use Rattle.lz_lex.proofs.cutting.Cutting.may_stand.Goals as goal

pub returns-then-self : goal.returns-then-self
returns-then-self c =
    ap not (c.contains_key.ensures ∙ is_defined-lookup c.in-Define.name.now c.args.self.now.defined.entries)
    ∙ sym (stand-define (cutting c.args.self.now) (piece c.args.piece) c.in-Define.name.now (option_map body c.in-Define.body) (ap piece c.in-Define.is) c.if-self.true)
