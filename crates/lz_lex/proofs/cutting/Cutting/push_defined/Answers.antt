use Rattle.std.proofs.Common.{sym, ap, ◌∙◌}
use Rattle.std.specs.Prelude.{option_map}
use Rattle.lz_tree.specs.Tokens.{body_kinds}
use Rattle.lz_lex.specs.Views.{cutting, body}
use Rattle.lz_lex.specs.Steps.{added}
use Rattle.lz_lex.proofs.NamesLemmas.{added-none}
use Rattle.lz_lex.proofs.cutting.Cutting.push_defined.Goals as goal

pub returns-in-None : goal.returns-in-None
returns-in-None c =
    let at = cutting c.args.self.now in
    sym (ap (λ b. added at (body_kinds (option_map body b))) c.in-None.is ∙ added-none at)
