use Rattle.std.proofs.Common.{◌≡◌, subst, refl}
use Rattle.std.specs.Prelude.{OnOk}
use Rattle.lz_tree.specs.Tokens.{Cutting}
use Rattle.lz_lex.specs.Views.{cutting}
use Rattle.lz_lex.proofs.NamesLemmas.{named-step}
use Rattle.lz_lex.proofs.cutting.Cutting.push_name.Goals as goal

pub returns : goal.returns
returns c =
    let named = named-step (cutting c.args.self.now) c.args.name c.args.self.now.names.keys c.insert_full.new.self.keys c.in_ok-index.index refl c.in_ok-index.ensures.keys c.in_ok-index.ensures.index in
    subst (λ (z : Cutting). OnOk c.push.result (cutting c.push.new.self ≡ z)) named c.push.ensures
