use Rattle.std.proofs.Common.{refl, ◌∙◌}
use Rattle.std.specs.Prelude.{option_map}
use Rattle.indexmap.proofs.CallerLemmas.{insert_entry-new}
use Rattle.lz_lex.specs.Views.{cutting, body}
use Rattle.lz_lex.proofs.NamesLemmas.{not_defined, define-step, is_word}
use Rattle.lz_lex.proofs.cutting.Cutting.define.Goals as goal

pub returns : goal.returns
returns c =
    let none = not_defined (cutting c.args.self.now) c.args.name.now (option_map body c.args.b) c.args.self.now.defined.entries refl c.requires in
    define-step (cutting c.args.self.now) c.args.name c.args.b c.args.self.now.defined.entries c.insert.new.self.entries refl
    (c.in_ok-insert.ensures.entries ∙ insert_entry-new is_word c.args.self.now.defined c.args.name c.args.b none)
