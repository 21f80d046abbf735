use Rattle.std.proofs.Common.{refl, sym, ◌∙◌}
use Rattle.lz_lex.specs.Views.{cutting}
use Rattle.lz_lex.proofs.NamesLemmas.{worded-defined, worded-named, on_ok}
use Rattle.lz_lex.proofs.cutting.Cutting.push_other.Goals as goal

pub returns-in-Some : goal.returns-in-Some
returns-in-Some c =
    let there = sym (c.copied.ensures ∙ c.get.ensures.value) ∙ c.in-Some.is in
    on_ok c.push_defined.result _ c.push_defined.ensures
    (sym (worded-defined (cutting c.args.self.now) c.args.letters.now c.args.self.now.defined.entries c.in-Some.body c.requires.plain refl there))

pub returns-in-None : goal.returns-in-None
returns-in-None c =
    let none = sym (c.copied.ensures ∙ c.get.ensures.value) ∙ c.in-None.is in
    on_ok c.push_name.result _ c.push_name.ensures (sym (worded-named (cutting c.args.self.now) c.args.letters.now c.args.self.now.defined.entries c.requires.plain refl none))
