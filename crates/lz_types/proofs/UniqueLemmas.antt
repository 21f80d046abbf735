-- There is one list of the rules that a program breaks.
use Rattle.std.proofs.Common.{◌≡◌, List, sym, ap, ◌∙◌}
use Rattle.lz_tree.specs.Trees.{TranslationUnit}
use Rattle.lz_scopes.specs.declared.fault.Fault.{Fault}
use Rattle.lz_scopes.specs.Files.{Facts, file_with}
use Rattle.lz_resolve.specs.ScopedPrograms.{scoped_of}
use Rattle.lz_calls.proofs.UniqueLemmas.{one_facts}
use Rattle.lz_types.specs.Checking.{AreFaults}
use Rattle.lz_types.specs.Faults.{file_faults}

pub one_list : (unit : TranslationUnit) (a b : List Fault) → AreFaults unit a → AreFaults unit b → a ≡ b
one_list unit a b p q =
    let same : p.facts ≡ q.facts = one_facts (scoped_of unit).functions p.facts q.facts p.right q.right in
    p.listed ∙ ap (λ (f : Facts). file_faults (file_with unit f) unit.externals) same ∙ sym q.listed
