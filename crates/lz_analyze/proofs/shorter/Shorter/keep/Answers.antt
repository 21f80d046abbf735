use Rattle.std.proofs.Common.{ℕ, ◌∷◌, [], ◌++◌, List, sym, subst}
use Rattle.lz_cnf.specs.declared.clause.Lit.{Lit}
use Rattle.lz_cnf.specs.Models.{variable_of}
use Rattle.lz_analyze.specs.Chains.{IsPart}
use Rattle.lz_analyze.proofs.WalkingLemmas.{IsInserted, was_none, keys_more}
use Rattle.lz_analyze.proofs.ShorterLemmas.{part_more}
use Rattle.lz_analyze.proofs.shorter.Shorter.keep.Goals as goal

pub returns-in_ok-push-clause-part : goal.returns-in_ok-push-clause-part
returns-in_ok-push-clause-part c low point has part =
    let old = c.args.self.now in
    let keys = c.insert.new.self.keys in
    let is : IsInserted old.known.keys keys (variable_of c.args.lit) c.in_ok-insert.field-0 = record { keys = c.in_ok-insert.ensures.keys; told = c.in_ok-insert.ensures.added } in
    subst (λ (kept : List Lit). IsPart low point kept keys) (sym c.in_ok-push.ensures.items)
    (subst (λ (known : List ℕ). IsPart low point (old.kept.items ++ c.args.lit ∷ []) known) (sym (keys_more old.known.keys keys (variable_of c.args.lit) c.in_ok-insert.field-0 is c.if-branch.true))
    (part_more low point old.kept.items old.known.keys c.args.lit part has (was_none old.known.keys keys (variable_of c.args.lit) c.in_ok-insert.field-0 is c.if-branch.true)))
