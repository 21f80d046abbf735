use Rattle.std.proofs.Common.{ℕ, ap, ◌∙◌, sym, add-one, List, ◌++◌, ◌∷◌, []}
use Rattle.lz_cnf.specs.declared.clause.Lit.{Lit}
use Rattle.lz_arith.specs.Bits.{copies}
use Rattle.lz_arith.proofs.ShiftingLemmas.{copies_push}
use Rattle.lz_arith.proofs.lists.repeated.Goals as goal

pub loop-i-preserved : goal.loop-i-preserved
loop-i-preserved c =
    c.in_ok-push.ensures.ok ∙ ap (λ (xs : List Lit). xs ++ c.args.lit ∷ []) c.loop-i.invariant ∙ copies_push c.loop-i._i c.args.lit
    ∙ ap (λ (n : ℕ). copies n c.args.lit) (sym (add-one c.loop-i._i))
