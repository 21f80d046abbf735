use Rattle.std.proofs.Common.{◌∙◌, ap, List, ◌++◌, ◌∷◌, []}
use Rattle.lz_cnf.specs.declared.clause.Lit.{Lit}
use Rattle.lz_arith.specs.Bits.{negations}
use Rattle.lz_arith.proofs.lists.complement.Goals as goal

pub returns : goal.returns
returns c =
    c.in_ok-minus.ensures ∙ ap negations (c.items.ensures ∙ c.in_ok-push.ensures.ok
    ∙ ap (λ (xs : List Lit). xs ++ c.args.last ∷ []) (c.in_ok-append.ensures.ok ∙ ap (λ (xs : List Lit). xs ++ c.args.bits.now) c.new-wide.ensures))
