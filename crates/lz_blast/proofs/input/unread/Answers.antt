use Rattle.std.proofs.Common.{◌∙◌, ap, List, [], ◌∷◌, ◌++◌, replicate}
use Rattle.lz_cnf.specs.declared.clause.Lit.{Lit}
use Rattle.lz_blast.proofs.WordsMadeLemmas.{replicate_push}
use Rattle.lz_blast.proofs.input.unread.Goals as goal

pub loop-i-preserved : goal.loop-i-preserved
loop-i-preserved c =
    c.in_ok-push.ensures.items ∙ ap (λ (xs : List (List Lit)). xs ++ c.new.result ∷ []) c.loop-i.invariant
    ∙ ap (λ (x : List Lit). replicate c.loop-i._i (let none : List Lit = [] in none) ++ x ∷ []) c.new.ensures ∙ replicate_push c.loop-i._i
