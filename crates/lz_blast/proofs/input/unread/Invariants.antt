use Rattle.std.proofs.Common.{◌≡◌, List, [], replicate}
use Rattle.lz_cnf.specs.declared.clause.Lit.{Lit}
use Rattle.lz_blast.proofs.input.unread.Given as goal

abbrev pub invariant-loop-i : goal.invariant-loop-i
invariant-loop-i l = l.inputs.items ≡ replicate l._i (let none : List Lit = [] in none)
