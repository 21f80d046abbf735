use Rattle.std.proofs.Common.{◌≡◌, ap, eq-eqb}
use Rattle.lz_cnf.specs.declared.clause.Lit.{Lit}
use Rattle.lz_log.proofs.StandingLemmas.{first_left, second_left, two_stay}
use Rattle.lz_log.proofs.marks.Standing.with_open.Goals as goal

pub returns-in-AllFalse : goal.returns-in-AllFalse
returns-in-AllFalse c false_ clause stands left = first_left false_ clause c.args.lit (rw c.in-AllFalse.is at stands) left

pub returns-else-eq : goal.returns-else-eq
returns-else-eq c false_ clause stands left =
    let differ : c.in-OneLeft.other ≡ c.args.lit → ⊥ = λ same. let test = eq-eqb c.in-OneLeft.other.0 c.args.lit.0 (ap (λ (l : Lit). l.0) same) in absurd cc in
    second_left false_ clause c.in-OneLeft.other c.args.lit (rw c.in-OneLeft.is at stands) differ left

pub returns-in-TwoLeft : goal.returns-in-TwoLeft
returns-in-TwoLeft c false_ clause stands left = two_stay false_ clause c.args.lit (rw c.in-TwoLeft.is at stands)
