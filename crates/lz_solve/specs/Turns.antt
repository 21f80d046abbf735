-- Inner: what one turn of the search does.
use Rattle.std.specs.Prelude.{◌≡◌, ◌⊎◌, ℕ, suc, ◌<◌, List, length}
use Rattle.lz_cnf.specs.declared.clause.Cnf.{Cnf}
use Rattle.lz_cnf.specs.Models.{IsModel}
use Rattle.lz_log.specs.declared.log.LogStep.{LogStep}
use Rattle.lz_prop.specs.Trail.{TrailState}
use Rattle.lz_solve.specs.Solving.{IsRefuted, IsSpent}
use Rattle.lz_solve.specs.Search.{IsSearch}
use Rattle.lz_solve.specs.declared.search.Turn.{Turn}
use Rattle.lz_solve.specs.declared.search.Turn.TheVariants.{Next, Found, Refuted, Over}

-- the search goes on: one literal more is true, or one conflict more is spent
pub record IsNext (formula : Cnf) (conflicts : ℕ) (s : TrailState) (log : List LogStep) (t : TrailState) (new : List LogStep) : Type 0 where
  pub search : IsSearch formula conflicts t new
  pub moves : ((length new ≡ length log) × (length s.set < length t.set)) ⊎ (length new ≡ suc (length log))

abbrev pub IsTurn : Cnf → ℕ → TrailState → List LogStep → TrailState → List LogStep → Turn → Type 0
IsTurn formula conflicts s log t new Next = IsNext formula conflicts s log t new
IsTurn formula conflicts s log t new (Found values) = IsModel formula values
IsTurn formula conflicts s log t new Refuted = IsRefuted formula conflicts new
IsTurn formula conflicts s log t new Over = IsSpent formula conflicts new
