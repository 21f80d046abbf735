-- Inner: what is promised of a clause that was learnt from a false clause of a trail.
use Rattle.std.specs.Prelude.{◌≡◌, ◌↔◌, ℕ, ◌<◌, List, []}
use Rattle.lz_cnf.specs.declared.clause.Lit.{Lit}
use Rattle.lz_cnf.specs.Partial.{IsUnitClause}
use Rattle.lz_log.specs.Refutation.{FollowsBy}
use Rattle.lz_log.specs.Newness.{IsNewClause}
use Rattle.lz_prop.specs.Trail.{TrailState, IsApart, WasOpen, literals, gone_back}

-- The clause follows from the kept ones by the hints, and is empty exactly at level 0. Above it, the clause is new over
-- the kept ones, was neither unit nor false at any decision up to the level to go back to, and is unit there.
pub record IsLearntFrom (s : TrailState) (clause : List Lit) (by_ : List ℕ) (level : ℕ) : Type 0 where
  pub hints : FollowsBy s.variables s.clauses clause by_
  pub apart : IsApart clause
  pub empty : (clause ≡ []) ↔ (s.level ≡ 0)
  pub new : 0 < s.level → IsNewClause s.clauses clause
  pub below : 0 < s.level → level < s.level
  pub open_ : 0 < s.level → WasOpen s level clause
  pub unit : 0 < s.level → IsUnitClause (literals (gone_back s level).set) clause
