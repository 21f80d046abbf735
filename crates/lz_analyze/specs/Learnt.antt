-- Inner: what the analysis of a conflict leaves, told by the trail.
use Rattle.std.specs.Prelude.{◌≡◌, ◌⊎◌, ℕ, ◌<◌, ◌≤◌, List}
use Rattle.std.specs.List.{All, Contains}
use Rattle.lz_cnf.specs.declared.clause.Lit.{Lit}
use Rattle.lz_cnf.specs.Models.{negated}
use Rattle.lz_prop.specs.Trail.{Entry, TrailState}

-- the literal is false, by an entry whose level is as the test says
pub record IsFalseAt (set : List Entry) (test : ℕ → Type 0) (lit : Lit) : Type 0 where
  pub entry : Entry
  pub within : Contains set entry
  pub negates : entry.lit ≡ negated lit
  pub level : test entry.level

-- all literals of the clause are false: one above the level `low`, which is below the trail's, and the others at
-- `low` or below. Where `low` isn't 0, one is false at `low`
pub record IsLearnt (s : TrailState) (clause : List Lit) (left : Lit) (low : ℕ) : Type 0 where
  pub below : low < s.level
  pub within : Contains clause left
  pub highest : IsFalseAt s.set (λ level. low < level) left
  pub others : All (λ lit. (lit ≡ left) ⊎ IsFalseAt s.set (λ level. level ≤ low) lit) clause
  pub reached : (low ≡ 0) ⊎ ((lit : Lit) × Contains clause lit × IsFalseAt s.set (λ level. level ≡ low) lit)
