-- Inner: Which literals are marked as false, by the stamps of a check.
use Rattle.std.specs.Prelude.{◌≡◌, ◌↔◌, ◌⊎◌, ◌<◌, ◌≤◌, List, length, slice_index}
use Rattle.std.specs.List.{All, Contains}
use Rattle.lz_cnf.specs.declared.clause.Lit.{Lit}
use Rattle.lz_log.specs.declared.marks.Marks.{Marks}
use Rattle.lz_log.specs.declared.marks.Standing.{Standing}
use Rattle.lz_log.specs.declared.marks.Standing.TheVariants.{AllFalse, OneLeft, TwoLeft}

-- no stamp is later than the present round
pub record AreStamps (marks : Marks) : Type 0 where
  pub past : All (λ stamp. stamp ≤ marks.round) marks.stamps.items
  pub begun : 0 < marks.round

-- of the literals that have a stamp, those of this list are marked
pub record Mark (marks : Marks) (false_ : List Lit) : Type 0 where
  pub told : (lit : Lit) → lit.0 < length marks.stamps.items → (slice_index marks.stamps.items lit.0 ≡ marks.round) ↔ Contains false_ lit

-- how a clause stands where these literals are false
abbrev pub Stands : List Lit → List Lit → Standing → Type 0
Stands false_ clause AllFalse = All (Contains false_) clause
Stands false_ clause (OneLeft unit) =
    Contains clause unit × (Contains false_ unit → ⊥) × All (λ lit. (lit ≡ unit) ⊎ Contains false_ lit) clause
Stands false_ clause TwoLeft =
    (one other : Lit) × Contains clause one × Contains clause other × (Contains false_ one → ⊥) × (Contains false_ other → ⊥) × (one ≡ other → ⊥)
