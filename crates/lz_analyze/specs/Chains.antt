-- Inner: a part of the clause at the first unique implication point, and the clauses by which it makes the other literals false.
use Rattle.std.specs.Prelude.{◌≡◌, ◌⊎◌, ℕ, List, [], ◌∷◌, map}
use Rattle.std.specs.List.{All, Contains}
use Rattle.lz_cnf.specs.declared.clause.Lit.{Lit}
use Rattle.lz_cnf.specs.Models.{variable_of, negated}
use Rattle.lz_cnf.specs.Partial.{IsFalseLit, IsNamed}
use Rattle.lz_prop.specs.Trail.{TrailState, IsApart, literals}

-- a literal that a clause sets, and the clause's number
pub record Link : Type 0 where
  pub lit : Lit
  pub number : ℕ

-- Where the literals of `have` are false, each link's clause sets its literal, the earliest first; then those of `rest` are false.
abbrev pub IsChain : List Lit → List (List Lit) → (Lit → Type 0) → List Link → (Lit → Type 0) → Type 0
IsChain true_ known have [] rest = (l : Lit) → rest l → have l
IsChain true_ known have (link ∷ links) rest =
    (clause : List Lit) × IsNamed known link.number clause × Contains clause link.lit × Contains true_ link.lit
    × ((l : Lit) → Contains clause l → (l ≡ link.lit) ⊎ have l)
    × IsChain true_ known (λ l. (l ≡ negated link.lit) ⊎ have l) links rest

-- literals of the clause, no variable twice; the known variables are theirs and the point's
pub record IsPart (low : List Lit) (point : Lit) (kept : List Lit) (known : List ℕ) : Type 0 where
  pub within : All (Contains low) kept
  pub apart : IsApart kept
  pub marked : All (λ l. Contains known (variable_of l)) kept
  pub told : (v : ℕ) → Contains known v → (v ≡ variable_of point) ⊎ ((l : Lit) × Contains kept l × (variable_of l ≡ v))

-- a false literal of a known variable
abbrev pub IsKnown : TrailState → List ℕ → Lit → Type 0
IsKnown s known lit = IsFalseLit (literals s.set) lit × Contains known (variable_of lit)

-- by the clauses of these numbers the literals of `have` make those of the known variables false
pub record IsReplay (s : TrailState) (have : List Lit) (known : List ℕ) (numbers : List ℕ) : Type 0 where
  pub links : List Link
  pub told : numbers ≡ map (λ k. k.number) links
  pub chain : IsChain (literals s.set) s.clauses (Contains have) links (IsKnown s known)

-- by the clauses of these numbers the kept literals and the point's make all literals of the clause false
pub record IsShorter (s : TrailState) (point : Lit) (low kept : List Lit) (numbers : List ℕ) : Type 0 where
  pub within : All (Contains low) kept
  pub apart : IsApart kept
  pub links : List Link
  pub told : numbers ≡ map (λ k. k.number) links
  pub chain : IsChain (literals s.set) s.clauses (Contains (point ∷ kept)) links (Contains (point ∷ low))
