-- Inner: what a trail holds, as its callers see it, however it is kept.
use Rattle.std.specs.Prelude.{◌≡◌, ◌≢◌, ◌⊎◌, ℕ, suc, ◌<◌, ◌≤◌, ◌==◌, ltb, leb, Bool, true, false, not, List, [], ◌∷◌, ◌++◌, map, take, length, slice_index_or, Option, Some, None, IsSome, IfSome, if◌then◌else◌}
use Rattle.std.specs.List.{All, AllPairs, Contains, filter}
use Rattle.lz_cnf.specs.declared.clause.Lit.{Lit}
use Rattle.lz_cnf.specs.declared.clause.Cnf.{Cnf}
use Rattle.lz_cnf.specs.Models.{variable_of, is_negated, NoneEmpty}
use Rattle.lz_cnf.specs.Partial.{IsFalseLit, IsOpen, IsQuiet, IsFalseClause, IsNamed}

-- A literal that is true: the level at which it was set, and the number of the clause that made it true, if a
-- clause did.
pub record Entry : Type 0 where
  pub lit : Lit
  pub level : ℕ
  pub reason : Option ℕ

-- Clause number n stands at n - 1. The true literals stand in the order in which they were set. A spent trail answered
-- want of memory.
pub record TrailState : Type 0 where
  pub variables : ℕ
  pub clauses : List (List Lit)
  pub set : List Entry
  pub level : ℕ
  pub spent : Bool

-- the true literals
abbrev pub literals : List Entry → List Lit
literals set = map (λ e. e.lit) set

-- the literals that were true when this level was decided: those of the levels below it
abbrev pub at_decision : ℕ → List Entry → List Lit
at_decision level set = literals (filter (λ e. ltb e.level level) set)

-- the entry of a variable
abbrev pub entry_of : List Entry → ℕ → Option Entry
entry_of [] variable = None
entry_of (e ∷ es) variable = if variable_of e.lit == variable then Some e else entry_of es variable

abbrev pub value_in : Option Entry → Option Bool
value_in None = None
value_in (Some e) = Some (not (is_negated e.lit))

abbrev pub level_in : Option Entry → Option ℕ
level_in None = None
level_in (Some e) = Some e.level

abbrev pub reason_in : Option Entry → Option ℕ
reason_in None = None
reason_in (Some e) = e.reason

-- The clause that a propagated literal rests on: a kept clause that holds it and whose other literals are false
-- by literals that were set before.
pub record RestsOn (clauses : List (List Lit)) (before : List Entry) (lit : Lit) (number : ℕ) : Type 0 where
  pub clause : List Lit
  pub named : IsNamed clauses number clause
  pub within : Contains clause lit
  pub others : All (λ l. (l ≡ lit) ⊎ IsFalseLit (literals before) l) clause

abbrev pub HasReason : List (List Lit) → List Entry → Entry → Type 0
HasReason clauses before e = IfSome e.reason (RestsOn clauses before e.lit)

-- what holds of every trail
pub record IsTrail (s : TrailState) : Type 0 where
  -- kept clauses and true literals have only the trail's variables, and no kept clause is empty
  pub formula : All (All (λ l. variable_of l < s.variables)) s.clauses
  pub not_empty : NoneEmpty s.clauses
  pub known : All (λ e. variable_of e.lit < s.variables) s.set
  -- no variable stands twice in the order
  pub apart : AllPairs (λ a b. variable_of a.lit ≢ variable_of b.lit) s.set
  -- levels rise along the order, up to the present one; each level from 1 on begins with its decision
  pub bounded : All (λ e. e.level ≤ s.level) s.set
  pub rising : AllPairs (λ a b. a.level ≤ b.level) s.set
  pub decisions : (k : ℕ) → k < s.level → (e : Entry) × Contains s.set e × (e.level ≡ suc k) × (e.reason ≡ None)
  pub firsts : AllPairs (λ a b. b.reason ≡ None → a.level < b.level) s.set
  pub at_zero : All (λ e. e.level ≡ 0 → IsSome e.reason) s.set
  -- each propagated literal rests on its reason
  pub reasons : (i : ℕ) (d : Entry) → i < length s.set → HasReason s.clauses (take i s.set) (slice_index_or s.set i d)
  -- at each decision no kept clause was unit or false
  pub quiet : (k : ℕ) → k < s.level → IsQuiet (at_decision (suc k) s.set) s.clauses

-- ---- what the calls make of a trail

abbrev pub opening : Cnf → TrailState
opening formula = record { variables = formula.variables; clauses = formula.clauses; set = []; level = 0; spent = false }

abbrev pub decided : TrailState → Lit → TrailState
decided s lit = record s { set = s.set ++ (record { lit = lit; level = suc s.level; reason = None }) ∷ []; level = suc s.level }

-- exactly the levels up to this one
abbrev pub gone_back : TrailState → ℕ → TrailState
gone_back s level = record s { set = filter (λ e. leb e.level level) s.set; level = level }

abbrev pub with_clause : TrailState → List Lit → TrailState
with_clause s clause = record s { clauses = s.clauses ++ clause ∷ [] }

-- what want of memory leaves: all as it was, but for the mark
abbrev pub given_up : TrailState → TrailState
given_up s = record s { spent = true }

-- literals of the present level were added at the end, each with a reason
pub record Extends (old new : TrailState) : Type 0 where
  pub variables : new.variables ≡ old.variables
  pub clauses : new.clauses ≡ old.clauses
  pub level : new.level ≡ old.level
  pub added : List Entry
  pub set : new.set ≡ old.set ++ added
  pub present : All (λ e. (e.level ≡ old.level) × IsSome e.reason) added

-- no variable stands twice in the clause
abbrev pub IsApart : List Lit → Type 0
IsApart clause = AllPairs (λ a b. variable_of a ≢ variable_of b) clause

-- the clause was neither unit nor false at any decision up to and with that of this level
abbrev pub WasOpen : TrailState → ℕ → List Lit → Type 0
WasOpen s level clause = (k : ℕ) → k < level → IsOpen (at_decision (suc k) s.set) clause

-- both lists hold the same literals
pub record SameLits (a b : List Lit) : Type 0 where
  pub left : All (Contains b) a
  pub right : All (Contains a) b

-- ---- what the calls answer

-- the answer of propagation: no kept clause is unit or false, or the named kept clause is false
abbrev pub IsFalseNamed : TrailState → ℕ → Type 0
IsFalseNamed s number = (clause : List Lit) × IsNamed s.clauses number clause × IsFalseClause (literals s.set) clause

-- the clause of this number holds the same literals
abbrev pub HoldsClause : TrailState → ℕ → List Lit → Type 0
HoldsClause s number lits = (clause : List Lit) × IsNamed s.clauses number clause × SameLits lits clause

-- one literal of the present level is set, by the clause of this number
abbrev pub propagated : TrailState → Lit → ℕ → TrailState
propagated s lit number = record s { set = s.set ++ (record { lit = lit; level = s.level; reason = Some number }) ∷ [] }
