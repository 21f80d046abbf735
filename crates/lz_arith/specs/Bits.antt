-- Inner: words as lists of literals, lowest bit first.
use Rattle.std.specs.Prelude.{◌≡◌, ℕ, zero, suc, ◌+◌, ◌*◌, Bool, false, not, nat_lt, List, [], ◌∷◌, ◌++◌, ◌-◌, length, take, slice_index_or}
use Rattle.lz_base.specs.declared.word.IntType.{IntType}
use Rattle.lz_base.specs.declared.word.IntType.TheVariants.{Int, Unsigned}
use Rattle.lz_base.specs.Words.{truth, sign_bound}
use Rattle.lz_cnf.specs.declared.clause.Lit.{Lit}
use Rattle.lz_cnf.specs.Models.{negated}
use Rattle.lz_gates.specs.Circuits.{Circuit, Assignment, value, AreLits}

-- the number of a truth value
abbrev pub bit : Bool → ℕ
bit test = truth test

-- the number that the literals stand for
unfoldable pub word : Assignment → List Lit → ℕ
word a [] = 0
word a (lit ∷ lits) = bit (value a lit) + 2 * word a lits

-- so many literals, each of a variable of the circuit
pub record AreBits (circuit : Circuit) (width : ℕ) (bits : List Lit) : Type 0 where
  pub length : length bits ≡ width
  pub lits : AreLits circuit bits

-- so many copies of a literal
abbrev pub copies : ℕ → Lit → List Lit
copies zero lit = []
copies (suc n) lit = lit ∷ copies n lit

-- the word with its top bit in the other sign
abbrev pub top_flipped : List Lit → List Lit
top_flipped lits = take (length lits - 1) lits ++ negated (slice_index_or lits (length lits - 1) (record { 0 = 0 })) ∷ []

-- the literals in the other sign
abbrev pub negations : List Lit → List Lit
negations [] = []
negations (lit ∷ lits) = negated lit ∷ negations lits

-- whether a word of a type stands for a number below zero
abbrev pub is_negative : IntType → ℕ → Bool
is_negative Int a = not (nat_lt a sign_bound)
is_negative Unsigned a = false
