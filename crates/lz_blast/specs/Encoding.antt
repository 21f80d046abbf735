-- Inner: what the formula of the nodes so far says of their words.
use Rattle.std.specs.Prelude.{◌≡◌, ℕ, zero, suc, ◌+◌, ◌*◌, ◌<◌, List, [], ◌∷◌, length, slice_index_or}
use Rattle.lz_base.specs.Words.{value_bound}
use Rattle.lz_cnf.specs.declared.clause.Lit.{Lit}
use Rattle.lz_gates.specs.Circuits.{Circuit, Assignment, Satisfies, Agree}
use Rattle.lz_arith.specs.Bits.{word, AreBits}
use Rattle.lz_arith.specs.Sizes.{word_width}

-- the numbers of words
abbrev pub words : Assignment → List (List Lit) → List ℕ
words a [] = []
words a (w ∷ ws) = word a w ∷ words a ws

-- the literals of so many fresh variables from n on
abbrev pub fresh_word : ℕ → ℕ → List Lit
fresh_word n zero = []
fresh_word n (suc k) = record { 0 = 2 * n } ∷ fresh_word (n + 1) k

-- the literals of an input; none where no node reads it
abbrev pub input_at : List (List Lit) → ℕ → List Lit
input_at inputs i = slice_index_or inputs i []

-- the assignment gives each input that is read its value
unfoldable pub Reads : Assignment → List (List Lit) → (ℕ → ℕ) → Type 0
Reads a inputs v = (i : ℕ) → 0 < length (input_at inputs i) → word a (input_at inputs i) ≡ v i

-- each input that is read has as many literals of the circuit as a word has bits
unfoldable pub AreInputs : Circuit → List (List Lit) → Type 0
AreInputs circuit inputs = (i : ℕ) → 0 < length (input_at inputs i) → AreBits circuit word_width (input_at inputs i)

-- Inputs in range have exactly one model, and there the words of the nodes have the nodes' values.
pub record Encodes (circuit : Circuit) (inputs nodes : List (List Lit)) (values : (ℕ → ℕ) → List ℕ) : Type 0 where
  pub inputs_in : AreInputs circuit inputs
  pub some : (v : ℕ → ℕ) → ((i : ℕ) → v i < value_bound) → (a : Assignment) × Satisfies a circuit.clauses × Reads a inputs v
  pub once : (v : ℕ → ℕ) (a b : Assignment) → Satisfies a circuit.clauses → Satisfies b circuit.clauses → Reads a inputs v → Reads b inputs v → Agree circuit.variables a b
  pub says : (v : ℕ → ℕ) (a : Assignment) → Satisfies a circuit.clauses → Reads a inputs v → words a nodes ≡ values v
