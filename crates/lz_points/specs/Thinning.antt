-- Inner: when a flat program is another one with fewer visible places, by the words that threads name.
use Rattle.std.specs.Prelude.{◌≡◌, ◌⊎◌, ℕ, zero, suc, ◌-◌, Bool, true, false, List, [], ◌∷◌, length, ⊤}
use Rattle.lz_flat.specs.Programs.{Instruction, sets, takes, assumes, checks, skips, MarkedInstruction, FlatProgram, code_of}
use Rattle.lz_flat.specs.WellFormed.{IsWellMarked, IsMarkedSo}
use Rattle.lz_flat.specs.Naming.{InstructionNamesOnly, CodeNamesOnly}

-- how many instructions behind it an instruction may pass over at most
abbrev pub far : Instruction → ℕ
far (sets to of) = 0
far (takes to) = 0
far (assumes test) = 0
far (checks test kind line) = 0
far (skips test by) = by - 1

-- From here on, after so many instructions are passed over, what runs before the next visible instruction
-- names only these words.
unfoldable pub Clear : (ℕ → Type 0) → List MarkedInstruction → ℕ → Type 0
Clear P [] over = ⊤
Clear P (x ∷ xs) (suc over) = Clear P xs over
Clear P (x ∷ xs) zero = (x.visible ≡ true) ⊎ (InstructionNamesOnly P x.instr × Clear P xs 0 × Clear P xs (far x.instr))

-- Marks are taken from code, each where it and what runs behind it before the next visible one name only these
-- words, and from no assumption.
pub data Thinned (P : ℕ → Type 0) : List MarkedInstruction → List MarkedInstruction → Type 0 where
  none : Thinned P [] []
  kept : {instr : Instruction} {visible : Bool} {xs ys : List MarkedInstruction} → Thinned P xs ys
      → Thinned P (record { instr = instr; visible = visible } ∷ xs) (record { instr = instr; visible = visible } ∷ ys)
  taken : {instr : Instruction} {xs ys : List MarkedInstruction} → InstructionNamesOnly P instr → Clear P xs 0 → Clear P xs (far instr) → IsMarkedSo instr false → Thinned P xs ys
      → Thinned P (record { instr = instr; visible = true } ∷ xs) (record { instr = instr; visible = false } ∷ ys)

-- the words that only thread t names, and those that it may name: a word's owner is 0 where it is shared
abbrev pub Own : (ℕ → ℕ) → ℕ → ℕ → Type 0
Own owner t w = owner w ≡ suc t

abbrev pub Sees : (ℕ → ℕ) → ℕ → ℕ → Type 0
Sees owner t w = (owner w ≡ 0) ⊎ (owner w ≡ suc t)

-- marks are taken from a program by such owners
pub record ThinnedBy (owner : ℕ → ℕ) (flat thinner : FlatProgram) : Type 0 where
  pub first : thinner.first ≡ flat.first
  pub threads : length thinner.threads ≡ length flat.threads
  pub sees : (t : ℕ) → CodeNamesOnly (Sees owner t) (code_of flat t)
  pub codes : (t : ℕ) → Thinned (Own owner t) (code_of flat t) (code_of thinner t)
  pub well : IsWellMarked thinner
