-- Inner: what each piece of code owes, an instruction of local code or the group of instructions of a deed.
use Rattle.std.specs.Prelude.{Some, None, ◌≡◌, ℕ, suc, ◌+◌, ◌≤◌, false, List, [], ◌∷◌, ◌++◌, length, drop}
use Rattle.lz_base.specs.declared.word.BreakKind.{BreakKind}
use Rattle.lz_flat.specs.Programs.{MarkedInstruction}
use Rattle.lz_flat.specs.Instructions.{moved, blocked, broke, did}
use Rattle.lz_flat.specs.Running.{runs, instrs_of, AreHidden}
use Rattle.lz_flat.specs.WellFormed.{IsNoSkip}
use Rattle.lz_interleave.specs.Deeds.{gone, waits, fails, no_start, Program}
use Rattle.lz_interleave.specs.StepLaw.{Reading, Spares}

-- a local instruction at this place: it moves on, changes nothing that stands for the store, and gives no deed
pub record OwnStep {S D : Type 0} (reading : Reading S D) (size : ℕ) (input : ℕ → ℕ) (t l : ℕ) (m : List ℕ) (s : S) (first : MarkedInstruction) : Type 0 where
  pub over : ℕ
  pub m' : List ℕ
  pub is : did first.instr (input l) m ≡ moved over m'
  pub fit : suc l + over ≤ size
  pub stands : reading.Stands m' s
  pub spares : Spares reading t no_start m m'
  pub from : (todo : List D) → reading.Gives input t (suc l + over) m' todo → reading.Gives input t l m todo
  pub tells : reading.deed_at input t l m ≡ None
  pub to : (todo : List D) → reading.Gives input t l m todo → reading.Gives input t (suc l + over) m' todo

-- the group of a deed: its first instruction and these
pub record IsGroup (first : MarkedInstruction) (rest xs after : List MarkedInstruction) : Type 0 where
  pub are : rest ≡ xs ++ after
  pub plain : IsNoSkip first.instr
  pub tail : AreHidden xs

-- what stands at a place: a local instruction; the group of a deed, which goes or breaks off as the store says; or what is blocked
pub data At {S D : Type 0} (program : Program S D) (reading : Reading S D) (size : ℕ) (input : ℕ → ℕ) (t l : ℕ) (m : List ℕ) (s : S) (first : MarkedInstruction) (rest : List MarkedInstruction) : Type 0 where
  own : OwnStep reading size input t l m s first → At program reading size input t l m s first rest
  goes : (d : D) (s' : S) (m' : List ℕ) (xs after : List MarkedInstruction) → IsGroup first rest xs after → runs input l (instrs_of (first ∷ xs)) m ≡ moved 0 m' → program.act s t d ≡ gone s'
      → reading.Stands m' s' → Spares reading t (program.start_of d) m m' → reading.Gives input t (suc l + length xs) m' []
      → ((todo : List D) → reading.Gives input t (suc l + length xs) m' todo → reading.Gives input t l m (d ∷ todo))
      → ((e : D) (todo : List D) → reading.Gives input t l m (e ∷ todo) → (program.act s t e ≡ waits → ⊥) → (e ≡ d) × reading.Gives input t (suc l + length xs) m' todo)
      → reading.deed_at input t l m ≡ Some d
      → At program reading size input t l m s first rest
  breaks_off : (d : D) (kind : BreakKind) (line : ℕ) (xs after : List MarkedInstruction) → IsGroup first rest xs after → runs input l (instrs_of (first ∷ xs)) m ≡ broke kind line → program.act s t d ≡ fails kind line
      → reading.Gives input t l m (d ∷ [])
      → ((e : D) (todo : List D) → reading.Gives input t l m (e ∷ todo) → (program.act s t e ≡ waits → ⊥) → e ≡ d)
      → reading.deed_at input t l m ≡ Some d
      → At program reading size input t l m s first rest
  blocks : did first.instr (input l) m ≡ blocked
      → ((e : D) (todo : List D) → reading.Gives input t l m (e ∷ todo) → program.act s t e ≡ waits) → At program reading size input t l m s first rest

-- the code of a thread is such pieces
pub record PieceLaw {S D : Type 0} (program : Program S D) (reading : Reading S D) (code : List MarkedInstruction) (input : ℕ → ℕ) (t : ℕ) : Type 0 where
  -- at each place where a piece begins
  pub at : (l : ℕ) (m : List ℕ) (s : S) (first : MarkedInstruction) (rest : List MarkedInstruction) → reading.Stands m s → program.asleep s t ≡ false → reading.Gives input t l m [] → drop l code ≡ first ∷ rest
      → At program reading (length code) input t l m s first rest
  -- local code alone is not visible
  pub invisible : (l : ℕ) (m : List ℕ) (s : S) (first : MarkedInstruction) (rest : List MarkedInstruction) → reading.Stands m s → reading.Gives input t l m [] → drop l code ≡ first ∷ rest → first.visible ≡ false
      → OwnStep reading (length code) input t l m s first
  pub done : (l : ℕ) (m : List ℕ) (s : S) → reading.Stands m s → drop l code ≡ [] → (e : D) (todo : List D) → reading.Gives input t l m (e ∷ todo) → program.act s t e ≡ waits
