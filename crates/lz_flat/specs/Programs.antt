-- Trusted: flat and straight programs as definitions read them, without pointers and capacities.
use Rattle.std.specs.Prelude.{ℕ, ◌+◌, Bool, List, [], ◌∷◌, length, map, slice_index_or}
use Rattle.lz_base.specs.declared.operator.Unary.{Unary}
use Rattle.lz_base.specs.declared.operator.Binary.{Binary}
use Rattle.lz_base.specs.declared.word.IntType.{IntType}
use Rattle.lz_base.specs.declared.word.BreakKind.{BreakKind}
use Rattle.lz_flat.specs.declared.program.FlatExpr.{FlatExpr, Constant, Word, Element', Unary', Binary', Convert', Choose'}
use Rattle.lz_flat.specs.declared.program.Spot.{Spot}
use Rattle.lz_flat.specs.declared.program.Instr.{Instr}
use Rattle.lz_flat.specs.declared.program.Instr.TheVariants.{Set, Input, Assume, Check, Skip}
use Rattle.lz_flat.specs.declared.program.Marked.{Marked}
use Rattle.lz_flat.specs.declared.program.Guarded.{Guarded}
use Rattle.lz_flat.specs.declared.program.Flat.{Flat}
use Rattle.lz_flat.specs.declared.program.Straight.{Straight}

-- An expression over a memory of words.
pub data Expression : Type 0 where
  constant : (value : ℕ) → Expression
  word : (place : ℕ) → Expression
  element : (first len : ℕ) (index : Expression) → Expression
  unary : (op : Unary) (kind : IntType) (of : Expression) → Expression
  binary : (op : Binary) (kind : IntType) (left right : Expression) → Expression
  convert : (from to : IntType) (of : Expression) → Expression
  choose : (test chosen other : Expression) → Expression

-- What an instruction writes to: one of len words from first on, by an index.
pub record Location : Type 0 where
  pub first : ℕ
  pub len : ℕ
  pub index : Expression

-- An instruction.
pub data Instruction : Type 0 where
  sets : (to : Location) (of : Expression) → Instruction
  takes : (to : Location) → Instruction
  assumes : (test : Expression) → Instruction
  checks : (test : Expression) (kind : BreakKind) (line : ℕ) → Instruction
  skips : (test : Expression) (by : ℕ) → Instruction

-- An instruction of a flat program, and whether a step may end before it.
pub record MarkedInstruction : Type 0 where
  pub instr : Instruction
  pub visible : Bool

-- A flat program: the code of each thread, and the first values of the memory.
pub record FlatProgram : Type 0 where
  pub threads : List (List MarkedInstruction)
  pub first : List ℕ

-- A statement of a straight program: an instruction under a guard.
pub record Statement : Type 0 where
  pub guard : Expression
  pub instr : Instruction

-- A straight program: its statements, and the first values of the memory.
pub record StraightProgram : Type 0 where
  pub list : List Statement
  pub first : List ℕ

-- ---- what the types of the code stand for

-- an expression
abbrev pub expression : FlatExpr → Expression
expression (Constant value) = constant value
expression (Word place) = word place
expression (Element' first len p index) = element first len (expression index)
expression (Unary' op kind p of) = unary op kind (expression of)
expression (Binary' op kind p left q right) = binary op kind (expression left) (expression right)
expression (Convert' from to p of) = convert from to (expression of)
expression (Choose' p test q chosen r other) = choose (expression test) (expression chosen) (expression other)

-- a spot
abbrev pub location : Spot → Location
location to = record { first = to.first; len = to.len; index = expression to.index }

-- an instruction
abbrev pub instruction : Instr → Instruction
instruction (Set to value) = sets (location to) (expression value)
instruction (Input to) = takes (location to)
instruction (Assume test) = assumes (expression test)
instruction (Check test kind line) = checks (expression test) kind line
instruction (Skip test by) = skips (expression test) by

-- an instruction with its mark
abbrev pub marked : Marked → MarkedInstruction
marked m = record { instr = instruction m.instr; visible = m.visible }

-- a flat program
abbrev pub flat_program : Flat → FlatProgram
flat_program flat = record { threads = map (λ code. map marked code) flat.threads; first = flat.first }

-- an instruction under a guard
abbrev pub statement : Guarded → Statement
statement g = record { guard = expression g.guard; instr = instruction g.instr }

-- a straight program
abbrev pub straight_program : Straight → StraightProgram
straight_program straight = record { list = map statement straight.list; first = straight.first }

-- how many instructions threads have together
abbrev pub instructions : List (List MarkedInstruction) → ℕ
instructions [] = 0
instructions (code ∷ rest) = length code + instructions rest

-- the code of a thread, which is empty where there is no such thread
abbrev pub code_of : FlatProgram → ℕ → List MarkedInstruction
code_of flat thread = slice_index_or flat.threads thread []
