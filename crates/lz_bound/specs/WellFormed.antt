-- Inner: when bounded and slotted trees are well formed.
use Rattle.std.specs.Prelude.{◌≡◌, ℕ, Bool, true, false, not, ◌||◌, List, [], ◌∷◌, length, map, Option, Some, None, ⊤, All}
use Rattle.std.specs.List.{Contains}
use Rattle.lz_base.specs.declared.word.IntType.{IntType}
use Rattle.lz_base.specs.declared.word.IntType.TheVariants.{Unsigned}
use Rattle.lz_tree.specs.declared.scoped.Object.{Object}
use Rattle.lz_tree.specs.declared.scoped.Object.TheVariants.{Local, Handle}
use Rattle.lz_tree.specs.ScopedTrees.{ScopedExpression, ScopedProgram}
use Rattle.lz_tree.specs.WellScoped.{Setting, IsLength, IsInteger, IsThread, IsScoped, HasValue}
use Rattle.lz_bound.specs.BoundedTrees.{BoundedStatement, evals, fresh, clear, nothing, seq, when, frame, leave, exit, stuck, inside, BoundedRoutine, BoundedProgram, SlottedProgram}
use Rattle.lz_bound.specs.CreateSites.{tree_sites}

-- a local
abbrev pub IsLocal : Setting → Object → Type 0
IsLocal w (Local first len kind) = IsInteger w (Local first len kind)
IsLocal w x = ⊥

-- a local of one element, which takes the value
abbrev pub IsStored : Setting → ScopedExpression → Option Object → Type 0
IsStored w e None = ⊤
IsStored w e (Some (Local first len kind)) = IsInteger w (Local first len kind) × (len ≡ 1) × HasValue e
IsStored w e (Some x) = ⊥

-- what may be set to 0 or to no thread
abbrev pub IsCleared : Setting → Object → Type 0
IsCleared w (Local first len kind) = IsInteger w (Local first len kind)
IsCleared w (Handle first len) = IsThread w (Handle first len)
IsCleared w x = ⊥

-- Code inside frames of these numbers, which are those that a `Leave` in it may name. Its expressions keep the rules of
-- the source on operands, arguments, kinds, constants and lengths, and call no function of the file.
abbrev pub IsTree : Setting → List ℕ → BoundedStatement → Type 0
IsTree w frames (evals e to) = IsScoped w e × IsStored w e to
IsTree w frames (fresh object) = IsLocal w object
IsTree w frames (clear object) = IsCleared w object
IsTree w frames nothing = ⊤
IsTree w frames (seq a b) = IsTree w frames a × IsTree w frames b
IsTree w frames (when test a b) = IsScoped w test × HasValue test × IsTree w frames a × IsTree w frames b
IsTree w frames (frame number body) = IsTree w (number ∷ frames) body
IsTree w frames (leave number) = Contains frames number
IsTree w frames (exit whole) = (not whole || w.threads) ≡ true
IsTree w frames stuck = ⊤
IsTree w frames (inside line index len) = IsScoped w index × HasValue index × IsLength len

-- how many cells, mutexes, conditions and thread objects the program has
pub record Counts : Type 0 where
  pub cells : ℕ
  pub mutexes : ℕ
  pub conds : ℕ
  pub handles : ℕ

-- those of a scoped program
abbrev pub counts_of : ScopedProgram → Counts
counts_of p = record { cells = length p.cells; mutexes = p.mutexes; conds = p.conds; handles = p.handles }

-- a tree has no number of locals: each number of 32 bits may be one
abbrev pub local_limit : ℕ
local_limit = 4294967296

-- what holds at a place of a tree: it calls no function of the file, and a target in it may be checked already
abbrev pub tree_setting : Counts → (ℕ → IntType) → (ℕ → IntType) → (ℕ → Type 0) → Bool → Setting
tree_setting counts cell_kinds local_kinds may_start main = record {
  locals = local_limit;
  local_kinds = local_kinds;
  cells = counts.cells;
  cell_kinds = cell_kinds;
  mutexes = counts.mutexes;
  conds = counts.conds;
  handles = counts.handles;
  params = λ function. [];
  gives = λ function. None;
  may_call = λ function. ⊥;
  may_start = may_start;
  threads = main;
  tested = true;
}

-- The code of thread 0, which starts such functions: no local in it has two kinds.
pub record IsMainTree (counts : Counts) (cell_kinds : ℕ → IntType) (may_start : ℕ → Type 0) (tree : BoundedStatement) : Type 0 where
  pub kinds : ℕ → IntType
  pub fits : IsTree (tree_setting counts cell_kinds kinds may_start true) [] tree

-- The code of another thread, which starts none: no local in it has two kinds, and local 0, its argument, is unsigned.
pub record IsRoutineTree (counts : Counts) (cell_kinds : ℕ → IntType) (tree : BoundedStatement) : Type 0 where
  pub kinds : ℕ → IntType
  pub argument : kinds 0 ≡ Unsigned
  pub fits : IsTree (tree_setting counts cell_kinds kinds (λ function. ⊥) false) [] tree

-- the functions of routines or slots, in their order
abbrev pub functions_of : List BoundedRoutine → List ℕ
functions_of routines = map (λ r. r.function) routines

-- no number stands in it twice
abbrev pub AreDistinct : List ℕ → Type 0
AreDistinct [] = ⊤
AreDistinct (f ∷ rest) = (Contains rest f → ⊥) × AreDistinct rest

-- A bounded tree over a program with so many objects: no cell in it has two kinds, each create site names one of its
-- routines, and no two of these are of one function.
pub record IsWellFormed (counts : Counts) (b : BoundedProgram) : Type 0 where
  pub cell_kinds : ℕ → IntType
  pub main : IsMainTree counts cell_kinds (λ function. Contains (functions_of b.routines) function) b.main
  pub routines : All (λ r. IsRoutineTree counts cell_kinds r.body) b.routines
  pub distinct : AreDistinct (functions_of b.routines)

-- A slotted tree over a program with so many objects: no cell in it has two kinds, the k-th create site in the order of
-- the text names the function of the k-th slot, and there are no other slots.
pub record IsWellSlotted (counts : Counts) (s : SlottedProgram) : Type 0 where
  pub cell_kinds : ℕ → IntType
  pub main : IsMainTree counts cell_kinds (λ function. Contains (functions_of s.slots) function) s.main
  pub slots : All (λ r. IsRoutineTree counts cell_kinds r.body) s.slots
  pub named : tree_sites s.main ≡ functions_of s.slots
