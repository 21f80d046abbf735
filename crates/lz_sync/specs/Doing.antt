-- Trusted: that instructions do in a memory what an operation does to the state that the memory stands for.
use Rattle.std.specs.Prelude.{◌≡◌, ℕ, ◌<◌, ◌≤◌, List, length, slice_index}
use Rattle.lz_base.specs.Words.{value_bound}
use Rattle.lz_base.specs.declared.word.BreakKind.{BreakKind}
use Rattle.lz_flat.specs.Programs.{Instruction}
use Rattle.lz_flat.specs.Instructions.{Did}
use Rattle.lz_flat.specs.Instructions as flat
use Rattle.lz_model.specs.Store.{State, Acted, went, blocked, broke, act}
use Rattle.lz_sync.specs.declared.layout.Layout.{Layout}
use Rattle.lz_sync.specs.Slots.{thread_of}
use Rattle.lz_sync.specs.Standing.{words_of, StandsFor}
use Rattle.lz_flat.specs.Running.{runs}
use Rattle.lz_sync.specs.Operations.{Operation, IsExpandable, IsReady, action_in, made_after, with_read}
use Rattle.lz_sync.specs.Groups.{group}

-- words that stand for no state are as before
pub record KeepsOthers (layout : Layout) (before after : List ℕ) : Type 0 where
  pub size : length after ≡ length before
  pub others : (place : ℕ) → words_of layout ≤ place → slice_index after place ≡ slice_index before place

-- Instructions go, are blocked or break as the action does. Where they go, the memory then stands for the new state
-- with this list of made slots, and every other word is as in this memory.
pub data DoesAs (layout : Layout) (beside : List ℕ) (made : List ℕ) (acted : Acted) (does : Did) : Type 0 where
  goes : (state : State) (after : List ℕ) → acted ≡ went state → does ≡ flat.moved 0 after → StandsFor layout after state made → KeepsOthers layout beside after → DoesAs layout beside made acted does
  waits : acted ≡ blocked → does ≡ flat.blocked → DoesAs layout beside made acted does
  breaks : (kind : BreakKind) → acted ≡ broke kind → does ≡ flat.broke kind 0 → DoesAs layout beside made acted does

-- so from every memory that stands for a state in which the thread does the operation
abbrev pub DoesThroughout : Layout → ℕ → Operation → List Instruction → Type 0
DoesThroughout layout t op instructions =
    (memory : List ℕ) (state : State) (made : List ℕ) (input : ℕ → ℕ) (l : ℕ) → StandsFor layout memory state made → IsReady layout memory made op →
    DoesAs layout (with_read memory op) (made_after made op) (act state (thread_of made t) (action_in memory made op)) (runs input l instructions memory)

-- so with the group of an operation that may be expanded
abbrev pub Does : Layout → ℕ → Operation → Type 0
Does layout t op = t < layout.threads → layout.conds < value_bound → IsExpandable layout op → DoesThroughout layout t op (group layout t op)

-- so with every group
abbrev pub GroupsDo : Type 0
GroupsDo = (layout : Layout) (t : ℕ) (op : Operation) → Does layout t op
