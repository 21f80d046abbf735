-- The instructions of the code are those of the definition, and have what holds of these.
use Rattle.std.proofs.Common.{◌≡◌, ℕ, List, map, Result, Ok, Err, IfOk, sym, subst}
use Rattle.lz_base.specs.declared.memory.Memory.{Memory}
use Rattle.lz_flat.specs.Programs.{Instruction, instruction}
use Rattle.lz_flat.specs.declared.program.Instr.{Instr}
use Rattle.lz_sync.specs.declared.layout.Layout.{Layout}
use Rattle.lz_sync.specs.Operations.{Operation}
use Rattle.lz_sync.specs.Groups.{group}

-- so with an answer of the code
pub if_group : (P : List Instruction → Type 0) (layout : Layout) (t : ℕ) (op : Operation) (result : Result (List Instr) Memory) → P (group layout t op)
    → IfOk result (λ made. map instruction made ≡ group layout t op) → IfOk result (λ made. P (map instruction made))
if_group P layout t op (Ok made) holds e = subst P (sym e) holds
if_group P layout t op (Err m) holds e = tt
