-- Steps of the code that makes groups.
use Rattle.std.proofs.Common.{◌≡◌, ℕ, zero, suc, ◌+◌, ◌-◌, ◌≤◌, ◌<◌, List, [], ◌∷◌, ◌++◌, map, Result, Ok, Err, IfOk, refl, sym, ◌∙◌, ap, ap₂, arith}
use Rattle.std.proofs.lemmas.List.{append_assoc, append-nil, map-append}
use Rattle.lz_base.specs.declared.memory.Memory.{Memory}
use Rattle.lz_flat.specs.declared.program.Instr.{Instr}
use Rattle.lz_flat.specs.declared.program.Instr.TheVariants.{Set}
use Rattle.lz_flat.specs.declared.program.Spot.{Spot}
use Rattle.lz_flat.specs.declared.program.FlatExpr.{FlatExpr}
use Rattle.lz_flat.specs.Programs.{Expression, Instruction, Location, sets, expression, location, instruction}
use Rattle.lz_sync.specs.declared.layout.Layout.{Layout}
use Rattle.lz_sync.specs.Standing.{wait, place_of}
use Rattle.lz_sync.specs.Groups.{equal, either, role_word, role_at, fixed, some_wait, chosen_wait, none_waits}

-- one more wait is ended
pub wait_turn : (layout : Layout) (cond : Expression) (slot : ℕ) (group new : List Instr) (to : Spot) (of : FlatExpr) (all : List Instruction) → slot < layout.threads
    → map instruction group ++ none_waits layout cond slot (layout.threads - slot) ≡ all → location to ≡ fixed (place_of layout (wait slot)) → expression of ≡ chosen_wait layout cond slot → new ≡ group ++ Set to of ∷ []
    → map instruction new ++ none_waits layout cond (slot + 1) (layout.threads - (slot + 1)) ≡ all
wait_turn layout cond slot group new to of all lt before is_to is_of is_new =
    ap (λ (xs : List Instr). map instruction xs ++ none_waits layout cond (slot + 1) (layout.threads - (slot + 1))) is_new
    ∙ ap (λ (xs : List Instruction). xs ++ none_waits layout cond (slot + 1) (layout.threads - (slot + 1))) (map-append instruction group (Set to of ∷ []))
    ∙ append_assoc (map instruction group) (sets (location to) (expression of) ∷ []) (none_waits layout cond (slot + 1) (layout.threads - (slot + 1)))
    ∙ ap (λ (xs : List Instruction). map instruction group ++ xs) (ap₂ (λ (x : Location) (y : Expression). sets x y ∷ none_waits layout cond (slot + 1) (layout.threads - (slot + 1))) is_to is_of ∙ one)
    ∙ before
  where
    one : sets (role_at layout (wait slot)) (chosen_wait layout cond slot) ∷ none_waits layout cond (slot + 1) (layout.threads - (slot + 1)) ≡ none_waits layout cond slot (layout.threads - slot)
    one = rw (let z : layout.threads - slot ≡ suc (layout.threads - (slot + 1)) = omega (arith, lt) in z, let z : slot + 1 ≡ suc slot = omega arith in z) refl

-- and none is left
pub waits_ended : (layout : Layout) (cond : Expression) (group : List Instr) (all : List Instruction) → map instruction group ++ none_waits layout cond layout.threads (layout.threads - layout.threads) ≡ all → map instruction group ≡ all
waits_ended layout cond group all e = sym (append-nil (map instruction group)) ∙ ap (λ (n : ℕ). map instruction group ++ none_waits layout cond layout.threads n) (let z : 0 ≡ layout.threads - layout.threads = omega arith in z) ∙ e

-- the test of one slot more
pub some_more : (layout : Layout) (cond : Expression) (slots : ℕ) → 2 ≤ slots → some_wait layout cond slots ≡ either (some_wait layout cond (slots - 1)) (equal (role_word layout (wait (slots - 1))) cond)
some_more layout cond zero le = absurd (let z : ⊥ = omega (arith, le) in z)
some_more layout cond (suc zero) le = absurd (let z : ⊥ = omega (arith, le) in z)
some_more layout cond (suc (suc n)) le = rw (let z : suc (suc n) - 1 ≡ suc n = omega arith in z) refl

-- so with the code's
pub some_given : (layout : Layout) (cond : Expression) (slots : ℕ) (before here : FlatExpr) (result : Result FlatExpr Memory) → 2 ≤ slots → expression before ≡ some_wait layout cond (slots - 1) → expression here ≡ equal (role_word layout (wait (slots - 1))) cond
    → IfOk result (λ made. expression made ≡ either (expression before) (expression here)) → IfOk result (λ made. expression made ≡ some_wait layout cond slots)
some_given layout cond slots before here (Ok made) le is_before is_here e = e ∙ ap₂ (λ (x y : Expression). either x y) is_before is_here ∙ sym (some_more layout cond slots le)
some_given layout cond slots before here (Err m) le is_before is_here e = tt
