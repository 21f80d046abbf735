-- Groups of instructions that run one after the other, within steps and beside other groups.
use Rattle.std.proofs.Common.{◌≡◌, ℕ, suc, ◌+◌, Bool, true, false, cond, List, [], ◌∷◌, ◌++◌, length, eqb, refl, sym, ◌∙◌, ap, arith}
use Rattle.lz_flat.specs.Programs.{Instruction, sets, takes, assumes, checks, skips}
use Rattle.lz_flat.specs.Instructions.{Did, moved, blocked, broke, value, did}
use Rattle.lz_flat.specs.FlatRuns.{behind, onward}
use Rattle.lz_flat.specs.WellFormed.{IsNoSkip}
use Rattle.lz_flat.specs.Running.{did_then, runs, instrs_of, run_then, OnwardOver}

-- what is no skip passes nothing over
pub no_skip_moves : (i : Instruction) (v over : ℕ) (m after : List ℕ) → IsNoSkip i → did i v m ≡ moved over after → over ≡ 0
unfolding did
no_skip_moves (sets to of) v over m after h e = cc
no_skip_moves (takes to) v over m after h e = cc
no_skip_moves (assumes test) v over m after h e = by (eqb (value test m) 0) e
  where
    by : (b : Bool) → cond b blocked (moved 0 m) ≡ moved over after → over ≡ 0
    by true e = absurd cc
    by false e = cc
no_skip_moves (checks test kind line) v over m after h e = by (eqb (value test m) 0) e
  where
    by : (b : Bool) → cond b (broke kind line) (moved 0 m) ≡ moved over after → over ≡ 0
    by true e = absurd cc
    by false e = cc
no_skip_moves (skips test by) v over m after h e = absurd h

-- a step that comes to a group of hidden instructions runs them one after the other, and then goes on
pub onward_over : OnwardOver
unfolding onward runs
onward_over input l [] rest m h = ap (λ (n : ℕ). onward input n rest 0 m) (let z : l ≡ l + 0 = omega arith in z)
onward_over input l (x ∷ xs) rest m h = rw h.0 (by (did x.instr (input l) m) refl (λ n. onward_over input (suc l) xs rest n h.2))
  where
    by : (d : Did) → did x.instr (input l) m ≡ d
        → ((n : List ℕ) → onward input (suc l) (xs ++ rest) 0 n ≡ run_then (runs input (suc l) (instrs_of xs) n) (onward input (suc l + length xs) rest 0))
        → behind d (onward input (suc l) (xs ++ rest)) ≡ run_then (did_then d (runs input (suc l) (instrs_of xs))) (onward input (l + suc (length xs)) rest 0)
    by (moved over after) e more =
        let none = no_skip_moves x.instr (input l) over m after h.1 e in
        ap (λ (n : ℕ). onward input (suc l) (xs ++ rest) n after) none ∙ more after
        ∙ ap (λ (k : ℕ). run_then (runs input (suc l) (instrs_of xs) after) (onward input k rest 0)) (let z : suc l + length xs ≡ l + suc (length xs) = omega arith in z)
    by blocked e more = refl
    by (broke kind line) e more = refl

-- what follows one part follows what follows the other
pub did_then_then : (d : Did) (f g : List ℕ → Did) → did_then (did_then d f) g ≡ did_then d (λ m. did_then (f m) g)
did_then_then (moved over memory) f g = refl
did_then_then blocked f g = refl
did_then_then (broke kind line) f g = refl

-- what follows is the same where each way on is
pub did_then_same : (d : Did) (f g : List ℕ → Did) → ((m : List ℕ) → f m ≡ g m) → did_then d f ≡ did_then d g
did_then_same (moved over memory) f g h = h memory
did_then_same blocked f g h = refl
did_then_same (broke kind line) f g h = refl

-- a group behind a group
pub runs_append : (input : ℕ → ℕ) (l : ℕ) (xs ys : List Instruction) (m : List ℕ) → runs input l (xs ++ ys) m ≡ did_then (runs input l xs m) (runs input (l + length xs) ys)
unfolding runs
runs_append input l [] ys m = ap (λ (k : ℕ). runs input k ys m) (let z : l ≡ l + 0 = omega arith in z)
runs_append input l (x ∷ xs) ys m =
    did_then_same (did x (input l) m) (runs input (suc l) (xs ++ ys)) (λ n. did_then (runs input (suc l) xs n) (runs input (l + suc (length xs)) ys))
    (λ n. runs_append input (suc l) xs ys n ∙ ap (λ (k : ℕ). did_then (runs input (suc l) xs n) (runs input k ys)) (let z : suc l + length xs ≡ l + suc (length xs) = omega arith in z))
    ∙ sym (did_then_then (did x (input l) m) (runs input (suc l) xs) (runs input (l + suc (length xs)) ys))
