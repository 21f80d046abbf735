-- Guesses: two guesses lead to the same steps where they are above the same instructions.
use Rattle.std.proofs.Common.{◌≡◌, ℕ, zero, suc, ◌≤◌, ◌<◌, Bool, true, false, cond, List, length, nat_lt, nat_le, refl, sym, ◌∙◌, ap, arith}
use Rattle.std.proofs.lemmas.List.{drop_all}
use Rattle.std.proofs.lemmas.Bool.{lt-ltb}
use Rattle.lz_flat.specs.FlatRuns.{Ran, went, ended, step_from, step, steps_on, below}
use Rattle.lz_flat.specs.Programs.{MarkedInstruction}
use Rattle.lz_flat.proofs.InputsLemmas.{steps_same}

-- a step from the end says that the thread has ended
step_ended : (input : ℕ → ℕ) (code : List MarkedInstruction) (place : ℕ) (memory : List ℕ) → length code ≤ place → step input code place memory ≡ ended
unfolding step
step_ended input code place memory h = ap (λ (part : List MarkedInstruction). step_from input place part memory) (drop_all place code h)

-- guesses that compare alike with each place of the code drive the same steps
pub same_below : (most guess other : ℕ) (input : ℕ → ℕ) (code : List MarkedInstruction) (place : ℕ) (memory : List ℕ) → ((p : ℕ) → p < length code → nat_lt p other ≡ nat_lt p guess)
    → below most other input code place memory ≡ below most guess input code place memory
unfolding below
same_below zero guess other input code place memory same = refl
same_below (suc most) guess other input code place memory same =
    ap (λ (r : Ran). cond (nat_lt place other) r (went place memory))
    (steps_same place memory (step input code place memory) (below most other input code) (below most guess input code) (λ p m. same_below most guess other input code p m same))
    ∙ decide (nat_lt place (length code)) refl
  where
    same_cond : (x y : Bool) (r : Ran) → r ≡ went place memory → cond x r (went place memory) ≡ cond y r (went place memory)
    same_cond true true r e = refl
    same_cond true false r e = e
    same_cond false true r e = sym e
    same_cond false false r e = refl

    decide : (b : Bool) → nat_lt place (length code) ≡ b
        → cond (nat_lt place other) (steps_on place memory (step input code place memory) (below most guess input code)) (went place memory)
        ≡ cond (nat_lt place guess) (steps_on place memory (step input code place memory) (below most guess input code)) (went place memory)
    decide true e = let h : place < length code = grind arith in ap (λ (b : Bool). cond b (steps_on place memory (step input code place memory) (below most guess input code)) (went place memory)) (same place h)
    decide false e =
        let h : length code ≤ place = grind arith in
        same_cond (nat_lt place other) (nat_lt place guess) (steps_on place memory (step input code place memory) (below most guess input code))
        (ap (λ (r : Ran). steps_on place memory r (below most guess input code)) (step_ended input code place memory h))

-- ---- a guess, or a bound where the guess is above it

-- a guess, or the size of the code where it is above that
abbrev pub clamped : ℕ → ℕ → ℕ
clamped guess bound = cond (nat_le guess bound) guess bound

-- a clamped guess compares with each place of the code as before
pub clamped_lt : (place guess bound : ℕ) → place < bound → nat_lt place (clamped guess bound) ≡ nat_lt place guess
clamped_lt place guess bound h = decide (nat_le guess bound) refl
  where
    decide : (b : Bool) → nat_le guess bound ≡ b → nat_lt place (cond b guess bound) ≡ nat_lt place guess
    decide true e = refl
    decide false e = lt-ltb place bound h ∙ sym (lt-ltb place guess (let g : bound < guess = grind arith in omega arith))

-- so a clamped guess leads to the same steps, where the bound is no less than the size of the code
pub clamped_below : (most guess bound : ℕ) (input : ℕ → ℕ) (code : List MarkedInstruction) (place : ℕ) (memory : List ℕ) → length code ≤ bound
    → below most (clamped guess bound) input code place memory ≡ below most guess input code place memory
clamped_below most guess bound input code place memory h = same_below most guess (clamped guess bound) input code place memory (λ p lt. clamped_lt p guess bound (omega arith))
