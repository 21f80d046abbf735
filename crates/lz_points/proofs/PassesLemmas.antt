-- The two passes take marks as they may.
use Rattle.std.proofs.Common.{◌≡◌, ◌≤◌, ◌⊎◌, inl, inr, ℕ, zero, suc, Bool, true, false, not, ◌&&◌, ◌||◌, List, [], ◌∷◌, length, arith, refl, sym, ◌∙◌, ap, subst}
use Rattle.lz_flat.specs.Programs.{Instruction, sets, takes, assumes, checks, skips, MarkedInstruction}
use Rattle.lz_flat.specs.WellFormed.{IsCodeOf, IsMarkedSo, IsForward, BeginsVisible}
use Rattle.lz_flat.specs.Weight.{code_weight}
use Rattle.lz_flat.specs.Lengths.{CodeHasLengths}
use Rattle.lz_flat.specs.Naming.{InstructionNamesOnly}
use Rattle.lz_points.specs.Thinning.{Own, far, Clear, Thinned, none, kept, taken}
use Rattle.lz_points.specs.Passes.{flag_at, clear_here, back, may_go, forth, thinned}

-- what three tests say together
pub all_three : (a b c : Bool) → a && b && c ≡ true → (a ≡ true) × (b ≡ true) × (c ≡ true)
all_three true true true e = (refl, refl, refl)
all_three true true false e = absurd cc
all_three true false true e = absurd cc
all_three true false false e = absurd cc
all_three false true true e = absurd cc
all_three false true false e = absurd cc
all_three false false true e = absurd cc
all_three false false false e = absurd cc

either_way : (a b : Bool) → a || b ≡ true → (a ≡ true) ⊎ (b ≡ true)
either_way true b e = inl refl
either_way false b e = inr e

-- where the flag is set the code is clear
flag_clear : (P : ℕ → Type 0) (own : Instruction → Bool) → ((i : Instruction) → own i ≡ true → InstructionNamesOnly P i) → (xs : List MarkedInstruction) (k : ℕ) → flag_at (back own xs) k ≡ true → Clear P xs k
unfolding flag_at back clear_here Clear
flag_clear P own h [] k e = tt
flag_clear P own h (x ∷ xs) (suc k) e = flag_clear P own h xs k e
flag_clear P own h (x ∷ xs) zero e = by (either_way x.visible (own x.instr && flag_at (back own xs) 0 && flag_at (back own xs) (far x.instr)) e) (λ k. flag_clear P own h xs k)
  where
    by : (x.visible ≡ true) ⊎ (own x.instr && flag_at (back own xs) 0 && flag_at (back own xs) (far x.instr) ≡ true) → ((k : ℕ) → flag_at (back own xs) k ≡ true → Clear P xs k)
        → (x.visible ≡ true) ⊎ (InstructionNamesOnly P x.instr × Clear P xs 0 × Clear P xs (far x.instr))
    by (inl v) again = inl v
    by (inr e) again = let p = all_three (own x.instr) (flag_at (back own xs) 0) (flag_at (back own xs) (far x.instr)) e in inr (h x.instr p.0, again 0 p.1, again (far x.instr) p.2)

clear_parts : (P : ℕ → Type 0) (own : Instruction → Bool) → ((i : Instruction) → own i ≡ true → InstructionNamesOnly P i) → (i : Instruction) (xs : List MarkedInstruction) → clear_here own i (back own xs) ≡ true
    → InstructionNamesOnly P i × Clear P xs 0 × Clear P xs (far i)
unfolding clear_here
clear_parts P own h i xs e = let p = all_three (own i) (flag_at (back own xs) 0) (flag_at (back own xs) (far i)) e in (h i p.0, flag_clear P own h xs 0 p.1, flag_clear P own h xs (far i) p.2)

free_of : (i : Instruction) → may_go i ≡ true → IsMarkedSo i false
free_of (sets to of) e = tt
free_of (takes to) e = tt
free_of (assumes test) e = absurd cc
free_of (checks test kind line) e = tt
free_of (skips test by) e = tt

may_where_hidden : (i : Instruction) → IsMarkedSo i false → may_go i ≡ true
may_where_hidden (sets to of) e = refl
may_where_hidden (takes to) e = refl
may_where_hidden (assumes test) e = absurd cc
may_where_hidden (checks test kind line) e = refl
may_where_hidden (skips test by) e = refl

-- a hidden one gets no mark, whatever its flag
stays_hidden : (c m f : Bool) → m ≡ true → f ≡ false → c && not (c && m && not f) ≡ false
stays_hidden false m f a b = refl
stays_hidden true true false a b = refl
stays_hidden true true true a b = absurd cc
stays_hidden true false f a b = absurd cc

-- the first of what stands first is visible
abbrev FirstSeen : Bool → List MarkedInstruction → Type 0
FirstSeen true xs = BeginsVisible xs
FirstSeen false xs = Unit

first_hidden : (f v : Bool) (i : Instruction) (xs : List MarkedInstruction) → FirstSeen f (record { instr = i; visible = v } ∷ xs) → v ≡ false → f ≡ false
first_hidden false v i xs s e = refl
first_hidden true v i xs s e = absurd cc

forth_thins : (P : ℕ → Type 0) (own : Instruction → Bool) → ((i : Instruction) → own i ≡ true → InstructionNamesOnly P i) → (n : ℕ) (first : Bool) (xs : List MarkedInstruction) → IsCodeOf n xs → FirstSeen first xs
    → Thinned P xs (forth own first (back own xs))
unfolding back forth
forth_thins P own h n first [] is s = none
forth_thins P own h n first (x ∷ xs) is s = by x.visible refl (forth_thins P own h n false xs is.3 tt)
  where
    c : Bool
    c = clear_here own x.instr (back own xs)

    Goal : Bool → Type 0
    Goal v = Thinned P (record { instr = x.instr; visible = v } ∷ xs) (record { instr = x.instr; visible = (v || c) && not (c && may_go x.instr && not first) } ∷ forth own false (back own xs))

    by : (v : Bool) → x.visible ≡ v → Thinned P xs (forth own false (back own xs)) → Goal x.visible
    by true e more = subst Goal (sym e) (go (c && may_go x.instr && not first) refl)
      where
        go : (g : Bool) → c && may_go x.instr && not first ≡ g → Thinned P (record { instr = x.instr; visible = true } ∷ xs) (record { instr = x.instr; visible = not (c && may_go x.instr && not first) } ∷ forth own false (back own xs))
        go true g = subst (λ (b : Bool). Thinned P (record { instr = x.instr; visible = true } ∷ xs) (record { instr = x.instr; visible = not b } ∷ forth own false (back own xs))) (sym g)
            (let p = all_three c (may_go x.instr) (not first) g in let q = clear_parts P own h x.instr xs p.0 in taken q.0 q.1 q.2 (free_of x.instr p.1) more)
        go false g = subst (λ (b : Bool). Thinned P (record { instr = x.instr; visible = true } ∷ xs) (record { instr = x.instr; visible = not b } ∷ forth own false (back own xs))) (sym g) (kept more)
    by false e more = subst Goal (sym e) (subst (λ (b : Bool). Thinned P (record { instr = x.instr; visible = false } ∷ xs) (record { instr = x.instr; visible = b } ∷ forth own false (back own xs)))
        (sym (stays_hidden c (may_go x.instr) first (may_where_hidden x.instr (subst (IsMarkedSo x.instr) e is.1)) (first_hidden first x.visible x.instr xs s e))) (kept more))

-- ---- what thinned code keeps

thinned_length : {P : ℕ → Type 0} {xs ys : List MarkedInstruction} → Thinned P xs ys → length ys ≡ length xs
thinned_length none = refl
thinned_length (kept more) = ap suc (thinned_length more)
thinned_length (taken names on skip free more) = ap suc (thinned_length more)

pub thinned_code : {P : ℕ → Type 0} {xs ys : List MarkedInstruction} (n : ℕ) → Thinned P xs ys → IsCodeOf n xs → IsCodeOf n ys
thinned_code n none is = tt
thinned_code n (kept {instr = instr} more) is = (is.0, is.1, subst (λ (k : ℕ). IsForward (suc k) instr) (sym (thinned_length more)) is.2, thinned_code n more is.3)
thinned_code n (taken {instr = instr} names on skip free more) is = (is.0, free, subst (λ (k : ℕ). IsForward (suc k) instr) (sym (thinned_length more)) is.2, thinned_code n more is.3)

pub thinned_weight : {P : ℕ → Type 0} {xs ys : List MarkedInstruction} → Thinned P xs ys → code_weight ys ≤ code_weight xs
thinned_weight none = omega arith
thinned_weight (kept more) = let w = thinned_weight more in omega (arith, w)
thinned_weight (taken names on skip free more) = let w = thinned_weight more in omega (arith, w)

pub thinned_lengths : {P : ℕ → Type 0} {xs ys : List MarkedInstruction} → Thinned P xs ys → CodeHasLengths xs → CodeHasLengths ys
thinned_lengths none h = h
thinned_lengths (kept more) h = (h.0, thinned_lengths more h.1)
thinned_lengths (taken names on skip free more) h = (h.0, thinned_lengths more h.1)

seen : (c m : Bool) → not (c && m && not true) ≡ true
seen true true = refl
seen true false = refl
seen false m = refl

thinned_begins : (own : Instruction → Bool) (xs : List MarkedInstruction) → BeginsVisible xs → BeginsVisible (thinned own xs)
unfolding back forth
thinned_begins own [] v = tt
thinned_begins own (x ∷ xs) v = ap (λ (b : Bool). (b || c) && not (c && may_go x.instr && not true)) v ∙ seen c (may_go x.instr)
  where
    c : Bool
    c = clear_here own x.instr (back own xs)

-- the passes over thread t's code take marks as they may
pub passes_thin : (owner : ℕ → ℕ) (t : ℕ) (own : Instruction → Bool) → ((i : Instruction) → own i ≡ true → InstructionNamesOnly (Own owner t) i) → (n : ℕ) (code : List MarkedInstruction) → IsCodeOf n code → BeginsVisible code
    → Thinned (Own owner t) code (thinned own code) × IsCodeOf n (thinned own code) × BeginsVisible (thinned own code) × (code_weight (thinned own code) ≤ code_weight code) × (CodeHasLengths code → CodeHasLengths (thinned own code))
passes_thin owner t own h n code is begins =
    let thin : Thinned (Own owner t) code (thinned own code) = forth_thins (Own owner t) own h n true code is begins in
    (thin, thinned_code n thin is, thinned_begins own code begins, thinned_weight thin, thinned_lengths thin)
