-- The values of tests, and what instructions do.
use Rattle.std.proofs.Common.{◌≡◌, ℕ, suc, ◌+◌, Bool, true, false, not, ◌&&◌, ◌||◌, cond, List, [], ◌∷◌, eqb, refl, ap, arith}
use Rattle.std.specs.Prelude.{slice_index, slice_set}
use Rattle.std.proofs.lemmas.Bool.{eqb-true, lt-ltb}
use Rattle.lz_base.specs.Words.{truth, is_true}
use Rattle.lz_base.specs.declared.word.BreakKind.{BreakKind}
use Rattle.lz_flat.specs.Programs.{Expression, constant, word, element, Location, Instruction, sets, assumes, checks}
use Rattle.lz_flat.specs.Instructions.{value, put, moved, blocked, broke, did}
use Rattle.lz_flat.specs.Running.{runs}
use Rattle.lz_sync.specs.Operations.{spot_of, IsIndexed}
use Rattle.lz_sync.specs.Groups.{fixed, spot_word, spot_at, both, either, equal, no}

-- ---- tests
pub value_both : (x y : Expression) (m : List ℕ) (a b : Bool) → value x m ≡ truth a → value y m ≡ truth b → value (both x y) m ≡ truth (a && b)
unfolding value
value_both x y m a b e f = rw (e, f) (by a b)
  where
    by : (a b : Bool) → truth (is_true (truth a) && is_true (truth b)) ≡ truth (a && b)
    by true true = refl
    by true false = refl
    by false true = refl
    by false false = refl

pub value_either : (x y : Expression) (m : List ℕ) (a b : Bool) → value x m ≡ truth a → value y m ≡ truth b → value (either x y) m ≡ truth (a || b)
unfolding value
value_either x y m a b e f = rw (e, f) (by a b)
  where
    by : (a b : Bool) → truth (is_true (truth a) || is_true (truth b)) ≡ truth (a || b)
    by true true = refl
    by true false = refl
    by false true = refl
    by false false = refl

pub value_equal : (x y : Expression) (m : List ℕ) (a b : ℕ) → value x m ≡ a → value y m ≡ b → value (equal x y) m ≡ truth (eqb a b)
unfolding value
value_equal x y m a b e f = rw (e, f) refl

pub value_no : (x : Expression) (m : List ℕ) (a : ℕ) → value x m ≡ a → value (no x) m ≡ truth (eqb a 0)
unfolding value
value_no x m a e = rw e refl

pub value_word : (place : ℕ) (m : List ℕ) → value (word place) m ≡ slice_index m place
unfolding value
value_word place m = refl

pub value_constant : (v : ℕ) (m : List ℕ) → value (constant v) m ≡ v
unfolding value
value_constant v m = refl

pub truth_zero : (a : Bool) → eqb (truth a) 0 ≡ not a
truth_zero true = refl
truth_zero false = refl

-- ---- spots
pub value_spot : (from : ℕ) (spot : Location) (m : List ℕ) → IsIndexed spot m → value (spot_word from spot) m ≡ slice_index m (from + spot_of spot m)
unfolding value
value_spot from spot m lt = by (eqb spot.len 1) refl
  where
    by : (b : Bool) → eqb spot.len 1 ≡ b → value (cond b (word (from + spot.first)) (element (from + spot.first) spot.len spot.index)) m ≡ slice_index m (from + spot_of spot m)
    by true e = let one : spot.len ≡ 1 = eqb-true spot.len 1 e in ap (λ (p : ℕ). slice_index m p) (let z : from + spot.first ≡ from + (spot.first + value spot.index m) = omega (arith, one, lt) in z)
    by false e = rw (lt-ltb (value spot.index m) spot.len lt) (ap (λ (p : ℕ). slice_index m p) (let z : from + spot.first + value spot.index m ≡ from + (spot.first + value spot.index m) = omega arith in z))

pub put_fixed : (place v : ℕ) (m : List ℕ) → put (fixed place) v m ≡ slice_set m place v
unfolding put value
put_fixed place v m = ap (λ (p : ℕ). slice_set m p v) (let z : place + 0 ≡ place = omega arith in z)

pub put_spot : (from : ℕ) (spot : Location) (v : ℕ) (m : List ℕ) → IsIndexed spot m → put (spot_at from spot) v m ≡ slice_set m (from + spot_of spot m) v
unfolding put value
put_spot from spot v m lt = by (eqb spot.len 1) refl
  where
    by : (b : Bool) → eqb spot.len 1 ≡ b → put (cond b (fixed (from + spot.first)) (record { first = from + spot.first; len = spot.len; index = spot.index })) v m ≡ slice_set m (from + spot_of spot m) v
    by true e = let one : spot.len ≡ 1 = eqb-true spot.len 1 e in ap (λ (p : ℕ). slice_set m p v) (let z : from + spot.first + 0 ≡ from + (spot.first + value spot.index m) = omega (arith, one, lt) in z)
    by false e = rw (lt-ltb (value spot.index m) spot.len lt) (ap (λ (p : ℕ). slice_set m p v) (let z : from + spot.first + value spot.index m ≡ from + (spot.first + value spot.index m) = omega arith in z))

-- ---- instructions, one after the other
pub runs_assume : (test : Expression) (rest : List Instruction) (input : ℕ → ℕ) (l : ℕ) (m : List ℕ) (b : Bool) → value test m ≡ truth b → runs input l (assumes test ∷ rest) m ≡ cond b (runs input (suc l) rest m) blocked
unfolding runs did
runs_assume test rest input l m true e = rw e refl
runs_assume test rest input l m false e = rw e refl

pub runs_check : (test : Expression) (kind : BreakKind) (line : ℕ) (rest : List Instruction) (input : ℕ → ℕ) (l : ℕ) (m : List ℕ) (b : Bool) → value test m ≡ truth b
    → runs input l (checks test kind line ∷ rest) m ≡ cond b (runs input (suc l) rest m) (broke kind line)
unfolding runs did
runs_check test kind line rest input l m true e = rw e refl
runs_check test kind line rest input l m false e = rw e refl

pub runs_set : (to : Location) (of : Expression) (rest : List Instruction) (input : ℕ → ℕ) (l : ℕ) (m after : List ℕ) (v : ℕ) → value of m ≡ v → put to v m ≡ after
    → runs input l (sets to of ∷ rest) m ≡ runs input (suc l) rest after
unfolding runs did
runs_set to of rest input l m after v e f = rw (e, f) refl

pub runs_none : (input : ℕ → ℕ) (l : ℕ) (m : List ℕ) → runs input l [] m ≡ moved 0 m
unfolding runs
runs_none input l m = refl
