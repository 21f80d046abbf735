-- What stands behind the words of a program does not matter to its code, and an instruction keeps their number.
use Rattle.std.proofs.Common.{◌≡◌, ℕ, ◌+◌, ◌<◌, Bool, true, false, cond, List, ◌++◌, length, nat_lt, refl, ◌∙◌, arith}
use Rattle.std.specs.Prelude.{slice_index, slice_set, ◌==◌, if◌then◌else◌, ⊤}
use Rattle.std.proofs.lemmas.List.{get_or_append_left, set-append_left, length-set}
use Rattle.lz_flat.specs.Programs.{Expression, constant, word, element, unary, binary, convert, choose, Location, Instruction, sets, takes, assumes, checks, skips}
use Rattle.lz_flat.specs.Instructions.{value, put, Did, moved, blocked, broke, did}
use Rattle.lz_flat.specs.WellFormed.{IsExpressionOf, IsLocationOf, IsInstructionOf}

-- ---- what stands behind the words of a program does not matter to its code

-- an element reads the same where words are added behind
within : (n first len : ℕ) (i : ℕ) (words rest : List ℕ) (b : Bool) → nat_lt i len ≡ b → length words ≡ n → ((k : ℕ) → k < len → first + k < n)
    → (if b then slice_index (words ++ rest) (first + i) else 0) ≡ (if b then slice_index words (first + i) else 0)
within n first len i words rest true e long h = let lt : i < len = grind arith in let small : first + i < length words = let s = h i lt in omega arith in get_or_append_left words rest 0 (first + i) small
within n first len i words rest false e long h = refl

-- an expression has the same value where words are added behind
pub value_laid : (n : ℕ) (e : Expression) (words rest : List ℕ) → length words ≡ n → IsExpressionOf n e → value e (words ++ rest) ≡ value e words
unfolding value
value_laid n (constant v) words rest long is = refl
value_laid n (word place) words rest long is = get_or_append_left words rest 0 place (omega arith)
value_laid n (element first len index) words rest long is =
    rw (value_laid n index words rest long is.1) (within n first len (value index words) words rest (nat_lt (value index words) len) refl long is.0)
value_laid n (unary op kind of) words rest long is = rw (value_laid n of words rest long is) refl
value_laid n (convert from to of) words rest long is = rw (value_laid n of words rest long is) refl
value_laid n (binary op kind left right) words rest long is =
    rw (value_laid n left words rest long is.0, value_laid n right words rest long is.1) refl
value_laid n (choose test chosen other) words rest long is =
    rw (value_laid n test words rest long is.0, value_laid n chosen words rest long is.1, value_laid n other words rest long is.2) refl

-- a write leaves words that are added behind as they are
set_within : (n first len : ℕ) (i v : ℕ) (words rest : List ℕ) (b : Bool) → nat_lt i len ≡ b → length words ≡ n → ((k : ℕ) → k < len → first + k < n)
    → (if b then slice_set (words ++ rest) (first + i) v else words ++ rest) ≡ (if b then slice_set words (first + i) v else words) ++ rest
set_within n first len i v words rest true e long h = let lt : i < len = grind arith in let small : first + i < length words = let s = h i lt in omega arith in set-append_left words rest (first + i) v small
set_within n first len i v words rest false e long h = refl

-- a write by a location leaves words that are added behind as they are
pub put_laid : (n : ℕ) (to : Location) (v : ℕ) (words rest : List ℕ) → length words ≡ n → IsLocationOf n to → put to v (words ++ rest) ≡ put to v words ++ rest
unfolding put
put_laid n to v words rest long is =
    rw (value_laid n to.index words rest long is.1) (set_within n to.first to.len (value to.index words) v words rest (nat_lt (value to.index words) to.len) refl long is.0)

-- either of two lists of one length has that length
length_cond : (b : Bool) (xs ys : List ℕ) → length xs ≡ length ys → length (cond b xs ys) ≡ length ys
length_cond true xs ys e = e
length_cond false xs ys e = refl

-- a write keeps the number of words
pub length_put : (to : Location) (v : ℕ) (words : List ℕ) → length (put to v words) ≡ length words
unfolding put
length_put to v words = length_cond (nat_lt (value to.index words) to.len) (slice_set words (to.first + value to.index words) v) words (length-set words (to.first + value to.index words) v)

-- what an instruction does, with words added behind
abbrev pub extended : List ℕ → Did → Did
extended rest (moved over memory) = moved over (memory ++ rest)
extended rest blocked = blocked
extended rest (broke kind line) = broke kind line

-- a choice between two, with words added behind
extended_cond : (b : Bool) (rest : List ℕ) (d e : Did) → cond b (extended rest d) (extended rest e) ≡ extended rest (cond b d e)
extended_cond true rest d e = refl
extended_cond false rest d e = refl

-- an instruction does the same where words are added behind
pub did_laid : (n : ℕ) (i : Instruction) (input : ℕ) (words rest : List ℕ) → length words ≡ n → IsInstructionOf n i → did i input (words ++ rest) ≡ extended rest (did i input words)
unfolding did
did_laid n (sets to of) input words rest long is =
    rw (value_laid n of words rest long is.1, put_laid n to (value of words) words rest long is.0) refl
did_laid n (takes to) input words rest long is = rw (put_laid n to input words rest long is) refl
did_laid n (assumes test) input words rest long is =
    rw (value_laid n test words rest long is) (extended_cond (value test words == 0) rest blocked (moved 0 words))
did_laid n (checks test kind line) input words rest long is =
    rw (value_laid n test words rest long is) (extended_cond (value test words == 0) rest (broke kind line) (moved 0 words))
did_laid n (skips test by) input words rest long is = rw (value_laid n test words rest long is) refl

-- the number of words stays
abbrev pub KeepsLength : ℕ → Did → Type 0
KeepsLength n (moved over memory) = length memory ≡ n
KeepsLength n blocked = ⊤
KeepsLength n (broke kind line) = ⊤

-- a choice keeps the number of words where both sides do
keeps_cond : (n : ℕ) (b : Bool) (d e : Did) → KeepsLength n d → KeepsLength n e → KeepsLength n (cond b d e)
keeps_cond n true d e h k = h
keeps_cond n false d e h k = k

-- an instruction keeps the number of words
pub did_keeps_length : (n : ℕ) (i : Instruction) (input : ℕ) (words : List ℕ) → length words ≡ n → KeepsLength n (did i input words)
unfolding did
did_keeps_length n (sets to of) input words long = length_put to (value of words) words ∙ long
did_keeps_length n (takes to) input words long = length_put to input words ∙ long
did_keeps_length n (assumes test) input words long = keeps_cond n (value test words == 0) blocked (moved 0 words) tt long
did_keeps_length n (checks test kind line) input words long = keeps_cond n (value test words == 0) (broke kind line) (moved 0 words) tt long
did_keeps_length n (skips test by) input words long = long
