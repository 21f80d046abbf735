-- One turn of the loops over threads and rounds.
use Rattle.std.proofs.Common.{◌≡◌, ℕ, zero, suc, ◌+◌, ◌-◌, ◌≤◌, ◌<◌, List, [], ◌∷◌, ◌++◌, length, map, get_or, refl, sym, ◌∙◌, ap, subst, arith}
use Rattle.std.proofs.lemmas.List.{append_assoc, append-nil}
use Rattle.lz_flat.specs.FlatRuns.{threads_from, blocks}
use Rattle.lz_lazy.specs.Encoding.{head, encoded, encoded_blocks, encoding}
use Rattle.lz_flat.specs.Programs.{MarkedInstruction, FlatProgram, Statement, code_of, marked, flat_program}
use Rattle.lz_flat.specs.declared.program.Marked.{Marked}
use Rattle.lz_flat.specs.declared.program.Flat.{Flat}

-- the code of a thread, as definitions read it
at_map : (xs : List (List Marked)) (t : ℕ) (code : List Marked) → t < length xs → code ≡ get_or xs t code → get_or (map (λ c. map marked c) xs) t [] ≡ map marked code
at_map [] t code lt e = absurd (let z : ⊥ = omega arith in z)
at_map (x ∷ xs) zero code lt e = ap (map marked) (sym e)
at_map (x ∷ xs) (suc t) code lt e = at_map xs t code (omega arith) e

-- the blocks of threads begin with the block of the first
blocks_step : (flat : FlatProgram) (t : ℕ) (rest : List ℕ)
    → encoded_blocks flat (t ∷ rest) ≡ (head (length flat.first) t (code_of flat t) ++ encoded (length flat.first) t 0 (code_of flat t)) ++ encoded_blocks flat rest
unfolding encoded_blocks
blocks_step flat t rest = refl

-- the threads from one on begin with it
from_here : (t n : ℕ) → t < n → threads_from t (n - t) ≡ t ∷ threads_from (t + 1) (n - (t + 1))
from_here t n lt =
    let one : n - t ≡ suc (n - (t + 1)) = omega arith in
    let next : suc t ≡ t + 1 = omega arith in
    ap (threads_from t) one ∙ ap (λ (k : ℕ). t ∷ threads_from k (n - (t + 1))) next

-- a turn that adds the block of the next thread keeps what is left
pub thread_turn : (flat : Flat) (threads : List (List Marked)) {n t : ℕ} {code : List Marked} (before : List Statement) {after all : List Statement} → threads ≡ flat.threads → n ≡ length flat.first
    → t < length threads → code ≡ get_or threads t code
    → before ++ encoded_blocks (flat_program flat) (threads_from t (length flat.threads - t)) ≡ all
    → after ≡ before ++ (head n t (map marked code) ++ encoded n t 0 (map marked code))
    → after ++ encoded_blocks (flat_program flat) (threads_from (t + 1) (length flat.threads - (t + 1))) ≡ all
thread_turn flat threads {n} {t} {code} before {all} is words lt at old new =
    let lt' : t < length flat.threads = subst (λ (xs : List (List Marked)). t < length xs) is lt in
    let at' : code ≡ get_or flat.threads t code = subst (λ (xs : List (List Marked)). code ≡ get_or xs t code) is at in
    let here : code_of (flat_program flat) t ≡ map marked code = at_map flat.threads t code lt' at' in
    let rest = encoded_blocks (flat_program flat) (threads_from (t + 1) (length flat.threads - (t + 1))) in
    let whole : before ++ encoded_blocks (flat_program flat) (t ∷ threads_from (t + 1) (length flat.threads - (t + 1))) ≡ all =
    subst (λ (ts : List ℕ). before ++ encoded_blocks (flat_program flat) ts ≡ all) (from_here t (length flat.threads) lt') old in
    let apart : before ++ ((head (length flat.first) t (code_of (flat_program flat) t) ++ encoded (length flat.first) t 0 (code_of (flat_program flat) t)) ++ rest) ≡ all =
    ap (λ (x : List Statement). before ++ x) (sym (blocks_step (flat_program flat) t (threads_from (t + 1) (length flat.threads - (t + 1))))) ∙ whole in
    let named : before ++ ((head n t (map marked code) ++ encoded n t 0 (map marked code)) ++ rest) ≡ all =
    subst (λ (k : ℕ). before ++ ((head k t (map marked code) ++ encoded k t 0 (map marked code)) ++ rest) ≡ all) (sym words)
    (subst (λ (c : List MarkedInstruction). before ++ ((head (length flat.first) t c ++ encoded (length flat.first) t 0 c) ++ rest) ≡ all) here apart) in
    subst (λ (x : List Statement). x ++ rest ≡ all) (sym new) (append_assoc before (head n t (map marked code) ++ encoded n t 0 (map marked code)) rest ∙ named)

-- at the end nothing is left of the round
pub threads_done : (flat : Flat) (threads : List (List Marked)) {t : ℕ} {before all : List Statement} → threads ≡ flat.threads → length threads ≤ t
    → before ++ encoded_blocks (flat_program flat) (threads_from t (length flat.threads - t)) ≡ all → before ≡ all
unfolding encoded_blocks
threads_done flat threads {t} {before} {all} is h old =
    let h' : length flat.threads ≤ t = subst (λ (xs : List (List Marked)). length xs ≤ t) is h in
    let none : length flat.threads - t ≡ 0 = omega arith in
    sym (append-nil before) ∙ subst (λ (k : ℕ). before ++ encoded_blocks (flat_program flat) (threads_from t k) ≡ all) none old

-- the blocks of two lists of threads stand one behind the other
blocks_append : (flat : FlatProgram) (xs ys : List ℕ) → encoded_blocks flat (xs ++ ys) ≡ encoded_blocks flat xs ++ encoded_blocks flat ys
unfolding encoded_blocks
blocks_append flat [] ys = refl
blocks_append flat (t ∷ xs) ys =
    let block = head (length flat.first) t (code_of flat t) ++ encoded (length flat.first) t 0 (code_of flat t) in
    ap (λ (x : List Statement). block ++ x) (blocks_append flat xs ys) ∙ sym (append_assoc block (encoded_blocks flat xs) (encoded_blocks flat ys))

-- so many rounds are left
abbrev pub rounds_left : Flat → ℕ → List Statement
rounds_left flat rounds = encoded_blocks (flat_program flat) (blocks rounds (length flat.threads))

-- a turn that adds a round keeps what is left
pub round_turn : (flat : Flat) {r rounds : ℕ} (before : List Statement) {after all : List Statement} → r < rounds
    → before ++ rounds_left flat (rounds - r) ≡ all → after ≡ before ++ encoded_blocks (flat_program flat) (threads_from 0 (length flat.threads))
    → after ++ rounds_left flat (rounds - (r + 1)) ≡ all
round_turn flat {r} {rounds} before {all} lt old new =
    let one : rounds - r ≡ suc (rounds - (r + 1)) = omega arith in
    let whole : before ++ rounds_left flat (suc (rounds - (r + 1))) ≡ all = subst (λ (k : ℕ). before ++ rounds_left flat k ≡ all) one old in
    let apart = ap (λ (x : List Statement). before ++ x) (blocks_append (flat_program flat) (threads_from 0 (length flat.threads)) (blocks (rounds - (r + 1)) (length flat.threads))) in
    subst (λ (x : List Statement). x ++ rounds_left flat (rounds - (r + 1)) ≡ all) (sym new)
    (append_assoc before (encoded_blocks (flat_program flat) (threads_from 0 (length flat.threads))) (rounds_left flat (rounds - (r + 1))) ∙ sym apart ∙ whole)

-- a program has as many threads as definitions read
length_mapped : (xs : List (List Marked)) → length xs ≡ length (map (λ (c : List Marked). map marked c) xs)
length_mapped [] = refl
length_mapped (x ∷ xs) = ap suc (length_mapped xs)

-- at the end all rounds stand
pub rounds_done : (flat : Flat) (r rounds : ℕ) (before : List Statement) → rounds ≤ r → before ++ rounds_left flat (rounds - r) ≡ rounds_left flat rounds → before ≡ encoding (flat_program flat) rounds
unfolding encoded_blocks
rounds_done flat r rounds before h old =
    let none : rounds - r ≡ 0 = omega arith in
    let left : before ++ rounds_left flat 0 ≡ rounds_left flat rounds = subst (λ (k : ℕ). before ++ rounds_left flat k ≡ rounds_left flat rounds) none old in
    sym (append-nil before) ∙ left
    ∙ ap (λ (k : ℕ). encoded_blocks (flat_program flat) (blocks rounds k)) (length_mapped flat.threads)
