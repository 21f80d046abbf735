-- One turn of a run of a straight program, and its end.
use Rattle.std.proofs.Common.{◌≡◌, ◌≢◌, ℕ, zero, suc, ◌+◌, ◌≤◌, ◌<◌, inl, inr, Bool, true, false, List, [], ◌∷◌, length, map, drop, get_or, eqb, All, Ok, Err, refl, sym, ◌∙◌, ap, subst, arith}
use Rattle.std.specs.List.{AllByRecursion}
use Rattle.std.proofs.lemmas.List.{drop_more, drop_all}
use Rattle.std.proofs.lemmas.Bool.{eqb-true}
use Rattle.lz_base.specs.declared.word.BreakKind.{BreakKind}
use Rattle.lz_flat.specs.declared.perform.Halt.TheVariants as halts
use Rattle.lz_flat.specs.declared.program.Guarded.{Guarded}
use Rattle.lz_flat.specs.Programs.{Statement, statement}
use Rattle.lz_flat.specs.Instructions.{value, did}
use Rattle.lz_flat.specs.StraightRuns.{still, stops, fails, fate_behind, straight}
use Rattle.lz_flat.specs.WellFormed.{IsWord, IsStatementOf}
use Rattle.lz_flat.specs.Steps.{PerformsGuarded}

-- a statement whose guard is 0, and one whose guard is not
pub straight_passed : (input : ℕ → ℕ) (i : ℕ) (first : Statement) (rest : List Statement) (memory : List ℕ) → value first.guard memory ≡ 0
    → straight input i (first ∷ rest) memory ≡ straight input (suc i) rest memory
unfolding straight
straight_passed input i first rest memory e = rw e refl

-- a word that is not 0 differs from 0
pub differs : (v : ℕ) → v ≢ 0 → eqb v 0 ≡ false
differs v h = decide (eqb v 0) refl
  where
    decide : (b : Bool) → eqb v 0 ≡ b → eqb v 0 ≡ false
    decide true e = absurd (h (eqb-true v 0 e))
    decide false e = e

-- a statement whose guard is not 0 does what its instruction does
pub straight_taken : (input : ℕ → ℕ) (i : ℕ) (first : Statement) (rest : List Statement) (memory : List ℕ) → value first.guard memory ≢ 0
    → straight input i (first ∷ rest) memory ≡ fate_behind (did first.instr (input i) memory) (straight input (suc i) rest)
unfolding straight
straight_taken input i first rest memory h = rw (differs (value first.guard memory) h) refl

-- What is left from statement i on comes to what the whole comes to.
pub record RunsFrom (list : List Guarded) (first : List ℕ) (input : ℕ → ℕ) (i : ℕ) (memory : List ℕ) : Type 0 where
  pub same : straight input i (map statement (drop i list)) memory ≡ straight input 0 (map statement list) first
  pub words : All IsWord memory
  pub size : length memory ≡ length first

-- the next statement is one of the program
pub statement_at : (n : ℕ) (list : List Guarded) (i : ℕ) (next : Guarded) → AllByRecursion (IsStatementOf n) (map statement list) → i < length list → next ≡ get_or list i next → IsStatementOf n (statement next)
statement_at n [] i next all lt e = absurd (let z : ⊥ = omega arith in z)
statement_at n (x ∷ xs) zero next all lt e = rw e all.0
statement_at n (x ∷ xs) (suc i) next all lt e = statement_at n xs i next all.1 (omega arith) e

-- from here on the run is the statement at this place and those behind it
at_next : (list : List Guarded) (first : List ℕ) (input : ℕ → ℕ) (i : ℕ) (memory : List ℕ) (next : Guarded) → RunsFrom list first input i memory → i < length list → next ≡ get_or list i next
    → straight input i (statement next ∷ map statement (drop (i + 1) list)) memory ≡ straight input 0 (map statement list) first
at_next list first input i memory next runs lt e =
    let more : drop i list ≡ next ∷ drop (i + 1) list = drop_more list i next lt ∙ ap (λ (x : Guarded). x ∷ drop (i + 1) list) (sym e) in
    subst (λ (part : List Guarded). straight input i (map statement part) memory ≡ straight input 0 (map statement list) first) more runs.same

-- a statement that moves on leaves the run from the next on
pub moves : {list : List Guarded} {first : List ℕ} {input : ℕ → ℕ} {i : ℕ} {memory after : List ℕ} (next : Guarded) (over : ℕ) → RunsFrom list first input i memory → i < length list → next ≡ get_or list i next
    → PerformsGuarded (statement next) (input i) memory after (Ok over) → All IsWord after → length after ≡ length memory → RunsFrom list first input (i + 1) after
moves {list} {first} {input} {i} {memory} {after} next over runs lt e performs words size = record {
  same = subst (λ (k : ℕ). straight input k rest after ≡ straight input 0 (map statement list) first) (let z : suc i ≡ i + 1 = omega arith in z) (behind performs);
  words = words;
  size = size ∙ runs.size;
}
  where
    rest : List Statement
    rest = map statement (drop (i + 1) list)

    here : straight input i (statement next ∷ rest) memory ≡ straight input 0 (map statement list) first
    here = at_next list first input i memory next runs lt e

    behind : PerformsGuarded (statement next) (input i) memory after (Ok over) → straight input (suc i) rest after ≡ straight input 0 (map statement list) first
    behind (inl idle) = subst (λ (m : List ℕ). straight input (suc i) rest m ≡ straight input 0 (map statement list) first) (sym idle.1)
        (sym (straight_passed input i (statement next) rest memory idle.0) ∙ here)
    behind (inr runs) =
        sym (straight_taken input i (statement next) rest memory runs.0 ∙ rw runs.1 refl) ∙ here

-- one that is blocked stops the run
pub stops_here : {list : List Guarded} {first : List ℕ} {input : ℕ → ℕ} {i : ℕ} {memory : List ℕ} (after : List ℕ) (next : Guarded) → RunsFrom list first input i memory → i < length list → next ≡ get_or list i next
    → PerformsGuarded (statement next) (input i) memory after (Err halts.Blocked) → straight input 0 (map statement list) first ≡ fails → ⊥
stops_here {list} {first} {input} {i} {memory} after next runs lt e performs failed =
    let rest = map statement (drop (i + 1) list) in
    let ran : straight input i (statement next ∷ rest) memory ≡ stops = straight_taken input i (statement next) rest memory performs.0 ∙ rw performs.1 refl in
    let whole = at_next list first input i memory next runs lt e in
    cc

-- one that breaks fails it
pub fails_here : {list : List Guarded} {first : List ℕ} {input : ℕ → ℕ} {i : ℕ} {memory : List ℕ} (after : List ℕ) (next : Guarded) (kind : BreakKind) (line : ℕ) → RunsFrom list first input i memory → i < length list → next ≡ get_or list i next
    → PerformsGuarded (statement next) (input i) memory after (Err (halts.Broke kind line)) → straight input 0 (map statement list) first ≡ fails
fails_here {list} {first} {input} {i} {memory} after next kind line runs lt e performs =
    let rest = map statement (drop (i + 1) list) in
    let ran : straight input i (statement next ∷ rest) memory ≡ fails = straight_taken input i (statement next) rest memory performs.0 ∙ rw performs.1 refl in
    sym (at_next list first input i memory next runs lt e) ∙ ran

-- a run that comes to the end has not failed
pub holds_at_end : {list : List Guarded} {first : List ℕ} {input : ℕ → ℕ} {i : ℕ} {memory : List ℕ} → RunsFrom list first input i memory → length list ≤ i → straight input 0 (map statement list) first ≡ fails → ⊥
unfolding straight
holds_at_end {list} {first} {input} {i} {memory} runs h failed =
    let none : drop i list ≡ [] = drop_all i list h in
    let left : still memory ≡ straight input 0 (map statement list) first = subst (λ (part : List Guarded). straight input i (map statement part) memory ≡ straight input 0 (map statement list) first) none runs.same in
    cc
