-- The node `fails` of a straight program is not 0 exactly where the program fails.
use Rattle.std.proofs.Common.{◌≡◌, ◌≢◌, ℕ, zero, suc, ◌+◌, ◌*◌, ◌≤◌, ◌<◌, List, [], ◌∷◌, length, map, slice_index, refl, sym, ◌∙◌, ap, subst, arith}
use Rattle.std.specs.Prelude.{◌↔◌}
use Rattle.std.specs.List.{AllByRecursion}
use Rattle.lz_base.specs.Words.{value_bound}
use Rattle.lz_base.specs.declared.word.IntType.TheVariants.{Unsigned}
use Rattle.lz_flat.specs.Programs.{Expression, Instruction, sets, takes, assumes, checks, skips, Statement, StraightProgram}
use Rattle.lz_flat.specs.Instructions.{did}
use Rattle.lz_flat.specs.StraightRuns.{Fate, still, fails, straight}
use Rattle.lz_flat.specs.WellFormed.{IsWord, IsExpressionOf, IsInstructionOf, IsStatementOf, IsWellFormed}
use Rattle.lz_flat.specs.Weight.{expression_weight, location_weight, statement_weight, list_weight, straight_weight}
use Rattle.lz_ssa.specs.declared.node.Node.TheVariants as nodes
use Rattle.lz_ssa.specs.declared.draft.Held.{Held}
use Rattle.lz_ssa.specs.declared.draft.Held.TheVariants.{First}
use Rattle.lz_ssa.specs.NodeValues.{values_from, AreNodesFrom, AreWellFormed}
use Rattle.lz_ssa.specs.NodeWeight.{nodes_weight}
use Rattle.lz_ssa.specs.Assignment.{FailsAsStraight}
use Rattle.lz_ssa.specs.Construction.{Drawn, With, add, expression_node, Progress, instruction_made, statement_made, statements_made, begin, constructed}
use Rattle.lz_ssa.proofs.ValueLemmas.{AreWords}
use Rattle.lz_ssa.proofs.DraftLemmas.{word_at, memory_of, held_word, IsHeldOf, Sound, add_gives}
use Rattle.lz_ssa.proofs.ExpressionLemmas.{gives_words, value_in, expression_gives, moved_back}
use Rattle.lz_ssa.proofs.StatementLemmas.{Left, lost, dead, goes, Stated, guarded_by, set_stated, assume_stated, check_stated}

-- a statement, with what it weighs
record StatedBy (inputs : ℕ) (before after : Progress) (i : ℕ) (first : Statement) : Type 0 where
  pub weight : ℕ
  pub stated : Stated inputs before after i first weight
  pub weighs : weight + 4 ≤ statement_weight first

-- what a progress keeps
pub record Ready (inputs n : ℕ) (p : Progress) : Type 0 where
  pub sound : Sound inputs p.drawn
  pub words : length p.drawn.words ≡ n
  pub alive : p.alive < length p.drawn.list
  pub failed : p.failed < length p.drawn.list

-- an instruction under its guard leads from one progress to the next
instruction_stated : (inputs n i : ℕ) (guard : Expression) (instr : Instruction) (p : Progress) → Ready inputs n p → n ≤ 4294967296 → IsStatementOf n (record { guard = guard; instr = instr }) → i < inputs
    → StatedBy inputs p (instruction_made i instr p.alive p.failed (expression_node guard p.drawn)) i (record { guard = guard; instr = instr })
unfolding instruction_made did
instruction_stated inputs n i guard (sets to of) p ready short is lt =
    let d : Drawn = p.drawn in
    let g : With = expression_node guard d in
    let same = ready.words in
    let gg = expression_gives inputs guard d ready.sound (omega (arith, same)) (subst (λ (k : ℕ). IsExpressionOf k guard) (sym same) is.0) in
    let words : length g.drawn.words ≡ length d.words = gives_words inputs d g (value_in guard d) (expression_weight guard) gg in
    let v : With = expression_node of g.drawn in
    let gv = moved_back inputs d g.drawn v of (expression_weight of) gg.memory
    (expression_gives inputs of g.drawn gg.grows.sound (omega (arith, words, same)) (subst (λ (k : ℕ). IsExpressionOf k of) (sym (words ∙ same)) is.1.1)) in
    let under = guarded_by inputs (expression_weight guard) (expression_weight of) d g v (value_in guard d) (value_in of d) gg gv in
    record {
      weight = expression_weight guard + expression_weight of + location_weight to;
      stated = set_stated inputs d p.alive p.failed i to (record { guard = guard; instr = sets to of }) g v (value_in of d) (expression_weight guard + expression_weight of) (omega (arith, same))
          (gives_words inputs g.drawn v (value_in of d) (expression_weight of) gv ∙ words) ready.alive ready.failed under (subst (λ (k : ℕ). IsInstructionOf k (takes to)) (sym same) is.1.0) (λ input. refl);
      weighs = omega arith;
    }
instruction_stated inputs n i guard (takes to) p ready short is lt =
    let d : Drawn = p.drawn in
    let g : With = expression_node guard d in
    let same = ready.words in
    let gg = expression_gives inputs guard d ready.sound (omega (arith, same)) (subst (λ (k : ℕ). IsExpressionOf k guard) (sym same) is.0) in
    let words : length g.drawn.words ≡ length d.words = gives_words inputs d g (value_in guard d) (expression_weight guard) gg in
    let v : With = add (nodes.Input i Unsigned) g.drawn in
    let gv = add_gives inputs g.drawn (nodes.Input i Unsigned) (λ input. input i) gg.grows.sound lt (λ input small. refl) in
    let under = guarded_by inputs (expression_weight guard) 34 d g v (value_in guard d) (λ input. input i) gg gv in
    record {
      weight = expression_weight guard + 34 + location_weight to;
      stated = set_stated inputs d p.alive p.failed i to (record { guard = guard; instr = takes to }) g v (λ input. input i) (expression_weight guard + 34) (omega (arith, same))
          words ready.alive ready.failed under (subst (λ (k : ℕ). IsInstructionOf k (takes to)) (sym same) is.1) (λ input. refl);
      weighs = omega arith;
    }
instruction_stated inputs n i guard (assumes test) p ready short is lt =
    let d : Drawn = p.drawn in
    let g : With = expression_node guard d in
    let same = ready.words in
    let gg = expression_gives inputs guard d ready.sound (omega (arith, same)) (subst (λ (k : ℕ). IsExpressionOf k guard) (sym same) is.0) in
    let words : length g.drawn.words ≡ length d.words = gives_words inputs d g (value_in guard d) (expression_weight guard) gg in
    let t : With = expression_node test g.drawn in
    let gt = moved_back inputs d g.drawn t test (expression_weight test) gg.memory
    (expression_gives inputs test g.drawn gg.grows.sound (omega (arith, words, same)) (subst (λ (k : ℕ). IsExpressionOf k test) (sym (words ∙ same)) is.1)) in
    let under = guarded_by inputs (expression_weight guard) (expression_weight test) d g t (value_in guard d) (value_in test d) gg gt in
    record {
      weight = expression_weight guard + expression_weight test + 8;
      stated = assume_stated inputs d p.alive p.failed i guard test g t (expression_weight guard + expression_weight test) (gives_words inputs g.drawn t (value_in test d) (expression_weight test) gt ∙ words) ready.alive ready.failed under;
      weighs = omega arith;
    }
instruction_stated inputs n i guard (checks test kind line) p ready short is lt =
    let d : Drawn = p.drawn in
    let g : With = expression_node guard d in
    let same = ready.words in
    let gg = expression_gives inputs guard d ready.sound (omega (arith, same)) (subst (λ (k : ℕ). IsExpressionOf k guard) (sym same) is.0) in
    let words : length g.drawn.words ≡ length d.words = gives_words inputs d g (value_in guard d) (expression_weight guard) gg in
    let t : With = expression_node test g.drawn in
    let gt = moved_back inputs d g.drawn t test (expression_weight test) gg.memory
    (expression_gives inputs test g.drawn gg.grows.sound (omega (arith, words, same)) (subst (λ (k : ℕ). IsExpressionOf k test) (sym (words ∙ same)) is.1)) in
    let under = guarded_by inputs (expression_weight guard) (expression_weight test) d g t (value_in guard d) (value_in test d) gg gt in
    record {
      weight = expression_weight guard + expression_weight test + 11;
      stated = check_stated inputs d p.alive p.failed i guard test kind line g t (expression_weight guard + expression_weight test) (gives_words inputs g.drawn t (value_in test d) (expression_weight test) gt ∙ words) ready.alive ready.failed under;
      weighs = omega arith;
    }
instruction_stated inputs n i guard (skips test by) p ready short is lt = absurd is.2

-- so does a statement
statement_stated : (inputs n i : ℕ) (s : Statement) (p : Progress) → Ready inputs n p → n ≤ 4294967296 → IsStatementOf n s → i < inputs → StatedBy inputs p (statement_made i s p) i s
unfolding statement_made
statement_stated inputs n i s p ready short is lt = instruction_stated inputs n i s.guard s.instr p ready short is lt

-- ---- all statements

-- The statements led from one progress to another.
pub record Finished (inputs n : ℕ) (p q : Progress) (i : ℕ) (list : List Statement) : Type 0 where
  pub ready : Ready inputs n q
  pub weighs : nodes_weight q.drawn.list + 4 * length list ≤ nodes_weight p.drawn.list + list_weight list
  pub keeps : (input : ℕ → ℕ) → AreWords input → (whole : Fate)
      → Left (word_at input p.drawn p.alive) (word_at input p.drawn p.failed) (memory_of input p.drawn) input i list whole
      → Left (word_at input q.drawn q.alive) (word_at input q.drawn q.failed) (memory_of input q.drawn) input (i + length list) [] whole

-- and so do statements, one after the other
pub statements_finish : (inputs n i : ℕ) (list : List Statement) (p : Progress) → Ready inputs n p → n ≤ 4294967296 → AllByRecursion (IsStatementOf n) list → i + length list ≡ inputs → Finished inputs n p (statements_made i list p) i list
unfolding statements_made
statements_finish inputs n i [] p ready short is all = record {
  ready = ready;
  weighs = omega arith;
  keeps = λ input small whole left. subst (λ (k : ℕ). Left (word_at input p.drawn p.alive) (word_at input p.drawn p.failed) (memory_of input p.drawn) input k [] whole) (let z : i ≡ i + 0 = omega arith in z) left;
}
statements_finish inputs n i (s ∷ rest) p ready short is all =
    let one = statement_stated inputs n i s p ready short is.0 (omega arith) in
    let q : Progress = statement_made i s p in
    let next : Ready inputs n q = record { sound = one.stated.grows.sound; words = one.stated.words ∙ ready.words; alive = one.stated.alive; failed = one.stated.failed } in
    let later = statements_finish inputs n (suc i) rest q next short is.1 (omega arith) in
    record {
      ready = later.ready;
      weighs = let a = one.weighs in let b = one.stated.grows.weighs in let c = later.weighs in omega (arith, a, b, c);
      keeps = λ input small whole left. subst (λ (k : ℕ). Left (word_at input (statements_made (suc i) rest q).drawn (statements_made (suc i) rest q).alive) (word_at input (statements_made (suc i) rest q).drawn (statements_made (suc i) rest q).failed) (memory_of input (statements_made (suc i) rest q).drawn) input k [] whole)
          (let z : suc i + length rest ≡ i + suc (length rest) = omega arith in z)
          (later.keeps input small whole (one.stated.keeps input small rest whole left));
    }

-- ---- the beginning

-- first values are words
first_held : (n : ℕ) (first : List ℕ) → AllByRecursion IsWord first → AllByRecursion (IsHeldOf n) (map (λ v. First v) first)
first_held n [] all = tt
first_held n (v ∷ rest) all = (all.0, first_held n rest all.1)

-- first values stand for themselves
first_memory : (words first : List ℕ) → map (held_word words) (map (λ v. First v) first) ≡ first
first_memory words [] = refl
first_memory words (v ∷ rest) = ap (λ (t : List ℕ). v ∷ t) (first_memory words rest)

-- there are as many held words as first values
first_length : (first : List ℕ) → length {A = Held} (map (λ v. First v) first) ≡ length first
first_length [] = refl
first_length (v ∷ rest) = ap suc (first_length rest)

-- before the first statement
pub record Begun (inputs : ℕ) (first : List ℕ) : Type 0 where
  pub ready : Ready inputs (length first) (begin first)
  pub weighs : nodes_weight (begin first).drawn.list ≡ 4
  pub left : (input : ℕ → ℕ) (list : List Statement) → Left (word_at input (begin first).drawn (begin first).alive) (word_at input (begin first).drawn (begin first).failed) (memory_of input (begin first).drawn) input 0 list (straight input 0 list first)

-- the beginning is ready, weighs 4, and goes on with the first values
pub begun : (inputs : ℕ) (first : List ℕ) → AllByRecursion IsWord first → Begun inputs first
unfolding begin memory_of AreNodesFrom values_from
begun inputs first all = record {
  ready = record {
    sound = record { formed = ((let z : 1 < value_bound = omega arith in z), ((let z : 0 < value_bound = omega arith in z), tt)); held = first_held 2 first all };
    words = first_length first;
    alive = omega arith;
    failed = omega arith;
  };
  weighs = refl;
  left = λ input list. goes refl (λ e. let z : ◌≡◌ {A = ℕ} 1 0 = e in let y : ⊥ = omega arith in y) (ap (straight input 0 list) (first_memory (1 ∷ 0 ∷ []) first));
}

-- ---- the whole program

-- each input of a list is a word, as is what stands behind it
input_words : (inputs : List ℕ) → AllByRecursion (λ v. v < value_bound) inputs → AreWords (slice_index inputs)
input_words [] all zero = omega arith
input_words [] all (suc k) = omega arith
input_words (x ∷ xs) all zero = all.0
input_words (x ∷ xs) all (suc k) = input_words xs all.1 k

-- where no statement is left, the second node tells whether the program failed
at_end : (a f : ℕ) (m : List ℕ) (input : ℕ → ℕ) (i : ℕ) (whole : Fate) → Left a f m input i [] whole → (f ≢ 0) ↔ (whole ≡ fails)
unfolding straight
at_end a f m input i whole (lost nonzero is) = ((λ h. is), λ h. nonzero)
at_end a f m input i whole (dead zero_ alive not_) = ((λ h. absurd (h zero_)), λ h. absurd (not_ h))
at_end a f m input i whole (goes zero_ alive is) = ((λ h. absurd (h zero_)), λ h. let both : still m ≡ fails = is ∙ h in absurd cc)

-- the whole construction
finished : (program : StraightProgram) → IsWellFormed program → length program.first ≤ 4294967296 → Finished (length program.list) (length program.first) (begin program.first) (constructed program) 0 program.list
finished program formed short =
    let b = begun (length program.list) program.first formed.words in
    statements_finish (length program.list) (length program.first) 0 program.list (begin program.first) b.ready short formed.statements (omega arith)

-- the node `fails` is not 0 exactly where the program fails
pub fails_as_straight : (program : StraightProgram) (count : ℕ) → IsWellFormed program → length program.first ≤ 4294967296
    → FailsAsStraight program (record { list = (constructed program).drawn.list; inputs = count; fails = (constructed program).failed })
fails_as_straight program count formed short inputs is =
    let b = begun (length program.list) program.first formed.words in
    let f = finished program formed short in
    let q : Progress = constructed program in
    at_end (word_at (slice_index inputs) q.drawn q.alive) (word_at (slice_index inputs) q.drawn q.failed) (memory_of (slice_index inputs) q.drawn) (slice_index inputs) (0 + length program.list) (straight (slice_index inputs) 0 program.list program.first)
    (f.keeps (slice_index inputs) (input_words inputs is.1) (straight (slice_index inputs) 0 program.list program.first) (b.left (slice_index inputs) program.list))

-- the nodes are well formed
pub nodes_formed : (program : StraightProgram) → IsWellFormed program → length program.first ≤ 4294967296
    → AreWellFormed (record { list = (constructed program).drawn.list; inputs = length program.list; fails = (constructed program).failed })
nodes_formed program formed short = let f = finished program formed short in record { list = f.ready.sound.formed; fails = f.ready.failed }

-- they weigh no more than the program, where it has a statement
pub nodes_weigh : (program : StraightProgram) → IsWellFormed program → length program.first ≤ 4294967296 → 1 ≤ length program.list → nodes_weight (constructed program).drawn.list ≤ straight_weight program
nodes_weigh program formed short some =
    let b = begun (length program.list) program.first formed.words in
    let f = finished program formed short in
    let begin_weighs = b.weighs in
    let w = f.weighs in
    omega (arith, begin_weighs, w)

-- ---- the code

-- at the beginning there are as many words as first values
pub begun_words : (first : List ℕ) (p : Progress) → p ≡ begin first → length p.drawn.words ≡ length first
unfolding begin
begun_words first p e = ap (λ (x : Progress). length x.drawn.words) e ∙ first_length first

-- what was made is what is constructed
pub made_is : (list : List Statement) (first : List ℕ) {p q : Progress} → p ≡ begin first → q ≡ statements_made 0 list p → q ≡ constructed (record { list = list; first = first })
made_is list first e f = f ∙ ap (statements_made 0 list) e

-- the clauses, of any progress that is what is constructed
pub made_fails : (program : StraightProgram) (count : ℕ) (q : Progress) → q ≡ constructed program → IsWellFormed program → length program.first ≤ 4294967296
    → FailsAsStraight program (record { list = q.drawn.list; inputs = count; fails = q.failed })
made_fails program count q e formed short =
    subst (λ (p : Progress). FailsAsStraight program (record { list = p.drawn.list; inputs = count; fails = p.failed })) (sym e) (fails_as_straight program count formed short)

-- what was made is well formed
pub made_formed : (program : StraightProgram) (count : ℕ) (q : Progress) → q ≡ constructed program → IsWellFormed program → length program.first ≤ 4294967296 → count ≡ length program.list
    → AreWellFormed (record { list = q.drawn.list; inputs = count; fails = q.failed })
made_formed program count q e formed short k =
    subst (λ (p : Progress). AreWellFormed (record { list = p.drawn.list; inputs = count; fails = p.failed })) (sym e)
    (subst (λ (n : ℕ). AreWellFormed (record { list = (constructed program).drawn.list; inputs = n; fails = (constructed program).failed })) (sym k) (nodes_formed program formed short))

-- what was made weighs no more than the program
pub made_weighs : (program : StraightProgram) (q : Progress) → q ≡ constructed program → IsWellFormed program → length program.first ≤ 4294967296 → 1 ≤ length program.list → nodes_weight q.drawn.list ≤ straight_weight program
made_weighs program q e formed short some = let h = nodes_weigh program formed short some in let k = ap (λ (p : Progress). nodes_weight p.drawn.list) e in omega (arith, h, k)
