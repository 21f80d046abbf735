-- Each statement keeps what the nodes say: that the program failed, that it is dead, or that it goes on with
-- the memory of the draft.
use Rattle.std.proofs.Common.{◌≡◌, ◌≢◌, ℕ, suc, ◌+◌, ◌≤◌, ◌<◌, Bool, true, false, ◌&&◌, ◌||◌, List, ◌∷◌, length, refl, sym, ◌∙◌, ap, subst, arith}
use Rattle.std.specs.Prelude.{◌==◌}
use Rattle.std.proofs.lemmas.Bool.{eqb-true, eqb-false}
use Rattle.lz_base.specs.Words.{truth, is_true}
use Rattle.lz_base.specs.declared.word.BreakKind.{BreakKind}
use Rattle.lz_base.specs.declared.word.IntType.TheVariants.{Unsigned}
use Rattle.lz_base.specs.declared.operator.Unary.TheVariants as unaries
use Rattle.lz_base.specs.declared.operator.Binary.TheVariants as binaries
use Rattle.lz_flat.specs.Programs.{Expression, Location, takes, assumes, checks, Statement}
use Rattle.lz_flat.specs.Instructions.{moved, value, put, did}
use Rattle.lz_flat.specs.StraightRuns.{Fate, stops, fails, straight}
use Rattle.lz_flat.specs.WellFormed.{IsInstructionOf}
use Rattle.lz_flat.specs.Weight.{location_weight}
use Rattle.lz_flat.proofs.StraightRunLemmas.{straight_passed, straight_taken}
use Rattle.lz_ssa.specs.declared.node.Node.TheVariants as nodes
use Rattle.lz_ssa.specs.Construction.{Drawn, With, add, join, write, Progress, assume_made, check_made}
use Rattle.lz_ssa.proofs.ValueLemmas.{AreWords}
use Rattle.lz_ssa.proofs.DraftLemmas.{word_at, memory_of, Sound, Grows, Gives, grows_length, grows_keeps, grows_then, grows_most, add_gives}
use Rattle.lz_ssa.proofs.DecodeLemmas.{Means, means_of, means_grows, join_gives}
use Rattle.lz_ssa.proofs.ExpressionLemmas.{value_in}
use Rattle.lz_ssa.proofs.WriteLemmas.{Writes, guarded, put_under, write_gives}

-- ---- what two nodes and a memory say of what is left of a program, which as a whole comes to a fate

-- it has failed; or it is not alive, and does not fail; or what is left comes to the fate of the whole
pub data Left (alive failed : ℕ) (memory : List ℕ) (input : ℕ → ℕ) (i : ℕ) (rest : List Statement) (whole : Fate) : Type 0 where
  lost : failed ≢ 0 → whole ≡ fails → Left alive failed memory input i rest whole
  dead : failed ≡ 0 → alive ≡ 0 → (whole ≡ fails → ⊥) → Left alive failed memory input i rest whole
  goes : failed ≡ 0 → alive ≢ 0 → straight input i rest memory ≡ whole → Left alive failed memory input i rest whole

-- whether a number is 0
data Zero (n : ℕ) : Type 0 where
  is_zero : n ≡ 0 → (n == 0) ≡ true → Zero n
  is_not : n ≢ 0 → (n == 0) ≡ false → Zero n

-- a number is 0 or not
zero_or_not : (n : ℕ) → Zero n
zero_or_not n = decide (n == 0) refl
  where
    decide : (b : Bool) → (n == 0) ≡ b → Zero n
    decide true e = is_zero (eqb-true n 0 e) e
    decide false e = is_not (eqb-false n 0 e) e

-- an instruction that moves on from the memory, under its guard
left_moves : (alive failed : ℕ) (memory after : List ℕ) (input : ℕ → ℕ) (i over : ℕ) (first : Statement) (rest : List Statement) (whole : Fate)
    → did first.instr (input i) memory ≡ moved over after → Left alive failed memory input i (first ∷ rest) whole
    → Left alive failed (guarded (value first.guard memory) memory after) input (suc i) rest whole
left_moves alive failed memory after input i over first rest whole e (lost f w) = lost f w
left_moves alive failed memory after input i over first rest whole e (dead f a w) = dead f a w
left_moves alive failed memory after input i over first rest whole e (goes f a s) = goes f a (by_guard (zero_or_not (value first.guard memory)))
  where
    by_guard : Zero (value first.guard memory) → straight input (suc i) rest (guarded (value first.guard memory) memory after) ≡ whole
    by_guard (is_zero z b) = rw b (sym (straight_passed input i first rest memory z) ∙ s)
    by_guard (is_not z b) = rw b (sym (straight_taken input i first rest memory z ∙ rw e refl) ∙ s)

-- whether both are not 0, and whether one is, as words
abbrev pub both : ℕ → ℕ → ℕ
both a b = truth (is_true a && is_true b)

-- whether one of two words is not 0, as a word
abbrev pub either : ℕ → ℕ → ℕ
either a b = truth (is_true a || is_true b)

-- whether a word is 0, as a word
abbrev pub not_word : ℕ → ℕ
not_word a = truth (a == 0)

-- 1 is not 0
one_is_not : ◌≢◌ {A = ℕ} 1 0
one_is_not e = let z : ◌≡◌ {A = ℕ} 1 0 = e in omega arith

-- an assumption
left_assumes : (alive failed : ℕ) (memory : List ℕ) (input : ℕ → ℕ) (i : ℕ) (guard test : Expression) (rest : List Statement) (whole : Fate)
    → Left alive failed memory input i (record { guard = guard; instr = assumes test } ∷ rest) whole
    → Left (both alive (either (not_word (value guard memory)) (value test memory))) failed memory input (suc i) rest whole
unfolding did
left_assumes alive failed memory input i guard test rest whole (lost f w) = lost f w
left_assumes alive failed memory input i guard test rest whole (dead f a w) = dead f (rw a refl) w
left_assumes alive failed memory input i guard test rest whole (goes f a s) = by_values (zero_or_not alive) (zero_or_not (value guard memory)) (zero_or_not (value test memory))
  where
    first : Statement
    first = record { guard = guard; instr = assumes test }

    by_values : Zero alive → Zero (value guard memory) → Zero (value test memory) → Left (both alive (either (not_word (value guard memory)) (value test memory))) failed memory input (suc i) rest whole
    by_values (is_zero z b) g t = absurd (a z)
    by_values (is_not z b) (is_zero g c) t = goes f (rw (b, c) one_is_not) (sym (straight_passed input i first rest memory g) ∙ s)
    by_values (is_not z b) (is_not g c) (is_zero t d) =
        dead f (rw (b, c, d) refl) (λ w. let stopped : stops ≡ whole = sym (straight_taken input i first rest memory g ∙ rw d refl) ∙ s in let two : stops ≡ fails = stopped ∙ w in absurd cc)
    by_values (is_not z b) (is_not g c) (is_not t d) = goes f (rw (b, c, d) one_is_not) (sym (straight_taken input i first rest memory g ∙ rw d refl) ∙ s)

-- a check
left_checks : (alive failed : ℕ) (memory : List ℕ) (input : ℕ → ℕ) (i : ℕ) (guard test : Expression) (kind : BreakKind) (line : ℕ) (rest : List Statement) (whole : Fate)
    → Left alive failed memory input i (record { guard = guard; instr = checks test kind line } ∷ rest) whole
    → Left alive (either failed (both (both alive (value guard memory)) (not_word (value test memory)))) memory input (suc i) rest whole
unfolding did
left_checks alive failed memory input i guard test kind line rest whole (lost f w) = by_failed (zero_or_not failed)
  where
    by_failed : Zero failed → Left alive (either failed (both (both alive (value guard memory)) (not_word (value test memory)))) memory input (suc i) rest whole
    by_failed (is_zero z b) = absurd (f z)
    by_failed (is_not z b) = lost (rw b one_is_not) w
left_checks alive failed memory input i guard test kind line rest whole (dead f a w) = dead (rw (f, a) refl) a w
left_checks alive failed memory input i guard test kind line rest whole (goes f a s) = by_values (zero_or_not alive) (zero_or_not (value guard memory)) (zero_or_not (value test memory))
  where
    first : Statement
    first = record { guard = guard; instr = checks test kind line }

    by_values : Zero alive → Zero (value guard memory) → Zero (value test memory) → Left alive (either failed (both (both alive (value guard memory)) (not_word (value test memory)))) memory input (suc i) rest whole
    by_values (is_zero z b) g t = absurd (a z)
    by_values (is_not z b) (is_zero g c) t = goes (rw (f, b, c) refl) a (sym (straight_passed input i first rest memory g) ∙ s)
    by_values (is_not z b) (is_not g c) (is_zero t d) = lost (rw (f, b, c, d) one_is_not) (sym (sym (straight_taken input i first rest memory g ∙ rw d refl) ∙ s))
    by_values (is_not z b) (is_not g c) (is_not t d) = goes (rw (f, b, c, d) refl) a (sym (straight_taken input i first rest memory g ∙ rw d refl) ∙ s)

-- with other numbers and another memory that are the same
left_as : (a b f g : ℕ) (m n : List ℕ) (input : ℕ → ℕ) (i : ℕ) (rest : List Statement) (whole : Fate) → a ≡ b → f ≡ g → m ≡ n → Left a f m input i rest whole → Left b g n input i rest whole
left_as a b f g m n input i rest whole ea ef em left =
    subst (λ (x : ℕ). Left x g n input i rest whole) ea (subst (λ (x : ℕ). Left a x n input i rest whole) ef (subst (λ (x : List ℕ). Left a f x input i rest whole) em left))

-- ---- one statement of the construction

-- A statement led from one progress to another.
pub record Stated (inputs : ℕ) (before after : Progress) (i : ℕ) (first : Statement) (weight : ℕ) : Type 0 where
  pub grows : Grows inputs before.drawn after.drawn weight
  pub words : length after.drawn.words ≡ length before.drawn.words
  pub alive : after.alive < length after.drawn.list
  pub failed : after.failed < length after.drawn.list
  pub keeps : (input : ℕ → ℕ) → AreWords input → (rest : List Statement) (whole : Fate)
      → Left (word_at input before.drawn before.alive) (word_at input before.drawn before.failed) (memory_of input before.drawn) input i (first ∷ rest) whole
      → Left (word_at input after.drawn after.alive) (word_at input after.drawn after.failed) (memory_of input after.drawn) input (suc i) rest whole

-- a write: the nodes of alive and failed stay
writes_stated : (inputs : ℕ) (d e : Drawn) (alive failed i : ℕ) (first : Statement) (w over : ℕ) (after : (ℕ → ℕ) → List ℕ) → alive < length d.list → failed < length d.list
    → Writes inputs d e (λ input. guarded (value first.guard (memory_of input d)) (memory_of input d) (after input)) w
    → ((input : ℕ → ℕ) → did first.instr (input i) (memory_of input d) ≡ moved over (after input))
    → Stated inputs (record { drawn = d; alive = alive; failed = failed }) (record { drawn = e; alive = alive; failed = failed }) i first w
writes_stated inputs d e alive failed i first w over after a f writes is =
    let longer = grows_length inputs d e w writes.grows in
    record {
      grows = writes.grows;
      words = writes.words;
      alive = omega (arith, longer);
      failed = omega (arith, longer);
      keeps = λ input small rest whole left. left_as (word_at input d alive) (word_at input e alive) (word_at input d failed) (word_at input e failed)
          (guarded (value first.guard (memory_of input d)) (memory_of input d) (after input)) (memory_of input e) input (suc i) rest whole
          (sym (grows_keeps inputs d e w writes.grows input alive a)) (sym (grows_keeps inputs d e w writes.grows input failed f)) (sym (writes.leaves input small))
          (left_moves (word_at input d alive) (word_at input d failed) (memory_of input d) (after input) input i over first rest whole (is input) left);
    }

-- the draft before, after a guard and another expression, to which their nodes and those of alive and failed
-- belong
pub record UnderGuard (inputs : ℕ) (before : Drawn) (guard second : With) (g f : (ℕ → ℕ) → ℕ) (weight : ℕ) : Type 0 where
  pub grows : Grows inputs before second.drawn weight
  pub memory : (input : ℕ → ℕ) → memory_of input second.drawn ≡ memory_of input before
  pub guard_means : Means inputs second.drawn guard.node g
  pub second_means : Means inputs second.drawn second.node f

-- a guard and a second node behind it
pub guarded_by : (inputs w v : ℕ) (d : Drawn) (guard second : With) (g f : (ℕ → ℕ) → ℕ) → Gives inputs d guard g w → Gives inputs guard.drawn second f v → UnderGuard inputs d guard second g f (w + v)
guarded_by inputs w v d guard second g f a b = record {
  grows = grows_then inputs d guard.drawn second.drawn w v a.grows b.grows;
  memory = λ input. b.memory input ∙ a.memory input;
  guard_means = means_grows inputs guard.drawn second.drawn guard.node g v (means_of inputs d guard g w a) b.grows;
  second_means = means_of inputs guard.drawn second f v b;
}

-- a word is written under a guard
pub set_stated : (inputs : ℕ) (d : Drawn) (alive failed i : ℕ) (to : Location) (first : Statement) (guard second : With) (f : (ℕ → ℕ) → ℕ) (w : ℕ) → length d.words ≤ 4294967296 → length second.drawn.words ≡ length d.words
    → alive < length d.list → failed < length d.list → UnderGuard inputs d guard second (value_in first.guard d) f w → IsInstructionOf (length d.words) (takes to)
    → ((input : ℕ → ℕ) → did first.instr (input i) (memory_of input d) ≡ moved 0 (put to (f input) (memory_of input d)))
    → Stated inputs (record { drawn = d; alive = alive; failed = failed }) (record { drawn = write to guard.node second; alive = alive; failed = failed }) i first (w + location_weight to)
set_stated inputs d alive failed i to first guard second f w short same a b under is did_is =
    let ww = write_gives inputs guard.node to second (value_in first.guard d) f under.grows.sound (omega (arith, same)) (subst (λ (n : ℕ). IsInstructionOf n (takes to)) (sym same) is) under.guard_means under.second_means in
    let words = ww.words in
    writes_stated inputs d (write to guard.node second) alive failed i first (w + location_weight to) 0 (λ input. put to (f input) (memory_of input d)) a b
    (record {
      grows = grows_then inputs d second.drawn (write to guard.node second) w (location_weight to) under.grows ww.grows;
      leaves = λ input small. ww.leaves input small ∙ ap (put_under to (value_in first.guard d input) (f input)) (under.memory input);
      words = words ∙ same;
    })
    did_is

-- an operator at one node
not_gives : (inputs : ℕ) (d : Drawn) (node : ℕ) (f : (ℕ → ℕ) → ℕ) → Sound inputs d → Means inputs d node f → Gives inputs d (add (nodes.Unary unaries.Not Unsigned node) d) (λ input. not_word (f input)) 2
not_gives inputs d node f sound means =
    add_gives inputs d (nodes.Unary unaries.Not Unsigned node) (λ input. not_word (f input)) sound means.within (λ input small. ap (λ (v : ℕ). not_word v) (means.is input small))

-- the words of alive and failed
alive_means : (inputs : ℕ) (d : Drawn) (node : ℕ) → node < length d.list → Means inputs d node (λ input. word_at input d node)
alive_means inputs d node within = record { within = within; is = λ input small. refl }

-- an assumption
pub assume_stated : (inputs : ℕ) (d : Drawn) (alive failed i : ℕ) (guard test : Expression) (g t : With) (w : ℕ) → length t.drawn.words ≡ length d.words
    → alive < length d.list → failed < length d.list → UnderGuard inputs d g t (value_in guard d) (value_in test d) w
    → Stated inputs (record { drawn = d; alive = alive; failed = failed }) (assume_made alive failed g.node t) i (record { guard = guard; instr = assumes test }) (w + 8)
unfolding assume_made
assume_stated inputs d alive failed i guard test g t w same a b under =
    let n : With = add (nodes.Unary unaries.Not Unsigned g.node) t.drawn in
    let gn = not_gives inputs t.drawn g.node (value_in guard d) under.grows.sound under.guard_means in
    let o : With = join binaries.Either n.node t.node n.drawn in
    let go = join_gives inputs n.drawn binaries.Either n.node t.node (λ input. not_word (value_in guard d input)) (value_in test d) gn.grows.sound
    (means_of inputs t.drawn n (λ input. not_word (value_in guard d input)) 2 gn) (means_grows inputs t.drawn n.drawn t.node (value_in test d) 2 under.second_means gn.grows) in
    let to_n = grows_then inputs d t.drawn n.drawn w 2 under.grows gn.grows in
    let to_o = grows_then inputs d n.drawn o.drawn (w + 2) 3 to_n go.grows in
    let z : With = join binaries.Both alive o.node o.drawn in
    let gz = join_gives inputs o.drawn binaries.Both alive o.node (λ input. word_at input d alive) (λ input. either (not_word (value_in guard d input)) (value_in test d input)) go.grows.sound
    (means_grows inputs d o.drawn alive (λ input. word_at input d alive) (w + 2 + 3) (alive_means inputs d alive a) to_o)
    (means_of inputs n.drawn o (λ input. either (not_word (value_in guard d input)) (value_in test d input)) 3 go) in
    let whole_grows = grows_then inputs d o.drawn z.drawn (w + 2 + 3) 3 to_o gz.grows in
    let longer = grows_length inputs d z.drawn (w + 2 + 3 + 3) whole_grows in
    record {
      grows = grows_most inputs d z.drawn (w + 2 + 3 + 3) (w + 8) (omega arith) whole_grows;
      words = same;
      alive = gz.within;
      failed = omega (arith, longer);
      keeps = λ input small rest whole left. left_as (both (word_at input d alive) (either (not_word (value_in guard d input)) (value_in test d input))) (word_at input z.drawn z.node) (word_at input d failed) (word_at input z.drawn failed)
          (memory_of input d) (memory_of input z.drawn) input (suc i) rest whole
          (sym (gz.means input small)) (sym (grows_keeps inputs d z.drawn (w + 2 + 3 + 3) whole_grows input failed b))
          (sym (gz.memory input ∙ go.memory input ∙ gn.memory input ∙ under.memory input))
          (left_assumes (word_at input d alive) (word_at input d failed) (memory_of input d) input i guard test rest whole left);
    }

-- a check
pub check_stated : (inputs : ℕ) (d : Drawn) (alive failed i : ℕ) (guard test : Expression) (kind : BreakKind) (line : ℕ) (g t : With) (w : ℕ) → length t.drawn.words ≡ length d.words
    → alive < length d.list → failed < length d.list → UnderGuard inputs d g t (value_in guard d) (value_in test d) w
    → Stated inputs (record { drawn = d; alive = alive; failed = failed }) (check_made alive failed g.node t) i (record { guard = guard; instr = checks test kind line }) (w + 11)
unfolding check_made
check_stated inputs d alive failed i guard test kind line g t w same a b under =
    let r : With = join binaries.Both alive g.node t.drawn in
    let gr = join_gives inputs t.drawn binaries.Both alive g.node (λ input. word_at input d alive) (value_in guard d) under.grows.sound
    (means_grows inputs d t.drawn alive (λ input. word_at input d alive) w (alive_means inputs d alive a) under.grows) under.guard_means in
    let runs : (ℕ → ℕ) → ℕ = λ input. both (word_at input d alive) (value_in guard d input) in
    let n : With = add (nodes.Unary unaries.Not Unsigned t.node) r.drawn in
    let gn = not_gives inputs r.drawn t.node (value_in test d) gr.grows.sound (means_grows inputs t.drawn r.drawn t.node (value_in test d) 3 under.second_means gr.grows) in
    let x : With = join binaries.Both r.node n.node n.drawn in
    let gx = join_gives inputs n.drawn binaries.Both r.node n.node runs (λ input. not_word (value_in test d input)) gn.grows.sound
    (means_grows inputs r.drawn n.drawn r.node runs 2 (means_of inputs t.drawn r runs 3 gr) gn.grows) (means_of inputs r.drawn n (λ input. not_word (value_in test d input)) 2 gn) in
    let broken : (ℕ → ℕ) → ℕ = λ input. both (runs input) (not_word (value_in test d input)) in
    let to_r = grows_then inputs d t.drawn r.drawn w 3 under.grows gr.grows in
    let to_n = grows_then inputs d r.drawn n.drawn (w + 3) 2 to_r gn.grows in
    let to_x = grows_then inputs d n.drawn x.drawn (w + 3 + 2) 3 to_n gx.grows in
    let z : With = join binaries.Either failed x.node x.drawn in
    let gz = join_gives inputs x.drawn binaries.Either failed x.node (λ input. word_at input d failed) broken gx.grows.sound
    (means_grows inputs d x.drawn failed (λ input. word_at input d failed) (w + 3 + 2 + 3) (alive_means inputs d failed b) to_x) (means_of inputs n.drawn x broken 3 gx) in
    let whole_grows = grows_then inputs d x.drawn z.drawn (w + 3 + 2 + 3) 3 to_x gz.grows in
    let longer = grows_length inputs d z.drawn (w + 3 + 2 + 3 + 3) whole_grows in
    record {
      grows = grows_most inputs d z.drawn (w + 3 + 2 + 3 + 3) (w + 11) (omega arith) whole_grows;
      words = same;
      alive = omega (arith, longer);
      failed = gz.within;
      keeps = λ input small rest whole left. left_as (word_at input d alive) (word_at input z.drawn alive) (either (word_at input d failed) (broken input)) (word_at input z.drawn z.node)
          (memory_of input d) (memory_of input z.drawn) input (suc i) rest whole
          (sym (grows_keeps inputs d z.drawn (w + 3 + 2 + 3 + 3) whole_grows input alive a)) (sym (gz.means input small))
          (sym (gz.memory input ∙ gx.memory input ∙ gn.memory input ∙ gr.memory input ∙ under.memory input))
          (left_checks (word_at input d alive) (word_at input d failed) (memory_of input d) input i guard test kind line rest whole left);
    }
