-- Inner: structured code laid out as items, one for each place of a thread, and what items may give.
use Rattle.std.specs.Prelude.{◌≡◌, ℕ, zero, suc, ◌+◌, ◌<◌, ◌==◌, Bool, true, false, List, [], ◌∷◌, ◌++◌, length, drop, if◌then◌else◌}
use Rattle.lz_base.specs.Words.{value_bound}
use Rattle.lz_base.specs.declared.operator.Unary.TheVariants as unaries
use Rattle.lz_base.specs.declared.word.IntType.TheVariants.{Unsigned}
use Rattle.lz_flat.specs.Programs.{Expression, constant, unary, Instruction, skips}
use Rattle.lz_flat.specs.Instructions.{moved, did}
use Rattle.lz_model.specs.Actions.{Act}
use Rattle.lz_model.specs.Behaviours.{done, exits, cut, Behaviour}
use Rattle.lz_model.specs.Programs.{end_of}
use Rattle.lz_bound.specs.BoundedTraces.{Leaving, through, left}
use Rattle.lz_code.specs.Structured.{Deeds, instr_of, Code, nothing, own, deed, seq, branch, frame, leave, exit}

-- ---- items

-- What stands at a place: an own instruction, and whether a step may end before it; the first of a group; or another of
-- the group.
pub data Item (D : Type 0) : Type 0 where
  plain : (visible : Bool) (instr : Instruction) → Item D
  head : (d : D) → Item D
  inner : Item D

-- how many items code has
abbrev pub size : {D : Type 0} → Deeds D → Code D → ℕ
size deeds nothing = 0
size deeds (own shown o) = 1
size deeds (deed d) = suc (deeds.tail d)
size deeds (seq a b) = size deeds a + size deeds b
size deeds (branch test a b) = suc (size deeds a + suc (size deeds b))
size deeds (frame number body) = size deeds body
size deeds (leave number) = 1
size deeds (exit whole) = suc (deeds.tail (deeds.ending whole) + 1)

-- the other instructions of a group, before these
abbrev pub tails : {D : Type 0} → ℕ → List (Item D) → List (Item D)
tails zero rest = rest
tails (suc n) rest = inner ∷ tails n rest

-- a skip that is always taken
abbrev pub always : ℕ → Instruction
always by = skips (constant 1) by

-- a skip that is taken where a test is 0
abbrev pub unless : Expression → ℕ → Instruction
unless test by = skips (unary unaries.Not Unsigned test) by

-- the end of a frame stands no way on
abbrev pub here : ℕ → (ℕ → ℕ) → ℕ → ℕ
here number distance k = if k == number then 0 else distance k

-- The items of code before these, which are all that is left of the thread. The end of frame k stands so many items
-- after the end of the code.
abbrev pub laid_out : {D : Type 0} → Deeds D → Code D → (ℕ → ℕ) → List (Item D) → List (Item D)
laid_out deeds nothing distance rest = rest
laid_out deeds (own shown o) distance rest = plain shown (instr_of o) ∷ rest
laid_out deeds (deed d) distance rest = head d ∷ tails (deeds.tail d) rest
laid_out deeds (seq a b) distance rest = laid_out deeds a (λ k. size deeds b + distance k) (laid_out deeds b distance rest)
laid_out deeds (branch test a b) distance rest =
    plain true (unless test (suc (suc (size deeds a)))) ∷ laid_out deeds a (λ k. suc (size deeds b + distance k)) (plain false (always (suc (size deeds b))) ∷ laid_out deeds b distance rest)
laid_out deeds (frame number body) distance rest = laid_out deeds body (here number distance) rest
laid_out deeds (leave number) distance rest = plain false (always (suc (distance number))) ∷ rest
laid_out deeds (exit whole) distance rest = head (deeds.ending whole) ∷ tails (deeds.tail (deeds.ending whole)) (plain false (always (suc (length rest))) ∷ rest)

-- ---- what items give

-- which actions items may give, an input having any value, and from which own words
pub data May {D : Type 0} (deeds : Deeds D) : List (Item D) → List ℕ → List Act → Type 0 where
  stop : {xs : List (Item D)} {m : List ℕ} → May deeds xs m []
  steps : {visible : Bool} {i : Instruction} {rest : List (Item D)} {m : List ℕ} {todo : List Act} (v over : ℕ) (after : List ℕ) → v < value_bound → did i v m ≡ moved over after
      → May deeds (drop over rest) after todo → May deeds (plain visible i ∷ rest) m todo
  does : {d : D} {rest : List (Item D)} {m : List ℕ} {todo : List Act} (a : Act) (after : List ℕ) → deeds.says d m a after → May deeds (drop (deeds.tail d) rest) after todo → May deeds (head d ∷ rest) m (a ∷ todo)
  last : {d : D} {rest : List (Item D)} {m : List ℕ} (a : Act) → deeds.stops d m a → May deeds (head d ∷ rest) m (a ∷ [])

-- where code goes on
abbrev pub target : {D : Type 0} → (ℕ → ℕ) → List (Item D) → Leaving → List (Item D)
target distance rest through = rest
target distance rest (left number) = drop (distance number) rest

-- what code does, and what follows it
pub data Unfolds {D : Type 0} (deeds : Deeds D) (code : Behaviour (List ℕ) Leaving) (to : Leaving → List (Item D)) (m : List ℕ) (todo : List Act) : Type 0 where
  cuts : code m todo cut → Unfolds deeds code to m todo
  ends : (acts more : List Act) (way : Leaving) (after : List ℕ) → code m acts (done after way) → todo ≡ acts ++ more → May deeds (to way) after more → Unfolds deeds code to m todo
  quits_at_end : (acts : List Act) (w : Bool) → code m acts (exits w) → todo ≡ acts ++ end_of w ∷ [] → Unfolds deeds code to m todo
  quits_early : (acts : List Act) (w : Bool) → code m acts (exits w) → todo ≡ acts → Unfolds deeds code to m todo

-- ending the thread is one action, from any own words
pub record EndsWell {D : Type 0} (deeds : Deeds D) : Type 0 where
  pub is : (w : Bool) (m : List ℕ) (a : Act) (after : List ℕ) → deeds.says (deeds.ending w) m a after → a ≡ end_of w
  pub never : (w : Bool) (m : List ℕ) (a : Act) → deeds.stops (deeds.ending w) m a → ⊥
  pub can : (w : Bool) (m : List ℕ) → (after : List ℕ) × deeds.says (deeds.ending w) m (end_of w) after
