-- The formula has a model exactly where the flat program breaks, and each model tells inputs that drive a break.
use Rattle.std.proofs.Common.{◌≡◌, ℕ, zero, suc, ◌+◌, ◌*◌, ◌≤◌, ◌<◌, Bool, true, false, nat_lt, List, [], ◌∷◌, length, refl, sym, ◌∙◌, ap, arith}
use Rattle.std.specs.Prelude.{slice_index, ◌↔◌, slice_index_or}
use Rattle.lz_cnf.specs.declared.clause.Lit.{Lit}
use Rattle.lz_cnf.specs.declared.clause.Cnf.{Cnf}
use Rattle.lz_cnf.specs.Models.{IsModel, HasModel}
use Rattle.lz_flat.specs.Programs.{FlatProgram, StraightProgram}
use Rattle.lz_flat.specs.FlatRuns.{FlatBroken, DrivesBreak, blocks, opening}
use Rattle.lz_flat.specs.StraightRuns.{FailsOn, IsInputList}
use Rattle.lz_flat.proofs.InputsLemmas.{driven_agrees}
use Rattle.lz_lazy.specs.Sequential.{FailsAsDriven, FailsWhereBroken}
use Rattle.lz_lazy.proofs.SizesLemmas.{listed, length_listed, at_listed}
use Rattle.lz_lazy.proofs.WholeLemmas.{all_listed, word_at}
use Rattle.lz_ssa.specs.declared.node.Nodes.{Nodes}
use Rattle.lz_ssa.specs.NodeValues.{AreWellFormed}
use Rattle.lz_ssa.specs.Assignment.{FailsAsStraight}
use Rattle.lz_ssa.proofs.ValueLemmas.{fails_agrees}
use Rattle.lz_gates.specs.Values.{assigned}
use Rattle.lz_arith.specs.Bits.{word}
use Rattle.lz_blast.specs.Formulas.{told_input, Decides}

-- past its end a list gives what stands for nothing
past : {X : Type 0} (xs : List X) (k : ℕ) (d : X) → length xs ≤ k → slice_index_or xs k d ≡ d
past [] zero d h = refl
past [] (suc k) d h = refl
past (x ∷ xs) zero d h = absurd (let z : ⊥ = omega arith in z)
past (x ∷ xs) (suc k) d h = past xs k d (omega arith)

-- so does a list of words
past_word : (xs : List ℕ) (k : ℕ) → length xs ≤ k → slice_index xs k ≡ 0
past_word [] zero h = refl
past_word [] (suc k) h = refl
past_word (x ∷ xs) zero h = absurd (let z : ⊥ = omega arith in z)
past_word (x ∷ xs) (suc k) h = past_word xs k (omega arith)

-- an input past the end of the literals is 0
past_input : (values : List Bool) (inputs : List (List Lit)) (i : ℕ) → length inputs ≤ i → told_input values inputs i ≡ 0
unfolding word
past_input values inputs i h = ap (word (assigned values)) (past inputs i [] h)

-- there is a statement
pub some_statement : (rounds instructions_ threads : ℕ) → 1 ≤ rounds → 1 ≤ threads → 1 ≤ 3 * rounds * (instructions_ + 4 * threads)
some_statement (suc rounds) n (suc threads) r t =
    let e : 3 * suc rounds * (n + 4 * suc threads) ≡ 3 * rounds * (n + 4 * suc threads) + 3 * (n + 4 * suc threads) = omega arith in
    omega (arith, e)
some_statement zero n threads r t = absurd (let z : ⊥ = omega arith in z)
some_statement (suc rounds) n zero r t = absurd (let z : ⊥ = omega arith in z)

-- what the layers say, together
pub record Layers (flat : FlatProgram) (rounds : ℕ) (straight : StraightProgram) (nodes : Nodes) (formula : Cnf) (inputs : List (List Lit)) : Type 0 where
  pub driven_ : FailsAsDriven flat rounds straight
  pub broken_ : FailsWhereBroken flat rounds straight
  pub nodes_ : FailsAsStraight straight nodes
  pub formed : AreWellFormed nodes
  pub number : nodes.inputs ≡ length straight.list
  pub blasted : Decides nodes formula inputs
  pub listed_ : length inputs ≡ nodes.inputs

module _ {flat : FlatProgram} {rounds : ℕ} {straight : StraightProgram} {nodes : Nodes} {formula : Cnf} {inputs : List (List Lit)} (is : Layers flat rounds straight nodes formula inputs) where
  -- the inputs that a model tells, as a list
  abbrev told : List Bool → List ℕ
  told values = listed (told_input values inputs) 0 (length straight.list)

  -- it has a word for each statement
  told_is : (values : List Bool) → IsInputList straight (told values)
  told_is values = (length_listed (told_input values inputs) 0 (length straight.list), all_listed (told_input values inputs) 0 (length straight.list) (is.blasted.range values))

  -- each is the input of its number
  at_told : (values : List Bool) (i : ℕ) → i < length straight.list → told_input values inputs i ≡ slice_index (told values) i
  at_told values i lt = sym (at_listed (told_input values inputs) 0 (length straight.list) i lt ∙ ap (told_input values inputs) (let z : 0 + i ≡ i = omega arith in z))

  -- the straight program fails on what a model tells
  fails_told : (values : List Bool) → IsModel formula values → FailsOn straight (told values)
  fails_told values model =
      (is.nodes_ (told values) (told_is values)).0
      (fails_agrees nodes (told_input values inputs) (slice_index (told values)) is.formed (λ i lt. at_told values i (omega (arith, lt, is.number))) (is.blasted.sound values model))

  -- past the statements both are 0
  everywhere : (values : List Bool) (i : ℕ) → told_input values inputs i ≡ slice_index (told values) i
  everywhere values i = decide (nat_lt i (length straight.list)) refl
    where
      decide : (b : Bool) → nat_lt i (length straight.list) ≡ b → told_input values inputs i ≡ slice_index (told values) i
      decide true e = at_told values i (grind arith)
      decide false e =
          let far : length straight.list ≤ i = grind arith in
          past_input values inputs i (omega (arith, far, is.number, is.listed_))
          ∙ sym (past_word (told values) i (let n = length_listed (told_input values inputs) 0 (length straight.list) in omega (arith, far, n)))

  -- each model tells inputs that drive a break
  pub drives : (values : List Bool) → IsModel formula values → DrivesBreak flat rounds (told_input values inputs)
  drives values model =
      let d = (is.driven_ (told values) (told_is values)).0 (fails_told values model) in
      (d.0, d.1, driven_agrees flat (told_input values inputs) (slice_index (told values)) (blocks rounds (length flat.threads)) 0 (opening flat) flat.first (λ i h. everywhere values i) ∙ d.2)

  -- there is a model exactly where the flat program breaks
  pub exact : HasModel formula ↔ FlatBroken flat rounds
  exact = (there, back)
    where
      there : HasModel formula → FlatBroken flat rounds
      there m = is.broken_.0 (told m.0, told_is m.0, fails_told m.0 m.1)

      back : FlatBroken flat rounds → HasModel formula
      back b =
          let some = is.broken_.1 b in
          let whole = is.blasted.complete (slice_index some.0) (λ i. word_at some.0 i some.1.1) ((is.nodes_ some.0 some.1).1 some.2) in
          (whole.0, whole.1)
