-- The formula of all nodes.
use Rattle.std.proofs.Common.{◌≡◌, ◌≢◌, ℕ, ◌+◌, ◌*◌, ◌<◌, ◌≤◌, Bool, true, false, not, eqb, List, [], ◌∷◌, ◌++◌, length, get_or, slice_index, refl, sym, ◌∙◌, ap, subst, arith}
use Rattle.std.proofs.lemmas.Bool.{eqb-true, or_left}
use Rattle.std.proofs.lemmas.List.{length-append}
use Rattle.std.proofs.Math.Bool.{or-false}
use Rattle.lz_base.specs.Words.{value_bound, is_true}
use Rattle.lz_cnf.specs.declared.clause.Lit.{Lit}
use Rattle.lz_cnf.specs.declared.clause.Cnf.{Cnf}
use Rattle.lz_cnf.specs.Models.{IsModel}
use Rattle.lz_gates.specs.Circuits.{Circuit, Assignment, value, clause_value, Satisfies, Agree, AreBelow, IsCircuit, Makes}
use Rattle.lz_gates.specs.Values.{assigned, listed}
use Rattle.lz_gates.proofs.ExtendingLemmas.{satisfies_front, satisfies_back, satisfies_append, still, each_model_once, makes_so}
use Rattle.lz_gates.proofs.ValuesLemmas.{model_satisfies, satisfies_model, listed_at, read_value}
use Rattle.lz_arith.specs.Bits.{word}
use Rattle.lz_arith.specs.Sizes.{word_width}
use Rattle.lz_arith.proofs.AddLemmas.{are_lits_more}
use Rattle.lz_arith.proofs.SignsLemmas.{word_small}
use Rattle.lz_ssa.specs.declared.node.Nodes.{Nodes}
use Rattle.lz_ssa.specs.NodeValues.{values_of, FailsAt, AreWellFormed}
use Rattle.lz_ssa.specs.NodeWeight.{nodes_weight}
use Rattle.lz_blast.specs.Counts.{clauses_per_weight}
use Rattle.lz_blast.specs.Encoding.{input_at, Reads, AreInputs}
use Rattle.lz_blast.specs.Formulas.{ReadsInput, told_input, Decides}
use Rattle.lz_blast.specs.Steps.{Stands}
use Rattle.lz_blast.proofs.CountsLemmas.{all_weigh}
use Rattle.lz_blast.proofs.EncodingLemmas.{word_agrees, words_at, reads_agree}

-- what a list of the first values of an assignment gives back
listed_agrees : (n : ℕ) (a : Assignment) → Agree n a (assigned (listed n a))
unfolding Agree
listed_agrees n a x lt = sym (read_value (listed n a) x (a x) (listed_at n a x lt))

-- a true word is not 0
not_zero : (n : ℕ) → is_true n ≡ true → n ≢ 0
not_zero n e = λ z. off (sym (ap is_true z) ∙ e)
  where
    off : false ≡ true → ⊥
    off h = absurd cc

-- a word that is not 0 is true
surely_true : (n : ℕ) → n ≢ 0 → is_true n ≡ true
surely_true n nz = by (eqb n 0) refl
  where
    by : (b : Bool) → eqb n 0 ≡ b → not b ≡ true
    by true e = absurd (nz (eqb-true n 0 e))
    by false e = refl

-- the circuit of all nodes, the truth test of one and its clause
pub record Tested (nodes : Nodes) (before tested : Circuit) (formula : Cnf) (inputs before_words : List (List Lit)) (held : List Lit) (test : Lit) : Type 0 where
  pub stands : Stands before inputs before_words nodes.list
  pub formed : AreWellFormed nodes
  pub word_is : held ≡ get_or before_words nodes.fails held
  pub made : Makes before tested 1 33 (λ a. value a test ≡ is_true (word a held))
  pub variables : formula.variables ≡ tested.variables
  pub clauses : formula.clauses ≡ tested.clauses ++ (test ∷ []) ∷ []

-- the last calls come to that
pub tested_of : (nodes : Nodes) {before tested : Circuit} (required : Circuit) {formula : Cnf} {inputs before_words items : List (List Lit)} {held : List Lit} {test : Lit}
    → Stands before inputs before_words nodes.list → AreWellFormed nodes → items ≡ before_words → held ≡ get_or items nodes.fails held
    → Makes before tested 1 (length held + 1) (λ a. value a test ≡ is_true (word a held))
    → required.variables ≡ tested.variables → required.clauses ≡ tested.clauses ++ (test ∷ []) ∷ [] → formula.variables ≡ required.variables → formula.clauses ≡ required.clauses
    → Tested nodes before tested formula inputs before_words held test
tested_of nodes {before} {tested} required {before_words} {held} stands formed lent is made v c e f =
    let word_is : held ≡ get_or before_words nodes.fails held = is ∙ ap (λ (xs : List (List Lit)). get_or xs nodes.fails held) lent in
    let place : nodes.fails < length before_words = omega (arith, stands.count, formed.fails) in
    let long : length held ≡ word_width = ap (λ (xs : List Lit). length xs) word_is ∙ (stands.words_in nodes.fails held place).length in
    record {
      stands = stands;
      formed = formed;
      word_is = word_is;
      made = makes_so before tested 1 1 (length held + 1) 33 _ _ made (omega arith) (omega arith) (λ a s p. p);
      variables = e ∙ v;
      clauses = f ∙ c;
    }

-- the word of the node that is tested
fails_word : (nodes : Nodes) (before tested : Circuit) (formula : Cnf) (inputs before_words : List (List Lit)) (held : List Lit) (test : Lit) → Tested nodes before tested formula inputs before_words held test
    → (v : ℕ → ℕ) (a : Assignment) → Satisfies a before.clauses → Reads a inputs v → word a held ≡ slice_index (values_of v nodes.list) nodes.fails
fails_word nodes before tested formula inputs before_words held test h v a s r =
    ap (word a) h.word_is ∙ sym (words_at a before_words nodes.fails held (omega (arith, h.stands.count, h.formed.fails)))
    ∙ ap (λ (ns : List ℕ). slice_index ns nodes.fails) (h.stands.encodes.says v a s r)

-- what a model of the formula satisfies
parts : (a : Assignment) (formula : Cnf) (tested : Circuit) (test : Lit) → formula.clauses ≡ tested.clauses ++ (test ∷ []) ∷ [] → Satisfies a formula.clauses → Satisfies a tested.clauses × (value a test ≡ true)
unfolding Satisfies clause_value
parts a formula tested test e s =
    let u = subst (λ (cs : List (List Lit)). Satisfies a cs) e s in
    (satisfies_front a tested.clauses ((test ∷ []) ∷ []) u, sym (or-false (value a test)) ∙ (satisfies_back a tested.clauses ((test ∷ []) ∷ []) u).0)

-- who satisfies the circuit, with a true test, satisfies the formula
whole : (a : Assignment) (formula : Cnf) (tested : Circuit) (test : Lit) → formula.clauses ≡ tested.clauses ++ (test ∷ []) ∷ [] → Satisfies a tested.clauses → value a test ≡ true → Satisfies a formula.clauses
unfolding Satisfies clause_value
whole a formula tested test e s t =
    subst (λ (cs : List (List Lit)). Satisfies a cs) (sym e) (satisfies_append a tested.clauses ((test ∷ []) ∷ []) s (or_left (value a test) false t, tt))

-- an input that is told is a word
told_range : (before : Circuit) (inputs : List (List Lit)) (values : List Bool) (i : ℕ) → AreInputs before inputs → told_input values inputs i < value_bound
unfolding AreInputs word
told_range before inputs values i all = by (input_at inputs i) refl
  where
    by : (xs : List Lit) → input_at inputs i ≡ xs → word (assigned values) xs < value_bound
    by [] e = omega arith
    by (x ∷ xs) e =
        let long : length (x ∷ xs) ≡ word_width = ap (λ (ys : List Lit). length ys) (sym e) ∙ (all i (subst (λ (ys : List Lit). 0 < length ys) (sym e) (omega arith))).length in
        word_small (assigned values) (x ∷ xs) long

-- each model tells inputs on which the node is not 0
sound : (nodes : Nodes) (before tested : Circuit) (formula : Cnf) (inputs before_words : List (List Lit)) (held : List Lit) (test : Lit) → Tested nodes before tested formula inputs before_words held test
    → (values : List Bool) → IsModel formula values → FailsAt nodes (told_input values inputs)
unfolding Reads
sound nodes before tested formula inputs before_words held test h values model =
    let a : Assignment = assigned values in
    let p = parts a formula tested test h.clauses (model_satisfies formula values model) in
    let s = still before tested h.made.extends a p.0 in
    let e = fails_word nodes before tested formula inputs before_words held test h (told_input values inputs) a s (λ i some. refl) in
    subst (λ (n : ℕ). n ≢ 0) e (not_zero (word a held) (sym (h.made.says a p.0) ∙ p.1))

-- and for such inputs there is a model
complete : (nodes : Nodes) (before tested : Circuit) (formula : Cnf) (inputs before_words : List (List Lit)) (held : List Lit) (test : Lit) → Tested nodes before tested formula inputs before_words held test
    → (ended : Circuit) → IsCircuit ended → ended.variables ≡ formula.variables → ended.clauses ≡ formula.clauses
    → (v : ℕ → ℕ) → ((i : ℕ) → v i < value_bound) → FailsAt nodes v
    → (values : List Bool) × IsModel formula values × ((i : ℕ) → ReadsInput nodes.list i → told_input values inputs i ≡ v i)
unfolding Reads AreInputs
complete nodes before tested formula inputs before_words held test h ended circuit same_variables same_clauses v range fails =
    let a = h.stands.encodes.some v range in
    let b = each_model_once before tested h.made.extends h.stands.circuit_is a.0 a.1 in
    let r = reads_agree before a.0 b.0 inputs v b.1 h.stands.encodes.inputs_in a.2 in
    let s = still before tested h.made.extends b.0 b.2 in
    let e = fails_word nodes before tested formula inputs before_words held test h v b.0 s r in
    let on : value b.0 test ≡ true = h.made.says b.0 b.2 ∙ surely_true (word b.0 held) (subst (λ (n : ℕ). n ≢ 0) (sym e) fails) in
    let all : Satisfies b.0 formula.clauses = whole b.0 formula tested test h.clauses b.2 on in
    let below = subst (λ (n : ℕ). AreBelow n formula.clauses) same_variables (subst (λ (cs : List (List Lit)). AreBelow ended.variables cs) same_clauses circuit.below) in
    let more : before.variables ≤ formula.variables = omega (arith, h.made.extends.more, h.variables) in (
      listed formula.variables b.0,
      satisfies_model formula b.0 below all,
      (λ i read.
          let some = h.stands.read i read in
          let bits = h.stands.encodes.inputs_in i some in
          sym (word_agrees (record { variables = formula.variables; clauses = formula.clauses; spent = false }) b.0 (assigned (listed formula.variables b.0)) (input_at inputs i)
          (listed_agrees formula.variables b.0) (are_lits_more before (record { variables = formula.variables; clauses = formula.clauses; spent = false }) (input_at inputs i) more bits.lits))
          ∙ r i some),
    )

-- the formula decides whether the node is not 0
pub decides : (nodes : Nodes) {before tested : Circuit} {formula : Cnf} {inputs before_words : List (List Lit)} {held : List Lit} {test : Lit} → Tested nodes before tested formula inputs before_words held test
    → (ended : Circuit) → IsCircuit ended → ended.variables ≡ formula.variables → ended.clauses ≡ formula.clauses → Decides nodes formula inputs
decides nodes {before} {tested} {formula} {inputs} {before_words} {held} {test} h ended circuit same_variables same_clauses = record {
  sound = sound nodes before tested formula inputs before_words held test h;
  range = λ values i. told_range before inputs values i h.stands.encodes.inputs_in;
  complete = complete nodes before tested formula inputs before_words held test h ended circuit same_variables same_clauses;
  read = λ i. (h.stands.reads i, h.stands.read i);
}

-- with at most as many variables as the weight, and clauses by the weight too
pub counted : (nodes : Nodes) {before tested : Circuit} {formula : Cnf} {inputs before_words : List (List Lit)} {held : List Lit} {test : Lit} → Tested nodes before tested formula inputs before_words held test
    → (formula.variables ≤ nodes_weight nodes.list) × (length formula.clauses ≤ clauses_per_weight * nodes_weight nodes.list)
counted nodes {tested} {formula} {test} h =
    let w = all_weigh nodes.inputs nodes.list h.formed.list (let p = h.formed.fails in omega arith) in
    let variables_ = w.0 in
    let clauses_ = w.1 in
    let v = h.stands.variables in let c = h.stands.clauses in let mv = h.made.variables_most in let mc = h.made.clauses_most in
    let e = h.variables in
    let f : length formula.clauses ≡ length tested.clauses + 1 = ap (λ (cs : List (List Lit)). length cs) h.clauses ∙ length-append tested.clauses ((test ∷ []) ∷ []) in
    (omega arith, omega arith)
