-- One more node.
use Rattle.std.proofs.Common.{◌≡◌, ℕ, ◌+◌, ◌<◌, ◌≤◌, ◌⊎◌, inl, inr, Bool, true, false, eqb, List, [], ◌∷◌, ◌++◌, length, get_or, set, refl, sym, ◌∙◌, ap, subst, arith}
use Rattle.std.specs.List.{All}
use Rattle.std.proofs.lemmas.Bool.{eqb-true, eqb-false}
use Rattle.std.proofs.lemmas.List.{length_push}
use Rattle.std.proofs.lemmas.List.Elements.{All-push}
use Rattle.lz_base.specs.declared.word.IntType.{IntType}
use Rattle.lz_cnf.specs.declared.clause.Lit.{Lit}
use Rattle.lz_gates.specs.Circuits.{Circuit, Assignment, Satisfies, AreBelow, IsCircuit, Extends, first_clauses}
use Rattle.lz_gates.proofs.ExtendingLemmas.{extends_same, is_circuit_still, is_circuit_first, below_more}
use Rattle.lz_arith.specs.Bits.{word, AreBits}
use Rattle.lz_arith.specs.Sizes.{word_width}
use Rattle.lz_arith.proofs.AddLemmas.{are_lits_more}
use Rattle.lz_ssa.specs.declared.node.Node.{Node}
use Rattle.lz_ssa.specs.declared.node.Node.TheVariants as nodes
use Rattle.lz_ssa.specs.NodeValues.{node_value, values_from, values_of}
use Rattle.lz_blast.specs.Counts.{node_variables, node_clauses}
use Rattle.lz_blast.specs.Encoding.{words, input_at, fresh_word, Reads, AreInputs, Encodes}
use Rattle.lz_blast.specs.Formulas.{IsInput, ReadsInput}
use Rattle.lz_blast.specs.Steps.{Adds, Stands, Steps}
use Rattle.lz_blast.proofs.CountsLemmas.{variables_push, clauses_push}
use Rattle.lz_blast.proofs.EncodingLemmas.{encodes_node, encodes_input, encodes_new, fresh_bits_in, input_set_same, input_set_other}

-- the words of nodes and one more are theirs and its
values_from_push : (v : ℕ → ℕ) (done : List ℕ) (list : List Node) (node : Node) → values_from v done (list ++ node ∷ []) ≡ values_from v done list ++ node_value node v (values_from v done list) ∷ []
unfolding values_from
values_from_push v done [] node = refl
values_from_push v done (first ∷ rest) node = values_from_push v (done ++ node_value first v done ∷ []) rest node

-- an input that is read by nodes and one more is read by these or by that
reads_push : (list : List Node) (node : Node) (i : ℕ) → ReadsInput (list ++ node ∷ []) i → ReadsInput list i ⊎ IsInput node i
unfolding ReadsInput
reads_push [] node i (inl h) = inr h
reads_push [] node i (inr h) = absurd h
reads_push (first ∷ rest) node i (inl h) = inl (inl h)
reads_push (first ∷ rest) node i (inr h) = elim (reads_push rest node i h) [ inl r ↦ inl (inr r) | inr r ↦ inr r ]

-- what the nodes read is still read
reads_front : (list : List Node) (node : Node) (i : ℕ) → ReadsInput list i → ReadsInput (list ++ node ∷ []) i
unfolding ReadsInput
reads_front [] node i h = absurd h
reads_front (first ∷ rest) node i (inl h) = inl h
reads_front (first ∷ rest) node i (inr h) = inr (reads_front rest node i h)

-- so is what the last one reads
reads_last : (list : List Node) (node : Node) (i : ℕ) → IsInput node i → ReadsInput (list ++ node ∷ []) i
unfolding ReadsInput
reads_last [] node i h = inl h
reads_last (first ∷ rest) node i h = inr (reads_last rest node i h)

-- the words so far stay words of a larger circuit, and one more is
words_more : (old new : Circuit) (before : List (List Lit)) (w : List Lit) → old.variables ≤ new.variables → All (AreBits old word_width) before → AreBits new word_width w → All (AreBits new word_width) (before ++ w ∷ [])
words_more old new before w le all one =
    All-push (AreBits new word_width) before w (λ k d lt. record { length = (all k d lt).length; lits = are_lits_more old new (get_or before k d) le (all k d lt).lits }) one

-- what stands for some words stands for the same words, said otherwise
encodes_as : (circuit : Circuit) (inputs words_ : List (List Lit)) (f g : (ℕ → ℕ) → List ℕ) → ((v : ℕ → ℕ) → f v ≡ g v) → Encodes circuit inputs words_ f → Encodes circuit inputs words_ g
encodes_as circuit inputs words_ f g e h = record {
  inputs_in = h.inputs_in;
  some = h.some;
  once = h.once;
  says = λ v a s r. h.says v a s r ∙ e v;
}

-- a node whose word is settled by what is read and by the words so far
stands_node : (old new : Circuit) (inputs before after : List (List Lit)) (node : Node) (w : List Lit) (list : List Node) → Stands old inputs before list
    → Extends old new → AreBits new word_width w → after ≡ before ++ w ∷ []
    → new.variables ≤ old.variables + node_variables node → length new.clauses ≤ length old.clauses + node_clauses node
    → ((v : ℕ → ℕ) (a : Assignment) → Satisfies a new.clauses → Reads a inputs v → word a w ≡ node_value node v (words a before))
    → ((i : ℕ) → IsInput node i → 0 < length (input_at inputs i)) → Stands new inputs after (list ++ node ∷ [])
stands_node old new inputs before after node w list h extends bits e few few_clauses says is_read =
    subst (λ (ws : List (List Lit)). Stands new inputs ws (list ++ node ∷ [])) (sym e) (record {
      circuit_is = is_circuit_still old new extends h.circuit_is;
      encodes = encodes_as new inputs (before ++ w ∷ []) (λ v. values_of v list ++ node_value node v (values_of v list) ∷ []) (λ v. values_of v (list ++ node ∷ []))
          (λ v. sym (values_from_push v [] list node)) (encodes_node old new inputs before (λ v. values_of v list) w (node_value node) h.circuit_is h.encodes extends says);
      words_in = words_more old new before w extends.more h.words_in bits;
      count = length_push before w ∙ ap (λ (n : ℕ). n + 1) h.count ∙ sym (length_push list node);
      variables = let p = h.variables in let q = variables_push list node in omega arith;
      clauses = let p = h.clauses in let q = clauses_push list node in omega arith;
      reads = λ i some. reads_front list node i (h.reads i some);
      read = λ i some. elim (reads_push list node i some) [ inl r ↦ h.read i r | inr r ↦ is_read i r ];
    })

-- a node that is no input
pub steps_computed : {old new : Circuit} {inputs before after : List (List Lit)} {node : Node} → ((i : ℕ) → IsInput node i → ⊥) → Adds old new before after node → Steps old new inputs inputs before after node
steps_computed {old} {new} {inputs} {before} {after} {node} none h = record {
  stands = λ list s.
      stands_node old new inputs before after node h.word_ list s h.made.extends h.bits h.after_is h.made.variables_most h.made.clauses_most
      (λ v a t r. h.made.says a t v) (λ i is. absurd (none i is));
}

-- another node of an input
pub steps_again : (circuit : Circuit) {inputs before after : List (List Lit)} (number : ℕ) (kind : IntType) {w : List Lit} → 0 < length (input_at inputs number) → w ≡ input_at inputs number → after ≡ before ++ w ∷ []
    → Steps circuit circuit inputs inputs before after (nodes.Input number kind)
unfolding Reads AreInputs
steps_again circuit {inputs} {before} {after} number kind {w} some is e = record {
  stands = λ list s.
      stands_node circuit circuit inputs before after (nodes.Input number kind) w list s (extends_same circuit)
      (subst (λ (xs : List Lit). AreBits circuit word_width xs) (sym is) (s.encodes.inputs_in number some)) e (omega arith) (omega arith)
      (λ v a t r. ap (word a) is ∙ r number some) (λ i same. subst (λ (j : ℕ). 0 < length (input_at inputs j)) same some);
}

-- a circuit stays one with more variables
circuit_larger : (old new : Circuit) → old.variables ≤ new.variables → new.clauses ≡ old.clauses → IsCircuit old → IsCircuit new
circuit_larger old new le e h = record {
  some = let p = h.some in omega arith;
  below = subst (λ (cs : List (List Lit)). AreBelow new.variables cs) (sym e) (below_more old.variables new.variables old.clauses le h.below);
  truth = λ a s. h.truth a (subst (λ (cs : List (List Lit)). Satisfies a cs) e s);
}

-- the first node of an input
pub steps_fresh : {old new : Circuit} {inputs inputs_after before after : List (List Lit)} {number : ℕ} (kind : IntType) {w copy : List Lit} → number < length inputs → length (input_at inputs number) ≡ 0
    → new.variables ≡ old.variables + word_width → new.clauses ≡ old.clauses → w ≡ fresh_word old.variables word_width → copy ≡ w → inputs_after ≡ set inputs number copy → after ≡ before ++ w ∷ []
    → Steps old new inputs inputs_after before after (nodes.Input number kind)
steps_fresh {old} {new} {inputs} {before} {after} {number} kind {w} lt none more same is copied set_is e = record {
  stands = λ list s.
      let bits = fresh_bits_in old new w more is in
      let some : 0 < length w = omega (arith, bits.length) in
      subst (λ (ins : List (List Lit)). Stands new ins after (list ++ nodes.Input number kind ∷ [])) (sym (set_is ∙ ap (set inputs number) copied))
      (subst (λ (ws : List (List Lit)). Stands new (set inputs number w) ws (list ++ nodes.Input number kind ∷ [])) (sym e) (record {
        circuit_is = circuit_larger old new (omega arith) same s.circuit_is;
        encodes = encodes_as new (set inputs number w) (before ++ w ∷ []) (λ v. values_of v list ++ v number ∷ []) (λ v. values_of v (list ++ nodes.Input number kind ∷ []))
            (λ v. sym (values_from_push v [] list (nodes.Input number kind))) (encodes_input old new inputs before (λ v. values_of v list) number w s.circuit_is s.encodes lt none more same is);
        words_in = words_more old new before w (omega arith) s.words_in bits;
        count = length_push before w ∙ ap (λ (n : ℕ). n + 1) s.count ∙ sym (length_push list (nodes.Input number kind));
        variables = let p = s.variables in let q = variables_push list (nodes.Input number kind) in omega arith;
        clauses = let p = s.clauses in let q = clauses_push list (nodes.Input number kind) in let z = ap (λ (cs : List (List Lit)). length cs) same in omega arith;
        reads = λ i h. by i h list s (eqb i number) refl;
        read = λ i h. elim (reads_push list (nodes.Input number kind) i h) [ inl r ↦ kept i (s.read i r) (eqb i number) refl | inr r ↦ here i r some ];
      }));
}
  where
    here : (i : ℕ) → number ≡ i → 0 < length w → 0 < length (input_at (set inputs number w) i)
    here i same some = subst (λ (j : ℕ). 0 < length (input_at (set inputs number w) j)) same (subst (λ (xs : List Lit). 0 < length xs) (sym (input_set_same inputs number w lt)) some)

    kept : (i : ℕ) → 0 < length (input_at inputs i) → (b : Bool) → eqb i number ≡ b → 0 < length (input_at (set inputs number w) i)
    kept i h true f = let same = eqb-true i number f in absurd (let z : length (input_at inputs i) ≡ 0 = ap (λ (j : ℕ). length (input_at inputs j)) same ∙ none in omega arith)
    kept i h false f = subst (λ (xs : List Lit). 0 < length xs) (sym (input_set_other inputs number i w (eqb-false i number f))) h

    by : (i : ℕ) → 0 < length (input_at (set inputs number w) i) → (list : List Node) → Stands old inputs before list → (b : Bool) → eqb i number ≡ b → ReadsInput (list ++ nodes.Input number kind ∷ []) i
    by i h list s true f = reads_last list (nodes.Input number kind) i (sym (eqb-true i number f))
    by i h list s false f = reads_front list (nodes.Input number kind) i (s.reads i (subst (λ (xs : List Lit). 0 < length xs) (input_set_other inputs number i w (eqb-false i number f)) h))

-- no node yet
pub stands_none : (start : Circuit) (inputs : List (List Lit)) → start.variables ≡ 1 → start.clauses ≡ first_clauses → ((i : ℕ) → length (input_at inputs i) ≡ 0) → Stands start inputs [] []
unfolding values_from ReadsInput
stands_none start inputs one clauses none =
    let first = is_circuit_first (record { 0 = 0 }) start.clauses start.spent refl clauses in
    record {
      circuit_is = record { some = omega arith; below = subst (λ (n : ℕ). AreBelow n start.clauses) (sym one) first.below; truth = first.truth };
      encodes = encodes_new start inputs one clauses none;
      words_in = λ k d lt. absurd (omega arith);
      count = refl;
      variables = omega arith;
      clauses = let z = ap (λ (cs : List (List Lit)). length cs) clauses in omega arith;
      reads = λ i some. absurd (let z = none i in omega arith);
      read = λ i r. absurd r;
    }
