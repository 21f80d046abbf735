-- Words of nodes and inputs, and what one more circuit says of them.
use Rattle.std.proofs.Common.{◌≡◌, ℕ, zero, suc, ◌+◌, ◌*◌, ◌^◌, ◌/◌, ◌%◌, ◌<◌, ◌≤◌, Bool, true, false, eqb, List, [], ◌∷◌, ◌++◌, length, get_or, set, slice_index, refl, sym, ◌∙◌, ap, subst, arith}
use Rattle.std.proofs.Math.Nat.{pow-suc}
use Rattle.std.proofs.lemmas.List.{get_or-set_same, get_or-set_other}
use Rattle.std.proofs.lemmas.Bool.{eqb-true, eqb-false, or_left}
use Rattle.std.proofs.Math.Bool.{or-false}
use Rattle.lz_cnf.specs.declared.clause.Lit.{Lit}
use Rattle.lz_gates.specs.Circuits.{Circuit, Assignment, value, clause_value, Satisfies, Agree, AreLits, IsCircuit, Extends, first_clauses}
use Rattle.lz_gates.proofs.ExtendingLemmas.{value_agrees, satisfies_agrees, satisfies_back, still, agree_refl, agree_trans, each_model_once}
use Rattle.lz_gates.proofs.GateLemmas.{value-positive, put, put_same, put_below}
use Rattle.lz_arith.specs.Bits.{bit, word, AreBits}
use Rattle.lz_arith.specs.Sizes.{word_width}
use Rattle.lz_arith.proofs.AddLemmas.{are_lits_more}
use Rattle.lz_blast.specs.Encoding.{words, fresh_word, input_at, Reads, AreInputs, Encodes}

-- a word is settled by the variables of its literals
pub word_agrees : (circuit : Circuit) (a b : Assignment) (xs : List Lit) → Agree circuit.variables a b → AreLits circuit xs → word a xs ≡ word b xs
unfolding word
word_agrees circuit a b [] same all = refl
word_agrees circuit a b (x ∷ xs) same all =
    let first = ap bit (value_agrees circuit.variables a b x same (all 0 x (omega arith))) in
    let rest = word_agrees circuit a b xs same (λ k d lt. all (suc k) d (omega arith)) in
    omega arith

-- one more word
pub words_push : (a : Assignment) (ws : List (List Lit)) (w : List Lit) → words a (ws ++ w ∷ []) ≡ words a ws ++ word a w ∷ []
words_push a [] w = refl
words_push a (x ∷ xs) w = ap (λ (ns : List ℕ). word a x ∷ ns) (words_push a xs w)

-- the number of a word
pub words_at : (a : Assignment) (ws : List (List Lit)) (k : ℕ) (d : List Lit) → k < length ws → slice_index (words a ws) k ≡ word a (get_or ws k d)
words_at a [] k d lt = absurd (omega arith)
words_at a (w ∷ ws) zero d lt = refl
words_at a (w ∷ ws) (suc k) d lt = words_at a ws k d (omega arith)

-- inputs that are read have one number under assignments that agree
pub reads_agree : (circuit : Circuit) (a b : Assignment) (inputs : List (List Lit)) (v : ℕ → ℕ) → Agree circuit.variables a b → AreInputs circuit inputs → Reads a inputs v → Reads b inputs v
unfolding Reads AreInputs
reads_agree circuit a b inputs v same all h i some = sym (word_agrees circuit a b (input_at inputs i) same (all i some).lits) ∙ h i some

-- inputs stay those of a larger circuit
pub inputs_more : (old new : Circuit) (inputs : List (List Lit)) → old.variables ≤ new.variables → AreInputs old inputs → AreInputs new inputs
unfolding AreInputs
inputs_more old new inputs le all i some = record { length = (all i some).length; lits = are_lits_more old new (input_at inputs i) le (all i some).lits }

-- ---- a node that is computed

-- its circuit says its number by the inputs that are read and the words so far
pub encodes_node : (old new : Circuit) (inputs nodes : List (List Lit)) (values : (ℕ → ℕ) → List ℕ) (w : List Lit) (f : (ℕ → ℕ) → List ℕ → ℕ)
    → IsCircuit old → Encodes old inputs nodes values → Extends old new
    → ((v : ℕ → ℕ) (a : Assignment) → Satisfies a new.clauses → Reads a inputs v → word a w ≡ f v (words a nodes))
    → Encodes new inputs (nodes ++ w ∷ []) (λ v. values v ++ f v (values v) ∷ [])
encodes_node old new inputs nodes values w f circuit h extends says = record {
  inputs_in = inputs_more old new inputs extends.more h.inputs_in;
  some = λ v range.
      let a = h.some v range in
      let b = each_model_once old new extends circuit a.0 a.1 in
      (b.0, b.2, reads_agree old a.0 b.0 inputs v b.1 h.inputs_in a.2);
  once = λ v a b s t r q.
      let same = h.once v a b (still old new extends a s) (still old new extends b t) r q in
      extends.once a b same
      (satisfies_back a old.clauses extends.added (subst (Satisfies a) extends.clauses s))
      (satisfies_back b old.clauses extends.added (subst (Satisfies b) extends.clauses t));
  says = λ v a s r.
      let before = h.says v a (still old new extends a s) r in
      words_push a nodes w ∙ ap (λ (k : ℕ). words a nodes ++ k ∷ []) (says v a s r)
      ∙ ap (λ (ns : List ℕ). ns ++ f v ns ∷ []) before;
}

-- ---- an input

-- two that agree below n + 1 agree at n
agree_at : (n : ℕ) (a b : Assignment) → Agree (n + 1) a b → a n ≡ b n
unfolding Agree
agree_at n a b h = h n (omega arith)

-- a number is its low bit and twice its half
pub odd_bit : (n : ℕ) → bit (eqb (n % 2) 1) + 2 * (n / 2) ≡ n
odd_bit n = by (eqb (n % 2) 1) refl
  where
    by : (b : Bool) → eqb (n % 2) 1 ≡ b → bit b + 2 * (n / 2) ≡ n
    by true e = let one = eqb-true (n % 2) 1 e in omega arith
    by false e = let even = eqb-false (n % 2) 1 e in omega (arith, even)

-- fresh variables may stand for any number
fresh_any : (n k number : ℕ) (a : Assignment) → number < 2 ^ k → (b : Assignment) × Agree n a b × (word b (fresh_word n k) ≡ number)
unfolding word
fresh_any n zero number a lt = (a, agree_refl n a, omega arith)
fresh_any n (suc k) number a lt =
    let v : Bool = eqb (number % 2) 1 in
    let half : number / 2 < 2 ^ k = omega (arith, pow-suc 2 k) in
    let more = fresh_any (n + 1) k (number / 2) (put a n v) half in
    let here : value more.0 (record { 0 = 2 * n }) ≡ v = value-positive more.0 (record { 0 = 2 * n }) n refl ∙ sym (agree_at n (put a n v) more.0 more.1) ∙ put_same a n v in (
      more.0,
      agree_trans n (n + 1) a (put a n v) more.0 (omega arith) (put_below a n v) more.1,
      (let e = ap bit here in let m = more.2 in let o = odd_bit number in omega arith),
    )

-- two numbers are equal where their low bits and their halves are
bit_same : (x y : Bool) (p q : ℕ) → bit x + 2 * p ≡ bit y + 2 * q → (x ≡ y) × (p ≡ q)
bit_same true true p q e = (refl, omega arith)
bit_same true false p q e = absurd (omega arith)
bit_same false true p q e = absurd (omega arith)
bit_same false false p q e = (refl, omega arith)

-- two that agree below n and at n agree below n + 1
agree_next : (n : ℕ) (a b : Assignment) → Agree n a b → a n ≡ b n → Agree (n + 1) a b
unfolding Agree
agree_next n a b h e x lt = grind arith

-- and a number settles them
fresh_once : (n k : ℕ) (a b : Assignment) → Agree n a b → word a (fresh_word n k) ≡ word b (fresh_word n k) → Agree (n + k) a b
unfolding word
fresh_once n zero a b same e = subst (λ (m : ℕ). Agree m a b) (let z : n ≡ n + 0 = omega arith in z) same
fresh_once n (suc k) a b same e =
    let t = bit_same _ _ _ _ e in
    let here : a n ≡ b n = sym (value-positive a (record { 0 = 2 * n }) n refl) ∙ t.0 ∙ value-positive b (record { 0 = 2 * n }) n refl in
    subst (λ (m : ℕ). Agree m a b) (let z : n + 1 + k ≡ n + suc k = omega arith in z) (fresh_once (n + 1) k a b (agree_next n a b same here) t.1)

-- fresh literals are literals of the circuit
fresh_in : (circuit : Circuit) (n k : ℕ) → n + k ≤ circuit.variables → AreLits circuit (fresh_word n k)
fresh_in circuit n zero le j d lt = absurd (omega arith)
fresh_in circuit n (suc k) le zero d lt = omega arith
fresh_in circuit n (suc k) le (suc j) d lt = fresh_in circuit (n + 1) k (omega arith) j d (omega arith)

-- a word of so many fresh literals has so many
length-fresh_word : (n k : ℕ) → length (fresh_word n k) ≡ k
length-fresh_word n zero = refl
length-fresh_word n (suc k) = ap suc (length-fresh_word (n + 1) k)

-- fresh literals are of the larger circuit
pub fresh_bits_in : (old new : Circuit) (w : List Lit) → new.variables ≡ old.variables + word_width → w ≡ fresh_word old.variables word_width → AreBits new word_width w
fresh_bits_in old new w more e = record {
  length = ap (λ (xs : List Lit). length xs) e ∙ length-fresh_word old.variables word_width;
  lits = subst (λ (xs : List Lit). AreLits new xs) (sym e) (fresh_in new old.variables word_width (omega arith));
}

-- the input that was written, and the others
pub input_set_same : (inputs : List (List Lit)) (number : ℕ) (w : List Lit) → number < length inputs → input_at (set inputs number w) number ≡ w
input_set_same inputs number w lt = get_or-set_same inputs number w [] lt

-- an input that is set leaves the others as they were
pub input_set_other : (inputs : List (List Lit)) (number i : ℕ) (w : List Lit) → (i ≡ number → ⊥) → input_at (set inputs number w) i ≡ input_at inputs i
input_set_other inputs number i w ne = get_or-set_other inputs number i w [] ne

-- what holds of the written input and of the others holds of each
set_cases : (P : ℕ → List Lit → Type 0) (inputs : List (List Lit)) (number : ℕ) (w : List Lit) → number < length inputs → P number w → ((i : ℕ) → (i ≡ number → ⊥) → P i (input_at inputs i)) → (i : ℕ) → P i (input_at (set inputs number w) i)
set_cases P inputs number w lt here others i = by (eqb i number) refl
  where
    by : (b : Bool) → eqb i number ≡ b → P i (input_at (set inputs number w) i)
    by true e = let same = eqb-true i number e in subst (λ (j : ℕ). P j (input_at (set inputs number w) j)) (sym same) (subst (λ (xs : List Lit). P number xs) (sym (input_set_same inputs number w lt)) here)
    by false e = let other = eqb-false i number e in subst (λ (xs : List Lit). P i xs) (sym (input_set_other inputs number i w other)) (others i other)

-- the others read as before
reads_before : (a : Assignment) (inputs : List (List Lit)) (number : ℕ) (w : List Lit) (v : ℕ → ℕ) → number < length inputs → length (input_at inputs number) ≡ 0 → Reads a (set inputs number w) v → Reads a inputs v
unfolding Reads
reads_before a inputs number w v lt none h i some = by (eqb i number) refl
  where
    by : (b : Bool) → eqb i number ≡ b → word a (input_at inputs i) ≡ v i
    by true e = let same = eqb-true i number e in absurd (let z : length (input_at inputs i) ≡ 0 = ap (λ (j : ℕ). length (input_at inputs j)) same ∙ none in omega arith)
    by false e =
        let other = eqb-false i number e in
        let is = input_set_other inputs number i w other in
        ap (word a) (sym is) ∙ h i (subst (λ (xs : List Lit). 0 < length xs) (sym is) some)

-- an assignment that reads the inputs reads the one that was set
reads_now : (a : Assignment) (inputs : List (List Lit)) (number : ℕ) (w : List Lit) (v : ℕ → ℕ) → number < length inputs → 0 < length w → Reads a (set inputs number w) v → word a w ≡ v number
unfolding Reads
reads_now a inputs number w v lt some h =
    let is = input_set_same inputs number w lt in
    ap (word a) (sym is) ∙ h number (subst (λ (xs : List Lit). 0 < length xs) (sym is) some)

-- one that reads the others and the new one reads all
reads_set : (a : Assignment) (inputs : List (List Lit)) (number : ℕ) (w : List Lit) (v : ℕ → ℕ) → number < length inputs → word a w ≡ v number → Reads a inputs v → Reads a (set inputs number w) v
unfolding Reads
reads_set a inputs number w v lt here h =
    set_cases (λ i xs. 0 < length xs → word a xs ≡ v i) inputs number w lt (λ some. here) (λ i other. h i)

-- the first node of an input
pub encodes_input : (old new : Circuit) (inputs nodes : List (List Lit)) (values : (ℕ → ℕ) → List ℕ) (number : ℕ) (w : List Lit)
    → IsCircuit old → Encodes old inputs nodes values → number < length inputs → length (input_at inputs number) ≡ 0
    → new.variables ≡ old.variables + word_width → new.clauses ≡ old.clauses → w ≡ fresh_word old.variables word_width
    → Encodes new (set inputs number w) (nodes ++ w ∷ []) (λ v. values v ++ v number ∷ [])
unfolding AreInputs
encodes_input old new inputs nodes values number w circuit h lt none more same is =
    let in_ = fresh_bits_in old new w more is in
    let some : 0 < length w = omega (arith, in_.length) in
    let smaller : (a : Assignment) → Satisfies a new.clauses → Satisfies a old.clauses = λ a s. subst (λ (cs : List (List Lit)). Satisfies a cs) same s in
    record {
      inputs_in = set_cases (λ i xs. 0 < length xs → AreBits new word_width xs) inputs number w lt (λ s. in_) (λ i other. inputs_more old new inputs (omega arith) h.inputs_in i);
      some = λ v range.
          let a = h.some v range in
          let b = fresh_any old.variables word_width (v number) a.0 (range number) in (
            b.0,
            subst (λ (cs : List (List Lit)). Satisfies b.0 cs) (sym same) (satisfies_agrees old.variables a.0 b.0 old.clauses b.1 circuit.below a.1),
            reads_set b.0 inputs number w v lt (ap (word b.0) is ∙ b.2) (reads_agree old a.0 b.0 inputs v b.1 h.inputs_in a.2),
          );
      once = λ v a b s t r q.
          let before = h.once v a b (smaller a s) (smaller b t) (reads_before a inputs number w v lt none r) (reads_before b inputs number w v lt none q) in
          let one : word a w ≡ word b w = reads_now a inputs number w v lt some r ∙ sym (reads_now b inputs number w v lt some q) in
          subst (λ (n : ℕ). Agree n a b) (sym more) (fresh_once old.variables word_width a b before (ap (word a) (sym is) ∙ one ∙ ap (word b) is));
      says = λ v a s r.
          let before = h.says v a (smaller a s) (reads_before a inputs number w v lt none r) in
          words_push a nodes w ∙ ap (λ (n : ℕ). words a nodes ++ n ∷ []) (reads_now a inputs number w v lt some r) ∙ ap (λ (ns : List ℕ). ns ++ v number ∷ []) before;
    }

-- ---- the start

-- a new builder encodes no node, where no input is read
pub encodes_new : (start : Circuit) (inputs : List (List Lit)) → start.variables ≡ 1 → start.clauses ≡ first_clauses → ((i : ℕ) → length (input_at inputs i) ≡ 0) → Encodes start inputs [] (λ v. [])
unfolding Satisfies clause_value Reads AreInputs Agree
encodes_new start inputs one clauses none = record {
  inputs_in = λ i some. absurd (let z = none i in omega arith);
  some = λ v range. (
    (λ x. true),
    subst (λ (cs : List (List Lit)). Satisfies (λ x. true) cs) (sym clauses) (or_left _ false (value-positive (λ x. true) (record { 0 = 0 }) 0 refl), tt),
    (λ i some. absurd (let z = none i in omega arith)),
  );
  once = λ v a b s t r q x lt.
      let at : x ≡ 0 = omega arith in
      let here : (c : Assignment) → Satisfies c start.clauses → c 0 ≡ true =
      λ c u. sym (value-positive c (record { 0 = 0 }) 0 refl) ∙ sym (or-false _) ∙ ((subst (λ (cs : List (List Lit)). Satisfies c cs) clauses u).0) in
      ap a at ∙ here a s ∙ sym (here b t) ∙ ap b (sym at);
  says = λ v a s r. refl;
}
