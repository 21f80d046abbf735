-- The node of an expression has the expression's value.
use Rattle.std.proofs.Common.{◌≡◌, ℕ, zero, suc, ◌+◌, ◌*◌, ◌≤◌, ◌<◌, Bool, true, false, cond, nat_le, nat_lt, List, [], ◌∷◌, length, map, slice_index, refl, sym, ◌∙◌, ap, subst, arith}
use Rattle.std.specs.Prelude.{◌==◌, if◌then◌else◌}
use Rattle.std.proofs.lemmas.Bool.{eqb-true, eqb-false}
use Rattle.lz_base.specs.Words.{value_bound, truth, unary_value, binary_value, converted}
use Rattle.lz_base.specs.declared.operator.Unary.{Unary}
use Rattle.lz_base.specs.declared.operator.Binary.{Binary}
use Rattle.lz_base.specs.declared.word.IntType.{IntType}
use Rattle.lz_flat.specs.Programs.{Expression, constant, word, element, unary, binary, convert, choose}
use Rattle.lz_flat.specs.Instructions.{value}
use Rattle.lz_flat.specs.WellFormed.{IsExpressionOf, AreWithin}
use Rattle.lz_flat.specs.Weight.{unary_number, binary_number, element_number, expression_weight, long_index_number}
use Rattle.lz_ssa.specs.declared.node.Node.TheVariants as nodes
use Rattle.lz_ssa.specs.declared.decode.Decoder.{Decoder}
use Rattle.lz_ssa.specs.Construction.{Drawn, With, add, word_node, decode, at_place, Decoded, read_turn, read_from, read_element, expression_node}
use Rattle.lz_ssa.proofs.ValueLemmas.{AreWords}
use Rattle.lz_ssa.proofs.DraftLemmas.{word_at, memory_of, Sound, Grows, Gives, grows_then, grows_none, gives_as, gives_then, add_gives, word_gives}
use Rattle.lz_ssa.proofs.DecodeLemmas.{Means, means_of, means_grows, Decodes, decode_gives, decode_weight, test_weight}

-- ---- the words of a draft stay as many

-- a mapped list is as long
length_mapped : {A : Type 0} (f : A → ℕ) (xs : List A) → length (map f xs) ≡ length xs
length_mapped f [] = refl
length_mapped f (x ∷ xs) = ap suc (length_mapped f xs)

-- the memory has as many words as the draft
pub length_memory : (input : ℕ → ℕ) (d : Drawn) → length (memory_of input d) ≡ length d.words
unfolding memory_of
length_memory input d = length_mapped _ d.words

-- a node that was made keeps how many words there are
pub gives_words : (inputs : ℕ) (d : Drawn) (m : With) (f : (ℕ → ℕ) → ℕ) (w : ℕ) → Gives inputs d m f w → length m.drawn.words ≡ length d.words
gives_words inputs d m f w gives =
    let input : ℕ → ℕ = λ k. 0 in
    sym (length_memory input m.drawn) ∙ ap length (gives.memory input) ∙ length_memory input d

-- ---- a choice

-- a choice between two words
abbrev pub chosen_word : ℕ → ℕ → ℕ → ℕ
chosen_word test chosen other = if test == 0 then other else chosen

-- a choice of nodes gives the choice of their words
pub choose_gives : (inputs : ℕ) (d : Drawn) (test chosen other : ℕ) (f g h : (ℕ → ℕ) → ℕ) → Sound inputs d → Means inputs d test f → Means inputs d chosen g → Means inputs d other h
    → Gives inputs d (add (nodes.Choose test chosen other) d) (λ input. chosen_word (f input) (g input) (h input)) 33
choose_gives inputs d test chosen other f g h sound mf mg mh =
    add_gives inputs d (nodes.Choose test chosen other) (λ input. chosen_word (f input) (g input) (h input)) sound (mf.within, mg.within, mh.within)
    (λ input small. rw (mf.is input small, mg.is input small, mh.is input small) refl)

-- ---- a read by an index

-- the word that an index chooses among the first places, or 0
abbrev pub read_word : List ℕ → ℕ → ℕ → ℕ → ℕ
read_word memory first places i = if nat_lt i places then slice_index memory (first + i) else 0

-- one place more
read_more : (memory : List ℕ) (first place i : ℕ) → chosen_word (truth (i == place)) (slice_index memory (first + place)) (read_word memory first place i) ≡ read_word memory first (suc place) i
read_more memory first place i = by_test (i == place) refl (nat_lt i place) refl (nat_lt i (suc place)) refl
  where
    by_test : (e : Bool) → (i == place) ≡ e → (b : Bool) → nat_lt i place ≡ b → (c : Bool) → nat_lt i (suc place) ≡ c
        → chosen_word (truth e) (slice_index memory (first + place)) (cond b (slice_index memory (first + i)) 0) ≡ cond c (slice_index memory (first + i)) 0
    by_test true h b k true l = ap (λ (p : ℕ). slice_index memory (first + p)) (sym (eqb-true i place h))
    by_test true h b k false l = let same = eqb-true i place h in let above : suc place ≤ i = grind arith in absurd (let z : ⊥ = omega arith in z)
    by_test false h true k true l = refl
    by_test false h true k false l = let below : i < place = grind arith in let above : suc place ≤ i = grind arith in absurd (let z : ⊥ = omega arith in z)
    by_test false h false k true l = let above : place ≤ i = grind arith in let below : i < suc place = grind arith in absurd (eqb-false i place h (omega arith))
    by_test false h false k false l = refl

-- one place of a read
read_turn_gives : (inputs : ℕ) (d : Drawn) (decoder : Decoder) (first len place t w : ℕ) (so_far : With) (index : (ℕ → ℕ) → ℕ) → Decodes inputs d decoder len index t → Grows inputs d so_far.drawn w → place < len
    → first + place < length so_far.drawn.words → so_far.node < length so_far.drawn.list → (memory : (ℕ → ℕ) → List ℕ) → ((input : ℕ → ℕ) → memory_of input so_far.drawn ≡ memory input)
    → ((input : ℕ → ℕ) → AreWords input → word_at input so_far.drawn so_far.node ≡ read_word (memory input) first place (index input))
    → Gives inputs so_far.drawn (read_turn decoder first place so_far) (λ input. read_word (memory input) first (suc place) (index input)) (t + 2 + 33)
unfolding read_turn
read_turn_gives inputs d decoder first len place t w so_far index decodes g lt within node memory same is =
    let test : With = at_place decoder place so_far.drawn in
    let gt = decodes.tests place lt so_far.drawn w g in
    let here : With = word_node (first + place) test.drawn in
    let words : length test.drawn.words ≡ length so_far.drawn.words = gives_words inputs so_far.drawn test (λ input. truth (index input == place)) t gt in
    let gw = word_gives inputs test.drawn (first + place) gt.grows.sound (omega (arith, words)) in
    let means_test = means_grows inputs test.drawn here.drawn test.node (λ input. truth (index input == place)) 2 (means_of inputs so_far.drawn test (λ input. truth (index input == place)) t gt) gw.grows in
    let means_word = means_of inputs test.drawn here (λ input. slice_index (memory_of input test.drawn) (first + place)) 2 gw in
    let both = grows_then inputs so_far.drawn test.drawn here.drawn t 2 gt.grows gw.grows in
    let means_old = means_grows inputs so_far.drawn here.drawn so_far.node (λ input. read_word (memory input) first place (index input)) (t + 2) (record { within = node; is = is }) both in
    let chosen : With = add (nodes.Choose test.node here.node so_far.node) here.drawn in
    let gc = choose_gives inputs here.drawn test.node here.node so_far.node (λ input. truth (index input == place)) (λ input. slice_index (memory_of input test.drawn) (first + place)) (λ input. read_word (memory input) first place (index input))
    gw.grows.sound means_test means_word means_old in
    let stays : (input : ℕ → ℕ) → memory_of input here.drawn ≡ memory_of input so_far.drawn = λ input. gw.memory input ∙ gt.memory input in
    let to_memory : (input : ℕ → ℕ) → memory_of input test.drawn ≡ memory input = λ input. gt.memory input ∙ same input in
    gives_as inputs so_far.drawn chosen (λ input. chosen_word (truth (index input == place)) (slice_index (memory_of input test.drawn) (first + place)) (read_word (memory input) first place (index input)))
    (λ input. read_word (memory input) first (suc place) (index input)) (t + 2 + 33) (t + 2 + 33)
    (gives_then inputs so_far.drawn here.drawn chosen (λ input. chosen_word (truth (index input == place)) (slice_index (memory_of input test.drawn) (first + place)) (read_word (memory input) first place (index input))) (t + 2) 33 both stays gc)
    (λ input small. ap (λ (ws : List ℕ). chosen_word (truth (index input == place)) (slice_index ws (first + place)) (read_word (memory input) first place (index input))) (to_memory input)
    ∙ read_more (memory input) first place (index input))
    (omega arith)

-- the places of a read that are left
read_from_gives : (inputs : ℕ) (d : Drawn) (decoder : Decoder) (first len place more t w : ℕ) (so_far : With) (index : (ℕ → ℕ) → ℕ) → Decodes inputs d decoder len index t → Grows inputs d so_far.drawn w → place + more ≡ len
    → AreWithin (length so_far.drawn.words) first len → so_far.node < length so_far.drawn.list → (memory : (ℕ → ℕ) → List ℕ) → ((input : ℕ → ℕ) → memory_of input so_far.drawn ≡ memory input)
    → ((input : ℕ → ℕ) → AreWords input → word_at input so_far.drawn so_far.node ≡ read_word (memory input) first place (index input))
    → Gives inputs so_far.drawn (read_from decoder first place more so_far) (λ input. read_word (memory input) first len (index input)) (more * (t + 35))
unfolding read_from
read_from_gives inputs d decoder first len place zero t w so_far index decodes g all within node memory same is = record {
  grows = record { more = (grows_none inputs so_far.drawn g.sound).more; is = (grows_none inputs so_far.drawn g.sound).is; sound = g.sound; weighs = omega arith };
  within = node;
  means = λ input small. is input small ∙ ap (λ (p : ℕ). read_word (memory input) first p (index input)) (let z : place ≡ len = omega arith in z);
  memory = λ input. refl;
}
read_from_gives inputs d decoder first len place (suc more) t w so_far index decodes g all within node memory same is =
    let turn : With = read_turn decoder first place so_far in
    let gt = read_turn_gives inputs d decoder first len place t w so_far index decodes g (omega arith) (within place (omega arith)) node memory same is in
    let words : length turn.drawn.words ≡ length so_far.drawn.words = gives_words inputs so_far.drawn turn (λ input. read_word (memory input) first (suc place) (index input)) (t + 2 + 33) gt in
    let later = read_from_gives inputs d decoder first len (suc place) more t (w + (t + 2 + 33)) turn index decodes (grows_then inputs d so_far.drawn turn.drawn w (t + 2 + 33) g gt.grows) (omega arith)
    (λ k lt. let h = within k lt in omega (arith, words)) gt.within memory (λ input. gt.memory input ∙ same input) gt.means in
    let weighs : t + 2 + 33 + more * (t + 35) ≤ suc more * (t + 35) = let m : suc more * (t + 35) ≡ more * (t + 35) + (t + 35) = grind arith in omega (arith, m) in
    gives_as inputs so_far.drawn (read_from decoder first (suc place) more turn) (λ input. read_word (memory input) first len (index input)) (λ input. read_word (memory input) first len (index input))
    (t + 2 + 33 + more * (t + 35)) (suc more * (t + 35))
    (gives_then inputs so_far.drawn turn.drawn (read_from decoder first (suc place) more turn) (λ input. read_word (memory input) first len (index input)) (t + 2 + 33) (more * (t + 35)) gt.grows gt.memory later)
    (λ input small. refl) weighs

-- what a read by an index weighs
element_weighs : (len : ℕ) → decode_weight len + 2 + len * (test_weight len + 35) ≤ element_number len
element_weighs len = by_length (nat_le len 32)
  where
    by_length : (b : Bool) → cond b 0 (long_index_number len) + 2 + len * (cond b 35 3 + 35) ≤ cond b (70 * len + 2) (long_index_number len + 38 * len + 2)
    by_length true = omega arith
    by_length false = omega arith

-- a read by an index
element_gives : (inputs first len w : ℕ) (d : Drawn) (m : With) (index : (ℕ → ℕ) → ℕ) → Gives inputs d m index w → AreWithin (length d.words) first len → len ≤ 4294967296
    → Gives inputs d (read_element first len m) (λ input. read_word (memory_of input d) first len (index input)) (w + element_number len)
unfolding read_element
element_gives inputs first len w d m index gives within short =
    let decoded : Decoded = decode m.node len m.drawn in
    let gd = decode_gives inputs m.drawn m.node len index gives.grows.sound (means_of inputs d m index w gives) short in
    let zero_ : With = add (nodes.Constant 0) decoded.drawn in
    let gz = add_gives inputs decoded.drawn (nodes.Constant 0) (λ input. 0) gd.grows.sound (let z : 0 < value_bound = omega arith in z) (λ input small. refl) in
    let to_d : (input : ℕ → ℕ) → memory_of input zero_.drawn ≡ memory_of input d = λ input. gz.memory input ∙ gd.memory input ∙ gives.memory input in
    let words : length zero_.drawn.words ≡ length d.words = let input : ℕ → ℕ = λ k. 0 in sym (length_memory input zero_.drawn) ∙ ap length (to_d input) ∙ length_memory input d in
    let grown = grows_then inputs d m.drawn decoded.drawn w (decode_weight len) gives.grows gd.grows in
    let grown_zero = grows_then inputs d decoded.drawn zero_.drawn (w + decode_weight len) 2 grown gz.grows in
    let read = read_from_gives inputs decoded.drawn decoded.decoder first len 0 len (test_weight len) 2 zero_ index gd.decodes gz.grows (omega arith)
    (λ k lt. let h = within k lt in omega (arith, words)) gz.within (λ input. memory_of input d) to_d
    (λ input small. gz.means input small ∙ none input) in
    let weighs = element_weighs len in
    gives_as inputs d (read_from decoded.decoder first 0 len zero_) (λ input. read_word (memory_of input d) first len (index input)) (λ input. read_word (memory_of input d) first len (index input))
    (w + decode_weight len + 2 + len * (test_weight len + 35)) (w + element_number len)
    (gives_then inputs d zero_.drawn (read_from decoded.decoder first 0 len zero_) (λ input. read_word (memory_of input d) first len (index input)) (w + decode_weight len + 2) (len * (test_weight len + 35)) grown_zero to_d read)
    (λ input small. refl) (omega (arith, weighs))
  where
    none : (input : ℕ → ℕ) → 0 ≡ read_word (memory_of input d) first 0 (index input)
    none input = by_test (nat_lt (index input) 0) refl
      where
        by_test : (b : Bool) → nat_lt (index input) 0 ≡ b → 0 ≡ cond b (slice_index (memory_of input d) (first + index input)) 0
        by_test true e = absurd (let z : index input < 0 = grind arith in let y : ⊥ = omega arith in y)
        by_test false e = refl

-- ---- expressions

-- a unary operator at a node
unary_gives : (inputs w : ℕ) (d : Drawn) (m : With) (op : Unary) (kind : IntType) (f : (ℕ → ℕ) → ℕ) → Gives inputs d m f w
    → Gives inputs d (add (nodes.Unary op kind m.node) m.drawn) (λ input. unary_value op (f input) kind) (w + unary_number op)
unary_gives inputs w d m op kind f gives =
    gives_then inputs d m.drawn (add (nodes.Unary op kind m.node) m.drawn) (λ input. unary_value op (f input) kind) w (unary_number op) gives.grows gives.memory
    (add_gives inputs m.drawn (nodes.Unary op kind m.node) (λ input. unary_value op (f input) kind) gives.grows.sound gives.within (λ input small. ap (λ (v : ℕ). unary_value op v kind) (gives.means input small)))

-- a conversion of a node
convert_gives : (inputs w : ℕ) (d : Drawn) (m : With) (from to : IntType) (f : (ℕ → ℕ) → ℕ) → Gives inputs d m f w
    → Gives inputs d (add (nodes.Convert from to m.node) m.drawn) (λ input. converted (f input) from to) (w + 2)
convert_gives inputs w d m from to f gives =
    gives_then inputs d m.drawn (add (nodes.Convert from to m.node) m.drawn) (λ input. converted (f input) from to) w 2 gives.grows gives.memory
    (add_gives inputs m.drawn (nodes.Convert from to m.node) (λ input. converted (f input) from to) gives.grows.sound gives.within (λ input small. ap (λ (v : ℕ). converted v from to) (gives.means input small)))

-- two nodes, the second made after the first
pub record Pair (inputs : ℕ) (d : Drawn) (first second : With) (f g : (ℕ → ℕ) → ℕ) (weight : ℕ) : Type 0 where
  pub grows : Grows inputs d second.drawn weight
  pub memory : (input : ℕ → ℕ) → memory_of input second.drawn ≡ memory_of input d
  pub first_means : Means inputs second.drawn first.node f
  pub second_means : Means inputs second.drawn second.node g

-- a node behind a node
pub pair_gives : (inputs w v : ℕ) (d : Drawn) (m n : With) (f g : (ℕ → ℕ) → ℕ) → Gives inputs d m f w → Gives inputs m.drawn n g v → Pair inputs d m n f g (w + v)
pair_gives inputs w v d m n f g first second = record {
  grows = grows_then inputs d m.drawn n.drawn w v first.grows second.grows;
  memory = λ input. second.memory input ∙ first.memory input;
  first_means = means_grows inputs m.drawn n.drawn m.node f v (means_of inputs d m f w first) second.grows;
  second_means = means_of inputs m.drawn n g v second;
}

-- a binary operator at two nodes
binary_gives : (inputs w : ℕ) (d : Drawn) (m n : With) (op : Binary) (kind : IntType) (f g : (ℕ → ℕ) → ℕ) → Pair inputs d m n f g w
    → Gives inputs d (add (nodes.Binary op kind m.node n.node) n.drawn) (λ input. binary_value op (f input) (g input) kind) (w + binary_number op)
binary_gives inputs w d m n op kind f g pair =
    gives_then inputs d n.drawn (add (nodes.Binary op kind m.node n.node) n.drawn) (λ input. binary_value op (f input) (g input) kind) w (binary_number op) pair.grows pair.memory
    (add_gives inputs n.drawn (nodes.Binary op kind m.node n.node) (λ input. binary_value op (f input) (g input) kind) pair.grows.sound (pair.first_means.within, pair.second_means.within)
    (λ input small. rw (pair.first_means.is input small, pair.second_means.is input small) refl))

-- the value of an expression in a draft's memory
abbrev pub value_in : Expression → Drawn → (ℕ → ℕ) → ℕ
value_in e d input = value e (memory_of input d)

-- in another draft with the same memory
pub moved_back : (inputs : ℕ) (d e : Drawn) (m : With) (x : Expression) (w : ℕ) → ((input : ℕ → ℕ) → memory_of input e ≡ memory_of input d) → Gives inputs e m (value_in x e) w → Gives inputs e m (value_in x d) w
moved_back inputs d e m x w same gives = gives_as inputs e m (value_in x e) (value_in x d) w w gives (λ input small. ap (value x) (same input)) (omega arith)

-- a list within the words is no longer than they are many
pub length_bound : (n first len : ℕ) → n ≤ 4294967296 → AreWithin n first len → len ≤ 4294967296
length_bound n first zero short within = omega arith
length_bound n first (suc len) short within = let h = within len (omega arith) in omega arith

-- the node of an expression has its value, and weighs no more
pub expression_gives : (inputs : ℕ) (e : Expression) (d : Drawn) → Sound inputs d → length d.words ≤ 4294967296 → IsExpressionOf (length d.words) e → Gives inputs d (expression_node e d) (value_in e d) (expression_weight e)
unfolding expression_node value
expression_gives inputs (constant v) d sound short is = add_gives inputs d (nodes.Constant v) (λ input. v) sound is (λ input small. refl)
expression_gives inputs (word place) d sound short is = word_gives inputs d place sound is
expression_gives inputs (element first len index) d sound short is =
    let i = expression_gives inputs index d sound short is.1 in
    gives_as inputs d (read_element first len (expression_node index d)) (λ input. read_word (memory_of input d) first len (value index (memory_of input d))) (value_in (element first len index) d)
    (expression_weight index + element_number len) (element_number len + expression_weight index)
    (element_gives inputs first len (expression_weight index) d (expression_node index d) (value_in index d) i is.0 (length_bound (length d.words) first len short is.0)) (λ input small. refl) (omega arith)
expression_gives inputs (unary op kind of) d sound short is =
    gives_as inputs d (expression_node (unary op kind of) d) (value_in (unary op kind of) d) (value_in (unary op kind of) d) (expression_weight of + unary_number op) (unary_number op + expression_weight of)
    (unary_gives inputs (expression_weight of) d (expression_node of d) op kind (value_in of d) (expression_gives inputs of d sound short is)) (λ input small. refl) (omega arith)
expression_gives inputs (convert from to of) d sound short is =
    gives_as inputs d (expression_node (convert from to of) d) (value_in (convert from to of) d) (value_in (convert from to of) d) (expression_weight of + 2) (2 + expression_weight of)
    (convert_gives inputs (expression_weight of) d (expression_node of d) from to (value_in of d) (expression_gives inputs of d sound short is)) (λ input small. refl) (omega arith)
expression_gives inputs (binary op kind left right) d sound short is =
    let l = expression_gives inputs left d sound short is.0 in
    let dl : Drawn = (expression_node left d).drawn in
    let same : length dl.words ≡ length d.words = gives_words inputs d (expression_node left d) (value_in left d) (expression_weight left) l in
    let r = moved_back inputs d dl (expression_node right dl) right (expression_weight right) l.memory
    (expression_gives inputs right dl l.grows.sound (omega (arith, same)) (subst (λ (n : ℕ). IsExpressionOf n right) (sym same) is.1)) in
    gives_as inputs d (expression_node (binary op kind left right) d) (value_in (binary op kind left right) d) (value_in (binary op kind left right) d)
    (expression_weight left + expression_weight right + binary_number op) (binary_number op + expression_weight left + expression_weight right)
    (binary_gives inputs (expression_weight left + expression_weight right) d (expression_node left d) (expression_node right dl) op kind (value_in left d) (value_in right d)
    (pair_gives inputs (expression_weight left) (expression_weight right) d (expression_node left d) (expression_node right dl) (value_in left d) (value_in right d) l r))
    (λ input small. refl) (omega arith)
expression_gives inputs (choose test chosen other) d sound short is =
    let t = expression_gives inputs test d sound short is.0 in
    let dt : Drawn = (expression_node test d).drawn in
    let same : length dt.words ≡ length d.words = gives_words inputs d (expression_node test d) (value_in test d) (expression_weight test) t in
    let c = moved_back inputs d dt (expression_node chosen dt) chosen (expression_weight chosen) t.memory
    (expression_gives inputs chosen dt t.grows.sound (omega (arith, same)) (subst (λ (n : ℕ). IsExpressionOf n chosen) (sym same) is.1)) in
    let dc : Drawn = (expression_node chosen dt).drawn in
    let first = pair_gives inputs (expression_weight test) (expression_weight chosen) d (expression_node test d) (expression_node chosen dt) (value_in test d) (value_in chosen d) t c in
    let same' : length dc.words ≡ length dt.words = gives_words inputs dt (expression_node chosen dt) (value_in chosen d) (expression_weight chosen) c in
    let o = moved_back inputs d dc (expression_node other dc) other (expression_weight other) first.memory
    (expression_gives inputs other dc c.grows.sound (omega (arith, same, same')) (subst (λ (n : ℕ). IsExpressionOf n other) (sym (same' ∙ same)) is.2)) in
    let do_ : Drawn = (expression_node other dc).drawn in
    let w = expression_weight test + expression_weight chosen in
    gives_as inputs d (expression_node (choose test chosen other) d) (value_in (choose test chosen other) d) (value_in (choose test chosen other) d)
    (w + expression_weight other + 33) (33 + expression_weight test + expression_weight chosen + expression_weight other)
    (gives_then inputs d do_ (expression_node (choose test chosen other) d) (value_in (choose test chosen other) d) (w + expression_weight other) 33
    (grows_then inputs d dc do_ w (expression_weight other) first.grows o.grows) (λ input. o.memory input ∙ first.memory input)
    (choose_gives inputs do_ (expression_node test d).node (expression_node chosen dt).node (expression_node other dc).node (value_in test d) (value_in chosen d) (value_in other d) o.grows.sound
    (means_grows inputs dc do_ (expression_node test d).node (value_in test d) (expression_weight other) first.first_means o.grows)
    (means_grows inputs dc do_ (expression_node chosen dt).node (value_in chosen d) (expression_weight other) first.second_means o.grows)
    (means_of inputs dc (expression_node other dc) (value_in other d) (expression_weight other) o)))
    (λ input small. refl) (omega arith)
