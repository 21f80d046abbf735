-- What a draft that grows gives: the nodes before keep their words, and a node that was made has a word that
-- the inputs determine.
use Rattle.std.proofs.Common.{◌≡◌, ℕ, zero, suc, ◌+◌, ◌≤◌, ◌<◌, List, [], ◌∷◌, ◌++◌, length, map, set, slice_index, slice_index_or, refl, sym, ◌∙◌, ap, subst, arith}
use Rattle.std.specs.List.{AllByRecursion}
use Rattle.std.proofs.lemmas.List.{append_assoc, append-nil, length-append}
use Rattle.lz_base.specs.Words.{value_bound}
use Rattle.lz_ssa.specs.declared.node.Node.{Node}
use Rattle.lz_ssa.specs.declared.node.Node.TheVariants as nodes
use Rattle.lz_ssa.specs.declared.draft.Held.{Held}
use Rattle.lz_ssa.specs.declared.draft.Held.TheVariants.{First, Made}
use Rattle.lz_ssa.specs.NodeValues.{node_value, values_of, IsNodeOf, AreNodesFrom}
use Rattle.lz_ssa.specs.NodeWeight.{node_number, nodes_weight}
use Rattle.lz_ssa.specs.Construction.{Drawn, With, add, held_node, word_node, with_word}
use Rattle.lz_ssa.proofs.ValueLemmas.{value_stays, value_last, nodes_append, nodes_one, AreWords, weight_append}

-- the word of a node of a draft
abbrev pub word_at : (ℕ → ℕ) → Drawn → ℕ → ℕ
word_at input drawn node = slice_index (values_of input drawn.list) node

-- the word that a word of the memory has
abbrev pub held_word : List ℕ → Held → ℕ
held_word words (First value) = value
held_word words (Made node) = slice_index words node

-- the memory that a draft stands for
unfoldable pub memory_of : (ℕ → ℕ) → Drawn → List ℕ
memory_of input drawn = map (held_word (values_of input drawn.list)) drawn.words

-- a first value is a word, and a node is one of so many
abbrev pub IsHeldOf : ℕ → Held → Type 0
IsHeldOf n (First value) = value < value_bound
IsHeldOf n (Made node) = node < n

-- the nodes of a draft name earlier ones, and its words name its nodes
pub record Sound (inputs : ℕ) (drawn : Drawn) : Type 0 where
  pub formed : AreNodesFrom inputs 0 drawn.list
  pub held : AllByRecursion (IsHeldOf (length drawn.list)) drawn.words

-- a draft grew: nodes stand behind those before, which weigh so much at most
pub record Grows (inputs : ℕ) (before after : Drawn) (weight : ℕ) : Type 0 where
  pub more : List Node
  pub is : after.list ≡ before.list ++ more
  pub sound : Sound inputs after
  pub weighs : nodes_weight after.list ≤ nodes_weight before.list + weight

-- a draft grew to a node with a word that the inputs determine, and its memory stayed
pub record Gives (inputs : ℕ) (before : Drawn) (made : With) (word : (ℕ → ℕ) → ℕ) (weight : ℕ) : Type 0 where
  pub grows : Grows inputs before made.drawn weight
  pub within : made.node < length made.drawn.list
  pub means : (input : ℕ → ℕ) → AreWords input → word_at input made.drawn made.node ≡ word input
  pub memory : (input : ℕ → ℕ) → memory_of input made.drawn ≡ memory_of input before

-- ---- growth

-- a draft that grew has no fewer nodes
pub grows_length : (inputs : ℕ) (d e : Drawn) (w : ℕ) → Grows inputs d e w → length d.list ≤ length e.list
grows_length inputs d e w g = let k = ap length g.is in let s = length-append d.list g.more in omega (arith, k, s)

-- the words of the nodes before stay
pub grows_keeps : (inputs : ℕ) (d e : Drawn) (w : ℕ) → Grows inputs d e w → (input : ℕ → ℕ) (k : ℕ) → k < length d.list → word_at input e k ≡ word_at input d k
grows_keeps inputs d e w g input k lt = ap (λ (list : List Node). slice_index (values_of input list) k) g.is ∙ value_stays input d.list g.more k lt

-- growth behind growth
pub grows_then : (inputs : ℕ) (d e f : Drawn) (w v : ℕ) → Grows inputs d e w → Grows inputs e f v → Grows inputs d f (w + v)
grows_then inputs d e f w v g h = record {
  more = g.more ++ h.more;
  is = h.is ∙ ap (λ (list : List Node). list ++ h.more) g.is ∙ append_assoc d.list g.more h.more;
  sound = h.sound;
  weighs = let a = g.weighs in let b = h.weighs in omega arith;
}

-- no growth
pub grows_none : (inputs : ℕ) (d : Drawn) → Sound inputs d → Grows inputs d d 0
grows_none inputs d sound = record { more = []; is = sym (append-nil d.list); sound = sound; weighs = omega arith }

-- growth of at most a greater weight
pub grows_most : (inputs : ℕ) (d e : Drawn) (w v : ℕ) → w ≤ v → Grows inputs d e w → Grows inputs d e v
grows_most inputs d e w v le g = record { more = g.more; is = g.is; sound = g.sound; weighs = let a = g.weighs in omega arith }

-- ---- what a node gives

-- another way to say what its word is, and a greater bound on what was added
pub gives_as : (inputs : ℕ) (d : Drawn) (m : With) (f g : (ℕ → ℕ) → ℕ) (w v : ℕ) → Gives inputs d m f w → ((input : ℕ → ℕ) → AreWords input → f input ≡ g input) → w ≤ v → Gives inputs d m g v
gives_as inputs d m f g w v gives same le = record {
  grows = grows_most inputs d m.drawn w v le gives.grows;
  within = gives.within;
  means = λ input small. gives.means input small ∙ same input small;
  memory = gives.memory;
}

-- after growth that keeps the memory
pub gives_then : (inputs : ℕ) (d e : Drawn) (m : With) (f : (ℕ → ℕ) → ℕ) (w v : ℕ) → Grows inputs d e w → ((input : ℕ → ℕ) → memory_of input e ≡ memory_of input d) → Gives inputs e m f v → Gives inputs d m f (w + v)
gives_then inputs d e m f w v g same gives = record {
  grows = grows_then inputs d e m.drawn w v g gives.grows;
  within = gives.within;
  means = gives.means;
  memory = λ input. gives.memory input ∙ same input;
}

-- a node that was made before means the same later
pub means_later : (inputs : ℕ) (d e : Drawn) (m : With) (f : (ℕ → ℕ) → ℕ) (w v : ℕ) → Gives inputs d m f w → Grows inputs m.drawn e v → (input : ℕ → ℕ) → AreWords input → word_at input e m.node ≡ f input
means_later inputs d e m f w v gives g input small = grows_keeps inputs m.drawn e v g input m.node gives.within ∙ gives.means input small

-- a node that was made stays one of the nodes
pub within_later : (inputs : ℕ) (d e : Drawn) (m : With) (f : (ℕ → ℕ) → ℕ) (w v : ℕ) → Gives inputs d m f w → Grows inputs m.drawn e v → m.node < length e.list
within_later inputs d e m f w v gives g = let a = gives.within in let b = grows_length inputs m.drawn e v g in omega arith

-- ---- the memory

-- what names nodes of a draft names nodes of a longer one
held_later : (n m : ℕ) (words : List Held) → n ≤ m → AllByRecursion (IsHeldOf n) words → AllByRecursion (IsHeldOf m) words
held_later n m [] le all = tt
held_later n m (First v ∷ rest) le all = (all.0, held_later n m rest le all.1)
held_later n m (Made k ∷ rest) le all = ((let a = all.0 in omega arith), held_later n m rest le all.1)

-- words that name nodes before stay where nodes stand behind
held_stays : (input : ℕ → ℕ) (xs ys : List Node) (words : List Held) → AllByRecursion (IsHeldOf (length xs)) words
    → map (held_word (values_of input (xs ++ ys))) words ≡ map (held_word (values_of input xs)) words
held_stays input xs ys [] all = refl
held_stays input xs ys (First v ∷ rest) all = ap (λ (t : List ℕ). v ∷ t) (held_stays input xs ys rest all.1)
held_stays input xs ys (Made k ∷ rest) all =
    ap (λ (h : ℕ). h ∷ map (held_word (values_of input (xs ++ ys))) rest) (value_stays input xs ys k all.0)
    ∙ ap (λ (t : List ℕ). slice_index (values_of input xs) k ∷ t) (held_stays input xs ys rest all.1)

-- ---- one node more

-- one node more, which names earlier ones
pub add_sound : (inputs : ℕ) (d : Drawn) (x : Node) → Sound inputs d → IsNodeOf inputs (length d.list) x → Sound inputs (add x d).drawn
add_sound inputs d x sound is = record {
  formed = nodes_append inputs 0 d.list (x ∷ []) sound.formed (nodes_one inputs (0 + length d.list) x (subst (λ (k : ℕ). IsNodeOf inputs k x) (let z : length d.list ≡ 0 + length d.list = omega arith in z) is));
  held = held_later (length d.list) (length (d.list ++ x ∷ [])) d.words (let s = length-append d.list (x ∷ []) in omega (arith, s)) sound.held;
}

-- it adds its number
add_weight : (d : Drawn) (x : Node) → nodes_weight (d.list ++ x ∷ []) ≡ nodes_weight d.list + node_number x
add_weight d x = let h = weight_append d.list (x ∷ []) in omega (arith, h)

-- so the draft grew
pub add_grows : (inputs : ℕ) (d : Drawn) (x : Node) → Sound inputs d → IsNodeOf inputs (length d.list) x → Grows inputs d (add x d).drawn (node_number x)
add_grows inputs d x sound is = record { more = x ∷ []; is = refl; sound = add_sound inputs d x sound is; weighs = let h = add_weight d x in omega (arith, h) }

-- the word of a new node
pub add_gives : (inputs : ℕ) (d : Drawn) (x : Node) (f : (ℕ → ℕ) → ℕ) → Sound inputs d → IsNodeOf inputs (length d.list) x
    → ((input : ℕ → ℕ) → AreWords input → node_value x input (values_of input d.list) ≡ f input) → Gives inputs d (add x d) f (node_number x)
unfolding memory_of
add_gives inputs d x f sound is same = record {
  grows = add_grows inputs d x sound is;
  within = let s = length-append d.list (x ∷ []) in omega (arith, s);
  means = λ input small. value_last input d.list x ∙ same input small;
  memory = λ input. held_stays input d.list (x ∷ []) d.words sound.held;
}

-- ---- the node of a word of the memory

-- what a word of the memory holds is in range
held_at : (n : ℕ) (words : List Held) (place : ℕ) → AllByRecursion (IsHeldOf n) words → place < length words → IsHeldOf n (slice_index_or words place (First 0))
held_at n [] place all lt = absurd (let z : ⊥ = omega arith in z)
held_at n (x ∷ xs) zero all lt = all.0
held_at n (x ∷ xs) (suc place) all lt = held_at n xs place all.1 (omega arith)

-- the word at a place of a mapped list
map_at : (f : Held → ℕ) (words : List Held) (place : ℕ) → place < length words → slice_index (map f words) place ≡ f (slice_index_or words place (First 0))
map_at f [] place lt = absurd (let z : ⊥ = omega arith in z)
map_at f (x ∷ xs) zero lt = refl
map_at f (x ∷ xs) (suc place) lt = map_at f xs place (omega arith)

-- a mapped list after a write
map_set : (f : Held → ℕ) (words : List Held) (place : ℕ) (h : Held) → map f (set words place h) ≡ set (map f words) place (f h)
map_set f [] place h = refl
map_set f (x ∷ xs) zero h = refl
map_set f (x ∷ xs) (suc place) h = ap (λ (t : List ℕ). f x ∷ t) (map_set f xs place h)

-- a write of what was there
set_at : (xs : List ℕ) (place v : ℕ) → v ≡ slice_index xs place → set xs place v ≡ xs
set_at [] place v e = refl
set_at (x ∷ xs) zero v e = ap (λ (h : ℕ). h ∷ xs) e
set_at (x ∷ xs) (suc place) v e = ap (λ (t : List ℕ). x ∷ t) (set_at xs place v e)

-- a write of what is in range
held_set : (n : ℕ) (words : List Held) (place : ℕ) (h : Held) → AllByRecursion (IsHeldOf n) words → IsHeldOf n h → AllByRecursion (IsHeldOf n) (set words place h)
held_set n [] place h all is = tt
held_set n (x ∷ xs) zero h all is = (is, all.1)
held_set n (x ∷ xs) (suc place) h all is = (all.0, held_set n xs place h all.1 is)

-- a word of the memory becomes that of a node
pub with_word_sound : (inputs : ℕ) (place : ℕ) (m : With) → Sound inputs m.drawn → m.node < length m.drawn.list → Sound inputs (with_word place m)
with_word_sound inputs place m sound within = record { formed = sound.formed; held = held_set (length m.drawn.list) m.drawn.words place (Made m.node) sound.held within }

-- then the memory has the word of the node there
pub with_word_memory : (place : ℕ) (m : With) (input : ℕ → ℕ) → memory_of input (with_word place m) ≡ set (memory_of input m.drawn) place (word_at input m.drawn m.node)
unfolding memory_of
with_word_memory place m input = map_set (held_word (values_of input m.drawn.list)) m.drawn.words place (Made m.node)

-- by what the word holds
word_gives_held : (inputs : ℕ) (d : Drawn) (place : ℕ) (h : Held) → Sound inputs d → place < length d.words → slice_index_or d.words place (First 0) ≡ h
    → Gives inputs d (held_node h place d) (λ input. slice_index (memory_of input d) place) 2
unfolding memory_of
word_gives_held inputs d place (Made node) sound lt e =
    let below : node < length d.list = subst (IsHeldOf (length d.list)) e (held_at (length d.list) d.words place sound.held lt) in
    record {
      grows = grows_most inputs d d 0 2 (omega arith) (grows_none inputs d sound);
      within = below;
      means = λ input small. sym (map_at (held_word (values_of input d.list)) d.words place lt ∙ ap (held_word (values_of input d.list)) e);
      memory = λ input. refl;
    }
word_gives_held inputs d place (First value) sound lt e =
    let small : value < value_bound = subst (IsHeldOf (length d.list)) e (held_at (length d.list) d.words place sound.held lt) in
    let made : With = add (nodes.Constant value) d in
    let size = length-append d.list (nodes.Constant value ∷ []) in
    let sound' = add_sound inputs d (nodes.Constant value) sound small in
    let first : (input : ℕ → ℕ) → slice_index (map (held_word (values_of input d.list)) d.words) place ≡ value =
    λ input. map_at (held_word (values_of input d.list)) d.words place lt ∙ ap (held_word (values_of input d.list)) e in
    let stays : (input : ℕ → ℕ) → map (held_word (values_of input (d.list ++ nodes.Constant value ∷ []))) d.words ≡ map (held_word (values_of input d.list)) d.words =
    λ input. held_stays input d.list (nodes.Constant value ∷ []) d.words sound.held in
    record {
      grows = record {
        more = nodes.Constant value ∷ [];
        is = refl;
        sound = with_word_sound inputs place made sound' (omega (arith, size));
        weighs = let h = add_weight d (nodes.Constant value) in omega (arith, h);
      };
      within = omega (arith, size);
      means = λ input small. value_last input d.list (nodes.Constant value) ∙ sym (first input);
      memory = λ input.
          map_set (held_word (values_of input (d.list ++ nodes.Constant value ∷ []))) d.words place (Made (length d.list))
          ∙ set_at (map (held_word (values_of input (d.list ++ nodes.Constant value ∷ []))) d.words) place (slice_index (values_of input (d.list ++ nodes.Constant value ∷ [])) (length d.list))
          (value_last input d.list (nodes.Constant value) ∙ sym (first input) ∙ ap (λ (ws : List ℕ). slice_index ws place) (sym (stays input)))
          ∙ stays input;
    }

-- the node of a word has the word of the memory
pub word_gives : (inputs : ℕ) (d : Drawn) (place : ℕ) → Sound inputs d → place < length d.words → Gives inputs d (word_node place d) (λ input. slice_index (memory_of input d) place) 2
unfolding word_node
word_gives inputs d place sound lt = word_gives_held inputs d place (slice_index_or d.words place (First 0)) sound lt refl
