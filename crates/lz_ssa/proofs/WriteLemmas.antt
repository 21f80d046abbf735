-- A write under a guard leaves the memory that the instruction leaves where the guard is not 0.
use Rattle.std.proofs.Common.{◌≡◌, ℕ, zero, suc, ◌+◌, ◌*◌, ◌≤◌, ◌<◌, Bool, true, false, not, ◌&&◌, cond, nat_le, nat_lt, List, length, set, slice_index, refl, sym, ◌∙◌, ap, arith}
use Rattle.std.specs.Prelude.{◌==◌, slice_set, if◌then◌else◌}
use Rattle.std.proofs.lemmas.List.{length-set, set-get_or}
use Rattle.std.proofs.lemmas.Bool.{eqb-true, eqb-false}
use Rattle.lz_base.specs.Words.{truth, is_true}
use Rattle.lz_base.specs.declared.operator.Binary.TheVariants as binaries
use Rattle.lz_flat.specs.Programs.{Expression, constant, word, element, unary, binary, convert, choose, Location}
use Rattle.lz_flat.specs.Instructions.{value, put}
use Rattle.lz_flat.specs.WellFormed.{IsExpressionOf, IsLocationOf, AreWithin}
use Rattle.lz_flat.specs.Weight.{expression_weight, write_number, location_number, location_weight, long_index_number}
use Rattle.lz_ssa.specs.declared.node.Node.TheVariants as nodes
use Rattle.lz_ssa.specs.declared.decode.Decoder.{Decoder}
use Rattle.lz_ssa.specs.Construction.{Drawn, With, add, join, word_node, decode, at_place, Decoded, expression_node, write_word, write_turn, write_from, write_element, write_by, write}
use Rattle.lz_ssa.proofs.ValueLemmas.{AreWords}
use Rattle.lz_ssa.proofs.DraftLemmas.{memory_of, Sound, Grows, Gives, grows_then, grows_none, grows_most, word_gives, with_word_sound, with_word_memory}
use Rattle.lz_ssa.proofs.DecodeLemmas.{Means, means_of, means_grows, Decodes, decode_gives, decode_weight, test_weight, join_gives}
use Rattle.lz_ssa.proofs.ExpressionLemmas.{length_memory, gives_words, chosen_word, choose_gives, value_in, expression_gives, length_bound}

-- a draft grew to one with this memory
pub record Writes (inputs : ℕ) (before after : Drawn) (memory : (ℕ → ℕ) → List ℕ) (weight : ℕ) : Type 0 where
  pub grows : Grows inputs before after weight
  pub leaves : (input : ℕ → ℕ) → AreWords input → memory_of input after ≡ memory input
  pub words : length after.words ≡ length before.words

-- ---- one word

-- a write of one word leaves the choice between the value and what was there
pub write_word_gives : (inputs : ℕ) (d : Drawn) (place guard written : ℕ) (g v : (ℕ → ℕ) → ℕ) → Sound inputs d → place < length d.words → Means inputs d guard g → Means inputs d written v
    → Writes inputs d (write_word place guard written d) (λ input. slice_set (memory_of input d) place (chosen_word (g input) (v input) (slice_index (memory_of input d) place))) 35
unfolding write_word
write_word_gives inputs d place guard written g v sound lt mg mv =
    let here : With = word_node place d in
    let gw = word_gives inputs d place sound lt in
    let chosen : With = add (nodes.Choose guard written here.node) here.drawn in
    let gc = choose_gives inputs here.drawn guard written here.node g v (λ input. slice_index (memory_of input d) place) gw.grows.sound
    (means_grows inputs d here.drawn guard g 2 mg gw.grows) (means_grows inputs d here.drawn written v 2 mv gw.grows) (means_of inputs d here (λ input. slice_index (memory_of input d) place) 2 gw) in
    let both = grows_then inputs d here.drawn chosen.drawn 2 33 gw.grows gc.grows in
    record {
      grows = record { more = both.more; is = both.is; sound = with_word_sound inputs place chosen gc.grows.sound gc.within; weighs = both.weighs };
      leaves = λ input small. with_word_memory place chosen input
          ∙ ap (λ (v : ℕ). set (memory_of input chosen.drawn) place v) (gc.means input small)
          ∙ ap (λ (ws : List ℕ). set ws place (chosen_word (g input) (v input) (slice_index (memory_of input d) place))) (gc.memory input ∙ gw.memory input);
      words = length-set chosen.drawn.words place _ ∙ gives_words inputs here.drawn chosen (λ input. chosen_word (g input) (v input) (slice_index (memory_of input d) place)) 33 gc
          ∙ gives_words inputs d here (λ input. slice_index (memory_of input d) place) 2 gw;
    }

-- the memory after a write under a guard
abbrev pub guarded : ℕ → List ℕ → List ℕ → List ℕ
guarded guard old new = if guard == 0 then old else new

-- which is the write where the guard is not 0, and else nothing
set_chosen : (memory : List ℕ) (place guard v : ℕ) → slice_set memory place (chosen_word guard v (slice_index memory place)) ≡ guarded guard memory (slice_set memory place v)
set_chosen memory place guard v = by_test (guard == 0)
  where
    by_test : (b : Bool) → slice_set memory place (cond b (slice_index memory place) v) ≡ cond b memory (slice_set memory place v)
    by_test true = set-get_or memory place 0
    by_test false = refl

-- ---- a write by an index

-- the memory where the index is one of the first places and the guard is not 0
abbrev pub written_to : List ℕ → ℕ → ℕ → ℕ → ℕ → ℕ → List ℕ
written_to memory first places guard v i = guarded guard memory (if nat_lt i places then slice_set memory (first + i) v else memory)

-- one place more of a write by an index
write_more : (memory : List ℕ) (first place guard v i : ℕ)
    → slice_set (written_to memory first place guard v i) (first + place) (chosen_word (truth (is_true guard && is_true (truth (i == place)))) v (slice_index (written_to memory first place guard v i) (first + place)))
    ≡ written_to memory first (suc place) guard v i
write_more memory first place guard v i = by_test (guard == 0) (i == place) refl (nat_lt i place) refl (nat_lt i (suc place)) refl
  where
    by_test : (z e : Bool) → (i == place) ≡ e → (b : Bool) → nat_lt i place ≡ b → (c : Bool) → nat_lt i (suc place) ≡ c
        → slice_set (cond z memory (cond b (slice_set memory (first + i) v) memory)) (first + place)
        (chosen_word (truth (not z && is_true (truth e))) v (slice_index (cond z memory (cond b (slice_set memory (first + i) v) memory)) (first + place)))
        ≡ cond z memory (cond c (slice_set memory (first + i) v) memory)
    by_test true e h b k c l = set-get_or memory (first + place) 0
    by_test false true h true k c l = let same = eqb-true i place h in let below : i < place = grind arith in absurd (let z : ⊥ = omega arith in z)
    by_test false true h false k true l = ap (λ (p : ℕ). slice_set memory (first + p) v) (sym (eqb-true i place h))
    by_test false true h false k false l = let same = eqb-true i place h in let above : suc place ≤ i = grind arith in absurd (let z : ⊥ = omega arith in z)
    by_test false false h true k true l = set-get_or (slice_set memory (first + i) v) (first + place) 0
    by_test false false h true k false l = let below : i < place = grind arith in let above : suc place ≤ i = grind arith in absurd (let z : ⊥ = omega arith in z)
    by_test false false h false k true l = let above : place ≤ i = grind arith in let below : i < suc place = grind arith in absurd (eqb-false i place h (omega arith))
    by_test false false h false k false l = set-get_or memory (first + place) 0

-- one place of a write
write_turn_gives : (inputs : ℕ) (d so_far : Drawn) (decoder : Decoder) (first len place guard written t w : ℕ) (index g v : (ℕ → ℕ) → ℕ) → Decodes inputs d decoder len index t → Grows inputs d so_far w → place < len
    → first + place < length so_far.words → Means inputs so_far guard g → Means inputs so_far written v → (memory : (ℕ → ℕ) → List ℕ)
    → ((input : ℕ → ℕ) → AreWords input → memory_of input so_far ≡ written_to (memory input) first place (g input) (v input) (index input))
    → Writes inputs so_far (write_turn decoder first guard written place so_far) (λ input. written_to (memory input) first (suc place) (g input) (v input) (index input)) (t + 3 + 35)
unfolding write_turn
write_turn_gives inputs d so_far decoder first len place guard written t w index g v decodes grown lt within mg mv memory is =
    let test : With = at_place decoder place so_far in
    let gt = decodes.tests place lt so_far w grown in
    let both : With = join binaries.Both guard test.node test.drawn in
    let gb = join_gives inputs test.drawn binaries.Both guard test.node g (λ input. truth (index input == place)) gt.grows.sound
    (means_grows inputs so_far test.drawn guard g t mg gt.grows) (means_of inputs so_far test (λ input. truth (index input == place)) t gt) in
    let two = grows_then inputs so_far test.drawn both.drawn t 3 gt.grows gb.grows in
    let words : length both.drawn.words ≡ length so_far.words =
    gives_words inputs test.drawn both (λ input. truth (is_true (g input) && is_true (truth (index input == place)))) 3 gb ∙ gives_words inputs so_far test (λ input. truth (index input == place)) t gt in
    let ww = write_word_gives inputs both.drawn (first + place) both.node written (λ input. truth (is_true (g input) && is_true (truth (index input == place)))) v gb.grows.sound (omega (arith, words))
    (means_of inputs test.drawn both (λ input. truth (is_true (g input) && is_true (truth (index input == place)))) 3 gb) (means_grows inputs so_far both.drawn written v (t + 3) mv two) in
    record {
      grows = grows_then inputs so_far both.drawn (write_word (first + place) both.node written both.drawn) (t + 3) 35 two ww.grows;
      leaves = λ input small. ww.leaves input small
          ∙ ap (λ (ws : List ℕ). slice_set ws (first + place) (chosen_word (truth (is_true (g input) && is_true (truth (index input == place)))) (v input) (slice_index ws (first + place))))
          (gb.memory input ∙ gt.memory input ∙ is input small)
          ∙ write_more (memory input) first place (g input) (v input) (index input);
      words = ww.words ∙ words;
    }

-- the places of a write that are left
write_from_gives : (inputs : ℕ) (d so_far : Drawn) (decoder : Decoder) (first len place more guard written t w : ℕ) (index g v : (ℕ → ℕ) → ℕ) → Decodes inputs d decoder len index t → Grows inputs d so_far w → place + more ≡ len
    → AreWithin (length so_far.words) first len → Means inputs so_far guard g → Means inputs so_far written v → (memory : (ℕ → ℕ) → List ℕ)
    → ((input : ℕ → ℕ) → AreWords input → memory_of input so_far ≡ written_to (memory input) first place (g input) (v input) (index input))
    → Writes inputs so_far (write_from decoder first guard written place more so_far) (λ input. written_to (memory input) first len (g input) (v input) (index input)) (more * (t + 38))
unfolding write_from
write_from_gives inputs d so_far decoder first len place zero guard written t w index g v decodes grown all within mg mv memory is =
    let none = grows_none inputs so_far grown.sound in
    record {
      grows = record { more = none.more; is = none.is; sound = grown.sound; weighs = omega arith };
      leaves = λ input small. is input small ∙ ap (λ (p : ℕ). written_to (memory input) first p (g input) (v input) (index input)) (let z : place ≡ len = omega arith in z);
      words = refl;
    }
write_from_gives inputs d so_far decoder first len place (suc more) guard written t w index g v decodes grown all within mg mv memory is =
    let turn : Drawn = write_turn decoder first guard written place so_far in
    let gt = write_turn_gives inputs d so_far decoder first len place guard written t w index g v decodes grown (omega arith) (within place (omega arith)) mg mv memory is in
    let words = gt.words in
    let later = write_from_gives inputs d turn decoder first len (suc place) more guard written t (w + (t + 3 + 35)) index g v decodes (grows_then inputs d so_far turn w (t + 3 + 35) grown gt.grows) (omega arith)
    (λ k lt. let h = within k lt in omega (arith, words)) (means_grows inputs so_far turn guard g (t + 3 + 35) mg gt.grows) (means_grows inputs so_far turn written v (t + 3 + 35) mv gt.grows) memory gt.leaves in
    let weighs : t + 3 + 35 + more * (t + 38) ≤ suc more * (t + 38) = let m : suc more * (t + 38) ≡ more * (t + 38) + (t + 38) = grind arith in omega (arith, m) in
    record {
      grows = grows_most inputs so_far (write_from decoder first guard written (suc place) more turn) (t + 3 + 35 + more * (t + 38)) (suc more * (t + 38)) weighs
          (grows_then inputs so_far turn (write_from decoder first guard written (suc place) more turn) (t + 3 + 35) (more * (t + 38)) gt.grows later.grows);
      leaves = later.leaves;
      words = later.words ∙ words;
    }

-- what a write by an index weighs
write_weighs : (len : ℕ) → decode_weight len + len * (test_weight len + 38) ≤ write_number len
write_weighs len = by_length (nat_le len 32)
  where
    by_length : (b : Bool) → cond b 0 (long_index_number len) + len * (cond b 35 3 + 38) ≤ cond b (73 * len + 1) (long_index_number len + 41 * len + 1)
    by_length true = omega arith
    by_length false = omega arith

-- the memory after a write by an index under a guard
abbrev pub put_at : List ℕ → ℕ → ℕ → ℕ → ℕ → ℕ → List ℕ
put_at memory first len guard v i = guarded guard memory (if nat_lt i len then slice_set memory (first + i) v else memory)

-- before the first place nothing is written
none_written : (memory : List ℕ) (first guard v i : ℕ) → memory ≡ written_to memory first 0 guard v i
none_written memory first guard v i = by_test (guard == 0) (nat_lt i 0) refl
  where
    by_test : (z b : Bool) → nat_lt i 0 ≡ b → memory ≡ cond z memory (cond b (slice_set memory (first + i) v) memory)
    by_test true b e = refl
    by_test false true e = absurd (let z : i < 0 = grind arith in let y : ⊥ = omega arith in y)
    by_test false false e = refl

-- a write by the node of an index
write_element_gives : (inputs first len guard written w : ℕ) (d : Drawn) (m : With) (index g v : (ℕ → ℕ) → ℕ) → Gives inputs d m index w → AreWithin (length d.words) first len → len ≤ 4294967296
    → Means inputs d guard g → Means inputs d written v
    → Writes inputs d (write_element first len guard written m) (λ input. put_at (memory_of input d) first len (g input) (v input) (index input)) (w + write_number len)
write_element_gives inputs first len guard written w d m index g v gives within short mg mv =
    let decoded : Decoded = decode m.node len m.drawn in
    let gd = decode_gives inputs m.drawn m.node len index gives.grows.sound (means_of inputs d m index w gives) short in
    let grown = grows_then inputs d m.drawn decoded.drawn w (decode_weight len) gives.grows gd.grows in
    let to_d : (input : ℕ → ℕ) → memory_of input decoded.drawn ≡ memory_of input d = λ input. gd.memory input ∙ gives.memory input in
    let words : length decoded.drawn.words ≡ length d.words = let input : ℕ → ℕ = λ k. 0 in sym (length_memory input decoded.drawn) ∙ ap length (to_d input) ∙ length_memory input d in
    let chain = write_from_gives inputs decoded.drawn decoded.drawn decoded.decoder first len 0 len guard written (test_weight len) 0 index g v gd.decodes (grows_none inputs decoded.drawn gd.grows.sound) (omega arith)
    (λ k lt. let h = within k lt in omega (arith, words)) (means_grows inputs d decoded.drawn guard g (w + decode_weight len) mg grown) (means_grows inputs d decoded.drawn written v (w + decode_weight len) mv grown)
    (λ input. memory_of input d) (λ input small. to_d input ∙ none_written (memory_of input d) first (g input) (v input) (index input)) in
    let weighs = write_weighs len in
    record {
      grows = grows_most inputs d (write_from decoded.decoder first guard written 0 len decoded.drawn) (w + decode_weight len + len * (test_weight len + 38)) (w + write_number len) (omega (arith, weighs))
          (grows_then inputs d decoded.drawn (write_from decoded.decoder first guard written 0 len decoded.drawn) (w + decode_weight len) (len * (test_weight len + 38)) grown chain.grows);
      leaves = chain.leaves;
      words = chain.words ∙ words;
    }

-- the value of a constant
constant_is : (k : ℕ) (m : List ℕ) → k ≡ value (constant k) m
unfolding value
constant_is k m = refl

-- a write by a constant index
write_constant_gives : (inputs first len guard written c : ℕ) (d : Drawn) (g v : (ℕ → ℕ) → ℕ) → Sound inputs d → AreWithin (length d.words) first len → Means inputs d guard g → Means inputs d written v
    → Writes inputs d (if nat_lt c len then write_word (first + c) guard written d else d) (λ input. put_at (memory_of input d) first len (g input) (v input) c) 37
write_constant_gives inputs first len guard written c d g v sound within mg mv = by_test (nat_lt c len) refl
  where
    guarded_same : (z : Bool) (m : List ℕ) → m ≡ cond z m m
    guarded_same true m = refl
    guarded_same false m = refl

    by_test : (b : Bool) → nat_lt c len ≡ b
        → Writes inputs d (cond b (write_word (first + c) guard written d) d) (λ input. guarded (g input) (memory_of input d) (cond b (slice_set (memory_of input d) (first + c) (v input)) (memory_of input d))) 37
    by_test true e =
        let ww = write_word_gives inputs d (first + c) guard written g v sound (within c (grind arith)) mg mv in
        record {
          grows = grows_most inputs d (write_word (first + c) guard written d) 35 37 (omega arith) ww.grows;
          leaves = λ input small. ww.leaves input small ∙ set_chosen (memory_of input d) (first + c) (g input) (v input);
          words = ww.words;
        }
    by_test false e = record {
      grows = grows_most inputs d d 0 37 (omega arith) (grows_none inputs d sound);
      leaves = λ input small. guarded_same (g input == 0) (memory_of input d);
      words = refl;
    }

-- what a write of a program leaves: the memory, or where the guard is not 0 what the instruction leaves
abbrev pub put_under : Location → ℕ → ℕ → List ℕ → List ℕ
put_under to guard v memory = guarded guard memory (put to v memory)

-- a write by an index that is no constant
write_indexed_gives : (inputs first len guard written : ℕ) (index : Expression) (d : Drawn) (g v : (ℕ → ℕ) → ℕ) → Sound inputs d → length d.words ≤ 4294967296 → AreWithin (length d.words) first len → IsExpressionOf (length d.words) index
    → Means inputs d guard g → Means inputs d written v
    → Writes inputs d (write_element first len guard written (expression_node index d)) (λ input. put_at (memory_of input d) first len (g input) (v input) (value index (memory_of input d))) (write_number len + expression_weight index)
write_indexed_gives inputs first len guard written index d g v sound short within is mg mv =
    let i = expression_gives inputs index d sound short is in
    let e = write_element_gives inputs first len guard written (expression_weight index) d (expression_node index d) (value_in index d) g v i within (length_bound (length d.words) first len short within) mg mv in
    record {
      grows = grows_most inputs d (write_element first len guard written (expression_node index d)) (expression_weight index + write_number len) (write_number len + expression_weight index) (omega arith) e.grows;
      leaves = e.leaves;
      words = e.words;
    }

-- a write by any index
write_by_gives : (inputs first len guard written : ℕ) (index : Expression) (d : Drawn) (g v : (ℕ → ℕ) → ℕ) → Sound inputs d → length d.words ≤ 4294967296 → AreWithin (length d.words) first len → IsExpressionOf (length d.words) index
    → Means inputs d guard g → Means inputs d written v
    → Writes inputs d (write_by index first len guard written d) (λ input. put_at (memory_of input d) first len (g input) (v input) (value index (memory_of input d))) (location_number len index + expression_weight index)
unfolding write_by
write_by_gives inputs first len guard written (constant c) d g v sound short within is mg mv = constant_case
  where
    constant_case : Writes inputs d (if nat_lt c len then write_word (first + c) guard written d else d) (λ input. put_at (memory_of input d) first len (g input) (v input) (value (constant c) (memory_of input d))) 37
    constant_case =
        let w = write_constant_gives inputs first len guard written c d g v sound within mg mv in
        record { grows = w.grows; leaves = λ input small. w.leaves input small ∙ ap (λ (k : ℕ). put_at (memory_of input d) first len (g input) (v input) k) (constant_is c (memory_of input d)); words = w.words }
write_by_gives inputs first len guard written (word place) d g v sound short within is mg mv = write_indexed_gives inputs first len guard written (word place) d g v sound short within is mg mv
write_by_gives inputs first len guard written (element start size index) d g v sound short within is mg mv = write_indexed_gives inputs first len guard written (element start size index) d g v sound short within is mg mv
write_by_gives inputs first len guard written (unary op kind of) d g v sound short within is mg mv = write_indexed_gives inputs first len guard written (unary op kind of) d g v sound short within is mg mv
write_by_gives inputs first len guard written (binary op kind left right) d g v sound short within is mg mv = write_indexed_gives inputs first len guard written (binary op kind left right) d g v sound short within is mg mv
write_by_gives inputs first len guard written (convert from to of) d g v sound short within is mg mv = write_indexed_gives inputs first len guard written (convert from to of) d g v sound short within is mg mv
write_by_gives inputs first len guard written (choose test chosen other) d g v sound short within is mg mv = write_indexed_gives inputs first len guard written (choose test chosen other) d g v sound short within is mg mv

-- a write to a location
pub write_gives : (inputs guard : ℕ) (to : Location) (m : With) (g v : (ℕ → ℕ) → ℕ) → Sound inputs m.drawn → length m.drawn.words ≤ 4294967296 → IsLocationOf (length m.drawn.words) to
    → Means inputs m.drawn guard g → Means inputs m.drawn m.node v
    → Writes inputs m.drawn (write to guard m) (λ input. put_under to (g input) (v input) (memory_of input m.drawn)) (location_weight to)
unfolding put
write_gives inputs guard to m g v sound short is mg mv = write_by_gives inputs to.first to.len guard m.node to.index m.drawn g v sound short is.0 is.1 mg mv
