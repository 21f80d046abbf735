-- The tests that an index is a place, one by one or split into a group and a place in the group.
use Rattle.std.proofs.Common.{◌≡◌, ℕ, zero, suc, ◌+◌, ◌-◌, ◌*◌, ◌/◌, ◌%◌, ◌^◌, ◌≤◌, ◌<◌, Bool, true, false, ◌&&◌, cond, nat_le, List, [], ◌∷◌, ◌++◌, length, get_or, slice_index, refl, sym, ◌∙◌, ap, subst, arith, bit_and}
use Rattle.std.specs.Prelude.{◌==◌, if◌then◌else◌}
use Rattle.std.proofs.lemmas.List.{length-append, get_or_append_left, get_or-append_right}
use Rattle.std.proofs.lemmas.Nat.{and_mask}
use Rattle.std.proofs.lemmas.Nat.Bits.{and_high_mask}
use Rattle.std.proofs.lemmas.Bool.{eqb-true, eqb-false, eq-eqb}
use Rattle.lz_base.specs.Words.{value_bound, truth, is_true}
use Rattle.lz_base.proofs.WordsLemmas.{both_truths}
use Rattle.lz_base.specs.declared.operator.Binary.{Binary}
use Rattle.lz_base.specs.declared.operator.Binary.TheVariants as binaries
use Rattle.lz_base.specs.declared.word.IntType.TheVariants.{Unsigned}
use Rattle.lz_flat.specs.Weight.{binary_number, long_index_number}
use Rattle.lz_ssa.specs.declared.node.Node.TheVariants as nodes
use Rattle.lz_ssa.specs.declared.decode.Decoder.{Decoder}
use Rattle.lz_ssa.specs.declared.decode.Decoder.TheVariants.{Direct, Split}
use Rattle.lz_ssa.specs.NodeValues.{node_value}
use Rattle.lz_ssa.specs.Construction.{Drawn, With, add, join, equals, masked, Compared, compared_with, compared_none, compare_from, Decoded, group_mask, place_mask, group_size, groups_of, split_groups, decode, at_place}
use Rattle.lz_ssa.proofs.ValueLemmas.{AreWords, values_words}
use Rattle.lz_ssa.proofs.DraftLemmas.{word_at, memory_of, Sound, Grows, Gives, grows_length, grows_keeps, grows_then, grows_none, grows_most, gives_as, gives_then, add_gives}

-- a node of a draft has a word that the inputs determine
pub record Means (inputs : ℕ) (drawn : Drawn) (node : ℕ) (word : (ℕ → ℕ) → ℕ) : Type 0 where
  pub within : node < length drawn.list
  pub is : (input : ℕ → ℕ) → AreWords input → word_at input drawn node ≡ word input

-- what a node that was made means
pub means_of : (inputs : ℕ) (d : Drawn) (m : With) (f : (ℕ → ℕ) → ℕ) (w : ℕ) → Gives inputs d m f w → Means inputs m.drawn m.node f
means_of inputs d m f w gives = record { within = gives.within; is = gives.means }

-- a node means the same in a draft that grew
pub means_grows : (inputs : ℕ) (d e : Drawn) (node : ℕ) (f : (ℕ → ℕ) → ℕ) (w : ℕ) → Means inputs d node f → Grows inputs d e w → Means inputs e node f
means_grows inputs d e node f w means g = record {
  within = let a = means.within in let b = grows_length inputs d e w g in omega arith;
  is = λ input small. grows_keeps inputs d e w g input node means.within ∙ means.is input small;
}

-- what a node means is a word
pub means_word : (inputs : ℕ) (d : Drawn) (node : ℕ) (f : (ℕ → ℕ) → ℕ) → Sound inputs d → Means inputs d node f → (input : ℕ → ℕ) → AreWords input → f input < value_bound
means_word inputs d node f sound means input small =
    subst (λ (v : ℕ). v < value_bound) (means.is input small) (values_words inputs 0 d.list input [] sound.formed small none node)
  where
    none : (k : ℕ) → slice_index [] k < value_bound
    none zero = omega arith
    none (suc k) = omega arith

-- ---- one operator

-- an operator at two nodes that mean something
pub join_gives : (inputs : ℕ) (d : Drawn) (op : Binary) (left right : ℕ) (f g : (ℕ → ℕ) → ℕ) → Sound inputs d → Means inputs d left f → Means inputs d right g
    → Gives inputs d (join op left right d) (λ input. node_value (nodes.Binary op Unsigned 0 1) input (f input ∷ g input ∷ [])) (binary_number op)
join_gives inputs d op left right f g sound mf mg =
    add_gives inputs d (nodes.Binary op Unsigned left right) (λ input. node_value (nodes.Binary op Unsigned 0 1) input (f input ∷ g input ∷ [])) sound (mf.within, mg.within)
    (λ input small. rw (mf.is input small, mg.is input small) refl)

-- a constant gives itself
constant_gives : (inputs : ℕ) (d : Drawn) (v : ℕ) → Sound inputs d → v < value_bound → Gives inputs d (add (nodes.Constant v) d) (λ input. v) 2
constant_gives inputs d v sound small = add_gives inputs d (nodes.Constant v) (λ input. v) sound small (λ input words. refl)

-- a comparison gives whether the word is the number
pub equals_gives : (inputs : ℕ) (d : Drawn) (node number : ℕ) (f : (ℕ → ℕ) → ℕ) → Sound inputs d → Means inputs d node f → number < value_bound
    → Gives inputs d (equals node number d) (λ input. truth (f input == number)) 35
unfolding equals
equals_gives inputs d node number f sound means small =
    let c = constant_gives inputs d number sound small in
    gives_then inputs d (add (nodes.Constant number) d).drawn (equals node number d) (λ input. truth (f input == number)) 2 33 c.grows c.memory
    (join_gives inputs (add (nodes.Constant number) d).drawn binaries.Eq node (length d.list) f (λ input. number) c.grows.sound
    (means_grows inputs d (add (nodes.Constant number) d).drawn node f 2 means c.grows) (means_of inputs d (add (nodes.Constant number) d) (λ input. number) 2 c))

-- a mask gives the bits of the word under it
pub masked_gives : (inputs : ℕ) (d : Drawn) (node mask : ℕ) (f : (ℕ → ℕ) → ℕ) → Sound inputs d → Means inputs d node f → mask < value_bound
    → Gives inputs d (masked node mask d) (λ input. bit_and (f input) mask) 34
unfolding masked
masked_gives inputs d node mask f sound means small =
    let c = constant_gives inputs d mask sound small in
    gives_then inputs d (add (nodes.Constant mask) d).drawn (masked node mask d) (λ input. bit_and (f input) mask) 2 32 c.grows c.memory
    (join_gives inputs (add (nodes.Constant mask) d).drawn binaries.BitAnd node (length d.list) f (λ input. mask) c.grows.sound
    (means_grows inputs d (add (nodes.Constant mask) d).drawn node f 2 means c.grows) (means_of inputs d (add (nodes.Constant mask) d) (λ input. mask) 2 c))

-- ---- comparisons with many numbers

-- the tests are that a word is 0, a step, two steps and so on
pub record Tested (inputs : ℕ) (drawn : Drawn) (tests : List ℕ) (word : (ℕ → ℕ) → ℕ) (step : ℕ) : Type 0 where
  pub means : (k : ℕ) → k < length tests → Means inputs drawn (slice_index tests k) (λ input. truth (word input == k * step))

-- tests mean the same in a draft that grew
pub tested_grows : (inputs : ℕ) (d e : Drawn) (tests : List ℕ) (f : (ℕ → ℕ) → ℕ) (step w : ℕ) → Tested inputs d tests f step → Grows inputs d e w → Tested inputs e tests f step
tested_grows inputs d e tests f step w tested g = record { means = λ k lt. means_grows inputs d e (slice_index tests k) (λ input. truth (f input == k * step)) w (tested.means k lt) g }

-- one test more
tested_push : (inputs : ℕ) (d : Drawn) (tests : List ℕ) (node : ℕ) (f : (ℕ → ℕ) → ℕ) (step : ℕ) → Tested inputs d tests f step → Means inputs d node (λ input. truth (f input == length tests * step))
    → Tested inputs d (tests ++ node ∷ []) f step
tested_push inputs d tests node f step tested means = record { means = λ k lt. by_place k lt (nat_le (suc k) (length tests)) refl }
  where
    by_place : (k : ℕ) → k < length (tests ++ node ∷ []) → (b : Bool) → nat_le (suc k) (length tests) ≡ b → Means inputs d (slice_index (tests ++ node ∷ []) k) (λ input. truth (f input == k * step))
    by_place k lt true e =
        let below : k < length tests = grind arith in
        subst (λ (t : ℕ). Means inputs d t (λ input. truth (f input == k * step))) (sym (get_or_append_left tests (node ∷ []) 0 k below)) (tested.means k below)
    by_place k lt false e =
        let size = length-append tests (node ∷ []) in
        let above : length tests ≤ k = grind arith in
        let last : length tests ≡ k = omega (arith, size, above, lt) in
        let at : slice_index (tests ++ node ∷ []) k ≡ node =
        get_or-append_right tests (node ∷ []) (length tests) k 0 refl (omega arith) ∙ ap (λ (j : ℕ). get_or (node ∷ []) j 0) (let z : k - length tests ≡ 0 = omega arith in z) in
        subst (λ (t : ℕ). Means inputs d t (λ input. truth (f input == k * step))) (sym at)
        (subst (λ (j : ℕ). Means inputs d node (λ input. truth (f input == j * step))) last means)

-- what comparing gave
pub record Compares (inputs : ℕ) (before : Drawn) (compared : Compared) (word : (ℕ → ℕ) → ℕ) (step count weight : ℕ) : Type 0 where
  pub grows : Grows inputs before compared.drawn weight
  pub memory : (input : ℕ → ℕ) → memory_of input compared.drawn ≡ memory_of input before
  pub tested : Tested inputs compared.drawn compared.tests word step
  pub count_is : length compared.tests ≡ count

-- comparisons give their tests
pub compare_gives : (inputs node number step more : ℕ) (compared : Compared) (f : (ℕ → ℕ) → ℕ) → Sound inputs compared.drawn → Means inputs compared.drawn node f
    → Tested inputs compared.drawn compared.tests f step → number ≡ length compared.tests * step → number + more * step < value_bound + step
    → Compares inputs compared.drawn (compare_from node number step more compared) f step (length compared.tests + more) (more * 35)
unfolding compare_from
compare_gives inputs node number step zero compared f sound means tested is small = record {
  grows = grows_most inputs compared.drawn compared.drawn 0 (0 * 35) (omega arith) (grows_none inputs compared.drawn sound);
  memory = λ input. refl;
  tested = tested;
  count_is = omega arith;
}
compare_gives inputs node number step (suc more) compared f sound means tested is small =
    let number_small : number < value_bound = let m : (suc more) * step ≡ more * step + step = grind arith in omega (arith, m, small) in
    let e = equals_gives inputs compared.drawn node number f sound means number_small in
    let one : Compared = compared_with compared.tests (equals node number compared.drawn) in
    let size = length-append compared.tests ((equals node number compared.drawn).node ∷ []) in
    let here : Means inputs one.drawn (equals node number compared.drawn).node (λ input. truth (f input == length compared.tests * step)) =
    subst (λ (n : ℕ). Means inputs one.drawn (equals node number compared.drawn).node (λ input. truth (f input == n))) is
    (means_of inputs compared.drawn (equals node number compared.drawn) (λ input. truth (f input == number)) 35 e) in
    let next : number + step ≡ length one.tests * step = let m : (length compared.tests + 1) * step ≡ length compared.tests * step + step = grind arith in let k : length one.tests ≡ length compared.tests + 1 = size in rw k (omega (arith, is, m)) in
    let room : number + step + more * step < value_bound + step = let m : (suc more) * step ≡ more * step + step = grind arith in omega (arith, m, small) in
    let later = compare_gives inputs node (number + step) step more one f e.grows.sound
    (means_grows inputs compared.drawn one.drawn node f 35 means e.grows)
    (tested_push inputs one.drawn compared.tests (equals node number compared.drawn).node f step (tested_grows inputs compared.drawn one.drawn compared.tests f step 35 tested e.grows) here)
    next room in
    record {
      grows = grows_most inputs compared.drawn (compare_from node (number + step) step more one).drawn (35 + more * 35) ((suc more) * 35) (omega arith)
          (grows_then inputs compared.drawn one.drawn (compare_from node (number + step) step more one).drawn 35 (more * 35) e.grows later.grows);
      memory = λ input. later.memory input ∙ e.memory input;
      tested = later.tested;
      count_is = let c = later.count_is in omega (arith, c, size);
    }

-- no tests
pub tested_none : (inputs : ℕ) (d : Drawn) (f : (ℕ → ℕ) → ℕ) (step : ℕ) → Tested inputs d [] f step
tested_none inputs d f step = record { means = λ k lt. absurd (let z : ⊥ = omega arith in z) }

-- ---- splitting a number

-- an index is a place exactly where its group and its place in the group are
pub split_is : (i place : ℕ) → i < value_bound → ((bit_and i group_mask == (place / 32) * 32) && (bit_and i place_mask == (place % 32) * 1)) ≡ (i == place)
split_is i place small =
    let high : bit_and i group_mask ≡ i / 2 ^ 5 * 2 ^ 5 = and_high_mask 32 5 (omega arith) i small in
    let low : bit_and i place_mask ≡ i % 2 ^ 5 = and_mask i 5 in
    let high32 : bit_and i group_mask ≡ i / 32 * 32 = high in
    let low32 : bit_and i place_mask ≡ i % 32 = low in
    rw (high32, low32) (by_cases (i == place) refl)
  where
    by_cases : (b : Bool) → (i == place) ≡ b → ((i / 32 * 32 == (place / 32) * 32) && (i % 32 == (place % 32) * 1)) ≡ b
    by_cases true e =
        let same : i ≡ place = eqb-true i place e in
        rw (same, eq-eqb (place / 32 * 32) (place / 32 * 32) refl, eq-eqb (place % 32) (place % 32 * 1) (omega arith)) refl
    by_cases false e = by_group (i / 32 * 32 == (place / 32) * 32) refl (i % 32 == (place % 32) * 1) refl
      where
        by_group : (a : Bool) → (i / 32 * 32 == (place / 32) * 32) ≡ a → (c : Bool) → (i % 32 == (place % 32) * 1) ≡ c → (a && c) ≡ false
        by_group true h true k =
            let g : i / 32 * 32 ≡ place / 32 * 32 = eqb-true (i / 32 * 32) (place / 32 * 32) h in
            let l : i % 32 ≡ place % 32 * 1 = eqb-true (i % 32) (place % 32 * 1) k in
            absurd (eqb-false i place e (omega arith))
        by_group true h false k = refl
        by_group false h c k = refl

-- ---- a decoded index

-- how much decoding weighs, and how much a test
abbrev pub decode_weight : ℕ → ℕ
decode_weight len = if nat_le len 32 then 0 else long_index_number len

-- what a test of a place weighs
abbrev pub test_weight : ℕ → ℕ
test_weight len = if nat_le len 32 then 35 else 3

-- at each later draft, the test of a place means that the index is that place
pub record Decodes (inputs : ℕ) (drawn : Drawn) (decoder : Decoder) (len : ℕ) (word : (ℕ → ℕ) → ℕ) (weight : ℕ) : Type 0 where
  pub tests : (place : ℕ) → place < len → (later : Drawn) (w : ℕ) → Grows inputs drawn later w → Gives inputs later (at_place decoder place later) (λ input. truth (word input == place)) weight

-- what decoding gave
pub record GivesDecoded (inputs : ℕ) (before : Drawn) (decoded : Decoded) (len : ℕ) (word : (ℕ → ℕ) → ℕ) (weight test : ℕ) : Type 0 where
  pub grows : Grows inputs before decoded.drawn weight
  pub memory : (input : ℕ → ℕ) → memory_of input decoded.drawn ≡ memory_of input before
  pub decodes : Decodes inputs decoded.drawn decoded.decoder len word test

-- an index that is compared with each place
direct_gives : (inputs : ℕ) (d : Drawn) (index len : ℕ) (f : (ℕ → ℕ) → ℕ) → Sound inputs d → Means inputs d index f → len ≤ 4294967296
    → GivesDecoded inputs d (record { drawn = d; decoder = Direct index }) len f 0 35
unfolding at_place
direct_gives inputs d index len f sound means short = record {
  grows = grows_none inputs d sound;
  memory = λ input. refl;
  decodes = record { tests = λ place lt later w g. equals_gives inputs later index place f g.sound (means_grows inputs d later index f w means g) (omega arith) };
}

-- the tests of the group and of the place in it together
both_gives : (inputs : ℕ) (d : Drawn) (groups places : List ℕ) (f : (ℕ → ℕ) → ℕ) (len : ℕ) → ((input : ℕ → ℕ) → AreWords input → f input < value_bound)
    → Tested inputs d groups (λ input. bit_and (f input) group_mask) 32 → Tested inputs d places (λ input. bit_and (f input) place_mask) 1 → length groups ≡ groups_of len → length places ≡ 32
    → Decodes inputs d (Split groups places) len f 3
unfolding at_place
both_gives inputs d groups places f len word tested_groups tested_places count_groups count_places = record {
  tests = λ place lt later w g.
      let in_group : place / 32 < length groups = rw count_groups (omega arith) in
      let in_places : place % 32 < length places = rw count_places (omega arith) in
      let a = (tested_grows inputs d later groups (λ input. bit_and (f input) group_mask) 32 w tested_groups g).means (place / 32) in_group in
      let b = (tested_grows inputs d later places (λ input. bit_and (f input) place_mask) 1 w tested_places g).means (place % 32) in_places in
      gives_as inputs later (join binaries.Both (slice_index groups (place / 32)) (slice_index places (place % 32)) later)
      (λ input. truth (is_true (truth (bit_and (f input) group_mask == (place / 32) * 32)) && is_true (truth (bit_and (f input) place_mask == (place % 32) * 1)))) (λ input. truth (f input == place)) 3 3
      (join_gives inputs later binaries.Both (slice_index groups (place / 32)) (slice_index places (place % 32)) (λ input. truth (bit_and (f input) group_mask == (place / 32) * 32)) (λ input. truth (bit_and (f input) place_mask == (place % 32) * 1)) g.sound a b)
      (λ input small. both_truths (bit_and (f input) group_mask == (place / 32) * 32) (bit_and (f input) place_mask == (place % 32) * 1) ∙ ap truth (split_is (f input) place (word input small)))
      (omega arith);
}

-- an index that is split into its group and its place in it
split_gives : (inputs : ℕ) (d : Drawn) (index len : ℕ) (f : (ℕ → ℕ) → ℕ) → Sound inputs d → Means inputs d index f → len ≤ 4294967296
    → GivesDecoded inputs d (split_groups index len (masked index group_mask d)) len f (long_index_number len) 3
unfolding group_size
split_gives inputs d index len f sound means short =
    let group : With = masked index group_mask d in
    let g = masked_gives inputs d index group_mask f sound means (omega arith) in
    let groups : Compared = compare_from group.node 0 32 (groups_of len) (compared_none group.drawn) in
    let cg = compare_gives inputs group.node 0 32 (groups_of len) (compared_none group.drawn) (λ input. bit_and (f input) group_mask) g.grows.sound
    (means_of inputs d group (λ input. bit_and (f input) group_mask) 34 g) (tested_none inputs group.drawn (λ input. bit_and (f input) group_mask) 32) (omega arith) (omega arith) in
    let grown = grows_then inputs d group.drawn groups.drawn 34 (groups_of len * 35) g.grows cg.grows in
    let place : With = masked index place_mask groups.drawn in
    let p = masked_gives inputs groups.drawn index place_mask f cg.grows.sound (means_grows inputs d groups.drawn index f (34 + groups_of len * 35) means grown) (omega arith) in
    let places : Compared = compare_from place.node 0 1 32 (compared_none place.drawn) in
    let cp = compare_gives inputs place.node 0 1 32 (compared_none place.drawn) (λ input. bit_and (f input) place_mask) p.grows.sound
    (means_of inputs groups.drawn place (λ input. bit_and (f input) place_mask) 34 p) (tested_none inputs place.drawn (λ input. bit_and (f input) place_mask) 1) (omega arith) (omega arith) in
    let late = grows_then inputs groups.drawn place.drawn places.drawn 34 (32 * 35) p.grows cp.grows in
    record {
      grows = grows_most inputs d places.drawn (34 + groups_of len * 35 + (34 + 32 * 35)) (long_index_number len) (omega arith) (grows_then inputs d groups.drawn places.drawn (34 + groups_of len * 35) (34 + 32 * 35) grown late);
      memory = λ input. cp.memory input ∙ p.memory input ∙ cg.memory input ∙ g.memory input;
      decodes = both_gives inputs places.drawn groups.tests places.tests f len (means_word inputs d index f sound means)
          (tested_grows inputs groups.drawn places.drawn groups.tests (λ input. bit_and (f input) group_mask) 32 (34 + 32 * 35) cg.tested late) cp.tested
          (let c = cg.count_is in omega (arith, c)) (let c = cp.count_is in omega (arith, c));
    }

-- a decoded index has the tests of each place
pub decode_gives : (inputs : ℕ) (d : Drawn) (index len : ℕ) (f : (ℕ → ℕ) → ℕ) → Sound inputs d → Means inputs d index f → len ≤ 4294967296
    → GivesDecoded inputs d (decode index len d) len f (decode_weight len) (test_weight len)
unfolding decode
decode_gives inputs d index len f sound means short = by_length (nat_le len 32)
  where
    by_length : (b : Bool) → GivesDecoded inputs d (cond b (record { drawn = d; decoder = Direct index }) (split_groups index len (masked index group_mask d))) len f (cond b 0 (long_index_number len)) (cond b 35 3)
    by_length true = direct_gives inputs d index len f sound means short
    by_length false = split_gives inputs d index len f sound means short
