-- What a claim keeps: the values, and each claim that was made before.
use Rattle.std.proofs.Common.{◌≡◌, ℕ, zero, suc, ◌+◌, ◌*◌, ◌/◌, ◌%◌, ◌<◌, ◌≤◌, ◌⊎◌, inl, inr, Bool, true, false, cond, List, [], ◌∷◌, length, eqb, refl, sym, ◌∙◌, ap, subst, arith}
use Rattle.std.specs.Prelude.{slice_index, slice_index_or, slice_set}
use Rattle.std.specs.List.{AllByRecursion}
use Rattle.std.proofs.lemmas.Bool.{eqb-true, eqb-false}
use Rattle.std.proofs.lemmas.List.{length-set}
use Rattle.lz_base.specs.Words.{value_bound}
use Rattle.lz_flat.specs.Programs.{Expression, constant, word, element, unary, binary, convert, choose, Location, Instruction, sets, takes, assumes, checks, skips, MarkedInstruction}
use Rattle.lz_flat.specs.WellFormed.{AreWithin, IsExpressionOf, IsLocationOf, IsInstructionOf}
use Rattle.lz_flat.specs.Naming.{NamesOnly, LocationNamesOnly, InstructionNamesOnly, CodeNamesOnly}
use Rattle.lz_points.specs.Tags.{shared_tag, IsTagged, NamesWithin, joined, claimed, claim_word, claim_range, claim, claim_location, claim_instruction, claim_code, claim_threads}
use Rattle.lz_points.proofs.MemoryLemmas.{word_same, word_other}

-- ---- names of more words

names_more : {P Q : ℕ → Type 0} (f : (w : ℕ) → P w → Q w) (e : Expression) → NamesOnly P e → NamesOnly Q e
names_more f (constant v) h = tt
names_more f (word place) h = f place h
names_more f (element first len index) h = (λ k lt. f (first + k) (h.0 k lt), names_more f index h.1)
names_more f (unary op kind of) h = names_more f of h
names_more f (binary op kind left right) h = (names_more f left h.0, names_more f right h.1)
names_more f (convert from to of) h = names_more f of h
names_more f (choose test chosen other) h = (names_more f test h.0, names_more f chosen h.1, names_more f other h.2)

location_more : {P Q : ℕ → Type 0} (f : (w : ℕ) → P w → Q w) (to : Location) → LocationNamesOnly P to → LocationNamesOnly Q to
location_more f to h = (λ k lt. f (to.first + k) (h.0 k lt), names_more f to.index h.1)

instruction_more : {P Q : ℕ → Type 0} (f : (w : ℕ) → P w → Q w) (i : Instruction) → InstructionNamesOnly P i → InstructionNamesOnly Q i
instruction_more f (sets to of) h = (location_more f to h.0, names_more f of h.1)
instruction_more f (takes to) h = location_more f to h
instruction_more f (assumes test) h = names_more f test h
instruction_more f (checks test kind line) h = names_more f test h
instruction_more f (skips test by) h = names_more f test h

pub code_more : {P Q : ℕ → Type 0} (f : (w : ℕ) → P w → Q w) (code : List MarkedInstruction) → CodeNamesOnly P code → CodeNamesOnly Q code
code_more f [] h = tt
code_more f (x ∷ xs) h = (instruction_more f x.instr h.0, code_more f xs h.1)

-- ---- one word

-- values and lengths stay, and what has a tag keeps it or is shared
pub record Rises (old new : List ℕ) : Type 0 where
  pub size : length new ≡ length old
  pub values : (w : ℕ) → slice_index new w % value_bound ≡ slice_index old w % value_bound
  pub claims : (tag w : ℕ) → 1 ≤ tag → IsTagged tag old w → IsTagged tag new w

rises_none : (tags : List ℕ) → Rises tags tags
rises_none tags = record { size = refl; values = λ w. refl; claims = λ tag w one h. h }

rises_then : {a b c : List ℕ} → Rises a b → Rises b c → Rises a c
rises_then p q = record { size = q.size ∙ p.size; values = λ w. q.values w ∙ p.values w; claims = λ tag w one h. q.claims tag w one (p.claims tag w one h) }

-- the value and the tag of what is put together of both
value_part : (r j : ℕ) → r < value_bound → (r + value_bound * j) % value_bound ≡ r
value_part r j lt = omega (arith, lt)

tag_part : (r j : ℕ) → r < value_bound → (r + value_bound * j) / value_bound ≡ j
tag_part r j lt = omega (arith, lt)

claimed_value : (tag held : ℕ) → claimed tag held % value_bound ≡ held % value_bound
unfolding claimed
claimed_value tag held = value_part (held % value_bound) (joined tag (held / value_bound)) (omega arith)

claimed_tag : (tag held : ℕ) → claimed tag held / value_bound ≡ joined tag (held / value_bound)
unfolding claimed
claimed_tag tag held = tag_part (held % value_bound) (joined tag (held / value_bound)) (omega arith)

joined_own : (tag held : ℕ) → (joined tag held ≡ tag) ⊎ (joined tag held ≡ shared_tag)
joined_own tag held = by (eqb held 0) (eqb held tag)
  where
    by : (a b : Bool) → (cond a tag (cond b tag shared_tag) ≡ tag) ⊎ (cond a tag (cond b tag shared_tag) ≡ shared_tag)
    by true b = inl refl
    by false true = inl refl
    by false false = inr refl

joined_keeps : (tag held other : ℕ) → 1 ≤ other → (held ≡ other) ⊎ (held ≡ shared_tag) → (joined tag held ≡ other) ⊎ (joined tag held ≡ shared_tag)
joined_keeps tag held other one h = by (eqb held 0) refl (eqb held tag) refl h
  where
    by : (a : Bool) → eqb held 0 ≡ a → (b : Bool) → eqb held tag ≡ b → (held ≡ other) ⊎ (held ≡ shared_tag) → (cond a tag (cond b tag shared_tag) ≡ other) ⊎ (cond a tag (cond b tag shared_tag) ≡ shared_tag)
    by true e b f (inl o) = let z : held ≡ 0 = eqb-true held 0 e in absurd (let no : ⊥ = omega (arith, z, o, one) in no)
    by true e b f (inr s) = let z : held ≡ 0 = eqb-true held 0 e in absurd (let no : ⊥ = omega (arith, z, s) in no)
    by false e true f (inl o) = inl (sym (eqb-true held tag f) ∙ o)
    by false e true f (inr s) = inr (sym (eqb-true held tag f) ∙ s)
    by false e false f o = inr refl

-- a claimed word
word_claimed : (tag w : ℕ) (tags : List ℕ) → w < length tags → slice_index (claim_word tag w tags) w ≡ claimed tag (slice_index tags w)
unfolding claim_word
word_claimed tag w tags lt = word_same tags w (claimed tag (slice_index tags w)) lt

-- past the end nothing is written
past_end : (tags : List ℕ) (w v : ℕ) → length tags ≤ w → slice_set tags w v ≡ tags
past_end [] w v le = refl
past_end (x ∷ xs) zero v le = absurd (let no : ⊥ = omega (arith, le) in no)
past_end (x ∷ xs) (suc w) v le = ap (λ (ys : List ℕ). x ∷ ys) (past_end xs w v (omega (arith, le)))

word_rises : (tag w : ℕ) (tags : List ℕ) → w < length tags → Rises tags (claim_word tag w tags)
unfolding claim_word
word_rises tag w tags lt = record {
  size = length-set tags w (claimed tag (slice_index tags w));
  values = λ x. value x (eqb x w) refl;
  claims = λ other x one h. claims x (eqb x w) refl other one h;
}
  where
    now : List ℕ
    now = slice_set tags w (claimed tag (slice_index tags w))

    here : slice_index now w ≡ claimed tag (slice_index tags w)
    here = word_same tags w (claimed tag (slice_index tags w)) lt

    value : (x : ℕ) (b : Bool) → eqb x w ≡ b → slice_index now x % value_bound ≡ slice_index tags x % value_bound
    value x true e = let is : x ≡ w = eqb-true x w e in
        ap (λ (y : ℕ). slice_index now y % value_bound) is ∙ ap (λ (v : ℕ). v % value_bound) here ∙ claimed_value tag (slice_index tags w) ∙ ap (λ (y : ℕ). slice_index tags y % value_bound) (sym is)
    value x false e = ap (λ (v : ℕ). v % value_bound) (word_other tags w (claimed tag (slice_index tags w)) x (eqb-false x w e))

    claims : (x : ℕ) (b : Bool) → eqb x w ≡ b → (other : ℕ) → 1 ≤ other → IsTagged other tags x → IsTagged other now x
    claims x true e other one h = let is : x ≡ w = eqb-true x w e in
        subst (λ (y : ℕ). IsTagged other now y) (sym is) (subst (λ (v : ℕ). (v ≡ other) ⊎ (v ≡ shared_tag)) (sym (ap (λ (v : ℕ). v / value_bound) here ∙ claimed_tag tag (slice_index tags w)))
        (joined_keeps tag (slice_index tags w / value_bound) other one (subst (λ (y : ℕ). IsTagged other tags y) is h)))
    claims x false e other one h = subst (λ (v : ℕ). (v / value_bound ≡ other) ⊎ (v / value_bound ≡ shared_tag)) (sym (word_other tags w (claimed tag (slice_index tags w)) x (eqb-false x w e))) h

word_tagged : (tag w : ℕ) (tags : List ℕ) → w < length tags → IsTagged tag (claim_word tag w tags) w
word_tagged tag w tags lt = subst (λ (v : ℕ). (v ≡ tag) ⊎ (v ≡ shared_tag)) (sym (ap (λ (v : ℕ). v / value_bound) (word_claimed tag w tags lt) ∙ claimed_tag tag (slice_index tags w)))
    (joined_own tag (slice_index tags w / value_bound))

-- ---- ranges

within_next : {n m : ℕ} (first len : ℕ) → m ≡ n → AreWithin n first (suc len) → AreWithin m (suc first) len
within_next {n} {m} first len e h k lt = let z : first + suc k < n = h (suc k) (omega (arith, lt)) in omega (arith, z, e)

within_first : (n first len : ℕ) → AreWithin n first (suc len) → first < n
within_first n first len h = let z : first + 0 < n = h 0 (omega arith) in omega (arith, z)

range_rises : (tag first len : ℕ) (tags : List ℕ) → AreWithin (length tags) first len → Rises tags (claim_range tag first len tags)
unfolding claim_range
range_rises tag first zero tags h = rises_none tags
range_rises tag first (suc len) tags h =
    let one = word_rises tag first tags (within_first (length tags) first len h) in
    rises_then one (range_rises tag (suc first) len (claim_word tag first tags) (within_next first len one.size h))

range_tagged : (tag first len : ℕ) (tags : List ℕ) → 1 ≤ tag → AreWithin (length tags) first len → (k : ℕ) → k < len → IsTagged tag (claim_range tag first len tags) (first + k)
unfolding claim_range
range_tagged tag first zero tags one h k lt = absurd (let no : ⊥ = omega (arith, lt) in no)
range_tagged tag first (suc len) tags one h zero lt =
    let here = within_first (length tags) first len h in
    let step = word_rises tag first tags here in
    let z : first ≡ first + 0 = omega arith in
    subst (λ (w : ℕ). IsTagged tag (claim_range tag (suc first) len (claim_word tag first tags)) w) z
    ((range_rises tag (suc first) len (claim_word tag first tags) (within_next first len step.size h)).claims tag first one (word_tagged tag first tags here))
range_tagged tag first (suc len) tags one h (suc k) lt =
    let step = word_rises tag first tags (within_first (length tags) first len h) in
    let z : suc first + k ≡ first + suc k = omega arith in
    subst (λ (w : ℕ). IsTagged tag (claim_range tag (suc first) len (claim_word tag first tags)) w) z
    (range_tagged tag (suc first) len (claim_word tag first tags) one (within_next first len step.size h) k (omega (arith, lt)))

-- ---- expressions

still_of : {n m : ℕ} (e : Expression) → m ≡ n → IsExpressionOf n e → IsExpressionOf m e
still_of {n} {m} e same h = subst (λ (k : ℕ). IsExpressionOf k e) (sym same) h

claim_rises : (tag : ℕ) (e : Expression) (tags : List ℕ) → IsExpressionOf (length tags) e → Rises tags (claim tag e tags)
unfolding claim
claim_rises tag (constant v) tags h = rises_none tags
claim_rises tag (word place) tags h = word_rises tag place tags h
claim_rises tag (element first len index) tags h =
    let one = range_rises tag first len tags h.0 in rises_then one (claim_rises tag index (claim_range tag first len tags) (still_of index one.size h.1))
claim_rises tag (unary op kind of) tags h = claim_rises tag of tags h
claim_rises tag (binary op kind left right) tags h =
    let one = claim_rises tag left tags h.0 in rises_then one (claim_rises tag right (claim tag left tags) (still_of right one.size h.1))
claim_rises tag (convert from to of) tags h = claim_rises tag of tags h
claim_rises tag (choose test chosen other) tags h =
    let one = claim_rises tag test tags h.0 in
    let two = claim_rises tag chosen (claim tag test tags) (still_of chosen one.size h.1) in
    rises_then one (rises_then two (claim_rises tag other (claim tag chosen (claim tag test tags)) (still_of other (two.size ∙ one.size) h.2)))

-- what had its tag has it after more claims
module _ {a b : List ℕ} (more : Rises a b) (tag : ℕ) (one : 1 ≤ tag) where
  rises_keeps : (w : ℕ) → IsTagged tag a w → IsTagged tag b w
  rises_keeps w h = more.claims tag w one h

claim_names : (tag : ℕ) (e : Expression) (tags : List ℕ) → 1 ≤ tag → IsExpressionOf (length tags) e → NamesOnly (IsTagged tag (claim tag e tags)) e
unfolding claim
claim_names tag (constant v) tags one h = tt
claim_names tag (word place) tags one h = word_tagged tag place tags h
claim_names tag (element first len index) tags one h =
    let range = range_rises tag first len tags h.0 in
    let inside = still_of index range.size h.1 in
    let more = claim_rises tag index (claim_range tag first len tags) inside in
    (λ k lt. more.claims tag (first + k) one (range_tagged tag first len tags one h.0 k lt), claim_names tag index (claim_range tag first len tags) one inside)
claim_names tag (unary op kind of) tags one h = claim_names tag of tags one h
claim_names tag (binary op kind left right) tags one h =
    let front = claim_rises tag left tags h.0 in
    let inside = still_of right front.size h.1 in
    (names_more (rises_keeps (claim_rises tag right (claim tag left tags) inside) tag one) left (claim_names tag left tags one h.0), claim_names tag right (claim tag left tags) one inside)
claim_names tag (convert from to of) tags one h = claim_names tag of tags one h
claim_names tag (choose test chosen other) tags one h =
    let front = claim_rises tag test tags h.0 in
    let inside = still_of chosen front.size h.1 in
    let two = claim_rises tag chosen (claim tag test tags) inside in
    let within = still_of other (two.size ∙ front.size) h.2 in
    let three = claim_rises tag other (claim tag chosen (claim tag test tags)) within in (
      names_more (rises_keeps (rises_then two three) tag one) test (claim_names tag test tags one h.0),
      names_more (rises_keeps three tag one) chosen (claim_names tag chosen (claim tag test tags) one inside),
      claim_names tag other (claim tag chosen (claim tag test tags)) one within,
    )

-- ---- instructions

location_rises : (tag : ℕ) (to : Location) (tags : List ℕ) → IsLocationOf (length tags) to → Rises tags (claim_location tag to tags)
unfolding claim_location
location_rises tag to tags h =
    let one = range_rises tag to.first to.len tags h.0 in rises_then one (claim_rises tag to.index (claim_range tag to.first to.len tags) (still_of to.index one.size h.1))

location_names : (tag : ℕ) (to : Location) (tags : List ℕ) → 1 ≤ tag → IsLocationOf (length tags) to → LocationNamesOnly (IsTagged tag (claim_location tag to tags)) to
unfolding claim_location
location_names tag to tags one h =
    let range = range_rises tag to.first to.len tags h.0 in
    let inside = still_of to.index range.size h.1 in
    let more = claim_rises tag to.index (claim_range tag to.first to.len tags) inside in
    (λ k lt. more.claims tag (to.first + k) one (range_tagged tag to.first to.len tags one h.0 k lt), claim_names tag to.index (claim_range tag to.first to.len tags) one inside)

instruction_rises : (tag : ℕ) (i : Instruction) (tags : List ℕ) → IsInstructionOf (length tags) i → Rises tags (claim_instruction tag i tags)
unfolding claim_instruction
instruction_rises tag (sets to of) tags h =
    let one = location_rises tag to tags h.0 in rises_then one (claim_rises tag of (claim_location tag to tags) (still_of of one.size h.1))
instruction_rises tag (takes to) tags h = location_rises tag to tags h
instruction_rises tag (assumes test) tags h = claim_rises tag test tags h
instruction_rises tag (checks test kind line) tags h = claim_rises tag test tags h
instruction_rises tag (skips test by) tags h = claim_rises tag test tags h

instruction_names : (tag : ℕ) (i : Instruction) (tags : List ℕ) → 1 ≤ tag → IsInstructionOf (length tags) i → InstructionNamesOnly (IsTagged tag (claim_instruction tag i tags)) i
unfolding claim_instruction
instruction_names tag (sets to of) tags one h =
    let front = location_rises tag to tags h.0 in
    let inside = still_of of front.size h.1 in
    (location_more (rises_keeps (claim_rises tag of (claim_location tag to tags) inside) tag one) to (location_names tag to tags one h.0), claim_names tag of (claim_location tag to tags) one inside)
instruction_names tag (takes to) tags one h = location_names tag to tags one h
instruction_names tag (assumes test) tags one h = claim_names tag test tags one h
instruction_names tag (checks test kind line) tags one h = claim_names tag test tags one h
instruction_names tag (skips test by) tags one h = claim_names tag test tags one h

-- ---- code

within_still : {n m : ℕ} (code : List MarkedInstruction) → m ≡ n → NamesWithin n code → NamesWithin m code
within_still {n} {m} code same h = subst (λ (k : ℕ). NamesWithin k code) (sym same) h

code_rises : (tag : ℕ) (code : List MarkedInstruction) (tags : List ℕ) → NamesWithin (length tags) code → Rises tags (claim_code tag code tags)
unfolding claim_code
code_rises tag [] tags h = rises_none tags
code_rises tag (x ∷ xs) tags h =
    let one = instruction_rises tag x.instr tags h.0 in rises_then one (code_rises tag xs (claim_instruction tag x.instr tags) (within_still xs one.size h.1))

code_names : (tag : ℕ) (code : List MarkedInstruction) (tags : List ℕ) → 1 ≤ tag → NamesWithin (length tags) code → CodeNamesOnly (IsTagged tag (claim_code tag code tags)) code
unfolding claim_code
code_names tag [] tags one h = tt
code_names tag (x ∷ xs) tags one h =
    let front = instruction_rises tag x.instr tags h.0 in
    let inside = within_still xs front.size h.1 in (
      instruction_more (rises_keeps (code_rises tag xs (claim_instruction tag x.instr tags) inside) tag one) x.instr (instruction_names tag x.instr tags one h.0),
      code_names tag xs (claim_instruction tag x.instr tags) one inside,
    )

-- ---- threads

threads_still : {n m : ℕ} (threads : List (List MarkedInstruction)) → m ≡ n → AllByRecursion (NamesWithin n) threads → AllByRecursion (NamesWithin m) threads
threads_still {n} {m} threads same h = subst (λ (k : ℕ). AllByRecursion (NamesWithin k) threads) (sym same) h

pub threads_rises : (tag : ℕ) (threads : List (List MarkedInstruction)) (tags : List ℕ) → AllByRecursion (NamesWithin (length tags)) threads → Rises tags (claim_threads tag threads tags)
unfolding claim_threads
threads_rises tag [] tags h = rises_none tags
threads_rises tag (code ∷ rest) tags h =
    let one = code_rises tag code tags h.0 in rises_then one (threads_rises (suc tag) rest (claim_code tag code tags) (threads_still rest one.size h.1))

-- at the end each thread names words of its tag and shared ones alone
pub threads_names : (tag : ℕ) (threads : List (List MarkedInstruction)) (tags : List ℕ) → 1 ≤ tag → AllByRecursion (NamesWithin (length tags)) threads
    → (t : ℕ) → CodeNamesOnly (IsTagged (tag + t) (claim_threads tag threads tags)) (slice_index_or threads t [])
unfolding claim_threads
threads_names tag [] tags one h zero = tt
threads_names tag [] tags one h (suc t) = tt
threads_names tag (code ∷ rest) tags one h zero =
    let front = code_rises tag code tags h.0 in
    let inside = threads_still rest front.size h.1 in
    let z : tag ≡ tag + 0 = omega arith in
    subst (λ (u : ℕ). CodeNamesOnly (IsTagged u (claim_threads (suc tag) rest (claim_code tag code tags))) code) z
    (code_more (rises_keeps (threads_rises (suc tag) rest (claim_code tag code tags) inside) tag one) code (code_names tag code tags one h.0))
threads_names tag (code ∷ rest) tags one h (suc t) =
    let front = code_rises tag code tags h.0 in
    let z : suc tag + t ≡ tag + suc t = omega arith in
    subst (λ (u : ℕ). CodeNamesOnly (IsTagged u (claim_threads (suc tag) rest (claim_code tag code tags))) (slice_index_or rest t [])) z
    (threads_names (suc tag) rest (claim_code tag code tags) (omega (arith, one)) (threads_still rest front.size h.1) t)
