-- One turn, and the end, of the loops over ranges, code and threads.
use Rattle.std.proofs.Common.{◌≡◌, ℕ, zero, suc, ◌+◌, ◌-◌, ◌<◌, ◌≤◌, Bool, true, false, List, [], ◌∷◌, ◌++◌, length, map, take, drop, set, get_or, eqb, refl, sym, ◌∙◌, ap, ap₂, subst, arith}
use Rattle.std.specs.Prelude.{slice_index, slice_set}
use Rattle.std.specs.List.{AllByRecursion}
use Rattle.std.proofs.Math.Dec.{eqb-suc-zero}
use Rattle.std.proofs.lemmas.List.{map-set, drop-map, drop_all, take_all, append-nil}
use Rattle.lz_base.specs.Lending.{written_over}
use Rattle.lz_base.proofs.ListLemmas.{drop_item, written_over_is}
use Rattle.lz_flat.specs.declared.program.Marked.{Marked}
use Rattle.lz_flat.specs.Programs.{Instruction, instruction, MarkedInstruction, marked}
use Rattle.lz_flat.specs.WellFormed.{IsInstructionOf}
use Rattle.lz_points.specs.Tags.{NamesWithin, claimed, claim_word, claim_range, claim_instruction, claim_code, claim_threads, owns_instruction}
use Rattle.lz_points.specs.Passes.{flag_at, back_flag, back, forth_flag, forth, thinned, thinned_threads}

-- ---- ranges

range_next : (tag first len k : ℕ) (tags : List ℕ) → k < len → claim_range tag (first + k) (len - k) tags ≡ claim_range tag (first + (k + 1)) (len - (k + 1)) (claim_word tag (first + k) tags)
unfolding claim_range
range_next tag first len k tags lt = ap (λ (n : ℕ). claim_range tag (first + k) n tags) (let z : len - k ≡ suc (len - (k + 1)) = omega (arith, lt) in z)
    ∙ ap (λ (w : ℕ). claim_range tag w (len - (k + 1)) (claim_word tag (first + k) tags)) (let z : suc (first + k) ≡ first + (k + 1) = omega arith in z)

pub range_turn : (tag first len k v : ℕ) (tags start : List ℕ) → k < len → v ≡ claimed tag (slice_index tags (first + k)) → claim_range tag (first + k) (len - k) tags ≡ claim_range tag first len start
    → claim_range tag (first + (k + 1)) (len - (k + 1)) (slice_set tags (first + k) v) ≡ claim_range tag first len start
unfolding claim_word
range_turn tag first len k v tags start lt is left = ap (λ (x : ℕ). claim_range tag (first + (k + 1)) (len - (k + 1)) (slice_set tags (first + k) x)) is ∙ sym (range_next tag first len k tags lt) ∙ left

pub range_end : (tag first len k : ℕ) (tags start : List ℕ) → len ≤ k → claim_range tag (first + k) (len - k) tags ≡ claim_range tag first len start → tags ≡ claim_range tag first len start
unfolding claim_range
range_end tag first len k tags start le left = sym (ap (λ (n : ℕ). claim_range tag (first + k) n tags) (let z : len - k ≡ 0 = omega (arith, le) in z)) ∙ left

pub range_start : (tag first len : ℕ) (tags : List ℕ) → claim_range tag (first + 0) (len - 0) tags ≡ claim_range tag first len tags
range_start tag first len tags = ap₂ (λ (w n : ℕ). claim_range tag w n tags) (let z : first + 0 ≡ first = omega arith in z) (let z : len - 0 ≡ len = omega arith in z)

-- ---- code

-- what is left of the code, item by item
pub code_left : (n : ℕ) (code : List Marked) (i : ℕ) (x : Marked) → i < length code → x ≡ get_or code i x → NamesWithin n (map marked (drop i code)) → IsInstructionOf n (instruction x.instr)
code_left n code i x lt is h = (subst (λ (xs : List Marked). NamesWithin n (map marked xs)) (drop_item code i x lt is) h).0

pub code_rest : (n : ℕ) (code : List Marked) (i : ℕ) (x : Marked) → i < length code → x ≡ get_or code i x → NamesWithin n (map marked (drop i code)) → NamesWithin n (map marked (drop (i + 1) code))
code_rest n code i x lt is h = (subst (λ (xs : List Marked). NamesWithin n (map marked xs)) (drop_item code i x lt is) h).1

pub code_turn : (tag : ℕ) (code : List Marked) (i : ℕ) (x : Marked) (tags next whole : List ℕ) → i < length code → x ≡ get_or code i x → next ≡ claim_instruction tag (instruction x.instr) tags
    → claim_code tag (map marked (drop i code)) tags ≡ whole → claim_code tag (map marked (drop (i + 1) code)) next ≡ whole
unfolding claim_code
code_turn tag code i x tags next whole lt is e left = ap (λ (ts : List ℕ). claim_code tag (map marked (drop (i + 1) code)) ts) e
    ∙ sym (ap (λ (xs : List Marked). claim_code tag (map marked xs) tags) (drop_item code i x lt is)) ∙ left

pub code_end : (tag : ℕ) (code : List Marked) (i : ℕ) (tags whole : List ℕ) → length code ≤ i → claim_code tag (map marked (drop i code)) tags ≡ whole → tags ≡ whole
unfolding claim_code
code_end tag code i tags whole le left = sym (ap (λ (xs : List Marked). claim_code tag (map marked xs) tags) (drop_all i code le)) ∙ left

-- ---- threads

abbrev pub codes : List (List Marked) → List (List MarkedInstruction)
codes threads = map (λ code. map marked code) threads

pub thread_left : (n : ℕ) (threads : List (List Marked)) (i : ℕ) (x : List Marked) → i < length threads → x ≡ get_or threads i x → AllByRecursion (NamesWithin n) (codes (drop i threads)) → NamesWithin n (map marked x)
thread_left n threads i x lt is h = (subst (λ (xs : List (List Marked)). AllByRecursion (NamesWithin n) (codes xs)) (drop_item threads i x lt is) h).0

pub thread_rest : (n : ℕ) (threads : List (List Marked)) (i : ℕ) (x : List Marked) → i < length threads → x ≡ get_or threads i x → AllByRecursion (NamesWithin n) (codes (drop i threads))
    → AllByRecursion (NamesWithin n) (codes (drop (i + 1) threads))
thread_rest n threads i x lt is h = (subst (λ (xs : List (List Marked)). AllByRecursion (NamesWithin n) (codes xs)) (drop_item threads i x lt is) h).1

pub thread_turn : (threads : List (List Marked)) (i : ℕ) (x : List Marked) (tags next whole : List ℕ) → i < length threads → x ≡ get_or threads i x → next ≡ claim_code (i + 1) (map marked x) tags
    → claim_threads (i + 1) (codes (drop i threads)) tags ≡ whole → claim_threads (i + 1 + 1) (codes (drop (i + 1) threads)) next ≡ whole
unfolding claim_threads
thread_turn threads i x tags next whole lt is e left =
    ap (λ (ts : List ℕ). claim_threads (i + 1 + 1) (codes (drop (i + 1) threads)) ts) e
    ∙ ap (λ (u : ℕ). claim_threads u (codes (drop (i + 1) threads)) (claim_code (i + 1) (map marked x) tags)) (let z : i + 1 + 1 ≡ suc (i + 1) = omega arith in z)
    ∙ sym (ap (λ (xs : List (List Marked)). claim_threads (i + 1) (codes xs) tags) (drop_item threads i x lt is)) ∙ left

pub thread_end : (threads : List (List Marked)) (i : ℕ) (tags whole : List ℕ) → length threads ≤ i → claim_threads (i + 1) (codes (drop i threads)) tags ≡ whole → tags ≡ whole
unfolding claim_threads
thread_end threads i tags whole le left = sym (ap (λ (xs : List (List Marked)). claim_threads (i + 1) (codes xs) tags) (drop_all i threads le)) ∙ left

-- ---- flags

pub flag_found : (rest : List Marked) (over : ℕ) (x : Marked) → over < length rest → x ≡ get_or rest over x → x.visible ≡ flag_at (map marked rest) over
unfolding flag_at
flag_found [] over x lt is = absurd (let no : ⊥ = omega (arith, lt) in no)
flag_found (y ∷ ys) zero x lt is = ap (λ (z : Marked). z.visible) is
flag_found (y ∷ ys) (suc over) x lt is = flag_found ys over x (omega (arith, lt)) is

pub flag_past : (rest : List Marked) (over : ℕ) → length rest ≤ over → true ≡ flag_at (map marked rest) over
unfolding flag_at
flag_past [] over le = refl
flag_past (y ∷ ys) zero le = absurd (let no : ⊥ = omega (arith, le) in no)
flag_past (y ∷ ys) (suc over) le = flag_past ys over (omega (arith, le))

-- ---- the way back

-- the instructions name what they named
back_within : (n : ℕ) (own : Instruction → Bool) (xs : List MarkedInstruction) → NamesWithin n xs → NamesWithin n (back own xs)
unfolding back
back_within n own [] h = tt
back_within n own (x ∷ xs) h = (h.0, back_within n own xs h.1)

-- so far from the end
abbrev pub back_from : (Instruction → Bool) → ℕ → List MarkedInstruction → List MarkedInstruction
back_from own at xs = take at xs ++ back own (drop at xs)

-- what is left of it from a place before
back_left : (own : Instruction → Bool) (at : ℕ) (xs : List MarkedInstruction) → at < length xs → (n : ℕ) → NamesWithin n xs → NamesWithin n (drop at (back_from own (suc at) xs))
back_left own at [] lt n h = absurd (let no : ⊥ = omega (arith, lt) in no)
back_left own zero (x ∷ xs) lt n h = (h.0, back_within n own xs h.1)
back_left own (suc at) (x ∷ xs) lt n h = back_left own at xs (omega (arith, lt)) n h.1

-- the instruction with another flag
abbrev pub flagged : List MarkedInstruction → ℕ → Bool → List MarkedInstruction
flagged [] at flag = []
flagged (x ∷ xs) zero flag = record { instr = x.instr; visible = flag } ∷ xs
flagged (x ∷ xs) (suc at) flag = x ∷ flagged xs at flag

back_more : (own : Instruction → Bool) (at : ℕ) (xs : List MarkedInstruction) → at < length xs
    → flagged (back_from own (suc at) xs) at (back_flag own (drop at (back_from own (suc at) xs))) ≡ back_from own at xs
unfolding back
back_more own at [] lt = absurd (let no : ⊥ = omega (arith, lt) in no)
back_more own zero (x ∷ xs) lt = refl
back_more own (suc at) (x ∷ xs) lt = ap (λ (ys : List MarkedInstruction). x ∷ ys) (back_more own at xs (omega (arith, lt)))

-- a flag is set in code
set_flagged : (code : List Marked) (at : ℕ) (d : Marked) (flag : Bool) → at < length code
    → map marked (set code at (record { instr = (get_or code at d).instr; visible = flag })) ≡ flagged (map marked code) at flag
set_flagged [] at d flag lt = absurd (let no : ⊥ = omega (arith, lt) in no)
set_flagged (y ∷ ys) zero d flag lt = refl
set_flagged (y ∷ ys) (suc at) d flag lt = ap (λ (zs : List MarkedInstruction). marked y ∷ zs) (set_flagged ys at d flag (omega (arith, lt)))

marked_length : (code : List Marked) → length (map marked code) ≡ length code
marked_length [] = refl
marked_length (x ∷ xs) = ap suc (marked_length xs)

pub back_start : (own : Instruction → Bool) (code : List Marked) → map marked code ≡ back_from own (length code - 0) (map marked code)
unfolding back
back_start own code =
    let size = marked_length code in
    let n : length code - 0 ≡ length code = omega arith in
    sym (ap (λ (k : ℕ). back_from own k (map marked code)) n
    ∙ ap₂ (λ (a b : List MarkedInstruction). a ++ back own b) (take_all (length code) (map marked code) (omega (arith, size))) (drop_all (length code) (map marked code) (omega (arith, size)))
    ∙ append-nil (map marked code))

pub back_call : (n : ℕ) (own : Instruction → Bool) (code start : List Marked) (next at : ℕ) → next ≡ suc at → at < length start → map marked code ≡ back_from own next (map marked start)
    → NamesWithin n (map marked start) → NamesWithin n (map marked (drop at code))
back_call n own code start next at is lt e h =
    let size = marked_length start in
    subst (λ (xs : List MarkedInstruction). NamesWithin n xs) (sym (ap (λ (xs : List MarkedInstruction). drop at xs) (e ∙ ap (λ (k : ℕ). back_from own k (map marked start)) is)) ∙ drop-map marked at code)
    (back_left own at (map marked start) (omega (arith, size, lt)) n h)

pub back_turn : (own : Instruction → Bool) (code start : List Marked) (next at after : ℕ) (d : Marked) (flag : Bool) → next ≡ suc at → after ≡ at → at < length start → length code ≡ length start
    → map marked code ≡ back_from own next (map marked start) → flag ≡ back_flag own (map marked (drop at code))
    → map marked (set code at (record { instr = (get_or code at d).instr; visible = flag })) ≡ back_from own after (map marked start)
back_turn own code start next at after d flag is then lt same e f =
    let size = marked_length start in
    let now : map marked code ≡ back_from own (suc at) (map marked start) = e ∙ ap (λ (k : ℕ). back_from own k (map marked start)) is in
    set_flagged code at d flag (omega (arith, lt, same))
    ∙ ap₂ (λ (xs : List MarkedInstruction) (b : Bool). flagged xs at b) now (f ∙ ap (λ (xs : List MarkedInstruction). back_flag own xs) (sym (drop-map marked at code) ∙ ap (λ (xs : List MarkedInstruction). drop at xs) now))
    ∙ back_more own at (map marked start) (omega (arith, size, lt))
    ∙ ap (λ (k : ℕ). back_from own k (map marked start)) (sym then)

pub back_end : (own : Instruction → Bool) (code start : List Marked) (next : ℕ) → next ≡ 0 → map marked code ≡ back_from own next (map marked start) → map marked code ≡ back own (map marked start)
back_end own code start next is e = e ∙ ap (λ (k : ℕ). back_from own k (map marked start)) is

pub within_back : (n : ℕ) (own : Instruction → Bool) (xs ys : List MarkedInstruction) → ys ≡ back own xs → NamesWithin n xs → NamesWithin n ys
within_back n own xs ys e h = subst (λ (zs : List MarkedInstruction). NamesWithin n zs) (sym e) (back_within n own xs h)

-- ---- the way forth

-- so far from the front
abbrev pub forth_from : (Instruction → Bool) → ℕ → Bool → List MarkedInstruction → List MarkedInstruction
forth_from own at first xs = take at xs ++ forth own first (drop at xs)

forth_more : (own : Instruction → Bool) (at : ℕ) (first : Bool) (xs : List MarkedInstruction) → at < length xs
    → forth_from own (suc at) false (flagged xs at (forth_flag own first (drop at xs))) ≡ forth_from own at first xs
unfolding forth
forth_more own at first [] lt = absurd (let no : ⊥ = omega (arith, lt) in no)
forth_more own zero first (x ∷ xs) lt = refl
forth_more own (suc at) first (x ∷ xs) lt = ap (λ (ys : List MarkedInstruction). x ∷ ys) (forth_more own at first xs (omega (arith, lt)))

drop_within : (n at : ℕ) (xs : List MarkedInstruction) → NamesWithin n xs → NamesWithin n (drop at xs)
drop_within n zero xs h = h
drop_within n (suc at) [] h = tt
drop_within n (suc at) (x ∷ xs) h = drop_within n at xs h.1

flagged_within : (n at : ℕ) (flag : Bool) (xs : List MarkedInstruction) → NamesWithin n xs → NamesWithin n (flagged xs at flag)
flagged_within n at flag [] h = tt
flagged_within n zero flag (x ∷ xs) h = h
flagged_within n (suc at) flag (x ∷ xs) h = (h.0, flagged_within n at flag xs h.1)

pub forth_call : (n at : ℕ) (code : List Marked) → NamesWithin n (map marked code) → NamesWithin n (map marked (drop at code))
forth_call n at code h = subst (λ (xs : List MarkedInstruction). NamesWithin n xs) (drop-map marked at code) (drop_within n at (map marked code) h)

pub forth_within : (n : ℕ) (code : List Marked) (at : ℕ) (d : Marked) (flag : Bool) → at < length code → NamesWithin n (map marked code) → NamesWithin n (map marked (set code at (record { instr = (get_or code at d).instr; visible = flag })))
forth_within n code at d flag lt h = subst (λ (xs : List MarkedInstruction). NamesWithin n xs) (sym (set_flagged code at d flag lt)) (flagged_within n at flag (map marked code) h)

pub forth_turn : (own : Instruction → Bool) (code : List Marked) (at : ℕ) (d : Marked) (flag : Bool) (whole : List MarkedInstruction) → at < length code → flag ≡ forth_flag own (eqb at 0) (map marked (drop at code))
    → forth_from own at (eqb at 0) (map marked code) ≡ whole
    → forth_from own (at + 1) (eqb (at + 1) 0) (map marked (set code at (record { instr = (get_or code at d).instr; visible = flag }))) ≡ whole
forth_turn own code at d flag whole lt f e =
    let size = marked_length code in
    let next : at + 1 ≡ suc at = omega arith in
    ap₂ (λ (k : ℕ) (xs : List MarkedInstruction). forth_from own k (eqb k 0) xs) next
    (set_flagged code at d flag lt ∙ ap (λ (b : Bool). flagged (map marked code) at b) (f ∙ ap (λ (xs : List MarkedInstruction). forth_flag own (eqb at 0) xs) (sym (drop-map marked at code))))
    ∙ ap (λ (b : Bool). forth_from own (suc at) b (flagged (map marked code) at (forth_flag own (eqb at 0) (drop at (map marked code))))) (eqb-suc-zero at)
    ∙ forth_more own at (eqb at 0) (map marked code) (omega (arith, size, lt)) ∙ e

pub forth_end : (own : Instruction → Bool) (code start : List Marked) (at : ℕ) → length code ≤ at → forth_from own at (eqb at 0) (map marked code) ≡ forth_from own 0 true (map marked start)
    → map marked code ≡ forth own true (map marked start)
unfolding forth
forth_end own code start at le e =
    let size = marked_length code in
    sym (ap₂ (λ (a b : List MarkedInstruction). a ++ forth own (eqb at 0) b) (take_all at (map marked code) (omega (arith, size, le))) (drop_all at (map marked code) (omega (arith, size, le)))
    ∙ append-nil (map marked code)) ∙ e

-- ---- the threads

-- so far from the first
abbrev pub thinned_from : List ℕ → ℕ → List (List MarkedInstruction) → List (List MarkedInstruction)
thinned_from tags t xs = take t xs ++ thinned_threads tags (t + 1) (drop t xs)

threads_more : (tags : List ℕ) (tag t : ℕ) (xs : List (List MarkedInstruction)) (y : List MarkedInstruction) → t < length xs → y ≡ thinned (owns_instruction tags tag) (get_or xs t [])
    → take (suc t) (set xs t y) ++ thinned_threads tags (suc tag) (drop (suc t) (set xs t y)) ≡ take t xs ++ thinned_threads tags tag (drop t xs)
unfolding thinned_threads
threads_more tags tag t [] y lt e = absurd (let no : ⊥ = omega (arith, lt) in no)
threads_more tags tag zero (x ∷ xs) y lt e = ap (λ (z : List MarkedInstruction). z ∷ thinned_threads tags (suc tag) xs) e
threads_more tags tag (suc t) (x ∷ xs) y lt e = ap (λ (zs : List (List MarkedInstruction)). x ∷ zs) (threads_more tags tag t xs y (omega (arith, lt)) e)

codes_at : (threads : List (List Marked)) (t : ℕ) (d : List Marked) → t < length threads → get_or (codes threads) t [] ≡ map marked (get_or threads t d)
codes_at [] t d lt = absurd (let no : ⊥ = omega (arith, lt) in no)
codes_at (x ∷ xs) zero d lt = refl
codes_at (x ∷ xs) (suc t) d lt = codes_at xs t d (omega (arith, lt))

codes_length : (threads : List (List Marked)) → length (codes threads) ≡ length threads
codes_length [] = refl
codes_length (x ∷ xs) = ap suc (codes_length xs)

first_within : (n t : ℕ) (xs : List (List MarkedInstruction)) → t < length xs → AllByRecursion (NamesWithin n) (drop t xs) → NamesWithin n (get_or xs t [])
first_within n t [] lt h = absurd (let no : ⊥ = omega (arith, lt) in no)
first_within n zero (x ∷ xs) lt h = h.0
first_within n (suc t) (x ∷ xs) lt h = first_within n t xs (omega (arith, lt)) h

rest_within : (n t : ℕ) (xs : List (List MarkedInstruction)) (y : List MarkedInstruction) → AllByRecursion (NamesWithin n) (drop t xs) → AllByRecursion (NamesWithin n) (drop (suc t) (set xs t y))
rest_within n zero [] y h = tt
rest_within n (suc t) [] y h = tt
rest_within n zero (x ∷ xs) y h = h.1
rest_within n (suc t) (x ∷ xs) y h = rest_within n t xs y h

pub threads_call : (n : ℕ) (threads : List (List Marked)) (t : ℕ) (d slice : List Marked) → t < length threads → slice ≡ get_or threads t d → AllByRecursion (NamesWithin n) (drop t (codes threads)) → NamesWithin n (map marked slice)
threads_call n threads t d slice lt is h =
    let size = codes_length threads in
    subst (λ (xs : List MarkedInstruction). NamesWithin n xs) (codes_at threads t d lt ∙ ap (λ (xs : List Marked). map marked xs) (sym is)) (first_within n t (codes threads) (omega (arith, size, lt)) h)

-- a thread is written over
codes_written : (threads : List (List Marked)) (t : ℕ) (d y : List Marked) → length y ≡ length (get_or threads t d) → codes (set threads t (written_over (get_or threads t d) y)) ≡ set (codes threads) t (map marked y)
codes_written threads t d y same = map-set (λ (code : List Marked). map marked code) threads t (written_over (get_or threads t d) y)
    ∙ ap (λ (code : List Marked). set (codes threads) t (map marked code)) (written_over_is (get_or threads t d) y same)

pub threads_turn : (tags : List ℕ) (threads : List (List Marked)) (t : ℕ) (d y slice : List Marked) (whole : List (List MarkedInstruction)) → t < length threads → slice ≡ get_or threads t d → length y ≡ length slice
    → map marked y ≡ thinned (owns_instruction tags (t + 1)) (map marked slice) → thinned_from tags t (codes threads) ≡ whole
    → thinned_from tags (t + 1) (codes (set threads t (written_over (get_or threads t d) y))) ≡ whole
threads_turn tags threads t d y slice whole lt is same thin e =
    let size = codes_length threads in
    let next : t + 1 ≡ suc t = omega arith in
    let after : t + 1 + 1 ≡ suc (t + 1) = omega arith in
    ap (λ (xs : List (List MarkedInstruction)). thinned_from tags (t + 1) xs) (codes_written threads t d y (same ∙ ap (λ (xs : List Marked). length xs) is))
    ∙ ap₂ (λ (k u : ℕ). take k (set (codes threads) t (map marked y)) ++ thinned_threads tags u (drop k (set (codes threads) t (map marked y)))) next after
    ∙ threads_more tags (t + 1) t (codes threads) (map marked y) (omega (arith, size, lt))
    (thin ∙ ap (λ (xs : List MarkedInstruction). thinned (owns_instruction tags (t + 1)) xs) (ap (λ (xs : List Marked). map marked xs) is ∙ sym (codes_at threads t d lt)))
    ∙ e

pub threads_within : (n : ℕ) (threads : List (List Marked)) (t : ℕ) (d y slice : List Marked) → slice ≡ get_or threads t d → length y ≡ length slice → AllByRecursion (NamesWithin n) (drop t (codes threads))
    → AllByRecursion (NamesWithin n) (drop (t + 1) (codes (set threads t (written_over (get_or threads t d) y))))
threads_within n threads t d y slice is same h =
    let next : t + 1 ≡ suc t = omega arith in
    subst (λ (xs : List (List MarkedInstruction)). AllByRecursion (NamesWithin n) xs)
    (sym (ap₂ (λ (k : ℕ) (xs : List (List MarkedInstruction)). drop k xs) next (codes_written threads t d y (same ∙ ap (λ (xs : List Marked). length xs) is))))
    (rest_within n t (codes threads) (map marked y) h)

pub threads_end : (tags : List ℕ) (threads start : List (List Marked)) (t : ℕ) → length threads ≤ t → thinned_from tags t (codes threads) ≡ thinned_from tags 0 (codes start) → codes threads ≡ thinned_threads tags 1 (codes start)
unfolding thinned_threads
threads_end tags threads start t le e =
    let size = codes_length threads in
    let one : 0 + 1 ≡ 1 = omega arith in
    sym (ap₂ (λ (a b : List (List MarkedInstruction)). a ++ thinned_threads tags (t + 1) b) (take_all t (codes threads) (omega (arith, size, le))) (drop_all t (codes threads) (omega (arith, size, le)))
    ∙ append-nil (codes threads)) ∙ e ∙ ap (λ (u : ℕ). thinned_threads tags u (codes start)) one
