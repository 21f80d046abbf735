-- From the tags to the theorem: what claims and passes leave is a program with fewer marks by its owners.
use Rattle.std.proofs.Common.{◌≡◌, ℕ, zero, suc, ◌+◌, ◌%◌, ◌<◌, ◌≤◌, ◌⊎◌, inl, inr, Bool, true, false, cond, List, [], ◌∷◌, length, map, eqb, refl, sym, ◌∙◌, ap, ap₂, subst, arith}
use Rattle.std.specs.Prelude.{slice_index, slice_index_or}
use Rattle.std.specs.List.{AllByRecursion}
use Rattle.std.proofs.lemmas.Bool.{and_parts, eqb-true, ne_eqb}
use Rattle.lz_base.specs.Words.{value_bound}
use Rattle.lz_base.specs.Lending.{written_over}
use Rattle.lz_base.proofs.ListLemmas.{written_over_is}
use Rattle.lz_flat.specs.declared.program.Flat.{Flat}
use Rattle.lz_flat.specs.declared.program.Marked.{Marked}
use Rattle.lz_flat.specs.Programs.{flat_program, Expression, constant, word, element, unary, binary, convert, choose, Location, Instruction, sets, takes, assumes, checks, skips, MarkedInstruction, FlatProgram, code_of}
use Rattle.lz_flat.specs.WellFormed.{IsWord, IsCodeOf, IsWellMarked, BeginsVisible}
use Rattle.lz_flat.specs.Weight.{code_weight, threads_weight, flat_weight}
use Rattle.lz_flat.specs.Lengths.{CodeHasLengths, FlatHasLengths}
use Rattle.lz_flat.specs.Naming.{NamesOnly, LocationNamesOnly, InstructionNamesOnly, CodeNamesOnly}
use Rattle.lz_points.specs.Tags.{shared_tag, tag_of, IsTagged, owner_of, NamesWithin, claim_threads, all_tagged, owns, owns_location, owns_instruction}
use Rattle.lz_points.specs.Thinning.{Own, Sees, Thinned, none, kept, taken, ThinnedBy}
use Rattle.lz_points.specs.Passes.{thinned, thinned_threads}
use Rattle.lz_points.specs.Marks.{OnlyMarks, IsThinnedFrom, BreakAlike, BreaksBefore}
use Rattle.lz_points.proofs.BackLemmas.{runs_back}
use Rattle.lz_points.proofs.KeepLemmas.{marks_keep}
use Rattle.lz_points.proofs.PassesLemmas.{all_three, passes_thin}
use Rattle.lz_points.proofs.LoopsLemmas.{codes}
use Rattle.lz_points.proofs.ClaimingLemmas.{code_more, Rises, threads_rises, threads_names}

-- ---- what a test says

all_tagged_at : (tags : List ℕ) (tag first len : ℕ) → all_tagged tags tag first len ≡ true → (k : ℕ) → k < len → tag_of tags (first + k) ≡ tag
unfolding all_tagged
all_tagged_at tags tag first zero e k lt = absurd (let no : ⊥ = omega (arith, lt) in no)
all_tagged_at tags tag first (suc len) e zero lt =
    let z : first ≡ first + 0 = omega arith in
    subst (λ (w : ℕ). tag_of tags w ≡ tag) z (eqb-true (tag_of tags first) tag (and_parts (eqb (tag_of tags first) tag) (all_tagged tags tag (suc first) len) e).0)
all_tagged_at tags tag first (suc len) e (suc k) lt =
    let z : suc first + k ≡ first + suc k = omega arith in
    subst (λ (w : ℕ). tag_of tags w ≡ tag) z (all_tagged_at tags tag (suc first) len (and_parts (eqb (tag_of tags first) tag) (all_tagged tags tag (suc first) len) e).1 k (omega (arith, lt)))

-- a word of a thread's tag is its own
own_of : (tags : List ℕ) (t w : ℕ) → suc t < shared_tag → tag_of tags w ≡ suc t → Own (owner_of tags) t w
own_of tags t w lt e = ap (λ (x : ℕ). cond (eqb x shared_tag) 0 x) e ∙ ap (λ (b : Bool). cond b 0 (suc t)) (ne_eqb (suc t) shared_tag (λ is. let no : ⊥ = omega (arith, lt, is) in no))

-- a word of its tag or of that of shared words is one that it sees
sees_of : (tags : List ℕ) (t w : ℕ) → IsTagged (suc t) tags w → Sees (owner_of tags) t w
sees_of tags t w (inr s) = inl (ap (λ (x : ℕ). cond (eqb x shared_tag) 0 x) s)
sees_of tags t w (inl e) = by (eqb (tag_of tags w) shared_tag)
  where
    by : (b : Bool) → (cond b 0 (tag_of tags w) ≡ 0) ⊎ (cond b 0 (tag_of tags w) ≡ suc t)
    by true = inl refl
    by false = inr e

-- what the tests say of expressions and instructions
owns_names : (tags : List ℕ) (t : ℕ) → suc t < shared_tag → (e : Expression) → owns tags (suc t) e ≡ true → NamesOnly (Own (owner_of tags) t) e
unfolding owns
owns_names tags t lt (constant v) e = tt
owns_names tags t lt (word place) e = own_of tags t place lt (eqb-true (tag_of tags place) (suc t) e)
owns_names tags t lt (element first len index) e =
    let p = and_parts (all_tagged tags (suc t) first len) (owns tags (suc t) index) e in
    (λ k below. own_of tags t (first + k) lt (all_tagged_at tags (suc t) first len p.0 k below), owns_names tags t lt index p.1)
owns_names tags t lt (unary op kind of) e = owns_names tags t lt of e
owns_names tags t lt (binary op kind left right) e =
    let p = and_parts (owns tags (suc t) left) (owns tags (suc t) right) e in (owns_names tags t lt left p.0, owns_names tags t lt right p.1)
owns_names tags t lt (convert from to of) e = owns_names tags t lt of e
owns_names tags t lt (choose test chosen other) e =
    let p = all_three (owns tags (suc t) test) (owns tags (suc t) chosen) (owns tags (suc t) other) e in
    (owns_names tags t lt test p.0, owns_names tags t lt chosen p.1, owns_names tags t lt other p.2)

owns_location_names : (tags : List ℕ) (t : ℕ) → suc t < shared_tag → (to : Location) → owns_location tags (suc t) to ≡ true → LocationNamesOnly (Own (owner_of tags) t) to
unfolding owns_location
owns_location_names tags t lt to e =
    let p = and_parts (all_tagged tags (suc t) to.first to.len) (owns tags (suc t) to.index) e in
    (λ k below. own_of tags t (to.first + k) lt (all_tagged_at tags (suc t) to.first to.len p.0 k below), owns_names tags t lt to.index p.1)

owns_instruction_names : (tags : List ℕ) (t : ℕ) → suc t < shared_tag → (i : Instruction) → owns_instruction tags (suc t) i ≡ true → InstructionNamesOnly (Own (owner_of tags) t) i
unfolding owns_instruction
owns_instruction_names tags t lt (sets to of) e =
    let p = and_parts (owns_location tags (suc t) to) (owns tags (suc t) of) e in (owns_location_names tags t lt to p.0, owns_names tags t lt of p.1)
owns_instruction_names tags t lt (takes to) e = owns_location_names tags t lt to e
owns_instruction_names tags t lt (assumes test) e = owns_names tags t lt test e
owns_instruction_names tags t lt (checks test kind line) e = owns_names tags t lt test e
owns_instruction_names tags t lt (skips test by) e = owns_names tags t lt test e

-- ---- well marked code names words of the memory

code_within : (n : ℕ) (code : List MarkedInstruction) → IsCodeOf n code → NamesWithin n code
code_within n [] h = tt
code_within n (x ∷ xs) h = (h.0, code_within n xs h.3)

pub codes_within : (n : ℕ) (threads : List (List MarkedInstruction)) → AllByRecursion (IsCodeOf n) threads → AllByRecursion (NamesWithin n) threads
codes_within n [] h = tt
codes_within n (code ∷ rest) h = (code_within n code h.0, codes_within n rest h.1)

-- ---- the threads

-- what the passes make of each thread, the first of which has the number u
pub record ThreadsThin (tags : List ℕ) (u n : ℕ) (old new : List (List MarkedInstruction)) : Type 0 where
  pub threads : length new ≡ length old
  pub codes : (t : ℕ) → Thinned (Own (owner_of tags) (u + t)) (slice_index_or old t []) (slice_index_or new t [])
  pub are : AllByRecursion (IsCodeOf n) new
  pub begin : AllByRecursion BeginsVisible new
  pub weight : threads_weight new ≤ threads_weight old
  pub lengths : AllByRecursion CodeHasLengths old → AllByRecursion CodeHasLengths new

threads_thin : (tags : List ℕ) (u n : ℕ) (threads : List (List MarkedInstruction)) → u + length threads < shared_tag → AllByRecursion (IsCodeOf n) threads → AllByRecursion BeginsVisible threads
    → ThreadsThin tags u n threads (thinned_threads tags (suc u) threads)
unfolding thinned_threads
threads_thin tags u n [] lt is begins = record { threads = refl; codes = λ t. none_at t; are = tt; begin = tt; weight = omega arith; lengths = λ h. h }
  where
    none_at : (t : ℕ) → Thinned (Own (owner_of tags) (u + t)) (slice_index_or {A = List MarkedInstruction} [] t []) (slice_index_or {A = List MarkedInstruction} [] t [])
    none_at zero = none
    none_at (suc t) = none
threads_thin tags u n (code ∷ rest) lt is begins = let more = threads_thin tags (suc u) n rest (omega (arith, lt)) is.1 begins.1 in record {
  threads = ap suc more.threads;
  codes = λ t. at more t;
  are = (one.1, more.are);
  begin = (one.2, more.begin);
  weight = let w = one.3 in let v = more.weight in omega (arith, w, v);
  lengths = λ h. (one.4 h.0, more.lengths h.1);
}
  where
    one : Thinned (Own (owner_of tags) u) code (thinned (owns_instruction tags (suc u)) code) × IsCodeOf n (thinned (owns_instruction tags (suc u)) code) × BeginsVisible (thinned (owns_instruction tags (suc u)) code)
        × (code_weight (thinned (owns_instruction tags (suc u)) code) ≤ code_weight code) × (CodeHasLengths code → CodeHasLengths (thinned (owns_instruction tags (suc u)) code))
    one = passes_thin (owner_of tags) u (owns_instruction tags (suc u)) (owns_instruction_names tags u (omega (arith, lt))) n code is.0 begins.0

    at : ThreadsThin tags (suc u) n rest (thinned_threads tags (suc (suc u)) rest) → (t : ℕ) → Thinned (Own (owner_of tags) (u + t)) (slice_index_or (code ∷ rest) t []) (slice_index_or (thinned (owns_instruction tags (suc u)) code ∷ thinned_threads tags (suc (suc u)) rest) t [])
    at more zero = let z : u ≡ u + 0 = omega arith in subst (λ (k : ℕ). Thinned (Own (owner_of tags) k) code (thinned (owns_instruction tags (suc u)) code)) z one.0
    at more (suc t) = let z : suc u + t ≡ u + suc t = omega arith in
        subst (λ (k : ℕ). Thinned (Own (owner_of tags) k) (slice_index_or rest t []) (slice_index_or (thinned_threads tags (suc (suc u)) rest) t [])) z (more.codes t)

-- ---- marks alone

only_marks : {P : ℕ → Type 0} {xs ys : List MarkedInstruction} → Thinned P xs ys → OnlyMarks xs ys
only_marks none = tt
only_marks (kept more) = (refl, λ v. v, only_marks more)
only_marks (taken names on skip free more) = (refl, λ v. refl, only_marks more)

-- ---- the values are given back

pub restored : (tags first : List ℕ) → length tags ≡ length first → ((w : ℕ) → slice_index tags w % value_bound ≡ slice_index first w % value_bound) → AllByRecursion IsWord first
    → map (λ (v : ℕ). v % value_bound) tags ≡ first
restored [] [] size same words = refl
restored [] (y ∷ ys) size same words = absurd (let no : ⊥ = omega (arith, size) in no)
restored (x ∷ xs) [] size same words = absurd (let no : ⊥ = omega (arith, size) in no)
restored (x ∷ xs) (y ∷ ys) size same words =
    let here : x % value_bound ≡ y = let e = same 0 in let w = words.0 in omega (arith, e, w) in
    ap (λ (v : ℕ). v ∷ map (λ (u : ℕ). u % value_bound) xs) here
    ∙ ap (λ (vs : List ℕ). y ∷ vs) (restored xs ys (let z : length xs ≡ length ys = omega (arith, size) in z) (λ w. same (suc w)) words.1)

-- ---- the whole

-- what is promised of the marked program
pub record Promises (flat thinner : FlatProgram) : Type 0 where
  pub marks : IsThinnedFrom flat thinner
  pub broken : BreakAlike flat thinner
  pub before : BreaksBefore flat thinner
  pub weight : flat_weight thinner ≤ flat_weight flat
  pub lengths : FlatHasLengths flat → FlatHasLengths thinner

pub marked_program : (flat thinner : FlatProgram) (tags : List ℕ) → IsWellMarked flat → length flat.threads < shared_tag → tags ≡ claim_threads 1 flat.threads flat.first
    → thinner.threads ≡ thinned_threads tags 1 flat.threads → thinner.first ≡ map (λ (v : ℕ). v % value_bound) tags → Promises flat thinner
marked_program flat thinner tags well few claims thins values = record {
  marks = record { first = back; threads = count; codes = λ t. only_marks (thin t); well = still };
  broken = λ rounds. marks_keep (owner_of tags) flat thinner well by rounds;
  before = λ rounds run inputs kind line is. runs_back (owner_of tags) flat thinner by rounds run inputs kind line is;
  weight = subst (λ (ts : List (List MarkedInstruction)). threads_weight ts ≤ threads_weight flat.threads) (sym thins) thinning.weight;
  lengths = λ h. subst (λ (ts : List (List MarkedInstruction)). AllByRecursion CodeHasLengths ts) (sym thins) (thinning.lengths h);
}
  where
    within : AllByRecursion (NamesWithin (length flat.first)) flat.threads
    within = codes_within (length flat.first) flat.threads well.codes

    rises : Rises flat.first tags
    rises = subst (λ (ts : List ℕ). Rises flat.first ts) (sym claims) (threads_rises 1 flat.threads flat.first within)

    back : thinner.first ≡ flat.first
    back = values ∙ restored tags flat.first rises.size rises.values well.words

    thinning : ThreadsThin tags 0 (length flat.first) flat.threads (thinned_threads tags 1 flat.threads)
    thinning = threads_thin tags 0 (length flat.first) flat.threads (omega (arith, few)) well.codes well.begins

    count : length thinner.threads ≡ length flat.threads
    count = ap (λ (ts : List (List MarkedInstruction)). length ts) thins ∙ thinning.threads

    thin : (t : ℕ) → Thinned (Own (owner_of tags) t) (code_of flat t) (code_of thinner t)
    thin t = let z : 0 + t ≡ t = omega arith in
        subst (λ (ts : List (List MarkedInstruction)). Thinned (Own (owner_of tags) t) (code_of flat t) (slice_index_or ts t [])) (sym thins)
        (subst (λ (k : ℕ). Thinned (Own (owner_of tags) k) (code_of flat t) (slice_index_or (thinned_threads tags 1 flat.threads) t [])) z (thinning.codes t))

    sees : (t : ℕ) → CodeNamesOnly (Sees (owner_of tags) t) (code_of flat t)
    sees t = let z : 1 + t ≡ suc t = omega arith in
        code_more (sees_of tags t) (code_of flat t)
        (subst (λ (k : ℕ). CodeNamesOnly (IsTagged k tags) (code_of flat t)) z
        (subst (λ (ts : List ℕ). CodeNamesOnly (IsTagged (1 + t) ts) (code_of flat t)) (sym claims) (threads_names 1 flat.threads flat.first (omega arith) within t)))

    still : IsWellMarked thinner
    still = record {
      words = subst (λ (ws : List ℕ). AllByRecursion IsWord ws) (sym back) well.words;
      codes = subst (λ (ws : List ℕ). AllByRecursion (IsCodeOf (length ws)) thinner.threads) (sym back)
          (subst (λ (ts : List (List MarkedInstruction)). AllByRecursion (IsCodeOf (length flat.first)) ts) (sym thins) thinning.are);
      begins = subst (λ (ts : List (List MarkedInstruction)). AllByRecursion BeginsVisible ts) (sym thins) thinning.begin;
    }

    by : ThinnedBy (owner_of tags) flat thinner
    by = record { first = back; threads = count; sees = sees; codes = thin; well = still }

-- ---- the code

-- what the calls of `mark` lend, and leave
pub marked_flat : (flat : Flat) (lent_threads threads threads' : List (List Marked)) (lent_first first tags values_lent values : List ℕ) → IsWellMarked (flat_program flat) → length flat.threads < shared_tag
    → lent_first ≡ flat.first → lent_threads ≡ flat.threads → tags ≡ claim_threads 1 (codes lent_threads) lent_first → length tags ≡ length lent_first
    → threads ≡ flat.threads → first ≡ written_over flat.first tags → codes threads' ≡ thinned_threads first 1 (codes threads) → length threads' ≡ length threads
    → values_lent ≡ written_over flat.first tags → values ≡ map (λ (v : ℕ). v % value_bound) values_lent → length values ≡ length values_lent
    → Promises (flat_program flat) (flat_program (record { threads = written_over flat.threads threads'; first = written_over (written_over flat.first tags) values }))
marked_flat flat lent_threads threads threads' lent_first first tags values_lent values well few lf lt claims size t2 f2 thins count vl values_are long =
    marked_program (flat_program flat) (flat_program (record { threads = written_over flat.threads threads'; first = written_over (written_over flat.first tags) values })) tags well
    (let n = codes_count flat.threads in omega (arith, n, few))
    (claims ∙ ap₂ (λ (ts : List (List Marked)) (f : List ℕ). claim_threads 1 (codes ts) f) lt lf)
    (ap (λ (ts : List (List Marked)). codes ts) (written_over_is flat.threads threads' (count ∙ ap (λ (ts : List (List Marked)). length ts) t2))
    ∙ thins ∙ ap₂ (λ (f : List ℕ) (ts : List (List Marked)). thinned_threads f 1 (codes ts)) (f2 ∙ over) t2)
    (written_over_is (written_over flat.first tags) values (long ∙ ap (λ (f : List ℕ). length f) vl) ∙ values_are ∙ ap (λ (f : List ℕ). map (λ (v : ℕ). v % value_bound) f) (vl ∙ over))
  where
    over : written_over flat.first tags ≡ tags
    over = written_over_is flat.first tags (size ∙ ap (λ (f : List ℕ). length f) lf)

    codes_count : (ts : List (List Marked)) → length (codes ts) ≡ length ts
    codes_count [] = refl
    codes_count (x ∷ xs) = ap suc (codes_count xs)

-- the words that the code names are those of the tags
pub lent_within : (flat : Flat) (lent_threads : List (List Marked)) (n : ℕ) → IsWellMarked (flat_program flat) → lent_threads ≡ flat.threads → n ≡ length flat.first → AllByRecursion (NamesWithin n) (codes lent_threads)
lent_within flat lent_threads n well lt is =
    subst (λ (k : ℕ). AllByRecursion (NamesWithin k) (codes lent_threads)) (sym is)
    (subst (λ (ts : List (List Marked)). AllByRecursion (NamesWithin (length flat.first)) (codes ts)) (sym lt) (codes_within (length flat.first) (codes flat.threads) well.codes))

pub written_length : (old tags : List ℕ) → length tags ≡ length old → length (written_over old tags) ≡ length old
written_length old tags same = ap (λ (xs : List ℕ). length xs) (written_over_is old tags same) ∙ same
