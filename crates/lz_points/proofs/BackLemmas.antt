-- From after to before: a step with fewer marks is some steps of its thread with all of them.
use Rattle.std.proofs.Common.{◌≡◌, ℕ, zero, suc, ◌+◌, ◌-◌, ◌≤◌, ◌<◌, Bool, true, false, cond, List, [], ◌∷◌, ◌++◌, length, drop, nat_lt, refl, sym, ◌∙◌, ap, ap₂, replicate, arith}
use Rattle.std.specs.Prelude.{slice_index, slice_index_or, slice_set}
use Rattle.std.proofs.lemmas.List.{length-set, length-drop, length-replicate, get_or_past, append-nil, append_assoc, map-append}
use Rattle.lz_base.specs.declared.word.BreakKind.{BreakKind}
use Rattle.lz_base.proofs.DescentsLemmas.{Fits, nothing, stay, next, fits_descents}
use Rattle.lz_flat.specs.Programs.{MarkedInstruction, FlatProgram, code_of}
use Rattle.lz_flat.specs.Instructions.{did}
use Rattle.lz_flat.specs.FlatRuns.{Ran, went, held, breaks, ended, behind, onward, step_from, step, broken, course_behind, course, opening}
use Rattle.lz_flat.specs.Places.{place_behind, onward_places, places_from, places_run}
use Rattle.lz_flat.proofs.LandingLemmas.{step_lands}
use Rattle.lz_points.specs.Thinning.{Own, Thinned, ThinnedBy}
use Rattle.lz_points.specs.Marks.{run_by, instructions_behind, instructions_run, BreaksBefore}
use Rattle.lz_points.proofs.MemoryLemmas.{word_same}
use Rattle.lz_points.proofs.ThroughLemmas.{ran_then, settle, thinned_drop, step_through, places_then, settle_places, step_places}

-- ---- lists of places

pub set_set : (xs : List ℕ) (t a b : ℕ) → slice_set (slice_set xs t a) t b ≡ slice_set xs t b
set_set [] zero a b = refl
set_set [] (suc t) a b = refl
set_set (x ∷ xs) zero a b = refl
set_set (x ∷ xs) (suc t) a b = ap (λ (ys : List ℕ). x ∷ ys) (set_set xs t a b)

pub no_code : (xs : List (List MarkedInstruction)) (k : ℕ) → length xs ≤ k → slice_index_or xs k [] ≡ []
no_code xs k le = get_or_past xs k [] le

drop_nil : (k : ℕ) (xs : List MarkedInstruction) → xs ≡ [] → drop k xs ≡ []
drop_nil zero xs e = e
drop_nil (suc k) [] e = refl
drop_nil (suc k) (x ∷ xs) e = absurd cc

-- a thread that has an instruction left is one of the program's
pub has_code : (xs : List (List MarkedInstruction)) (t p : ℕ) (y : MarkedInstruction) (ys : List MarkedInstruction) → drop p (slice_index_or xs t []) ≡ y ∷ ys → t < length xs
has_code xs t p y ys e = by (nat_lt t (length xs)) refl
  where
    by : (b : Bool) → nat_lt t (length xs) ≡ b → t < length xs
    by true f = grind (arith, f)
    by false f = let past : length xs ≤ t = grind (arith, f) in let z = drop_nil p (slice_index_or xs t []) (no_code xs t past) in absurd cc

-- ---- where the code stands at a place

pub settle_visible : (input : ℕ → ℕ) (code : List MarkedInstruction) (p : ℕ) (m : List ℕ) (y : MarkedInstruction) (ys : List MarkedInstruction) → drop p code ≡ y ∷ ys → y.visible ≡ true → settle input code p m ≡ went p m
unfolding onward
settle_visible input code p m y ys e v = ap (λ (zs : List MarkedInstruction). onward input p zs 0 m) e ∙ ap (λ (b : Bool). cond b (went p m) (behind (did y.instr (input p) m) (onward input (suc p) ys))) v

pub settle_hidden : (input : ℕ → ℕ) (code : List MarkedInstruction) (p : ℕ) (m : List ℕ) (y : MarkedInstruction) (ys : List MarkedInstruction) → drop p code ≡ y ∷ ys → y.visible ≡ false → settle input code p m ≡ step input code p m
unfolding onward step
settle_hidden input code p m y ys e v =
    ap (λ (zs : List MarkedInstruction). onward input p zs 0 m) e ∙ ap (λ (b : Bool). cond b (went p m) (behind (did y.instr (input p) m) (onward input (suc p) ys))) v
    ∙ ap (λ (zs : List MarkedInstruction). step_from input p zs m) (sym e)

pub settle_end : (input : ℕ → ℕ) (code : List MarkedInstruction) (p : ℕ) (m : List ℕ) → drop p code ≡ [] → settle input code p m ≡ went p m
unfolding onward
settle_end input code p m e = ap (λ (zs : List MarkedInstruction). onward input p zs 0 m) e ∙ ap (λ (n : ℕ). went n m) (let z : p + 0 ≡ p = omega arith in z)

-- a step with the new marks is one with the old ones, and then on
pub step_settles : (P : ℕ → Type 0) (input : ℕ → ℕ) (code code' : List MarkedInstruction) (p : ℕ) (m : List ℕ) → Thinned P code code' → step input code' p m ≡ ran_then (step input code p m) (settle input code')
unfolding step
step_settles P input code code' p m h = step_through P input code' (drop p code) (drop p code') p m refl (thinned_drop p h)

-- so with the places that it runs
step_runs : (P : ℕ → Type 0) (input : ℕ → ℕ) (code code' : List MarkedInstruction) (p : ℕ) (m : List ℕ) → Thinned P code code'
    → places_run input code' p m ≡ places_run input code p m ++ places_then (step input code p m) (settle_places input code')
unfolding step places_run
step_runs P input code code' p m h = step_places P input code' (drop p code) (drop p code') p m refl (thinned_drop p h)

-- none run on where the thread may stand, and where it may not these are the places of a step
settle_none : (input : ℕ → ℕ) (code : List MarkedInstruction) (p : ℕ) (m : List ℕ) → drop p code ≡ [] → settle_places input code p m ≡ []
unfolding onward_places
settle_none input code p m e = ap (λ (zs : List MarkedInstruction). onward_places input p zs 0 m) e

settle_stands : (input : ℕ → ℕ) (code : List MarkedInstruction) (p : ℕ) (m : List ℕ) (y : MarkedInstruction) (ys : List MarkedInstruction) → drop p code ≡ y ∷ ys → y.visible ≡ true → settle_places input code p m ≡ []
unfolding onward_places
settle_stands input code p m y ys e v = ap (λ (zs : List MarkedInstruction). onward_places input p zs 0 m) e ∙ ap (λ (b : Bool). cond b [] (place_behind p (did y.instr (input p) m) (onward_places input (suc p) ys))) v

settle_runs : (input : ℕ → ℕ) (code : List MarkedInstruction) (p : ℕ) (m : List ℕ) (y : MarkedInstruction) (ys : List MarkedInstruction) → drop p code ≡ y ∷ ys → y.visible ≡ false → settle_places input code p m ≡ places_run input code p m
unfolding onward_places places_run
settle_runs input code p m y ys e v =
    ap (λ (zs : List MarkedInstruction). onward_places input p zs 0 m) e ∙ ap (λ (b : Bool). cond b [] (place_behind p (did y.instr (input p) m) (onward_places input (suc p) ys))) v
    ∙ ap (λ (zs : List MarkedInstruction). places_from input p zs m) (sym e)

-- ---- steps of one thread in a row

abbrev pub times : ℕ → ℕ → List ℕ → List ℕ
times zero t rest = rest
times (suc k) t rest = t ∷ times k t rest

pub fits_times : (k t : ℕ) {old run : List ℕ} → Fits old (t ∷ run) → Fits (times k t old) (t ∷ run)
fits_times zero t h = h
fits_times (suc k) t h = stay (fits_times k t h)

-- the second of two places of a thread counts
same_behind : (flat : FlatProgram) (inputs : ℕ → ℕ → ℕ) (t p : ℕ) (places rest : List ℕ) (r : Ran)
    → course_behind r rest (λ place. course flat inputs rest (slice_set (slice_set places t p) t place)) ≡ course_behind r rest (λ place. course flat inputs rest (slice_set places t place))
same_behind flat inputs t p places rest (went q n) = ap (λ (ps : List ℕ). course flat inputs rest ps n) (set_set places t p q)
same_behind flat inputs t p places rest held = refl
same_behind flat inputs t p places [] (breaks kind line) = refl
same_behind flat inputs t p places (u ∷ rest) (breaks kind line) = refl
same_behind flat inputs t p places rest ended = refl

runs_behind : (flat : FlatProgram) (inputs : ℕ → ℕ → ℕ) (t p : ℕ) (places rest : List ℕ) (r : Ran)
    → instructions_behind r (λ place. instructions_run flat inputs rest (slice_set (slice_set places t p) t place)) ≡ instructions_behind r (λ place. instructions_run flat inputs rest (slice_set places t place))
runs_behind flat inputs t p places rest (went q n) = ap (λ (ps : List ℕ). instructions_run flat inputs rest ps n) (set_set places t p q)
runs_behind flat inputs t p places rest held = refl
runs_behind flat inputs t p places rest (breaks kind line) = refl
runs_behind flat inputs t p places rest ended = refl

-- so many more steps of a thread come to what one step of it with the new marks comes to
pub record StepsBack (flat thinner : FlatProgram) (inputs : ℕ → ℕ → ℕ) (t : ℕ) (places m : List ℕ) : Type 0 where
  pub more : ℕ
  pub same : (rest : List ℕ) → course flat inputs (t ∷ times more t rest) places m
      ≡ course_behind (step (inputs t) (code_of thinner t) (slice_index places t) m) rest (λ place. course flat inputs rest (slice_set places t place))
  pub runs : (rest : List ℕ) → instructions_run flat inputs (t ∷ times more t rest) places m
      ≡ run_by t (places_run (inputs t) (code_of thinner t) (slice_index places t) m)
      ++ instructions_behind (step (inputs t) (code_of thinner t) (slice_index places t) m) (λ place. instructions_run flat inputs rest (slice_set places t place))

-- what is left at a place is not past the end
left_at : (xs : List MarkedInstruction) (q : ℕ) (y : MarkedInstruction) (ys : List MarkedInstruction) → drop q xs ≡ y ∷ ys → q < length xs
left_at xs q y ys e = let n : length xs - q ≡ suc (length ys) = sym (length-drop q xs) ∙ ap length e in omega arith

steps_turn : (P : ℕ → Type 0) (flat thinner : FlatProgram) (inputs : ℕ → ℕ → ℕ) (t : ℕ) → Thinned P (code_of flat t) (code_of thinner t)
    → (places m : List ℕ) → length thinner.threads ≤ length places
    → ((ps n : List ℕ) → length thinner.threads ≤ length ps → slice_index places t < slice_index ps t → slice_index ps t < length (code_of thinner t) → StepsBack flat thinner inputs t ps n)
    → StepsBack flat thinner inputs t places m
unfolding course instructions_run
steps_turn P flat thinner inputs t h places m wide again = by (step (inputs t) (code_of flat t) (slice_index places t) m) refl
  where
    whole : step (inputs t) (code_of thinner t) (slice_index places t) m ≡ ran_then (step (inputs t) (code_of flat t) (slice_index places t) m) (settle (inputs t) (code_of thinner t))
    whole = step_settles P (inputs t) (code_of flat t) (code_of thinner t) (slice_index places t) m h

    places_whole : places_run (inputs t) (code_of thinner t) (slice_index places t) m
        ≡ places_run (inputs t) (code_of flat t) (slice_index places t) m ++ places_then (step (inputs t) (code_of flat t) (slice_index places t) m) (settle_places (inputs t) (code_of thinner t))
    places_whole = step_runs P (inputs t) (code_of flat t) (code_of thinner t) (slice_index places t) m h

    -- one step is enough
    one : (r : Ran) → step (inputs t) (code_of flat t) (slice_index places t) m ≡ r → places_then r (settle_places (inputs t) (code_of thinner t)) ≡ [] → step (inputs t) (code_of thinner t) (slice_index places t) m ≡ r
        → StepsBack flat thinner inputs t places m
    one r e none_run e' = record {
      more = 0;
      same = λ rest. ap (λ (x : Ran). course_behind x rest (λ place. course flat inputs rest (slice_set places t place))) (e ∙ sym e');
      runs = λ rest. ap₂ (λ (ps : List ℕ) (x : Ran). run_by t ps ++ instructions_behind x (λ place. instructions_run flat inputs rest (slice_set places t place)))
          (sym (places_whole ∙ ap (λ (ps : List ℕ). places_run (inputs t) (code_of flat t) (slice_index places t) m ++ ps) (ap (λ (x : Ran). places_then x (settle_places (inputs t) (code_of thinner t))) e ∙ none_run)
          ∙ append-nil (places_run (inputs t) (code_of flat t) (slice_index places t) m)))
          (e ∙ sym e');
    }

    by : (r : Ran) → step (inputs t) (code_of flat t) (slice_index places t) m ≡ r → StepsBack flat thinner inputs t places m
    by held e = one held e refl (whole ∙ ap (λ (x : Ran). ran_then x (settle (inputs t) (code_of thinner t))) e)
    by (breaks kind line) e = one (breaks kind line) e refl (whole ∙ ap (λ (x : Ran). ran_then x (settle (inputs t) (code_of thinner t))) e)
    by ended e = one ended e refl (whole ∙ ap (λ (x : Ran). ran_then x (settle (inputs t) (code_of thinner t))) e)
    by (went q n) e = at (drop q (code_of thinner t)) refl
      where
        on : step (inputs t) (code_of thinner t) (slice_index places t) m ≡ settle (inputs t) (code_of thinner t) q n
        on = whole ∙ ap (λ (x : Ran). ran_then x (settle (inputs t) (code_of thinner t))) e

        at : (part : List MarkedInstruction) → drop q (code_of thinner t) ≡ part → StepsBack flat thinner inputs t places m
        at [] d = one (went q n) e (settle_none (inputs t) (code_of thinner t) q n d) (on ∙ settle_end (inputs t) (code_of thinner t) q n d)
        at (y ∷ ys) d = mark y.visible refl
          where
            moved_on : List ℕ
            moved_on = slice_set places t q

            is : slice_index moved_on t ≡ q
            is = word_same places t q (let z = has_code thinner.threads t q y ys d in omega (arith, z, wide))

            old_places : List ℕ
            old_places = places_run (inputs t) (code_of flat t) (slice_index places t) m

            next_places : List ℕ
            next_places = places_run (inputs t) (code_of thinner t) q n

            joined_places : y.visible ≡ false → places_run (inputs t) (code_of thinner t) (slice_index places t) m ≡ old_places ++ next_places
            joined_places v = places_whole ∙ ap (λ (x : Ran). old_places ++ places_then x (settle_places (inputs t) (code_of thinner t))) e
                ∙ ap (λ (ps : List ℕ). old_places ++ ps) (settle_runs (inputs t) (code_of thinner t) q n y ys d v)

            mark : (b : Bool) → y.visible ≡ b → StepsBack flat thinner inputs t places m
            mark true v = one (went q n) e (settle_stands (inputs t) (code_of thinner t) q n y ys d v) (on ∙ settle_visible (inputs t) (code_of thinner t) q n y ys d v)
            mark false v =
                let forward : suc (slice_index places t) ≤ q = (step_lands (inputs t) (code_of flat t) (slice_index places t) m q n e).forward in
                let left = left_at (code_of thinner t) q y ys d in
                let l = length-set places t q in
                let back = again moved_on n (omega (arith, l, wide)) (omega (arith, is, forward)) (omega (arith, is, left)) in
                let then : step (inputs t) (code_of thinner t) (slice_index moved_on t) n ≡ step (inputs t) (code_of thinner t) (slice_index places t) m
                = ap (λ (k : ℕ). step (inputs t) (code_of thinner t) k n) is ∙ sym (on ∙ settle_hidden (inputs t) (code_of thinner t) q n y ys d v) in
                record {
                  more = suc back.more;
                  same = λ rest. ap (λ (x : Ran). course_behind x (t ∷ times back.more t rest) (λ place. course flat inputs (t ∷ times back.more t rest) (slice_set places t place))) e
                      ∙ back.same rest ∙ ap (λ (x : Ran). course_behind x rest (λ place. course flat inputs rest (slice_set moved_on t place))) then
                      ∙ same_behind flat inputs t q places rest (step (inputs t) (code_of thinner t) (slice_index places t) m);
                  runs = λ rest. ap (λ (x : Ran). run_by t old_places ++ instructions_behind x (λ place. instructions_run flat inputs (t ∷ times back.more t rest) (slice_set places t place))) e
                      ∙ ap (λ (is_run : List (ℕ × ℕ)). run_by t old_places ++ is_run) (back.runs rest)
                      ∙ ap₂ (λ (k : ℕ) (x : Ran). run_by t old_places ++ (run_by t (places_run (inputs t) (code_of thinner t) k n) ++ instructions_behind x (λ place. instructions_run flat inputs rest (slice_set moved_on t place)))) is then
                      ∙ sym (append_assoc (run_by t old_places) (run_by t next_places) (instructions_behind (step (inputs t) (code_of thinner t) (slice_index places t) m) (λ place. instructions_run flat inputs rest (slice_set moved_on t place))))
                      ∙ ap₂ (λ (front : List (ℕ × ℕ)) (back_run : List (ℕ × ℕ)). front ++ back_run) (sym (map-append (λ (place : ℕ). (t, place)) old_places next_places) ∙ ap (λ (ps : List ℕ). run_by t ps) (sym (joined_places v)))
                      (runs_behind flat inputs t q places rest (step (inputs t) (code_of thinner t) (slice_index places t) m));
                }

steps_back : (P : ℕ → Type 0) (flat thinner : FlatProgram) (inputs : ℕ → ℕ → ℕ) (t : ℕ) → Thinned P (code_of flat t) (code_of thinner t)
    → (fuel : ℕ) (places m : List ℕ) → length thinner.threads ≤ length places → length (code_of thinner t) ≤ slice_index places t + fuel → StepsBack flat thinner inputs t places m
steps_back P flat thinner inputs t h zero places m wide long = steps_turn P flat thinner inputs t h places m wide (λ ps n w forward left. absurd (let z : ⊥ = omega (arith, long, forward, left) in z))
steps_back P flat thinner inputs t h (suc fuel) places m wide long =
    steps_turn P flat thinner inputs t h places m wide (λ ps n w forward left. steps_back P flat thinner inputs t h fuel ps n w (omega (arith, long, forward)))

-- ---- runs

-- so with a run that breaks
pub record RunBack (flat thinner : FlatProgram) (inputs : ℕ → ℕ → ℕ) (run places m : List ℕ) (kind : BreakKind) (line : ℕ) : Type 0 where
  pub old : List ℕ
  pub fits : Fits old run
  pub breaks : course flat inputs old places m ≡ broken kind line
  pub runs : instructions_run flat inputs old places m ≡ instructions_run thinner inputs run places m

pub run_back : (owner : ℕ → ℕ) (flat thinner : FlatProgram) (inputs : ℕ → ℕ → ℕ) → ThinnedBy owner flat thinner
    → (run places m : List ℕ) (kind : BreakKind) (line : ℕ) → length thinner.threads ≤ length places → course thinner inputs run places m ≡ broken kind line → RunBack flat thinner inputs run places m kind line
unfolding course instructions_run
run_back owner flat thinner inputs th [] places m kind line wide e = absurd cc
run_back owner flat thinner inputs th (t ∷ rest) places m kind line wide e =
    by (step (inputs t) (code_of thinner t) (slice_index places t) m) refl e (λ ps n. run_back owner flat thinner inputs th rest ps n kind line)
  where
    own_places : List (ℕ × ℕ)
    own_places = run_by t (places_run (inputs t) (code_of thinner t) (slice_index places t) m)

    back : StepsBack flat thinner inputs t places m
    back = steps_back (Own owner t) flat thinner inputs t (th.codes t) (length (code_of thinner t)) places m wide (omega arith)

    by : (r : Ran) → step (inputs t) (code_of thinner t) (slice_index places t) m ≡ r → course_behind r rest (λ place. course thinner inputs rest (slice_set places t place)) ≡ broken kind line
        → ((ps n : List ℕ) → length thinner.threads ≤ length ps → course thinner inputs rest ps n ≡ broken kind line → RunBack flat thinner inputs rest ps n kind line) → RunBack flat thinner inputs (t ∷ rest) places m kind line
    by (went q n) s e again = let l = length-set places t q in let more = again (slice_set places t q) n (omega (arith, l, wide)) e in record {
      old = t ∷ times back.more t more.old;
      fits = stay (fits_times back.more t (next more.fits));
      breaks = back.same more.old ∙ ap (λ (x : Ran). course_behind x more.old (λ place. course flat inputs more.old (slice_set places t place))) s ∙ more.breaks;
      runs = back.runs more.old ∙ ap (λ (x : Ran). own_places ++ instructions_behind x (λ place. instructions_run flat inputs more.old (slice_set places t place))) s
          ∙ ap (λ (is_run : List (ℕ × ℕ)). own_places ++ is_run) more.runs
          ∙ sym (ap (λ (x : Ran). own_places ++ instructions_behind x (λ place. instructions_run thinner inputs rest (slice_set places t place))) s);
    }
    by (breaks k l) s e again = last rest refl e
      where
        last : (xs : List ℕ) → rest ≡ xs → course_behind (breaks k l) xs (λ place. course thinner inputs rest (slice_set places t place)) ≡ broken kind line → RunBack flat thinner inputs (t ∷ rest) places m kind line
        last [] none e = record {
          old = t ∷ times back.more t [];
          fits = stay (fits_times back.more t (next nothing));
          breaks = back.same [] ∙ ap (λ (x : Ran). course_behind x [] (λ place. course flat inputs [] (slice_set places t place))) s ∙ e;
          runs = back.runs [] ∙ ap (λ (x : Ran). own_places ++ instructions_behind x (λ place. instructions_run flat inputs [] (slice_set places t place))) s
              ∙ sym (ap (λ (x : Ran). own_places ++ instructions_behind x (λ place. instructions_run thinner inputs rest (slice_set places t place))) s);
        }
        last (x ∷ xs) none e = absurd cc
    by held s e again = absurd cc
    by ended s e again = absurd cc

-- ---- broken runs

pub opening_long : (n : ℕ) → length {A = ℕ} (replicate n 0) ≡ n
opening_long n = length-replicate n 0

-- a broken run after is one before
pub runs_back : (owner : ℕ → ℕ) (flat thinner : FlatProgram) → ThinnedBy owner flat thinner → BreaksBefore flat thinner
runs_back owner flat thinner th rounds run inputs kind line is =
    let same : opening thinner ≡ opening flat = ap (λ (n : ℕ). replicate n 0) th.threads in
    let long = opening_long (length thinner.threads) in
    let back = run_back owner flat thinner inputs th run (opening thinner) thinner.first kind line (omega (arith, long)) is.breaks in
    let fewer = fits_descents back.fits in (
      back.old,
      record {
        words = is.words;
        few = let f = is.few in omega (arith, fewer, f);
        breaks = ap₂ (λ (ps m : List ℕ). course flat inputs back.old ps m) (sym same) (sym th.first) ∙ back.breaks;
      },
      ap₂ (λ (ps m : List ℕ). instructions_run flat inputs back.old ps m) (sym same) (sym th.first) ∙ back.runs,
    )
