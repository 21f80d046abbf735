-- From a broken flat run to a run of deeds that breaks alike.
use Rattle.std.proofs.Common.{◌≡◌, ℕ, ◌<◌, ◌⊎◌, inl, inr, Bool, true, false, cond, List, [], ◌∷◌, length, eqb, refl, sym, ap, ◌∙◌, subst, arith}
use Rattle.lz_base.specs.Words.{value_bound}
use Rattle.lz_base.specs.declared.word.BreakKind.{BreakKind}
use Rattle.std.specs.Prelude.{Some, None, slice_index, slice_set}
use Rattle.std.proofs.lemmas.List.{length-set}
use Rattle.std.proofs.lemmas.Bool.{eqb-true}
use Rattle.lz_flat.specs.Programs.{FlatProgram}
use Rattle.lz_flat.specs.FlatRuns.{Ran, went, held, breaks, ended, step, Course, stuck, broken, course, course_behind}
use Rattle.lz_flat.specs.Programs.{code_of}
use Rattle.lz_interleave.specs.Deeds.{gone, fails, no_start, begins, Event, Program, ends_broken, ending, threads_of}
use Rattle.lz_interleave.specs.StepLaw.{StoreLaw, Reading, Turn, moves, does, stops, holds, CodeLaw, told}
use Rattle.lz_base.proofs.DescentsLemmas.{Fits, nothing, stay, next}
use Rattle.lz_interleave.proofs.KeepingLemmas.{StatusOf, FutureOf, place_at, status_after, future_moves, future_does, future_stops}

-- what holds of every thread
abbrev pub Statuses : {S D : Type 0} → Program S D → Reading S D → (ℕ → ℕ → ℕ) → List ℕ → List ℕ → S → Type 0
Statuses program reading inputs places m s = (u : ℕ) → StatusOf reading (program.asleep s u) (inputs u) u (slice_index places u) m

-- a run of deeds that breaks so, told by the flat run, with threads in its order
pub record Told {S D : Type 0} (program : Program S D) (reading : Reading S D) (flat : FlatProgram) (inputs : ℕ → ℕ → ℕ) (run places m : List ℕ) (s : S) (kind : BreakKind) (line : ℕ) : Type 0 where
  pub es : List (Event D)
  pub fits : Fits (threads_of es) run
  pub ends : ending program es s ≡ ends_broken kind line
  pub is_told : es ≡ told flat reading inputs run places m
  pub future : (u : ℕ) → FutureOf program reading (program.asleep s u) (inputs u) u (slice_index places u) m es

-- what is known of the rest of a run
abbrev pub Later : {S D : Type 0} → Program S D → Reading S D → FlatProgram → (ℕ → ℕ → ℕ) → List ℕ → BreakKind → ℕ → Type 0
Later {S} {D} program reading flat inputs rest kind line =
    (places m : List ℕ) (s : S) → length places ≡ length flat.threads → reading.Stands m s → Statuses program reading inputs places m s
    → course flat inputs rest places m ≡ broken kind line → Told program reading flat inputs rest places m s kind line

-- events after a deed that goes
ends_behind : {S D : Type 0} (program : Program S D) (t : ℕ) (d : D) (es : List (Event D)) (s s' : S) → program.act s t d ≡ gone s'
    → ending program (record { thread = t; deed = d } ∷ es) s ≡ ending program es s'
unfolding ending
ends_behind program t d es s s' a = rw a refl

-- a deed that breaks, the last one
ends_last : {S D : Type 0} (program : Program S D) (t : ℕ) (d : D) (s : S) (kind : BreakKind) (line : ℕ) → program.act s t d ≡ fails kind line
    → ending program (record { thread = t; deed = d } ∷ []) s ≡ ends_broken kind line
unfolding ending
ends_last program t d s kind line a = rw a refl

-- a step that breaks is the last, and breaks so
at_last : (r : Ran) (k : BreakKind) (l : ℕ) (rest : List ℕ) (onwards : ℕ → List ℕ → Course) (kind : BreakKind) (line : ℕ) → r ≡ breaks k l → course_behind r rest onwards ≡ broken kind line
    → (rest ≡ []) × (k ≡ kind) × (l ≡ line)
at_last r k l [] onwards kind line is e = let z : broken k l ≡ broken kind line = subst (λ (q : Ran). course_behind q [] onwards ≡ broken kind line) is e in (refl, cc, cc)
at_last r k l (t ∷ rest) onwards kind line is e = let z : stuck ≡ broken kind line = subst (λ (q : Ran). course_behind q (t ∷ rest) onwards ≡ broken kind line) is e in absurd cc

-- a thread that is held or has ended breaks nothing
no_break : (r : Ran) (rest : List ℕ) (onwards : ℕ → List ℕ → Course) (kind : BreakKind) (line : ℕ) → (r ≡ held) ⊎ (r ≡ ended) → course_behind r rest onwards ≡ broken kind line → ⊥
no_break r rest onwards kind line (inl is) e = let z : stuck ≡ broken kind line = subst (λ (q : Ran). course_behind q rest onwards ≡ broken kind line) is e in cc
no_break r rest onwards kind line (inr is) e = let z : stuck ≡ broken kind line = subst (λ (q : Ran). course_behind q rest onwards ≡ broken kind line) is e in cc

-- a step without a deed tells what the rest tells
told_moves : {S D : Type 0} (flat : FlatProgram) (reading : Reading S D) (inputs : ℕ → ℕ → ℕ) (t : ℕ) (rest places m : List ℕ) (p' : ℕ) (m' : List ℕ)
    → step (inputs t) (code_of flat t) (slice_index places t) m ≡ went p' m' → reading.deed_at (inputs t) t (slice_index places t) m ≡ None
    → told flat reading inputs (t ∷ rest) places m ≡ told flat reading inputs rest (slice_set places t p') m'
unfolding told
told_moves flat reading inputs t rest places m p' m' ran none = rw (none, ran) refl

-- a step with a deed tells it first
told_does : {S D : Type 0} (flat : FlatProgram) (reading : Reading S D) (inputs : ℕ → ℕ → ℕ) (t : ℕ) (rest places m : List ℕ) (p' : ℕ) (m' : List ℕ) (d : D)
    → step (inputs t) (code_of flat t) (slice_index places t) m ≡ went p' m' → reading.deed_at (inputs t) t (slice_index places t) m ≡ Some d
    → told flat reading inputs (t ∷ rest) places m ≡ record { thread = t; deed = d } ∷ told flat reading inputs rest (slice_set places t p') m'
unfolding told
told_does flat reading inputs t rest places m p' m' d ran some = rw (some, ran) refl

-- a step that breaks tells its deed
told_stops : {S D : Type 0} (flat : FlatProgram) (reading : Reading S D) (inputs : ℕ → ℕ → ℕ) (t : ℕ) (rest places m : List ℕ) (d : D) (k : BreakKind) (l : ℕ)
    → step (inputs t) (code_of flat t) (slice_index places t) m ≡ breaks k l → reading.deed_at (inputs t) t (slice_index places t) m ≡ Some d
    → told flat reading inputs (t ∷ rest) places m ≡ record { thread = t; deed = d } ∷ []
unfolding told
told_stops flat reading inputs t rest places m d k l ran some = rw (some, ran) refl

-- who is awake stays so
awake_still : (beg b : Bool) → b ≡ false → cond beg false b ≡ false
awake_still true b h = refl
awake_still false b h = h

-- from one step to what the run tells
by_turn : {S D : Type 0} (program : Program S D) (reading : Reading S D) (flat : FlatProgram) (store : StoreLaw program) (code : CodeLaw program reading flat) (inputs : ℕ → ℕ → ℕ) (small : (u l : ℕ) → inputs u l < value_bound)
    (t : ℕ) (rest places m : List ℕ) (s : S) (kind : BreakKind) (line : ℕ) (r : Ran) → step (inputs t) (code_of flat t) (slice_index places t) m ≡ r
    → length places ≡ length flat.threads → reading.Stands m s → Statuses program reading inputs places m s → program.asleep s t ≡ false
    → Turn program reading (length (code_of flat t)) (inputs t) t (slice_index places t) m s r
    → course_behind r rest (λ place. course flat inputs rest (slice_set places t place)) ≡ broken kind line
    → Later program reading flat inputs rest kind line
    → Told program reading flat inputs (t ∷ rest) places m s kind line
by_turn {S} {D} program reading flat store code inputs small t rest places m s kind line r ran size stands status awake (moves p' m' is far fit stands' spares from to tells) e later =
    let lt : t < length places = let q = code.inside t m s stands awake in omega (arith, q, size) in
    let places' = slice_set places t p' in
    let own : (u : ℕ) → eqb t u ≡ true → program.asleep s u ≡ false = λ u q. subst (λ (v : ℕ). program.asleep s v ≡ false) (eqb-true t u q) awake in
    let now : (u : ℕ) → StatusOf reading (program.asleep s u) (inputs u) u (slice_index places' u) m' = λ u.
    subst (λ (q : ℕ). StatusOf reading (program.asleep s u) (inputs u) u q m') (sym (place_at places t u p' (eqb t u) lt refl))
    (status_after reading t u no_start m m' spares (inputs u) (slice_index places u) p' (eqb t u) refl false refl (program.asleep s u) (λ q. absurd cc) (own u)
    (λ v n. code.begun (inputs u) (small u) u v n)
    (λ q. subst (λ (v : ℕ). reading.Gives (inputs v) v p' m' []) (eqb-true t u q) (to [] (subst (λ (b : Bool). StatusOf reading b (inputs t) t (slice_index places t) m) awake (status t))))
    (status u)) in
    let e' : course flat inputs rest places' m' ≡ broken kind line = subst (λ (q : Ran). course_behind q rest (λ place. course flat inputs rest (slice_set places t place)) ≡ broken kind line) is e in
    let tale = later places' m' s (length-set places t p' ∙ size) stands' now e' in
    record {
      es = tale.es;
      fits = kept (threads_of tale.es) tale.fits;
      ends = tale.ends;
      is_told = tale.is_told ∙ sym (told_moves flat reading inputs t rest places m p' m' (ran ∙ is) tells);
      future = λ u. future_moves program reading t u m m' spares (inputs u) (slice_index places u) p' tale.es (eqb t u) refl (program.asleep s u) (own u)
          (λ q todo. subst (λ (v : ℕ). reading.Gives (inputs v) v p' m' todo → reading.Gives (inputs v) v (slice_index places v) m todo) (eqb-true t u q) (from todo))
          (subst (λ (q : ℕ). FutureOf program reading (program.asleep s u) (inputs u) u q m' tale.es) (place_at places t u p' (eqb t u) lt refl) (tale.future u));
    }
  where
    kept : (ts : List ℕ) → Fits ts rest → Fits ts (t ∷ rest)
    kept ts f = next f
by_turn {S} {D} program reading flat store code inputs small t rest places m s kind line r ran size stands status awake (does d s' p' m' is act stands' spares reached from only tells) e later =
    let lt : t < length places = let q = code.inside t m s stands awake in omega (arith, q, size) in
    let places' = slice_set places t p' in
    let own : (u : ℕ) → eqb t u ≡ true → program.asleep s u ≡ false = λ u q. subst (λ (v : ℕ). program.asleep s v ≡ false) (eqb-true t u q) awake in
    let was : (u : ℕ) → begins (program.start_of d) u ≡ true → program.asleep s u ≡ true = λ u q. store.wakes s s' t u d act q in
    let sleep : (u : ℕ) → program.asleep s' u ≡ cond (begins (program.start_of d) u) false (program.asleep s u) = λ u. store.woken s s' t u d act in
    let now : (u : ℕ) → StatusOf reading (program.asleep s' u) (inputs u) u (slice_index places' u) m' = λ u.
    subst (λ (b : Bool). StatusOf reading b (inputs u) u (slice_index places' u) m') (sym (sleep u))
    (subst (λ (q : ℕ). StatusOf reading (cond (begins (program.start_of d) u) false (program.asleep s u)) (inputs u) u q m') (sym (place_at places t u p' (eqb t u) lt refl))
    (status_after reading t u (program.start_of d) m m' spares (inputs u) (slice_index places u) p' (eqb t u) refl (begins (program.start_of d) u) refl (program.asleep s u) (was u) (own u)
    (λ v n. code.begun (inputs u) (small u) u v n)
    (λ q. subst (λ (v : ℕ). reading.Gives (inputs v) v p' m' []) (eqb-true t u q) reached)
    (status u))) in
    let e' : course flat inputs rest places' m' ≡ broken kind line = subst (λ (q : Ran). course_behind q rest (λ place. course flat inputs rest (slice_set places t place)) ≡ broken kind line) is e in
    let tale = later places' m' s' (length-set places t p' ∙ size) stands' now e' in
    record {
      es = record { thread = t; deed = d } ∷ tale.es;
      fits = kept (threads_of tale.es) tale.fits;
      ends = ends_behind program t d tale.es s s' act ∙ tale.ends;
      is_told = ap (λ (xs : List (Event D)). record { thread = t; deed = d } ∷ xs) tale.is_told ∙ sym (told_does flat reading inputs t rest places m p' m' d (ran ∙ is) tells);
      future = λ u. future_does program reading t u d m m' spares (inputs u) (slice_index places u) p' tale.es (eqb t u) refl (begins (program.start_of d) u) refl (program.asleep s u) (was u) (own u)
          (λ v n todo. code.sound (inputs u) (small u) u v n todo)
          (λ q todo. subst (λ (v : ℕ). reading.Gives (inputs v) v p' m' todo → reading.Gives (inputs v) v (slice_index places v) m (d ∷ todo)) (eqb-true t u q) (from todo))
          (status u)
          (subst (λ (b : Bool). FutureOf program reading b (inputs u) u (cond (eqb t u) p' (slice_index places u)) m' tale.es) (sleep u)
          (subst (λ (q : ℕ). FutureOf program reading (program.asleep s' u) (inputs u) u q m' tale.es) (place_at places t u p' (eqb t u) lt refl) (tale.future u)));
    }
  where
    kept : (ts : List ℕ) → Fits ts rest → Fits (t ∷ ts) (t ∷ rest)
    kept ts f = stay (next f)
by_turn {S} {D} program reading flat store code inputs small t rest places m s kind line r ran size stands status awake (stops d k l is act gives only tells) e later =
    let last = at_last r k l rest (λ place. course flat inputs rest (slice_set places t place)) kind line is e in
    let own : (u : ℕ) → eqb t u ≡ true → program.asleep s u ≡ false = λ u q. subst (λ (v : ℕ). program.asleep s v ≡ false) (eqb-true t u q) awake in
    record {
      es = record { thread = t; deed = d } ∷ [];
      fits = stay nothing;
      ends = ends_last program t d s k l act ∙ rw (last.1, last.2) refl;
      is_told = sym (told_stops flat reading inputs t rest places m d k l (ran ∙ is) tells);
      future = λ u. future_stops program reading t u d m (inputs u) (slice_index places u) (eqb t u) refl (program.asleep s u) (own u) (λ v. store.none u v)
          (λ q. subst (λ (v : ℕ). reading.Gives (inputs v) v (slice_index places v) m (d ∷ [])) (eqb-true t u q) gives)
          (status u);
    }
by_turn {S} {D} program reading flat store code inputs small t rest places m s kind line r ran size stands status awake (holds is all) e later =
    absurd (no_break r rest (λ place. course flat inputs rest (slice_set places t place)) kind line is e)

-- a flat run that breaks has a run of deeds that breaks alike
pub there : {S D : Type 0} (program : Program S D) (reading : Reading S D) (flat : FlatProgram) (store : StoreLaw program) (code : CodeLaw program reading flat) (inputs : ℕ → ℕ → ℕ) (small : (u l : ℕ) → inputs u l < value_bound) (kind : BreakKind) (line : ℕ)
    (run : List ℕ) → Later program reading flat inputs run kind line
unfolding course
there program reading flat store code inputs small kind line [] places m s size stands status e = absurd cc
there {S} {D} program reading flat store code inputs small kind line (t ∷ rest) places m s size stands status e =
    decide (program.asleep s t) refl (λ places' m' s'. there program reading flat store code inputs small kind line rest places' m' s')
  where
    decide : (b : Bool) → program.asleep s t ≡ b → Later program reading flat inputs rest kind line → Told program reading flat inputs (t ∷ rest) places m s kind line
    decide false a later = by_turn program reading flat store code inputs small t rest places m s kind line (step (inputs t) (code_of flat t) (slice_index places t) m) refl size stands status a
        (code.turn (inputs t) (small t) t (slice_index places t) m s stands a (subst (λ (b : Bool). StatusOf reading b (inputs t) t (slice_index places t) m) a (status t))) e later
    decide true a later =
        let st : StatusOf reading true (inputs t) t (slice_index places t) m = subst (λ (b : Bool). StatusOf reading b (inputs t) t (slice_index places t) m) a (status t) in
        let is : (step (inputs t) (code_of flat t) (slice_index places t) m ≡ held) ⊎ (step (inputs t) (code_of flat t) (slice_index places t) m ≡ ended) =
        subst (λ (q : ℕ). (step (inputs t) (code_of flat t) q m ≡ held) ⊎ (step (inputs t) (code_of flat t) q m ≡ ended)) (sym st.0) (code.asleep (inputs t) t m s stands a st.1) in
        absurd (no_break (step (inputs t) (code_of flat t) (slice_index places t) m) rest (λ place. course flat inputs rest (slice_set places t place)) kind line is e)
