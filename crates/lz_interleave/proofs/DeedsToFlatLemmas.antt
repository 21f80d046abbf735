-- From a run of deeds that breaks to a flat run that breaks alike.
use Rattle.std.proofs.Common.{◌≡◌, ℕ, zero, suc, ◌+◌, ◌≤◌, ◌<◌, Bool, true, false, cond, List, [], ◌∷◌, length, eqb, refl, sym, ◌∙◌, ap, subst, arith}
use Rattle.lz_base.specs.Words.{value_bound}
use Rattle.lz_base.specs.declared.word.BreakKind.{BreakKind}
use Rattle.std.specs.Prelude.{slice_index, slice_set}
use Rattle.std.proofs.lemmas.List.{length-set}
use Rattle.std.proofs.lemmas.Bool.{eqb-true, eqb-false}
use Rattle.lz_flat.specs.Programs.{FlatProgram}
use Rattle.lz_flat.specs.FlatRuns.{Ran, went, breaks, step, broken, course, course_behind}
use Rattle.lz_flat.specs.Programs.{code_of}
use Rattle.lz_interleave.specs.Deeds.{Done, gone, waits, fails, begins, Event, Program, End, is_stuck, ends_broken, end_behind, ending, threads_of, part}
use Rattle.lz_interleave.specs.StepLaw.{StoreLaw, Reading, Spares, Turn, moves, does, stops, holds, CodeLaw}
use Rattle.lz_base.proofs.DescentsLemmas.{Fits, nothing, stay, next}
use Rattle.lz_interleave.proofs.KeepingLemmas.{AheadOf, place_at, ahead_moves, ahead_does}

-- what each thread owes the events to come
abbrev pub Aheads : {S D : Type 0} → Program S D → Reading S D → (ℕ → ℕ → ℕ) → List ℕ → List ℕ → S → List (Event D) → Type 0
Aheads program reading inputs places m s es = (u : ℕ) → AheadOf program reading (program.asleep s u) (inputs u) u (slice_index places u) m es

-- a flat run that breaks so, with threads in the order of the events
pub record Shown {D : Type 0} (flat : FlatProgram) (inputs : ℕ → ℕ → ℕ) (es : List (Event D)) (places m : List ℕ) (kind : BreakKind) (line : ℕ) : Type 0 where
  pub run : List ℕ
  pub fits : Fits run (threads_of es)
  pub goes : course flat inputs run places m ≡ broken kind line

-- what is known of the events that come later
abbrev pub After : {S D : Type 0} → Program S D → Reading S D → FlatProgram → (ℕ → ℕ → ℕ) → List (Event D) → BreakKind → ℕ → Type 0
After {S} {D} program reading flat inputs es kind line =
    (places m : List ℕ) (s : S) → length places ≡ length flat.threads → reading.Stands m s → Aheads program reading inputs places m s es
    → ending program es s ≡ ends_broken kind line → Shown flat inputs es places m kind line

-- the course after a step that goes
course_went : (flat : FlatProgram) (inputs : ℕ → ℕ → ℕ) (t : ℕ) (rest places m : List ℕ) (p' : ℕ) (m' : List ℕ) → step (inputs t) (code_of flat t) (slice_index places t) m ≡ went p' m'
    → course flat inputs (t ∷ rest) places m ≡ course flat inputs rest (slice_set places t p') m'
unfolding course
course_went flat inputs t rest places m p' m' is = ap (λ (q : Ran). course_behind q rest (λ place. course flat inputs rest (slice_set places t place))) is

-- the course of a step that breaks, the last one
course_breaks : (flat : FlatProgram) (inputs : ℕ → ℕ → ℕ) (t : ℕ) (places m : List ℕ) (k : BreakKind) (l : ℕ) → step (inputs t) (code_of flat t) (slice_index places t) m ≡ breaks k l
    → course flat inputs (t ∷ []) places m ≡ broken k l
unfolding course
course_breaks flat inputs t places m k l is = ap (λ (q : Ran). course_behind q [] (λ place. course flat inputs [] (slice_set places t place))) is

-- an event of a thread is the first of its part
part_own : {D : Type 0} (t : ℕ) (d : D) (es : List (Event D)) → eqb t t ≡ true → part t (record { thread = t; deed = d } ∷ es) ≡ d ∷ part t es
unfolding part
part_own t d es e = rw e refl

-- a number is itself
eqb_self : (t : ℕ) → eqb t t ≡ true
eqb_self t = decide (eqb t t) refl
  where
    decide : (b : Bool) → eqb t t ≡ b → eqb t t ≡ true
    decide true e = e
    decide false e = absurd (eqb-false t t e refl)

-- an event that goes or breaks is no waiting one
not_waits : {S D : Type 0} (program : Program S D) (t : ℕ) (d : D) (es : List (Event D)) (s : S) (kind : BreakKind) (line : ℕ) → ending program (record { thread = t; deed = d } ∷ es) s ≡ ends_broken kind line
    → program.act s t d ≡ waits → ⊥
unfolding ending
not_waits {S} {D} program t d es s kind line e w =
    let z : ◌≡◌ {A = End S} is_stuck (ends_broken kind line) = subst (λ (q : Done S). end_behind q es (ending program es) ≡ ends_broken kind line) w e in cc

-- after a deed that goes, the rest breaks so
then_goes : {S D : Type 0} (program : Program S D) (t : ℕ) (d : D) (es : List (Event D)) (s s' : S) (kind : BreakKind) (line : ℕ) → ending program (record { thread = t; deed = d } ∷ es) s ≡ ends_broken kind line
    → program.act s t d ≡ gone s' → ending program es s' ≡ ends_broken kind line
unfolding ending
then_goes {S} {D} program t d es s s' kind line e a = subst (λ (q : Done S). end_behind q es (ending program es) ≡ ends_broken kind line) a e

-- a deed that breaks is the last, and breaks so
then_ends : {S D : Type 0} (program : Program S D) (t : ℕ) (d : D) (es : List (Event D)) (s : S) (k : BreakKind) (l : ℕ) (kind : BreakKind) (line : ℕ) → ending program (record { thread = t; deed = d } ∷ es) s ≡ ends_broken kind line
    → program.act s t d ≡ fails k l → (k ≡ kind) × (l ≡ line)
unfolding ending
then_ends {S} {D} program t d [] s k l kind line e a = let z : ◌≡◌ {A = End S} (ends_broken k l) (ends_broken kind line) = subst (λ (q : Done S). end_behind {D = D} q [] (ending program []) ≡ ends_broken kind line) a e in (cc, cc)
then_ends {S} {D} program t d (f ∷ es) s k l kind line e a = let z : ◌≡◌ {A = End S} is_stuck (ends_broken kind line) = subst (λ (q : Done S). end_behind q (f ∷ es) (ending program (f ∷ es)) ≡ ends_broken kind line) a e in absurd cc

-- t goes on to its next event, with at most so many steps before it
abbrev pub Hops : {S D : Type 0} → Program S D → Reading S D → FlatProgram → (ℕ → ℕ → ℕ) → ℕ → D → List (Event D) → BreakKind → ℕ → S → ℕ → Type 0
Hops program reading flat inputs t d es kind line s most =
    (places m : List ℕ) → length places ≡ length flat.threads → length (code_of flat t) ≤ slice_index places t + most → reading.Stands m s
    → Aheads program reading inputs places m s (record { thread = t; deed = d } ∷ es) → Shown flat inputs (record { thread = t; deed = d } ∷ es) places m kind line

-- from a step of the thread whose event is next
by_turn : {S D : Type 0} (program : Program S D) (reading : Reading S D) (flat : FlatProgram) (store : StoreLaw program) (code : CodeLaw program reading flat) (inputs : ℕ → ℕ → ℕ) (small : (u l : ℕ) → inputs u l < value_bound)
    (t : ℕ) (d : D) (es : List (Event D)) (places m : List ℕ) (s : S) (kind : BreakKind) (line : ℕ) (r : Ran) → step (inputs t) (code_of flat t) (slice_index places t) m ≡ r
    → length places ≡ length flat.threads → reading.Stands m s → Aheads program reading inputs places m s (record { thread = t; deed = d } ∷ es) → program.asleep s t ≡ false
    → reading.Gives (inputs t) t (slice_index places t) m (d ∷ part t es)
    → ending program (record { thread = t; deed = d } ∷ es) s ≡ ends_broken kind line
    → Turn program reading (length (code_of flat t)) (inputs t) t (slice_index places t) m s r
    → After program reading flat inputs es kind line
    → ((places' m' : List ℕ) → slice_index places t < slice_index places' t → slice_index places' t ≤ length (code_of flat t) → length places' ≡ length flat.threads → reading.Stands m' s
    → Aheads program reading inputs places' m' s (record { thread = t; deed = d } ∷ es) → Shown flat inputs (record { thread = t; deed = d } ∷ es) places' m' kind line)
    → Shown flat inputs (record { thread = t; deed = d } ∷ es) places m kind line
by_turn {S} {D} program reading flat store code inputs small t d es places m s kind line r ran size stands ahead awake mine e (moves p' m' is far fit stands' spares from to tells) after again =
    let lt : t < length places = let q = code.inside t m s stands awake in omega (arith, q, size) in
    let places' = slice_set places t p' in
    let own : (u : ℕ) → eqb t u ≡ true → program.asleep s u ≡ false = λ u q. subst (λ (v : ℕ). program.asleep s v ≡ false) (eqb-true t u q) awake in
    let here : slice_index places' t ≡ p' = subst (λ (b : Bool). slice_index places' t ≡ cond b p' (slice_index places t)) (eqb_self t) (place_at places t t p' (eqb t t) lt refl) in
    let now : Aheads program reading inputs places' m' s (record { thread = t; deed = d } ∷ es) = λ u.
    subst (λ (q : ℕ). AheadOf program reading (program.asleep s u) (inputs u) u q m' (record { thread = t; deed = d } ∷ es)) (sym (place_at places t u p' (eqb t u) lt refl))
    (ahead_moves program reading t u m m' spares (inputs u) (slice_index places u) p' (record { thread = t; deed = d } ∷ es) (eqb t u) refl (program.asleep s u) (own u)
    (λ q todo. subst (λ (v : ℕ). reading.Gives (inputs v) v (slice_index places v) m todo → reading.Gives (inputs v) v p' m' todo) (eqb-true t u q) (to todo))
    (ahead u)) in
    let shown = again places' m' (omega (arith, far, here)) (omega (arith, fit, here)) (length-set places t p' ∙ size) stands' now in
    record { run = t ∷ shown.run; fits = kept shown.run shown.fits; goes = course_went flat inputs t shown.run places m p' m' (ran ∙ is) ∙ shown.goes }
  where
    kept : (ts : List ℕ) → Fits ts (t ∷ threads_of es) → Fits (t ∷ ts) (t ∷ threads_of es)
    kept ts f = stay f
by_turn {S} {D} program reading flat store code inputs small t d es places m s kind line r ran size stands ahead awake mine e (does d' s' p' m' is act stands' spares reached from only tells) after again =
    let lt : t < length places = let q = code.inside t m s stands awake in omega (arith, q, size) in
    let places' = slice_set places t p' in
    let same = only d (part t es) mine (not_waits program t d es s kind line e) in
    let act' : program.act s t d ≡ gone s' = subst (λ (x : D). program.act s t x ≡ gone s') (sym same.0) act in
    let spares' : Spares reading t (program.start_of d) m m' = subst (λ (x : D). Spares reading t (program.start_of x) m m') (sym same.0) spares in
    let own : (u : ℕ) → eqb t u ≡ true → program.asleep s u ≡ false = λ u q. subst (λ (v : ℕ). program.asleep s v ≡ false) (eqb-true t u q) awake in
    let now : Aheads program reading inputs places' m' s' es = λ u.
    subst (λ (b : Bool). AheadOf program reading b (inputs u) u (slice_index places' u) m' es) (sym (store.woken s s' t u d act'))
    (subst (λ (q : ℕ). AheadOf program reading (cond (begins (program.start_of d) u) false (program.asleep s u)) (inputs u) u q m' es) (sym (place_at places t u p' (eqb t u) lt refl))
    (ahead_does program reading t u d m m' spares' (inputs u) (slice_index places u) p' es (eqb t u) refl (begins (program.start_of d) u) refl (program.asleep s u)
    (λ q. store.wakes s s' t u d act' q) (own u)
    (λ q. subst (λ (v : ℕ). reading.Gives (inputs v) v p' m' (part v es)) (eqb-true t u q) same.1)
    (ahead u))) in
    let shown = after places' m' s' (length-set places t p' ∙ size) stands' now (then_goes program t d es s s' kind line e act') in
    record { run = t ∷ shown.run; fits = kept shown.run shown.fits; goes = course_went flat inputs t shown.run places m p' m' (ran ∙ is) ∙ shown.goes }
  where
    kept : (ts : List ℕ) → Fits ts (threads_of es) → Fits (t ∷ ts) (t ∷ threads_of es)
    kept ts f = stay (next f)
by_turn {S} {D} program reading flat store code inputs small t d es places m s kind line r ran size stands ahead awake mine e (stops d' k l is act gives only tells) after again =
    let same = only d (part t es) mine (not_waits program t d es s kind line e) in
    let act' : program.act s t d ≡ fails k l = subst (λ (x : D). program.act s t x ≡ fails k l) (sym same) act in
    let last = then_ends program t d es s k l kind line e act' in
    record { run = t ∷ []; fits = stay nothing; goes = course_breaks flat inputs t places m k l (ran ∙ is) ∙ rw (last.0, last.1) refl }
by_turn {S} {D} program reading flat store code inputs small t d es places m s kind line r ran size stands ahead awake mine e (holds is all) after again =
    absurd (not_waits program t d es s kind line e (all d (part t es) mine))

-- one step of the thread whose event is next
hop : {S D : Type 0} (program : Program S D) (reading : Reading S D) (flat : FlatProgram) (store : StoreLaw program) (code : CodeLaw program reading flat) (inputs : ℕ → ℕ → ℕ) (small : (u l : ℕ) → inputs u l < value_bound)
    (t : ℕ) (d : D) (es : List (Event D)) (kind : BreakKind) (line : ℕ) (s : S) → program.asleep s t ≡ false → ending program (record { thread = t; deed = d } ∷ es) s ≡ ends_broken kind line
    → After program reading flat inputs es kind line
    → (places m : List ℕ) → length places ≡ length flat.threads → reading.Stands m s → Aheads program reading inputs places m s (record { thread = t; deed = d } ∷ es)
    → ((places' m' : List ℕ) → slice_index places t < slice_index places' t → slice_index places' t ≤ length (code_of flat t) → length places' ≡ length flat.threads → reading.Stands m' s
    → Aheads program reading inputs places' m' s (record { thread = t; deed = d } ∷ es) → Shown flat inputs (record { thread = t; deed = d } ∷ es) places' m' kind line)
    → Shown flat inputs (record { thread = t; deed = d } ∷ es) places m kind line
hop {S} {D} program reading flat store code inputs small t d es kind line s awake e after places m size stands ahead again =
    let mine : reading.Gives (inputs t) t (slice_index places t) m (d ∷ part t es) =
    subst (λ (todo : List D). reading.Gives (inputs t) t (slice_index places t) m todo) (part_own t d es (eqb_self t))
    (subst (λ (b : Bool). AheadOf program reading b (inputs t) t (slice_index places t) m (record { thread = t; deed = d } ∷ es)) awake (ahead t)) in
    by_turn program reading flat store code inputs small t d es places m s kind line (step (inputs t) (code_of flat t) (slice_index places t) m) refl size stands ahead awake mine e
    (code.turn (inputs t) (small t) t (slice_index places t) m s stands awake (code.front (inputs t) t (slice_index places t) m (d ∷ part t es) mine))
    after again

-- steps of the thread whose event is next, until it comes
hops : {S D : Type 0} (program : Program S D) (reading : Reading S D) (flat : FlatProgram) (store : StoreLaw program) (code : CodeLaw program reading flat) (inputs : ℕ → ℕ → ℕ) (small : (u l : ℕ) → inputs u l < value_bound)
    (t : ℕ) (d : D) (es : List (Event D)) (kind : BreakKind) (line : ℕ) (s : S) → program.asleep s t ≡ false → ending program (record { thread = t; deed = d } ∷ es) s ≡ ends_broken kind line
    → After program reading flat inputs es kind line → (most : ℕ) → Hops program reading flat inputs t d es kind line s most
hops {S} {D} program reading flat store code inputs small t d es kind line s awake e after zero places m size room stands ahead =
    hop program reading flat store code inputs small t d es kind line s awake e after places m size stands ahead
    (λ places' m' far fit size' stands' ahead'. absurd (let z : ⊥ = omega (arith, room, far, fit) in z))
hops {S} {D} program reading flat store code inputs small t d es kind line s awake e after (suc more) places m size room stands ahead =
    hop program reading flat store code inputs small t d es kind line s awake e after places m size stands ahead
    (λ places' m' far fit size' stands' ahead'. hops program reading flat store code inputs small t d es kind line s awake e after more places' m' size' (omega (arith, room, far)) stands' ahead')

-- a run of deeds that breaks has a flat run that breaks alike
pub back : {S D : Type 0} (program : Program S D) (reading : Reading S D) (flat : FlatProgram) (store : StoreLaw program) (code : CodeLaw program reading flat) (inputs : ℕ → ℕ → ℕ) (small : (u l : ℕ) → inputs u l < value_bound) (kind : BreakKind) (line : ℕ)
    (es : List (Event D)) → After program reading flat inputs es kind line
unfolding ending
back {S} {D} program reading flat store code inputs small kind line [] places m s size stands ahead e = absurd cc
back {S} {D} program reading flat store code inputs small kind line (event ∷ es) places m s size stands ahead e =
    hops program reading flat store code inputs small event.thread event.deed es kind line s (woke (program.asleep s event.thread) refl) e
    (λ places' m' s'. back program reading flat store code inputs small kind line es places' m' s') (length (code_of flat event.thread)) places m size (omega arith) stands ahead
  where
    woke : (b : Bool) → program.asleep s event.thread ≡ b → program.asleep s event.thread ≡ false
    woke false a = a
    woke true a = absurd (not_waits program event.thread event.deed es s kind line e (store.sleeps s event.thread event.deed a))
