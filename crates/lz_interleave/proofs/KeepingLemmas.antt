-- What holds of each thread between steps, and how a step keeps it.
use Rattle.std.proofs.Common.{◌≡◌, ℕ, ◌<◌, Bool, true, false, cond, List, [], ◌∷◌, length, eqb, refl, sym, subst}
use Rattle.std.specs.Prelude.{slice_index, slice_set}
use Rattle.std.proofs.lemmas.List.{get_or-set_same, get_or-set_other}
use Rattle.std.proofs.lemmas.Bool.{eqb-true, eqb-false}
use Rattle.lz_interleave.specs.Deeds.{Start, no_start, begins, argument_of, Event, Program, part, argument}
use Rattle.lz_interleave.specs.StepLaw.{Reading, Spares}

-- by whether it sleeps
abbrev pub StatusOf : {S D : Type 0} → Reading S D → Bool → (ℕ → ℕ) → ℕ → ℕ → List ℕ → Type 0
StatusOf reading true input u p m = (p ≡ 0) × reading.Fresh u m
StatusOf reading false input u p m = reading.Gives input u p m []

-- what the events to come owe it
abbrev pub FutureOf : {S D : Type 0} → Program S D → Reading S D → Bool → (ℕ → ℕ) → ℕ → ℕ → List ℕ → List (Event D) → Type 0
FutureOf program reading true input u p m es = program.Does u (argument program u es) (part u es)
FutureOf program reading false input u p m es = reading.Gives input u p m (part u es)

-- what it owes the events to come
abbrev pub AheadOf : {S D : Type 0} → Program S D → Reading S D → Bool → (ℕ → ℕ) → ℕ → ℕ → List ℕ → List (Event D) → Type 0
AheadOf program reading true input u p m es =
    (p ≡ 0) × reading.Fresh u m × ((m' : List ℕ) → reading.Opened u (argument program u es) m' → reading.Gives input u 0 m' (part u es))
AheadOf program reading false input u p m es = reading.Gives input u p m (part u es)

-- the place of a thread after another one, or itself, came to a new one
pub place_at : (places : List ℕ) (t u p : ℕ) (same : Bool) → t < length places → eqb t u ≡ same → slice_index (slice_set places t p) u ≡ cond same p (slice_index places u)
place_at places t u p true lt e =
    let is : t ≡ u = eqb-true t u e in
    subst (λ (v : ℕ). slice_index (slice_set places t p) v ≡ p) is (get_or-set_same places t p 0 lt)
place_at places t u p false lt e = get_or-set_other places t u p 0 (λ (h : u ≡ t). eqb-false t u e (sym h))

-- ---- a status after a step of t
pub status_after : {S D : Type 0} (reading : Reading S D) (t u : ℕ) (start : Start) (m m' : List ℕ) → Spares reading t start m m' → (input : ℕ → ℕ) (pu p' : ℕ)
    → (same : Bool) → eqb t u ≡ same → (beg : Bool) → begins start u ≡ beg → (b : Bool) → (beg ≡ true → b ≡ true) → (same ≡ true → b ≡ false)
    → ((v : ℕ) (n : List ℕ) → reading.Opened u v n → reading.Gives input u 0 n [])
    → (same ≡ true → reading.Gives input u p' m' [])
    → StatusOf reading b input u pu m → StatusOf reading (cond beg false b) input u (cond same p' pu) m'
status_after reading t u start m m' spares input pu p' true e true f true w a begun mine h = absurd (let z = a refl in cc)
status_after reading t u start m m' spares input pu p' true e true f false w a begun mine h = absurd (let z = w refl in cc)
status_after reading t u start m m' spares input pu p' true e false f true w a begun mine h = absurd (let z = a refl in cc)
status_after reading t u start m m' spares input pu p' true e false f false w a begun mine h = mine refl
status_after reading t u start m m' spares input pu p' false e true f true w a begun mine h =
    subst (λ (q : ℕ). reading.Gives input u q m' []) (sym h.0) (begun (argument_of start) m' (spares.opened u f h.1))
status_after reading t u start m m' spares input pu p' false e true f false w a begun mine h = absurd (let z = w refl in cc)
status_after reading t u start m m' spares input pu p' false e false f true w a begun mine h = (h.0, spares.fresh u e f h.1)
status_after reading t u start m m' spares input pu p' false e false f false w a begun mine h = spares.there input u pu [] e f h

-- ---- what the events to come owe, before a step that is no event
pub future_moves : {S D : Type 0} (program : Program S D) (reading : Reading S D) (t u : ℕ) (m m' : List ℕ) → Spares reading t no_start m m' → (input : ℕ → ℕ) (pu p' : ℕ) (es : List (Event D))
    → (same : Bool) → eqb t u ≡ same → (b : Bool) → (same ≡ true → b ≡ false)
    → (same ≡ true → (todo : List D) → reading.Gives input u p' m' todo → reading.Gives input u pu m todo)
    → FutureOf program reading b input u (cond same p' pu) m' es → FutureOf program reading b input u pu m es
future_moves program reading t u m m' spares input pu p' es true e true a mine h = absurd (let z = a refl in cc)
future_moves program reading t u m m' spares input pu p' es true e false a mine h = mine refl (part u es) h
future_moves program reading t u m m' spares input pu p' es false e true a mine h = h
future_moves program reading t u m m' spares input pu p' es false e false a mine h = spares.back input u pu (part u es) e refl h

-- before an event of t
pub future_does : {S D : Type 0} (program : Program S D) (reading : Reading S D) (t u : ℕ) (d : D) (m m' : List ℕ) → Spares reading t (program.start_of d) m m' → (input : ℕ → ℕ) (pu p' : ℕ) (es : List (Event D))
    → (same : Bool) → eqb t u ≡ same → (beg : Bool) → begins (program.start_of d) u ≡ beg → (b : Bool) → (beg ≡ true → b ≡ true) → (same ≡ true → b ≡ false)
    → ((v : ℕ) (n : List ℕ) (todo : List D) → reading.Opened u v n → reading.Gives input u 0 n todo → program.Does u v todo)
    → (same ≡ true → (todo : List D) → reading.Gives input u p' m' todo → reading.Gives input u pu m (d ∷ todo))
    → StatusOf reading b input u pu m
    → FutureOf program reading (cond beg false b) input u (cond same p' pu) m' es → FutureOf program reading b input u pu m (record { thread = t; deed = d } ∷ es)
unfolding part argument
future_does program reading t u d m m' spares input pu p' es true e true f true w a sound mine st h = absurd (let z = a refl in cc)
future_does program reading t u d m m' spares input pu p' es true e true f false w a sound mine st h = absurd (let z = w refl in cc)
future_does program reading t u d m m' spares input pu p' es true e false f true w a sound mine st h = absurd (let z = a refl in cc)
future_does program reading t u d m m' spares input pu p' es true e false f false w a sound mine st h = rw (FutureOf, e) (mine refl (part u es) h)
future_does program reading t u d m m' spares input pu p' es false e true f true w a sound mine st h =
    rw (FutureOf, e, f) (sound (argument_of (program.start_of d)) m' (part u es) (spares.opened u f st.1) (subst (λ (q : ℕ). reading.Gives input u q m' (part u es)) st.0 h))
future_does program reading t u d m m' spares input pu p' es false e true f false w a sound mine st h = absurd (let z = w refl in cc)
future_does program reading t u d m m' spares input pu p' es false e false f true w a sound mine st h = rw (FutureOf, e, f) h
future_does program reading t u d m m' spares input pu p' es false e false f false w a sound mine st h = rw (FutureOf, e) (spares.back input u pu (part u es) e f h)

-- the last event, which breaks
pub future_stops : {S D : Type 0} (program : Program S D) (reading : Reading S D) (t u : ℕ) (d : D) (m : List ℕ) (input : ℕ → ℕ) (pu : ℕ)
    → (same : Bool) → eqb t u ≡ same → (b : Bool) → (same ≡ true → b ≡ false) → ((v : ℕ) → program.Does u v [])
    → (same ≡ true → reading.Gives input u pu m (d ∷ [])) → StatusOf reading b input u pu m
    → FutureOf program reading b input u pu m (record { thread = t; deed = d } ∷ [])
unfolding part argument
future_stops program reading t u d m input pu true e true a none mine st = absurd (let z = a refl in cc)
future_stops program reading t u d m input pu true e false a none mine st = rw (FutureOf, e) (mine refl)
future_stops program reading t u d m input pu false e true a none mine st = rw (FutureOf, e) (none (argument program u (record { thread = t; deed = d } ∷ [])))
future_stops program reading t u d m input pu false e false a none mine st = rw (FutureOf, e) st

-- ---- what a thread owes, after a step that is no event
pub ahead_moves : {S D : Type 0} (program : Program S D) (reading : Reading S D) (t u : ℕ) (m m' : List ℕ) → Spares reading t no_start m m' → (input : ℕ → ℕ) (pu p' : ℕ) (es : List (Event D))
    → (same : Bool) → eqb t u ≡ same → (b : Bool) → (same ≡ true → b ≡ false)
    → (same ≡ true → (todo : List D) → reading.Gives input u pu m todo → reading.Gives input u p' m' todo)
    → AheadOf program reading b input u pu m es → AheadOf program reading b input u (cond same p' pu) m' es
ahead_moves program reading t u m m' spares input pu p' es true e true a mine h = absurd (let z = a refl in cc)
ahead_moves program reading t u m m' spares input pu p' es true e false a mine h = mine refl (part u es) h
ahead_moves program reading t u m m' spares input pu p' es false e true a mine h = (h.0, spares.fresh u e refl h.1, h.2)
ahead_moves program reading t u m m' spares input pu p' es false e false a mine h = spares.there input u pu (part u es) e refl h

-- after an event of t
pub ahead_does : {S D : Type 0} (program : Program S D) (reading : Reading S D) (t u : ℕ) (d : D) (m m' : List ℕ) → Spares reading t (program.start_of d) m m' → (input : ℕ → ℕ) (pu p' : ℕ) (es : List (Event D))
    → (same : Bool) → eqb t u ≡ same → (beg : Bool) → begins (program.start_of d) u ≡ beg → (b : Bool) → (beg ≡ true → b ≡ true) → (same ≡ true → b ≡ false)
    → (same ≡ true → reading.Gives input u p' m' (part u es))
    → AheadOf program reading b input u pu m (record { thread = t; deed = d } ∷ es) → AheadOf program reading (cond beg false b) input u (cond same p' pu) m' es
unfolding part argument
ahead_does program reading t u d m m' spares input pu p' es true e true f true w a mine h = absurd (let z = a refl in cc)
ahead_does program reading t u d m m' spares input pu p' es true e true f false w a mine h = absurd (let z = w refl in cc)
ahead_does program reading t u d m m' spares input pu p' es true e false f true w a mine h = absurd (let z = a refl in cc)
ahead_does program reading t u d m m' spares input pu p' es true e false f false w a mine h = mine refl
ahead_does {S} {D} program reading t u d m m' spares input pu p' es false e true f true w a mine h =
    let is : part u (record { thread = t; deed = d } ∷ es) ≡ part u es = rw e refl in
    let arg : argument program u (record { thread = t; deed = d } ∷ es) ≡ argument_of (program.start_of d) = rw f refl in
    let old : reading.Gives input u 0 m' (part u (record { thread = t; deed = d } ∷ es)) = h.2 m' (subst (λ (v : ℕ). reading.Opened u v m') (sym arg) (spares.opened u f h.1)) in
    subst (λ (q : ℕ). reading.Gives input u q m' (part u es)) (sym h.0) (subst (λ (todo : List D). reading.Gives input u 0 m' todo) is old)
ahead_does program reading t u d m m' spares input pu p' es false e true f false w a mine h = absurd (let z = w refl in cc)
ahead_does {S} {D} program reading t u d m m' spares input pu p' es false e false f true w a mine h =
    let is : part u (record { thread = t; deed = d } ∷ es) ≡ part u es = rw e refl in
    let arg : argument program u (record { thread = t; deed = d } ∷ es) ≡ argument program u es = rw f refl in
    (h.0, spares.fresh u e f h.1, λ n o. subst (λ (todo : List D). reading.Gives input u 0 n todo) is (h.2 n (subst (λ (v : ℕ). reading.Opened u v n) (sym arg) o)))
ahead_does {S} {D} program reading t u d m m' spares input pu p' es false e false f false w a mine h =
    let is : part u (record { thread = t; deed = d } ∷ es) ≡ part u es = rw e refl in
    spares.there input u pu (part u es) e f (subst (λ (todo : List D). reading.Gives input u pu m todo) is h)
