-- Inner: what the code of a flat program owes, the law of one step, and that it then breaks as a program of deeds does.
use Rattle.std.specs.Prelude.{Option, Some, None, slice_index, slice_set, ◌≡◌, ℕ, ◌≤◌, ◌<◌, ◌==◌, true, false, ◌⊎◌, List, [], ◌∷◌, length, if◌then◌else◌}
use Rattle.lz_base.specs.Words.{value_bound}
use Rattle.lz_base.specs.declared.word.BreakKind.{BreakKind}
use Rattle.lz_flat.specs.Programs.{FlatProgram}
use Rattle.lz_flat.specs.FlatRuns.{Ran, went, held, breaks, ended, step, opening, IsBrokenRun}
use Rattle.lz_flat.specs.Programs.{code_of}
use Rattle.lz_interleave.specs.Deeds.{gone, waits, fails, Start, no_start, begins, argument_of, Event, Program, IsBrokenRunOf}

-- the store alone
pub record StoreLaw {S D : Type 0} (program : Program S D) : Type 0 where
  -- a thread that is not made does nothing
  pub sleeps : (s : S) (t : ℕ) (d : D) → program.asleep s t ≡ true → program.act s t d ≡ waits
  -- what is started was not made before, and then is; else nothing changes in this
  pub wakes : (s s' : S) (t u : ℕ) (d : D) → program.act s t d ≡ gone s' → begins (program.start_of d) u ≡ true → program.asleep s u ≡ true
  pub woken : (s s' : S) (t u : ℕ) (d : D) → program.act s t d ≡ gone s' → program.asleep s' u ≡ (if begins (program.start_of d) u then false else program.asleep s u)
  -- a trace may stop at once
  pub none : (u v : ℕ) → program.Does u v []

-- how memory is read: which store it stands for; which deeds a thread gives from a place with these inputs;
-- whether its own words are as at first; whether they are so and its argument stands in its word
pub record Reading (S D : Type 0) : Type 1 where
  pub Stands : List ℕ → S → Type 0
  pub Gives : (ℕ → ℕ) → ℕ → ℕ → List ℕ → List D → Type 0
  pub Fresh : ℕ → List ℕ → Type 0
  pub Opened : ℕ → ℕ → List ℕ → Type 0
  -- the deed whose instructions begin at the place
  pub deed_at : (ℕ → ℕ) → ℕ → ℕ → List ℕ → Option D

-- a change of memory by thread t, which starts this, spares the other threads
pub record Spares {S D : Type 0} (reading : Reading S D) (t : ℕ) (start : Start) (m m' : List ℕ) : Type 0 where
  pub fresh : (u : ℕ) → (t == u) ≡ false → begins start u ≡ false → reading.Fresh u m → reading.Fresh u m'
  pub opened : (u : ℕ) → begins start u ≡ true → reading.Fresh u m → reading.Opened u (argument_of start) m'
  pub there : (input : ℕ → ℕ) (u p : ℕ) (todo : List D) → (t == u) ≡ false → begins start u ≡ false → reading.Gives input u p m todo → reading.Gives input u p m' todo
  pub back : (input : ℕ → ℕ) (u p : ℕ) (todo : List D) → (t == u) ≡ false → begins start u ≡ false → reading.Gives input u p m' todo → reading.Gives input u p m todo

-- what a step of a thread is, from a place with a memory that stands for a store
pub data Turn {S D : Type 0} (program : Program S D) (reading : Reading S D) (size : ℕ) (input : ℕ → ℕ) (t p : ℕ) (m : List ℕ) (s : S) (r : Ran) : Type 0 where
  -- nothing that others see
  moves : (p' : ℕ) (m' : List ℕ) → r ≡ went p' m' → p < p' → p' ≤ size → reading.Stands m' s → Spares reading t no_start m m'
      → ((todo : List D) → reading.Gives input t p' m' todo → reading.Gives input t p m todo)
      → ((todo : List D) → reading.Gives input t p m todo → reading.Gives input t p' m' todo)
      → reading.deed_at input t p m ≡ None
      → Turn program reading size input t p m s r
  -- one deed, as the store says
  does : (d : D) (s' : S) (p' : ℕ) (m' : List ℕ) → r ≡ went p' m' → program.act s t d ≡ gone s' → reading.Stands m' s' → Spares reading t (program.start_of d) m m'
      → reading.Gives input t p' m' []
      → ((todo : List D) → reading.Gives input t p' m' todo → reading.Gives input t p m (d ∷ todo))
      → ((e : D) (todo : List D) → reading.Gives input t p m (e ∷ todo) → (program.act s t e ≡ waits → ⊥) → (e ≡ d) × reading.Gives input t p' m' todo)
      → reading.deed_at input t p m ≡ Some d
      → Turn program reading size input t p m s r
  stops : (d : D) (kind : BreakKind) (line : ℕ) → r ≡ breaks kind line → program.act s t d ≡ fails kind line → reading.Gives input t p m (d ∷ [])
      → ((e : D) (todo : List D) → reading.Gives input t p m (e ∷ todo) → (program.act s t e ≡ waits → ⊥) → e ≡ d)
      → reading.deed_at input t p m ≡ Some d
      → Turn program reading size input t p m s r
  -- it is blocked, and so is each deed that may come
  holds : (r ≡ held) ⊎ (r ≡ ended) → ((e : D) (todo : List D) → reading.Gives input t p m (e ∷ todo) → program.act s t e ≡ waits)
      → Turn program reading size input t p m s r

-- inputs are words
abbrev pub IsSmall : (ℕ → ℕ) → Type 0
IsSmall input = (l : ℕ) → input l < value_bound

-- the code of a flat program: what it begins with, what each thread gives alone, and what each step is
pub record CodeLaw {S D : Type 0} (program : Program S D) (reading : Reading S D) (flat : FlatProgram) : Type 0 where
  pub opens : reading.Stands flat.first program.opening
  pub fresh : (u : ℕ) → program.asleep program.opening u ≡ true → reading.Fresh u flat.first
  pub main : (u : ℕ) → program.asleep program.opening u ≡ false → reading.Opened u 0 flat.first
  -- each thread alone: its deeds are its traces
  pub begun : (input : ℕ → ℕ) → IsSmall input → (u v : ℕ) (m : List ℕ) → reading.Opened u v m → reading.Gives input u 0 m []
  pub sound : (input : ℕ → ℕ) → IsSmall input → (u v : ℕ) (m : List ℕ) (todo : List D) → reading.Opened u v m → reading.Gives input u 0 m todo → program.Does u v todo
  pub full : (u v : ℕ) (todo : List D) → program.Does u v todo →
      (input : ℕ → ℕ) × IsSmall input × ((m : List ℕ) → reading.Opened u v m → reading.Gives input u 0 m todo)
  pub front : (input : ℕ → ℕ) (u p : ℕ) (m : List ℕ) (todo : List D) → reading.Gives input u p m todo → reading.Gives input u p m []
  -- each step
  pub inside : (t : ℕ) (m : List ℕ) (s : S) → reading.Stands m s → program.asleep s t ≡ false → t < length flat.threads
  pub asleep : (input : ℕ → ℕ) (t : ℕ) (m : List ℕ) (s : S) → reading.Stands m s → program.asleep s t ≡ true → reading.Fresh t m →
      (step input (code_of flat t) 0 m ≡ held) ⊎ (step input (code_of flat t) 0 m ≡ ended)
  pub turn : (input : ℕ → ℕ) → IsSmall input → (t p : ℕ) (m : List ℕ) (s : S) → reading.Stands m s → program.asleep s t ≡ false → reading.Gives input t p m [] →
      Turn program reading (length (code_of flat t)) input t p m s (step input (code_of flat t) p m)

-- ---- the run of deeds that a flat run tells: for each step the deed that begins there

-- the event of a deed, if there is one, before these
abbrev pub noted : {D : Type 0} → Option D → ℕ → List (Event D) → List (Event D)
noted None t es = es
noted (Some d) t es = record { thread = t; deed = d } ∷ es

-- what is told after a step
abbrev pub told_behind : {D : Type 0} → Ran → (ℕ → List ℕ → List (Event D)) → List (Event D)
told_behind (went place m) next = next place m
told_behind held next = []
told_behind (breaks kind line) next = []
told_behind ended next = []

-- what a run tells from these places and this memory
unfoldable pub told : {S D : Type 0} → FlatProgram → Reading S D → (ℕ → ℕ → ℕ) → List ℕ → List ℕ → List ℕ → List (Event D)
told flat reading inputs [] places m = []
told flat reading inputs (t ∷ rest) places m =
    noted (reading.deed_at (inputs t) t (slice_index places t) m) t
    (told_behind (step (inputs t) (code_of flat t) (slice_index places t) m) (λ place. told flat reading inputs rest (slice_set places t place)))

-- ---- what is claimed

-- the same breaks in as many rounds
abbrev pub BreaksAlike : {S D : Type 0} → Program S D → Reading S D → FlatProgram → Type 0
BreaksAlike {S} {D} program reading flat = (rounds : ℕ) (kind : BreakKind) (line : ℕ) →
    (((run : List ℕ) (inputs : ℕ → ℕ → ℕ) → IsBrokenRun flat rounds run inputs kind line → IsBrokenRunOf program rounds kind line (told flat reading inputs run (opening flat) flat.first))
    × ((es : List (Event D)) → IsBrokenRunOf program rounds kind line es → (run : List ℕ) × (inputs : ℕ → ℕ → ℕ) × IsBrokenRun flat rounds run inputs kind line))
