-- Inner: runs of deeds, which are what threads do that others see; over any kind of store and deed.
use Rattle.std.specs.Prelude.{◌≡◌, ℕ, ◌+◌, ◌≤◌, ◌==◌, Bool, true, false, List, [], ◌∷◌, if◌then◌else◌}
use Rattle.lz_base.specs.declared.word.BreakKind.{BreakKind}
use Rattle.lz_base.specs.Descents.{descents}

-- what a deed comes to: a store; nothing, since it is blocked; or a check that breaks
pub data Done (S : Type 0) : Type 0 where
  gone : (after : S) → Done S
  waits : Done S
  fails : (kind : BreakKind) (line : ℕ) → Done S

-- whether a deed starts a thread
pub data Start : Type 0 where
  no_start : Start
  starts : (thread argument : ℕ) → Start

-- it starts this thread
abbrev pub begins : Start → ℕ → Bool
begins no_start u = false
begins (starts w v) u = w == u

-- the argument of the thread that it starts
abbrev pub argument_of : Start → ℕ
argument_of no_start = 0
argument_of (starts w v) = v

-- a deed of a thread
pub record Event (D : Type 0) : Type 0 where
  pub thread : ℕ
  pub deed : D

-- threads by their slots, stores with the list of made slots; Does u v deeds: a front of a trace of slot u
-- with the argument v gives these deeds
pub record Program (S D : Type 0) : Type 1 where
  pub opening : S
  pub act : S → ℕ → D → Done S
  pub start_of : D → Start
  pub asleep : S → ℕ → Bool
  pub Does : ℕ → ℕ → List D → Type 0

-- where events lead: to a store; nowhere; or to a check that the last one breaks
pub data End (S : Type 0) : Type 0 where
  goes_on : (after : S) → End S
  is_stuck : End S
  ends_broken : (kind : BreakKind) (line : ℕ) → End S

-- after one deed, and the rest after it
abbrev pub end_behind : {S D : Type 0} → Done S → List (Event D) → (S → End S) → End S
end_behind (gone s) rest next = next s
end_behind waits rest next = is_stuck
end_behind (fails kind line) [] next = ends_broken kind line
end_behind (fails kind line) (e ∷ rest) next = is_stuck

-- each event goes, but that the last may break
unfoldable pub ending : {S D : Type 0} → Program S D → List (Event D) → S → End S
ending program [] s = goes_on s
ending program (e ∷ rest) s = end_behind (program.act s e.thread e.deed) rest (ending program rest)

-- the threads of events, in order
abbrev pub threads_of : {D : Type 0} → List (Event D) → List ℕ
threads_of [] = []
threads_of (e ∷ rest) = e.thread ∷ threads_of rest

-- the deed before these, or these alone
abbrev pub chosen : {D : Type 0} → Bool → D → List D → List D
chosen true d ds = d ∷ ds
chosen false d ds = ds

-- a thread's part of a run
unfoldable pub part : {D : Type 0} → ℕ → List (Event D) → List D
part t [] = []
part t (e ∷ rest) = chosen (e.thread == t) e.deed (part t rest)

-- the argument of a thread that is not there at first
unfoldable pub argument : {S D : Type 0} → Program S D → ℕ → List (Event D) → ℕ
argument program u [] = 0
argument program u (e ∷ rest) =
    if begins (program.start_of e.deed) u then argument_of (program.start_of e.deed) else argument program u rest

-- a thread's part is one of its traces
abbrev pub IsPart : {S D : Type 0} → Program S D → ℕ → List (Event D) → Type 0
IsPart program u es = program.Does u (if program.asleep program.opening u then argument program u es else 0) (part u es)

-- the events are a run of at most so many rounds that ends in this break
pub record IsBrokenRunOf {S D : Type 0} (program : Program S D) (rounds : ℕ) (kind : BreakKind) (line : ℕ) (es : List (Event D)) : Type 0 where
  pub few : descents (threads_of es) + 1 ≤ rounds
  pub breaks : ending program es program.opening ≡ ends_broken kind line
  pub parts : (u : ℕ) → IsPart program u es
