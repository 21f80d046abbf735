-- The first test of a group: a thread that may act, and one that may not.
use Rattle.std.proofs.Common.{◌≡◌, ℕ, suc, ◌<◌, Bool, true, false, not, ◌&&◌, ◌||◌, cond, List, [], ◌∷◌, length, eqb, refl, ◌∙◌, ap, arith, Option, Some, None}
use Rattle.std.specs.Prelude.{slice_set}
use Rattle.std.proofs.lemmas.Bool.{ne_eqb, ltb-true}
use Rattle.std.proofs.lemmas.List.{length-set}
use Rattle.lz_base.specs.Words.{truth}
use Rattle.lz_model.specs.Store.{State, Acted, is_now, is_made, thread_at, is_halted, held_by_another}
use Rattle.lz_model.specs.Store as model
use Rattle.lz_flat.specs.Programs.{Expression, Instruction, Location, sets, assumes}
use Rattle.lz_flat.specs.Instructions.{Did, value, put}
use Rattle.lz_flat.specs.Instructions as flat
use Rattle.lz_sync.specs.declared.layout.Layout.{Layout}
use Rattle.lz_sync.specs.Slots.{thread_of, slot_of}
use Rattle.lz_sync.specs.Standing.{Role, place_of, IsOf, thread_word, IsMadeIn, Fits, StandsFor}
use Rattle.lz_flat.specs.Running.{runs}
use Rattle.lz_sync.specs.Groups.{live, free, both}
use Rattle.lz_sync.specs.Doing.{KeepsOthers, DoesAs, goes, waits, breaks}
use Rattle.lz_sync.proofs.SlotsLemmas.{same_slot, same_test}
use Rattle.lz_sync.proofs.TellsLemmas.{others_kept}
use Rattle.lz_sync.proofs.TestsLemmas.{value_both, runs_assume, runs_set, runs_none}
use Rattle.lz_sync.proofs.FreeLemmas.{value_live, value_free}

-- ---- a thread that is not halted

-- it is made and has not ended, and the process is not over
pub lives_on : (state : State) (t : ℕ) → is_halted state t ≡ false → (is_made state t ≡ true) × ((thread_at state t).ended ≡ false) × (state.over ≡ false)
lives_on state t e = by state.over (is_made state t) (thread_at state t).ended e
  where
    by : (o made ended : Bool) → (o || (not made || ended)) ≡ false → (made ≡ true) × (ended ≡ false) × (o ≡ false)
    by true made ended e = absurd cc
    by false false ended e = absurd cc
    by false true true e = absurd cc
    by false true false e = (refl, refl, refl)

-- neither of two
pub neither : (a b : Bool) → (a || b) ≡ false → a ≡ false
neither true b e = e
neither false b e = refl

-- so it has a number
pub is_there : (state : State) (t : ℕ) → is_halted state t ≡ false → t < length state.threads
is_there state t e = ltb-true t (length state.threads) (lives_on state t e).0

-- a word that says who it is says this slot exactly where it is this thread
pub who_is : (layout : Layout) (state : State) (made : List ℕ) (t : ℕ) (o : Option ℕ) → Fits layout state made → IsMadeIn state o → thread_of made t < length state.threads → eqb (thread_word made o) (suc t) ≡ is_now o (thread_of made t)
who_is layout state made t None fits is lt = ne_eqb 0 (suc t) (λ e. let z : ⊥ = omega (arith, e) in z)
who_is layout state made t (Some q) fits is lt =
    same_test (suc (slot_of made q)) (suc t) (slot_of made q) t (λ e. omega (arith, e)) (λ e. ap (λ (x : ℕ). suc x) e)
    ∙ same_slot layout.threads made q t fits.rises (let z = fits.threads in omega (arith, z, is)) (let z = fits.threads in omega (arith, z, lt))

-- ---- what a group does

-- two that do the same
pub same_does : (layout : Layout) (beside made : List ℕ) (acted other : Acted) (does did : Did) → acted ≡ other → does ≡ did → DoesAs layout beside made other did → DoesAs layout beside made acted does
same_does layout beside made acted other does did e f (goes state after a d st k) = goes state after (e ∙ a) (f ∙ d) st k
same_does layout beside made acted other does did e f (waits a d) = waits (e ∙ a) (f ∙ d)
same_does layout beside made acted other does did e f (breaks kind a d) = breaks kind (e ∙ a) (f ∙ d)

-- whether the thread is halted, or another is the holder
abbrev pub kept_out : State → ℕ → Bool
kept_out state q = is_halted state q || held_by_another state.holder q

-- what comes after the test of a thread that may act
pub frees : (layout : Layout) (m beside grown : List ℕ) (state : State) (made : List ℕ) (t : ℕ) (rest : List Instruction) (input : ℕ → ℕ) (l : ℕ) (acted : Acted) → StandsFor layout m state made → t < layout.threads
    → (thread_of made t < length state.threads → DoesAs layout beside grown acted (runs input (suc l) rest m))
    → DoesAs layout beside grown (cond (kept_out state (thread_of made t)) model.blocked acted) (runs input l (assumes (free layout t) ∷ rest) m)
frees layout m beside grown state made t rest input l acted st lt more = by (kept_out state (thread_of made t)) refl
  where
    by : (h : Bool) → kept_out state (thread_of made t) ≡ h → DoesAs layout beside grown (cond (kept_out state (thread_of made t)) model.blocked acted) (runs input l (assumes (free layout t) ∷ rest) m)
    by true e = waits (rw e refl) (runs_assume (free layout t) rest input l m false (value_free layout m state made t st lt ∙ rw e refl))
    by false e = same_does layout beside grown (cond (kept_out state (thread_of made t)) model.blocked acted) acted (runs input l (assumes (free layout t) ∷ rest) m) (runs input (suc l) rest m)
        (rw e refl) (runs_assume (free layout t) rest input l m true (value_free layout m state made t st lt ∙ rw e refl))
        (more (is_there state (thread_of made t) (neither (is_halted state (thread_of made t)) (held_by_another state.holder (thread_of made t)) e)))

-- and of a test that may block it
pub frees_where : (layout : Layout) (m beside grown : List ℕ) (state : State) (made : List ℕ) (t : ℕ) (test : Expression) (b : Bool) (rest : List Instruction) (input : ℕ → ℕ) (l : ℕ) (acted : Acted) → StandsFor layout m state made → t < layout.threads → value test m ≡ truth b
    → (b ≡ false → acted ≡ model.blocked)
    → (thread_of made t < length state.threads → b ≡ true → DoesAs layout beside grown acted (runs input (suc l) rest m))
    → DoesAs layout beside grown (cond (kept_out state (thread_of made t)) model.blocked acted) (runs input l (assumes (both (free layout t) test) ∷ rest) m)
frees_where layout m beside grown state made t test b rest input l acted st lt is no_way more = by (kept_out state (thread_of made t)) refl b refl
  where
    whole : value (both (free layout t) test) m ≡ truth (not (kept_out state (thread_of made t)) && b)
    whole = value_both (free layout t) test m (not (kept_out state (thread_of made t))) b (value_free layout m state made t st lt) is

    by : (h : Bool) → kept_out state (thread_of made t) ≡ h → (c : Bool) → b ≡ c → DoesAs layout beside grown (cond (kept_out state (thread_of made t)) model.blocked acted) (runs input l (assumes (both (free layout t) test) ∷ rest) m)
    by true e c f = waits (rw e refl) (runs_assume (both (free layout t) test) rest input l m false (whole ∙ rw e refl))
    by false e false f = waits (rw e (no_way f)) (runs_assume (both (free layout t) test) rest input l m false (whole ∙ rw (e, f) refl))
    by false e true f = same_does layout beside grown (cond (kept_out state (thread_of made t)) model.blocked acted) acted (runs input l (assumes (both (free layout t) test) ∷ rest) m) (runs input (suc l) rest m)
        (rw e refl) (runs_assume (both (free layout t) test) rest input l m true (whole ∙ rw (e, f) refl))
        (more (is_there state (thread_of made t) (neither (is_halted state (thread_of made t)) (held_by_another state.holder (thread_of made t)) e)) f)

-- what comes after the test of a thread that is not halted, whoever is the holder
pub lives_then : (layout : Layout) (m beside grown : List ℕ) (state : State) (made : List ℕ) (t : ℕ) (rest : List Instruction) (input : ℕ → ℕ) (l : ℕ) (acted : Acted) → StandsFor layout m state made → t < layout.threads
    → (is_halted state (thread_of made t) ≡ false → DoesAs layout beside grown acted (runs input (suc l) rest m))
    → DoesAs layout beside grown (cond (is_halted state (thread_of made t) || false) model.blocked acted) (runs input l (assumes (live layout t) ∷ rest) m)
lives_then layout m beside grown state made t rest input l acted st lt more = by (is_halted state (thread_of made t)) refl
  where
    by : (h : Bool) → is_halted state (thread_of made t) ≡ h → DoesAs layout beside grown (cond (is_halted state (thread_of made t) || false) model.blocked acted) (runs input l (assumes (live layout t) ∷ rest) m)
    by true e = waits (rw e refl) (runs_assume (live layout t) rest input l m false (value_live layout m state made t st lt ∙ rw e refl))
    by false e = same_does layout beside grown (cond (is_halted state (thread_of made t) || false) model.blocked acted) acted (runs input l (assumes (live layout t) ∷ rest) m) (runs input (suc l) rest m)
        (rw e refl) (runs_assume (live layout t) rest input l m true (value_live layout m state made t st lt ∙ rw e refl)) (more e)

-- the last write of a group
pub runs_last : (to : Location) (of : Expression) (input : ℕ → ℕ) (l : ℕ) (m after : List ℕ) (v : ℕ) → value of m ≡ v → put to v m ≡ after → runs input l (sets to of ∷ []) m ≡ flat.moved 0 after
runs_last to of input l m after v e f = runs_set to of [] input l m after v e f ∙ runs_none input (suc l) after

-- ---- words that stand for no state

-- a write of a word of the layout keeps them
pub length_others : (m : List ℕ) (layout : Layout) (role : Role) (v : ℕ) → IsOf layout role → KeepsOthers layout m (slice_set m (place_of layout role) v)
length_others m layout role v is = record { size = length-set m (place_of layout role) v; others = λ place le. others_kept layout m role v place is le }

-- so do two steps
pub kept_too : (layout : Layout) (a b c : List ℕ) → KeepsOthers layout a b → KeepsOthers layout b c → KeepsOthers layout a c
kept_too layout a b c h k = record { size = k.size ∙ h.size; others = λ place le. k.others place le ∙ h.others place le }

-- and none
pub kept_all : (layout : Layout) (a : List ℕ) → KeepsOthers layout a a
kept_all layout a = record { size = refl; others = λ place le. refl }
