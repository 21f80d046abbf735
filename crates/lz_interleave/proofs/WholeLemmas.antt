-- A flat program that meets the law of its steps breaks as the program does.
use Rattle.std.proofs.Common.{◌≡◌, ℕ, zero, suc, ◌<◌, Bool, true, false, cond, List, [], length, replicate, refl, sym, subst, arith}
use Rattle.lz_base.specs.Words.{value_bound}
use Rattle.std.specs.Prelude.{slice_index}
use Rattle.lz_flat.specs.Programs.{FlatProgram}
use Rattle.lz_interleave.specs.Deeds.{Event, Program, IsBrokenRunOf, part, argument}
use Rattle.lz_flat.specs.FlatRuns.{opening, IsBrokenRun}
use Rattle.lz_flat.proofs.RoundsLemmas.{length_zeros}
use Rattle.lz_interleave.specs.StepLaw.{StoreLaw, Reading, CodeLaw, told, BreaksAlike}
use Rattle.lz_base.proofs.DescentsLemmas.{fits_descents}
use Rattle.lz_interleave.proofs.KeepingLemmas.{StatusOf, FutureOf, AheadOf}
use Rattle.lz_interleave.proofs.FlatToDeedsLemmas.{there}
use Rattle.lz_interleave.proofs.DeedsToFlatLemmas.{back}

-- each of so many zeros is 0
zeros_at : (n u : ℕ) → slice_index (replicate n 0) u ≡ 0
zeros_at zero zero = refl
zeros_at zero (suc u) = refl
zeros_at (suc n) zero = refl
zeros_at (suc n) (suc u) = zeros_at n u

-- what holds of a thread at the beginning
first_status : {S D : Type 0} (program : Program S D) (reading : Reading S D) (flat : FlatProgram) (code : CodeLaw program reading flat) (input : ℕ → ℕ) (small : (l : ℕ) → input l < value_bound) (u p : ℕ) → p ≡ 0
    → (b : Bool) → program.asleep program.opening u ≡ b → StatusOf reading b input u p flat.first
first_status program reading flat code input small u p is true a = (is, code.fresh u a)
first_status program reading flat code input small u p is false a = subst (λ (q : ℕ). reading.Gives input u q flat.first []) (sym is) (code.begun input small u 0 flat.first (code.main u a))

-- a thread's part of the told run is one of its traces
part_is : {S D : Type 0} (program : Program S D) (reading : Reading S D) (flat : FlatProgram) (code : CodeLaw program reading flat) (input : ℕ → ℕ) (small : (l : ℕ) → input l < value_bound) (u p : ℕ) (es : List (Event D)) → p ≡ 0
    → (b : Bool) → program.asleep program.opening u ≡ b → FutureOf program reading b input u p flat.first es → program.Does u (cond b (argument program u es) 0) (part u es)
part_is program reading flat code input small u p es is true a h = h
part_is program reading flat code input small u p es is false a h =
    code.sound input small u 0 flat.first (part u es) (code.main u a) (subst (λ (q : ℕ). reading.Gives input u q flat.first (part u es)) is h)

-- what a thread's part of a run of deeds owes at the beginning
first_ahead : {S D : Type 0} (program : Program S D) (reading : Reading S D) (flat : FlatProgram) (code : CodeLaw program reading flat) (input : ℕ → ℕ) (u p : ℕ) (es : List (Event D)) → p ≡ 0
    → (b : Bool) → program.asleep program.opening u ≡ b → ((m : List ℕ) → reading.Opened u (cond b (argument program u es) 0) m → reading.Gives input u 0 m (part u es))
    → AheadOf program reading b input u p flat.first es
first_ahead program reading flat code input u p es is true a h = (is, code.fresh u a, h)
first_ahead program reading flat code input u p es is false a h = subst (λ (q : ℕ). reading.Gives input u q flat.first (part u es)) (sym is) (h flat.first (code.main u a))

-- a flat program that meets the law of its steps breaks as the program of deeds does, both ways
pub breaks_alike : {S D : Type 0} (program : Program S D) (reading : Reading S D) (flat : FlatProgram) → StoreLaw program → CodeLaw program reading flat → BreaksAlike program reading flat
breaks_alike {S} {D} program reading flat store code rounds kind line = (to, from)
  where
    to : (run : List ℕ) (inputs : ℕ → ℕ → ℕ) → IsBrokenRun flat rounds run inputs kind line → IsBrokenRunOf program rounds kind line (told flat reading inputs run (opening flat) flat.first)
    to run inputs is =
        let tale = there program reading flat store code inputs is.words kind line run (opening flat) flat.first program.opening (length_zeros (length flat.threads)) code.opens
        (λ u. first_status program reading flat code (inputs u) (is.words u) u (slice_index (opening flat) u) (zeros_at (length flat.threads) u) (program.asleep program.opening u) refl) is.breaks in
        subst (λ (es : List (Event D)). IsBrokenRunOf program rounds kind line es) tale.is_told (record {
          few = let d = fits_descents tale.fits in let f = is.few in omega (arith, d, f);
          breaks = tale.ends;
          parts = λ u. part_is program reading flat code (inputs u) (is.words u) u (slice_index (opening flat) u) tale.es (zeros_at (length flat.threads) u) (program.asleep program.opening u) refl (tale.future u);
        })

    from : (es : List (Event D)) → IsBrokenRunOf program rounds kind line es → (run : List ℕ) × (inputs : ℕ → ℕ → ℕ) × IsBrokenRun flat rounds run inputs kind line
    from es is =
        let all = λ (u : ℕ). code.full u (cond (program.asleep program.opening u) (argument program u es) 0) (part u es) (is.parts u) in
        let shown = back program reading flat store code (λ u. (all u).0) (λ u. (all u).1) kind line es (opening flat) flat.first program.opening (length_zeros (length flat.threads)) code.opens
        (λ u. first_ahead program reading flat code ((all u).0) u (slice_index (opening flat) u) es (zeros_at (length flat.threads) u) (program.asleep program.opening u) refl ((all u).2)) is.breaks in
        (shown.run, (λ u. (all u).0), record { words = λ u. (all u).1; few = let d = fits_descents shown.fits in let f = is.few in omega (arith, d, f); breaks = shown.goes })
