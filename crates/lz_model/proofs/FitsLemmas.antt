-- Threads that are left out of a schedule make no more rounds.
use Rattle.std.proofs.Common.{ℕ, ◌≤◌, Bool, true, false, List, [], ◌∷◌, arith}
use Rattle.lz_base.proofs.DescentsLemmas.{Fits, nothing, stay, next, fits_descents}
use Rattle.lz_model.specs.LeftOut.{kept}
use Rattle.lz_model.specs.Rounds.{rounds_of}

all_fit : (threads : List ℕ) → Fits threads threads
all_fit [] = nothing
all_fit (thread ∷ threads) = stay (next (all_fit threads))

kept_fits : (places : List Bool) (threads : List ℕ) → Fits (kept places threads) threads
kept_fits [] threads = all_fit threads
kept_fits (keeps ∷ places) [] = nothing
kept_fits (true ∷ places) (thread ∷ threads) = stay (next (kept_fits places threads))
kept_fits (false ∷ places) (thread ∷ threads) = next (kept_fits places threads)

-- leaving threads out makes no more rounds
pub fewer_rounds : (places : List Bool) (threads : List ℕ) → rounds_of (kept places threads) ≤ rounds_of threads
fewer_rounds places threads = let fewer = fits_descents (kept_fits places threads) in omega (arith, fewer)
