-- How far an expression came, with its place beside it.
use Rattle.std.proofs.Common.{◌≡◌, ℕ, Some, None, refl, sym, ◌∙◌, ap}
use Rattle.lz_turns.specs.declared.went.Went.{Went}
use Rattle.lz_turns.specs.declared.went.Went.TheVariants.{Done, Acts, Reads, Asks, Signals, Creates, Calls, Fails, Refuses, Exits, Stops}
use Rattle.lz_turns.specs.Stages.{Stage, Point, within, settles}
use Rattle.lz_turns.specs.Resumed.{again, stopped}
use Rattle.lz_turns.specs.Turning.{turned_by}
use Rattle.lz_turns.specs.Wents.{went_of, value_if_went}

-- what has a value is done
pub went_done : (went : Went) (v : ℕ) (point : Point) → Some v ≡ value_if_went went → went_of went point ≡ settles v
went_done (Done w) v point h = let same : w ≡ v = cc in ap settles same
went_done (Acts action line) v point h = absurd cc
went_done (Reads cell line) v point h = absurd cc
went_done (Asks line kind) v point h = absurd cc
went_done (Signals cond line) v point h = absurd cc
went_done (Creates routine value line) v point h = absurd cc
went_done (Calls function kinds values) v point h = absurd cc
went_done (Fails kind line) v point h = absurd cc
went_done (Refuses line) v point h = absurd cc
went_done Exits v point h = absurd cc
went_done Stops v point h = absurd cc

-- what has none in a part is still within it
pub went_waits : (went : Went) (stage : Stage) (point : Point) → None ≡ value_if_went went → turned_by stage (went_of went point) ≡ stopped (went_of went (within stage point))
went_waits (Done w) stage point h = absurd cc
went_waits (Acts action line) stage point h = refl
went_waits (Reads cell line) stage point h = refl
went_waits (Asks line kind) stage point h = refl
went_waits (Signals cond line) stage point h = refl
went_waits (Creates routine value line) stage point h = refl
went_waits (Calls function kinds values) stage point h = refl
went_waits (Fails kind line) stage point h = refl
went_waits (Refuses line) stage point h = refl
went_waits Exits stage point h = refl
went_waits Stops stage point h = refl

-- a part that is done, and one that is not
pub part_again : (went : Went) (stage : Stage) (v : ℕ) (point : Point) → Some v ≡ value_if_went went → again stage v ≡ turned_by stage (went_of went point)
part_again went stage v point h = sym (ap (turned_by stage) (went_done went v point h))

pub part_stopped : (went : Went) (stage : Stage) (point whole : Point) → None ≡ value_if_went went → whole ≡ within stage point → stopped (went_of went whole) ≡ turned_by stage (went_of went point)
part_stopped went stage point whole h is = ap (λ (x : Point). stopped (went_of went x)) is ∙ sym (went_waits went stage point h)
