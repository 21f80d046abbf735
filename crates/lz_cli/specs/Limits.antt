-- Trusted: the bounds of a call on runs, where no word says others, and the limits on programs.
use Rattle.std.specs.Prelude.{ℕ}
pub use Rattle.lz_base.specs.Limits.{cost_limit, slot_limit}
pub use Rattle.lz_words.specs.Limits.{default_unwind, default_rounds, default_conflicts}

-- The bounds of a call: the turns of a loop each time that it is entered, the rounds of a run, and the
-- conflicts that a solver may spend.
pub record Bounds : Type 0 where
  pub unwind : ℕ
  pub rounds : ℕ
  pub conflicts : ℕ

-- the rounds with which the cost of a replay is taken
abbrev pub replay_rounds : ℕ
replay_rounds = 1

-- with so many turns and rounds
abbrev pub within : ℕ → ℕ → Bounds
within turns rounds = record { unwind = turns; rounds = rounds; conflicts = default_conflicts }

-- where no word says another
abbrev pub defaults : Bounds
defaults = within default_unwind default_rounds

-- where a word says how many turns
abbrev pub checking : ℕ → Bounds
checking turns = within turns default_rounds

-- those of a replay
abbrev pub replaying : ℕ → Bounds
replaying turns = within turns replay_rounds

-- the most bytes that a schedule file may have
abbrev pub schedule_limit : ℕ
schedule_limit = 268435456
