-- Trusted: counts of failures, which never fall, and stand still at the end of their type, 2 ^ 64 - 1.
use Rattle.std.specs.Prelude.{ℕ, ◌+◌, ◌≤◌, min}

-- the count rose, or stands at its type's end
abbrev pub Rose : ℕ → ℕ → Type 0
Rose before after = min (before + 1) 18446744073709551615 ≤ after
