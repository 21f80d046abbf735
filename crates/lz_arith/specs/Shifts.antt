-- Inner: what a shift makes of a number below a power of two.
use Rattle.std.specs.Prelude.{ℕ, ◌-◌, ◌*◌, ◌/◌, ◌%◌, ◌^◌, Bool, if◌then◌else◌}

-- moved up by so many places, modulo the bound
abbrev pub moved_up : ℕ → ℕ → ℕ → ℕ
moved_up bound w by = (w * 2 ^ by) % bound

-- moved down by so many places; the places that come free above are 1 where it is filled so
abbrev pub moved_down : ℕ → Bool → ℕ → ℕ → ℕ
moved_down bound fill w by = if fill then bound - 1 - (bound - 1 - w) / 2 ^ by else w / 2 ^ by
