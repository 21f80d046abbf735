-- Inner: What stands at the front of bytes: digits, and numbers with an end.
use Rattle.std.specs.Prelude.{◌≡◌, ℕ, ◌<◌, ◌≤◌, List, ◌∷◌, ◌++◌, slice_index}
use Rattle.std.specs.Char.{digit_value}
use Rattle.std.specs.Fmt.{decimal}
use Rattle.lz_log.specs.ProofReading.{IsNumber}

-- from this number on, numbers are told as this one
abbrev pub number_cap : ℕ
number_cap = 4294967296

-- what is told of a number: itself, or the cap where it is not below
pub record IsCapped (told number : ℕ) : Type 0 where
  pub most : told ≤ number
  pub capped : told ≤ number_cap
  pub same : told < number_cap → told ≡ number

-- the bytes begin with no digit
abbrev pub NoDigit : List ℕ → Type 0
NoDigit bytes = 10 ≤ digit_value (slice_index bytes 0)

-- the bytes begin with the digits of a number, and `rest` is left of them
pub record HasNumber (bytes digits : List ℕ) (number : ℕ) (rest : List ℕ) : Type 0 where
  pub number_ : IsNumber digits number
  pub stops : NoDigit rest
  pub text : bytes ≡ digits ++ rest

-- a number at the front of bytes, told up to the cap
pub record TellsNumber (bytes : List ℕ) (told : ℕ) (rest : List ℕ) : Type 0 where
  pub digits : List ℕ
  pub number : ℕ
  pub has : HasNumber bytes digits number rest
  pub capped : IsCapped told number

-- a number within bounds at the front of bytes, with a byte behind it
pub record HasBounded (bytes : List ℕ) (end_ low high number : ℕ) (rest : List ℕ) : Type 0 where
  pub low_ : low ≤ number
  pub high_ : number ≤ high
  pub text : bytes ≡ decimal number ++ end_ ∷ rest
