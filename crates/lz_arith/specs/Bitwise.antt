-- Inner: what the bitwise operators make of two bits, and of two numbers.
use Rattle.std.specs.Prelude.{ℕ, Bool, ◌&&◌, ◌||◌, bit_and, bit_xor, bit_or}
use Rattle.lz_gates.specs.Circuits.{xor}
use Rattle.lz_arith.specs.declared.bitwise.Bitwise.{Bitwise}
use Rattle.lz_arith.specs.declared.bitwise.Bitwise.TheVariants.{And, Xor, Or}

-- of two bits
abbrev pub bitwise_value : Bitwise → Bool → Bool → Bool
bitwise_value And x y = x && y
bitwise_value Xor x y = xor x y
bitwise_value Or x y = x || y

-- of two numbers
abbrev pub bitwise_number : Bitwise → ℕ → ℕ → ℕ
bitwise_number And x y = bit_and x y
bitwise_number Xor x y = bit_xor x y
bitwise_number Or x y = bit_or x y
