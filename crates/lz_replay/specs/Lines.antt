-- Inner: how a line of a schedule text is read.
use Rattle.std.specs.Prelude.{ℕ, ◌+◌, ◌^◌, ◌==◌, Bool, true, false, not, ◌&&◌, ◌||◌, nat_lt, List, [], ◌∷◌, length, take, drop, codes, Option, Some, None, if◌then◌else◌}
use Rattle.std.specs.List.{prefix_len, list_all, starts_with}
use Rattle.std.specs.Char.{is_ascii_digit}
use Rattle.std.specs.Str.{bytes_eq}
use Rattle.std.specs.Str.Parse.{digits_value}
use Rattle.lz_model.specs.declared.schedule.Step.{Step}

abbrev pub is_other : ℕ → ℕ → Bool
is_other byte other = not (other == byte)

-- digits, of which the first is 0 only where it is the last
abbrev pub is_numeral : List ℕ → Bool
is_numeral [] = false
is_numeral (first ∷ rest) = list_all is_ascii_digit (first ∷ rest) && (not (first == 48) || length (first ∷ rest) == 1)

-- the value where the test holds
abbrev pub some_where : {A : Type 0} → Bool → A → Option A
some_where true value = Some value
some_where false value = None

-- the number of these digits, where it is below 2 ^ 64
abbrev pub number_at : List ℕ → Option ℕ
number_at bytes = some_where (is_numeral bytes && nat_lt (digits_value 10 bytes) (2 ^ 64)) (digits_value 10 bytes)

-- what stands behind these bytes
abbrev pub behind : List ℕ → List ℕ → Option (List ℕ)
behind front bytes = some_where (starts_with ◌==◌ bytes front) (drop (length front) bytes)

-- the step of two numbers, where the first is that of a thread
abbrev pub step_of : Option ℕ → Option ℕ → Option Step
step_of None choice = None
step_of (Some thread) None = None
step_of (Some thread) (Some choice) = some_where (nat_lt thread (2 ^ 32)) (record { thread = thread; choice = choice })

-- the step of two numbers with a space between them, which stands behind so many bytes
abbrev pub step_split : ℕ → List ℕ → Option Step
step_split front bytes = step_of (number_at (take front bytes)) (number_at (drop (front + 1) bytes))

abbrev pub numbers_at : List ℕ → Option Step
numbers_at bytes =
    if prefix_len (is_other 32) bytes == length bytes then None
    else step_split (prefix_len (is_other 32) bytes) bytes

abbrev pub step_behind : Option (List ℕ) → Option Step
step_behind None = None
step_behind (Some rest) = numbers_at rest

-- the step of a line
abbrev pub step_at : List ℕ → Option Step
step_at line = step_behind (behind (codes "step ") line)

-- the line is passed over
abbrev pub is_passed_over : List ℕ → Bool
is_passed_over [] = true
is_passed_over (first ∷ rest) =
    bytes_eq (first ∷ rest) (codes "FAILED")
    || (starts_with ◌==◌ (first ∷ rest) (codes "check ") || starts_with ◌==◌ (first ∷ rest) (codes "rounds "))
