-- Trusted: the numbers that the words of a command line may say, and those where no word says one.
use Rattle.std.specs.Prelude.{ℕ}

-- the most digits of a number
abbrev pub digit_limit : ℕ
digit_limit = 20

-- the turns of a loop each time that it is entered, where no word says another number
abbrev pub default_unwind : ℕ
default_unwind = 2

-- the greatest number of turns that a word may say
abbrev pub greatest_unwind : ℕ
greatest_unwind = 100

-- the rounds of a run, where no word says another number
abbrev pub default_rounds : ℕ
default_rounds = 2

-- the greatest number of rounds that a word may say
abbrev pub greatest_rounds : ℕ
greatest_rounds = 32

-- the conflicts that the solver may spend, where no word says another number
abbrev pub default_conflicts : ℕ
default_conflicts = 100000

-- the greatest number of conflicts that a word may say
abbrev pub greatest_conflicts : ℕ
greatest_conflicts = 1000000

-- the greatest seed that a word may say
abbrev pub greatest_seed : ℕ
greatest_seed = 65535
