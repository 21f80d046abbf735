-- The two programs are well marked.
use Rattle.std.proofs.Common.{ℕ, ◌+◌, ◌<◌, ◌≤◌, refl, arith}
use Rattle.lz_flat.specs.Programs.{Expression, constant, word, element}
use Rattle.lz_flat.specs.WellFormed.{IsExpressionOf, IsInstructionOf, IsCodeOf, IsWellMarked}
use Rattle.lz_flat_tests.specs.MarksExamples.{sets_word, shared_word, long_code, short_code, mixed}

-- each of so few words is one of these
within : (n first len : ℕ) → first + len ≤ n → (k : ℕ) → k < len → first + k < n
within n first len le k lt = omega (arith, le, lt)

sets_within : (n place : ℕ) (of : Expression) → place < n → IsExpressionOf n of → IsInstructionOf n (sets_word place of)
sets_within n place of lt h = ((within n place 1 (omega (arith, lt)), omega arith), h)

pub shared_word_marked : IsWellMarked shared_word
shared_word_marked = record {
  words = (omega arith, tt);
  codes = (((omega arith, omega arith), tt, tt, tt), ((sets_within 1 0 (constant 1) (omega arith) (omega arith), tt, tt, tt), tt));
  begins = (refl, (refl, tt));
}

long_marked : IsCodeOf 6 long_code
long_marked = (
  sets_within 6 0 (constant 1) (omega arith) (omega arith),
  tt,
  tt,
  (
    sets_within 6 5 (word 0) (omega arith) (omega arith),
    tt,
    tt,
    (
      sets_within 6 1 (word 0) (omega arith) (omega arith),
      tt,
      tt,
      (
        omega arith,
        refl,
        tt,
        (
          omega arith,
          tt,
          tt,
          (
            omega arith,
            tt,
            (omega arith, omega arith),
            (
              sets_within 6 1 (constant 0) (omega arith) (omega arith),
              tt,
              tt,
              (
                omega arith,
                tt,
                tt,
                (
                  sets_within 6 4 (constant 0) (omega arith) (omega arith),
                  tt,
                  tt,
                  (
                    omega arith,
                    tt,
                    (omega arith, omega arith),
                    (sets_within 6 0 (constant 2) (omega arith) (omega arith), tt, tt, tt),
                  ),
                ),
              ),
            ),
          ),
        ),
      ),
    ),
  ),
)

short_marked : IsCodeOf 6 short_code
short_marked = (
  omega arith,
  tt,
  tt,
  (
    sets_within 6 2 (element 3 2 (word 2)) (omega arith) (within 6 3 2 (omega arith), omega arith),
    tt,
    tt,
    (
      sets_within 6 2 (element 3 1 (word 2)) (omega arith) (within 6 3 1 (omega arith), omega arith),
      tt,
      tt,
      (sets_within 6 2 (element 2 1 (word 1)) (omega arith) (within 6 2 1 (omega arith), omega arith), tt, tt, tt),
    ),
  ),
)

pub mixed_marked : IsWellMarked mixed
mixed_marked = record {
  words = (omega arith, (omega arith, (omega arith, (omega arith, (omega arith, (omega arith, tt))))));
  codes = (long_marked, (short_marked, tt));
  begins = (refl, (refl, tt));
}
