-- Programs of seeds: how many workers, what they add, and what is asserted.
use Rattle.std.proofs.Common.{◌≡◌, ◌+◌, [], ◌∷◌, map, refl}
use Rattle.lz_generate.specs.Generated.{workers_of, blocks_of, error_of, addend, one_to, total_of}

-- seed 0 has two workers, which add four times each
pub few_workers : (workers_of 0 ≡ 2) × (blocks_of 0 ≡ 4)
few_workers = (refl, refl)

-- seed 77 has four workers, which add sixteen times each
pub many_workers : (workers_of 77 ≡ 4) × (blocks_of 77 ≡ 16)
many_workers = (refl, refl)

-- what the workers of seed 0 add, and its total, which is right
pub first_adds : map (addend 0 1) (one_to (blocks_of 0)) ≡ 18 ∷ 23 ∷ 28 ∷ 33 ∷ []
first_adds = refl

pub second_adds : map (addend 0 2) (one_to (blocks_of 0)) ≡ 31 ∷ 36 ∷ 41 ∷ 46 ∷ []
second_adds = refl

pub right_total : (error_of 0 ≡ 0) × (total_of 0 ≡ 256)
right_total = (refl, refl)

-- what the workers of seed 39 add, and its total, which is one more than the sum
pub first_adds_wrong : map (addend 39 1) (one_to (blocks_of 39)) ≡ 91 ∷ 96 ∷ 1 ∷ 6 ∷ []
first_adds_wrong = refl

pub second_adds_wrong : map (addend 39 2) (one_to (blocks_of 39)) ≡ 4 ∷ 9 ∷ 14 ∷ 19 ∷ []
second_adds_wrong = refl

pub wrong_total : (error_of 39 ≡ 1) × (total_of 39 ≡ 91 + 96 + 1 + 6 + 4 + 9 + 14 + 19 + 1)
wrong_total = (refl, refl)
