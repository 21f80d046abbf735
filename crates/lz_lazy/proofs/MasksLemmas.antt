-- Masks: ones in a row, in binary, no less than a size.
use Rattle.std.proofs.Common.{◌≡◌, ℕ, zero, suc, ◌+◌, ◌-◌, ◌*◌, ◌^◌, ◌≤◌, ◌<◌, Bool, true, false, cond, nat_le, refl, sym, ◌∙◌, ap, subst, arith, bit_and}
use Rattle.std.specs.Prelude.{if◌then◌else◌}
use Rattle.std.proofs.lemmas.Nat.{and_mask}
use Rattle.std.proofs.Math.Nat.{mul-le-mul_right, mod-eq_of_lt, pow-le-pow_right}
use Rattle.lz_base.specs.Words.{value_bound}
use Rattle.lz_lazy.specs.Encoding.{mask_from, word_bits, mask_of}

-- a mask of so many ones
pub record HasOnes (mask ones : ℕ) : Type 0 where
  pub power : mask + 1 ≡ 2 ^ ones

-- a number is a mask
abbrev pub IsMask : ℕ → Type 0
IsMask mask = (ones : ℕ) × HasOnes mask ones

-- a factor 2 moved from one side to the other
regroup : (p m : ℕ) → p * (2 * m + 1 + 1) ≡ (2 * p) * (m + 1)
regroup p m = grind arith

-- a power of two is twice the one before
power_suc : (k : ℕ) → 2 ^ suc k ≡ 2 * 2 ^ k
power_suc k = omega arith

-- a mask with one more one, for one more turn
double : (more mask : ℕ) → 2 ^ more * (2 * mask + 1 + 1) ≡ 2 ^ suc more * (mask + 1)
double more mask = regroup (2 ^ more) mask ∙ ap (λ (k : ℕ). k * (mask + 1)) (sym (power_suc more))

-- twice a product is the product and itself
twice : (p m : ℕ) → (2 * p) * (m + 1) ≡ p * (m + 1) + p * (m + 1)
twice p m = grind arith

-- a power of two times a number is half of it and half of it
double_same : (more mask : ℕ) → 2 ^ suc more * (mask + 1) ≡ 2 ^ more * (mask + 1) + 2 ^ more * (mask + 1)
double_same more mask = ap (λ (k : ℕ). k * (mask + 1)) (power_suc more) ∙ twice (2 ^ more) mask

-- a mask doubled and raised by one has one more bit
doubled : (mask ones : ℕ) → HasOnes mask ones → HasOnes (2 * mask + 1) (suc ones)
doubled mask ones is = record { power = let p = is.power in omega arith }

-- the mask or the next one is a mask
next_mask : (b : Bool) (mask : ℕ) → IsMask mask → IsMask (cond b mask (2 * mask + 1))
next_mask true mask is = is
next_mask false mask is = (suc is.0, doubled mask is.0 is.1)

-- from a mask on there are masks alone
pub mask_from_is : (more mask size : ℕ) → IsMask mask → IsMask (mask_from more mask size)
unfolding mask_from
mask_from_is zero mask size is = is
mask_from_is (suc more) mask size is =
    mask_from_is more (cond (nat_le size mask) mask (2 * mask + 1)) size (next_mask (nat_le size mask) mask is)

-- with enough turns the mask is no less than the size
pub mask_from_enough : (more mask size : ℕ) → size < 2 ^ more * (mask + 1) → size ≤ mask_from more mask size
unfolding mask_from
mask_from_enough zero mask size h = let z : size < 1 * (mask + 1) = h in omega arith
mask_from_enough (suc more) mask size h =
    mask_from_enough more (cond (nat_le size mask) mask (2 * mask + 1)) size (by_test (nat_le size mask) refl)
  where
    positive : (k : ℕ) → 1 ≤ 2 ^ k
    positive zero = omega arith
    positive (suc k) = let p = positive k in omega arith

    by_test : (b : Bool) → nat_le size mask ≡ b → size < 2 ^ more * (cond b mask (2 * mask + 1) + 1)
    by_test true e =
        let le : size ≤ mask = grind arith in
        let p = positive more in
        let more_is : 1 * (mask + 1) ≤ 2 ^ more * (mask + 1) = mul-le-mul_right (mask + 1) p in
        omega (arith, le, more_is)
    by_test false e =
        subst (λ (k : ℕ). size < k) (sym (double more mask)) h

-- the mask is below the power that its turns reach
pub mask_from_most : (more mask size : ℕ) → mask_from more mask size < 2 ^ more * (mask + 1)
unfolding mask_from
mask_from_most zero mask size = omega arith
mask_from_most (suc more) mask size =
    let later = mask_from_most more (cond (nat_le size mask) mask (2 * mask + 1)) size in
    by_test (nat_le size mask) later
  where
    by_test : (b : Bool) → mask_from more (cond (nat_le size mask) mask (2 * mask + 1)) size < 2 ^ more * (cond b mask (2 * mask + 1) + 1)
        → mask_from more (cond (nat_le size mask) mask (2 * mask + 1)) size < 2 ^ (suc more) * (mask + 1)
    by_test true h = let d = double_same more mask in omega (arith, h, d)
    by_test false h = let d = double more mask in omega (arith, h, d)

-- what is found is a mask
pub mask_is : (size : ℕ) → IsMask (mask_of size)
mask_is size = mask_from_is word_bits 0 size (0, record { power = refl })

-- it is the size or more
pub mask_enough : (size : ℕ) → size < value_bound → size ≤ mask_of size
unfolding word_bits
mask_enough size h = mask_from_enough word_bits 0 size (let z : size < 2 ^ 32 * (0 + 1) = omega arith in z)

-- it is a word
pub mask_small : (size : ℕ) → mask_of size < value_bound
unfolding word_bits
mask_small size = let m = mask_from_most word_bits 0 size in let z : 2 ^ 32 * (0 + 1) ≡ value_bound = refl in omega (arith, m, z)

-- a number that is no more than a mask has no bit outside it
pub and_within : (mask number : ℕ) → IsMask mask → number ≤ mask → bit_and number mask ≡ number
and_within mask number is le =
    let p = is.1.power in
    let m : mask ≡ 2 ^ is.0 - 1 = omega arith in
    ap (bit_and number) m ∙ and_mask number is.0 ∙ mod-eq_of_lt (let z : number < 2 ^ is.0 = omega arith in z)

-- ---- the loop that finds the mask

-- where a mask was found to be below the size or was doubled, it stays below the power of its turns
pub record MaskAt (size turns mask : ℕ) : Type 0 where
  pub same : mask_from (32 - turns) mask size ≡ mask_of size
  pub small : mask < 2 ^ turns
  pub few : turns ≤ 32

-- before the first turn the mask is 0
pub mask_begins : (size : ℕ) → MaskAt size 0 0
unfolding word_bits
mask_begins size = record { same = refl; small = let z : 0 < 2 ^ 0 = omega arith in z; few = omega arith }

-- a turn is one step of the definition
mask_step : (more mask size : ℕ) → mask_from (suc more) mask size ≡ mask_from more (if nat_le size mask then mask else 2 * mask + 1) size
unfolding mask_from
mask_step more mask size = refl

-- a power of two is twice the one before, as loops count
power_more : (k : ℕ) → 2 ^ (k + 1) ≡ 2 * 2 ^ k
power_more k = ap (λ (j : ℕ). 2 ^ j) (let z : k + 1 ≡ suc k = omega arith in z) ∙ power_suc k

-- a turn keeps what is left
pub mask_turns : {size turns mask after : ℕ} → MaskAt size turns mask → turns < 32 → after ≡ (if nat_le size mask then mask else 2 * mask + 1) → MaskAt size (turns + 1) after
mask_turns {size} {turns} {mask} at lt e =
    let one : 32 - turns ≡ suc (32 - (turns + 1)) = omega arith in
    record {
      same = subst (λ (m : ℕ). mask_from (32 - (turns + 1)) m size ≡ mask_of size) (sym e)
          (sym (mask_step (32 - (turns + 1)) mask size) ∙ subst (λ (k : ℕ). mask_from k mask size ≡ mask_of size) one at.same);
      small = subst (λ (m : ℕ). m < 2 ^ (turns + 1)) (sym e) (by_test (nat_le size mask));
      few = omega arith;
    }
  where
    by_test : (b : Bool) → cond b mask (2 * mask + 1) < 2 ^ (turns + 1)
    by_test true = let s = at.small in let p = power_more turns in omega (arith, s, p)
    by_test false = let s = at.small in let p = power_more turns in omega (arith, s, p)

-- a greater power of two is no smaller
power_rises : (a b : ℕ) → a ≤ b → 2 ^ a ≤ 2 ^ b
power_rises a b h = pow-le-pow_right (let z : 0 < 2 = omega arith in z) h

-- the mask is a word in each turn
pub mask_below : {size turns mask : ℕ} → MaskAt size turns mask → mask < value_bound
mask_below {turns} at =
    let p : 2 ^ turns ≤ 2 ^ 32 = power_rises turns 32 at.few in
    let s = at.small in
    let z : 2 ^ 32 ≡ value_bound = refl in
    omega (arith, p, s, z)

-- after all turns it is the mask of the size
pub mask_found : {size turns mask : ℕ} → MaskAt size turns mask → 32 ≤ turns → mask ≡ mask_of size
unfolding mask_from
mask_found {size} {turns} {mask} at h =
    let none : 32 - turns ≡ 0 = omega arith in
    subst (λ (k : ℕ). mask_from k mask size ≡ mask_of size) none at.same
