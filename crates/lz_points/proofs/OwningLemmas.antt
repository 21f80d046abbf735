-- The tags of a range, word by word.
use Rattle.std.proofs.Common.{◌≡◌, ℕ, suc, ◌+◌, ◌-◌, ◌/◌, ◌<◌, ◌≤◌, Bool, true, false, ◌&&◌, List, eqb, sym, ◌∙◌, ap, arith}
use Rattle.std.specs.Prelude.{slice_index}
use Rattle.std.proofs.lemmas.Bool.{eq-eqb}
use Rattle.lz_base.specs.Words.{value_bound}
use Rattle.lz_points.specs.Tags.{tag_of, all_tagged}

-- the first of what is left, and the rest
tagged_next : (tags : List ℕ) (tag first len k : ℕ) → k < len → all_tagged tags tag (first + k) (len - k) ≡ (eqb (tag_of tags (first + k)) tag && all_tagged tags tag (first + suc k) (len - suc k))
unfolding all_tagged
tagged_next tags tag first len k lt = ap (λ (n : ℕ). all_tagged tags tag (first + k) n) (let z : len - k ≡ suc (len - suc k) = omega (arith, lt) in z)
    ∙ ap (λ (w : ℕ). eqb (tag_of tags (first + k)) tag && all_tagged tags tag w (len - suc k)) (let z : suc (first + k) ≡ first + suc k = omega arith in z)

pub goes_on : (tags : List ℕ) (tag first len k : ℕ) → k < len → eqb (tag_of tags (first + k)) tag ≡ true → all_tagged tags tag (first + k) (len - k) ≡ all_tagged tags tag first len
    → all_tagged tags tag (first + suc k) (len - suc k) ≡ all_tagged tags tag first len
goes_on tags tag first len k lt e left = sym (tagged_next tags tag first len k lt ∙ ap (λ (b : Bool). b && all_tagged tags tag (first + suc k) (len - suc k)) e) ∙ left

pub stops : (tags : List ℕ) (tag first len k : ℕ) → k < len → eqb (tag_of tags (first + k)) tag ≡ false → all_tagged tags tag (first + k) (len - k) ≡ all_tagged tags tag first len → false ≡ all_tagged tags tag first len
stops tags tag first len k lt e left = sym (tagged_next tags tag first len k lt ∙ ap (λ (b : Bool). b && all_tagged tags tag (first + suc k) (len - suc k)) e) ∙ left

pub whole : (tags : List ℕ) (tag first len k : ℕ) → len ≤ k → all_tagged tags tag (first + k) (len - k) ≡ all_tagged tags tag first len → true ≡ all_tagged tags tag first len
unfolding all_tagged
whole tags tag first len k le left = sym (ap (λ (n : ℕ). all_tagged tags tag (first + k) n) (let z : len - k ≡ 0 = omega (arith, le) in z)) ∙ left

pub goes_on_next : (tags : List ℕ) (tag first len k : ℕ) → k < len → slice_index tags (first + k) / value_bound ≡ tag → all_tagged tags tag (first + k) (len - k) ≡ all_tagged tags tag first len
    → all_tagged tags tag (first + (k + 1)) (len - (k + 1)) ≡ all_tagged tags tag first len
goes_on_next tags tag first len k lt e left = ap (λ (n : ℕ). all_tagged tags tag (first + n) (len - n)) (let z : k + 1 ≡ suc k = omega arith in z) ∙ goes_on tags tag first len k lt (eq-eqb (tag_of tags (first + k)) tag e) left
