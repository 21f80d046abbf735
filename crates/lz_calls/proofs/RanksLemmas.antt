-- Ranks: those by how many functions can be reached, what they say of calls, and orders by them.
use Rattle.std.proofs.Common.{◌≡◌, ℕ, zero, suc, ◌+◌, ◌<◌, ◌≤◌, ◌⊎◌, Bool, true, false, List, [], ◌∷◌, ◌++◌, length, get_or, slice_get, slice_index, slice_index_or, refl, sym, ap, ◌∙◌, subst, arith, inl, inr, All}
use Rattle.std.specs.List.{Contains, count_by}
use Rattle.std.specs.List.Sorted.{IsPermutation, IsNonDecreasingBy}
use Rattle.std.proofs.lemmas.Bool.{cases_lt, cases_eq, cases_Bool, false≢true}
use Rattle.std.proofs.lemmas.List.{get_or_past}
use Rattle.std.proofs.lemmas.List.Recursion.{is_count_by}
use Rattle.std.proofs.lemmas.List.Sorted.{length_permutation, All-permutation, Contains-permutation}
use Rattle.lz_tree.specs.Calls.{StandsBefore}
use Rattle.lz_calls.specs.Calls.{row, Calls, Path, Reaches}
use Rattle.lz_calls.specs.Reaching.{Among, IsReachedFrom, Marked, IsReach}
use Rattle.lz_calls.specs.Ranks.{ones, IsCount, IsRanking, IsRankOrder, IsFalling, AreLower}
use Rattle.lz_calls.proofs.ReachingLemmas.{calls_within}

pub ones-count_by : (marks : List Bool) → ones marks ≡ count_by (λ m. m) marks
ones-count_by marks = is_count_by ones (λ m. m) refl (λ x xs. refl) marks

pub count_made : (graph : List (List ℕ)) (f n : ℕ) (marks read : List Bool) → IsReach graph (f ∷ []) marks → read ≡ marks → n ≡ count_by (λ m. m) read → IsCount graph f n
count_made graph f n marks read is same counted = record { marks = marks; reached = is; counted = counted ∙ sym (ones-count_by read) ∙ ap ones same }

-- fewer marks are fewer
ones_le : (xs ys : List Bool) → length xs ≡ length ys → ((i : ℕ) → Marked xs i → Marked ys i) → ones xs ≤ ones ys
ones_le [] ys long sub = omega arith
ones_le (x ∷ xs) [] long sub = absurd (omega arith)
ones_le (true ∷ xs) (true ∷ ys) long sub = let rest = ones_le xs ys (omega arith) (λ i m. sub (suc i) m) in omega arith
ones_le (true ∷ xs) (false ∷ ys) long sub = absurd (false≢true (sub 0 refl))
ones_le (false ∷ xs) (true ∷ ys) long sub = let rest = ones_le xs ys (omega arith) (λ i m. sub (suc i) m) in omega arith
ones_le (false ∷ xs) (false ∷ ys) long sub = ones_le xs ys (omega arith) (λ i m. sub (suc i) m)

ones_lt : (xs ys : List Bool) (k : ℕ) → length xs ≡ length ys → ((i : ℕ) → Marked xs i → Marked ys i) → Marked ys k → slice_index_or xs k false ≡ false → ones xs < ones ys
ones_lt xs [] k long sub more less = absurd (false≢true more)
ones_lt [] (y ∷ ys) k long sub more less = absurd (omega arith)
ones_lt (true ∷ xs) (y ∷ ys) zero long sub more less = absurd (false≢true (sym less))
ones_lt (false ∷ xs) (true ∷ ys) zero long sub more less = let rest = ones_le xs ys (omega arith) (λ i m. sub (suc i) m) in omega arith
ones_lt (false ∷ xs) (false ∷ ys) zero long sub more less = absurd (false≢true more)
ones_lt (true ∷ xs) (true ∷ ys) (suc k) long sub more less = let rest = ones_lt xs ys k (omega arith) (λ i m. sub (suc i) m) more less in omega arith
ones_lt (true ∷ xs) (false ∷ ys) (suc k) long sub more less = absurd (false≢true (sub 0 refl))
ones_lt (false ∷ xs) (true ∷ ys) (suc k) long sub more less = let rest = ones_lt xs ys k (omega arith) (λ i m. sub (suc i) m) more less in omega arith
ones_lt (false ∷ xs) (false ∷ ys) (suc k) long sub more less = ones_lt xs ys k (omega arith) (λ i m. sub (suc i) m) more less

ones_positive : (xs : List Bool) (k : ℕ) → Marked xs k → 0 < ones xs
ones_positive [] k m = absurd (false≢true m)
ones_positive (true ∷ xs) k m = omega arith
ones_positive (false ∷ xs) zero m = absurd (false≢true m)
ones_positive (false ∷ xs) (suc k) m = ones_positive xs k m

-- one call before a path
prepend : (graph : List (List ℕ)) (f g : ℕ) → Calls graph f g → (n x : ℕ) → Path graph g x n → Path graph f x (suc n)
prepend graph f g c zero x path = (f, refl, subst (λ (y : ℕ). Calls graph f y) path c)
prepend graph f g c (suc n) x path = (path.0, prepend graph f g c n path.0 path.1, path.2)

from_one : (graph : List (List ℕ)) (f x : ℕ) → IsReachedFrom graph (f ∷ []) x → Reaches graph f x
from_one graph f x r = elim r.among [ inl e ↦ subst (λ (y : ℕ). Reaches graph y x) (sym e) r.path | inr none ↦ absurd none ]

to_one : (graph : List (List ℕ)) (f x : ℕ) → Reaches graph f x → IsReachedFrom graph (f ∷ []) x
to_one graph f x p = record { start = f; among = inl refl; path = p }

marked_within : (marks : List Bool) (x : ℕ) → Marked marks x → x < length marks
marked_within [] x m = absurd (false≢true m)
marked_within (b ∷ marks) zero m = omega arith
marked_within (b ∷ marks) (suc x) m = let low = marked_within marks x m in omega arith

-- what a called function reaches its caller reaches
fewer : (graph : List (List ℕ)) (f g : ℕ) (below above : List Bool) → Calls graph f g → IsReach graph (g ∷ []) below → IsReach graph (f ∷ []) above → (x : ℕ) → Marked below x → Marked above x
fewer graph f g below above c b a x m =
    let path : Reaches graph g x = from_one graph g x (b.sound x m) in
    let low : x < length below = marked_within below x m in
    let long : length below ≡ length graph = b.long in
    a.complete x (omega arith) (to_one graph f x (suc path.0, prepend graph f g c path.0 x path.1))

same_long : (graph : List (List ℕ)) (f g : ℕ) (below above : List Bool) → IsReach graph (g ∷ []) below → IsReach graph (f ∷ []) above → length below ≡ length above
same_long graph f g below above b a = b.long ∙ sym a.long

push_cases : (xs : List ℕ) (n x : ℕ) → x < length (xs ++ n ∷ []) → ((x < length xs) × (slice_index (xs ++ n ∷ []) x ≡ slice_index xs x)) ⊎ ((x ≡ length xs) × (slice_index (xs ++ n ∷ []) x ≡ n))
push_cases [] n zero low = inr (refl, refl)
push_cases [] n (suc x) low = absurd (omega arith)
push_cases (y ∷ xs) n zero low = inl (omega arith, refl)
push_cases (y ∷ xs) n (suc x) low = elim (push_cases xs n x (omega arith)) [ inl old ↦ inl (omega (arith, old.0), old.1) | inr new ↦ inr (ap suc new.0, new.1) ]

-- Ranks so far: each is how many functions can be reached.
pub record AreCounts (graph : List (List ℕ)) (ranks : List ℕ) : Type 0 where
  pub each : (f : ℕ) → f < length ranks → IsCount graph f (slice_index ranks f)

pub counts_start : (graph : List (List ℕ)) → AreCounts graph []
counts_start graph = record { each = λ f low. absurd (omega arith) }

pub counts_turn : (graph : List (List ℕ)) (ranks : List ℕ) (n f : ℕ) → f ≡ length ranks → AreCounts graph ranks → IsCount graph f n → AreCounts graph (ranks ++ n ∷ [])
counts_turn graph ranks n f at so_far one = record {
  each = λ x low.
      elim (push_cases ranks n x low) [
        | inl old ↦ subst (λ (y : ℕ). IsCount graph x y) (sym old.1) (so_far.each x old.0)
        | inr new ↦ subst (λ (y : ℕ). IsCount graph x y) (sym new.1) (subst (λ (y : ℕ). IsCount graph y n) (at ∙ sym new.0) one)
      ];
}

back_by_marks : (graph : List (List ℕ)) (f g p q : ℕ) → f < length graph → Calls graph f g → IsCount graph g p → IsCount graph f q → p ≡ q → Reaches graph g f
back_by_marks graph f g p q within c below above same =
    elim (cases_Bool (slice_index_or below.marks f false)) [
      | inl there ↦ from_one graph g f (below.reached.sound f there)
      | inr missing ↦
          let less : ones below.marks < ones above.marks =
          ones_lt below.marks above.marks f (same_long graph f g below.marks above.marks below.reached above.reached) (fewer graph f g below.marks above.marks c below.reached above.reached) (above.reached.complete f within (to_one graph f f (0, refl))) missing in
          absurd (omega (arith, less, same, below.counted, above.counted))
    ]

-- ranks by how many functions can be reached
pub ranking_made : (graph : List (List ℕ)) (ranks : List ℕ) → length ranks ≡ length graph → AreCounts graph ranks → IsRanking graph ranks
ranking_made graph ranks long counts = record {
  long = long;
  positive = λ f low.
      let own = counts.each f (omega arith) in
      let some = ones_positive own.marks f (own.reached.complete f low (to_one graph f f (0, refl))) in
      omega (arith, some, own.counted);
  falls = λ f g c.
      let within : f < length graph = calls_within graph f g c in
      let above = counts.each f (omega arith) in
      elim (cases_lt g (length ranks)) [
        | inl low ↦
            let below = counts.each g low in
            let le = ones_le below.marks above.marks (same_long graph f g below.marks above.marks below.reached above.reached) (fewer graph f g below.marks above.marks c below.reached above.reached) in
            omega (arith, le, below.counted, above.counted)
        | inr past ↦ omega (arith, get_or_past ranks g 0 past)
      ];
  back = λ f g c same.
      let within : f < length graph = calls_within graph f g c in
      let above = counts.each f (omega arith) in
      elim (cases_lt g (length ranks)) [
        | inl low ↦ back_by_marks graph f g (slice_index ranks g) (slice_index ranks f) within c (counts.each g low) above same
        | inr past ↦
            let some = ones_positive above.marks f (above.reached.complete f within (to_one graph f f (0, refl))) in
            absurd (omega (arith, some, above.counted, same, get_or_past ranks g 0 past))
      ];
}

-- no path leads to a higher rank
pub never_higher : (graph : List (List ℕ)) (ranks : List ℕ) → IsRanking graph ranks → (f g n : ℕ) → Path graph f g n → slice_index ranks g ≤ slice_index ranks f
never_higher graph ranks r f g zero path = omega (arith, ap (slice_index ranks) path)
never_higher graph ranks r f g (suc n) path = omega (arith, never_higher graph ranks r f path.0 n path.1, r.falls path.0 g path.2)

-- a call comes back exactly where it leads to the same rank
pub same_rank : (graph : List (List ℕ)) (ranks : List ℕ) → IsRanking graph ranks → (f g : ℕ) → Calls graph f g → Reaches graph g f → slice_index ranks g ≡ slice_index ranks f
same_rank graph ranks r f g c path = omega (arith, r.falls f g c, never_higher graph ranks r g f path.0 path.1)

-- ---- orders

-- The numbers from 0 up.
pub record AreNumbers (numbers : List ℕ) : Type 0 where
  pub each : (f : ℕ) → f < length numbers → slice_index numbers f ≡ f

pub numbers_start : AreNumbers []
numbers_start = record { each = λ f low. absurd (omega arith) }

pub numbers_turn : (numbers : List ℕ) (n : ℕ) → n ≡ length numbers → AreNumbers numbers → AreNumbers (numbers ++ n ∷ [])
numbers_turn numbers n at so_far = record {
  each = λ x low.
      elim (push_cases numbers n x low) [
        | inl old ↦ old.1 ∙ so_far.each x old.0
        | inr new ↦ new.1 ∙ at ∙ sym new.0
      ];
}

pub default : (xs : List ℕ) (k d e : ℕ) → k < length xs → slice_index_or xs k e ≡ slice_index_or xs k d
default [] k d e low = absurd (omega arith)
default (x ∷ xs) zero d e low = refl
default (x ∷ xs) (suc k) d e low = default xs k d e (omega arith)

numbers_below : (numbers : List ℕ) (count : ℕ) → length numbers ≡ count → AreNumbers numbers → All (λ f. f < count) numbers
numbers_below numbers count long each = λ k d low. omega (arith, default numbers k 0 d low, each.each k low)

stands : (order : List ℕ) (f : ℕ) → Contains order f → StandsBefore order (length order) f
stands order f c = (c.0, c.1, default order c.0 f 0 c.1 ∙ c.2)

pub order_made : (numbers order ranks : List ℕ) (count : ℕ) → length numbers ≡ count → AreNumbers numbers → IsPermutation numbers order → IsNonDecreasingBy (slice_index ranks) order → IsRankOrder count ranks order
order_made numbers order ranks count long each same sorted = record {
  whole = length_permutation numbers order same ∙ long;
  within = All-permutation (λ f. f < count) numbers order same (numbers_below numbers count long each);
  all = λ f low.
      let inside : f < length numbers = omega arith in
      stands order f (Contains-permutation numbers order f same (f, inside, default numbers f 0 f inside ∙ each.each f inside));
  rising = λ i j le low. sorted i j 0 le low;
}

-- ---- calls that lead to lower ranks

pub falling_start : (graph : List (List ℕ)) (ranks : List ℕ) (count : ℕ) → IsFalling graph ranks count 0
falling_start graph ranks count = record { each = λ f g low c. absurd (omega arith) }

at_own_place : (xs : List ℕ) (k x : ℕ) → k < length xs → slice_index_or xs k x ≡ x → slice_index xs k ≡ x
at_own_place xs k x low is = sym (default xs k 0 x low) ∙ is

-- one more function
pub falling_turn : (graph : List (List ℕ)) (ranks : List ℕ) (count f own : ℕ) (calls : List ℕ) → IsFalling graph ranks count f → calls ≡ row (slice_get graph f) → own ≡ slice_index ranks f → AreLower ranks own count calls → IsFalling graph ranks count (f + 1)
falling_turn graph ranks count f own calls so_far are is lower = record {
  each = λ x g low c.
      elim (cases_eq x f) [
        | inl e ↦
            let found : Contains calls g = subst (λ (r : List ℕ). Contains r g) (ap (λ y. row (slice_get graph y)) e ∙ sym are) c in
            let at : slice_index calls found.0 ≡ g = at_own_place calls found.0 g found.1 found.2 in
            let here = lower found.0 found.1 in
            (omega (arith, here.0, at), omega (arith, here.1, ap (slice_index ranks) at, is, ap (slice_index ranks) e))
        | inr other ↦ so_far.each x g (omega (arith, low, other)) c
      ];
}

-- a function whose calls are not all lower
pub not_falling : (graph : List (List ℕ)) (ranks : List ℕ) (count f own : ℕ) (calls : List ℕ) → f < count → calls ≡ row (slice_get graph f) → own ≡ slice_index ranks f → (AreLower ranks own count calls → ⊥) → IsFalling graph ranks count count → ⊥
not_falling graph ranks count f own calls low are is none falling =
    none (λ k here.
    let contained : Contains calls (slice_index calls k) = (k, here, default calls k 0 (slice_index calls k) here) in
    let found = falling.each f (slice_index calls k) low (subst (λ (r : List ℕ). Contains r (slice_index calls k)) are contained) in
    (found.0, omega (arith, found.1, is)))

-- ranks where each call leads to a lower one
pub ranking_by_falling : (graph : List (List ℕ)) (ranks : List ℕ) (count : ℕ) → count ≡ length graph → length ranks ≡ length graph → ((k : ℕ) → k < length ranks → 0 < slice_index ranks k) → IsFalling graph ranks count count → IsRanking graph ranks
ranking_by_falling graph ranks count whole long positive falling = record {
  long = long;
  positive = λ f low. positive f (omega (arith, low, long));
  falls = λ f g c. omega (arith, (falling.each f g (omega (arith, calls_within graph f g c, whole)) c).1);
  back = λ f g c same. absurd (omega (arith, same, (falling.each f g (omega (arith, calls_within graph f g c, whole)) c).1));
}
