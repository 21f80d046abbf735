-- A search by marks: what is marked can be reached, and once no work is left all that can be reached is marked.
use Rattle.std.proofs.Common.{◌≡◌, ℕ, zero, suc, ◌+◌, ◌*◌, ◌<◌, ◌≤◌, ◌⊎◌, Bool, true, false, List, [], ◌∷◌, ◌++◌, length, drop, replicate, get_or, slice_get, slice_index_or, slice_set, refl, sym, ap, ◌∙◌, subst, arith, inl, inr, drop-cons}
use Rattle.std.specs.List.{Contains}
use Rattle.std.proofs.lemmas.Bool.{cases_lt, false≢true}
use Rattle.std.proofs.lemmas.List.{length_push}
use Rattle.std.proofs.lemmas.Option.{slice_get_past}
use Rattle.lz_base.proofs.ListLemmas.{none_contained}
use Rattle.lz_calls.specs.Calls.{row, Calls, Path, Reaches}
use Rattle.lz_calls.specs.Reaching.{Among, IsReachedFrom, Marked, open_ones, work_left, Marks, Search, Looking, IsReach}

-- what calls something is a function
pub calls_within : (graph : List (List ℕ)) (f g : ℕ) → Calls graph f g → f < length graph
calls_within graph f g c =
    elim (cases_lt f (length graph)) [
      | inl low ↦ low
      | inr past ↦ absurd (none_contained g (subst (λ r. Contains (row r) g) (slice_get_past graph f past) c))
    ]

-- what stands in a list, by its place
pub among_contains : (xs : List ℕ) (y : ℕ) → Among xs y → Contains xs y
among_contains [] y h = elim h [ ]
among_contains (x ∷ xs) y (inl e) = (0, omega arith, e)
among_contains (x ∷ xs) y (inr h) = let at = among_contains xs y h in (suc at.0, omega (arith, at.1), at.2)

among_at : (xs : List ℕ) (k y : ℕ) → k < length xs → slice_index_or xs k y ≡ y → Among xs y
among_at [] k y low is = absurd (omega arith)
among_at (x ∷ xs) zero y low is = inl is
among_at (x ∷ xs) (suc k) y low is = inr (among_at xs k y (omega arith) is)

-- and back
pub contains_among : (xs : List ℕ) (y : ℕ) → Contains xs y → Among xs y
contains_among xs y c = among_at xs c.0 y c.1 c.2

pub among_push : (xs : List ℕ) (x y : ℕ) → Among xs y → Among (xs ++ x ∷ []) y
among_push [] x y h = elim h [ ]
among_push (z ∷ xs) x y (inl e) = inl e
among_push (z ∷ xs) x y (inr h) = inr (among_push xs x y h)

pub among_last : (xs : List ℕ) (x : ℕ) → Among (xs ++ x ∷ []) x
among_last [] x = inl refl
among_last (z ∷ xs) x = inr (among_last xs x)

pub among_either : (xs : List ℕ) (x y : ℕ) → Among (xs ++ x ∷ []) y → Among xs y ⊎ (x ≡ y)
among_either [] x y (inl e) = inr e
among_either [] x y (inr h) = elim h [ ]
among_either (z ∷ xs) x y (inl e) = inl (inl e)
among_either (z ∷ xs) x y (inr h) = elim (among_either xs x y h) [ inl a ↦ inl (inr a) | inr b ↦ inr b ]

module _ (graph : List (List ℕ)) (starts : List ℕ) where
  -- one more call
  further : (f g : ℕ) → IsReachedFrom graph starts f → Calls graph f g → IsReachedFrom graph starts g
  further f g r c = record { start = r.start; among = r.among; path = (suc r.path.0, (f, r.path.1, c)) }

  begin : (s : ℕ) → Among starts s → IsReachedFrom graph starts s
  begin s a = record { start = s; among = a; path = (0, refl) }

  -- before the first
  pub search_start : (marks : List Bool) → length marks ≡ length graph → ((f : ℕ) → Marked marks f → ⊥) → Search graph starts starts marks []
  search_start marks long none = record {
    sound = λ f marked. absurd (none f marked);
    closed = λ f g marked c low. absurd (none f marked);
    begun = λ s a low. inr a;
    working = λ f a. absurd a;
    subset = λ s a. a;
    long = long;
  }

  -- a start is marked
  pub start_marked : (todo : List ℕ) (s : ℕ) (old new : List Bool) (before work : List ℕ) → Search graph starts (s ∷ todo) old before → Marks s old before new work → Search graph starts todo new work
  start_marked todo s old new before work h m = record {
    sound = λ f marked. elim (m.only f marked) [ inl was ↦ h.sound f was | inr now ↦ subst (λ (x : ℕ). IsReachedFrom graph starts x) (sym now.0) (begin s (h.subset s (inl refl))) ];
    closed = λ f g marked c low.
        elim (m.only f marked) [
          | inl was ↦ elim (h.closed f g was c low) [ inl x ↦ inl (m.stays g x) | inr y ↦ inr (m.waits f y) ]
          | inr now ↦ inr now.1
        ];
    begun = λ t b low.
        elim (h.begun t b low) [
          | inl x ↦ inl (m.stays t x)
          | inr y ↦ elim y [
            | inl e ↦
                let long : length old ≡ length graph = h.long in
                let within : s < length old = omega (arith, e, low, long) in
                inl (subst (λ (x : ℕ). Marked new x) e (m.is within))
            | inr z ↦ inr z
          ]
        ];
    working = λ g b. elim (m.adds g b) [ inl x ↦ m.stays g (h.working g x) | inr e ↦ e.1 ];
    subset = λ t b. h.subset t (inr b);
    long = m.long ∙ h.long;
  }

  -- one is taken from the work
  pub taken : (f : ℕ) (row : List ℕ) (marks : List Bool) (work : List ℕ) → Search graph starts [] marks (work ++ f ∷ []) → ((g : ℕ) → Among row g → Calls graph f g) → ((g : ℕ) → Calls graph f g → Among row g)
      → Looking graph starts f row marks work
  taken f row marks work h to from = record {
    sound = h.sound;
    closed = λ a g m c low.
        elim (h.closed a g m c low) [
          | inl x ↦ inl x
          | inr y ↦ elim (among_either work f a y) [ inl z ↦ inr (inl z) | inr e ↦ inr (inr (sym e, from g (subst (λ (x : ℕ). Calls graph x g) (sym e) c))) ]
        ];
    begun = λ s b low. elim (h.begun s b low) [ inl x ↦ x | inr y ↦ absurd y ];
    there = h.working f (among_last work f);
    working = λ g b. h.working g (among_push work f g b);
    subset = to;
    long = h.long;
  }

  -- one of its calls is marked
  pub looked : (f g : ℕ) (todo : List ℕ) (old new : List Bool) (before work : List ℕ) → Looking graph starts f (g ∷ todo) old before → Marks g old before new work → Looking graph starts f todo new work
  looked f g todo old new before work h m = record {
    sound = λ a marked.
        elim (m.only a marked) [
          | inl was ↦ h.sound a was
          | inr now ↦ subst (λ (x : ℕ). IsReachedFrom graph starts x) (sym now.0) (further f g (h.sound f h.there) (h.subset g (inl refl)))
        ];
    closed = λ a b marked c low.
        elim (m.only a marked) [
          | inl was ↦ elim (h.closed a b was c low) [
            | inl x ↦ inl (m.stays b x)
            | inr y ↦ elim y [
              | inl z ↦ inr (inl (m.waits a z))
              | inr p ↦ elim p.1 [
                | inl e ↦
                    let long : length old ≡ length graph = h.long in
                    let within : g < length old = omega (arith, e, low, long) in
                    inl (subst (λ (x : ℕ). Marked new x) e (m.is within))
                | inr z ↦ inr (inr (p.0, z))
              ]
            ]
          ]
          | inr now ↦ inr (inl now.1)
        ];
    begun = λ s b low. m.stays s (h.begun s b low);
    there = m.stays f h.there;
    working = λ a b. elim (m.adds a b) [ inl x ↦ m.stays a (h.working a x) | inr e ↦ e.1 ];
    subset = λ x among. h.subset x (inr among);
    long = m.long ∙ h.long;
  }

  pub all_looked : (f : ℕ) (marks : List Bool) (work : List ℕ) → Looking graph starts f [] marks work → Search graph starts [] marks work
  all_looked f marks work h = record {
    sound = h.sound;
    closed = λ a g m c low. elim (h.closed a g m c low) [ inl x ↦ inl x | inr y ↦ elim y [ inl z ↦ inr z | inr p ↦ absurd p.1 ] ];
    begun = λ s b low. inl (h.begun s b low);
    working = h.working;
    subset = λ s a. absurd a;
    long = h.long;
  }

  -- no work is left
  along : (marks : List Bool) → Search graph starts [] marks [] → (s : ℕ) → Among starts s → (n f : ℕ) → f < length graph → Path graph s f n → Marked marks f
  along marks h s a zero f low path =
      let within : s < length graph = subst (λ (x : ℕ). x < length graph) (sym path) low in
      subst (λ (x : ℕ). Marked marks x) path (elim (h.begun s a within) [ inl x ↦ x | inr y ↦ absurd y ])
  along marks h s a (suc n) f low path =
      elim (h.closed path.0 f (along marks h s a n path.0 (calls_within graph path.0 f path.2) path.1) path.2 low) [ inl x ↦ x | inr y ↦ absurd y ]

  pub all_marked : (marks : List Bool) → Search graph starts [] marks [] → IsReach graph starts marks
  all_marked marks h = record {
    long = h.long;
    sound = h.sound;
    complete = λ f low r. along marks h r.start r.among r.path.0 f low r.path.1;
  }

-- in a list of no marks nothing is marked
pub no_marks : (n f : ℕ) → Marked (replicate n false) f → ⊥
no_marks zero f m = absurd (false≢true m)
no_marks (suc n) zero m = absurd (false≢true m)
no_marks (suc n) (suc f) m = no_marks n f m

-- a mark is set
pub open_set : (marks : List Bool) (f : ℕ) → f < length marks → slice_index_or marks f false ≡ false → suc (open_ones (slice_set marks f true)) ≡ open_ones marks
open_set [] f below e = absurd (omega arith)
open_set (true ∷ marks) zero below e = absurd cc
open_set (false ∷ marks) zero below e = refl
open_set (true ∷ marks) (suc f) below e = open_set marks f (omega arith) e
open_set (false ∷ marks) (suc f) below e = ap suc (open_set marks f (omega arith) e)

set_is : (marks : List Bool) (f : ℕ) → f < length marks → Marked (slice_set marks f true) f
set_is [] f below = absurd (omega arith)
set_is (m ∷ marks) zero below = refl
set_is (m ∷ marks) (suc f) below = set_is marks f (omega arith)

set_stays : (marks : List Bool) (f g : ℕ) → Marked marks g → Marked (slice_set marks f true) g
set_stays [] f g h = h
set_stays (m ∷ marks) zero zero h = refl
set_stays (m ∷ marks) zero (suc g) h = h
set_stays (m ∷ marks) (suc f) zero h = h
set_stays (m ∷ marks) (suc f) (suc g) h = set_stays marks f g h

set_only : (marks : List Bool) (f g : ℕ) → Marked (slice_set marks f true) g → Marked marks g ⊎ (g ≡ f)
set_only [] f g h = inl h
set_only (m ∷ marks) zero zero h = inr refl
set_only (m ∷ marks) zero (suc g) h = inl h
set_only (m ∷ marks) (suc f) zero h = inl h
set_only (m ∷ marks) (suc f) (suc g) h = elim (set_only marks f g h) [ inl a ↦ inl a | inr e ↦ inr (ap suc e) ]

set_long : (marks : List Bool) (f : ℕ) → length (slice_set marks f true) ≡ length marks
set_long [] f = refl
set_long (m ∷ marks) zero = refl
set_long (m ∷ marks) (suc f) = ap suc (set_long marks f)

pub marks_set : (marks : List Bool) (work : List ℕ) (f : ℕ) → f < length marks → slice_index_or marks f false ≡ false → Marks f marks work (slice_set marks f true) (work ++ f ∷ [])
marks_set marks work f below unmarked = record {
  is = λ low. set_is marks f below;
  stays = λ g h. set_stays marks f g h;
  only = λ g h. elim (set_only marks f g h) [ inl a ↦ inl a | inr e ↦ inr (e, subst (λ (x : ℕ). Among (work ++ f ∷ []) x) (sym e) (among_last work f)) ];
  waits = λ g h. among_push work f g h;
  adds = λ g h.
      elim (among_either work f g h) [
        | inl a ↦ inl a
        | inr e ↦ inr (sym e, subst (λ (x : ℕ). Marked (slice_set marks f true) x) e (set_is marks f below))
      ];
  less = (let a = open_set marks f below unmarked in let b = length_push work f in omega arith);
  long = set_long marks f;
}

-- nothing is marked that stands so already
pub marks_same : (marks : List Bool) (work : List ℕ) (f : ℕ) → (f < length marks → Marked marks f) → Marks f marks work marks work
marks_same marks work f there = record {
  is = there;
  stays = λ g h. h;
  only = λ g h. inl h;
  waits = λ g h. h;
  adds = λ g h. inl h;
  less = omega arith;
  long = refl;
}

pub popped_less : (marks : List Bool) (work : List ℕ) (f : ℕ) → suc (work_left marks work) ≡ work_left marks (work ++ f ∷ [])
popped_less marks work f = let b = length_push work f in omega arith

pub drop_at : (xs : List ℕ) (i : ℕ) → i < length xs → drop i xs ≡ slice_index_or xs i 0 ∷ drop (i + 1) xs
drop_at xs i below = let more : suc i ≡ i + 1 = omega arith in drop-cons xs i 0 below ∙ rw more refl

pub in_row : (graph : List (List ℕ)) (f : ℕ) (items : List ℕ) → items ≡ row (slice_get graph f) → (g : ℕ) → Among items g → Calls graph f g
in_row graph f items e g a = among_contains (row (slice_get graph f)) g (subst (λ (r : List ℕ). Among r g) e a)

pub from_row : (graph : List (List ℕ)) (f : ℕ) (items : List ℕ) → items ≡ row (slice_get graph f) → (g : ℕ) → Calls graph f g → Among items g
from_row graph f items e g c = subst (λ (r : List ℕ). Among r g) (sym e) (contains_among (row (slice_get graph f)) g c)

pub read_mark : (marks : List Bool) (f : ℕ) (b c : Bool) → f < length marks → b ≡ get_or marks f b → b ≡ c → slice_index_or marks f false ≡ c
read_mark [] f b c below e is = absurd (omega arith)
read_mark (m ∷ marks) zero b c below e is = sym e ∙ is
read_mark (m ∷ marks) (suc f) b c below e is = read_mark marks f b c (omega arith) e is
