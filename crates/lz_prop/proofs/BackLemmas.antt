-- Going back keeps what holds of every trail.
use Rattle.std.proofs.Common.{◌≡◌, ◌≢◌, ℕ, zero, suc, ◌<◌, ◌≤◌, Bool, true, false, cond, ltb, leb, List, [], ◌∷◌, length, get_or, take, None, IsSome, refl, sym, ◌∙◌, ap, subst, arith}
use Rattle.std.specs.List.{All, AllPairs, filter}
use Rattle.std.proofs.lemmas.Bool.{ltb-true, leb-true, le-leb, false_from_ne_true, true≢false}
use Rattle.std.proofs.lemmas.List.{get_or-take}
use Rattle.std.proofs.lemmas.List.Elements.{All-filter, filter_passes}
use Rattle.std.proofs.lemmas.List.Kept.{AllPairs-filter}
use Rattle.lz_cnf.specs.declared.clause.Lit.{Lit}
use Rattle.lz_cnf.specs.Models.{variable_of}
use Rattle.lz_cnf.specs.Partial.{IsQuiet, IsOpen}
use Rattle.lz_prop.specs.Trail.{Entry, TrailState, IsTrail, HasReason, literals, at_decision, gone_back, WasOpen}
use Rattle.lz_prop.proofs.LitLemmas.{Contains-filter}

none_pass : {X : Type 0} (p : X → Bool) (xs : List X) → All (λ x. p x ≡ false) xs → filter p xs ≡ []
none_pass p [] all = refl
none_pass p (x ∷ xs) all =
    let here : p x ≡ false = all 0 x (omega arith) in
    let rest : filter p xs ≡ [] = none_pass p xs (λ k d lt. all (suc k) d (omega arith)) in
    ap (λ (b : Bool). cond b (x ∷ filter p xs) (filter p xs)) here ∙ rest

-- where what passes stands before what doesn't, a filter keeps a front
filter_head : {X : Type 0} (p : X → Bool) (x : X) (xs : List X) (b : Bool) → p x ≡ b → AllPairs (λ a b. p b ≡ true → p a ≡ true) (x ∷ xs)
    → filter p xs ≡ take (length (filter p xs)) xs
    → cond b (x ∷ filter p xs) (filter p xs) ≡ take (length (cond b (x ∷ filter p xs) (filter p xs))) (x ∷ xs)
filter_head p x xs true e pairs rest = ap (λ (ys : List _). x ∷ ys) rest
filter_head p x xs false e pairs rest =
    let none : filter p xs ≡ [] = none_pass p xs (λ k d lt. false_from_ne_true (p (get_or xs k d))
    (λ h. true≢false (sym (pairs 0 (suc k) d (omega arith) (omega arith) h) ∙ e))) in
    none ∙ ap (λ (ys : List _). take (length ys) (x ∷ xs)) (sym none)

filter_front : {X : Type 0} (p : X → Bool) (xs : List X) → AllPairs (λ a b. p b ≡ true → p a ≡ true) xs → filter p xs ≡ take (length (filter p xs)) xs
filter_front p [] pairs = refl
filter_front p (x ∷ xs) pairs =
    filter_head p x xs (p x) refl pairs (filter_front p xs (λ i j d lt within. pairs (suc i) (suc j) d (omega arith) (omega arith)))

take-take : {X : Type 0} (i n : ℕ) (xs : List X) → i ≤ n → take i (take n xs) ≡ take i xs
take-take zero n xs le = refl
take-take (suc i) zero xs le = absurd (omega (arith, le))
take-take (suc i) (suc n) [] le = refl
take-take (suc i) (suc n) (x ∷ xs) le = ap (λ (ys : List _). x ∷ ys) (take-take i n xs (omega arith))

filter_twice_at : {X : Type 0} (p q : X → Bool) (x : X) (xs : List X) (b c : Bool) → p x ≡ b → q x ≡ c → ((x : X) → q x ≡ true → p x ≡ true) → filter q (filter p xs) ≡ filter q xs
    → filter q (cond b (x ∷ filter p xs) (filter p xs)) ≡ cond c (x ∷ filter q xs) (filter q xs)
filter_twice_at p q x xs true c e f weaker rest =
    ap (λ (b : Bool). cond b (x ∷ filter q (filter p xs)) (filter q (filter p xs))) f ∙ ap (λ (ys : List _). cond c (x ∷ ys) ys) rest
filter_twice_at p q x xs false true e f weaker rest = absurd (true≢false (sym (weaker x f) ∙ e))
filter_twice_at p q x xs false false e f weaker rest = rest

pub filter_twice : {X : Type 0} (p q : X → Bool) (xs : List X) → ((x : X) → q x ≡ true → p x ≡ true) → filter q (filter p xs) ≡ filter q xs
filter_twice p q [] weaker = refl
filter_twice p q (x ∷ xs) weaker = filter_twice_at p q x xs (p x) (q x) refl refl weaker (filter_twice p q xs weaker)

-- a filter is no longer than its list
shorter_at : {X : Type 0} (x : X) (ys xs : List X) (b : Bool) → length ys ≤ length xs → length (cond b (x ∷ ys) ys) ≤ length (x ∷ xs)
shorter_at x ys xs true le = omega arith
shorter_at x ys xs false le = omega arith

pub filter_shorter : {X : Type 0} (p : X → Bool) (xs : List X) → length (filter p xs) ≤ length xs
filter_shorter p [] = omega arith
filter_shorter p (x ∷ xs) = shorter_at x (filter p xs) xs (p x) (filter_shorter p xs)

-- what was true at the decisions that are kept
pub at_decision-back : (s : TrailState) (low k : ℕ) → k < low → at_decision (suc k) (gone_back s low).set ≡ at_decision (suc k) s.set
at_decision-back s low k lt =
    ap literals (filter_twice (λ (e : Entry). leb e.level low) (λ (e : Entry). ltb e.level (suc k)) s.set
    (λ e h. let below = ltb-true e.level (suc k) h in le-leb e.level low (omega arith)))

-- the levels that are kept are a front of the order
pub back_is_front : (s : TrailState) (low : ℕ) → IsTrail s → (gone_back s low).set ≡ take (length (gone_back s low).set) s.set
back_is_front s low trail = filter_front (λ (e : Entry). leb e.level low) s.set
    (λ i j d lt within h. let rise = trail.rising i j d lt within in let le = leb-true (get_or s.set j d).level low h in le-leb (get_or s.set i d).level low (omega arith))

pub back_is_trail : (s : TrailState) (low : ℕ) → IsTrail s → low ≤ s.level → IsTrail (gone_back s low)
back_is_trail s low trail le =
    let p : Entry → Bool = λ e. leb e.level low in
    let front = back_is_front s low trail in
    record {
      formula = trail.formula;
      not_empty = trail.not_empty;
      known = All-filter p (λ x. variable_of x.lit < s.variables) s.set trail.known;
      apart = AllPairs-filter (λ (a b : Entry). variable_of a.lit ≢ variable_of b.lit) p s.set trail.apart;
      bounded = λ k d lt. leb-true (get_or (filter p s.set) k d).level low (filter_passes p s.set k d lt);
      rising = AllPairs-filter (λ (a b : Entry). a.level ≤ b.level) p s.set trail.rising;
      decisions = λ k lt. let old = trail.decisions k (omega arith) in let at = old.2 in
          (old.0, Contains-filter p s.set old.0 old.1 (le-leb old.0.level low (omega arith)), old.2, old.3);
      firsts = AllPairs-filter (λ (a b : Entry). b.reason ≡ None → a.level < b.level) p s.set trail.firsts;
      at_zero = All-filter p (λ x. x.level ≡ 0 → IsSome x.reason) s.set trail.at_zero;
      reasons = λ i d lt.
          let n = length (filter p s.set) in
          let same : get_or (filter p s.set) i d ≡ get_or s.set i d = ap (λ (xs : List Entry). get_or xs i d) front ∙ get_or-take n s.set i d lt in
          let before : take i (filter p s.set) ≡ take i s.set = ap (λ (xs : List Entry). take i xs) front ∙ take-take i n s.set (omega arith) in
          let within : i < length s.set = let short = filter_shorter p s.set in omega arith in
          subst (λ (x : Entry). HasReason s.clauses (take i (filter p s.set)) x) (sym same)
          (subst (λ (xs : List Entry). HasReason s.clauses xs (get_or s.set i d)) (sym before) (trail.reasons i d within));
      quiet = λ k lt. subst (λ (true_ : List Lit). IsQuiet true_ s.clauses) (sym (at_decision-back s low k lt)) (trail.quiet k (omega arith));
    }

-- what could be added at `low` can be added once the trail has gone back
pub open_after_back : (s : TrailState) (low : ℕ) (clause : List Lit) → WasOpen s low clause → WasOpen (gone_back s low) (gone_back s low).level clause
open_after_back s low clause was k lt = subst (λ (true_ : List Lit). IsOpen true_ clause) (sym (at_decision-back s low k lt)) (was k lt)
