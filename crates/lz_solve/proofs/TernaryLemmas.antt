-- There are no more new steps than sets of literals over the variables.
use Rattle.std.proofs.Common.{◌≡◌, ◌≢◌, ℕ, zero, suc, ◌+◌, ◌-◌, ◌*◌, ◌%◌, ◌^◌, ◌<◌, ◌⊎◌, inl, inr, ⊎_elim, Bool, true, false, cond, eqb, List, [], ◌∷◌, length, get_or, take, map, refl, sym, ◌∙◌, ap, arith}
use Rattle.std.specs.List.{All, Contains, list_any}
use Rattle.std.proofs.lemmas.Bool.{cases_lt, cases_eq, cases_Bool, eqb-true, eqb-false, eq-eqb, ne_eqb, or_cases, or_left, or_right, true≢false}
use Rattle.std.proofs.lemmas.List.{length-map}
use Rattle.std.proofs.lemmas.List.Elements.{Contains-get_or}
use Rattle.std.proofs.lemmas.Map.Keys.{IsDistinct-from_apart}
use Rattle.std.proofs.lemmas.Map.Steps.{length-le_from_distinct_below}
use Rattle.std.proofs.Math.Nat.{pow-suc}
use Rattle.std.proofs.lemmas.List.{get_or-take, length-take-le}
use Rattle.std.proofs.lemmas.List.Elements.{Contains-append_right}
use Rattle.lz_cnf.specs.declared.clause.Lit.{Lit}
use Rattle.lz_cnf.specs.declared.clause.Cnf.{Cnf}
use Rattle.lz_log.specs.declared.log.LogStep.{LogStep}
use Rattle.lz_log.specs.Refutation.{AreByHints, IsByHints}
use Rattle.lz_log.specs.Newness.{IsNewStep}
use Rattle.lz_log.proofs.NewnessLemmas.{contains_none}
use Rattle.lz_prop.proofs.LitLemmas.{Contains-map}
use Rattle.std.proofs.lemmas.List.{get_or_default}
use Rattle.lz_log.proofs.RefutationLemmas.{by_hints_at}
use Rattle.lz_cnf.specs.Models.{variable_of, is_negated, negated}

has : List Lit → ℕ → Bool
has c n = list_any (λ l. eqb l.0 n) c

has_it : (c : List Lit) (l : Lit) → Contains c l → has c l.0 ≡ true
unfolding has
has_it [] l h = absurd (omega (arith, h.1))
has_it (x ∷ xs) l (zero, lt, e) = or_left (eqb x.0 l.0) (list_any (λ y. eqb y.0 l.0) xs) (eq-eqb x.0 l.0 (ap (λ (y : Lit). y.0) e))
has_it (x ∷ xs) l (suc k, lt, e) = or_right (eqb x.0 l.0) (list_any (λ y. eqb y.0 l.0) xs) (has_it xs l (k, omega arith, e))

it_has : (c : List Lit) (l : Lit) → has c l.0 ≡ true → Contains c l
unfolding has
it_has [] l h = absurd cc
it_has (x ∷ xs) l h = ⊎_elim
    (λ here. (0, omega arith, ap (λ (n : ℕ). let y : Lit = record { 0 = n } in y) (eqb-true x.0 l.0 here)))
    (λ there. let rest = it_has xs l there in (suc rest.0, omega (arith, rest.1), rest.2))
    (or_cases (eqb x.0 l.0) (list_any (λ y. eqb y.0 l.0) xs) h)

digit_of : Bool → Bool → ℕ
digit_of true b = 1
digit_of false true = 2
digit_of false false = 0

digit : List Lit → ℕ → ℕ
digit c i = digit_of (has c (2 * i)) (has c (2 * i + 1))

pub three : ℕ → ℕ
three zero = 1
three (suc v) = three v * 3

pub number : List Lit → ℕ → ℕ
number c zero = 0
number c (suc v) = number c v + digit c v * three v

small : (a b : Bool) → (digit_of a b ≡ 0) ⊎ ((digit_of a b ≡ 1) ⊎ (digit_of a b ≡ 2))
unfolding digit_of
small true b = inr (inl refl)
small false true = inr (inr refl)
small false false = inl refl

small_digit : (c : List Lit) (i : ℕ) → (digit c i ≡ 0) ⊎ ((digit c i ≡ 1) ⊎ (digit c i ≡ 2))
unfolding digit
small_digit c i = small (has c (2 * i)) (has c (2 * i + 1))

times : (a n t : ℕ) → a ≡ n → a * t ≡ n * t
times a n t e = ap (λ (m : ℕ). m * t) e

below_step : (n d t : ℕ) → n < t → (d ≡ 0) ⊎ ((d ≡ 1) ⊎ (d ≡ 2)) → n + d * t < t * 3
below_step n d t lt (inl e) = let p = times d 0 t e in omega (arith, p)
below_step n d t lt (inr (inl e)) = let p = times d 1 t e in omega (arith, p)
below_step n d t lt (inr (inr e)) = let p = times d 2 t e in omega (arith, p)

pub number_below : (c : List Lit) (v : ℕ) → number c v < three v
unfolding number three
number_below c zero = omega arith
number_below c (suc v) = below_step (number c v) (digit c v) (three v) (number_below c v) (small_digit c v)

same_step : (n m d e t : ℕ) → n < t → m < t → (d ≡ 0) ⊎ ((d ≡ 1) ⊎ (d ≡ 2)) → (e ≡ 0) ⊎ ((e ≡ 1) ⊎ (e ≡ 2)) → n + d * t ≡ m + e * t → (n ≡ m) × (d ≡ e)
same_step n m d e t ln lm (inl p) (inl q) h = let a = times d 0 t p in let b = times e 0 t q in (omega (arith, a, b), omega arith)
same_step n m d e t ln lm (inl p) (inr (inl q)) h = let a = times d 0 t p in let b = times e 1 t q in absurd (omega (arith, a, b))
same_step n m d e t ln lm (inl p) (inr (inr q)) h = let a = times d 0 t p in let b = times e 2 t q in absurd (omega (arith, a, b))
same_step n m d e t ln lm (inr (inl p)) (inl q) h = let a = times d 1 t p in let b = times e 0 t q in absurd (omega (arith, a, b))
same_step n m d e t ln lm (inr (inl p)) (inr (inl q)) h = let a = times d 1 t p in let b = times e 1 t q in (omega (arith, a, b), omega arith)
same_step n m d e t ln lm (inr (inl p)) (inr (inr q)) h = let a = times d 1 t p in let b = times e 2 t q in absurd (omega (arith, a, b))
same_step n m d e t ln lm (inr (inr p)) (inl q) h = let a = times d 2 t p in let b = times e 0 t q in absurd (omega (arith, a, b))
same_step n m d e t ln lm (inr (inr p)) (inr (inl q)) h = let a = times d 2 t p in let b = times e 1 t q in absurd (omega (arith, a, b))
same_step n m d e t ln lm (inr (inr p)) (inr (inr q)) h = let a = times d 2 t p in let b = times e 2 t q in (omega (arith, a, b), omega arith)

same_digits : (c d : List Lit) (v i : ℕ) → number c v ≡ number d v → i < v → digit c i ≡ digit d i
unfolding number
same_digits c d zero i h lt = absurd (omega (arith, lt))
same_digits c d (suc v) i h lt =
    let step = same_step (number c v) (number d v) (digit c v) (digit d v) (three v) (number_below c v) (number_below d v) (small_digit c v) (small_digit d v) h in
    elim (cases_lt i v) [
      | inl below ↦ same_digits c d v i step.0 below
      | inr above ↦ (let at : i ≡ v = omega arith in ap (λ (n : ℕ). digit c n) at ∙ step.1 ∙ ap (λ (n : ℕ). digit d n) (sym at))
    ]

-- what a digit says
first_digit : (a b : Bool) → a ≡ true → digit_of a b ≡ 1
unfolding digit_of
first_digit true b e = refl
first_digit false b e = absurd (true≢false (sym e))

second_digit : (a b : Bool) → a ≡ false → b ≡ true → digit_of a b ≡ 2
unfolding digit_of
second_digit true b e f = absurd (true≢false e)
second_digit false true e f = refl
second_digit false false e f = absurd (true≢false (sym f))

first_back : (a b : Bool) → digit_of a b ≡ 1 → a ≡ true
unfolding digit_of
first_back true b e = refl
first_back false true e = absurd (omega arith)
first_back false false e = absurd (omega arith)

second_back : (a b : Bool) → digit_of a b ≡ 2 → b ≡ true
unfolding digit_of
second_back true b e = absurd (omega arith)
second_back false true e = refl
second_back false false e = absurd (omega arith)

less_one : (n m : ℕ) → n ≡ m + 1 → n - 1 ≡ m
less_one n m e = omega arith

absent_from : (b : Bool) → (b ≡ true → ⊥) → b ≡ false
absent_from true h = absurd (h refl)
absent_from false h = refl

-- a clause without both signs of a variable, told apart by its digits: each literal of it stands in the other
pub within_from_number : (c d : List Lit) (v : ℕ) → number c v ≡ number d v → All (λ l. variable_of l < v) c → All (λ l. Contains c (negated l) → ⊥) c → All (Contains d) c
unfolding digit
within_from_number c d v same known one_sign k e lt =
    let l = get_or c k e in
    let i = variable_of l in
    let mine = has_it c l (Contains-get_or c k e lt) in
    let digits = same_digits c d v i same (known k e lt) in
    elim (cases_Bool (is_negated l)) [
      | inr even ↦
          (let is_even = eqb-false (l.0 % 2) 1 even in
          let at : l.0 ≡ 2 * i = omega (arith, is_even) in
          let here = first_digit (has c (2 * i)) (has c (2 * i + 1)) (ap (has c) (sym at) ∙ mine) in
          it_has d l (ap (has d) at ∙ first_back (has d (2 * i)) (has d (2 * i + 1)) (sym digits ∙ here)))
      | inl odd ↦
          (let is_odd = eqb-true (l.0 % 2) 1 odd in
          let at : l.0 ≡ 2 * i + 1 = omega (arith, is_odd) in
          let other : (negated l).0 ≡ 2 * i = ap (λ (b : Bool). cond b (l.0 - 1) (l.0 + 1)) odd ∙ less_one l.0 (2 * i) at in
          let absent : has c (2 * i) ≡ false = absent_from (has c (2 * i)) (λ h. one_sign k e lt (it_has c (negated l) (ap (has c) other ∙ h))) in
          let here = second_digit (has c (2 * i)) (has c (2 * i + 1)) absent (ap (has c) (sym at) ∙ mine) in
          it_has d l (ap (has d) at ∙ second_back (has d (2 * i)) (has d (2 * i + 1)) (sym digits ∙ here)))
    ]

differ : (numbers : List ℕ) → All (λ n. 0 < n) numbers → ((i j d : ℕ) → i < j → j < length numbers → get_or numbers i d ≡ get_or numbers j d → ⊥)
    → (i j d : ℕ) → i < j → j < length (0 ∷ numbers) → get_or (0 ∷ numbers) i d ≡ get_or (0 ∷ numbers) j d → ⊥
differ numbers positive apart i zero d lt within e = omega (arith, lt)
differ numbers positive apart zero (suc j) d lt within e = let p = positive j d (omega arith) in omega arith
differ numbers positive apart (suc i) (suc j) d lt within e = apart i j d (omega arith) (omega arith) e

any_of : (numbers : List ℕ) (n q : ℕ) → All (λ m. m < n) numbers → list_any (eqb q) numbers ≡ true → q < n
any_of [] n q all h = absurd cc
any_of (m ∷ ms) n q all h = ⊎_elim
    (λ here. let e = eqb-true q m here in let p = all 0 m (omega arith) in omega arith)
    (λ there. any_of ms n q (λ k d lt. all (suc k) d (omega arith)) there)
    (or_cases (eqb q m) (list_any (eqb q) ms) h)

-- numbers of different clauses, none of them 0, and 0 itself, are no more than the powers of 3
pub fewer_than_three : (numbers : List ℕ) (v : ℕ) → All (λ n. 0 < n) numbers → All (λ n. n < three v) numbers
    → ((i j d : ℕ) → i < j → j < length numbers → get_or numbers i d ≡ get_or numbers j d → ⊥) → length numbers < three v
fewer_than_three numbers v positive below apart =
    let distinct = IsDistinct-from_apart eqb (0 ∷ numbers) (λ i j d lt within. ne_eqb _ _ (differ numbers positive apart i j d lt within)) in
    let bound = length-le_from_distinct_below (0 ∷ numbers) (three v) distinct (λ q h. ⊎_elim
    (λ here. let e = eqb-true q 0 here in let p = number_below [] v in omega arith)
    (λ there. any_of numbers (three v) q below there)
    (or_cases (eqb q 0) (list_any (eqb q) numbers) h)) in
    omega arith

three_is : (v : ℕ) → three v ≡ 3 ^ v
unfolding three
three_is zero = refl
three_is (suc v) = ap (λ (n : ℕ). n * 3) (three_is v) ∙ sym (pow-suc 3 v)

number_nil : (v : ℕ) → number [] v ≡ 0
unfolding number digit digit_of has
number_nil zero = refl
number_nil (suc v) = let rest = number_nil v in omega arith

none_in_nil : (c : List Lit) → (c ≡ [] → ⊥) → All (Contains []) c → ⊥
none_in_nil [] some all = some refl
none_in_nil (x ∷ xs) some all = let here = all 0 x (omega arith) in omega (arith, here.1)

get_or_in_map : (f : LogStep → ℕ) (log : List LogStep) (i d : ℕ) (e : LogStep) → i < length log → get_or (map f log) i d ≡ f (get_or log i e)
get_or_in_map f [] i d e lt = absurd (omega (arith, lt))
get_or_in_map f (x ∷ xs) zero d e lt = refl
get_or_in_map f (x ∷ xs) (suc i) d e lt = get_or_in_map f xs i d e (omega arith)

-- a log of new steps that are by their hints and not empty has fewer steps than there are sets
pub steps_fewer : (formula : Cnf) (log : List LogStep) → AreByHints formula [] log
    → ((i : ℕ) (d : LogStep) → i < length log → IsNewStep formula (take i log) (get_or log i d))
    → All (λ s. s.clause ≢ []) log → length log < 3 ^ formula.variables
steps_fewer formula [] are new some = let p = number_below [] formula.variables in let e = three_is formula.variables in omega arith
steps_fewer formula (first ∷ rest) are new some =
    let log = first ∷ rest in
    let v = formula.variables in
    let f : LogStep → ℕ = λ s. number s.clause v in
    let at : (i : ℕ) → i < length log → IsByHints formula (take i log) (get_or log i first) = λ i lt. by_hints_at formula [] log i first are lt in
    let long = length-map log f in
    let read : (i d : ℕ) → i < length log → get_or (map f log) i d ≡ number (get_or log i first).clause v = λ i d lt. get_or_in_map f log i d first lt in
    let apart : (i j d : ℕ) → i < j → j < length (map f log) → get_or (map f log) i d ≡ get_or (map f log) j d → ⊥ = λ i j d lt within same.
    let lj : j < length log = omega arith in
    let a = get_or log i first in
    let b = get_or log j first in
    let numbers : number a.clause v ≡ number b.clause v = sym (read i d (omega arith)) ∙ same ∙ read j d lj in
    let by_ = at i (omega arith) in
    let short = length-take-le j log (omega arith) in
    let earlier : Contains (take j log) a = (i, omega arith, get_or-take j log i a lt ∙ get_or_default log i a first (omega arith)) in
    contains_none formula (take j log) b a.clause (new j first lj)
    (Contains-append_right formula.clauses (map (λ (s : LogStep). s.clause) (take j log)) a.clause (Contains-map (λ (s : LogStep). let c : List Lit = s.clause in c) (take j log) a earlier))
    (within_from_number a.clause b.clause v numbers by_.variables by_.one_sign) in
    let positive : All (λ n. 0 < n) (map f log) = λ k d lt.
    let lk : k < length log = omega arith in
    let by_ = at k lk in
    let c = (get_or log k first).clause in
    elim (cases_eq (number c v) 0) [
      | inl zero_ ↦ absurd (none_in_nil c (some k first lk) (within_from_number c [] v (zero_ ∙ sym (number_nil v)) by_.variables by_.one_sign))
      | inr ne ↦ (let r = read k d lk in omega (arith, ne))
    ] in
    let below : All (λ n. n < three v) (map f log) = λ k d lt.
    let lk : k < length log = omega arith in
    let r = read k d lk in let b = number_below (get_or log k first).clause v in omega arith in
    let bound = fewer_than_three (map f log) v positive below apart in
    let e = three_is v in
    omega arith
