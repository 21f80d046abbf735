-- Each call and each return makes a thread lighter: a function stands behind those that it calls.
use Rattle.std.proofs.Common.{◌≡◌, ℕ, zero, suc, ◌+◌, ◌*◌, ◌<◌, ◌≤◌, ◌⊎◌, inl, inr, true, false, List, [], ◌∷◌, length, get_or, slice_index, refl, sym, ◌∙◌, subst, arith, if◌then◌else◌, ◌==◌}
use Rattle.std.specs.List.{Contains}
use Rattle.std.proofs.lemmas.Nat.{mul-le}
use Rattle.std.proofs.lemmas.Bool.{cases_eq}
use Rattle.std.proofs.lemmas.List.Elements.{All-contains, All-get_or}
use Rattle.lz_tree.specs.Calls.{statement_calls, body_at, StandsBefore, IsCallOrder}
use Rattle.lz_tree.specs.ScopedTrees.{ScopedStatement, empty, ScopedDefinition, ScopedProgram}
use Rattle.lz_model.specs.Programs.{function_at}
use Rattle.lz_stations.specs.StatementNears.{statement_most, statement_left}
use Rattle.lz_machine.specs.Threads.{Frame}
use Rattle.lz_machine.specs.Weights.{place, most_of_all, weight_before, weight}

-- ---- places in the order

same_test : (x f : ℕ) → x ≡ f → (x == f) ≡ true
same_test x f e = grind (arith, e)

other_test : (x f : ℕ) → (x ≡ f → ⊥) → (x == f) ≡ false
other_test x f ne = grind (arith, ne)

place_head : (x : ℕ) (rest : List ℕ) (f : ℕ) → x ≡ f → place (x ∷ rest) f ≡ 0
place_head x rest f e = rw (same_test x f e) refl

place_tail : (x : ℕ) (rest : List ℕ) (f : ℕ) → (x ≡ f → ⊥) → place (x ∷ rest) f ≡ suc (place rest f)
place_tail x rest f ne = rw (other_test x f ne) refl

place_low : (order : List ℕ) (f j : ℕ) → j < length order → slice_index order j ≡ f → place order f ≤ j
place_low [] f j h e = absurd (omega (arith, h))
place_low (x ∷ rest) f zero h e = let is = place_head x rest f e in omega (arith, is)
place_low (x ∷ rest) f (suc j) h e = elim (cases_eq x f) [
  | inl same ↦ let is = place_head x rest f same in omega (arith, is)
  | inr other ↦ let is = place_tail x rest f other in let low = place_low rest f j (omega (arith, h)) e in omega (arith, is, low)
]

place_is : (order : List ℕ) (f j : ℕ) → j < length order → slice_index order j ≡ f → slice_index order (place order f) ≡ f
place_is [] f j h e = absurd (omega (arith, h))
place_is (x ∷ rest) f zero h e = subst (λ (k : ℕ). slice_index (x ∷ rest) k ≡ f) (sym (place_head x rest f e)) e
place_is (x ∷ rest) f (suc j) h e = elim (cases_eq x f) [
  | inl same ↦ subst (λ (k : ℕ). slice_index (x ∷ rest) k ≡ f) (sym (place_head x rest f same)) same
  | inr other ↦ subst (λ (k : ℕ). slice_index (x ∷ rest) k ≡ f) (sym (place_tail x rest f other)) (place_is rest f j (omega (arith, h)) e)
]

-- ---- calls

body_is : (p : ScopedProgram) (f : ℕ) → body_at p.functions f ≡ (function_at p f).body
body_is p f = by p.functions f
  where
    by : (ds : List ScopedDefinition) (f : ℕ) → body_at ds f ≡ (get_or ds f (record { start = false; locals = 0; params = []; gives = Rattle.std.proofs.Common.None; body = empty })).body
    by [] f = refl
    by (d ∷ rest) zero = refl
    by (d ∷ rest) (suc f) = by rest f

-- a function that is called is one of the program, and stands before its caller
pub called_before : (p : ScopedProgram) (order : List ℕ) → IsCallOrder p.functions order → (f g : ℕ) → f < length p.functions → Contains (statement_calls (function_at p f).body) g → (g < length p.functions) × (place order g < place order f)
called_before p order o f g h called =
    let stands = o.all f h in
    let here : slice_index order (place order f) ≡ f = place_is order f stands.0 stands.1 stands.2 in
    let low : place order f ≤ stands.0 = place_low order f stands.0 stands.1 stands.2 in
    let within : place order f < length order = omega (arith, low, stands.1) in
    let calls : Contains (statement_calls (body_at p.functions (slice_index order (place order f)))) g =
    subst (λ (k : ℕ). Contains (statement_calls (body_at p.functions k)) g) (sym here) (subst (λ (s : ScopedStatement). Contains (statement_calls s) g) (sym (body_is p f)) called) in
    let before = All-contains (StandsBefore order (place order f)) (statement_calls (body_at p.functions (slice_index order (place order f)))) g (o.behind (place order f) within) calls in
    let inside : before.0 < length order = omega (arith, before.1, within) in
    let less : place order g ≤ before.0 = place_low order g before.0 inside before.2 in
    let of : slice_index order before.0 < length p.functions = All-get_or (λ (f : ℕ). f < length p.functions) order before.0 0 inside o.within in
    (subst (λ (k : ℕ). k < length p.functions) before.2 of, omega (arith, less, before.1))

-- ---- weights

most_above : (n : ℕ) (ds : List ScopedDefinition) (i : ℕ) (d : ScopedDefinition) → i < length ds → statement_most n (get_or ds i d).body ≤ most_of_all n ds
most_above n [] i d h = absurd (omega (arith, h))
most_above n (x ∷ rest) zero d h = omega arith
most_above n (x ∷ rest) (suc i) d h = let low = most_above n rest i d (omega (arith, h)) in omega (arith, low)

-- what a call weighs of a function that stands before
before_heavy : (most j k : ℕ) → k < j → suc (most * suc (weight_before most k)) ≤ weight_before most j
before_heavy most zero k h = absurd (omega (arith, h))
before_heavy most (suc j) k h = elim (cases_eq k j) [
  | inl e ↦ subst (λ (x : ℕ). suc (most * suc (weight_before most x)) ≤ weight_before most (suc j)) (sym e) (last (weight_before most j) (suc (most * suc (weight_before most j))))
  | inr ne ↦ let low = before_heavy most j k (omega (arith, h, ne)) in above (suc (most * suc (weight_before most k))) (weight_before most j) (suc (most * suc (weight_before most j))) low
]
  where
    last : (a b : ℕ) → b ≤ a + b
    last a b = omega arith

    above : (x a b : ℕ) → x ≤ a → x ≤ a + b
    above x a b h = omega (arith, h)

-- a caller that has fewer calls left, and the call that begins, weigh less than it did
lighter_sum : (one half less more callee own rest heavy : ℕ) → less < more → half ≡ less * suc own → one ≡ more * suc own → suc callee ≤ own → suc less * suc own ≤ more * suc own → suc less * suc own ≡ suc own + less * suc own → suc callee + (suc half + rest) < suc one + rest
lighter_sum one half less more callee own rest heavy h e f low times split = omega (arith, h, e, f, low, times, split)

suc_times : (a b : ℕ) → suc a * b ≡ b + a * b
suc_times a b = grind arith

pub call_lighter : (p : ScopedProgram) (order : List ℕ) (n less : ℕ) (frame next : Frame) (callee : Frame) (callers : List Frame) → IsCallOrder p.functions order → frame.function < length p.functions
    → next.function ≡ frame.function → Contains (statement_calls (function_at p frame.function).body) callee.function
    → statement_left n callee.footing (function_at p callee.function).body ≡ statement_most n (function_at p callee.function).body
    → statement_left n next.footing (function_at p frame.function).body < statement_left n frame.footing (function_at p frame.function).body
    → weight p order n (callee ∷ next ∷ callers) < weight p order n (frame ∷ callers)
call_lighter p order n less frame next callee callers o h same called starts falls =
    let most = most_of_all n p.functions in
    let before = called_before p order o frame.function callee.function h called in
    let own = weight_before most (place order frame.function) in
    let inner = weight_before most (place order callee.function) in
    let top : statement_most n (function_at p callee.function).body ≤ most = most_above n p.functions callee.function _ before.0 in
    let product : statement_left n callee.footing (function_at p callee.function).body * suc inner ≤ most * suc inner = mul-le _ _ _ _ (subst (λ (x : ℕ). x ≤ most) (sym starts) top) (omega arith) in
    let low : suc (most * suc inner) ≤ own = before_heavy most (place order frame.function) (place order callee.function) before.1 in
    let left = statement_left n next.footing (function_at p frame.function).body in
    let was = statement_left n frame.footing (function_at p frame.function).body in
    let times : suc left * suc own ≤ was * suc own = mul-le _ _ _ _ (omega (arith, falls)) (omega arith) in
    let under : suc (statement_left n callee.footing (function_at p callee.function).body * suc inner) ≤ own = up product low in
    let sum = lighter_sum (was * suc own) (left * suc own) left was (statement_left n callee.footing (function_at p callee.function).body * suc inner) own (weight p order n callers) 0 falls refl refl under times (suc_times left (suc own)) in
    subst (λ (f : ℕ). suc (statement_left n callee.footing (function_at p callee.function).body * suc inner) + (suc (statement_left n next.footing (function_at p f).body * suc (weight_before most (place order f))) + weight p order n callers) < suc (was * suc own) + weight p order n callers) (sym same) sum
  where
    up : {a b c : ℕ} → a ≤ b → suc b ≤ c → suc a ≤ c
    up h k = omega (arith, h, k)

pub return_lighter : (p : ScopedProgram) (order : List ℕ) (n : ℕ) (frame : Frame) (callers : List Frame) → weight p order n callers < weight p order n (frame ∷ callers)
return_lighter p order n frame callers = by (statement_left n frame.footing (function_at p frame.function).body * suc (weight_before (most_of_all n p.functions) (place order frame.function))) (weight p order n callers)
  where
    by : (a b : ℕ) → b < suc a + b
    by a b = omega arith
