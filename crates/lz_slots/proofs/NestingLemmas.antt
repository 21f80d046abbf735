-- Numbers of functions through their calls: they settle in the order of calls, function by function.
use Rattle.std.proofs.Common.{◌≡◌, ℕ, zero, suc, ◌+◌, ◌<◌, ◌≤◌, inl, inr, List, length, set, get_or-set_same, get_or-set_other, slice_index, refl, ap, sym, ◌∙◌, subst, arith}
use Rattle.std.proofs.lemmas.Bool.{cases_eq, cases_lt}
use Rattle.std.proofs.lemmas.List.{get_or_past}
use Rattle.std.proofs.lemmas.List.Elements.{All-contains}
use Rattle.lz_tree.specs.ScopedTrees.{ScopedDefinition}
use Rattle.lz_tree.specs.Calls.{statement_calls, body_at, StandsBefore, IsCallOrder}
use Rattle.lz_slots.specs.Nesting.{through_calls, saturated}
use Rattle.lz_base.proofs.ListLemmas.{Agree}

-- the functions that a function calls
abbrev pub calls_of : List ScopedDefinition → ℕ → List ℕ
calls_of functions f = statement_calls (body_at functions f)

-- A step owes to the numbers of functions only those that the function calls, and gives 0 for no function.
pub record IsLocal (functions : List ScopedDefinition) (step : (ℕ → ℕ) → ℕ → ℕ) : Type 0 where
  pub same : (f g : ℕ → ℕ) (x : ℕ) → Agree (λ n. n) f g (calls_of functions x) → step f x ≡ step g x
  pub alike : (f g : ℕ → ℕ) (x : ℕ) → Agree saturated f g (calls_of functions x) → saturated (step f x) ≡ saturated (step g x)
  pub beyond : (f : ℕ → ℕ) (x : ℕ) → length functions ≤ x → step f x ≡ 0

-- past the place of a function in the order its number is settled
settled : {functions : List ScopedDefinition} {order : List ℕ} {step : (ℕ → ℕ) → ℕ → ℕ} → IsCallOrder functions order → IsLocal functions step → (most i depth : ℕ) → i < most → i < depth → i < length order → through_calls step depth (slice_index order i) ≡ through_calls step (suc depth) (slice_index order i)
settled o l zero i depth low deep within = absurd (omega arith)
settled o l (suc most) i zero low deep within = absurd (omega arith)
settled {functions = functions} {order = order} {step = step} o l (suc most) i (suc depth) low deep within =
    l.same (through_calls step depth) (through_calls step (suc depth)) (slice_index order i) (record {
      at = λ y called.
          let stands : StandsBefore order i y = All-contains (StandsBefore order i) (calls_of functions (slice_index order i)) y (o.behind i within) called in
          let before : stands.0 < i = stands.1 in
          subst (λ (z : ℕ). through_calls step depth z ≡ through_calls step (suc depth) z) stands.2 (settled o l most stands.0 depth (omega arith) (omega arith) (omega arith));
    })

-- The numbers of the functions that stand before the place `i` of the order are known, up to the greatest.
pub record AreNumbers (order : List ℕ) (exact : ℕ → ℕ) (i : ℕ) (numbers : List ℕ) : Type 0 where
  pub known : (j : ℕ) → j < i → slice_index numbers (slice_index order j) ≡ saturated (exact (slice_index order j))

pub numbers_start : (order : List ℕ) (exact : ℕ → ℕ) (numbers : List ℕ) → AreNumbers order exact 0 numbers
numbers_start order exact numbers = record { known = λ j low. absurd (omega arith) }

saturated_twice : {a b c : ℕ} → a ≡ saturated b → c ≡ b → saturated a ≡ saturated c
saturated_twice one two = omega arith

-- from the numbers that are known, the next function's comes out right
worth : {functions : List ScopedDefinition} {order : List ℕ} {step : (ℕ → ℕ) → ℕ → ℕ} → IsCallOrder functions order → IsLocal functions step → (n i : ℕ) (numbers : List ℕ) → n ≡ length order → i < length order → AreNumbers order (through_calls step n) i numbers → saturated (step (slice_index numbers) (slice_index order i)) ≡ saturated (through_calls step n (slice_index order i))
worth o l zero i numbers count within known = absurd (omega arith)
worth {functions = functions} {order = order} {step = step} o l (suc n) i numbers count within known =
    l.alike (slice_index numbers) (through_calls step n) (slice_index order i) (record {
      at = λ y called.
          let stands : StandsBefore order i y = All-contains (StandsBefore order i) (calls_of functions (slice_index order i)) y (o.behind i within) called in
          let before : stands.0 < i = stands.1 in
          let steady : through_calls step n (slice_index order stands.0) ≡ through_calls step (suc n) (slice_index order stands.0) = settled o l (suc n) stands.0 n (omega arith) (omega arith) (omega arith) in
          subst (λ (z : ℕ). saturated (slice_index numbers z) ≡ saturated (through_calls step n z)) stands.2 (saturated_twice (known.known stands.0 before) steady);
    })

-- one turn
pub numbers_turn : {functions : List ScopedDefinition} {order : List ℕ} {step : (ℕ → ℕ) → ℕ → ℕ} → IsCallOrder functions order → IsLocal functions step → (i : ℕ) (numbers : List ℕ) (value : ℕ) → i < length order → slice_index order i < length numbers → value ≡ saturated (step (slice_index numbers) (slice_index order i)) → AreNumbers order (through_calls step (length functions)) i numbers → AreNumbers order (through_calls step (length functions)) (i + 1) (set numbers (slice_index order i) value)
numbers_turn {functions = functions} {order = order} {step = step} o l i numbers value within inside is known =
    let exact : ℕ → ℕ = through_calls step (length functions) in
    let right : value ≡ saturated (exact (slice_index order i)) = is ∙ worth o l (length functions) i numbers (sym o.whole) within known in
    record {
      known = λ j low.
          elim (cases_eq (slice_index order j) (slice_index order i)) [
            | inl same ↦ rw same (get_or-set_same numbers (slice_index order i) value 0 inside ∙ right)
            | inr other ↦
                get_or-set_other numbers (slice_index order i) (slice_index order j) value 0 other
                ∙ known.known j (elim (cases_eq j i) [ inl here ↦ absurd (other (ap (slice_index order) here)) | inr apart ↦ omega arith ])
          ];
    }

zero_past : {functions : List ScopedDefinition} {step : (ℕ → ℕ) → ℕ → ℕ} → IsLocal functions step → (n f : ℕ) → length functions ≤ f → through_calls step n f ≡ 0
zero_past l zero f past = refl
zero_past l (suc n) f past = l.beyond _ f past

-- at the end each number is known
pub numbers_end : {functions : List ScopedDefinition} {order : List ℕ} {step : (ℕ → ℕ) → ℕ → ℕ} → IsCallOrder functions order → IsLocal functions step → (i : ℕ) (numbers : List ℕ) → i ≡ length order → length numbers ≡ length functions → AreNumbers order (through_calls step (length functions)) i numbers → (f : ℕ) → slice_index numbers f ≡ saturated (through_calls step (length functions) f)
numbers_end {functions = functions} {order = order} {step = step} o l i numbers end count known f =
    elim (cases_lt f (length functions)) [
      | inl low ↦
          let stands : StandsBefore order (length order) f = o.all f low in
          let before : stands.0 < length order = stands.1 in
          subst (λ (z : ℕ). slice_index numbers z ≡ saturated (through_calls step (length functions) z)) stands.2 (known.known stands.0 (omega arith))
      | inr past ↦ get_or_past numbers f 0 (omega arith) ∙ ap saturated (sym (zero_past l (length functions) f past))
    ]

-- steps that stop alike give numbers that stop alike
pub through_alike : (step like : (ℕ → ℕ) → ℕ → ℕ) → ((f g : ℕ → ℕ) (x : ℕ) → ((y : ℕ) → saturated (f y) ≡ saturated (g y)) → saturated (step f x) ≡ saturated (like g x)) → (depth x : ℕ) → saturated (through_calls step depth x) ≡ saturated (through_calls like depth x)
through_alike step like each zero x = refl
through_alike step like each (suc depth) x = each (through_calls step depth) (through_calls like depth) x (λ y. through_alike step like each depth y)
