-- A gate: one new variable whose clauses hold exactly where it has the gate's value.
use Rattle.std.proofs.Common.{◌≡◌, ℕ, ◌+◌, ◌*◌, ◌/◌, ◌%◌, Bool, true, false, not, cond, eqb, List, ◌++◌, refl, sym, ◌∙◌, ap, arith}
use Rattle.std.proofs.lemmas.Bool.Decides.{nat_tests}
use Rattle.lz_cnf.specs.declared.clause.Lit.{Lit}
use Rattle.lz_cnf.specs.Models.{variable_of, is_negated, negated}
use Rattle.lz_cnf.proofs.LitLemmas.{is_negated-negated}
pub use Rattle.lz_cnf.proofs.LitLemmas.{variable_of-negated}
use Rattle.lz_gates.specs.Circuits.{Circuit, Assignment, value, Satisfies, Agree, AreBelow, Extends}

-- a value in the other sign is the opposite
cond-not : (b v : Bool) → cond (not b) (not v) v ≡ not (cond b (not v) v)
cond-not true true = refl
cond-not true false = refl
cond-not false true = refl
cond-not false false = refl

-- the opposite literal has the opposite value
pub value-negated : (a : Assignment) (lit : Lit) → value a (negated lit) ≡ not (value a lit)
unfolding value
value-negated a lit =
    ap (λ (x : ℕ). cond (is_negated (negated lit)) (not (a x)) (a x)) (variable_of-negated lit)
    ∙ ap (λ (b : Bool). cond b (not (a (variable_of lit))) (a (variable_of lit))) (is_negated-negated lit)
    ∙ cond-not (is_negated lit) (a (variable_of lit))

-- the literal of a variable without a sign
pub positive : ℕ → Lit
positive n = record { 0 = 2 * n }

-- its variable
pub variable_of-positive : (lit : Lit) (n : ℕ) → lit.0 ≡ 2 * n → variable_of lit ≡ n
variable_of-positive lit n e = omega arith

-- its value is its variable's
pub value-positive : (a : Assignment) (lit : Lit) (n : ℕ) → lit.0 ≡ 2 * n → value a lit ≡ a n
unfolding value
value-positive a lit n e =
    let even : lit.0 % 2 ≡ 0 = omega arith in
    let half : lit.0 / 2 ≡ n = omega arith in
    ap (λ (r : ℕ). cond (eqb r 1) (not (a (variable_of lit))) (a (variable_of lit))) even
    ∙ ap a half

-- the assignment with another value at n
abbrev pub put : Assignment → ℕ → Bool → Assignment
put a n v x = cond (eqb x n) v (a x)

-- it has that value there
pub put_same : (a : Assignment) (n : ℕ) (v : Bool) → put a n v n ≡ v
put_same a n v = grind (arith, nat_tests)

-- and agrees below
pub put_below : (a : Assignment) (n : ℕ) (v : Bool) → Agree n a (put a n v)
unfolding Agree
put_below a n v x lt = grind (arith, nat_tests)

-- two that agree below n and at n agree below n + 1
pub agree_one : (n m : ℕ) (a b : Assignment) → m ≡ n + 1 → Agree n a b → a n ≡ b n → Agree m a b
unfolding Agree
agree_one n m a b e h here x lt = grind arith

-- the clauses hold exactly where the new variable has the value v, which older variables settle
pub extends_by_value : (old new : Circuit) (added : List (List Lit)) (v : Assignment → Bool)
    → new.variables ≡ old.variables + 1 → new.clauses ≡ old.clauses ++ added → AreBelow new.variables added
    → ((a b : Assignment) → Agree old.variables a b → v a ≡ v b)
    → ((a : Assignment) → a old.variables ≡ v a → Satisfies a added)
    → ((a : Assignment) → Satisfies a added → a old.variables ≡ v a)
    → new.spent ≡ old.spent
    → Extends old new
extends_by_value old new added v e clauses below settled holds only working = record {
  added = added;
  more = omega arith;
  clauses = clauses;
  below = below;
  extended = λ a.
      let n = old.variables in
      let b : Assignment = put a n (v a) in
      let same : Agree n a b = put_below a n (v a) in
      (b, same, holds b (put_same a n (v a) ∙ settled a b same));
  once = λ a b same s t. agree_one old.variables new.variables a b e same (only a s ∙ settled a b same ∙ sym (only b t));
  working = working;
}

-- a circuit that was not spent is as it was where it is not spent now
pub still_working : (old new : Bool) → (old ≡ true → false ≡ true) → new ≡ false → new ≡ old
still_working true new h e = let f = h refl in absurd cc
still_working false new h e = e

-- a variable alone: free, so no call of this kind is Extends
