-- The literals that a truth test depends on.
use Rattle.std.proofs.Common.{◌≡◌, ℕ, zero, suc, ◌+◌, ◌<◌, ◌≤◌, Bool, true, false, not, ◌||◌, cond, eqb, List, [], ◌∷◌, ◌++◌, length, get_or, take, refl, sym, ◌∙◌, ap, subst, arith}
use Rattle.std.proofs.Math.Bool.{or-false, or-true, or_assoc}
use Rattle.std.proofs.lemmas.Bool.{eqb-true}
use Rattle.std.proofs.lemmas.List.{take_more, take_all, length_push, get_or_push, get_or_append_left}
use Rattle.std.proofs.lemmas.List.Elements.{All-push}
use Rattle.lz_cnf.specs.declared.clause.Lit.{Lit}
use Rattle.lz_cnf.specs.Models.{variable_of}
use Rattle.lz_gates.specs.Circuits.{Circuit, Assignment, value, clause_value, IsLit, AreLits, Satisfies, Makes}
use Rattle.lz_gates.proofs.ExtendingLemmas.{makes_so, makes_same, still}
use Rattle.lz_gates.proofs.FoldLemmas.{value-same}
use Rattle.lz_arith.specs.Bits.{word, copies}
use Rattle.lz_arith.specs.Open.{KeepsTest}
use Rattle.lz_arith.proofs.NonzeroLemmas.{clause_word}

-- one more literal
clause_push : (a : Assignment) (xs : List Lit) (x : Lit) → clause_value a (xs ++ x ∷ []) ≡ (clause_value a xs || value a x)
unfolding clause_value
clause_push a [] x = or-false (value a x)
clause_push a (y ∷ ys) x = ap (λ (b : Bool). value a y || b) (clause_push a ys x) ∙ sym (or_assoc (value a y) (clause_value a ys) (value a x))

-- a true literal makes the clause true
clause_holds : (a : Assignment) (xs : List Lit) (k : ℕ) (d : Lit) → k < length xs → value a (get_or xs k d) ≡ true → clause_value a xs ≡ true
unfolding clause_value
clause_holds a [] k d lt e = absurd (omega arith)
clause_holds a (x ∷ xs) zero d lt e = ap (λ (b : Bool). b || clause_value a xs) e
clause_holds a (x ∷ xs) (suc k) d lt e = ap (λ (b : Bool). value a x || b) (clause_holds a xs k d (omega arith) e) ∙ or-true (value a x)

-- before the first literal none is open
pub open_none : (on off : Lit) (bits : List Lit) → KeepsTest on off (take 0 bits) []
open_none on off bits = record {
  says = λ a e f. refl;
  within = λ circuit h all k d lt. absurd (omega arith);
  few = omega arith;
}

-- one more literal, which is not the true one
pub open_more : {on off lit : Lit} (bits : List Lit) {open_ next : List Lit} {i : ℕ} (d : Lit) → KeepsTest on off (take i bits) open_ → i < length bits → lit ≡ get_or bits i d
    → next ≡ cond (eqb lit.0 off.0) open_ (open_ ++ lit ∷ []) → KeepsTest on off (take (i + 1) bits) next
open_more {on} {off} {lit} bits {open_} {next} {i} d h lt e f =
    subst (λ (xs : List Lit). KeepsTest on off xs next) (sym (take_more bits i d lt ∙ ap (λ (x : Lit). take i bits ++ x ∷ []) (sym e)))
    (subst (λ (xs : List Lit). KeepsTest on off (take i bits ++ lit ∷ []) xs) (sym f) (by (eqb lit.0 off.0) refl))
  where
    last : (circuit : Circuit) → AreLits circuit (take i bits ++ lit ∷ []) → IsLit circuit lit
    last circuit all = subst (λ (x : Lit). IsLit circuit x) (get_or_push (take i bits) lit lit (length (take i bits)) refl) (all (length (take i bits)) lit (omega (arith, length_push (take i bits) lit)))

    front : (circuit : Circuit) → AreLits circuit (take i bits ++ lit ∷ []) → AreLits circuit (take i bits)
    front circuit all k g bound = subst (λ (x : Lit). IsLit circuit x) (get_or_append_left (take i bits) (lit ∷ []) g k bound) (all k g (omega (arith, length_push (take i bits) lit)))

    by : (b : Bool) → eqb lit.0 off.0 ≡ b → KeepsTest on off (take i bits ++ lit ∷ []) (cond b open_ (open_ ++ lit ∷ []))
    by true g = record {
      says = λ a t n. h.says a t n ∙ sym (or-false (clause_value a (take i bits)))
          ∙ ap (λ (b : Bool). clause_value a (take i bits) || b) (sym (value-same a lit off (eqb-true lit.0 off.0 g) ∙ n)) ∙ sym (clause_push a (take i bits) lit);
      within = λ circuit t all. h.within circuit t (front circuit all);
      few = omega (arith, h.few, length_push (take i bits) lit);
    }
    by false g = record {
      says = λ a t n. clause_push a open_ lit ∙ ap (λ (b : Bool). b || value a lit) (h.says a t n) ∙ sym (clause_push a (take i bits) lit);
      within = λ circuit t all. All-push (IsLit circuit) open_ lit (h.within circuit t (front circuit all)) (last circuit all);
      few = omega (arith, h.few, length_push (take i bits) lit, length_push open_ lit);
    }

-- after all literals the open ones decide the test
pub open_all : {on off : Lit} {bits open_ : List Lit} {i : ℕ} → KeepsTest on off (take i bits) open_ → length bits ≤ i → KeepsTest on off bits open_
open_all {on} {off} {bits} {open_} {i} h le = subst (λ (xs : List Lit). KeepsTest on off xs open_) (take_all i bits le) h

-- the true one alone
pub open_true : {on off lit : Lit} {bits open_ : List Lit} {i : ℕ} (d : Lit) → i < length bits → lit ≡ get_or bits i d → lit.0 ≡ on.0 → open_ ≡ copies 1 on → KeepsTest on off bits open_
unfolding clause_value
open_true {on} {off} {lit} {bits} {i} d lt e same f = subst (λ (xs : List Lit). KeepsTest on off bits xs) (sym f) (record {
  says = λ a t n. or-false (value a on) ∙ t ∙ sym (clause_holds a bits i d lt (ap (value a) (sym e) ∙ value-same a lit on same ∙ t));
  within = λ circuit t all. one circuit t;
  few = omega arith;
})
  where
    one : (circuit : Circuit) → IsLit circuit on → (k : ℕ) (g : Lit) → k < 1 → variable_of (get_or (on ∷ []) k g) < circuit.variables
    one circuit t zero g bound = t
    one circuit t (suc k) g bound = absurd (omega arith)

-- ---- tests that take nothing

-- no literal is true where there is none
clause_empty : (a : Assignment) (xs : List Lit) → length xs ≡ 0 → clause_value a xs ≡ false
unfolding clause_value
clause_empty a [] e = refl
clause_empty a (x ∷ xs) e = absurd (omega arith)

-- of one literal that one decides
clause_single : (a : Assignment) (xs : List Lit) (d : Lit) → length xs ≡ 1 → clause_value a xs ≡ value a (get_or xs 0 d)
unfolding clause_value
clause_single a [] d e = absurd (omega arith)
clause_single a (x ∷ []) d e = or-false (value a x)
clause_single a (x ∷ y ∷ ys) d e = absurd (omega arith)

-- no open literal: the test is false
pub test_none : {circuit : Circuit} {on off : Lit} {bits open_ held : List Lit} → ((a : Assignment) → Satisfies a circuit.clauses → value a on ≡ true) → ((a : Assignment) → Satisfies a circuit.clauses → value a off ≡ false)
    → KeepsTest on off bits open_ → held ≡ open_ → length held ≡ 0 → Makes circuit circuit 1 (length bits + 1) (λ a. value a off ≡ not (eqb (word a bits) 0))
test_none {circuit} {off} {bits} {open_} on_true off_false h e z =
    makes_so circuit circuit 0 1 0 (length bits + 1) _ _ (makes_same circuit (λ a. value a off ≡ clause_value a bits)
    (λ a s. off_false a s ∙ sym (clause_empty a open_ (ap (λ (xs : List Lit). length xs) (sym e) ∙ z)) ∙ h.says a (on_true a s) (off_false a s)))
    (omega arith) (omega arith) (λ a s p. p ∙ clause_word a bits)

-- one open literal: the test is that literal
pub test_one : {circuit : Circuit} {on off lit : Lit} {bits open_ held : List Lit} (d : Lit) → ((a : Assignment) → Satisfies a circuit.clauses → value a on ≡ true) → ((a : Assignment) → Satisfies a circuit.clauses → value a off ≡ false)
    → KeepsTest on off bits open_ → held ≡ open_ → length held ≡ 1 → lit ≡ get_or held 0 d → Makes circuit circuit 1 (length bits + 1) (λ a. value a lit ≡ not (eqb (word a bits) 0))
test_one {circuit} {lit} {bits} {held} d on_true off_false h e z is =
    makes_so circuit circuit 0 1 0 (length bits + 1) _ _ (makes_same circuit (λ a. value a lit ≡ clause_value a bits)
    (λ a s. ap (value a) is ∙ sym (clause_single a held d z) ∙ ap (clause_value a) e ∙ h.says a (on_true a s) (off_false a s)))
    (omega arith) (omega arith) (λ a s p. p ∙ clause_word a bits)

-- more open literals: the test of these
pub test_more : {old new : Circuit} {on off : Lit} (test : Lit) {bits open_ held : List Lit} → ((a : Assignment) → Satisfies a old.clauses → value a on ≡ true) → ((a : Assignment) → Satisfies a old.clauses → value a off ≡ false)
    → KeepsTest on off bits open_ → held ≡ open_ → Makes old new 1 (length held + 1) (λ a. value a test ≡ not (eqb (word a held) 0))
    → Makes old new 1 (length bits + 1) (λ a. value a test ≡ not (eqb (word a bits) 0))
test_more {old} {new} test {bits} {held} on_true off_false h e made =
    makes_so old new 1 1 (length held + 1) (length bits + 1) _ _ made (omega arith) (omega (arith, h.few, ap (λ (xs : List Lit). length xs) e))
    (λ a s p.
    let before = still old new made.extends a s in
    p ∙ sym (clause_word a held) ∙ ap (clause_value a) e ∙ h.says a (on_true a before) (off_false a before) ∙ clause_word a bits)

-- the open literals are of the circuit
pub open_in : (circuit : Circuit) {on off : Lit} {bits open_ held : List Lit} → KeepsTest on off bits open_ → held ≡ open_ → IsLit circuit on → AreLits circuit bits → AreLits circuit held
open_in circuit h e t all = subst (λ (xs : List Lit). AreLits circuit xs) (sym e) (h.within circuit t all)
