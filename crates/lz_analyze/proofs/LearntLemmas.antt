-- A learnt clause is new over the kept clauses, may be added after going back, and is unit there.
use Rattle.std.proofs.Common.{◌≡◌, ℕ, suc, ◌<◌, ◌≤◌, ◌⊎◌, inl, inr, ⊎_elim, Bool, true, ltb, leb, List, get_or, sym, ◌∙◌, ap, subst, arith}
use Rattle.std.specs.List.{All, Contains, filter}
use Rattle.std.proofs.lemmas.Bool.{ltb-true, lt-ltb, leb-true, le-leb}
use Rattle.std.proofs.lemmas.List.Elements.{All-contains, Contains-get_or}
use Rattle.lz_cnf.specs.declared.clause.Lit.{Lit}
use Rattle.lz_cnf.specs.Models.{variable_of, negated}
use Rattle.lz_cnf.specs.Partial.{IsFalseLit, IsUnassigned, IsConsistent, IsUnitClause}
use Rattle.lz_log.specs.Newness.{IsNewClause}
use Rattle.lz_prop.specs.Trail.{Entry, TrailState, IsTrail, literals, at_decision, gone_back, WasOpen}
use Rattle.lz_analyze.specs.Learnt.{IsFalseAt, IsLearnt}
use Rattle.lz_prop.proofs.EntryLemmas.{one_entry, not_both_set}
use Rattle.lz_prop.proofs.LitLemmas.{Contains-map, Contains-from_map, Contains-filter, Contains-from_filter}

-- the literals of the entries that pass a test
passing : (Entry → Bool) → List Entry → List Lit
passing p set = literals (filter p set)

among_passing : (p : Entry → Bool) (set : List Entry) (e : Entry) → Contains set e → p e ≡ true → Contains (passing p set) e.lit
unfolding passing
among_passing p set e h t = Contains-map (λ (e : Entry). e.lit) (filter p set) e (Contains-filter p set e h t)

from_passing : (p : Entry → Bool) (set : List Entry) (lit : Lit) → Contains (passing p set) lit → (e : Entry) × Contains set e × (p e ≡ true) × (e.lit ≡ lit)
unfolding passing
from_passing p set lit h =
    let source = Contains-from_map (λ (e : Entry). e.lit) (filter p set) lit h in
    let kept = Contains-from_filter p set source.0 source.1 in
    (source.0, kept.0, kept.1, source.2)

passing_consistent : (s : TrailState) → IsTrail s → (p : Entry → Bool) → IsConsistent (passing p s.set)
passing_consistent s trail p k d lt =
    λ h. let a = from_passing p s.set (get_or (passing p s.set) k d) (Contains-get_or (passing p s.set) k d lt) in
    let b = from_passing p s.set (negated (get_or (passing p s.set) k d)) h in
    not_both_set s trail b.0 a.0 b.1 a.1 (b.3 ∙ ap negated (sym a.3))

-- a literal that is false at a level which does not pass is unassigned among those that do
left_unassigned : (s : TrailState) → IsTrail s → (p : Entry → Bool) (test : ℕ → Type 0) (lit : Lit) → IsFalseAt s.set test lit
    → ((e : Entry) → test e.level → p e ≡ true → ⊥) → IsUnassigned (passing p s.set) lit
left_unassigned s trail p test lit at apart = (
  λ h. let a = from_passing p s.set lit h in
      not_both_set s trail at.entry a.0 at.within a.1 (at.negates ∙ ap negated (sym a.3)),
  λ h. let a = from_passing p s.set (negated lit) h in
      let one : at.entry ≡ a.0 = one_entry s trail at.entry a.0 at.within a.1 (ap variable_of (at.negates ∙ sym a.3)) in
      apart at.entry at.level (ap p one ∙ a.2),
)

false_among : (p : Entry → Bool) (set : List Entry) (test : ℕ → Type 0) (lit : Lit) → IsFalseAt set test lit → ((e : Entry) → test e.level → p e ≡ true) → IsFalseLit (passing p set) lit
false_among p set test lit at passes =
    subst (Contains (passing p set)) at.negates (among_passing p set at.entry at.within (passes at.entry at.level))

-- the others are false and `left` is unassigned among the literals of the levels up to `low`, by whatever test
others_false : (s : TrailState) (clause : List Lit) (left : Lit) (low : ℕ) (p : Entry → Bool) → IsLearnt s clause left low
    → ((e : Entry) → e.level ≤ low → p e ≡ true) → All (λ lit. (lit ≡ left) ⊎ IsFalseLit (passing p s.set) lit) clause
others_false s clause left low p learnt passes k d lt =
    ⊎_elim (λ same. inl same) (λ at. inr (false_among p s.set (λ level. level ≤ low) (get_or clause k d) at passes)) (learnt.others k d lt)

-- the witness is what was true when the level after `low` was decided
pub learnt_is_new : (s : TrailState) (clause : List Lit) (left : Lit) (low : ℕ) → IsTrail s → IsLearnt s clause left low → IsNewClause s.clauses clause
unfolding passing
learnt_is_new s clause left low trail learnt =
    let p : Entry → Bool = λ e. ltb e.level (suc low) in
    record {
      true_ = at_decision (suc low) s.set;
      left = left;
      consistent = passing_consistent s trail p;
      within = learnt.within;
      others = others_false s clause left low p learnt (λ e le. lt-ltb e.level (suc low) (omega arith));
      unassigned = left_unassigned s trail p (λ level. low < level) left learnt.highest
          (λ e above passes. let lt = ltb-true e.level (suc low) passes in omega arith);
      quiet = trail.quiet low learnt.below;
    }

-- once the trail has gone back to `low`, the clause is unit
pub learnt_is_unit : (s : TrailState) (clause : List Lit) (left : Lit) (low : ℕ) → IsTrail s → IsLearnt s clause left low → IsUnitClause (literals (gone_back s low).set) clause
unfolding passing
learnt_is_unit s clause left low trail learnt =
    let p : Entry → Bool = λ e. leb e.level low in (
      left,
      learnt.within,
      left_unassigned s trail p (λ level. low < level) left learnt.highest
          (λ e above passes. let le = leb-true e.level low passes in omega arith),
      others_false s clause left low p learnt (λ e le. le-leb e.level low le),
    )

-- at each decision up to and with that of `low` two of its literals were unassigned
pub learnt_was_open : (s : TrailState) (clause : List Lit) (left : Lit) (low : ℕ) → IsTrail s → IsLearnt s clause left low → WasOpen s low clause
unfolding passing
learnt_was_open s clause left low trail learnt k lt =
    let p : Entry → Bool = λ e. ltb e.level (suc k) in
    let left_open : IsUnassigned (passing p s.set) left = left_unassigned s trail p (λ level. low < level) left learnt.highest
    (λ e above passes. let below = ltb-true e.level (suc k) passes in omega arith) in
    elim learnt.reached [
      | inl none ↦ absurd (omega arith)
      | inr (lit, has, at) ↦
          let lit_open : IsUnassigned (passing p s.set) lit = left_unassigned s trail p (λ level. level ≡ low) lit at
          (λ e same passes. let below = ltb-true e.level (suc k) passes in omega arith) in
          let differ : lit ≡ left → ⊥ = λ same.
          let one : at.entry ≡ learnt.highest.entry = one_entry s trail at.entry learnt.highest.entry at.within learnt.highest.within
          (ap variable_of (at.negates ∙ ap negated same ∙ sym learnt.highest.negates)) in
          let levels : at.entry.level ≡ learnt.highest.entry.level = ap (λ (e : Entry). e.level) one in
          let here = at.level in
          let above = learnt.highest.level in
          omega arith in
          record {
            not_unit = λ unit. ⊎_elim
                (λ same. ⊎_elim
                (λ same2. differ (same ∙ sym same2))
                (λ is_false. left_open.1 is_false)
                (All-contains (λ l. (l ≡ unit.0) ⊎ IsFalseLit (passing p s.set) l) clause left unit.3 learnt.within))
                (λ is_false. lit_open.1 is_false)
                (All-contains (λ l. (l ≡ unit.0) ⊎ IsFalseLit (passing p s.set) l) clause lit unit.3 has);
            not_false = λ all. left_open.1 (All-contains (IsFalseLit (passing p s.set)) clause left all learnt.within);
          }
    ]
