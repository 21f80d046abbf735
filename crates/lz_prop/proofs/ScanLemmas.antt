-- One more literal of a clause is looked at, and what the tables say of it.
use Rattle.std.proofs.Common.{◌≡◌, ℕ, ◌+◌, ◌<◌, ◌≤◌, ◌⊎◌, inl, inr, ⊎_elim, List, length, get_or, take, drop, sym, subst, arith}
use Rattle.std.specs.List.{All, Contains}
use Rattle.std.proofs.lemmas.List.{take_all, take-append-drop}
use Rattle.std.proofs.lemmas.List.Elements.{All-contains, All-more, All-weaker, Contains-append_left, Contains-get_or}
use Rattle.lz_cnf.specs.declared.clause.Lit.{Lit}
use Rattle.lz_cnf.specs.Models.{negated}
use Rattle.lz_cnf.specs.Partial.{IsFalseLit}
use Rattle.lz_prop.specs.Parts.{IsTable}
use Rattle.lz_prop.specs.Scan.{IsMarkedTrue, IsMarkedFalse, AreOthersFalse, IsBefore, IsLater, IsLast}

-- what a front contains
pub front_in : {X : Type 0} (xs : List X) (n : ℕ) (x : X) → Contains (take n xs) x → Contains xs x
front_in xs n x h = subst (λ (ys : List _). Contains ys x) (take-append-drop n xs) (Contains-append_left (take n xs) (drop n xs) x h)

-- all were looked at
pub all_looked : (P : Lit → Type 0) (clause : List Lit) (i : ℕ) → length clause ≤ i → All P (take i clause) → All P clause
all_looked P clause i le all = subst (All P) (take_all i clause le) all

-- ---- the literal that was set last

before_join : (levels : List ℕ) (lit a b c : Lit) → IsBefore levels lit a b → IsBefore levels lit b c → IsBefore levels lit a c
before_join levels lit a b c (inl same) q = inl same
before_join levels lit a b c (inr (b_off, le)) (inl same) = absurd (b_off same)
before_join levels lit a b c (inr (b_off, le)) (inr (c_off, le2)) = inr (c_off, omega (arith, le, le2))

later_in : (levels : List ℕ) (clause : List Lit) (lit last other now : Lit) → IsLater levels lit last other now → Contains clause last → Contains clause other → Contains clause now
later_in levels clause lit last other now is has own = ⊎_elim (λ e. subst (Contains clause) (sym e) has) (λ e. subst (Contains clause) (sym e) own) is.one

pub last_more : (levels : List ℕ) (clause : List Lit) (i : ℕ) (d lit last now : Lit) → i < length clause → IsLast levels clause (take i clause) lit last → IsLater levels lit last (get_or clause i d) now
    → IsLast levels clause (take (i + 1) clause) lit now
last_more levels clause i d lit last now lt is later = record {
  has = later_in levels clause lit last (get_or clause i d) now later is.has (Contains-get_or clause i d lt);
  before = All-more (λ l. IsBefore levels lit l now) clause i d lt (All-weaker (λ l. IsBefore levels lit l last) (λ l. IsBefore levels lit l now) (λ l h. before_join levels lit l last now h later.past) (take i clause) is.before) later.own;
}

-- ---- what the tables say

pub marked_false : (count : ℕ) (truths levels reasons : List ℕ) (order : List Lit) (lit : Lit) → IsTable count truths levels reasons order → IsMarkedFalse truths lit → IsFalseLit order lit
marked_false count truths levels reasons order lit table h = table.marked (negated lit) h

pub is_marked : (count : ℕ) (truths levels reasons : List ℕ) (order : List Lit) (lit : Lit) → IsTable count truths levels reasons order → Contains order lit → IsMarkedTrue truths lit
is_marked count truths levels reasons order lit table h = All-contains (λ l. get_or truths l.0 0 ≡ 1) order lit table.told h

-- a literal that is not marked false is not false
pub unmarked : (count : ℕ) (truths levels reasons : List ℕ) (order : List Lit) (lit : Lit) → IsTable count truths levels reasons order → (IsMarkedFalse truths lit → ⊥) → IsFalseLit order lit → ⊥
unmarked count truths levels reasons order lit table off h = off (is_marked count truths levels reasons order (negated lit) table h)

pub others_marked : (count : ℕ) (truths levels reasons : List ℕ) (order clause : List Lit) (lit : Lit) → IsTable count truths levels reasons order → AreOthersFalse truths clause lit → All (λ l. (l ≡ lit) ⊎ IsFalseLit order l) clause
others_marked count truths levels reasons order clause lit table others k d lt =
    ⊎_elim (λ same. inl same) (λ h. inr (marked_false count truths levels reasons order (get_or clause k d) table h)) (others k d lt)
