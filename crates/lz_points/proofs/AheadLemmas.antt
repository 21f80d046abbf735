-- From before to after: the new run is ahead, each thread at its next place that is still visible.
use Rattle.std.proofs.Common.{◌≡◌, inl, inr, ℕ, zero, suc, List, [], ◌∷◌, drop, sym, ◌∙◌, ap, ap₂, subst, arith}
use Rattle.std.specs.Prelude.{slice_index, slice_index_or}
use Rattle.std.specs.List.{AllByRecursion}
use Rattle.lz_base.specs.declared.word.BreakKind.{BreakKind}
use Rattle.lz_flat.specs.Programs.{MarkedInstruction}
use Rattle.lz_flat.specs.FlatRuns.{Ran, went, held, breaks, ended}
use Rattle.lz_flat.specs.WellFormed.{IsCodeOf, BeginsVisible}
use Rattle.lz_flat.specs.Naming.{CodeNamesOnly, AgreeOn}
use Rattle.lz_points.specs.Thinning.{Clear, Own, Sees, Thinned, none, kept, taken}
use Rattle.lz_flat.specs.Naming.{Keeps}
use Rattle.lz_points.proofs.ThroughLemmas.{settle, thinned_drop, clear_at, AlikeRan, KeepsRan, clear_keeps, clear_agrees}

-- ---- what is left of code

pub names_drop : (P : ℕ → Type 0) (xs : List MarkedInstruction) (l : ℕ) → CodeNamesOnly P xs → CodeNamesOnly P (drop l xs)
names_drop P xs zero h = h
names_drop P [] (suc l) h = h
names_drop P (x ∷ xs) (suc l) h = names_drop P xs l h.1

pub names_thinned : {P : ℕ → Type 0} (Q : ℕ → Type 0) {xs ys : List MarkedInstruction} → Thinned P xs ys → CodeNamesOnly Q xs → CodeNamesOnly Q ys
names_thinned Q none h = h
names_thinned Q (kept more) h = (h.0, names_thinned Q more h.1)
names_thinned Q (taken names on skip free more) h = (h.0, names_thinned Q more h.1)

pub code_drop : (n : ℕ) (xs : List MarkedInstruction) (l : ℕ) → IsCodeOf n xs → IsCodeOf n (drop l xs)
code_drop n xs zero h = h
code_drop n [] (suc l) h = h
code_drop n (x ∷ xs) (suc l) h = code_drop n xs l h.3

pub all_at : (P : List MarkedInstruction → Type 0) (xs : List (List MarkedInstruction)) (k : ℕ) → AllByRecursion P xs → P [] → P (slice_index_or xs k [])
all_at P [] zero all h = h
all_at P [] (suc k) all h = h
all_at P (x ∷ xs) zero all h = all.0
all_at P (x ∷ xs) (suc k) all h = all_at P xs k all.1 h

-- ---- alike

pub data AlikeWent (P : ℕ → Type 0) (q : ℕ) (m : List ℕ) (r : Ran) : Type 0 where
  alike_went_by : (n : List ℕ) → r ≡ went q n → AgreeOn P m n → AlikeWent P q m r

pub went_alike : (P : ℕ → Type 0) (q : ℕ) (m : List ℕ) (r : Ran) → AlikeRan P (went q m) r → AlikeWent P q m r
went_alike P q m (went q' n) h = alike_went_by n (ap (λ (k : ℕ). went k n) h.0) h.1
went_alike P q m held h = absurd h
went_alike P q m (breaks kind line) h = absurd h
went_alike P q m ended h = absurd h

pub breaks_alike : (P : ℕ → Type 0) (kind : BreakKind) (line : ℕ) (r : Ran) → AlikeRan P (breaks kind line) r → r ≡ breaks kind line
breaks_alike P kind line (went q n) h = absurd h
breaks_alike P kind line held h = absurd h
breaks_alike P kind line (breaks k l) h = ap₂ breaks h.0 h.1
breaks_alike P kind line ended h = absurd h

-- ---- one thread

-- the thread t stands ahead: on from its old place it comes to its new one, and leaves what it may see as it is in the
-- new memory
pub record IsAhead (owner : ℕ → ℕ) (input : ℕ → ℕ) (code code' : List MarkedInstruction) (t p : ℕ) (m : List ℕ) (p' : ℕ) (m' : List ℕ) : Type 0 where
  pub stands : BeginsVisible (drop p code)
  pub after : List ℕ
  pub settles : settle input code' p m ≡ went p' after
  pub agrees : AgreeOn (Sees owner t) after m'

-- what is on the way is its own
pub is_clear : (owner : ℕ → ℕ) (code code' : List MarkedInstruction) (t p : ℕ) → Thinned (Own owner t) code code' → BeginsVisible (drop p code) → Clear (Own owner t) (drop p code') 0
is_clear owner code code' t p h v = clear_at (Own owner t) (drop p code) (drop p code') (thinned_drop p h) v

-- on the way it changes its own words alone
pub on_the_way : (owner : ℕ → ℕ) (input : ℕ → ℕ) (code code' : List MarkedInstruction) (t p : ℕ) (m : List ℕ) (q : ℕ) (n : List ℕ) → Thinned (Own owner t) code code' → BeginsVisible (drop p code)
    → settle input code' p m ≡ went q n → Keeps (Own owner t) m n
on_the_way owner input code code' t p m q n h v e = subst (KeepsRan (Own owner t) m) e (clear_keeps (Own owner t) input p (drop p code') 0 m (is_clear owner code code' t p h v))

-- ANOTHER THREAD'S STEP passes by a thread: the thread u stays ahead where t goes
pub passes_by : (owner : ℕ → ℕ) (input : ℕ → ℕ) (code code' : List MarkedInstruction) (t u p : ℕ) (m : List ℕ) (p' : ℕ) (m' m₂ m₂' : List ℕ) → (u ≡ t → ⊥) → Thinned (Own owner u) code code'
    → IsAhead owner input code code' u p m p' m' → Keeps (Sees owner t) m m₂ → Keeps (Sees owner t) m' m₂' → ((x : ℕ) → owner x ≡ 0 → slice_index m₂ x ≡ slice_index m₂' x)
    → IsAhead owner input code code' u p m₂ p' m₂'
passes_by owner input code code' t u p m p' m' m₂ m₂' apart h a k k' shared = made (went_alike (Own owner u) p' a.after (settle input code' p m₂) alike)
  where
    -- what u owns, t does not see
    unseen : (x : ℕ) → owner x ≡ suc u → Sees owner t x → ⊥
    unseen x o (inl s) = absurd cc
    unseen x o (inr s) = apart (let z : suc u ≡ suc t = sym o ∙ s in let w : u ≡ t = omega arith in w)

    -- nor does u own what is shared
    not_own : (x : ℕ) → owner x ≡ 0 → owner x ≡ suc u → ⊥
    not_own x s o = absurd cc

    alike : AlikeRan (Own owner u) (went p' a.after) (settle input code' p m₂)
    alike = subst (λ (r : Ran). AlikeRan (Own owner u) r (settle input code' p m₂)) a.settles
        (clear_agrees (Own owner u) input p (drop p code') 0 m m₂ (sym k.size) (is_clear owner code code' u p h a.stands) (λ x o. sym (k.others x (unseen x o))))

    made : AlikeWent (Own owner u) p' a.after (settle input code' p m₂) → IsAhead owner input code code' u p m₂ p' m₂'
    made (alike_went_by after e agree) = record {
      stands = a.stands;
      after = after;
      settles = e;
      agrees = sees;
    }
      where
        sees : AgreeOn (Sees owner u) after m₂'
        sees x (inl s) = (on_the_way owner input code code' u p m₂ p' after h a.stands e).others x (not_own x s) ∙ shared x s
        sees x (inr o) = sym (agree x o) ∙ a.agrees x (inr o) ∙ sym (k'.others x (unseen x o))
