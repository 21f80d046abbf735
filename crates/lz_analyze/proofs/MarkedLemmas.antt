-- The marks of variables.
use Rattle.std.proofs.Common.{◌≡◌, ℕ, zero, suc, ◌+◌, ◌<◌, ◌≤◌, inl, inr, ⊎_elim, Bool, true, false, cond, not, eqb, ◌||◌, List, [], ◌∷◌, ◌++◌, length, get_or, set, drop, refl, sym, ◌∙◌, ap, subst, arith}
use Rattle.std.specs.List.{Contains, list_any}
use Rattle.std.proofs.Math.Bool.{or-false, or-true}
use Rattle.std.proofs.lemmas.Bool.{cases_eq, eq-eqb, ne_eqb}
use Rattle.std.proofs.lemmas.List.{get_or-set_same, get_or-set_other, drop_more}
use Rattle.std.proofs.lemmas.List.Folds.{list_any-append}
use Rattle.lz_base.proofs.ListLemmas.{contained_cases}
use Rattle.lz_analyze.specs.Marked.{AreMarked, AreSame}
use Rattle.lz_analyze.proofs.WalkingLemmas.{any_contains}

-- a place past the end reads 0
pub past_end : (xs : List ℕ) (v : ℕ) → length xs ≤ v → get_or xs v 0 ≡ 0
past_end [] v le = refl
past_end (x ∷ xs) zero le = absurd (omega (arith, le))
past_end (x ∷ xs) (suc v) le = past_end xs v (omega arith)

zero_pushed : (xs : List ℕ) (v : ℕ) → get_or (xs ++ 0 ∷ []) v 0 ≡ get_or xs v 0
zero_pushed [] zero = refl
zero_pushed [] (suc v) = refl
zero_pushed (x ∷ xs) zero = refl
zero_pushed (x ∷ xs) (suc v) = zero_pushed xs v

pub same_more : (table old new : List ℕ) → AreSame table old → new ≡ old ++ 0 ∷ [] → AreSame table new
same_more table old new same pushed = record { told = λ v. ap (λ (xs : List ℕ). get_or xs v 0) pushed ∙ zero_pushed old v ∙ same.told v }

no_one : (n : ℕ) → n ≡ 0 → n ≡ 1 → ⊥
no_one n a b = omega (arith, a, b)

pub unmarked : (table new : List ℕ) (at v : ℕ) → at < length table → new ≡ set table at 0 → get_or new v 0 ≡ 1 → (get_or table v 0 ≡ 1) × (v ≡ at → ⊥)
unmarked table new at v lt is one =
    let told : get_or (set table at 0) v 0 ≡ 1 = ap (λ (xs : List ℕ). get_or xs v 0) (sym is) ∙ one in
    elim (cases_eq v at) [
      | inl same ↦ absurd (no_one (get_or (set table at 0) v 0) (ap (λ (n : ℕ). get_or (set table at 0) n 0) same ∙ get_or-set_same table at 0 0 lt) told)
      | inr differ ↦ (sym (get_or-set_other table at v 0 0 differ) ∙ told, differ)
    ]

pub unmarked_past : (table : List ℕ) (at v : ℕ) → length table ≤ at → get_or table v 0 ≡ 1 → (get_or table v 0 ≡ 1) × (v ≡ at → ⊥)
unmarked_past table at v le one = (one, λ same. no_one (get_or table v 0) (ap (λ (n : ℕ). get_or table n 0) same ∙ past_end table at le) one)

-- one variable less is left to be taken off
pub wiped_turn : (list : List ℕ) (i v x : ℕ) → i < length list → get_or list i 0 ≡ x → Contains (drop i list) v → (v ≡ x → ⊥) → Contains (drop (i + 1) list) v
wiped_turn list i v x lt is has differ =
    ⊎_elim
    (λ same. absurd (differ (same ∙ is)))
    (λ rest. rest)
    (contained_cases (get_or list i 0) v (drop (i + 1) list) (subst (λ (xs : List ℕ). Contains xs v) (drop_more list i 0 lt) has))

eqb_zero_one : eqb 0 1 ≡ false
eqb_zero_one = refl

-- nothing is marked where no place reads 1
pub wiped : (table : List ℕ) → ((v : ℕ) → get_or table v 0 ≡ 1 → ⊥) → AreMarked table []
wiped table none = record { told = λ v. sym (ne_eqb (get_or table v 0) 1 (none v)) }

pub none_marked : AreMarked [] []
none_marked = record { told = λ v. refl }

-- what is marked stands in the list
pub listed : (table keys : List ℕ) (v : ℕ) → AreMarked table keys → get_or table v 0 ≡ 1 → Contains keys v
listed table keys v marked one = any_contains keys v (marked.told v ∙ eq-eqb (get_or table v 0) 1 one)

-- a table that reads the same marks the same
pub same_marked : (table new keys : List ℕ) → AreMarked table keys → AreSame table new → AreMarked new keys
same_marked table new keys marked same = record { told = λ v. marked.told v ∙ ap (λ (n : ℕ). eqb n 1) (sym (same.told v)) }

-- one variable more is marked
pub marked_one : (table new keys : List ℕ) (v : ℕ) → AreMarked table keys → v < length table → new ≡ set table v 1 → AreMarked new (keys ++ v ∷ [])
marked_one table new keys v marked lt is = record {
  told = λ w.
      let told : list_any (eqb w) (keys ++ v ∷ []) ≡ (list_any (eqb w) keys || (eqb w v || false)) = list_any-append (eqb w) keys (v ∷ []) in
      let reads : get_or new w 0 ≡ get_or (set table v 1) w 0 = ap (λ (xs : List ℕ). get_or xs w 0) is in
      elim (cases_eq w v) [
        | inl same ↦
            told ∙ ap (λ (b : Bool). list_any (eqb w) keys || (b || false)) (eq-eqb w v same) ∙ or-true (list_any (eqb w) keys)
            ∙ sym (eq-eqb (get_or new w 0) 1 (reads ∙ ap (λ (n : ℕ). get_or (set table v 1) n 0) same ∙ get_or-set_same table v 1 0 lt))
        | inr differ ↦
            told ∙ ap (λ (b : Bool). list_any (eqb w) keys || (b || false)) (ne_eqb w v differ) ∙ or-false (list_any (eqb w) keys) ∙ marked.told w
            ∙ ap (λ (n : ℕ). eqb n 1) (sym (reads ∙ get_or-set_other table v w 1 0 differ))
      ];
}

-- what a mark that is there tells of an insertion, and what none tells
pub kept_keys : (table keys : List ℕ) (v : ℕ) → AreMarked table keys → get_or table v 0 ≡ 1 → keys ≡ cond (list_any (eqb v) keys) keys (keys ++ v ∷ [])
kept_keys table keys v marked one = ap (λ (b : Bool). cond b keys (keys ++ v ∷ [])) (sym (marked.told v ∙ eq-eqb (get_or table v 0) 1 one))

pub kept_told : (table keys : List ℕ) (v : ℕ) → AreMarked table keys → get_or table v 0 ≡ 1 → false ≡ not (list_any (eqb v) keys)
kept_told table keys v marked one = ap not (sym (marked.told v ∙ eq-eqb (get_or table v 0) 1 one))

pub more_keys : (table keys : List ℕ) (v : ℕ) → AreMarked table keys → (get_or table v 0 ≡ 1 → ⊥) → keys ++ v ∷ [] ≡ cond (list_any (eqb v) keys) keys (keys ++ v ∷ [])
more_keys table keys v marked none = ap (λ (b : Bool). cond b keys (keys ++ v ∷ [])) (sym (marked.told v ∙ ne_eqb (get_or table v 0) 1 none))

pub more_told : (table keys : List ℕ) (v : ℕ) → AreMarked table keys → (get_or table v 0 ≡ 1 → ⊥) → true ≡ not (list_any (eqb v) keys)
more_told table keys v marked none = ap not (sym (marked.told v ∙ ne_eqb (get_or table v 0) 1 none))
