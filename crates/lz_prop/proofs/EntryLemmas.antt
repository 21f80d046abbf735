-- Entries of one variable are one, and there are no more entries than variables.
use Rattle.std.proofs.Common.{◌≡◌, ◌≢◌, ℕ, zero, suc, Some, ◌<◌, ◌≤◌, inl, inr, ⊎_elim, Bool, true, false, cond, eqb, List, [], ◌∷◌, length, get_or, map, refl, sym, ◌∙◌, ap, arith}
use Rattle.std.specs.List.{All, AllPairs, Contains, list_any}
use Rattle.std.proofs.lemmas.Bool.{cases_order, eqb-true, eqb-false, ne_eqb, or_cases}
use Rattle.std.proofs.lemmas.List.{length-map, get_or_default}
use Rattle.std.proofs.lemmas.List.Elements.{Contains-get_or}
use Rattle.std.proofs.lemmas.Map.Keys.{IsDistinct-from_apart}
use Rattle.std.proofs.lemmas.Map.Steps.{length-le_from_distinct_below}
use Rattle.lz_cnf.specs.Models.{variable_of, negated}
use Rattle.lz_prop.specs.Trail.{Entry, TrailState, IsTrail, literals, entry_of}
use Rattle.lz_cnf.specs.Partial.{IsConsistent}
use Rattle.lz_cnf.proofs.LitLemmas.{variable_of-negated, ne_negated}
use Rattle.lz_prop.proofs.LitLemmas.{Contains-from_map}

-- entries of one variable are one
pub one_entry : (s : TrailState) → IsTrail s → (a b : Entry) → Contains s.set a → Contains s.set b → variable_of a.lit ≡ variable_of b.lit → a ≡ b
one_entry s trail a b (i, li, ea) (j, lj, eb) same =
    let eb2 : get_or s.set j a ≡ b = get_or_default s.set j a b lj ∙ eb in
    elim (cases_order i j) [
      | inl e ↦ sym ea ∙ ap (λ (n : ℕ). get_or s.set n a) e ∙ eb2
      | inr (inl lt) ↦ absurd (trail.apart i j a lt lj (ap (λ (e : Entry). variable_of e.lit) ea ∙ same ∙ sym (ap (λ (e : Entry). variable_of e.lit) eb2)))
      | inr (inr gt) ↦ absurd (trail.apart j i a gt li (ap (λ (e : Entry). variable_of e.lit) eb2 ∙ sym same ∙ sym (ap (λ (e : Entry). variable_of e.lit) ea)))
    ]

-- no entry has the negation of another's literal
pub not_both_set : (s : TrailState) → IsTrail s → (a b : Entry) → Contains s.set a → Contains s.set b → a.lit ≡ negated b.lit → ⊥
not_both_set s trail a b ha hb h =
    let one : a ≡ b = one_entry s trail a b ha hb (ap variable_of h ∙ variable_of-negated b.lit) in
    ne_negated b.lit (sym (ap (λ (e : Entry). e.lit) one) ∙ h)

-- what is true is consistent
pub set_consistent : (s : TrailState) → IsTrail s → IsConsistent (literals s.set)
set_consistent s trail k d lt = λ h.
    let a = Contains-from_map (λ (e : Entry). e.lit) s.set (get_or (literals s.set) k d) (Contains-get_or (literals s.set) k d lt) in
    let b = Contains-from_map (λ (e : Entry). e.lit) s.set (negated (get_or (literals s.set) k d)) h in
    not_both_set s trail b.0 a.0 b.1 a.1 (b.2 ∙ ap negated (sym a.2))

read_map : {X Y : Type 0} (f : X → Y) (xs : List X) (k : ℕ) (d : X) → get_or (map f xs) k (f d) ≡ f (get_or xs k d)
read_map f [] k d = refl
read_map f (x ∷ xs) zero d = refl
read_map f (x ∷ xs) (suc k) d = read_map f xs k d

any_below : (f : Entry → ℕ) (set : List Entry) (n q : ℕ) → All (λ e. f e < n) set → list_any (eqb q) (map f set) ≡ true → q < n
any_below f [] n q all h = absurd cc
any_below f (e ∷ es) n q all h =
    ⊎_elim
    (λ here. let same = eqb-true q (f e) here in let bound = all 0 e (omega arith) in omega arith)
    (λ rest. any_below f es n q (λ k d lt. all (suc k) d (omega arith)) rest)
    (or_cases (eqb q (f e)) (list_any (eqb q) (map f es)) h)

apart_variables : (f : Entry → ℕ) (set : List Entry) → AllPairs (λ a b. f a ≢ f b) set → (i j d : ℕ) → i < j → j < length (map f set) → eqb (get_or (map f set) i d) (get_or (map f set) j d) ≡ false
apart_variables f [] apart i j d lt within = absurd (omega (arith, within))
apart_variables f (x ∷ xs) apart i j d lt within =
    let short : length (map f (x ∷ xs)) ≡ length (x ∷ xs) = length-map (x ∷ xs) f in
    ne_eqb _ _ (λ same. apart i j x lt (omega arith)
    (sym (read_map f (x ∷ xs) i x) ∙ get_or_default (map f (x ∷ xs)) i (f x) d (omega arith) ∙ same ∙ get_or_default (map f (x ∷ xs)) j d (f x) (omega arith) ∙ read_map f (x ∷ xs) j x))

-- entries with different variables are no more than the variables: room in the order, and the measure of the search
pub entries_fit : (set : List Entry) (n : ℕ) → All (λ e. variable_of e.lit < n) set → AllPairs (λ a b. variable_of a.lit ≢ variable_of b.lit) set → length set ≤ n
entries_fit set n known apart =
    let f : Entry → ℕ = λ e. variable_of e.lit in
    let distinct = IsDistinct-from_apart eqb (map f set) (apart_variables f set apart) in
    let bound = length-le_from_distinct_below (map f set) n distinct (λ q h. any_below f set n q known h) in
    let same : length (map f set) ≡ length set = length-map set f in
    omega arith

-- ---- the entry of a variable

found_at : (first : Entry) (set : List Entry) (e : Entry) (b : Bool) → eqb (variable_of first.lit) (variable_of e.lit) ≡ b → (b ≡ true → first ≡ e) → (b ≡ false → entry_of set (variable_of e.lit) ≡ Some e)
    → cond b (Some first) (entry_of set (variable_of e.lit)) ≡ Some e
found_at first set e true same one rest = ap (λ (x : Entry). Some x) (one refl)
found_at first set e false same one rest = rest refl

entry_found : (set : List Entry) (e : Entry) → Contains set e → ((x : Entry) → Contains set x → variable_of x.lit ≡ variable_of e.lit → x ≡ e) → entry_of set (variable_of e.lit) ≡ Some e
entry_found [] e has one = absurd (omega (arith, has.1))
entry_found (x ∷ xs) e (zero, lt, at) one =
    found_at x xs e (eqb (variable_of x.lit) (variable_of e.lit)) refl (λ _. at) (λ off. absurd (eqb-false (variable_of x.lit) (variable_of e.lit) off (ap (λ (y : Entry). variable_of y.lit) at)))
entry_found (x ∷ xs) e (suc k, lt, at) one =
    found_at x xs e (eqb (variable_of x.lit) (variable_of e.lit)) refl
    (λ on. one x (0, omega arith, refl) (eqb-true (variable_of x.lit) (variable_of e.lit) on))
    (λ _. entry_found xs e (k, omega arith, at) (λ y (j, below, h) same. one y (suc j, omega arith, h) same))

-- an entry of the trail is the entry of its variable
pub entry_held : (s : TrailState) (e : Entry) → IsTrail s → Contains s.set e → entry_of s.set (variable_of e.lit) ≡ Some e
entry_held s e trail has = entry_found s.set e has (λ x h same. one_entry s trail x e h has same)
