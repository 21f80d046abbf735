-- The steps of the walk.
use Rattle.std.proofs.Common.{◌≡◌, ◌≢◌, ℕ, zero, suc, ◌+◌, ◌<◌, ◌≤◌, ◌⊎◌, inl, inr, ⊎_elim, Bool, true, false, cond, eqb, ◌||◌, ◌&&◌, List, [], ◌∷◌, ◌++◌, length, get_or, take, refl, sym, ◌∙◌, ap, subst, arith}
use Rattle.std.specs.List.{All, Contains, list_any, count_by}
use Rattle.std.proofs.Math.Bool.{or-false, or-true}
use Rattle.std.proofs.lemmas.Bool.{cases_lt, cases_eq, cases_Bool, eq-eqb, ne_eqb, or_left, or_right, and_parts, true≢false}
use Rattle.std.proofs.lemmas.List.{get_or-take, length-take-le, get_or_default}
use Rattle.std.proofs.lemmas.List.Folds.{list_any-append}
use Rattle.std.proofs.lemmas.List.Sums.{count_by_more_yes, sum_by-cons}
use Rattle.std.proofs.lemmas.List.Elements.{All-contains, All-push, Contains-get_or, Contains-push, Contains-push_cases, Contains-append_left}
use Rattle.lz_cnf.specs.declared.clause.Lit.{Lit}
use Rattle.lz_cnf.specs.Models.{variable_of, negated}
use Rattle.lz_cnf.specs.Partial.{IsFalseLit}
use Rattle.lz_log.specs.Refutation.{LeadsToFalse}
use Rattle.lz_prop.specs.Trail.{Entry, TrailState, IsTrail, literals}
use Rattle.lz_analyze.specs.Learnt.{IsFalseAt}
use Rattle.lz_analyze.specs.Walks.{is_open, IsLeft, IsWalk}
use Rattle.lz_prop.proofs.LitLemmas.{Contains-map}
use Rattle.lz_prop.proofs.EntryLemmas.{one_entry, set_consistent}
use Rattle.lz_analyze.proofs.LeadsLemmas.{resolved_leads}
use Rattle.std.proofs.lemmas.List.Quantifiers.{all_pairs_push}
use Rattle.lz_cnf.specs.Partial.{IsNamed}
use Rattle.lz_cnf.proofs.LitLemmas.{variable_of-negated, negated-negated}

-- 1 where the test passes
bit : Bool → ℕ
bit b = cond b 1 0

counted-cons : {X : Type 0} (p : X → Bool) (y : X) (ys : List X) → count_by p (y ∷ ys) ≡ bit (p y) + count_by p ys
unfolding bit
counted-cons p y ys = sum_by-cons (λ x. cond (p x) 1 0) y ys

bit-true : (b : Bool) → b ≡ true → bit b ≡ 1
unfolding bit
bit-true b e = ap (λ (b : Bool). let n : ℕ = cond b 1 0 in n) e

bit-false : (b : Bool) → b ≡ false → bit b ≡ 0
unfolding bit
bit-false b e = ap (λ (b : Bool). let n : ℕ = cond b 1 0 in n) e

same_count : {X : Type 0} (p q : X → Bool) (xs : List X) (d : X) → ((k : ℕ) → k < length xs → q (get_or xs k d) ≡ p (get_or xs k d)) → count_by q xs ≡ count_by p xs
same_count p q [] d same = refl
same_count p q (y ∷ ys) d same =
    let here : q y ≡ p y = same 0 (omega arith) in
    let rest : count_by q ys ≡ count_by p ys = same_count p q ys d (λ k lt. same (suc k) (omega arith)) in
    let one : bit (q y) ≡ bit (p y) = ap bit here in
    omega (arith, counted-cons p y ys, counted-cons q y ys)

-- one element more passes
pub count_one_more : {X : Type 0} (p q : X → Bool) (xs : List X) (j : ℕ) (x : X) → j < length xs → get_or xs j x ≡ x → p x ≡ false → q x ≡ true
    → ((k : ℕ) → k < length xs → (k ≡ j → ⊥) → q (get_or xs k x) ≡ p (get_or xs k x)) → count_by q xs ≡ count_by p xs + 1
count_one_more p q [] j x lt at fails passes same = absurd (omega (arith, lt))
count_one_more p q (y ∷ ys) zero x lt at fails passes same =
    let rest : count_by q ys ≡ count_by p ys = same_count p q ys x (λ k lt. same (suc k) (omega arith) (λ h. absurd (omega arith))) in
    let one : bit (q y) ≡ 1 = bit-true (q y) (ap q at ∙ passes) in
    let two : bit (p y) ≡ 0 = bit-false (p y) (ap p at ∙ fails) in
    omega (arith, counted-cons p y ys, counted-cons q y ys)
count_one_more p q (y ∷ ys) (suc j) x lt at fails passes same =
    let rest : count_by q ys ≡ count_by p ys + 1 = count_one_more p q ys j x (omega arith) at fails passes (λ k lt ne. same (suc k) (omega arith) (λ h. ne (omega arith))) in
    let here : q y ≡ p y = same 0 (omega arith) (λ h. absurd (omega arith)) in
    let one : bit (q y) ≡ bit (p y) = ap bit here in
    omega (arith, counted-cons p y ys, counted-cons q y ys)

pub none_counted : {X : Type 0} (p : X → Bool) (xs : List X) (x : X) → count_by p xs ≡ 0 → Contains xs x → p x ≡ true → ⊥
none_counted p [] x zero_ h passes = omega (arith, h.1)
none_counted p (y ∷ ys) x zero_ (zero, lt, e) passes =
    let one : bit (p y) ≡ 1 = bit-true (p y) (ap p e ∙ passes) in
    omega (arith, counted-cons p y ys)
none_counted p (y ∷ ys) x zero_ (suc k, lt, e) passes = none_counted p ys x (omega (arith, counted-cons p y ys)) (k, omega arith, e) passes

pub some_counted : {X : Type 0} (p : X → Bool) (xs : List X) → 0 < count_by p xs → (x : X) × Contains xs x × (p x ≡ true)
some_counted p [] positive = absurd (omega (arith, positive))
some_counted p (y ∷ ys) positive =
    elim (cases_Bool (p y)) [
      | inl passes ↦ (y, (0, omega arith, refl), passes)
      | inr fails ↦
          let none : bit (p y) ≡ 0 = bit-false (p y) fails in
          let rest = some_counted p ys (omega (arith, counted-cons p y ys)) in
          (rest.0, (suc rest.1.0, omega (arith, rest.1.1), rest.1.2), rest.2)
    ]

-- ---- marks

marked_more : (v w : ℕ) (marked : List ℕ) → list_any (eqb v) (marked ++ w ∷ []) ≡ (list_any (eqb v) marked || (eqb v w || false))
marked_more v w marked = list_any-append (eqb v) marked (w ∷ [])

others_as_before : (v w : ℕ) (marked : List ℕ) → (v ≡ w → ⊥) → list_any (eqb v) (marked ++ w ∷ []) ≡ list_any (eqb v) marked
others_as_before v w marked ne =
    marked_more v w marked ∙ ap (λ (b : Bool). list_any (eqb v) marked || (b || false)) (ne_eqb v w ne) ∙ or-false (list_any (eqb v) marked)

pub own_mark : (v w : ℕ) (marked : List ℕ) → v ≡ w → list_any (eqb v) (marked ++ w ∷ []) ≡ true
own_mark v w marked e =
    marked_more v w marked ∙ ap (λ (b : Bool). list_any (eqb v) marked || (b || false)) (eq-eqb v w e) ∙ or-true (list_any (eqb v) marked)

more_open : (level w : ℕ) (marked : List ℕ) (e : Entry) → is_open level marked e ≡ true → is_open level (marked ++ w ∷ []) e ≡ true
more_open level w marked e h =
    let parts = and_parts (eqb e.level level) (list_any (eqb (variable_of e.lit)) marked) h in
    ap (λ (b : Bool). b && list_any (eqb (variable_of e.lit)) (marked ++ w ∷ [])) parts.0
    ∙ marked_more (variable_of e.lit) w marked ∙ ap (λ (b : Bool). b || (eqb (variable_of e.lit) w || false)) parts.1

pub more_left : (s : TrailState) (marked : List ℕ) (low : List Lit) (i w : ℕ) (lit : Lit) → IsLeft s marked low i lit → IsLeft s (marked ++ w ∷ []) low i lit
more_left s marked low i w lit (inl h) = inl h
more_left s marked low i w lit (inr h) =
    inr (record { entry = h.entry; within = h.within; negates = h.negates; open_ = more_open s.level w marked h.entry h.open_ })

pub front_of : {X : Type 0} (i : ℕ) (xs : List X) (x : X) → i ≤ length xs → Contains (take i xs) x → Contains xs x
front_of i xs x le (k, lt, e) =
    let short = length-take-le i xs le in
    (k, omega arith, sym (get_or-take i xs k x (omega arith)) ∙ e)

-- a false literal of the present level is met for the first time
pub mark_open : (s : TrailState) (todo : Lit → Type 0) (marked : List ℕ) (low : List Lit) (i pending : ℕ) (hints : List ℕ) (lit : Lit) (e : Entry) → IsTrail s → IsWalk s todo marked low i pending hints
    → Contains (take i s.set) e → e.lit ≡ negated lit → e.level ≡ s.level → list_any (eqb (variable_of lit)) marked ≡ false
    → IsWalk s todo (marked ++ variable_of lit ∷ []) low i (pending + 1) hints
mark_open s todo marked low i pending hints lit e trail walk within negates level unmarked =
    let v = variable_of lit in
    let same : variable_of e.lit ≡ v = ap variable_of negates ∙ variable_of-negated lit in
    let short = length-take-le i s.set walk.within in
    let j = within.0 in
    let fails : is_open s.level marked e ≡ false =
    ap (λ (b : Bool). b && list_any (eqb (variable_of e.lit)) marked) (eq-eqb e.level s.level level) ∙ ap (λ (w : ℕ). list_any (eqb w) marked) same ∙ unmarked in
    let passes : is_open s.level (marked ++ v ∷ []) e ≡ true =
    ap (λ (b : Bool). b && list_any (eqb (variable_of e.lit)) (marked ++ v ∷ [])) (eq-eqb e.level s.level level) ∙ own_mark (variable_of e.lit) v marked same in
    let others : (k : ℕ) → k < length (take i s.set) → (k ≡ j → ⊥) → is_open s.level (marked ++ v ∷ []) (get_or (take i s.set) k e) ≡ is_open s.level marked (get_or (take i s.set) k e) = λ k lt ne.
    let x = get_or (take i s.set) k e in
    let differ : variable_of x.lit ≡ v → ⊥ = λ h.
    let at_k : get_or (take i s.set) k e ≡ get_or s.set k e = get_or-take i s.set k e (omega arith) in
    let at_j : get_or s.set j e ≡ e = sym (get_or-take i s.set j e (omega (arith, within.1))) ∙ within.2 in
    let lit_k : variable_of (get_or s.set k e).lit ≡ v = sym (ap (λ (y : Entry). variable_of y.lit) at_k) ∙ h in
    let lit_j : variable_of (get_or s.set j e).lit ≡ v = ap (λ (y : Entry). variable_of y.lit) at_j ∙ same in
    elim (cases_lt k j) [
      | inl below ↦ trail.apart k j e below (omega (arith, within.1)) (lit_k ∙ sym lit_j)
      | inr above ↦ trail.apart j k e (omega (arith, ne)) (omega arith) (lit_j ∙ sym lit_k)
    ] in
    ap (λ (b : Bool). eqb x.level s.level && b) (others_as_before (variable_of x.lit) v marked differ) in
    record {
      within = walk.within;
      lower = walk.lower;
      low_marked = λ k d lt. Contains-append_left marked (v ∷ []) (variable_of (get_or low k d)) (walk.low_marked k d lt);
      apart = walk.apart;
      told = λ l at h. ⊎_elim
          (λ old. walk.told l at old)
          (λ new.
          let one : e ≡ at.entry = one_entry s trail e at.entry (front_of i s.set e walk.within within) at.within
          (same ∙ new ∙ sym (variable_of-negated l) ∙ sym (ap variable_of at.negates)) in
          let levels : e.level ≡ at.entry.level = ap (λ (y : Entry). y.level) one in
          let below = at.level in
          absurd (omega arith))
          (Contains-push_cases marked v (variable_of l) h);
      count = ap (λ (n : ℕ). n + 1) walk.count ∙ sym (count_one_more (is_open s.level marked) (is_open s.level (marked ++ v ∷ [])) (take i s.set) j e within.1 within.2 fails passes others);
      leads = λ false_ are covers. walk.leads false_ are (λ l h. covers l (⊎_elim (λ g. inl (more_left s marked low i v l g)) (λ g. inr g) h));
    }

-- one open entry is left, at the last place: with its negation the low literals are a clause by the hints
pub last_open_leads : (s : TrailState) (todo : Lit → Type 0) (marked : List ℕ) (low clause : List Lit) (i : ℕ) (d : Entry) (hints : List ℕ) → IsTrail s → IsWalk s todo marked low (i + 1) 1 hints → ((l : Lit) → todo l → ⊥)
    → is_open s.level marked (get_or s.set i d) ≡ true
    → All (IsFalseLit (literals s.set)) clause → All (Contains clause) low → Contains clause (negated (get_or s.set i d).lit)
    → LeadsToFalse s.clauses clause hints
last_open_leads s todo marked low clause i d hints trail walk done passes are has_low has_last =
    let p = is_open s.level marked in
    let within : i < length s.set = (let w = walk.within in omega arith) in
    let step = count_by_more_yes p s.set i d within passes in
    let none : count_by p (take i s.set) ≡ 0 = (let c = walk.count in omega arith) in
    walk.leads clause are (λ l all_left. ⊎_elim (λ left. ⊎_elim
    (λ h. All-contains (Contains clause) low l has_low h)
    (λ open_.
    let k = open_.within.0 in
    let short = length-take-le (i + 1) s.set walk.within in
    let at_k : get_or s.set k open_.entry ≡ open_.entry = sym (get_or-take (i + 1) s.set k open_.entry (omega (arith, open_.within.1))) ∙ open_.within.2 in
    elim (cases_lt k i) [
      | inl below ↦
          (let front : Contains (take i s.set) open_.entry = (k, (let short2 = length-take-le i s.set (omega arith) in omega arith), get_or-take i s.set k open_.entry below ∙ at_k) in
          absurd (none_counted p (take i s.set) open_.entry none front open_.open_))
      | inr above ↦
          (let at : k ≡ i = omega (arith, open_.within.1) in
          let same : get_or s.set i d ≡ open_.entry = get_or_default s.set i d open_.entry within ∙ ap (λ (n : ℕ). get_or s.set n open_.entry) (sym at) ∙ at_k in
          let back : negated (get_or s.set i d).lit ≡ l = ap (λ (e : Entry). negated e.lit) same ∙ ap negated open_.negates ∙ negated-negated l in
          subst (Contains clause) back has_last)
    ])
    left) (λ h. absurd (done l h)) all_left)

pub marked_is : (marked : List ℕ) (v : ℕ) → Contains marked v → list_any (eqb v) marked ≡ true
marked_is [] v h = absurd (omega (arith, h.1))
marked_is (w ∷ ws) v (zero, lt, e) = or_left (eqb v w) (list_any (eqb v) ws) (eq-eqb v w (sym e))
marked_is (w ∷ ws) v (suc k, lt, e) = or_right (eqb v w) (list_any (eqb v) ws) (marked_is ws v (k, omega arith, e))

-- a false literal of a lower level is met for the first time
pub mark_low : (s : TrailState) (todo : Lit → Type 0) (marked : List ℕ) (low : List Lit) (i pending : ℕ) (hints : List ℕ) (lit : Lit) → IsTrail s → IsWalk s todo marked low i pending hints
    → IsFalseAt s.set (λ level. level < s.level) lit → list_any (eqb (variable_of lit)) marked ≡ false
    → IsWalk s todo (marked ++ variable_of lit ∷ []) (low ++ lit ∷ []) i pending hints
mark_low s todo marked low i pending hints lit trail walk at unmarked =
    let v = variable_of lit in
    let e = at.entry in
    let same : variable_of e.lit ≡ v = ap variable_of at.negates ∙ variable_of-negated lit in
    let fresh : (l : Lit) → Contains low l → variable_of l ≡ v → ⊥ = λ l h is.
    let has : Contains marked (variable_of l) = All-contains (λ (x : Lit). Contains marked (variable_of x)) low l walk.low_marked h in
    true≢false (sym (marked_is marked (variable_of l) has) ∙ ap (λ (w : ℕ). list_any (eqb w) marked) is ∙ unmarked) in
    let each : (k : ℕ) → k < length (take i s.set) → is_open s.level (marked ++ v ∷ []) (get_or (take i s.set) k e) ≡ is_open s.level marked (get_or (take i s.set) k e) = λ k lt.
    let x = get_or (take i s.set) k e in
    elim (cases_eq (variable_of x.lit) v) [
      | inr ne ↦ ap (λ (b : Bool). eqb x.level s.level && b) (others_as_before (variable_of x.lit) v marked ne)
      | inl is ↦
          (let one : x ≡ e = one_entry s trail x e (front_of i s.set x walk.within (Contains-get_or (take i s.set) k e lt)) at.within (is ∙ sym same) in
          let below = at.level in
          let off : eqb x.level s.level ≡ false = ne_eqb x.level s.level (λ h. let lv : x.level ≡ e.level = ap (λ (y : Entry). y.level) one in omega arith) in
          ap (λ (b : Bool). b && list_any (eqb (variable_of x.lit)) (marked ++ v ∷ [])) off ∙ sym (ap (λ (b : Bool). b && list_any (eqb (variable_of x.lit)) marked) off))
    ] in
    record {
      within = walk.within;
      lower = All-push (IsFalseAt s.set (λ level. level < s.level)) low lit walk.lower at;
      low_marked = All-push (λ l. Contains (marked ++ v ∷ []) (variable_of l)) low lit
          (λ k d lt. Contains-append_left marked (v ∷ []) (variable_of (get_or low k d)) (walk.low_marked k d lt)) (Contains-push marked v);
      apart = all_pairs_push (λ (a b : Lit). variable_of a ≢ variable_of b) low lit walk.apart (λ k d lt. fresh (get_or low k d) (Contains-get_or low k d lt));
      told = λ l false_at h. ⊎_elim
          (λ old. Contains-append_left low (lit ∷ []) l (walk.told l false_at old))
          (λ new.
          let one : e ≡ false_at.entry = one_entry s trail e false_at.entry at.within false_at.within (same ∙ new ∙ sym (variable_of-negated l) ∙ sym (ap variable_of false_at.negates)) in
          let is : lit ≡ l = sym (negated-negated lit) ∙ ap negated (sym at.negates ∙ ap (λ (y : Entry). y.lit) one ∙ false_at.negates) ∙ negated-negated l in
          subst (Contains (low ++ lit ∷ [])) is (Contains-push low lit))
          (Contains-push_cases marked v (variable_of l) h);
      count = walk.count ∙ sym (same_count (is_open s.level marked) (is_open s.level (marked ++ v ∷ [])) (take i s.set) e each);
      leads = λ false_ are covers. walk.leads false_ are (λ l h. covers l (⊎_elim
          (λ left. ⊎_elim
          (λ in_low. inl (inl (Contains-append_left low (lit ∷ []) l in_low)))
          (λ open_. inl (inr (record { entry = open_.entry; within = open_.within; negates = open_.negates; open_ = more_open s.level v marked open_.entry open_.open_ })))
          left)
          (λ g. inr g) h));
    }

-- the clause at hand is looked through further
pub todo_less : (s : TrailState) (todo rest : Lit → Type 0) (marked : List ℕ) (low : List Lit) (i pending : ℕ) (hints : List ℕ) → IsWalk s todo marked low i pending hints
    → ((l : Lit) → todo l → IsLeft s marked low i l ⊎ rest l) → IsWalk s rest marked low i pending hints
todo_less s todo rest marked low i pending hints walk less = record {
  within = walk.within;
  lower = walk.lower;
  low_marked = walk.low_marked;
  apart = walk.apart;
  told = walk.told;
  count = walk.count;
  leads = λ false_ are covers. walk.leads false_ are (λ l h. covers l (⊎_elim (λ g. inl g) (λ g. less l g) h));
}

-- the open entry at the place `i` is resolved by its reason
pub resolve : (s : TrailState) (todo : Lit → Type 0) (marked : List ℕ) (low : List Lit) (i pending next : ℕ) (hints : List ℕ) (d : Entry) (reason : ℕ) (clause : List Lit)
    → IsTrail s → IsWalk s todo marked low (i + 1) (pending + 1) (next ∷ hints) → ((l : Lit) → todo l → ⊥)
    → is_open s.level marked (get_or s.set i d) ≡ true → IsNamed s.clauses reason clause → Contains clause (get_or s.set i d).lit
    → IsWalk s (λ l. Contains clause l × (l ≡ (get_or s.set i d).lit → ⊥)) marked low i pending (reason ∷ next ∷ hints)
resolve s todo marked low i pending next hints d reason clause trail walk done passes named has =
    let e = get_or s.set i d in
    let within : i < length s.set = (let w = walk.within in omega arith) in
    let step = count_by_more_yes (is_open s.level marked) s.set i d within passes in
    let in_set : Contains s.set e = Contains-get_or s.set i d within in
    let before : (l : Lit) → (IsLeft s marked low (i + 1) l ⊎ todo l) → (l ≡ negated e.lit) ⊎ (IsLeft s marked low i l ⊎ (Contains clause l × (l ≡ e.lit → ⊥))) = λ l h.
    ⊎_elim
    (λ left. ⊎_elim
    (λ in_low. inr (inl (inl in_low)))
    (λ open_.
    let k = open_.within.0 in
    let short = length-take-le (i + 1) s.set walk.within in
    let at_k : get_or s.set k open_.entry ≡ open_.entry = sym (get_or-take (i + 1) s.set k open_.entry (omega (arith, open_.within.1))) ∙ open_.within.2 in
    elim (cases_lt k i) [
      | inl below ↦ (let short2 = length-take-le i s.set (omega arith) in
          inr (inl (inr (record { entry = open_.entry; within = (k, omega arith, get_or-take i s.set k open_.entry below ∙ at_k); negates = open_.negates; open_ = open_.open_ }))))
      | inr above ↦ (let at : k ≡ i = omega (arith, open_.within.1) in
          let same : e ≡ open_.entry = get_or_default s.set i d open_.entry within ∙ ap (λ (n : ℕ). get_or s.set n open_.entry) (sym at) ∙ at_k in
          inl (sym (negated-negated l) ∙ ap negated (sym open_.negates) ∙ sym (ap (λ (y : Entry). negated y.lit) same)))
    ])
    left)
    (λ g. absurd (done l g)) h in
    let after : (l : Lit) → Contains clause l → (l ≡ e.lit) ⊎ (IsLeft s marked low i l ⊎ (Contains clause l × (l ≡ e.lit → ⊥))) = λ l h.
    elim (cases_eq l.0 (e.lit).0) [
      | inl same ↦ inl (ap (λ (n : ℕ). let y : Lit = record { 0 = n } in y) same)
      | inr ne ↦ inr (inr (h, λ is. ne (ap (λ (y : Lit). y.0) is)))
    ] in
    record {
      within = omega arith;
      lower = walk.lower;
      low_marked = walk.low_marked;
      apart = walk.apart;
      told = walk.told;
      count = (let c = walk.count in omega arith);
      leads = resolved_leads (literals s.set) s.clauses (λ l. IsLeft s marked low (i + 1) l ⊎ todo l) (λ l. IsLeft s marked low i l ⊎ (Contains clause l × (l ≡ e.lit → ⊥)))
          reason next hints e.lit clause (set_consistent s trail) (Contains-map (λ (y : Entry). y.lit) s.set e in_set) named has after before walk.leads;
    }
