-- Guarded clauses stay guarded, and are open where nothing waits.
use Rattle.std.proofs.Common.{◌≡◌, ℕ, suc, ◌+◌, ◌-◌, ◌*◌, ◌/◌, ◌%◌, ◌<◌, ◌≤◌, ◌⊎◌, inl, inr, ⊎_elim, Bool, true, false, cond, eqb, List, [], ◌∷◌, ◌++◌, length, get_or, set, take, refl, sym, ◌∙◌, ap, subst, arith}
use Rattle.std.specs.List.{All, Contains}
use Rattle.std.proofs.lemmas.Bool.{cases_eq, cases_lt, eqb-false, eq-eqb, ne_eqb}
use Rattle.std.proofs.lemmas.List.{length-append, length-set, length-take-le, get_or_append_left, get_or_push, get_or-set_same, get_or-set_other, get_or_default, get_or-take, take_all, take-append-le, take-take, take_more}
use Rattle.std.proofs.lemmas.List.Elements.{Contains-append_left, Contains-push_cases}
use Rattle.lz_cnf.specs.declared.clause.Lit.{Lit}
use Rattle.lz_cnf.specs.Models.{negated}
use Rattle.lz_cnf.specs.Partial.{IsFalseLit, IsConsistent, IsOpen, IsQuiet}
use Rattle.lz_cnf.proofs.LitLemmas.{variable_of-negated, negated-negated, ne_negated, same_lit, contains_or}
use Rattle.lz_prop.specs.Watch.{twin}
use Rattle.lz_prop.specs.Guarded.{IsSatisfied, Guards, IsGuarded, AreGuarded, WereGuarded, AreFronts}
use Rattle.lz_prop.proofs.OpenLemmas.{satisfied_is_open, two_are_open}
use Rattle.lz_prop.proofs.ScanLemmas.{front_in}

-- ---- what guards give

satisfied_open : (order clause : List Lit) → IsConsistent order → IsSatisfied order clause → IsOpen order clause
satisfied_open order clause consistent is = satisfied_is_open order clause is.lit consistent is.within is.is_true

-- where all true literals are handled, a clause with two guards is neither unit nor false
pub guarded_open : (order clause : List Lit) (one other : Lit) → IsConsistent order → IsGuarded order order clause one other → IsOpen order clause
guarded_open order clause one other consistent is =
    elim (contains_or order (negated one)) [
      | inl f ↦ satisfied_open order clause consistent (is.left.satisfied f)
      | inr one_left ↦ elim (contains_or order (negated other)) [
        | inl f ↦ satisfied_open order clause consistent (is.right.satisfied f)
        | inr other_left ↦ elim (cases_eq one.0 other.0) [
          | inl same ↦ satisfied_open order clause consistent (is.same (same_lit one other same))
          | inr differ ↦ two_are_open order clause one other (λ h. differ (ap (λ (l : Lit). l.0) h)) is.left.within is.right.within one_left other_left
        ]
      ]
    ]

-- ---- what keeps a guard

pub satisfied_more : (true_ clause : List Lit) (x : Lit) → IsSatisfied true_ clause → IsSatisfied (true_ ++ x ∷ []) clause
satisfied_more true_ clause x is = record { lit = is.lit; within = is.within; is_true = Contains-append_left true_ (x ∷ []) is.lit is.is_true }

-- one literal more is true; what is handled stays
pub guards_more : (order : List Lit) (head : ℕ) (x : Lit) (clause : List Lit) (lit : Lit) → head ≤ length order → Guards order (take head order) clause lit
    → Guards (order ++ x ∷ []) (take head (order ++ x ∷ [])) clause lit
guards_more order head x clause lit le guards = record {
  within = guards.within;
  satisfied = λ h. satisfied_more order clause x (guards.satisfied (subst (λ (xs : List Lit). IsFalseLit xs lit) (take-append-le head order (x ∷ []) le) h));
}

-- the first literal that waits is handled, and it does not make the guard false
pub guards_next : (order : List Lit) (head : ℕ) (d : Lit) (clause : List Lit) (lit : Lit) → head < length order → (negated (get_or order head d) ≡ lit → ⊥)
    → Guards order (take head order) clause lit → Guards order (take (head + 1) order) clause lit
guards_next order head d clause lit lt other guards = record {
  within = guards.within;
  satisfied = λ h. ⊎_elim
      guards.satisfied
      (λ at. absurd (other (ap negated at ∙ negated-negated lit)))
      (Contains-push_cases (take head order) (get_or order head d) (negated lit) (subst (λ (xs : List Lit). IsFalseLit xs lit) (take_more order head d lt) h));
}

-- a literal that is not false guards at every front of the order, with whatever is handled of it
pub guards_moved : (order true_ : List Lit) (head : ℕ) (clause : List Lit) (lit : Lit) → Contains clause lit → (IsFalseLit order lit → ⊥) → Guards true_ (take head order) clause lit
guards_moved order true_ head clause lit within left = record {
  within = within;
  satisfied = λ h. absurd (left (front_in order head (negated lit) h));
}

-- a satisfied clause is guarded by each of its literals
pub guards_satisfied : (true_ handled clause : List Lit) (lit : Lit) → Contains clause lit → IsSatisfied true_ clause → Guards true_ handled clause lit
guards_satisfied true_ handled clause lit within is = record { within = within; satisfied = λ h. is }

-- ---- the first look at a clause

-- where all literals but one are false and the clause is open, that one is true
pub open_satisfied : (front clause : List Lit) (x : Lit) → IsOpen front clause → Contains clause x → All (λ l. (l ≡ x) ⊎ IsFalseLit front l) clause → IsSatisfied front clause
open_satisfied front clause x open_ has all =
    elim (contains_or front x) [
      | inl is_true ↦ record { lit = x; within = has; is_true = is_true }
      | inr not_true ↦ elim (contains_or front (negated x)) [
        | inl is_false ↦ absurd (open_.not_false (λ k d lt. ⊎_elim (λ same. subst (IsFalseLit front) (sym same) is_false) (λ f. f) (all k d lt)))
        | inr not_false ↦ absurd (open_.not_unit (x, has, (not_true, not_false), all))
      ]
    ]

-- The false literal that was set last guards at each decision, where the clause was open: if it was false there, all but
-- the one that is left were.
pub last_guards : (front clause : List Lit) (head : ℕ) (x y : Lit) → Contains clause x → Contains clause y → IsOpen front clause
    → (IsFalseLit front y → All (λ l. (l ≡ x) ⊎ IsFalseLit front l) clause) → Guards front (take head front) clause y
last_guards front clause head x y has_x has_y open_ all = record {
  within = has_y;
  satisfied = λ h. open_satisfied front clause x open_ has_x (all (front_in front head (negated y) h));
}

-- ---- the other watcher of a clause

twin_even : (k : ℕ) → twin (2 * k) ≡ 2 * k + 1
twin_even k =
    let even : eqb ((2 * k) % 2) 1 ≡ false = ne_eqb ((2 * k) % 2) 1 (λ e. omega arith) in
    ap (λ (b : Bool). cond b (2 * k - 1) (2 * k + 1)) even

twin_odd : (k : ℕ) → twin (2 * k + 1) ≡ 2 * k
twin_odd k =
    let odd : eqb ((2 * k + 1) % 2) 1 ≡ true = eq-eqb ((2 * k + 1) % 2) 1 (omega arith) in
    ap (λ (b : Bool). cond b (2 * k + 1 - 1) (2 * k + 1 + 1)) odd ∙ (let e : 2 * k + 1 - 1 ≡ 2 * k = omega arith in e)

within_at : (w n : ℕ) (odd : Bool) → eqb (w % 2) 1 ≡ odd → w < 2 * n → cond odd (w - 1) (w + 1) < 2 * n
within_at w n true e lt = omega arith
within_at w n false e lt = let ne = eqb-false (w % 2) 1 e in let even : w % 2 ≡ 0 = omega (arith, ne) in omega arith

pub twin_within : (w n : ℕ) → w < 2 * n → twin w < 2 * n
twin_within w n lt = within_at w n (eqb (w % 2) 1) refl lt

twin_twin : (w : ℕ) → twin (twin w) ≡ w
twin_twin w = ap (λ (l : Lit). l.0) (negated-negated (record { 0 = w }))

pub twin_half : (w : ℕ) → twin w / 2 ≡ w / 2
twin_half w = variable_of-negated (record { 0 = w })

twin_other : (w : ℕ) → twin w ≡ w → ⊥
twin_other w e = ne_negated (record { 0 = w }) (sym (ap (λ (n : ℕ). let l : Lit = record { 0 = n } in l) e))

-- ---- all watchers

-- one literal more is true
pub are_more : (clauses : List (List Lit)) (guards order : List Lit) (head : ℕ) (x : Lit) → head ≤ length order → AreGuarded clauses guards order (take head order)
    → AreGuarded clauses guards (order ++ x ∷ []) (take head (order ++ x ∷ []))
are_more clauses guards order head x le are = record {
  each = λ w c d lt. guards_more order head x (get_or clauses (w / 2) c) (get_or guards w d) le (are.each w c d lt);
  same = λ w c d lt e. satisfied_more order (get_or clauses (w / 2) c) x (are.same w c d lt e);
}

-- the literal that waits first is handled
pub are_next : (clauses : List (List Lit)) (guards order : List Lit) (head : ℕ) (lit : Lit) → head < length order → ((d : Lit) → lit ≡ negated (get_or order head d))
    → ((w : ℕ) (c : List Lit) → w < length guards → get_or guards w lit ≡ lit → Guards order (take (suc head) order) (get_or clauses (w / 2) c) lit)
    → AreGuarded clauses guards order (take head order) → AreGuarded clauses guards order (take (suc head) order)
are_next clauses guards order head lit lt is done are = record {
  each = λ w c d within. elim (cases_eq (get_or guards w d).0 lit.0) [
    | inl same ↦
        (let e : get_or guards w d ≡ lit = same_lit (get_or guards w d) lit same in
        subst (Guards order (take (suc head) order) (get_or clauses (w / 2) c)) (sym e) (done w c within (get_or_default guards w lit d within ∙ e)))
    | inr off ↦
        (let next : head + 1 ≡ suc head = omega arith in
        subst (λ (n : ℕ). Guards order (take n order) (get_or clauses (w / 2) c) (get_or guards w d)) next
        (guards_next order head lit (get_or clauses (w / 2) c) (get_or guards w d) lt (λ e. off (ap (λ (l : Lit). l.0) (sym e ∙ sym (is lit)))) (are.each w c d within)))
  ];
  same = are.same;
}

-- a watcher moves
pub are_moved : (clauses : List (List Lit)) (guards true_ handled : List Lit) (w : ℕ) (to : Lit) → w < length guards
    → ((c : List Lit) → Guards true_ handled (get_or clauses (w / 2) c) to) → ((d : Lit) → to ≡ get_or guards (twin w) d → ⊥) → AreGuarded clauses guards true_ handled → AreGuarded clauses (set guards w to) true_ handled
are_moved clauses guards true_ handled w to within guard differ are =
    let long = length-set guards w to in
    let old : (v : ℕ) (d : Lit) → (v ≡ w → ⊥) → get_or (set guards w to) v d ≡ get_or guards v d = λ v d off. get_or-set_other guards w v to d off in
    let own : (v : ℕ) (d : Lit) → v ≡ w → get_or (set guards w to) v d ≡ to = λ v d e. ap (λ (n : ℕ). get_or (set guards w to) n d) e ∙ get_or-set_same guards w to d within in
    record {
      each = λ v c d lt. elim (cases_eq v w) [
        | inl same ↦ subst (λ (l : Lit). Guards true_ handled (get_or clauses (v / 2) c) l) (sym (own v d same)) (subst (λ (n : ℕ). Guards true_ handled (get_or clauses (n / 2) c) to) (sym same) (guard c))
        | inr off ↦ subst (λ (l : Lit). Guards true_ handled (get_or clauses (v / 2) c) l) (sym (old v d off)) (are.each v c d (omega arith))
      ];
      same = λ v c d lt e. elim (cases_eq v w) [
        | inl same ↦
            (let off : twin v ≡ w → ⊥ = λ f. twin_other v (f ∙ sym same) in
            absurd (differ d (sym (own v d same) ∙ e ∙ old (twin v) d off ∙ ap (λ (n : ℕ). get_or guards (twin n) d) same)))
        | inr off ↦ elim (cases_eq (twin v) w) [
          | inl twin_is ↦ absurd (differ d (sym (own (twin v) d twin_is) ∙ sym e ∙ old v d off ∙ ap (λ (n : ℕ). get_or guards n d) (sym (twin_twin v) ∙ ap twin twin_is)))
          | inr twin_off ↦ are.same v c d (omega arith) (sym (old v d off) ∙ e ∙ old (twin v) d twin_off)
        ]
      ];
    }

-- two watchers more
pub are_watched : (clauses : List (List Lit)) (guards true_ handled : List Lit) (seen : ℕ) (one other : Lit) → length guards ≡ 2 * seen
    → ((c : List Lit) → IsGuarded true_ handled (get_or clauses seen c) one other) → AreGuarded clauses guards true_ handled → AreGuarded clauses ((guards ++ one ∷ []) ++ other ∷ []) true_ handled
are_watched clauses guards true_ handled seen one other long pair are =
    let n = length guards in
    let more = guards ++ one ∷ [] in
    let all = more ++ other ∷ [] in
    let long1 : length more ≡ suc n = (let e = length-append guards (one ∷ []) in omega arith) in
    let long2 : length all ≡ suc (suc n) = (let e = length-append more (other ∷ []) in omega arith) in
    let old : (v : ℕ) (d : Lit) → v < n → get_or all v d ≡ get_or guards v d = λ v d lt. get_or_append_left more (other ∷ []) d v (omega arith) ∙ get_or_append_left guards (one ∷ []) d v lt in
    let first : (v : ℕ) (d : Lit) → v ≡ 2 * seen → get_or all v d ≡ one = λ v d e. get_or_append_left more (other ∷ []) d v (omega arith) ∙ get_or_push guards one d v (long ∙ sym e) in
    let second : (v : ℕ) (d : Lit) → v ≡ 2 * seen + 1 → get_or all v d ≡ other = λ v d e. get_or_push more other d v (let f = long in omega arith) in
    record {
      each = λ v c d lt. elim (cases_lt v n) [
        | inl below ↦ subst (λ (l : Lit). Guards true_ handled (get_or clauses (v / 2) c) l) (sym (old v d below)) (are.each v c d below)
        | inr above ↦ elim (cases_eq v (2 * seen)) [
          | inl is ↦ subst (λ (l : Lit). Guards true_ handled (get_or clauses (v / 2) c) l) (sym (first v d is))
              (subst (λ (k : ℕ). Guards true_ handled (get_or clauses k c) one) (let e : seen ≡ v / 2 = omega arith in e) (pair c).left)
          | inr off ↦
              (let is : v ≡ 2 * seen + 1 = omega (arith, off) in
              subst (λ (l : Lit). Guards true_ handled (get_or clauses (v / 2) c) l) (sym (second v d is))
              (subst (λ (k : ℕ). Guards true_ handled (get_or clauses k c) other) (let e : seen ≡ v / 2 = omega arith in e) (pair c).right))
        ]
      ];
      same = λ v c d lt e. elim (cases_lt v n) [
        | inl below ↦
            (let inside : twin v < 2 * seen = twin_within v seen (omega arith) in
            are.same v c d below (sym (old v d below) ∙ e ∙ old (twin v) d (omega arith)))
        | inr above ↦ elim (cases_eq v (2 * seen)) [
          | inl is ↦
              (let twin_is : twin v ≡ 2 * seen + 1 = ap twin is ∙ twin_even seen in
              subst (λ (k : ℕ). IsSatisfied true_ (get_or clauses k c)) (let f : seen ≡ v / 2 = omega arith in f) ((pair c).same (sym (first v d is) ∙ e ∙ second (twin v) d twin_is)))
          | inr off ↦
              (let is : v ≡ 2 * seen + 1 = omega (arith, off) in
              let twin_is : twin v ≡ 2 * seen = ap twin is ∙ twin_odd seen in
              subst (λ (k : ℕ). IsSatisfied true_ (get_or clauses k c)) (let f : seen ≡ v / 2 = omega arith in f) ((pair c).same (sym (first (twin v) d twin_is) ∙ sym e ∙ second v d is)))
        ]
      ];
    }

-- a clause more, which was not looked at
pub are_kept : (clauses : List (List Lit)) (guards true_ handled clause : List Lit) → length guards ≤ 2 * length clauses → AreGuarded clauses guards true_ handled → AreGuarded (clauses ++ clause ∷ []) guards true_ handled
are_kept clauses guards true_ handled clause le are =
    let old : (w : ℕ) (c : List Lit) → w < length guards → get_or clauses (w / 2) c ≡ get_or (clauses ++ clause ∷ []) (w / 2) c = λ w c lt. sym (get_or_append_left clauses (clause ∷ []) c (w / 2) (omega arith)) in
    record {
      each = λ w c d lt. subst (λ (xs : List Lit). Guards true_ handled xs (get_or guards w d)) (old w c lt) (are.each w c d lt);
      same = λ w c d lt e. subst (IsSatisfied true_) (old w c lt) (are.same w c d lt e);
    }

-- the two watchers of a clause
pub pair_of : (clauses : List (List Lit)) (guards true_ handled : List Lit) (k : ℕ) (c : List Lit) (d : Lit) → 2 * k + 1 < length guards → AreGuarded clauses guards true_ handled
    → IsGuarded true_ handled (get_or clauses k c) (get_or guards (2 * k) d) (get_or guards (2 * k + 1) d)
pair_of clauses guards true_ handled k c d lt are =
    let even : (2 * k) / 2 ≡ k = omega arith in
    let odd : (2 * k + 1) / 2 ≡ k = omega arith in
    record {
      left = subst (λ (n : ℕ). Guards true_ handled (get_or clauses n c) (get_or guards (2 * k) d)) even (are.each (2 * k) c d (omega arith));
      right = subst (λ (n : ℕ). Guards true_ handled (get_or clauses n c) (get_or guards (2 * k + 1) d)) odd (are.each (2 * k + 1) c d lt);
      same = λ e. subst (λ (n : ℕ). IsSatisfied true_ (get_or clauses n c)) even (are.same (2 * k) c d (omega arith) (e ∙ ap (λ (n : ℕ). get_or guards n d) (sym (twin_even k))));
    }

-- nothing waits
pub guarded_quiet : (clauses : List (List Lit)) (guards order : List Lit) (head seen : ℕ) → IsConsistent order → length guards ≡ 2 * seen → AreGuarded clauses guards order (take head order) → length order ≤ head → length clauses ≤ seen
    → IsQuiet order clauses
guarded_quiet clauses guards order head seen consistent long are none all k c lt =
    let d : Lit = record { 0 = 0 } in
    guarded_open order (get_or clauses k c) (get_or guards (2 * k) d) (get_or guards (2 * k + 1) d) consistent
    (subst (λ (xs : List Lit). IsGuarded order xs (get_or clauses k c) (get_or guards (2 * k) d) (get_or guards (2 * k + 1) d)) (take_all head order none)
    (pair_of clauses guards order (take head order) k c d (omega arith) are))

-- ---- at each decision

-- what was true then is as it was
pub were_same : (clauses : List (List Lit)) (guards order order2 : List Lit) (starts fronts : List ℕ) → AreFronts starts fronts → ((k : ℕ) → k < length starts → get_or starts k 0 ≤ length order)
    → ((n : ℕ) → n ≤ length order → take n order2 ≡ take n order) → WereGuarded clauses guards order starts fronts → WereGuarded clauses guards order2 starts fronts
were_same clauses guards order order2 starts fronts are_fronts within same were k lt =
    let le = within k lt in
    let front = are_fronts.within k lt in
    rw (same (get_or starts k 0) le, same (get_or fronts k 0) (omega arith)) (were k lt)

-- one level more
pub were_decided : (clauses : List (List Lit)) (guards order order2 : List Lit) (starts fronts : List ℕ) (head : ℕ) → AreFronts starts fronts → ((k : ℕ) → k < length starts → get_or starts k 0 ≤ length order)
    → ((n : ℕ) → n ≤ length order → take n order2 ≡ take n order) → head ≤ length order → AreGuarded clauses guards order (take head order) → WereGuarded clauses guards order starts fronts
    → WereGuarded clauses guards order2 (starts ++ length order ∷ []) (fronts ++ head ∷ [])
were_decided clauses guards order order2 starts fronts head are_fronts within same le now were k lt =
    let long = length-append starts (length order ∷ []) in
    let fronts_long = are_fronts.long in
    elim (cases_lt k (length starts)) [
      | inl below ↦ rw (get_or_append_left starts (length order ∷ []) 0 k below, get_or_append_left fronts (head ∷ []) 0 k (omega arith))
          (were_same clauses guards order order2 starts fronts are_fronts within same were k below)
      | inr above ↦
          (let is : length starts ≡ k = omega arith in
          rw (get_or_push starts (length order) 0 k is, get_or_push fronts head 0 k (fronts_long ∙ is), same (length order) (omega arith), same head le, take_all (length order) order (omega arith)) now)
    ]

pub fronts_decided : (starts fronts : List ℕ) (start head : ℕ) → AreFronts starts fronts → head ≤ start → AreFronts (starts ++ start ∷ []) (fronts ++ head ∷ [])
fronts_decided starts fronts start head are le =
    let long = are.long in
    let a = length-append starts (start ∷ []) in let b = length-append fronts (head ∷ []) in
    record {
      long = omega arith;
      within = λ k lt. elim (cases_lt k (length starts)) [
        | inl below ↦ (let e = get_or_append_left starts (start ∷ []) 0 k below in let f = get_or_append_left fronts (head ∷ []) 0 k (omega arith) in let g = are.within k below in omega arith)
        | inr above ↦ (let e = get_or_push starts start 0 k (omega arith) in let f = get_or_push fronts head 0 k (omega arith) in omega arith)
      ];
    }

-- the levels above are gone
pub were_back : (clauses : List (List Lit)) (guards order : List Lit) (starts fronts : List ℕ) (level start : ℕ) → AreFronts starts fronts → level ≤ length starts → ((k : ℕ) → k < level → get_or starts k 0 ≤ start)
    → WereGuarded clauses guards order starts fronts → WereGuarded clauses guards (take start order) (take level starts) (take level fronts)
were_back clauses guards order starts fronts level start are within rises were k lt =
    let short = length-take-le level starts within in
    let rise = rises k (omega arith) in
    let front = are.within k (omega arith) in
    rw (get_or-take level starts k 0 (omega arith), get_or-take level fronts k 0 (omega arith), take-take (get_or starts k 0) start order rise, take-take (get_or fronts k 0) start order (omega arith)) (were k (omega arith))

pub fronts_back : (starts fronts : List ℕ) (level : ℕ) → AreFronts starts fronts → level ≤ length starts → AreFronts (take level starts) (take level fronts)
fronts_back starts fronts level are le =
    let long = are.long in
    let a = length-take-le level starts le in let b = length-take-le level fronts (omega arith) in
    record {
      long = omega arith;
      within = λ k lt. let e = get_or-take level starts k 0 (omega arith) in let f = get_or-take level fronts k 0 (omega arith) in let g = are.within k (omega arith) in omega arith;
    }
