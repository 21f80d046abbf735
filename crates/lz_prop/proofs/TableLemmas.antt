-- The tables tell the entries.
use Rattle.std.proofs.Common.{◌≡◌, ◌≢◌, ℕ, zero, suc, ◌+◌, ◌*◌, ◌/◌, ◌%◌, ◌<◌, ◌≤◌, ◌⊎◌, inl, inr, ⊎_elim, Bool, true, false, cond, eqb, leb, List, [], ◌∷◌, ◌++◌, length, get_or, set, take, Some, None, refl, sym, ◌∙◌, ap, subst, arith}
use Rattle.std.specs.List.{All, AllPairs, Contains, filter}
use Rattle.std.proofs.lemmas.Bool.{eqb-true, eq-eqb, ne_eqb, cases_eq, cases_lt, le-leb, lt-leb}
use Rattle.std.proofs.lemmas.List.{length-map, length-append, length-set, length-take, get_or-set_other, get_or-set_same, get_or-take, get_or_append_left, get_or_push, get_or_past, get_or_default, append-nil}
use Rattle.std.proofs.lemmas.List.Elements.{All-push, Contains-get_or, Contains-push, Contains-append_left, filter-append}
use Rattle.lz_cnf.specs.declared.clause.Lit.{Lit}
use Rattle.lz_cnf.specs.Models.{variable_of}
use Rattle.lz_cnf.specs.Partial.{IsUnassigned}
use Rattle.lz_cnf.proofs.LitLemmas.{same_variable, same_lit}
use Rattle.lz_prop.specs.Trail.{Entry, literals, entry_of, value_in, level_in, reason_in}
use Rattle.lz_prop.specs.Parts.{entries, entry_at, number_kept, IsTable, AreStarts}
use Rattle.lz_prop.proofs.TrailLemmas.{filter_all}

pub literals-entries : (levels reasons : List ℕ) (order : List Lit) → literals (entries levels reasons order) ≡ order
literals-entries levels reasons [] = refl
literals-entries levels reasons (lit ∷ order) = ap (λ (rest : List Lit). lit ∷ rest) (literals-entries levels reasons order)

pub length-entries : (levels reasons : List ℕ) (order : List Lit) → length (entries levels reasons order) ≡ length order
length-entries levels reasons order = length-map order (entry_at levels reasons)

-- a write at a variable that the order lacks changes no entry
pub entries-set : (levels reasons : List ℕ) (order : List Lit) (variable level reason : ℕ) → All (λ lit. variable_of lit ≢ variable) order
    → entries (set levels variable level) (set reasons variable reason) order ≡ entries levels reasons order
entries-set levels reasons [] variable level reason others = refl
entries-set levels reasons (lit ∷ order) variable level reason others =
    let ne : variable_of lit ≢ variable = others 0 lit (omega arith) in
    let one : get_or (set levels variable level) (variable_of lit) 0 ≡ get_or levels (variable_of lit) 0 = get_or-set_other levels variable (variable_of lit) level 0 ne in
    let two : get_or (set reasons variable reason) (variable_of lit) 0 ≡ get_or reasons (variable_of lit) 0 = get_or-set_other reasons variable (variable_of lit) reason 0 ne in
    let rest = entries-set levels reasons order variable level reason (λ k d lt. others (suc k) d (omega arith)) in
    rw (one, two, rest)

pub entries-push : (levels reasons : List ℕ) (order : List Lit) (lit : Lit) → entries levels reasons (order ++ lit ∷ []) ≡ entries levels reasons order ++ entry_at levels reasons lit ∷ []
entries-push levels reasons [] lit = refl
entries-push levels reasons (first ∷ order) lit = ap (λ (rest : List Entry). entry_at levels reasons first ∷ rest) (entries-push levels reasons order lit)

pub entries-put : (levels reasons : List ℕ) (order : List Lit) (lit : Lit) (level reason : ℕ) → All (λ l. variable_of l ≢ variable_of lit) order
    → variable_of lit < length levels → variable_of lit < length reasons
    → entries (set levels (variable_of lit) level) (set reasons (variable_of lit) reason) (order ++ lit ∷ []) ≡ entries levels reasons order ++ (record { lit = lit; level = level; reason = number_kept reason }) ∷ []
entries-put levels reasons order lit level reason others in_levels in_reasons =
    let one : get_or (set levels (variable_of lit) level) (variable_of lit) 0 ≡ level = get_or-set_same levels (variable_of lit) level 0 in_levels in
    let two : get_or (set reasons (variable_of lit) reason) (variable_of lit) 0 ≡ reason = get_or-set_same reasons (variable_of lit) reason 0 in_reasons in
    let own : entry_at (set levels (variable_of lit) level) (set reasons (variable_of lit) reason) lit ≡ record { lit = lit; level = level; reason = number_kept reason } =
    rw (one, two) in
    entries-push (set levels (variable_of lit) level) (set reasons (variable_of lit) reason) order lit
    ∙ ap (λ (xs : List Entry). xs ++ entry_at (set levels (variable_of lit) level) (set reasons (variable_of lit) reason) lit ∷ []) (entries-set levels reasons order (variable_of lit) level reason others)
    ∙ ap (λ (e : Entry). entries levels reasons order ++ e ∷ []) own

-- no literal of the order has the variable of an unassigned one
pub others_vary : (order : List Lit) (lit : Lit) → IsUnassigned order lit → All (λ l. variable_of l ≢ variable_of lit) order
others_vary order lit free k d lt =
    λ same. ⊎_elim
    (λ h. free.0 (subst (Contains order) h (Contains-get_or order k d lt)))
    (λ h. free.1 (subst (Contains order) h (Contains-get_or order k d lt)))
    (same_variable (get_or order k d) lit same)

-- one more literal is true
pub table_more : (count : ℕ) (truths levels reasons : List ℕ) (order : List Lit) (lit : Lit) (level reason : ℕ) → IsTable count truths levels reasons order → variable_of lit < count → IsUnassigned order lit
    → IsTable count (set truths lit.0 1) (set levels (variable_of lit) level) (set reasons (variable_of lit) reason) (order ++ lit ∷ [])
table_more count truths levels reasons order lit level reason table within free =
    let others = others_vary order lit free in
    record {
      truths_long = length-set truths lit.0 1 ∙ table.truths_long;
      levels_long = length-set levels (variable_of lit) level ∙ table.levels_long;
      reasons_long = length-set reasons (variable_of lit) reason ∙ table.reasons_long;
      marked = λ l h. elim (cases_eq l.0 lit.0) [
        | inl same ↦ subst (Contains (order ++ lit ∷ [])) (sym (same_lit l lit same)) (Contains-push order lit)
        | inr ne ↦ Contains-append_left order (lit ∷ []) l (table.marked l (sym (get_or-set_other truths lit.0 l.0 1 0 ne) ∙ h))
      ];
      told = All-push (λ l. get_or (set truths lit.0 1) l.0 0 ≡ 1) order lit
          (λ k d lt. get_or-set_other truths lit.0 (get_or order k d).0 1 0 (λ same. others k d lt (ap (λ (n : ℕ). n / 2) same)) ∙ table.told k d lt)
          (get_or-set_same truths lit.0 1 0 (let long = table.truths_long in omega arith));
    }

-- the last true literal is taken back
pub table_less : (count : ℕ) (truths levels reasons : List ℕ) (order : List Lit) (n : ℕ) (d : Lit) → IsTable count truths levels reasons order → AllPairs (λ a b. variable_of a ≢ variable_of b) order
    → n + 1 ≡ length order → IsTable count (set truths (get_or order n d).0 0) levels reasons (take n order)
table_less count truths levels reasons order n d table apart last =
    let lit = get_or order n d in
    let number : lit.0 < length truths = elim (cases_lt lit.0 (length truths))
    [ inl lt ↦ lt | inr le ↦ (let a = get_or_past truths lit.0 0 le in let b = table.told n d (omega arith) in absurd (omega arith)) ] in
    let short = length-take n order in
    record {
      truths_long = length-set truths lit.0 0 ∙ table.truths_long;
      levels_long = table.levels_long;
      reasons_long = table.reasons_long;
      marked = λ l h. elim (cases_eq l.0 lit.0) [
        | inl same ↦ (let e : get_or (set truths lit.0 0) l.0 0 ≡ 0 = ap (λ (m : ℕ). get_or (set truths lit.0 0) m 0) same ∙ get_or-set_same truths lit.0 0 0 number in absurd (omega arith))
        | inr ne ↦
            (let has = table.marked l (sym (get_or-set_other truths lit.0 l.0 0 0 ne) ∙ h) in
            elim (cases_lt has.0 n) [
              | inl below ↦ (has.0, omega arith, get_or-take n order has.0 l below ∙ has.2)
              | inr above ↦
                  (let at : has.0 ≡ n = (let w = has.1 in omega arith) in
                  let is : lit ≡ l = get_or_default order n d l (omega arith) ∙ ap (λ (m : ℕ). get_or order m l) (sym at) ∙ has.2 in
                  absurd (ne (ap (λ (x : Lit). x.0) (sym is))))
            ])
      ];
      told = λ k e lt.
          let below : k < n = omega arith in
          let read : get_or (take n order) k e ≡ get_or order k e = get_or-take n order k e below in
          let differ : (get_or order k e).0 ≢ lit.0 = λ same. apart k n e below (omega arith) (ap (λ (m : ℕ). m / 2) (same ∙ ap (λ (x : Lit). x.0) (get_or_default order n d e (omega arith)))) in
          ap (λ (x : Lit). get_or (set truths lit.0 0) x.0 0) read ∙ get_or-set_other truths lit.0 (get_or order k e).0 0 0 differ ∙ table.told k e (omega arith);
    }

-- ---- where levels start

front_same : (set : List Entry) (e : Entry) (k : ℕ) → k < e.level → filter (λ x. leb x.level k) (set ++ e ∷ []) ≡ filter (λ x. leb x.level k) set
front_same set e k lt =
    filter-append (λ (x : Entry). leb x.level k) set (e ∷ [])
    ∙ ap (λ (b : Bool). filter (λ (x : Entry). leb x.level k) set ++ cond b (e ∷ []) []) (lt-leb e.level k lt)
    ∙ append-nil (filter (λ (x : Entry). leb x.level k) set)

-- a level is opened
pub starts_more : (set : List Entry) (starts : List ℕ) (e : Entry) → AreStarts set starts → All (λ x. x.level ≤ length starts) set → e.level ≡ suc (length starts)
    → AreStarts (set ++ e ∷ []) (starts ++ length set ∷ [])
starts_more set starts e are bounded level =
    let longer = length-append starts (length set ∷ []) in
    let longer_s = length-append set (e ∷ []) in
    let front : (k : ℕ) → k ≤ length starts → filter (λ x. leb x.level k) (set ++ e ∷ []) ≡ filter (λ x. leb x.level k) set = λ k le. front_same set e k (omega arith) in
    record {
      told = λ k lt. elim (cases_lt k (length starts)) [
        | inl below ↦ get_or_append_left starts (length set ∷ []) 0 k below ∙ are.told k below ∙ sym (ap length (front k (omega arith)))
        | inr above ↦ get_or_push starts (length set) 0 k (omega arith)
            ∙ sym (ap length (front k (omega arith) ∙ filter_all (λ (x : Entry). leb x.level k) set (λ j d l. let b = bounded j d l in le-leb (get_or set j d).level k (omega arith))))
      ];
      rises = λ k lt. elim (cases_lt k (length starts)) [
        | inl below ↦ (let e = get_or_append_left starts (length set ∷ []) 0 k below in let r = are.rises k below in omega arith)
        | inr above ↦ (let e = get_or_push starts (length set) 0 k (omega arith) in let s = are.short in omega arith)
      ];
      short = (let s = are.short in omega arith);
    }

-- a literal of the present level follows
pub starts_same : (set : List Entry) (starts : List ℕ) (e : Entry) → AreStarts set starts → e.level ≡ length starts → AreStarts (set ++ e ∷ []) starts
starts_same set starts e are level = record {
  told = λ k lt. are.told k lt ∙ sym (ap length (front_same set e k (omega arith)));
  rises = are.rises;
  short = (let s = are.short in let long = length-append set (e ∷ []) in omega arith);
}

-- ---- the entry of a variable

order_found : (levels reasons : List ℕ) (order : List Lit) (lit : Lit) → AllPairs (λ a b. variable_of a ≢ variable_of b) order → Contains order lit
    → entry_of (entries levels reasons order) (variable_of lit) ≡ Some (entry_at levels reasons lit)
order_found levels reasons [] lit apart has = absurd (omega (arith, has.1))
order_found levels reasons (first ∷ order) lit apart (zero, lt, at) =
    ap (λ (b : Bool). cond b (Some (entry_at levels reasons first)) (entry_of (entries levels reasons order) (variable_of lit))) (eq-eqb (variable_of first) (variable_of lit) (ap variable_of at))
    ∙ ap (λ (l : Lit). Some (entry_at levels reasons l)) at
order_found levels reasons (first ∷ order) lit apart (suc k, lt, at) =
    let ne : variable_of first ≢ variable_of lit = λ same. apart 0 (suc k) lit (omega arith) lt (same ∙ ap variable_of (sym at)) in
    ap (λ (b : Bool). cond b (Some (entry_at levels reasons first)) (entry_of (entries levels reasons order) (variable_of lit))) (ne_eqb (variable_of first) (variable_of lit) ne)
    ∙ order_found levels reasons order lit (λ i j d below within. apart (suc i) (suc j) d (omega arith) (omega arith)) (k, omega (arith, lt), at)

order_none : (levels reasons : List ℕ) (order : List Lit) (v : ℕ) → All (λ l. variable_of l ≢ v) order → entry_of (entries levels reasons order) v ≡ None
order_none levels reasons [] v none = refl
order_none levels reasons (first ∷ order) v none =
    ap (λ (b : Bool). cond b (Some (entry_at levels reasons first)) (entry_of (entries levels reasons order) v)) (ne_eqb (variable_of first) v (none 0 first (omega arith)))
    ∙ order_none levels reasons order v (λ k d lt. none (suc k) d (omega arith))

-- a literal that is true by the table has its entry
pub told_entry : (count : ℕ) (truths levels reasons : List ℕ) (order : List Lit) (lit : Lit) → IsTable count truths levels reasons order → AllPairs (λ a b. variable_of a ≢ variable_of b) order
    → get_or truths lit.0 0 ≡ 1 → entry_of (entries levels reasons order) (variable_of lit) ≡ Some (entry_at levels reasons lit)
told_entry count truths levels reasons order lit table apart is_true = order_found levels reasons order lit apart (table.marked lit is_true)

number_of : (n v : ℕ) → n / 2 ≡ v → (n ≡ 2 * v) ⊎ (n ≡ 2 * v + 1)
number_of n v h = elim (cases_eq n (2 * v)) [ inl e ↦ inl e | inr ne ↦ inr (omega (arith, ne)) ]

-- where no literal of the variable is true by the table, it has no entry
pub told_none : (count : ℕ) (truths levels reasons : List ℕ) (order : List Lit) (v : ℕ) → IsTable count truths levels reasons order
    → (get_or truths (2 * v) 0 ≡ 1 → ⊥) → (get_or truths (2 * v + 1) 0 ≡ 1 → ⊥) → entry_of (entries levels reasons order) v ≡ None
told_none count truths levels reasons order v table no_first no_second =
    order_none levels reasons order v (λ k d lt same.
    let told = table.told k d lt in
    ⊎_elim
    (λ (e : (get_or order k d).0 ≡ 2 * v). no_first (ap (λ (n : ℕ). get_or truths n 0) (sym e) ∙ told))
    (λ (e : (get_or order k d).0 ≡ 2 * v + 1). no_second (ap (λ (n : ℕ). get_or truths n 0) (sym e) ∙ told))
    (number_of (get_or order k d).0 v same))

pub is_even : (v : ℕ) → eqb ((2 * v) % 2) 1 ≡ false
is_even v = ne_eqb ((2 * v) % 2) 1 (λ h. omega arith)

pub is_odd : (v : ℕ) → eqb ((2 * v + 1) % 2) 1 ≡ true
is_odd v = eq-eqb ((2 * v + 1) % 2) 1 (omega arith)

-- a variable with a value has the level and the reason of the tables
pub record IsTold (levels reasons : List ℕ) (order : List Lit) (v : ℕ) : Type 0 where
  pub level : level_in (entry_of (entries levels reasons order) v) ≡ Some (get_or levels v 0)
  pub reason : reason_in (entry_of (entries levels reasons order) v) ≡ number_kept (get_or reasons v 0)

told_at : (levels reasons : List ℕ) (first : Lit) (order : List Lit) (v : ℕ) (b value : Bool) → eqb (variable_of first) v ≡ b
    → value_in (cond b (Some (entry_at levels reasons first)) (entry_of (entries levels reasons order) v)) ≡ Some value
    → (value_in (entry_of (entries levels reasons order) v) ≡ Some value → IsTold levels reasons order v) → IsTold levels reasons (first ∷ order) v
told_at levels reasons first order v true value same has rest =
    let is : variable_of first ≡ v = eqb-true (variable_of first) v same in
    record {
      level = ap (λ (b : Bool). level_in (cond b (Some (entry_at levels reasons first)) (entry_of (entries levels reasons order) v))) same ∙ ap (λ (n : ℕ). Some (get_or levels n 0)) is;
      reason = ap (λ (b : Bool). reason_in (cond b (Some (entry_at levels reasons first)) (entry_of (entries levels reasons order) v))) same ∙ ap (λ (n : ℕ). number_kept (get_or reasons n 0)) is;
    }
told_at levels reasons first order v false value same has rest =
    let told = rest has in
    record {
      level = ap (λ (b : Bool). level_in (cond b (Some (entry_at levels reasons first)) (entry_of (entries levels reasons order) v))) same ∙ told.level;
      reason = ap (λ (b : Bool). reason_in (cond b (Some (entry_at levels reasons first)) (entry_of (entries levels reasons order) v))) same ∙ told.reason;
    }

pub told : (levels reasons : List ℕ) (order : List Lit) (v : ℕ) (value : Bool) → value_in (entry_of (entries levels reasons order) v) ≡ Some value → IsTold levels reasons order v
told levels reasons [] v value has = absurd cc
told levels reasons (first ∷ order) v value has =
    told_at levels reasons first order v (eqb (variable_of first) v) value refl has (λ h. told levels reasons order v value h)
