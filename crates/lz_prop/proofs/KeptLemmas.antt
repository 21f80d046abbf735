-- The parts keep what holds of them.
use Rattle.std.proofs.Common.{◌≡◌, ◌≢◌, ℕ, zero, suc, ◌+◌, ◌-◌, ◌*◌, ◌<◌, ◌≤◌, inl, inr, Bool, leb, ltb, List, [], ◌∷◌, ◌++◌, length, get_or, set, take, Some, None, IsSome, refl, sym, ◌∙◌, ap, subst, arith}
use Rattle.std.specs.List.{All, AllPairs, Contains}
use Rattle.std.specs.Vec.{vec_capacity}
use Rattle.std.proofs.lemmas.Bool.{cases_lt, leb-true, le-leb, lt-leb, lt-ltb, le-ltb}
use Rattle.std.proofs.lemmas.List.{length-append, length-take-le, get_or-take, get_or-map, get_or_append_left, take-map, take-append-le, take-take, append-nil, append_assoc}
use Rattle.std.proofs.lemmas.List.Elements.{All-push, All-cons, All-nil, All-append, All-contains, filter_agree, All-contains_itself}
use Rattle.std.proofs.lemmas.Option.{slice_get-get_or}
use Rattle.lz_cnf.specs.declared.clause.Lit.{Lit}
use Rattle.lz_cnf.specs.Models.{variable_of, negated}
use Rattle.lz_cnf.specs.Partial.{IsUnassigned, IsConsistent, IsFalseClause, IsQuiet, IsNamed}
use Rattle.lz_cnf.proofs.LitLemmas.{variable_of-negated}
use Rattle.lz_prop.specs.declared.inner.Inner.{Inner}
use Rattle.lz_prop.specs.declared.store.Store.{Store}
use Rattle.lz_prop.specs.Trail.{Entry, TrailState, IsTrail, RestsOn, Extends, literals, IsFalseNamed, HoldsClause, WasOpen, at_decision, decided, propagated, gone_back, with_clause}
use Rattle.lz_prop.specs.Watchers.{guards_of}
use Rattle.lz_prop.specs.Guarded.{Guards, AreGuarded, WereGuarded, AreFronts}
use Rattle.lz_prop.specs.Parts.{entry_at, number_kept, IsTable, AreStarts}
use Rattle.lz_prop.specs.Stored.{IsStore, clauses_of}
use Rattle.lz_prop.specs.Kept.{IsKept, state_of}
use Rattle.lz_prop.specs.Further.{IsFurther, IsFalseKept}
use Rattle.lz_prop.proofs.EntryLemmas.{entries_fit, set_consistent}
use Rattle.lz_prop.proofs.TrailLemmas.{apart_push, filter_all, added_is_trail, decided_is_trail, propagated_is_trail}
use Rattle.lz_prop.proofs.BackLemmas.{back_is_front, back_is_trail, filter_twice, filter_shorter}
use Rattle.lz_prop.proofs.TableLemmas.{literals-entries, length-entries, entries-put, others_vary, table_more, starts_more, starts_same}
use Rattle.lz_prop.proofs.GuardLemmas.{guards_more, are_more, are_kept, were_same, were_decided, fronts_decided, were_back, fronts_back}

-- the literals of the entries are the order
pub order_is : (t : Inner) → literals (state_of t).set ≡ t.table.order.items
order_is t = literals-entries t.table.levels.items t.table.reasons.items t.table.order.items

pub set_long : (t : Inner) → length (state_of t).set ≡ length t.table.order.items
set_long t = length-entries t.table.levels.items t.table.reasons.items t.table.order.items

-- the numbers of levels and of true literals fit
pub order_fits : (t : Inner) → IsKept t → length t.table.order.items ≤ t.variables
order_fits t kept = let fits = entries_fit (state_of t).set t.variables kept.trail.known kept.trail.apart in let same = set_long t in omega arith

pub level_fits : (t : Inner) → IsKept t → length t.starts.items ≤ t.variables
level_fits t kept = let a = order_fits t kept in let b = set_long t in let c = kept.starts.short in omega arith

-- a literal without a value
pub record IsFree (t : Inner) (lit : Lit) : Type 0 where
  pub within : variable_of lit < t.variables
  pub unassigned : IsUnassigned t.table.order.items lit

pub free_in_set : (t : Inner) (lit : Lit) → IsFree t lit → IsUnassigned (literals (state_of t).set) lit
free_in_set t lit free = subst (λ (xs : List Lit). IsUnassigned xs lit) (sym (order_is t)) free.unassigned

known_push : (set : List Entry) (e : Entry) (n : ℕ) → All (λ x. variable_of x.lit < n) set → variable_of e.lit < n → All (λ x. variable_of x.lit < n) (set ++ e ∷ [])
known_push set e n all own = All-push (λ x. variable_of x.lit < n) set e all own

-- there is room for one more
pub order_room_for : (t : Inner) (lit : Lit) → IsKept t → IsFree t lit → length t.table.order.items < t.variables
order_room_for t lit kept free =
    let e : Entry = record { lit = lit; level = 0; reason = None } in
    let apart = apart_push (state_of t) e kept.trail (free_in_set t lit free) in
    let fits = entries_fit ((state_of t).set ++ e ∷ []) t.variables
    (λ k d lt. known_push (state_of t).set e t.variables kept.trail.known free.within k d lt) apart in
    let long = length-append (state_of t).set (e ∷ []) in
    let same = set_long t in
    omega arith

-- how many literals were true at a decision
pub start_within : (t : Inner) (level : ℕ) → IsKept t → level < length t.starts.items → get_or t.starts.items level 0 ≤ length t.table.order.items
start_within t level kept lt =
    let told = kept.starts.told level lt in
    let short = filter_shorter (λ (e : Entry). leb e.level level) (state_of t).set in
    let long = set_long t in
    omega arith

-- ---- one literal is put

-- what the code did to the table and what it left
pub record IsPut (t u : Inner) (lit : Lit) (level reason : ℕ) : Type 0 where
  pub variables : u.variables ≡ t.variables
  pub store : u.store ≡ t.store
  pub watch : u.watch ≡ t.watch
  pub truths : u.table.truths.items ≡ set t.table.truths.items lit.0 1
  pub levels : u.table.levels.items ≡ set t.table.levels.items (variable_of lit) level
  pub reasons : u.table.reasons.items ≡ set t.table.reasons.items (variable_of lit) reason
  pub order : u.table.order.items ≡ t.table.order.items ++ lit ∷ []
  pub order_room : vec_capacity u.table.order ≡ vec_capacity t.table.order
  pub starts_room : vec_capacity u.starts ≡ vec_capacity t.starts
  pub head : u.head ≡ t.head
  pub seen : u.seen ≡ t.seen
  pub spent : u.spent ≡ t.spent

made : {v w : ℕ} {c d : List (List Lit)} {s r : List Entry} {l m : ℕ} {a b : Bool} → v ≡ w → c ≡ d → s ≡ r → l ≡ m → a ≡ b
    → (let x : TrailState = record { variables = v; clauses = c; set = s; level = l; spent = a } in x) ≡ record { variables = w; clauses = d; set = r; level = m; spent = b }
made e f g h i = cc

set_put : (t u : Inner) (lit : Lit) (level reason : ℕ) → IsKept t → IsFree t lit → IsPut t u lit level reason
    → (state_of u).set ≡ (state_of t).set ++ (record { lit = lit; level = level; reason = number_kept reason }) ∷ []
set_put t u lit level reason kept free is =
    let long = kept.table.levels_long in let long_r = kept.table.reasons_long in let within = free.within in
    rw (is.levels, is.reasons, is.order) (entries-put t.table.levels.items t.table.reasons.items t.table.order.items lit level reason (others_vary t.table.order.items lit free.unassigned) (omega arith) (omega arith))

table_put : (t u : Inner) (lit : Lit) (level reason : ℕ) → IsKept t → IsFree t lit → IsPut t u lit level reason
    → IsTable u.variables u.table.truths.items u.table.levels.items u.table.reasons.items u.table.order.items
table_put t u lit level reason kept free is =
    rw (is.variables, is.truths, is.levels, is.reasons, is.order)
    (table_more t.variables t.table.truths.items t.table.levels.items t.table.reasons.items t.table.order.items lit level reason kept.table free.within free.unassigned)

-- the fronts of the order are as they were
fronts_put : (t u : Inner) (lit : Lit) (level reason : ℕ) → IsPut t u lit level reason → (n : ℕ) → n ≤ length t.table.order.items → take n u.table.order.items ≡ take n t.table.order.items
fronts_put t u lit level reason is n le = ap (take n) is.order ∙ take-append-le n t.table.order.items (lit ∷ []) le

guarded_put : (t u : Inner) (lit : Lit) (level reason : ℕ) → IsKept t → IsPut t u lit level reason → AreGuarded (clauses_of u.store) (guards_of u.watch) u.table.order.items (take u.head u.table.order.items)
guarded_put t u lit level reason kept is =
    rw (is.store, is.watch, is.order, is.head) (are_more (clauses_of t.store) (guards_of t.watch) t.table.order.items t.head lit kept.head_within kept.guarded)

-- the parts after a literal was put, given the trail and what is kept of its levels
pub record AreLevels (u : Inner) : Type 0 where
  pub starts : AreStarts (state_of u).set u.starts.items
  pub fronts : AreFronts u.starts.items u.fronts.items
  pub were : WereGuarded (clauses_of u.store) (guards_of u.watch) u.table.order.items u.starts.items u.fronts.items
  pub room : u.variables ≤ vec_capacity u.fronts

put_kept : (t u : Inner) (lit : Lit) (level reason : ℕ) → IsKept t → IsFree t lit → IsPut t u lit level reason → IsTrail (state_of u) → AreLevels u → IsKept u
put_kept t u lit level reason kept free is trail levels =
    let a = kept.head_within in let b = is.head in let c = ap length is.order ∙ length-append t.table.order.items (lit ∷ []) in
    let d = kept.few in let e = is.variables in
    let f = kept.order_room in let g = is.order_room in
    let h = kept.starts_room in let i = is.starts_room in
    record {
      trail = trail;
      store = subst IsStore (sym is.store) kept.store;
      table = table_put t u lit level reason kept free is;
      starts = levels.starts;
      fronts = levels.fronts;
      listed = rw is.watch kept.listed;
      firsts_long = rw (is.watch, is.variables) kept.firsts_long;
      guards_long = rw (is.watch, is.seen) kept.guards_long;
      guarded = guarded_put t u lit level reason kept is;
      were = levels.were;
      head_within = omega arith;
      seen_within = rw (is.store, is.seen) kept.seen_within;
      few = omega arith;
      order_room = omega arith;
      starts_room = omega arith;
      fronts_room = levels.room;
      watchers_room = rw (is.store, is.watch) kept.watchers_room;
    }

-- ---- a decision

pub state_decided : (t u : Inner) (lit : Lit) → IsKept t → IsFree t lit → IsPut t u lit (suc (length t.starts.items)) 0 → u.starts.items ≡ t.starts.items ++ length t.table.order.items ∷ []
    → state_of u ≡ decided (state_of t) lit
state_decided t u lit kept free is starts =
    made is.variables (ap clauses_of is.store) (set_put t u lit (suc (length t.starts.items)) 0 kept free is)
    (let e = ap length starts in let l = length-append t.starts.items (length t.table.order.items ∷ []) in omega arith) is.spent

-- what the code did to the levels
pub record IsOpened (t u : Inner) : Type 0 where
  pub starts : u.starts.items ≡ t.starts.items ++ length t.table.order.items ∷ []
  pub fronts : u.fronts.items ≡ t.fronts.items ++ t.head ∷ []
  pub fronts_room : vec_capacity u.fronts ≡ vec_capacity t.fronts

pub decided_kept : (t u : Inner) (lit : Lit) → IsKept t → IsFree t lit → IsQuiet t.table.order.items (clauses_of t.store)
    → IsPut t u lit (suc (length t.starts.items)) 0 → IsOpened t u → IsKept u
decided_kept t u lit kept free quiet is opened =
    let e : Entry = record { lit = lit; level = suc (length t.starts.items); reason = None } in
    let trail : IsTrail (decided (state_of t) lit) = decided_is_trail (state_of t) lit kept.trail free.within (free_in_set t lit free)
    (subst (λ (xs : List Lit). IsQuiet xs (clauses_of t.store)) (sym (order_is t)) quiet) in
    let more : AreStarts ((state_of t).set ++ e ∷ []) (t.starts.items ++ length (state_of t).set ∷ []) = starts_more (state_of t).set t.starts.items e kept.starts kept.trail.bounded refl in
    let within : (k : ℕ) → k < length t.starts.items → get_or t.starts.items k 0 ≤ length t.table.order.items = λ k lt. start_within t k kept lt in
    let were = were_decided (clauses_of t.store) (guards_of t.watch) t.table.order.items u.table.order.items t.starts.items t.fronts.items t.head kept.fronts within
    (fronts_put t u lit (suc (length t.starts.items)) 0 is) kept.head_within kept.guarded kept.were in
    let room = kept.fronts_room in let same_room = opened.fronts_room in let same = is.variables in
    put_kept t u lit (suc (length t.starts.items)) 0 kept free is
    (subst IsTrail (sym (state_decided t u lit kept free is opened.starts)) trail)
    (record {
      starts = rw (set_put t u lit (suc (length t.starts.items)) 0 kept free is, opened.starts, sym (set_long t)) more;
      fronts = rw (opened.starts, opened.fronts) (fronts_decided t.starts.items t.fronts.items (length t.table.order.items) t.head kept.fronts kept.head_within);
      were = rw (is.store, is.watch, opened.starts, opened.fronts) were;
      room = omega arith;
    })

-- ---- a literal that follows

-- entries of this level, each with a reason
abbrev ArePresent : ℕ → List Entry → Type 0
ArePresent level added = All (λ e. (e.level ≡ level) × IsSome e.reason) added

one_present : (e : Entry) (level : ℕ) → e.level ≡ level → IsSome e.reason → ArePresent level (e ∷ [])
one_present e level same some = All-cons (λ x. (x.level ≡ level) × IsSome x.reason) e [] (same, some) (All-nil (λ x. (x.level ≡ level) × IsSome x.reason))

present_join : (level : ℕ) (a b : List Entry) → ArePresent level a → ArePresent level b → ArePresent level (a ++ b)
present_join level a b p q = All-append (λ x. (x.level ≡ level) × IsSome x.reason) a b p q

pub state_implied : (t u : Inner) (lit : Lit) (number : ℕ) → IsKept t → IsFree t lit → IsPut t u lit (length t.starts.items) (suc number) → u.starts ≡ t.starts → u.fronts ≡ t.fronts
    → state_of u ≡ propagated (state_of t) lit (suc number)
state_implied t u lit number kept free is starts fronts =
    made is.variables (ap clauses_of is.store) (set_put t u lit (length t.starts.items) (suc number) kept free is) (ap (λ v. length v.items) starts) is.spent

pub implied_kept : (t u : Inner) (lit : Lit) (number : ℕ) → IsKept t → IsFree t lit → RestsOn (clauses_of t.store) (state_of t).set lit (suc number)
    → IsPut t u lit (length t.starts.items) (suc number) → u.starts ≡ t.starts → u.fronts ≡ t.fronts → IsKept u
implied_kept t u lit number kept free rests is starts fronts =
    let e : Entry = record { lit = lit; level = length t.starts.items; reason = Some (suc number) } in
    let trail : IsTrail (propagated (state_of t) lit (suc number)) = propagated_is_trail (state_of t) lit (suc number) kept.trail free.within (free_in_set t lit free) rests in
    let same : AreStarts ((state_of t).set ++ e ∷ []) t.starts.items = starts_same (state_of t).set t.starts.items e kept.starts refl in
    put_kept t u lit (length t.starts.items) (suc number) kept free is
    (subst IsTrail (sym (state_implied t u lit number kept free is starts fronts)) trail)
    (record {
      starts = rw (set_put t u lit (length t.starts.items) (suc number) kept free is, starts) same;
      fronts = rw (starts, fronts) kept.fronts;
      were = rw (is.store, is.watch, starts, fronts)
          (were_same (clauses_of t.store) (guards_of t.watch) t.table.order.items u.table.order.items t.starts.items t.fronts.items kept.fronts (λ k lt. start_within t k kept lt)
          (fronts_put t u lit (length t.starts.items) (suc number) is) kept.were);
      room = rw (is.variables, fronts) kept.fronts_room;
    })

pub implied_further : (t u : Inner) (lit : Lit) (number : ℕ) → IsKept t → IsFree t lit → IsPut t u lit (length t.starts.items) (suc number) → u.starts ≡ t.starts → u.fronts ≡ t.fronts → IsFurther t u
implied_further t u lit number kept free is starts fronts =
    let e : Entry = record { lit = lit; level = length t.starts.items; reason = Some (suc number) } in
    let long = ap length is.order ∙ length-append t.table.order.items (lit ∷ []) in
    record {
      extends = record {
        variables = is.variables;
        clauses = ap clauses_of is.store;
        level = ap (λ v. length v.items) starts;
        added = e ∷ [];
        set = set_put t u lit (length t.starts.items) (suc number) kept free is;
        present = one_present e (length t.starts.items) refl refl;
      };
      store = is.store;
      spent = is.spent;
      longer = omega arith;
      same = λ k d lt. ap (λ (xs : List Lit). get_or xs k d) is.order ∙ get_or_append_left t.table.order.items (lit ∷ []) d k lt;
      guards = λ head clause l le h. subst (λ (xs : List Lit). Guards xs (take head xs) clause l) (sym is.order) (guards_more t.table.order.items head lit clause l le h);
    }

-- ---- turns of propagation, one after another

pub further_same : (t u : Inner) → state_of u ≡ state_of t → u.store ≡ t.store → u.spent ≡ t.spent → u.table ≡ t.table → IsFurther t u
further_same t u state store spent table = record {
  extends = record {
    variables = ap (λ (s : TrailState). s.variables) state;
    clauses = ap (λ (s : TrailState). s.clauses) state;
    level = ap (λ (s : TrailState). s.level) state;
    added = [];
    set = ap (λ (s : TrailState). s.set) state ∙ sym (append-nil (state_of t).set);
    present = λ k d lt. absurd (omega arith);
  };
  store = store;
  spent = spent;
  longer = (let e = ap (λ x. length x.order.items) table in omega arith);
  same = λ k d lt. ap (λ x. get_or x.order.items k d) table;
  guards = λ head clause lit le h. subst (λ (xs : List Lit). Guards xs (take head xs) clause lit) (sym (ap (λ x. x.order.items) table)) h;
}

extends_join : (s t u : TrailState) → Extends s t → Extends t u → Extends s u
extends_join s t u a b = record {
  variables = b.variables ∙ a.variables;
  clauses = b.clauses ∙ a.clauses;
  level = b.level ∙ a.level;
  added = a.added ++ b.added;
  set = b.set ∙ ap (λ (xs : List Entry). xs ++ b.added) a.set ∙ append_assoc s.set a.added b.added;
  present = present_join s.level a.added b.added a.present (subst (λ (n : ℕ). ArePresent n b.added) a.level b.present);
}

pub further_join : (s t u : Inner) → IsFurther s t → IsFurther t u → IsFurther s u
further_join s t u a b =
    let la = a.longer in let lb = b.longer in
    record {
      extends = extends_join (state_of s) (state_of t) (state_of u) a.extends b.extends;
      store = b.store ∙ a.store;
      spent = b.spent ∙ a.spent;
      longer = omega arith;
      same = λ k d lt. b.same k d (omega arith) ∙ a.same k d lt;
      guards = λ head clause lit le h. b.guards head clause lit (omega arith) (a.guards head clause lit le h);
    }

-- ---- the same by the number of the reason

pub imply_kept : (t u : Inner) (lit : Lit) (number : ℕ) → IsKept t → IsFree t lit → RestsOn (clauses_of t.store) (state_of t).set lit number
    → IsPut t u lit (length t.starts.items) number → u.starts ≡ t.starts → u.fronts ≡ t.fronts → IsKept u
imply_kept t u lit zero kept free rests is starts fronts = absurd rests.named
imply_kept t u lit (suc number) kept free rests is starts fronts = implied_kept t u lit number kept free rests is starts fronts

pub imply_further : (t u : Inner) (lit : Lit) (number : ℕ) → IsKept t → IsFree t lit → RestsOn (clauses_of t.store) (state_of t).set lit number
    → IsPut t u lit (length t.starts.items) number → u.starts ≡ t.starts → u.fronts ≡ t.fronts → IsFurther t u
imply_further t u lit zero kept free rests is starts fronts = absurd rests.named
imply_further t u lit (suc number) kept free rests is starts fronts = implied_further t u lit number kept free is starts fronts

-- ---- literals of clauses

pub kept_consistent : (t : Inner) → IsKept t → IsConsistent t.table.order.items
kept_consistent t kept = subst IsConsistent (order_is t) (set_consistent (state_of t) kept.trail)

-- a literal of the trail's variables, by its numbers
pub record IsNumbered (t : Inner) (lit : Lit) : Type 0 where
  pub number : lit.0 < length t.table.truths.items
  pub other : (negated lit).0 < length t.table.truths.items
  pub first : lit.0 < length t.watch.firsts.items
  pub other_first : (negated lit).0 < length t.watch.firsts.items
  pub level : variable_of lit < length t.table.levels.items

half_below : (lit : Lit) (n m : ℕ) → m ≡ 2 * n → variable_of lit < n → lit.0 < m
half_below lit n m long within = omega arith

pub numbered : (t : Inner) (lit : Lit) → IsKept t → variable_of lit < t.variables → IsNumbered t lit
numbered t lit kept within =
    let long = kept.table.truths_long in
    let firsts = kept.firsts_long in
    let levels = kept.table.levels_long in
    let same = variable_of-negated lit in
    let other : variable_of (negated lit) < t.variables = omega arith in
    record {
      number = omega arith;
      other = half_below (negated lit) t.variables (length t.table.truths.items) long other;
      first = omega arith;
      other_first = half_below (negated lit) t.variables (length t.watch.firsts.items) firsts other;
      level = omega arith;
    }

pub in_variables : (t : Inner) (at : ℕ) (d : List Lit) (lit : Lit) → IsKept t → at < length (clauses_of t.store) → Contains (get_or (clauses_of t.store) at d) lit → variable_of lit < t.variables
in_variables t at d lit kept within has = All-contains (λ l. variable_of l < t.variables) (get_or (clauses_of t.store) at d) lit (kept.trail.formula at d within) has

-- ---- going back

-- what the code did
pub record IsBack (t u : Inner) (level : ℕ) : Type 0 where
  pub below : level < length t.starts.items
  pub variables : u.variables ≡ t.variables
  pub store : u.store ≡ t.store
  pub watch : u.watch ≡ t.watch
  pub table : IsTable t.variables u.table.truths.items u.table.levels.items u.table.reasons.items u.table.order.items
  pub levels : u.table.levels.items ≡ t.table.levels.items
  pub reasons : u.table.reasons.items ≡ t.table.reasons.items
  pub order : u.table.order.items ≡ take (get_or t.starts.items level 0) t.table.order.items
  pub order_room : vec_capacity u.table.order ≡ vec_capacity t.table.order
  pub starts : u.starts.items ≡ take level t.starts.items
  pub starts_room : vec_capacity u.starts ≡ vec_capacity t.starts
  pub fronts : u.fronts.items ≡ take level t.fronts.items
  pub fronts_room : vec_capacity u.fronts ≡ vec_capacity t.fronts
  pub head : u.head ≡ get_or t.fronts.items level 0
  pub seen : u.seen ≡ t.seen
  pub spent : u.spent ≡ t.spent

set_back : (t u : Inner) (level : ℕ) → IsKept t → IsBack t u level → (state_of u).set ≡ (gone_back (state_of t) level).set
set_back t u level kept is =
    let n = get_or t.starts.items level 0 in
    rw (is.levels, is.reasons, is.order)
    (sym (take-map (entry_at t.table.levels.items t.table.reasons.items) n t.table.order.items)
    ∙ ap (λ (m : ℕ). take m (state_of t).set) (kept.starts.told level is.below)
    ∙ sym (back_is_front (state_of t) level kept.trail))

pub state_back : (t u : Inner) (level : ℕ) → IsKept t → IsBack t u level → state_of u ≡ gone_back (state_of t) level
state_back t u level kept is =
    let below = is.below in
    made is.variables (ap clauses_of is.store) (set_back t u level kept is) (ap length is.starts ∙ length-take-le level t.starts.items (omega arith)) is.spent

same_tests : (level : ℕ) (e : Entry) → ltb e.level (suc level) ≡ leb e.level level
same_tests level e = elim (cases_lt level e.level) [
  | inl above ↦ le-ltb e.level (suc level) (omega arith) ∙ sym (lt-leb e.level level above)
  | inr below ↦ lt-ltb e.level (suc level) (omega arith) ∙ sym (le-leb e.level level below)
]

starts_back : (s : TrailState) (starts : List ℕ) (level : ℕ) → AreStarts s.set starts → level < length starts → AreStarts (gone_back s level).set (take level starts)
starts_back s starts level are below =
    let short = length-take-le level starts (omega arith) in
    record {
      told = λ k lt. get_or-take level starts k 0 (omega arith) ∙ are.told k (omega arith)
          ∙ sym (ap length (filter_twice (λ (e : Entry). leb e.level level) (λ (e : Entry). leb e.level k) s.set (λ e h. let le = leb-true e.level k h in le-leb e.level level (omega arith))));
      rises = λ k lt. let same = get_or-take level starts k 0 (omega arith) in let rise = are.rises k (omega arith) in omega arith;
      short = (let rise = are.rises level below in let told = are.told level below in omega arith);
    }

-- what was true at a decision is a front of the order
pub front_at : (t : Inner) (level : ℕ) → IsKept t → level < length t.starts.items → literals (gone_back (state_of t) level).set ≡ take (get_or t.starts.items level 0) t.table.order.items
front_at t level kept lt =
    let n = get_or t.starts.items level 0 in
    ap literals (back_is_front (state_of t) level kept.trail ∙ ap (λ (m : ℕ). take m (state_of t).set) (sym (kept.starts.told level lt)))
    ∙ sym (take-map (λ (e : Entry). e.lit) n (state_of t).set) ∙ ap (take n) (order_is t)

pub at_start : (t : Inner) (level : ℕ) → IsKept t → level < length t.starts.items → at_decision (suc level) (state_of t).set ≡ take (get_or t.starts.items level 0) t.table.order.items
at_start t level kept lt =
    ap literals (filter_agree (λ (e : Entry). ltb e.level (suc level)) (λ (e : Entry). leb e.level level) (same_tests level) (state_of t).set) ∙ front_at t level kept lt

-- levels have more and more true literals
starts_rise : (t : Inner) (level : ℕ) → IsKept t → level < length t.starts.items → (k : ℕ) → k < level → get_or t.starts.items k 0 ≤ get_or t.starts.items level 0
starts_rise t level kept below k lt =
    let s = gone_back (state_of t) level in
    let are = starts_back (state_of t) t.starts.items level kept.starts below in
    let long = length-take-le level t.starts.items (omega arith) in
    let told = are.told k (omega arith) in
    let same = get_or-take level t.starts.items k 0 (omega arith) in
    let short = filter_shorter (λ (e : Entry). leb e.level k) s.set in
    let whole = kept.starts.told level below in
    omega arith

pub back_kept : (t u : Inner) (level : ℕ) → IsKept t → IsBack t u level → IsKept u
back_kept t u level kept is =
    let below = is.below in
    let start = get_or t.starts.items level 0 in
    let state = state_back t u level kept is in
    let a = start_within t level kept is.below in
    let b = ap length is.order ∙ length-take-le start t.table.order.items a in
    let c = is.head in
    let front = kept.fronts.within level is.below in
    let d = kept.few in let e = is.variables in
    let f = kept.order_room in let g = is.order_room in
    let h = kept.starts_room in let i = is.starts_room in
    let j = kept.fronts_room in let k = is.fronts_room in
    record {
      trail = subst IsTrail (sym state) (back_is_trail (state_of t) level kept.trail (omega arith));
      store = subst IsStore (sym is.store) kept.store;
      table = subst (λ (n : ℕ). IsTable n u.table.truths.items u.table.levels.items u.table.reasons.items u.table.order.items) (sym is.variables) is.table;
      starts = rw (ap (λ (s : TrailState). s.set) state, is.starts) (starts_back (state_of t) t.starts.items level kept.starts is.below);
      fronts = rw (is.starts, is.fronts) (fronts_back t.starts.items t.fronts.items level kept.fronts (omega arith));
      listed = rw is.watch kept.listed;
      firsts_long = rw (is.watch, is.variables) kept.firsts_long;
      guards_long = rw (is.watch, is.seen) kept.guards_long;
      guarded = rw (is.store, is.watch, is.order, is.head, take-take (get_or t.fronts.items level 0) start t.table.order.items front) (kept.were level is.below);
      were = rw (is.store, is.watch, is.order, is.starts, is.fronts)
          (were_back (clauses_of t.store) (guards_of t.watch) t.table.order.items t.starts.items t.fronts.items level start kept.fronts (omega arith) (starts_rise t level kept is.below) kept.were);
      head_within = omega arith;
      seen_within = rw (is.store, is.seen) kept.seen_within;
      few = omega arith;
      order_room = omega arith;
      starts_room = omega arith;
      fronts_room = omega arith;
      watchers_room = rw (is.store, is.watch) kept.watchers_room;
    }

-- at the present level nothing goes
pub back_same : (s : TrailState) (level : ℕ) → IsTrail s → level ≡ s.level → s ≡ gone_back s level
back_same s level trail same =
    made refl refl
    (sym (filter_all (λ (e : Entry). leb e.level level) s.set (λ k d lt. let le = trail.bounded k d lt in le-leb (get_or s.set k d).level level (omega arith))))
    (sym same) refl

-- no variable stands twice in the order
pub order_apart : (t : Inner) → IsKept t → AllPairs (λ a b. variable_of a ≢ variable_of b) t.table.order.items
order_apart t kept i j d lt within =
    let f = entry_at t.table.levels.items t.table.reasons.items in
    let e : Entry = f d in
    let long = set_long t in
    let at : (k : ℕ) → k < length t.table.order.items → get_or (state_of t).set k e ≡ f (get_or t.table.order.items k d) = λ k l. get_or-map f t.table.order.items k d e l in
    λ same. kept.trail.apart i j e lt (omega arith)
    (ap (λ (x : Entry). variable_of x.lit) (at i (omega arith)) ∙ same ∙ sym (ap (λ (x : Entry). variable_of x.lit) (at j within)))

-- ---- a clause is added

pub state_added : (t : Inner) (store : Store) (clause : List Lit) → clauses_of store ≡ clauses_of t.store ++ clause ∷ [] → state_of (record t { store = store }) ≡ with_clause (state_of t) clause
state_added t store clause more = made refl more refl refl refl

-- there is room for the watchers of one clause more
pub record IsWide (t : Inner) : Type 0 where
  pub room : 2 * length (clauses_of t.store) + 2 ≤ vec_capacity t.watch.watchers

pub added_kept : (t : Inner) (store : Store) (clause : List Lit) → IsKept t → IsWide t → IsStore store → clauses_of store ≡ clauses_of t.store ++ clause ∷ []
    → All (λ l. variable_of l < t.variables) clause → 0 < length clause → WasOpen (state_of t) (length t.starts.items) clause → IsKept (record t { store = store })
added_kept t store clause kept wide is more within some open_ =
    let long = ap length more ∙ length-append (clauses_of t.store) (clause ∷ []) in
    let guards_long = kept.guards_long in
    let below = kept.seen_within in
    let a = wide.room in
    let not_empty : clause ≢ [] = λ none. let e = ap length none in omega arith in
    record {
      trail = subst IsTrail (sym (state_added t store clause more)) (added_is_trail (state_of t) clause kept.trail within not_empty open_);
      store = is;
      table = kept.table;
      starts = kept.starts;
      fronts = kept.fronts;
      listed = kept.listed;
      firsts_long = kept.firsts_long;
      guards_long = kept.guards_long;
      guarded = rw more (are_kept (clauses_of t.store) (guards_of t.watch) t.table.order.items (take t.head t.table.order.items) clause (omega arith) kept.guarded);
      were = λ k lt. rw more (are_kept (clauses_of t.store) (guards_of t.watch) (take (get_or t.starts.items k 0) t.table.order.items) (take (get_or t.fronts.items k 0) t.table.order.items) clause (omega arith) (kept.were k lt));
      head_within = kept.head_within;
      seen_within = omega arith;
      few = kept.few;
      order_room = kept.order_room;
      starts_room = kept.starts_room;
      fronts_room = kept.fronts_room;
      watchers_room = omega arith;
    }

-- ---- what is told

pub named_holds : (s : TrailState) (number : ℕ) (lits : List Lit) → 0 < number → number ≤ length s.clauses → ((d : List Lit) → lits ≡ get_or s.clauses (number - 1) d) → HoldsClause s number lits
named_holds s number lits positive within is =
    let at : suc (number - 1) ≡ number = omega arith in
    let named : IsNamed s.clauses (suc (number - 1)) lits = slice_get-get_or s.clauses (number - 1) [] (omega arith) ∙ ap Some (sym (is [])) in
    (lits, subst (λ (n : ℕ). IsNamed s.clauses n lits) at named, record { left = All-contains_itself lits; right = All-contains_itself lits })

pub false_named : (t : Inner) (at : ℕ) → IsFalseKept t at → IsFalseNamed (state_of t) (at + 1)
false_named t at is =
    let next : suc at ≡ at + 1 = omega arith in
    let named : IsNamed (clauses_of t.store) (suc at) (get_or (clauses_of t.store) at []) = slice_get-get_or (clauses_of t.store) at [] is.within in (
      get_or (clauses_of t.store) at [],
      subst (λ (n : ℕ). IsNamed (clauses_of t.store) n (get_or (clauses_of t.store) at [])) next named,
      subst (λ (xs : List Lit). IsFalseClause xs (get_or (clauses_of t.store) at [])) (sym (order_is t)) (is.false_ []),
    )

pub quiet_set : (t : Inner) → IsQuiet t.table.order.items (clauses_of t.store) → IsQuiet (literals (state_of t).set) (clauses_of t.store)
quiet_set t quiet = subst (λ (xs : List Lit). IsQuiet xs (clauses_of t.store)) (sym (order_is t)) quiet

-- what a decision requires, on the parts
pub free_of : (t : Inner) (s : TrailState) (lit : Lit) → state_of t ≡ s → IsUnassigned (literals s.set) lit → IsUnassigned t.table.order.items lit
free_of t s lit is free = subst (λ (xs : List Lit). IsUnassigned xs lit) (order_is t) (subst (λ (s : TrailState). IsUnassigned (literals s.set) lit) (sym is) free)

pub quiet_of : (t : Inner) (s : TrailState) → state_of t ≡ s → IsQuiet (literals s.set) s.clauses → IsQuiet t.table.order.items (clauses_of t.store)
quiet_of t s is quiet = subst (λ (xs : List Lit). IsQuiet xs (clauses_of t.store)) (order_is t) (subst (λ (s : TrailState). IsQuiet (literals s.set) s.clauses) (sym is) quiet)
