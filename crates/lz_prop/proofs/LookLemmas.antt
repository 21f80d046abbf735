-- The first look at a clause, and what is left of a clause.
use Rattle.std.proofs.Common.{◌≡◌, ℕ, suc, ◌+◌, ◌^◌, ◌<◌, ◌≤◌, ◌⊎◌, inl, inr, ⊎_elim, leb, List, [], ◌∷◌, ◌++◌, length, get_or, take, sym, ◌∙◌, ap, subst, arith}
use Rattle.std.specs.List.{All, Contains}
use Rattle.std.specs.Vec.{vec_capacity}
use Rattle.std.proofs.lemmas.Bool.{leb-true, le-leb}
use Rattle.std.proofs.lemmas.List.{length-append, get_or_default, take-take}
use Rattle.std.proofs.lemmas.Option.{slice_get-get_or}
use Rattle.lz_cnf.specs.declared.clause.Lit.{Lit}
use Rattle.lz_cnf.specs.Models.{variable_of, negated}
use Rattle.lz_cnf.specs.Partial.{IsFalseLit, IsOpen, IsNamed}
use Rattle.lz_cnf.proofs.LitLemmas.{variable_of-negated}
use Rattle.lz_prop.specs.declared.inner.Inner.{Inner}
use Rattle.lz_prop.specs.declared.watch.Watch.{Watch}
use Rattle.lz_prop.specs.Trail.{Entry, RestsOn, gone_back}
use Rattle.lz_prop.specs.Watch.{AreListed}
use Rattle.lz_prop.specs.Watchers.{guards_of, next_of}
use Rattle.lz_prop.specs.Guarded.{IsSatisfied, Guards, IsGuarded, WasGuarded}
use Rattle.lz_prop.specs.Parts.{entry_at}
use Rattle.lz_prop.specs.Scan.{IsMarkedFalse, AreOthersFalse, IsLeft, IsOther, IsLast}
use Rattle.lz_prop.specs.Stored.{clauses_of}
use Rattle.lz_prop.specs.Kept.{IsKept, state_of}
use Rattle.lz_prop.specs.Further.{IsFurther}
use Rattle.lz_prop.proofs.LitLemmas.{Contains-map, Contains-from_map, Contains-filter, Contains-from_filter}
use Rattle.lz_prop.proofs.OpenLemmas.{not_both}
use Rattle.lz_prop.proofs.StoreLemmas.{length-cut}
use Rattle.lz_prop.proofs.ScanLemmas.{unmarked, others_marked}
use Rattle.lz_prop.proofs.WatchersLemmas.{guards_count}
use Rattle.lz_prop.proofs.GuardLemmas.{guards_moved, guards_satisfied, open_satisfied, last_guards, are_watched}
use Rattle.lz_prop.proofs.KeptLemmas.{order_is, kept_consistent, front_at, at_start}

-- ---- what is left of a clause

pub not_false : (t : Inner) (lit : Lit) → IsKept t → (IsMarkedFalse t.table.truths.items lit → ⊥) → IsFalseLit t.table.order.items lit → ⊥
not_false t lit kept off h = unmarked t.variables t.table.truths.items t.table.levels.items t.table.reasons.items t.table.order.items lit kept.table off h

others_false : (t : Inner) (clause : List Lit) (lit : Lit) → IsKept t → AreOthersFalse t.table.truths.items clause lit → All (λ l. (l ≡ lit) ⊎ IsFalseLit t.table.order.items l) clause
others_false t clause lit kept others = others_marked t.variables t.table.truths.items t.table.levels.items t.table.reasons.items t.table.order.items clause lit kept.table others

pub left_rests : (t : Inner) (at : ℕ) (d : List Lit) (lit : Lit) → IsKept t → at < length (clauses_of t.store) → Contains (get_or (clauses_of t.store) at d) lit
    → AreOthersFalse t.table.truths.items (get_or (clauses_of t.store) at d) lit → RestsOn (clauses_of t.store) (state_of t).set lit (at + 1)
left_rests t at d lit kept within has others =
    let clause = get_or (clauses_of t.store) at d in
    let next : suc at ≡ at + 1 = omega arith in
    let named : IsNamed (clauses_of t.store) (suc at) clause = slice_get-get_or (clauses_of t.store) at d within in
    record {
      clause = clause;
      named = subst (λ (n : ℕ). IsNamed (clauses_of t.store) n clause) next named;
      within = has;
      others = subst (λ (xs : List Lit). All (λ l. (l ≡ lit) ⊎ IsFalseLit xs l) clause) (sym (order_is t)) (others_false t clause lit kept others);
    }

-- a read of the table of true literals
pub marked_true : (t : Inner) (lit : Lit) (read : ℕ) → IsKept t → lit.0 < length t.table.truths.items → read ≡ get_or t.table.truths.items lit.0 read → read ≡ 1 → Contains t.table.order.items lit
marked_true t lit read kept lt is one = kept.table.marked lit (sym (is ∙ get_or_default t.table.truths.items lit.0 read 0 lt) ∙ one)

-- what is true stays true
pub further_has : (t u : Inner) (lit : Lit) → IsFurther t u → Contains t.table.order.items lit → Contains u.table.order.items lit
further_has t u lit further has = let longer = further.longer in let lt = has.1 in (has.0, omega arith, further.same has.0 lit has.1 ∙ has.2)

-- the clause that is looked at is the same
pub same_clause : (t u : Inner) → u.store ≡ t.store → u.seen ≡ t.seen → (d : List Lit) → get_or (clauses_of t.store) t.seen d ≡ get_or (clauses_of u.store) u.seen d
same_clause t u store seen d = ap (λ s. get_or (clauses_of s) t.seen d) (sym store) ∙ ap (λ (n : ℕ). get_or (clauses_of u.store) n d) (sym seen)

-- ---- two literals that are not false

pub pair_guards : (t : Inner) (clause true_ : List Lit) (n : ℕ) (one other : Lit) → IsKept t → IsLeft t.table.truths.items clause one → IsOther t.table.truths.items clause one other
    → IsGuarded true_ (take n t.table.order.items) clause one other
pair_guards t clause true_ n one other kept left beside = record {
  left = guards_moved t.table.order.items true_ n clause one left.has (not_false t one kept left.not_false);
  right = guards_moved t.table.order.items true_ n clause other beside.has (not_false t other kept beside.not_false);
  same = λ e. absurd (beside.differs (sym e));
}

-- ---- one literal that is true, and others that are false

-- what was true at a decision was set at its level or below
in_front : (t : Inner) (k : ℕ) (lit : Lit) → IsKept t → k < length t.starts.items → Contains (take (get_or t.starts.items k 0) t.table.order.items) lit → get_or t.table.levels.items (variable_of lit) 0 ≤ k
in_front t k lit kept lt has =
    let f = entry_at t.table.levels.items t.table.reasons.items in
    let e = Contains-from_map (λ (e : Entry). e.lit) (gone_back (state_of t) k).set lit (subst (λ (xs : List Lit). Contains xs lit) (sym (front_at t k kept lt)) has) in
    let old = Contains-from_filter (λ (e : Entry). leb e.level k) (state_of t).set e.0 e.1 in
    let l = Contains-from_map f t.table.order.items e.0 old.0 in
    let le = leb-true e.0.level k old.1 in
    let level : e.0.level ≡ get_or t.table.levels.items (variable_of lit) 0 =
    ap (λ (x : Entry). x.level) (sym l.2) ∙ ap (λ (x : Lit). get_or t.table.levels.items (variable_of x) 0) (ap (λ (x : Entry). x.lit) l.2 ∙ e.2) in
    omega arith

front_has : (t : Inner) (k : ℕ) (lit : Lit) → IsKept t → k < length t.starts.items → Contains t.table.order.items lit → get_or t.table.levels.items (variable_of lit) 0 ≤ k
    → Contains (take (get_or t.starts.items k 0) t.table.order.items) lit
front_has t k lit kept lt has le =
    let f = entry_at t.table.levels.items t.table.reasons.items in
    subst (λ (xs : List Lit). Contains xs lit) (front_at t k kept lt)
    (Contains-map (λ (e : Entry). e.lit) (gone_back (state_of t) k).set (f lit)
    (Contains-filter (λ (e : Entry). leb e.level k) (state_of t).set (f lit) (Contains-map f t.table.order.items lit has) (le-leb (f lit).level k le)))

-- where the last one was false, all others were
all_before : (t : Inner) (k : ℕ) (clause : List Lit) (lit last : Lit) → IsKept t → k < length t.starts.items → All (λ l. (l ≡ lit) ⊎ IsFalseLit t.table.order.items l) clause
    → IsLast t.table.levels.items clause clause lit last → IsFalseLit (take (get_or t.starts.items k 0) t.table.order.items) last
    → All (λ l. (l ≡ lit) ⊎ IsFalseLit (take (get_or t.starts.items k 0) t.table.order.items) l) clause
all_before t k clause lit last kept lt others is last_false i d within =
    let l = get_or clause i d in
    ⊎_elim
    (λ same. inl same)
    (λ h. ⊎_elim
    (λ same. inl same)
    (λ before.
    let last_level = in_front t k (negated last) kept lt last_false in
    let le = before.1 in
    let a = ap (λ (v : ℕ). get_or t.table.levels.items v 0) (variable_of-negated last) in
    let b = ap (λ (v : ℕ). get_or t.table.levels.items v 0) (variable_of-negated l) in
    inr (front_has t k (negated l) kept lt h (omega arith)))
    (is.before i d within))
    (others i d within)

only_one : (levels : List ℕ) (clause : List Lit) (lit last : Lit) → IsLast levels clause clause lit last → lit ≡ last → (front : List Lit) → All (λ l. (l ≡ lit) ⊎ IsFalseLit front l) clause
only_one levels clause lit last is same front k d lt = ⊎_elim (λ e. inl e) (λ before. absurd (before.0 (sym same))) (is.before k d lt)

pub alone_now : (t : Inner) (clause : List Lit) (lit last : Lit) → Contains t.table.order.items lit → Contains clause lit → IsLast t.table.levels.items clause clause lit last
    → IsGuarded t.table.order.items (take t.head t.table.order.items) clause lit last
alone_now t clause lit last is_true has is =
    let satisfied : IsSatisfied t.table.order.items clause = record { lit = lit; within = has; is_true = is_true } in
    record {
      left = guards_satisfied t.table.order.items (take t.head t.table.order.items) clause lit has satisfied;
      right = guards_satisfied t.table.order.items (take t.head t.table.order.items) clause last is.has satisfied;
      same = λ e. satisfied;
    }

pub alone_were : (t : Inner) (at : ℕ) (d : List Lit) (lit last : Lit) → IsKept t → at < length (clauses_of t.store) → Contains t.table.order.items lit → Contains (get_or (clauses_of t.store) at d) lit
    → All (λ l. (l ≡ lit) ⊎ IsFalseLit t.table.order.items l) (get_or (clauses_of t.store) at d)
    → IsLast t.table.levels.items (get_or (clauses_of t.store) at d) (get_or (clauses_of t.store) at d) lit last
    → WasGuarded t.table.order.items t.starts.items t.fronts.items (get_or (clauses_of t.store) at d) lit last
alone_were t at d lit last kept within is_true has others is k lt =
    let clause = get_or (clauses_of t.store) at d in
    let start = get_or t.starts.items k 0 in
    let front = take start t.table.order.items in
    let head = get_or t.fronts.items k 0 in
    let open_ : IsOpen front clause = subst (λ (xs : List Lit). IsOpen xs clause) (at_start t k kept lt) (kept.trail.quiet k lt at d within) in
    let fronts : take head front ≡ take head t.table.order.items = take-take head start t.table.order.items (kept.fronts.within k lt) in
    record {
      left = guards_moved t.table.order.items front head clause lit has (λ f. not_both t.table.order.items lit (kept_consistent t kept) is_true f);
      right = subst (λ (xs : List Lit). Guards front xs clause last) fronts (last_guards front clause head lit last has is.has open_ (all_before t k clause lit last kept lt others is));
      same = λ e. open_satisfied front clause lit open_ has (only_one t.table.levels.items clause lit last is e front);
    }

-- the others are false still
pub others_further : (t u : Inner) (clause : List Lit) (lit : Lit) → IsKept t → IsFurther t u → AreOthersFalse t.table.truths.items clause lit → All (λ l. (l ≡ lit) ⊎ IsFalseLit u.table.order.items l) clause
others_further t u clause lit kept further others k d lt =
    ⊎_elim (λ same. inl same) (λ f. inr (further_has t u (negated (get_or clause k d)) further f)) (others_false t clause lit kept others k d lt)

-- ---- the watchers of a clause

-- what the code did
pub record IsPushed (v w : Watch) (one other : Lit) : Type 0 where
  pub listed : AreListed (guards_of w) (next_of w) w.firsts.items
  pub guards : guards_of w ≡ (guards_of v ++ one ∷ []) ++ other ∷ []
  pub firsts : length w.firsts.items ≡ length v.firsts.items
  pub room : vec_capacity w.watchers ≡ vec_capacity v.watchers

pub guard_kept : (t : Inner) (watch : Watch) (one other : Lit) → IsKept t → t.seen < length (clauses_of t.store) → IsPushed t.watch watch one other
    → ((d : List Lit) → IsGuarded t.table.order.items (take t.head t.table.order.items) (get_or (clauses_of t.store) t.seen d) one other)
    → ((d : List Lit) → WasGuarded t.table.order.items t.starts.items t.fronts.items (get_or (clauses_of t.store) t.seen d) one other)
    → IsKept (record t { watch = watch; seen = t.seen + 1 })
guard_kept t watch one other kept within is now were =
    let long = kept.guards_long in
    let long1 = length-append (guards_of t.watch) (one ∷ []) in
    let long2 = length-append (guards_of t.watch ++ one ∷ []) (other ∷ []) in
    let same = ap length is.guards in
    let a = is.room in let b = kept.watchers_room in
    record {
      trail = kept.trail;
      store = kept.store;
      table = kept.table;
      starts = kept.starts;
      fronts = kept.fronts;
      listed = is.listed;
      firsts_long = is.firsts ∙ kept.firsts_long;
      guards_long = omega arith;
      guarded = rw is.guards (are_watched (clauses_of t.store) (guards_of t.watch) t.table.order.items (take t.head t.table.order.items) t.seen one other long now kept.guarded);
      were = λ k lt. rw is.guards
          (are_watched (clauses_of t.store) (guards_of t.watch) (take (get_or t.starts.items k 0) t.table.order.items) (take (get_or t.fronts.items k 0) t.table.order.items) t.seen one other long (λ d. were d k lt) (kept.were k lt));
      head_within = kept.head_within;
      seen_within = omega arith;
      few = kept.few;
      order_room = kept.order_room;
      starts_room = kept.starts_room;
      fronts_room = kept.fronts_room;
      watchers_room = omega arith;
    }

-- there is room for two watchers more, and their numbers fit
pub record HasPlaces (t : Inner) : Type 0 where
  pub few : length t.watch.watchers.items + 2 < 2 ^ 32
  pub room : length t.watch.watchers.items + 2 ≤ vec_capacity t.watch.watchers

pub places : (t : Inner) → IsKept t → t.seen < length (clauses_of t.store) → HasPlaces t
places t kept within =
    let long = kept.guards_long in
    let a = kept.watchers_room in
    let count = guards_count t.watch in
    let few = kept.store.few in
    let clauses = length-cut t.store.literals.items t.store.bounds.items in
    record { few = omega arith; room = omega arith }
