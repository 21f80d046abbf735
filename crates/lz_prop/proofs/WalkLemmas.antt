-- The walk along the watchers of a literal, and how far looking and handling came.
use Rattle.std.proofs.Common.{◌≡◌, ℕ, suc, ◌+◌, ◌-◌, ◌/◌, ◌<◌, ◌≤◌, ⊎_elim, List, [], ◌∷◌, length, get_or, take, Option, Some, None, refl, sym, ◌∙◌, ap, subst, arith}
use Rattle.std.specs.List.{Contains}
use Rattle.std.specs.Vec.{vec_capacity}
use Rattle.std.proofs.lemmas.List.{get_or-map, get_or_default, length-set}
use Rattle.lz_base.proofs.ListLemmas.{contained_cases}
use Rattle.lz_cnf.specs.declared.clause.Lit.{Lit}
use Rattle.lz_cnf.specs.Models.{variable_of, negated}
use Rattle.lz_cnf.specs.Partial.{IsFalseLit}
use Rattle.lz_cnf.proofs.LitLemmas.{negated-negated, same_lit}
use Rattle.lz_prop.specs.declared.inner.Inner.{Inner}
use Rattle.lz_prop.specs.declared.watch.Watch.{Watch}
use Rattle.lz_prop.specs.declared.watch.Watcher.{Watcher}
use Rattle.lz_prop.specs.Trail.{Entry}
use Rattle.lz_prop.specs.Watch.{twin, IsChain, IsAlong, IsShifted}
use Rattle.lz_prop.specs.Watchers.{guards_of, next_of}
use Rattle.lz_prop.specs.Guarded.{Guards, AreGuarded}
use Rattle.lz_prop.specs.Parts.{entry_at}
use Rattle.lz_prop.specs.Scan.{IsOther}
use Rattle.lz_prop.specs.Stored.{clauses_of}
use Rattle.lz_prop.specs.Kept.{IsKept}
use Rattle.lz_prop.specs.Further.{IsFurther, IsHandled, IsPropagated}
use Rattle.lz_prop.specs.Walk.{IsWalk, IsTurn, IsWalking}
use Rattle.lz_prop.proofs.WatchLemmas.{last_within, firsts_long, chain_unique, chain_some, chain_none, chain_short, list_fits, along_begins, along_stays, along_shifted, IsLeftAlong}
use Rattle.lz_prop.proofs.WatchersLemmas.{guards_count, guard_read}
use Rattle.lz_prop.proofs.GuardLemmas.{twin_within, twin_half, guards_moved, guards_satisfied, are_next, are_moved, guarded_quiet}
use Rattle.lz_prop.proofs.KeptLemmas.{set_long, numbered, in_variables, kept_consistent, further_same, further_join}
use Rattle.lz_prop.proofs.LookLemmas.{not_false}

-- ---- marks of the queue

pub head_kept : (t : Inner) → IsKept t → t.head < length t.table.order.items → AreGuarded (clauses_of t.store) (guards_of t.watch) t.table.order.items (take (suc t.head) t.table.order.items) → IsKept (record t { head = t.head + 1 })
head_kept t kept waiting are = record {
  trail = kept.trail;
  store = kept.store;
  table = kept.table;
  starts = kept.starts;
  fronts = kept.fronts;
  listed = kept.listed;
  firsts_long = kept.firsts_long;
  guards_long = kept.guards_long;
  guarded = subst (λ (n : ℕ). AreGuarded (clauses_of t.store) (guards_of t.watch) t.table.order.items (take n t.table.order.items)) (let e : suc t.head ≡ t.head + 1 = omega arith in e) are;
  were = kept.were;
  head_within = (let lt = waiting in omega arith);
  seen_within = kept.seen_within;
  few = kept.few;
  order_room = kept.order_room;
  starts_room = kept.starts_room;
  fronts_room = kept.fronts_room;
  watchers_room = kept.watchers_room;
}

pub head_further : (t : Inner) → IsFurther t (record t { head = t.head + 1 })
head_further t = further_same t (record t { head = t.head + 1 }) refl refl refl refl

-- ---- where the walk stands

order_variable : (t : Inner) (k : ℕ) (d : Lit) → IsKept t → k < length t.table.order.items → variable_of (get_or t.table.order.items k d) < t.variables
order_variable t k d kept lt =
    let e : Entry = entry_at t.table.levels.items t.table.reasons.items d in
    let same = get_or-map (entry_at t.table.levels.items t.table.reasons.items) t.table.order.items k d e lt in
    let long = set_long t in
    subst (λ (x : Entry). variable_of x.lit < t.variables) same (kept.trail.known k e (omega arith))

-- the negation of a true literal has a list
pub walk_number : (t : Inner) (lit : Lit) → IsKept t → t.head < length t.table.order.items → ((d : Lit) → lit ≡ negated (get_or t.table.order.items t.head d)) → lit.0 < length t.watch.firsts.items
walk_number t lit kept waiting is =
    subst (λ (l : Lit). l.0 < length t.watch.firsts.items) (sym (is lit))
    (numbered t (get_or t.table.order.items t.head lit) kept (order_variable t t.head lit kept waiting)).other_first

-- the literal is false
walk_false : (t : Inner) (lit : Lit) (before at : ℕ) → IsWalk t lit before at → IsFalseLit t.table.order.items lit
walk_false t lit before at walk =
    let first = get_or t.table.order.items t.head lit in
    let waiting = walk.waiting in
    subst (Contains t.table.order.items) (sym (ap negated (walk.lit_is lit) ∙ negated-negated first)) (t.head, waiting, get_or_default t.table.order.items t.head first lit waiting)

-- the watcher at which the walk stands
pub record IsAt (t : Inner) (lit : Lit) (before at : ℕ) : Type 0 where
  pub past : List ℕ
  pub ws : List ℕ
  pub along : IsAlong (guards_of t.watch) (next_of t.watch) (get_or t.watch.firsts.items lit.0 0) lit before at past ((at - 1) ∷ ws)
  pub done : (w : ℕ) (c : List Lit) → Contains past w → Guards t.table.order.items (take (suc t.head) t.table.order.items) (get_or (clauses_of t.store) (w / 2) c) lit
  pub within : at - 1 < length (guards_of t.watch)
  pub is : get_or (guards_of t.watch) (at - 1) lit ≡ lit
  pub at_is : at ≡ suc (at - 1)
  pub clause : (at - 1) / 2 < length (clauses_of t.store)
  pub twin_in : twin (at - 1) < length (guards_of t.watch)

pub stands_at : (t : Inner) (lit : Lit) (before at : ℕ) → IsKept t → IsWalk t lit before at → 0 < at → IsAt t lit before at
stands_at t lit before at kept walk some =
    let w = at - 1 in
    let rest = chain_some (next_of t.watch) at walk.rest walk.along.chain some in
    let along = subst (λ (xs : List ℕ). IsAlong (guards_of t.watch) (next_of t.watch) (get_or t.watch.firsts.items lit.0 0) lit before at walk.past xs) rest.1 walk.along in
    let own = along.rest_members w (0, omega arith, refl) in
    let within = own.0 in
    let long = kept.guards_long in
    let seen = kept.seen_within in
    let both = twin_within w t.seen (omega arith) in
    record {
      past = walk.past;
      ws = rest.0;
      along = along;
      done = walk.done;
      within = own.0;
      is = own.1;
      at_is = omega arith;
      clause = omega arith;
      twin_in = omega arith;
    }

-- where the watcher before stands
pub before_within : (t : Inner) (lit : Lit) (before at : ℕ) → IsKept t → IsWalk t lit before at → before ≤ length (next_of t.watch)
before_within t lit before at kept walk = last_within (guards_of t.watch) (next_of t.watch) (get_or t.watch.firsts.items lit.0 0) lit before at walk.past walk.rest walk.along

-- ---- the walk begins and ends

pub walk_begins : (t : Inner) (lit : Lit) (at : ℕ) → IsKept t → t.head < length t.table.order.items → ((d : Lit) → lit ≡ negated (get_or t.table.order.items t.head d))
    → at ≡ get_or t.watch.firsts.items lit.0 0 → IsWalk t lit 0 at
walk_begins t lit at kept waiting is first =
    let number = walk_number t lit kept waiting is in
    let listed = kept.listed.lists lit number in
    let start = get_or t.watch.firsts.items lit.0 0 in
    record {
      waiting = waiting;
      lit_is = is;
      number = number;
      past = [];
      rest = listed.list;
      along = subst (λ (n : ℕ). IsAlong (guards_of t.watch) (next_of t.watch) start lit 0 n [] listed.list) (sym first) (along_begins (guards_of t.watch) (next_of t.watch) start lit listed);
      done = λ w c has. absurd (let lt = has.1 in omega arith);
    }

-- the list is no longer than there are watchers
pub walk_few : (t : Inner) (lit : Lit) (before at : ℕ) → IsWalk t lit before at → (ws : List ℕ) → IsChain (next_of t.watch) at ws → length ws ≤ length (guards_of t.watch)
walk_few t lit before at walk ws chain =
    let same : walk.rest ≡ ws = chain_unique (next_of t.watch) at walk.rest ws walk.along.chain chain in
    subst (λ (xs : List ℕ). length xs ≤ length (guards_of t.watch)) same
    (list_fits walk.rest (length (guards_of t.watch)) walk.along.rest_apart (λ v has. (walk.along.rest_members v has).0))

-- after as many turns as there were watchers
pub walk_short : (t : Inner) (lit : Lit) (before at turns most : ℕ) → IsWalk t lit before at → ((ws : List ℕ) → IsChain (next_of t.watch) at ws → length ws + turns ≤ most) → most ≤ turns → at ≡ 0
walk_short t lit before at turns most walk few all =
    let le = few walk.rest walk.along.chain in
    chain_short (next_of t.watch) at walk.rest walk.along.chain (omega arith)

pub walk_ends : (t : Inner) (lit : Lit) (before at : ℕ) → IsKept t → IsWalk t lit before at → at ≡ 0
    → AreGuarded (clauses_of t.store) (guards_of t.watch) t.table.order.items (take (suc t.head) t.table.order.items)
walk_ends t lit before at kept walk end =
    let none = chain_none (next_of t.watch) at walk.rest walk.along.chain end in
    are_next (clauses_of t.store) (guards_of t.watch) t.table.order.items t.head lit walk.waiting walk.lit_is
    (λ w c lt e. ⊎_elim (λ past. walk.done w c past) (λ rest. absurd (let h = subst (λ (xs : List ℕ). Contains xs w) none rest in let below = h.1 in omega arith)) (walk.along.whole w lt e))
    kept.guarded

-- ---- a turn

-- the watcher stays
pub turn_stays : (t u : Inner) (lit : Lit) (before at : ℕ) → IsKept t → IsWalk t lit before at → 0 < at → IsFurther t u → u.watch ≡ t.watch → u.head ≡ t.head
    → ((c : List Lit) → Guards u.table.order.items (take (suc t.head) u.table.order.items) (get_or (clauses_of t.store) ((at - 1) / 2) c) lit) → IsTurn t u lit at at
turn_stays t u lit before at kept walk some further watch head guard =
    let w = at - 1 in
    let here = stands_at t lit before at kept walk some in
    let stays = along_stays (guards_of t.watch) (next_of t.watch) (get_or t.watch.firsts.items lit.0 0) lit before at here.past w here.ws here.along in
    let waiting = walk.waiting in
    let longer = further.longer in
    let done : (v : ℕ) (c : List Lit) → Contains (w ∷ here.past) v → Guards u.table.order.items (take (suc t.head) u.table.order.items) (get_or (clauses_of t.store) (v / 2) c) lit = λ v c has.
    ⊎_elim
    (λ same. subst (λ (n : ℕ). Guards u.table.order.items (take (suc t.head) u.table.order.items) (get_or (clauses_of t.store) (n / 2) c) lit) (sym same) (guard c))
    (λ past. further.guards (suc t.head) (get_or (clauses_of t.store) (v / 2) c) lit (omega arith) (here.done v c past))
    (contained_cases w v here.past has) in
    record {
      walk = record {
        waiting = omega arith;
        lit_is = λ d. walk.lit_is d ∙ ap negated (sym (further.same t.head d waiting)) ∙ ap (λ (n : ℕ). negated (get_or u.table.order.items n d)) (sym head);
        number = rw watch walk.number;
        past = w ∷ here.past;
        rest = here.ws;
        along = rw watch stays;
        done = λ v c has. rw (further.store, head) (done v c has);
      };
      rest = λ ws chain. (here.at_is, here.along.chain.1, subst (λ (x : Watch). IsChain (next_of x) (get_or (next_of t.watch) w 0) ws) watch chain);
    }

-- what the code did when the watcher moved
pub record IsMoved (v w : Watch) (lit : Lit) (before at : ℕ) (to : Lit) : Type 0 where
  pub shifted : IsShifted (guards_of v) (guards_of w) (next_of v) (next_of w) v.firsts.items w.firsts.items lit before at to
  pub room : vec_capacity w.watchers ≡ vec_capacity v.watchers

-- where it moves to
pub record IsTarget (t : Inner) (at : ℕ) (to : Lit) : Type 0 where
  pub number : to.0 < length t.watch.firsts.items
  pub left : IsFalseLit t.table.order.items to → ⊥
  pub within : (c : List Lit) → Contains (get_or (clauses_of t.store) ((at - 1) / 2) c) to
  pub differs : (d : Lit) → to ≡ get_or (guards_of t.watch) (twin (at - 1)) d → ⊥

pub target_of : (t : Inner) (lit : Lit) (before at : ℕ) (to : Lit) → IsKept t → IsWalk t lit before at → 0 < at
    → ((d : Lit) (c : List Lit) → IsOther t.table.truths.items (get_or (clauses_of t.store) ((at - 1) / 2) c) (get_or (guards_of t.watch) (twin (at - 1)) d) to) → IsTarget t at to
target_of t lit before at to kept walk some other =
    let here = stands_at t lit before at kept walk some in
    record {
      number = (numbered t to kept (in_variables t ((at - 1) / 2) [] to kept here.clause (other lit []).has)).first;
      left = not_false t to kept (other lit []).not_false;
      within = λ c. (other lit c).has;
      differs = λ d. (other d []).differs;
    }

moved_along : (t : Inner) (watch : Watch) (lit : Lit) (before at : ℕ) (to : Lit) (here : IsAt t lit before at) → IsKept t → IsWalk t lit before at → IsTarget t at to → IsMoved t.watch watch lit before at to
    → IsLeftAlong (guards_of watch) (next_of t.watch) (next_of watch) watch.firsts.items lit before at here.past here.ws
moved_along t watch lit before at to here kept walk target moved =
    along_shifted (guards_of t.watch) (guards_of watch) (next_of t.watch) (next_of watch) t.watch.firsts.items watch.firsts.items lit before at here.past here.ws to kept.listed here.along walk.number target.number
    (λ e. target.left (subst (IsFalseLit t.table.order.items) (sym (same_lit to lit e)) (walk_false t lit before at walk)))
    moved.shifted

pub moved_kept : (t : Inner) (watch : Watch) (lit : Lit) (before at : ℕ) (to : Lit) → IsKept t → IsWalk t lit before at → 0 < at → IsTarget t at to → IsMoved t.watch watch lit before at to → IsKept (record t { watch = watch })
moved_kept t watch lit before at to kept walk some target moved =
    let w = at - 1 in
    let here = stands_at t lit before at kept walk some in
    let left = moved_along t watch lit before at to here kept walk target moved in
    let guards_are = moved.shifted.guards_are in
    let a = moved.room in let b = kept.watchers_room in
    let guards_long : length (guards_of watch) ≡ length (guards_of t.watch) = ap length guards_are ∙ length-set (guards_of t.watch) w to in
    record {
      trail = kept.trail;
      store = kept.store;
      table = kept.table;
      starts = kept.starts;
      fronts = kept.fronts;
      listed = left.listed;
      firsts_long = firsts_long t.watch.firsts.items watch.firsts.items lit before (get_or (next_of t.watch) w 0) to at moved.shifted.firsts_are ∙ kept.firsts_long;
      guards_long = guards_long ∙ kept.guards_long;
      guarded = rw guards_are
          (are_moved (clauses_of t.store) (guards_of t.watch) t.table.order.items (take t.head t.table.order.items) w to here.within
          (λ c. guards_moved t.table.order.items t.table.order.items t.head (get_or (clauses_of t.store) (w / 2) c) to (target.within c) target.left) target.differs kept.guarded);
      were = λ k lt. rw guards_are
          (are_moved (clauses_of t.store) (guards_of t.watch) (take (get_or t.starts.items k 0) t.table.order.items) (take (get_or t.fronts.items k 0) t.table.order.items) w to here.within
          (λ c. guards_moved t.table.order.items (take (get_or t.starts.items k 0) t.table.order.items) (get_or t.fronts.items k 0) (get_or (clauses_of t.store) (w / 2) c) to (target.within c) target.left) target.differs (kept.were k lt));
      head_within = kept.head_within;
      seen_within = kept.seen_within;
      few = kept.few;
      order_room = kept.order_room;
      starts_room = kept.starts_room;
      fronts_room = kept.fronts_room;
      watchers_room = omega arith;
    }

pub turn_moves : (t : Inner) (watch : Watch) (lit : Lit) (before at : ℕ) (to : Lit) → IsKept t → IsWalk t lit before at → 0 < at → IsTarget t at to → IsMoved t.watch watch lit before at to
    → IsTurn t (record t { watch = watch }) lit before at
turn_moves t watch lit before at to kept walk some target moved =
    let w = at - 1 in
    let here = stands_at t lit before at kept walk some in
    let left = moved_along t watch lit before at to here kept walk target moved in
    let number = walk.number in
    let same = firsts_long t.watch.firsts.items watch.firsts.items lit before (get_or (next_of t.watch) w 0) to at moved.shifted.firsts_are in
    record {
      walk = record {
        waiting = walk.waiting;
        lit_is = walk.lit_is;
        number = omega arith;
        past = here.past;
        rest = here.ws;
        along = left.along;
        done = here.done;
      };
      rest = λ ws chain. (
        here.at_is,
        here.along.chain.1,
        subst (IsChain (next_of t.watch) (get_or (next_of t.watch) w 0)) (chain_unique (next_of watch) (get_or (next_of t.watch) w 0) here.ws ws left.along.chain chain) here.along.chain.2,
      );
    }

-- the other watched literal stands in the clause
pub other_within : (t : Inner) (lit : Lit) (before at : ℕ) (other : Lit) → IsKept t → IsWalk t lit before at → 0 < at → ((d : Lit) → other ≡ get_or (guards_of t.watch) (twin (at - 1)) d)
    → (c : List Lit) → Contains (get_or (clauses_of t.store) ((at - 1) / 2) c) other
other_within t lit before at other kept walk some is c =
    let w = at - 1 in
    let here = stands_at t lit before at kept walk some in
    subst (λ (l : Lit). Contains (get_or (clauses_of t.store) (w / 2) c) l) (sym (is lit))
    (subst (λ (k : ℕ). Contains (get_or (clauses_of t.store) k c) (get_or (guards_of t.watch) (twin w) lit)) (twin_half w) (kept.guarded.each (twin w) c lit here.twin_in).within)

-- the other watched literal, as the code reads it
pub record IsRead (t : Inner) (at : ℕ) (other : Lit) : Type 0 where
  pub is : (d : Lit) → other ≡ get_or (guards_of t.watch) (twin (at - 1)) d
  pub number : other.0 < length t.table.truths.items

pub other_read : (t : Inner) (lit : Lit) (before at place : ℕ) (other : Watcher) → IsKept t → IsWalk t lit before at → 0 < at → place ≡ twin (at - 1) → other ≡ get_or t.watch.watchers.items place other → IsRead t at other.lit
other_read t lit before at place other kept walk some place_is read =
    let here = stands_at t lit before at kept walk some in
    let inside = here.twin_in in
    let count = guards_count t.watch in
    let is : (d : Lit) → other.lit ≡ get_or (guards_of t.watch) (twin (at - 1)) d = λ d.
    guard_read t.watch place other d (omega arith) read ∙ ap (λ (n : ℕ). get_or (guards_of t.watch) n d) place_is in
    record {
      is = is;
      number = (numbered t other.lit kept (in_variables t ((at - 1) / 2) [] other.lit kept here.clause (other_within t lit before at other.lit kept walk some is []))).number;
    }

-- the clause of the watcher has a true literal
pub turn_satisfied : (t u : Inner) (lit : Lit) (before at : ℕ) (other : Lit) → IsKept t → IsWalk t lit before at → 0 < at → ((d : Lit) → other ≡ get_or (guards_of t.watch) (twin (at - 1)) d) → Contains u.table.order.items other
    → (c : List Lit) → Guards u.table.order.items (take (suc t.head) u.table.order.items) (get_or (clauses_of t.store) ((at - 1) / 2) c) lit
turn_satisfied t u lit before at other kept walk some is is_true c =
    let w = at - 1 in
    let here = stands_at t lit before at kept walk some in
    let clause = get_or (clauses_of t.store) (w / 2) c in
    let has : Contains clause lit = subst (Contains clause) here.is (kept.guarded.each w c lit here.within).within in
    guards_satisfied u.table.order.items (take (suc t.head) u.table.order.items) clause lit has
    (record { lit = other; within = other_within t lit before at other kept walk some is c; is_true = is_true })

-- ---- turn after turn

pub walking_begins : (t : Inner) (lit : Lit) (at most : ℕ) → IsKept t → t.head < length t.table.order.items → ((d : Lit) → lit ≡ negated (get_or t.table.order.items t.head d))
    → at ≡ get_or t.watch.firsts.items lit.0 at → length (guards_of t.watch) ≤ most → IsWalking t t lit 0 at 0 most
walking_begins t lit at most kept waiting is first le =
    let walk = walk_begins t lit at kept waiting is (first ∙ get_or_default t.watch.firsts.items lit.0 at 0 (walk_number t lit kept waiting is)) in
    record {
      kept = kept;
      further = further_same t t refl refl refl refl;
      head = refl;
      seen = refl;
      walk = walk;
      few = λ ws chain. let short = walk_few t lit 0 at walk ws chain in omega arith;
    }

-- what stands behind the watcher
pub behind_within : (t : Inner) (lit : Lit) (before at : ℕ) → IsKept t → IsWalk t lit before at → 0 < at → at - 1 < length (next_of t.watch)
behind_within t lit before at kept walk some = let lt = (stands_at t lit before at kept walk some).within in let long = kept.listed.next_long in omega arith

pub walking_more : (s t u : Inner) (lit : Lit) (before at now behind turns most : ℕ) → IsWalking s t lit before at turns most → 0 < at → behind ≡ get_or (next_of t.watch) (at - 1) 0
    → IsKept u → IsFurther t u → u.head ≡ t.head → u.seen ≡ t.seen → IsTurn t u lit now at → IsWalking s u lit now behind (turns + 1) most
walking_more s t u lit before at now behind turns most walking some behind_is kept further head seen turn =
    record {
      kept = kept;
      further = further_join s t u walking.further further;
      head = head ∙ walking.head;
      seen = seen ∙ walking.seen;
      walk = subst (IsWalk u lit now) (sym behind_is) turn.walk;
      few = λ ws chain. let le = walking.few ((at - 1) ∷ ws) (turn.rest ws (subst (λ (n : ℕ). IsChain (next_of u.watch) n ws) behind_is chain)) in omega arith;
    }

-- ---- propagation

pub handled_outcome : (t : Inner) (found : Option ℕ) → IsKept t → length (clauses_of t.store) ≤ t.seen → IsHandled t found → IsPropagated t found
handled_outcome t None kept all none = guarded_quiet (clauses_of t.store) (guards_of t.watch) t.table.order.items t.head t.seen (kept_consistent t kept) kept.guards_long kept.guarded none all
handled_outcome t (Some at) kept all is_false = is_false
