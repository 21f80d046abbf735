-- What the walk leaves at the first unique implication point, and at level 0.
use Rattle.std.proofs.Common.{◌≡◌, ◌≢◌, ℕ, zero, suc, ◌+◌, ◌-◌, ◌<◌, ◌≤◌, ◌⊎◌, inl, inr, ⊎_elim, true, eqb, List, [], ◌∷◌, ◌++◌, length, get_or, take, reverse, Some, refl, sym, ◌∙◌, ap, subst, arith}
use Rattle.std.specs.List.{All, Contains, list_any}
use Rattle.std.proofs.lemmas.Bool.{cases_eq, eq-eqb, and_from}
use Rattle.std.proofs.lemmas.List.{take_more, take_all, length-reverse, get_or_default}
use Rattle.std.proofs.lemmas.List.Elements.{All-contains, All-cons, All-nil, All-more, Contains-get_or, Contains-append_left, Contains-append_right, Contains-push}
use Rattle.lz_base.proofs.ListLemmas.{head_contained}
use Rattle.lz_cnf.specs.declared.clause.Lit.{Lit}
use Rattle.lz_cnf.specs.Models.{variable_of, negated}
use Rattle.lz_cnf.specs.Partial.{IsFalseLit, IsUnitClause}
use Rattle.lz_cnf.proofs.LitLemmas.{variable_of-negated, negated-negated}
use Rattle.lz_log.specs.Refutation.{LeadsToFalse, FollowsBy}
use Rattle.lz_prop.specs.Trail.{Entry, TrailState, IsTrail, IsFalseNamed, HoldsClause, IsApart, WasOpen, literals, gone_back, entry_of, level_in}
use Rattle.lz_prop.proofs.LitLemmas.{Contains-map, Contains-from_map}
use Rattle.lz_prop.proofs.EntryLemmas.{one_entry, entry_held, set_consistent}
use Rattle.lz_analyze.specs.Learnt.{IsFalseAt, IsLearnt}
use Rattle.lz_analyze.specs.Walks.{is_open, IsWalk, LeadsFrom}
use Rattle.lz_analyze.specs.Walking.{IsTodo, IsAtPoint}
use Rattle.lz_analyze.specs.declared.walk.Walk.{Walk}
use Rattle.lz_analyze.specs.Highest.{IsHighest}
use Rattle.lz_analyze.specs.LearntFrom.{IsLearntFrom}
use Rattle.lz_log.specs.Newness.{IsNewClause}
use Rattle.lz_log.proofs.RefutationLemmas.{same_named}
use Rattle.lz_analyze.proofs.LearntLemmas.{learnt_is_new, learnt_was_open, learnt_is_unit}
use Rattle.lz_analyze.specs.Chains.{Link, IsChain, IsShorter}
use Rattle.lz_analyze.proofs.ChainLemmas.{before_hints, chain_leads}
use Rattle.lz_analyze.proofs.LevelLemmas.{conflict_at_level}
use Rattle.lz_analyze.proofs.WalkLemmas.{last_open_leads, none_counted, marked_is}
use Rattle.lz_analyze.proofs.WalkingLemmas.{open_entry}

-- ---- false literals

false_at_all : (s : TrailState) (test : ℕ → Type 0) (lit : Lit) → IsFalseAt s.set test lit → IsFalseLit (literals s.set) lit
false_at_all s test lit at = subst (Contains (literals s.set)) at.negates (Contains-map (λ (e : Entry). e.lit) s.set at.entry at.within)

-- no literal of a false clause has its negation there
one_sign : (s : TrailState) (clause : List Lit) → IsTrail s → All (IsFalseLit (literals s.set)) clause → All (λ lit. Contains clause (negated lit) → ⊥) clause
one_sign s clause trail all k d lt has =
    let lit = get_or clause k d in
    let other = All-contains (IsFalseLit (literals s.set)) clause (negated lit) all has in
    All-contains (λ l. Contains (literals s.set) (negated l) → ⊥) (literals s.set) (negated lit) (set_consistent s trail) (all k d lt) other

false_variable : (s : TrailState) (lit : Lit) → IsTrail s → IsFalseLit (literals s.set) lit → variable_of lit < s.variables
false_variable s lit trail h =
    let source = Contains-from_map (λ (e : Entry). e.lit) s.set (negated lit) h in
    let known = All-contains (λ (e : Entry). variable_of e.lit < s.variables) s.set source.0 trail.known source.1 in
    let same : variable_of source.0.lit ≡ variable_of lit = ap variable_of source.2 ∙ variable_of-negated lit in
    omega arith

follows : (s : TrailState) (clause : List Lit) (hints : List ℕ) → IsTrail s → All (IsFalseLit (literals s.set)) clause → LeadsToFalse s.clauses clause hints → FollowsBy s.variables s.clauses clause hints
follows s clause hints trail all leads = record {
  one_sign = one_sign s clause trail all;
  variables = λ k d lt. false_variable s (get_or clause k d) trail (all k d lt);
  hints = leads;
}

-- ---- at level 0

pub zero_follows : (s : TrailState) (marked : List ℕ) (low : List Lit) (at : ℕ) (hints : List ℕ) → IsTrail s → IsWalk s (IsTodo s at []) marked low at 0 hints → s.level ≡ 0 → FollowsBy s.variables s.clauses [] hints
zero_follows s marked low at hints trail walk zero_ =
    follows s [] hints trail (All-nil (IsFalseLit (literals s.set)))
    (walk.leads [] (All-nil (IsFalseLit (literals s.set))) (λ l h. absurd (⊎_elim
    (λ left. ⊎_elim
    (λ in_low. let at_low = All-contains (IsFalseAt s.set (λ level. level < s.level)) low l walk.lower in_low in let lt = at_low.level in omega arith)
    (λ open_. none_counted (is_open s.level marked) (take at s.set) open_.entry (sym walk.count) open_.within open_.open_)
    left)
    (λ todo. let g = todo.0 in omega (arith, g.1))
    h)))

-- ---- at the first unique implication point

-- where the walk stands
pub record IsPoint (s : TrailState) (marked : List ℕ) (low : List Lit) (at : ℕ) (hints : List ℕ) (e : Entry) : Type 0 where
  pub walk : IsWalk s (IsTodo s at []) marked low at 1 hints
  pub positive : 0 < at
  pub is : (d : Entry) → get_or s.set (at - 1) d ≡ e
  pub open_ : is_open s.level marked e ≡ true

place : (s : TrailState) (marked : List ℕ) (low : List Lit) (at : ℕ) (hints : List ℕ) (e : Entry) → IsPoint s marked low at hints e → at - 1 < length s.set
place s marked low at hints e point = let within = point.walk.within in let positive = point.positive in omega arith

in_set : (s : TrailState) (marked : List ℕ) (low : List Lit) (at : ℕ) (hints : List ℕ) (e : Entry) → IsPoint s marked low at hints e → Contains s.set e
in_set s marked low at hints e point = (at - 1, place s marked low at hints e point, point.is e)

pub all_false : (s : TrailState) (marked : List ℕ) (low : List Lit) (at : ℕ) (hints : List ℕ) (e : Entry) → IsPoint s marked low at hints e → All (IsFalseLit (literals s.set)) (negated e.lit ∷ low)
all_false s marked low at hints e point =
    All-cons (IsFalseLit (literals s.set)) (negated e.lit) low
    (subst (Contains (literals s.set)) (sym (negated-negated e.lit)) (Contains-map (λ (x : Entry). x.lit) s.set e (in_set s marked low at hints e point)))
    (λ k d lt. false_at_all s (λ level. level < s.level) (get_or low k d) (point.walk.lower k d lt))

pub point_follows : (s : TrailState) (marked : List ℕ) (low : List Lit) (at : ℕ) (hints : List ℕ) (e : Entry) → IsTrail s → IsPoint s marked low at hints e → FollowsBy s.variables s.clauses (negated e.lit ∷ low) hints
point_follows s marked low at hints e trail point =
    let clause = negated e.lit ∷ low in
    let positive = point.positive in
    let same : at ≡ (at - 1) + 1 = omega arith in
    let all = all_false s marked low at hints e point in
    let here : get_or s.set (at - 1) e ≡ e = point.is e in
    follows s clause hints trail all
    (last_open_leads s (IsTodo s at []) marked low clause (at - 1) e hints trail (subst (λ (n : ℕ). IsWalk s (IsTodo s at []) marked low n 1 hints) same point.walk)
    (λ l todo. let g = todo.0 in omega (arith, g.1))
    (ap (is_open s.level marked) here ∙ point.open_) all
    (λ k d lt. Contains-append_right (negated e.lit ∷ []) low (get_or low k d) (Contains-get_or low k d lt))
    (subst (λ (x : Entry). Contains clause (negated x.lit)) (sym here) (head_contained (negated e.lit) low)))

-- the level of a low literal is below that of the point
apart_from : (s : TrailState) (e : Entry) (lit : Lit) → IsTrail s → Contains s.set e → e.level ≡ s.level → IsFalseAt s.set (λ level. level < s.level) lit → variable_of (negated e.lit) ≡ variable_of lit → ⊥
apart_from s e lit trail has level at same =
    let one : e ≡ at.entry = one_entry s trail e at.entry has at.within (sym (variable_of-negated e.lit) ∙ same ∙ sym (variable_of-negated lit) ∙ sym (ap variable_of at.negates)) in
    let levels : e.level ≡ at.entry.level = ap (λ (x : Entry). x.level) one in
    let below = at.level in
    omega arith

all_pairs_cons : (first : Lit) (rest : List Lit) → All (λ x. variable_of first ≢ variable_of x) rest → IsApart rest → IsApart (first ∷ rest)
all_pairs_cons first rest one others zero zero d lt within = absurd (omega arith)
all_pairs_cons first rest one others zero (suc j) d lt within = one j d (omega arith)
all_pairs_cons first rest one others (suc i) zero d lt within = absurd (omega arith)
all_pairs_cons first rest one others (suc i) (suc j) d lt within = others i j d (omega arith) (omega arith)

pub point_apart : (s : TrailState) (marked : List ℕ) (low : List Lit) (at : ℕ) (hints : List ℕ) (e : Entry) → IsTrail s → IsPoint s marked low at hints e → IsApart (negated e.lit ∷ low)
point_apart s marked low at hints e trail point =
    let own = open_entry s.level marked e point.open_ in
    all_pairs_cons (negated e.lit) low
    (λ k d lt. apart_from s e (get_or low k d) trail (in_set s marked low at hints e point) own.level_is (point.walk.lower k d lt))
    point.walk.apart

-- the level of a false literal, as it is told
told_level : (s : TrailState) (test : ℕ → Type 0) (lit : Lit) → IsTrail s → (at : IsFalseAt s.set test lit) → level_in (entry_of s.set (variable_of lit)) ≡ Some at.entry.level
told_level s test lit trail at =
    let same : variable_of at.entry.lit ≡ variable_of lit = ap variable_of at.negates ∙ variable_of-negated lit in
    ap (λ (v : ℕ). level_in (entry_of s.set v)) (sym same) ∙ ap level_in (entry_held s at.entry trail at.within)

low_below : (s : TrailState) (low : List Lit) (level : ℕ) → IsTrail s → 0 < s.level → All (IsFalseAt s.set (λ level. level < s.level)) low → IsHighest s.set low level → level < s.level
low_below s low level trail positive lower high =
    ⊎_elim
    (λ zero_. omega arith)
    (λ some.
    let at = All-contains (IsFalseAt s.set (λ level. level < s.level)) low some.0 lower some.1 in
    let own = told_level s (λ level. level < s.level) some.0 trail at in
    let same : at.entry.level ≡ level = (let told = some.2 in cc) in
    let below = at.level in
    omega arith)
    high.reached

-- what the clause is, told by the trail
pub point_learnt : (s : TrailState) (marked : List ℕ) (low : List Lit) (at : ℕ) (hints : List ℕ) (e : Entry) (level : ℕ) → IsTrail s → IsPoint s marked low at hints e → 0 < s.level → IsHighest s.set low level
    → IsLearnt s (negated e.lit ∷ low) (negated e.lit) level
point_learnt s marked low at hints e level trail point positive high =
    let own = open_entry s.level marked e point.open_ in
    let level_is = own.level_is in
    let below = low_below s low level trail positive point.walk.lower high in
    let test : ℕ → Type 0 = λ level. level < s.level in
    let lower : (lit : Lit) → Contains low lit → IsFalseAt s.set test lit = λ lit has. All-contains (IsFalseAt s.set test) low lit point.walk.lower has in
    let bounded : (lit : Lit) → Contains low lit → IsFalseAt s.set (λ n. n ≤ level) lit = λ lit has.
    let at_lit = lower lit has in
    record {
      entry = at_lit.entry;
      within = at_lit.within;
      negates = at_lit.negates;
      level = All-contains (λ l. (own : ℕ) → level_in (entry_of s.set (variable_of l)) ≡ Some own → own ≤ level) low lit high.bound has at_lit.entry.level (told_level s test lit trail at_lit);
    } in
    record {
      below = below;
      within = head_contained (negated e.lit) low;
      highest = record { entry = e; within = in_set s marked low at hints e point; negates = sym (negated-negated e.lit); level = omega arith };
      others = All-cons (λ lit. (lit ≡ negated e.lit) ⊎ IsFalseAt s.set (λ n. n ≤ level) lit) (negated e.lit) low (inl refl) (λ k d lt. inr (bounded (get_or low k d) (Contains-get_or low k d lt)));
      reached = ⊎_elim (λ zero_. inl zero_)
          (λ some.
          let at_lit = lower some.0 some.1 in
          let same : at_lit.entry.level ≡ level = (let own = told_level s test some.0 trail at_lit in let told = some.2 in cc) in
          inr (some.0, Contains-append_right (negated e.lit ∷ []) low some.0 some.1, record { entry = at_lit.entry; within = at_lit.within; negates = at_lit.negates; level = same }))
          high.reached;
    }

take_whole : (xs : List Entry) → take (length xs) xs ≡ xs
take_whole xs = take_all (length xs) xs (omega arith)

open_from : (level : ℕ) (marked : List ℕ) (e : Entry) → e.level ≡ level → Contains marked (variable_of e.lit) → is_open level marked e ≡ true
open_from level marked e same has = and_from (eqb e.level level) (list_any (eqb (variable_of e.lit)) marked) (eq-eqb e.level level same) (marked_is marked (variable_of e.lit) has)

-- ---- the first clause reaches the present level

pub enough : (s : TrailState) (lits : List Lit) (number : ℕ) (marked : List ℕ) (low : List Lit) (pending : ℕ) (hints : List ℕ) → IsTrail s → 0 < s.level → (false_ : IsFalseNamed s number) → HoldsClause s number lits
    → IsWalk s (IsTodo s (length s.set) []) marked low (length s.set) pending hints → All (λ l. Contains marked (variable_of l)) lits → 1 ≤ pending
enough s lits number marked low pending hints trail positive false_ holds walk met =
    let found = conflict_at_level s number trail positive false_ in
    let lit = found.0 in
    let at = found.2 in
    let same : holds.0 ≡ false_.0 = same_named s.clauses number holds.0 false_.0 holds.1 false_.1 in
    let lent : Contains lits lit = All-contains (Contains lits) false_.0 lit (subst (λ (c : List Lit). All (Contains lits) c) same holds.2.right) found.1 in
    let mark = All-contains (λ l. Contains marked (variable_of l)) lits lit met lent in
    let var : variable_of at.entry.lit ≡ variable_of lit = ap variable_of at.negates ∙ variable_of-negated lit in
    let passes : is_open s.level marked at.entry ≡ true =
    open_from s.level marked at.entry at.level (subst (Contains marked) (sym var) mark) in
    let whole = take_whole s.set in
    elim (cases_eq pending 0) [
      | inl none ↦ absurd (none_counted (is_open s.level marked) (take (length s.set) s.set) at.entry (sym walk.count ∙ none) (subst (λ (xs : List Entry). Contains xs at.entry) (sym whole) at.within) passes)
      | inr some ↦ omega (arith, some)
    ]

-- ---- the greatest level

-- what is told of the level of the next literal
pub record IsOwn (set : List Entry) (lit : Lit) (own : ℕ) : Type 0 where
  pub told : (n : ℕ) → level_in (entry_of set (variable_of lit)) ≡ Some n → n ≡ own
  pub reached : (own ≡ 0) ⊎ (level_in (entry_of set (variable_of lit)) ≡ Some own)

highest_bound : (set : List Entry) (lits : List Lit) (i : ℕ) (d : Lit) (level own new : ℕ) → i < length lits → IsHighest set (take i lits) level → IsOwn set (get_or lits i d) own → level ≤ new → own ≤ new
    → All (λ l. (n : ℕ) → level_in (entry_of set (variable_of l)) ≡ Some n → n ≤ new) (take (i + 1) lits)
highest_bound set lits i d level own new lt high is a b =
    All-more (λ l. (n : ℕ) → level_in (entry_of set (variable_of l)) ≡ Some n → n ≤ new) lits i d lt
    (λ k x l n e. let c = high.bound k x l n e in omega arith)
    (λ n e. let c = is.told n e in omega arith)

pub highest_same : (set : List Entry) (lits : List Lit) (i : ℕ) (d : Lit) (level own : ℕ) → i < length lits → IsHighest set (take i lits) level → IsOwn set (get_or lits i d) own → own ≤ level → IsHighest set (take (i + 1) lits) level
highest_same set lits i d level own lt high is le = record {
  bound = highest_bound set lits i d level own level lt high is (omega arith) le;
  reached = ⊎_elim
      (λ zero_. inl zero_)
      (λ some. inr (some.0, subst (λ (xs : List Lit). Contains xs some.0) (sym (take_more lits i d lt)) (Contains-append_left (take i lits) (get_or lits i d ∷ []) some.0 some.1), some.2))
      high.reached;
}

pub highest_own : (set : List Entry) (lits : List Lit) (i : ℕ) (d : Lit) (level own : ℕ) → i < length lits → IsHighest set (take i lits) level → IsOwn set (get_or lits i d) own → level < own → IsHighest set (take (i + 1) lits) own
highest_own set lits i d level own lt high is above = record {
  bound = highest_bound set lits i d level own own lt high is (omega arith) (omega arith);
  reached = ⊎_elim
      (λ zero_. absurd (omega arith))
      (λ some. inr (get_or lits i d, subst (λ (xs : List Lit). Contains xs (get_or lits i d)) (sym (take_more lits i d lt)) (Contains-push (take i lits) (get_or lits i d)), some))
      is.reached;
}

-- ---- the answers

pub learnt_zero : (s : TrailState) (marked : List ℕ) (low clause : List Lit) (at : ℕ) (hints by_ : List ℕ) → IsTrail s → IsWalk s (IsTodo s at []) marked low at 0 hints → 0 ≡ s.level → clause ≡ [] → by_ ≡ hints
    → IsLearntFrom s clause by_ 0
learnt_zero s marked low clause at hints by_ trail walk zero_ is_empty is_hints = record {
  hints = rw (is_empty, is_hints) (zero_follows s marked low at hints trail walk (sym zero_));
  apart = λ i j d lt within. let e = ap length is_empty in absurd (omega arith);
  empty = (λ _. sym zero_, λ _. is_empty);
  new = λ positive. absurd (omega arith);
  below = λ positive. absurd (omega arith);
  open_ = λ positive. absurd (omega arith);
  unit = λ positive. absurd (omega arith);
}

pub learnt_point : (s : TrailState) (marked : List ℕ) (low clause : List Lit) (at : ℕ) (hints by_ : List ℕ) (e : Entry) (level : ℕ) → IsTrail s → IsPoint s marked low at hints e → 0 < s.level → IsHighest s.set low level
    → clause ≡ negated e.lit ∷ low → by_ ≡ hints → IsLearntFrom s clause by_ level
learnt_point s marked low clause at hints by_ e level trail point positive high is_clause is_hints =
    let own = negated e.lit ∷ low in
    let learnt = point_learnt s marked low at hints e level trail point positive high in
    record {
      hints = rw (is_clause, is_hints) (point_follows s marked low at hints e trail point);
      apart = subst IsApart (sym is_clause) (point_apart s marked low at hints e trail point);
      empty = (λ none. let l = ap length none in let m = ap length is_clause in absurd (omega arith), λ zero_. absurd (omega arith));
      new = λ _. subst (IsNewClause s.clauses) (sym is_clause) (learnt_is_new s own (negated e.lit) level trail learnt);
      below = λ _. learnt.below;
      open_ = λ _. subst (WasOpen s level) (sym is_clause) (learnt_was_open s own (negated e.lit) level trail learnt);
      unit = λ _. subst (IsUnitClause (literals (gone_back s level).set)) (sym is_clause) (learnt_is_unit s own (negated e.lit) level trail learnt);
    }

-- ---- a part of the clause at the first unique implication point

-- the point, as the code stands at it
pub point_at : (s : TrailState) (w : Walk) (d : Entry) → IsAtPoint s w → IsPoint s w.marks.keys w.low.items w.at (reverse w.hints.items) (get_or s.set (w.at - 1) d)
point_at s w d at = record {
  walk = subst (λ (n : ℕ). IsWalk s (IsTodo s w.at []) w.marks.keys w.low.items w.at n (reverse w.hints.items)) at.one at.over.walk;
  positive = at.positive;
  is = λ x. get_or_default s.set (w.at - 1) x d (let within = at.over.walk.within in let positive = at.positive in omega arith);
  open_ = at.open_ d;
}

-- the point's literal and those below the present level are false
pub point_false : (s : TrailState) (w : Walk) (d : Entry) (point : Lit) (low : List Lit) → IsAtPoint s w → point ≡ negated (get_or s.set (w.at - 1) d).lit → low ≡ w.low.items → All (IsFalseLit (literals s.set)) (point ∷ low)
point_false s w d point low at is same =
    subst (λ (p : Lit). All (IsFalseLit (literals s.set)) (p ∷ low)) (sym is)
    (subst (λ (xs : List Lit). All (IsFalseLit (literals s.set)) (negated (get_or s.set (w.at - 1) d).lit ∷ xs)) (sym same)
    (all_false s w.marks.keys w.low.items w.at (reverse w.hints.items) (get_or s.set (w.at - 1) d) (point_at s w d at)))

some_reversed : (hints : List ℕ) → 0 < length hints → 0 < length (reverse hints)
some_reversed hints some = let same = length-reverse hints in omega arith

pub whole_learnt : (s : TrailState) (w : Walk) (d : Entry) (point : Lit) (clause : List Lit) (by_ : List ℕ) (level : ℕ) → IsTrail s → IsAtPoint s w → 0 < s.level → point ≡ negated (get_or s.set (w.at - 1) d).lit
    → IsHighest s.set w.low.items level → clause ≡ point ∷ w.low.items → by_ ≡ reverse w.hints.items → IsLearntFrom s clause by_ level
whole_learnt s w d point clause by_ level trail at positive is high is_clause is_hints =
    learnt_point s w.marks.keys w.low.items clause w.at (reverse w.hints.items) by_ (get_or s.set (w.at - 1) d) level trail (point_at s w d at) positive high
    (is_clause ∙ ap (λ (p : Lit). p ∷ w.low.items) is) is_hints

-- the walk's hints lead from the point's clause
pub point_leads : (s : TrailState) (marked : List ℕ) (low : List Lit) (at : ℕ) (hints : List ℕ) (e : Entry) → IsTrail s → IsPoint s marked low at hints e
    → LeadsFrom (literals s.set) s.clauses (Contains (negated e.lit ∷ low)) hints
point_leads s marked low at hints e trail point =
    λ false_ are covers.
    let positive = point.positive in
    let same : at ≡ (at - 1) + 1 = omega arith in
    let here : get_or s.set (at - 1) e ≡ e = point.is e in
    last_open_leads s (IsTodo s at []) marked low false_ (at - 1) e hints trail (subst (λ (n : ℕ). IsWalk s (IsTodo s at []) marked low n 1 hints) same point.walk)
    (λ l todo. let g = todo.0 in omega (arith, g.1))
    (ap (is_open s.level marked) here ∙ point.open_) are
    (λ k d lt. covers (get_or low k d) (Contains-append_right (negated e.lit ∷ []) low (get_or low k d) (Contains-get_or low k d lt)))
    (subst (λ (x : Entry). Contains false_ (negated x.lit)) (sym here) (covers (negated e.lit) (head_contained (negated e.lit) low)))

kept_lower : (s : TrailState) (low kept : List Lit) → All (IsFalseAt s.set (λ level. level < s.level)) low → All (Contains low) kept → All (IsFalseAt s.set (λ level. level < s.level)) kept
kept_lower s low kept lower part k d lt = All-contains (IsFalseAt s.set (λ level. level < s.level)) low (get_or kept k d) lower (part k d lt)

-- what a part of the clause is, told by the trail
pub shorter_learnt : (s : TrailState) (marked : List ℕ) (low kept : List Lit) (at : ℕ) (hints : List ℕ) (e : Entry) (level : ℕ) → IsTrail s → IsPoint s marked low at hints e → 0 < s.level → All (Contains low) kept → IsHighest s.set kept level
    → IsLearnt s (negated e.lit ∷ kept) (negated e.lit) level
shorter_learnt s marked low kept at hints e level trail point positive part high =
    let own = open_entry s.level marked e point.open_ in
    let level_is = own.level_is in
    let all_lower = kept_lower s low kept point.walk.lower part in
    let below = low_below s kept level trail positive all_lower high in
    let test : ℕ → Type 0 = λ level. level < s.level in
    let lower : (lit : Lit) → Contains kept lit → IsFalseAt s.set test lit = λ lit has. All-contains (IsFalseAt s.set test) kept lit all_lower has in
    let bounded : (lit : Lit) → Contains kept lit → IsFalseAt s.set (λ n. n ≤ level) lit = λ lit has.
    let at_lit = lower lit has in
    record {
      entry = at_lit.entry;
      within = at_lit.within;
      negates = at_lit.negates;
      level = All-contains (λ l. (own : ℕ) → level_in (entry_of s.set (variable_of l)) ≡ Some own → own ≤ level) kept lit high.bound has at_lit.entry.level (told_level s test lit trail at_lit);
    } in
    record {
      below = below;
      within = head_contained (negated e.lit) kept;
      highest = record { entry = e; within = in_set s marked low at hints e point; negates = sym (negated-negated e.lit); level = omega arith };
      others = All-cons (λ lit. (lit ≡ negated e.lit) ⊎ IsFalseAt s.set (λ n. n ≤ level) lit) (negated e.lit) kept (inl refl) (λ k d lt. inr (bounded (get_or kept k d) (Contains-get_or kept k d lt)));
      reached = ⊎_elim (λ zero_. inl zero_)
          (λ some.
          let at_lit = lower some.0 some.1 in
          let same : at_lit.entry.level ≡ level = (let own = told_level s test some.0 trail at_lit in let told = some.2 in cc) in
          inr (some.0, Contains-append_right (negated e.lit ∷ []) kept some.0 some.1, record { entry = at_lit.entry; within = at_lit.within; negates = at_lit.negates; level = same }))
          high.reached;
    }

shorter_apart : (s : TrailState) (marked : List ℕ) (low kept : List Lit) (at : ℕ) (hints : List ℕ) (e : Entry) → IsTrail s → IsPoint s marked low at hints e → All (Contains low) kept → IsApart kept → IsApart (negated e.lit ∷ kept)
shorter_apart s marked low kept at hints e trail point part apart =
    let own = open_entry s.level marked e point.open_ in
    all_pairs_cons (negated e.lit) kept
    (λ k d lt. apart_from s e (get_or kept k d) trail (in_set s marked low at hints e point) own.level_is (kept_lower s low kept point.walk.lower part k d lt))
    apart

shorter_false : (s : TrailState) (marked : List ℕ) (low kept : List Lit) (at : ℕ) (hints : List ℕ) (e : Entry) → IsPoint s marked low at hints e → All (Contains low) kept → All (IsFalseLit (literals s.set)) (negated e.lit ∷ kept)
shorter_false s marked low kept at hints e point part =
    All-cons (IsFalseLit (literals s.set)) (negated e.lit) kept
    (subst (Contains (literals s.set)) (sym (negated-negated e.lit)) (Contains-map (λ (x : Entry). x.lit) s.set e (in_set s marked low at hints e point)))
    (λ k d lt. false_at_all s (λ level. level < s.level) (get_or kept k d) (kept_lower s low kept point.walk.lower part k d lt))

-- the clause without the literals that a chain makes false, by the chain's clauses and then the walk's
pub learnt_shorter : (s : TrailState) (marked : List ℕ) (low kept clause : List Lit) (links : List Link) (at next : ℕ) (hints by_ : List ℕ) (e : Entry) (level : ℕ) → IsTrail s → IsPoint s marked low at (next ∷ hints) e → 0 < s.level
    → All (Contains low) kept → IsApart kept → IsHighest s.set kept level
    → IsChain (literals s.set) s.clauses (Contains (negated e.lit ∷ kept)) links (Contains (negated e.lit ∷ low))
    → clause ≡ negated e.lit ∷ kept → by_ ≡ before_hints links next hints → IsLearntFrom s clause by_ level
learnt_shorter s marked low kept clause links at next hints by_ e level trail point positive part apart high chain is_clause is_hints =
    let own = negated e.lit ∷ kept in
    let learnt = shorter_learnt s marked low kept at (next ∷ hints) e level trail point positive part high in
    let all = shorter_false s marked low kept at (next ∷ hints) e point part in
    let leads = chain_leads (literals s.set) s.clauses (Contains own) (Contains (negated e.lit ∷ low)) links next hints (set_consistent s trail) chain (point_leads s marked low at (next ∷ hints) e trail point) in
    record {
      hints = rw (is_clause, is_hints) (follows s own (before_hints links next hints) trail all (leads own all (λ l h. h)));
      apart = subst IsApart (sym is_clause) (shorter_apart s marked low kept at (next ∷ hints) e trail point part apart);
      empty = (λ none. let l = ap length none in let m = ap length is_clause in absurd (omega arith), λ zero_. absurd (omega arith));
      new = λ _. subst (IsNewClause s.clauses) (sym is_clause) (learnt_is_new s own (negated e.lit) level trail learnt);
      below = λ _. learnt.below;
      open_ = λ _. subst (WasOpen s level) (sym is_clause) (learnt_was_open s own (negated e.lit) level trail learnt);
      unit = λ _. subst (IsUnitClause (literals (gone_back s level).set)) (sym is_clause) (learnt_is_unit s own (negated e.lit) level trail learnt);
    }

-- the same, with the numbers as the code keeps them
pub learnt_by_links : (s : TrailState) (marked : List ℕ) (low kept clause : List Lit) (numbers : List ℕ) (at : ℕ) (hints by_ : List ℕ) (e : Entry) (level : ℕ) → IsTrail s → IsPoint s marked low at hints e → 0 < s.level → 0 < length hints
    → IsShorter s (negated e.lit) low kept numbers → IsHighest s.set kept level → clause ≡ negated e.lit ∷ kept → by_ ≡ numbers ++ hints → IsLearntFrom s clause by_ level
learnt_by_links s marked low kept clause numbers at [] by_ e level trail point positive some shorter high is_clause is_hints = absurd (omega (arith, some))
learnt_by_links s marked low kept clause numbers at (next ∷ hints) by_ e level trail point positive some shorter high is_clause is_hints =
    learnt_shorter s marked low kept clause shorter.links at next hints by_ e level trail point positive shorter.within shorter.apart high shorter.chain is_clause
    (is_hints ∙ ap (λ (xs : List ℕ). xs ++ next ∷ hints) shorter.told)

pub short_learnt : (s : TrailState) (w : Walk) (d : Entry) (point : Lit) (kept clause : List Lit) (numbers by_ : List ℕ) (level : ℕ) → IsTrail s → IsAtPoint s w → 0 < s.level → point ≡ negated (get_or s.set (w.at - 1) d).lit
    → IsShorter s point w.low.items kept numbers → IsHighest s.set kept level → clause ≡ point ∷ kept → by_ ≡ numbers ++ reverse w.hints.items → IsLearntFrom s clause by_ level
short_learnt s w d point kept clause numbers by_ level trail at positive is shorter high is_clause is_hints =
    learnt_by_links s w.marks.keys w.low.items kept clause numbers w.at (reverse w.hints.items) by_ (get_or s.set (w.at - 1) d) level trail (point_at s w d at) positive (some_reversed w.hints.items at.over.some)
    (subst (λ (p : Lit). IsShorter s p w.low.items kept numbers) is shorter) high
    (is_clause ∙ ap (λ (p : Lit). p ∷ kept) is) is_hints

-- the literals below the present level have the trail's variables
pub low_variables : (s : TrailState) (todo : Lit → Type 0) (marked : List ℕ) (low : List Lit) (at pending : ℕ) (hints : List ℕ) → IsTrail s → IsWalk s todo marked low at pending hints → All (λ lit. variable_of lit < s.variables) low
low_variables s todo marked low at pending hints trail walk k d lt = false_variable s (get_or low k d) trail (false_at_all s (λ level. level < s.level) (get_or low k d) (walk.lower k d lt))

-- and so have those of a part of them
pub kept_variables : (s : TrailState) (todo : Lit → Type 0) (marked : List ℕ) (low kept : List Lit) (at pending : ℕ) (hints : List ℕ) → IsTrail s → IsWalk s todo marked low at pending hints → All (Contains low) kept
    → All (λ lit. variable_of lit < s.variables) kept
kept_variables s todo marked low kept at pending hints trail walk part k d lt =
    All-contains (λ lit. variable_of lit < s.variables) low (get_or kept k d) (low_variables s todo marked low at pending hints trail walk) (part k d lt)
