-- The steps of the walk, as the code takes them.
use Rattle.std.proofs.Common.{◌≡◌, ℕ, zero, suc, ◌+◌, ◌-◌, ◌<◌, ◌≤◌, ◌⊎◌, inl, inr, ⊎_elim, Bool, true, false, not, cond, eqb, ◌&&◌, List, [], ◌∷◌, ◌++◌, length, get_or, take, reverse, Option, Some, None, IsSome, IfSome, refl, sym, ◌∙◌, ap, subst, arith}
use Rattle.std.specs.List.{All, Contains, list_any, count_by}
use Rattle.std.proofs.Math.Bool.{and-false}
use Rattle.std.proofs.lemmas.Bool.{cases_lt, cases_eq, eqb-true, eq-eqb, ne_eqb, or_cases, and_parts, true≢false}
use Rattle.std.proofs.lemmas.List.{get_or-take, get_or-map, length-take-le, length-map, length-reverse, reverse-append, take_all, get_or_default}
use Rattle.std.proofs.lemmas.List.Sums.{count_by-le-length, count_by_more_no, count_by_more_yes}
use Rattle.std.proofs.lemmas.List.Elements.{All-contains, Contains-get_or}
use Rattle.lz_base.proofs.ListLemmas.{contained_cases}
use Rattle.lz_cnf.specs.declared.clause.Lit.{Lit}
use Rattle.lz_cnf.specs.Models.{variable_of, negated}
use Rattle.lz_cnf.specs.Partial.{IsFalseLit, IsNamed}
use Rattle.lz_cnf.proofs.LitLemmas.{variable_of-negated}
use Rattle.lz_log.proofs.RefutationLemmas.{named_has, same_named}
use Rattle.lz_prop.specs.Trail.{Entry, TrailState, IsTrail, RestsOn, IsFalseNamed, HoldsClause, literals, entry_of, level_in, reason_in}
use Rattle.lz_prop.proofs.LitLemmas.{Contains-from_map}
use Rattle.lz_prop.proofs.EntryLemmas.{entry_held}
use Rattle.lz_analyze.specs.Walks.{is_open, IsLeft, IsWalk}
use Rattle.lz_analyze.specs.Walking.{IsTodo, IsLeftAt}
use Rattle.lz_analyze.proofs.LevelLemmas.{decision_is_first}
use Rattle.lz_analyze.proofs.LeadsLemmas.{conflict_leads}
use Rattle.lz_analyze.proofs.WalkLemmas.{marked_is, own_mark, front_of, mark_open, mark_low, todo_less, some_counted, resolve}

-- ---- entries

-- a literal that is false by an entry before a place
pub record IsFalseBefore (s : TrailState) (at : ℕ) (lit : Lit) : Type 0 where
  pub entry : Entry
  pub within : Contains (take at s.set) entry
  pub whole : Contains s.set entry
  pub negates : entry.lit ≡ negated lit
  pub level : level_in (entry_of s.set (variable_of lit)) ≡ Some entry.level
  pub bounded : entry.level ≤ s.level

pub false_before : (s : TrailState) (at : ℕ) (lit : Lit) → IsTrail s → at ≤ length s.set → IsFalseLit (literals (take at s.set)) lit → IsFalseBefore s at lit
false_before s at lit trail le h =
    let source = Contains-from_map (λ (e : Entry). e.lit) (take at s.set) (negated lit) h in
    let e = source.0 in
    let whole = front_of at s.set e le source.1 in
    let same : variable_of e.lit ≡ variable_of lit = ap variable_of source.2 ∙ variable_of-negated lit in
    record {
      entry = e;
      within = source.1;
      whole = whole;
      negates = source.2;
      level = ap (λ (v : ℕ). level_in (entry_of s.set v)) (sym same) ∙ ap level_in (entry_held s e trail whole);
      bounded = All-contains (λ (x : Entry). x.level ≤ s.level) s.set e trail.bounded whole;
    }

pub any_contains : (marked : List ℕ) (v : ℕ) → list_any (eqb v) marked ≡ true → Contains marked v
any_contains [] v h = absurd cc
any_contains (w ∷ ws) v h =
    ⊎_elim
    (λ here. (0, omega arith, sym (eqb-true v w here)))
    (λ rest. let found = any_contains ws v rest in (suc found.0, omega (arith, found.1), found.2))
    (or_cases (eqb v w) (list_any (eqb v) ws) h)

-- a false literal before the place whose variable was met is open or low
met_left : (s : TrailState) (todo : Lit → Type 0) (marked : List ℕ) (low : List Lit) (i pending : ℕ) (hints : List ℕ) (lit : Lit) → IsWalk s todo marked low i pending hints → IsFalseBefore s i lit
    → list_any (eqb (variable_of lit)) marked ≡ true → IsLeft s marked low i lit
met_left s todo marked low i pending hints lit walk is any =
    let e = is.entry in
    let bounded = is.bounded in
    let same : variable_of e.lit ≡ variable_of lit = ap variable_of is.negates ∙ variable_of-negated lit in
    elim (cases_lt e.level s.level) [
      | inl below ↦ inl (walk.told lit (record { entry = e; within = is.whole; negates = is.negates; level = below }) (any_contains marked (variable_of lit) any))
      | inr above ↦
          (let level : e.level ≡ s.level = omega arith in
          inr (record {
            entry = e;
            within = is.within;
            negates = is.negates;
            open_ = ap (λ (b : Bool). b && list_any (eqb (variable_of e.lit)) marked) (eq-eqb e.level s.level level) ∙ ap (λ (v : ℕ). list_any (eqb v) marked) same ∙ any;
          }))
    ]

-- the first literal of what is left was met
pub met_first : (s : TrailState) (rest : List Lit) (marked : List ℕ) (low : List Lit) (i pending : ℕ) (hints : List ℕ) (lit : Lit) → IsTrail s → IsWalk s (IsTodo s i (lit ∷ rest)) marked low i pending hints
    → list_any (eqb (variable_of lit)) marked ≡ true → IsWalk s (IsTodo s i rest) marked low i pending hints
met_first s rest marked low i pending hints lit trail walk any =
    todo_less s (IsTodo s i (lit ∷ rest)) (IsTodo s i rest) marked low i pending hints walk
    (λ l h. ⊎_elim
    (λ same. inl (met_left s (IsTodo s i (lit ∷ rest)) marked low i pending hints l walk (false_before s i l trail walk.within h.1)
    (ap (λ (x : Lit). list_any (eqb (variable_of x)) marked) same ∙ any)))
    (λ later. inr (later, h.1))
    (contained_cases lit l rest h.0))

-- what is known of a literal that is met
abbrev IsKnown : TrailState → ℕ → List ℕ → Lit → Type 0
IsKnown s i marked lit = Contains marked (variable_of lit) ⊎ IsFalseLit (literals (take i s.set)) lit

new_is_false : (s : TrailState) (i : ℕ) (marked : List ℕ) (lit : Lit) → IsKnown s i marked lit → list_any (eqb (variable_of lit)) marked ≡ false → IsFalseLit (literals (take i s.set)) lit
new_is_false s i marked lit (inl has) none = absurd (true≢false (sym (marked_is marked (variable_of lit) has) ∙ none))
new_is_false s i marked lit (inr h) none = h

pub met_open : (s : TrailState) (rest : List Lit) (marked : List ℕ) (low : List Lit) (i pending : ℕ) (hints : List ℕ) (lit : Lit) → IsTrail s → IsKnown s i marked lit
    → list_any (eqb (variable_of lit)) marked ≡ false → level_in (entry_of s.set (variable_of lit)) ≡ Some s.level → IsWalk s (IsTodo s i (lit ∷ rest)) marked low i pending hints
    → IsWalk s (IsTodo s i rest) (marked ++ variable_of lit ∷ []) low i (pending + 1) hints
met_open s rest marked low i pending hints lit trail known none level walk =
    let is = false_before s i lit trail walk.within (new_is_false s i marked lit known none) in
    let at : is.entry.level ≡ s.level = (let own = is.level in cc) in
    met_first s rest (marked ++ variable_of lit ∷ []) low i (pending + 1) hints lit trail
    (mark_open s (IsTodo s i (lit ∷ rest)) marked low i pending hints lit is.entry trail walk is.within is.negates at none)
    (own_mark (variable_of lit) (variable_of lit) marked refl)

pub met_low : (s : TrailState) (rest : List Lit) (marked : List ℕ) (low : List Lit) (i pending : ℕ) (hints : List ℕ) (lit : Lit) → IsTrail s → IsKnown s i marked lit
    → list_any (eqb (variable_of lit)) marked ≡ false → (level_in (entry_of s.set (variable_of lit)) ≡ Some s.level → ⊥) → IsWalk s (IsTodo s i (lit ∷ rest)) marked low i pending hints
    → IsWalk s (IsTodo s i rest) (marked ++ variable_of lit ∷ []) (low ++ lit ∷ []) i pending hints
met_low s rest marked low i pending hints lit trail known none differs walk =
    let is = false_before s i lit trail walk.within (new_is_false s i marked lit known none) in
    let bounded = is.bounded in
    let ne : is.entry.level ≡ s.level → ⊥ = λ same. differs (is.level ∙ ap (λ (n : ℕ). Some n) same) in
    met_first s rest (marked ++ variable_of lit ∷ []) (low ++ lit ∷ []) i pending hints lit trail
    (mark_low s (IsTodo s i (lit ∷ rest)) marked low i pending hints lit trail walk (record { entry = is.entry; within = is.whole; negates = is.negates; level = omega (arith, ne) }) none)
    (own_mark (variable_of lit) (variable_of lit) marked refl)

-- entries that are left are no more than the places
pub pending_within : (s : TrailState) (todo : Lit → Type 0) (marked : List ℕ) (low : List Lit) (i pending : ℕ) (hints : List ℕ) → IsWalk s todo marked low i pending hints → pending ≤ i
pending_within s todo marked low i pending hints walk =
    let count = walk.count in
    let le = count_by-le-length (is_open s.level marked) (take i s.set) in
    let short = length-take-le i s.set walk.within in
    omega arith

-- ---- the place

pub literal_at : (s : TrailState) (k : ℕ) (d : Entry) (x : Lit) → k < length s.set → get_or (literals s.set) k x ≡ (get_or s.set k d).lit
literal_at s k d x lt =
    let long = length-map s.set (λ (e : Entry). e.lit) in
    get_or-map (λ (e : Entry). e.lit) s.set k d x lt

pub entry_told : (s : TrailState) (k : ℕ) (d : Entry) → IsTrail s → k < length s.set → entry_of s.set (variable_of (get_or s.set k d).lit) ≡ Some (get_or s.set k d)
entry_told s k d trail lt = entry_held s (get_or s.set k d) trail (Contains-get_or s.set k d lt)

-- an entry that is not open is passed
pub passed : (s : TrailState) (marked : List ℕ) (low : List Lit) (i pending : ℕ) (hints : List ℕ) (d : Entry) → IsWalk s (IsTodo s (i + 1) []) marked low (i + 1) pending hints
    → is_open s.level marked (get_or s.set i d) ≡ false → IsWalk s (IsTodo s i []) marked low i pending hints
passed s marked low i pending hints d walk off =
    let within : i < length s.set = (let w = walk.within in omega arith) in
    let step = count_by_more_no (is_open s.level marked) s.set i d within off in
    record {
      within = omega arith;
      lower = walk.lower;
      low_marked = walk.low_marked;
      apart = walk.apart;
      told = walk.told;
      count = walk.count ∙ step;
      leads = λ false_ are covers. walk.leads false_ are (λ l h. covers l (⊎_elim
          (λ left. ⊎_elim
          (λ in_low. inl (inl in_low))
          (λ open_.
          let k = open_.within.0 in
          let short = length-take-le (i + 1) s.set walk.within in
          let at_k : get_or s.set k open_.entry ≡ open_.entry = sym (get_or-take (i + 1) s.set k open_.entry (omega (arith, open_.within.1))) ∙ open_.within.2 in
          elim (cases_lt k i) [
            | inl below ↦ (let short2 = length-take-le i s.set (omega arith) in
                inl (inr (record { entry = open_.entry; within = (k, omega arith, get_or-take i s.set k open_.entry below ∙ at_k); negates = open_.negates; open_ = open_.open_ })))
            | inr above ↦ (let at : k ≡ i = omega (arith, open_.within.1) in
                let same : get_or s.set i d ≡ open_.entry = get_or_default s.set i d open_.entry within ∙ ap (λ (n : ℕ). get_or s.set n open_.entry) (sym at) ∙ at_k in
                absurd (true≢false (sym open_.open_ ∙ ap (is_open s.level marked) (sym same) ∙ off)))
          ])
          left)
          (λ g. absurd (let h = g.0 in omega (arith, h.1))) h));
    }

-- where entries are left there is a place below
pub at_positive : (s : TrailState) (todo : Lit → Type 0) (marked : List ℕ) (low : List Lit) (i pending : ℕ) (hints : List ℕ) → IsWalk s todo marked low i pending hints → 0 < pending → 0 < i
at_positive s todo marked low i pending hints walk positive = let within = pending_within s todo marked low i pending hints walk in omega arith

-- ---- the reason

rests_on : (clauses : List (List Lit)) (before : List Entry) (lit : Lit) (reason : Option ℕ) (number : ℕ) → IfSome reason (RestsOn clauses before lit) → reason ≡ Some number → RestsOn clauses before lit number
rests_on clauses before lit None number h is = absurd cc
rests_on clauses before lit (Some n) number h is = let same : n ≡ number = cc in subst (RestsOn clauses before lit) same h

-- the reason of the entry at a place
pub reason_at : (s : TrailState) (i : ℕ) (d : Entry) (number : ℕ) → IsTrail s → i < length s.set → (get_or s.set i d).reason ≡ Some number → RestsOn s.clauses (take i s.set) (get_or s.set i d).lit number
reason_at s i d number trail lt is = rests_on s.clauses (take i s.set) (get_or s.set i d).lit (get_or s.set i d).reason number (trail.reasons i d lt) is

-- a clause that rests, as it was lent
pub record IsLent (s : TrailState) (i : ℕ) (lit : Lit) (number : ℕ) (lits : List Lit) : Type 0 where
  pub named : IsNamed s.clauses number lits
  pub has : Contains lits lit
  pub others : All (λ l. (l ≡ lit) ⊎ IsFalseLit (literals (take i s.set)) l) lits

-- the walk goes on with the literals of the reason
resolved : (s : TrailState) (lits : List Lit) (marked : List ℕ) (low : List Lit) (i pending next : ℕ) (hints : List ℕ) (d : Entry) (number : ℕ) → IsTrail s
    → IsWalk s (IsTodo s (i + 1) []) marked low (i + 1) (pending + 1) (next ∷ hints) → is_open s.level marked (get_or s.set i d) ≡ true
    → RestsOn s.clauses (take i s.set) (get_or s.set i d).lit number → HoldsClause s number lits
    → IsWalk s (IsTodo s i lits) marked low i pending (number ∷ next ∷ hints)
resolved s lits marked low i pending next hints d number trail walk passes rests holds =
    let e = get_or s.set i d in
    let clause = rests.clause in
    let same : holds.0 ≡ clause = same_named s.clauses number holds.0 clause holds.1 rests.named in
    let lent : All (Contains lits) clause = subst (λ (c : List Lit). All (Contains lits) c) same holds.2.right in
    let walk2 = resolve s (IsTodo s (i + 1) []) marked low i pending next hints d number clause trail walk (λ l g. let h = g.0 in omega (arith, h.1)) passes rests.named rests.within in
    todo_less s (λ l. Contains clause l × (l ≡ e.lit → ⊥)) (IsTodo s i lits) marked low i pending (number ∷ next ∷ hints) walk2
    (λ l h. ⊎_elim
    (λ is. absurd (h.1 is))
    (λ is_false. inr (All-contains (Contains lits) clause l lent h.0, is_false))
    (All-contains (λ l. (l ≡ e.lit) ⊎ IsFalseLit (literals (take i s.set)) l) clause l rests.others h.0))

pub resolved_list : (s : TrailState) (lits : List Lit) (marked : List ℕ) (low : List Lit) (i pending : ℕ) (hints : List ℕ) (d : Entry) (number : ℕ) → IsTrail s
    → IsWalk s (IsTodo s (i + 1) []) marked low (i + 1) (pending + 1) hints → 0 < length hints → is_open s.level marked (get_or s.set i d) ≡ true
    → RestsOn s.clauses (take i s.set) (get_or s.set i d).lit number → HoldsClause s number lits
    → IsWalk s (IsTodo s i lits) marked low i pending (number ∷ hints)
resolved_list s lits marked low i pending [] d number trail walk some passes rests holds = absurd (omega (arith, some))
resolved_list s lits marked low i pending (next ∷ hints) d number trail walk some passes rests holds = resolved s lits marked low i pending next hints d number trail walk passes rests holds

-- each literal of the reason, as it was lent, was met or is false before the place
pub reason_met : (s : TrailState) (lits : List Lit) (marked : List ℕ) (i : ℕ) (lit : Lit) (number : ℕ) → RestsOn s.clauses (take i s.set) lit number → HoldsClause s number lits → Contains marked (variable_of lit)
    → All (λ l. Contains marked (variable_of l) ⊎ IsFalseLit (literals (take i s.set)) l) lits
reason_met s lits marked i lit number rests holds has k d lt =
    let same : holds.0 ≡ rests.clause = same_named s.clauses number holds.0 rests.clause holds.1 rests.named in
    let l = get_or lits k d in
    let in_clause : Contains rests.clause l = subst (λ (c : List Lit). Contains c l) same (All-contains (Contains holds.0) lits l holds.2.left (Contains-get_or lits k d lt)) in
    ⊎_elim
    (λ is. inl (subst (λ (x : Lit). Contains marked (variable_of x)) (sym is) has))
    (λ is_false. inr is_false)
    (All-contains (λ l. (l ≡ lit) ⊎ IsFalseLit (literals (take i s.set)) l) rests.clause l rests.others in_clause)

-- the variables of a clause as it was lent
pub lent_variables : (s : TrailState) (lits : List Lit) (number : ℕ) → IsTrail s → HoldsClause s number lits → All (λ l. variable_of l < s.variables) lits
lent_variables s lits number trail holds k d lt =
    let l = get_or lits k d in
    let has : Contains holds.0 l = All-contains (Contains holds.0) lits l holds.2.left (Contains-get_or lits k d lt) in
    All-contains (λ x. variable_of x < s.variables) holds.0 l (named_has (λ c. All (λ x. variable_of x < s.variables) c) s.clauses number holds.0 trail.formula holds.1) has

-- ---- the start

none_open : (level : ℕ) (set : List Entry) → count_by (is_open level []) set ≡ 0
none_open level set =
    elim (cases_eq (count_by (is_open level []) set) 0) [
      | inl e ↦ e
      | inr ne ↦
          (let found = some_counted (is_open level []) set (omega (arith, ne)) in
          let parts = and_parts (eqb found.0.level level) false found.2 in
          absurd (true≢false (sym parts.1)))
    ]

pub starts : (s : TrailState) (lits : List Lit) (number : ℕ) → IsTrail s → IsFalseNamed s number → HoldsClause s number lits → IsWalk s (IsTodo s (length s.set) lits) [] [] (length s.set) 0 (number ∷ [])
starts s lits number trail false_ holds =
    let same : holds.0 ≡ false_.0 = same_named s.clauses number holds.0 false_.0 holds.1 false_.1 in
    let lent : All (Contains lits) false_.0 = subst (λ (c : List Lit). All (Contains lits) c) same holds.2.right in
    let all = take_all (length s.set) s.set (omega arith) in
    record {
      within = omega arith;
      lower = λ k d lt. absurd (omega arith);
      low_marked = λ k d lt. absurd (omega arith);
      apart = λ i j d lt within. absurd (omega arith);
      told = λ l at h. absurd (omega (arith, h.1));
      count = sym (none_open s.level (take (length s.set) s.set));
      leads = λ f are covers. conflict_leads (literals s.set) s.clauses number false_.0 false_.1 f are
          (λ l h. covers l (inr (
            All-contains (Contains lits) false_.0 l lent h,
            subst (λ (xs : List Entry). IsFalseLit (literals xs) l) (sym all) (All-contains (IsFalseLit (literals s.set)) false_.0 l false_.2 h),
          )));
    }

-- each literal of the false clause, as it was lent, is false
pub conflict_met : (s : TrailState) (lits : List Lit) (marked : List ℕ) (number : ℕ) → IsFalseNamed s number → HoldsClause s number lits
    → All (λ l. Contains marked (variable_of l) ⊎ IsFalseLit (literals (take (length s.set) s.set)) l) lits
conflict_met s lits marked number false_ holds k d lt =
    let same : holds.0 ≡ false_.0 = same_named s.clauses number holds.0 false_.0 holds.1 false_.1 in
    let all = take_all (length s.set) s.set (omega arith) in
    let l = get_or lits k d in
    let has : Contains false_.0 l = subst (λ (c : List Lit). Contains c l) same (All-contains (Contains holds.0) lits l holds.2.left (Contains-get_or lits k d lt)) in
    inr (subst (λ (xs : List Entry). IsFalseLit (literals xs) l) (sym all) (All-contains (IsFalseLit (literals s.set)) false_.0 l false_.2 has))

-- ---- marks

-- what an insertion leaves
pub record IsInserted (old new : List ℕ) (v : ℕ) (added : Bool) : Type 0 where
  pub keys : new ≡ cond (list_any (eqb v) old) old (old ++ v ∷ [])
  pub told : added ≡ not (list_any (eqb v) old)

not_back : (b : Bool) (c : Bool) → c ≡ not b → c ≡ true → b ≡ false
not_back true c is h = cc
not_back false c is h = refl

not_back_false : (b : Bool) (c : Bool) → c ≡ not b → c ≡ false → b ≡ true
not_back_false true c is h = refl
not_back_false false c is h = cc

pub was_none : (old new : List ℕ) (v : ℕ) (added : Bool) → IsInserted old new v added → added ≡ true → list_any (eqb v) old ≡ false
was_none old new v added is yes_ = not_back (list_any (eqb v) old) added is.told yes_

pub was_any : (old new : List ℕ) (v : ℕ) (added : Bool) → IsInserted old new v added → added ≡ false → list_any (eqb v) old ≡ true
was_any old new v added is no_ = not_back_false (list_any (eqb v) old) added is.told no_

pub keys_more : (old new : List ℕ) (v : ℕ) (added : Bool) → IsInserted old new v added → added ≡ true → new ≡ old ++ v ∷ []
keys_more old new v added is yes_ = is.keys ∙ ap (λ (b : Bool). cond b old (old ++ v ∷ [])) (was_none old new v added is yes_)

pub keys_same : (old new : List ℕ) (v : ℕ) (added : Bool) → IsInserted old new v added → added ≡ false → new ≡ old
keys_same old new v added is no_ = is.keys ∙ ap (λ (b : Bool). cond b old (old ++ v ∷ [])) (was_any old new v added is no_)

-- ---- what a step of the code needs

-- the entry below the place, as the order tells it
pub variable_at : (s : TrailState) (order : List Lit) (k : ℕ) (d : Entry) (x : Lit) → order ≡ literals s.set → k < length s.set → get_or order k x ≡ (get_or s.set k d).lit
variable_at s order k d x is lt = ap (λ (xs : List Lit). get_or xs k x) is ∙ literal_at s k d x lt

pub known_at : (s : TrailState) (k : ℕ) (d : Entry) (lit : Lit) → IsTrail s → k < length s.set → lit ≡ (get_or s.set k d).lit → variable_of lit < s.variables
known_at s k d lit trail lt is = subst (λ (l : Lit). variable_of l < s.variables) (sym is) (trail.known k d lt)

pub level_at : (s : TrailState) (k : ℕ) (d : Entry) (lit : Lit) → IsTrail s → k < length s.set → lit ≡ (get_or s.set k d).lit → level_in (entry_of s.set (variable_of lit)) ≡ Some (get_or s.set k d).level
level_at s k d lit trail lt is = ap (λ (l : Lit). level_in (entry_of s.set (variable_of l))) is ∙ ap level_in (entry_told s k d trail lt)

pub reason_told : (s : TrailState) (k : ℕ) (d : Entry) (lit : Lit) → IsTrail s → k < length s.set → lit ≡ (get_or s.set k d).lit → reason_in (entry_of s.set (variable_of lit)) ≡ (get_or s.set k d).reason
reason_told s k d lit trail lt is = ap (λ (l : Lit). reason_in (entry_of s.set (variable_of l))) is ∙ ap reason_in (entry_told s k d trail lt)

-- the entry of a marked variable is open where it has the level
pub open_marked : (level : ℕ) (marked : List ℕ) (e : Entry) (lit : Lit) (b : Bool) → lit ≡ e.lit → list_any (eqb (variable_of lit)) marked ≡ true → (b ≡ true → e.level ≡ level) → (e.level ≡ level → b ≡ true)
    → b ≡ is_open level marked e
open_marked level marked e lit true is any low high =
    sym (ap (λ (x : Bool). x && list_any (eqb (variable_of e.lit)) marked) (eq-eqb e.level level (low refl)) ∙ ap (λ (l : Lit). list_any (eqb (variable_of l)) marked) (sym is) ∙ any)
open_marked level marked e lit false is any low high =
    sym (ap (λ (x : Bool). x && list_any (eqb (variable_of e.lit)) marked) (ne_eqb e.level level (λ same. true≢false (sym (high same)))))

pub not_marked : (level : ℕ) (marked : List ℕ) (e : Entry) (lit : Lit) (b : Bool) → lit ≡ e.lit → b ≡ false → b ≡ list_any (eqb (variable_of lit)) marked → b ≡ is_open level marked e
not_marked level marked e lit b is off any =
    off ∙ sym (ap (λ (x : Bool). eqb e.level level && x) (ap (λ (l : Lit). list_any (eqb (variable_of l)) marked) (sym is) ∙ sym any ∙ off) ∙ and-false (eqb e.level level))

-- an open entry has the level, and its variable was met
pub record IsOpenEntry (level : ℕ) (marked : List ℕ) (e : Entry) : Type 0 where
  pub level_is : e.level ≡ level
  pub met : Contains marked (variable_of e.lit)

pub open_entry : (level : ℕ) (marked : List ℕ) (e : Entry) → is_open level marked e ≡ true → IsOpenEntry level marked e
open_entry level marked e passes =
    let parts = and_parts (eqb e.level level) (list_any (eqb (variable_of e.lit)) marked) passes in
    record { level_is = eqb-true e.level level parts.0; met = any_contains marked (variable_of e.lit) parts.1 }

pub named_within : (known : List (List Lit)) (number : ℕ) (clause : List Lit) → IsNamed known number clause → (0 < number) × (number ≤ length known)
named_within known zero clause named = absurd named
named_within [] (suc n) clause named = absurd cc
named_within (first ∷ known) (suc zero) clause named = (omega arith, omega arith)
named_within (first ∷ known) (suc (suc n)) clause named = let rest = named_within known (suc n) clause named in (omega arith, omega (arith, rest.1))

none_not : IsSome {T = ℕ} None → ⊥
none_not h = cc

some_or : (o : Option ℕ) → (o ≡ None → ⊥) → IsSome o
some_or None h = absurd (h refl)
some_or (Some n) h = refl

pub some_number : (o : Option ℕ) → o ≡ None → IsSome o → ⊥
some_number o none some = none_not (subst (λ (x : Option ℕ). IsSome x) none some)

-- the reason of an open entry, where another open one stands before it or the level is 0
pub given_before : (s : TrailState) (todo : Lit → Type 0) (marked : List ℕ) (low : List Lit) (i pending : ℕ) (hints : List ℕ) (d : Entry) → IsTrail s → IsWalk s todo marked low (i + 1) pending hints → 1 < pending
    → is_open s.level marked (get_or s.set i d) ≡ true → IsSome (get_or s.set i d).reason
given_before s todo marked low i pending hints d trail walk more passes =
    let within : i < length s.set = (let w = walk.within in omega arith) in
    let step = count_by_more_yes (is_open s.level marked) s.set i d within passes in
    let count = walk.count in
    let other = some_counted (is_open s.level marked) (take i s.set) (omega arith) in
    let here = open_entry s.level marked (get_or s.set i d) passes in
    let there = open_entry s.level marked other.0 other.2 in
    let short = length-take-le i s.set (omega arith) in
    let j = other.1.0 in
    let lt_j : j < i = (let h = other.1.1 in omega arith) in
    let at_j : get_or s.set j d ≡ other.0 = get_or_default s.set j d other.0 (omega arith) ∙ sym (get_or-take i s.set j other.0 lt_j) ∙ other.1.2 in
    some_or (get_or s.set i d).reason (λ none. decision_is_first s j i d trail lt_j within (ap (λ (e : Entry). e.level) at_j ∙ there.level_is ∙ sym here.level_is) none)

pub given_zero : (s : TrailState) (marked : List ℕ) (i : ℕ) (d : Entry) → IsTrail s → i < length s.set → s.level ≡ 0 → is_open s.level marked (get_or s.set i d) ≡ true → IsSome (get_or s.set i d).reason
given_zero s marked i d trail lt zero_ passes = let here = open_entry s.level marked (get_or s.set i d) passes in trail.at_zero i d lt (here.level_is ∙ zero_)

-- ---- the steps at a place that is counted from 1

pub passed_down : (s : TrailState) (marked : List ℕ) (low : List Lit) (at pending : ℕ) (hints : List ℕ) (d : Entry) → IsWalk s (IsTodo s at []) marked low at pending hints → 0 < at
    → is_open s.level marked (get_or s.set (at - 1) d) ≡ false → IsWalk s (IsTodo s (at - 1) []) marked low (at - 1) pending hints
passed_down s marked low at pending hints d walk positive off =
    let same : at ≡ (at - 1) + 1 = omega arith in
    passed s marked low (at - 1) pending hints d (subst (λ (n : ℕ). IsWalk s (IsTodo s n []) marked low n pending hints) same walk) off

reverse_push : (hints : List ℕ) (number : ℕ) → reverse (hints ++ number ∷ []) ≡ number ∷ reverse hints
reverse_push hints number = reverse-append hints (number ∷ [])

length_reverse_some : (hints : List ℕ) → 0 < length hints → 0 < length (reverse hints)
length_reverse_some hints some = let same = length-reverse hints in omega arith

pub resolved_down : (s : TrailState) (lits : List Lit) (marked : List ℕ) (low : List Lit) (at pending : ℕ) (hints : List ℕ) (d : Entry) (number : ℕ) → IsTrail s
    → IsWalk s (IsTodo s at []) marked low at pending (reverse hints) → 0 < length hints → 0 < at → 0 < pending → is_open s.level marked (get_or s.set (at - 1) d) ≡ true
    → RestsOn s.clauses (take (at - 1) s.set) (get_or s.set (at - 1) d).lit number → HoldsClause s number lits
    → IsWalk s (IsTodo s (at - 1) lits) marked low (at - 1) (pending - 1) (reverse (hints ++ number ∷ []))
resolved_down s lits marked low at pending hints d number trail walk some positive left passes rests holds =
    let same : at ≡ (at - 1) + 1 = omega arith in
    let one : pending ≡ (pending - 1) + 1 = omega arith in
    subst (IsWalk s (IsTodo s (at - 1) lits) marked low (at - 1) (pending - 1)) (sym (reverse_push hints number))
    (resolved_list s lits marked low (at - 1) (pending - 1) (reverse hints) d number trail
    (subst (λ (n : ℕ). IsWalk s (IsTodo s n []) marked low n ((pending - 1) + 1) (reverse hints)) same (subst (λ (n : ℕ). IsWalk s (IsTodo s at []) marked low at n (reverse hints)) one walk))
    (length_reverse_some hints some) passes rests holds)

-- the reason of the entry at a place, as it was told
pub rests_at : (s : TrailState) (order : List Lit) (k number : ℕ) (d : Entry) (x : Lit) → IsTrail s → k < length s.set → order ≡ literals s.set
    → Some number ≡ reason_in (entry_of s.set (variable_of (get_or order k x))) → RestsOn s.clauses (take k s.set) (get_or s.set k d).lit number
rests_at s order k number d x trail lt is told =
    reason_at s k d number trail lt (sym (reason_told s k d (get_or order k x) trail lt (variable_at s order k d x is lt)) ∙ sym told)

pub given_down : (s : TrailState) (todo : Lit → Type 0) (marked : List ℕ) (low : List Lit) (at pending left : ℕ) (hints : List ℕ) (d : Entry) → IsTrail s → IsWalk s todo marked low at pending hints → 0 < at → left < pending
    → IsLeftAt s.level left → is_open s.level marked (get_or s.set (at - 1) d) ≡ true → IsSome (get_or s.set (at - 1) d).reason
given_down s todo marked low at pending left hints d trail walk positive more (inl zero_) passes =
    let within = walk.within in given_zero s marked (at - 1) d trail (omega arith) zero_.0 passes
given_down s todo marked low at pending left hints d trail walk positive more (inr one) passes =
    let same : at ≡ (at - 1) + 1 = omega arith in
    given_before s todo marked low (at - 1) pending hints d trail (subst (λ (n : ℕ). IsWalk s todo marked low n pending hints) same walk) (omega arith) passes

pub met_at : (s : TrailState) (lits : List Lit) (marked : List ℕ) (at number : ℕ) → IsFalseNamed s number → HoldsClause s number lits → at ≡ length s.set
    → All (λ l. Contains marked (variable_of l) ⊎ IsFalseLit (literals (take at s.set)) l) lits
met_at s lits marked at number false_ holds is =
    subst (λ (n : ℕ). All (λ l. Contains marked (variable_of l) ⊎ IsFalseLit (literals (take n s.set)) l) lits) (sym is) (conflict_met s lits marked number false_ holds)
