-- Lists of watchers: walks along them, and moves from one to another.
use Rattle.std.proofs.Common.{◌≡◌, ℕ, zero, suc, ◌-◌, ◌<◌, ◌≤◌, ◌⊎◌, inl, inr, ⊎_elim, true, false, eqb, List, [], ◌∷◌, ◌++◌, length, get_or, set, refl, sym, ◌∙◌, ap, subst, arith}
use Rattle.std.specs.List.{Contains, IsDistinct, list_any}
use Rattle.std.proofs.lemmas.Bool.{cases_eq, cases_lt, ne_eqb, eqb-true, or_cases}
use Rattle.std.proofs.lemmas.List.{length-append, length-set, get_or_append_left, get_or_push, get_or-set_same, get_or-set_other, get_or_default}
use Rattle.std.proofs.lemmas.List.Elements.{recursion_from_All}
use Rattle.std.proofs.lemmas.Map.Steps.{length-le_from_distinct_below}
use Rattle.lz_base.proofs.ListLemmas.{head_contained, rest_contained, contained_cases, none_contained}
use Rattle.lz_cnf.specs.declared.clause.Lit.{Lit}
use Rattle.lz_cnf.proofs.LitLemmas.{same_lit}
use Rattle.lz_prop.specs.Watch.{IsChain, IsListed, AreListed, IsRun, last_of, AreApart, IsAlong, next_without, firsts_without, IsShifted}

-- ---- chains

chain_same : (next next2 : List ℕ) (start : ℕ) (ws : List ℕ) → length next ≤ length next2 → ((v : ℕ) → Contains ws v → get_or next2 v 0 ≡ get_or next v 0) → IsChain next start ws → IsChain next2 start ws
chain_same next next2 start [] le same h = h
chain_same next next2 start (w ∷ ws) le same h = (
  h.0,
  (let lt = h.1 in omega arith),
  subst (λ (n : ℕ). IsChain next2 n ws) (sym (same w (head_contained w ws))) (chain_same next next2 (get_or next w 0) ws le (λ v has. same v (rest_contained w v ws has)) h.2),
)

run_same : (next next2 : List ℕ) (start : ℕ) (ps : List ℕ) (end : ℕ) → length next ≤ length next2 → ((v : ℕ) → Contains ps v → get_or next2 v 0 ≡ get_or next v 0) → IsRun next start ps end → IsRun next2 start ps end
run_same next next2 start [] end le same h = h
run_same next next2 start (p ∷ ps) end le same h =
    (same p (head_contained p ps) ∙ h.0, (let lt = h.1 in omega arith), run_same next next2 start ps (suc p) le (λ v has. same v (rest_contained p v ps has)) h.2)

-- a list is determined by its start
pub chain_unique : (next : List ℕ) (start : ℕ) (a b : List ℕ) → IsChain next start a → IsChain next start b → a ≡ b
chain_unique next start [] [] p q = refl
chain_unique next start [] (v ∷ vs) p q = absurd (let f = q.0 in omega (arith, p, f))
chain_unique next start (w ∷ ws) [] p q = absurd (let e = p.0 in omega (arith, e, q))
chain_unique next start (w ∷ ws) (v ∷ vs) p q =
    let e = p.0 in let f = q.0 in
    let same : w ≡ v = omega arith in
    ap (λ (l : List ℕ). w ∷ l) (chain_unique next (get_or next w 0) ws vs p.2 (subst (λ (n : ℕ). IsChain next (get_or next n 0) vs) (sym same) q.2)) ∙ ap (λ (n : ℕ). n ∷ vs) same

chain_from : (next : List ℕ) (start v : ℕ) (ws : List ℕ) → IsChain next start ws → Contains ws v → (vs : List ℕ) × IsChain next (suc v) (v ∷ vs) × (length vs < length ws)
chain_from next start v [] h has = absurd (none_contained v has)
chain_from next start v (w ∷ ws) h has = elim (contained_cases w v ws has) [
  | inl same ↦ (ws, subst (λ (n : ℕ). IsChain next (suc n) (n ∷ ws)) (sym same) (refl, h.1, h.2), omega arith)
  | inr rest ↦ (let r = chain_from next (get_or next w 0) v ws h.2 rest in (r.0, r.1, (let lt = r.2 in omega arith)))
]

-- a list that ends has no watcher twice
pub chain_apart : (next : List ℕ) (start : ℕ) (ws : List ℕ) → IsChain next start ws → AreApart ws
chain_apart next start [] h = tt
chain_apart next start (w ∷ ws) h = (
  (λ has.
      let r = chain_from next (get_or next w 0) w ws h.2 has in
      let same : w ∷ ws ≡ w ∷ r.0 = chain_unique next (suc w) (w ∷ ws) (w ∷ r.0) (refl, h.1, h.2) r.1 in
      let long = ap length same in let short = r.2 in omega arith),
  chain_apart next (get_or next w 0) ws h.2,
)

-- where a list begins at a watcher, that one is its first
pub chain_some : (next : List ℕ) (at : ℕ) (rest : List ℕ) → IsChain next at rest → 0 < at → (ws : List ℕ) × (rest ≡ (at - 1) ∷ ws)
chain_some next at [] h some = absurd (omega (arith, h, some))
chain_some next at (w ∷ ws) h some = (ws, ap (λ (n : ℕ). n ∷ ws) (let e = h.0 in omega arith))

pub chain_none : (next : List ℕ) (at : ℕ) (rest : List ℕ) → IsChain next at rest → at ≡ 0 → rest ≡ []
chain_none next at [] h none = refl
chain_none next at (w ∷ ws) h none = absurd (let e = h.0 in omega (arith, e, none))

pub chain_short : (next : List ℕ) (at : ℕ) (rest : List ℕ) → IsChain next at rest → length rest ≤ 0 → at ≡ 0
chain_short next at [] h short = h
chain_short next at (w ∷ ws) h short = absurd (omega (arith, short))

-- ---- no more watchers than there are

apart_distinct : (ws : List ℕ) → AreApart ws → IsDistinct eqb ws
unfolding IsDistinct
apart_distinct [] h = tt
apart_distinct (w ∷ ws) h = (
  recursion_from_All (λ v. eqb w v ≡ false) ws (λ k d lt. ne_eqb w (get_or ws k d) (λ e. h.0 (k, lt, get_or_default ws k w d lt ∙ sym e))),
  apart_distinct ws h.1,
)

any_in : (ws : List ℕ) (n q : ℕ) → ((v : ℕ) → Contains ws v → v < n) → list_any (eqb q) ws ≡ true → q < n
any_in [] n q below h = absurd cc
any_in (w ∷ ws) n q below h =
    ⊎_elim
    (λ here. let same = eqb-true q w here in let lt = below w (head_contained w ws) in omega arith)
    (λ rest. any_in ws n q (λ v has. below v (rest_contained w v ws has)) rest)
    (or_cases (eqb q w) (list_any (eqb q) ws) h)

pub list_fits : (ws : List ℕ) (n : ℕ) → AreApart ws → ((v : ℕ) → Contains ws v → v < n) → length ws ≤ n
list_fits ws n apart below = length-le_from_distinct_below ws n (apart_distinct ws apart) (λ q h. any_in ws n q below h)

-- ---- a front and the rest behind it

onto : List ℕ → List ℕ → List ℕ
onto [] ws = ws
onto (p ∷ ps) ws = onto ps (p ∷ ws)

run_chain : (next : List ℕ) (start : ℕ) (ps : List ℕ) (end : ℕ) (ws : List ℕ) → IsRun next start ps end → IsChain next end ws → IsChain next start (onto ps ws)
unfolding onto
run_chain next start [] end ws run chain = subst (λ (n : ℕ). IsChain next n ws) (sym run) chain
run_chain next start (p ∷ ps) end ws run chain = run_chain next start ps (suc p) (p ∷ ws) run.2 (refl, run.1, subst (λ (n : ℕ). IsChain next n ws) (sym run.0) chain)

in_onto : (ps ws : List ℕ) (v : ℕ) → Contains (onto ps ws) v → Contains ps v ⊎ Contains ws v
unfolding onto
in_onto [] ws v h = inr h
in_onto (p ∷ ps) ws v h = elim (in_onto ps (p ∷ ws) v h) [
  | inl past ↦ inl (rest_contained p v ps past)
  | inr more ↦ elim (contained_cases p v ws more) [
    | inl same ↦ inl (subst (Contains (p ∷ ps)) (sym same) (head_contained p ps))
    | inr rest ↦ inr rest
  ]
]

onto_rest : (ps ws : List ℕ) (v : ℕ) → Contains ws v → Contains (onto ps ws) v
unfolding onto
onto_rest [] ws v h = h
onto_rest (p ∷ ps) ws v h = onto_rest ps (p ∷ ws) v (rest_contained p v ws h)

onto_past : (ps ws : List ℕ) (v : ℕ) → Contains ps v → Contains (onto ps ws) v
unfolding onto
onto_past [] ws v h = absurd (none_contained v h)
onto_past (p ∷ ps) ws v h = elim (contained_cases p v ps h) [
  | inl same ↦ onto_rest ps (p ∷ ws) v (subst (Contains (p ∷ ws)) (sym same) (head_contained p ws))
  | inr past ↦ onto_past ps (p ∷ ws) v past
]

-- ---- walks

pub along_begins : (guards : List Lit) (next : List ℕ) (start : ℕ) (lit : Lit) (is : IsListed guards next start lit) → IsAlong guards next start lit 0 start [] is.list
along_begins guards next start lit is = record {
  run = refl;
  chain = is.chain;
  before_is = refl;
  past_members = λ v has. absurd (none_contained v has);
  rest_members = is.members;
  whole = λ v lt at. inr (is.whole v lt at);
  past_apart = tt;
  rest_apart = chain_apart next start is.list is.chain;
  apart = λ v has rest. none_contained v has;
}

pub along_listed : (guards : List Lit) (next : List ℕ) (start : ℕ) (lit : Lit) (before at : ℕ) (past rest : List ℕ) → IsAlong guards next start lit before at past rest → IsListed guards next start lit
along_listed guards next start lit before at past rest is = record {
  list = onto past rest;
  chain = run_chain next start past at rest is.run is.chain;
  members = λ v has. elim (in_onto past rest v has) [ inl p ↦ is.past_members v p | inr r ↦ is.rest_members v r ];
  whole = λ v lt e. elim (is.whole v lt e) [ inl p ↦ onto_past past rest v p | inr r ↦ onto_rest past rest v r ];
}

-- a watcher stays
pub along_stays : (guards : List Lit) (next : List ℕ) (start : ℕ) (lit : Lit) (before at : ℕ) (past : List ℕ) (w : ℕ) (ws : List ℕ) → IsAlong guards next start lit before at past (w ∷ ws)
    → IsAlong guards next start lit at (get_or next w 0) (w ∷ past) ws
along_stays guards next start lit before at past w ws is = record {
  run = (refl, is.chain.1, subst (IsRun next start past) is.chain.0 is.run);
  chain = is.chain.2;
  before_is = is.chain.0;
  past_members = λ v has. elim (contained_cases w v past has) [
    | inl same ↦ is.rest_members v (subst (Contains (w ∷ ws)) (sym same) (head_contained w ws))
    | inr p ↦ is.past_members v p
  ];
  rest_members = λ v has. is.rest_members v (rest_contained w v ws has);
  whole = λ v lt e. elim (is.whole v lt e) [
    | inl p ↦ inl (rest_contained w v past p)
    | inr r ↦ elim (contained_cases w v ws r) [
      | inl same ↦ inl (subst (Contains (w ∷ past)) (sym same) (head_contained w past))
      | inr later ↦ inr later
    ]
  ];
  past_apart = (λ has. is.apart w has (head_contained w ws), is.past_apart);
  rest_apart = is.rest_apart.1;
  apart = λ v has rest. elim (contained_cases w v past has) [
    | inl same ↦ is.rest_apart.0 (subst (Contains ws) same rest)
    | inr p ↦ is.apart v p (rest_contained w v ws rest)
  ];
}

-- ---- other lists

-- a list stays where its watchers do
listed_same : (guards guards2 : List Lit) (next next2 : List ℕ) (start : ℕ) (lit : Lit) → length next ≤ length next2
    → ((v : ℕ) → v < length guards → get_or guards v lit ≡ lit → get_or next2 v 0 ≡ get_or next v 0)
    → ((v : ℕ) → v < length guards → get_or guards v lit ≡ lit → (v < length guards2) × (get_or guards2 v lit ≡ lit))
    → ((v : ℕ) → v < length guards2 → get_or guards2 v lit ≡ lit → (v < length guards) × (get_or guards v lit ≡ lit))
    → IsListed guards next start lit → IsListed guards2 next2 start lit
listed_same guards guards2 next next2 start lit le links there back is = record {
  list = is.list;
  chain = chain_same next next2 start is.list le (λ v has. let m = is.members v has in links v m.0 m.1) is.chain;
  members = λ v has. let m = is.members v has in there v m.0 m.1;
  whole = λ v lt e. let b = back v lt e in is.whole v b.0 b.1;
}

-- one more watcher stands in front
listed_first : (guards guards2 : List Lit) (next next2 : List ℕ) (start : ℕ) (lit : Lit) (w : ℕ) → length next ≤ length next2 → w < length next2 → get_or next2 w 0 ≡ start → w < length guards2 → get_or guards2 w lit ≡ lit
    → ((v : ℕ) → v < length guards → get_or guards v lit ≡ lit → get_or next2 v 0 ≡ get_or next v 0)
    → ((v : ℕ) → v < length guards → get_or guards v lit ≡ lit → (v < length guards2) × (get_or guards2 v lit ≡ lit))
    → ((v : ℕ) → v < length guards2 → get_or guards2 v lit ≡ lit → (v ≡ w) ⊎ ((v < length guards) × (get_or guards v lit ≡ lit)))
    → IsListed guards next start lit → IsListed guards2 next2 (suc w) lit
listed_first guards guards2 next next2 start lit w le within link in_guards own links there back is = record {
  list = w ∷ is.list;
  chain = (refl, within, subst (λ (n : ℕ). IsChain next2 n is.list) (sym link) (chain_same next next2 start is.list le (λ v has. let m = is.members v has in links v m.0 m.1) is.chain));
  members = λ v has. elim (contained_cases w v is.list has) [
    | inl same ↦ subst (λ (n : ℕ). (n < length guards2) × (get_or guards2 n lit ≡ lit)) (sym same) (in_guards, own)
    | inr rest ↦ (let m = is.members v rest in there v m.0 m.1)
  ];
  whole = λ v lt e. elim (back v lt e) [
    | inl same ↦ subst (Contains (w ∷ is.list)) (sym same) (head_contained w is.list)
    | inr b ↦ rest_contained w v is.list (is.whole v b.0 b.1)
  ];
}

-- one more watcher
pub listed_more : (guards : List Lit) (next firsts : List ℕ) (lit : Lit) → AreListed guards next firsts → lit.0 < length firsts
    → AreListed (guards ++ lit ∷ []) (next ++ get_or firsts lit.0 0 ∷ []) (set firsts lit.0 (suc (length guards)))
listed_more guards next firsts lit are number =
    let n = length guards in
    let start = get_or firsts lit.0 0 in
    let next_long = are.next_long in
    let long : length (guards ++ lit ∷ []) ≡ suc n = (let e = length-append guards (lit ∷ []) in omega arith) in
    let links_long : length (next ++ start ∷ []) ≡ suc n = (let e = length-append next (start ∷ []) in omega arith) in
    let firsts_long = length-set firsts lit.0 (suc n) in
    let old : (v : ℕ) (d : Lit) → v < n → get_or (guards ++ lit ∷ []) v d ≡ get_or guards v d = λ v d lt. get_or_append_left guards (lit ∷ []) d v lt in
    let own : (v : ℕ) (d : Lit) → v ≡ n → get_or (guards ++ lit ∷ []) v d ≡ lit = λ v d e. get_or_push guards lit d v (sym e) in
    let old_link : (v : ℕ) → v < n → get_or (next ++ start ∷ []) v 0 ≡ get_or next v 0 = λ v lt. get_or_append_left next (start ∷ []) 0 v (omega arith) in
    record {
      next_long = links_long ∙ sym long;
      lists = λ l lt. elim (cases_eq l.0 lit.0) [
        | inl same ↦
            (let is : lit ≡ l = sym (same_lit l lit same) in
            let first : get_or (set firsts lit.0 (suc n)) lit.0 0 ≡ suc n = get_or-set_same firsts lit.0 (suc n) 0 number in
            subst (λ (x : Lit). IsListed (guards ++ lit ∷ []) (next ++ start ∷ []) (get_or (set firsts lit.0 (suc n)) x.0 0) x) is
            (subst (λ (m : ℕ). IsListed (guards ++ lit ∷ []) (next ++ start ∷ []) m lit) (sym first)
            (listed_first guards (guards ++ lit ∷ []) next (next ++ start ∷ []) start lit n (omega arith) (omega arith) (get_or_push next start 0 n next_long) (omega arith) (own n lit refl)
            (λ v within e. old_link v within)
            (λ v within e. (omega arith, old v lit within ∙ e))
            (λ v within e. elim (cases_lt v n) [ inl below ↦ inr (below, sym (old v lit below) ∙ e) | inr above ↦ inl (omega arith) ])
            (are.lists lit number))))
        | inr ne ↦ subst (λ (m : ℕ). IsListed (guards ++ lit ∷ []) (next ++ start ∷ []) m l) (sym (get_or-set_other firsts lit.0 l.0 (suc n) 0 ne))
            (listed_same guards (guards ++ lit ∷ []) next (next ++ start ∷ []) (get_or firsts l.0 0) l (omega arith)
            (λ v within e. old_link v within)
            (λ v within e. (omega arith, old v l within ∙ e))
            (λ v within e. elim (cases_lt v n) [
              | inl below ↦ (below, sym (old v l below) ∙ e)
              | inr above ↦ absurd (ne (ap (λ (x : Lit). x.0) (sym e ∙ own v l (omega arith))))
            ])
            (are.lists l (omega arith)))
      ];
    }

-- ---- a watcher is moved

length-without : (next : List ℕ) (past : List ℕ) (behind : ℕ) → length (next_without next (last_of past) behind) ≡ length next
length-without next [] behind = refl
length-without next (p ∷ ps) behind = length-set next p behind

without_other : (next past : List ℕ) (behind v : ℕ) → (Contains past v → ⊥) → get_or (next_without next (last_of past) behind) v 0 ≡ get_or next v 0
without_other next [] behind v off = refl
without_other next (p ∷ ps) behind v off = get_or-set_other next p v behind 0 (λ e. off (subst (Contains (p ∷ ps)) (sym e) (head_contained p ps)))

pub length-firsts_without : (firsts : List ℕ) (lit before behind : ℕ) → length (firsts_without firsts lit before behind) ≡ length firsts
length-firsts_without firsts lit zero behind = length-set firsts lit behind
length-firsts_without firsts lit (suc before) behind = refl

firsts_other : (firsts : List ℕ) (lit : ℕ) (past : List ℕ) (behind l : ℕ) → (l ≡ lit → ⊥) → get_or (firsts_without firsts lit (last_of past) behind) l 0 ≡ get_or firsts l 0
firsts_other firsts lit [] behind l ne = get_or-set_other firsts lit l behind 0 ne
firsts_other firsts lit (p ∷ ps) behind l ne = refl

run_without : (next firsts : List ℕ) (lit : ℕ) (past : List ℕ) (at behind : ℕ) → lit < length firsts → AreApart past → IsRun next (get_or firsts lit 0) past at
    → IsRun (next_without next (last_of past) behind) (get_or (firsts_without firsts lit (last_of past) behind) lit 0) past behind
run_without next firsts lit [] at behind lt apart run = get_or-set_same firsts lit behind 0 lt
run_without next firsts lit (p ∷ ps) at behind lt apart run =
    let long = length-set next p behind in
    let within = run.1 in (
      get_or-set_same next p behind 0 run.1,
      omega arith,
      run_same next (set next p behind) (get_or firsts lit 0) ps (suc p) (omega arith) (λ v has. get_or-set_other next p v behind 0 (λ e. apart.0 (subst (Contains ps) e has))) run.2,
    )

-- there are as many lists as before
pub firsts_long : (firsts firsts2 : List ℕ) (lit : Lit) (before behind : ℕ) (to : Lit) (at : ℕ) → firsts2 ≡ set (firsts_without firsts lit.0 before behind) to.0 at → length firsts2 ≡ length firsts
firsts_long firsts firsts2 lit before behind to at is = ap length is ∙ length-set (firsts_without firsts lit.0 before behind) to.0 at ∙ length-firsts_without firsts lit.0 before behind

last_in : (next : List ℕ) (start : ℕ) (past : List ℕ) (at : ℕ) → IsRun next start past at → last_of past ≤ length next
last_in next start [] at run = omega arith
last_in next start (p ∷ ps) at run = let lt = run.1 in omega arith

-- the watcher before is one of the lists
pub last_within : (guards : List Lit) (next : List ℕ) (start : ℕ) (lit : Lit) (before at : ℕ) (past rest : List ℕ) → IsAlong guards next start lit before at past rest → before ≤ length next
last_within guards next start lit before at past rest is = let le = last_in next start past at is.run in let e = is.before_is in omega arith

-- what stands in the list behind the moved watcher
pub record IsLeftAlong (guards2 : List Lit) (next next2 firsts2 : List ℕ) (lit : Lit) (before at : ℕ) (past ws : List ℕ) : Type 0 where
  pub along : IsAlong guards2 next2 (get_or firsts2 lit.0 0) lit before (get_or next (at - 1) 0) past ws
  pub listed : AreListed guards2 next2 firsts2

shifted_at : (guards : List Lit) (next firsts : List ℕ) (lit : Lit) (at : ℕ) (past : List ℕ) (w : ℕ) (ws : List ℕ) (to : Lit) → AreListed guards next firsts
    → IsAlong guards next (get_or firsts lit.0 0) lit (last_of past) at past (w ∷ ws) → lit.0 < length firsts → to.0 < length firsts → (to.0 ≡ lit.0 → ⊥)
    → (firsts1 next1 : List ℕ) → firsts1 ≡ firsts_without firsts lit.0 (last_of past) (get_or next w 0) → next1 ≡ next_without next (last_of past) (get_or next w 0)
    → IsAlong (set guards w to) (set next1 w (get_or firsts1 to.0 0)) (get_or (set firsts1 to.0 (suc w)) lit.0 0) lit (last_of past) (get_or next w 0) past ws
    × AreListed (set guards w to) (set next1 w (get_or firsts1 to.0 0)) (set firsts1 to.0 (suc w))
shifted_at guards next firsts lit at past w ws to are is number number_to ne firsts1 next1 firsts1_is next1_is =
    let behind = get_or next w 0 in
    let next_long = are.next_long in
    let long1 : length next1 ≡ length next = ap length next1_is ∙ length-without next past behind in
    let long1f : length firsts1 ≡ length firsts = ap length firsts1_is ∙ length-firsts_without firsts lit.0 (last_of past) behind in
    let front = get_or firsts1 to.0 0 in
    let next2 = set next1 w front in
    let long2 = length-set next1 w front in
    let firsts2 = set firsts1 to.0 (suc w) in
    let long2f = length-set firsts1 to.0 (suc w) in
    let guards2 = set guards w to in
    let long2g = length-set guards w to in
    let own = is.rest_members w (head_contained w ws) in
    let within = own.0 in
    let differ : (v : ℕ) → (v ≡ w → ⊥) → get_or next2 v 0 ≡ get_or next1 v 0 = λ v off. get_or-set_other next1 w v front 0 off in
    let link1 : (v : ℕ) → (Contains past v → ⊥) → get_or next1 v 0 ≡ get_or next v 0 = λ v off. ap (λ (xs : List ℕ). get_or xs v 0) next1_is ∙ without_other next past behind v off in
    let off_past : Contains past w → ⊥ = λ has. is.apart w has (head_contained w ws) in
    let guard_old : (v : ℕ) (d : Lit) → (v ≡ w → ⊥) → get_or guards2 v d ≡ get_or guards v d = λ v d off. get_or-set_other guards w v to d off in
    let guard_own : (d : Lit) → get_or guards2 w d ≡ to = λ d. get_or-set_same guards w to d within in
    let first_old : (l : ℕ) → (l ≡ to.0 → ⊥) → get_or firsts2 l 0 ≡ get_or firsts1 l 0 = λ l off. get_or-set_other firsts1 to.0 l (suc w) 0 off in
    let run1 : IsRun next1 (get_or firsts1 lit.0 0) past behind =
    subst (λ (xs : List ℕ). IsRun xs (get_or firsts1 lit.0 0) past behind) (sym next1_is)
    (subst (λ (fs : List ℕ). IsRun (next_without next (last_of past) behind) (get_or fs lit.0 0) past behind) (sym firsts1_is)
    (run_without next firsts lit.0 past at behind number is.past_apart is.run)) in
    let run2 : IsRun next2 (get_or firsts1 lit.0 0) past behind =
    run_same next1 next2 (get_or firsts1 lit.0 0) past behind (omega arith) (λ v has. differ v (λ e. off_past (subst (Contains past) e has))) run1 in
    let chain2 : IsChain next2 behind ws =
    chain_same next next2 behind ws (omega arith)
    (λ v has. differ v (λ e. is.rest_apart.0 (subst (Contains ws) e has)) ∙ link1 v (λ p. is.apart v p (rest_contained w v ws has)))
    is.chain.2 in
    let along : IsAlong guards2 next2 (get_or firsts2 lit.0 0) lit (last_of past) behind past ws = record {
      run = subst (λ (n : ℕ). IsRun next2 n past behind) (sym (first_old lit.0 (λ e. ne (sym e)))) run2;
      chain = chain2;
      before_is = refl;
      past_members = λ v has. let m = is.past_members v has in let lt = m.0 in (omega arith, guard_old v lit (λ e. off_past (subst (Contains past) e has)) ∙ m.1);
      rest_members = λ v has. let m = is.rest_members v (rest_contained w v ws has) in let lt = m.0 in (omega arith, guard_old v lit (λ e. is.rest_apart.0 (subst (Contains ws) e has)) ∙ m.1);
      whole = λ v lt e. elim (cases_eq v w) [
        | inl same ↦ absurd (ne (ap (λ (x : Lit). x.0) (sym (guard_own lit) ∙ ap (λ (n : ℕ). get_or guards2 n lit) (sym same) ∙ e)))
        | inr off ↦ elim (is.whole v (omega arith) (sym (guard_old v lit off) ∙ e)) [
          | inl p ↦ inl p
          | inr r ↦ elim (contained_cases w v ws r) [ inl same ↦ absurd (off same) | inr later ↦ inr later ]
        ]
      ];
      past_apart = is.past_apart;
      rest_apart = is.rest_apart.1;
      apart = λ v p r. is.apart v p (rest_contained w v ws r);
    } in
    -- a watcher of another literal stands elsewhere
    let elsewhere : (l : Lit) → (l.0 ≡ lit.0 → ⊥) → (v : ℕ) → v < length guards → get_or guards v l ≡ l → (v ≡ w → ⊥) × (Contains past v → ⊥) = λ l other v lt e. (
      (λ same. other (ap (λ (x : Lit). x.0) (sym e ∙ ap (λ (n : ℕ). get_or guards n l) same ∙ get_or_default guards w l lit within ∙ own.1))),
      (λ p. let m = is.past_members v p in other (ap (λ (x : Lit). x.0) (sym e ∙ get_or_default guards v l lit lt ∙ m.1))),
    ) in
    let links : (l : Lit) → (l.0 ≡ lit.0 → ⊥) → (v : ℕ) → v < length guards → get_or guards v l ≡ l → get_or next2 v 0 ≡ get_or next v 0 = λ l other v lt e.
    let far = elsewhere l other v lt e in differ v far.0 ∙ link1 v far.1 in
    let there : (l : Lit) → (l.0 ≡ lit.0 → ⊥) → (v : ℕ) → v < length guards → get_or guards v l ≡ l → (v < length guards2) × (get_or guards2 v l ≡ l) = λ l other v lt e.
    let far = elsewhere l other v lt e in (omega arith, guard_old v l far.0 ∙ e) in (
      along,
      record {
        next_long = (let a = long1 in let b = long2 in omega arith);
        lists = λ l lt. elim (cases_eq l.0 lit.0) [
          | inl same ↦ subst (λ (x : Lit). IsListed guards2 next2 (get_or firsts2 x.0 0) x) (sym (same_lit l lit same)) (along_listed guards2 next2 (get_or firsts2 lit.0 0) lit (last_of past) behind past ws along)
          | inr other ↦ elim (cases_eq l.0 to.0) [
            | inl same ↦
                (let first : get_or firsts2 to.0 0 ≡ suc w = get_or-set_same firsts1 to.0 (suc w) 0 (omega arith) in
                let front_is : front ≡ get_or firsts to.0 0 = ap (λ (fs : List ℕ). get_or fs to.0 0) firsts1_is ∙ firsts_other firsts lit.0 past behind to.0 ne in
                subst (λ (x : Lit). IsListed guards2 next2 (get_or firsts2 x.0 0) x) (sym (same_lit l to same))
                (subst (λ (m : ℕ). IsListed guards2 next2 m to) (sym first)
                (listed_first guards guards2 next next2 (get_or firsts to.0 0) to w (omega arith) (omega arith) (get_or-set_same next1 w front 0 (omega arith) ∙ front_is) (omega arith) (guard_own to)
                (links to ne) (there to ne)
                (λ v below e. elim (cases_eq v w) [ inl is_w ↦ inl is_w | inr off ↦ inr (omega arith, sym (guard_old v to off) ∙ e) ])
                (are.lists to number_to))))
            | inr third ↦ subst (λ (m : ℕ). IsListed guards2 next2 m l)
                (sym (first_old l.0 third ∙ ap (λ (fs : List ℕ). get_or fs l.0 0) firsts1_is ∙ firsts_other firsts lit.0 past behind l.0 other))
                (listed_same guards guards2 next next2 (get_or firsts l.0 0) l (omega arith) (links l other) (there l other)
                (λ v below e. elim (cases_eq v w) [
                  | inl is_w ↦ absurd (third (ap (λ (x : Lit). x.0) (sym e ∙ ap (λ (n : ℕ). get_or guards2 n l) is_w ∙ guard_own l)))
                  | inr off ↦ (omega arith, sym (guard_old v l off) ∙ e)
                ])
                (are.lists l (omega arith)))
          ]
        ];
      },
    )

-- a watcher moves
pub along_shifted : (guards guards2 : List Lit) (next next2 firsts firsts2 : List ℕ) (lit : Lit) (before at : ℕ) (past ws : List ℕ) (to : Lit) → AreListed guards next firsts
    → IsAlong guards next (get_or firsts lit.0 0) lit before at past ((at - 1) ∷ ws) → lit.0 < length firsts → to.0 < length firsts → (to.0 ≡ lit.0 → ⊥)
    → IsShifted guards guards2 next next2 firsts firsts2 lit before at to → IsLeftAlong guards2 next next2 firsts2 lit before at past ws
along_shifted guards guards2 next next2 firsts firsts2 lit before at past ws to are is number number_to ne shifted =
    let w = at - 1 in
    let at_is : at ≡ suc w = is.chain.0 in
    let is2 = subst (λ (n : ℕ). IsAlong guards next (get_or firsts lit.0 0) lit n at past (w ∷ ws)) is.before_is is in
    let both = shifted_at guards next firsts lit at past w ws to are is2 number number_to ne
    (firsts_without firsts lit.0 (last_of past) (get_or next w 0)) (next_without next (last_of past) (get_or next w 0)) refl refl in
    let firsts_are : firsts2 ≡ set (firsts_without firsts lit.0 before (get_or next w 0)) to.0 (suc w) = shifted.firsts_are ∙ ap (set (firsts_without firsts lit.0 before (get_or next w 0)) to.0) at_is in
    record {
      along = rw (shifted.guards_are, shifted.next_are, firsts_are, is.before_is) both.0;
      listed = rw (shifted.guards_are, shifted.next_are, firsts_are, is.before_is) both.1;
    }
