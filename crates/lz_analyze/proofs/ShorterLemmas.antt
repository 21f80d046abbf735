-- A part of a clause makes the other literals false: the steps, as the code takes them.
use Rattle.std.proofs.Common.{◌≡◌, ◌≢◌, ℕ, suc, ◌<◌, ◌≤◌, ◌⊎◌, inl, inr, ⊎_elim, Bool, true, false, cond, eqb, List, [], ◌∷◌, ◌++◌, length, get_or, take, map, Some, None, refl, sym, ◌∙◌, ap, subst, arith}
use Rattle.std.specs.List.{All, Contains, list_any}
use Rattle.std.proofs.lemmas.Bool.{cases_Bool, eqb-true, true≢false}
use Rattle.std.proofs.lemmas.List.{get_or-take, length-take-le, get_or_default}
use Rattle.std.proofs.lemmas.List.Elements.{All-contains, All-push, Contains-get_or, Contains-push, Contains-push_cases, Contains-append_left, Contains-append_right}
use Rattle.std.proofs.lemmas.List.Quantifiers.{all_pairs_push}
use Rattle.lz_base.proofs.ListLemmas.{head_contained, contained_cases}
use Rattle.lz_cnf.specs.declared.clause.Lit.{Lit}
use Rattle.lz_cnf.specs.Models.{variable_of, negated}
use Rattle.lz_cnf.specs.Partial.{IsFalseLit}
use Rattle.lz_cnf.proofs.LitLemmas.{variable_of-negated, negated-negated}
use Rattle.lz_log.proofs.RefutationLemmas.{same_named}
use Rattle.lz_prop.specs.Trail.{Entry, TrailState, IsTrail, RestsOn, HoldsClause, literals, entry_of, reason_in}
use Rattle.lz_prop.proofs.LitLemmas.{Contains-map, Contains-from_map}
use Rattle.lz_prop.proofs.EntryLemmas.{one_entry}
use Rattle.lz_analyze.specs.Chains.{Link, IsPart, IsKnown, IsReplay, IsShorter}
use Rattle.lz_analyze.proofs.ChainLemmas.{chain_push, chain_part}
use Rattle.lz_analyze.proofs.WalkLemmas.{front_of, marked_is}
use Rattle.lz_analyze.proofs.WalkingLemmas.{IsInserted, keys_more, keys_same, any_contains, reason_at, named_within}

-- false literals of one variable are one
pub same_false : (s : TrailState) (l m : Lit) → IsTrail s → IsFalseLit (literals s.set) l → IsFalseLit (literals s.set) m → variable_of l ≡ variable_of m → l ≡ m
same_false s l m trail hl hm same =
    let a = Contains-from_map (λ (e : Entry). e.lit) s.set (negated l) hl in
    let b = Contains-from_map (λ (e : Entry). e.lit) s.set (negated m) hm in
    let one : a.0 ≡ b.0 = one_entry s trail a.0 b.0 a.1 b.1 (ap variable_of a.2 ∙ variable_of-negated l ∙ same ∙ sym (variable_of-negated m) ∙ sym (ap variable_of b.2)) in
    sym (negated-negated l) ∙ ap negated (sym a.2 ∙ ap (λ (e : Entry). e.lit) one ∙ b.2) ∙ negated-negated m

-- ---- the kept literals

pub part_begins : (low : List Lit) (point : Lit) (kept : List Lit) (known : List ℕ) → kept ≡ [] → known ≡ variable_of point ∷ [] → IsPart low point kept known
part_begins low point kept known none is = record {
  within = λ k d lt. let e = ap length none in absurd (omega arith);
  apart = λ i j d lt within. let e = ap length none in absurd (omega arith);
  marked = λ k d lt. let e = ap length none in absurd (omega arith);
  told = λ v h. ⊎_elim (λ same. inl same) (λ rest. absurd (let lt = rest.1 in omega arith)) (contained_cases (variable_of point) v [] (subst (λ (keys : List ℕ). Contains keys v) is h));
}

pub part_more : (low : List Lit) (point : Lit) (kept : List Lit) (known : List ℕ) (lit : Lit) → IsPart low point kept known → Contains low lit → list_any (eqb (variable_of lit)) known ≡ false
    → IsPart low point (kept ++ lit ∷ []) (known ++ variable_of lit ∷ [])
part_more low point kept known lit part has none =
    let v = variable_of lit in
    let fresh : (l : Lit) → Contains kept l → variable_of l ≡ v → ⊥ = λ l h is.
    true≢false (sym (marked_is known (variable_of l) (All-contains (λ (x : Lit). Contains known (variable_of x)) kept l part.marked h)) ∙ ap (λ (w : ℕ). list_any (eqb w) known) is ∙ none) in
    record {
      within = All-push (Contains low) kept lit part.within has;
      apart = all_pairs_push (λ (a b : Lit). variable_of a ≢ variable_of b) kept lit part.apart (λ k d lt. fresh (get_or kept k d) (Contains-get_or kept k d lt));
      marked = All-push (λ l. Contains (known ++ v ∷ []) (variable_of l)) kept lit
          (λ k d lt. Contains-append_left known (v ∷ []) (variable_of (get_or kept k d)) (part.marked k d lt)) (Contains-push known v);
      told = λ w h. ⊎_elim
          (λ old. ⊎_elim (λ is. inl is) (λ some. inr (some.0, Contains-append_left kept (lit ∷ []) some.0 some.1, some.2)) (part.told w old))
          (λ new. inr (lit, Contains-push kept lit, new))
          (Contains-push_cases known v w h);
    }

-- ---- the place of an entry

pub record IsPlace (set : List Entry) (v number : ℕ) (d : Entry) : Type 0 where
  pub at : ℕ
  pub within : at < length set
  pub variable : variable_of (get_or set at d).lit ≡ v
  pub reason : (get_or set at d).reason ≡ Some number

place_case : (first : Entry) (set : List Entry) (v number : ℕ) (d : Entry) (b : Bool) → eqb (variable_of first.lit) v ≡ b → Some number ≡ reason_in (cond b (Some first) (entry_of set v))
    → (Some number ≡ reason_in (entry_of set v) → IsPlace set v number d) → IsPlace (first ∷ set) v number d
place_case first set v number d true same told rest = record { at = 0; within = omega arith; variable = eqb-true (variable_of first.lit) v same; reason = sym told }
place_case first set v number d false same told rest =
    let later = rest told in
    record { at = suc later.at; within = (let lt = later.within in omega arith); variable = later.variable; reason = later.reason }

pub place_of : (set : List Entry) (v number : ℕ) (d : Entry) → Some number ≡ reason_in (entry_of set v) → IsPlace set v number d
place_of [] v number d told = absurd cc
place_of (first ∷ set) v number d told = place_case first set v number d (eqb (variable_of first.lit) v) refl told (λ h. place_of set v number d h)

-- the reason of a variable is a kept clause
pub reason_named : (s : TrailState) (v number : ℕ) → IsTrail s → Some number ≡ reason_in (entry_of s.set v) → (0 < number) × (number ≤ length s.clauses)
reason_named s v number trail told =
    let d : Entry = record { lit = record { 0 = 0 }; level = 0; reason = None } in
    let place = place_of s.set v number d told in
    let rests = reason_at s place.at d number trail place.within place.reason in
    named_within s.clauses number rests.clause rests.named

-- ---- the chain

pub replay_begins : (s : TrailState) (point : Lit) (low kept : List Lit) (known numbers : List ℕ) → IsTrail s → All (IsFalseLit (literals s.set)) (point ∷ low) → IsPart low point kept known → numbers ≡ []
    → IsReplay s (point ∷ kept) known numbers
replay_begins s point low kept known numbers trail all part none =
    let is_false : (l : Lit) → Contains (point ∷ low) l → IsFalseLit (literals s.set) l = λ l h. All-contains (IsFalseLit (literals s.set)) (point ∷ low) l all h in
    record {
      links = [];
      told = none;
      chain = λ l h. ⊎_elim
          (λ same. subst (Contains (point ∷ kept)) (sym (same_false s l point trail h.0 (is_false point (head_contained point low)) same)) (head_contained point kept))
          (λ some.
          let in_low : Contains low some.0 = All-contains (Contains low) kept some.0 part.within some.1 in
          let one : some.0 ≡ l = same_false s some.0 l trail (is_false some.0 (Contains-append_right (point ∷ []) low some.0 in_low)) h.0 some.2 in
          Contains-append_right (point ∷ []) kept l (subst (Contains kept) one some.1))
          (part.told (variable_of l) h.1);
    }

numbers_more : (links : List Link) (link : Link) (numbers : List ℕ) → numbers ≡ map (λ (k : Link). k.number) links → numbers ++ link.number ∷ [] ≡ map (λ (k : Link). k.number) (links ++ link ∷ [])
numbers_more [] link numbers is = ap (λ (xs : List ℕ). xs ++ link.number ∷ []) is
numbers_more (first ∷ links) link numbers is =
    ap (λ (xs : List ℕ). xs ++ link.number ∷ []) is ∙ ap (λ (xs : List ℕ). first.number ∷ xs) (numbers_more links link (map (λ (k : Link). k.number) links) refl)

-- no literal that was false before an entry has the entry's variable
before_differs : (s : TrailState) (at : ℕ) (d : Entry) (l : Lit) → IsTrail s → at < length s.set → IsFalseLit (literals (take at s.set)) l → variable_of l ≡ variable_of (get_or s.set at d).lit → ⊥
before_differs s at d l trail within is same =
    let source = Contains-from_map (λ (e : Entry). e.lit) (take at s.set) (negated l) is in
    let e = source.0 in
    let k = source.1.0 in
    let short = length-take-le at s.set (omega arith) in
    let lt : k < at = (let h = source.1.1 in omega arith) in
    let here : get_or s.set k e ≡ e = sym (get_or-take at s.set k e lt) ∙ source.1.2 in
    trail.apart k at e lt within
    (ap (λ (x : Entry). variable_of x.lit) here ∙ ap variable_of source.2 ∙ variable_of-negated l ∙ same ∙ ap (λ (x : Entry). variable_of x.lit) (get_or_default s.set at d e within))

false_whole : (s : TrailState) (at : ℕ) (l : Lit) → at ≤ length s.set → IsFalseLit (literals (take at s.set)) l → IsFalseLit (literals s.set) l
false_whole s at l le is =
    let source = Contains-from_map (λ (e : Entry). e.lit) (take at s.set) (negated l) is in
    subst (Contains (literals s.set)) source.2 (Contains-map (λ (e : Entry). e.lit) s.set source.0 (front_of at s.set source.0 le source.1))

inserted_cases : (old new : List ℕ) (v : ℕ) (added : Bool) → IsInserted old new v added → (w : ℕ) → Contains new w → Contains old w ⊎ (v ≡ w)
inserted_cases old new v added is w h =
    elim (cases_Bool added) [
      | inl yes_ ↦ Contains-push_cases old v w (subst (λ (keys : List ℕ). Contains keys w) (keys_more old new v added is yes_) h)
      | inr no_ ↦ inl (subst (λ (keys : List ℕ). Contains keys w) (keys_same old new v added is no_) h)
    ]

pub replay_more : (s : TrailState) (have lits : List Lit) (known new numbers : List ℕ) (v number : ℕ) (added : Bool) → IsTrail s → IsReplay s have known numbers → Some number ≡ reason_in (entry_of s.set v)
    → HoldsClause s number lits → All (λ lit. (variable_of lit ≡ v) ⊎ Contains known (variable_of lit)) lits → IsInserted known new v added → IsReplay s have new (numbers ++ number ∷ [])
replay_more s have lits known new numbers v number added trail replay told holds linked inserted =
    let d : Entry = record { lit = record { 0 = 0 }; level = 0; reason = None } in
    let place = place_of s.set v number d told in
    let within = place.within in
    let e = get_or s.set place.at d in
    let own : variable_of e.lit ≡ v = place.variable in
    let rests : RestsOn s.clauses (take place.at s.set) e.lit number = reason_at s place.at d number trail within place.reason in
    let same : holds.0 ≡ rests.clause = same_named s.clauses number holds.0 rests.clause holds.1 rests.named in
    let lent : All (Contains lits) rests.clause = subst (λ (c : List Lit). All (Contains lits) c) same holds.2.right in
    let link : Link = record { lit = e.lit; number = number } in
    let is_true : Contains (literals s.set) e.lit = Contains-map (λ (x : Entry). x.lit) s.set e (Contains-get_or s.set place.at d within) in
    let others : (l : Lit) → Contains rests.clause l → (l ≡ e.lit) ⊎ IsKnown s known l = λ l h. ⊎_elim
    (λ is. inl is)
    (λ is_false. ⊎_elim
    (λ var. absurd (before_differs s place.at d l trail within is_false (var ∙ sym own)))
    (λ has. inr (false_whole s place.at l (omega arith) is_false, has))
    (All-contains (λ lit. (variable_of lit ≡ v) ⊎ Contains known (variable_of lit)) lits l linked (All-contains (Contains lits) rests.clause l lent h)))
    (All-contains (λ x. (x ≡ e.lit) ⊎ IsFalseLit (literals (take place.at s.set)) x) rests.clause l rests.others h) in
    let flipped : IsFalseLit (literals s.set) (negated e.lit) = subst (Contains (literals s.set)) (sym (negated-negated e.lit)) is_true in
    let longer = chain_push (literals s.set) s.clauses (Contains have) (IsKnown s known) replay.links link rests.clause replay.chain rests.named rests.within is_true others in
    record {
      links = replay.links ++ link ∷ [];
      told = numbers_more replay.links link numbers replay.told;
      chain = chain_part (literals s.set) s.clauses (Contains have) (λ l. (l ≡ negated e.lit) ⊎ IsKnown s known l) (IsKnown s new) (replay.links ++ link ∷ []) longer
          (λ l h. ⊎_elim
          (λ old. inr (h.0, old))
          (λ is. inl (same_false s l (negated e.lit) trail h.0 flipped (sym is ∙ sym own ∙ sym (variable_of-negated e.lit))))
          (inserted_cases known new v added inserted (variable_of l) h.1));
    }

pub replay_ends : (s : TrailState) (point : Lit) (low kept : List Lit) (known_before known numbers : List ℕ) → All (IsFalseLit (literals s.set)) (point ∷ low) → IsPart low point kept known_before
    → IsReplay s (point ∷ kept) known numbers → list_any (eqb (variable_of point)) known ≡ true → All (λ lit. (variable_of lit ≡ variable_of point) ⊎ Contains known (variable_of lit)) low
    → IsShorter s point low kept numbers
replay_ends s point low kept known_before known numbers all part replay has_point has_low =
    let is_known : Contains known (variable_of point) = any_contains known (variable_of point) has_point in
    record {
      within = part.within;
      apart = part.apart;
      links = replay.links;
      told = replay.told;
      chain = chain_part (literals s.set) s.clauses (Contains (point ∷ kept)) (IsKnown s known) (Contains (point ∷ low)) replay.links replay.chain
          (λ l h. (
            All-contains (IsFalseLit (literals s.set)) (point ∷ low) l all h,
            ⊎_elim
                (λ is. subst (λ (x : Lit). Contains known (variable_of x)) (sym is) is_known)
                (λ in_low. ⊎_elim
                (λ var. subst (Contains known) (sym var) is_known)
                (λ has. has)
                (All-contains (λ lit. (variable_of lit ≡ variable_of point) ⊎ Contains known (variable_of lit)) low l has_low in_low))
                (contained_cases point l low h),
          ));
    }
