-- The instructions of a deed do as the deed does.
use Rattle.std.proofs.Common.{◌≡◌, ℕ, zero, suc, ◌+◌, ◌≤◌, ◌<◌, Bool, true, false, not, ◌&&◌, ◌||◌, cond, List, [], ◌∷◌, ◌++◌, length, map, eqb, ltb, refl, sym, ◌∙◌, ap, arith}
use Rattle.std.specs.Prelude.{slice_index, slice_set}
use Rattle.std.proofs.lemmas.Bool.{eqb-true, eqb-false, ne_eqb, ltb-true, ltb-false}
use Rattle.std.proofs.lemmas.List.{append-nil, length-set, get_or_past}
use Rattle.lz_base.specs.Words.{truth, value_bound}
use Rattle.lz_base.specs.declared.word.BreakKind.{BreakKind}
use Rattle.lz_flat.specs.Programs.{Expression, Location, Instruction, sets, takes, assumes, checks, skips}
use Rattle.lz_flat.specs.Instructions.{Did, moved, blocked, broke, value, put, did}
use Rattle.lz_flat.specs.Naming.{LocationNamesOnly}
use Rattle.lz_flat.specs.Running.{did_then, runs}
use Rattle.lz_flat.proofs.NamingLemmas.{value_agrees}
use Rattle.lz_flat.proofs.RunningLemmas.{runs_append}
use Rattle.lz_model.specs.declared.actions.Action.TheVariants as actions
use Rattle.lz_model.specs.Store.{State, Acted, went, act, act_free, is_halted}
use Rattle.lz_model.specs.Store as model
use Rattle.lz_sync.specs.declared.layout.Layout.{Layout}
use Rattle.lz_sync.specs.Slots.{thread_of}
use Rattle.lz_sync.specs.Standing.{place_of, words_of, StandsFor}
use Rattle.lz_sync.specs.Operations.{Operation, reads, writes, resets, locks, unlocks, parks, wakes, signals, broadcasts, creates, joins, holds_on, holds_off, ends, action_in, made_after, with_read, IsBeside, IsExpandable, IsReady}
use Rattle.lz_sync.specs.Groups.{fixed, both, live, group}
use Rattle.lz_sync.specs.Doing.{KeepsOthers, DoesAs}
use Rattle.lz_sync.specs.Doing as group_does
use Rattle.lz_sync.proofs.TellsLemmas.{word_same, word_other, place_lt}
use Rattle.lz_sync.proofs.TestsLemmas.{put_fixed, runs_assume, runs_set, runs_none}
use Rattle.lz_sync.proofs.FreeLemmas.{value_live}
use Rattle.lz_sync.proofs.ActingLemmas.{kept_all}
use Rattle.lz_sync.proofs.GroupsLemmas.{groups_do}
use Rattle.lz_code.specs.LaidOut.{EndsWell}
use Rattle.lz_split.specs.Deeds.{operates, inputs, tests, supposes, lined, argument_place, slot_deeds}
use Rattle.lz_split.specs.DeedsDo.{DoesAt, goes, waits, breaks, DeedsDo}

-- ---- lines

-- what breaks breaks at this line
abbrev pub with_line : ℕ → Did → Did
with_line line (moved over m) = moved over m
with_line line blocked = blocked
with_line line (broke kind other) = broke kind line

did_lined : (line : ℕ) (i : Instruction) (v : ℕ) (m : List ℕ) → did (lined line i) v m ≡ with_line line (did i v m)
unfolding did
did_lined line (sets to of) v m = refl
did_lined line (takes to) v m = refl
did_lined line (assumes test) v m = by (eqb (value test m) 0)
  where
    by : (b : Bool) → cond b blocked (moved 0 m) ≡ with_line line (cond b blocked (moved 0 m))
    by true = refl
    by false = refl
did_lined line (checks test kind other) v m = by (eqb (value test m) 0)
  where
    by : (b : Bool) → cond b (broke kind line) (moved 0 m) ≡ with_line line (cond b (broke kind other) (moved 0 m))
    by true = refl
    by false = refl
did_lined line (skips test by) v m = refl

-- lines change what breaks alone
runs_lined : (line : ℕ) (input : ℕ → ℕ) (l : ℕ) (xs : List Instruction) (m : List ℕ) → runs input l (map (lined line) xs) m ≡ with_line line (runs input l xs m)
unfolding runs
runs_lined line input l [] m = refl
runs_lined line input l (x ∷ xs) m = ap (λ (d : Did). did_then d (runs input (suc l) (map (lined line) xs))) (did_lined line x (input l) m) ∙ by (did x (input l) m) (λ n. runs_lined line input (suc l) xs n)
  where
    by : (d : Did) → ((n : List ℕ) → runs input (suc l) (map (lined line) xs) n ≡ with_line line (runs input (suc l) xs n))
        → did_then (with_line line d) (runs input (suc l) (map (lined line) xs)) ≡ with_line line (did_then d (runs input (suc l) xs))
    by (moved over n) more = more n
    by blocked more = refl
    by (broke kind other) more = refl

at_line : (layout : Layout) (other made : List ℕ) (line : ℕ) (acted : Acted) (does : Did) → DoesAs layout other made acted does → DoesAt layout other made line acted (with_line line does)
at_line layout other made line acted does (group_does.goes state after a d st k) = goes state after a (ap (λ (x : Did). with_line line x) d) st k
at_line layout other made line acted does (group_does.waits a d) = waits a (ap (λ (x : Did). with_line line x) d)
at_line layout other made line acted does (group_does.breaks kind a d) = breaks kind a (ap (λ (x : Did). with_line line x) d)

same_at : (layout : Layout) (other made : List ℕ) (line : ℕ) (acted as_acted : Acted) (does did_ : Did) → acted ≡ as_acted → does ≡ did_ → DoesAt layout other made line as_acted did_ → DoesAt layout other made line acted does
same_at layout other made line acted as_acted does did_ e f (goes state after a d st k) = goes state after (e ∙ a) (f ∙ d) st k
same_at layout other made line acted as_acted does did_ e f (waits a d) = waits (e ∙ a) (f ∙ d)
same_at layout other made line acted as_acted does did_ e f (breaks kind a d) = breaks kind (e ∙ a) (f ∙ d)

-- ---- operations that leave no argument
plain_do : (layout : Layout) (t line : ℕ) (op : Operation) (m : List ℕ) (state : State) (made : List ℕ) (input : ℕ → ℕ) (l : ℕ) → t < layout.threads → layout.conds < value_bound → IsExpandable layout op → StandsFor layout m state made → IsReady layout m made op
    → DoesAt layout (with_read m op) (made_after made op) line (act state (thread_of made t) (action_in m made op)) (runs input l (map (lined line) (group layout t op) ++ []) m)
plain_do layout t line op m state made input l lt few fits st ready =
    same_at layout (with_read m op) (made_after made op) line (act state (thread_of made t) (action_in m made op)) (act state (thread_of made t) (action_in m made op)) (runs input l (map (lined line) (group layout t op) ++ []) m) (with_line line (runs input l (group layout t op) m)) refl
    (ap (λ (xs : List Instruction). runs input l xs m) (append-nil (map (lined line) (group layout t op))) ∙ runs_lined line input l (group layout t op) m)
    (at_line layout (with_read m op) (made_after made op) line (act state (thread_of made t) (action_in m made op)) (runs input l (group layout t op) m) (groups_do layout t op lt few fits m state made input l st ready))

-- ---- a write beside the words that stand for a state
set_beside : (layout : Layout) (m : List ℕ) (state : State) (made : List ℕ) (p v : ℕ) → words_of layout ≤ p → StandsFor layout m state made → StandsFor layout (slice_set m p v) state made
set_beside layout m state made p v le st = record {
  fits = st.fits;
  tells = record {
    room = let z = st.tells.room in let y = length-set m p v in omega (arith, z, y);
    at = λ role has. word_other m p v (place_of layout role) (λ same. let low = place_lt layout role has in let z : ⊥ = omega (arith, same, low, le) in z) ∙ st.tells.at role has;
  };
}

-- the same write in memories with the same other words
same_set : (layout : Layout) (m n : List ℕ) (p v : ℕ) → KeepsOthers layout m n → KeepsOthers layout (slice_set m p v) (slice_set n p v)
same_set layout m n p v k = record {
  size = length-set n p v ∙ k.size ∙ sym (length-set m p v);
  others = λ place le. by place le (eqb place p) refl (ltb p (length m)) refl;
}
  where
    by : (place : ℕ) → words_of layout ≤ place → (b : Bool) → eqb place p ≡ b → (c : Bool) → ltb p (length m) ≡ c → slice_index (slice_set n p v) place ≡ slice_index (slice_set m p v) place
    by place le false e c f = word_other n p v place (eqb-false place p e) ∙ k.others place le ∙ sym (word_other m p v place (eqb-false place p e))
    by place le true e true f =
        let is : place ≡ p = eqb-true place p e in
        let low : p < length m = ltb-true p (length m) f in
        ap (λ (x : ℕ). slice_index (slice_set n p v) x) is ∙ word_same n p v (let s = k.size in omega (arith, low, s)) ∙ sym (word_same m p v low) ∙ ap (λ (x : ℕ). slice_index (slice_set m p v) x) (sym is)
    by place le true e false f =
        let is : place ≡ p = eqb-true place p e in
        let high : length m ≤ p = ltb-false p (length m) f in
        let a = length-set n p v in
        let b = length-set m p v in
        let s = k.size in
        get_or_past (slice_set n p v) place 0 (omega (arith, is, high, a, s)) ∙ sym (get_or_past (slice_set m p v) place 0 (omega (arith, is, high, b)))

-- ---- a creation
creates_do : (layout : Layout) (t line slot start : ℕ) (argument : Expression) (m : List ℕ) (state : State) (made : List ℕ) (input : ℕ → ℕ) (l : ℕ) → t < layout.threads → layout.conds < value_bound → IsExpandable layout (creates slot start argument) → StandsFor layout m state made → IsReady layout m made (creates slot start argument)
    → DoesAt layout (slice_set m (argument_place layout slot) (value argument m)) (made ++ slot ∷ []) line (act state (thread_of made t) (action_in m made (creates slot start argument)))
    (runs input l (map (lined line) (group layout t (creates slot start argument)) ++ sets (fixed (argument_place layout slot)) argument ∷ []) m)
creates_do layout t line slot start argument m state made input l lt few fits st ready =
    by (groups_do layout t op lt few fits m state made input l st ready)
  where
    op : Operation
    op = creates slot start argument

    xs : List Instruction
    xs = map (lined line) (group layout t op)

    ys : List Instruction
    ys = sets (fixed (argument_place layout slot)) argument ∷ []

    place : ℕ
    place = argument_place layout slot

    total : runs input l (xs ++ ys) m ≡ did_then (with_line line (runs input l (group layout t op) m)) (runs input (l + length xs) ys)
    total = runs_append input l xs ys m ∙ ap (λ (d : Did). did_then d (runs input (l + length xs) ys)) (runs_lined line input l (group layout t op) m)

    last : (n : List ℕ) → KeepsOthers layout m n → runs input (l + length xs) ys n ≡ moved 0 (slice_set n place (value argument m))
    last n k = runs_set (fixed place) argument [] input (l + length xs) n (slice_set n place (value argument m)) (value argument m)
        (value_agrees (IsBeside layout) argument n m fits.2 (λ p le. k.others p le)) (put_fixed place (value argument m) n) ∙ runs_none input (suc (l + length xs)) (slice_set n place (value argument m))

    by : DoesAs layout m (made ++ slot ∷ []) (act state (thread_of made t) (action_in m made op)) (runs input l (group layout t op) m)
        → DoesAt layout (slice_set m place (value argument m)) (made ++ slot ∷ []) line (act state (thread_of made t) (action_in m made op)) (runs input l (xs ++ ys) m)
    by (group_does.goes now after a d st_ k) = goes now (slice_set after place (value argument m)) a
        (total ∙ ap (λ (x : Did). did_then (with_line line x) (runs input (l + length xs) ys)) d ∙ last after k)
        (set_beside layout after now (made ++ slot ∷ []) place (value argument m) (omega arith) st_) (same_set layout m after place (value argument m) k)
    by (group_does.waits a d) = waits a (total ∙ ap (λ (x : Did). did_then (with_line line x) (runs input (l + length xs) ys)) d)
    by (group_does.breaks kind a d) = breaks kind a (total ∙ ap (λ (x : Did). did_then (with_line line x) (runs input (l + length xs) ys)) d)

-- ---- inputs, checks and assumptions

-- what comes after the test that the thread is not halted
lives_at : (layout : Layout) (m other : List ℕ) (state : State) (made : List ℕ) (t line : ℕ) (rest : List Instruction) (input : ℕ → ℕ) (l : ℕ) (acted : Acted) → StandsFor layout m state made → t < layout.threads
    → DoesAt layout other made line acted (runs input (suc l) rest m)
    → DoesAt layout other made line (cond (is_halted state (thread_of made t) || false) model.blocked acted) (runs input l (assumes (live layout t) ∷ rest) m)
lives_at layout m other state made t line rest input l acted st lt more = by (is_halted state (thread_of made t)) refl
  where
    by : (h : Bool) → is_halted state (thread_of made t) ≡ h → DoesAt layout other made line (cond (is_halted state (thread_of made t) || false) model.blocked acted) (runs input l (assumes (live layout t) ∷ rest) m)
    by true e = waits (rw e refl) (runs_assume (live layout t) rest input l m false (value_live layout m state made t st lt ∙ rw e refl))
    by false e = same_at layout other made line (cond (is_halted state (thread_of made t) || false) model.blocked acted) acted (runs input l (assumes (live layout t) ∷ rest) m) (runs input (suc l) rest m)
        (rw e refl) (runs_assume (live layout t) rest input l m true (value_live layout m state made t st lt ∙ rw e refl)) more

put_stands : (layout : Layout) (m : List ℕ) (state : State) (made : List ℕ) (to : Location) (v : ℕ) → StandsFor layout m state made → LocationNamesOnly (IsBeside layout) to → StandsFor layout (put to v m) state made
unfolding put
put_stands layout m state made to v st names = by (ltb (value to.index m) to.len) refl
  where
    by : (b : Bool) → ltb (value to.index m) to.len ≡ b → StandsFor layout (cond b (slice_set m (to.first + value to.index m) v) m) state made
    by false e = st
    by true e = set_beside layout m state made (to.first + value to.index m) v (names.0 (value to.index m) (ltb-true (value to.index m) to.len e)) st

runs_take : (to : Location) (input : ℕ → ℕ) (l : ℕ) (m : List ℕ) → runs input l (takes to ∷ []) m ≡ moved 0 (put to (input l) m)
unfolding runs did
runs_take to input l m = refl

runs_test : (test : Expression) (kind : BreakKind) (line : ℕ) (input : ℕ → ℕ) (l : ℕ) (m : List ℕ) → runs input l (checks test kind line ∷ []) m ≡ cond (eqb (value test m) 0) (broke kind line) (moved 0 m)
unfolding runs did
runs_test test kind line input l m = by (eqb (value test m) 0)
  where
    by : (b : Bool) → did_then (cond b (broke kind line) (moved 0 m)) (λ n. moved 0 n) ≡ cond b (broke kind line) (moved 0 m)
    by true = refl
    by false = refl

both_any : (x y : Expression) (m : List ℕ) (a : Bool) → value x m ≡ truth a → value (both x y) m ≡ truth (a && not (eqb (value y m) 0))
unfolding value
both_any x y m a e = rw e (by a)
  where
    by : (a : Bool) → truth (not (eqb (truth a) 0) && not (eqb (value y m) 0)) ≡ truth (a && not (eqb (value y m) 0))
    by true = refl
    by false = refl

inputs_do : (layout : Layout) (t line : ℕ) (to : Location) (m : List ℕ) (state : State) (made : List ℕ) (input : ℕ → ℕ) (l : ℕ) → t < layout.threads → LocationNamesOnly (IsBeside layout) to → StandsFor layout m state made
    → DoesAt layout (put to (input (suc l)) m) made line (act state (thread_of made t) (actions.Input (input (suc l)))) (runs input l (assumes (live layout t) ∷ takes to ∷ []) m)
inputs_do layout t line to m state made input l lt names st =
    lives_at layout m (put to (input (suc l)) m) state made t line (takes to ∷ []) input l (went state) st lt
    (goes state (put to (input (suc l)) m) refl (runs_take to input (suc l) m) (put_stands layout m state made to (input (suc l)) st names) (kept_all layout (put to (input (suc l)) m)))

tests_do : (layout : Layout) (t line : ℕ) (kind : BreakKind) (test : Expression) (m : List ℕ) (state : State) (made : List ℕ) (input : ℕ → ℕ) (l : ℕ) → t < layout.threads → StandsFor layout m state made
    → DoesAt layout m made line (act state (thread_of made t) (actions.Check (value test m) kind)) (runs input l (assumes (live layout t) ∷ checks test kind line ∷ []) m)
tests_do layout t line kind test m state made input l lt st =
    lives_at layout m m state made t line (checks test kind line ∷ []) input l (act_free state (thread_of made t) (actions.Check (value test m) kind)) st lt (by (value test m) refl)
  where
    by : (v : ℕ) → value test m ≡ v → DoesAt layout m made line (act_free state (thread_of made t) (actions.Check (value test m) kind)) (runs input (suc l) (checks test kind line ∷ []) m)
    by zero e = breaks kind (rw e refl) (runs_test test kind line input (suc l) m ∙ rw e refl)
    by (suc n) e = goes state m (rw e refl) (runs_test test kind line input (suc l) m ∙ rw (e, ne_eqb (suc n) 0 (λ h. let z : ⊥ = omega (arith, h) in z)) refl) st (kept_all layout m)

supposes_do : (layout : Layout) (t line : ℕ) (test : Expression) (m : List ℕ) (state : State) (made : List ℕ) (input : ℕ → ℕ) (l : ℕ) → t < layout.threads → StandsFor layout m state made
    → DoesAt layout m made line (act state (thread_of made t) (actions.Assume (value test m))) (runs input l (assumes (both (live layout t) test) ∷ []) m)
supposes_do layout t line test m state made input l lt st = by (is_halted state (thread_of made t)) refl (value test m) refl
  where
    whole : value (both (live layout t) test) m ≡ truth (not (is_halted state (thread_of made t)) && not (eqb (value test m) 0))
    whole = both_any (live layout t) test m (not (is_halted state (thread_of made t))) (value_live layout m state made t st lt)

    by : (h : Bool) → is_halted state (thread_of made t) ≡ h → (v : ℕ) → value test m ≡ v → DoesAt layout m made line (act state (thread_of made t) (actions.Assume (value test m))) (runs input l (assumes (both (live layout t) test) ∷ []) m)
    by true e v f = waits (rw e refl) (runs_assume (both (live layout t) test) [] input l m false (whole ∙ rw e refl))
    by false e zero f = waits (rw (e, f) refl) (runs_assume (both (live layout t) test) [] input l m false (whole ∙ rw (e, f) refl))
    by false e (suc n) f = goes state m (rw (e, f) refl)
        (runs_assume (both (live layout t) test) [] input l m true (whole ∙ rw (e, f, ne_eqb (suc n) 0 (λ h. let z : ⊥ = omega (arith, h) in z)) refl) ∙ runs_none input (suc l) m) st (kept_all layout m)

-- ---- every deed
pub deeds_do : DeedsDo
deeds_do layout t (operates line (creates slot start argument)) m state made input l lt few fits st due = creates_do layout t line slot start argument m state made input l lt few fits st due
deeds_do layout t (operates line (reads from to)) m state made input l lt few fits st due = plain_do layout t line (reads from to) m state made input l lt few fits st due
deeds_do layout t (operates line (writes to of)) m state made input l lt few fits st due = plain_do layout t line (writes to of) m state made input l lt few fits st due
deeds_do layout t (operates line (resets x)) m state made input l lt few fits st due = plain_do layout t line (resets x) m state made input l lt few fits st due
deeds_do layout t (operates line (locks x)) m state made input l lt few fits st due = plain_do layout t line (locks x) m state made input l lt few fits st due
deeds_do layout t (operates line (unlocks x)) m state made input l lt few fits st due = plain_do layout t line (unlocks x) m state made input l lt few fits st due
deeds_do layout t (operates line (parks c x)) m state made input l lt few fits st due = plain_do layout t line (parks c x) m state made input l lt few fits st due
deeds_do layout t (operates line (wakes c x)) m state made input l lt few fits st due = plain_do layout t line (wakes c x) m state made input l lt few fits st due
deeds_do layout t (operates line (signals c w)) m state made input l lt few fits st due = plain_do layout t line (signals c w) m state made input l lt few fits st due
deeds_do layout t (operates line (broadcasts c)) m state made input l lt few fits st due = plain_do layout t line (broadcasts c) m state made input l lt few fits st due
deeds_do layout t (operates line (joins slot)) m state made input l lt few fits st due = plain_do layout t line (joins slot) m state made input l lt few fits st due
deeds_do layout t (operates line holds_on) m state made input l lt few fits st due = plain_do layout t line holds_on m state made input l lt few fits st due
deeds_do layout t (operates line holds_off) m state made input l lt few fits st due = plain_do layout t line holds_off m state made input l lt few fits st due
deeds_do layout t (operates line (ends whole)) m state made input l lt few fits st due = plain_do layout t line (ends whole) m state made input l lt few fits st due
deeds_do layout t (inputs line to) m state made input l lt few fits st due = inputs_do layout t line to m state made input l lt fits st
deeds_do layout t (tests line kind test) m state made input l lt few fits st due = tests_do layout t line kind test m state made input l lt st
deeds_do layout t (supposes line test) m state made input l lt few fits st due = supposes_do layout t line test m state made input l lt st

-- ending a thread is one action
pub slot_ends_well : (layout : Layout) (t : ℕ) → EndsWell (slot_deeds layout t)
slot_ends_well layout t = record { is = λ w m a after s. s.0; never = λ w m a s. s; can = λ w m. (m, (refl, refl)) }
