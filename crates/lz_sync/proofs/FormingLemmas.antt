-- The form of a group: its first instruction, the words that it names, its constants and its lengths.
use Rattle.std.proofs.Common.{◌≡◌, ℕ, zero, suc, ◌+◌, ◌≤◌, ◌<◌, inl, inr, Bool, true, false, cond, eqb, refl, arith}
use Rattle.std.specs.List.{AllByRecursion}
use Rattle.std.proofs.lemmas.Bool.{eqb-true}
use Rattle.lz_base.specs.Words.{value_bound}
use Rattle.lz_base.specs.declared.operator.Binary.{Binary}
use Rattle.lz_base.specs.declared.operator.Binary.TheVariants.{Add, Eq, Ne, Both, Either}
use Rattle.lz_base.specs.declared.word.IntType.TheVariants.{Unsigned}
use Rattle.lz_flat.specs.Programs.{Expression, constant, word, element, unary, binary, convert, choose, Location, sets}
use Rattle.lz_flat.specs.Naming.{NamesOnly, LocationNamesOnly, InstructionNamesOnly, IsIn}
use Rattle.lz_sync.specs.declared.layout.Layout.{Layout}
use Rattle.lz_sync.specs.Standing.{Role, over, holder, life, wait, place_of, words_of, IsOf}
use Rattle.lz_sync.specs.Operations.{Operation, reads, writes, resets, locks, unlocks, parks, wakes, signals, broadcasts, creates, joins, holds_on, holds_off, ends, IsSpot, IsExpandable}
use Rattle.lz_sync.specs.Groups.{role_word, role_at, fixed, life_role, live, free, both, either, equal, no, spot_word, spot_at, spot_number, some_wait, chosen_wait, none_waits, chosen_holder, woken_word, woken_at, joined_word, joined_at, signal_test, group}
use Rattle.lz_sync.specs.Forming.{IsLater, BeginsWithTest, OperationNamesOnly, IsStateOr, NamesNoOthers, IsFormed, IsFormedSpot, IsFormedLocation, IsFormedInstruction, IsFormedOperation, FormsAlike}
use Rattle.lz_sync.proofs.TellsLemmas.{place_lt}
use Rattle.lz_sync.proofs.EndLemmas.{is_life}

-- ---- the first instruction

waits_later : (layout : Layout) (c : Expression) (slot more : ℕ) → AllByRecursion IsLater (none_waits layout c slot more)
waits_later layout c slot zero = tt
waits_later layout c slot (suc more) = (tt, waits_later layout c (suc slot) more)

-- it is an assumption, and the only one
pub group_begins : (layout : Layout) (t : ℕ) (op : Operation) → BeginsWithTest (group layout t op)
group_begins layout t (reads from to) = (tt, tt)
group_begins layout t (writes to of) = (tt, tt)
group_begins layout t (resets m) = (tt, tt)
group_begins layout t (locks m) = (tt, tt)
group_begins layout t (unlocks m) = (tt, (tt, tt))
group_begins layout t (parks c m) = (tt, (tt, (tt, tt)))
group_begins layout t (wakes c m) = (tt, tt)
group_begins layout t (signals c w) = (tt, tt)
group_begins layout t (broadcasts c) = waits_later layout (spot_number c) 0 layout.threads
group_begins layout t (creates slot start argument) = (tt, tt)
group_begins layout t (joins slot) = (tt, (tt, tt))
group_begins layout t holds_on = (tt, tt)
group_begins layout t holds_off = (tt, tt)
group_begins layout t (ends false) = (tt, (tt, tt))
group_begins layout t (ends true) = (tt, (tt, (tt, tt)))

-- ---- the words that are named

-- more words
pub names_more : (P Q : ℕ → Type 0) (more : (place : ℕ) → P place → Q place) (e : Expression) → NamesOnly P e → NamesOnly Q e
names_more P Q more (constant v) h = tt
names_more P Q more (word place) h = more place h
names_more P Q more (element first len index) h = ((λ k lt. more (first + k) (h.0 k lt)), names_more P Q more index h.1)
names_more P Q more (unary op kind of) h = names_more P Q more of h
names_more P Q more (binary op kind left right) h = (names_more P Q more left h.0, names_more P Q more right h.1)
names_more P Q more (convert from to of) h = names_more P Q more of h
names_more P Q more (choose test chosen other) h = (names_more P Q more test h.0, names_more P Q more chosen h.1, names_more P Q more other h.2)

pub group_names : (layout : Layout) (t : ℕ) (op : Operation) → t < layout.threads → IsExpandable layout op → NamesNoOthers layout op (group layout t op)
group_names layout t op lt fits set names = by op fits names
  where
    Q : ℕ → Type 0
    Q = IsStateOr layout (IsIn set)

    named : (e : Expression) → NamesOnly (IsIn set) e → NamesOnly Q e
    named e h = names_more (IsIn set) Q (λ place p. inr p) e h

    role : (r : Role) → IsOf layout r → Q (place_of layout r)
    role r is = inl (place_lt layout r is)

    at_role : (r : Role) → IsOf layout r → LocationNamesOnly Q (role_at layout r)
    at_role r is = ((λ k lt. let z = place_lt layout r is in inl (omega (arith, z, lt))), tt)

    live_ : NamesOnly Q (live layout t)
    live_ = ((role (life_role t) (is_life layout t lt), tt), role over tt)

    free_ : NamesOnly Q (free layout t)
    free_ = (live_, (role holder tt, (role holder tt, tt)))

    spot_ : (from most : ℕ) (spot : Location) → IsSpot layout most spot → from + most ≤ words_of layout → NamesOnly (IsIn set) spot.index → NamesOnly Q (spot_word from spot)
    spot_ from most spot is le h = at (eqb spot.len 1) refl
      where
        at : (b : Bool) → eqb spot.len 1 ≡ b → NamesOnly Q (cond b (word (from + spot.first)) (element (from + spot.first) spot.len spot.index))
        at true e = let one = eqb-true spot.len 1 e in let z = is.within in inl (omega (arith, one, z, le))
        at false e = ((λ k lt. let z = is.within in inl (omega (arith, z, le, lt))), named spot.index h)

    at_spot : (from most : ℕ) (spot : Location) → IsSpot layout most spot → from + most ≤ words_of layout → NamesOnly (IsIn set) spot.index → LocationNamesOnly Q (spot_at from spot)
    at_spot from most spot is le h = at (eqb spot.len 1) refl
      where
        at : (b : Bool) → eqb spot.len 1 ≡ b → LocationNamesOnly Q (cond b (fixed (from + spot.first)) (record { first = from + spot.first; len = spot.len; index = spot.index }))
        at true e = ((λ k lt. let one = eqb-true spot.len 1 e in let z = is.within in inl (omega (arith, one, z, le, lt))), tt)
        at false e = ((λ k lt. let z = is.within in inl (omega (arith, z, le, lt))), named spot.index h)

    number_ : (spot : Location) → NamesOnly (IsIn set) spot.index → NamesOnly Q (spot_number spot)
    number_ spot h = at (eqb spot.len 1)
      where
        at : (b : Bool) → NamesOnly Q (cond b (constant (suc spot.first)) (binary Add Unsigned spot.index (constant (suc spot.first))))
        at true = tt
        at false = (named spot.index h, tt)

    some_ : (c : Expression) (slots : ℕ) → slots ≤ layout.threads → NamesOnly Q c → NamesOnly Q (some_wait layout c slots)
    some_ c zero le h = tt
    some_ c (suc zero) le h = (role (wait 0) le, h)
    some_ c (suc (suc slots)) le h = (some_ c (suc slots) (omega (arith, le)) h, (role (wait (suc slots)) le, h))

    none_ : (c : Expression) (slot more : ℕ) → slot + more ≤ layout.threads → NamesOnly Q c → AllByRecursion (InstructionNamesOnly Q) (none_waits layout c slot more)
    none_ c slot zero le h = tt
    none_ c slot (suc more) le h = ((at_role (wait slot) (omega (arith, le)), ((role (wait slot) (omega (arith, le)), h), tt, role (wait slot) (omega (arith, le)))), none_ c (suc slot) more (omega (arith, le)) h)

    woken_ : (w : Expression) → NamesOnly (IsIn set) w → LocationNamesOnly Q (woken_at layout w)
    woken_ w h = ((λ k lt. inl (omega (arith, lt))), named w h)

    joined_ : (slot : Expression) → NamesOnly (IsIn set) slot → LocationNamesOnly Q (joined_at layout slot)
    joined_ slot h = ((λ k lt. inl (omega (arith, lt))), named slot h)

    hold_ : InstructionNamesOnly Q (sets (role_at layout holder) (chosen_holder layout t))
    hold_ = (at_role holder tt, ((role holder tt, tt), tt, role holder tt))

    cells_fit : 0 + layout.cells ≤ words_of layout
    cells_fit = omega arith

    mutexes_fit : layout.cells + layout.mutexes ≤ words_of layout
    mutexes_fit = omega arith

    by : (op : Operation) → IsExpandable layout op → OperationNamesOnly (IsIn set) op → AllByRecursion (InstructionNamesOnly Q) (group layout t op)
    by (reads from to) is h = (free_, ((((λ k lt. inr (h.1.0 k lt)), named to.index h.1.1), spot_ 0 layout.cells from is.0 cells_fit h.0), tt))
    by (writes to of) is h = (free_, ((at_spot 0 layout.cells to is.0 cells_fit h.0, named of h.1), tt))
    by (resets m) is h = (free_, ((at_spot layout.cells layout.mutexes m is mutexes_fit h, tt), tt))
    by (locks m) is h = ((free_, spot_ layout.cells layout.mutexes m is mutexes_fit h), ((at_spot layout.cells layout.mutexes m is mutexes_fit h, tt), tt))
    by (unlocks m) is h = (free_, ((spot_ layout.cells layout.mutexes m is mutexes_fit h, tt), ((at_spot layout.cells layout.mutexes m is mutexes_fit h, tt), tt)))
    by (parks c m) is h = (free_, ((spot_ layout.cells layout.mutexes m is.1 mutexes_fit h.1, tt), ((at_spot layout.cells layout.mutexes m is.1 mutexes_fit h.1, tt), ((at_role (wait t) lt, number_ c h.0), tt))))
    by (wakes c m) is h = ((free_, (role (wait t) lt, spot_ layout.cells layout.mutexes m is.1 mutexes_fit h.1)), ((at_spot layout.cells layout.mutexes m is.1 mutexes_fit h.1, tt), tt))
    by (signals c w) is h = ((free_, (named w h.1, (woken_ w h.1, number_ c h.0), some_ (spot_number c) layout.threads (omega arith) (number_ c h.0))), ((woken_ w h.1, tt), tt))
    by (broadcasts c) is h = (free_, none_ (spot_number c) 0 layout.threads (omega arith) (number_ c h))
    by (creates slot start argument) is h = (free_, ((at_role (life slot) (is.0, is.1), tt), tt))
    by (joins slot) is h = ((free_, (joined_ slot h, tt)), ((joined_ slot h, tt), ((joined_ slot h, tt), tt)))
    by holds_on is h = (free_, ((at_role holder tt, tt), tt))
    by holds_off is h = (live_, (hold_, tt))
    by (ends false) is h = (live_, ((at_role (life_role t) (is_life layout t lt), tt), (hold_, tt)))
    by (ends true) is h = (live_, ((at_role (life_role t) (is_life layout t lt), tt), (hold_, ((at_role over tt, tt), tt))))

-- ---- constants and lengths

pub group_forms : (layout : Layout) (t : ℕ) (op : Operation) → t < layout.threads → layout.threads ≤ 17 → words_of layout < value_bound → layout.conds < value_bound → IsExpandable layout op → FormsAlike layout op (group layout t op)
group_forms layout t op lt few room conds fits n le formed = by op fits formed
  where
    role : (r : Role) → IsOf layout r → place_of layout r < n
    role r is = let z = place_lt layout r is in omega (arith, z, le)

    word_ : (r : Role) → IsOf layout r → IsFormed n (role_word layout r)
    word_ r is = (role r is, tt)

    two : (op : Binary) (a b : Expression) → IsFormed n a → IsFormed n b → IsFormed n (binary op Unsigned a b)
    two op a b x y = ((x.0, y.0), (x.1, y.1))

    three : (a b c : Expression) → IsFormed n a → IsFormed n b → IsFormed n c → IsFormed n (choose a b c)
    three a b c x y z = ((x.0, y.0, z.0), (x.1, y.1, z.1))

    small : (v : ℕ) → v < value_bound → IsFormed n (constant v)
    small v lt = (lt, tt)

    put_ : (to : Location) (of : Expression) → IsFormedLocation n to → IsFormed n of → IsFormedInstruction n (sets to of)
    put_ to of x y = ((x.0, y.0), (x.1, y.1))

    at_role : (r : Role) → IsOf layout r → IsFormedLocation n (role_at layout r)
    at_role r is = (((λ k lt. let z = role r is in omega (arith, z, lt)), omega arith), ((omega arith, omega arith), tt))

    mine : IsFormed n (constant (suc t))
    mine = (omega (arith, lt, room), tt)

    live_ : IsFormed n (live layout t)
    live_ = two Both (equal (role_word layout (life_role t)) (constant 1)) (no (role_word layout over)) (two Eq (role_word layout (life_role t)) (constant 1) (word_ (life_role t) (is_life layout t lt)) (small 1 (omega arith))) (word_ over tt)

    holds_ : IsFormed n (equal (role_word layout holder) (constant (suc t)))
    holds_ = two Eq (role_word layout holder) (constant (suc t)) (word_ holder tt) mine

    free_ : IsFormed n (free layout t)
    free_ = two Both (live layout t) (either (no (role_word layout holder)) (equal (role_word layout holder) (constant (suc t)))) live_
        (two Either (no (role_word layout holder)) (equal (role_word layout holder) (constant (suc t))) (word_ holder tt) holds_)

    spot_ : (from most : ℕ) (spot : Location) → IsSpot layout most spot → from + most ≤ words_of layout → IsFormedSpot n spot → IsFormed n (spot_word from spot)
    spot_ from most spot is fit h = at (eqb spot.len 1) refl
      where
        at : (b : Bool) → eqb spot.len 1 ≡ b → IsFormed n (cond b (word (from + spot.first)) (element (from + spot.first) spot.len spot.index))
        at true e = let one = eqb-true spot.len 1 e in let z = is.within in (omega (arith, one, z, fit, le), tt)
        at false e = (((λ k lt. let z = is.within in omega (arith, z, fit, le, lt)), h.1.0), (h.0, h.1.1))

    at_spot : (from most : ℕ) (spot : Location) → IsSpot layout most spot → from + most ≤ words_of layout → IsFormedSpot n spot → IsFormedLocation n (spot_at from spot)
    at_spot from most spot is fit h = at (eqb spot.len 1) refl
      where
        at : (b : Bool) → eqb spot.len 1 ≡ b → IsFormedLocation n (cond b (fixed (from + spot.first)) (record { first = from + spot.first; len = spot.len; index = spot.index }))
        at true e = (((λ k lt. let one = eqb-true spot.len 1 e in let z = is.within in omega (arith, one, z, fit, le, lt)), omega arith), ((omega arith, omega arith), tt))
        at false e = (((λ k lt. let z = is.within in omega (arith, z, fit, le, lt)), h.1.0), (h.0, h.1.1))

    number_ : (spot : Location) → IsSpot layout layout.conds spot → IsFormedSpot n spot → IsFormed n (spot_number spot)
    number_ spot is h = at (eqb spot.len 1)
      where
        next : suc spot.first < value_bound
        next = let z = is.within in let y = h.0.0 in omega (arith, z, y, conds)

        at : (b : Bool) → IsFormed n (cond b (constant (suc spot.first)) (binary Add Unsigned spot.index (constant (suc spot.first))))
        at true = (next, tt)
        at false = two Add spot.index (constant (suc spot.first)) h.1 (next, tt)

    waits_ : (c : Expression) (slot : ℕ) → slot < layout.threads → IsFormed n c → IsFormed n (equal (role_word layout (wait slot)) c)
    waits_ c slot lt h = two Eq (role_word layout (wait slot)) c (word_ (wait slot) lt) h

    some_ : (c : Expression) (slots : ℕ) → slots ≤ layout.threads → IsFormed n c → IsFormed n (some_wait layout c slots)
    some_ c zero le h = small 0 (omega arith)
    some_ c (suc zero) le h = waits_ c 0 le h
    some_ c (suc (suc slots)) le h = two Either (some_wait layout c (suc slots)) (equal (role_word layout (wait (suc slots))) c) (some_ c (suc slots) (omega (arith, le)) h) (waits_ c (suc slots) le h)

    none_ : (c : Expression) (slot more : ℕ) → slot + more ≤ layout.threads → IsFormed n c → AllByRecursion (IsFormedInstruction n) (none_waits layout c slot more)
    none_ c slot zero le h = tt
    none_ c slot (suc more) le h =
        (put_ (role_at layout (wait slot)) (chosen_wait layout c slot) (at_role (wait slot) here) (three (equal (role_word layout (wait slot)) c) (constant 0) (role_word layout (wait slot)) (waits_ c slot here h) (small 0 (omega arith)) (word_ (wait slot) here)), none_ c (suc slot) more (omega (arith, le)) h)
      where
        here : slot < layout.threads
        here = omega (arith, le)

    woken_ : (w : Expression) → IsFormed n w → IsFormed n (woken_word layout w)
    woken_ w h = (((λ k lt. omega (arith, lt, le)), h.0), ((omega arith, omega (arith, few)), h.1))

    joined_ : (slot : Expression) → IsFormed n slot → IsFormed n (joined_word layout slot)
    joined_ slot h = (((λ k lt. omega (arith, lt, le)), h.0), ((omega (arith, lt), omega (arith, few)), h.1))

    signal_ : (c : Location) (w : Expression) → IsSpot layout layout.conds c → IsFormedSpot n c → IsFormed n w → IsFormed n (signal_test layout c w)
    signal_ c w is h k = three w (equal (woken_word layout w) (spot_number c)) (no (some_wait layout (spot_number c) layout.threads)) k (two Eq (woken_word layout w) (spot_number c) (woken_ w k) (number_ c is h)) (some_ (spot_number c) layout.threads (omega arith) (number_ c is h))

    hold_ : IsFormedInstruction n (sets (role_at layout holder) (chosen_holder layout t))
    hold_ = put_ (role_at layout holder) (chosen_holder layout t) (at_role holder tt) (three (equal (role_word layout holder) (constant (suc t))) (constant 0) (role_word layout holder) holds_ (small 0 (omega arith)) (word_ holder tt))

    cells_fit : 0 + layout.cells ≤ words_of layout
    cells_fit = omega arith

    mutexes_fit : layout.cells + layout.mutexes ≤ words_of layout
    mutexes_fit = omega arith

    owner_ : (m : Location) → IsSpot layout layout.mutexes m → IsFormedSpot n m → IsFormed n (spot_word layout.cells m)
    owner_ m is h = spot_ layout.cells layout.mutexes m is mutexes_fit h

    owned_ : (m : Location) → IsSpot layout layout.mutexes m → IsFormedSpot n m → IsFormed n (equal (spot_word layout.cells m) (constant (suc t)))
    owned_ m is h = two Eq (spot_word layout.cells m) (constant (suc t)) (owner_ m is h) mine

    to_owner : (m : Location) (of : Expression) → IsSpot layout layout.mutexes m → IsFormedSpot n m → IsFormed n of → IsFormedInstruction n (sets (spot_at layout.cells m) of)
    to_owner m of is h k = put_ (spot_at layout.cells m) of (at_spot layout.cells layout.mutexes m is mutexes_fit h) k

    fixed_ : (r : Role) (v : ℕ) → IsOf layout r → v < value_bound → IsFormedInstruction n (sets (role_at layout r) (constant v))
    fixed_ r v is lt = put_ (role_at layout r) (constant v) (at_role r is) (lt, tt)

    by : (op : Operation) → IsExpandable layout op → IsFormedOperation n op → AllByRecursion (IsFormedInstruction n) (group layout t op)
    by (reads from to) is h = (free_, (put_ to (spot_word 0 from) h.1 (spot_ 0 layout.cells from is.0 cells_fit h.0), tt))
    by (writes to of) is h = (free_, (put_ (spot_at 0 to) of (at_spot 0 layout.cells to is.0 cells_fit h.0) h.1, tt))
    by (resets m) is h = (free_, (to_owner m (constant 0) is h (small 0 (omega arith)), tt))
    by (locks m) is h = (two Both (free layout t) (no (spot_word layout.cells m)) free_ (owner_ m is h), (to_owner m (constant (suc t)) is h mine, tt))
    by (unlocks m) is h = (free_, (owned_ m is h, (to_owner m (constant 0) is h (small 0 (omega arith)), tt)))
    by (parks c m) is h = (free_, (owned_ m is.1 h.1, (to_owner m (constant 0) is.1 h.1 (small 0 (omega arith)), (put_ (role_at layout (wait t)) (spot_number c) (at_role (wait t) lt) (number_ c is.0 h.0), tt))))
    by (wakes c m) is h = (
      two Both (free layout t) (both (no (role_word layout (wait t))) (no (spot_word layout.cells m))) free_ (two Both (no (role_word layout (wait t))) (no (spot_word layout.cells m)) (word_ (wait t) lt) (owner_ m is.1 h.1)),
      (to_owner m (constant (suc t)) is.1 h.1 mine, tt),
    )
    by (signals c w) is h = (two Both (free layout t) (signal_test layout c w) free_ (signal_ c w is.0 h.0 h.1), (put_ (woken_at layout w) (constant 0) (woken_ w h.1) (small 0 (omega arith)), tt))
    by (broadcasts c) is h = (free_, none_ (spot_number c) 0 layout.threads (omega arith) (number_ c is h))
    by (creates slot start argument) is h = (free_, (fixed_ (life slot) 1 (is.0, is.1) (omega arith), tt))
    by (joins slot) is h = (
      two Both (free layout t) (binary Ne Unsigned (joined_word layout slot) (constant 1)) free_ (two Ne (joined_word layout slot) (constant 1) (joined_ slot h) (small 1 (omega arith))),
      (two Eq (joined_word layout slot) (constant 2) (joined_ slot h) (small 2 (omega arith)), (put_ (joined_at layout slot) (constant 3) (joined_ slot h) (small 3 (omega arith)), tt)),
    )
    by holds_on is h = (free_, (fixed_ holder (suc t) tt (omega (arith, lt, room)), tt))
    by holds_off is h = (live_, (hold_, tt))
    by (ends false) is h = (live_, (fixed_ (life_role t) 2 (is_life layout t lt) (omega arith), (hold_, tt)))
    by (ends true) is h = (live_, (fixed_ (life_role t) 2 (is_life layout t lt) (omega arith), (hold_, (fixed_ over 1 tt (omega arith), tt))))
