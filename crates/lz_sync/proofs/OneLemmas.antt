-- No memory stands for two pairs.
use Rattle.std.proofs.Common.{◌≡◌, ℕ, zero, suc, ◌≤◌, ◌<◌, Bool, true, false, not, cond, List, [], ◌∷◌, length, eqb, ltb, refl, sym, ◌∙◌, ap, subst, arith, Option, Some, None}
use Rattle.std.specs.Prelude.{slice_index}
use Rattle.std.proofs.lemmas.Bool.{eqb-true, eqb-false, eq-eqb, ne_eqb, ltb-true, ltb-false, lt-ltb, le-ltb}
use Rattle.std.proofs.lemmas.List.{same_lists, get_or_default}
use Rattle.lz_base.specs.Words.{truth}
use Rattle.lz_model.specs.declared.thread_state.ThreadState.{ThreadState}
use Rattle.lz_model.specs.Store.{State, fresh, is_made, owner_of, thread_at}
use Rattle.lz_sync.specs.declared.layout.Layout.{Layout}
use Rattle.lz_sync.specs.Slots.{place_in, thread_of, slot_of, RisesTo}
use Rattle.lz_sync.specs.Standing.{Role, cell, owner, over, holder, main_life, life, wait, IsOf, life_word, life_in, thread_word, number_word, said, IsMadeIn, Fits, StandsFor, OnePair}
use Rattle.lz_sync.proofs.SlotsLemmas.{within, thread_slot}

-- ---- rising lists
not_below : (top low u : ℕ) (ks : List ℕ) → RisesTo top low ks → u ≤ low → place_in ks u ≡ length ks
unfolding place_in
not_below top low u [] h le = refl
not_below top low u (k ∷ ks) h le = rw (ne_eqb k u (λ e. let a = h.0 in let z : ⊥ = omega (arith, a, e, le) in z)) (ap (λ (n : ℕ). suc n) (not_below top k u ks h.2 (let a = h.0 in omega (arith, a, le))))

has : List ℕ → ℕ → Bool
has xs u = ltb (place_in xs u) (length xs)

has_first : (k : ℕ) (ks : List ℕ) → has (k ∷ ks) k ≡ true
unfolding has place_in
has_first k ks = rw (eq-eqb k k refl) (lt-ltb 0 (suc (length ks)) (omega arith))

has_later : (k u : ℕ) (ks : List ℕ) → (k ≡ u → ⊥) → has (k ∷ ks) u ≡ has ks u
unfolding has place_in
has_later k u ks n = rw (ne_eqb k u n) (by (ltb (place_in ks u) (length ks)) refl)
  where
    by : (b : Bool) → ltb (place_in ks u) (length ks) ≡ b → ltb (suc (place_in ks u)) (suc (length ks)) ≡ b
    by true e = lt-ltb (suc (place_in ks u)) (suc (length ks)) (let z : place_in ks u < length ks = ltb-true (place_in ks u) (length ks) e in omega (arith, z))
    by false e = le-ltb (suc (place_in ks u)) (suc (length ks)) (let z : length ks ≤ place_in ks u = ltb-false (place_in ks u) (length ks) e in omega (arith, z))

has_none : (top low u : ℕ) (ks : List ℕ) → RisesTo top low ks → u ≤ low → has ks u ≡ false
unfolding has
has_none top low u ks h le = le-ltb (place_in ks u) (length ks) (let z = not_below top low u ks h le in omega (arith, z))

no_way : {A : Type 0} → true ≡ false → A
no_way e = absurd cc

same_rising : (top low : ℕ) (xs ys : List ℕ) → RisesTo top low xs → RisesTo top low ys → ((u : ℕ) → low < u → u < top → has xs u ≡ has ys u) → xs ≡ ys
same_rising top low [] [] h k f = refl
same_rising top low [] (y ∷ ys) h k f = no_way (sym (f y k.0 k.1 ∙ has_first y ys) ∙ has_none top y y [] tt (omega arith))
same_rising top low (x ∷ xs) [] h k f = no_way (sym (has_first x xs) ∙ f x h.0 h.1 ∙ has_none top x x [] tt (omega arith))
same_rising top low (x ∷ xs) (y ∷ ys) h k f = by (eqb x y) refl (λ e g. same_rising top x xs ys h.2 e g)
  where
    by : (b : Bool) → eqb x y ≡ b → (RisesTo top x ys → ((u : ℕ) → x < u → u < top → has xs u ≡ has ys u) → xs ≡ ys) → x ∷ xs ≡ y ∷ ys
    by true e more =
        let same : x ≡ y = eqb-true x y e in
        let rest : xs ≡ ys = more (subst (λ (n : ℕ). RisesTo top n ys) (sym same) k.2) (λ u lt top_. let a = h.0 in
        sym (has_later x u xs (λ q. let z : ⊥ = omega (arith, lt, q) in z)) ∙ f u (omega (arith, a, lt)) top_ ∙ has_later y u ys (λ q. let z : ⊥ = omega (arith, lt, q, same) in z)) in
        cc
    by false e more = lower (ltb x y) refl
      where
        lower : (c : Bool) → ltb x y ≡ c → x ∷ xs ≡ y ∷ ys
        lower true g = let lt : x < y = ltb-true x y g in
            no_way (sym (has_first x xs) ∙ f x h.0 h.1 ∙ has_later y x ys (λ q. let z : ⊥ = omega (arith, lt, q) in z) ∙ has_none top y x ys k.2 (omega (arith, lt)))
        lower false g = let ge : y ≤ x = ltb-false x y g in let n : x ≡ y → ⊥ = eqb-false x y e in let lt : y < x = grind (arith, ge, n) in
            no_way (sym (has_first y ys) ∙ sym (f y k.0 k.1) ∙ has_later x y xs (λ q. let z : ⊥ = omega (arith, lt, q) in z) ∙ has_none top x y xs h.2 (omega (arith, lt)))

-- ---- words say one thing
life_is_made : (b : Bool) (thread : ThreadState) → eqb (cond b (life_word thread) 0) 0 ≡ not b
life_is_made false thread = refl
life_is_made true thread = by thread.ended thread.joined
  where
    by : (ended joined : Bool) → eqb (cond ended (cond joined 3 2) 1) 0 ≡ false
    by true true = refl
    by true false = refl
    by false joined = refl

made_is_had : (layout : Layout) (state : State) (made : List ℕ) (u : ℕ) → Fits layout state made → is_made state (thread_of made (suc u)) ≡ has made (suc u)
unfolding has
made_is_had layout state made u fits = by (ltb (place_in made (suc u)) (length made)) refl
  where
    by : (b : Bool) → ltb (place_in made (suc u)) (length made) ≡ b → ltb (suc (place_in made (suc u))) (length state.threads) ≡ b
    by true e = lt-ltb (suc (place_in made (suc u))) (length state.threads) (let z : place_in made (suc u) < length made = ltb-true (place_in made (suc u)) (length made) e in let y = fits.threads in omega (arith, z, y))
    by false e = le-ltb (suc (place_in made (suc u))) (length state.threads) (let z : length made ≤ place_in made (suc u) = ltb-false (place_in made (suc u)) (length made) e in let y = fits.threads in omega (arith, z, y))

not_same : (a b : Bool) → not a ≡ not b → a ≡ b
not_same true true e = refl
not_same true false e = absurd cc
not_same false true e = absurd cc
not_same false false e = refl

truth_same : (a b : Bool) → truth a ≡ truth b → a ≡ b
truth_same true true e = refl
truth_same true false e = absurd cc
truth_same false true e = absurd cc
truth_same false false e = refl

number_same : (a b : Option ℕ) → number_word a ≡ number_word b → a ≡ b
number_same None None e = refl
number_same None (Some n) e = absurd (let z : ⊥ = omega (arith, e) in z)
number_same (Some n) None e = absurd (let z : ⊥ = omega (arith, e) in z)
number_same (Some n) (Some k) e = ap (λ (x : ℕ). Some x) (omega (arith, e))

thread_same : (top : ℕ) (made : List ℕ) (a b : Option ℕ) (n : ℕ) → RisesTo top 0 made → ((q : ℕ) → a ≡ Some q → q < suc (length made)) → ((q : ℕ) → b ≡ Some q → q < suc (length made)) → thread_word made a ≡ thread_word made b → a ≡ b
thread_same top made None None n h f g e = refl
thread_same top made None (Some q) n h f g e = absurd (let z : ⊥ = omega (arith, e) in z)
thread_same top made (Some q) None n h f g e = absurd (let z : ⊥ = omega (arith, e) in z)
thread_same top made (Some q) (Some r) n h f g e =
    let same : slot_of made q ≡ slot_of made r = omega (arith, e) in
    ap (λ (x : ℕ). Some x) (sym (thread_slot top made q h (f q refl)) ∙ ap (λ (x : ℕ). thread_of made x) same ∙ thread_slot top made r h (g r refl))

bound_of : (state : State) (made : List ℕ) (o : Option ℕ) (q : ℕ) → length state.threads ≡ suc (length made) → IsMadeIn state o → o ≡ Some q → q < suc (length made)
bound_of state made None q e h k = absurd cc
bound_of state made (Some p) q e h k = let same : p ≡ q = cc in omega (arith, h, e, same)

state_same : (a b : State) → a.cells ≡ b.cells → a.owners ≡ b.owners → a.threads ≡ b.threads → a.holder ≡ b.holder → a.over ≡ b.over → a ≡ b
state_same a b e1 e2 e3 e4 e5 =
    ap (λ (x : List ℕ). record a { cells = x }) e1 ∙ ap (λ (x : List (Option ℕ)). record a { cells = b.cells; owners = x }) e2
    ∙ ap (λ (x : List ThreadState). record a { cells = b.cells; owners = b.owners; threads = x }) e3 ∙ ap (λ (x : Option ℕ). record b { holder = x; over = a.over }) e4 ∙ ap (λ (x : Bool). record b { over = x }) e5

kept_from : (a b : ThreadState) → a.waits ≡ b.waits → a.ended ≡ b.ended → a.joined ≡ b.joined → a ≡ b
kept_from a b e1 e2 e3 = ap (λ (x : Option ℕ). record a { waits = x }) e1 ∙ ap (λ (x : Bool). record a { waits = b.waits; ended = x }) e2 ∙ ap (λ (x : Bool). record b { joined = x }) e3

abbrev lw : Bool → Bool → ℕ
lw ended joined = cond ended (cond joined 3 2) 1

kept_same : (a b : ThreadState) → (a.joined ≡ true → a.ended ≡ true) → (b.joined ≡ true → b.ended ≡ true) → a.waits ≡ b.waits → life_word a ≡ life_word b → a ≡ b
kept_same a b f g e k = by a.ended refl a.joined refl b.ended refl b.joined refl
  where
    by : (ae : Bool) → a.ended ≡ ae → (aj : Bool) → a.joined ≡ aj → (be : Bool) → b.ended ≡ be → (bj : Bool) → b.joined ≡ bj → a ≡ b
    by ae h aj i be l bj o = together ae aj be bj h i l o (subst (λ (x : Bool). lw x aj ≡ lw be bj) h (words ae h aj i be l bj o)) (λ z. sym h ∙ f (i ∙ z)) (λ z. sym l ∙ g (o ∙ z))
      where
        words : (ae : Bool) → a.ended ≡ ae → (aj : Bool) → a.joined ≡ aj → (be : Bool) → b.ended ≡ be → (bj : Bool) → b.joined ≡ bj → lw a.ended aj ≡ lw be bj
        words ae h aj i be l bj o = subst (λ (x : Bool). lw a.ended x ≡ lw be bj) i (subst (λ (x : Bool). life_word a ≡ lw x bj) l (subst (λ (x : Bool). life_word a ≡ lw b.ended x) o k))

        together : (ae aj be bj : Bool) → a.ended ≡ ae → a.joined ≡ aj → b.ended ≡ be → b.joined ≡ bj → lw ae aj ≡ lw be bj → (aj ≡ true → ae ≡ true) → (bj ≡ true → be ≡ true) → a ≡ b
        together true true true true h i l o w p q = kept_from a b e (h ∙ sym l) (i ∙ sym o)
        together true false true false h i l o w p q = kept_from a b e (h ∙ sym l) (i ∙ sym o)
        together true true true false h i l o w p q = absurd cc
        together true false true true h i l o w p q = absurd cc
        together true aj false bj h i l o w p q = absurd (wrong aj w)
          where
            wrong : (x : Bool) → ◌≡◌ {A = ℕ} (cond x 3 2) 1 → ⊥
            wrong true w = cc
            wrong false w = cc
        together false aj true bj h i l o w p q = absurd (wrong bj w)
          where
            wrong : (x : Bool) → ◌≡◌ {A = ℕ} 1 (cond x 3 2) → ⊥
            wrong true w = cc
            wrong false w = cc
        together false true false bj h i l o w p q = no_way (sym (p refl))
        together false false false true h i l o w p q = no_way (sym (q refl))
        together false false false false h i l o w p q = kept_from a b e (h ∙ sym l) (i ∙ sym o)

one_list : (layout : Layout) (m : List ℕ) (s t : State) (made others : List ℕ) → 0 < layout.threads → StandsFor layout m s made → StandsFor layout m t others → made ≡ others
one_list layout m s t made others pos a b = same_rising layout.threads 0 made others a.fits.rises b.fits.rises by
  where
    by : (u : ℕ) → 0 < u → u < layout.threads → has made u ≡ has others u
    by zero low top = absurd (let z : ⊥ = omega (arith, low) in z)
    by (suc u) low top =
        let words : life_in s (thread_of made (suc u)) ≡ life_in t (thread_of others (suc u)) = sym (a.tells.at (life (suc u)) (low, top)) ∙ b.tells.at (life (suc u)) (low, top) in
        sym (made_is_had layout s made u a.fits) ∙ not_same (is_made s (thread_of made (suc u))) (is_made t (thread_of others (suc u)))
        (sym (life_is_made (is_made s (thread_of made (suc u))) (thread_at s (thread_of made (suc u)))) ∙ ap (λ (x : ℕ). eqb x 0) words ∙ life_is_made (is_made t (thread_of others (suc u))) (thread_at t (thread_of others (suc u))))
        ∙ made_is_had layout t others u b.fits

one_state : (layout : Layout) (m : List ℕ) (s t : State) (made : List ℕ) → 0 < layout.threads → StandsFor layout m s made → StandsFor layout m t made → s ≡ t
one_state layout m s t made pos a b = state_same s t cells owners threads
    (thread_same layout.threads made s.holder t.holder 0 a.fits.rises (λ q e. bound_of s made s.holder q a.fits.threads a.fits.sound.holder e) (λ q e. bound_of t made t.holder q b.fits.threads b.fits.sound.holder e) (words holder tt))
    (truth_same s.over t.over (words over tt))
  where
    words : (role : Role) → IsOf layout role → said s made role ≡ said t made role
    words role is = sym (a.tells.at role is) ∙ b.tells.at role is

    cells : s.cells ≡ t.cells
    cells = same_lists s.cells t.cells (a.fits.cells ∙ sym b.fits.cells) (λ k d h. get_or_default s.cells k d 0 h ∙ words (cell k) (let z = a.fits.cells in omega (arith, z, h)) ∙ get_or_default t.cells k 0 d (let z = a.fits.cells in let y = b.fits.cells in omega (arith, z, y, h)))

    owners : s.owners ≡ t.owners
    owners = same_lists s.owners t.owners (a.fits.mutexes ∙ sym b.fits.mutexes) (λ k d h. get_or_default s.owners k d None h
        ∙ thread_same layout.threads made (owner_of s k) (owner_of t k) 0 a.fits.rises (λ q e. bound_of s made (owner_of s k) q a.fits.threads (a.fits.sound.owners k) e) (λ q e. bound_of t made (owner_of t k) q b.fits.threads (b.fits.sound.owners k) e)
        (words (owner k) (let z = a.fits.mutexes in omega (arith, z, h)))
        ∙ get_or_default t.owners k None d (let z = a.fits.mutexes in let y = b.fits.mutexes in omega (arith, z, y, h)))

    many : length s.threads ≡ length t.threads
    many = a.fits.threads ∙ sym b.fits.threads

    life_at : (r : ℕ) → r < length s.threads → life_word (thread_at s r) ≡ life_word (thread_at t r)
    life_at r h = sym (one (ltb r (length s.threads)) (lt-ltb r (length s.threads) h) (thread_at s r)) ∙ at_role r h ∙ one (ltb r (length t.threads)) (lt-ltb r (length t.threads) (omega (arith, h, many))) (thread_at t r)
      where
        one : (c : Bool) → c ≡ true → (thread : ThreadState) → cond c (life_word thread) 0 ≡ life_word thread
        one true e thread = refl
        one false e thread = no_way (sym e)

        at_role : (r : ℕ) → r < length s.threads → life_in s r ≡ life_in t r
        at_role zero h = words main_life tt
        at_role (suc r) h =
            let lt : r < length made = let z = a.fits.threads in omega (arith, h, z) in
            let is = within layout.threads 0 made r a.fits.rises lt in
            subst (λ (n : ℕ). life_in s n ≡ life_in t n) (thread_slot layout.threads made (suc r) a.fits.rises (omega (arith, lt))) (words (life (slice_index made r)) is)

    waits_at : (r : ℕ) → r < length s.threads → (thread_at s r).waits ≡ (thread_at t r).waits
    waits_at r h = number_same (thread_at s r).waits (thread_at t r).waits
        (subst (λ (n : ℕ). number_word (thread_at s n).waits ≡ number_word (thread_at t n).waits) (thread_slot layout.threads made r a.fits.rises (let z = a.fits.threads in omega (arith, z, h))) (words (wait (slot_of made r)) (slot_lt r h)))
      where
        slot_lt : (r : ℕ) → r < length s.threads → slot_of made r < layout.threads
        slot_lt zero h = pos
        slot_lt (suc r) h = (within layout.threads 0 made r a.fits.rises (let z = a.fits.threads in omega (arith, h, z))).1

    threads : s.threads ≡ t.threads
    threads = same_lists s.threads t.threads many (λ k d h. get_or_default s.threads k d fresh h
        ∙ kept_same (thread_at s k) (thread_at t k) (a.fits.sound.joins k) (b.fits.sound.joins k) (waits_at k h) (life_at k h)
        ∙ get_or_default t.threads k fresh d (omega (arith, many, h)))

pub one_pair : OnePair
one_pair layout m s t made others pos a b =
    let same : made ≡ others = one_list layout m s t made others pos a b in
    (same, one_state layout m s t others pos (subst (λ (x : List ℕ). StandsFor layout m s x) same a) b)
