-- Structured code, laid out, does what it did: both ways, for any deeds.
use Rattle.std.proofs.Common.{◌≡◌, ℕ, zero, suc, ◌+◌, ◌-◌, inl, inr, Bool, true, false, not, cond, List, [], ◌∷◌, ◌++◌, length, drop, eqb, refl, sym, ◌∙◌, ap, subst, arith}
use Rattle.std.proofs.lemmas.List.{append-nil, append_assoc, drop_all}
use Rattle.lz_flat.specs.Programs.{Expression}
use Rattle.lz_flat.specs.Instructions.{value, moved, blocked, did}
use Rattle.lz_model.specs.Actions.{Act}
use Rattle.lz_model.specs.Behaviours.{Outcome, done, exits, cut, Behaviour, picks}
use Rattle.lz_model.specs.Programs.{end_of}
use Rattle.lz_bound.specs.BoundedTraces.{Leaving, through, left, passes, caught}
use Rattle.lz_code.specs.Structured.{Deeds, Own, puts, asks, guards, instr_of, Code, nothing, own, deed, seq, branch, frame, leave, exit, holds, code_trace}
use Rattle.lz_code.specs.LaidOut.{Item, plain, head, inner, size, tails, always, unless, here, laid_out, May, stop, steps, does, last, target, Unfolds, cuts, ends, quits_at_end, quits_early, EndsWell}

-- ---- instructions
own_moves : (o : Own) (v over : ℕ) (m after : List ℕ) → did (instr_of o) v m ≡ moved over after → over ≡ 0
unfolding did
own_moves (puts to of) v over m after e = cc
own_moves (asks to) v over m after e = cc
own_moves (guards test) v over m after e = by (eqb (value test m) 0) e
  where
    by : (b : Bool) → cond b blocked (moved 0 m) ≡ moved over after → over ≡ 0
    by true e = absurd cc
    by false e = cc

always_moves : (by v over : ℕ) (m after : List ℕ) → did (always (suc by)) v m ≡ moved over after → (over ≡ by) × (after ≡ m)
unfolding did value
always_moves by v over m after e =
    let z : moved by m ≡ moved over after = ap (λ (n : ℕ). moved n m) (let y : by ≡ suc by - 1 = omega arith in y) ∙ e in (let y : by ≡ over = cc in sym y, let y : m ≡ after = cc in sym y)

always_does : (by v : ℕ) (m : List ℕ) → did (always (suc by)) v m ≡ moved by m
unfolding did value
always_does by v m = ap (λ (n : ℕ). moved n m) (let y : suc by - 1 ≡ by = omega arith in y)

unless_does : (test : Expression) (by v : ℕ) (m : List ℕ) → did (unless test (suc by)) v m ≡ moved (cond (holds test m) 0 by) m
unfolding did value
unless_does test by v m = with_test (eqb (value test m) 0)
  where
    with_test : (b : Bool) → moved (cond (eqb (cond b 1 0) 0) 0 (suc by - 1)) m ≡ moved (cond (not b) 0 by) m
    with_test true = ap (λ (n : ℕ). moved n m) (let y : suc by - 1 ≡ by = omega arith in y)
    with_test false = refl

-- as much is left out
same_drop : {A : Type 0} (a b : ℕ) (xs : List A) → a ≡ b → drop a xs ≡ drop b xs
same_drop a b xs e = ap (λ (n : ℕ). drop n xs) e

module _ {D : Type 0} where
  -- ---- what is left behind code
  tails_end : (n k : ℕ) (rest : List (Item D)) → drop (n + k) (tails n rest) ≡ drop k rest
  tails_end zero k rest = same_drop (0 + k) k rest (omega arith)
  tails_end (suc n) k rest = same_drop (suc n + k) (suc (n + k)) (inner ∷ tails n rest) (omega arith) ∙ tails_end n k rest

  tails_all : (n : ℕ) (rest : List (Item D)) → drop n (tails n rest) ≡ rest
  tails_all zero rest = refl
  tails_all (suc n) rest = tails_all n rest

  behind : (deeds : Deeds D) (code : Code D) (distance : ℕ → ℕ) (k : ℕ) (rest : List (Item D)) → drop (size deeds code + k) (laid_out deeds code distance rest) ≡ drop k rest
  behind deeds nothing distance k rest = same_drop (0 + k) k rest (omega arith)
  behind deeds (own shown o) distance k rest = same_drop (1 + k) (suc k) (plain shown (instr_of o) ∷ rest) (omega arith)
  behind deeds (deed d) distance k rest = same_drop (suc (deeds.tail d) + k) (suc (deeds.tail d + k)) (head d ∷ tails (deeds.tail d) rest) (omega arith) ∙ tails_end (deeds.tail d) k rest
  behind deeds (seq a b) distance k rest =
      ap (λ (n : ℕ). drop n (laid_out deeds (seq a b) distance rest)) (let z : size deeds a + size deeds b + k ≡ size deeds a + (size deeds b + k) = omega arith in z)
      ∙ behind deeds a (λ j. size deeds b + distance j) (size deeds b + k) (laid_out deeds b distance rest) ∙ behind deeds b distance k rest
  behind deeds (branch test a b) distance k rest =
      same_drop (suc (size deeds a + suc (size deeds b)) + k) (suc (size deeds a + suc (size deeds b + k))) (laid_out deeds (branch test a b) distance rest) (omega arith)
      ∙ behind deeds a (λ j. suc (size deeds b + distance j)) (suc (size deeds b + k)) (plain false (always (suc (size deeds b))) ∷ laid_out deeds b distance rest) ∙ behind deeds b distance k rest
  behind deeds (frame number body) distance k rest = behind deeds body (here number distance) k rest
  behind deeds (leave number) distance k rest = same_drop (1 + k) (suc k) (plain false (always (suc (distance number))) ∷ rest) (omega arith)
  behind deeds (exit w) distance k rest =
      same_drop (suc (deeds.tail (deeds.ending w) + 1) + k) (suc (deeds.tail (deeds.ending w) + suc k)) (laid_out deeds (exit w) distance rest) (omega arith)
      ∙ tails_end (deeds.tail (deeds.ending w)) (suc k) (plain false (always (suc (length rest))) ∷ rest)

  -- code may be cut at once
  opens : (deeds : Deeds D) (code : Code D) (m : List ℕ) → code_trace deeds code m [] cut
  opens deeds nothing m = record { is = refl }
  opens deeds (own shown o) m = record { is = refl }
  opens deeds (deed d) m = record { is = inl refl }
  opens deeds (seq a b) m = record { is = inl (opens deeds a m) }
  opens deeds (branch test a b) m = by (holds test m) (opens deeds a m) (opens deeds b m)
    where
      by : (c : Bool) → code_trace deeds a m [] cut → code_trace deeds b m [] cut → picks c (code_trace deeds a) (code_trace deeds b) m [] cut
      by true x y = x
      by false x y = y
  opens deeds (frame number body) m = record { is = opens deeds body m }
  opens deeds (leave number) m = record { is = refl }
  opens deeds (exit w) m = record { is = refl }

  -- where a frame's body goes on
  target_caught : (number : ℕ) (distance : ℕ → ℕ) (rest : List (Item D)) (way : Leaving) → target (here number distance) rest way ≡ target distance rest (caught number way)
  target_caught number distance rest through = refl
  target_caught number distance rest (left other) = by (eqb other number)
    where
      by : (b : Bool) → drop (cond b 0 (distance other)) rest ≡ target distance rest (cond b through (left other))
      by true = refl
      by false = refl

  -- ---- from the items to the code
  module _ (deeds : Deeds D) (well : EndsWell deeds) where
    -- what follows the first of two
    after_first : (a b : Code D) (to : Leaving → List (Item D)) (mid : Leaving → List (Item D)) (m : List ℕ) (todo : List Act)
        → ((m' : List ℕ) (more : List Act) → May deeds (mid through) m' more → Unfolds deeds (code_trace deeds b) to m' more)
        → ((number : ℕ) → mid (left number) ≡ to (left number))
        → Unfolds deeds (code_trace deeds a) mid m todo → Unfolds deeds (code_trace deeds (seq a b)) to m todo
    after_first a b to mid m todo second others (cuts h) = cuts (record { is = inl h })
    after_first a b to mid m todo second others (ends acts more (left number) after h e go) =
        ends acts more (left number) after (record { is = record { value = left number; middle = after; front = acts; rest = []; joined = sym (append-nil acts); starts = h; goes = record { is = (refl, refl, refl) } } }) e
        (subst (λ (xs : List (Item D)). May deeds xs after more) (others number) go)
    after_first a b to mid m todo second others (ends acts more through after h e go) = behind_first (second after more go)
      where
        behind_first : Unfolds deeds (code_trace deeds b) to after more → Unfolds deeds (code_trace deeds (seq a b)) to m todo
        behind_first (cuts k) = cuts (record { is = inr (record { value = through; middle = after; front = acts; rest = more; joined = e; starts = h; goes = k }) })
        behind_first (ends acts' more' way after' k f go') = ends (acts ++ acts') more' way after'
            (record { is = record { value = through; middle = after; front = acts; rest = acts'; joined = refl; starts = h; goes = k } })
            (e ∙ ap (λ (x : List Act). acts ++ x) f ∙ sym (append_assoc acts acts' more')) go'
        behind_first (quits_at_end acts' w k f) = quits_at_end (acts ++ acts') w (record { is = inr (record { value = through; middle = after; front = acts; rest = acts'; joined = refl; starts = h; goes = k }) })
            (e ∙ ap (λ (x : List Act). acts ++ x) f ∙ sym (append_assoc acts acts' (end_of w ∷ [])))
        behind_first (quits_early acts' w k f) = quits_early (acts ++ acts') w (record { is = inr (record { value = through; middle = after; front = acts; rest = acts'; joined = refl; starts = h; goes = k }) })
            (e ∙ ap (λ (x : List Act). acts ++ x) f)
    after_first a b to mid m todo second others (quits_at_end acts w h e) = quits_at_end acts w (record { is = inl h }) e
    after_first a b to mid m todo second others (quits_early acts w h e) = quits_early acts w (record { is = inl h }) e

    framed : (number : ℕ) (body : Code D) (distance : ℕ → ℕ) (rest : List (Item D)) (m : List ℕ) (todo : List Act)
        → Unfolds deeds (code_trace deeds body) (target (here number distance) rest) m todo → Unfolds deeds (code_trace deeds (frame number body)) (target distance rest) m todo
    framed number body distance rest m todo (cuts h) = cuts (record { is = h })
    framed number body distance rest m todo (ends acts more way after h e go) = ends acts more (caught number way) after (record { is = (way, h, refl) }) e
        (subst (λ (xs : List (Item D)). May deeds xs after more) (target_caught number distance rest way) go)
    framed number body distance rest m todo (quits_at_end acts w h e) = quits_at_end acts w (record { is = h }) e
    framed number body distance rest m todo (quits_early acts w h e) = quits_early acts w (record { is = h }) e

    -- the same from other code, and to where the same may be given
    recoded : (one other : Behaviour (List ℕ) Leaving) (to on : Leaving → List (Item D)) (m : List ℕ) (todo : List Act)
        → ((acts : List Act) (o : Outcome (List ℕ) Leaving) → one m acts o → other m acts o)
        → ((way : Leaving) (m' : List ℕ) (more : List Act) → May deeds (to way) m' more → May deeds (on way) m' more)
        → Unfolds deeds one to m todo → Unfolds deeds other on m todo
    recoded one other to on m todo f g (cuts h) = cuts (f todo cut h)
    recoded one other to on m todo f g (ends acts more way after h e go) = ends acts more way after (f acts (done after way) h) e (g way after more go)
    recoded one other to on m todo f g (quits_at_end acts w h e) = quits_at_end acts w (f acts (exits w) h) e
    recoded one other to on m todo f g (quits_early acts w h e) = quits_early acts w (f acts (exits w) h) e

    -- behind the first of two ways a skip leads past the second
    past_other : (b : Code D) (distance : ℕ → ℕ) (rest : List (Item D)) (way : Leaving) (m : List ℕ) (more : List Act)
        → May deeds (target (λ k. suc (size deeds b + distance k)) (plain false (always (suc (size deeds b))) ∷ laid_out deeds b distance rest) way) m more → May deeds (target distance rest way) m more
    past_other b distance rest through m [] h = stop
    past_other b distance rest through m (x ∷ more) (steps v over after lt e go) =
        let is = always_moves (size deeds b) v over m after e in
        subst (λ (n : List ℕ). May deeds rest n (x ∷ more)) is.1
        (subst (λ (xs : List (Item D)). May deeds xs after (x ∷ more)) (ap (λ (n : ℕ). drop n (laid_out deeds b distance rest)) (let z : over ≡ size deeds b + 0 = let y = is.0 in omega (arith, y) in z) ∙ behind deeds b distance 0 rest) go)
    past_other b distance rest (left number) m more h = subst (λ (xs : List (Item D)). May deeds xs m more) (behind deeds b distance (distance number) rest) h

    to_past : (b : Code D) (distance : ℕ → ℕ) (rest : List (Item D)) (way : Leaving) (m : List ℕ) (more : List Act)
        → May deeds (target distance rest way) m more → May deeds (target (λ k. suc (size deeds b + distance k)) (plain false (always (suc (size deeds b))) ∷ laid_out deeds b distance rest) way) m more
    to_past b distance rest through m more h = steps 0 (size deeds b) m (omega arith) (always_does (size deeds b) 0 m)
        (subst (λ (xs : List (Item D)). May deeds xs m more) (sym (ap (λ (n : ℕ). drop n (laid_out deeds b distance rest)) (let z : size deeds b ≡ size deeds b + 0 = omega arith in z) ∙ behind deeds b distance 0 rest)) h)
    to_past b distance rest (left number) m more h = subst (λ (xs : List (Item D)). May deeds xs m more) (sym (behind deeds b distance (distance number) rest)) h

    -- where the second of two ways begins
    at_other : (a : Code D) (distance : ℕ → ℕ) (rest : List (Item D)) (x : Item D) → drop (suc (size deeds a)) (laid_out deeds a distance (x ∷ rest)) ≡ rest
    at_other a distance rest x = ap (λ (n : ℕ). drop n (laid_out deeds a distance (x ∷ rest))) (let z : suc (size deeds a) ≡ size deeds a + 1 = omega arith in z) ∙ behind deeds a distance 1 (x ∷ rest)

    moved_is : (a b : ℕ) (m n : List ℕ) → moved a m ≡ moved b n → (a ≡ b) × (m ≡ n)
    moved_is a b m n e = (cc, cc)

    none_left : (m : List ℕ) (x : Act) (more : List Act) → May deeds [] m (x ∷ more) → ⊥
    none_left m x more h = elim h [ ]

    -- whatever the items may give the code does, and what stands behind it goes on
    pub items_unfold : (code : Code D) (distance : ℕ → ℕ) (rest : List (Item D)) (m : List ℕ) (todo : List Act)
        → May deeds (laid_out deeds code distance rest) m todo → Unfolds deeds (code_trace deeds code) (target distance rest) m todo
    items_unfold nothing distance rest m todo h = ends [] todo through m (record { is = (refl, refl, refl) }) refl h
    items_unfold (own shown o) distance rest m [] h = cuts (record { is = refl })
    items_unfold (own shown o) distance rest m (x ∷ todo) (steps v over after lt e more) =
        let none = own_moves o v over m after e in
        ends [] (x ∷ todo) through after (record { is = (refl, refl, (v, lt, subst (λ (n : ℕ). did (instr_of o) v m ≡ moved n after) none e)) }) refl
        (subst (λ (n : ℕ). May deeds (drop n rest) after (x ∷ todo)) none more)
    items_unfold (deed d) distance rest m [] h = cuts (record { is = inl refl })
    items_unfold (deed d) distance rest m (x ∷ todo) (does a after s more) =
        ends (a ∷ []) todo through after (record { is = (refl, (a, refl, s)) }) refl (subst (λ (xs : List (Item D)). May deeds xs after todo) (tails_all (deeds.tail d) rest) more)
    items_unfold (deed d) distance rest m (x ∷ []) (last a s) = cuts (record { is = inr (inr (a, refl, s)) })
    items_unfold (seq a b) distance rest m todo h =
        after_first a b (target distance rest) (target (λ k. size deeds b + distance k) (laid_out deeds b distance rest)) m todo
        (λ m' more g. items_unfold b distance rest m' more g) (λ number. behind deeds b distance (distance number) rest) (items_unfold a (λ k. size deeds b + distance k) (laid_out deeds b distance rest) m todo h)
    items_unfold (branch test a b) distance rest m [] h = cuts (opens deeds (branch test a b) m)
    items_unfold (branch test a b) distance rest m (x ∷ todo) (steps v over after lt e more) =
        let is = moved_is over (cond (holds test m) 0 (suc (size deeds a))) after m (sym e ∙ unless_does test (suc (size deeds a)) v m) in
        by (λ g. items_unfold a (λ k. suc (size deeds b + distance k)) (plain false (always (suc (size deeds b))) ∷ laid_out deeds b distance rest) m (x ∷ todo) g) (λ g. items_unfold b distance rest m (x ∷ todo) g)
        (holds test m) refl (subst (λ (n : ℕ). May deeds (drop n (laid_out deeds a (λ k. suc (size deeds b + distance k)) (plain false (always (suc (size deeds b))) ∷ laid_out deeds b distance rest))) m (x ∷ todo)) is.0
        (subst (λ (n : List ℕ). May deeds (drop over (laid_out deeds a (λ k. suc (size deeds b + distance k)) (plain false (always (suc (size deeds b))) ∷ laid_out deeds b distance rest))) n (x ∷ todo)) is.1 more))
      where
        by : (May deeds (laid_out deeds a (λ k. suc (size deeds b + distance k)) (plain false (always (suc (size deeds b))) ∷ laid_out deeds b distance rest)) m (x ∷ todo)
            → Unfolds deeds (code_trace deeds a) (target (λ k. suc (size deeds b + distance k)) (plain false (always (suc (size deeds b))) ∷ laid_out deeds b distance rest)) m (x ∷ todo))
            → (May deeds (laid_out deeds b distance rest) m (x ∷ todo) → Unfolds deeds (code_trace deeds b) (target distance rest) m (x ∷ todo))
            → (c : Bool) → holds test m ≡ c
            → May deeds (drop (cond c 0 (suc (size deeds a))) (laid_out deeds a (λ k. suc (size deeds b + distance k)) (plain false (always (suc (size deeds b))) ∷ laid_out deeds b distance rest))) m (x ∷ todo)
            → Unfolds deeds (code_trace deeds (branch test a b)) (target distance rest) m (x ∷ todo)
        by first second true c g = recoded (code_trace deeds a) (code_trace deeds (branch test a b)) (target (λ k. suc (size deeds b + distance k)) (plain false (always (suc (size deeds b))) ∷ laid_out deeds b distance rest)) (target distance rest) m (x ∷ todo)
            (λ acts o t. rw c t) (λ way n more t. past_other b distance rest way n more t) (first g)
        by first second false c g = recoded (code_trace deeds b) (code_trace deeds (branch test a b)) (target distance rest) (target distance rest) m (x ∷ todo)
            (λ acts o t. rw c t) (λ way n more t. t) (second (subst (λ (xs : List (Item D)). May deeds xs m (x ∷ todo)) (at_other a (λ k. suc (size deeds b + distance k)) (laid_out deeds b distance rest) (plain false (always (suc (size deeds b))))) g))
    items_unfold (frame number body) distance rest m todo h = framed number body distance rest m todo (items_unfold body (here number distance) rest m todo h)
    items_unfold (leave number) distance rest m [] h = cuts (record { is = refl })
    items_unfold (leave number) distance rest m (x ∷ todo) (steps v over after lt e more) =
        let is = always_moves (distance number) v over m after e in
        ends [] (x ∷ todo) (left number) after (record { is = (refl, is.1, refl) }) refl (subst (λ (n : ℕ). May deeds (drop n rest) after (x ∷ todo)) is.0 more)
    items_unfold (exit w) distance rest m [] h = cuts (record { is = refl })
    items_unfold (exit w) distance rest m (x ∷ []) (last a s) = absurd (well.never w m a s)
    items_unfold (exit w) distance rest m (x ∷ todo) (does a after s more) =
        by todo (subst (λ (xs : List (Item D)). May deeds xs after todo) (tails_all (deeds.tail (deeds.ending w)) (plain false (always (suc (length rest))) ∷ rest)) more)
      where
        none_after : (todo : List Act) → May deeds (plain false (always (suc (length rest))) ∷ rest) after todo → todo ≡ []
        none_after [] h = refl
        none_after (y ∷ ys) (steps v over n lt e h) = absurd (none_left n y ys (subst (λ (xs : List (Item D)). May deeds xs n (y ∷ ys))
            (ap (λ (k : ℕ). drop k rest) (always_moves (length rest) v over after n e).0 ∙ drop_all (length rest) rest (omega arith)) h))

        by : (todo : List Act) → May deeds (plain false (always (suc (length rest))) ∷ rest) after todo → Unfolds deeds (code_trace deeds (exit w)) (target distance rest) m (a ∷ todo)
        by todo h = quits_at_end [] w (record { is = (refl, refl) }) (rw (none_after todo h, well.is w m a after s) refl)

    -- ---- from the code to the items
    no_more : (xs : List (Item D)) (m : List ℕ) (todo : List Act) → todo ≡ [] → May deeds xs m todo
    no_more xs m todo e = subst (λ (t : List Act). May deeds xs m t) (sym e) stop

    -- and the items may give whatever it does
    pub code_unfolds : (code : Code D) (distance : ℕ → ℕ) (rest : List (Item D)) (m : List ℕ) (todo : List Act)
        → Unfolds deeds (code_trace deeds code) (target distance rest) m todo → May deeds (laid_out deeds code distance rest) m todo
    code_unfolds nothing distance rest m todo (cuts h) = no_more rest m todo h.is
    code_unfolds nothing distance rest m todo (ends acts more way after h e go) =
        let w = h.is.2 in let g : May deeds (target distance rest through) after more = subst (λ (k : Leaving). May deeds (target distance rest k) after more) w go in
        subst (λ (t : List Act). May deeds rest m t) (sym (e ∙ ap (λ (x : List Act). x ++ more) h.is.0)) (subst (λ (n : List ℕ). May deeds rest n more) h.is.1 g)
    code_unfolds nothing distance rest m todo (quits_at_end acts w h e) = absurd h.is
    code_unfolds nothing distance rest m todo (quits_early acts w h e) = absurd h.is
    code_unfolds (own shown o) distance rest m todo (cuts h) = no_more (plain shown (instr_of o) ∷ rest) m todo h.is
    code_unfolds (own shown o) distance rest m todo (ends acts more way after h e go) =
        let g : May deeds (target distance rest through) after more = subst (λ (k : Leaving). May deeds (target distance rest k) after more) h.is.1 go in
        subst (λ (t : List Act). May deeds (plain shown (instr_of o) ∷ rest) m t) (sym (e ∙ ap (λ (x : List Act). x ++ more) h.is.0)) (steps h.is.2.0 0 after h.is.2.1 h.is.2.2 g)
    code_unfolds (own shown o) distance rest m todo (quits_at_end acts w h e) = absurd h.is
    code_unfolds (own shown o) distance rest m todo (quits_early acts w h e) = absurd h.is
    code_unfolds (deed d) distance rest m todo (cuts h) = elim h.is [
      | inl n ↦ no_more (head d ∷ tails (deeds.tail d) rest) m todo n
      | inr either ↦ elim either [
        | inl k ↦ subst (λ (t : List Act). May deeds (head d ∷ tails (deeds.tail d) rest) m t) (sym k.2) (does k.0 k.1 k.3 stop)
        | inr k ↦ subst (λ (t : List Act). May deeds (head d ∷ tails (deeds.tail d) rest) m t) (sym k.1) (last k.0 k.2)
      ]
    ]
    code_unfolds (deed d) distance rest m todo (ends acts more way after h e go) =
        let g : May deeds (target distance rest through) after more = subst (λ (k : Leaving). May deeds (target distance rest k) after more) h.is.0 go in
        subst (λ (t : List Act). May deeds (head d ∷ tails (deeds.tail d) rest) m t) (sym (e ∙ ap (λ (x : List Act). x ++ more) h.is.1.1))
        (does h.is.1.0 after h.is.1.2 (subst (λ (xs : List (Item D)). May deeds xs after more) (sym (tails_all (deeds.tail d) rest)) g))
    code_unfolds (deed d) distance rest m todo (quits_at_end acts w h e) = absurd h.is
    code_unfolds (deed d) distance rest m todo (quits_early acts w h e) = absurd h.is
    code_unfolds (seq a b) distance rest m todo u = code_unfolds a (λ k. size deeds b + distance k) (laid_out deeds b distance rest) m todo (of_first u (λ n more h. code_unfolds b distance rest n more h))
      where
        mid : Leaving → List (Item D)
        mid way = target (λ k. size deeds b + distance k) (laid_out deeds b distance rest) way

        of_first : Unfolds deeds (code_trace deeds (seq a b)) (target distance rest) m todo
            → ((n : List ℕ) (more : List Act) → Unfolds deeds (code_trace deeds b) (target distance rest) n more → May deeds (laid_out deeds b distance rest) n more)
            → Unfolds deeds (code_trace deeds a) (target (λ k. size deeds b + distance k) (laid_out deeds b distance rest)) m todo
        of_first (cuts h) second = elim h.is [ inl n ↦ cuts n | inr g ↦ at_cut g.value g.middle g.front g.rest g.joined g.starts g.goes ]
          where
            at_cut : (way : Leaving) (n : List ℕ) (front more : List Act) → todo ≡ front ++ more → code_trace deeds a m front (done n way) → passes way (code_trace deeds b) n more cut
                → Unfolds deeds (code_trace deeds a) (target (λ k. size deeds b + distance k) (laid_out deeds b distance rest)) m todo
            at_cut through n front more e s g = ends front more through n s e (second n more (cuts g))
            at_cut (left number) n front more e s g = ends front more (left number) n s e (no_more (mid (left number)) n more g.is)
        of_first (ends acts more way after h e go) second = let g = h.is in at_end g.value g.middle g.front g.rest g.joined g.starts g.goes
          where
            at_end : (first : Leaving) (n : List ℕ) (front back : List Act) → acts ≡ front ++ back → code_trace deeds a m front (done n first) → passes first (code_trace deeds b) n back (done after way)
                → Unfolds deeds (code_trace deeds a) (target (λ k. size deeds b + distance k) (laid_out deeds b distance rest)) m todo
            at_end through n front back j s g = ends front (back ++ more) through n s (e ∙ ap (λ (x : List Act). x ++ more) j ∙ append_assoc front back more) (second n (back ++ more) (ends back more way after g refl go))
            at_end (left number) n front back j s g = ends front more (left number) n s
                (e ∙ ap (λ (x : List Act). x ++ more) (j ∙ ap (λ (x : List Act). front ++ x) g.is.0 ∙ append-nil front))
                (subst (λ (xs : List (Item D)). May deeds xs n more) (sym (behind deeds b distance (distance number) rest))
                (subst (λ (k : List ℕ). May deeds (drop (distance number) rest) k more) g.is.1 (subst (λ (k : Leaving). May deeds (target distance rest k) after more) g.is.2 go)))
        of_first (quits_at_end acts w h e) second = elim h.is [ inl n ↦ quits_at_end acts w n e | inr g ↦ at_exit g.value g.middle g.front g.rest g.joined g.starts g.goes ]
          where
            at_exit : (first : Leaving) (n : List ℕ) (front back : List Act) → acts ≡ front ++ back → code_trace deeds a m front (done n first) → passes first (code_trace deeds b) n back (exits w)
                → Unfolds deeds (code_trace deeds a) (target (λ k. size deeds b + distance k) (laid_out deeds b distance rest)) m todo
            at_exit through n front back j s g = ends front (back ++ end_of w ∷ []) through n s (e ∙ ap (λ (x : List Act). x ++ end_of w ∷ []) j ∙ append_assoc front back (end_of w ∷ []))
                (second n (back ++ end_of w ∷ []) (quits_at_end back w g refl))
            at_exit (left number) n front back j s g = absurd g.is
        of_first (quits_early acts w h e) second = elim h.is [ inl n ↦ quits_early acts w n e | inr g ↦ at_exit g.value g.middle g.front g.rest g.joined g.starts g.goes ]
          where
            at_exit : (first : Leaving) (n : List ℕ) (front back : List Act) → acts ≡ front ++ back → code_trace deeds a m front (done n first) → passes first (code_trace deeds b) n back (exits w)
                → Unfolds deeds (code_trace deeds a) (target (λ k. size deeds b + distance k) (laid_out deeds b distance rest)) m todo
            at_exit through n front back j s g = ends front back through n s (e ∙ j) (second n back (quits_early back w g refl))
            at_exit (left number) n front back j s g = absurd g.is
    code_unfolds (branch test a b) distance rest m todo u =
        by (λ k. code_unfolds a (λ j. suc (size deeds b + distance j)) (plain false (always (suc (size deeds b))) ∷ laid_out deeds b distance rest) m todo k) (λ k. code_unfolds b distance rest m todo k) (holds test m) refl
      where
        by : (Unfolds deeds (code_trace deeds a) (target (λ k. suc (size deeds b + distance k)) (plain false (always (suc (size deeds b))) ∷ laid_out deeds b distance rest)) m todo
            → May deeds (laid_out deeds a (λ k. suc (size deeds b + distance k)) (plain false (always (suc (size deeds b))) ∷ laid_out deeds b distance rest)) m todo)
            → (Unfolds deeds (code_trace deeds b) (target distance rest) m todo → May deeds (laid_out deeds b distance rest) m todo)
            → (c : Bool) → holds test m ≡ c → May deeds (laid_out deeds (branch test a b) distance rest) m todo
        by first second true c = steps 0 0 m (omega arith) (unless_does test (suc (size deeds a)) 0 m ∙ rw c refl)
            (first (recoded (code_trace deeds (branch test a b)) (code_trace deeds a) (target distance rest) (target (λ k. suc (size deeds b + distance k)) (plain false (always (suc (size deeds b))) ∷ laid_out deeds b distance rest)) m todo
            (λ acts o t. subst (λ (d : Bool). picks d (code_trace deeds a) (code_trace deeds b) m acts o) c t) (λ way n more t. to_past b distance rest way n more t) u))
        by first second false c = steps 0 (suc (size deeds a)) m (omega arith) (unless_does test (suc (size deeds a)) 0 m ∙ rw c refl)
            (subst (λ (xs : List (Item D)). May deeds xs m todo) (sym (at_other a (λ k. suc (size deeds b + distance k)) (laid_out deeds b distance rest) (plain false (always (suc (size deeds b))))))
            (second (recoded (code_trace deeds (branch test a b)) (code_trace deeds b) (target distance rest) (target distance rest) m todo
            (λ acts o t. subst (λ (d : Bool). picks d (code_trace deeds a) (code_trace deeds b) m acts o) c t) (λ way n more t. t) u)))
    code_unfolds (frame number body) distance rest m todo u = code_unfolds body (here number distance) rest m todo (unframed u)
      where
        unframed : Unfolds deeds (code_trace deeds (frame number body)) (target distance rest) m todo → Unfolds deeds (code_trace deeds body) (target (here number distance) rest) m todo
        unframed (cuts h) = cuts h.is
        unframed (ends acts more way after h e go) = ends acts more h.is.0 after h.is.1 e
            (subst (λ (xs : List (Item D)). May deeds xs after more) (sym (target_caught number distance rest h.is.0)) (subst (λ (k : Leaving). May deeds (target distance rest k) after more) h.is.2 go))
        unframed (quits_at_end acts w h e) = quits_at_end acts w h.is e
        unframed (quits_early acts w h e) = quits_early acts w h.is e
    code_unfolds (leave number) distance rest m todo (cuts h) = no_more (plain false (always (suc (distance number))) ∷ rest) m todo h.is
    code_unfolds (leave number) distance rest m todo (ends acts more way after h e go) =
        let g : May deeds (drop (distance number) rest) after more = subst (λ (k : Leaving). May deeds (target distance rest k) after more) h.is.2 go in
        subst (λ (t : List Act). May deeds (plain false (always (suc (distance number))) ∷ rest) m t) (sym (e ∙ ap (λ (x : List Act). x ++ more) h.is.0))
        (steps 0 (distance number) m (omega arith) (always_does (distance number) 0 m) (subst (λ (n : List ℕ). May deeds (drop (distance number) rest) n more) h.is.1 g))
    code_unfolds (leave number) distance rest m todo (quits_at_end acts w h e) = absurd h.is
    code_unfolds (leave number) distance rest m todo (quits_early acts w h e) = absurd h.is
    code_unfolds (exit whole) distance rest m todo (cuts h) = no_more (laid_out deeds (exit whole) distance rest) m todo h.is
    code_unfolds (exit whole) distance rest m todo (ends acts more way after h e go) = absurd h.is
    code_unfolds (exit whole) distance rest m todo (quits_at_end acts w h e) =
        let k = well.can whole m in
        subst (λ (t : List Act). May deeds (laid_out deeds (exit whole) distance rest) m t) (sym (e ∙ ap (λ (x : List Act). x ++ end_of w ∷ []) h.is.0 ∙ ap (λ (v : Bool). end_of v ∷ []) h.is.1))
        (does (end_of whole) k.0 k.1 stop)
    code_unfolds (exit whole) distance rest m todo (quits_early acts w h e) = no_more (laid_out deeds (exit whole) distance rest) m todo (e ∙ h.is.0)
