-- Through code: the new marks lead on from where the old ones stop; clear code rests on its words alone.
use Rattle.std.proofs.Common.{◌≡◌, ◌⊎◌, ℕ, zero, suc, ◌+◌, ◌-◌, Bool, true, false, cond, List, [], ◌∷◌, ◌++◌, length, drop, eqb, refl, sym, ◌∙◌, ap, subst, arith}
use Rattle.std.proofs.Common.{inl, inr}
use Rattle.lz_flat.specs.Programs.{Instruction, sets, takes, assumes, checks, skips, MarkedInstruction}
use Rattle.lz_flat.specs.Instructions.{Did, moved, blocked, broke, value, did}
use Rattle.lz_flat.specs.FlatRuns.{Ran, went, held, breaks, ended, behind, onward, step_from}
use Rattle.lz_flat.specs.Places.{place_behind, onward_places, places_from}
use Rattle.lz_flat.specs.WellFormed.{IsMarkedSo, IsCodeOf, BeginsVisible}
use Rattle.lz_flat.proofs.LandingLemmas.{drop-next, drop-none}
use Rattle.lz_flat.specs.Naming.{InstructionNamesOnly, CodeNamesOnly, AgreeOn, AlikeDid}
use Rattle.lz_points.specs.Thinning.{far, Clear, Thinned, none, kept, taken}
use Rattle.lz_flat.specs.Naming.{Keeps, DidKeeps}
use Rattle.lz_flat.proofs.NamingLemmas.{keeps_all, keeps_then, did_keeps, did_agrees}

-- what follows where instructions lead
abbrev pub ran_then : Ran → (ℕ → List ℕ → Ran) → Ran
ran_then (went place memory) next = next place memory
ran_then held next = held
ran_then (breaks kind line) next = breaks kind line
ran_then ended next = ended

-- on from a place of this code to its next visible instruction or its end
abbrev pub settle : (ℕ → ℕ) → List MarkedInstruction → ℕ → List ℕ → Ran
settle input code place memory = onward input place (drop place code) 0 memory

behind_then : (d : Did) (f g : ℕ → List ℕ → Ran) (k : ℕ → List ℕ → Ran) → ((over : ℕ) (m : List ℕ) → f over m ≡ ran_then (g over m) k) → behind d f ≡ ran_then (behind d g) k
behind_then (moved over m) f g k h = h over m
behind_then blocked f g k h = refl
behind_then (broke kind line) f g k h = refl

-- the new marks lead to where the old ones do, and then on
pub through : (P : ℕ → Type 0) (input : ℕ → ℕ) (code part part' : List MarkedInstruction) (l over : ℕ) (m : List ℕ) → drop l code ≡ part' → Thinned P part part'
    → onward input l part' over m ≡ ran_then (onward input l part over m) (settle input code)
unfolding onward
through P input code [] [] l over m e none = let z : l + over ≡ l + over + 0 = omega arith in
    ap (λ (n : ℕ). went n m) z ∙ ap (λ (xs : List MarkedInstruction). onward input (l + over) xs 0 m) (sym (drop-none code l over e))
through P input code [] (y ∷ ys) l over m e x4 = elim x4 [ ]
through P input code (x ∷ xs) [] l over m e x5 = elim x5 [ ]
through P input code (x ∷ xs) (y ∷ ys) l (suc over) m e (kept more) = through P input code xs ys (suc l) over m (drop-next code l y ys e) more
through P input code (x ∷ xs) (y ∷ ys) l (suc over) m e (taken names on skip free more) = through P input code xs ys (suc l) over m (drop-next code l y ys e) more
through P input code (x ∷ xs) (y ∷ ys) l zero m e (kept {instr = instr} {visible = true} more) = ap (λ (zs : List MarkedInstruction). onward input l zs 0 m) (sym e)
through P input code (x ∷ xs) (y ∷ ys) l zero m e (kept {instr = instr} {visible = false} more) =
    behind_then (did instr (input l) m) (onward input (suc l) ys) (onward input (suc l) xs) (settle input code) (λ over n. through P input code xs ys (suc l) over n (drop-next code l y ys e) more)
through P input code (x ∷ xs) (y ∷ ys) l zero m e (taken {instr = instr} names on skip free more) = ap (λ (zs : List MarkedInstruction). onward input l zs 0 m) (sym e)

-- so with a step
pub step_through : (P : ℕ → Type 0) (input : ℕ → ℕ) (code part part' : List MarkedInstruction) (l : ℕ) (m : List ℕ) → drop l code ≡ part' → Thinned P part part'
    → step_from input l part' m ≡ ran_then (step_from input l part m) (settle input code)
step_through P input code [] [] l m e none = refl
step_through P input code [] (y ∷ ys) l m e x4 = elim x4 [ ]
step_through P input code (x ∷ xs) [] l m e x5 = elim x5 [ ]
step_through P input code (x ∷ xs) (y ∷ ys) l m e (kept {instr = instr} more) =
    behind_then (did instr (input l) m) (onward input (suc l) ys) (onward input (suc l) xs) (settle input code) (λ over n. through P input code xs ys (suc l) over n (drop-next code l y ys e) more)
step_through P input code (x ∷ xs) (y ∷ ys) l m e (taken {instr = instr} names on skip free more) =
    behind_then (did instr (input l) m) (onward input (suc l) ys) (onward input (suc l) xs) (settle input code) (λ over n. through P input code xs ys (suc l) over n (drop-next code l y ys e) more)

-- what is left of thinned code is thinned
pub thinned_drop : {P : ℕ → Type 0} {xs ys : List MarkedInstruction} (l : ℕ) → Thinned P xs ys → Thinned P (drop l xs) (drop l ys)
thinned_drop zero h = h
thinned_drop (suc l) none = none
thinned_drop (suc l) (kept more) = thinned_drop l more
thinned_drop (suc l) (taken names on skip free more) = thinned_drop l more

-- what was clear is clear with the new marks
pub still_clear : (P : ℕ → Type 0) (xs ys : List MarkedInstruction) (over : ℕ) → Thinned P xs ys → Clear P xs over → Clear P ys over
unfolding Clear
still_clear P [] [] over none h = tt
still_clear P [] (y ∷ ys) over x4 h = elim x4 [ ]
still_clear P (x ∷ xs) [] over x5 h = elim x5 [ ]
still_clear P (x ∷ xs) (y ∷ ys) (suc over) (kept more) h = still_clear P xs ys over more h
still_clear P (x ∷ xs) (y ∷ ys) (suc over) (taken names on skip free more) h = still_clear P xs ys over more h
still_clear P (x ∷ xs) (y ∷ ys) zero (kept more) (inl v) = inl v
still_clear P (x ∷ xs) (y ∷ ys) zero (kept {instr = instr} more) (inr h) = inr (h.0, still_clear P xs ys 0 more h.1, still_clear P xs ys (far instr) more h.2)
still_clear P (x ∷ xs) (y ∷ ys) zero (taken {instr = instr} names on skip free more) h = inr (names, still_clear P xs ys 0 more on, still_clear P xs ys (far instr) more skip)

-- where the old marks let a thread stand, the code is clear with the new ones
pub clear_at : (P : ℕ → Type 0) (xs ys : List MarkedInstruction) → Thinned P xs ys → BeginsVisible xs → Clear P ys 0
unfolding Clear
clear_at P [] [] none v = tt
clear_at P [] (y ∷ ys) x4 v = elim x4 [ ]
clear_at P (x ∷ xs) [] x5 v = elim x5 [ ]
clear_at P (x ∷ xs) (y ∷ ys) (kept more) v = inl v
clear_at P (x ∷ xs) (y ∷ ys) (taken {instr = instr} names on skip free more) v = inr (names, still_clear P xs ys 0 more on, still_clear P xs ys (far instr) more skip)

-- code that names only these words is clear anywhere
pub names_clear : (P : ℕ → Type 0) (xs : List MarkedInstruction) (over : ℕ) → CodeNamesOnly P xs → Clear P xs over
unfolding Clear
names_clear P [] over h = tt
names_clear P (x ∷ xs) (suc over) h = names_clear P xs over h.1
names_clear P (x ∷ xs) zero h = inr (h.0, names_clear P xs 0 h.1, names_clear P xs (far x.instr) h.1)

-- how far an instruction moves
goes : (P : ℕ → Type 0) (i : Instruction) (xs : List MarkedInstruction) (v : ℕ) (m : List ℕ) (over : ℕ) (n : List ℕ) → did i v m ≡ moved over n → Clear P xs 0 → Clear P xs (far i) → Clear P xs over
unfolding did
goes P (sets to of) xs v m over n e a b = let z : over ≡ 0 = cc in subst (Clear P xs) (sym z) a
goes P (takes to) xs v m over n e a b = let z : over ≡ 0 = cc in subst (Clear P xs) (sym z) a
goes P (assumes test) xs v m over n e a b = let z = by (eqb (value test m) 0) e in subst (Clear P xs) (sym z) a
  where
    by : (c : Bool) → cond c blocked (moved 0 m) ≡ moved over n → over ≡ 0
    by true h = absurd cc
    by false h = cc
goes P (checks test kind line) xs v m over n e a b = let z = by (eqb (value test m) 0) e in subst (Clear P xs) (sym z) a
  where
    by : (c : Bool) → cond c (broke kind line) (moved 0 m) ≡ moved over n → over ≡ 0
    by true h = absurd cc
    by false h = cc
goes P (skips test by) xs v m over n e a b = choose_ (eqb (value test m) 0) (let z : cond (eqb (value test m) 0) 0 (by - 1) ≡ over = cc in z)
  where
    choose_ : (c : Bool) → cond c 0 (by - 1) ≡ over → Clear P xs over
    choose_ true h = subst (Clear P xs) h a
    choose_ false h = subst (Clear P xs) h b

-- ---- clear code rests on its words, and changes no other

abbrev pub AlikeRan : (ℕ → Type 0) → Ran → Ran → Type 0
AlikeRan P (went place m) (went place' n) = (place' ≡ place) × AgreeOn P m n
AlikeRan P (went place m) held = ⊥
AlikeRan P (went place m) (breaks kind line) = ⊥
AlikeRan P (went place m) ended = ⊥
AlikeRan P held (went place n) = ⊥
AlikeRan P held held = Unit
AlikeRan P held (breaks kind line) = ⊥
AlikeRan P held ended = ⊥
AlikeRan P (breaks kind line) (went place n) = ⊥
AlikeRan P (breaks kind line) held = ⊥
AlikeRan P (breaks kind line) (breaks kind' line') = (kind' ≡ kind) × (line' ≡ line)
AlikeRan P (breaks kind line) ended = ⊥
AlikeRan P ended (went place n) = ⊥
AlikeRan P ended held = ⊥
AlikeRan P ended (breaks kind line) = ⊥
AlikeRan P ended ended = Unit

abbrev pub KeepsRan : (ℕ → Type 0) → List ℕ → Ran → Type 0
KeepsRan P m (went place n) = Keeps P m n
KeepsRan P m held = Unit
KeepsRan P m (breaks kind line) = Unit
KeepsRan P m ended = Unit

keeps_later : (P : ℕ → Type 0) (l m : List ℕ) (r : Ran) → Keeps P l m → KeepsRan P m r → KeepsRan P l r
keeps_later P l m (went place n) a b = keeps_then a b
keeps_later P l m held a b = tt
keeps_later P l m (breaks kind line) a b = tt
keeps_later P l m ended a b = tt

-- an instruction and what follows it, in a memory
turn_keeps : (P : ℕ → Type 0) (d : Did) (f : ℕ → List ℕ → Ran) (m : List ℕ) → DidKeeps P m d → ((over : ℕ) (n : List ℕ) → d ≡ moved over n → KeepsRan P n (f over n)) → KeepsRan P m (behind d f)
turn_keeps P (moved over n) f m k h = keeps_later P m n (f over n) k (h over n refl)
turn_keeps P blocked f m k h = tt
turn_keeps P (broke kind line) f m k h = tt

turn_agrees : (P : ℕ → Type 0) (d e : Did) (f : ℕ → List ℕ → Ran) (m m' : List ℕ) → AlikeDid P d e → DidKeeps P m d → DidKeeps P m' e → length m ≡ length m'
    → ((over : ℕ) (n n' : List ℕ) → d ≡ moved over n → length n ≡ length n' → AgreeOn P n n' → AlikeRan P (f over n) (f over n')) → AlikeRan P (behind d f) (behind e f)
turn_agrees P (moved over n) (moved over' n') f m m' a k k' s h =
    subst (λ (o : ℕ). AlikeRan P (f over n) (f o n')) (sym a.0) (h over n n' refl (k.size ∙ s ∙ sym k'.size) a.1)
turn_agrees P (moved over n) blocked f m m' a k k' s h = absurd a
turn_agrees P (moved over n) (broke kind line) f m m' a k k' s h = absurd a
turn_agrees P blocked (moved over' n') f m m' a k k' s h = absurd a
turn_agrees P blocked blocked f m m' a k k' s h = tt
turn_agrees P blocked (broke kind line) f m m' a k k' s h = absurd a
turn_agrees P (broke kind line) (moved over' n') f m m' a k k' s h = absurd a
turn_agrees P (broke kind line) blocked f m m' a k k' s h = absurd a
turn_agrees P (broke kind line) (broke kind' line') f m m' a k k' s h = a

pub clear_keeps : (P : ℕ → Type 0) (input : ℕ → ℕ) (l : ℕ) (xs : List MarkedInstruction) (over : ℕ) (m : List ℕ) → Clear P xs over → KeepsRan P m (onward input l xs over m)
unfolding onward Clear
clear_keeps P input l [] over m h = keeps_all P m
clear_keeps P input l (x ∷ xs) (suc over) m h = clear_keeps P input (suc l) xs over m h
clear_keeps P input l (x ∷ xs) zero m h = by x.visible refl h (λ over n c. clear_keeps P input (suc l) xs over n c)
  where
    by : (b : Bool) → x.visible ≡ b → (x.visible ≡ true) ⊎ (InstructionNamesOnly P x.instr × Clear P xs 0 × Clear P xs (far x.instr)) → ((over : ℕ) (n : List ℕ) → Clear P xs over → KeepsRan P n (onward input (suc l) xs over n)) → KeepsRan P m (cond b (went l m) (behind (did x.instr (input l) m) (onward input (suc l) xs)))
    by true e h again = keeps_all P m
    by false e (inl v) again = absurd cc
    by false e (inr h) again = turn_keeps P (did x.instr (input l) m) (onward input (suc l) xs) m (did_keeps P x.instr (input l) m h.0) (λ over n e. again over n (goes P x.instr xs (input l) m over n e h.1 h.2))

pub clear_agrees : (P : ℕ → Type 0) (input : ℕ → ℕ) (l : ℕ) (xs : List MarkedInstruction) (over : ℕ) (m m' : List ℕ) → length m ≡ length m' → Clear P xs over → AgreeOn P m m'
    → AlikeRan P (onward input l xs over m) (onward input l xs over m')
unfolding onward Clear
clear_agrees P input l [] over m m' s h a = (refl, a)
clear_agrees P input l (x ∷ xs) (suc over) m m' s h a = clear_agrees P input (suc l) xs over m m' s h a
clear_agrees P input l (x ∷ xs) zero m m' s h a = by x.visible refl h (λ over n n' s c a. clear_agrees P input (suc l) xs over n n' s c a)
  where
    by : (b : Bool) → x.visible ≡ b → (x.visible ≡ true) ⊎ (InstructionNamesOnly P x.instr × Clear P xs 0 × Clear P xs (far x.instr))
        → ((over : ℕ) (n n' : List ℕ) → length n ≡ length n' → Clear P xs over → AgreeOn P n n' → AlikeRan P (onward input (suc l) xs over n) (onward input (suc l) xs over n'))
        → AlikeRan P (cond b (went l m) (behind (did x.instr (input l) m) (onward input (suc l) xs))) (cond b (went l m') (behind (did x.instr (input l) m') (onward input (suc l) xs)))
    by true e h again = (refl, a)
    by false e (inl v) again = absurd cc
    by false e (inr h) again = turn_agrees P (did x.instr (input l) m) (did x.instr (input l) m') (onward input (suc l) xs) m m' (did_agrees P x.instr (input l) m m' s h.0 a)
        (did_keeps P x.instr (input l) m h.0) (did_keeps P x.instr (input l) m' h.0) s (λ over n n' e s a. again over n n' s (goes P x.instr xs (input l) m over n e h.1 h.2) a)

-- so with a step of code that names only these words
pub step_keeps : (P : ℕ → Type 0) (input : ℕ → ℕ) (l : ℕ) (xs : List MarkedInstruction) (m : List ℕ) → CodeNamesOnly P xs → KeepsRan P m (step_from input l xs m)
step_keeps P input l [] m h = tt
step_keeps P input l (x ∷ xs) m h = turn_keeps P (did x.instr (input l) m) (onward input (suc l) xs) m (did_keeps P x.instr (input l) m h.0) (λ over n e. clear_keeps P input (suc l) xs over n (names_clear P xs over h.1))

pub step_agrees : (P : ℕ → Type 0) (input : ℕ → ℕ) (l : ℕ) (xs : List MarkedInstruction) (m m' : List ℕ) → length m ≡ length m' → CodeNamesOnly P xs → AgreeOn P m m' → AlikeRan P (step_from input l xs m) (step_from input l xs m')
step_agrees P input l [] m m' s h a = tt
step_agrees P input l (x ∷ xs) m m' s h a =
    turn_agrees P (did x.instr (input l) m) (did x.instr (input l) m') (onward input (suc l) xs) m m' (did_agrees P x.instr (input l) m m' s h.0 a)
    (did_keeps P x.instr (input l) m h.0) (did_keeps P x.instr (input l) m' h.0) s (λ over n n' e s a. clear_agrees P input (suc l) xs over n n' s (names_clear P xs over h.1) a)

-- ---- no assumption is met on the way

behind_not_held : (i : Instruction) (v : ℕ) (m : List ℕ) (f : ℕ → List ℕ → Ran) → IsMarkedSo i false → ((over : ℕ) (k : List ℕ) → f over k ≡ held → ⊥) → behind (did i v m) f ≡ held → ⊥
unfolding did
behind_not_held (sets to of) v m f is h e = h 0 _ e
behind_not_held (takes to) v m f is h e = h 0 _ e
behind_not_held (assumes test) v m f is h e = absurd cc
behind_not_held (checks test kind line) v m f is h e = test_ (eqb (value test m) 0) e
  where
    test_ : (b : Bool) → behind (cond b (broke kind line) (moved 0 m)) f ≡ held → ⊥
    test_ true e = cc
    test_ false e = h 0 m e
behind_not_held (skips test by) v m f is h e = h _ m e

pub never_held : (n : ℕ) (input : ℕ → ℕ) (l : ℕ) (xs : List MarkedInstruction) (over : ℕ) (m : List ℕ) → IsCodeOf n xs → onward input l xs over m ≡ held → ⊥
unfolding onward
never_held n input l [] over m is e = cc
never_held n input l (x ∷ xs) (suc over) m is e = never_held n input (suc l) xs over m is.3 e
never_held n input l (x ∷ xs) zero m is e = by x.visible refl e (λ over k. never_held n input (suc l) xs over k is.3)
  where
    by : (b : Bool) → x.visible ≡ b → cond b (went l m) (behind (did x.instr (input l) m) (onward input (suc l) xs)) ≡ held → ((over : ℕ) (k : List ℕ) → onward input (suc l) xs over k ≡ held → ⊥) → ⊥
    by true v e h = cc
    by false v e h = behind_not_held x.instr (input l) m (onward input (suc l) xs) (subst (IsMarkedSo x.instr) v is.1) h e

-- ---- which places run

-- the places that run on where a step or code leads
abbrev pub places_then : Ran → (ℕ → List ℕ → List ℕ) → List ℕ
places_then (went place memory) next = next place memory
places_then held next = []
places_then (breaks kind line) next = []
places_then ended next = []

-- the places that run on from a place of this code to its next visible instruction or its end
abbrev pub settle_places : (ℕ → ℕ) → List MarkedInstruction → ℕ → List ℕ → List ℕ
settle_places input code place memory = onward_places input place (drop place code) 0 memory

behind_places : (l : ℕ) (d : Did) (f g : ℕ → List ℕ → List ℕ) (r : ℕ → List ℕ → Ran) (k : ℕ → List ℕ → List ℕ) → ((over : ℕ) (m : List ℕ) → f over m ≡ g over m ++ places_then (r over m) k)
    → place_behind l d f ≡ place_behind l d g ++ places_then (behind d r) k
behind_places l (moved over m) f g r k h = ap (λ (xs : List ℕ). l ∷ xs) (h over m)
behind_places l blocked f g r k h = refl
behind_places l (broke kind line) f g r k h = refl

-- with the new marks the places are those with the old ones, and then those that run on
places_through : (P : ℕ → Type 0) (input : ℕ → ℕ) (code part part' : List MarkedInstruction) (l over : ℕ) (m : List ℕ) → drop l code ≡ part' → Thinned P part part'
    → onward_places input l part' over m ≡ onward_places input l part over m ++ places_then (onward input l part over m) (settle_places input code)
unfolding onward onward_places
places_through P input code [] [] l over m e none = ap (λ (xs : List MarkedInstruction). onward_places input (l + over) xs 0 m) (sym (drop-none code l over e))
places_through P input code [] (y ∷ ys) l over m e x4 = elim x4 [ ]
places_through P input code (x ∷ xs) [] l over m e x5 = elim x5 [ ]
places_through P input code (x ∷ xs) (y ∷ ys) l (suc over) m e (kept more) = places_through P input code xs ys (suc l) over m (drop-next code l y ys e) more
places_through P input code (x ∷ xs) (y ∷ ys) l (suc over) m e (taken names on skip free more) = places_through P input code xs ys (suc l) over m (drop-next code l y ys e) more
places_through P input code (x ∷ xs) (y ∷ ys) l zero m e (kept {instr = instr} {visible = true} more) = ap (λ (zs : List MarkedInstruction). onward_places input l zs 0 m) (sym e)
places_through P input code (x ∷ xs) (y ∷ ys) l zero m e (kept {instr = instr} {visible = false} more) =
    behind_places l (did instr (input l) m) (onward_places input (suc l) ys) (onward_places input (suc l) xs) (onward input (suc l) xs) (settle_places input code)
    (λ over n. places_through P input code xs ys (suc l) over n (drop-next code l y ys e) more)
places_through P input code (x ∷ xs) (y ∷ ys) l zero m e (taken {instr = instr} names on skip free more) = ap (λ (zs : List MarkedInstruction). onward_places input l zs 0 m) (sym e)

-- so with a step
pub step_places : (P : ℕ → Type 0) (input : ℕ → ℕ) (code part part' : List MarkedInstruction) (l : ℕ) (m : List ℕ) → drop l code ≡ part' → Thinned P part part'
    → places_from input l part' m ≡ places_from input l part m ++ places_then (step_from input l part m) (settle_places input code)
step_places P input code [] [] l m e none = refl
step_places P input code [] (y ∷ ys) l m e x4 = elim x4 [ ]
step_places P input code (x ∷ xs) [] l m e x5 = elim x5 [ ]
step_places P input code (x ∷ xs) (y ∷ ys) l m e (kept {instr = instr} more) =
    behind_places l (did instr (input l) m) (onward_places input (suc l) ys) (onward_places input (suc l) xs) (onward input (suc l) xs) (settle_places input code)
    (λ over n. places_through P input code xs ys (suc l) over n (drop-next code l y ys e) more)
step_places P input code (x ∷ xs) (y ∷ ys) l m e (taken {instr = instr} names on skip free more) =
    behind_places l (did instr (input l) m) (onward_places input (suc l) ys) (onward_places input (suc l) xs) (onward input (suc l) xs) (settle_places input code)
    (λ over n. places_through P input code xs ys (suc l) over n (drop-next code l y ys e) more)
