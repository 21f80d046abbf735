-- The next action of a thread: what it may do is nothing, or that action and what comes behind it.
use Rattle.std.proofs.Common.{◌≡◌, ℕ, suc, ◌⊎◌, inl, inr, Bool, true, false, List, [], ◌∷◌, ◌++◌, Option, Some, None, refl, sym, ◌∙◌, ap, subst}
use Rattle.lz_model.specs.declared.actions.Action.TheVariants.{Loc}
use Rattle.lz_model.specs.Actions.{Act, is_loc, Start, started_by}
use Rattle.lz_model.specs.Behaviours.{Outcome, done, exits, cut, Behaviour, ends_with, halts, leaves, updates, stays, chooses, GoesOn, ◌and_then◌}
use Rattle.lz_model.specs.CodeTraces.{Locals}
use Rattle.lz_model.specs.Programs.{end_of, EndsThread, is_cut, is_done, is_left, numbered_after, CreatesFrom}
use Rattle.lz_model.specs.WithoutLoc.{left_out, without_loc}
use Rattle.lz_model.proofs.OneRunLemmas.{without_loc-append}
use Rattle.lz_turns.specs.Seen.{Follows}
use Rattle.lz_machine.specs.Threads.{Acts}
use Rattle.lz_model.proofs.LocLemmas.{loc_starts_none}
use Rattle.lz_model.proofs.ThreadFrontsLemmas.{numbered_front}

-- ---- numbers of threads that are created, Loc left out

-- of one action, which is Loc or is not
numbers_seen : (a : Act) (rest : List Act) (next : ℕ) (b : Bool) → is_loc a.action ≡ b → numbered_after (started_by a.action) next (CreatesFrom rest) → CreatesFrom (left_out b a rest) next
numbers_seen a rest next true e h = subst (λ (o : Option Start). numbered_after o next (CreatesFrom rest)) (loc_starts_none a.action e) h
numbers_seen a rest next false e h = h

seen_numbers : (a : Act) (rest : List Act) (next : ℕ) (b : Bool) → is_loc a.action ≡ b → CreatesFrom (left_out b a rest) next → numbered_after (started_by a.action) next (CreatesFrom rest)
seen_numbers a rest next true e h = subst (λ (o : Option Start). numbered_after o next (CreatesFrom rest)) (sym (loc_starts_none a.action e)) h
seen_numbers a rest next false e h = h

numbers_there : (acts : List Act) (next : ℕ) → CreatesFrom acts next → CreatesFrom (without_loc acts) next
numbers_there [] next h = tt
numbers_there (a ∷ rest) next h =
    numbers_seen a (without_loc rest) next (is_loc a.action) refl (numbered_front (started_by a.action) next (CreatesFrom rest) (CreatesFrom (without_loc rest)) (numbers_there rest) h)

numbers_back : (acts : List Act) (next : ℕ) → CreatesFrom (without_loc acts) next → CreatesFrom acts next
numbers_back [] next h = tt
numbers_back (a ∷ rest) next h =
    numbered_front (started_by a.action) next (CreatesFrom (without_loc rest)) (CreatesFrom rest) (numbers_back rest) (seen_numbers a (without_loc rest) next (is_loc a.action) refl h)

-- ---- code that does the same

module _ {one two : Behaviour Locals ℕ} {s t : Locals} where
  -- what a thread may do whose code may do the same
  pub acts_leads : Follows one s two t → (whole : Bool) (made : ℕ) (list : List Act) → Acts one s whole made list → (list ≡ []) ⊎ Acts two t whole made list
  acts_leads f whole made list a = by a.does
    where
      same_numbers : (full : List Act) → without_loc full ≡ without_loc a.full → CreatesFrom full made
      same_numbers full e = numbers_back full made (subst (λ (x : List Act). CreatesFrom x made) (sym e) (numbers_there a.full made a.numbered))

      with_end : (front other : List Act) (end : Act) → without_loc other ≡ without_loc front → a.full ≡ front ++ end ∷ [] → without_loc (other ++ end ∷ []) ≡ without_loc a.full
      with_end front other end e k = without_loc-append other (end ∷ []) ∙ (ap (λ (x : List Act). x ++ without_loc (end ∷ [])) e ∙ (sym (without_loc-append front (end ∷ [])) ∙ sym (ap without_loc k)))

      by : EndsThread one s whole a.full → (list ≡ []) ⊎ Acts two t whole made list
      by (is_cut h) = elim (f.leads a.full cut h) [
        | inl y ↦ inr (record { full = y.full; does = is_cut y.does; numbered = same_numbers y.full y.seen; seen = y.seen ∙ a.seen })
        | inr y ↦ inl (sym a.seen ∙ y.0)
      ]
      by (is_done front after value h k) = elim (f.leads front (done after value) h) [
        | inl y ↦ let e = with_end front y.full (end_of whole) y.seen k in
            inr (record { full = y.full ++ end_of whole ∷ []; does = is_done y.full after value y.does refl; numbered = same_numbers (y.full ++ end_of whole ∷ []) e; seen = e ∙ a.seen })
        | inr y ↦ absurd cc
      ]
      by (is_left front w h k) = elim (f.leads front (exits w) h) [
        | inl y ↦ let e = with_end front y.full (end_of w) y.seen k in
            inr (record { full = y.full ++ end_of w ∷ []; does = is_left y.full w y.does refl; numbered = same_numbers (y.full ++ end_of w ∷ []) e; seen = e ∙ a.seen })
        | inr y ↦ absurd cc
      ]

-- ---- an action first

module _ (act : Act) (value : ℕ) (next : ℕ → Behaviour Locals ℕ) (s : Locals) (whole : Bool) where
  goes_on : (front : List Act) (o : Outcome Locals ℕ) → GoesOn (updates act stays value) next s front o → (rest : List Act) × (front ≡ act ∷ rest) × next value s rest o
  goes_on front o g =
      let e = g.starts.is in
      let one = subst (λ (x : Locals). next g.value x g.rest o) e.1 g.goes in
      (g.rest, g.joined ∙ ap (λ (x : List Act). x ++ g.rest) e.0, subst (λ (x : ℕ). next x s g.rest o) e.2 one)

  -- the action is at the head, and behind it nothing or what may follow
  ends_head : (full : List Act) → EndsThread (updates act stays value and_then next) s whole full → (full ≡ []) ⊎ ((rest : List Act) × (full ≡ act ∷ rest) × ((rest ≡ []) ⊎ EndsThread (next value) s whole rest))
  ends_head full (is_cut h) = elim h.is [
    | inl x ↦ elim x.is [ inl e ↦ inl e | inr e ↦ inr ([], e, inl refl) ]
    | inr g ↦ let y = goes_on full cut g in inr (y.0, y.1, inr (is_cut y.2))
  ]
  ends_head full (is_done front after w h k) =
      let y = goes_on front (done after w) h.is in
      inr (y.0 ++ end_of whole ∷ [], k ∙ ap (λ (x : List Act). x ++ end_of whole ∷ []) y.1, inr (is_done y.0 after w y.2 refl))
  ends_head full (is_left front w h k) = elim h.is [
    | inl x ↦ absurd x.is
    | inr g ↦ let y = goes_on front (exits w) g in
        inr (y.0 ++ end_of w ∷ [], k ∙ ap (λ (x : List Act). x ++ end_of w ∷ []) y.1, inr (is_left y.0 w y.2 refl))
  ]

  joins : (rest : List Act) (o : Outcome Locals ℕ) → next value s rest o → GoesOn (updates act stays value) next s (act ∷ rest) o
  joins rest o h = record { value = value; middle = s; front = act ∷ []; rest = rest; joined = refl; starts = record { is = (refl, refl, refl) }; goes = h }

  ends_back : (rest : List Act) → (rest ≡ []) ⊎ EndsThread (next value) s whole rest → EndsThread (updates act stays value and_then next) s whole (act ∷ rest)
  ends_back rest (inl e) = is_cut (record { is = inl (record { is = inr (ap (λ (x : List Act). act ∷ x) e) }) })
  ends_back rest (inr (is_cut h)) = is_cut (record { is = inr (joins rest cut h) })
  ends_back rest (inr (is_done front after w h k)) = is_done (act ∷ front) after w (record { is = joins front (done after w) h }) (ap (λ (x : List Act). act ∷ x) k)
  ends_back rest (inr (is_left front w h k)) = is_left (act ∷ front) w (record { is = inr (joins front (exits w) h) }) (ap (λ (x : List Act). act ∷ x) k)

  -- Of a thread: the action, which is not Loc, and behind it nothing or what may follow, numbered on.
  pub acts_head : is_loc act.action ≡ false → (made : ℕ) (first : Act) (list : List Act) → Acts (updates act stays value and_then next) s whole made (first ∷ list)
      → (first ≡ act) × numbered_after (started_by act.action) made (λ (k : ℕ). (list ≡ []) ⊎ Acts (next value) s whole k list)
  acts_head visible made first list a = elim (ends_head a.full a.does) [
    | inl e ↦ let bad : first ∷ list ≡ [] = sym a.seen ∙ ap without_loc e in absurd cc
    | inr y ↦
        let shown : without_loc (act ∷ y.0) ≡ act ∷ without_loc y.0 = ap (λ (b : Bool). left_out b act (without_loc y.0)) visible in
        let all : first ∷ list ≡ act ∷ without_loc y.0 = sym a.seen ∙ (ap without_loc y.1 ∙ shown) in
        let head : first ≡ act = cc in
        let tail : list ≡ without_loc y.0 = cc in
        let numbers : CreatesFrom (act ∷ y.0) made = subst (λ (x : List Act). CreatesFrom x made) y.1 a.numbered in
        (head, numbered_front (started_by act.action) made (CreatesFrom y.0) (λ (k : ℕ). (list ≡ []) ⊎ Acts (next value) s whole k list) (λ k c. behind list y.0 k tail y.2 c) numbers)
  ]
    where
      behind : (list rest : List Act) (k : ℕ) → list ≡ without_loc rest → (rest ≡ []) ⊎ EndsThread (next value) s whole rest → CreatesFrom rest k → (list ≡ []) ⊎ Acts (next value) s whole k list
      behind list rest k e (inl n) c = inl (e ∙ ap without_loc n)
      behind list rest k e (inr h) c = inr (record { full = rest; does = h; numbered = c; seen = sym e })

  pub acts_back : is_loc act.action ≡ false → (made : ℕ) (list : List Act) → numbered_after (started_by act.action) made (λ (k : ℕ). (list ≡ []) ⊎ Acts (next value) s whole k list)
      → Acts (updates act stays value and_then next) s whole made (act ∷ list)
  acts_back visible made list h = by (started_by act.action) refl h
    where
      make : (full : List Act) → without_loc full ≡ list → (full ≡ []) ⊎ EndsThread (next value) s whole full → CreatesFrom (act ∷ full) made → Acts (updates act stays value and_then next) s whole made (act ∷ list)
      make full e d c = record { full = act ∷ full; does = ends_back full d; numbered = c; seen = ap (λ (b : Bool). left_out b act (without_loc full)) visible ∙ ap (λ (x : List Act). act ∷ x) e }

      parts : (k : ℕ) → (list ≡ []) ⊎ Acts (next value) s whole k list → (full : List Act) × (without_loc full ≡ list) × ((full ≡ []) ⊎ EndsThread (next value) s whole full) × CreatesFrom full k
      parts k (inl e) = ([], sym e, inl refl, tt)
      parts k (inr a) = (a.full, a.seen, inr a.does, a.numbered)

      by : (o : Option Start) → started_by act.action ≡ o → numbered_after o made (λ (k : ℕ). (list ≡ []) ⊎ Acts (next value) s whole k list) → Acts (updates act stays value and_then next) s whole made (act ∷ list)
      by None e g = let q = parts made g in make q.0 q.1 q.2 (subst (λ (o : Option Start). numbered_after o made (CreatesFrom q.0)) (sym e) q.3)
      by (Some start) e g = let q = parts (suc made) g.1 in make q.0 q.1 q.2 (subst (λ (o : Option Start). numbered_after o made (CreatesFrom q.0)) (sym e) (g.0, q.3))

-- ---- a choice first

module _ {C : Type 0} (may : C → Type 0) (first : C → Behaviour Locals ℕ) (next : ℕ → Behaviour Locals ℕ) (s : Locals) (whole : Bool) where
  on_choice : (full : List Act) (o : Outcome Locals ℕ) → GoesOn (chooses may first) next s full o → (c : C) × may c × GoesOn (first c) next s full o
  on_choice full o g = (g.starts.value, g.starts.fits, record { value = g.value; middle = g.middle; front = g.front; rest = g.rest; joined = g.joined; starts = g.starts.is; goes = g.goes })

  off_choice : (c : C) → may c → (full : List Act) (o : Outcome Locals ℕ) → GoesOn (first c) next s full o → GoesOn (chooses may first) next s full o
  off_choice c m full o g = record { value = g.value; middle = g.middle; front = g.front; rest = g.rest; joined = g.joined; starts = record { value = c; fits = m; is = g.starts }; goes = g.goes }

  ends_choice : (full : List Act) → EndsThread (chooses may first and_then next) s whole full → (c : C) × may c × EndsThread (first c and_then next) s whole full
  ends_choice full (is_cut h) = elim h.is [
    | inl x ↦ (x.value, x.fits, is_cut (record { is = inl x.is }))
    | inr g ↦ let y = on_choice full cut g in (y.0, y.1, is_cut (record { is = inr y.2 }))
  ]
  ends_choice full (is_done front after w h k) = let y = on_choice front (done after w) h.is in (y.0, y.1, is_done front after w (record { is = y.2 }) k)
  ends_choice full (is_left front w h k) = elim h.is [
    | inl x ↦ (x.value, x.fits, is_left front w (record { is = inl x.is }) k)
    | inr g ↦ let y = on_choice front (exits w) g in (y.0, y.1, is_left front w (record { is = inr y.2 }) k)
  ]

  ends_chosen : (c : C) → may c → (full : List Act) → EndsThread (first c and_then next) s whole full → EndsThread (chooses may first and_then next) s whole full
  ends_chosen c m full (is_cut h) = elim h.is [
    | inl x ↦ is_cut (record { is = inl (record { value = c; fits = m; is = x }) })
    | inr g ↦ is_cut (record { is = inr (off_choice c m full cut g) })
  ]
  ends_chosen c m full (is_done front after w h k) = is_done front after w (record { is = off_choice c m front (done after w) h.is }) k
  ends_chosen c m full (is_left front w h k) = elim h.is [
    | inl x ↦ is_left front w (record { is = inl (record { value = c; fits = m; is = x }) }) k
    | inr g ↦ is_left front w (record { is = inr (off_choice c m front (exits w) g) }) k
  ]

  pub acts_choice : (made : ℕ) (list : List Act) → Acts (chooses may first and_then next) s whole made list → (c : C) × may c × Acts (first c and_then next) s whole made list
  acts_choice made list a = let y = ends_choice a.full a.does in (y.0, y.1, record { full = a.full; does = y.2; numbered = a.numbered; seen = a.seen })

  pub acts_chosen : (c : C) → may c → (made : ℕ) (list : List Act) → Acts (first c and_then next) s whole made list → Acts (chooses may first and_then next) s whole made list
  acts_chosen c m made list a = record { full = a.full; does = ends_chosen c m a.full a.does; numbered = a.numbered; seen = a.seen }

-- ---- ends

module _ (s : Locals) (whole : Bool) (made : ℕ) where
  -- nothing more
  pub acts_halts : (list : List Act) → Acts halts s whole made list → list ≡ []
  acts_halts list a = by a.does
    where
      by : EndsThread {S = Locals} {A = ℕ} halts s whole a.full → list ≡ []
      by (is_cut h) = sym a.seen ∙ ap without_loc h.is
      by (is_done front after w h k) = absurd h.is
      by (is_left front w h k) = absurd h.is

  -- the end of the thread, of whole code and of code that is left
  pub acts_ends : (value : ℕ) (first : Act) (list : List Act) → Acts (ends_with value) s whole made (first ∷ list) → (first ≡ end_of whole) × (list ≡ [])
  acts_ends value first list a = by a.does
    where
      all : (front : List Act) → front ≡ [] → a.full ≡ front ++ end_of whole ∷ [] → first ∷ list ≡ end_of whole ∷ []
      all front e k = sym a.seen ∙ (ap without_loc k ∙ ap (λ (x : List Act). without_loc (x ++ end_of whole ∷ [])) e)

      by : EndsThread (ends_with value) s whole a.full → (first ≡ end_of whole) × (list ≡ [])
      by (is_cut h) = let bad : first ∷ list ≡ [] = sym a.seen ∙ ap without_loc h.is in absurd cc
      by (is_done front after w h k) = let e = all front h.is.0 k in (cc, cc)
      by (is_left front w h k) = absurd h.is

  pub ends_acts : (value : ℕ) → Acts (ends_with value) s whole made (end_of whole ∷ [])
  ends_acts value = record { full = end_of whole ∷ []; does = is_done [] s value (record { is = (refl, refl, refl) }) refl; numbered = tt; seen = refl }

  pub acts_leaves : (w : Bool) (first : Act) (list : List Act) → Acts (leaves w) s whole made (first ∷ list) → (first ≡ end_of w) × (list ≡ [])
  acts_leaves w first list a = by a.does
    where
      all : (front : List Act) (u : Bool) → front ≡ [] → u ≡ w → a.full ≡ front ++ end_of u ∷ [] → first ∷ list ≡ end_of w ∷ []
      all front u e q k = sym a.seen ∙ (ap without_loc k ∙ (ap (λ (x : List Act). without_loc (x ++ end_of u ∷ [])) e ∙ ap (λ (x : Bool). end_of x ∷ []) q))

      by : EndsThread {S = Locals} {A = ℕ} (leaves w) s whole a.full → (first ≡ end_of w) × (list ≡ [])
      by (is_cut h) = let bad : first ∷ list ≡ [] = sym a.seen ∙ ap without_loc h.is in absurd cc
      by (is_done front after u h k) = absurd h.is
      by (is_left front u h k) = let e = all front u h.is.0 h.is.1 k in (cc, cc)

  pub leaves_acts : (w : Bool) → Acts (leaves w) s whole made (end_of w ∷ [])
  leaves_acts w = record { full = end_of w ∷ []; does = is_left [] w (record { is = (refl, refl) }) refl; numbered = tt; seen = refl }
