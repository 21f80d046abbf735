-- What may be done with Loc left out: each way in which code is put together keeps it.
use Rattle.std.proofs.Common.{◌≡◌, ℕ, ◌⊎◌, inl, inr, Bool, List, [], ◌∷◌, ◌++◌, refl, sym, ◌∙◌, ap, subst, append_assoc}
use Rattle.std.proofs.lemmas.List.{append-nil}
use Rattle.lz_model.specs.declared.actions.Action.TheVariants.{Loc}
use Rattle.lz_model.specs.Actions.{Act}
use Rattle.lz_model.specs.Behaviours.{Outcome, done, exits, cut, Behaviour, ends_with, halts, leaves, updates, stays, tells, chooses, GoesOn, ◌and_then◌, ◌gives◌}
use Rattle.lz_model.specs.CodeTraces.{at}
use Rattle.lz_model.specs.WithoutLoc.{without_loc}
use Rattle.lz_model.proofs.FrontsLemmas.{Fronts}
use Rattle.lz_model.proofs.OneRunLemmas.{without_loc-append}
use Rattle.lz_turns.specs.Seen.{Seen, Follows, Alike}

module _ {S A : Type 0} where
  -- what is done is found
  found : {code : Behaviour S A} {before : S} (full : List Act) (outcome : Outcome S A) → code before full outcome → Seen code before (without_loc full) outcome
  found full outcome h = inl (record { full = full; does = h; seen = refl })

  -- the same code from the same local values
  pub alike_same : {code : Behaviour S A} {before : S} → Alike code before code before
  alike_same = record { there = record { leads = λ full o h. found full o h }; back = record { leads = λ full o h. found full o h } }

  pub alike_back : {one two : Behaviour S A} {before after : S} → Alike one before two after → Alike two after one before
  alike_back a = record { there = a.back; back = a.there }

  seen_leads : {one two : Behaviour S A} {before after : S} → Follows one before two after → (acts : List Act) (o : Outcome S A) → Seen one before acts o → Seen two after acts o
  seen_leads {two} {after} f acts o (inl h) = subst (λ (x : List Act). Seen two after x o) h.seen (f.leads h.full o h.does)
  seen_leads f acts o (inr h) = inr h

  follows_follows : {one two three : Behaviour S A} {a b c : S} → Follows one a two b → Follows two b three c → Follows one a three c
  follows_follows f g = record { leads = λ full o h. seen_leads g (without_loc full) o (f.leads full o h) }

  pub alike_alike : {one two three : Behaviour S A} {a b c : S} → Alike one a two b → Alike two b three c → Alike one a three c
  alike_alike p q = record { there = follows_follows p.there q.there; back = follows_follows q.back p.back }

  -- the same code, known by an equation
  pub alike_is : (P : ℕ → Behaviour S A) (a b : ℕ) (before : S) → a ≡ b → Alike (P a) before (P b) before
  alike_is P a b before e = subst (λ (x : ℕ). Alike (P a) before (P x) before) e alike_same

module _ {S A B : Type 0} where
  goes_in : {one two : Behaviour S A} {before after : S} → Follows one before two after → (next : A → Behaviour S B) (full : List Act) (o : Outcome S B)
      → GoesOn one next before full o → (two_goes : (front rest : List Act) → GoesOn two next after (front ++ rest) o → (two and_then next) after (front ++ rest) o) → Seen (two and_then next) after (without_loc full) o
  goes_in {one} {two} {before} {after} f next full o g close = by (f.leads g.front (done g.middle g.value) g.starts)
    where
      by : Seen two after (without_loc g.front) (done g.middle g.value) → Seen (two and_then next) after (without_loc full) o
      by (inl h) = inl (record {
        full = h.full ++ g.rest;
        does = close h.full g.rest (record { value = g.value; middle = g.middle; front = h.full; rest = g.rest; joined = refl; starts = h.does; goes = g.goes });
        seen = without_loc-append h.full g.rest ∙ (ap (λ (x : List Act). x ++ without_loc g.rest) h.seen ∙ (sym (without_loc-append g.front g.rest) ∙ sym (ap without_loc g.joined)));
      })
      by (inr h) = absurd cc

  follows_then : {one two : Behaviour S A} {before after : S} → Follows one before two after → (next : A → Behaviour S B) → Follows (one and_then next) before (two and_then next) after
  follows_then {one} {two} {before} {after} f next = record { leads = of }
    where
      of : (full : List Act) (o : Outcome S B) → (one and_then next) before full o → Seen (two and_then next) after (without_loc full) o
      of full (done t v) h = goes_in f next full (done t v) h.is (λ front rest g. record { is = g })
      of full (exits w) h = elim h.is [
        | inl x ↦ elim (f.leads full (exits w) x) [ inl y ↦ inl (record { full = y.full; does = record { is = inl y.does }; seen = y.seen }) | inr y ↦ absurd cc ]
        | inr g ↦ goes_in f next full (exits w) g (λ front rest g2. record { is = inr g2 })
      ]
      of full cut h = elim h.is [
        | inl x ↦ elim (f.leads full cut x) [ inl y ↦ inl (record { full = y.full; does = record { is = inl y.does }; seen = y.seen }) | inr y ↦ inr (y.0, refl) ]
        | inr g ↦ goes_in f next full cut g (λ front rest g2. record { is = inr g2 })
      ]

  -- what goes before is alike
  pub alike_then : {one two : Behaviour S A} {before after : S} → Alike one before two after → (next : A → Behaviour S B) → Alike (one and_then next) before (two and_then next) after
  alike_then a next = record { there = follows_then a.there next; back = follows_then a.back next }

  follows_behind : {code : Behaviour S A} → Fronts code → {one two : A → Behaviour S B} → ((v : A) (s : S) → Follows (one v) s (two v) s) → (before : S) → Follows (code and_then one) before (code and_then two) before
  follows_behind {code} fronts {one} {two} f before = record { leads = of }
    where
      on : (full : List Act) (o : Outcome S B) → (g : GoesOn code one before full o) → ((acts : List Act) → GoesOn code two before acts o → (code and_then two) before acts o)
          → (o ≡ cut → code before g.front cut → (code and_then two) before g.front o) → Seen (code and_then two) before (without_loc full) o
      on full o g close stop = elim ((f g.value g.middle).leads g.rest o g.goes) [
        | inl h ↦ inl (record {
          full = g.front ++ h.full;
          does = close (g.front ++ h.full) (record { value = g.value; middle = g.middle; front = g.front; rest = h.full; joined = refl; starts = g.starts; goes = h.does });
          seen = without_loc-append g.front h.full ∙ (ap (λ (x : List Act). without_loc g.front ++ x) h.seen ∙ (sym (without_loc-append g.front g.rest) ∙ sym (ap without_loc g.joined)));
        })
        | inr h ↦ inl (record {
          full = g.front;
          does = stop h.1 (fronts.front before g.front [] (done g.middle g.value) (subst (λ (x : List Act). code before x (done g.middle g.value)) (sym (append-nil g.front)) g.starts));
          seen = sym (append-nil (without_loc g.front)) ∙ (ap (λ (x : List Act). without_loc g.front ++ x) (sym h.0) ∙ (sym (without_loc-append g.front g.rest) ∙ sym (ap without_loc g.joined)));
        })
      ]

      of : (full : List Act) (o : Outcome S B) → (code and_then one) before full o → Seen (code and_then two) before (without_loc full) o
      of full (done t v) h = on full (done t v) h.is (λ acts g. record { is = g }) (λ e c. absurd cc)
      of full (exits w) h = elim h.is [
        | inl x ↦ found full (exits w) (record { is = inl x })
        | inr g ↦ on full (exits w) g (λ acts g2. record { is = inr g2 }) (λ e c. absurd cc)
      ]
      of full cut h = elim h.is [
        | inl x ↦ found full cut (record { is = inl x })
        | inr g ↦ on full cut g (λ acts g2. record { is = inr g2 }) (λ e c. record { is = inl c })
      ]

  -- what comes behind is alike
  pub alike_behind : {code : Behaviour S A} → Fronts code → {one two : A → Behaviour S B} → ((v : A) (s : S) → Alike (one v) s (two v) s) → (before : S) → Alike (code and_then one) before (code and_then two) before
  alike_behind fronts a before = record { there = follows_behind fronts (λ v s. (a v s).there) before; back = follows_behind fronts (λ v s. (a v s).back) before }

  -- a value and no action
  pub alike_value : {value : A} {next : A → Behaviour S B} {before : S} → Alike (ends_with value and_then next) before (next value) before
  alike_value {value} {next} {before} = record { there = record { leads = of }; back = record { leads = λ full o h. inl (record { full = full; does = up full o h; seen = refl }) } }
    where
      goes_on : (full : List Act) (o : Outcome S B) → GoesOn (ends_with value) next before full o → Seen (next value) before (without_loc full) o
      goes_on full o g =
          let e = g.starts.is in
          let all : full ≡ g.rest = g.joined ∙ ap (λ (x : List Act). x ++ g.rest) e.0 in
          let one = subst (λ (x : S). next g.value x g.rest o) e.1 g.goes in
          let two = subst (λ (x : A). next x before g.rest o) e.2 one in
          found full o (subst (λ (x : List Act). next value before x o) (sym all) two)

      of : (full : List Act) (o : Outcome S B) → (ends_with value and_then next) before full o → Seen (next value) before (without_loc full) o
      of full (done t v) h = goes_on full (done t v) h.is
      of full (exits w) h = elim h.is [ inl x ↦ absurd x.is | inr g ↦ goes_on full (exits w) g ]
      of full cut h = elim h.is [ inl x ↦ inr (ap without_loc x.is, refl) | inr g ↦ goes_on full cut g ]

      joins : (full : List Act) (o : Outcome S B) → next value before full o → GoesOn (ends_with value) next before full o
      joins full o h = record { value = value; middle = before; front = []; rest = full; joined = refl; starts = record { is = (refl, refl, refl) }; goes = h }

      up : (full : List Act) (o : Outcome S B) → next value before full o → (ends_with value and_then next) before full o
      up full (done t v) h = record { is = joins full (done t v) h }
      up full (exits w) h = record { is = inr (joins full (exits w) h) }
      up full cut h = record { is = inr (joins full cut h) }

  -- nothing more, whatever would follow
  pub alike_halts : {next : A → Behaviour S B} {before : S} → Alike (halts and_then next) before halts before
  alike_halts {next} {before} = record { there = record { leads = of }; back = record { leads = back } }
    where
      of : (full : List Act) (o : Outcome S B) → (halts and_then next) before full o → Seen halts before (without_loc full) o
      of full (done t v) h = absurd h.is.starts.is
      of full (exits w) h = elim h.is [ inl x ↦ absurd x.is | inr g ↦ absurd g.starts.is ]
      of full cut h = elim h.is [ inl x ↦ inr (ap without_loc x.is, refl) | inr g ↦ absurd g.starts.is ]

      back : (full : List Act) (o : Outcome S B) → halts before full o → Seen (halts and_then next) before (without_loc full) o
      back full (done t v) h = absurd h.is
      back full (exits w) h = absurd h.is
      back full cut h = inr (ap without_loc h.is, refl)

  pub alike_leaves : (whole : Bool) (next : A → Behaviour S B) (before : S) → Alike (leaves whole and_then next) before (leaves whole) before
  alike_leaves whole next before = record { there = record { leads = of }; back = record { leads = back } }
    where
      of : (full : List Act) (o : Outcome S B) → (leaves whole and_then next) before full o → Seen (leaves whole) before (without_loc full) o
      of full (done t v) h = absurd h.is.starts.is
      of full (exits w) h = elim h.is [ inl x ↦ found full (exits w) (record { is = x.is }) | inr g ↦ absurd g.starts.is ]
      of full cut h = elim h.is [ inl x ↦ inr (ap without_loc x.is, refl) | inr g ↦ absurd g.starts.is ]

      back : (full : List Act) (o : Outcome S B) → leaves whole before full o → Seen (leaves whole and_then next) before (without_loc full) o
      back full (done t v) h = absurd h.is
      back full (exits w) h = found full (exits w) (record { is = inl (record { is = h.is }) })
      back full cut h = inr (ap without_loc h.is, refl)

  -- Loc with a change of the local values and a value: it is not seen
  pub alike_loc : (line : ℕ) (change : S → S) (value : A) (next : A → Behaviour S B) (before : S) → Alike (updates (at line Loc) change value and_then next) before (next value) (change before)
  alike_loc line change value next before = record { there = record { leads = of }; back = record { leads = λ full o h. inl (record { full = at line Loc ∷ full; does = up full o h; seen = refl }) } }
    where
      goes_on : (full : List Act) (o : Outcome S B) → GoesOn (updates (at line Loc) change value) next before full o → Seen (next value) (change before) (without_loc full) o
      goes_on full o g =
          let e = g.starts.is in
          let all : without_loc full ≡ without_loc g.rest = ap without_loc g.joined ∙ ap (λ (x : List Act). without_loc (x ++ g.rest)) e.0 in
          let one = subst (λ (x : S). next g.value x g.rest o) e.1 g.goes in
          let two = subst (λ (x : A). next x (change before) g.rest o) e.2 one in
          inl (record { full = g.rest; does = two; seen = sym all })

      short : (full : List Act) → (full ≡ []) ⊎ (full ≡ at line Loc ∷ []) → without_loc full ≡ []
      short full (inl e) = ap without_loc e
      short full (inr e) = ap without_loc e

      of : (full : List Act) (o : Outcome S B) → (updates (at line Loc) change value and_then next) before full o → Seen (next value) (change before) (without_loc full) o
      of full (done t v) h = goes_on full (done t v) h.is
      of full (exits w) h = elim h.is [ inl x ↦ absurd x.is | inr g ↦ goes_on full (exits w) g ]
      of full cut h = elim h.is [ inl x ↦ inr (short full x.is, refl) | inr g ↦ goes_on full cut g ]

      joins : (full : List Act) (o : Outcome S B) → next value (change before) full o → GoesOn (updates (at line Loc) change value) next before (at line Loc ∷ full) o
      joins full o h = record { value = value; middle = change before; front = at line Loc ∷ []; rest = full; joined = refl; starts = record { is = (refl, refl, refl) }; goes = h }

      up : (full : List Act) (o : Outcome S B) → next value (change before) full o → (updates (at line Loc) change value and_then next) before (at line Loc ∷ full) o
      up full (done t v) h = record { is = joins full (done t v) h }
      up full (exits w) h = record { is = inr (joins full (exits w) h) }
      up full cut h = record { is = inr (joins full cut h) }

  -- Loc with a value that the local values give
  pub alike_tells : (line : ℕ) (value : S → A) (next : A → Behaviour S B) (before : S) → Alike (tells (at line Loc) value and_then next) before (next (value before)) before
  alike_tells line value next before = record { there = record { leads = of }; back = record { leads = λ full o h. inl (record { full = at line Loc ∷ full; does = up full o h; seen = refl }) } }
    where
      goes_on : (full : List Act) (o : Outcome S B) → GoesOn (tells (at line Loc) value) next before full o → Seen (next (value before)) before (without_loc full) o
      goes_on full o g =
          let e = g.starts.is in
          let all : without_loc full ≡ without_loc g.rest = ap without_loc g.joined ∙ ap (λ (x : List Act). without_loc (x ++ g.rest)) e.0 in
          let one = subst (λ (x : S). next g.value x g.rest o) e.1 g.goes in
          let two = subst (λ (x : A). next x before g.rest o) e.2 one in
          inl (record { full = g.rest; does = two; seen = sym all })

      short : (full : List Act) → (full ≡ []) ⊎ (full ≡ at line Loc ∷ []) → without_loc full ≡ []
      short full (inl e) = ap without_loc e
      short full (inr e) = ap without_loc e

      of : (full : List Act) (o : Outcome S B) → (tells (at line Loc) value and_then next) before full o → Seen (next (value before)) before (without_loc full) o
      of full (done t v) h = goes_on full (done t v) h.is
      of full (exits w) h = elim h.is [ inl x ↦ absurd x.is | inr g ↦ goes_on full (exits w) g ]
      of full cut h = elim h.is [ inl x ↦ inr (short full x.is, refl) | inr g ↦ goes_on full cut g ]

      joins : (full : List Act) (o : Outcome S B) → next (value before) before full o → GoesOn (tells (at line Loc) value) next before (at line Loc ∷ full) o
      joins full o h = record { value = value before; middle = before; front = at line Loc ∷ []; rest = full; joined = refl; starts = record { is = (refl, refl, refl) }; goes = h }

      up : (full : List Act) (o : Outcome S B) → next (value before) before full o → (tells (at line Loc) value and_then next) before (at line Loc ∷ full) o
      up full (done t v) h = record { is = joins full (done t v) h }
      up full (exits w) h = record { is = inr (joins full (exits w) h) }
      up full cut h = record { is = inr (joins full cut h) }

  -- another value, and then what comes behind it
  pub alike_given : (code : Behaviour S A) (f : A → A) (next : A → Behaviour S B) (before : S) → Alike ((code gives f) and_then next) before (code and_then λ v. next (f v)) before
  alike_given code f next before = record { there = record { leads = λ full o h. found full o (of full o h) }; back = record { leads = λ full o h. found full o (up full o h) } }
    where
      goes_on : (full : List Act) (o : Outcome S B) → GoesOn (code gives f) next before full o → GoesOn code (λ v. next (f v)) before full o
      goes_on full o g =
          let e = g.starts.is in
          record { value = e.0; middle = g.middle; front = g.front; rest = g.rest; joined = g.joined; starts = e.1; goes = subst (λ (x : A). next x g.middle g.rest o) e.2 g.goes }

      of : (full : List Act) (o : Outcome S B) → ((code gives f) and_then next) before full o → (code and_then λ v. next (f v)) before full o
      of full (done t v) h = record { is = goes_on full (done t v) h.is }
      of full (exits w) h = elim h.is [ inl x ↦ record { is = inl x.is } | inr g ↦ record { is = inr (goes_on full (exits w) g) } ]
      of full cut h = elim h.is [ inl x ↦ record { is = inl x.is } | inr g ↦ record { is = inr (goes_on full cut g) } ]

      back_on : (full : List Act) (o : Outcome S B) → GoesOn code (λ v. next (f v)) before full o → GoesOn (code gives f) next before full o
      back_on full o g = record { value = f g.value; middle = g.middle; front = g.front; rest = g.rest; joined = g.joined; starts = record { is = (g.value, g.starts, refl) }; goes = g.goes }

      up : (full : List Act) (o : Outcome S B) → (code and_then λ v. next (f v)) before full o → ((code gives f) and_then next) before full o
      up full (done t v) h = record { is = back_on full (done t v) h.is }
      up full (exits w) h = elim h.is [ inl x ↦ record { is = inl (record { is = x }) } | inr g ↦ record { is = inr (back_on full (exits w) g) } ]
      up full cut h = elim h.is [ inl x ↦ record { is = inl (record { is = x }) } | inr g ↦ record { is = inr (back_on full cut g) } ]

  -- another value at the end
  pub alike_gives : {code : Behaviour S A} → Fronts code → (f : A → B) (before : S) → Alike (code gives f) before (code and_then λ v. ends_with (f v)) before
  alike_gives {code} fronts f before = record { there = record { leads = λ full o h. found full o (of full o h) }; back = record { leads = λ full o h. found full o (up full o h) } }
    where
      of : (full : List Act) (o : Outcome S B) → (code gives f) before full o → (code and_then λ v. ends_with (f v)) before full o
      of full (done t v) h = record { is = record { value = h.is.0; middle = t; front = full; rest = []; joined = sym (append-nil full); starts = h.is.1; goes = record { is = (refl, refl, h.is.2) } } }
      of full (exits w) h = record { is = inl h.is }
      of full cut h = record { is = inl h.is }

      whole : (full front rest : List Act) → full ≡ front ++ rest → rest ≡ [] → full ≡ front
      whole full front rest e k = e ∙ (ap (λ (x : List Act). front ++ x) k ∙ append-nil front)

      up : (full : List Act) (o : Outcome S B) → (code and_then λ v. ends_with (f v)) before full o → (code gives f) before full o
      up full (done t v) h =
          let g = h.is in
          let e = g.goes.is in
          let mine = subst (λ (x : S). code before g.front (done x g.value)) (sym e.1) g.starts in
          record { is = (g.value, subst (λ (x : List Act). code before x (done t g.value)) (sym (whole full g.front g.rest g.joined e.0)) mine, e.2) }
      up full (exits w) h = elim h.is [ inl x ↦ record { is = x } | inr g ↦ absurd g.goes.is ]
      up full cut h = elim h.is [
        | inl x ↦ record { is = x }
        | inr g ↦ record {
          is = subst (λ (x : List Act). code before x cut) (sym (whole full g.front g.rest g.joined g.goes.is))
              (fronts.front before g.front [] (done g.middle g.value) (subst (λ (x : List Act). code before x (done g.middle g.value)) (sym (append-nil g.front)) g.starts));
        }
      ]

module _ {S A : Type 0} where
  -- the value itself at the end
  pub alike_ends : {code : Behaviour S A} → Fronts code → (before : S) → Alike code before (code and_then λ v. ends_with v) before
  alike_ends {code} fronts before = record { there = record { leads = λ full o h. found full o (of full o h) }; back = record { leads = λ full o h. found full o (up full o h) } }
    where
      of : (full : List Act) (o : Outcome S A) → code before full o → (code and_then λ v. ends_with v) before full o
      of full (done t v) h = record { is = record { value = v; middle = t; front = full; rest = []; joined = sym (append-nil full); starts = h; goes = record { is = (refl, refl, refl) } } }
      of full (exits w) h = record { is = inl h }
      of full cut h = record { is = inl h }

      whole : (full front rest : List Act) → full ≡ front ++ rest → rest ≡ [] → full ≡ front
      whole full front rest e k = e ∙ (ap (λ (x : List Act). front ++ x) k ∙ append-nil front)

      up : (full : List Act) (o : Outcome S A) → (code and_then λ v. ends_with v) before full o → code before full o
      up full (done t v) h =
          let g = h.is in
          let e = g.goes.is in
          let mine = subst (λ (x : S). code before g.front (done x g.value)) (sym e.1) g.starts in
          let value = subst (λ (x : A). code before g.front (done t x)) (sym e.2) mine in
          subst (λ (x : List Act). code before x (done t v)) (sym (whole full g.front g.rest g.joined e.0)) value
      up full (exits w) h = elim h.is [ inl x ↦ x | inr g ↦ absurd g.goes.is ]
      up full cut h = elim h.is [
        | inl x ↦ x
        | inr g ↦ subst (λ (x : List Act). code before x cut) (sym (whole full g.front g.rest g.joined g.goes.is))
            (fronts.front before g.front [] (done g.middle g.value) (subst (λ (x : List Act). code before x (done g.middle g.value)) (sym (append-nil g.front)) g.starts))
      ]

module _ {S A B C : Type 0} where
  -- three parts
  pub alike_assoc : {one : Behaviour S A} {two : A → Behaviour S B} {three : B → Behaviour S C} {before : S} → Alike ((one and_then two) and_then three) before (one and_then λ v. two v and_then three) before
  alike_assoc {one} {two} {three} {before} = record { there = record { leads = λ full o h. found full o (of full o h) }; back = record { leads = λ full o h. found full o (up full o h) } }
    where
      inner : (full : List Act) (o : Outcome S C) → ((v : A) (s : S) (rest : List Act) → GoesOn (two v) three s rest o → (two v and_then three) s rest o) → GoesOn (one and_then two) three before full o → GoesOn one (λ v. two v and_then three) before full o
      inner full o close g =
          let h = g.starts.is in
          record {
            value = h.value;
            middle = h.middle;
            front = h.front;
            rest = h.rest ++ g.rest;
            joined = g.joined ∙ (ap (λ (x : List Act). x ++ g.rest) h.joined ∙ append_assoc h.front h.rest g.rest);
            starts = h.starts;
            goes = close h.value h.middle (h.rest ++ g.rest) (record { value = g.value; middle = g.middle; front = h.rest; rest = g.rest; joined = refl; starts = h.goes; goes = g.goes });
          }

      of : (full : List Act) (o : Outcome S C) → ((one and_then two) and_then three) before full o → (one and_then λ v. two v and_then three) before full o
      of full (done t v) h = record { is = inner full (done t v) (λ w s rest g. record { is = g }) h.is }
      of full (exits w) h = elim h.is [
        | inl x ↦ elim x.is [ inl y ↦ record { is = inl y } | inr g ↦ record { is = inr (record { value = g.value; middle = g.middle; front = g.front; rest = g.rest; joined = g.joined; starts = g.starts; goes = record { is = inl g.goes } }) } ]
        | inr g ↦ record { is = inr (inner full (exits w) (λ v s rest g2. record { is = inr g2 }) g) }
      ]
      of full cut h = elim h.is [
        | inl x ↦ elim x.is [ inl y ↦ record { is = inl y } | inr g ↦ record { is = inr (record { value = g.value; middle = g.middle; front = g.front; rest = g.rest; joined = g.joined; starts = g.starts; goes = record { is = inl g.goes } }) } ]
        | inr g ↦ record { is = inr (inner full cut (λ v s rest g2. record { is = inr g2 }) g) }
      ]

      outer : (full : List Act) (o : Outcome S C) (g : GoesOn one (λ v. two v and_then three) before full o) → GoesOn (two g.value) three g.middle g.rest o → GoesOn (one and_then two) three before full o
      outer full o g h = record {
        value = h.value;
        middle = h.middle;
        front = g.front ++ h.front;
        rest = h.rest;
        joined = g.joined ∙ (ap (λ (x : List Act). g.front ++ x) h.joined ∙ sym (append_assoc g.front h.front h.rest));
        starts = record { is = record { value = g.value; middle = g.middle; front = g.front; rest = h.front; joined = refl; starts = g.starts; goes = h.starts } };
        goes = h.goes;
      }

      up : (full : List Act) (o : Outcome S C) → (one and_then λ v. two v and_then three) before full o → ((one and_then two) and_then three) before full o
      up full (done t v) h = record { is = outer full (done t v) h.is h.is.goes.is }
      up full (exits w) h = elim h.is [
        | inl x ↦ record { is = inl (record { is = inl x }) }
        | inr g ↦ elim g.goes.is [
          | inl y ↦ record { is = inl (record { is = inr (record { value = g.value; middle = g.middle; front = g.front; rest = g.rest; joined = g.joined; starts = g.starts; goes = y }) }) }
          | inr k ↦ record { is = inr (outer full (exits w) g k) }
        ]
      ]
      up full cut h = elim h.is [
        | inl x ↦ record { is = inl (record { is = inl x }) }
        | inr g ↦ elim g.goes.is [
          | inl y ↦ record { is = inl (record { is = inr (record { value = g.value; middle = g.middle; front = g.front; rest = g.rest; joined = g.joined; starts = g.starts; goes = y }) }) }
          | inr k ↦ record { is = inr (outer full cut g k) }
        ]
      ]

  -- a choice, and what comes behind it
  pub alike_chooses : (may : C → Type 0) (next : C → Behaviour S A) (last : A → Behaviour S B) (before : S) → Alike (chooses may next and_then last) before (chooses may λ v. next v and_then last) before
  alike_chooses may next last before = record { there = record { leads = λ full o h. found full o (of full o h) }; back = record { leads = λ full o h. found full o (up full o h) } }
    where
      on : (full : List Act) (o : Outcome S B) → (g : GoesOn (chooses may next) last before full o) → GoesOn (next g.starts.value) last before full o
      on full o g = record { value = g.value; middle = g.middle; front = g.front; rest = g.rest; joined = g.joined; starts = g.starts.is; goes = g.goes }

      of : (full : List Act) (o : Outcome S B) → (chooses may next and_then last) before full o → (chooses may λ v. next v and_then last) before full o
      of full (done t v) h = record { value = h.is.starts.value; fits = h.is.starts.fits; is = record { is = on full (done t v) h.is } }
      of full (exits w) h = elim h.is [
        | inl x ↦ record { value = x.value; fits = x.fits; is = record { is = inl x.is } }
        | inr g ↦ record { value = g.starts.value; fits = g.starts.fits; is = record { is = inr (on full (exits w) g) } }
      ]
      of full cut h = elim h.is [
        | inl x ↦ record { value = x.value; fits = x.fits; is = record { is = inl x.is } }
        | inr g ↦ record { value = g.starts.value; fits = g.starts.fits; is = record { is = inr (on full cut g) } }
      ]

      off : (full : List Act) (o : Outcome S B) (v : C) → may v → GoesOn (next v) last before full o → GoesOn (chooses may next) last before full o
      off full o v m g = record { value = g.value; middle = g.middle; front = g.front; rest = g.rest; joined = g.joined; starts = record { value = v; fits = m; is = g.starts }; goes = g.goes }

      up : (full : List Act) (o : Outcome S B) → (chooses may λ v. next v and_then last) before full o → (chooses may next and_then last) before full o
      up full (done t v) h = record { is = off full (done t v) h.value h.fits h.is.is }
      up full (exits w) h = elim h.is.is [ inl x ↦ record { is = inl (record { value = h.value; fits = h.fits; is = x }) } | inr g ↦ record { is = inr (off full (exits w) h.value h.fits g) } ]
      up full cut h = elim h.is.is [ inl x ↦ record { is = inl (record { value = h.value; fits = h.fits; is = x }) } | inr g ↦ record { is = inr (off full cut h.value h.fits g) } ]

module _ {S A C : Type 0} where
  follows_choice : (may : C → Type 0) {one two : C → Behaviour S A} {before after : S} → ((v : C) → Follows (one v) before (two v) after) → Follows (chooses may one) before (chooses may two) after
  follows_choice may f = record {
    leads = λ full o h. elim ((f h.value).leads full o h.is) [
      | inl y ↦ inl (record { full = y.full; does = record { value = h.value; fits = h.fits; is = y.does }; seen = y.seen })
      | inr y ↦ inr y
    ];
  }

  -- each choice is alike
  pub alike_choice : (may : C → Type 0) {one two : C → Behaviour S A} {before after : S} → ((v : C) → Alike (one v) before (two v) after) → Alike (chooses may one) before (chooses may two) after
  alike_choice may a = record { there = follows_choice may (λ v. (a v).there); back = follows_choice may (λ v. (a v).back) }

module _ {S A B C : Type 0} where
  -- an action, whatever value is told beside it
  pub alike_renamed : (act : Act) (value : A) (name : C) (next : A → Behaviour S B) (before : S) → Alike (updates act stays value and_then next) before (updates act stays name and_then λ _. next value) before
  alike_renamed act value name next before = record { there = record { leads = λ full o h. found full o (of full o h) }; back = record { leads = λ full o h. found full o (up full o h) } }
    where
      on : (full : List Act) (o : Outcome S B) → GoesOn (updates act stays value) next before full o → GoesOn (updates act stays name) (λ _. next value) before full o
      on full o g =
          let e = g.starts.is in
          record { value = name; middle = g.middle; front = g.front; rest = g.rest; joined = g.joined; starts = record { is = (e.0, e.1, refl) }; goes = subst (λ (x : A). next x g.middle g.rest o) e.2 g.goes }

      of : (full : List Act) (o : Outcome S B) → (updates act stays value and_then next) before full o → (updates act stays name and_then λ _. next value) before full o
      of full (done t v) h = record { is = on full (done t v) h.is }
      of full (exits w) h = elim h.is [ inl x ↦ absurd x.is | inr g ↦ record { is = inr (on full (exits w) g) } ]
      of full cut h = elim h.is [ inl x ↦ record { is = inl (record { is = x.is }) } | inr g ↦ record { is = inr (on full cut g) } ]

      off : (full : List Act) (o : Outcome S B) → GoesOn (updates act stays name) (λ _. next value) before full o → GoesOn (updates act stays value) next before full o
      off full o g =
          let e = g.starts.is in
          record { value = value; middle = g.middle; front = g.front; rest = g.rest; joined = g.joined; starts = record { is = (e.0, e.1, refl) }; goes = g.goes }

      up : (full : List Act) (o : Outcome S B) → (updates act stays name and_then λ _. next value) before full o → (updates act stays value and_then next) before full o
      up full (done t v) h = record { is = off full (done t v) h.is }
      up full (exits w) h = elim h.is [ inl x ↦ absurd x.is | inr g ↦ record { is = inr (off full (exits w) g) } ]
      up full cut h = elim h.is [ inl x ↦ record { is = inl (record { is = x.is }) } | inr g ↦ record { is = inr (off full cut g) } ]
