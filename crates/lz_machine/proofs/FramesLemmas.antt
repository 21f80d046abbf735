-- How calls that are under way go on, one inside the other, with Loc left out.
use Rattle.std.proofs.Common.{◌≡◌, ℕ, inl, inr, Bool, List, refl, sym, ◌∙◌, ap, subst}
use Rattle.lz_model.specs.Actions.{Act}
use Rattle.lz_model.specs.Behaviours.{Outcome, done, exits, cut, Behaviour, ends_with, halts, leaves, updates, stays, chooses, ◌and_then◌, ◌gives◌}
use Rattle.lz_model.specs.CodeTraces.{Locals, entered, came_back, in_frame}
use Rattle.lz_model.specs.WithoutLoc.{without_loc}
use Rattle.lz_turns.specs.Seen.{Seen, Follows, Alike}

-- ---- the ways in which code is put together

module _ {S A : Type 0} where
  found : {code : Behaviour S A} {before : S} (full : List Act) (outcome : Outcome S A) → code before full outcome → Seen code before (without_loc full) outcome
  found full outcome h = inl (record { full = full; does = h; seen = refl })

  -- both do the same
  pub alike_exact : {one two : Behaviour S A} {s t : S} → ((full : List Act) (o : Outcome S A) → one s full o → two t full o) → ((full : List Act) (o : Outcome S A) → two t full o → one s full o) → Alike one s two t
  alike_exact f g = record { there = record { leads = λ full o h. found full o (f full o h) }; back = record { leads = λ full o h. found full o (g full o h) } }

module _ {S A B : Type 0} where
  follows_under : {one two : Behaviour S A} {s t : S} → Follows one s two t → (f : A → B) → Follows (one gives f) s (two gives f) t
  follows_under {one} {two} {s} {t} a f = record { leads = of }
    where
      of : (full : List Act) (o : Outcome S B) → (one gives f) s full o → Seen (two gives f) t (without_loc full) o
      of full (done u v) h = elim (a.leads full (done u h.is.0) h.is.1) [
        | inl y ↦ inl (record { full = y.full; does = record { is = (h.is.0, y.does, h.is.2) }; seen = y.seen })
        | inr y ↦ absurd cc
      ]
      of full (exits w) h = elim (a.leads full (exits w) h.is) [ inl y ↦ inl (record { full = y.full; does = record { is = y.does }; seen = y.seen }) | inr y ↦ absurd cc ]
      of full cut h = elim (a.leads full cut h.is) [ inl y ↦ inl (record { full = y.full; does = record { is = y.does }; seen = y.seen }) | inr y ↦ inr (y.0, refl) ]

  -- with another value where both are done
  pub alike_under : {one two : Behaviour S A} {s t : S} → Alike one s two t → (f : A → B) → Alike (one gives f) s (two gives f) t
  alike_under a f = record { there = follows_under a.there f; back = follows_under a.back f }

-- ---- frames

-- local values outside all calls
abbrev pub beyond : (ℕ → ℕ) → Locals
beyond handles = record { frame = λ local. 0; handles = handles }

module _ {A : Type 0} where
  follows_frame : {one two : Behaviour Locals A} (values others : List ℕ) (h k : ℕ → ℕ) → Follows one (entered values (beyond h)) two (entered others (beyond k)) → Follows (in_frame values one) (beyond h) (in_frame others two) (beyond k)
  follows_frame {one} {two} values others h k a = record { leads = of }
    where
      of : (full : List Act) (o : Outcome Locals A) → in_frame values one (beyond h) full o → Seen (in_frame others two) (beyond k) (without_loc full) o
      of full (done u v) x = elim (a.leads full (done x.is.0 v) x.is.1) [
        | inl y ↦ inl (record { full = y.full; does = record { is = (x.is.0, y.does, x.is.2) }; seen = y.seen })
        | inr y ↦ absurd cc
      ]
      of full (exits w) x = elim (a.leads full (exits w) x.is) [ inl y ↦ inl (record { full = y.full; does = record { is = y.does }; seen = y.seen }) | inr y ↦ absurd cc ]
      of full cut x = elim (a.leads full cut x.is) [ inl y ↦ inl (record { full = y.full; does = record { is = y.does }; seen = y.seen }) | inr y ↦ inr (y.0, refl) ]

  -- the same code in a frame
  pub alike_frame : {one two : Behaviour Locals A} (values others : List ℕ) (h k : ℕ → ℕ) → Alike one (entered values (beyond h)) two (entered others (beyond k)) → Alike (in_frame values one) (beyond h) (in_frame others two) (beyond k)
  alike_frame values others h k a = record { there = follows_frame values others h k a.there; back = follows_frame others values k h a.back }

module _ {A B : Type 0} where
  -- a call that is done
  pub frame_value : (values : List ℕ) (a : A) (g : A → B) (h : ℕ → ℕ) → Alike (in_frame values (ends_with a gives g)) (beyond h) (ends_with (g a)) (beyond h)
  frame_value values a g h = alike_exact of up
    where
      of : (full : List Act) (o : Outcome Locals B) → in_frame values (ends_with a gives g) (beyond h) full o → ends_with (g a) (beyond h) full o
      of full (done u v) x =
          let y = x.is.1.is in
          let e = y.1.is in
          record { is = (e.0, x.is.2 ∙ ap (came_back (beyond h)) e.1, y.2 ∙ ap g e.2) }
      of full (exits w) x = absurd x.is.is.is
      of full cut x = record { is = x.is.is.is }

      up : (full : List Act) (o : Outcome Locals B) → ends_with (g a) (beyond h) full o → in_frame values (ends_with a gives g) (beyond h) full o
      up full (done u v) x = record { is = (entered values (beyond h), record { is = (a, record { is = (x.is.0, refl, refl) }, x.is.2) }, x.is.1) }
      up full (exits w) x = absurd x.is
      up full cut x = record { is = record { is = record { is = x.is } } }

  -- and one behind which nothing comes
  pub frame_halts : (values : List ℕ) (g : A → B) (s t : Locals) → Alike (in_frame values (halts gives g)) s halts t
  frame_halts values g s t = alike_exact of up
    where
      of : (full : List Act) (o : Outcome Locals B) → in_frame values (halts gives g) s full o → halts t full o
      of full (done u v) x = absurd x.is.1.is.1.is
      of full (exits w) x = absurd x.is.is.is
      of full cut x = record { is = x.is.is.is }

      up : (full : List Act) (o : Outcome Locals B) → halts t full o → in_frame values (halts gives g) s full o
      up full (done u v) x = absurd x.is
      up full (exits w) x = absurd x.is
      up full cut x = record { is = record { is = record { is = x.is } } }

  pub frame_leaves : (values : List ℕ) (whole : Bool) (g : A → B) (s t : Locals) → Alike (in_frame values (leaves whole gives g)) s (leaves whole) t
  frame_leaves values whole g s t = alike_exact of up
    where
      of : (full : List Act) (o : Outcome Locals B) → in_frame values (leaves whole gives g) s full o → leaves whole t full o
      of full (done u v) x = absurd x.is.1.is.1.is
      of full (exits w) x = record { is = x.is.is.is }
      of full cut x = record { is = x.is.is.is }

      up : (full : List Act) (o : Outcome Locals B) → leaves whole t full o → in_frame values (leaves whole gives g) s full o
      up full (done u v) x = absurd x.is
      up full (exits w) x = record { is = record { is = record { is = x.is } } }
      up full cut x = record { is = record { is = record { is = x.is } } }

-- Code that neither looks at the locals of a call nor changes them.
pub record Beside {A : Type 0} (code : Behaviour Locals A) : Type 0 where
  pub done_out : (values : List ℕ) (h : ℕ → ℕ) (full : List Act) (t : Locals) (v : A) → code (entered values (beyond h)) full (done t v) → code (beyond h) full (done (beyond t.handles) v) × (t ≡ entered values (beyond t.handles))
  pub done_in : (values : List ℕ) (h : ℕ → ℕ) (full : List Act) (t : Locals) (v : A) → code (beyond h) full (done t v) → code (entered values (beyond h)) full (done (entered values t) v) × (t ≡ beyond t.handles)
  pub exits_out : (values : List ℕ) (h : ℕ → ℕ) (full : List Act) (w : Bool) → code (entered values (beyond h)) full (exits w) → code (beyond h) full (exits w)
  pub exits_in : (values : List ℕ) (h : ℕ → ℕ) (full : List Act) (w : Bool) → code (beyond h) full (exits w) → code (entered values (beyond h)) full (exits w)
  pub cut_out : (values : List ℕ) (h : ℕ → ℕ) (full : List Act) → code (entered values (beyond h)) full cut → code (beyond h) full cut
  pub cut_in : (values : List ℕ) (h : ℕ → ℕ) (full : List Act) → code (beyond h) full cut → code (entered values (beyond h)) full cut

module _ {A : Type 0} where
  pub beside_updates : (act : Act) (value : A) → Beside (updates {S = Locals} {A = A} act stays value)
  beside_updates act value = record {
    done_out = λ values h full t v x. (record { is = (x.is.0, ap (λ (s : Locals). beyond s.handles) x.is.1, x.is.2) }, x.is.1 ∙ ap (λ (s : Locals). entered values (beyond s.handles)) (sym x.is.1));
    done_in = λ values h full t v x. (record { is = (x.is.0, ap (entered values) x.is.1, x.is.2) }, x.is.1 ∙ ap (λ (s : Locals). beyond s.handles) (sym x.is.1));
    exits_out = λ values h full w x. absurd x.is;
    exits_in = λ values h full w x. absurd x.is;
    cut_out = λ values h full x. record { is = x.is };
    cut_in = λ values h full x. record { is = x.is };
  }

  pub beside_frame : (args : List ℕ) (body : Behaviour Locals A) → Beside (in_frame args body)
  beside_frame args body = record {
    done_out = λ values h full t v x. (record { is = (x.is.0, x.is.1, ap (λ (s : Locals). beyond s.handles) x.is.2) }, x.is.2 ∙ ap (λ (s : Locals). entered values (beyond s.handles)) (sym x.is.2));
    done_in = λ values h full t v x. (record { is = (x.is.0, x.is.1, ap (entered values) x.is.2) }, x.is.2 ∙ ap (λ (s : Locals). beyond s.handles) (sym x.is.2));
    exits_out = λ values h full w x. record { is = x.is };
    exits_in = λ values h full w x. record { is = x.is };
    cut_out = λ values h full x. record { is = x.is };
    cut_in = λ values h full x. record { is = x.is };
  }

  pub beside_chooses : {C : Type 0} (may : C → Type 0) (next : C → Behaviour Locals A) → ((v : C) → Beside (next v)) → Beside (chooses may next)
  beside_chooses may next b = record {
    done_out = λ values h full t v x. let y = (b x.value).done_out values h full t v x.is in (record { value = x.value; fits = x.fits; is = y.0 }, y.1);
    done_in = λ values h full t v x. let y = (b x.value).done_in values h full t v x.is in (record { value = x.value; fits = x.fits; is = y.0 }, y.1);
    exits_out = λ values h full w x. record { value = x.value; fits = x.fits; is = (b x.value).exits_out values h full w x.is };
    exits_in = λ values h full w x. record { value = x.value; fits = x.fits; is = (b x.value).exits_in values h full w x.is };
    cut_out = λ values h full x. record { value = x.value; fits = x.fits; is = (b x.value).cut_out values h full x.is };
    cut_in = λ values h full x. record { value = x.value; fits = x.fits; is = (b x.value).cut_in values h full x.is };
  }

module _ {A B C : Type 0} where
  -- what stands beside the locals of a call comes before the call
  pub frame_then : {code : Behaviour Locals A} → Beside code → (values : List ℕ) (next : A → Behaviour Locals B) (g : B → C) (h : ℕ → ℕ)
      → Alike (in_frame values ((code and_then next) gives g)) (beyond h) (code and_then λ w. in_frame values (next w gives g)) (beyond h)
  frame_then {code} b values next g h = alike_exact of up
    where
      of : (full : List Act) (o : Outcome Locals C) → in_frame values ((code and_then next) gives g) (beyond h) full o → (code and_then λ w. in_frame values (next w gives g)) (beyond h) full o
      of full (done u v) x =
          let inner = x.is.0 in
          let y = x.is.1.is in
          let k = y.1.is in
          let out = b.done_out values h k.front k.middle k.value k.starts in
          record {
            is = record {
              value = k.value;
              middle = beyond k.middle.handles;
              front = k.front;
              rest = k.rest;
              joined = k.joined;
              starts = out.0;
              goes = record { is = (inner, record { is = (y.0, subst (λ (s : Locals). next k.value s k.rest (done inner y.0)) out.1 k.goes, y.2) }, x.is.2) };
            };
          }
      of full (exits w) x = elim x.is.is.is [
        | inl y ↦ record { is = inl (b.exits_out values h full w y) }
        | inr k ↦ let out = b.done_out values h k.front k.middle k.value k.starts in
            record {
              is = inr (record {
                value = k.value;
                middle = beyond k.middle.handles;
                front = k.front;
                rest = k.rest;
                joined = k.joined;
                starts = out.0;
                goes = record { is = record { is = subst (λ (s : Locals). next k.value s k.rest (exits w)) out.1 k.goes } };
              });
            }
      ]
      of full cut x = elim x.is.is.is [
        | inl y ↦ record { is = inl (b.cut_out values h full y) }
        | inr k ↦ let out = b.done_out values h k.front k.middle k.value k.starts in
            record {
              is = inr (record {
                value = k.value;
                middle = beyond k.middle.handles;
                front = k.front;
                rest = k.rest;
                joined = k.joined;
                starts = out.0;
                goes = record { is = record { is = subst (λ (s : Locals). next k.value s k.rest cut) out.1 k.goes } };
              });
            }
      ]

      up : (full : List Act) (o : Outcome Locals C) → (code and_then λ w. in_frame values (next w gives g)) (beyond h) full o → in_frame values ((code and_then next) gives g) (beyond h) full o
      up full (done u v) x =
          let k = x.is in
          let y = k.goes.is in
          let z = y.1.is in
          let to = b.done_in values h k.front k.middle k.value k.starts in
          record {
            is = (y.0, record { is = (z.0, record { is = record { value = k.value; middle = entered values k.middle; front = k.front; rest = k.rest; joined = k.joined; starts = to.0; goes = z.1 } }, z.2) }, y.2 ∙ ap (λ (s : Locals). came_back s y.0) to.1);
          }
      up full (exits w) x = elim x.is [
        | inl y ↦ record { is = record { is = record { is = inl (b.exits_in values h full w y) } } }
        | inr k ↦ let to = b.done_in values h k.front k.middle k.value k.starts in
            record { is = record { is = record { is = inr (record { value = k.value; middle = entered values k.middle; front = k.front; rest = k.rest; joined = k.joined; starts = to.0; goes = k.goes.is.is }) } } }
      ]
      up full cut x = elim x.is [
        | inl y ↦ record { is = record { is = record { is = inl (b.cut_in values h full y) } } }
        | inr k ↦ let to = b.done_in values h k.front k.middle k.value k.starts in
            record { is = record { is = record { is = inr (record { value = k.value; middle = entered values k.middle; front = k.front; rest = k.rest; joined = k.joined; starts = to.0; goes = k.goes.is.is }) } } }
      ]
