-- Code that is the same in two forms.
use Rattle.std.proofs.Common.{◌≡◌, inl, inr, List, [], ◌++◌, refl, sym, ap, ◌∙◌, subst, append_assoc}
use Rattle.lz_model.specs.Actions.{Act}
use Rattle.lz_model.specs.Behaviours.{Outcome, done, exits, cut, Behaviour, ends_with, GoesOn, ◌and_then◌, ◌gives◌}
use Rattle.lz_agree.specs.Correspondence.{Corresponds, SameBehaviour, Opens}

-- ---- the same code

module _ {S A : Type 0} where
  -- code is the same as itself
  pub same_refl : {P : Behaviour S A} → SameBehaviour P P
  same_refl = record { to = λ s acts o h. h; from = λ s acts o h. h }

  -- two such steps make one
  pub same_trans : {P Q R : Behaviour S A} → SameBehaviour P Q → SameBehaviour Q R → SameBehaviour P R
  same_trans p q = record { to = λ s acts o h. q.to s acts o (p.to s acts o h); from = λ s acts o h. p.from s acts o (q.from s acts o h) }

  -- the other way round
  pub same_flip : {P Q : Behaviour S A} → SameBehaviour P Q → SameBehaviour Q P
  same_flip p = record { to = p.from; from = p.to }

module _ {S A B : Type 0} where
  then_to : {P P' : Behaviour S A} {next next' : A → Behaviour S B} → ((s : S) (acts : List Act) (o : Outcome S A) → P s acts o → P' s acts o) → ((a : A) (s : S) (acts : List Act) (o : Outcome S B) → next a s acts o → next' a s acts o)
      → (s : S) (acts : List Act) (o : Outcome S B) → (P and_then next) s acts o → (P' and_then next') s acts o
  then_to {P} {P'} {next} {next'} p q s acts o h = by o h
    where
      on : (o : Outcome S B) → GoesOn P next s acts o → GoesOn P' next' s acts o
      on o g = record { value = g.value; middle = g.middle; front = g.front; rest = g.rest; joined = g.joined; starts = p s g.front (done g.middle g.value) g.starts; goes = q g.value g.middle g.rest o g.goes }

      by : (o : Outcome S B) → (P and_then next) s acts o → (P' and_then next') s acts o
      by (done u v) h = record { is = on (done u v) h.is }
      by (exits w) h = elim h.is [ inl c ↦ record { is = inl (p s acts (exits w) c) } | inr g ↦ record { is = inr (on (exits w) g) } ]
      by cut h = elim h.is [ inl c ↦ record { is = inl (p s acts cut c) } | inr g ↦ record { is = inr (on cut g) } ]

  -- the same parts make the same code
  pub same_then : {P P' : Behaviour S A} {next next' : A → Behaviour S B} → SameBehaviour P P' → ((a : A) → SameBehaviour (next a) (next' a)) → SameBehaviour (P and_then next) (P' and_then next')
  same_then p q = record { to = then_to p.to (λ a. (q a).to); from = then_to p.from (λ a. (q a).from) }

  -- a value first
  value_to : (a : A) (next : A → Behaviour S B) (s : S) (acts : List Act) (o : Outcome S B) → (ends_with a and_then next) s acts o → ((acts : List Act) → acts ≡ [] → next a s acts cut) → next a s acts o
  value_to a next s acts o h opens = by o h
    where
      on : (o : Outcome S B) → GoesOn (ends_with a) next s acts o → next a s acts o
      on o g =
          let e = g.starts.is in
          let r : g.rest ≡ acts = sym (g.joined ∙ ap (λ (x : List Act). x ++ g.rest) e.0) in
          subst (λ (x : List Act). next a s x o) r (subst (λ (m : S). next a m g.rest o) e.1 (subst (λ (v : A). next v g.middle g.rest o) e.2 g.goes))

      by : (o : Outcome S B) → (ends_with a and_then next) s acts o → next a s acts o
      by (done u v) h = on (done u v) h.is
      by (exits w) h = elim h.is [ inl c ↦ absurd c.is | inr g ↦ on (exits w) g ]
      by cut h = elim h.is [ inl c ↦ opens acts c.is | inr g ↦ on cut g ]

  value_from : (a : A) (next : A → Behaviour S B) (s : S) (acts : List Act) (o : Outcome S B) → next a s acts o → (ends_with a and_then next) s acts o
  value_from a next s acts o h = by o h
    where
      on : (o : Outcome S B) → next a s acts o → GoesOn (ends_with a) next s acts o
      on o h = record { value = a; middle = s; front = []; rest = acts; joined = refl; starts = record { is = (refl, refl, refl) }; goes = h }

      by : (o : Outcome S B) → next a s acts o → (ends_with a and_then next) s acts o
      by (done u v) h = record { is = on (done u v) h }
      by (exits w) h = record { is = inr (on (exits w) h) }
      by cut h = record { is = inr (on cut h) }

module _ {S A B : Type 0} where
  -- a value first is nothing first
  pub same_value : (a : A) {next : A → Behaviour S B} → Opens (next a) → SameBehaviour (ends_with a and_then next) (next a)
  same_value a {next} o = record {
    to = λ s acts x h. value_to a next s acts x h (λ acts e. subst (λ (y : List Act). next a s y cut) (sym e) (o.opens s));
    from = λ s acts x h. value_from a next s acts x h;
  }

opens_value : {S A : Type 0} {a : A} → Opens {S = S} (ends_with a)
opens_value = record { opens = λ s. record { is = refl } }

-- ---- three parts

module _ {S A B C : Type 0} (P : Behaviour S A) (f : A → Behaviour S B) (g : B → Behaviour S C) where
  abbrev Right : Behaviour S C
  Right = P and_then λ v. f v and_then g

  right_of : (s : S) (acts : List Act) (o : Outcome S C) (v : A) (m : S) (front rest : List Act) → P s front (done m v) → (f v and_then g) m rest o → acts ≡ front ++ rest → GoesOn P (λ v. f v and_then g) s acts o
  right_of s acts o v m front rest p q e = record { value = v; middle = m; front = front; rest = rest; joined = e; starts = p; goes = q }

  gone : (s : S) (acts : List Act) (o : Outcome S C) → GoesOn (P and_then f) g s acts o → ((b : B) (m : S) (rest : List Act) → ((x : A) (u : S) (r : List Act) → f x u r (done m b) → g b m rest o → (f x and_then g) u (r ++ rest) o)) → GoesOn P (λ v. f v and_then g) s acts o
  gone s acts o h make = let k = h.starts.is in
      right_of s acts o k.value k.middle k.front (k.rest ++ h.rest) k.starts (make h.value h.middle h.rest k.value k.middle k.rest k.goes h.goes)
      (h.joined ∙ ap (λ (x : List Act). x ++ h.rest) k.joined ∙ append_assoc k.front k.rest h.rest)

  to_right : (s : S) (acts : List Act) (o : Outcome S C) → ((P and_then f) and_then g) s acts o → Right s acts o
  to_right s acts (done u v) h = record { is = gone s acts (done u v) h.is (λ b m rest x w r p q. record { is = record { value = b; middle = m; front = r; rest = rest; joined = refl; starts = p; goes = q } }) }
  to_right s acts (exits w) h = elim h.is [
    | inl c ↦ elim c.is [ inl d ↦ record { is = inl d } | inr k ↦ record { is = inr (right_of s acts (exits w) k.value k.middle k.front k.rest k.starts (record { is = inl k.goes }) k.joined) } ]
    | inr k ↦ record { is = inr (gone s acts (exits w) k (λ b m rest x u r p q. record { is = inr (record { value = b; middle = m; front = r; rest = rest; joined = refl; starts = p; goes = q }) })) }
  ]
  to_right s acts cut h = elim h.is [
    | inl c ↦ elim c.is [ inl d ↦ record { is = inl d } | inr k ↦ record { is = inr (right_of s acts cut k.value k.middle k.front k.rest k.starts (record { is = inl k.goes }) k.joined) } ]
    | inr k ↦ record { is = inr (gone s acts cut k (λ b m rest x u r p q. record { is = inr (record { value = b; middle = m; front = r; rest = rest; joined = refl; starts = p; goes = q }) })) }
  ]

  -- the first two parts are done, and the third goes on
  back_on : (s : S) (acts : List Act) (o : Outcome S C) (v : A) (m : S) (front rest : List Act) → P s front (done m v) → acts ≡ front ++ rest → GoesOn (f v) g m rest o → GoesOn (P and_then f) g s acts o
  back_on s acts o v m front rest p e h = record {
    value = h.value;
    middle = h.middle;
    front = front ++ h.front;
    rest = h.rest;
    joined = e ∙ ap (λ (x : List Act). front ++ x) h.joined ∙ sym (append_assoc front h.front h.rest);
    starts = record { is = record { value = v; middle = m; front = front; rest = h.front; joined = refl; starts = p; goes = h.starts } };
    goes = h.goes;
  }

  from_right : (s : S) (acts : List Act) (o : Outcome S C) → Right s acts o → ((P and_then f) and_then g) s acts o
  from_right s acts (done u v) h = let k = h.is in record { is = back_on s acts (done u v) k.value k.middle k.front k.rest k.starts k.joined k.goes.is }
  from_right s acts (exits w) h = elim h.is [
    | inl c ↦ record { is = inl (record { is = inl c }) }
    | inr k ↦ elim k.goes.is [
      | inl d ↦ record { is = inl (record { is = inr (record { value = k.value; middle = k.middle; front = k.front; rest = k.rest; joined = k.joined; starts = k.starts; goes = d }) }) }
      | inr j ↦ record { is = inr (back_on s acts (exits w) k.value k.middle k.front k.rest k.starts k.joined j) }
    ]
  ]
  from_right s acts cut h = elim h.is [
    | inl c ↦ record { is = inl (record { is = inl c }) }
    | inr k ↦ elim k.goes.is [
      | inl d ↦ record { is = inl (record { is = inr (record { value = k.value; middle = k.middle; front = k.front; rest = k.rest; joined = k.joined; starts = k.starts; goes = d }) }) }
      | inr j ↦ record { is = inr (back_on s acts cut k.value k.middle k.front k.rest k.starts k.joined j) }
    ]
  ]

  -- three parts may be grouped either way
  pub then_assoc : SameBehaviour Right ((P and_then f) and_then g)
  then_assoc = record { to = from_right; from = to_right }

-- ---- another value, and then the rest

module _ {S A B C : Type 0} (P : Behaviour S A) (f : A → B) (next : B → Behaviour S C) where
  gives_to : (s : S) (acts : List Act) (o : Outcome S C) → (P and_then λ a. next (f a)) s acts o → ((P gives f) and_then next) s acts o
  gives_to s acts o h = by o h
    where
      on : (o : Outcome S C) → GoesOn P (λ a. next (f a)) s acts o → GoesOn (P gives f) next s acts o
      on o g = record { value = f g.value; middle = g.middle; front = g.front; rest = g.rest; joined = g.joined; starts = record { is = (g.value, g.starts, refl) }; goes = g.goes }

      by : (o : Outcome S C) → (P and_then λ a. next (f a)) s acts o → ((P gives f) and_then next) s acts o
      by (done u v) h = record { is = on (done u v) h.is }
      by (exits w) h = elim h.is [ inl c ↦ record { is = inl (record { is = c }) } | inr g ↦ record { is = inr (on (exits w) g) } ]
      by cut h = elim h.is [ inl c ↦ record { is = inl (record { is = c }) } | inr g ↦ record { is = inr (on cut g) } ]

  gives_from : (s : S) (acts : List Act) (o : Outcome S C) → ((P gives f) and_then next) s acts o → (P and_then λ a. next (f a)) s acts o
  gives_from s acts o h = by o h
    where
      on : (o : Outcome S C) → GoesOn (P gives f) next s acts o → GoesOn P (λ a. next (f a)) s acts o
      on o g = let k = g.starts.is in record { value = k.0; middle = g.middle; front = g.front; rest = g.rest; joined = g.joined; starts = k.1; goes = subst (λ (b : B). next b g.middle g.rest o) k.2 g.goes }

      by : (o : Outcome S C) → ((P gives f) and_then next) s acts o → (P and_then λ a. next (f a)) s acts o
      by (done u v) h = record { is = on (done u v) h.is }
      by (exits w) h = elim h.is [ inl c ↦ record { is = inl c.is } | inr g ↦ record { is = inr (on (exits w) g) } ]
      by cut h = elim h.is [ inl c ↦ record { is = inl c.is } | inr g ↦ record { is = inr (on cut g) } ]

  -- a first part with another value, and what follows
  pub gives_then : SameBehaviour (P and_then λ a. next (f a)) ((P gives f) and_then next)
  gives_then = record { to = gives_to; from = gives_from }

-- ---- one side may be put in another form

module _ {Back : Type 0} {S T A B : Type 0} where
  -- the second side in another form
  pub corresponds_same_right : {P : Behaviour S A} {s : S} {Q Q' : Behaviour T B} {t : T} {Post : A → S → B → T → Type 0} → SameBehaviour Q Q' → Corresponds Back P s Q t Post → Corresponds Back P s Q' t Post
  corresponds_same_right {t = t} e h = record {
    there = record {
      cuts = λ acts c. let r = h.there.cuts acts c in (r.0, r.1, e.to t r.0 cut r.2);
      leaves = λ acts w c. let r = h.there.leaves acts w c in (r.0, r.1, e.to t r.0 (exits w) r.2);
      ends = λ acts u v c. let r = h.there.ends acts u v c in (r.0, r.1, r.2, r.3, e.to t r.0 (done r.1 r.2) r.4, r.5);
    };
    back = λ k. record {
      cuts = λ acts c. (h.back k).cuts acts (e.from t acts cut c);
      leaves = λ acts w c. (h.back k).leaves acts w (e.from t acts (exits w) c);
      ends = λ acts u v c. (h.back k).ends acts u v (e.from t acts (done u v) c);
    };
    opens = e.to t [] cut h.opens;
    lasts = h.lasts;
  }

  -- the first side in another form
  pub corresponds_same_left : {P P' : Behaviour S A} {s : S} {Q : Behaviour T B} {t : T} {Post : A → S → B → T → Type 0} → SameBehaviour P P' → Corresponds Back P s Q t Post → Corresponds Back P' s Q t Post
  corresponds_same_left {s = s} e h = record {
    there = record {
      cuts = λ acts c. h.there.cuts acts (e.from s acts cut c);
      leaves = λ acts w c. h.there.leaves acts w (e.from s acts (exits w) c);
      ends = λ acts u v c. h.there.ends acts u v (e.from s acts (done u v) c);
    };
    back = λ k. record {
      cuts = λ acts c. let r = (h.back k).cuts acts c in (r.0, r.1, e.to s r.0 cut r.2);
      leaves = λ acts w c. let r = (h.back k).leaves acts w c in (r.0, r.1, e.to s r.0 (exits w) r.2);
      ends = λ acts u v c. let r = (h.back k).ends acts u v c in (r.0, r.1, r.2, r.3, e.to s r.0 (done r.1 r.2) r.4, r.5);
    };
    opens = h.opens;
    lasts = λ acts u v c. e.to s acts cut (h.lasts acts u v (e.from s acts (done u v) c));
  }
