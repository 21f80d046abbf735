-- Both ways: the rules by which code corresponds.
use Rattle.std.proofs.Common.{◌≡◌, inl, inr, Bool, true, false, List, [], ◌++◌, refl, sym, subst, append-nil}
use Rattle.lz_model.specs.Actions.{Act}
use Rattle.lz_model.specs.Behaviours.{done, cut, Behaviour, ends_with, halts, leaves, updates, tells, chooses, ◌and_then◌, ◌gives◌, picks}
use Rattle.lz_model.proofs.FrontsLemmas.{Fronts}
use Rattle.lz_agree.specs.Correspondence.{Corresponds, Quiet}
use Rattle.lz_agree.proofs.ActsLemmas.{but_loc_flip, but_loc_same, but_loc_trans, but_loc_joined}
use Rattle.lz_agree.proofs.SimulatedLemmas.{goes, simulated_then, simulated_value, simulated_act, simulated_tells, simulated_halts, simulated_leaves, simulated_chooses, simulated_less, simulated_quiet_right, simulated_quiet_left}

module _ {Back : Type 0} {S T A B : Type 0} where
  -- a value on both sides
  pub corresponds_value : {a : A} {s : S} {b : B} {t : T} {Post : A → S → B → T → Type 0} → Post a s b t → Corresponds Back (ends_with a) s (ends_with b) t Post
  corresponds_value h = record { there = simulated_value h; back = λ _. simulated_value h; opens = record { is = refl }; lasts = λ acts s' a e. record { is = e.is.0 } }

  -- one action on both sides
  pub corresponds_act : {act : Act} {f : S → S} {g : T → T} {a : A} {s : S} {b : B} {t : T} {Post : A → S → B → T → Type 0} →
      Post a (f s) b (g t) → Corresponds Back (updates act f a) s (updates act g b) t Post
  corresponds_act h = record { there = simulated_act h; back = λ _. simulated_act h; opens = record { is = inl refl }; lasts = λ acts s' a e. record { is = inr e.is.0 } }

  -- one action, whose value the local values give
  pub corresponds_tells : {act : Act} {f : S → A} {g : T → B} {s : S} {t : T} {Post : A → S → B → T → Type 0} →
      Post (f s) s (g t) t → Corresponds Back (tells act f) s (tells act g) t Post
  corresponds_tells h = record { there = simulated_tells h; back = λ _. simulated_tells h; opens = record { is = inl refl }; lasts = λ acts s' a e. record { is = inr e.is.0 } }

  -- nothing more on both sides
  pub corresponds_halts : {s : S} {t : T} {Post : A → S → B → T → Type 0} → Corresponds Back (halts {S = S} {A = A}) s (halts {S = T} {A = B}) t Post
  corresponds_halts = record { there = simulated_halts; back = λ _. simulated_halts; opens = record { is = refl }; lasts = λ acts s' a e. absurd e.is }

  -- both leave the code
  pub corresponds_leaves : {w : Bool} {s : S} {t : T} {Post : A → S → B → T → Type 0} → Corresponds Back (leaves {S = S} {A = A} w) s (leaves {S = T} {A = B} w) t Post
  corresponds_leaves = record { there = simulated_leaves; back = λ _. simulated_leaves; opens = record { is = refl }; lasts = λ acts s' a e. absurd e.is }

  -- for each value that may be chosen
  pub corresponds_chooses : {V : Type 0} {may : V → Type 0} {P : V → Behaviour S A} {s : S} {Q : V → Behaviour T B} {t : T} {Post : A → S → B → T → Type 0} →
      (v₀ : V) → may v₀ → ((v : V) → may v → Corresponds Back (P v) s (Q v) t Post) → Corresponds Back (chooses may P) s (chooses may Q) t Post
  corresponds_chooses v₀ m₀ h = record {
    there = simulated_chooses (λ v m. (h v m).there);
    back = λ k. simulated_chooses (λ v m. (h v m).back k);
    opens = record { value = v₀; fits = m₀; is = (h v₀ m₀).opens };
    lasts = λ acts s' a e. record { value = e.value; fits = e.fits; is = (h e.value e.fits).lasts acts s' a e.is };
  }

  -- less may be said of the ends
  pub corresponds_less : {P : Behaviour S A} {s : S} {Q : Behaviour T B} {t : T} {Post Post' : A → S → B → T → Type 0} →
      Corresponds Back P s Q t Post → ((a : A) (s' : S) (b : B) (t' : T) → Post a s' b t' → Post' a s' b t') → Corresponds Back P s Q t Post'
  corresponds_less f weaker = record {
    there = simulated_less f.there weaker;
    back = λ k. simulated_less (f.back k) (λ b t' a s' h. weaker a s' b t' h);
    opens = f.opens;
    lasts = f.lasts;
  }

  -- a value against quiet steps
  pub corresponds_value_quiet : {a : A} {s : S} {Q : Behaviour T B} {t : T} {b : B} {t' : T} {Post : A → S → B → T → Type 0} →
      Quiet Q t b t' → Post a s b t' → Corresponds Back (ends_with a) s Q t Post
  corresponds_value_quiet {a} {s} {Q} {t} {b} {t'} {Post} q h = record {
    there = record {
      cuts = λ acts e. ([], but_loc_same e.is, q.opens);
      leaves = λ acts w e. absurd e.is;
      ends = λ acts after value e. (q.can.0, t', b, but_loc_trans (but_loc_same e.is.0) q.can.1, q.can.2, subst (λ x. Post value x b t') (sym e.is.1) (subst (λ x. Post x s b t') (sym e.is.2) h));
    };
    back = λ _. record {
      cuts = λ acts e. ([], but_loc_flip (q.cuts acts e), record { is = refl });
      leaves = λ acts w e. absurd (q.leaves acts w e);
      ends = λ acts after value e. let k = q.ends acts after value e in
          ([], s, a, but_loc_flip k.0, record { is = (refl, refl, refl) }, subst (λ x. Post a s value x) (sym k.1) (subst (λ x. Post a s x t') (sym k.2) h));
    };
    opens = q.opens;
    lasts = λ acts after value e. record { is = e.is.0 };
  }

module _ {Back : Type 0} {S T A B C D : Type 0} where
  -- one part after the other
  pub corresponds_then : {P : Behaviour S A} {s : S} {Q : Behaviour T B} {t : T} {Mid : A → S → B → T → Type 0} {next : A → Behaviour S C} {next' : B → Behaviour T D} {Post : C → S → D → T → Type 0} →
      Corresponds Back P s Q t Mid → ((a : A) (s' : S) (b : B) (t' : T) → Mid a s' b t' → Corresponds Back (next a) s' (next' b) t' Post) →
      Corresponds Back (P and_then next) s (Q and_then next') t Post
  corresponds_then first rest = record {
    there = simulated_then first.there (λ a s' b t' m. (rest a s' b t' m).there);
    back = λ k. simulated_then (first.back k) (λ b t' a s' m. (rest a s' b t' m).back k);
    opens = record { is = inl first.opens };
    lasts = λ acts after value e. let g = e.is in let f = first.there.ends g.front g.middle g.value g.starts in
        record { is = inr (record { value = g.value; middle = g.middle; front = g.front; rest = g.rest; joined = g.joined; starts = g.starts; goes = (rest g.value g.middle f.2 f.1 f.5).lasts g.rest after value g.goes }) };
  }

  -- the same action on both sides, and then the rest
  pub corresponds_act_then : {act : Act} {f : S → S} {g : T → T} {a : A} {s : S} {b : B} {t : T} {next : A → Behaviour S C} {next' : B → Behaviour T D} {Post : C → S → D → T → Type 0} →
      Corresponds Back (next a) (f s) (next' b) (g t) Post → Corresponds Back (updates act f a and_then next) s (updates act g b and_then next') t Post
  corresponds_act_then {f = f} {g = g} {a = a} {s = s} {b = b} {t = t} {next = next} {next' = next'} {Post = Post} h =
      corresponds_then {Mid = λ a' s' b' t'. (a' ≡ a) × (s' ≡ f s) × (b' ≡ b) × (t' ≡ g t)} (corresponds_act (refl, refl, refl, refl))
      (λ a' s' b' t' e. subst (λ z. Corresponds Back (next z) s' (next' b') t' Post) (sym e.0) (subst (λ z. Corresponds Back (next a) z (next' b') t' Post) (sym e.1)
      (subst (λ z. Corresponds Back (next a) (f s) (next' z) t' Post) (sym e.2) (subst (λ z. Corresponds Back (next a) (f s) (next' b) z Post) (sym e.3) h))))

module _ {Back : Type 0} {S T A B C : Type 0} where
  -- quiet code first, on the second side
  pub corresponds_quiet_right : {P : Behaviour S A} {s : S} {Q : Behaviour T B} {t : T} {b : B} {t' : T} {next : B → Behaviour T C} {Post : A → S → C → T → Type 0} →
      Quiet Q t b t' → Corresponds Back P s (next b) t' Post → Corresponds Back P s (Q and_then next) t Post
  corresponds_quiet_right q f = record {
    there = simulated_quiet_right q f.there;
    back = λ k. simulated_quiet_left q ((f.back k).cuts [] f.opens) (f.back k);
    opens = record { is = inl q.opens };
    lasts = f.lasts;
  }

  -- quiet code first, on the first side
  pub corresponds_quiet_left : {P : Behaviour S A} {s : S} {a : A} {s' : S} {Q : Behaviour T B} {t : T} {next : A → Behaviour S C} {Post : C → S → B → T → Type 0} →
      Quiet P s a s' → Corresponds Back (next a) s' Q t Post → Corresponds Back (P and_then next) s Q t Post
  corresponds_quiet_left {a = a} {next = next} q f = record {
    there = simulated_quiet_left q ([], but_loc_same refl, f.opens) f.there;
    back = λ k. simulated_quiet_right q (f.back k);
    opens = f.opens;
    lasts = λ acts after value e. let g = e.is in let k = q.ends g.front g.middle g.value g.starts in
        record {
          is = inr (record {
            value = g.value;
            middle = g.middle;
            front = g.front;
            rest = g.rest;
            joined = g.joined;
            starts = g.starts;
            goes =
                subst (λ z. next z g.middle g.rest (done after value) → next z g.middle g.rest cut) (sym k.2)
                (subst (λ z. next a z g.rest (done after value) → next a z g.rest cut) (sym k.1) (f.lasts g.rest after value)) g.goes;
          });
        };
  }

  -- one more part on the right, that is quiet
  pub corresponds_quiet_tail : {P : Behaviour S A} {s : S} {Q : Behaviour T B} {t : T} {Mid : A → S → B → T → Type 0} {next : B → Behaviour T C} {Post : A → S → C → T → Type 0} →
      Corresponds Back P s Q t Mid → ((a : A) (s' : S) (b : B) (t' : T) → Mid a s' b t' → (c : C) × (t'' : T) × Quiet (next b) t' c t'' × Post a s' c t'') →
      Corresponds Back P s (Q and_then next) t Post
  corresponds_quiet_tail {P} {s} {Q} {t} {next = next} {Post = Post} first rest = record {
    there = record {
      cuts = λ acts e. let f = first.there.cuts acts e in (f.0, f.1, record { is = inl f.2 });
      leaves = λ acts w e. let f = first.there.leaves acts w e in (f.0, f.1, record { is = inl f.2 });
      ends = λ acts after value e. let f = first.there.ends acts after value e in let r = rest value after f.2 f.1 f.5 in let k = r.2 in
          (f.0 ++ k.can.0, r.1, r.0, but_loc_trans (but_loc_same (sym (append-nil acts))) (but_loc_joined refl f.3 k.can.1), record { is = goes f.2 f.1 f.0 k.can.0 f.4 k.can.2 }, r.3);
    };
    back = λ kk. record {
      cuts = λ acts e. elim e.is [
        | inl c ↦ (first.back kk).cuts acts c
        | inr g ↦ (let f = (first.back kk).ends g.front g.middle g.value g.starts in
            (f.0, but_loc_trans (but_loc_joined g.joined f.3 (but_loc_flip ((rest f.2 f.1 g.value g.middle f.5).2.cuts g.rest g.goes))) (but_loc_same (append-nil f.0)), first.lasts f.0 f.1 f.2 f.4))
      ];
      leaves = λ acts w e. elim e.is [
        | inl c ↦ (first.back kk).leaves acts w c
        | inr g ↦ (let f = (first.back kk).ends g.front g.middle g.value g.starts in absurd ((rest f.2 f.1 g.value g.middle f.5).2.leaves g.rest w g.goes))
      ];
      ends = λ acts after value e. let g = e.is in let f = (first.back kk).ends g.front g.middle g.value g.starts in let r = rest f.2 f.1 g.value g.middle f.5 in let k = r.2.ends g.rest after value g.goes in (
        f.0,
        f.1,
        f.2,
        but_loc_trans (but_loc_joined g.joined f.3 (but_loc_flip k.0)) (but_loc_same (append-nil f.0)),
        f.4,
        subst (λ x. Post f.2 f.1 value x) (sym k.1) (subst (λ x. Post f.2 f.1 x r.1) (sym k.2) r.3),
      );
    };
    opens = record { is = inl first.opens };
    lasts = first.lasts;
  }

  -- another value on the first side
  pub corresponds_gives_left : {P : Behaviour S A} {s : S} {Q : Behaviour T B} {t : T} {f : A → C} {Post : C → S → B → T → Type 0} →
      Corresponds Back P s Q t (λ a s' b t'. Post (f a) s' b t') → Corresponds Back (P gives f) s Q t Post
  corresponds_gives_left {f = f} {Post = Post} h = record {
    there = record {
      cuts = λ acts e. h.there.cuts acts e.is;
      leaves = λ acts w e. h.there.leaves acts w e.is;
      ends = λ acts after value e. let g = h.there.ends acts after e.is.0 e.is.1 in (g.0, g.1, g.2, g.3, g.4, subst (λ z. Post z after g.2 g.1) (sym e.is.2) g.5);
    };
    back = λ k. record {
      cuts = λ acts e. let g = (h.back k).cuts acts e in (g.0, g.1, record { is = g.2 });
      leaves = λ acts w e. let g = (h.back k).leaves acts w e in (g.0, g.1, record { is = g.2 });
      ends = λ acts after value e. let g = (h.back k).ends acts after value e in (g.0, g.1, f g.2, g.3, record { is = (g.2, g.4, refl) }, g.5);
    };
    opens = h.opens;
    lasts = λ acts after value e. record { is = h.lasts acts after e.is.0 e.is.1 };
  }

  -- another value on the second side
  pub corresponds_gives_right : {P : Behaviour S A} {s : S} {Q : Behaviour T B} {t : T} {f : B → C} {Post : A → S → C → T → Type 0} →
      Corresponds Back P s Q t (λ a s' b t'. Post a s' (f b) t') → Corresponds Back P s (Q gives f) t Post
  corresponds_gives_right {f = f} {Post = Post} h = record {
    there = record {
      cuts = λ acts e. let g = h.there.cuts acts e in (g.0, g.1, record { is = g.2 });
      leaves = λ acts w e. let g = h.there.leaves acts w e in (g.0, g.1, record { is = g.2 });
      ends = λ acts after value e. let g = h.there.ends acts after value e in (g.0, g.1, f g.2, g.3, record { is = (g.2, g.4, refl) }, g.5);
    };
    back = λ k. record {
      cuts = λ acts e. (h.back k).cuts acts e.is;
      leaves = λ acts w e. (h.back k).leaves acts w e.is;
      ends = λ acts after value e. let g = (h.back k).ends acts after e.is.0 e.is.1 in (g.0, g.1, g.2, g.3, g.4, subst (λ z. Post g.2 g.1 z after) (sym e.is.2) g.5);
    };
    opens = record { is = h.opens };
    lasts = h.lasts;
  }

module _ {Back : Type 0} {S T A C D : Type 0} where
  -- the same value on both sides
  pub corresponds_same_then : {P : Behaviour S A} {s : S} {Q : Behaviour T A} {t : T} {Mid : A → S → T → Type 0} {next : A → Behaviour S C} {next' : A → Behaviour T D} {Post : C → S → D → T → Type 0} →
      Corresponds Back P s Q t (λ a s' b t'. (b ≡ a) × Mid a s' t') → ((a : A) (s' : S) (t' : T) → Mid a s' t' → Corresponds Back (next a) s' (next' a) t' Post) →
      Corresponds Back (P and_then next) s (Q and_then next') t Post
  corresponds_same_then {next = next} {next' = next'} {Post = Post} first rest =
      corresponds_then first (λ a s' b t' m. subst (λ z. Corresponds Back (next a) s' (next' z) t' Post) (sym m.0) (rest a s' t' m.1))

module _ {Back : Type 0} {S T C D : Type 0} where
  -- the one or the other on both sides
  pub corresponds_picks : (b : Bool) {P Q : Behaviour S C} {s : S} {P' Q' : Behaviour T D} {t : T} {Post : C → S → D → T → Type 0} →
      (b ≡ true → Corresponds Back P s P' t Post) → (b ≡ false → Corresponds Back Q s Q' t Post) → Corresponds Back (picks b P Q) s (picks b P' Q') t Post
  corresponds_picks true x y = x refl
  corresponds_picks false x y = y refl

-- ---- quiet on both sides, and a quiet tail on the left

module _ {Back : Type 0} {S T A B : Type 0} where
  -- quiet code on both sides
  pub corresponds_quiets : {P : Behaviour S A} {s : S} {a : A} {s' : S} {Q : Behaviour T B} {t : T} {b : B} {t' : T} {Post : A → S → B → T → Type 0} →
      Quiet P s a s' → Quiet Q t b t' → ((acts : List Act) (after : S) (v : A) → P s acts (done after v) → P s acts cut) → Post a s' b t' → Corresponds Back P s Q t Post
  corresponds_quiets {P} {s} {a} {s'} {Q} {t} {b} {t'} {Post} p q lasts h = record {
    there = record {
      cuts = λ acts e. ([], but_loc_flip (p.cuts acts e), q.opens);
      leaves = λ acts w e. absurd (p.leaves acts w e);
      ends = λ acts after v e. let k = p.ends acts after v e in (
        q.can.0,
        t',
        b,
        but_loc_trans (but_loc_flip k.0) q.can.1,
        q.can.2,
        subst (λ x. Post v x b t') (sym k.1) (subst (λ x. Post x s' b t') (sym k.2) h),
      );
    };
    back = λ _. record {
      cuts = λ acts e. ([], but_loc_flip (q.cuts acts e), p.opens);
      leaves = λ acts w e. absurd (q.leaves acts w e);
      ends = λ acts after v e. let k = q.ends acts after v e in (
        p.can.0,
        s',
        a,
        but_loc_trans (but_loc_flip k.0) p.can.1,
        p.can.2,
        subst (λ x. Post a s' v x) (sym k.1) (subst (λ x. Post a s' x t') (sym k.2) h),
      );
    };
    opens = q.opens;
    lasts = lasts;
  }

module _ {Back : Type 0} {S T A B C : Type 0} where
  -- one more part on the first side, that is quiet
  pub corresponds_tail_left : {P : Behaviour S A} {s : S} {Q : Behaviour T B} {t : T} {Mid : A → S → B → T → Type 0} {next : A → Behaviour S C} {Post : C → S → B → T → Type 0} →
      Corresponds Back P s Q t Mid → ((acts : List Act) (after : T) (v : B) → Q t acts (done after v) → Q t acts cut)
      → ((acts : List Act) (after : S) (v : C) → (P and_then next) s acts (done after v) → (P and_then next) s acts cut)
      → ((a : A) (s' : S) (b : B) (t' : T) → Mid a s' b t' → (c : C) × (s'' : S) × Quiet (next a) s' c s'' × Post c s'' b t')
      → Corresponds Back (P and_then next) s Q t Post
  corresponds_tail_left {P} {s} {Q} {t} {next = next} {Post = Post} first lasts_right lasts_left rest = record {
    there = record {
      cuts = λ acts e. elim e.is [
        | inl c ↦ first.there.cuts acts c
        | inr g ↦ (let f = first.there.ends g.front g.middle g.value g.starts in
            (f.0, but_loc_trans (but_loc_joined g.joined f.3 (but_loc_flip ((rest g.value g.middle f.2 f.1 f.5).2.cuts g.rest g.goes))) (but_loc_same (append-nil f.0)), lasts_right f.0 f.1 f.2 f.4))
      ];
      leaves = λ acts w e. elim e.is [
        | inl c ↦ first.there.leaves acts w c
        | inr g ↦ (let f = first.there.ends g.front g.middle g.value g.starts in absurd ((rest g.value g.middle f.2 f.1 f.5).2.leaves g.rest w g.goes))
      ];
      ends = λ acts after v e. let g = e.is in let f = first.there.ends g.front g.middle g.value g.starts in let r = rest g.value g.middle f.2 f.1 f.5 in let k = r.2.ends g.rest after v g.goes in (
        f.0,
        f.1,
        f.2,
        but_loc_trans (but_loc_joined g.joined f.3 (but_loc_flip k.0)) (but_loc_same (append-nil f.0)),
        f.4,
        subst (λ x. Post v x f.2 f.1) (sym k.1) (subst (λ x. Post x r.1 f.2 f.1) (sym k.2) r.3),
      );
    };
    back = λ kk. record {
      cuts = λ acts e. let f = (first.back kk).cuts acts e in (f.0, f.1, record { is = inl f.2 });
      leaves = λ acts w e. let f = (first.back kk).leaves acts w e in (f.0, f.1, record { is = inl f.2 });
      ends = λ acts after v e. let f = (first.back kk).ends acts after v e in let r = rest f.2 f.1 v after f.5 in (
        f.0 ++ r.2.can.0,
        r.1,
        r.0,
        but_loc_trans (but_loc_same (sym (append-nil acts))) (but_loc_joined refl f.3 r.2.can.1),
        record { is = record { value = f.2; middle = f.1; front = f.0; rest = r.2.can.0; joined = refl; starts = f.4; goes = r.2.can.2 } },
        r.3,
      );
    };
    opens = first.opens;
    lasts = lasts_left;
  }

module _ {S A : Type 0} where
  -- code whose fronts are its own may be cut where it is done
  pub lasts_of : {P : Behaviour S A} → Fronts P → (s : S) (acts : List Act) (after : S) (v : A) → P s acts (done after v) → P s acts cut
  lasts_of {P} f s acts after v h = f.front s acts [] (done after v) (subst (λ (x : List Act). P s x (done after v)) (sym (append-nil acts)) h)
