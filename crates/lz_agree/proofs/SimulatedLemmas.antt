-- One way: each way of putting code together keeps that whatever the one does the other does.
use Rattle.std.proofs.Common.{◌≡◌, inl, inr, Bool, List, [], ◌∷◌, ◌++◌, refl, sym, subst}
use Rattle.lz_model.specs.Actions.{Act}
use Rattle.lz_model.specs.Behaviours.{Outcome, done, cut, Behaviour, ends_with, halts, leaves, updates, tells, chooses, GoesOn, ◌and_then◌}
use Rattle.lz_agree.specs.Correspondence.{SameButLoc, Simulated, Quiet}
use Rattle.lz_agree.proofs.ActsLemmas.{but_loc_flip, but_loc_same, but_loc_trans, but_loc_joined}

module _ {S A B : Type 0} where
  -- a first part that is done, and what follows
  pub goes : {P : Behaviour S A} {next : A → Behaviour S B} {s : S} {o : Outcome S B} (v : A) (m : S) (front rest : List Act) →
      P s front (done m v) → next v m rest o → GoesOn P next s (front ++ rest) o
  goes v m front rest p n = record { value = v; middle = m; front = front; rest = rest; joined = refl; starts = p; goes = n }

module _ {S T A B C D : Type 0} where
  -- one part after the other
  pub simulated_then : {P : Behaviour S A} {s : S} {Q : Behaviour T B} {t : T} {Mid : A → S → B → T → Type 0} {next : A → Behaviour S C} {next' : B → Behaviour T D} {Post : C → S → D → T → Type 0} →
      Simulated P s Q t Mid → ((a : A) (s' : S) (b : B) (t' : T) → Mid a s' b t' → Simulated (next a) s' (next' b) t' Post) →
      Simulated (P and_then next) s (Q and_then next') t Post
  simulated_then {P} {s} {Q} {t} {Mid} {next} {next'} {Post} first rest = record {
    cuts = λ acts h. elim h.is [
      | inl c ↦ (let f = first.cuts acts c in (f.0, f.1, record { is = inl f.2 }))
      | inr g ↦ (let f = first.ends g.front g.middle g.value g.starts in let r = (rest g.value g.middle f.2 f.1 f.5).cuts g.rest g.goes in
          (f.0 ++ r.0, but_loc_joined g.joined f.3 r.1, record { is = inr (goes f.2 f.1 f.0 r.0 f.4 r.2) }))
    ];
    leaves = λ acts w h. elim h.is [
      | inl c ↦ (let f = first.leaves acts w c in (f.0, f.1, record { is = inl f.2 }))
      | inr g ↦ (let f = first.ends g.front g.middle g.value g.starts in let r = (rest g.value g.middle f.2 f.1 f.5).leaves g.rest w g.goes in
          (f.0 ++ r.0, but_loc_joined g.joined f.3 r.1, record { is = inr (goes f.2 f.1 f.0 r.0 f.4 r.2) }))
    ];
    ends = λ acts after value h. let g = h.is in
        let f = first.ends g.front g.middle g.value g.starts in let r = (rest g.value g.middle f.2 f.1 f.5).ends g.rest after value g.goes in
        (f.0 ++ r.0, r.1, r.2, but_loc_joined g.joined f.3 r.3, record { is = goes f.2 f.1 f.0 r.0 f.4 r.4 }, r.5);
  }

module _ {S T A B : Type 0} where
  -- a value on both sides
  pub simulated_value : {a : A} {s : S} {b : B} {t : T} {Post : A → S → B → T → Type 0} → Post a s b t → Simulated (ends_with a) s (ends_with b) t Post
  simulated_value {a} {s} {b} {t} {Post} h = record {
    cuts = λ acts e. ([], but_loc_same e.is, record { is = refl });
    leaves = λ acts w e. absurd e.is;
    ends = λ acts after value e. ([], t, b, but_loc_same e.is.0, record { is = (refl, refl, refl) }, subst (λ x. Post value x b t) (sym e.is.1) (subst (λ x. Post x s b t) (sym e.is.2) h));
  }

  -- one action on both sides
  pub simulated_act : {act : Act} {f : S → S} {g : T → T} {a : A} {s : S} {b : B} {t : T} {Post : A → S → B → T → Type 0} →
      Post a (f s) b (g t) → Simulated (updates act f a) s (updates act g b) t Post
  simulated_act {act} {f} {g} {a} {s} {b} {t} {Post} h = record {
    cuts = λ acts e. elim e.is [ inl n ↦ ([], but_loc_same n, record { is = inl refl }) | inr o ↦ (act ∷ [], but_loc_same o, record { is = inr refl }) ];
    leaves = λ acts w e. absurd e.is;
    ends = λ acts after value e. (act ∷ [], g t, b, but_loc_same e.is.0, record { is = (refl, refl, refl) }, subst (λ x. Post value x b (g t)) (sym e.is.1) (subst (λ x. Post x (f s) b (g t)) (sym e.is.2) h));
  }

  -- one action, whose value the local values give
  pub simulated_tells : {act : Act} {f : S → A} {g : T → B} {s : S} {t : T} {Post : A → S → B → T → Type 0} →
      Post (f s) s (g t) t → Simulated (tells act f) s (tells act g) t Post
  simulated_tells {act} {f} {g} {s} {t} {Post} h = record {
    cuts = λ acts e. elim e.is [ inl n ↦ ([], but_loc_same n, record { is = inl refl }) | inr o ↦ (act ∷ [], but_loc_same o, record { is = inr refl }) ];
    leaves = λ acts w e. absurd e.is;
    ends = λ acts after value e. (act ∷ [], t, g t, but_loc_same e.is.0, record { is = (refl, refl, refl) }, subst (λ x. Post value x (g t) t) (sym e.is.1) (subst (λ x. Post x s (g t) t) (sym e.is.2) h));
  }

  -- nothing more on both sides
  pub simulated_halts : {s : S} {t : T} {Post : A → S → B → T → Type 0} → Simulated (halts {S = S} {A = A}) s (halts {S = T} {A = B}) t Post
  simulated_halts = record {
    cuts = λ acts e. ([], but_loc_same e.is, record { is = refl });
    leaves = λ acts w e. absurd e.is;
    ends = λ acts after value e. absurd e.is;
  }

  -- both leave the code
  pub simulated_leaves : {w : Bool} {s : S} {t : T} {Post : A → S → B → T → Type 0} → Simulated (leaves {S = S} {A = A} w) s (leaves {S = T} {A = B} w) t Post
  simulated_leaves = record {
    cuts = λ acts e. ([], but_loc_same e.is, record { is = refl });
    leaves = λ acts w e. ([], but_loc_same e.is.0, record { is = (refl, e.is.1) });
    ends = λ acts after value e. absurd e.is;
  }

  -- for each value that may be chosen
  pub simulated_chooses : {V : Type 0} {may : V → Type 0} {P : V → Behaviour S A} {s : S} {Q : V → Behaviour T B} {t : T} {Post : A → S → B → T → Type 0} →
      ((v : V) → may v → Simulated (P v) s (Q v) t Post) → Simulated (chooses may P) s (chooses may Q) t Post
  simulated_chooses h = record {
    cuts = λ acts e. let f = (h e.value e.fits).cuts acts e.is in (f.0, f.1, record { value = e.value; fits = e.fits; is = f.2 });
    leaves = λ acts w e. let f = (h e.value e.fits).leaves acts w e.is in (f.0, f.1, record { value = e.value; fits = e.fits; is = f.2 });
    ends = λ acts after value e. let f = (h e.value e.fits).ends acts after value e.is in (f.0, f.1, f.2, f.3, record { value = e.value; fits = e.fits; is = f.4 }, f.5);
  }

  -- less may be said of the ends
  pub simulated_less : {P : Behaviour S A} {s : S} {Q : Behaviour T B} {t : T} {Post Post' : A → S → B → T → Type 0} →
      Simulated P s Q t Post → ((a : A) (s' : S) (b : B) (t' : T) → Post a s' b t' → Post' a s' b t') → Simulated P s Q t Post'
  simulated_less f weaker = record {
    cuts = f.cuts;
    leaves = f.leaves;
    ends = λ acts after value e. let g = f.ends acts after value e in (g.0, g.1, g.2, g.3, g.4, weaker _ _ _ _ g.5);
  }

module _ {S T A B C : Type 0} where
  -- quiet code first, on the second side
  pub simulated_quiet_right : {P : Behaviour S A} {s : S} {Q : Behaviour T B} {t : T} {b : B} {t' : T} {next : B → Behaviour T C} {Post : A → S → C → T → Type 0} →
      Quiet Q t b t' → Simulated P s (next b) t' Post → Simulated P s (Q and_then next) t Post
  simulated_quiet_right {b = b} {t' = t'} q f = record {
    cuts = λ acts e. let g = f.cuts acts e in (q.can.0 ++ g.0, but_loc_joined refl q.can.1 g.1, record { is = inr (goes b t' q.can.0 g.0 q.can.2 g.2) });
    leaves = λ acts w e. let g = f.leaves acts w e in (q.can.0 ++ g.0, but_loc_joined refl q.can.1 g.1, record { is = inr (goes b t' q.can.0 g.0 q.can.2 g.2) });
    ends = λ acts after value e. let g = f.ends acts after value e in
        (q.can.0 ++ g.0, g.1, g.2, but_loc_joined refl q.can.1 g.3, record { is = goes b t' q.can.0 g.0 q.can.2 g.4 }, g.5);
  }

  -- quiet code first, on the first side
  pub simulated_quiet_left : {P : Behaviour S A} {s : S} {a : A} {s' : S} {Q : Behaviour T B} {t : T} {next : A → Behaviour S C} {Post : C → S → B → T → Type 0} →
      Quiet P s a s' → ((like : List Act) × SameButLoc [] like × Q t like cut) → Simulated (next a) s' Q t Post → Simulated (P and_then next) s Q t Post
  simulated_quiet_left {P} {s} {a} {s'} {Q} {t} {next} {Post} q open_ f = record {
    cuts = λ acts e. elim e.is [
      | inl c ↦ (open_.0, but_loc_trans (but_loc_flip (q.cuts acts c)) open_.1, open_.2)
      | inr g ↦ (let k = q.ends g.front g.middle g.value g.starts in let r = (f' g.value g.middle k.2 k.1).cuts g.rest g.goes in
          (r.0, but_loc_joined g.joined (but_loc_flip k.0) r.1, r.2))
    ];
    leaves = λ acts w e. elim e.is [
      | inl c ↦ absurd (q.leaves acts w c)
      | inr g ↦ (let k = q.ends g.front g.middle g.value g.starts in let r = (f' g.value g.middle k.2 k.1).leaves g.rest w g.goes in
          (r.0, but_loc_joined g.joined (but_loc_flip k.0) r.1, r.2))
    ];
    ends = λ acts after' value e. let g = e.is in let k = q.ends g.front g.middle g.value g.starts in let r = (f' g.value g.middle k.2 k.1).ends g.rest after' value g.goes in
        (r.0, r.1, r.2, but_loc_joined g.joined (but_loc_flip k.0) r.3, r.4, r.5);
  }
    where
      f' : (x : A) (m : S) → x ≡ a → m ≡ s' → Simulated (next x) m Q t Post
      f' x m e e' = subst (λ z. Simulated (next z) m Q t Post) (sym e) (subst (λ z. Simulated (next a) z Q t Post) (sym e') f)
