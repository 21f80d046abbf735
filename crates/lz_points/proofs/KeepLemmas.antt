-- Broken runs before and after the marks are taken.
use Rattle.std.proofs.Common.{◌≡◌, inl, ℕ, zero, suc, ◌≤◌, ◌<◌, Bool, true, false, List, [], ◌∷◌, length, drop, replicate, eqb, refl, sym, ◌∙◌, ap, ap₂, subst, arith}
use Rattle.std.specs.Prelude.{slice_index, slice_set}
use Rattle.std.proofs.lemmas.Bool.{eqb-true, eqb-false}
use Rattle.std.proofs.lemmas.List.{length-set}
use Rattle.lz_base.specs.declared.word.BreakKind.{BreakKind}
use Rattle.lz_base.proofs.DescentsLemmas.{Fits, nothing, stay, next, fits_descents}
use Rattle.lz_flat.specs.Programs.{MarkedInstruction, FlatProgram, code_of}
use Rattle.lz_flat.specs.FlatRuns.{Ran, went, held, breaks, ended, step_from, step, broken, course_behind, course, opening, FlatBroken}
use Rattle.lz_flat.specs.WellFormed.{IsWellMarked, IsCodeOf, BeginsVisible}
use Rattle.lz_flat.proofs.LandingLemmas.{step_lands, onward_real}
use Rattle.lz_flat.specs.Naming.{CodeNamesOnly, AgreeOn}
use Rattle.lz_points.specs.Thinning.{Own, Sees, ThinnedBy}
use Rattle.lz_points.specs.Marks.{BreakAlike}
use Rattle.lz_flat.specs.Naming.{Keeps}
use Rattle.lz_flat.proofs.NamingLemmas.{keeps_all}
use Rattle.lz_points.proofs.MemoryLemmas.{word_same, word_other}
use Rattle.lz_points.proofs.ThroughLemmas.{ran_then, settle, AlikeRan, KeepsRan, step_keeps, step_agrees, never_held}
use Rattle.lz_points.proofs.BackLemmas.{has_code, settle_visible, settle_hidden, settle_end, step_settles, opening_long, runs_back}
use Rattle.lz_points.proofs.AheadLemmas.{names_drop, names_thinned, code_drop, all_at, AlikeWent, alike_went_by, went_alike, breaks_alike, IsAhead, on_the_way, passes_by}

-- the new run is ahead of the old one
pub record Ahead (owner : ℕ → ℕ) (flat thinner : FlatProgram) (inputs : ℕ → ℕ → ℕ) (places m places' m' : List ℕ) : Type 0 where
  pub wide : length thinner.threads ≤ length places
  pub wide' : length thinner.threads ≤ length places'
  pub size : length m' ≡ length m
  pub each : (u : ℕ) → IsAhead owner (inputs u) (code_of flat u) (code_of thinner u) u (slice_index places u) m (slice_index places' u) m'

-- a broken run after
pub record BreaksOn (thinner : FlatProgram) (inputs : ℕ → ℕ → ℕ) (run places' m' : List ℕ) : Type 0 where
  pub new : List ℕ
  pub kind : BreakKind
  pub line : ℕ
  pub fits : Fits new run
  pub breaks : course thinner inputs new places' m' ≡ broken kind line

-- ---- a step of the old run

-- the thread t goes in the old run alone: what it runs, it has run already in the new one
moved_old : (owner : ℕ → ℕ) (flat thinner : FlatProgram) (inputs : ℕ → ℕ → ℕ) (places m places' m' : List ℕ) (t p₂ : ℕ) (m₂ : List ℕ) → ThinnedBy owner flat thinner → Ahead owner flat thinner inputs places m places' m'
    → t < length thinner.threads → Keeps (Sees owner t) m m₂ → IsAhead owner (inputs t) (code_of flat t) (code_of thinner t) t p₂ m₂ (slice_index places' t) m'
    → Ahead owner flat thinner inputs (slice_set places t p₂) m₂ places' m'
moved_old owner flat thinner inputs places m places' m' t p₂ m₂ th a lt k is = record {
  wide = let l = length-set places t p₂ in let w = a.wide in omega (arith, l, w);
  wide' = a.wide';
  size = a.size ∙ sym k.size;
  each = λ u. by u (eqb u t) refl;
}
  where
    shared : (x : ℕ) → owner x ≡ 0 → slice_index m₂ x ≡ slice_index m' x
    shared x s = sym ((on_the_way owner (inputs t) (code_of flat t) (code_of thinner t) t p₂ m₂ (slice_index places' t) is.after (th.codes t) is.stands is.settles).others x (λ o. let z : 0 ≡ suc t = sym s ∙ o in absurd cc)) ∙ is.agrees x (inl s)

    by : (u : ℕ) (b : Bool) → eqb u t ≡ b → IsAhead owner (inputs u) (code_of flat u) (code_of thinner u) u (slice_index (slice_set places t p₂) u) m₂ (slice_index places' u) m'
    by u true e = subst (λ (v : ℕ). IsAhead owner (inputs v) (code_of flat v) (code_of thinner v) v (slice_index (slice_set places t p₂) v) m₂ (slice_index places' v) m') (sym (eqb-true u t e))
        (subst (λ (q : ℕ). IsAhead owner (inputs t) (code_of flat t) (code_of thinner t) t q m₂ (slice_index places' t) m') (sym (word_same places t p₂ (let w = a.wide in omega (arith, w, lt)))) is)
    by u false e = subst (λ (q : ℕ). IsAhead owner (inputs u) (code_of flat u) (code_of thinner u) u q m₂ (slice_index places' u) m') (sym (word_other places t p₂ u (eqb-false u t e)))
        (passes_by owner (inputs u) (code_of flat u) (code_of thinner u) t u (slice_index places u) m (slice_index places' u) m' m₂ m' (eqb-false u t e) (th.codes u) (a.each u) k (keeps_all (Sees owner t) m') shared)

-- the thread t goes in both
moved_both : (owner : ℕ → ℕ) (flat thinner : FlatProgram) (inputs : ℕ → ℕ → ℕ) (places m places' m' : List ℕ) (t p₂ : ℕ) (m₂ : List ℕ) (q : ℕ) (m₂' : List ℕ) → ThinnedBy owner flat thinner
    → Ahead owner flat thinner inputs places m places' m'
    → t < length thinner.threads → Keeps (Sees owner t) m m₂ → Keeps (Sees owner t) m' m₂' → IsAhead owner (inputs t) (code_of flat t) (code_of thinner t) t p₂ m₂ q m₂'
    → Ahead owner flat thinner inputs (slice_set places t p₂) m₂ (slice_set places' t q) m₂'
moved_both owner flat thinner inputs places m places' m' t p₂ m₂ q m₂' th a lt k k' is = record {
  wide = let l = length-set places t p₂ in let w = a.wide in omega (arith, l, w);
  wide' = let l = length-set places' t q in let w = a.wide' in omega (arith, l, w);
  size = k'.size ∙ a.size ∙ sym k.size;
  each = λ u. by u (eqb u t) refl;
}
  where
    shared : (x : ℕ) → owner x ≡ 0 → slice_index m₂ x ≡ slice_index m₂' x
    shared x s = sym ((on_the_way owner (inputs t) (code_of flat t) (code_of thinner t) t p₂ m₂ q is.after (th.codes t) is.stands is.settles).others x (λ o. let z : 0 ≡ suc t = sym s ∙ o in absurd cc)) ∙ is.agrees x (inl s)

    by : (u : ℕ) (b : Bool) → eqb u t ≡ b → IsAhead owner (inputs u) (code_of flat u) (code_of thinner u) u (slice_index (slice_set places t p₂) u) m₂ (slice_index (slice_set places' t q) u) m₂'
    by u true e = subst (λ (v : ℕ). IsAhead owner (inputs v) (code_of flat v) (code_of thinner v) v (slice_index (slice_set places t p₂) v) m₂ (slice_index (slice_set places' t q) v) m₂') (sym (eqb-true u t e))
        (subst (λ (o : ℕ). IsAhead owner (inputs t) (code_of flat t) (code_of thinner t) t o m₂ (slice_index (slice_set places' t q) t) m₂') (sym (word_same places t p₂ (let w = a.wide in omega (arith, w, lt))))
        (subst (λ (o : ℕ). IsAhead owner (inputs t) (code_of flat t) (code_of thinner t) t p₂ m₂ o m₂') (sym (word_same places' t q (let w = a.wide' in omega (arith, w, lt)))) is))
    by u false e = subst (λ (o : ℕ). IsAhead owner (inputs u) (code_of flat u) (code_of thinner u) u o m₂ (slice_index (slice_set places' t q) u) m₂') (sym (word_other places t p₂ u (eqb-false u t e)))
        (subst (λ (o : ℕ). IsAhead owner (inputs u) (code_of flat u) (code_of thinner u) u (slice_index places u) m₂ o m₂') (sym (word_other places' t q u (eqb-false u t e)))
        (passes_by owner (inputs u) (code_of flat u) (code_of thinner u) t u (slice_index places u) m (slice_index places' u) m' m₂ m₂' (eqb-false u t e) (th.codes u) (a.each u) k k' shared))

-- the place that a step leads to is one where the thread may stand
lands : (input : ℕ → ℕ) (code : List MarkedInstruction) (p : ℕ) (m : List ℕ) (q : ℕ) (n : List ℕ) → step input code p m ≡ went q n → BeginsVisible (drop q code)
lands input code p m q n e = (step_lands input code p m q n e).stands

-- ---- the run, step by step

ahead_turn : (owner : ℕ → ℕ) (flat thinner : FlatProgram) (inputs : ℕ → ℕ → ℕ) → ThinnedBy owner flat thinner → (t : ℕ) (rest places m places' m' : List ℕ) → Ahead owner flat thinner inputs places m places' m'
    → (kind : BreakKind) (line : ℕ)
    → ((ps n ps' n' : List ℕ) → Ahead owner flat thinner inputs ps n ps' n' → course flat inputs rest ps n ≡ broken kind line → BreaksOn thinner inputs rest ps' n')
    → (r : Ran) → step (inputs t) (code_of flat t) (slice_index places t) m ≡ r → course_behind r rest (λ place. course flat inputs rest (slice_set places t place)) ≡ broken kind line
    → BreaksOn thinner inputs (t ∷ rest) places' m'
unfolding course step
ahead_turn owner flat thinner inputs th t rest places m places' m' a kind line again r e c = at (drop p code') refl
  where
    p : ℕ
    p = slice_index places t

    p' : ℕ
    p' = slice_index places' t

    code : List MarkedInstruction
    code = code_of flat t

    code' : List MarkedInstruction
    code' = code_of thinner t

    is : IsAhead owner (inputs t) code code' t p m p' m'
    is = a.each t

    sees' : CodeNamesOnly (Sees owner t) code'
    sees' = names_thinned (Sees owner t) (th.codes t) (th.sees t)

    -- the old step, and then on, is the new step from there
    new_step : step (inputs t) code' p m ≡ ran_then r (settle (inputs t) code')
    new_step = step_settles (Own owner t) (inputs t) code code' p m (th.codes t) ∙ ap (λ (x : Ran). ran_then x (settle (inputs t) code')) e

    old_keeps : (q : ℕ) (n : List ℕ) → r ≡ went q n → Keeps (Sees owner t) m n
    old_keeps q n f = subst (KeepsRan (Sees owner t) m) (e ∙ f) (step_keeps (Sees owner t) (inputs t) p (drop p code) m (names_drop (Sees owner t) code p (th.sees t)))

    -- the thread has ended: then it has in the old program too
    at_end : drop p code' ≡ [] → (x : Ran) → r ≡ x → course_behind x rest (λ place. course flat inputs rest (slice_set places t place)) ≡ broken kind line → BreaksOn thinner inputs (t ∷ rest) places' m'
    at_end d (went q n) f c = absurd (onward_real (inputs t) (drop q code') q 0 n (sym (ap (λ (zs : List MarkedInstruction). step_from (inputs t) p zs m) (sym d) ∙ new_step ∙ ap (λ (x : Ran). ran_then x (settle (inputs t) code')) f)))
    at_end d held f c = absurd cc
    at_end d (breaks k l) f c = absurd (let z : ended ≡ breaks k l = ap (λ (zs : List MarkedInstruction). step_from (inputs t) p zs m) (sym d) ∙ new_step ∙ ap (λ (x : Ran). ran_then x (settle (inputs t) code')) f in cc)
    at_end d ended f c = absurd cc

    -- the place is visible no more: the new run has gone on from it
    at_taken : (y : MarkedInstruction) (ys : List MarkedInstruction) → drop p code' ≡ y ∷ ys → y.visible ≡ false → (x : Ran) → r ≡ x
        → course_behind x rest (λ place. course flat inputs rest (slice_set places t place)) ≡ broken kind line → BreaksOn thinner inputs (t ∷ rest) places' m'
    at_taken y ys d v (went q n) f c = let more = again (slice_set places t q) n places' m' (moved_old owner flat thinner inputs places m places' m' t q n th a (has_code thinner.threads t p y ys d) (old_keeps q n f) ahead) c in record {
      new = more.new;
      kind = more.kind;
      line = more.line;
      fits = next more.fits;
      breaks = more.breaks;
    }
      where
        ahead : IsAhead owner (inputs t) code code' t q n p' m'
        ahead = record {
          stands = lands (inputs t) code p m q n (e ∙ f);
          after = is.after;
          settles = sym (sym is.settles ∙ settle_hidden (inputs t) code' p m y ys d v ∙ new_step ∙ ap (λ (x : Ran). ran_then x (settle (inputs t) code')) f);
          agrees = is.agrees;
        }
    at_taken y ys d v held f c = absurd cc
    at_taken y ys d v (breaks k l) f c = absurd (let z : went p' is.after ≡ breaks k l = sym is.settles ∙ settle_hidden (inputs t) code' p m y ys d v ∙ new_step ∙ ap (λ (x : Ran). ran_then x (settle (inputs t) code')) f in cc)
    at_taken y ys d v ended f c = absurd cc

    -- the place is visible still: both threads stand there
    at_kept : (y : MarkedInstruction) (ys : List MarkedInstruction) → drop p code' ≡ y ∷ ys → y.visible ≡ true → (x : Ran) → r ≡ x
        → course_behind x rest (λ place. course flat inputs rest (slice_set places t place)) ≡ broken kind line → BreaksOn thinner inputs (t ∷ rest) places' m'
    at_kept y ys d v x f c = both x f c
      where
        stay_here : went p' is.after ≡ went p m
        stay_here = sym is.settles ∙ settle_visible (inputs t) code' p m y ys d v

        place_of_went : Ran → ℕ
        place_of_went (went q n) = q
        place_of_went held = 0
        place_of_went (breaks k l) = 0
        place_of_went ended = 0

        memory_of_went : Ran → List ℕ
        memory_of_went (went q n) = n
        memory_of_went held = []
        memory_of_went (breaks k l) = []
        memory_of_went ended = []

        here : p' ≡ p
        here = ap place_of_went stay_here

        agree : AgreeOn (Sees owner t) m m'
        agree = subst (λ (n : List ℕ). AgreeOn (Sees owner t) n m') (ap memory_of_went stay_here) is.agrees

        -- the new step, in the new memory
        alike : AlikeRan (Sees owner t) (step (inputs t) code' p m) (step (inputs t) code' p' m')
        alike = subst (λ (q : ℕ). AlikeRan (Sees owner t) (step (inputs t) code' p m) (step (inputs t) code' q m')) (sym here)
            (step_agrees (Sees owner t) (inputs t) p (drop p code') m m' (sym a.size) (names_drop (Sees owner t) code' p sees') agree)

        new_keeps : (q : ℕ) (n : List ℕ) → step (inputs t) code' p' m' ≡ went q n → Keeps (Sees owner t) m' n
        new_keeps q n f = subst (KeepsRan (Sees owner t) m') f (step_keeps (Sees owner t) (inputs t) p' (drop p' code') m' (names_drop (Sees owner t) code' p' sees'))

        -- it breaks in the new program
        breaks_now : (k : BreakKind) (l : ℕ) → step (inputs t) code' p m ≡ breaks k l → BreaksOn thinner inputs (t ∷ rest) places' m'
        breaks_now k l g = record {
          new = t ∷ [];
          kind = k;
          line = l;
          fits = stay nothing;
          breaks = ap (λ (z : Ran). course_behind z [] (λ place. course thinner inputs [] (slice_set places' t place)))
              (breaks_alike (Sees owner t) k l (step (inputs t) code' p' m') (subst (λ (z : Ran). AlikeRan (Sees owner t) z (step (inputs t) code' p' m')) g alike));
        }

        both : (x : Ran) → r ≡ x → course_behind x rest (λ place. course flat inputs rest (slice_set places t place)) ≡ broken kind line → BreaksOn thinner inputs (t ∷ rest) places' m'
        both (went q n) f c = on (settle (inputs t) code' q n) refl
          where
            comes : (z : Ran) → settle (inputs t) code' q n ≡ z → step (inputs t) code' p m ≡ z
            comes z g = new_step ∙ ap (λ (x : Ran). ran_then x (settle (inputs t) code')) f ∙ g

            on : (z : Ran) → settle (inputs t) code' q n ≡ z → BreaksOn thinner inputs (t ∷ rest) places' m'
            on (went q₂ n₂) g = made (went_alike (Sees owner t) q₂ n₂ (step (inputs t) code' p' m') (subst (λ (z : Ran). AlikeRan (Sees owner t) z (step (inputs t) code' p' m')) (comes (went q₂ n₂) g) alike))
              where
                made : AlikeWent (Sees owner t) q₂ n₂ (step (inputs t) code' p' m') → BreaksOn thinner inputs (t ∷ rest) places' m'
                made (alike_went_by n' s agree) =
                    let more = again (slice_set places t q) n (slice_set places' t q₂) n' (moved_both owner flat thinner inputs places m places' m' t q n q₂ n' th a (has_code thinner.threads t p y ys d) (old_keeps q n f) (new_keeps q₂ n' s) (record {
                      stands = lands (inputs t) code p m q n (e ∙ f);
                      after = n₂;
                      settles = g;
                      agrees = agree;
                    })) c in
                    record {
                      new = t ∷ more.new;
                      kind = more.kind;
                      line = more.line;
                      fits = stay (next more.fits);
                      breaks = ap (λ (z : Ran). course_behind z more.new (λ place. course thinner inputs more.new (slice_set places' t place))) s ∙ more.breaks;
                    }
            on held g = absurd (never_held (length thinner.first) (inputs t) q (drop q code') 0 n (code_drop (length thinner.first) code' q (all_at (IsCodeOf (length thinner.first)) thinner.threads t th.well.codes tt)) g)
            on (breaks k l) g = breaks_now k l (comes (breaks k l) g)
            on ended g = absurd (onward_real (inputs t) (drop q code') q 0 n g)
        both held f c = absurd cc
        both (breaks k l) f c = breaks_now k l (new_step ∙ ap (λ (x : Ran). ran_then x (settle (inputs t) code')) f)
        both ended f c = absurd cc

    at : (part : List MarkedInstruction) → drop p code' ≡ part → BreaksOn thinner inputs (t ∷ rest) places' m'
    at [] d = at_end d r refl c
    at (y ∷ ys) d = mark y.visible refl
      where
        mark : (b : Bool) → y.visible ≡ b → BreaksOn thinner inputs (t ∷ rest) places' m'
        mark true v = at_kept y ys d v r refl c
        mark false v = at_taken y ys d v r refl c

ahead_breaks : (owner : ℕ → ℕ) (flat thinner : FlatProgram) (inputs : ℕ → ℕ → ℕ) → ThinnedBy owner flat thinner → (run places m places' m' : List ℕ) → Ahead owner flat thinner inputs places m places' m'
    → (kind : BreakKind) (line : ℕ) → course flat inputs run places m ≡ broken kind line → BreaksOn thinner inputs run places' m'
unfolding course
ahead_breaks owner flat thinner inputs th [] places m places' m' a kind line e = absurd cc
ahead_breaks owner flat thinner inputs th (t ∷ rest) places m places' m' a kind line e =
    ahead_turn owner flat thinner inputs th t rest places m places' m' a kind line (λ ps n ps' n' b. ahead_breaks owner flat thinner inputs th rest ps n ps' n' b kind line)
    (step (inputs t) (code_of flat t) (slice_index places t) m) refl e

-- ---- the opening

zeros : (n t : ℕ) → slice_index (replicate n 0) t ≡ 0
zeros zero zero = refl
zeros zero (suc t) = refl
zeros (suc n) zero = refl
zeros (suc n) (suc t) = zeros n t

begins_ahead : (input : ℕ → ℕ) (code : List MarkedInstruction) (m : List ℕ) → BeginsVisible code → settle input code 0 m ≡ went 0 m
begins_ahead input [] m v = settle_end input [] 0 m refl
begins_ahead input (y ∷ ys) m v = settle_visible input (y ∷ ys) 0 m y ys refl v

opens_ahead : (owner : ℕ → ℕ) (flat thinner : FlatProgram) (inputs : ℕ → ℕ → ℕ) → IsWellMarked flat → ThinnedBy owner flat thinner → Ahead owner flat thinner inputs (opening thinner) thinner.first (opening thinner) thinner.first
opens_ahead owner flat thinner inputs well th = record {
  wide = let long = opening_long (length thinner.threads) in omega (arith, long);
  wide' = let long = opening_long (length thinner.threads) in omega (arith, long);
  size = refl;
  each = λ u. subst (λ (z : ℕ). IsAhead owner (inputs u) (code_of flat u) (code_of thinner u) u z thinner.first z thinner.first) (sym (zeros (length thinner.threads) u)) (record {
    stands = all_at BeginsVisible flat.threads u well.begins tt;
    after = thinner.first;
    settles = begins_ahead (inputs u) (code_of thinner u) thinner.first (all_at BeginsVisible thinner.threads u th.well.begins tt);
    agrees = λ x s. refl;
  });
}

-- broken runs are kept, both ways
pub marks_keep : (owner : ℕ → ℕ) (flat thinner : FlatProgram) → IsWellMarked flat → ThinnedBy owner flat thinner → BreakAlike flat thinner
marks_keep owner flat thinner well th rounds = (there, back)
  where
    there : FlatBroken flat rounds → FlatBroken thinner rounds
    there b =
        let is = b.4 in
        let same : opening thinner ≡ opening flat = ap (λ (n : ℕ). replicate n 0) th.threads in
        let on = ahead_breaks owner flat thinner b.1 th b.0 (opening thinner) thinner.first (opening thinner) thinner.first (opens_ahead owner flat thinner b.1 well th) b.2 b.3
        (ap₂ (λ (ps m : List ℕ). course flat b.1 b.0 ps m) same th.first ∙ is.breaks) in
        let fewer = fits_descents on.fits in (
          on.new,
          b.1,
          on.kind,
          on.line,
          record {
            words = is.words;
            few = let f = is.few in omega (arith, fewer, f);
            breaks = on.breaks;
          },
        )

    back : FlatBroken thinner rounds → FlatBroken flat rounds
    back b = let old = runs_back owner flat thinner th rounds b.0 b.1 b.2 b.3 b.4 in (old.0, b.1, b.2, b.3, old.1)
