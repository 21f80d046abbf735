-- Loops with local values that hang together: `while`, `for` and `do`, unwound flat.
use Rattle.std.proofs.Common.{◌≡◌, ℕ, zero, suc, ◌≤◌, Bool, true, false, refl, sym, ap, ◌∙◌, subst, arith, le_refl, le_trans}
use Rattle.lz_model.specs.Behaviours.{Behaviour, ends_with, picks}
use Rattle.lz_model.specs.CodeTraces.{Locals, Flow, normal, breaks, continues, returns, turned, turns, do_turns}
use Rattle.lz_agree.proofs.CorrespondsLemmas.{corresponds_value, corresponds_halts, corresponds_less, corresponds_then, corresponds_gives_right}
use Rattle.lz_agree.specs.Correspondence.{Corresponds}
use Rattle.lz_bound.specs.BoundedTraces.{Leaving, through, left, passes, caught, bounded_trace}
use Rattle.lz_bound.specs.BoundedTrees.{BoundedStatement, seq, frame, stuck}
use Rattle.lz_unwind.proofs.PiecesLemmas.{chain_start, chain_then, chain_more}
use Rattle.lz_unwind.specs.Pieces.{Made}
use Rattle.lz_unwind.specs.Relation.{Near, Inlined, Chain}
use Rattle.lz_unwind.specs.Translation.{turns_made, do_turns_made}

pub inlined_then : {o l m m' m'' v : ℕ} {t s1 t1 s2 t2 : Locals} → Chain o l m m' t s1 t1 → Inlined o l m' m'' t1 v s2 t2 → Inlined o l m m'' t v s2 t2
inlined_then c h = record { unused = h.unused; handles = h.handles; kept = record { same = λ k p q. h.kept.same k (omega (arith, c.grows)) q ∙ c.same k p q }; value = h.value }

pub inlined_more : {o l m m' m'' v : ℕ} {t s2 t2 : Locals} → m' ≤ m'' → Inlined o l m m' t v s2 t2 → Inlined o l m m'' t v s2 t2
inlined_more g h = record { unused = λ k p. h.unused k (le_trans g p); handles = h.handles; kept = h.kept; value = h.value }

-- how the two sides lead on; break and continue in loops alone
abbrev pub Leads : Bool → ℕ → ℕ → ℕ → ℕ → Locals → Flow → Locals → Leaving → Locals → Type 0
Leads b o l m m' t normal s' w t' = (w ≡ through) × Chain o l m m' t s' t'
Leads b o l m m' t breaks s' w t' = (w ≡ left 0) × Chain o l m m' t s' t' × (b ≡ true)
Leads b o l m m' t continues s' w t' = (w ≡ left 1) × Chain o l m m' t s' t' × (b ≡ true)
Leads b o l m m' t (returns k v) s' w t' = (w ≡ left 2) × Inlined o l m m' t v s' t'

pub record Leading (b : Bool) (o l m m' : ℕ) (t : Locals) (flow : Flow) (s' : Locals) (w : Leaving) (t' : Locals) : Type 0 where
  pub is : Leads b o l m m' t flow s' w t'

-- after the frame of a turn
abbrev pub Turn : ℕ → ℕ → ℕ → ℕ → Locals → Flow → Locals → Leaving → Locals → Type 0
Turn o l m m' t normal s' w t' = (w ≡ through) × Chain o l m m' t s' t'
Turn o l m m' t breaks s' w t' = (w ≡ left 0) × Chain o l m m' t s' t'
Turn o l m m' t continues s' w t' = (w ≡ through) × Chain o l m m' t s' t'
Turn o l m m' t (returns k v) s' w t' = (w ≡ left 2) × Inlined o l m m' t v s' t'

pub record Turning (o l m m' : ℕ) (t : Locals) (flow : Flow) (s' : Locals) (w : Leaving) (t' : Locals) : Type 0 where
  pub is : Turn o l m m' t flow s' w t'

turn_of : {b : Bool} {o l m m' : ℕ} {t s' t' : Locals} (w : Leaving) (flow : Flow) → Leading b o l m m' t flow s' w t' → Turning o l m m' t flow s' (caught 1 w) t'
turn_of w normal h = record { is = (ap (caught 1) h.is.0, h.is.1) }
turn_of w breaks h = record { is = (ap (caught 1) h.is.0, h.is.1) }
turn_of w continues h = record { is = (ap (caught 1) h.is.0, h.is.1) }
turn_of w (returns k v) h = record { is = (ap (caught 1) h.is.0, h.is.1) }

-- after the turns, within the frame of the loop: it is left to that frame, or out of the function
abbrev pub Turns : ℕ → ℕ → ℕ → ℕ → Locals → Flow → Locals → Leaving → Locals → Type 0
Turns o l m m' t normal s' w t' = (w ≡ left 0) × Chain o l m m' t s' t'
Turns o l m m' t breaks s' w t' = ⊥
Turns o l m m' t continues s' w t' = ⊥
Turns o l m m' t (returns k v) s' w t' = (w ≡ left 2) × Inlined o l m m' t v s' t'

pub record Turnings (o l m m' : ℕ) (t : Locals) (flow : Flow) (s' : Locals) (w : Leaving) (t' : Locals) : Type 0 where
  pub is : Turns o l m m' t flow s' w t'

turns_then : {o l m m' m'' : ℕ} {t s1 t1 s2 t2 : Locals} {w : Leaving} (flow : Flow) → Chain o l m m' t s1 t1 → Turnings o l m' m'' t1 flow s2 w t2 → Turnings o l m m'' t flow s2 w t2
turns_then normal c h = record { is = (h.is.0, chain_then c h.is.1) }
turns_then breaks c h = absurd h.is
turns_then continues c h = absurd h.is
turns_then (returns k v) c h = record { is = (h.is.0, inlined_then c h.is.1) }

-- after the loop
pub loop_of : {b : Bool} {o l m m' : ℕ} {t s' t' : Locals} (w : Leaving) (flow : Flow) → Turnings o l m m' t flow s' w t' → Leading b o l m m' t flow s' (caught 0 w) t'
loop_of w normal h = record { is = (ap (caught 0) h.is.0, h.is.1) }
loop_of w breaks h = absurd h.is
loop_of w continues h = absurd h.is
loop_of w (returns k v) h = record { is = (ap (caught 0) h.is.0, h.is.1) }

module _ {Back : Type 0} {S A : Type 0} where
  pub through_passes : {P : Behaviour S A} {s : S} {w : Leaving} (R : Behaviour Locals Leaving) {t : Locals} {Post : A → S → Leaving → Locals → Type 0} → w ≡ through → Corresponds Back P s R t Post → Corresponds Back P s (passes w R) t Post
  through_passes {P} {s} {w} R {t} {Post} e h = subst (λ z. Corresponds Back P s (passes z R) t Post) (sym e) h

  pub left_passes : {P : Behaviour S A} {s : S} {w : Leaving} {j : ℕ} (R : Behaviour Locals Leaving) {t : Locals} {Post : A → S → Leaving → Locals → Type 0} → w ≡ left j → Corresponds Back P s (ends_with (left j)) t Post → Corresponds Back P s (passes w R) t Post
  left_passes {P} {s} {w} {j} R {t} {Post} e h = subst (λ z. Corresponds Back P s (passes z R) t Post) (sym e) h

-- the unused numbers only move up
pub turns_grow : (test_code body change_code : ℕ → Made) → ((m : ℕ) → m ≤ (test_code m).next) → ((m : ℕ) → m ≤ (body m).next) → ((m : ℕ) → m ≤ (change_code m).next) → (n m : ℕ) → m ≤ (turns_made test_code body change_code n m).next
turns_grow test_code body change_code test_grows body_grows change_grows zero m = test_grows m
turns_grow test_code body change_code test_grows body_grows change_grows (suc n) m = le_trans (test_grows m) (le_trans (body_grows (test_code m).next) (le_trans (change_grows (body (test_code m).next).next) (turns_grow test_code body change_code test_grows body_grows change_grows n (change_code (body (test_code m).next).next).next)))

pub do_turns_grow : (test_code body : ℕ → Made) → ((m : ℕ) → m ≤ (test_code m).next) → ((m : ℕ) → m ≤ (body m).next) → (n m : ℕ) → m ≤ (do_turns_made test_code body n m).next
do_turns_grow test_code body test_grows body_grows zero m = le_refl m
do_turns_grow test_code body test_grows body_grows (suc n) m = le_trans (body_grows m) (le_trans (test_grows (body m).next) (do_turns_grow test_code body test_grows body_grows n (test_code (body m).next).next))

-- What is known of a test: the source tests and goes on, the tree is out of the loop where the test fails. Of a step: it
-- comes before what follows. Of a body: it leads on.
module _ {Back : Type 0} (o l : ℕ) (test : (Bool → Behaviour Locals Flow) → Behaviour Locals Flow) (code : Behaviour Locals Flow) (change : Behaviour Locals Flow → Behaviour Locals Flow)
    (test_code body change_code : ℕ → Made)
    (test_grows : (m : ℕ) → m ≤ (test_code m).next) (body_grows : (m : ℕ) → m ≤ (body m).next) (change_grows : (m : ℕ) → m ≤ (change_code m).next)
    (tests : (m : ℕ) (s t : Locals) (next : Bool → Behaviour Locals Flow) (rest : BoundedStatement) (Post : Flow → Locals → Leaving → Locals → Type 0) → Near o l m s t →
    ((s1 t1 : Locals) → Chain o l m (test_code m).next t s1 t1 → Corresponds Back (next true) s1 (bounded_trace rest) t1 Post) →
    ((s1 t1 : Locals) → Chain o l m (test_code m).next t s1 t1 → Corresponds Back (next false) s1 (ends_with (left 0)) t1 Post) →
    Corresponds Back (test next) s (bounded_trace (seq (test_code m).tree rest)) t Post)
    (changes : (m : ℕ) (s t : Locals) (next : Behaviour Locals Flow) (rest : BoundedStatement) (Post : Flow → Locals → Leaving → Locals → Type 0) → Near o l m s t →
    ((s1 t1 : Locals) → Chain o l m (change_code m).next t s1 t1 → Corresponds Back next s1 (bounded_trace rest) t1 Post) →
    Corresponds Back (change next) s (bounded_trace (seq (change_code m).tree rest)) t Post)
    (inner : (m : ℕ) (s t : Locals) → Near o l m s t → Corresponds Back code s (bounded_trace (body m).tree) t (λ flow s' w t'. Leading true o l m (body m).next t flow s' w t')) where
  after : {m m1 m2 m3 last : ℕ} {t s1 t1 s2 t2 : Locals} {w : Leaving} {again : Behaviour Locals Flow} {R : Behaviour Locals Leaving} (flow : Flow) → Chain o l m m1 t s1 t1 → m3 ≤ last → m2 ≤ last → Turning o l m1 m2 t1 flow s2 w t2 →
      ((s t : Locals) → Near o l m2 s t → Corresponds Back again s R t (λ flow s' w t'. Turnings o l m2 last t flow s' w t')) →
      Corresponds Back (turned flow again) s2 (passes w R) t2 (λ flow s' w t'. Turnings o l m last t flow s' w t')
  after {R = R} normal c b1 b2 g again = through_passes R g.is.0 (corresponds_less (again _ _ g.is.1.near) (λ flow s' w t' x. turns_then flow (chain_then c g.is.1) x))
  after {R = R} continues c b1 b2 g again = through_passes R g.is.0 (corresponds_less (again _ _ g.is.1.near) (λ flow s' w t' x. turns_then flow (chain_then c g.is.1) x))
  after {R = R} breaks c b1 b2 g again = left_passes R g.is.0 (corresponds_value (record { is = (refl, chain_more b2 (chain_then c g.is.1)) }))
  after {R = R} (returns k v) c b1 b2 g again = left_passes R g.is.0 (corresponds_value (record { is = (refl, inlined_more b2 (inlined_then c g.is.1)) }))

  pub turns_correspond : (n m : ℕ) (s t : Locals) → Near o l m s t →
      Corresponds Back (turns test code change n) s (bounded_trace (turns_made test_code body change_code n m).tree) t (λ flow s' w t'. Turnings o l m (turns_made test_code body change_code n m).next t flow s' w t')
  turns_correspond zero m s t near = tests m s t _ stuck _ near (λ s1 t1 c. corresponds_halts) (λ s1 t1 c. corresponds_value (record { is = (refl, c) }))
  turns_correspond (suc n) m s t near =
      let m1 = (test_code m).next in let m2 = (body m1).next in let m3 = (change_code m2).next in
      let rest3 = (turns_made test_code body change_code n m3).tree in
      tests m s t _ (seq (frame 1 (body m1).tree) (seq (change_code m2).tree rest3)) _ near
      (λ s1 t1 c. corresponds_then (corresponds_gives_right (corresponds_less (inner m1 s1 t1 c.near) (λ flow s2 w t2 g. turn_of w flow g)))
      (λ flow s2 w t2 g. after flow c (turns_grow test_code body change_code test_grows body_grows change_grows n m3) (le_trans (change_grows m2) (turns_grow test_code body change_code test_grows body_grows change_grows n m3)) g
      (λ s3 t3 near3. changes m2 s3 t3 (turns test code change n) rest3 _ near3 (λ s4 t4 c4. corresponds_less (turns_correspond n m3 s4 t4 c4.near) (λ flow s' w t' x. turns_then flow c4 x)))))
      (λ s1 t1 c. corresponds_value (record { is = (refl, chain_more (le_trans (body_grows m1) (le_trans (change_grows m2) (turns_grow test_code body change_code test_grows body_grows change_grows n m3))) c) }))

  pub do_turns_correspond : (n m : ℕ) (s t : Locals) → Near o l m s t →
      Corresponds Back (do_turns test code n) s (bounded_trace (do_turns_made test_code body n m).tree) t (λ flow s' w t'. Turnings o l m (do_turns_made test_code body n m).next t flow s' w t')
  do_turns_correspond zero m s t near = corresponds_halts
  do_turns_correspond (suc n) m s t near =
      let m1 = (body m).next in let m2 = (test_code m1).next in
      corresponds_then (corresponds_gives_right (corresponds_less (inner m s t near) (λ flow s2 w t2 g. turn_of w flow g)))
      (λ flow s2 w t2 g. after flow (chain_start near) (le_refl (do_turns_made test_code body n m2).next) (le_trans (test_grows m1) (do_turns_grow test_code body test_grows body_grows n m2)) g
      (λ s3 t3 near3. tests m1 s3 t3 (λ again. picks again (do_turns test code n) (ends_with normal)) (do_turns_made test_code body n m2).tree _ near3
      (λ s4 t4 c4. corresponds_less (do_turns_correspond n m2 s4 t4 c4.near) (λ flow s' w t' x. turns_then flow c4 x))
      (λ s4 t4 c4. corresponds_value (record { is = (refl, chain_more (do_turns_grow test_code body test_grows body_grows n m2) c4) }))))
