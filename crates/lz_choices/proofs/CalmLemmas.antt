-- Code that creates no thread and takes no input, and that waits on a condition in one piece: it stays so however it is put together.
use Rattle.std.proofs.Common.{◌≡◌, ℕ, inl, inr, Bool, true, false, List, [], ◌∷◌, ◌++◌, Option, Some, None, sym, ◌∙◌, ap, subst}
use Rattle.lz_model.specs.declared.actions.Action.{Action}
use Rattle.lz_model.specs.declared.actions.Action.TheVariants.{Loc, Input, Check, Assume, Rd, Wr, Reset, Lock, Unlock, Park, Wake, Signal, Broadcast, Create, Join, HoldOn, HoldOff, End}
use Rattle.lz_model.specs.Actions.{Act}
use Rattle.lz_model.specs.Behaviours.{Outcome, done, exits, cut, Behaviour, ends_with, halts, leaves, updates, tells, chooses, GoesOn, ◌and_then◌, ◌gives◌, picks}
use Rattle.lz_model.specs.CodeTraces.{Locals, entered, in_frame}

-- ---- what a thread does

-- whether a thread is parked behind an action that it does when it is not, or none where calm code does no such action
abbrev pub behind_awake : Action → Option Bool
behind_awake Loc = Some false
behind_awake (Input value) = None
behind_awake (Check value kind) = Some false
behind_awake (Assume value) = Some false
behind_awake (Rd cell value) = Some false
behind_awake (Wr cell value) = Some false
behind_awake (Reset mutex) = Some false
behind_awake (Lock mutex) = Some false
behind_awake (Unlock mutex) = Some false
behind_awake (Park cond mutex) = Some true
behind_awake (Wake cond mutex) = None
behind_awake (Signal cond woken) = Some false
behind_awake (Broadcast cond) = Some false
behind_awake (Create thread start value) = None
behind_awake (Join thread) = Some false
behind_awake HoldOn = Some false
behind_awake HoldOff = Some false
behind_awake (End whole) = Some false

-- the same when it is parked
abbrev pub behind_parked : Action → Option Bool
behind_parked Loc = None
behind_parked (Input value) = None
behind_parked (Check value kind) = None
behind_parked (Assume value) = None
behind_parked (Rd cell value) = None
behind_parked (Wr cell value) = None
behind_parked (Reset mutex) = None
behind_parked (Lock mutex) = None
behind_parked (Unlock mutex) = None
behind_parked (Park cond mutex) = None
behind_parked (Wake cond mutex) = Some false
behind_parked (Signal cond woken) = None
behind_parked (Broadcast cond) = None
behind_parked (Create thread start value) = None
behind_parked (Join thread) = None
behind_parked HoldOn = None
behind_parked HoldOff = None
behind_parked (End whole) = None

-- the same, by whether it is parked
abbrev pub behind : Bool → Action → Option Bool
behind false action = behind_awake action
behind true action = behind_parked action

-- what follows, where something is known
abbrev pub carries : Option Bool → (Bool → Option Bool) → Option Bool
carries None next = None
carries (Some parked) next = next parked

-- whether a thread is parked behind these actions, from whether it is before
abbrev pub walk : Bool → List Act → Option Bool
walk parked [] = Some parked
walk parked (act ∷ acts) = carries (behind parked act.action) (λ later. walk later acts)

joined_by : (o : Option Bool) (xs ys : List Act) (c : Bool) → ((d : Bool) → walk d xs ≡ Some c → walk d (xs ++ ys) ≡ walk c ys)
    → carries o (λ later. walk later xs) ≡ Some c → carries o (λ later. walk later (xs ++ ys)) ≡ walk c ys
joined_by None xs ys c ih e = absurd cc
joined_by (Some d) xs ys c ih e = ih d e

-- actions one behind the other
pub walk_join : (xs ys : List Act) (b c : Bool) → walk b xs ≡ Some c → walk b (xs ++ ys) ≡ walk c ys
walk_join [] ys b c e = let same : b ≡ c = cc in ap (λ (d : Bool). walk d ys) same
walk_join (a ∷ xs) ys b c e = joined_by (behind b a.action) xs ys c (λ d h. walk_join xs ys d c h) e

-- ---- calm code

-- code that is done or left is not parked behind its actions
abbrev pub CalmEnd : {S A : Type 0} → Outcome S A → Option Bool → Type 0
CalmEnd (done t v) at = at ≡ Some false
CalmEnd (exits w) at = at ≡ Some false
CalmEnd cut at = (parked : Bool) × (at ≡ Some parked)

-- each way through the code is so
pub record Calm {S A : Type 0} (code : Behaviour S A) : Type 0 where
  pub calm : (before : S) (acts : List Act) (outcome : Outcome S A) → code before acts outcome → CalmEnd outcome (walk false acts)

module _ {S A B : Type 0} where
  pub calm_then : {code : Behaviour S A} {next : A → Behaviour S B} → Calm code → ((v : A) → Calm (next v)) → Calm (code and_then next)
  calm_then {code} {next} p q = record { calm = λ s acts o h. of s acts o h }
    where
      go : (s : S) (acts : List Act) (o : Outcome S B) → GoesOn code next s acts o → CalmEnd o (walk false acts)
      go s acts o g =
          let first : walk false g.front ≡ Some false = p.calm s g.front (done g.middle g.value) g.starts in
          let is : walk false acts ≡ walk false g.rest = ap (walk false) g.joined ∙ walk_join g.front g.rest false false first in
          subst (λ (at : Option Bool). CalmEnd o at) (sym is) ((q g.value).calm g.middle g.rest o g.goes)

      of : (s : S) (acts : List Act) (o : Outcome S B) → (code and_then next) s acts o → CalmEnd o (walk false acts)
      of s acts (done t v) h = go s acts (done t v) h.is
      of s acts (exits w) h = elim h.is [ inl c ↦ p.calm s acts (exits w) c | inr g ↦ go s acts (exits w) g ]
      of s acts cut h = elim h.is [ inl c ↦ p.calm s acts cut c | inr g ↦ go s acts cut g ]

  pub calm_gives : {code : Behaviour S A} {f : A → B} → Calm code → Calm (code gives f)
  calm_gives {code} {f} p = record { calm = λ s acts o h. of s acts o h }
    where
      of : (s : S) (acts : List Act) (o : Outcome S B) → (code gives f) s acts o → CalmEnd o (walk false acts)
      of s acts (done t v) h = p.calm s acts (done t h.is.0) h.is.1
      of s acts (exits w) h = p.calm s acts (exits w) h.is
      of s acts cut h = p.calm s acts cut h.is

one_act : (act : Act) (acts : List Act) (b c : Bool) → behind b act.action ≡ Some c → acts ≡ act ∷ [] → walk b acts ≡ Some c
one_act act acts b c e is = ap (walk b) is ∙ ap (λ (o : Option Bool). carries o (λ later. walk later [])) e

module _ {S A : Type 0} where
  pub calm_value : {v : A} → Calm {S = S} (ends_with v)
  calm_value {v} = record { calm = λ s acts o h. of s acts o h }
    where
      of : (s : S) (acts : List Act) (o : Outcome S A) → ends_with v s acts o → CalmEnd o (walk false acts)
      of s acts (done t w) h = ap (walk false) h.is.0
      of s acts (exits w) h = absurd h.is
      of s acts cut h = (false, ap (walk false) h.is)

  pub calm_halts : Calm {S = S} {A = A} halts
  calm_halts = record { calm = λ s acts o h. of s acts o h }
    where
      of : (s : S) (acts : List Act) (o : Outcome S A) → halts s acts o → CalmEnd o (walk false acts)
      of s acts (done t w) h = absurd h.is
      of s acts (exits w) h = absurd h.is
      of s acts cut h = (false, ap (walk false) h.is)

  pub calm_leaves : {w : Bool} → Calm {S = S} {A = A} (leaves w)
  calm_leaves {w} = record { calm = λ s acts o h. of s acts o h }
    where
      of : (s : S) (acts : List Act) (o : Outcome S A) → leaves w s acts o → CalmEnd o (walk false acts)
      of s acts (done t v) h = absurd h.is
      of s acts (exits v) h = ap (walk false) h.is.0
      of s acts cut h = (false, ap (walk false) h.is)

  pub calm_updates : {act : Act} {f : S → S} {v : A} → behind false act.action ≡ Some false → Calm (updates act f v)
  calm_updates {act} {f} {v} e = record { calm = λ s acts o h. of s acts o h }
    where
      of : (s : S) (acts : List Act) (o : Outcome S A) → updates act f v s acts o → CalmEnd o (walk false acts)
      of s acts (done t w) h = one_act act acts false false e h.is.0
      of s acts (exits w) h = absurd h.is
      of s acts cut h = elim h.is [ inl k ↦ (false, ap (walk false) k) | inr k ↦ (false, one_act act acts false false e k) ]

  pub calm_tells : {act : Act} {f : S → A} → behind false act.action ≡ Some false → Calm (tells act f)
  calm_tells {act} {f} e = record { calm = λ s acts o h. of s acts o h }
    where
      of : (s : S) (acts : List Act) (o : Outcome S A) → tells act f s acts o → CalmEnd o (walk false acts)
      of s acts (done t w) h = one_act act acts false false e h.is.0
      of s acts (exits w) h = absurd h.is
      of s acts cut h = elim h.is [ inl k ↦ (false, ap (walk false) k) | inr k ↦ (false, one_act act acts false false e k) ]

  pub calm_picks : (b : Bool) {yes other : Behaviour S A} → Calm yes → Calm other → Calm (picks b yes other)
  calm_picks true p q = p
  calm_picks false p q = q

module _ {S A B : Type 0} where
  pub calm_chooses : {may : B → Type 0} {next : B → Behaviour S A} → ((v : B) → Calm (next v)) → Calm (chooses may next)
  calm_chooses q = record { calm = λ s acts o h. (q h.value).calm s acts o h.is }

  -- both halves of a wait
  pub calm_waits : {park wake : Act} {f g : S → S} {v : A} {w : B} → behind false park.action ≡ Some true → behind true wake.action ≡ Some false
      → Calm (updates park f v and_then λ _. updates wake g w)
  calm_waits {park} {wake} {f} {g} {v} {w} parks wakes = record { calm = λ s acts o h. of s acts o h }
    where
      go : (s : S) (acts : List Act) (o : Outcome S B) → GoesOn (updates park f v) (λ _. updates wake g w) s acts o → CalmEnd o (walk false acts)
      go s acts o n =
          let first : walk false n.front ≡ Some true = one_act park n.front false true parks n.starts.is.0 in
          let is : walk false acts ≡ walk true n.rest = ap (walk false) n.joined ∙ walk_join n.front n.rest false true first in
          subst (λ (at : Option Bool). CalmEnd o at) (sym is) (then n.middle n.rest o n.goes)
        where
          then : (s : S) (acts : List Act) (o : Outcome S B) → updates wake g w s acts o → CalmEnd o (walk true acts)
          then s acts (done t u) h = one_act wake acts true false wakes h.is.0
          then s acts (exits u) h = absurd h.is
          then s acts cut h = elim h.is [ inl k ↦ (true, ap (walk true) k) | inr k ↦ (false, one_act wake acts true false wakes k) ]

      starts : (s : S) (acts : List Act) → updates park f v s acts cut → (b : Bool) × (walk false acts ≡ Some b)
      starts s acts h = elim h.is [ inl k ↦ (false, ap (walk false) k) | inr k ↦ (true, one_act park acts false true parks k) ]

      of : (s : S) (acts : List Act) (o : Outcome S B) → (updates park f v and_then λ _. updates wake g w) s acts o → CalmEnd o (walk false acts)
      of s acts (done t u) h = go s acts (done t u) h.is
      of s acts (exits u) h = elim h.is [ inl c ↦ absurd c.is | inr n ↦ go s acts (exits u) n ]
      of s acts cut h = elim h.is [ inl c ↦ starts s acts c | inr n ↦ go s acts cut n ]

module _ {A : Type 0} where
  pub calm_frame : {arguments : List ℕ} {body : Behaviour Locals A} → Calm body → Calm (in_frame arguments body)
  calm_frame {arguments} {body} p = record { calm = λ s acts o h. of s acts o h }
    where
      of : (s : Locals) (acts : List Act) (o : Outcome Locals A) → in_frame arguments body s acts o → CalmEnd o (walk false acts)
      of s acts (done t v) h = p.calm (entered arguments s) acts (done h.is.0 v) h.is.1
      of s acts (exits w) h = p.calm (entered arguments s) acts (exits w) h.is
      of s acts cut h = p.calm (entered arguments s) acts cut h.is
