-- Inner: two pieces of code, each from its own local values, that do the same but for Loc.
use Rattle.std.specs.Prelude.{◌≡◌, Bool, List, []}
use Rattle.lz_model.specs.Actions.{Act}
use Rattle.lz_model.specs.WithoutLoc.{without_loc}
use Rattle.lz_model.specs.Behaviours.{Outcome, done, exits, cut, Behaviour}

-- two lists of actions are the same but for Loc
pub record SameButLoc (acts like : List Act) : Type 0 where
  pub same : without_loc acts ≡ without_loc like

-- One way: whatever the first does from its local values, the second does from its own, but for Loc. Where both are
-- done, Post holds of the two values and of the local values behind them.
pub record Simulated {S T A B : Type 0} (P : Behaviour S A) (s : S) (Q : Behaviour T B) (t : T) (Post : A → S → B → T → Type 0) : Type 0 where
  pub cuts : (acts : List Act) → P s acts cut → (like : List Act) × SameButLoc acts like × Q t like cut
  pub leaves : (acts : List Act) (whole : Bool) → P s acts (exits whole) → (like : List Act) × SameButLoc acts like × Q t like (exits whole)
  pub ends : (acts : List Act) (after : S) (value : A) → P s acts (done after value) →
      (like : List Act) × (after' : T) × (value' : B) × SameButLoc acts like × Q t like (done after' value') × Post value after value' after'

-- One way, and where Back holds the other way too. The second may be cut at once, and the first where it is done.
pub record Corresponds (Back : Type 0) {S T A B : Type 0} (P : Behaviour S A) (s : S) (Q : Behaviour T B) (t : T) (Post : A → S → B → T → Type 0) : Type 0 where
  pub there : Simulated P s Q t Post
  pub back : Back → Simulated Q t P s (λ value' after' value after. Post value after value' after')
  pub opens : Q t [] cut
  pub lasts : (acts : List Act) (after : S) (value : A) → P s acts (done after value) → P s acts cut

-- code that does nothing but Loc, with this value and these local values behind it
pub record Quiet {S A : Type 0} (P : Behaviour S A) (s : S) (value : A) (after : S) : Type 0 where
  pub opens : P s [] cut
  pub can : (acts : List Act) × SameButLoc [] acts × P s acts (done after value)
  pub cuts : (acts : List Act) → P s acts cut → SameButLoc [] acts
  pub leaves : (acts : List Act) (whole : Bool) → P s acts (exits whole) → ⊥
  pub ends : (acts : List Act) (s' : S) (a : A) → P s acts (done s' a) → SameButLoc [] acts × (s' ≡ after) × (a ≡ value)

-- two forms of one piece of code
pub record SameBehaviour {S A : Type 0} (P Q : Behaviour S A) : Type 0 where
  pub to : (s : S) (acts : List Act) (outcome : Outcome S A) → P s acts outcome → Q s acts outcome
  pub from : (s : S) (acts : List Act) (outcome : Outcome S A) → Q s acts outcome → P s acts outcome

-- code that may be cut at once
pub record Opens {S A : Type 0} (P : Behaviour S A) : Type 0 where
  pub opens : (s : S) → P s [] cut
