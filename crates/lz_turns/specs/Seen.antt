-- Inner: what code may do with Loc left out, from one place and another alike.
use Rattle.std.specs.Prelude.{◌≡◌, ◌⊎◌, List, []}
use Rattle.lz_model.specs.Actions.{Act}
use Rattle.lz_model.specs.Behaviours.{Outcome, cut, Behaviour}
use Rattle.lz_model.specs.WithoutLoc.{without_loc}

-- some list of actions that the code may do, and so end, is this one with Loc left out
pub record Found {S A : Type 0} (code : Behaviour S A) (before : S) (acts : List Act) (outcome : Outcome S A) : Type 0 where
  pub full : List Act
  pub does : code before full outcome
  pub seen : without_loc full ≡ acts

-- the same, or it is cut before its first action
abbrev pub Seen : {S A : Type 0} → Behaviour S A → S → List Act → Outcome S A → Type 0
Seen code before acts outcome = Found code before acts outcome ⊎ ((acts ≡ []) × (outcome ≡ cut))

-- whatever the one may do from these local values, the other may do from those, Loc left out
pub record Follows {S A : Type 0} (one : Behaviour S A) (before : S) (two : Behaviour S A) (after : S) : Type 0 where
  pub leads : (full : List Act) (outcome : Outcome S A) → one before full outcome → Seen two after (without_loc full) outcome

-- both may do the same, Loc left out
pub record Alike {S A : Type 0} (one : Behaviour S A) (before : S) (two : Behaviour S A) (after : S) : Type 0 where
  pub there : Follows one before two after
  pub back : Follows two after one before
