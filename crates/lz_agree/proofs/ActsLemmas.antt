-- Lists of actions that are the same but for Loc.
use Rattle.std.proofs.Common.{◌≡◌, List, ◌++◌, sym, ap, ap₂, ◌∙◌}
use Rattle.lz_model.specs.Actions.{Act}
use Rattle.lz_model.specs.WithoutLoc.{without_loc}
use Rattle.lz_model.proofs.OneRunLemmas.{without_loc-append}
use Rattle.lz_agree.specs.Correspondence.{SameButLoc}

-- the other way round
pub but_loc_flip : {a b : List Act} → SameButLoc a b → SameButLoc b a
but_loc_flip e = record { same = sym e.same }

-- equal lists
pub but_loc_same : {a b : List Act} → a ≡ b → SameButLoc a b
but_loc_same e = record { same = ap without_loc e }

-- two such steps make one
pub but_loc_trans : {a b c : List Act} → SameButLoc a b → SameButLoc b c → SameButLoc a c
but_loc_trans e f = record { same = e.same ∙ f.same }

-- the parts are alike, so the wholes are
pub but_loc_joined : {acts front rest like like' : List Act} → acts ≡ front ++ rest → SameButLoc front like → SameButLoc rest like' → SameButLoc acts (like ++ like')
but_loc_joined {acts} {front} {rest} {like} {like'} e f r = record {
  same = ap without_loc e ∙ without_loc-append front rest ∙ ap₂ ◌++◌ f.same r.same ∙ sym (without_loc-append like like');
}
