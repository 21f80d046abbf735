-- Inner: Loc left out, of what threads may do and of runs.
use Rattle.std.specs.Prelude.{◌≡◌, Bool, true, false, List, [], ◌∷◌}
use Rattle.lz_model.specs.declared.actions.Event.{Event}
use Rattle.lz_model.specs.Actions.{Act, is_loc}
use Rattle.lz_model.specs.Interleavings.{Process}

-- the first item is left out where the test holds
abbrev pub left_out : {A : Type 0} → Bool → A → List A → List A
left_out true first rest = rest
left_out false first rest = first ∷ rest

-- the actions but Loc
abbrev pub without_loc : List Act → List Act
without_loc [] = []
without_loc (act ∷ acts) = left_out (is_loc act.action) act (without_loc acts)

-- the events but those of Loc
abbrev pub events_without_loc : List Event → List Event
events_without_loc [] = []
events_without_loc (event ∷ run) = left_out (is_loc event.action) event (events_without_loc run)

-- some of these lists of actions is this one with Loc left out
pub record IsSeen (may : List Act → Type 0) (acts : List Act) : Type 0 where
  pub full : List Act
  pub does : may full
  pub seen : without_loc full ≡ acts

-- the process whose threads do the same, Loc left out
abbrev pub bare : Process → Process
bare process = record {
  begins = process.begins;
  main = IsSeen process.main;
  started = λ routine argument. IsSeen (process.started routine argument);
}
