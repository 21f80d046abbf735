-- Inner: what a draft stands for.
use Rattle.std.specs.Prelude.{ℕ, ◌<◌, ◌/◌, ◌%◌, length, ⊤}
use Rattle.lz_ssa.specs.declared.draft.Draft.{Draft}
use Rattle.lz_ssa.specs.declared.decode.Decoder.{Decoder}
use Rattle.lz_ssa.specs.declared.decode.Decoder.TheVariants.{Direct, Split}
use Rattle.lz_ssa.specs.declared.statement.Building.{Building}
use Rattle.lz_ssa.specs.Construction.{Drawn, Progress}

-- the nodes that were made so far, and what each word of the memory has
abbrev pub drawn : Draft → Drawn
drawn draft = record { list = draft.list; words = draft.words.items }

-- a decoder has the tests of this place
abbrev pub HasPlaces : Decoder → ℕ → Type 0
HasPlaces (Direct index) place = ⊤
HasPlaces (Split groups places) place = (place / 32 < length groups) × (place % 32 < length places)

-- what was made so far of a program
abbrev pub progress : Building → Progress
progress building = record { drawn = drawn building.draft; alive = building.alive; failed = building.failed }
