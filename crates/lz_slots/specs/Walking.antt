-- Inner: what the walks over a program are given, as the definitions read it.
use Rattle.std.specs.Prelude.{ℕ, ◌+◌, List, slice_index}
use Rattle.lz_slots.specs.declared.sites.SiteWeight.{SiteWeight}
use Rattle.lz_slots.specs.declared.sites.SiteWeight.TheVariants.{One, Thread}
use Rattle.lz_slots.specs.CostTable.{thread_number}
use Rattle.lz_slots.specs.Costs.{Rates}
use Rattle.lz_slots.specs.Slots.{SiteRates}

-- the rates with the costs of bodies from a list
abbrev pub rates_of : (turns threads : ℕ) → List ℕ → Rates
rates_of turns threads bodies = record { turns = turns; threads = threads; bodies = slice_index bodies }

-- the number of a site: 1, or the cost of the thread that it starts
abbrev pub weight_of : SiteWeight → List ℕ → ℕ → ℕ
weight_of One costs f = 1
weight_of Thread costs f = thread_number + slice_index costs f

-- the rates of sites with the sites of bodies from a list
abbrev pub site_rates_of : ℕ → SiteWeight → (costs bodies : List ℕ) → SiteRates
site_rates_of turns weight costs bodies = record { turns = turns; weights = weight_of weight costs; bodies = slice_index bodies }
