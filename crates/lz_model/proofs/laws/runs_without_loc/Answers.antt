use Rattle.lz_model.specs.Programs.{process_of}
use Rattle.lz_model.proofs.LocLemmas.{bare_run, bare_course, full_run}
use Rattle.lz_model.proofs.ThreadFrontsLemmas.{program_is_open}
use Rattle.lz_model.proofs.laws.runs_without_loc.Goals as goal

pub returns : goal.returns
returns c = record {
  bare = λ p n run is. (bare_run (process_of p n) run is, bare_course (process_of p n) run is);
  full = λ p n run is.
      let found = full_run (process_of p n) (program_is_open p n) run is in
      (found.full, found.is, found.same, found.seen, found.few);
}
