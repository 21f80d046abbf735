use Rattle.lz_model.specs.Programs.{process_of}
use Rattle.lz_model.proofs.LocLemmas.{bare_breaks, full_breaks}
use Rattle.lz_model.proofs.ThreadFrontsLemmas.{program_is_open}
use Rattle.lz_model.proofs.laws.broken_without_loc.Goals as goal

pub returns : goal.returns
returns c = record {
  bare = λ p n run kind line is. bare_breaks (process_of p n) run kind line is;
  full = λ p n run kind line is.
      let found = full_breaks (process_of p n) (program_is_open p n) run kind line is in
      (found.full, found.broken_, found.seen, found.few);
}
