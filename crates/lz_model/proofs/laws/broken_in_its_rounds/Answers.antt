use Rattle.lz_model.specs.Programs.{process_of}
use Rattle.lz_model.proofs.ScheduleLemmas.{breaks_in_its_rounds}
use Rattle.lz_model.proofs.ThreadFrontsLemmas.{program_is_open}
use Rattle.lz_model.proofs.laws.broken_in_its_rounds.Goals as goal

pub returns : goal.returns
returns c = λ p n run schedule kind line is follows.
    let found = breaks_in_its_rounds (process_of p n) (program_is_open p n) run schedule kind line is follows in
    (found.run, found.broken_, found.follows, found.rounds)
