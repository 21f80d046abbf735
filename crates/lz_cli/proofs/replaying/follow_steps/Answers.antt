use Rattle.std.proofs.Common.{◌≡◌, true}
use Rattle.lz_cli.proofs.EndingLemmas.{is_replayed}
use Rattle.lz_cli.proofs.replaying.follow_steps.Goals as goal

pub replay-requires : goal.replay-requires
replay-requires c =
    let fits : c.program_fits.result ≡ true = cc in
    record { calls = c.requires; fit = c.program_fits.ensures.fits fits }

pub returns-clause-lawful : goal.returns-clause-lawful
returns-clause-lawful c = λ call bytes text by_ reads meaning. is_replayed by_ reads meaning c.in_ok-answer.ensures
