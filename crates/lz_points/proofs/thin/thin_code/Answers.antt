use Rattle.std.proofs.Common.{length}
use Rattle.lz_points.specs.Tags.{owns_instruction}
use Rattle.lz_points.proofs.LoopsLemmas.{within_back}
use Rattle.lz_points.proofs.thin.thin_code.Goals as goal

pub forth_pass-requires : goal.forth_pass-requires
forth_pass-requires c = record { within = within_back (length c.args.tags.now) (owns_instruction c.args.tags.now c.args.tag) _ _ c.back_pass.ensures c.requires.within }
