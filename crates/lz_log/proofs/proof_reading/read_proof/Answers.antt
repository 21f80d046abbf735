use Rattle.lz_log.proofs.TextLemmas.{text_reads_back}
use Rattle.lz_log.proofs.proof_reading.read_proof.Goals as goal

pub returns-clause-back : goal.returns-clause-back
returns-clause-back c = text_reads_back c.args.bytes.now c.read_lines.result c.requires c.read_lines.ensures
