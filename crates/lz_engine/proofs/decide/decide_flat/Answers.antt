use Rattle.std.proofs.Common.{rules}
use Rattle.lz_log.proofs.SoundnessLemmas.{no_model}
use Rattle.lz_solve.specs.Solving.{IsRefuted}
use Rattle.lz_engine.proofs.decide.decide_flat.Goals as goal

pub returns-in-Sat : goal.returns-in-Sat
returns-in-Sat c = record {
  model_ = search rules;
  tells = c.in_ok-straight.ensures.tells;
  broken_ = c.in_ok-straight.ensures.of.exact.0 (c.in-Sat.model, search rules);
}

pub returns-in-Unsat : goal.returns-in-Unsat
returns-in-Unsat c =
    let refuted : IsRefuted c.in_ok-straight.field-0.blasted.formula c.args.conflicts c.in-Unsat.log = search rules in
    record {
      of = c.in_ok-straight.ensures.of;
      refuted = refuted;
      unbroken = λ b. no_model c.in_ok-straight.field-0.blasted.formula c.in-Unsat.log refuted.refutes (c.in_ok-straight.ensures.of.exact.1 b);
    }
