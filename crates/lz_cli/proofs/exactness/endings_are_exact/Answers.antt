use Rattle.lz_cli.proofs.ExactnessLemmas.{default_source, default_named, decided_ends, decided_within, not_built_ends, not_built_within, faulty_ends, slots_ends, cost_ends, not_a_token_ends, not_a_program_ends, too_long_ends, rechecked_ends, proof_too_long_ends, missing_ends, usage_ends, unbuilt_ends, answered_ends, replayed_ends, bad_schedule_ends, long_schedule_ends, missing_schedule_ends, failure_reads, failure_runs}
use Rattle.std.proofs.Common.{inl, inr}
use Rattle.lz_cli.specs.Limits.{defaults}
use Rattle.lz_cli.proofs.SourceLemmas.{one_refused}
use Rattle.lz_cli.proofs.exactness.endings_are_exact.Goals as goal

pub returns-clause-decided : goal.returns-clause-decided
returns-clause-decided c = decided_ends c.one_program.ensures c.broken_in_its_rounds.ensures

pub returns-clause-not_built : goal.returns-clause-not_built
returns-clause-not_built c = not_built_ends c.one_program.ensures

pub returns-clause-faulty : goal.returns-clause-faulty
returns-clause-faulty c = λ call content line rule ending told. faulty_ends c.one_program.ensures call defaults content line rule ending (default_source call content told)

pub returns-clause-many_slots : goal.returns-clause-many_slots
returns-clause-many_slots c = λ call content slots ending told. slots_ends c.one_program.ensures call defaults content slots ending (default_source call content told)

pub returns-clause-high_cost : goal.returns-clause-high_cost
returns-clause-high_cost c = λ call content cost ending told. cost_ends c.one_program.ensures call defaults content cost ending (default_source call content told)

pub returns-clause-not_a_token : goal.returns-clause-not_a_token
returns-clause-not_a_token c = λ call content line place ending told. not_a_token_ends call defaults content line place ending (default_source call content told)

pub returns-clause-not_a_program : goal.returns-clause-not_a_program
returns-clause-not_a_program c = λ call content tokens ending told. not_a_program_ends call defaults content tokens ending (default_source call content told)

pub returns-clause-one_token : goal.returns-clause-one_token
returns-clause-one_token c = one_refused

pub returns-clause-too_long : goal.returns-clause-too_long
returns-clause-too_long c = λ call content ending told. too_long_ends call defaults content ending (default_source call content told)

pub returns-clause-rechecked : goal.returns-clause-rechecked
returns-clause-rechecked c = rechecked_ends

pub returns-clause-proof_too_long : goal.returns-clause-proof_too_long
returns-clause-proof_too_long c = proof_too_long_ends

pub returns-clause-missing : goal.returns-clause-missing
returns-clause-missing c = λ call name ending named. missing_ends call name ending (default_named call.words name named)

pub returns-clause-missing_proof : goal.returns-clause-missing_proof
returns-clause-missing_proof c = λ call name ending named. missing_ends call name ending (inr named)

pub returns-clause-usage : goal.returns-clause-usage
returns-clause-usage c = usage_ends

pub returns-clause-unbuilt : goal.returns-clause-unbuilt
returns-clause-unbuilt c = unbuilt_ends

pub returns-clause-decided_within : goal.returns-clause-decided_within
returns-clause-decided_within c = decided_within c.one_program.ensures c.broken_in_its_rounds.ensures

pub returns-clause-not_built_within : goal.returns-clause-not_built_within
returns-clause-not_built_within c = not_built_within c.one_program.ensures

pub returns-clause-report_is_schedule : goal.returns-clause-report_is_schedule
returns-clause-report_is_schedule c = failure_reads c.only_main_steps.ensures

pub returns-clause-failure_replayed : goal.returns-clause-failure_replayed
returns-clause-failure_replayed c = failure_runs c.one_program.ensures c.one_schedule.ensures c.one_answer.ensures c.only_main_steps.ensures

pub returns-clause-source_faulty : goal.returns-clause-source_faulty
returns-clause-source_faulty c = faulty_ends c.one_program.ensures

pub returns-clause-source_many_slots : goal.returns-clause-source_many_slots
returns-clause-source_many_slots c = slots_ends c.one_program.ensures

pub returns-clause-source_high_cost : goal.returns-clause-source_high_cost
returns-clause-source_high_cost c = cost_ends c.one_program.ensures

pub returns-clause-source_not_a_token : goal.returns-clause-source_not_a_token
returns-clause-source_not_a_token c = not_a_token_ends

pub returns-clause-source_not_a_program : goal.returns-clause-source_not_a_program
returns-clause-source_not_a_program c = not_a_program_ends

pub returns-clause-source_too_long : goal.returns-clause-source_too_long
returns-clause-source_too_long c = too_long_ends

pub returns-clause-source_missing : goal.returns-clause-source_missing
returns-clause-source_missing c = λ call name ending named. missing_ends call name ending (inl named)

pub returns-clause-run_answered : goal.returns-clause-run_answered
returns-clause-run_answered c = answered_ends c.one_program.ensures

pub returns-clause-replayed : goal.returns-clause-replayed
returns-clause-replayed c = replayed_ends c.one_program.ensures c.one_schedule.ensures c.one_answer.ensures

pub returns-clause-bad_schedule : goal.returns-clause-bad_schedule
returns-clause-bad_schedule c = bad_schedule_ends c.one_program.ensures

pub returns-clause-schedule_too_long : goal.returns-clause-schedule_too_long
returns-clause-schedule_too_long c = long_schedule_ends c.one_program.ensures

pub returns-clause-missing_schedule : goal.returns-clause-missing_schedule
returns-clause-missing_schedule c = missing_schedule_ends c.one_program.ensures
