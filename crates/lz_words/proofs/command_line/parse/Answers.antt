use Rattle.std.proofs.Common.{◌≡◌, ◌∙◌, [], ap, subst}
use Rattle.clap.specs.Walk.{texts}
use Rattle.clap.specs.Simple.{App, is_simple, matches_of}
use Rattle.clap.specs.Faults.{fault_of, is_simple_and_free}
use Rattle.lz_words.proofs.CommandLineLemmas.{simple_line, free_line, no_cause}
use Rattle.lz_words.proofs.command_line.parse.Goals as goal

pub returns-in-Ok-try_get_matches_from-clause-taken : goal.returns-in-Ok-try_get_matches_from-clause-taken
returns-in-Ok-try_get_matches_from-clause-taken c =
    subst (λ (a : App). fault_of a (texts c.args.words.now) ≡ []) c.in-Ok.ensures
    (c.in-Ok-try_get_matches_from.ensures.kinds (ap is_simple_and_free c.in-Ok.ensures ∙ free_line))

pub returns-in-Ok-try_get_matches_from-clause-rows : goal.returns-in-Ok-try_get_matches_from-clause-rows
returns-in-Ok-try_get_matches_from-clause-rows c =
    (c.in-Ok-try_get_matches_from.ensures.matches (ap is_simple c.in-Ok.ensures ∙ simple_line)).0
    ∙ ap (λ (a : App). matches_of a (texts c.args.words.now)) c.in-Ok.ensures

pub returns-in-Err-try_get_matches_from-clause-usage : goal.returns-in-Err-try_get_matches_from-clause-usage
returns-in-Err-try_get_matches_from-clause-usage c = λ is_usage none.
    no_cause _ c.in-Err-try_get_matches_from.error (c.in-Err-try_get_matches_from.ensures.kinds (ap is_simple_and_free c.in-Ok.ensures ∙ free_line))
    (ap (λ (a : App). fault_of a (texts c.args.words.now)) c.in-Ok.ensures ∙ none)
    (c.refusal.ensures.usage is_usage)
