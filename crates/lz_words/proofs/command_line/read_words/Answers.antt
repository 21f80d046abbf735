use Rattle.std.proofs.Common.{rules, ◌≡◌, ◌∷◌, ◌∙◌, [], ℕ, List, ap, subst, sym}
use Rattle.std.proofs.lemmas.Result.{IfErr-weaker, IfOk-weaker}
use Rattle.clap.specs.Walk.{Row, texts}
use Rattle.clap.specs.Simple.{matches_of}
use Rattle.clap.specs.Faults.{fault_of}
use Rattle.lz_words.specs.CommandLine.{command_line, program_name, Asks}
use Rattle.lz_words.proofs.command_line.read_words.Goals as goal

pub returns-in-Ok-clause-asked : goal.returns-in-Ok-clause-asked
returns-in-Ok-clause-asked c =
    let are : texts c.as_slice.result.now ≡ program_name ∷ c.args.words.now = search rules in
    IfOk-weaker c.asked.result _ _ (λ a asks. record {
      taken = subst (λ (ws : List (List ℕ)). fault_of command_line ws ≡ []) are c.in-Ok.ensures.taken;
      asks = subst (λ (rows : List Row). Asks rows a) (c.in-Ok.ensures.rows ∙ ap (matches_of command_line) are) asks;
    }) c.asked.ensures.asked

pub returns-in-Ok-clause-usage : goal.returns-in-Ok-clause-usage
returns-in-Ok-clause-usage c =
    let are : texts c.as_slice.result.now ≡ program_name ∷ c.args.words.now = search rules in
    IfErr-weaker c.asked.result _ _ (λ why none is_usage a reading. none is_usage a
    (subst (λ (rows : List Row). Asks rows a) (sym (c.in-Ok.ensures.rows ∙ ap (matches_of command_line) are)) reading.asks)) c.asked.ensures.usage

pub returns-clause-usage : goal.returns-clause-usage
returns-clause-usage c = λ is_usage a reading.
    let are : texts c.as_slice.result.now ≡ program_name ∷ c.args.words.now = search rules in
    c.in-Err.ensures.usage is_usage (ap (fault_of command_line) are ∙ reading.taken)
