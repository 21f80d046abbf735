use Rattle.std.proofs.Common.{ap₂, ◌∙◌}
use Rattle.std.proofs.lemmas.Result.{IfOk-weaker}
use Rattle.clap.specs.Simple.{with_rule}
use Rattle.lz_words.proofs.command_line.command.Goals as goal

pub returns : goal.returns
returns c =
    let s1 = c.in_ok-arg.ensures.shape c.option.ensures.local ∙ ap₂ with_rule c.new.ensures.app c.option.ensures.rule in
    let s2 = c.in_ok-arg-2.ensures.shape c.option-2.ensures.local ∙ ap₂ with_rule s1 c.option-2.ensures.rule in
    let s3 = c.in_ok-arg-3.ensures.shape c.option-3.ensures.local ∙ ap₂ with_rule s2 c.option-3.ensures.rule in
    let s4 = c.in_ok-arg-4.ensures.shape c.option-4.ensures.local ∙ ap₂ with_rule s3 c.option-4.ensures.rule in
    let s5 = c.in_ok-arg-5.ensures.shape c.option-5.ensures.local ∙ ap₂ with_rule s4 c.option-5.ensures.rule in
    let s6 = c.in_ok-arg-6.ensures.shape c.option-6.ensures.local ∙ ap₂ with_rule s5 c.option-6.ensures.rule in
    let s7 = c.in_ok-arg-7.ensures.shape c.option-7.ensures.local ∙ ap₂ with_rule s6 c.option-7.ensures.rule in
    IfOk-weaker c.arg-8.result _ _ (λ new adds. adds.shape c.file.ensures.local ∙ ap₂ with_rule s7 c.file.ensures.rule) c.arg-8.ensures
