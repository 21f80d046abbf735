use Rattle.std.proofs.Common.{◌∙◌, ◌-◌, ◌++◌, codes, ap}
use Rattle.std.specs.Fmt.{decimal}
use Rattle.std.proofs.lemmas.List.{append_assoc}
use Rattle.std.proofs.lemmas.Result.{IfOk-weaker}
use Rattle.lz_generate.proofs.generated.append_create.Goals as goal

pub returns : goal.returns
returns c =
    let front = codes "  pthread_create(&t[" ++ decimal (c.args.worker - 1) ++ codes "], NULL, worker" in
    let back = decimal c.args.worker ++ codes ", NULL);\n" in
    IfOk-weaker c.append_between-2.result _ _
    (λ _ last. last ∙ ap (λ text. text ++ back) c.in_ok-append_between.ensures ∙ append_assoc c.args.text.now front back)
    c.append_between-2.ensures
