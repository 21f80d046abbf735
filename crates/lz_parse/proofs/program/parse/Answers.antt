use Rattle.std.proofs.Common.{map, ◌∙◌}
use Rattle.lz_tree.specs.Trees.{external_declaration}
use Rattle.lz_parse.proofs.ProgramsLemmas.{is_program, refused_within, no_program}
use Rattle.lz_parse.proofs.program.parse.Goals as goal

pub overflow_sub-at : goal.overflow_sub-at
overflow_sub-at c =
    let fails = rw c.in-Err-Refused.field-0-is at c.in-Err-Refused.ensures in
    rw c.in-Err-Refused.field-0-is (refused_within c.items-items.result.now c.in-Err-Refused.left fails)

pub returns-in-Ok-copied-clause-found : goal.returns-in-Ok-copied-clause-found
returns-in-Ok-copied-clause-found c = is_program c.args.tokens.now c.items-items.result.now (map external_declaration c.in-Ok.externals) c.in-Ok-copied.names c.items-items.ensures c.in-Ok.ensures (c.in-Ok-copied.ensures ∙ c.items.ensures)

pub returns-in-Err-Refused-clause-refused : goal.returns-in-Err-Refused-clause-refused
returns-in-Err-Refused-clause-refused c =
    let fails = rw c.in-Err-Refused.field-0-is at c.in-Err-Refused.ensures in
    let named = rw c.in-Err-Refused.field-0-is at c.refused_at.ensures in
    no_program c.args.tokens.now c.items-items.result.now c.in-Err-Refused.left c.refused_at.result c.items-items.ensures fails named
