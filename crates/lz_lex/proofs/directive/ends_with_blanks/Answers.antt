use Rattle.std.proofs.Common.{sym, ap, ◌∙◌}
use Rattle.std.specs.List.{list_all}
use Rattle.lz_tree.specs.Pieces.{is_blank}
use Rattle.lz_lex.proofs.CommentLemmas.{blanks_behind, no_blanks_behind}
use Rattle.lz_lex.proofs.directive.ends_with_blanks.Goals as goal

pub returns-in-None : goal.returns-in-None
returns-in-None c = sym (no_blanks_behind c.args.bytes.now (sym c.in-None.ensures.end))

pub returns-in-Some : goal.returns-in-Some
returns-in-Some c =
    c.are_blanks.ensures ∙ ap (list_all is_blank) c.behind.ensures ∙ sym (blanks_behind c.args.bytes.now c.in-Some.len (sym c.in-Some.ensures.end))
