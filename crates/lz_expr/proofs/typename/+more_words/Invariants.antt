use Rattle.lz_expr.proofs.typename.+more_words.Given as goal

abbrev pub decreases-more_words : goal.decreases-more_words
decreases-more_words l = l.turns
