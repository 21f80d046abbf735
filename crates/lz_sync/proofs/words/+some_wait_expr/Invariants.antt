use Rattle.lz_sync.proofs.words.+some_wait_expr.Given as goal

abbrev pub decreases-some_wait_expr : goal.decreases-some_wait_expr
decreases-some_wait_expr l = l.slots
