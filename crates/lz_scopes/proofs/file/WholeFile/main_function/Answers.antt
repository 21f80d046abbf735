use Rattle.std.proofs.Common.{sym, ◌∙◌, ap}
use Rattle.lz_scopes.proofs.WholeLemmas.{main_is, main_not}
use Rattle.lz_scopes.proofs.file.WholeFile.main_function.Goals as goal

pub returns-in-None : goal.returns-in-None
returns-in-None c = main_not c.args.self.now 0 c.args.self.now.functions (rw (sym c.self.view_is) c.in-None.is)

pub returns-in-Some : goal.returns-in-Some
returns-in-Some c =
    c.function_named.ensures ∙ main_is c.args.self.now c.in-Some.main 0 c.args.self.now.functions (rw (sym c.self.view_is) c.in-Some.is)
