-- Inner: the statements that a thread can run: their expressions fit, and the elements of what they declare have numbers below 2 ^ 32.
use Rattle.std.specs.Prelude.{⊤, List, [], ◌∷◌, Option, Some, None}
use Rattle.lz_tree.specs.ScopedTrees.{ScopedExpression, ScopedInitializer, nothing, single, listed, ScopedInitDeclarator, ScopedStatement, empty, eval, block, declare, when, while, do_while, for, break, continue, return, label, ScopedBranch, absent, branch, ScopedStatements, nil, cons}
use Rattle.lz_turns.specs.Fits.{HasNumbers, IsFit, AreFit}

-- an expression that may be missing
abbrev pub MayFit : Option ScopedExpression → Type 0
MayFit None = ⊤
MayFit (Some e) = IsFit e

-- what objects begin with
abbrev pub IsFitFirst : ScopedInitializer → Type 0
IsFitFirst nothing = ⊤
IsFitFirst (single value) = IsFit value
IsFitFirst (listed values) = AreFit values

abbrev pub AreFitDeclared : List ScopedInitDeclarator → Type 0
AreFitDeclared [] = ⊤
AreFitDeclared (d ∷ rest) = HasNumbers d.object × IsFitFirst d.first × AreFitDeclared rest

abbrev mutual
  pub IsFitStatement : ScopedStatement → Type 0
  IsFitStatement empty = ⊤
  IsFitStatement (eval value) = IsFit value
  IsFitStatement (block parts) = AreFitStatements parts
  IsFitStatement (declare of) = AreFitDeclared of.declarators
  IsFitStatement (when line test one two) = IsFit test × IsFitStatement one × IsFitBranch two
  IsFitStatement (while line test body) = IsFit test × IsFitStatement body
  IsFitStatement (do_while line body test) = IsFitStatement body × IsFit test
  IsFitStatement (for line opens test change body) = IsFitStatement opens × MayFit test × MayFit change × IsFitStatement body
  IsFitStatement (break line) = ⊤
  IsFitStatement (continue line) = ⊤
  IsFitStatement (return line value) = MayFit value
  IsFitStatement (label name of) = IsFitStatement of

  pub IsFitBranch : ScopedBranch → Type 0
  IsFitBranch absent = ⊤
  IsFitBranch (branch of) = IsFitStatement of

  pub AreFitStatements : ScopedStatements → Type 0
  AreFitStatements nil = ⊤
  AreFitStatements (cons s rest) = IsFitStatement s × AreFitStatements rest
