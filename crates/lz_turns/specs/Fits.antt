-- Inner: the trees that a thread can run: their constants are words, and the elements of their objects have numbers below 2 ^ 32.
use Rattle.std.specs.Prelude.{◌+◌, ◌<◌, ◌≤◌, ⊤, List, [], ◌∷◌}
use Rattle.lz_base.specs.Words.{value_bound}
use Rattle.lz_tree.specs.declared.scoped.Object.{Object}
use Rattle.lz_tree.specs.ScopedTrees.{ScopedExpression, constant, null, text, object, address, paren, unary, cast, binary, choose, assign, step, call, Lvalue, lvalue, ScopedIndex, whole, element, ScopedExpressions, none, and, ScopedInitDeclarator}
use Rattle.lz_model.specs.CodeTraces.{first_of, len_of}

-- each element of an object, and its first one, has a number below 2 ^ 32
abbrev pub HasNumbers : Object → Type 0
HasNumbers meant = first_of meant + len_of meant ≤ value_bound

abbrev mutual
  pub IsFit : ScopedExpression → Type 0
  IsFit (constant line value form kind) = value < value_bound
  IsFit (null line kind) = ⊤
  IsFit (text line kind) = ⊤
  IsFit (object of kind) = IsFitPlace of
  IsFit (address line of kind) = IsFitPlace of
  IsFit (paren line inner kind) = IsFit inner
  IsFit (unary line op of kind) = IsFit of
  IsFit (cast line to of kind) = IsFit of
  IsFit (binary line op left right kind) = IsFit left × IsFit right
  IsFit (choose line test one two kind) = IsFit test × IsFit one × IsFit two
  IsFit (assign line op to value kind) = IsFitPlace to × IsFit value
  IsFit (step line of up before kind) = IsFitPlace of
  IsFit (call line callee args kind) = AreFit args

  pub IsFitPlace : Lvalue → Type 0
  IsFitPlace (lvalue line meant index checked) = HasNumbers meant × IsFitIndex index

  pub IsFitIndex : ScopedIndex → Type 0
  IsFitIndex whole = ⊤
  IsFitIndex (element index) = IsFit index

  pub AreFit : ScopedExpressions → Type 0
  AreFit none = ⊤
  AreFit (and e rest) = IsFit e × AreFit rest

-- each object that is declared
abbrev pub HaveNumbers : List ScopedInitDeclarator → Type 0
HaveNumbers [] = ⊤
HaveNumbers (d ∷ rest) = HasNumbers d.object × HaveNumbers rest
