-- Inner: how large an expression is: a part is smaller than its node.
use Rattle.std.specs.Prelude.{ℕ, suc, ◌+◌}
use Rattle.lz_tree.specs.ScopedTrees.{ScopedExpression, constant, null, text, object, address, paren, unary, cast, binary, choose, assign, step, call, Lvalue, lvalue, ScopedIndex, whole, element, ScopedExpressions, none, and}

abbrev mutual
  pub size : ScopedExpression → ℕ
  size (constant line value form kind) = 1
  size (null line kind) = 1
  size (text line kind) = 1
  size (object of kind) = suc (place_size of)
  size (address line of kind) = suc (place_size of)
  size (paren line inner kind) = suc (size inner)
  size (unary line op of kind) = suc (size of)
  size (cast line to of kind) = suc (size of)
  size (binary line op left right kind) = suc (size left + size right)
  size (choose line test one two kind) = suc (size test + size one + size two)
  size (assign line op to value kind) = suc (place_size to + size value)
  size (step line of up before kind) = suc (place_size of)
  size (call line callee args kind) = suc (sizes args)

  pub place_size : Lvalue → ℕ
  place_size (lvalue line meant index checked) = index_size index

  pub index_size : ScopedIndex → ℕ
  index_size whole = 0
  index_size (element index) = size index

  pub sizes : ScopedExpressions → ℕ
  sizes none = 0
  sizes (and e rest) = size e + sizes rest
