-- Small trees, by hand.
use Rattle.std.proofs.Common.{◌≡◌, ℕ, List, [], ◌∷◌, Some, None, true, false, refl}
use Rattle.lz_base.specs.declared.word.IntType.TheVariants.{Int, Unsigned}
use Rattle.lz_tree.specs.declared.scoped.KnownName.TheVariants as known
use Rattle.lz_tree.specs.declared.scoped.Object.TheVariants.{Local, Handle, Routine, Known}
use Rattle.lz_tree.specs.ScopedTrees.{ScopedExpression, null, object, address, call, lvalue, whole, element, none, and, ScopedStatement, eval, while, do_while, for, empty}
use Rattle.lz_bound.specs.BoundedTrees.{BoundedStatement, evals, nothing, seq, when, frame, leave, stuck}
use Rattle.lz_bound.specs.BoundedTraces.{through, left, caught}
use Rattle.lz_bound.specs.CreateSites.{sites, code_sites, no_bodies, tree_sites}
use Rattle.lz_bound.specs.Rows.{in_rows}
use Rattle.lz_bound.specs.Sizes.{statement_size}
use Rattle.lz_bound.specs.SlottedPrograms.{numbered_tree}

-- a create of a function with an argument

abbrev creates : ℕ → ScopedExpression → ScopedExpression
creates f e = call 1 (Known known.Create) (and (address 1 (lvalue 1 (Handle 0 1) whole false) None) (and (null 1 (Some Unsigned)) (and (object (lvalue 1 (Routine f) whole false) None) (and e none)))) (Some Int)

abbrev zero_ : ScopedExpression
zero_ = null 1 (Some Unsigned)

-- a loop has the sites of its body once a turn, and those of its test once more
loop_sites : code_sites no_bodies 3 (while 1 zero_ (eval (creates 7 zero_))) ≡ 7 ∷ 7 ∷ 7 ∷ []
loop_sites = refl

test_sites : code_sites no_bodies 2 (while 1 (creates 5 zero_) (eval (creates 7 zero_))) ≡ 5 ∷ 7 ∷ 5 ∷ 7 ∷ 5 ∷ []
test_sites = refl

do_sites : code_sites no_bodies 2 (do_while 1 (eval (creates 7 zero_)) (creates 5 zero_)) ≡ 7 ∷ 5 ∷ 7 ∷ 5 ∷ []
do_sites = refl

-- a site in an argument of another comes before it
inner_first : sites no_bodies (creates 7 (creates 5 zero_)) ≡ 5 ∷ 7 ∷ []
inner_first = refl

-- sites by their numbers: the inner one is 0
numbered_sites : tree_sites (numbered_tree 0 (seq (evals (creates 7 (creates 5 zero_)) None) (evals (creates 9 zero_) None))) ≡ 0 ∷ 1 ∷ 2 ∷ []
numbered_sites = refl

-- a frame catches its own number alone
caught_here : caught 1 (left 1) ≡ through
caught_here = refl

caught_not : caught 1 (left 2) ≡ left 2
caught_not = refl

-- sequences in one row
in_one_row : in_rows (seq (seq (leave 0) stuck) (frame 1 (seq nothing (leave 1)))) ≡ seq (leave 0) (seq stuck (seq (frame 1 (seq (leave 1) nothing)) nothing))
in_one_row = refl

-- a sequence is one node, its expressions count
size_here : statement_size (seq (evals zero_ None) (seq stuck nothing)) ≡ 4
size_here = refl
