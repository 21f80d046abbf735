-- Statements in their order, made from left to right, each at the place that those before it leave.
use Rattle.std.proofs.Common.{◌≡◌, ℕ, ◌+◌, ◌<◌, ◌≤◌, List, [], ◌∷◌, ◌++◌, length, map, drop, get_or, refl, sym, ap, ◌∙◌, drop_of_length-le}
use Rattle.std.proofs.lemmas.List.{map-append}
use Rattle.lz_tree.specs.declared.scoped.ScopedStmt.{ScopedStmt}
use Rattle.lz_tree.specs.declared.statement.Stmt.{Stmt}
use Rattle.lz_tree.specs.Trees.{Statement, block, Statements, nil, cons, statement, statements_of}
use Rattle.lz_tree.specs.ScopedTrees as scoped
use Rattle.lz_tree.specs.ScopedTrees.{ScopedStatement, ScopedStatements, scoped_statement, scoped_statements_of}
use Rattle.lz_scopes.specs.declared.place.Place.{Place}
use Rattle.lz_scopes.specs.Files.{File}
use Rattle.lz_scopes.specs.Scopes.{inside, after, after_all, after_body}
use Rattle.lz_base.proofs.ListLemmas.{drop_item}
use Rattle.lz_resolve.specs.ScopedPrograms.{scope_statement, scope_statements, scope_body}

-- some statements before others
abbrev pub before : List ScopedStatement → ScopedStatements → ScopedStatements
before [] rest = rest
before (s ∷ ss) rest = scoped.cons s (before ss rest)

before_last : (ss : List ScopedStatement) (s : ScopedStatement) (rest : ScopedStatements) → before (ss ++ s ∷ []) rest ≡ before ss (scoped.cons s rest)
before_last [] s rest = refl
before_last (d ∷ ss) s rest = ap (λ (x : ScopedStatements). scoped.cons d x) (before_last ss s rest)

before_none : (ss : List ScopedStatement) → before ss scoped.nil ≡ scoped_statements_of ss
before_none [] = refl
before_none (d ∷ ss) = ap (λ (x : ScopedStatements). scoped.cons d x) (before_none ss)

-- the statements from a number on
abbrev pub left_from : List Stmt → ℕ → Statements
left_from ss i = statements_of (map statement (drop i ss))

-- Statements so far, from a first place to a later one, and those that are left.
pub record MadeStatements (file : File) (start now : Place) (all : Statements) (left : Statements) (done : List ScopedStmt) : Type 0 where
  pub place : after_all start all ≡ after_all now left
  pub trees : scope_statements file start all ≡ before (map scoped_statement done) (scope_statements file now left)

pub statements_more : (file : File) (start now now' : Place) (all : Statements) (ss : List Stmt) (i : ℕ) (s : Stmt) (t : ScopedStmt) (done done' : List ScopedStmt)
    → MadeStatements file start now all (left_from ss i) done → i < length ss → s ≡ get_or ss i s
    → now' ≡ after now (statement s) → scoped_statement t ≡ scope_statement file now (statement s) → done' ≡ done ++ t ∷ []
    → MadeStatements file start now' all (left_from ss (i + 1)) done'
unfolding after scope_statement
statements_more file start now now' all ss i s t done done' made below is goes one more =
    let n : left_from ss i ≡ cons (statement s) (left_from ss (i + 1)) = ap (λ (l : List Stmt). statements_of (map statement l)) (drop_item ss i s below is) in
    record {
      place = made.place ∙ rw (n, goes) refl;
      trees = made.trees ∙ rw (n, more, goes, map-append, one)
          (sym (before_last (map scoped_statement done) (scope_statement file now (statement s)) (scope_statements file (after now (statement s)) (left_from ss (i + 1)))));
    }

pub statements_all : (file : File) (start now : Place) (all : Statements) (ss : List Stmt) (i : ℕ) (done : List ScopedStmt)
    → MadeStatements file start now all (left_from ss i) done → length ss ≤ i
    → (now ≡ after_all start all) × (scoped_statements_of (map scoped_statement done) ≡ scope_statements file start all)
unfolding after scope_statement
statements_all file start now all ss i done made over =
    let none : left_from ss i ≡ nil = ap (λ (l : List Stmt). statements_of (map statement l)) (drop_of_length-le ss over) in
    (sym (made.place ∙ rw none refl), sym (made.trees ∙ rw none (before_none (map scoped_statement done))))

-- ---- blocks

pub made_block : (file : File) (place : Place) (s : Statement) (parts : Statements) (given : ScopedStatements) (t : ScopedStatement) → s ≡ block parts → given ≡ scope_statements file (inside place) parts → t ≡ scoped.block given
    → t ≡ scope_statement file place s
unfolding scope_statement
made_block file place s parts given t is all node = rw (node, all, is) refl

pub made_body : (file : File) (place : Place) (s : Statement) (parts : Statements) (given : ScopedStatements) (t : ScopedStatement) → s ≡ block parts → given ≡ scope_statements file place parts → t ≡ scoped.block given
    → t ≡ scope_body file place s
made_body file place s parts given t is all node = rw (node, all, is) refl

pub body_behind : (place now : Place) (s : Statement) (parts : Statements) → s ≡ block parts → now ≡ after_all place parts → now ≡ after_body place s
body_behind place now s parts is goes = rw (is, goes) refl
