-- Rows of declarators and of statements, walked from left to right.
use Rattle.std.proofs.Common.{◌≡◌, ℕ, ◌+◌, ◌<◌, ◌≤◌, List, [], ◌∷◌, ◌++◌, length, map, drop, get_or, refl, sym, ap, ◌∙◌, append_assoc, append-nil, drop_of_length-le}
use Rattle.lz_tree.specs.declared.expression.TypeName.{TypeName}
use Rattle.lz_tree.specs.declared.statement.Stmt.{Stmt}
use Rattle.lz_tree.specs.declared.statement.Declarator.{Declarator}
use Rattle.lz_tree.specs.Trees.{InitDeclarator, Statements, nil, cons, init_declarator, statement, statements_of}
use Rattle.lz_scopes.specs.declared.fault.Fault.{Fault}
use Rattle.lz_scopes.specs.declared.place.Place.{Place}
use Rattle.lz_scopes.specs.Files.{File}
use Rattle.lz_scopes.specs.Scopes.{after, after_all, with_declarator, with_declarators}
use Rattle.lz_types.specs.Faults.{whole_declarator_faults, declarators_faults, statement_faults, statements_faults}
use Rattle.lz_base.proofs.ListLemmas.{drop_item}

-- ---- declarators in a row

abbrev pub declarators_at : List Declarator → ℕ → List InitDeclarator
declarators_at ds i = map init_declarator (drop i ds)

-- What a walk of declarators has come to at a place with some of them left.
pub record WalkedDeclarators (file : File) (base : TypeName) (start now : Place) (all left : List InitDeclarator) (noted so_far : List Fault) : Type 0 where
  pub place : with_declarators start base all ≡ with_declarators now base left
  pub faults : noted ++ declarators_faults file start base all ≡ so_far ++ declarators_faults file now base left

pub declarators_more : (file : File) (base : TypeName) (start now now' : Place) (all : List InitDeclarator) (ds : List Declarator) (i : ℕ) (d : Declarator) (noted f f' : List Fault)
    → WalkedDeclarators file base start now all (declarators_at ds i) noted f → i < length ds → d ≡ get_or ds i d
    → now' ≡ with_declarator now base (init_declarator d) → f' ≡ f ++ whole_declarator_faults file now base (init_declarator d)
    → WalkedDeclarators file base start now' all (declarators_at ds (i + 1)) noted f'
unfolding declarators_faults
declarators_more file base start now now' all ds i d noted f f' w below is e1 e2 =
    let n : declarators_at ds i ≡ init_declarator d ∷ declarators_at ds (i + 1) = ap (λ (l : List Declarator). map init_declarator l) (drop_item ds i d below is) in
    record {
      place = w.place ∙ rw (n, e1) refl;
      faults = w.faults ∙ rw (n, e2, e1, append_assoc f (whole_declarator_faults file now base (init_declarator d)) (declarators_faults file (with_declarator now base (init_declarator d)) base (declarators_at ds (i + 1)))) refl;
    }

pub declarators_end : (file : File) (base : TypeName) (start now : Place) (all : List InitDeclarator) (ds : List Declarator) (i : ℕ) (noted f : List Fault)
    → WalkedDeclarators file base start now all (declarators_at ds i) noted f → length ds ≤ i
    → (now ≡ with_declarators start base all) × (f ≡ noted ++ declarators_faults file start base all)
unfolding declarators_faults
declarators_end file base start now all ds i noted f w over =
    let none : declarators_at ds i ≡ [] = ap (λ (l : List Declarator). map init_declarator l) (drop_of_length-le ds over) in
    (sym (w.place ∙ rw none refl), sym (w.faults ∙ rw none (append-nil f)))

-- ---- statements in a row

abbrev pub statements_at : List Stmt → ℕ → Statements
statements_at ss i = statements_of (map statement (drop i ss))

-- What a walk of statements has come to at a place with some of them left.
pub record WalkedStatements (file : File) (start now : Place) (all left : Statements) (noted so_far : List Fault) : Type 0 where
  pub place : after_all start all ≡ after_all now left
  pub faults : noted ++ statements_faults file start all ≡ so_far ++ statements_faults file now left

pub statements_more : (file : File) (start now now' : Place) (all : Statements) (ss : List Stmt) (i : ℕ) (s : Stmt) (noted f f' : List Fault)
    → WalkedStatements file start now all (statements_at ss i) noted f → i < length ss → s ≡ get_or ss i s
    → now' ≡ after now (statement s) → f' ≡ f ++ statement_faults file now (statement s)
    → WalkedStatements file start now' all (statements_at ss (i + 1)) noted f'
unfolding after statement_faults
statements_more file start now now' all ss i s noted f f' w below is e1 e2 =
    let n : statements_at ss i ≡ cons (statement s) (statements_at ss (i + 1)) = ap (λ (l : List Stmt). statements_of (map statement l)) (drop_item ss i s below is) in
    record {
      place = w.place ∙ rw (n, e1) refl;
      faults = w.faults ∙ rw (n, e2, e1, append_assoc f (statement_faults file now (statement s)) (statements_faults file (after now (statement s)) (statements_at ss (i + 1)))) refl;
    }

pub statements_end : (file : File) (start now : Place) (all : Statements) (ss : List Stmt) (i : ℕ) (noted f : List Fault)
    → WalkedStatements file start now all (statements_at ss i) noted f → length ss ≤ i
    → (now ≡ after_all start all) × (f ≡ noted ++ statements_faults file start all)
unfolding after statement_faults
statements_end file start now all ss i noted f w over =
    let none : statements_at ss i ≡ nil = ap (λ (l : List Stmt). statements_of (map statement l)) (drop_of_length-le ss over) in
    (sym (w.place ∙ rw none refl), sym (w.faults ∙ rw none (append-nil f)))
