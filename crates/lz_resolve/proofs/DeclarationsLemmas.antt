-- Declarators in their order, made from left to right, each at the place that those before it leave.
use Rattle.std.proofs.Common.{◌≡◌, ℕ, ◌+◌, ◌<◌, ◌≤◌, List, [], ◌∷◌, ◌++◌, length, map, drop, get_or, refl, sym, ap, ◌∙◌, append_assoc, append-nil, drop_of_length-le}
use Rattle.std.proofs.lemmas.List.{map-append}
use Rattle.lz_tree.specs.declared.expression.TypeName.{TypeName}
use Rattle.lz_tree.specs.declared.scoped.ScopedDeclarator.{ScopedDeclarator}
use Rattle.lz_tree.specs.declared.statement.Declarator.{Declarator}
use Rattle.lz_tree.specs.Trees.{InitDeclarator, init_declarator}
use Rattle.lz_tree.specs.ScopedTrees.{scoped_declarator}
use Rattle.lz_scopes.specs.declared.place.Place.{Place}
use Rattle.lz_scopes.specs.Files.{File}
use Rattle.lz_scopes.specs.Scopes.{with_declarator, with_declarators}
use Rattle.lz_base.proofs.ListLemmas.{drop_item}
use Rattle.lz_resolve.specs.ScopedPrograms.{scope_declarator, scope_declarators}

-- the declarators from a number on
abbrev pub left_from : List Declarator → ℕ → List InitDeclarator
left_from ds i = map init_declarator (drop i ds)

-- Declarators so far, from a first place to a later one, and those that are left.
pub record MadeDeclarators (file : File) (base : TypeName) (start now : Place) (all : List InitDeclarator) (left : List InitDeclarator) (done : List ScopedDeclarator) : Type 0 where
  pub place : with_declarators start base all ≡ with_declarators now base left
  pub trees : scope_declarators file start base all ≡ map scoped_declarator done ++ scope_declarators file now base left

pub declarators_more : (file : File) (base : TypeName) (start now now' : Place) (all : List InitDeclarator) (ds : List Declarator) (i : ℕ) (d : Declarator) (s : ScopedDeclarator) (done done' : List ScopedDeclarator)
    → MadeDeclarators file base start now all (left_from ds i) done → i < length ds → d ≡ get_or ds i d
    → now' ≡ with_declarator now base (init_declarator d) → scoped_declarator s ≡ scope_declarator file now base (init_declarator d) → done' ≡ done ++ s ∷ []
    → MadeDeclarators file base start now' all (left_from ds (i + 1)) done'
unfolding scope_declarators
declarators_more file base start now now' all ds i d s done done' made below is goes one more =
    let n : left_from ds i ≡ init_declarator d ∷ left_from ds (i + 1) = ap (λ (l : List Declarator). map init_declarator l) (drop_item ds i d below is) in
    record {
      place = made.place ∙ rw (n, goes) refl;
      trees = made.trees ∙ rw (
        n,
        more,
        goes,
        map-append,
        one,
        append_assoc (map scoped_declarator done) (scope_declarator file now base (init_declarator d) ∷ []) (scope_declarators file (with_declarator now base (init_declarator d)) base (left_from ds (i + 1))),
      ) refl;
    }

pub declarators_all : (file : File) (base : TypeName) (start now : Place) (all : List InitDeclarator) (ds : List Declarator) (i : ℕ) (done : List ScopedDeclarator)
    → MadeDeclarators file base start now all (left_from ds i) done → length ds ≤ i
    → (now ≡ with_declarators start base all) × (map scoped_declarator done ≡ scope_declarators file start base all)
unfolding scope_declarators
declarators_all file base start now all ds i done made over =
    let none : left_from ds i ≡ [] = ap (λ (l : List Declarator). map init_declarator l) (drop_of_length-le ds over) in
    (sym (made.place ∙ rw none refl), sym (made.trees ∙ rw none (append-nil (map scoped_declarator done))))
