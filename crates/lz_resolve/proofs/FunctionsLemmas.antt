-- What a function with its parameters is made of; and external declarations in their order.
use Rattle.std.proofs.Common.{◌≡◌, ℕ, ◌+◌, ◌-◌, ◌<◌, ◌≤◌, Bool, ◌&&◌, List, [], ◌∷◌, ◌++◌, length, map, drop, get_or, Option, refl, sym, ap, ◌∙◌, append_assoc, append-nil, drop_of_length-le}
use Rattle.std.proofs.lemmas.List.{drop_more}
use Rattle.lz_base.specs.declared.word.IntType.{IntType}
use Rattle.lz_tree.specs.declared.expression.TypeName.{TypeName}
use Rattle.lz_tree.specs.declared.program.External.{External}
use Rattle.lz_tree.specs.declared.program.Param.{Param}
use Rattle.lz_tree.specs.declared.scoped.ScopedFunction.{ScopedFunction}
use Rattle.lz_tree.specs.declared.statement.Declarator.{Declarator}
use Rattle.lz_tree.specs.Trees.{InitDeclarator, Statement, ExternalDeclaration, init_declarator, external_declaration}
use Rattle.lz_tree.specs.ScopedTrees.{ScopedStatement, ScopedDefinition, scoped_definition}
use Rattle.lz_scopes.specs.declared.place.Place.{Place}
use Rattle.lz_scopes.specs.Files.{File}
use Rattle.lz_scopes.specs.ValueTypes.{value_type, kind_of, is_pointer}
use Rattle.lz_scopes.specs.Scopes.{bases, is_one_pointer, after_body, with_function, into, with_param, with_params, with_declarator, with_declarators, after_external}
use Rattle.lz_base.proofs.ListLemmas.{drop_item}
use Rattle.lz_resolve.specs.ScopedPrograms.{value_kind, param_kinds, scope_body, scope_function, scope_external, scope_externals, after_externals}
use Rattle.lz_resolve.proofs.DeclarationsLemmas.{left_from}

-- ---- a function

-- a function is made of what its parts are
pub made_function : (file : File) (p p1 p2 p3 : Place) (gives : TypeName) (name : ℕ) (params : List Param) (body : Statement) (start : Bool) (kinds : List IntType) (of : Option IntType) (t : ScopedStatement)
    → p1 ≡ into (with_function p name) gives → p2 ≡ with_params p1 params → p3 ≡ after_body p2 body → start ≡ (is_pointer (value_type gives) && is_one_pointer (bases params))
    → kinds ≡ param_kinds params → of ≡ value_kind (value_type gives) → t ≡ scope_body file p2 body
    → (let made : ScopedDefinition = record { start = start; locals = p3.counts.locals; params = kinds; gives = of; body = t } in made) ≡ scope_function file p gives name params body
made_function file p p1 p2 p3 gives name params body start kinds of t e1 e2 e3 starts is gave tree = rw (starts, is, gave, tree, e3, e2, e1) refl

-- ---- parameters

pub params_more : (start now now' : Place) (all ps : List Param) (i : ℕ) (d : Param) → with_params start all ≡ with_params now (drop i ps) → i < length ps
    → now' ≡ with_param now (get_or ps i d).base (get_or ps i d).name → with_params start all ≡ with_params now' (drop (i + 1) ps)
params_more start now now' all ps i d so_far below one = so_far ∙ rw (drop_more ps i d below, one) refl

pub params_all : (start now : Place) (all ps : List Param) (i : ℕ) → with_params start all ≡ with_params now (drop i ps) → length ps ≤ i → now ≡ with_params start all
params_all start now all ps i so_far over = sym (so_far ∙ rw (drop_of_length-le ps over) refl)

pub kinds_more : (all : List IntType) (done done' : List IntType) (ps : List Param) (i : ℕ) (d : Param) → all ≡ done ++ param_kinds (drop i ps) → i < length ps
    → done' ≡ done ++ kind_of (value_type (get_or ps i d).base) ∷ [] → all ≡ done' ++ param_kinds (drop (i + 1) ps)
kinds_more all done done' ps i d so_far below one =
    so_far ∙ rw (drop_more ps i d below, one) (sym (append_assoc done (kind_of (value_type (get_or ps i d).base) ∷ []) (param_kinds (drop (i + 1) ps))))

pub kinds_all : (all done : List IntType) (ps : List Param) (i : ℕ) → all ≡ done ++ param_kinds (drop i ps) → length ps ≤ i → done ≡ all
kinds_all all done ps i so_far over = sym (so_far ∙ rw (drop_of_length-le ps over) (append-nil done))

-- ---- declarations at file scope

pub objects_more : (base : TypeName) (start now now' : Place) (all : List InitDeclarator) (ds : List Declarator) (i : ℕ) (d : Declarator) → with_declarators start base all ≡ with_declarators now base (left_from ds i)
    → i < length ds → d ≡ get_or ds i d → now' ≡ with_declarator now base (init_declarator d) → with_declarators start base all ≡ with_declarators now' base (left_from ds (i + 1))
objects_more base start now now' all ds i d so_far below is one =
    let n : left_from ds i ≡ init_declarator d ∷ left_from ds (i + 1) = ap (λ (l : List Declarator). map init_declarator l) (drop_item ds i d below is) in
    so_far ∙ rw (n, one) refl

pub objects_all : (base : TypeName) (start now : Place) (all : List InitDeclarator) (ds : List Declarator) (i : ℕ) → with_declarators start base all ≡ with_declarators now base (left_from ds i)
    → length ds ≤ i → now ≡ with_declarators start base all
objects_all base start now all ds i so_far over =
    let none : left_from ds i ≡ [] = ap (λ (l : List Declarator). map init_declarator l) (drop_of_length-le ds over) in
    sym (so_far ∙ rw none refl)

-- ---- external declarations

-- the external declarations from a number on
abbrev pub externals_from : List External → ℕ → List ExternalDeclaration
externals_from es i = map external_declaration (drop i es)

pub next_external : (es : List External) (i : ℕ) (e : External) → i < length es → e ≡ get_or es i e → externals_from es i ≡ external_declaration e ∷ externals_from es (i + 1)
next_external es i e below is = ap (λ (l : List External). map external_declaration l) (drop_item es i e below is)

pub no_external : (es : List External) (i : ℕ) → length es ≤ i → externals_from es i ≡ []
no_external es i over = ap (λ (l : List External). map external_declaration l) (drop_of_length-le es over)

-- Functions so far, from a first place to a later one, and the external declarations that are left.
pub record MadeFunctions (file : File) (start now : Place) (all rest : List ExternalDeclaration) (done : List ScopedFunction) : Type 0 where
  pub place : after_externals start all ≡ after_externals now rest
  pub trees : scope_externals file start all ≡ map scoped_definition done ++ scope_externals file now rest

pub functions_more : (file : File) (start now now' : Place) (all : List ExternalDeclaration) (es : List External) (i : ℕ) (e : External) (done done' : List ScopedFunction)
    → MadeFunctions file start now all (externals_from es i) done → i < length es → e ≡ get_or es i e
    → now' ≡ after_external now (external_declaration e) → map scoped_definition done' ≡ map scoped_definition done ++ scope_external file now (external_declaration e)
    → MadeFunctions file start now' all (externals_from es (i + 1)) done'
unfolding after_externals scope_externals
functions_more file start now now' all es i e done done' made below is goes more =
    let n = next_external es i e below is in
    record {
      place = made.place ∙ rw (n, goes) refl;
      trees = made.trees ∙ rw (n, more, goes)
          (sym (append_assoc (map scoped_definition done) (scope_external file now (external_declaration e)) (scope_externals file (after_external now (external_declaration e)) (externals_from es (i + 1)))));
    }

pub functions_all : (file : File) (start now : Place) (all : List ExternalDeclaration) (es : List External) (i : ℕ) (done : List ScopedFunction)
    → MadeFunctions file start now all (externals_from es i) done → length es ≤ i
    → (now ≡ after_externals start all) × (map scoped_definition done ≡ scope_externals file start all)
unfolding after_externals scope_externals
functions_all file start now all es i done made over =
    let none = no_external es i over in
    (sym (made.place ∙ rw none refl), sym (made.trees ∙ rw none (append-nil (map scoped_definition done))))
