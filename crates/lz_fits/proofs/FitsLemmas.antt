-- The test of a tree is whether a thread can run it.
use Rattle.std.proofs.Common.{◌≡◌, ℕ, suc, ◌+◌, ◌<◌, ◌≤◌, Bool, true, false, ◌&&◌, nat_lt, List, [], ◌∷◌, length, drop, get_or, map, Option, Some, None, refl, sym, ap, ◌∙◌, arith, add-one}
use Rattle.std.proofs.Math.Seq.{drop-cons, drop-length}
use Rattle.std.proofs.lemmas.Bool.{and_parts, and_from}
use Rattle.std.proofs.lemmas.Bool.Decides.{nat_tests}
use Rattle.std.specs.List.{All, list_all}
use Rattle.std.proofs.lemmas.List.Elements.{All-head, All-tail, All-cons}
use Rattle.lz_base.specs.Words.{value_bound}
use Rattle.lz_tree.specs.declared.scoped.Object.{Object}
use Rattle.lz_tree.specs.ScopedTrees.{ScopedExpression, constant, null, text, object, address, paren, unary, cast, binary, choose, assign, step, call, Lvalue, lvalue, ScopedIndex, whole, element, ScopedExpressions, none, and, scoped_expressions_of, ScopedInitializer, nothing, single, listed, ScopedInitDeclarator, ScopedStatement, empty, eval, block, declare, when, while, do_while, for, break, continue, return, label, ScopedBranch, absent, branch, ScopedStatements, nil, cons, scoped_statements_of, ScopedDefinition}
use Rattle.lz_turns.specs.Fits.{HasNumbers, IsFit, IsFitPlace, IsFitIndex, AreFit}
use Rattle.lz_stations.specs.StatementFits.{MayFit, IsFitFirst, AreFitDeclared, IsFitStatement, IsFitBranch, AreFitStatements}
use Rattle.lz_fits.specs.Fits.{has_numbers, fits, place_fits, index_fits, all_fit, may_fit, first_fits, declarator_fits, declared_fit, statement_fits, branch_fits, parts_fit, bodies_fit}

-- ---- lists

pub all_of : {A : Type 0} (f : A → ScopedExpression) (xs : List A) → all_fit (scoped_expressions_of (map f xs)) ≡ list_all (λ x. fits (f x)) xs
all_of f [] = refl
all_of f (x ∷ rest) = ap (λ b. fits (f x) && b) (all_of f rest)

pub parts_of : {A : Type 0} (f : A → ScopedStatement) (xs : List A) → parts_fit (scoped_statements_of (map f xs)) ≡ list_all (λ x. statement_fits (f x)) xs
parts_of f [] = refl
parts_of f (x ∷ rest) = ap (λ b. statement_fits (f x) && b) (parts_of f rest)

pub declarators_of : {A : Type 0} (f : A → ScopedInitDeclarator) (xs : List A) → declared_fit (map f xs) ≡ list_all (λ x. declarator_fits (f x)) xs
declarators_of f [] = refl
declarators_of f (x ∷ rest) = ap (λ b. declarator_fits (f x) && b) (declarators_of f rest)

pub bodies_of : {A : Type 0} (f : A → ScopedDefinition) (xs : List A) → bodies_fit (map f xs) ≡ list_all (λ x. statement_fits (f x).body) xs
bodies_of f [] = refl
bodies_of f (x ∷ rest) = ap (λ b. statement_fits (f x).body && b) (bodies_of f rest)

-- What a walk keeps: what was found so far, and what is left, give the whole.
pub record IsSoFar {A : Type 0} (p : A → Bool) (xs : List A) (at : ℕ) (fit : Bool) : Type 0 where
  pub found : (fit && list_all p (drop at xs)) ≡ list_all p xs

pub walk_start : {A : Type 0} (p : A → Bool) (xs : List A) → IsSoFar p xs 0 true
walk_start p xs = record { found = refl }

assoc : (a b c : Bool) → ((a && b) && c) ≡ (a && (b && c))
assoc true b c = refl
assoc false b c = refl

here : {A : Type 0} (p : A → Bool) (xs : List A) (at : ℕ) (x : A) → at < length xs → x ≡ get_or xs at x → list_all p (drop at xs) ≡ (p x && list_all p (drop (at + 1) xs))
here {A = A} p xs at x lt is =
    let cut : drop at xs ≡ get_or xs at x ∷ drop (suc at) xs = drop-cons xs at x lt in
    let one : at + 1 ≡ suc at = add-one at in
    rw (cut, ← is, one) refl

-- one turn
pub walk_turn : {A : Type 0} (p : A → Bool) (xs : List A) (at : ℕ) (fit new item : Bool) (x : A) → at < length xs → x ≡ get_or xs at x → IsSoFar p xs at fit → item ≡ p x → new ≡ (fit && item) → IsSoFar p xs (at + 1) new
walk_turn p xs at fit new item x lt is so_far one made =
    let now = here p xs at x lt is in
    record {
      found = ap (λ b. b && list_all p (drop (at + 1) xs)) (made ∙ ap (λ b. fit && b) one) ∙ (assoc fit (p x) (list_all p (drop (at + 1) xs)) ∙ (ap (λ b. fit && b) (sym now) ∙ so_far.found));
    }

and_true : (a : Bool) → (a && true) ≡ a
and_true true = refl
and_true false = refl

-- at the end it is the whole
pub walk_end : {A : Type 0} {p : A → Bool} {xs : List A} {at : ℕ} {fit : Bool} → at ≡ length xs → IsSoFar p xs at fit → fit ≡ list_all p xs
walk_end {A = A} {p} {xs} {at} {fit} end so_far =
    let gone : drop at xs ≡ [] = rw end (drop-length xs) in
    sym (and_true fit) ∙ (ap (λ (ys : List A). fit && list_all p ys) (sym gone) ∙ so_far.found)

-- ---- both ways

numbers_so : (o : Object) → has_numbers o ≡ true → HasNumbers o
numbers_so o h = grind (arith, nat_tests, h)

so_numbers : (o : Object) → HasNumbers o → has_numbers o ≡ true
so_numbers o h = grind (arith, nat_tests, h)

word_so : (v : ℕ) → nat_lt v value_bound ≡ true → v < value_bound
word_so v h = grind (arith, nat_tests, h)

so_word : (v : ℕ) → v < value_bound → nat_lt v value_bound ≡ true
so_word v h = grind (arith, nat_tests, h)

mutual
  fits_so : (e : ScopedExpression) → fits e ≡ true → IsFit e
  fits_so (constant line value form kind) h = word_so value h
  fits_so (null line kind) h = tt
  fits_so (text line kind) h = tt
  fits_so (object of kind) h = place_so of h
  fits_so (address line of kind) h = place_so of h
  fits_so (paren line inner kind) h = fits_so inner h
  fits_so (unary line op of kind) h = fits_so of h
  fits_so (cast line to of kind) h = fits_so of h
  fits_so (binary line op l r kind) h = (fits_so l (and_parts (fits l) (fits r) h).0, fits_so r (and_parts (fits l) (fits r) h).1)
  fits_so (choose line test one two kind) h =
      let rest = (and_parts (fits test) (fits one && fits two) h).1 in
      (fits_so test (and_parts (fits test) (fits one && fits two) h).0, fits_so one (and_parts (fits one) (fits two) rest).0, fits_so two (and_parts (fits one) (fits two) rest).1)
  fits_so (assign line op to value kind) h = (place_so to (and_parts (place_fits to) (fits value) h).0, fits_so value (and_parts (place_fits to) (fits value) h).1)
  fits_so (step line of up before kind) h = place_so of h
  fits_so (call line callee args kind) h = all_so args h

  place_so : (t : Lvalue) → place_fits t ≡ true → IsFitPlace t
  place_so (lvalue line meant index checked) h = (numbers_so meant (and_parts (has_numbers meant) (index_fits index) h).0, index_so index (and_parts (has_numbers meant) (index_fits index) h).1)

  index_so : (i : ScopedIndex) → index_fits i ≡ true → IsFitIndex i
  index_so whole h = tt
  index_so (element index) h = fits_so index h

  all_so : (es : ScopedExpressions) → all_fit es ≡ true → AreFit es
  all_so none h = tt
  all_so (and e rest) h = (fits_so e (and_parts (fits e) (all_fit rest) h).0, all_so rest (and_parts (fits e) (all_fit rest) h).1)

mutual
  so_fits : (e : ScopedExpression) → IsFit e → fits e ≡ true
  so_fits (constant line value form kind) h = so_word value h
  so_fits (null line kind) h = refl
  so_fits (text line kind) h = refl
  so_fits (object of kind) h = so_place of h
  so_fits (address line of kind) h = so_place of h
  so_fits (paren line inner kind) h = so_fits inner h
  so_fits (unary line op of kind) h = so_fits of h
  so_fits (cast line to of kind) h = so_fits of h
  so_fits (binary line op l r kind) h = and_from (fits l) (fits r) (so_fits l h.0) (so_fits r h.1)
  so_fits (choose line test one two kind) h = and_from (fits test) (fits one && fits two) (so_fits test h.0) (and_from (fits one) (fits two) (so_fits one h.1) (so_fits two h.2))
  so_fits (assign line op to value kind) h = and_from (place_fits to) (fits value) (so_place to h.0) (so_fits value h.1)
  so_fits (step line of up before kind) h = so_place of h
  so_fits (call line callee args kind) h = so_all args h

  so_place : (t : Lvalue) → IsFitPlace t → place_fits t ≡ true
  so_place (lvalue line meant index checked) h = and_from (has_numbers meant) (index_fits index) (so_numbers meant h.0) (so_index index h.1)

  so_index : (i : ScopedIndex) → IsFitIndex i → index_fits i ≡ true
  so_index whole h = refl
  so_index (element index) h = so_fits index h

  so_all : (es : ScopedExpressions) → AreFit es → all_fit es ≡ true
  so_all none h = refl
  so_all (and e rest) h = and_from (fits e) (all_fit rest) (so_fits e h.0) (so_all rest h.1)

may_so : (o : Option ScopedExpression) → may_fit o ≡ true → MayFit o
may_so None h = tt
may_so (Some e) h = fits_so e h

so_may : (o : Option ScopedExpression) → MayFit o → may_fit o ≡ true
so_may None h = refl
so_may (Some e) h = so_fits e h

first_so : (i : ScopedInitializer) → first_fits i ≡ true → IsFitFirst i
first_so nothing h = tt
first_so (single value) h = fits_so value h
first_so (listed values) h = all_so values h

so_first : (i : ScopedInitializer) → IsFitFirst i → first_fits i ≡ true
so_first nothing h = refl
so_first (single value) h = so_fits value h
so_first (listed values) h = so_all values h

declared_so : (ds : List ScopedInitDeclarator) → declared_fit ds ≡ true → AreFitDeclared ds
declared_so [] h = tt
declared_so (d ∷ rest) h =
    let one = (and_parts (declarator_fits d) (declared_fit rest) h).0 in
    (numbers_so d.object (and_parts (has_numbers d.object) (first_fits d.first) one).0, first_so d.first (and_parts (has_numbers d.object) (first_fits d.first) one).1, declared_so rest (and_parts (declarator_fits d) (declared_fit rest) h).1)

so_declared : (ds : List ScopedInitDeclarator) → AreFitDeclared ds → declared_fit ds ≡ true
so_declared [] h = refl
so_declared (d ∷ rest) h = and_from (declarator_fits d) (declared_fit rest) (and_from (has_numbers d.object) (first_fits d.first) (so_numbers d.object h.0) (so_first d.first h.1)) (so_declared rest h.2)

mutual
  pub statement_so : (s : ScopedStatement) → statement_fits s ≡ true → IsFitStatement s
  statement_so empty h = tt
  statement_so (eval value) h = fits_so value h
  statement_so (block parts) h = parts_so parts h
  statement_so (declare of) h = declared_so of.declarators h
  statement_so (when line test one two) h =
      let rest = (and_parts (fits test) (statement_fits one && branch_fits two) h).1 in
      (fits_so test (and_parts (fits test) (statement_fits one && branch_fits two) h).0, statement_so one (and_parts (statement_fits one) (branch_fits two) rest).0, branch_so two (and_parts (statement_fits one) (branch_fits two) rest).1)
  statement_so (while line test body) h = (fits_so test (and_parts (fits test) (statement_fits body) h).0, statement_so body (and_parts (fits test) (statement_fits body) h).1)
  statement_so (do_while line body test) h = (statement_so body (and_parts (statement_fits body) (fits test) h).0, fits_so test (and_parts (statement_fits body) (fits test) h).1)
  statement_so (for line opens test change body) h =
      let rest = (and_parts (statement_fits opens) (may_fit test && (may_fit change && statement_fits body)) h).1 in
      let more = (and_parts (may_fit test) (may_fit change && statement_fits body) rest).1 in (
        statement_so opens (and_parts (statement_fits opens) (may_fit test && (may_fit change && statement_fits body)) h).0,
        may_so test (and_parts (may_fit test) (may_fit change && statement_fits body) rest).0,
        may_so change (and_parts (may_fit change) (statement_fits body) more).0,
        statement_so body (and_parts (may_fit change) (statement_fits body) more).1,
      )
  statement_so (break line) h = tt
  statement_so (continue line) h = tt
  statement_so (return line value) h = may_so value h
  statement_so (label name of) h = statement_so of h

  branch_so : (b : ScopedBranch) → branch_fits b ≡ true → IsFitBranch b
  branch_so absent h = tt
  branch_so (branch of) h = statement_so of h

  parts_so : (ps : ScopedStatements) → parts_fit ps ≡ true → AreFitStatements ps
  parts_so nil h = tt
  parts_so (cons s rest) h = (statement_so s (and_parts (statement_fits s) (parts_fit rest) h).0, parts_so rest (and_parts (statement_fits s) (parts_fit rest) h).1)

mutual
  pub so_statement : (s : ScopedStatement) → IsFitStatement s → statement_fits s ≡ true
  so_statement empty h = refl
  so_statement (eval value) h = so_fits value h
  so_statement (block parts) h = so_parts parts h
  so_statement (declare of) h = so_declared of.declarators h
  so_statement (when line test one two) h = and_from (fits test) (statement_fits one && branch_fits two) (so_fits test h.0) (and_from (statement_fits one) (branch_fits two) (so_statement one h.1) (so_branch two h.2))
  so_statement (while line test body) h = and_from (fits test) (statement_fits body) (so_fits test h.0) (so_statement body h.1)
  so_statement (do_while line body test) h = and_from (statement_fits body) (fits test) (so_statement body h.0) (so_fits test h.1)
  so_statement (for line opens test change body) h =
      and_from (statement_fits opens) (may_fit test && (may_fit change && statement_fits body)) (so_statement opens h.0)
      (and_from (may_fit test) (may_fit change && statement_fits body) (so_may test h.1) (and_from (may_fit change) (statement_fits body) (so_may change h.2) (so_statement body h.3)))
  so_statement (break line) h = refl
  so_statement (continue line) h = refl
  so_statement (return line value) h = so_may value h
  so_statement (label name of) h = so_statement of h

  so_branch : (b : ScopedBranch) → IsFitBranch b → branch_fits b ≡ true
  so_branch absent h = refl
  so_branch (branch of) h = so_statement of h

  so_parts : (ps : ScopedStatements) → AreFitStatements ps → parts_fit ps ≡ true
  so_parts nil h = refl
  so_parts (cons s rest) h = and_from (statement_fits s) (parts_fit rest) (so_statement s h.0) (so_parts rest h.1)

abbrev IsFitBody : ScopedDefinition → Type 0
IsFitBody d = IsFitStatement d.body

pub bodies_so : (ds : List ScopedDefinition) → bodies_fit ds ≡ true → All (λ d. IsFitStatement d.body) ds
bodies_so [] h = λ k d low. absurd (omega (arith, low))
bodies_so (d ∷ rest) h = All-cons IsFitBody d rest (statement_so d.body (and_parts (statement_fits d.body) (bodies_fit rest) h).0) (bodies_so rest (and_parts (statement_fits d.body) (bodies_fit rest) h).1)

pub so_bodies : (ds : List ScopedDefinition) → All (λ d. IsFitStatement d.body) ds → bodies_fit ds ≡ true
so_bodies [] h = refl
so_bodies (d ∷ rest) h = and_from (statement_fits d.body) (bodies_fit rest) (so_statement d.body (All-head IsFitBody d rest h)) (so_bodies rest (All-tail IsFitBody d rest h))
