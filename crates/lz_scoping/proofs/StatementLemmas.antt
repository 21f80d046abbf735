-- The walk over statements: the code of a program that breaks no rule is scoped.
use Rattle.std.proofs.Common.{◌≡◌, ℕ, ◌+◌, ◌<◌, Bool, true, false, not, List, [], ◌∷◌, ◌++◌, Option, Some, None, refl, sym, ap, ◌∙◌, subst, arith}
use Rattle.lz_base.proofs.ListLemmas.{nil_front as front, nil_back as back}
use Rattle.lz_base.specs.declared.word.IntType.{IntType}
use Rattle.lz_tree.specs.declared.expression.TypeName.{TypeName}
use Rattle.lz_tree.specs.Calls.{expression_calls, optional_calls, statement_calls, branch_calls, statements_calls}
use Rattle.lz_tree.specs.ScopedTrees.{ScopedExpression}
use Rattle.lz_tree.specs.Trees.{Expression, InitDeclarator, Statement, empty, eval, block, declare, when, while, do_while, for, break, continue, return, label, Branch, absent, branch, Statements, nil, cons, TranslationUnit}
use Rattle.lz_tree.specs.WellFormed.{FitsExpression, FitsOptional, FitsStatement, FitsBranch, FitsParts, is_start, is_block}
use Rattle.lz_tree.specs.WellScoped.{Setting, IsScoped, HasValue, MayTest, MayScope, IsReturned, IsCode, IsBranch, AreCode}
use Rattle.lz_scopes.specs.declared.fault.Fault.{Fault}
use Rattle.lz_scopes.specs.declared.fault.Rule.TheVariants.{OutsideLoop, BadReturn}
use Rattle.lz_scopes.specs.declared.place.Counts.{Counts}
use Rattle.lz_scopes.specs.declared.place.Place.{Place}
use Rattle.lz_scopes.specs.declared.value_types.ValueType.{ValueType}
use Rattle.lz_scopes.specs.declared.value_types.ValueType.TheVariants as sorts
use Rattle.lz_scopes.specs.declared.value_types.Want.TheVariants as wants
use Rattle.lz_scopes.specs.ValueTypes as values
use Rattle.lz_scopes.specs.ValueTypes.{value_type, want_of, is_nothing, is_no_operand}
use Rattle.lz_scopes.specs.Scopes.{inside, inside_loop, behind, after, after_branch, after_all, after_body, with_declarator, with_declarators}
use Rattle.lz_scopes.specs.Files.{File, Facts, file_with, bare, is_reached}
use Rattle.lz_scopes.proofs.PlacesLemmas.{Kept, kept}
use Rattle.lz_resolve.specs.ScopedPrograms.{value_kind, scope, scope_optional, scope_statement, scope_branch, scope_statements, scope_body}
use Rattle.lz_types.specs.Faults.{at, faults, optional_faults, is_bad_return, statement_faults, branch_faults, statements_faults, body_faults}
use Rattle.lz_scoping.proofs.TypesLemmas.{no_rules, not_when, not_false, no_truth, needs_of, plain_of, plain_integer, plain_unneeded}
use Rattle.lz_scoping.proofs.NumberingLemmas.{Suits, suits_front, suits_back, kinds_in, kinds_in_branch, kinds_in_all, Counted, counted, counted_branch, counted_all}
use Rattle.lz_scoping.proofs.PlacesLemmas.{At}
use Rattle.lz_scoping.proofs.ArgumentsLemmas.{Good, good_value, Rights}
use Rattle.lz_scoping.proofs.ExpressionLemmas.{Allowed, allowed_front, allowed_back}
use Rattle.lz_scoping.proofs.WalkLemmas.{good}
use Rattle.lz_scoping.proofs.DeclaratorLemmas.{Ends, ends_before, all_declared}

next_suits : {g : ℕ → IntType} {c d : Counts} (xs ys : List IntType) → Counted c d xs → Suits g c.locals (xs ++ ys) → Suits g d.locals ys
next_suits {g} {c} {d} xs ys n s = subst (λ (k : ℕ). Suits g k ys) (sym n.locals) (suits_back xs ys s)

nothing_kind : (of : ValueType) → is_nothing of ≡ true → value_kind of ≡ None
nothing_kind sorts.Nothing e = refl
nothing_kind _ e = no_truth e

returned : (w : Setting) (of : ValueType) (e : ScopedExpression) → is_nothing of ≡ false → is_no_operand of ≡ false → IsScoped w e → HasValue e → IsReturned w (value_kind of) (Some e)
returned w (sorts.Integer kind) e some operand s v = (s, v)
returned w sorts.Pointer e some operand s v = (s, v)
returned w sorts.Nothing e some operand s v = no_truth (sym some)
returned w _ e some operand s v = no_truth (sym operand)

-- The place is in a function that gives this, in a loop or not.
pub record Here (w : Setting) (f : ℕ) (g : TypeName) (b : Bool) (p : Place) : Type 0 where
  pub at : At w f p
  pub gives : p.gives ≡ g
  pub loop : p.in_loop ≡ b

here_inside : {w : Setting} {f : ℕ} {g : TypeName} {b : Bool} {p : Place} → Here w f g b p → Here w f g b (inside p)
here_inside h = record { at = record { deep = omega arith; same = h.at.same; names = h.at.names }; gives = h.gives; loop = h.loop }

here_loop : {w : Setting} {f : ℕ} {g : TypeName} {b : Bool} {p : Place} → Here w f g b p → Here w f g true (inside_loop p)
here_loop h = record { at = record { deep = omega arith; same = h.at.same; names = h.at.names }; gives = h.gives; loop = refl }

here_behind : {w : Setting} {f : ℕ} {g : TypeName} {b : Bool} {p : Place} (q : Place) → Here w f g b p → Here w f g b (behind p q)
here_behind q h = record { at = record { deep = h.at.deep; same = h.at.same; names = h.at.names }; gives = h.gives; loop = h.loop }

loop_declared : (p : Place) (base : TypeName) (ds : List InitDeclarator) → (with_declarators p base ds).in_loop ≡ p.in_loop
loop_declared p base [] = refl
loop_declared p base (d ∷ rest) = loop_declared (with_declarator p base d) base rest

in_a_loop : (b : Bool) (line : ℕ) → at line (values.when (not b) OutsideLoop) ≡ [] → b ≡ true
in_a_loop true line e = refl
in_a_loop false line e = absurd cc

module _ (w : Setting) (unit : TranslationUnit) (facts : Facts) (f : ℕ) (rights : Rights w (file_with unit facts)) (threads : is_reached (file_with unit facts) f ≡ false → w.threads ≡ true) (g : TypeName) (gives_value : is_no_operand (value_type g) ≡ false) where
  abbrev known : File
  known = bare unit

  abbrev file : File
  file = file_with unit facts

  tested : (p : Place) → At w f p → (e : Expression) → faults file p wants.Integer e ≡ [] → FitsExpression e → Allowed w file (expression_calls (scope known p e)) → IsScoped w (scope known p e) × HasValue (scope known p e)
  tested p at e clear fits calls = let x : Good w known file p wants.Integer e = (good w unit facts f rights threads p at wants.Integer e clear fits calls).good plain_integer in (x.scoped, good_value x refl)

  done : (p : Place) → At w f p → (e : Expression) → faults file p wants.Unneeded e ≡ [] → FitsExpression e → Allowed w file (expression_calls (scope known p e)) → IsScoped w (scope known p e)
  done p at e clear fits calls = let x : Good w known file p wants.Unneeded e = (good w unit facts f rights threads p at wants.Unneeded e clear fits calls).good plain_unneeded in x.scoped

  may_test : (p : Place) → At w f p → (e : Option Expression) → optional_faults file p wants.Integer e ≡ [] → FitsOptional e → Allowed w file (optional_calls (scope_optional known p e)) → MayTest w (scope_optional known p e)
  may_test p at None clear fits calls = tt
  may_test p at (Some e) clear fits calls = tested p at e clear fits calls

  may_do : (p : Place) → At w f p → (e : Option Expression) → optional_faults file p wants.Unneeded e ≡ [] → FitsOptional e → Allowed w file (optional_calls (scope_optional known p e)) → MayScope w (scope_optional known p e)
  may_do p at None clear fits calls = tt
  may_do p at (Some e) clear fits calls = done p at e clear fits calls

  gives_back : (p : Place) → At w f p → (e : Option Expression) → is_bad_return g e ≡ false → optional_faults file p (want_of (value_type g)) e ≡ [] → FitsOptional e → Allowed w file (optional_calls (scope_optional known p e))
      → IsReturned w (value_kind (value_type g)) (scope_optional known p e)
  gives_back p at None right clear fits calls = nothing_kind (value_type g) (not_false (is_nothing (value_type g)) right)
  gives_back p at (Some e) right clear fits calls =
      let x : Good w known file p (want_of (value_type g)) e = (good w unit facts f rights threads p at (want_of (value_type g)) e clear fits calls).good (plain_of (value_type g)) in
      returned w (value_type g) (scope known p e) right gives_value x.scoped (good_value x (needs_of (value_type g)))

  abbrev result : Option IntType
  result = value_kind (value_type g)

  start_code : (b : Bool) (p : Place) (s : Statement) → is_start s ≡ true → IsCode w result b (scope_statement known p s) → IsCode w result false (scope_statement known p s)
  unfolding scope_statement
  start_code b p empty is c = tt
  start_code b p (eval e) is c = c
  start_code b p (declare of) is c = c
  start_code b p _ is c = no_truth is

  mutual
    unfolding statement_faults scope_statement after

    pub code : (b : Bool) (p : Place) → Here w f g b p → (s : Statement) → statement_faults file p s ≡ [] → FitsStatement s → Allowed w file (statement_calls (scope_statement known p s)) → Ends w (after p s).counts
        → Suits w.local_kinds p.counts.locals (kinds_in s) → IsCode w result b (scope_statement known p s) × Here w f g b (after p s)
    code b p h empty clear fits calls e suits = (tt, h)
    code b p h (eval value) clear fits calls e suits = (done p h.at value clear fits calls, h)
    code b p h (block parts) clear fits calls e suits = ((all_code b (inside p) (here_inside h) parts clear fits calls e suits).0, here_behind (after_all (inside p) parts) h)
    code b p h (declare of) clear fits calls e suits =
        let all = all_declared w unit facts f rights threads p h.at of.base of.declarators (back _ _ clear) fits.1 calls e suits in
        let k : Kept p (after p (declare of)) = kept p (declare of) in
        (all.0, record { at = all.1; gives = k.gives ∙ h.gives; loop = loop_declared p of.base of.declarators ∙ h.loop })
    code b p h (when line test first second) clear fits calls e suits =
        let q : Place = behind p (after (inside p) first) in
        let t = tested p h.at test (front _ _ clear) fits.0 (allowed_front _ _ calls) in
        let n : Counted p.counts q.counts (kinds_in first) = counted (inside p) first (omega arith) in
        let a = code b (inside p) (here_inside h) first (front _ _ (back _ _ clear)) fits.1 (allowed_front _ _ (allowed_back _ _ calls)) (ends_before (counted_branch q second h.at.deep) e) (suits_front (kinds_in first) (kinds_in_branch second) suits) in
        let z = branch_code b q (here_behind (after (inside p) first) h) first second (back _ _ (back _ _ clear)) fits.2 (allowed_back _ _ (allowed_back _ _ calls)) e (next_suits (kinds_in first) (kinds_in_branch second) n suits) in
        ((t.0, t.1, a.0, z.0), z.1)
    code b p h (while line test body) clear fits calls e suits =
        let t = tested p h.at test (front _ _ clear) fits.0 (allowed_front _ _ calls) in
        ((t.0, t.1, (code true (inside_loop p) (here_loop h) body (back _ _ clear) fits.1 (allowed_back _ _ calls) e suits).0), here_behind (after (inside_loop p) body) h)
    code b p h (do_while line body test) clear fits calls e suits =
        let q : Place = behind p (after (inside_loop p) body) in
        let k : Here w f g b q = here_behind (after (inside_loop p) body) h in
        let t = tested q k.at test (back _ _ clear) fits.1 (allowed_back _ _ calls) in
        (((code true (inside_loop p) (here_loop h) body (front _ _ clear) fits.0 (allowed_front _ _ calls) e suits).0, t.0, t.1), k)
    code b p h (for line first test change body) clear fits calls e suits =
        let q : Place = after (inside p) first in
        let tests : List Fault = optional_faults file q wants.Integer test in
        let changes : List Fault = optional_faults file q wants.Unneeded change in
        let bodies : List Fault = statement_faults file (inside_loop q) body in
        let rest : tests ++ (changes ++ bodies) ≡ [] = back (statement_faults file (inside p) first) (tests ++ (changes ++ bodies)) clear in
        let last : changes ++ bodies ≡ [] = back tests (changes ++ bodies) rest in
        let n : Counted p.counts q.counts (kinds_in first) = counted (inside p) first (omega arith) in
        let m : Counted q.counts (after (inside_loop q) body).counts (kinds_in body) = counted (inside_loop q) body (omega arith) in
        let first_calls : List ℕ = statement_calls (scope_statement known (inside p) first) in
        let test_calls : List ℕ = optional_calls (scope_optional known q test) in
        let change_calls : List ℕ = optional_calls (scope_optional known q change) in
        let body_calls : List ℕ = statement_calls (scope_statement known (inside_loop q) body) in
        let behind_first : Allowed w file (test_calls ++ (change_calls ++ body_calls)) = allowed_back first_calls (test_calls ++ (change_calls ++ body_calls)) calls in
        let behind_test : Allowed w file (change_calls ++ body_calls) = allowed_back test_calls (change_calls ++ body_calls) behind_first in
        let a = code b (inside p) (here_inside h) first (front (statement_faults file (inside p) first) (tests ++ (changes ++ bodies)) clear) fits.1 (allowed_front first_calls (test_calls ++ (change_calls ++ body_calls)) calls) (ends_before m e) (suits_front (kinds_in first) (kinds_in body) suits) in (
          (
            start_code b (inside p) first fits.0 a.0,
            may_test q a.1.at test (front tests (changes ++ bodies) rest) fits.2 (allowed_front test_calls (change_calls ++ body_calls) behind_first),
            may_do q a.1.at change (front changes bodies last) fits.3 (allowed_front change_calls body_calls behind_test),
            (code true (inside_loop q) (here_loop a.1) body (back changes bodies last) fits.4 (allowed_back change_calls body_calls behind_test) e (next_suits (kinds_in first) (kinds_in body) n suits)).0,
          ),
          here_behind (after (inside_loop q) body) h,
        )
    code b p h (break line) clear fits calls e suits = (sym h.loop ∙ in_a_loop p.in_loop line clear, h)
    code b p h (continue line) clear fits calls e suits = (sym h.loop ∙ in_a_loop p.in_loop line clear, h)
    code b p h (return line value) clear fits calls e suits = (
      gives_back p h.at value
          (ap (λ (t : TypeName). is_bad_return t value) (sym h.gives) ∙ not_when _ BadReturn (no_rules line _ (front _ _ clear)))
          (ap (λ (t : TypeName). optional_faults file p (want_of (value_type t)) value) (sym h.gives) ∙ back _ _ clear) fits calls,
      h,
    )
    code b p h (label name of) clear fits calls e suits = code b p h of clear fits calls e suits

    pub branch_code : (b : Bool) (p : Place) → Here w f g b p → (before : Statement) (s : Branch) → branch_faults file p s ≡ [] → FitsBranch before s → Allowed w file (branch_calls (scope_branch known p s)) → Ends w (after_branch p s).counts
        → Suits w.local_kinds p.counts.locals (kinds_in_branch s) → IsBranch w result b (scope_branch known p s) × Here w f g b (after_branch p s)
    branch_code b p h before absent clear fits calls e suits = (tt, h)
    branch_code b p h before (branch of) clear fits calls e suits = ((code b (inside p) (here_inside h) of clear fits.1 calls e suits).0, here_behind (after (inside p) of) h)

    pub all_code : (b : Bool) (p : Place) → Here w f g b p → (parts : Statements) → statements_faults file p parts ≡ [] → FitsParts parts → Allowed w file (statements_calls (scope_statements known p parts)) → Ends w (after_all p parts).counts
        → Suits w.local_kinds p.counts.locals (kinds_in_all parts) → AreCode w result b (scope_statements known p parts) × Here w f g b (after_all p parts)
    all_code b p h nil clear fits calls e suits = (tt, h)
    all_code b p h (cons s rest) clear fits calls e suits =
        let q : Place = after p s in
        let k : Kept p q = kept p s in
        let deep : 0 < q.depth = (let same = k.depth in let low = h.at.deep in omega arith) in
        let a = code b p h s (front _ _ clear) fits.0 (allowed_front _ _ calls) (ends_before (counted_all q rest deep) e) (suits_front (kinds_in s) (kinds_in_all rest) suits) in
        let z = all_code b q a.1 rest (back _ _ clear) fits.1 (allowed_back _ _ calls) e (next_suits (kinds_in s) (kinds_in_all rest) (counted p s h.at.deep) suits) in
        ((a.0, z.0), z.1)

  -- the block of a function
  pub body_code : (p : Place) → Here w f g false p → (s : Statement) → is_block s ≡ true → body_faults file p s ≡ [] → FitsStatement s → Allowed w file (statement_calls (scope_body known p s)) → Ends w (after_body p s).counts
      → Suits w.local_kinds p.counts.locals (kinds_in s) → IsCode w result false (scope_body known p s)
  body_code p h (block parts) is clear fits calls e suits = (all_code false p h parts clear fits calls e suits).0
  body_code p h _ is clear fits calls e suits = no_truth is
