-- In a program that breaks no rule each call leads to a function of the file, and none comes back to its caller.
use Rattle.std.proofs.Common.{◌≡◌, ℕ, zero, suc, ◌+◌, ◌<◌, ◌≤◌, ◌==◌, Bool, true, false, List, [], ◌∷◌, ◌++◌, length, slice_get, Option, Some, None, refl, sym, ap, ◌∙◌, subst, arith, inl, inr, if◌then◌else◌, IsTrue}
use Rattle.std.specs.List.{Contains}
use Rattle.std.proofs.lemmas.Bool.{cases_Bool, eqb-true, false≢true}
use Rattle.std.proofs.lemmas.List.{length-map}
use Rattle.std.proofs.lemmas.Option.{none-some}
use Rattle.lz_base.proofs.ListLemmas.{nil_front as front, nil_back as back}
use Rattle.lz_tree.specs.declared.expression.TypeName.{TypeName}
use Rattle.lz_tree.specs.declared.program.Param.{Param}
use Rattle.lz_tree.specs.declared.scoped.Object.{Object}
use Rattle.lz_tree.specs.declared.scoped.Object.TheVariants.{Local, Cell, Mutex, Cond, Handle, Routine, Known}
use Rattle.lz_tree.specs.declared.scoped.KnownName.{KnownName}
use Rattle.lz_tree.specs.declared.scoped.KnownName.TheVariants.{ReachError}
use Rattle.lz_tree.specs.Calls.{called, expression_calls, index_calls, expressions_calls, optional_calls, initializer_calls, declarators_calls, statement_calls, branch_calls, statements_calls, body_at}
use Rattle.lz_tree.specs.ScopedTrees.{ScopedDefinition}
use Rattle.lz_tree.specs.Trees.{Expression, constant, null, text, object, address, paren, unary, cast, binary, choose, assign, step, call, Index, whole, element, Expressions, none, and, Initializer, nothing, single, listed, mutex, cond, InitDeclarator, Statement, empty, eval, block, declare, when, while, do_while, for, break, continue, return, label, Branch, absent, branch, Statements, nil, cons, ExternalDeclaration, objects, prototype, function, TranslationUnit}
use Rattle.lz_scopes.specs.declared.fault.Fault.{Fault}
use Rattle.lz_scopes.specs.declared.fault.Rule.{Rule}
use Rattle.lz_scopes.specs.declared.fault.Rule.TheVariants.{Recursive}
use Rattle.lz_scopes.specs.declared.names.Entry.{Entry}
use Rattle.lz_scopes.specs.declared.place.Place.{Place}
use Rattle.lz_scopes.specs.declared.signature.Signature.{Signature}
use Rattle.lz_scopes.specs.declared.value_types.Want.{Want}
use Rattle.lz_scopes.specs.declared.value_types.Want.TheVariants as wants
use Rattle.lz_scopes.specs.ValueTypes as values
use Rattle.lz_scopes.specs.ValueTypes.{want_of}
use Rattle.lz_scopes.specs.Names.{nearest}
use Rattle.lz_scopes.specs.Scopes.{signatures, around, function_meant, called_by, inside, inside_loop, behind, after, with_declarator, with_declaration, with_param, with_params, into, into_body, with_function, past, after_body, after_external, opening}
use Rattle.lz_scopes.specs.Files.{File, Facts, file_with, bare, function_from, function_named, known_at, returns_to, row_has}
use Rattle.lz_scopes.specs.ExpressionTypes.{callee, can_return, late_call, choice_want, type_of, type_at}
use Rattle.lz_scopes.proofs.PlacesLemmas.{Kept, kept}
use Rattle.lz_resolve.specs.ScopedPrograms.{or_nothing, scope, scope_index, scope_all, scope_optional, scope_initializer, scope_declarators, scope_statement, scope_branch, scope_statements, scope_body, scope_externals, scoped_of}
use Rattle.lz_calls.specs.Calls.{Calls, graph_of}
use Rattle.lz_calls.specs.Facts.{IsRecursionFree}
use Rattle.lz_calls.specs.Reaching.{Among}
use Rattle.lz_calls.proofs.ReachingLemmas.{calls_within, contains_among}
use Rattle.lz_calls.proofs.UniqueLemmas.{among_parts}
use Rattle.lz_types.specs.Checking.{AreFaults}
use Rattle.lz_types.specs.Faults.{at, node, target, faults, index_faults, all_faults, optional_faults, initializer_faults, declarators_faults, statement_faults, branch_faults, statements_faults, body_faults, external_faults, externals_faults, file_faults}
use Rattle.lz_calls.proofs.FactsLemmas.{row_at}

-- ---- lists without items

no_rules : (line : ℕ) (rules : List Rule) → at line rules ≡ [] → rules ≡ []
no_rules line [] e = refl
no_rules line (r ∷ rules) e = absurd cc

not_when : (b : Bool) (rule : Rule) → values.when b rule ≡ [] → b ≡ false
not_when true rule e = absurd cc
not_when false rule e = refl

-- ---- calls that do not come back

-- Each of these functions is one of the file, and does not come back to the one that calls it.
pub record Leads (file : File) (f g : ℕ) : Type 0 where
  pub within : g < length file.functions
  pub ahead : returns_to file f g ≡ false

-- So does each function in a list.
pub record Lead (file : File) (f : ℕ) (calls : List ℕ) : Type 0 where
  pub each : (g : ℕ) → Among calls g → Leads file f g

no_calls : {file : File} {f : ℕ} → Lead file f []
no_calls = record { each = λ g a. absurd a }

one_call : {file : File} {f g : ℕ} → Leads file f g → Lead file f (g ∷ [])
one_call {file} {f} leads = record { each = λ h a. elim a [ inl e ↦ subst (λ (y : ℕ). Leads file f y) e leads | inr none_left ↦ absurd none_left ] }

both : {file : File} {f : ℕ} {xs ys : List ℕ} → Lead file f xs → Lead file f ys → Lead file f (xs ++ ys)
both {xs = xs} {ys = ys} left right = record { each = λ g a. elim (among_parts xs ys g a) [ inl l ↦ left.each g l | inr r ↦ right.each g r ] }

-- ---- what a call means

number : Option Object → Option ℕ
number None = None
number (Some (Routine n)) = Some n
number (Some (Local first len kind)) = None
number (Some (Cell first len kind)) = None
number (Some (Mutex first len)) = None
number (Some (Cond first len)) = None
number (Some (Handle first len)) = None
number (Some (Known name)) = None

pick_in : (b : Bool) (n m l : ℕ) (o : Option ℕ) → (o ≡ Some m → m < (n + 1) + l) → (if b then Some n else o) ≡ Some m → m < n + suc l
pick_in true n m l o h e = let same : n ≡ m = cc in omega (arith, same)
pick_in false n m l o h e = let g : m < (n + 1) + l = h e in omega (arith, g)

from_within : (n : ℕ) (fs : List Signature) (name m : ℕ) → function_from n fs name ≡ Some m → m < n + length fs
from_within n [] name m e = absurd (none-some m e)
from_within n (f ∷ rest) name m e =
    pick_in (f.name == name) n m (length rest) (function_from (n + 1) rest name) (λ r. from_within (n + 1) rest name m r) e

known_number : (k : KnownName) (d : Option ℕ) (n : ℕ) → number (function_meant (Some k) d) ≡ Some n → d ≡ Some n
unfolding number
known_number ReachError (Some m) n e = e
known_number ReachError None n e = absurd (none-some n e)
known_number _ (Some m) n e = absurd (none-some n e)
known_number _ None n e = absurd (none-some n e)

meant_number : (e : Option Entry) (k : Option KnownName) (d : Option ℕ) (n : ℕ) → number (called_by e k d) ≡ Some n → d ≡ Some n
unfolding number
meant_number (Some e) k d n is = absurd (none-some n is)
meant_number None None None n is = absurd (none-some n is)
meant_number None None (Some m) n is = is
meant_number None (Some k) d n is = known_number k d n is

lead_called : (file : File) (f : ℕ) (o : Option Object) → ((n : ℕ) → number o ≡ Some n → Leads file f n) → Lead file f (called (or_nothing o))
unfolding number
lead_called file f None h = no_calls
lead_called file f (Some (Routine n)) h = one_call (h n refl)
lead_called file f (Some (Local first len kind)) h = no_calls
lead_called file f (Some (Cell first len kind)) h = no_calls
lead_called file f (Some (Mutex first len)) h = no_calls
lead_called file f (Some (Cond first len)) h = no_calls
lead_called file f (Some (Handle first len)) h = no_calls
lead_called file f (Some (Known name)) h = no_calls

routine_of : (o : Option Object) (n : ℕ) → number o ≡ Some n → o ≡ Some (Routine n)
unfolding number
routine_of None n e = absurd (none-some n e)
routine_of (Some (Routine m)) n e = ap (λ (x : Option ℕ). again x) e
  where
    again : Option ℕ → Option Object
    again None = None
    again (Some x) = Some (Routine x)
routine_of (Some (Local first len kind)) n e = absurd (none-some n e)
routine_of (Some (Cell first len kind)) n e = absurd (none-some n e)
routine_of (Some (Mutex first len)) n e = absurd (none-some n e)
routine_of (Some (Cond first len)) n e = absurd (none-some n e)
routine_of (Some (Handle first len)) n e = absurd (none-some n e)
routine_of (Some (Known name)) n e = absurd (none-some n e)

late_ahead : (file : File) (place : Place) (f n : ℕ) (o : Option Object) (args : Expressions) → around place ≡ Some f → late_call file place o args ≡ []
    → number o ≡ Some n → returns_to file f n ≡ false
late_ahead file place f n o args a late is =
    let h : late_call file place (Some (Routine n)) args ≡ [] = subst (λ (x : Option Object). late_call file place x args ≡ []) (routine_of o n is) late in
    let c : can_return file (around place) n ≡ false = not_when (can_return file (around place) n) Recursive (front _ _ h) in
    subst (λ (x : Option ℕ). can_return file x n ≡ false) a c

-- ---- places in a function

not_zero : (d : ℕ) → 0 < d → (d == 0) ≡ false
not_zero d low = elim (cases_Bool (d == 0)) [ inl e ↦ let zero_is : d ≡ 0 = eqb-true d 0 e in absurd (omega (arith, low, zero_is)) | inr e ↦ e ]

-- The place is in the body of this function, or before that among its parameters.
record In (p : Place) (f : ℕ) : Type 0 where
  deep : 0 < p.depth
  same : p.function ≡ f

around_in : (p : Place) (f : ℕ) → In p f → around p ≡ Some f
around_in p f i =
    let deep : (p.depth == 0) ≡ false = not_zero p.depth i.deep in
    ap (λ (b : Bool). if b then None else Some p.function) deep ∙ ap Some i.same

in_inside : (p : Place) (f : ℕ) → In p f → In (inside p) f
in_inside p f i = record { deep = omega arith; same = i.same }

in_loop : (p : Place) (f : ℕ) → In p f → In (inside_loop p) f
in_loop p f i = record { deep = omega arith; same = i.same }

in_kept : (p q : Place) (f : ℕ) → Kept p q → In p f → In q f
in_kept p q f k i = record { deep = (let d = k.depth in let e = i.deep in omega arith); same = k.function ∙ i.same }

in_behind : (p q : Place) (f : ℕ) → In p f → In (behind p q) f
in_behind p q f i = record { deep = i.deep; same = i.same }

-- ---- a program without faults

module _ (unit : TranslationUnit) (facts : Facts) where
  abbrev file : File
  file = file_with unit facts

  call_leads : (p : Place) (f : ℕ) (name : ℕ) (args : Expressions) → In p f → late_call file p (callee file p name) args ≡ []
      → Lead file f (called (or_nothing (callee (bare unit) p name)))
  unfolding file_with
  call_leads p f name args i late =
      lead_called (file_with unit facts) f (callee (file_with unit facts) p name) (λ n is. record {
        within = (let low = from_within 0 (signatures unit.externals) name n (meant_number (nearest p.names name) (known_at (file_with unit facts) name) (function_named (signatures unit.externals) name) n is) in omega (arith, low));
        ahead = late_ahead (file_with unit facts) p f n (callee (file_with unit facts) p name) args (around_in p f i) late is;
      })

  mutual
    unfolding faults scope

    leads : (p : Place) (f : ℕ) → In p f → (want : Want) (e : Expression) → faults file p want e ≡ [] → Lead file f (expression_calls (scope (bare unit) p e))
    leads p f i want (constant line value form) clear = no_calls
    leads p f i want (null line) clear = no_calls
    leads p f i want (text line) clear = no_calls
    leads p f i want (object line name index) clear = index_leads p f i index (back _ _ (back _ _ clear))
    leads p f i want (address line at name index) clear = index_leads p f i index (back _ _ (back _ _ clear))
    leads p f i want (paren line inner) clear = leads p f i _ inner (back _ _ clear)
    leads p f i want (unary line op of) clear = leads p f i _ of (back _ _ clear)
    leads p f i want (cast line to of) clear = leads p f i _ of (back _ _ clear)
    leads p f i want (binary line op left right) clear =
        both (leads p f i _ left (front _ _ (back _ _ clear))) (leads p f i _ right (back _ _ (back _ _ clear)))
    leads p f i want (choose line test first second) clear =
        let w : Want = choice_want (type_of file p first) (type_of file p second) in
        let own : List Fault = node file p want (choose line test first second) in
        let rest : faults file p wants.Integer test ++ (faults file p w first ++ faults file p w second) ≡ [] =
        back own (faults file p wants.Integer test ++ (faults file p w first ++ faults file p w second)) clear in
        let both_parts : faults file p w first ++ faults file p w second ≡ [] = back (faults file p wants.Integer test) (faults file p w first ++ faults file p w second) rest in
        both (leads p f i wants.Integer test (front (faults file p wants.Integer test) (faults file p w first ++ faults file p w second) rest))
        (both (leads p f i w first (front (faults file p w first) (faults file p w second) both_parts)) (leads p f i w second (back (faults file p w first) (faults file p w second) both_parts)))
    leads p f i want (assign line op at name index value) clear =
        let w : Want = want_of (type_at p true name index) in
        let own : List Fault = node file p want (assign line op at name index value) in
        let its : List Fault = target p true at name index in
        let rest : its ++ (index_faults file p index ++ faults file p w value) ≡ [] = back own (its ++ (index_faults file p index ++ faults file p w value)) clear in
        let parts : index_faults file p index ++ faults file p w value ≡ [] = back its (index_faults file p index ++ faults file p w value) rest in
        both (index_leads p f i index (front (index_faults file p index) (faults file p w value) parts))
        (leads p f i w value (back (index_faults file p index) (faults file p w value) parts))
    leads p f i want (step line at name index up before) clear = index_leads p f i index (back _ _ (back _ _ clear))
    leads p f i want (call line name args) clear =
        both (all_lead p f i _ _ args (back _ _ clear))
        (call_leads p f name args i (back _ _ (back _ _ (no_rules line _ (front _ _ clear)))))

    index_leads : (p : Place) (f : ℕ) → In p f → (index : Index) → index_faults file p index ≡ [] → Lead file f (index_calls (scope_index (bare unit) p index))
    index_leads p f i whole clear = no_calls
    index_leads p f i (element e) clear = leads p f i _ e clear

    all_lead : (p : Place) (f : ℕ) → In p f → (ws : List Want) (further : Want) (es : Expressions) → all_faults file p ws further es ≡ []
        → Lead file f (expressions_calls (scope_all (bare unit) p es))
    all_lead p f i ws further none clear = no_calls
    all_lead p f i ws further (and e rest) clear =
        both (leads p f i _ e (front _ _ clear)) (all_lead p f i _ _ rest (back _ _ clear))

  optional_leads : (p : Place) (f : ℕ) → In p f → (want : Want) (e : Option Expression) → optional_faults file p want e ≡ []
      → Lead file f (optional_calls (scope_optional (bare unit) p e))
  optional_leads p f i want None clear = no_calls
  optional_leads p f i want (Some e) clear = leads p f i want e clear

  initializer_leads : (p : Place) (f : ℕ) → In p f → (base : TypeName) (first : Initializer) → initializer_faults file p base first ≡ []
      → Lead file f (initializer_calls (scope_initializer (bare unit) p first))
  initializer_leads p f i base nothing clear = no_calls
  initializer_leads p f i base (single e) clear = leads p f i _ e clear
  initializer_leads p f i base (listed vs comma) clear = all_lead p f i _ _ vs clear
  initializer_leads p f i base mutex clear = no_calls
  initializer_leads p f i base cond clear = no_calls

  declarators_lead : (p : Place) (f : ℕ) → In p f → (base : TypeName) (ds : List InitDeclarator) → declarators_faults file p base ds ≡ []
      → Lead file f (declarators_calls (scope_declarators (bare unit) p base ds))
  unfolding declarators_faults scope_declarators
  declarators_lead p f i base [] clear = no_calls
  declarators_lead p f i base (d ∷ rest) clear =
      let q : Place = with_declarator p base d in
      let j : In q f = record { deep = i.deep; same = i.same } in
      both (optional_leads p f i _ d.length (back _ _ (front _ _ (front _ _ clear))))
      (both (initializer_leads q f j base d.first (back _ _ (front _ _ clear))) (declarators_lead q f j base rest (back _ _ clear)))

  mutual
    unfolding statement_faults scope_statement

    statement_leads : (p : Place) (f : ℕ) → In p f → (s : Statement) → statement_faults file p s ≡ [] → Lead file f (statement_calls (scope_statement (bare unit) p s))
    statement_leads p f i empty clear = no_calls
    statement_leads p f i (eval value) clear = leads p f i _ value clear
    statement_leads p f i (block parts) clear = statements_lead (inside p) f (in_inside p f i) parts clear
    statement_leads p f i (declare of) clear = declarators_lead p f i of.base of.declarators (back _ _ clear)
    statement_leads p f i (when line test first second) clear =
        both (leads p f i _ test (front _ _ clear))
        (both (statement_leads (inside p) f (in_inside p f i) first (front _ _ (back _ _ clear)))
        (branch_leads (behind p (after (inside p) first)) f (in_behind p (after (inside p) first) f i) second (back _ _ (back _ _ clear))))
    statement_leads p f i (while line test body) clear =
        both (leads p f i _ test (front _ _ clear)) (statement_leads (inside_loop p) f (in_loop p f i) body (back _ _ clear))
    statement_leads p f i (do_while line body test) clear =
        both (statement_leads (inside_loop p) f (in_loop p f i) body (front _ _ clear))
        (leads (behind p (after (inside_loop p) body)) f (in_behind p (after (inside_loop p) body) f i) _ test (back _ _ clear))
    statement_leads p f i (for line first test change body) clear =
        let q : Place = after (inside p) first in
        let j : In q f = in_kept (inside p) q f (kept (inside p) first) (in_inside p f i) in
        let tests : List Fault = optional_faults file q wants.Integer test in
        let changes : List Fault = optional_faults file q wants.Unneeded change in
        let bodies : List Fault = statement_faults file (inside_loop q) body in
        let rest : tests ++ (changes ++ bodies) ≡ [] = back (statement_faults file (inside p) first) (tests ++ (changes ++ bodies)) clear in
        let last : changes ++ bodies ≡ [] = back tests (changes ++ bodies) rest in
        both (statement_leads (inside p) f (in_inside p f i) first (front (statement_faults file (inside p) first) (tests ++ (changes ++ bodies)) clear))
        (both (optional_leads q f j wants.Integer test (front tests (changes ++ bodies) rest))
        (both (optional_leads q f j wants.Unneeded change (front changes bodies last))
        (statement_leads (inside_loop q) f (in_loop q f j) body (back changes bodies last))))
    statement_leads p f i (break line) clear = no_calls
    statement_leads p f i (continue line) clear = no_calls
    statement_leads p f i (return line value) clear = optional_leads p f i _ value (back _ _ clear)
    statement_leads p f i (label name of) clear = statement_leads p f i of clear

    branch_leads : (p : Place) (f : ℕ) → In p f → (b : Branch) → branch_faults file p b ≡ [] → Lead file f (branch_calls (scope_branch (bare unit) p b))
    branch_leads p f i absent clear = no_calls
    branch_leads p f i (branch of) clear = statement_leads (inside p) f (in_inside p f i) of clear

    statements_lead : (p : Place) (f : ℕ) → In p f → (parts : Statements) → statements_faults file p parts ≡ [] → Lead file f (statements_calls (scope_statements (bare unit) p parts))
    statements_lead p f i nil clear = no_calls
    statements_lead p f i (cons s rest) clear =
        both (statement_leads p f i s (front _ _ clear)) (statements_lead (after p s) f (in_kept p (after p s) f (kept p s) i) rest (back _ _ clear))

  body_leads : (p : Place) (f : ℕ) → In p f → (s : Statement) → body_faults file p s ≡ [] → Lead file f (statement_calls (scope_body (bare unit) p s))
  body_leads p f i (block parts) clear = statements_lead p f i parts clear
  body_leads p f i empty clear = statement_leads p f i empty clear
  body_leads p f i (eval value) clear = statement_leads p f i (eval value) clear
  body_leads p f i (declare of) clear = statement_leads p f i (declare of) clear
  body_leads p f i (when line test first second) clear = statement_leads p f i (when line test first second) clear
  body_leads p f i (while line test body) clear = statement_leads p f i (while line test body) clear
  body_leads p f i (do_while line body test) clear = statement_leads p f i (do_while line body test) clear
  body_leads p f i (for line first test change body) clear = statement_leads p f i (for line first test change body) clear
  body_leads p f i (break line) clear = statement_leads p f i (break line) clear
  body_leads p f i (continue line) clear = statement_leads p f i (continue line) clear
  body_leads p f i (return line value) clear = statement_leads p f i (return line value) clear
  body_leads p f i (label name of) clear = statement_leads p f i (label name of) clear

  -- ---- functions of the file

  params_in : (p : Place) (f : ℕ) (params : List Param) → In p f → In (with_params p params) f
  params_in p f [] i = i
  params_in p f (q ∷ rest) i = params_in (with_param p q.base q.name) f rest (one q.name)
    where
      one : (name : Option ℕ) → In (with_param p q.base name) f
      one None = i
      one (Some name) = record { deep = i.deep; same = i.same }

  externals_lead : (p : Place) (es : List ExternalDeclaration) → p.depth ≡ 0 → externals_faults file p es ≡ [] → (k : ℕ) → k < length (scope_externals (bare unit) p es)
      → Lead file (p.function + k) (statement_calls (body_at (scope_externals (bare unit) p es) k))
  unfolding externals_faults external_faults scope_externals after_external after
  externals_lead p [] flat clear k low = absurd (omega arith)
  externals_lead p (objects hidden of ∷ rest) flat clear k low =
      let q : Place = with_declaration p of in
      let h : Kept p q = kept p (declare of) in
      let all = externals_lead q rest (h.depth ∙ flat) (back _ _ clear) k low in
      subst (λ (n : ℕ). Lead file (n + k) (statement_calls (body_at (scope_externals (bare unit) q rest) k))) h.function all
  externals_lead p (prototype line lead gives name params void_word ∷ rest) flat clear k low =
      externals_lead (with_function p name) rest flat (back _ _ clear) k low
  externals_lead p (function line hidden gives name params void_word body ∷ rest) flat clear zero low =
      let q : Place = into_body p gives name params in
      let i : In q p.function = params_in (into (with_function p name) gives) p.function params (record { deep = omega arith; same = refl }) in
      let here : p.function ≡ p.function + 0 = omega arith in
      subst (λ (n : ℕ). Lead file n (statement_calls (scope_body (bare unit) q body))) here (body_leads q p.function i body (back _ _ (back _ _ (front _ _ clear))))
  externals_lead p (function line hidden gives name params void_word body ∷ rest) flat clear (suc k) low =
      let inner : Place = after_body (into_body p gives name params) body in
      let q : Place = past p name inner in
      let all : Lead file (q.function + k) (statement_calls (body_at (scope_externals (bare unit) q rest) k)) =
      externals_lead q rest flat (back _ _ clear) k (omega (arith, low)) in
      let next : q.function + k ≡ p.function + suc k = omega arith in
      subst (λ (n : ℕ). Lead file n (statement_calls (body_at (scope_externals (bare unit) q rest) k))) next all

-- as many functions as signatures
same_length : (known_file : File) (p : Place) (es : List ExternalDeclaration) → length (scope_externals known_file p es) ≡ length (signatures es)
unfolding scope_externals
same_length known_file p [] = refl
same_length known_file p (objects hidden of ∷ rest) = same_length known_file (after_external p (objects hidden of)) rest
same_length known_file p (prototype line lead gives name params void_word ∷ rest) = same_length known_file (after_external p (prototype line lead gives name params void_word)) rest
same_length known_file p (function line hidden gives name params void_word body ∷ rest) =
    ap (λ (n : ℕ). suc n) (same_length known_file (after_external p (function line hidden gives name params void_word body)) rest)

call_of : (unit : TranslationUnit) (facts : Facts) (f g : ℕ) → file_faults (file_with unit facts) unit.externals ≡ []
    → Calls (graph_of (scope_externals (bare unit) opening unit.externals)) f g → Leads (file_with unit facts) f g
unfolding file_faults
call_of unit facts f g clear c =
    let functions : List ScopedDefinition = scope_externals (bare unit) opening unit.externals in
    let far : f < length (graph_of functions) = calls_within (graph_of functions) f g c in
    let low : f < length functions = let l = length-map functions (λ (d : ScopedDefinition). statement_calls d.body) in omega (arith, l, far) in
    let lead : Lead (file_with unit facts) (0 + f) (statement_calls (body_at functions f)) = externals_lead unit facts opening unit.externals refl (front _ _ clear) f low in
    let same : Lead (file_with unit facts) f (statement_calls (body_at functions f)) = subst (λ (n : ℕ). Lead (file_with unit facts) n (statement_calls (body_at functions f))) (omega arith) lead in
    let found : Contains (statement_calls (body_at functions f)) g = subst (λ (r : List ℕ). Contains r g) (row_at functions f low) c in
    same.each g (contains_among (statement_calls (body_at functions f)) g found)

pub recursion_free : (unit : TranslationUnit) → AreFaults unit [] → IsRecursionFree (scoped_of unit).functions
unfolding scoped_of file_with
recursion_free unit a =
    let functions : List ScopedDefinition = scope_externals (bare unit) opening unit.externals in
    record {
      within = λ f g c.
          let leads : Leads (file_with unit a.facts) f g = call_of unit a.facts f g (sym a.listed) c in
          subst (λ (n : ℕ). g < n) (sym (same_length (bare unit) opening unit.externals)) leads.within;
      forward = λ f g c reaches.
          let leads : Leads (file_with unit a.facts) f g = call_of unit a.facts f g (sym a.listed) c in
          let back_again : IsTrue (row_has (slice_get a.facts.returning f) g) = (a.right.returning f g c).1 reaches in
          absurd (false≢true (sym leads.ahead ∙ back_again));
    }
