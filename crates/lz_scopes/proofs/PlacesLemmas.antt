-- Statements leave the scopes around them as they were, but for what they declare; and the ends of scopes and of
-- functions.
use Rattle.std.proofs.Common.{◌≡◌, ℕ, ◌+◌, ◌-◌, ◌<◌, ◌≤◌, Bool, true, false, List, [], ◌∷◌, ◌++◌, length, Option, Some, None, refl, sym, ◌∙◌, arith, append_assoc, append-nil}
use Rattle.std.proofs.Math.Seq.{take-append_seam}
use Rattle.std.proofs.lemmas.List.{length-append}
use Rattle.lz_tree.specs.declared.expression.TypeName.{TypeName}
use Rattle.lz_tree.specs.declared.program.Param.{Param}
use Rattle.lz_tree.specs.Trees.{InitDeclarator, Statement, empty, eval, block, declare, when, while, do_while, for, break, continue, return, label, Branch, absent, branch, Statements, nil, cons}
use Rattle.lz_scopes.specs.declared.entering.Outer.{Outer}
use Rattle.lz_scopes.specs.declared.names.Entry.{Entry}
use Rattle.lz_scopes.specs.declared.place.Place.{Place}
use Rattle.lz_scopes.specs.ValueTypes.{value_type}
use Rattle.lz_scopes.specs.Scopes.{inside, inside_loop, behind, after, after_branch, after_all, after_body, with_declarator, with_declarators, with_function, into, into_body, with_param, with_params, object_from, past}
use Rattle.lz_scopes.specs.Views.{ended, within, outer_of, left_function, left_prototype}

-- What a place keeps behind a statement: objects are declared at the end, and all else but counts stays.
pub record Kept (p q : Place) : Type 0 where
  pub more : List Entry
  pub names : q.names ≡ p.names ++ more
  pub functions : q.functions ≡ p.functions
  pub depth : q.depth ≡ p.depth
  pub function : q.function ≡ p.function
  pub gives : q.gives ≡ p.gives

kept_same : (p : Place) → Kept p p
kept_same p = record { more = []; names = sym (append-nil p.names); functions = refl; depth = refl; function = refl; gives = refl }

kept_both : (p q r : Place) → Kept p q → Kept q r → Kept p r
kept_both p q r a b = record {
  more = a.more ++ b.more;
  names = rw (b.names, a.names) (append_assoc p.names a.more b.more);
  functions = b.functions ∙ a.functions;
  depth = b.depth ∙ a.depth;
  function = b.function ∙ a.function;
  gives = b.gives ∙ a.gives;
}

kept_behind : (p q : Place) → Kept p (behind p q)
kept_behind p q = record { more = []; names = sym (append-nil p.names); functions = refl; depth = refl; function = refl; gives = refl }

kept_one : (p : Place) (base : TypeName) (d : InitDeclarator) → Kept p (with_declarator p base d)
kept_one p base d = record { more = _; names = refl; functions = refl; depth = refl; function = refl; gives = refl }

kept_declarators : (p : Place) (base : TypeName) (ds : List InitDeclarator) → Kept p (with_declarators p base ds)
kept_declarators p base [] = kept_same p
kept_declarators p base (d ∷ rest) =
    kept_both p (with_declarator p base d) (with_declarators (with_declarator p base d) base rest) (kept_one p base d)
    (kept_declarators (with_declarator p base d) base rest)

mutual
  unfolding after

  pub kept : (p : Place) (s : Statement) → Kept p (after p s)
  kept p empty = kept_same p
  kept p (eval value) = kept_same p
  kept p (block parts) = kept_behind p (after_all (inside p) parts)
  kept p (declare of) = kept_declarators p of.base of.declarators
  kept p (when line test first second) =
      kept_both p (behind p (after (inside p) first)) (after_branch (behind p (after (inside p) first)) second)
      (kept_behind p (after (inside p) first)) (kept_branch (behind p (after (inside p) first)) second)
  kept p (while line test body) = kept_behind p (after (inside_loop p) body)
  kept p (do_while line body test) = kept_behind p (after (inside_loop p) body)
  kept p (for line first test change body) = kept_behind p (after (inside_loop (after (inside p) first)) body)
  kept p (break line) = kept_same p
  kept p (continue line) = kept_same p
  kept p (return line value) = kept_same p
  kept p (label name of) = kept p of

  pub kept_branch : (p : Place) (b : Branch) → Kept p (after_branch p b)
  kept_branch p absent = kept_same p
  kept_branch p (branch of) = kept_behind p (after (inside p) of)

  pub kept_all : (p : Place) (parts : Statements) → Kept p (after_all p parts)
  kept_all p nil = kept_same p
  kept_all p (cons s rest) = kept_both p (after p s) (after_all (after p s) rest) (kept p s) (kept_all (after p s) rest)

-- ---- the end of a scope

-- A place within a scope that began at another one.
pub record Inside (p q : Place) : Type 0 where
  pub more : List Entry
  pub names : q.names ≡ p.names ++ more
  pub functions : q.functions ≡ p.functions
  pub depth : q.depth ≡ p.depth + 1
  pub function : q.function ≡ p.function
  pub gives : q.gives ≡ p.gives

inside_kept : (b : Bool) (p q : Place) → Kept (within b p) q → Inside p q
inside_kept true p q k = record { more = k.more; names = k.names; functions = k.functions; depth = k.depth; function = k.function; gives = k.gives }
inside_kept false p q k = record { more = k.more; names = k.names; functions = k.functions; depth = k.depth; function = k.function; gives = k.gives }

pub closes : (p q : Place) (mark : ℕ) → Inside p q → mark ≡ length p.names → ended mark p.in_loop q ≡ behind p q
closes p q mark k is =
    let depth : q.depth - 1 ≡ p.depth = (let d = k.depth in omega arith) in
    rw (is, k.names, take-append_seam p.names k.more, k.functions, k.function, k.gives, depth) refl

pub closable : (p q : Place) (mark : ℕ) → Inside p q → mark ≡ length p.names → mark ≤ length q.names
closable p q mark k is = let n = length-append p.names k.more in rw k.names (omega arith)

pub deep : (p q : Place) → Inside p q → 0 < q.depth
deep p q k = let d = k.depth in omega arith

pub in_statement : (b : Bool) (p p1 p2 : Place) (s : Statement) → p1 ≡ within b p → p2 ≡ after p1 s → Inside p p2
in_statement b p p1 p2 s e1 e2 = inside_kept b p p2 (rw (e2, e1) (kept (within b p) s))

pub in_block : (p p1 p2 : Place) (parts : Statements) → p1 ≡ within false p → p2 ≡ after_all p1 parts → Inside p p2
in_block p p1 p2 parts e1 e2 = inside_kept false p p2 (rw (e2, e1) (kept_all (inside p) parts))

pub in_for : (p p1 p2 p3 q : Place) (first : Statement) → p1 ≡ within false p → p2 ≡ after p1 first → p3 ≡ behind p2 q → Inside p p3
in_for p p1 p2 p3 q first e1 e2 e3 =
    inside_kept false p p3 (rw (e3, e2, e1) (kept_both (inside p) (after (inside p) first) (behind (after (inside p) first) q) (kept (inside p) first) (kept_behind (after (inside p) first) q)))

pub statement_behind : (b : Bool) (p p1 p2 : Place) (mark : ℕ) (s : Statement) → p1 ≡ within b p → p2 ≡ after p1 s → mark ≡ length p.names
    → ended mark p.in_loop p2 ≡ behind p (after (within b p) s)
statement_behind b p p1 p2 mark s e1 e2 is = closes p p2 mark (in_statement b p p1 p2 s e1 e2) is ∙ rw (e2, e1) refl

pub block_behind : (p p1 p2 : Place) (mark : ℕ) (parts : Statements) → p1 ≡ within false p → p2 ≡ after_all p1 parts → mark ≡ length p.names
    → ended mark p.in_loop p2 ≡ behind p (after_all (inside p) parts)
block_behind p p1 p2 mark parts e1 e2 is = closes p p2 mark (in_block p p1 p2 parts e1 e2) is ∙ rw (e2, e1) refl

pub for_behind : (p p1 p2 p3 : Place) (mark : ℕ) (first body : Statement) → p1 ≡ within false p → p2 ≡ after p1 first
    → p3 ≡ behind p2 (after (within true p2) body) → mark ≡ length p.names
    → ended mark p.in_loop p3 ≡ behind p (after (inside_loop (after (inside p) first)) body)
for_behind p p1 p2 p3 mark first body e1 e2 e3 is =
    closes p p3 mark (in_for p p1 p2 p3 (after (inside_loop p2) body) first e1 e2 e3) is ∙ rw (e3, e2, e1) refl

-- ---- the end of a function

kept_body : (p : Place) (s : Statement) → Kept p (after_body p s)
kept_body p empty = kept p empty
kept_body p (eval value) = kept p (eval value)
kept_body p (block parts) = kept_all p parts
kept_body p (declare of) = kept p (declare of)
kept_body p (when line test first second) = kept p (when line test first second)
kept_body p (while line test body) = kept p (while line test body)
kept_body p (do_while line body test) = kept p (do_while line body test)
kept_body p (for line first test change body) = kept p (for line first test change body)
kept_body p (break line) = kept p (break line)
kept_body p (continue line) = kept p (continue line)
kept_body p (return line value) = kept p (return line value)
kept_body p (label name of) = kept p (label name of)

-- A place within a function of a name that began at another one.
pub record InFunction (p q : Place) (name : ℕ) : Type 0 where
  pub more : List Entry
  pub names : q.names ≡ p.names ++ more
  pub functions : q.functions ≡ p.functions ++ name ∷ []
  pub depth : q.depth ≡ p.depth + 1
  pub function : q.function ≡ p.function

body_into : (p : Place) (name : ℕ) (gives : TypeName) → InFunction p (into (with_function p name) gives) name
body_into p name gives = record { more = []; names = sym (append-nil p.names); functions = refl; depth = refl; function = refl }

abbrev entry_at : Place → ℕ → TypeName → Entry
entry_at q name base = record { name = name; depth = q.depth; of = value_type base; array = false; object = object_from q (value_type base) 1 }

body_param : (p q : Place) (name : ℕ) → InFunction p q name → (base : TypeName) (param : Option ℕ) → InFunction p (with_param q base param) name
body_param p q name w base None = w
body_param p q name w base (Some n) = record {
  more = w.more ++ entry_at q n base ∷ [];
  names = rw w.names (append_assoc p.names w.more (entry_at q n base ∷ []));
  functions = w.functions;
  depth = w.depth;
  function = w.function;
}

body_params : (p q : Place) (name : ℕ) → InFunction p q name → (params : List Param) → InFunction p (with_params q params) name
body_params p q name w [] = w
body_params p q name w (x ∷ rest) = body_params p (with_param q x.base x.name) name (body_param p q name w x.base x.name) rest

body_kept : (p q r : Place) (name : ℕ) → InFunction p q name → Kept q r → InFunction p r name
body_kept p q r name w k = record {
  more = w.more ++ k.more;
  names = rw (k.names, w.names) (append_assoc p.names w.more k.more);
  functions = k.functions ∙ w.functions;
  depth = k.depth ∙ w.depth;
  function = k.function ∙ w.function;
}

pub in_prototype : (p p1 p2 : Place) (name : ℕ) (gives : TypeName) (params : List Param) → p1 ≡ into (with_function p name) gives
    → p2 ≡ with_params p1 params → InFunction p p2 name
in_prototype p p1 p2 name gives params e1 e2 =
    rw (e2, e1) (body_params p (into (with_function p name) gives) name (body_into p name gives) params)

pub in_function : (p p1 p2 p3 : Place) (name : ℕ) (gives : TypeName) (params : List Param) (body : Statement) → p1 ≡ into (with_function p name) gives
    → p2 ≡ with_params p1 params → p3 ≡ after_body p2 body → InFunction p p3 name
in_function p p1 p2 p3 name gives params body e1 e2 e3 =
    rw (e3, e2, e1) (body_kept p (into_body p gives name params) (after_body (into_body p gives name params) body) name
    (body_params p (into (with_function p name) gives) name (body_into p name gives) params) (kept_body (into_body p gives name params) body))

pub leavable : (p q : Place) (name : ℕ) (outer : Outer) → InFunction p q name → outer ≡ outer_of p → outer.mark ≤ length q.names
leavable p q name outer w is = let n = length-append p.names w.more in rw (is, w.names) (omega arith)

pub below_top : (p q : Place) (name : ℕ) → InFunction p q name → 0 < q.depth
below_top p q name w = let d = w.depth in omega arith

pub function_behind : (p q : Place) (name : ℕ) (outer : Outer) → InFunction p q name → outer ≡ outer_of p → left_function outer q ≡ past p name q
function_behind p q name outer w is =
    let depth : q.depth - 1 ≡ p.depth = (let d = w.depth in omega arith) in
    rw (is, w.names, take-append_seam p.names w.more, w.functions, w.function, depth) refl

pub prototype_behind : (p q : Place) (name : ℕ) (outer : Outer) → InFunction p q name → outer ≡ outer_of p → left_prototype outer q ≡ with_function p name
prototype_behind p q name outer w is =
    let depth : q.depth - 1 ≡ p.depth = (let d = w.depth in omega arith) in
    rw (is, w.names, take-append_seam p.names w.more, w.functions, w.function, depth) refl
