-- The create sites stay, in the order of the text as it is inlined and unwound.
use Rattle.std.proofs.Common.{◌≡◌, ℕ, zero, suc, ◌+◌, ◌≤◌, ◌<◌, Bool, true, false, ◌||◌, ◌&&◌, not, List, [], ◌∷◌, ◌++◌, length, Option, Some, None, refl, sym, ap, ap₂, ◌∙◌, arith, append_assoc, append-nil}
use Rattle.std.proofs.lemmas.Bool.{true≢false, false≢true}
use Rattle.lz_base.specs.declared.word.IntType.{IntType}
use Rattle.lz_base.specs.declared.operator.Binary.{Binary}
use Rattle.lz_base.specs.declared.operator.Binary.TheVariants as ops
use Rattle.lz_tree.specs.declared.scoped.KnownName.{KnownName}
use Rattle.lz_tree.specs.declared.scoped.KnownName.TheVariants as known
use Rattle.lz_tree.specs.declared.scoped.Object.{Object}
use Rattle.lz_tree.specs.declared.scoped.Object.TheVariants.{Local, Cell, Mutex, Cond, Handle, Routine, Known}
use Rattle.lz_tree.specs.Kinds.{kind_of, kind_or}
use Rattle.lz_tree.specs.ScopedTrees.{ScopedExpression, constant, null, text, object, address, paren, unary, cast, binary, choose, assign, step, call, lvalue, ScopedIndex, whole, element, ScopedExpressions, none, and, ScopedInitializer, nothing, single, listed, ScopedInitDeclarator, ScopedStatement, empty, eval, block, declare, when, while, do_while, for, break, continue, return, label, ScopedBranch, absent, branch, ScopedStatements, nil, cons, ScopedProgram, function_at}
use Rattle.lz_tree.specs.WellFormed.{is_logical}
use Rattle.lz_tree.specs.WellScoped.{Setting, no_attribute, new_thread, made_thread, mutex, cond, IsScoped, IsIndex, AreValues, AreArguments, IsIndexed, IsStart, IsNoAttribute, IsFormat, takes_more, forms_of, number_of, MayTest, MayScope, IsFirst, IsDeclared, AreDeclared, IsReturned, IsCode, IsBranch, AreCode, IsWellScoped, setting_of}
use Rattle.lz_model.specs.CodeTraces.{is_object_argument, is_division}
use Rattle.lz_bound.specs.BoundedTrees as tree
use Rattle.lz_bound.specs.CreateSites.{named_by, started_in, call_sites, sites, index_sites, all_sites, optional_sites, initializer_sites, declarators_sites, times, code_sites, branch_sites, parts_sites, no_bodies, tree_sites, sites_within}
use Rattle.lz_unwind.specs.Moved.{shift, shift_index, shift_all, has_call, index_has_call, all_have_call}
use Rattle.lz_unwind.specs.Pieces.{Made, made, Callees, unless_call, at_temp, inside_of, at_place, inside_place, head_kind, tail_kinds, operands, shape_of}
use Rattle.lz_unwind.specs.Translation.{into, index_into, arguments_into, known_into, handed_into, printed_into, discarded, set_made, test_made, test_of, unless_made, step_made, cleared, listed_made, integer_made, object_made, declarators_made, turns_made, do_turns_made, is_silent, eval_made, return_made, statement_made, branch_made, statements_made}
use Rattle.lz_unwind.specs.Inlining.{callees, inline_within}
use Rattle.lz_unwind.proofs.MovedLemmas.{or_left, or_right}
use Rattle.lz_unwind.proofs.PiecesLemmas.{thing_handed, rest_calls_none, more_values}

-- ---- expressions with no call

named_by-shift : (o : ℕ) (e : ScopedExpression) → named_by (shift o e) ≡ named_by e
named_by-shift o (object (lvalue line (Routine function) index checked) kind) = refl
named_by-shift o (object (lvalue line (Local first len k) index checked) kind) = refl
named_by-shift o (object (lvalue line (Cell first len k) index checked) kind) = refl
named_by-shift o (object (lvalue line (Mutex first len) index checked) kind) = refl
named_by-shift o (object (lvalue line (Cond first len) index checked) kind) = refl
named_by-shift o (object (lvalue line (Handle first len) index checked) kind) = refl
named_by-shift o (object (lvalue line (Known name) index checked) kind) = refl
named_by-shift o (constant line value form kind) = refl
named_by-shift o (null line kind) = refl
named_by-shift o (text line kind) = refl
named_by-shift o (address line (lvalue at meant index checked) kind) = refl
named_by-shift o (paren line e kind) = refl
named_by-shift o (unary line op e kind) = refl
named_by-shift o (cast line to e kind) = refl
named_by-shift o (binary line op a b kind) = refl
named_by-shift o (choose line a b c kind) = refl
named_by-shift o (assign line op (lvalue at meant index checked) e kind) = refl
named_by-shift o (step line (lvalue at meant index checked) going before kind) = refl
named_by-shift o (call line callee args kind) = refl

started_in-shift : (o : ℕ) (args : ScopedExpressions) → started_in (shift_all o args) ≡ started_in args
started_in-shift o none = refl
started_in-shift o (and a none) = refl
started_in-shift o (and a (and b none)) = refl
started_in-shift o (and a (and b (and c rest))) = named_by-shift o c

known_sites-shift : (bodies : ℕ → List ℕ) (o : ℕ) (name : KnownName) (args : ScopedExpressions) → call_sites no_bodies (Known name) (shift_all o args) ≡ call_sites bodies (Known name) args
known_sites-shift bodies o known.Create args = started_in-shift o args
known_sites-shift bodies o name args = refl

module _ (bodies : ℕ → List ℕ) (o : ℕ) where
  mutual
    pub shift_sites : (e : ScopedExpression) → has_call e ≡ false → sites no_bodies (shift o e) ≡ sites bodies e
    shift_sites (constant line value form kind) c = refl
    shift_sites (null line kind) c = refl
    shift_sites (text line kind) c = refl
    shift_sites (object (lvalue line meant index checked) kind) c = shift_index_sites index c
    shift_sites (address line (lvalue at meant index checked) kind) c = shift_index_sites index c
    shift_sites (paren line e kind) c = shift_sites e c
    shift_sites (unary line op e kind) c = shift_sites e c
    shift_sites (cast line to e kind) c = shift_sites e c
    shift_sites (binary line op a b kind) c = ap₂ ◌++◌ (shift_sites a (or_left (has_call a) (has_call b) c)) (shift_sites b (or_right (has_call a) (has_call b) c))
    shift_sites (choose line a b d kind) c =
        let r = or_right (has_call a) (has_call b || has_call d) c in
        ap₂ ◌++◌ (shift_sites a (or_left (has_call a) (has_call b || has_call d) c)) (ap₂ ◌++◌ (shift_sites b (or_left (has_call b) (has_call d) r)) (shift_sites d (or_right (has_call b) (has_call d) r)))
    shift_sites (assign line op (lvalue at meant index checked) e kind) c = ap₂ ◌++◌ (shift_index_sites index (or_left (index_has_call index) (has_call e) c)) (shift_sites e (or_right (index_has_call index) (has_call e) c))
    shift_sites (step line (lvalue at meant index checked) going before kind) c = shift_index_sites index c
    shift_sites (call line (Routine g) args kind) c = absurd (true≢false c)
    shift_sites (call line (Known name) args kind) c = ap₂ ◌++◌ (shift_all_sites args c) (known_sites-shift bodies o name args)
    shift_sites (call line (Local first len k) args kind) c = ap (λ (xs : List ℕ). xs ++ []) (shift_all_sites args c)
    shift_sites (call line (Cell first len k) args kind) c = ap (λ (xs : List ℕ). xs ++ []) (shift_all_sites args c)
    shift_sites (call line (Mutex first len) args kind) c = ap (λ (xs : List ℕ). xs ++ []) (shift_all_sites args c)
    shift_sites (call line (Cond first len) args kind) c = ap (λ (xs : List ℕ). xs ++ []) (shift_all_sites args c)
    shift_sites (call line (Handle first len) args kind) c = ap (λ (xs : List ℕ). xs ++ []) (shift_all_sites args c)

    pub shift_index_sites : (index : ScopedIndex) → index_has_call index ≡ false → index_sites no_bodies (shift_index o index) ≡ index_sites bodies index
    shift_index_sites whole c = refl
    shift_index_sites (element e) c = shift_sites e c

    pub shift_all_sites : (es : ScopedExpressions) → all_have_call es ≡ false → all_sites no_bodies (shift_all o es) ≡ all_sites bodies es
    shift_all_sites none c = refl
    shift_all_sites (and e rest) c = ap₂ ◌++◌ (shift_sites e (or_left (has_call e) (all_have_call rest) c)) (shift_all_sites rest (or_right (has_call e) (all_have_call rest) c))

-- ---- pieces

by_call : (b : Bool) (plain spread : Made) (all : List ℕ) → (b ≡ false → tree_sites plain.tree ≡ all) → (b ≡ true → tree_sites spread.tree ≡ all) → tree_sites (unless_call b plain spread).tree ≡ all
by_call true p s all x y = y refl
by_call false p s all x y = x refl

at_temp_sites : (m : ℕ) (index : ScopedIndex) → index_sites no_bodies (at_temp index m) ≡ []
at_temp_sites m whole = refl
at_temp_sites m (element e) = refl

inside_sites : (line : ℕ) (meant : Object) (m : ℕ) (index : ScopedIndex) → tree_sites (inside_of line meant index m) ≡ []
inside_sites line meant m whole = refl
inside_sites line meant m (element e) = refl

inside_place_sites : (m : ℕ) (thing : ScopedExpression) → tree_sites (inside_place thing m) ≡ []
inside_place_sites m (address line (lvalue at meant index checked) kind) = inside_sites at meant m index
inside_place_sites m (object (lvalue at meant index checked) kind) = inside_sites at meant m index
inside_place_sites m e = refl

at_place_sites : (o : ℕ) (b : Bool) (m : ℕ) (thing : ScopedExpression) → is_object_argument thing ≡ true → sites no_bodies (at_place o b thing m) ≡ []
at_place_sites o true m (address line (lvalue at meant index checked) kind) h = at_temp_sites m index
at_place_sites o false m (address line (lvalue at meant index checked) kind) h = at_temp_sites m index
at_place_sites o true m (object (lvalue at meant index checked) kind) h = at_temp_sites m index
at_place_sites o false m (object (lvalue at meant index checked) kind) h = at_temp_sites m index
at_place_sites o b m e h = absurd (false≢true h)

operands_sites : (line : ℕ) (op : Binary) (ka kb : IntType) (kind : Option IntType) (x : ℕ) (k : IntType) (m : ℕ) (first : Made) (second : ℕ → Made) →
    tree_sites (operands line op ka kb kind x k m first second).tree ≡ tree_sites first.tree ++ tree_sites (second first.next).tree
operands_sites line ops.Both ka kb kind x k m first second = ap (λ (xs : List ℕ). tree_sites first.tree ++ xs) (append-nil (tree_sites (second first.next).tree ++ []) ∙ append-nil (tree_sites (second first.next).tree))
operands_sites line ops.Either ka kb kind x k m first second = ap (λ (xs : List ℕ). tree_sites first.tree ++ xs) (append-nil (tree_sites (second first.next).tree))
operands_sites line op ka kb kind x k m first second = ap (λ (xs : List ℕ). tree_sites first.tree ++ xs) (append-nil (tree_sites (second first.next).tree))

attribute_sites : (bodies : ℕ → List ℕ) (e : ScopedExpression) → IsNoAttribute e → sites bodies e ≡ []
attribute_sites bodies (null line kind) f = refl
attribute_sites bodies (constant line v form kind) f = refl
attribute_sites bodies e f = absurd f

pub attribute_calls_none : (e : ScopedExpression) → IsNoAttribute e → has_call e ≡ false
attribute_calls_none (null line kind) f = refl
attribute_calls_none (constant line v form kind) f = refl
attribute_calls_none e f = absurd f

start_sites : (bodies : ℕ → List ℕ) (w : Setting) (e : ScopedExpression) → IsStart w e → sites bodies e ≡ []
start_sites bodies w (object (lvalue line (Routine function) whole checked) kind) f = refl
start_sites bodies w e f = absurd f

start_calls_none : (w : Setting) (e : ScopedExpression) → IsStart w e → has_call e ≡ false
start_calls_none w (object (lvalue line (Routine function) whole checked) kind) f = refl
start_calls_none w e f = absurd f

format_sites : (bodies : ℕ → List ℕ) (e : ScopedExpression) → IsFormat e → sites bodies e ≡ []
format_sites bodies (text line kind) f = refl
format_sites bodies e f = absurd f

value_scoped : (w : Setting) (k : Option IntType) (e : ScopedExpression) → IsReturned w k (Some e) → IsScoped w e
value_scoped w None e f = absurd f
value_scoped w (Some k) e f = f.0

both_left : (a b : Bool) → (a && b) ≡ true → a ≡ true
both_left true b h = refl
both_left false b h = h

both_right : (a b : Bool) → (a && b) ≡ true → b ≡ true
both_right true b h = h
both_right false b h = absurd (false≢true h)

-- an expression with no action creates nothing
silent_sites : (bodies : ℕ → List ℕ) (e : ScopedExpression) → is_silent e ≡ true → sites bodies e ≡ []
silent_sites bodies (constant line v form kind) h = refl
silent_sites bodies (null line kind) h = refl
silent_sites bodies (paren line e kind) h = silent_sites bodies e h
silent_sites bodies (unary line op e kind) h = silent_sites bodies e h
silent_sites bodies (cast line to e kind) h = silent_sites bodies e h
silent_sites bodies (binary line op a b kind) h =
    let k = both_right (not (is_logical op || is_division op)) (is_silent a && is_silent b) h in
    ap₂ ◌++◌ (silent_sites bodies a (both_left (is_silent a) (is_silent b) k)) (silent_sites bodies b (both_right (is_silent a) (is_silent b) k))
silent_sites bodies (text line kind) h = absurd (false≢true h)
silent_sites bodies (object of kind) h = absurd (false≢true h)
silent_sites bodies (address line of kind) h = absurd (false≢true h)
silent_sites bodies (choose line a b c kind) h = absurd (false≢true h)
silent_sites bodies (assign line op to e kind) h = absurd (false≢true h)
silent_sites bodies (step line of going before kind) h = absurd (false≢true h)
silent_sites bodies (call line callee args kind) h = absurd (false≢true h)

-- ---- lists

one_sites : (h s p r r' : List ℕ) → h ≡ s → p ≡ [] → r ≡ r' → h ++ ((p ++ r) ++ []) ≡ (s ++ r') ++ []
one_sites h s p r r' e f g = rw (e, f, g) (ap (λ (xs : List ℕ). s ++ xs) (append-nil r') ∙ sym (append-nil (s ++ r')))

two_sites : (h s i h' s' p p' : List ℕ) → h ≡ s → i ≡ [] → h' ≡ s' → p ≡ [] → p' ≡ [] → h ++ (i ++ (h' ++ ((p ++ (p' ++ [])) ++ []))) ≡ (s ++ (s' ++ [])) ++ []
two_sites h s i h' s' p p' e f g j k = rw (e, f, g, j, k) (sym (append-nil (s ++ (s' ++ []))))

create_sites : (h s i v v' p a b a' b' c c' : List ℕ) → h ≡ s → i ≡ [] → v ≡ v' → p ≡ [] → a ≡ [] → b ≡ [] → a' ≡ [] → b' ≡ [] → c ≡ c' →
    h ++ (i ++ (v ++ ((p ++ (a ++ (b ++ []))) ++ c))) ≡ (s ++ (a' ++ (b' ++ (v' ++ [])))) ++ c'
create_sites h s i v v' p a b a' b' c c' e f g j k l q r u = rw (e, f, g, j, k, l, q, r, u) (ap (λ (xs : List ℕ). s ++ (xs ++ c')) (sym (append-nil v')) ∙ sym (append_assoc s (v' ++ []) c'))

-- ---- expressions

module _ (bodies : ℕ → List ℕ) (w : Setting) (env : Callees) (kept : (f i m : ℕ) → w.may_call f → tree_sites (env.inline f i m).tree ≡ bodies f) (o : ℕ) where
  mutual
    pub into_sites : (e : ScopedExpression) (x : ℕ) (k : IntType) (m : ℕ) → IsScoped w e → tree_sites (into env o e x k m).tree ≡ sites bodies e
    into_sites (constant line v form kind) x k m f = refl
    into_sites (null line kind) x k m f = refl
    into_sites (text line kind) x k m f = refl
    into_sites (address line of kind) x k m f = absurd f
    into_sites (object (lvalue line meant index checked) kind) x k m f = by_call (index_has_call index) _ _ _ (λ c. shift_index_sites bodies o index c)
        (λ c. rw (at_temp_sites m index, append-nil) (index_into_sites meant index checked m (suc m) f.2))
    into_sites (paren line e kind) x k m f = into_sites e x k m f.0
    into_sites (unary line op e kind) x k m f = by_call (has_call e) _ _ _ (λ c. shift_sites bodies o e c) (λ c. append-nil (tree_sites (into env o e m (kind_of e) (suc m)).tree) ∙ into_sites e m (kind_of e) (suc m) f.0)
    into_sites (cast line to e kind) x k m f = by_call (has_call e) _ _ _ (λ c. shift_sites bodies o e c) (λ c. into_sites e x k m f.0)
    into_sites (binary line op a b kind) x k m f =
        let m' = (into env o a m (kind_of a) (suc m)).next in
        by_call (has_call a || has_call b) _ _ _ (λ c. shift_sites bodies o (binary line op a b kind) c)
        (λ c. operands_sites line op (kind_of a) (kind_of b) kind x k m (into env o a m (kind_of a) (suc m)) (λ n. into env o b n (kind_of b) (suc n)) ∙
        ap₂ ◌++◌ (into_sites a m (kind_of a) (suc m) f.0) (into_sites b m' (kind_of b) (suc m') f.2))
    into_sites (choose line a b c kind) x k m f =
        let m' = (into env o a m (kind_of a) (suc m)).next in let m2 = (into env o b m' (kind_or kind) (suc m')).next in
        by_call (has_call a || (has_call b || has_call c)) _ _ _ (λ d. shift_sites bodies o (choose line a b c kind) d)
        (λ d. ap₂ ◌++◌ (into_sites a m (kind_of a) (suc m) f.0) (append-nil (tree_sites (into env o b m' (kind_or kind) (suc m')).tree ++ tree_sites (into env o c m' (kind_or kind) m2).tree) ∙
        ap₂ ◌++◌ (into_sites b m' (kind_or kind) (suc m') f.2) (into_sites c m' (kind_or kind) m2 f.3)))
    into_sites (assign line None (lvalue at meant index checked) e kind) x k m f =
        let m' = (index_into env o index m (suc m)).next in
        by_call (index_has_call index || has_call e) _ _ _ (λ c. shift_sites bodies o (assign line None (lvalue at meant index checked) e kind) c)
        (λ c. ap₂ ◌++◌ (index_into_sites meant index checked m (suc m) f.1) (rw (at_temp_sites m index) (append-nil (tree_sites (into env o e m' (kind_of e) (suc m')).tree) ∙ into_sites e m' (kind_of e) (suc m') f.2)))
    into_sites (assign line (Some op) (lvalue at meant index checked) e kind) x k m f =
        let m' = (index_into env o index m (suc m)).next in
        by_call (index_has_call index || has_call e) _ _ _ (λ c. shift_sites bodies o (assign line (Some op) (lvalue at meant index checked) e kind) c)
        (λ c. ap₂ ◌++◌ (index_into_sites meant index checked m (suc m) f.1) (rw (inside_sites at meant m index, at_temp_sites m index) (append-nil (tree_sites (into env o e (suc m') (kind_of e) (suc (suc m'))).tree) ∙ into_sites e (suc m') (kind_of e) (suc (suc m')) f.2)))
    into_sites (step line (lvalue at meant index checked) going before kind) x k m f = by_call (index_has_call index) _ _ _ (λ c. shift_index_sites bodies o index c)
        (λ c. rw (at_temp_sites m index, append-nil) (index_into_sites meant index checked m (suc m) f.1))
    into_sites (call line (Routine g) args kind) x k m f =
        let m' = (arguments_into env o args (env.params g) m (suc (m + env.size g))).next in
        ap₂ ◌++◌ (arguments_into_sites args (env.params g) m (suc (m + env.size g)) f.2) (append-nil (tree_sites (env.inline g m m').tree) ∙ kept g m m' f.0)
    into_sites (call line (Known name) args kind) x k m f = by_call (all_have_call args) _ _ _ (λ c. shift_sites bodies o (call line (Known name) args kind) c)
        (λ c. known_sites line name args kind x k m c f.0)
    into_sites (call line (Local first len j) args kind) x k m f = absurd f
    into_sites (call line (Cell first len j) args kind) x k m f = absurd f
    into_sites (call line (Mutex first len) args kind) x k m f = absurd f
    into_sites (call line (Cond first len) args kind) x k m f = absurd f
    into_sites (call line (Handle first len) args kind) x k m f = absurd f

    index_into_sites : (meant : Object) (index : ScopedIndex) (checked : Bool) (x m : ℕ) → IsIndex w meant checked index → tree_sites (index_into env o index x m).tree ≡ index_sites bodies index
    index_into_sites meant whole checked x m f = refl
    index_into_sites meant (element e) checked x m f = into_sites e x (kind_of e) m f.0

    arguments_into_sites : (es : ScopedExpressions) (ks : List IntType) (x m : ℕ) → AreValues w es → tree_sites (arguments_into env o es ks x m).tree ≡ all_sites bodies es
    arguments_into_sites none ks x m f = refl
    arguments_into_sites (and e es) ks x m f = ap₂ ◌++◌ (into_sites e x (head_kind ks) m f.0) (arguments_into_sites es (tail_kinds ks) (suc x) (into env o e x (head_kind ks) m).next f.2)

    printed_sites : (es : ScopedExpressions) (m : ℕ) → AreValues w es → tree_sites (printed_into env o es m).tree ≡ all_sites bodies es
    printed_sites none m f = refl
    printed_sites (and e es) m f = ap₂ ◌++◌ (by_call (has_call e) _ _ _ (λ c. shift_sites bodies o e c) (λ c. into_sites e m (kind_of e) (suc m) f.0)) (printed_sites es (discarded env o e m).next f.2)

    handed_sites : (thing : ScopedExpression) (m : ℕ) → IsIndexed w thing → tree_sites (handed_into env o thing m).tree ≡ sites bodies thing
    handed_sites (address line (lvalue at meant index checked) kind) m f = index_into_sites meant index checked m (suc m) f
    handed_sites (object (lvalue at meant index checked) kind) m f = index_into_sites meant index checked m (suc m) f
    handed_sites (constant line v form kind) m f = absurd f
    handed_sites (null line kind) m f = absurd f
    handed_sites (text line kind) m f = absurd f
    handed_sites (paren line e kind) m f = absurd f
    handed_sites (unary line op e kind) m f = absurd f
    handed_sites (cast line to e kind) m f = absurd f
    handed_sites (binary line op p q kind) m f = absurd f
    handed_sites (choose line c p q kind) m f = absurd f
    handed_sites (assign line op to e kind) m f = absurd f
    handed_sites (step line of going before kind) m f = absurd f
    handed_sites (call line callee args kind) m f = absurd f

    known_sites : (line : ℕ) (name : KnownName) (args : ScopedExpressions) (kind : Option IntType) (x : ℕ) (k : IntType) (m : ℕ) → all_have_call args ≡ true → AreArguments w (takes_more name) (forms_of name) args →
        tree_sites (known_into env o (shape_of name) line name args kind x k m).tree ≡ all_sites bodies args ++ call_sites bodies (Known name) args
    known_sites line known.Assert none kind x k m c f = absurd f
    known_sites line known.Assert (and e none) kind x k m c f = append-nil (tree_sites (into env o e m (kind_of e) (suc m)).tree) ∙ into_sites e m (kind_of e) (suc m) f.0.0 ∙ sym (append-nil (sites bodies e ++ []) ∙ append-nil (sites bodies e))
    known_sites line known.Assert (and e (and e2 rest)) kind x k m c f = absurd (false≢true f.1.0)
    known_sites line known.Assume none kind x k m c f = absurd f
    known_sites line known.Assume (and e none) kind x k m c f = append-nil (tree_sites (into env o e m (kind_of e) (suc m)).tree) ∙ into_sites e m (kind_of e) (suc m) f.0.0 ∙ sym (append-nil (sites bodies e ++ []) ∙ append-nil (sites bodies e))
    known_sites line known.Assume (and e (and e2 rest)) kind x k m c f = absurd (false≢true f.1.0)
    known_sites line known.Exit none kind x k m c f = absurd f
    known_sites line known.Exit (and e none) kind x k m c f = append-nil (tree_sites (into env o e m (kind_of e) (suc m)).tree) ∙ into_sites e m (kind_of e) (suc m) f.0.0 ∙ sym (append-nil (sites bodies e ++ []) ∙ append-nil (sites bodies e))
    known_sites line known.Exit (and e (and e2 rest)) kind x k m c f = absurd (false≢true f.1.0)
    known_sites line known.Printf none kind x k m c f = absurd f
    known_sites line known.Printf (and e values) kind x k m c f = append-nil (tree_sites (printed_into env o values m).tree) ∙ printed_sites values m (more_values w values f.1) ∙
        sym (append-nil (sites bodies e ++ all_sites bodies values) ∙ ap (λ (xs : List ℕ). xs ++ all_sites bodies values) (format_sites bodies e f.0))
    known_sites line known.Join none kind x k m c f = absurd f
    known_sites line known.Join (and thing rest) kind x k m c f = one_sites (tree_sites (handed_into env o thing m).tree) (sites bodies thing) (sites no_bodies (at_place o false thing m)) (all_sites no_bodies (shift_all o rest)) (all_sites bodies rest)
        (handed_sites thing m f.0.2) (at_place_sites o false m thing (thing_handed w made_thread (no_attribute ∷ []) thing refl f.0)) (shift_all_sites bodies o rest (rest_calls_none w made_thread (no_attribute ∷ []) rest refl f.1))
    known_sites line known.MutexInit none kind x k m c f = absurd f
    known_sites line known.MutexInit (and thing rest) kind x k m c f = one_sites (tree_sites (handed_into env o thing m).tree) (sites bodies thing) (sites no_bodies (at_place o false thing m)) (all_sites no_bodies (shift_all o rest)) (all_sites bodies rest)
        (handed_sites thing m f.0.2) (at_place_sites o false m thing (thing_handed w mutex (no_attribute ∷ []) thing refl f.0)) (shift_all_sites bodies o rest (rest_calls_none w mutex (no_attribute ∷ []) rest refl f.1))
    known_sites line known.MutexDestroy none kind x k m c f = absurd f
    known_sites line known.MutexDestroy (and thing rest) kind x k m c f = one_sites (tree_sites (handed_into env o thing m).tree) (sites bodies thing) (sites no_bodies (at_place o false thing m)) (all_sites no_bodies (shift_all o rest)) (all_sites bodies rest)
        (handed_sites thing m f.0.2) (at_place_sites o false m thing (thing_handed w mutex [] thing refl f.0)) (shift_all_sites bodies o rest (rest_calls_none w mutex [] rest refl f.1))
    known_sites line known.MutexLock none kind x k m c f = absurd f
    known_sites line known.MutexLock (and thing rest) kind x k m c f = one_sites (tree_sites (handed_into env o thing m).tree) (sites bodies thing) (sites no_bodies (at_place o false thing m)) (all_sites no_bodies (shift_all o rest)) (all_sites bodies rest)
        (handed_sites thing m f.0.2) (at_place_sites o false m thing (thing_handed w mutex [] thing refl f.0)) (shift_all_sites bodies o rest (rest_calls_none w mutex [] rest refl f.1))
    known_sites line known.MutexUnlock none kind x k m c f = absurd f
    known_sites line known.MutexUnlock (and thing rest) kind x k m c f = one_sites (tree_sites (handed_into env o thing m).tree) (sites bodies thing) (sites no_bodies (at_place o false thing m)) (all_sites no_bodies (shift_all o rest)) (all_sites bodies rest)
        (handed_sites thing m f.0.2) (at_place_sites o false m thing (thing_handed w mutex [] thing refl f.0)) (shift_all_sites bodies o rest (rest_calls_none w mutex [] rest refl f.1))
    known_sites line known.CondInit none kind x k m c f = absurd f
    known_sites line known.CondInit (and thing rest) kind x k m c f = one_sites (tree_sites (handed_into env o thing m).tree) (sites bodies thing) (sites no_bodies (at_place o false thing m)) (all_sites no_bodies (shift_all o rest)) (all_sites bodies rest)
        (handed_sites thing m f.0.2) (at_place_sites o false m thing (thing_handed w cond (no_attribute ∷ []) thing refl f.0)) (shift_all_sites bodies o rest (rest_calls_none w cond (no_attribute ∷ []) rest refl f.1))
    known_sites line known.CondDestroy none kind x k m c f = absurd f
    known_sites line known.CondDestroy (and thing rest) kind x k m c f = one_sites (tree_sites (handed_into env o thing m).tree) (sites bodies thing) (sites no_bodies (at_place o false thing m)) (all_sites no_bodies (shift_all o rest)) (all_sites bodies rest)
        (handed_sites thing m f.0.2) (at_place_sites o false m thing (thing_handed w cond [] thing refl f.0)) (shift_all_sites bodies o rest (rest_calls_none w cond [] rest refl f.1))
    known_sites line known.CondSignal none kind x k m c f = absurd f
    known_sites line known.CondSignal (and thing rest) kind x k m c f = one_sites (tree_sites (handed_into env o thing m).tree) (sites bodies thing) (sites no_bodies (at_place o false thing m)) (all_sites no_bodies (shift_all o rest)) (all_sites bodies rest)
        (handed_sites thing m f.0.2) (at_place_sites o false m thing (thing_handed w cond [] thing refl f.0)) (shift_all_sites bodies o rest (rest_calls_none w cond [] rest refl f.1))
    known_sites line known.CondBroadcast none kind x k m c f = absurd f
    known_sites line known.CondBroadcast (and thing rest) kind x k m c f = one_sites (tree_sites (handed_into env o thing m).tree) (sites bodies thing) (sites no_bodies (at_place o false thing m)) (all_sites no_bodies (shift_all o rest)) (all_sites bodies rest)
        (handed_sites thing m f.0.2) (at_place_sites o false m thing (thing_handed w cond [] thing refl f.0)) (shift_all_sites bodies o rest (rest_calls_none w cond [] rest refl f.1))
    known_sites line known.CondWait none kind x k m c f = absurd f
    known_sites line known.CondWait (and one none) kind x k m c f = absurd f.1
    known_sites line known.CondWait (and one (and two none)) kind x k m c f =
        let m' = (handed_into env o one m).next in
        two_sites (tree_sites (handed_into env o one m).tree) (sites bodies one) (tree_sites (inside_place one m)) (tree_sites (handed_into env o two m').tree) (sites bodies two) (sites no_bodies (at_place o true one m)) (sites no_bodies (at_place o false two m'))
        (handed_sites one m f.0.2) (inside_place_sites m one) (handed_sites two m' f.1.0.2) (at_place_sites o true m one (thing_handed w cond [] one refl f.0)) (at_place_sites o false m' two (thing_handed w mutex [] two refl f.1.0))
    known_sites line known.CondWait (and one (and two (and e rest))) kind x k m c f = absurd (false≢true f.1.1.0)
    known_sites line known.Create none kind x k m c f = absurd f
    known_sites line known.Create (and thread none) kind x k m c f = absurd f.1
    known_sites line known.Create (and thread (and attribute none)) kind x k m c f = absurd f.1.1
    known_sites line known.Create (and thread (and attribute (and begins none))) kind x k m c f = absurd f.1.1.1
    known_sites line known.Create (and thread (and attribute (and begins (and e none)))) kind x k m c f =
        let m' = (handed_into env o thread m).next in
        let fa = f.1.0.1 in let fb = f.1.1.0 in
        create_sites (tree_sites (handed_into env o thread m).tree) (sites bodies thread) (tree_sites (inside_place thread m)) (tree_sites (into env o e m' (kind_of e) (suc m')).tree) (sites bodies e) (sites no_bodies (at_place o true thread m))
        (sites no_bodies (shift o attribute)) (sites no_bodies (shift o begins)) (sites bodies attribute) (sites bodies begins) (named_by (shift o begins)) (named_by begins)
        (handed_sites thread m f.0.2) (inside_place_sites m thread) (into_sites e m' (kind_of e) (suc m') f.1.1.1.0.0) (at_place_sites o true m thread (thing_handed w new_thread [] thread refl f.0))
        (shift_sites bodies o attribute (attribute_calls_none attribute fa) ∙ attribute_sites bodies attribute fa) (shift_sites bodies o begins (start_calls_none w begins fb) ∙ start_sites bodies w begins fb)
        (attribute_sites bodies attribute fa) (start_sites bodies w begins fb) (named_by-shift o begins)
    known_sites line known.Create (and thread (and attribute (and begins (and e (and e2 rest))))) kind x k m c f = absurd (false≢true f.1.1.1.1.0)
    known_sites line known.NondetInt none kind x k m c f = absurd (false≢true c)
    known_sites line known.NondetInt (and e rest) kind x k m c f = absurd (false≢true f.0)
    known_sites line known.NondetUint none kind x k m c f = absurd (false≢true c)
    known_sites line known.NondetUint (and e rest) kind x k m c f = absurd (false≢true f.0)
    known_sites line known.Error none kind x k m c f = absurd (false≢true c)
    known_sites line known.Error (and e rest) kind x k m c f = absurd (false≢true f.0)
    known_sites line known.ReachError none kind x k m c f = absurd (false≢true c)
    known_sites line known.ReachError (and e rest) kind x k m c f = absurd (false≢true f.0)
    known_sites line known.Abort none kind x k m c f = absurd (false≢true c)
    known_sites line known.Abort (and e rest) kind x k m c f = absurd (false≢true f.0)
    known_sites line known.AtomicBegin none kind x k m c f = absurd (false≢true c)
    known_sites line known.AtomicBegin (and e rest) kind x k m c f = absurd (false≢true f.0)
    known_sites line known.AtomicEnd none kind x k m c f = absurd (false≢true c)
    known_sites line known.AtomicEnd (and e rest) kind x k m c f = absurd (false≢true f.0)

  set_sites : (e : ScopedExpression) (x : ℕ) (k : IntType) (m : ℕ) → IsScoped w e → tree_sites (set_made env o e x k m).tree ≡ sites bodies e
  set_sites e x k m f = by_call (has_call e) _ _ _ (λ c. shift_sites bodies o e c) (λ c. append-nil (tree_sites (into env o e m (kind_of e) (suc m)).tree) ∙ into_sites e m (kind_of e) (suc m) f)

  discarded_sites : (e : ScopedExpression) (m : ℕ) → IsScoped w e → tree_sites (discarded env o e m).tree ≡ sites bodies e
  discarded_sites e m f = by_call (has_call e) _ _ _ (λ c. shift_sites bodies o e c) (λ c. into_sites e m (kind_of e) (suc m) f)

  -- ---- tests and steps

  test_sites : (b : Bool) (e : ScopedExpression) (m : ℕ) → has_call e ≡ b → IsScoped w e →
      tree_sites (unless_call b (made tree.nothing m) (into env o e m (kind_of e) (suc m))).tree ++ sites no_bodies (test_of env o e b m) ≡ sites bodies e
  test_sites false e m c f = shift_sites bodies o e c
  test_sites true e m c f = append-nil (tree_sites (into env o e m (kind_of e) (suc m)).tree) ∙ into_sites e m (kind_of e) (suc m) f

  unless_sites : (test : Option ScopedExpression) (m : ℕ) → MayTest w test → tree_sites (unless_made env o test m).tree ≡ optional_sites bodies test
  unless_sites None m f = refl
  unless_sites (Some e) m f = ap (λ (xs : List ℕ). tree_sites (test_made env o e m).tree ++ xs) (append-nil (sites no_bodies (test_of env o e (has_call e) m))) ∙ test_sites (has_call e) e m refl f.0

  step_sites : (change : Option ScopedExpression) (m : ℕ) → MayScope w change → tree_sites (step_made env o change m).tree ≡ optional_sites bodies change
  step_sites None m f = refl
  step_sites (Some e) m f = discarded_sites e m f

  turns_sites : (test body change : ℕ → Made) (t b c : List ℕ) → ((m : ℕ) → tree_sites (test m).tree ≡ t) → ((m : ℕ) → tree_sites (body m).tree ≡ b) → ((m : ℕ) → tree_sites (change m).tree ≡ c) → (n m : ℕ) →
      tree_sites (turns_made test body change n m).tree ≡ times bodies n (t ++ (b ++ c)) ++ t
  turns_sites test body change t b c et eb ec zero m = append-nil (tree_sites (test m).tree) ∙ et m
  turns_sites test body change t b c et eb ec (suc n) m =
      let m1 = (test m).next in let m2 = (body m1).next in let m3 = (change m2).next in let rest = times bodies n (t ++ (b ++ c)) ++ t in
      ap₂ ◌++◌ (et m) (ap₂ ◌++◌ (eb m1) (ap₂ ◌++◌ (ec m2) (turns_sites test body change t b c et eb ec n m3))) ∙
      sym (append_assoc (t ++ (b ++ c)) (times bodies n (t ++ (b ++ c))) t ∙ append_assoc t (b ++ c) rest ∙ ap (λ (xs : List ℕ). t ++ xs) (append_assoc b c rest))

  do_turns_sites : (test body : ℕ → Made) (t b : List ℕ) → ((m : ℕ) → tree_sites (test m).tree ≡ t) → ((m : ℕ) → tree_sites (body m).tree ≡ b) → (n m : ℕ) →
      tree_sites (do_turns_made test body n m).tree ≡ times bodies n (b ++ t)
  do_turns_sites test body t b et eb zero m = refl
  do_turns_sites test body t b et eb (suc n) m =
      let m1 = (body m).next in let m2 = (test m1).next in
      ap₂ ◌++◌ (eb m) (ap₂ ◌++◌ (et m1) (do_turns_sites test body t b et eb n m2)) ∙ sym (append_assoc b t (times bodies n (b ++ t)))

  -- ---- declarations

  cleared_sites : (kind : IntType) (i more m : ℕ) → tree_sites (cleared env o kind i more m).tree ≡ []
  cleared_sites kind i zero m = refl
  cleared_sites kind i (suc more) m = refl

  listed_sites : (kind : IntType) (es : ScopedExpressions) (i more m : ℕ) → AreValues w es → number_of es ≤ more → tree_sites (listed_made env o kind es i more m).tree ≡ all_sites bodies es
  listed_sites kind none i more m f few = cleared_sites kind i more m
  listed_sites kind (and e rest) i zero m f few = (let bad : ⊥ = omega (arith, few) in absurd bad)
  listed_sites kind (and e rest) i (suc more) m f few = ap₂ ◌++◌ (set_sites e (o + i) kind m f.0) (listed_sites kind rest (suc i) more (set_made env o e (o + i) kind m).next f.2 (omega (arith, few)))

  integer_sites : (first len : ℕ) (kind : IntType) (value : ScopedInitializer) (m : ℕ) → IsFirst w len value → tree_sites (integer_made env o first len kind value m).tree ≡ initializer_sites bodies value
  integer_sites first len kind nothing m f = refl
  integer_sites first len kind (single e) m f = set_sites e (o + first) kind m f.0
  integer_sites first len kind (listed values) m f = listed_sites kind values first len m f.0 f.1

  object_sites : (x : Object) (value : ScopedInitializer) (m : ℕ) → IsDeclared w x value → tree_sites (object_made env o x value m).tree ≡ initializer_sites bodies value
  object_sites (Local first len kind) value m f = integer_sites first len kind value m f.1
  object_sites (Handle first len) value m f = sym (ap (λ (v : ScopedInitializer). initializer_sites bodies v) f.1)
  object_sites (Cell first len kind) value m f = absurd f
  object_sites (Mutex first len) value m f = absurd f
  object_sites (Cond first len) value m f = absurd f
  object_sites (Routine function) value m f = absurd f
  object_sites (Known name) value m f = absurd f

  declared_sites : (ds : List ScopedInitDeclarator) (m : ℕ) → AreDeclared w ds → tree_sites (declarators_made env o ds m).tree ≡ declarators_sites bodies ds
  declared_sites [] m f = refl
  declared_sites (d ∷ rest) m f = ap₂ ◌++◌ (object_sites d.object d.first m f.0) (declared_sites rest (object_made env o d.object d.first m).next f.1)

  -- ---- statements

  module _ (n : ℕ) (result : IntType) (gives_ : Option IntType) where
    eval_sites : (a : Bool) (e : ScopedExpression) (m : ℕ) → is_silent e ≡ a → IsScoped w e → tree_sites (eval_made env o w.locals n result e a m).tree ≡ sites bodies e
    eval_sites true e m h f = sym (silent_sites bodies e h)
    eval_sites false e m h f = discarded_sites e m f

    return_sites : (value : Option ScopedExpression) (m : ℕ) → IsReturned w gives_ value → tree_sites (return_made env o w.locals n result value m).tree ≡ optional_sites bodies value
    return_sites None m f = refl
    return_sites (Some e) m f = append-nil (tree_sites (set_made env o e (o + w.locals) result m).tree) ∙ set_sites e (o + w.locals) result m (value_scoped w gives_ e f)

    mutual
      pub statement_sites : (b : Bool) (st : ScopedStatement) (m : ℕ) → IsCode w gives_ b st → tree_sites (statement_made env o w.locals n result st m).tree ≡ code_sites bodies n st
      statement_sites b empty m f = refl
      statement_sites b (eval e) m f = eval_sites (is_silent e) e m refl f
      statement_sites b (block parts) m f = statements_sites b parts m f
      statement_sites b (declare of) m f = declared_sites of.declarators m f
      statement_sites b (when line test first second) m f =
          let m1 = (test_made env o test m).next in let m2 = (statement_made env o w.locals n result first m1).next in
          sym (append_assoc (tree_sites (test_made env o test m).tree) (sites no_bodies (test_of env o test (has_call test) m)) _) ∙
          ap₂ ◌++◌ (test_sites (has_call test) test m refl f.0) (ap₂ ◌++◌ (statement_sites b first m1 f.2) (else_sites b second m2 f.3))
      statement_sites b (while line test body) m f =
          turns_sites (unless_made env o (Some test)) (λ k. statement_made env o w.locals n result body k) (step_made env o None) (sites bodies test) (code_sites bodies n body) []
          (λ k. unless_sites (Some test) k (f.0, f.1)) (λ k. statement_sites true body k f.2) (λ k. step_sites None k tt) n m ∙
          ap (λ (xs : List ℕ). times bodies n (sites bodies test ++ xs) ++ sites bodies test) (append-nil (code_sites bodies n body))
      statement_sites b (do_while line body test) m f =
          do_turns_sites (unless_made env o (Some test)) (λ k. statement_made env o w.locals n result body k) (sites bodies test) (code_sites bodies n body)
          (λ k. unless_sites (Some test) k (f.1, f.2)) (λ k. statement_sites true body k f.0) n m
      statement_sites b (for line first test change body) m f =
          let m1 = (statement_made env o w.locals n result first m).next in
          ap₂ ◌++◌ (statement_sites false first m f.0)
          (turns_sites (unless_made env o test) (λ k. statement_made env o w.locals n result body k) (step_made env o change) (optional_sites bodies test) (code_sites bodies n body) (optional_sites bodies change)
          (λ k. unless_sites test k f.1) (λ k. statement_sites true body k f.3) (λ k. step_sites change k f.2) n m1)
      statement_sites b (break line) m f = refl
      statement_sites b (continue line) m f = refl
      statement_sites b (return line value) m f = return_sites value m f
      statement_sites b (label name of) m f = statement_sites b of m f

      else_sites : (b : Bool) (br : ScopedBranch) (m : ℕ) → IsBranch w gives_ b br → tree_sites (branch_made env o w.locals n result br m).tree ≡ branch_sites bodies n br
      else_sites b absent m f = refl
      else_sites b (branch of) m f = statement_sites b of m f

      statements_sites : (b : Bool) (ss : ScopedStatements) (m : ℕ) → AreCode w gives_ b ss → tree_sites (statements_made env o w.locals n result ss m).tree ≡ parts_sites bodies n ss
      statements_sites b nil m f = refl
      statements_sites b (cons first rest) m f = ap₂ ◌++◌ (statement_sites b first m f.0) (statements_sites b rest (statement_made env o w.locals n result first m).next f.1)

-- ---- functions

-- The create sites of the tree of a function, in their order, name the functions of its create sites, one for one,
-- counted in the inlined and unwound text.
pub thread_sites : (p : ScopedProgram) (n : ℕ) (W : IsWellScoped p) (d f o m : ℕ) → f < length p.functions → tree_sites (inline_within p n d f o m).tree ≡ sites_within p n d f
thread_sites p n W zero f o m there = refl
thread_sites p n W (suc d) f o m there =
    statement_sites (sites_within p n d) (setting_of p W.plan f) (callees p (inline_within p n d)) (λ g i k may. thread_sites p n W d g i k may.there) o n (kind_or (function_at p f).gives) (function_at p f).gives false (function_at p f).body m (W.each f there).body
