-- What a statement makes of its station is what its code may do from there, Loc left out.
use Rattle.std.proofs.Common.{◌≡◌, ℕ, zero, suc, ◌+◌, ◌-◌, Bool, true, false, nat_lt, List, [], ◌∷◌, Option, Some, None, refl, sym, ap, subst, arith}
use Rattle.std.proofs.lemmas.Bool.Decides.{nat_tests}
use Rattle.lz_base.specs.Words.{is_true, converted}
use Rattle.lz_base.specs.declared.word.IntType.{IntType}
use Rattle.lz_tree.specs.declared.scoped.Object.{Object}
use Rattle.lz_tree.specs.declared.scoped.Object.TheVariants.{Local, Cell, Mutex, Cond, Handle, Routine, Known}
use Rattle.lz_tree.specs.ScopedTrees.{ScopedExpression, ScopedExpressions, none, and, ScopedInitializer, nothing, single, listed, ScopedInitDeclarator, ScopedStatement, empty, eval, block, declare, when, while, do_while, for, break, continue, return, label, ScopedBranch, absent, branch, ScopedStatements, nil, cons}
use Rattle.lz_model.specs.Behaviours.{Behaviour, ends_with, stays, ◌and_then◌, picks}
use Rattle.lz_model.specs.CodeTraces.{Locals, set_local, set_handle, Calls, loc, inputs, kind_of, Flow, normal, breaks, continues, returns, arbitrary_trace, listed_trace, no_threads_trace, object_trace, declarators_trace, led_on, expression_trace, statement_trace, branch_trace, statements_trace}
use Rattle.lz_model.specs.CodeTraces as model
use Rattle.lz_model.proofs.FrontsLemmas.{FrontCalls, fronts_updates, fronts_chooses, fronts_expression, fronts_statement}
use Rattle.lz_turns.specs.Seen.{Alike}
use Rattle.lz_turns.specs.Moves.{argument_at}
use Rattle.lz_turns.specs.Resumed.{rest_from}
use Rattle.lz_stations.specs.Stations as at
use Rattle.lz_stations.specs.Stations.{Station, start, led, evaluated, listing, declaring, filling, arbitrary, filled, initialized, tested, taken, other, opened, turning, turned, bodied, changed, doing, returned, labelled, enters_value, enters_part, moves_on}
use Rattle.lz_stations.specs.StationMoves.{parts_of, statement_at, declared_by, declarator_at, Loop, no_loop, before_turns, behind_turns, loop_of, value_of, element_value, initializer_of, in_branch, test_of, change_of, body_of, begin_statement, follow_move, list_move, listed_so, declare_move, listed_move, fill_integer, fill_handle, fill_object, fill_move, filled_if, filled_object, valued_move, arbitrary_move, filled_move, single_value, single_move, initialized_move, test_move, tested_move, turn_move, turning_move, do_again, turned_move, step_move, bodied_move, changed_move, doing_move, return_move, station_move, cleared, emptied, cleared_integer, cleared_object, cleared_by, kept_if, arbitrary_object, filled_one, single_one, initialized_by, arbitrary_by, filled_by, station_leaves}
use Rattle.lz_stations.specs.StationTraces.{parts_from, declarators_from, elements_from, gets_if, gets, gets_value, gets_single, initialized_trace, listed_part, filling_trace, arbitrary_filled, filled_trace, tested_trace, turns_left, do_turns_left, next_turn, turning_trace, turned_trace, bodied_trace, changed_trace, doing_trace, returned_trace, station_trace, with_value, with_statement, station_moved}
use Rattle.lz_turns.proofs.SeenLemmas.{alike_same, alike_alike, alike_behind, alike_value, alike_halts, alike_loc, alike_gives, alike_ends, alike_assoc}
use Rattle.lz_turns.proofs.CallsLemmas.{rest_none, rest_some}

-- ---- lists from a place on

parts_none : (ps : ScopedStatements) (k : ℕ) → statement_at ps k ≡ None → parts_from ps k ≡ nil
parts_none nil zero e = refl
parts_none nil (suc k) e = refl
parts_none (cons s rest) zero e = absurd cc
parts_none (cons s rest) (suc k) e = parts_none rest k e

parts_some : (ps : ScopedStatements) (k : ℕ) (s : ScopedStatement) → statement_at ps k ≡ Some s → parts_from ps k ≡ cons s (parts_from ps (suc k))
parts_some nil k s e = absurd cc
parts_some (cons x rest) zero s e = let same : x ≡ s = cc in ap (λ (y : ScopedStatement). cons y rest) same
parts_some (cons x rest) (suc k) s e = parts_some rest k s e

declarators_none : (ds : List ScopedInitDeclarator) (k : ℕ) → declarator_at ds k ≡ None → declarators_from ds k ≡ []
declarators_none [] zero e = refl
declarators_none [] (suc k) e = refl
declarators_none (d ∷ rest) zero e = absurd cc
declarators_none (d ∷ rest) (suc k) e = declarators_none rest k e

pub declarators_some : (ds : List ScopedInitDeclarator) (k : ℕ) (d : ScopedInitDeclarator) → declarator_at ds k ≡ Some d → declarators_from ds k ≡ d ∷ declarators_from ds (suc k)
declarators_some [] k d e = absurd cc
declarators_some (x ∷ rest) zero d e = let same : x ≡ d = cc in ap (λ (y : ScopedInitDeclarator). y ∷ rest) same
declarators_some (x ∷ rest) (suc k) d e = declarators_some rest k d e

rest_behind : (args : ScopedExpressions) (k : ℕ) → argument_at args k ≡ None → rest_from args (suc k) ≡ none
rest_behind none k e = refl
rest_behind (and a rest) zero e = absurd cc
rest_behind (and a rest) (suc k) e = rest_behind rest k e

-- how many elements are left
some_left : (i len : ℕ) → nat_lt i len ≡ true → len - i ≡ suc (len - suc i)
some_left i len h = grind (arith, nat_tests, h)

none_left : (i len : ℕ) → nat_lt i len ≡ false → len - i ≡ 0
none_left i len h = grind (arith, nat_tests, h)

next_one : (first i : ℕ) → suc (first + i) ≡ first + suc i
next_one first i = omega arith

module _ (calls : Calls) (c : FrontCalls calls) (n : ℕ) where
  -- ---- statements before their first action

  begins : (s : ScopedStatement) (t : Locals) → Alike (statement_trace calls n s) t (station_moved calls n s (begin_statement n s)) t
  begins empty t = alike_same
  begins (eval value) t = alike_gives (fronts_expression calls c value) _ t
  begins (block parts) t = alike_same
  begins (declare of) t = alike_same
  begins (when line test one two) t = alike_same
  begins (while line test body) t = alike_same
  begins (do_while line body test) t = alike_same
  begins (for line opens test change body) t = alike_same
  begins (break line) t = alike_same
  begins (continue line) t = alike_same
  begins (return line None) t = alike_same
  begins (return line (Some value)) t = alike_gives (fronts_expression calls c value) _ t
  begins (label name of) t = alike_ends (fronts_statement calls c n of) t

  -- ---- blocks

  follows : (s : ScopedStatement) (flow : Flow) (next : Station) (t : Locals) → Alike (led_on flow (station_trace calls n s next 0 normal)) t (station_moved calls n s (follow_move flow next)) t
  follows s normal next t = alike_same
  follows s breaks next t = alike_same
  follows s continues next t = alike_same
  follows s (returns kind value) next t = alike_same

  lists : (s : ScopedStatement) (k : ℕ) (o : Option ScopedStatement) → statement_at (parts_of s) k ≡ o → (t : Locals)
      → Alike (statements_trace calls n (parts_from (parts_of s) k)) t (station_moved calls n s (list_move o k)) t
  lists s k None is t = subst (λ (x : ScopedStatements). Alike (statements_trace calls n x) t (ends_with normal) t) (sym (parts_none (parts_of s) k is)) alike_same
  lists s k (Some a) is t =
      let code : Option ScopedStatement → ScopedStatement → Behaviour Locals Flow = λ o x. statement_trace calls n x and_then λ flow. listed_part calls n (parts_of s) o k flow in
      let o = statement_at (parts_of s) k in
      let one : Alike (code (Some a) a) t (with_statement o (code o)) t = subst (λ (x : Option ScopedStatement). Alike (code (Some a) a) t (with_statement x (code x)) t) (sym is) alike_same in
      subst (λ (x : ScopedStatements). Alike (statements_trace calls n x) t (with_statement o (code o)) t) (sym (parts_some (parts_of s) k a is)) one

  lists_behind : (s : ScopedStatement) (k : ℕ) (o : Option ScopedStatement) (flow : Flow) (t : Locals) → Alike (listed_part calls n (parts_of s) o k flow) t (station_moved calls n s (listed_so o flow k)) t
  lists_behind s k None flow t = alike_same
  lists_behind s k (Some a) flow t = follows s flow (listing (suc k)) t

  -- ---- declarations

  -- the station of an element
  at_filling : (s : ScopedStatement) (k i : ℕ) (d : ScopedInitDeclarator) → declarator_at (declared_by s) k ≡ Some d → (t : Locals)
      → Alike (filling_trace calls (declared_by s) (Some d) k i) t (station_trace calls n s (filling k i) 0 normal) t
  at_filling s k i d is t = subst (λ (x : Option ScopedInitDeclarator). Alike (filling_trace calls (declared_by s) (Some d) k i) t (filling_trace calls (declared_by s) x k i) t) (sym is) alike_same

  -- the value of an element
  at_value : (s : ScopedStatement) (k i : ℕ) (d : ScopedInitDeclarator) (value : ScopedExpression) → declarator_at (declared_by s) k ≡ Some d → element_value d.first i ≡ Some value → (t : Locals)
      → Alike (expression_trace calls value and_then λ v. gets_value d.line d.object (Some value) i v (filling_trace calls (declared_by s) (Some d) k (suc i))) t (station_moved calls n s (enters_value (filled k i))) t
  at_value s k i d value is has t =
      let code : Option ScopedExpression → ScopedExpression → Behaviour Locals Flow = λ o x. expression_trace calls x and_then λ v. gets_value d.line d.object o i v (filling_trace calls (declared_by s) (Some d) k (suc i)) in
      let one : Alike (code (Some value) value) t (with_value (element_value d.first i) (code (element_value d.first i))) t =
      subst (λ (o : Option ScopedExpression). Alike (code (Some value) value) t (with_value o (code o)) t) (sym has) alike_same in
      let two : Alike (with_value (element_value d.first i) (code (element_value d.first i))) t (station_moved calls n s (enters_value (filled k i))) t = by_declarator in
      alike_alike one two
    where
      by_declarator : Alike (with_value (element_value d.first i) (λ x. expression_trace calls x and_then λ v. gets_value d.line d.object (element_value d.first i) i v (filling_trace calls (declared_by s) (Some d) k (suc i)))) t
          (station_moved calls n s (enters_value (filled k i))) t
      by_declarator = subst (λ (x : Option ScopedInitDeclarator). Alike (with_value (element_value d.first i) (λ y. expression_trace calls y and_then λ v. filled_trace calls (declared_by s) (Some d) k i v)) t
          (with_value (element_value (initializer_of x) i) (λ y. expression_trace calls y and_then λ v. filled_trace calls (declared_by s) x k i v)) t) (sym is) alike_same

  -- the one value of an object
  at_single : (s : ScopedStatement) (k : ℕ) (d : ScopedInitDeclarator) (value : ScopedExpression) → declarator_at (declared_by s) k ≡ Some d → single_value d.first ≡ Some value → (t : Locals)
      → Alike (expression_trace calls value and_then λ v. gets_single d.line d.object (Some value) v (declarators_trace calls (declarators_from (declared_by s) (suc k)))) t (station_moved calls n s (enters_value (initialized k))) t
  at_single s k d value is has t =
      let code : Option ScopedExpression → ScopedExpression → Behaviour Locals Flow = λ o x. expression_trace calls x and_then λ v. gets_single d.line d.object o v (declarators_trace calls (declarators_from (declared_by s) (suc k))) in
      let one : Alike (code (Some value) value) t (with_value (single_value d.first) (code (single_value d.first))) t =
      subst (λ (o : Option ScopedExpression). Alike (code (Some value) value) t (with_value o (code o)) t) (sym has) alike_same in
      alike_alike one by_declarator
    where
      by_declarator : Alike (with_value (single_value d.first) (λ x. expression_trace calls x and_then λ v. gets_single d.line d.object (single_value d.first) v (declarators_trace calls (declarators_from (declared_by s) (suc k))))) t
          (station_moved calls n s (enters_value (initialized k))) t
      by_declarator = subst (λ (x : Option ScopedInitDeclarator). Alike (with_value (single_value d.first) (λ y. expression_trace calls y and_then λ v. initialized_trace calls (declared_by s) (Some d) k v)) t
          (with_value (single_value (initializer_of x)) (λ y. expression_trace calls y and_then λ v. initialized_trace calls (declared_by s) x k v)) t) (sym is) alike_same

  -- all elements, from the first on
  from_first : (s : ScopedStatement) (k : ℕ) (d : ScopedInitDeclarator) → declarator_at (declared_by s) k ≡ Some d → (code : ℕ → ℕ → Behaviour Locals Flow) (first len : ℕ) (rest : Behaviour Locals Flow) (t : Locals)
      → Alike (code (first + 0) (len - 0) and_then λ _. rest) t (station_trace calls n s (filling k 0) 0 normal) t
      → Alike (code first len and_then λ _. rest) t (station_trace calls n s (filling k 0) 0 normal) t
  from_first s k d is code first len rest t h =
      let a : first + 0 ≡ first = omega arith in
      let b : len - 0 ≡ len = omega arith in
      subst (λ (x : ℕ). Alike (code first x and_then λ _. rest) t (station_trace calls n s (filling k 0) 0 normal) t) b
      (subst (λ (x : ℕ). Alike (code x (len - 0) and_then λ _. rest) t (station_trace calls n s (filling k 0) 0 normal) t) a h)

  declares_object : (s : ScopedStatement) (k line : ℕ) (object : Object) (length : Option ScopedExpression) (value : ScopedInitializer)
      → declarator_at (declared_by s) k ≡ Some (record { line = line; object = object; length = length; first = value }) → (t : Locals)
      → Alike (object_trace calls line object value and_then λ _. declarators_trace calls (declarators_from (declared_by s) (suc k))) t
      (station_moved calls n s (declare_move (Some (record { line = line; object = object; length = length; first = value })) k)) t
  declares_object s k line (Local first len kind) length nothing is t =
      let d : ScopedInitDeclarator = record { line = line; object = Local first len kind; length = length; first = nothing } in
      from_first s k d is (λ x y. arbitrary_trace line kind x y) first len _ t (at_filling s k 0 d is t)
  declares_object s k line (Local first len kind) length (listed values) is t =
      let d : ScopedInitDeclarator = record { line = line; object = Local first len kind; length = length; first = listed values } in
      from_first s k d is (λ x y. listed_trace calls line kind values x y) first len _ t (at_filling s k 0 d is t)
  declares_object s k line (Local first len kind) length (single value) is t =
      let d : ScopedInitDeclarator = record { line = line; object = Local first len kind; length = length; first = single value } in
      alike_alike alike_assoc (at_single s k d value is refl t)
  declares_object s k line (Handle first len) length value is t =
      let d : ScopedInitDeclarator = record { line = line; object = Handle first len; length = length; first = value } in
      from_first s k d is (λ x y. no_threads_trace line x y) first len _ t (at_filling s k 0 d is t)
  declares_object s k line (Cell first len kind) length value is t = alike_halts
  declares_object s k line (Mutex first len) length value is t = alike_halts
  declares_object s k line (Cond first len) length value is t = alike_halts
  declares_object s k line (Routine function) length value is t = alike_halts
  declares_object s k line (Known name) length value is t = alike_halts

  declares : (s : ScopedStatement) (k : ℕ) (o : Option ScopedInitDeclarator) → declarator_at (declared_by s) k ≡ o → (t : Locals)
      → Alike (declarators_trace calls (declarators_from (declared_by s) k)) t (station_moved calls n s (declare_move o k)) t
  declares s k None is t = subst (λ (x : List ScopedInitDeclarator). Alike (declarators_trace calls x) t (ends_with normal) t) (sym (declarators_none (declared_by s) k is)) alike_same
  declares s k (Some d) is t =
      subst (λ (x : List ScopedInitDeclarator). Alike (declarators_trace calls x) t (station_moved calls n s (declare_move (Some d) k)) t) (sym (declarators_some (declared_by s) k d is))
      (declares_object s k d.line d.object d.length d.first is t)

  -- the elements of an object
  module _ (s : ScopedStatement) (k i line : ℕ) (length : Option ScopedExpression) where
    abbrev rest : Behaviour Locals Flow
    rest = declarators_trace calls (declarators_from (declared_by s) (suc k))

    fills_none : (code : ℕ → Behaviour Locals Flow) (len : ℕ) (t : Locals) → Alike (code 0 and_then λ _. rest) t rest t → nat_lt i len ≡ false
        → Alike (code (len - i) and_then λ _. rest) t rest t
    fills_none code len t ends out = subst (λ (x : ℕ). Alike (code x and_then λ _. rest) t rest t) (sym (none_left i len out)) ends

    module _ (first len : ℕ) (kind : IntType) (is : declarator_at (declared_by s) k ≡ Some (record { line = line; object = Local first len kind; length = length; first = nothing })) where
      abbrev arbitrary_of : ScopedInitDeclarator
      arbitrary_of = record { line = line; object = Local first len kind; length = length; first = nothing }

      arbitrary_next : (u : Locals) → Alike (arbitrary_trace line kind (suc (first + i)) (len - suc i) and_then λ _. rest) u (filling_trace calls (declared_by s) (Some arbitrary_of) k (suc i)) u
      arbitrary_next u = subst (λ (x : ℕ). Alike (arbitrary_trace line kind x (len - suc i) and_then λ _. rest) u (filling_trace calls (declared_by s) (Some arbitrary_of) k (suc i)) u) (sym (next_one first i)) alike_same

      arbitrary_one : nat_lt i len ≡ true → (v : ℕ) (u : Locals)
          → Alike ((loc line (set_local (first + i) v) normal and_then λ _. arbitrary_trace line kind (suc (first + i)) (len - suc i)) and_then λ _. rest) u (arbitrary_filled calls (declared_by s) (Some arbitrary_of) k i v) u
      arbitrary_one fit v u =
          subst (λ (b : Bool). Alike ((loc line (set_local (first + i) v) normal and_then λ _. arbitrary_trace line kind (suc (first + i)) (len - suc i)) and_then λ _. rest) u
          (gets_if b line (first + i) v (filling_trace calls (declared_by s) (Some arbitrary_of) k (suc i))) u) (sym fit) (alike_alike alike_assoc (alike_behind fronts_updates (λ w x. arbitrary_next x) u))

      arbitrary_so : nat_lt i len ≡ true → (t : Locals) → Alike (arbitrary_trace line kind (first + i) (suc (len - suc i)) and_then λ _. rest) t (station_moved calls n s (fill_integer true kind nothing k i)) t
      arbitrary_so fit t =
          subst (λ (x : Option ScopedInitDeclarator). Alike (arbitrary_trace line kind (first + i) (suc (len - suc i)) and_then λ _. rest) t (inputs 0 kind and_then λ v. arbitrary_filled calls (declared_by s) x k i v) t) (sym is)
          (alike_alike alike_assoc (alike_behind (fronts_chooses (λ v. fronts_updates)) (arbitrary_one fit) t))

      fills_arbitrary : (b : Bool) → nat_lt i len ≡ b → (t : Locals) → Alike (arbitrary_trace line kind (first + i) (len - i) and_then λ _. rest) t (station_moved calls n s (fill_integer b kind nothing k i)) t
      fills_arbitrary true fit t = subst (λ (x : ℕ). Alike (arbitrary_trace line kind (first + i) x and_then λ _. rest) t (station_moved calls n s (fill_integer true kind nothing k i)) t) (sym (some_left i len fit)) (arbitrary_so fit t)
      fills_arbitrary false out t = fills_none (λ x. arbitrary_trace line kind (first + i) x) len t alike_value out

    module _ (first len : ℕ) (kind : IntType) (values : ScopedExpressions) (is : declarator_at (declared_by s) k ≡ Some (record { line = line; object = Local first len kind; length = length; first = listed values })) where
      abbrev listed_of : ScopedInitDeclarator
      listed_of = record { line = line; object = Local first len kind; length = length; first = listed values }

      listed_next : (xs : ScopedExpressions) → xs ≡ rest_from values (suc i) → (u : Locals)
          → Alike (listed_trace calls line kind xs (suc (first + i)) (len - suc i) and_then λ _. rest) u (filling_trace calls (declared_by s) (Some listed_of) k (suc i)) u
      listed_next xs same u =
          subst (λ (ys : ScopedExpressions). Alike (listed_trace calls line kind ys (suc (first + i)) (len - suc i) and_then λ _. rest) u (filling_trace calls (declared_by s) (Some listed_of) k (suc i)) u) (sym same)
          (subst (λ (x : ℕ). Alike (listed_trace calls line kind (rest_from values (suc i)) x (len - suc i) and_then λ _. rest) u (filling_trace calls (declared_by s) (Some listed_of) k (suc i)) u) (sym (next_one first i)) alike_same)

      listed_gets : (value : ScopedExpression) → nat_lt i len ≡ true → (v : ℕ) (u : Locals)
          → Alike ((loc line (set_local (first + i) (converted v (kind_of value) kind)) normal and_then λ _. listed_trace calls line kind (rest_from values (suc i)) (suc (first + i)) (len - suc i)) and_then λ _. rest) u
          (gets_value line (Local first len kind) (Some value) i v (filling_trace calls (declared_by s) (Some listed_of) k (suc i))) u
      listed_gets value fit v u =
          subst (λ (b : Bool). Alike ((loc line (set_local (first + i) (converted v (kind_of value) kind)) normal and_then λ _. listed_trace calls line kind (rest_from values (suc i)) (suc (first + i)) (len - suc i)) and_then λ _. rest) u
          (gets_if b line (first + i) (converted v (kind_of value) kind) (filling_trace calls (declared_by s) (Some listed_of) k (suc i))) u) (sym fit)
          (alike_alike alike_assoc (alike_behind fronts_updates (λ w x. listed_next (rest_from values (suc i)) refl x) u))

      elements_so : nat_lt i len ≡ true → (o : Option ScopedExpression) → argument_at values i ≡ o → (t : Locals)
          → Alike (listed_trace calls line kind (rest_from values i) (first + i) (suc (len - suc i)) and_then λ _. rest) t (station_moved calls n s (listed_move o k i)) (cleared true o (first + i) t)
      elements_so fit None out t =
          subst (λ (xs : ScopedExpressions). Alike (listed_trace calls line kind xs (first + i) (suc (len - suc i)) and_then λ _. rest) t (station_trace calls n s (filling k (suc i)) 0 normal) (set_local (first + i) 0 t)) (sym (rest_none values i out))
          (alike_alike alike_assoc (alike_alike (alike_loc line (set_local (first + i) 0) normal _ t)
          (alike_alike (listed_next none (sym (rest_behind values i out)) (set_local (first + i) 0 t)) (at_filling s k (suc i) listed_of is (set_local (first + i) 0 t)))))
      elements_so fit (Some value) has t =
          subst (λ (xs : ScopedExpressions). Alike (listed_trace calls line kind xs (first + i) (suc (len - suc i)) and_then λ _. rest) t (station_moved calls n s (enters_value (filled k i))) t) (sym (rest_some values i value has))
          (alike_alike alike_assoc (alike_alike
          (alike_behind (fronts_expression calls c value) (listed_gets value fit) t)
          (at_value s k i listed_of value is has t)))

      listed_ends : (xs : ScopedExpressions) (t : Locals) → Alike (listed_trace calls line kind xs (first + i) 0 and_then λ _. rest) t rest t
      listed_ends none t = alike_value
      listed_ends (and e more) t = alike_value

      fills_listed : (b : Bool) → nat_lt i len ≡ b → (t : Locals)
          → Alike (listed_trace calls line kind (rest_from values i) (first + i) (len - i) and_then λ _. rest) t (station_moved calls n s (fill_integer b kind (listed values) k i)) (cleared_integer b (listed values) (first + i) i t)
      fills_listed true fit t =
          subst (λ (x : ℕ). Alike (listed_trace calls line kind (rest_from values i) (first + i) x and_then λ _. rest) t (station_moved calls n s (listed_move (argument_at values i) k i)) (cleared true (argument_at values i) (first + i) t)) (sym (some_left i len fit))
          (elements_so fit (argument_at values i) refl t)
      fills_listed false out t = fills_none (λ x. listed_trace calls line kind (rest_from values i) (first + i) x) len t (listed_ends (rest_from values i) t) out

    module _ (first len : ℕ) (value : ScopedInitializer) (is : declarator_at (declared_by s) k ≡ Some (record { line = line; object = Handle first len; length = length; first = value })) where
      abbrev handles_of : ScopedInitDeclarator
      handles_of = record { line = line; object = Handle first len; length = length; first = value }

      handles_so : (t : Locals) → Alike (no_threads_trace line (first + i) (suc (len - suc i)) and_then λ _. rest) t (station_moved calls n s (fill_handle true k i)) (set_handle (first + i) 0 t)
      handles_so t =
          let u : Locals = set_handle (first + i) 0 t in
          alike_alike alike_assoc (alike_alike (alike_loc line (set_handle (first + i) 0) normal _ t)
          (alike_alike (subst (λ (x : ℕ). Alike (no_threads_trace line x (len - suc i) and_then λ _. rest) u (filling_trace calls (declared_by s) (Some handles_of) k (suc i)) u) (sym (next_one first i)) alike_same)
          (at_filling s k (suc i) handles_of is u)))

      fills_handles : (b : Bool) → nat_lt i len ≡ b → (t : Locals)
          → Alike (no_threads_trace line (first + i) (len - i) and_then λ _. rest) t (station_moved calls n s (fill_handle b k i)) (emptied b (first + i) t)
      fills_handles true fit t = subst (λ (x : ℕ). Alike (no_threads_trace line (first + i) x and_then λ _. rest) t (station_moved calls n s (fill_handle true k i)) (emptied true (first + i) t)) (sym (some_left i len fit)) (handles_so t)
      fills_handles false out t = fills_none (λ x. no_threads_trace line (first + i) x) len t alike_value out

    single_so : (b : Bool) (kind : IntType) (value : ScopedExpression) (e : ℕ) (t : Locals)
        → Alike (ends_with normal and_then λ _. rest) t (station_moved calls n s (fill_integer b kind (single value) k i)) (cleared_integer b (single value) e i t)
    single_so true kind value e t = alike_value
    single_so false kind value e t = alike_value

    fills_object : (object : Object) (value : ScopedInitializer) → declarator_at (declared_by s) k ≡ Some (record { line = line; object = object; length = length; first = value }) → (t : Locals)
        → Alike (elements_from calls line object value i and_then λ _. rest) t (station_moved calls n s (fill_object object value k i)) (cleared_object object value i t)
    fills_object (Local first len kind) nothing is t = fills_arbitrary first len kind is (nat_lt i len) refl t
    fills_object (Local first len kind) (single value) is t = single_so (nat_lt i len) kind value (first + i) t
    fills_object (Local first len kind) (listed values) is t = fills_listed first len kind values is (nat_lt i len) refl t
    fills_object (Handle first len) value is t = fills_handles first len value is (nat_lt i len) refl t
    fills_object (Cell first len kind) value is t = alike_halts
    fills_object (Mutex first len) value is t = alike_halts
    fills_object (Cond first len) value is t = alike_halts
    fills_object (Routine function) value is t = alike_halts
    fills_object (Known name) value is t = alike_halts

  fills : (s : ScopedStatement) (k i : ℕ) (o : Option ScopedInitDeclarator) → declarator_at (declared_by s) k ≡ o → (t : Locals)
      → Alike (filling_trace calls (declared_by s) o k i) t (station_moved calls n s (fill_move o k i)) (cleared_by o i t)
  fills s k i None is t = alike_same
  fills s k i (Some d) is t = fills_object s k i d.line d.length d.object d.first is t

  -- an element that gets a value
  gets_so : (s : ScopedStatement) (k i v : ℕ) (d : ScopedInitDeclarator) → declarator_at (declared_by s) k ≡ Some d → (line : ℕ) (object : Object) (t : Locals)
      → Alike (gets line object i v (filling_trace calls (declared_by s) (Some d) k (suc i))) t (station_moved calls n s (filled_object object k i)) (arbitrary_object object i v t)
  gets_so s k i v d is line (Local first len kind) t = by (nat_lt i len)
    where
      by : (b : Bool) → Alike (gets_if b line (first + i) v (filling_trace calls (declared_by s) (Some d) k (suc i))) t (station_moved calls n s (filled_if b k i)) (kept_if b (first + i) v t)
      by true = alike_alike (alike_loc line (set_local (first + i) v) normal _ t) (at_filling s k (suc i) d is (set_local (first + i) v t))
      by false = alike_same
  gets_so s k i v d is line (Handle first len) t = alike_same
  gets_so s k i v d is line (Cell first len kind) t = alike_same
  gets_so s k i v d is line (Mutex first len) t = alike_same
  gets_so s k i v d is line (Cond first len) t = alike_same
  gets_so s k i v d is line (Routine function) t = alike_same
  gets_so s k i v d is line (Known name) t = alike_same

  arbitraries : (s : ScopedStatement) (k i v : ℕ) (o : Option ScopedInitDeclarator) → declarator_at (declared_by s) k ≡ o → (t : Locals)
      → Alike (arbitrary_filled calls (declared_by s) o k i v) t (station_moved calls n s (arbitrary_move o k i)) (arbitrary_by o i v t)
  arbitraries s k i v None is t = alike_same
  arbitraries s k i v (Some d) is t = gets_so s k i v d is d.line d.object t

  values_so : (s : ScopedStatement) (k i v : ℕ) (d : ScopedInitDeclarator) → declarator_at (declared_by s) k ≡ Some d → (line : ℕ) (object : Object) (o : Option ScopedExpression) (t : Locals)
      → Alike (gets_value line object o i v (filling_trace calls (declared_by s) (Some d) k (suc i))) t (station_moved calls n s (valued_move object o k i)) (filled_one object o i v t)
  values_so s k i v d is line object None t = alike_same
  values_so s k i v d is line (Local first len kind) (Some value) t = gets_so s k i (converted v (kind_of value) kind) d is line (Local first len kind) t
  values_so s k i v d is line (Handle first len) (Some value) t = alike_same
  values_so s k i v d is line (Cell first len kind) (Some value) t = alike_same
  values_so s k i v d is line (Mutex first len) (Some value) t = alike_same
  values_so s k i v d is line (Cond first len) (Some value) t = alike_same
  values_so s k i v d is line (Routine function) (Some value) t = alike_same
  values_so s k i v d is line (Known name) (Some value) t = alike_same

  fills_value : (s : ScopedStatement) (k i v : ℕ) (o : Option ScopedInitDeclarator) → declarator_at (declared_by s) k ≡ o → (t : Locals)
      → Alike (filled_trace calls (declared_by s) o k i v) t (station_moved calls n s (filled_move o k i)) (filled_by o i v t)
  fills_value s k i v None is t = alike_same
  fills_value s k i v (Some d) is t = values_so s k i v d is d.line d.object (element_value d.first i) t

  singles : (s : ScopedStatement) (k v line : ℕ) (object : Object) (o : Option ScopedExpression) (t : Locals)
      → Alike (gets_single line object o v (declarators_trace calls (declarators_from (declared_by s) (suc k)))) t (station_moved calls n s (single_move object o k)) (single_one object o v t)
  singles s k v line object None t = alike_same
  singles s k v line (Local first len kind) (Some value) t = alike_loc line (set_local first (converted v (kind_of value) kind)) normal _ t
  singles s k v line (Handle first len) (Some value) t = alike_same
  singles s k v line (Cell first len kind) (Some value) t = alike_same
  singles s k v line (Mutex first len) (Some value) t = alike_same
  singles s k v line (Cond first len) (Some value) t = alike_same
  singles s k v line (Routine function) (Some value) t = alike_same
  singles s k v line (Known name) (Some value) t = alike_same

  initializes : (s : ScopedStatement) (k v : ℕ) (o : Option ScopedInitDeclarator) (t : Locals) → Alike (initialized_trace calls (declared_by s) o k v) t (station_moved calls n s (initialized_move o k)) (initialized_by o v t)
  initializes s k v None t = alike_same
  initializes s k v (Some d) t = singles s k v d.line d.object (single_value d.first) t

  -- ---- `if`

  tests : (s : ScopedStatement) (v : ℕ) (t : Locals) → Alike (tested_trace calls n s v) t (station_moved calls n s (tested_move s v)) t
  tests empty v t = alike_same
  tests (eval value) v t = alike_same
  tests (block parts) v t = alike_same
  tests (declare of) v t = alike_same
  tests (when line test one two) v t = alike_alike (alike_loc line stays (is_true v) _ t) (by two (is_true v))
    where
      by : (two : ScopedBranch) (b : Bool) → Alike (picks b (statement_trace calls n one) (branch_trace calls n two)) t (station_moved calls n (when line test one two) (test_move b (in_branch two))) t
      by two true = alike_ends (fronts_statement calls c n one) t
      by absent false = alike_same
      by (branch of) false = alike_ends (fronts_statement calls c n of) t
  tests (while line test body) v t = alike_same
  tests (do_while line body test) v t = alike_same
  tests (for line opens test change body) v t = alike_same
  tests (break line) v t = alike_same
  tests (continue line) v t = alike_same
  tests (return line value) v t = alike_same
  tests (label name of) v t = alike_same

  -- ---- loops

  module _ (s : ScopedStatement) where
    in_body : (l : Loop) → loop_of s ≡ l → (left : ℕ) (t : Locals)
        → Alike (with_statement (body_of l) λ x. statement_trace calls n x and_then λ flow. bodied_trace calls n l left flow) t (station_moved calls n s (enters_part (bodied left))) t
    in_body l is left t =
        subst (λ (x : Loop). Alike (with_statement (body_of l) λ y. statement_trace calls n y and_then λ flow. bodied_trace calls n l left flow) t (with_statement (body_of x) λ y. statement_trace calls n y and_then λ flow. bodied_trace calls n x left flow) t)
        (sym is) alike_same

    in_test : (l : Loop) → loop_of s ≡ l → (left : ℕ) (t : Locals)
        → Alike (with_value (test_of l) λ x. expression_trace calls x and_then λ w. turned_trace calls n l left w) t (station_moved calls n s (enters_value (turned left))) t
    in_test l is left t =
        subst (λ (x : Loop). Alike (with_value (test_of l) λ y. expression_trace calls y and_then λ w. turned_trace calls n l left w) t (with_value (test_of x) λ y. expression_trace calls y and_then λ w. turned_trace calls n x left w) t)
        (sym is) alike_same

    in_change : (l : Loop) → loop_of s ≡ l → (left : ℕ) (t : Locals)
        → Alike (with_value (change_of l) λ x. expression_trace calls x and_then λ w. changed_trace calls n l left) t (station_moved calls n s (enters_value (changed left))) t
    in_change l is left t =
        subst (λ (x : Loop). Alike (with_value (change_of l) λ y. expression_trace calls y and_then λ w. changed_trace calls n l left) t (with_value (change_of x) λ y. expression_trace calls y and_then λ w. changed_trace calls n x left) t)
        (sym is) alike_same

    at_turning : (l : Loop) → loop_of s ≡ l → (left : ℕ) (t : Locals) → Alike (turning_trace calls n l left) t (station_moved calls n s (moves_on (turning left))) t
    at_turning l is left t = subst (λ (x : Loop). Alike (turning_trace calls n l left) t (turning_trace calls n x left) t) (sym is) alike_same

    at_doing : (l : Loop) → loop_of s ≡ l → (left : ℕ) (t : Locals) → Alike (doing_trace calls n l left) t (station_moved calls n s (moves_on (doing left))) t
    at_doing l is left t = subst (λ (x : Loop). Alike (doing_trace calls n l left) t (doing_trace calls n x left) t) (sym is) alike_same

    turn_begins : (line : ℕ) (test change : Option ScopedExpression) (body : ScopedStatement) → loop_of s ≡ before_turns line test change body → (left : ℕ) (b : Bool) (t : Locals)
        → Alike (next_turn calls n line test change body left b) t (station_moved calls n s (turn_move b left)) t
    turn_begins line test change body is zero true t = alike_same
    turn_begins line test change body is zero false t = alike_same
    turn_begins line test change body is (suc left) true t = in_body (before_turns line test change body) is left t
    turn_begins line test change body is (suc left) false t = alike_same

    turnings : (l : Loop) → loop_of s ≡ l → (left : ℕ) (t : Locals) → Alike (turning_trace calls n l left) t (station_moved calls n s (turning_move l left)) t
    turnings no_loop is left t = alike_same
    turnings (before_turns line None change body) is zero t = alike_same
    turnings (before_turns line None change body) is (suc left) t = in_body (before_turns line None change body) is left t
    turnings (before_turns line (Some test) change body) is zero t = in_test (before_turns line (Some test) change body) is 0 t
    turnings (before_turns line (Some test) change body) is (suc left) t = in_test (before_turns line (Some test) change body) is (suc left) t
    turnings (behind_turns line test body) is left t = alike_same

    turneds : (l : Loop) → loop_of s ≡ l → (left v : ℕ) (t : Locals) → Alike (turned_trace calls n l left v) t (station_moved calls n s (turned_move l left v)) t
    turneds no_loop is left v t = alike_same
    turneds (before_turns line None change body) is left v t = alike_same
    turneds (before_turns line (Some test) change body) is left v t = alike_alike (alike_loc line stays (is_true v) _ t) (turn_begins line (Some test) change body is left (is_true v) t)
    turneds (behind_turns line test body) is left v t = alike_alike (alike_loc line stays (is_true v) _ t) (by (is_true v))
      where
        by : (b : Bool) → Alike (picks b (do_turns_left calls n line test body left) (ends_with normal)) t (station_moved calls n s (do_again b left)) t
        by true = at_doing (behind_turns line test body) is left t
        by false = alike_same

    steps : (line : ℕ) (test change : Option ScopedExpression) (body : ScopedStatement) → loop_of s ≡ before_turns line test change body → (left : ℕ) (t : Locals)
        → Alike (model.change_trace calls change (turns_left calls n line test change body left)) t (station_moved calls n s (step_move change left)) t
    steps line test None body is left t = at_turning (before_turns line test None body) is left t
    steps line test (Some change) body is left t = in_change (before_turns line test (Some change) body) is left t

    bodieds : (l : Loop) → loop_of s ≡ l → (left : ℕ) (flow : Flow) (t : Locals) → Alike (bodied_trace calls n l left flow) t (station_moved calls n s (bodied_move l left flow)) t
    bodieds no_loop is left flow t = alike_same
    bodieds (before_turns line test change body) is left normal t = steps line test change body is left t
    bodieds (before_turns line test change body) is left continues t = steps line test change body is left t
    bodieds (before_turns line test change body) is left breaks t = alike_same
    bodieds (before_turns line test change body) is left (returns kind value) t = alike_same
    bodieds (behind_turns line test body) is left normal t = in_test (behind_turns line test body) is left t
    bodieds (behind_turns line test body) is left continues t = in_test (behind_turns line test body) is left t
    bodieds (behind_turns line test body) is left breaks t = alike_same
    bodieds (behind_turns line test body) is left (returns kind value) t = alike_same

    changeds : (l : Loop) → loop_of s ≡ l → (left : ℕ) (t : Locals) → Alike (changed_trace calls n l left) t (station_moved calls n s (changed_move l left)) t
    changeds no_loop is left t = alike_same
    changeds (before_turns line test change body) is left t = at_turning (before_turns line test change body) is left t
    changeds (behind_turns line test body) is left t = alike_same

    doings : (l : Loop) → loop_of s ≡ l → (left : ℕ) (t : Locals) → Alike (doing_trace calls n l left) t (station_moved calls n s (doing_move l left)) t
    doings no_loop is left t = alike_same
    doings (before_turns line test change body) is left t = alike_same
    doings (behind_turns line test body) is zero t = alike_same
    doings (behind_turns line test body) is (suc left) t = in_body (behind_turns line test body) is left t

  gives_back : (s : ScopedStatement) (o : Option ScopedExpression) (v : ℕ) (t : Locals) → Alike (returned_trace o v) t (station_moved calls n s (return_move o v)) t
  gives_back s None v t = alike_same
  gives_back s (Some value) v t = alike_same

  -- what is left at a station is what the statement's next move leads to, Loc left out
  pub stations_so : (s : ScopedStatement) (station : Station) (v : ℕ) (flow : Flow) (t : Locals)
      → Alike (station_trace calls n s station v flow) t (station_moved calls n s (station_move n s station v flow)) (station_leaves s station v t)
  stations_so s start v flow t = begins s t
  stations_so s (led own) v flow t = alike_same
  stations_so s evaluated v flow t = alike_same
  stations_so s (listing k) v flow t = lists s k (statement_at (parts_of s) k) refl t
  stations_so s (at.listed k) v flow t = lists_behind s k (statement_at (parts_of s) k) flow t
  stations_so s (declaring k) v flow t = declares s k (declarator_at (declared_by s) k) refl t
  stations_so s (filling k i) v flow t = fills s k i (declarator_at (declared_by s) k) refl t
  stations_so s (arbitrary k i) v flow t = arbitraries s k i v (declarator_at (declared_by s) k) refl t
  stations_so s (filled k i) v flow t = fills_value s k i v (declarator_at (declared_by s) k) refl t
  stations_so s (initialized k) v flow t = initializes s k v (declarator_at (declared_by s) k) t
  stations_so s tested v flow t = tests s v t
  stations_so s taken v flow t = alike_same
  stations_so s other v flow t = alike_same
  stations_so s opened v flow t = follows s flow (turning n) t
  stations_so s (turning left) v flow t = turnings s (loop_of s) refl left t
  stations_so s (turned left) v flow t = turneds s (loop_of s) refl left v t
  stations_so s (bodied left) v flow t = bodieds s (loop_of s) refl left flow t
  stations_so s (changed left) v flow t = changeds s (loop_of s) refl left t
  stations_so s (doing left) v flow t = doings s (loop_of s) refl left t
  stations_so s returned v flow t = gives_back s (value_of s) v t
  stations_so s labelled v flow t = alike_same
