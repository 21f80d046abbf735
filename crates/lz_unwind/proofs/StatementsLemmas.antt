-- Statements, calls in them inlined and loops unwound: both sides correspond.
use Rattle.std.proofs.Common.{◌≡◌, ℕ, zero, suc, ◌+◌, ◌<◌, ◌≤◌, inl, inr, Bool, true, false, not, ◌||◌, ◌&&◌, List, [], ◌∷◌, length, Option, Some, None, refl, sym, ap, ◌∙◌, subst, arith}
use Rattle.std.proofs.lemmas.Bool.{true≢false, false≢true}
use Rattle.lz_base.specs.Words.{is_true}
use Rattle.lz_base.specs.declared.word.BreakKind.TheVariants as kinds
use Rattle.lz_base.specs.declared.word.IntType.{IntType}
use Rattle.lz_base.specs.declared.operator.Binary.{Binary}
use Rattle.lz_tree.specs.declared.scoped.Object.{Object}
use Rattle.lz_tree.specs.declared.scoped.Object.TheVariants.{Local, Cell, Mutex, Cond, Handle, Routine, Known}
use Rattle.lz_tree.specs.ScopedTrees.{ScopedExpression, constant, null, text, object, address, paren, unary, cast, binary, choose, assign, step, call, ScopedExpressions, none, and, ScopedInitializer, nothing, single, listed, ScopedInitDeclarator, ScopedStatement, empty, eval, block, declare, when, while, do_while, for, break, continue, return, label, ScopedBranch, absent, branch, ScopedStatements, nil, cons}
use Rattle.lz_tree.specs.WellFormed.{is_logical}
use Rattle.lz_tree.specs.WellScoped.{Setting, IsScoped, HasValue, AreValues, MayTest, MayScope, IsFirst, IsDeclared, AreDeclared, IsReturned, IsCode, IsBranch, AreCode}
use Rattle.lz_model.specs.Behaviours.{Behaviour, ends_with, ◌and_then◌, ◌gives◌, picks}
use Rattle.lz_model.specs.CodeTraces.{Locals, Calls, set_local, set_handle, kind_of, checks_divisor, right_operand, operated, is_division, checks, expression_trace, decides, arbitrary_trace, zeros_trace, no_threads_trace, listed_trace, integer_trace, object_trace, declarators_trace, Flow, normal, breaks, continues, returns, led_on, test_trace, change_trace, return_trace, statement_trace, branch_trace, statements_trace}
use Rattle.lz_agree.specs.Correspondence.{Corresponds, Quiet}
use Rattle.lz_agree.proofs.QuietLemmas.{quiet_value, quiet_loc, quiet_then}
use Rattle.lz_agree.proofs.CorrespondsLemmas.{corresponds_value, corresponds_act, corresponds_chooses, corresponds_less, corresponds_then, corresponds_same_then, corresponds_quiet_left, corresponds_quiet_right, corresponds_quiet_tail, corresponds_gives_left, corresponds_gives_right, corresponds_picks, corresponds_quiets}
use Rattle.lz_agree.proofs.SameLemmas.{then_assoc, corresponds_same_right}
use Rattle.lz_bound.specs.BoundedTrees as tree
use Rattle.lz_bound.specs.BoundedTrees.{BoundedStatement, evals}
use Rattle.lz_bound.specs.BoundedTraces.{Leaving, through, left, passes, stores, bounded_trace}
use Rattle.lz_unwind.specs.Relation.{Near, Inlined, Chain}
use Rattle.lz_unwind.specs.Moved.{shift, has_call}
use Rattle.lz_unwind.specs.Pieces.{Callees, local, temp, unless_call, out_unless}
use Rattle.lz_unwind.specs.Translation.{into, discarded, set_made, test_made, test_of, unless_made, step_made, cleared, listed_made, integer_made, object_made, declarators_made, is_silent, eval_made, return_made, statement_made, branch_made, statements_made}
use Rattle.lz_unwind.proofs.CallsLemmas.{put_same, put_other, quiet_gives, corresponds_seq, corresponds_seq_tail, quiet_temp, quiet_stored, near_more, CallsCorrespond}
use Rattle.lz_unwind.proofs.MovedLemmas.{after_plain, near_put, near_handle, shift_corresponds}
use Rattle.lz_unwind.proofs.PiecesLemmas.{Spilled, chain_start, chain_then, chain_steps, chain_more, into_chain, by_call}
use Rattle.lz_unwind.proofs.IntoLemmas.{dropped, to_spill, into_corresponds}
use Rattle.lz_unwind.proofs.TurnsLemmas.{turns_grow, inlined_then, inlined_more, Leading, through_passes, left_passes, loop_of, turns_correspond, do_turns_correspond}
use Rattle.lz_unwind.proofs.GrowsLemmas.{into_grows, unless_made_grows, step_grows, statement_grows, branch_grows, statements_grow}

-- ---- local values

-- a local of the function takes a value on both sides
chain_put : {o l m m' : ℕ} {t s1 t1 : Locals} (i x v : ℕ) → x ≡ o + i → i < l → Chain o l m m' t s1 t1 → Chain o l m m' t (set_local i v s1) (set_local x v t1)
chain_put {o} {l} {m} {m'} {t} {s1} {t1} i x v e b c = subst (λ (y : ℕ). Chain o l m m' t (set_local i v s1) (set_local y v t1)) (sym e) (record {
  near = near_put i v b c.near;
  same = λ k p q. put_other (o + i) v t1.frame k (λ z. elim q [ inl y ↦ omega arith | inr y ↦ omega arith ]) ∙ c.same k p q;
  grows = c.grows;
})

chain_handle : {o l m m' : ℕ} {t s1 t1 : Locals} (i v : ℕ) → Chain o l m m' t s1 t1 → Chain o l m m' t (set_handle i v s1) (set_handle i v t1)
chain_handle i v c = record { near = near_handle i v c.near; same = c.same; grows = c.grows }

-- a value was put into a local of the tree
record Written (o l m m' x : ℕ) (t : Locals) (v : ℕ) (s' t' : Locals) : Type 0 where
  before : Locals
  chain : Chain o l m m' t s' before
  after : t' ≡ set_local x v before

-- a function returns: its value is in its result
returned : {o l m m' v : ℕ} {t s' t' : Locals} → o + l < m → Written o l m m' (o + l) t v s' t' → Inlined o l m m' t v s' t'
returned {o} {l} {m} {m'} {v} {t} {s'} {t'} room w = subst (λ (z : Locals). Inlined o l m m' t v s' z) (sym w.after) (record {
  unused = λ k h. put_other (o + l) v w.before.frame k (λ e. omega (arith, room, w.chain.grows)) ∙ w.chain.near.unused k h;
  handles = w.chain.near.handles;
  kept = record { same = λ k p q. put_other (o + l) v w.before.frame k (λ e. elim q [ inl y ↦ omega arith | inr y ↦ omega arith ]) ∙ w.chain.same k p q };
  value = put_same (o + l) v w.before.frame;
})

returned_none : {o l m : ℕ} {s t : Locals} → Near o l m s t → Inlined o l m m t 0 s t
returned_none n = record { unused = n.unused; handles = n.handles; kept = record { same = λ k p q. refl }; value = n.result }

leads_then : {b : Bool} {o l m m' m'' : ℕ} {t s1 t1 s2 t2 : Locals} {u : Leaving} (flow : Flow) → Chain o l m m' t s1 t1 → Leading b o l m' m'' t1 flow s2 u t2 → Leading b o l m m'' t flow s2 u t2
leads_then normal c h = record { is = (h.is.0, chain_then c h.is.1) }
leads_then breaks c h = record { is = (h.is.0, chain_then c h.is.1, h.is.2) }
leads_then continues c h = record { is = (h.is.0, chain_then c h.is.1, h.is.2) }
leads_then (returns k v) c h = record { is = (h.is.0, inlined_then c h.is.1) }

leads_more : {b : Bool} {o l m m' m'' : ℕ} {t s1 t1 : Locals} {u : Leaving} (flow : Flow) → m' ≤ m'' → Leading b o l m m' t flow s1 u t1 → Leading b o l m m'' t flow s1 u t1
leads_more normal g h = record { is = (h.is.0, chain_more g h.is.1) }
leads_more breaks g h = record { is = (h.is.0, chain_more g h.is.1, h.is.2) }
leads_more continues g h = record { is = (h.is.0, chain_more g h.is.1, h.is.2) }
leads_more (returns k v) g h = record { is = (h.is.0, inlined_more g h.is.1) }

-- what follows a statement that led on so
led_then : {Back : Type 0} {a b : Bool} {o l m m' m'' : ℕ} {t s1 t1 : Locals} {u : Leaving} (flow : Flow) {rest : Behaviour Locals Flow} (R : Behaviour Locals Leaving) → (a ≡ true → b ≡ true) → m' ≤ m'' → Leading a o l m m' t flow s1 u t1 →
    ((s t : Locals) → Near o l m' s t → Corresponds Back rest s R t (λ flow s' u t'. Leading b o l m' m'' t flow s' u t')) →
    Corresponds Back (led_on flow rest) s1 (passes u R) t1 (λ flow s' u t'. Leading b o l m m'' t flow s' u t')
led_then normal R w g h again = through_passes R h.is.0 (corresponds_less (again _ _ h.is.1.near) (λ flow s' u t' x. leads_then flow h.is.1 x))
led_then breaks R w g h again = left_passes R h.is.0 (corresponds_value (record { is = (refl, chain_more g h.is.1, w h.is.2) }))
led_then continues R w g h again = left_passes R h.is.0 (corresponds_value (record { is = (refl, chain_more g h.is.1, w h.is.2) }))
led_then (returns k v) R w g h again = left_passes R h.is.0 (corresponds_value (record { is = (refl, inlined_more g h.is.1) }))

-- ---- expressions with no action

and_left : (a b : Bool) → (a && b) ≡ true → a ≡ true
and_left true b h = refl
and_left false b h = h

and_right : (a b : Bool) → (a && b) ≡ true → b ≡ true
and_right true b h = h
and_right false b h = absurd (false≢true h)

neither_left : (a b : Bool) → not (a || b) ≡ true → a ≡ false
neither_left false b h = refl
neither_left true b h = absurd (false≢true h)

neither_right : (a b : Bool) → not (a || b) ≡ true → b ≡ false
neither_right false false h = refl
neither_right false true h = absurd (false≢true h)
neither_right true b h = absurd (false≢true h)

both_false : (a b : Bool) → a ≡ false → b ≡ false → (a || b) ≡ false
both_false false b e f = f
both_false true b e f = absurd (true≢false e)

silent_calls_none : (e : ScopedExpression) → is_silent e ≡ true → has_call e ≡ false
silent_calls_none (constant line v form kind) h = refl
silent_calls_none (null line kind) h = refl
silent_calls_none (paren line e kind) h = silent_calls_none e h
silent_calls_none (unary line op e kind) h = silent_calls_none e h
silent_calls_none (cast line to e kind) h = silent_calls_none e h
silent_calls_none (binary line op a b kind) h =
    let k = and_right (not (is_logical op || is_division op)) (is_silent a && is_silent b) h in
    both_false (has_call a) (has_call b) (silent_calls_none a (and_left (is_silent a) (is_silent b) k)) (silent_calls_none b (and_right (is_silent a) (is_silent b) k))
silent_calls_none (text line kind) h = absurd (false≢true h)
silent_calls_none (object of kind) h = absurd (false≢true h)
silent_calls_none (address line of kind) h = absurd (false≢true h)
silent_calls_none (choose line a b c kind) h = absurd (false≢true h)
silent_calls_none (assign line op to e kind) h = absurd (false≢true h)
silent_calls_none (step line of going before kind) h = absurd (false≢true h)
silent_calls_none (call line callee args kind) h = absurd (false≢true h)

quiet_divisor : (line : ℕ) (op : Binary) (d : ℕ) {s : Locals} → is_division op ≡ false → Quiet (checks_divisor line op d) s zero s
quiet_divisor line op d {s} e = subst (λ (b : Bool). Quiet (picks b (checks line d kinds.DivZero) (ends_with zero)) s zero s) (sym e) quiet_value

-- its value, without an action
silent_quiet : (calls : Calls) (e : ScopedExpression) (s : Locals) → is_silent e ≡ true → (v : ℕ) × Quiet (expression_trace calls e) s v s
silent_quiet calls (constant line v form kind) s h = (v, quiet_value)
silent_quiet calls (null line kind) s h = (0, quiet_value)
silent_quiet calls (paren line e kind) s h = silent_quiet calls e s h
silent_quiet calls (unary line op e kind) s h = let q = silent_quiet calls e s h in (_, quiet_gives q.1)
silent_quiet calls (cast line to e kind) s h = let q = silent_quiet calls e s h in (_, quiet_gives q.1)
silent_quiet calls (binary line op a b kind) s h =
    let plain = and_left (not (is_logical op || is_division op)) (is_silent a && is_silent b) h in
    let k = and_right (not (is_logical op || is_division op)) (is_silent a && is_silent b) h in
    let p = silent_quiet calls a s (and_left (is_silent a) (is_silent b) k) in
    let q = silent_quiet calls b s (and_right (is_silent a) (is_silent b) k) in (
      operated op (kind_of a) (kind_of b) p.0 q.0,
      quiet_then p.1 (rw (after_plain line op (kind_of a) (kind_of b) (expression_trace calls b) p.0 (neither_left (is_logical op) (is_division op) plain))
          (quiet_then q.1 (quiet_gives (quiet_divisor line op (right_operand op (kind_of a) (kind_of b) q.0) (neither_right (is_logical op) (is_division op) plain))))),
    )
silent_quiet calls (text line kind) s h = absurd (false≢true h)
silent_quiet calls (object of kind) s h = absurd (false≢true h)
silent_quiet calls (address line of kind) s h = absurd (false≢true h)
silent_quiet calls (choose line a b c kind) s h = absurd (false≢true h)
silent_quiet calls (assign line op to e kind) s h = absurd (false≢true h)
silent_quiet calls (step line of going before kind) s h = absurd (false≢true h)
silent_quiet calls (call line callee args kind) s h = absurd (false≢true h)

-- ---- parts in a sequence of three

module _ {Back : Type 0} {S A C : Type 0} where
  corresponds_seq_then : {P : Behaviour S A} {s : S} {Q : Behaviour Locals Leaving} (R : Behaviour Locals Leaving) (next' : Leaving → Behaviour Locals Leaving) {t : Locals} {Mid : A → S → Locals → Type 0} {next : A → Behaviour S C} {Post : C → S → Leaving → Locals → Type 0} →
      Corresponds Back P s Q t (λ a s' u t'. (u ≡ through) × Mid a s' t') → ((a : A) (s' : S) (t' : Locals) → Mid a s' t' → Corresponds Back (next a) s' (R and_then next') t' Post) →
      Corresponds Back (P and_then next) s (Q and_then λ u. passes u R and_then next') t Post
  corresponds_seq_then R next' {next = next} {Post = Post} first rest =
      corresponds_then first (λ a s' u t' m. subst (λ z. Corresponds Back (next a) s' (passes z R and_then next') t' Post) (sym m.0) (rest a s' t' m.1))

-- ---- elements

module _ {Back : Type 0} {o l m m' : ℕ} {t : Locals} where
  fresh_corresponds : (line : ℕ) (kind : IntType) (i more x : ℕ) {s1 t1 : Locals} → x ≡ o + i → i + more ≤ l → Chain o l m m' t s1 t1 →
      Corresponds Back (arbitrary_trace line kind i more) s1 (arbitrary_trace 0 kind x more) t1 (λ flow s' other t'. (flow ≡ normal) × Chain o l m m' t s' t')
  fresh_corresponds line kind i zero x e b c = corresponds_value (refl, c)
  fresh_corresponds line kind i (suc more) x {s1} {t1} e b c =
      corresponds_same_then {Mid = λ v s' t'. Chain o l m m' t s' t'} (corresponds_chooses 0 (omega arith) (λ v h. corresponds_act (refl, c))) (λ v s2 t2 c2.
      corresponds_quiet_left quiet_loc (corresponds_quiet_right quiet_loc (fresh_corresponds line kind (suc i) more (suc x) (omega (arith, e)) (omega (arith, b)) (chain_put i x v e (omega (arith, b)) c2))))

  zeros_correspond : (line : ℕ) (i more x : ℕ) {s1 t1 : Locals} → x ≡ o + i → i + more ≤ l → Chain o l m m' t s1 t1 →
      Corresponds Back (zeros_trace line i more) s1 (zeros_trace 0 x more) t1 (λ flow s' other t'. (flow ≡ normal) × Chain o l m m' t s' t')
  zeros_correspond line i zero x e b c = corresponds_value (refl, c)
  zeros_correspond line i (suc more) x e b c =
      corresponds_quiet_left quiet_loc (corresponds_quiet_right quiet_loc (zeros_correspond line (suc i) more (suc x) (omega (arith, e)) (omega (arith, b)) (chain_put i x 0 e (omega (arith, b)) c)))

  no_threads_correspond : (line : ℕ) (i more : ℕ) {s1 t1 : Locals} → Chain o l m m' t s1 t1 →
      Corresponds Back (no_threads_trace line i more) s1 (no_threads_trace 0 i more) t1 (λ flow s' other t'. (flow ≡ normal) × Chain o l m m' t s' t')
  no_threads_correspond line i zero c = corresponds_value (refl, c)
  no_threads_correspond line i (suc more) c = corresponds_quiet_left quiet_loc (corresponds_quiet_right quiet_loc (no_threads_correspond line (suc i) more (chain_handle i 0 c)))

module _ {Back : Type 0} (w : Setting) (calls : Calls) (env : Callees) (o : ℕ) (untested : w.tested ≡ false)
    (inline_grows : (f i m : ℕ) → m ≤ (env.inline f i m).next)
    (ok : ℕ → Type 0) (C : CallsCorrespond Back ok env.size calls env.inline) (fine : (g : ℕ) → w.may_call g → ok g × (length (w.params g) ≤ env.size g)) where
  grows : (e : ScopedExpression) (x : ℕ) (k : IntType) (m : ℕ) → m ≤ (into env o e x k m).next
  grows e x k m = into_grows env o inline_grows e x k m

  spill : (e : ScopedExpression) (m : ℕ) {s t : Locals} → IsScoped w e → HasValue e → Near o w.locals m s t →
      Corresponds Back (expression_trace calls e) s (bounded_trace (into env o e m (kind_of e) (suc m)).tree) t (λ v s' u t'. (u ≡ through) × Spilled o w.locals m (into env o e m (kind_of e) (suc m)).next t v s' t')
  spill e m f h n = to_spill w calls env o untested grows e m h n.room (into_corresponds w calls env o untested grows ok C fine e m (kind_of e) (suc m) f (near_more (omega arith) n) n.room (omega arith))

  -- an expression whose value is not used
  discarded_corresponds : (e : ScopedExpression) (m : ℕ) {s t : Locals} → IsScoped w e → Near o w.locals m s t →
      Corresponds Back (expression_trace calls e) s (bounded_trace (discarded env o e m).tree) t (λ v s' u t'. (u ≡ through) × Chain o w.locals m (discarded env o e m).next t s' t')
  discarded_corresponds e m {s} {t} f n = by_call (has_call e) _ _ (λ m' v s' u t'. (u ≡ through) × Chain o w.locals m m' t s' t') (λ c. dropped w calls env o untested grows e m f n c)
      (λ c. corresponds_less (into_corresponds w calls env o untested grows ok C fine e m (kind_of e) (suc m) f (near_more (omega arith) n) n.room (omega arith)) (λ v s' u t' g. (g.0, into_chain (grows e m (kind_of e) (suc m)) g.1)))

  -- a value into a local of any number
  set_corresponds : (e : ScopedExpression) (x : ℕ) (k : IntType) (m : ℕ) {s t : Locals} → IsScoped w e → HasValue e → Near o w.locals m s t →
      Corresponds Back (expression_trace calls e) s (bounded_trace (set_made env o e x k m).tree) t (λ v s' u t'. (u ≡ through) × Written o w.locals m (set_made env o e x k m).next x t v s' t')
  set_corresponds e x k m {s} {t} f h n = by_call (has_call e) _ _ (λ m' v s' u t'. (u ≡ through) × Written o w.locals m m' x t v s' t')
      (λ c. corresponds_quiet_tail (shift_corresponds w o m calls e c f n) (λ v s' u t' g. (
        through,
        set_local x u t',
        quiet_stored (kind_of (shift o e)) x u k,
        (refl, record { before = t'; chain = chain_steps (chain_start n) g.1; after = ap (λ (z : ℕ). set_local x z t') g.0 }),
      )))
      (λ c. corresponds_seq_tail {Mid = λ v s' t'. Spilled o w.locals m (into env o e m (kind_of e) (suc m)).next t v s' t'} (spill e m f h n)
      (λ v s1 t1 g. (through, set_local x v t1, quiet_then (quiet_temp m v (kind_of e) g.value) (quiet_stored (kind_of e) x v k), (refl, record { before = t1; chain = g.chain; after = refl }))))

  -- a value, and what follows on both sides: on the tree's the value is stored
  set_then : (b : Bool) (e : ScopedExpression) (x : ℕ) (k : IntType) (m : ℕ) {s t : Locals} {next : ℕ → Behaviour Locals Flow} (Post : ℕ → Flow → Locals → Leaving → Locals → Type 0) → has_call e ≡ b → IsScoped w e → HasValue e → Near o w.locals m s t →
      ((m' v : ℕ) (s1 t1 : Locals) → Chain o w.locals m m' t s1 t1 → Corresponds Back (next v) s1 (stores k (Some (local x k)) v) t1 (Post m')) →
      Corresponds Back (expression_trace calls e and_then next) s (bounded_trace (unless_call b (record { tree = evals (shift o e) (Some (local x k)); next = m })
      (record { tree = tree.seq (into env o e m (kind_of e) (suc m)).tree (evals (temp m (kind_of e)) (Some (local x k))); next = (into env o e m (kind_of e) (suc m)).next })).tree) t
      (Post (unless_call b (record { tree = evals (shift o e) (Some (local x k)); next = m })
      (record { tree = tree.seq (into env o e m (kind_of e) (suc m)).tree (evals (temp m (kind_of e)) (Some (local x k))); next = (into env o e m (kind_of e) (suc m)).next })).next)
  set_then false e x k m Post c f h n rest = corresponds_same_then (shift_corresponds w o m calls e c f n) (λ v s1 t1 g. rest m v s1 t1 (chain_steps (chain_start n) g))
  set_then true e x k m Post c f h n rest = corresponds_seq (spill e m f h n) (λ v s1 t1 g. corresponds_quiet_right (quiet_temp m v (kind_of e) g.value) (rest (into env o e m (kind_of e) (suc m)).next v s1 t1 g.chain))

  -- ---- tests and steps

  test_corresponds : (b : Bool) (e : ScopedExpression) (m : ℕ) (line : ℕ) (A B : BoundedStatement) {s t : Locals} {next : Bool → Behaviour Locals Flow} {Post : Flow → Locals → Leaving → Locals → Type 0} → has_call e ≡ b → IsScoped w e → HasValue e → Near o w.locals m s t →
      ((yes_ : Bool) (s1 t1 : Locals) → Chain o w.locals m (unless_call b (record { tree = tree.nothing; next = m }) (into env o e m (kind_of e) (suc m))).next t s1 t1 → Corresponds Back (next yes_) s1 (picks yes_ (bounded_trace A) (bounded_trace B)) t1 Post) →
      Corresponds Back (decides line (expression_trace calls e) next) s
      (bounded_trace (tree.seq (unless_call b (record { tree = tree.nothing; next = m }) (into env o e m (kind_of e) (suc m))).tree (tree.when (test_of env o e b m) A B))) t Post
  test_corresponds false e m line A B c f h n rest = corresponds_quiet_right quiet_value (corresponds_same_then (shift_corresponds w o m calls e c f n) (λ v s1 t1 g.
      corresponds_quiet_left quiet_loc (corresponds_quiet_right quiet_loc (rest (is_true v) s1 t1 (chain_steps (chain_start n) g)))))
  test_corresponds true e m line A B c f h n rest = corresponds_seq (spill e m f h n) (λ v s1 t1 g.
      corresponds_quiet_left quiet_loc (corresponds_quiet_right (quiet_temp m v (kind_of e) g.value) (corresponds_quiet_right quiet_loc (rest (is_true v) s1 t1 g.chain))))

  -- out of the loop where the test fails
  unless_by : (go : Bool) (R : Behaviour Locals Leaving) (next : Bool → Behaviour Locals Flow) {s1 t1 : Locals} {Post : Flow → Locals → Leaving → Locals → Type 0} →
      Corresponds Back (next true) s1 R t1 Post → Corresponds Back (next false) s1 (ends_with (left 0)) t1 Post →
      Corresponds Back (next go) s1 (picks go (ends_with through) (ends_with (left 0)) and_then λ u. passes u R) t1 Post
  unless_by true R next holds fails = corresponds_quiet_right quiet_value holds
  unless_by false R next holds fails = corresponds_quiet_right quiet_value fails

  unless_corresponds : (b : Bool) (e : ScopedExpression) (m : ℕ) (line : ℕ) (rest : BoundedStatement) {s t : Locals} (next : Bool → Behaviour Locals Flow) (Post : Flow → Locals → Leaving → Locals → Type 0) → has_call e ≡ b → IsScoped w e → HasValue e → Near o w.locals m s t →
      ((s1 t1 : Locals) → Chain o w.locals m (unless_call b (record { tree = tree.nothing; next = m }) (into env o e m (kind_of e) (suc m))).next t s1 t1 → Corresponds Back (next true) s1 (bounded_trace rest) t1 Post) →
      ((s1 t1 : Locals) → Chain o w.locals m (unless_call b (record { tree = tree.nothing; next = m }) (into env o e m (kind_of e) (suc m))).next t s1 t1 → Corresponds Back (next false) s1 (ends_with (left 0)) t1 Post) →
      Corresponds Back (decides line (expression_trace calls e) next) s
      (bounded_trace (tree.seq (tree.seq (unless_call b (record { tree = tree.nothing; next = m }) (into env o e m (kind_of e) (suc m))).tree (out_unless (test_of env o e b m))) rest)) t Post
  unless_corresponds false e m line rest next Post c f h n holds fails =
      corresponds_same_right (then_assoc _ _ _) (corresponds_quiet_right quiet_value (corresponds_same_right (then_assoc _ _ _) (corresponds_same_then (shift_corresponds w o m calls e c f n) (λ v s1 t1 g.
      corresponds_quiet_left quiet_loc (corresponds_same_right (then_assoc _ _ _) (corresponds_quiet_right quiet_loc
      (unless_by (is_true v) (bounded_trace rest) next (holds s1 t1 (chain_steps (chain_start n) g)) (fails s1 t1 (chain_steps (chain_start n) g)))))))))
  unless_corresponds true e m line rest next Post c f h n holds fails =
      corresponds_same_right (then_assoc _ _ _) (corresponds_seq_then (bounded_trace (out_unless (temp m (kind_of e)))) (λ u. passes u (bounded_trace rest)) (spill e m f h n) (λ v s1 t1 g.
      corresponds_quiet_left quiet_loc (corresponds_same_right (then_assoc _ _ _) (corresponds_quiet_right (quiet_temp m v (kind_of e) g.value) (corresponds_same_right (then_assoc _ _ _) (corresponds_quiet_right quiet_loc
      (unless_by (is_true v) (bounded_trace rest) next (holds s1 t1 g.chain) (fails s1 t1 g.chain))))))))

  tests_correspond : (line : ℕ) (test : Option ScopedExpression) → MayTest w test → (m : ℕ) (s t : Locals) (next : Bool → Behaviour Locals Flow) (rest : BoundedStatement) (Post : Flow → Locals → Leaving → Locals → Type 0) → Near o w.locals m s t →
      ((s1 t1 : Locals) → Chain o w.locals m (unless_made env o test m).next t s1 t1 → Corresponds Back (next true) s1 (bounded_trace rest) t1 Post) →
      ((s1 t1 : Locals) → Chain o w.locals m (unless_made env o test m).next t s1 t1 → Corresponds Back (next false) s1 (ends_with (left 0)) t1 Post) →
      Corresponds Back (test_trace calls line test next) s (bounded_trace (tree.seq (unless_made env o test m).tree rest)) t Post
  tests_correspond line None f m s t next rest Post n holds fails = corresponds_quiet_right quiet_value (holds s t (chain_start n))
  tests_correspond line (Some e) f m s t next rest Post n holds fails = unless_corresponds (has_call e) e m line rest next Post refl f.0 f.1 n holds fails

  changes_correspond : (change : Option ScopedExpression) → MayScope w change → (m : ℕ) (s t : Locals) (next : Behaviour Locals Flow) (rest : BoundedStatement) (Post : Flow → Locals → Leaving → Locals → Type 0) → Near o w.locals m s t →
      ((s1 t1 : Locals) → Chain o w.locals m (step_made env o change m).next t s1 t1 → Corresponds Back next s1 (bounded_trace rest) t1 Post) →
      Corresponds Back (change_trace calls change next) s (bounded_trace (tree.seq (step_made env o change m).tree rest)) t Post
  changes_correspond None f m s t next rest Post n on = corresponds_quiet_right quiet_value (on s t (chain_start n))
  changes_correspond (Some e) f m s t next rest Post n on = corresponds_seq (discarded_corresponds e m f n) (λ v s1 t1 c. on s1 t1 c)

  -- ---- declarations

  cleared_corresponds : (line : ℕ) (kind : IntType) (i more m : ℕ) {s t : Locals} → i + more ≤ w.locals → Near o w.locals m s t →
      Corresponds Back (zeros_trace line i more) s (bounded_trace (cleared env o kind i more m).tree) t (λ flow s' u t'. (u ≡ through) × Chain o w.locals m (cleared env o kind i more m).next t s' t')
  cleared_corresponds line kind i zero m b n = corresponds_value (refl, chain_start n)
  cleared_corresponds line kind i (suc more) m b n = corresponds_gives_right (corresponds_less (zeros_correspond line i (suc more) (o + i) refl b (chain_start n)) (λ flow s' other t' h. (refl, h.1)))

  listed_corresponds : (line : ℕ) (kind : IntType) (es : ScopedExpressions) (i more m : ℕ) {s t : Locals} → AreValues w es → i + more ≤ w.locals → Near o w.locals m s t →
      Corresponds Back (listed_trace calls line kind es i more) s (bounded_trace (listed_made env o kind es i more m).tree) t (λ flow s' u t'. (u ≡ through) × Chain o w.locals m (listed_made env o kind es i more m).next t s' t')
  listed_corresponds line kind none i more m f b n = cleared_corresponds line kind i more m b n
  listed_corresponds line kind (and e rest) i zero m f b n = corresponds_value (refl, chain_start n)
  listed_corresponds line kind (and e rest) i (suc more) m {s} {t} f b n =
      let m' = (set_made env o e (o + i) kind m).next in
      corresponds_seq (set_corresponds e (o + i) kind m f.0 f.1 n) (λ v s1 t1 g.
      corresponds_quiet_left quiet_loc (by v s1 t1 g.before (chain_put i (o + i) v refl (omega (arith, b)) g.chain) g.after (λ s2 t2 near. listed_corresponds line kind rest (suc i) more m' f.2 (omega (arith, b)) near)))
    where
      by : (v : ℕ) (s1 t1 before : Locals) → Chain o w.locals m (set_made env o e (o + i) kind m).next t (set_local i v s1) (set_local (o + i) v before) → t1 ≡ set_local (o + i) v before →
          ((s t : Locals) → Near o w.locals (set_made env o e (o + i) kind m).next s t → Corresponds Back (listed_trace calls line kind rest (suc i) more) s (bounded_trace (listed_made env o kind rest (suc i) more (set_made env o e (o + i) kind m).next).tree) t
          (λ flow s' u t'. (u ≡ through) × Chain o w.locals (set_made env o e (o + i) kind m).next (listed_made env o kind rest (suc i) more (set_made env o e (o + i) kind m).next).next t s' t')) →
          Corresponds Back (listed_trace calls line kind rest (suc i) more) (set_local i v s1) (bounded_trace (listed_made env o kind rest (suc i) more (set_made env o e (o + i) kind m).next).tree) t1
          (λ flow s' u t'. (u ≡ through) × Chain o w.locals m (listed_made env o kind rest (suc i) more (set_made env o e (o + i) kind m).next).next t s' t')
      by v s1 t1 before c e_ again = subst (λ (z : Locals). Corresponds Back (listed_trace calls line kind rest (suc i) more) (set_local i v s1) (bounded_trace (listed_made env o kind rest (suc i) more (set_made env o e (o + i) kind m).next).tree) z
          (λ flow s' u t'. (u ≡ through) × Chain o w.locals m (listed_made env o kind rest (suc i) more (set_made env o e (o + i) kind m).next).next t s' t')) (sym e_)
          (corresponds_less (again (set_local i v s1) (set_local (o + i) v before) c.near) (λ flow s' u t' h. (h.0, chain_then c h.1)))

  integer_corresponds : (line first len : ℕ) (kind : IntType) (value : ScopedInitializer) (m : ℕ) {s t : Locals} → first + len ≤ w.locals → 1 ≤ len → IsFirst w len value → Near o w.locals m s t →
      Corresponds Back (integer_trace calls line first len kind value) s (bounded_trace (integer_made env o first len kind value m).tree) t (λ flow s' u t'. (u ≡ through) × Chain o w.locals m (integer_made env o first len kind value m).next t s' t')
  integer_corresponds line first len kind nothing m b one f n = corresponds_gives_right (corresponds_less (fresh_corresponds line kind first len (o + first) refl b (chain_start n)) (λ flow s' other t' h. (refl, h.1)))
  integer_corresponds line first len kind (single e) m {s} {t} b one f n =
      set_then (has_call e) e (o + first) kind m (λ m' flow s' u t'. (u ≡ through) × Chain o w.locals m m' t s' t') refl f.0 f.1 n (λ m' v s1 t1 c.
      corresponds_quiets quiet_loc (quiet_stored kind (o + first) v kind) (λ acts after y h. record { is = inr h.is.0 }) (refl, chain_put first (o + first) v refl (omega (arith, b, one)) c))
  integer_corresponds line first len kind (listed values) m b one f n = listed_corresponds line kind values first len m f.0 b n

  object_corresponds : (line : ℕ) (x : Object) (value : ScopedInitializer) (m : ℕ) {s t : Locals} → IsDeclared w x value → Near o w.locals m s t →
      Corresponds Back (object_trace calls line x value) s (bounded_trace (object_made env o x value m).tree) t (λ flow s' u t'. (u ≡ through) × Chain o w.locals m (object_made env o x value m).next t s' t')
  object_corresponds line (Local first len kind) value m f n = integer_corresponds line first len kind value m f.0.0.within f.0.0.length_.least f.1 n
  object_corresponds line (Handle first len) value m f n = corresponds_gives_right (corresponds_less (no_threads_correspond line first len (chain_start n)) (λ flow s' other t' h. (refl, h.1)))
  object_corresponds line (Cell first len kind) value m f n = absurd f
  object_corresponds line (Mutex first len) value m f n = absurd f
  object_corresponds line (Cond first len) value m f n = absurd f
  object_corresponds line (Routine function) value m f n = absurd f
  object_corresponds line (Known name) value m f n = absurd f

  declarators_correspond : (b : Bool) (ds : List ScopedInitDeclarator) (m : ℕ) {s t : Locals} → AreDeclared w ds → Near o w.locals m s t →
      Corresponds Back (declarators_trace calls ds) s (bounded_trace (declarators_made env o ds m).tree) t (λ flow s' u t'. Leading b o w.locals m (declarators_made env o ds m).next t flow s' u t')
  declarators_correspond b [] m f n = corresponds_value (record { is = (refl, chain_start n) })
  declarators_correspond b (d ∷ rest) m {s} {t} f n =
      corresponds_seq (object_corresponds d.line d.object d.first m f.0 n) (λ flow s1 t1 c.
      corresponds_less (declarators_correspond b rest (object_made env o d.object d.first m).next f.1 c.near) (λ flow s' u t' h. leads_then flow c h))

  -- ---- statements

  module _ (n : ℕ) (result : IntType) (gives_ : Option IntType) where
    eval_corresponds : (b a : Bool) (e : ScopedExpression) (m : ℕ) {s t : Locals} → is_silent e ≡ a → IsScoped w e → Near o w.locals m s t →
        Corresponds Back (expression_trace calls e gives λ _. normal) s (bounded_trace (eval_made env o w.locals n result e a m).tree) t (λ flow s' u t'. Leading b o w.locals m (eval_made env o w.locals n result e a m).next t flow s' u t')
    eval_corresponds b true e m {s} h f near =
        corresponds_quiets (quiet_gives (silent_quiet calls e s h).1) quiet_value
        (λ acts after v k. record { is = (shift_corresponds {Back = Back} w o m calls e (silent_calls_none e h) f near).lasts acts after k.is.0 k.is.1 }) (record { is = (refl, chain_start near) })
    eval_corresponds b false e m h f near = corresponds_gives_left (corresponds_less (discarded_corresponds e m f near) (λ v s' u t' g. record { is = g }))

    return_corresponds : (b : Bool) (value : Option ScopedExpression) (m : ℕ) {s t : Locals} → IsReturned w gives_ value → Near o w.locals m s t →
        Corresponds Back (return_trace calls value) s (bounded_trace (return_made env o w.locals n result value m).tree) t (λ flow s' u t'. Leading b o w.locals m (return_made env o w.locals n result value m).next t flow s' u t')
    return_corresponds b None m f near = corresponds_value (record { is = (refl, returned_none near) })
    return_corresponds b (Some e) m f near = let g = value_returned gives_ e f in
        corresponds_gives_left (corresponds_seq_tail {Mid = λ v s' t'. Written o w.locals m (set_made env o e (o + w.locals) result m).next (o + w.locals) _ v s' t'} (set_corresponds e (o + w.locals) result m g.0 g.1 near)
        (λ v s1 t1 h. (left 2, t1, quiet_value, record { is = (refl, returned near.room h) })))
      where
        value_returned : (k : Option IntType) (e : ScopedExpression) → IsReturned w k (Some e) → IsScoped w e × HasValue e
        value_returned None e f = absurd f
        value_returned (Some k) e f = f

    mutual
      pub statement_corresponds : (b : Bool) (st : ScopedStatement) (m : ℕ) (s t : Locals) → IsCode w gives_ b st → Near o w.locals m s t →
          Corresponds Back (statement_trace calls n st) s (bounded_trace (statement_made env o w.locals n result st m).tree) t (λ flow s' u t'. Leading b o w.locals m (statement_made env o w.locals n result st m).next t flow s' u t')
      statement_corresponds b empty m s t f near = corresponds_value (record { is = (refl, chain_start near) })
      statement_corresponds b (eval e) m s t f near = eval_corresponds b (is_silent e) e m refl f near
      statement_corresponds b (block parts) m s t f near = statements_correspond b parts m s t f near
      statement_corresponds b (declare of) m s t f near = declarators_correspond b of.declarators m f near
      statement_corresponds b (when line test first second) m s t f near =
          let m1 = (test_made env o test m).next in let m2 = (statement_made env o w.locals n result first m1).next in
          test_corresponds (has_call test) test m line (statement_made env o w.locals n result first m1).tree (branch_made env o w.locals n result second m2).tree refl f.0 f.1 near (λ go s1 t1 c.
          corresponds_picks go
          (λ _. corresponds_less (statement_corresponds b first m1 s1 t1 f.2 c.near) (λ flow s' u t' h. leads_more flow (branch_grows env o inline_grows w.locals n result second m2) (leads_then flow c h)))
          (λ _. corresponds_less (branch_corresponds b second m2 s1 t1 f.3 (near_more (statement_grows env o inline_grows w.locals n result first m1) c.near))
          (λ flow s' u t' h. leads_then flow (chain_more (statement_grows env o inline_grows w.locals n result first m1) c) h)))
      statement_corresponds b (while line test body) m s t f near =
          corresponds_gives_right (corresponds_less (turns_correspond o w.locals (test_trace calls line (Some test)) (statement_trace calls n body) (change_trace calls None)
          (unless_made env o (Some test)) (λ k. statement_made env o w.locals n result body k) (step_made env o None)
          (unless_made_grows env o inline_grows (Some test)) (λ k. statement_grows env o inline_grows w.locals n result body k) (step_grows env o inline_grows None)
          (tests_correspond line (Some test) (f.0, f.1)) (changes_correspond None tt) (λ k s1 t1 h. statement_corresponds true body k s1 t1 f.2 h) n m s t near)
          (λ flow s' u t' g. loop_of u flow g))
      statement_corresponds b (do_while line body test) m s t f near =
          corresponds_gives_right (corresponds_less (do_turns_correspond o w.locals (test_trace calls line (Some test)) (statement_trace calls n body) (change_trace calls None)
          (unless_made env o (Some test)) (λ k. statement_made env o w.locals n result body k) (step_made env o None)
          (unless_made_grows env o inline_grows (Some test)) (λ k. statement_grows env o inline_grows w.locals n result body k) (step_grows env o inline_grows None)
          (tests_correspond line (Some test) (f.1, f.2)) (changes_correspond None tt) (λ k s1 t1 h. statement_corresponds true body k s1 t1 f.0 h) n m s t near)
          (λ flow s' u t' g. loop_of u flow g))
      statement_corresponds b (for line first test change body) m s t f near =
          let m1 = (statement_made env o w.locals n result first m).next in
          corresponds_then (statement_corresponds false first m s t f.0 near) (λ flow s1 u t1 h.
          led_then flow _ (λ e. absurd (false≢true e)) (turns_grow (unless_made env o test) (λ k. statement_made env o w.locals n result body k) (step_made env o change)
          (unless_made_grows env o inline_grows test) (λ k. statement_grows env o inline_grows w.locals n result body k) (step_grows env o inline_grows change) n m1) h (λ s2 t2 near2.
          corresponds_gives_right (corresponds_less (turns_correspond o w.locals (test_trace calls line test) (statement_trace calls n body) (change_trace calls change)
          (unless_made env o test) (λ k. statement_made env o w.locals n result body k) (step_made env o change)
          (unless_made_grows env o inline_grows test) (λ k. statement_grows env o inline_grows w.locals n result body k) (step_grows env o inline_grows change)
          (tests_correspond line test f.1) (changes_correspond change f.2) (λ k s3 t3 h3. statement_corresponds true body k s3 t3 f.3 h3) n m1 s2 t2 near2)
          (λ flow s' u t' g. loop_of u flow g))))
      statement_corresponds b (break line) m s t f near = corresponds_value (record { is = (refl, chain_start near, f) })
      statement_corresponds b (continue line) m s t f near = corresponds_value (record { is = (refl, chain_start near, f) })
      statement_corresponds b (return line value) m s t f near = return_corresponds b value m f near
      statement_corresponds b (label name of) m s t f near = statement_corresponds b of m s t f near

      branch_corresponds : (b : Bool) (br : ScopedBranch) (m : ℕ) (s t : Locals) → IsBranch w gives_ b br → Near o w.locals m s t →
          Corresponds Back (branch_trace calls n br) s (bounded_trace (branch_made env o w.locals n result br m).tree) t (λ flow s' u t'. Leading b o w.locals m (branch_made env o w.locals n result br m).next t flow s' u t')
      branch_corresponds b absent m s t f near = corresponds_value (record { is = (refl, chain_start near) })
      branch_corresponds b (branch of) m s t f near = statement_corresponds b of m s t f near

      statements_correspond : (b : Bool) (ss : ScopedStatements) (m : ℕ) (s t : Locals) → AreCode w gives_ b ss → Near o w.locals m s t →
          Corresponds Back (statements_trace calls n ss) s (bounded_trace (statements_made env o w.locals n result ss m).tree) t (λ flow s' u t'. Leading b o w.locals m (statements_made env o w.locals n result ss m).next t flow s' u t')
      statements_correspond b nil m s t f near = corresponds_value (record { is = (refl, chain_start near) })
      statements_correspond b (cons first rest) m s t f near =
          let m1 = (statement_made env o w.locals n result first m).next in
          corresponds_then (statement_corresponds b first m s t f.0 near) (λ flow s1 u t1 h.
          led_then flow _ (λ e. e) (statements_grow env o inline_grows w.locals n result rest m1) h (λ s2 t2 near2. statements_correspond b rest m1 s2 t2 f.1 near2))
