-- Calls to any depth, and whole threads.
use Rattle.std.proofs.Common.{◌≡◌, ℕ, zero, suc, ◌+◌, ◌<◌, ◌≤◌, Bool, true, false, List, [], ◌∷◌, ◌++◌, Option, Some, None, length, refl, sym, ap, ◌∙◌, subst, arith, le_refl, zero-add}
use Rattle.std.proofs.lemmas.List.{get_or_past}
use Rattle.std.proofs.lemmas.Bool.{false≢true}
use Rattle.std.specs.Prelude.{⊤, ◌↔◌}
use Rattle.lz_base.specs.declared.word.IntType.{IntType}
use Rattle.lz_tree.specs.ScopedTrees.{ScopedProgram}
use Rattle.lz_model.specs.Actions.{Act, is_loc, Start, started_by}
use Rattle.lz_model.specs.Behaviours.{Behaviour}
use Rattle.lz_model.specs.CodeTraces.{Locals, frame_of, Flow, normal, breaks, continues, returns, statement_trace}
use Rattle.lz_model.specs.Programs.{function_at, value_of, calls_within, begun, end_of, EndsThread, is_cut, is_done, is_left, numbered_after, CreatesFrom, IsThreadTrace}
use Rattle.lz_model.specs.WithoutLoc.{left_out, without_loc, IsSeen}
use Rattle.lz_model.proofs.LocLemmas.{loc_starts_none}
use Rattle.lz_agree.proofs.ActsLemmas.{but_loc_same, but_loc_joined}
use Rattle.lz_agree.proofs.CorrespondsLemmas.{corresponds_less, corresponds_gives_left, corresponds_gives_right}
use Rattle.lz_agree.specs.Correspondence.{SameButLoc, Simulated, Corresponds}
use Rattle.lz_bound.specs.BoundedTraces.{Leaving, through, caught, bounded_trace, IsBoundedTrace}
use Rattle.lz_bound.specs.BoundedTrees.{BoundedStatement}
use Rattle.lz_unwind.proofs.CallsLemmas.{CallsCorrespond}
use Rattle.lz_unwind.specs.Inlining.{callees, body_made, inline_within, thread_tree}
use Rattle.lz_unwind.proofs.GrowsLemmas.{statement_grows}
use Rattle.lz_unwind.proofs.StatementsLemmas.{statement_corresponds}
use Rattle.lz_unwind.proofs.TurnsLemmas.{Leading}
use Rattle.lz_tree.specs.Kinds.{kind_or}
use Rattle.lz_tree.specs.WellScoped.{IsWellScoped, MayCall, setting_of}
use Rattle.lz_unwind.specs.Relation.{Near, Inlined}

-- ---- calls to any depth

-- how a body leads on to the end of its function
came_through : (k : Option IntType) {o l m m' : ℕ} {t s' t' : Locals} {w : Leaving} (flow : Flow) → Leading false o l m m' t flow s' w t' →
    (caught 2 w ≡ through) × Inlined o l m m' t (value_of k flow) s' t'
came_through k normal h = (ap (caught 2) h.is.0, record { unused = h.is.1.near.unused; handles = h.is.1.near.handles; kept = record { same = h.is.1.same }; value = h.is.1.near.result })
came_through k breaks h = absurd (false≢true h.is.2)
came_through k continues h = absurd (false≢true h.is.2)
came_through k (returns kind v) h = (ap (caught 2) h.is.0, h.is.1)

module _ (p : ScopedProgram) (n : ℕ) (W : IsWellScoped p) where
  -- calls go at most so deep
  abbrev pub Callable : ℕ → ℕ → Type 0
  Callable zero f = ⊥
  Callable (suc d) f = (f < length p.functions) × ((g : ℕ) → MayCall p W.plan f g → Callable d g)

  pub callable : (d f : ℕ) → f < length p.functions → W.plan.depth f < d → Callable d f
  callable zero f there deep = omega arith
  callable (suc d) f there deep = (there, λ g may. callable d g may.there (let lower = may.deeper in omega (arith, lower, deep)))

  pub grows_within : (d : ℕ) (f o m : ℕ) → m ≤ (inline_within p n d f o m).next
  grows_within zero f o m = le_refl m
  grows_within (suc d) f o m = statement_grows (callees p (inline_within p n d)) o (grows_within d) (function_at p f).locals n (kind_or (function_at p f).gives) (function_at p f).body m

  -- a body, where calls correspond
  body_corresponds : (Back : Type 0) (d depth : ℕ) → CallsCorrespond Back (Callable d) (λ f. (function_at p f).locals) (calls_within p n depth) (inline_within p n d) →
      (f o m : ℕ) (s t : Locals) → Callable (suc d) f → Near o (function_at p f).locals m s t →
      Corresponds Back (statement_trace (calls_within p n depth) n (function_at p f).body) s (bounded_trace (body_made p n (inline_within p n d) f o m).tree) t
      (λ flow s' w t'. Leading false o (function_at p f).locals m (body_made p n (inline_within p n d) f o m).next t flow s' w t')
  body_corresponds Back d depth C f o m s t ok near =
      statement_corresponds (setting_of p W.plan f) (calls_within p n depth) (callees p (inline_within p n d)) o refl (grows_within d) (Callable d) C
      (λ g may. (ok.1 g may, (W.each g may.there).room)) n (kind_or (function_at p f).gives) (function_at p f).gives false (function_at p f).body m s t (W.each f ok.0).body near

  one_call : (Back : Type 0) (d depth : ℕ) → CallsCorrespond Back (Callable d) (λ f. (function_at p f).locals) (calls_within p n depth) (inline_within p n d) →
      (f o m : ℕ) (s t : Locals) → Callable (suc d) f → Near o (function_at p f).locals m s t →
      Corresponds Back ((calls_within p n (suc depth)).does f) s (bounded_trace (inline_within p n (suc d) f o m).tree) t
      (λ v s' w t'. (w ≡ through) × Inlined o (function_at p f).locals m (inline_within p n (suc d) f o m).next t v s' t')
  one_call Back d depth C f o m s t ok near =
      corresponds_gives_left (corresponds_gives_right (corresponds_less (body_corresponds Back d depth C f o m s t ok near)
      (λ flow s' w t' h. came_through (function_at p f).gives flow h)))

  -- Calls correspond. The way back holds where the source's calls may go as deep as the inlining.
  pub calls_correspond : (Back : Type 0) (d depth : ℕ) → (Back → d ≤ depth) → CallsCorrespond Back (Callable d) (λ f. (function_at p f).locals) (calls_within p n depth) (inline_within p n d)
  calls_correspond Back zero depth b = record { grows = grows_within zero; correspond = λ f o m s t ok near. absurd ok }
  calls_correspond Back (suc d) zero b = record {
    grows = grows_within (suc d);
    correspond = λ f o m s t ok near. let deep = one_call ⊥ d d (calls_correspond ⊥ d d (λ e. absurd e)) f o m s t ok near in record {
      there = record { cuts = λ acts e. ([], but_loc_same e.is, deep.opens); leaves = λ acts w e. absurd e.is; ends = λ acts after value e. absurd e.is };
      back = λ k. (let e : suc d ≤ zero = b k in let bad : ⊥ = omega arith in absurd bad);
      opens = deep.opens;
      lasts = λ acts after value e. absurd e.is;
    };
  }
  calls_correspond Back (suc d) (suc depth) b = record {
    grows = grows_within (suc d);
    correspond = one_call Back d depth (calls_correspond Back d depth (λ k. (let e : suc d ≤ suc depth = b k in omega arith)));
  }

-- ---- whole threads

some_none : (start : Start) → ◌≡◌ {A = Option Start} (Some start) None → ⊥
some_none start e = absurd cc

-- creates are numbered the same, Loc left out
creates_by : (o : Option Start) (b : Bool) (a : Act) (acts : List Act) (next : ℕ) → is_loc a.action ≡ b → (b ≡ true → o ≡ None) → started_by a.action ≡ o →
    ((next : ℕ) → CreatesFrom acts next ↔ CreatesFrom (without_loc acts) next) → numbered_after o next (CreatesFrom acts) ↔ CreatesFrom (left_out b a (without_loc acts)) next
creates_by None true a acts next e k h ih = ih next
creates_by (Some start) true a acts next e k h ih = absurd (some_none start (k refl))
creates_by None false a acts next e k h ih = rw h (ih next)
creates_by (Some start) false a acts next e k h ih = rw h ((λ x. (x.0, (ih (suc next)).0 x.1)), (λ x. (x.0, (ih (suc next)).1 x.1)))

pub creates_without : (acts : List Act) (next : ℕ) → CreatesFrom acts next ↔ CreatesFrom (without_loc acts) next
creates_without [] next = ((λ x. x), (λ x. x))
creates_without (a ∷ acts) next = creates_by (started_by a.action) (is_loc a.action) a acts next refl (λ e. loc_starts_none a.action e) refl (creates_without acts)

pub creates_alike : (acts like : List Act) (next : ℕ) → SameButLoc acts like → CreatesFrom acts next → CreatesFrom like next
creates_alike acts like next e h = (creates_without like next).1 (subst (λ (xs : List Act). CreatesFrom xs next) e.same ((creates_without acts next).0 h))

pub thread_simulated : {S T A B : Type 0} {P : Behaviour S A} {s : S} {Q : Behaviour T B} {t : T} {Post : A → S → B → T → Type 0} (whole : Bool) (acts : List Act) →
    Simulated P s Q t Post → EndsThread P s whole acts → (like : List Act) × SameButLoc acts like × EndsThread Q t whole like
thread_simulated whole acts f (is_cut c) = let r = f.cuts acts c in (r.0, r.1, is_cut r.2)
thread_simulated whole acts f (is_done front after value h e) = let r = f.ends front after value h in
    (r.0 ++ end_of whole ∷ [], but_loc_joined e r.3 (but_loc_same refl), is_done r.0 r.1 r.2 r.4 refl)
thread_simulated whole acts f (is_left front w h e) = let r = f.leaves front w h in
    (r.0 ++ end_of w ∷ [], but_loc_joined e r.1 (but_loc_same refl), is_left r.0 w r.2 refl)

pub start_near : (size : ℕ) (arguments : List ℕ) → length arguments ≤ size → Near 0 size (suc size) (begun arguments) (begun arguments)
start_near size arguments h = record {
  here = λ i b. ap (frame_of arguments) (zero-add i);
  result = get_or_past arguments (0 + size) 0 (omega arith);
  unused = λ k b. get_or_past arguments k 0 (omega arith);
  handles = refl;
  room = omega arith;
}

-- each thread's traces and those of its tree are the same sets, Loc left out
module _ (p : ScopedProgram) (n function : ℕ) (tree : BoundedStatement) (arguments : List ℕ) (whole : Bool) (deep : ℕ)
    (Post : ℕ → Locals → Leaving → Locals → Type 0)
    (there : (depth : ℕ) → Simulated ((calls_within p n depth).does function) (begun arguments) (bounded_trace tree) (begun arguments) Post)
    (back : Simulated (bounded_trace tree) (begun arguments) ((calls_within p n deep).does function) (begun arguments) (λ w t' v s'. Post v s' w t')) where
  pub same_traces : (seen : List Act) → IsSeen (IsThreadTrace p n function arguments whole) seen ↔ IsSeen (IsBoundedTrace tree arguments whole) seen
  same_traces seen = (to, from)
    where
      to : IsSeen (IsThreadTrace p n function arguments whole) seen → IsSeen (IsBoundedTrace tree arguments whole) seen
      to h = let r = thread_simulated whole h.full (there h.does.depth) h.does.does in
          record { full = r.0; does = record { does = r.2; numbered = creates_alike h.full r.0 1 r.1 h.does.numbered }; seen = sym r.1.same ∙ h.seen }

      from : IsSeen (IsBoundedTrace tree arguments whole) seen → IsSeen (IsThreadTrace p n function arguments whole) seen
      from h = let r = thread_simulated whole h.full back h.does.does in
          record { full = r.0; does = record { depth = deep; does = r.2; numbered = creates_alike h.full r.0 1 r.1 h.does.numbered }; seen = sym r.1.same ∙ h.seen }

-- Each thread's traces under n and those of its tree are the same sets, Loc left out.
pub thread_traces : (p : ScopedProgram) (n : ℕ) (W : IsWellScoped p) (f : ℕ) → f < length p.functions → (arguments : List ℕ) → length arguments ≤ (function_at p f).locals → (whole : Bool) (d : ℕ) → W.plan.depth f < d →
    (seen : List Act) → IsSeen (IsThreadTrace p n f arguments whole) seen ↔ IsSeen (IsBoundedTrace (thread_tree p n d f) arguments whole) seen
thread_traces p n W f there arguments few whole d deep =
    let near = start_near (function_at p f).locals arguments few in
    let ok = callable p n W d f there deep in
    same_traces p n f (thread_tree p n d f) arguments whole d (λ v s' w t'. (w ≡ through) × Inlined 0 (function_at p f).locals (suc (function_at p f).locals) (inline_within p n d f 0 (suc (function_at p f).locals)).next (begun arguments) v s' t')
    (λ depth. ((calls_correspond p n W ⊥ d depth (λ e. absurd e)).correspond f 0 (suc (function_at p f).locals) (begun arguments) (begun arguments) ok near).there)
    (((calls_correspond p n W ⊤ d d (λ _. le_refl d)).correspond f 0 (suc (function_at p f).locals) (begun arguments) (begun arguments) ok near).back tt)
