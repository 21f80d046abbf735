-- A thread whose code is a tree may stop at any time.
use Rattle.std.proofs.Common.{◌≡◌, ℕ, zero, suc, Bool, List, [], ◌∷◌, ◌++◌, Option, Some, None, refl}
use Rattle.lz_base.specs.declared.word.BreakKind.TheVariants as kinds
use Rattle.lz_base.specs.declared.word.IntType.{IntType}
use Rattle.lz_base.specs.Words.{truth, converted}
use Rattle.std.specs.Prelude.{nat_lt}
use Rattle.lz_tree.specs.declared.scoped.Object.{Object}
use Rattle.lz_tree.specs.declared.scoped.Object.TheVariants.{Local, Cell, Mutex, Cond, Handle, Routine, Known}
use Rattle.lz_model.specs.Behaviours.{Behaviour}
use Rattle.lz_model.specs.CodeTraces.{Locals, no_calls, kind_of, kind_of_object, write_at, arbitrary_trace, zeros_trace, no_threads_trace}
use Rattle.lz_model.proofs.RunFrontsLemmas.{IsOpen}
use Rattle.std.proofs.Common.{inl, inr, sym, ◌∙◌, ap, subst}
use Rattle.std.proofs.lemmas.List.{append-nil}
use Rattle.lz_model.specs.Actions.{Act, started_by}
use Rattle.lz_model.specs.Behaviours.{Outcome, done, exits, cut}
use Rattle.lz_model.specs.Programs.{end_of, EndsThread, is_cut, is_done, is_left, CreatesFrom}
use Rattle.lz_model.proofs.FrontsLemmas.{splits}
use Rattle.lz_model.proofs.ThreadFrontsLemmas.{numbered_front}
use Rattle.lz_model.proofs.FrontsLemmas.{Fronts, fronts_then, fronts_gives, fronts_value, fronts_halts, fronts_leaves, fronts_updates, fronts_picks, fronts_chooses, fronts_checks, FrontCalls, fronts_expression}
use Rattle.lz_tree.specs.ScopedTrees.{ScopedProgram}
use Rattle.lz_bound.specs.BoundedTrees.{BoundedStatement, evals, fresh, clear, nothing, seq, when, frame, leave, exit, stuck, inside, BoundedProgram, SlottedProgram}
use Rattle.lz_bound.specs.BoundedTraces.{Leaving, through, left, passes, stores, freshens, clears, bounded_trace, IsBoundedTrace}
use Rattle.lz_bound.specs.SlottedPrograms.{bounded_process, slotted_process}

no : FrontCalls no_calls
no = record { fronts = λ function. fronts_halts }

fronts_write : (line : ℕ) (x : Object) (i v : ℕ) → Fronts (write_at line x i v)
fronts_write line (Local first len kind) i v = fronts_updates
fronts_write line (Cell first len kind) i v = fronts_updates
fronts_write line (Handle first len) i v = fronts_halts
fronts_write line (Mutex first len) i v = fronts_halts
fronts_write line (Cond first len) i v = fronts_halts
fronts_write line (Routine f) i v = fronts_halts
fronts_write line (Known n) i v = fronts_halts

fronts_stores : (kind : IntType) (to : Option Object) (v : ℕ) → Fronts (stores kind to v)
fronts_stores kind None v = fronts_value
fronts_stores kind (Some x) v = fronts_gives (fronts_write 0 x 0 (converted v kind (kind_of_object x)))

fronts_arbitrary : (line : ℕ) (kind : IntType) (i n : ℕ) → Fronts (arbitrary_trace line kind i n)
fronts_arbitrary line kind i zero = fronts_value
fronts_arbitrary line kind i (suc n) = fronts_then (fronts_chooses (λ v. fronts_updates)) (λ v. fronts_then fronts_updates (λ _. fronts_arbitrary line kind (suc i) n))

fronts_zeros : (line i n : ℕ) → Fronts (zeros_trace line i n)
fronts_zeros line i zero = fronts_value
fronts_zeros line i (suc n) = fronts_then fronts_updates (λ _. fronts_zeros line (suc i) n)

fronts_no_threads : (line i n : ℕ) → Fronts (no_threads_trace line i n)
fronts_no_threads line i zero = fronts_value
fronts_no_threads line i (suc n) = fronts_then fronts_updates (λ _. fronts_no_threads line (suc i) n)

fronts_freshens : (x : Object) → Fronts (freshens x)
fronts_freshens (Local first len kind) = fronts_gives (fronts_arbitrary 0 kind first len)
fronts_freshens (Cell first len kind) = fronts_halts
fronts_freshens (Mutex first len) = fronts_halts
fronts_freshens (Cond first len) = fronts_halts
fronts_freshens (Handle first len) = fronts_halts
fronts_freshens (Routine f) = fronts_halts
fronts_freshens (Known n) = fronts_halts

fronts_clears : (x : Object) → Fronts (clears x)
fronts_clears (Local first len kind) = fronts_gives (fronts_zeros 0 first len)
fronts_clears (Cell first len kind) = fronts_halts
fronts_clears (Mutex first len) = fronts_halts
fronts_clears (Cond first len) = fronts_halts
fronts_clears (Handle first len) = fronts_gives (fronts_no_threads 0 first len)
fronts_clears (Routine f) = fronts_halts
fronts_clears (Known n) = fronts_halts

fronts_passes : (way : Leaving) {rest : Behaviour Locals Leaving} → Fronts rest → Fronts (passes way rest)
fronts_passes through r = r
fronts_passes (left k) r = fronts_value

pub fronts_bounded : (b : BoundedStatement) → Fronts (bounded_trace b)
fronts_bounded (evals value to) = fronts_then (fronts_expression no_calls no value) (λ v. fronts_stores (kind_of value) to v)
fronts_bounded (fresh x) = fronts_freshens x
fronts_bounded (clear x) = fronts_clears x
fronts_bounded nothing = fronts_value
fronts_bounded (seq a b) = fronts_then (fronts_bounded a) (λ way. fronts_passes way (fronts_bounded b))
fronts_bounded (when test a b) = fronts_then (fronts_expression no_calls no test) (λ v. fronts_then fronts_updates (λ yes. fronts_picks yes (fronts_bounded a) (fronts_bounded b)))
fronts_bounded (frame k body) = fronts_gives (fronts_bounded body)
fronts_bounded (leave k) = fronts_value
fronts_bounded (exit w) = fronts_leaves
fronts_bounded stuck = fronts_halts
fronts_bounded (inside line index len) = fronts_then (fronts_expression no_calls no index) (λ i. fronts_gives (fronts_checks line (truth (nat_lt i len)) kinds.Bounds))

module _ {S A : Type 0} where
  at_end : {code : Behaviour S A} {before : S} {whole : Bool} (w : Bool) (o : Outcome S A) → Fronts code → (front acts more z : List Act) → code before front o
      → ((acts : List Act) → acts ≡ front ++ end_of w ∷ [] → EndsThread code before whole acts) → acts ≡ front ++ z → end_of w ∷ [] ≡ z ++ more → EndsThread code before whole acts
  at_end {code} {before} w o f front acts more [] h ends e k =
      let same : acts ≡ front = e ∙ append-nil front in
      let mine = subst (λ (x : List Act). code before x o) (sym (append-nil front)) h in
      is_cut (subst (λ (x : List Act). code before x cut) (sym same) (f.front before front [] o mine))
  at_end w o f front acts more (x ∷ []) h ends e k = let last : end_of w ≡ x = cc in ends acts (e ∙ ap (λ (a : Act). front ++ a ∷ []) (sym last))
  at_end w o f front acts more (x ∷ y ∷ z) h ends e k = absurd cc

  ends_front : {code : Behaviour S A} {before : S} {whole : Bool} → Fronts code → (acts more : List Act) → EndsThread code before whole (acts ++ more) → EndsThread code before whole acts
  ends_front {code} {before} f acts more (is_cut h) = is_cut (f.front before acts more cut h)
  ends_front {code} {before} {whole} f acts more (is_done front after v h e) =
      elim (splits acts more front (end_of whole ∷ []) e) [
        | inl z ↦ is_cut (f.front before acts z.0 (done after v) (subst (λ (x : List Act). code before x (done after v)) z.1 h))
        | inr z ↦ at_end whole (done after v) f front acts more z.0 h (λ xs k. is_done front after v h k) z.1 z.2
      ]
  ends_front {code} {before} {whole} f acts more (is_left front w h e) =
      elim (splits acts more front (end_of w ∷ []) e) [
        | inl z ↦ is_cut (f.front before acts z.0 (exits w) (subst (λ (x : List Act). code before x (exits w)) z.1 h))
        | inr z ↦ at_end w (exits w) f front acts more z.0 h (λ xs k. is_left front w h k) z.1 z.2
      ]

creates_front : (acts more : List Act) (next : ℕ) → CreatesFrom (acts ++ more) next → CreatesFrom acts next
creates_front [] more next h = tt
creates_front (a ∷ acts) more next h = numbered_front (started_by a.action) next (CreatesFrom (acts ++ more)) (CreatesFrom acts) (λ k. creates_front acts more k) h

-- a front of a trace is a trace
pub front_of_tree : (tree : BoundedStatement) (arguments : List ℕ) (whole : Bool) (acts more : List Act) → IsBoundedTrace tree arguments whole (acts ++ more) → IsBoundedTrace tree arguments whole acts
front_of_tree tree arguments whole acts more is = record { does = ends_front (fronts_bounded tree) acts more is.does; numbered = creates_front acts more 1 is.numbered }

-- the process of a bounded program is open
pub bounded_is_open : (p : ScopedProgram) (b : BoundedProgram) → IsOpen (bounded_process p b)
bounded_is_open p b = record {
  one = refl;
  main = λ acts more is. front_of_tree _ _ _ acts more is;
  started = λ function argument acts more is. front_of_tree _ _ _ acts more is;
}

-- the process of a slotted program is open
pub slotted_is_open : (p : ScopedProgram) (s : SlottedProgram) → IsOpen (slotted_process p s)
slotted_is_open p s = record {
  one = refl;
  main = λ acts more is. front_of_tree _ _ _ acts more is;
  started = λ site argument acts more is. front_of_tree _ _ _ acts more is;
}
