-- A front of a thread's trace is a trace, so a program's process is open.
use Rattle.std.proofs.Common.{◌≡◌, ℕ, suc, Bool, true, false, List, [], ◌∷◌, ◌++◌, inl, inr, Option, Some, None, refl, sym, ◌∙◌, ap, subst}
use Rattle.std.proofs.lemmas.List.{append-nil}
use Rattle.lz_tree.specs.ScopedTrees.{ScopedProgram}
use Rattle.lz_model.specs.Actions.{Act, Start, started_by}
use Rattle.lz_model.specs.Behaviours.{Outcome, done, exits, cut, Behaviour}
use Rattle.lz_model.specs.Programs.{end_of, EndsThread, is_cut, is_done, is_left, numbered_after, CreatesFrom, IsThreadTrace, process_of}
use Rattle.lz_model.proofs.FrontsLemmas.{Fronts, splits, fronts_calls}
use Rattle.lz_model.proofs.RunFrontsLemmas.{IsOpen}

module _ {S A : Type 0} where
  -- a front of a thread's actions that goes past its code's, or ends with it
  pub at_end : {code : Behaviour S A} {before : S} {whole : Bool} (w : Bool) (o : Outcome S A) → Fronts code → (front acts more z : List Act) → code before front o
      → ((acts : List Act) → acts ≡ front ++ end_of w ∷ [] → EndsThread code before whole acts) → acts ≡ front ++ z → end_of w ∷ [] ≡ z ++ more → EndsThread code before whole acts
  at_end {code} {before} w o f front acts more [] h ends e k =
      let same : acts ≡ front = e ∙ append-nil front in
      let mine = subst (λ (x : List Act). code before x o) (sym (append-nil front)) h in
      is_cut (subst (λ (x : List Act). code before x cut) (sym same) (f.front before front [] o mine))
  at_end w o f front acts more (x ∷ []) h ends e k = let last : end_of w ≡ x = cc in ends acts (e ∙ ap (λ (a : Act). front ++ a ∷ []) (sym last))
  at_end w o f front acts more (x ∷ y ∷ z) h ends e k = absurd cc

  -- each front of a thread's actions is what the thread may do too
  pub ends_front : {code : Behaviour S A} {before : S} {whole : Bool} → Fronts code → (acts more : List Act) → EndsThread code before whole (acts ++ more) → EndsThread code before whole acts
  ends_front {code} {before} f acts more (is_cut h) = is_cut (f.front before acts more cut h)
  ends_front {code} {before} {whole} f acts more (is_done front after v h e) =
      elim (splits acts more front (end_of whole ∷ []) e) [
        | inl z ↦ is_cut (f.front before acts z.0 (done after v) (subst (λ (x : List Act). code before x (done after v)) z.1 h))
        | inr z ↦ at_end whole (done after v) f front acts more z.0 h (λ xs k. is_done front after v h k) z.1 z.2
      ]
  ends_front {code} {before} {whole} f acts more (is_left front w h e) =
      elim (splits acts more front (end_of w ∷ []) e) [
        | inl z ↦ is_cut (f.front before acts z.0 (exits w) (subst (λ (x : List Act). code before x (exits w)) z.1 h))
        | inr z ↦ at_end w (exits w) f front acts more z.0 h (λ xs k. is_left front w h k) z.1 z.2
      ]

-- a number that follows, with less asked of the later ones
pub numbered_front : (o : Option Start) (next : ℕ) (P Q : ℕ → Type 0) → ((k : ℕ) → P k → Q k) → numbered_after o next P → numbered_after o next Q
numbered_front None next P Q f h = f next h
numbered_front (Some start) next P Q f h = (h.0, f (suc next) h.1)

-- the threads that a front creates are numbered as in the whole
pub creates_front : (acts more : List Act) (next : ℕ) → CreatesFrom (acts ++ more) next → CreatesFrom acts next
creates_front [] more next h = tt
creates_front (a ∷ acts) more next h = numbered_front (started_by a.action) next (CreatesFrom (acts ++ more)) (CreatesFrom acts) (λ k. creates_front acts more k) h

-- a front of a thread's trace is a trace
pub front_of_trace : (p : ScopedProgram) (n function : ℕ) (arguments : List ℕ) (whole : Bool) (acts more : List Act)
    → IsThreadTrace p n function arguments whole (acts ++ more) → IsThreadTrace p n function arguments whole acts
front_of_trace p n function arguments whole acts more is = record {
  depth = is.depth;
  does = ends_front ((fronts_calls p n is.depth).fronts function) acts more is.does;
  numbered = creates_front acts more 1 is.numbered;
}

pub program_is_open : (p : ScopedProgram) (n : ℕ) → IsOpen (process_of p n)
program_is_open p n = record {
  one = refl;
  main = λ acts more. front_of_trace p n p.main [] true acts more;
  started = λ routine argument acts more. front_of_trace p n routine (argument ∷ []) false acts more;
}
