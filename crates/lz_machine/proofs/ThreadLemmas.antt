-- A thread's start and its answers, from what its code holds.
use Rattle.std.proofs.Common.{◌≡◌, ℕ, Bool, true, false, List, [], ◌∷◌, Option, Some, None, sym, subst}
use Rattle.lz_tree.specs.ScopedTrees.{ScopedProgram}
use Rattle.lz_machine.specs.Threads.{Running, Standing, going, Thread, first_thread}
use Rattle.lz_machine.specs.Answers.{Answer, given_to, read_back, Answers}
use Rattle.lz_machine.specs.Starts.{StartsAs, IsStarted}
use Rattle.lz_machine.specs.Turns.{Turned, answer_to, standing_behind}
use Rattle.lz_machine.specs.Weights.{Arrives}
use Rattle.lz_machine.specs.Held.{thread_with}
use Rattle.lz_machine.proofs.AnswersLemmas.{answers_so}
use Rattle.lz_machine.proofs.StartLemmas.{starts_there, starts_back}

-- an answer, where the thread came so far behind the word that was read back
pub told : (p : ScopedProgram) (n choice : ℕ) (whole : Bool) (word : Option ℕ) (running begun : Running) (turned : Turned) (answer : Answer) (after : Standing) → begun ≡ given_to word running → Arrives p n begun turned
    → answer ≡ answer_to choice whole turned → after ≡ standing_behind choice turned → Answers p n choice (read_back word (thread_with (going running) whole)) answer (thread_with after whole)
told p n choice whole word running begun turned answer after given a next stands =
    let one = answers_so p n whole choice turned a.turns a.come in
    let two = subst (λ (r : Running). Answers p n choice (thread_with (going r) whole) (answer_to choice whole turned) (thread_with (standing_behind choice turned) whole)) given one in
    let three = subst (λ (x : Answer). Answers p n choice (thread_with (going (given_to word running)) whole) x (thread_with (standing_behind choice turned) whole)) (sym next) two in
    subst (λ (x : Standing). Answers p n choice (thread_with (going (given_to word running)) whole) answer (thread_with x whole)) (sym stands) three

begins_main : (p : ScopedProgram) (value : ℕ) → StartsAs p p.main [] true (first_thread p.main [] true)
begins_main p value = record { there = λ n list h. starts_there p n p.main [] true list h; back = λ n list h. starts_back p n p.main [] true list h; begins = tt }

begins_routine : (p : ScopedProgram) (routine value : ℕ) → StartsAs p routine (value ∷ []) false (first_thread routine (value ∷ []) false)
begins_routine p routine value = record { there = λ n list h. starts_there p n routine (value ∷ []) false list h; back = λ n list h. starts_back p n routine (value ∷ []) false list h; begins = tt }

-- `main` before its first action, and a routine
pub main_begins : (p : ScopedProgram) (value : ℕ) (arguments : List ℕ) (thread : Thread) (start : Option ℕ) → start ≡ None → thread ≡ first_thread p.main arguments true → arguments ≡ [] → IsStarted p start value thread
main_begins p value arguments thread start none is empty =
    let one = subst (λ (x : List ℕ). IsStarted p None value (first_thread p.main x true)) (sym empty) (begins_main p value) in
    let two = subst (λ (x : Thread). IsStarted p None value x) (sym is) one in
    subst (λ (x : Option ℕ). IsStarted p x value thread) (sym none) two

pub routine_begins : (p : ScopedProgram) (routine value : ℕ) (arguments : List ℕ) (thread : Thread) (start : Option ℕ) → start ≡ Some routine → thread ≡ first_thread routine arguments false → arguments ≡ value ∷ [] → IsStarted p start value thread
routine_begins p routine value arguments thread start some is one_argument =
    let one = subst (λ (x : List ℕ). IsStarted p (Some routine) value (first_thread routine x false)) (sym one_argument) (begins_routine p routine value) in
    let two = subst (λ (x : Thread). IsStarted p (Some routine) value x) (sym is) one in
    subst (λ (x : Option ℕ). IsStarted p x value thread) (sym some) two
