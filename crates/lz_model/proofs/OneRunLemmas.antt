-- Two runs that follow one schedule are the same, Loc left out.
use Rattle.std.proofs.Common.{◌≡◌, ◌≢◌, ℕ, zero, suc, ◌+◌, ◌<◌, ◌≤◌, ◌⊎◌, inl, inr, Bool, true, false, ◌&&◌, ◌||◌, eqb, ltb, not, cond, List, [], ◌∷◌, ◌++◌, length, slice_index, Option, Some, None, refl, sym, ◌∙◌, ap, subst, append_assoc, arith}
use Rattle.std.proofs.Math.Seq.{append_snoc}
use Rattle.std.proofs.lemmas.Bool.{eqb-true}
use Rattle.std.proofs.lemmas.Bool.Decides.{nat_tests}
use Rattle.std.proofs.lemmas.List.{append-nil}
use Rattle.lz_base.specs.declared.word.BreakKind.{BreakKind}
use Rattle.lz_base.proofs.ListLemmas.{cons_parts}
use Rattle.lz_tree.specs.ScopedTrees.{ScopedProgram}
use Rattle.lz_model.specs.declared.actions.Action.{Action}
use Rattle.lz_model.specs.declared.actions.Action.TheVariants.{Input, Rd, Signal, Create}
use Rattle.lz_model.specs.declared.actions.Event.{Event}
use Rattle.lz_model.specs.declared.schedule.Step.{Step}
use Rattle.lz_model.specs.Actions.{Act, act_of, is_loc, choice_of, Start, started_by, is_shared}
use Rattle.lz_model.specs.Store.{State, Acted, went, blocked, broke, is_halted, held_by_another, goes_where, act_free, act}
use Rattle.lz_model.specs.Behaviours.{Outcome, done, exits, cut, Behaviour}
use Rattle.lz_model.specs.CodeTraces.{at}
use Rattle.lz_model.specs.Interleavings.{Process, Course, going, stuck, broken, course_after, course, part, start_or, start_of, MayDo, MayDoIn, IsRun}
use Rattle.lz_model.specs.BrokenRuns.{step_with, steps_of, schedule_of, Follows}
use Rattle.lz_model.specs.WithoutLoc.{left_out, without_loc, events_without_loc, bare}
use Rattle.lz_model.specs.Programs.{begun, end_of, EndsThread, is_cut, is_done, is_left, IsThreadTrace, process_of}
use Rattle.lz_model.proofs.ForksLemmas.{IsAnswered, reads, puts_in, wakes, makes, Parts, parts_more, Agrees, same, left_cut, right_cut, part as parting, Agree, agree_calls}
use Rattle.lz_model.proofs.RunFrontsLemmas.{course-append_going, part-append, start_of-append, unmade_blocked, Grows, as_many, one_more, grows}
use Rattle.lz_model.proofs.LocLemmas.{bare_run}
use Rattle.lz_model.proofs.ScheduleLemmas.{has_choice, schedule_without_loc}

-- ---- two traces of one thread

-- one goes on where the other stops, or they part
pub data Alike (xs ys : List Act) : Type 0 where
  left_stops : (more : List Act) → ys ≡ xs ++ more → Alike xs ys
  right_stops : (more : List Act) → xs ≡ ys ++ more → Alike xs ys
  parted : Parts xs ys → Alike xs ys

module _ {S A : Type 0} where
  -- what follows the code of a thread that ended so
  rest_of : Bool → Outcome S A → List Act
  rest_of whole (done t v) = end_of whole ∷ []
  rest_of whole (exits w) = end_of w ∷ []
  rest_of whole cut = []

  record Ended (code : Behaviour S A) (before : S) (whole : Bool) (acts : List Act) : Type 0 where
    front : List Act
    outcome : Outcome S A
    does : code before front outcome
    are : acts ≡ front ++ rest_of whole outcome

  ended_of : (code : Behaviour S A) (before : S) (whole : Bool) (acts : List Act) → EndsThread code before whole acts → Ended code before whole acts
  unfolding rest_of
  ended_of code before whole acts (is_cut h) = record { front = acts; outcome = cut; does = h; are = sym (append-nil acts) }
  ended_of code before whole acts (is_done front after v h e) = record { front = front; outcome = done after v; does = h; are = e }
  ended_of code before whole acts (is_left front w h e) = record { front = front; outcome = exits w; does = h; are = e }

  nothing_behind : (whole : Bool) (o : Outcome S A) → o ≡ cut → rest_of whole o ≡ []
  unfolding rest_of
  nothing_behind whole o e = ap (rest_of whole) e

  alike_ends : (whole : Bool) (xs ys front other : List Act) (o p : Outcome S A) → xs ≡ front ++ rest_of whole o → ys ≡ other ++ rest_of whole p → Agrees front o other p → Alike xs ys
  alike_ends whole xs ys front other o p e k (same h l) =
      left_stops [] (k ∙ ap (λ (acts : List Act). acts ++ rest_of whole p) (sym h) ∙ ap (λ (r : Outcome S A). front ++ rest_of whole r) (sym l) ∙ sym e ∙ sym (append-nil xs))
  alike_ends whole xs ys front other o p e k (left_cut more h l) =
      let ends : xs ≡ front = e ∙ ap (λ (acts : List Act). front ++ acts) (nothing_behind whole o h) ∙ append-nil front in
      left_stops (more ++ rest_of whole p)
      (k ∙ ap (λ (acts : List Act). acts ++ rest_of whole p) l ∙ append_assoc front more (rest_of whole p) ∙ ap (λ (acts : List Act). acts ++ (more ++ rest_of whole p)) (sym ends))
  alike_ends whole xs ys front other o p e k (right_cut more h l) =
      let ends : ys ≡ other = k ∙ ap (λ (acts : List Act). other ++ acts) (nothing_behind whole p h) ∙ append-nil other in
      right_stops (more ++ rest_of whole o)
      (e ∙ ap (λ (acts : List Act). acts ++ rest_of whole o) l ∙ append_assoc other more (rest_of whole o) ∙ ap (λ (acts : List Act). acts ++ (more ++ rest_of whole o)) (sym ends))
  alike_ends whole xs ys front other o p e k (parting d) =
      parted (subst (λ (acts : List Act). Parts acts ys) (sym e) (subst (λ (acts : List Act). Parts (front ++ rest_of whole o) acts) (sym k) (parts_more (rest_of whole o) (rest_of whole p) d)))

alike_traces : (p : ScopedProgram) (n function : ℕ) (arguments : List ℕ) (whole : Bool) (xs ys : List Act)
    → IsThreadTrace p n function arguments whole xs → IsThreadTrace p n function arguments whole ys → Alike xs ys
alike_traces p n function arguments whole xs ys is other =
    let one = ended_of _ (begun arguments) whole xs is.does in
    let two = ended_of _ (begun arguments) whole ys other.does in
    alike_ends whole xs ys one.front two.front one.outcome two.outcome one.are two.are
    (((agree_calls p n is.depth other.depth).does function).agrees (begun arguments) one.front two.front one.outcome two.outcome one.does two.does)

-- ---- Loc left out

append_seen : (a : Act) (xs ys zs : List Act) (b : Bool) → zs ≡ xs ++ ys → left_out b a zs ≡ left_out b a xs ++ ys
append_seen a xs ys zs true e = e
append_seen a xs ys zs false e = ap (λ (acts : List Act). a ∷ acts) e

pub without_loc-append : (xs ys : List Act) → without_loc (xs ++ ys) ≡ without_loc xs ++ without_loc ys
without_loc-append [] ys = refl
without_loc-append (a ∷ xs) ys = append_seen a (without_loc xs) (without_loc ys) (without_loc (xs ++ ys)) (is_loc a.action) (without_loc-append xs ys)

answered_is_seen : (a b : Act) → IsAnswered a b → (is_loc a.action ≡ false) × (is_loc b.action ≡ false)
answered_is_seen a b (reads line cell v w h e k) = (ap (λ (x : Act). is_loc x.action) e, ap (λ (x : Act). is_loc x.action) k)
answered_is_seen a b (puts_in line v w h e k) = (ap (λ (x : Act). is_loc x.action) e, ap (λ (x : Act). is_loc x.action) k)
answered_is_seen a b (wakes line number v w h e k) = (ap (λ (x : Act). is_loc x.action) e, ap (λ (x : Act). is_loc x.action) k)
answered_is_seen a b (makes line v w routine argument h e k) = (ap (λ (x : Act). is_loc x.action) e, ap (λ (x : Act). is_loc x.action) k)

seen_at : (front : List Act) (a : Act) (rest : List Act) → is_loc a.action ≡ false → without_loc (front ++ a ∷ rest) ≡ without_loc front ++ a ∷ without_loc rest
seen_at front a rest e = without_loc-append front (a ∷ rest) ∙ rw e refl

alike_seen : (xs ys : List Act) → Alike xs ys → Alike (without_loc xs) (without_loc ys)
alike_seen xs ys (left_stops more e) = left_stops (without_loc more) (ap without_loc e ∙ without_loc-append xs more)
alike_seen xs ys (right_stops more e) = right_stops (without_loc more) (ap without_loc e ∙ without_loc-append ys more)
alike_seen xs ys (parted d) =
    let shown = answered_is_seen d.one d.other d.answered in
    parted (record {
      front = without_loc d.front;
      one = d.one;
      other = d.other;
      rest = without_loc d.rest;
      more = without_loc d.more;
      answered = d.answered;
      left = ap without_loc d.left ∙ seen_at d.front d.one d.rest shown.0;
      right = ap without_loc d.right ∙ seen_at d.front d.other d.more shown.1;
    })

-- ---- the next action

not_itself : (a : Act) → IsAnswered a a → ⊥
not_itself a (reads line cell v w h e k) = let z : Rd cell v ≡ Rd cell w = ap (λ (x : Act). x.action) (sym e ∙ k) in h cc
not_itself a (puts_in line v w h e k) = let z : Input v ≡ Input w = ap (λ (x : Act). x.action) (sym e ∙ k) in h cc
not_itself a (wakes line number v w h e k) = let z : Signal number v ≡ Signal number w = ap (λ (x : Act). x.action) (sym e ∙ k) in h cc
not_itself a (makes line v w routine argument h e k) = let z : Create v routine argument ≡ Create w routine argument = ap (λ (x : Act). x.action) (sym e ∙ k) in h cc

stops_there : (p : List Act) (a b : Act) (r s more : List Act) → p ++ b ∷ s ≡ (p ++ a ∷ r) ++ more → b ≡ a
stops_there [] a b r s more e = (cons_parts e).0
stops_there (x ∷ p) a b r s more e = stops_there p a b r s more (cons_parts e).1

parts_there : (p front : List Act) (a b one other : Act) (r s rest more : List Act) → IsAnswered one other → p ++ a ∷ r ≡ front ++ one ∷ rest → p ++ b ∷ s ≡ front ++ other ∷ more
    → (a ≡ b) ⊎ IsAnswered a b
parts_there [] [] a b one other r s rest more h e k =
    let left = (cons_parts e).0 in
    let right = (cons_parts k).0 in
    inr (subst (λ (x : Act). IsAnswered x b) (sym left) (subst (λ (x : Act). IsAnswered one x) (sym right) h))
parts_there [] (x ∷ front) a b one other r s rest more h e k =
    inl ((cons_parts e).0 ∙ sym (cons_parts k).0)
parts_there (x ∷ p) [] a b one other r s rest more h e k =
    let left = (cons_parts e).0 in
    let right = (cons_parts k).0 in
    absurd (not_itself x (subst (λ (y : Act). IsAnswered y x) (sym left) (subst (λ (y : Act). IsAnswered one y) (sym right) h)))
parts_there (x ∷ p) (y ∷ front) a b one other r s rest more h e k =
    parts_there p front a b one other r s rest more h (cons_parts e).1 (cons_parts k).1

-- what comes next behind the same actions is the same, or is answered differently
next_alike : (p : List Act) (a b : Act) (r s : List Act) → Alike (p ++ a ∷ r) (p ++ b ∷ s) → (a ≡ b) ⊎ IsAnswered a b
next_alike p a b r s (left_stops more e) = inl (sym (stops_there p a b r s more e))
next_alike p a b r s (right_stops more e) = inl (stops_there p b a s r more e)
next_alike p a b r s (parted d) = parts_there p d.front a b d.one d.other r s d.rest d.more d.answered d.left d.right

-- ---- a state and a choice settle each answer

pub found_is : (c b : Bool) (s : State) → cond c blocked (goes_where b s) ≢ blocked → b ≡ true
found_is true b s h = absurd (h refl)
found_is false true s h = refl
found_is false false s h = absurd (h refl)

pub read_finds : (s : State) (t cell v : ℕ) → act s t (Rd cell v) ≢ blocked → v ≡ slice_index s.cells cell
read_finds s t cell v h =
    eqb-true v (slice_index s.cells cell) (found_is (is_halted s t || (is_shared (Rd cell v) && held_by_another s.holder t)) (eqb v (slice_index s.cells cell)) s h)

pub made_is : (s : State) (t d routine argument : ℕ) → act s t (Create d routine argument) ≢ blocked → d ≡ length s.threads
made_is s t d routine argument h =
    eqb-true d (length s.threads) (found_is (is_halted s t || (is_shared (Create d routine argument) && held_by_another s.holder t)) (eqb d (length s.threads)) _ h)

pub woken_is : (number : ℕ) (v w : Option ℕ) → choice_of (Signal number v) ≡ choice_of (Signal number w) → v ≡ w
woken_is number None None e = refl
woken_is number None (Some w) e = let z : 0 ≡ w + 1 = cc in absurd (let n : ⊥ = omega (arith, z) in n)
woken_is number (Some v) None e = let z : v + 1 ≡ 0 = cc in absurd (let n : ⊥ = omega (arith, z) in n)
woken_is number (Some v) (Some w) e = let z : v + 1 ≡ w + 1 = cc in let k : v ≡ w = omega (arith, z) in ap (λ (u : ℕ). Some u) k

settled : (s : State) (t : ℕ) (a b : Act) → act s t a.action ≢ blocked → act s t b.action ≢ blocked → choice_of a.action ≡ choice_of b.action → IsAnswered a b → ⊥
settled s t a b f g c (reads line cell v w h e k) =
    let one = read_finds s t cell v (subst (λ (x : Act). act s t x.action ≢ blocked) e f) in
    let two = read_finds s t cell w (subst (λ (x : Act). act s t x.action ≢ blocked) k g) in
    h (one ∙ sym two)
settled s t a b f g c (puts_in line v w h e k) =
    let z : Some v ≡ Some w = sym (ap (λ (x : Act). choice_of x.action) e) ∙ c ∙ ap (λ (x : Act). choice_of x.action) k in
    h cc
settled s t a b f g c (wakes line number v w h e k) =
    h (woken_is number v w (sym (ap (λ (x : Act). choice_of x.action) e) ∙ c ∙ ap (λ (x : Act). choice_of x.action) k))
settled s t a b f g c (makes line v w routine argument h e k) =
    let one = made_is s t v routine argument (subst (λ (x : Act). act s t x.action ≢ blocked) e f) in
    let two = made_is s t w routine argument (subst (λ (x : Act). act s t x.action ≢ blocked) k g) in
    h (one ∙ sym two)

-- ---- the start of a thread that is made

pub record Started (thread : ℕ) (events : List Event) : Type 0 where
  pub start : Start
  pub is : start_of thread events ≡ Some start

keeps_start : (thread : ℕ) (first later : Option Start) (start : Start) → later ≡ Some start → (found : Start) × (start_or thread first later ≡ Some found)
keeps_start thread None later start e = (start, e)
keeps_start thread (Some one) later start e = by (eqb one.thread thread)
  where
    by : (c : Bool) → (found : Start) × (cond c (Some one) later ≡ Some found)
    by true = (one, refl)
    by false = (start, e)

starts_here : (thread : ℕ) (one : Start) (first later : Option Start) → first ≡ Some one → one.thread ≡ thread → start_or thread first later ≡ Some one
starts_here thread one None later e k = absurd cc
starts_here thread one (Some two) later e k = by (eqb two.thread thread) refl
  where
    same_start : two ≡ one
    same_start = cc

    by : (c : Bool) → eqb two.thread thread ≡ c → cond c (Some two) later ≡ Some one
    by true h = ap (λ (x : Start). Some x) same_start
    by false h = absurd (let z : two.thread ≡ thread = ap (λ (x : Start). x.thread) same_start ∙ k in let n : eqb two.thread thread ≡ false → two.thread ≡ thread → ⊥ = grind (arith, nat_tests) in n h z)

made_by : (e : Event) (rest : List Event) (s s1 s2 : State) (t : ℕ) → act s e.thread e.action ≡ went s1 → length s.threads ≤ t → t < length s2.threads
    → (length s1.threads ≤ t → Started t rest) → Grows s e.action s1 → Started t (e ∷ rest)
made_by e rest s s1 s2 t a few made ih (as_many same_number) =
    let later = ih (omega arith) in
    let kept = keeps_start t (started_by e.action) (start_of t rest) later.start later.is in
    record { start = kept.0; is = kept.1 }
made_by e rest s s1 s2 t a few made ih (one_more start is thread more) = by (ltb t (length s1.threads)) refl
  where
    by : (c : Bool) → ltb t (length s1.threads) ≡ c → Started t (e ∷ rest)
    by true h =
        let below : t < length s1.threads = grind (arith, nat_tests) in
        record { start = start; is = starts_here t start (started_by e.action) (start_of t rest) is (omega arith) }
    by false h =
        let n : length s1.threads ≤ t = grind (arith, nat_tests) in
        let later = ih n in
        let kept = keeps_start t (started_by e.action) (start_of t rest) later.start later.is in
        record { start = kept.0; is = kept.1 }

made_after : (e : Event) (rest : List Event) (s later : State) (t : ℕ) (acted : Acted) → act s e.thread e.action ≡ acted → length s.threads ≤ t → t < length later.threads
    → ((s1 : State) → length s1.threads ≤ t → course rest s1 ≡ going later → Started t rest) → course_after acted e.line rest (course rest) ≡ going later → Started t (e ∷ rest)
made_after e rest s later t (went s1) a few made ih on = made_by e rest s s1 later t a few made (λ h. ih s1 h on) (grows s e.thread e.action s1 a)
made_after e rest s later t blocked a few made ih on = absurd cc
made_after e [] s later t (broke kind) a few made ih on = absurd cc
made_after e (f ∷ rest) s later t (broke kind) a few made ih on = absurd cc

-- a thread that is made where events lead was started by one of them
pub made_started : (events : List Event) (s later : State) (t : ℕ) → length s.threads ≤ t → t < length later.threads → course events s ≡ going later → Started t events
made_started [] s later t few made on = let z : s ≡ later = cc in let k = ap (λ (x : State). length x.threads) z in absurd (let n : ⊥ = omega (arith, k) in n)
made_started (e ∷ rest) s later t few made on =
    made_after e rest s later t (act s e.thread e.action) refl few made (λ s1 h g. made_started rest s1 later t h made g) on

-- ---- two runs

-- any two ways of one thread are alike; one thread is there at first
pub record IsSure (process : Process) : Type 0 where
  pub one : length process.begins.threads ≡ 1
  pub main : (xs ys : List Act) → process.main xs → process.main ys → Alike xs ys
  pub started : (routine argument : ℕ) (xs ys : List Act) → process.started routine argument xs → process.started routine argument ys → Alike xs ys

-- the same with local actions left out
pub sure_seen : (process : Process) → IsSure process → IsSure (bare process)
sure_seen process p = record {
  one = p.one;
  main = λ xs ys h k. subst (λ (acts : List Act). Alike acts ys) h.seen (subst (λ (acts : List Act). Alike (without_loc h.full) acts) k.seen (alike_seen h.full k.full (p.main h.full k.full h.does k.does)));
  started = λ routine argument xs ys h k.
      subst (λ (acts : List Act). Alike acts ys) h.seen
      (subst (λ (acts : List Act). Alike (without_loc h.full) acts) k.seen (alike_seen h.full k.full (p.started routine argument h.full k.full h.does k.does)));
}

-- a program's process is sure
pub sure_program : (p : ScopedProgram) (n : ℕ) → IsSure (process_of p n)
sure_program p n = record {
  one = refl;
  main = λ xs ys. alike_traces p n p.main [] true xs ys;
  started = λ routine argument xs ys. alike_traces p n routine (argument ∷ []) false xs ys;
}

alike_started : (process : Process) → IsSure process → (start : Start) (o q : Option Start) (xs ys : List Act) → o ≡ Some start → q ≡ Some start → MayDo process o xs → MayDo process q ys → Alike xs ys
alike_started process p start None q xs ys e k h l = absurd cc
alike_started process p start (Some one) None xs ys e k h l = absurd cc
alike_started process p start (Some one) (Some two) xs ys e k h l =
    let z : two ≡ one = cc in
    p.started one.routine one.argument xs ys h (subst (λ (x : Start). process.started x.routine x.argument ys) z l)

pub is_made_here : (s : State) (t : ℕ) (a : Action) → act s t a ≢ blocked → t < length s.threads
is_made_here s t a h = by (ltb t (length s.threads)) refl
  where
    by : (c : Bool) → ltb t (length s.threads) ≡ c → t < length s.threads
    by true e = grind (arith, nat_tests)
    by false e = let n : length s.threads ≤ t = grind (arith, nat_tests) in absurd (h (unmade_blocked s t a n))

-- what the thread of the next event does in both runs is alike
alike_here : (process : Process) → IsSure process → (zs xs ys : List Event) (s : State) (t : ℕ) → course zs process.begins ≡ going s → t < length s.threads
    → IsRun process (zs ++ xs) → IsRun process (zs ++ ys) → Alike (part t (zs ++ xs)) (part t (zs ++ ys))
alike_here process p zs xs ys s zero on made is other = p.main (part 0 (zs ++ xs)) (part 0 (zs ++ ys)) (is.parts 0) (other.parts 0)
alike_here process p zs xs ys s (suc t) on made is other =
    let few = p.one in
    let from = made_started zs process.begins s (suc t) (omega arith) made on in
    alike_started process p from.start (start_of (suc t) (zs ++ xs)) (start_of (suc t) (zs ++ ys)) (part (suc t) (zs ++ xs)) (part (suc t) (zs ++ ys))
    (start_of-append (suc t) zs xs from.start from.is) (start_of-append (suc t) zs ys from.start from.is) (is.parts (suc t)) (other.parts (suc t))

pub part_first : (t : ℕ) (e : Event) (rest : List Event) → e.thread ≡ t → part t (e ∷ rest) ≡ act_of e ∷ part t rest
part_first t e rest h = by (eqb e.thread t) refl
  where
    by : (c : Bool) → eqb e.thread t ≡ c → cond c (act_of e ∷ part t rest) (part t rest) ≡ act_of e ∷ part t rest
    by true k = refl
    by false k = absurd (let n : eqb e.thread t ≡ false → e.thread ≡ t → ⊥ = grind (arith, nat_tests) in n k h)

pub goes_here : (e : Event) (rest : List Event) (s : State) → course (e ∷ rest) s ≢ stuck → act s e.thread e.action ≢ blocked
goes_here e rest s h w = h (ap (λ (acted : Acted). course_after acted e.line rest (course rest)) w)

same_event : (e f : Event) → e.thread ≡ f.thread → e.action ≡ f.action → e.line ≡ f.line → e ≡ f
same_event e f thread action line =
    let made : ℕ → Action → ℕ → Event = λ t a l. record { thread = t; action = a; line = l } in
    ap (λ (t : ℕ). made t e.action e.line) thread ∙ ap (λ (a : Action). made f.thread a e.line) action ∙ ap (λ (l : ℕ). made f.thread f.action l) line

-- the next events of both runs are the same
same_next : (process : Process) → IsSure process → (zs xs ys : List Event) (e f : Event) (s : State) → course zs process.begins ≡ going s → IsRun process (zs ++ e ∷ xs) → IsRun process (zs ++ f ∷ ys)
    → e.thread ≡ f.thread → choice_of e.action ≡ choice_of f.action → act s e.thread e.action ≢ blocked → act s f.thread f.action ≢ blocked → e ≡ f
same_next process p zs xs ys e f s on is other thread choice goes goes_too = elim (next_alike (part e.thread zs) (act_of e) (act_of f) (part e.thread xs) (part e.thread ys) both) [
  | inl k ↦ same_event e f thread (ap (λ (x : Act). x.action) k) (ap (λ (x : Act). x.line) k)
  | inr k ↦ absurd (settled s e.thread (act_of e) (act_of f) goes (subst (λ (t : ℕ). act s t f.action ≢ blocked) (sym thread) goes_too) choice k)
]
  where
    both : Alike (part e.thread zs ++ act_of e ∷ part e.thread xs) (part e.thread zs ++ act_of f ∷ part e.thread ys)
    both =
        let one = part-append e.thread zs (e ∷ xs) ∙ ap (λ (acts : List Act). part e.thread zs ++ acts) (part_first e.thread e xs refl) in
        let two = part-append e.thread zs (f ∷ ys) ∙ ap (λ (acts : List Act). part e.thread zs ++ acts) (part_first e.thread f ys (sym thread)) in
        subst (λ (acts : List Act). Alike acts (part e.thread zs ++ act_of f ∷ part e.thread ys)) one
        (subst (λ (acts : List Act). Alike (part e.thread (zs ++ e ∷ xs)) acts) two (alike_here process p zs (e ∷ xs) (f ∷ ys) s e.thread on (is_made_here s e.thread e.action goes) is other))

-- no event is Loc
pub IsSeenAll : List Event → Type 0
IsSeenAll [] = Unit {0}
IsSeenAll (e ∷ rest) = (is_loc e.action ≡ false) × IsSeenAll rest

seen_step : (e : Event) (rest : List Event) (b : Bool) → is_loc e.action ≡ b → IsSeenAll rest → IsSeenAll (left_out b e rest)
unfolding IsSeenAll
seen_step e rest true h all = all
seen_step e rest false h all = (h, all)

pub all_seen : (run : List Event) → IsSeenAll (events_without_loc run)
unfolding IsSeenAll
all_seen [] = tt
all_seen (e ∷ run) = seen_step e (events_without_loc run) (is_loc e.action) refl (all_seen run)

behind_goes : (zs : List Event) (e : Event) (s s1 begins : State) → course zs begins ≡ going s → act s e.thread e.action ≡ went s1 → course (zs ++ e ∷ []) begins ≡ going s1
behind_goes zs e s s1 begins on a = course-append_going zs (e ∷ []) begins s on ∙ rw a refl

nothing_more : (e : Event) (rest : List Event) (s : State) (kind : BreakKind) → act s e.thread e.action ≡ broke kind → course (e ∷ rest) s ≢ stuck → rest ≡ []
nothing_more e [] s kind a h = refl
nothing_more e (f ∷ rest) s kind a h = absurd (h (rw a refl))

on_from : (process : Process) (zs xs : List Event) (s : State) → course zs process.begins ≡ going s → IsRun process (zs ++ xs) → course xs s ≢ stuck
on_from process zs xs s on is h = is.goes (course-append_going zs xs process.begins s on ∙ h)

-- behind the same event
same_rest : (process : Process) (zs xs ys : List Event) (e : Event) (s : State) (acted : Acted) → act s e.thread e.action ≡ acted → course zs process.begins ≡ going s
    → IsRun process (zs ++ e ∷ xs) → IsRun process (zs ++ e ∷ ys)
    → ((s1 : State) → course (zs ++ e ∷ []) process.begins ≡ going s1 → IsRun process ((zs ++ e ∷ []) ++ xs) → IsRun process ((zs ++ e ∷ []) ++ ys) → xs ≡ ys) → xs ≡ ys
same_rest process zs xs ys e s (went s1) a on is other ih =
    ih s1 (behind_goes zs e s s1 process.begins on a) (subst (λ (run : List Event). IsRun process run) (sym (append_snoc zs e xs)) is)
    (subst (λ (run : List Event). IsRun process run) (sym (append_snoc zs e ys)) other)
same_rest process zs xs ys e s blocked a on is other ih = absurd (goes_here e xs s (on_from process zs (e ∷ xs) s on is) a)
same_rest process zs xs ys e s (broke kind) a on is other ih =
    nothing_more e xs s kind a (on_from process zs (e ∷ xs) s on is) ∙ sym (nothing_more e ys s kind a (on_from process zs (e ∷ ys) s on other))

-- the first steps of one schedule
record SameStep (e f : Event) (xs ys : List Event) : Type 0 where
  thread : e.thread ≡ f.thread
  choice : choice_of e.action ≡ choice_of f.action
  rest : schedule_of xs ≡ schedule_of ys

same_step : (e f : Event) (xs ys : List Event) → is_loc e.action ≡ false → is_loc f.action ≡ false → schedule_of (e ∷ xs) ≡ schedule_of (f ∷ ys) → SameStep e f xs ys
same_step e f xs ys h k is =
    let one = has_choice e.action h in
    let two = has_choice f.action k in
    let step : (n c : ℕ) → Step = λ n c. record { thread = n; choice = c } in
    let joined : step e.thread one.choice ∷ schedule_of xs ≡ step f.thread two.choice ∷ schedule_of ys =
    sym (ap (λ (o : Option ℕ). step_with e.thread o ++ schedule_of xs) one.is) ∙ is ∙ ap (λ (o : Option ℕ). step_with f.thread o ++ schedule_of ys) two.is in
    let first : step e.thread one.choice ≡ step f.thread two.choice = cc in
    let choice : one.choice ≡ two.choice = ap (λ (x : Step). x.choice) first in
    record { thread = ap (λ (x : Step). x.thread) first; choice = one.is ∙ ap (λ (c : ℕ). Some c) choice ∙ sym two.is; rest = cc }

no_step : (e : Event) (xs : List Event) → is_loc e.action ≡ false → [] ≡ schedule_of (e ∷ xs) → ⊥
no_step e xs h is =
    let one = has_choice e.action h in
    let z : [] ≡ record { thread = e.thread; choice = one.choice } ∷ schedule_of xs = is ∙ ap (λ (o : Option ℕ). step_with e.thread o ++ schedule_of xs) one.is in
    cc

same_from : (process : Process) → IsSure process → (xs ys zs : List Event) (s : State) → IsSeenAll xs → IsSeenAll ys → course zs process.begins ≡ going s
    → IsRun process (zs ++ xs) → IsRun process (zs ++ ys) → schedule_of xs ≡ schedule_of ys → xs ≡ ys
unfolding IsSeenAll
same_from process p [] [] zs s all also on is other steps = refl
same_from process p [] (f ∷ ys) zs s all also on is other steps = absurd (no_step f ys also.0 steps)
same_from process p (e ∷ xs) [] zs s all also on is other steps = absurd (no_step e xs all.0 (sym steps))
same_from process p (e ∷ xs) (f ∷ ys) zs s all also on is other steps =
    let step = same_step e f xs ys all.0 also.0 steps in
    let goes = goes_here e xs s (on_from process zs (e ∷ xs) s on is) in
    let goes_too = goes_here f ys s (on_from process zs (f ∷ ys) s on other) in
    let event : e ≡ f = same_next process p zs xs ys e f s on is other step.thread step.choice goes goes_too in
    let other_too : IsRun process (zs ++ e ∷ ys) = subst (λ (x : Event). IsRun process (zs ++ x ∷ ys)) (sym event) other in
    let rest : xs ≡ ys = same_rest process zs xs ys e s (act s e.thread e.action) refl on is other_too
    (λ s1 behind one two. same_from process p xs ys (zs ++ e ∷ []) s1 all.1 also.1 behind one two step.rest) in
    cc

-- two runs that follow one schedule are the same, Loc left out
pub one_run : (p : ScopedProgram) (n : ℕ) (run other : List Event) (schedule : List Step) → IsRun (process_of p n) run → IsRun (process_of p n) other → Follows run schedule → Follows other schedule
    → events_without_loc run ≡ events_without_loc other
one_run p n run other schedule is too follows follows_too =
    same_from (bare (process_of p n)) (sure_seen (process_of p n) (sure_program p n)) (events_without_loc run) (events_without_loc other) [] (process_of p n).begins (all_seen run) (all_seen other) refl
    (bare_run (process_of p n) run is) (bare_run (process_of p n) other too)
    (sym (schedule_without_loc run) ∙ follows ∙ sym follows_too ∙ schedule_without_loc other)
