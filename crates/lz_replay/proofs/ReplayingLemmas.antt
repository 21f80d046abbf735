-- One step of a replay keeps its state, breaks, or shows that no run has it.
use Rattle.std.proofs.Common.{◌≡◌, ℕ, zero, suc, ◌+◌, ◌<◌, ◌≤◌, Bool, true, false, eqb, ltb, cond, List, [], ◌∷◌, ◌++◌, length, take, get_or, Option, Some, None, refl, sym, ◌∙◌, ap, subst, arith}
use Rattle.std.proofs.lemmas.Bool.{eqb-true, eqb-false}
use Rattle.std.proofs.lemmas.Bool.Decides.{nat_tests}
use Rattle.std.proofs.lemmas.List.{length-append, take_more}
use Rattle.lz_base.specs.declared.word.BreakKind.{BreakKind}
use Rattle.lz_tree.specs.ScopedTrees.{ScopedProgram}
use Rattle.lz_model.specs.declared.actions.Action.{Action}
use Rattle.lz_model.specs.declared.actions.Action.TheVariants.{Loc, Input, Check, Assume, Rd, Wr, Reset, Lock, Unlock, Park, Wake, Signal, Broadcast, Create, Join, HoldOn, HoldOff, End}
use Rattle.lz_model.specs.declared.schedule.Step.{Step}
use Rattle.lz_model.specs.Actions.{Start, started_by}
use Rattle.lz_model.specs.Store.{State, Acted, went, blocked, broke, act}
use Rattle.lz_model.specs.CodeTraces.{at}
use Rattle.lz_model.specs.Programs.{process_of}
use Rattle.lz_model.specs.WithoutLoc.{bare}
use Rattle.lz_store.specs.Answers.{answer_of, state_behind, IsWithin, last_thread}
use Rattle.lz_store.specs.declared.store.Acted.TheVariants as answers
use Rattle.lz_machine.specs.Threads.{Thread, MayDo}
use Rattle.lz_replay.specs.declared.answer.Replayed.TheVariants as replayed
use Rattle.lz_replay.specs.Replays.{Says}
use Rattle.lz_replay.specs.declared.threads.Held.{Held}
use Rattle.lz_replay.specs.declared.threads.Taken.{Taken}
use Rattle.lz_replay.specs.Stands.{Same, NoRun, Stands, Breaks, IsNext, Moves}
use Rattle.lz_replay.specs.Taking.{TakesNone, thread_of, nobody, thread_at, IsHeldOf, IsAdded, HasMadeBy, HasMade}
use Rattle.lz_replay.specs.declared.replaying.Stepped.{Stepped}
use Rattle.lz_replay.specs.declared.replaying.Stepped.TheVariants.{Went, Blocked, Broke}
use Rattle.lz_replay.specs.Replaying.{AreOf, IsReplay, TakesAt, HasActed, HasStepped, broken}
use Rattle.lz_replay.proofs.StandsLemmas.{creates_next, as_many_threads, no_step, is_blocked, is_broken, goes_further}
use Rattle.lz_replay.proofs.RepliesLemmas.{open_program, idle_program, begins, blocked_there as not_further, broke_last, broke_before, came_through}

-- ---- what a store answers

pub went_there : (s : State) (r : Acted) → answer_of r ≡ answers.Went → r ≡ went (state_behind s r)
went_there s (went state) e = refl
went_there s blocked e = absurd cc
went_there s (broke kind) e = absurd cc

pub blocked_there : (r : Acted) → answer_of r ≡ answers.Blocked → r ≡ blocked
blocked_there (went state) e = absurd cc
blocked_there blocked e = refl
blocked_there (broke kind) e = absurd cc

pub broke_there : (r : Acted) (kind : BreakKind) → answer_of r ≡ answers.Broke kind → r ≡ broke kind
broke_there (went state) kind e = absurd cc
broke_there blocked kind e = absurd cc
broke_there (broke other) kind e = let same : other ≡ kind = cc in ap (λ (k : BreakKind). broke k) same

-- the last of a list that is one longer
last_is : (xs : List Held) (x : Held) (k : ℕ) → k ≡ length xs → get_or (xs ++ x ∷ []) k nobody ≡ x
last_is xs x k e = ap (λ (i : ℕ). get_or (xs ++ x ∷ []) i nobody) e ∙ at_end xs
  where
    at_end : (ys : List Held) → get_or (ys ++ x ∷ []) (length ys) nobody ≡ x
    at_end [] = refl
    at_end (y ∷ ys) = at_end ys

before_last : (xs : List Held) (x : Held) (k : ℕ) (d : Held) → k < length xs → get_or (xs ++ x ∷ []) k d ≡ get_or xs k d
before_last [] x k d lt = absurd (let no : ⊥ = omega (arith, lt) in no)
before_last (y ∷ xs) x zero d lt = refl
before_last (y ∷ xs) x (suc k) d lt = before_last xs x k d (omega (arith, lt))

end_is : (xs : List Held) (x : Held) (k : ℕ) (d : Held) → length xs ≤ k → k < length (xs ++ x ∷ []) → get_or (xs ++ x ∷ []) k d ≡ x
end_is [] x zero d le lt = refl
end_is [] x (suc k) d le lt = absurd (let no : ⊥ = omega (arith, lt) in no)
end_is (y ∷ xs) x zero d le lt = absurd (let no : ⊥ = omega (arith, le) in no)
end_is (y ∷ xs) x (suc k) d le lt = end_is xs x k d (omega (arith, le)) (omega (arith, lt))

-- a creation within is of a thread that there is room for
within_is : (a : Action) (start : Start) → started_by a ≡ Some start → IsWithin a → start.thread ≤ last_thread
within_is Loc start e within = absurd cc
within_is (Input v) start e within = absurd cc
within_is (Check v kind) start e within = absurd cc
within_is (Assume v) start e within = absurd cc
within_is (Rd cell v) start e within = absurd cc
within_is (Wr cell v) start e within = absurd cc
within_is (Reset m) start e within = absurd cc
within_is (Lock m) start e within = absurd cc
within_is (Unlock m) start e within = absurd cc
within_is (Park c m) start e within = absurd cc
within_is (Wake c m) start e within = absurd cc
within_is (Signal c w) start e within = absurd cc
within_is (Broadcast c) start e within = absurd cc
within_is (Create d f v) start e within = let same : record { thread = d; routine = f; argument = v } ≡ start = cc in subst (λ (x : Start). x.thread ≤ last_thread) same within
within_is (Join d) start e within = absurd cc
within_is HoldOn start e within = absurd cc
within_is HoldOff start e within = absurd cc
within_is (End w) start e within = absurd cc

module _ (p : ScopedProgram) (n : ℕ) where
  -- ---- the beginning

  pub is_begun : (held : List Held) → IsAdded p None 0 [] held → (s : State) → s ≡ (process_of p n).begins → IsReplay p n [] s held
  is_begun held a s e = subst (λ (x : State). IsReplay p n [] x held) (sym e) (subst (λ (h : List Held). IsReplay p n [] (process_of p n).begins h) (sym a.is) (record {
    stands = begins p n (λ thread. MayDo p n (thread_at (a.last ∷ []) thread)) (record { there = λ acts h. a.begun.begins.back n acts h; back = λ acts h. a.begun.begins.there n acts h });
    count = refl;
    few = omega arith;
    own = record { each = only a.last a.begun.own };
  }))
    where
      only : (one : Held) → IsHeldOf p one → (k : ℕ) (d : Held) → k < 1 → IsHeldOf p (get_or (one ∷ []) k d)
      only one h zero d lt = h
      only one h (suc k) d lt = absurd (let no : ⊥ = omega (arith, lt) in no)

  module _ (steps : List Step) (s : State) (held : List Held) (is : IsReplay p n steps s held) (step : Step) where
    -- ---- nothing is taken

    pub none_taken : (step.thread < length held → TakesNone p n s step.choice (thread_at held step.thread)) → NoRun (bare (process_of p n)) (steps ++ step ∷ [])
    none_taken takes =
        no_step (bare (process_of p n)) (open_program p n) (idle_program p n) steps s (λ thread. MayDo p n (thread_at held thread)) is.stands step
        (λ a made does chosen goes. let count = is.count in let few = is.few in (takes (omega (arith, made, count))).none step.thread (omega (arith, count, few)) a does chosen goes)

    -- ---- an action is taken

    module _ (taken : Taken) (held1 : List Held) (t : TakesAt p n s step held taken held1) where
      next_is : IsNext s step (MayDo p n (thread_at held step.thread)) (at taken.line taken.action)
      next_is = let made = t.made in let count = is.count in t.takes.next_ step refl (omega (arith, made, count))

      pub taken_blocked : act s step.thread taken.action ≡ blocked → NoRun (bare (process_of p n)) (steps ++ step ∷ [])
      taken_blocked b =
          is_blocked (bare (process_of p n)) (open_program p n) (idle_program p n) steps s (λ thread. MayDo p n (thread_at held thread)) is.stands step (at taken.line taken.action) next_is b

      pub taken_broken : (kind : BreakKind) → act s step.thread taken.action ≡ broke kind → Breaks (bare (process_of p n)) (steps ++ step ∷ []) kind taken.line
      taken_broken kind b =
          is_broken (bare (process_of p n)) (open_program p n) (idle_program p n) steps s (λ thread. MayDo p n (thread_at held thread)) is.stands step (at taken.line taken.action) next_is kind b

      -- the threads behind an action that goes
      module _ (after : State) (goes : act s step.thread taken.action ≡ went after) where
        number : length held1 ≡ length s.threads
        number = t.count ∙ is.count

        moves : (more : List Held) → ((u : ℕ) → u < length held1 → thread_at more u ≡ thread_at held1 u)
            → ((start : Start) → started_by taken.action ≡ Some start → start.thread ≡ length s.threads → Same ((bare (process_of p n)).started start.routine start.argument) (MayDo p n (thread_at more (length s.threads))))
            → Moves (bare (process_of p n)) s step.thread (at taken.line taken.action) (λ thread. MayDo p n (thread_at held thread)) (λ thread. MayDo p n (thread_at more thread))
        moves more kept new = record {
          here =
              let made = t.made in
              let count = t.count in
              let same = kept step.thread (omega (arith, made, count)) in
              record {
                there = λ acts h. subst (λ (th : Thread). MayDo p n th acts) (sym same) (t.takes.here.there acts h);
                back = λ acts h. t.takes.here.back acts (subst (λ (th : Thread). MayDo p n th acts) same h);
              };
          others = λ other made differs.
              let k = number in
              let same = kept other (omega (arith, made, k)) ∙ t.others other differs in
              record {
                there = λ acts h. subst (λ (th : Thread). MayDo p n th acts) (sym same) h;
                back = λ acts h. subst (λ (th : Thread). MayDo p n th acts) same h;
              };
          new = new;
        }

        stands_on : (more : List Held) → Moves (bare (process_of p n)) s step.thread (at taken.line taken.action) (λ thread. MayDo p n (thread_at held thread)) (λ thread. MayDo p n (thread_at more thread))
            → Stands (bare (process_of p n)) (steps ++ step ∷ []) after (λ thread. MayDo p n (thread_at more thread))
        stands_on more m =
            goes_further (bare (process_of p n)) (open_program p n) (idle_program p n) steps s (λ thread. MayDo p n (thread_at held thread)) is.stands step (at taken.line taken.action) next_is
            after goes (λ thread. MayDo p n (thread_at more thread)) m

        goes_by : (o : Option Start) → started_by taken.action ≡ o → IsWithin taken.action → (more : List Held) → HasMadeBy p o held1 more → IsReplay p n (steps ++ step ∷ []) after more
        goes_by None none within more made =
            let same = as_many_threads s step.thread taken.action after none goes in
            let k = number in
            let few = is.few in
            let count = t.count in
            let longer = ap (λ (h : List Held). length h) made in
            record {
              stands = stands_on more (moves more (λ u lt. ap (λ (h : List Held). thread_at h u) made) (λ start starts here. absurd (let z : None ≡ Some start = sym none ∙ starts in cc)));
              count = longer ∙ (k ∙ sym same);
              few = omega (arith, longer, count, few);
              own = subst (λ (h : List Held). AreOf p h) (sym made) t.own;
            }
        goes_by (Some start) starts within more made =
            let next = creates_next s step.thread taken.action after start starts goes in
            let k = number in
            let longer = ap (λ (h : List Held). length h) made.is ∙ length-append held1 (made.last ∷ []) in
            let grown = next.1 in
            let below = within_is taken.action start starts within in
            let at_ = next.0 in
            record {
              stands = stands_on more (moves more
                  (λ u lt. ap (λ (h : List Held). thread_at h u) made.is ∙ ap (λ (h : Held). thread_of h) (before_last held1 made.last u nobody lt))
                  (λ other others here. new other others));
              count = omega (arith, longer, k, grown);
              few = omega (arith, longer, k, below, at_);
              own = record { each = λ i d lt. subst (λ (h : List Held). IsHeldOf p (get_or h i d)) (sym made.is) (each i d (subst (λ (h : List Held). i < length h) made.is lt) (ltb i (length held1)) refl) };
            }
          where
            new_thread : thread_at more (length s.threads) ≡ thread_of made.last
            new_thread = ap (λ (h : List Held). thread_at h (length s.threads)) made.is ∙ ap (λ (h : Held). thread_of h) (last_is held1 made.last (length s.threads) (sym number))

            new : (other : Start) → started_by taken.action ≡ Some other → Same ((bare (process_of p n)).started other.routine other.argument) (MayDo p n (thread_at more (length s.threads)))
            new other others =
                let same : start ≡ other = same_start start other (sym starts ∙ others) in
                subst (λ (x : Start). Same ((bare (process_of p n)).started x.routine x.argument) (MayDo p n (thread_at more (length s.threads)))) same (record {
                  there = λ acts h. subst (λ (th : Thread). MayDo p n th acts) (sym new_thread) (made.begun.begins.back n acts h);
                  back = λ acts h. made.begun.begins.there n acts (subst (λ (th : Thread). MayDo p n th acts) new_thread h);
                })
              where
                same_start : (x y : Start) → Some x ≡ Some y → x ≡ y
                same_start x y e = cc

            each : (i : ℕ) (d : Held) → i < length (held1 ++ made.last ∷ []) → (b : Bool) → ltb i (length held1) ≡ b → IsHeldOf p (get_or (held1 ++ made.last ∷ []) i d)
            each i d lt true h = let in_ : i < length held1 = grind (arith, nat_tests) in subst (λ (x : Held). IsHeldOf p x) (sym (before_last held1 made.last i d in_)) (t.own.each i d in_)
            each i d lt false h = let past : length held1 ≤ i = grind (arith, nat_tests) in subst (λ (x : Held). IsHeldOf p x) (sym (end_is held1 made.last i d past lt)) made.begun.own

        pub taken_goes : IsWithin taken.action → (more : List Held) → HasMade p taken.action held1 more → IsReplay p n (steps ++ step ∷ []) after more
        taken_goes within more made = goes_by (started_by taken.action) refl within more made

    -- what is taken comes to a step
    pub steps_on : (taken : Taken) (held1 : List Held) → TakesAt p n s step held taken held1 → (stepped : Stepped) (after : State) (more : List Held) → HasActed p step.thread taken s held1 stepped after more
        → HasStepped p n (steps ++ step ∷ []) stepped after more
    steps_on taken held1 t Went after more h = taken_goes taken held1 t after h.0 h.1 more h.2
    steps_on taken held1 t Blocked after more h = taken_blocked taken held1 t h
    steps_on taken held1 t (Broke kind line) after more h =
        subst (λ (l : ℕ). Breaks (bare (process_of p n)) (steps ++ step ∷ []) kind l) (sym h.1) (taken_broken taken held1 t kind h.0)

  -- the answer where a step breaks a check
  pub broken_says : (schedule : List Step) (i : ℕ) → i < length schedule → (d : Step) (kind : BreakKind) (line : ℕ)
      → Breaks (bare (process_of p n)) (take i schedule ++ get_or schedule i d ∷ []) kind line → Says p n schedule (broken kind line i (length schedule))
  broken_says schedule i lt d kind line b = by (eqb (i + 1) (length schedule)) refl
    where
      by : (c : Bool) → eqb (i + 1) (length schedule) ≡ c → Says p n schedule (cond c (replayed.Broke kind line (i + 1)) (replayed.NotARun (i + 1)))
      by true h = let all = eqb-true (i + 1) (length schedule) h in broke_last p n schedule i lt d kind line (i + 1) b all all
      by false h = broke_before p n schedule i lt d kind line b (eqb-false (i + 1) (length schedule) h)

  -- no run has the next step
  pub none_says : (schedule : List Step) (i : ℕ) → i < length schedule → (d : Step) (s : State) (held : List Held) → IsReplay p n (take i schedule) s held
      → NoRun (bare (process_of p n)) (take i schedule ++ get_or schedule i d ∷ []) → Says p n schedule (replayed.NotARun i)
  none_says schedule i lt d s held is none = not_further p n schedule i lt d s (λ thread. MayDo p n (thread_at held thread)) is.stands none

  -- all steps are taken
  pub all_says : (schedule : List Step) (i : ℕ) (s : State) (held : List Held) → IsReplay p n (take i schedule) s held → length schedule ≤ i → Says p n schedule (replayed.Holds (length schedule))
  all_says schedule i s held is all = came_through p n schedule (length schedule) i s (λ thread. MayDo p n (thread_at held thread)) is.stands all refl

  pub one_more : (schedule : List Step) (i : ℕ) → i < length schedule → (d : Step) (s : State) (held : List Held) → IsReplay p n (take i schedule ++ get_or schedule i d ∷ []) s held → IsReplay p n (take (i + 1) schedule) s held
  one_more schedule i lt d s held is = subst (λ (steps : List Step). IsReplay p n steps s held) (sym (take_more schedule i d lt)) is

  -- ---- what a turn came to

  pub turn_went : (schedule : List Step) (i : ℕ) → i < length schedule → (d : Step) (stepped : Stepped) (s : State) (held : List Held)
      → HasStepped p n (take i schedule ++ get_or schedule i d ∷ []) stepped s held → stepped ≡ Went → IsReplay p n (take (i + 1) schedule) s held
  turn_went schedule i lt d stepped s held h e = one_more schedule i lt d s held (subst (λ (x : Stepped). HasStepped p n (take i schedule ++ get_or schedule i d ∷ []) x s held) e h)

  pub turn_blocked : (schedule : List Step) (i : ℕ) → i < length schedule → (d : Step) (stepped : Stepped) (s after : State) (held more : List Held) → IsReplay p n (take i schedule) s held
      → HasStepped p n (take i schedule ++ get_or schedule i d ∷ []) stepped after more → stepped ≡ Blocked → Says p n schedule (replayed.NotARun i)
  turn_blocked schedule i lt d stepped s after held more is h e =
      none_says schedule i lt d s held is (subst (λ (x : Stepped). HasStepped p n (take i schedule ++ get_or schedule i d ∷ []) x after more) e h)

  pub turn_broke : (schedule : List Step) (i : ℕ) → i < length schedule → (d : Step) (stepped : Stepped) (after : State) (more : List Held) (kind : BreakKind) (line : ℕ)
      → HasStepped p n (take i schedule ++ get_or schedule i d ∷ []) stepped after more → stepped ≡ Broke kind line → Says p n schedule (broken kind line i (length schedule))
  turn_broke schedule i lt d stepped after more kind line h e =
      broken_says schedule i lt d kind line (subst (λ (x : Stepped). HasStepped p n (take i schedule ++ get_or schedule i d ∷ []) x after more) e h)
