-- The answer of a thread that came so far: what it may do is nothing, or what comes behind the answer.
use Rattle.std.proofs.Common.{◌≡◌, ℕ, zero, suc, ◌+◌, ◌<◌, ◌≤◌, ◌%◌, ◌⊎◌, inl, inr, Bool, false, List, [], ◌∷◌, Option, Some, None, refl, sym, ◌∙◌, ap, subst, arith}
use Rattle.std.proofs.Math.Nat.{mod-eq_of_lt}
use Rattle.std.proofs.lemmas.Nat.{mod_below}
use Rattle.lz_base.specs.Words.{value_bound}
use Rattle.lz_base.specs.declared.word.IntType.{IntType}
use Rattle.lz_tree.specs.ScopedTrees.{ScopedProgram}
use Rattle.lz_model.specs.declared.actions.Action.{Action}
use Rattle.lz_model.specs.declared.actions.Action.TheVariants.{Loc, Input, Check, Assume, Rd, Wr, Reset, Lock, Unlock, Park, Wake, Signal, Broadcast, Create, Join, HoldOn, HoldOff, End}
use Rattle.lz_model.specs.Actions.{Act, is_loc, Start, started_by}
use Rattle.lz_model.specs.Behaviours.{halts, updates, stays, chooses, ◌and_then◌}
use Rattle.lz_model.specs.CodeTraces.{Locals, at, IsWord, IsAny, IsValueOf}
use Rattle.lz_model.specs.Programs.{numbered_after}
use Rattle.lz_turns.proofs.SeenLemmas.{alike_same, alike_alike}
use Rattle.lz_stations.specs.Stations.{acts, reads, asks, signals, creates, calls_on}
use Rattle.lz_turns.specs.Nears.{IsPlain}
use Rattle.lz_machine.specs.Threads.{Frame, frames_trace, Running, Standing, going, failed, stopped, ended, outside, Acts, Comes, MayGo}
use Rattle.lz_machine.specs.Answers as answers
use Rattle.lz_machine.specs.Answers.{Answer, has_ended, is_cut, woken_by, HasChosen, IsChosen, StandsFor, IsAsked, IsBehind, IsGoing, StandsBehind, CutBehind, Causes, Answers}
use Rattle.lz_machine.specs.Turns.{Turned, again, pausing, failing, refusing, leaving, stopping, ending, turned_trace, handles_behind, IsPausing, Turns, running_with, going_on, answer_to, standing_behind, HasCome}
use Rattle.lz_machine.proofs.ActionsLemmas.{acts_leads, acts_head, acts_back, acts_choice, acts_chosen, acts_halts, acts_ends, ends_acts, acts_leaves, leaves_acts}

-- ---- plain actions

record Plain (a : Action) : Type 0 where
  visible : is_loc a ≡ false
  quiet : started_by a ≡ None
  itself : StandsFor a a
  only : (other : Action) → StandsFor a other → other ≡ a
  behind : (running : Running) → StandsBehind a (going running)
  chosen : (choice : ℕ) → HasChosen choice a

plain : (a : Action) → IsPlain a → Plain a
plain Loc h = absurd h
plain (Input value) h = absurd h
plain (Check zero kind) h = absurd h
plain (Check (suc value) kind) h = record { visible = refl; quiet = refl; itself = refl; only = λ other e. e; behind = λ r. tt; chosen = λ c. tt }
plain (Assume zero) h = absurd h
plain (Assume (suc value)) h = record { visible = refl; quiet = refl; itself = refl; only = λ other e. e; behind = λ r. tt; chosen = λ c. tt }
plain (Rd cell value) h = absurd h
plain (Wr cell value) h = record { visible = refl; quiet = refl; itself = refl; only = λ other e. e; behind = λ r. tt; chosen = λ c. tt }
plain (Reset mutex) h = record { visible = refl; quiet = refl; itself = refl; only = λ other e. e; behind = λ r. tt; chosen = λ c. tt }
plain (Lock mutex) h = record { visible = refl; quiet = refl; itself = refl; only = λ other e. e; behind = λ r. tt; chosen = λ c. tt }
plain (Unlock mutex) h = record { visible = refl; quiet = refl; itself = refl; only = λ other e. e; behind = λ r. tt; chosen = λ c. tt }
plain (Park cond mutex) h = record { visible = refl; quiet = refl; itself = refl; only = λ other e. e; behind = λ r. tt; chosen = λ c. tt }
plain (Wake cond mutex) h = record { visible = refl; quiet = refl; itself = refl; only = λ other e. e; behind = λ r. tt; chosen = λ c. tt }
plain (Signal cond woken) h = absurd h
plain (Broadcast cond) h = record { visible = refl; quiet = refl; itself = refl; only = λ other e. e; behind = λ r. tt; chosen = λ c. tt }
plain (Create thread routine value) h = absurd h
plain (Join thread) h = record { visible = refl; quiet = refl; itself = refl; only = λ other e. e; behind = λ r. tt; chosen = λ c. tt }
plain HoldOn h = record { visible = refl; quiet = refl; itself = refl; only = λ other e. e; behind = λ r. tt; chosen = λ c. tt }
plain HoldOff h = record { visible = refl; quiet = refl; itself = refl; only = λ other e. e; behind = λ r. tt; chosen = λ c. tt }
plain (End whole) h = absurd h

with_head : (a b : Act) (rest : List Act) → a ≡ b → a ∷ rest ≡ b ∷ rest
with_head a b rest e = ap (λ (x : Act). x ∷ rest) e

asked_value : (choice line v : ℕ) (first : Act) → first ≡ at line (Input v) → answers.HasChoice choice first.action → v < value_bound → v ≡ choice % value_bound
asked_value choice line v first e asked below =
    let asks : (v ≡ choice) ⊎ (v ≡ choice % value_bound) = subst (λ (a : Act). answers.HasChoice choice a.action) e asked in
    elim asks [ inl is ↦ sym (mod-eq_of_lt below) ∙ ap (λ (x : ℕ). x % value_bound) is | inr is ↦ is ]

read_same : (line cell c d : ℕ) → at line (Rd cell c) ≡ at line (Rd cell d) → c ≡ d
read_same line cell c d e = let is : Rd cell c ≡ Rd cell d = ap (λ (a : Act). a.action) e in cc

input_same : (line c d : ℕ) → at line (Input c) ≡ at line (Input d) → c ≡ d
input_same line c d e = let is : Input c ≡ Input d = ap (λ (a : Act). a.action) e in cc

signal_same : (line cond : ℕ) (c d : Option ℕ) → at line (Signal cond c) ≡ at line (Signal cond d) → c ≡ d
signal_same line cond c d e = let is : Signal cond c ≡ Signal cond d = ap (λ (a : Act). a.action) e in cc

create_same : (line routine value c d : ℕ) → at line (Create c routine value) ≡ at line (Create d routine value) → c ≡ d
create_same line routine value c d e = let is : Create c routine value ≡ Create d routine value = ap (λ (a : Act). a.action) e in cc

module _ (p : ScopedProgram) (n : ℕ) where
  -- ---- turns, one after the other

  pub no_turn : (running : Running) → Turns p n running (again running)
  no_turn running = record { least = 0; same = λ depth h. alike_same; fits = refl }

  fits_on : (turned : Turned) (a b : ℕ) → b ≡ a → IsPausing turned b → IsPausing turned a
  fits_on turned a b e h = subst (λ (x : ℕ). IsPausing turned x) e h

  pub turn_again : {one two : Running} {turned : Turned} → Turns p n one (again two) → Turns p n two turned → Turns p n one turned
  turn_again {one} {two} {turned} a b = record {
    least = a.least + b.least;
    same = λ depth h. alike_alike (a.same depth (omega (arith, h))) (b.same depth (omega (arith, h)));
    fits = fits_on turned one.made two.made a.fits b.fits;
  }

  module _ (whole : Bool) where
    -- ---- from a thread to where it came, and back

    led : {running : Running} {turned : Turned} → (t : Turns p n running turned) → (first : Act) (rest : List Act) → (c : Comes p n whole running (first ∷ rest))
        → (depth : ℕ) → c.least + t.least ≤ depth → Acts (turned_trace p n depth turned) (outside (handles_behind turned)) whole running.made (first ∷ rest)
    led {running} {turned} t first rest c depth h =
        elim (acts_leads (t.same depth (omega (arith, h))).there whole running.made (first ∷ rest) (c.does depth (omega (arith, h)))) [
          | inl e ↦ absurd cc
          | inr y ↦ y
        ]

    back_led : {running : Running} {turned : Turned} → (t : Turns p n running turned) → (first : Act) (rest : List Act) (least : ℕ)
        → ((depth : ℕ) → least ≤ depth → Acts (turned_trace p n depth turned) (outside (handles_behind turned)) whole running.made (first ∷ rest)) → MayGo p n whole (going running) (first ∷ rest)
    back_led {running} t first rest least f = inr (record {
      least = least + t.least;
      does = λ depth h. elim (acts_leads (t.same depth (omega (arith, h))).back whole running.made (first ∷ rest) (f depth (omega (arith, h)))) [
        | inl e ↦ absurd cc
        | inr y ↦ y
      ];
    })

    -- what a thread may do, at each depth
    gather : (frames : List Frame) (handles : List ℕ) (given made : ℕ) (list : List Act) (least : ℕ)
        → ((depth : ℕ) → least ≤ depth → (list ≡ []) ⊎ Acts (frames_trace p n depth frames given) (outside handles) whole made list) → MayGo p n whole (going (running_with frames handles given made)) list
    gather frames handles given made [] least f = inl refl
    gather frames handles given made (first ∷ rest) least f = inr (record { least = least; does = λ depth h. elim (f depth h) [ inl e ↦ absurd cc | inr y ↦ y ] })

    scatter : (frames : List Frame) (handles : List ℕ) (given made : ℕ) (list : List Act) → MayGo p n whole (going (running_with frames handles given made)) list
        → (least : ℕ) × ((depth : ℕ) → least ≤ depth → (list ≡ []) ⊎ Acts (frames_trace p n depth frames given) (outside handles) whole made list)
    scatter frames handles given made list (inl e) = (0, λ depth h. inl e)
    scatter frames handles given made list (inr c) = (c.least, λ depth h. inr (c.does depth h))

    -- ---- one action

    module _ (frames : List Frame) (handles : List ℕ) (made : ℕ) where
      -- what may follow it, numbered on
      follow : (o : Option Start) (given : ℕ) (rest : List Act) (least : ℕ)
          → ((depth : ℕ) → least ≤ depth → numbered_after o made (λ (k : ℕ). (rest ≡ []) ⊎ Acts (frames_trace p n depth frames given) (outside handles) whole k rest))
          → numbered_after o made (λ (k : ℕ). MayGo p n whole (going (running_with frames handles given k)) rest)
      follow None given rest least f = gather frames handles given made rest least f
      follow (Some start) given rest least f = ((f least (omega arith)).0, gather frames handles given (suc made) rest least (λ depth h. (f depth h).1))

      unfollow : (o : Option Start) (given : ℕ) (rest : List Act) → numbered_after o made (λ (k : ℕ). MayGo p n whole (going (running_with frames handles given k)) rest)
          → (least : ℕ) × ((depth : ℕ) → least ≤ depth → numbered_after o made (λ (k : ℕ). (rest ≡ []) ⊎ Acts (frames_trace p n depth frames given) (outside handles) whole k rest))
      unfollow None given rest h = scatter frames handles given made rest h
      unfollow (Some start) given rest h = let s = scatter frames handles given (suc made) rest h.1 in (s.0, λ depth le. (h.0, s.1 depth le))

      act_there : (act : Act) (given : ℕ) (first : Act) (rest : List Act) (least : ℕ) → is_loc act.action ≡ false
          → ((depth : ℕ) → least ≤ depth → Acts (updates act stays given and_then λ v. frames_trace p n depth frames v) (outside handles) whole made (first ∷ rest))
          → (first ≡ act) × numbered_after (started_by act.action) made (λ (k : ℕ). MayGo p n whole (going (running_with frames handles given k)) rest)
      act_there act given first rest least visible f =
          let on : (depth : ℕ) → least ≤ depth → (first ≡ act) × numbered_after (started_by act.action) made (λ (k : ℕ). (rest ≡ []) ⊎ Acts (frames_trace p n depth frames given) (outside handles) whole k rest) =
          λ depth h. acts_head act given (λ v. frames_trace p n depth frames v) (outside handles) whole visible made first rest (f depth h) in
          ((on least (omega arith)).0, follow (started_by act.action) given rest least (λ depth h. (on depth h).1))

      act_back : (act : Act) (given : ℕ) (rest : List Act) → is_loc act.action ≡ false → numbered_after (started_by act.action) made (λ (k : ℕ). MayGo p n whole (going (running_with frames handles given k)) rest)
          → (least : ℕ) × ((depth : ℕ) → least ≤ depth → Acts (updates act stays given and_then λ v. frames_trace p n depth frames v) (outside handles) whole made (act ∷ rest))
      act_back act given rest visible h =
          let u = unfollow (started_by act.action) given rest h in
          (u.0, λ depth le. acts_back act given (λ v. frames_trace p n depth frames v) (outside handles) whole visible made rest (u.1 depth le))

      -- ---- a choice of actions

      module _ {C : Type 0} (may : C → Type 0) (act : C → Act) (given : C → ℕ) (visible : (c : C) → is_loc (act c).action ≡ false) (same : (c d : C) → act c ≡ act d → c ≡ d) where
        choice_there : (first : Act) (rest : List Act) (least : ℕ)
            → ((depth : ℕ) → least ≤ depth → Acts ((chooses may λ c. updates (act c) stays (given c)) and_then λ v. frames_trace p n depth frames v) (outside handles) whole made (first ∷ rest))
            → (c : C) × may c × (first ≡ act c) × numbered_after (started_by (act c).action) made (λ (k : ℕ). MayGo p n whole (going (running_with frames handles (given c) k)) rest)
        choice_there first rest least f =
            let on : (depth : ℕ) → least ≤ depth → (c : C) × may c × Acts (updates (act c) stays (given c) and_then λ v. frames_trace p n depth frames v) (outside handles) whole made (first ∷ rest) =
            λ depth h. acts_choice may (λ c. updates (act c) stays (given c)) (λ v. frames_trace p n depth frames v) (outside handles) whole made (first ∷ rest) (f depth h) in
            let head : (depth : ℕ) (h : least ≤ depth) → first ≡ act (on depth h).0 =
            λ depth h. (acts_head (act (on depth h).0) (given (on depth h).0) (λ v. frames_trace p n depth frames v) (outside handles) whole (visible (on depth h).0) made first rest (on depth h).2).0 in
            let reach : least ≤ least = omega arith in
            let start = on least reach in
            let all : (depth : ℕ) → least ≤ depth → Acts (updates (act start.0) stays (given start.0) and_then λ v. frames_trace p n depth frames v) (outside handles) whole made (first ∷ rest) =
            λ depth h. subst (λ (c : C). Acts (updates (act c) stays (given c) and_then λ v. frames_trace p n depth frames v) (outside handles) whole made (first ∷ rest))
            (same (on depth h).0 start.0 (sym (head depth h) ∙ head least reach)) (on depth h).2 in
            let one = act_there (act start.0) (given start.0) first rest least (visible start.0) all in
            (start.0, start.1, one.0, one.1)

        choice_back : (c : C) → may c → (rest : List Act) → numbered_after (started_by (act c).action) made (λ (k : ℕ). MayGo p n whole (going (running_with frames handles (given c) k)) rest)
            → (least : ℕ) × ((depth : ℕ) → least ≤ depth → Acts ((chooses may λ c. updates (act c) stays (given c)) and_then λ v. frames_trace p n depth frames v) (outside handles) whole made (act c ∷ rest))
        choice_back c m rest h =
            let u = act_back (act c) (given c) rest (visible c) h in
            (u.0, λ depth le. acts_chosen may (λ c. updates (act c) stays (given c)) (λ v. frames_trace p n depth frames v) (outside handles) whole c m made (act c ∷ rest) (u.1 depth le))

    -- ---- answers

    -- the number of the next thread is the same where it came
    renumbered : (made : ℕ) (two : Running) (given : ℕ) (rest : List Act) → two.made ≡ made → MayGo p n whole (going (running_with two.frames two.handles given made)) rest → MayGo p n whole (going (running_with two.frames two.handles given two.made)) rest
    renumbered made two given rest e h = subst (λ (k : ℕ). MayGo p n whole (going (running_with two.frames two.handles given k)) rest) (sym e) h

    numbered_back : (made : ℕ) (two : Running) (given : ℕ) (rest : List Act) → two.made ≡ made → MayGo p n whole (going (running_with two.frames two.handles given two.made)) rest → MayGo p n whole (going (running_with two.frames two.handles given made)) rest
    numbered_back made two given rest e h = subst (λ (k : ℕ). MayGo p n whole (going (running_with two.frames two.handles given k)) rest) e h

    -- a check or an assumption of 0
    last_there : (act : Act) → is_loc act.action ≡ false → started_by act.action ≡ None → (s : Locals) (made : ℕ) (first : Act) (rest : List Act)
        → Acts (updates act stays zero and_then λ _. halts) s whole made (first ∷ rest) → (first ≡ act) × (rest ≡ [])
    last_there act visible unstarted s made first rest a =
        let y = acts_head act zero (λ _. halts) s whole visible made first rest a in
        let z : (rest ≡ []) ⊎ Acts halts s whole made rest = subst (λ (o : Option Start). numbered_after o made (λ (k : ℕ). (rest ≡ []) ⊎ Acts halts s whole k rest)) unstarted y.1 in
        (y.0, elim z [ inl e ↦ e | inr h ↦ acts_halts s whole made rest h ])

    last_acts : (act : Act) (s : Locals) (made : ℕ) → is_loc act.action ≡ false → started_by act.action ≡ None → Acts (updates act stays zero and_then λ _. halts) s whole made (act ∷ [])
    last_acts act s made visible unstarted =
        acts_back act zero (λ _. halts) s whole visible made []
        (subst (λ (o : Option Start). numbered_after o made (λ (k : ℕ). (◌≡◌ {A = List Act} [] []) ⊎ Acts halts s whole k [])) (sym unstarted) (inl refl))

    module _ (choice : ℕ) {running : Running} where
      -- the answer of a thread that came to something, from both directions
      answering : (answer : Answer) (after : Standing)
          → ((first : Act) (rest : List Act) → IsAsked choice (first ∷ rest) → Comes p n whole running (first ∷ rest) → IsBehind p n answer (record { standing = after; whole = whole }) (first ∷ rest))
          → ((list : List Act) → IsBehind p n answer (record { standing = after; whole = whole }) list → MayGo p n whole (going running) list)
          → IsChosen choice answer → Causes (going running) answer after
          → Answers p n choice (record { standing = going running; whole = whole }) answer (record { standing = after; whole = whole })
      answering answer after f g chosen causes = record { there = of; back = λ list b. g list b; chosen = chosen; causes = causes; whole = refl }
        where
          of : (list : List Act) → IsAsked choice list → MayGo p n whole (going running) list → (list ≡ []) ⊎ IsBehind p n answer (record { standing = after; whole = whole }) list
          of [] asked h = inl refl
          of (first ∷ rest) asked (inl e) = absurd cc
          of (first ∷ rest) asked (inr c) = inr (f first rest asked c)

      found_at : (list other : List Act) → list ≡ other → MayGo p n whole (going running) other → MayGo p n whole (going running) list
      found_at list other e h = subst (λ (x : List Act). MayGo p n whole (going running) x) (sym e) h

      plain_answer : (action : Action) (line : ℕ) (two : Running) → Turns p n running (pausing (acts action line) two)
          → Answers p n choice (record { standing = going running; whole = whole }) (answers.acts action line) (record { standing = going_on two 0 two.made; whole = whole })
      plain_answer action line two t =
          let pl = plain action t.fits.0 in
          answering (answers.acts action line) (going_on two 0 two.made)
          (λ first rest asked c.
          let one = act_there two.frames two.handles running.made (at line action) zero first rest (c.least + t.least) pl.visible (λ depth h. led t first rest c depth h) in
          let may = subst (λ (o : Option Start). numbered_after o running.made (λ (k : ℕ). MayGo p n whole (going (running_with two.frames two.handles zero k)) rest)) pl.quiet one.1 in
          (action, rest, pl.itself, with_head first (at line action) rest one.0, renumbered running.made two zero rest t.fits.1 may))
          (λ list b.
          let may = numbered_back running.made two zero b.1 t.fits.1 b.4 in
          let u = act_back two.frames two.handles running.made (at line action) zero b.1 pl.visible
          (subst (λ (o : Option Start). numbered_after o running.made (λ (k : ℕ). MayGo p n whole (going (running_with two.frames two.handles zero k)) b.1)) (sym pl.quiet) may) in
          found_at list (at line action ∷ b.1) (b.3 ∙ ap (λ (a : Action). at line a ∷ b.1) (pl.only b.0 b.2)) (back_led t (at line action) b.1 u.0 u.1))
          (pl.chosen choice) (tt, pl.behind (running_with two.frames two.handles 0 two.made))

      read_answer : (cell line : ℕ) (two : Running) → Turns p n running (pausing (reads cell line) two)
          → Answers p n choice (record { standing = going running; whole = whole }) (answers.reads cell line) (record { standing = going_on two 0 two.made; whole = whole })
      read_answer cell line two t =
          let act : ℕ → Act = λ c. at line (Rd cell c) in
          let same : (c d : ℕ) → act c ≡ act d → c ≡ d = read_same line cell in
          answering (answers.reads cell line) (going_on two 0 two.made)
          (λ first rest asked c.
          let x = choice_there two.frames two.handles running.made IsWord act (λ c. c) (λ c. refl) same first rest (c.least + t.least) (λ depth h. led t first rest c depth h) in
          (x.0, rest, x.1, with_head first (act x.0) rest x.2, renumbered running.made two x.0 rest t.fits.1 x.3))
          (λ list b.
          let u = choice_back two.frames two.handles running.made IsWord act (λ c. c) (λ c. refl) same b.0 b.2 b.1 (numbered_back running.made two b.0 b.1 t.fits.1 b.4) in
          found_at list (act b.0 ∷ b.1) b.3 (back_led t (act b.0) b.1 u.0 u.1))
          tt (tt, tt)

      input_answer : (line : ℕ) (kind : IntType) (two : Running) → Turns p n running (pausing (asks line kind) two)
          → Answers p n choice (record { standing = going running; whole = whole }) (answers.acts (Input (choice % value_bound)) line) (record { standing = going_on two (choice % value_bound) two.made; whole = whole })
      input_answer line kind two t =
          let act : ℕ → Act = λ c. at line (Input c) in
          let same : (c d : ℕ) → act c ≡ act d → c ≡ d = input_same line in
          let value = choice % value_bound in
          answering (answers.acts (Input value) line) (going_on two value two.made)
          (λ first rest asked c.
          let x = choice_there two.frames two.handles running.made (IsValueOf kind) act (λ c. c) (λ c. refl) same first rest (c.least + t.least) (λ depth h. led t first rest c depth h) in
          let is = asked_value choice line x.0 first x.2 asked x.1 in (
            Input x.0,
            rest,
            ap (λ (v : ℕ). Input v) is,
            with_head first (act x.0) rest x.2,
            renumbered running.made two value rest t.fits.1 (subst (λ (v : ℕ). MayGo p n whole (going (running_with two.frames two.handles v running.made)) rest) is x.3),
          ))
          (λ list b.
          let u = choice_back two.frames two.handles running.made (IsValueOf kind) act (λ c. c) (λ c. refl) same value (mod_below choice value_bound (omega arith)) b.1 (numbered_back running.made two value b.1 t.fits.1 b.4) in
          found_at list (act value ∷ b.1) (b.3 ∙ ap (λ (a : Action). at line a ∷ b.1) b.2) (back_led t (act value) b.1 u.0 u.1))
          refl (tt, tt)

      signal_answer : (cond line : ℕ) (two : Running) → Turns p n running (pausing (signals cond line) two)
          → Answers p n choice (record { standing = going running; whole = whole }) (answers.acts (Signal cond (woken_by choice)) line) (record { standing = going_on two 0 two.made; whole = whole })
      signal_answer cond line two t =
          let act : Option ℕ → Act = λ c. at line (Signal cond c) in
          let same : (c d : Option ℕ) → act c ≡ act d → c ≡ d = signal_same line cond in
          answering (answers.acts (Signal cond (woken_by choice)) line) (going_on two 0 two.made)
          (λ first rest asked c.
          let x = choice_there two.frames two.handles running.made IsAny act (λ c. 0) (λ c. refl) same first rest (c.least + t.least) (λ depth h. led t first rest c depth h) in
          (Signal cond x.0, rest, (x.0, refl), with_head first (act x.0) rest x.2, renumbered running.made two 0 rest t.fits.1 x.3))
          (λ list b.
          let u = choice_back two.frames two.handles running.made IsAny act (λ c. 0) (λ c. refl) same b.2.0 tt b.1 (numbered_back running.made two 0 b.1 t.fits.1 b.4) in
          found_at list (act b.2.0 ∷ b.1) (b.3 ∙ ap (λ (a : Action). at line a ∷ b.1) b.2.1) (back_led t (act b.2.0) b.1 u.0 u.1))
          refl (tt, tt)

      create_answer : (routine value line : ℕ) (two : Running) → Turns p n running (pausing (creates routine value line) two)
          → Answers p n choice (record { standing = going running; whole = whole }) (answers.acts (Create two.made routine value) line) (record { standing = going_on two two.made (suc two.made); whole = whole })
      create_answer routine value line two t =
          let act : ℕ → Act = λ c. at line (Create c routine value) in
          let same : (c d : ℕ) → act c ≡ act d → c ≡ d = create_same line routine value in
          answering (answers.acts (Create two.made routine value) line) (going_on two two.made (suc two.made))
          (λ first rest asked c.
          let x = choice_there two.frames two.handles running.made IsAny act (λ c. c) (λ c. refl) same first rest (c.least + t.least) (λ depth h. led t first rest c depth h) in
          let is : x.0 ≡ two.made = x.3.0 ∙ sym t.fits.1 in
          let one = subst (λ (k : ℕ). MayGo p n whole (going (running_with two.frames two.handles x.0 (suc k))) rest) (sym t.fits.1) x.3.1 in (
            Create x.0 routine value,
            rest,
            ap (λ (d : ℕ). Create d routine value) is,
            with_head first (act x.0) rest x.2,
            subst (λ (v : ℕ). MayGo p n whole (going (running_with two.frames two.handles v (suc two.made))) rest) is one,
          ))
          (λ list b.
          let one = subst (λ (k : ℕ). MayGo p n whole (going (running_with two.frames two.handles two.made (suc k))) b.1) t.fits.1 b.4 in
          let u = choice_back two.frames two.handles running.made IsAny act (λ c. c) (λ c. refl) same two.made tt b.1 (t.fits.1, one) in
          found_at list (act two.made ∷ b.1) (b.3 ∙ ap (λ (a : Action). at line a ∷ b.1) b.2) (back_led t (act two.made) b.1 u.0 u.1))
          tt (tt, tt)

      -- an action behind which nothing comes
      last_answer : (action : Action) (line : ℕ) (after : Standing) (turned : Turned) → Turns p n running turned → is_loc action ≡ false → started_by action ≡ None → StandsFor action action → ((other : Action) → StandsFor action other → other ≡ action)
          → ((depth : ℕ) (first : Act) (rest : List Act) → Acts (turned_trace p n depth turned) (outside (handles_behind turned)) whole running.made (first ∷ rest) → (first ≡ at line action) × (rest ≡ []))
          → ((depth : ℕ) → Acts (turned_trace p n depth turned) (outside (handles_behind turned)) whole running.made (at line action ∷ []))
          → ((list : List Act) → list ≡ [] → MayGo p n whole after list) → ((list : List Act) → MayGo p n whole after list → list ≡ [])
          → HasChosen choice action → StandsBehind action after
          → Answers p n choice (record { standing = going running; whole = whole }) (answers.acts action line) (record { standing = after; whole = whole })
      last_answer action line after turned t visible unstarted itself only there one none nothing chosen stands =
          answering (answers.acts action line) after
          (λ first rest asked c.
          let x = there (c.least + t.least) first rest (led t first rest c (c.least + t.least) (omega arith)) in
          (action, rest, itself, with_head first (at line action) rest x.0, none rest x.1))
          (λ list b.
          found_at list (at line action ∷ []) (b.3 ∙ (ap (λ (a : Action). at line a ∷ b.1) (only b.0 b.2) ∙ ap (λ (x : List Act). at line action ∷ x) (nothing b.1 b.4)))
          (back_led t (at line action) [] 0 (λ depth h. one depth)))
          chosen (tt, stands)

      -- The answer of a thread that came to an action, or to its end.
      pub answers_so : (turned : Turned) → Turns p n running turned → HasCome turned
          → Answers p n choice (record { standing = going running; whole = whole }) (answer_to choice whole turned) (record { standing = standing_behind choice turned; whole = whole })
      answers_so (again two) t h = absurd h
      answers_so (pausing (acts action line) two) t h = plain_answer action line two t
      answers_so (pausing (reads cell line) two) t h = read_answer cell line two t
      answers_so (pausing (asks line kind) two) t h = input_answer line kind two t
      answers_so (pausing (signals cond line) two) t h = signal_answer cond line two t
      answers_so (pausing (creates routine value line) two) t h = create_answer routine value line two t
      answers_so (pausing (calls_on function kinds values) two) t h = absurd t.fits
      answers_so (failing kind line) t h =
          last_answer (Check 0 kind) line failed (failing kind line) t refl refl refl (λ other e. e)
          (λ depth first rest a. last_there (at line (Check 0 kind)) refl refl _ _ first rest a) (λ depth. last_acts (at line (Check 0 kind)) _ _ refl refl) (λ list e. e) (λ list e. e) tt refl
      answers_so (refusing line) t h =
          last_answer (Assume 0) line failed (refusing line) t refl refl refl (λ other e. e)
          (λ depth first rest a. last_there (at line (Assume 0)) refl refl _ _ first rest a) (λ depth. last_acts (at line (Assume 0)) _ _ refl refl) (λ list e. e) (λ list e. e) tt refl
      answers_so leaving t h =
          last_answer (End false) 0 ended leaving t refl refl refl (λ other e. e)
          (λ depth first rest a. acts_leaves _ whole _ false first rest a) (λ depth. leaves_acts _ whole _ false) (λ list e. e) (λ list e. e) tt refl
      answers_so (ending value handles) t h =
          last_answer (End whole) 0 ended (ending value handles) t refl refl refl (λ other e. e)
          (λ depth first rest a. acts_ends _ whole _ value first rest a) (λ depth. ends_acts _ whole _ value) (λ list e. e) (λ list e. e) tt refl
      answers_so stopping t h =
          answering is_cut stopped
          (λ first rest asked c. let e = acts_halts _ whole _ (first ∷ rest) (led t first rest c (c.least + t.least) (omega arith)) in absurd cc)
          (λ list b. absurd b) tt refl

    -- a thread that ended, or was cut, answers so again
    pub answers_ended : (choice : ℕ) → Answers p n choice (record { standing = ended; whole = whole }) has_ended (record { standing = ended; whole = whole })
    answers_ended choice = record { there = λ list asked h. inl h; back = λ list b. absurd b; chosen = tt; causes = (refl, refl); whole = refl }

    pub answers_failed : (choice : ℕ) → Answers p n choice (record { standing = failed; whole = whole }) is_cut (record { standing = failed; whole = whole })
    answers_failed choice = record { there = λ list asked h. inl h; back = λ list b. absurd b; chosen = tt; causes = refl; whole = refl }

    pub answers_stopped : (choice : ℕ) → Answers p n choice (record { standing = stopped; whole = whole }) is_cut (record { standing = stopped; whole = whole })
    answers_stopped choice = record { there = λ list asked h. inl h; back = λ list b. absurd b; chosen = tt; causes = refl; whole = refl }

  -- all calls of a thread are done
  pub turn_ends : (handles : List ℕ) (v made : ℕ) → Turns p n (running_with [] handles v made) (ending v handles)
  turn_ends handles v made = record { least = 0; same = λ depth h. alike_same; fits = tt }
