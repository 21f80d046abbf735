-- A turn of a thread, from what the body of its innermost call came to.
use Rattle.std.proofs.Common.{◌≡◌, ℕ, zero, suc, ◌<◌, true, false, List, [], ◌∷◌, length, Some, None, slice_get, refl, sym, ◌∙◌, ap, subst, arith}
use Rattle.std.proofs.lemmas.Option.{get_or_from_slice_get}
use Rattle.std.proofs.lemmas.List.Elements.{All-get_or}
use Rattle.lz_tree.specs.Calls.{IsCallOrder}
use Rattle.lz_tree.specs.ScopedTrees.{ScopedStatement, ScopedDefinition, ScopedProgram}
use Rattle.lz_model.specs.CodeTraces.{entered, passed}
use Rattle.lz_model.specs.Programs.{function_at}
use Rattle.lz_stations.specs.StatementNears.{StatementNears, statement_left}
use Rattle.lz_stations.specs.Stations.{at_station, start, acts, reads, asks, signals, creates, calls_on, Reached, leads, pauses, fails, refuses, quits, stops}
use Rattle.lz_stations.specs.StatementFits.{IsFitStatement}
use Rattle.lz_stations.specs.Walks.{StatementComes}
use Rattle.lz_machine.specs.Threads.{Frame, Running, outside, AreOf}
use Rattle.lz_machine.specs.Turns.{IsPlainReached, Turned, again, Turns, running_with, turned_by, HasCome}
use Rattle.lz_machine.specs.Weights.{weight, IsLighter, StaysOf, Advances, Arrives}
use Rattle.lz_machine.specs.Starts.{AreFitBodies}
use Rattle.lz_machine.specs.declared.running.Running as held_running
use Rattle.lz_machine.specs.declared.turn.Turned as held
use Rattle.lz_machine.specs.declared.turn.Turned.TheVariants as code_turned
use Rattle.lz_machine.specs.Held.{running_of, turned_of, is_again}
use Rattle.lz_machine.proofs.HeldLemmas.{function_is}
use Rattle.lz_machine.proofs.TurnsLemmas.{one_turn}
use Rattle.lz_machine.proofs.AnswersLemmas.{no_turn, turn_again}
use Rattle.lz_machine.proofs.WeightsLemmas.{called_before, call_lighter, return_lighter}

plain_reached : (n : ℕ) (s : ScopedStatement) (left : ℕ) (reached : Reached) → StatementNears n s left reached → IsPlainReached reached
plain_reached n s left (leads flow) h = tt
plain_reached n s left (pauses (acts action line) footing) h = h
plain_reached n s left (pauses (reads cell line) footing) h = tt
plain_reached n s left (pauses (asks line kind) footing) h = tt
plain_reached n s left (pauses (signals cond line) footing) h = tt
plain_reached n s left (pauses (creates routine value line) footing) h = tt
plain_reached n s left (pauses (calls_on function kinds values) footing) h = tt
plain_reached n s left (fails kind line) h = tt
plain_reached n s left (refuses line) h = tt
plain_reached n s left quits h = tt
plain_reached n s left stops h = tt

module _ (p : ScopedProgram) (order : List ℕ) (n : ℕ) (o : IsCallOrder p.functions order) (frame : Frame) (callers : List Frame) (of : AreOf p.functions (frame ∷ callers)) where
  lighter_by : (values : List ℕ) (handles : List ℕ) (made : ℕ) (reached : Reached) → StatementNears n (function_at p frame.function).body (statement_left n frame.footing (function_at p frame.function).body) reached
      → IsLighter p order n (weight p order n (frame ∷ callers)) (turned_by p (function_at p frame.function).gives frame.function values callers handles made reached)
  lighter_by values handles made (leads flow) h = by callers
    where
      by : (list : List Frame) → IsLighter p order n (weight p order n (frame ∷ list)) (turned_by p (function_at p frame.function).gives frame.function values list handles made (leads flow))
      by [] = tt
      by (next ∷ rest) = return_lighter p order n frame (next ∷ rest)
  lighter_by values handles made (pauses (acts action line) footing) h = tt
  lighter_by values handles made (pauses (reads cell line) footing) h = tt
  lighter_by values handles made (pauses (asks line kind) footing) h = tt
  lighter_by values handles made (pauses (signals cond line) footing) h = tt
  lighter_by values handles made (pauses (creates routine value line) footing) h = tt
  lighter_by values handles made (pauses (calls_on function kinds arguments) footing) h =
      call_lighter p order n 0 frame (record { function = frame.function; footing = footing; values = values })
      (record { function = function; footing = at_station start; values = passed kinds (function_at p function).params arguments }) callers o of.0 refl h.0 refl h.1
  lighter_by values handles made (fails kind line) h = tt
  lighter_by values handles made (refuses line) h = tt
  lighter_by values handles made quits h = tt
  lighter_by values handles made stops h = tt

  stays_by : (values : List ℕ) (handles : List ℕ) (made : ℕ) (reached : Reached) → StatementNears n (function_at p frame.function).body (statement_left n frame.footing (function_at p frame.function).body) reached
      → StaysOf p.functions (turned_by p (function_at p frame.function).gives frame.function values callers handles made reached)
  stays_by values handles made (leads flow) h = by callers of.1
    where
      by : (list : List Frame) → AreOf p.functions list → StaysOf p.functions (turned_by p (function_at p frame.function).gives frame.function values list handles made (leads flow))
      by [] all = tt
      by (next ∷ rest) all = all
  stays_by values handles made (pauses (acts action line) footing) h = (of.0, of.1)
  stays_by values handles made (pauses (reads cell line) footing) h = (of.0, of.1)
  stays_by values handles made (pauses (asks line kind) footing) h = (of.0, of.1)
  stays_by values handles made (pauses (signals cond line) footing) h = (of.0, of.1)
  stays_by values handles made (pauses (creates routine value line) footing) h = (of.0, of.1)
  stays_by values handles made (pauses (calls_on function kinds arguments) footing) h = ((called_before p order o frame.function function of.0 h.0).0, (of.0, of.1))
  stays_by values handles made (fails kind line) h = tt
  stays_by values handles made (refuses line) h = tt
  stays_by values handles made quits h = tt
  stays_by values handles made stops h = tt

  advances_by : (values handles more : List ℕ) (given made : ℕ) (reached : Reached)
      → StatementComes n (function_at p frame.function).body frame.footing given (entered frame.values (outside handles)) reached (entered values (outside more))
      → Advances p order n (running_with (frame ∷ callers) handles given made) (turned_by p (function_at p frame.function).gives frame.function values callers more made reached)
  advances_by values handles more given made reached c = record {
    turns = one_turn p n frame callers handles more given made values reached (plain_reached n (function_at p frame.function).body _ reached c.near) (λ depth. c.same p n depth);
    lighter = lighter_by values more made reached c.near;
    stays = stays_by values more made reached c.near;
  }

-- One turn, of a function that is found by its number.
pub advances : (p : ScopedProgram) (order : List ℕ) (n : ℕ) → IsCallOrder p.functions order → (frame : Frame) (callers : List Frame) → AreOf p.functions (frame ∷ callers) → (d : ScopedDefinition) → Some d ≡ slice_get p.functions frame.function
    → (values handles more : List ℕ) (given made : ℕ) (reached : Reached) (turned : Turned) → StatementComes n d.body frame.footing given (entered frame.values (outside handles)) reached (entered values (outside more))
    → turned ≡ turned_by p d.gives frame.function values callers more made reached → Advances p order n (running_with (frame ∷ callers) handles given made) turned
advances p order n o frame callers of d is values handles more given made reached turned c e =
    let same : d ≡ function_at p frame.function = sym (function_is p frame.function d is) in
    let comes = subst (λ (x : ScopedDefinition). StatementComes n x.body frame.footing given (entered frame.values (outside handles)) reached (entered values (outside more))) same c in
    let one = advances_by p order n o frame callers of values handles more given made reached comes in
    let by : turned ≡ turned_by p (function_at p frame.function).gives frame.function values callers more made reached = e ∙ ap (λ (x : ScopedDefinition). turned_by p x.gives frame.function values callers more made reached) same in
    subst (λ (x : Turned). Advances p order n (running_with (frame ∷ callers) handles given made) x) (sym by) one

-- a body that can be run
pub body_fits : (p : ScopedProgram) (f : ℕ) (d : ScopedDefinition) → Some d ≡ slice_get p.functions f → AreFitBodies p.functions → IsFitStatement d.body
body_fits p f d e all =
    subst (λ (x : ScopedDefinition). IsFitStatement x.body) (get_or_from_slice_get p.functions f d d (sym e)) (All-get_or (λ (x : ScopedDefinition). IsFitStatement x.body) p.functions f d (inside p.functions f e) all)
  where
    inside : (ds : List ScopedDefinition) (f : ℕ) → Some d ≡ slice_get ds f → f < length ds
    inside [] f e = absurd cc
    inside (x ∷ rest) zero e = omega arith
    inside (x ∷ rest) (suc f) e = let h = inside rest f e in omega (arith, h)

-- a function whose number is one of the program's is found
pub is_found : (p : ScopedProgram) (f : ℕ) {A : Type 0} → None ≡ slice_get p.functions f → f < length p.functions → A
is_found p f {A} e h = by p.functions f e h
  where
    by : (ds : List ScopedDefinition) (f : ℕ) → None ≡ slice_get ds f → f < length ds → A
    by [] f e h = absurd (omega (arith, h))
    by (x ∷ rest) zero e h = absurd cc
    by (x ∷ rest) (suc f) e h = by rest f e (omega (arith, h))

-- ---- what code holds

pub goes_on : (t : held.Turned) (r : held_running.Running) → is_again t ≡ true → turned_of t r ≡ again (running_of r)
goes_on code_turned.Again r e = refl
goes_on (code_turned.Pauses pause) r e = absurd cc
goes_on (code_turned.Fails kind line) r e = absurd cc
goes_on (code_turned.Refuses line) r e = absurd cc
goes_on code_turned.Leaves r e = absurd cc
goes_on code_turned.Stops r e = absurd cc
goes_on code_turned.Ends r e = absurd cc

pub has_come : (t : held.Turned) (r : held_running.Running) → is_again t ≡ false → HasCome (turned_of t r)
has_come code_turned.Again r e = absurd cc
has_come (code_turned.Pauses pause) r e = tt
has_come (code_turned.Fails kind line) r e = tt
has_come (code_turned.Refuses line) r e = tt
has_come code_turned.Leaves r e = tt
has_come code_turned.Stops r e = tt
has_come code_turned.Ends r e = tt

-- how far a thread came that goes on
pub record SoFar (p : ScopedProgram) (n : ℕ) (one two : Running) : Type 0 where
  pub turns : Turns p n one (again two)
  pub of : AreOf p.functions two.frames

pub at_start : (p : ScopedProgram) (n : ℕ) (one : Running) → AreOf p.functions one.frames → SoFar p n one one
at_start p n one of = record { turns = no_turn p n one; of = of }

pub further : (p : ScopedProgram) (order : List ℕ) (n : ℕ) (one two three : Running) (turned : Turned) → turned ≡ again three → SoFar p n one two → Advances p order n two turned → SoFar p n one three
further p order n one two three turned e s a =
    let b = subst (λ (x : Turned). Advances p order n two x) e a in
    record { turns = turn_again p n s.turns b.turns; of = b.stays }

pub nearer : (p : ScopedProgram) (order : List ℕ) (n : ℕ) (two three : Running) (turned : Turned) → turned ≡ again three → Advances p order n two turned → weight p order n three.frames < weight p order n two.frames
nearer p order n two three turned e a = (subst (λ (x : Turned). Advances p order n two x) e a).lighter

pub arrived : (p : ScopedProgram) (order : List ℕ) (n : ℕ) (one two : Running) (turned : Turned) → SoFar p n one two → Advances p order n two turned → HasCome turned → Arrives p n one turned
arrived p order n one two turned s a come = record { turns = turn_again p n s.turns a.turns; come = come; stays = a.stays }
