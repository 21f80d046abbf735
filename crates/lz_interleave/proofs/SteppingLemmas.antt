-- A step is its visible piece and the local code that follows: from the law of pieces to that of steps.
use Rattle.std.proofs.Common.{◌≡◌, ℕ, zero, suc, ◌+◌, ◌-◌, ◌≤◌, inl, inr, Bool, true, false, cond, List, [], ◌∷◌, ◌++◌, length, drop, eqb, refl, sym, ◌∙◌, ap, arith}
use Rattle.std.specs.Prelude.{◌==◌}
use Rattle.std.proofs.lemmas.List.{length-drop, drop_all, length-append}
use Rattle.lz_flat.specs.Programs.{Instruction, sets, takes, assumes, checks, skips, MarkedInstruction}
use Rattle.lz_flat.specs.Instructions.{value, put, Did, moved, blocked, broke, did}
use Rattle.lz_flat.specs.FlatRuns.{Ran, went, behind, onward, step_from, step}
use Rattle.lz_interleave.specs.Deeds.{gone, Start, no_start, begins, argument_of, Program}
use Rattle.lz_interleave.specs.StepLaw.{Reading, Spares, Turn, moves, does, stops, holds}
use Rattle.lz_flat.specs.Running.{did_then, runs, instrs_of, run_then, AreHidden}
use Rattle.std.proofs.Math.Seq.{drop-append_seam}
use Rattle.lz_flat.proofs.LandingLemmas.{drop-next}
use Rattle.lz_flat.proofs.StepLemmas.{onward_skip}
use Rattle.lz_flat.proofs.RunningLemmas.{onward_over}
use Rattle.lz_flat.specs.WellFormed.{IsNoSkip}
use Rattle.lz_interleave.specs.Pieces.{IsGroup, At, own, goes, breaks_off, blocks, PieceLaw}

-- what is left so much farther on is that of what is left at a place
drop-on : {A : Type 0} (xs : List A) (l k : ℕ) (part : List A) → drop l xs ≡ part → drop (l + k) xs ≡ drop k part
drop-on xs l zero part e = ap (λ (n : ℕ). drop n xs) (let z : l + 0 ≡ l = omega arith in z) ∙ e
drop-on xs l (suc k) [] e =
    let none : length (drop l xs) ≡ 0 = ap length e in
    drop_all (l + suc k) xs (let n : length xs - l ≡ 0 = sym (length-drop l xs) ∙ none in omega arith)
drop-on xs l (suc k) (y ∷ ys) e = ap (λ (n : ℕ). drop n xs) (let z : l + suc k ≡ suc l + k = omega arith in z) ∙ drop-on xs (suc l) k ys (drop-next xs l y ys e)

-- ---- a group runs as a whole

same_moved : (i : Instruction) (x : ℕ) (m : List ℕ) (f g : ℕ → List ℕ → Ran) → IsNoSkip i → ((n : List ℕ) → f 0 n ≡ g 0 n) → behind (did i x m) f ≡ behind (did i x m) g
unfolding did
same_moved (sets to of) x m f g h same = same (put to (value of m) m)
same_moved (takes to) x m f g h same = same (put to x m)
same_moved (assumes test) x m f g h same = by (eqb (value test m) 0)
  where
    by : (b : Bool) → behind (cond b blocked (moved 0 m)) f ≡ behind (cond b blocked (moved 0 m)) g
    by true = refl
    by false = same m
same_moved (checks test kind line) x m f g h same = by (eqb (value test m) 0)
  where
    by : (b : Bool) → behind (cond b (broke kind line) (moved 0 m)) f ≡ behind (cond b (broke kind line) (moved 0 m)) g
    by true = refl
    by false = same m
same_moved (skips test by) x m f g h same = absurd h

-- two things that follow, one after the other
then_behind : (d : Did) (next : List ℕ → Did) (f : ℕ → List ℕ → Ran) → behind d (λ over n. behind (next n) f) ≡ behind (did_then d next) f
then_behind (moved over m) next f = refl
then_behind blocked next f = refl
then_behind (broke kind line) next f = refl

-- where what is run ends
abbrev on_from : (ℕ → ℕ) → ℕ → List MarkedInstruction → ℕ → List ℕ → Ran
on_from input l after over n = onward input l after 0 n

-- instructions that ran through pass nothing over
run_behind : (d : Did) (next : List ℕ → Ran) → run_then d next ≡ behind d (λ over n. next n)
run_behind (moved over m) next = refl
run_behind blocked next = refl
run_behind (broke kind line) next = refl

-- on over a group of hidden instructions
over_group : (input : ℕ → ℕ) (xs after : List MarkedInstruction) (l : ℕ) (m : List ℕ) → AreHidden xs → onward input l (xs ++ after) 0 m ≡ behind (runs input l (instrs_of xs) m) (on_from input (l + length xs) after)
over_group input xs after l m hidden =
    onward_over input l xs after m hidden ∙ run_behind (runs input l (instrs_of xs) m) (onward input (l + length xs) after 0)

-- a step that begins with a group runs it whole, and then goes on
step_group : (input : ℕ → ℕ) (first : MarkedInstruction) (rest xs after : List MarkedInstruction) (l : ℕ) (m : List ℕ) → IsGroup first rest xs after
    → step_from input l (first ∷ rest) m ≡ behind (runs input l (instrs_of (first ∷ xs)) m) (on_from input (suc l + length xs) after)
unfolding runs
step_group input first rest xs after l m group =
    same_moved first.instr (input l) m (onward input (suc l) rest) (λ over n. behind (runs input (suc l) (instrs_of xs) n) (on_from input (suc l + length xs) after)) group.plain
    (λ n. ap (λ (part : List MarkedInstruction). onward input (suc l) part 0 n) group.are ∙ over_group input xs after (suc l) n group.tail)
    ∙ then_behind (did first.instr (input l) m) (runs input (suc l) (instrs_of xs)) (on_from input (suc l + length xs) after)

-- ---- local code that follows

pub record Leads {S D : Type 0} (reading : Reading S D) (size : ℕ) (input : ℕ → ℕ) (t l : ℕ) (m : List ℕ) (s : S) (r : Ran) : Type 0 where
  pub place : ℕ
  pub m' : List ℕ
  pub is : r ≡ went place m'
  pub forward : l ≤ place
  pub fit : place ≤ size
  pub stands : reading.Stands m' s
  pub spares : Spares reading t no_start m m'
  pub from : (todo : List D) → reading.Gives input t place m' todo → reading.Gives input t l m todo
  pub to : (todo : List D) → reading.Gives input t l m todo → reading.Gives input t place m' todo

-- no change spares every thread
spares_none : {S D : Type 0} (reading : Reading S D) (t : ℕ) (m : List ℕ) → Spares reading t no_start m m
spares_none reading t m = record { fresh = λ u e f h. h; opened = λ u b h. absurd cc; there = λ input u p todo e f h. h; back = λ input u p todo e f h. h }

-- local steps before or behind
spares_then : {S D : Type 0} (reading : Reading S D) (t : ℕ) (start : Start) (m m' m'' : List ℕ) → Spares reading t start m m' → Spares reading t no_start m' m''
    → ((u v : ℕ) → begins start u ≡ true → reading.Opened u v m' → reading.Opened u v m'') → Spares reading t start m m''
spares_then reading t start m m' m'' a b keep = record {
  fresh = λ u e f h. b.fresh u e refl (a.fresh u e f h);
  opened = λ u e h. keep u (argument_of start) e (a.opened u e h);
  there = λ input u p todo e f h. b.there input u p todo e refl (a.there input u p todo e f h);
  back = λ input u p todo e f h. a.back input u p todo e f (b.back input u p todo e refl h);
}

-- local code that is not visible leads on to the next visible place or the end
leads : {S D : Type 0} (program : Program S D) (reading : Reading S D) (code : List MarkedInstruction) (input : ℕ → ℕ) (t : ℕ) → PieceLaw program reading code input t
    → (most l : ℕ) (part : List MarkedInstruction) (m : List ℕ) (s : S) → length code ≤ l + most → l ≤ length code → drop l code ≡ part → reading.Stands m s → reading.Gives input t l m []
    → Leads reading (length code) input t l m s (onward input l part 0 m)
unfolding onward
leads program reading code input t law most l [] m s room fit e stands reached =
    record { place = l; m' = m; is = ap (λ (n : ℕ). went n m) (let z : l + 0 ≡ l = omega arith in z); forward = omega arith; fit = fit; stands = stands; spares = spares_none reading t m; from = λ todo h. h; to = λ todo h. h }
leads {S} {D} program reading code input t law zero l (first ∷ rest) m s room fit e stands reached =
    let n : length code - l ≡ suc (length rest) = sym (length-drop l code) ∙ ap length e in absurd (let z : ⊥ = omega (arith, n, room) in z)
leads {S} {D} program reading code input t law (suc most) l (first ∷ rest) m s room fit e stands reached =
    by first.visible refl (λ k part n. leads program reading code input t law most k part n s)
  where
    by : (b : Bool) → first.visible ≡ b
        → ((k : ℕ) (part : List MarkedInstruction) (n : List ℕ) → length code ≤ k + most → k ≤ length code → drop k code ≡ part → reading.Stands n s → reading.Gives input t k n []
        → Leads reading (length code) input t k n s (onward input k part 0 n))
        → Leads reading (length code) input t l m s (cond b (went l m) (behind (did first.instr (input l) m) (onward input (suc l) rest)))
    by true v again = record { place = l; m' = m; is = refl; forward = omega arith; fit = fit; stands = stands; spares = spares_none reading t m; from = λ todo h. h; to = λ todo h. h }
    by false v again =
        let mine = law.invisible l m s first rest stands reached e v in
        let next = again (suc l + mine.over) (drop mine.over rest) mine.m' (omega (arith, room)) mine.fit (drop-on code (suc l) mine.over rest (drop-next code l first rest e)) mine.stands (mine.to [] reached) in
        record {
          place = next.place;
          m' = next.m';
          is = ap (λ (d : Did). behind d (onward input (suc l) rest)) mine.is ∙ onward_skip input rest (suc l) mine.over mine.m' ∙ next.is;
          forward = let f = next.forward in omega (arith, f);
          fit = next.fit;
          stands = next.stands;
          spares = spares_then reading t no_start m mine.m' next.m' mine.spares next.spares (λ u v b h. absurd cc);
          from = λ todo h. mine.from todo (next.from todo h);
          to = λ todo h. next.to todo (mine.to todo h);
        }

-- ---- THE LAW OF STEPS
pub turn_of : {S D : Type 0} (program : Program S D) (reading : Reading S D) (code : List MarkedInstruction) (input : ℕ → ℕ) (t : ℕ) → PieceLaw program reading code input t
    → ((u v : ℕ) (m m' : List ℕ) → Spares reading t no_start m m' → reading.Opened u v m → (t == u) ≡ false → reading.Opened u v m')
    → ((s s' : S) (u : ℕ) (d : D) → program.act s t d ≡ gone s' → begins (program.start_of d) u ≡ true → (t == u) ≡ false)
    → (p : ℕ) (m : List ℕ) (s : S) → reading.Stands m s → program.asleep s t ≡ false → reading.Gives input t p m [] → Turn program reading (length code) input t p m s (step input code p m)
unfolding step
turn_of {S} {D} program reading code input t law keep other p m s stands awake reached = by (drop p code) refl
  where
    size_of : (part : List MarkedInstruction) (l : ℕ) → drop l code ≡ part → length code - l ≡ length part
    size_of part l e = sym (length-drop l code) ∙ ap length e

    piece : (first : MarkedInstruction) (rest : List MarkedInstruction) → drop p code ≡ first ∷ rest → At program reading (length code) input t p m s first rest
        → Turn program reading (length code) input t p m s (step_from input p (first ∷ rest) m)
    piece first rest e (own mine) =
        let next = leads program reading code input t law (length code) (suc p + mine.over) (drop mine.over rest) mine.m' s (omega arith) mine.fit
        (drop-on code (suc p) mine.over rest (drop-next code p first rest e)) mine.stands (mine.to [] reached) in
        moves next.place next.m'
        (ap (λ (d : Did). behind d (onward input (suc p) rest)) mine.is ∙ onward_skip input rest (suc p) mine.over mine.m' ∙ next.is)
        (let f = next.forward in omega (arith, f)) next.fit next.stands
        (spares_then reading t no_start m mine.m' next.m' mine.spares next.spares (λ u v b h. absurd cc))
        (λ todo h. mine.from todo (next.from todo h)) (λ todo h. next.to todo (mine.to todo h)) mine.tells
    piece first rest e (goes d s' m' xs after group ran act stands' spares reached' from only tells) =
        let tail : drop (suc p) code ≡ xs ++ after = drop-next code p first rest e ∙ group.are in
        let at : drop (suc p + length xs) code ≡ after = drop-on code (suc p) (length xs) (xs ++ after) tail ∙ drop-append_seam xs after in
        let long : length (xs ++ after) ≡ length xs + length after = length-append xs after in
        let size : length code - suc p ≡ length (xs ++ after) = size_of (xs ++ after) (suc p) tail in
        let size' : length code - p ≡ suc (length rest) = size_of (first ∷ rest) p e in
        let next = leads program reading code input t law (length code) (suc p + length xs) after m' s' (omega arith) (omega (arith, long, size, size')) at stands' reached' in
        does d s' next.place next.m'
        (step_group input first rest xs after p m group ∙ ap (λ (q : Did). behind q (on_from input (suc p + length xs) after)) ran ∙ next.is)
        act next.stands (spares_then reading t (program.start_of d) m m' next.m' spares next.spares (λ u v b h. keep u v m' next.m' next.spares h (other s s' u d act b)))
        (next.to [] reached') (λ todo h. from todo (next.from todo h)) (λ x todo h w. let o = only x todo h w in (o.0, next.to todo o.1)) tells
    piece first rest e (breaks_off d kind line xs after group ran act gives only tells) =
        stops d kind line (step_group input first rest xs after p m group ∙ ap (λ (q : Did). behind q (on_from input (suc p + length xs) after)) ran) act gives only tells
    piece first rest e (blocks ran all) = holds (inl (ap (λ (d : Did). behind d (onward input (suc p) rest)) ran)) all

    by : (part : List MarkedInstruction) → drop p code ≡ part → Turn program reading (length code) input t p m s (step_from input p part m)
    by [] e = holds (inr refl) (λ x todo h. law.done p m s stands e x todo h)
    by (first ∷ rest) e = piece first rest e (law.at p m s first rest stands awake reached e)
