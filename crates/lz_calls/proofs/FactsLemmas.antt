-- The facts of a program from the ranks of its functions, their heights and what start routines reach.
use Rattle.std.proofs.Common.{◌≡◌, ℕ, zero, suc, ◌+◌, ◌<◌, ◌≤◌, ◌⊎◌, ◌==◌, ◌&&◌, Bool, true, false, nat_lt, List, [], ◌∷◌, ◌++◌, map, length, get_or, slice_get, slice_index, slice_index_or, Option, Some, None, refl, sym, ap, ◌∙◌, subst, arith, inl, inr, eq-eqb, option_map, if◌then◌else◌, IsTrue, ◌↔◌, Vec, Global}
use Rattle.std.specs.List.{Contains, filter, list_any}
use Rattle.std.proofs.lemmas.Bool.{cases_lt, cases_eq, cases_Bool, eqb-true, lt-ltb, le-ltb, false≢true}
use Rattle.std.proofs.lemmas.List.{length-map, length_push}
use Rattle.std.proofs.lemmas.List.Folds.{list_any_at}
use Rattle.std.proofs.lemmas.Map.Views.{any-filter_same}
use Rattle.std.proofs.lemmas.Option.{slice_get_within, slice_get-map, slice_get-get_or}
use Rattle.lz_tree.specs.declared.scoped.ScopedFunction.{ScopedFunction}
use Rattle.lz_tree.specs.ScopedTrees.{ScopedDefinition, scoped_definition}
use Rattle.lz_tree.specs.Calls.{statement_calls, body_at, StandsBefore, IsCallOrder}
use Rattle.lz_scopes.specs.Files.{or_false, row_has}
use Rattle.lz_calls.specs.Calls.{graph_of, row, Calls, Reaches, IsStart, body_height_limit, AreHeights, AreFacts}
use Rattle.lz_calls.specs.Heights.{capped, body_height, height_through, greatest, height_at_rank}
use Rattle.lz_calls.specs.Ranks.{IsRanking, AreReturning, IsRankOrder, IsFalling}
use Rattle.lz_calls.specs.Reaching.{Among, IsReach}
use Rattle.lz_calls.specs.Facts.{AreStarts, IsRecursionFree, IsOrderOf}
use Rattle.lz_calls.proofs.ReachingLemmas.{calls_within, among_contains, among_last, among_either, among_push}
use Rattle.lz_calls.proofs.RanksLemmas.{same_rank, default}
use Rattle.lz_calls.proofs.HeightsLemmas.{sees_all, statement_agrees, calls_of_body, height_fixed, lower}

-- ---- rows of calls that come back

pub rows_start : (graph : List (List ℕ)) (ranks : List ℕ) → AreReturning graph ranks 0 []
rows_start graph ranks = record { long = refl; each = λ f low. absurd (omega arith) }

push_get : {A : Type 0} (xs : List A) (n : A) (x : ℕ) → x < suc (length xs) → ((x < length xs) × (slice_get (xs ++ n ∷ []) x ≡ slice_get xs x)) ⊎ ((x ≡ length xs) × (slice_get (xs ++ n ∷ []) x ≡ Some n))
push_get [] n zero low = inr (refl, refl)
push_get [] n (suc x) low = absurd (omega arith)
push_get (y ∷ xs) n zero low = inl (omega arith, refl)
push_get (y ∷ xs) n (suc x) low = elim (push_get xs n x (omega arith)) [ inl old ↦ inl (omega (arith, old.0), old.1) | inr new ↦ inr (ap suc new.0, new.1) ]

-- one more row
pub rows_turn : (graph : List (List ℕ)) (ranks : List ℕ) (count : ℕ) (rows : List (List ℕ)) (new : List ℕ) → AreReturning graph ranks count rows → new ≡ filter (λ g. slice_index ranks g == slice_index ranks count) (row (slice_get graph count)) → AreReturning graph ranks (count + 1) (rows ++ new ∷ [])
rows_turn graph ranks count rows new so_far is =
    let long : length rows ≡ count = so_far.long in
    record {
      long = (let more = length_push rows new in omega (arith, more, long));
      each = λ f low.
          elim (push_get rows new f (omega arith)) [
            | inl old ↦ old.1 ∙ so_far.each f (omega (arith, old.0))
            | inr here ↦
                here.1 ∙ ap Some (subst (λ (x : ℕ). new ≡ filter (λ g. slice_index ranks g == slice_index ranks x) (row (slice_get graph x))) (sym (here.0 ∙ long)) is)
          ];
    }

and_true : (a b : Bool) → b ≡ true → (a && b) ≡ a
and_true true b e = e
and_true false b e = refl

-- a row has a called function exactly where it has the caller's rank
has_by_rank : (graph : List (List ℕ)) (ranks : List ℕ) (count : ℕ) (rows : List (List ℕ)) → AreReturning graph ranks count rows → (f g : ℕ) → f < count → Calls graph f g → row_has (slice_get rows f) g ≡ (slice_index ranks g == slice_index ranks f)
has_by_rank graph ranks count rows r f g low c =
    let own : ℕ = slice_index ranks f in
    let calls : List ℕ = row (slice_get graph f) in
    let found : list_any (λ m. m == g) calls ≡ true = list_any_at (λ m. m == g) calls c.0 g c.1 (eq-eqb _ g c.2) in
    ap (λ o. row_has o g) (r.each f low)
    ∙ any-filter_same (λ m. m == g) (λ m. slice_index ranks m == own) (slice_index ranks g == own) (λ k e. ap (λ n. slice_index ranks n == own) (eqb-true k g e)) calls
    ∙ and_true (slice_index ranks g == own) (list_any (λ m. m == g) calls) found

-- two tests that agree at each item of a list keep the same items
pub filters_agree : (p q : ℕ → Bool) (xs : List ℕ) → ((g : ℕ) → Among xs g → p g ≡ q g) → filter p xs ≡ filter q xs
filters_agree p q [] agree = refl
filters_agree p q (x ∷ xs) agree =
    rw (agree x (inl refl))
    (elim (cases_Bool (q x)) [
      | inl yes_it_does ↦ rw yes_it_does (ap (λ rest. x ∷ rest) (filters_agree p q xs (λ g a. agree g (inr a))))
      | inr no_it_does_not ↦ rw no_it_does_not (filters_agree p q xs (λ g a. agree g (inr a)))
    ])

-- a row has those of the calls alone that it has
rows_hold : (graph : List (List ℕ)) (ranks : List ℕ) (count : ℕ) (rows : List (List ℕ)) → AreReturning graph ranks count rows → (f : ℕ) → f < count → slice_get rows f ≡ Some (filter (λ g. row_has (slice_get rows f) g) (row (slice_get graph f)))
rows_hold graph ranks count rows r f low =
    r.each f low
    ∙ ap Some (filters_agree (λ g. slice_index ranks g == slice_index ranks f) (λ g. row_has (slice_get rows f) g) (row (slice_get graph f)) (λ g a.
    sym (has_by_rank graph ranks count rows r f g low (among_contains (row (slice_get graph f)) g a))))

returning_holds : (graph : List (List ℕ)) (ranks : List ℕ) (rows : List (List ℕ)) → IsRanking graph ranks → AreReturning graph ranks (length graph) rows → (f g : ℕ) → Calls graph f g → IsTrue (row_has (slice_get rows f) g) ↔ Reaches graph g f
returning_holds graph ranks rows r are f g c =
    let has : row_has (slice_get rows f) g ≡ (slice_index ranks g == slice_index ranks f) = has_by_rank graph ranks (length graph) rows are f g (calls_within graph f g c) c in (
      λ yes_it_has. r.back f g c (eqb-true _ _ (sym has ∙ yes_it_has)),
      λ path. has ∙ eq-eqb _ _ (same_rank graph ranks r f g c path),
    )

-- ---- start routines

pub starts_begin : (functions : List ScopedDefinition) → AreStarts functions 0 []
starts_begin functions = record { sound = λ s a. absurd a; complete = λ s low is. absurd (omega arith) }

abbrev start_in : Option ScopedDefinition → Bool
start_in None = false
start_in (Some d) = d.start

same_start : (functions : List ScopedDefinition) (s : ℕ) (d : ScopedDefinition) → slice_get functions s ≡ Some d → IsStart functions s → d.start ≡ true
same_start functions s d is start = ap (λ o. start_in o) (sym is ∙ start.1) ∙ start.2

-- one more function
pub starts_turn : (functions : List ScopedDefinition) (count : ℕ) (starts new : List ℕ) (d : ScopedDefinition) → slice_get functions count ≡ Some d → AreStarts functions count starts → new ≡ (if d.start then starts ++ count ∷ [] else starts) → AreStarts functions (count + 1) new
starts_turn functions count starts new d is so_far made =
    elim (cases_Bool d.start) [
      | inl starts_it ↦
          let all : new ≡ starts ++ count ∷ [] = made ∙ ap (λ b. if b then starts ++ count ∷ [] else starts) starts_it in
          subst (AreStarts functions (count + 1)) (sym all) (record {
            sound = λ s a. elim (among_either starts count s a) [ inl old ↦ so_far.sound s old | inr e ↦ subst (IsStart functions) e (d, is, starts_it) ];
            complete = λ s low start. elim (cases_eq s count) [
              | inl e ↦ subst (Among (starts ++ count ∷ [])) (sym e) (among_last starts count)
              | inr other ↦ among_push starts count s (so_far.complete s (omega (arith, low, other)) start)
            ];
          })
      | inr starts_not ↦
          let all : new ≡ starts = made ∙ ap (λ b. if b then starts ++ count ∷ [] else starts) starts_not in
          subst (AreStarts functions (count + 1)) (sym all) (record {
            sound = so_far.sound;
            complete = λ s low start. elim (cases_eq s count) [
              | inl e ↦ absurd (false≢true (sym starts_not ∙ same_start functions count d is (subst (IsStart functions) e start)))
              | inr other ↦ so_far.complete s (omega (arith, low, other)) start
            ];
          })
    ]

-- the function at a number
pub function_at : (xs : List ScopedFunction) (f : ℕ) (x : ScopedFunction) → f < length xs → x ≡ get_or xs f x → slice_get (map scoped_definition xs) f ≡ Some (scoped_definition x)
function_at xs f x low is = slice_get-map scoped_definition xs f ∙ ap (option_map scoped_definition) (slice_get-get_or xs f x low ∙ ap Some (sym is))

mark_read : (marks : List Bool) (f : ℕ) → or_false (slice_get marks f) ≡ slice_index_or marks f false
mark_read [] f = refl
mark_read (m ∷ marks) zero = refl
mark_read (m ∷ marks) (suc f) = mark_read marks f

reached_holds : (functions : List ScopedDefinition) (starts : List ℕ) (marks : List Bool) → AreStarts functions (length functions) starts → IsReach (graph_of functions) starts marks → (f : ℕ) → f < length functions → IsTrue (or_false (slice_get marks f)) ↔ ((s : ℕ) × IsStart functions s × Reaches (graph_of functions) s f)
reached_holds functions starts marks are is f low =
    let long : length (graph_of functions) ≡ length functions = length-map functions (λ d. statement_calls d.body) in (
      λ marked. let from = is.sound f (sym (mark_read marks f) ∙ marked) in (from.start, are.sound from.start from.among, from.path),
      λ from. mark_read marks f ∙ is.complete f (omega (arith, low, long)) (record { start = from.0; among = are.complete from.0 (slice_get_within functions from.0 from.1.0 from.1.1) from.1; path = from.2 }),
    )

-- ---- heights

measured_holds : (functions : List ScopedDefinition) (ranks : List ℕ) (rows : List (List ℕ)) → IsRanking (graph_of functions) ranks → AreReturning (graph_of functions) ranks (length (graph_of functions)) rows → AreHeights functions rows (height_at_rank functions ranks)
measured_holds functions ranks rows r are f d is =
    height_fixed functions ranks r f
    ∙ ap (body_height ranks (height_at_rank functions ranks) f) is
    ∙ statement_agrees sees_all d.body (record {
      at = λ g c.
          let call : Calls (graph_of functions) f g = calls_of_body functions f g d is c in
          ap (λ b. if b then 0 else height_at_rank functions ranks g) (sym (has_by_rank (graph_of functions) ranks (length (graph_of functions)) rows are f g (calls_within (graph_of functions) f g call) call));
    })

above_limit : (limit h : ℕ) → limit < 2000 → nat_lt limit (capped h) ≡ nat_lt limit h
above_limit limit h low =
    elim (cases_lt limit h) [
      | inl above ↦ lt-ltb limit (capped h) (omega (arith, above, low)) ∙ sym (lt-ltb limit h above)
      | inr within ↦ le-ltb limit (capped h) (omega (arith, within, low)) ∙ sym (le-ltb limit h within)
    ]

high_read : (heights : List ℕ) (limit f : ℕ) → f < length heights → or_false (slice_get (map (λ h. nat_lt limit h) heights) f) ≡ nat_lt limit (slice_index heights f)
high_read [] limit f low = absurd (omega arith)
high_read (h ∷ heights) limit zero low = refl
high_read (h ∷ heights) limit (suc f) low = high_read heights limit f (omega arith)

-- all of them
pub facts_made : (functions : List ScopedDefinition) (ranks heights starts : List ℕ) (rows : List (List ℕ)) (marks high : List Bool) → IsRanking (graph_of functions) ranks → AreReturning (graph_of functions) ranks (length functions) rows → AreStarts functions (length functions) starts → IsReach (graph_of functions) starts marks → length heights ≡ length functions → ((f : ℕ) → f < length functions → slice_index heights f ≡ capped (height_at_rank functions ranks f)) → high ≡ map (λ h. nat_lt body_height_limit h) heights
    → AreFacts functions (record { returning = rows; reached = marks; high = high })
facts_made functions ranks heights starts rows marks high r are starting reach long known is =
    let same : length functions ≡ length (graph_of functions) = sym (length-map functions (λ d. statement_calls d.body)) in
    let rows_are : AreReturning (graph_of functions) ranks (length (graph_of functions)) rows = subst (λ (n : ℕ). AreReturning (graph_of functions) ranks n rows) same are in
    record {
      returning = λ f g c. returning_holds (graph_of functions) ranks rows r rows_are f g c;
      rows = λ f low. rows_hold (graph_of functions) ranks (length functions) rows are f low;
      reached = λ f low. reached_holds functions starts marks starting reach f low;
      heights = height_at_rank functions ranks;
      measured = measured_holds functions ranks rows r rows_are;
      missing = λ f none. ap (body_height ranks (height_through functions ranks (greatest ranks)) f) none;
      high = λ f low.
          ap (λ hs. or_false (slice_get hs f)) is
          ∙ high_read heights body_height_limit f (omega (arith, low, long))
          ∙ ap (nat_lt body_height_limit) (known f low)
          ∙ above_limit body_height_limit (height_at_rank functions ranks f) (omega arith);
      all_rows = are.long;
      all_reached = reach.long ∙ sym same;
      all_high = ap length is ∙ length-map heights (λ h. nat_lt body_height_limit h) ∙ long;
    }

-- ---- orders

pub row_at : (functions : List ScopedDefinition) (f : ℕ) → f < length functions → row (slice_get (graph_of functions) f) ≡ statement_calls (body_at functions f)
row_at [] f low = absurd (omega arith)
row_at (d ∷ rest) zero low = refl
row_at (d ∷ rest) (suc f) low = row_at rest f (omega arith)

behind : (functions : List ScopedDefinition) (ranks order : List ℕ) → IsRankOrder (length functions) ranks order → IsFalling (graph_of functions) ranks (length functions) (length functions) → (i : ℕ) → i < length order → (k d : ℕ) → k < length (statement_calls (body_at functions (slice_index order i))) → StandsBefore order i (get_or (statement_calls (body_at functions (slice_index order i))) k d)
behind functions ranks order o falling i within k d here =
    let f : ℕ = slice_index order i in
    let calls : List ℕ = statement_calls (body_at functions f) in
    let g : ℕ = get_or calls k d in
    let low : f < length functions = o.within i 0 within in
    let call : Calls (graph_of functions) f g = subst (λ (r : List ℕ). Contains r g) (sym (row_at functions f low)) (k, here, default calls k d g here) in
    let less = falling.each f g low call in
    let stands : StandsBefore order (length order) g = o.all g less.0 in
    let at : ℕ = stands.0 in
    let is : slice_index order at ≡ g = stands.2 in
    (at, elim (cases_lt at i) [ inl yet ↦ yet | inr late ↦ absurd (omega (arith, o.rising i at late stands.1, less.1, ap (slice_index ranks) is)) ], is)

order_is : (functions : List ScopedDefinition) (ranks order : List ℕ) → IsRankOrder (length functions) ranks order → IsFalling (graph_of functions) ranks (length functions) (length functions) → IsCallOrder functions order
order_is functions ranks order o falling = record {
  whole = o.whole;
  within = o.within;
  all = o.all;
  behind = λ i within. behind functions ranks order o falling i within;
}

no_order : (functions : List ScopedDefinition) (ranks : List ℕ) → IsRanking (graph_of functions) ranks → (IsFalling (graph_of functions) ranks (length functions) (length functions) → ⊥) → IsRecursionFree functions → ⊥
no_order functions ranks r none free =
    none (record {
      each = λ f g low c. (
        free.within f g c,
        elim (lower (graph_of functions) ranks r f g c) [ inl same ↦ absurd (free.forward f g c (r.back f g c same)) | inr less ↦ less ],
      );
    })

-- the order, or none
pub order_found : (functions : List ScopedDefinition) (ranks : List ℕ) (order : Vec ℕ Global) (keep : Bool) (result : Option (Vec ℕ Global)) → IsRanking (graph_of functions) ranks → IsRankOrder (length functions) ranks order.items → (keep ≡ true → IsFalling (graph_of functions) ranks (length functions) (length functions)) → (keep ≡ false → IsFalling (graph_of functions) ranks (length functions) (length functions) → ⊥) → result ≡ (if keep then Some order else None) → IsOrderOf functions result
order_found functions ranks order keep result r o affirmed denied is =
    elim (cases_Bool keep) [
      | inl kept ↦ subst (IsOrderOf functions) (sym (is ∙ ap (λ b. if b then Some order else None) kept)) (order_is functions ranks order.items o (affirmed kept))
      | inr dropped ↦ subst (IsOrderOf functions) (sym (is ∙ ap (λ b. if b then Some order else None) dropped)) (no_order functions ranks r (denied dropped))
    ]
