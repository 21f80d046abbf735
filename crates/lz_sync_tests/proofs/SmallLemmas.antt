-- The operations of the tests are small, and an instruction keeps the number of words.
use Rattle.std.proofs.Common.{◌≡◌, ℕ, zero, suc, ◌+◌, ◌≤◌, ◌<◌, Bool, List, length, Result, Ok, Err, refl, sym, ◌∙◌, ap, subst, arith}
use Rattle.lz_base.specs.Words.{value_bound}
use Rattle.lz_flat.specs.declared.perform.Halt.{Halt}
use Rattle.lz_flat.specs.declared.perform.Halt.TheVariants as halts
use Rattle.lz_flat.specs.Programs.{Expression, constant, Location, Instruction}
use Rattle.lz_flat.specs.Instructions.{Did, moved, did}
use Rattle.lz_flat.specs.Steps.{Performs}
use Rattle.lz_flat.proofs.WordsLemmas.{KeepsLength, did_keeps_length}
use Rattle.lz_sync.specs.Operations.{Operation, reads, writes, resets, locks, unlocks, parks, wakes, signals, broadcasts, creates, joins, holds_on, holds_off, ends, IsSpot}
use Rattle.lz_sync.specs.Groups.{fixed}
use Rattle.lz_sync.specs.Forming.{IsFormed, IsFormedSpot, IsFormedLocation}
use Rattle.lz_sync_tests.specs.SmallOperations.{small_layout, IsSmall}

first_spot : IsSpot small_layout 1 (fixed 0)
first_spot = record { within = omega arith; apart = tt }

first_formed : IsFormedSpot 13 (fixed 0)
first_formed = ((omega arith, omega arith), (omega arith, tt))

word_formed : (v : ℕ) → v < value_bound → IsFormed 13 (constant v)
word_formed v lt = (lt, tt)

pub reads_small : (c t : Location) → c ≡ fixed 0 → t ≡ fixed 12 → IsSmall (reads c t)
reads_small c t e f = subst (λ (x : Location). IsSmall (reads x t)) (sym e) (subst (λ (y : Location). IsSmall (reads (fixed 0) y)) (sym f) (record {
  fits = (first_spot, ((λ k lt. omega (arith, lt)), tt));
  formed = (first_formed, (((λ k lt. omega (arith, lt)), omega arith), ((omega arith, omega arith), tt)));
}))

pub writes_small : (c : Location) (of : Expression) (v : ℕ) → c ≡ fixed 0 → of ≡ constant v → v < value_bound → IsSmall (writes c of)
writes_small c of v e f lt = subst (λ (x : Location). IsSmall (writes x of)) (sym e) (subst (λ (y : Expression). IsSmall (writes (fixed 0) y)) (sym f) (record { fits = (first_spot, tt); formed = (first_formed, word_formed v lt) }))

pub resets_small : (m : Location) → m ≡ fixed 0 → IsSmall (resets m)
resets_small m e = subst (λ (x : Location). IsSmall (resets x)) (sym e) (record { fits = first_spot; formed = first_formed })

pub locks_small : (m : Location) → m ≡ fixed 0 → IsSmall (locks m)
locks_small m e = subst (λ (x : Location). IsSmall (locks x)) (sym e) (record { fits = first_spot; formed = first_formed })

pub unlocks_small : (m : Location) → m ≡ fixed 0 → IsSmall (unlocks m)
unlocks_small m e = subst (λ (x : Location). IsSmall (unlocks x)) (sym e) (record { fits = first_spot; formed = first_formed })

pub parks_small : (c m : Location) → c ≡ fixed 0 → m ≡ fixed 0 → IsSmall (parks c m)
parks_small c m e f = subst (λ (x : Location). IsSmall (parks x m)) (sym e) (subst (λ (y : Location). IsSmall (parks (fixed 0) y)) (sym f) (record { fits = (first_spot, first_spot); formed = (first_formed, first_formed) }))

pub wakes_small : (c m : Location) → c ≡ fixed 0 → m ≡ fixed 0 → IsSmall (wakes c m)
wakes_small c m e f = subst (λ (x : Location). IsSmall (wakes x m)) (sym e) (subst (λ (y : Location). IsSmall (wakes (fixed 0) y)) (sym f) (record { fits = (first_spot, first_spot); formed = (first_formed, first_formed) }))

pub signals_small : (c : Location) (w : Expression) (v : ℕ) → c ≡ fixed 0 → w ≡ constant v → v < value_bound → IsSmall (signals c w)
signals_small c w v e f lt = subst (λ (x : Location). IsSmall (signals x w)) (sym e) (subst (λ (y : Expression). IsSmall (signals (fixed 0) y)) (sym f) (record { fits = (first_spot, tt); formed = (first_formed, word_formed v lt) }))

pub broadcasts_small : (c : Location) → c ≡ fixed 0 → IsSmall (broadcasts c)
broadcasts_small c e = subst (λ (x : Location). IsSmall (broadcasts x)) (sym e) (record { fits = first_spot; formed = first_formed })

pub creates_small : (start : ℕ) (of : Expression) → of ≡ constant 0 → IsSmall (creates 2 start of)
creates_small start of e = subst (λ (y : Expression). IsSmall (creates 2 start y)) (sym e) (record { fits = (omega arith, omega arith, tt); formed = word_formed 0 (omega arith) })

pub joins_small : (of : Expression) (v : ℕ) → of ≡ constant v → v < value_bound → IsSmall (joins of)
joins_small of v e lt = subst (λ (y : Expression). IsSmall (joins y)) (sym e) (record { fits = tt; formed = word_formed v lt })

pub others_small : IsSmall holds_on × IsSmall holds_off × ((whole : Bool) → IsSmall (ends whole))
others_small = (record { fits = tt; formed = tt }, record { fits = tt; formed = tt }, λ whole. record { fits = tt; formed = tt })

-- an instruction keeps the number of words
pub performs_long : (i : Instruction) (v n : ℕ) (before after : List ℕ) (r : Result ℕ Halt) → length before ≡ n → Performs i v before after r → length after ≡ n
performs_long i v n before after (Ok over) long is = subst (λ (d : Did). KeepsLength n d) is (did_keeps_length n i v before long)
performs_long i v n before after (Err halts.Blocked) long is = ap length is.1 ∙ long
performs_long i v n before after (Err (halts.Broke kind line)) long is = ap length is.1 ∙ long
