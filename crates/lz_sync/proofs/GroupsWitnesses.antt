-- What the definitions say of small cases, by computation.
use Rattle.std.proofs.Common.{◌≡◌, ℕ, true, false, List, [], ◌∷◌, refl}
use Rattle.lz_base.specs.declared.word.BreakKind.TheVariants as kinds
use Rattle.lz_flat.specs.Programs.{constant, word}
use Rattle.lz_flat.specs.Instructions.{value, put, did, moved, blocked, broke}
use Rattle.lz_flat.specs.Running.{runs}
use Rattle.lz_sync.specs.declared.layout.Layout.{Layout}
use Rattle.lz_sync.specs.Slots.{place_in, thread_of, slot_of}
use Rattle.lz_sync.specs.Standing.{wait, place_of, words_of}
use Rattle.lz_sync.specs.Operations.{reads, writes, locks, unlocks, parks, wakes, signals, broadcasts, joins, holds_on, holds_off, ends}
use Rattle.lz_sync.specs.Groups.{fixed, group}
use Rattle.lz_sync.specs.Weights.{group_weight}

-- one cell, one mutex, one condition and threads in three slots
small : Layout
small = record { cells = 1; mutexes = 1; conds = 1; threads = 3 }

-- The words: the cell, the owner, over, the holder, the life of main, 0, the lives of slots 1 and 2, 0, and the waits of
-- slots 0, 1 and 2.
words_in_all : words_of small ≡ 12
unfolding small
words_in_all = refl

last_wait : place_of small (wait 2) ≡ 11
unfolding small
last_wait = refl

-- slot 2 was made and slot 1 was not: thread 1 is slot 2, and slot 1 would be thread 2
second_slot_first : (thread_of (2 ∷ []) 2 ≡ 1) × (thread_of (2 ∷ []) 1 ≡ 2) × (slot_of (2 ∷ []) 1 ≡ 2)
unfolding place_in
second_slot_first = (refl, refl, refl)

-- a memory: the cell is 7, slot 0 runs, so does slot 2
running : List ℕ
running = 7 ∷ 0 ∷ 0 ∷ 0 ∷ 1 ∷ 0 ∷ 0 ∷ 1 ∷ 0 ∷ 0 ∷ 0 ∷ 0 ∷ []

-- slot 2 locks
locked : List ℕ
locked = 7 ∷ 3 ∷ 0 ∷ 0 ∷ 1 ∷ 0 ∷ 0 ∷ 1 ∷ 0 ∷ 0 ∷ 0 ∷ 0 ∷ []

lock_goes : runs (λ n. 0) 0 (group small 2 (locks (fixed 0))) running ≡ moved 0 locked
unfolding small running locked runs did value put
lock_goes = refl

-- then slot 0 is blocked
lock_blocks : runs (λ n. 0) 0 (group small 0 (locks (fixed 0))) locked ≡ blocked
unfolding small locked runs did value put
lock_blocks = refl

-- and its unlock breaks
unlock_breaks : runs (λ n. 0) 0 (group small 0 (unlocks (fixed 0))) locked ≡ broke kinds.Unlock 0
unfolding small locked runs did value put
unlock_breaks = refl

-- a wait of slot 2 gives the mutex up, and waits on condition 0
parked : List ℕ
parked = 7 ∷ 0 ∷ 0 ∷ 0 ∷ 1 ∷ 0 ∷ 0 ∷ 1 ∷ 0 ∷ 0 ∷ 0 ∷ 1 ∷ []

park_waits : runs (λ n. 0) 0 (group small 2 (parks (fixed 0) (fixed 0))) locked ≡ moved 0 parked
unfolding small locked parked runs did value put
park_waits = refl

-- it does not go on by itself
wake_blocks : runs (λ n. 0) 0 (group small 2 (wakes (fixed 0) (fixed 0))) parked ≡ blocked
unfolding small parked runs did value put
wake_blocks = refl

-- a signal to nobody is blocked while it waits, one to slot 2 wakes it, and one to slot 1 is blocked
signal_to_nobody : runs (λ n. 0) 0 (group small 0 (signals (fixed 0) (constant 0))) parked ≡ blocked
unfolding small parked runs did value put
signal_to_nobody = refl

signal_wakes : runs (λ n. 0) 0 (group small 0 (signals (fixed 0) (constant 3))) parked ≡ moved 0 running
unfolding small parked running runs did value put
signal_wakes = refl

signal_to_another : runs (λ n. 0) 0 (group small 0 (signals (fixed 0) (constant 2))) parked ≡ blocked
unfolding small parked runs did value put
signal_to_another = refl

broadcast_wakes : runs (λ n. 0) 0 (group small 0 (broadcasts (fixed 0))) parked ≡ moved 0 running
unfolding small parked running runs did value put
broadcast_wakes = refl

-- a join of slot 2, which runs, is blocked; one of slot 1, which is not made, and one of no slot break
join_waits : runs (λ n. 0) 0 (group small 0 (joins (constant 2))) running ≡ blocked
unfolding small running runs did value put
join_waits = refl

join_of_none : (runs (λ n. 0) 0 (group small 0 (joins (constant 1))) running ≡ broke kinds.Join 0) × (runs (λ n. 0) 0 (group small 0 (joins (constant 0))) running ≡ broke kinds.Join 0)
unfolding small running runs did value put
join_of_none = (refl, refl)

-- slot 1 is not made, and does nothing
not_made_yet : runs (λ n. 0) 0 (group small 1 (writes (fixed 0) (constant 5))) running ≡ blocked
unfolding small running runs did value put
not_made_yet = refl

-- slot 2 holds the atomic section: slot 0 cannot read
held : List ℕ
held = 7 ∷ 0 ∷ 0 ∷ 3 ∷ 1 ∷ 0 ∷ 0 ∷ 1 ∷ 0 ∷ 0 ∷ 0 ∷ 0 ∷ []

hold_goes : runs (λ n. 0) 0 (group small 2 holds_on) running ≡ moved 0 held
unfolding small running held runs did value put
hold_goes = refl

held_blocks : runs (λ n. 0) 0 (group small 0 (reads (fixed 0) (fixed 12))) held ≡ blocked
unfolding small held runs did value put
held_blocks = refl

-- the end of slot 2 lets it go
ended_lets_go : runs (λ n. 0) 0 (group small 2 (ends false)) held ≡ moved 0 (7 ∷ 0 ∷ 0 ∷ 0 ∷ 1 ∷ 0 ∷ 0 ∷ 2 ∷ 0 ∷ 0 ∷ 0 ∷ 0 ∷ [])
unfolding small held runs did value put
ended_lets_go = refl

-- scalars in a program of two slots: a read, a lock, an unlock, a wait's first half, a signal and a join
scalars : Layout
scalars = record { cells = 1; mutexes = 1; conds = 1; threads = 2 }

weights : (group_weight scalars (reads (fixed 0) (fixed 10)) ≡ 400) × (group_weight scalars (locks (fixed 0)) ≡ 407) × (group_weight scalars (unlocks (fixed 0)) ≡ 579) × (group_weight scalars (parks (fixed 0) (fixed 0)) ≡ 749)
    × (group_weight scalars (signals (fixed 0) (word 10)) ≡ 951) × (group_weight scalars (joins (word 10)) ≡ 1015) × (group_weight scalars holds_off ≡ 425) × (group_weight scalars (ends true) ≡ 765)
unfolding scalars
weights = (refl, refl, refl, refl, refl, refl, refl, refl)
