-- The group of every operation does as the operation.
use Rattle.lz_sync.specs.Operations.{reads, writes, resets, locks, unlocks, parks, wakes, signals, broadcasts, creates, joins, holds_on, holds_off, ends}
use Rattle.lz_sync.specs.Doing.{GroupsDo}
use Rattle.lz_sync.proofs.AccessLemmas.{reads_do, writes_do}
use Rattle.lz_sync.proofs.MutexLemmas.{resets_do, locks_do, unlocks_do}
use Rattle.lz_sync.proofs.HolderLemmas.{holds_on_do, holds_off_do}
use Rattle.lz_sync.proofs.WaitingLemmas.{parks_do, wakes_do, broadcasts_do}
use Rattle.lz_sync.proofs.SignalLemmas.{signals_do}
use Rattle.lz_sync.proofs.CreateLemmas.{creates_do}
use Rattle.lz_sync.proofs.JoinLemmas.{joins_do}
use Rattle.lz_sync.proofs.EndLemmas.{ends_do}

-- by cases
pub groups_do : GroupsDo
groups_do layout t (reads from to) = reads_do layout t from to
groups_do layout t (writes to of) = writes_do layout t to of
groups_do layout t (resets m) = resets_do layout t m
groups_do layout t (locks m) = locks_do layout t m
groups_do layout t (unlocks m) = unlocks_do layout t m
groups_do layout t (parks c m) = parks_do layout t c m
groups_do layout t (wakes c m) = wakes_do layout t c m
groups_do layout t (signals c w) = signals_do layout t c w
groups_do layout t (broadcasts c) = broadcasts_do layout t c
groups_do layout t (creates slot start argument) = creates_do layout t slot start argument
groups_do layout t (joins slot) = joins_do layout t slot
groups_do layout t holds_on = holds_on_do layout t
groups_do layout t holds_off = holds_off_do layout t
groups_do layout t (ends whole) = ends_do layout t whole
