use Rattle.std.proofs.Common.{arith, ap, []}
use Rattle.lz_outside.specs.Memory.Buffer.{BufferState}
use Rattle.lz_outside.specs.declared.memory.slot.Slot.{Slot}
use Rattle.lz_outside.specs.Memory.Folder.{FolderState}
use Rattle.lz_outside.proofs.memory.InSlotsLemmas.{changes_before, found_slot}
use Rattle.lz_outside.proofs.memory.folder.MemoryFolder.empty.Goals as goal

pub index_mut-slot-requires : goal.index_mut-slot-requires
index_mut-slot-requires c =
    let s = found_slot (ap (λ (x : FolderState). x.listing) c.self.view_is) c.self.invariant.0 c.in-Some.ensures.place in
    omega (arith, s.within, c.self.invariant.0)

pub returns-in-Some-clause-listing : goal.returns-in-Some-clause-listing
returns-in-Some-clause-listing c = λ _.
    let s = found_slot (ap (λ (x : FolderState). x.listing) c.self.view_is) c.self.invariant.0 c.in-Some.ensures.place in
    changes_before _ c.args.self.now.listing _ c.args.name.now [] c.in-Some.ensures.opened
    (s.changes c.index_mut-slot.result.now (record { name = c.index_mut-slot.result.now.name; bytes = c.clear.new.self }) []
    (ap (λ (x : Slot). x.name.content) c.index_mut-slot.ensures.value)
    (ap (λ (x : BufferState). x.content) c.clear.ensures))
