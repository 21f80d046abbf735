use Rattle.std.proofs.Common.{◌∙◌, ap, arith, map, List}
use Rattle.lz_outside.specs.declared.memory.slot.Slot.{Slot}
use Rattle.lz_outside.specs.Memory.Slots.{IsRoomy, file_of}
use Rattle.lz_outside.proofs.memory.InSlotsLemmas.{All-push, files_of-more}
use Rattle.lz_outside.proofs.memory.folder.slots_of.Goals as goal

pub loop-file-preserved : goal.loop-file-preserved
loop-file-preserved c = record {
  files =
      ap (λ (x : List Slot). map file_of x) c.in_ok-push.ensures.items
      ∙ files_of-more
      _
      _
      _
      _
      c.file-item.result
      _
      _
      c.loop-file.invariant.files
      c.loop-file-test.true
      c.file-item.is
      c.in_ok-slot.ensures.file
      (c.as_bytes.ensures.value ∙ c.text.ensures)
      c.items.ensures;
  roomy = rw c.in_ok-push.ensures.items (All-push (IsRoomy c.args.room) _ _ c.loop-file.invariant.roomy c.in_ok-slot.ensures.roomy);
}
