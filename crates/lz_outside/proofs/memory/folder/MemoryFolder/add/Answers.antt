use Rattle.std.proofs.Common.{arith, List, ℕ, ◌≤◌, ◌<◌, ◌≡◌, ◌∙◌, ◌++◌, ap, sym, subst, length, length-take, take}
use Rattle.lz_outside.specs.Memory.Buffer.{BufferState}
use Rattle.lz_outside.specs.Files.{bytes_or_none}
use Rattle.lz_outside.specs.declared.memory.slot.Slot.{Slot}
use Rattle.lz_outside.specs.Memory.Folder.{FolderState, content_of}
use Rattle.lz_outside.proofs.memory.InSlotsLemmas.{bytes_kept, changes_before, found_slot}
use Rattle.lz_outside.proofs.memory.folder.MemoryFolder.add.Goals as goal

pub index_mut-slot-requires : goal.index_mut-slot-requires
index_mut-slot-requires c =
    let s = found_slot (ap (λ (x : FolderState). x.listing) c.self.view_is) c.self.invariant.0 c.in_ok-place.ensures.place in
    omega (arith, s.within, c.self.invariant.0)

pub add-requires : goal.add-requires
add-requires c =
    let s = found_slot (ap (λ (x : FolderState). x.listing) c.self.view_is) c.self.invariant.0 c.in_ok-place.ensures.place in
    let w : c.in_ok-place.place < length c.self.inside.slots.items = omega (arith, s.within, c.self.invariant.0) in
    let r : c.self.inside.room ≤ c.index_mut-slot.result.now.bytes.room =
    subst
    (λ (x : Slot). c.self.inside.room ≤ x.bytes.room)
    (sym c.index_mut-slot.ensures.value)
    (c.self.invariant.1 c.in_ok-place.place c.index_mut-slot.result.now w).bytes_fit in
    let v = ap (λ (x : List ℕ). length x) c.content.ensures.value in
    omega (
      arith,
      r,
      v,
      c.content.ensures.fits,
      c.min-count.ensures,
      c.saturating_sub-left.ensures,
      length-take c.min-count.result c.args.piece.now,
    )

-- what the slot held is what the file of the name did
held : (c : goal.After-self-1) →
    bytes_or_none (content_of c.args.self.now.listing c.args.name.now) ≡ c.index_mut-slot.result.now.bytes.content
held c =
    let s = found_slot (ap (λ (x : FolderState). x.listing) c.self.view_is) c.self.invariant.0 c.in_ok-place.ensures.place in
    sym (bytes_kept _ c.args.self.now.listing c.args.name.now c.in_ok-place.ensures.opened)
    ∙ s.holds c.index_mut-slot.result.now
    ∙ ap (λ (x : Slot). x.bytes.content) (sym c.index_mut-slot.ensures.value)

pub returns-clause-count : goal.returns-clause-count
returns-clause-count c =
    let v = ap (λ (x : List ℕ). length x) c.content.ensures.value in
    let h = ap (λ (x : List ℕ). length x) (held c) in
    let r = ap (λ (x : FolderState). x.room) c.self.view_is in
    let q = ap (λ (x : FolderState). x.room) c.in_ok-place.ensures.rest in
    omega (arith, v, h, r, q, c.min-count.ensures, c.saturating_sub-left.ensures)

pub returns-clause-listing : goal.returns-clause-listing
returns-clause-listing c =
    let s = found_slot (ap (λ (x : FolderState). x.listing) c.self.view_is) c.self.invariant.0 c.in_ok-place.ensures.place in
    changes_before _ c.args.self.now.listing _ c.args.name.now _ c.in_ok-place.ensures.opened
    (s.changes c.index_mut-slot.result.now (record { name = c.index_mut-slot.result.now.name; bytes = c.add.new.self }) _
    (ap (λ (x : Slot). x.name.content) c.index_mut-slot.ensures.value)
    (ap (λ (x : BufferState). x.content) c.add.ensures
    ∙ ap (λ (x : List ℕ). x ++ take c.min-count.result c.args.piece.now) (sym (held c))))
