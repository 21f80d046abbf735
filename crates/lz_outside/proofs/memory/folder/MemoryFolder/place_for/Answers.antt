use Rattle.std.proofs.Common.{arith, ap, sym, ◌≡◌, ◌<◌, ◌∙◌, ◌⊎◌, ◌++◌, inl, inr, ◌-◌, length, refl, set}
use Rattle.lz_outside.specs.Memory.Buffer.{BufferState}
use Rattle.lz_outside.specs.Memory.Folder.{FolderState}
use Rattle.lz_outside.proofs.memory.InSlotsLemmas.{OpensFile, missing, not_missing, opens_new, place_in, with_content-found}
use Rattle.lz_outside.proofs.memory.folder.MemoryFolder.place_for.Goals as goal

pub returns-then-is_some-clause-opened : goal.returns-then-is_some-clause-opened
returns-then-is_some-clause-opened c =
    with_content-found _ _ _
    (place_in _ _ c.find_place-found.ensures c.deref.ensures.value (ap (λ (x : FolderState). x.listing) c.self.view_is))

pub returns-then-is_some-clause-none : goal.returns-then-is_some-clause-none
returns-then-is_some-clause-none c =
    let h = place_in _ _ c.find_place-found.ensures c.deref.ensures.value (ap (λ (x : FolderState). x.listing) c.self.view_is) in
    let s = sym c.if-is_some.ensures in
    (λ n. absurd (cc (n, s)), λ n. absurd (not_missing _ c.args.self.now.listing c.args.name.now h s n.0))

pub returns-then-self-len-clause-none : goal.returns-then-self-len-clause-none
returns-then-self-len-clause-none c =
    let h = place_in _ _ c.find_place-found.ensures c.deref.ensures.value (ap (λ (x : FolderState). x.listing) c.self.view_is) in
    let v = ap (λ (x : FolderState). x.spare) c.self.view_is in (
      λ _. (
        missing _ c.args.self.now.listing c.args.name.now h (sym c.if-is_some.ensures),
        elim c.then-self-len.either [ inl e ↦ inl (omega (arith, v, e, c.len.ensures)) | inr w ↦ inr w.1 ],
      ),
      λ _. refl,
    )

opens : (c : goal.After-self-2-1) →
    OpensFile c.args.self.now.listing c.args.name.now c.self.inside.used
    (set c.self.inside.slots.items c.self.inside.used (record { name = c.add.new.self; bytes = c.clear-2.new.self }))
opens c =
    let v = ap (λ (x : FolderState). x.listing) c.self.view_is in
    let h = place_in _ _ c.find_place-found.ensures c.deref.ensures.value v in
    let w : c.self.inside.used < length c.self.inside.slots.items = omega (arith, c.self.invariant.0, c.len.ensures, c.if-self-len.false) in
    let n = ap (λ (x : BufferState). x.content) c.add.ensures
    ∙ ap (λ (x : BufferState). x.content ++ c.as_bytes.result.now) c.clear.ensures
    ∙ c.as_bytes.ensures.value in
    opens_new _ _ _ _ (record { name = c.add.new.self; bytes = c.clear-2.new.self }) v w n
    (ap (λ (x : BufferState). x.content) c.clear-2.ensures)
    (missing _ c.args.self.now.listing c.args.name.now h (sym c.if-is_some.ensures))

pub returns-clause-place : goal.returns-clause-place
returns-clause-place c = (opens c).placed

pub returns-clause-opened : goal.returns-clause-opened
returns-clause-opened c = (opens c).opened
