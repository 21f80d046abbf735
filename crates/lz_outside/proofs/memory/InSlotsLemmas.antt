-- What the slots of a folder hold after one of them changed.
use Rattle.std.proofs.Common.{◌≡◌, ℕ, ◌+◌, ◌<◌, ◌≤◌, List, [], ◌∷◌, ◌++◌, length, Option, Some, None, get_or, set, map, take, ap, sym, ◌∙◌, arith, true, false, suc, zero}
use Rattle.std.specs.List.{All}
use Rattle.std.proofs.lemmas.List.Elements.{All-append}
use Rattle.std.specs.Option.{OnSome, is_some}
use Rattle.std.proofs.Math.Seq.{take-set-lt}
use Rattle.std.proofs.lemmas.List.{map-set, map-append, take_more, take_more_set, get_or-map, get_or-take, length-map, length-take-le}
use Rattle.lz_outside.specs.declared.memory.folder.File.{File}
use Rattle.lz_outside.specs.declared.memory.slot.Slot.{Slot}
use Rattle.lz_outside.specs.Files.{bytes_or_none}
use Rattle.lz_outside.specs.Memory.Folder.{content_of, with_content}
use Rattle.lz_outside.specs.Memory.Slots.{file_of, files_of, place_from}
use Rattle.lz_outside.proofs.memory.ListingsLemmas.{StandsAt, found, content_of-none, content_of-with_content, place_from-new, with_content-new, with_content-same, with_content-twice}

pub length-files_of : (used : ℕ) (slots : List Slot) → used ≤ length slots → length (files_of used slots) ≡ used
length-files_of used slots h = length-map (take used slots) file_of ∙ length-take-le used slots h

-- a further slot is taken into use
pub files_of-new : (used : ℕ) (slots : List Slot) (slot : Slot) → used < length slots →
    files_of (used + 1) (set slots used slot) ≡ files_of used slots ++ file_of slot ∷ []
files_of-new used slots slot h =
    ap (λ (x : List Slot). map file_of x) (take_more_set slots used slot h)
    ∙ map-append file_of (take used slots) (slot ∷ [])

-- the slot at the place of the name's file
pub record HoldsFile (l : List File) (name : List ℕ) (used place : ℕ) (slots : List Slot) : Type 0 where
  pub within : place < used
  pub holds : (d : Slot) → bytes_or_none (content_of l name) ≡ (get_or slots place d).bytes.content
  pub changes : (d slot : Slot) (bytes : List ℕ) → slot.name.content ≡ (get_or slots place d).name.content →
      slot.bytes.content ≡ bytes → files_of used (set slots place slot) ≡ with_content l name bytes

file_at : (used place : ℕ) (slots : List Slot) (d : Slot) → place < used → used ≤ length slots →
    get_or (files_of used slots) place (file_of d) ≡ file_of (get_or slots place d)
file_at used place slots d h k =
    get_or-map file_of (take used slots) place d (file_of d) (omega (arith, length-take-le used slots k))
    ∙ ap file_of (get_or-take used slots place d h)

pub found_slot : {l : List File} {name : List ℕ} {used place : ℕ} {slots : List Slot} →
    files_of used slots ≡ l → used ≤ length slots → place_from 0 l name ≡ Some place →
    HoldsFile l name used place slots
found_slot {l} {name} {used} {place} {slots} v u h =
    let s : StandsAt l name place = found l place name h in
    let w : place < used = omega (arith, s.within, ap (λ (x : List File). length x) v, length-files_of used slots u) in
    let at : (d : Slot) → get_or l place (file_of d) ≡ file_of (get_or slots place d) =
    λ d. ap (λ (x : List File). get_or x place (file_of d)) (sym v) ∙ file_at used place slots d w u in
    record {
      within = w;
      holds = λ d.
          ap bytes_or_none (s.holds (file_of d)) ∙ ap (λ (x : File). x.bytes) (at d);
      changes = λ d slot bytes e b.
          let n : slot.name.content ≡ name = e ∙ sym (ap (λ (x : File). x.name) (at d)) ∙ s.named (file_of d) in
          ap (λ (x : List Slot). map file_of x) (take-set-lt used slots place slot w)
          ∙ map-set file_of (take used slots) place slot
          ∙ ap (λ (x : List File). set x place (file_of slot)) v
          ∙ ap (λ (x : List ℕ). set l place (record { name = x; bytes = slot.bytes.content })) n
          ∙ ap (λ (x : List ℕ). set l place (record { name = name; bytes = x })) b
          ∙ s.changes bytes;
    }

-- a name that is found, or not
pub with_content-found : (r : Option ℕ) (l : List File) (name : List ℕ) → r ≡ place_from 0 l name →
    OnSome r (l ≡ with_content l name (bytes_or_none (content_of l name)))
with_content-found None l name h = tt
with_content-found (Some p) l name h =
    let s : StandsAt l name p = found l p name (sym h) in
    let k : content_of l name ≡ Some (get_or l p (record { name = []; bytes = [] })).bytes = s.holds _ in
    sym (rw k (with_content-same l name _ k))

pub not_missing : (r : Option ℕ) (l : List File) (name : List ℕ) → r ≡ place_from 0 l name → is_some r ≡ true →
    content_of l name ≡ None → ⊥
not_missing None l name h s k = cc
not_missing (Some p) l name h s k =
    let a : StandsAt l name p = found l p name (sym h) in
    let e : content_of l name ≡ Some (get_or l p (record { name = []; bytes = [] })).bytes = a.holds _ in
    cc

pub missing : (r : Option ℕ) (l : List File) (name : List ℕ) → r ≡ place_from 0 l name → is_some r ≡ false →
    content_of l name ≡ None
missing None l name h s = content_of-none l 0 name (sym h)
missing (Some p) l name h s = cc

-- a search in the slots in use is one in the files
pub place_in : {r : Option ℕ} {l : List File} (name : List ℕ) (used : ℕ) {xs ys : List Slot} →
    r ≡ place_from 0 (files_of used xs) name → xs ≡ ys → files_of used ys ≡ l → r ≡ place_from 0 l name
place_in name used h e v =
    h ∙ ap (λ (x : List Slot). place_from 0 (files_of used x) name) e
    ∙ ap (λ (x : List File). place_from 0 x name) v

-- a spare slot becomes an empty file of the name
pub record OpensFile (l : List File) (name : List ℕ) (used : ℕ) (slots : List Slot) : Type 0 where
  pub placed : place_from 0 (files_of (used + 1) slots) name ≡ Some used
  pub opened : files_of (used + 1) slots ≡ with_content l name (bytes_or_none (content_of l name))

pub opens_new : (l : List File) (name : List ℕ) (used : ℕ) (slots : List Slot) (slot : Slot) →
    files_of used slots ≡ l → used < length slots → slot.name.content ≡ name → slot.bytes.content ≡ [] →
    content_of l name ≡ None → OpensFile l name used (set slots used slot)
opens_new l name used slots slot v h n b k =
    let e : files_of (used + 1) (set slots used slot) ≡ l ++ record { name = name; bytes = [] } ∷ [] =
    files_of-new used slots slot h
    ∙ ap (λ (x : List File). x ++ file_of slot ∷ []) v
    ∙ ap (λ (x : List ℕ). l ++ record { name = x; bytes = slot.bytes.content } ∷ []) n
    ∙ ap (λ (x : List ℕ). l ++ record { name = name; bytes = x } ∷ []) b in
    let w : length l ≡ used =
    ap (λ (x : List File). length x) (sym v)
    ∙ length-files_of used slots (omega (arith, h)) in
    record {
      placed =
          ap (λ (x : List File). place_from 0 x name) e ∙ place_from-new l 0 name [] k
          ∙ ap (λ (x : ℕ). Some x) (omega (arith, w));
      opened = e ∙ sym (rw k (with_content-new l name [] k));
    }

All-one : {X : Type 0} (P : X → Type 0) (y : X) → P y → All P (y ∷ [])
All-one P y p zero d h = p
All-one P y p (suc k) d h = absurd (omega arith)

-- one more element
pub All-push : {X : Type 0} (P : X → Type 0) (xs : List X) (y : X) → All P xs → P y → All P (xs ++ y ∷ [])
All-push P xs y h p = All-append P xs (y ∷ []) h (All-one P y p)

-- one more file has its slot
pub files_of-more : (slots : List Slot) (slot : Slot) (files : List File) (i : ℕ) (file : File) (name bytes : List ℕ) →
    map file_of slots ≡ take i files → i < length files → file ≡ get_or files i file →
    file_of slot ≡ record { name = name; bytes = bytes } → name ≡ file.name → bytes ≡ file.bytes →
    map file_of (slots ++ slot ∷ []) ≡ take (i + 1) files
files_of-more slots slot files i file name bytes h w g e n b =
    let f : file_of slot ≡ file =
    e ∙ ap (λ (x : List ℕ). record { name = x; bytes = bytes }) n
    ∙ ap (λ (x : List ℕ). record { name = file.name; bytes = x }) b in
    map-append file_of slots (slot ∷ [])
    ∙ ap (λ (x : List File). x ++ file_of slot ∷ []) h
    ∙ ap (λ (x : File). take i files ++ x ∷ []) (f ∙ g)
    ∙ sym (take_more files i file w)

-- the file that was opened holds what it held, or nothing
pub bytes_kept : (l before : List File) (name : List ℕ) →
    l ≡ with_content before name (bytes_or_none (content_of before name)) →
    bytes_or_none (content_of l name) ≡ bytes_or_none (content_of before name)
bytes_kept l before name e =
    ap (λ (x : List File). bytes_or_none (content_of x name)) e
    ∙ ap bytes_or_none (content_of-with_content before name (bytes_or_none (content_of before name)))

-- a change of the file that was opened is one of the files before
pub changes_before : (l before after : List File) (name bytes : List ℕ) →
    l ≡ with_content before name (bytes_or_none (content_of before name)) →
    after ≡ with_content l name bytes → after ≡ with_content before name bytes
changes_before l before after name bytes e h =
    h ∙ ap (λ (x : List File). with_content x name bytes) e
    ∙ with_content-twice before name (bytes_or_none (content_of before name)) bytes
