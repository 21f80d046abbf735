-- What the files of a folder in memory are after one of them changed.
use Rattle.std.proofs.Common.{◌≡◌, ◌≢◌, ℕ, ◌+◌, ◌<◌, ◌≤◌, Bool, true, false, cond, List, [], ◌∷◌, ◌++◌, length, Option, Some, None, get_or, set, refl, ap, sym, ◌∙◌, subst, suc, arith}
use Rattle.std.specs.Str.{bytes_eq}
use Rattle.std.proofs.lemmas.Slice.Eq.{bytes_eq-Decides}
use Rattle.lz_outside.specs.declared.memory.folder.File.{File}
use Rattle.lz_outside.specs.Files.{Changes}
use Rattle.lz_outside.specs.Memory.Folder.{content_of, with_content}
use Rattle.lz_outside.specs.Memory.Slots.{place_from}

-- by whether two names are one
by_name : (x y : List ℕ) (P : Bool → Type 0) → (x ≡ y → P true) → (x ≢ y → P false) → P (bytes_eq x y)
by_name x y P h k =
    let d = bytes_eq-Decides x y in
    elim
    (bytes_eq x y)
    as
    (λ b. (b ≡ true → x ≡ y) → (x ≡ y → b ≡ true) → P b)
    [ true ↦ λ f g. h (f refl) | false ↦ λ f g. k (λ e. let q : false ≡ true = g e in cc) ]
    d.0
    d.1

same_name : (x : List ℕ) → bytes_eq x x ≡ true
same_name x = (bytes_eq-Decides x x).1 refl

other_name : (x y : List ℕ) → x ≢ y → bytes_eq x y ≡ false
other_name x y d = by_name x y (λ b. b ≡ false) (λ e. absurd (d e)) (λ _. refl)

-- the file of the name holds the bytes
pub content_of-with_content : (l : List File) (name bytes : List ℕ) →
    content_of (with_content l name bytes) name ≡ Some bytes
content_of-with_content [] name bytes = rw (same_name name) refl
content_of-with_content (file ∷ rest) name bytes =
    by_name
    file.name
    name
    (λ b.
    content_of
    (cond b (record { name = name; bytes = bytes } ∷ rest) (file ∷ with_content rest name bytes))
    name
    ≡ Some bytes)
    (λ _. rw (same_name name) refl)
    (λ d. rw (other_name file.name name d) (content_of-with_content rest name bytes))

-- each other file holds what it held
pub content_of-with_content_other : (l : List File) (name bytes other : List ℕ) → other ≢ name →
    content_of (with_content l name bytes) other ≡ content_of l other
content_of-with_content_other [] name bytes other d = rw (other_name name other (λ e. d (sym e))) refl
content_of-with_content_other (file ∷ rest) name bytes other d =
    by_name
    file.name
    name
    (λ b.
    content_of
    (cond b (record { name = name; bytes = bytes } ∷ rest) (file ∷ with_content rest name bytes))
    other
    ≡ content_of (file ∷ rest) other)
    (λ e.
    let n : name ≢ other = λ h. d (sym h) in
    let m : file.name ≢ other = λ h. d (sym h ∙ e) in
    rw (other_name name other n, other_name file.name other m) refl)
    (λ _.
    ap
    (λ (x : Option (List ℕ)). cond (bytes_eq file.name other) (Some file.bytes) x)
    (content_of-with_content_other rest name bytes other d))

-- the last change counts
pub with_content-twice : (l : List File) (name a b : List ℕ) →
    with_content (with_content l name a) name b ≡ with_content l name b
with_content-twice [] name a b = rw (same_name name) refl
with_content-twice (file ∷ rest) name a b =
    by_name
    file.name
    name
    (λ t.
    with_content (cond t (record { name = name; bytes = a } ∷ rest) (file ∷ with_content rest name a)) name b
    ≡ cond t (record { name = name; bytes = b } ∷ rest) (file ∷ with_content rest name b))
    (λ _. rw (same_name name) refl)
    (λ d. rw (other_name file.name name d) (ap (λ (x : List File). file ∷ x) (with_content-twice rest name a b)))

-- a new file stands at the end
pub with_content-new : (l : List File) (name bytes : List ℕ) → content_of l name ≡ None →
    with_content l name bytes ≡ l ++ record { name = name; bytes = bytes } ∷ []
with_content-new [] name bytes h = refl
with_content-new (file ∷ rest) name bytes h =
    by_name
    file.name
    name
    (λ b.
    cond b (Some file.bytes) (content_of rest name) ≡ None →
    cond b (record { name = name; bytes = bytes } ∷ rest) (file ∷ with_content rest name bytes)
    ≡ file ∷ (rest ++ record { name = name; bytes = bytes } ∷ []))
    (λ _ k. cc)
    (λ _ k. ap (λ (x : List File). file ∷ x) (with_content-new rest name bytes k))
    h

-- what it holds already changes nothing
pub with_content-same : (l : List File) (name bytes : List ℕ) → content_of l name ≡ Some bytes →
    with_content l name bytes ≡ l
with_content-same [] name bytes h = cc
with_content-same (file ∷ rest) name bytes h =
    by_name
    file.name
    name
    (λ b.
    cond b (Some file.bytes) (content_of rest name) ≡ Some bytes →
    cond b (record { name = name; bytes = bytes } ∷ rest) (file ∷ with_content rest name bytes)
    ≡ file ∷ rest)
    (λ e k. let q : file.bytes ≡ bytes = cc in rw (← e, ← q) refl)
    (λ _ k. ap (λ (x : List File). file ∷ x) (with_content-same rest name bytes k))
    h

-- a new file is found at the end
pub place_from-new : (l : List File) (i : ℕ) (name bytes : List ℕ) → content_of l name ≡ None →
    place_from i (l ++ record { name = name; bytes = bytes } ∷ []) name ≡ Some (i + length l)
place_from-new [] i name bytes h = rw (same_name name) (ap (λ (x : ℕ). Some x) (omega arith))
place_from-new (file ∷ rest) i name bytes h =
    by_name
    file.name
    name
    (λ b.
    cond b (Some file.bytes) (content_of rest name) ≡ None →
    cond b (Some i) (place_from (i + 1) (rest ++ record { name = name; bytes = bytes } ∷ []) name)
    ≡ Some (i + length (file ∷ rest)))
    (λ _ k. cc)
    (λ _ k. place_from-new rest (i + 1) name bytes k ∙ ap (λ (x : ℕ). Some x) (omega arith))
    h

-- no place, no content
pub content_of-none : (l : List File) (i : ℕ) (name : List ℕ) → place_from i l name ≡ None → content_of l name ≡ None
content_of-none [] i name h = refl
content_of-none (file ∷ rest) i name h =
    by_name
    file.name
    name
    (λ b.
    cond b (Some i) (place_from (i + 1) rest name) ≡ None →
    cond b (Some file.bytes) (content_of rest name) ≡ None)
    (λ _ k. cc)
    (λ _ k. content_of-none rest (i + 1) name k)
    h

-- the file of the name stands at this index
pub record StandsAt (l : List File) (name : List ℕ) (q : ℕ) : Type 0 where
  pub within : q < length l
  pub named : (d : File) → (get_or l q d).name ≡ name
  pub holds : (d : File) → content_of l name ≡ Some (get_or l q d).bytes
  pub changes : (bytes : List ℕ) → set l q (record { name = name; bytes = bytes }) ≡ with_content l name bytes

StandsAt-first : (file : File) (rest : List File) (name : List ℕ) → file.name ≡ name → StandsAt (file ∷ rest) name 0
StandsAt-first file rest name e =
    let t : bytes_eq file.name name ≡ true = rw (← e) (same_name file.name) in
    record {
      within = omega arith;
      named = λ d. e;
      holds = λ d. rw t refl;
      changes = λ bytes. rw t refl;
    }

StandsAt-later : (file : File) (rest : List File) (name : List ℕ) (q : ℕ) → file.name ≢ name →
    StandsAt rest name q → StandsAt (file ∷ rest) name (suc q)
StandsAt-later file rest name q d s =
    let t : bytes_eq file.name name ≡ false = other_name file.name name d in
    record {
      within = omega (arith, s.within);
      named = λ x. s.named x;
      holds = λ x. rw t (s.holds x);
      changes = λ bytes. rw t (ap (λ (x : List File). file ∷ x) (s.changes bytes));
    }

found_from : (l : List File) (i p : ℕ) (name : List ℕ) → place_from i l name ≡ Some p →
    (q : ℕ) × (i + q ≡ p) × StandsAt l name q
found_from [] i p name h = cc
found_from (file ∷ rest) i p name h =
    by_name
    file.name
    name
    (λ b. cond b (Some i) (place_from (i + 1) rest name) ≡ Some p → (q : ℕ) × (i + q ≡ p) × StandsAt (file ∷ rest) name q)
    (λ e k. let q : i ≡ p = cc in (0, omega arith, StandsAt-first file rest name e))
    (λ d k.
    let r : (q : ℕ) × (i + 1 + q ≡ p) × StandsAt rest name q = found_from rest (i + 1) p name k in
    (suc r.0, omega (arith, r.1), StandsAt-later file rest name r.0 d r.2))
    h

-- the place that is found is the file's index
pub found : (l : List File) (p : ℕ) (name : List ℕ) → place_from 0 l name ≡ Some p → StandsAt l name p
found l p name h =
    let r : (q : ℕ) × (0 + q ≡ p) × StandsAt l name q = found_from l 0 p name h in
    let e : r.0 ≡ p = omega (arith, r.1) in
    subst (λ (x : ℕ). StandsAt l name x) e r.2

-- what a caller sees of a change
pub Changes-with_content : (l after : List File) (name bytes : List ℕ) → after ≡ with_content l name bytes →
    Changes (Some (content_of l)) (Some (content_of after)) name bytes
Changes-with_content l after name bytes e =
    let P : List File → Type 0 = λ x. Changes (Some (content_of l)) (Some (content_of x)) name bytes in
    subst P (sym e) (
      content_of-with_content l name bytes,
      λ other d. content_of-with_content_other l name bytes other d,
    )
