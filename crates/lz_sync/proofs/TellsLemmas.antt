-- Words by their roles: places are apart, and a write changes one.
use Rattle.std.proofs.Common.{◌≡◌, ℕ, ◌≤◌, ◌<◌, Bool, true, false, cond, List, length, eqb, refl, sym, ◌∙◌, ap, arith}
use Rattle.std.specs.Prelude.{slice_index, slice_set}
use Rattle.std.proofs.lemmas.Bool.{eqb-true, eqb-false, eq-eqb}
use Rattle.std.proofs.lemmas.List.{length-set, get_or-set_same, get_or-set_other}
use Rattle.lz_sync.specs.declared.layout.Layout.{Layout}
use Rattle.lz_sync.specs.Standing.{Role, cell, owner, over, holder, main_life, no_life, life, no_wait, wait, place_of, words_of, IsOf, Tells}

-- a word that was written, and another
pub word_same : (m : List ℕ) (w v : ℕ) → w < length m → slice_index (slice_set m w v) w ≡ v
word_same m w v lt = get_or-set_same m w v 0 lt

pub word_other : (m : List ℕ) (w v x : ℕ) → (x ≡ w → ⊥) → slice_index (slice_set m w v) x ≡ slice_index m x
word_other m w v x n = get_or-set_other m w x v 0 n

-- the roles are one
abbrev pub same_role : Role → Role → Bool
same_role (cell i) (cell j) = eqb i j
same_role (owner i) (owner j) = eqb i j
same_role over over = true
same_role holder holder = true
same_role main_life main_life = true
same_role no_life no_life = true
same_role (life i) (life j) = eqb i j
same_role no_wait no_wait = true
same_role (wait i) (wait j) = eqb i j
same_role one other = false

-- roles of one place are one
pub apart : (layout : Layout) (one other : Role) → IsOf layout one → IsOf layout other → place_of layout one ≡ place_of layout other → same_role one other ≡ true
apart layout (cell i) (cell j) h k e = eq-eqb i j (omega (arith, e))
apart layout (cell i) (owner j) h k e = absurd (let z : ⊥ = omega (arith, e, h, k) in z)
apart layout (cell i) over h k e = absurd (let z : ⊥ = omega (arith, e, h) in z)
apart layout (cell i) holder h k e = absurd (let z : ⊥ = omega (arith, e, h) in z)
apart layout (cell i) main_life h k e = absurd (let z : ⊥ = omega (arith, e, h) in z)
apart layout (cell i) no_life h k e = absurd (let z : ⊥ = omega (arith, e, h) in z)
apart layout (cell i) (life j) h k e = let k0 = k.0 in let k1 = k.1 in absurd (let z : ⊥ = omega (arith, e, k0, k1, h) in z)
apart layout (cell i) no_wait h k e = absurd (let z : ⊥ = omega (arith, e, h) in z)
apart layout (cell i) (wait j) h k e = absurd (let z : ⊥ = omega (arith, e, h, k) in z)
apart layout (owner i) (cell j) h k e = absurd (let z : ⊥ = omega (arith, e, h, k) in z)
apart layout (owner i) (owner j) h k e = eq-eqb i j (omega (arith, e))
apart layout (owner i) over h k e = absurd (let z : ⊥ = omega (arith, e, h) in z)
apart layout (owner i) holder h k e = absurd (let z : ⊥ = omega (arith, e, h) in z)
apart layout (owner i) main_life h k e = absurd (let z : ⊥ = omega (arith, e, h) in z)
apart layout (owner i) no_life h k e = absurd (let z : ⊥ = omega (arith, e, h) in z)
apart layout (owner i) (life j) h k e = let k0 = k.0 in let k1 = k.1 in absurd (let z : ⊥ = omega (arith, e, k0, k1, h) in z)
apart layout (owner i) no_wait h k e = absurd (let z : ⊥ = omega (arith, e, h) in z)
apart layout (owner i) (wait j) h k e = absurd (let z : ⊥ = omega (arith, e, h, k) in z)
apart layout over (cell j) h k e = absurd (let z : ⊥ = omega (arith, e, k) in z)
apart layout over (owner j) h k e = absurd (let z : ⊥ = omega (arith, e, k) in z)
apart layout over over h k e = refl
apart layout over holder h k e = absurd (let z : ⊥ = omega (arith, e) in z)
apart layout over main_life h k e = absurd (let z : ⊥ = omega (arith, e) in z)
apart layout over no_life h k e = absurd (let z : ⊥ = omega (arith, e) in z)
apart layout over (life j) h k e = let k0 = k.0 in let k1 = k.1 in absurd (let z : ⊥ = omega (arith, e, k0, k1) in z)
apart layout over no_wait h k e = absurd (let z : ⊥ = omega (arith, e) in z)
apart layout over (wait j) h k e = absurd (let z : ⊥ = omega (arith, e, k) in z)
apart layout holder (cell j) h k e = absurd (let z : ⊥ = omega (arith, e, k) in z)
apart layout holder (owner j) h k e = absurd (let z : ⊥ = omega (arith, e, k) in z)
apart layout holder over h k e = absurd (let z : ⊥ = omega (arith, e) in z)
apart layout holder holder h k e = refl
apart layout holder main_life h k e = absurd (let z : ⊥ = omega (arith, e) in z)
apart layout holder no_life h k e = absurd (let z : ⊥ = omega (arith, e) in z)
apart layout holder (life j) h k e = let k0 = k.0 in let k1 = k.1 in absurd (let z : ⊥ = omega (arith, e, k0, k1) in z)
apart layout holder no_wait h k e = absurd (let z : ⊥ = omega (arith, e) in z)
apart layout holder (wait j) h k e = absurd (let z : ⊥ = omega (arith, e, k) in z)
apart layout main_life (cell j) h k e = absurd (let z : ⊥ = omega (arith, e, k) in z)
apart layout main_life (owner j) h k e = absurd (let z : ⊥ = omega (arith, e, k) in z)
apart layout main_life over h k e = absurd (let z : ⊥ = omega (arith, e) in z)
apart layout main_life holder h k e = absurd (let z : ⊥ = omega (arith, e) in z)
apart layout main_life main_life h k e = refl
apart layout main_life no_life h k e = absurd (let z : ⊥ = omega (arith, e) in z)
apart layout main_life (life j) h k e = let k0 = k.0 in let k1 = k.1 in absurd (let z : ⊥ = omega (arith, e, k0, k1) in z)
apart layout main_life no_wait h k e = absurd (let z : ⊥ = omega (arith, e) in z)
apart layout main_life (wait j) h k e = absurd (let z : ⊥ = omega (arith, e, k) in z)
apart layout no_life (cell j) h k e = absurd (let z : ⊥ = omega (arith, e, k) in z)
apart layout no_life (owner j) h k e = absurd (let z : ⊥ = omega (arith, e, k) in z)
apart layout no_life over h k e = absurd (let z : ⊥ = omega (arith, e) in z)
apart layout no_life holder h k e = absurd (let z : ⊥ = omega (arith, e) in z)
apart layout no_life main_life h k e = absurd (let z : ⊥ = omega (arith, e) in z)
apart layout no_life no_life h k e = refl
apart layout no_life (life j) h k e = let k0 = k.0 in let k1 = k.1 in absurd (let z : ⊥ = omega (arith, e, k0, k1) in z)
apart layout no_life no_wait h k e = absurd (let z : ⊥ = omega (arith, e, h) in z)
apart layout no_life (wait j) h k e = absurd (let z : ⊥ = omega (arith, e, k) in z)
apart layout (life i) (cell j) h k e = let h0 = h.0 in let h1 = h.1 in absurd (let z : ⊥ = omega (arith, e, h0, h1, k) in z)
apart layout (life i) (owner j) h k e = let h0 = h.0 in let h1 = h.1 in absurd (let z : ⊥ = omega (arith, e, h0, h1, k) in z)
apart layout (life i) over h k e = let h0 = h.0 in let h1 = h.1 in absurd (let z : ⊥ = omega (arith, e, h0, h1) in z)
apart layout (life i) holder h k e = let h0 = h.0 in let h1 = h.1 in absurd (let z : ⊥ = omega (arith, e, h0, h1) in z)
apart layout (life i) main_life h k e = let h0 = h.0 in let h1 = h.1 in absurd (let z : ⊥ = omega (arith, e, h0, h1) in z)
apart layout (life i) no_life h k e = let h0 = h.0 in let h1 = h.1 in absurd (let z : ⊥ = omega (arith, e, h0, h1) in z)
apart layout (life i) (life j) h k e = eq-eqb i j (omega (arith, e))
apart layout (life i) no_wait h k e = let h0 = h.0 in let h1 = h.1 in absurd (let z : ⊥ = omega (arith, e, h0, h1) in z)
apart layout (life i) (wait j) h k e = let h0 = h.0 in let h1 = h.1 in absurd (let z : ⊥ = omega (arith, e, h0, h1, k) in z)
apart layout no_wait (cell j) h k e = absurd (let z : ⊥ = omega (arith, e, k) in z)
apart layout no_wait (owner j) h k e = absurd (let z : ⊥ = omega (arith, e, k) in z)
apart layout no_wait over h k e = absurd (let z : ⊥ = omega (arith, e) in z)
apart layout no_wait holder h k e = absurd (let z : ⊥ = omega (arith, e) in z)
apart layout no_wait main_life h k e = absurd (let z : ⊥ = omega (arith, e) in z)
apart layout no_wait no_life h k e = absurd (let z : ⊥ = omega (arith, e, k) in z)
apart layout no_wait (life j) h k e = let k0 = k.0 in let k1 = k.1 in absurd (let z : ⊥ = omega (arith, e, k0, k1) in z)
apart layout no_wait no_wait h k e = refl
apart layout no_wait (wait j) h k e = absurd (let z : ⊥ = omega (arith, e, k) in z)
apart layout (wait i) (cell j) h k e = absurd (let z : ⊥ = omega (arith, e, h, k) in z)
apart layout (wait i) (owner j) h k e = absurd (let z : ⊥ = omega (arith, e, h, k) in z)
apart layout (wait i) over h k e = absurd (let z : ⊥ = omega (arith, e, h) in z)
apart layout (wait i) holder h k e = absurd (let z : ⊥ = omega (arith, e, h) in z)
apart layout (wait i) main_life h k e = absurd (let z : ⊥ = omega (arith, e, h) in z)
apart layout (wait i) no_life h k e = absurd (let z : ⊥ = omega (arith, e, h) in z)
apart layout (wait i) (life j) h k e = let k0 = k.0 in let k1 = k.1 in absurd (let z : ⊥ = omega (arith, e, k0, k1, h) in z)
apart layout (wait i) no_wait h k e = absurd (let z : ⊥ = omega (arith, e, h) in z)
apart layout (wait i) (wait j) h k e = eq-eqb i j (omega (arith, e))

-- each place is within
pub place_lt : (layout : Layout) (role : Role) → IsOf layout role → place_of layout role < words_of layout
place_lt layout (cell i) h = omega (arith, h)
place_lt layout (owner i) h = omega (arith, h)
place_lt layout over h = omega arith
place_lt layout holder h = omega arith
place_lt layout main_life h = omega arith
place_lt layout no_life h = omega arith
place_lt layout (life i) h = let h1 = h.1 in omega (arith, h1)
place_lt layout no_wait h = omega arith
place_lt layout (wait i) h = omega (arith, h)

-- the words, but this one
abbrev pub but : (Role → ℕ) → Role → ℕ → Role → ℕ
but words role v other = cond (same_role other role) v (words other)

-- a write of one word
pub set_tells : (layout : Layout) (m : List ℕ) (words : Role → ℕ) (role : Role) (v : ℕ) → Tells layout m words → IsOf layout role → Tells layout (slice_set m (place_of layout role) v) (but words role v)
set_tells layout m words role v t is = record {
  room = let z = t.room in let l = length-set m (place_of layout role) v in omega (arith, z, l);
  at = λ other has. by other has (same_role other role) refl (eqb (place_of layout other) (place_of layout role)) refl;
}
  where
    long : place_of layout role < length m
    long = let z = t.room in let y = place_lt layout role is in omega (arith, z, y)

    by : (other : Role) → IsOf layout other → (b : Bool) → same_role other role ≡ b → (c : Bool) → eqb (place_of layout other) (place_of layout role) ≡ c
        → slice_index (slice_set m (place_of layout role) v) (place_of layout other) ≡ cond b v (words other)
    by other has true e true f = let same : place_of layout other ≡ place_of layout role = eqb-true (place_of layout other) (place_of layout role) f in
        ap (λ (p : ℕ). slice_index (slice_set m (place_of layout role) v) p) same ∙ word_same m (place_of layout role) v long
    by other has false e false f = word_other m (place_of layout role) v (place_of layout other) (eqb-false (place_of layout other) (place_of layout role) f) ∙ t.at other has
    by other has false e true f = absurd (let z : true ≡ false = sym (apart layout other role has is (eqb-true (place_of layout other) (place_of layout role) f)) ∙ e in cc)
    by other has true e false f = absurd (eqb-false (place_of layout other) (place_of layout role) f (same_place other role e))
      where
        same_place : (one other : Role) → same_role one other ≡ true → place_of layout one ≡ place_of layout other
        same_place (cell i) (cell j) h = let s : i ≡ j = eqb-true i j h in ap (λ (x : ℕ). place_of layout (cell x)) s
        same_place (owner i) (owner j) h = let s : i ≡ j = eqb-true i j h in ap (λ (x : ℕ). place_of layout (owner x)) s
        same_place over over h = refl
        same_place holder holder h = refl
        same_place main_life main_life h = refl
        same_place no_life no_life h = refl
        same_place (life i) (life j) h = let s : i ≡ j = eqb-true i j h in ap (λ (x : ℕ). place_of layout (life x)) s
        same_place no_wait no_wait h = refl
        same_place (wait i) (wait j) h = let s : i ≡ j = eqb-true i j h in ap (λ (x : ℕ). place_of layout (wait x)) s
        same_place one other h = absurd cc

-- what is not a word of the layout is as before
pub others_kept : (layout : Layout) (m : List ℕ) (role : Role) (v place : ℕ) → IsOf layout role → words_of layout ≤ place → slice_index (slice_set m (place_of layout role) v) place ≡ slice_index m place
others_kept layout m role v place is le = word_other m (place_of layout role) v place (λ e. let y = place_lt layout role is in let z : ⊥ = omega (arith, y, e, le) in z)
