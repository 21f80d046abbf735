-- Inner: how the local values of a function hang together with those of the tree that it was inlined in.
use Rattle.std.specs.Prelude.{◌≡◌, ◌≢◌, ℕ, ◌<◌, ◌≤◌, ◌+◌, ◌⊎◌, Option, Some, None, ⊤}
use Rattle.lz_base.specs.declared.word.IntType.{IntType}
use Rattle.lz_model.specs.CodeTraces.{Locals}

-- the frame lies from o on, after it the result, which is 0; from m on nothing was used
pub record Near (o l m : ℕ) (s t : Locals) : Type 0 where
  pub here : (i : ℕ) → i < l → t.frame (o + i) ≡ s.frame i
  pub result : t.frame (o + l) ≡ 0
  pub unused : (k : ℕ) → m ≤ k → t.frame k ≡ 0
  pub handles : t.handles ≡ s.handles
  pub room : o + l < m

-- after code with unused numbers from m on, what lies below m and not in the frame is as before
pub record Kept (o l m : ℕ) (t t' : Locals) : Type 0 where
  pub same : (k : ℕ) → k < m → (k < o) ⊎ (o + l < k) → t'.frame k ≡ t.frame k

-- an expression of this kind has a value
abbrev pub Valued : Option IntType → Type 0
Valued None = ⊥
Valued (Some kind) = ⊤

-- the value, where there is one, is in x, and all below m but x is as before
pub record Into (of : Option IntType) (o l x m m' : ℕ) (t : Locals) (v : ℕ) (s' t' : Locals) : Type 0 where
  pub near : Near o l m' s' t'
  pub same : (k : ℕ) → k < m → (k < o) ⊎ (o + l < k) → k ≢ x → t'.frame k ≡ t.frame k
  pub value : Valued of → t'.frame x ≡ v

-- after an inlined call: the value is in the result of the frame
pub record Inlined (o l m m' : ℕ) (t : Locals) (v : ℕ) (s' t' : Locals) : Type 0 where
  pub unused : (k : ℕ) → m' ≤ k → t'.frame k ≡ 0
  pub handles : t'.handles ≡ s'.handles
  pub kept : Kept o l m t t'
  pub value : t'.frame (o + l) ≡ v

-- some code has run
pub record Chain (o l m m' : ℕ) (t s' t' : Locals) : Type 0 where
  pub near : Near o l m' s' t'
  pub same : (k : ℕ) → k < m → (k < o) ⊎ (o + l < k) → t'.frame k ≡ t.frame k
  pub grows : m ≤ m'
