-- Inner: lists of watchers, linked from one to the next, and how one is moved to another list.
use Rattle.std.specs.Prelude.{◌≡◌, ◌⊎◌, ℕ, zero, suc, ◌+◌, ◌-◌, ◌%◌, ◌<◌, ◌==◌, List, [], ◌∷◌, length, slice_index, slice_index_or, slice_set, if◌then◌else◌, ⊤}
use Rattle.std.specs.List.{Contains}
use Rattle.lz_cnf.specs.declared.clause.Lit.{Lit}

-- the other watcher of the same clause: those of the clause k, counted from 0, are 2 k and 2 k + 1
abbrev pub twin : ℕ → ℕ
twin w = if w % 2 == 1 then w - 1 else w + 1

-- the list that begins at a watcher, counted from 1, or is empty at 0
abbrev pub IsChain : List ℕ → ℕ → List ℕ → Type 0
IsChain next start [] = start ≡ 0
IsChain next start (w ∷ ws) = (start ≡ suc w) × (w < length next) × IsChain next (slice_index next w) ws

-- The watchers of a literal are those of its list.
pub record IsListed (guards : List Lit) (next : List ℕ) (start : ℕ) (lit : Lit) : Type 0 where
  pub list : List ℕ
  pub chain : IsChain next start list
  pub members : (w : ℕ) → Contains list w → (w < length guards) × (slice_index_or guards w lit ≡ lit)
  pub whole : (w : ℕ) → w < length guards → slice_index_or guards w lit ≡ lit → Contains list w

-- each literal has its list
pub record AreListed (guards : List Lit) (next firsts : List ℕ) : Type 0 where
  pub next_long : length next ≡ length guards
  pub lists : (lit : Lit) → lit.0 < length firsts → IsListed guards next (slice_index firsts lit.0) lit

-- ---- a walk along a list

-- the front of a list, its last watcher first, up to the watcher `end`, counted from 1
abbrev pub IsRun : List ℕ → ℕ → List ℕ → ℕ → Type 0
IsRun next start [] end = start ≡ end
IsRun next start (p ∷ ps) end = (slice_index next p ≡ end) × (p < length next) × IsRun next start ps (suc p)

-- the last watcher of a front, counted from 1, or 0
abbrev pub last_of : List ℕ → ℕ
last_of [] = 0
last_of (p ∷ ps) = suc p

-- no watcher stands twice
abbrev pub AreApart : List ℕ → Type 0
AreApart [] = ⊤
AreApart (w ∷ ws) = (Contains ws w → ⊥) × AreApart ws

-- The walk came past some watchers of the literal and stands at `at`, where the rest begins.
pub record IsAlong (guards : List Lit) (next : List ℕ) (start : ℕ) (lit : Lit) (before at : ℕ) (past rest : List ℕ) : Type 0 where
  pub run : IsRun next start past at
  pub chain : IsChain next at rest
  pub before_is : before ≡ last_of past
  pub past_members : (w : ℕ) → Contains past w → (w < length guards) × (slice_index_or guards w lit ≡ lit)
  pub rest_members : (w : ℕ) → Contains rest w → (w < length guards) × (slice_index_or guards w lit ≡ lit)
  pub whole : (w : ℕ) → w < length guards → slice_index_or guards w lit ≡ lit → Contains past w ⊎ Contains rest w
  pub past_apart : AreApart past
  pub rest_apart : AreApart rest
  pub apart : (w : ℕ) → Contains past w → Contains rest w → ⊥

-- ---- a watcher is moved

-- the links without a watcher: what stands before it is linked to what stands behind it
abbrev pub next_without : List ℕ → ℕ → ℕ → List ℕ
next_without next zero behind = next
next_without next (suc before) behind = slice_set next before behind

abbrev pub firsts_without : List ℕ → ℕ → ℕ → ℕ → List ℕ
firsts_without firsts lit zero behind = slice_set firsts lit behind
firsts_without firsts lit (suc before) behind = firsts

-- what the code made of the links when it moved the watcher `at`, counted from 1, to another literal
pub record IsShifted (guards guards2 : List Lit) (next next2 firsts firsts2 : List ℕ) (lit : Lit) (before at : ℕ) (to : Lit) : Type 0 where
  pub guards_are : guards2 ≡ slice_set guards (at - 1) to
  pub next_are : next2 ≡ slice_set (next_without next before (slice_index next (at - 1))) (at - 1) (slice_index (firsts_without firsts lit.0 before (slice_index next (at - 1))) to.0)
  pub firsts_are : firsts2 ≡ slice_set (firsts_without firsts lit.0 before (slice_index next (at - 1))) to.0 at
