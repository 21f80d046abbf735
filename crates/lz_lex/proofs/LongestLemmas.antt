-- The longest piece at the front from what can stand there at each size.
use Rattle.std.proofs.Common.{◌≡◌, ℕ, zero, suc, ◌<◌, ◌≤◌, Bool, true, false, cond, List, length, take, drop, Option, Some, None, refl, sym, ap, ◌∙◌, arith, inl, inr}
use Rattle.std.specs.Prelude.{◌&&◌, option_map}
use Rattle.std.specs.Option.{option_or}
use Rattle.std.proofs.lemmas.Bool.{cases_eq}
use Rattle.lz_tree.specs.Pieces.{Piece, piece_of}
use Rattle.lz_tree.specs.Tokens.{Cutting, Front, front, front_of, longest, first_piece, standing, may_stand, may_follow}
use Rattle.lz_lex.proofs.PrefixLemmas.{option_or-none}

pub longest-below : (at : Cutting) (bytes : List ℕ) (n size : ℕ) → n ≤ size → ((j : ℕ) → n ≤ j → j < size → front_of at bytes (suc j) ≡ None) → longest at bytes size ≡ longest at bytes n
longest-below at bytes n zero le none = let same : 0 ≡ n = omega arith in ap (longest at bytes) same
longest-below at bytes n (suc size) le none =
    elim (cases_eq n (suc size)) [
      | inl same ↦ ap (longest at bytes) (sym same)
      | inr other ↦
          let here : front_of at bytes (suc size) ≡ None = none size (omega arith) (omega arith) in
          ap (λ o. option_or o (longest at bytes size)) here ∙ longest-below at bytes n size (omega arith) (λ j low high. none j low (omega arith))
    ]

-- the longest is of this size, where nothing longer can stand
pub first-top : (at : Cutting) (bytes : List ℕ) (k : ℕ) (f : Front) → k < length bytes → front_of at bytes (suc k) ≡ Some f
    → ((j : ℕ) → k < j → j < length bytes → front_of at bytes (suc j) ≡ None) → first_piece at bytes ≡ Some f
unfolding first_piece
first-top at bytes k f lt here none =
    longest-below at bytes (suc k) (length bytes) (omega arith) (λ j low high. none j (omega arith) high)
    ∙ ap (λ o. option_or o (longest at bytes k)) here

-- nothing can stand
pub first-none : (at : Cutting) (bytes : List ℕ) → ((j : ℕ) → j < length bytes → front_of at bytes (suc j) ≡ None) → first_piece at bytes ≡ None
unfolding first_piece
first-none at bytes none = longest-below at bytes 0 (length bytes) (omega arith) (λ j low high. none j high)

-- one size alone can stand
pub first-only : (at : Cutting) (bytes : List ℕ) (k : ℕ) → k < length bytes → ((j : ℕ) → j < length bytes → (j ≡ k → ⊥) → front_of at bytes (suc j) ≡ None)
    → first_piece at bytes ≡ front_of at bytes (suc k)
unfolding first_piece
first-only at bytes k lt none =
    let below : longest at bytes k ≡ None = longest-below at bytes 0 k (omega arith) (λ j low high. none j (omega arith) (λ same. omega arith)) in
    longest-below at bytes (suc k) (length bytes) (omega arith) (λ j low high. none j high (λ same. omega arith))
    ∙ ap (λ o. option_or (front_of at bytes (suc k)) o) below ∙ option_or-none (front_of at bytes (suc k))

-- what may stand, wherever directives can and whatever is defined
abbrev pub allowed : Cutting → Option Front → Option Front
allowed at None = None
allowed at (Some f) = cond (may_stand at f.piece) (Some f) None

-- no piece of this size
pub no_piece : (at : Cutting) (bytes : List ℕ) (size : ℕ) → piece_of (take size bytes) ≡ None → front_of at bytes size ≡ None
unfolding front_of
no_piece at bytes size e = ap (λ o. option_map (front size) (standing at o (drop size bytes))) e

standing-cases : (at : Cutting) (o : Option Piece) (rest : List ℕ) (size : ℕ) → ((p : Piece) → o ≡ Some p → may_follow p rest ≡ false) → option_map (front size) (standing at o rest) ≡ None
standing-cases at None rest size never = refl
standing-cases at (Some p) rest size never =
    let fail : may_follow p rest ≡ false = never p refl in
    by (may_stand at p) (may_follow p rest) fail
  where
    by : (a b : Bool) → b ≡ false → option_map (front size) (cond (a && b) (Some p) None) ≡ None
    by true b e = rw e refl
    by false b e = refl

-- no piece of this size that what follows allows
pub no_follow : (at : Cutting) (bytes : List ℕ) (size : ℕ) → ((p : Piece) → piece_of (take size bytes) ≡ Some p → may_follow p (drop size bytes) ≡ false) → front_of at bytes size ≡ None
unfolding front_of
no_follow at bytes size never = standing-cases at (piece_of (take size bytes)) (drop size bytes) size never

standing-allowed : (at : Cutting) (o : Option Piece) (rest : List ℕ) (size : ℕ) → ((p : Piece) → o ≡ Some p → may_follow p rest ≡ true)
    → option_map (front size) (standing at o rest) ≡ allowed at (option_map (front size) o)
standing-allowed at None rest size ok = refl
standing-allowed at (Some p) rest size ok = by (may_stand at p) (may_follow p rest) (ok p refl)
  where
    by : (a b : Bool) → b ≡ true → option_map (front size) (cond (a && b) (Some p) None) ≡ cond a (Some (front size p)) None
    by true b e = rw e refl
    by false b e = refl

-- a piece of this size that what follows allows
pub follows : (at : Cutting) (bytes : List ℕ) (size : ℕ) (o : Option Piece) → piece_of (take size bytes) ≡ o → ((p : Piece) → o ≡ Some p → may_follow p (drop size bytes) ≡ true)
    → front_of at bytes size ≡ allowed at (option_map (front size) o)
unfolding front_of
follows at bytes size o is ok =
    ap (λ o. option_map (front size) (standing at o (drop size bytes))) is ∙ standing-allowed at o (drop size bytes) size ok

front-size : (at : Cutting) (bytes : List ℕ) (size : ℕ) (f : Front) → front_of at bytes size ≡ Some f → f.size ≡ size
unfolding front_of
front-size at bytes size f e = by (standing at (piece_of (take size bytes)) (drop size bytes)) e
  where
    by : (o : Option Piece) → option_map (front size) o ≡ Some f → f.size ≡ size
    by None e = absurd cc
    by (Some p) e = let same : front size p ≡ f = cc in ap (λ (g : Front). g.size) (sym same)

or_size : (at : Cutting) (bytes : List ℕ) (size : ℕ) (f : Front) (o rest : Option Front) → front_of at bytes (suc size) ≡ o → (rest ≡ Some f → (0 < f.size) × (f.size ≤ size))
    → option_or o rest ≡ Some f → (0 < f.size) × (f.size ≤ suc size)
or_size at bytes size f None rest is shorter e = let s = shorter e in (s.0, omega (arith, s.1))
or_size at bytes size f (Some g) rest is shorter e =
    let same : g ≡ f = cc in
    let here : f.size ≡ suc size = front-size at bytes (suc size) f (is ∙ ap (λ g. Some g) same) in
    (omega arith, omega arith)

longest-size : (at : Cutting) (bytes : List ℕ) (size : ℕ) (f : Front) → longest at bytes size ≡ Some f → (0 < f.size) × (f.size ≤ size)
longest-size at bytes zero f e = absurd cc
longest-size at bytes (suc size) f e =
    or_size at bytes size f (front_of at bytes (suc size)) (longest at bytes size) refl (λ shorter. longest-size at bytes size f shorter) e

-- the longest piece has bytes, and no more than there are
pub first-size : (at : Cutting) (bytes : List ℕ) (f : Front) → first_piece at bytes ≡ Some f → (0 < f.size) × (f.size ≤ length bytes)
unfolding first_piece
first-size at bytes f e = longest-size at bytes (length bytes) f e
