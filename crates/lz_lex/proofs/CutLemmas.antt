-- The cut goes on behind the piece that the scan finds, and stops where none can stand.
use Rattle.std.proofs.Common.{◌≡◌, ℕ, zero, suc, ◌+◌, ◌-◌, ◌<◌, ◌≤◌, true, false, List, [], ◌∷◌, length, take, drop, Option, Some, None, refl, sym, ap, subst, ◌∙◌, arith, length-drop, length-take}
use Rattle.std.proofs.lemmas.Bool.{cond-true, cond-false}
use Rattle.lz_tree.specs.Tokens.{Cutting, Front, first_piece, may_stand, behind_piece, whole, stopped, cut_behind, go_on, cut, opening}
use Rattle.lz_lex.specs.Scanning.{scan}
use Rattle.lz_lex.specs.Steps.{IsWithin}
use Rattle.lz_lex.proofs.NamesLemmas.{within-behind}
use Rattle.lz_lex.proofs.LongestLemmas.{allowed, first-size}
use Rattle.lz_lex.proofs.FirstLemmas.{scan-first}

skipped : (n : ℕ) (at : Cutting) (xs : List ℕ) → cut_behind n at xs ≡ cut_behind 0 at (drop n xs)
skipped zero at xs = refl
skipped (suc n) at [] = refl
skipped (suc n) at (x ∷ xs) = skipped n at xs

-- A piece was found, and may stand.
pub record IsNext (at : Cutting) (bytes : List ℕ) (f : Front) : Type 0 where
  pub some : 0 < f.size
  pub within : f.size ≤ length bytes
  pub on : cut_behind 0 at bytes ≡ cut_behind 0 (behind_piece at f.piece (take f.size bytes)) (drop f.size bytes)

dropped : (n b : ℕ) (rest : List ℕ) → 0 < n → drop (n - 1) rest ≡ drop n (b ∷ rest)
dropped zero b rest lt = absurd (omega arith)
dropped (suc n) b rest lt = let same : suc n - 1 ≡ n = omega arith in ap (λ (m : ℕ). drop m rest) same

-- the cut goes on behind it
pub next : (at : Cutting) (bytes : List ℕ) (f : Front) → scan bytes ≡ Some f → may_stand at f.piece ≡ true → IsNext at bytes f
unfolding scan
next at [] f e ok = absurd cc
next at (b ∷ rest) f e ok =
    let first : first_piece at (b ∷ rest) ≡ Some f = scan-first at b rest ∙ ap (allowed at) e ∙ cond-true (may_stand at f.piece) (Some f) None ok in
    let sizes = first-size at (b ∷ rest) f first in
    record {
      some = sizes.0;
      within = sizes.1;
      on =
          ap (λ (o : Option Front). go_on at o (λ f. cut_behind (f.size - 1) (behind_piece at f.piece (take f.size (b ∷ rest))) rest)) first
          ∙ skipped (f.size - 1) (behind_piece at f.piece (take f.size (b ∷ rest))) rest
          ∙ ap (cut_behind 0 (behind_piece at f.piece (take f.size (b ∷ rest)))) (dropped f.size b rest sizes.0);
    }

-- nothing is found
pub stop-none : (at : Cutting) (bytes : List ℕ) → 0 < length bytes → scan bytes ≡ None → cut_behind 0 at bytes ≡ stopped at.place at.line
stop-none at [] some e = absurd (omega arith)
stop-none at (b ∷ rest) some e =
    let first : first_piece at (b ∷ rest) ≡ None = scan-first at b rest ∙ ap (allowed at) e in
    ap (λ (o : Option Front). go_on at o (λ f. cut_behind (f.size - 1) (behind_piece at f.piece (take f.size (b ∷ rest))) rest)) first

-- what is found may not stand
pub stop-blocked : (at : Cutting) (bytes : List ℕ) (f : Front) → scan bytes ≡ Some f → may_stand at f.piece ≡ false → cut_behind 0 at bytes ≡ stopped at.place at.line
unfolding scan
stop-blocked at [] f e blocked = absurd cc
stop-blocked at (b ∷ rest) f e blocked =
    let first : first_piece at (b ∷ rest) ≡ None = scan-first at b rest ∙ ap (allowed at) e ∙ cond-false (may_stand at f.piece) (Some f) None blocked in
    ap (λ (o : Option Front). go_on at o (λ f. cut_behind (f.size - 1) (behind_piece at f.piece (take f.size (b ∷ rest))) rest)) first

-- Where the loop stands: what is left is cut as the whole is, and the counts fit.
pub record IsAt (bytes rest : List ℕ) (at : Cutting) : Type 0 where
  pub on : cut_behind 0 at rest ≡ cut bytes
  pub within : IsWithin at
  pub place : at.place + length rest ≡ length bytes

pub at_start : (bytes : List ℕ) (at : Cutting) → at ≡ opening → IsAt bytes bytes at
unfolding cut
at_start bytes at e =
    subst (λ (x : Cutting). IsAt bytes bytes x) (sym e)
    (record { on = refl; within = record { line = omega arith; names = omega arith }; place = omega arith })

pub at_next : (bytes rest : List ℕ) (at at' : Cutting) (f : Front) → IsAt bytes rest at → IsNext at rest f → at' ≡ behind_piece at f.piece (take f.size rest) → IsAt bytes (drop f.size rest) at'
unfolding behind_piece
at_next bytes rest at at' f here n e =
    let taken : length (take f.size rest) ≡ f.size = omega (arith, length-take f.size rest, n.within) in
    let some : 0 < length (take f.size rest) = omega (arith, n.some) in
    subst (λ (x : Cutting). IsAt bytes (drop f.size rest) x) (sym e)
    (record {
      on = sym n.on ∙ here.on;
      within = within-behind at f.piece (take f.size rest) some here.within;
      place = omega (arith, here.place, n.within, length-drop f.size rest);
    })

-- the loop is at the end
pub at_end : (bytes rest : List ℕ) (at : Cutting) → IsAt bytes rest at → length rest ≡ 0 → cut bytes ≡ whole at
at_end bytes [] at here none = sym here.on
at_end bytes (x ∷ rest) at here none = absurd (omega arith)
