-- The literals of an operand.
use Rattle.std.proofs.Common.{◌≡◌, ℕ, ◌+◌, ◌<◌, ◌≤◌, List, [], ◌∷◌, ◌++◌, length, ap, ◌∙◌, refl, arith}
use Rattle.std.proofs.lemmas.List.{length_push}
use Rattle.std.proofs.lemmas.List.Elements.{All-push}
use Rattle.lz_cnf.specs.declared.clause.Lit.{Lit}
use Rattle.lz_gates.specs.Circuits.{Circuit, IsLit}
use Rattle.lz_arith.specs.Bits.{AreBits}
use Rattle.lz_arith.proofs.FreshLemmas.{bits_still}

-- so many literals so far, by at most one variable each
pub record Brings (start now : Circuit) (bits : List Lit) (i : ℕ) : Type 0 where
  pub bits_in : AreBits now i bits
  pub more : start.variables ≤ now.variables
  pub most : now.variables ≤ start.variables + i

-- at the start
pub brings_none : (start : Circuit) → Brings start start [] 0
brings_none start = record {
  bits_in = record { length = refl; lits = λ k d lt. absurd (omega arith) };
  more = omega arith;
  most = omega arith;
}

-- one more
pub brings_more : {start now next : Circuit} {bits : List Lit} (lit : Lit) {i : ℕ} → Brings start now bits i → IsLit next lit → now.variables ≤ next.variables → next.variables ≤ now.variables + 1 → Brings start next (bits ++ lit ∷ []) (i + 1)
brings_more {now} {next} {bits} lit {i} h lit_in more most =
    let before = h.more in
    let least = h.most in
    record {
      bits_in = record {
        length = length_push bits lit ∙ ap (λ (n : ℕ). n + 1) h.bits_in.length;
        lits = All-push (IsLit next) bits lit (bits_still now next i bits h.bits_in more).lits lit_in;
      };
      more = omega arith;
      most = omega arith;
    }
