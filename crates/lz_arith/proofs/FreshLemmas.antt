-- Words of fresh literals, and rooms for the circuits of all operators.
use Rattle.std.proofs.Common.{◌≡◌, ℕ, ◌+◌, ◌*◌, ◌≤◌, List, [], ◌∷◌, ◌++◌, ap, ◌∙◌, refl, arith}
use Rattle.std.proofs.lemmas.List.{length_push}
use Rattle.std.proofs.lemmas.List.Elements.{All-push}
use Rattle.lz_base.specs.declared.operator.Binary.{Binary}
use Rattle.lz_base.specs.declared.operator.Binary.TheVariants.{Mul, Div, Rem, Add, Sub, Shl, Shr, Lt, Gt, Le, Ge, Eq, Ne, BitAnd, BitXor, BitOr, Both, Either}
use Rattle.lz_base.specs.declared.operator.Unary.{Unary}
use Rattle.lz_base.specs.declared.operator.Unary.TheVariants.{Plus, Minus, Invert, Not}
use Rattle.lz_cnf.specs.declared.clause.Lit.{Lit}
use Rattle.lz_gates.specs.Circuits.{Circuit, IsLit}
use Rattle.lz_arith.specs.Bits.{AreBits}
use Rattle.lz_arith.specs.Sizes.{unary_variables, binary_variables}
use Rattle.lz_arith.proofs.AddLemmas.{are_lits_more}

-- so many fresh literals so far
pub record Freshens (start now : Circuit) (bits : List Lit) (i : ℕ) : Type 0 where
  pub bits_in : AreBits now i bits
  pub variables : now.variables ≡ start.variables + i

-- no literal is fresh where nothing was added
pub freshens_none : (start : Circuit) → Freshens start start [] 0
freshens_none start = record {
  bits_in = record { length = refl; lits = λ k d lt. absurd (omega arith) };
  variables = omega arith;
}

-- one more
pub freshens_more : {start now next : Circuit} {bits : List Lit} (lit : Lit) {i : ℕ} → Freshens start now bits i → lit.0 ≡ 2 * now.variables → next.variables ≡ now.variables + 1 → Freshens start next (bits ++ lit ∷ []) (i + 1)
freshens_more {start} {now} {next} {bits} lit {i} h e more = record {
  bits_in = record {
    length = length_push bits lit ∙ ap (λ (n : ℕ). n + 1) h.bits_in.length;
    lits = All-push (IsLit next) bits lit (are_lits_more now next bits (omega arith) h.bits_in.lits) (omega arith);
  };
  variables = more ∙ ap (λ (n : ℕ). n + 1) h.variables ∙ by start.variables i;
}
  where
    by : (n i : ℕ) → n + i + 1 ≡ n + (i + 1)
    by n i = omega arith

-- a word stays one of the circuit
pub bits_still : (old new : Circuit) (n : ℕ) (bits : List Lit) → AreBits old n bits → old.variables ≤ new.variables → AreBits new n bits
bits_still old new n bits h le = record { length = h.length; lits = are_lits_more old new bits le h.lits }

-- no binary operator adds more variables than a division
pub binary_variables_most : (op : Binary) → binary_variables op ≤ 4610
binary_variables_most Mul = omega arith
binary_variables_most Div = omega arith
binary_variables_most Rem = omega arith
binary_variables_most Add = omega arith
binary_variables_most Sub = omega arith
binary_variables_most Shl = omega arith
binary_variables_most Shr = omega arith
binary_variables_most Lt = omega arith
binary_variables_most Gt = omega arith
binary_variables_most Le = omega arith
binary_variables_most Ge = omega arith
binary_variables_most Eq = omega arith
binary_variables_most Ne = omega arith
binary_variables_most BitAnd = omega arith
binary_variables_most BitXor = omega arith
binary_variables_most BitOr = omega arith
binary_variables_most Both = omega arith
binary_variables_most Either = omega arith

-- and no unary one more than a change of sign
pub unary_variables_most : (op : Unary) → unary_variables op ≤ 96
unary_variables_most Plus = omega arith
unary_variables_most Minus = omega arith
unary_variables_most Invert = omega arith
unary_variables_most Not = omega arith
