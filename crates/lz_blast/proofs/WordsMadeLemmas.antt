-- Words of constants and of fresh literals, made literal by literal.
use Rattle.std.proofs.Common.{◌≡◌, ℕ, zero, suc, ◌+◌, ◌*◌, ◌^◌, ◌/◌, ◌%◌, ◌<◌, ◌≤◌, Bool, eqb, List, [], ◌∷◌, ◌++◌, length, get_or, replicate, refl, sym, ◌∙◌, ap, arith}
use Rattle.std.proofs.lemmas.List.{length_push}
use Rattle.std.proofs.lemmas.List.Elements.{All-push}
use Rattle.lz_base.specs.Words.{value_bound}
use Rattle.lz_cnf.specs.declared.clause.Lit.{Lit}
use Rattle.lz_gates.specs.Circuits.{Circuit, Assignment, value, Satisfies, IsLit, Makes}
use Rattle.lz_gates.proofs.ExtendingLemmas.{makes_same}
use Rattle.lz_arith.specs.Bits.{bit, word, AreBits}
use Rattle.lz_arith.specs.Sizes.{word_width}
use Rattle.lz_arith.proofs.WordsLemmas.{word_push, pow_twice}
use Rattle.lz_blast.specs.Encoding.{fresh_word, input_at}
use Rattle.lz_blast.proofs.EncodingLemmas.{odd_bit}

-- so many low bits of a constant
pub record Knows (circuit : Circuit) (number : ℕ) (bits : List Lit) (rest i : ℕ) : Type 0 where
  pub bits_in : AreBits circuit i bits
  pub says : (a : Assignment) → Satisfies a circuit.clauses → word a bits + 2 ^ i * rest ≡ number
  pub small : rest ≤ number

-- before the first bit the whole number is left
pub knows_none : (circuit : Circuit) (number : ℕ) → Knows circuit number [] number 0
unfolding word
knows_none circuit number = record {
  bits_in = record { length = refl; lits = λ k d lt. absurd (omega arith) };
  says = λ a s. omega arith;
  small = omega arith;
}

-- a bit moves from the rest to the word
known_step : (w p b r half : ℕ) → b + 2 * half ≡ r → w + p * b + p * 2 * half ≡ w + p * r
known_step w p b r half e = let f : p * (b + 2 * half) ≡ p * r = ap (λ (m : ℕ). p * m) e in grind arith

-- one more bit is known
pub knows_more : {circuit : Circuit} {number : ℕ} {bits : List Lit} {rest i : ℕ} (lit : Lit) → Knows circuit number bits rest i → IsLit circuit lit
    → ((a : Assignment) → Satisfies a circuit.clauses → value a lit ≡ eqb (rest % 2) 1) → Knows circuit number (bits ++ lit ∷ []) (rest / 2) (i + 1)
knows_more {circuit} {bits} {rest} {i} lit h lit_in says = record {
  bits_in = record {
    length = length_push bits lit ∙ ap (λ (n : ℕ). n + 1) h.bits_in.length;
    lits = All-push (IsLit circuit) bits lit h.bits_in.lits lit_in;
  };
  says = λ a s.
      ap (λ (m : ℕ). m + 2 ^ (i + 1) * (rest / 2)) (word_push a bits lit ∙ ap (λ (n : ℕ). word a bits + 2 ^ n * bit (value a lit)) h.bits_in.length ∙ ap (λ (b : Bool). word a bits + 2 ^ i * bit b) (says a s))
      ∙ ap (λ (p : ℕ). word a bits + 2 ^ i * bit (eqb (rest % 2) 1) + p * (rest / 2)) (pow_twice i)
      ∙ known_step (word a bits) (2 ^ i) (bit (eqb (rest % 2) 1)) rest (rest / 2) (odd_bit rest) ∙ h.says a s;
  small = let p = h.small in omega arith;
}

-- a number in the range of words leaves nothing after the bits of a word
none_left : (w r n : ℕ) → w + value_bound * r ≡ n → n < value_bound → w ≡ n
none_left w r n e lt = omega arith

-- after these bits the word is the number
pub knows_all : {circuit : Circuit} {number : ℕ} {bits : List Lit} {rest i : ℕ} → Knows circuit number bits rest i → i ≡ word_width → number < value_bound → Makes circuit circuit 0 0 (λ a. word a bits ≡ number)
knows_all {circuit} {number} {bits} {rest} h e lt = makes_same circuit (λ a. word a bits ≡ number) (λ a s. none_left (word a bits) rest number (ap (λ (k : ℕ). word a bits + 2 ^ k * rest) (sym e) ∙ h.says a s) lt)

-- so many fresh literals
pub record Freshens (start now : Circuit) (bits : List Lit) (i : ℕ) : Type 0 where
  pub bits_are : bits ≡ fresh_word start.variables i
  pub variables : now.variables ≡ start.variables + i
  pub clauses : now.clauses ≡ start.clauses

-- one more fresh literal
fresh_push : (n k : ℕ) → fresh_word n k ++ record { 0 = 2 * (n + k) } ∷ [] ≡ fresh_word n (suc k)
fresh_push n zero = ap (λ (m : ℕ). record { 0 = 2 * m } ∷ []) (let e : n + 0 ≡ n = omega arith in e)
fresh_push n (suc k) =
    ap (λ (m : ℕ). record { 0 = 2 * n } ∷ (fresh_word (n + 1) k ++ record { 0 = 2 * m } ∷ [])) (let e : n + suc k ≡ n + 1 + k = omega arith in e)
    ∙ ap (λ (xs : List Lit). record { 0 = 2 * n } ∷ xs) (fresh_push (n + 1) k)

-- no fresh literal so far
pub freshens_none : (start : Circuit) → Freshens start start [] 0
freshens_none start = record { bits_are = refl; variables = omega arith; clauses = refl }

-- one more
pub freshens_more : {start now next : Circuit} {bits : List Lit} (lit : Lit) {i : ℕ} → Freshens start now bits i → lit.0 ≡ 2 * now.variables → next.variables ≡ now.variables + 1 → next.clauses ≡ now.clauses
    → Freshens start next (bits ++ lit ∷ []) (i + 1)
freshens_more {start} lit {i} h e more same = record {
  bits_are = ap (λ (xs : List Lit). xs ++ lit ∷ []) h.bits_are
      ∙ ap (λ (m : ℕ). fresh_word start.variables i ++ record { 0 = m } ∷ []) (e ∙ ap (λ (m : ℕ). 2 * m) h.variables)
      ∙ fresh_push start.variables i ∙ ap (fresh_word start.variables) (let f : suc i ≡ i + 1 = omega arith in f);
  variables = omega (arith, h.variables);
  clauses = same ∙ h.clauses;
}

-- inputs without literals
pub replicate_push : (n : ℕ) → replicate n (let none : List Lit = [] in none) ++ [] ∷ [] ≡ replicate (n + 1) []
replicate_push zero = refl
replicate_push (suc n) = ap (λ (xs : List (List Lit)). [] ∷ xs) (replicate_push n) ∙ ap (λ (k : ℕ). replicate k (let none : List Lit = [] in none)) (let e : suc (n + 1) ≡ suc n + 1 = omega arith in e)

-- an input that no node has read has no literals
pub unread_at : (n i : ℕ) (inputs : List (List Lit)) → inputs ≡ replicate n [] → length (input_at inputs i) ≡ 0
unread_at n i inputs e = ap (λ (xs : List (List Lit)). length (input_at xs i)) e ∙ by n i
  where
    by : (n i : ℕ) → length (get_or (replicate n (let none : List Lit = [] in none)) i []) ≡ 0
    by zero i = refl
    by (suc n) zero = refl
    by (suc n) (suc i) = by n i
