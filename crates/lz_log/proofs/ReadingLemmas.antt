-- A whole proof text: its lines one behind the other, and the first that says nothing.
use Rattle.std.proofs.Common.{◌≡◌, ℕ, suc, ◌+◌, ◌<◌, ◌≤◌, List, [], ◌∷◌, ◌++◌, length, refl, sym, ap, subst, ◌∙◌, append_assoc, arith}
use Rattle.std.specs.Prelude.{codes}
use Rattle.std.specs.Fmt.{decimal}
use Rattle.std.specs.List.{flat_map}
use Rattle.std.proofs.lemmas.List.{append-nil, length-append}
use Rattle.std.proofs.lemmas.List.Elements.{All-append, All-nil}
use Rattle.std.proofs.lemmas.Grind.{flat_map-append}
use Rattle.lz_cnf.specs.declared.clause.Lit.{Lit}
use Rattle.lz_log.specs.declared.log.LogStep.{LogStep}
use Rattle.lz_log.specs.ProofText.{clause_text, hints_text, clause_line, step_line}
use Rattle.lz_log.specs.ProofReading.{IsWithin, MayFollow, AreInOrder, IsProofText, HasClauses, HasSteps, header_of}
use Rattle.lz_log.specs.Pieces.{number_cap}
use Rattle.lz_log.specs.Lines.{TellsHeader}
use Rattle.lz_log.proofs.NumberLemmas.{number_decimal}

-- one line more behind others
lines_more : {X : Type 0} (line : X → List ℕ) (bytes left rest : List ℕ) (xs : List X) (x : X) → bytes ≡ flat_map line xs ++ left → left ≡ flat_map line (x ∷ []) ++ rest → bytes ≡ flat_map line (xs ++ x ∷ []) ++ rest
lines_more line bytes left rest xs x e h =
    e ∙ ap (λ (t : List ℕ). flat_map line xs ++ t) h ∙ sym (append_assoc (flat_map line xs) (flat_map line (x ∷ [])) rest)
    ∙ ap (λ (t : List ℕ). t ++ rest) (sym (flat_map-append line xs (x ∷ [])))

pub clauses_start : (bytes : List ℕ) (variables : ℕ) → HasClauses bytes variables [] bytes
clauses_start bytes variables = record { within = All-nil (IsWithin variables); text = refl }

pub clauses_more : (bytes left rest : List ℕ) (variables : ℕ) (clauses : List (List Lit)) (clause : List Lit) → HasClauses bytes variables clauses left → HasClauses left variables (clause ∷ []) rest → HasClauses bytes variables (clauses ++ clause ∷ []) rest
clauses_more bytes left rest variables clauses clause a b = record {
  within = All-append (IsWithin variables) clauses (clause ∷ []) a.within b.within;
  text = lines_more clause_line bytes left rest clauses clause a.text b.text;
}

-- a line takes a byte at least
pub clause_takes : (left rest : List ℕ) (variables : ℕ) (clause : List Lit) → HasClauses left variables (clause ∷ []) rest → suc (length rest) ≤ length left
clause_takes left rest variables clause h =
    let e : length left ≡ length (((clause_text clause ++ codes "\n") ++ []) ++ rest) = ap (λ (t : List ℕ). length t) h.text in
    omega (arith, length-append ((clause_text clause ++ codes "\n") ++ []) rest, length-append (clause_text clause ++ codes "\n") [], length-append (clause_text clause) (codes "\n"))

in_order_more : (variables known : ℕ) (log : List LogStep) (step : LogStep) → AreInOrder variables known log → MayFollow variables (known + length log) step → AreInOrder variables known (log ++ step ∷ [])
in_order_more variables known [] step h m = (subst (λ k. MayFollow variables k step) (omega arith) m, tt)
in_order_more variables known (first ∷ log) step h m = (h.0, in_order_more variables (suc known) log step h.1 (subst (λ k. MayFollow variables k step) (omega arith) m))

pub steps_start : (bytes : List ℕ) (variables known : ℕ) → HasSteps bytes variables known [] bytes
steps_start bytes variables known = record { in_order = tt; text = refl }

pub steps_more : (bytes left rest : List ℕ) (variables known : ℕ) (log : List LogStep) (step : LogStep) → HasSteps bytes variables known log left → HasSteps left variables (known + length log) (step ∷ []) rest → HasSteps bytes variables known (log ++ step ∷ []) rest
steps_more bytes left rest variables known log step a b = record {
  in_order = in_order_more variables known log step a.in_order b.in_order.0;
  text = lines_more step_line bytes left rest log step a.text b.text;
}

pub step_takes : (left rest : List ℕ) (variables known : ℕ) (step : LogStep) → HasSteps left variables known (step ∷ []) rest → suc (length rest) ≤ length left
step_takes left rest variables known step h =
    let front = codes "l " ++ clause_text step.clause ++ codes " " ++ hints_text step.hints in
    let e : length left ≡ length (((front ++ codes "\n") ++ []) ++ rest) = ap (λ (t : List ℕ). length t) h.text in
    omega (arith, length-append ((front ++ codes "\n") ++ []) rest, length-append (front ++ codes "\n") [], length-append front (codes "\n"))

-- the first line takes some bytes
pub header_takes : (bytes : List ℕ) (variables told : ℕ) (rest : List ℕ) → TellsHeader bytes variables told rest → length rest + 6 ≤ length bytes
header_takes bytes variables told rest h =
    let digits = h.header.digits in
    let front = codes "p cnf " ++ decimal variables ++ codes " " ++ digits in
    let e : length bytes ≡ length ((front ++ codes "\n") ++ rest) = ap (λ (t : List ℕ). length t) h.header.text in
    omega (arith, length-append (front ++ codes "\n") rest, length-append front (codes "\n"), length-append (codes "p cnf " ++ decimal variables ++ codes " ") digits, length-append (codes "p cnf " ++ decimal variables) (codes " "), length-append (codes "p cnf ") (decimal variables))

-- all lines together are the text
pub whole_text : (bytes behind middle : List ℕ) (variables told : ℕ) (clauses : List (List Lit)) (log : List LogStep) → TellsHeader bytes variables told behind → HasClauses behind variables clauses middle → length clauses ≡ told → told < number_cap
    → HasSteps middle variables (length clauses) log [] → IsProofText bytes record { variables = variables; clauses = clauses } log
whole_text bytes behind middle variables told clauses log h a len small b =
    let count : length clauses ≡ h.count = len ∙ h.capped.same small in
    let digits : h.header.digits ≡ decimal (length clauses) = number_decimal h.header.digits h.count (omega arith) h.header.number ∙ ap decimal (sym count) in
    let head = header_of variables (decimal (length clauses)) in
    let lines = flat_map clause_line clauses in
    let steps = flat_map step_line log in
    let first : bytes ≡ head ++ behind = h.header.text ∙ ap (λ (d : List ℕ). header_of variables d ++ behind) digits in
    let rest : behind ≡ lines ++ steps = a.text ∙ ap (λ (t : List ℕ). lines ++ t) (b.text ∙ append-nil steps) in
    record {
      told = record { limit = h.header.limit; within = a.within; in_order = b.in_order };
      text = first ∙ ap (λ (t : List ℕ). head ++ t) rest ∙ sym (append_assoc head lines steps);
    }
