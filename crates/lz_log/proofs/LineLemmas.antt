-- Literals, hints and lines at the front of bytes.
use Rattle.std.proofs.Common.{inl, inr, not, ◌≡◌, ℕ, ◌+◌, ◌<◌, ◌≤◌, Bool, true, false, cond, List, [], ◌∷◌, ◌++◌, length, get_or, drop, refl, sym, ap, ◌∙◌, append_assoc, arith, lit≤}
use Rattle.std.specs.Prelude.{codes}
use Rattle.std.specs.List.{All, flat_map}
use Rattle.std.specs.Char.{digit_value}
use Rattle.std.specs.Fmt.{decimal}
use Rattle.std.proofs.lemmas.Fmt.{first_decimal}
use Rattle.std.proofs.lemmas.List.{append_cancel_left, append-nil}
use Rattle.std.proofs.lemmas.List.Elements.{All-head}
use Rattle.lz_cnf.specs.declared.clause.Lit.{Lit}
use Rattle.lz_cnf.specs.Models.{variable_of, is_negated}
use Rattle.lz_cnf.proofs.LitLemmas.{same_variable, is_negated-negated}
use Rattle.lz_log.specs.declared.log.LogStep.{LogStep}
use Rattle.lz_log.specs.ProofText.{literal_text, clause_text, hints_text, clause_line, step_line}
use Rattle.lz_log.specs.ProofReading.{variable_limit, IsWithin, HasHeader, HasClauses, HasSteps, LacksHeader, LacksClause, LacksStep}
use Rattle.lz_log.specs.Pieces.{number_cap, HasNumber, TellsNumber, HasBounded}
use Rattle.lz_log.specs.Lines.{HasLiteral, HasLiterals, HasHints}
use Rattle.lz_log.proofs.NumberLemmas.{one_number, bounded_number, decimal_number, digit_byte, digit_of}
use Rattle.lz_log.proofs.ItemsLemmas.{IsItemText, items_stop, items_once}

space_stops : 10 ≤ digit_value 32
space_stops = lit≤ tt

-- two numbers with a space behind them
same_space : (n m : ℕ) (behind rest : List ℕ) → n < number_cap → m < number_cap → decimal n ++ 32 ∷ behind ≡ decimal m ++ 32 ∷ rest → (n ≡ m) × (behind ≡ rest)
same_space n m behind rest hn hm e =
    let a : HasNumber (decimal n ++ 32 ∷ behind) (decimal n) n (32 ∷ behind) = record { number_ = decimal_number n hn; stops = space_stops; text = refl } in
    let b : HasNumber (decimal n ++ 32 ∷ behind) (decimal m) m (32 ∷ rest) = record { number_ = decimal_number m hm; stops = space_stops; text = e } in
    let one = one_number (decimal n ++ 32 ∷ behind) (decimal n) (decimal m) n m (32 ∷ behind) (32 ∷ rest) a b in
    (one.2, ap (λ (t : List ℕ). drop 1 t) one.1)

first_append : (xs ys : List ℕ) → 0 < length xs → get_or (xs ++ ys) 0 0 ≡ get_or xs 0 0
first_append [] ys h = absurd (omega arith)
first_append (x ∷ xs) ys h = refl

-- a number begins with a digit
decimal_first : (n : ℕ) (behind : List ℕ) → n < number_cap → (48 ≤ get_or (decimal n ++ behind) 0 0) × (0 < n → get_or (decimal n ++ behind) 0 0 ≡ 48 → ⊥)
decimal_first n behind h =
    let number = decimal_number n h in
    let e = first_append (decimal n) behind number.numeral.0 in
    let d = digit_byte (get_or (decimal n) 0 0) (digit_of (decimal n) 0 number.numeral.1 number.numeral.0) in
    rw e (d.0, λ some zero_. no_zero n h some zero_)
  where
    no_zero : (n : ℕ) → n < number_cap → 0 < n → get_or (decimal n) 0 0 ≡ 48 → ⊥
    no_zero n h some e = let f = first_decimal n some (omega arith) in omega arith

-- ---- hints

abbrev pub hint_item : ℕ → List ℕ
hint_item hint = decimal hint ++ codes " "

abbrev pub IsHint : ℕ → ℕ → Type 0
IsHint known hint = (1 ≤ hint) × (hint ≤ known)

hint_parts : (hint : ℕ) (behind : List ℕ) → hint_item hint ++ behind ≡ decimal hint ++ 32 ∷ behind
hint_parts hint behind = append_assoc (decimal hint) (codes " ") behind

pub hint_is_item : (known : ℕ) → known < number_cap → IsItemText hint_item (IsHint known)
hint_is_item known small = record {
  not_zero = λ x behind rest h e. (decimal_first x (32 ∷ behind) (let le = h.1 in omega arith)).1 h.0 (ap (λ (t : List ℕ). get_or t 0 0) (sym (hint_parts x behind) ∙ e));
  same = λ x y behind rest hx hy e. same_space x y behind rest (let le = hx.1 in omega arith) (let le = hy.1 in omega arith) (sym (hint_parts x behind) ∙ e ∙ hint_parts y rest);
}

-- ---- literals

abbrev pub literal_item : Lit → List ℕ
literal_item lit = literal_text lit ++ codes " "

abbrev pub IsOf : ℕ → Lit → Type 0
IsOf variables lit = variable_of lit < variables

abbrev sign : Bool → List ℕ
sign negated_ = cond negated_ (codes "-") []

literal_parts : (lit : Lit) (behind : List ℕ) → literal_item lit ++ behind ≡ sign (is_negated lit) ++ (decimal (variable_of lit + 1) ++ 32 ∷ behind)
literal_parts lit behind =
    append_assoc (literal_text lit) (codes " ") behind ∙ append_assoc (sign (is_negated lit)) (decimal (variable_of lit + 1)) (32 ∷ behind)

signed_not_zero : (b : Bool) (n : ℕ) (behind rest : List ℕ) → 0 < n → n < number_cap → sign b ++ (decimal n ++ 32 ∷ behind) ≡ 48 ∷ rest → ⊥
signed_not_zero true n behind rest some h e = absurd (let f : 45 ≡ 48 = ap (λ (t : List ℕ). get_or t 0 0) e in omega arith)
signed_not_zero false n behind rest some h e = (decimal_first n (32 ∷ behind) h).1 some (ap (λ (t : List ℕ). get_or t 0 0) e)

not_signed : (n : ℕ) (behind rest : List ℕ) → n < number_cap → decimal n ++ 32 ∷ behind ≡ 45 ∷ rest → ⊥
not_signed n behind rest h e = let f : get_or (decimal n ++ 32 ∷ behind) 0 0 ≡ 45 = ap (λ (t : List ℕ). get_or t 0 0) e in let g = (decimal_first n (32 ∷ behind) h).0 in omega arith

signed_same : (b d : Bool) (n m : ℕ) (behind rest : List ℕ) → n < number_cap → m < number_cap → sign b ++ (decimal n ++ 32 ∷ behind) ≡ sign d ++ (decimal m ++ 32 ∷ rest) → (b ≡ d) × (n ≡ m) × (behind ≡ rest)
signed_same true true n m behind rest hn hm e = let s = same_space n m behind rest hn hm (ap (λ (t : List ℕ). drop 1 t) e) in (refl, s.0, s.1)
signed_same true false n m behind rest hn hm e = absurd (not_signed m rest (decimal n ++ 32 ∷ behind) hm (sym e))
signed_same false true n m behind rest hn hm e = absurd (not_signed n behind (decimal m ++ 32 ∷ rest) hn e)
signed_same false false n m behind rest hn hm e = let s = same_space n m behind rest hn hm e in (refl, s.0, s.1)

not_both : (a b : Bool) → a ≡ b → a ≡ not b → ⊥
not_both true true e f = absurd cc
not_both true false e f = absurd cc
not_both false true e f = absurd cc
not_both false false e f = absurd cc

-- a literal is its sign and its variable
same_literal : (a b : Lit) → is_negated a ≡ is_negated b → variable_of a ≡ variable_of b → a ≡ b
same_literal a b s v = elim (same_variable a b v) [
  | inl e ↦ e
  | inr e ↦ absurd (not_both (is_negated a) (is_negated b) s (ap (λ l. is_negated l) e ∙ is_negated-negated b))
]

pub literal_is_item : (variables : ℕ) → variables ≤ variable_limit → IsItemText literal_item (IsOf variables)
literal_is_item variables small = record {
  not_zero = λ x behind rest h e. signed_not_zero (is_negated x) (variable_of x + 1) behind rest (omega arith) (omega arith) (sym (literal_parts x behind) ∙ e);
  same = λ x y behind rest hx hy e.
      let s = signed_same (is_negated x) (is_negated y) (variable_of x + 1) (variable_of y + 1) behind rest (omega arith) (omega arith) (sym (literal_parts x behind) ∙ e ∙ literal_parts y rest) in
      (same_literal x y s.0 (let v = s.1 in omega arith), s.2);
}

signed_behind : (b : Bool) (n : ℕ) (behind rest : List ℕ) → n < number_cap → 45 ∷ behind ≡ sign b ++ (decimal n ++ 32 ∷ rest) → behind ≡ decimal n ++ 32 ∷ rest
signed_behind true n behind rest h e = ap (λ (t : List ℕ). drop 1 t) e
signed_behind false n behind rest h e = absurd (not_signed n rest behind h (sym e))

-- a minus sign, and no number of a variable behind it
pub no_negative : (bytes behind : List ℕ) (variables : ℕ) → variables ≤ variable_limit → bytes ≡ 45 ∷ behind → ((n : ℕ) (rest : List ℕ) → HasBounded behind 32 1 variables n rest → ⊥)
    → (lit : Lit) (rest : List ℕ) → HasLiteral bytes variables lit rest → ⊥
no_negative bytes behind variables small e none lit rest h =
    let v = h.variable in
    let f = signed_behind (is_negated lit) (variable_of lit + 1) behind rest (omega arith) (sym e ∙ h.text ∙ literal_parts lit rest) in
    none (variable_of lit + 1) rest record { low_ = omega arith; high_ = omega arith; text = f }

-- where neither a literal nor the 0 follows, no literals stand at the front
pub no_literals : (bytes : List ℕ) (variables : ℕ) (done : List Lit) (left : List ℕ) → variables ≤ variable_limit → bytes ≡ flat_map literal_item done ++ left → All (IsOf variables) done
    → ((r : List ℕ) → left ≡ 48 ∷ r → ⊥) → ((lit : Lit) (r : List ℕ) → HasLiteral left variables lit r → ⊥) → (clause : List Lit) (rest : List ℕ) → HasLiterals bytes variables clause rest → ⊥
no_literals bytes variables done left small front within no_zero none clause rest h =
    items_stop literal_item (IsOf variables) (literal_is_item variables small) bytes done left front within no_zero
    (λ lit r v e. none lit r record { variable = v; text = e }) clause rest h.within h.text

-- where neither a hint nor the 0 follows, no hints stand at the front
pub no_hints : (bytes : List ℕ) (known : ℕ) (done : List ℕ) (left : List ℕ) → known < number_cap → bytes ≡ flat_map hint_item done ++ left → All (IsHint known) done
    → ((r : List ℕ) → left ≡ 48 ∷ r → ⊥) → ((n : ℕ) (r : List ℕ) → HasBounded left 32 1 known n r → ⊥) → (hints : List ℕ) (rest : List ℕ) → HasHints bytes known hints rest → ⊥
no_hints bytes known done left small front within no_zero none hints rest h =
    items_stop hint_item (IsHint known) (hint_is_item known small) bytes done left front within no_zero
    (λ n r v e. none n r record { low_ = v.0; high_ = v.1; text = e ∙ hint_parts n r }) hints rest h.known_ h.text

-- the literals at the front are the only ones
pub literals_once : (bytes : List ℕ) (variables : ℕ) (a b : List Lit) (mid rest : List ℕ) → variables ≤ variable_limit → HasLiterals bytes variables a mid → HasLiterals bytes variables b rest → (a ≡ b) × (mid ≡ rest)
literals_once bytes variables a b mid rest small ha hb = items_once literal_item (IsOf variables) (literal_is_item variables small) a b mid rest ha.within hb.within (sym ha.text ∙ hb.text)

-- the hints at the front are the only ones
pub hints_once : (bytes : List ℕ) (known : ℕ) (a b : List ℕ) (mid rest : List ℕ) → known < number_cap → HasHints bytes known a mid → HasHints bytes known b rest → (a ≡ b) × (mid ≡ rest)
hints_once bytes known a b mid rest small ha hb = items_once hint_item (IsHint known) (hint_is_item known small) a b mid rest ha.known_ hb.known_ (sym ha.text ∙ hb.text)

-- ---- lines

-- the literals of a clause's line
pub clause_line_parts : (bytes : List ℕ) (variables : ℕ) (clause : List Lit) (rest : List ℕ) → HasClauses bytes variables (clause ∷ []) rest → HasLiterals bytes variables clause (10 ∷ rest)
clause_line_parts bytes variables clause rest h = record {
  within = All-head (IsWithin variables) clause [] h.within;
  text = h.text ∙ ap (λ (t : List ℕ). t ++ rest) (append-nil (clause_line clause)) ∙ append_assoc (clause_text clause) (codes "\n") rest;
}

-- no literals, no line of a clause
pub no_clause : (bytes : List ℕ) (variables : ℕ) → ((clause : List Lit) (rest : List ℕ) → HasLiterals bytes variables clause rest → ⊥) → LacksClause bytes variables
no_clause bytes variables none clause rest h = none clause (10 ∷ rest) (clause_line_parts bytes variables clause rest h)

-- literals with no newline behind them, no line of a clause
pub no_clause_end : (bytes : List ℕ) (variables : ℕ) (clause : List Lit) (mid : List ℕ) → variables ≤ variable_limit → HasLiterals bytes variables clause mid → ((r : List ℕ) → mid ≡ 10 ∷ r → ⊥) → LacksClause bytes variables
no_clause_end bytes variables clause mid small has none other rest h = none rest (literals_once bytes variables clause other mid (10 ∷ rest) small has (clause_line_parts bytes variables other rest h)).1

-- five pieces and what follows, from the right
pub five : (a b c d e rest : List ℕ) → (a ++ b ++ c ++ d ++ e) ++ rest ≡ a ++ (b ++ (c ++ (d ++ (e ++ rest))))
five a b c d e rest =
    append_assoc (a ++ b ++ c ++ d) e rest ∙ append_assoc (a ++ b ++ c) d (e ++ rest) ∙ append_assoc (a ++ b) c (d ++ (e ++ rest)) ∙ append_assoc a b (c ++ (d ++ (e ++ rest)))

-- what follows the literals of a step's line
step_behind : (bytes mid behind : List ℕ) (variables known : ℕ) (clause : List Lit) → variables ≤ variable_limit → bytes ≡ codes "l " ++ mid → HasLiterals mid variables clause behind
    → (step : LogStep) (rest : List ℕ) → HasSteps bytes variables known (step ∷ []) rest → behind ≡ 32 ∷ (hints_text step.hints ++ 10 ∷ rest)
step_behind bytes mid behind variables known clause small front has step rest h =
    let whole : bytes ≡ codes "l " ++ (clause_text step.clause ++ 32 ∷ (hints_text step.hints ++ 10 ∷ rest)) =
    h.text ∙ ap (λ (t : List ℕ). t ++ rest) (append-nil (step_line step)) ∙ five (codes "l ") (clause_text step.clause) (codes " ") (hints_text step.hints) (codes "\n") rest in
    let at : mid ≡ clause_text step.clause ++ 32 ∷ (hints_text step.hints ++ 10 ∷ rest) = append_cancel_left (codes "l ") _ _ (sym front ∙ whole) in
    (literals_once mid variables clause step.clause behind (32 ∷ (hints_text step.hints ++ 10 ∷ rest)) small has record { within = h.in_order.0.clause; text = at }).1

-- no space behind the literals, no line of a step
pub no_step_space : (bytes mid behind : List ℕ) (variables known : ℕ) (clause : List Lit) → variables ≤ variable_limit → bytes ≡ codes "l " ++ mid → HasLiterals mid variables clause behind
    → ((r : List ℕ) → behind ≡ 32 ∷ r → ⊥) → LacksStep bytes variables known
no_step_space bytes mid behind variables known clause small front has none step rest h =
    none (hints_text step.hints ++ 10 ∷ rest) (step_behind bytes mid behind variables known clause small front has step rest h)

step_hints : (bytes mid behind last : List ℕ) (variables known : ℕ) (clause : List Lit) → variables ≤ variable_limit → bytes ≡ codes "l " ++ mid → HasLiterals mid variables clause behind → behind ≡ 32 ∷ last
    → (step : LogStep) (rest : List ℕ) → HasSteps bytes variables known (step ∷ []) rest → HasHints last known step.hints (10 ∷ rest)
step_hints bytes mid behind last variables known clause small front has space step rest h =
    let e = step_behind bytes mid behind variables known clause small front has step rest h in
    record { known_ = h.in_order.0.hints; text = ap (λ (t : List ℕ). drop 1 t) (sym space ∙ e) }

-- no hints behind the literals, no line of a step
pub no_step_hints : (bytes mid behind last : List ℕ) (variables known : ℕ) (clause : List Lit) → variables ≤ variable_limit → bytes ≡ codes "l " ++ mid → HasLiterals mid variables clause behind → behind ≡ 32 ∷ last
    → ((hints : List ℕ) (rest : List ℕ) → HasHints last known hints rest → ⊥) → LacksStep bytes variables known
no_step_hints bytes mid behind last variables known clause small front has space none step rest h =
    none step.hints (10 ∷ rest) (step_hints bytes mid behind last variables known clause small front has space step rest h)

-- no newline behind the hints, no line of a step
pub no_step_end : (bytes mid behind last end_ : List ℕ) (variables known : ℕ) (clause : List Lit) (hints : List ℕ) → variables ≤ variable_limit → known < number_cap → bytes ≡ codes "l " ++ mid → HasLiterals mid variables clause behind → behind ≡ 32 ∷ last
    → HasHints last known hints end_ → ((r : List ℕ) → end_ ≡ 10 ∷ r → ⊥) → LacksStep bytes variables known
no_step_end bytes mid behind last end_ variables known clause hints small fits front has space told none step rest h =
    none rest (hints_once last known hints step.hints end_ (10 ∷ rest) fits told (step_hints bytes mid behind last variables known clause small front has space step rest h)).1

-- ---- the first line

-- the digits of the number of clauses, and what follows
header_digits : (bytes mid behind : List ℕ) (told : ℕ) → bytes ≡ codes "p cnf " ++ mid → HasBounded mid 32 0 variable_limit told behind
    → (variables count : ℕ) (rest : List ℕ) (h : HasHeader bytes variables count rest) → HasNumber behind h.digits count (10 ∷ rest)
header_digits bytes mid behind told front has variables count rest h =
    let whole : bytes ≡ codes "p cnf " ++ (decimal variables ++ 32 ∷ (h.digits ++ 10 ∷ rest)) =
    h.text ∙ five (codes "p cnf ") (decimal variables) (codes " ") h.digits (codes "\n") rest in
    let at : mid ≡ decimal variables ++ 32 ∷ (h.digits ++ 10 ∷ rest) = append_cancel_left (codes "p cnf ") _ _ (sym front ∙ whole) in
    let a = bounded_number mid 32 0 variable_limit told behind (lit≤ tt) space_stops has in
    let b = bounded_number mid 32 0 variable_limit variables (h.digits ++ 10 ∷ rest) (lit≤ tt) space_stops record { low_ = omega arith; high_ = h.limit; text = at } in
    record {
      number_ = h.number;
      stops = lit≤ tt;
      text = ap (λ (t : List ℕ). drop 1 t) (one_number mid (decimal told) (decimal variables) told variables (32 ∷ behind) (32 ∷ (h.digits ++ 10 ∷ rest)) a b).1;
    }

-- no number of clauses, no first line
pub no_header_count : (bytes mid behind : List ℕ) (told : ℕ) → bytes ≡ codes "p cnf " ++ mid → HasBounded mid 32 0 variable_limit told behind
    → ((digits : List ℕ) (number : ℕ) (rest : List ℕ) → HasNumber behind digits number rest → ⊥) → LacksHeader bytes
no_header_count bytes mid behind told front has none variables count rest h =
    none h.digits count (10 ∷ rest) (header_digits bytes mid behind told front has variables count rest h)

-- no newline behind the number of clauses, no first line
pub no_header_end : (bytes mid behind end_ : List ℕ) (told number : ℕ) → bytes ≡ codes "p cnf " ++ mid → HasBounded mid 32 0 variable_limit told behind → TellsNumber behind number end_
    → ((r : List ℕ) → end_ ≡ 10 ∷ r → ⊥) → LacksHeader bytes
no_header_end bytes mid behind end_ told number front has t none variables count rest h =
    none rest (one_number behind t.digits h.digits t.number count end_ (10 ∷ rest) t.has (header_digits bytes mid behind told front has variables count rest h)).1
