-- How a line of a schedule text is read says exactly what the line says.
use Rattle.std.proofs.Common.{◌≡◌, ◌≢◌, ℕ, zero, suc, ◌+◌, ◌^◌, ◌<◌, Bool, true, false, not, ◌&&◌, ◌||◌, eqb, ltb, cond, List, [], ◌∷◌, ◌++◌, length, get_or, take, drop, Option, Some, None, Result, Ok, Err, refl, sym, ◌∙◌, ap, subst, append_assoc, arith}
use Rattle.std.specs.Prelude.{codes}
use Rattle.std.specs.List.{prefix_len, list_all, starts_with}
use Rattle.std.specs.Char.{is_ascii_digit}
use Rattle.std.specs.Int.{IsInRange}
use Rattle.std.specs.Fmt.{decimal}
use Rattle.std.specs.Str.{bytes_eq, IsAscii}
use Rattle.std.specs.Result.{result_ok, OkIff}
use Rattle.std.specs.Str.Parse.{AllDigits, digits_value, ParsesUnsigned}
use Rattle.std.proofs.Math.Seq.{take-append_seam}
use Rattle.std.proofs.lemmas.Bool.{and_parts, or_right}
use Rattle.std.proofs.lemmas.Bool.Decides.{nat_tests, Decides-eqb}
use Rattle.std.proofs.lemmas.Slice.Eq.{starts_is, bytes_eq-Decides}
use Rattle.std.proofs.lemmas.Str.Parse.{tells_digits, parse_digits}
use Rattle.std.proofs.lemmas.Fmt.{IsAscii-from_digits, digits_decimal, digits_value-decimal, decimal-digits_value, decimal_nonempty, decimal_digit, first_decimal}
use Rattle.lz_model.specs.declared.schedule.Step.{Step}
use Rattle.lz_model.specs.ScheduleText.{step_text, IsStep, IsStepLine, IsPassedOver, empty, failed, check, rounds}
use Rattle.lz_replay.specs.Lines.{is_other, is_numeral, some_where, number_at, behind, step_of, step_split, numbers_at, step_behind, step_at, is_passed_over}
use Rattle.lz_base.proofs.BoolLemmas.{first_suffices}
use Rattle.lz_base.proofs.NumeralLemmas.{all_digits, decimal_numerals}

-- ---- numbers

some_where_is : {A : Type 0} (b : Bool) (v w : A) → some_where b v ≡ Some w → (b ≡ true) × (v ≡ w)
some_where_is true v w e = (refl, cc)
some_where_is false v w e = absurd cc

is_digit_in : (c : ℕ) → IsInRange 48 57 c → is_ascii_digit c ≡ true
is_digit_in c h = grind (arith, nat_tests)

are_digits : (ds : List ℕ) → AllDigits 10 ds → list_all is_ascii_digit ds ≡ true
are_digits [] h = refl
are_digits (d ∷ ds) h =
    let p = tells_digits.parts d ds h in
    rw (is_digit_in d p.0, are_digits ds p.1) refl

pub numeral_parts : (bs : List ℕ) → is_numeral bs ≡ true → AllDigits 10 bs × (0 < length bs) × (get_or bs 0 0 ≡ 48 → length bs ≡ 1)
numeral_parts [] h = absurd cc
numeral_parts (f ∷ r) h =
    let p = and_parts (list_all is_ascii_digit (f ∷ r)) (not (eqb f 48) || eqb (length (f ∷ r)) 1) h in
    (all_digits (f ∷ r) p.0, omega arith, leads f (length (f ∷ r)) p.1)
  where
    leads : (f n : ℕ) → (not (eqb f 48) || eqb n 1) ≡ true → f ≡ 48 → n ≡ 1
    leads f n h e = grind (arith, nat_tests)

numeral_made : (bs : List ℕ) → AllDigits 10 bs → 0 < length bs → (get_or bs 0 0 ≡ 48 → length bs ≡ 1) → is_numeral bs ≡ true
numeral_made [] h lt leads = absurd (omega arith)
numeral_made (f ∷ r) h lt leads = rw (are_digits (f ∷ r) h, made f (length (f ∷ r)) leads) refl
  where
    made : (f n : ℕ) → (f ≡ 48 → n ≡ 1) → (not (eqb f 48) || eqb n 1) ≡ true
    made f n h = decide (eqb f 48) refl
      where
        decide : (b : Bool) → eqb f 48 ≡ b → (not b || eqb n 1) ≡ true
        decide false e = refl
        decide true e = let one = h (grind (arith, nat_tests)) in grind (arith, nat_tests)

-- a numeral is text
pub numeral_ascii : (bs : List ℕ) → is_numeral bs ≡ true → IsAscii bs
numeral_ascii bs h = IsAscii-from_digits bs (numeral_parts bs h).0

-- what `parse` answers of a numeral is its number
pub parsed_number : {E : Type 0} (bs : List ℕ) (r : Result ℕ E) → is_numeral bs ≡ true → ParsesUnsigned 64 10 bs r → result_ok r ≡ number_at bs
parsed_number bs r h parsed =
    let parts = numeral_parts bs h in
    by r (parse_digits decimal_numerals 64 bs r parsed parts.0)
  where
    below : (v : ℕ) → v < 2 ^ 64 → ltb v (2 ^ 64) ≡ true
    below v k = grind (arith, nat_tests)

    above : (v : ℕ) → (v < 2 ^ 64 → ⊥) → ltb v (2 ^ 64) ≡ false
    above v k = grind (arith, nat_tests)

    by : {E : Type 0} (r : Result ℕ E) → OkIff r ((0 < length bs) × (digits_value 10 bs < 2 ^ 64)) (digits_value 10 bs) → result_ok r ≡ number_at bs
    by (Ok x) is = rw (h, below (digits_value 10 bs) is.0.1) (ap Some is.1)
    by (Err e) is = rw (h, above (digits_value 10 bs) (λ lt. is ((numeral_parts bs h).1, lt))) refl

-- what is no numeral has no number
pub no_number : (bs : List ℕ) → is_numeral bs ≡ false → number_at bs ≡ None
no_number bs h = rw h refl

-- digits that are read spell their number
pub number_spelled : (bs : List ℕ) (n : ℕ) → number_at bs ≡ Some n → (n < 2 ^ 64) × (bs ≡ decimal n)
number_spelled bs n e =
    let found = some_where_is (is_numeral bs && ltb (digits_value 10 bs) (2 ^ 64)) (digits_value 10 bs) n e in
    let tests = and_parts (is_numeral bs) (ltb (digits_value 10 bs) (2 ^ 64)) found.0 in
    let parts = numeral_parts bs tests.0 in
    let small : digits_value 10 bs < 2 ^ 64 = below (digits_value 10 bs) tests.1 in (
      subst (λ (v : ℕ). v < 2 ^ 64) found.1 small,
      sym (decimal-digits_value decimal_numerals bs parts.0 parts.1 parts.2 small) ∙ ap decimal found.1,
    )
  where
    below : (v : ℕ) → ltb v (2 ^ 64) ≡ true → v < 2 ^ 64
    below v h = grind (arith, nat_tests)

leading : (n : ℕ) → n < 2 ^ 64 → get_or (decimal n) 0 0 ≡ 48 → length (decimal n) ≡ 1
leading zero lt e = ap length (decimal_digit 0 (omega arith))
leading (suc n) lt e = let f = first_decimal (suc n) (omega arith) lt in absurd (omega arith)

-- the digits of a number are read
pub number_read : (n : ℕ) → n < 2 ^ 64 → number_at (decimal n) ≡ Some n
number_read n lt =
    let value = digits_value-decimal decimal_numerals n lt in
    let numeral = numeral_made (decimal n) (digits_decimal decimal_numerals n lt) (decimal_nonempty n lt) (leading n lt) in
    rw (numeral, value, below n lt) refl
  where
    below : (v : ℕ) → v < 2 ^ 64 → ltb v (2 ^ 64) ≡ true
    below v h = grind (arith, nat_tests)

-- ---- fronts

pub behind_spelled : (front bs rest : List ℕ) → behind front bs ≡ Some rest → bs ≡ front ++ rest
behind_spelled front bs rest e =
    let found = some_where_is (starts_with eqb bs front) (drop (length front) bs) rest e in
    (starts_is Decides-eqb bs front (starts_with eqb bs front) refl).0 found.0 ∙ ap (λ (r : List ℕ). front ++ r) found.1

drop_front : (front rest : List ℕ) → drop (length front) (front ++ rest) ≡ rest
drop_front [] rest = refl
drop_front (b ∷ front) rest = drop_front front rest

pub behind_read : (front rest : List ℕ) → behind front (front ++ rest) ≡ Some rest
behind_read front rest =
    let starts = (starts_is Decides-eqb (front ++ rest) front (starts_with eqb (front ++ rest) front) refl).1 rest refl in
    rw (starts, drop_front front rest) refl

-- ---- two numbers

-- where another byte stands, the bytes are divided there
split_later : (b : ℕ) (bs : List ℕ) (k l : ℕ) → l ≡ suc k → bs ≡ take k bs ++ 32 ∷ drop (k + 1) bs → b ∷ bs ≡ take l (b ∷ bs) ++ 32 ∷ drop (l + 1) (b ∷ bs)
split_later b bs k l e ih =
    let next : l + 1 ≡ suc (k + 1) = omega arith in
    subst (λ (n : ℕ). b ∷ bs ≡ take l (b ∷ bs) ++ 32 ∷ drop n (b ∷ bs)) (sym next)
    (subst (λ (n : ℕ). b ∷ bs ≡ take n (b ∷ bs) ++ 32 ∷ drop (suc (k + 1)) (b ∷ bs)) (sym e) (ap (λ (xs : List ℕ). b ∷ xs) ih))

split_by : (b : ℕ) (bs : List ℕ) (c : Bool) → eqb b 32 ≡ c → (prefix_len (is_other 32) bs ≢ length bs → bs ≡ take (prefix_len (is_other 32) bs) bs ++ 32 ∷ drop (prefix_len (is_other 32) bs + 1) bs)
    → cond (not c) (1 + prefix_len (is_other 32) bs) 0 ≢ length (b ∷ bs)
    → b ∷ bs ≡ take (cond (not c) (1 + prefix_len (is_other 32) bs) 0) (b ∷ bs) ++ 32 ∷ drop (cond (not c) (1 + prefix_len (is_other 32) bs) 0 + 1) (b ∷ bs)
split_by b bs true e ih h = let same : b ≡ 32 = grind (arith, nat_tests) in ap (λ (x : ℕ). x ∷ bs) same
split_by b bs false e ih h = split_later b bs (prefix_len (is_other 32) bs) (1 + prefix_len (is_other 32) bs) (omega arith) (ih (λ same. h (omega (arith, same))))

split_there : (bs : List ℕ) → prefix_len (is_other 32) bs ≢ length bs → bs ≡ take (prefix_len (is_other 32) bs) bs ++ 32 ∷ drop (prefix_len (is_other 32) bs + 1) bs
split_there [] h = absurd (h refl)
split_there (b ∷ bs) h = split_by b bs (eqb b 32) refl (λ k. split_there bs k) h

-- no digit is a space
others : (ds : List ℕ) → AllDigits 10 ds → (rest : List ℕ) → prefix_len (is_other 32) (ds ++ 32 ∷ rest) ≡ length ds
others [] h rest = refl
others (d ∷ ds) h rest =
    let p = tells_digits.parts d ds h in
    let other : eqb d 32 ≡ false = not_space d p.0 in
    rw (other, others ds p.1 rest) (omega arith)
  where
    not_space : (c : ℕ) → IsInRange 48 57 c → eqb c 32 ≡ false
    not_space c h = grind (arith, nat_tests)

drop_past : (front rest : List ℕ) (n : ℕ) → n ≡ length front + 1 → drop n (front ++ 32 ∷ rest) ≡ rest
drop_past [] rest n e = let one : n ≡ 1 = omega arith in ap (λ (k : ℕ). drop k (32 ∷ rest)) one
drop_past (b ∷ front) rest n e =
    let next : n ≡ suc (length front + 1) = omega arith in
    ap (λ (k : ℕ). drop k (b ∷ front ++ 32 ∷ rest)) next ∙ drop_past front rest (length front + 1) refl

step_of_is : (t c : Option ℕ) (s : Step) → step_of t c ≡ Some s → (t ≡ Some s.thread) × (c ≡ Some s.choice) × (s.thread < 2 ^ 32)
step_of_is None c s e = absurd cc
step_of_is (Some t) None s e = absurd cc
step_of_is (Some t) (Some c) s e =
    let found = some_where_is (ltb t (2 ^ 32)) (record { thread = t; choice = c }) s e in
    let thread : t ≡ s.thread = ap (λ (s : Step). s.thread) found.1 in
    let choice : c ≡ s.choice = ap (λ (s : Step). s.choice) found.1 in
    (ap Some thread, ap Some choice, subst (λ (v : ℕ). v < 2 ^ 32) thread (below t found.0))
  where
    below : (v : ℕ) → ltb v (2 ^ 32) ≡ true → v < 2 ^ 32
    below v h = grind (arith, nat_tests)

-- two numbers with a space between them
pub record AreNumbers (bs : List ℕ) (s : Step) : Type 0 where
  pub spelled : bs ≡ decimal s.thread ++ 32 ∷ decimal s.choice
  pub within : IsStep s

pub numbers_spelled : (bs : List ℕ) (s : Step) → numbers_at bs ≡ Some s → AreNumbers bs s
numbers_spelled bs s e = decide (eqb (prefix_len (is_other 32) bs) (length bs)) refl e
  where
    decide : (b : Bool) → eqb (prefix_len (is_other 32) bs) (length bs) ≡ b → cond b None (step_split (prefix_len (is_other 32) bs) bs) ≡ Some s → AreNumbers bs s
    decide true h e = absurd cc
    decide false h e =
        let parts = step_of_is (number_at (take (prefix_len (is_other 32) bs) bs)) (number_at (drop (prefix_len (is_other 32) bs + 1) bs)) s e in
        let thread = number_spelled (take (prefix_len (is_other 32) bs) bs) s.thread parts.0 in
        let choice = number_spelled (drop (prefix_len (is_other 32) bs + 1) bs) s.choice parts.1 in
        let different : prefix_len (is_other 32) bs ≢ length bs = λ same. let t : eqb (prefix_len (is_other 32) bs) (length bs) ≡ true = (Decides-eqb (prefix_len (is_other 32) bs) (length bs)).1 same in cc in
        record {
          spelled = split_there bs different ∙ ap (λ (xs : List ℕ). xs ++ 32 ∷ drop (prefix_len (is_other 32) bs + 1) bs) thread.1
              ∙ ap (λ (xs : List ℕ). decimal s.thread ++ 32 ∷ xs) choice.1;
          within = record { thread = parts.2; choice = choice.0 };
        }

pub numbers_read : (s : Step) → IsStep s → numbers_at (decimal s.thread ++ 32 ∷ decimal s.choice) ≡ Some s
numbers_read s within =
    let t = s.thread in let c = s.choice in
    let small : t < 2 ^ 64 = let w = within.thread in omega arith in
    let front = others (decimal t) (digits_decimal decimal_numerals t small) (decimal c) in
    let longer = long (decimal t) (decimal c) in
    let differ : eqb (length (decimal t)) (length (decimal t ++ 32 ∷ decimal c)) ≡ false = unequal (length (decimal t)) (length (decimal t ++ 32 ∷ decimal c)) longer in
    rw (front, differ, take-append_seam (decimal t) (32 ∷ decimal c), drop_past (decimal t) (decimal c) (length (decimal t) + 1) refl, number_read t small, number_read c within.choice, below t within.thread) refl
  where
    long : (xs ys : List ℕ) → length xs < length (xs ++ 32 ∷ ys)
    long [] ys = omega arith
    long (x ∷ xs) ys = let l = long xs ys in omega arith

    unequal : (a b : ℕ) → a < b → eqb a b ≡ false
    unequal a b h = grind (arith, nat_tests)

    below : (v : ℕ) → v < 2 ^ 32 → ltb v (2 ^ 32) ≡ true
    below v h = grind (arith, nat_tests)

-- ---- lines

step_text_is : (s : Step) → step_text s ≡ codes "step " ++ (decimal s.thread ++ 32 ∷ decimal s.choice)
step_text_is s = append_assoc (codes "step " ++ decimal s.thread) (codes " ") (decimal s.choice) ∙ append_assoc (codes "step ") (decimal s.thread) (codes " " ++ decimal s.choice)

-- a step that is read is what the line says
pub step_spelled : (line : List ℕ) (s : Step) → step_at line ≡ Some s → IsStepLine line s
step_spelled line s e = by (behind (codes "step ") line) refl e
  where
    by : (r : Option (List ℕ)) → behind (codes "step ") line ≡ r → step_behind r ≡ Some s → IsStepLine line s
    by None h e = absurd cc
    by (Some rest) h e =
        let numbers = numbers_spelled rest s e in
        record {
          spelled = behind_spelled (codes "step ") line rest h ∙ ap (λ (xs : List ℕ). codes "step " ++ xs) numbers.spelled ∙ sym (step_text_is s);
          within = numbers.within;
        }

-- the line of a step is read
pub step_read : (line : List ℕ) (s : Step) → IsStepLine line s → step_at line ≡ Some s
step_read line s is =
    ap step_at (is.spelled ∙ step_text_is s) ∙ ap step_behind (behind_read (codes "step ") (decimal s.thread ++ 32 ∷ decimal s.choice)) ∙ numbers_read s is.within

-- ---- lines that are passed over

pub passed_spelled : (line : List ℕ) → is_passed_over line ≡ true → IsPassedOver line
passed_spelled [] h = empty refl
passed_spelled (b ∷ rest) h = by (bytes_eq (b ∷ rest) (codes "FAILED")) (starts_with eqb (b ∷ rest) (codes "check ")) (starts_with eqb (b ∷ rest) (codes "rounds ")) refl refl refl h
  where
    by : (f c r : Bool) → bytes_eq (b ∷ rest) (codes "FAILED") ≡ f → starts_with eqb (b ∷ rest) (codes "check ") ≡ c → starts_with eqb (b ∷ rest) (codes "rounds ") ≡ r → (f || (c || r)) ≡ true → IsPassedOver (b ∷ rest)
    by true c r p q s h = failed ((bytes_eq-Decides (b ∷ rest) (codes "FAILED")).0 p)
    by false true r p q s h = check (record { rest = drop (length (codes "check ")) (b ∷ rest); is = (starts_is Decides-eqb (b ∷ rest) (codes "check ") (starts_with eqb (b ∷ rest) (codes "check ")) refl).0 q })
    by false false true p q s h = rounds (record { rest = drop (length (codes "rounds ")) (b ∷ rest); is = (starts_is Decides-eqb (b ∷ rest) (codes "rounds ") (starts_with eqb (b ∷ rest) (codes "rounds ")) refl).0 s })
    by false false false p q s h = absurd cc

pub passed_read : (line : List ℕ) → IsPassedOver line → is_passed_over line ≡ true
passed_read [] h = refl
passed_read (b ∷ rest) (empty e) = absurd cc
passed_read (b ∷ rest) (failed e) =
    first_suffices (bytes_eq (b ∷ rest) (codes "FAILED")) (starts_with eqb (b ∷ rest) (codes "check ") || starts_with eqb (b ∷ rest) (codes "rounds ")) ((bytes_eq-Decides (b ∷ rest) (codes "FAILED")).1 e)
passed_read (b ∷ rest) (check front) =
    or_right (bytes_eq (b ∷ rest) (codes "FAILED")) (starts_with eqb (b ∷ rest) (codes "check ") || starts_with eqb (b ∷ rest) (codes "rounds "))
    (first_suffices (starts_with eqb (b ∷ rest) (codes "check ")) (starts_with eqb (b ∷ rest) (codes "rounds "))
    ((starts_is Decides-eqb (b ∷ rest) (codes "check ") (starts_with eqb (b ∷ rest) (codes "check ")) refl).1 front.rest front.is))
passed_read (b ∷ rest) (rounds front) =
    or_right (bytes_eq (b ∷ rest) (codes "FAILED")) (starts_with eqb (b ∷ rest) (codes "check ") || starts_with eqb (b ∷ rest) (codes "rounds "))
    (or_right (starts_with eqb (b ∷ rest) (codes "check ")) (starts_with eqb (b ∷ rest) (codes "rounds "))
    ((starts_is Decides-eqb (b ∷ rest) (codes "rounds ") (starts_with eqb (b ∷ rest) (codes "rounds ")) refl).1 front.rest front.is))
