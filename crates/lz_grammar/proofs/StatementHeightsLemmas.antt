-- Statements are read exactly, up to every height.
use Rattle.std.proofs.Common.{◌≡◌, ℕ, zero, suc, ◌<◌, ◌≤◌, Bool, true, false, List, [], ◌∷◌, refl, inl, inr, arith, nat_lt}
use Rattle.std.specs.Prelude.{◌⊎◌, ◌&&◌}
use Rattle.std.proofs.lemmas.Bool.{and_parts, lt-ltb, ltb-true}
use Rattle.lz_tree.specs.declared.token.Token.{Token}
use Rattle.lz_tree.specs.declared.token.Keyword.TheVariants as keys
use Rattle.lz_tree.specs.declared.token.Punct.TheVariants as marks
use Rattle.lz_tree.specs.Languages.{is_mark, is_key}
use Rattle.lz_tree.specs.Spelling.{SpellsStatement}
use Rattle.lz_tree.specs.Trees.{Statement, empty, eval, block, when, while, do_while, for, break, continue, return, label}
use Rattle.lz_tree.specs.WellFormed.{InStatement}
use Rattle.lz_expr.specs.Reading.{Reader, choice}
use Rattle.lz_expr.proofs.RowsLemmas.{Row, row_choice, row_of}
use Rattle.lz_expr.proofs.TokensLemmas.{is_key_of, is_mark_of}
use Rattle.lz_expr.proofs.ExpressionsLemmas.{tall}
use Rattle.lz_grammar.specs.Grammar.{begins_expression, begins_type, semicolon, declared, blocked, tested, repeated, repeated_behind, counted, broken, continued, returned, expression_first, by_first, stmt}
use Rattle.lz_grammar.proofs.FormsLemmas.{statement_goes, form, kind_first, eval_first, declare_first, later_no_expression, later_no_type, later_no_openbrace, later_no_if, later_no_while, later_no_do, later_no_for, later_no_break, later_no_continue, later_no_return, some_statement}
use Rattle.lz_grammar.proofs.StatementsLemmas.{Of, tall_statement, row_empty, row_break, row_continue, row_return, row_declare, row_block}
use Rattle.lz_grammar.proofs.LoopsOfStatementsLemmas.{row_while, row_do, row_if, row_expression_first}
use Rattle.lz_grammar.proofs.ForLemmas.{row_for}

-- a statement of this form or of a later one
abbrev From : ℕ → ℕ → Statement → List Token → Type 0
From n h s u = (n ≤ form s) × InStatement (suc h) s u

this_or : (n m : ℕ) → n ≤ m → (m ≡ n) ⊎ (suc n ≤ m)
this_or n m h = grind arith

from_last : (s : Statement) → 10 ≤ form s → form s ≡ 10
from_last empty l = refl
from_last _ l = absurd (omega arith)

of_full : (n h : ℕ) (s : Statement) → Of n h s [] → ⊥
of_full n h s m = some_statement s [] m.1.spells refl

-- the forms whose parts need room
eval_room : (h : ℕ) (s : Statement) (u : List Token) → Of 0 h s u → 0 < h
eval_room h (eval e) u m = let high = tall e in let low = m.1.low in omega arith
eval_room h (label n of) u m = let high = tall_statement of in let low = m.1.low in omega arith
eval_room h _ u m = let e = m.0 in absurd (omega arith)

if_room : (h : ℕ) (s : Statement) (u : List Token) → Of 3 h s u → 0 < h
if_room h (when line test met unmet) u m = let high = tall test in let low = m.1.low in omega arith
if_room h _ u m = let e = m.0 in absurd (omega arith)

while_room : (h : ℕ) (s : Statement) (u : List Token) → Of 4 h s u → 0 < h
while_room h (while line test body) u m = let high = tall test in let low = m.1.low in omega arith
while_room h _ u m = let e = m.0 in absurd (omega arith)

do_room : (h : ℕ) (s : Statement) (u : List Token) → Of 5 h s u → 0 < h
do_room h (do_while line body test) u m = let high = tall test in let low = m.1.low in omega arith
do_room h _ u m = let e = m.0 in absurd (omega arith)

for_room : (h : ℕ) (s : Statement) (u : List Token) → Of 6 h s u → 0 < h
for_room h (for line first test change body) u m = let high = tall_statement body in let low = m.1.low in omega arith
for_room h _ u m = let e = m.0 in absurd (omega arith)

head_openbrace : (s : Statement) (c : Token) (u : List Token) → form s ≡ 2 → SpellsStatement s (c ∷ u) → is_mark marks.OpenBrace c ≡ true
head_openbrace (block ss) c u e m = is_mark_of marks.OpenBrace c (kind_first (block ss) c u (omega arith) m)
head_openbrace _ c u e m = absurd (omega arith)

head_if : (s : Statement) (c : Token) (u : List Token) → form s ≡ 3 → SpellsStatement s (c ∷ u) → is_key keys.If c ≡ true
head_if (when line test met unmet) c u e m = is_key_of keys.If c (kind_first (when line test met unmet) c u (omega arith) m)
head_if _ c u e m = absurd (omega arith)

head_while : (s : Statement) (c : Token) (u : List Token) → form s ≡ 4 → SpellsStatement s (c ∷ u) → is_key keys.While c ≡ true
head_while (while line test body) c u e m = is_key_of keys.While c (kind_first (while line test body) c u (omega arith) m)
head_while _ c u e m = absurd (omega arith)

head_do : (s : Statement) (c : Token) (u : List Token) → form s ≡ 5 → SpellsStatement s (c ∷ u) → is_key keys.Do c ≡ true
head_do (do_while line body test) c u e m = is_key_of keys.Do c (kind_first (do_while line body test) c u (omega arith) m)
head_do _ c u e m = absurd (omega arith)

head_for : (s : Statement) (c : Token) (u : List Token) → form s ≡ 6 → SpellsStatement s (c ∷ u) → is_key keys.For c ≡ true
head_for (for line first test change body) c u e m = is_key_of keys.For c (kind_first (for line first test change body) c u (omega arith) m)
head_for _ c u e m = absurd (omega arith)

head_break : (s : Statement) (c : Token) (u : List Token) → form s ≡ 7 → SpellsStatement s (c ∷ u) → is_key keys.Break c ≡ true
head_break (break line) c u e m = is_key_of keys.Break c (kind_first (break line) c u (omega arith) m)
head_break _ c u e m = absurd (omega arith)

head_continue : (s : Statement) (c : Token) (u : List Token) → form s ≡ 8 → SpellsStatement s (c ∷ u) → is_key keys.Continue c ≡ true
head_continue (continue line) c u e m = is_key_of keys.Continue c (kind_first (continue line) c u (omega arith) m)
head_continue _ c u e m = absurd (omega arith)

head_return : (s : Statement) (c : Token) (u : List Token) → form s ≡ 9 → SpellsStatement s (c ∷ u) → is_key keys.Return c ≡ true
head_return (return line v) c u e m = is_key_of keys.Return c (kind_first (return line v) c u (omega arith) m)
head_return _ c u e m = absurd (omega arith)

row_counted : (h : ℕ) (inner : Reader Token Statement) → 0 < h → Row (InStatement h) inner statement_goes → Row (Of 6 h) (counted inner h) statement_goes
row_counted zero inner some rs = absurd (omega arith)
row_counted (suc h) inner some rs = row_for h inner rs

module _ (h : ℕ) (inner : Reader Token Statement) (rs : 0 < h → Row (InStatement h) inner statement_goes) where
  abbrev r10 : Reader Token Statement
  r10 = semicolon

  abbrev r9 : Reader Token Statement
  r9 = choice (is_key keys.Return) (returned inner h) r10

  abbrev r8 : Reader Token Statement
  r8 = choice (is_key keys.Continue) (continued inner h) r9

  abbrev r7 : Reader Token Statement
  r7 = choice (is_key keys.Break) (broken inner h) r8

  abbrev r6 : Reader Token Statement
  r6 = choice (λ c. is_key keys.For c && nat_lt 0 h) (counted inner h) r7

  abbrev r5 : Reader Token Statement
  r5 = choice (λ c. is_key keys.Do c && nat_lt 0 h) (repeated_behind inner h) r6

  abbrev r4 : Reader Token Statement
  r4 = choice (λ c. is_key keys.While c && nat_lt 0 h) (repeated inner h) r5

  abbrev r3 : Reader Token Statement
  r3 = choice (λ c. is_key keys.If c && nat_lt 0 h) (tested inner h) r4

  abbrev r2 : Reader Token Statement
  r2 = choice (is_mark marks.OpenBrace) (blocked inner h) r3

  abbrev r1 : Reader Token Statement
  r1 = choice begins_type (declared h) r2

  abbrev r0 : Reader Token Statement
  r0 = choice (λ c. begins_expression c && nat_lt 0 h) (expression_first inner h) r1

  step : (n : ℕ) → n < 10 → (p : Token → Bool) (ra rb : Reader Token Statement) → ((c : Token) → p c ≡ true → Row (Of n h) ra statement_goes) → Row (From (suc n) h) rb statement_goes
      → ((s : Statement) (c : Token) (u : List Token) → Of n h s (c ∷ u) → p c ≡ true) → ((s : Statement) (c : Token) (u : List Token) → From (suc n) h s (c ∷ u) → p c ≡ false) → Row (From n h) (choice p ra rb) statement_goes
  step n small p ra rb a b heads_a heads_b = row_choice p (Of n h) (From (suc n) h) ra rb statement_goes a b (From n h) (λ s u m. ((let e = m.0 in omega arith), m.1)) (λ s u m. ((let e = m.0 in omega arith), m.1))
      (λ s u m. back s u m.1 (this_or n (form s) m.0)) (of_full n h) heads_a heads_b
    where
      back : (s : Statement) (u : List Token) → InStatement (suc h) s u → (form s ≡ n) ⊎ (suc n ≤ form s) → Of n h s u ⊎ From (suc n) h s u
      back s u m (inl e) = inl (e, m)
      back s u m (inr l) = inr (l, m)

  row10 : Row (From 10 h) r10 statement_goes
  row10 = row_of (Of 10 h) semicolon statement_goes statement_goes (row_empty h inner) (From 10 h) (λ s u m. ((let e = m.0 in omega arith), m.1)) (λ s u m. (from_last s m.0, m.1)) (λ t u c m. refl)

  row9 : Row (From 9 h) r9 statement_goes
  row9 = step 9 (omega arith) (is_key keys.Return) (returned inner h) r10 (λ c p. row_return h inner) row10
      (λ s c u m. head_return s c u m.0 m.1.spells)
      (λ s c u m. later_no_return s c u (let l = m.0 in omega arith) m.1.spells)

  row8 : Row (From 8 h) r8 statement_goes
  row8 = step 8 (omega arith) (is_key keys.Continue) (continued inner h) r9 (λ c p. row_continue h inner) row9
      (λ s c u m. head_continue s c u m.0 m.1.spells)
      (λ s c u m. later_no_continue s c u (let l = m.0 in omega arith) m.1.spells)

  row7 : Row (From 7 h) r7 statement_goes
  row7 = step 7 (omega arith) (is_key keys.Break) (broken inner h) r8 (λ c p. row_break h inner) row8
      (λ s c u m. head_break s c u m.0 m.1.spells)
      (λ s c u m. later_no_break s c u (let l = m.0 in omega arith) m.1.spells)

  row6 : Row (From 6 h) r6 statement_goes
  row6 = step 6 (omega arith) (λ c. is_key keys.For c && nat_lt 0 h) (counted inner h) r7 (λ c p. row_counted h inner (ltb-true 0 h (and_parts (is_key keys.For c) (nat_lt 0 h) p).1) (rs (ltb-true 0 h (and_parts (is_key keys.For c) (nat_lt 0 h) p).1))) row7
      (λ s c u m. rw (head_for s c u m.0 m.1.spells, lt-ltb 0 h (for_room h s (c ∷ u) m)) refl)
      (λ s c u m. rw (later_no_for s c u (let l = m.0 in omega arith) m.1.spells) refl)

  row5 : Row (From 5 h) r5 statement_goes
  row5 = step 5 (omega arith) (λ c. is_key keys.Do c && nat_lt 0 h) (repeated_behind inner h) r6 (λ c p. row_do h inner (ltb-true 0 h (and_parts (is_key keys.Do c) (nat_lt 0 h) p).1) (rs (ltb-true 0 h (and_parts (is_key keys.Do c) (nat_lt 0 h) p).1))) row6
      (λ s c u m. rw (head_do s c u m.0 m.1.spells, lt-ltb 0 h (do_room h s (c ∷ u) m)) refl)
      (λ s c u m. rw (later_no_do s c u (let l = m.0 in omega arith) m.1.spells) refl)

  row4 : Row (From 4 h) r4 statement_goes
  row4 = step 4 (omega arith) (λ c. is_key keys.While c && nat_lt 0 h) (repeated inner h) r5 (λ c p. row_while h inner (ltb-true 0 h (and_parts (is_key keys.While c) (nat_lt 0 h) p).1) (rs (ltb-true 0 h (and_parts (is_key keys.While c) (nat_lt 0 h) p).1))) row5
      (λ s c u m. rw (head_while s c u m.0 m.1.spells, lt-ltb 0 h (while_room h s (c ∷ u) m)) refl)
      (λ s c u m. rw (later_no_while s c u (let l = m.0 in omega arith) m.1.spells) refl)

  row3 : Row (From 3 h) r3 statement_goes
  row3 = step 3 (omega arith) (λ c. is_key keys.If c && nat_lt 0 h) (tested inner h) r4 (λ c p. row_if h inner (ltb-true 0 h (and_parts (is_key keys.If c) (nat_lt 0 h) p).1) (rs (ltb-true 0 h (and_parts (is_key keys.If c) (nat_lt 0 h) p).1))) row4
      (λ s c u m. rw (head_if s c u m.0 m.1.spells, lt-ltb 0 h (if_room h s (c ∷ u) m)) refl)
      (λ s c u m. rw (later_no_if s c u (let l = m.0 in omega arith) m.1.spells) refl)

  row2 : Row (From 2 h) r2 statement_goes
  row2 = step 2 (omega arith) (is_mark marks.OpenBrace) (blocked inner h) r3 (λ c p. row_block h inner rs) row3
      (λ s c u m. head_openbrace s c u m.0 m.1.spells)
      (λ s c u m. later_no_openbrace s c u (let l = m.0 in omega arith) m.1.spells)

  row1 : Row (From 1 h) r1 statement_goes
  row1 = step 1 (omega arith) begins_type (declared h) r2 (λ c p. row_declare h inner) row2
      (λ s c u m. declare_first s c u m.0 m.1.spells)
      (λ s c u m. later_no_type s c u m.0 m.1.spells)

  row0 : Row (From 0 h) r0 statement_goes
  row0 = step 0 (omega arith) (λ c. begins_expression c && nat_lt 0 h) (expression_first inner h) r1 (λ c p. row_expression_first h inner (ltb-true 0 h (and_parts (begins_expression c) (nat_lt 0 h) p).1) (rs (ltb-true 0 h (and_parts (begins_expression c) (nat_lt 0 h) p).1))) row1
      (λ s c u m. rw (eval_first s c u m.0 m.1.spells, lt-ltb 0 h (eval_room h s (c ∷ u) m)) refl)
      (λ s c u m. rw (later_no_expression s c u m.0 m.1.spells) refl)

  pub row_by_first : Row (InStatement (suc h)) (by_first inner h) statement_goes
  unfolding by_first choice
  row_by_first = row_of (From 0 h) r0 statement_goes statement_goes row0 (InStatement (suc h)) (λ s u m. m.1) (λ s u m. (omega arith, m)) (λ t u c m. refl)

-- statements of at most some height are read exactly
pub row_statement : (h : ℕ) → Row (InStatement (suc h)) (stmt (suc h)) statement_goes
unfolding stmt
row_statement zero = row_by_first zero (stmt zero) (λ some. absurd (omega arith))
row_statement (suc h) = row_by_first (suc h) (stmt (suc h)) (λ some. row_statement h)
