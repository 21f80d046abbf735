-- Statements: their forms, what each begins with, and with what they go on.
use Rattle.std.proofs.Common.{◌≡◌, ℕ, ◌<◌, ◌≤◌, Bool, true, false, List, [], ◌∷◌, Some, refl, sym, ap, ◌∙◌, inl, inr, arith}
use Rattle.std.specs.Prelude.{◌⊎◌, ◌&&◌}
use Rattle.std.proofs.lemmas.Bool.{false_from_ne_true}
use Rattle.lz_tree.specs.declared.token.Token.{Token}
use Rattle.lz_tree.specs.declared.token.TokenKind.{TokenKind}
use Rattle.lz_tree.specs.declared.token.TokenKind.TheVariants as kinds
use Rattle.lz_tree.specs.declared.token.Keyword.{Keyword}
use Rattle.lz_tree.specs.declared.token.Keyword.TheVariants as keys
use Rattle.lz_tree.specs.declared.token.Punct.{Punct}
use Rattle.lz_tree.specs.declared.token.Punct.TheVariants as marks
use Rattle.lz_tree.specs.Languages.{◌⊙◌, showing, is_mark, is_key, is_mark_kind, is_key_kind, same_mark, same_key, mark_shown, key_shown, name_shown}
use Rattle.lz_tree.specs.Spelling.{SpellsStatement}
use Rattle.lz_tree.specs.Trees.{Statement, empty, eval, block, declare, when, while, do_while, for, break, continue, return, label}
use Rattle.lz_tree.specs.WellFormed.{is_open}
use Rattle.lz_expr.specs.Reading.{shows}
use Rattle.lz_expr.specs.Grammar.{key_in, key_meant, opening_of, opening_key}
use Rattle.lz_expr.proofs.RowsLemmas.{heads_one}
use Rattle.lz_expr.proofs.TokensLemmas.{mark_kind_is, key_kind_is, is_mark_is, is_key_is, some_shown, no_text}
use Rattle.lz_expr.proofs.ExpressionsLemmas.{some_text, first_part, name_opens}
use Rattle.lz_grammar.specs.Grammar.{opens_any, begins_expression, begins_type, type_key}
use Rattle.lz_grammar.proofs.AnyTypesLemmas.{type_some}
use Rattle.lz_grammar.proofs.DeclaratorsLemmas.{expression_begins, not_begins}
use Rattle.lz_grammar.proofs.DeclarationsLemmas.{declaration_heads}

-- after a statement only `else` can go on, where it ends in an open `if`
abbrev pub statement_goes : Statement → Token → Bool
statement_goes s c = is_open s && is_key keys.Else c

-- which form a statement has, in the order in which the forms are tried
abbrev pub form : Statement → ℕ
form (eval e) = 0
form (label n of) = 0
form (declare of) = 1
form (block parts) = 2
form (when line test met unmet) = 3
form (while line test body) = 4
form (do_while line body test) = 5
form (for line first test change body) = 6
form (break line) = 7
form (continue line) = 8
form (return line e) = 9
form empty = 10

-- the kind of its first token, where that is always the same
abbrev pub first_kind : Statement → TokenKind
first_kind (block parts) = kinds.Punct marks.OpenBrace
first_kind (when line test met unmet) = kinds.Keyword keys.If
first_kind (while line test body) = kinds.Keyword keys.While
first_kind (do_while line body test) = kinds.Keyword keys.Do
first_kind (for line first test change body) = kinds.Keyword keys.For
first_kind (break line) = kinds.Keyword keys.Break
first_kind (continue line) = kinds.Keyword keys.Continue
first_kind (return line e) = kinds.Keyword keys.Return
first_kind s = kinds.Punct marks.Semicolon

key_first : (k : Keyword) (line : ℕ) (B : List Token → Type 0) (c : Token) (u : List Token) → (showing (key_shown k) line ⊙ B) (c ∷ u) → c.kind ≡ kinds.Keyword k
key_first k line B c u m = first_part (λ d. d.kind ≡ kinds.Keyword k) c u m (λ v s. some_shown (key_shown k) line v s) (λ v s. key_kind_is k c line (heads_one (key_shown k) line c v s))

-- each statement but an expression, a label or a declaration begins with its own token
pub kind_first : (s : Statement) (c : Token) (u : List Token) → 2 ≤ form s → SpellsStatement s (c ∷ u) → c.kind ≡ first_kind s
kind_first (block parts) c u l m =
    first_part (λ d. d.kind ≡ kinds.Punct marks.OpenBrace) c u m (λ v s. some_shown (mark_shown marks.OpenBrace) s.0 v s.1) (λ v s. mark_kind_is marks.OpenBrace c s.0 (heads_one (mark_shown marks.OpenBrace) s.0 c v s.1))
kind_first (when line test met unmet) c u l m = key_first keys.If line _ c u m
kind_first (while line test body) c u l m = key_first keys.While line _ c u m
kind_first (do_while line body test) c u l m = key_first keys.Do line _ c u m
kind_first (for line first test change body) c u l m = key_first keys.For line _ c u m
kind_first (break line) c u l m = key_first keys.Break line _ c u m
kind_first (continue line) c u l m = key_first keys.Continue line _ c u m
kind_first (return line e) c u l m = key_first keys.Return line _ c u m
kind_first empty c u l m = mark_kind_is marks.Semicolon c m.0 (heads_one (mark_shown marks.Semicolon) m.0 c u m.1)
kind_first (eval e) c u l m = absurd (omega arith)
kind_first (label n of) c u l m = absurd (omega arith)
kind_first (declare of) c u l m = absurd (omega arith)

name_begins : (c : Token) (n : ℕ) → name_shown c ≡ Some n → begins_expression c ≡ true
unfolding begins_expression
name_begins c n h = ap opens_any (name_opens c n h)

-- an expression or a label begins with a token that begins an expression
pub eval_first : (s : Statement) (c : Token) (u : List Token) → form s ≡ 0 → SpellsStatement s (c ∷ u) → begins_expression c ≡ true
eval_first (eval e) c u l m = first_part (λ d. begins_expression d ≡ true) c u m (λ v s. some_text e v s) (λ v s. expression_begins e c v s)
eval_first (label n of) c u l m = first_part (λ d. begins_expression d ≡ true) c u m (λ v s. some_shown name_shown n v s) (λ v s. name_begins c n (heads_one name_shown n c v s))
eval_first _ c u l m = absurd (omega arith)

-- a declaration with one that begins a type
pub declare_first : (s : Statement) (c : Token) (u : List Token) → form s ≡ 1 → SpellsStatement s (c ∷ u) → begins_type c ≡ true
declare_first (declare of) c u l m = declaration_heads 0 of c u m
declare_first _ c u l m = absurd (omega arith)

-- ---- no token begins two forms

word_no_expression : (w : Keyword) → shows (type_key w) ≡ true → opens_any (opening_key w) ≡ false
word_no_expression keys.Null h = absurd cc
word_no_expression _ h = refl

kind_no_expression : (k : TokenKind) → shows (key_in type_key k) ≡ true → opens_any (opening_of k) ≡ false
kind_no_expression (kinds.Keyword w) h = word_no_expression w h
kind_no_expression (kinds.Name n) h = absurd cc
kind_no_expression (kinds.Constant v f) h = absurd cc
kind_no_expression kinds.Text h = absurd cc
kind_no_expression (kinds.Punct p) h = absurd cc

pub type_no_expression : (c : Token) → begins_type c ≡ true → begins_expression c ≡ false
unfolding begins_type key_meant
type_no_expression c h = not_begins c c.kind refl (kind_no_expression c.kind h)

kind_no_type : (c : Token) (k : TokenKind) → c.kind ≡ k → shows (key_in type_key k) ≡ false → begins_type c ≡ false
unfolding begins_type key_meant
kind_no_type c k e h = ap (λ (x : TokenKind). shows (key_in type_key x)) e ∙ h

no_expression : (s : Statement) → 2 ≤ form s → opens_any (opening_of (first_kind s)) ≡ false
no_expression (eval e) l = absurd (omega arith)
no_expression (label n of) l = absurd (omega arith)
no_expression (declare of) l = absurd (omega arith)
no_expression _ l = refl

no_type : (s : Statement) → 2 ≤ form s → shows (key_in type_key (first_kind s)) ≡ false
no_type (eval e) l = absurd (omega arith)
no_type (label n of) l = absurd (omega arith)
no_type (declare of) l = absurd (omega arith)
no_type _ l = refl

small_or : (n : ℕ) → 1 ≤ n → (n ≡ 1) ⊎ (2 ≤ n)
small_or n h = grind arith

-- forms from the second on begin with no token of an expression
pub later_no_expression : (s : Statement) (c : Token) (u : List Token) → 1 ≤ form s → SpellsStatement s (c ∷ u) → begins_expression c ≡ false
later_no_expression s c u l m = by_form (small_or (form s) l)
  where
    by_form : (form s ≡ 1) ⊎ (2 ≤ form s) → begins_expression c ≡ false
    by_form (inl e) = type_no_expression c (declare_first s c u e m)
    by_form (inr k) = not_begins c (first_kind s) (kind_first s c u k m) (no_expression s k)

pub later_no_type : (s : Statement) (c : Token) (u : List Token) → 2 ≤ form s → SpellsStatement s (c ∷ u) → begins_type c ≡ false
later_no_type s c u l m = kind_no_type c (first_kind s) (kind_first s c u l m) (no_type s l)

other_openbrace : (s : Statement) → 2 < form s → is_mark_kind marks.OpenBrace (first_kind s) ≡ false
unfolding same_mark same_key
other_openbrace (when line test met unmet) l = refl
other_openbrace (while line test body) l = refl
other_openbrace (do_while line body test) l = refl
other_openbrace (for line first test change body) l = refl
other_openbrace (break line) l = refl
other_openbrace (continue line) l = refl
other_openbrace (return line e) l = refl
other_openbrace empty l = refl
other_openbrace _ l = absurd (omega arith)

pub later_no_openbrace : (s : Statement) (c : Token) (u : List Token) → 2 < form s → SpellsStatement s (c ∷ u) → is_mark marks.OpenBrace c ≡ false
unfolding is_mark
later_no_openbrace s c u l m = ap (is_mark_kind marks.OpenBrace) (kind_first s c u (omega arith) m) ∙ other_openbrace s l

other_if : (s : Statement) → 3 < form s → is_key_kind keys.If (first_kind s) ≡ false
unfolding same_mark same_key
other_if (while line test body) l = refl
other_if (do_while line body test) l = refl
other_if (for line first test change body) l = refl
other_if (break line) l = refl
other_if (continue line) l = refl
other_if (return line e) l = refl
other_if empty l = refl
other_if _ l = absurd (omega arith)

pub later_no_if : (s : Statement) (c : Token) (u : List Token) → 3 < form s → SpellsStatement s (c ∷ u) → is_key keys.If c ≡ false
unfolding is_key
later_no_if s c u l m = ap (is_key_kind keys.If) (kind_first s c u (omega arith) m) ∙ other_if s l

other_while : (s : Statement) → 4 < form s → is_key_kind keys.While (first_kind s) ≡ false
unfolding same_mark same_key
other_while (do_while line body test) l = refl
other_while (for line first test change body) l = refl
other_while (break line) l = refl
other_while (continue line) l = refl
other_while (return line e) l = refl
other_while empty l = refl
other_while _ l = absurd (omega arith)

pub later_no_while : (s : Statement) (c : Token) (u : List Token) → 4 < form s → SpellsStatement s (c ∷ u) → is_key keys.While c ≡ false
unfolding is_key
later_no_while s c u l m = ap (is_key_kind keys.While) (kind_first s c u (omega arith) m) ∙ other_while s l

other_do : (s : Statement) → 5 < form s → is_key_kind keys.Do (first_kind s) ≡ false
unfolding same_mark same_key
other_do (for line first test change body) l = refl
other_do (break line) l = refl
other_do (continue line) l = refl
other_do (return line e) l = refl
other_do empty l = refl
other_do _ l = absurd (omega arith)

pub later_no_do : (s : Statement) (c : Token) (u : List Token) → 5 < form s → SpellsStatement s (c ∷ u) → is_key keys.Do c ≡ false
unfolding is_key
later_no_do s c u l m = ap (is_key_kind keys.Do) (kind_first s c u (omega arith) m) ∙ other_do s l

other_for : (s : Statement) → 6 < form s → is_key_kind keys.For (first_kind s) ≡ false
unfolding same_mark same_key
other_for (break line) l = refl
other_for (continue line) l = refl
other_for (return line e) l = refl
other_for empty l = refl
other_for _ l = absurd (omega arith)

pub later_no_for : (s : Statement) (c : Token) (u : List Token) → 6 < form s → SpellsStatement s (c ∷ u) → is_key keys.For c ≡ false
unfolding is_key
later_no_for s c u l m = ap (is_key_kind keys.For) (kind_first s c u (omega arith) m) ∙ other_for s l

other_break : (s : Statement) → 7 < form s → is_key_kind keys.Break (first_kind s) ≡ false
unfolding same_mark same_key
other_break (continue line) l = refl
other_break (return line e) l = refl
other_break empty l = refl
other_break _ l = absurd (omega arith)

pub later_no_break : (s : Statement) (c : Token) (u : List Token) → 7 < form s → SpellsStatement s (c ∷ u) → is_key keys.Break c ≡ false
unfolding is_key
later_no_break s c u l m = ap (is_key_kind keys.Break) (kind_first s c u (omega arith) m) ∙ other_break s l

other_continue : (s : Statement) → 8 < form s → is_key_kind keys.Continue (first_kind s) ≡ false
unfolding same_mark same_key
other_continue (return line e) l = refl
other_continue empty l = refl
other_continue _ l = absurd (omega arith)

pub later_no_continue : (s : Statement) (c : Token) (u : List Token) → 8 < form s → SpellsStatement s (c ∷ u) → is_key keys.Continue c ≡ false
unfolding is_key
later_no_continue s c u l m = ap (is_key_kind keys.Continue) (kind_first s c u (omega arith) m) ∙ other_continue s l

other_return : (s : Statement) → 9 < form s → is_key_kind keys.Return (first_kind s) ≡ false
unfolding same_mark same_key
other_return empty l = refl
other_return _ l = absurd (omega arith)

pub later_no_return : (s : Statement) (c : Token) (u : List Token) → 9 < form s → SpellsStatement s (c ∷ u) → is_key keys.Return c ≡ false
unfolding is_key
later_no_return s c u l m = ap (is_key_kind keys.Return) (kind_first s c u (omega arith) m) ∙ other_return s l

-- ---- no statement begins with `else` or `}`

both : (q : Bool) → q ≡ true → q ≡ false → ⊥
both q a b = let never : true ≡ false = sym a ∙ b in cc

kind_else : (s : Statement) → 2 ≤ form s → (is_key_kind keys.Else (first_kind s) ≡ false) × (is_mark_kind marks.CloseBrace (first_kind s) ≡ false)
unfolding same_mark same_key
kind_else (eval e) l = absurd (omega arith)
kind_else (label n of) l = absurd (omega arith)
kind_else (declare of) l = absurd (omega arith)
kind_else _ l = (refl, refl)

three : (n : ℕ) → ((n ≡ 0) ⊎ (n ≡ 1)) ⊎ (2 ≤ n)
three n = grind arith

pub no_else : (s : Statement) (c : Token) (u : List Token) → SpellsStatement s (c ∷ u) → is_key keys.Else c ≡ false
unfolding is_key
no_else s c u m = by_form (three (form s))
  where
    by_form : ((form s ≡ 0) ⊎ (form s ≡ 1)) ⊎ (2 ≤ form s) → is_key_kind keys.Else c.kind ≡ false
    by_form (inl (inl e)) = false_from_ne_true (is_key_kind keys.Else c.kind) (λ k. both (begins_expression c) (eval_first s c u e m) (not_begins c (kinds.Keyword keys.Else) (is_key_is keys.Else c k) refl))
    by_form (inl (inr e)) = false_from_ne_true (is_key_kind keys.Else c.kind) (λ k. both (begins_type c) (declare_first s c u e m) (kind_no_type c (kinds.Keyword keys.Else) (is_key_is keys.Else c k) refl))
    by_form (inr l) = ap (is_key_kind keys.Else) (kind_first s c u l m) ∙ (kind_else s l).0

pub no_close : (s : Statement) (c : Token) (u : List Token) → SpellsStatement s (c ∷ u) → is_mark marks.CloseBrace c ≡ false
unfolding is_mark
no_close s c u m = by_form (three (form s))
  where
    by_form : ((form s ≡ 0) ⊎ (form s ≡ 1)) ⊎ (2 ≤ form s) → is_mark_kind marks.CloseBrace c.kind ≡ false
    by_form (inl (inl e)) = false_from_ne_true (is_mark_kind marks.CloseBrace c.kind) (λ k. both (begins_expression c) (eval_first s c u e m) (not_begins c (kinds.Punct marks.CloseBrace) (is_mark_is marks.CloseBrace c k) refl))
    by_form (inl (inr e)) = false_from_ne_true (is_mark_kind marks.CloseBrace c.kind) (λ k. both (begins_type c) (declare_first s c u e m) (kind_no_type c (kinds.Punct marks.CloseBrace) (is_mark_is marks.CloseBrace c k) refl))
    by_form (inr l) = ap (is_mark_kind marks.CloseBrace) (kind_first s c u l m) ∙ (kind_else s l).1

key_no_else : (k : Keyword) (c : Token) (x : ℕ) → is_key_kind keys.Else (kinds.Keyword k) ≡ false → key_shown k c ≡ Some x → is_key keys.Else c ≡ false
unfolding is_key
key_no_else k c x other h = ap (is_key_kind keys.Else) (key_kind_is k c x h) ∙ other

pub while_no_else : (c : Token) (x : ℕ) → key_shown keys.While c ≡ Some x → is_key keys.Else c ≡ false
unfolding same_key
while_no_else c x h = key_no_else keys.While c x refl h

pub mark_no_else : (p : Punct) (c : Token) (x : ℕ) → mark_shown p c ≡ Some x → is_key keys.Else c ≡ false
unfolding is_key
mark_no_else p c x h = ap (is_key_kind keys.Else) (mark_kind_is p c x h)

-- no statement is spelled by nothing
pub some_statement : (s : Statement) (u : List Token) → SpellsStatement s u → u ≡ [] → ⊥
some_statement (eval e) u (a, b, same, s, m) nil = no_text a b (sym nil ∙ same) (some_text e a s)
some_statement (label n of) u (a, b, same, s, m) nil = no_text a b (sym nil ∙ same) (some_shown name_shown n a s)
some_statement (declare of) u (at, (a, b, same, s, m)) nil = no_text a b (sym nil ∙ same) (type_some of.base a s)
some_statement (block parts) u (a, b, same, s, m) nil = no_text a b (sym nil ∙ same) (some_shown (mark_shown marks.OpenBrace) s.0 a s.1)
some_statement (when line test met unmet) u (a, b, same, s, m) nil = no_text a b (sym nil ∙ same) (some_shown _ line a s)
some_statement (while line test body) u (a, b, same, s, m) nil = no_text a b (sym nil ∙ same) (some_shown _ line a s)
some_statement (do_while line body test) u (a, b, same, s, m) nil = no_text a b (sym nil ∙ same) (some_shown _ line a s)
some_statement (for line first test change body) u (a, b, same, s, m) nil = no_text a b (sym nil ∙ same) (some_shown _ line a s)
some_statement (break line) u (a, b, same, s, m) nil = no_text a b (sym nil ∙ same) (some_shown _ line a s)
some_statement (continue line) u (a, b, same, s, m) nil = no_text a b (sym nil ∙ same) (some_shown _ line a s)
some_statement (return line e) u (a, b, same, s, m) nil = no_text a b (sym nil ∙ same) (some_shown _ line a s)
some_statement empty u m nil = some_shown (mark_shown marks.Semicolon) m.0 u m.1 nil
