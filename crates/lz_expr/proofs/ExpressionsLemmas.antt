-- What holds of every expression: its height, its level, and what its spelling begins with.
use Rattle.std.proofs.Common.{◌≡◌, ℕ, ◌<◌, ◌≤◌, Bool, true, false, List, [], ◌∷◌, ◌++◌, Option, Some, refl, sym, ap, subst, ◌∙◌, arith}
use Rattle.lz_tree.specs.declared.token.Token.{Token}
use Rattle.lz_tree.specs.declared.token.TokenKind.{TokenKind}
use Rattle.lz_tree.specs.declared.token.TokenKind.TheVariants as kinds
use Rattle.lz_tree.specs.declared.token.Keyword.TheVariants as keys
use Rattle.lz_tree.specs.declared.token.Punct.{Punct}
use Rattle.lz_tree.specs.declared.token.Punct.TheVariants as marks
use Rattle.lz_base.specs.declared.operator.Binary.{Binary}
use Rattle.lz_base.specs.declared.operator.Binary.TheVariants as ops
use Rattle.lz_base.specs.declared.operator.Unary.{Unary}
use Rattle.lz_tree.specs.Languages.{◌⊙◌, showing, From, NameToken, mark_shown, key_shown, name_shown, name_in, constant_shown, constant_in, ConstantToken, text_shown, text_in, meant_by, mark_in}
use Rattle.lz_tree.specs.Spelling.{sign_of, step_of, SpellsExpression, SpellsStep, SpellsIndex}
use Rattle.lz_tree.specs.Trees.{Expression, constant, null, text, object, address, paren, unary, cast, binary, choose, assign, step, call, Index, Expressions, none, and, expressions_of}
use Rattle.lz_tree.specs.Height.{expression_height}
use Rattle.lz_tree.specs.WellFormed.{looseness, level}
use Rattle.lz_expr.specs.declared.opening.Opening.{Opening}
use Rattle.lz_expr.specs.declared.opening.Opening.TheVariants as opening
use Rattle.lz_expr.specs.Grammar.{opening_of, opening_mark}
use Rattle.lz_expr.proofs.RowsLemmas.{heads_one}
use Rattle.lz_expr.proofs.TokensLemmas.{no_text, some_shown, mark_kind_is, key_kind_is}

-- ---- heights and levels

pub tall : (e : Expression) → 0 < expression_height e
tall (object line n i) = omega arith
tall (address line at n i) = omega arith
tall (step line at n i up before) = omega arith
tall _ = omega arith

pub loose_small : (op : Binary) → looseness op ≤ 10
loose_small ops.Mul = omega arith
loose_small ops.Div = omega arith
loose_small ops.Rem = omega arith
loose_small ops.Add = omega arith
loose_small ops.Sub = omega arith
loose_small ops.Shl = omega arith
loose_small ops.Shr = omega arith
loose_small ops.Lt = omega arith
loose_small ops.Gt = omega arith
loose_small ops.Le = omega arith
loose_small ops.Ge = omega arith
loose_small ops.Eq = omega arith
loose_small ops.Ne = omega arith
loose_small ops.BitAnd = omega arith
loose_small ops.BitXor = omega arith
loose_small ops.BitOr = omega arith
loose_small ops.Both = omega arith
loose_small ops.Either = omega arith

pub loose_some : (op : Binary) → 0 < looseness op
loose_some ops.Mul = omega arith
loose_some ops.Div = omega arith
loose_some ops.Rem = omega arith
loose_some ops.Add = omega arith
loose_some ops.Sub = omega arith
loose_some ops.Shl = omega arith
loose_some ops.Shr = omega arith
loose_some ops.Lt = omega arith
loose_some ops.Gt = omega arith
loose_some ops.Le = omega arith
loose_some ops.Ge = omega arith
loose_some ops.Eq = omega arith
loose_some ops.Ne = omega arith
loose_some ops.BitAnd = omega arith
loose_some ops.BitXor = omega arith
loose_some ops.BitOr = omega arith
loose_some ops.Both = omega arith
loose_some ops.Either = omega arith

pub level_small : (e : Expression) → level e ≤ 12
level_small (binary line op l r) = let small = loose_small op in omega arith
level_small (choose line a b c) = omega arith
level_small (assign line op at n i e) = omega arith
level_small _ = omega arith

-- ---- no expression is spelled by nothing

some_step : (before : Bool) (sign target : List Token → Type 0) (u : List Token) → ((v : List Token) → sign v → v ≡ [] → ⊥) → ((v : List Token) → target v → v ≡ [] → ⊥) → SpellsStep before sign target u → u ≡ [] → ⊥
some_step true sign target u s t (a, b, same, m, n) e = no_text a b (sym e ∙ same) (s a m)
some_step false sign target u s t (a, b, same, m, n) e = no_text a b (sym e ∙ same) (t a m)

some_target : (at n : ℕ) (i : Index) (u : List Token) → From at (NameToken n ⊙ SpellsIndex i) u → u ≡ [] → ⊥
some_target at n i u (l, (a, b, same, s, m)) e = no_text a b (sym e ∙ same) (some_shown name_shown n a s)

pub some_text : (e : Expression) (u : List Token) → SpellsExpression e u → u ≡ [] → ⊥
some_text (constant line v f) u (at, s) e = some_shown _ _ u s e
some_text (null line) u s e = some_shown _ _ u s e
some_text (text line) u s e = some_shown _ _ u s e
some_text (object line n i) u s e = some_target line n i u s e
some_text (address line at n i) u (a, b, same, s, m) e = no_text a b (sym e ∙ same) (some_shown _ line a s)
some_text (paren line x) u (a, b, same, s, m) e = no_text a b (sym e ∙ same) (some_shown _ line a s)
some_text (unary line op x) u (at, (a, b, same, s, m)) e = no_text a b (sym e ∙ same) (some_shown _ op a s)
some_text (cast line to x) u (a, b, same, s, m) e = no_text a b (sym e ∙ same) (some_shown _ line a s)
some_text (binary line op l r) u (at, (a, b, same, s, m)) e = no_text a b (sym e ∙ same) (some_text l a s)
some_text (choose line x y z) u (at, (a, b, same, s, m)) e = no_text a b (sym e ∙ same) (some_text x a s)
some_text (assign line op at n i v) u (l, (a, b, same, s, m)) e = no_text a b (sym e ∙ same) (some_target at n i a s)
some_text (step line at n i up before) u (l, s) e =
    some_step before (showing (meant_by step_of) up) (From at (NameToken n ⊙ SpellsIndex i)) u (λ v m. some_shown _ up v m) (λ v m. some_target at n i v m) s e
some_text (call line n args) u (at, (a, b, same, s, m)) e = no_text a b (sym e ∙ same) (some_shown _ n a s)

-- ---- the first token of an expression

-- the token begins an expression
abbrev pub is_opening : Opening → Bool
is_opening opening.Nothing = false
is_opening _ = true

name_opening : (k : TokenKind) (n : ℕ) → name_in k ≡ Some n → opening_of k ≡ opening.Name
name_opening (kinds.Name number) n h = refl
name_opening (kinds.Constant value form) n h = absurd cc
name_opening kinds.Text n h = absurd cc
name_opening (kinds.Keyword word) n h = absurd cc
name_opening (kinds.Punct mark) n h = absurd cc

pub name_opens : (c : Token) (n : ℕ) → name_shown c ≡ Some n → opening_of c.kind ≡ opening.Name
unfolding name_shown
name_opens c n h = name_opening c.kind n h

constant_opening : (k : TokenKind) (x : ConstantToken) → constant_in k ≡ Some x → opening_of k ≡ opening.Leaf
constant_opening (kinds.Constant value form) x h = refl
constant_opening (kinds.Name number) x h = absurd cc
constant_opening kinds.Text x h = absurd cc
constant_opening (kinds.Keyword word) x h = absurd cc
constant_opening (kinds.Punct mark) x h = absurd cc

pub constant_opens : (c : Token) (x : ConstantToken) → constant_shown c ≡ Some x → opening_of c.kind ≡ opening.Leaf
unfolding constant_shown
constant_opens c x h = constant_opening c.kind x h

text_opening : (k : TokenKind) (l x : ℕ) → text_in k l ≡ Some x → opening_of k ≡ opening.Leaf
text_opening kinds.Text l x h = refl
text_opening (kinds.Constant value form) l x h = absurd cc
text_opening (kinds.Name number) l x h = absurd cc
text_opening (kinds.Keyword word) l x h = absurd cc
text_opening (kinds.Punct mark) l x h = absurd cc

pub text_opens : (c : Token) (x : ℕ) → text_shown c ≡ Some x → opening_of c.kind ≡ opening.Leaf
unfolding text_shown
text_opens c x h = text_opening c.kind c.line x h

pub null_opens : (c : Token) (x : ℕ) → key_shown keys.Null c ≡ Some x → opening_of c.kind ≡ opening.Leaf
null_opens c x h = ap opening_of (key_kind_is keys.Null c x h)

pub mark_opens : (p : Punct) (c : Token) (x : ℕ) → mark_shown p c ≡ Some x → opening_of c.kind ≡ opening_mark p
mark_opens p c x h = ap opening_of (mark_kind_is p c x h)

sign_marks : (m : Punct) (op : Unary) → sign_of m ≡ Some op → opening_mark m ≡ opening.Sign
sign_marks marks.Plus op h = refl
sign_marks marks.Minus op h = refl
sign_marks marks.Tilde op h = refl
sign_marks marks.Not op h = refl
sign_marks _ op h = absurd cc

step_marks : (m : Punct) (up : Bool) → step_of m ≡ Some up → opening_mark m ≡ opening.Step
step_marks marks.Increment up h = refl
step_marks marks.Decrement up h = refl
step_marks _ up h = absurd cc

meant_opening : {A : Type 0} (f : Punct → Option A) (o : Opening) → ((m : Punct) (x : A) → f m ≡ Some x → opening_mark m ≡ o) → (k : TokenKind) (x : A) → mark_in f k ≡ Some x → opening_of k ≡ o
meant_opening f o t (kinds.Punct m) x h = t m x h
meant_opening f o t (kinds.Name number) x h = absurd cc
meant_opening f o t (kinds.Constant value form) x h = absurd cc
meant_opening f o t kinds.Text x h = absurd cc
meant_opening f o t (kinds.Keyword word) x h = absurd cc

pub sign_opens : (c : Token) (op : Unary) → meant_by sign_of c ≡ Some op → opening_of c.kind ≡ opening.Sign
unfolding meant_by
sign_opens c op h = meant_opening sign_of opening.Sign sign_marks c.kind op h

pub step_opens : (c : Token) (up : Bool) → meant_by step_of c ≡ Some up → opening_of c.kind ≡ opening.Step
unfolding meant_by
step_opens c up h = meant_opening step_of opening.Step step_marks c.kind up h

-- a text whose first part is not empty begins as that part does
pub first_part : {A B : List Token → Type 0} (Q : Token → Type 0) (c : Token) (u : List Token) → (A ⊙ B) (c ∷ u) → ((v : List Token) → A v → v ≡ [] → ⊥) → ((v : List Token) → A (c ∷ v) → Q c) → Q c
first_part {A = A} Q c u (v, w, same, m, n) some heads = go v same m
  where
    go : (v : List Token) → c ∷ u ≡ v ++ w → A v → Q c
    go [] same m = absurd (some [] m refl)
    go (d ∷ v) same m = let is : d ≡ c = cc in let P : Token → Type 0 = λ x. A (x ∷ v) in heads v (subst P is m)

abbrev Opens : Token → Type 0
Opens c = is_opening (opening_of c.kind) ≡ true

opens_as : (c : Token) (o : Opening) → opening_of c.kind ≡ o → is_opening o ≡ true → Opens c
opens_as c o e h = ap is_opening e ∙ h

pub target_heads : (at n : ℕ) (i : Index) (c : Token) (u : List Token) → From at (NameToken n ⊙ SpellsIndex i) (c ∷ u) → opening_of c.kind ≡ opening.Name
target_heads at n i c u (l, m) = first_part (λ d. opening_of d.kind ≡ opening.Name) c u m (λ v s. some_shown name_shown n v s) (λ v s. name_opens c n (heads_one name_shown n c v s))

step_heads : (before : Bool) (at n : ℕ) (i : Index) (up : Bool) (c : Token) (u : List Token) → SpellsStep before (showing (meant_by step_of) up) (From at (NameToken n ⊙ SpellsIndex i)) (c ∷ u) → Opens c
step_heads true at n i up c u m = first_part Opens c u m (λ v s. some_shown _ up v s) (λ v s. opens_as c opening.Step (step_opens c up (heads_one _ up c v s)) refl)
step_heads false at n i up c u m = first_part Opens c u m (λ v s. some_target at n i v s) (λ v s. opens_as c opening.Name (target_heads at n i c v s) refl)

-- each expression begins with a token that opens one
pub heads : (e : Expression) (c : Token) (u : List Token) → SpellsExpression e (c ∷ u) → is_opening (opening_of c.kind) ≡ true
heads (constant line v f) c u (at, s) = opens_as c opening.Leaf (constant_opens c _ (heads_one _ _ c u s)) refl
heads (null line) c u s = opens_as c opening.Leaf (null_opens c line (heads_one _ line c u s)) refl
heads (text line) c u s = opens_as c opening.Leaf (text_opens c line (heads_one _ line c u s)) refl
heads (object line n i) c u s = opens_as c opening.Name (target_heads line n i c u s) refl
heads (address line at n i) c u s = first_part Opens c u s (λ v m. some_shown _ line v m) (λ v m. opens_as c opening.Address (mark_opens marks.And c line (heads_one _ line c v m)) refl)
heads (paren line x) c u s = first_part Opens c u s (λ v m. some_shown _ line v m) (λ v m. opens_as c opening.Paren (mark_opens marks.OpenParen c line (heads_one _ line c v m)) refl)
heads (unary line op x) c u (at, s) = first_part Opens c u s (λ v m. some_shown _ op v m) (λ v m. opens_as c opening.Sign (sign_opens c op (heads_one _ op c v m)) refl)
heads (cast line to x) c u s = first_part Opens c u s (λ v m. some_shown _ line v m) (λ v m. opens_as c opening.Paren (mark_opens marks.OpenParen c line (heads_one _ line c v m)) refl)
heads (binary line op l r) c u (at, s) = first_part Opens c u s (λ v m. some_text l v m) (λ v m. heads l c v m)
heads (choose line x y z) c u (at, s) = first_part Opens c u s (λ v m. some_text x v m) (λ v m. heads x c v m)
heads (assign line op at n i v) c u (l, s) = first_part Opens c u s (λ v m. some_target at n i v m) (λ v m. opens_as c opening.Name (target_heads at n i c v m) refl)
heads (step line at n i up before) c u (l, s) = step_heads before at n i up c u s
heads (call line n args) c u (at, s) = first_part Opens c u s (λ v m. some_shown name_shown n v m) (λ v m. opens_as c opening.Name (name_opens c n (heads_one name_shown n c v m)) refl)

-- ---- lists of expressions

pub expressions_list : Expressions → List Expression
expressions_list none = []
expressions_list (and e rest) = e ∷ expressions_list rest

pub expressions_back : (es : Expressions) → expressions_of (expressions_list es) ≡ es
unfolding expressions_list
expressions_back none = refl
expressions_back (and e rest) = ap (λ (x : Expressions). and e x) (expressions_back rest)
