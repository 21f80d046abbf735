-- Each rule: a word that it rests on, and that the node folds to what it says.
use Rattle.std.proofs.Common.{◌≡◌, ℕ, ◌+◌, ◌-◌, ◌*◌, ◌%◌, ◌<◌, ◌≤◌, ◌⊎◌, inl, inr, Bool, true, false, not, ◌&&◌, cond, List, Option, Some, eqb, refl, sym, ◌∙◌, ap, subst, arith, ℤ, pos, negsuc}
use Rattle.std.specs.Prelude.{slice_index, int_lt, bit_and, bit_or, bit_xor}
use Rattle.std.specs.Int.Bits.{and_zero_l, and_zero_r, and_self, and_mask, and_comm, or_self, or_zero_l, or_zero_r, xor_self, xor_zero_l, xor_zero_r}
use Rattle.std.proofs.lemmas.Bool.{le-ltb, eq-eqb}
use Rattle.lz_base.specs.declared.operator.Unary.{Unary}
use Rattle.lz_base.specs.declared.operator.Unary.TheVariants.{Plus, Minus, Invert, Not}
use Rattle.lz_base.specs.declared.operator.Binary.{Binary}
use Rattle.lz_base.specs.declared.operator.Binary.TheVariants.{Mul, Div, Rem, Add, Sub, Shl, Shr, Lt, Gt, Le, Ge, Eq, Ne, BitAnd, BitXor, BitOr, Both, Either}
use Rattle.lz_base.specs.declared.word.IntType.{IntType}
use Rattle.lz_base.specs.Words.{value_bound, signed, is_true, truth, unary_value, binary_value}
use Rattle.lz_flat.specs.Weight.{unary_number, binary_number}
use Rattle.lz_ssa.specs.declared.node.Node.{Node}
use Rattle.lz_ssa.specs.declared.node.Node.TheVariants as nodes
use Rattle.lz_fold.specs.declared.rules.Folded.{Folded}
use Rattle.lz_fold.specs.declared.rules.Folded.TheVariants.{Same, New}
use Rattle.lz_fold.specs.Tables.{right_unit, left_unit, absorbs, of_equals, keeps_equals}
use Rattle.lz_fold.specs.Folding.{Words, IsKnown, IsWordIfKnown, Knows, KnowsBoth, FoldsTo}

-- ---- words

mod_small : (a : ℕ) → a < value_bound → a % value_bound ≡ a
mod_small a lt = omega (arith, lt)

and_ones_r : (a : ℕ) → a < value_bound → bit_and a 4294967295 ≡ a
and_ones_r a lt = and_mask a 32 ∙ mod_small a lt

lt_self : (z : ℤ) → int_lt z z ≡ false
lt_self (pos n) = le-ltb n n (omega arith)
lt_self (negsuc n) = le-ltb n n (omega arith)

some_value : {u v : ℕ} → Some u ≡ Some v → u ≡ v
some_value e = cc

-- the right operand leaves the left one as it is
pub right_unit_law : (op : Binary) (t : IntType) (a u : ℕ) → right_unit op ≡ Some u → a < value_bound → binary_value op a u t ≡ a
right_unit_law Mul t a u e lt = ap (λ (x : ℕ). (a * x) % value_bound) (sym (some_value e)) ∙ (let z : (a * 1) % value_bound ≡ a = omega (arith, lt) in z)
right_unit_law Div t a u e lt = absurd cc
right_unit_law Rem t a u e lt = absurd cc
right_unit_law Add t a u e lt = ap (λ (x : ℕ). (a + x) % value_bound) (sym (some_value e)) ∙ (let z : (a + 0) % value_bound ≡ a = omega (arith, lt) in z)
right_unit_law Sub t a u e lt = ap (λ (x : ℕ). (a + (value_bound - x)) % value_bound) (sym (some_value e)) ∙ (let z : (a + (value_bound - 0)) % value_bound ≡ a = omega (arith, lt) in z)
right_unit_law Shl t a u e lt = ap (λ (x : ℕ). binary_value Shl a x t) (sym (some_value e)) ∙ (let z : (a * 1) % value_bound ≡ a = omega (arith, lt) in z)
right_unit_law Shr t a u e lt = absurd cc
right_unit_law Lt t a u e lt = absurd cc
right_unit_law Gt t a u e lt = absurd cc
right_unit_law Le t a u e lt = absurd cc
right_unit_law Ge t a u e lt = absurd cc
right_unit_law Eq t a u e lt = absurd cc
right_unit_law Ne t a u e lt = absurd cc
right_unit_law BitAnd t a u e lt = ap (λ (x : ℕ). bit_and a x) (sym (some_value e)) ∙ and_ones_r a lt
right_unit_law BitXor t a u e lt = ap (λ (x : ℕ). bit_xor a x) (sym (some_value e)) ∙ xor_zero_r a
right_unit_law BitOr t a u e lt = ap (λ (x : ℕ). bit_or a x) (sym (some_value e)) ∙ or_zero_r a
right_unit_law Both t a u e lt = absurd cc
right_unit_law Either t a u e lt = absurd cc

-- the left operand leaves the right one as it is
pub left_unit_law : (op : Binary) (t : IntType) (u b : ℕ) → left_unit op ≡ Some u → b < value_bound → binary_value op u b t ≡ b
left_unit_law Mul t u b e lt = ap (λ (x : ℕ). (x * b) % value_bound) (sym (some_value e)) ∙ (let z : (1 * b) % value_bound ≡ b = omega (arith, lt) in z)
left_unit_law Div t u b e lt = absurd cc
left_unit_law Rem t u b e lt = absurd cc
left_unit_law Add t u b e lt = ap (λ (x : ℕ). (x + b) % value_bound) (sym (some_value e)) ∙ (let z : (0 + b) % value_bound ≡ b = omega (arith, lt) in z)
left_unit_law Sub t u b e lt = absurd cc
left_unit_law Shl t u b e lt = absurd cc
left_unit_law Shr t u b e lt = absurd cc
left_unit_law Lt t u b e lt = absurd cc
left_unit_law Gt t u b e lt = absurd cc
left_unit_law Le t u b e lt = absurd cc
left_unit_law Ge t u b e lt = absurd cc
left_unit_law Eq t u b e lt = absurd cc
left_unit_law Ne t u b e lt = absurd cc
left_unit_law BitAnd t u b e lt = ap (λ (x : ℕ). bit_and x b) (sym (some_value e)) ∙ and_comm 4294967295 b ∙ and_ones_r b lt
left_unit_law BitXor t u b e lt = ap (λ (x : ℕ). bit_xor x b) (sym (some_value e)) ∙ xor_zero_l b
left_unit_law BitOr t u b e lt = ap (λ (x : ℕ). bit_or x b) (sym (some_value e)) ∙ or_zero_l b
left_unit_law Both t u b e lt = absurd cc
left_unit_law Either t u b e lt = absurd cc

-- an operand of 0 makes it 0
pub absorbs_left : (op : Binary) (t : IntType) (b : ℕ) → absorbs op ≡ true → binary_value op 0 b t ≡ 0
absorbs_left Mul t b e = let z : (0 * b) % value_bound ≡ 0 = omega arith in z
absorbs_left BitAnd t b e = and_zero_l b
absorbs_left Both t b e = refl
absorbs_left Div t b e = absurd cc
absorbs_left Rem t b e = absurd cc
absorbs_left Add t b e = absurd cc
absorbs_left Sub t b e = absurd cc
absorbs_left Shl t b e = absurd cc
absorbs_left Shr t b e = absurd cc
absorbs_left Lt t b e = absurd cc
absorbs_left Gt t b e = absurd cc
absorbs_left Le t b e = absurd cc
absorbs_left Ge t b e = absurd cc
absorbs_left Eq t b e = absurd cc
absorbs_left Ne t b e = absurd cc
absorbs_left BitXor t b e = absurd cc
absorbs_left BitOr t b e = absurd cc
absorbs_left Either t b e = absurd cc

both_false : (c : Bool) → truth (c && false) ≡ 0
both_false true = refl
both_false false = refl

pub absorbs_right : (op : Binary) (t : IntType) (a : ℕ) → absorbs op ≡ true → binary_value op a 0 t ≡ 0
absorbs_right Mul t a e = let z : (a * 0) % value_bound ≡ 0 = omega arith in z
absorbs_right BitAnd t a e = and_zero_r a
absorbs_right Both t a e = both_false (is_true a)
absorbs_right Div t a e = absurd cc
absorbs_right Rem t a e = absurd cc
absorbs_right Add t a e = absurd cc
absorbs_right Sub t a e = absurd cc
absorbs_right Shl t a e = absurd cc
absorbs_right Shr t a e = absurd cc
absorbs_right Lt t a e = absurd cc
absorbs_right Gt t a e = absurd cc
absorbs_right Le t a e = absurd cc
absorbs_right Ge t a e = absurd cc
absorbs_right Eq t a e = absurd cc
absorbs_right Ne t a e = absurd cc
absorbs_right BitXor t a e = absurd cc
absorbs_right BitOr t a e = absurd cc
absorbs_right Either t a e = absurd cc

-- two equal operands
truth_of : (b : Bool) (n : ℕ) → truth b ≡ n → (c : Bool) → c ≡ b → truth c ≡ n
truth_of b n e c same = ap truth same ∙ e

pub of_equals_law : (op : Binary) (t : IntType) (a v : ℕ) → of_equals op ≡ Some v → a < value_bound → v ≡ binary_value op a a t
of_equals_law Sub t a v e lt = sym (some_value e) ∙ (let z : 0 ≡ (a + (value_bound - a)) % value_bound = omega (arith, lt) in z)
of_equals_law Lt t a v e lt = sym (some_value e) ∙ sym (ap truth (lt_self (signed t a)))
of_equals_law Gt t a v e lt = sym (some_value e) ∙ sym (ap truth (lt_self (signed t a)))
of_equals_law Le t a v e lt = sym (some_value e) ∙ sym (ap (λ (b : Bool). truth (not b)) (lt_self (signed t a)))
of_equals_law Ge t a v e lt = sym (some_value e) ∙ sym (ap (λ (b : Bool). truth (not b)) (lt_self (signed t a)))
of_equals_law Eq t a v e lt = sym (some_value e) ∙ sym (ap truth (eq-eqb a a refl))
of_equals_law Ne t a v e lt = sym (some_value e) ∙ sym (ap (λ (b : Bool). truth (not b)) (eq-eqb a a refl))
of_equals_law BitXor t a v e lt = sym (some_value e) ∙ sym (xor_self a)
of_equals_law Mul t a v e lt = absurd cc
of_equals_law Div t a v e lt = absurd cc
of_equals_law Rem t a v e lt = absurd cc
of_equals_law Add t a v e lt = absurd cc
of_equals_law Shl t a v e lt = absurd cc
of_equals_law Shr t a v e lt = absurd cc
of_equals_law BitAnd t a v e lt = absurd cc
of_equals_law BitOr t a v e lt = absurd cc
of_equals_law Both t a v e lt = absurd cc
of_equals_law Either t a v e lt = absurd cc

-- what it comes to is a word
of_equals_word : (op : Binary) (v : ℕ) → of_equals op ≡ Some v → v < value_bound
of_equals_word op v e = let z = of_equals_small op in subst (λ (o : Option ℕ). IsWordIfKnown o) e z
  where
    of_equals_small : (op : Binary) → IsWordIfKnown (of_equals op)
    of_equals_small Mul = tt
    of_equals_small Div = tt
    of_equals_small Rem = tt
    of_equals_small Add = tt
    of_equals_small Sub = omega arith
    of_equals_small Shl = tt
    of_equals_small Shr = tt
    of_equals_small Lt = omega arith
    of_equals_small Gt = omega arith
    of_equals_small Le = omega arith
    of_equals_small Ge = omega arith
    of_equals_small Eq = omega arith
    of_equals_small Ne = omega arith
    of_equals_small BitAnd = tt
    of_equals_small BitXor = omega arith
    of_equals_small BitOr = tt
    of_equals_small Both = tt
    of_equals_small Either = tt

pub keeps_equals_law : (op : Binary) (t : IntType) (a : ℕ) → keeps_equals op ≡ true → a ≡ binary_value op a a t
keeps_equals_law BitAnd t a e = sym (and_self a)
keeps_equals_law BitOr t a e = sym (or_self a)
keeps_equals_law Mul t a e = absurd cc
keeps_equals_law Div t a e = absurd cc
keeps_equals_law Rem t a e = absurd cc
keeps_equals_law Add t a e = absurd cc
keeps_equals_law Sub t a e = absurd cc
keeps_equals_law Shl t a e = absurd cc
keeps_equals_law Shr t a e = absurd cc
keeps_equals_law Lt t a e = absurd cc
keeps_equals_law Gt t a e = absurd cc
keeps_equals_law Le t a e = absurd cc
keeps_equals_law Ge t a e = absurd cc
keeps_equals_law Eq t a e = absurd cc
keeps_equals_law Ne t a e = absurd cc
keeps_equals_law BitXor t a e = absurd cc
keeps_equals_law Both t a e = absurd cc
keeps_equals_law Either t a e = absurd cc

-- ---- a constant weighs no more than an operator

pub unary_heavy : (op : Unary) → 2 ≤ unary_number op
unary_heavy Plus = omega arith
unary_heavy Minus = omega arith
unary_heavy Invert = omega arith
unary_heavy Not = omega arith

pub binary_heavy : (op : Binary) → 2 ≤ binary_number op
binary_heavy Mul = omega arith
binary_heavy Div = omega arith
binary_heavy Rem = omega arith
binary_heavy Add = omega arith
binary_heavy Sub = omega arith
binary_heavy Shl = omega arith
binary_heavy Shr = omega arith
binary_heavy Lt = omega arith
binary_heavy Gt = omega arith
binary_heavy Le = omega arith
binary_heavy Ge = omega arith
binary_heavy Eq = omega arith
binary_heavy Ne = omega arith
binary_heavy BitAnd = omega arith
binary_heavy BitXor = omega arith
binary_heavy BitOr = omega arith
binary_heavy Both = omega arith
binary_heavy Either = omega arith

-- ---- rules

-- a node may stay as it is
pub stays_itself : (node : Node) (facts : List ℕ → Type 0) → FoldsTo node facts (New node)
stays_itself node facts = record { same = λ input words are holds. refl; formed = λ inputs before is. is; lighter = omega arith }

-- with fewer facts
pub with_facts : (node : Node) (facts more : List ℕ → Type 0) (folded : Folded) → ((words : List ℕ) → more words → facts words) → FoldsTo node facts folded → FoldsTo node more folded
with_facts node facts more folded f folds = record { same = λ input words are holds. folds.same input words are (f words holds); formed = folds.formed; lighter = folds.lighter }

module _ (op : Binary) (kind : IntType) (left right : ℕ) (facts : List ℕ → Type 0) where
  pub binary_constant : (v : ℕ) → v < value_bound → ((words : List ℕ) → Words words → facts words → v ≡ binary_value op (slice_index words left) (slice_index words right) kind) → FoldsTo (nodes.Binary op kind left right) facts (New (nodes.Constant v))
  binary_constant v small e = record { same = λ input words are holds. e words are holds; formed = λ inputs before is. small; lighter = binary_heavy op }

  pub binary_left : ((words : List ℕ) → Words words → facts words → slice_index words left ≡ binary_value op (slice_index words left) (slice_index words right) kind) → FoldsTo (nodes.Binary op kind left right) facts (Same left)
  binary_left e = record { same = λ input words are holds. e words are holds; formed = λ inputs before is. is.0; lighter = omega arith }

  pub binary_right : ((words : List ℕ) → Words words → facts words → slice_index words right ≡ binary_value op (slice_index words left) (slice_index words right) kind) → FoldsTo (nodes.Binary op kind left right) facts (Same right)
  binary_right e = record { same = λ input words are holds. e words are holds; formed = λ inputs before is. is.1; lighter = omega arith }

module _ (op : Binary) (kind : IntType) (left right : ℕ) (a b : Option ℕ) where
  pub folds_known : (v : ℕ) → v < value_bound → ((x y : ℕ) → IsKnown a x → IsKnown b y → v ≡ binary_value op x y kind) → FoldsTo (nodes.Binary op kind left right) (KnowsBoth left a right b) (New (nodes.Constant v))
  folds_known v small e = binary_constant op kind left right (KnowsBoth left a right b) v small (λ words are holds. e (slice_index words left) (slice_index words right) holds.0 holds.1)

  pub folds_right_unit : ((x : ℕ) → IsKnown b x → right_unit op ≡ Some x) → FoldsTo (nodes.Binary op kind left right) (KnowsBoth left a right b) (Same left)
  folds_right_unit e = binary_left op kind left right (KnowsBoth left a right b)
      (λ words are holds. sym (right_unit_law op kind (slice_index words left) (slice_index words right) (e (slice_index words right) holds.1) (are left)))

  pub folds_left_unit : ((x : ℕ) → IsKnown a x → left_unit op ≡ Some x) → FoldsTo (nodes.Binary op kind left right) (KnowsBoth left a right b) (Same right)
  folds_left_unit e = binary_right op kind left right (KnowsBoth left a right b)
      (λ words are holds. sym (left_unit_law op kind (slice_index words left) (slice_index words right) (e (slice_index words left) holds.0) (are right)))

  pub folds_absorbed : ((t : IntType) (x y : ℕ) → IsKnown a x → IsKnown b y → binary_value op x y t ≡ 0) → FoldsTo (nodes.Binary op kind left right) (KnowsBoth left a right b) (New (nodes.Constant 0))
  folds_absorbed e = binary_constant op kind left right (KnowsBoth left a right b) 0 (omega arith) (λ words are holds. sym (e kind (slice_index words left) (slice_index words right) holds.0 holds.1))

pub folds_of_equals : (op : Binary) (kind : IntType) (left right v : ℕ) → left ≡ right → of_equals op ≡ Some v → FoldsTo (nodes.Binary op kind left right) (λ words. Unit) (New (nodes.Constant v))
folds_of_equals op kind left right v same e = binary_constant op kind left right (λ words. Unit) v (of_equals_word op v e)
    (λ words are holds. of_equals_law op kind (slice_index words left) v e (are left) ∙ ap (λ (k : ℕ). binary_value op (slice_index words left) (slice_index words k) kind) same)

pub folds_keeps_equals : (op : Binary) (kind : IntType) (left right : ℕ) → left ≡ right → keeps_equals op ≡ true → FoldsTo (nodes.Binary op kind left right) (λ words. Unit) (Same left)
folds_keeps_equals op kind left right same e = binary_left op kind left right (λ words. Unit)
    (λ words are holds. keeps_equals_law op kind (slice_index words left) e ∙ ap (λ (k : ℕ). binary_value op (slice_index words left) (slice_index words k) kind) same)

pub absorbed : (op : Binary) (a b : Option ℕ) → absorbs op ≡ true → (((x : ℕ) → IsKnown a x → Some 0 ≡ Some x) ⊎ ((x : ℕ) → IsKnown b x → Some 0 ≡ Some x)) → (t : IntType) (x y : ℕ) → IsKnown a x → IsKnown b y → binary_value op x y t ≡ 0
absorbed op a b e (inl zero_a) t x y ka kb = ap (λ (z : ℕ). binary_value op z y t) (sym (some_value (zero_a x ka))) ∙ absorbs_left op t y e
absorbed op a b e (inr zero_b) t x y ka kb = ap (λ (z : ℕ). binary_value op x z t) (sym (some_value (zero_b y kb))) ∙ absorbs_right op t x e

-- unary operators and choices
pub unary_known : (op : Unary) (kind : IntType) (of x v : ℕ) (a : Option ℕ) → a ≡ Some x → v ≡ unary_value op x kind → v < value_bound → FoldsTo (nodes.Unary op kind of) (Knows of a) (New (nodes.Constant v))
unary_known op kind of x v a e is small = record {
  same = λ input words are holds. is ∙ ap (λ (w : ℕ). unary_value op w kind) (sym (subst (λ (o : Option ℕ). IsKnown o (slice_index words of)) e holds));
  formed = λ inputs before named. small;
  lighter = unary_heavy op;
}

pub unary_plus : (kind : IntType) (of : ℕ) (facts : List ℕ → Type 0) → FoldsTo (nodes.Unary Plus kind of) facts (Same of)
unary_plus kind of facts = record { same = λ input words are holds. refl; formed = λ inputs before is. is; lighter = omega arith }

pub choice_same : (test chosen other : ℕ) (facts : List ℕ → Type 0) → chosen ≡ other → FoldsTo (nodes.Choose test chosen other) facts (Same chosen)
choice_same test chosen other facts same = record {
  same = λ input words are holds. by (eqb (slice_index words test) 0) (slice_index words chosen) (slice_index words other) (ap (λ (k : ℕ). slice_index words k) same);
  formed = λ inputs before is. is.1;
  lighter = omega arith;
}
  where
    by : (b : Bool) (x y : ℕ) → x ≡ y → x ≡ cond b y x
    by true x y e = e
    by false x y e = refl

pub choice_other : (test chosen other : ℕ) (a : Option ℕ) → a ≡ Some 0 → FoldsTo (nodes.Choose test chosen other) (Knows test a) (Same other)
choice_other test chosen other a e = record {
  same = λ input words are holds. sym (ap (λ (w : ℕ). cond (eqb w 0) (slice_index words other) (slice_index words chosen)) (subst (λ (o : Option ℕ). IsKnown o (slice_index words test)) e holds));
  formed = λ inputs before is. is.2;
  lighter = omega arith;
}

pub choice_chosen : (test chosen other x : ℕ) (a : Option ℕ) → a ≡ Some x → eqb x 0 ≡ false → FoldsTo (nodes.Choose test chosen other) (Knows test a) (Same chosen)
choice_chosen test chosen other x a e n = record {
  same = λ input words are holds. sym (ap (λ (w : ℕ). cond (eqb w 0) (slice_index words other) (slice_index words chosen)) (subst (λ (o : Option ℕ). IsKnown o (slice_index words test)) e holds)
      ∙ ap (λ (b : Bool). cond b (slice_index words other) (slice_index words chosen)) n);
  formed = λ inputs before is. is.1;
  lighter = omega arith;
}
