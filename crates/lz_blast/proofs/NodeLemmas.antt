-- The circuits of nodes that are no inputs.
use Rattle.std.proofs.Common.{◌≡◌, ℕ, ◌+◌, ◌*◌, ◌<◌, Bool, true, false, not, cond, eqb, List, [], ◌∷◌, ◌++◌, length, get_or, slice_index, refl, sym, ◌∙◌, ap, arith}
use Rattle.std.specs.List.{All}
use Rattle.lz_base.specs.declared.word.IntType.{IntType}
use Rattle.lz_base.specs.declared.operator.Unary.{Unary}
use Rattle.lz_base.specs.declared.operator.Binary.{Binary}
use Rattle.lz_base.specs.Words.{unary_value, binary_value, is_true}
use Rattle.lz_cnf.specs.declared.clause.Lit.{Lit}
use Rattle.lz_gates.specs.Circuits.{Circuit, Assignment, value, Makes}
use Rattle.lz_gates.proofs.ExtendingLemmas.{makes_so, makes_then}
use Rattle.lz_arith.specs.Bits.{word, AreBits}
use Rattle.lz_arith.specs.Sizes.{word_width, unary_variables, unary_clauses, binary_variables, binary_clauses}
use Rattle.lz_ssa.specs.declared.node.Node.TheVariants as nodes
use Rattle.lz_blast.specs.Encoding.{words}
use Rattle.lz_blast.specs.Steps.{Adds}
use Rattle.lz_blast.proofs.EncodingLemmas.{words_at}

-- the number of a word that was lent
at_word : (a : Assignment) (before items : List (List Lit)) (of : ℕ) (held : List Lit) → items ≡ before → of < length before → held ≡ get_or items of held → word a held ≡ slice_index (words a before) of
at_word a before items of held e lt is = ap (word a) (is ∙ ap (λ (xs : List (List Lit)). get_or xs of held) e) ∙ sym (words_at a before of held lt)

-- a word that was lent has as many literals as a word has bits
pub held_long : (circuit : Circuit) {before items : List (List Lit)} {k : ℕ} {held : List Lit} → All (AreBits circuit word_width) before → items ≡ before → k < length before → held ≡ get_or items k held → length held ≡ word_width
held_long circuit {k} {held} all e lt is =
    ap (λ (xs : List Lit). length xs) (is ∙ ap (λ (xs : List (List Lit)). get_or xs k held) e) ∙ (all k held lt).length

-- a constant
pub adds_constant : {circuit : Circuit} {before after : List (List Lit)} (value_ : ℕ) {w : List Lit} → after ≡ before ++ w ∷ [] → AreBits circuit word_width w
    → Makes circuit circuit 0 0 (λ a. word a w ≡ value_) → Adds circuit circuit before after (nodes.Constant value_)
adds_constant {circuit} value_ {w} e bits h = record {
  word_ = w;
  after_is = e;
  bits = bits;
  made = makes_so circuit circuit 0 0 0 0 _ _ h (omega arith) (omega arith) (λ a s p v. p);
}

-- a unary operator
pub adds_unary : {old new : Circuit} {before items after : List (List Lit)} (op : Unary) (kind : IntType) {of : ℕ} {held w : List Lit} → items ≡ before → of < length before → held ≡ get_or items of held
    → after ≡ before ++ w ∷ [] → AreBits new word_width w → Makes old new (unary_variables op) (unary_clauses op) (λ a. word a w ≡ unary_value op (word a held) kind)
    → Adds old new before after (nodes.Unary op kind of)
adds_unary {old} {new} {before} {items} op kind {of} {held} {w} lent lt is e bits h = record {
  word_ = w;
  after_is = e;
  bits = bits;
  made = makes_so old new (unary_variables op) (unary_variables op) (unary_clauses op) (unary_clauses op) _ _ h (omega arith) (omega arith)
      (λ a s p v. p ∙ ap (λ (m : ℕ). unary_value op m kind) (at_word a before items of held lent lt is));
}

-- a binary operator
pub adds_binary : {old new : Circuit} {before items after : List (List Lit)} (op : Binary) (kind : IntType) {left right : ℕ} {first second w : List Lit} → items ≡ before → left < length before → right < length before
    → first ≡ get_or items left first → second ≡ get_or items right second → after ≡ before ++ w ∷ [] → AreBits new word_width w
    → Makes old new (binary_variables op) (binary_clauses op) (λ a. word a w ≡ binary_value op (word a first) (word a second) kind)
    → Adds old new before after (nodes.Binary op kind left right)
adds_binary {old} {new} {before} {items} op kind {left} {right} {first} {second} {w} lent ll lr is_first is_second e bits h = record {
  word_ = w;
  after_is = e;
  bits = bits;
  made = makes_so old new (binary_variables op) (binary_variables op) (binary_clauses op) (binary_clauses op) _ _ h (omega arith) (omega arith)
      (λ a s p v. p ∙ ap (λ (m : ℕ). binary_value op m (word a second) kind) (at_word a before items left first lent ll is_first)
      ∙ ap (λ (m : ℕ). binary_value op (slice_index (words a before) left) m kind) (at_word a before items right second lent lr is_second));
}

-- a conversion
pub adds_convert : {old new : Circuit} {before items after : List (List Lit)} (from to : IntType) {of : ℕ} {held w : List Lit} → items ≡ before → of < length before → held ≡ get_or items of held
    → after ≡ before ++ w ∷ [] → AreBits new word_width w → Makes old new 0 0 (λ a. word a w ≡ word a held)
    → Adds old new before after (nodes.Convert from to of)
adds_convert {old} {new} {before} {items} from to {of} {held} {w} lent lt is e bits h = record {
  word_ = w;
  after_is = e;
  bits = bits;
  made = makes_so old new 0 0 0 0 _ _ h (omega arith) (omega arith) (λ a s p v. p ∙ at_word a before items of held lent lt is);
}

-- a choice
pub adds_choice : {one two three : Circuit} {before items after : List (List Lit)} {test yes_ no_ : ℕ} {tested first second w : List Lit} (chosen : Lit) → items ≡ before
    → test < length before → yes_ < length before → no_ < length before → tested ≡ get_or items test tested → first ≡ get_or items yes_ first → second ≡ get_or items no_ second
    → length tested ≡ word_width → length first ≡ word_width → after ≡ before ++ w ∷ [] → AreBits three word_width w
    → Makes one two 1 (length tested + 1) (λ a. value a chosen ≡ is_true (word a tested))
    → Makes two three (length first) (6 * length first) (λ a. word a w ≡ cond (value a chosen) (word a first) (word a second))
    → Adds one three before after (nodes.Choose test yes_ no_)
adds_choice {one} {two} {three} {before} {items} {test} {yes_} {no_} {tested} {first} {second} {w} chosen lent lt ly ln is_test is_first is_second long long_first e bits h k = record {
  word_ = w;
  after_is = e;
  bits = bits;
  made = makes_so one three (1 + length first) 33 (length tested + 1 + 6 * length first) 225 _ _
      (makes_then one two three 1 (length first) (length tested + 1) (6 * length first) _ _
      (λ a. word a w ≡ cond (eqb (slice_index (words a before) test) 0) (slice_index (words a before) no_) (slice_index (words a before) yes_)) h k
      (λ a p q. q ∙ ap (λ (b : Bool). cond b (word a first) (word a second)) p
      ∙ by (eqb (word a tested) 0) (word a first) (word a second)
      ∙ ap (λ (m : ℕ). cond (eqb m 0) (word a second) (word a first)) (at_word a before items test tested lent lt is_test)
      ∙ ap (λ (m : ℕ). cond (eqb (slice_index (words a before) test) 0) m (word a first)) (at_word a before items no_ second lent ln is_second)
      ∙ ap (λ (m : ℕ). cond (eqb (slice_index (words a before) test) 0) (slice_index (words a before) no_) m) (at_word a before items yes_ first lent ly is_first)))
      (omega arith) (omega arith) (λ a s p v. p);
}
  where
    by : (z : Bool) (x y : ℕ) → cond (not z) x y ≡ cond z y x
    by true x y = refl
    by false x y = refl
