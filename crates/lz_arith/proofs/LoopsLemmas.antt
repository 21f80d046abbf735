-- Loops that push one literal a turn.
use Rattle.std.proofs.Common.{◌≡◌, ℕ, ◌+◌, ◌*◌, ◌^◌, ◌<◌, ◌≤◌, Bool, true, false, ◌&&◌, cond, ltb, List, [], ◌∷◌, ◌++◌, length, get_or, take, refl, ◌∙◌, ap, subst, arith}
use Rattle.std.proofs.lemmas.List.{length_push, length-take-le, take_all}
use Rattle.std.proofs.lemmas.List.Elements.{All-push}
use Rattle.std.proofs.lemmas.Bool.Decides.{nat_tests}
use Rattle.lz_cnf.specs.declared.clause.Lit.{Lit}
use Rattle.lz_gates.specs.Circuits.{Circuit, Assignment, value, IsLit, AreLits, Satisfies, Makes, xor, choice}
use Rattle.lz_gates.proofs.ExtendingLemmas.{makes_then, makes_so, makes_same}
use Rattle.lz_arith.specs.Bits.{bit, word, AreBits}
use Rattle.lz_arith.proofs.WordsLemmas.{word_push, word_take, word_lt}
use Rattle.lz_arith.proofs.AddLemmas.{are_lits_more}

-- what a loop that pushes one literal a turn keeps
pub record Grows (start now : Circuit) (left right : List Lit) (test : Lit) (i : ℕ) (bits : List Lit) (variables clauses : ℕ) (Says : Assignment → Type 0) : Type 0 where
  pub lefts : AreLits now left
  pub rights : AreLits now right
  pub test_in : IsLit now test
  pub bits_in : AreBits now i bits
  pub made : Makes start now variables clauses Says

-- nothing grown
pub grows_none : (start : Circuit) (left right : List Lit) (test : Lit) (Says : Assignment → Type 0) → AreLits start left → AreLits start right → IsLit start test → ((a : Assignment) → Says a) → Grows start start left right test 0 [] 0 0 Says
grows_none start left right test Says hl hr h says = record {
  lefts = hl;
  rights = hr;
  test_in = h;
  bits_in = record { length = refl; lits = λ k d lt. absurd (omega arith) };
  made = makes_same start Says (λ a s. says a);
}

-- one more literal
pub grows_more : (start now next : Circuit) (left right : List Lit) (test lit : Lit) (i : ℕ) (bits : List Lit) (v w x c d e : ℕ) (P Q R : Assignment → Type 0)
    → Grows start now left right test i bits v c P → Makes now next w d Q → IsLit next lit → v + w ≤ x → c + d ≤ e → ((a : Assignment) → P a → Q a → R a)
    → Grows start next left right test (i + 1) (bits ++ lit ∷ []) x e R
grows_more start now next left right test lit i bits v w x c d e P Q R h made lit_in le lf both = record {
  lefts = are_lits_more now next left made.extends.more h.lefts;
  rights = are_lits_more now next right made.extends.more h.rights;
  test_in = let p = made.extends.more in let q = h.test_in in omega arith;
  bits_in = record {
    length = length_push bits lit ∙ ap (λ (n : ℕ). n + 1) h.bits_in.length;
    lits = All-push (IsLit next) bits lit (are_lits_more now next bits made.extends.more h.bits_in.lits) lit_in;
  };
  made = makes_so start next (v + w) x (c + d) e R R (makes_then start now next v w c d P Q R h.made made both) le lf (λ a s p. p);
}

-- a word and one more bit
pub push_at : (a : Assignment) (bits : List Lit) (lit : Lit) (i : ℕ) → length bits ≡ i → word a (bits ++ lit ∷ []) ≡ word a bits + 2 ^ i * bit (value a lit)
push_at a bits lit i e = word_push a bits lit ∙ ap (λ (n : ℕ). word a bits + 2 ^ n * bit (value a lit)) e

-- ---- a choice

-- the bits so far are those of the chosen word
abbrev pub Chosen : Lit → List Lit → List Lit → List Lit → ℕ → Assignment → Type 0
Chosen test left right bits i a = word a bits ≡ cond (value a test) (word a (take i left)) (word a (take i right))

-- one more bit of a choice
choice_step : (t x y z : Bool) (w l r p : ℕ) → w ≡ cond t l r → z ≡ choice t x y → w + p * bit z ≡ cond t (l + p * bit x) (r + p * bit y)
choice_step true x y z w l r p e f = rw (e, f) refl
choice_step false x y z w l r p e f = rw (e, f) refl

-- a choice between 0 and 0 is 0
cond_same : (t : Bool) → ◌≡◌ {A = ℕ} 0 (cond t 0 0)
cond_same true = refl
cond_same false = refl

-- before the first bit nothing is chosen
pub chooses_none : {start : Circuit} {left right : List Lit} {test : Lit} → AreLits start left → AreLits start right → IsLit start test → Grows start start left right test 0 [] 0 (6 * 0) (Chosen test left right [] 0)
unfolding word
chooses_none {start} {left} {right} {test} hl hr h = grows_none start left right test (Chosen test left right [] 0) hl hr h (λ a. cond_same (value a test))

-- one more choice is one more bit
pub chooses_more : {start now next : Circuit} {left right : List Lit} {test : Lit} (lit : Lit) {i : ℕ} {bits : List Lit} (d e : Lit)
    → Grows start now left right test i bits i (6 * i) (Chosen test left right bits i) → i < length left → i < length right → IsLit next lit
    → Makes now next 1 6 (λ a. value a lit ≡ choice (value a test) (value a (get_or left i d)) (value a (get_or right i e)))
    → Grows start next left right test (i + 1) (bits ++ lit ∷ []) (i + 1) (6 * (i + 1)) (Chosen test left right (bits ++ lit ∷ []) (i + 1))
chooses_more {start} {now} {next} {left} {right} {test} lit {i} {bits} d e h lt ltr lit_in made =
    grows_more start now next left right test lit i bits i 1 (i + 1) (6 * i) 6 (6 * (i + 1)) _ _ (Chosen test left right (bits ++ lit ∷ []) (i + 1)) h made lit_in (omega arith) (omega arith)
    (λ a p q. rw (push_at a bits lit i h.bits_in.length, word_take a left i d lt, word_take a right i e ltr)
    (choice_step (value a test) _ _ (value a lit) (word a bits) (word a (take i left)) (word a (take i right)) (2 ^ i) p q))

-- after all bits the word is chosen
pub chooses_all : {start now : Circuit} {left right : List Lit} {test : Lit} {i : ℕ} {bits : List Lit}
    → Grows start now left right test i bits i (6 * i) (Chosen test left right bits i) → i ≡ length left → i ≡ length right
    → Makes start now (length left) (6 * length left) (λ a. word a bits ≡ cond (value a test) (word a left) (word a right))
chooses_all {start} {now} {left} {right} {test} {i} h e f =
    makes_so start now i (length left) (6 * i) (6 * length left) _ _ h.made (omega arith) (omega arith)
    (λ a s p. p ∙ ap (λ (xs : List Lit). cond (value a test) (word a xs) (word a (take i right))) (take_all i left (omega arith)) ∙ ap (λ (xs : List Lit). cond (value a test) (word a left) (word a xs)) (take_all i right (omega arith)))

-- ---- a mask

-- the bits so far are those of the word where the test is true, and 0 else
abbrev pub Masked : Lit → List Lit → List Lit → ℕ → Assignment → Type 0
Masked test left bits i a = word a bits ≡ bit (value a test) * word a (take i left)

-- one more bit under a mask
mask_step : (t x z : Bool) (w l p : ℕ) → w ≡ bit t * l → z ≡ (t && x) → w + p * bit z ≡ bit t * (l + p * bit x)
mask_step true x z w l p e f = rw (e, f) (omega arith)
mask_step false x z w l p e f = rw (e, f) (omega arith)

-- before the first bit nothing is masked
pub masks_none : {start : Circuit} {left : List Lit} {test : Lit} → AreLits start left → IsLit start test → Grows start start left left test 0 [] 0 (3 * 0) (Masked test left [] 0)
unfolding word
masks_none {start} {left} {test} hl h = grows_none start left left test (Masked test left [] 0) hl hl h (λ a. omega arith)

-- one more conjunction is one more bit
pub masks_more : {start now next : Circuit} {left : List Lit} {test : Lit} (lit : Lit) {i : ℕ} {bits : List Lit} (d : Lit)
    → Grows start now left left test i bits i (3 * i) (Masked test left bits i) → i < length left → IsLit next lit
    → Makes now next 1 3 (λ a. value a lit ≡ (value a test && value a (get_or left i d)))
    → Grows start next left left test (i + 1) (bits ++ lit ∷ []) (i + 1) (3 * (i + 1)) (Masked test left (bits ++ lit ∷ []) (i + 1))
masks_more {start} {now} {next} {left} {test} lit {i} {bits} d h lt lit_in made =
    grows_more start now next left left test lit i bits i 1 (i + 1) (3 * i) 3 (3 * (i + 1)) _ _ (Masked test left (bits ++ lit ∷ []) (i + 1)) h made lit_in (omega arith) (omega arith)
    (λ a p q. rw (push_at a bits lit i h.bits_in.length, word_take a left i d lt)
    (mask_step (value a test) _ (value a lit) (word a bits) (word a (take i left)) (2 ^ i) p q))

-- after all bits the word is masked
pub masks_all : {start now : Circuit} {left : List Lit} {test : Lit} {i : ℕ} {bits : List Lit}
    → Grows start now left left test i bits i (3 * i) (Masked test left bits i) → i ≡ length left
    → Makes start now (length left) (3 * length left) (λ a. word a bits ≡ bit (value a test) * word a left)
masks_all {start} {now} {left} {test} {i} h e =
    makes_so start now i (length left) (3 * i) (3 * length left) _ _ h.made (omega arith) (omega arith)
    (λ a s p. p ∙ ap (λ (xs : List Lit). bit (value a test) * word a xs) (take_all i left (omega arith)))

-- ---- an order

-- the literal says whether the left bits so far are below the right ones
abbrev pub Less : Lit → List Lit → List Lit → ℕ → Assignment → Type 0
Less lit left right i a = value a lit ≡ ltb (word a (take i left)) (word a (take i right))

-- what a turn of the comparison keeps: no list grows
pub record Compares (start now : Circuit) (left right : List Lit) (less : Lit) (i : ℕ) : Type 0 where
  pub lefts : AreLits now left
  pub rights : AreLits now right
  pub less_in : IsLit now less
  pub made : Makes start now (2 * i) (10 * i) (Less less left right i)

-- one more place decides where the two differ
less_step : (x y l z : Bool) (v w p : ℕ) → v < p → w < p → l ≡ ltb v w → z ≡ choice (xor x y) y l → z ≡ ltb (v + p * bit x) (w + p * bit y)
less_step true true l z v w p lv lw e f = f ∙ e ∙ same
  where
    same : ltb v w ≡ ltb (v + p * 1) (w + p * 1)
    same = grind (arith, nat_tests)
less_step true false l z v w p lv lw e f = f ∙ never
  where
    never : false ≡ ltb (v + p * 1) (w + p * 0)
    never = grind (arith, nat_tests)
less_step false true l z v w p lv lw e f = f ∙ surely
  where
    surely : true ≡ ltb (v + p * 0) (w + p * 1)
    surely = grind (arith, nat_tests)
less_step false false l z v w p lv lw e f = f ∙ e ∙ same
  where
    same : ltb v w ≡ ltb (v + p * 0) (w + p * 0)
    same = grind (arith, nat_tests)

-- a front is below its power
pub less_at : (a : Assignment) (xs : List Lit) (i : ℕ) → i ≤ length xs → word a (take i xs) < 2 ^ i
less_at a xs i le = subst (λ (n : ℕ). word a (take i xs) < 2 ^ n) (length-take-le i xs le) (word_lt a (take i xs))

-- a difference and a choice make one place of a comparison
pub less_bit_makes : {one two three : Circuit} (x y l d z : Lit)
    → Makes one two 1 4 (λ a. value a d ≡ xor (value a x) (value a y))
    → Makes two three 1 6 (λ a. value a z ≡ choice (value a d) (value a y) (value a l))
    → Makes one three 2 10 (λ a. value a z ≡ choice (xor (value a x) (value a y)) (value a y) (value a l))
less_bit_makes {one} {two} {three} x y l d z h k =
    makes_then one two three 1 1 4 6 _ _ _ h k (λ a p q. q ∙ ap (λ (t : Bool). choice t (value a y) (value a l)) p)

-- before the first place neither is below the other
pub compares_none : {start : Circuit} {left right : List Lit} {less : Lit} → AreLits start left → AreLits start right → IsLit start less
    → ((a : Assignment) → Satisfies a start.clauses → value a less ≡ false) → Compares start start left right less 0
unfolding word
compares_none {start} {left} {right} {less} hl hr h off = record {
  lefts = hl;
  rights = hr;
  less_in = h;
  made = makes_same start (Less less left right 0) off;
}

-- one more place is compared
pub compares_more : {start now next : Circuit} {left right : List Lit} {less lit : Lit} {i : ℕ} (d e : Lit)
    → Compares start now left right less i → i < length left → i < length right → IsLit next lit
    → Makes now next 2 10 (λ a. value a lit ≡ choice (xor (value a (get_or left i d)) (value a (get_or right i e))) (value a (get_or right i e)) (value a less))
    → Compares start next left right lit (i + 1)
compares_more {start} {now} {next} {left} {right} {less} {lit} {i} d e h lt ltr lit_in made = record {
  lefts = are_lits_more now next left made.extends.more h.lefts;
  rights = are_lits_more now next right made.extends.more h.rights;
  less_in = lit_in;
  made = makes_so start next (2 * i + 2) (2 * (i + 1)) (10 * i + 10) (10 * (i + 1)) (Less lit left right (i + 1)) (Less lit left right (i + 1))
      (makes_then start now next (2 * i) 2 (10 * i) 10 _ _ (Less lit left right (i + 1)) h.made made
      (λ a p q. rw (word_take a left i d lt, word_take a right i e ltr)
      (less_step (value a (get_or left i d)) (value a (get_or right i e)) (value a less) (value a lit) _ _ (2 ^ i) (less_at a left i (omega arith)) (less_at a right i (omega arith)) p q)))
      (omega arith) (omega arith) (λ a s p. p);
}

-- after all places the words are
pub compares_all : {start now : Circuit} {left right : List Lit} {less : Lit} {i : ℕ} → Compares start now left right less i → i ≡ length left → i ≡ length right
    → Makes start now (2 * length left) (10 * length left) (λ a. value a less ≡ ltb (word a left) (word a right))
compares_all {start} {now} {left} {right} {i} h e f =
    makes_so start now (2 * i) (2 * length left) (10 * i) (10 * length left) _ _ h.made (omega arith) (omega arith)
    (λ a s p. p ∙ ap (λ (xs : List Lit). ltb (word a xs) (word a (take i right))) (take_all i left (omega arith)) ∙ ap (λ (xs : List Lit). ltb (word a left) (word a xs)) (take_all i right (omega arith)))
