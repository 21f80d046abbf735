-- Composition of calls that extend a circuit.
use Rattle.std.proofs.Common.{◌≡◌, ℕ, zero, suc, ◌+◌, ◌%◌, ◌/◌, ◌<◌, ◌≤◌, Bool, true, false, not, ◌||◌, cond, eqb, List, [], ◌∷◌, ◌++◌, length, get_or, refl, sym, ◌∙◌, ap, subst, arith}
use Rattle.std.specs.List.{All}
use Rattle.std.proofs.lemmas.List.{append-nil, append_assoc}
use Rattle.lz_cnf.specs.declared.clause.Lit.{Lit}
use Rattle.lz_cnf.specs.Models.{variable_of, is_negated}
use Rattle.lz_gates.specs.Circuits.{Circuit, Assignment, value, clause_value, Satisfies, Agree, AreBelow, IsCircuit, Extends, Makes, IsFold}

-- who satisfies two lists of clauses satisfies the first
pub satisfies_front : (a : Assignment) (xs ys : List (List Lit)) → Satisfies a (xs ++ ys) → Satisfies a xs
unfolding Satisfies
satisfies_front a [] ys h = tt
satisfies_front a (x ∷ xs) ys h = (h.0, satisfies_front a xs ys h.1)

-- and the second
pub satisfies_back : (a : Assignment) (xs ys : List (List Lit)) → Satisfies a (xs ++ ys) → Satisfies a ys
unfolding Satisfies
satisfies_back a [] ys h = h
satisfies_back a (x ∷ xs) ys h = satisfies_back a xs ys h.1

-- and who satisfies both satisfies them together
pub satisfies_append : (a : Assignment) (xs ys : List (List Lit)) → Satisfies a xs → Satisfies a ys → Satisfies a (xs ++ ys)
unfolding Satisfies
satisfies_append a [] ys h k = k
satisfies_append a (x ∷ xs) ys h k = (h.0, satisfies_append a xs ys h.1 k)

-- two lists of clauses over the variables are one
pub below_append : (n : ℕ) (xs ys : List (List Lit)) → AreBelow n xs → AreBelow n ys → AreBelow n (xs ++ ys)
unfolding AreBelow
below_append n [] ys h k = k
below_append n (x ∷ xs) ys h k = (h.0, below_append n xs ys h.1 k)

-- clauses over some variables are clauses over more
pub below_more : (n m : ℕ) (xs : List (List Lit)) → n ≤ m → AreBelow n xs → AreBelow m xs
unfolding AreBelow
below_more n m [] le h = tt
below_more n m (x ∷ xs) le h =
    (record { some = h.0.some; lits = λ k d lt. let one = h.0.lits k d lt in omega (arith, one) }, below_more n m xs le h.1)

-- what agrees with what agrees, agrees
pub agree_trans : (n m : ℕ) (a b c : Assignment) → n ≤ m → Agree n a b → Agree m b c → Agree n a c
unfolding Agree
agree_trans n m a b c le h k x lt = h x lt ∙ k x (omega arith)

-- agreement holds both ways
pub agree_sym : (n : ℕ) (a b : Assignment) → Agree n a b → Agree n b a
unfolding Agree
agree_sym n a b h x lt = sym (h x lt)

-- each agrees with itself
pub agree_refl : (n : ℕ) (a : Assignment) → Agree n a a
unfolding Agree
agree_refl n a x lt = refl

-- a literal has one value under assignments that agree on its variable
pub value_agrees : (n : ℕ) (a b : Assignment) (lit : Lit) → Agree n a b → variable_of lit < n → value a lit ≡ value b lit
unfolding Agree value
value_agrees n a b lit h lt = ap (λ (v : Bool). cond (is_negated lit) (not v) v) (h (variable_of lit) lt)

-- a clause has one value under assignments that agree on its variables
pub clause_agrees : (n : ℕ) (a b : Assignment) (clause : List Lit) → Agree n a b → All (λ lit. variable_of lit < n) clause → clause_value a clause ≡ clause_value b clause
unfolding clause_value
clause_agrees n a b [] h all = refl
clause_agrees n a b (lit ∷ lits) h all =
    let first = value_agrees n a b lit h (all 0 lit (omega arith)) in
    let rest = clause_agrees n a b lits h (λ k d lt. all (suc k) d (omega arith)) in
    ap (λ (v : Bool). v || clause_value a lits) first ∙ ap (λ (v : Bool). value b lit || v) rest

-- who agrees with one that satisfies clauses satisfies them
pub satisfies_agrees : (n : ℕ) (a b : Assignment) (clauses : List (List Lit)) → Agree n a b → AreBelow n clauses → Satisfies a clauses → Satisfies b clauses
unfolding Satisfies AreBelow
satisfies_agrees n a b [] h all s = tt
satisfies_agrees n a b (clause ∷ clauses) h all s =
    (sym (clause_agrees n a b clause h all.0.lits) ∙ s.0, satisfies_agrees n a b clauses h all.1 s.1)

-- nothing added
pub extends_same : (old : Circuit) → Extends old old
unfolding AreBelow Satisfies
extends_same old = record {
  added = [];
  more = omega arith;
  clauses = sym (append-nil old.clauses);
  below = tt;
  extended = λ a. (a, agree_refl old.variables a, tt);
  once = λ a b h s t. h;
  working = refl;
}

-- one call after the other
pub extends_then : (one two three : Circuit) → Extends one two → Extends two three → Extends one three
extends_then one two three h k = record {
  added = h.added ++ k.added;
  more = let p = h.more in let q = k.more in omega arith;
  clauses = k.clauses ∙ ap (λ (cs : List (List Lit)). cs ++ k.added) h.clauses ∙ append_assoc one.clauses h.added k.added;
  below = below_append three.variables h.added k.added (below_more two.variables three.variables h.added k.more h.below) k.below;
  extended = λ a.
      let b = h.extended a in
      let c = k.extended b.0 in (
        c.0,
        agree_trans one.variables two.variables a b.0 c.0 h.more b.1 c.1,
        satisfies_append c.0 h.added k.added (satisfies_agrees two.variables b.0 c.0 h.added c.1 h.below b.2) c.2,
      );
  once = λ a b same s t.
      k.once a b
      (h.once a b same (satisfies_front a h.added k.added s) (satisfies_front b h.added k.added t))
      (satisfies_back a h.added k.added s) (satisfies_back b h.added k.added t);
  working = k.working ∙ h.working;
}

-- what held in each model still does
pub still : (old new : Circuit) → Extends old new → (a : Assignment) → Satisfies a new.clauses → Satisfies a old.clauses
still old new h a s = satisfies_front a old.clauses h.added (subst (Satisfies a) h.clauses s)

-- a circuit that is extended stays one
pub is_circuit_still : (old new : Circuit) → Extends old new → IsCircuit old → IsCircuit new
is_circuit_still old new h c = record {
  some = let p = c.some in let q = h.more in omega arith;
  below = subst (AreBelow new.variables) (sym h.clauses) (below_append new.variables old.clauses h.added (below_more old.variables new.variables old.clauses h.more c.below) h.below);
  truth = λ a s. c.truth a (still old new h a s);
}

-- each model before a call extends in exactly one way to one after it
pub each_model_once : (old new : Circuit) → Extends old new → IsCircuit old → (a : Assignment) → Satisfies a old.clauses
    → (b : Assignment) × Agree old.variables a b × Satisfies b new.clauses × ((c : Assignment) → Agree old.variables a c → Satisfies c new.clauses → Agree new.variables b c)
each_model_once old new h circuit a s =
    let b = h.extended a in
    let kept = satisfies_agrees old.variables a b.0 old.clauses b.1 circuit.below s in (
      b.0,
      b.1,
      subst (Satisfies b.0) (sym h.clauses) (satisfies_append b.0 old.clauses h.added kept b.2),
      λ c same t. h.once b.0 c (agree_trans old.variables old.variables b.0 a c (omega arith) (agree_sym old.variables a b.0 b.1) same) b.2
          (satisfies_back c old.clauses h.added (subst (Satisfies c) h.clauses t)),
    )

-- a call that adds nothing
pub makes_same : (old : Circuit) (Says : Assignment → Type 0) → ((a : Assignment) → Satisfies a old.clauses → Says a) → Makes old old 0 0 Says
makes_same old Says h = record {
  extends = extends_same old;
  variables_most = omega arith;
  clauses_most = omega arith;
  says = h;
}

-- two calls: what both say, of the second's models
pub makes_then : (one two three : Circuit) (v w c d : ℕ) (P Q R : Assignment → Type 0) → Makes one two v c P → Makes two three w d Q
    → ((a : Assignment) → P a → Q a → R a) → Makes one three (v + w) (c + d) R
makes_then one two three v w c d P Q R h k both = record {
  extends = extends_then one two three h.extends k.extends;
  variables_most = let p = h.variables_most in let q = k.variables_most in omega arith;
  clauses_most = let p = h.clauses_most in let q = k.clauses_most in omega arith;
  says = λ a s. both a (h.says a (still two three k.extends a s)) (k.says a s);
}

-- a call, with greater bounds, and with what follows from what it says
pub makes_so : (old new : Circuit) (v w c d : ℕ) (P Q : Assignment → Type 0) → Makes old new v c P → v ≤ w → c ≤ d
    → ((a : Assignment) → Satisfies a new.clauses → P a → Q a) → Makes old new w d Q
makes_so old new v w c d P Q h le lf so = record {
  extends = h.extends;
  variables_most = let p = h.variables_most in omega arith;
  clauses_most = let p = h.clauses_most in omega arith;
  says = λ a s. so a s (h.says a s);
}

-- a gate that is one of the literals so far
pub makes_folded : {old : Circuit} {first second third : Lit} (count : ℕ) {lit : Lit} {v : Assignment → Bool} → IsCircuit old → IsFold first second third v lit → Makes old old 1 count (λ a. value a lit ≡ v a)
makes_folded {old} count circuit fold = record {
  extends = extends_same old;
  variables_most = omega arith;
  clauses_most = omega arith;
  says = λ a s. fold.says a (circuit.truth a s);
}

-- a circuit stays one with more variables
pub is_circuit_fresh : {n m : ℕ} (clauses : List (List Lit)) (f g : Bool) → n ≤ m → IsCircuit (record { variables = n; clauses = clauses; spent = f }) → IsCircuit (record { variables = m; clauses = clauses; spent = g })
is_circuit_fresh {n} {m} clauses f g le c = record {
  some = let p = c.some in omega arith;
  below = below_more n m clauses le c.below;
  truth = c.truth;
}

-- a circuit stays one with one more clause over its variables
pub is_circuit_require : (n : ℕ) (clauses : List (List Lit)) (clause : List Lit) (f g : Bool) → 0 < length clause → All (λ lit. variable_of lit < n) clause → IsCircuit (record { variables = n; clauses = clauses; spent = f }) → IsCircuit (record { variables = n; clauses = clauses ++ clause ∷ []; spent = g })
unfolding AreBelow
is_circuit_require n clauses clause f g some all c = record {
  some = c.some;
  below = below_append n clauses (clause ∷ []) c.below (record { some = some; lits = all }, tt);
  truth = λ a s. c.truth a (satisfies_front a clauses (clause ∷ []) s);
}

-- the first clause makes a circuit
pub is_circuit_first : (lit : Lit) (clauses : List (List Lit)) (f : Bool) → lit.0 ≡ 0 → clauses ≡ (lit ∷ []) ∷ [] → IsCircuit (record { variables = 1; clauses = clauses; spent = f })
unfolding AreBelow Satisfies clause_value value
is_circuit_first lit clauses f z e = record {
  some = omega arith;
  below = rw e (record { some = omega arith; lits = λ k d lt. only k d lt }, tt);
  truth = λ a s.
      let t = (subst (λ (cs : List (List Lit)). Satisfies a cs) e s).0 in
      let u : (cond (eqb (lit.0 % 2) 1) (not (a (lit.0 / 2))) (a (lit.0 / 2)) || false) ≡ true = t in
      let v = rw z at u in
      first_true (a 0) v;
}
  where
    first_true : (x : Bool) → (x || false) ≡ true → x ≡ true
    first_true true h = refl
    first_true false h = h

    only : (k : ℕ) (d : Lit) → k < length (lit ∷ []) → variable_of (get_or (lit ∷ []) k d) < 1
    only zero d lt = omega arith
    only (suc k) d lt = absurd (omega arith)
