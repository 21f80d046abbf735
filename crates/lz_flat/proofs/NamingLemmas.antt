-- What an instruction does rests on the words that it names, and it changes no other.
use Rattle.std.proofs.Common.{◌≡◌, ℕ, ◌+◌, ◌-◌, ◌≤◌, ◌<◌, Bool, true, false, cond, List, length, eqb, ltb, refl, sym, ◌∙◌, ap, ap₂, subst, arith}
use Rattle.std.specs.Prelude.{slice_index, slice_set}
use Rattle.std.proofs.lemmas.Bool.{eqb-true, eqb-false, ltb-true}
use Rattle.std.proofs.lemmas.List.{length-set, get_or_past, get_or-set_same, get_or-set_other}
use Rattle.lz_base.specs.Words.{unary_value, binary_value, converted}
use Rattle.lz_flat.specs.Programs.{Expression, constant, word, element, unary, binary, convert, choose, Location, Instruction, sets, takes, assumes, checks, skips}
use Rattle.lz_flat.specs.Instructions.{moved, blocked, broke, value, put, did}
use Rattle.lz_flat.specs.Naming.{NamesOnly, LocationNamesOnly, InstructionNamesOnly, AgreeOn, AlikeDid, Keeps, DidKeeps, IsIn, RestOnNames}

-- ---- agreement

-- an expression has one value in memories that agree on the words that it names
pub value_agrees : (P : ℕ → Type 0) (e : Expression) (m n : List ℕ) → NamesOnly P e → AgreeOn P m n → value e m ≡ value e n
unfolding value
value_agrees P (constant v) m n h a = refl
value_agrees P (word place) m n h a = a place h
value_agrees P (element first len index) m n h a = by (ltb (value index n) len) refl (value_agrees P index m n h.1 a)
  where
    by : (b : Bool) → ltb (value index n) len ≡ b → value index m ≡ value index n
        → cond (ltb (value index m) len) (slice_index m (first + value index m)) 0 ≡ cond (ltb (value index n) len) (slice_index n (first + value index n)) 0
    by true e s = rw (s, e) (a (first + value index n) (h.0 (value index n) (ltb-true (value index n) len e)))
    by false e s = rw (s, e) refl
value_agrees P (unary op kind of) m n h a = ap (λ (x : ℕ). unary_value op x kind) (value_agrees P of m n h a)
value_agrees P (binary op kind left right) m n h a = ap₂ (λ (x y : ℕ). binary_value op x y kind) (value_agrees P left m n h.0 a) (value_agrees P right m n h.1 a)
value_agrees P (convert from to of) m n h a = ap (λ (x : ℕ). converted x from to) (value_agrees P of m n h a)
value_agrees P (choose test chosen other) m n h a = rw (value_agrees P test m n h.0 a, value_agrees P chosen m n h.1 a, value_agrees P other m n h.2 a) refl

-- memories that agree at a place agree there after one word of each is set to the same
set_agrees : (m n : List ℕ) (k v place : ℕ) → length m ≡ length n → slice_index m place ≡ slice_index n place → slice_index (slice_set m k v) place ≡ slice_index (slice_set n k v) place
set_agrees m n k v place long same = by (eqb place k) refl (ltb k (length m)) refl
  where
    by : (b : Bool) → eqb place k ≡ b → (c : Bool) → ltb k (length m) ≡ c → slice_index (slice_set m k v) place ≡ slice_index (slice_set n k v) place
    by false f c g = get_or-set_other m k place v 0 (eqb-false place k f) ∙ same ∙ sym (get_or-set_other n k place v 0 (eqb-false place k f))
    by true f true g =
        let is : place ≡ k = eqb-true place k f in
        let lt : k < length m = ltb-true k (length m) g in
        ap (λ (x : ℕ). slice_index (slice_set m k v) x) is ∙ get_or-set_same m k v 0 lt ∙ sym (get_or-set_same n k v 0 (omega (arith, lt, long))) ∙ ap (λ (x : ℕ). slice_index (slice_set n k v) x) (sym is)
    by true f false g =
        let is : place ≡ k = eqb-true place k f in
        let l = length-set m k v in
        let r = length-set n k v in
        let ge : length m ≤ k = grind (arith, g) in
        get_or_past (slice_set m k v) place 0 (omega (arith, is, l, ge)) ∙ sym (get_or_past (slice_set n k v) place 0 (omega (arith, is, r, ge, long)))

-- memories that agree on the words that a location names agree on them after a write by it
pub put_agrees : (P : ℕ → Type 0) (to : Location) (v : ℕ) (m n : List ℕ) → length m ≡ length n → LocationNamesOnly P to → AgreeOn P m n → AgreeOn P (put to v m) (put to v n)
unfolding put
put_agrees P to v m n long h a place p = by (value_agrees P to.index m n h.1 a)
  where
    by : value to.index m ≡ value to.index n
        → slice_index (cond (ltb (value to.index m) to.len) (slice_set m (to.first + value to.index m) v) m) place
        ≡ slice_index (cond (ltb (value to.index n) to.len) (slice_set n (to.first + value to.index n) v) n) place
    by s = rw s (test (ltb (value to.index n) to.len))
      where
        test : (c : Bool) → slice_index (cond c (slice_set m (to.first + value to.index n) v) m) place ≡ slice_index (cond c (slice_set n (to.first + value to.index n) v) n) place
        test true = set_agrees m n (to.first + value to.index n) v place long (a place p)
        test false = a place p

-- an instruction comes to the same in memories of one length that agree on the words that it names
pub did_agrees : (P : ℕ → Type 0) (i : Instruction) (v : ℕ) (m n : List ℕ) → length m ≡ length n → InstructionNamesOnly P i → AgreeOn P m n → AlikeDid P (did i v m) (did i v n)
unfolding did
did_agrees P (sets to of) v m n long h a = (refl, subst (λ (x : ℕ). AgreeOn P (put to (value of m) m) (put to x n)) (value_agrees P of m n h.1 a) (put_agrees P to (value of m) m n long h.0 a))
did_agrees P (takes to) v m n long h a = (refl, put_agrees P to v m n long h a)
did_agrees P (assumes test) v m n long h a = by (value_agrees P test m n h a)
  where
    by : value test m ≡ value test n → AlikeDid P (cond (eqb (value test m) 0) blocked (moved 0 m)) (cond (eqb (value test n) 0) blocked (moved 0 n))
    by s = subst (λ (x : ℕ). AlikeDid P (cond (eqb x 0) blocked (moved 0 m)) (cond (eqb (value test n) 0) blocked (moved 0 n))) (sym s) (either (eqb (value test n) 0))
      where
        either : (c : Bool) → AlikeDid P (cond c blocked (moved 0 m)) (cond c blocked (moved 0 n))
        either true = tt
        either false = (refl, a)
did_agrees P (checks test kind line) v m n long h a = by (value_agrees P test m n h a)
  where
    by : value test m ≡ value test n → AlikeDid P (cond (eqb (value test m) 0) (broke kind line) (moved 0 m)) (cond (eqb (value test n) 0) (broke kind line) (moved 0 n))
    by s = subst (λ (x : ℕ). AlikeDid P (cond (eqb x 0) (broke kind line) (moved 0 m)) (cond (eqb (value test n) 0) (broke kind line) (moved 0 n))) (sym s) (either (eqb (value test n) 0))
      where
        either : (c : Bool) → AlikeDid P (cond c (broke kind line) (moved 0 m)) (cond c (broke kind line) (moved 0 n))
        either true = (refl, refl)
        either false = (refl, a)
did_agrees P (skips test by) v m n long h a = (ap (λ (x : ℕ). cond (eqb x 0) 0 (by - 1)) (sym (value_agrees P test m n h a)), a)

-- ---- what is not named stays

-- a memory keeps its own words
pub keeps_all : (P : ℕ → Type 0) (m : List ℕ) → Keeps P m m
keeps_all P m = record { size = refl; others = λ x other. refl }

-- what is kept twice is kept
pub keeps_then : {P : ℕ → Type 0} {l m n : List ℕ} → Keeps P l m → Keeps P m n → Keeps P l n
keeps_then a b = record { size = b.size ∙ a.size; others = λ x other. b.others x other ∙ a.others x other }

-- a write by a location keeps the words that it does not name
pub put_keeps : (P : ℕ → Type 0) (to : Location) (v : ℕ) (m : List ℕ) → LocationNamesOnly P to → Keeps P m (put to v m)
unfolding put
put_keeps P to v m h = by (ltb (value to.index m) to.len) refl
  where
    by : (b : Bool) → ltb (value to.index m) to.len ≡ b → Keeps P m (cond b (slice_set m (to.first + value to.index m) v) m)
    by true e = record {
      size = length-set m (to.first + value to.index m) v;
      others = λ x other. get_or-set_other m (to.first + value to.index m) x v 0 (λ s. other (subst P (sym s) (h.0 (value to.index m) (ltb-true (value to.index m) to.len e))));
    }
    by false e = keeps_all P m

-- an instruction keeps the words that it does not name
pub did_keeps : (P : ℕ → Type 0) (i : Instruction) (v : ℕ) (m : List ℕ) → InstructionNamesOnly P i → DidKeeps P m (did i v m)
unfolding did
did_keeps P (sets to of) v m h = put_keeps P to (value of m) m h.0
did_keeps P (takes to) v m h = put_keeps P to v m h
did_keeps P (assumes test) v m h = by (eqb (value test m) 0)
  where
    by : (b : Bool) → DidKeeps P m (cond b blocked (moved 0 m))
    by true = tt
    by false = keeps_all P m
did_keeps P (checks test kind line) v m h = by (eqb (value test m) 0)
  where
    by : (b : Bool) → DidKeeps P m (cond b (broke kind line) (moved 0 m))
    by true = tt
    by false = keeps_all P m
did_keeps P (skips test by) v m h = keeps_all P m

-- THE LAW
pub rest_on_names : RestOnNames
rest_on_names set = (
  λ of one other names agree. value_agrees (IsIn set) of one other names agree,
  λ instr input one other names long agree. did_agrees (IsIn set) instr input one other long names agree,
  λ instr input memory names. did_keeps (IsIn set) instr input memory names,
)
