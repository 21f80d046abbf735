-- What is counted behind statements: the locals of a function by the kinds of their elements, and objects for threads.
use Rattle.std.proofs.Common.{◌≡◌, ℕ, zero, suc, ◌+◌, ◌<◌, ◌≤◌, ◌==◌, Bool, true, false, List, [], ◌∷◌, ◌++◌, length, replicate, slice_get, slice_index_or, Some, inl, inr, refl, sym, ap, ◌∙◌, subst, arith}
use Rattle.std.proofs.lemmas.Bool.{eqb-true, cases_Bool}
use Rattle.std.proofs.lemmas.List.{length-append, length-replicate}
use Rattle.std.proofs.lemmas.Option.{none-some}
use Rattle.lz_base.specs.declared.word.IntType.{IntType}
use Rattle.lz_tree.specs.declared.expression.TypeName.{TypeName}
use Rattle.lz_tree.specs.Trees.{InitDeclarator, Statement, empty, eval, block, declare, when, while, do_while, for, break, continue, return, label, Branch, absent, branch, Statements, nil, cons}
use Rattle.lz_tree.specs.WellFormed.{is_block}
use Rattle.lz_scopes.specs.declared.place.Counts.{Counts}
use Rattle.lz_scopes.specs.declared.place.Place.{Place}
use Rattle.lz_scopes.specs.declared.value_types.ValueType.{ValueType}
use Rattle.lz_scopes.specs.declared.value_types.ValueType.TheVariants.{Integer, Pointer, Nothing, Thread, Mutex, Cond, Function}
use Rattle.lz_scopes.specs.ValueTypes.{value_type, kind_of}
use Rattle.lz_scopes.specs.Constants.{elements}
use Rattle.lz_scopes.specs.Scopes.{is_outside, counted_more, with_declarator, with_declarators, inside, inside_loop, behind, after, after_branch, after_all, after_body}
use Rattle.lz_scopes.proofs.PlacesLemmas.{kept}

-- ---- lists by number

-- The numbers from one on have these values.
pub record Suits {A : Type 0} (g : ℕ → A) (n : ℕ) (xs : List A) : Type 0 where
  pub each : (i : ℕ) (x : A) → slice_get xs i ≡ Some x → g (n + i) ≡ x

get_front : {A : Type 0} (xs ys : List A) (i : ℕ) (x : A) → slice_get xs i ≡ Some x → slice_get (xs ++ ys) i ≡ Some x
get_front [] ys i x e = absurd (none-some x e)
get_front (y ∷ xs) ys zero x e = e
get_front (y ∷ xs) ys (suc i) x e = get_front xs ys i x e

get_back : {A : Type 0} (xs ys : List A) (i : ℕ) (x : A) → slice_get ys i ≡ Some x → slice_get (xs ++ ys) (length xs + i) ≡ Some x
get_back [] ys i x e = let same : 0 + i ≡ i = omega arith in rw same e
get_back (y ∷ xs) ys i x e = let next : suc (length xs) + i ≡ suc (length xs + i) = omega arith in rw next (get_back xs ys i x e)

-- so do the values in front
pub suits_front : {A : Type 0} {g : ℕ → A} {n : ℕ} (xs ys : List A) → Suits g n (xs ++ ys) → Suits g n xs
suits_front xs ys s = record { each = λ i x e. s.each i x (get_front xs ys i x e) }

-- and those behind
pub suits_back : {A : Type 0} {g : ℕ → A} {n : ℕ} (xs ys : List A) → Suits g n (xs ++ ys) → Suits g (n + length xs) ys
suits_back {A} {g} {n} xs ys s = record {
  each = λ i x e.
      let far : (n + length xs) + i ≡ n + (length xs + i) = omega arith in
      ap g far ∙ s.each (length xs + i) x (get_back xs ys i x e);
}

pub suits_head : {A : Type 0} {g : ℕ → A} {n : ℕ} {x : A} {xs : List A} → Suits g n (x ∷ xs) → g n ≡ x
suits_head {A} {g} {n} {x} s = let same : n ≡ n + 0 = omega arith in ap g same ∙ s.each 0 x refl

pub suits_rest : {A : Type 0} {g : ℕ → A} {n : ℕ} {x : A} {xs : List A} → Suits g n (x ∷ xs) → Suits g (n + 1) xs
suits_rest {A} {g} {n} s = record {
  each = λ i x e. let far : (n + 1) + i ≡ n + suc i = omega arith in ap g far ∙ s.each (suc i) x e;
}

-- a list has its values by their numbers
pub suits_itself : {A : Type 0} (xs : List A) (d : A) → Suits (λ i. slice_index_or xs i d) 0 xs
suits_itself {A} xs d = record {
  each = λ i x e. let same : 0 + i ≡ i = omega arith in ap (λ (k : ℕ). slice_index_or xs k d) same ∙ at xs d i x e;
}
  where
    at : (xs : List A) (d : A) (i : ℕ) (x : A) → slice_get xs i ≡ Some x → slice_index_or xs i d ≡ x
    at [] d i x e = absurd (none-some x e)
    at (y ∷ xs) d zero x e = cc
    at (y ∷ xs) d (suc i) x e = at xs d i x e

get_replicate : {A : Type 0} (n : ℕ) (x : A) (i : ℕ) → i < n → slice_get (replicate n x) i ≡ Some x
get_replicate zero x i low = absurd (omega arith)
get_replicate (suc n) x zero low = refl
get_replicate (suc n) x (suc i) low = get_replicate n x i (omega arith)

-- values that are all one
pub suits_replicate : {A : Type 0} {g : ℕ → A} {n : ℕ} (len : ℕ) (x : A) → Suits g n (replicate len x) → (i : ℕ) → i < len → g (n + i) ≡ x
suits_replicate len x s i low = s.each i x (get_replicate len x i low)

-- ---- the kinds of locals

-- of the elements of an object in a function
abbrev pub element_kinds : ValueType → ℕ → List IntType
element_kinds Thread n = []
element_kinds Mutex n = []
element_kinds Cond n = []
element_kinds of n = replicate n (kind_of of)

-- of declarators
abbrev pub declared_kinds : TypeName → List InitDeclarator → List IntType
declared_kinds base [] = []
declared_kinds base (d ∷ rest) = element_kinds (value_type base) (elements d.length) ++ declared_kinds base rest

abbrev mutual
  -- of all locals that a statement declares, in the order of the text
  pub kinds_in : Statement → List IntType
  kinds_in empty = []
  kinds_in (eval value) = []
  kinds_in (block parts) = kinds_in_all parts
  kinds_in (declare of) = declared_kinds of.base of.declarators
  kinds_in (when line test first second) = kinds_in first ++ kinds_in_branch second
  kinds_in (while line test body) = kinds_in body
  kinds_in (do_while line body test) = kinds_in body
  kinds_in (for line first test change body) = kinds_in first ++ kinds_in body
  kinds_in (break line) = []
  kinds_in (continue line) = []
  kinds_in (return line value) = []
  kinds_in (label name of) = kinds_in of

  pub kinds_in_branch : Branch → List IntType
  kinds_in_branch absent = []
  kinds_in_branch (branch of) = kinds_in of

  pub kinds_in_all : Statements → List IntType
  kinds_in_all nil = []
  kinds_in_all (cons s rest) = kinds_in s ++ kinds_in_all rest

-- ---- counts within a function

-- Locals of these kinds are counted, no cells, and maybe objects for threads.
pub record Counted (c d : Counts) (kinds : List IntType) : Type 0 where
  pub locals : d.locals ≡ c.locals + length kinds
  pub cells : d.cells ≡ c.cells
  pub elements_ : d.elements ≡ c.elements
  pub mutexes : c.mutexes ≤ d.mutexes
  pub conds : c.conds ≤ d.conds
  pub handles : c.handles ≤ d.handles

pub counted_none : (c : Counts) → Counted c c []
counted_none c = record { locals = omega arith; cells = refl; elements_ = refl; mutexes = omega arith; conds = omega arith; handles = omega arith }

pub counted_both : {a b c : Counts} {xs ys : List IntType} → Counted a b xs → Counted b c ys → Counted a c (xs ++ ys)
counted_both {xs = xs} {ys = ys} f g = record {
  locals = (let n = length-append xs ys in omega arith);
  cells = g.cells ∙ f.cells;
  elements_ = g.elements_ ∙ f.elements_;
  mutexes = omega arith;
  conds = omega arith;
  handles = omega arith;
}

counted_local : (c : Counts) (kind : IntType) (n : ℕ) → Counted c (record c { locals = c.locals + n }) (replicate n kind)
counted_local c kind n = record {
  locals = (let l = length-replicate n kind in omega arith);
  cells = refl;
  elements_ = refl;
  mutexes = omega arith;
  conds = omega arith;
  handles = omega arith;
}

counted_inside : (c : Counts) (of : ValueType) (n : ℕ) → Counted c (counted_more false c of n) (element_kinds of n)
counted_inside c (Integer kind) n = counted_local c kind n
counted_inside c Pointer n = counted_local c (kind_of Pointer) n
counted_inside c Nothing n = counted_local c (kind_of Nothing) n
counted_inside c Function n = counted_local c (kind_of Function) n
counted_inside c Thread n = record { locals = omega arith; cells = refl; elements_ = refl; mutexes = omega arith; conds = omega arith; handles = omega arith }
counted_inside c Mutex n = record { locals = omega arith; cells = refl; elements_ = refl; mutexes = omega arith; conds = omega arith; handles = omega arith }
counted_inside c Cond n = record { locals = omega arith; cells = refl; elements_ = refl; mutexes = omega arith; conds = omega arith; handles = omega arith }

pub not_outside : (p : Place) → 0 < p.depth → is_outside p ≡ false
not_outside p deep = elim (cases_Bool (p.depth == 0)) [ inl e ↦ let zero_is : p.depth ≡ 0 = eqb-true p.depth 0 e in absurd (omega (arith, deep, zero_is)) | inr e ↦ e ]

-- behind an object that is declared in a function
pub counted_object : (p : Place) (of : ValueType) (n : ℕ) → 0 < p.depth → Counted p.counts (counted_more (is_outside p) p.counts of n) (element_kinds of n)
counted_object p of n deep = subst (λ (b : Bool). Counted p.counts (counted_more b p.counts of n) (element_kinds of n)) (sym (not_outside p deep)) (counted_inside p.counts of n)

pub counted_declarators : (p : Place) (base : TypeName) (ds : List InitDeclarator) → 0 < p.depth → Counted p.counts (with_declarators p base ds).counts (declared_kinds base ds)
counted_declarators p base [] deep = counted_none p.counts
counted_declarators p base (d ∷ rest) deep =
    counted_both (counted_object p (value_type base) (elements d.length) deep) (counted_declarators (with_declarator p base d) base rest deep)

mutual
  unfolding after

  -- behind a statement of a function
  pub counted : (p : Place) (s : Statement) → 0 < p.depth → Counted p.counts (after p s).counts (kinds_in s)
  counted p empty deep = counted_none p.counts
  counted p (eval value) deep = counted_none p.counts
  counted p (block parts) deep = counted_all (inside p) parts (omega arith)
  counted p (declare of) deep = counted_declarators p of.base of.declarators deep
  counted p (when line test first second) deep =
      counted_both (counted (inside p) first (omega arith)) (counted_branch (behind p (after (inside p) first)) second deep)
  counted p (while line test body) deep = counted (inside_loop p) body (omega arith)
  counted p (do_while line body test) deep = counted (inside_loop p) body (omega arith)
  counted p (for line first test change body) deep =
      counted_both (counted (inside p) first (omega arith)) (counted (inside_loop (after (inside p) first)) body (omega arith))
  counted p (break line) deep = counted_none p.counts
  counted p (continue line) deep = counted_none p.counts
  counted p (return line value) deep = counted_none p.counts
  counted p (label name of) deep = counted p of deep

  pub counted_branch : (p : Place) (b : Branch) → 0 < p.depth → Counted p.counts (after_branch p b).counts (kinds_in_branch b)
  counted_branch p absent deep = counted_none p.counts
  counted_branch p (branch of) deep = counted (inside p) of (omega arith)

  pub counted_all : (p : Place) (parts : Statements) → 0 < p.depth → Counted p.counts (after_all p parts).counts (kinds_in_all parts)
  counted_all p nil deep = counted_none p.counts
  counted_all p (cons s rest) deep =
      counted_both (counted p s deep) (counted_all (after p s) rest (let k = kept p s in let same = k.depth in omega arith))

-- behind the block of a function
pub counted_body : (p : Place) (s : Statement) → 0 < p.depth → is_block s ≡ true → Counted p.counts (after_body p s).counts (kinds_in s)
counted_body p (block parts) deep is = counted_all p parts deep
counted_body p _ deep is = absurd cc
