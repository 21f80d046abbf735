-- What is counted at file scope, and the first words of cells.
use Rattle.std.proofs.Common.{◌≡◌, ℕ, suc, ◌+◌, ◌-◌, ◌<◌, ◌≤◌, ◌==◌, nat_lt, Bool, true, false, ◌&&◌, ◌||◌, List, [], ◌∷◌, ◌++◌, length, replicate, Option, Some, None, inl, inr, refl, sym, ap, ◌∙◌, subst, arith, if◌then◌else◌}
use Rattle.std.specs.List.{All, AllByRecursion}
use Rattle.std.proofs.lemmas.Bool.{cases_Bool, cases_lt, lt-ltb, both_ways}
use Rattle.std.proofs.lemmas.List.{length-append, length-replicate}
use Rattle.std.proofs.lemmas.List.Elements.{All-nil, All-cons, All-append, All-replicate}
use Rattle.lz_base.proofs.ListLemmas.{nil_front as front, nil_back as back}
use Rattle.lz_base.specs.Limits.{element_limit}
use Rattle.lz_base.specs.Words.{value_bound}
use Rattle.lz_scopes.specs.declared.constant.Word.{Word}
use Rattle.lz_base.specs.declared.word.IntType.{IntType}
use Rattle.lz_tree.specs.declared.expression.TypeName.{TypeName}
use Rattle.lz_tree.specs.declared.program.Param.{Param}
use Rattle.lz_tree.specs.Trees.{Expression, Expressions, none, and, Initializer, nothing, single, listed, mutex, cond, InitDeclarator, Statement, ExternalDeclaration, objects, prototype, function}
use Rattle.lz_tree.specs.WellFormed.{FitsExternal, is_block}
use Rattle.lz_tree.specs.WellScoped.{IsLength}
use Rattle.lz_scopes.specs.declared.place.Counts.{Counts}
use Rattle.lz_scopes.specs.declared.place.Place.{Place}
use Rattle.lz_scopes.specs.declared.value_types.ValueType.{ValueType}
use Rattle.lz_scopes.specs.declared.value_types.ValueType.TheVariants.{Integer, Pointer, Nothing, Thread, Mutex, Cond, Function}
use Rattle.lz_scopes.specs.ValueTypes.{value_type, kind_of, is_nothing, is_pointer, is_integer}
use Rattle.lz_scopes.specs.Constants.{elements, constant_value, is_bad_length}
use Rattle.lz_scopes.specs.Scopes.{is_outside, counted_more, with_declarator, with_declarators, with_declaration, with_function, with_param, with_params, into, into_body, after_body, after_external, past}
use Rattle.lz_scopes.specs.Files.{File}
use Rattle.lz_scopes.specs.ExpressionTypes.{count}
use Rattle.lz_resolve.specs.ScopedPrograms.{after_externals, first_words, words_in, word_in, declarators_words, declaration_words, cells_of}
use Rattle.lz_types.specs.Faults.{is_bad_initializer, declarators_faults, external_faults, externals_faults}
use Rattle.lz_scoping.proofs.TypesLemmas.{no_rules, no_truth}
use Rattle.lz_scoping.proofs.NumberingLemmas.{element_kinds, declared_kinds, kinds_in, Counted, counted_none, counted_both, counted_object, counted_body}
use Rattle.lz_scoping.proofs.DeclaratorLemmas.{Clean, clean, length_fits, values_fit, IsSpelled, is_spelled}

-- ---- counts at file scope

-- Cells of these kinds are counted, maybe objects for threads, and no more elements than there may be.
pub record Counts_out (c d : Counts) (kinds : List IntType) : Type 0 where
  pub cells : d.cells ≡ c.cells + length kinds
  pub mutexes : c.mutexes ≤ d.mutexes
  pub conds : c.conds ≤ d.conds
  pub handles : c.handles ≤ d.handles
  pub few : c.cells ≤ c.elements → c.elements ≤ element_limit → (d.cells ≤ d.elements) × (d.elements ≤ element_limit)

out_none : (c : Counts) → Counts_out c c []
out_none c = record { cells = omega arith; mutexes = omega arith; conds = omega arith; handles = omega arith; few = λ a b. (a, b) }

pub out_both : {a b c : Counts} {xs ys : List IntType} → Counts_out a b xs → Counts_out b c ys → Counts_out a c (xs ++ ys)
out_both {xs = xs} {ys = ys} f g = record {
  cells = (let n = length-append xs ys in let k = f.cells in let l = g.cells in omega arith);
  mutexes = (let k = f.mutexes in let l = g.mutexes in omega arith);
  conds = (let k = f.conds in let l = g.conds in omega arith);
  handles = (let k = f.handles in let l = g.handles in omega arith);
  few = λ x y. let r = f.few x y in g.few r.0 r.1;
}

-- what a function counts
out_function : {c d : Counts} {kinds : List IntType} → Counted c d kinds → Counts_out c d []
out_function {c} {d} n = record {
  cells = (let k = n.cells in omega arith);
  mutexes = n.mutexes;
  conds = n.conds;
  handles = n.handles;
  few = λ x y. (let k = n.cells in let l = n.elements_ in (omega arith, omega arith));
}

pub outside : (p : Place) → p.depth ≡ 0 → is_outside p ≡ true
outside p e = ap (λ (n : ℕ). n == 0) e

not_more : (n : ℕ) → nat_lt element_limit n ≡ false → n ≤ element_limit
not_more n e = elim (cases_lt element_limit n) [ inl low ↦ absurd (both_ways (nat_lt element_limit n) e (lt-ltb element_limit n low)) | inr high ↦ high ]

out_object : (c : Counts) (of : ValueType) (n : ℕ) → (is_nothing of || is_pointer of) ≡ false → nat_lt element_limit ((counted_more true c of n).elements) ≡ false → Counts_out c (counted_more true c of n) (element_kinds of n)
out_object c (Integer kind) n is few = record {
  cells = (let l = length-replicate n kind in omega arith);
  mutexes = omega arith;
  conds = omega arith;
  handles = omega arith;
  few = λ x y. (omega arith, not_more (c.elements + n) few);
}
out_object c Thread n is few = record { cells = omega arith; mutexes = omega arith; conds = omega arith; handles = omega arith; few = λ x y. (omega arith, not_more (c.elements + n) few) }
out_object c Mutex n is few = record { cells = omega arith; mutexes = omega arith; conds = omega arith; handles = omega arith; few = λ x y. (omega arith, not_more (c.elements + n) few) }
out_object c Cond n is few = record { cells = omega arith; mutexes = omega arith; conds = omega arith; handles = omega arith; few = λ x y. (omega arith, not_more (c.elements + n) few) }
out_object c Function n is few = record {
  cells = (let l = length-replicate n (kind_of Function) in omega arith);
  mutexes = omega arith;
  conds = omega arith;
  handles = omega arith;
  few = λ x y. (omega arith, not_more (c.elements + n) few);
}
out_object c Pointer n is few = no_truth (sym is)
out_object c Nothing n is few = no_truth (sym is)

pub out_declarator : (file : File) (p : Place) (base : TypeName) (d : InitDeclarator) → p.depth ≡ 0 → Clean file p base d → Counts_out p.counts (with_declarator p base d).counts (element_kinds (value_type base) (elements d.length))
out_declarator file p base d flat c =
    let out : is_outside p ≡ true = outside p flat in
    let few : nat_lt element_limit ((counted_more true p.counts (value_type base) (elements d.length)).elements) ≡ false =
    ap (λ (b : Bool). b && nat_lt element_limit ((counted_more b p.counts (value_type base) (elements d.length)).elements)) (sym out) ∙ c.few in
    subst (λ (b : Bool). Counts_out p.counts (counted_more b p.counts (value_type base) (elements d.length)) (element_kinds (value_type base) (elements d.length))) (sym out)
    (out_object p.counts (value_type base) (elements d.length) c.of few)

pub out_declarators : (file : File) (p : Place) (base : TypeName) (ds : List InitDeclarator) → p.depth ≡ 0 → declarators_faults file p base ds ≡ [] → Counts_out p.counts (with_declarators p base ds).counts (declared_kinds base ds)
unfolding declarators_faults
out_declarators file p base [] flat clear = out_none p.counts
out_declarators file p base (d ∷ rest) flat clear =
    out_both (out_declarator file p base d flat (clean file p base d (no_rules d.line _ (front _ _ (front _ _ (front _ _ clear))))))
    (out_declarators file (with_declarator p base d) base rest flat (back _ _ clear))

-- ---- parameters

-- the kinds of the local of a parameter, where it has a name
abbrev pub named_elements : TypeName → Option ℕ → List IntType
named_elements base None = []
named_elements base (Some name) = element_kinds (value_type base) 1

abbrev pub param_elements : List Param → List IntType
param_elements [] = []
param_elements (p ∷ rest) = named_elements p.base p.name ++ param_elements rest

pub counted_param : (p : Place) (base : TypeName) (name : Option ℕ) → 0 < p.depth → Counted p.counts (with_param p base name).counts (named_elements base name)
counted_param p base None deep = counted_none p.counts
counted_param p base (Some name) deep = counted_object p (value_type base) 1 deep

pub param_deep : (p : Place) (base : TypeName) (name : Option ℕ) → (with_param p base name).depth ≡ p.depth
param_deep p base None = refl
param_deep p base (Some name) = refl

pub counted_params : (p : Place) (params : List Param) → 0 < p.depth → Counted p.counts (with_params p params).counts (param_elements params)
counted_params p [] deep = counted_none p.counts
counted_params p (x ∷ rest) deep =
    counted_both (counted_param p x.base x.name deep) (counted_params (with_param p x.base x.name) rest (let same = param_deep p x.base x.name in omega arith))

pub params_deep : (p : Place) (params : List Param) → (with_params p params).depth ≡ p.depth
params_deep p [] = refl
params_deep p (x ∷ rest) = params_deep (with_param p x.base x.name) rest ∙ param_deep p x.base x.name

-- ---- the whole file

-- the kinds of all cells
abbrev pub cell_kinds_of : List ExternalDeclaration → List IntType
cell_kinds_of [] = []
cell_kinds_of (objects hidden of ∷ rest) = declared_kinds of.base of.declarators ++ cell_kinds_of rest
cell_kinds_of (prototype line lead gives name params void_word ∷ rest) = cell_kinds_of rest
cell_kinds_of (function line hidden gives name params void_word body ∷ rest) = cell_kinds_of rest

-- a declaration at file scope leaves the place there, and so does all else
pub flat_declarators : (p : Place) (base : TypeName) (ds : List InitDeclarator) → (with_declarators p base ds).depth ≡ p.depth
flat_declarators p base [] = refl
flat_declarators p base (d ∷ rest) = flat_declarators (with_declarator p base d) base rest

-- what a function counts, from its parameters on
pub counted_function : (p : Place) (gives : TypeName) (name : ℕ) (params : List Param) (body : Statement) → is_block body ≡ true
    → Counted (into (with_function p name) gives).counts (after_body (into_body p gives name params) body).counts (param_elements params ++ kinds_in body)
counted_function p gives name params body is =
    let p0 : Place = into (with_function p name) gives in
    let deep : 0 < p0.depth = omega arith in
    counted_both (counted_params p0 params deep) (counted_body (into_body p gives name params) body (let same = params_deep p0 params in omega arith) is)

from_zero : {c d : Counts} {kinds : List IntType} → Counted (record c { locals = 0 }) d kinds → Counts_out c d []
from_zero {c} {d} n = record {
  cells = (let k = n.cells in omega arith);
  mutexes = n.mutexes;
  conds = n.conds;
  handles = n.handles;
  few = λ x y. (let k = n.cells in let l = n.elements_ in (omega arith, omega arith));
}

pub out_external_function : (p : Place) (gives : TypeName) (name : ℕ) (params : List Param) (body : Statement) → is_block body ≡ true → Counts_out p.counts (after_body (into_body p gives name params) body).counts []
out_external_function p gives name params body is = from_zero (counted_function p gives name params body is)

pub out_externals : (file : File) (p : Place) (es : List ExternalDeclaration) → p.depth ≡ 0 → externals_faults file p es ≡ [] → AllByRecursion FitsExternal es → Counts_out p.counts (after_externals p es).counts (cell_kinds_of es)
unfolding externals_faults external_faults after_externals after_external
out_externals file p [] flat clear fits = out_none p.counts
out_externals file p (objects hidden of ∷ rest) flat clear fits =
    out_both (out_declarators file p of.base of.declarators flat (back _ _ (front _ _ clear)))
    (out_externals file (with_declaration p of) rest (flat_declarators p of.base of.declarators ∙ flat) (back _ _ clear) fits.1)
out_externals file p (prototype line lead gives name params void_word ∷ rest) flat clear fits = out_externals file (with_function p name) rest flat (back _ _ clear) fits.1
out_externals file p (function line hidden gives name params void_word body ∷ rest) flat clear fits =
    let inner : Place = after_body (into_body p gives name params) body in
    out_both (out_external_function p gives name params body fits.0.2) (out_externals file (past p name inner) rest flat (back _ _ clear) fits.1)

-- ---- first words

words_count : (es : Expressions) → length (words_in es) ≡ count es
words_count none = refl
words_count (and e rest) = ap (λ (n : ℕ). suc n) (words_count rest)

first_length : (of : ValueType) (length_ : Option Expression) (first : Initializer) → is_bad_length length_ ≡ false → is_bad_initializer of length_ first ≡ false → length (first_words (elements length_) first) ≡ elements length_
first_length of l nothing right fits = length-replicate (elements l) 0
first_length of l (single e) right fits =
    let some : IsLength (elements l) = length_fits l in
    let least : 1 ≤ elements l = some.least in
    let zs : List ℕ = replicate (elements l - 1) 0 in
    let n : length zs ≡ elements l - 1 = length-replicate (elements l - 1) 0 in
    omega (arith, n, least)
first_length of l (listed values comma) right fits =
    let low : count values ≤ elements l = values_fit of l values comma right fits in
    let k : length (words_in values) ≡ count values = words_count values in
    let zs : List ℕ = replicate (elements l - length (words_in values)) 0 in
    let n : length zs ≡ elements l - length (words_in values) = length-replicate (elements l - length (words_in values)) 0 in
    let all : length (words_in values ++ zs) ≡ length (words_in values) + length zs = length-append (words_in values) zs in
    omega (arith, low, k, n, all)
first_length of l mutex right fits = length-replicate (elements l) 0
first_length of l cond right fits = length-replicate (elements l) 0

kinds_length : (of : ValueType) (n : ℕ) → is_integer of ≡ true → length (element_kinds of n) ≡ n
kinds_length (Integer kind) n is = length-replicate n kind
kinds_length _ n is = no_truth is

no_kinds : (of : ValueType) (n : ℕ) → (is_nothing of || is_pointer of) ≡ false → is_integer of ≡ false → IsSpelled of → element_kinds of n ≡ []
no_kinds (Integer kind) n plain is spelled = no_truth (sym is)
no_kinds Pointer n plain is spelled = no_truth (sym plain)
no_kinds Nothing n plain is spelled = no_truth (sym plain)
no_kinds Function n plain is spelled = absurd spelled
no_kinds Thread n plain is spelled = refl
no_kinds Mutex n plain is spelled = refl
no_kinds Cond n plain is spelled = refl

integer_words : (file : File) (p : Place) (base : TypeName) (ds : List InitDeclarator) → is_integer (value_type base) ≡ true → declarators_faults file p base ds ≡ [] → length (declarators_words ds) ≡ length (declared_kinds base ds)
unfolding declarators_faults
integer_words file p base [] is clear = refl
integer_words file p base (d ∷ rest) is clear =
    let c : Clean file p base d = clean file p base d (no_rules d.line _ (front _ _ (front _ _ (front _ _ clear)))) in
    length-append (first_words (elements d.length) d.first) (declarators_words rest)
    ∙ ap (λ (n : ℕ). n + length (declarators_words rest)) (first_length (value_type base) d.length d.first c.length_ c.first_ ∙ sym (kinds_length (value_type base) (elements d.length) is))
    ∙ ap (λ (n : ℕ). length (element_kinds (value_type base) (elements d.length)) + n) (integer_words file (with_declarator p base d) base rest is (back _ _ clear))
    ∙ sym (length-append (element_kinds (value_type base) (elements d.length)) (declared_kinds base rest))

no_words : (file : File) (p : Place) (base : TypeName) (ds : List InitDeclarator) → is_integer (value_type base) ≡ false → declarators_faults file p base ds ≡ [] → declared_kinds base ds ≡ []
unfolding declarators_faults
no_words file p base [] is clear = refl
no_words file p base (d ∷ rest) is clear =
    let c : Clean file p base d = clean file p base d (no_rules d.line _ (front _ _ (front _ _ (front _ _ clear)))) in
    rw (no_kinds (value_type base) (elements d.length) c.of is (is_spelled base)) (no_words file (with_declarator p base d) base rest is (back _ _ clear))

declaration_length : (file : File) (p : Place) (base : TypeName) (ds : List InitDeclarator) → declarators_faults file p base ds ≡ [] → length (if is_integer (value_type base) then declarators_words ds else []) ≡ length (declared_kinds base ds)
declaration_length file p base ds clear =
    elim (cases_Bool (is_integer (value_type base))) [
      | inl is ↦ rw is (integer_words file p base ds is clear)
      | inr other ↦ rw (other, no_words file p base ds other clear) refl
    ]

-- there are as many words as kinds
pub cells_length : (file : File) (p : Place) (es : List ExternalDeclaration) → externals_faults file p es ≡ [] → length (cells_of es) ≡ length (cell_kinds_of es)
unfolding externals_faults external_faults cells_of
cells_length file p [] clear = refl
cells_length file p (objects hidden of ∷ rest) clear =
    length-append (declaration_words of) (cells_of rest)
    ∙ ap (λ (n : ℕ). n + length (cells_of rest)) (declaration_length file p of.base of.declarators (back _ _ (front _ _ clear)))
    ∙ ap (λ (n : ℕ). length (declared_kinds of.base of.declarators) + n) (cells_length file (after_external p (objects hidden of)) rest (back _ _ clear))
    ∙ sym (length-append (declared_kinds of.base of.declarators) (cell_kinds_of rest))
cells_length file p (prototype line lead gives name params void_word ∷ rest) clear = cells_length file (after_external p (prototype line lead gives name params void_word)) rest (back _ _ clear)
cells_length file p (function line hidden gives name params void_word body ∷ rest) clear = cells_length file (after_external p (function line hidden gives name params void_word body)) rest (back _ _ clear)

-- each of them is a word
abbrev Words : List ℕ → Type 0
Words xs = All (λ v. v < value_bound) xs

words_both : (xs ys : List ℕ) → Words xs → Words ys → Words (xs ++ ys)
words_both xs ys a b = All-append (λ v. v < value_bound) xs ys a b

zeros : (n : ℕ) → Words (replicate n 0)
zeros n = All-replicate (λ v. v < value_bound) n 0 (omega arith)

one_word : (o : Option Word) → word_in o < value_bound
one_word None = omega arith
one_word (Some a) = omega arith

listed_words : (es : Expressions) → Words (words_in es)
listed_words none = All-nil (λ v. v < value_bound)
listed_words (and e rest) = All-cons (λ v. v < value_bound) (word_in (constant_value e)) (words_in rest) (one_word (constant_value e)) (listed_words rest)

first_are_words : (n : ℕ) (first : Initializer) → Words (first_words n first)
first_are_words n nothing = zeros n
first_are_words n (single e) = All-cons (λ v. v < value_bound) (word_in (constant_value e)) (replicate (n - 1) 0) (one_word (constant_value e)) (zeros (n - 1))
first_are_words n (listed values comma) = words_both (words_in values) (replicate (n - length (words_in values)) 0) (listed_words values) (zeros (n - length (words_in values)))
first_are_words n mutex = zeros n
first_are_words n cond = zeros n

declarators_are_words : (ds : List InitDeclarator) → Words (declarators_words ds)
declarators_are_words [] = All-nil (λ v. v < value_bound)
declarators_are_words (d ∷ rest) = words_both (first_words (elements d.length) d.first) (declarators_words rest) (first_are_words (elements d.length) d.first) (declarators_are_words rest)

if_words : (b : Bool) (xs : List ℕ) → Words xs → Words (if b then xs else [])
if_words true xs a = a
if_words false xs a = All-nil (λ v. v < value_bound)

pub cells_are_words : (es : List ExternalDeclaration) → All (λ v. v < value_bound) (cells_of es)
unfolding cells_of
cells_are_words [] = All-nil (λ v. v < value_bound)
cells_are_words (objects hidden of ∷ rest) =
    words_both (declaration_words of) (cells_of rest) (if_words (is_integer (value_type of.base)) (declarators_words of.declarators) (declarators_are_words of.declarators)) (cells_are_words rest)
cells_are_words (prototype line lead gives name params void_word ∷ rest) = cells_are_words rest
cells_are_words (function line hidden gives name params void_word body ∷ rest) = cells_are_words rest
