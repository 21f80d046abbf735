-- First words of cells, added from left to right.
use Rattle.std.proofs.Common.{◌≡◌, ℕ, ◌+◌, ◌-◌, ◌<◌, ◌≤◌, suc, List, [], ◌∷◌, ◌++◌, length, map, drop, get_or, replicate, refl, sym, ap, ◌∙◌, append_assoc, append-nil, drop_of_length-le}
use Rattle.std.proofs.lemmas.List.{replicate-append-replicate}
use Rattle.lz_tree.specs.declared.expression.Expr.{Expr}
use Rattle.lz_tree.specs.declared.program.External.{External}
use Rattle.lz_tree.specs.declared.statement.Declarator.{Declarator}
use Rattle.lz_tree.specs.Trees.{ExternalDeclaration, objects, prototype, function, expression, expressions_of, init_declarator, external_declaration}
use Rattle.lz_scopes.specs.Constants.{constant_value, elements}
use Rattle.lz_base.proofs.ListLemmas.{drop_item}
use Rattle.lz_resolve.specs.ScopedPrograms.{word_in, words_in, first_words, declarators_words, declaration_words, cells_of}

-- Words so far, and those of the items that are left, are the words before and those of all.
pub record Adds {A : Type 0} (words : List A → List ℕ) (start : List ℕ) (all : List A) (now : List ℕ) (rest : List A) : Type 0 where
  pub same : start ++ words all ≡ now ++ words rest

adds_more : {A : Type 0} (words : List A → List ℕ) (own : A → List ℕ) → ((x : A) (rest : List A) → words (x ∷ rest) ≡ own x ++ words rest)
    → (start now now' : List ℕ) (all xs : List A) (i : ℕ) (x : A) → Adds words start all now (drop i xs) → i < length xs → x ≡ get_or xs i x → now' ≡ now ++ own x
    → Adds words start all now' (drop (i + 1) xs)
adds_more words own step start now now' all xs i x adds below is more = record {
  same = adds.same ∙ rw (drop_item xs i x below is, step x (drop (i + 1) xs), more) (sym (append_assoc now (own x) (words (drop (i + 1) xs))));
}

adds_all : {A : Type 0} (words : List A → List ℕ) → words [] ≡ [] → (start now : List ℕ) (all xs : List A) (i : ℕ) → Adds words start all now (drop i xs) → length xs ≤ i → now ≡ start ++ words all
adds_all words nothing start now all xs i adds over = sym (adds.same ∙ rw (drop_of_length-le xs over, nothing) (append-nil now))

-- ---- values

abbrev pub words_of_values : List Expr → List ℕ
words_of_values es = words_in (expressions_of (map expression es))

abbrev own_value : Expr → List ℕ
own_value e = word_in (constant_value (expression e)) ∷ []

pub values_more : (start now now' : List ℕ) (all es : List Expr) (i : ℕ) (e : Expr) → Adds words_of_values start all now (drop i es) → i < length es → e ≡ get_or es i e
    → now' ≡ now ++ word_in (constant_value (expression e)) ∷ [] → Adds words_of_values start all now' (drop (i + 1) es)
values_more start now now' all es i e adds below is more = adds_more words_of_values own_value (λ x rest. refl) start now now' all es i e adds below is more

pub values_all : (start now : List ℕ) (all es : List Expr) (i : ℕ) → Adds words_of_values start all now (drop i es) → length es ≤ i → now ≡ start ++ words_of_values all
values_all start now all es i adds over = adds_all words_of_values refl start now all es i adds over

pub values_count : (es : List Expr) → length (words_in (expressions_of (map expression es))) ≡ length es
values_count [] = refl
values_count (e ∷ rest) = ap suc (values_count rest)

pub listed_words : (start with_values now : List ℕ) (count : ℕ) (es : List Expr) → with_values ≡ start ++ words_of_values es → now ≡ with_values ++ replicate (count - length es) 0
    → now ≡ start ++ (words_of_values es ++ replicate (count - length (words_of_values es)) 0)
listed_words start with_values now count es words zeros =
    rw (zeros, words, values_count es) (append_assoc start (words_of_values es) (replicate (count - length es) 0))

-- ---- declarators

abbrev pub words_of_declarators : List Declarator → List ℕ
words_of_declarators ds = declarators_words (map init_declarator ds)

abbrev own_declarator : Declarator → List ℕ
own_declarator d = let v = init_declarator d in first_words (elements v.length) v.first

pub declarators_more : (start now now' : List ℕ) (all ds : List Declarator) (i : ℕ) (d : Declarator) → Adds words_of_declarators start all now (drop i ds) → i < length ds → d ≡ get_or ds i d
    → now' ≡ now ++ (let v = init_declarator d in first_words (elements v.length) v.first) → Adds words_of_declarators start all now' (drop (i + 1) ds)
declarators_more start now now' all ds i d adds below is more = adds_more words_of_declarators own_declarator (λ x rest. refl) start now now' all ds i d adds below is more

pub declarators_all : (start now : List ℕ) (all ds : List Declarator) (i : ℕ) → Adds words_of_declarators start all now (drop i ds) → length ds ≤ i → now ≡ start ++ words_of_declarators all
declarators_all start now all ds i adds over = adds_all words_of_declarators refl start now all ds i adds over

-- ---- external declarations

pub cells_first : (e : ExternalDeclaration) (rest : List ExternalDeclaration) → cells_of (e ∷ rest) ≡ cells_of (e ∷ []) ++ cells_of rest
unfolding cells_of
cells_first (objects hidden of) rest = rw (append-nil (declaration_words of)) refl
cells_first (prototype line lead gives name params void_word) rest = refl
cells_first (function line hidden gives name params void_word body) rest = refl

cells_nothing : cells_of [] ≡ []
unfolding cells_of
cells_nothing = refl

abbrev pub words_of_externals : List External → List ℕ
words_of_externals es = cells_of (map external_declaration es)

abbrev own_external : External → List ℕ
own_external e = cells_of (external_declaration e ∷ [])

pub externals_more : (start now now' : List ℕ) (all es : List External) (i : ℕ) (e : External) → Adds words_of_externals start all now (drop i es) → i < length es → e ≡ get_or es i e
    → now' ≡ now ++ cells_of (external_declaration e ∷ []) → Adds words_of_externals start all now' (drop (i + 1) es)
externals_more start now now' all es i e adds below is more =
    adds_more words_of_externals own_external (λ x rest. cells_first (external_declaration x) (map external_declaration rest)) start now now' all es i e adds below is more

pub externals_all : (start now : List ℕ) (all es : List External) (i : ℕ) → Adds words_of_externals start all now (drop i es) → length es ≤ i → now ≡ start ++ words_of_externals all
externals_all start now all es i adds over = adds_all words_of_externals cells_nothing start now all es i adds over

-- ---- zeros

pub zeros_more : (start now now' : List ℕ) (n : ℕ) → now ≡ start ++ replicate n 0 → now' ≡ now ++ 0 ∷ [] → now' ≡ start ++ replicate (n + 1) 0
zeros_more start now now' n so_far more = rw (more, so_far) (append_assoc start (replicate n 0) (0 ∷ []) ∙ ap (λ (xs : List ℕ). start ++ xs) (replicate-append-replicate n 1 0))

-- ---- words alone

pub words_alone : (words : List ℕ) → words ++ [] ≡ words
words_alone words = append-nil words
