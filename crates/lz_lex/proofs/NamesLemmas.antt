-- Names and their numbers, defined names and their bodies, and the tokens that each step adds.
use Rattle.std.proofs.Common.{◌≡◌, ℕ, ◌+◌, ◌<◌, ◌≤◌, Bool, true, false, not, cond, List, [], ◌∷◌, ◌++◌, length, map, Option, Some, None, refl, sym, ap, ◌∙◌, arith, inl, inr, append_assoc, length-append}
use Rattle.std.specs.Prelude.{Result, Ok, Err, OnOk, ◌||◌, ◌&&◌, option_map, is_some, count_by}
use Rattle.std.specs.Borrow.{Bor}
use Rattle.std.specs.List.{list_any, position_or_len}
use Rattle.std.specs.Map.{lookup}
use Rattle.std.specs.Str.{bytes_eq}
use Rattle.std.proofs.lemmas.Bool.{cases_Bool, cond-true, cond-false, and_parts}
use Rattle.std.proofs.lemmas.List.{append-nil, map_push, map-append}
use Rattle.std.proofs.lemmas.List.Sums.{count_by-le-length}
use Rattle.std.proofs.lemmas.Slice.Eq.{bytes_eq-Decides}
use Rattle.lz_tree.specs.declared.token.Token.{Token}
use Rattle.lz_tree.specs.declared.token.TokenKind.{TokenKind}
use Rattle.lz_tree.specs.declared.token.TokenKind.TheVariants as kinds
use Rattle.lz_tree.specs.declared.token.Keyword.{Keyword}
use Rattle.lz_tree.specs.Pieces.{Piece, white, block_comment, line_comment, include, word, define, keyword_of, is_newline}
use Rattle.lz_tree.specs.Pieces as pieces
use Rattle.lz_tree.specs.Tokens.{Cutting, Definition, with_name, number_in, placed, meaning, meaning_by, Meaning, keyword, replaced, named, names_behind, word_kinds, where_true, body_kinds, is_passed_over, is_defined, definition_of, behind_piece, piece_names, piece_defined, piece_kinds, fresh_behind, may_stand}
use Rattle.lz_lex.specs.declared.directive.Body.{Body}
use Rattle.lz_lex.specs.Views.{texts, definition, body}
use Rattle.lz_lex.specs.Steps.{added, worded, pieced, IsWithin}
use Rattle.lz_lex.specs.Steps as steps

-- ---- names

abbrev pub is_word : Bor (List ℕ) → Bor (List ℕ) → Bool
is_word name w = bytes_eq name.now w.now

any_texts : (name : Bor (List ℕ)) (words : List (Bor (List ℕ))) → list_any (is_word name) words ≡ list_any (bytes_eq name.now) (texts words)
any_texts name [] = refl
any_texts name (w ∷ ws) = ap (λ t. bytes_eq name.now w.now || t) (any_texts name ws)

-- the names with one more are those that the set keeps
pub texts-insert : (name : Bor (List ℕ)) (words words' : List (Bor (List ℕ))) → words' ≡ cond (list_any (is_word name) words) words (words ++ name ∷ []) → texts words' ≡ with_name (texts words) name.now
texts-insert name words words' e =
    ap texts e ∙ by (list_any (is_word name) words) ∙ ap (λ t. cond t (texts words) (texts words ++ name.now ∷ [])) (any_texts name words)
  where
    by : (t : Bool) → texts (cond t words (words ++ name ∷ [])) ≡ cond t (texts words) (texts words ++ name.now ∷ [])
    by true = refl
    by false = map_push (λ (w : Bor (List ℕ)). w.now) words name

number_new : (name : Bor (List ℕ)) (words : List (Bor (List ℕ))) → position_or_len (is_word name) words ≡ number_in (texts words ++ name.now ∷ []) name.now
number_new name [] = sym (cond-true (bytes_eq name.now name.now) 0 (0 + 1) ((bytes_eq-Decides name.now name.now).1 refl))
number_new name (w ∷ ws) = by (bytes_eq name.now w.now) (number_new name ws)
  where
    by : (t : Bool) → position_or_len (is_word name) ws ≡ number_in (texts ws ++ name.now ∷ []) name.now
        → cond (not t) (1 + position_or_len (is_word name) ws) 0 ≡ cond t 0 (number_in (texts ws ++ name.now ∷ []) name.now + 1)
    by true e = refl
    by false e = omega (arith, e)

number_old : (name : Bor (List ℕ)) (words : List (Bor (List ℕ))) → list_any (is_word name) words ≡ true → position_or_len (is_word name) words ≡ number_in (texts words) name.now
number_old name [] h = absurd cc
number_old name (w ∷ ws) h = by (bytes_eq name.now w.now) h (number_old name ws)
  where
    by : (t : Bool) → (t || list_any (is_word name) ws) ≡ true → (list_any (is_word name) ws ≡ true → position_or_len (is_word name) ws ≡ number_in (texts ws) name.now)
        → cond (not t) (1 + position_or_len (is_word name) ws) 0 ≡ cond t 0 (number_in (texts ws) name.now + 1)
    by true h e = refl
    by false h e = omega (arith, e h)

-- the index that the set answers is the number of the name
pub number-insert : (name : Bor (List ℕ)) (words : List (Bor (List ℕ))) → position_or_len (is_word name) words ≡ number_in (with_name (texts words) name.now) name.now
number-insert name words =
    elim (cases_Bool (list_any (is_word name) words)) [
      | inl old ↦
          number_old name words old
          ∙ ap (λ (ns : List (List ℕ)). number_in ns name.now) (sym (cond-true (list_any (bytes_eq name.now) (texts words)) (texts words) _ (sym (any_texts name words) ∙ old)))
      | inr new ↦
          number_new name words
          ∙ ap (λ (ns : List (List ℕ)). number_in ns name.now) (sym (cond-false (list_any (bytes_eq name.now) (texts words)) (texts words) _ (sym (any_texts name words) ∙ new)))
    ]

length-with_name : (names : List (List ℕ)) (name : List ℕ) → length (with_name names name) ≤ length names + 1
length-with_name names name = by (list_any (bytes_eq name) names)
  where
    by : (t : Bool) → length (cond t names (names ++ name ∷ [])) ≤ length names + 1
    by true = omega arith
    by false = omega (arith, length-append names (name ∷ []))

-- ---- defined names

abbrev pub is_key : List ℕ → Bor (List ℕ) → Bool
is_key name key = bytes_eq name key.now

-- what the map finds is what is defined
pub is_defined-lookup : (name : List ℕ) (es : List (Bor (List ℕ) × Option Body)) → is_some (lookup (is_key name) es) ≡ is_defined (map definition es) name
is_defined-lookup name [] = refl
is_defined-lookup name (e ∷ es) = by (bytes_eq name e.0.now) (is_defined-lookup name es)
  where
    by : (t : Bool) → is_some (lookup (is_key name) es) ≡ is_defined (map definition es) name
        → is_some (cond t (Some e.1) (lookup (is_key name) es)) ≡ (t || is_defined (map definition es) name)
    by true h = refl
    by false h = h

-- what a word that is no keyword means, by what the map finds
abbrev pub meant : Option (Option Body) → Meaning
meant None = named
meant (Some b) = replaced (option_map body b)

pub meaning-lookup : (name : List ℕ) (es : List (Bor (List ℕ) × Option Body)) → meaning_by None (definition_of (map definition es) name) ≡ meant (lookup (is_key name) es)
meaning-lookup name [] = refl
meaning-lookup name (e ∷ es) = by (bytes_eq name e.0.now) (meaning-lookup name es)
  where
    by : (t : Bool) → meaning_by None (definition_of (map definition es) name) ≡ meant (lookup (is_key name) es)
        → meaning_by None (cond t (Some (definition e)) (definition_of (map definition es) name)) ≡ meant (cond t (Some e.1) (lookup (is_key name) es))
    by true h = refl
    by false h = h

-- ---- tokens

-- tokens that are added one after the other
pub added-added : (at : Cutting) (xs ys : List TokenKind) → added (added at xs) ys ≡ added at (xs ++ ys)
added-added at xs ys =
    ap (λ (ts : List Token). record at { tokens = ts })
    (append_assoc at.tokens (placed at.line at.place xs) (placed at.line at.place ys)
    ∙ ap (λ (ts : List Token). at.tokens ++ ts) (sym (map-append (λ kind. record { kind = kind; line = at.line; place = at.place }) xs ys)))

pub added-none : (at : Cutting) → added at [] ≡ at
added-none at = ap (λ (ts : List Token). record at { tokens = ts }) (append-nil at.tokens)

-- what a word adds, by what it means
abbrev pub worded_by : Meaning → Cutting → List ℕ → Cutting
worded_by m at letters = record at {
  names = names_behind m at.names letters;
  tokens = at.tokens ++ placed at.line at.place (word_kinds m at.names letters);
}

pub worded-is : (at : Cutting) (letters : List ℕ) (m : Meaning) → meaning at.defined letters ≡ m → worded at letters ≡ worded_by m at letters
unfolding worded
worded-is at letters m e = ap (λ (x : Meaning). worded_by x at letters) e

-- a keyword adds its token, unless it is passed over
pub worded-keyword : (at : Cutting) (letters : List ℕ) (k : Keyword) → keyword_of letters ≡ Some k → worded at letters ≡ added at (where_true (not (is_passed_over k)) (kinds.Keyword k))
unfolding meaning
worded-keyword at letters k e = worded-is at letters (keyword k) (ap (λ o. meaning_by o (definition_of at.defined letters)) e)

meaning-other : (at : Cutting) (letters : List ℕ) (es : List (Bor (List ℕ) × Option Body)) (o : Option (Option Body)) → keyword_of letters ≡ None → at.defined ≡ map definition es
    → lookup (is_key letters) es ≡ o → meaning at.defined letters ≡ meant o
unfolding meaning
meaning-other at letters es o none same found =
    ap (λ k. meaning_by k (definition_of at.defined letters)) none ∙ ap (λ ds. meaning_by None (definition_of ds letters)) same
    ∙ meaning-lookup letters es ∙ ap meant found

-- a defined name adds the tokens of its body
pub worded-defined : (at : Cutting) (letters : List ℕ) (es : List (Bor (List ℕ) × Option Body)) (b : Option Body) → keyword_of letters ≡ None → at.defined ≡ map definition es
    → lookup (is_key letters) es ≡ Some b → worded at letters ≡ added at (body_kinds (option_map body b))
worded-defined at letters es b none same found = worded-is at letters (replaced (option_map body b)) (meaning-other at letters es (Some b) none same found)

-- any other name adds its own token
pub worded-named : (at : Cutting) (letters : List ℕ) (es : List (Bor (List ℕ) × Option Body)) → keyword_of letters ≡ None → at.defined ≡ map definition es
    → lookup (is_key letters) es ≡ None → worded at letters ≡ steps.named at letters
unfolding steps.named
worded-named at letters es none same found = worded-is at letters named (meaning-other at letters es None none same found)

-- ---- pieces

-- a piece without tokens
pub pieced-none : (at : Cutting) (p : Piece) → piece_defined at.defined p ≡ at.defined → piece_names at p ≡ at.names → piece_kinds at p ≡ [] → pieced at p ≡ at
unfolding pieced
pieced-none at p same names none =
    ap (λ (ds : List Definition). record at { defined = ds; names = piece_names at p; tokens = at.tokens ++ placed at.line at.place (piece_kinds at p) }) same
    ∙ ap (λ (ns : List (List ℕ)). record at { names = ns; tokens = at.tokens ++ placed at.line at.place (piece_kinds at p) }) names
    ∙ ap (added at) none ∙ added-none at

-- a piece of one token that is no name
pub pieced-one : (at : Cutting) (p : Piece) (kind : TokenKind) → piece_defined at.defined p ≡ at.defined → piece_names at p ≡ at.names → piece_kinds at p ≡ kind ∷ [] → pieced at p ≡ added at (kind ∷ [])
unfolding pieced
pieced-one at p kind same names one =
    ap (λ (ds : List Definition). record at { defined = ds; names = piece_names at p; tokens = at.tokens ++ placed at.line at.place (piece_kinds at p) }) same
    ∙ ap (λ (ns : List (List ℕ)). record at { names = ns; tokens = at.tokens ++ placed at.line at.place (piece_kinds at p) }) names
    ∙ ap (added at) one

pub pieced-word : (at : Cutting) (letters : List ℕ) → pieced at (word letters) ≡ worded at letters
unfolding pieced worded
pieced-word at letters = refl

pub pieced-define : (at : Cutting) (name : List ℕ) (b : Option pieces.Body) → pieced at (define name b) ≡ record at { defined = at.defined ++ record { name = name; body = b } ∷ [] }
unfolding pieced
pieced-define at name b = ap (λ (ts : List Token). record at { defined = at.defined ++ record { name = name; body = b } ∷ []; tokens = ts }) (append-nil at.tokens)

-- a piece is behind when its tokens are added and the place is moved
pub behind-pieced : (at : Cutting) (p : Piece) (bytes : List ℕ) (at' : Cutting) → at' ≡ pieced at p
    → record { line = at.line + count_by is_newline bytes; place = at.place + length bytes; fresh = fresh_behind at.fresh p; defined = at'.defined; names = at'.names; tokens = at'.tokens } ≡ behind_piece at p bytes
unfolding pieced behind_piece
behind-pieced at p bytes at' e =
    ap (λ (x : Cutting). record { line = at.line + count_by is_newline bytes; place = at.place + length bytes; fresh = fresh_behind at.fresh p; defined = x.defined; names = x.names; tokens = x.tokens }) e

piece-names : (at : Cutting) (p : Piece) → length (piece_names at p) ≤ length at.names + 1
piece-names at (word letters) = by (meaning at.defined letters)
  where
    by : (m : Meaning) → length (names_behind m at.names letters) ≤ length at.names + 1
    by (keyword k) = omega arith
    by (replaced b) = omega arith
    by named = length-with_name at.names letters
piece-names at _ = omega arith

-- lines and names stay at most as many as the bytes
pub within-behind : (at : Cutting) (p : Piece) (bytes : List ℕ) → 0 < length bytes → IsWithin at → IsWithin (behind_piece at p bytes)
unfolding behind_piece
within-behind at p bytes some w = record {
  line = omega (arith, w.line, count_by-le-length is_newline bytes);
  names = omega (arith, w.names, piece-names at p);
}

-- ---- the steps of the code

-- the token of a name by its index in the set
pub named-step : (at : Cutting) (name : Bor (List ℕ)) (words words' : List (Bor (List ℕ))) (index : ℕ) → at.names ≡ texts words
    → words' ≡ cond (list_any (is_word name) words) words (words ++ name ∷ []) → index ≡ position_or_len (is_word name) words
    → added (record at { names = texts words' }) (kinds.Name index ∷ []) ≡ steps.named at name.now
unfolding steps.named
named-step at name words words' index same keys number =
    let names : texts words' ≡ with_name at.names name.now = texts-insert name words words' keys ∙ ap (λ (ns : List (List ℕ)). with_name ns name.now) (sym same) in
    let is : index ≡ number_in (with_name at.names name.now) name.now =
    number ∙ number-insert name words ∙ ap (λ (ns : List (List ℕ)). number_in (with_name ns name.now) name.now) (sym same) in
    ap (λ (ns : List (List ℕ)). added (record at { names = ns }) (kinds.Name index ∷ [])) names
    ∙ ap (λ (n : ℕ). added (record at { names = with_name at.names name.now }) (kinds.Name n ∷ [])) is

some_false : {A : Type 0} (o : Option A) → is_some o ≡ false → o ≡ None
some_false None e = refl
some_false (Some x) e = absurd cc

-- a directive that defines a name is the first to do so
pub stand-define : (at : Cutting) (p : Piece) (name : List ℕ) (b : Option pieces.Body) → p ≡ define name b → at.fresh ≡ true → may_stand at p ≡ not (is_defined at.defined name)
stand-define at p name b e fresh = ap (may_stand at) e ∙ ap (λ t. t && not (is_defined at.defined name)) fresh

pub not_defined : (at : Cutting) (name : List ℕ) (b : Option pieces.Body) (es : List (Bor (List ℕ) × Option Body)) → at.defined ≡ map definition es → may_stand at (define name b) ≡ true
    → lookup (is_key name) es ≡ None
not_defined at name b es same stands =
    let new : not (is_defined at.defined name) ≡ true = (and_parts at.fresh (not (is_defined at.defined name)) stands).1 in
    let none : is_defined (map definition es) name ≡ false = by (is_defined (map definition es) name) (ap (λ ds. not (is_defined ds name)) (sym same) ∙ new) in
    some_false (lookup (is_key name) es) (is_defined-lookup name es ∙ none)
  where
    by : (t : Bool) → not t ≡ true → t ≡ false
    by true e = absurd cc
    by false e = refl

-- a name is defined
pub define-step : (at : Cutting) (name : Bor (List ℕ)) (b : Option Body) (es es' : List (Bor (List ℕ) × Option Body)) → at.defined ≡ map definition es → es' ≡ es ++ (name, b) ∷ []
    → record at { defined = map definition es' } ≡ pieced at (define name.now (option_map body b))
define-step at name b es es' same more =
    ap (λ (ds : List Definition). record at { defined = ds }) (ap (map definition) more ∙ map_push definition es (name, b) ∙ ap (λ (ds : List Definition). ds ++ definition (name, b) ∷ []) (sym same))
    ∙ sym (pieced-define at name.now (option_map body b))

-- what an `Ok` leaves, in another form
pub on_ok : {A E : Type 0} (r : Result A E) (x : Cutting) {y z : Cutting} → OnOk r (x ≡ y) → y ≡ z → OnOk r (x ≡ z)
on_ok (Ok v) x h e = h ∙ e
on_ok (Err v) x h e = tt

-- the pieces without tokens
pub pieced-white : (at : Cutting) (byte : ℕ) → pieced at (white byte) ≡ at
pieced-white at byte = pieced-none at (white byte) refl refl refl

pub pieced-block : (at : Cutting) → pieced at block_comment ≡ at
pieced-block at = pieced-none at block_comment refl refl refl

pub pieced-line : (at : Cutting) → pieced at line_comment ≡ at
pieced-line at = pieced-none at line_comment refl refl refl

pub pieced-include : (at : Cutting) → pieced at include ≡ at
pieced-include at = pieced-none at include refl refl refl
