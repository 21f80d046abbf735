-- The bytes of an integer constant are letters, digits and `_`.
use Rattle.std.proofs.Common.{◌≡◌, ℕ, Bool, true, false, eqb, List, [], ◌∷◌, ◌++◌, take, drop, Option, Some, None, refl, sym, subst, ◌∙◌, arith, inl, inr}
use Rattle.std.specs.Prelude.{◌&&◌}
use Rattle.std.specs.Char.{is_ascii_digit, is_ascii_hexdigit}
use Rattle.std.specs.List.{prefix_len, list_all}
use Rattle.std.specs.Option.{option_and_then}
use Rattle.std.specs.Str.{bytes_eq}
use Rattle.std.proofs.lemmas.Bool.{and_parts, and_from, eqb-true}
use Rattle.std.proofs.lemmas.Bool.Decides.{nat_tests}
use Rattle.std.proofs.lemmas.List.{take-append-drop}
use Rattle.std.proofs.lemmas.List.Folds.{list_all-append}
use Rattle.std.proofs.lemmas.Slice.Eq.{bytes_eq-Decides}
use Rattle.lz_base.proofs.OptionLemmas.{if_some}
use Rattle.lz_tree.specs.Pieces.{ConstantPiece, Suffix, suffixes, suffix_of, integer_of, digits_of, begins, is, is_x, is_word_byte, is_octal_digit}
use Rattle.lz_lex.proofs.PrefixLemmas.{found, prefix_all}
use Rattle.lz_lex.proofs.ClassLemmas.{digit_is_byte}

all-weaker : (p q : ℕ → Bool) (xs : List ℕ) → ((b : ℕ) → p b ≡ true → q b ≡ true) → list_all p xs ≡ true → list_all q xs ≡ true
all-weaker p q [] weaker h = refl
all-weaker p q (x ∷ xs) weaker h =
    let parts = and_parts (p x) (list_all p xs) h in
    and_from (q x) (list_all q xs) (weaker x parts.0) (all-weaker p q xs weaker parts.1)

octal_byte : (b : ℕ) → is_octal_digit b ≡ true → is_word_byte b ≡ true
octal_byte b h = grind (arith, nat_tests)

hex_byte : (b : ℕ) → is_ascii_hexdigit b ≡ true → is_word_byte b ≡ true
hex_byte b h = grind (arith, nat_tests)

x_byte : (b : ℕ) → is_x b ≡ true → is_word_byte b ≡ true
x_byte b h = grind (arith, nat_tests)

suffix_bytes : (letters : List ℕ) (s : Suffix) → suffix_of letters ≡ Some s → list_all is_word_byte letters ≡ true
unfolding suffix_of
suffix_bytes letters s e =
    let f = found (λ t. bytes_eq letters t.letters) (λ t. list_all is_word_byte t.letters) suffixes s e refl in
    subst (λ (t : List ℕ). list_all is_word_byte t ≡ true) (sym ((bytes_eq-Decides letters s.letters).0 f.0)) f.1

and_then_some : {A B : Type 0} (f : A → Option B) (o : Option A) (y : B) → option_and_then f o ≡ Some y → (x : A) × (o ≡ Some x)
and_then_some f None y e = absurd cc
and_then_some f (Some x) y e = (x, refl)

digits_bytes : (p : ℕ → Bool) (radix : ℕ) (decimal : Bool) (bytes : List ℕ) (c : ConstantPiece) → ((b : ℕ) → p b ≡ true → is_word_byte b ≡ true)
    → digits_of p radix decimal bytes ≡ Some c → list_all is_word_byte bytes ≡ true
unfolding digits_of
digits_bytes p radix decimal bytes c weaker e =
    elim (if_some (begins p bytes) _ None c e) [
      | inl some ↦
          let n : ℕ = prefix_len p bytes in
          let s = and_then_some _ (suffix_of (drop n bytes)) c some.1 in
          let front : list_all is_word_byte (take n bytes) ≡ true = all-weaker p is_word_byte (take n bytes) weaker (prefix_all p bytes) in
          let back : list_all is_word_byte (drop n bytes) ≡ true = suffix_bytes (drop n bytes) s.0 s.1 in
          let both : list_all is_word_byte (take n bytes ++ drop n bytes) ≡ true = list_all-append is_word_byte (take n bytes) (drop n bytes) ∙ and_from _ _ front back in
          subst (λ (t : List ℕ). list_all is_word_byte t ≡ true) (take-append-drop n bytes) both
      | inr none ↦ let bad : None ≡ Some c = none.1 in absurd cc
    ]

hex_front : (bytes : List ℕ) → (begins (is 48) bytes && begins is_x (drop 1 bytes)) ≡ true → list_all is_word_byte (drop 2 bytes) ≡ true → list_all is_word_byte bytes ≡ true
hex_front [] h all = absurd cc
hex_front (a ∷ []) h all = let parts = and_parts (eqb a 48) false h in absurd (let bad : false ≡ true = parts.1 in cc)
hex_front (a ∷ x ∷ p) h all =
    let parts = and_parts (eqb a 48) (is_x x) h in
    let first : is_word_byte a ≡ true = subst (λ (b : ℕ). is_word_byte b ≡ true) (sym (eqb-true a 48 parts.0)) refl in
    and_from (is_word_byte a) _ first (and_from (is_word_byte x) _ (x_byte x parts.1) all)

-- an integer constant is a row of letters, digits and `_`
pub integer_bytes : (bytes : List ℕ) (c : ConstantPiece) → integer_of bytes ≡ Some c → list_all is_word_byte bytes ≡ true
unfolding integer_of
integer_bytes bytes c e =
    elim (if_some (begins (is 48) bytes && begins is_x (drop 1 bytes)) _ _ c e) [
      | inl hex ↦ hex_front bytes hex.0 (digits_bytes is_ascii_hexdigit 16 false (drop 2 bytes) c hex_byte hex.1)
      | inr rest ↦ elim (if_some (begins (is 48) bytes) _ _ c rest.1) [
        | inl octal ↦ digits_bytes is_octal_digit 8 false bytes c octal_byte octal.1
        | inr decimal ↦ digits_bytes is_ascii_digit 10 true bytes c digit_is_byte decimal.1
      ]
    ]
