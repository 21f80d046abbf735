-- Which piece some bytes can be, by the first of them.
use Rattle.std.proofs.Common.{◌≡◌, ℕ, Bool, true, false, not, eqb, List, [], ◌∷◌, None, refl, sym, subst, arith}
use Rattle.std.specs.Prelude.{◌&&◌, option_map}
use Rattle.std.specs.Char.{is_ascii_digit}
use Rattle.std.specs.Option.{option_or}
use Rattle.std.specs.Str.{bytes_eq}
use Rattle.std.proofs.lemmas.Bool.{cond-false, and_parts, eqb-true, or_left, or_right, both_ways}
use Rattle.std.proofs.lemmas.Bool.Decides.{nat_tests}
use Rattle.lz_tree.specs.Pieces.{piece_of, white_of, comment_of, directive_of, word_of, integer, integer_of, character, character_of, text_of, mark, punct_of, punct_text, puncts, begins, is_white, is_word_start, is_word_byte, is_block_comment, is_line_comment, is_text, digits_of}
use Rattle.lz_lex.proofs.PrefixLemmas.{option_or-none, none_found}

-- ---- what a first byte rules out

white-none : (b : ℕ) (p : List ℕ) → is_white b ≡ false → white_of (b ∷ p) ≡ None
white-none b [] h = cond-false (is_white b) _ _ h
white-none b (c ∷ p) h = refl

comment-none : (b : ℕ) (p : List ℕ) → eqb b 47 ≡ false → comment_of (b ∷ p) ≡ None
unfolding is_block_comment is_line_comment
comment-none b p h = rw h refl

directive-none : (b : ℕ) (p : List ℕ) → eqb b 35 ≡ false → directive_of (b ∷ p) ≡ None
unfolding directive_of
directive-none b p h = rw h refl

word-none : (b : ℕ) (p : List ℕ) → is_word_start b ≡ false → word_of (b ∷ p) ≡ None
word-none b p h = rw h refl

no_zero : (b : ℕ) → is_ascii_digit b ≡ false → eqb b 48 ≡ false
no_zero b h = grind (arith, nat_tests)

pub integer-none : (b : ℕ) (p : List ℕ) → is_ascii_digit b ≡ false → integer_of (b ∷ p) ≡ None
unfolding integer_of digits_of
integer-none b p h = let z : eqb b 48 ≡ false = no_zero b h in rw (z, h) refl

pub character-none : (b : ℕ) (p : List ℕ) → eqb b 39 ≡ false → character_of (b ∷ p) ≡ None
unfolding character_of
character-none b [] h = refl
character-none b (x ∷ []) h = refl
character-none b (x ∷ y ∷ []) h = rw h refl
character-none b (x ∷ y ∷ z ∷ []) h = rw h refl
character-none b (x ∷ y ∷ z ∷ w ∷ p) h = refl

text-none : (b : ℕ) (p : List ℕ) → eqb b 34 ≡ false → text_of (b ∷ p) ≡ None
unfolding is_text
text-none b p h = rw h refl

-- what a punctuator begins with
abbrev pub is_punct_byte : ℕ → Bool
is_punct_byte b = not (is_word_byte b) && not (is_white b) && not (eqb b 35) && not (eqb b 34) && not (eqb b 39)

-- bytes that are a text begin as it does
pub same_begin : (b : ℕ) (p text : List ℕ) → bytes_eq (b ∷ p) text ≡ true → begins (λ c. eqb b c) text ≡ true
same_begin b p [] h = absurd cc
same_begin b p (c ∷ q) h = (and_parts (eqb b c) (bytes_eq p q) h).0

begin_class : (b : ℕ) (text : List ℕ) → begins (λ c. eqb b c) text ≡ true → begins is_punct_byte text ≡ true → is_punct_byte b ≡ true
begin_class b [] e h = absurd cc
begin_class b (c ∷ q) e h = subst (λ (x : ℕ). is_punct_byte x ≡ true) (sym (eqb-true b c e)) h

pub punct-none : (b : ℕ) (p : List ℕ) → is_punct_byte b ≡ false → punct_of (b ∷ p) ≡ None
unfolding punct_of
punct-none b p h =
    none_found (λ m. bytes_eq (b ∷ p) (punct_text m)) (λ m. begins is_punct_byte (punct_text m)) puncts refl
    (λ m class same. both_ways (is_punct_byte b) h (begin_class b (punct_text m) (same_begin b p (punct_text m) same) class))

-- ---- pieces by their first byte

start_facts : (b : ℕ) → is_word_start b ≡ true
    → (is_white b ≡ false) × (eqb b 47 ≡ false) × (eqb b 35 ≡ false) × (is_ascii_digit b ≡ false) × (eqb b 39 ≡ false) × (eqb b 34 ≡ false)
start_facts b h =
    (grind (arith, nat_tests), grind (arith, nat_tests), grind (arith, nat_tests), grind (arith, nat_tests), grind (arith, nat_tests), grind (arith, nat_tests))

digit_facts : (b : ℕ) → is_ascii_digit b ≡ true
    → (is_white b ≡ false) × (eqb b 47 ≡ false) × (eqb b 35 ≡ false) × (is_word_start b ≡ false) × (eqb b 39 ≡ false) × (eqb b 34 ≡ false)
digit_facts b h =
    (grind (arith, nat_tests), grind (arith, nat_tests), grind (arith, nat_tests), grind (arith, nat_tests), grind (arith, nat_tests), grind (arith, nat_tests))

white_facts : (b : ℕ) → is_white b ≡ true
    → (is_word_start b ≡ false) × (eqb b 47 ≡ false) × (eqb b 35 ≡ false) × (is_ascii_digit b ≡ false) × (eqb b 39 ≡ false) × (eqb b 34 ≡ false)
white_facts b h =
    (grind (arith, nat_tests), grind (arith, nat_tests), grind (arith, nat_tests), grind (arith, nat_tests), grind (arith, nat_tests), grind (arith, nat_tests))

pub start_is_byte : (b : ℕ) → is_word_start b ≡ true → is_word_byte b ≡ true
start_is_byte b h = or_left (is_word_start b) (is_ascii_digit b) h

pub digit_is_byte : (b : ℕ) → is_ascii_digit b ≡ true → is_word_byte b ≡ true
digit_is_byte b h = or_right (is_word_start b) (is_ascii_digit b) h

byte_no_punct : (b : ℕ) → is_word_byte b ≡ true → is_punct_byte b ≡ false
byte_no_punct b h = rw h refl

white_no_punct : (b : ℕ) → is_white b ≡ true → is_punct_byte b ≡ false
white_no_punct b h = by (is_word_byte b)
  where
    by : (a : Bool) → (not a && not (is_white b) && not (eqb b 35) && not (eqb b 34) && not (eqb b 39)) ≡ false
    by true = refl
    by false = rw h refl

pub word_piece : (b : ℕ) (p : List ℕ) → is_word_start b ≡ true → piece_of (b ∷ p) ≡ word_of (b ∷ p)
unfolding piece_of
word_piece b p h =
    let f = start_facts b h in
    rw (white-none b p f.0, comment-none b p f.1, directive-none b p f.2, integer-none b p f.3, character-none b p f.4, text-none b p f.5, punct-none b p (byte_no_punct b (start_is_byte b h)))
    (option_or-none (word_of (b ∷ p)))

pub integer_piece : (b : ℕ) (p : List ℕ) → is_ascii_digit b ≡ true → piece_of (b ∷ p) ≡ option_map integer (integer_of (b ∷ p))
unfolding piece_of
integer_piece b p h =
    let f = digit_facts b h in
    rw (white-none b p f.0, comment-none b p f.1, directive-none b p f.2, word-none b p f.3, character-none b p f.4, text-none b p f.5, punct-none b p (byte_no_punct b (digit_is_byte b h)))
    (option_or-none (option_map integer (integer_of (b ∷ p))))

pub white_piece : (b : ℕ) (p : List ℕ) → is_white b ≡ true → piece_of (b ∷ p) ≡ white_of (b ∷ p)
unfolding piece_of
white_piece b p h =
    let f = white_facts b h in
    rw (comment-none b p f.1, directive-none b p f.2, word-none b p f.0, integer-none b p f.3, character-none b p f.4, text-none b p f.5, punct-none b p (white_no_punct b h))
    (option_or-none (white_of (b ∷ p)))

pub directive_piece : (p : List ℕ) → piece_of (35 ∷ p) ≡ directive_of (35 ∷ p)
unfolding piece_of
directive_piece p =
    rw (white-none 35 p refl, comment-none 35 p refl, word-none 35 p refl, integer-none 35 p refl, character-none 35 p refl, text-none 35 p refl, punct-none 35 p refl)
    (option_or-none (directive_of (35 ∷ p)))

pub character_piece : (p : List ℕ) → piece_of (39 ∷ p) ≡ option_map character (character_of (39 ∷ p))
unfolding piece_of
character_piece p =
    rw (white-none 39 p refl, comment-none 39 p refl, directive-none 39 p refl, word-none 39 p refl, integer-none 39 p refl, text-none 39 p refl, punct-none 39 p refl)
    (option_or-none (option_map character (character_of (39 ∷ p))))

pub text_piece : (p : List ℕ) → piece_of (34 ∷ p) ≡ text_of (34 ∷ p)
unfolding piece_of
text_piece p =
    rw (white-none 34 p refl, comment-none 34 p refl, directive-none 34 p refl, word-none 34 p refl, integer-none 34 p refl, character-none 34 p refl, punct-none 34 p refl)
    (option_or-none (text_of (34 ∷ p)))

-- a slash begins a comment or a mark
pub slash_piece : (p : List ℕ) → piece_of (47 ∷ p) ≡ option_or (comment_of (47 ∷ p)) (option_map mark (punct_of (47 ∷ p)))
unfolding piece_of
slash_piece p =
    rw (white-none 47 p refl, directive-none 47 p refl, word-none 47 p refl, integer-none 47 p refl, character-none 47 p refl, text-none 47 p refl)
    refl

-- What no other piece begins with.
pub record IsOther (b : ℕ) : Type 0 where
  pub start : is_word_start b ≡ false
  pub digit : is_ascii_digit b ≡ false
  pub white : is_white b ≡ false
  pub slash : eqb b 47 ≡ false
  pub quote : eqb b 34 ≡ false
  pub tick : eqb b 39 ≡ false
  pub hash : eqb b 35 ≡ false

pub mark_piece : (b : ℕ) (p : List ℕ) → IsOther b → piece_of (b ∷ p) ≡ option_map mark (punct_of (b ∷ p))
unfolding piece_of
mark_piece b p o =
    rw (white-none b p o.white, comment-none b p o.slash, directive-none b p o.hash, word-none b p o.start, integer-none b p o.digit, character-none b p o.tick, text-none b p o.quote)
    refl
