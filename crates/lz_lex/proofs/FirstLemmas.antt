-- What the scan finds is the longest piece that can stand at the front.
use Rattle.std.proofs.Common.{◌≡◌, ℕ, zero, suc, ◌+◌, ◌<◌, ◌≤◌, Bool, true, false, not, cond, eqb, List, [], ◌∷◌, length, take, drop, Option, Some, None, refl, sym, ap, subst, ◌∙◌, arith, inl, inr}
use Rattle.std.specs.Prelude.{◌&&◌, option_map, nat_lt, nat_le, ◌==◌, codes, is_some}
use Rattle.std.specs.Char.{is_ascii_digit}
use Rattle.std.specs.List.{list_all, prefix_len, starts_with}
use Rattle.std.specs.Option.{option_or}
use Rattle.std.proofs.lemmas.Bool.{cases_Bool, cases_eq, cond-true, cond-false, and_parts, and_from, eqb-true, and_right, both_ways}
use Rattle.std.proofs.lemmas.Bool.Decides.{nat_tests}
use Rattle.lz_base.proofs.OptionLemmas.{if_some}
use Rattle.lz_tree.specs.declared.token.Punct.{Punct}
use Rattle.lz_tree.specs.declared.token.Punct.TheVariants as marks
use Rattle.lz_tree.specs.Pieces.{Piece, ConstantPiece, Body, white, word, integer, character, text, block_comment, line_comment, include, define, mark, piece_of, comment_of, integer_of, character_of, character_constant, directive_of, directive_named, defined_of, punct_of, begins, is, is_white, is_word_start, is_word_byte, is_newline, is_plain, is_text, is_block_comment, is_line_comment, has_no_newline, ends_comment, ends_text, behind_blanks, body_of, keyword_of, is_blank}
use Rattle.lz_tree.specs.Tokens.{Cutting, Front, front, front_of, first_piece, may_stand, may_follow, ends_line}
use Rattle.lz_lex.specs.Scanning.{is_in_line, comment_end, text_end}
use Rattle.lz_lex.specs.Scanning as scanning
use Rattle.lz_lex.proofs.PrefixLemmas.{option_or-none, option_cases, none_some, prefix-pass, prefix-length, prefix_all, prefix_over, prefix_inside, prefix_behind}
use Rattle.lz_lex.proofs.LongestLemmas.{longest-below, first-top, first-none, first-only, allowed, no_piece, no_follow, follows}
use Rattle.lz_lex.proofs.ClassLemmas.{word_piece, integer_piece, white_piece, directive_piece, character_piece, text_piece, slash_piece, mark_piece, start_is_byte, digit_is_byte, IsOther}
use Rattle.lz_lex.proofs.ConstantLemmas.{integer_bytes}
use Rattle.lz_lex.proofs.CommentLemmas.{ended_comment, comment_ended, ended_text, text_ended}
use Rattle.lz_lex.proofs.MarkLemmas.{mark-first}

-- a fact of a piece that is known
of_some : {A : Type 0} (x : A) (P : A → Type 0) → P x → (y : A) → Some x ≡ Some y → P y
of_some {A = A} x P h y e = let same : x ≡ y = cc in subst P same h

-- ---- white space

white_longer : (at : Cutting) (b : ℕ) (rest : List ℕ) (j : ℕ) → is_white b ≡ true → 0 < j → j < length (b ∷ rest) → front_of at (b ∷ rest) (suc j) ≡ None
white_longer at b rest zero h low high = absurd (omega arith)
white_longer at b [] (suc j) h low high = absurd (omega arith)
white_longer at b (c ∷ rest) (suc j) h low high = no_piece at (b ∷ c ∷ rest) (suc (suc j)) (white_piece b (c ∷ take j rest) h)

white-first : (at : Cutting) (b : ℕ) (rest : List ℕ) → is_white b ≡ true → first_piece at (b ∷ rest) ≡ Some (front 1 (white b))
white-first at b rest h =
    let here : front_of at (b ∷ rest) 1 ≡ Some (front 1 (white b)) =
    follows at (b ∷ rest) 1 (Some (white b)) (white_piece b [] h ∙ cond-true (is_white b) _ _ h) (of_some (white b) (λ p. may_follow p rest ≡ true) refl) in
    first-top at (b ∷ rest) 0 (front 1 (white b)) (omega arith) here (λ j low high. white_longer at b rest j h low high)

-- ---- words

word-first : (at : Cutting) (b : ℕ) (rest : List ℕ) → is_word_start b ≡ true → first_piece at (b ∷ rest) ≡ Some (scanning.word (b ∷ rest))
unfolding scanning.word
word-first at b rest h =
    let byte : is_word_byte b ≡ true = start_is_byte b h in
    let k : ℕ = prefix_len is_word_byte rest in
    let whole : prefix_len is_word_byte (b ∷ rest) ≡ suc k = prefix-pass is_word_byte b rest byte in
    let all : list_all is_word_byte (b ∷ take k rest) ≡ true = and_from (is_word_byte b) _ byte (prefix_all is_word_byte rest) in
    let is : piece_of (b ∷ take k rest) ≡ Some (word (b ∷ take k rest)) =
    word_piece b (take k rest) h ∙ cond-true (is_word_start b && list_all is_word_byte (b ∷ take k rest)) _ _ (and_from (is_word_start b) _ h all) in
    let here : front_of at (b ∷ rest) (suc k) ≡ Some (front (suc k) (word (take (suc k) (b ∷ rest)))) =
    follows at (b ∷ rest) (suc k) (Some (word (b ∷ take k rest))) is (of_some (word (b ∷ take k rest)) (λ p. may_follow p (drop k rest) ≡ true) refl) in
    let top : first_piece at (b ∷ rest) ≡ Some (front (suc k) (word (take (suc k) (b ∷ rest)))) =
    first-top at (b ∷ rest) k (front (suc k) (word (take (suc k) (b ∷ rest)))) (omega (arith, prefix-length is_word_byte rest)) here
    (λ j low high.
    let fail : list_all is_word_byte (take j rest) ≡ false = prefix_over is_word_byte rest j low (omega arith) in
    no_piece at (b ∷ rest) (suc j) (word_piece b (take j rest) h ∙ rw (h, fail) refl)) in
    top ∙ ap (λ (n : ℕ). Some (front n (word (take n (b ∷ rest))))) (sym whole)

-- ---- integer constants

allowed_integer : (at : Cutting) (size : ℕ) (o : Option ConstantPiece) → allowed at (option_map (front size) (option_map integer o)) ≡ option_map (λ c. front size (integer c)) o
allowed_integer at size None = refl
allowed_integer at size (Some c) = refl

integer_follow : (o : Option ConstantPiece) (rest : List ℕ) (t : Bool) → (begins is_word_byte rest ≡ not t) → (q : Piece) → option_map integer o ≡ Some q → may_follow q rest ≡ t
integer_follow None rest t h q e = absurd cc
integer_follow (Some c) rest t h q e =
    let same : integer c ≡ q = cc in
    subst (λ (r : Piece). may_follow r rest ≡ t) same (ap not h ∙ twice t)
  where
    twice : (t : Bool) → not (not t) ≡ t
    twice true = refl
    twice false = refl

not_integer : (bytes : List ℕ) → list_all is_word_byte bytes ≡ false → integer_of bytes ≡ None
not_integer bytes fail =
    elim (option_cases (integer_of bytes)) [
      | inl some ↦ absurd (both_ways _ fail (integer_bytes bytes some.0 some.1))
      | inr none ↦ none
    ]

integer-first : (at : Cutting) (b : ℕ) (rest : List ℕ) → is_ascii_digit b ≡ true → first_piece at (b ∷ rest) ≡ scanning.integer (b ∷ rest)
unfolding scanning.integer
integer-first at b rest h =
    let byte : is_word_byte b ≡ true = digit_is_byte b h in
    let k : ℕ = prefix_len is_word_byte rest in
    let whole : prefix_len is_word_byte (b ∷ rest) ≡ suc k = prefix-pass is_word_byte b rest byte in
    let only : first_piece at (b ∷ rest) ≡ front_of at (b ∷ rest) (suc k) =
    first-only at (b ∷ rest) k (omega (arith, prefix-length is_word_byte rest))
    (λ j high other. elim (cases_Bool (nat_lt j k)) [
      | inl low ↦
          let inside : j < k = grind (arith, nat_tests) in
          no_follow at (b ∷ rest) (suc j)
          (λ p e. integer_follow (integer_of (b ∷ take j rest)) (drop j rest) false (prefix_inside is_word_byte rest j inside) p (sym (integer_piece b (take j rest) h) ∙ e))
      | inr over ↦
          let past : k ≤ j = grind (arith, nat_tests) in
          let beyond : k < j = apart k j past (λ e. other (sym e)) in
          let fail : list_all is_word_byte (b ∷ take j rest) ≡ false = and_right (is_word_byte b) _ (prefix_over is_word_byte rest j beyond (omega arith)) in
          no_piece at (b ∷ rest) (suc j) (integer_piece b (take j rest) h ∙ ap (option_map integer) (not_integer (b ∷ take j rest) fail))
    ]) in
    let here : front_of at (b ∷ rest) (suc k) ≡ option_map (λ c. front (suc k) (integer c)) (integer_of (take (suc k) (b ∷ rest))) =
    follows at (b ∷ rest) (suc k) (option_map integer (integer_of (b ∷ take k rest))) (integer_piece b (take k rest) h)
    (λ p e. integer_follow (integer_of (b ∷ take k rest)) (drop k rest) true (prefix_behind is_word_byte rest) p e)
    ∙ allowed_integer at (suc k) (integer_of (b ∷ take k rest)) in
    only ∙ here ∙ ap (λ (n : ℕ). option_map (λ c. front n (integer c)) (integer_of (take n (b ∷ rest)))) (sym whole)
  where
    apart : (k j : ℕ) → k ≤ j → (k ≡ j → ⊥) → k < j
    apart k j le other = elim (cases_eq k j) [ inl same ↦ absurd (other same) | inr differ ↦ omega arith ]

-- ---- comments and slashes

two_marks : (q : List ℕ) → (punct_of (47 ∷ 42 ∷ q) ≡ None) × (punct_of (47 ∷ 47 ∷ q) ≡ None)
unfolding punct_of
two_marks q = (refl, refl)

block_piece : (q : List ℕ) → piece_of (47 ∷ 42 ∷ q) ≡ cond (ends_comment q) (Some block_comment) None
unfolding is_block_comment is_line_comment
block_piece q = slash_piece (42 ∷ q) ∙ ap (λ o. option_or (comment_of (47 ∷ 42 ∷ q)) (option_map mark o)) (two_marks q).0 ∙ by (ends_comment q)
  where
    by : (t : Bool) → option_or (cond t (Some block_comment) None) (option_map mark None) ≡ cond t (Some block_comment) None
    by true = refl
    by false = refl

line_piece : (q : List ℕ) → piece_of (47 ∷ 47 ∷ q) ≡ cond (has_no_newline q) (Some line_comment) None
unfolding is_block_comment is_line_comment
line_piece q = slash_piece (47 ∷ q) ∙ ap (λ o. option_or (comment_of (47 ∷ 47 ∷ q)) (option_map mark o)) (two_marks q).1 ∙ by (has_no_newline q)
  where
    by : (t : Bool) → option_or (cond t (Some line_comment) None) (option_map mark None) ≡ cond t (Some line_comment) None
    by true = refl
    by false = refl

-- a slash before a star is no piece
lone_slash : (at : Cutting) (r : List ℕ) → front_of at (47 ∷ 42 ∷ r) 1 ≡ None
unfolding is_block_comment is_line_comment punct_of
lone_slash at r = no_follow at (47 ∷ 42 ∷ r) 1 (λ p e. of_some (mark marks.Slash) (λ q. may_follow q (42 ∷ r) ≡ false) refl p (sym (slash_piece []) ∙ e))

block_size : (at : Cutting) (r : List ℕ) (i : ℕ) → i ≤ length r → (comment_end r ≡ Some i → ⊥) → front_of at (47 ∷ 42 ∷ r) (suc (suc i)) ≡ None
block_size at r i le other =
    elim (cases_Bool (ends_comment (take i r))) [
      | inl ends ↦ absurd (other (ended_comment r i le ends))
      | inr fail ↦ no_piece at (47 ∷ 42 ∷ r) (suc (suc i)) (block_piece (take i r) ∙ cond-false (ends_comment (take i r)) _ _ fail)
    ]

-- no size but this
no_block : (at : Cutting) (r : List ℕ) (j : ℕ) → j < length (47 ∷ 42 ∷ r) → ((i : ℕ) → j ≡ suc i → comment_end r ≡ Some i → ⊥) → front_of at (47 ∷ 42 ∷ r) (suc j) ≡ None
no_block at r zero lt other = lone_slash at r
no_block at r (suc i) lt other = block_size at r i (omega arith) (other i refl)

block-first : (at : Cutting) (r : List ℕ) (o : Option ℕ) → comment_end r ≡ o → first_piece at (47 ∷ 42 ∷ r) ≡ option_map (λ n. front (n + 2) block_comment) o
block-first at r None e = first-none at (47 ∷ 42 ∷ r) (λ j lt. no_block at r j lt (λ i same there. none_some i (comment_end r) e there))
block-first at r (Some n) e =
    let ended = comment_ended r n e in
    let size : suc (suc n) ≡ n + 2 = omega arith in
    let here : front_of at (47 ∷ 42 ∷ r) (suc (suc n)) ≡ Some (front (suc (suc n)) block_comment) =
    follows at (47 ∷ 42 ∷ r) (suc (suc n)) (Some block_comment) (block_piece (take n r) ∙ cond-true (ends_comment (take n r)) _ _ ended.ends)
    (of_some block_comment (λ p. may_follow p (drop n r) ≡ true) refl) in
    first-only at (47 ∷ 42 ∷ r) (suc n) (omega (arith, ended.within))
    (λ j lt other. no_block at r j lt (λ i same there. other (same ∙ ap suc (let both : Some i ≡ Some n = sym there ∙ e in cc))))
    ∙ here ∙ ap (λ (m : ℕ). Some (front m block_comment)) size

ends_line-behind : (xs : List ℕ) → begins is_in_line xs ≡ false → ends_line xs ≡ true
ends_line-behind [] e = refl
ends_line-behind (x ∷ xs) e = by (is_newline x) e
  where
    by : (t : Bool) → not t ≡ false → t ≡ true
    by true e = refl
    by false e = absurd cc

ends_line-inside : (xs : List ℕ) → begins is_in_line xs ≡ true → ends_line xs ≡ false
ends_line-inside [] e = absurd cc
ends_line-inside (x ∷ xs) e = by (is_newline x) e
  where
    by : (t : Bool) → not t ≡ true → t ≡ false
    by true e = absurd cc
    by false e = refl

line-first : (at : Cutting) (r : List ℕ) → first_piece at (47 ∷ 47 ∷ r) ≡ Some (front (prefix_len is_in_line (47 ∷ 47 ∷ r)) line_comment)
line-first at r =
    let n : ℕ = prefix_len is_in_line r in
    let two : prefix_len is_in_line (47 ∷ 47 ∷ r) ≡ suc (suc n) = prefix-pass is_in_line 47 (47 ∷ r) refl ∙ ap suc (prefix-pass is_in_line 47 r refl) in
    let here : front_of at (47 ∷ 47 ∷ r) (suc (suc n)) ≡ Some (front (suc (suc n)) line_comment) =
    follows at (47 ∷ 47 ∷ r) (suc (suc n)) (Some line_comment) (line_piece (take n r) ∙ cond-true (has_no_newline (take n r)) _ _ (prefix_all is_in_line r))
    (of_some line_comment (λ p. may_follow p (drop n r) ≡ true) (ends_line-behind (drop n r) (prefix_behind is_in_line r))) in
    first-top at (47 ∷ 47 ∷ r) (suc n) (front (suc (suc n)) line_comment) (omega (arith, prefix-length is_in_line r)) here
    (λ j low high. longer j low high) ∙ ap (λ (m : ℕ). Some (front m line_comment)) (sym two)
  where
    longer : (j : ℕ) → suc (prefix_len is_in_line r) < j → j < length (47 ∷ 47 ∷ r) → front_of at (47 ∷ 47 ∷ r) (suc j) ≡ None
    longer zero low high = absurd (omega arith)
    longer (suc i) low high =
        no_piece at (47 ∷ 47 ∷ r) (suc (suc i)) (line_piece (take i r) ∙ cond-false (has_no_newline (take i r)) _ _ (prefix_over is_in_line r i (omega arith) (omega arith)))

-- a slash that begins no comment
slash_mark : (rest : List ℕ) → begins (is 42) rest ≡ false → begins (is 47) rest ≡ false → (j : ℕ) → piece_of (47 ∷ take j rest) ≡ option_map mark (punct_of (47 ∷ take j rest))
unfolding is_block_comment is_line_comment
slash_mark rest star slash zero = slash_piece []
slash_mark [] star slash (suc j) = slash_piece []
slash_mark (c ∷ rest) star slash (suc j) = slash_piece (c ∷ take j rest) ∙ rw (star, slash) refl

slash-first : (at : Cutting) (rest : List ℕ) → first_piece at (47 ∷ rest) ≡ scanning.slash (47 ∷ rest)
unfolding scanning.slash
slash-first at [] = mark-first at 47 [] (slash_mark [] refl refl) (λ same. refl)
slash-first at (c ∷ r) =
    elim (cases_Bool (eqb c 42)) [
      | inl star ↦
          subst (λ (x : ℕ). first_piece at (47 ∷ x ∷ r) ≡ cond (eqb x 42) (option_map (λ n. front (n + 2) block_comment) (comment_end r)) (cond (eqb x 47) (Some (front (prefix_len is_in_line (47 ∷ x ∷ r)) line_comment)) (scanning.mark (47 ∷ x ∷ r))))
          (sym (eqb-true c 42 star)) (block-first at r (comment_end r) refl)
      | inr other ↦ elim (cases_Bool (eqb c 47)) [
        | inl slash ↦
            subst (λ (x : ℕ). first_piece at (47 ∷ x ∷ r) ≡ cond (eqb x 42) (option_map (λ n. front (n + 2) block_comment) (comment_end r)) (cond (eqb x 47) (Some (front (prefix_len is_in_line (47 ∷ x ∷ r)) line_comment)) (scanning.mark (47 ∷ x ∷ r))))
            (sym (eqb-true c 47 slash)) (line-first at r)
        | inr neither ↦ mark-first at 47 (c ∷ r) (slash_mark (c ∷ r) other neither) (λ same. other) ∙ sym (cond-false (eqb c 42) _ _ other ∙ cond-false (eqb c 47) _ _ neither)
      ]
    ]

-- ---- texts

text_ends : (q : List ℕ) → piece_of (34 ∷ q) ≡ cond (ends_text false q) (Some text) None
unfolding is_text
text_ends q = text_piece q

text_size : (at : Cutting) (rest : List ℕ) (j : ℕ) → j ≤ length rest → (text_end false rest ≡ Some j → ⊥) → front_of at (34 ∷ rest) (suc j) ≡ None
text_size at rest j le other =
    elim (cases_Bool (ends_text false (take j rest))) [
      | inl ends ↦ absurd (other (ended_text false rest j le ends))
      | inr fail ↦ no_piece at (34 ∷ rest) (suc j) (text_ends (take j rest) ∙ cond-false (ends_text false (take j rest)) _ _ fail)
    ]

text-found : (at : Cutting) (rest : List ℕ) (o : Option ℕ) → text_end false rest ≡ o → first_piece at (34 ∷ rest) ≡ option_map (λ n. front (n + 1) text) o
text-found at rest None e = first-none at (34 ∷ rest) (λ j lt. text_size at rest j (omega arith) (λ there. none_some j (text_end false rest) e there))
text-found at rest (Some n) e =
    let ended = text_ended false rest n e in
    let size : suc n ≡ n + 1 = omega arith in
    let here : front_of at (34 ∷ rest) (suc n) ≡ Some (front (suc n) text) =
    follows at (34 ∷ rest) (suc n) (Some text) (text_ends (take n rest) ∙ cond-true (ends_text false (take n rest)) _ _ ended.ends) (of_some text (λ p. may_follow p (drop n rest) ≡ true) refl) in
    first-only at (34 ∷ rest) n (omega (arith, ended.within))
    (λ j lt other. text_size at rest j (omega arith) (λ there. other (let both : Some j ≡ Some n = sym there ∙ e in cc)))
    ∙ here ∙ ap (λ (m : ℕ). Some (front m text)) size

text-first : (at : Cutting) (rest : List ℕ) → first_piece at (34 ∷ rest) ≡ scanning.text (34 ∷ rest)
unfolding scanning.text
text-first at rest = text-found at rest (text_end false rest) refl

-- ---- character constants

allowed_character : (at : Cutting) (size : ℕ) (o : Option ConstantPiece) → allowed at (option_map (front size) (option_map character o)) ≡ option_map (λ c. front size (character c)) o
allowed_character at size None = refl
allowed_character at size (Some c) = refl

character_follow : (o : Option ConstantPiece) (rest : List ℕ) (q : Piece) → option_map character o ≡ Some q → may_follow q rest ≡ true
character_follow None rest q e = absurd cc
character_follow (Some c) rest q e = of_some (character c) (λ r. may_follow r rest ≡ true) refl q e

character-front : (at : Cutting) (rest : List ℕ) (j : ℕ) → front_of at (39 ∷ rest) (suc j) ≡ option_map (λ c. front (suc j) (character c)) (character_of (39 ∷ take j rest))
character-front at rest j =
    follows at (39 ∷ rest) (suc j) (option_map character (character_of (39 ∷ take j rest))) (character_piece (take j rest))
    (λ p e. character_follow (character_of (39 ∷ take j rest)) (drop j rest) p e)
    ∙ allowed_character at (suc j) (character_of (39 ∷ take j rest))

no_character : (at : Cutting) (rest : List ℕ) (j : ℕ) → character_of (39 ∷ take j rest) ≡ None → front_of at (39 ∷ rest) (suc j) ≡ None
no_character at rest j e = character-front at rest j ∙ ap (option_map (λ c. front (suc j) (character c))) e

-- a character constant of three bytes is no front of one of four
one_character : (x y z : ℕ) (c : ConstantPiece) → character_of (39 ∷ x ∷ y ∷ []) ≡ Some c → character_of (39 ∷ x ∷ y ∷ z ∷ []) ≡ None
unfolding character_of
one_character x y z c e =
    elim (if_some (is_plain x && eqb y 39) (Some (character_constant x)) None c e) [
      | inl plain ↦
          let parts = and_parts (is_plain x) (eqb y 39) plain.0 in
          let other : eqb x 92 ≡ false = plain_other x parts.0 in
          rw other refl
      | inr none ↦ let bad : None ≡ Some c = none.1 in absurd cc
    ]
  where
    plain_other : (x : ℕ) → is_plain x ≡ true → eqb x 92 ≡ false
    plain_other x h = grind (arith, nat_tests)

either_or : (o p : Option Front) → ((f : Front) → o ≡ Some f → p ≡ None) → option_or p (option_or o None) ≡ option_or o p
either_or None p none = option_or-none p
either_or (Some f) p none = rw (none f refl) refl

map_some : {A B : Type 0} (f : A → B) (o : Option A) (y : B) → option_map f o ≡ Some y → (x : A) × (o ≡ Some x)
map_some f None y e = absurd cc
map_some f (Some x) y e = (x, refl)

one_byte : character_of (39 ∷ []) ≡ None
unfolding character_of
one_byte = refl

two_bytes : (x : ℕ) → character_of (39 ∷ x ∷ []) ≡ None
unfolding character_of
two_bytes x = refl

many_bytes : (x y z i : ℕ) (r : List ℕ) → i < length r → character_of (39 ∷ x ∷ y ∷ z ∷ take (suc i) r) ≡ None
unfolding character_of
many_bytes x y z i [] lt = absurd (omega arith)
many_bytes x y z i (w ∷ r) lt = refl

long_bytes : (x y z : ℕ) (r : List ℕ) (j : ℕ) → 4 ≤ j → j < length (39 ∷ x ∷ y ∷ z ∷ r) → character_of (39 ∷ take j (x ∷ y ∷ z ∷ r)) ≡ None
long_bytes x y z r zero low high = absurd (omega arith)
long_bytes x y z r (suc zero) low high = absurd (omega arith)
long_bytes x y z r (suc (suc zero)) low high = absurd (omega arith)
long_bytes x y z r (suc (suc (suc zero))) low high = absurd (omega arith)
long_bytes x y z r (suc (suc (suc (suc i)))) low high = many_bytes x y z i r (omega arith)

either_size : (o : Option ConstantPiece)
    → option_or (option_map (λ c. front 3 (character c)) o) None ≡ option_or (option_map (λ c. front 3 (character c)) o) (option_map (λ c. front 4 (character c)) o)
either_size None = refl
either_size (Some c) = refl

character-first : (at : Cutting) (rest : List ℕ) → first_piece at (39 ∷ rest) ≡ scanning.character (39 ∷ rest)
unfolding scanning.character first_piece
character-first at [] = rw (no_character at [] 0 one_byte, one_byte) refl
character-first at (x ∷ []) = rw (no_character at (x ∷ []) 1 (two_bytes x), no_character at (x ∷ []) 0 one_byte, two_bytes x) refl
character-first at (x ∷ y ∷ []) =
    rw (character-front at (x ∷ y ∷ []) 2, no_character at (x ∷ y ∷ []) 1 (two_bytes x), no_character at (x ∷ y ∷ []) 0 one_byte)
    (either_size (character_of (39 ∷ x ∷ y ∷ [])))
character-first at (x ∷ y ∷ z ∷ r) =
    let bytes : List ℕ = 39 ∷ x ∷ y ∷ z ∷ r in
    longest-below at bytes 4 (length bytes) (omega arith) (λ j low high. no_character at (x ∷ y ∷ z ∷ r) j (long_bytes x y z r j low high))
    ∙ rw (character-front at (x ∷ y ∷ z ∷ r) 3, character-front at (x ∷ y ∷ z ∷ r) 2, no_character at (x ∷ y ∷ z ∷ r) 1 (two_bytes x), no_character at (x ∷ y ∷ z ∷ r) 0 one_byte)
    (either_or (option_map (λ c. front 3 (character c)) (character_of (39 ∷ x ∷ y ∷ []))) (option_map (λ c. front 4 (character c)) (character_of (39 ∷ x ∷ y ∷ z ∷ [])))
    (λ f e. let some = map_some (λ c. front 3 (character c)) (character_of (39 ∷ x ∷ y ∷ [])) f e in ap (option_map (λ c. front 4 (character c))) (one_character x y z some.0 some.1)))

-- ---- directives

defined_follow : (bytes : List ℕ) (p : Piece) (rest : List ℕ) → defined_of bytes ≡ Some p → may_follow p rest ≡ ends_line rest
unfolding defined_of
defined_follow bytes p rest e =
    let name : List ℕ = take (prefix_len is_word_byte bytes) bytes in
    elim (if_some (begins is_word_start bytes && not (is_some (keyword_of name))) (option_map (define name) (body_of (drop (prefix_len is_word_byte bytes) bytes))) None p e) [
      | inl some ↦ by (take (prefix_len is_word_byte bytes) bytes) (body_of (drop (prefix_len is_word_byte bytes) bytes)) some.1
      | inr none ↦ let bad : None ≡ Some p = none.1 in absurd cc
    ]
  where
    by : (name : List ℕ) (o : Option (Option Body)) → option_map (define name) o ≡ Some p → may_follow p rest ≡ ends_line rest
    by name None e = absurd cc
    by name (Some b) e = of_some (define name b) (λ q. may_follow q rest ≡ ends_line rest) refl p e

directive_follow : (bytes : List ℕ) (p : Piece) (rest : List ℕ) → directive_named bytes ≡ Some p → may_follow p rest ≡ ends_line rest
unfolding directive_named
directive_follow bytes p rest e =
    let defining : Bool = starts_with ◌==◌ bytes (codes "define") && begins is_blank (drop 6 bytes) in
    let named : Option Piece = defined_of (behind_blanks (drop 6 bytes)) in
    elim (if_some (starts_with ◌==◌ bytes (codes "include")) (Some include) (cond defining named None) p e) [
      | inl some ↦ of_some include (λ q. may_follow q rest ≡ ends_line rest) refl p some.1
      | inr other ↦ elim (if_some defining named None p other.1) [
        | inl some ↦ defined_follow (behind_blanks (drop 6 bytes)) p rest some.1
        | inr none ↦ let bad : None ≡ Some p = none.1 in absurd cc
      ]
    ]

directive_line : (q : List ℕ) → directive_of (35 ∷ q) ≡ cond (has_no_newline q) (directive_named (behind_blanks q)) None
unfolding directive_of
directive_line q = refl

directive_any : (q : List ℕ) (p : Piece) (rest : List ℕ) → directive_of (35 ∷ q) ≡ Some p → may_follow p rest ≡ ends_line rest
directive_any q p rest e =
    elim (if_some (has_no_newline q) (directive_named (behind_blanks q)) None p (sym (directive_line q) ∙ e)) [
      | inl some ↦ directive_follow (behind_blanks q) p rest some.1
      | inr none ↦ let bad : None ≡ Some p = none.1 in absurd cc
    ]

directive-first : (at : Cutting) (rest : List ℕ) → first_piece at (35 ∷ rest) ≡ allowed at (scanning.directive (35 ∷ rest))
unfolding scanning.directive
directive-first at rest =
    let k : ℕ = prefix_len is_in_line rest in
    let whole : prefix_len is_in_line (35 ∷ rest) ≡ suc k = prefix-pass is_in_line 35 rest refl in
    let only : first_piece at (35 ∷ rest) ≡ front_of at (35 ∷ rest) (suc k) =
    first-only at (35 ∷ rest) k (omega (arith, prefix-length is_in_line rest))
    (λ j high other. elim (cases_Bool (nat_lt j k)) [
      | inl low ↦
          let inside : j < k = grind (arith, nat_tests) in
          no_follow at (35 ∷ rest) (suc j)
          (λ p e. directive_any (take j rest) p (drop j rest) (sym (directive_piece (take j rest)) ∙ e) ∙ ends_line-inside (drop j rest) (prefix_inside is_in_line rest j inside))
      | inr over ↦
          let past : k ≤ j = grind (arith, nat_tests) in
          let beyond : k < j = apart k j past (λ e. other (sym e)) in
          no_piece at (35 ∷ rest) (suc j)
          (directive_piece (take j rest) ∙ directive_line (take j rest) ∙ cond-false (has_no_newline (take j rest)) _ _ (prefix_over is_in_line rest j beyond (omega arith)))
    ]) in
    let is : piece_of (35 ∷ take k rest) ≡ directive_named (behind_blanks (take k rest)) =
    directive_piece (take k rest) ∙ directive_line (take k rest) ∙ cond-true (has_no_newline (take k rest)) _ _ (prefix_all is_in_line rest) in
    let here : front_of at (35 ∷ rest) (suc k) ≡ allowed at (option_map (front (suc k)) (directive_named (behind_blanks (drop 1 (take (suc k) (35 ∷ rest)))))) =
    follows at (35 ∷ rest) (suc k) (directive_named (behind_blanks (take k rest))) is
    (λ p e. directive_follow (behind_blanks (take k rest)) p (drop k rest) e ∙ ends_line-behind (drop k rest) (prefix_behind is_in_line rest)) in
    only ∙ here ∙ ap (λ (n : ℕ). allowed at (option_map (front n) (directive_named (behind_blanks (drop 1 (take n (35 ∷ rest))))))) (sym whole)
  where
    apart : (k j : ℕ) → k ≤ j → (k ≡ j → ⊥) → k < j
    apart k j le other = elim (cases_eq k j) [ inl same ↦ absurd (other same) | inr differ ↦ omega arith ]

-- ---- every first byte

-- Pieces that are no directive are allowed everywhere.
abbrev IsFree : Option Front → Type 0
IsFree o = (at : Cutting) → allowed at o ≡ o

free_mark_of : (bytes : List ℕ) (size : ℕ) → IsFree (scanning.mark_of bytes size)
unfolding scanning.mark_of
free_mark_of bytes size at = by (punct_of (take size bytes))
  where
    by : (o : Option Punct) → allowed at (option_map (λ p. front size (mark p)) o) ≡ option_map (λ p. front size (mark p)) o
    by None = refl
    by (Some p) = refl

free_or : (o p : Option Front) → IsFree o → IsFree p → IsFree (option_or o p)
free_or None p f g at = g at
free_or (Some x) p f g at = f at

free_if : (t : Bool) (bytes : List ℕ) (size : ℕ) → IsFree (scanning.mark_if t bytes size)
free_if true bytes size = free_mark_of bytes size
free_if false bytes size = λ at. refl

free_mark : (bytes : List ℕ) → IsFree (scanning.mark bytes)
unfolding scanning.mark
free_mark bytes = free_or _ _ (free_if (nat_le 3 (length bytes)) bytes 3) (free_or _ _ (free_if (nat_le 2 (length bytes)) bytes 2) (free_mark_of bytes 1))

free_integer : (bytes : List ℕ) → IsFree (scanning.integer bytes)
unfolding scanning.integer
free_integer bytes at = by (prefix_len is_word_byte bytes) (integer_of (take (prefix_len is_word_byte bytes) bytes))
  where
    by : (n : ℕ) (o : Option ConstantPiece) → allowed at (option_map (λ c. front n (integer c)) o) ≡ option_map (λ c. front n (integer c)) o
    by n None = refl
    by n (Some c) = refl

free_character : (bytes : List ℕ) → IsFree (scanning.character bytes)
unfolding scanning.character
free_character bytes = free_or _ _ (λ at. by at 3 (character_of (take 3 bytes))) (λ at. by at 4 (character_of (take 4 bytes)))
  where
    by : (at : Cutting) (n : ℕ) (o : Option ConstantPiece) → allowed at (option_map (λ c. front n (character c)) o) ≡ option_map (λ c. front n (character c)) o
    by at n None = refl
    by at n (Some c) = refl

free_sized : (p : Piece) (more : ℕ) (o : Option ℕ) → ((at : Cutting) → may_stand at p ≡ true) → IsFree (option_map (λ n. front (n + more) p) o)
free_sized p more None free at = refl
free_sized p more (Some n) free at = cond-true (may_stand at p) _ _ (free at)

free_cond : (t : Bool) (o p : Option Front) → IsFree o → IsFree p → IsFree (cond t o p)
free_cond true o p f g = f
free_cond false o p f g = g

free_slash : (bytes : List ℕ) → IsFree (scanning.slash bytes)
unfolding scanning.slash
free_slash bytes =
    free_cond (begins (is 42) (drop 1 bytes)) _ _ (free_sized block_comment 2 (comment_end (drop 2 bytes)) (λ at. refl))
    (free_cond (begins (is 47) (drop 1 bytes)) _ _ (λ at. refl) (free_mark bytes))

free_text : (bytes : List ℕ) → IsFree (scanning.text bytes)
unfolding scanning.text
free_text bytes = free_sized text 1 (text_end false (drop 1 bytes)) (λ at. refl)

step : (t : Bool) (at : Cutting) (r x y : Option Front) → (t ≡ true → r ≡ allowed at x) → (t ≡ false → r ≡ allowed at y) → r ≡ allowed at (cond t x y)
step true at r x y f g = f refl
step false at r x y f g = g refl

-- what the scan finds, where it may stand, is the longest piece that can stand at the front
pub scan-first : (at : Cutting) (b : ℕ) (rest : List ℕ) → first_piece at (b ∷ rest) ≡ allowed at (scanning.scan (b ∷ rest))
unfolding scanning.scan scanning.word
scan-first at b rest =
    step (is_word_start b) at _ _ _ (λ h. word-first at b rest h)
    (λ start. step (is_ascii_digit b) at _ _ _ (λ h. integer-first at b rest h ∙ sym (free_integer (b ∷ rest) at))
    (λ digit. step (is_white b) at _ _ _ (λ h. white-first at b rest h)
    (λ blank. step (eqb b 47) at _ _ _
    (λ h. subst (λ (x : ℕ). first_piece at (x ∷ rest) ≡ allowed at (scanning.slash (x ∷ rest))) (sym (eqb-true b 47 h)) (slash-first at rest ∙ sym (free_slash (47 ∷ rest) at)))
    (λ slash. step (eqb b 34) at _ _ _
    (λ h. subst (λ (x : ℕ). first_piece at (x ∷ rest) ≡ allowed at (scanning.text (x ∷ rest))) (sym (eqb-true b 34 h)) (text-first at rest ∙ sym (free_text (34 ∷ rest) at)))
    (λ quote. step (eqb b 39) at _ _ _
    (λ h. subst (λ (x : ℕ). first_piece at (x ∷ rest) ≡ allowed at (scanning.character (x ∷ rest))) (sym (eqb-true b 39 h)) (character-first at rest ∙ sym (free_character (39 ∷ rest) at)))
    (λ tick. step (eqb b 35) at _ _ _
    (λ h. subst (λ (x : ℕ). first_piece at (x ∷ rest) ≡ allowed at (scanning.directive (x ∷ rest))) (sym (eqb-true b 35 h)) (directive-first at rest))
    (λ hash.
    let other : IsOther b = record { start = start; digit = digit; white = blank; slash = slash; quote = quote; tick = tick; hash = hash } in
    mark-first at b rest (λ j. mark_piece b (take j rest) other) (λ same. absurd (both_ways (eqb b 47) slash (subst (λ (x : ℕ). eqb x 47 ≡ true) (sym same) refl)))
    ∙ sym (free_mark (b ∷ rest) at))))))))
