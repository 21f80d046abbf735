-- A search for the end of a comment or a text, byte by byte.
use Rattle.std.proofs.Common.{◌≡◌, ℕ, suc, ◌+◌, ◌<◌, ◌≤◌, Bool, true, false, List, [], ◌∷◌, length, drop, get_or, Option, Some, None, refl, sym, ap, ◌∙◌, arith, add-one, length-drop}
use Rattle.std.specs.Prelude.{option_map}
use Rattle.std.proofs.Math.Seq.{drop-cons}
use Rattle.std.proofs.lemmas.Bool.{cond-true, cond-false}
use Rattle.std.proofs.lemmas.List.{nil_from_length}
use Rattle.lz_tree.specs.Pieces.{is_newline}
use Rattle.lz_lex.proofs.CommentLemmas.{comment_ended}
use Rattle.lz_lex.specs.Scanning.{closes, comment_end, quotes, escapes, text_end}

later : (i : ℕ) (o : Option ℕ) → option_map (λ n. n + (i + 1)) o ≡ option_map (λ n. n + i) (option_map suc o)
later i None = refl
later i (Some n) = let same : n + (i + 1) ≡ suc n + i = omega arith in ap (λ m. Some m) same

now : (o : Option ℕ) → option_map (λ n. n + 0) o ≡ o
now None = refl
now (Some n) = let same : n + 0 ≡ n = omega arith in ap (λ m. Some m) same

over : (xs : List ℕ) (i : ℕ) → length xs ≤ i → drop i xs ≡ []
over xs i le = let none : length (drop i xs) ≡ 0 = omega (arith, length-drop i xs) in nil_from_length (drop i xs) none

-- the byte at a place, and what stands behind it
behind : (xs : List ℕ) (i : ℕ) → i < length xs → drop i xs ≡ get_or xs i 0 ∷ drop (i + 1) xs
behind xs i lt = drop-cons xs i 0 lt ∙ ap (λ (n : ℕ). get_or xs i 0 ∷ drop n xs) (sym (add-one i))

-- The end of a comment comes from here on.
pub record IsOpen (xs : List ℕ) (i : ℕ) : Type 0 where
  pub whole : option_map (λ n. n + i) (comment_end (drop i xs)) ≡ comment_end xs

pub open_start : (xs : List ℕ) → IsOpen xs 0
open_start xs = record { whole = now (comment_end xs) }

pub open_turn : (xs : List ℕ) (i : ℕ) → i < length xs → closes (drop i xs) ≡ false → IsOpen xs i → IsOpen xs (i + 1)
open_turn xs i lt fail so_far =
    let at = behind xs i lt in
    let none : closes (get_or xs i 0 ∷ drop (i + 1) xs) ≡ false = ap closes (sym at) ∙ fail in
    let more : comment_end (drop i xs) ≡ option_map suc (comment_end (drop (i + 1) xs)) = ap comment_end at ∙ cond-false (closes (get_or xs i 0 ∷ drop (i + 1) xs)) _ _ none in
    record { whole = later i (comment_end (drop (i + 1) xs)) ∙ ap (option_map (λ n. n + i)) (sym more) ∙ so_far.whole }

pub open_found : (xs : List ℕ) (i : ℕ) → i < length xs → closes (drop i xs) ≡ true → IsOpen xs i → Some (i + 2) ≡ comment_end xs
open_found xs i lt pass so_far =
    let at = behind xs i lt in
    let here : closes (get_or xs i 0 ∷ drop (i + 1) xs) ≡ true = ap closes (sym at) ∙ pass in
    let two : comment_end (drop i xs) ≡ Some 2 = ap comment_end at ∙ cond-true (closes (get_or xs i 0 ∷ drop (i + 1) xs)) _ _ here in
    let same : i + 2 ≡ 2 + i = omega arith in
    ap (λ m. Some m) same ∙ ap (option_map (λ n. n + i)) (sym two) ∙ so_far.whole

pub open_over : (xs : List ℕ) (i : ℕ) → length xs ≤ i → IsOpen xs i → None ≡ comment_end xs
open_over xs i le so_far = ap (λ (ys : List ℕ). option_map (λ n. n + i) (comment_end ys)) (sym (over xs i le)) ∙ so_far.whole

-- the end is one of the bytes
pub found_within : (xs : List ℕ) (n : ℕ) → Some n ≡ comment_end xs → n ≤ length xs
found_within xs n e = (comment_ended xs n (sym e)).within

-- The end of a text comes from here on.
pub record IsInText (xs : List ℕ) (escaped : Bool) (i : ℕ) : Type 0 where
  pub whole : option_map (λ n. n + i) (text_end escaped (drop i xs)) ≡ text_end false xs

pub text_start : (xs : List ℕ) → IsInText xs false 0
text_start xs = record { whole = now (text_end false xs) }

pub text_turn : {xs : List ℕ} {escaped : Bool} {i : ℕ} → i < length xs → is_newline (get_or xs i 0) ≡ false → quotes (get_or xs i 0) escaped ≡ false → IsInText xs escaped i
    → IsInText xs (escapes (get_or xs i 0) escaped) (i + 1)
text_turn {xs} {escaped} {i} lt line quote so_far =
    let b : ℕ = get_or xs i 0 in
    let more : text_end escaped (drop i xs) ≡ option_map suc (text_end (escapes b escaped) (drop (i + 1) xs)) =
    ap (text_end escaped) (behind xs i lt) ∙ cond-false (is_newline b) _ _ line ∙ cond-false (quotes b escaped) _ _ quote in
    record { whole = later i (text_end (escapes b escaped) (drop (i + 1) xs)) ∙ ap (option_map (λ n. n + i)) (sym more) ∙ so_far.whole }

pub text_line : {xs : List ℕ} {escaped : Bool} {i : ℕ} → i < length xs → is_newline (get_or xs i 0) ≡ true → IsInText xs escaped i → None ≡ text_end false xs
text_line {xs} {escaped} {i} lt line so_far =
    let none : text_end escaped (drop i xs) ≡ None = ap (text_end escaped) (behind xs i lt) ∙ cond-true (is_newline (get_or xs i 0)) _ _ line in
    ap (option_map (λ n. n + i)) (sym none) ∙ so_far.whole

pub text_found : {xs : List ℕ} {escaped : Bool} {i : ℕ} → i < length xs → is_newline (get_or xs i 0) ≡ false → quotes (get_or xs i 0) escaped ≡ true → IsInText xs escaped i → Some (i + 1) ≡ text_end false xs
text_found {xs} {escaped} {i} lt line quote so_far =
    let b : ℕ = get_or xs i 0 in
    let one : text_end escaped (drop i xs) ≡ Some 1 = ap (text_end escaped) (behind xs i lt) ∙ cond-false (is_newline b) _ _ line ∙ cond-true (quotes b escaped) _ _ quote in
    let same : i + 1 ≡ 1 + i = omega arith in
    ap (λ m. Some m) same ∙ ap (option_map (λ n. n + i)) (sym one) ∙ so_far.whole

pub text_over : {xs : List ℕ} {escaped : Bool} {i : ℕ} → length xs ≤ i → IsInText xs escaped i → None ≡ text_end false xs
text_over {xs} {escaped} {i} le so_far = ap (λ (ys : List ℕ). option_map (λ n. n + i) (text_end escaped ys)) (sym (over xs i le)) ∙ so_far.whole
