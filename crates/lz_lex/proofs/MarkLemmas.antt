-- The longest punctuator at the front.
use Rattle.std.proofs.Common.{◌≡◌, ℕ, zero, suc, ◌<◌, ◌≤◌, true, false, not, List, [], ◌∷◌, length, take, drop, Option, Some, None, refl, sym, ap, subst, ◌∙◌, arith, inl, inr, codes}
use Rattle.std.specs.Prelude.{◌⊎◌, option_map, nat_le}
use Rattle.std.specs.Option.{option_or}
use Rattle.std.specs.Str.{bytes_eq}
use Rattle.std.proofs.lemmas.Bool.Decides.{nat_tests}
use Rattle.std.proofs.lemmas.Slice.Eq.{bytes_eq-Decides}
use Rattle.lz_tree.specs.declared.token.Punct.{Punct}
use Rattle.lz_tree.specs.declared.token.Punct.TheVariants as marks
use Rattle.lz_tree.specs.Pieces.{Piece, piece_of, mark, punct_of, punct_text, puncts, begins, is}
use Rattle.lz_tree.specs.Tokens.{Cutting, front, front_of, longest, first_piece, may_follow}
use Rattle.lz_lex.specs.Scanning.{mark_of, mark_if}
use Rattle.lz_lex.specs.Scanning as scanning
use Rattle.lz_lex.proofs.PrefixLemmas.{found, none_found, option_or-none}
use Rattle.lz_lex.proofs.LongestLemmas.{longest-below, allowed, follows, no_piece}

-- no punctuator has more than three bytes
pub punct-long : (bytes : List ℕ) → 3 < length bytes → punct_of bytes ≡ None
unfolding punct_of
punct-long bytes long =
    none_found (λ m. bytes_eq bytes (punct_text m)) (λ m. nat_le (length (punct_text m)) 3) puncts refl
    (λ m short same.
    let texts : bytes ≡ punct_text m = (bytes_eq-Decides bytes (punct_text m)).0 same in
    let sizes : length bytes ≡ length (punct_text m) = ap length texts in
    let few : length (punct_text m) ≤ 3 = grind (arith, nat_tests) in
    omega arith)

-- anything may follow a mark but a slash
slash_or : (p : Punct) (rest : List ℕ) → (may_follow (mark p) rest ≡ true) ⊎ (p ≡ marks.Slash)
slash_or marks.Slash rest = inr refl
slash_or _ rest = inl refl

slash_alone : (bytes : List ℕ) → punct_of bytes ≡ Some marks.Slash → bytes ≡ 47 ∷ []
unfolding punct_of
slash_alone bytes e =
    (bytes_eq-Decides bytes (codes "/")).0 (found (λ m. bytes_eq bytes (punct_text m)) (λ m. true) puncts marks.Slash e refl).0

behind_slash : (b j : ℕ) (rest : List ℕ) → b ∷ take j rest ≡ 47 ∷ [] → (b ≡ 47 → begins (is 42) rest ≡ false) → begins (is 42) (drop j rest) ≡ false
behind_slash b zero rest e star = star cc
behind_slash b (suc j) [] e star = refl
behind_slash b (suc j) (c ∷ rest) e star = let size = ap length e in absurd (omega arith)

mark_follows : (b j : ℕ) (rest : List ℕ) → (b ≡ 47 → begins (is 42) rest ≡ false) → (o : Option Punct) → punct_of (b ∷ take j rest) ≡ o
    → (q : Piece) → option_map mark o ≡ Some q → may_follow q (drop j rest) ≡ true
mark_follows b j rest star None got q e = absurd cc
mark_follows b j rest star (Some p) got q e =
    let same : mark p ≡ q = cc in
    subst (λ (r : Piece). may_follow r (drop j rest) ≡ true) same
    (elim (slash_or p (drop j rest)) [
      | inl ok ↦ ok
      | inr slash ↦
          let alone : b ∷ take j rest ≡ 47 ∷ [] = slash_alone (b ∷ take j rest) (got ∙ ap (λ (x : Punct). Some x) slash) in
          let none : begins (is 42) (drop j rest) ≡ false = behind_slash b j rest alone star in
          subst (λ (x : Punct). may_follow (mark x) (drop j rest) ≡ true) (sym slash) (ap not none)
    ])

allowed_mark : (at : Cutting) (size : ℕ) (o : Option Punct) → allowed at (option_map (front size) (option_map mark o)) ≡ option_map (λ p. front size (mark p)) o
allowed_mark at size None = refl
allowed_mark at size (Some p) = refl

-- what can stand is the mark of this size
pub mark-front : (at : Cutting) (b : ℕ) (rest : List ℕ) (j : ℕ) → piece_of (b ∷ take j rest) ≡ option_map mark (punct_of (b ∷ take j rest))
    → (b ≡ 47 → begins (is 42) rest ≡ false) → front_of at (b ∷ rest) (suc j) ≡ mark_of (b ∷ rest) (suc j)
unfolding mark_of
mark-front at b rest j class star =
    follows at (b ∷ rest) (suc j) (option_map mark (punct_of (b ∷ take j rest))) class (mark_follows b j rest star (punct_of (b ∷ take j rest)) refl)
    ∙ allowed_mark at (suc j) (punct_of (b ∷ take j rest))

mark_long : (at : Cutting) (b : ℕ) (rest : List ℕ) (j : ℕ) → piece_of (b ∷ take j rest) ≡ option_map mark (punct_of (b ∷ take j rest)) → 3 < length (b ∷ take j rest) → front_of at (b ∷ rest) (suc j) ≡ None
mark_long at b rest j class long =
    no_piece at (b ∷ rest) (suc j) (class ∙ ap (option_map mark) (punct-long (b ∷ take j rest) long))

three_bytes : (j : ℕ) (b c d : ℕ) (r : List ℕ) → 3 ≤ j → j < length (b ∷ c ∷ d ∷ r) → 3 < length (b ∷ take j (c ∷ d ∷ r))
three_bytes zero b c d r low high = absurd (omega arith)
three_bytes (suc zero) b c d r low high = absurd (omega arith)
three_bytes (suc (suc zero)) b c d r low high = absurd (omega arith)
three_bytes (suc (suc (suc j))) b c d [] low high = absurd (omega arith)
three_bytes (suc (suc (suc j))) b c d (e ∷ r) low high = omega arith

-- the longest mark is the longest piece
pub mark-first : (at : Cutting) (b : ℕ) (rest : List ℕ) → ((j : ℕ) → piece_of (b ∷ take j rest) ≡ option_map mark (punct_of (b ∷ take j rest)))
    → (b ≡ 47 → begins (is 42) rest ≡ false) → first_piece at (b ∷ rest) ≡ scanning.mark (b ∷ rest)
unfolding first_piece scanning.mark
mark-first at b [] class star = option_or-none _ ∙ mark-front at b [] 0 (class 0) star
mark-first at b (c ∷ []) class star =
    rw (mark-front at b (c ∷ []) 1 (class 1) star, mark-front at b (c ∷ []) 0 (class 0) star) (ap (option_or (mark_of (b ∷ c ∷ []) 2)) (option_or-none (mark_of (b ∷ c ∷ []) 1)))
mark-first at b (c ∷ d ∷ r) class star =
    let bytes : List ℕ = b ∷ c ∷ d ∷ r in
    let three : nat_le 3 (length bytes) ≡ true = grind (arith, nat_tests) in
    let two : nat_le 2 (length bytes) ≡ true = grind (arith, nat_tests) in
    let short : longest at bytes (length bytes) ≡ longest at bytes 3 =
    longest-below at bytes 3 (length bytes) (omega arith) (λ j low high. mark_long at b (c ∷ d ∷ r) j (class j) (three_bytes j b c d r low high)) in
    let sizes : longest at bytes 3 ≡ option_or (mark_of bytes 3) (option_or (mark_of bytes 2) (mark_of bytes 1)) =
    rw (mark-front at b (c ∷ d ∷ r) 2 (class 2) star, mark-front at b (c ∷ d ∷ r) 1 (class 1) star, mark-front at b (c ∷ d ∷ r) 0 (class 0) star)
    (ap (λ o. option_or (mark_of bytes 3) (option_or (mark_of bytes 2) o)) (option_or-none (mark_of bytes 1))) in
    short ∙ sizes ∙ sym (ap (λ t. option_or (mark_if t bytes 3) (option_or (mark_if (nat_le 2 (length bytes)) bytes 2) (mark_of bytes 1))) three
    ∙ ap (λ t. option_or (mark_of bytes 3) (option_or (mark_if t bytes 2) (mark_of bytes 1))) two)
