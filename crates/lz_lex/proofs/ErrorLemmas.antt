-- Which place a refusal names.
use Rattle.std.proofs.Common.{◌≡◌, ℕ, Result, Ok, Err, sym, ap, ◌∙◌}
use Rattle.lz_tree.specs.declared.token.Tokens.{Tokens}
use Rattle.lz_tree.specs.Tokens.{Cut, stopped}
use Rattle.lz_lex.specs.declared.error.LexError.{LexError}
use Rattle.lz_lex.specs.declared.error.LexError.TheVariants.{Bad, Memory}

place_of : LexError → ℕ
place_of (Bad place line) = place
place_of Memory = 0

line_of : LexError → ℕ
line_of (Bad place line) = line
line_of Memory = 0

error_of : Result Tokens LexError → LexError → LexError
error_of (Ok tokens) e = e
error_of (Err e) other = e

-- the named place is where the cut stopped
pub stopped_at : {c : Cut} (p l place line : ℕ) (e : LexError) {given : Result Tokens LexError} → given ≡ Err e → c ≡ stopped p l → e ≡ Bad p l → given ≡ Err (Bad place line) → c ≡ stopped place line
unfolding place_of line_of error_of
stopped_at p l place line e came stop bad is =
    let same : Bad p l ≡ Bad place line = sym bad ∙ ap (λ r. error_of r Memory) (sym came ∙ is) in
    stop ∙ ap (λ n. stopped n l) (ap place_of same) ∙ ap (λ n. stopped place n) (ap line_of same)
