-- The parts of a block, read by a loop.
use Rattle.std.proofs.Common.{◌≡◌, ℕ, ◌-◌, Bool, true, false, [], length, List, refl, ◌∙◌, if◌then◌else◌, arith}
use Rattle.std.specs.Prelude.{nat_lt}
use Rattle.lz_tree.specs.declared.token.Token.{Token}
use Rattle.lz_tree.specs.declared.token.Punct.TheVariants as marks
use Rattle.lz_tree.specs.Languages.{is_mark}
use Rattle.lz_tree.specs.Trees.{Statement}
use Rattle.lz_expr.specs.Reading.{Reader, ◌>>=◌, pure, until, behind}
use Rattle.lz_expr.specs.Grammar.{mark}
use Rattle.lz_expr.proofs.LoopsLemmas.{behind_none}
use Rattle.lz_grammar.specs.Grammar.{parts}

module _ (inner : Reader Token Statement) (ts : List Token) where
  abbrev ending : Reader Token (List Statement)
  ending = mark marks.CloseBrace >>= (λ m. pure [])

  abbrev up_to : ℕ → Reader Token (List Statement)
  up_to = until (is_mark marks.CloseBrace) (mark marks.CloseBrace) inner

  by_room : (b : Bool) → (if b then up_to (length ts) ts else ending ts) ≡ up_to (if b then length ts else 0) ts
  unfolding until
  by_room true = refl
  by_room false = refl

  -- before the first part
  pub parts_begin : (h n : ℕ) → n ≡ (if nat_lt 0 h then length ts else 0) → parts inner h ts ≡ behind [] (up_to (n - 0) ts)
  unfolding parts
  parts_begin h n is =
      let same : n - 0 ≡ n = omega arith in
      rw (same, is) (by_room (nat_lt 0 h) ∙ behind_none (is_mark marks.CloseBrace) (mark marks.CloseBrace) inner (up_to (if nat_lt 0 h then length ts else 0) ts))
