-- What exactness says of two trees of the same tokens.
use Rattle.std.proofs.Common.{◌≡◌, ℕ, zero, suc, List, false, arith}
use Rattle.lz_tree.specs.declared.token.Token.{Token}
use Rattle.lz_tree.specs.Trees.{Declaration, Statement}
use Rattle.lz_tree.specs.WellFormed.{InDeclaration, InStatement}
use Rattle.lz_expr.specs.Grammar.{expr}
use Rattle.lz_expr.proofs.WholeLemmas.{unique}
use Rattle.lz_grammar.specs.Grammar.{declaration, stmt}
use Rattle.lz_grammar.proofs.DeclarationsLemmas.{row_declaration}
use Rattle.lz_grammar.proofs.FormsLemmas.{statement_goes}
use Rattle.lz_grammar.proofs.StatementsLemmas.{tall_statement}
use Rattle.lz_grammar.proofs.StatementHeightsLemmas.{row_statement}

-- no two statements spell the same tokens
pub unique_statement : (h : ℕ) (s t : Statement) (ts : List Token) → InStatement h s ts → InStatement h t ts → s ≡ t
unique_statement zero s t ts m n = let high = tall_statement s in let low = m.low in absurd (omega arith)
unique_statement (suc h) s t ts m n = unique (InStatement (suc h)) (stmt (suc h)) statement_goes (row_statement h).exact s t ts m n

-- no two declarations spell the same tokens
pub unique_declaration : (h : ℕ) (d e : Declaration) (ts : List Token) → InDeclaration h d ts → InDeclaration h e ts → d ≡ e
unique_declaration h d e ts m n = unique (InDeclaration h) (declaration expr h) (λ _ _. false) (row_declaration h).exact d e ts m n
