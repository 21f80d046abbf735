-- One turn of the loop over statements, and its end.
use Rattle.std.proofs.Common.{◌≡◌, ℕ, suc, ◌+◌, ◌≤◌, ◌<◌, List, [], ◌∷◌, length, map, drop, get_or, refl, sym, ◌∙◌, ap, subst, arith}
use Rattle.std.proofs.lemmas.List.{drop_more, drop_all}
use Rattle.lz_flat.specs.declared.program.Guarded.{Guarded}
use Rattle.lz_flat.specs.Programs.{Statement, statement}
use Rattle.lz_ssa.specs.Construction.{Progress, statement_made, statements_made}

-- one statement of those that are left
statements_step : (i : ℕ) (first : Statement) (rest : List Statement) (so_far : Progress) → statements_made i (first ∷ rest) so_far ≡ statements_made (suc i) rest (statement_made i first so_far)
unfolding statements_made
statements_step i first rest so_far = refl

-- one turn of the statements
pub statements_turn : (list : List Guarded) (i : ℕ) (next : Guarded) (so_far : Progress) {after all : Progress} → i < length list → next ≡ get_or list i next
    → statements_made i (map statement (drop i list)) so_far ≡ all → after ≡ statement_made i (statement next) so_far
    → statements_made (i + 1) (map statement (drop (i + 1) list)) after ≡ all
statements_turn list i next so_far {all} lt e old is =
    let more : drop i list ≡ next ∷ drop (i + 1) list = drop_more list i next lt ∙ ap (λ (x : Guarded). x ∷ drop (i + 1) list) (sym e) in
    let rest = map statement (drop (i + 1) list) in
    let here : statements_made i (statement next ∷ rest) so_far ≡ all = subst (λ (part : List Guarded). statements_made i (map statement part) so_far ≡ all) more old in
    rw is (subst (λ (k : ℕ). statements_made k rest (statement_made i (statement next) so_far) ≡ all) (let z : suc i ≡ i + 1 = omega arith in z)
    (sym (statements_step i (statement next) rest so_far) ∙ here))

-- behind the last statement
pub statements_end : (list : List Guarded) (i : ℕ) (so_far all : Progress) → length list ≤ i → statements_made i (map statement (drop i list)) so_far ≡ all → so_far ≡ all
unfolding statements_made
statements_end list i so_far all h old =
    let none : drop i list ≡ [] = drop_all i list h in
    subst (λ (part : List Guarded). statements_made i (map statement part) so_far ≡ all) none old
