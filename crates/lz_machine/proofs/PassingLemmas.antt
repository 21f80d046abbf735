-- Arguments are put into the kinds of the parameters one after the other. Each kind has 32 bits, so none changes.
use Rattle.std.proofs.Common.{◌≡◌, ℕ, List, [], ◌∷◌, get_or, set, refl, sym, ◌∙◌, ap}
use Rattle.std.proofs.lemmas.List.{set-get_or}
use Rattle.lz_base.specs.declared.word.IntType.{IntType}
use Rattle.lz_model.specs.CodeTraces.{passed}

pub passed_same : (froms tos : List IntType) (vs : List ℕ) → passed froms tos vs ≡ vs
passed_same [] tos vs = refl
passed_same (from ∷ froms) [] vs = refl
passed_same (from ∷ froms) (to ∷ tos) [] = refl
passed_same (from ∷ froms) (to ∷ tos) (v ∷ vs) = ap (λ (x : List ℕ). v ∷ x) (passed_same froms tos vs)

pub set_same : {xs ys : List ℕ} (i : ℕ) {x : ℕ} (d : ℕ) → xs ≡ ys → x ≡ get_or xs i d → set xs i x ≡ ys
set_same {xs} i d e is = ap (λ (y : ℕ). set xs i y) is ∙ (set-get_or xs i d ∙ e)

pub are_passed : (froms tos : List IntType) {xs vs : List ℕ} → xs ≡ vs → xs ≡ passed froms tos vs
are_passed froms tos {vs} e = e ∙ sym (passed_same froms tos vs)
