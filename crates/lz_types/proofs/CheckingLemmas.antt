-- What a check answers, from the list of all faults, and that list from what is known of a file.
use Rattle.std.proofs.Common.{◌≡◌, ℕ, List, [], ◌∷◌, Option, Some, None, Vec, Global, IsSome, slice_get, refl, sym, ap, ◌∙◌, subst}
use Rattle.lz_tree.specs.Trees.{TranslationUnit}
use Rattle.lz_tree.specs.ScopedTrees.{ScopedProgram}
use Rattle.lz_scopes.specs.declared.fault.Fault.{Fault}
use Rattle.lz_scopes.specs.Files.{File, Facts, file_with, bare}
use Rattle.lz_resolve.specs.ScopedPrograms.{scoped_of}
use Rattle.lz_calls.specs.Calls.{AreFacts}
use Rattle.lz_calls.specs.Facts.{IsOrderOf}
use Rattle.lz_tree.specs.Calls.{IsCallOrder}
use Rattle.lz_types.proofs.RecursionLemmas.{recursion_free}
use Rattle.lz_types.specs.Faults.{file_faults}
use Rattle.lz_types.specs.Parts.{with_facts}
use Rattle.lz_types.specs.Checking.{AreFaults, number_of}

-- the faults of a file in which the facts of its calls are set
pub found_all : (unit : TranslationUnit) (p : ScopedProgram) (facts : Facts) (f f' : File) (list : List Fault) → p ≡ scoped_of unit → AreFacts p.functions facts
    → f ≡ bare unit → f' ≡ with_facts f facts
    → list ≡ file_faults f' unit.externals → AreFaults unit list
unfolding file_with
found_all unit p facts f f' list is right before set listed = record {
  facts = facts;
  right = subst (λ (q : ScopedProgram). AreFacts q.functions facts) is right;
  listed = listed ∙ ap (λ (g : File). file_faults g unit.externals) (set ∙ rw before refl);
}

no_first : (list : List Fault) → slice_get list 0 ≡ None → list ≡ []
no_first [] is = refl
no_first (x ∷ rest) is = absurd cc

pub accepted : (unit : TranslationUnit) (list : List Fault) → AreFaults unit list → slice_get list 0 ≡ None → AreFaults unit []
accepted unit list all none = subst (λ (l : List Fault). AreFaults unit l) (no_first list none) all

pub refused : (unit : TranslationUnit) (list : List Fault) (one : Fault) (number : ℕ) → AreFaults unit list → slice_get list 0 ≡ Some one → number ≡ number_of one.rule
    → (first : Fault) × (rest : List Fault) × AreFaults unit (first ∷ rest) × (one.line ≡ first.line) × (number ≡ number_of first.rule)
refused unit [] one number all is numbered = absurd cc
refused unit (x ∷ rest) one number all is numbered =
    let same : one ≡ x = cc in
    (x, rest, all, ap (λ (f : Fault). f.line) same, numbered ∙ ap (λ (f : Fault). number_of f.rule) same)

-- where no rule is broken there is an order of the calls
pub order_there : (unit : TranslationUnit) (list : List Fault) (order : Option (Vec ℕ Global)) → AreFaults unit list → slice_get list 0 ≡ None
    → IsOrderOf (scoped_of unit).functions order → IsSome order
order_there unit list None all none no_order = absurd (no_order (recursion_free unit (accepted unit list all none)))
order_there unit list (Some order) all none is = refl

pub order_right : (unit : TranslationUnit) (p : ScopedProgram) (order : Option (Vec ℕ Global)) (found : Vec ℕ Global) → p ≡ scoped_of unit
    → IsOrderOf (scoped_of unit).functions order → order ≡ Some found → IsCallOrder p.functions found.items
order_right unit p order found whole is same =
    subst (λ (q : ScopedProgram). IsCallOrder q.functions found.items) (sym whole)
    (subst (λ (o : Option (Vec ℕ Global)). IsOrderOf (scoped_of unit).functions o) same is)
