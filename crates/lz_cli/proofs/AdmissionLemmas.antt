-- What is said of a program's rules, slots, cost and first choice excludes every other case.
use Rattle.std.proofs.Common.{◌≡◌, ℕ, ◌<◌, ◌≤◌, List, [], ◌∷◌, Some, None, sym, ◌∙◌, ap, subst, arith}
use Rattle.std.proofs.lemmas.Option.{none-some, same_Some}
use Rattle.lz_base.proofs.ListLemmas.{cons_parts}
use Rattle.lz_tree.specs.Trees.{TranslationUnit}
use Rattle.lz_tree.specs.ScopedTrees.{ScopedProgram}
use Rattle.lz_scopes.specs.declared.fault.Fault.{Fault}
use Rattle.lz_resolve.specs.ScopedPrograms.{scoped_of}
use Rattle.lz_choices.specs.Choices.{first_choice}
use Rattle.lz_types.specs.Checking.{AreFaults, number_of}
use Rattle.lz_types.proofs.UniqueLemmas.{one_list}
use Rattle.lz_slots.specs.Nesting.{saturated}
use Rattle.lz_slots.specs.Slots.{slots}
use Rattle.lz_slots.specs.Costs.{cost}
use Rattle.lz_cli.specs.declared.ending.Ending.TheVariants.{Faulty, ManySlots, HighCost}
use Rattle.lz_cli.specs.Limits.{Bounds, slot_limit, cost_limit}
use Rattle.lz_cli.specs.Admission.{IsFaulty, IsAccepted, HasManySlots, HasHighCost, IsAdmitted}
use Rattle.lz_cli.proofs.SourceLemmas.{OneTree, one_tree}

-- ---- rules

empty_list : {P : Type 0} (first : Fault) (rest : List Fault) → [] ≡ first ∷ rest → P
empty_list first rest e = absurd cc

pub same_accepted : OneTree → (bytes : List ℕ) (t u : TranslationUnit) → IsAccepted bytes t → IsAccepted bytes u → t ≡ u
same_accepted one bytes t u a b = one_tree one bytes t u a.of b.of

-- no program breaks a rule and none
pub no_fault_accepted : {P : Type 0} → OneTree → (bytes : List ℕ) (tree : TranslationUnit) (line rule : ℕ) → IsAccepted bytes tree → IsFaulty bytes line rule → P
no_fault_accepted one bytes tree line rule a f =
    let same : f.tree ≡ tree = one_tree one bytes f.tree tree f.of a.of in
    let faults : AreFaults tree (f.first ∷ f.rest) = subst (λ (t : TranslationUnit). AreFaults t (f.first ∷ f.rest)) same f.faults in
    empty_list f.first f.rest (one_list tree [] (f.first ∷ f.rest) a.faultless faults)

-- one rule is the first
pub one_faulty : OneTree → (bytes : List ℕ) (line rule l r : ℕ) → IsFaulty bytes line rule → IsFaulty bytes l r → Faulty line rule ≡ Faulty l r
one_faulty one bytes line rule l r a b =
    let same : b.tree ≡ a.tree = one_tree one bytes b.tree a.tree b.of a.of in
    let faults : AreFaults a.tree (b.first ∷ b.rest) = subst (λ (t : TranslationUnit). AreFaults t (b.first ∷ b.rest)) same b.faults in
    let first : a.first ≡ b.first = (cons_parts (one_list a.tree (a.first ∷ a.rest) (b.first ∷ b.rest) a.faults faults)).0 in
    let lines : line ≡ l = a.told_line ∙ ap (λ (f : Fault). f.line) first ∙ sym b.told_line in
    let rules : rule ≡ r = a.told_rule ∙ ap (λ (f : Fault). number_of f.rule) first ∙ sym b.told_rule in
    ap (λ (n : ℕ). Faulty n rule) lines ∙ ap (λ (n : ℕ). Faulty l n) rules

-- ---- slots and cost

pub no_slots_accepted : {P : Type 0} → OneTree → (bounds : Bounds) (bytes : List ℕ) (tree : TranslationUnit) (told : ℕ) → IsAccepted bytes tree
    → slots (scoped_of tree) bounds.unwind ≤ slot_limit → HasManySlots bounds bytes told → P
no_slots_accepted one bounds bytes tree told a few m =
    let over : slot_limit < slots (scoped_of tree) bounds.unwind =
    subst (λ (t : TranslationUnit). slot_limit < slots (scoped_of t) bounds.unwind) (same_accepted one bytes m.tree tree m.accepted a) m.over in
    absurd (omega (arith, few, over))

pub no_cost_accepted : {P : Type 0} → OneTree → (bounds : Bounds) (bytes : List ℕ) (tree : TranslationUnit) (told : ℕ) → IsAccepted bytes tree
    → cost (scoped_of tree) bounds.unwind bounds.rounds ≤ cost_limit → HasHighCost bounds bytes told → P
no_cost_accepted one bounds bytes tree told a low h =
    let over : cost_limit < cost (scoped_of tree) bounds.unwind bounds.rounds =
    subst (λ (t : TranslationUnit). cost_limit < cost (scoped_of t) bounds.unwind bounds.rounds) (same_accepted one bytes h.tree tree h.accepted a) h.over in
    absurd (omega (arith, low, over))

pub one_slots : OneTree → (bounds : Bounds) (bytes : List ℕ) (n m : ℕ) → HasManySlots bounds bytes n → HasManySlots bounds bytes m → ManySlots n ≡ ManySlots m
one_slots one bounds bytes n m a b =
    let same : a.tree ≡ b.tree = same_accepted one bytes a.tree b.tree a.accepted b.accepted in
    ap ManySlots (a.told_slots ∙ ap (λ (t : TranslationUnit). saturated (slots (scoped_of t) bounds.unwind)) same ∙ sym b.told_slots)

pub one_cost : OneTree → (bounds : Bounds) (bytes : List ℕ) (n m : ℕ) → HasHighCost bounds bytes n → HasHighCost bounds bytes m → HighCost n ≡ HighCost m
one_cost one bounds bytes n m a b =
    let same : a.tree ≡ b.tree = same_accepted one bytes a.tree b.tree a.accepted b.accepted in
    ap HighCost (a.told_cost ∙ ap (λ (t : TranslationUnit). saturated (cost (scoped_of t) bounds.unwind bounds.rounds)) same ∙ sym b.told_cost)

-- ---- choices

-- bytes that are admitted mean one program
pub same_program : OneTree → {bounds : Bounds} {bytes : List ℕ} (a b : IsAdmitted bounds bytes) → scoped_of a.tree ≡ scoped_of b.tree
same_program one {bounds} {bytes} a b = ap scoped_of (same_accepted one bytes a.tree b.tree a.accepted b.accepted)

-- no program has a choice and none
pub no_choice_chosen : {P : Type 0} {p q : ScopedProgram} {line : ℕ} → p ≡ q → first_choice p ≡ None → first_choice q ≡ Some line → P
no_choice_chosen {P} {p} {q} {line} same none some = absurd (none-some line (sym none ∙ ap first_choice same ∙ some))

-- one choice is the first
pub one_choice : {p q : ScopedProgram} {line other : ℕ} → p ≡ q → first_choice p ≡ Some line → first_choice q ≡ Some other → line ≡ other
one_choice {p} {q} {line} {other} same a b = same_Some line other (sym a ∙ ap first_choice same ∙ b)
