-- Costs and sites of a function's body owe to other functions only the numbers of those that it calls.
use Rattle.std.proofs.Common.{◌≡◌, ℕ, zero, suc, ◌+◌, ◌<◌, ◌≤◌, List, [], ◌∷◌, length, get_or, map, slice_index, ◌*◌, refl, ap, sym, ◌∙◌, arith}
use Rattle.lz_tree.specs.declared.scoped.ScopedFunction.{ScopedFunction}
use Rattle.lz_tree.specs.ScopedTrees.{empty, ScopedDefinition, ScopedProgram, scoped_statement, scoped_definition}
use Rattle.lz_tree.specs.Calls.{body_at}
use Rattle.lz_slots.specs.Nesting.{saturated}
use Rattle.lz_slots.specs.CostTable.{thread_number}
use Rattle.lz_slots.specs.Costs.{cost_step, body_cost, thread_cost, statement_cost, cost}
use Rattle.lz_slots.specs.Walking.{weight_of}
use Rattle.lz_slots.specs.declared.sites.SiteWeight.TheVariants.{Thread}
use Rattle.lz_slots.specs.Slots.{sites_step, function_sites, statement_sites, slots}
use Rattle.lz_slots.proofs.AgreementLemmas.{sees_all, sees_saturated, statement_agrees, statement_sites_agree}
use Rattle.lz_slots.proofs.SaturationLemmas.{saturated_product}
use Rattle.lz_slots.proofs.NestingLemmas.{IsLocal, through_alike}

-- no function has a number past the last
body_at_past : (functions : List ScopedDefinition) (f : ℕ) → length functions ≤ f → body_at functions f ≡ empty
body_at_past [] f past = refl
body_at_past (d ∷ rest) zero past = absurd (omega arith)
body_at_past (d ∷ rest) (suc f) past = body_at_past rest f (omega arith)

-- the body of a function that stands in a list
pub body_at_of : (xs : List ScopedFunction) (f : ℕ) (x : ScopedFunction) → f < length xs → x ≡ get_or xs f x → body_at (map scoped_definition xs) f ≡ scoped_statement x.body
body_at_of [] f x low is = absurd (omega arith)
body_at_of (d ∷ rest) zero x low is = ap (λ (y : ScopedFunction). scoped_statement y.body) (sym is)
body_at_of (d ∷ rest) (suc f) x low is = body_at_of rest f x (omega arith) is

pub cost_is_local : (functions : List ScopedDefinition) (turns threads : ℕ) → IsLocal functions (cost_step functions turns threads)
cost_is_local functions turns threads = record {
  same = λ f g x a. statement_agrees (record { sees = sees_all; turns = refl; threads = refl }) (body_at functions x) a;
  alike = λ f g x a. statement_agrees (record { sees = sees_saturated; turns = refl; threads = refl }) (body_at functions x) a;
  beyond = λ f x past. ap (statement_cost (record { turns = turns; threads = threads; bodies = f })) (body_at_past functions x past);
}

pub sites_are_local : (functions : List ScopedDefinition) (turns : ℕ) (weights : ℕ → ℕ) → IsLocal functions (sites_step functions turns weights)
sites_are_local functions turns weights = record {
  same = λ f g x a. statement_sites_agree (record { sees = sees_all; turns = refl; weights = λ y. refl }) (body_at functions x) a;
  alike = λ f g x a. statement_sites_agree (record { sees = sees_saturated; turns = refl; weights = λ y. refl }) (body_at functions x) a;
  beyond = λ f x past. ap (statement_sites (record { turns = turns; weights = weights; bodies = f })) (body_at_past functions x past);
}

-- of the number of threads a cost owes no more than where it stops
pub body_cost_alike : (functions : List ScopedDefinition) (turns t u : ℕ) → saturated t ≡ saturated u → (f : ℕ) → saturated (body_cost functions turns t f) ≡ saturated (body_cost functions turns u f)
body_cost_alike functions turns t u same f =
    through_alike (cost_step functions turns t) (cost_step functions turns u) (λ p q x each. statement_agrees (record { sees = sees_saturated; turns = refl; threads = same }) (body_at functions x) (record { at = λ y called. each y })) (length functions) f

-- of what a site counts the sites owe no more than where it stops
pub function_sites_alike : (functions : List ScopedDefinition) (turns : ℕ) (v w : ℕ → ℕ) → ((x : ℕ) → saturated (v x) ≡ saturated (w x)) → (f : ℕ) → saturated (function_sites functions turns v f) ≡ saturated (function_sites functions turns w f)
function_sites_alike functions turns v w same f =
    through_alike (sites_step functions turns v) (sites_step functions turns w) (λ p q x each. statement_sites_agree (record { sees = sees_saturated; turns = refl; weights = same }) (body_at functions x) (record { at = λ y called. each y })) (length functions) f

-- a thread for `main` and those that it creates, in each round
pub rounds_sum : (rounds : ℕ) {bodies starts body own start all result : ℕ} → body ≡ bodies → own ≡ saturated (thread_number + body) → start ≡ starts → all ≡ saturated (own + start) → result ≡ saturated (rounds * all) → result ≡ saturated (rounds * (thread_number + bodies + starts))
rounds_sum rounds {bodies} {starts} {all} is_body is_own is_start is_all is_result =
    let alike : saturated all ≡ saturated (thread_number + bodies + starts) = omega arith in
    is_result ∙ saturated_product rounds all (thread_number + bodies + starts) alike

same_sum : {a : ℕ} (b : ℕ) {c : ℕ} (d : ℕ) → a ≡ saturated b → c ≡ saturated d → saturated (thread_number + a + c) ≡ saturated (thread_number + b + d)
same_sum b d left right = omega arith

one_more : (s threads n : ℕ) → s ≡ saturated n → threads ≡ saturated (s + 1) → saturated threads ≡ saturated (n + 1)
one_more s threads n is_s is_threads = omega arith

in_a_thread : (a b : ℕ) → a ≡ saturated b → saturated (thread_number + a) ≡ saturated (thread_number + b)
in_a_thread a b is = omega arith

-- the cost of a program, from what its parts come to
pub cost_made : (program : ScopedProgram) (turns rounds s threads : ℕ) (bodies starts : List ℕ) (result : ℕ) → s ≡ saturated (slots program turns) → threads ≡ saturated (s + 1) → ((f : ℕ) → slice_index bodies f ≡ saturated (body_cost program.functions turns threads f)) → ((f : ℕ) → slice_index starts f ≡ saturated (function_sites program.functions turns (weight_of Thread bodies) f)) → result ≡ saturated (rounds * (thread_number + slice_index bodies program.main + slice_index starts program.main)) → result ≡ saturated (cost program turns rounds)
cost_made program turns rounds s threads bodies starts result is_s is_threads are_bodies are_starts is =
    let exact : ℕ = slots program turns + 1 in
    let same : saturated threads ≡ saturated exact = one_more s threads (slots program turns) is_s is_threads in
    let body : (f : ℕ) → slice_index bodies f ≡ saturated (body_cost program.functions turns exact f) =
    λ f. are_bodies f ∙ body_cost_alike program.functions turns threads exact same f in
    let start : slice_index starts program.main ≡ saturated (function_sites program.functions turns (thread_cost program.functions turns exact) program.main) =
    are_starts program.main
    ∙ function_sites_alike program.functions turns (weight_of Thread bodies) (thread_cost program.functions turns exact) (λ x. in_a_thread _ _ (body x)) program.main in
    is ∙ saturated_product rounds _ _ (same_sum _ _ (body program.main) start)
