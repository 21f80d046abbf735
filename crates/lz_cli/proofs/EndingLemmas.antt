-- Verdicts and endings are lawful.
use Rattle.std.proofs.Common.{◌≡◌, ℕ, ◌+◌, ◌*◌, ◌<◌, ◌≤◌, ◌^◌, List, [], ◌∷◌, length, Some, None, inl, refl, sym, subst, arith}
use Rattle.lz_base.specs.declared.word.BreakKind.{BreakKind}
use Rattle.lz_tree.specs.declared.token.Tokens.{Tokens}
use Rattle.lz_tree.specs.Tokens.{HasTokens}
use Rattle.lz_tree.specs.Trees.{TranslationUnit}
use Rattle.lz_parse.specs.Programs.{IsProgram, IsRefusedAt}
use Rattle.lz_model.specs.declared.schedule.Step.{Step}
use Rattle.lz_model.specs.ScheduleText.{IsScheduleText}
use Rattle.lz_outside.specs.Files as files
use Rattle.lz_replay.specs.declared.answer.Replayed.{Replayed}
use Rattle.lz_replay.specs.Replays.{Says}
use Rattle.lz_model.specs.Rounds.{rounds_of, threads_of}
use Rattle.lz_cnf.specs.declared.clause.Cnf.{Cnf}
use Rattle.lz_cnf.specs.Models.{IsFormula, HasModel}
use Rattle.lz_log.specs.declared.log.LogStep.{LogStep}
use Rattle.lz_log.specs.Refutation.{Refutes}
use Rattle.lz_replay.specs.declared.deciding.Decided.TheVariants.{Holds, Broken}
use Rattle.lz_replay.specs.Deciding.{Decides}
use Rattle.lz_choices.specs.Choices.{first_choice}
use Rattle.lz_slots.specs.Slots.{function_sites, slots}
use Rattle.lz_slots.specs.Costs.{body_cost, thread_cost, cost}
use Rattle.lz_scopes.specs.declared.fault.Fault.{Fault}
use Rattle.lz_resolve.specs.ScopedPrograms.{scoped_of}
use Rattle.lz_types.specs.Checking.{AreFaults, number_of}
use Rattle.lz_tree.specs.ScopedTrees.{ScopedProgram}
use Rattle.lz_tree.specs.Calls.{IsCallOrder}
use Rattle.lz_cli.specs.declared.ending.Ending.{Ending}
use Rattle.lz_cli.specs.declared.ending.Ending.TheVariants.{Successful, Failed, NotAToken, NotAProgram, Faulty, ManySlots, HighCost, Recheck, Replay, NotBuilt, FileTooLong, ScheduleTooLong, ProofTooLong, BadSchedule, ReadFault, Usage, OutOfMemory}
use Rattle.lz_cli.specs.Limits.{within, checking, schedule_limit}
use Rattle.lz_cli.specs.Admission.{IsFaulty, IsAccepted, IsAdmitted}
use Rattle.lz_cli.specs.Admit.{IsWithin, Admits}
use Rattle.lz_cli.specs.Source.{HasTree, HasNoTree}
use Rattle.lz_cli.specs.Ending.{Call, IsSuccess, IsFailure, IsNotBuilt, IsSource, IsVerdict, IsRunSource, IsRun, IsRunBy, IsReplayed, IsLawful}

-- bytes whose tokens a tree spells
pub has_tree : {bytes : List ℕ} {tokens : Tokens} {tree : TranslationUnit} → HasTokens bytes tokens → IsProgram tokens tree → HasTree bytes tree
has_tree {bytes} {tokens} are spelled = record { tokens = tokens; are = are; spelled = spelled }

-- bytes whose tokens no tree spells
pub has_no_tree : {bytes : List ℕ} {tokens : Tokens} {line token : ℕ} → HasTokens bytes tokens → IsRefusedAt tokens token line → HasNoTree bytes line token
has_no_tree {bytes} {tokens} are refused = record { tokens = tokens; are = are; refused = refused }

-- ---- rules, slots and cost

pub faulty : {bytes : List ℕ} {tree : TranslationUnit} {line rule : ℕ} (first : Fault) (rest : List Fault) → HasTree bytes tree → AreFaults tree (first ∷ rest)
    → line ≡ first.line → rule ≡ number_of first.rule → IsFaulty bytes line rule
faulty {bytes} {tree} first rest of faults told_line told_rule =
    record { tree = tree; of = of; first = first; rest = rest; faults = faults; told_line = told_line; told_rule = told_rule }

-- a program within both
pub admits : {turns rounds : ℕ} {bytes : List ℕ} {tree : TranslationUnit} {p : ScopedProgram} {order : List ℕ} → IsAccepted bytes tree → p ≡ scoped_of tree → IsCallOrder p.functions order
    → IsWithin p turns rounds → Admits turns rounds bytes tree p order
admits accepted meaning ordered limits = record { accepted = accepted; limits = limits; meaning = meaning; ordered = ordered }

-- what is kept of it says that it is admitted, with the meaning of its tree
within_limits : {turns rounds : ℕ} {bytes : List ℕ} {tree : TranslationUnit} {p : ScopedProgram} {order : List ℕ} {A : Type 0} → Admits turns rounds bytes tree p order
    → ((is : IsAdmitted (within turns rounds) bytes) → p ≡ scoped_of is.tree → A) → A
within_limits {turns} {rounds} {bytes} {tree} {p} kept use_ =
    let limits = subst (λ (q : ScopedProgram). IsWithin q turns rounds) kept.meaning kept.limits in
    use_ (record { tree = tree; accepted = kept.accepted; few_slots = limits.few_slots; low_cost = limits.low_cost }) kept.meaning

-- ---- verdicts on a program within the limits

-- a program with a choice
pub not_built : {turns : ℕ} {bytes : List ℕ} {tree : TranslationUnit} {p : ScopedProgram} {order : List ℕ} {line : ℕ} → Admits turns 2 bytes tree p order → first_choice p ≡ Some line
    → IsNotBuilt (checking turns) bytes line
not_built {turns} {bytes} {tree} {p} {order} {line} kept choice =
    within_limits kept (λ is meaning. record { admitted = is; choice = subst (λ (q : ScopedProgram). first_choice q ≡ Some line) meaning choice })

-- no program costs less than its thread
some_cost : (p : ScopedProgram) (turns : ℕ) → 1 ≤ cost p turns 2
some_cost p turns = least (body_cost p.functions turns threads p.main) (function_sites p.functions turns (thread_cost p.functions turns threads) p.main)
  where
    threads : ℕ
    threads = slots p turns + 1

    least : (a b : ℕ) → 1 ≤ 2 * (4096 + a + b)
    least a b = omega arith

-- a program that holds, and the least refutation
pub success : {turns : ℕ} {bytes : List ℕ} {tree : TranslationUnit} {p : ScopedProgram} {order : List ℕ} {formula : Cnf} {log : List LogStep} → Admits turns 2 bytes tree p order → first_choice p ≡ None
    → Decides p turns Holds → IsFormula formula → Refutes formula log → (HasModel formula → ⊥) → formula.variables ≡ 1 → length log ≡ 1 → IsSuccess (checking turns) bytes turns 2 formula log
success {turns} {bytes} {tree} {p} {order} {formula} {log} kept none holds is_formula refutes no_model one_variable one = within_limits kept made
  where
    made : (is : IsAdmitted (within turns 2) bytes) → p ≡ scoped_of is.tree → IsSuccess (checking turns) bytes turns 2 formula log
    made is meaning =
        let safe : Decides (scoped_of is.tree) turns Holds = subst (λ (q : ScopedProgram). Decides q turns Holds) meaning holds in
        record {
          admitted = is;
          no_choice = subst (λ (q : ScopedProgram). first_choice q ≡ None) meaning none;
          told_unwind = refl;
          told_rounds = refl;
          not_violated = safe 2;
          proof = record {
            is = is_formula;
            refutes = refutes;
            exact = (λ model. absurd (no_model model), λ violated. absurd (safe 2 violated));
            few_variables = omega (arith, one_variable, some_cost (scoped_of is.tree) turns);
            within = omega arith;
          };
        }

-- a program that is broken
pub failure : {turns : ℕ} {bytes : List ℕ} {tree : TranslationUnit} {p : ScopedProgram} {order : List ℕ} {kind : BreakKind} {line : ℕ} {schedule : List Step} → Admits turns 2 bytes tree p order
    → first_choice p ≡ None → Decides p turns (Broken schedule kind line) → line < 2 ^ 32 → IsFailure (checking turns) bytes kind line schedule
failure {turns} {bytes} {tree} {p} {order} {kind} {line} {schedule} kept none broken word = within_limits kept made
  where
    made : (is : IsAdmitted (within turns 2) bytes) → p ≡ scoped_of is.tree → IsFailure (checking turns) bytes kind line schedule
    made is meaning =
        let here : Decides (scoped_of is.tree) turns (Broken schedule kind line) = subst (λ (q : ScopedProgram). Decides q turns (Broken schedule kind line)) meaning broken in
        record { admitted = is; no_choice = subst (λ (q : ScopedProgram). first_choice q ≡ None) meaning none; breaks = here.0; told_line = word; within_rounds = omega (arith, here.1) }

-- one round is a number of rounds that can be told
pub failure_printable : {p : ScopedProgram} {turns : ℕ} {kind : BreakKind} {line : ℕ} {schedule : List Step} → Decides p turns (Broken schedule kind line) → rounds_of (threads_of schedule) < 2 ^ 32
failure_printable broken = omega (arith, broken.1)

-- ---- replays

-- what is lawful of a program that is run by a schedule is so of what was read
pub run_lawful : {call : Call} {turns : ℕ} {schedule bytes text : List ℕ} {tree : TranslationUnit} {p : ScopedProgram} {order : List ℕ} (ending : Ending) → IsRunSource call turns schedule bytes → Admits turns 1 bytes tree p order
    → files.Holds call.files schedule text → length text ≤ schedule_limit
    → ((by_ : IsRunBy call turns bytes text) → p ≡ scoped_of by_.run.admitted.tree → IsLawful call ending) → IsLawful call ending
run_lawful {call} {turns} {schedule} {bytes} {text} {tree} {p} ending source kept held within_ lawful =
    within_limits kept (λ is meaning. lawful (record { schedule = schedule; run = record { source = source; admitted = is }; held = held; within_limit = within_ }) meaning)

pub is_run : {call : Call} {turns : ℕ} {schedule bytes : List ℕ} {tree : TranslationUnit} {p : ScopedProgram} {order : List ℕ} → IsRunSource call turns schedule bytes → Admits turns 1 bytes tree p order
    → IsRun call turns schedule bytes
is_run source kept = within_limits kept (λ is meaning. record { source = source; admitted = is })

pub is_replayed : {call : Call} {turns : ℕ} {bytes text : List ℕ} {steps : List Step} {p : ScopedProgram} {answer : Replayed} (by_ : IsRunBy call turns bytes text) → IsScheduleText text steps → p ≡ scoped_of by_.run.admitted.tree
    → Says p turns steps answer → IsReplayed call answer
is_replayed {call} {turns} {bytes} {text} {steps} {p} {answer} by_ reads meaning says =
    record { turns = turns; bytes = bytes; text = text; by = by_; steps = steps; read = reads; says = subst (λ (q : ScopedProgram). Says q turns steps answer) meaning says }

-- ---- verdicts of a file

pub verdict_lawful : {call : Call} {turns : ℕ} {bytes : List ℕ} (ending : Ending) → IsSource call turns bytes → IsVerdict (checking turns) bytes ending → IsLawful call ending
verdict_lawful {call} {turns} {bytes} (Successful unwind rounds formula log) source v = (turns, bytes, source, v)
verdict_lawful {call} {turns} {bytes} (Failed kind line schedule) source v = (turns, bytes, source, v)
verdict_lawful {call} {turns} {bytes} (NotAToken line place) source v = inl (turns, bytes, source, v)
verdict_lawful {call} {turns} {bytes} (NotAProgram line token) source v = inl (turns, bytes, source, v)
verdict_lawful {call} {turns} {bytes} (Faulty line rule) source v = inl (turns, bytes, source, v)
verdict_lawful {call} {turns} {bytes} (ManySlots slots) source v = inl (turns, bytes, source, v)
verdict_lawful {call} {turns} {bytes} (HighCost cost) source v = inl (turns, bytes, source, v)
verdict_lawful {call} {turns} {bytes} (Recheck answer) source v = absurd v
verdict_lawful {call} {turns} {bytes} (Replay answer) source v = absurd v
verdict_lawful {call} {turns} {bytes} (NotBuilt line) source v = inl (turns, bytes, source, v)
verdict_lawful {call} {turns} {bytes} FileTooLong source v = absurd v
verdict_lawful {call} {turns} {bytes} ScheduleTooLong source v = absurd v
verdict_lawful {call} {turns} {bytes} ProofTooLong source v = absurd v
verdict_lawful {call} {turns} {bytes} (BadSchedule line) source v = absurd v
verdict_lawful {call} {turns} {bytes} (ReadFault name) source v = absurd v
verdict_lawful {call} {turns} {bytes} Usage source v = absurd v
verdict_lawful {call} {turns} {bytes} OutOfMemory source v = tt

pub is_accepted : {bytes : List ℕ} {tree : TranslationUnit} → HasTree bytes tree → AreFaults tree [] → IsAccepted bytes tree
is_accepted {bytes} {tree} of faultless = record { of = of; faultless = faultless }

-- a tree that is the same breaks no rule either
pub accepted_as : {bytes : List ℕ} {tree other : TranslationUnit} → other ≡ tree → HasTree bytes tree → AreFaults tree [] → IsAccepted bytes other
accepted_as {bytes} {tree} {other} same of faultless = subst (IsAccepted bytes) (sym same) (is_accepted of faultless)
