-- The cases of a lawful ending exclude each other.
use Rattle.std.proofs.Common.{◌≡◌, ℕ, zero, suc, ◌+◌, ◌*◌, ◌^◌, ◌<◌, ◌≤◌, ◌⊎◌, inl, inr, ⊎_elim, List, length, replicate, Option, Some, None, refl, sym, ◌∙◌, ap, subst, arith}
use Rattle.std.specs.List.{AllByRecursion}
use Rattle.lz_base.specs.declared.word.BreakKind.{BreakKind}
use Rattle.lz_outside.specs.Faults.{Rose}
use Rattle.lz_outside.specs.Files.{FileMap, Lacks, Tells, Holds, IsLonger}
use Rattle.lz_tree.specs.declared.token.Tokens.{Tokens}
use Rattle.lz_tree.specs.Tokens.{HasTokens}
use Rattle.lz_tree.specs.Trees.{TranslationUnit}
use Rattle.lz_parse.specs.Programs.{IsProgram, IsRefusedAt}
use Rattle.lz_model.specs.declared.schedule.Step.{Step}
use Rattle.lz_model.specs.declared.actions.Event.{Event}
use Rattle.lz_model.specs.Rounds.{rounds_of, threads_of}
use Rattle.lz_model.specs.Interleavings.{IsRun}
use Rattle.lz_model.specs.BrokenRuns.{IsBrokenRun, rounds_of_run, Follows}
use Rattle.lz_model.specs.Programs.{process_of, IsViolatedWithin}
use Rattle.lz_model.specs.ScheduleText.{IsStep, IsScheduleText, IsNoSchedule, lines_of}
use Rattle.lz_tree.specs.ScopedTrees.{ScopedProgram}
use Rattle.lz_resolve.specs.ScopedPrograms.{scoped_of}
use Rattle.lz_choices.specs.Choices.{first_choice}
use Rattle.lz_choices.specs.MainAlone.{main_step}
use Rattle.lz_slots.specs.Slots.{function_sites, slots}
use Rattle.lz_slots.specs.Costs.{thread_cost, cost}
use Rattle.lz_replay.specs.declared.answer.Replayed.{Replayed}
use Rattle.lz_replay.specs.declared.answer.Replayed.TheVariants.{Broke}
use Rattle.lz_replay.specs.Replays.{Says}
use Rattle.lz_cli.specs.declared.ending.Ending.{Ending}
use Rattle.lz_cli.specs.declared.ending.Ending.TheVariants.{Successful, Failed, NotAToken, NotAProgram, Faulty, ManySlots, HighCost, Recheck, Replay, NotBuilt, FileTooLong, ScheduleTooLong, ProofTooLong, BadSchedule, ReadFault, Usage, OutOfMemory}
use Rattle.lz_words.specs.CommandLine.{HasNoReading}
use Rattle.lz_cli.specs.CommandLine.{IsUnbuilt, IsFileName, IsProofName, IsSourceName, IsNamed}
use Rattle.lz_cli.specs.Recheck.{proof_limit, IsRechecked}
use Rattle.lz_base.specs.Limits.{file_limit}
use Rattle.lz_cli.specs.Limits.{Bounds, defaults, checking, replaying, cost_limit, schedule_limit}
use Rattle.lz_cli.specs.Report.{report}
use Rattle.lz_cli.specs.Source.{HasNoTokens, HasTree}
use Rattle.lz_cli.specs.Admission.{IsFaulty, IsAccepted, HasManySlots, HasHighCost, IsAdmitted}
use Rattle.lz_cli.specs.Ending.{Call, IsSource, IsRunSource, IsProofSource, IsVerdict, IsFailure, IsLawful}
use Rattle.lz_cli.specs.Exactness.{IsToldFile, IsToldCheck, IsToldRun, IsToldSource, IsToldReplay, IsToldProof, IsDecided, IsDecidedWithin, IsRefusal, IsEither, IsAnswer, IsRunAnswer}
use Rattle.lz_cli.proofs.AdmissionLemmas.{same_accepted, no_fault_accepted, one_faulty, no_slots_accepted, no_cost_accepted, one_slots, one_cost, same_program, no_choice_chosen, one_choice}
use Rattle.lz_cli.proofs.SourceLemmas.{OneTree, one_tokens, no_tokens, one_place, no_tree}
use Rattle.lz_cli.proofs.ScheduleLemmas.{no_first_bad, one_first_bad}
use Rattle.lz_cli.proofs.ReportLemmas.{report_read}
use Rattle.lz_cli.proofs.NamesLemmas.{same_check, check_proof, same_run, check_run, proof_run, same_named, no_reading_named, unbuilt_named}
use Rattle.lz_cli.proofs.OriginLemmas.{unfit_verdict, admitted_fits, RunEnds, replayed, unreadable, longer, unread, Origin, decided, refused, ran, rechecked, too_long, proof_too_long, not_read, unread_words, unbuilt, out, origin}

-- ---- what is told

content_in : Option (List ℕ) → List ℕ → List ℕ
content_in (Some bytes) other = bytes
content_in None other = other

told_bytes : (files : Option FileMap) (name bytes content : List ℕ) → Tells files name content → Holds files name bytes → bytes ≡ content
unfolding content_in
told_bytes None name bytes content t h = absurd t
told_bytes (Some told) name bytes content t h = ap (λ (o : Option (List ℕ)). content_in o bytes) (sym h ∙ t)

told_longer : (files : Option FileMap) (name content : List ℕ) (limit : ℕ) → Tells files name content → IsLonger files name limit → limit < length content
unfolding content_in
told_longer None name content limit t h = absurd t
told_longer (Some told) name content limit t h =
    subst (λ (bytes : List ℕ). limit < length bytes) (ap (λ (o : Option (List ℕ)). content_in o content) (sym h.1 ∙ t)) h.2

told_there : (files : Option FileMap) (name content : List ℕ) → Tells files name content → Lacks files name → ⊥
told_there None name content t h = t
told_there (Some told) name content t h = let clash : None ≡ Some content = sym h ∙ t in absurd cc

lacking_holds : (files : Option FileMap) (name bytes : List ℕ) → Lacks files name → Holds files name bytes → ⊥
lacking_holds None name bytes l h = l
lacking_holds (Some told) name bytes l h = let clash : None ≡ Some bytes = sym l ∙ h in absurd cc

lacking_longer : (files : Option FileMap) (name : List ℕ) (limit : ℕ) → Lacks files name → IsLonger files name limit → ⊥
lacking_longer None name limit l h = l
lacking_longer (Some told) name limit l h = let clash : None ≡ Some h.0 = sym l ∙ h.1 in absurd cc

-- what was read is what is told
check_source : (call : Call) (turns t : ℕ) (content bytes : List ℕ) → IsToldCheck call turns content → IsSource call t bytes → (t ≡ turns) × (bytes ≡ content)
check_source call turns t content bytes told source =
    let same = same_check call.words t turns source.name told.name source.named told.named in
    (same.0, told_bytes call.files told.name bytes content told.tells (subst (λ (name : List ℕ). Holds call.files name bytes) same.1 source.held))

run_source : (call : Call) (turns t : ℕ) (schedule s content bytes : List ℕ) → IsToldRun call turns schedule content → IsRunSource call t s bytes → (t ≡ turns) × (s ≡ schedule) × (bytes ≡ content)
run_source call turns t schedule s content bytes told source =
    let same = same_run call.words t turns s schedule source.name told.name source.named told.named in
    (same.0, same.1, told_bytes call.files told.name bytes content told.tells (subst (λ (name : List ℕ). Holds call.files name bytes) same.2 source.held))

proof_bytes : (call : Call) (content bytes : List ℕ) → IsToldProof call content → IsProofSource call bytes → bytes ≡ content
proof_bytes call content bytes told source =
    told_bytes call.files told.name bytes content told.tells
    (subst (λ (name : List ℕ). Holds call.files name bytes) (same_named call.words source.name told.name (inr source.named) (inr told.named)) source.held)

-- a file that is told can be read
no_fault : (call : Call) (name content other : List ℕ) → IsNamed call.words name → Tells call.files name content → (Rose call.faults_before call.faults_after → ⊥)
    → IsNamed call.words other → Rose call.faults_before call.faults_after ⊎ Lacks call.files other → ⊥
no_fault call name content other named tells calm also cause =
    ⊎_elim calm (λ lacks. told_there call.files name content tells (subst (Lacks call.files) (same_named call.words other name also named) lacks)) cause

-- a told file that is longer than a limit
long_told : (call : Call) (name content other : List ℕ) (limit : ℕ) → IsNamed call.words name → Tells call.files name content → IsNamed call.words other → IsLonger call.files other limit → limit < length content
long_told call name content other limit named tells also longer_ =
    told_longer call.files name content limit tells (subst (λ (n : List ℕ). IsLonger call.files n limit) (same_named call.words other name also named) longer_)

-- ---- verdicts

at_memory : (bounds : Bounds) (content : List ℕ) (ending : Ending) → ending ≡ OutOfMemory → IsVerdict bounds content ending
at_memory bounds content ending e = subst (IsVerdict bounds content) (sym e) tt

-- within the limit, what is lawful is the verdict on what is told
check_verdict : (call : Call) (turns : ℕ) (content : List ℕ) (ending : Ending) → IsToldCheck call turns content → length content ≤ file_limit → Origin call ending → IsVerdict (checking turns) content ending
check_verdict call turns content ending told short (decided t bytes source v) =
    let same = check_source call turns t content bytes told source in
    subst (λ (n : ℕ). IsVerdict (checking n) content ending) same.0 (subst (λ (b : List ℕ). IsVerdict (checking t) b ending) same.1 v)
check_verdict call turns content ending told short (refused t s bytes source v) = absurd (check_run call.words turns t told.name s source.name told.named source.named)
check_verdict call turns content ending told short (ran t s bytes run ends) = absurd (check_run call.words turns t told.name s run.source.name told.named run.source.named)
check_verdict call turns content ending told short (rechecked bytes answer source is e) = absurd (check_proof call.words turns told.name source.name told.named source.named)
check_verdict call turns content ending told short (too_long name named long e) =
    let over = long_told call told.name content name file_limit (inl (inl (turns, told.named))) told.tells (inl named) long in absurd (omega arith)
check_verdict call turns content ending told short (proof_too_long name named long e) = absurd (check_proof call.words turns told.name name told.named named)
check_verdict call turns content ending told short (not_read name named cause e) =
    absurd (no_fault call told.name content name (inl (inl (turns, told.named))) told.tells told.calm named cause)
check_verdict call turns content ending told short (unread_words none e) = absurd (no_reading_named call.words none told.name (inl (inl (turns, told.named))))
check_verdict call turns content ending told short (unbuilt none e) = absurd (unbuilt_named none told.name (inl (inl (turns, told.named))))
check_verdict call turns content ending told short (out e) = at_memory (checking turns) content ending e

-- the same of a program that is not admitted to be run
run_verdict : (call : Call) (turns : ℕ) (schedule content : List ℕ) (ending : Ending) → IsToldRun call turns schedule content → length content ≤ file_limit → (IsAdmitted (replaying turns) content → ⊥)
    → Origin call ending → IsVerdict (replaying turns) content ending
run_verdict call turns schedule content ending told short none (decided t bytes source v) = absurd (check_run call.words t turns source.name schedule told.name source.named told.named)
run_verdict call turns schedule content ending told short none (refused t s bytes source v) =
    let same = run_source call turns t schedule s content bytes told source in
    subst (λ (n : ℕ). IsVerdict (replaying n) content ending) same.0 (subst (λ (b : List ℕ). IsVerdict (replaying t) b ending) same.2 (unfit_verdict (replaying t) bytes ending v))
run_verdict call turns schedule content ending told short none (ran t s bytes run ends) =
    let same = run_source call turns t schedule s content bytes told run.source in
    absurd (none (subst (λ (n : ℕ). IsAdmitted (replaying n) content) same.0 (subst (IsAdmitted (replaying t)) same.2 run.admitted)))
run_verdict call turns schedule content ending told short none (rechecked bytes answer source is e) = absurd (proof_run call.words turns source.name schedule told.name source.named told.named)
run_verdict call turns schedule content ending told short none (too_long name named long e) =
    let over = long_told call told.name content name file_limit (inl (inr (turns, schedule, told.named))) told.tells (inl named) long in absurd (omega arith)
run_verdict call turns schedule content ending told short none (proof_too_long name named long e) = absurd (proof_run call.words turns name schedule told.name named told.named)
run_verdict call turns schedule content ending told short none (not_read name named cause e) =
    absurd (no_fault call told.name content name (inl (inr (turns, schedule, told.named))) told.tells told.calm named cause)
run_verdict call turns schedule content ending told short none (unread_words nothing e) = absurd (no_reading_named call.words nothing told.name (inl (inr (turns, schedule, told.named))))
run_verdict call turns schedule content ending told short none (unbuilt nothing e) = absurd (unbuilt_named nothing told.name (inl (inr (turns, schedule, told.named))))
run_verdict call turns schedule content ending told short none (out e) = at_memory (replaying turns) content ending e

source_verdict : (call : Call) (bounds : Bounds) (content : List ℕ) (ending : Ending) → IsToldSource call bounds content → length content ≤ file_limit → (IsAdmitted bounds content → ⊥) → IsLawful call ending
    → IsVerdict bounds content ending
source_verdict call bounds content ending (inl told) short none lawful =
    subst (λ (b : Bounds). IsVerdict b content ending) (sym told.2) (check_verdict call told.0 content ending told.1 short (origin call ending lawful))
source_verdict call bounds content ending (inr told) short none lawful =
    subst (λ (b : Bounds). IsVerdict b content ending) (sym told.3)
    (run_verdict call told.0 told.1 content ending told.2 short (subst (λ (b : Bounds). IsAdmitted b content → ⊥) told.3 none) (origin call ending lawful))

-- words that say no number of turns
by_default : (call : Call) (content : List ℕ) → IsToldFile call content → IsToldCheck call 2 content
by_default call content told = record { name = told.name; named = told.named; tells = told.tells; calm = told.calm }

pub default_source : (call : Call) (content : List ℕ) → IsToldFile call content → IsToldSource call defaults content
default_source call content told = inl (2, by_default call content told, refl)

-- ---- laws

-- what is taken of lz_model: a schedule that a broken run follows is followed by a broken run in just its rounds
abbrev pub BrokenInRounds : Type 0
BrokenInRounds = (p : ScopedProgram) (n : ℕ) (run : List Event) (schedule : List Step) (kind : BreakKind) (line : ℕ) → IsBrokenRun (process_of p n) run kind line → Follows run schedule
    → (other : List Event) × IsBrokenRun (process_of p n) other kind line × Follows other schedule × (rounds_of_run other ≡ rounds_of (threads_of schedule))

failure_violates : BrokenInRounds → (bounds : Bounds) (bytes : List ℕ) (kind : BreakKind) (line : ℕ) (schedule : List Step) (failure : IsFailure bounds bytes kind line schedule)
    → IsViolatedWithin (scoped_of failure.admitted.tree) bounds.unwind bounds.rounds
failure_violates in_rounds bounds bytes kind line schedule failure =
    let other = in_rounds (scoped_of failure.admitted.tree) bounds.unwind failure.breaks.run schedule kind line failure.breaks.broken_ failure.breaks.follows in
    record { run = other.0; kind = kind; line = line; broken_ = other.1; few = omega (arith, other.3, failure.within_rounds) }

-- a file whose program has no choice
decided_by : OneTree → BrokenInRounds → (bounds : Bounds) (bytes : List ℕ) (ending : Ending) (a : IsAdmitted bounds bytes) → first_choice (scoped_of a.tree) ≡ None → IsVerdict bounds bytes ending
    → IsDecidedWithin bounds (scoped_of a.tree) ending
decided_by one in_rounds bounds bytes (Successful unwind rounds formula log) a none v =
    subst (λ (q : ScopedProgram). IsViolatedWithin q bounds.unwind bounds.rounds → ⊥) (same_program one v.admitted a) v.not_violated
decided_by one in_rounds bounds bytes (Failed kind line schedule) a none v =
    subst (λ (q : ScopedProgram). IsViolatedWithin q bounds.unwind bounds.rounds) (same_program one v.admitted a) (failure_violates in_rounds bounds bytes kind line schedule v)
decided_by one in_rounds bounds bytes (NotAToken line place) a none v = no_tokens bytes a.accepted.of.tokens line place a.accepted.of.are v
decided_by one in_rounds bounds bytes (NotAProgram line token) a none v = no_tree bytes a.tree line token a.accepted.of v
decided_by one in_rounds bounds bytes (Faulty line rule) a none v = no_fault_accepted one bytes a.tree line rule a.accepted v
decided_by one in_rounds bounds bytes (ManySlots slots) a none v = no_slots_accepted one bounds bytes a.tree slots a.accepted a.few_slots v
decided_by one in_rounds bounds bytes (HighCost cost) a none v = no_cost_accepted one bounds bytes a.tree cost a.accepted a.low_cost v
decided_by one in_rounds bounds bytes (Recheck answer) a none v = v
decided_by one in_rounds bounds bytes (Replay answer) a none v = v
decided_by one in_rounds bounds bytes (NotBuilt line) a none v = no_choice_chosen (same_program one a v.admitted) none v.choice
decided_by one in_rounds bounds bytes FileTooLong a none v = v
decided_by one in_rounds bounds bytes ScheduleTooLong a none v = v
decided_by one in_rounds bounds bytes ProofTooLong a none v = v
decided_by one in_rounds bounds bytes (BadSchedule line) a none v = v
decided_by one in_rounds bounds bytes (ReadFault name) a none v = v
decided_by one in_rounds bounds bytes Usage a none v = v
decided_by one in_rounds bounds bytes OutOfMemory a none v = tt

pub decided_within : OneTree → BrokenInRounds → (call : Call) (turns : ℕ) (content : List ℕ) (ending : Ending) → IsToldCheck call turns content → length content ≤ file_limit
    → (admitted : IsAdmitted (checking turns) content) → first_choice (scoped_of admitted.tree) ≡ None → IsLawful call ending → IsDecidedWithin (checking turns) (scoped_of admitted.tree) ending
decided_within one in_rounds call turns content ending told short admitted none lawful =
    decided_by one in_rounds (checking turns) content ending admitted none (check_verdict call turns content ending told short (origin call ending lawful))

pub decided_ends : OneTree → BrokenInRounds → (call : Call) (content : List ℕ) (ending : Ending) → IsToldFile call content → length content ≤ file_limit
    → (admitted : IsAdmitted defaults content) → first_choice (scoped_of admitted.tree) ≡ None → IsLawful call ending → IsDecided (scoped_of admitted.tree) ending
decided_ends one in_rounds call content ending told = decided_within one in_rounds call 2 content ending (by_default call content told)

-- a file whose program has a choice
not_built_by : OneTree → (bounds : Bounds) (bytes : List ℕ) (line : ℕ) (ending : Ending) (a : IsAdmitted bounds bytes) → first_choice (scoped_of a.tree) ≡ Some line → IsVerdict bounds bytes ending
    → IsEither (NotBuilt line) ending
not_built_by one bounds bytes line (Successful unwind rounds formula log) a some v = no_choice_chosen (same_program one v.admitted a) v.no_choice some
not_built_by one bounds bytes line (Failed kind l schedule) a some v = no_choice_chosen (same_program one v.admitted a) v.no_choice some
not_built_by one bounds bytes line (NotAToken l place) a some v = no_tokens bytes a.accepted.of.tokens l place a.accepted.of.are v
not_built_by one bounds bytes line (NotAProgram l token) a some v = no_tree bytes a.tree l token a.accepted.of v
not_built_by one bounds bytes line (Faulty l rule) a some v = no_fault_accepted one bytes a.tree l rule a.accepted v
not_built_by one bounds bytes line (ManySlots slots) a some v = no_slots_accepted one bounds bytes a.tree slots a.accepted a.few_slots v
not_built_by one bounds bytes line (HighCost cost) a some v = no_cost_accepted one bounds bytes a.tree cost a.accepted a.low_cost v
not_built_by one bounds bytes line (Recheck answer) a some v = absurd v
not_built_by one bounds bytes line (Replay answer) a some v = absurd v
not_built_by one bounds bytes line (NotBuilt l) a some v = ap NotBuilt (one_choice (same_program one a v.admitted) some v.choice)
not_built_by one bounds bytes line FileTooLong a some v = absurd v
not_built_by one bounds bytes line ScheduleTooLong a some v = absurd v
not_built_by one bounds bytes line ProofTooLong a some v = absurd v
not_built_by one bounds bytes line (BadSchedule l) a some v = absurd v
not_built_by one bounds bytes line (ReadFault name) a some v = absurd v
not_built_by one bounds bytes line Usage a some v = absurd v
not_built_by one bounds bytes line OutOfMemory a some v = tt

pub not_built_within : OneTree → (call : Call) (turns : ℕ) (content : List ℕ) (line : ℕ) (ending : Ending) → IsToldCheck call turns content → length content ≤ file_limit
    → (admitted : IsAdmitted (checking turns) content) → first_choice (scoped_of admitted.tree) ≡ Some line → IsLawful call ending → IsEither (NotBuilt line) ending
not_built_within one call turns content line ending told short admitted some lawful =
    not_built_by one (checking turns) content line ending admitted some (check_verdict call turns content ending told short (origin call ending lawful))

pub not_built_ends : OneTree → (call : Call) (content : List ℕ) (line : ℕ) (ending : Ending) → IsToldFile call content → length content ≤ file_limit
    → (admitted : IsAdmitted defaults content) → first_choice (scoped_of admitted.tree) ≡ Some line → IsLawful call ending → IsEither (NotBuilt line) ending
not_built_ends one call content line ending told = not_built_within one call 2 content line ending (by_default call content told)

-- a file whose program breaks a rule
faulty_by : OneTree → (bounds : Bounds) (bytes : List ℕ) (line rule : ℕ) (ending : Ending) → IsFaulty bytes line rule → IsVerdict bounds bytes ending → IsEither (Faulty line rule) ending
faulty_by one bounds bytes line rule (Successful unwind rounds formula log) f v = no_fault_accepted one bytes v.admitted.tree line rule v.admitted.accepted f
faulty_by one bounds bytes line rule (Failed kind l schedule) f v = no_fault_accepted one bytes v.admitted.tree line rule v.admitted.accepted f
faulty_by one bounds bytes line rule (NotAToken l place) f v = no_tokens bytes f.of.tokens l place f.of.are v
faulty_by one bounds bytes line rule (NotAProgram l token) f v = no_tree bytes f.tree l token f.of v
faulty_by one bounds bytes line rule (Faulty l r) f v = one_faulty one bytes line rule l r f v
faulty_by one bounds bytes line rule (ManySlots slots) f v = no_fault_accepted one bytes v.tree line rule v.accepted f
faulty_by one bounds bytes line rule (HighCost cost) f v = no_fault_accepted one bytes v.tree line rule v.accepted f
faulty_by one bounds bytes line rule (Recheck answer) f v = absurd v
faulty_by one bounds bytes line rule (Replay answer) f v = absurd v
faulty_by one bounds bytes line rule (NotBuilt l) f v = no_fault_accepted one bytes v.admitted.tree line rule v.admitted.accepted f
faulty_by one bounds bytes line rule FileTooLong f v = absurd v
faulty_by one bounds bytes line rule ScheduleTooLong f v = absurd v
faulty_by one bounds bytes line rule ProofTooLong f v = absurd v
faulty_by one bounds bytes line rule (BadSchedule line_) f v = absurd v
faulty_by one bounds bytes line rule (ReadFault name) f v = absurd v
faulty_by one bounds bytes line rule Usage f v = absurd v
faulty_by one bounds bytes line rule OutOfMemory f v = tt

pub faulty_ends : OneTree → (call : Call) (bounds : Bounds) (content : List ℕ) (line rule : ℕ) (ending : Ending) → IsToldSource call bounds content → length content ≤ file_limit → IsFaulty content line rule → IsLawful call ending
    → IsEither (Faulty line rule) ending
faulty_ends one call bounds content line rule ending told short f lawful =
    faulty_by one bounds content line rule ending f (source_verdict call bounds content ending told short (λ a. no_fault_accepted one content a.tree line rule a.accepted f) lawful)

-- a file whose program has too many slots
slots_by : OneTree → (bounds : Bounds) (bytes : List ℕ) (slots : ℕ) (ending : Ending) → HasManySlots bounds bytes slots → IsVerdict bounds bytes ending → IsEither (ManySlots slots) ending
slots_by one bounds bytes slots (Successful unwind rounds formula log) m v = no_slots_accepted one bounds bytes v.admitted.tree slots v.admitted.accepted v.admitted.few_slots m
slots_by one bounds bytes slots (Failed kind line schedule) m v = no_slots_accepted one bounds bytes v.admitted.tree slots v.admitted.accepted v.admitted.few_slots m
slots_by one bounds bytes slots (NotAToken line place) m v = no_tokens bytes m.accepted.of.tokens line place m.accepted.of.are v
slots_by one bounds bytes slots (NotAProgram line token) m v = no_tree bytes m.tree line token m.accepted.of v
slots_by one bounds bytes slots (Faulty line rule) m v = no_fault_accepted one bytes m.tree line rule m.accepted v
slots_by one bounds bytes slots (ManySlots n) m v = one_slots one bounds bytes slots n m v
slots_by one bounds bytes slots (HighCost cost) m v = no_slots_accepted one bounds bytes v.tree slots v.accepted v.few_slots m
slots_by one bounds bytes slots (Recheck answer) m v = absurd v
slots_by one bounds bytes slots (Replay answer) m v = absurd v
slots_by one bounds bytes slots (NotBuilt line) m v = no_slots_accepted one bounds bytes v.admitted.tree slots v.admitted.accepted v.admitted.few_slots m
slots_by one bounds bytes slots FileTooLong m v = absurd v
slots_by one bounds bytes slots ScheduleTooLong m v = absurd v
slots_by one bounds bytes slots ProofTooLong m v = absurd v
slots_by one bounds bytes slots (BadSchedule line_) m v = absurd v
slots_by one bounds bytes slots (ReadFault name) m v = absurd v
slots_by one bounds bytes slots Usage m v = absurd v
slots_by one bounds bytes slots OutOfMemory m v = tt

pub slots_ends : OneTree → (call : Call) (bounds : Bounds) (content : List ℕ) (slots : ℕ) (ending : Ending) → IsToldSource call bounds content → length content ≤ file_limit → HasManySlots bounds content slots → IsLawful call ending
    → IsEither (ManySlots slots) ending
slots_ends one call bounds content slots ending told short m lawful =
    slots_by one bounds content slots ending m (source_verdict call bounds content ending told short (λ a. no_slots_accepted one bounds content a.tree slots a.accepted a.few_slots m) lawful)

-- a file whose program costs too much
cost_by : OneTree → (bounds : Bounds) (bytes : List ℕ) (cost : ℕ) (ending : Ending) → HasHighCost bounds bytes cost → IsVerdict bounds bytes ending → IsEither (HighCost cost) ending
cost_by one bounds bytes cost (Successful unwind rounds formula log) h v = no_cost_accepted one bounds bytes v.admitted.tree cost v.admitted.accepted v.admitted.low_cost h
cost_by one bounds bytes cost (Failed kind line schedule) h v = no_cost_accepted one bounds bytes v.admitted.tree cost v.admitted.accepted v.admitted.low_cost h
cost_by one bounds bytes cost (NotAToken line place) h v = no_tokens bytes h.accepted.of.tokens line place h.accepted.of.are v
cost_by one bounds bytes cost (NotAProgram line token) h v = no_tree bytes h.tree line token h.accepted.of v
cost_by one bounds bytes cost (Faulty line rule) h v = no_fault_accepted one bytes h.tree line rule h.accepted v
cost_by one bounds bytes cost (ManySlots slots) h v = no_slots_accepted one bounds bytes h.tree slots h.accepted h.few_slots v
cost_by one bounds bytes cost (HighCost n) h v = one_cost one bounds bytes cost n h v
cost_by one bounds bytes cost (Recheck answer) h v = absurd v
cost_by one bounds bytes cost (Replay answer) h v = absurd v
cost_by one bounds bytes cost (NotBuilt line) h v = no_cost_accepted one bounds bytes v.admitted.tree cost v.admitted.accepted v.admitted.low_cost h
cost_by one bounds bytes cost FileTooLong h v = absurd v
cost_by one bounds bytes cost ScheduleTooLong h v = absurd v
cost_by one bounds bytes cost ProofTooLong h v = absurd v
cost_by one bounds bytes cost (BadSchedule line_) h v = absurd v
cost_by one bounds bytes cost (ReadFault name) h v = absurd v
cost_by one bounds bytes cost Usage h v = absurd v
cost_by one bounds bytes cost OutOfMemory h v = tt

pub cost_ends : OneTree → (call : Call) (bounds : Bounds) (content : List ℕ) (cost : ℕ) (ending : Ending) → IsToldSource call bounds content → length content ≤ file_limit → HasHighCost bounds content cost → IsLawful call ending
    → IsEither (HighCost cost) ending
cost_ends one call bounds content cost ending told short h lawful =
    cost_by one bounds content cost ending h (source_verdict call bounds content ending told short (λ a. no_cost_accepted one bounds content a.tree cost a.accepted a.low_cost h) lawful)

-- a file without a cut
same_place : (bytes : List ℕ) (line place l p : ℕ) → HasNoTokens bytes line place → HasNoTokens bytes l p → NotAToken line place ≡ NotAToken l p
same_place bytes line place l p a b =
    let same = one_place bytes line place l p a b in
    ap (λ (n : ℕ). NotAToken n place) same.0 ∙ ap (λ (n : ℕ). NotAToken l n) same.1

not_a_token_by : (bounds : Bounds) (bytes : List ℕ) (line place : ℕ) (ending : Ending) → HasNoTokens bytes line place → IsVerdict bounds bytes ending → IsEither (NotAToken line place) ending
not_a_token_by bounds bytes line place (Successful unwind rounds formula log) none v = no_tokens bytes v.admitted.accepted.of.tokens line place v.admitted.accepted.of.are none
not_a_token_by bounds bytes line place (Failed kind l schedule) none v = no_tokens bytes v.admitted.accepted.of.tokens line place v.admitted.accepted.of.are none
not_a_token_by bounds bytes line place (NotAToken l p) none v = same_place bytes line place l p none v
not_a_token_by bounds bytes line place (NotAProgram l token) none v = no_tokens bytes v.tokens line place v.are none
not_a_token_by bounds bytes line place (Faulty l rule) none v = no_tokens bytes v.of.tokens line place v.of.are none
not_a_token_by bounds bytes line place (ManySlots slots) none v = no_tokens bytes v.accepted.of.tokens line place v.accepted.of.are none
not_a_token_by bounds bytes line place (HighCost cost) none v = no_tokens bytes v.accepted.of.tokens line place v.accepted.of.are none
not_a_token_by bounds bytes line place (Recheck answer) none v = absurd v
not_a_token_by bounds bytes line place (Replay answer) none v = absurd v
not_a_token_by bounds bytes line place (NotBuilt l) none v = no_tokens bytes v.admitted.accepted.of.tokens line place v.admitted.accepted.of.are none
not_a_token_by bounds bytes line place FileTooLong none v = absurd v
not_a_token_by bounds bytes line place ScheduleTooLong none v = absurd v
not_a_token_by bounds bytes line place ProofTooLong none v = absurd v
not_a_token_by bounds bytes line place (BadSchedule line_) none v = absurd v
not_a_token_by bounds bytes line place (ReadFault name) none v = absurd v
not_a_token_by bounds bytes line place Usage none v = absurd v
not_a_token_by bounds bytes line place OutOfMemory none v = tt

pub not_a_token_ends : (call : Call) (bounds : Bounds) (content : List ℕ) (line place : ℕ) (ending : Ending) → IsToldSource call bounds content → length content ≤ file_limit → HasNoTokens content line place → IsLawful call ending
    → IsEither (NotAToken line place) ending
not_a_token_ends call bounds content line place ending told short none lawful =
    not_a_token_by bounds content line place ending none
    (source_verdict call bounds content ending told short (λ a. no_tokens content a.accepted.of.tokens line place a.accepted.of.are none) lawful)

-- a file whose tokens no tree spells
tree_here : (bytes : List ℕ) (tokens : Tokens) (tree : TranslationUnit) → HasTokens bytes tokens → HasTree bytes tree → IsProgram tokens tree
tree_here bytes tokens tree are of = subst (λ (s : Tokens). IsProgram s tree) (one_tokens bytes of.tokens tokens of.are are) of.spelled

not_a_program_by : (bounds : Bounds) (bytes : List ℕ) (tokens : Tokens) (ending : Ending) → HasTokens bytes tokens → ((u : TranslationUnit) → IsProgram tokens u → ⊥) → IsVerdict bounds bytes ending → IsRefusal tokens ending
not_a_program_by bounds bytes tokens (Successful unwind rounds formula log) are none v = none v.admitted.tree (tree_here bytes tokens v.admitted.tree are v.admitted.accepted.of)
not_a_program_by bounds bytes tokens (Failed kind line schedule) are none v = none v.admitted.tree (tree_here bytes tokens v.admitted.tree are v.admitted.accepted.of)
not_a_program_by bounds bytes tokens (NotAToken line place) are none v = no_tokens bytes tokens line place are v
not_a_program_by bounds bytes tokens (NotAProgram line token) are none v =
    subst (λ (s : Tokens). IsRefusedAt s token line) (one_tokens bytes v.tokens tokens v.are are) v.refused
not_a_program_by bounds bytes tokens (Faulty line rule) are none v = none v.tree (tree_here bytes tokens v.tree are v.of)
not_a_program_by bounds bytes tokens (ManySlots slots) are none v = none v.tree (tree_here bytes tokens v.tree are v.accepted.of)
not_a_program_by bounds bytes tokens (HighCost cost) are none v = none v.tree (tree_here bytes tokens v.tree are v.accepted.of)
not_a_program_by bounds bytes tokens (Recheck answer) are none v = v
not_a_program_by bounds bytes tokens (Replay answer) are none v = v
not_a_program_by bounds bytes tokens (NotBuilt line) are none v = none v.admitted.tree (tree_here bytes tokens v.admitted.tree are v.admitted.accepted.of)
not_a_program_by bounds bytes tokens FileTooLong are none v = v
not_a_program_by bounds bytes tokens ScheduleTooLong are none v = v
not_a_program_by bounds bytes tokens ProofTooLong are none v = v
not_a_program_by bounds bytes tokens (BadSchedule line_) are none v = v
not_a_program_by bounds bytes tokens (ReadFault name) are none v = v
not_a_program_by bounds bytes tokens Usage are none v = v
not_a_program_by bounds bytes tokens OutOfMemory are none v = tt

pub not_a_program_ends : (call : Call) (bounds : Bounds) (content : List ℕ) (tokens : Tokens) (ending : Ending) → IsToldSource call bounds content → length content ≤ file_limit → HasTokens content tokens
    → ((u : TranslationUnit) → IsProgram tokens u → ⊥) → IsLawful call ending → IsRefusal tokens ending
not_a_program_ends call bounds content tokens ending told short are none lawful =
    not_a_program_by bounds content tokens ending are none
    (source_verdict call bounds content ending told short (λ a. none a.tree (tree_here content tokens a.tree are a.accepted.of)) lawful)

-- ---- files that are too long, or are not there

not_proof : (words : List (List ℕ)) (a b : List ℕ) → IsSourceName words a → IsProofName words b → ⊥
not_proof words a b (inl p) q = check_proof words p.0 a b p.1 q
not_proof words a b (inr p) q = proof_run words p.0 b p.1 a q p.2

-- what was read is what is told of the file that is read first
read_bytes : (call : Call) (name content other bytes : List ℕ) → IsNamed call.words name → Tells call.files name content → IsNamed call.words other → Holds call.files other bytes → length bytes ≡ length content
read_bytes call name content other bytes named tells also held =
    ap length (told_bytes call.files name bytes content tells (subst (λ (n : List ℕ). Holds call.files n bytes) (same_named call.words other name also named) held))

too_long_by : (call : Call) (name content : List ℕ) (ending : Ending) → IsSourceName call.words name → Tells call.files name content → (Rose call.faults_before call.faults_after → ⊥) → file_limit < length content
    → Origin call ending → IsEither FileTooLong ending
too_long_by call name content ending named tells calm long (decided t bytes source v) =
    let same = read_bytes call name content source.name bytes (inl named) tells (inl (inl (t, source.named))) source.held in let short = source.within_limit in absurd (omega arith)
too_long_by call name content ending named tells calm long (refused t s bytes source v) =
    let same = read_bytes call name content source.name bytes (inl named) tells (inl (inr (t, s, source.named))) source.held in let short = source.within_limit in absurd (omega arith)
too_long_by call name content ending named tells calm long (ran t s bytes run ends) =
    let same = read_bytes call name content run.source.name bytes (inl named) tells (inl (inr (t, s, run.source.named))) run.source.held in let short = run.source.within_limit in absurd (omega arith)
too_long_by call name content ending named tells calm long (rechecked bytes answer source is e) = absurd (not_proof call.words name source.name named source.named)
too_long_by call name content ending named tells calm long (too_long other also over e) = subst (IsEither FileTooLong) (sym e) refl
too_long_by call name content ending named tells calm long (proof_too_long other also over e) = absurd (not_proof call.words name other named also)
too_long_by call name content ending named tells calm long (not_read other also cause e) = absurd (no_fault call name content other (inl named) tells calm also cause)
too_long_by call name content ending named tells calm long (unread_words none e) = absurd (no_reading_named call.words none name (inl named))
too_long_by call name content ending named tells calm long (unbuilt none e) = absurd (unbuilt_named none name (inl named))
too_long_by call name content ending named tells calm long (out e) = subst (IsEither FileTooLong) (sym e) tt

pub too_long_ends : (call : Call) (bounds : Bounds) (content : List ℕ) (ending : Ending) → IsToldSource call bounds content → file_limit < length content → IsLawful call ending → IsEither FileTooLong ending
too_long_ends call bounds content ending (inl told) long lawful =
    too_long_by call told.1.name content ending (inl (told.0, told.1.named)) told.1.tells told.1.calm long (origin call ending lawful)
too_long_ends call bounds content ending (inr told) long lawful =
    too_long_by call told.2.name content ending (inr (told.0, told.1, told.2.named)) told.2.tells told.2.calm long (origin call ending lawful)

lacking_read : (call : Call) (name other bytes : List ℕ) → IsNamed call.words name → Lacks call.files name → IsNamed call.words other → Holds call.files other bytes → ⊥
lacking_read call name other bytes named lacks also held =
    lacking_holds call.files name bytes lacks (subst (λ (n : List ℕ). Holds call.files n bytes) (same_named call.words other name also named) held)

lacking_long : (call : Call) (name other : List ℕ) (limit : ℕ) → IsNamed call.words name → Lacks call.files name → IsNamed call.words other → IsLonger call.files other limit → ⊥
lacking_long call name other limit named lacks also over =
    lacking_longer call.files name limit lacks (subst (λ (n : List ℕ). IsLonger call.files n limit) (same_named call.words other name also named) over)

missing_by : (call : Call) (name : List ℕ) (ending : Ending) → IsNamed call.words name → Lacks call.files name → Origin call ending → IsEither (ReadFault name) ending
missing_by call name ending named lacks (decided t bytes source v) = absurd (lacking_read call name source.name bytes named lacks (inl (inl (t, source.named))) source.held)
missing_by call name ending named lacks (refused t s bytes source v) = absurd (lacking_read call name source.name bytes named lacks (inl (inr (t, s, source.named))) source.held)
missing_by call name ending named lacks (ran t s bytes run ends) = absurd (lacking_read call name run.source.name bytes named lacks (inl (inr (t, s, run.source.named))) run.source.held)
missing_by call name ending named lacks (rechecked bytes answer source is e) = absurd (lacking_read call name source.name bytes named lacks (inr source.named) source.held)
missing_by call name ending named lacks (too_long other also over e) = absurd (lacking_long call name other file_limit named lacks (inl also) over)
missing_by call name ending named lacks (proof_too_long other also over e) = absurd (lacking_long call name other proof_limit named lacks (inr also) over)
missing_by call name ending named lacks (not_read other also cause e) = subst (IsEither (ReadFault name)) (sym e) (ap ReadFault (same_named call.words name other named also))
missing_by call name ending named lacks (unread_words none e) = absurd (no_reading_named call.words none name named)
missing_by call name ending named lacks (unbuilt none e) = absurd (unbuilt_named none name named)
missing_by call name ending named lacks (out e) = subst (IsEither (ReadFault name)) (sym e) tt

pub missing_ends : (call : Call) (name : List ℕ) (ending : Ending) → IsNamed call.words name → Lacks call.files name → IsLawful call ending → IsEither (ReadFault name) ending
missing_ends call name ending named lacks lawful = missing_by call name ending named lacks (origin call ending lawful)

pub default_named : (words : List (List ℕ)) (name : List ℕ) → IsFileName words name → IsNamed words name
default_named words name named = inl (inl (2, named))

usage_by : (call : Call) (ending : Ending) → HasNoReading call.words → Origin call ending → IsEither Usage ending
usage_by call ending none (decided t bytes source v) = absurd (no_reading_named call.words none source.name (inl (inl (t, source.named))))
usage_by call ending none (refused t s bytes source v) = absurd (no_reading_named call.words none source.name (inl (inr (t, s, source.named))))
usage_by call ending none (ran t s bytes run ends) = absurd (no_reading_named call.words none run.source.name (inl (inr (t, s, run.source.named))))
usage_by call ending none (rechecked bytes answer source is e) = absurd (no_reading_named call.words none source.name (inr source.named))
usage_by call ending none (too_long other also over e) = absurd (no_reading_named call.words none other (inl also))
usage_by call ending none (proof_too_long other also over e) = absurd (no_reading_named call.words none other (inr also))
usage_by call ending none (not_read other also cause e) = absurd (no_reading_named call.words none other also)
usage_by call ending none (unread_words other e) = subst (IsEither Usage) (sym e) refl
usage_by call ending none (unbuilt other e) = absurd (none other.asked other.reading)
usage_by call ending none (out e) = subst (IsEither Usage) (sym e) tt

pub usage_ends : (call : Call) (ending : Ending) → HasNoReading call.words → IsLawful call ending → IsEither Usage ending
usage_ends call ending none lawful = usage_by call ending none (origin call ending lawful)

unbuilt_by : (call : Call) (ending : Ending) → IsUnbuilt call.words → Origin call ending → IsEither (NotBuilt 0) ending
unbuilt_by call ending none (decided t bytes source v) = absurd (unbuilt_named none source.name (inl (inl (t, source.named))))
unbuilt_by call ending none (refused t s bytes source v) = absurd (unbuilt_named none source.name (inl (inr (t, s, source.named))))
unbuilt_by call ending none (ran t s bytes run ends) = absurd (unbuilt_named none run.source.name (inl (inr (t, s, run.source.named))))
unbuilt_by call ending none (rechecked bytes answer source is e) = absurd (unbuilt_named none source.name (inr source.named))
unbuilt_by call ending none (too_long other also over e) = absurd (unbuilt_named none other (inl also))
unbuilt_by call ending none (proof_too_long other also over e) = absurd (unbuilt_named none other (inr also))
unbuilt_by call ending none (not_read other also cause e) = absurd (unbuilt_named none other also)
unbuilt_by call ending none (unread_words other e) = absurd (other none.asked none.reading)
unbuilt_by call ending none (unbuilt other e) = subst (IsEither (NotBuilt 0)) (sym e) refl
unbuilt_by call ending none (out e) = subst (IsEither (NotBuilt 0)) (sym e) tt

pub unbuilt_ends : (call : Call) (ending : Ending) → IsUnbuilt call.words → IsLawful call ending → IsEither (NotBuilt 0) ending
unbuilt_ends call ending none lawful = unbuilt_by call ending none (origin call ending lawful)

-- ---- proof files

rechecked_by : (call : Call) (content : List ℕ) (ending : Ending) → IsToldProof call content → length content ≤ proof_limit → Origin call ending → IsAnswer content ending
rechecked_by call content ending told short (decided t bytes source v) = absurd (check_proof call.words t source.name told.name source.named told.named)
rechecked_by call content ending told short (refused t s bytes source v) = absurd (proof_run call.words t told.name s source.name told.named source.named)
rechecked_by call content ending told short (ran t s bytes run ends) = absurd (proof_run call.words t told.name s run.source.name told.named run.source.named)
rechecked_by call content ending told short (rechecked bytes answer source is e) =
    subst (IsAnswer content) (sym e) (subst (λ (b : List ℕ). IsRechecked b answer) (proof_bytes call content bytes told source) is)
rechecked_by call content ending told short (too_long other also over e) = absurd (not_proof call.words other told.name also told.named)
rechecked_by call content ending told short (proof_too_long other also over e) =
    let long = long_told call told.name content other proof_limit (inr told.named) told.tells (inr also) over in absurd (omega arith)
rechecked_by call content ending told short (not_read other also cause e) = absurd (no_fault call told.name content other (inr told.named) told.tells told.calm also cause)
rechecked_by call content ending told short (unread_words none e) = absurd (no_reading_named call.words none told.name (inr told.named))
rechecked_by call content ending told short (unbuilt none e) = absurd (unbuilt_named none told.name (inr told.named))
rechecked_by call content ending told short (out e) = subst (IsAnswer content) (sym e) tt

pub rechecked_ends : (call : Call) (content : List ℕ) (ending : Ending) → IsToldProof call content → length content ≤ proof_limit → IsLawful call ending → IsAnswer content ending
rechecked_ends call content ending told short lawful = rechecked_by call content ending told short (origin call ending lawful)

proof_too_long_by : (call : Call) (content : List ℕ) (ending : Ending) → IsToldProof call content → proof_limit < length content → Origin call ending → IsEither ProofTooLong ending
proof_too_long_by call content ending told long (decided t bytes source v) = absurd (check_proof call.words t source.name told.name source.named told.named)
proof_too_long_by call content ending told long (refused t s bytes source v) = absurd (proof_run call.words t told.name s source.name told.named source.named)
proof_too_long_by call content ending told long (ran t s bytes run ends) = absurd (proof_run call.words t told.name s run.source.name told.named run.source.named)
proof_too_long_by call content ending told long (rechecked bytes answer source is e) =
    let same = ap length (proof_bytes call content bytes told source) in let short = source.within_limit in absurd (omega arith)
proof_too_long_by call content ending told long (too_long other also over e) = absurd (not_proof call.words other told.name also told.named)
proof_too_long_by call content ending told long (proof_too_long other also over e) = subst (IsEither ProofTooLong) (sym e) refl
proof_too_long_by call content ending told long (not_read other also cause e) = absurd (no_fault call told.name content other (inr told.named) told.tells told.calm also cause)
proof_too_long_by call content ending told long (unread_words none e) = absurd (no_reading_named call.words none told.name (inr told.named))
proof_too_long_by call content ending told long (unbuilt none e) = absurd (unbuilt_named none told.name (inr told.named))
proof_too_long_by call content ending told long (out e) = subst (IsEither ProofTooLong) (sym e) tt

pub proof_too_long_ends : (call : Call) (content : List ℕ) (ending : Ending) → IsToldProof call content → proof_limit < length content → IsLawful call ending → IsEither ProofTooLong ending
proof_too_long_ends call content ending told long lawful = proof_too_long_by call content ending told long (origin call ending lawful)

-- ---- replays

-- a program that is admitted is run
run_here : OneTree → (call : Call) (turns : ℕ) (schedule content : List ℕ) (ending : Ending) → IsToldRun call turns schedule content → length content ≤ file_limit → (admitted : IsAdmitted (replaying turns) content)
    → Origin call ending → RunEnds call turns schedule (scoped_of admitted.tree) ending ⊎ (ending ≡ OutOfMemory)
run_here one call turns schedule content ending told short admitted (decided t bytes source v) = absurd (check_run call.words t turns source.name schedule told.name source.named told.named)
run_here one call turns schedule content ending told short admitted (refused t s bytes source v) =
    let same = run_source call turns t schedule s content bytes told source in
    absurd (admitted_fits one (replaying t) bytes ending
    (subst (IsAdmitted (replaying t)) (sym same.2) (subst (λ (n : ℕ). IsAdmitted (replaying n) content) (sym same.0) admitted)) v)
run_here one call turns schedule content ending told short admitted (ran t s bytes run ends) =
    let same = run_source call turns t schedule s content bytes told run.source in
    let accepted : IsAccepted content run.admitted.tree = subst (λ (b : List ℕ). IsAccepted b run.admitted.tree) same.2 run.admitted.accepted in
    let trees : run.admitted.tree ≡ admitted.tree = same_accepted one content run.admitted.tree admitted.tree accepted admitted.accepted in
    inl (subst (λ (p : ScopedProgram). RunEnds call turns schedule p ending) (ap scoped_of trees)
    (subst (λ (n : ℕ). RunEnds call n schedule (scoped_of run.admitted.tree) ending) same.0
    (subst (λ (l : List ℕ). RunEnds call t l (scoped_of run.admitted.tree) ending) same.1 ends)))
run_here one call turns schedule content ending told short admitted (rechecked bytes answer source is e) = absurd (proof_run call.words turns source.name schedule told.name source.named told.named)
run_here one call turns schedule content ending told short admitted (too_long name named long e) =
    let over = long_told call told.name content name file_limit (inl (inr (turns, schedule, told.named))) told.tells (inl named) long in absurd (omega arith)
run_here one call turns schedule content ending told short admitted (proof_too_long name named long e) = absurd (proof_run call.words turns name schedule told.name named told.named)
run_here one call turns schedule content ending told short admitted (not_read name named cause e) =
    absurd (no_fault call told.name content name (inl (inr (turns, schedule, told.named))) told.tells told.calm named cause)
run_here one call turns schedule content ending told short admitted (unread_words none e) = absurd (no_reading_named call.words none told.name (inl (inr (turns, schedule, told.named))))
run_here one call turns schedule content ending told short admitted (unbuilt none e) = absurd (unbuilt_named none told.name (inl (inr (turns, schedule, told.named))))
run_here one call turns schedule content ending told short admitted (out e) = inr e

-- what is taken of lz_replay: a text says one schedule, and one answer to a replay is right
abbrev pub OneSchedule : Type 0
OneSchedule = (text : List ℕ) (a b : List Step) → IsScheduleText text a → IsScheduleText text b → a ≡ b

abbrev pub OneReplay : Type 0
OneReplay = (p : ScopedProgram) (n : ℕ) (schedule : List Step) (one other : Replayed) → Says p n schedule one → Says p n schedule other → one ≡ other

schedule_bytes : (call : Call) (schedule text bytes : List ℕ) → Tells call.files schedule text → Holds call.files schedule bytes → bytes ≡ text
schedule_bytes call schedule text bytes tells held = told_bytes call.files schedule bytes text tells held

replayed_by : OneSchedule → OneReplay → (call : Call) (turns : ℕ) (schedule text : List ℕ) (steps : List Step) (p : ScopedProgram) (answer : Replayed) (ending : Ending) → Tells call.files schedule text
    → (Rose call.faults_before call.faults_after → ⊥) → length text ≤ schedule_limit → IsScheduleText text steps → Says p turns steps answer → RunEnds call turns schedule p ending ⊎ (ending ≡ OutOfMemory)
    → IsEither (Replay answer) ending
replayed_by one_s one_r call turns schedule text steps p answer ending tells calm short reads says (inr e) = subst (IsEither (Replay answer)) (sym e) tt
replayed_by one_s one_r call turns schedule text steps p answer ending tells calm short reads says (inl (replayed t ss other held within_ reads_ says_ e)) =
    let bytes = schedule_bytes call schedule text t tells held in
    let same : ss ≡ steps = one_s text ss steps (subst (λ (b : List ℕ). IsScheduleText b ss) bytes reads_) reads in
    let said : Says p turns steps other = subst (λ (l : List Step). Says p turns l other) same says_ in
    subst (IsEither (Replay answer)) (sym e) (ap Replay (one_r p turns steps answer other says said))
replayed_by one_s one_r call turns schedule text steps p answer ending tells calm short reads says (inl (unreadable t line held within_ bad e)) =
    let bytes = schedule_bytes call schedule text t tells held in
    absurd (no_first_bad (lines_of text) steps line reads.lines (subst (λ (b : List ℕ). IsNoSchedule b line) bytes bad))
replayed_by one_s one_r call turns schedule text steps p answer ending tells calm short reads says (inl (longer over e)) =
    let long = told_longer call.files schedule text schedule_limit tells over in absurd (omega arith)
replayed_by one_s one_r call turns schedule text steps p answer ending tells calm short reads says (inl (unread cause e)) =
    absurd (⊎_elim calm (told_there call.files schedule text tells) cause)

pub replayed_ends : OneTree → OneSchedule → OneReplay → (call : Call) (turns : ℕ) (content text : List ℕ) (steps : List Step) (answer : Replayed) (ending : Ending) → IsToldReplay call turns content text
    → length content ≤ file_limit → length text ≤ schedule_limit → (admitted : IsAdmitted (replaying turns) content) → IsScheduleText text steps → Says (scoped_of admitted.tree) turns steps answer
    → IsLawful call ending → IsEither (Replay answer) ending
replayed_ends one one_s one_r call turns content text steps answer ending told short text_short admitted reads says lawful =
    replayed_by one_s one_r call turns told.schedule text steps (scoped_of admitted.tree) answer ending told.tells told.source.calm text_short reads says
    (run_here one call turns told.schedule content ending told.source short admitted (origin call ending lawful))

answered_by : (call : Call) (turns : ℕ) (schedule text : List ℕ) (p : ScopedProgram) (ending : Ending) → Tells call.files schedule text → (Rose call.faults_before call.faults_after → ⊥)
    → length text ≤ schedule_limit → RunEnds call turns schedule p ending ⊎ (ending ≡ OutOfMemory) → IsRunAnswer p turns text ending
answered_by call turns schedule text p ending tells calm short (inr e) = subst (IsRunAnswer p turns text) (sym e) tt
answered_by call turns schedule text p ending tells calm short (inl (replayed t ss other held within_ reads says e)) =
    let bytes = schedule_bytes call schedule text t tells held in
    subst (IsRunAnswer p turns text) (sym e) (record { steps = ss; read = subst (λ (b : List ℕ). IsScheduleText b ss) bytes reads; says = says })
answered_by call turns schedule text p ending tells calm short (inl (unreadable t line held within_ bad e)) =
    let bytes = schedule_bytes call schedule text t tells held in
    subst (IsRunAnswer p turns text) (sym e) (subst (λ (b : List ℕ). IsNoSchedule b line) bytes bad)
answered_by call turns schedule text p ending tells calm short (inl (longer over e)) =
    let long = told_longer call.files schedule text schedule_limit tells over in absurd (omega arith)
answered_by call turns schedule text p ending tells calm short (inl (unread cause e)) =
    absurd (⊎_elim calm (told_there call.files schedule text tells) cause)

pub answered_ends : OneTree → (call : Call) (turns : ℕ) (content text : List ℕ) (ending : Ending) → IsToldReplay call turns content text → length content ≤ file_limit → length text ≤ schedule_limit
    → (admitted : IsAdmitted (replaying turns) content) → IsLawful call ending → IsRunAnswer (scoped_of admitted.tree) turns text ending
answered_ends one call turns content text ending told short text_short admitted lawful =
    answered_by call turns told.schedule text (scoped_of admitted.tree) ending told.tells told.source.calm text_short
    (run_here one call turns told.schedule content ending told.source short admitted (origin call ending lawful))

bad_schedule_by : (call : Call) (turns : ℕ) (schedule text : List ℕ) (line : ℕ) (p : ScopedProgram) (ending : Ending) → Tells call.files schedule text
    → (Rose call.faults_before call.faults_after → ⊥) → length text ≤ schedule_limit → IsNoSchedule text line → RunEnds call turns schedule p ending ⊎ (ending ≡ OutOfMemory)
    → IsEither (BadSchedule line) ending
bad_schedule_by call turns schedule text line p ending tells calm short bad (inr e) = subst (IsEither (BadSchedule line)) (sym e) tt
bad_schedule_by call turns schedule text line p ending tells calm short bad (inl (replayed t ss other held within_ reads says e)) =
    let bytes = schedule_bytes call schedule text t tells held in
    let here : IsScheduleText text ss = subst (λ (b : List ℕ). IsScheduleText b ss) bytes reads in
    absurd (no_first_bad (lines_of text) ss line here.lines bad)
bad_schedule_by call turns schedule text line p ending tells calm short bad (inl (unreadable t other held within_ also e)) =
    let bytes = schedule_bytes call schedule text t tells held in
    subst (IsEither (BadSchedule line)) (sym e) (ap BadSchedule (one_first_bad (lines_of text) line other bad (subst (λ (b : List ℕ). IsNoSchedule b other) bytes also)))
bad_schedule_by call turns schedule text line p ending tells calm short bad (inl (longer over e)) =
    let long = told_longer call.files schedule text schedule_limit tells over in absurd (omega arith)
bad_schedule_by call turns schedule text line p ending tells calm short bad (inl (unread cause e)) =
    absurd (⊎_elim calm (told_there call.files schedule text tells) cause)

pub bad_schedule_ends : OneTree → (call : Call) (turns : ℕ) (content text : List ℕ) (line : ℕ) (ending : Ending) → IsToldReplay call turns content text
    → length content ≤ file_limit → length text ≤ schedule_limit → IsAdmitted (replaying turns) content → IsNoSchedule text line → IsLawful call ending → IsEither (BadSchedule line) ending
bad_schedule_ends one call turns content text line ending told short text_short admitted bad lawful =
    bad_schedule_by call turns told.schedule text line (scoped_of admitted.tree) ending told.tells told.source.calm text_short bad
    (run_here one call turns told.schedule content ending told.source short admitted (origin call ending lawful))

long_schedule_by : (call : Call) (turns : ℕ) (schedule text : List ℕ) (p : ScopedProgram) (ending : Ending) → Tells call.files schedule text
    → (Rose call.faults_before call.faults_after → ⊥) → schedule_limit < length text → RunEnds call turns schedule p ending ⊎ (ending ≡ OutOfMemory) → IsEither ScheduleTooLong ending
long_schedule_by call turns schedule text p ending tells calm long (inr e) = subst (IsEither ScheduleTooLong) (sym e) tt
long_schedule_by call turns schedule text p ending tells calm long (inl (replayed t ss other held within_ reads says e)) =
    let bytes = ap length (schedule_bytes call schedule text t tells held) in absurd (omega arith)
long_schedule_by call turns schedule text p ending tells calm long (inl (unreadable t other held within_ also e)) =
    let bytes = ap length (schedule_bytes call schedule text t tells held) in absurd (omega arith)
long_schedule_by call turns schedule text p ending tells calm long (inl (longer over e)) = subst (IsEither ScheduleTooLong) (sym e) refl
long_schedule_by call turns schedule text p ending tells calm long (inl (unread cause e)) = absurd (⊎_elim calm (told_there call.files schedule text tells) cause)

pub long_schedule_ends : OneTree → (call : Call) (turns : ℕ) (content text : List ℕ) (ending : Ending) → IsToldReplay call turns content text → length content ≤ file_limit → schedule_limit < length text
    → IsAdmitted (replaying turns) content → IsLawful call ending → IsEither ScheduleTooLong ending
long_schedule_ends one call turns content text ending told short long admitted lawful =
    long_schedule_by call turns told.schedule text (scoped_of admitted.tree) ending told.tells told.source.calm long
    (run_here one call turns told.schedule content ending told.source short admitted (origin call ending lawful))

missing_schedule_by : (call : Call) (turns : ℕ) (schedule : List ℕ) (p : ScopedProgram) (ending : Ending) → Lacks call.files schedule → RunEnds call turns schedule p ending ⊎ (ending ≡ OutOfMemory)
    → IsEither (ReadFault schedule) ending
missing_schedule_by call turns schedule p ending lacks (inr e) = subst (IsEither (ReadFault schedule)) (sym e) tt
missing_schedule_by call turns schedule p ending lacks (inl (replayed t ss other held within_ reads says e)) = absurd (lacking_holds call.files schedule t lacks held)
missing_schedule_by call turns schedule p ending lacks (inl (unreadable t other held within_ also e)) = absurd (lacking_holds call.files schedule t lacks held)
missing_schedule_by call turns schedule p ending lacks (inl (longer over e)) = absurd (lacking_longer call.files schedule schedule_limit lacks over)
missing_schedule_by call turns schedule p ending lacks (inl (unread cause e)) = subst (IsEither (ReadFault schedule)) (sym e) refl

pub missing_schedule_ends : OneTree → (call : Call) (turns : ℕ) (schedule content : List ℕ) (ending : Ending) → IsToldRun call turns schedule content → length content ≤ file_limit
    → IsAdmitted (replaying turns) content → Lacks call.files schedule → IsLawful call ending → IsEither (ReadFault schedule) ending
missing_schedule_ends one call turns schedule content ending told short admitted lacks lawful =
    missing_schedule_by call turns schedule (scoped_of admitted.tree) ending lacks
    (run_here one call turns schedule content ending told short admitted (origin call ending lawful))

-- ---- a failure, and the replay of its report

-- what is taken of lz_choices: each step of a run of a program without a choice is one of `main` with the choice 0
abbrev pub MainAlone : Type 0
MainAlone = (p : ScopedProgram) (n : ℕ) (run : List Event) (schedule : List Step) → first_choice p ≡ None → IsRun (process_of p n) run → Follows run schedule
    → schedule ≡ replicate (length schedule) main_step

steps_alone : (count : ℕ) → AllByRecursion IsStep (replicate count main_step)
steps_alone zero = tt
steps_alone (suc count) = (record { thread = omega arith; choice = omega arith }, steps_alone count)

failure_read : MainAlone → (bounds : Bounds) (bytes : List ℕ) (kind : BreakKind) (line : ℕ) (schedule : List Step) → bounds.rounds < 2 ^ 64 → IsFailure bounds bytes kind line schedule
    → IsScheduleText (report (Failed kind line schedule)) schedule
failure_read alone bounds bytes kind line schedule rounds failure =
    let steps = alone (scoped_of failure.admitted.tree) bounds.unwind failure.breaks.run schedule failure.no_choice failure.breaks.broken_.is failure.breaks.follows in
    report_read kind line schedule (omega (arith, failure.told_line)) (omega (arith, rounds, failure.within_rounds))
    (subst (AllByRecursion IsStep) (sym steps) (steps_alone (length schedule)))

pub failure_reads : MainAlone → (call : Call) (kind : BreakKind) (line : ℕ) (schedule : List Step) → IsLawful call (Failed kind line schedule)
    → IsScheduleText (report (Failed kind line schedule)) schedule
failure_reads alone call kind line schedule from = failure_read alone (checking from.0) from.1 kind line schedule (omega arith) from.3

-- a round costs no more than two
within_a_round : {turns : ℕ} {bytes : List ℕ} (a : IsAdmitted (checking turns) bytes) → cost (scoped_of a.tree) turns 1 ≤ cost_limit
within_a_round {turns} a = least (thread_cost p.functions turns threads p.main) (function_sites p.functions turns (thread_cost p.functions turns threads) p.main) cost_limit a.low_cost
  where
    p : ScopedProgram
    p = scoped_of a.tree

    threads : ℕ
    threads = slots p turns + 1

    least : (x y most : ℕ) → 2 * (x + y) ≤ most → 1 * (x + y) ≤ most
    least x y most le = omega (arith, le)

pub failure_runs : OneTree → OneSchedule → OneReplay → MainAlone → (call again : Call) (turns : ℕ) (content : List ℕ) (kind : BreakKind) (line : ℕ) (schedule : List Step) (ending : Ending)
    → IsToldCheck call turns content → length content ≤ file_limit → IsLawful call (Failed kind line schedule) → IsToldReplay again turns content (report (Failed kind line schedule))
    → length (report (Failed kind line schedule)) ≤ schedule_limit → IsLawful again ending → IsEither (Replay (Broke kind line (length schedule))) ending
failure_runs one one_s one_r alone call again turns content kind line schedule ending told short lawful told_again text_short also =
    let failure : IsFailure (checking turns) content kind line schedule = check_verdict call turns content (Failed kind line schedule) told short (origin call (Failed kind line schedule) lawful) in
    let a = failure.admitted in
    let admitted : IsAdmitted (replaying turns) content = record { tree = a.tree; accepted = a.accepted; few_slots = a.few_slots; low_cost = within_a_round a } in
    replayed_ends one one_s one_r again turns content (report (Failed kind line schedule)) schedule (Broke kind line (length schedule)) ending told_again short text_short admitted
    (failure_read alone (checking turns) content kind line schedule (omega arith) failure) (failure.breaks, refl) also
