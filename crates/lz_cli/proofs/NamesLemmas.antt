-- The words of a call have one reading, so they name files of one kind, each in one way, or none.
use Rattle.std.proofs.Common.{◌≡◌, ℕ, true, inl, inr, List, sym, ◌∙◌, ap}
use Rattle.std.proofs.lemmas.Bool.{false≢true}
use Rattle.std.proofs.lemmas.Option.{same_Some}
use Rattle.lz_words.specs.declared.asked.Asked.{Asked}
use Rattle.lz_words.specs.declared.asked.Mode.{Mode}
use Rattle.lz_words.specs.declared.asked.Mode.TheVariants as modes
use Rattle.lz_words.specs.CommandLine.{IsReading, HasNoReading}
use Rattle.lz_words.proofs.LawLemmas.{one_reading}
use Rattle.lz_cli.specs.CommandLine.{is_built, is_built_in, IsUnbuilt, IsProofName, IsCheckName, IsReplayName, IsNamed}

-- ---- modes

check_is_no_recheck : modes.Check ≡ modes.Recheck → ⊥
check_is_no_recheck e = cc

check_is_no_replay : modes.Check ≡ modes.Replay → ⊥
check_is_no_replay e = cc

recheck_is_no_replay : modes.Recheck ≡ modes.Replay → ⊥
recheck_is_no_replay e = cc

-- readings of the same words have one mode
same_mode : {words : List (List ℕ)} {a b : Asked} → IsReading words a → IsReading words b → (m n : Mode) → a.mode ≡ m → b.mode ≡ n → m ≡ n
same_mode p q m n pm qm = sym pm ∙ ap (λ (x : Asked). x.mode) (one_reading p q) ∙ qm

-- ---- files whose program is decided

pub same_check : (words : List (List ℕ)) (t n : ℕ) (a b : List ℕ) → IsCheckName words t a → IsCheckName words n b → (t ≡ n) × (a ≡ b)
same_check words t n a b p q =
    let same : p.asked ≡ q.asked = one_reading p.reading q.reading in
    (p.told_turns ∙ ap (λ (x : Asked). x.unwind) same ∙ sym q.told_turns, p.told_name ∙ ap (λ (x : Asked). x.file) same ∙ sym q.told_name)

-- ---- proof files

same_proof : (words : List (List ℕ)) (a b : List ℕ) → IsProofName words a → IsProofName words b → a ≡ b
same_proof words a b p q =
    let same : p.asked ≡ q.asked = one_reading p.reading q.reading in p.told_name ∙ ap (λ (x : Asked). x.file) same ∙ sym q.told_name

pub check_proof : (words : List (List ℕ)) (t : ℕ) (a b : List ℕ) → IsCheckName words t a → IsProofName words b → ⊥
check_proof words t a b p q = check_is_no_recheck (same_mode p.reading q.reading modes.Check modes.Recheck p.mode q.mode)

-- ---- files whose program is run

pub same_run : (words : List (List ℕ)) (t n : ℕ) (s r a b : List ℕ) → IsReplayName words t s a → IsReplayName words n r b → (t ≡ n) × (s ≡ r) × (a ≡ b)
same_run words t n s r a b p q =
    let same : p.asked ≡ q.asked = one_reading p.reading q.reading in (
      p.told_turns ∙ ap (λ (x : Asked). x.unwind) same ∙ sym q.told_turns,
      same_Some s r (sym p.told_schedule ∙ ap (λ (x : Asked). x.schedule) same ∙ q.told_schedule),
      p.told_name ∙ ap (λ (x : Asked). x.file) same ∙ sym q.told_name,
    )

pub check_run : (words : List (List ℕ)) (t n : ℕ) (a s b : List ℕ) → IsCheckName words t a → IsReplayName words n s b → ⊥
check_run words t n a s b p q = check_is_no_replay (same_mode p.reading q.reading modes.Check modes.Replay p.mode q.mode)

pub proof_run : (words : List (List ℕ)) (n : ℕ) (a s b : List ℕ) → IsProofName words a → IsReplayName words n s b → ⊥
proof_run words n a s b p q = recheck_is_no_replay (same_mode p.reading q.reading modes.Recheck modes.Replay p.mode q.mode)

-- ---- the file that is read first

named_check : (words : List (List ℕ)) (t : ℕ) (a b : List ℕ) → IsCheckName words t a → IsNamed words b → a ≡ b
named_check words t a b p (inl (inl q)) = (same_check words t q.0 a b p q.1).1
named_check words t a b p (inl (inr q)) = absurd (check_run words t q.0 a q.1 b p q.2)
named_check words t a b p (inr q) = absurd (check_proof words t a b p q)

named_proof : (words : List (List ℕ)) (a b : List ℕ) → IsProofName words a → IsNamed words b → a ≡ b
named_proof words a b p (inl (inl q)) = absurd (check_proof words q.0 b a q.1 p)
named_proof words a b p (inl (inr q)) = absurd (proof_run words q.0 a q.1 b p q.2)
named_proof words a b p (inr q) = same_proof words a b p q

named_run : (words : List (List ℕ)) (t : ℕ) (s a b : List ℕ) → IsReplayName words t s a → IsNamed words b → a ≡ b
named_run words t s a b p (inl (inl q)) = absurd (check_run words q.0 t b s a q.1 p)
named_run words t s a b p (inl (inr q)) = (same_run words t q.0 s q.1 a b p q.2).2
named_run words t s a b p (inr q) = absurd (proof_run words t b s a q p)

pub same_named : (words : List (List ℕ)) (a b : List ℕ) → IsNamed words a → IsNamed words b → a ≡ b
same_named words a b (inl (inl p)) q = named_check words p.0 a b p.1 q
same_named words a b (inl (inr p)) q = named_run words p.0 p.1 a b p.2 q
same_named words a b (inr p) q = named_proof words a b p q

-- ---- words that name no file

-- of words that name a file, what is read is built
named_reading : (words : List (List ℕ)) (name : List ℕ) → IsNamed words name → (asked : Asked) × IsReading words asked × (is_built asked ≡ true)
named_reading words name (inl (inl p)) = (p.1.asked, p.1.reading, ap (λ (m : Mode). is_built_in m p.1.asked) p.1.mode ∙ p.1.plain)
named_reading words name (inl (inr p)) = (p.2.asked, p.2.reading, ap (λ (m : Mode). is_built_in m p.2.asked) p.2.mode)
named_reading words name (inr p) = (p.asked, p.reading, ap (λ (m : Mode). is_built_in m p.asked) p.mode)

pub no_reading_named : (words : List (List ℕ)) → HasNoReading words → (name : List ℕ) → IsNamed words name → ⊥
no_reading_named words none name named = let read = named_reading words name named in none read.0 read.1

pub unbuilt_named : {words : List (List ℕ)} → IsUnbuilt words → (name : List ℕ) → IsNamed words name → ⊥
unbuilt_named {words} un name named =
    let read = named_reading words name named in
    let same : un.asked ≡ read.0 = one_reading un.reading read.1 in
    false≢true (sym un.unbuilt ∙ ap is_built same ∙ read.2)
