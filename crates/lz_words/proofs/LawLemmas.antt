-- Words have one reading.
use Rattle.std.proofs.Common.{◌≡◌, ℕ, List, Some, refl, sym, ◌∙◌}
use Rattle.clap.specs.Walk.{Row}
use Rattle.lz_words.specs.declared.asked.Asked.{Asked}
use Rattle.lz_words.specs.CommandLine.{Asks, IsReading, rows_of_words}

some_same : {X : Type 0} {x y : X} → Some x ≡ Some y → x ≡ y
some_same e = cc

one_asked : (rows : List Row) (a b : Asked) → Asks rows a → Asks rows b → a ≡ b
one_asked rows a b p q =
    let mode : a.mode ≡ b.mode = some_same (sym p.mode ∙ q.mode) in
    let unwind : a.unwind ≡ b.unwind = some_same (sym p.unwind ∙ q.unwind) in
    let rounds : a.rounds ≡ b.rounds = some_same (sym p.rounds ∙ q.rounds) in
    let conflicts : a.conflicts ≡ b.conflicts = some_same (sym p.conflicts ∙ q.conflicts) in
    let schedule : a.schedule ≡ b.schedule = p.schedule ∙ sym q.schedule in
    let proof : a.proof ≡ b.proof = p.proof ∙ sym q.proof in
    let seed : a.seed ≡ b.seed = some_same (sym p.seed ∙ q.seed) in
    let file : a.file ≡ b.file = some_same (sym p.file ∙ q.file) in
    whole a b mode unwind rounds conflicts schedule proof seed file
  where
    whole : (a b : Asked) → a.mode ≡ b.mode → a.unwind ≡ b.unwind → a.rounds ≡ b.rounds → a.conflicts ≡ b.conflicts → a.schedule ≡ b.schedule → a.proof ≡ b.proof → a.seed ≡ b.seed → a.file ≡ b.file → a ≡ b
    whole a b mode unwind rounds conflicts schedule proof seed file = rw (mode, unwind, rounds, conflicts, schedule, proof, seed, file) refl

pub one_reading : {words : List (List ℕ)} {a b : Asked} → IsReading words a → IsReading words b → a ≡ b
one_reading {words} {a} {b} p q = one_asked (rows_of_words words) a b p.asks q.asks
