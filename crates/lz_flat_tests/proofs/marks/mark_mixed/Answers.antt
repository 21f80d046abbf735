use Rattle.std.proofs.Common.{◌≡◌, List, length, map, sym, ap, subst, arith}
use Rattle.std.proofs.lemmas.List.{length-map}
use Rattle.lz_flat.specs.declared.program.Marked.{Marked}
use Rattle.lz_flat.specs.Programs.{marked, FlatProgram}
use Rattle.lz_flat.specs.WellFormed.{IsWellMarked}
use Rattle.lz_flat_tests.proofs.MarksLemmas.{mixed_marked}
use Rattle.lz_flat_tests.proofs.marks.mark_mixed.Goals as goal

pub mark-requires-clause-marked : goal.mark-requires-clause-marked
mark-requires-clause-marked c = subst IsWellMarked (sym c.requires) mixed_marked

pub mark-requires-clause-threads : goal.mark-requires-clause-threads
mark-requires-clause-threads c =
    let two : length (map (λ (code : List Marked). map marked code) c.args.flat.now.threads) ≡ 2 = ap (λ (f : FlatProgram). length f.threads) c.requires in
    let same = length-map c.args.flat.now.threads (λ (code : List Marked). map marked code) in
    omega (arith, two, same)
