use Rattle.std.proofs.Common.{◌≡◌, sym, length, map, arith}
use Rattle.std.proofs.lemmas.List.{length-map}
use Rattle.lz_flat.specs.Programs.{statement, straight_program}
use Rattle.lz_ssa.specs.Drafts.{progress}
use Rattle.lz_ssa.proofs.AssignmentLemmas.{begun_words, made_is, made_fails, made_formed, made_weighs}
use Rattle.lz_flat.proofs.WeightLemmas.{list_length}
use Rattle.lz_ssa.proofs.make.nodes.Goals as goal

pub add_statements-requires-clause-formed : goal.add_statements-requires-clause-formed
add_statements-requires-clause-formed c =
    let begun = rw c.items.ensures at c.in_ok-building.ensures in
    let words = begun_words c.args.straight.now.first (progress c.in_ok-building.building) begun in
    rw (c.items-list.ensures, words) c.requires.formed.statements

pub add_statements-requires-clause-short : goal.add_statements-requires-clause-short
add_statements-requires-clause-short c =
    let begun = rw c.items.ensures at c.in_ok-building.ensures in
    let words = begun_words c.args.straight.now.first (progress c.in_ok-building.building) begun in
    rw words c.requires.words

pub add_statements-requires-clause-count : goal.add_statements-requires-clause-count
add_statements-requires-clause-count c =
    let most = list_length (map statement c.args.straight.now.list) in
    let same = length-map c.args.straight.now.list statement in
    rw c.items-list.ensures (omega (arith, most, same))

pub overflow_cast-result : goal.overflow_cast-result
overflow_cast-result c =
    let most = list_length (map statement c.args.straight.now.list) in
    let same = length-map c.args.straight.now.list statement in
    rw c.items-list.ensures (omega (arith, most, same))

pub returns-clause-fails : goal.returns-clause-fails
returns-clause-fails c =
    let begun = rw c.items.ensures at c.in_ok-building.ensures in
    let made = rw c.items-list.ensures at c.in_ok-add_statements.ensures in
    let is = made_is _ _ begun made in
    made_fails (straight_program c.args.straight.now) (length c.items-list.result.now) (progress c.add_statements.new.building) is c.requires.formed (omega arith)

pub returns-clause-formed : goal.returns-clause-formed
returns-clause-formed c =
    let begun = rw c.items.ensures at c.in_ok-building.ensures in
    let made = rw c.items-list.ensures at c.in_ok-add_statements.ensures in
    let is = made_is _ _ begun made in
    let same : length c.items-list.result.now ≡ length (map statement c.args.straight.now.list) =
    rw c.items-list.ensures (sym (length-map c.args.straight.now.list statement)) in
    made_formed (straight_program c.args.straight.now) (length c.items-list.result.now) (progress c.add_statements.new.building) is c.requires.formed (omega arith) same

pub returns-clause-weight : goal.returns-clause-weight
returns-clause-weight c =
    let begun = rw c.items.ensures at c.in_ok-building.ensures in
    let made = rw c.items-list.ensures at c.in_ok-add_statements.ensures in
    let is = made_is _ _ begun made in
    let same = length-map c.args.straight.now.list statement in
    λ some. made_weighs (straight_program c.args.straight.now) (progress c.add_statements.new.building) is c.requires.formed (omega arith) (omega (arith, same))
