use Rattle.std.proofs.Common.{◌∙◌, sym, subst, List, []}
use Rattle.lz_cnf.specs.declared.clause.Lit.{Lit}
use Rattle.lz_blast.specs.Steps.{Stands}
use Rattle.lz_blast.proofs.StepsLemmas.{stands_none}
use Rattle.lz_blast.proofs.WordsMadeLemmas.{unread_at}
use Rattle.lz_blast.proofs.TurnsLemmas.{length-unread, turn_node, turn_room, turn_more, turn_all, test_room}
use Rattle.lz_blast.proofs.FormulasLemmas.{decides, counted, tested_of}
use Rattle.lz_blast.proofs.formula.blast.Goals as goal

pub loop-i-init : goal.loop-i-init
loop-i-init c = record {
  stands = subst (λ (ws : List (List Lit)). Stands c.in_ok-builder.builder c.in_ok-inputs.inputs.items ws []) (sym c.new-words.ensures)
      (stands_none c.in_ok-builder.builder c.in_ok-inputs.inputs.items c.in_ok-builder.ensures.variables c.in_ok-builder.ensures.clauses (λ i. unread_at _ i _ c.in_ok-inputs.ensures));
  count = length-unread _ _ c.in_ok-inputs.ensures;
}

pub add_node-requires : goal.add_node-requires
add_node-requires c = record {
  node = turn_node c.args.nodes.now _ c.items-list.ensures c.requires.formed c.loop-i.invariant.stands c.loop-i.invariant.count c.loop-i-test.true;
  words = c.loop-i.invariant.stands.words_in;
  room = turn_room c.args.nodes.now _ c.items-list.ensures c.requires.light c.loop-i.invariant.stands c.loop-i-test.true;
}

pub loop-i-preserved : goal.loop-i-preserved
loop-i-preserved c = record {
  stands = turn_more _ _ c.loop-i.invariant.stands c.loop-i-test.true c.in_ok-add_node.ensures.steps;
  count = c.in_ok-add_node.ensures.inputs ∙ c.loop-i.invariant.count;
}

pub truth_bit-requires-clause-room : goal.truth_bit-requires-clause-room
truth_bit-requires-clause-room c =
    test_room c.args.nodes.now (turn_all c.args.nodes.now c.items-list.ensures c.loop-i.invariant.stands c.loop-i-test.false) c.requires.light

pub returns-clause-decides : goal.returns-clause-decides
returns-clause-decides c =
    let tested = tested_of c.args.nodes.now c.require.new.self (turn_all c.args.nodes.now c.items-list.ensures c.loop-i.invariant.stands c.loop-i-test.false) c.requires.formed c.items.ensures c.index-items-nodes.is
    c.in_ok-test.ensures.made c.in_ok-require.ensures.variables c.in_ok-require.ensures.clauses c.finish.ensures.variables c.finish.ensures.clauses in
    rw c.in_ok-inputs-2.ensures (decides c.args.nodes.now tested c.require.new.self c.finish.ensures.circuit (sym c.finish.ensures.variables) (sym c.finish.ensures.clauses))

pub returns-clause-variables : goal.returns-clause-variables
returns-clause-variables c =
    let tested = tested_of c.args.nodes.now c.require.new.self (turn_all c.args.nodes.now c.items-list.ensures c.loop-i.invariant.stands c.loop-i-test.false) c.requires.formed c.items.ensures c.index-items-nodes.is
    c.in_ok-test.ensures.made c.in_ok-require.ensures.variables c.in_ok-require.ensures.clauses c.finish.ensures.variables c.finish.ensures.clauses in
    (counted c.args.nodes.now tested).0

pub returns-clause-clauses : goal.returns-clause-clauses
returns-clause-clauses c =
    let tested = tested_of c.args.nodes.now c.require.new.self (turn_all c.args.nodes.now c.items-list.ensures c.loop-i.invariant.stands c.loop-i-test.false) c.requires.formed c.items.ensures c.index-items-nodes.is
    c.in_ok-test.ensures.made c.in_ok-require.ensures.variables c.in_ok-require.ensures.clauses c.finish.ensures.variables c.finish.ensures.clauses in
    (counted c.args.nodes.now tested).1
