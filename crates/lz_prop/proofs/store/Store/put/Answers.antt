use Rattle.std.proofs.Common.{refl, arith}
use Rattle.lz_prop.proofs.StoredLemmas.{IsEnded, ended_is_store, ended_clauses}
use Rattle.lz_prop.proofs.store.Store.put.Goals as goal

ended : (c : goal.After-push_reserved-2) → IsEnded c.args.self.now c.loop-lit.self (record c.loop-lit.self { bounds = c.push_reserved-2.new.self }) c.args.clause.now c.loop-lit.lit-index c.len.result
ended c =
    let m = c.loop-lit.self.literals.ok.0 in
    record {
      filled = c.loop-lit.invariant;
      all = (let a = c.loop-lit-test.false in omega arith);
      literals = refl;
      bounds = c.push_reserved-2.ensures.items;
      end_is = omega arith;
      few = c.requires.few_bounds;
    }

pub returns-clause-store : goal.returns-clause-store
returns-clause-store c = ended_is_store c.args.self.now c.loop-lit.self _ c.args.clause.now c.loop-lit.lit-index c.len.result c.requires.store (ended c)

pub returns-clause-clauses : goal.returns-clause-clauses
returns-clause-clauses c = ended_clauses c.args.self.now c.loop-lit.self _ c.args.clause.now c.loop-lit.lit-index c.len.result c.requires.store (ended c)
