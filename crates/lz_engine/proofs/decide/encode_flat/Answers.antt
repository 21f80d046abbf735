use Rattle.std.proofs.Common.{rules, ◌≡◌, ◌≤◌, ℕ, length, subst, sym, ◌∙◌, arith}
use Rattle.std.proofs.lemmas.List.{length-map}
use Rattle.lz_flat.specs.Programs.{statement, flat_program, straight_program, instructions}
use Rattle.lz_engine.proofs.FormulaLemmas.{Layers, drives, exact, some_statement}
use Rattle.lz_engine.proofs.decide.encode_flat.Goals as goal

pub returns : goal.returns
returns c =
    let count : length (straight_program c.in_ok-straight.straight).list ≡ length c.in_ok-straight.straight.list = length-map c.in_ok-straight.straight.list statement in
    let threads : length (flat_program c.args.flat.now).threads ≡ length c.args.flat.now.threads = search (rules, length-map) in
    let layers : Layers (flat_program c.args.flat.now) c.args.rounds (straight_program c.in_ok-straight.straight) c.in_ok-made.made c.in_ok-blasted.blasted.formula c.in_ok-blasted.blasted.inputs = record {
      driven_ = c.in_ok-straight.ensures.driven;
      broken_ = c.in_ok-straight.ensures.broken;
      nodes_ = c.in_ok-made.ensures.fails;
      formed = c.in_ok-made.ensures.formed;
      number = c.in_ok-made.ensures.inputs ∙ sym count;
      blasted = c.in_ok-blasted.ensures.decides;
      listed_ = c.in_ok-blasted.ensures.inputs;
    } in
    let some = some_statement c.args.rounds (instructions (flat_program c.args.flat.now).threads) (length c.args.flat.now.threads) c.requires.rounds c.requires.thread in
    let statement : 1 ≤ length c.in_ok-straight.straight.list = subst (λ (n : ℕ). 1 ≤ n) (sym c.in_ok-straight.ensures.size) some in
    let light = c.in_ok-made.ensures.weight statement in
    let low = c.in_ok-straight.ensures.weight in
    let variables = c.in_ok-blasted.ensures.variables in
    let clauses = c.in_ok-blasted.ensures.clauses in
    let limit = c.requires.light in
    record {
      of = record {
        sequential = record {
          driven = c.in_ok-straight.ensures.driven;
          broken_ = c.in_ok-straight.ensures.broken;
          size = rw threads (count ∙ c.in_ok-straight.ensures.size);
        };
        is = c.in_ok-blasted.ensures.formula;
        not_empty = search rules;
        exact = exact layers;
        variables = omega (arith, light, low, variables);
      };
      tells = record { drives = drives layers; range = c.in_ok-blasted.ensures.decides.range };
      room = omega (arith, light, low, clauses, limit);
    }
