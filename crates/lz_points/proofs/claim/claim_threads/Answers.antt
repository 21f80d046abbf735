use Rattle.std.proofs.Common.{◌≡◌, length, arith, ap, ◌∙◌, subst, map, drop, ◌+◌, ℕ, List}
use Rattle.std.specs.List.{AllByRecursion}
use Rattle.lz_flat.specs.declared.program.Marked.{Marked}
use Rattle.lz_flat.specs.Programs.{marked}
use Rattle.lz_points.specs.Tags.{NamesWithin, claim_code}
use Rattle.lz_points.proofs.LoopsLemmas.{codes, thread_rest, thread_turn, thread_end}
use Rattle.lz_points.proofs.claim.claim_threads.Goals as goal

pub loop-t-preserved : goal.loop-t-preserved
loop-t-preserved c =
    let rest = thread_rest (length c.loop-t.tags) c.args.threads.now c.loop-t.t c.index-threads-t.result c.loop-t-test.true c.index-threads-t.is c.loop-t.invariant.within in
    record {
      left = thread_turn c.args.threads.now c.loop-t.t c.index-threads-t.result c.loop-t.tags c.claim_code.new.tags _ c.loop-t-test.true c.index-threads-t.is
          (c.claim_code.ensures ∙ ap (λ (code : List Marked). claim_code (c.loop-t.t + 1) (map marked code) c.loop-t.tags) c.items.ensures) c.loop-t.invariant.left;
      within = subst (λ (n : ℕ). AllByRecursion (NamesWithin n) (codes (drop (c.loop-t.t + 1) c.args.threads.now))) (let z : length c.loop-t.tags ≡ length c.claim_code.new.tags = omega arith in z) rest;
    }

pub returns : goal.returns
returns c = thread_end c.args.threads.now c.loop-t.t c.loop-t.tags _ c.loop-t-test.false c.loop-t.invariant.left
