use Rattle.std.proofs.Common.{◌≡◌, length, arith, subst, map, drop, ◌+◌, ℕ}
use Rattle.lz_flat.specs.Programs.{marked}
use Rattle.lz_points.specs.Tags.{NamesWithin}
use Rattle.lz_points.proofs.LoopsLemmas.{code_rest, code_turn, code_end}
use Rattle.lz_points.proofs.claim.claim_code.Goals as goal

pub loop-next-preserved : goal.loop-next-preserved
loop-next-preserved c =
    let rest = code_rest (length c.loop-next.tags) c.args.code.now c.loop-next.next-index c.next-item.result c.loop-next-test.true c.next-item.is c.loop-next.invariant.within in
    record {
      left = code_turn c.args.tag c.args.code.now c.loop-next.next-index c.next-item.result c.loop-next.tags c.claim_instr.new.tags _ c.loop-next-test.true c.next-item.is c.claim_instr.ensures c.loop-next.invariant.left;
      within = subst (λ (n : ℕ). NamesWithin n (map marked (drop (c.loop-next.next-index + 1) c.args.code.now))) (let z : length c.loop-next.tags ≡ length c.claim_instr.new.tags = omega arith in z) rest;
    }

pub returns : goal.returns
returns c = code_end c.args.tag c.args.code.now c.loop-next.next-index c.loop-next.tags _ c.loop-next-test.false c.loop-next.invariant.left
