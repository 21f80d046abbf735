use Rattle.std.proofs.Common.{arith, ◌≡◌, ◌∙◌, ap}
use Rattle.lz_arith.specs.Sizes.{word_width}
use Rattle.lz_blast.specs.Encoding.{fresh_word}
use Rattle.lz_blast.proofs.WordsMadeLemmas.{freshens_none, freshens_more}
use Rattle.lz_blast.proofs.input.fresh_bits.Goals as goal

pub loop-i-init : goal.loop-i-init
loop-i-init c = rw c.new-bits.ensures (freshens_none _)

pub fresh-requires : goal.fresh-requires
fresh-requires c = record { room = omega (arith, c.requires.room, c.loop-i.invariant.variables, c.loop-i-test.true) }

pub loop-i-preserved : goal.loop-i-preserved
loop-i-preserved c = rw c.in_ok-push.ensures.ok (freshens_more _ c.loop-i.invariant c.in_ok-lit.ensures.lit c.in_ok-lit.ensures.variables c.in_ok-lit.ensures.clauses)

pub returns-clause-bits : goal.returns-clause-bits
returns-clause-bits c = c.loop-i.invariant.bits_are ∙ ap (fresh_word c.args.builder.now.variables) (let e : c.loop-i._i ≡ word_width = omega arith in e)

pub returns-clause-variables : goal.returns-clause-variables
returns-clause-variables c = omega (arith, c.loop-i.invariant.variables)

pub returns-clause-clauses : goal.returns-clause-clauses
returns-clause-clauses c = c.loop-i.invariant.clauses
