use Rattle.std.proofs.Common.{◌≡◌, ◌+◌, ◌∙◌, ap, sym, subst, refl, arith, length, List, take}
use Rattle.std.proofs.lemmas.List.{length-take-le}
use Rattle.lz_cnf.specs.declared.clause.Lit.{Lit}
use Rattle.lz_gates.proofs.ExtendingLemmas.{makes_so}
use Rattle.lz_arith.proofs.AddLemmas.{are_lits_more}
use Rattle.lz_arith.proofs.ShiftingLemmas.{take_in, bits_of}
use Rattle.lz_arith.proofs.DivideLemmas.{parts, step_makes}
use Rattle.lz_arith.proofs.divide.divide_step.Goals as goal

pub add_with_carry-requires : goal.add_with_carry-requires
add_with_carry-requires c =
    let p = parts c.args.builder.now (c.items.ensures ∙ c.in_ok-taken.ensures) (c.items-2.ensures ∙ c.in_ok-minus.ensures) c.requires.rest c.requires.divisor c.requires.digit c.falsity-off.ensures.lit in
    record {
      left = p.taken_in;
      right = p.minus_in;
      carry = c.truth-on.ensures.lit;
      room = omega (arith, p.long, c.requires.room);
    }

pub choose_words-requires : goal.choose_words-requires
choose_words-requires c =
    let p = parts c.args.builder.now (c.items.ensures ∙ c.in_ok-taken.ensures) (c.items-2.ensures ∙ c.in_ok-minus.ensures) c.requires.rest c.requires.divisor c.requires.digit c.falsity-off.ensures.lit in
    let made = c.in_ok-less.ensures.made in
    let less = bits_of refl c.items-3.ensures c.in_ok-less.ensures.bits in
    let taken = subst (λ (xs : List Lit). length xs ≡ length c.args.rest.now + 1) (c.items.ensures ∙ sym c.items-4.ensures) p.long in
    let low_long : length (take (length c.args.rest.now) c.items-3.result.now) ≡ length c.args.rest.now = length-take-le _ _ (omega (arith, less.length, p.long)) in
    record {
      test = c.in_ok-less.ensures.carry;
      yes = take_in c.add_with_carry.new.builder _ _ less.lits;
      no = record {
        length = length-take-le _ _ (omega (arith, taken)) ∙ sym low_long;
        lits = take_in c.add_with_carry.new.builder _ _ (are_lits_more c.args.builder.now c.add_with_carry.new.builder _ made.extends.more (bits_of {circuit = c.args.builder.now} refl (c.items-4.ensures ∙ sym c.items.ensures) (record { length = refl; lits = p.taken_in })).lits);
      };
      room = omega (arith, low_long, made.variables_most, p.long, c.requires.room);
    }

pub returns-clause-bits : goal.returns-clause-bits
returns-clause-bits c =
    let p = parts c.args.builder.now (c.items.ensures ∙ c.in_ok-taken.ensures) (c.items-2.ensures ∙ c.in_ok-minus.ensures) c.requires.rest c.requires.divisor c.requires.digit c.falsity-off.ensures.lit in
    let less = bits_of refl c.items-3.ensures c.in_ok-less.ensures.bits in
    bits_of (length-take-le _ _ (omega (arith, less.length, p.long))) refl c.in_ok-next.ensures.bits

pub returns-clause-fits : goal.returns-clause-fits
returns-clause-fits c = omega (arith, c.in_ok-less.ensures.carry, c.in_ok-next.ensures.made.extends.more)

pub returns-clause-made : goal.returns-clause-made
returns-clause-made c =
    let p = parts c.args.builder.now (c.items.ensures ∙ c.in_ok-taken.ensures) (c.items-2.ensures ∙ c.in_ok-minus.ensures) c.requires.rest c.requires.divisor c.requires.digit c.falsity-off.ensures.lit in
    let less = bits_of refl c.items-3.ensures c.in_ok-less.ensures.bits in
    let low_long : length (take (length c.args.rest.now) c.items-3.result.now) ≡ length c.args.rest.now = length-take-le _ _ (omega (arith, less.length, p.long)) in
    makes_so _ _ _ _ _ _ _ _
    (step_makes c.args.rest.now c.args.divisor.now c.items-2.result.now c.items.result.now c.in_ok-less.less c.in_ok-next.next c.args.digit c.falsity-off.result c.truth-on.result c.in_ok-less.fits
    c.falsity-off.ensures.says c.truth-on.ensures.says c.requires.divisor.length refl p.minus_at p.taken_at
    c.in_ok-less.ensures.bits.length
    (ap (λ (xs : List Lit). take (length c.args.rest.now) xs) c.items-3.ensures)
    (ap (λ (xs : List Lit). take (length c.args.rest.now) xs) (c.items-4.ensures ∙ sym c.items.ensures))
    c.in_ok-less.ensures.made c.in_ok-next.ensures.made)
    (omega (arith, low_long, p.long)) (omega (arith, low_long, p.long)) (λ a s q. q)
