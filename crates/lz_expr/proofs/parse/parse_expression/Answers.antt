use Rattle.std.proofs.Common.{◌-◌, ℕ, length, slice_range, subst, sym}
use Rattle.lz_tree.specs.Trees.{expression}
use Rattle.lz_tree.specs.WellFormed.{InExpression}
use Rattle.lz_expr.specs.Fronts.{IsFront}
use Rattle.lz_expr.specs.Reading.{gives, refused}
use Rattle.lz_expr.proofs.FrontsLemmas.{read_rest, expression_found, expression_refused}
use Rattle.lz_expr.proofs.parse.parse_expression.Goals as goal

pub overflow_sub-result : goal.overflow_sub-result
overflow_sub-result c =
    let read = read_rest c.args.height c.class_of-class.result c.items-items.result.now c.args.tokens.now.list c.args.from (gives (expression c.in-Ok.of) c.in-Ok.rest.now) c.items-items.ensures c.in-Ok.ensures.read in
    let f = expression_found c.args.height c.class_of-class.result c.args.tokens.now.list c.args.from (expression c.in-Ok.of) c.in-Ok.rest.now c.requires.some c.class_of-class.ensures.small c.requires.inside read in
    rw c.items-items.ensures f.0

pub overflow_sub-at : goal.overflow_sub-at
overflow_sub-at c =
    let fails = rw c.in-Err-Refused.field-0-is at c.in-Err-Refused.ensures.read in
    let read = read_rest c.args.height c.class_of-class.result c.items-items.result.now c.args.tokens.now.list c.args.from (refused c.in-Err-Refused.left) c.items-items.ensures fails in
    let f = expression_refused c.args.height c.class_of-class.result c.args.tokens.now.list c.args.from c.in-Err-Refused.left c.requires.some c.class_of-class.ensures.small c.requires.inside read in
    rw c.items-items.ensures f.0

pub returns-in-Ok-clause-found : goal.returns-in-Ok-clause-found
returns-in-Ok-clause-found c =
    let at : ℕ = length c.args.tokens.now.list - length c.in-Ok.rest.now in
    let read = read_rest c.args.height c.class_of-class.result c.items-items.result.now c.args.tokens.now.list c.args.from (gives (expression c.in-Ok.of) c.in-Ok.rest.now) c.items-items.ensures c.in-Ok.ensures.read in
    let f = expression_found c.args.height c.class_of-class.result c.args.tokens.now.list c.args.from (expression c.in-Ok.of) c.in-Ok.rest.now c.requires.some c.class_of-class.ensures.small c.requires.inside read in
    rw c.items-items.ensures (record {
      front = subst (λ (n : ℕ). IsFront (InExpression c.args.height n) c.args.tokens.now.list c.args.from at) c.class_of-class.ensures.class f.1;
      spells = subst (λ (n : ℕ). InExpression c.args.height n (expression c.in-Ok.of) (slice_range c.args.tokens.now.list c.args.from at)) c.class_of-class.ensures.class f.2;
    })

pub returns-in-Err-Refused-clause-refused : goal.returns-in-Err-Refused-clause-refused
returns-in-Err-Refused-clause-refused c =
    let fails = rw c.in-Err-Refused.field-0-is at c.in-Err-Refused.ensures.read in
    let at : ℕ = length c.args.tokens.now.list - c.in-Err-Refused.left in
    let read = read_rest c.args.height c.class_of-class.result c.items-items.result.now c.args.tokens.now.list c.args.from (refused c.in-Err-Refused.left) c.items-items.ensures fails in
    let f = expression_refused c.args.height c.class_of-class.result c.args.tokens.now.list c.args.from c.in-Err-Refused.left c.requires.some c.class_of-class.ensures.small c.requires.inside read in
    let lines = c.line_of.ensures in
    rw c.items-items.ensures (
      subst (λ (n : ℕ). IsFront (InExpression c.args.height n) c.args.tokens.now.list c.args.from at) c.class_of-class.ensures.class f.1,
      (λ e m. f.2 e (subst (λ (n : ℕ). InExpression c.args.height n e (slice_range c.args.tokens.now.list c.args.from at)) (sym c.class_of-class.ensures.class) m)),
      rw c.items-items.ensures at lines,
    )
