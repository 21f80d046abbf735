use Rattle.std.proofs.Common.{◌∙◌, ◌++◌, ap, sym, arith}
use Rattle.lz_tree.specs.ScopedTrees.{scoped_declarator}
use Rattle.lz_calls.proofs.ListingLemmas.{declarators_calls-of, so_far_end}
use Rattle.lz_calls.proofs.listing.list_declaration.Goals as goal

pub returns : goal.returns
returns c =
    let all = rw c.items-items.ensures at (so_far_end (omega arith) c.loop-item.invariant) in
    all ∙ ap (λ ys. c.args.calls.now ++ ys) (sym (declarators_calls-of scoped_declarator c.args.objects.now.declarators))
