use Rattle.std.proofs.Common.{◌≡◌, ℕ, List, [], ◌∷◌, ◌++◌, length, reverse, sym, ◌∙◌, ap, subst, arith}
use Rattle.std.proofs.lemmas.List.{length-map}
use Rattle.lz_cnf.specs.declared.clause.Lit.{Lit}
use Rattle.lz_prop.specs.Trail.{Entry}
use Rattle.lz_analyze.specs.Walks.{IsWalk}
use Rattle.lz_analyze.specs.Walking.{IsTodo}
use Rattle.lz_analyze.proofs.WalkingLemmas.{starts}
use Rattle.lz_analyze.proofs.walk.Walk.begin.Goals as goal

pub returns-clause-at : goal.returns-clause-at
returns-clause-at c = ap length c.order.ensures ∙ length-map c.args.trail.now.set (λ (e : Entry). e.lit)

pub returns-clause-walk : goal.returns-clause-walk
returns-clause-walk c clause lent =
    let s = c.args.trail.now in
    let place : length c.order.result.now ≡ length s.set = ap length c.order.ensures ∙ length-map s.set (λ (e : Entry). e.lit) in
    let hint : c.push.new.self.items ≡ c.args.conflict ∷ [] = c.in_ok-push.ensures.ok ∙ ap (λ (xs : List ℕ). xs ++ c.args.conflict ∷ []) c.clear-3.ensures.items in
    record {
      walk = subst (λ (n : ℕ). IsWalk s (IsTodo s n clause) c.clear.new.self.keys c.clear-2.new.self.items n 0 (reverse c.push.new.self.items)) (sym place)
          (subst (λ (keys : List ℕ). IsWalk s (IsTodo s (length s.set) clause) keys c.clear-2.new.self.items (length s.set) 0 (reverse c.push.new.self.items)) (sym c.clear.ensures)
          (subst (λ (low : List Lit). IsWalk s (IsTodo s (length s.set) clause) [] low (length s.set) 0 (reverse c.push.new.self.items)) (sym c.clear-2.ensures.items)
          (subst (λ (hints : List ℕ). IsWalk s (IsTodo s (length s.set) clause) [] [] (length s.set) 0 (reverse hints)) (sym hint)
          (starts s clause c.args.conflict c.requires.trail c.requires.conflict lent))));
      some = (let e = ap length hint in omega arith);
    }
