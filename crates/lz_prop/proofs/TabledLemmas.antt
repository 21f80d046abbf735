-- One true literal more is taken back.
use Rattle.std.proofs.Common.{◌≡◌, ◌≢◌, ℕ, ◌+◌, ◌<◌, ◌≤◌, length, get_or, set, take, sym, ◌∙◌, ap, subst, arith}
use Rattle.std.specs.List.{AllPairs}
use Rattle.std.specs.Vec.{vec_capacity}
use Rattle.std.proofs.lemmas.List.{length-take, take-take, get_or-take}
use Rattle.lz_cnf.specs.declared.clause.Lit.{Lit}
use Rattle.lz_cnf.specs.Models.{variable_of}
use Rattle.lz_prop.specs.declared.table.Table.{Table}
use Rattle.lz_prop.specs.Parts.{IsTable}
use Rattle.lz_prop.specs.Tabled.{IsShortened}
use Rattle.lz_prop.proofs.TableLemmas.{table_less}

-- what the code did
pub record IsOneLess (now u : Table) (last : ℕ) (lit : Lit) : Type 0 where
  pub last_is : last + 1 ≡ length now.order.items
  pub lit_is : lit ≡ get_or now.order.items last lit
  pub truths : u.truths.items ≡ set now.truths.items lit.0 0
  pub levels : u.levels ≡ now.levels
  pub reasons : u.reasons ≡ now.reasons
  pub order : u.order.items ≡ take last now.order.items
  pub room : vec_capacity u.order ≡ vec_capacity now.order

pub shortened_more : (old now u : Table) (least last : ℕ) (lit : Lit) → AllPairs (λ a b. variable_of a ≢ variable_of b) old.order.items → IsShortened old now least → least ≤ last → IsOneLess now u last lit → IsShortened old u least
shortened_more old now u least last lit apart is enough one =
    let n = length now.order.items in
    let within = is.within in
    let last_is = one.last_is in
    let apart_now : AllPairs (λ a b. variable_of a ≢ variable_of b) now.order.items = λ i j d lt below same.
    let at : (k : ℕ) → k < n → get_or now.order.items k d ≡ get_or old.order.items k d = λ k l. ap (λ xs. get_or xs k d) is.order ∙ get_or-take n old.order.items k d l in
    apart i j d lt (omega arith) (sym (ap variable_of (at i (omega arith))) ∙ same ∙ ap variable_of (at j below)) in
    let less = table_less (length old.levels.items) now.truths.items now.levels.items now.reasons.items now.order.items last lit is.table apart_now last_is in
    let less_lit = subst (λ (l : Lit). IsTable (length old.levels.items) (set now.truths.items l.0 0) now.levels.items now.reasons.items (take last now.order.items)) (sym one.lit_is) less in
    let long : length u.order.items ≡ last = ap length one.order ∙ length-take last now.order.items ∙ omega arith in
    record {
      table = rw (one.truths, one.levels, one.reasons, one.order) less_lit;
      order = one.order ∙ ap (take last) is.order ∙ take-take last n old.order.items (omega arith) ∙ ap (λ m. take m old.order.items) (sym long);
      within = omega arith;
      enough = omega arith;
      levels = one.levels ∙ is.levels;
      reasons = one.reasons ∙ is.reasons;
      room = one.room ∙ is.room;
    }
