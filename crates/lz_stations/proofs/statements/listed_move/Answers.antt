use Rattle.std.proofs.Common.{◌≡◌, ℕ, suc, ◌+◌, ◌∙◌, ap, arith}
use Rattle.lz_stations.specs.Stations.{listing}
use Rattle.lz_stations.specs.StationMoves.{follow_move}
use Rattle.lz_stations.specs.StationsHeld.{flow_of}
use Rattle.lz_stations.proofs.StatementsLemmas.{listed_in, listed_out}
use Rattle.lz_stations.proofs.statements.listed_move.Goals as goal

pub returns-then-at-parts : goal.returns-then-at-parts
returns-then-at-parts c =
    let next : c.args.at + 1 ≡ suc c.args.at = omega arith in
    listed_in c.args.parts.now c.args.at (flow_of c.args.flow) _ c.if-at-parts.true (c.follow_move.ensures ∙ ap (λ (k : ℕ). follow_move (flow_of c.args.flow) (listing k)) next)

pub returns-else-at-parts : goal.returns-else-at-parts
returns-else-at-parts c = listed_out c.args.parts.now c.args.at (flow_of c.args.flow) c.if-at-parts.false
