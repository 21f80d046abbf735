use Rattle.std.proofs.Common.{◌≡◌, ◌≤◌, take, drop}
use Rattle.std.specs.List.{All, Contains}
use Rattle.lz_cnf.specs.Models.{variable_of}
use Rattle.lz_analyze.specs.Walking.{IsMet, IsWalkOver}
use Rattle.lz_analyze.proofs.walk.Walk.look.Given as goal

abbrev pub invariant-loop-lit : goal.invariant-loop-lit
invariant-loop-lit l = All (IsMet l.trail l.self) l.clause × IsWalkOver l.trail (drop l.lit-index l.clause) l.self × All (λ lit. Contains l.self.marks.keys (variable_of lit)) (take l.lit-index l.clause)
    × (l.self.at ≡ l.initial.self.at) × (l.initial.self.pending ≤ l.self.pending)
