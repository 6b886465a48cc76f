use Rattle.std.proofs.Common.{◌≡◌, ◌<◌, ℕ, length}
use Rattle.roster_instance.specs.Rosters.{choice_on}
use Rattle.roster_near.specs.Drawn.{choice_found}
use Rattle.roster_near.proofs.space.NearSpace.write_found.Given as goal

abbrev pub invariant-loop-day : goal.invariant-loop-day
invariant-loop-day l = record {
  row : (day : ℕ) → day < l.day → choice_on l.self.row.items day ≡ choice_found l.fn.self.problem l.fn.self.found l.free l.given day;
  length : length l.self.row.items ≡ length l.fn.self.row.items;
  problem : l.self.problem ≡ l.fn.self.problem;
  found : l.self.found ≡ l.fn.self.found;
}
