use Rattle.std.proofs.Common.{◌≡◌, ◌<◌, ◌==◌, ℕ, false, length, slice_index_or}
use Rattle.std.specs.List.{list_any}
use Rattle.roster_instance.specs.Meaning.{nurse_at}
use Rattle.roster_offers.proofs.day.able_by_skill.Given as goal

abbrev pub invariant-loop-skill : goal.invariant-loop-skill
invariant-loop-skill l = record {
  length : length l.able ≡ 8;
  so_far : (k : ℕ) → k < l.skill → slice_index_or l.able k false ≡ list_any (λ own. own.0 == k) (nurse_at l.case l.nurse).skills;
}
