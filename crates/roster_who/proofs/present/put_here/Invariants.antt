use Rattle.std.proofs.Common.{◌≡◌, ◌<◌, ℕ, if◌then◌else◌, length, get_or}
use Rattle.roster_instance.specs.declared.choice.Choice.TheVariants.{Off}
use Rattle.roster_instance.specs.Meaning.{day_count, is_absent}
use Rattle.roster_instance.specs.Rosters.{choice_on}
use Rattle.roster_who.proofs.present.put_here.Given as goal

abbrev pub invariant-loop-day : goal.invariant-loop-day
invariant-loop-day l = record {
  long : length l.row ≡ day_count l.case;
  gathered : (d : ℕ) → d < l.day → get_or l.row d Off ≡ (if is_absent l.case l.nurse d then Off else choice_on l.given d);
}
