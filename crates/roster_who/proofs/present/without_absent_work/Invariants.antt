use Rattle.std.proofs.Common.{◌≡◌, ◌<◌, ℕ, length, map}
use Rattle.std.specs.List.{range_with_len}
use Rattle.roster_instance.specs.Meaning.{day_count, nurse_count}
use Rattle.roster_instance.specs.Rosters.{row_of}
use Rattle.roster_who.specs.Who.{here_choice}
use Rattle.roster_who.proofs.present.without_absent_work.Given as goal

abbrev pub invariant-loop-nurse : goal.invariant-loop-nurse
invariant-loop-nurse l = record {
  nurses : length l.present ≡ nurse_count l.case;
  days : (n : ℕ) → n < nurse_count l.case → length (row_of l.present n) ≡ day_count l.case;
  gathered : (n : ℕ) → n < l.nurse → row_of l.present n ≡ map (here_choice l.case l.roster n) (range_with_len 0 (day_count l.case));
  row : length l.row.items ≡ day_count l.case;
}
