use Rattle.std.proofs.Common.{◌≡◌, ◌+◌, ◌-◌, ◌*◌, ◌≤◌, length}
use Rattle.roster_state.specs.Codes.{code_of}
use Rattle.roster_tables.specs.OpenDays.{KeepTables, group_places}
use Rattle.roster_tables.proofs.SpanLaws.{GroupCells}
use Rattle.roster_tables.proofs.labels.label_group.Given as goal

abbrev pub invariant-loop-weekends : goal.invariant-loop-weekends
invariant-loop-weekends l = record {
  begun : l.first ≤ l.weekends;
  inside : l.weekends ≤ l.last;
  least : GroupCells l.day l.group l.begin l.end l.first l.weekends l.labels l.pointers;
  outside : KeepTables l.day (code_of l.day.days.ranges l.group) (group_places l.day.days) l.fn.labels l.labels l.fn.pointers l.pointers;
  counted : l.meter ≡ l.fn.meter + length l.day.offers.now * ((l.weekends - l.first) * (l.end - l.begin));
}

abbrev pub decreases-loop-weekends : goal.decreases-loop-weekends
decreases-loop-weekends l = l.last - l.weekends
