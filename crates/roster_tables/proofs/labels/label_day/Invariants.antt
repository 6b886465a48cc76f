use Rattle.roster_tables.proofs.DayLaws.{DayDone, group_key, groups_below, lasts_below, runs_below}
use Rattle.roster_tables.proofs.labels.label_day.Given as goal

abbrev pub invariant-loop-last : goal.invariant-loop-last
invariant-loop-last l = DayDone l.day (group_key l.last 0 0) (lasts_below l.day l.last) l.fn.labels l.labels l.fn.pointers l.pointers l.fn.meter l.meter

abbrev pub invariant-loop-run : goal.invariant-loop-run
invariant-loop-run l = DayDone l.day (group_key l.last l.run 0) (runs_below l.day l.last l.run) l.fn.labels l.labels l.fn.pointers l.pointers l.fn.meter l.meter

abbrev pub invariant-loop-shift_run : goal.invariant-loop-shift_run
invariant-loop-shift_run l = DayDone l.day (group_key l.last l.run l.shift_run) (groups_below l.day l.last l.run l.shift_run) l.fn.labels l.labels l.fn.pointers l.pointers l.fn.meter l.meter
