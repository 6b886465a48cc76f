use Rattle.roster_tables.proofs.DayLaws.{EndDone, group_key}
use Rattle.roster_tables.proofs.labels.label_end.Given as goal

abbrev pub invariant-loop-last : goal.invariant-loop-last
invariant-loop-last l = EndDone l.days l.boxes (group_key l.last 0 0) l.fn.labels l.labels

abbrev pub invariant-loop-run : goal.invariant-loop-run
invariant-loop-run l = EndDone l.days l.boxes (group_key l.last l.run 0) l.fn.labels l.labels

abbrev pub invariant-loop-shift_run : goal.invariant-loop-shift_run
invariant-loop-shift_run l = EndDone l.days l.boxes (group_key l.last l.run l.shift_run) l.fn.labels l.labels
