use Rattle.std.proofs.Common.{◌≡◌, ◌+◌, ◌-◌, ◌≤◌}
use Rattle.roster_tables.specs.OpenDays.{IsPut, span_extensions}
use Rattle.roster_tables.proofs.labels.label_strips.Given as goal

abbrev pub invariant-loop-begin : goal.invariant-loop-begin
invariant-loop-begin l = record {
  begun : l.span.begin ≤ l.begin;
  inside : l.begin ≤ l.span.end;
  put : IsPut l.day (record l.span { end = l.begin }) l.fn.labels l.labels l.fn.pointers l.pointers;
  counted : l.meter ≡ l.fn.meter + span_extensions l.day (record l.span { end = l.begin });
}

abbrev pub decreases-loop-begin : goal.decreases-loop-begin
decreases-loop-begin l = l.span.end - l.begin
