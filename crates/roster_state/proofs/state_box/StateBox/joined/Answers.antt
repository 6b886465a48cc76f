use Rattle.roster_state.proofs.state_box.StateBox.joined.Goals as goal

pub returns-clause-one : goal.returns-clause-one
returns-clause-one c s inside = record {
  run = c.joined.ensures.one s.run inside.run;
  shift_run = c.joined-2.ensures.one s.shift_run inside.shift_run;
  weekends = c.joined-3.ensures.one s.weekends inside.weekends;
  assignments = c.joined-4.ensures.one s.assignments inside.assignments;
}

pub returns-clause-other : goal.returns-clause-other
returns-clause-other c s inside = record {
  run = c.joined.ensures.other s.run inside.run;
  shift_run = c.joined-2.ensures.other s.shift_run inside.shift_run;
  weekends = c.joined-3.ensures.other s.weekends inside.weekends;
  assignments = c.joined-4.ensures.other s.assignments inside.assignments;
}
