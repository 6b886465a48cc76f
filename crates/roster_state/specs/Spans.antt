-- One more day from all states of a span: a strip of each of several blocks, each strip with one more worked
-- weekend, each place with one more assignment (our own).
use Rattle.std.specs.Prelude.{◌≡◌, ℕ, ◌+◌, ◌-◌, ◌<◌, ◌≤◌, Option, true, is_some, option_map}
use Rattle.roster_instance.specs.declared.choice.Shift.{Shift}
use Rattle.roster_rules.specs.DayLaw.{weekends_more}
use Rattle.roster_instance.specs.Meaning.{Meaning, contract_of}
use Rattle.roster_rules.specs.Prefix.{Summary}
use Rattle.roster_instance.specs.Sizes.{cap}
use Rattle.roster_state.specs.declared.span.Span.{Span}
use Rattle.roster_state.specs.Transition.{transition_of, with_assignments, with_weekends}

-- the state i strips and b places after the first one, if the places begin at that many assignments
abbrev pub span_state : Summary → (begin i b : ℕ) → Summary
span_state block begin i b = with_assignments (with_weekends block (block.weekends + i)) (begin + b)

-- a state with i more worked weekends and b more assignments, at the same cost
abbrev pub moved_on : (i b : ℕ) → Summary × ℕ → Summary × ℕ
moved_on i b t = (with_assignments (with_weekends t.0 (t.0.weekends + i)) (t.0.assignments + b), t.1)

-- a day is alike from all states of a span: no further strip has a worked weekend above the greatest number,
-- each further place is below the cap, and if an assignment from the first place isn't above the greatest
-- total, none is
pub record IsAlike (c : Meaning) (n day : ℕ) (block : Summary) (strips begin end : ℕ) : Type 0 where
  pub weekends : 1 < strips
      → block.weekends + strips + weekends_more day (is_some block.last) true ≤ (contract_of c n).weekends + 1
  pub assignments : begin + 1 < end → end ≤ cap (contract_of c n).total
  pub level : begin < (contract_of c n).total.greatest → end ≤ (contract_of c n).total.greatest

-- from each state of a span the day leads to the state that is as many worked weekends and assignments
-- further as it is itself, at the same cost
abbrev pub AreSpanTransitions : Meaning → (n day : ℕ) → Span → Option Shift → Option (Summary × ℕ) → Type 0
AreSpanTransitions c n day span shift transition =
    (i b : ℕ) → i < span.strips → b < span.end - span.begin → option_map (moved_on i b) transition
    ≡ transition_of c n day (span_state span.block span.begin i b) shift
