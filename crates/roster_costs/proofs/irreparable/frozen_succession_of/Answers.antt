use Rattle.std.proofs.Common.{◌≡◌, ◌∙◌, ◌+◌, ◌-◌, ◌&&◌, ◌==◌, ℕ, Bool, ap₂, arith, if◌then◌else◌, sym, true}
use Rattle.roster_instance.specs.Meaning.{forbids, last_shift, past_of}
use Rattle.roster_instance.specs.Rosters.{days_of_nurse}
use Rattle.roster_rules.specs.AllowedRows.{is_frozen}
use Rattle.roster_rules.specs.declared.fault.HardFault.TheVariants.{H3}
use Rattle.roster_rules.proofs.HardLemmas.{below_first, below_more, first_where, none_where, shift_before_more, shift_on_row}
use Rattle.roster_costs.proofs.irreparable.frozen_succession_of.Goals as goal

-- whether the day before the next one stays
before_next : (stays : ℕ → Bool) (d : ℕ) → (if d + 1 == 0 then true else stays (d + 1 - 1)) ≡ stays d
before_next stays d = grind arith

pub returns-then-is_forbidden : goal.returns-then-is_forbidden
returns-then-is_forbidden c =
    let nurse = c.args.nurse in
    let day = c.loop-day.day in
    let today = shift_on_row c.args.roster.now nurse day c.row-row.result.now c.shift-shift.result c.row-row.ensures c.shift-shift.ensures in
    let stay = ap₂ (λ (a b : Bool). a && b) c.loop-day.invariant.stays c.is_frozen-frozen.ensures in
    let test = sym (ap₂ (λ (a b : Bool). a && b) stay (ap₂ (forbids c.args.case.now.successions) c.loop-day.invariant.before today)) ∙ sym c.is_forbidden.ensures ∙ c.if-is_forbidden.true in
    below_first _ _ day (H3 nurse day) (omega arith) c.loop-day.invariant.none (first_where _ (H3 nurse day) test)

pub loop-day-preserved : goal.loop-day-preserved
loop-day-preserved c =
    let nurse = c.args.nurse in
    let day = c.loop-day.day in
    let today = shift_on_row c.args.roster.now nurse day c.row-row.result.now c.shift-shift.result c.row-row.ensures c.shift-shift.ensures in
    let stay = ap₂ (λ (a b : Bool). a && b) c.loop-day.invariant.stays c.is_frozen-frozen.ensures in
    let test = sym (ap₂ (λ (a b : Bool). a && b) stay (ap₂ (forbids c.args.case.now.successions) c.loop-day.invariant.before today)) ∙ sym c.is_forbidden.ensures ∙ c.if-is_forbidden.false in
    record {
      none = below_more _ day c.loop-day.invariant.none (none_where _ (H3 nurse day) test);
      before = today ∙ sym (shift_before_more (last_shift (past_of c.args.case.now nurse).border) (days_of_nurse c.args.roster.now nurse) day);
      stays = c.is_frozen-frozen.ensures ∙ sym (before_next (is_frozen c.args.case.now c.args.from nurse) day);
    }
