use Rattle.std.proofs.Common.{◌≡◌, ◌∙◌, ◌+◌, ◌*◌, ◌≤◌, ap, arith, refl, subst, sym, true}
use Rattle.roster_instance.specs.Meaning.{Meaning, nurse_count}
use Rattle.roster_offers.specs.Workspaces.{fits_space}
use Rattle.roster_row.specs.Recalled.{RecallsSearches}
use Rattle.roster_rules.specs.AllowedRows.{best_row}
use Rattle.roster_rules.specs.Improver.{Run, round, same_rows}
use Rattle.roster_polish.specs.Polished.{first_run, first_searches, descent_rounds, rounds_made}
use Rattle.roster_polish.specs.Settled.{Spends}
use Rattle.roster_polish.proofs.Passes.{counted_in, enough_after, enough_for_one, rounds_end, rounds_go_on, rounds_stop, run_ends, run_goes_on, run_stops, was_other, was_same}
use Rattle.roster_polish.proofs.Steps.{one_and_rest, spent_both}
use Rattle.roster_polish.proofs.descend.descend_first.Goals as goal

pub loop-rounds_before-preserved : goal.loop-rounds_before-preserved
loop-rounds_before-preserved g c =
    let k = c.args.held.now.case in
    let from = c.args.from in
    let l = c.loop-rounds_before in
    let i = l.invariant in
    let logged = c.make_pass.ensures in
    let next = c.make_pass.new.held.roster in
    let one : nurse_count l.held.case ≤ l.searches.left = subst (λ (m : Meaning). nurse_count m ≤ l.searches.left) (sym i.case) (enough_for_one (nurse_count k) descent_rounds l.rounds_before l.searches.left c.loop-rounds_before-test.true i.left) in
    let is_round : next ≡ round k (best_row k from) l.held.roster = subst (λ (m : Meaning). next ≡ round m (best_row m from) l.held.roster) i.case (logged.round refl one i.ends) in
    let differs = was_other (same_rows next l.held.roster) c.make_pass.result (logged.end refl one i.ends) c.in_default.not-Unchanged in
    record {
      case = logged.case ∙ i.case;
      run_is = i.run_is ∙ run_goes_on k from l.held.roster next descent_rounds l.rounds_before c.loop-rounds_before-test.true is_round differs;
      rounds = omega (arith, i.rounds, rounds_go_on k from l.held.roster next descent_rounds l.rounds_before c.loop-rounds_before-test.true is_round differs);
      few = omega (arith, i.few, one_and_rest l.rounds_before (nurse_count k), subst (λ (m : Meaning). l.searches.left ≤ c.make_pass.new.searches.left + nurse_count m) i.case (logged.few refl));
      left = enough_after (nurse_count k) descent_rounds l.rounds_before l.searches.left c.loop-rounds_before-test.true i.left c.make_pass.new.searches.left (subst (λ (m : Meaning). l.searches.left ≤ c.make_pass.new.searches.left + nurse_count m) i.case (logged.few refl));
      ends = logged.ends ∙ i.ends;
      spends = spent_both k c.args.meter.now (first_searches k) l.meter l.searches.left c.make_pass.new.meter c.make_pass.new.searches.left i.spends (subst (λ (m : Meaning). Spends m l.meter l.searches.left c.make_pass.new.meter c.make_pass.new.searches.left) i.case logged.spends);
      fits = subst (λ (m : Meaning). fits_space m c.make_pass.new.workspace ≡ true) i.case logged.fits;
      recalls = subst (λ (m : Meaning). RecallsSearches m c.make_pass.new.last) i.case logged.recalls;
    }

pub returns-clause-roster : goal.returns-clause-roster
returns-clause-roster g c =
    let k = c.args.held.now.case in
    let l = c.loop-rounds_before in
    sym (ap (λ (r : Run). r.roster) (l.invariant.run_is ∙ run_stops k c.args.from l.held.roster descent_rounds l.rounds_before (omega (arith, l.auto.rounds_before-end, c.loop-rounds_before-test.false))))

pub returns-clause-settled : goal.returns-clause-settled
returns-clause-settled g c =
    let k = c.args.held.now.case in
    let l = c.loop-rounds_before in
    sym (ap (λ (r : Run). r.is_settled) (l.invariant.run_is ∙ run_stops k c.args.from l.held.roster descent_rounds l.rounds_before (omega (arith, l.auto.rounds_before-end, c.loop-rounds_before-test.false))))

pub returns-clause-counted : goal.returns-clause-counted
returns-clause-counted g c =
    let k = c.args.held.now.case in
    let from = c.args.from in
    let given = c.args.held.now.roster in
    let l = c.loop-rounds_before in
    let i = l.invariant in
    let none = rounds_stop k from l.held.roster descent_rounds l.rounds_before (omega (arith, l.auto.rounds_before-end, c.loop-rounds_before-test.false)) in
    let all : l.rounds_before ≡ rounds_made k from descent_rounds given = omega (arith, i.rounds, none) in
    counted_in k (rounds_made k from descent_rounds given) c.args.meter.now (first_searches k) l.meter l.searches.left i.spends (subst (λ rounds. first_searches k ≤ l.searches.left + rounds * nurse_count k) all i.few)

-- the round that was made is the last one
ended : (g : _) (c : goal.In-Unchanged g) → first_run c.args.held.now.case c.args.from c.args.held.now.roster ≡ record { roster = c.make_pass.new.held.roster; is_settled = true }
ended g c =
    let k = c.args.held.now.case in
    let from = c.args.from in
    let l = c.loop-rounds_before in
    let i = l.invariant in
    let logged = c.make_pass.ensures in
    let next = c.make_pass.new.held.roster in
    let one : nurse_count l.held.case ≤ l.searches.left = subst (λ (m : Meaning). nurse_count m ≤ l.searches.left) (sym i.case) (enough_for_one (nurse_count k) descent_rounds l.rounds_before l.searches.left c.loop-rounds_before-test.true i.left) in
    let is_round : next ≡ round k (best_row k from) l.held.roster = subst (λ (m : Meaning). next ≡ round m (best_row m from) l.held.roster) i.case (logged.round refl one i.ends) in
    let same = was_same (same_rows next l.held.roster) c.make_pass.result (logged.end refl one i.ends) c.in-Unchanged.is in
    i.run_is ∙ run_ends k from l.held.roster next descent_rounds l.rounds_before c.loop-rounds_before-test.true is_round same

pub returns-in-Unchanged-clause-counted : goal.returns-in-Unchanged-clause-counted
returns-in-Unchanged-clause-counted g c =
    let k = c.args.held.now.case in
    let from = c.args.from in
    let given = c.args.held.now.roster in
    let l = c.loop-rounds_before in
    let i = l.invariant in
    let logged = c.make_pass.ensures in
    let next = c.make_pass.new.held.roster in
    let one : nurse_count l.held.case ≤ l.searches.left = subst (λ (m : Meaning). nurse_count m ≤ l.searches.left) (sym i.case) (enough_for_one (nurse_count k) descent_rounds l.rounds_before l.searches.left c.loop-rounds_before-test.true i.left) in
    let is_round : next ≡ round k (best_row k from) l.held.roster = subst (λ (m : Meaning). next ≡ round m (best_row m from) l.held.roster) i.case (logged.round refl one i.ends) in
    let same = was_same (same_rows next l.held.roster) c.make_pass.result (logged.end refl one i.ends) c.in-Unchanged.is in
    let all : l.rounds_before + 1 ≡ rounds_made k from descent_rounds given = omega (arith, i.rounds, rounds_end k from l.held.roster next descent_rounds l.rounds_before c.loop-rounds_before-test.true is_round same) in
    let spends = spent_both k c.args.meter.now (first_searches k) l.meter l.searches.left c.make_pass.new.meter c.make_pass.new.searches.left i.spends (subst (λ (m : Meaning). Spends m l.meter l.searches.left c.make_pass.new.meter c.make_pass.new.searches.left) i.case logged.spends) in
    let few : first_searches k ≤ c.make_pass.new.searches.left + (l.rounds_before + 1) * nurse_count k = omega (arith, i.few, one_and_rest l.rounds_before (nurse_count k), subst (λ (m : Meaning). l.searches.left ≤ c.make_pass.new.searches.left + nurse_count m) i.case (logged.few refl)) in
    counted_in k (rounds_made k from descent_rounds given) c.args.meter.now (first_searches k) c.make_pass.new.meter c.make_pass.new.searches.left spends (subst (λ rounds. first_searches k ≤ c.make_pass.new.searches.left + rounds * nurse_count k) all few)

pub returns-in-Unchanged-clause-roster : goal.returns-in-Unchanged-clause-roster
returns-in-Unchanged-clause-roster g c = sym (ap (λ (r : Run). r.roster) (ended g c))

pub returns-in-Unchanged-clause-settled : goal.returns-in-Unchanged-clause-settled
returns-in-Unchanged-clause-settled g c = sym (ap (λ (r : Run). r.is_settled) (ended g c))
