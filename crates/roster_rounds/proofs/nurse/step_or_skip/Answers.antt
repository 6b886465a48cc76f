use Rattle.std.proofs.Common.{◌∙◌, ap, arith, le-ltb, nat_lt, not, subst, sym}
use Rattle.roster_rules.specs.AllowedRows.{best_row}
use Rattle.roster_rules.specs.Improver.{same_rows}
use Rattle.roster_rules.specs.Penalties.{penalty}
use Rattle.roster_laws.specs.FrozenDays.{FrozenDaysStay}
use Rattle.roster_laws.proofs.Frozen.{step_stays}
use Rattle.roster_laws.proofs.Steps.{changed_is_cheaper}
use Rattle.roster_rounds.proofs.nurse.step_or_skip.Goals as goal

pub returns-in_default-clause-changed : goal.returns-in_default-clause-changed
returns-in_default-clause-changed g c =
    let k = c.args.held.now.case in
    let rows = c.args.held.now.roster in
    let stays = c.in_default.ensures.none in
    sym (ap (λ next. nat_lt (penalty k next) (penalty k rows)) stays ∙ le-ltb (penalty k rows) (penalty k rows) (omega arith))
    ∙ sym (changed_is_cheaper k (best_row k c.args.from) rows c.args.nurse)
    ∙ ap (λ next. not (same_rows next rows)) stays

pub returns-clause-frozen : goal.returns-clause-frozen
returns-clause-frozen g c =
    let roster = c.put_in_cheaper.ensures.roster c.args.from c.in-Some.ensures.best in
    subst (FrozenDaysStay c.args.held.now.case c.args.from c.args.held.now.roster) (sym roster) (step_stays c.args.held.now.case c.args.from c.args.held.now.roster c.args.nurse)
