-- What the rest of a row costs at least, by its completion bound.
use Rattle.std.proofs.Common.{◌≡◌, ◌+◌, ◌-◌, ◌*◌, ◌/◌, ◌≤◌, ℕ, arith, mul-add, subst, true}
use Rattle.roster_instance.specs.Meaning.{contract_of, day_count}
use Rattle.roster_rules.specs.Prefix.{Summary}
use Rattle.roster_state.specs.Codes.{fits_sizes}
use Rattle.roster_offers.specs.Lists.{offers_on}
use Rattle.roster_completion.specs.declared.least.Adjustment.{Adjustment}
use Rattle.roster_completion.specs.declared.completion_bounds.CompletionBounds.{CompletionBounds}
use Rattle.roster_completion.specs.CompletionBounds.{completion_bound_at}
use Rattle.roster_completion.specs.Later.{at_rates, counts_later, days_to_work, total_later, weekends_later, weekends_to_work}
use Rattle.roster_completion.specs.Least.{IsAdjustmentOf, IsUnderRest, search_sizes}
use Rattle.roster_completion.proofs.CountLaws.{total_at_least, weekends_at_least}
use Rattle.roster_completion.proofs.CompletionLaw.{bounds_under}
use Rattle.roster_completion.proofs.MoreToCome.{few_to_come}

put_together : (completion_bound total weekends cost day weekend missing spared spared_more result : ℕ) → completion_bound + (total + weekends) ≤ cost + (day + weekend) → missing + day ≤ total + spared → weekend ≤ weekends + spared_more → result ≤ completion_bound + missing - (spared + spared_more) → result ≤ cost
put_together completion_bound total weekends cost day weekend missing spared spared_more result law low lower is = omega (arith, law, low, lower, is)

pub least_is_low : (completion_bounds : CompletionBounds) (d : ℕ) (s : Summary) → d ≤ day_count completion_bounds.search.case.now → fits_sizes (search_sizes completion_bounds.search) s ≡ true → (adjustment : Adjustment) → IsAdjustmentOf completion_bounds d s.assignments s.weekends adjustment
    → (result : ℕ) → result ≤ completion_bound_at (search_sizes completion_bounds.search) completion_bounds.cells.now d s + adjustment.more - adjustment.less → IsUnderRest completion_bounds.search d s result
least_is_low completion_bounds d s day fit adjustment is result low cost row best =
    let c = completion_bounds.search.case.now in
    let n = completion_bounds.search.nurse in
    let offers = offers_on completion_bounds.search.offers.now in
    let m = day_count c - d in
    let left : m + d ≡ day_count c = omega (arith, day) in
    let scale = completion_bounds.search.scale in
    let rules = contract_of c n in
    let few = few_to_come c n scale offers m d s left cost row best in
    let law = bounds_under c n scale completion_bounds.rates offers completion_bounds.cells.now completion_bounds.under (λ e below. (completion_bounds.search.for_nurse.each e below).of_case) m d s left fit cost row best in
    let total = total_at_least scale rules.total completion_bounds.rates.day s.assignments (days_to_work row) m completion_bounds.small.day few.0 in
    let all = weekends_at_least scale rules.weekends completion_bounds.rates.weekend s.weekends (weekends_to_work d s.last row) ((m + 6) / 7) completion_bounds.small.weekend few.1 in
    let both : scale * counts_later c n d s row ≡ scale * total_later rules.total s.assignments (days_to_work row) + scale * weekends_later rules.weekends s.weekends (weekends_to_work d s.last row) = mul-add scale (total_later rules.total s.assignments (days_to_work row)) (weekends_later rules.weekends s.weekends (weekends_to_work d s.last row)) in
    let split = subst (λ k. completion_bound_at (search_sizes completion_bounds.search) completion_bounds.cells.now d s + k ≤ cost + at_rates completion_bounds.rates d s row) both law in
    put_together _ _ _ cost _ _ _ _ _ result split total all (omega (arith, low, is.more, is.less))
