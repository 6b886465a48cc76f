-- A row that a nurse can work, and the shortfall that it leaves, day by day.
use Rattle.std.proofs.Common.{◌≡◌, ◌∙◌, ◌<◌, ◌&&◌, ℕ, Bool, not, ap, sym, length, min, nat_le}
use Rattle.roster_instance.specs.Choices.{days_of}
use Rattle.roster_instance.specs.Counting.{all_below}
use Rattle.roster_instance.specs.Meaning.{Meaning, day_count, minimum, shift_count, skill_count}
use Rattle.roster_instance.specs.Rosters.{Row, Rows, choice_on, cover, with_row}
use Rattle.roster_rules.specs.AllowedRows.{keeps_frozen_day, keeps_frozen_days}
use Rattle.roster_rules.specs.HardRules.{breaks_succession, is_able_on, is_here_on, keeps_successions, may_take}
use Rattle.roster_laws.proofs.Below.{all_both, all_same}
use Rattle.roster_laws.proofs.Keeps.{last_two}
use Rattle.roster_laws.proofs.OneRow.{cover-with_row}
use Rattle.roster_prices.specs.Days.{can_do}
use Rattle.roster_prices.specs.LowerBounds.{can_work}
use Rattle.roster_who.specs.Offers.{keeps_slots}
use Rattle.roster_who.specs.Who.{short_by_no_more}

pub works : (c : Meaning) (from : ℕ) (r : Rows) (n : ℕ) (row : Row) → can_work c from r n row ≡ all_below (day_count c) (λ d. can_do c from r n d (choice_on row d) && not (breaks_succession c n (days_of row) d))
works c from r n row =
    let able : ℕ → Bool = λ d. may_take c n d (choice_on row d) in
    let follows : ℕ → Bool = λ d. not (breaks_succession c n (days_of row) d) in
    let stays : ℕ → Bool = λ d. keeps_frozen_day c from r n d (choice_on row d) in
    ap (λ b. (b && keeps_successions c n (days_of row) (day_count c)) && keeps_frozen_days c from r n row) (sym (all_both (day_count c) (is_able_on c n row) (is_here_on c n row)))
    ∙ ap (λ b. b && keeps_frozen_days c from r n row) (sym (all_both (day_count c) able follows))
    ∙ sym (all_both (day_count c) (λ d. able d && follows d) stays)
    ∙ all_same (day_count c) (λ d. (able d && follows d) && stays d) (λ d. (able d && stays d) && follows d) (λ d h. last_two (able d) (follows d) (stays d))

pub short_is : (c : Meaning) (r : Rows) (n : ℕ) (within : n < length r) (row : Row) → all_below (day_count c) (short_by_no_more c r (with_row r n row)) ≡ all_below (day_count c) (λ d. keeps_slots c r n d (choice_on row d))
short_is c r n within row =
    λ i. all_below (day_count c) (λ d. all_below (shift_count c) (λ s. all_below (skill_count c) (λ k. nat_le (min (minimum c d s k) (cover r d s k)) (cover-with_row r n within row d s k i))))
