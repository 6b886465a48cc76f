-- The lines of reports, by what the program has for their fields.
use Rattle.std.proofs.Common.{◌≡◌, ◌∙◌, ◌<◌, ◌∷◌, [], ℕ, Bool, ap, ap₂, arith, codes, min}
use Rattle.std.proofs.Math.Nat.{min-eq_left}
use Rattle.roster_instance.specs.Meaning.{Meaning, day_count, nurse_name}
use Rattle.roster_instance.specs.Sizes.{choice_count, state_count}
use Rattle.roster_rules.specs.Penalties.{total_cost}
use Rattle.roster_rules.specs.PenaltyBounds.{penalty_limit}
use Rattle.roster_rules.specs.declared.penalties.Costs.{Costs}
use Rattle.roster_reports.specs.Lines.{Text}
use Rattle.roster_json.specs.Json.{name, number, object_line, truth}
use Rattle.roster_json.specs.Reports.{costs_line, json_taker, search_line, size_line}

-- the costs with this total
abbrev pub costs_with : Bool → Costs → ℕ → Text
costs_with allowed k total =
    object_line (codes "costs")
    (truth (codes "allowed") allowed ∷ number (codes "S1") k.s1 ∷ number (codes "S2") k.s2 ∷ number (codes "S3") k.s3 ∷ number (codes "S4") k.s4 ∷ number (codes "S5") k.s5
    ∷ number (codes "S6") k.s6 ∷ number (codes "S7") k.s7 ∷ number (codes "S8") k.s8 ∷ number (codes "total") total ∷ [])

pub costs_are : (allowed : Bool) (k : Costs) (total : ℕ) → total ≡ min (total_cost k) 18446744073709551615 → total_cost k < penalty_limit → costs_with allowed k total ≡ costs_line allowed k
costs_are allowed k total is within = ap (costs_with allowed k) (is ∙ min-eq_left (omega (arith, within)))

pub size_is : (c : Meaning) (n : ℕ) (text : Text) (states days choices : ℕ) → text ≡ nurse_name c n → states ≡ state_count c n → days ≡ day_count c → choices ≡ choice_count c n
    → search_line n text states days choices ≡ size_line c n
size_is c n text states days choices text_is states_are days_are choices_are =
    ap (λ x. search_line n x states days choices) text_is ∙ ap (λ k. search_line n (nurse_name c n) k days choices) states_are
    ∙ ap₂ (search_line n (nurse_name c n) (state_count c n)) days_are choices_are

-- the taker of this name
abbrev pub taker_named : ℕ → Text → (penalty changed missed : ℕ) → Text
taker_named nurse text penalty changed missed =
    object_line (codes "taker")
    (number (codes "nurse") nurse ∷ name (codes "nurse_name") text ∷ number (codes "penalty") penalty ∷ number (codes "changed") changed ∷ number (codes "missed") missed ∷ [])

pub taker_is : (c : Meaning) (nurse : ℕ) (text : Text) (penalty changed missed : ℕ) → text ≡ nurse_name c nurse → taker_named nurse text penalty changed missed ≡ json_taker c nurse penalty changed missed
taker_is c nurse text penalty changed missed is = ap (λ x. taker_named nurse x penalty changed missed) is
