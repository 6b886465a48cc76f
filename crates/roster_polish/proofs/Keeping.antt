-- Rosters of one case have rows of the same days.
use Rattle.std.proofs.Common.{◌≡◌, ◌∙◌, ◌<◌, ◌==◌, ℕ, true, arith, length, [], map, subst, sym}
use Rattle.std.specs.List.{list_all}
use Rattle.std.proofs.lemmas.Bool.{and_parts, eqb-true}
use Rattle.std.proofs.lemmas.List.{ext_get_or, get_or-map, length-map}
use Rattle.roster_instance.specs.Meaning.{Meaning, nurse_count}
use Rattle.roster_instance.specs.Rosters.{Row, Rows, fits_case, is_row_of}
use Rattle.roster_rules.specs.HardRules.{keeps_hard}
use Rattle.roster_instance.proofs.RosterFacts.{row-length}
use Rattle.roster_laws.specs.FrozenDays.{FrozenDaysStay}
use Rattle.roster_polish.specs.Polished.{IsReached}

abbrev days : Row → ℕ
days row = length row

all_nurses : (c : Meaning) (r : Rows) → fits_case c r ≡ true → length r ≡ nurse_count c
all_nurses c r fits = eqb-true (length r) (nurse_count c) (and_parts (length r == nurse_count c) (list_all (is_row_of c) r) fits).0

pub same_days : (c : Meaning) (a b : Rows) → fits_case c a ≡ true → fits_case c b ≡ true → map (λ (row : Row). length row) a ≡ map (λ (row : Row). length row) b
same_days c a b fits_a fits_b =
    ext_get_or 0 (map days a) (map days b) (length-map a days ∙ all_nurses c a fits_a ∙ sym (all_nurses c b fits_b) ∙ sym (length-map b days)) (λ n h.
    let inside : n < nurse_count c = omega (arith, h, length-map a days, all_nurses c a fits_a) in
    get_or-map days a n [] 0 (omega (arith, h, length-map a days)) ∙ row-length c a n fits_a inside ∙ sym (row-length c b n fits_b inside)
    ∙ sym (get_or-map days b n [] 0 (omega (arith, inside, all_nurses c b fits_b))))

-- a held roster may be kept, under whatever case it is held
pub reached_by : (held c : Meaning) (from : ℕ) (given r : Rows) → held ≡ c → fits_case held r ≡ true → keeps_hard held r ≡ true → FrozenDaysStay c from given r → IsReached c from given r
reached_by held c from given r same fits keeps stays = record {
  accepted = (subst (λ (m : Meaning). fits_case m r ≡ true) same fits, subst (λ (m : Meaning). keeps_hard m r ≡ true) same keeps);
  stays = stays;
}
