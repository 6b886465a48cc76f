-- A case that is built of its parts: what they mean, and all of its faults in their order.
use Rattle.std.proofs.Common.{◌≡◌, ◌∙◌, ◌≤◌, ℕ, ap, refl, subst, sym, List, [], ◌++◌, append_assoc, map, nat_lt, Option}
use Rattle.std.specs.List.{enumerate_from, flat_map}
use Rattle.roster_bundle.specs.declared.bundle.Bundle.{Bundle}
use Rattle.roster_bundle.specs.declared.bundle.Nurse.{Nurse}
use Rattle.roster_bundle.specs.declared.bundle.WeekData.{WeekData}
use Rattle.roster_instance.specs.declared.fault.CaseFault.{CaseFault}
use Rattle.roster_instance.specs.declared.fault.CaseFault.TheVariants.{TooManyStates}
use Rattle.roster_instance.specs.declared.rules.Past.{Past}
use Rattle.roster_instance.specs.declared.scenario.Scenario.{Scenario}
use Rattle.roster_instance.specs.Bundles.{meaning_of, past_meant, week_meant}
use Rattle.roster_instance.specs.CaseParts.{HasFewStates, IsScenarioOf, case_of, case_with, faults_after, known_of}
use Rattle.roster_instance.specs.Checking.{IsFirst}
use Rattle.roster_instance.specs.Faults.{fault_if}
use Rattle.roster_instance.specs.Meaning.{WeekFacts}
use Rattle.roster_instance.specs.Names.{nurse_names, shift_names, skill_names}
use Rattle.roster_instance.specs.Refusals.{known_in, case_faults, history_faults, scenario_faults, state_fault, week_faults}
use Rattle.roster_instance.specs.Limits.{most_states}
use Rattle.roster_instance.specs.Rosters.{Rows}
use Rattle.roster_instance.specs.Sizes.{state_count}
use Rattle.roster_instance.proofs.Sections.{IsFirst-after, IsFirst-front, both_none}

-- the number of states doesn't depend on the history, on the weeks, or on a roster that is kept
pub states_alike : (s : Scenario) (past : List (Option Past)) (weeks : List WeekFacts) (base : Rows) (keep n : ℕ) → state_count (case_with s past weeks base keep) n ≡ state_count (case_of s [] []) n
unfolding state_count
states_alike s past weeks base keep n = refl

pub few_states : (s : Scenario) (past : List (Option Past)) (weeks : List WeekFacts) (base : Rows) (keep : ℕ) → HasFewStates (case_of s [] []) → HasFewStates (case_with s past weeks base keep)
few_states s past weeks base keep few = λ n within. subst (λ k. k ≤ most_states) (sym (states_alike s past weeks base keep n)) (few n within)

pub few_states_with : (s : Scenario) (past : List (Option Past)) (weeks : List WeekFacts) (base other : Rows) (keep more : ℕ) → HasFewStates (case_with s past weeks base keep) → HasFewStates (case_with s past weeks other more)
few_states_with s past weeks base other keep more few =
    λ n within. subst (λ k. k ≤ most_states) (states_alike s past weeks base keep n ∙ sym (states_alike s past weeks other more n)) (few n within)

module _ (source : List ℕ) (b : Bundle) (s : Scenario) (is : IsScenarioOf source b s) where
  abbrev past_faults : List CaseFault
  past_faults = history_faults (known_of source s) b.history

  abbrev faults_of_weeks : List CaseFault
  faults_of_weeks = flat_map (week_faults (known_of source s)) b.week_data

  abbrev faults_of_states : List CaseFault
  faults_of_states = flat_map (state_fault (case_of s [] [])) (enumerate_from 0 b.scenario.nurses.items)

  abbrev weeks_in : List WeekData → List WeekFacts
  weeks_in ws = map (week_meant source s.shifts s.skills s.nurses) ws

  pub case_is : (past : List (Option Past)) (weeks : List WeekFacts) → past ≡ past_meant source s.nurses s.shifts b.history.nurses → weeks ≡ weeks_in b.week_data → case_of s past weeks ≡ meaning_of source b
  unfolding meaning_of
  case_is past weeks past_is weeks_are =
      let there : past ≡ past_meant source (nurse_names source b) (shift_names source b) b.history.nurses =
      past_is ∙ (λ i. past_meant source (is.nurses_are i) (is.shifts_are i) b.history.nurses) in
      let those : weeks ≡ map (week_meant source (shift_names source b) (skill_names source b) (nurse_names source b)) b.week_data =
      weeks_are ∙ (λ i. map (week_meant source (is.shifts_are i) (is.skills_are i) (is.nurses_are i)) b.week_data) in
      λ i. record {
        name = is.name_is i;
        skill_names = is.skills_are i;
        shift_names = is.shifts_are i;
        runs = is.runs_are i;
        successions = is.successions_are i;
        contract_names = is.contracts_are i;
        contracts = is.rules_are i;
        nurse_names = is.nurses_are i;
        nurses = is.facts_are i;
        past = there i;
        weeks = those i;
        base = [];
        keep = 0;
      }

  states_are : (n : ℕ) → state_count (case_of s [] []) n ≡ state_count (meaning_of source b) n
  states_are n =
      let past = past_meant source s.nurses s.shifts b.history.nurses in
      sym (states_alike s past (weeks_in b.week_data) [] 0 n) ∙ ap (λ c. state_count c n) (case_is past (weeks_in b.week_data) refl refl)

  -- the names that the scenario gives are those of the bundle's scenario
  known_same : known_of source s ≡ known_in source b
  known_same = λ i. record {
    source = source;
    name = is.name_is i;
    nurses = is.nurses_are i;
    shifts = is.shifts_are i;
    skills = is.skills_are i;
  }

  past_same : past_faults ≡ history_faults (known_in source b) b.history
  past_same = ap (λ known. history_faults known b.history) known_same

  weeks_same : faults_of_weeks ≡ flat_map (week_faults (known_in source b)) b.week_data
  weeks_same = ap (λ known. flat_map (week_faults known) b.week_data) known_same

  states_same : faults_of_states ≡ flat_map (state_fault (meaning_of source b)) (enumerate_from 0 b.scenario.nurses.items)
  states_same = λ i. flat_map (λ (n : ℕ × Nurse). fault_if (nat_lt most_states (states_are n.0 i)) (TooManyStates n.0 n.1.name)) (enumerate_from 0 b.scenario.nurses.items)

  -- the faults of the scenario and those after it are all faults of the case
  all_same : scenario_faults source b ++ faults_after source b s ≡ case_faults source b
  unfolding case_faults
  all_same =
      sym (append_assoc (scenario_faults source b) (past_faults ++ faults_of_weeks) faults_of_states)
      ∙ ap (λ fs. fs ++ faults_of_states) (sym (append_assoc (scenario_faults source b) past_faults faults_of_weeks))
      ∙ (λ i. scenario_faults source b ++ past_same i ++ weeks_same i ++ states_same i)

  module _ (none : scenario_faults source b ≡ []) where
    pub first_after : (f : CaseFault) → IsFirst (faults_after source b s) f → IsFirst (case_faults source b) f
    first_after f first = subst (λ fs. IsFirst fs f) all_same (IsFirst-after (scenario_faults source b) (faults_after source b s) f none first)

    pub none_at_all : faults_after source b s ≡ [] → case_faults source b ≡ []
    none_at_all none_after = sym all_same ∙ both_none (scenario_faults source b) (faults_after source b s) none none_after

pub first_of_scenario : (source : List ℕ) (b : Bundle) (f : CaseFault) → IsFirst (scenario_faults source b) f → IsFirst (case_faults source b) f
unfolding case_faults
first_of_scenario source b f first = IsFirst-front _ _ f (IsFirst-front _ _ f (IsFirst-front (scenario_faults source b) _ f first))
