-- The lines of breaches, by what the program has for their fields.
use Rattle.std.proofs.Common.{◌≡◌, ◌∙◌, ◌+◌, ◌*◌, ◌<◌, ◌/◌, ◌%◌, ◌++◌, ◌∷◌, [], ℕ, Bool, List, ap, ap₂, append-nil, codes, nat_lt, refl, slice_index_or, sym, true}
use Rattle.std.proofs.lemmas.List.Concat.{flat_map-append}
use Rattle.roster_bundle.specs.Canonical.{weekday_text}
use Rattle.roster_instance.specs.Faults.{fault_if}
use Rattle.roster_instance.specs.Meaning.{Meaning, minimum, nurse_name, shift_at, skill_at}
use Rattle.roster_instance.specs.Rosters.{Rows}
use Rattle.roster_instance.specs.declared.choice.Shift.{Shift}
use Rattle.roster_instance.specs.declared.choice.Skill.{Skill}
use Rattle.roster_rules.specs.Covers.{AreCovers}
use Rattle.roster_rules.specs.HardRules.{hard_faults, staffing_fault, staffing_faults, succession_faults, skill_faults, absence_faults}
use Rattle.roster_rules.specs.declared.fault.HardFault.{HardFault}
use Rattle.roster_rules.specs.declared.fault.HardFault.TheVariants.{H2}
use Rattle.roster_reports.specs.Lines.{Text, shift_name, skill_name}
use Rattle.roster_json.specs.Json.{name, number, object_line}
use Rattle.roster_json.specs.Breaches.{breach_line, breach_of, breaches_text, nurse_line, rule_word}
use Rattle.roster_json.specs.declared.breaches.NurseRule.{NurseRule}
use Rattle.roster_json.specs.declared.breaches.NurseRule.TheVariants as rule

-- a breach that is there has its line
pub one_line : (c : Meaning) (b : Bool) (f : HardFault) → b ≡ true → breach_line c f ≡ breaches_text c (fault_if b f)
one_line c b f e = sym (append-nil (breach_line c f)) ∙ ap (λ x. breaches_text c (fault_if x f)) (sym e)

-- a slot with these names
abbrev pub slot_named : (day : ℕ) → Text → Shift → Text → Skill → Text → (have need : ℕ) → Text
slot_named day weekday shift shift_text skill skill_text have need =
    object_line (codes "breach")
    (name (codes "rule") (codes "H2") ∷ number (codes "day") day ∷ number (codes "week") (day / 7) ∷ name (codes "weekday") weekday ∷ number (codes "shift") shift.0
    ∷ name (codes "shift_name") shift_text ∷ number (codes "skill") skill.0 ∷ name (codes "skill_name") skill_text ∷ number (codes "have") have ∷ number (codes "need") need ∷ [])

pub slot_is : (c : Meaning) (day : ℕ) (shift : Shift) (skill : Skill) (have need least : ℕ) (weekday shift_text skill_text : Text)
    → weekday ≡ weekday_text (day % 7) → shift_text ≡ shift_name c shift.0 → skill_text ≡ skill_name c skill.0 → need ≡ least
    → slot_named day weekday shift shift_text skill skill_text have need ≡ breach_line c (H2 day shift skill have least)
slot_is c day shift skill have need least weekday shift_text skill_text w s k n =
    ap₂ (λ x m. slot_named day x shift shift_text skill skill_text have m) w n ∙ ap₂ (λ x y. slot_named day (weekday_text (day % 7)) shift x skill y have least) s k

-- a slot by its table
pub slot_by_table : (c : Meaning) (r : Rows) (d : ℕ) (counts : List ℕ) → AreCovers r d counts → (s k slot : ℕ) → s < 8 → k < 8 → slot ≡ 8 * s + k
    → fault_if (nat_lt (slice_index_or counts slot 0) (minimum c d s k)) (H2 d (shift_at s) (skill_at k) (slice_index_or counts slot 0) (minimum c d s k)) ≡ staffing_fault c r d s k
slot_by_table c r d counts counted s k slot s_in k_in slot_is =
    ap (λ have. fault_if (nat_lt have (minimum c d s k)) (H2 d (shift_at s) (skill_at k) have (minimum c d s k))) (ap (λ i. slice_index_or counts i 0) slot_is ∙ counted s k s_in k_in)

-- a nurse's breach with these names
abbrev pub nurse_named : Text → (day : ℕ) → Text → (nurse : ℕ) → Text → Text
nurse_named word day weekday nurse text =
    object_line (codes "breach")
    (name (codes "rule") word ∷ number (codes "day") day ∷ number (codes "week") (day / 7) ∷ name (codes "weekday") weekday ∷ number (codes "nurse") nurse ∷ name (codes "nurse_name") text ∷ [])

line_of : (c : Meaning) (rule : NurseRule) (nurse day : ℕ) → nurse_line c (rule_word rule) nurse day ≡ breach_line c (breach_of rule nurse day)
line_of c rule.Succession nurse day = refl
line_of c rule.Skill nurse day = refl
line_of c rule.Absence nurse day = refl

pub nurse_is : (c : Meaning) (rule : NurseRule) (nurse day : ℕ) (word weekday text : Text) → word ≡ rule_word rule → weekday ≡ weekday_text (day % 7) → text ≡ nurse_name c nurse
    → nurse_named word day weekday nurse text ≡ breach_line c (breach_of rule nurse day)
nurse_is c rule nurse day word weekday text r w t =
    ap₂ (λ x y. nurse_named x day y nurse text) r w ∙ ap (λ x. nurse_named (rule_word rule) day (weekday_text (day % 7)) nurse x) t ∙ line_of c rule nurse day

-- the lines of the four rules, one after the other
pub all_lines : (c : Meaning) (r : Rows) → breaches_text c (hard_faults c r)
    ≡ breaches_text c (staffing_faults c r) ++ breaches_text c (succession_faults c r) ++ breaches_text c (skill_faults c r) ++ breaches_text c (absence_faults c r)
unfolding hard_faults
all_lines c r =
    let g = breach_line c in
    flat_map-append g (staffing_faults c r ++ succession_faults c r ++ skill_faults c r) (absence_faults c r)
    ∙ ap (λ l. l ++ breaches_text c (absence_faults c r))
    (flat_map-append g (staffing_faults c r ++ succession_faults c r) (skill_faults c r)
    ∙ ap (λ l. l ++ breaches_text c (skill_faults c r)) (flat_map-append g (staffing_faults c r) (succession_faults c r)))
