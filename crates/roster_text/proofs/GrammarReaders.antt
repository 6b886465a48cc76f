-- The readers of the sections of the four texts, field by field.
use Rattle.std.proofs.Common.{◌≡◌, ◌<◌, inl, inr, ℕ, zero, suc, true, false, List, [], ◌∷◌, ◌++◌, Option, Some, None, length, Ok, refl, sym, ap, ◌∙◌, append_assoc, codes, arith}
use Rattle.std.proofs.lemmas.List.{append-nil}
use Rattle.std.specs.List.{flat_map}
use Rattle.std.specs.Str.{bytes_eq}
use Rattle.roster_bundle.specs.declared.bundle.Bundle.{Bundle}
use Rattle.roster_bundle.specs.declared.bundle.History.{History}
use Rattle.roster_bundle.specs.declared.bundle.Listed.{Listed}
use Rattle.roster_bundle.specs.declared.bundle.Number.{Number}
use Rattle.roster_bundle.specs.declared.bundle.NurseDay.{NurseDay}
use Rattle.roster_bundle.specs.declared.bundle.Request.{Request}
use Rattle.roster_bundle.specs.declared.bundle.Requirement.{Requirement}
use Rattle.roster_bundle.specs.declared.bundle.Scenario.{Scenario}
use Rattle.roster_bundle.specs.declared.bundle.Solution.{Solution}
use Rattle.roster_bundle.specs.declared.bundle.Succession.{Succession}
use Rattle.roster_bundle.specs.declared.bundle.WeekData.{WeekData}
use Rattle.roster_text.specs.declared.fault.Keyword.{Keyword}
use Rattle.roster_text.specs.declared.fault.Keyword.TheVariants as keyword
use Rattle.roster_text.specs.declared.fault.What.{What}
use Rattle.roster_text.specs.declared.fault.What.TheVariants as what
use Rattle.roster_bundle.specs.declared.token.Token.{Token}
use Rattle.roster_bundle.specs.Token.{Seen, is_mark}
use Rattle.roster_text.specs.Words.{keyword_text}
use Rattle.roster_text.specs.Grammar as grammar
use Rattle.roster_text.specs.Grammar.{Pattern, Fits, fixed, name, number, placed, day, named, small, is_number}
use Rattle.roster_text.specs.FirstFault.{wants_number}
use Rattle.roster_text.specs.Reading.{Read, ◌>>=◌, word_at, name_at, number_at, value_at, small_at, day_at, times_at, listed_at, key_at, until_at, pair_at, shift_type_at, succession_at, contract_at, nurse_at, title_at, scenario_at, nurse_history_at, history_at, week_pairs_at, requirement_at, request_at, nurse_day_at, optional_at, week_data_at, assignment_at, solution_at, bundle_at}
use Rattle.roster_text.proofs.Readers.{Reader, done_reader, then}
use Rattle.roster_text.proofs.OneToken.{one_reader, name_one, placed_one, value_one, zero_seen, zero_fits, day_one}
use Rattle.roster_text.proofs.UntilSection.{Start, LineFrom, Lines, no_equals_name, until_reader}
use Rattle.roster_text.proofs.OptionalSection.{BeginsOther, outcome, with_read, optional_reader}
use Rattle.roster_text.proofs.Several.{AreMany, every, with_fact, with_patterns, then_word, name_reader, names_reader, section_reader, listed_reader, times_reader}
use Rattle.roster_bundle.specs.Limits.{most_counted, most_small}

-- a field, and then the rest
step : {A B : Type 0} {patA : A → List Pattern} {readA : List Seen → Read A} → Reader every patA readA → {V : B → Type 0} (get : B → A) {patB : B → List Pattern} {k : A → List Seen → Read B} → ((a : A) → Reader (λ b. V b × (get b ≡ a)) patB (k a))
    → Reader V (λ b. patA (get b) ++ patB b) (λ ts. readA ts >>= λ x. k x.0 x.1)
step {A} {B} {patA} {readA} first {V} get {patB} {k} rest = then every patA readA first V get (λ b v. tt) patB k (λ a v. rest a)

-- a word, and then the rest
word : {B : Type 0} {V : B → Type 0} (due : What) (text : List ℕ) → wants_number due ≡ false → {pat : B → List Pattern} {k : List Seen → Read B} → Reader V pat k → Reader V (λ b. fixed due text ∷ pat b) (λ ts. word_at due text ts >>= λ x. k x.1)
word {B} {V} due text no_number {pat} {k} r = then_word V due text no_number pat k r

-- all fields have been read
done : {B : Type 0} {V : B → Type 0} (b : B) → V b → ((x : B) → V x → x ≡ b) → Reader V (λ _. []) (λ ts. Ok (b, ts))
done {B} {V} b valid only = done_reader V b valid only

small_reader : Reader every small small_at
small_reader = one_reader (number most_small) (value_at most_small) (value_one most_small)

day_reader : Reader every (λ d. day d ∷ []) day_at
day_reader = one_reader day day_at day_one

pair_reader : Reader every grammar.pair pair_at
unfolding pair_at
pair_reader =
    word what.Open (codes "(") refl (step small_reader (λ b. b.least) (λ least.
    word what.Comma (codes ",") refl (step small_reader (λ b. b.greatest) (λ greatest.
    word what.Close (codes ")") refl (done (record { least = least; greatest = greatest }) ((tt, refl), refl) (λ b v i. record { least = v.0.1 i; greatest = v.1 i }))))))

shift_type_reader : Reader every grammar.shift_type shift_type_at
unfolding shift_type_at
shift_type_reader =
    step name_reader (λ b. b.name) (λ name.
    step pair_reader (λ b. b.run) (λ run.
    done (record { name = name; run = run }) ((tt, refl), refl) (λ b v i. record { name = v.0.1 i; run = v.1 i })))

flag_reader : Reader every (λ n. number 1 n ∷ []) (value_at 1)
flag_reader = one_reader (number 1) (value_at 1) (value_one 1)

placed_reader : (limit : ℕ) → Reader every (λ (n : Number). placed n.token limit n.value ∷ []) (number_at limit)
placed_reader limit = one_reader (λ (n : Number). placed n.token limit n.value) (number_at limit) (placed_one limit)

-- n items of a kind, and then the rest
many : {A B : Type 0} {pat : A → List Pattern} {read : List Seen → Read A} → Reader every pat read → (n : ℕ) {V : B → Type 0} (get : B → List A) → ((b : B) → V b → length (get b) ≡ n) → {patB : B → List Pattern} {k : List A → List Seen → Read B} → ((xs : List A) → length xs ≡ n → Reader (λ b. V b × (get b ≡ xs)) patB (k xs))
    → Reader V (λ b. flat_map pat (get b) ++ patB b) (λ ts. times_at read n ts >>= λ x. k x.0 x.1)
many {A} {B} {pat} {read} item n {V} get valid {patB} {k} rest = then (AreMany n) (flat_map pat) (times_at read n) (times_reader pat read item n) V get valid patB k rest

-- ---- the scenario

succession_reader : Reader every grammar.succession succession_at
unfolding succession_at
succession_reader =
    step name_reader (λ b. b.shift) (λ shift.
    step names_reader (λ b. b.forbidden) (λ forbidden.
    done (record { shift = shift; forbidden = forbidden }) ((tt, refl), refl) (λ b v i. record { shift = v.0.1 i; forbidden = v.1 i })))

contract_reader : Reader every grammar.contract contract_at
unfolding contract_at
contract_reader =
    step name_reader (λ b. b.name) (λ name.
    step pair_reader (λ b. b.total) (λ total.
    step pair_reader (λ b. b.working) (λ working.
    step pair_reader (λ b. b.free) (λ free.
    step small_reader (λ b. b.weekends) (λ weekends.
    step flag_reader (λ b. b.complete_weekends) (λ flag.
    done (record { name = name; total = total; working = working; free = free; weekends = weekends; complete_weekends = flag }) ((((((tt, refl), refl), refl), refl), refl), refl)
    (λ b v i. record { name = v.0.0.0.0.0.1 i; total = v.0.0.0.0.1 i; working = v.0.0.0.1 i; free = v.0.0.1 i; weekends = v.0.1 i; complete_weekends = v.1 i })))))))

nurse_reader : Reader every grammar.nurse nurse_at
unfolding nurse_at
nurse_reader =
    step name_reader (λ b. b.name) (λ name.
    step name_reader (λ b. b.contract) (λ contract.
    step names_reader (λ b. b.skills) (λ skills.
    done (record { name = name; contract = contract; skills = skills }) (((tt, refl), refl), refl) (λ b v i. record { name = v.0.0.1 i; contract = v.0.1 i; skills = v.1 i }))))

no_equals_number : (limit n : ℕ) (t : Seen) → Fits (number limit n) t → t.text ≡ codes "=" → ⊥
unfolding is_mark
no_equals_number limit n t f e = let no : is_number (codes "=") ≡ true = sym (ap is_number e) ∙ f.0 in let bad : false ≡ true = no in cc

succession_lines : Lines grammar.succession what.Number
succession_lines = record { starts = start; any = line }
  where
    start : (s : Succession) → Start what.Number (grammar.succession s)
    start s = record { lead = s.shift; next = number most_counted (length s.forbidden); rest = (flat_map named s.forbidden ++ []) ++ []; is = refl; labelled = refl; no_equals = no_equals_number most_counted (length s.forbidden) }

    line : (t : Token) → LineFrom grammar.succession what.Number t
    line t = record { value = record { shift = t; forbidden = [] }; start = start (record { shift = t; forbidden = [] }); lead = refl; more = zero_seen ∷ []; spelled = (zero_fits most_counted, tt) }

successions_reader : Reader every (grammar.lines_until keyword.Contracts what.Number grammar.succession) (until_at succession_at keyword.Contracts)
successions_reader = until_reader grammar.succession succession_at succession_reader keyword.Contracts what.Number succession_lines

-- the scenario's name and its number of weeks
abbrev title : Token × Number → List Pattern
title t = grammar.parts (
    grammar.key keyword.Scenario ∷ grammar.equals ∷ named t.0
    ∷ grammar.key keyword.Weeks ∷ grammar.equals ∷ (placed t.1.token most_counted t.1.value ∷ []) ∷ [])

title_reader : Reader every title title_at
unfolding title_at
title_reader =
    word (what.Keyword keyword.Scenario) (keyword_text keyword.Scenario) refl (word what.Equals (codes "=") refl (step name_reader (λ b. b.0) (λ name.
    word (what.Keyword keyword.Weeks) (keyword_text keyword.Weeks) refl (word what.Equals (codes "=") refl (step (placed_reader most_counted) (λ b. b.1) (λ weeks.
    done (name, weeks) ((tt, refl), refl) (λ b v i. (v.0.1 i, v.1 i))))))))

scenario_reader : Reader every grammar.scenario scenario_at
unfolding scenario_at
scenario_reader =
    step title_reader (λ b. (b.name, b.weeks)) (λ title.
    step (section_reader named name_at name_reader keyword.Skills) (λ b. b.skills) (λ skills.
    step (section_reader grammar.shift_type shift_type_at shift_type_reader keyword.ShiftTypes) (λ b. b.shifts) (λ shifts.
    word (what.Keyword keyword.Successions) (keyword_text keyword.Successions) refl (step successions_reader (λ b. b.successions) (λ successions.
    step (listed_reader grammar.contract contract_at contract_reader) (λ b. b.contracts) (λ contracts.
    step (section_reader grammar.nurse nurse_at nurse_reader keyword.Nurses) (λ b. b.nurses) (λ nurses.
    done (record { name = title.0; weeks = title.1; skills = skills; shifts = shifts; successions = successions; contracts = contracts; nurses = nurses }) ((((((tt, refl), refl), refl), refl), refl), refl)
    (λ b v i. record { name = (v.0.0.0.0.0.1 i).0; weeks = (v.0.0.0.0.0.1 i).1; skills = v.0.0.0.0.1 i; shifts = v.0.0.0.1 i; successions = v.0.0.1 i; contracts = v.0.1 i; nurses = v.1 i }))))))))

-- ---- the history

nurse_history_reader : Reader every grammar.nurse_history nurse_history_at
unfolding nurse_history_at
nurse_history_reader =
    step name_reader (λ b. b.nurse) (λ nurse.
    step small_reader (λ b. b.assignments) (λ assignments.
    step small_reader (λ b. b.weekends) (λ weekends.
    step name_reader (λ b. b.last_shift) (λ last.
    step small_reader (λ b. b.shift_run) (λ shift_run.
    step small_reader (λ b. b.working_run) (λ working_run.
    step small_reader (λ b. b.free_run) (λ free_run.
    done (record { nurse = nurse; assignments = assignments; weekends = weekends; last_shift = last; shift_run = shift_run; working_run = working_run; free_run = free_run }) (((((((tt, refl), refl), refl), refl), refl), refl), refl)
    (λ b v i. record { nurse = v.0.0.0.0.0.0.1 i; assignments = v.0.0.0.0.0.1 i; weekends = v.0.0.0.0.1 i; last_shift = v.0.0.0.1 i; shift_run = v.0.0.1 i; working_run = v.0.1 i; free_run = v.1 i }))))))))

abbrev HasLines : ℕ → History → Type 0
HasLines n h = length h.nurses ≡ n

history_reader : (lines : ℕ) → Reader (HasLines lines) grammar.history (history_at lines)
unfolding history_at
history_reader lines =
    word (what.Keyword keyword.History) (keyword_text keyword.History) refl (step (placed_reader most_small) (λ b. b.week) (λ week.
    step name_reader (λ b. b.scenario) (λ scenario.
    word (what.Keyword keyword.NurseHistory) (keyword_text keyword.NurseHistory) refl (many nurse_history_reader lines (λ b. b.nurses) (λ b v. v.0.0) (λ nurses len.
    done (record { week = week; scenario = scenario; nurses = nurses }) (((len, refl), refl), refl) (λ b v i. record { week = v.0.0.1 i; scenario = v.0.1 i; nurses = v.1 i }))))))

-- ---- the weeks

week_pairs_reader : Reader every grammar.week_pairs week_pairs_at
unfolding week_pairs_at
week_pairs_reader =
    step pair_reader (λ b. b.monday) (λ monday.
    step pair_reader (λ b. b.tuesday) (λ tuesday.
    step pair_reader (λ b. b.wednesday) (λ wednesday.
    step pair_reader (λ b. b.thursday) (λ thursday.
    step pair_reader (λ b. b.friday) (λ friday.
    step pair_reader (λ b. b.saturday) (λ saturday.
    step pair_reader (λ b. b.sunday) (λ sunday.
    done (record { monday = monday; tuesday = tuesday; wednesday = wednesday; thursday = thursday; friday = friday; saturday = saturday; sunday = sunday }) (((((((tt, refl), refl), refl), refl), refl), refl), refl)
    (λ b v i. record { monday = v.0.0.0.0.0.0.1 i; tuesday = v.0.0.0.0.0.1 i; wednesday = v.0.0.0.0.1 i; thursday = v.0.0.0.1 i; friday = v.0.0.1 i; saturday = v.0.1 i; sunday = v.1 i }))))))))

requirement_reader : Reader every grammar.requirement requirement_at
unfolding requirement_at
requirement_reader =
    step name_reader (λ b. b.shift) (λ shift.
    step name_reader (λ b. b.skill) (λ skill.
    step week_pairs_reader (λ b. b.days) (λ days.
    done (record { shift = shift; skill = skill; days = days }) (((tt, refl), refl), refl) (λ b v i. record { shift = v.0.0.1 i; skill = v.0.1 i; days = v.1 i }))))

requirement_lines : Lines grammar.requirement what.Name
requirement_lines = record { starts = start; any = line }
  where
    start : (r : Requirement) → Start what.Name (grammar.requirement r)
    start r = record { lead = r.shift; next = name r.skill; rest = grammar.week_pairs r.days ++ []; is = refl; labelled = refl; no_equals = no_equals_name r.skill }

    line : (t : Token) → LineFrom grammar.requirement what.Name t
    line t = record {
      value = record { shift = t; skill = name_one.value; days = week_pairs_reader.some.value };
      start = start (record { shift = t; skill = name_one.value; days = week_pairs_reader.some.value });
      lead = refl;
      more = name_one.token ∷ week_pairs_reader.some.tokens;
      spelled = (name_one.example, week_pairs_reader.some.spelled);
    }

requirements_reader : Reader every (grammar.lines_until keyword.ShiftOffRequests what.Name grammar.requirement) (until_at requirement_at keyword.ShiftOffRequests)
requirements_reader = until_reader grammar.requirement requirement_at requirement_reader keyword.ShiftOffRequests what.Name requirement_lines

request_reader : Reader every grammar.request request_at
unfolding request_at
request_reader =
    step name_reader (λ b. b.nurse) (λ nurse.
    step name_reader (λ b. b.shift) (λ shift.
    step day_reader (λ b. b.day) (λ day.
    done (record { nurse = nurse; shift = shift; day = day }) (((tt, refl), refl), refl) (λ b v i. record { nurse = v.0.0.1 i; shift = v.0.1 i; day = v.1 i }))))

nurse_day_reader : Reader every grammar.nurse_day nurse_day_at
unfolding nurse_day_at
nurse_day_reader =
    step name_reader (λ b. b.nurse) (λ nurse.
    step day_reader (λ b. b.day) (λ day.
    done (record { nurse = nurse; day = day }) ((tt, refl), refl) (λ b v i. record { nurse = v.0.1 i; day = v.1 i })))

-- the patterns begin with this keyword
record BeginsWith (k : Keyword) (ps : List Pattern) : Type 0 where
  rest : List Pattern
  is : ps ≡ fixed (what.Keyword k) (keyword_text k) ∷ rest

-- the keywords that may follow a week; none of them begins a section of wishes, of absences or of fixed days
data FollowsWeek : Keyword → Type 0 where
  solutions : FollowsWeek keyword.Solution
  week : FollowsWeek keyword.WeekData

no_wishes : (k : Keyword) → FollowsWeek k → keyword_text k ≡ keyword_text keyword.ShiftOnRequests → ⊥
no_wishes _ solutions e = cc
no_wishes _ week e = cc

no_absences : (k : Keyword) → FollowsWeek k → keyword_text k ≡ keyword_text keyword.Absences → ⊥
no_absences _ solutions e = let bad : false ≡ true = ap (λ text. bytes_eq text (codes "SOLUTION")) (sym e) in cc
no_absences _ week e = cc

no_fixed : (k : Keyword) → FollowsWeek k → keyword_text k ≡ keyword_text keyword.Fixed → ⊥
no_fixed _ solutions e = cc
no_fixed _ week e = cc

-- fixed days, and what follows a week, don't begin as a section with another keyword does
fixed_begin : (k after : Keyword) → (keyword_text keyword.Fixed ≡ keyword_text k → ⊥) → (keyword_text after ≡ keyword_text k → ⊥)
    → (o : Option (Listed NurseDay)) (ps : List Pattern) → BeginsWith after ps → BeginsOther k after (grammar.optional_section keyword.Fixed after grammar.nurse_day o ++ ps)
fixed_begin k after not_fixed not_after None ps begins = record { text = keyword_text after; rest = begins.rest; is = begins.is; other = not_after }
fixed_begin k after not_fixed not_after (Some xs) ps begins = record { text = keyword_text keyword.Fixed; rest = _; is = refl; other = not_fixed }

-- what follows the wishes begins differently: it is the section of absences, or what follows that
absences_begin : (after : Keyword) → FollowsWeek after → (o : Option (Listed NurseDay)) (ps : List Pattern) → BeginsOther keyword.ShiftOnRequests after ps
    → BeginsOther keyword.ShiftOnRequests after (grammar.optional_section keyword.Absences after grammar.nurse_day o ++ ps)
absences_begin after is None ps begins = begins
absences_begin after is (Some xs) ps begins = record { text = keyword_text keyword.Absences; rest = _; is = refl; other = λ e. cc }

-- a week, and then a section that begins with the keyword after it
module _ (after : Keyword) (is : FollowsWeek after) {B : Type 0} (V : B → Type 0) (get : B → WeekData) (patB : B → List Pattern) (k : WeekData → List Seen → Read B)
    (begins : (b : B) → V b → BeginsWith after (patB b)) (rest : (w : WeekData) → Reader (λ b. V b × (get b ≡ w)) patB (k w)) where
  -- the fields read so far, without the wishes
  abbrev IsAsked : Token → List Requirement → Listed Request → B → Type 0
  IsAsked scenario requirements off b = ((V b × ((get b).scenario ≡ scenario)) × ((get b).requirements ≡ requirements)) × ((get b).off_requests ≡ off)

  -- the same with the wishes
  abbrev IsWished : Token → List Requirement → Listed Request → Option (Listed Request) → B → Type 0
  IsWished scenario requirements off on b = IsAsked scenario requirements off b × ((get b).on_requests ≡ on)

  -- the same with the absences
  abbrev IsAway : Token → List Requirement → Listed Request → Option (Listed Request) → Option (Listed NurseDay) → B → Type 0
  IsAway scenario requirements off on away b = IsWished scenario requirements off on b × ((get b).absences ≡ away)

  abbrev week_of : Token → List Requirement → Listed Request → Option (Listed Request) → Option (Listed NurseDay) → Option (Listed NurseDay) → WeekData
  week_of scenario requirements off on away stay = record { scenario = scenario; requirements = requirements; off_requests = off; on_requests = on; absences = away; fixed_days = stay }

  abbrev fixed_of : B → List Pattern
  fixed_of b = grammar.optional_section keyword.Fixed after grammar.nurse_day (get b).fixed_days ++ patB b

  abbrev absences_of : B → List Pattern
  absences_of b = grammar.optional_section keyword.Absences after grammar.nurse_day (get b).absences ++ fixed_of b

  abbrev by_fields : B → List Pattern
  by_fields b =
      fixed (what.Keyword keyword.WeekData) (keyword_text keyword.WeekData) ∷ name (get b).scenario ∷ fixed (what.Keyword keyword.Requirements) (keyword_text keyword.Requirements)
      ∷ (grammar.lines_until keyword.ShiftOffRequests what.Name grammar.requirement (get b).requirements
      ++ (grammar.rest_of_section grammar.request (get b).off_requests
      ++ (grammar.optional_section keyword.ShiftOnRequests after grammar.request (get b).on_requests ++ absences_of b)))

  abbrev field_by_field : List Seen → Read B
  field_by_field ts =
      word_at (what.Keyword keyword.WeekData) (keyword_text keyword.WeekData) ts >>= λ a. name_at a.1 >>= λ scenario.
      word_at (what.Keyword keyword.Requirements) (keyword_text keyword.Requirements) scenario.1 >>= λ b. until_at requirement_at keyword.ShiftOffRequests b.1 >>= λ requirements.
      listed_at request_at requirements.1 >>= λ off. optional_at keyword.ShiftOnRequests request_at off.1 >>= λ on.
      optional_at keyword.Absences nurse_day_at on.1 >>= λ away. optional_at keyword.Fixed nurse_day_at away.1 >>= λ stay.
      k (week_of scenario.0 requirements.0 off.0 on.0 away.0 stay.0) stay.1

  fixed_days : (scenario : Token) (requirements : List Requirement) (off : Listed Request) (on : Option (Listed Request)) (away : Option (Listed NurseDay))
      → Reader (IsAway scenario requirements off on away) fixed_of
      (λ ts. optional_at keyword.Fixed nurse_day_at ts >>= λ stay. k (week_of scenario requirements off on away stay.0) stay.1)
  fixed_days scenario requirements off on away =
      optional_reader grammar.nurse_day nurse_day_at nurse_day_reader keyword.Fixed after
      (IsAway scenario requirements off on away) (λ b. (get b).fixed_days) patB (λ stay ts. k (week_of scenario requirements off on away stay) ts)
      (λ b v. let x = begins b v.0.0.0.0.0 in record { text = keyword_text after; rest = x.rest; is = x.is; other = no_fixed after is })
      (λ stay. with_fact (λ b. V b × (get b ≡ week_of scenario requirements off on away stay)) (λ b. IsAway scenario requirements off on away b × ((get b).fixed_days ≡ stay)) patB (k (week_of scenario requirements off on away stay))
      (λ b v. ((((((v.0, λ i. (v.1 i).scenario), λ i. (v.1 i).requirements), λ i. (v.1 i).off_requests), λ i. (v.1 i).on_requests), λ i. (v.1 i).absences), λ i. (v.1 i).fixed_days))
      (λ b v. (v.0.0.0.0.0.0, λ i. record { scenario = v.0.0.0.0.0.1 i; requirements = v.0.0.0.0.1 i; off_requests = v.0.0.0.1 i; on_requests = v.0.0.1 i; absences = v.0.1 i; fixed_days = v.1 i }))
      (rest (week_of scenario requirements off on away stay)))

  absences : (scenario : Token) (requirements : List Requirement) (off : Listed Request) (on : Option (Listed Request))
      → Reader (IsWished scenario requirements off on) absences_of
      (λ ts. optional_at keyword.Absences nurse_day_at ts >>= λ away. optional_at keyword.Fixed nurse_day_at away.1 >>= λ stay. k (week_of scenario requirements off on away.0 stay.0) stay.1)
  absences scenario requirements off on =
      optional_reader grammar.nurse_day nurse_day_at nurse_day_reader keyword.Absences after
      (IsWished scenario requirements off on) (λ b. (get b).absences) fixed_of (λ away ts. optional_at keyword.Fixed nurse_day_at ts >>= λ stay. k (week_of scenario requirements off on away stay.0) stay.1)
      (λ b v. fixed_begin keyword.Absences after (λ e. cc) (no_absences after is) (get b).fixed_days (patB b) (begins b v.0.0.0.0)) (fixed_days scenario requirements off on)

  wishes : (scenario : Token) (requirements : List Requirement) (off : Listed Request)
      → Reader (IsAsked scenario requirements off) (λ b. grammar.optional_section keyword.ShiftOnRequests after grammar.request (get b).on_requests ++ absences_of b)
      (λ ts. optional_at keyword.ShiftOnRequests request_at ts >>= λ on. optional_at keyword.Absences nurse_day_at on.1 >>= λ away. optional_at keyword.Fixed nurse_day_at away.1 >>= λ stay.
      k (week_of scenario requirements off on.0 away.0 stay.0) stay.1)
  wishes scenario requirements off =
      optional_reader grammar.request request_at request_reader keyword.ShiftOnRequests after
      (IsAsked scenario requirements off) (λ b. (get b).on_requests) absences_of
      (λ on ts. optional_at keyword.Absences nurse_day_at ts >>= λ away. optional_at keyword.Fixed nurse_day_at away.1 >>= λ stay. k (week_of scenario requirements off on away.0 stay.0) stay.1)
      (λ b v. absences_begin after is (get b).absences (fixed_of b) (fixed_begin keyword.ShiftOnRequests after (λ e. cc) (no_wishes after is) (get b).fixed_days (patB b) (begins b v.0.0.0)))
      (absences scenario requirements off)

  same_patterns : (b : B) → V b → by_fields b ≡ grammar.week_data after (get b) ++ patB b
  same_patterns b v =
      let lines = grammar.lines_until keyword.ShiftOffRequests what.Name grammar.requirement (get b).requirements in
      let off = grammar.rest_of_section grammar.request (get b).off_requests in
      let on = grammar.optional_section keyword.ShiftOnRequests after grammar.request (get b).on_requests in
      let away = grammar.optional_section keyword.Absences after grammar.nurse_day (get b).absences in
      let stay = grammar.optional_section keyword.Fixed after grammar.nurse_day (get b).fixed_days in
      let last : stay ++ patB b ≡ (stay ++ []) ++ patB b = ap (λ (ps : List Pattern). ps ++ patB b) (sym (append-nil stay)) in
      let none : away ++ (stay ++ patB b) ≡ (away ++ (stay ++ [])) ++ patB b = ap (λ (ps : List Pattern). away ++ ps) last ∙ sym (append_assoc away (stay ++ []) (patB b)) in
      let one : on ++ (away ++ (stay ++ patB b)) ≡ (on ++ (away ++ (stay ++ []))) ++ patB b = ap (λ (ps : List Pattern). on ++ ps) none ∙ sym (append_assoc on (away ++ (stay ++ [])) (patB b)) in
      let two : off ++ (on ++ (away ++ (stay ++ patB b))) ≡ (off ++ (on ++ (away ++ (stay ++ [])))) ++ patB b = ap (λ (ps : List Pattern). off ++ ps) one ∙ sym (append_assoc off (on ++ (away ++ (stay ++ []))) (patB b)) in
      let all : lines ++ (off ++ (on ++ (away ++ (stay ++ patB b)))) ≡ (lines ++ (off ++ (on ++ (away ++ (stay ++ []))))) ++ patB b = ap (λ (ps : List Pattern). lines ++ ps) two ∙ sym (append_assoc lines (off ++ (on ++ (away ++ (stay ++ [])))) (patB b)) in
      ap (λ (ps : List Pattern). fixed (what.Keyword keyword.WeekData) (keyword_text keyword.WeekData) ∷ name (get b).scenario ∷ fixed (what.Keyword keyword.Requirements) (keyword_text keyword.Requirements) ∷ ps) all

  same_read : (ts : List Seen) → field_by_field ts ≡ (week_data_at ts >>= λ x. k x.0 x.1)
  unfolding week_data_at
  same_read ts =
      elim (outcome (key_at keyword.WeekData ts)) [
        | inl a ↦
            elim (outcome (name_at a.0.1)) [
              | inl scenario ↦
                  elim (outcome (key_at keyword.Requirements scenario.0.1)) [
                    | inl b ↦
                        elim (outcome (until_at requirement_at keyword.ShiftOffRequests b.0.1)) [
                          | inl requirements ↦
                              elim (outcome (listed_at request_at requirements.0.1)) [
                                | inl off ↦
                                    elim (outcome (optional_at keyword.ShiftOnRequests request_at off.0.1)) [
                                      | inl on ↦
                                          elim (outcome (optional_at keyword.Absences nurse_day_at on.0.1)) [
                                            | inl away ↦
                                                elim (outcome (optional_at keyword.Fixed nurse_day_at away.0.1)) [
                                                  | inl stay ↦ rw (a.1, scenario.1, b.1, requirements.1, off.1, on.1, away.1, stay.1) refl
                                                  | inr d ↦ rw (a.1, scenario.1, b.1, requirements.1, off.1, on.1, away.1, d.1) refl
                                                ]
                                            | inr d ↦ rw (a.1, scenario.1, b.1, requirements.1, off.1, on.1, d.1) refl
                                          ]
                                      | inr d ↦ rw (a.1, scenario.1, b.1, requirements.1, off.1, d.1) refl
                                    ]
                                | inr d ↦ rw (a.1, scenario.1, b.1, requirements.1, d.1) refl
                              ]
                          | inr d ↦ rw (a.1, scenario.1, b.1, d.1) refl
                        ]
                    | inr d ↦ rw (a.1, scenario.1, d.1) refl
                  ]
              | inr d ↦ rw (a.1, d.1) refl
            ]
        | inr d ↦ rw d.1 refl
      ]

  week_step : Reader V (λ b. grammar.week_data after (get b) ++ patB b) (λ ts. week_data_at ts >>= λ x. k x.0 x.1)
  week_step =
      with_patterns V by_fields (λ b. grammar.week_data after (get b) ++ patB b) (λ ts. week_data_at ts >>= λ x. k x.0 x.1) same_patterns
      (with_read field_by_field (λ ts. week_data_at ts >>= λ x. k x.0 x.1) same_read
      (word (what.Keyword keyword.WeekData) (keyword_text keyword.WeekData) refl (step name_reader (λ b. (get b).scenario) (λ scenario.
      word (what.Keyword keyword.Requirements) (keyword_text keyword.Requirements) refl (step requirements_reader (λ b. (get b).requirements) (λ requirements.
      step (listed_reader grammar.request request_at request_reader) (λ b. (get b).off_requests) (λ off. wishes scenario requirements off)))))))

-- the first week and the others, if there is one
abbrev first_or : WeekData → List WeekData → WeekData
first_or d [] = d
first_or d (w ∷ ws) = w

abbrev later : List WeekData → List WeekData
later [] = []
later (w ∷ ws) = ws

-- some week
example : WeekData
example = record { scenario = name_one.value; requirements = requirements_reader.some.value; off_requests = (listed_reader grammar.request request_at request_reader).some.value; on_requests = None; absences = None; fixed_days = None }

no_weeks : (ws : List WeekData) → length ws ≡ 0 → ws ≡ []
no_weeks [] e = refl
no_weeks (w ∷ ws) e = absurd (omega arith)

later_many : (n : ℕ) (ws : List WeekData) → length ws ≡ suc n → length (later ws) ≡ n
later_many n [] e = absurd (omega arith)
later_many n (w ∷ ws) e = omega (arith, e)

made_of : (d w : WeekData) (n : ℕ) (ws b : List WeekData) → length b ≡ suc n → first_or d b ≡ w → later b ≡ ws → b ≡ w ∷ ws
made_of d w n ws [] len e f = absurd (omega arith)
made_of d w n ws (x ∷ b) len e f = λ i. e i ∷ f i

-- the keyword after a week that is followed by n others
abbrev keyword_after : ℕ → Keyword
keyword_after zero = keyword.Solution
keyword_after (suc n) = keyword.WeekData

follows : (n : ℕ) → FollowsWeek (keyword_after n)
follows zero = solutions
follows (suc n) = week

after_is : (n : ℕ) (ws : List WeekData) → length ws ≡ n → grammar.after_week ws ≡ keyword_after n
after_is zero [] e = refl
after_is zero (w ∷ ws) e = absurd (omega arith)
after_is (suc n) [] e = absurd (omega arith)
after_is (suc n) (w ∷ ws) e = refl

weeks_begin : (n : ℕ) (ws : List WeekData) (ps : List Pattern) → length ws ≡ n → BeginsWith keyword.Solution ps → BeginsWith (keyword_after n) (grammar.weeks ws ++ ps)
weeks_begin zero [] ps e begins = begins
weeks_begin zero (w ∷ ws) ps e begins = absurd (omega arith)
weeks_begin (suc n) [] ps e begins = absurd (omega arith)
weeks_begin (suc n) (w ∷ ws) ps e begins = record { rest = _; is = refl }

-- one week, n others, and then the solutions
module _ (n : ℕ) {B : Type 0} (V : B → Type 0) (get : B → List WeekData) (many : (b : B) → V b → length (get b) ≡ suc n) (patB : B → List Pattern) (k : List WeekData → List Seen → Read B)
    (begins : (b : B) → V b → BeginsWith keyword.Solution (patB b))
    (rest : (w : WeekData) → Reader (λ b. V b × (first_or example (get b) ≡ w)) (λ b. grammar.weeks (later (get b)) ++ patB b) (λ ts. times_at week_data_at n ts >>= λ ws. k (w ∷ ws.0) ws.1)) where
  abbrev one_by_one : B → List Pattern
  one_by_one b = grammar.week_data (keyword_after n) (first_or example (get b)) ++ (grammar.weeks (later (get b)) ++ patB b)

  reads_one : (ts : List Seen) → (week_data_at ts >>= λ w. times_at week_data_at n w.1 >>= λ ws. k (w.0 ∷ ws.0) ws.1) ≡ (times_at week_data_at (suc n) ts >>= λ x. k x.0 x.1)
  unfolding times_at
  reads_one ts =
      elim (outcome (week_data_at ts)) [
        | inl w ↦
            elim (outcome (times_at week_data_at n w.0.1)) [
              | inl ws ↦ rw (w.1, ws.1) refl
              | inr d ↦ rw (w.1, d.1) refl
            ]
        | inr d ↦ rw d.1 refl
      ]

  of_weeks : (ws : List WeekData) (ps : List Pattern) → length ws ≡ suc n → grammar.week_data (keyword_after n) (first_or example ws) ++ (grammar.weeks (later ws) ++ ps) ≡ grammar.weeks ws ++ ps
  of_weeks [] ps e = absurd (omega arith)
  of_weeks (w ∷ ws) ps e =
      ap (λ (kw : Keyword). grammar.week_data kw w ++ (grammar.weeks ws ++ ps)) (sym (after_is n ws (omega (arith, e))))
      ∙ sym (append_assoc (grammar.week_data (grammar.after_week ws) w) (grammar.weeks ws) ps)

  one_more : Reader V (λ b. grammar.weeks (get b) ++ patB b) (λ ts. times_at week_data_at (suc n) ts >>= λ x. k x.0 x.1)
  one_more =
      with_patterns V one_by_one (λ b. grammar.weeks (get b) ++ patB b) (λ ts. times_at week_data_at (suc n) ts >>= λ x. k x.0 x.1) (λ b v. of_weeks (get b) (patB b) (many b v))
      (with_read (λ ts. week_data_at ts >>= λ w. times_at week_data_at n w.1 >>= λ ws. k (w.0 ∷ ws.0) ws.1) (λ ts. times_at week_data_at (suc n) ts >>= λ x. k x.0 x.1) reads_one
      (week_step (keyword_after n) (follows n) V (λ b. first_or example (get b)) (λ b. grammar.weeks (later (get b)) ++ patB b) (λ w ts. times_at week_data_at n ts >>= λ ws. k (w ∷ ws.0) ws.1)
      (λ b v. weeks_begin n (later (get b)) (patB b) (later_many n (get b) (many b v)) (begins b v)) rest))

-- n weeks, and then the solutions
weeks_step : (n : ℕ) {B : Type 0} (V : B → Type 0) (get : B → List WeekData) → ((b : B) → V b → length (get b) ≡ n) → (patB : B → List Pattern) (k : List WeekData → List Seen → Read B) → ((b : B) → V b → 0 < n → BeginsWith keyword.Solution (patB b)) → ((ws : List WeekData) → length ws ≡ n → Reader (λ b. V b × (get b ≡ ws)) patB (k ws))
    → Reader V (λ b. grammar.weeks (get b) ++ patB b) (λ ts. times_at week_data_at n ts >>= λ x. k x.0 x.1)
unfolding times_at
weeks_step zero V get many patB k begins rest =
    with_patterns V patB (λ b. grammar.weeks (get b) ++ patB b) (k []) (λ b v. ap (λ (ws : List WeekData). grammar.weeks ws ++ patB b) (sym (no_weeks (get b) (many b v))))
    (with_fact (λ b. V b × (get b ≡ [])) V patB (k []) (λ b w. w.0) (λ b v. (v, no_weeks (get b) (many b v))) (rest [] refl))
weeks_step (suc n) V get many patB k begins rest =
    one_more n V get many patB k (λ b v. begins b v (omega arith)) (λ w.
    weeks_step n (λ b. V b × (first_or example (get b) ≡ w)) (λ b. later (get b)) (λ b v. later_many n (get b) (many b v.0)) patB (λ ws. k (w ∷ ws)) (λ b v some. begins b v.0 (omega arith)) (λ ws e.
    with_fact (λ b. V b × (get b ≡ w ∷ ws)) (λ b. (V b × (first_or example (get b) ≡ w)) × (later (get b) ≡ ws)) patB (k (w ∷ ws))
    (λ b v. ((v.0, ap (first_or example) v.1), ap later v.1))
    (λ b v. (v.0.0, made_of example w n ws (get b) (many b v.0.0) v.0.1 v.1))
    (rest (w ∷ ws) (omega (arith, e)))))

-- ---- the solutions

assignment_reader : Reader every grammar.assignment assignment_at
unfolding assignment_at
assignment_reader =
    step name_reader (λ b. b.nurse) (λ nurse.
    step day_reader (λ b. b.day) (λ day.
    step name_reader (λ b. b.shift) (λ shift.
    step name_reader (λ b. b.skill) (λ skill.
    done (record { nurse = nurse; day = day; shift = shift; skill = skill }) ((((tt, refl), refl), refl), refl) (λ b v i. record { nurse = v.0.0.0.1 i; day = v.0.0.1 i; shift = v.0.1 i; skill = v.1 i })))))

pub solution_reader : Reader every grammar.solution solution_at
unfolding solution_at
solution_reader =
    word (what.Keyword keyword.Solution) (keyword_text keyword.Solution) refl (step (placed_reader most_small) (λ b. b.week) (λ week.
    step name_reader (λ b. b.scenario) (λ scenario.
    step (section_reader grammar.assignment assignment_at assignment_reader keyword.Assignments) (λ b. b.assignments) (λ assignments.
    done (record { week = week; scenario = scenario; assignments = assignments }) (((tt, refl), refl), refl) (λ b v i. record { week = v.0.0.1 i; scenario = v.0.1 i; assignments = v.1 i })))))

-- ---- the bundle

-- the history has a line for each nurse, and there are as many weeks and solutions as the scenario says
pub record Counted (b : Bundle) : Type 0 where
  pub history_lines : length b.history.nurses ≡ length b.scenario.nurses.items
  pub week_data_parts : length b.week_data ≡ b.scenario.weeks.value
  pub solution_parts : length b.solutions ≡ b.scenario.weeks.value

history_step : (s : Scenario) {V : Bundle → Type 0} → ((b : Bundle) → V b → length b.history.nurses ≡ length s.nurses.items) → {patB : Bundle → List Pattern} {k : History → List Seen → Read Bundle} → ((h : History) → length h.nurses ≡ length s.nurses.items → Reader (λ b. V b × (b.history ≡ h)) patB (k h))
    → Reader V (λ b. grammar.history b.history ++ patB b) (λ ts. history_at (length s.nurses.items) ts >>= λ x. k x.0 x.1)
history_step s {V} valid {patB} {k} rest = then (HasLines (length s.nurses.items)) grammar.history (history_at (length s.nurses.items)) (history_reader (length s.nurses.items)) V (λ b. b.history) valid patB k rest

solutions_begin : (ss : List Solution) → 0 < length ss → BeginsWith keyword.Solution (flat_map grammar.solution ss ++ [])
solutions_begin [] some = absurd (omega arith)
solutions_begin (s ∷ ss) some = record { rest = _; is = refl }

some_solutions : (b : Bundle) → Counted b → (n : ℕ) → b.scenario.weeks.value ≡ n → 0 < n → 0 < length b.solutions
some_solutions b c n e some = omega (arith, c.solution_parts, e)

pub bundle_reader : Reader Counted grammar.bundle bundle_at
unfolding bundle_at
bundle_reader =
    step scenario_reader (λ b. b.scenario) (λ s.
    history_step s (λ b v. v.0.history_lines ∙ ap (λ (x : Scenario). length x.nurses.items) v.1) (λ h lines.
    weeks_step s.weeks.value (λ b. (Counted b × (b.scenario ≡ s)) × (b.history ≡ h)) (λ b. b.week_data) (λ b v. v.0.0.week_data_parts ∙ ap (λ (x : Scenario). x.weeks.value) v.0.1) (λ b. flat_map grammar.solution b.solutions ++ [])
    (λ ws ts. times_at solution_at s.weeks.value ts >>= λ ss. Ok (record { scenario = s; history = h; week_data = ws; solutions = ss.0 }, ss.1)) (λ b v some. solutions_begin b.solutions (some_solutions b v.0.0 s.weeks.value (ap (λ (x : Scenario). x.weeks.value) v.0.1) some)) (λ ws weeks.
    many solution_reader s.weeks.value (λ b. b.solutions) (λ b v. v.0.0.0.solution_parts ∙ ap (λ (x : Scenario). x.weeks.value) v.0.0.1) (λ ss solutions.
    done (record { scenario = s; history = h; week_data = ws; solutions = ss }) ((((record { history_lines = lines; week_data_parts = weeks; solution_parts = solutions }, refl), refl), refl), refl)
    (λ b v i. record { scenario = v.0.0.0.1 i; history = v.0.0.1 i; week_data = v.0.1 i; solutions = v.1 i })))))
