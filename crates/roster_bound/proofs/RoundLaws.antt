-- The sums of the rounds so far, and how many of the last ones were barren.
use Rattle.std.proofs.Common.{All, ◌≡◌, ◌∙◌, ◌+◌, ◌-◌, ◌*◌, ◌<◌, ◌≤◌, ◌⊎◌, ℕ, zero, suc, Bool, true, false, List, [], ◌∷◌, ◌++◌, Option, ap, append-nil, append_assoc, arith, flat_map, if◌then◌else◌, inl, inr, length, max, min, nat_lt, refl, subst, sym, zero-add}
use Rattle.std.proofs.lemmas.Bool.{cases_lt, le-ltb, lt-ltb}
use Rattle.std.proofs.lemmas.Nat.{mul-le}
use Rattle.std.proofs.lemmas.List.Elements.{All-append, All-cons, All-nil}
use Rattle.roster_text.specs.declared.fault.WriteFault.{WriteFault}
use Rattle.roster_text.specs.Io.{BreaksIn, Sends, StopsAt, Watched, saturated, sent_of}
use Rattle.roster_text.proofs.Texts.{StopsAt-after, StopsAt-append}
use Rattle.roster_instance.specs.Meaning.{Meaning, day_count, nurse_count}
use Rattle.roster_instance.specs.Rosters.{Rows, fits_case}
use Rattle.roster_rules.specs.HardRules.{keeps_hard}
use Rattle.roster_rules.specs.Improver.{line, start_word}
use Rattle.roster_rules.specs.Penalties.{penalty}
use Rattle.roster_reports.specs.declared.log_fault.LogFault.TheVariants.{LogFailed}
use Rattle.roster_offers.specs.Lists.{IsScaleOf, most_row_points}
use Rattle.roster_prices.specs.LowerBounds.{IsLowerBound, bound_by, first_bound, first_dual_prices}
use Rattle.roster_slots.specs.Slots.{SlotPrices}
use Rattle.roster_bound.specs.declared.effort.Effort.{Effort}
use Rattle.roster_bound.specs.BoundLogs.{BoundLine, IsBoundLog, bound_line, bound_log_text, last_line, no_line, rounds_alone}
use Rattle.roster_bound.specs.BoundRuns.{BoundLogStops, HasReached}
use Rattle.roster_bound.specs.Rounds.{AreEnough, AreLinesOfRounds, AreSearched, CountsRounds, IsRoundSum, barren_count, bound_of_sum, greatest, most_barren, round_lines, sum_by, sum_in, with_line}
use Rattle.roster_bound.proofs.BoundLogLaws.{Going, Going-raised, Going-same, Going-start, IsBoundOfRound, IsRoundsLog, bound_log, first_are_dual_prices, first_bounds, last_is, later_log, log_at_end, log_of_met, log_of_some, log_with_line, more_log, no_log, same_log, text_more}

-- ---- a round's sum and its bound

-- the node without decisions
pub sum_of_root : (c : Meaning) (from : ℕ) (given : Rows) (scale : ℕ) (w : SlotPrices) → sum_in c from given scale w [] ≡ sum_by c from given scale w
unfolding sum_in sum_by
sum_of_root c from given scale w = refl

pub bound_of_round : (c : Meaning) (from : ℕ) (given : Rows) (scale : ℕ) (w : SlotPrices) → bound_of_sum c scale (sum_by c from given scale w) ≡ bound_by c from given scale w
unfolding sum_by bound_by
bound_of_round c from given scale w = refl

pub bound_of_its_sum : (c : Meaning) (from : ℕ) (given : Rows) (scale : ℕ) (w : SlotPrices) (sum bound : ℕ) → sum ≡ sum_by c from given scale w → bound ≡ bound_by c from given scale w → bound ≡ bound_of_sum c scale sum
bound_of_its_sum c from given scale w sum bound sum_is bound_is = bound_is ∙ sym (bound_of_round c from given scale w) ∙ ap (bound_of_sum c scale) (sym sum_is)

-- ---- a line more

line_more : (lines : List BoundLine) (x : BoundLine) → (last_line no_line lines).bound < x.bound → with_line lines x ≡ lines ++ x ∷ []
line_more lines x more = ap (λ b. if b then lines ++ x ∷ [] else lines) (lt-ltb (last_line no_line lines).bound x.bound more)

no_line_more : (lines : List BoundLine) (x : BoundLine) → x.bound ≤ (last_line no_line lines).bound → with_line lines x ≡ lines
no_line_more lines x less = ap (λ b. if b then lines ++ x ∷ [] else lines) (le-ltb (last_line no_line lines).bound x.bound less)

-- the last line is no less than the last round's bound
last_no_less : (c : Meaning) (scale x : ℕ) (xs : List ℕ) → bound_of_sum c scale x ≤ (last_line no_line (round_lines c scale (x ∷ xs))).bound
last_no_less c scale x xs = go (cases_lt (last_line no_line lines).bound y.bound)
  where
    lines : List BoundLine
    lines = round_lines c scale xs

    y : BoundLine
    y = record { round = length xs + 1; bound = bound_of_sum c scale x }

    go : ((last_line no_line lines).bound < y.bound) ⊎ (y.bound ≤ (last_line no_line lines).bound) → y.bound ≤ (last_line no_line (with_line lines y)).bound
    go (inl more) = omega (arith, ap (λ (z : BoundLine). z.bound) (sym (ap (last_line no_line) (line_more lines y more) ∙ last_is no_line lines y)))
    go (inr less) = omega (arith, less, ap (λ (z : BoundLine). z.bound) (sym (ap (last_line no_line) (no_line_more lines y less))))

-- ---- the last round again, so that all rounds are made

repeated : ℕ → ℕ → List ℕ → List ℕ
repeated zero x xs = xs
repeated (suc k) x xs = x ∷ repeated k x xs

length-repeated : (k x : ℕ) (xs : List ℕ) → length (repeated k x xs) ≡ k + length xs
unfolding repeated
length-repeated zero x xs = omega arith
length-repeated (suc k) x xs = omega (arith, length-repeated k x xs)

All-repeated : (P : ℕ → Type 0) (k x : ℕ) (xs : List ℕ) → P x → All P xs → All P (repeated k x xs)
unfolding repeated
All-repeated P zero x xs one all = all
All-repeated P (suc k) x xs one all = All-cons P x (repeated k x xs) one (All-repeated P k x xs one all)

lines-repeated : (c : Meaning) (scale k x : ℕ) (xs : List ℕ) → round_lines c scale (x ∷ repeated k x xs) ≡ round_lines c scale (x ∷ xs)
unfolding repeated
lines-repeated c scale zero x xs = refl
lines-repeated c scale (suc k) x xs =
    no_line_more (round_lines c scale (x ∷ repeated k x xs)) (record { round = length (x ∷ repeated k x xs) + 1; bound = bound_of_sum c scale x }) (last_no_less c scale x (repeated k x xs)) ∙ lines-repeated c scale k x xs

-- some rounds may go on in this way
filled : (c : Meaning) (from : ℕ) (given : Rows) (scale rounds x : ℕ) (xs : List ℕ) (lines : List BoundLine) → IsScaleOf c scale → IsRoundSum c from given scale x → All (IsRoundSum c from given scale) xs → length xs < rounds → lines ≡ round_lines c scale (x ∷ xs)
    → AreLinesOfRounds c from given rounds lines
filled c from given scale rounds x xs lines is_scale one each few lines_are =
    let k : ℕ = rounds - (length xs + 1) in
    let all : length (repeated k x xs) + 1 ≡ rounds = omega (arith, length-repeated k x xs, few) in
    record {
      scale = scale;
      is_scale = is_scale;
      sums = x ∷ repeated k x xs;
      each = All-cons (IsRoundSum c from given scale) x (repeated k x xs) one (All-repeated (IsRoundSum c from given scale) k x xs one each);
      within = omega (arith, all);
      branched = [];
      later = All-nil (λ (y : BoundLine). rounds < y.round);
      lines_are = lines_are ∙ sym (lines-repeated c scale k x xs) ∙ sym (append-nil (round_lines c scale (x ∷ repeated k x xs)));
      enough = λ short. inl (omega (arith, all));
    }

-- ---- there is some log: that of rounds by the first dual prices

module _ (c : Meaning) (from : ℕ) (given : Rows) where
  first_sum : ℕ
  first_sum = sum_by c from given 1 (first_dual_prices c 1)

  first_is_sum : IsRoundSum c from given 1 first_sum
  unfolding first_sum
  first_is_sum = record { dual_prices = first_dual_prices c 1; are_dual_prices = first_are_dual_prices c; sum_is = refl }

  first_same : bound_of_sum c 1 first_sum ≡ first_bound c from given
  unfolding first_sum
  first_same = bound_of_round c from given 1 (first_dual_prices c 1)

  first_lines : (n : ℕ) → (0 < first_bound c from given) ⊎ (first_bound c from given ≤ 0) → (lines : List BoundLine) × IsRoundsLog c from given (suc n) lines × (IsScaleOf c 1 → AreLinesOfRounds c from given (suc n) lines)
  first_lines n (inl some) =
      let lines : List BoundLine = record { round = 0 + 1; bound = first_bound c from given } ∷ [] in (
        lines,
        later_log c from given (0 + 1) (suc n) lines (omega arith) (λ any. omega arith) (more_log c from given 0 0 (first_bound c from given) [] (no_log c from given) refl some (first_bounds c from given)),
        λ is_scale. filled c from given 1 (suc n) first_sum [] lines is_scale first_is_sum (All-nil (IsRoundSum c from given 1)) (omega arith)
            (sym (line_more [] (record { round = 0 + 1; bound = bound_of_sum c 1 first_sum }) (omega (arith, some, first_same)) ∙ (λ i. record { round = 0 + 1; bound = first_same i } ∷ []))),
      )
  first_lines n (inr none) = (
    [],
    later_log c from given (0 + 1) (suc n) [] (omega arith) (λ any. omega arith) (same_log c from given 0 0 (first_bound c from given) [] (no_log c from given) refl none (first_bounds c from given)),
    λ is_scale. filled c from given 1 (suc n) first_sum [] [] is_scale first_is_sum (All-nil (IsRoundSum c from given 1)) (omega arith)
        (sym (no_line_more [] (record { round = 0 + 1; bound = bound_of_sum c 1 first_sum }) (omega (arith, none, first_same)))),
  )

  rounds_log : (rounds : ℕ) → (lines : List BoundLine) × IsRoundsLog c from given rounds lines × (IsScaleOf c 1 → AreLinesOfRounds c from given rounds lines)
  rounds_log zero = (
    [],
    no_log c from given,
    λ is_scale. record {
      scale = 1;
      is_scale = is_scale;
      sums = [];
      each = All-nil (IsRoundSum c from given 1);
      within = omega arith;
      branched = [];
      later = All-nil (λ (y : BoundLine). zero < y.round);
      lines_are = refl;
      enough = λ short. inl (omega arith);
    },
  )
  rounds_log (suc n) = first_lines n (cases_lt 0 (first_bound c from given))

  pub some_log : (effort : Effort) → (lines : List BoundLine) × IsBoundLog c from given effort lines × (IsScaleOf c 1 → AreLinesOfRounds c from given effort.rounds lines)
  some_log effort = let some = rounds_log effort.rounds in (some.0, bound_log c from given effort some.0 some.1, some.2)

-- a case with some scale has that of whole points
one_of_scale : (c : Meaning) (scale : ℕ) → IsScaleOf c scale → IsScaleOf c 1
one_of_scale c scale is = record { some = omega arith; few = omega arith; low = omega (arith, is.low, mul-le 1 (most_row_points c) scale (most_row_points c) is.some (omega arith)) }

-- ---- the sums so far, the last round's first

pub record HaveSums (c : Meaning) (from : ℕ) (given : Rows) (scale made top barren : ℕ) (lines : List BoundLine) : Type 0 where
  pub sums : List ℕ
  pub each : All (IsRoundSum c from given scale) sums
  pub count : length sums ≡ made
  pub top_is : top ≡ greatest sums
  pub barren_is : barren ≡ barren_count scale sums
  pub lines_are : lines ≡ round_lines c scale sums

-- no more rounds were barren than were made
one_few : (b : Bool) (barren made : ℕ) → barren ≤ made → (if b then barren + 1 else 0) ≤ made + 1
one_few true barren made few = omega (arith, few)
one_few false barren made few = omega arith

few_barren : (scale : ℕ) (xs : List ℕ) → barren_count scale xs ≤ length xs
few_barren scale [] = omega arith
few_barren scale (x ∷ xs) = omega (arith, one_few (nat_lt (4 * (x - greatest xs)) scale) (barren_count scale xs) (length xs) (few_barren scale xs))

module _ (c : Meaning) (from : ℕ) (given : Rows) (scale : ℕ) where
  no_sums : HaveSums c from given scale 0 0 0 []
  no_sums = record { sums = []; each = All-nil (IsRoundSum c from given scale); count = refl; top_is = refl; barren_is = refl; lines_are = refl }

  -- a round whose lower bound isn't greater
  same_sums : (made top barren sum new_top new_barren best : ℕ) (lines : List BoundLine) → HaveSums c from given scale made top barren lines → best ≡ (last_line no_line lines).bound → IsRoundSum c from given scale sum → new_top ≡ max sum top
      → new_barren ≡ (if nat_lt (4 * (sum - top)) scale then barren + 1 else 0) → bound_of_sum c scale sum ≤ best → HaveSums c from given scale (made + 1) new_top new_barren lines
  same_sums made top barren sum new_top new_barren best lines p best_is is top_is barren_is no_more =
      let x : BoundLine = record { round = length p.sums + 1; bound = bound_of_sum c scale sum } in
      let last : best ≡ (last_line no_line (round_lines c scale p.sums)).bound = best_is ∙ ap (λ (xs : List BoundLine). (last_line no_line xs).bound) p.lines_are in
      record {
        sums = sum ∷ p.sums;
        each = All-cons (IsRoundSum c from given scale) sum p.sums is p.each;
        count = omega (arith, p.count);
        top_is = top_is ∙ ap (max sum) p.top_is;
        barren_is = barren_is ∙ (λ i. if nat_lt (4 * (sum - p.top_is i)) scale then p.barren_is i + 1 else 0);
        lines_are = p.lines_are ∙ sym (no_line_more (round_lines c scale p.sums) x (omega (arith, no_more, last)));
      }

  -- one whose lower bound is
  more_sums : (made top barren sum new_top new_barren best bound : ℕ) (lines : List BoundLine) → HaveSums c from given scale made top barren lines → best ≡ (last_line no_line lines).bound → IsRoundSum c from given scale sum → new_top ≡ max sum top
      → new_barren ≡ (if nat_lt (4 * (sum - top)) scale then barren + 1 else 0) → bound ≡ bound_of_sum c scale sum → best < bound
      → HaveSums c from given scale (made + 1) new_top new_barren (lines ++ record { round = made + 1; bound = bound } ∷ [])
  more_sums made top barren sum new_top new_barren best bound lines p best_is is top_is barren_is bound_is more =
      let x : BoundLine = record { round = length p.sums + 1; bound = bound_of_sum c scale sum } in
      let last : best ≡ (last_line no_line (round_lines c scale p.sums)).bound = best_is ∙ ap (λ (xs : List BoundLine). (last_line no_line xs).bound) p.lines_are in
      let same : lines ++ record { round = made + 1; bound = bound } ∷ [] ≡ round_lines c scale p.sums ++ x ∷ [] = λ i. p.lines_are i ++ record { round = sym p.count i + 1; bound = bound_is i } ∷ [] in
      record {
        sums = sum ∷ p.sums;
        each = All-cons (IsRoundSum c from given scale) sum p.sums is p.each;
        count = omega (arith, p.count);
        top_is = top_is ∙ ap (max sum) p.top_is;
        barren_is = barren_is ∙ (λ i. if nat_lt (4 * (sum - p.top_is i)) scale then p.barren_is i + 1 else 0);
        lines_are = same ∙ sym (line_more (round_lines c scale p.sums) x (omega (arith, more, bound_is, last)));
      }

  -- no more rounds are made
  lines_of : IsScaleOf c scale → (made top barren best rounds : ℕ) (lines : List BoundLine) → HaveSums c from given scale made top barren lines → best ≡ (last_line no_line lines).bound → made ≤ rounds
      → (best < penalty c given → (rounds ≤ made) ⊎ (most_barren ≤ barren)) → AreLinesOfRounds c from given rounds lines
  lines_of is_scale made top barren best rounds lines p best_is few enough = record {
    scale = scale;
    is_scale = is_scale;
    sums = p.sums;
    each = p.each;
    within = omega (arith, few, p.count);
    branched = [];
    later = All-nil (λ (x : BoundLine). rounds < x.round);
    lines_are = p.lines_are ∙ sym (append-nil (round_lines c scale p.sums));
    enough = λ short. in_sums (enough (omega (arith, short, best_is)));
  }
    where
      in_sums : (rounds ≤ made) ⊎ (most_barren ≤ barren) → AreEnough scale rounds p.sums
      in_sums (inl all) = inl (omega (arith, all, p.count))
      in_sums (inr many) = inr (omega (arith, many, p.barren_is))

-- a branching has a line more
pub branched_lines : (c : Meaning) (from : ℕ) (given : Rows) (rounds : ℕ) (lines : List BoundLine) (x : BoundLine) → rounds < x.round → (last_line no_line lines).bound < x.bound → AreLinesOfRounds c from given rounds lines
    → AreLinesOfRounds c from given rounds (lines ++ x ∷ [])
branched_lines c from given rounds lines x beyond above p = record {
  scale = p.scale;
  is_scale = p.is_scale;
  sums = p.sums;
  each = p.each;
  within = p.within;
  branched = p.branched ++ x ∷ [];
  later = All-append (λ (y : BoundLine). rounds < y.round) p.branched (x ∷ []) p.later (All-cons (λ (y : BoundLine). rounds < y.round) x [] beyond (All-nil (λ (y : BoundLine). rounds < y.round)));
  lines_are = ap (λ (ys : List BoundLine). ys ++ x ∷ []) p.lines_are ∙ append_assoc (round_lines c p.scale p.sums) p.branched (x ∷ []);
  enough = λ short. p.enough (omega (arith, short, above, ap (λ (y : BoundLine). y.bound) (last_is no_line lines x)));
}

-- ---- the rounds made so far, with their sums

pub record GoingBySums {W : Type 0} (contents : W → Option (List ℕ)) (c : Meaning) (from : ℕ) (given : Rows) (scale : ℕ) (old mid : Watched W) (made top barren sent best : ℕ) : Type 0 where
  pub going : Going contents c from given old mid made sent best
  pub sums : HaveSums c from given scale made top barren going.lines

module _ {W : Type 0} (contents : W → Option (List ℕ)) (c : Meaning) (from : ℕ) (given : Rows) (scale : ℕ) (old : Watched W) where
  pub by_sums-start : (new : Watched W) (sent : ℕ) → Sends contents old new 0 sent (bound_log_text c given []) → GoingBySums contents c from given scale old new 0 0 0 sent 0
  unfolding Going-start
  by_sums-start new sent p = record { going = Going-start contents c from given old new sent p; sums = no_sums c from given scale }

  -- a round whose lower bound isn't greater
  pub by_sums-same : (mid : Watched W) (made top barren sent best sum new_top new_barren bound : ℕ) → GoingBySums contents c from given scale old mid made top barren sent best → IsRoundSum c from given scale sum → new_top ≡ max sum top
      → new_barren ≡ (if nat_lt (4 * (sum - top)) scale then barren + 1 else 0) → bound ≡ bound_of_sum c scale sum → bound ≤ best → IsBoundOfRound c from given made bound
      → GoingBySums contents c from given scale old mid (made + 1) new_top new_barren sent best
  unfolding Going-same
  by_sums-same mid made top barren sent best sum new_top new_barren bound p is top_is barren_is bound_is no_more t = record {
    going = Going-same contents c from given old mid made sent best bound p.going no_more t;
    sums = same_sums c from given scale made top barren sum new_top new_barren best p.going.lines p.sums p.going.best_is is top_is barren_is (omega (arith, no_more, bound_is));
  }

  -- one whose lower bound is
  pub by_sums-raised : (mid new : Watched W) (made top barren sent after best sum new_top new_barren bound : ℕ) → GoingBySums contents c from given scale old mid made top barren sent best → IsRoundSum c from given scale sum → new_top ≡ max sum top
      → new_barren ≡ (if nat_lt (4 * (sum - top)) scale then barren + 1 else 0) → bound ≡ bound_of_sum c scale sum → best < bound → IsBoundOfRound c from given made bound
      → Sends contents mid new sent after (bound_line (record { round = made + 1; bound = bound })) → GoingBySums contents c from given scale old new (made + 1) new_top new_barren after bound
  unfolding Going-raised
  by_sums-raised mid new made top barren sent after best sum new_top new_barren bound p is top_is barren_is bound_is more t q = record {
    going = Going-raised contents c from given old mid new made sent after best bound p.going more t q;
    sums = more_sums c from given scale made top barren sum new_top new_barren best bound p.going.lines p.sums p.going.best_is is top_is barren_is bound_is more;
  }

  -- the first line broke off, whatever would have come after it
  pub start_breaks : IsScaleOf c scale → (rounds : ℕ) (new : Watched W) (fault : WriteFault) → BreaksIn contents old new 0 (bound_log_text c given []) fault → BoundLogStops contents c from given (rounds_alone rounds) old new (LogFailed (sent_of fault))
  start_breaks is_scale rounds new fault p =
      let some = some_log c from given (rounds_alone rounds) in
      record {
        lines = some.0;
        is_log = some.1;
        rounds = some.2 (one_of_scale c scale is_scale);
        sent = p.sent;
        stops = StopsAt-append contents old new (line (start_word c) (penalty c given)) (flat_map bound_line some.0) p.sent (subst (λ text. StopsAt contents old new text p.sent) (append-nil (line (start_word c) (penalty c given))) p.stops);
        counted = ap (λ f. LogFailed (sent_of f)) p.counted ∙ ap (λ n. LogFailed (saturated n)) (zero-add p.sent);
      }

  -- the line of a round broke off, whatever would have come after it
  pub raised_breaks : IsScaleOf c scale → (rounds : ℕ) (mid new : Watched W) (made top barren sent best sum bound : ℕ) (fault : WriteFault) → GoingBySums contents c from given scale old mid made top barren sent best → made < rounds
      → IsRoundSum c from given scale sum → bound ≡ bound_of_sum c scale sum → best < bound → IsBoundOfRound c from given made bound
      → BreaksIn contents mid new sent (bound_line (record { round = made + 1; bound = bound })) fault → BoundLogStops contents c from given (rounds_alone rounds) old new (LogFailed (sent_of fault))
  raised_breaks is_scale rounds mid new made top barren sent best sum bound fault p inside is bound_is more t q =
      let x : BoundLine = record { round = made + 1; bound = bound } in
      let before : List ℕ = bound_log_text c given p.going.lines in
      let front : sent ≡ saturated (0 + length before) = p.going.sends.counted in
      let count : saturated (sent + q.sent) ≡ saturated (length before + q.sent) = omega arith in
      record {
        lines = p.going.lines ++ x ∷ [];
        is_log = log_with_line contents c from given old rounds mid made sent best bound p.going inside more t;
        rounds = filled c from given scale rounds sum p.sums.sums (p.going.lines ++ x ∷ []) is_scale is p.sums.each (omega (arith, inside, p.sums.count)) (added p.sums more);
        sent = length before + q.sent;
        stops = subst (λ text. StopsAt contents old new text (length before + q.sent)) (text_more c given p.going.lines x) (StopsAt-after contents old mid new before (bound_line x) q.sent p.going.sends.writes q.stops);
        counted = ap (λ f. LogFailed (sent_of f)) q.counted ∙ ap LogFailed count;
      }
    where
      added : (s : HaveSums c from given scale made top barren p.going.lines) → best < bound → p.going.lines ++ record { round = made + 1; bound = bound } ∷ [] ≡ round_lines c scale (sum ∷ s.sums)
      added s more =
          let y : BoundLine = record { round = length s.sums + 1; bound = bound_of_sum c scale sum } in
          let last : best ≡ (last_line no_line (round_lines c scale s.sums)).bound = p.going.best_is ∙ ap (λ (xs : List BoundLine). (last_line no_line xs).bound) s.lines_are in
          (λ i. s.lines_are i ++ record { round = sym s.count i + 1; bound = bound_is i } ∷ []) ∙ sym (line_more (round_lines c scale s.sums) y (omega (arith, more, bound_is, last)))

  -- no more rounds are made: all were, or the last ones were barren, or the lower bound is what the given
  -- roster costs
  module _ (rounds before after : ℕ) (mid : Watched W) (made top barren sent best : ℕ) (p : GoingBySums contents c from given scale old mid made top barren sent best) (is_scale : IsScaleOf c scale) (counted : before + made * (nurse_count c * day_count c) ≤ after) (few : made ≤ rounds) where
    ends : IsBoundLog c from given (rounds_alone rounds) p.going.lines → (best < penalty c given → (rounds ≤ made) ⊎ (most_barren ≤ barren))
        → HasReached contents c from given (rounds_alone rounds) before after old mid (record { bound = best; sent = sent })
    unfolding lines_of
    ends is_log enough = record {
      lines = p.going.lines;
      is_log = is_log;
      rounds = record {
        are = lines_of c from given scale is_scale made top barren best rounds p.going.lines p.sums p.going.best_is few enough;
        made = subst (λ n. before + n * (nurse_count c * day_count c) ≤ after) (sym p.sums.count) counted;
      };
      sends = p.going.sends;
      bound_is = p.going.best_is;
    }

    pub ends_all : rounds ≤ made → HasReached contents c from given (rounds_alone rounds) before after old mid (record { bound = best; sent = sent })
    ends_all all = ends (log_at_end contents c from given old rounds mid made sent best p.going few all) (λ short. inl all)

    pub ends_barren : most_barren ≤ barren → HasReached contents c from given (rounds_alone rounds) before after old mid (record { bound = best; sent = sent })
    ends_barren many =
        let some : 0 < made = omega (arith, many, p.sums.barren_is, p.sums.count, few_barren scale p.sums.sums) in
        ends (log_of_some contents c from given old rounds mid made sent best p.going few some) (λ short. inr many)

    pub ends_met : penalty c given ≤ best → fits_case c given ≡ true → keeps_hard c given ≡ true → HasReached contents c from given (rounds_alone rounds) before after old mid (record { bound = best; sent = sent })
    ends_met met fits keeps = ends (log_of_met contents c from given old rounds mid made sent best p.going few met fits keeps) (λ short. absurd (omega (arith, met, short)))

-- ---- later

module _ (c : Meaning) (from : ℕ) (given : Rows) (rounds old mid new : ℕ) (more : mid ≤ new) where
  -- the meter has counted no less
  pub counts-later : (lines : List BoundLine) → CountsRounds c from given rounds old mid lines → CountsRounds c from given rounds old new lines
  counts-later lines p = record { are = p.are; made = omega (arith, more, p.made) }

  -- and a branching has a line
  pub counts-branched : (lines : List BoundLine) (x : BoundLine) → rounds < x.round → (last_line no_line lines).bound < x.bound → CountsRounds c from given rounds old mid lines → CountsRounds c from given rounds old new (lines ++ x ∷ [])
  unfolding branched_lines
  counts-branched lines x beyond above p = record { are = branched_lines c from given rounds lines x beyond above p.are; made = omega (arith, more, p.made) }

-- ---- how many rounds were searched

times_within : (rounds made each old new : ℕ) → min rounds most_barren ≤ made → old + made * each ≤ new → old + min rounds most_barren * each ≤ new
times_within rounds made each old new few counted = omega (arith, counted, mul-le (min rounds most_barren) each made each few (omega arith))

pub are_searched : (c : Meaning) (from : ℕ) (given : Rows) (rounds old new bound : ℕ) (lines : List BoundLine) → CountsRounds c from given rounds old new lines → bound ≡ (last_line no_line lines).bound → IsLowerBound c from given bound
    → AreSearched c from given rounds old new
are_searched c from given rounds old new bound lines p bound_is below = go (cases_lt bound (penalty c given))
  where
    by_sums : AreEnough p.are.scale rounds p.are.sums → AreSearched c from given rounds old new
    by_sums (inl all) = inr (times_within rounds (length p.are.sums) (nurse_count c * day_count c) old new (omega arith) p.made)
    by_sums (inr many) = inr (times_within rounds (length p.are.sums) (nurse_count c * day_count c) old new (omega (arith, many, few_barren p.are.scale p.are.sums)) p.made)

    go : (bound < penalty c given) ⊎ (penalty c given ≤ bound) → AreSearched c from given rounds old new
    go (inl short) = by_sums (p.are.enough (omega (arith, short, bound_is)))
    go (inr met) = inl (λ r fits keeps stays. omega (arith, met, below r fits keeps stays))
