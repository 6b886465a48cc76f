-- What a day costs by what follows: after a day off another day off or a shift; after a shift a day off, the
-- same shift or another one.
use Rattle.std.proofs.Common.{◌≡◌, ◌+◌, ◌*◌, ◌<◌, ◌≤◌, ℕ, Option, None, Some, ap, arith, false, min, true, ◌≢◌, ◌∙◌, ne_eqb, eq-eqb, sym, ⊎_elim}
use Rattle.roster_instance.specs.declared.choice.Choice.{Choice}
use Rattle.roster_instance.specs.declared.choice.Choice.TheVariants.{Off, Work}
use Rattle.roster_instance.specs.declared.choice.Shift.{Shift}
use Rattle.roster_instance.specs.declared.choice.Skill.{Skill}
use Rattle.roster_instance.specs.Choices.{shift_of}
use Rattle.roster_instance.specs.Meaning.{run_of_shift, shift_count}
use Rattle.roster_instance.specs.Rosters.{is_choice_of}
use Rattle.roster_instance.specs.RunLaw.{day_violations}
use Rattle.roster_instance.specs.Sizes.{cap}
use Rattle.roster_rules.specs.Prefix.{Summary}
use Rattle.roster_rules.specs.Weights.{shift_run_weight}
use Rattle.roster_offers.specs.declared.offer.Offer.{Offer}
use Rattle.roster_offers.proofs.OfferLaws.{shift_of_case}
use Rattle.roster_state.specs.Codes.{sizes_of}
use Rattle.roster_state.specs.Transition.{next_of}
use Rattle.roster_state.proofs.ShiftLaw.{shifts_by_two}
use Rattle.roster_completion.specs.declared.completion_day.CompletionDay.{CompletionDay}
use Rattle.roster_completion.specs.declared.off.AfterOff.{AfterOff}
use Rattle.roster_completion.specs.CompletionBounds.{rated}
use Rattle.roster_completion.specs.Lines.{IsAfterOff, IsEntry, IsOffCompletionBound, IsUnder, UnderCell, apart_of, begun_index, cell_index, line_index, next_at, offer_on, rest_ends, rest_goes_on, state_of, work_goes_on, HasWay, IsAfterShift, IsUnderWays, IsWayOn, way_at, work_ends}
use Rattle.roster_state.specs.CompletionLines.{longer}
use Rattle.std.proofs.lemmas.Bool.{cases_eq}
use Rattle.roster_completion.specs.declared.shift.AfterShift.{AfterShift}
use Rattle.roster_completion.proofs.Indices.{begun_moved, of_day}

-- an offer that was taken into account still is after the least cost has been lowered
pub entry_kept : (day : CompletionDay) (old new : AfterOff) (x : Offer) (shift : Option Shift) → new.off ≤ old.off → new.enter ≤ old.enter → IsEntry day old x shift → IsEntry day new x shift
entry_kept day old new x None l m h = omega (arith, l, h)
entry_kept day old new x (Some u) l m h = omega (arith, m, h)

module _ (day : CompletionDay) (run q a w price : ℕ) where
  abbrev offer : Choice → Offer
  offer choice = record { choice = choice; price = price }

  -- what a choice costs from a state, and the index of the completion bound after it
  abbrev cost : Summary → Choice → ℕ
  cost s choice = rated day.case.now day.nurse day.scale day.rates day.day s (offer choice)

  abbrev index : Summary → Option Shift → ℕ
  index s shift = cell_index (sizes_of day.case.now day.nurse) (next_of day.case.now day.nurse day.day s shift)

  -- ---- after a day off

  abbrev free : Summary
  free = state_of None run q a w

  cost_off : cost free Off ≡ apart_of day false (offer Off) + rest_goes_on day run
  cost_off = rw day.rules_are (let shifts = shifts_by_two day.case.now free None tt tt in omega (arith, ap (λ m. day.scale * m) shifts))

  index_off : index free None ≡ line_index day 0 (longer run day.rules.free)
  unfolding next_of
  index_off = rw (day.rules_are, day.runs_are, day.shift_runs_are) (omega arith)

  module _ (u : Shift) (k : Skill) (of_case : u.0 < shift_count day.case.now) where
    cost_enter : cost free (Work u k) ≡ apart_of day false (offer (Work u k)) + work_goes_on day 0 + rest_ends day run + day.scale * (shift_run_weight * day_violations (run_of_shift day.case.now u.0) 0 true)
    cost_enter = rw day.rules_are (let shifts = shifts_by_two day.case.now free (Some u) tt of_case in omega (arith, ap (λ m. day.scale * m) shifts))

    index_enter : index free (Some u) ≡ begun_index day u (min 1 (cap day.rules.working))
    unfolding next_of
    index_enter = rw (day.rules_are, day.runs_are, day.shift_runs_are) (omega arith)

  under_off : (after : AfterOff) (completion_bound : ℕ) → IsOffCompletionBound day after run completion_bound → (choice : Choice) → is_choice_of day.case.now choice ≡ true → IsEntry day after (offer choice) (shift_of choice) → IsUnder day free completion_bound (offer choice)
  under_off after completion_bound lies Off of_case entry _ = omega (arith, lies.off, entry, cost_off, ap (next_at day) index_off)
  under_off after completion_bound lies (Work u k) of_case entry _ =
      let within = shift_of_case day.case.now (Work u k) of_case in
      omega (arith, lies.enter, entry, cost_enter u k within, ap (next_at day) (index_enter u k within))

  -- ---- after a shift

  module _ (after : AfterShift) (follows : IsAfterShift day after) where
    abbrev t : Shift
    t = after.last

    abbrev worked : Summary
    worked = state_of (Some after.last) run q a w

    -- a run of working days with one day more
    abbrev to : ℕ
    to = longer run day.rules.working

    cost_rest : cost worked Off ≡ apart_of day true (offer Off) + work_ends day run + rest_goes_on day 0 + day.scale * (shift_run_weight * day_violations (run_of_shift day.case.now t.0) q false)
    cost_rest = rw day.rules_are (let shifts = shifts_by_two day.case.now worked None follows.in_case tt in omega (arith, ap (λ m. day.scale * m) shifts))

    index_rest : index worked None ≡ line_index day 0 (min 1 (cap day.rules.free))
    unfolding next_of
    index_rest = rw (day.rules_are, day.runs_are, day.shift_runs_are) (omega arith)

    module _ (u : Shift) (k : Skill) (of_case : u.0 < shift_count day.case.now) where
      -- the same shift
      module _ (e : t.0 ≡ u.0) where
        cost_same : cost worked (Work u k) ≡ apart_of day true (offer (Work u k)) + work_goes_on day run + day.scale * (shift_run_weight * day_violations (run_of_shift day.case.now t.0) q true)
        cost_same =
            rw day.rules_are (
            let shifts = rw (eq-eqb t.0 u.0 e, eq-eqb u.0 t.0 (sym e)) at (shifts_by_two day.case.now worked (Some u) follows.in_case of_case) in
            let run_is = ap (λ m. day_violations (run_of_shift day.case.now m) q true) e in
            omega (arith, ap (λ m. day.scale * m) shifts, ap (λ m. day.scale * m) run_is))

        index_again : index worked (Some u) ≡ line_index day (u.0 + 1) to + min (q + 1) (cap (run_of_shift day.case.now u.0))
        unfolding next_of
        index_again = rw (day.rules_are, day.runs_are, day.shift_runs_are, eq-eqb t.0 u.0 e) (omega arith)

        index_same : index worked (Some u) ≡ line_index day (t.0 + 1) to + min (q + 1) (cap (run_of_shift day.case.now t.0))
        index_same = index_again ∙ ap (λ m. line_index day (m + 1) to + min (q + 1) (cap (run_of_shift day.case.now m))) (sym e)

      -- another shift
      module _ (e : t.0 ≢ u.0) where
        cost_other : cost worked (Work u k) ≡ apart_of day true (offer (Work u k)) + work_goes_on day run + day.scale * (shift_run_weight * day_violations (run_of_shift day.case.now t.0) q false) + day.scale * (shift_run_weight * day_violations (run_of_shift day.case.now u.0) 0 true)
        cost_other =
            rw day.rules_are (
            let shifts = rw (ne_eqb t.0 u.0 e, ne_eqb u.0 t.0 (λ i. e (sym i))) at (shifts_by_two day.case.now worked (Some u) follows.in_case of_case) in
            omega (arith, ap (λ m. day.scale * m) shifts))

        index_other : index worked (Some u) ≡ begun_index day u to
        unfolding next_of
        index_other = rw (day.rules_are, day.runs_are, day.shift_runs_are, ne_eqb t.0 u.0 e) (omega arith)

    -- a completion bound that is no more than what each choice costs
    module _ (leave completion_bound : ℕ) (leave_off : leave ≤ after.off + work_ends day run) (leave_on : IsUnderWays day after run leave)
        (leaves : completion_bound ≤ leave + day.scale * (shift_run_weight * day_violations (run_of_shift day.case.now t.0) q false))
        (stays : completion_bound ≤ after.ways.stay + work_goes_on day run + day.scale * (shift_run_weight * day_violations (run_of_shift day.case.now t.0) q true) + next_at day (line_index day (t.0 + 1) to + min (q + 1) (cap (run_of_shift day.case.now t.0)))) where
      under_same : (u : Shift) (k : Skill) → u.0 < shift_count day.case.now → t.0 ≡ u.0 → after.ways.stay ≤ apart_of day true (offer (Work u k)) → IsUnder day worked completion_bound (offer (Work u k))
      under_same u k of_case e way_on _ = omega (arith, stays, way_on, cost_same u k of_case e, ap (next_at day) (index_same u k of_case e))

      under_other : (u : Shift) (k : Skill) → u.0 < shift_count day.case.now → t.0 ≢ u.0 → HasWay day (offer (Work u k)) u after.ways → IsUnder day worked completion_bound (offer (Work u k))
      under_other u k of_case e has _ =
          let there = index_other u k of_case e ∙ sym (begun_moved day u of_case (way_at after.ways.others has.at).index to has.way.index) in
          omega (arith, leaves, leave_on has.at has.below, has.way.price, cost_other u k of_case e, ap (next_at day) there)

      pub under_shift : (choice : Choice) → is_choice_of day.case.now choice ≡ true → IsWayOn day t after.ways (offer choice) (shift_of choice) → IsUnder day worked completion_bound (offer choice)
      under_shift Off of_case way_on _ = omega (arith, leaves, leave_off, follows.off, way_on, cost_rest, ap (next_at day) index_rest)
      under_shift (Work u k) of_case way_on allowed =
          let within = shift_of_case day.case.now (Work u k) of_case in
          ⊎_elim (λ e. under_same u k within e ((way_on allowed).0 e) allowed) (λ e. under_other u k within e ((way_on allowed).1 e) allowed) (cases_eq t.0 u.0)

pub off_under : (day : CompletionDay) (after : AfterOff) → IsAfterOff day after → (run completion_bound : ℕ) → IsOffCompletionBound day after run completion_bound → (q : ℕ) → UnderCell day 0 run q completion_bound
off_under day after follows run completion_bound lies q None a w is k m =
    let offer = offer_on day k in
    under_off day run q a w offer.price after completion_bound lies offer.choice (of_day day k m).choice (follows.entries k m)
off_under day after follows run completion_bound lies q (Some u) a w is k m = absurd (omega (arith, is))
