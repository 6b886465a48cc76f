use Rattle.std.proofs.Common.{◌≡◌, ◌≢◌, ◌∙◌, ◌++◌, ◌<◌, ◌≤◌, arith, inl, inr, refl, rules, subst, sym, true}
use Rattle.std.proofs.lemmas.Bool.{true≢false}
use Rattle.roster_instance.specs.Meaning.{Meaning}
use Rattle.roster_offers.specs.Workspaces.{fits_space}
use Rattle.roster_row.specs.Recalled.{RecallsSearches}
use Rattle.roster_rules.specs.Penalties.{penalty}
use Rattle.roster_laws.specs.FrozenDays.{FrozenDaysStay}
use Rattle.roster_laws.proofs.Frozen.{stays_on, stays_self}
use Rattle.roster_polish.specs.declared.descend.Pass.{Pass}
use Rattle.roster_polish.specs.declared.descend.Pass.TheVariants.{Changed, Stopped, Unchanged}
use Rattle.roster_laws.specs.Settled.{HasBestRow}
use Rattle.roster_polish.specs.Settled.{Spends}
use Rattle.std.specs.List.{range_with_len}
use Rattle.roster_polish.specs.Descents.{IsPass}
use Rattle.roster_polish.proofs.Passes.{StepsTo, all_stepped, lead_then, no_steps, steps_then}
use Rattle.roster_polish.proofs.Steps.{rest_fits_meter, spent_both, spent_none}
use Rattle.roster_polish.proofs.descend.descend.Goals as goal
use Rattle.roster_polish.proofs.descend.descend.Goals.{After-make_pass-end, else-first-eq0-via-then-first-eq0+else-eq, else-first-eq0-via-else-first-eq0, then-eq-2-via-then-eq-2, then-eq-2-via-else-eq-2+then-total-saturating_add}

pub loop-pass-init : goal.loop-pass-init
loop-pass-init g c = record {
  case = refl;
  steps = no_steps c.args.held.now.case c.args.aim.from c.args.held.now.roster;
  frozen = stays_self c.args.held.now.case c.args.aim.from c.args.held.now.roster;
  first = inl refl;
  fallen = omega arith;
  no_dearer = omega arith;
  spends = spent_none c.args.held.now.case c.args.meter.now c.args.searches.now.left;
  fits = c.requires.fits;
  recalls = c.requires.recalls;
}

pub make_pass-end-requires : goal.make_pass-end-requires
make_pass-end-requires g c =
    let k = c.args.held.now.case in
    let l = c.loop-pass in
    let i = l.invariant in
    record {
      fits = rw i.case i.fits;
      recalls = subst (λ (m : Meaning). RecallsSearches m l.last) (sym i.case) i.recalls;
      room = rw i.case (rest_fits_meter k c.args.meter.now c.args.searches.now.left l.meter l.searches.left 18446744073709551615 i.spends c.requires.room);
    }

-- ---- after a pass

-- the pass, by the given case
pass : (g : _) (c : After-make_pass-end g) → IsPass c.args.held.now.case c.args.aim.from c.loop-pass.first c.loop-pass.held.roster c.make_pass-end.new.held.roster c.make_pass-end.result
pass g c =
    let l = c.loop-pass in
    subst (λ (m : Meaning). IsPass m c.args.aim.from l.first l.held.roster c.make_pass-end.new.held.roster c.make_pass-end.result) l.invariant.case c.make_pass-end.ensures.steps

steps : (g : _) (c : After-make_pass-end g) → StepsTo c.args.held.now.case c.args.aim.from c.args.held.now.roster c.make_pass-end.new.held.roster
steps g c =
    let l = c.loop-pass in
    let made = pass g c in
    steps_then c.args.held.now.case c.args.aim.from c.args.held.now.roster l.held.roster c.make_pass-end.new.held.roster l.invariant.steps (range_with_len l.first made.count) made.steps

frozen : (g : _) (c : After-make_pass-end g) → FrozenDaysStay c.args.held.now.case c.args.aim.from c.args.held.now.roster c.make_pass-end.new.held.roster
frozen g c =
    let k = c.args.held.now.case in
    let l = c.loop-pass in
    let next = c.make_pass-end.new.held.roster in
    stays_on k c.args.aim.from c.args.held.now.roster l.held.roster next l.invariant.frozen
    (subst (λ (m : Meaning). FrozenDaysStay m c.args.aim.from l.held.roster next) l.invariant.case c.make_pass-end.ensures.frozen)

no_dearer : (g : _) (c : After-make_pass-end g) → penalty c.args.held.now.case c.make_pass-end.new.held.roster ≤ penalty c.args.held.now.case c.args.held.now.roster
no_dearer g c =
    let k = c.args.held.now.case in
    let l = c.loop-pass in
    let next = c.make_pass-end.new.held.roster in
    let pass : penalty k next ≤ penalty k l.held.roster = subst (λ (m : Meaning). penalty m next ≤ penalty m l.held.roster) l.invariant.case c.make_pass-end.ensures.no_dearer in
    omega (arith, l.invariant.no_dearer)

spends : (g : _) (c : After-make_pass-end g) → Spends c.args.held.now.case c.args.meter.now c.args.searches.now.left c.make_pass-end.new.meter c.make_pass-end.new.searches.left
spends g c =
    let l = c.loop-pass in
    let end = c.make_pass-end.new in
    spent_both c.args.held.now.case c.args.meter.now c.args.searches.now.left l.meter l.searches.left end.meter end.searches.left l.invariant.spends
    (subst (λ (m : Meaning). Spends m l.meter l.searches.left end.meter end.searches.left) l.invariant.case c.make_pass-end.ensures.spends)

fits : (g : _) (c : After-make_pass-end g) → fits_space c.args.held.now.case c.make_pass-end.new.workspace ≡ true
fits g c = subst (λ (m : Meaning). fits_space m c.make_pass-end.new.workspace ≡ true) c.loop-pass.invariant.case c.make_pass-end.ensures.fits

recalls : (g : _) (c : After-make_pass-end g) → RecallsSearches c.args.held.now.case c.make_pass-end.new.last
recalls g c = subst (λ (m : Meaning). RecallsSearches m c.make_pass-end.new.last) c.loop-pass.invariant.case c.make_pass-end.ensures.recalls

-- a pass that changed the roster made it cheaper
fell : (g : _) (c : After-make_pass-end g) → c.make_pass-end.result ≡ Changed → penalty c.args.held.now.case c.make_pass-end.new.held.roster < penalty c.args.held.now.case c.loop-pass.held.roster
fell g c changed =
    let next = c.make_pass-end.new.held.roster in
    subst (λ (m : Meaning). penalty m next < penalty m c.loop-pass.held.roster) c.loop-pass.invariant.case (c.make_pass-end.ensures.falls changed)

same : (g : _) (c : After-make_pass-end g) → c.make_pass-end.new.held.case ≡ c.args.held.now.case
same g c = c.make_pass-end.ensures.case ∙ c.loop-pass.invariant.case

changed_of : (end : Pass) → (end ≡ Unchanged → ⊥) → (end ≡ Stopped → ⊥) → end ≡ Changed
changed_of Unchanged moved going = absurd (moved refl)
changed_of Changed moved going = refl
changed_of Stopped moved going = absurd (going refl)

pub returns-then-eq : goal.returns-then-eq
returns-then-eq g c =
    let k = c.args.held.now.case in
    let l = c.loop-pass in
    let i = l.invariant in
    let logged = c.make_pass-end.ensures in
    let here = (goal.at.returns-then-eq g c).After-make_pass-end in
    let next = c.make_pass-end.new.held.roster in
    let unchanged : c.make_pass-end.result ≡ Unchanged = search rules in
    record {
      case = logged.case ∙ i.case;
      descent = record {
        nurses = (steps g here).nurses;
        steps = (steps g here).steps;
        is_settled = λ e n inside.
            subst (λ (m : Meaning). HasBestRow m c.args.aim.from next n) i.case (logged.unchanged unchanged n (omega (arith, c.if-first-eq0.true)) (rw i.case inside));
        given_up = λ e. absurd (true≢false e);
      };
      frozen = frozen g here;
      no_dearer = no_dearer g here;
      spends = spends g here;
      fits = fits g here;
      recalls = recalls g here;
    }

pub returns-then-eq-2 : goal.returns-then-eq-2
returns-then-eq-2 g c =
    let here = (goal.at.returns-then-eq-2 g c).After-make_pass-end in
    record {
      case = c.make_pass-end.ensures.case ∙ c.loop-pass.invariant.case;
      descent = record {
        nurses = c.loop-pass.invariant.steps.nurses ++ range_with_len c.loop-pass.first (pass g here).count;
        steps = lead_then c.args.held.now.case c.args.aim.from c.args.held.now.roster c.loop-pass.held.roster c.make_pass-end.new.held.roster c.loop-pass.invariant.steps.nurses (range_with_len c.loop-pass.first (pass g here).count) c.loop-pass.invariant.steps.steps (pass g here).steps;
        is_settled = λ e. absurd (true≢false (sym e));
        given_up = λ e. elim c.then-eq-2.branch [
          | then-eq-2-via-then-eq-2 w ↦ (let ended : c.make_pass-end.result ≡ Stopped = search rules in inl (c.make_pass-end.ensures.stopped ended))
          | then-eq-2-via-else-eq-2+then-total-saturating_add w ↦ (
              let going : c.make_pass-end.result ≢ Stopped = search rules in
              let first : c.loop-pass.first ≡ 0 = elim c.loop-pass.invariant.first [
                | inl begun ↦ absurd (omega (arith, begun, w.slack.ensures.first begun, w.total.type_inv, w.if-total-saturating_add.true, w.saturating_add.ensures))
                | inr all ↦ all
              ] in
              inr (inl (
                all_stepped c.args.held.now.case c.loop-pass.invariant.steps.nurses c.loop-pass.first (pass g here).count first ((pass g here).all first going),
                rw (← same g here) (omega (arith, w.total.ensures.total, w.if-total-saturating_add.true, w.saturating_add.ensures, w.total.type_inv)),
              )))
        ];
      };
      frozen = frozen g here;
      no_dearer = no_dearer g here;
      spends = spends g here;
      fits = fits g here;
      recalls = recalls g here;
    }

pub loop-pass-preserved : goal.loop-pass-preserved
loop-pass-preserved g c =
    let k = c.args.held.now.case in
    let l = c.loop-pass in
    let here = (goal.at.loop-pass-preserved g c).After-make_pass-end in
    record {
      case = c.make_pass-end.ensures.case ∙ c.loop-pass.invariant.case;
      steps = steps g here;
      frozen = frozen g here;
      first = inr refl;
      fallen = elim l.invariant.first [
        | inl begun ↦ omega (arith, begun, no_dearer g here)
        | inr all ↦ elim c.else-first-eq0.branch [
          | else-first-eq0-via-then-first-eq0+else-eq w ↦ (let moved : c.make_pass-end.result ≡ Changed = changed_of c.make_pass-end.result (search rules) (search rules) in omega (arith, l.invariant.fallen, fell g here moved))
          | else-first-eq0-via-else-first-eq0 w ↦ absurd (w.if-first-eq0.false all)
        ]
      ];
      no_dearer = no_dearer g here;
      spends = spends g here;
      fits = fits g here;
      recalls = recalls g here;
    }

pub returns : goal.returns
returns g c =
    let i = c.loop-pass.invariant in
    record {
      case = i.case;
      descent = record { nurses = i.steps.nurses; steps = i.steps.steps; is_settled = λ e. absurd (true≢false (sym e)); given_up = λ e. inr (inr (omega (arith, i.fallen, c.loop-pass-test.false))) };
      frozen = i.frozen;
      no_dearer = i.no_dearer;
      spends = i.spends;
      fits = i.fits;
      recalls = i.recalls;
    }
