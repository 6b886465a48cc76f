use Rattle.std.proofs.Common.{◌≡◌, ◌∙◌, ap, arith, refl, rules, subst, sym, true}
use Rattle.std.proofs.lemmas.Bool.{and_left, and_right, le-leb, lt-leb, true≢false}
use Rattle.roster_instance.specs.Meaning.{Meaning}
use Rattle.roster_case.specs.Held.{HeldRoster}
use Rattle.roster_offers.specs.Workspaces.{fits_space}
use Rattle.roster_row.specs.Recalled.{RecallsSearches}
use Rattle.roster_rules.specs.Penalties.{penalty}
use Rattle.roster_laws.proofs.Frozen.{stays_on, stays_self}
use Rattle.roster_polish.specs.Descents.{Descends}
use Rattle.roster_polish.specs.Polished.{FitsPolish}
use Rattle.roster_polish.specs.declared.space.PolishSpace.{PolishSpace}
use Rattle.roster_polish.proofs.Memory.{fits_with}
use Rattle.roster_polish.proofs.stay.stay_if_no_dearer.Goals as goal
use Rattle.roster_polish.proofs.stay.stay_if_no_dearer.Goals.{else-settled-via-else-settled, else-settled-via-then-settled+else-total-aim}

pub descend-settled-requires : goal.descend-settled-requires
descend-settled-requires g c = record { fits = c.requires.able.fits.bounds.rows.search; recalls = c.requires.able.fits.recalls; room = c.requires.able.room }

-- the memory serves after a descent, which writes into the workspace and the last searches alone
descent_fits : {T : Type 0} (k : Meaning) (w : PolishSpace T) (s : _) (l : _) → FitsPolish k w → fits_space k s ≡ true → RecallsSearches k l
    → FitsPolish k (record w { bounds = record w.bounds { rows = record w.bounds.rows { workspace = s } }; last = l })
descent_fits k w s l fits search recalls =
    fits_with k w fits (record w.bounds { rows = record w.bounds.rows { workspace = s } }) l w.best
    (record {
      rows = record { search = search; cover = fits.bounds.rows.cover };
      dual_prices = fits.bounds.dual_prices;
      aside = fits.bounds.aside;
      subgradient = fits.bounds.subgradient;
      direction = fits.bounds.direction;
      pool = fits.bounds.pool;
    })
    recalls fits.best

-- ---- it stays

pub keep-requires : goal.keep-requires
keep-requires g c = rw c.descend-settled.ensures.case (descent_fits c.args.held.now.case c.args.space.now c.descend-settled.new.workspace c.descend-settled.new.last c.requires.able.fits c.descend-settled.ensures.fits c.descend-settled.ensures.recalls)

pub returns-then-total-aim : goal.returns-then-total-aim
returns-then-total-aim g c =
    let k = c.args.held.now.case in
    let week = c.args.aim.from in
    let last = c.descend-settled in
    let next = last.new.held.roster in
    record {
      tried = record {
        case = last.ensures.case;
        kept = search rules;
        stayed = λ e. last.ensures.descent.is_settled c.if-settled.true;
        back = λ e. absurd (true≢false e);
        frozen = stays_on k week c.args.space.now.kept c.args.held.now.roster next c.requires.frozen last.ensures.frozen;
        no_dearer = omega (arith, c.total.ensures.total, c.requires.penalty, c.if-total-aim.true, ap (λ (m : Meaning). penalty m next) last.ensures.case);
        spends = last.ensures.spends;
        fits = rw (← last.ensures.case) (search rules);
      };
      decided = record {
        reached = next;
        settled = true;
        descends = subst (Descends k week c.args.aim.penalty last.new.searches c.args.held.now.roster next) c.if-settled.true last.ensures.descent;
        stays = sym (le-leb (penalty k next) c.args.aim.penalty (omega (arith, c.total.ensures.total, c.if-total-aim.true, ap (λ (m : Meaning). penalty m next) last.ensures.case)));
        holds = λ e. refl;
      };
      faded = c.keep.ensures.faded;
      best = c.keep.ensures.best;
    }

-- ---- it doesn't

pub replace_rows-requires : goal.replace_rows-requires
replace_rows-requires g c = rw c.descend-settled.ensures.case (record { fits = c.requires.able.fits.kept; keeps = c.requires.keeps })

pub put-requires : goal.put-requires
put-requires g c = (c.args.held.now.case, c.descend-settled.ensures.recalls, c.requires.able.fits.kept_recalls)

pub returns-else-settled : goal.returns-else-settled
returns-else-settled g c =
    let k = c.args.held.now.case in
    let logged = c.descend-settled.ensures in
    let fits = c.requires.able.fits in
    let back : c.replace_rows.new.self.roster ≡ c.args.space.now.kept = ap (λ (h : HeldRoster). h.roster) c.replace_rows.ensures in
    record {
      tried = record {
        case = ap (λ (h : HeldRoster). h.case) c.replace_rows.ensures ∙ logged.case;
        kept = sym back;
        stayed = λ e. absurd (true≢false (sym e));
        back = λ e. back;
        frozen = rw back (stays_self k c.args.aim.from c.args.space.now.kept);
        no_dearer = omega (arith, ap (penalty k) back);
        spends = logged.spends;
        fits = descent_fits k c.args.space.now c.descend-settled.new.workspace c.put.new.self fits logged.fits (c.put.ensures.recalls k fits.kept_recalls);
      };
      decided = record {
        reached = c.descend-settled.new.held.roster;
        settled = c.descend-settled.result;
        descends = logged.descent;
        stays = sym (elim c.else-settled.branch [
          | else-settled-via-then-settled+else-total-aim w ↦ and_right c.descend-settled.result _
              (lt-leb (penalty k c.descend-settled.new.held.roster) c.args.aim.penalty (omega (arith, w.total.ensures.total, w.if-total-aim.false, ap (λ (m : Meaning). penalty m c.descend-settled.new.held.roster) logged.case)))
          | else-settled-via-else-settled w ↦ and_left c.descend-settled.result _ w.if-settled.false
        ]);
        holds = λ e. absurd (true≢false (sym e));
      };
      faded = refl;
      best = refl;
    }
