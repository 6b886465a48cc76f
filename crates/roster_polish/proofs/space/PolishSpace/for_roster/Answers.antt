use Rattle.std.proofs.Common.{◌≡◌, ◌<◌, arith, replicate, rules, subst, sym, true}
use Rattle.std.specs.Prelude.{All}
use Rattle.std.proofs.lemmas.List.Elements.{All-replicate}
use Rattle.roster_instance.specs.Meaning.{nurse_count}
use Rattle.roster_instance.specs.Rosters.{Rows, fits_case}
use Rattle.roster_polish.proofs.space.PolishSpace.for_roster.Goals as goal

pub returns : goal.returns
returns g c =
    let zeros : c.in_ok-vec-2.field-0.items ≡ replicate c.nurses.result 0 = search rules in
    let copied = λ (rows : Rows) (is : rows ≡ c.args.roster.now). subst (λ (r : Rows). fits_case c.args.case.now r ≡ true) (sym is) c.requires in
    record {
      bounds = c.in_ok-for_case.ensures.fits;
      recalls = c.in_ok-for_case-2.ensures.recalls;
      kept_recalls = c.in_ok-for_case-3.ensures.recalls;
      dearer = omega (arith, c.in_ok-vec.ensures.len, c.in_ok-vec.field-0.ok.0, c.days.ensures.count);
      kept = copied c.in_ok-copy.field-0 c.in_ok-copy.ensures;
      fade_prices = c.in_ok-even.ensures.days;
      fade_recalls = (1, c.in_ok-for_case-4.ensures.recalls);
      faded = copied c.in_ok-copy-2.field-0 c.in_ok-copy-2.ensures;
      best = copied c.in_ok-copy-3.field-0 c.in_ok-copy-3.ensures;
      first_prices = c.in_ok-even-2.ensures.days;
      count = omega (arith, c.in_ok-vec-2.ensures.len, c.in_ok-vec-2.field-0.ok.0, c.nurses.ensures.count);
      order = subst (All (λ n. n < nurse_count c.args.case.now)) (sym zeros) (All-replicate (λ n. n < nurse_count c.args.case.now) c.nurses.result 0 (omega (arith, c.nurses.ensures.some, c.nurses.ensures.count)));
    }
