-- How much a search counts, one stage after another.
use Rattle.std.proofs.Common.{◌≡◌, ◌+◌, ◌-◌, ◌*◌, ◌≤◌, ℕ, List, arith, refl}
use Rattle.std.proofs.lemmas.Nat.{mul-le}
use Rattle.roster_instance.specs.Meaning.{Meaning, day_count}
use Rattle.roster_offers.specs.declared.offer.Offer.{Offer}
use Rattle.roster_completion.specs.CompletionBounds.{completion_extensions}
use Rattle.roster_partial.specs.Counts.{CountsPartial, CountsSets, ladder_limits, most_closer, most_first, most_limits, most_sets, rows_kept}
use Rattle.roster_partial.specs.Rates.{most_offers}

-- one limit more, each with that many extensions at most, and all of them
pub limit_more : (from now after tried most : ℕ) → now ≤ from + tried * most → after ≤ now + most → after ≤ from + (tried + 1) * most
limit_more from now after tried most so_far here =
    let more : (tried + 1) * most ≡ tried * most + most = omega arith in
    omega (arith, so_far, here, more)

pub limits_within : (from now tried limits most : ℕ) → tried ≤ limits → now ≤ from + tried * most → now ≤ from + limits * most
limits_within from now tried limits most few so_far = omega (arith, so_far, mul-le tried most limits most few (omega arith))

module _ (c : Meaning) (n : ℕ) (offers : ℕ → List Offer) where
  -- the extensions of a row that is followed
  abbrev row : ℕ
  row = most_offers * day_count c

  -- nothing
  pub no_set : (now : ℕ) → CountsSets c n offers 0 0 now now
  no_set now = record { sets = 0; followed = 0; few = omega arith; brief = omega arith; counted = omega arith }

  -- one row is followed
  pub one_row : (before after : ℕ) → (before ≤ after) × (after ≤ before + row) → CountsSets c n offers 0 1 before after
  one_row before after more = record { sets = 0; followed = after - before; few = omega arith; brief = omega (arith, more.1); counted = omega (arith, more.0) }

  -- the completion bounds are set once
  pub one_set : (before after : ℕ) → after ≡ before + completion_extensions c n offers → CountsSets c n offers 1 0 before after
  one_set before after is = record { sets = 1; followed = 0; few = omega arith; brief = omega arith; counted = omega (arith, is) }

  -- one stage after another
  pub sets_more : {first second rows others before between after : ℕ} → CountsSets c n offers first rows before between → CountsSets c n offers second others between after → CountsSets c n offers (first + second) (rows + others) before after
  sets_more {rows = rows} {others = others} one more =
      let size = completion_extensions c n offers in
      let all : (one.sets + more.sets) * size ≡ one.sets * size + more.sets * size = omega arith in
      let both : (rows + others) * row ≡ rows * row + others * row = omega arith in
      record { sets = one.sets + more.sets; followed = one.followed + more.followed; few = omega (arith, one.few, more.few); brief = omega (arith, one.brief, more.brief, both); counted = omega (arith, one.counted, more.counted, all) }

  -- no more than a larger number
  pub sets_within : {few most rows others before after : ℕ} → few ≤ most → rows ≤ others → CountsSets c n offers few rows before after → CountsSets c n offers most others before after
  sets_within {rows = rows} {others = others} less fewer is =
      record { sets = is.sets; followed = is.followed; few = omega (arith, is.few, less); brief = omega (arith, is.brief, mul-le rows row others row fewer (omega arith)); counted = is.counted }

  -- if nothing was begun
  pub no_partial : (cells now : ℕ) → CountsPartial cells c n offers now now
  no_partial cells now = record {
    bounds = 0;
    rows = 0;
    completion_bounds = record { sets = 0; followed = 0; few = omega arith; brief = omega arith; counted = omega arith };
    few = omega arith;
    counted = omega arith;
  }

  -- what takes no more for completion bounds is within what all of them take, wherever it begins
  moved : {few most rows others from to before : ℕ} → few ≤ most → rows ≤ others → (is : CountsSets c n offers few rows from to) → (more : ℕ) → more ≡ is.sets * completion_extensions c n offers + is.followed → CountsSets c n offers most others before (before + more)
  moved {rows = rows} {others = others} less fewer is more all =
      record { sets = is.sets; followed = is.followed; few = omega (arith, is.few, less); brief = omega (arith, is.brief, mul-le rows row others row fewer (omega arith)); counted = omega (arith, all) }

  -- the first completion bounds, and limits with them
  pub first_limits : (cells before set after : ℕ) → CountsSets c n offers most_first most_first before set → set ≤ after → after ≤ set + ladder_limits * (most_offers * rows_kept cells) → CountsPartial cells c n offers before after
  first_limits cells before set after first from rows =
      let size = completion_extensions c n offers in
      let few : after - set ≤ most_limits * (most_offers * rows_kept cells) = omega (arith, rows) in
      record {
        bounds = first.sets * size + first.followed;
        rows = after - set;
        completion_bounds = moved (omega arith) (omega arith) first (first.sets * size + first.followed) refl;
        few = few;
        counted = omega (arith, first.counted, from);
      }

  -- closer ones after that, and limits with them
  pub closer_limits : (cells before set tried closer after : ℕ)
      → CountsSets c n offers most_first most_first before set → set ≤ tried → tried ≤ set + ladder_limits * (most_offers * rows_kept cells)
      → CountsSets c n offers most_closer most_closer tried closer → closer ≤ after → after ≤ closer + ladder_limits * (most_offers * rows_kept cells)
      → CountsPartial cells c n offers before after
  closer_limits cells before set tried closer after first from rows more onward others =
      let size = completion_extensions c n offers in
      let all : (first.sets + more.sets) * size ≡ first.sets * size + more.sets * size = omega arith in
      let followed : most_sets * row ≡ most_first * row + most_closer * row = omega arith in
      let bounds = (first.sets + more.sets) * size + (first.followed + more.followed) in
      record {
        bounds = bounds;
        rows = (tried - set) + (after - closer);
        completion_bounds = record {
          sets = first.sets + more.sets;
          followed = first.followed + more.followed;
          few = omega (arith, first.few, more.few);
          brief = omega (arith, first.brief, more.brief, followed);
          counted = omega arith;
        };
        few = omega (arith, rows, others);
        counted = omega (arith, first.counted, more.counted, from, onward, all);
      }
